-- What a program and its graph begin with: static objects and variables, what these hold at the start, and main.
use Rattle.std.specs.Prelude.{◌≡◌, ℕ, ◌+◌, Bool, true, false, List, [], ◌∷◌, map, length}
use Rattle.choices.specs.declared.choice.Choice.{Choice}
use Rattle.c_machine.specs.declared.object.Object.{Object}
use Rattle.c_machine.specs.declared.task.Task.TheVariants.{Initialise}
use Rattle.c_machine.specs.Run.{done_within}
use Rattle.c_machine.specs.State.{Scope, Went}
use Rattle.c_machine.specs.Text.{Function, Text}
use Rattle.flow.specs.declared.flow_graph.Flow.{Flow}
use Rattle.flow.specs.declared.flow_graph.Variable.{Variable}
use Rattle.flow.specs.InRange.{entry_of}
use Rattle.flow.specs.Machine as graph
use Rattle.flow.specs.Runs.{blank, with_statics, with_initials}
use Rattle.simulation.specs.Functions.{AreFunctionsLowered, IsMainLowered}
use Rattle.simulation.specs.Names.{Name}
use Rattle.simulation.specs.Running.{Setting}
use Rattle.simulation.specs.Worlds.{AreNames}

-- The static variables are the objects that live as long as the program runs, in order; the first variable is numbered `number`.
abbrev pub IsFixed : Bool → ℕ → ℕ → List Object → List Name → (List Object → List Name → Type 0) → Type 0
IsFixed false size number objects names rest = rest objects names
IsFixed true size number [] names rest = ⊥
IsFixed true size number (object ∷ objects) [] rest = ⊥
IsFixed true size number (object ∷ objects) (name ∷ names) rest =
    (size ≡ object.bytes) × (object.token ≡ name.token) × (name.variable ≡ number) × rest objects names

abbrev pub AreFixed : ℕ → List Variable → List Object → List Name → Type 0
AreFixed number [] [] [] = Unit {0}
AreFixed number [] [] (name ∷ names) = ⊥
AreFixed number [] (object ∷ objects) names = ⊥
AreFixed number (variable ∷ variables) objects names = IsFixed variable.fixed variable.size number objects names (AreFixed (number + 1) variables)

-- Once they are made, the initialisers write what the graph begins with, in as many steps as are left.
pub record AreStaticsLowered (t : Text) (flow : Flow) (setting : Setting) : Type 0 where
  pub fixed : AreFixed 0 flow.variables t.statics setting.statics
  pub steps : ℕ
  pub enough : t.enough ≡ length t.statics + steps
  pub written : (made : graph.State) (statics : Scope) (choices more : List Choice) →
      with_statics 0 flow.variables (blank (entry_of flow flow.main)) choices ≡ graph.Went made more → AreNames made.statics setting.statics statics →
      done_within steps t
      (record { tasks = map (λ set. Initialise set.place set.init) t.sets; operands = []; frame = []; callers = []; statics = statics; memory = made.memory }) more
      ≡ Went (record { tasks = []; operands = []; frame = []; callers = []; statics = statics; memory = with_initials made.statics flow.initial made.memory }) more

-- a program and its graph
pub record IsProgramLowered (t : Text) (flow : Flow) (setting : Setting) (main : Function t.Stmt) : Type 0 where
  pub statics : AreStaticsLowered t flow setting
  pub functions : AreFunctionsLowered t flow setting
  pub begins : IsMainLowered t flow setting main
