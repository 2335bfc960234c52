-- What is promised of programs and their graphs.
use Rattle.std.specs.Prelude.{◌≡◌, ◌↔◌, ℕ, List, [], All, Some}
use Rattle.cbase.specs.declared.place.Place.{Place}
use Rattle.cbase.specs.declared.tree.stmt.Stmt.{Stmt}
use Rattle.bytes_core.specs.declared.block.Block.{Block}
use Rattle.bytes_core.specs.declared.word.Word.{Word}
use Rattle.choices.specs.declared.choice.Choice.{Choice}
use Rattle.c_machine.specs.Program.{Program}
use Rattle.c_machine.specs.Run.{Leads}
use Rattle.c_machine.specs.State.{TaskIn, Went}
use Rattle.c_machine.specs.Text.{Function}
use Rattle.c_machine.specs.Trees.{text_of}
use Rattle.flow.specs.declared.flow_graph.Flow.{Flow}
use Rattle.flow.specs.Holding.{Held}
use Rattle.flow.specs.Machine as graph
use Rattle.flow.specs.Memories.{HasInitialOffset}
use Rattle.flow.specs.Runs.{start, run, then_go}
use Rattle.flow.specs.RunStates.{IsRunState}
use Rattle.flow.specs.Valid.{IsFlow}
use Rattle.simulation.specs.Agreeing.{Agree}
use Rattle.simulation.specs.Functions.{AreFunctionsLowered}
use Rattle.simulation.specs.Lowered.{Lowered}
use Rattle.simulation.specs.Names.{Name}
use Rattle.simulation.specs.Running.{Setting, Running}
use Rattle.simulation.specs.Slots.{Slot, Holds}
use Rattle.simulation.specs.Starting.{IsProgramLowered}
use Rattle.simulation.specs.Worlds.{World, Side, AreAlike, source, state}

-- from a point at which the rest of a run is lowered both machines meet the same faults, where no function waits for a call
abbrev pub DoLoweredRunsAgree : Type 0
DoLoweredRunsAgree =
    (p : Program) (flow : Flow) (setting : Setting) (running : Running) (scopes : List (List Name)) (tasks : List (TaskIn (text_of p))) (slots : List Slot) (point n : ℕ)
    (operands : List Word) (registers : List Held) (w : World (text_of p)) (v : Side) (memory : List Block) (choices : List Choice) →
    IsFlow flow → AreFunctionsLowered (text_of p) flow setting → Lowered (text_of p) flow setting running [] [] scopes tasks slots point →
    Holds memory registers slots operands → AreAlike (text_of p) setting running scopes w v → w.callers ≡ [] → IsRunState flow (state point registers v memory) →
    Agree (text_of p) flow n (Went (source (text_of p) tasks operands w memory) choices) (graph.Went (state point registers v memory) choices)

-- with these choices the run of a graph meets this fault
abbrev pub GraphLeads : Flow → List Choice → ℕ → Place → Type 0
GraphLeads flow choices kind place = (steps : ℕ) × (then_go (start flow choices) (run steps flow) ≡ graph.Faulted kind place)

-- a program and a graph that belongs to it meet the same faults, with the same choices
abbrev pub DoProgramsMeet : Type 0
DoProgramsMeet =
    (p : Program) (flow : Flow) (setting : Setting) (main : Function Stmt) → IsFlow flow → All (λ scalar. HasInitialOffset scalar.word) flow.initial →
    (text_of p).main ≡ Some main → IsProgramLowered (text_of p) flow setting main →
    (choices : List Choice) (kind : ℕ) (place : Place) → Leads (text_of p) choices kind place ↔ GraphLeads flow choices kind place
