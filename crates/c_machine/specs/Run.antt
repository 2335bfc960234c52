-- Runs: how a program starts, what stands after so many steps, and which faults are met.
use Rattle.std.specs.Prelude.{◌≡◌, ℕ, zero, suc, List, [], ◌∷◌, ◌++◌, map, Option, None, Some}
use Rattle.cbase.specs.declared.place.Place.{Place}
use Rattle.choices.specs.declared.choice.Choice.{Choice}
use Rattle.c_machine.specs.Text.{Function, Text}
use Rattle.c_machine.specs.declared.task.Task.{Task}
use Rattle.c_machine.specs.declared.task.Task.TheVariants.{OpenBlock, MakeObject, MakeStatic, Initialise}
use Rattle.c_machine.specs.State.{TaskIn, State, StateIn, Outcome, OutcomeIn, Went, Waits, Ended, Faulted, Stuck}
use Rattle.c_machine.specs.Calls.{body_tasks}
use Rattle.c_machine.specs.Step.{step}

-- goes on from what a step left
abbrev pub then_go : {E S I : Type 0} → Outcome E S I → (State E S I → List Choice → Outcome E S I) → Outcome E S I
then_go (Went state choices) onward = onward state choices
then_go Waits onward = Waits
then_go Ended onward = Ended
then_go (Faulted kind place) onward = Faulted kind place
then_go Stuck onward = Stuck

-- what stands after at most so many steps, with the choices taken in order
abbrev pub run : ℕ → (t : Text) → StateIn t → List Choice → OutcomeIn t
run zero t state choices = Went state choices
run (suc steps) t state choices = then_go (step t state choices) (run steps t)

-- a state in which nothing is made, with so much to do
abbrev pub blank : (t : Text) → List (TaskIn t) → StateIn t
blank t tasks = record { tasks = tasks; operands = []; frame = []; callers = []; statics = []; memory = [] }

-- objects that live as long as the program runs are made, those of the file first, each with a choice of its own; then their initialisers are written (C11
-- 5.1.2p1, 6.2.4p3)
abbrev pub static_tasks : (t : Text) → List (TaskIn t)
static_tasks t = map MakeStatic t.statics ++ map (λ set. Initialise set.place set.init) t.sets

-- then main is called, whose parameters have any values (5.1.2.2.1)
abbrev pub main_tasks : (t : Text) → Function t.Stmt → List (TaskIn t)
main_tasks t main = OpenBlock ∷ (map (λ param. MakeObject param.object) main.params ++ body_tasks t main 0)

-- what is to be done is done to its end. An initialiser is as deep as it is: so many steps are enough, or it is never done
abbrev pub finished : {E S I : Type 0} → List (Task E S I) → State E S I → List Choice → (State E S I → List Choice → Outcome E S I) → Outcome E S I
finished [] state choices onward = Went state choices
finished (task ∷ tasks) state choices onward = onward state choices

abbrev pub done_within : ℕ → (t : Text) → StateIn t → List Choice → OutcomeIn t
done_within zero t state choices = finished state.tasks state choices (λ after more. Stuck)
done_within (suc steps) t state choices = finished state.tasks state choices (λ after more. then_go (step t after more) (done_within steps t))

-- the start of a run, where the initialisers of static objects are written in so many steps
abbrev pub start_main : (t : Text) → ℕ → Option (Function t.Stmt) → List Choice → OutcomeIn t
start_main t steps None choices = Stuck
start_main t steps (Some main) choices =
    then_go (done_within steps t (blank t (static_tasks t)) choices) (λ state more. Went (record state { tasks = main_tasks t main }) more)

abbrev pub start : (t : Text) → List Choice → OutcomeIn t
start t choices = start_main t t.enough t.main choices

-- what stands after at most so many steps from the start
abbrev pub run_of : (t : Text) → List Choice → ℕ → OutcomeIn t
run_of t choices steps = then_go (start t choices) (run steps t)

-- with these choices the run comes to that; and it meets this fault
abbrev pub Comes : (t : Text) → List Choice → OutcomeIn t → Type 0
Comes t choices outcome = (steps : ℕ) × (run_of t choices steps ≡ outcome)

abbrev pub Leads : Text → List Choice → ℕ → Place → Type 0
Leads t choices kind place = Comes t choices (Faulted kind place)

-- a program is sound where no choices lead to a fault
abbrev pub IsSound : Text → Type 0
IsSound t = (choices : List Choice) (kind : ℕ) (place : Place) → Leads t choices kind place → ⊥
