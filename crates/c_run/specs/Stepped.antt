-- What a step and a run come to, where the types of which they speak are kept.
use Rattle.std.specs.Prelude.{◌≡◌, ◌<◌, ℕ, zero, suc, Bool, true, false, ◌&&◌, List, [], ◌∷◌, length, Option, None, Some, slice_get}
use Rattle.choices.specs.declared.choice.Choice.{Choice}
use Rattle.c_machine.specs.declared.kind.Kind.{Kind}
use Rattle.c_machine.specs.declared.task.Task.TheVariants.{ValueOf, AddressOf, Pick, Execute, Initialise, CallDefined}
use Rattle.c_machine.specs.Blocks.{initialiser_tasks}
use Rattle.c_machine.specs.Calls.{called, function_tasks}
use Rattle.c_machine.specs.Expressions.{address_tasks, value_kind, value_tasks}
use Rattle.c_machine.specs.Run.{run}
use Rattle.c_machine.specs.State.{TaskIn, State, StateIn, Outcome, Went}
use Rattle.c_machine.specs.Statements.{statement_tasks}
use Rattle.c_machine.specs.Step.{step, step_of}
use Rattle.c_machine.specs.Text.{Function, Text}
use Rattle.c_steps.specs.declared.outcome.Outcome.TheVariants as outcome
use Rattle.c_steps.specs.ComesTo.{comes_to}
use Rattle.c_run.specs.declared.tasks.room.Room.{Room}
use Rattle.c_run.specs.declared.tasks.room.Room.TheVariants as room
use Rattle.c_run.specs.tasks.Room.{are_kept, kinds_in}
use Rattle.c_run.specs.declared.stepped.Stepped.{Stepped}
use Rattle.c_run.specs.declared.stepped.Stepped.TheVariants.{Came, NotKept}

-- a step that makes room is done where its types are kept
abbrev pub stepped_by : Room → Stepped
stepped_by room.Made = Came outcome.Went
stepped_by room.NotKept = NotKept

-- the types of which a step speaks beyond those of its thing to do, where unfinished expressions hold so many operands: what a tree makes room for speaks of
-- them, `?:` of those of both arms, and a call of those of the function
abbrev pub kinds_called : (t : Text) → Option (Function t.Stmt) → List Kind
kinds_called t None = []
kinds_called t (Some function) = kinds_in (function_tasks t function 0)

abbrev pub kinds_at : (t : Text) → TaskIn t → ℕ → List Kind
kinds_at t (ValueOf expr) held = kinds_in (value_tasks t expr)
kinds_at t (AddressOf expr) held = kinds_in (address_tasks t expr)
kinds_at t (Pick kind one other) held = value_kind t one ∷ value_kind t other ∷ []
kinds_at t (Execute stmt) held = kinds_in (statement_tasks t stmt held)
kinds_at t (Initialise place init) held = kinds_in (initialiser_tasks t place init)
kinds_at t (CallDefined number) held = kinds_called t (slice_get t.functions number)
kinds_at t other held = []

abbrev pub kinds_first : (t : Text) → List (TaskIn t) → ℕ → List Kind
kinds_first t [] held = []
kinds_first t (task ∷ rest) held = kinds_at t task held

-- whether they are kept, at a step
abbrev pub keeps_kinds : (t : Text) → StateIn t → Bool
keeps_kinds t state = are_kept (kinds_first t state.tasks (length state.operands))

-- what a step comes to, by what it was answered with and what it left: the step of the machine where its types are kept, and no answer where one is not
abbrev pub IsStepOf : (t : Text) → TaskIn t → Stepped → StateIn t → List Choice → StateIn t → List Choice → Type 0
IsStepOf t task (Came outcome) before choices after left =
    (comes_to outcome after left ≡ step_of t task before choices) × (are_kept (kinds_at t task (length before.operands)) ≡ true)
IsStepOf t task NotKept before choices after left = are_kept (kinds_at t task (length before.operands)) ≡ false

-- the same of the step that calls a function
abbrev pub IsCallOf : (t : Text) → Option (Function t.Stmt) → Stepped → StateIn t → List Choice → StateIn t → List Choice → Type 0
IsCallOf t function (Came outcome) before choices after left =
    (comes_to outcome after left ≡ called t function before choices) × (are_kept (kinds_called t function) ≡ true)
IsCallOf t function NotKept before choices after left = are_kept (kinds_called t function) ≡ false

abbrev pub IsStep : (t : Text) → Stepped → StateIn t → List Choice → StateIn t → List Choice → Type 0
IsStep t (Came outcome) before choices after left = (comes_to outcome after left ≡ step t before choices) × (keeps_kinds t before ≡ true)
IsStep t NotKept before choices after left = keeps_kinds t before ≡ false

-- whether a run goes on behind a step
abbrev pub goes_on : Stepped → Bool
goes_on (Came outcome.Went) = true
goes_on other = false

-- whether the types are kept at each of so many steps, up to where the run goes
abbrev pub keeps_on : {E S I : Type 0} → Outcome E S I → (State E S I → List Choice → Bool) → Bool
keeps_on (Went state choices) onward = onward state choices
keeps_on other onward = true

abbrev pub keeps_kinds_for : ℕ → (t : Text) → StateIn t → List Choice → Bool
keeps_kinds_for zero t state choices = true
keeps_kinds_for (suc steps) t state choices = keeps_kinds t state && keeps_on (step t state choices) (keeps_kinds_for steps t)

-- what at most so many steps come to
abbrev pub IsRun : (t : Text) → ℕ → Stepped → StateIn t → List Choice → StateIn t → List Choice → Type 0
IsRun t steps (Came outcome) before choices after left =
    (comes_to outcome after left ≡ run steps t before choices) × (keeps_kinds_for steps t before choices ≡ true)
IsRun t steps NotKept before choices after left = keeps_kinds_for steps t before choices ≡ false

-- fewer than so many steps that went leave these choices, in some state
abbrev pub LeavesChoices : (t : Text) → ℕ → StateIn t → List Choice → List Choice → Type 0
LeavesChoices t steps before choices left = (done : ℕ) × (state : StateIn t) × (done < steps) × (run done t before choices ≡ Went state left)
