-- Each state of a run has what steps keep.
use Rattle.std.proofs.Common.{◌≡◌, ℕ, zero, suc, List, [], ◌∷◌, map, length, refl, sym, subst, Option, None, Some}
use Rattle.choices.specs.declared.choice.Choice.{Choice}
use Rattle.c_machine.specs.declared.object.Object.{Object}
use Rattle.c_machine.specs.declared.task.Task.TheVariants.{MakeStatic, Initialise, MakeObject}
use Rattle.c_machine.specs.Awaiting.{Parts, AreParts, TaskIsIn, Leads, IsAwaiting}
use Rattle.c_machine.specs.Calls.{body_tasks}
use Rattle.c_machine.specs.Fitting.{Each, IfThere, IsSized, IsLocalOf, MainParameterIs, IsStaticOf, TaskFits, FunctionFits, IsFitting, IsFittingText}
use Rattle.c_machine.specs.Keeping.{IsState}
use Rattle.c_machine.specs.Run.{then_go, run, blank, static_tasks, main_tasks, finished, done_within, start_main}
use Rattle.c_machine.specs.RunStates.{IsRunState, AreRunStates, AreFitting}
use Rattle.c_machine.specs.Standing.{parts_of}
use Rattle.c_machine.specs.State.{TaskIn, StateIn, OutcomeIn, Went, Waits, Ended, Faulted, Stuck}
use Rattle.c_machine.specs.Step.{step}
use Rattle.c_machine.specs.Text.{Parameter, Function, Set, Text}
use Rattle.c_machine.specs.Trees.{text_of}
use Rattle.c_machine.proofs.AwaitingParts.{main_in}
use Rattle.c_machine.proofs.AwaitingSteps.{LeavesAwaiting, step_awaits}
use Rattle.c_machine.proofs.AwaitingTasks.{Part, part_both, map_part, main_part}
use Rattle.c_machine.proofs.FittingSteps.{LeavesFitting, step_fits}
use Rattle.c_machine.proofs.FittingTasks.{each_both, each_map, each_with, body_fits}
use Rattle.c_machine.proofs.FittingTexts.{texts_fit}
use Rattle.c_machine.proofs.KeptRuns.{blank_is}
use Rattle.c_machine.proofs.KeptStates.{with_tasks}
use Rattle.c_machine.proofs.KeptSteps.{Leaves, step_keeps}
use Rattle.c_machine.proofs.StandingParts.{are_parts}

-- where something goes on, it is to a state of this kind
abbrev LeavesTo : (t : Text) → (StateIn t → Type 0) → OutcomeIn t → Type 0
LeavesTo t Holds (Went next rest) = Holds next
LeavesTo t Holds Waits = Unit {0}
LeavesTo t Holds Ended = Unit {0}
LeavesTo t Holds (Faulted kind place) = Unit {0}
LeavesTo t Holds Stuck = Unit {0}

abbrev DoSteps : (t : Text) → (StateIn t → Type 0) → Type 0
DoSteps t Holds = (state : StateIn t) (choices : List Choice) → Holds state → LeavesTo t Holds (step t state choices)

then_leaves : (t : Text) (One Other : StateIn t → Type 0) (before : OutcomeIn t) (onward : StateIn t → List Choice → OutcomeIn t) → LeavesTo t One before →
    ((state : StateIn t) (choices : List Choice) → One state → LeavesTo t Other (onward state choices)) → LeavesTo t Other (then_go before onward)
then_leaves t One Other (Went next rest) onward is each = each next rest is
then_leaves t One Other Waits onward is each = tt
then_leaves t One Other Ended onward is each = tt
then_leaves t One Other (Faulted kind place) onward is each = tt
then_leaves t One Other Stuck onward is each = tt

run_leaves : (t : Text) (Holds : StateIn t → Type 0) → DoSteps t Holds → (steps : ℕ) (state : StateIn t) (choices : List Choice) → Holds state → LeavesTo t Holds (run steps t state choices)
run_leaves t Holds each zero state choices is = is
run_leaves t Holds each (suc steps) state choices is = then_leaves t Holds Holds (step t state choices) (run steps t) (each state choices is) (run_leaves t Holds each steps)

-- a state in which nothing is left to do
pub record IsDone (t : Text) (Holds : StateIn t → Type 0) (state : StateIn t) : Type 0 where
  pub holds : Holds state
  pub nothing : state.tasks ≡ []

finish_leaves : (t : Text) (Holds : StateIn t → Type 0) (tasks : List (TaskIn t)) (state : StateIn t) (choices : List Choice) (onward : StateIn t → List Choice → OutcomeIn t) → state.tasks ≡ tasks → Holds state →
    LeavesTo t (IsDone t Holds) (onward state choices) → LeavesTo t (IsDone t Holds) (finished tasks state choices onward)
finish_leaves t Holds [] state choices onward same is each = record { holds = is; nothing = same }
finish_leaves t Holds (task ∷ tasks) state choices onward same is each = each

done_leaves : (t : Text) (Holds : StateIn t → Type 0) → DoSteps t Holds → (steps : ℕ) (state : StateIn t) (choices : List Choice) → Holds state → LeavesTo t (IsDone t Holds) (done_within steps t state choices)
done_leaves t Holds each zero state choices is = finish_leaves t Holds state.tasks state choices _ refl is tt
done_leaves t Holds each (suc steps) state choices is =
    finish_leaves t Holds state.tasks state choices (λ after rest. then_go (step t after rest) (done_within steps t)) refl is
    (then_leaves t Holds (IsDone t Holds) (step t state choices) (done_within steps t) (each state choices is) (done_leaves t Holds each steps))

-- what steps keep of one kind up to main, and of another one behind that
start_leaves : (t : Text) (One Other : StateIn t → Type 0) → DoSteps t One → One (blank t (static_tasks t)) →
    ((main : Function t.Stmt) (state : StateIn t) → t.main ≡ Some main → IsDone t One state → Other (record state { tasks = main_tasks t main })) →
    (main : Option (Function t.Stmt)) (choices : List Choice) → t.main ≡ main → LeavesTo t Other (start_main t t.enough main choices)
start_leaves t One Other each begins goes None choices is = tt
start_leaves t One Other each begins goes (Some main) choices is =
    then_leaves t (IsDone t One) Other (done_within t.enough t (blank t (static_tasks t)) choices) (λ state more. Went (record state { tasks = main_tasks t main }) more)
    (done_leaves t One each t.enough (blank t (static_tasks t)) choices begins) (λ state more done. goes main state is done)

-- numbers and sizes
pub record Fitted (t : Text) (state : StateIn t) : Type 0 where
  pub lives : IsState state
  pub fits : IsFitting t state

fitted : (t : Text) (outcome : OutcomeIn t) → Leaves outcome → LeavesFitting t outcome → LeavesTo t (Fitted t) outcome
fitted t (Went next rest) one other = record { lives = one; fits = other }
fitted t Waits one other = tt
fitted t Ended one other = tt
fitted t (Faulted kind place) one other = tt
fitted t Stuck one other = tt

steps_fit : (t : Text) → IsFittingText t → DoSteps t (Fitted t)
steps_fit t fit state choices is = fitted t (step t state choices) (step_keeps t state choices is.lives) (step_fits t fit state choices is.fits is.lives.bytes)

made_statics : (t : Text) (objects : List Object) → Each (λ object. IsSized object × IsStaticOf t object) objects → Each (TaskFits t) (map MakeStatic objects)
made_statics t [] are = tt
made_statics t (object ∷ rest) are = (are.0, made_statics t rest are.1)

statics_fit : (t : Text) → IsFittingText t → Each (TaskFits t) (static_tasks t)
statics_fit t fit =
    each_both (TaskFits t) (map MakeStatic t.statics) (map (λ set. Initialise set.place set.init) t.sets)
    (made_statics t t.statics (each_with IsSized (IsStaticOf t) t.statics fit.statics (λ place object is. (place, is))))
    (each_map (TaskFits t) (λ (set : Set t.Init). Initialise set.place set.init) t.sets (λ set. tt))

begins_fit : (t : Text) → IsFittingText t → Fitted t (blank t (static_tasks t))
begins_fit t fit = record {
  lives = blank_is t (static_tasks t);
  fits = record { tasks = statics_fit t fit; operands = tt; objects = tt; statics = tt };
}

made_objects : (t : Text) (params : List Parameter) → Each (λ param. IsSized param.object × IsLocalOf t param.object) params → Each (TaskFits t) (map (λ (param : Parameter). MakeObject param.object) params)
made_objects t [] are = tt
made_objects t (param ∷ params) are = (are.0, made_objects t params are.1)

if_main : (t : Text) (found : Option (Function t.Stmt)) (main : Function t.Stmt) → found ≡ Some main → IfThere FunctionFits found → FunctionFits main
if_main t None main is fits = absurd cc
if_main t (Some other) main is fits = let same : other ≡ main = cc in subst FunctionFits same fits

main_fits : (t : Text) → IsFittingText t → (main : Function t.Stmt) → t.main ≡ Some main → Each (TaskFits t) (main_tasks t main)
main_fits t fit main is =
    let own : FunctionFits main = if_main t t.main main is fit.main in (
      tt,
      each_both (TaskFits t) (map (λ param. MakeObject param.object) main.params) (body_tasks t main 0)
          (made_objects t main.params (each_with (λ (param : Parameter). IsSized param.object) (λ (param : Parameter). IsLocalOf t param.object) main.params own.objects
          (λ place param at. MainParameterIs main place param is at)))
          (body_fits t fit main 0 own),
    )

goes_on_fitting : (t : Text) → IsFittingText t → (main : Function t.Stmt) (state : StateIn t) → t.main ≡ Some main → Fitted t state → Fitted t (record state { tasks = main_tasks t main })
goes_on_fitting t fit main state is holds = record {
  lives = with_tasks state (main_tasks t main) holds.lives;
  fits = record { tasks = main_fits t fit main is; operands = holds.fits.operands; objects = holds.fits.objects; statics = holds.fits.statics };
}

runs_fit : (t : Text) → IsFittingText t → (steps : ℕ) (choices : List Choice) → LeavesTo t (Fitted t) (then_go (start_main t t.enough t.main choices) (run steps t))
runs_fit t fit steps choices =
    then_leaves t (Fitted t) (Fitted t) (start_main t t.enough t.main choices) (run steps t)
    (start_leaves t (Fitted t) (Fitted t) (steps_fit t fit) (begins_fit t fit) (λ main state is done. goes_on_fitting t fit main state is done.holds) t.main choices refl)
    (run_leaves t (Fitted t) (steps_fit t fit) steps)

pub are_fitting : AreFitting
are_fitting = record {
  steps = λ p state next choices rest fit lives is went.
      subst (LeavesFitting (text_of p)) went (step_fits (text_of p) (texts_fit p fit) state choices is lives.bytes);
  runs = λ p steps state choices rest fit went.
      (subst (LeavesTo (text_of p) (Fitted (text_of p))) went (runs_fit (text_of p) (texts_fit p fit) steps choices)).fits;
}

-- operands that are awaited, where so many are left at the end
pub record Awaited (t : Text) (parts : Parts t) (end : ℕ) (state : StateIn t) : Type 0 where
  pub fitted : Fitted t state
  pub awaits : IsAwaiting t parts end state

awaited : (t : Text) (parts : Parts t) (end : ℕ) (outcome : OutcomeIn t) → LeavesTo t (Fitted t) outcome → LeavesAwaiting t parts end outcome → LeavesTo t (Awaited t parts end) outcome
awaited t parts end (Went next rest) one other = record { fitted = one; awaits = other }
awaited t parts end Waits one other = tt
awaited t parts end Ended one other = tt
awaited t parts end (Faulted kind place) one other = tt
awaited t parts end Stuck one other = tt

steps_await : (t : Text) (parts : Parts t) → IsFittingText t → AreParts t parts → (end : ℕ) → DoSteps t (Awaited t parts end)
steps_await t parts fit all end state choices is = awaited t parts end (step t state choices) (steps_fit t fit state choices is.fitted) (step_awaits t parts all end state choices is.awaits)

set_in : (t : Text) (parts : Parts t) (sets : List (Set t.Init)) → Each (λ set. parts.init set.init) sets → Each (TaskIsIn t parts) (map (λ (set : Set t.Init). Initialise set.place set.init) sets)
set_in t parts [] are = tt
set_in t parts (set ∷ sets) are = (are.0, set_in t parts sets are.1)

statics_part : (t : Text) → Part t 0 0 (static_tasks t) 0
statics_part t =
    part_both t 0 0 0 0 (map MakeStatic t.statics) (map (λ set. Initialise set.place set.init) t.sets) (map_part t 0 MakeStatic t.statics (λ object. refl))
    (map_part t 0 (λ (set : Set t.Init). Initialise set.place set.init) t.sets (λ set. refl))

begins_awaiting : (t : Text) (parts : Parts t) → IsFittingText t → AreParts t parts → Awaited t parts 0 (blank t (static_tasks t))
begins_awaiting t parts fit all = record {
  fitted = begins_fit t fit;
  awaits = record {
    tasks = each_both (TaskIsIn t parts) (map MakeStatic t.statics) (map (λ set. Initialise set.place set.init) t.sets) (each_map (TaskIsIn t parts) MakeStatic t.statics (λ object. tt))
        (set_in t parts t.sets all.sets);
    operands = (statics_part t).0;
  };
}

if_body : (t : Text) (parts : Parts t) (found : Option (Function t.Stmt)) (main : Function t.Stmt) → found ≡ Some main → IfThere (λ function. Each parts.stmt function.body) found → Each parts.stmt main.body
if_body t parts None main is are = absurd cc
if_body t parts (Some other) main is are = let same : other ≡ main = cc in subst (λ (function : Function t.Stmt). Each parts.stmt function.body) same are

pub goes_on_awaiting : (t : Text) (parts : Parts t) → IsFittingText t → AreParts t parts → (main : Function t.Stmt) (state : StateIn t) → t.main ≡ Some main → IsDone t (Awaited t parts 0) state →
    Awaited t parts 1 (record state { tasks = main_tasks t main })
goes_on_awaiting t parts fit all main state is done =
    let none : length state.operands ≡ 0 = subst (λ (tasks : List (TaskIn t)). Leads t 0 (length state.operands) tasks 0) done.nothing done.holds.awaits.operands in
    record {
      fitted = goes_on_fitting t fit main state is done.holds.fitted;
      awaits = record {
        tasks = (tt, main_in t parts main 0 (if_body t parts t.main main is all.main));
        operands = subst (λ (n : ℕ). Leads t 0 n (main_tasks t main) 1) (sym none) (main_part t 0 main).0;
      };
    }

runs_await : (t : Text) (parts : Parts t) → IsFittingText t → AreParts t parts → (steps : ℕ) (choices : List Choice) →
    LeavesTo t (Awaited t parts 1) (then_go (start_main t t.enough t.main choices) (run steps t))
runs_await t parts fit all steps choices =
    then_leaves t (Awaited t parts 1) (Awaited t parts 1) (start_main t t.enough t.main choices) (run steps t)
    (start_leaves t (Awaited t parts 0) (Awaited t parts 1) (steps_await t parts fit all 0) (begins_awaiting t parts fit all) (goes_on_awaiting t parts fit all) t.main choices refl)
    (run_leaves t (Awaited t parts 1) (steps_await t parts fit all 1) steps)

pub told : (t : Text) (parts : Parts t) (state : StateIn t) → Awaited t parts 1 state → IsRunState t parts state
told t parts state is = record { lives = is.fitted.lives; fits = is.fitted.fits; awaits = is.awaits }

given : (t : Text) (parts : Parts t) (state : StateIn t) → IsRunState t parts state → Awaited t parts 1 state
given t parts state is = record { fitted = record { lives = is.lives; fits = is.fits }; awaits = is.awaits }

pub are_run_states : AreRunStates
are_run_states = record {
  steps = λ p state next choices rest right is went.
      told (text_of p) (parts_of p) next (subst (LeavesTo (text_of p) (Awaited (text_of p) (parts_of p) 1)) went
      (steps_await (text_of p) (parts_of p) (texts_fit p right.fits) (are_parts p right.calls) 1 state choices (given (text_of p) (parts_of p) state is)));
  runs = λ p steps state choices rest right went.
      told (text_of p) (parts_of p) state (subst (LeavesTo (text_of p) (Awaited (text_of p) (parts_of p) 1)) went
      (runs_await (text_of p) (parts_of p) (texts_fit p right.fits) (are_parts p right.calls) steps choices));
}
