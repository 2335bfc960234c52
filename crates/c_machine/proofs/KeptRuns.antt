-- Each state of a run has what a step keeps.
use Rattle.std.proofs.Common.{ℕ, zero, suc, List, [], ◌∷◌, Option, None, Some, subst, arith}
use Rattle.std.proofs.lemmas.List.Elements.{All-nil}
use Rattle.std.specs.Prelude.{All, IsTrue}
use Rattle.bytes_core.specs.declared.block.Block.{Block}
use Rattle.bytes_core.specs.Placement.{is_placed}
use Rattle.bytes_core.specs.Valid.{NamesBelow}
use Rattle.choices.specs.declared.choice.Choice.{Choice}
use Rattle.c_machine.specs.declared.task.Task.{Task}
use Rattle.c_machine.specs.Keeping.{IsByte, IsState, DoRunsKeep}
use Rattle.c_machine.specs.Run.{then_go, run, blank, static_tasks, main_tasks, finished, done_within, start_main}
use Rattle.c_machine.specs.State.{TaskIn, State, StateIn, Outcome, Went, Waits, Ended, Faulted, Stuck}
use Rattle.c_machine.specs.Step.{step}
use Rattle.c_machine.specs.Text.{Function, Text}
use Rattle.c_machine.specs.Trees.{text_of}
use Rattle.c_machine.proofs.KeptStates.{with_tasks}
use Rattle.c_machine.proofs.KeptSteps.{Leaves, step_keeps}

then_keeps : {E S I : Type 0} (before : Outcome E S I) (onward : State E S I → List Choice → Outcome E S I) → Leaves before →
    ((state : State E S I) (choices : List Choice) → IsState state → Leaves (onward state choices)) → Leaves (then_go before onward)
then_keeps (Went next rest) onward is each = each next rest is
then_keeps Waits onward is each = tt
then_keeps Ended onward is each = tt
then_keeps (Faulted kind place) onward is each = tt
then_keeps Stuck onward is each = tt

run_keeps : (t : Text) (steps : ℕ) (state : StateIn t) (choices : List Choice) → IsState state → Leaves (run steps t state choices)
run_keeps t zero state choices is = is
run_keeps t (suc steps) state choices is = then_keeps (step t state choices) (run steps t) (step_keeps t state choices is) (run_keeps t steps)

finish_keeps : {E S I : Type 0} (tasks : List (Task E S I)) (state : State E S I) (choices : List Choice) (onward : State E S I → List Choice → Outcome E S I) → IsState state →
    Leaves (onward state choices) → Leaves (finished tasks state choices onward)
finish_keeps [] state choices onward is each = is
finish_keeps (task ∷ tasks) state choices onward is each = each

done_keeps : (t : Text) (steps : ℕ) (state : StateIn t) (choices : List Choice) → IsState state → Leaves (done_within steps t state choices)
done_keeps t zero state choices is = finish_keeps state.tasks state choices _ is tt
done_keeps t (suc steps) state choices is =
    finish_keeps state.tasks state choices (λ after rest. then_go (step t after rest) (done_within steps t)) is
    (then_keeps (step t state choices) (done_within steps t) (step_keeps t state choices is) (done_keeps t steps))

-- a state in which nothing is made
pub blank_is : (t : Text) (tasks : List (TaskIn t)) → IsState (blank t tasks)
blank_is t tasks = record {
  memory = record {
    placed = All-nil (λ (one : Block). IsTrue (is_placed one));
    apart = λ i j d before below. absurd (omega arith);
    named = All-nil (λ (one : Block). All (NamesBelow 0) one.bytes);
  };
  bytes = All-nil (λ (one : Block). All IsByte one.bytes);
  operands = tt;
  objects = tt;
  apart = tt;
  statics = tt;
}

start_keeps : (t : Text) (main : Option (Function t.Stmt)) (choices : List Choice) → Leaves (start_main t t.enough main choices)
start_keeps t None choices = tt
start_keeps t (Some main) choices =
    then_keeps (done_within t.enough t (blank t (static_tasks t)) choices) (λ state more. Went (record state { tasks = main_tasks t main }) more)
    (done_keeps t t.enough (blank t (static_tasks t)) choices (blank_is t (static_tasks t))) (λ state more is. with_tasks state (main_tasks t main) is)

pub runs_keep : DoRunsKeep
runs_keep p steps state choices rest went =
    subst Leaves went (then_keeps (start_main (text_of p) (text_of p).enough (text_of p).main choices) (run steps (text_of p)) (start_keeps (text_of p) (text_of p).main choices) (run_keeps (text_of p) steps))
