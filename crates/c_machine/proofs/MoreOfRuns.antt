-- Choices behind those that a run takes change nothing, and are left.
use Rattle.std.proofs.Common.{◌≡◌, ℕ, zero, suc, List, [], ◌∷◌, ◌++◌, Option, Some, None, refl, sym, subst}
use Rattle.choices.specs.declared.choice.Choice.{Choice}
use Rattle.c_machine.specs.Laws.{LeavesMore, DoRunsLeaveMore, DoProgramsLeaveMore}
use Rattle.c_machine.specs.Run.{then_go, run, blank, static_tasks, main_tasks, finished, done_within, start_main}
use Rattle.c_machine.specs.declared.task.Task.{Task}
use Rattle.c_machine.specs.State.{State, StateIn, Outcome, Went, Waits, Ended, Faulted, Stuck}
use Rattle.c_machine.specs.Step.{step}
use Rattle.c_machine.specs.Text.{Function, Text}
use Rattle.c_machine.specs.Trees.{text_of}
use Rattle.c_machine.proofs.MoreChoices.{leaves_on}

-- what goes on behind an outcome
then_leaves : {E S I : Type 0} (more : List Choice) (before after : Outcome E S I) (onward : State E S I → List Choice → Outcome E S I) → LeavesMore more before after →
    ((state : State E S I) (choices : List Choice) → LeavesMore more (onward state choices) (onward state (choices ++ more))) →
    LeavesMore more (then_go before onward) (then_go after onward)
then_leaves more (Went next rest) after onward is each =
    subst (λ (o : _). LeavesMore more (onward next rest) (then_go o onward)) (sym is) (each next rest)
then_leaves more Waits after onward is each = tt
then_leaves more Ended after onward is each = subst (λ (o : _). then_go o onward ≡ Ended) (sym is) refl
then_leaves more (Faulted kind place) after onward is each = subst (λ (o : _). then_go o onward ≡ Faulted kind place) (sym is) refl
then_leaves more Stuck after onward is each = subst (λ (o : _). then_go o onward ≡ Stuck) (sym is) refl

step_leaves : (t : Text) (state : StateIn t) (choices more : List Choice) → LeavesMore more (step t state choices) (step t state (choices ++ more))
step_leaves t state choices more = leaves_on t state.tasks state choices more

run_leaves : (t : Text) (steps : ℕ) (more : List Choice) (state : StateIn t) (choices : List Choice) → LeavesMore more (run steps t state choices) (run steps t state (choices ++ more))
run_leaves t zero more state choices = refl
run_leaves t (suc steps) more state choices = then_leaves more _ _ (run steps t) (step_leaves t state choices more) (run_leaves t steps more)

finish_leaves : {E S I : Type 0} (tasks : List (Task E S I)) (more : List Choice) (state : State E S I) (choices : List Choice) (onward : State E S I → List Choice → Outcome E S I) →
    LeavesMore more (onward state choices) (onward state (choices ++ more)) → LeavesMore more (finished tasks state choices onward) (finished tasks state (choices ++ more) onward)
finish_leaves [] more state choices onward each = refl
finish_leaves (task ∷ tasks) more state choices onward each = each

done_leaves : (t : Text) (steps : ℕ) (more : List Choice) (state : StateIn t) (choices : List Choice) → LeavesMore more (done_within steps t state choices) (done_within steps t state (choices ++ more))
done_leaves t zero more state choices = finish_leaves state.tasks more state choices _ refl
done_leaves t (suc steps) more state choices =
    finish_leaves state.tasks more state choices (λ after rest. then_go (step t after rest) (done_within steps t))
    (then_leaves more _ _ (done_within steps t) (step_leaves t state choices more) (done_leaves t steps more))

start_leaves : (t : Text) (main : Option (Function t.Stmt)) (more choices : List Choice) → LeavesMore more (start_main t t.enough main choices) (start_main t t.enough main (choices ++ more))
start_leaves t None more choices = refl
start_leaves t (Some main) more choices =
    then_leaves more _ _ (λ state rest. Went (record state { tasks = main_tasks t main }) rest)
    (done_leaves t t.enough more (blank t (static_tasks t)) choices) (λ state rest. refl)

pub runs_leave_more : DoRunsLeaveMore
runs_leave_more p steps state choices more = run_leaves (text_of p) steps more state choices

pub programs_leave_more : DoProgramsLeaveMore
programs_leave_more p steps choices more =
    then_leaves more _ _ (run steps (text_of p)) (start_leaves (text_of p) (text_of p).main more choices) (run_leaves (text_of p) steps more)
