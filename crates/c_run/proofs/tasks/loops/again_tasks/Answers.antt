-- What a `for` does after each turn: a full expression in front of the condition, if there is one.
use Rattle.std.proofs.Common.{[], ◌∷◌, ◌++◌, Option, Some, refl, sym, ap, ◌∙◌}
use Rattle.cbase.specs.declared.tree.expr.Expr.{Expr}
use Rattle.cbase.specs.declared.tree.expr.ExprForm.TheViews.{outs-For}
use Rattle.cbase.specs.declared.tree.stmt.Stmt.{Stmt}
use Rattle.c_machine.specs.declared.task.Task.TheVariants.{Finish, Test, ValueOf}
use Rattle.c_machine.specs.State.{doing}
use Rattle.c_machine.specs.Statements.{again_parts, eval_tasks}
use Rattle.c_machine.specs.Trees.{text_of}
use Rattle.c_run.specs.declared.tasks.room.Room.TheVariants.{Made}
use Rattle.c_run.proofs.tasks.ClauseByForm.{clause_of_form}
use Rattle.c_run.proofs.tasks.MakingRoom.{on_ok}
use Rattle.c_run.proofs.tasks.RoomBehind.{in_front}
use Rattle.c_run.proofs.tasks.loops.again_tasks.Goals as goal

pub returns-in-None : goal.returns-in-None
returns-in-None c = λ p.
    clause_of_form (again_parts (text_of p) c.args.stmt.now) c.args.stmt.now _ _ (Test c.args.stmt.now ∷ []) Made c.args.state.now c.do_first.new.self
    c.in-For.is (outs-For c.in-For.first c.in-For.test c.in-For.semicolon c.in-For.next c.in-For.close c.in-For.body)
    (ap (λ (next : Option Expr). eval_tasks (text_of p) next c.in-For.close ++ Test c.args.stmt.now ∷ []) (sym c.in-None.is))
    (c.in_ok-do_first-in-For.ensures.ok ∙ ap (λ (stmt : Stmt). doing (Test stmt ∷ []) c.args.state.now) c.of.ensures, refl)

pub returns-in-Some : goal.returns-in-Some
returns-in-Some c = on_ok _ _ c.value_then.result
    (λ room made. λ p.
    clause_of_form (again_parts (text_of p) c.args.stmt.now) c.args.stmt.now _ _ (ValueOf c.get.result.now ∷ Finish c.in-For.close ∷ Test c.args.stmt.now ∷ []) room
    c.args.state.now c.value_then.new.state c.in-For.is (outs-For c.in-For.first c.in-For.test c.in-For.semicolon c.in-For.next c.in-For.close c.in-For.body)
    (ap (λ (next : Option Expr). eval_tasks (text_of p) next c.in-For.close ++ Test c.args.stmt.now ∷ []) (ap Some c.get.ensures ∙ sym c.in-Some.is))
    (in_front (ValueOf c.get.result.now ∷ Finish c.in-For.close ∷ []) (Test c.args.stmt.now ∷ []) room c.args.state.now c.do_first.new.self c.value_then.new.state
    (c.in_ok-do_first-in-For.ensures.ok ∙ ap (λ (stmt : Stmt). doing (Test stmt ∷ []) c.args.state.now) c.of.ensures, refl) (made refl)))
    c.value_then.ensures
