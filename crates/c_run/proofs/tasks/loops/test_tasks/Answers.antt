-- The condition of each loop.
use Rattle.std.proofs.Common.{[], ◌∷◌, Option, sym, ap, ◌∙◌}
use Rattle.cbase.specs.declared.tree.expr.Expr.{Expr}
use Rattle.cbase.specs.declared.tree.expr.ExprForm.TheViews.{outs-While, outs-Do, outs-For}
use Rattle.c_machine.specs.declared.task.Task.TheVariants.{Again, Branch, Execute, ValueOf}
use Rattle.c_machine.specs.Statements.{test_or_turn, test_parts}
use Rattle.c_machine.specs.Text.{While, Do}
use Rattle.c_machine.specs.Trees.{text_of}
use Rattle.c_run.proofs.tasks.ClauseByForm.{clause_of_form}
use Rattle.c_run.proofs.tasks.MakingRoom.{on_ok}
use Rattle.c_run.proofs.tasks.loops.test_tasks.Goals as goal

pub returns-in-While : goal.returns-in-While
returns-in-While c = on_ok _ _ c.tested.result
    (λ room made. λ p. clause_of_form (test_parts (text_of p) c.args.stmt.now c.args.held) c.args.stmt.now _ _ _ room c.args.state.now c.tested.new.state
    c.in-While.is (outs-While c.in-While.test c.in-While.close c.in-While.body) (λ i. test_parts (text_of p) c.args.stmt.now c.args.held (While (c.get.ensures i) c.in-While.close c.in-While.body)) (made))
    c.tested.ensures

pub returns-in-Do : goal.returns-in-Do
returns-in-Do c = on_ok _ _ c.tested-in-Do.result
    (λ room made. λ p. clause_of_form (test_parts (text_of p) c.args.stmt.now c.args.held) c.args.stmt.now _ _ _ room c.args.state.now c.tested-in-Do.new.state
    c.in-Do.is (outs-Do c.in-Do.body c.in-Do.test c.in-Do.close) (λ i. test_parts (text_of p) c.args.stmt.now c.args.held (Do c.in-Do.body (c.get-in-Do.ensures i) c.in-Do.close)) (made))
    c.tested-in-Do.ensures

pub returns-in-None : goal.returns-in-None
returns-in-None c = on_ok _ _ c.turn.result
    (λ room made. λ p. clause_of_form (test_parts (text_of p) c.args.stmt.now c.args.held) c.args.stmt.now _ _ _ room c.args.state.now c.turn.new.state
    c.in-For.is (outs-For c.in-For.first c.in-For.test c.in-For.semicolon c.in-For.next c.in-For.close c.in-For.body)
    ((λ i. Execute (c.get-in-None.ensures i) ∷ Again c.args.stmt.now c.args.held ∷ [])
    ∙ ap (λ (test : Option Expr). test_or_turn (text_of p) c.args.stmt.now c.args.held test c.in-For.body) (sym c.in-None.is)) made)
    c.turn.ensures

pub returns-in-Some : goal.returns-in-Some
returns-in-Some c = on_ok _ _ c.tested-in-Some.result
    (λ room made. λ p. clause_of_form (test_parts (text_of p) c.args.stmt.now c.args.held) c.args.stmt.now _ _ _ room c.args.state.now c.tested-in-Some.new.state
    c.in-For.is (outs-For c.in-For.first c.in-For.test c.in-For.semicolon c.in-For.next c.in-For.close c.in-For.body)
    ((λ i. ValueOf (c.get-in-Some.ensures i) ∷ Branch c.args.stmt.now ∷ [])
    ∙ ap (λ (test : Option Expr). test_or_turn (text_of p) c.args.stmt.now c.args.held test c.in-For.body) (sym c.in-Some.is)) made)
    c.tested-in-Some.ensures
