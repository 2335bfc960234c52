-- What each statement does.
use Rattle.std.proofs.Common.{List, [], map, Option, refl, sym, ap, ◌∙◌}
use Rattle.std.specs.List.{flat_map}
use Rattle.cbase.specs.declared.tree.decl.Decl.{Decl}
use Rattle.cbase.specs.declared.tree.decl.Declared.{Declared}
use Rattle.cbase.specs.declared.tree.expr.Expr.{Expr}
use Rattle.cbase.specs.declared.tree.expr.ExprForm.TheViews.{out-Decl, outs-Declare, outs-Eval, outs-Block, outs-If, outs-While, outs-Do, outs-For, outs-Break, outs-Continue, outs-Return}
use Rattle.c_machine.specs.Blocks.{declared_tasks}
use Rattle.c_machine.specs.Statements.{clause_tasks, eval_tasks}
use Rattle.c_machine.specs.Text.{Block, Do, For, If}
use Rattle.c_machine.specs.Trees.{name_of, text_of}
use Rattle.c_run.specs.declared.tasks.room.Room.TheVariants.{Made}
use Rattle.c_run.proofs.tasks.ClauseByForm.{clause_of_form}
use Rattle.c_run.proofs.tasks.MakingRoom.{on_ok}
use Rattle.c_run.proofs.tasks.statements.statement_tasks.Goals as goal

pub returns-in-Declare : goal.returns-in-Declare
returns-in-Declare c = on_ok _ _ c.declared_names.result
    (λ room made. λ n p stands. clause_of_form (clause_tasks (text_of p) c.args.stmt.now c.args.held) c.args.stmt.now _ _ _ room c.args.state.now c.declared_names.new.state
    c.in-Declare.is (outs-Declare c.in-Declare.decl)
    (ap (λ (names : List Declared). flat_map (declared_tasks (text_of p)) (map name_of names)) c.as_slice.ensures
    ∙ ap (λ (decl : Decl). flat_map (declared_tasks (text_of p)) (map name_of (out-Decl decl).names)) c.get.ensures)
    (made n p stands))
    c.declared_names.ensures

pub returns-in-None : goal.returns-in-None
returns-in-None c = λ n p stands.
    clause_of_form (clause_tasks (text_of p) c.args.stmt.now c.args.held) c.args.stmt.now _ _ [] Made c.args.state.now c.args.state.now
    c.in-Eval.is (outs-Eval c.in-Eval.expr) (ap (λ (expr : Option Expr). eval_tasks (text_of p) expr c.args.stmt.now.after) (sym c.in-None.is)) (refl, refl)

pub returns-in-Some : goal.returns-in-Some
returns-in-Some c = on_ok _ _ c.value_then.result
    (λ room made. λ n p stands. clause_of_form (clause_tasks (text_of p) c.args.stmt.now c.args.held) c.args.stmt.now _ _ _ room c.args.state.now c.value_then.new.state
    c.in-Eval.is (outs-Eval c.in-Eval.expr) (ap (λ (expr : Option Expr). eval_tasks (text_of p) expr c.args.stmt.now.after) (sym c.in-Some.is)) (made refl))
    c.value_then.ensures

pub returns-in-Block : goal.returns-in-Block
returns-in-Block c = on_ok _ _ c.in_block.result
    (λ room made. λ n p stands. clause_of_form (clause_tasks (text_of p) c.args.stmt.now c.args.held) c.args.stmt.now _ _ _ room c.args.state.now c.in_block.new.state
    c.in-Block.is (outs-Block c.in-Block.body) (λ i. clause_tasks (text_of p) c.args.stmt.now c.args.held (Block (c.as_slice-in-Block.ensures i))) (made n p stands))
    c.in_block.ensures

pub returns-in-If : goal.returns-in-If
returns-in-If c = on_ok _ _ c.tested.result
    (λ room made. λ n p stands. clause_of_form (clause_tasks (text_of p) c.args.stmt.now c.args.held) c.args.stmt.now _ _ _ room c.args.state.now c.tested.new.state
    c.in-If.is (outs-If c.in-If.test c.in-If.close c.in-If.yes c.in-If.no) (λ i. clause_tasks (text_of p) c.args.stmt.now c.args.held (If (c.get-in-If.ensures i) c.in-If.close c.in-If.yes c.in-If.no)) (made))
    c.tested.ensures

pub returns-in-While : goal.returns-in-While
returns-in-While c = on_ok _ _ c.test_alone.result
    (λ room made. λ n p stands. clause_of_form (clause_tasks (text_of p) c.args.stmt.now c.args.held) c.args.stmt.now _ _ _ room c.args.state.now c.test_alone.new.state
    c.in-While.is (outs-While c.in-While.test c.in-While.close c.in-While.body) refl (made))
    c.test_alone.ensures

pub returns-in-Do : goal.returns-in-Do
returns-in-Do c = on_ok _ _ c.turn.result
    (λ room made. λ n p stands. clause_of_form (clause_tasks (text_of p) c.args.stmt.now c.args.held) c.args.stmt.now _ _ _ room c.args.state.now c.turn.new.state
    c.in-Do.is (outs-Do c.in-Do.body c.in-Do.test c.in-Do.close) (λ i. clause_tasks (text_of p) c.args.stmt.now c.args.held (Do (c.get-in-Do.ensures i) c.in-Do.test c.in-Do.close)) (made))
    c.turn.ensures

pub returns-in-For : goal.returns-in-For
returns-in-For c = on_ok _ _ c.for_loop.result
    (λ room made. λ n p stands. clause_of_form (clause_tasks (text_of p) c.args.stmt.now c.args.held) c.args.stmt.now _ _ _ room c.args.state.now c.for_loop.new.state
    c.in-For.is (outs-For c.in-For.first c.in-For.test c.in-For.semicolon c.in-For.next c.in-For.close c.in-For.body) (λ i. clause_tasks (text_of p) c.args.stmt.now c.args.held (For (c.get-in-For.ensures i) c.in-For.test c.in-For.semicolon c.in-For.next c.in-For.close c.in-For.body)) (made n p stands))
    c.for_loop.ensures

pub returns-in-Break : goal.returns-in-Break
returns-in-Break c = on_ok _ _ c.alone.result
    (λ room made. λ n p stands. clause_of_form (clause_tasks (text_of p) c.args.stmt.now c.args.held) c.args.stmt.now _ _ _ room c.args.state.now c.alone.new.state
    c.in-Break.is outs-Break refl (made refl))
    c.alone.ensures

pub returns-in-Continue : goal.returns-in-Continue
returns-in-Continue c = on_ok _ _ c.alone-in-Continue.result
    (λ room made. λ n p stands. clause_of_form (clause_tasks (text_of p) c.args.stmt.now c.args.held) c.args.stmt.now _ _ _ room c.args.state.now c.alone-in-Continue.new.state
    c.in-Continue.is outs-Continue refl (made refl))
    c.alone-in-Continue.ensures

pub returns-in-Return : goal.returns-in-Return
returns-in-Return c = on_ok _ _ c.returned.result
    (λ room made. λ n p stands. clause_of_form (clause_tasks (text_of p) c.args.stmt.now c.args.held) c.args.stmt.now _ _ _ room c.args.state.now c.returned.new.state
    c.in-Return.is (outs-Return c.in-Return.expr) refl (made n p stands))
    c.returned.ensures
