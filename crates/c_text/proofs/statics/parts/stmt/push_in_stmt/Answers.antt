-- What stands in each form.
use Rattle.std.proofs.Common.{◌∷◌, ◌++◌, map, refl, ◌∙◌}
use Rattle.cbase.specs.declared.tree.expr.ExprForm.TheViews.{outs-Declare, outs-Eval, outs-Block, outs-If, outs-While, outs-Do, outs-For, outs-Break, outs-Continue, outs-Return}
use Rattle.c_machine.specs.Statics.{AnExpr, AStmt, in_decl, optional}
use Rattle.c_text.specs.statics.Nodes.{in_branches}
use Rattle.c_text.proofs.statics.ByForm.{clause_in_front, if_in_front, for_in_front}
use Rattle.c_text.proofs.statics.Walking.{on_ok}
use Rattle.c_text.proofs.statics.parts.stmt.push_in_stmt.Goals as goal

pub returns-in-Declare : goal.returns-in-Declare
returns-in-Declare c = on_ok _ _ c.push_in_decl.result
    (λ done made. clause_in_front c.args.stmt.now _ _ _ c.args.nodes.now c.push_in_decl.new.nodes c.in-Declare.is (outs-Declare c.in-Declare.decl)
    (λ i. in_decl (c.get.ensures i) ++ c.args.nodes.now) made)
    c.push_in_decl.ensures

pub returns-in-Eval : goal.returns-in-Eval
returns-in-Eval c = on_ok _ _ c.push_optional.result
    (λ done made. clause_in_front c.args.stmt.now _ _ _ c.args.nodes.now c.push_optional.new.nodes c.in-Eval.is (outs-Eval c.in-Eval.expr)
    refl made)
    c.push_optional.ensures

pub returns-in-Block : goal.returns-in-Block
returns-in-Block c = on_ok _ _ c.push_stmts.result
    (λ done made. clause_in_front c.args.stmt.now _ _ _ c.args.nodes.now c.push_stmts.new.nodes c.in-Block.is (outs-Block c.in-Block.body)
    (λ i. map AStmt (c.as_slice.ensures i) ++ c.args.nodes.now) made)
    c.push_stmts.ensures

pub returns-in-If : goal.returns-in-If
returns-in-If c = on_ok _ _ c.push_branches.result
    (λ done made. clause_in_front c.args.stmt.now _ _ _ c.args.nodes.now c.push_branches.new.nodes c.in-If.is (outs-If c.in-If.test c.in-If.close c.in-If.yes c.in-If.no)
    ((λ i. AnExpr (c.get-in-If.ensures i) ∷ AStmt (c.get-in-If-2.ensures i) ∷ in_branches c.in-If.no ++ c.args.nodes.now)
    ∙ if_in_front c.in-If.test c.in-If.close c.in-If.yes c.in-If.no c.args.nodes.now) made)
    c.push_branches.ensures

pub returns-in-While : goal.returns-in-While
returns-in-While c = on_ok _ _ c.push_while.result
    (λ done made. clause_in_front c.args.stmt.now _ _ _ c.args.nodes.now c.push_while.new.nodes c.in-While.is (outs-While c.in-While.test c.in-While.close c.in-While.body)
    (λ i. AnExpr (c.get-in-While.ensures i) ∷ AStmt (c.get-in-While-2.ensures i) ∷ c.args.nodes.now) made)
    c.push_while.ensures

pub returns-in-Do : goal.returns-in-Do
returns-in-Do c = on_ok _ _ c.push_do.result
    (λ done made. clause_in_front c.args.stmt.now _ _ _ c.args.nodes.now c.push_do.new.nodes c.in-Do.is (outs-Do c.in-Do.body c.in-Do.test c.in-Do.close)
    (λ i. AStmt (c.get-in-Do.ensures i) ∷ AnExpr (c.get-in-Do-2.ensures i) ∷ c.args.nodes.now) made)
    c.push_do.ensures

pub returns-in-For : goal.returns-in-For
returns-in-For c = on_ok _ _ c.push_for.result
    (λ done made. clause_in_front c.args.stmt.now _ _ _ c.args.nodes.now c.push_for.new.nodes c.in-For.is (outs-For c.in-For.first c.in-For.test c.in-For.semicolon c.in-For.next c.in-For.close c.in-For.body)
    ((λ i. AStmt (c.get-in-For.ensures i) ∷ optional c.in-For.test ++ (optional c.in-For.next ++ AStmt (c.get-in-For-2.ensures i) ∷ c.args.nodes.now))
    ∙ for_in_front c.in-For.first c.in-For.test c.in-For.semicolon c.in-For.next c.in-For.close c.in-For.body c.args.nodes.now) made)
    c.push_for.ensures

pub returns-in-Break : goal.returns-in-Break
returns-in-Break c = clause_in_front c.args.stmt.now _ _ _ c.args.nodes.now _ c.in-Break.is outs-Break refl refl

pub returns-in-Continue : goal.returns-in-Continue
returns-in-Continue c = clause_in_front c.args.stmt.now _ _ _ c.args.nodes.now _ c.in-Continue.is outs-Continue refl refl

pub returns-in-Return : goal.returns-in-Return
returns-in-Return c = on_ok _ _ c.push_boxed.result
    (λ done made. clause_in_front c.args.stmt.now _ _ _ c.args.nodes.now c.push_boxed.new.nodes c.in-Return.is (outs-Return c.in-Return.value)
    refl made)
    c.push_boxed.ensures
