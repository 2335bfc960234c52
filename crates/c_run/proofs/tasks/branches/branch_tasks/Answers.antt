-- What is done behind each condition.
use Rattle.std.proofs.Common.{◌∷◌, [], refl, ◌∙◌, if◌then◌else◌}
use Rattle.cbase.specs.declared.tree.expr.ExprForm.TheViews.{outs-If, outs-While, outs-Do, outs-For}
use Rattle.c_machine.specs.declared.task.Task.TheVariants.{Again, Execute}
use Rattle.c_machine.specs.Statements.{branch_parts, other_branch}
use Rattle.c_machine.specs.Text.{Do, For, While}
use Rattle.c_machine.specs.Trees.{text_of}
use Rattle.c_run.proofs.tasks.ClauseByForm.{branch_of_if, branch_of_loop, clause_of_form}
use Rattle.c_run.proofs.tasks.MakingRoom.{on_ok}
use Rattle.c_run.proofs.tasks.branches.branch_tasks.Goals as goal

pub returns-in-If : goal.returns-in-If
returns-in-If c = on_ok _ _ c.chosen_branch.result
    (λ room made. λ p. clause_of_form (λ clause. branch_parts (text_of p) c.args.stmt.now c.args.held clause c.args.holds) c.args.stmt.now _ _ _ room c.args.state.now c.chosen_branch.new.state
    c.in-If.is (outs-If c.in-If.test c.in-If.close c.in-If.yes c.in-If.no)
    ((λ i. if c.args.holds then Execute (c.get.ensures i) ∷ [] else other_branch (text_of p) c.in-If.no)
    ∙ branch_of_if p c.args.stmt.now c.args.held c.in-If.test c.in-If.close c.in-If.yes c.in-If.no c.args.holds)
    (made p))
    c.chosen_branch.ensures

pub returns-in-While : goal.returns-in-While
returns-in-While c = on_ok _ _ c.turn_or_end.result
    (λ room made. λ p. clause_of_form (λ clause. branch_parts (text_of p) c.args.stmt.now c.args.held clause c.args.holds) c.args.stmt.now _ _ _ room c.args.state.now c.turn_or_end.new.state
    c.in-While.is (outs-While c.in-While.test c.in-While.close c.in-While.body)
    ((λ i. if c.args.holds then Execute (c.get-in-While.ensures i) ∷ Again c.args.stmt.now c.args.held ∷ [] else [])
    ∙ branch_of_loop p c.args.stmt.now c.args.held c.in-While.body (While c.in-While.test c.in-While.close c.in-While.body) c.args.holds refl refl)
    made)
    c.turn_or_end.ensures

pub returns-in-Do : goal.returns-in-Do
returns-in-Do c = on_ok _ _ c.turn_or_end-in-Do.result
    (λ room made. λ p. clause_of_form (λ clause. branch_parts (text_of p) c.args.stmt.now c.args.held clause c.args.holds) c.args.stmt.now _ _ _ room c.args.state.now c.turn_or_end-in-Do.new.state
    c.in-Do.is (outs-Do c.in-Do.body c.in-Do.test c.in-Do.close)
    ((λ i. if c.args.holds then Execute (c.get-in-Do.ensures i) ∷ Again c.args.stmt.now c.args.held ∷ [] else [])
    ∙ branch_of_loop p c.args.stmt.now c.args.held c.in-Do.body (Do c.in-Do.body c.in-Do.test c.in-Do.close) c.args.holds refl refl)
    made)
    c.turn_or_end-in-Do.ensures

pub returns-in-For : goal.returns-in-For
returns-in-For c = on_ok _ _ c.turn_or_end-in-For.result
    (λ room made. λ p. clause_of_form (λ clause. branch_parts (text_of p) c.args.stmt.now c.args.held clause c.args.holds) c.args.stmt.now _ _ _ room c.args.state.now c.turn_or_end-in-For.new.state
    c.in-For.is (outs-For c.in-For.first c.in-For.test c.in-For.semicolon c.in-For.next c.in-For.close c.in-For.body)
    ((λ i. if c.args.holds then Execute (c.get-in-For.ensures i) ∷ Again c.args.stmt.now c.args.held ∷ [] else [])
    ∙ branch_of_loop p c.args.stmt.now c.args.held c.in-For.body (For c.in-For.first c.in-For.test c.in-For.semicolon c.in-For.next c.in-For.close c.in-For.body) c.args.holds refl refl)
    made)
    c.turn_or_end-in-For.ensures
