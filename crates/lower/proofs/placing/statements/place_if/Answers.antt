-- What follows `else` stands alone, and both sides are within the loop around.
use Rattle.std.proofs.Common.{List, [], ◌∷◌, ap, ◌∙◌}
use Rattle.cbase.specs.declared.tree.expr.Expr.{Expr}
use Rattle.cbase.specs.declared.tree.init.Init.{Init}
use Rattle.cbase.specs.declared.tree.stmt.Stmt.{Stmt}
use Rattle.c_machine.specs.Trees.{text_of}
use Rattle.lower.specs.declared.jobs.Job.TheVariants.{Branch}
use Rattle.lower.specs.Around.{around_of}
use Rattle.lower.proofs.JobsLead.{if_leads, then_ok}
use Rattle.lowering.specs.declared.moves.Move.{Move as MoveOf}
use Rattle.lowering.specs.declared.moves.Move.TheVariants.{Does}
use Rattle.lowering.specs.Placing.{other_moves}
use Rattle.lower.proofs.placing.statements.place_if.Goals as goal

pub returns : goal.returns
returns c = then_ok _ _ c.push.result
    (λ is. λ p made.
    if_leads p (around_of c.args.around.now) c.args.levels c.args.from 0 c.args.jobs.now c.args.test.now c.args.close (Does c.args.yes.now ∷ []) (other_moves (text_of p) c.args.no) _ _ _
    c.args.to c.args.to _ _ made c.in_ok-turning.ensures c.new-other.ensures
    (c.in_ok-does.ensures ∙ ap (λ (moves : List (MoveOf Expr Stmt Init)). Does c.args.yes.now ∷ moves) c.new-one.ensures) c.in_ok-does_other.ensures
    (is ∙ ap (λ (test : Expr).
    Branch c.args.levels c.args.from test c.args.close c.does.new.line c.args.to c.does_other.new.line c.args.to c.in_ok-turning.turning ∷ c.args.jobs.now) c.of.ensures))
    c.push.ensures.ok
