-- Where registers are filled, the first condition leads to a point of its own.
use Rattle.std.proofs.Common.{List, ◌∷◌, ◌+◌, refl, ap, ◌∙◌}
use Rattle.cbase.specs.declared.tree.expr.Expr.{Expr}
use Rattle.cbase.specs.declared.tree.init.Init.{Init}
use Rattle.cbase.specs.declared.tree.stmt.Stmt.{Stmt}
use Rattle.lower.specs.declared.jobs.Job.TheVariants.{Go}
use Rattle.lower.specs.Built.{made_of}
use Rattle.lowering.specs.declared.moves.Move.{Move as MoveOf}
use Rattle.lowering.specs.declared.moves.Move.TheVariants.{Asks}
use Rattle.lower.specs.TwoTests.{first_test}
use Rattle.c_text.proofs.Following.{then_ok}
use Rattle.lower.proofs.TwoTestsLead.{two_points}
use Rattle.lower.proofs.placing.two_tests.two_tests.Goals as goal

pub returns : goal.returns
returns c = then_ok _ _ c.go_next-3.result
    (λ last. λ p around.
    two_points p around c.args.levels c.args.from c.args.end c.in_ok-between-2.between c.args.jobs.now c.go_next-2.new.jobs c.push.new.self c.go_next-3.new.jobs
    (first_test c.args.both c.args.left.now c.args.spare) (Asks c.args.right.now c.args.spare c.args.off c.args.on) c.args.standing.now (made_of c.args.builder.now)
    (made_of c.two_points.new.self) c.args.filled (c.in_ok-between-2.between + 1) (λ none. c.if-len-eq0.false (c.len.ensures ∙ none)) c.in_ok-between-2.ensures.is.0 refl
    c.in_ok-between-2.ensures.is.1
    (c.in_ok-go_next-2.ensures ∙ ap (λ (move : MoveOf Expr Stmt Init). Go c.args.levels c.in_ok-between-2.between move c.args.end ∷ c.args.jobs.now) c.asks-2.ensures)
    c.in_ok-push.ensures.ok
    (last ∙ ap (λ (move : MoveOf Expr Stmt Init). Go c.args.levels c.args.from move c.args.end ∷ c.push.new.self) c.first_test-first-2.ensures))
    c.go_next-3.ensures
