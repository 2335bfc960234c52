-- The condition, and the body within the loop.
use Rattle.std.proofs.Common.{◌∷◌, ap, ◌∙◌}
use Rattle.cbase.specs.declared.tree.expr.Expr.{Expr}
use Rattle.lower.specs.Around.{around_of}
use Rattle.lower.specs.Built.{made_of}
use Rattle.lower.specs.declared.jobs.Job.TheVariants.{Branch}
use Rattle.lowering.proofs.Onward.{on_ok}
use Rattle.lower.proofs.LoopsLead.{while_leads}
use Rattle.lower.proofs.placing.loops.place_while.Goals as goal

pub returns : goal.returns
returns c = on_ok c.push.result
    (λ is_new. λ p.
    while_leads p (around_of c.args.around.now) c.args.levels c.args.from c.args.to c.args.jobs.now c.push.new.self (made_of c.args.builder.now) (made_of c.head.new.self)
    c.args.test.now c.args.close c.args.body.now c.in_ok-one.one c.new.result c.loop_around.result c.in_ok-standing.standing c.in_ok-standing.ensures c.in_ok-head.ensures
    c.in_ok-one.ensures c.new.ensures (c.loop_around.ensures (around_of c.args.around.now) (around_of c.args.around.now) c.len-2.ensures c.len.ensures)
    (is_new
    ∙ ap (λ (test : Expr).
    Branch c.args.levels c.args.from test c.args.close c.in_ok-one.one c.args.from c.new.result c.args.to c.loop_around.result ∷ c.args.jobs.now) c.of.ensures))
    c.push.ensures.ok
