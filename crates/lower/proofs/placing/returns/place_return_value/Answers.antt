-- What the value lets go of, and its kind, are those of the definition.
use Rattle.lower.specs.Around.{around_of}
use Rattle.lower.specs.Built.{made_of}
use Rattle.lower.proofs.JobsLead.{then_ok}
use Rattle.lower.proofs.ReturnsLead.{return_leads}
use Rattle.lower.proofs.placing.returns.place_return_value.Goals as goal

pub returns : goal.returns
returns c = then_ok _ _ c.return_with.result
    (λ is. λ p reads.
    return_leads p (around_of c.args.around.now) c.args.levels c.args.from c.args.expr.now c.args.word c.args.jobs.now _ (made_of c.args.builder.now) _ _ _
    (c.in_ok-own.ensures.of p reads.reads) (c.in_ok-count.ensures.of p reads) (is p))
    c.return_with.ensures
