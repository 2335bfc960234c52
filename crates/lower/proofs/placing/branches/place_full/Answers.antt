-- What the expression lets go of is what the definition says.
use Rattle.lower.specs.Built.{made_of}
use Rattle.lower.proofs.CountsLead.{full_by}
use Rattle.lower.proofs.JobsLead.{then_ok}
use Rattle.lower.proofs.placing.branches.place_full.Goals as goal

pub returns : goal.returns
returns c = then_ok _ _ c.full_with.result
    (λ is. λ p around reads.
    full_by p around c.args.levels c.args.from c.args.jobs.now _ (made_of c.args.builder.now) _ c.args.expr.now c.args.end c.args.to _ (c.in_ok-count.ensures.of p reads) (is p around))
    c.full_with.ensures
