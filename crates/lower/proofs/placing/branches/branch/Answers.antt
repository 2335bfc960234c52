-- What the condition lets go of is what the definition says.
use Rattle.lower.specs.Around.{around_of}
use Rattle.lower.specs.Built.{made_of}
use Rattle.lower.proofs.CountsLead.{branch_by}
use Rattle.lower.proofs.JobsLead.{then_ok}
use Rattle.lower.proofs.placing.branches.branch.Goals as goal

pub returns : goal.returns
returns c = then_ok _ _ c.branch_with.result
    (λ is. λ p reads.
    branch_by p (around_of c.args.around.now) c.args.levels c.args.from c.args.jobs.now _ (made_of c.args.builder.now) _
    (record (around_of c.args.around.now) { loop = c.args.turning }) c.args.test.now c.args.close c.args.one c.args.other c.args.one_to c.args.other_to _
    (c.in_ok-count.ensures.of p reads) (is p))
    c.branch_with.ensures
