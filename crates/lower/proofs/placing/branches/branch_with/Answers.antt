-- Both sides begin behind the condition.
use Rattle.std.proofs.Common.{refl}
use Rattle.lower.specs.Around.{around_of}
use Rattle.lower.specs.Built.{made_of}
use Rattle.lower.proofs.JobsLead.{branch_leads, then_ok}
use Rattle.lower.proofs.placing.branches.branch_with.Goals as goal

pub returns : goal.returns
returns c = then_ok _ _ c.branch_jobs.result
    (λ is_new. λ p. branch_leads p (around_of c.args.around.now) c.args.levels c.args.from 0 c.args.jobs.now c.args.test.now c.args.count
    c.args.builder.now.registers c.in_ok-off.off _ c.args.close c.args.one c.args.other _ _ c.args.one_to c.args.other_to c.args.turning _
    c.branch_jobs.new.jobs (made_of c.args.builder.now) _
    c.in_ok-outside.ensures refl c.in_ok-off.ensures.is.0 refl c.in_ok-off.ensures.is.1 c.in_ok-finish_first.ensures c.in_ok-finish_first-2.ensures is_new)
    c.branch_jobs.ensures
