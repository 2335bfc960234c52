-- Where there is a level, the move is placed one level less deep.
use Rattle.std.proofs.Common.{arith}
use Rattle.lower.specs.Around.{around_of}
use Rattle.lower.specs.Built.{made_of}
use Rattle.lower.proofs.JobsLead.{then_ok}
use Rattle.lower.proofs.StepsLead.{with_levels, without_levels}
use Rattle.lower.proofs.placing.step.go_through.Goals as goal

pub returns-in-None : goal.returns-in-None
returns-in-None c = then_ok _ _ c.go_without_levels.result
    (λ is. λ p reads.
    without_levels p (around_of c.args.around.now) c.args.levels c.args.from c.args.to c.args.through c.args.jobs.now c.args.jobs.now (made_of c.args.builder.now)
    (made_of c.go_without_levels.new.builder) (omega (arith, c.in-None.ensures)) (is p (around_of c.args.around.now)))
    c.go_without_levels.ensures

pub returns-in-Some : goal.returns-in-Some
returns-in-Some c = then_ok _ _ c.go_within.result
    (λ is. λ p reads.
    with_levels p (around_of c.args.around.now) c.args.levels c.args.from c.args.to c.args.through c.args.jobs.now c.go_within.new.jobs (made_of c.args.builder.now)
    (made_of c.go_within.new.builder) c.args.source.now c.in-Some.levels (omega (arith, c.in-Some.ensures)) is reads)
    c.go_within.ensures
