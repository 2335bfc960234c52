-- What both conditions let go of is what the definition says.
use Rattle.lower.specs.Built.{made_of}
use Rattle.lower.proofs.CountsLead.{both_by}
use Rattle.lower.proofs.JobsLead.{then_ok}
use Rattle.lower.proofs.placing.conditions.place_both.Goals as goal

pub returns : goal.returns
returns c = then_ok _ _ c.both_with.result
    (λ is. record {
      of = λ p around reads.
          both_by p around c.args.levels c.args.from c.args.jobs.now _ (made_of c.args.builder.now) _ c.args.expr.now c.args.left.now c.args.right.now c.args.spare _ _ c.args.off c.args.on
          c.args.both (c.in_ok-tested.ensures.of p reads) (c.in_ok-other.ensures.of p reads) (is p around);
    })
    c.both_with.ensures
