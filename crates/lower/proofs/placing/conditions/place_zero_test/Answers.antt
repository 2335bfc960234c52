-- The kind of the value is that of the definition.
use Rattle.lower.specs.Built.{made_of}
use Rattle.lower.proofs.CountsLead.{zero_by}
use Rattle.lower.proofs.JobsLead.{then_ok}
use Rattle.lower.proofs.placing.conditions.place_zero_test.Goals as goal

pub returns : goal.returns
returns c = then_ok _ _ c.zero_test_of.result
    (λ is. record {
      of = λ p around reads.
          zero_by p around c.args.levels c.args.from c.args.jobs.now _ (made_of c.args.builder.now) _ c.args.expr.now c.args.spare c.args.off c.args.on _
          (c.in_ok-kind.ensures.of p reads.reads) (is p around);
    })
    c.zero_test_of.ensures
