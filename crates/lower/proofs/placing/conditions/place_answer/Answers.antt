-- What the condition lets go of is what the definition says.
use Rattle.lower.specs.Built.{made_of}
use Rattle.lower.proofs.CountsLead.{answer_by}
use Rattle.lower.proofs.JobsLead.{then_ok}
use Rattle.lower.proofs.placing.conditions.place_answer.Goals as goal

pub returns : goal.returns
returns c = then_ok _ _ c.answer_with.result
    (λ is. record {
      of = λ p around reads.
          answer_by p around c.args.levels c.args.from c.args.jobs.now _ (made_of c.args.builder.now) _ c.args.expr.now c.args.spare c.args.into c.args.size c.args.to _
          (c.in_ok-count.ensures.of p reads) (is p around);
    })
    c.answer_with.ensures
