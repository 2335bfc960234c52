-- The kinds of both sides are those of the definition.
use Rattle.lower.specs.Built.{made_of}
use Rattle.lower.proofs.CountsLead.{equality_by}
use Rattle.lower.proofs.JobsLead.{then_ok}
use Rattle.lower.proofs.placing.conditions.place_equality.Goals as goal

pub returns : goal.returns
returns c = then_ok _ _ c.equality_of.result
    (λ is. record {
      of = λ p around reads.
          equality_by p around c.args.levels c.args.from c.args.jobs.now _ (made_of c.args.builder.now) _ c.args.op c.args.expr.now c.args.left.now c.args.right.now c.args.spare
          c.args.same c.args.differs _ _ (c.in_ok-left_kind.ensures.of p reads.reads) (c.in_ok-right_kind.ensures.of p reads.reads) (is p around);
    })
    c.equality_of.ensures
