-- What the condition and the arms let go of, and the kind, are those of the definition.
use Rattle.std.proofs.Common.{refl}
use Rattle.lower.specs.Built.{made_of}
use Rattle.lower.proofs.CountsLead.{choose_by}
use Rattle.lower.proofs.JobsLead.{then_ok}
use Rattle.lower.proofs.placing.arms.place_choose.Goals as goal

pub returns : goal.returns
returns c = then_ok _ _ c.place_choice.result
    (λ is. record {
      of = λ p around reads.
          choose_by p around c.args.levels c.args.from c.args.jobs.now _ (made_of c.args.builder.now) _ c.args.expr.now c.args.test.now c.args.one.now c.args.other.now c.args.spare c.args.into
          c.args.to _ _ _ _ _ (c.in_ok-own.ensures.of p reads.reads) refl (c.in_ok-tested.ensures.of p reads) (c.in_ok-left_one.ensures.of p reads)
          (c.in_ok-left_other.ensures.of p reads) (is p around);
    })
    c.place_choice.ensures
