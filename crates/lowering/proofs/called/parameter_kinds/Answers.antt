-- One kind more.
use Rattle.std.proofs.Common.{sym, ◌∙◌, arith}
use Rattle.lowering.proofs.CalledParts.{one_kind_more}
use Rattle.lowering.proofs.called.parameter_kinds.Goals as goal

pub loop-at-preserved : goal.loop-at-preserved
loop-at-preserved c = (
  omega (arith, c.loop-at-test.true),
  one_kind_more _ c.text-in-loop-at.result.now _ _ _ _ _ c.text-in-loop-at.ensures c.loop-at.invariant.1
      (λ n p stands. sym c.in-Some.is ∙ c.parameter_kind.ensures n p stands) c.in_ok-push-in-Some.ensures.ok,
)
