use Rattle.std.proofs.Common.{◌∙◌, sym, ap, drop, ◌+◌, arith}
use Rattle.std.specs.Prelude.{◌&&◌}
use Rattle.planes.specs.Lanes.{are_at_most}
use Rattle.planes.proofs.Lanes.{both_passed}
use Rattle.planes.proofs.search.is_at_most.Goals as goal

pub loop-at-preserved : goal.loop-at-preserved
loop-at-preserved c = record {
  within = omega arith;
  rest =
      sym (both_passed c.args.left.now c.args.right.now c.loop-at.at _ (omega arith) (omega arith) c.are_below.ensures
      ∙ ap (λ b. b && are_at_most (drop (c.loop-at.at + 32) c.args.left.now) (drop (c.loop-at.at + 32) c.args.right.now)) c.if-not-are_below.false)
      ∙ c.loop-at.invariant.rest;
}

pub returns-then-not-are_below : goal.returns-then-not-are_below
returns-then-not-are_below c =
    sym (sym c.loop-at.invariant.rest
    ∙ both_passed c.args.left.now c.args.right.now c.loop-at.at _ (omega arith) (omega arith) c.are_below.ensures
    ∙ ap (λ b. b && are_at_most (drop (c.loop-at.at + 32) c.args.left.now) (drop (c.loop-at.at + 32) c.args.right.now)) c.if-not-are_below.true)
