use Rattle.std.proofs.Common.{◌≡◌, ◌+◌, drop, arith}
use Rattle.std.specs.Prelude.{nat_le}
use Rattle.planes.specs.Lanes.{low_front}
use Rattle.planes.proofs.Lanes.{passed}
use Rattle.planes.proofs.search.low_front.Goals as goal

pub loop-at-preserved : goal.loop-at-preserved
loop-at-preserved c =
    let more : low_front c.args.class (drop c.loop-at.at c.args.bytes.now) ≡ 32 + low_front c.args.class (drop (c.loop-at.at + 32) c.args.bytes.now) =
    passed (λ other. nat_le other c.args.class) c.args.bytes.now c.loop-at.at (omega arith) (c.are_low.ensures.0 c.if-are_low.true) in
    record { within = omega arith; front = omega (arith, c.loop-at.invariant.front) }
