use Rattle.std.proofs.Common.{◌≡◌, length, refl, sym, arith}
use lib.Lanes.{chunk}
use Rattle.std.proofs.lemmas.Simd.{length-chunk, get_or-chunk}
use Rattle.planes.proofs.Made.{made_none, made_lanes, made_byte, made_all}
use Rattle.planes.proofs.change.copy_bytes.Goals as goal

pub loop-bytes-init : goal.loop-bytes-init
loop-bytes-init c = made_none c.args.bytes.now c.args.others.now

pub loop-bytes-preserved : goal.loop-bytes-preserved
loop-bytes-preserved c =
    let long : length c.loop-bytes.bytes ≡ length c.args.bytes.now = c.loop-bytes.invariant.long in
    made_lanes c.loop-bytes.at c.loop-bytes.bytes c.args.bytes.now c.args.others.now (chunk c.loop-bytes.at 32 c.args.others.now) c.loop-bytes.invariant (omega arith)
    (length-chunk c.loop-bytes.at 32 c.args.others.now (omega arith))
    (λ k before. get_or-chunk c.loop-bytes.at 32 c.args.others.now k 0 before)

pub loop-at-preserved : goal.loop-at-preserved
loop-at-preserved c = made_byte c.loop-at.at c.loop-at.bytes c.args.bytes.now c.args.others.now _ c.loop-at.invariant c.loop-at-test.true refl

pub returns : goal.returns
returns c = made_all c.loop-at.at c.loop-at.bytes c.args.bytes.now c.args.others.now c.loop-at.invariant c.loop-at-test.false (sym c.requires)
