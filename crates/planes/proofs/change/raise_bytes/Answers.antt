use Rattle.std.proofs.Common.{◌≡◌, ◌+◌, ◌≤◌, length, ◌∙◌, ap, arith}
use Rattle.planes.specs.Classes.{highest}
use Rattle.planes.proofs.Pairs.{length_highest}
use Rattle.planes.proofs.Made.{made_none, made_lanes, made_byte, made_all, highest_lane, highest_length, highest_byte}
use Rattle.planes.proofs.change.raise_bytes.Goals as goal

pub loop-bytes-init : goal.loop-bytes-init
loop-bytes-init c = made_none c.args.bytes.now (highest c.args.bytes.now c.args.others.now)

pub loop-bytes-preserved : goal.loop-bytes-preserved
loop-bytes-preserved c =
    let long : length c.loop-bytes.bytes ≡ length c.args.bytes.now = c.loop-bytes.invariant.long in
    let room : c.loop-bytes.at + 32 ≤ length c.loop-bytes.bytes = omega arith in
    made_lanes c.loop-bytes.at c.loop-bytes.bytes c.args.bytes.now (highest c.args.bytes.now c.args.others.now) c.higher-lanes.result c.loop-bytes.invariant room
    (ap length c.higher-lanes.ensures ∙ highest_length c.loop-bytes.at c.loop-bytes.bytes c.args.others.now room (omega arith))
    (λ k before. highest_lane c.loop-bytes.at k c.loop-bytes.bytes c.args.bytes.now c.args.others.now c.higher-lanes.result c.loop-bytes.invariant c.requires room c.higher-lanes.ensures before)

pub loop-at-preserved : goal.loop-at-preserved
loop-at-preserved c =
    made_byte c.loop-at.at c.loop-at.bytes c.args.bytes.now (highest c.args.bytes.now c.args.others.now) c.max.result c.loop-at.invariant c.loop-at-test.true
    (highest_byte c.loop-at.at c.max.result c.loop-at.bytes c.args.bytes.now c.args.others.now c.loop-at.invariant c.requires c.max.ensures)

pub returns : goal.returns
returns c = made_all c.loop-at.at c.loop-at.bytes c.args.bytes.now (highest c.args.bytes.now c.args.others.now) c.loop-at.invariant c.loop-at-test.false (length_highest c.args.bytes.now c.args.others.now c.requires)
