use Rattle.std.proofs.Common.{◌≡◌, length, replicate, sym, arith}
use Rattle.std.proofs.lemmas.List.{length-replicate, get_or-replicate}
use Rattle.planes.proofs.Made.{made_none, made_lanes, made_byte, made_all, class_lane}
use Rattle.planes.proofs.change.fill_bytes.Goals as goal

pub loop-bytes-init : goal.loop-bytes-init
loop-bytes-init c = made_none c.args.bytes.now (replicate (length c.args.bytes.now) c.args.class)

pub loop-bytes-preserved : goal.loop-bytes-preserved
loop-bytes-preserved c =
    let long : length c.loop-bytes.bytes ≡ length c.args.bytes.now = c.loop-bytes.invariant.long in
    made_lanes c.loop-bytes.at c.loop-bytes.bytes c.args.bytes.now (replicate (length c.args.bytes.now) c.args.class) (replicate 32 c.args.class) c.loop-bytes.invariant (omega arith) (length-replicate 32 c.args.class)
    (λ k before. class_lane (length c.args.bytes.now) c.loop-bytes.at c.args.class k (omega arith) before)

pub loop-at-preserved : goal.loop-at-preserved
loop-at-preserved c =
    let long : length c.loop-at.bytes ≡ length c.args.bytes.now = c.loop-at.invariant.long in
    made_byte c.loop-at.at c.loop-at.bytes c.args.bytes.now (replicate (length c.args.bytes.now) c.args.class) c.args.class c.loop-at.invariant c.loop-at-test.true
    (sym (get_or-replicate (length c.args.bytes.now) c.loop-at.at c.args.class 0 (omega arith)))

pub returns : goal.returns
returns c = made_all c.loop-at.at c.loop-at.bytes c.args.bytes.now (replicate (length c.args.bytes.now) c.args.class) c.loop-at.invariant c.loop-at-test.false (length-replicate (length c.args.bytes.now) c.args.class)
