use Rattle.std.proofs.Common.{rules, map, length, ◌-◌}
use Rattle.driver.specs.Peers.{slot_key, IsNoPeer}
use Rattle.driver.proofs.Slotted.{peer_found, peer_fails}
use Rattle.driver.proofs.Walked.{walked_on, walked_down}
use Rattle.driver.proofs.looking.is_covered_in.Goals as goal

pub returns-then-branch : goal.returns-then-branch
returns-then-branch c = peer_found c.args.work.now.trail (length c.args.work.now.slots.items) c.args.slot c.args.point c.args.graph.now c.loop-mark.mark c.in_ok-peer_covers.field-0 c.loop-mark.invariant (search rules)
    c.in_ok-peer_covers.ensures (search rules)

pub loop-mark-smaller : goal.loop-mark-smaller
loop-mark-smaller c = walked_down (map (slot_key (length c.args.work.now.slots.items)) c.args.work.now.trail) c.args.work.now.slots.items c.args.work.now.earlier.items c.as_slice-in-loop-mark.result.now
    c.args.slot (IsNoPeer c.args.work.now.trail c.args.point c.args.graph.now) c.loop-mark.mark c.mark_in-mark-in-loop-mark.result c.requires.peers.by_slot c.loop-mark.invariant (search rules)
    c.as_slice-in-loop-mark.ensures.value c.mark_in-mark-in-loop-mark.ensures

pub loop-mark-preserved : goal.loop-mark-preserved
loop-mark-preserved c = walked_on (map (slot_key (length c.args.work.now.slots.items)) c.args.work.now.trail) c.args.work.now.slots.items c.args.work.now.earlier.items c.as_slice-in-loop-mark.result.now
    c.args.slot (IsNoPeer c.args.work.now.trail c.args.point c.args.graph.now) c.loop-mark.mark c.mark_in-mark-in-loop-mark.result c.requires.peers.by_slot c.loop-mark.invariant (search rules)
    (peer_fails c.args.work.now.trail c.args.point (c.loop-mark.mark - 1) c.args.graph.now c.in_ok-peer_covers.field-0 c.in_ok-peer_covers.ensures (search rules))
    c.as_slice-in-loop-mark.ensures.value c.mark_in-mark-in-loop-mark.ensures
