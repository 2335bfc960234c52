use Rattle.std.proofs.Common.{rules, map, ◌-◌}
use Rattle.driver.specs.Peers.{mask_key, IsNoneOfMask}
use Rattle.driver.proofs.Slotted.{mask_fails, masks_last}
use Rattle.driver.proofs.Walked.{walked_on}
use Rattle.driver.proofs.looking.is_covered.Goals as goal

pub loop-mark-preserved : goal.loop-mark-preserved
loop-mark-preserved c = walked_on (map mask_key c.args.work.now.masks.items) c.args.work.now.masks.newest.items c.args.work.now.masks.before.items c.as_slice-in-loop-mark.result.now
    c.args.point (IsNoneOfMask c.args.work.now.trail c.args.work.now.masks.items c.args.point c.args.graph.now) c.loop-mark.mark c.mark_in-mark-in-loop-mark.result c.requires.peers.by_point c.loop-mark.invariant (search rules)
    (mask_fails c.args.work.now.trail c.args.work.now.masks.items c.args.point c.args.graph.now (c.loop-mark.mark - 1) c.in_ok-is_covered_by_mask.field-0 c.in_ok-is_covered_by_mask.ensures (search rules))
    c.as_slice-in-loop-mark.ensures.value c.mark_in-mark-in-loop-mark.ensures

pub returns : goal.returns
returns c = masks_last c.args.work.now.trail c.args.work.now.masks.items c.args.point c.args.graph.now c.loop-mark.mark c.requires.peers.masked c.loop-mark.invariant (search rules)
