use Rattle.std.proofs.Common.{rules, map}
use Rattle.driver.specs.Peers.{mask_key}
use Rattle.driver.proofs.Walked.{walked_on, walked_down}
use Rattle.driver.proofs.masking.has_mask.Goals as goal

pub loop-mark-smaller : goal.loop-mark-smaller
loop-mark-smaller c = walked_down (map mask_key c.args.masks.now.items) c.args.masks.now.newest.items c.args.masks.now.before.items c.as_slice-in-loop-mark-2.result.now
    c.args.point (λ number. Unit {0}) c.loop-mark.mark c.mark_in-mark-in-loop-mark.result c.requires.linked c.loop-mark.invariant (search rules) c.as_slice-in-loop-mark-2.ensures.value c.mark_in-mark-in-loop-mark.ensures

pub loop-mark-preserved : goal.loop-mark-preserved
loop-mark-preserved c = walked_on (map mask_key c.args.masks.now.items) c.args.masks.now.newest.items c.args.masks.now.before.items c.as_slice-in-loop-mark-2.result.now
    c.args.point (λ number. Unit {0}) c.loop-mark.mark c.mark_in-mark-in-loop-mark.result c.requires.linked c.loop-mark.invariant (search rules) tt c.as_slice-in-loop-mark-2.ensures.value c.mark_in-mark-in-loop-mark.ensures
