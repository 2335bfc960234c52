use Rattle.std.proofs.Common.{rules, length}
use Rattle.driver.proofs.Masked.{mask_found}
use Rattle.driver.proofs.Slotted.{no_print, mask_told}
use Rattle.driver.proofs.looking.is_covered_by_mask.Goals as goal

pub returns-in-None-fingerprint : goal.returns-in-None-fingerprint
returns-in-None-fingerprint c = no_print c.args.work.now.trail c.args.work.now.masks.items c.args.work.now.counts.items c.args.point c.args.graph.now c.args.which c.args.live c.in-Some.mask.now
    c.requires.counted c.requires.live (mask_found c.args.work.now.masks.items c.as_slice.result.now c.args.which c.in-Some.mask.now c.as_slice.ensures c.in-Some.ensures.lookup.3.0 c.in-Some.ensures.lookup.1) (search rules)

pub returns-in_ok-found-in-Some-fingerprint : goal.returns-in_ok-found-in-Some-fingerprint
returns-in_ok-found-in-Some-fingerprint c = mask_told c.args.work.now.trail c.args.work.now.masks.items c.args.work.now.counts.items c.args.point c.args.graph.now c.args.which c.args.live c.in-Some.mask.now
    c.requires.counted c.requires.live (mask_found c.args.work.now.masks.items c.as_slice.result.now c.args.which c.in-Some.mask.now c.as_slice.ensures c.in-Some.ensures.lookup.3.0 c.in-Some.ensures.lookup.1) (length c.args.work.now.slots.items) c.in-Some-fingerprint.print c.slot_of-slot.result (search rules) (search rules)
    c.in_ok-found-in-Some-fingerprint.found c.in_ok-found-in-Some-fingerprint.ensures
