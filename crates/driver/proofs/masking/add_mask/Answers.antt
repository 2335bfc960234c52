use Rattle.std.proofs.Common.{rules}
use Rattle.driver.proofs.Booked.{mask_added}
use Rattle.driver.proofs.masking.add_mask.Goals as goal

pub returns : goal.returns
returns c = mask_added c.args.masks.now _ c.args.point c.mark_in-mark.result c.args.cells c.requires.linked c.requires.within (search rules) (search rules) (search rules) (search rules)
