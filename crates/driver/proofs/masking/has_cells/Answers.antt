use Rattle.std.proofs.Common.{rules, refl}
use Rattle.driver.proofs.Masked.{mask_found, has_there}
use Rattle.driver.proofs.masking.has_cells.Goals as goal

pub returns-then-mask-point : goal.returns-then-mask-point
returns-then-mask-point c = has_there c.args.masks.now c.args.number c.args.point c.in-Some.mask.now c.as_slice.result.now c.args.cells.now c.are_same.result
    (mask_found c.args.masks.now c.args.masks.now c.args.number c.in-Some.mask.now refl c.in-Some.ensures.lookup.3.0 c.in-Some.ensures.lookup.1) (search rules) c.as_slice.ensures c.are_same.ensures
