-- The table of types is no shorter than before.
use Rattle.expression_rows.proofs.Growing.{longer_by, is_longer_still}
use Rattle.expression_rows.proofs.types.number_of.Goals as goal

pub returns-in-PointerTo-clause-longer : goal.returns-in-PointerTo-clause-longer
returns-in-PointerTo-clause-longer c = is_longer_still _ _ _ _ c.pointer_to.result c.in_ok-item.ensures.longer c.pointer_to.ensures

pub returns-in-ArrayOf-clause-longer : goal.returns-in-ArrayOf-clause-longer
returns-in-ArrayOf-clause-longer c = is_longer_still _ _ _ _ c.array_of.result c.in_ok-item.ensures.longer c.array_of.ensures

pub returns-in_ok-row-in-GridOf-clause-longer : goal.returns-in_ok-row-in-GridOf-clause-longer
returns-in_ok-row-in-GridOf-clause-longer c =
    is_longer_still _ _ _ _ c.array_of-in-GridOf-2.result
    (longer_by _ _ _ _ _ c.in_ok-item.ensures.longer c.in_ok-row-in-GridOf.ensures)
    c.array_of-in-GridOf-2.ensures
