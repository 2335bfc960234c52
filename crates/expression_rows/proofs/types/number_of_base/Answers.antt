-- Each number that the context gives is below the length of the table of types, which is no shorter than before.
use Rattle.expression_rows.proofs.Growing.{is_below, is_longer}
use Rattle.expression_rows.proofs.types.number_of_base.Goals as goal

pub returns-in-Void-clause-below : goal.returns-in-Void-clause-below
returns-in-Void-clause-below c = is_below _ _ _ c.void.result c.void.ensures

pub returns-in-Void-clause-longer : goal.returns-in-Void-clause-longer
returns-in-Void-clause-longer c = is_longer _ _ _ c.void.result c.void.ensures

pub returns-in-Bool-clause-below : goal.returns-in-Bool-clause-below
returns-in-Bool-clause-below c = is_below _ _ _ c.boolean.result c.boolean.ensures

pub returns-in-Bool-clause-longer : goal.returns-in-Bool-clause-longer
returns-in-Bool-clause-longer c = is_longer _ _ _ c.boolean.result c.boolean.ensures

pub returns-in-Integer-clause-below : goal.returns-in-Integer-clause-below
returns-in-Integer-clause-below c = is_below _ _ _ c.integer.result c.integer.ensures

pub returns-in-Integer-clause-longer : goal.returns-in-Integer-clause-longer
returns-in-Integer-clause-longer c = is_longer _ _ _ c.integer.result c.integer.ensures

pub returns-in-Long-clause-below : goal.returns-in-Long-clause-below
returns-in-Long-clause-below c = is_below _ _ _ c.integer-in-Long.result c.integer-in-Long.ensures

pub returns-in-Long-clause-longer : goal.returns-in-Long-clause-longer
returns-in-Long-clause-longer c = is_longer _ _ _ c.integer-in-Long.result c.integer-in-Long.ensures

pub returns-in-Struct-clause-below : goal.returns-in-Struct-clause-below
returns-in-Struct-clause-below c = is_below _ _ _ c.structure.result c.structure.ensures

pub returns-in-Struct-clause-longer : goal.returns-in-Struct-clause-longer
returns-in-Struct-clause-longer c = is_longer _ _ _ c.structure.result c.structure.ensures
