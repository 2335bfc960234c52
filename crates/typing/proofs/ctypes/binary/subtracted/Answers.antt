-- The numbers of types that are found are those of the operands.
use Rattle.typing.proofs.ctypes.binary.subtracted.Goals as goal

pub returns-in-Integer-Integer-clause-below : goal.returns-in-Integer-Integer-clause-below
returns-in-Integer-Integer-clause-below c = λ count l r. c.integer.ensures.below count
