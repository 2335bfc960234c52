-- The numbers of types that are found are those of the operands.
use Rattle.typing.proofs.ctypes.unary.operated_alone.Goals as goal

pub returns-in-Plus-clause-below : goal.returns-in-Plus-clause-below
returns-in-Plus-clause-below c = λ count h. c.signed.ensures.below count

pub returns-in-Follow-clause-below : goal.returns-in-Follow-clause-below
returns-in-Follow-clause-below c = λ count h. c.followed.ensures.below count h.1

pub returns-then-is_scalar-clause-below : goal.returns-then-is_scalar-clause-below
returns-then-is_scalar-clause-below c = λ count h. c.int.ensures.below count
