-- The numbers of types that are found are those of the operands.
use Rattle.typing.proofs.ctypes.choosing.chosen.Goals as goal

pub returns-clause-below : goal.returns-clause-below
returns-clause-below c = λ count l r. c.joined.ensures.below count (c.decayed.ensures.below count l.1) (c.decayed-2.ensures.below count r.1)
