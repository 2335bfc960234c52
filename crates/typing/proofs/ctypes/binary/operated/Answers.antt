-- The numbers of types that are found are those of the operands.
use Rattle.typing.proofs.ctypes.binary.operated.Goals as goal

pub returns-in-Arithmetic-clause-below : goal.returns-in-Arithmetic-clause-below
returns-in-Arithmetic-clause-below c = λ count l r. c.arithmetic.ensures.below count

pub returns-in-Shift-clause-below : goal.returns-in-Shift-clause-below
returns-in-Shift-clause-below c = λ count l r. c.shifted.ensures.below count

pub returns-in-Order-clause-below : goal.returns-in-Order-clause-below
returns-in-Order-clause-below c = λ count l r. c.ordered.ensures.below count

pub returns-in-Equality-clause-below : goal.returns-in-Equality-clause-below
returns-in-Equality-clause-below c = λ count l r. c.equated.ensures.below count

pub returns-in-Logic-clause-below : goal.returns-in-Logic-clause-below
returns-in-Logic-clause-below c = λ count l r. c.tested.ensures.below count

pub returns-in-Sum-clause-below : goal.returns-in-Sum-clause-below
returns-in-Sum-clause-below c = λ count l r. c.added.ensures.below count (c.decayed-first.ensures.below count l.1) (c.decayed-second.ensures.below count r.1)

pub returns-in-Difference-clause-below : goal.returns-in-Difference-clause-below
returns-in-Difference-clause-below c = λ count l r. c.subtracted.ensures.below count (c.decayed-first.ensures.below count l.1) (c.decayed-second.ensures.below count r.1)

pub returns-in-Sequence-clause-below : goal.returns-in-Sequence-clause-below
returns-in-Sequence-clause-below c = λ count l r. c.sequenced.ensures.below count r.1 r.0
