use Rattle.std.proofs.Common.{take}
use Rattle.flow.specs.Marked.{AreMarks}
use Rattle.flow.proofs.marking.marks_of.Given as goal

abbrev pub invariant-loop-number : goal.invariant-loop-number
invariant-loop-number l = AreMarks (take l.number-index l.numbers) l.marks.items
