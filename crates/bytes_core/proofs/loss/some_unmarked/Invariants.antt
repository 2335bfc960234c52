use Rattle.std.proofs.Common.{◌≡◌, drop}
use Rattle.bytes_core.specs.Marking.{some_unmarked}
use Rattle.bytes_core.proofs.loss.some_unmarked.Given as goal

abbrev pub invariant-loop-place : goal.invariant-loop-place
invariant-loop-place l = some_unmarked l.blocks l.marks l.place (drop l.place l.numbers) ≡ some_unmarked l.blocks l.marks 0 l.numbers
