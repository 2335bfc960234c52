-- What is listed so far and the items that are still to come make up the items of all numbers.
use Rattle.std.proofs.Common.{◌≡◌, ◌++◌, drop}
use Rattle.ccheck.specs.Needed.{spans_of}
use Rattle.ccheck.proofs.checking.spans_of.Given as goal

abbrev pub invariant-loop-number : goal.invariant-loop-number
invariant-loop-number l = l.spans ++ spans_of l.items (drop l.number-index l.numbers) ≡ spans_of l.items l.numbers
