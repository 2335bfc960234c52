-- The rest decides.
use Rattle.std.proofs.Common.{◌≡◌, length}
use Rattle.flow.specs.Holding.{size_of}
use Rattle.flow.proofs.standing.size_of.Given as goal

abbrev pub invariant-loop-first : goal.invariant-loop-first
invariant-loop-first l = size_of l.widths l.register ≡ size_of l.fn.widths l.register

abbrev pub decreases-loop-first : goal.decreases-loop-first
decreases-loop-first l = length l.widths
