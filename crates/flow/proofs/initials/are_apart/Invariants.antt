-- The rest decides.
use Rattle.std.proofs.Common.{◌≡◌, length}
use Rattle.flow.specs.Deciding.{are_apart}
use Rattle.flow.proofs.initials.are_apart.Given as goal

abbrev pub invariant-loop-first : goal.invariant-loop-first
invariant-loop-first l = are_apart l.scalars ≡ are_apart l.fn.scalars

abbrev pub decreases-loop-first : goal.decreases-loop-first
decreases-loop-first l = length l.scalars
