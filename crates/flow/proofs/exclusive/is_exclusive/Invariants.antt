use Rattle.std.proofs.Common.{◌≡◌, ℕ, ◌<◌, true}
use Rattle.flow.specs.Exclusive.{are_exclusive}
use Rattle.flow.specs.Valid.{edges_out}
use Rattle.flow.proofs.exclusive.is_exclusive.Given as goal

abbrev pub invariant-loop-point : goal.invariant-loop-point
invariant-loop-point l = (point : ℕ) → point < l.point → are_exclusive (edges_out l.flow point) ≡ true
