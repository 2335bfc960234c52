use Rattle.std.proofs.Common.{◌≡◌, ◌++◌, not, length}
use Rattle.std.specs.List.{filter}
use Rattle.changes.specs.Parts.{is_among}
use Rattle.changes.proofs.registers.keep_others.Given as goal

abbrev pub invariant-loop-left : goal.invariant-loop-left
invariant-loop-left l = l.fn.kept ++ filter (λ held. not (is_among l.gone held.register)) l.registers ≡ l.kept ++ filter (λ held. not (is_among l.gone held.register)) l.left

abbrev pub decreases-loop-left : goal.decreases-loop-left
decreases-loop-left l = length l.left
