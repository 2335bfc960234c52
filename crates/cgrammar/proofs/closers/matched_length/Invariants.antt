use Rattle.std.proofs.Common.{◌≡◌, ◌-◌, ◌≤◌, [], ◌∷◌, length, drop, reverse}
use Rattle.cgrammar.specs.ReadOperands.{behind_matched}
use Rattle.cgrammar.proofs.closers.matched_length.Given as goal

abbrev pub invariant-tokens : goal.invariant-tokens
invariant-tokens l = (behind_matched (reverse l.opened.items) (drop l.count l.row) ≡ behind_matched (l.closer ∷ []) l.row) × (l.count ≤ length l.row)

abbrev pub decreases-tokens : goal.decreases-tokens
decreases-tokens l = length l.row - l.count
