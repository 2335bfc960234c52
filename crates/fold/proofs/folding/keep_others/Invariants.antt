use Rattle.std.proofs.Common.{◌≡◌, not, nat_eq}
use Rattle.std.specs.List.{filter}
use Rattle.fold.proofs.folding.keep_others.Given as goal

abbrev pub invariant-loop-entry : goal.invariant-loop-entry
invariant-loop-entry l = l.kept ≡ filter (λ entry. not (nat_eq entry.key l.key)) l.yielded
