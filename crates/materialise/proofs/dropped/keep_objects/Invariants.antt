use Rattle.std.proofs.Common.{◌≡◌, not, map, nat_eq}
use Rattle.std.specs.List.{filter}
use Rattle.materialise.specs.Beyond.{value_after}
use Rattle.materialise.specs.Dropped.{entry_now}
use Rattle.materialise.proofs.dropped.keep_objects.Given as goal

abbrev pub invariant-loop-entry : goal.invariant-loop-entry
invariant-loop-entry l = l.kept ≡ filter (λ entry. not (nat_eq entry.key l.key)) (map (entry_now (value_after l.graph l.key l.links)) l.yielded)
