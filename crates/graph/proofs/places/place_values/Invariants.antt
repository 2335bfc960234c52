use Rattle.std.proofs.Common.{◌≡◌, map, take}
use Rattle.graph.specs.Renaming.{place_among, renamed_value}
use Rattle.graph.proofs.places.place_values.Given as goal

abbrev pub invariant-loop-entry : goal.invariant-loop-entry
invariant-loop-entry l = l.placed ≡ map (λ entry. renamed_value (place_among l.keys) entry.value) (take l.entry-index l.values)
