use Rattle.std.proofs.Common.{◌≡◌, map}
use Rattle.graph.specs.Renaming.{place_among, renamed_object}
use Rattle.graph.proofs.places.place_objects.Given as goal

abbrev pub invariant-loop-entry : goal.invariant-loop-entry
invariant-loop-entry l = l.placed ≡ map (λ entry. renamed_object (place_among l.keys) entry.object) l.yielded
