use Rattle.std.proofs.Common.{◌≡◌, ◌++◌, map, take, drop}
use Rattle.graph.specs.Renaming.{place_among, renamed_pair}
use Rattle.graph.proofs.places.place_pairs.Given as goal

abbrev pub invariant-loop-pair : goal.invariant-loop-pair
invariant-loop-pair l = l.pairs ≡ map (renamed_pair (place_among l.keys)) (take l.pair-index l.fn.pairs) ++ drop l.pair-index l.fn.pairs
