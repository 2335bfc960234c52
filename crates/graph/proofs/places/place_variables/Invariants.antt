use Rattle.std.proofs.Common.{◌≡◌, ◌++◌, map, take, drop}
use Rattle.graph.specs.Renaming.{place_among}
use Rattle.graph.specs.declared.parts.Named.{Named}
use Rattle.graph.proofs.places.place_variables.Given as goal

abbrev pub invariant-loop-named : goal.invariant-loop-named
invariant-loop-named l = l.variables ≡ map (λ (named : Named). (let n : Named = record { variable = named.variable; object = place_among l.keys named.object } in n)) (take l.named-index l.fn.variables) ++ drop l.named-index l.fn.variables
