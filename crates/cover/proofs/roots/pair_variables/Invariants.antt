use Rattle.std.proofs.Common.{◌-◌, length}
use Rattle.graph.specs.Meaning.{maps_of}
use Rattle.graph.specs.declared.parts.Named.{Named}
use Rattle.cover.specs.Covers.{Objects}
use Rattle.cover.specs.Found.{Naming}
use Rattle.cover.proofs.roots.pair_variables.Given as goal

abbrev pub invariant-loop-at : goal.invariant-loop-at
invariant-loop-at l = Naming (maps_of l.wide) (maps_of l.narrow) (λ (named : Named). named.variable) (λ (named : Named). named.variable) (λ named other. Objects named.object other.object) l.wide.variables l.narrow.variables l.fn.found l.found l.at

abbrev pub decreases-loop-at : goal.decreases-loop-at
decreases-loop-at l = length l.wide.variables - l.at
