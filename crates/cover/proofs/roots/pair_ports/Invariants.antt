use Rattle.std.proofs.Common.{◌-◌, ℕ, length}
use Rattle.graph.specs.Meaning.{maps_of}
use Rattle.cover.specs.Covers.{content, Values}
use Rattle.cover.specs.Found.{Naming}
use Rattle.cover.proofs.roots.pair_ports.Given as goal

abbrev pub invariant-loop-at : goal.invariant-loop-at
invariant-loop-at l = Naming (maps_of l.wide) (maps_of l.narrow) (λ (key : ℕ). 0) (λ (key : ℕ). 0) (λ key other. Values key (content (maps_of l.narrow) other)) l.wide.ports l.narrow.ports l.fn.found l.found l.at

abbrev pub decreases-loop-at : goal.decreases-loop-at
decreases-loop-at l = length l.wide.ports - l.at
