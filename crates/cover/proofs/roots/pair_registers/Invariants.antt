use Rattle.std.proofs.Common.{◌-◌, length}
use Rattle.graph.specs.Meaning.{maps_of}
use Rattle.graph.specs.declared.parts.Held.{Held}
use Rattle.cover.specs.Covers.{content, Values}
use Rattle.cover.specs.Found.{Naming}
use Rattle.cover.proofs.roots.pair_registers.Given as goal

abbrev pub invariant-loop-at : goal.invariant-loop-at
invariant-loop-at l = Naming (maps_of l.wide) (maps_of l.narrow) (λ (held : Held). held.register) (λ (held : Held). held.register) (λ held other. Values held.value (content (maps_of l.narrow) other.value)) l.wide.registers l.narrow.registers l.fn.found l.found l.at

abbrev pub decreases-loop-at : goal.decreases-loop-at
decreases-loop-at l = length l.wide.registers - l.at
