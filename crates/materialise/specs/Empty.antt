-- The case in which a segment has no nodes.
use Rattle.std.specs.Prelude.{◌≡◌, ℕ, Bool, false, [], nat_eq}
use Rattle.std.specs.Option.{option_map_or}
use Rattle.graph.specs.declared.parts.Parts.{Parts}
use Rattle.graph.specs.Meaning.{Assignment, Meets, maps_of}
use Rattle.graph.specs.State.{State}
use Rattle.materialise.specs.Dropped.{links_at}

-- a segment that may have no nodes stands at a key
abbrev pub may_be_empty : Parts → ℕ → Bool
may_be_empty parts key = option_map_or (λ links. nat_eq links.least 0) (links_at parts key) false

-- the graph stands for the state with no block at the object
pub record StandsWithout (parts : Parts) (key : ℕ) (state : State) : Type 0 where
  pub given : Assignment
  pub meets : Meets (maps_of parts) state given
  pub empty : given.blocks key ≡ []
