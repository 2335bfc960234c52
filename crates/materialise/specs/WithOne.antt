-- The case in which a segment has a node.
use Rattle.std.specs.Prelude.{◌≢◌, ℕ, ◌^◌, Bool, false, List, [], ◌∷◌, nat_lt, is_some, FitsSigned}
use Rattle.std.specs.Int.{w64}
use Rattle.std.specs.Option.{option_map_or}
use Rattle.graph.specs.declared.parts.KeyedValue.{KeyedValue}
use Rattle.graph.specs.declared.parts.Parts.{Parts}
use Rattle.graph.specs.declared.value.Value.{Value}
use Rattle.graph.specs.declared.value.Value.TheVariants.{Const, Number, Any, Address}
use Rattle.graph.specs.Meaning.{Assignment, Meets, maps_of}
use Rattle.graph.specs.State.{State}
use Rattle.materialise.specs.Dropped.{links_at}

-- a segment stands at a key
abbrev pub is_segment : Parts → ℕ → Bool
is_segment parts key = is_some (links_at parts key)

-- its nodes are linked both ways
abbrev pub is_twofold : Parts → ℕ → Bool
is_twofold parts key = option_map_or (λ links. links.twofold) (links_at parts key) false

-- the place to which links lead in its nodes is a number of 63 bits
abbrev pub has_head : Parts → ℕ → Bool
has_head parts key = option_map_or (λ links. nat_lt links.head (2 ^ 63)) (links_at parts key) false

-- the offset of an address is a number of 64 bits with a sign. Where a segment has one node, an address of its last node is that of the node, at
-- its offset; without that node it is what lies before, moved, and an offset that is moved wraps
abbrev pub HasOffset : Value → Type 0
HasOffset (Const number size) = Unit {0}
HasOffset (Number size) = Unit {0}
HasOffset Any = Unit {0}
HasOffset (Address object offset target) = FitsSigned w64 offset

-- so are those of all these values
abbrev pub HaveOffsets : List KeyedValue → Type 0
HaveOffsets [] = Unit {0}
HaveOffsets (entry ∷ rest) = HasOffset entry.value × HaveOffsets rest

-- the graph stands for the state with a block at the object
pub record StandsWithOne (parts : Parts) (key : ℕ) (state : State) : Type 0 where
  pub given : Assignment
  pub meets : Meets (maps_of parts) state given
  pub one : given.blocks key ≢ []
