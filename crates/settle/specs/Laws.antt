-- What settling keeps, and a graph that is settled by hand.
use Rattle.std.specs.Prelude.{◌≡◌, ℕ, Bool, true, false, List, [], ◌∷◌, replicate, pos}
use Rattle.std.specs.List.{list_all}
use Rattle.std.specs.Option.{option_map_or}
use Rattle.graph.specs.declared.object.Object.{Object}
use Rattle.graph.specs.declared.object.Shape.TheVariants.{Region as RegionShape, Segment}
use Rattle.graph.specs.declared.value.Target.TheVariants.{Region, First}
use Rattle.graph.specs.declared.value.Value.{Value}
use Rattle.graph.specs.declared.value.Value.TheVariants.{Const, Number, Any, Address}
use Rattle.graph.specs.declared.parts.Parts.{Parts}
use Rattle.graph.specs.Nodes.{is_region}
use Rattle.graph.specs.Whole.{entries_of}
use Rattle.bytes_core.specs.declared.block.BlockKind.TheVariants.{Heap}
use Rattle.settle.specs.Settled.{value_held, settled}

abbrev pub is_any : Value → Bool
is_any (Const number size) = false
is_any (Number size) = false
is_any Any = true
is_any (Address object offset target) = false

-- a register holds a value of which nothing is known
abbrev pub holds_any : Parts → ℕ → Bool
holds_any parts register = option_map_or is_any (value_held parts register) false

-- the same registers do in both
abbrev pub HoldAnyAlike : Parts → Parts → Type 0
HoldAnyAlike parts after = (register : ℕ) → holds_any after register ≡ holds_any parts register

-- there is no segment
abbrev pub has_regions_alone : Parts → Bool
has_regions_alone parts = list_all (λ entry. is_region entry.object.shape) parts.objects

-- a segment of nodes of eight bytes, each of which leads to the next one; behind it lies the value with a key
abbrev pub singly : ℕ → Object
singly behind = record { size = 8; kind = Heap; live = true; shape = Segment false 0 0 0 0 0 behind 3 (record { edges = []; plane = replicate 8 2 }); edges = []; plane = [] }

-- the node of such a segment as a region
abbrev pub node : ℕ → Object
node next = record { size = 8; kind = Heap; live = true; shape = RegionShape; edges = record { at = 0; size = 8; value = next } ∷ []; plane = replicate 8 2 }

-- registers 5 and 7 hold two values, of which there are others
abbrev pub holding : List Object → List Value → Parts
holding objects values = entries_of (record {
  objects = objects;
  values = values;
  variables = [];
  registers = record { register = 5; value = 0 } ∷ record { register = 7; value = 1 } ∷ [];
  ports = [];
  unequal = [];
})

-- register 5 holds the address of the first node of a segment, behind which lies another, and behind that 0; register 7 holds the address of a node of that
abbrev pub in_a_row : Parts
in_a_row = holding (singly 1 ∷ singly 3 ∷ []) (Address 0 (pos 0) First ∷ Address 1 (pos 0) First ∷ Any ∷ Const 0 8 ∷ [])

pub record SettledRows : Type 0 where
  -- of a register that is asked for twice: neither has nodes; the first has none, and the second one; the first has one
  pub one : settled (5 ∷ 5 ∷ []) in_a_row
      ≡ holding [] (Const 0 8 ∷ Const 0 8 ∷ Any ∷ Const 0 8 ∷ [])
      ∷ holding (singly 3 ∷ node 4 ∷ []) (Address 1 (pos 0) Region ∷ Address 1 (pos 0) Region ∷ Any ∷ Const 0 8 ∷ Address 0 (pos 0) First ∷ [])
      ∷ holding (singly 1 ∷ singly 3 ∷ node 4 ∷ []) (Address 2 (pos 0) Region ∷ Address 1 (pos 0) First ∷ Any ∷ Const 0 8 ∷ Address 0 (pos 0) First ∷ [])
      ∷ []
  -- of the second register alone
  pub other : settled (7 ∷ []) in_a_row
      ≡ holding (singly 1 ∷ []) (Address 0 (pos 0) First ∷ Const 0 8 ∷ Any ∷ Const 0 8 ∷ [])
      ∷ holding (singly 1 ∷ singly 3 ∷ node 4 ∷ []) (Address 0 (pos 0) First ∷ Address 2 (pos 0) Region ∷ Any ∷ Const 0 8 ∷ Address 1 (pos 0) First ∷ [])
      ∷ []
  -- of none
  pub none : settled [] in_a_row ≡ in_a_row ∷ []
