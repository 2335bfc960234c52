-- A graph in which a number is known to be the same as another one or as a constant, and one in which two are known to differ.
use Rattle.std.specs.Prelude.{◌≡◌, ℕ, Bool, true, Some, ◌&&◌, ◌||◌, not, List, [], ◌∷◌, ◌++◌, map, nat_eq, if◌then◌else◌}
use Rattle.std.specs.List.{filter, fold, list_all}
use Rattle.planes.specs.Classes.{filled}
use Rattle.graph.specs.declared.edges.HasValue.{HasValue}
use Rattle.graph.specs.declared.object.Object.{Object}
use Rattle.graph.specs.declared.object.Shape.{Shape}
use Rattle.graph.specs.declared.object.Shape.TheVariants.{Region, Segment}
use Rattle.graph.specs.declared.template.Node.{Node}
use Rattle.graph.specs.declared.parts.Held.{Held}
use Rattle.graph.specs.declared.parts.KeyedObject.{KeyedObject}
use Rattle.graph.specs.declared.parts.Pair.{Pair}
use Rattle.graph.specs.declared.parts.Parts.{Parts}
use Rattle.graph.specs.declared.value.Value.{Value}
use Rattle.graph.specs.declared.value.Value.TheVariants.{Number}
use Rattle.graph.specs.Maps.{value_at}
use Rattle.graph.specs.Sizes.{is_zero, is_number}
use Rattle.graph.specs.WellFormed.{passes_at, is_unequal_pair, differs_from}

-- the one that may go is no constant, and the other one has its size
pub record MayMerge (parts : Parts) (kept gone : ℕ) : Type 0 where
  pub size : ℕ
  pub value : Value
  pub gone_is : value_at parts.values gone ≡ Some (Number size)
  pub kept_is : value_at parts.values kept ≡ Some value
  pub kept_number : is_number value size ≡ true

-- the key of one value, which goes, becomes that of another one, which is kept
abbrev pub merged_key : ℕ → ℕ → ℕ → ℕ
merged_key kept gone key = if nat_eq key gone then kept else key

abbrev pub merged_edge : ℕ → ℕ → HasValue → HasValue
merged_edge kept gone edge = record edge { value = merged_key kept gone edge.value }

-- edges that hold the one then hold the other; where that is the constant 0 there is no edge
abbrev pub merged_edges : Bool → ℕ → ℕ → List HasValue → List HasValue
merged_edges zero kept gone edges = if zero then filter (λ edge. not (nat_eq edge.value gone)) edges else map (merged_edge kept gone) edges

-- and the bytes of such an edge have class 0
abbrev pub cleared : ℕ → List HasValue → List ℕ → List ℕ
cleared gone [] plane = plane
cleared gone (edge ∷ rest) plane = cleared gone rest (if nat_eq edge.value gone then filled plane edge.at edge.size 0 else plane)

abbrev pub merged_plane : Bool → ℕ → List HasValue → List ℕ → List ℕ
merged_plane zero gone edges plane = if zero then cleared gone edges plane else plane

abbrev pub merged_node : Bool → ℕ → ℕ → Node → Node
merged_node zero kept gone node = record { edges = merged_edges zero kept gone node.edges; plane = merged_plane zero gone node.edges node.plane }

-- so it is in the nodes of segments; what lies beyond their ends is no number of which little is known
abbrev pub merged_shape : Bool → ℕ → ℕ → Shape → Shape
merged_shape zero kept gone Region = Region
merged_shape zero kept gone (Segment twofold head next prev back least next_value prev_value node) =
    Segment twofold head next prev back least next_value prev_value (merged_node zero kept gone node)

abbrev pub merged_object : Bool → ℕ → ℕ → Object → Object
merged_object zero kept gone object = record object {
  shape = merged_shape zero kept gone object.shape;
  edges = merged_edges zero kept gone object.edges;
  plane = merged_plane zero gone object.edges object.plane;
}

abbrev pub merged_entry : Bool → ℕ → ℕ → KeyedObject → KeyedObject
merged_entry zero kept gone entry = record { key = entry.key; object = merged_object zero kept gone entry.object }

abbrev pub merged_held : ℕ → ℕ → Held → Held
merged_held kept gone held = record { register = held.register; value = merged_key kept gone held.value }

-- a pair of which one is the value with a key
abbrev pub names_key : ℕ → Pair → Bool
names_key key pair = nat_eq pair.left key || nat_eq pair.right key

abbrev pub merged_pair : ℕ → ℕ → Pair → Pair
merged_pair kept gone pair = record { left = merged_key kept gone pair.left; right = merged_key kept gone pair.right }

-- pairs with one more, if it may be one and is none of them yet
abbrev pub noted : Parts → List Pair → Pair → List Pair
noted parts pairs pair = if is_unequal_pair parts pair && list_all (differs_from pair) pairs then pairs ++ pair ∷ [] else pairs

-- pairs of the one become pairs of the other; such as no graph has, as those of two constants, go
abbrev pub merged_pairs : Parts → ℕ → ℕ → List Pair → List Pair
merged_pairs parts kept gone pairs =
    fold (λ done pair. noted parts done (merged_pair kept gone pair)) (filter (λ pair. not (names_key gone pair)) pairs) (filter (names_key gone) pairs)

-- all that holds a number holds another value in its place. Of the number itself nothing is said any more
abbrev pub merged : ℕ → ℕ → Parts → Parts
merged kept gone parts = record {
  objects = map (merged_entry (passes_at parts is_zero kept) kept gone) parts.objects;
  values = parts.values;
  variables = parts.variables;
  registers = map (merged_held kept gone) parts.registers;
  ports = map (merged_key kept gone) parts.ports;
  unequal = merged_pairs parts kept gone parts.unequal;
}

-- two values are known to differ
abbrev pub with_unequal : ℕ → ℕ → Parts → Parts
with_unequal one other parts = record parts { unequal = parts.unequal ++ record { left = one; right = other } ∷ [] }
