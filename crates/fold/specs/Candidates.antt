-- Which neighbours the links of a graph name.
use Rattle.std.specs.Prelude.{ℕ, true, false, ◌&&◌, List, [], ◌∷◌, ◌++◌, nat_eq, nat_lt, Option, None, Some, ℤ, pos, negsuc, if◌then◌else◌}
use Rattle.std.specs.Option.{option_map_or}
use Rattle.fold.specs.declared.fold.Fold.{Fold}
use Rattle.graph.specs.declared.edges.HasValue.{HasValue}
use Rattle.graph.specs.declared.object.Object.{Object}
use Rattle.graph.specs.declared.object.Shape.{Shape}
use Rattle.graph.specs.declared.object.Shape.TheVariants.{Region as RegionShape, Segment}
use Rattle.graph.specs.declared.value.Value.{Value}
use Rattle.graph.specs.declared.value.Value.TheVariants.{Const, Number, Any, Address}
use Rattle.graph.specs.declared.parts.KeyedObject.{KeyedObject}
use Rattle.graph.specs.declared.parts.Parts.{Parts}
use Rattle.graph.specs.Maps.{object_at, value_at}

-- an offset as a place in a node
abbrev pub place_of : ℤ → Option ℕ
place_of (pos n) = if nat_lt n 4294967296 then Some n else None
place_of (negsuc n) = None

-- the place to which the address of an object with this key leads
abbrev pub place_in : ℕ → Value → Option ℕ
place_in key (Const number size) = None
place_in key (Number size) = None
place_in key Any = None
place_in key (Address object offset target) = if nat_eq object key then place_of offset else None

abbrev pub place_at : Parts → ℕ → ℕ → Option ℕ
place_at parts key value = option_map_or (place_in key) (value_at parts.values value) None

abbrev pub fold_back : ℕ → ℕ → ℕ → ℕ → ℕ → Option ℕ → List Fold
fold_back first second head next prev None = []
fold_back first second head next prev (Some back) = record { first = first; second = second; twofold = true; head = head; next = next; prev = prev; back = back } ∷ []

-- two regions are linked both ways where an edge of the second one leads back to the first; the link back lies behind the link on
abbrev pub twofold_at : Parts → ℕ → ℕ → ℕ → ℕ → HasValue → List Fold
twofold_at parts first second head next edge =
    if nat_lt next edge.at && nat_eq edge.size 8 then fold_back first second head next edge.at (place_at parts first edge.value) else []

abbrev pub twofold_folds : Parts → ℕ → ℕ → ℕ → ℕ → List HasValue → List Fold
twofold_folds parts first second head next [] = []
twofold_folds parts first second head next (edge ∷ edges) = twofold_at parts first second head next edge ++ twofold_folds parts first second head next edges

-- a segment among the two says how both are linked; of two regions each way is tried, both ways first
abbrev pub folds_behind : Parts → ℕ → ℕ → ℕ → ℕ → Shape → List HasValue → List Fold
folds_behind parts first second head next RegionShape edges =
    twofold_folds parts first second head next edges ++ record { first = first; second = second; twofold = false; head = head; next = next; prev = 0; back = 0 } ∷ []
folds_behind parts first second head next (Segment twofold head' next' prev back least next_value prev_value node) edges =
    record { first = first; second = second; twofold = twofold; head = head; next = next; prev = prev; back = back } ∷ []

abbrev pub folds_of : Parts → ℕ → ℕ → ℕ → ℕ → Shape → Shape → List HasValue → List Fold
folds_of parts first second head next RegionShape shape edges = folds_behind parts first second head next shape edges
folds_of parts first second head next (Segment twofold head' next' prev back least next_value prev_value node) shape edges =
    record { first = first; second = second; twofold = twofold; head = head; next = next; prev = prev; back = back } ∷ []

abbrev pub folds_with : Parts → ℕ → ℕ → ℕ → ℕ → Object → Option Object → List Fold
folds_with parts first second head next object None = []
folds_with parts first second head next object (Some other) =
    if nat_eq other.size object.size then folds_of parts first second head next object.shape other.shape other.edges else []

abbrev pub folds_to : Parts → ℕ → ℕ → Object → ℕ → Option ℕ → List Fold
folds_to parts first next object second None = []
folds_to parts first next object second (Some head) = folds_with parts first second head next object (object_at parts.objects second)

abbrev pub folds_from : Parts → ℕ → ℕ → Object → Option Value → List Fold
folds_from parts first next object None = []
folds_from parts first next object (Some (Const number size)) = []
folds_from parts first next object (Some (Number size)) = []
folds_from parts first next object (Some Any) = []
folds_from parts first next object (Some (Address second offset target)) = folds_to parts first next object second (place_of offset)

-- an object holds a value at a place: where that is the address of another one of its size, the two may be neighbours
abbrev pub folds_at : Parts → ℕ → Object → ℕ → ℕ → List Fold
folds_at parts first object next value = folds_from parts first next object (value_at parts.values value)

-- at each place of eight bytes of a region, in order
abbrev pub folds_along : Parts → ℕ → Object → List HasValue → List Fold
folds_along parts first object [] = []
folds_along parts first object (edge ∷ rest) = (if nat_eq edge.size 8 then folds_at parts first object edge.at edge.value else []) ++ folds_along parts first object rest

-- at the link on of a segment
abbrev pub folds_by : Parts → ℕ → Object → Shape → List Fold
folds_by parts first object RegionShape = folds_along parts first object object.edges
folds_by parts first object (Segment twofold head next prev back least next_value prev_value node) = folds_at parts first object next next_value

-- for each object, in the order of keys
abbrev pub folds_in : Parts → List KeyedObject → List Fold
folds_in parts [] = []
folds_in parts (entry ∷ rest) = folds_by parts entry.key entry.object entry.object.shape ++ folds_in parts rest

abbrev pub candidates : Parts → List Fold
candidates parts = folds_in parts parts.objects
