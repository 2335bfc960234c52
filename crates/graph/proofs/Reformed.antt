-- Well-formed parts stay so under other keys, one to one.
use Rattle.std.proofs.Common.{◌≡◌, ℕ, ◌<◌, Bool, true, false, ◌&&◌, ◌||◌, not, List, [], ◌∷◌, map, length, take, drop, Option, None, Some, nat_eq, nat_le, refl, sym, ◌∙◌, ap, subst, eqb-true, eq-eqb}
use Rattle.std.specs.Prelude.{IsSome, is_some}
use Rattle.std.specs.List.{list_all}
use Rattle.std.specs.Option.{option_map_or}
use Rattle.std.proofs.lemmas.Bool.{false≢true}
use Rattle.std.proofs.lemmas.List.Folds.{list_all-map}
use Rattle.std.proofs.lemmas.Option.{same_Some, none-some}
use Rattle.std.proofs.lemmas.Simd.{map-map}
use Rattle.bytes_core.specs.Release.{is_heap}
use Rattle.graph.specs.declared.edges.HasValue.{HasValue}
use Rattle.graph.specs.declared.object.Object.{Object}
use Rattle.graph.specs.declared.object.Shape.{Shape}
use Rattle.graph.specs.declared.object.Links.{Links}
use Rattle.graph.specs.declared.object.Shape.TheVariants.{Region as RegionShape, Segment}
use Rattle.graph.specs.declared.template.Node.{Node}
use Rattle.graph.specs.declared.value.Target.{Target}
use Rattle.graph.specs.declared.value.Target.TheVariants.{Region, First, Last, Each}
use Rattle.graph.specs.declared.value.Value.{Value}
use Rattle.graph.specs.declared.value.Value.TheVariants.{Const, Number, Any, Address}
use Rattle.graph.specs.declared.parts.KeyedObject.{KeyedObject}
use Rattle.graph.specs.declared.parts.KeyedValue.{KeyedValue}
use Rattle.graph.specs.declared.parts.Named.{Named}
use Rattle.graph.specs.declared.parts.Held.{Held}
use Rattle.graph.specs.declared.parts.Pair.{Pair}
use Rattle.graph.specs.declared.parts.Parts.{Parts}
use Rattle.graph.specs.Maps.{object_at, value_at}
use Rattle.graph.specs.Sizes.{value_size, value_class, is_sized, is_zero, is_number, is_constant}
use Rattle.graph.specs.Renaming.{renamed, renamed_edge, renamed_node, renamed_shape, renamed_object, renamed_value, renamed_pair}
use Rattle.graph.specs.Nodes.{is_region, links_in, own_node, node_in, node_of, back_edges, link_edges}
use Rattle.graph.specs.Closed.{OnEnds}
use Rattle.graph.specs.WellFormed.{IsWellFormed, are_distinct, are_ascending, has_value, passes_at, is_at_home, may_stand_in, may_be_held, target_fits, leads_to_object, is_storage, has_class_a_byte, says_nothing, is_segment_storage, lies_in, lies_before, are_in_order, share_no_byte, link_is_any, is_outward, is_null, back_fits, Ranks, Falls, edge_has_size, edge_has_class, is_unequal_pair, may_be_unequal, differs_from, are_different}
use Rattle.graph.specs.Laws.{IsRenaming, IsOneToOne}
use Rattle.graph.proofs.Tests.{and_left, and_right, and_both, list_all-implies}
use Rattle.graph.proofs.Found.{Holds-some, IsSome-holds, WasFound-renamed}
use Rattle.graph.proofs.Closed.{named_there, object_of_address, pair_there}
use Rattle.graph.proofs.InOrder.{differs_if, not_straight, not_crossed}
use Rattle.graph.proofs.Sent.{object_sent, value_sent, old_object, object_same, passes-some}

-- the value's size and class, and what it is, do not rest on keys
value_size-renamed : (of_objects : ℕ → ℕ) (value : Value) → value_size (renamed_value of_objects value) ≡ value_size value
value_size-renamed of_objects (Const number size) = refl
value_size-renamed of_objects (Number size) = refl
value_size-renamed of_objects Any = refl
value_size-renamed of_objects (Address object offset target) = refl

value_class-renamed : (of_objects : ℕ → ℕ) (value : Value) → value_class (renamed_value of_objects value) ≡ value_class value
value_class-renamed of_objects (Const number size) = refl
value_class-renamed of_objects (Number size) = refl
value_class-renamed of_objects Any = refl
value_class-renamed of_objects (Address object offset target) = refl

is_sized-renamed : (of_objects : ℕ → ℕ) (value : Value) → is_sized (renamed_value of_objects value) ≡ is_sized value
is_sized-renamed of_objects (Const number size) = refl
is_sized-renamed of_objects (Number size) = refl
is_sized-renamed of_objects Any = refl
is_sized-renamed of_objects (Address object offset target) = refl

is_zero-renamed : (of_objects : ℕ → ℕ) (value : Value) → is_zero (renamed_value of_objects value) ≡ is_zero value
is_zero-renamed of_objects (Const number size) = refl
is_zero-renamed of_objects (Number size) = refl
is_zero-renamed of_objects Any = refl
is_zero-renamed of_objects (Address object offset target) = refl

is_number-renamed : (of_objects : ℕ → ℕ) (value : Value) (count : ℕ) → is_number (renamed_value of_objects value) count ≡ is_number value count
is_number-renamed of_objects (Const number size) count = refl
is_number-renamed of_objects (Number size) count = refl
is_number-renamed of_objects Any count = refl
is_number-renamed of_objects (Address object offset target) count = refl

is_constant-renamed : (of_objects : ℕ → ℕ) (value : Value) → is_constant (renamed_value of_objects value) ≡ is_constant value
is_constant-renamed of_objects (Const number size) = refl
is_constant-renamed of_objects (Number size) = refl
is_constant-renamed of_objects Any = refl
is_constant-renamed of_objects (Address object offset target) = refl

says_nothing-renamed : (of_values : ℕ → ℕ) (edges : List HasValue) (plane : List ℕ) → says_nothing (map (renamed_edge of_values) edges) plane ≡ says_nothing edges plane
says_nothing-renamed of_values [] [] = refl
says_nothing-renamed of_values [] (class ∷ plane) = refl
says_nothing-renamed of_values (edge ∷ rest) plane = refl

are_in_order-renamed : (of_values : ℕ → ℕ) (edges : List HasValue) → are_in_order (map (renamed_edge of_values) edges) ≡ are_in_order edges
are_in_order-renamed of_values [] = refl
are_in_order-renamed of_values (edge ∷ rest) =
    let first : list_all (lies_before (renamed_edge of_values edge)) (map (renamed_edge of_values) rest) ≡ list_all (lies_before edge) rest =
    list_all-map (lies_before (renamed_edge of_values edge)) (renamed_edge of_values) rest in
    ap (λ (b : Bool). b && are_in_order (map (renamed_edge of_values) rest)) first ∙ ap (λ (b : Bool). list_all (lies_before edge) rest && b) (are_in_order-renamed of_values rest)

is_outward-renamed : (of_objects : ℕ → ℕ) (value : Value) → is_outward (renamed_value of_objects value) ≡ is_outward value
is_outward-renamed of_objects (Const number size) = refl
is_outward-renamed of_objects (Number size) = refl
is_outward-renamed of_objects Any = refl
is_outward-renamed of_objects (Address object offset target) = refl

is_null-renamed : (of_objects : ℕ → ℕ) (value : Value) → is_null (renamed_value of_objects value) ≡ is_null value
is_null-renamed of_objects (Const number size) = refl
is_null-renamed of_objects (Number size) = refl
is_null-renamed of_objects Any = refl
is_null-renamed of_objects (Address object offset target) = refl

may_be_held-renamed : (of_objects : ℕ → ℕ) (value : Value) → may_be_held (renamed_value of_objects value) ≡ may_be_held value
may_be_held-renamed of_objects (Const number size) = refl
may_be_held-renamed of_objects (Number size) = refl
may_be_held-renamed of_objects Any = refl
may_be_held-renamed of_objects (Address object offset target) = refl

-- a value at home in an object stays so
home_target : (of_objects : ℕ → ℕ) (object home : ℕ) (target : Target) → is_at_home object target home ≡ true → is_at_home (of_objects object) target (of_objects home) ≡ true
home_target of_objects object home Region at = refl
home_target of_objects object home First at = refl
home_target of_objects object home Last at = refl
home_target of_objects object home Each at = let same : of_objects object ≡ of_objects home = ap of_objects (eqb-true object home at) in eq-eqb (of_objects object) (of_objects home) same

home-renamed : (of_objects : ℕ → ℕ) (home : ℕ) (value : Value) → may_stand_in home value ≡ true → may_stand_in (of_objects home) (renamed_value of_objects value) ≡ true
home-renamed of_objects home (Const number size) at = refl
home-renamed of_objects home (Number size) at = refl
home-renamed of_objects home Any at = refl
home-renamed of_objects home (Address object offset target) at = home_target of_objects object home target at

-- shapes
is_region-renamed : (of_values : ℕ → ℕ) (shape : Shape) → is_region (renamed_shape of_values shape) ≡ is_region shape
is_region-renamed of_values RegionShape = refl
is_region-renamed of_values (Segment twofold head next prev back least next_value prev_value node) = refl

target_fits-renamed : (of_values : ℕ → ℕ) (target : Target) (shape : Shape) → target_fits target (renamed_shape of_values shape) ≡ target_fits target shape
target_fits-renamed of_values Region RegionShape = refl
target_fits-renamed of_values First RegionShape = refl
target_fits-renamed of_values Last RegionShape = refl
target_fits-renamed of_values Each RegionShape = refl
target_fits-renamed of_values Region (Segment twofold head next prev back least next_value prev_value node) = refl
target_fits-renamed of_values First (Segment twofold head next prev back least next_value prev_value node) = refl
target_fits-renamed of_values Last (Segment twofold head next prev back least next_value prev_value node) = refl
target_fits-renamed of_values Each (Segment twofold head next prev back least next_value prev_value node) = refl

node-renamed : (of_values : ℕ → ℕ) (shape : Shape) (own : Node) → node_in (renamed_shape of_values shape) (renamed_node of_values own) ≡ renamed_node of_values (node_in shape own)
node-renamed of_values RegionShape own = refl
node-renamed of_values (Segment twofold head next prev back least next_value prev_value node) own = refl

back-renamed : (of_values : ℕ → ℕ) (twofold : Bool) (prev prev_value : ℕ) → back_edges twofold prev (of_values prev_value) ≡ map (renamed_edge of_values) (back_edges twofold prev prev_value)
back-renamed of_values true prev prev_value = refl
back-renamed of_values false prev prev_value = refl

links-renamed : (of_values : ℕ → ℕ) (shape : Shape) → link_edges (renamed_shape of_values shape) ≡ map (renamed_edge of_values) (link_edges shape)
links-renamed of_values RegionShape = refl
links-renamed of_values (Segment twofold head next prev back least next_value prev_value node) =
    ap (λ (edges : List HasValue). record { at = next; size = 8; value = of_values next_value } ∷ edges) (back-renamed of_values twofold prev prev_value)

module _ (of_objects of_values : ℕ → ℕ) (parts : Parts) (renaming : IsRenaming of_objects of_values parts) (well_formed : IsWellFormed parts) where
  abbrev other : Parts
  other = renamed of_objects of_values parts

  abbrev keyed_object : KeyedObject → KeyedObject
  keyed_object entry = record { key = of_objects entry.key; object = renamed_object of_values entry.object }

  abbrev keyed_value : KeyedValue → KeyedValue
  keyed_value entry = record { key = of_values entry.key; value = renamed_value of_objects entry.value }

  -- a test of the value at a key
  passes_renamed : (test test' : Value → Bool) (key : ℕ) → ((value : Value) → test value ≡ true → test' (renamed_value of_objects value) ≡ true) →
      passes_at parts test key ≡ true → passes_at other test' (of_values key) ≡ true
  passes_renamed test test' key implies passes =
      let held = Holds-some (value_at parts.values key) (passes-some test (value_at parts.values key) passes) in
      let before : test held.item ≡ true = subst (λ (o : Option Value). option_map_or test o false ≡ true) held.is passes in
      subst (λ (o : Option Value). option_map_or test' o false ≡ true) (sym (value_sent of_objects of_values parts renaming key held.item held.is)) (implies held.item before)

  has_value_renamed : (key : ℕ) → has_value parts key ≡ true → has_value other (of_values key) ≡ true
  has_value_renamed key some =
      let held = Holds-some (value_at parts.values key) some in
      IsSome-holds _ _ (value_sent of_objects of_values parts renaming key held.item held.is)

  held_renamed : (key : ℕ) → passes_at parts may_be_held key ≡ true → passes_at other may_be_held (of_values key) ≡ true
  held_renamed key held = passes_renamed may_be_held may_be_held key (λ value may. may_be_held-renamed of_objects value ∙ may) held

  passes_object : (test test' : Object → Bool) (key : ℕ) → ((object : Object) → test object ≡ true → test' (renamed_object of_values object) ≡ true) →
      option_map_or test (object_at parts.objects key) false ≡ true → option_map_or test' (object_at other.objects (of_objects key)) false ≡ true
  passes_object test test' key implies passes =
      let held = Holds-some (object_at parts.objects key) (passes-some test (object_at parts.objects key) passes) in
      let before : test held.item ≡ true = subst (λ (o : Option Object). option_map_or test o false ≡ true) held.is passes in
      subst (λ (o : Option Object). option_map_or test' o false ≡ true) (sym (object_sent of_objects of_values parts renaming key held.item held.is)) (implies held.item before)

  -- what is said of bytes
  edges_of : (object : Object) → (node_of (renamed_object of_values object)).edges ≡ map (renamed_edge of_values) (node_of object).edges
  edges_of object = ap (λ (node : Node). node.edges) (node-renamed of_values object.shape (own_node object))

  plane_of : (object : Object) → (node_of (renamed_object of_values object)).plane ≡ (node_of object).plane
  plane_of object = ap (λ (node : Node). node.plane) (node-renamed of_values object.shape (own_node object))

  -- a test of every item of lists that the objects have
  lists_pass : (items : Object → List HasValue) → ((object : Object) → items (renamed_object of_values object) ≡ map (renamed_edge of_values) (items object)) →
      (test test' : ℕ → Object → HasValue → Bool) → ((key : ℕ) (object : Object) (edge : HasValue) → test key object edge ≡ true → test' (of_objects key) (renamed_object of_values object) (renamed_edge of_values edge) ≡ true) →
      list_all (λ (entry : KeyedObject). list_all (test entry.key entry.object) (items entry.object)) parts.objects ≡ true →
      list_all (λ (entry : KeyedObject). list_all (test' entry.key entry.object) (items entry.object)) other.objects ≡ true
  lists_pass items renamed_items test test' implies all =
      list_all-map (λ (entry : KeyedObject). list_all (test' entry.key entry.object) (items entry.object)) keyed_object parts.objects
      ∙ list_all-implies (λ (entry : KeyedObject). list_all (test entry.key entry.object) (items entry.object))
      (λ (entry : KeyedObject). list_all (test' (of_objects entry.key) (renamed_object of_values entry.object)) (items (renamed_object of_values entry.object)))
      (λ entry pass. ap (list_all (test' (of_objects entry.key) (renamed_object of_values entry.object))) (renamed_items entry.object)
      ∙ list_all-map (test' (of_objects entry.key) (renamed_object of_values entry.object)) (renamed_edge of_values) (items entry.object)
      ∙ list_all-implies (test entry.key entry.object) (λ edge. test' (of_objects entry.key) (renamed_object of_values entry.object) (renamed_edge of_values edge)) (implies entry.key entry.object) (items entry.object) pass)
      parts.objects all

  -- a test of every edge
  edges_pass : (test test' : ℕ → Object → HasValue → Bool) → ((key : ℕ) (object : Object) (edge : HasValue) → test key object edge ≡ true → test' (of_objects key) (renamed_object of_values object) (renamed_edge of_values edge) ≡ true) →
      list_all (λ (entry : KeyedObject). list_all (test entry.key entry.object) (node_of entry.object).edges) parts.objects ≡ true →
      list_all (λ (entry : KeyedObject). list_all (test' entry.key entry.object) (node_of entry.object).edges) other.objects ≡ true
  edges_pass = lists_pass (λ object. (node_of object).edges) edges_of

  -- a test of every link
  links_pass : (test test' : ℕ → Object → HasValue → Bool) → ((key : ℕ) (object : Object) (edge : HasValue) → test key object edge ≡ true → test' (of_objects key) (renamed_object of_values object) (renamed_edge of_values edge) ≡ true) →
      list_all (λ (entry : KeyedObject). list_all (test entry.key entry.object) (link_edges entry.object.shape)) parts.objects ≡ true →
      list_all (λ (entry : KeyedObject). list_all (test' entry.key entry.object) (link_edges entry.object.shape)) other.objects ≡ true
  links_pass = lists_pass (λ object. link_edges object.shape) (λ object. links-renamed of_values object.shape)

  -- a test of every object
  objects_pass : (test test' : Object → Bool) → ((object : Object) → test object ≡ true → test' (renamed_object of_values object) ≡ true) →
      list_all (λ (entry : KeyedObject). test entry.object) parts.objects ≡ true → list_all (λ (entry : KeyedObject). test' entry.object) other.objects ≡ true
  objects_pass test test' implies all =
      list_all-map (λ (entry : KeyedObject). test' entry.object) keyed_object parts.objects
      ∙ list_all-implies (λ (entry : KeyedObject). test entry.object) (λ (entry : KeyedObject). test' (renamed_object of_values entry.object)) (λ entry pass. implies entry.object pass) parts.objects all

  values_pass : (test test' : Value → Bool) → ((value : Value) → test value ≡ true → test' (renamed_value of_objects value) ≡ true) →
      list_all (λ (entry : KeyedValue). test entry.value) parts.values ≡ true → list_all (λ (entry : KeyedValue). test' entry.value) other.values ≡ true
  values_pass test test' implies all =
      list_all-map (λ (entry : KeyedValue). test' entry.value) keyed_value parts.values
      ∙ list_all-implies (λ (entry : KeyedValue). test entry.value) (λ (entry : KeyedValue). test' (renamed_value of_objects entry.value)) (λ entry pass. implies entry.value pass) parts.values all

  leads : (value : Value) → leads_to_object parts value ≡ true → leads_to_object other (renamed_value of_objects value) ≡ true
  leads (Const number size) to = refl
  leads (Number size) to = refl
  leads Any to = refl
  leads (Address object offset target) to = passes_object (λ found. target_fits target found.shape) (λ found. target_fits target found.shape) object (λ found fits. target_fits-renamed of_values target found.shape ∙ fits) to

  -- new keys of different keys differ
  distinct : {Item : Type 0} (rename : ℕ → ℕ) (at : ℕ → Option Item) → IsOneToOne rename at → (keys : List ℕ) → list_all (λ key. is_some (at key)) keys ≡ true →
      are_distinct keys ≡ true → are_distinct (map rename keys) ≡ true
  distinct rename at one_to_one [] all is = refl
  distinct {Item} rename at one_to_one (key ∷ rest) all is =
      and_both (list_all (λ next. not (nat_eq (rename key) next)) (map rename rest)) (are_distinct (map rename rest))
      (list_all-map (λ next. not (nat_eq (rename key) next)) rename rest
      ∙ first rest (and_left (list_all (λ next. not (nat_eq key next)) rest) (are_distinct rest) is) (and_right (is_some (at key)) (list_all (λ key. is_some (at key)) rest) all))
      (distinct rename at one_to_one rest (and_right (is_some (at key)) (list_all (λ key. is_some (at key)) rest) all) (and_right (list_all (λ next. not (nat_eq key next)) rest) (are_distinct rest) is))
    where
      apart : (next : ℕ) → not (nat_eq key next) ≡ true → is_some (at next) ≡ true → (b : Bool) → nat_eq (rename key) (rename next) ≡ b → not b ≡ true
      apart next differ there false is = refl
      apart next differ there true is =
          let same : key ≡ next = one_to_one.same key next (and_left (is_some (at key)) (list_all (λ key. is_some (at key)) rest) all) there (eqb-true _ _ is) in
          let equal : nat_eq key next ≡ true = eq-eqb key next same in
          absurd (false≢true (sym (ap not equal) ∙ differ))

      first : (others : List ℕ) → list_all (λ next. not (nat_eq key next)) others ≡ true → list_all (λ key. is_some (at key)) others ≡ true →
          list_all (λ next. not (nat_eq (rename key) (rename next))) others ≡ true
      first [] differ there = refl
      first (next ∷ more) differ there =
          and_both (not (nat_eq (rename key) (rename next))) (list_all (λ next. not (nat_eq (rename key) (rename next))) more)
          (apart next (and_left (not (nat_eq key next)) (list_all (λ next. not (nat_eq key next)) more) differ) (and_left (is_some (at next)) (list_all (λ key. is_some (at key)) more) there) (nat_eq (rename key) (rename next)) refl)
          (first more (and_right (not (nat_eq key next)) (list_all (λ next. not (nat_eq key next)) more) differ) (and_right (is_some (at next)) (list_all (λ key. is_some (at key)) more) there))

  objects_there : (named : List Named) → list_all (λ (n : Named). option_map_or is_storage (object_at parts.objects n.object) false) named ≡ true →
      list_all (λ key. is_some (object_at parts.objects key)) (map (λ (n : Named). n.object) named) ≡ true
  objects_there named all =
      list_all-map (λ key. is_some (object_at parts.objects key)) (λ (n : Named). n.object) named
      ∙ list_all-implies (λ (n : Named). option_map_or is_storage (object_at parts.objects n.object) false) (λ (n : Named). is_some (object_at parts.objects n.object))
      (λ n is. passes-some is_storage (object_at parts.objects n.object) is) named all

  may_differ : (one next : Value) → may_be_unequal one next ≡ true → may_be_unequal (renamed_value of_objects one) (renamed_value of_objects next) ≡ true
  may_differ one next may =
      rw (is_number-renamed of_objects one 4, is_number-renamed of_objects next 4, is_number-renamed of_objects one 8, is_number-renamed of_objects next 8, is_constant-renamed of_objects one, is_constant-renamed of_objects next) may

  pair_renamed : (pair : Pair) → is_unequal_pair parts pair ≡ true → is_unequal_pair other (renamed_pair of_values pair) ≡ true
  pair_renamed pair unequal =
      let both = and_right (not (nat_eq pair.left pair.right)) (passes_at parts (λ one. passes_at parts (may_be_unequal one) pair.right) pair.left) unequal in
      let held = Holds-some (value_at parts.values pair.left) (passes-some (λ one. passes_at parts (may_be_unequal one) pair.right) (value_at parts.values pair.left) both) in
      let right = subst (λ (o : Option Value). option_map_or (λ one. passes_at parts (may_be_unequal one) pair.right) o false ≡ true) held.is both in
      let right_there = passes-some (may_be_unequal held.item) (value_at parts.values pair.right) right in
      and_both (not (nat_eq (of_values pair.left) (of_values pair.right))) (passes_at other (λ one. passes_at other (may_be_unequal one) (of_values pair.right)) (of_values pair.left))
      (apart (IsSome-holds _ _ held.is) right_there (and_left (not (nat_eq pair.left pair.right)) (passes_at parts (λ one. passes_at parts (may_be_unequal one) pair.right) pair.left) unequal) (nat_eq (of_values pair.left) (of_values pair.right)) refl)
      (passes_renamed (λ one. passes_at parts (may_be_unequal one) pair.right) (λ one. passes_at other (may_be_unequal one) (of_values pair.right)) pair.left
      (λ one passes. passes_renamed (may_be_unequal one) (may_be_unequal (renamed_value of_objects one)) pair.right (may_differ one) passes) both)
    where
      apart : IsSome (value_at parts.values pair.left) → IsSome (value_at parts.values pair.right) → not (nat_eq pair.left pair.right) ≡ true →
          (b : Bool) → nat_eq (of_values pair.left) (of_values pair.right) ≡ b → not b ≡ true
      apart left_there right_there differ false is = refl
      apart left_there right_there differ true is =
          let same : pair.left ≡ pair.right = renaming.values.same pair.left pair.right left_there right_there (eqb-true _ _ is) in
          let equal : nat_eq pair.left pair.right ≡ true = eq-eqb pair.left pair.right same in
          absurd (false≢true (sym (ap not equal) ∙ differ))

  -- pairs of different values stay so
  differs_renamed : (one next : Pair) → is_unequal_pair parts one ≡ true → is_unequal_pair parts next ≡ true → differs_from one next ≡ true → differs_from (renamed_pair of_values one) (renamed_pair of_values next) ≡ true
  differs_renamed one next one_is next_is differ =
      let one_there = pair_there parts well_formed one one_is in
      let next_there = pair_there parts well_formed next next_is in
      differs_if (renamed_pair of_values one) (renamed_pair of_values next)
      (λ left right. not_straight one next differ (renaming.values.same one.left next.left one_there.0 next_there.0 left) (renaming.values.same one.right next.right one_there.1 next_there.1 right))
      (λ left right. not_crossed one next differ (renaming.values.same one.left next.right one_there.0 next_there.1 left) (renaming.values.same one.right next.left one_there.1 next_there.0 right))

  different_renamed : (pairs : List Pair) → list_all (is_unequal_pair parts) pairs ≡ true → are_different pairs ≡ true → are_different (map (renamed_pair of_values) pairs) ≡ true
  different_renamed [] unequal differ = refl
  different_renamed (pair ∷ rest) unequal differ =
      and_both (list_all (differs_from (renamed_pair of_values pair)) (map (renamed_pair of_values) rest)) (are_different (map (renamed_pair of_values) rest))
      (list_all-map (differs_from (renamed_pair of_values pair)) (renamed_pair of_values) rest
      ∙ from_first rest (and_right (is_unequal_pair parts pair) (list_all (is_unequal_pair parts) rest) unequal) (and_left (list_all (differs_from pair) rest) (are_different rest) differ))
      (different_renamed rest (and_right (is_unequal_pair parts pair) (list_all (is_unequal_pair parts) rest) unequal) (and_right (list_all (differs_from pair) rest) (are_different rest) differ))
    where
      from_first : (others : List Pair) → list_all (is_unequal_pair parts) others ≡ true → list_all (differs_from pair) others ≡ true →
          list_all (λ next. differs_from (renamed_pair of_values pair) (renamed_pair of_values next)) others ≡ true
      from_first [] all apart = refl
      from_first (next ∷ more) all apart =
          and_both (differs_from (renamed_pair of_values pair) (renamed_pair of_values next)) (list_all (λ next. differs_from (renamed_pair of_values pair) (renamed_pair of_values next)) more)
          (differs_renamed pair next (and_left (is_unequal_pair parts pair) (list_all (is_unequal_pair parts) rest) unequal) (and_left (is_unequal_pair parts next) (list_all (is_unequal_pair parts) more) all)
          (and_left (differs_from pair next) (list_all (differs_from pair) more) apart))
          (from_first more (and_right (is_unequal_pair parts next) (list_all (is_unequal_pair parts) more) all) (and_right (differs_from pair next) (list_all (differs_from pair) more) apart))

  -- links back
  back_renamed : (size : ℕ) (shape : Shape) → back_fits parts size (links_in shape) ≡ true → back_fits other size (links_in (renamed_shape of_values shape)) ≡ true
  back_renamed size RegionShape fits = refl
  back_renamed size (Segment true head next prev back least next_value prev_value node) fits = fits
  back_renamed size (Segment false head next prev back least next_value prev_value node) fits =
      and_both (nat_eq prev 0) (nat_eq back 0 && passes_at other is_null (of_values prev_value)) (and_left (nat_eq prev 0) (nat_eq back 0 && passes_at parts is_null prev_value) fits)
      (and_both (nat_eq back 0) (passes_at other is_null (of_values prev_value)) (and_left (nat_eq back 0) (passes_at parts is_null prev_value) (and_right (nat_eq prev 0) (nat_eq back 0 && passes_at parts is_null prev_value) fits))
      (passes_renamed is_null is_null prev_value (λ value null. is_null-renamed of_objects value ∙ null)
      (and_right (nat_eq back 0) (passes_at parts is_null prev_value) (and_right (nat_eq prev 0) (nat_eq back 0 && passes_at parts is_null prev_value) fits))))

  -- ranks
  abbrev ranks : Ranks
  ranks = record { first = λ key. well_formed.comes_to_an_end.ranks.first (old_object of_objects of_values parts renaming key); last = λ key. well_formed.comes_to_an_end.ranks.last (old_object of_objects of_values parts renaming key) }

  falls_renamed : (key bound : ℕ) (found : Option Value) → value_at parts.values key ≡ found → IsSome found → Falls well_formed.comes_to_an_end.ranks bound found → Falls ranks bound (value_at other.values (of_values key))
  falls_renamed key bound None is some falls = absurd (false≢true some)
  falls_renamed key bound (Some value) is some falls =
      subst (λ (o : Option Value). Falls ranks bound o) (sym (value_sent of_objects of_values parts renaming key value is)) (by_value value is falls)
    where
      by_value : (value : Value) → value_at parts.values key ≡ Some value → Falls well_formed.comes_to_an_end.ranks bound (Some value) → Falls ranks bound (Some (renamed_value of_objects value))
      by_value (Const number size) is falls = tt
      by_value (Number size) is falls = tt
      by_value Any is falls = tt
      by_value (Address object offset Region) is falls = tt
      by_value (Address object offset First) is falls =
          subst (λ (k : ℕ). well_formed.comes_to_an_end.ranks.first k < bound) (sym (object_same of_objects of_values parts renaming object (object_of_address parts well_formed key object offset First is))) falls
      by_value (Address object offset Last) is falls =
          subst (λ (k : ℕ). well_formed.comes_to_an_end.ranks.last k < bound) (sym (object_same of_objects of_values parts renaming object (object_of_address parts well_formed key object offset Last is))) falls
      by_value (Address object offset Each) is falls = tt

  -- the links of a renamed shape are those of the shape with other keys
  record WereLinks (shape : Shape) (links : Links) : Type 0 where
    before : Links
    were : links_in shape ≡ Some before
    least : before.least ≡ links.least
    next : links.next_value ≡ of_values before.next_value
    prev : links.prev_value ≡ of_values before.prev_value

  were_links : (shape : Shape) (links : Links) → links_in (renamed_shape of_values shape) ≡ Some links → WereLinks shape links
  were_links RegionShape links is = absurd (none-some links is)
  were_links (Segment twofold head next prev back least next_value prev_value node) links is = record {
    before = record { twofold = twofold; head = head; next = next; prev = prev; back = back; least = least; next_value = next_value; prev_value = prev_value };
    were = refl;
    least = ap (λ (l : Links). l.least) (same_Some _ _ is);
    next = sym (ap (λ (l : Links). l.next_value) (same_Some _ _ is));
    prev = sym (ap (λ (l : Links). l.prev_value) (same_Some _ _ is));
  }

  ends_named : (shape : Shape) (links : Links) → links_in shape ≡ Some links → OnEnds (λ key. IsSome (value_at parts.values key)) shape → IsSome (value_at parts.values links.next_value) × IsSome (value_at parts.values links.prev_value)
  ends_named RegionShape links is on = absurd (none-some links is)
  ends_named (Segment twofold head next prev back least next_value prev_value node) links is on =
      subst (λ (l : Links). IsSome (value_at parts.values l.next_value) × IsSome (value_at parts.values l.prev_value)) (same_Some _ _ is) on

  ends_renamed : (key : ℕ) (object : Object) (links : Links) → object_at other.objects key ≡ Some object → links_in object.shape ≡ Some links → links.least ≡ 0 →
      Falls ranks (ranks.first key) (value_at other.values links.next_value) × Falls ranks (ranks.last key) (value_at other.values links.prev_value)
  ends_renamed key object links stands linked empty =
      let was = WasFound-renamed (λ (entry : KeyedObject). entry.key) (λ entry. entry.object) (λ (entry : KeyedObject). entry.key) (λ entry. entry.object)
      keyed_object of_objects (renamed_object of_values) (λ _. refl) (λ _. refl) parts.objects key object stands in
      let links_were = were_links was.old.shape links (ap (λ (o : Object). links_in o.shape) was.new ∙ linked) in
      let key_is : old_object of_objects of_values parts renaming key ≡ was.old_key =
      ap (old_object of_objects of_values parts renaming) (sym was.new_key) ∙ object_same of_objects of_values parts renaming was.old_key (IsSome-holds _ _ was.stands) in
      let named = ends_named was.old.shape links_were.before links_were.were (named_there parts well_formed was.old_key was.old was.stands).1 in (
        subst (λ (k : ℕ). Falls ranks (well_formed.comes_to_an_end.ranks.first k) (value_at other.values links.next_value)) (sym key_is)
            (subst (λ (v : ℕ). Falls ranks (well_formed.comes_to_an_end.ranks.first was.old_key) (value_at other.values v)) (sym links_were.next)
            (falls_renamed links_were.before.next_value (well_formed.comes_to_an_end.ranks.first was.old_key) (value_at parts.values links_were.before.next_value) refl named.0
            (well_formed.comes_to_an_end.next was.old_key was.old links_were.before was.stands links_were.were (links_were.least ∙ empty)))),
        subst (λ (k : ℕ). Falls ranks (well_formed.comes_to_an_end.ranks.last k) (value_at other.values links.prev_value)) (sym key_is)
            (subst (λ (v : ℕ). Falls ranks (well_formed.comes_to_an_end.ranks.last was.old_key) (value_at other.values v)) (sym links_were.prev)
            (falls_renamed links_were.before.prev_value (well_formed.comes_to_an_end.ranks.last was.old_key) (value_at parts.values links_were.before.prev_value) refl named.1
            (well_formed.comes_to_an_end.prev was.old_key was.old links_were.before was.stands links_were.were (links_were.least ∙ empty)))),
      )

  pub IsWellFormed-renamed : IsWellFormed other
  IsWellFormed-renamed = record {
    edges_hold_values = edges_pass (λ key object edge. has_value parts edge.value) (λ key object edge. has_value other edge.value) (λ key object edge there. has_value_renamed edge.value there) well_formed.edges_hold_values;
    edges_are_at_home = edges_pass (λ key object edge. passes_at parts (may_stand_in key) edge.value) (λ key object edge. passes_at other (may_stand_in key) edge.value)
        (λ key object edge at. passes_renamed (may_stand_in key) (may_stand_in (of_objects key)) edge.value (λ value home. home-renamed of_objects key value home) at) well_formed.edges_are_at_home;
    registers_hold_values =
        list_all-map (λ (held : Held). passes_at other may_be_held held.value) (λ (held : Held). record { register = held.register; value = of_values held.value }) parts.registers
        ∙ list_all-implies (λ (held : Held). passes_at parts may_be_held held.value) (λ (held : Held). passes_at other may_be_held (of_values held.value)) (λ held there. held_renamed held.value there) parts.registers well_formed.registers_hold_values;
    ports_are_values =
        list_all-map (passes_at other may_be_held) of_values parts.ports
        ∙ list_all-implies (passes_at parts may_be_held) (λ key. passes_at other may_be_held (of_values key)) held_renamed parts.ports well_formed.ports_are_values;
    addresses_lead_to_objects = values_pass (leads_to_object parts) (leads_to_object other) leads well_formed.addresses_lead_to_objects;
    variables_have_storage =
        list_all-map (λ (named : Named). option_map_or is_storage (object_at other.objects named.object) false) (λ (named : Named). record { variable = named.variable; object = of_objects named.object }) parts.variables
        ∙ list_all-implies (λ (named : Named). option_map_or is_storage (object_at parts.objects named.object) false)
        (λ (named : Named). option_map_or is_storage (object_at other.objects (of_objects named.object)) false)
        (λ named storage. passes_object is_storage is_storage named.object (λ object is. is) storage) parts.variables well_formed.variables_have_storage;
    storage_is_distinct =
        let keys : map (λ (named : Named). named.object) other.variables ≡ map of_objects (map (λ (named : Named). named.object) parts.variables) =
        map-map (λ (named : Named). named.object) (λ (named : Named). record { variable = named.variable; object = of_objects named.object }) parts.variables
        ∙ sym (map-map of_objects (λ (named : Named). named.object) parts.variables) in
        ap are_distinct keys
        ∙ distinct of_objects (object_at parts.objects) renaming.objects (map (λ (named : Named). named.object) parts.variables) (objects_there parts.variables well_formed.variables_have_storage) well_formed.storage_is_distinct;
    variables_ascend =
        ap are_ascending (map-map (λ (named : Named). named.variable) (λ (named : Named). record { variable = named.variable; object = of_objects named.object }) parts.variables) ∙ well_formed.variables_ascend;
    registers_ascend =
        ap are_ascending (map-map (λ (held : Held). held.register) (λ (held : Held). record { register = held.register; value = of_values held.value }) parts.registers) ∙ well_formed.registers_ascend;
    objects_are_small = objects_pass (λ object. nat_le object.size 65536) (λ object. nat_le object.size 65536) (λ object small. small) well_formed.objects_are_small;
    planes_are_as_long = objects_pass has_class_a_byte has_class_a_byte (λ object long. ap (λ (plane : List ℕ). not object.live || nat_eq (length plane) object.size) (plane_of object) ∙ long) well_formed.planes_are_as_long;
    dead_objects_are_bare =
        objects_pass (λ object. object.live || (is_region object.shape && says_nothing object.edges object.plane)) (λ object. object.live || (is_region object.shape && says_nothing object.edges object.plane))
        (λ object bare. ap (λ (b : Bool). object.live || (b && says_nothing (map (renamed_edge of_values) object.edges) object.plane)) (is_region-renamed of_values object.shape)
        ∙ ap (λ (b : Bool). object.live || (is_region object.shape && b)) (says_nothing-renamed of_values object.edges object.plane) ∙ bare) well_formed.dead_objects_are_bare;
    segments_are_allocated =
        objects_pass (λ object. is_region object.shape || is_segment_storage object) (λ object. is_region object.shape || is_segment_storage object)
        (λ object stored. ap (λ (b : Bool). b || (object.live && (is_heap object.kind && says_nothing (map (renamed_edge of_values) object.edges) object.plane))) (is_region-renamed of_values object.shape)
        ∙ ap (λ (b : Bool). is_region object.shape || (object.live && (is_heap object.kind && b))) (says_nothing-renamed of_values object.edges object.plane) ∙ stored) well_formed.segments_are_allocated;
    edges_lie_inside = edges_pass (λ key object edge. lies_in object.size edge) (λ key object edge. lies_in object.size edge) (λ key object edge lies. lies) well_formed.edges_lie_inside;
    edges_are_in_order =
        objects_pass (λ object. are_in_order (node_of object).edges) (λ object. are_in_order (node_of object).edges)
        (λ object order. ap are_in_order (edges_of object) ∙ are_in_order-renamed of_values (node_of object).edges ∙ order) well_formed.edges_are_in_order;
    edges_have_their_sizes =
        edges_pass (λ key object edge. edge_has_size parts edge) (λ key object edge. edge_has_size other edge)
        (λ key object edge has. passes_renamed (λ value. nat_eq (value_size value) edge.size) (λ value. nat_eq (value_size value) edge.size) edge.value
        (λ value is. ap (λ (size : ℕ). nat_eq size edge.size) (value_size-renamed of_objects value) ∙ is) has) well_formed.edges_have_their_sizes;
    edges_have_their_classes =
        edges_pass (λ key object edge. edge_has_class parts (node_of object).plane edge) (λ key object edge. edge_has_class other (node_of object).plane edge)
        (λ key object edge has. passes_renamed (λ value. list_all (nat_eq (value_class value)) (take edge.size (drop edge.at (node_of object).plane)))
        (λ value. list_all (nat_eq (value_class value)) (take edge.size (drop edge.at (node_of (renamed_object of_values object)).plane))) edge.value
        (λ value is. ap (λ (plane : List ℕ). list_all (nat_eq (value_class (renamed_value of_objects value))) (take edge.size (drop edge.at plane))) (plane_of object)
        ∙ ap (λ (class : ℕ). list_all (nat_eq class) (take edge.size (drop edge.at (node_of object).plane))) (value_class-renamed of_objects value) ∙ is) has) well_formed.edges_have_their_classes;
    edges_are_not_zero =
        edges_pass (λ key object edge. passes_at parts (λ value. not (is_zero value)) edge.value) (λ key object edge. passes_at other (λ value. not (is_zero value)) edge.value)
        (λ key object edge has. passes_renamed (λ value. not (is_zero value)) (λ value. not (is_zero value)) edge.value
        (λ value is. ap not (is_zero-renamed of_objects value) ∙ is) has) well_formed.edges_are_not_zero;
    links_lie_inside = links_pass (λ key object link. lies_in object.size link) (λ key object link. lies_in object.size link) (λ key object link lies. lies) well_formed.links_lie_inside;
    links_are_in_order =
        objects_pass (λ object. are_in_order (link_edges object.shape)) (λ object. are_in_order (link_edges object.shape))
        (λ object order. ap are_in_order (links-renamed of_values object.shape) ∙ are_in_order-renamed of_values (link_edges object.shape) ∙ order) well_formed.links_are_in_order;
    links_have_no_edge =
        links_pass (λ key object link. list_all (share_no_byte link) (node_of object).edges) (λ key object link. list_all (share_no_byte link) (node_of object).edges)
        (λ key object link apart. ap (list_all (share_no_byte (renamed_edge of_values link))) (edges_of object)
        ∙ list_all-map (share_no_byte (renamed_edge of_values link)) (renamed_edge of_values) (node_of object).edges ∙ apart) well_formed.links_have_no_edge;
    links_may_be_pointers =
        links_pass (λ key object link. link_is_any (node_of object).plane link) (λ key object link. link_is_any (node_of object).plane link)
        (λ key object link any. ap (λ (plane : List ℕ). link_is_any plane link) (plane_of object) ∙ any) well_formed.links_may_be_pointers;
    links_lead_on =
        links_pass (λ key object link. passes_at parts is_outward link.value) (λ key object link. passes_at other is_outward link.value)
        (λ key object link on. passes_renamed is_outward is_outward link.value (λ value outward. is_outward-renamed of_objects value ∙ outward) on) well_formed.links_lead_on;
    links_back_fit =
        objects_pass (λ object. back_fits parts object.size (links_in object.shape)) (λ object. back_fits other object.size (links_in object.shape))
        (λ object fits. back_renamed object.size object.shape fits) well_formed.links_back_fit;
    comes_to_an_end = record {
      ranks = ranks;
      next = λ key object links stands linked empty. (ends_renamed key object links stands linked empty).0;
      prev = λ key object links stands linked empty. (ends_renamed key object links stands linked empty).1;
    };
    values_are_sized = values_pass is_sized is_sized (λ value sized. is_sized-renamed of_objects value ∙ sized) well_formed.values_are_sized;
    pairs_may_be_unequal =
        list_all-map (is_unequal_pair other) (renamed_pair of_values) parts.unequal
        ∙ list_all-implies (is_unequal_pair parts) (λ pair. is_unequal_pair other (renamed_pair of_values pair)) pair_renamed parts.unequal well_formed.pairs_may_be_unequal;
    pairs_are_different = different_renamed parts.unequal well_formed.pairs_may_be_unequal well_formed.pairs_are_different;
  }

pub renaming_keeps_form : (of_objects of_values : ℕ → ℕ) (parts : Parts) → IsRenaming of_objects of_values parts → IsWellFormed parts → IsWellFormed (renamed of_objects of_values parts)
renaming_keeps_form of_objects of_values parts renaming well_formed = IsWellFormed-renamed of_objects of_values parts renaming well_formed
