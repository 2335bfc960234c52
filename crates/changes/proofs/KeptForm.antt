-- A graph with another region in place of one is a graph.
use Rattle.std.proofs.Common.{◌≡◌, ℕ, zero, suc, ◌+◌, ◌^◌, ◌<◌, ◌≤◌, Bool, true, false, not, ◌||◌, ◌&&◌, List, [], ◌∷◌, map, length, get_or, sum_by, nat_eq, nat_le, nat_lt, Option, None, Some, refl, sym, ◌∙◌, ap, subst, eqb-true, eq-eqb, lt-ltb, ltb-true, arith}
use Rattle.std.specs.Prelude.{option_map, slice_get, if◌then◌else◌}
use Rattle.std.specs.List.{list_all, AllPairs, fold}
use Rattle.std.specs.Option.{option_map_or}
use Rattle.std.proofs.lemmas.Bool.{false≢true}
use Rattle.std.proofs.lemmas.List.{length-map}
use Rattle.std.proofs.lemmas.Option.{same_Some, none-some, slice_get-map}
use Rattle.graph.specs.declared.object.Links.{Links}
use Rattle.graph.specs.declared.object.Object.{Object}
use Rattle.graph.specs.declared.object.Shape.{Shape}
use Rattle.graph.specs.declared.object.Shape.TheVariants.{Region as RegionShape, Segment}
use Rattle.graph.specs.declared.template.Node.{Node}
use Rattle.graph.specs.declared.value.Value.{Value}
use Rattle.graph.specs.declared.value.Value.TheVariants.{Const, Number, Any, Address}
use Rattle.graph.specs.declared.parts.KeyedObject.{KeyedObject}
use Rattle.graph.specs.declared.parts.KeyedValue.{KeyedValue}
use Rattle.graph.specs.declared.parts.Named.{Named}
use Rattle.graph.specs.declared.parts.Parts.{Parts}
use Rattle.graph.specs.Maps.{object_at}
use Rattle.graph.specs.Nodes.{is_region, links_in, own_node, node_in, node_of, link_edges}
use Rattle.graph.specs.Sizes.{is_zero}
use Rattle.graph.specs.WellFormed.{IsWellFormed, passes_at, has_value, may_stand_in, target_fits, leads_to_object, is_storage, has_class_a_byte, says_nothing, is_segment_storage, lies_in, are_in_order, edge_has_size, edge_has_class, share_no_byte, link_is_any, is_outward, back_fits, nodes_of, nodes}
use Rattle.graph.specs.Whole.{IsGraph}
use Rattle.graph.proofs.Tests.{and_left, and_right, and_both}
use Rattle.graph.proofs.Found.{IsSome-holds}
use Rattle.changes.specs.Parts.{replaced, with_object}
use Rattle.changes.proofs.Objects.{replaced-other, replaced-here}

-- Lists.

pub all_same : {X : Type 0} (test other : X → Bool) → ((x : X) → other x ≡ test x) → (xs : List X) → list_all test xs ≡ true → list_all other xs ≡ true
all_same test other same [] all = refl
all_same test other same (x ∷ xs) all = and_both (other x) (list_all other xs) (same x ∙ and_left (test x) (list_all test xs) all) (all_same test other same xs (and_right (test x) (list_all test xs) all))

-- what all objects and the new one pass, all pass afterwards
pub all_replaced : (test : ℕ → Object → Bool) (key : ℕ) (object : Object) (entries : List KeyedObject) → test key object ≡ true → list_all (λ (entry : KeyedObject). test entry.key entry.object) entries ≡ true →
    list_all (λ (entry : KeyedObject). test entry.key entry.object) (map (replaced key object) entries) ≡ true
all_replaced test key object [] new all = refl
all_replaced test key object (first ∷ rest) new all =
    and_both (test first.key (if nat_eq first.key key then object else first.object)) (list_all (λ (entry : KeyedObject). test entry.key entry.object) (map (replaced key object) rest))
    (by_test (nat_eq first.key key) refl) (all_replaced test key object rest new (and_right (test first.key first.object) (list_all (λ (entry : KeyedObject). test entry.key entry.object) rest) all))
  where
    by_test : (b : Bool) → nat_eq first.key key ≡ b → test first.key (if b then object else first.object) ≡ true
    by_test true is = ap (λ (k : ℕ). test k object) (eqb-true _ _ is) ∙ new
    by_test false is = and_left (test first.key first.object) (list_all (λ (entry : KeyedObject). test entry.key entry.object) rest) all

-- a test that does not tell the new object from the old one
pub test_replaced : (test : Object → Bool) (key : ℕ) (old object : Object) (entries : List KeyedObject) → object_at entries key ≡ Some old → test object ≡ test old → (at : ℕ) →
    option_map_or test (object_at (map (replaced key object) entries) at) false ≡ option_map_or test (object_at entries at) false
test_replaced test key old object entries stands same at = by_key (nat_eq at key) refl
  where
    by_key : (b : Bool) → nat_eq at key ≡ b → option_map_or test (object_at (map (replaced key object) entries) at) false ≡ option_map_or test (object_at entries at) false
    by_key true is =
        ap (λ (k : ℕ). option_map_or test (object_at (map (replaced key object) entries) k) false) (eqb-true _ _ is)
        ∙ ap (λ (o : Option Object). option_map_or test o false) (replaced-here key object entries (IsSome-holds _ _ stands)) ∙ same
        ∙ sym (ap (λ (k : ℕ). option_map_or test (object_at entries k) false) (eqb-true _ _ is) ∙ ap (λ (o : Option Object). option_map_or test o false) stands)
    by_key false is = ap (λ (o : Option Object). option_map_or test o false) (replaced-other key object entries at (λ same. false≢true (sym is ∙ eq-eqb at key same)))

-- what is asked of a region
pub record IsFit (parts : Parts) (key : ℕ) (object : Object) : Type 0 where
  pub holds : list_all (λ edge. has_value parts edge.value) object.edges ≡ true
  pub home : list_all (λ edge. passes_at parts (may_stand_in key) edge.value) object.edges ≡ true
  pub small : nat_le object.size 65536 ≡ true
  pub long : (not object.live || nat_eq (length object.plane) object.size) ≡ true
  pub bare : (object.live || says_nothing object.edges object.plane) ≡ true
  pub inside : list_all (lies_in object.size) object.edges ≡ true
  pub order : are_in_order object.edges ≡ true
  pub sizes : list_all (edge_has_size parts) object.edges ≡ true
  pub classes : list_all (edge_has_class parts object.plane) object.edges ≡ true
  pub nonzero : list_all (λ edge. passes_at parts (λ value. not (is_zero value)) edge.value) object.edges ≡ true

-- keys stay as they are
pub ascending_kept : (key : ℕ) (object : Object) (entries : List KeyedObject) → AllPairs (λ one other. one.key < other.key) entries → AllPairs (λ one other. one.key < other.key) (map (replaced key object) entries)
ascending_kept key object entries ascending i j d before within =
    let long = length-map entries (replaced key object) in
    subst (λ (n : ℕ). n < (get_or (map (replaced key object) entries) j d).key) (key_at i d (omega arith))
    (subst (λ (n : ℕ). (get_or entries i d).key < n) (key_at j d (omega arith)) (ascending i j d before (omega arith)))
  where
    key_at : (i : ℕ) (d : KeyedObject) → i < length entries → (get_or entries i d).key ≡ (get_or (map (replaced key object) entries) i d).key
    key_at i d inside = go entries i inside
      where
        go : (entries : List KeyedObject) (i : ℕ) → i < length entries → (get_or entries i d).key ≡ (get_or (map (replaced key object) entries) i d).key
        go [] i inside = absurd (omega arith)
        go (first ∷ rest) zero inside = refl
        go (first ∷ rest) (suc i) inside = go rest i (omega arith)

places_kept : (key : ℕ) (object : Object) (entries : List KeyedObject) → ((place : ℕ) (entry : KeyedObject) → slice_get entries place ≡ Some entry → entry.key ≡ place) →
    (place : ℕ) (entry : KeyedObject) → slice_get (map (replaced key object) entries) place ≡ Some entry → entry.key ≡ place
places_kept key object entries has place entry stands = by_found (slice_get entries place) refl (sym (slice_get-map (replaced key object) entries place) ∙ stands)
  where
    by_found : (found : Option KeyedObject) → slice_get entries place ≡ found → option_map (replaced key object) found ≡ Some entry → entry.key ≡ place
    by_found None is none = absurd (none-some entry none)
    by_found (Some first) is same = ap (λ (e : KeyedObject). e.key) (sym (same_Some _ _ same)) ∙ has place first is

some_nodes : (shape : Shape) → 1 ≤ nodes_of shape
some_nodes RegionShape = omega arith
some_nodes (Segment twofold head next prev back least next_value prev_value node) = omega arith

fold_kept : (key : ℕ) (object : Object) → object.shape ≡ RegionShape → (entries : List KeyedObject) (a b : ℕ) → a ≤ b →
    fold (λ count (entry : KeyedObject). count + nodes_of entry.object.shape) a (map (replaced key object) entries) ≤ fold (λ count (entry : KeyedObject). count + nodes_of entry.object.shape) b entries
fold_kept key object region [] a b most = most
fold_kept key object region (first ∷ rest) a b most =
    fold_kept key object region rest (a + nodes_of (if nat_eq first.key key then object else first.object).shape) (b + nodes_of first.object.shape) (let here = by_test (nat_eq first.key key) in omega arith)
  where
    by_test : (b : Bool) → nodes_of (if b then object else first.object).shape ≤ nodes_of first.object.shape
    by_test true = let one = some_nodes first.object.shape in let is = ap nodes_of region in omega arith
    by_test false = omega arith

nodes_kept : (key : ℕ) (object : Object) → object.shape ≡ RegionShape → (entries : List KeyedObject) →
    sum_by (λ (entry : KeyedObject). nodes_of entry.object.shape) (map (replaced key object) entries) ≤ sum_by (λ (entry : KeyedObject). nodes_of entry.object.shape) entries
nodes_kept key object region entries = fold_kept key object region entries 0 0 (omega arith)

-- Another region.

module _ (parts : Parts) (key : ℕ) (old object : Object) (stands : object_at parts.objects key ≡ Some old) (was : old.shape ≡ RegionShape) (now : object.shape ≡ RegionShape) (storage : is_storage object ≡ is_storage old) where
  leads_still : (value : Value) → leads_to_object (with_object key object parts) value ≡ leads_to_object parts value
  leads_still (Const number size) = refl
  leads_still (Number size) = refl
  leads_still Any = refl
  leads_still (Address at offset target) = test_replaced (λ found. target_fits target found.shape) key old object parts.objects stands (ap (target_fits target) (now ∙ sym was)) at

  stored_still : (named : Named) → option_map_or is_storage (object_at (with_object key object parts).objects named.object) false ≡ option_map_or is_storage (object_at parts.objects named.object) false
  stored_still named = test_replaced is_storage key old object parts.objects stands storage named.object

  node_is : node_of object ≡ own_node object
  node_is = ap (λ (shape : Shape). node_in shape (own_node object)) now

  on_node : (P : Node → Type 0) → P (own_node object) → P (node_of object)
  on_node P has = subst P (sym node_is) has

  -- a segment is another object
  other_segment : (at : ℕ) (found : Object) (links : Links) → object_at (with_object key object parts).objects at ≡ Some found → links_in found.shape ≡ Some links → object_at parts.objects at ≡ Some found
  other_segment at found links is linked = by_key (nat_eq at key) refl
    where
      by_key : (b : Bool) → nat_eq at key ≡ b → object_at parts.objects at ≡ Some found
      by_key true same =
          let found_is : found ≡ object = same_Some _ _ (sym is ∙ ap (object_at (with_object key object parts).objects) (eqb-true _ _ same) ∙ replaced-here key object parts.objects (IsSome-holds _ _ stands)) in
          absurd (none-some links (ap links_in (sym (ap (λ (o : Object). o.shape) found_is ∙ now)) ∙ linked))
      by_key false differ = sym (replaced-other key object parts.objects at (λ same. false≢true (sym differ ∙ eq-eqb at key same))) ∙ is

  pub form_kept : IsWellFormed parts → IsFit parts key object → IsWellFormed (with_object key object parts)
  form_kept form fit = record {
    edges_hold_values = all_replaced (λ at object. list_all (λ edge. has_value parts edge.value) (node_of object).edges) key object parts.objects
        (on_node (λ node. list_all (λ edge. has_value parts edge.value) node.edges ≡ true) fit.holds) form.edges_hold_values;
    edges_are_at_home = all_replaced (λ at object. list_all (λ edge. passes_at parts (may_stand_in at) edge.value) (node_of object).edges) key object parts.objects
        (on_node (λ node. list_all (λ edge. passes_at parts (may_stand_in key) edge.value) node.edges ≡ true) fit.home) form.edges_are_at_home;
    registers_hold_values = form.registers_hold_values;
    ports_are_values = form.ports_are_values;
    addresses_lead_to_objects = all_same (λ (entry : KeyedValue). leads_to_object parts entry.value) (λ entry. leads_to_object (with_object key object parts) entry.value) (λ entry. leads_still entry.value) parts.values form.addresses_lead_to_objects;
    variables_have_storage = all_same (λ (named : Named). option_map_or is_storage (object_at parts.objects named.object) false) (λ named. option_map_or is_storage (object_at (with_object key object parts).objects named.object) false) stored_still parts.variables form.variables_have_storage;
    storage_is_distinct = form.storage_is_distinct;
    variables_ascend = form.variables_ascend;
    registers_ascend = form.registers_ascend;
    objects_are_small = all_replaced (λ at object. nat_le object.size 65536) key object parts.objects fit.small form.objects_are_small;
    planes_are_as_long = all_replaced (λ at object. has_class_a_byte object) key object parts.objects
        (on_node (λ node. (not object.live || nat_eq (length node.plane) object.size) ≡ true) fit.long) form.planes_are_as_long;
    dead_objects_are_bare = all_replaced (λ at object. object.live || (is_region object.shape && says_nothing object.edges object.plane)) key object parts.objects
        (ap (λ (shape : Shape). object.live || (is_region shape && says_nothing object.edges object.plane)) now ∙ fit.bare) form.dead_objects_are_bare;
    segments_are_allocated = all_replaced (λ at object. is_region object.shape || is_segment_storage object) key object parts.objects
        (ap (λ (shape : Shape). is_region shape || is_segment_storage object) now) form.segments_are_allocated;
    edges_lie_inside = all_replaced (λ at object. list_all (lies_in object.size) (node_of object).edges) key object parts.objects
        (on_node (λ node. list_all (lies_in object.size) node.edges ≡ true) fit.inside) form.edges_lie_inside;
    edges_are_in_order = all_replaced (λ at object. are_in_order (node_of object).edges) key object parts.objects
        (on_node (λ node. are_in_order node.edges ≡ true) fit.order) form.edges_are_in_order;
    edges_have_their_sizes = all_replaced (λ at object. list_all (edge_has_size parts) (node_of object).edges) key object parts.objects
        (on_node (λ node. list_all (edge_has_size parts) node.edges ≡ true) fit.sizes) form.edges_have_their_sizes;
    edges_have_their_classes = all_replaced (λ at object. list_all (edge_has_class parts (node_of object).plane) (node_of object).edges) key object parts.objects
        (on_node (λ node. list_all (edge_has_class parts node.plane) node.edges ≡ true) fit.classes) form.edges_have_their_classes;
    edges_are_not_zero = all_replaced (λ at object. list_all (λ edge. passes_at parts (λ value. not (is_zero value)) edge.value) (node_of object).edges) key object parts.objects
        (on_node (λ node. list_all (λ edge. passes_at parts (λ value. not (is_zero value)) edge.value) node.edges ≡ true) fit.nonzero) form.edges_are_not_zero;
    links_lie_inside = all_replaced (λ at object. list_all (lies_in object.size) (link_edges object.shape)) key object parts.objects
        (ap (λ (shape : Shape). list_all (lies_in object.size) (link_edges shape)) now) form.links_lie_inside;
    links_are_in_order = all_replaced (λ at object. are_in_order (link_edges object.shape)) key object parts.objects
        (ap (λ (shape : Shape). are_in_order (link_edges shape)) now) form.links_are_in_order;
    links_have_no_edge = all_replaced (λ at object. list_all (λ link. list_all (share_no_byte link) (node_of object).edges) (link_edges object.shape)) key object parts.objects
        (ap (λ (shape : Shape). list_all (λ link. list_all (share_no_byte link) (node_of object).edges) (link_edges shape)) now) form.links_have_no_edge;
    links_may_be_pointers = all_replaced (λ at object. list_all (link_is_any (node_of object).plane) (link_edges object.shape)) key object parts.objects
        (ap (λ (shape : Shape). list_all (link_is_any (node_of object).plane) (link_edges shape)) now) form.links_may_be_pointers;
    links_lead_on = all_replaced (λ at object. list_all (λ link. passes_at parts is_outward link.value) (link_edges object.shape)) key object parts.objects
        (ap (λ (shape : Shape). list_all (λ link. passes_at parts is_outward link.value) (link_edges shape)) now) form.links_lead_on;
    links_back_fit = all_replaced (λ at object. back_fits parts object.size (links_in object.shape)) key object parts.objects
        (ap (λ (shape : Shape). back_fits parts object.size (links_in shape)) now) form.links_back_fit;
    comes_to_an_end = record {
      ranks = form.comes_to_an_end.ranks;
      next = λ at found links is linked least. form.comes_to_an_end.next at found links (other_segment at found links is linked) linked least;
      prev = λ at found links is linked least. form.comes_to_an_end.prev at found links (other_segment at found links is linked) linked least;
    };
    values_are_sized = form.values_are_sized;
    pairs_may_be_unequal = form.pairs_may_be_unequal;
    pairs_are_different = form.pairs_are_different;
  }

  pub graph_kept : IsGraph parts → IsFit parts key object → IsGraph (with_object key object parts)
  graph_kept graph fit = record {
    well_formed = form_kept graph.well_formed fit;
    within_limits = and_both (nat_lt (nodes (with_object key object parts)) (2 ^ 30)) (nat_lt (length parts.unequal) (2 ^ 30))
        (lt-ltb _ _ (let before = ltb-true _ _ (and_left (nat_lt (nodes parts) (2 ^ 30)) (nat_lt (length parts.unequal) (2 ^ 30)) graph.within_limits) in let fewer = nodes_kept key object now parts.objects in omega arith))
        (and_right (nat_lt (nodes parts) (2 ^ 30)) (nat_lt (length parts.unequal) (2 ^ 30)) graph.within_limits);
    ascending = record { objects = ascending_kept key object parts.objects graph.ascending.objects; values = graph.ascending.values };
    keys = record { objects = places_kept key object parts.objects graph.keys.objects; values = graph.keys.values };
  }
