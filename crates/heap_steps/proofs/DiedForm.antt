-- A graph in which a region is dead that is no variable's storage is a graph.
use Rattle.std.proofs.Common.{◌≡◌, ℕ, ◌+◌, ◌^◌, ◌≤◌, Bool, true, false, not, ◌||◌, ◌&&◌, List, [], ◌∷◌, map, length, nat_eq, nat_le, nat_lt, Option, None, Some, refl, sym, ◌∙◌, ap, subst, eqb-true, eq-eqb, lt-ltb, ltb-true, arith}
use Rattle.std.specs.Prelude.{option_map, slice_get, if◌then◌else◌}
use Rattle.std.specs.List.{list_all, fold}
use Rattle.std.specs.Option.{option_map_or}
use Rattle.std.proofs.lemmas.Bool.{false≢true}
use Rattle.std.proofs.lemmas.Option.{same_Some, none-some, slice_get-map}
use Rattle.graph.specs.declared.object.Links.{Links}
use Rattle.graph.specs.declared.object.Object.{Object}
use Rattle.graph.specs.declared.object.Shape.{Shape}
use Rattle.graph.specs.declared.object.Shape.TheVariants.{Region as RegionShape, Segment}
use Rattle.graph.specs.declared.value.Value.{Value}
use Rattle.graph.specs.declared.value.Value.TheVariants.{Const, Number, Any, Address}
use Rattle.graph.specs.declared.parts.KeyedObject.{KeyedObject}
use Rattle.graph.specs.declared.parts.KeyedValue.{KeyedValue}
use Rattle.graph.specs.declared.parts.Named.{Named}
use Rattle.graph.specs.declared.parts.Parts.{Parts}
use Rattle.graph.specs.Maps.{object_at}
use Rattle.graph.specs.Nodes.{is_region, links_in, node_of, link_edges}
use Rattle.graph.specs.Sizes.{is_zero}
use Rattle.graph.specs.WellFormed.{IsWellFormed, passes_at, has_value, may_stand_in, target_fits, leads_to_object, is_storage, has_class_a_byte, says_nothing, is_segment_storage, lies_in, are_in_order, edge_has_size, edge_has_class, share_no_byte, link_is_any, is_outward, back_fits, nodes_of, nodes}
use Rattle.graph.specs.Whole.{IsGraph}
use Rattle.graph.proofs.Found.{IsSome-holds, found-all}
use Rattle.graph.proofs.Tests.{and_left, and_right, and_both}
use Rattle.changes.specs.Dying.{died}
use Rattle.changes.specs.Parts.{replaced, with_object}
use Rattle.changes.proofs.KeptForm.{all_same, all_replaced, test_replaced, ascending_kept}
use Rattle.changes.proofs.Objects.{replaced-other, replaced-here}

places_kept : (key : ℕ) (object : Object) (entries : List KeyedObject) → ((place : ℕ) (entry : KeyedObject) → slice_get entries place ≡ Some entry → entry.key ≡ place) →
    (place : ℕ) (entry : KeyedObject) → slice_get (map (replaced key object) entries) place ≡ Some entry → entry.key ≡ place
places_kept key object entries has place entry stands = by_found (slice_get entries place) refl (sym (slice_get-map (replaced key object) entries place) ∙ stands)
  where
    by_found : (found : Option KeyedObject) → slice_get entries place ≡ found → option_map (replaced key object) found ≡ Some entry → entry.key ≡ place
    by_found None is none = absurd (none-some entry none)
    by_found (Some first) is same = ap (λ (e : KeyedObject). e.key) (sym (same_Some _ _ same)) ∙ has place first is

some_nodes : (shape : Shape) → 1 ≤ nodes_of shape
some_nodes RegionShape = omega arith
some_nodes (Segment twofold head next prev back least next_value prev_value node) = omega arith

fold_kept : (key : ℕ) (object : Object) → object.shape ≡ RegionShape → (entries : List KeyedObject) (a b : ℕ) → a ≤ b →
    fold (λ count (entry : KeyedObject). count + nodes_of entry.object.shape) a (map (replaced key object) entries) ≤ fold (λ count (entry : KeyedObject). count + nodes_of entry.object.shape) b entries
fold_kept key object region [] a b most = most
fold_kept key object region (first ∷ rest) a b most =
    fold_kept key object region rest (a + nodes_of (if nat_eq first.key key then object else first.object).shape) (b + nodes_of first.object.shape) (let here = by_test (nat_eq first.key key) in omega arith)
  where
    by_test : (b : Bool) → nodes_of (if b then object else first.object).shape ≤ nodes_of first.object.shape
    by_test true = let one = some_nodes first.object.shape in let is = ap nodes_of region in omega arith
    by_test false = omega arith

module _ (key : ℕ) (object : Object) (parts : Parts) (graph : IsGraph parts) (stands : object_at parts.objects key ≡ Some object) (region : object.shape ≡ RegionShape)
    (unstored : list_all (λ (named : Named). not (nat_eq named.object key)) parts.variables ≡ true) where
  abbrev bare : Object
  bare = record { size = object.size; kind = object.kind; live = false; shape = RegionShape; edges = []; plane = [] }

  abbrev after : Parts
  after = with_object key bare parts

  bare_is : died object ≡ bare
  bare_is = ap with_shape region
    where
      with_shape : Shape → Object
      with_shape shape = record { size = object.size; kind = object.kind; live = false; shape = shape; edges = []; plane = [] }

  leads_still : (value : Value) → leads_to_object after value ≡ leads_to_object parts value
  leads_still (Const number size) = refl
  leads_still (Number size) = refl
  leads_still Any = refl
  leads_still (Address at offset target) = test_replaced (λ found. target_fits target found.shape) key object bare parts.objects stands (ap (target_fits target) (sym region)) at

  stored_still : (named : Named) → not (nat_eq named.object key) ≡ true → option_map_or is_storage (object_at after.objects named.object) false ≡ option_map_or is_storage (object_at parts.objects named.object) false
  stored_still named differ =
      ap (λ (o : Option Object). option_map_or is_storage o false) (replaced-other key bare parts.objects named.object (λ same. false≢true (sym (ap not (eq-eqb _ _ same)) ∙ differ)))

  variables_still : (variables : List Named) → list_all (λ (named : Named). not (nat_eq named.object key)) variables ≡ true → list_all (λ (named : Named). option_map_or is_storage (object_at parts.objects named.object) false) variables ≡ true →
      list_all (λ (named : Named). option_map_or is_storage (object_at after.objects named.object) false) variables ≡ true
  variables_still [] differ stored = refl
  variables_still (first ∷ rest) differ stored =
      and_both (option_map_or is_storage (object_at after.objects first.object) false) (list_all (λ (named : Named). option_map_or is_storage (object_at after.objects named.object) false) rest)
      (stored_still first (and_left (not (nat_eq first.object key)) (list_all (λ (named : Named). not (nat_eq named.object key)) rest) differ)
      ∙ and_left (option_map_or is_storage (object_at parts.objects first.object) false) (list_all (λ (named : Named). option_map_or is_storage (object_at parts.objects named.object) false) rest) stored)
      (variables_still rest (and_right (not (nat_eq first.object key)) (list_all (λ (named : Named). not (nat_eq named.object key)) rest) differ)
      (and_right (option_map_or is_storage (object_at parts.objects first.object) false) (list_all (λ (named : Named). option_map_or is_storage (object_at parts.objects named.object) false) rest) stored))

  -- a segment is another object
  other_segment : (at : ℕ) (found : Object) (links : Links) → object_at after.objects at ≡ Some found → links_in found.shape ≡ Some links → object_at parts.objects at ≡ Some found
  other_segment at found links is linked = by_key (nat_eq at key) refl
    where
      by_key : (b : Bool) → nat_eq at key ≡ b → object_at parts.objects at ≡ Some found
      by_key true same =
          let found_is : found ≡ bare = same_Some _ _ (sym is ∙ ap (object_at after.objects) (eqb-true _ _ same) ∙ replaced-here key bare parts.objects (IsSome-holds _ _ stands)) in
          absurd (none-some links (ap (λ (o : Object). links_in o.shape) (sym found_is) ∙ linked))
      by_key false differ = sym (replaced-other key bare parts.objects at (λ same. false≢true (sym differ ∙ eq-eqb at key same))) ∙ is

  pub graph_ended : IsGraph (with_object key (died object) parts)
  graph_ended = subst (λ (o : Object). IsGraph (with_object key o parts)) (sym bare_is) (record {
    well_formed = record {
      edges_hold_values = all_replaced (λ at object. list_all (λ edge. has_value parts edge.value) (node_of object).edges) key bare parts.objects refl form.edges_hold_values;
      edges_are_at_home = all_replaced (λ at object. list_all (λ edge. passes_at parts (may_stand_in at) edge.value) (node_of object).edges) key bare parts.objects refl form.edges_are_at_home;
      registers_hold_values = form.registers_hold_values;
      ports_are_values = form.ports_are_values;
      addresses_lead_to_objects = all_same (λ (entry : KeyedValue). leads_to_object parts entry.value) (λ entry. leads_to_object after entry.value) (λ entry. leads_still entry.value) parts.values form.addresses_lead_to_objects;
      variables_have_storage = variables_still parts.variables unstored form.variables_have_storage;
      storage_is_distinct = form.storage_is_distinct;
      variables_ascend = form.variables_ascend;
      registers_ascend = form.registers_ascend;
      objects_are_small = all_replaced (λ at object. nat_le object.size 65536) key bare parts.objects
          (found-all (λ (entry : KeyedObject). entry.key) (λ entry. entry.object) (λ (object : Object). nat_le object.size 65536) parts.objects key object form.objects_are_small stands) form.objects_are_small;
      planes_are_as_long = all_replaced (λ at object. has_class_a_byte object) key bare parts.objects refl form.planes_are_as_long;
      dead_objects_are_bare = all_replaced (λ at object. object.live || (is_region object.shape && says_nothing object.edges object.plane)) key bare parts.objects refl form.dead_objects_are_bare;
      segments_are_allocated = all_replaced (λ at object. is_region object.shape || is_segment_storage object) key bare parts.objects refl form.segments_are_allocated;
      edges_lie_inside = all_replaced (λ at object. list_all (lies_in object.size) (node_of object).edges) key bare parts.objects refl form.edges_lie_inside;
      edges_are_in_order = all_replaced (λ at object. are_in_order (node_of object).edges) key bare parts.objects refl form.edges_are_in_order;
      edges_have_their_sizes = all_replaced (λ at object. list_all (edge_has_size parts) (node_of object).edges) key bare parts.objects refl form.edges_have_their_sizes;
      edges_have_their_classes = all_replaced (λ at object. list_all (edge_has_class parts (node_of object).plane) (node_of object).edges) key bare parts.objects refl form.edges_have_their_classes;
      edges_are_not_zero = all_replaced (λ at object. list_all (λ edge. passes_at parts (λ value. not (is_zero value)) edge.value) (node_of object).edges) key bare parts.objects refl form.edges_are_not_zero;
      links_lie_inside = all_replaced (λ at object. list_all (lies_in object.size) (link_edges object.shape)) key bare parts.objects refl form.links_lie_inside;
      links_are_in_order = all_replaced (λ at object. are_in_order (link_edges object.shape)) key bare parts.objects refl form.links_are_in_order;
      links_have_no_edge = all_replaced (λ at object. list_all (λ link. list_all (share_no_byte link) (node_of object).edges) (link_edges object.shape)) key bare parts.objects refl form.links_have_no_edge;
      links_may_be_pointers = all_replaced (λ at object. list_all (link_is_any (node_of object).plane) (link_edges object.shape)) key bare parts.objects refl form.links_may_be_pointers;
      links_lead_on = all_replaced (λ at object. list_all (λ link. passes_at parts is_outward link.value) (link_edges object.shape)) key bare parts.objects refl form.links_lead_on;
      links_back_fit = all_replaced (λ at object. back_fits parts object.size (links_in object.shape)) key bare parts.objects refl form.links_back_fit;
      comes_to_an_end = record {
        ranks = form.comes_to_an_end.ranks;
        next = λ at found links is linked least. form.comes_to_an_end.next at found links (other_segment at found links is linked) linked least;
        prev = λ at found links is linked least. form.comes_to_an_end.prev at found links (other_segment at found links is linked) linked least;
      };
      values_are_sized = form.values_are_sized;
      pairs_may_be_unequal = form.pairs_may_be_unequal;
      pairs_are_different = form.pairs_are_different;
    };
    within_limits = and_both (nat_lt (nodes after) (2 ^ 30)) (nat_lt (length parts.unequal) (2 ^ 30))
        (lt-ltb _ _ (let before = ltb-true _ _ (and_left (nat_lt (nodes parts) (2 ^ 30)) (nat_lt (length parts.unequal) (2 ^ 30)) graph.within_limits) in let fewer = fold_kept key bare refl parts.objects 0 0 (omega arith) in omega arith))
        (and_right (nat_lt (nodes parts) (2 ^ 30)) (nat_lt (length parts.unequal) (2 ^ 30)) graph.within_limits);
    ascending = record { objects = ascending_kept key bare parts.objects graph.ascending.objects; values = graph.ascending.values };
    keys = record { objects = places_kept key bare parts.objects graph.keys.objects; values = graph.keys.values };
  })
    where
      form : IsWellFormed parts
      form = graph.well_formed
