-- A graph with a live region more, of which no edge tells, is a graph.
use Rattle.std.proofs.Common.{◌≡◌, ◌≢◌, ℕ, ◌+◌, ◌^◌, ◌<◌, ◌≤◌, Bool, true, false, ◌&&◌, ◌||◌, not, [], ◌∷◌, length, nat_eq, nat_le, nat_lt, Option, None, Some, refl, sym, ◌∙◌, ap, eq-eqb, eqb-true, le-leb, lt-ltb, arith}
use Rattle.std.specs.Prelude.{IsSome, slice_get, if◌then◌else◌}
use Rattle.std.specs.List.{list_all}
use Rattle.std.specs.Option.{option_map_or}
use Rattle.std.proofs.lemmas.Bool.{false≢true}
use Rattle.std.proofs.lemmas.List.{length-replicate}
use Rattle.std.proofs.lemmas.List.Sums.{sum_by_push}
use Rattle.std.proofs.lemmas.Option.{same_Some, none-some}
use Rattle.bytes_core.specs.declared.block.BlockKind.{BlockKind}
use Rattle.graph.specs.declared.object.Links.{Links}
use Rattle.graph.specs.declared.object.Object.{Object}
use Rattle.graph.specs.declared.value.Value.{Value}
use Rattle.graph.specs.declared.value.Value.TheVariants.{Const, Number, Any, Address}
use Rattle.graph.specs.declared.parts.KeyedObject.{KeyedObject}
use Rattle.graph.specs.declared.parts.KeyedValue.{KeyedValue}
use Rattle.graph.specs.declared.parts.Named.{Named}
use Rattle.graph.specs.declared.parts.Parts.{Parts}
use Rattle.graph.specs.Maps.{object_at}
use Rattle.graph.specs.Meaning.{maps_of}
use Rattle.graph.specs.Nodes.{is_region, links_in, node_of, link_edges}
use Rattle.graph.specs.Sizes.{is_zero}
use Rattle.graph.specs.WellFormed.{IsWellFormed, passes_at, has_value, may_stand_in, target_fits, leads_to_object, is_storage, has_class_a_byte, says_nothing, is_segment_storage, lies_in, are_in_order, edge_has_size, edge_has_class, share_no_byte, link_is_any, is_outward, back_fits, nodes_of, nodes}
use Rattle.graph.specs.Whole.{IsGraph}
use Rattle.graph.proofs.Sent.{passes-some}
use Rattle.graph.proofs.Tests.{and_right, and_both, list_all-implies}
use Rattle.changes.specs.Parts.{with_object_more}
use Rattle.changes.proofs.Appended.{found_before, found_new, found_else, found_next, in_place_more, ascending_in_place}
use Rattle.changes.proofs.More.{HasObjectMore}
use Rattle.changes.proofs.RangeForm.{all_append}
use Rattle.block_steps.specs.Blocks.{new_object}

module _ (kind : BlockKind) (size : ℕ) (zeroed : Bool) (parts : Parts) (graph : IsGraph parts) where
  abbrev pub object : Object
  object = new_object kind size zeroed

  abbrev pub last : KeyedObject
  last = record { key = length parts.objects; object = object }

  abbrev pub grown : Parts
  grown = with_object_more object parts

  pub object_before : (at : ℕ) → IsSome (object_at parts.objects at) → object_at grown.objects at ≡ object_at parts.objects at
  object_before at some = found_before (λ (entry : KeyedObject). entry.key) (λ entry. entry.object) parts.objects last at some

  pub object_new : object_at grown.objects (length parts.objects) ≡ Some object
  object_new = found_new (λ (entry : KeyedObject). entry.key) (λ entry. entry.object) parts.objects last graph.keys.objects refl

  pub object_next : object_at parts.objects (length parts.objects) ≡ None
  object_next = found_next (λ (entry : KeyedObject). entry.key) (λ entry. entry.object) parts.objects graph.keys.objects

  pub object_else : (at : ℕ) → at ≢ length parts.objects → object_at grown.objects at ≡ object_at parts.objects at
  object_else at differ = found_else (λ (entry : KeyedObject). entry.key) (λ entry. entry.object) parts.objects last at differ

  pub has_object_more : HasObjectMore (length parts.objects) object (maps_of parts) (maps_of grown)
  has_object_more = record {
    new = object_next;
    here = object_new;
    objects = object_else;
    values = λ at. refl;
    variables = λ at. refl;
    registers = λ at. refl;
    ports = refl;
    unequal = refl;
  }

  pub nodes_more : nodes grown ≡ nodes parts + 1
  nodes_more = sum_by_push (λ (entry : KeyedObject). nodes_of entry.object.shape) parts.objects last

  leads_still : (value : Value) → leads_to_object parts value ≡ true → leads_to_object grown value ≡ true
  leads_still (Const number size) leads = refl
  leads_still (Number size) leads = refl
  leads_still Any leads = refl
  leads_still (Address key offset target) leads =
      ap (λ (o : Option Object). option_map_or (λ found. target_fits target found.shape) o false)
      (object_before key (passes-some (λ found. target_fits target found.shape) (object_at parts.objects key) leads)) ∙ leads

  stored_still : (key : ℕ) → option_map_or is_storage (object_at parts.objects key) false ≡ true → option_map_or is_storage (object_at grown.objects key) false ≡ true
  stored_still key stored =
      ap (λ (o : Option Object). option_map_or is_storage o false) (object_before key (passes-some is_storage (object_at parts.objects key) stored)) ∙ stored

  more : (test : ℕ → Object → Bool) → test (length parts.objects) object ≡ true → list_all (λ (entry : KeyedObject). test entry.key entry.object) parts.objects ≡ true →
      list_all (λ (entry : KeyedObject). test entry.key entry.object) grown.objects ≡ true
  more test here all =
      all_append (λ (entry : KeyedObject). test entry.key entry.object) parts.objects (last ∷ []) all (and_both (test (length parts.objects) object) true here refl)

  -- a segment stands where it stood
  was_segment : (at : ℕ) (found : Object) (links : Links) → object_at grown.objects at ≡ Some found → links_in found.shape ≡ Some links → object_at parts.objects at ≡ Some found
  was_segment at found links stands linked = by_key (nat_eq at (length parts.objects)) refl
    where
      by_key : (b : Bool) → nat_eq at (length parts.objects) ≡ b → object_at parts.objects at ≡ Some found
      by_key true is =
          let same : object ≡ found = same_Some _ _ (sym object_new ∙ ap (object_at grown.objects) (sym (eqb-true _ _ is)) ∙ stands) in
          absurd (none-some links (ap (λ (o : Object). links_in o.shape) same ∙ linked))
      by_key false is = sym (object_else at (λ same. false≢true (sym is ∙ eq-eqb _ _ same))) ∙ stands

  long : length object.plane ≡ size
  long = length-replicate size (if zeroed then 0 else 1)

  pub form_more : size ≤ 65536 → IsWellFormed grown
  form_more small = record {
    edges_hold_values = more (λ at object. list_all (λ edge. has_value parts edge.value) (node_of object).edges) refl form.edges_hold_values;
    edges_are_at_home = more (λ at object. list_all (λ edge. passes_at parts (may_stand_in at) edge.value) (node_of object).edges) refl form.edges_are_at_home;
    registers_hold_values = form.registers_hold_values;
    ports_are_values = form.ports_are_values;
    addresses_lead_to_objects = list_all-implies (λ (entry : KeyedValue). leads_to_object parts entry.value) (λ entry. leads_to_object grown entry.value) (λ entry. leads_still entry.value) parts.values form.addresses_lead_to_objects;
    variables_have_storage = list_all-implies (λ (named : Named). option_map_or is_storage (object_at parts.objects named.object) false) (λ named. option_map_or is_storage (object_at grown.objects named.object) false)
        (λ named. stored_still named.object) parts.variables form.variables_have_storage;
    storage_is_distinct = form.storage_is_distinct;
    variables_ascend = form.variables_ascend;
    registers_ascend = form.registers_ascend;
    objects_are_small = more (λ at object. nat_le object.size 65536) (le-leb _ _ small) form.objects_are_small;
    planes_are_as_long = more (λ at object. has_class_a_byte object) (eq-eqb _ _ long) form.planes_are_as_long;
    dead_objects_are_bare = more (λ at object. object.live || (is_region object.shape && says_nothing object.edges object.plane)) refl form.dead_objects_are_bare;
    segments_are_allocated = more (λ at object. is_region object.shape || is_segment_storage object) refl form.segments_are_allocated;
    edges_lie_inside = more (λ at object. list_all (lies_in object.size) (node_of object).edges) refl form.edges_lie_inside;
    edges_are_in_order = more (λ at object. are_in_order (node_of object).edges) refl form.edges_are_in_order;
    edges_have_their_sizes = more (λ at object. list_all (edge_has_size parts) (node_of object).edges) refl form.edges_have_their_sizes;
    edges_have_their_classes = more (λ at object. list_all (edge_has_class parts (node_of object).plane) (node_of object).edges) refl form.edges_have_their_classes;
    edges_are_not_zero = more (λ at object. list_all (λ edge. passes_at parts (λ value. not (is_zero value)) edge.value) (node_of object).edges) refl form.edges_are_not_zero;
    links_lie_inside = more (λ at object. list_all (lies_in object.size) (link_edges object.shape)) refl form.links_lie_inside;
    links_are_in_order = more (λ at object. are_in_order (link_edges object.shape)) refl form.links_are_in_order;
    links_have_no_edge = more (λ at object. list_all (λ link. list_all (share_no_byte link) (node_of object).edges) (link_edges object.shape)) refl form.links_have_no_edge;
    links_may_be_pointers = more (λ at object. list_all (link_is_any (node_of object).plane) (link_edges object.shape)) refl form.links_may_be_pointers;
    links_lead_on = more (λ at object. list_all (λ link. passes_at parts is_outward link.value) (link_edges object.shape)) refl form.links_lead_on;
    links_back_fit = more (λ at object. back_fits parts object.size (links_in object.shape)) refl form.links_back_fit;
    comes_to_an_end = record {
      ranks = form.comes_to_an_end.ranks;
      next = λ at found links stands linked least. form.comes_to_an_end.next at found links (was_segment at found links stands linked) linked least;
      prev = λ at found links stands linked least. form.comes_to_an_end.prev at found links (was_segment at found links stands linked) linked least;
    };
    values_are_sized = form.values_are_sized;
    pairs_may_be_unequal = form.pairs_may_be_unequal;
    pairs_are_different = form.pairs_are_different;
  }
    where
      form : IsWellFormed parts
      form = graph.well_formed

  pub graph_more : size ≤ 65536 → nodes parts + 1 < 2 ^ 30 → IsGraph grown
  graph_more small few = record {
    well_formed = form_more small;
    within_limits = and_both (nat_lt (nodes grown) (2 ^ 30)) (nat_lt (length parts.unequal) (2 ^ 30)) (lt-ltb _ _ (let many = nodes_more in omega arith))
        (and_right (nat_lt (nodes parts) (2 ^ 30)) (nat_lt (length parts.unequal) (2 ^ 30)) graph.within_limits);
    ascending = record { objects = ascending_in_place (λ (entry : KeyedObject). entry.key) (λ entry. entry.object) grown.objects in_place; values = graph.ascending.values };
    keys = record { objects = in_place; values = graph.keys.values };
  }
    where
      in_place : (place : ℕ) (entry : KeyedObject) → slice_get grown.objects place ≡ Some entry → entry.key ≡ place
      in_place = in_place_more (λ (entry : KeyedObject). entry.key) (λ entry. entry.object) parts.objects last graph.keys.objects refl
