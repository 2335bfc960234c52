-- All points of a graph hold where a segment that may have no nodes is gone, and the limits do.
use Rattle.std.proofs.Common.{◌≡◌, ℕ, ◌^◌, ◌≤◌, Bool, true, false, ◌||◌, ◌&&◌, not, cond, List, [], ◌∷◌, map, length, nat_eq, nat_le, nat_lt, Option, None, Some, refl, sym, ◌∙◌, ap, subst, leb-true, ltb-true, lt-ltb, arith}
use Rattle.std.specs.Prelude.{option_map, sum_by, if◌then◌else◌}
use Rattle.std.specs.List.{filter, list_all}
use Rattle.std.specs.Option.{option_map_or}
use Rattle.std.proofs.lemmas.List.Folds.{list_all-map}
use Rattle.std.proofs.lemmas.List.Sums.{sum_by-cons}
use Rattle.std.proofs.lemmas.Option.{same_Some, none-some}
use Rattle.bytes_core.specs.Release.{is_heap}
use Rattle.graph.specs.declared.object.Links.{Links}
use Rattle.graph.specs.declared.object.Object.{Object}
use Rattle.graph.specs.declared.object.Shape.{Shape}
use Rattle.graph.specs.declared.object.Shape.TheVariants.{Region as RegionShape, Segment}
use Rattle.graph.specs.declared.value.Value.{Value}
use Rattle.graph.specs.declared.value.Value.TheVariants.{Const, Number, Any, Address}
use Rattle.graph.specs.declared.parts.Held.{Held}
use Rattle.graph.specs.declared.parts.KeyedObject.{KeyedObject}
use Rattle.graph.specs.declared.parts.KeyedValue.{KeyedValue}
use Rattle.graph.specs.declared.parts.Named.{Named}
use Rattle.graph.specs.declared.parts.Pair.{Pair}
use Rattle.graph.specs.declared.parts.Parts.{Parts}
use Rattle.graph.specs.Large.{leads_to}
use Rattle.graph.specs.Maps.{object_at, value_at}
use Rattle.graph.specs.Nodes.{is_region, links_in, node_of, link_edges}
use Rattle.graph.specs.Sizes.{value_size, is_sized, is_zero, is_number, is_constant}
use Rattle.graph.specs.WellFormed.{IsWellFormed, HasAscendingKeys, Falls, are_ascending, passes_at, has_value, may_stand_in, may_be_held, target_fits, leads_to_object, is_storage, has_class_a_byte, says_nothing, is_segment_storage, lies_in, are_in_order, edge_has_size, edge_has_class, share_no_byte, link_is_any, is_outward, is_null, back_fits, are_numbers, may_be_unequal, is_unequal_pair, nodes_of, nodes, is_within_limits}
use Rattle.graph.specs.Whole.{IsGraph}
use Rattle.graph.proofs.Found.{IsSome-holds, Holds-some}
use Rattle.graph.proofs.InOrder.{ascending_from_neighbours, neighbours_from_ascending, ascending_by}
use Rattle.graph.proofs.Sent.{passes-some}
use Rattle.graph.proofs.Tests.{and_left, and_right, and_both, list_all-implies}
use Rattle.changes.proofs.RangeForm.{all_kept}
use Rattle.materialise.specs.Dropped.{edges_now, node_now, shape_now, object_now, entry_now, dropped}
use Rattle.materialise.proofs.Emptiable.{MayBeEmpty}
use Rattle.materialise.proofs.Case.{all_both, dropped_is, value_there, object_there, is_other, stored_other}
use Rattle.materialise.proofs.Emptied.{ranks, emptied_clear, emptied_leads, emptied_stands, emptied_size, emptied_sized, emptied_falls, emptied_number}
use Rattle.materialise.proofs.Form.{links_same, links_in_same, nodes_same, target_same, on_node, order_kept, is_fine, IsFine, fine_of, all_fine, fine_long, become, nows, behind, passes_now, has_now, now_passes, null_now, outward_now, held_now, all_objects, every_edge, fine_objects, long_now, bare_now, stored_now, classes_now}
use Rattle.materialise.proofs.Planes.{plane_beside}

-- what is asked of the links of an object
abbrev is_linked : Object → Bool
is_linked object =
    list_all (lies_in object.size) (link_edges object.shape)
    && (list_all (λ link. list_all (share_no_byte link) (node_of object).edges) (link_edges object.shape) && list_all (link_is_any (node_of object).plane) (link_edges object.shape))

-- two values that may be unequal are numbers of one size
both_numbers : (one other : Value) → may_be_unequal one other ≡ true → (size : ℕ) × (is_number one size ≡ true) × (is_number other size ≡ true)
both_numbers one other may = by_four (are_numbers one other 4) refl (and_left (are_numbers one other 4 || are_numbers one other 8) (not (is_constant one && is_constant other)) may)
  where
    by_four : (b : Bool) → are_numbers one other 4 ≡ b → (are_numbers one other 4 || are_numbers one other 8) ≡ true → (size : ℕ) × (is_number one size ≡ true) × (is_number other size ≡ true)
    by_four true is any = (4, and_left (is_number one 4) (is_number other 4) is, and_right (is_number one 4) (is_number other 4) is)
    by_four false is any =
        let eight : are_numbers one other 8 ≡ true = sym (ap (λ (b : Bool). b || are_numbers one other 8) is) ∙ any in
        (8, and_left (is_number one 8) (is_number other 8) eight, and_right (is_number one 8) (is_number other 8) eight)

module _ (parts : Parts) (graph : IsGraph parts) (key : ℕ) (may : MayBeEmpty parts key) where
  abbrev form : IsWellFormed parts
  form = graph.well_formed

  abbrev later : Parts
  later = behind parts graph key may

  abbrev change : ℕ → Value
  change = nows parts graph key may

  links_any : (object : Object) → IsFine object → list_all (lies_in object.size) (link_edges object.shape) ≡ true → list_all (λ link. list_all (share_no_byte link) (node_of object).edges) (link_edges object.shape) ≡ true →
      list_all (link_is_any (node_of object).plane) (link_edges object.shape) ≡ true → list_all (link_is_any (node_of (object_now change object)).plane) (link_edges (shape_now change object.shape)) ≡ true
  links_any object fine inside apart any =
      ap (list_all (link_is_any (node_of (object_now change object)).plane)) (links_same change object.shape)
      ∙ on_node change object (λ node. list_all (link_is_any node.plane) (link_edges object.shape) ≡ true) (by_shape object.shape refl)
    where
      by_shape : (shape : Shape) → object.shape ≡ shape → list_all (link_is_any (node_now change (node_of object)).plane) (link_edges object.shape) ≡ true
      by_shape RegionShape is = ap (λ (s : Shape). list_all (link_is_any (node_now change (node_of object)).plane) (link_edges s)) is
      by_shape (Segment twofold head next prev back least next_value prev_value node) is =
          let live = and_left object.live (is_heap object.kind && says_nothing object.edges object.plane) (sym (ap (λ (s : Shape). is_region s || is_segment_storage object) is) ∙ fine.stored) in
          let long = fine_long object fine live in
          list_all-implies (λ link. link_is_any (node_of object).plane link && (lies_in object.size link && list_all (share_no_byte link) (node_of object).edges)) (link_is_any (node_now change (node_of object)).plane)
          (λ link all.
          let rest = and_right (link_is_any (node_of object).plane link) (lies_in object.size link && list_all (share_no_byte link) (node_of object).edges) all in
          ap (list_all (nat_eq 2)) (plane_beside change object.size (node_of object).edges (node_of object).plane link long fine.inside
          (leb-true _ _ (and_left (lies_in object.size link) (list_all (share_no_byte link) (node_of object).edges) rest)) (and_right (lies_in object.size link) (list_all (share_no_byte link) (node_of object).edges) rest))
          ∙ and_left (link_is_any (node_of object).plane link) (lies_in object.size link && list_all (share_no_byte link) (node_of object).edges) all)
          (link_edges object.shape)
          (all_both (link_is_any (node_of object).plane) (λ link. lies_in object.size link && list_all (share_no_byte link) (node_of object).edges) (link_edges object.shape) any
          (all_both (lies_in object.size) (λ link. list_all (share_no_byte link) (node_of object).edges) (link_edges object.shape) inside apart))

  leads_still : (value : Value) → leads_to key value ≡ false → leads_to_object parts value ≡ true → leads_to_object later value ≡ true
  leads_still (Const number size) clear leads = refl
  leads_still (Number size) clear leads = refl
  leads_still Any clear leads = refl
  leads_still (Address object offset target) clear leads =
      ap (λ (o : Option Object). option_map_or (λ found. target_fits target found.shape) o false) (object_there parts graph.well_formed key may object clear) ∙ by_found (object_at parts.objects object) leads
    where
      by_found : (found : Option Object) → option_map_or (λ (found : Object). target_fits target found.shape) found false ≡ true → option_map_or (λ (found : Object). target_fits target found.shape) (option_map (object_now change) found) false ≡ true
      by_found None is = is
      by_found (Some found) is = target_same change target found.shape ∙ is

  storage_still : (at : ℕ) → option_map_or is_storage (object_at parts.objects at) false ≡ true → option_map_or is_storage (object_at later.objects at) false ≡ true
  storage_still at stored = ap (λ (o : Option Object). option_map_or is_storage o false) (object_there parts graph.well_formed key may at (stored_other parts graph.well_formed key may at stored)) ∙ by_found (object_at parts.objects at) stored
    where
      by_found : (found : Option Object) → option_map_or is_storage found false ≡ true → option_map_or is_storage (option_map (object_now change) found) false ≡ true
      by_found None is = is
      by_found (Some found) is = is

  back_still : (size : ℕ) (found : Option Links) → back_fits parts size found ≡ true → back_fits later size found ≡ true
  back_still size None is = refl
  back_still size (Some links) is = by_way links.twofold is
    where
      by_way : (b : Bool) → (if b then nat_lt links.back size else (nat_eq links.prev 0 && (nat_eq links.back 0 && passes_at parts is_null links.prev_value))) ≡ true →
          (if b then nat_lt links.back size else (nat_eq links.prev 0 && (nat_eq links.back 0 && passes_at later is_null links.prev_value))) ≡ true
      by_way true is = is
      by_way false is =
          let rest = and_right (nat_eq links.prev 0) (nat_eq links.back 0 && passes_at parts is_null links.prev_value) is in
          and_both (nat_eq links.prev 0) (nat_eq links.back 0 && passes_at later is_null links.prev_value) (and_left (nat_eq links.prev 0) (nat_eq links.back 0 && passes_at parts is_null links.prev_value) is)
          (and_both (nat_eq links.back 0) (passes_at later is_null links.prev_value) (and_left (nat_eq links.back 0) (passes_at parts is_null links.prev_value) rest)
          (null_now parts graph key may links.prev_value (and_right (nat_eq links.back 0) (passes_at parts is_null links.prev_value) rest)))

  was_linked : (at : ℕ) (object : Object) (links : Links) → object_at later.objects at ≡ Some object → links_in object.shape ≡ Some links → (old : Object) × (object_at parts.objects at ≡ Some old) × (links_in old.shape ≡ Some links)
  was_linked at object links stands linked =
      by_found (object_at parts.objects at) refl (sym (object_there parts graph.well_formed key may at (is_other parts graph.well_formed key may at (IsSome-holds _ _ stands))) ∙ stands)
    where
      by_found : (found : Option Object) → object_at parts.objects at ≡ found → option_map (object_now change) found ≡ Some object → (old : Object) × (object_at parts.objects at ≡ Some old) × (links_in old.shape ≡ Some links)
      by_found None is none = absurd (none-some object none)
      by_found (Some old) is same = (old, is, sym (links_in_same change old.shape) ∙ ap (λ (o : Object). links_in o.shape) (same_Some _ _ same) ∙ linked)

  falls_still : (rank at : ℕ) → Falls (ranks parts graph.well_formed key may) rank (value_at parts.values at) → Falls (ranks parts graph.well_formed key may) rank (value_at later.values at)
  falls_still rank at falls = subst (λ (o : Option Value). Falls (ranks parts graph.well_formed key may) rank o) (sym (value_there parts graph.well_formed key may at)) (by_found (value_at parts.values at) falls)
    where
      by_found : (found : Option Value) → Falls (ranks parts graph.well_formed key may) rank found → Falls (ranks parts graph.well_formed key may) rank (option_map (become parts graph key may) found)
      by_found None falls = tt
      by_found (Some value) falls = emptied_falls parts graph.well_formed key may rank value falls

  unequal_still : (pair : Pair) → is_unequal_pair parts pair ≡ true → is_unequal_pair later pair ≡ true
  unequal_still pair is =
      let both = and_right (not (nat_eq pair.left pair.right)) (passes_at parts (λ one. passes_at parts (may_be_unequal one) pair.right) pair.left) is in
      let left = Holds-some (value_at parts.values pair.left) (passes-some (λ one. passes_at parts (may_be_unequal one) pair.right) (value_at parts.values pair.left) both) in
      let there = subst (λ (o : Option Value). option_map_or (λ one. passes_at parts (may_be_unequal one) pair.right) o false ≡ true) left.is both in
      let right = Holds-some (value_at parts.values pair.right) (passes-some (may_be_unequal left.item) (value_at parts.values pair.right) there) in
      let differ = subst (λ (o : Option Value). option_map_or (may_be_unequal left.item) o false ≡ true) right.is there in
      let numbers = both_numbers left.item right.item differ in
      and_both (not (nat_eq pair.left pair.right)) (passes_at later (λ one. passes_at later (may_be_unequal one) pair.right) pair.left)
      (and_left (not (nat_eq pair.left pair.right)) (passes_at parts (λ one. passes_at parts (may_be_unequal one) pair.right) pair.left) is)
      (ap (λ (o : Option Value). option_map_or (λ one. passes_at later (may_be_unequal one) pair.right) o false) (stays pair.left left.item left.is (emptied_number parts graph.well_formed key may numbers.0 left.item numbers.1))
      ∙ ap (λ (o : Option Value). option_map_or (may_be_unequal left.item) o false) (stays pair.right right.item right.is (emptied_number parts graph.well_formed key may numbers.0 right.item numbers.2)) ∙ differ)
    where
      stays : (at : ℕ) (value : Value) → value_at parts.values at ≡ Some value → become parts graph key may value ≡ value → value_at later.values at ≡ Some value
      stays at value is same = value_there parts graph.well_formed key may at ∙ ap (option_map (become parts graph key may)) is ∙ ap Some same

  form_now : IsWellFormed later
  form_now = record {
    edges_hold_values = every_edge parts graph key may (λ at object edge. has_value parts edge.value) (λ at object edge. has_value later edge.value) (λ at object edge stays has. has_now parts graph key may edge.value has) form.edges_hold_values;
    edges_are_at_home = every_edge parts graph key may (λ at object edge. passes_at parts (may_stand_in at) edge.value) (λ at object edge. passes_at later (may_stand_in at) edge.value)
        (λ at object edge stays passes. passes_now parts graph key may (may_stand_in at) (may_stand_in at) (λ value leads is. emptied_stands parts graph.well_formed key may at value is) edge.value passes) form.edges_are_at_home;
    registers_hold_values = list_all-implies (λ (held : Held). passes_at parts may_be_held held.value) (λ held. passes_at later may_be_held held.value) (λ held passes. held_now parts graph key may held.value passes) parts.registers form.registers_hold_values;
    ports_are_values = list_all-implies (passes_at parts may_be_held) (passes_at later may_be_held) (held_now parts graph key may) parts.ports form.ports_are_values;
    addresses_lead_to_objects = list_all-map (λ (entry : KeyedValue). leads_to_object later entry.value) (λ (entry : KeyedValue). let e : KeyedValue = record { key = entry.key; value = become parts graph key may entry.value } in e) parts.values
        ∙ list_all-implies (λ (entry : KeyedValue). leads_to_object parts entry.value) (λ entry. leads_to_object later (become parts graph key may entry.value))
        (λ entry leads. leads_still (become parts graph key may entry.value) (emptied_clear parts graph.well_formed key may entry.value leads) (emptied_leads parts graph.well_formed key may entry.value leads)) parts.values form.addresses_lead_to_objects;
    variables_have_storage = list_all-implies (λ (named : Named). option_map_or is_storage (object_at parts.objects named.object) false) (λ named. option_map_or is_storage (object_at later.objects named.object) false)
        (λ named stored. storage_still named.object stored) parts.variables form.variables_have_storage;
    storage_is_distinct = form.storage_is_distinct;
    variables_ascend = form.variables_ascend;
    registers_ascend = form.registers_ascend;
    objects_are_small = all_objects parts graph key may (λ at object. nat_le object.size 65536) (λ at object. nat_le object.size 65536) (λ at object is. is) form.objects_are_small;
    planes_are_as_long = fine_objects parts graph key may (λ at object. has_class_a_byte object) (λ at object fine. long_now parts graph key may object fine);
    dead_objects_are_bare = fine_objects parts graph key may (λ at object. object.live || (is_region object.shape && says_nothing object.edges object.plane)) (λ at object fine. bare_now parts graph key may object fine);
    segments_are_allocated = fine_objects parts graph key may (λ at object. is_region object.shape || is_segment_storage object) (λ at object fine. stored_now parts graph key may object fine);
    edges_lie_inside = every_edge parts graph key may (λ at object edge. lies_in object.size edge) (λ at object edge. lies_in object.size edge) (λ at object edge stays is. is) form.edges_lie_inside;
    edges_are_in_order = all_objects parts graph key may (λ at object. are_in_order (node_of object).edges) (λ at object. are_in_order (node_of object).edges)
        (λ at object order. on_node change object (λ node. are_in_order node.edges ≡ true) (order_kept change (λ edge. not (is_zero (change edge.value))) (node_of object).edges order)) form.edges_are_in_order;
    edges_have_their_sizes = every_edge parts graph key may (λ at object edge. edge_has_size parts edge) (λ at object edge. edge_has_size later edge)
        (λ at object edge stays has. passes_now parts graph key may (λ value. nat_eq (value_size value) edge.size) (λ value. nat_eq (value_size value) edge.size)
        (λ value leads is. ap (λ (n : ℕ). nat_eq n edge.size) (emptied_size parts graph.well_formed key may value) ∙ is) edge.value has) form.edges_have_their_sizes;
    edges_have_their_classes = all_objects parts graph key may (λ at object. is_fine object && list_all (λ edge. has_value parts edge.value) (node_of object).edges) (λ at object. list_all (edge_has_class later (node_of object).plane) (node_of object).edges)
        (λ at object both. classes_now parts graph key may object (fine_of object (and_left (is_fine object) (list_all (λ edge. has_value parts edge.value) (node_of object).edges) both))
        (and_right (is_fine object) (list_all (λ edge. has_value parts edge.value) (node_of object).edges) both))
        (all_both (λ (entry : KeyedObject). is_fine entry.object) (λ (entry : KeyedObject). list_all (λ edge. has_value parts edge.value) (node_of entry.object).edges) parts.objects (all_fine parts form) form.edges_hold_values);
    edges_are_not_zero = every_edge parts graph key may (λ at object edge. has_value parts edge.value) (λ at object edge. passes_at later (λ value. not (is_zero value)) edge.value)
        (λ at object edge stays has. now_passes parts graph key may (λ value. not (is_zero value)) edge.value has ∙ stays) form.edges_hold_values;
    links_lie_inside = all_objects parts graph key may (λ at object. list_all (lies_in object.size) (link_edges object.shape)) (λ at object. list_all (lies_in object.size) (link_edges object.shape))
        (λ at object is. ap (list_all (lies_in object.size)) (links_same change object.shape) ∙ is) form.links_lie_inside;
    links_are_in_order = all_objects parts graph key may (λ at object. are_in_order (link_edges object.shape)) (λ at object. are_in_order (link_edges object.shape)) (λ at object is. ap are_in_order (links_same change object.shape) ∙ is) form.links_are_in_order;
    links_have_no_edge = all_objects parts graph key may (λ at object. list_all (λ link. list_all (share_no_byte link) (node_of object).edges) (link_edges object.shape)) (λ at object. list_all (λ link. list_all (share_no_byte link) (node_of object).edges) (link_edges object.shape))
        (λ at object is. ap (list_all (λ link. list_all (share_no_byte link) (node_of (object_now change object)).edges)) (links_same change object.shape)
        ∙ on_node change object (λ node. list_all (λ link. list_all (share_no_byte link) node.edges) (link_edges object.shape) ≡ true)
        (list_all-implies (λ link. list_all (share_no_byte link) (node_of object).edges) (λ link. list_all (share_no_byte link) (edges_now change (node_of object).edges))
        (λ link. all_kept (λ edge. not (is_zero (change edge.value))) (share_no_byte link) (share_no_byte link) (λ edge stays is. is) (node_of object).edges) (link_edges object.shape) is)) form.links_have_no_edge;
    links_may_be_pointers = all_objects parts graph key may (λ at object. is_fine object && is_linked object) (λ at object. list_all (link_is_any (node_of object).plane) (link_edges object.shape))
        (λ at object both.
        let linked = and_right (is_fine object) (is_linked object) both in
        let rest = and_right (list_all (lies_in object.size) (link_edges object.shape)) _ linked in
        links_any object (fine_of object (and_left (is_fine object) (is_linked object) both)) (and_left (list_all (lies_in object.size) (link_edges object.shape)) _ linked)
        (and_left (list_all (λ link. list_all (share_no_byte link) (node_of object).edges) (link_edges object.shape)) (list_all (link_is_any (node_of object).plane) (link_edges object.shape)) rest)
        (and_right (list_all (λ link. list_all (share_no_byte link) (node_of object).edges) (link_edges object.shape)) (list_all (link_is_any (node_of object).plane) (link_edges object.shape)) rest))
        (all_both (λ (entry : KeyedObject). is_fine entry.object) (λ (entry : KeyedObject). is_linked entry.object) parts.objects (all_fine parts form)
        (all_both (λ (entry : KeyedObject). list_all (lies_in entry.object.size) (link_edges entry.object.shape)) _ parts.objects form.links_lie_inside
        (all_both (λ (entry : KeyedObject). list_all (λ link. list_all (share_no_byte link) (node_of entry.object).edges) (link_edges entry.object.shape)) (λ (entry : KeyedObject). list_all (link_is_any (node_of entry.object).plane) (link_edges entry.object.shape)) parts.objects
        form.links_have_no_edge form.links_may_be_pointers)));
    links_lead_on = all_objects parts graph key may (λ at object. list_all (λ link. passes_at parts is_outward link.value) (link_edges object.shape)) (λ at object. list_all (λ link. passes_at later is_outward link.value) (link_edges object.shape))
        (λ at object is. ap (list_all (λ link. passes_at later is_outward link.value)) (links_same change object.shape)
        ∙ list_all-implies (λ link. passes_at parts is_outward link.value) (λ link. passes_at later is_outward link.value) (λ link passes. outward_now parts graph key may link.value passes) (link_edges object.shape) is) form.links_lead_on;
    links_back_fit = all_objects parts graph key may (λ at object. back_fits parts object.size (links_in object.shape)) (λ at object. back_fits later object.size (links_in object.shape))
        (λ at object is. ap (back_fits later object.size) (links_in_same change object.shape) ∙ back_still object.size (links_in object.shape) is) form.links_back_fit;
    comes_to_an_end = record {
      ranks = form.comes_to_an_end.ranks;
      next = λ at object links stands linked least. let was = was_linked at object links stands linked in falls_still (form.comes_to_an_end.ranks.first at) links.next_value (form.comes_to_an_end.next at was.0 links was.1 was.2 least);
      prev = λ at object links stands linked least. let was = was_linked at object links stands linked in falls_still (form.comes_to_an_end.ranks.last at) links.prev_value (form.comes_to_an_end.prev at was.0 links was.1 was.2 least);
    };
    values_are_sized = list_all-map (λ (entry : KeyedValue). is_sized entry.value) (λ (entry : KeyedValue). let e : KeyedValue = record { key = entry.key; value = become parts graph key may entry.value } in e) parts.values
        ∙ list_all-implies (λ (entry : KeyedValue). is_sized entry.value) (λ entry. is_sized (become parts graph key may entry.value)) (λ entry is. emptied_sized parts graph.well_formed key may entry.value is) parts.values form.values_are_sized;
    pairs_may_be_unequal = list_all-implies (is_unequal_pair parts) (is_unequal_pair later) unequal_still parts.unequal form.pairs_may_be_unequal;
    pairs_are_different = form.pairs_are_different;
  }

  -- Keys and limits.

  fewer : (entries : List KeyedObject) → sum_by (λ (entry : KeyedObject). nodes_of entry.object.shape) (filter (λ entry. not (nat_eq entry.key key)) (map (entry_now change) entries)) ≤ sum_by (λ (entry : KeyedObject). nodes_of entry.object.shape) entries
  fewer [] = omega arith
  fewer (first ∷ rest) = by_key (nat_eq first.key key) (fewer rest)
    where
      by_key : (b : Bool) → sum_by (λ (entry : KeyedObject). nodes_of entry.object.shape) (filter (λ entry. not (nat_eq entry.key key)) (map (entry_now change) rest)) ≤ sum_by (λ (entry : KeyedObject). nodes_of entry.object.shape) rest →
          sum_by (λ (entry : KeyedObject). nodes_of entry.object.shape)
          (cond (not b) (entry_now change first ∷ filter (λ entry. not (nat_eq entry.key key)) (map (entry_now change) rest)) (filter (λ entry. not (nat_eq entry.key key)) (map (entry_now change) rest)))
          ≤ sum_by (λ (entry : KeyedObject). nodes_of entry.object.shape) (first ∷ rest)
      by_key true below = let right = sum_by-cons (λ (entry : KeyedObject). nodes_of entry.object.shape) first rest in omega (arith, right, below)
      by_key false below =
          let left = sum_by-cons (λ (entry : KeyedObject). nodes_of entry.object.shape) (entry_now change first) (filter (λ entry. not (nat_eq entry.key key)) (map (entry_now change) rest)) in
          let right = sum_by-cons (λ (entry : KeyedObject). nodes_of entry.object.shape) first rest in
          let same = nodes_same change first.object.shape in
          omega (arith, left, right, same, below)

  limits_now : is_within_limits later ≡ true
  limits_now = and_both (nat_lt (nodes later) (2 ^ 30)) (nat_lt (length later.unequal) (2 ^ 30))
      (lt-ltb _ _ (let few = fewer parts.objects in let below = ltb-true _ _ (and_left (nat_lt (nodes parts) (2 ^ 30)) (nat_lt (length parts.unequal) (2 ^ 30)) graph.within_limits) in omega arith))
      (and_right (nat_lt (nodes parts) (2 ^ 30)) (nat_lt (length parts.unequal) (2 ^ 30)) graph.within_limits)

  above_still : (low : ℕ) (entries : List KeyedObject) → list_all (nat_lt low) (map (λ (entry : KeyedObject). entry.key) entries) ≡ true →
      list_all (nat_lt low) (map (λ (entry : KeyedObject). entry.key) (filter (λ entry. not (nat_eq entry.key key)) (map (entry_now change) entries))) ≡ true
  above_still low [] all = refl
  above_still low (first ∷ rest) all =
      by_key (nat_eq first.key key) (above_still low rest (and_right (nat_lt low first.key) (list_all (nat_lt low) (map (λ (entry : KeyedObject). entry.key) rest)) all))
    where
      by_key : (b : Bool) → list_all (nat_lt low) (map (λ (entry : KeyedObject). entry.key) (filter (λ entry. not (nat_eq entry.key key)) (map (entry_now change) rest))) ≡ true →
          list_all (nat_lt low) (map (λ (entry : KeyedObject). entry.key)
          (cond (not b) (entry_now change first ∷ filter (λ entry. not (nat_eq entry.key key)) (map (entry_now change) rest)) (filter (λ entry. not (nat_eq entry.key key)) (map (entry_now change) rest)))) ≡ true
      by_key true later = later
      by_key false later = and_both (nat_lt low first.key) (list_all (nat_lt low) (map (λ (entry : KeyedObject). entry.key) (filter (λ entry. not (nat_eq entry.key key)) (map (entry_now change) rest))))
          (and_left (nat_lt low first.key) (list_all (nat_lt low) (map (λ (entry : KeyedObject). entry.key) rest)) all) later

  rising_still : (entries : List KeyedObject) → are_ascending (map (λ (entry : KeyedObject). entry.key) entries) ≡ true →
      are_ascending (map (λ (entry : KeyedObject). entry.key) (filter (λ entry. not (nat_eq entry.key key)) (map (entry_now change) entries))) ≡ true
  rising_still [] all = refl
  rising_still (first ∷ rest) all =
      by_key (nat_eq first.key key) (rising_still rest (and_right (list_all (nat_lt first.key) (map (λ (entry : KeyedObject). entry.key) rest)) (are_ascending (map (λ (entry : KeyedObject). entry.key) rest)) all))
    where
      by_key : (b : Bool) → are_ascending (map (λ (entry : KeyedObject). entry.key) (filter (λ entry. not (nat_eq entry.key key)) (map (entry_now change) rest))) ≡ true →
          are_ascending (map (λ (entry : KeyedObject). entry.key)
          (cond (not b) (entry_now change first ∷ filter (λ entry. not (nat_eq entry.key key)) (map (entry_now change) rest)) (filter (λ entry. not (nat_eq entry.key key)) (map (entry_now change) rest)))) ≡ true
      by_key true later = later
      by_key false later = and_both (list_all (nat_lt first.key) (map (λ (entry : KeyedObject). entry.key) (filter (λ entry. not (nat_eq entry.key key)) (map (entry_now change) rest)))) _
          (above_still first.key rest (and_left (list_all (nat_lt first.key) (map (λ (entry : KeyedObject). entry.key) rest)) (are_ascending (map (λ (entry : KeyedObject). entry.key) rest)) all)) later

  value_keys : (entries : List KeyedValue) →
      map (λ (entry : KeyedValue). entry.key) (map {B = KeyedValue} (λ entry. record { key = entry.key; value = become parts graph key may entry.value }) entries) ≡ map (λ (entry : KeyedValue). entry.key) entries
  value_keys [] = refl
  value_keys (first ∷ rest) = ap (λ (keys : List ℕ). first.key ∷ keys) (value_keys rest)

  pub ascending_now : HasAscendingKeys later
  ascending_now = record {
    objects = ascending_from_neighbours (λ (entry : KeyedObject). entry.key) later.objects
        (ascending_by (λ (entry : KeyedObject). entry.key) later.objects
        ∙ rising_still parts.objects (sym (ascending_by (λ (entry : KeyedObject). entry.key) parts.objects) ∙ neighbours_from_ascending (λ (entry : KeyedObject). entry.key) parts.objects graph.ascending.objects));
    values = ascending_from_neighbours (λ (entry : KeyedValue). entry.key) later.values
        (ascending_by (λ (entry : KeyedValue). entry.key) later.values ∙ ap are_ascending (value_keys parts.values)
        ∙ (sym (ascending_by (λ (entry : KeyedValue). entry.key) parts.values) ∙ neighbours_from_ascending (λ (entry : KeyedValue). entry.key) parts.values graph.ascending.values));
  }

  pub dropped_form : IsWellFormed (dropped key parts)
  dropped_form = subst IsWellFormed (sym (dropped_is parts graph.well_formed key may)) form_now

  pub dropped_ascending : HasAscendingKeys (dropped key parts)
  dropped_ascending = subst HasAscendingKeys (sym (dropped_is parts graph.well_formed key may)) ascending_now

  pub dropped_limits : is_within_limits (dropped key parts) ≡ true
  dropped_limits = ap is_within_limits (dropped_is parts graph.well_formed key may) ∙ limits_now
