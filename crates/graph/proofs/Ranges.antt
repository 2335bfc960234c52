-- The points of a graph: ranges of a plane, and all points together.
use Rattle.std.proofs.Common.{◌≡◌, ◌≢◌, ℕ, zero, suc, ◌+◌, ◌-◌, ◌<◌, ◌≤◌, Bool, true, false, ◌&&◌, ◌||◌, not, List, [], ◌∷◌, length, take, drop, nat_eq, nat_le, Some, refl, ◌∙◌, ap, eq-eqb, ne_eqb, arith}
use Rattle.std.specs.Prelude.{slice_get, ◌↔◌}
use Rattle.std.specs.List.{list_all}
use Rattle.std.proofs.lemmas.Option.{same_Some, none-some}
use Rattle.graph.specs.declared.edges.HasValue.{HasValue}
use Rattle.graph.specs.declared.parts.KeyedObject.{KeyedObject}
use Rattle.graph.specs.declared.parts.Parts.{Parts}
use Rattle.graph.specs.Maps.{value_at}
use Rattle.graph.specs.Sizes.{value_size, is_sized, is_zero}
use Rattle.graph.specs.Nodes.{is_region, links_in, node_of, link_edges}
use Rattle.graph.specs.WellFormed.{IsWellFormed, ComesToAnEnd, has_value, passes_at, may_stand_in, lies_in, are_in_order, edge_has_size, edge_has_class, has_class_a_byte, says_nothing, is_segment_storage, share_no_byte, link_is_any, is_outward, back_fits, leads_to_object, registers_hold_values, ports_are_values, variables_have_storage, storage_is_distinct, variables_ascend, registers_ascend, pairs_may_be_unequal}
use Rattle.graph.specs.Points.{edge_fits, link_fits, objects_fit, values_fit, passes_all}
use Rattle.graph.proofs.Tests.{and_left, and_right, and_both, list_all-implies}
use Rattle.graph.proofs.Sent.{passes-some}

-- one byte of a range, and the rest
range_step : (class : ℕ) (plane : List ℕ) (at left found : ℕ) → slice_get plane at ≡ Some found →
    list_all (nat_eq class) (take (suc left) (drop at plane)) ≡ (nat_eq class found && list_all (nat_eq class) (take left (drop (suc at) plane)))
range_step class [] at left found stands = absurd (none-some found stands)
range_step class (first ∷ rest) zero left found stands = ap (λ (n : ℕ). nat_eq class n && list_all (nat_eq class) (take left rest)) (same_Some _ _ stands)
range_step class (first ∷ rest) (suc at) left found stands = range_step class rest at left found stands

step_at : (class : ℕ) (plane : List ℕ) (at left found : ℕ) → 0 < left → slice_get plane at ≡ Some found →
    list_all (nat_eq class) (take left (drop at plane)) ≡ (nat_eq class found && list_all (nat_eq class) (take (left - 1) (drop (at + 1) plane)))
step_at class plane at left found some stands =
    let whole : left ≡ suc (left - 1) = omega arith in
    let next : suc at ≡ at + 1 = omega arith in
    ap (λ (n : ℕ). list_all (nat_eq class) (take n (drop at plane))) whole
    ∙ range_step class plane at (left - 1) found stands
    ∙ ap (λ (n : ℕ). nat_eq class found && list_all (nat_eq class) (take (left - 1) (drop n plane))) next

pub range_same : (class : ℕ) (plane : List ℕ) (at left found : ℕ) → 0 < left → slice_get plane at ≡ Some found → class ≡ found →
    list_all (nat_eq class) (take left (drop at plane)) ≡ list_all (nat_eq class) (take (left - 1) (drop (at + 1) plane))
range_same class plane at left found some stands same =
    step_at class plane at left found some stands ∙ ap (λ (b : Bool). b && list_all (nat_eq class) (take (left - 1) (drop (at + 1) plane))) (eq-eqb class found same)

pub range_differs : (class : ℕ) (plane : List ℕ) (at left found : ℕ) → 0 < left → slice_get plane at ≡ Some found → class ≢ found →
    list_all (nat_eq class) (take left (drop at plane)) ≡ false
range_differs class plane at left found some stands differ =
    step_at class plane at left found some stands ∙ ap (λ (b : Bool). b && list_all (nat_eq class) (take (left - 1) (drop (at + 1) plane))) (ne_eqb class found differ)

-- past the end there is nothing
pub range_end : (class : ℕ) (plane : List ℕ) (at left : ℕ) → length plane ≤ at → list_all (nat_eq class) (take left (drop at plane)) ≡ true
range_end class [] zero zero past = refl
range_end class [] zero (suc left) past = refl
range_end class [] (suc at) zero past = refl
range_end class [] (suc at) (suc left) past = refl
range_end class (first ∷ rest) zero left past = absurd (omega arith)
range_end class (first ∷ rest) (suc at) left past = range_end class rest at left (omega arith)

both_all : {X : Type 0} (one other : X → Bool) (xs : List X) → list_all one xs ≡ true → list_all other xs ≡ true → list_all (λ x. one x && other x) xs ≡ true
both_all one other [] ones others = refl
both_all one other (x ∷ xs) ones others =
    and_both (one x && other x) (list_all (λ x. one x && other x) xs)
    (and_both (one x) (other x) (and_left (one x) (list_all one xs) ones) (and_left (other x) (list_all other xs) others))
    (both_all one other xs (and_right (one x) (list_all one xs) ones) (and_right (other x) (list_all other xs) others))

left_all : {X : Type 0} (one other : X → Bool) (xs : List X) → list_all (λ x. one x && other x) xs ≡ true → list_all one xs ≡ true
left_all one other xs all = list_all-implies (λ x. one x && other x) one (λ x both. and_left (one x) (other x) both) xs all

right_all : {X : Type 0} (one other : X → Bool) (xs : List X) → list_all (λ x. one x && other x) xs ≡ true → list_all other xs ≡ true
right_all one other xs all = list_all-implies (λ x. one x && other x) other (λ x both. and_right (one x) (other x) both) xs all

-- an edge that has a size holds a value
size_has_value : (parts : Parts) (edge : HasValue) → edge_has_size parts edge ≡ true → has_value parts edge.value ≡ true
size_has_value parts edge has = passes-some (λ value. nat_eq (value_size value) edge.size) (value_at parts.values edge.value) has

module _ (parts : Parts) where
  abbrev inside : KeyedObject → HasValue → Bool
  inside entry edge = lies_in entry.object.size edge

  abbrev sized : KeyedObject → HasValue → Bool
  sized entry edge = edge_has_size parts edge

  abbrev classed : KeyedObject → HasValue → Bool
  classed entry edge = edge_has_class parts (node_of entry.object).plane edge

  abbrev nonzero : KeyedObject → HasValue → Bool
  nonzero entry edge = passes_at parts (λ value. not (is_zero value)) edge.value

  abbrev home : KeyedObject → HasValue → Bool
  home entry edge = passes_at parts (may_stand_in entry.key) edge.value

  abbrev free : KeyedObject → HasValue → Bool
  free entry link = list_all (share_no_byte link) (node_of entry.object).edges

  abbrev any : KeyedObject → HasValue → Bool
  any entry link = link_is_any (node_of entry.object).plane link

  abbrev outward : KeyedObject → HasValue → Bool
  outward entry link = passes_at parts is_outward link.value

  abbrev small : KeyedObject → Bool
  small entry = nat_le entry.object.size 65536

  abbrev long : KeyedObject → Bool
  long entry = has_class_a_byte entry.object

  abbrev bare : KeyedObject → Bool
  bare entry = entry.object.live || (is_region entry.object.shape && says_nothing entry.object.edges entry.object.plane)

  abbrev allocated : KeyedObject → Bool
  allocated entry = is_region entry.object.shape || is_segment_storage entry.object

  abbrev stored : KeyedObject → Bool
  stored entry = bare entry && allocated entry

  abbrev order : KeyedObject → Bool
  order entry = are_in_order (node_of entry.object).edges

  abbrev fit : KeyedObject → HasValue → Bool
  fit entry edge = edge_fits parts entry.key entry.object.size (node_of entry.object).plane edge

  abbrev edges : KeyedObject → Bool
  edges entry = list_all (fit entry) (node_of entry.object).edges

  abbrev link_order : KeyedObject → Bool
  link_order entry = are_in_order (link_edges entry.object.shape)

  abbrev link : KeyedObject → HasValue → Bool
  link entry edge = link_fits parts entry.object.size (node_of entry.object).plane (node_of entry.object).edges edge

  abbrev links : KeyedObject → Bool
  links entry = list_all (link entry) (link_edges entry.object.shape)

  abbrev back : KeyedObject → Bool
  back entry = back_fits parts entry.object.size (links_in entry.object.shape)

  -- what each edge, and each link, of each object passes
  parts_of : (items : KeyedObject → List HasValue) (test other : KeyedObject → HasValue → Bool) → ((entry : KeyedObject) (edge : HasValue) → test entry edge ≡ true → other entry edge ≡ true) →
      list_all (λ (entry : KeyedObject). list_all (test entry) (items entry)) parts.objects ≡ true → list_all (λ (entry : KeyedObject). list_all (other entry) (items entry)) parts.objects ≡ true
  parts_of items test other implies all =
      list_all-implies (λ (entry : KeyedObject). list_all (test entry) (items entry)) (λ (entry : KeyedObject). list_all (other entry) (items entry))
      (λ entry pass. list_all-implies (test entry) (other entry) (implies entry) (items entry) pass) parts.objects all

  well_formed_is : passes_all parts ≡ true → ComesToAnEnd parts → IsWellFormed parts
  well_formed_is all ends =
      let objects = and_left (objects_fit parts) _ all in
      let after1 = and_right (objects_fit parts) _ all in
      let values = and_left (values_fit parts) _ after1 in
      let after2 = and_right (values_fit parts) _ after1 in
      let storage = and_left (variables_have_storage parts) _ after2 in
      let after3 = and_right (variables_have_storage parts) _ after2 in
      let storage_distinct = and_left (storage_is_distinct parts) _ after3 in
      let after4 = and_right (storage_is_distinct parts) _ after3 in
      let variables_ascending = and_left (variables_ascend parts) _ after4 in
      let after5 = and_right (variables_ascend parts) _ after4 in
      let registers = and_left (registers_hold_values parts) _ after5 in
      let after6 = and_right (registers_hold_values parts) _ after5 in
      let registers_ascending = and_left (registers_ascend parts) _ after6 in
      let after7 = and_right (registers_ascend parts) _ after6 in
      let ports = and_left (ports_are_values parts) _ after7 in
      let after8 = and_right (ports_are_values parts) _ after7 in
      let pairs = and_left (pairs_may_be_unequal parts) _ after8 in
      let different = and_right (pairs_may_be_unequal parts) _ after8 in
      let objects1 = right_all small (λ entry. long entry && (stored entry && ((order entry && edges entry) && (link_order entry && (links entry && back entry))))) parts.objects objects in
      let objects2 = right_all long (λ entry. stored entry && ((order entry && edges entry) && (link_order entry && (links entry && back entry)))) parts.objects objects1 in
      let storages = left_all stored (λ entry. (order entry && edges entry) && (link_order entry && (links entry && back entry))) parts.objects objects2 in
      let objects3 = right_all stored (λ entry. (order entry && edges entry) && (link_order entry && (links entry && back entry))) parts.objects objects2 in
      let edges_all = left_all (λ entry. order entry && edges entry) (λ entry. link_order entry && (links entry && back entry)) parts.objects objects3 in
      let links_all = right_all (λ entry. order entry && edges entry) (λ entry. link_order entry && (links entry && back entry)) parts.objects objects3 in
      let each = right_all order edges parts.objects edges_all in
      let links_back = right_all link_order (λ entry. links entry && back entry) parts.objects links_all in
      let each_link = left_all links back parts.objects links_back in
      let part = parts_of (λ entry. (node_of entry.object).edges) fit in
      let link_part = parts_of (λ entry. link_edges entry.object.shape) link in
      record {
        edges_hold_values = part (λ entry edge. has_value parts edge.value)
            (λ entry edge fits. size_has_value parts edge (and_left (sized entry edge) (classed entry edge && (nonzero entry edge && home entry edge)) (and_right (inside entry edge) (sized entry edge && (classed entry edge && (nonzero entry edge && home entry edge))) fits))) each;
        edges_are_at_home = part home
            (λ entry edge fits. and_right (nonzero entry edge) (home entry edge) (and_right (classed entry edge) (nonzero entry edge && home entry edge) (and_right (sized entry edge) (classed entry edge && (nonzero entry edge && home entry edge))
            (and_right (inside entry edge) (sized entry edge && (classed entry edge && (nonzero entry edge && home entry edge))) fits)))) each;
        registers_hold_values = registers;
        ports_are_values = ports;
        addresses_lead_to_objects = left_all (λ entry. leads_to_object parts entry.value) (λ entry. is_sized entry.value) parts.values values;
        variables_have_storage = storage;
        storage_is_distinct = storage_distinct;
        variables_ascend = variables_ascending;
        registers_ascend = registers_ascending;
        objects_are_small = left_all small (λ entry. long entry && (stored entry && ((order entry && edges entry) && (link_order entry && (links entry && back entry))))) parts.objects objects;
        planes_are_as_long = left_all long (λ entry. stored entry && ((order entry && edges entry) && (link_order entry && (links entry && back entry)))) parts.objects objects1;
        dead_objects_are_bare = left_all bare allocated parts.objects storages;
        segments_are_allocated = right_all bare allocated parts.objects storages;
        edges_lie_inside = part inside (λ entry edge fits. and_left (inside entry edge) (sized entry edge && (classed entry edge && (nonzero entry edge && home entry edge))) fits) each;
        edges_are_in_order = left_all order edges parts.objects edges_all;
        edges_have_their_sizes = part sized (λ entry edge fits. and_left (sized entry edge) (classed entry edge && (nonzero entry edge && home entry edge)) (and_right (inside entry edge) (sized entry edge && (classed entry edge && (nonzero entry edge && home entry edge))) fits)) each;
        edges_have_their_classes = part classed (λ entry edge fits. and_left (classed entry edge) (nonzero entry edge && home entry edge) (and_right (sized entry edge) (classed entry edge && (nonzero entry edge && home entry edge))
            (and_right (inside entry edge) (sized entry edge && (classed entry edge && (nonzero entry edge && home entry edge))) fits))) each;
        edges_are_not_zero = part nonzero (λ entry edge fits. and_left (nonzero entry edge) (home entry edge) (and_right (classed entry edge) (nonzero entry edge && home entry edge) (and_right (sized entry edge) (classed entry edge && (nonzero entry edge && home entry edge))
            (and_right (inside entry edge) (sized entry edge && (classed entry edge && (nonzero entry edge && home entry edge))) fits)))) each;
        links_lie_inside = link_part inside (λ entry edge fits. and_left (inside entry edge) (free entry edge && (any entry edge && outward entry edge)) fits) each_link;
        links_are_in_order = left_all link_order (λ entry. links entry && back entry) parts.objects links_all;
        links_have_no_edge = link_part free (λ entry edge fits. and_left (free entry edge) (any entry edge && outward entry edge) (and_right (inside entry edge) (free entry edge && (any entry edge && outward entry edge)) fits)) each_link;
        links_may_be_pointers = link_part any (λ entry edge fits. and_left (any entry edge) (outward entry edge) (and_right (free entry edge) (any entry edge && outward entry edge) (and_right (inside entry edge) (free entry edge && (any entry edge && outward entry edge)) fits))) each_link;
        links_lead_on = link_part outward (λ entry edge fits. and_right (any entry edge) (outward entry edge) (and_right (free entry edge) (any entry edge && outward entry edge) (and_right (inside entry edge) (free entry edge && (any entry edge && outward entry edge)) fits))) each_link;
        links_back_fit = right_all links back parts.objects links_back;
        comes_to_an_end = ends;
        values_are_sized = right_all (λ entry. leads_to_object parts entry.value) (λ entry. is_sized entry.value) parts.values values;
        pairs_may_be_unequal = pairs;
        pairs_are_different = different;
      }

  both_of : (items : KeyedObject → List HasValue) (one other : KeyedObject → HasValue → Bool) → list_all (λ (entry : KeyedObject). list_all (one entry) (items entry)) parts.objects ≡ true →
      list_all (λ (entry : KeyedObject). list_all (other entry) (items entry)) parts.objects ≡ true →
      list_all (λ (entry : KeyedObject). list_all (λ edge. one entry edge && other entry edge) (items entry)) parts.objects ≡ true
  both_of items one other ones others =
      list_all-implies (λ (entry : KeyedObject). list_all (one entry) (items entry) && list_all (other entry) (items entry))
      (λ (entry : KeyedObject). list_all (λ edge. one entry edge && other entry edge) (items entry))
      (λ entry both. both_all (one entry) (other entry) (items entry) (and_left (list_all (one entry) (items entry)) (list_all (other entry) (items entry)) both) (and_right (list_all (one entry) (items entry)) (list_all (other entry) (items entry)) both))
      parts.objects
      (both_all (λ (entry : KeyedObject). list_all (one entry) (items entry)) (λ (entry : KeyedObject). list_all (other entry) (items entry)) parts.objects ones others)

  passes_is : IsWellFormed parts → passes_all parts ≡ true
  passes_is w =
      let edges_both = both_of (λ entry. (node_of entry.object).edges) in
      let links_both = both_of (λ entry. link_edges entry.object.shape) in
      let each = edges_both inside (λ entry edge. sized entry edge && (classed entry edge && (nonzero entry edge && home entry edge))) w.edges_lie_inside
      (edges_both sized (λ entry edge. classed entry edge && (nonzero entry edge && home entry edge)) w.edges_have_their_sizes
      (edges_both classed (λ entry edge. nonzero entry edge && home entry edge) w.edges_have_their_classes (edges_both nonzero home w.edges_are_not_zero w.edges_are_at_home))) in
      let each_link = links_both inside (λ entry edge. free entry edge && (any entry edge && outward entry edge)) w.links_lie_inside
      (links_both free (λ entry edge. any entry edge && outward entry edge) w.links_have_no_edge (links_both any outward w.links_may_be_pointers w.links_lead_on)) in
      and_both (objects_fit parts) _
      (both_all small (λ entry. long entry && (stored entry && ((order entry && edges entry) && (link_order entry && (links entry && back entry))))) parts.objects w.objects_are_small
      (both_all long (λ entry. stored entry && ((order entry && edges entry) && (link_order entry && (links entry && back entry)))) parts.objects w.planes_are_as_long
      (both_all stored (λ entry. (order entry && edges entry) && (link_order entry && (links entry && back entry))) parts.objects (both_all bare allocated parts.objects w.dead_objects_are_bare w.segments_are_allocated)
      (both_all (λ entry. order entry && edges entry) (λ entry. link_order entry && (links entry && back entry)) parts.objects (both_all order edges parts.objects w.edges_are_in_order each)
      (both_all link_order (λ entry. links entry && back entry) parts.objects w.links_are_in_order (both_all links back parts.objects each_link w.links_back_fit))))))
      (and_both (values_fit parts) _ (both_all (λ entry. leads_to_object parts entry.value) (λ entry. is_sized entry.value) parts.values w.addresses_lead_to_objects w.values_are_sized)
      (and_both (variables_have_storage parts) _ w.variables_have_storage
      (and_both (storage_is_distinct parts) _ w.storage_is_distinct
      (and_both (variables_ascend parts) _ w.variables_ascend
      (and_both (registers_hold_values parts) _ w.registers_hold_values
      (and_both (registers_ascend parts) _ w.registers_ascend
      (and_both (ports_are_values parts) _ w.ports_are_values
      (and_both (pairs_may_be_unequal parts) _ w.pairs_may_be_unequal w.pairs_are_different))))))))

-- the one walk, and following ends, find exactly the well-formed parts
pub all_points : (parts : Parts) → (((passes_all parts ≡ true) × ComesToAnEnd parts) ↔ IsWellFormed parts)
all_points parts = ((λ both. well_formed_is parts both.0 both.1), (λ w. (passes_is parts w, w.comes_to_an_end)))
