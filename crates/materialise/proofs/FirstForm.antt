-- What a well-formed graph says of a segment: its links have room in its node, and what lies before it is moved by nothing.
use Rattle.std.proofs.Common.{◌≡◌, ℕ, zero, suc, ◌+◌, ◌^◌, ◌<◌, ◌≤◌, Bool, true, false, not, ◌&&◌, ◌||◌, List, [], ◌∷◌, length, take, drop, nat_eq, nat_le, nat_lt, Option, Some, refl, sym, ◌∙◌, ap, subst, eqb-true, leb-true, ltb-true, arith}
use Rattle.std.specs.Prelude.{IsSome, if◌then◌else◌}
use Rattle.std.specs.List.{list_all}
use Rattle.std.specs.Option.{option_map_or}
use Rattle.std.proofs.lemmas.Bool.{false≢true, ne_eqb}
use Rattle.std.proofs.lemmas.Option.{same_Some, none-some}
use Rattle.bytes_core.specs.Release.{is_heap}
use Rattle.graph.specs.declared.edges.HasValue.{HasValue}
use Rattle.graph.specs.declared.object.Object.{Object}
use Rattle.graph.specs.declared.value.Value.{Value}
use Rattle.graph.specs.declared.value.Value.TheVariants.{Const, Number, Any, Address}
use Rattle.graph.specs.declared.parts.KeyedObject.{KeyedObject}
use Rattle.graph.specs.declared.parts.KeyedValue.{KeyedValue}
use Rattle.graph.specs.declared.parts.Parts.{Parts}
use Rattle.graph.specs.Maps.{value_at}
use Rattle.graph.specs.Nodes.{is_region, links_in, node_of, back_edges, link_edges}
use Rattle.graph.specs.Sizes.{value_size, is_scalar_size, is_sized}
use Rattle.graph.specs.WellFormed.{IsWellFormed, passes_at, leads_to_object, has_class_a_byte, is_segment_storage, says_nothing, edge_has_size, lies_in, lies_before, are_in_order, share_no_byte, link_is_any, is_outward, is_null, back_fits}
use Rattle.graph.specs.Whole.{IsGraph}
use Rattle.graph.proofs.Closed.{closed_of}
use Rattle.graph.proofs.Found.{Holds-some, found-all}
use Rattle.graph.proofs.Sent.{passes-some}
use Rattle.graph.proofs.Tests.{and_left, and_right, list_all-implies}
use Rattle.materialise.specs.SplitFirst.{link_value}
use Rattle.materialise.specs.WithOne.{HasOffset, HaveOffsets}
use Rattle.materialise.proofs.Case.{all_both}
use Rattle.materialise.proofs.FirstCase.{IsSplit, object}
use Rattle.materialise.proofs.FirstNode.{HasRoom}

-- a value has a byte at least

scalar_positive : (size : ℕ) → is_scalar_size size ≡ true → 0 < size
scalar_positive zero is = absurd (false≢true is)
scalar_positive (suc size) is = omega arith

sized_positive : (value : Value) → is_sized value ≡ true → 0 < value_size value
sized_positive (Const number size) is = scalar_positive size (and_left (is_scalar_size size) (nat_lt number (256 ^ size)) is)
sized_positive (Number size) is = scalar_positive size is
sized_positive Any is = omega arith
sized_positive (Address object offset target) is = omega arith

-- an edge that shares no byte with a range begins elsewhere
begins_elsewhere : (range edge : HasValue) → 0 < range.size → 0 < edge.size → share_no_byte range edge ≡ true → not (nat_eq edge.at range.at) ≡ true
begins_elsewhere range edge some some' apart = by_side (nat_le (range.at + range.size) edge.at) refl (nat_le (edge.at + edge.size) range.at) refl apart
  where
    by_side : (a : Bool) → nat_le (range.at + range.size) edge.at ≡ a → (b : Bool) → nat_le (edge.at + edge.size) range.at ≡ b → (a || b) ≡ true → not (nat_eq edge.at range.at) ≡ true
    by_side true a b b_is any = let e = leb-true _ _ a in ap not (ne_eqb edge.at range.at (λ same. absurd (omega arith)))
    by_side false a true b any = let e = leb-true _ _ b in ap not (ne_eqb edge.at range.at (λ same. absurd (omega arith)))
    by_side false a false b any = absurd (false≢true any)

-- an offset of these
offset_found : (entries : List KeyedValue) → HaveOffsets entries → (at : ℕ) (value : Value) → value_at entries at ≡ Some value → HasOffset value
offset_found [] offsets at value is = absurd (none-some value is)
offset_found (first ∷ rest) offsets at value is = by_key (nat_eq first.key at) is (λ later. offset_found rest offsets.1 at value later)
  where
    by_key : (b : Bool) → (if b then Some first.value else value_at rest at) ≡ Some value → (value_at rest at ≡ Some value → HasOffset value) → HasOffset value
    by_key true is later = subst (λ (v : Value). HasOffset v) (same_Some _ _ is) offsets.0
    by_key false is later = later is

module _ (parts : Parts) (graph : IsGraph parts) where
  form : IsWellFormed parts
  form = graph.well_formed

  pub sized_at : (at : ℕ) (value : Value) → value_at parts.values at ≡ Some value → is_sized value ≡ true
  sized_at at value is = found-all (λ (entry : KeyedValue). entry.key) (λ entry. entry.value) is_sized parts.values at value form.values_are_sized is

  pub leads_at : (at : ℕ) (value : Value) → value_at parts.values at ≡ Some value → leads_to_object parts value ≡ true
  leads_at at value is = found-all (λ (entry : KeyedValue). entry.key) (λ entry. entry.value) (leads_to_object parts) parts.values at value form.addresses_lead_to_objects is

  pub offset_at : HaveOffsets parts.values → (at : ℕ) (value : Value) → value_at parts.values at ≡ Some value → HasOffset value
  offset_at offsets at value is = offset_found parts.values offsets at value is

  edge_positive : (edge : HasValue) → edge_has_size parts edge ≡ true → 0 < edge.size
  edge_positive edge has =
      let held = Holds-some (value_at parts.values edge.value) (passes-some (λ value. nat_eq (value_size value) edge.size) (value_at parts.values edge.value) has) in
      let equal = eqb-true _ _ (subst (λ (o : Option Value). option_map_or (λ value. nat_eq (value_size value) edge.size) o false ≡ true) held.is has) in
      let some = sized_positive held.item (sized_at edge.value held.item held.is) in
      omega arith

  module _ (key : ℕ) (split : IsSplit parts key) where
    abbrev whole : Object
    whole = object parts graph key split

    -- what each object is asked, this one is
    at_segment : (test : Object → Bool) → list_all (λ (entry : KeyedObject). test entry.object) parts.objects ≡ true → test whole ≡ true
    at_segment test all = found-all (λ (entry : KeyedObject). entry.key) (λ entry. entry.object) test parts.objects key whole all split.stands

    pub lives : split.base.live ≡ true
    lives =
        and_left split.base.live (is_heap split.base.kind && says_nothing split.base.edges split.base.plane)
        (at_segment (λ object. is_region object.shape || is_segment_storage object) form.segments_are_allocated)

    pub is_allocated : is_heap split.base.kind ≡ true
    is_allocated =
        and_left (is_heap split.base.kind) (says_nothing split.base.edges split.base.plane)
        (and_right split.base.live (is_heap split.base.kind && says_nothing split.base.edges split.base.plane)
        (at_segment (λ object. is_region object.shape || is_segment_storage object) form.segments_are_allocated))

    -- Links.

    abbrev next_link : HasValue
    next_link = record { at = split.links.next; size = 8; value = split.links.next_value }

    abbrev prev_link : HasValue
    prev_link = record { at = split.links.prev; size = 8; value = split.links.prev_value }

    on_next : (test : HasValue → Bool) → list_all test (link_edges whole.shape) ≡ true → test next_link ≡ true
    on_next test all = and_left (test next_link) (list_all test (back_edges split.links.twofold split.links.prev split.links.prev_value)) all

    on_prev : (test : HasValue → Bool) → split.links.twofold ≡ true → list_all test (link_edges whole.shape) ≡ true → test prev_link ≡ true
    on_prev test twofold all =
        and_left (test prev_link) true
        (sym (ap (λ (b : Bool). list_all test (back_edges b split.links.prev split.links.prev_value)) twofold)
        ∙ and_right (test next_link) (list_all test (back_edges split.links.twofold split.links.prev split.links.prev_value)) all)

    room_at : (link : HasValue) → link.size ≡ 8 → lies_in split.base.size link ≡ true → link_is_any split.node.plane link ≡ true → list_all (share_no_byte link) split.node.edges ≡ true → HasRoom split.base.size split.node link.at
    room_at link eight inside any apart = record {
      inside = subst (λ (n : ℕ). link.at + n ≤ split.base.size) eight (leb-true _ _ inside);
      long = eqb-true _ _ (sym (ap (λ (b : Bool). not b || nat_eq (length split.node.plane) split.base.size) lives) ∙ at_segment has_class_a_byte form.planes_are_as_long);
      any = sym (ap (λ (n : ℕ). list_all (nat_eq 2) (take n (drop link.at split.node.plane))) eight) ∙ any;
      free = list_all-implies (λ edge. share_no_byte link edge && edge_has_size parts edge) (λ edge. not (nat_eq edge.at link.at))
          (λ edge both. begins_elsewhere link edge (omega arith) (edge_positive edge (and_right (share_no_byte link edge) (edge_has_size parts edge) both)) (and_left (share_no_byte link edge) (edge_has_size parts edge) both))
          split.node.edges (all_both (share_no_byte link) (edge_has_size parts) split.node.edges apart (at_segment (λ object. list_all (edge_has_size parts) (node_of object).edges) form.edges_have_their_sizes));
    }

    pub next_room : HasRoom split.base.size split.node split.links.next
    next_room =
        room_at next_link refl (on_next (lies_in split.base.size) (at_segment (λ object. list_all (lies_in object.size) (link_edges object.shape)) form.links_lie_inside))
        (on_next (link_is_any split.node.plane) (at_segment (λ object. list_all (link_is_any (node_of object).plane) (link_edges object.shape)) form.links_may_be_pointers))
        (on_next (λ link. list_all (share_no_byte link) split.node.edges) (at_segment (λ object. list_all (λ link. list_all (share_no_byte link) (node_of object).edges) (link_edges object.shape)) form.links_have_no_edge))

    pub prev_room : split.links.twofold ≡ true → HasRoom split.base.size split.node split.links.prev
    prev_room twofold =
        room_at prev_link refl (on_prev (lies_in split.base.size) twofold (at_segment (λ object. list_all (lies_in object.size) (link_edges object.shape)) form.links_lie_inside))
        (on_prev (link_is_any split.node.plane) twofold (at_segment (λ object. list_all (link_is_any (node_of object).plane) (link_edges object.shape)) form.links_may_be_pointers))
        (on_prev (λ link. list_all (share_no_byte link) split.node.edges) twofold (at_segment (λ object. list_all (λ link. list_all (share_no_byte link) (node_of object).edges) (link_edges object.shape)) form.links_have_no_edge))

    pub links_apart : split.links.twofold ≡ true → split.links.next + 8 ≤ split.links.prev
    links_apart twofold =
        let order = at_segment (λ object. are_in_order (link_edges object.shape)) form.links_are_in_order in
        let all = and_left (list_all (lies_before next_link) (back_edges split.links.twofold split.links.prev split.links.prev_value)) (are_in_order (back_edges split.links.twofold split.links.prev split.links.prev_value)) order in
        leb-true _ _ (and_left (lies_before next_link prev_link) true (sym (ap (λ (b : Bool). list_all (lies_before next_link) (back_edges b split.links.prev split.links.prev_value)) twofold) ∙ all))

    pub back_small : split.links.twofold ≡ true → split.links.back < 2 ^ 63
    back_small twofold =
        let fits = at_segment (λ object. back_fits parts object.size (links_in object.shape)) form.links_back_fit in
        let low = ltb-true _ _ (sym (ap (λ (b : Bool). if b then nat_lt split.links.back split.base.size else (nat_eq split.links.prev 0 && (nat_eq split.links.back 0 && passes_at parts is_null split.links.prev_value))) twofold) ∙ fits) in
        let small = leb-true _ _ (at_segment (λ object. nat_le object.size 65536) form.objects_are_small) in
        omega arith

    -- What lies before the segment.

    pub prev_there : IsSome (value_at parts.values split.links.prev_value)
    prev_there = ((closed_of parts form).objects key whole split.stands).1.1

    pub next_there : IsSome (value_at parts.values split.links.next_value)
    next_there = ((closed_of parts form).objects key whole split.stands).1.0

    pub link_value_is : (link : ℕ) (value : Value) → value_at parts.values link ≡ Some value → link_value parts link ≡ value
    link_value_is link value is = ap (λ (o : Option Value). option_map_or (λ value. value) o Any) is

    pub prev_outward : split.links.twofold ≡ true → (value : Value) → value_at parts.values split.links.prev_value ≡ Some value → is_outward value ≡ true
    prev_outward twofold value is =
        sym (ap (λ (o : Option Value). option_map_or is_outward o false) is)
        ∙ on_prev (λ link. passes_at parts is_outward link.value) twofold (at_segment (λ object. list_all (λ link. passes_at parts is_outward link.value) (link_edges object.shape)) form.links_lead_on)

    -- What lies behind it.

    pub next_outward : (value : Value) → value_at parts.values split.links.next_value ≡ Some value → is_outward value ≡ true
    next_outward value is =
        sym (ap (λ (o : Option Value). option_map_or is_outward o false) is)
        ∙ on_next (λ link. passes_at parts is_outward link.value) (at_segment (λ object. list_all (λ link. passes_at parts is_outward link.value) (link_edges object.shape)) form.links_lead_on)
