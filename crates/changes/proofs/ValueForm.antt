-- A graph with one value more is a graph.
use Rattle.std.proofs.Common.{◌≡◌, ℕ, Bool, true, false, not, ◌&&◌, [], ◌∷◌, ◌++◌, length, nat_eq, nat_lt, Option, None, Some, refl, sym, ◌∙◌, ap, subst}
use Rattle.std.specs.Prelude.{IsSome, is_some, slice_get, if◌then◌else◌}
use Rattle.std.specs.List.{list_all}
use Rattle.std.specs.Option.{option_map_or}
use Rattle.std.proofs.lemmas.Bool.{false≢true}
use Rattle.std.proofs.lemmas.Option.{same_Some, none-some}
use Rattle.graph.specs.declared.edges.HasValue.{HasValue}
use Rattle.graph.specs.declared.object.Links.{Links}
use Rattle.graph.specs.declared.object.Object.{Object}
use Rattle.graph.specs.declared.object.Shape.{Shape}
use Rattle.graph.specs.declared.object.Shape.TheVariants.{Region as RegionShape, Segment}
use Rattle.graph.specs.declared.value.Target.TheVariants.{Region, First, Last, Each}
use Rattle.graph.specs.declared.value.Value.{Value}
use Rattle.graph.specs.declared.value.Value.TheVariants.{Const, Number, Any, Address}
use Rattle.graph.specs.declared.parts.Held.{Held}
use Rattle.graph.specs.declared.parts.KeyedObject.{KeyedObject}
use Rattle.graph.specs.declared.parts.KeyedValue.{KeyedValue}
use Rattle.graph.specs.declared.parts.Pair.{Pair}
use Rattle.graph.specs.declared.parts.Parts.{Parts}
use Rattle.graph.specs.Closed.{OnEnds}
use Rattle.graph.specs.Maps.{object_at, value_at}
use Rattle.graph.specs.Meaning.{own_offset, maps_of}
use Rattle.graph.specs.Nodes.{links_in, node_of, link_edges}
use Rattle.graph.specs.Sizes.{value_size, value_class, is_sized, is_zero}
use Rattle.graph.specs.WellFormed.{IsWellFormed, Falls, passes_at, has_value, may_stand_in, may_be_held, leads_to_object, edge_has_size, edge_has_class, is_outward, is_null, back_fits, may_be_unequal, is_unequal_pair}
use Rattle.graph.specs.Whole.{IsGraph}
use Rattle.graph.proofs.Closed.{named_there}
use Rattle.graph.proofs.Sent.{passes-some}
use Rattle.graph.proofs.Tests.{and_left, and_right, and_both, list_all-implies}
use Rattle.changes.specs.Parts.{with_value}
use Rattle.changes.proofs.Appended.{found_before, found_new, found_else, found_next, in_place_more, ascending_in_place}
use Rattle.changes.proofs.KeptForm.{all_same}
use Rattle.changes.proofs.RangeForm.{all_append}
use Rattle.changes.proofs.Value.{HasOneMore}

-- what is asked of a value more
pub record IsFitValue (parts : Parts) (value : Value) : Type 0 where
  pub sized : is_sized value ≡ true
  pub leads : leads_to_object parts value ≡ true
  pub held : may_be_held value ≡ true

held_own : (value : Value) → may_be_held value ≡ true → own_offset (Some value) ≡ None
held_own (Const number size) held = refl
held_own (Number size) held = refl
held_own Any held = refl
held_own (Address object offset Region) held = refl
held_own (Address object offset First) held = refl
held_own (Address object offset Last) held = refl
held_own (Address object offset Each) held = absurd (false≢true held)

module _ (value : Value) (parts : Parts) (graph : IsGraph parts) where
  abbrev last : KeyedValue
  last = record { key = length parts.values; value = value }

  value_before : (at : ℕ) → IsSome (value_at parts.values at) → value_at (with_value value parts).values at ≡ value_at parts.values at
  value_before at some = found_before (λ (entry : KeyedValue). entry.key) (λ entry. entry.value) parts.values last at some

  pub value_new : value_at (with_value value parts).values (length parts.values) ≡ Some value
  value_new = found_new (λ (entry : KeyedValue). entry.key) (λ entry. entry.value) parts.values last graph.keys.values refl

  pub value_next : value_at parts.values (length parts.values) ≡ None
  value_next = found_next (λ (entry : KeyedValue). entry.key) (λ entry. entry.value) parts.values graph.keys.values

  pub has_one_more : may_be_held value ≡ true → HasOneMore (length parts.values) value (maps_of parts) (maps_of (with_value value parts))
  has_one_more held = record {
    new = value_next;
    here = value_new;
    own = held_own value held;
    values = λ at differ. found_else (λ (entry : KeyedValue). entry.key) (λ entry. entry.value) parts.values last at differ;
    objects = λ at. refl;
    variables = λ at. refl;
    registers = λ at. refl;
    ports = refl;
    unequal = refl;
  }

  -- what passes at a value that is there passes still
  pub passes_still : (test : Value → Bool) (key : ℕ) → passes_at parts test key ≡ true → passes_at (with_value value parts) test key ≡ true
  passes_still test key passes =
      ap (λ (o : Option Value). option_map_or test o false) (value_before key (passes-some test (value_at parts.values key) passes)) ∙ passes

  passes_weaker : (one other : Value → Bool) → ((v : Value) → one v ≡ true → other v ≡ true) → (key : ℕ) → passes_at parts one key ≡ true → passes_at parts other key ≡ true
  passes_weaker one other implies key passes = by_found (value_at parts.values key) passes
    where
      by_found : (found : Option Value) → option_map_or one found false ≡ true → option_map_or other found false ≡ true
      by_found None passes = passes
      by_found (Some v) passes = implies v passes

  has_still : (key : ℕ) → has_value parts key ≡ true → has_value (with_value value parts) key ≡ true
  has_still key has = ap is_some (value_before key has) ∙ has

  leads_same : (v : Value) → leads_to_object (with_value value parts) v ≡ leads_to_object parts v
  leads_same (Const number size) = refl
  leads_same (Number size) = refl
  leads_same Any = refl
  leads_same (Address object offset target) = refl

  edges_still : (one other : ℕ → HasValue → Bool) → ((key : ℕ) (edge : HasValue) → one key edge ≡ true → other key edge ≡ true) →
      list_all (λ (entry : KeyedObject). list_all (one entry.key) (node_of entry.object).edges) parts.objects ≡ true → list_all (λ (entry : KeyedObject). list_all (other entry.key) (node_of entry.object).edges) parts.objects ≡ true
  edges_still one other implies all =
      list_all-implies (λ (entry : KeyedObject). list_all (one entry.key) (node_of entry.object).edges) (λ entry. list_all (other entry.key) (node_of entry.object).edges)
      (λ entry has. list_all-implies (one entry.key) (other entry.key) (implies entry.key) (node_of entry.object).edges has) parts.objects all

  back_still : (size : ℕ) (found : Option Links) → back_fits parts size found ≡ true → back_fits (with_value value parts) size found ≡ true
  back_still size None fits = refl
  back_still size (Some links) fits = by_way links.twofold fits
    where
      by_way : (b : Bool) → (if b then nat_lt links.back size else (nat_eq links.prev 0 && (nat_eq links.back 0 && passes_at parts is_null links.prev_value))) ≡ true →
          (if b then nat_lt links.back size else (nat_eq links.prev 0 && (nat_eq links.back 0 && passes_at (with_value value parts) is_null links.prev_value))) ≡ true
      by_way true fits = fits
      by_way false fits =
          let rest = and_right (nat_eq links.prev 0) (nat_eq links.back 0 && passes_at parts is_null links.prev_value) fits in
          and_both (nat_eq links.prev 0) (nat_eq links.back 0 && passes_at (with_value value parts) is_null links.prev_value) (and_left (nat_eq links.prev 0) (nat_eq links.back 0 && passes_at parts is_null links.prev_value) fits)
          (and_both (nat_eq links.back 0) (passes_at (with_value value parts) is_null links.prev_value) (and_left (nat_eq links.back 0) (passes_at parts is_null links.prev_value) rest)
          (passes_still is_null links.prev_value (and_right (nat_eq links.back 0) (passes_at parts is_null links.prev_value) rest)))

  pair_still : (pair : Pair) → is_unequal_pair parts pair ≡ true → is_unequal_pair (with_value value parts) pair ≡ true
  pair_still pair is =
      let apart = not (nat_eq pair.left pair.right) in
      let before = passes_at parts (λ one. passes_at parts (may_be_unequal one) pair.right) pair.left in
      and_both apart (passes_at (with_value value parts) (λ one. passes_at (with_value value parts) (may_be_unequal one) pair.right) pair.left)
      (and_left apart before is)
      (passes_still (λ one. passes_at (with_value value parts) (may_be_unequal one) pair.right) pair.left
      (passes_weaker (λ one. passes_at parts (may_be_unequal one) pair.right) (λ one. passes_at (with_value value parts) (may_be_unequal one) pair.right) (λ one. passes_still (may_be_unequal one) pair.right) pair.left
      (and_right apart before is)))

  -- the values beyond the ends of a segment are there
  ends_there : (object : Object) (links : Links) (key : ℕ) → object_at parts.objects key ≡ Some object → links_in object.shape ≡ Some links → IsSome (value_at parts.values links.next_value) × IsSome (value_at parts.values links.prev_value)
  ends_there object links key stands linked = by_shape object.shape linked (named_there parts graph.well_formed key object stands).1
    where
      by_shape : (shape : Shape) → links_in shape ≡ Some links → OnEnds (λ v. IsSome (value_at parts.values v)) shape → IsSome (value_at parts.values links.next_value) × IsSome (value_at parts.values links.prev_value)
      by_shape RegionShape linked on = absurd (none-some links linked)
      by_shape (Segment twofold head next prev back least next_value prev_value node) linked on =
          let is = same_Some _ _ linked in
          (subst (λ (l : Links). IsSome (value_at parts.values l.next_value)) is on.0, subst (λ (l : Links). IsSome (value_at parts.values l.prev_value)) is on.1)

  pub graph_with_value : IsFitValue parts value → IsGraph (with_value value parts)
  graph_with_value fit = record {
    well_formed = record {
      edges_hold_values = edges_still (λ at edge. has_value parts edge.value) (λ at edge. has_value (with_value value parts) edge.value) (λ at edge. has_still edge.value) form.edges_hold_values;
      edges_are_at_home = edges_still (λ at edge. passes_at parts (may_stand_in at) edge.value) (λ at edge. passes_at (with_value value parts) (may_stand_in at) edge.value) (λ at edge. passes_still (may_stand_in at) edge.value) form.edges_are_at_home;
      registers_hold_values = list_all-implies (λ (held : Held). passes_at parts may_be_held held.value) (λ held. passes_at (with_value value parts) may_be_held held.value) (λ held. passes_still may_be_held held.value) parts.registers form.registers_hold_values;
      ports_are_values = list_all-implies (passes_at parts may_be_held) (passes_at (with_value value parts) may_be_held) (passes_still may_be_held) parts.ports form.ports_are_values;
      addresses_lead_to_objects = all_append (λ (entry : KeyedValue). leads_to_object (with_value value parts) entry.value) parts.values (last ∷ [])
          (all_same (λ (entry : KeyedValue). leads_to_object parts entry.value) (λ entry. leads_to_object (with_value value parts) entry.value) (λ entry. leads_same entry.value) parts.values form.addresses_lead_to_objects)
          (and_both (leads_to_object (with_value value parts) value) true (leads_same value ∙ fit.leads) refl);
      variables_have_storage = form.variables_have_storage;
      storage_is_distinct = form.storage_is_distinct;
      variables_ascend = form.variables_ascend;
      registers_ascend = form.registers_ascend;
      objects_are_small = form.objects_are_small;
      planes_are_as_long = form.planes_are_as_long;
      dead_objects_are_bare = form.dead_objects_are_bare;
      segments_are_allocated = form.segments_are_allocated;
      edges_lie_inside = form.edges_lie_inside;
      edges_are_in_order = form.edges_are_in_order;
      edges_have_their_sizes = edges_still (λ at. edge_has_size parts) (λ at. edge_has_size (with_value value parts)) (λ at edge. passes_still (λ v. nat_eq (value_size v) edge.size) edge.value) form.edges_have_their_sizes;
      edges_have_their_classes = list_all-implies (λ (entry : KeyedObject). list_all (edge_has_class parts (node_of entry.object).plane) (node_of entry.object).edges) (λ entry. list_all (edge_has_class (with_value value parts) (node_of entry.object).plane) (node_of entry.object).edges)
          (λ entry has. list_all-implies (edge_has_class parts (node_of entry.object).plane) (edge_has_class (with_value value parts) (node_of entry.object).plane) (λ edge. passes_still (λ v. list_all (nat_eq (value_class v)) _) edge.value) (node_of entry.object).edges has) parts.objects form.edges_have_their_classes;
      edges_are_not_zero = edges_still (λ at edge. passes_at parts (λ v. not (is_zero v)) edge.value) (λ at edge. passes_at (with_value value parts) (λ v. not (is_zero v)) edge.value) (λ at edge. passes_still (λ v. not (is_zero v)) edge.value) form.edges_are_not_zero;
      links_lie_inside = form.links_lie_inside;
      links_are_in_order = form.links_are_in_order;
      links_have_no_edge = form.links_have_no_edge;
      links_may_be_pointers = form.links_may_be_pointers;
      links_lead_on = list_all-implies (λ (entry : KeyedObject). list_all (λ link. passes_at parts is_outward link.value) (link_edges entry.object.shape)) (λ entry. list_all (λ link. passes_at (with_value value parts) is_outward link.value) (link_edges entry.object.shape))
          (λ entry has. list_all-implies (λ (link : HasValue). passes_at parts is_outward link.value) (λ link. passes_at (with_value value parts) is_outward link.value) (λ link. passes_still is_outward link.value) (link_edges entry.object.shape) has) parts.objects form.links_lead_on;
      links_back_fit = list_all-implies (λ (entry : KeyedObject). back_fits parts entry.object.size (links_in entry.object.shape)) (λ entry. back_fits (with_value value parts) entry.object.size (links_in entry.object.shape))
          (λ entry. back_still entry.object.size (links_in entry.object.shape)) parts.objects form.links_back_fit;
      comes_to_an_end = record {
        ranks = form.comes_to_an_end.ranks;
        next = λ at found links is linked least.
            subst (λ (o : Option Value). Falls form.comes_to_an_end.ranks (form.comes_to_an_end.ranks.first at) o) (sym (value_before links.next_value (ends_there found links at is linked).0)) (form.comes_to_an_end.next at found links is linked least);
        prev = λ at found links is linked least.
            subst (λ (o : Option Value). Falls form.comes_to_an_end.ranks (form.comes_to_an_end.ranks.last at) o) (sym (value_before links.prev_value (ends_there found links at is linked).1)) (form.comes_to_an_end.prev at found links is linked least);
      };
      values_are_sized = all_append (λ (entry : KeyedValue). is_sized entry.value) parts.values (last ∷ []) form.values_are_sized (and_both (is_sized value) true fit.sized refl);
      pairs_may_be_unequal = list_all-implies (is_unequal_pair parts) (is_unequal_pair (with_value value parts)) pair_still parts.unequal form.pairs_may_be_unequal;
      pairs_are_different = form.pairs_are_different;
    };
    within_limits = graph.within_limits;
    ascending = record { objects = graph.ascending.objects; values = ascending_in_place (λ (entry : KeyedValue). entry.key) (λ entry. entry.value) (parts.values ++ last ∷ []) in_place };
    keys = record { objects = graph.keys.objects; values = in_place };
  }
    where
      form : IsWellFormed parts
      form = graph.well_formed

      in_place : (place : ℕ) (entry : KeyedValue) → slice_get (parts.values ++ last ∷ []) place ≡ Some entry → entry.key ≡ place
      in_place = in_place_more (λ (entry : KeyedValue). entry.key) (λ entry. entry.value) parts.values last graph.keys.values refl
