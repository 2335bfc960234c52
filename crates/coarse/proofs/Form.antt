-- What is left is a graph.
use Rattle.std.proofs.Common.{◌≡◌, ℕ, ◌^◌, zero, suc, Bool, true, false, not, ◌&&◌, ◌||◌, List, [], ◌∷◌, map, get_or, arith, nat_eq, nat_lt, Option, None, Some, refl, sym, ◌∙◌, ap, subst, eq-eqb}
use Rattle.std.specs.Prelude.{slice_get, option_map}
use Rattle.std.specs.List.{list_all, list_any}
use Rattle.std.proofs.lemmas.Map.Keys.{any_passes_from_place}
use Rattle.std.proofs.lemmas.Option.{same_Some, none-some, slice_get-get_or}
use Rattle.graph.specs.declared.edges.HasValue.{HasValue}
use Rattle.graph.specs.declared.object.Shape.{Shape}
use Rattle.graph.specs.declared.object.Shape.TheVariants.{Region as RegionShape, Segment}
use Rattle.graph.specs.declared.value.Value.{Value}
use Rattle.graph.specs.declared.value.Value.TheVariants.{Const, Number, Any, Address}
use Rattle.graph.specs.declared.parts.Held.{Held}
use Rattle.graph.specs.declared.parts.KeyedObject.{KeyedObject}
use Rattle.graph.specs.declared.parts.KeyedValue.{KeyedValue}
use Rattle.graph.specs.declared.parts.Pair.{Pair}
use Rattle.graph.specs.declared.parts.Parts.{Parts}
use Rattle.graph.specs.Maps.{value_at}
use Rattle.graph.specs.Nodes.{links_in, node_of, link_edges}
use Rattle.graph.specs.Sizes.{value_size, value_class, is_scalar_size, is_sized, is_zero, is_constant}
use Rattle.graph.specs.WellFormed.{IsWellFormed, Ranks, Falls, passes_at, has_value, may_stand_in, may_be_held, leads_to_object, edge_has_size, edge_has_class, is_outward, is_null, back_fits, are_numbers, may_be_unequal, is_unequal_pair}
use Rattle.graph.specs.Whole.{IsGraph}
use Rattle.graph.proofs.Tests.{and_left, and_right, and_both, list_all-implies}
use Rattle.tidying.specs.Held.{is_linked}
use Rattle.coarse.specs.Beyond.{forgotten}
use Rattle.coarse.specs.Spared.{is_spared}
use Rattle.coarse.specs.Coarsened.{coarsened_value, coarsened}
use Rattle.coarse.proofs.Entries.{all_there, all_map}
use Rattle.coarse.proofs.Left.{and_false, either, left_passes, value_left, passes_left, passes_spared, has_left, passes_weaker}

pub or_true : (b : Bool) → (b || true) ≡ true
or_true true = refl
or_true false = refl

falls_forgotten : (ranks : Ranks) (rank : ℕ) (value : Value) → Falls ranks rank (Some value) → Falls ranks rank (Some (forgotten value))
falls_forgotten ranks rank (Const number size) falls = tt
falls_forgotten ranks rank (Number size) falls = tt
falls_forgotten ranks rank Any falls = tt
falls_forgotten ranks rank (Address object offset target) falls = falls

module _ (limit : ℕ) (parts : Parts) where
  abbrev after : Parts
  after = coarsened limit parts

  -- the values beyond the ends of a segment are spared
  linked_spared : (place : ℕ) (entry : KeyedObject) → slice_get parts.objects place ≡ Some entry → (key : ℕ) → is_linked key entry.object.shape ≡ true → is_spared parts key ≡ true
  linked_spared place entry is key linked =
      ap (λ (b : Bool). b || list_any (λ port. nat_eq port key) parts.ports) (any_passes_from_place (λ (entry : KeyedObject). is_linked key entry.object.shape) parts.objects place entry is linked)

  edges_left : (one other : ℕ → HasValue → Bool) → ((key : ℕ) (edge : HasValue) → one key edge ≡ true → other key edge ≡ true) →
      list_all (λ (entry : KeyedObject). list_all (one entry.key) (node_of entry.object).edges) parts.objects ≡ true → list_all (λ (entry : KeyedObject). list_all (other entry.key) (node_of entry.object).edges) parts.objects ≡ true
  edges_left one other implies all =
      list_all-implies (λ (entry : KeyedObject). list_all (one entry.key) (node_of entry.object).edges) (λ entry. list_all (other entry.key) (node_of entry.object).edges)
      (λ entry has. list_all-implies (one entry.key) (other entry.key) (implies entry.key) (node_of entry.object).edges has) parts.objects all

  links_left : (shape : Shape) → ((key : ℕ) → is_linked key shape ≡ true → is_spared parts key ≡ true) →
      list_all (λ (link : HasValue). passes_at parts is_outward link.value) (link_edges shape) ≡ true → list_all (λ (link : HasValue). passes_at after is_outward link.value) (link_edges shape) ≡ true
  links_left RegionShape spared all = refl
  links_left (Segment true head next prev back least next_value prev_value node) spared all =
      let last = passes_at parts is_outward prev_value && true in
      and_both (passes_at after is_outward next_value) (passes_at after is_outward prev_value && true)
      (passes_spared limit parts is_outward next_value (spared next_value (ap (λ (b : Bool). b || nat_eq prev_value next_value) (eq-eqb next_value next_value refl))) (and_left (passes_at parts is_outward next_value) last all))
      (and_both (passes_at after is_outward prev_value) true
      (passes_spared limit parts is_outward prev_value (spared prev_value (ap (λ (b : Bool). nat_eq next_value prev_value || b) (eq-eqb prev_value prev_value refl) ∙ or_true (nat_eq next_value prev_value)))
      (and_left (passes_at parts is_outward prev_value) true (and_right (passes_at parts is_outward next_value) last all))) refl)
  links_left (Segment false head next prev back least next_value prev_value node) spared all =
      and_both (passes_at after is_outward next_value) true
      (passes_spared limit parts is_outward next_value (spared next_value (ap (λ (b : Bool). b || nat_eq prev_value next_value) (eq-eqb next_value next_value refl))) (and_left (passes_at parts is_outward next_value) true all)) refl

  back_left : (size : ℕ) (shape : Shape) → ((key : ℕ) → is_linked key shape ≡ true → is_spared parts key ≡ true) → back_fits parts size (links_in shape) ≡ true → back_fits after size (links_in shape) ≡ true
  back_left size RegionShape spared fits = refl
  back_left size (Segment true head next prev back least next_value prev_value node) spared fits = fits
  back_left size (Segment false head next prev back least next_value prev_value node) spared fits =
      let rest = and_right (nat_eq prev 0) (nat_eq back 0 && passes_at parts is_null prev_value) fits in
      and_both (nat_eq prev 0) (nat_eq back 0 && passes_at after is_null prev_value) (and_left (nat_eq prev 0) (nat_eq back 0 && passes_at parts is_null prev_value) fits)
      (and_both (nat_eq back 0) (passes_at after is_null prev_value) (and_left (nat_eq back 0) (passes_at parts is_null prev_value) rest)
      (passes_spared limit parts is_null prev_value (spared prev_value (ap (λ (b : Bool). nat_eq next_value prev_value || b) (eq-eqb prev_value prev_value refl) ∙ or_true (nat_eq next_value prev_value)))
      (and_right (nat_eq back 0) (passes_at parts is_null prev_value) rest)))

  -- a pair of two constants is none, and of a number and a constant, or of two numbers, it may be one
  pair_left_forgets : (other : Value) (number size : ℕ) → may_be_unequal (Const number size) other ≡ true → may_be_unequal (Number size) other ≡ true
  pair_left_forgets other number size may =
      let sizes = are_numbers (Const number size) other 4 || are_numbers (Const number size) other 8 in
      and_both sizes true (and_left sizes (not (is_constant other)) may) refl

  pair_right_forgets : (one : Value) (number size : ℕ) → may_be_unequal one (Const number size) ≡ true → may_be_unequal one (Number size) ≡ true
  pair_right_forgets one number size may =
      let sizes = are_numbers one (Const number size) 4 || are_numbers one (Const number size) 8 in
      and_both sizes (not (is_constant one && false)) (and_left sizes (not (is_constant one && true)) may) (ap not (and_false (is_constant one)))

  pair_left : (pair : Pair) → is_unequal_pair parts pair ≡ true → is_unequal_pair after pair ≡ true
  pair_left pair is =
      let apart = not (nat_eq pair.left pair.right) in
      let before = passes_at parts (λ one. passes_at parts (may_be_unequal one) pair.right) pair.left in
      and_both apart (passes_at after (λ one. passes_at after (may_be_unequal one) pair.right) pair.left)
      (and_left apart before is)
      (passes_left limit parts (λ one. passes_at after (may_be_unequal one) pair.right)
      (λ number size. passes_weaker after (may_be_unequal (Const number size)) (may_be_unequal (Number size)) (λ other. pair_left_forgets other number size) pair.right) pair.left
      (passes_weaker parts (λ one. passes_at parts (may_be_unequal one) pair.right) (λ one. passes_at after (may_be_unequal one) pair.right)
      (λ one. passes_left limit parts (may_be_unequal one) (pair_right_forgets one) pair.right) pair.left
      (and_right apart before is)))

  falls_left : (ranks : Ranks) (rank key : ℕ) → Falls ranks rank (value_at parts.values key) → Falls ranks rank (value_at after.values key)
  falls_left ranks rank key falls = subst (λ (o : Option Value). Falls ranks rank o) (sym (value_left limit parts key)) (by_found (value_at parts.values key) falls)
    where
      by_found : (found : Option Value) → Falls ranks rank found → Falls ranks rank (option_map (coarsened_value limit parts key) found)
      by_found None falls = falls
      by_found (Some value) falls = either limit parts (λ v. Falls ranks rank (Some v)) key value falls (falls_forgotten ranks rank value falls)

  leads_same : (value : Value) → leads_to_object after value ≡ leads_to_object parts value
  leads_same (Const number size) = refl
  leads_same (Number size) = refl
  leads_same Any = refl
  leads_same (Address object offset target) = refl

  values_left : (test other : Value → Bool) → ((key : ℕ) (value : Value) → test value ≡ true → other (coarsened_value limit parts key value) ≡ true) →
      list_all (λ (entry : KeyedValue). test entry.value) parts.values ≡ true → list_all (λ (entry : KeyedValue). other entry.value) after.values ≡ true
  values_left test other implies all =
      all_map (λ (entry : KeyedValue). other entry.value) (λ (entry : KeyedValue). (let e : KeyedValue = record { key = entry.key; value = coarsened_value limit parts entry.key entry.value } in e)) parts.values
      ∙ list_all-implies (λ (entry : KeyedValue). test entry.value) (λ entry. other (coarsened_value limit parts entry.key entry.value)) (λ entry. implies entry.key entry.value) parts.values all

  pub well_formed_left : IsWellFormed parts → IsWellFormed after
  well_formed_left form = record {
    edges_hold_values = edges_left (λ at edge. has_value parts edge.value) (λ at edge. has_value after edge.value) (λ at edge. has_left limit parts edge.value) form.edges_hold_values;
    edges_are_at_home = edges_left (λ at edge. passes_at parts (may_stand_in at) edge.value) (λ at edge. passes_at after (may_stand_in at) edge.value)
        (λ at edge. passes_left limit parts (may_stand_in at) (λ number size passes. refl) edge.value) form.edges_are_at_home;
    registers_hold_values = list_all-implies (λ (held : Held). passes_at parts may_be_held held.value) (λ held. passes_at after may_be_held held.value)
        (λ held. passes_left limit parts may_be_held (λ number size passes. refl) held.value) parts.registers form.registers_hold_values;
    ports_are_values = list_all-implies (passes_at parts may_be_held) (passes_at after may_be_held) (passes_left limit parts may_be_held (λ number size passes. refl)) parts.ports form.ports_are_values;
    addresses_lead_to_objects = values_left (leads_to_object parts) (leads_to_object after)
        (λ key value leads. leads_same (coarsened_value limit parts key value) ∙ left_passes limit parts (leads_to_object parts) (λ number size passes. refl) key value leads) form.addresses_lead_to_objects;
    variables_have_storage = form.variables_have_storage;
    storage_is_distinct = form.storage_is_distinct;
    variables_ascend = form.variables_ascend;
    registers_ascend = form.registers_ascend;
    objects_are_small = form.objects_are_small;
    planes_are_as_long = form.planes_are_as_long;
    dead_objects_are_bare = form.dead_objects_are_bare;
    segments_are_allocated = form.segments_are_allocated;
    edges_lie_inside = form.edges_lie_inside;
    edges_are_in_order = form.edges_are_in_order;
    edges_have_their_sizes = edges_left (λ at. edge_has_size parts) (λ at. edge_has_size after)
        (λ at edge. passes_left limit parts (λ v. nat_eq (value_size v) edge.size) (λ number size passes. passes) edge.value) form.edges_have_their_sizes;
    edges_have_their_classes = list_all-implies (λ (entry : KeyedObject). list_all (edge_has_class parts (node_of entry.object).plane) (node_of entry.object).edges)
        (λ entry. list_all (edge_has_class after (node_of entry.object).plane) (node_of entry.object).edges)
        (λ entry has. list_all-implies (edge_has_class parts (node_of entry.object).plane) (edge_has_class after (node_of entry.object).plane)
        (λ edge. passes_left limit parts (λ v. list_all (nat_eq (value_class v)) _) (λ number size passes. passes) edge.value) (node_of entry.object).edges has) parts.objects form.edges_have_their_classes;
    edges_are_not_zero = edges_left (λ at edge. passes_at parts (λ v. not (is_zero v)) edge.value) (λ at edge. passes_at after (λ v. not (is_zero v)) edge.value)
        (λ at edge. passes_left limit parts (λ v. not (is_zero v)) (λ number size passes. refl) edge.value) form.edges_are_not_zero;
    links_lie_inside = form.links_lie_inside;
    links_are_in_order = form.links_are_in_order;
    links_have_no_edge = form.links_have_no_edge;
    links_may_be_pointers = form.links_may_be_pointers;
    links_lead_on = all_there (λ (entry : KeyedObject). list_all (λ link. passes_at parts is_outward link.value) (link_edges entry.object.shape)) (λ entry. list_all (λ link. passes_at after is_outward link.value) (link_edges entry.object.shape)) parts.objects
        (λ place entry is. links_left entry.object.shape (linked_spared place entry is)) form.links_lead_on;
    links_back_fit = all_there (λ (entry : KeyedObject). back_fits parts entry.object.size (links_in entry.object.shape)) (λ entry. back_fits after entry.object.size (links_in entry.object.shape)) parts.objects
        (λ place entry is. back_left entry.object.size entry.object.shape (linked_spared place entry is)) form.links_back_fit;
    comes_to_an_end = record {
      ranks = form.comes_to_an_end.ranks;
      next = λ key object links stands linked least. falls_left form.comes_to_an_end.ranks (form.comes_to_an_end.ranks.first key) links.next_value (form.comes_to_an_end.next key object links stands linked least);
      prev = λ key object links stands linked least. falls_left form.comes_to_an_end.ranks (form.comes_to_an_end.ranks.last key) links.prev_value (form.comes_to_an_end.prev key object links stands linked least);
    };
    values_are_sized = values_left is_sized is_sized (left_passes limit parts is_sized (λ number size passes. and_left (is_scalar_size size) (nat_lt number (256 ^ size)) passes)) form.values_are_sized;
    pairs_may_be_unequal = list_all-implies (is_unequal_pair parts) (is_unequal_pair after) pair_left parts.unequal form.pairs_may_be_unequal;
    pairs_are_different = form.pairs_are_different;
  }

  entry_at : (place : ℕ) (entry : KeyedValue) → slice_get after.values place ≡ Some entry → (before : KeyedValue) × (slice_get parts.values place ≡ Some before) × (before.key ≡ entry.key)
  entry_at place entry is = go parts.values place is
    where
      left : KeyedValue → KeyedValue
      left entry = record { key = entry.key; value = coarsened_value limit parts entry.key entry.value }

      go : (entries : List KeyedValue) (place : ℕ) → slice_get (map left entries) place ≡ Some entry → (before : KeyedValue) × (slice_get entries place ≡ Some before) × (before.key ≡ entry.key)
      go [] place is = absurd (none-some entry is)
      go (first ∷ rest) zero is = (first, refl, ap (λ (e : KeyedValue). e.key) (same_Some (left first) entry is))
      go (first ∷ rest) (suc place) is = go rest place is

  pub graph_left : IsGraph parts → IsGraph after
  graph_left graph = record {
    well_formed = well_formed_left graph.well_formed;
    within_limits = graph.within_limits;
    ascending = record {
      objects = graph.ascending.objects;
      values = λ i j default before within.
          let one = in_place i (get_or after.values i default) (slice_get-get_or after.values i default (omega (arith, before, within))) in
          let other = in_place j (get_or after.values j default) (slice_get-get_or after.values j default within) in omega (arith, one, other, before);
    };
    keys = record { objects = graph.keys.objects; values = in_place };
  }
    where
      in_place : (place : ℕ) (entry : KeyedValue) → slice_get after.values place ≡ Some entry → entry.key ≡ place
      in_place place entry is = let before = entry_at place entry is in sym before.2 ∙ graph.keys.values place before.0 before.1
