-- A graph whose registers hold other values is a graph.
use Rattle.std.proofs.Common.{◌≡◌, ℕ, Bool, true, false, not, List, [], ◌∷◌, ◌++◌, map, nat_le, nat_lt, refl, ltb-true, lt-ltb, leb-true, le-leb, arith}
use Rattle.std.specs.Prelude.{Option, None, Some, if◌then◌else◌}
use Rattle.std.specs.List.{filter, list_all}
use Rattle.graph.specs.declared.object.Links.{Links}
use Rattle.graph.specs.declared.value.Value.{Value}
use Rattle.graph.specs.declared.value.Value.TheVariants.{Const, Number, Any, Address}
use Rattle.graph.specs.declared.parts.Held.{Held}
use Rattle.graph.specs.declared.parts.KeyedObject.{KeyedObject}
use Rattle.graph.specs.declared.parts.KeyedValue.{KeyedValue}
use Rattle.graph.specs.declared.parts.Parts.{Parts}
use Rattle.graph.specs.Nodes.{links_in}
use Rattle.graph.specs.WellFormed.{IsWellFormed, are_ascending, passes_at, may_be_held, leads_to_object, back_fits}
use Rattle.graph.specs.Whole.{IsGraph}
use Rattle.graph.proofs.Tests.{and_left, and_right, and_both, list_all-implies}
use Rattle.changes.specs.Parts.{is_among, without_registers, with_register}
use Rattle.changes.proofs.KeptForm.{all_same}
use Rattle.changes.proofs.RangeForm.{all_kept, all_append, all_filtered}

all_map : (test : ℕ → Bool) (registers : List Held) → list_all (λ (held : Held). test held.register) registers ≡ true → list_all test (map (λ (held : Held). held.register) registers) ≡ true
all_map test [] all = refl
all_map test (first ∷ rest) all =
    and_both (test first.register) (list_all test (map (λ (held : Held). held.register) rest)) (and_left (test first.register) (list_all (λ (held : Held). test held.register) rest) all)
    (all_map test rest (and_right (test first.register) (list_all (λ (held : Held). test held.register) rest) all))

all_unmap : (test : ℕ → Bool) (registers : List Held) → list_all test (map (λ (held : Held). held.register) registers) ≡ true → list_all (λ (held : Held). test held.register) registers ≡ true
all_unmap test [] all = refl
all_unmap test (first ∷ rest) all =
    and_both (test first.register) (list_all (λ (held : Held). test held.register) rest) (and_left (test first.register) (list_all test (map (λ (held : Held). held.register) rest)) all)
    (all_unmap test rest (and_right (test first.register) (list_all test (map (λ (held : Held). held.register) rest)) all))

abbrev Ascend : List Held → Bool
Ascend registers = are_ascending (map (λ (held : Held). held.register) registers)

abbrev Below : ℕ → Held → Bool
Below bound held = nat_lt held.register bound

abbrev From : ℕ → Held → Bool
From bound held = nat_le bound held.register

abbrev Above : ℕ → Held → Bool
Above bound held = nat_lt bound held.register

ascend_kept : (p : Held → Bool) (registers : List Held) → Ascend registers ≡ true → Ascend (filter p registers) ≡ true
ascend_kept p [] ascend = refl
ascend_kept p (first ∷ rest) ascend = by_test (p first) (ascend_kept p rest (and_right (list_all (nat_lt first.register) (map (λ (held : Held). held.register) rest)) (Ascend rest) ascend))
  where
    by_test : (b : Bool) → Ascend (filter p rest) ≡ true → Ascend (if b then first ∷ filter p rest else filter p rest) ≡ true
    by_test true later = and_both (list_all (nat_lt first.register) (map (λ (held : Held). held.register) (filter p rest))) (Ascend (filter p rest))
        (all_map (nat_lt first.register) (filter p rest) (all_kept p (Above first.register) (Above first.register) (λ held is above. above) rest
        (all_unmap (nat_lt first.register) rest (and_left (list_all (nat_lt first.register) (map (λ (held : Held). held.register) rest)) (Ascend rest) ascend)))) later
    by_test false later = later

ascend_split : (bound : ℕ) (one other : List Held) → Ascend one ≡ true → Ascend other ≡ true → list_all (Below bound) one ≡ true → list_all (From bound) other ≡ true → Ascend (one ++ other) ≡ true
ascend_split bound [] other in_one in_other below over = in_other
ascend_split bound (first ∷ rest) other in_one in_other below over =
    and_both (list_all (nat_lt first.register) (map (λ (held : Held). held.register) (rest ++ other))) (Ascend (rest ++ other))
    (all_map (nat_lt first.register) (rest ++ other) (all_append (Above first.register) rest other
    (all_unmap (nat_lt first.register) rest (and_left (list_all (nat_lt first.register) (map (λ (held : Held). held.register) rest)) (Ascend rest) in_one))
    (list_all-implies (From bound) (Above first.register) (λ held is. let f = leb-true _ _ is in let b = ltb-true _ _ (and_left (Below bound first) (list_all (Below bound) rest) below) in lt-ltb _ _ (omega arith)) other over)))
    (ascend_split bound rest other (and_right (list_all (nat_lt first.register) (map (λ (held : Held). held.register) rest)) (Ascend rest) in_one) in_other (and_right (Below bound first) (list_all (Below bound) rest) below) over)

-- Other registers.

module _ (registers : List Held) (parts : Parts) where
  abbrev after : Parts
  after = record parts { registers = registers }

  graph_after : IsGraph parts → list_all (λ (held : Held). passes_at parts may_be_held held.value) registers ≡ true → Ascend registers ≡ true → IsGraph after
  graph_after graph hold ascend = record {
    well_formed = record {
      edges_hold_values = form.edges_hold_values;
      edges_are_at_home = form.edges_are_at_home;
      registers_hold_values = hold;
      ports_are_values = form.ports_are_values;
      addresses_lead_to_objects = all_same (λ (entry : KeyedValue). leads_to_object parts entry.value) (λ entry. leads_to_object after entry.value) (λ entry. leads_same entry.value) parts.values form.addresses_lead_to_objects;
      variables_have_storage = form.variables_have_storage;
      storage_is_distinct = form.storage_is_distinct;
      variables_ascend = form.variables_ascend;
      registers_ascend = ascend;
      objects_are_small = form.objects_are_small;
      planes_are_as_long = form.planes_are_as_long;
      dead_objects_are_bare = form.dead_objects_are_bare;
      segments_are_allocated = form.segments_are_allocated;
      edges_lie_inside = form.edges_lie_inside;
      edges_are_in_order = form.edges_are_in_order;
      edges_have_their_sizes = form.edges_have_their_sizes;
      edges_have_their_classes = form.edges_have_their_classes;
      edges_are_not_zero = form.edges_are_not_zero;
      links_lie_inside = form.links_lie_inside;
      links_are_in_order = form.links_are_in_order;
      links_have_no_edge = form.links_have_no_edge;
      links_may_be_pointers = form.links_may_be_pointers;
      links_lead_on = form.links_lead_on;
      links_back_fit = all_same (λ (entry : KeyedObject). back_fits parts entry.object.size (links_in entry.object.shape)) (λ entry. back_fits after entry.object.size (links_in entry.object.shape)) (λ entry. back_same entry.object.size (links_in entry.object.shape)) parts.objects form.links_back_fit;
      comes_to_an_end = record { ranks = form.comes_to_an_end.ranks; next = form.comes_to_an_end.next; prev = form.comes_to_an_end.prev };
      values_are_sized = form.values_are_sized;
      pairs_may_be_unequal = form.pairs_may_be_unequal;
      pairs_are_different = form.pairs_are_different;
    };
    within_limits = graph.within_limits;
    ascending = record { objects = graph.ascending.objects; values = graph.ascending.values };
    keys = record { objects = graph.keys.objects; values = graph.keys.values };
  }
    where
      form : IsWellFormed parts
      form = graph.well_formed

      leads_same : (v : Value) → leads_to_object after v ≡ leads_to_object parts v
      leads_same (Const number size) = refl
      leads_same (Number size) = refl
      leads_same Any = refl
      leads_same (Address object offset target) = refl

      back_same : (size : ℕ) (found : Option Links) → back_fits after size found ≡ back_fits parts size found
      back_same size None = refl
      back_same size (Some links) = refl

kept : (parts : Parts) → IsGraph parts → (p : Held → Bool) → list_all (λ (held : Held). passes_at parts may_be_held held.value) (filter p parts.registers) ≡ true
kept parts graph p = all_kept p (λ (held : Held). passes_at parts may_be_held held.value) (λ held. passes_at parts may_be_held held.value) (λ held is has. has) parts.registers graph.well_formed.registers_hold_values

pub graph_without : (gone : List ℕ) (parts : Parts) → IsGraph parts → IsGraph (without_registers gone parts)
graph_without gone parts graph =
    graph_after (filter (λ (held : Held). not (is_among gone held.register)) parts.registers) parts graph (kept parts graph (λ (held : Held). not (is_among gone held.register)))
    (ascend_kept (λ (held : Held). not (is_among gone held.register)) parts.registers graph.well_formed.registers_ascend)

pub graph_with : (into key : ℕ) (parts : Parts) → passes_at parts may_be_held key ≡ true → IsGraph parts → IsGraph (with_register into key parts)
graph_with into key parts passes graph =
    graph_after (filter (Below into) parts.registers ++ record { register = into; value = key } ∷ filter (Above into) parts.registers) parts graph
    (all_append (λ (held : Held). passes_at parts may_be_held held.value) (filter (Below into) parts.registers) (record { register = into; value = key } ∷ filter (Above into) parts.registers)
    (kept parts graph (Below into))
    (and_both (passes_at parts may_be_held key) (list_all (λ (held : Held). passes_at parts may_be_held held.value) (filter (Above into) parts.registers)) passes (kept parts graph (Above into))))
    (ascend_split into (filter (Below into) parts.registers) (record { register = into; value = key } ∷ filter (Above into) parts.registers)
    (ascend_kept (Below into) parts.registers graph.well_formed.registers_ascend)
    (and_both (list_all (nat_lt into) (map (λ (held : Held). held.register) (filter (Above into) parts.registers))) (Ascend (filter (Above into) parts.registers))
    (all_map (nat_lt into) (filter (Above into) parts.registers) (all_filtered (Above into) parts.registers)) (ascend_kept (Above into) parts.registers graph.well_formed.registers_ascend))
    (all_filtered (Below into) parts.registers)
    (and_both (nat_le into into) (list_all (From into) (filter (Above into) parts.registers)) (le-leb _ _ (omega arith))
    (list_all-implies (Above into) (From into) (λ held is. let l = ltb-true _ _ is in le-leb _ _ (omega arith)) (filter (Above into) parts.registers) (all_filtered (Above into) parts.registers))))
