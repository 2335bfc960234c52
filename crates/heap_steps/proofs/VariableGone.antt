-- A graph with a variable less is a graph, and the variable's object is no variable's storage then.
use Rattle.std.proofs.Common.{◌≡◌, ℕ, Bool, true, false, not, ◌||◌, List, [], ◌∷◌, map, nat_eq, nat_lt, Option, None, Some, refl, sym, ◌∙◌, ap, eqb-true, eq-eqb}
use Rattle.std.specs.Prelude.{if◌then◌else◌}
use Rattle.std.specs.List.{filter, list_all}
use Rattle.std.specs.Option.{option_map_or}
use Rattle.std.proofs.lemmas.Bool.{false≢true}
use Rattle.std.proofs.lemmas.Option.{same_Some, none-some}
use Rattle.graph.specs.declared.object.Links.{Links}
use Rattle.graph.specs.declared.value.Value.{Value}
use Rattle.graph.specs.declared.value.Value.TheVariants.{Const, Number, Any, Address}
use Rattle.graph.specs.declared.parts.KeyedObject.{KeyedObject}
use Rattle.graph.specs.declared.parts.KeyedValue.{KeyedValue}
use Rattle.graph.specs.declared.parts.Named.{Named}
use Rattle.graph.specs.declared.parts.Parts.{Parts}
use Rattle.graph.specs.Maps.{object_at, storage_of}
use Rattle.graph.specs.Nodes.{links_in}
use Rattle.graph.specs.WellFormed.{IsWellFormed, are_distinct, are_ascending, leads_to_object, is_storage, back_fits}
use Rattle.graph.specs.Whole.{IsGraph}
use Rattle.graph.proofs.Tests.{and_left, and_right, and_both}
use Rattle.changes.specs.Parts.{emptied}
use Rattle.changes.proofs.KeptForm.{all_same}
use Rattle.changes.proofs.RangeForm.{all_kept}
use Rattle.heap_steps.specs.Leaving.{without_variable}

abbrev others : ℕ → List Named → List Named
others variable variables = filter (λ named. not (nat_eq variable named.variable)) variables

-- a number that differs from all others differs from those that are kept
kept_differ : (test : ℕ → Bool) (f : Named → ℕ) (p : Named → Bool) (xs : List Named) → list_all test (map f xs) ≡ true → list_all test (map f (filter p xs)) ≡ true
kept_differ test f p [] all = refl
kept_differ test f p (first ∷ rest) all = by_test (p first) (kept_differ test f p rest (and_right (test (f first)) (list_all test (map f rest)) all))
  where
    by_test : (b : Bool) → list_all test (map f (filter p rest)) ≡ true → list_all test (map f (if b then first ∷ filter p rest else filter p rest)) ≡ true
    by_test true later = and_both (test (f first)) (list_all test (map f (filter p rest))) (and_left (test (f first)) (list_all test (map f rest)) all) later
    by_test false later = later

distinct_kept : (p : Named → Bool) (xs : List Named) → are_distinct (map (λ (named : Named). named.object) xs) ≡ true → are_distinct (map (λ (named : Named). named.object) (filter p xs)) ≡ true
distinct_kept p [] distinct = refl
distinct_kept p (first ∷ rest) distinct = by_test (p first) (distinct_kept p rest (and_right (list_all (λ other. not (nat_eq first.object other)) (map (λ (named : Named). named.object) rest)) (are_distinct (map (λ (named : Named). named.object) rest)) distinct))
  where
    by_test : (b : Bool) → are_distinct (map (λ (named : Named). named.object) (filter p rest)) ≡ true → are_distinct (map (λ (named : Named). named.object) (if b then first ∷ filter p rest else filter p rest)) ≡ true
    by_test true later =
        and_both (list_all (λ other. not (nat_eq first.object other)) (map (λ (named : Named). named.object) (filter p rest))) (are_distinct (map (λ (named : Named). named.object) (filter p rest)))
        (kept_differ (λ other. not (nat_eq first.object other)) (λ (named : Named). named.object) p rest (and_left (list_all (λ other. not (nat_eq first.object other)) (map (λ (named : Named). named.object) rest)) (are_distinct (map (λ (named : Named). named.object) rest)) distinct)) later
    by_test false later = later

ascend_kept : (p : Named → Bool) (xs : List Named) → are_ascending (map (λ (named : Named). named.variable) xs) ≡ true → are_ascending (map (λ (named : Named). named.variable) (filter p xs)) ≡ true
ascend_kept p [] ascend = refl
ascend_kept p (first ∷ rest) ascend = by_test (p first) (ascend_kept p rest (and_right (list_all (nat_lt first.variable) (map (λ (named : Named). named.variable) rest)) (are_ascending (map (λ (named : Named). named.variable) rest)) ascend))
  where
    by_test : (b : Bool) → are_ascending (map (λ (named : Named). named.variable) (filter p rest)) ≡ true → are_ascending (map (λ (named : Named). named.variable) (if b then first ∷ filter p rest else filter p rest)) ≡ true
    by_test true later =
        and_both (list_all (nat_lt first.variable) (map (λ (named : Named). named.variable) (filter p rest))) (are_ascending (map (λ (named : Named). named.variable) (filter p rest)))
        (kept_differ (nat_lt first.variable) (λ (named : Named). named.variable) p rest (and_left (list_all (nat_lt first.variable) (map (λ (named : Named). named.variable) rest)) (are_ascending (map (λ (named : Named). named.variable) rest)) ascend)) later
    by_test false later = later

storage_kept : (variable : ℕ) (variables : List Named) (at : ℕ) → storage_of (others variable variables) at ≡ emptied (variable ∷ []) (storage_of variables) at
storage_kept variable [] at = by_test (nat_eq variable at || false)
  where
    by_test : (b : Bool) → ◌≡◌ {A = Option ℕ} None (if b then None else None)
    by_test true = refl
    by_test false = refl
storage_kept variable (first ∷ rest) at = by_first (nat_eq variable first.variable) refl (nat_eq first.variable at) refl (nat_eq variable at) refl (storage_kept variable rest at)
  where
    by_first : (gone : Bool) → nat_eq variable first.variable ≡ gone → (here : Bool) → nat_eq first.variable at ≡ here → (hit : Bool) → nat_eq variable at ≡ hit → storage_of (others variable rest) at ≡ (if hit || false then None else storage_of rest at) →
        storage_of (if not gone then first ∷ others variable rest else others variable rest) at ≡ (if hit || false then None else (if here then Some first.object else storage_of rest at))
    by_first true is here here_is true hit_is later = later
    by_first true is true here_is false hit_is later = absurd (false≢true (sym hit_is ∙ eq-eqb variable at (eqb-true _ _ is ∙ eqb-true _ _ here_is)))
    by_first true is false here_is false hit_is later = later
    by_first false is true here_is true hit_is later = absurd (false≢true (sym is ∙ eq-eqb variable first.variable (eqb-true _ _ hit_is ∙ sym (eqb-true _ _ here_is))))
    by_first false is true here_is false hit_is later = ap (λ (b : Bool). if b then Some first.object else storage_of (others variable rest) at) here_is
    by_first false is false here_is hit hit_is later = ap (λ (b : Bool). if b then Some first.object else storage_of (others variable rest) at) here_is ∙ later

-- what is found among objects that differ from one differs from it
found_differs : (one variable key : ℕ) (variables : List Named) → list_all (λ other. not (nat_eq one other)) (map (λ (named : Named). named.object) variables) ≡ true → storage_of variables variable ≡ Some key → not (nat_eq one key) ≡ true
found_differs one variable key [] differ found = absurd (none-some key found)
found_differs one variable key (first ∷ rest) differ found = by_first (nat_eq first.variable variable) found
    (λ found'. found_differs one variable key rest (and_right (not (nat_eq one first.object)) (list_all (λ other. not (nat_eq one other)) (map (λ (named : Named). named.object) rest)) differ) found')
  where
    by_first : (b : Bool) → (if b then Some first.object else storage_of rest variable) ≡ Some key → (storage_of rest variable ≡ Some key → not (nat_eq one key) ≡ true) → not (nat_eq one key) ≡ true
    by_first true found' later =
        ap (λ (n : ℕ). not (nat_eq one n)) (sym (same_Some _ _ found')) ∙ and_left (not (nat_eq one first.object)) (list_all (λ other. not (nat_eq one other)) (map (λ (named : Named). named.object) rest)) differ
    by_first false found' later = later found'

turned : (one other : ℕ) → not (nat_eq one other) ≡ true → not (nat_eq other one) ≡ true
turned one other differ = by_test (nat_eq other one) refl
  where
    by_test : (b : Bool) → nat_eq other one ≡ b → not b ≡ true
    by_test true is = absurd (false≢true (sym (ap not (eq-eqb one other (sym (eqb-true _ _ is)))) ∙ differ))
    by_test false is = refl

-- the other variables have other objects
other_objects : (variable key : ℕ) (variables : List Named) → are_distinct (map (λ (named : Named). named.object) variables) ≡ true → storage_of variables variable ≡ Some key →
    list_all (λ (named : Named). not (nat_eq named.object key)) (others variable variables) ≡ true
other_objects variable key [] distinct found = refl
other_objects variable key (first ∷ rest) distinct found = by_first (nat_eq first.variable variable) refl found
    (λ found'. other_objects variable key rest (and_right (list_all (λ other. not (nat_eq first.object other)) (map (λ (named : Named). named.object) rest)) (are_distinct (map (λ (named : Named). named.object) rest)) distinct) found')
  where
    rest_differ : list_all (λ other. not (nat_eq first.object other)) (map (λ (named : Named). named.object) rest) ≡ true
    rest_differ = and_left (list_all (λ other. not (nat_eq first.object other)) (map (λ (named : Named). named.object) rest)) (are_distinct (map (λ (named : Named). named.object) rest)) distinct

    all_differ : (xs : List Named) → list_all (λ other. not (nat_eq first.object other)) (map (λ (named : Named). named.object) xs) ≡ true → first.object ≡ key → list_all (λ (named : Named). not (nat_eq named.object key)) xs ≡ true
    all_differ [] differ same = refl
    all_differ (x ∷ xs) differ same =
        and_both (not (nat_eq x.object key)) (list_all (λ (named : Named). not (nat_eq named.object key)) xs)
        (ap (λ (n : ℕ). not (nat_eq x.object n)) (sym same) ∙ turned first.object x.object (and_left (not (nat_eq first.object x.object)) (list_all (λ other. not (nat_eq first.object other)) (map (λ (named : Named). named.object) xs)) differ))
        (all_differ xs (and_right (not (nat_eq first.object x.object)) (list_all (λ other. not (nat_eq first.object other)) (map (λ (named : Named). named.object) xs)) differ) same)

    by_first : (here : Bool) → nat_eq first.variable variable ≡ here → (if here then Some first.object else storage_of rest variable) ≡ Some key →
        (storage_of rest variable ≡ Some key → list_all (λ (named : Named). not (nat_eq named.object key)) (others variable rest) ≡ true) → list_all (λ (named : Named). not (nat_eq named.object key)) (others variable (first ∷ rest)) ≡ true
    by_first true here_is found' later =
        ap (λ (b : Bool). list_all (λ (named : Named). not (nat_eq named.object key)) (if not b then first ∷ others variable rest else others variable rest)) (eq-eqb variable first.variable (sym (eqb-true _ _ here_is)))
        ∙ all_kept (λ named. not (nat_eq variable named.variable)) (λ (named : Named). not (nat_eq named.object key)) (λ (named : Named). not (nat_eq named.object key)) (λ x kept has. has) rest (all_differ rest rest_differ (same_Some _ _ found'))
    by_first false here_is found' later = by_gone (nat_eq variable first.variable)
      where
        by_gone : (gone : Bool) → list_all (λ (named : Named). not (nat_eq named.object key)) (if not gone then first ∷ others variable rest else others variable rest) ≡ true
        by_gone true = later found'
        by_gone false =
            and_both (not (nat_eq first.object key)) (list_all (λ (named : Named). not (nat_eq named.object key)) (others variable rest)) (found_differs first.object variable key rest rest_differ found') (later found')

module _ (variable : ℕ) (parts : Parts) (graph : IsGraph parts) where
  abbrev gone : Parts
  gone = without_variable variable parts

  pub storage_gone : (at : ℕ) → storage_of gone.variables at ≡ emptied (variable ∷ []) (storage_of parts.variables) at
  storage_gone = storage_kept variable parts.variables

  pub other_storage : (key : ℕ) → storage_of parts.variables variable ≡ Some key → list_all (λ (named : Named). not (nat_eq named.object key)) gone.variables ≡ true
  other_storage key found = other_objects variable key parts.variables graph.well_formed.storage_is_distinct found

  pub gone_graph : IsGraph gone
  gone_graph = record {
    well_formed = record {
      edges_hold_values = form.edges_hold_values;
      edges_are_at_home = form.edges_are_at_home;
      registers_hold_values = form.registers_hold_values;
      ports_are_values = form.ports_are_values;
      addresses_lead_to_objects = all_same (λ (entry : KeyedValue). leads_to_object parts entry.value) (λ entry. leads_to_object gone entry.value) (λ entry. leads_same entry.value) parts.values form.addresses_lead_to_objects;
      variables_have_storage = all_kept (λ named. not (nat_eq variable named.variable)) (λ (named : Named). option_map_or is_storage (object_at parts.objects named.object) false)
          (λ (named : Named). option_map_or is_storage (object_at parts.objects named.object) false) (λ x kept has. has) parts.variables form.variables_have_storage;
      storage_is_distinct = distinct_kept (λ named. not (nat_eq variable named.variable)) parts.variables form.storage_is_distinct;
      variables_ascend = ascend_kept (λ named. not (nat_eq variable named.variable)) parts.variables form.variables_ascend;
      registers_ascend = form.registers_ascend;
      objects_are_small = form.objects_are_small;
      planes_are_as_long = form.planes_are_as_long;
      dead_objects_are_bare = form.dead_objects_are_bare;
      segments_are_allocated = form.segments_are_allocated;
      edges_lie_inside = form.edges_lie_inside;
      edges_are_in_order = form.edges_are_in_order;
      edges_have_their_sizes = form.edges_have_their_sizes;
      edges_have_their_classes = form.edges_have_their_classes;
      edges_are_not_zero = form.edges_are_not_zero;
      links_lie_inside = form.links_lie_inside;
      links_are_in_order = form.links_are_in_order;
      links_have_no_edge = form.links_have_no_edge;
      links_may_be_pointers = form.links_may_be_pointers;
      links_lead_on = form.links_lead_on;
      links_back_fit = all_same (λ (entry : KeyedObject). back_fits parts entry.object.size (links_in entry.object.shape)) (λ entry. back_fits gone entry.object.size (links_in entry.object.shape))
          (λ entry. back_same entry.object.size (links_in entry.object.shape)) parts.objects form.links_back_fit;
      comes_to_an_end = record { ranks = form.comes_to_an_end.ranks; next = form.comes_to_an_end.next; prev = form.comes_to_an_end.prev };
      values_are_sized = form.values_are_sized;
      pairs_may_be_unequal = form.pairs_may_be_unequal;
      pairs_are_different = form.pairs_are_different;
    };
    within_limits = graph.within_limits;
    ascending = record { objects = graph.ascending.objects; values = graph.ascending.values };
    keys = record { objects = graph.keys.objects; values = graph.keys.values };
  }
    where
      form : IsWellFormed parts
      form = graph.well_formed

      leads_same : (v : Value) → leads_to_object gone v ≡ leads_to_object parts v
      leads_same (Const number size) = refl
      leads_same (Number size) = refl
      leads_same Any = refl
      leads_same (Address object offset target) = refl

      back_same : (size : ℕ) (found : Option Links) → back_fits gone size found ≡ back_fits parts size found
      back_same size None = refl
      back_same size (Some links) = refl
