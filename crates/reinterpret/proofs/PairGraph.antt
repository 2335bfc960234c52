-- A graph with one unequal pair more is a graph.
use Rattle.std.proofs.Common.{◌≡◌, ℕ, ◌+◌, ◌^◌, ◌<◌, Bool, true, false, not, ◌||◌, ◌&&◌, List, [], ◌∷◌, ◌++◌, length, nat_lt, refl, sym, lt-ltb, length-append, arith}
use Rattle.std.specs.Prelude.{Option, None, Some}
use Rattle.std.specs.List.{list_all, list_any}
use Rattle.std.proofs.lemmas.Bool.{false≢true}
use Rattle.graph.specs.declared.object.Links.{Links}
use Rattle.graph.specs.declared.value.Value.{Value}
use Rattle.graph.specs.declared.value.Value.TheVariants.{Const, Number, Any, Address}
use Rattle.graph.specs.declared.parts.KeyedObject.{KeyedObject}
use Rattle.graph.specs.declared.parts.KeyedValue.{KeyedValue}
use Rattle.graph.specs.declared.parts.Pair.{Pair}
use Rattle.graph.specs.declared.parts.Parts.{Parts}
use Rattle.graph.specs.Nodes.{links_in}
use Rattle.graph.specs.WellFormed.{IsWellFormed, leads_to_object, back_fits, is_unequal_pair, differs_from, nodes}
use Rattle.graph.specs.Whole.{IsGraph}
use Rattle.graph.proofs.Tests.{and_left, and_both}
use Rattle.changes.proofs.KeptForm.{all_same}
use Rattle.changes.proofs.RangeForm.{all_append}
use Rattle.reinterpret.specs.Comparing.{is_noted}
use Rattle.changes.specs.Merging.{with_unequal}
use Rattle.changes.proofs.MergedPairs.{different_more}

pub none_differs : (pair : Pair) (pairs : List Pair) → list_any (λ other. not (differs_from pair other)) pairs ≡ false → list_all (differs_from pair) pairs ≡ true
none_differs pair [] none = refl
none_differs pair (first ∷ rest) none = by_first (differs_from pair first) refl none (none_differs pair rest)
  where
    by_first : (b : Bool) → differs_from pair first ≡ b → (not b || list_any (λ other. not (differs_from pair other)) rest) ≡ false → (list_any (λ other. not (differs_from pair other)) rest ≡ false → list_all (differs_from pair) rest ≡ true) →
        (differs_from pair first && list_all (differs_from pair) rest) ≡ true
    by_first true is none later = and_both (differs_from pair first) (list_all (differs_from pair) rest) is (later none)
    by_first false is none later = absurd (false≢true (sym none))

pub graph_unequal : (parts : Parts) (left right : ℕ) → IsGraph parts → length parts.unequal < 1073741823 → is_unequal_pair parts (record { left = left; right = right }) ≡ true → is_noted parts left right ≡ false →
    IsGraph (with_unequal left right parts)
graph_unequal parts left right graph few may fresh = record {
  well_formed = record {
    edges_hold_values = form.edges_hold_values;
    edges_are_at_home = form.edges_are_at_home;
    registers_hold_values = form.registers_hold_values;
    ports_are_values = form.ports_are_values;
    addresses_lead_to_objects = all_same (λ (entry : KeyedValue). leads_to_object parts entry.value) (λ entry. leads_to_object (with_unequal left right parts) entry.value) (λ entry. leads_same entry.value) parts.values form.addresses_lead_to_objects;
    variables_have_storage = form.variables_have_storage;
    storage_is_distinct = form.storage_is_distinct;
    variables_ascend = form.variables_ascend;
    registers_ascend = form.registers_ascend;
    objects_are_small = form.objects_are_small;
    planes_are_as_long = form.planes_are_as_long;
    dead_objects_are_bare = form.dead_objects_are_bare;
    segments_are_allocated = form.segments_are_allocated;
    edges_lie_inside = form.edges_lie_inside;
    edges_are_in_order = form.edges_are_in_order;
    edges_have_their_sizes = form.edges_have_their_sizes;
    edges_have_their_classes = form.edges_have_their_classes;
    edges_are_not_zero = form.edges_are_not_zero;
    links_lie_inside = form.links_lie_inside;
    links_are_in_order = form.links_are_in_order;
    links_have_no_edge = form.links_have_no_edge;
    links_may_be_pointers = form.links_may_be_pointers;
    links_lead_on = form.links_lead_on;
    links_back_fit = all_same (λ (entry : KeyedObject). back_fits parts entry.object.size (links_in entry.object.shape)) (λ entry. back_fits (with_unequal left right parts) entry.object.size (links_in entry.object.shape)) (λ entry. back_same entry.object.size (links_in entry.object.shape)) parts.objects form.links_back_fit;
    comes_to_an_end = record { ranks = form.comes_to_an_end.ranks; next = form.comes_to_an_end.next; prev = form.comes_to_an_end.prev };
    values_are_sized = form.values_are_sized;
    pairs_may_be_unequal = all_append (is_unequal_pair parts) parts.unequal (record { left = left; right = right } ∷ []) form.pairs_may_be_unequal (and_both (is_unequal_pair parts (record { left = left; right = right })) true may refl);
    pairs_are_different = different_more parts.unequal (record { left = left; right = right }) form.pairs_are_different (none_differs (record { left = left; right = right }) parts.unequal fresh);
  };
  within_limits = and_both (nat_lt (nodes parts) (2 ^ 30)) (nat_lt (length (with_unequal left right parts).unequal) (2 ^ 30)) (and_left (nat_lt (nodes parts) (2 ^ 30)) (nat_lt (length parts.unequal) (2 ^ 30)) graph.within_limits)
      (lt-ltb _ _ (let e : length (parts.unequal ++ record { left = left; right = right } ∷ []) ≡ length parts.unequal + 1 = length-append parts.unequal (record { left = left; right = right } ∷ []) in omega arith));
  ascending = record { objects = graph.ascending.objects; values = graph.ascending.values };
  keys = record { objects = graph.keys.objects; values = graph.keys.values };
}
  where
    form : IsWellFormed parts
    form = graph.well_formed

    leads_same : (v : Value) → leads_to_object (with_unequal left right parts) v ≡ leads_to_object parts v
    leads_same (Const number size) = refl
    leads_same (Number size) = refl
    leads_same Any = refl
    leads_same (Address object offset target) = refl

    back_same : (size : ℕ) (found : Option Links) → back_fits (with_unequal left right parts) size found ≡ back_fits parts size found
    back_same size None = refl
    back_same size (Some links) = refl
