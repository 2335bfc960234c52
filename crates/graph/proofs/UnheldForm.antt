-- A graph from which goes what nothing holds is a graph.
use Rattle.std.proofs.Common.{◌≡◌, ℕ, zero, suc, ◌+◌, ◌^◌, ◌<◌, ◌≤◌, Bool, true, false, ◌&&◌, ◌||◌, not, List, [], ◌∷◌, map, length, nat_eq, nat_le, nat_lt, Option, None, Some, refl, sym, ◌∙◌, ap, subst, eqb-true, eq-eqb, ltb-true, arith, cond}
use Rattle.std.specs.Prelude.{IsTrue, option_map, slice_get, is_some}
use Rattle.std.specs.List.{filter, list_all, AllPairs, fold}
use Rattle.std.specs.Option.{option_map_or}
use Rattle.std.proofs.lemmas.Bool.{false≢true, lt-ltb}
use Rattle.std.proofs.lemmas.List.Kept.{AllPairs-filter}
use Rattle.std.proofs.lemmas.Option.{same_Some, none-some, get_or_from_slice_get, slice_get_within, slice_get-map}
use Rattle.bytes_core.specs.Release.{is_heap}
use Rattle.graph.specs.declared.edges.HasValue.{HasValue}
use Rattle.graph.specs.declared.object.Links.{Links}
use Rattle.graph.specs.declared.object.Object.{Object}
use Rattle.graph.specs.declared.object.Shape.{Shape}
use Rattle.graph.specs.declared.object.Shape.TheVariants.{Region, Segment}
use Rattle.graph.specs.declared.value.Value.{Value}
use Rattle.graph.specs.declared.value.Value.TheVariants.{Const, Number, Any, Address}
use Rattle.graph.specs.declared.parts.Held.{Held}
use Rattle.graph.specs.declared.parts.KeyedObject.{KeyedObject}
use Rattle.graph.specs.declared.parts.KeyedValue.{KeyedValue}
use Rattle.graph.specs.declared.parts.Named.{Named}
use Rattle.graph.specs.declared.parts.Pair.{Pair}
use Rattle.graph.specs.declared.parts.Parts.{Parts}
use Rattle.graph.specs.Closed.{OnEdges, OnEnds}
use Rattle.graph.specs.Maps.{found_at, object_at, value_at}
use Rattle.graph.specs.Nodes.{is_region, node_of, back_edges, link_edges, links_in}
use Rattle.graph.specs.Sizes.{value_size, is_sized, is_zero}
use Rattle.graph.specs.Unheld.{with_only, MayGo, WhatStaysIsAGraph, WhatStaysIsWithinLimits}
use Rattle.graph.specs.WellFormed.{IsWellFormed, HasAscendingKeys, are_ascending, has_value, passes_at, may_stand_in, may_be_held, target_fits, leads_to_object, is_storage, has_class_a_byte, says_nothing, is_segment_storage, lies_in, are_in_order, share_no_byte, link_is_any, is_outward, is_null, back_fits, Ranks, Falls, edge_has_size, edge_has_class, is_unequal_pair, may_be_unequal, differs_from, are_different, nodes_of, nodes}
use Rattle.graph.proofs.Closed.{passes-at}
use Rattle.graph.proofs.Found.{found-here, found-later}
use Rattle.graph.proofs.Tests.{and_left, and_right, and_both}
use Rattle.graph.proofs.Unheld.{found_staying, was_there}

-- Tests of lists, of which some items stay.

all_each : {X : Type 0} (test other : X → Bool) (xs : List X) → ((place : ℕ) (x : X) → slice_get xs place ≡ Some x → test x ≡ true → other x ≡ true) → list_all test xs ≡ true → list_all other xs ≡ true
all_each test other [] each all = refl
all_each test other (x ∷ rest) each all =
    and_both (other x) (list_all other rest) (each 0 x refl (and_left (test x) (list_all test rest) all))
    (all_each test other rest (λ place next is. each (suc place) next is) (and_right (test x) (list_all test rest) all))

all_staying : {X : Type 0} (stay test other : X → Bool) (xs : List X) → ((place : ℕ) (x : X) → slice_get xs place ≡ Some x → stay x ≡ true → test x ≡ true → other x ≡ true) → list_all test xs ≡ true →
    list_all other (filter stay xs) ≡ true
all_staying stay test other [] each all = refl
all_staying stay test other (x ∷ rest) each all =
    by_stay (stay x) refl (and_left (test x) (list_all test rest) all) (each 0 x refl) (all_staying stay test other rest (λ place next is. each (suc place) next is) (and_right (test x) (list_all test rest) all))
  where
    by_stay : (b : Bool) → stay x ≡ b → test x ≡ true → (stay x ≡ true → test x ≡ true → other x ≡ true) → list_all other (filter stay rest) ≡ true → list_all other (cond b (x ∷ filter stay rest) (filter stay rest)) ≡ true
    by_stay true is passes here later = and_both (other x) (list_all other (filter stay rest)) (here is passes) later
    by_stay false is passes here later = later

different_staying : (stay : Pair → Bool) (pairs : List Pair) → are_different pairs ≡ true → are_different (filter stay pairs) ≡ true
different_staying stay [] differ = refl
different_staying stay (first ∷ rest) differ =
    by_stay (stay first)
    (all_staying stay (differs_from first) (differs_from first) rest (λ place pair is stays passes. passes) (and_left (list_all (differs_from first) rest) (are_different rest) differ))
    (different_staying stay rest (and_right (list_all (differs_from first) rest) (are_different rest) differ))
  where
    by_stay : (b : Bool) → list_all (differs_from first) (filter stay rest) ≡ true → are_different (filter stay rest) ≡ true → are_different (cond b (first ∷ filter stay rest) (filter stay rest)) ≡ true
    by_stay true here later = and_both (list_all (differs_from first) (filter stay rest)) (are_different (filter stay rest)) here later
    by_stay false here later = later

-- Entries whose keys ascend are found.

module _ {Entry Item : Type 0} (key : Entry → ℕ) (item : Entry → Item) where
  found_behind : (first : Entry) (rest : List Entry) (entry : Entry) → key first < key entry → found_at key item rest (key entry) ≡ Some (item entry) → found_at key item (first ∷ rest) (key entry) ≡ Some (item entry)
  found_behind first rest entry below found = found-later key item first rest (key entry) (by_test (nat_eq (key first) (key entry)) refl) ∙ found
    where
      by_test : (b : Bool) → nat_eq (key first) (key entry) ≡ b → nat_eq (key first) (key entry) ≡ false
      by_test true is = let e = eqb-true _ _ is in absurd (omega arith)
      by_test false is = is

  found_first : (first : Entry) (rest : List Entry) (entry : Entry) → Some first ≡ Some entry → found_at key item (first ∷ rest) (key entry) ≡ Some (item entry)
  found_first first rest entry is =
      subst (λ (e : Entry). found_at key item (first ∷ rest) (key e) ≡ Some (item e)) (same_Some _ _ is) (found-here key item first rest (key first) (eq-eqb (key first) (key first) refl))

  entry_found : (entries : List Entry) → AllPairs (λ one other. key one < key other) entries → (place : ℕ) (entry : Entry) → slice_get entries place ≡ Some entry → found_at key item entries (key entry) ≡ Some (item entry)
  entry_found [] ascend place entry is = absurd (none-some entry is)
  entry_found (first ∷ rest) ascend zero entry is = found_first first rest entry is
  entry_found (first ∷ rest) ascend (suc place) entry is =
      let within = slice_get_within rest place entry is in
      found_behind first rest entry (subst (λ (e : Entry). key first < key e) (get_or_from_slice_get rest place entry first is) (ascend 0 (suc place) first (omega arith) (omega arith)))
      (entry_found rest (λ i j d before below. ascend (suc i) (suc j) d (omega arith) (omega arith)) place entry is)

  entry_rising : (entries : List Entry) → are_ascending (map key entries) ≡ true → (place : ℕ) (entry : Entry) → slice_get entries place ≡ Some entry → found_at key item entries (key entry) ≡ Some (item entry)
  entry_rising [] ascend place entry is = absurd (none-some entry is)
  entry_rising (first ∷ rest) ascend zero entry is = found_first first rest entry is
  entry_rising (first ∷ rest) ascend (suc place) entry is =
      found_behind first rest entry
      (ltb-true _ _ (passes-at (nat_lt (key first)) (map key rest) place (key entry) (slice_get-map key rest place ∙ ap (option_map key) is) (and_left (list_all (nat_lt (key first)) (map key rest)) (are_ascending (map key rest)) ascend)))
      (entry_rising rest (and_right (list_all (nat_lt (key first)) (map key rest)) (are_ascending (map key rest)) ascend) place entry is)

-- Values that links name.

back_named : (P : ℕ → Type 0) (twofold : Bool) (prev prev_value : ℕ) → P prev_value → OnEdges P (back_edges twofold prev prev_value)
back_named P true prev prev_value holds = (holds, tt)
back_named P false prev prev_value holds = tt

links_named : (P : ℕ → Type 0) (shape : Shape) → OnEnds P shape → OnEdges P (link_edges shape)
links_named P Region on = tt
links_named P (Segment twofold head next prev back least next_value prev_value node) on = (on.0, back_named P twofold prev prev_value on.1)

links_on : (P : ℕ → Type 0) (shape : Shape) (links : Links) → links_in shape ≡ Some links → OnEnds P shape → P links.next_value × P links.prev_value
links_on P Region links is on = absurd (none-some links is)
links_on P (Segment twofold head next prev back least next_value prev_value node) links is on = subst (λ (l : Links). P l.next_value × P l.prev_value) (same_Some _ _ is) on

module _ (values objects : ℕ → Bool) (parts : Parts) (ascending : HasAscendingKeys parts) (well : IsWellFormed parts) (may : MayGo values objects parts) where
  abbrev kept : Parts
  kept = with_only values objects parts

  abbrev Stays : ℕ → Type 0
  Stays key = IsTrue (values key)

  value_same : (key : ℕ) → Stays key → value_at kept.values key ≡ value_at parts.values key
  value_same key stay = found_staying (λ (entry : KeyedValue). entry.key) (λ entry. entry.value) values parts.values key stay

  object_same : (key : ℕ) → objects key ≡ true → object_at kept.objects key ≡ object_at parts.objects key
  object_same key stay = found_staying (λ (entry : KeyedObject). entry.key) (λ entry. entry.object) objects parts.objects key stay

  passes_kept : (test : Value → Bool) (key : ℕ) → Stays key → passes_at parts test key ≡ true → passes_at kept test key ≡ true
  passes_kept test key stay passes = subst (λ (o : Option Value). option_map_or test o false ≡ true) (sym (value_same key stay)) passes

  object_found : (place : ℕ) (entry : KeyedObject) → slice_get parts.objects place ≡ Some entry → object_at parts.objects entry.key ≡ Some entry.object
  object_found place entry is = entry_found (λ (entry : KeyedObject). entry.key) (λ entry. entry.object) parts.objects ascending.objects place entry is

  -- points that do not look at other entries
  same : (test : KeyedObject → Bool) → list_all test parts.objects ≡ true → list_all test kept.objects ≡ true
  same test all = all_staying (λ (entry : KeyedObject). objects entry.key) test test parts.objects (λ place entry is stays passes. passes) all

  -- points on edges and links
  edges_pass : (test other : HasValue → Bool) → ((edge : HasValue) → Stays edge.value → test edge ≡ true → other edge ≡ true) → (edges : List HasValue) → OnEdges Stays edges → list_all test edges ≡ true → list_all other edges ≡ true
  edges_pass test other implies [] stay all = refl
  edges_pass test other implies (edge ∷ rest) stay all =
      and_both (other edge) (list_all other rest) (implies edge stay.0 (and_left (test edge) (list_all test rest) all)) (edges_pass test other implies rest stay.1 (and_right (test edge) (list_all test rest) all))

  on_edges : (test other : KeyedObject → HasValue → Bool) → ((entry : KeyedObject) (edge : HasValue) → Stays edge.value → test entry edge ≡ true → other entry edge ≡ true) →
      list_all (λ entry. list_all (test entry) (node_of entry.object).edges) parts.objects ≡ true → list_all (λ entry. list_all (other entry) (node_of entry.object).edges) kept.objects ≡ true
  on_edges test other implies all =
      all_staying (λ (entry : KeyedObject). objects entry.key) (λ entry. list_all (test entry) (node_of entry.object).edges) (λ entry. list_all (other entry) (node_of entry.object).edges) parts.objects
      (λ place entry is stays passes. edges_pass (test entry) (other entry) (implies entry) (node_of entry.object).edges (may.named entry.key entry.object (object_found place entry is)).0 passes) all

  links_pass : list_all (λ entry. list_all (λ link. passes_at parts is_outward link.value) (link_edges entry.object.shape)) parts.objects ≡ true →
      list_all (λ entry. list_all (λ link. passes_at kept is_outward link.value) (link_edges entry.object.shape)) kept.objects ≡ true
  links_pass all =
      all_staying (λ (entry : KeyedObject). objects entry.key) (λ entry. list_all (λ (link : HasValue). passes_at parts is_outward link.value) (link_edges entry.object.shape))
      (λ entry. list_all (λ (link : HasValue). passes_at kept is_outward link.value) (link_edges entry.object.shape)) parts.objects
      (λ place entry is stays passes. edges_pass (λ (link : HasValue). passes_at parts is_outward link.value) (λ (link : HasValue). passes_at kept is_outward link.value) (λ link stay. passes_kept is_outward link.value stay)
      (link_edges entry.object.shape) (links_named Stays entry.object.shape (may.named entry.key entry.object (object_found place entry is)).1) passes) all

  back_same : (shape : Shape) (size : ℕ) → OnEnds Stays shape → back_fits parts size (links_in shape) ≡ true → back_fits kept size (links_in shape) ≡ true
  back_same Region size stay fits = refl
  back_same (Segment true head next prev back least next_value prev_value node) size stay fits = fits
  back_same (Segment false head next prev back least next_value prev_value node) size stay fits =
      let inner = and_right (nat_eq prev 0) (nat_eq back 0 && passes_at parts is_null prev_value) fits in
      and_both (nat_eq prev 0) (nat_eq back 0 && passes_at kept is_null prev_value) (and_left (nat_eq prev 0) (nat_eq back 0 && passes_at parts is_null prev_value) fits)
      (and_both (nat_eq back 0) (passes_at kept is_null prev_value) (and_left (nat_eq back 0) (passes_at parts is_null prev_value) inner)
      (passes_kept is_null prev_value stay.1 (and_right (nat_eq back 0) (passes_at parts is_null prev_value) inner)))

  has_value_kept : (key : ℕ) → Stays key → has_value parts key ≡ true → has_value kept key ≡ true
  has_value_kept key stay has = subst (λ (o : Option Value). is_some o ≡ true) (sym (value_same key stay)) has

  leads_kept : (key : ℕ) (value : Value) → value_at parts.values key ≡ Some value → Stays key → leads_to_object parts value ≡ true → leads_to_object kept value ≡ true
  leads_kept key (Const number size) is stay leads = refl
  leads_kept key (Number size) is stay leads = refl
  leads_kept key Any is stay leads = refl
  leads_kept key (Address object offset target) is stay leads =
      subst (λ (o : Option Object). option_map_or (λ found. target_fits target found.shape) o false ≡ true) (sym (object_same object (may.addresses key object offset target is stay))) leads

  storage_kept : (key : ℕ) (found : Option Object) → object_at parts.objects key ≡ found → option_map_or is_storage found false ≡ true → option_map_or is_storage (object_at kept.objects key) false ≡ true
  storage_kept key None is passes = absurd (false≢true passes)
  storage_kept key (Some object) is passes =
      subst (λ (o : Option Object). option_map_or is_storage o false ≡ true) (sym (object_same key (may.live key object is (and_left object.live (not (is_heap object.kind)) passes)) ∙ is)) passes

  pair_kept : (pair : Pair) → (values pair.left && values pair.right) ≡ true → is_unequal_pair parts pair ≡ true → is_unequal_pair kept pair ≡ true
  pair_kept pair stay unequal =
      let left = value_same pair.left (and_left (values pair.left) (values pair.right) stay) in
      let right = value_same pair.right (and_right (values pair.left) (values pair.right) stay) in
      subst (λ (o : Option Value). (not (nat_eq pair.left pair.right) && option_map_or (λ one. option_map_or (may_be_unequal one) o false) (value_at kept.values pair.left) false) ≡ true) (sym right)
      (subst (λ (o : Option Value). (not (nat_eq pair.left pair.right) && option_map_or (λ one. option_map_or (may_be_unequal one) (value_at parts.values pair.right) false) o false) ≡ true) (sym left) unequal)

  falls_kept : (ranks : Ranks) (rank key : ℕ) → Stays key → Falls ranks rank (value_at parts.values key) → Falls ranks rank (value_at kept.values key)
  falls_kept ranks rank key stay falls = subst (Falls ranks rank) (sym (value_same key stay)) falls

  object_was : (key : ℕ) (object : Object) → object_at kept.objects key ≡ Some object → object_at parts.objects key ≡ Some object
  object_was key object is = was_there (λ (entry : KeyedObject). entry.key) (λ entry. entry.object) objects parts.objects key object is

  kept_well_formed : IsWellFormed kept
  kept_well_formed = record {
    edges_hold_values = on_edges (λ entry edge. has_value parts edge.value) (λ entry edge. has_value kept edge.value) (λ entry edge stay. has_value_kept edge.value stay) well.edges_hold_values;
    edges_are_at_home = on_edges (λ entry edge. passes_at parts (may_stand_in entry.key) edge.value) (λ entry edge. passes_at kept (may_stand_in entry.key) edge.value) (λ entry edge stay. passes_kept (may_stand_in entry.key) edge.value stay) well.edges_are_at_home;
    registers_hold_values = all_each (λ (held : Held). passes_at parts may_be_held held.value) (λ (held : Held). passes_at kept may_be_held held.value) parts.registers
        (λ place held is. passes_kept may_be_held held.value (may.registers held.register held.value (entry_rising (λ (held : Held). held.register) (λ held. held.value) parts.registers well.registers_ascend place held is))) well.registers_hold_values;
    ports_are_values = all_each (passes_at parts may_be_held) (passes_at kept may_be_held) parts.ports (λ place port is. passes_kept may_be_held port (may.ports place port is)) well.ports_are_values;
    addresses_lead_to_objects = all_staying (λ (entry : KeyedValue). values entry.key) (λ entry. leads_to_object parts entry.value) (λ entry. leads_to_object kept entry.value) parts.values
        (λ place entry is stay. leads_kept entry.key entry.value (entry_found (λ (entry : KeyedValue). entry.key) (λ entry. entry.value) parts.values ascending.values place entry is) stay) well.addresses_lead_to_objects;
    variables_have_storage = all_each (λ (named : Named). option_map_or is_storage (object_at parts.objects named.object) false) (λ (named : Named). option_map_or is_storage (object_at kept.objects named.object) false) parts.variables
        (λ place named is. storage_kept named.object (object_at parts.objects named.object) refl) well.variables_have_storage;
    storage_is_distinct = well.storage_is_distinct;
    variables_ascend = well.variables_ascend;
    registers_ascend = well.registers_ascend;
    objects_are_small = same (λ entry. nat_le entry.object.size 65536) well.objects_are_small;
    planes_are_as_long = same (λ entry. has_class_a_byte entry.object) well.planes_are_as_long;
    dead_objects_are_bare = same (λ entry. entry.object.live || (is_region entry.object.shape && says_nothing entry.object.edges entry.object.plane)) well.dead_objects_are_bare;
    segments_are_allocated = same (λ entry. is_region entry.object.shape || is_segment_storage entry.object) well.segments_are_allocated;
    edges_lie_inside = same (λ entry. list_all (lies_in entry.object.size) (node_of entry.object).edges) well.edges_lie_inside;
    edges_are_in_order = same (λ entry. are_in_order (node_of entry.object).edges) well.edges_are_in_order;
    edges_have_their_sizes = on_edges (λ entry edge. edge_has_size parts edge) (λ entry edge. edge_has_size kept edge) (λ entry edge stay. passes_kept (λ value. nat_eq (value_size value) edge.size) edge.value stay) well.edges_have_their_sizes;
    edges_have_their_classes = on_edges (λ entry edge. edge_has_class parts (node_of entry.object).plane edge) (λ entry edge. edge_has_class kept (node_of entry.object).plane edge)
        (λ entry edge stay. passes_kept _ edge.value stay) well.edges_have_their_classes;
    edges_are_not_zero = on_edges (λ entry edge. passes_at parts (λ value. not (is_zero value)) edge.value) (λ entry edge. passes_at kept (λ value. not (is_zero value)) edge.value) (λ entry edge stay. passes_kept (λ value. not (is_zero value)) edge.value stay) well.edges_are_not_zero;
    links_lie_inside = same (λ entry. list_all (lies_in entry.object.size) (link_edges entry.object.shape)) well.links_lie_inside;
    links_are_in_order = same (λ entry. are_in_order (link_edges entry.object.shape)) well.links_are_in_order;
    links_have_no_edge = same (λ entry. list_all (λ link. list_all (share_no_byte link) (node_of entry.object).edges) (link_edges entry.object.shape)) well.links_have_no_edge;
    links_may_be_pointers = same (λ entry. list_all (link_is_any (node_of entry.object).plane) (link_edges entry.object.shape)) well.links_may_be_pointers;
    links_lead_on = links_pass well.links_lead_on;
    links_back_fit = all_staying (λ (entry : KeyedObject). objects entry.key) (λ entry. back_fits parts entry.object.size (links_in entry.object.shape)) (λ entry. back_fits kept entry.object.size (links_in entry.object.shape)) parts.objects
        (λ place entry is stays. back_same entry.object.shape entry.object.size (may.named entry.key entry.object (object_found place entry is)).1) well.links_back_fit;
    comes_to_an_end = record {
      ranks = well.comes_to_an_end.ranks;
      next = λ key object links stands linked least.
          falls_kept well.comes_to_an_end.ranks (well.comes_to_an_end.ranks.first key) links.next_value (links_on Stays object.shape links linked (may.named key object (object_was key object stands)).1).0
          (well.comes_to_an_end.next key object links (object_was key object stands) linked least);
      prev = λ key object links stands linked least.
          falls_kept well.comes_to_an_end.ranks (well.comes_to_an_end.ranks.last key) links.prev_value (links_on Stays object.shape links linked (may.named key object (object_was key object stands)).1).1
          (well.comes_to_an_end.prev key object links (object_was key object stands) linked least);
    };
    values_are_sized = all_staying (λ (entry : KeyedValue). values entry.key) (λ entry. is_sized entry.value) (λ entry. is_sized entry.value) parts.values (λ place entry is stays passes. passes) well.values_are_sized;
    pairs_may_be_unequal = all_staying (λ (pair : Pair). values pair.left && values pair.right) (is_unequal_pair parts) (is_unequal_pair kept) parts.unequal (λ place pair is stay. pair_kept pair stay) well.pairs_may_be_unequal;
    pairs_are_different = different_staying (λ (pair : Pair). values pair.left && values pair.right) parts.unequal well.pairs_are_different;
  }

  kept_ascending : HasAscendingKeys kept
  kept_ascending = record {
    objects = AllPairs-filter (λ (one other : KeyedObject). one.key < other.key) (λ (entry : KeyedObject). objects entry.key) parts.objects ascending.objects;
    values = AllPairs-filter (λ (one other : KeyedValue). one.key < other.key) (λ (entry : KeyedValue). values entry.key) parts.values ascending.values;
  }

pub what_stays_is_a_graph : WhatStaysIsAGraph
what_stays_is_a_graph values objects parts ascending well may = (kept_well_formed values objects parts ascending well may, kept_ascending values objects parts ascending well may)

-- How much stays.

fold_staying : {X : Type 0} (stay : X → Bool) (f : X → ℕ) (xs : List X) (m n : ℕ) → m ≤ n → fold (λ count x. count + f x) m (filter stay xs) ≤ fold (λ count x. count + f x) n xs
fold_staying stay f [] m n below = below
fold_staying stay f (x ∷ rest) m n below = by_stay (stay x) (fold_staying stay f rest (m + f x) (n + f x) (omega arith)) (fold_staying stay f rest m (n + f x) (omega arith))
  where
    by_stay : (b : Bool) → fold (λ count x. count + f x) (m + f x) (filter stay rest) ≤ fold (λ count x. count + f x) (n + f x) rest → fold (λ count x. count + f x) m (filter stay rest) ≤ fold (λ count x. count + f x) (n + f x) rest →
        fold (λ count x. count + f x) m (cond b (x ∷ filter stay rest) (filter stay rest)) ≤ fold (λ count x. count + f x) (n + f x) rest
    by_stay true here later = here
    by_stay false here later = later

length_staying : {X : Type 0} (stay : X → Bool) (xs : List X) → length (filter stay xs) ≤ length xs
length_staying stay [] = omega arith
length_staying stay (x ∷ rest) = by_stay (stay x) (length_staying stay rest)
  where
    by_stay : (b : Bool) → length (filter stay rest) ≤ length rest → length (cond b (x ∷ filter stay rest) (filter stay rest)) ≤ suc (length rest)
    by_stay true below = omega arith
    by_stay false below = omega arith

pub what_stays_is_within_limits : WhatStaysIsWithinLimits
what_stays_is_within_limits values objects parts limits =
    let few = ltb-true (nodes parts) (2 ^ 30) (and_left (nat_lt (nodes parts) (2 ^ 30)) (nat_lt (length parts.unequal) (2 ^ 30)) limits) in
    let pairs = ltb-true (length parts.unequal) (2 ^ 30) (and_right (nat_lt (nodes parts) (2 ^ 30)) (nat_lt (length parts.unequal) (2 ^ 30)) limits) in
    let fewer : nodes (with_only values objects parts) ≤ nodes parts = fold_staying (λ (entry : KeyedObject). objects entry.key) (λ (entry : KeyedObject). nodes_of entry.object.shape) parts.objects 0 0 (omega arith) in
    let fewer_pairs = length_staying (λ (pair : Pair). values pair.left && values pair.right) parts.unequal in
    and_both (nat_lt (nodes (with_only values objects parts)) (2 ^ 30)) (nat_lt (length (with_only values objects parts).unequal) (2 ^ 30)) (lt-ltb _ _ (omega arith)) (lt-ltb _ _ (omega arith))
