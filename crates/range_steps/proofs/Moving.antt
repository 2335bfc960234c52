-- Edges of one range, moved to another: their words stand in the bytes that are written there, and their form is kept.
use Rattle.std.proofs.Common.{◌≡◌, ℕ, ◌+◌, ◌-◌, ◌≤◌, Bool, true, false, not, List, [], ◌∷◌, map, length, take, drop, get_or, min, nat_eq, nat_le, Option, Some, refl, sym, ◌∙◌, ap, subst, eqb-true, leb-true, le-leb, length-take, length-drop, arith}
use Rattle.std.specs.Prelude.{if◌then◌else◌}
use Rattle.std.specs.List.{filter, list_all}
use Rattle.std.specs.Option.{option_map_or}
use Rattle.std.proofs.lemmas.Bool.{false≢true}
use Rattle.std.proofs.lemmas.List.{get_or-take, get_or-drop}
use Rattle.bytes_core.specs.declared.byte.Byte.{Byte}
use Rattle.bytes_core.specs.declared.byte.Byte.TheVariants.{Num}
use Rattle.bytes_core.specs.declared.word.Word.{Word}
use Rattle.graph.specs.declared.edges.HasValue.{HasValue}
use Rattle.graph.specs.declared.object.Object.{Object}
use Rattle.graph.specs.declared.object.Shape.TheVariants.{Region as RegionShape}
use Rattle.graph.specs.declared.value.Target.TheVariants.{Region, First, Last, Each}
use Rattle.graph.specs.declared.value.Value.{Value}
use Rattle.graph.specs.declared.value.Value.TheVariants.{Const, Number, Any, Address}
use Rattle.graph.specs.declared.parts.KeyedValue.{KeyedValue}
use Rattle.graph.specs.declared.parts.Parts.{Parts}
use Rattle.graph.specs.Maps.{object_at, value_at}
use Rattle.graph.specs.Sizes.{value_class, is_zero}
use Rattle.graph.specs.WellFormed.{IsWellFormed, passes_at, has_value, may_stand_in, target_fits, leads_to_object, lies_before, are_in_order, edge_has_size, edge_has_class}
use Rattle.graph.specs.Whole.{IsGraph}
use Rattle.graph.specs.Meaning.{HoldEdges}
use Rattle.graph.proofs.Found.{Holds-some, found-all}
use Rattle.graph.proofs.Sent.{passes-some}
use Rattle.graph.proofs.Tests.{and_left, and_right, and_both}
use Rattle.changes.specs.Parts.{with_object}
use Rattle.changes.specs.Ranges.{spliced, is_inside}
use Rattle.changes.proofs.KeptForm.{IsFit, graph_kept}
use Rattle.changes.proofs.RangeForm.{IsRangeFit, fit_now, plane_long, range_fit}
use Rattle.changes.proofs.Splice.{range_same, range_within}
use Rattle.range_steps.specs.Copying.{moved_edge, moved_edges, copied_object}

-- a range of a range
range_in : {A : Type 0} (items : List A) (from count at size : ℕ) (d : A) → from + count ≤ length items → from ≤ at → at + size ≤ from + count → take size (drop (at - from) (take count (drop from items))) ≡ take size (drop at items)
range_in items from count at size d room low high =
    range_same (take count (drop from items)) items (at - from) at size d (let e = long in omega arith) (omega arith) (λ i below.
    get_or-take count (drop from items) (at - from + i) d (omega arith) ∙ get_or-drop from items (at - from + i) d
    ∙ ap (λ (n : ℕ). get_or items n d) (let e : from + (at - from + i) ≡ at + i = omega arith in e))
  where
    long : length (take count (drop from items)) ≡ count
    long = length-take count (drop from items) ∙ ap (min count) (length-drop from items) ∙ omega arith

-- where an edge of a range begins and ends
begins_in : (from count : ℕ) (edge : HasValue) → is_inside from count edge ≡ true → from ≤ edge.at
begins_in from count edge inside = leb-true _ _ (and_left (nat_le from edge.at) (nat_le (edge.at + edge.size) (from + count)) inside)

ends_in : (from count : ℕ) (edge : HasValue) → is_inside from count edge ≡ true → edge.at + edge.size ≤ from + count
ends_in from count edge inside = leb-true _ _ (and_right (nat_le from edge.at) (nat_le (edge.at + edge.size) (from + count)) inside)

-- the edges of a range hold in its bytes where these are written
pub moved_hold : (bytes others : List Byte) (word : ℕ → Word) (from count at : ℕ) → from + count ≤ length bytes → at + count ≤ length others → (edges : List HasValue) → HoldEdges bytes word edges →
    HoldEdges (spliced others at (take count (drop from bytes))) word (moved_edges edges from count at)
moved_hold bytes others word from count at room room' [] holds = tt
moved_hold bytes others word from count at room room' (edge ∷ rest) holds = by_test (is_inside from count edge) refl (moved_hold bytes others word from count at room room' rest holds.1)
  where
    long : length (take count (drop from bytes)) ≡ count
    long = length-take count (drop from bytes) ∙ ap (min count) (length-drop from bytes) ∙ omega arith

    by_test : (b : Bool) → is_inside from count edge ≡ b → HoldEdges (spliced others at (take count (drop from bytes))) word (moved_edges rest from count at) →
        HoldEdges (spliced others at (take count (drop from bytes))) word (map (moved_edge from at) (if b then edge ∷ filter (is_inside from count) rest else filter (is_inside from count) rest))
    by_test false is later = later
    by_test true is later =
        let low = begins_in from count edge is in
        let high = ends_in from count edge is in (
          range_within others at (take count (drop from bytes)) (let e = long in omega arith) (Num 0) (at + (edge.at - from)) edge.size (omega arith) (let e = long in omega arith)
              ∙ ap (λ (n : ℕ). take edge.size (drop n (take count (drop from bytes)))) (let e : at + (edge.at - from) - at ≡ edge.at - from = omega arith in e)
              ∙ range_in bytes from count edge.at edge.size (Num 0) room low high
              ∙ holds.0,
          later,
        )

-- what edges pass, moved ones pass in another form
moved_pass : (from count at : ℕ) (test other : HasValue → Bool) → ((edge : HasValue) → is_inside from count edge ≡ true → test edge ≡ true → other (moved_edge from at edge) ≡ true) → (edges : List HasValue) → list_all test edges ≡ true →
    list_all other (moved_edges edges from count at) ≡ true
moved_pass from count at test other passes [] all = refl
moved_pass from count at test other passes (edge ∷ rest) all = by_test (is_inside from count edge) refl (moved_pass from count at test other passes rest (and_right (test edge) (list_all test rest) all))
  where
    by_test : (b : Bool) → is_inside from count edge ≡ b → list_all other (moved_edges rest from count at) ≡ true →
        list_all other (map (moved_edge from at) (if b then edge ∷ filter (is_inside from count) rest else filter (is_inside from count) rest)) ≡ true
    by_test false is later = later
    by_test true is later = and_both (other (moved_edge from at edge)) (list_all other (moved_edges rest from count at)) (passes edge is (and_left (test edge) (list_all test rest) all)) later

-- moved edges lie in the other range
moved_lie : (from count at : ℕ) (edges : List HasValue) → list_all (λ edge. true) edges ≡ true → list_all (is_inside at count) (moved_edges edges from count at) ≡ true
moved_lie from count at edges all = moved_pass from count at (λ edge. true) (is_inside at count) (λ edge is any.
    let low = begins_in from count edge is in
    let high = ends_in from count edge is in
    and_both (nat_le at (at + (edge.at - from))) (nat_le (at + (edge.at - from) + edge.size) (at + count)) (le-leb _ _ (omega arith)) (le-leb _ _ (omega arith))) edges all

all_true : (edges : List HasValue) → list_all (λ edge. true) edges ≡ true
all_true [] = refl
all_true (edge ∷ rest) = all_true rest

-- and are in order
moved_order : (from count at : ℕ) (edges : List HasValue) → are_in_order edges ≡ true → are_in_order (moved_edges edges from count at) ≡ true
moved_order from count at [] order = refl
moved_order from count at (edge ∷ rest) order = by_test (is_inside from count edge) refl (moved_order from count at rest (and_right (list_all (lies_before edge) rest) (are_in_order rest) order))
  where
    by_test : (b : Bool) → is_inside from count edge ≡ b → are_in_order (moved_edges rest from count at) ≡ true →
        are_in_order (map (moved_edge from at) (if b then edge ∷ filter (is_inside from count) rest else filter (is_inside from count) rest)) ≡ true
    by_test false is later = later
    by_test true is later = and_both (list_all (lies_before (moved_edge from at edge)) (moved_edges rest from count at)) (are_in_order (moved_edges rest from count at))
        (moved_pass from count at (lies_before edge) (lies_before (moved_edge from at edge)) (λ other inside before.
        let b = leb-true _ _ before in
        let low = begins_in from count edge is in
        let low' = begins_in from count other inside in
        le-leb _ _ (omega arith)) rest (and_left (list_all (lies_before edge) rest) (are_in_order rest) order)) later

-- a value in a region is no address of each node
region_home : (parts : Parts) (key other : ℕ) (object : Object) (value : Value) → object_at parts.objects key ≡ Some object → object.shape ≡ RegionShape → leads_to_object parts value ≡ true → may_stand_in key value ≡ true → may_stand_in other value ≡ true
region_home parts key other object (Const number size) stands region leads home = refl
region_home parts key other object (Number size) stands region leads home = refl
region_home parts key other object Any stands region leads home = refl
region_home parts key other object (Address at offset Region) stands region leads home = refl
region_home parts key other object (Address at offset First) stands region leads home = refl
region_home parts key other object (Address at offset Last) stands region leads home = refl
region_home parts key other object (Address at offset Each) stands region leads home =
    absurd (false≢true
    (sym (ap (target_fits Each) region)
    ∙ ap (λ (o : Option Object). option_map_or (λ found. target_fits Each found.shape) o false) (sym stands)
    ∙ ap (λ (k : ℕ). option_map_or (λ found. target_fits Each found.shape) (object_at parts.objects k) false) (sym (eqb-true _ _ home))
    ∙ leads))

-- what a range of a region says may be said of as wide a range of any region
module _ (parts : Parts) (form : IsWellFormed parts) (key from count other at : ℕ) (source : Object) (stands : object_at parts.objects key ≡ Some source) (region : source.shape ≡ RegionShape) (live : source.live ≡ true) (room : from + count ≤ source.size) where
  now : IsFit parts key source
  now = fit_now parts form key source stands region live

  long : length source.plane ≡ source.size
  long = plane_long parts form key source stands region live

  same_home : (edge : HasValue) → passes_at parts (may_stand_in key) edge.value ≡ true → passes_at parts (may_stand_in other) edge.value ≡ true
  same_home edge home =
      let found = Holds-some (value_at parts.values edge.value) (passes-some (may_stand_in key) (value_at parts.values edge.value) home) in
      let leads = found-all (λ (entry : KeyedValue). entry.key) (λ entry. entry.value) (leads_to_object parts) parts.values edge.value found.item form.addresses_lead_to_objects found.is in
      ap (λ (o : Option Value). option_map_or (may_stand_in other) o false) found.is
      ∙ region_home parts key other source found.item stands region leads (subst (λ (o : Option Value). option_map_or (may_stand_in key) o false ≡ true) found.is home)

  pub moved_fit : IsRangeFit parts other at count (moved_edges source.edges from count at) (take count (drop from source.plane))
  moved_fit = record {
    many = length-take count (drop from source.plane) ∙ ap (min count) (length-drop from source.plane) ∙ (let l = long in omega arith);
    holds = moved_pass from count at (λ edge. has_value parts edge.value) (λ edge. has_value parts edge.value) (λ edge is has. has) source.edges now.holds;
    home = moved_pass from count at (λ edge. passes_at parts (may_stand_in key) edge.value) (λ edge. passes_at parts (may_stand_in other) edge.value) (λ edge is home. same_home edge home) source.edges now.home;
    lie = moved_lie from count at source.edges (all_true source.edges);
    order = moved_order from count at source.edges now.order;
    sizes = moved_pass from count at (edge_has_size parts) (edge_has_size parts) (λ edge is has. has) source.edges now.sizes;
    fits = moved_pass from count at (edge_has_class parts source.plane) (λ edge. passes_at parts (λ value. list_all (nat_eq (value_class value)) (take edge.size (drop (edge.at - at) (take count (drop from source.plane))))) edge.value)
        (λ edge is has.
        ap (λ (range : List ℕ). passes_at parts (λ value. list_all (nat_eq (value_class value)) range) edge.value)
        (ap (λ (n : ℕ). take edge.size (drop n (take count (drop from source.plane)))) (let e : at + (edge.at - from) - at ≡ edge.at - from = omega arith in e)
        ∙ range_in source.plane from count edge.at edge.size 0 (let l = long in omega arith) (begins_in from count edge is) (ends_in from count edge is))
        ∙ has) source.edges now.classes;
    nonzero = moved_pass from count at (λ edge. passes_at parts (λ value. not (is_zero value)) edge.value) (λ edge. passes_at parts (λ value. not (is_zero value)) edge.value) (λ edge is has. has) source.edges now.nonzero;
  }

-- a graph in which a range is copied is a graph
pub graph_copied : (parts : Parts) (graph : IsGraph parts) (key from count other at : ℕ) (source target : Object) → object_at parts.objects key ≡ Some source → source.shape ≡ RegionShape → source.live ≡ true → from + count ≤ source.size →
    object_at parts.objects other ≡ Some target → target.shape ≡ RegionShape → target.live ≡ true → at + count ≤ target.size → IsGraph (with_object other (copied_object source from target at count) parts)
graph_copied parts graph key from count other at source target stands region live room stands' region' live' room' =
    graph_kept parts other target (copied_object source from target at count) stands' region' region' refl graph
    (range_fit parts graph.well_formed other target stands' region' live' at count (moved_edges source.edges from count at) (take count (drop from source.plane)) room'
    (moved_fit parts graph.well_formed key from count other at source stands region live room))
