-- A graph of which other edges and classes are said in a range of a region is a graph.
use Rattle.std.proofs.Common.{◌≡◌, ℕ, zero, suc, ◌+◌, ◌-◌, ◌≤◌, Bool, true, false, not, ◌||◌, ◌&&◌, List, [], ◌∷◌, ◌++◌, replicate, length, take, drop, nat_eq, nat_le, Option, Some, refl, sym, ◌∙◌, ap, subst, eqb-true, eq-eqb, leb-true, le-leb, arith, ◌⊎◌, inl, inr}
use Rattle.std.specs.Prelude.{is_some, if◌then◌else◌}
use Rattle.std.specs.List.{filter, list_all}
use Rattle.std.specs.Option.{option_map_or}
use Rattle.std.proofs.lemmas.Bool.{false≢true}
use Rattle.std.proofs.lemmas.List.{length-replicate}
use Rattle.std.proofs.lemmas.Option.{same_Some, none-some}
use Rattle.graph.specs.declared.edges.HasValue.{HasValue}
use Rattle.graph.specs.declared.object.Object.{Object}
use Rattle.graph.specs.declared.object.Shape.{Shape}
use Rattle.graph.specs.declared.object.Shape.TheVariants.{Region as RegionShape}
use Rattle.graph.specs.declared.template.Node.{Node}
use Rattle.graph.specs.declared.value.Target.TheVariants.{Region, First, Last, Each}
use Rattle.graph.specs.declared.value.Value.{Value}
use Rattle.graph.specs.declared.value.Value.TheVariants.{Const, Number, Any, Address}
use Rattle.graph.specs.declared.parts.KeyedObject.{KeyedObject}
use Rattle.graph.specs.declared.parts.Parts.{Parts}
use Rattle.graph.specs.Maps.{object_at, value_at}
use Rattle.graph.specs.Nodes.{own_node, node_in, node_of}
use Rattle.graph.specs.Sizes.{value_size, value_class, is_zero}
use Rattle.graph.specs.WellFormed.{IsWellFormed, passes_at, has_value, may_stand_in, may_be_held, has_class_a_byte, says_nothing, lies_in, lies_before, are_in_order, edge_has_size, edge_has_class}
use Rattle.graph.specs.Whole.{IsGraph}
use Rattle.graph.proofs.Tests.{and_left, and_right, and_both, list_all-implies}
use Rattle.changes.specs.Ranges.{spliced, ends_before, begins_behind, is_inside, edges_around, with_range, edge_for, class_for, written_object}
use Rattle.changes.specs.Parts.{with_object}
use Rattle.changes.proofs.Splice.{length-spliced, range_beside, range_within}
use Rattle.changes.proofs.Node.{take_replicate}
use Rattle.changes.proofs.KeptForm.{IsFit, graph_kept}

-- what is kept passes a test that follows of those that are kept
pub all_kept : {X : Type 0} (p test other : X → Bool) → ((x : X) → p x ≡ true → test x ≡ true → other x ≡ true) → (xs : List X) → list_all test xs ≡ true → list_all other (filter p xs) ≡ true
all_kept p test other follows [] all = refl
all_kept p test other follows (x ∷ xs) all = by_test (p x) refl (all_kept p test other follows xs (and_right (test x) (list_all test xs) all))
  where
    by_test : (b : Bool) → p x ≡ b → list_all other (filter p xs) ≡ true → list_all other (if b then x ∷ filter p xs else filter p xs) ≡ true
    by_test true is later = and_both (other x) (list_all other (filter p xs)) (follows x is (and_left (test x) (list_all test xs) all)) later
    by_test false is later = later

pub all_append : {X : Type 0} (test : X → Bool) (xs ys : List X) → list_all test xs ≡ true → list_all test ys ≡ true → list_all test (xs ++ ys) ≡ true
all_append test [] ys one other = other
all_append test (x ∷ xs) ys one other = and_both (test x) (list_all test (xs ++ ys)) (and_left (test x) (list_all test xs) one) (all_append test xs ys (and_right (test x) (list_all test xs) one) other)

-- all that are kept have what they are kept for
pub all_filtered : {X : Type 0} (p : X → Bool) (xs : List X) → list_all p (filter p xs) ≡ true
all_filtered p [] = refl
all_filtered p (x ∷ xs) = by_test (p x) refl (all_filtered p xs)
  where
    by_test : (b : Bool) → p x ≡ b → list_all p (filter p xs) ≡ true → list_all p (if b then x ∷ filter p xs else filter p xs) ≡ true
    by_test true is later = and_both (p x) (list_all p (filter p xs)) is later
    by_test false is later = later

-- Order.

order_kept : (p : HasValue → Bool) (edges : List HasValue) → are_in_order edges ≡ true → are_in_order (filter p edges) ≡ true
order_kept p [] order = refl
order_kept p (edge ∷ rest) order = by_test (p edge) (order_kept p rest (and_right (list_all (lies_before edge) rest) (are_in_order rest) order))
  where
    by_test : (b : Bool) → are_in_order (filter p rest) ≡ true → are_in_order (if b then edge ∷ filter p rest else filter p rest) ≡ true
    by_test true later = and_both (list_all (lies_before edge) (filter p rest)) (are_in_order (filter p rest))
        (all_kept p (lies_before edge) (lies_before edge) (λ other is before. before) rest (and_left (list_all (lies_before edge) rest) (are_in_order rest) order)) later
    by_test false later = later

-- edges that end before a bound, and then such as begin behind it
order_split : (bound : ℕ) (one other : List HasValue) → are_in_order one ≡ true → are_in_order other ≡ true → list_all (ends_before bound) one ≡ true → list_all (begins_behind bound) other ≡ true → are_in_order (one ++ other) ≡ true
order_split bound [] other in_one in_other before behind = in_other
order_split bound (edge ∷ rest) other in_one in_other before behind =
    and_both (list_all (lies_before edge) (rest ++ other)) (are_in_order (rest ++ other))
    (all_append (lies_before edge) rest other (and_left (list_all (lies_before edge) rest) (are_in_order rest) in_one)
    (list_all-implies (begins_behind bound) (lies_before edge) (λ found is. let b = leb-true _ _ is in let e = leb-true _ _ (and_left (ends_before bound edge) (list_all (ends_before bound) rest) before) in le-leb _ _ (omega arith)) other behind))
    (order_split bound rest other (and_right (list_all (lies_before edge) rest) (are_in_order rest) in_one) in_other (and_right (ends_before bound edge) (list_all (ends_before bound) rest) before) behind)

-- what is asked of edges and classes in a range of the region with a key
pub record IsRangeFit (parts : Parts) (key from count : ℕ) (inside : List HasValue) (classes : List ℕ) : Type 0 where
  pub many : length classes ≡ count
  pub holds : list_all (λ edge. has_value parts edge.value) inside ≡ true
  pub home : list_all (λ edge. passes_at parts (may_stand_in key) edge.value) inside ≡ true
  pub lie : list_all (is_inside from count) inside ≡ true
  pub order : are_in_order inside ≡ true
  pub sizes : list_all (edge_has_size parts) inside ≡ true
  pub fits : list_all (λ edge. passes_at parts (λ value. list_all (nat_eq (value_class value)) (take edge.size (drop (edge.at - from) classes))) edge.value) inside ≡ true
  pub nonzero : list_all (λ edge. passes_at parts (λ value. not (is_zero value)) edge.value) inside ≡ true

module _ (parts : Parts) (form : IsWellFormed parts) (key : ℕ) (object : Object) (stands : object_at parts.objects key ≡ Some object) (region : object.shape ≡ RegionShape) (live : object.live ≡ true) where
  node_is : node_of object ≡ own_node object
  node_is = ap (λ (shape : Shape). node_in shape (own_node object)) region

  pub each : (test : ℕ → Object → Bool) → list_all (λ (entry : KeyedObject). test entry.key entry.object) parts.objects ≡ true → test key object ≡ true
  each test all = keyed parts.objects all stands
    where
      keyed : (entries : List KeyedObject) → list_all (λ (entry : KeyedObject). test entry.key entry.object) entries ≡ true → object_at entries key ≡ Some object → test key object ≡ true
      keyed [] all stands = absurd (none-some object stands)
      keyed (first ∷ rest) all stands = by_key (nat_eq first.key key) refl stands (λ later. keyed rest (and_right (test first.key first.object) (list_all (λ (entry : KeyedObject). test entry.key entry.object) rest) all) later)
        where
          by_key : (b : Bool) → nat_eq first.key key ≡ b → (if b then Some first.object else object_at rest key) ≡ Some object → (object_at rest key ≡ Some object → test key object ≡ true) → test key object ≡ true
          by_key true is same later =
              ap (λ (k : ℕ). test k object) (sym (eqb-true _ _ is)) ∙ ap (test first.key) (sym (same_Some _ _ same)) ∙ and_left (test first.key first.object) (list_all (λ (entry : KeyedObject). test entry.key entry.object) rest) all
          by_key false is same later = later same

  -- the region's own edges and plane are as asked
  pub fit_now : IsFit parts key object
  fit_now = record {
    holds = own (λ node. list_all (λ edge. has_value parts edge.value) node.edges ≡ true) (each (λ at object. list_all (λ edge. has_value parts edge.value) (node_of object).edges) form.edges_hold_values);
    home = own (λ node. list_all (λ edge. passes_at parts (may_stand_in key) edge.value) node.edges ≡ true) (each (λ at object. list_all (λ edge. passes_at parts (may_stand_in at) edge.value) (node_of object).edges) form.edges_are_at_home);
    small = each (λ at object. nat_le object.size 65536) form.objects_are_small;
    long = own (λ node. (not object.live || nat_eq (length node.plane) object.size) ≡ true) (each (λ at object. has_class_a_byte object) form.planes_are_as_long);
    bare = ap (λ (b : Bool). b || says_nothing object.edges object.plane) live;
    inside = own (λ node. list_all (lies_in object.size) node.edges ≡ true) (each (λ at object. list_all (lies_in object.size) (node_of object).edges) form.edges_lie_inside);
    order = own (λ node. are_in_order node.edges ≡ true) (each (λ at object. are_in_order (node_of object).edges) form.edges_are_in_order);
    sizes = own (λ node. list_all (edge_has_size parts) node.edges ≡ true) (each (λ at object. list_all (edge_has_size parts) (node_of object).edges) form.edges_have_their_sizes);
    classes = own (λ node. list_all (edge_has_class parts node.plane) node.edges ≡ true) (each (λ at object. list_all (edge_has_class parts (node_of object).plane) (node_of object).edges) form.edges_have_their_classes);
    nonzero = own (λ node. list_all (λ edge. passes_at parts (λ value. not (is_zero value)) edge.value) node.edges ≡ true)
        (each (λ at object. list_all (λ edge. passes_at parts (λ value. not (is_zero value)) edge.value) (node_of object).edges) form.edges_are_not_zero);
  }
    where
      own : (P : Node → Type 0) → P (node_of object) → P (own_node object)
      own P has = subst P node_is has

  pub plane_long : length object.plane ≡ object.size
  plane_long = eqb-true _ _ (ap (λ (b : Bool). not b || nat_eq (length object.plane) object.size) (sym live) ∙ fit_now.long)

  -- other edges and classes in a range
  pub range_fit : (from count : ℕ) (inside : List HasValue) (classes : List ℕ) → from + count ≤ object.size → IsRangeFit parts key from count inside classes → IsFit parts key (with_range object from count inside classes)
  range_fit from count inside classes room fit = record {
    holds = around (λ edge. has_value parts edge.value) fit_now.holds fit.holds;
    home = around (λ edge. passes_at parts (may_stand_in key) edge.value) fit_now.home fit.home;
    small = fit_now.small;
    long = ap (λ (n : ℕ). not object.live || nat_eq n object.size) (length-spliced object.plane from classes room_plane 0) ∙ fit_now.long;
    bare = ap (λ (b : Bool). b || says_nothing (edges_around object.edges from count inside) (spliced object.plane from classes)) live;
    inside = around (lies_in object.size) fit_now.inside
        (list_all-implies (is_inside from count) (lies_in object.size) (λ edge is. let high = leb-true _ _ (and_right (nat_le from edge.at) (nat_le (edge.at + edge.size) (from + count)) is) in le-leb _ _ (omega arith)) inside fit.lie);
    order = order_split from (filter (ends_before from) object.edges) (inside ++ filter (begins_behind (from + count)) object.edges)
        (order_kept (ends_before from) object.edges fit_now.order)
        (order_split (from + count) inside (filter (begins_behind (from + count)) object.edges) fit.order (order_kept (begins_behind (from + count)) object.edges fit_now.order)
        (list_all-implies (is_inside from count) (ends_before (from + count)) (λ edge is. and_right (nat_le from edge.at) (nat_le (edge.at + edge.size) (from + count)) is) inside fit.lie)
        (all_filtered (begins_behind (from + count)) object.edges))
        (all_filtered (ends_before from) object.edges)
        (all_append (begins_behind from) inside (filter (begins_behind (from + count)) object.edges)
        (list_all-implies (is_inside from count) (begins_behind from) (λ edge is. and_left (nat_le from edge.at) (nat_le (edge.at + edge.size) (from + count)) is) inside fit.lie)
        (list_all-implies (begins_behind (from + count)) (begins_behind from) (λ edge is. let b = leb-true _ _ is in le-leb _ _ (omega arith)) (filter (begins_behind (from + count)) object.edges) (all_filtered (begins_behind (from + count)) object.edges)));
    sizes = around (edge_has_size parts) fit_now.sizes fit.sizes;
    classes = all_append (edge_has_class parts (spliced object.plane from classes)) (filter (ends_before from) object.edges) (inside ++ filter (begins_behind (from + count)) object.edges)
        (beside (ends_before from) (λ edge is. inl (leb-true _ _ is)))
        (all_append (edge_has_class parts (spliced object.plane from classes)) inside (filter (begins_behind (from + count)) object.edges)
        within
        (beside (begins_behind (from + count)) (λ edge is. inr (leb-true _ _ is))));
    nonzero = around (λ edge. passes_at parts (λ value. not (is_zero value)) edge.value) fit_now.nonzero fit.nonzero;
  }
    where
      around : (test : HasValue → Bool) → list_all test object.edges ≡ true → list_all test inside ≡ true → list_all test (edges_around object.edges from count inside) ≡ true
      around test old new =
          all_append test (filter (ends_before from) object.edges) (inside ++ filter (begins_behind (from + count)) object.edges) (all_kept (ends_before from) test test (λ edge is has. has) object.edges old)
          (all_append test inside (filter (begins_behind (from + count)) object.edges) new (all_kept (begins_behind (from + count)) test test (λ edge is has. has) object.edges old))

      room_plane : from + length classes ≤ length object.plane
      room_plane = let a = plane_long in let b = fit.many in omega arith

      same_class : (edge : HasValue) (one other : List ℕ) → take edge.size (drop edge.at one) ≡ other → edge_has_class parts one edge ≡ passes_at parts (λ value. list_all (nat_eq (value_class value)) other) edge.value
      same_class edge one other is = ap (λ (range : List ℕ). passes_at parts (λ value. list_all (nat_eq (value_class value)) range) edge.value) is

      beside : (p : HasValue → Bool) → ((edge : HasValue) → p edge ≡ true → (edge.at + edge.size ≤ from) ⊎ (from + count ≤ edge.at)) → list_all (edge_has_class parts (spliced object.plane from classes)) (filter p object.edges) ≡ true
      beside p where_is = all_kept p (λ edge. edge_has_class parts object.plane edge && lies_in object.size edge) (edge_has_class parts (spliced object.plane from classes))
          (λ edge is both.
          let lies = leb-true _ _ (and_right (edge_has_class parts object.plane edge) (lies_in object.size edge) both) in
          let long = plane_long in
          same_class edge (spliced object.plane from classes) (take edge.size (drop edge.at object.plane))
          (range_beside object.plane from classes room_plane 0 edge.at edge.size (omega arith) (subst (λ (n : ℕ). (edge.at + edge.size ≤ from) ⊎ (from + n ≤ edge.at)) (sym fit.many) (where_is edge is)))
          ∙ and_left (edge_has_class parts object.plane edge) (lies_in object.size edge) both)
          object.edges (both_pass (edge_has_class parts object.plane) (lies_in object.size) object.edges fit_now.classes fit_now.inside)
        where
          both_pass : (one other : HasValue → Bool) (edges : List HasValue) → list_all one edges ≡ true → list_all other edges ≡ true → list_all (λ edge. one edge && other edge) edges ≡ true
          both_pass one other [] a b = refl
          both_pass one other (edge ∷ rest) a b =
              and_both (one edge && other edge) (list_all (λ edge. one edge && other edge) rest)
              (and_both (one edge) (other edge) (and_left (one edge) (list_all one rest) a) (and_left (other edge) (list_all other rest) b))
              (both_pass one other rest (and_right (one edge) (list_all one rest) a) (and_right (other edge) (list_all other rest) b))

      within : list_all (edge_has_class parts (spliced object.plane from classes)) inside ≡ true
      within = each_within inside fit.lie fit.fits
        where
          each_within : (edges : List HasValue) → list_all (is_inside from count) edges ≡ true →
              list_all (λ edge. passes_at parts (λ value. list_all (nat_eq (value_class value)) (take edge.size (drop (edge.at - from) classes))) edge.value) edges ≡ true →
              list_all (edge_has_class parts (spliced object.plane from classes)) edges ≡ true
          each_within [] lie has = refl
          each_within (edge ∷ rest) lie has =
              let is = and_left (is_inside from count edge) (list_all (is_inside from count) rest) lie in
              let low = leb-true _ _ (and_left (nat_le from edge.at) (nat_le (edge.at + edge.size) (from + count)) is) in
              let high = leb-true _ _ (and_right (nat_le from edge.at) (nat_le (edge.at + edge.size) (from + count)) is) in
              and_both (edge_has_class parts (spliced object.plane from classes) edge) (list_all (edge_has_class parts (spliced object.plane from classes)) rest)
              (same_class edge (spliced object.plane from classes) (take edge.size (drop (edge.at - from) classes))
              (range_within object.plane from classes room_plane 0 edge.at edge.size low (let m = fit.many in omega arith))
              ∙ and_left (passes_at parts (λ value. list_all (nat_eq (value_class value)) (take edge.size (drop (edge.at - from) classes))) edge.value)
              (list_all (λ edge. passes_at parts (λ value. list_all (nat_eq (value_class value)) (take edge.size (drop (edge.at - from) classes))) edge.value) rest) has)
              (each_within rest (and_right (is_inside from count edge) (list_all (is_inside from count) rest) lie)
              (and_right (passes_at parts (λ value. list_all (nat_eq (value_class value)) (take edge.size (drop (edge.at - from) classes))) edge.value)
              (list_all (λ edge. passes_at parts (λ value. list_all (nat_eq (value_class value)) (take edge.size (drop (edge.at - from) classes))) edge.value) rest) has))

-- a value that a register may hold may stand in any region
pub may_stand : (key : ℕ) (value : Value) → may_be_held value ≡ true → may_stand_in key value ≡ true
may_stand key (Const number size) held = refl
may_stand key (Number size) held = refl
may_stand key Any held = refl
may_stand key (Address object offset Region) held = refl
may_stand key (Address object offset First) held = refl
may_stand key (Address object offset Last) held = refl
may_stand key (Address object offset Each) held = absurd (false≢true held)

-- a value may be written in a range as wide as it
pub written_fit : (parts : Parts) (key : ℕ) (edge : HasValue) (value : Value) → value_at parts.values edge.value ≡ Some value → value_size value ≡ edge.size → may_be_held value ≡ true →
    IsRangeFit parts key edge.at edge.size (edge_for value edge) (replicate edge.size (class_for value))
written_fit parts key edge value is sized held = record {
  many = length-replicate edge.size (class_for value);
  holds = passes (λ edge. has_value parts edge.value) (λ some. ap is_some is);
  home = passes (λ edge. passes_at parts (may_stand_in key) edge.value) (λ some. on (may_stand_in key) (may_stand key value held));
  lie = passes (is_inside edge.at edge.size) (λ some. and_both (nat_le edge.at edge.at) (nat_le (edge.at + edge.size) (edge.at + edge.size)) (le-leb _ _ (omega arith)) (le-leb _ _ (omega arith)));
  order = order_one (is_zero value);
  sizes = passes (edge_has_size parts) (λ some. on (λ value. nat_eq (value_size value) edge.size) (eq-eqb _ _ sized));
  fits = passes (λ edge'. passes_at parts (λ value. list_all (nat_eq (value_class value)) (take edge'.size (drop (edge'.at - edge.at) (replicate edge.size (class_for written))))) edge'.value)
      (λ some. on (λ value. list_all (nat_eq (value_class value)) (take edge.size (drop (edge.at - edge.at) (replicate edge.size (class_for written))))) (classes_fit some));
  nonzero = passes (λ edge. passes_at parts (λ value. not (is_zero value)) edge.value) (λ some. on (λ value. not (is_zero value)) (ap not some));
}
  where
    written : Value
    written = value

    passes : (test : HasValue → Bool) → (is_zero value ≡ false → test edge ≡ true) → list_all test (edge_for value edge) ≡ true
    passes test has = by_zero (is_zero value) refl
      where
        by_zero : (b : Bool) → is_zero value ≡ b → list_all test (if b then [] else edge ∷ []) ≡ true
        by_zero true is_one = refl
        by_zero false some = and_both (test edge) true (has some) refl

    on : (test : Value → Bool) → test value ≡ true → passes_at parts test edge.value ≡ true
    on test has = ap (λ (o : Option Value). option_map_or test o false) is ∙ has

    order_one : (b : Bool) → are_in_order (if b then [] else edge ∷ []) ≡ true
    order_one true = refl
    order_one false = refl

    classes_fit : is_zero value ≡ false → list_all (nat_eq (value_class value)) (take edge.size (drop (edge.at - edge.at) (replicate edge.size (class_for value)))) ≡ true
    classes_fit some =
        ap (λ (n : ℕ). list_all (nat_eq (value_class value)) (take edge.size (drop n (replicate edge.size (class_for value))))) (let e : edge.at - edge.at ≡ 0 = omega arith in e)
        ∙ ap (list_all (nat_eq (value_class value))) (ap (λ (n : ℕ). take edge.size (replicate n (class_for value))) (let e : edge.size ≡ edge.size + 0 = omega arith in e) ∙ take_replicate edge.size 0 (class_for value))
        ∙ ap (λ (b : Bool). list_all (nat_eq (value_class value)) (replicate edge.size (if b then 0 else value_class value))) some
        ∙ all_own edge.size (value_class value)
      where
        all_own : (n class : ℕ) → list_all (nat_eq class) (replicate n class) ≡ true
        all_own zero class = refl
        all_own (suc n) class = and_both (nat_eq class class) (list_all (nat_eq class) (replicate n class)) (eq-eqb class class refl) (all_own n class)

-- a graph with a value written into a live region is a graph
pub graph_written : (parts : Parts) (key : ℕ) (object : Object) (edge : HasValue) (value : Value) → IsGraph parts → object_at parts.objects key ≡ Some object → object.shape ≡ RegionShape → object.live ≡ true →
    edge.at + edge.size ≤ object.size → value_at parts.values edge.value ≡ Some value → value_size value ≡ edge.size → may_be_held value ≡ true → IsGraph (with_object key (written_object object edge value) parts)
graph_written parts key object edge value graph stands region live room is sized held =
    graph_kept parts key object (written_object object edge value) stands region region refl graph
    (range_fit parts graph.well_formed key object stands region live edge.at edge.size (edge_for value edge) (replicate edge.size (class_for value)) room (written_fit parts key edge value is sized held))
