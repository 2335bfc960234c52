-- Edges and a plane with a link more.
use Rattle.std.proofs.Common.{◌≡◌, ℕ, ◌+◌, ◌≤◌, Bool, true, false, not, ◌||◌, ◌&&◌, List, [], ◌∷◌, ◌++◌, length, take, drop, replicate, nat_eq, nat_le, nat_lt, Option, Some, refl, sym, ◌∙◌, ap, subst, leb-true, le-leb, ltb-true, eq-eqb, ◌⊎◌, inl, inr, arith}
use Rattle.std.specs.Prelude.{is_some, if◌then◌else◌}
use Rattle.std.specs.List.{filter, list_all}
use Rattle.std.specs.Option.{option_map_or}
use Rattle.planes.specs.Classes.{filled}
use Rattle.graph.specs.declared.edges.HasValue.{HasValue}
use Rattle.graph.specs.declared.template.Node.{Node}
use Rattle.graph.specs.declared.value.Value.{Value}
use Rattle.graph.specs.declared.value.Value.TheVariants.{Any}
use Rattle.graph.specs.declared.parts.Parts.{Parts}
use Rattle.graph.specs.Maps.{value_at}
use Rattle.graph.specs.Sizes.{value_size, value_class, is_zero}
use Rattle.graph.specs.WellFormed.{passes_at, has_value, may_stand_in, edge_has_size, lies_in, lies_before, are_in_order, edge_has_class, share_no_byte}
use Rattle.graph.proofs.Tests.{and_left, and_right, and_both, list_all-implies}
use Rattle.changes.specs.Ranges.{class_for}
use Rattle.changes.proofs.RangeForm.{all_kept, all_append, all_filtered}
use Rattle.materialise.specs.SplitFirst.{with_edge, with_link}
use Rattle.materialise.proofs.Case.{all_both}
use Rattle.materialise.proofs.Form.{order_kept, all_replicate}
use Rattle.materialise.proofs.Planes.{filled-length, filled-under, filled-beside}

-- what all edges pass, and one more
pub all_with_edge : (test : HasValue → Bool) (edge : HasValue) (edges : List HasValue) → test edge ≡ true → list_all test edges ≡ true → list_all test (with_edge edge edges) ≡ true
all_with_edge test edge edges here all =
    all_append test (filter (λ other. nat_lt other.at edge.at) edges) (edge ∷ filter (λ other. nat_lt edge.at other.at) edges)
    (all_kept (λ (other : HasValue). nat_lt other.at edge.at) test test (λ other is has. has) edges all)
    (and_both (test edge) (list_all test (filter (λ other. nat_lt edge.at other.at) edges)) here (all_kept (λ (other : HasValue). nat_lt edge.at other.at) test test (λ other is has. has) edges all))

-- ranges that share no byte
pub sides : (one other : HasValue) → share_no_byte one other ≡ true → (one.at + one.size ≤ other.at) ⊎ (other.at + other.size ≤ one.at)
sides one other apart = by_side (nat_le (one.at + one.size) other.at) refl apart
  where
    by_side : (b : Bool) → nat_le (one.at + one.size) other.at ≡ b → (b || nat_le (other.at + other.size) one.at) ≡ true → (one.at + one.size ≤ other.at) ⊎ (other.at + other.size ≤ one.at)
    by_side true is any = inl (leb-true _ _ is)
    by_side false is any = inr (leb-true _ _ any)

abbrev ends_low : ℕ → HasValue → Bool
ends_low bound edge = nat_le (edge.at + edge.size) bound

abbrev begins_high : ℕ → HasValue → Bool
begins_high bound edge = nat_le bound edge.at

-- edges that end before a bound, and then such as begin behind it
order_joined : (bound : ℕ) (one other : List HasValue) → are_in_order one ≡ true → are_in_order other ≡ true → list_all (ends_low bound) one ≡ true → list_all (begins_high bound) other ≡ true → are_in_order (one ++ other) ≡ true
order_joined bound [] other in_one in_other before behind = in_other
order_joined bound (edge ∷ rest) other in_one in_other before behind =
    and_both (list_all (lies_before edge) (rest ++ other)) (are_in_order (rest ++ other))
    (all_append (lies_before edge) rest other (and_left (list_all (lies_before edge) rest) (are_in_order rest) in_one)
    (list_all-implies (begins_high bound) (lies_before edge) (λ found is. let b = leb-true bound found.at is in let e = leb-true (edge.at + edge.size) bound (and_left (ends_low bound edge) (list_all (ends_low bound) rest) before) in le-leb _ _ (omega arith)) other behind))
    (order_joined bound rest other (and_right (list_all (lies_before edge) rest) (are_in_order rest) in_one) in_other (and_right (ends_low bound edge) (list_all (ends_low bound) rest) before) behind)

-- an edge more that shares no byte with the others
pub order_with_edge : (edge : HasValue) (edges : List HasValue) → are_in_order edges ≡ true → list_all (share_no_byte edge) edges ≡ true → are_in_order (with_edge edge edges) ≡ true
order_with_edge edge edges order apart =
    order_joined edge.at low (edge ∷ high) (order_kept (λ at. Any) (λ (other : HasValue). nat_lt other.at edge.at) edges order)
    (and_both (list_all (lies_before edge) high) (are_in_order high) (all_kept (λ (other : HasValue). nat_lt edge.at other.at) (share_no_byte edge) (lies_before edge) behind edges apart)
    (order_kept (λ at. Any) (λ (other : HasValue). nat_lt edge.at other.at) edges order))
    (all_kept (λ (other : HasValue). nat_lt other.at edge.at) (share_no_byte edge) (ends_low edge.at) before edges apart)
    (and_both (begins_high edge.at edge) (list_all (begins_high edge.at) high) (le-leb _ _ (omega arith))
    (list_all-implies (λ (other : HasValue). nat_lt edge.at other.at) (begins_high edge.at) (λ other is. let b = ltb-true edge.at other.at is in le-leb _ _ (omega arith)) high (all_filtered (λ (other : HasValue). nat_lt edge.at other.at) edges)))
  where
    low : List HasValue
    low = filter (λ other. nat_lt other.at edge.at) edges

    high : List HasValue
    high = filter (λ other. nat_lt edge.at other.at) edges

    behind : (other : HasValue) → nat_lt edge.at other.at ≡ true → share_no_byte edge other ≡ true → lies_before edge other ≡ true
    behind other is none = by_side (sides edge other none)
      where
        by_side : (edge.at + edge.size ≤ other.at) ⊎ (other.at + other.size ≤ edge.at) → lies_before edge other ≡ true
        by_side (inl under) = le-leb _ _ under
        by_side (inr over) = let b = ltb-true edge.at other.at is in absurd (omega arith)

    before : (other : HasValue) → nat_lt other.at edge.at ≡ true → share_no_byte edge other ≡ true → ends_low edge.at other ≡ true
    before other is none = by_side (sides edge other none)
      where
        by_side : (edge.at + edge.size ≤ other.at) ⊎ (other.at + other.size ≤ edge.at) → ends_low edge.at other ≡ true
        by_side (inl under) = let b = ltb-true other.at edge.at is in absurd (omega arith)
        by_side (inr over) = le-leb _ _ over

-- What is asked of a node.

pub record IsNodeFit (parts : Parts) (home size : ℕ) (node : Node) : Type 0 where
  pub holds : list_all (λ edge. has_value parts edge.value) node.edges ≡ true
  pub homes : list_all (λ edge. passes_at parts (may_stand_in home) edge.value) node.edges ≡ true
  pub long : length node.plane ≡ size
  pub inside : list_all (lies_in size) node.edges ≡ true
  pub order : are_in_order node.edges ≡ true
  pub sizes : list_all (edge_has_size parts) node.edges ≡ true
  pub classes : list_all (edge_has_class parts node.plane) node.edges ≡ true
  pub nonzero : list_all (λ edge. passes_at parts (λ value. not (is_zero value)) edge.value) node.edges ≡ true

-- a link more, to a value that is there
module _ (parts : Parts) (home size : ℕ) (node : Node) (fit : IsNodeFit parts home size node) (value : Value) (link : HasValue)
    (there : value_at parts.values link.value ≡ Some value) (sized : value_size value ≡ link.size) (inside : lies_in size link ≡ true) (apart : list_all (share_no_byte link) node.edges ≡ true) (stands : may_stand_in home value ≡ true) where
  passes : (test : Value → Bool) → passes_at parts test link.value ≡ test value
  passes test = ap (λ (o : Option Value). option_map_or test o false) there

  pub all_linked : (test : HasValue → Bool) → test link ≡ true → list_all test node.edges ≡ true → list_all test (with_link value link node).edges ≡ true
  all_linked test here all = by_zero (is_zero value)
    where
      by_zero : (b : Bool) → list_all test (if b then node.edges else with_edge link node.edges) ≡ true
      by_zero true = all
      by_zero false = all_with_edge test link node.edges here all

  room : link.at + link.size ≤ length node.plane
  room = subst (λ (n : ℕ). link.at + link.size ≤ n) (sym fit.long) (leb-true _ _ inside)

  abbrev plane : List ℕ
  plane = filled node.plane link.at link.size (class_for value)

  still : (edge : HasValue) → (edge_has_class parts node.plane edge && (lies_in size edge && share_no_byte link edge)) ≡ true → edge_has_class parts plane edge ≡ true
  still edge all =
      let other = and_right (edge_has_class parts node.plane edge) (lies_in size edge && share_no_byte link edge) all in
      let within : edge.at + edge.size ≤ length node.plane = subst (λ (n : ℕ). edge.at + edge.size ≤ n) (sym fit.long) (leb-true _ _ (and_left (lies_in size edge) (share_no_byte link edge) other)) in
      ap (λ (range : List ℕ). passes_at parts (λ v. list_all (nat_eq (value_class v)) range) edge.value)
      (filled-beside node.plane link.at link.size (class_for value) edge.at edge.size room within (turn (sides link edge (and_right (lies_in size edge) (share_no_byte link edge) other))))
      ∙ and_left (edge_has_class parts node.plane edge) (lies_in size edge && share_no_byte link edge) all
    where
      turn : (link.at + link.size ≤ edge.at) ⊎ (edge.at + edge.size ≤ link.at) → (edge.at + edge.size ≤ link.at) ⊎ (link.at + link.size ≤ edge.at)
      turn (inl low) = inr low
      turn (inr high) = inl high

  all_still : list_all (edge_has_class parts plane) node.edges ≡ true
  all_still = list_all-implies (λ edge. edge_has_class parts node.plane edge && (lies_in size edge && share_no_byte link edge)) (edge_has_class parts plane) still node.edges
      (all_both (edge_has_class parts node.plane) (λ edge. lies_in size edge && share_no_byte link edge) node.edges fit.classes (all_both (lies_in size) (share_no_byte link) node.edges fit.inside apart))

  by_classes : (b : Bool) → is_zero value ≡ b → list_all (edge_has_class parts plane) (if b then node.edges else with_edge link node.edges) ≡ true
  by_classes true is = all_still
  by_classes false is = all_with_edge (edge_has_class parts plane) link node.edges
      (passes (λ v. list_all (nat_eq (value_class v)) (take link.size (drop link.at plane)))
      ∙ ap (list_all (nat_eq (value_class value))) (filled-under node.plane link.at link.size (class_for value) room ∙ ap (λ (b : Bool). replicate link.size (if b then 0 else value_class value)) is)
      ∙ all_replicate (value_class value) link.size) all_still

  by_order : (b : Bool) → are_in_order (if b then node.edges else with_edge link node.edges) ≡ true
  by_order true = fit.order
  by_order false = order_with_edge link node.edges fit.order apart

  by_nonzero : (b : Bool) → is_zero value ≡ b → list_all (λ edge. passes_at parts (λ v. not (is_zero v)) edge.value) (if b then node.edges else with_edge link node.edges) ≡ true
  by_nonzero true is = fit.nonzero
  by_nonzero false is = all_with_edge (λ edge. passes_at parts (λ v. not (is_zero v)) edge.value) link node.edges (passes (λ v. not (is_zero v)) ∙ ap not is) fit.nonzero

  pub link_fit : IsNodeFit parts home size (with_link value link node)
  link_fit = record {
    holds = all_linked (λ edge. has_value parts edge.value) (ap is_some there) fit.holds;
    homes = all_linked (λ edge. passes_at parts (may_stand_in home) edge.value) (passes (may_stand_in home) ∙ stands) fit.homes;
    long = filled-length node.plane link.at link.size (class_for value) room ∙ fit.long;
    inside = all_linked (lies_in size) inside fit.inside;
    order = by_order (is_zero value);
    sizes = all_linked (edge_has_size parts) (passes (λ v. nat_eq (value_size v) link.size) ∙ eq-eqb _ _ sized) fit.sizes;
    classes = by_classes (is_zero value) refl;
    nonzero = by_nonzero (is_zero value) refl;
  }
