-- Planes in which the bytes of edges have the classes of what their values become.
use Rattle.std.proofs.Common.{◌≡◌, ℕ, zero, suc, ◌+◌, ◌≤◌, Bool, true, false, ◌||◌, List, [], ◌∷◌, ◌++◌, length, take, drop, replicate, nat_le, refl, sym, ◌∙◌, ap, subst, leb-true, ◌⊎◌, inl, inr, arith}
use Rattle.std.specs.List.{list_all}
use Rattle.std.proofs.lemmas.List.{length-replicate}
use Rattle.planes.specs.Classes.{filled}
use Rattle.bytes_core.specs.declared.byte.Byte.{Byte}
use Rattle.bytes_core.specs.declared.byte.Byte.TheVariants.{Num, Part}
use Rattle.graph.specs.declared.edges.HasValue.{HasValue}
use Rattle.graph.specs.declared.value.Value.{Value}
use Rattle.graph.specs.Meaning.{HasClass, HaveClasses}
use Rattle.graph.specs.WellFormed.{lies_in, lies_before, are_in_order, share_no_byte}
use Rattle.graph.proofs.Tests.{and_left, and_right, list_all-implies}
use Rattle.changes.specs.Ranges.{class_for}
use Rattle.changes.proofs.Node.{filled_spliced}
use Rattle.changes.proofs.NodeBack.{zero_has, range_stands}
use Rattle.changes.proofs.Splice.{length-spliced, range_beside}
use Rattle.materialise.specs.Dropped.{plane_now}

-- it holds of each edge
abbrev pub AllEdges : (HasValue → Type 0) → List HasValue → Type 0
AllEdges P [] = Unit {0}
AllEdges P (edge ∷ rest) = P edge × AllEdges P rest

pub all_edges : (P : HasValue → Type 0) (test : HasValue → Bool) → ((edge : HasValue) → test edge ≡ true → P edge) → (edges : List HasValue) → list_all test edges ≡ true → AllEdges P edges
all_edges P test implies [] all = tt
all_edges P test implies (edge ∷ rest) all = (implies edge (and_left (test edge) (list_all test rest) all), all_edges P test implies rest (and_right (test edge) (list_all test rest) all))

pub edges_imply : (P Q : HasValue → Type 0) → ((edge : HasValue) → P edge → Q edge) → (edges : List HasValue) → AllEdges P edges → AllEdges Q edges
edges_imply P Q implies [] all = tt
edges_imply P Q implies (edge ∷ rest) all = (implies edge all.0, edges_imply P Q implies rest all.1)

pub edges_both : (P Q : HasValue → Type 0) → (edges : List HasValue) → AllEdges P edges → AllEdges Q edges → AllEdges (λ edge. P edge × Q edge) edges
edges_both P Q [] one other = tt
edges_both P Q (edge ∷ rest) one other = ((one.0, other.0), edges_both P Q rest one.1 other.1)

-- One range of one class.

room_for : (plane : List ℕ) (at size class : ℕ) → at + size ≤ length plane → at + length (replicate {A = ℕ} size class) ≤ length plane
room_for plane at size class room = let e : length (replicate {A = ℕ} size class) ≡ size = length-replicate size class in omega arith

pub filled-length : (plane : List ℕ) (at size class : ℕ) → at + size ≤ length plane → length (filled plane at size class) ≡ length plane
filled-length plane at size class room = ap length (filled_spliced plane at size class) ∙ length-spliced plane at (replicate size class) (room_for plane at size class room) 0

pub filled-under : (plane : List ℕ) (at size class : ℕ) → at + size ≤ length plane → take size (drop at (filled plane at size class)) ≡ replicate size class
filled-under plane at size class room = ap (λ (classes : List ℕ). take size (drop at classes)) (filled_spliced plane at size class) ∙ range_stands plane at size class room

pub filled-beside : (plane : List ℕ) (at size class from count : ℕ) → at + size ≤ length plane → from + count ≤ length plane → (from + count ≤ at) ⊎ (at + size ≤ from) →
    take count (drop from (filled plane at size class)) ≡ take count (drop from plane)
filled-beside plane at size class from count room within beside =
    ap (λ (classes : List ℕ). take count (drop from classes)) (filled_spliced plane at size class)
    ∙ range_beside plane at (replicate size class) (room_for plane at size class room) 0 from count within (by_side beside)
  where
    by_side : (from + count ≤ at) ⊎ (at + size ≤ from) → (from + count ≤ at) ⊎ (at + length (replicate {A = ℕ} size class) ≤ from)
    by_side (inl low) = inl low
    by_side (inr high) = inr (let e : length (replicate {A = ℕ} size class) ≡ size = length-replicate size class in omega arith)

-- Classes that are no higher than others.

abbrev pub NoHigher : List ℕ → List ℕ → Type 0
NoHigher [] [] = Unit {0}
NoHigher [] (class ∷ rest) = ⊥
NoHigher (class ∷ rest) [] = ⊥
NoHigher (class ∷ rest) (other ∷ others) = (class ≤ other) × NoHigher rest others

class_higher : (class other : ℕ) (byte : Byte) → class ≤ other → HasClass class byte → HasClass other byte
class_higher zero other (Num number) below has = subst (λ (n : ℕ). HasClass other (Num n)) (sym has) (zero_has other)
class_higher zero other (Part block offset k) below has = absurd has
class_higher (suc zero) zero byte below has = absurd (omega arith)
class_higher (suc zero) (suc zero) byte below has = has
class_higher (suc zero) (suc (suc other)) byte below has = tt
class_higher (suc (suc class)) zero byte below has = absurd (omega arith)
class_higher (suc (suc class)) (suc zero) byte below has = absurd (omega arith)
class_higher (suc (suc class)) (suc (suc other)) byte below has = tt

no_higher_has : (one other : List ℕ) (bytes : List Byte) → NoHigher one other → HaveClasses one bytes → HaveClasses other bytes
no_higher_has [] [] bytes lower has = has
no_higher_has [] (class ∷ rest) bytes lower has = absurd lower
no_higher_has (class ∷ rest) [] bytes lower has = absurd lower
no_higher_has (class ∷ rest) (other ∷ others) [] lower has = absurd has
no_higher_has (class ∷ rest) (other ∷ others) (byte ∷ bytes) lower has = (class_higher class other byte lower.0 has.0, no_higher_has rest others bytes lower.1 has.1)

no_higher_own : (plane : List ℕ) → NoHigher plane plane
no_higher_own [] = tt
no_higher_own (class ∷ rest) = (omega arith, no_higher_own rest)

no_higher_front : (size class : ℕ) (plane : List ℕ) → size ≤ length plane → list_all (nat_le class) (take size plane) ≡ true → NoHigher (replicate size class ++ drop size plane) plane
no_higher_front zero class plane room low = no_higher_own plane
no_higher_front (suc size) class [] room low = absurd (omega arith)
no_higher_front (suc size) class (first ∷ rest) room low =
    (leb-true _ _ (and_left (nat_le class first) (list_all (nat_le class) (take size rest)) low), no_higher_front size class rest (omega arith) (and_right (nat_le class first) (list_all (nat_le class) (take size rest)) low))

no_higher_range : (at size class : ℕ) (plane : List ℕ) → at + size ≤ length plane → list_all (nat_le class) (take size (drop at plane)) ≡ true → NoHigher (take at plane ++ (replicate size class ++ drop (at + size) plane)) plane
no_higher_range zero size class plane room low =
    subst (λ (n : ℕ). NoHigher (replicate size class ++ drop n plane) plane) (let e : size ≡ 0 + size = omega arith in e) (no_higher_front size class plane (omega arith) low)
no_higher_range (suc at) size class [] room low = absurd (omega arith)
no_higher_range (suc at) size class (first ∷ rest) room low =
    subst (λ (n : ℕ). NoHigher (first ∷ (take at rest ++ (replicate size class ++ drop n (first ∷ rest)))) (first ∷ rest)) (let e : suc (at + size) ≡ suc at + size = omega arith in e)
    (omega arith, no_higher_range at size class rest (omega arith) low)

-- a range of a class that is no higher than what stands there
pub filled_had : (plane : List ℕ) (bytes : List Byte) (at size class : ℕ) → at + size ≤ length plane → list_all (nat_le class) (take size (drop at plane)) ≡ true → HaveClasses (filled plane at size class) bytes → HaveClasses plane bytes
filled_had plane bytes at size class room low has =
    no_higher_has (take at plane ++ (replicate size class ++ drop (at + size) plane)) plane bytes (no_higher_range at size class plane room low)
    (subst (λ (classes : List ℕ). HaveClasses classes bytes)
    (filled_spliced plane at size class ∙ ap (λ (n : ℕ). take at plane ++ (replicate size class ++ drop (at + n) plane)) (length-replicate size class)) has)

-- Ranges of edges.

abbrev class_of : (ℕ → Value) → HasValue → ℕ
class_of now edge = class_for (now edge.value)

module _ (now : ℕ → Value) where
  inside_first : (n : ℕ) (edge : HasValue) (rest : List HasValue) → list_all (lies_in n) (edge ∷ rest) ≡ true → edge.at + edge.size ≤ n
  inside_first n edge rest inside = leb-true _ _ (and_left (lies_in n edge) (list_all (lies_in n) rest) inside)

  inside_rest : (n : ℕ) (edge : HasValue) (rest : List HasValue) → list_all (lies_in n) (edge ∷ rest) ≡ true → list_all (lies_in n) rest ≡ true
  inside_rest n edge rest inside = and_right (lies_in n edge) (list_all (lies_in n) rest) inside

  pub plane_long : (n : ℕ) (edges : List HasValue) (plane : List ℕ) → length plane ≡ n → list_all (lies_in n) edges ≡ true → length (plane_now now edges plane) ≡ n
  plane_long n [] plane long inside = long
  plane_long n (edge ∷ rest) plane long inside =
      plane_long n rest (filled plane edge.at edge.size (class_of now edge))
      (filled-length plane edge.at edge.size (class_of now edge) (subst (λ (k : ℕ). edge.at + edge.size ≤ k) (sym long) (inside_first n edge rest inside)) ∙ long) (inside_rest n edge rest inside)

  sides : (range edge : HasValue) → share_no_byte range edge ≡ true → (range.at + range.size ≤ edge.at) ⊎ (edge.at + edge.size ≤ range.at)
  sides range edge apart = by_side (nat_le (range.at + range.size) edge.at) refl apart
    where
      by_side : (b : Bool) → nat_le (range.at + range.size) edge.at ≡ b → (b || nat_le (edge.at + edge.size) range.at) ≡ true → (range.at + range.size ≤ edge.at) ⊎ (edge.at + edge.size ≤ range.at)
      by_side true is any = inl (leb-true _ _ is)
      by_side false is any = inr (leb-true _ _ any)

  pub plane_beside : (n : ℕ) (edges : List HasValue) (plane : List ℕ) (range : HasValue) → length plane ≡ n → list_all (lies_in n) edges ≡ true → range.at + range.size ≤ n → list_all (share_no_byte range) edges ≡ true →
      take range.size (drop range.at (plane_now now edges plane)) ≡ take range.size (drop range.at plane)
  plane_beside n [] plane range long inside within apart = refl
  plane_beside n (edge ∷ rest) plane range long inside within apart =
      let room : edge.at + edge.size ≤ length plane = subst (λ (k : ℕ). edge.at + edge.size ≤ k) (sym long) (inside_first n edge rest inside) in
      plane_beside n rest (filled plane edge.at edge.size (class_of now edge)) range (filled-length plane edge.at edge.size (class_of now edge) room ∙ long) (inside_rest n edge rest inside) within
      (and_right (share_no_byte range edge) (list_all (share_no_byte range) rest) apart)
      ∙ filled-beside plane edge.at edge.size (class_of now edge) range.at range.size room (subst (λ (k : ℕ). range.at + range.size ≤ k) (sym long) within)
      (sides range edge (and_left (share_no_byte range edge) (list_all (share_no_byte range) rest) apart))

  later_apart : (edge : HasValue) (rest : List HasValue) → are_in_order (edge ∷ rest) ≡ true → list_all (share_no_byte edge) rest ≡ true
  later_apart edge rest order = list_all-implies (lies_before edge) (share_no_byte edge) (λ other before. ap (λ (b : Bool). b || nat_le (other.at + other.size) edge.at) before) rest
      (and_left (list_all (lies_before edge) rest) (are_in_order rest) order)

  later_order : (edge : HasValue) (rest : List HasValue) → are_in_order (edge ∷ rest) ≡ true → are_in_order rest ≡ true
  later_order edge rest order = and_right (list_all (lies_before edge) rest) (are_in_order rest) order

  -- under each edge stands the class of what its value becomes
  pub plane_under : (n : ℕ) (edges : List HasValue) (plane : List ℕ) → length plane ≡ n → list_all (lies_in n) edges ≡ true → are_in_order edges ≡ true →
      AllEdges (λ edge. take edge.size (drop edge.at (plane_now now edges plane)) ≡ replicate edge.size (class_of now edge)) edges
  plane_under n [] plane long inside order = tt
  plane_under n (edge ∷ rest) plane long inside order =
      let room : edge.at + edge.size ≤ length plane = subst (λ (k : ℕ). edge.at + edge.size ≤ k) (sym long) (inside_first n edge rest inside) in
      let long' : length (filled plane edge.at edge.size (class_of now edge)) ≡ n = filled-length plane edge.at edge.size (class_of now edge) room ∙ long in (
        plane_beside n rest (filled plane edge.at edge.size (class_of now edge)) edge long' (inside_rest n edge rest inside) (inside_first n edge rest inside) (later_apart edge rest order)
            ∙ filled-under plane edge.at edge.size (class_of now edge) room,
        plane_under n rest (filled plane edge.at edge.size (class_of now edge)) long' (inside_rest n edge rest inside) (later_order edge rest order),
      )

  -- the classes under each edge are no lower than that of what its value becomes
  abbrev pub AreNoLower : List ℕ → List HasValue → Type 0
  AreNoLower plane edges = AllEdges (λ edge. list_all (nat_le (class_of now edge)) (take edge.size (drop edge.at plane)) ≡ true) edges

  still_no_lower : (n : ℕ) (first : HasValue) (plane : List ℕ) (edges : List HasValue) → length plane ≡ n → first.at + first.size ≤ n → list_all (lies_in n) edges ≡ true → list_all (lies_before first) edges ≡ true →
      AreNoLower plane edges → AreNoLower (filled plane first.at first.size (class_of now first)) edges
  still_no_lower n first plane [] long room inside before are = tt
  still_no_lower n first plane (edge ∷ rest) long room inside before are = (
    ap (list_all (nat_le (class_of now edge)))
        (filled-beside plane first.at first.size (class_of now first) edge.at edge.size (subst (λ (k : ℕ). first.at + first.size ≤ k) (sym long) room)
        (subst (λ (k : ℕ). edge.at + edge.size ≤ k) (sym long) (inside_first n edge rest inside))
        (inr (leb-true _ _ (and_left (lies_before first edge) (list_all (lies_before first) rest) before)))) ∙ are.0,
    still_no_lower n first plane rest long room (inside_rest n edge rest inside) (and_right (lies_before first edge) (list_all (lies_before first) rest) before) are.1,
  )

  pub plane_had : (n : ℕ) (edges : List HasValue) (plane : List ℕ) (bytes : List Byte) → length plane ≡ n → list_all (lies_in n) edges ≡ true → are_in_order edges ≡ true → AreNoLower plane edges →
      HaveClasses (plane_now now edges plane) bytes → HaveClasses plane bytes
  plane_had n [] plane bytes long inside order low has = has
  plane_had n (edge ∷ rest) plane bytes long inside order low has =
      let room : edge.at + edge.size ≤ length plane = subst (λ (k : ℕ). edge.at + edge.size ≤ k) (sym long) (inside_first n edge rest inside) in
      filled_had plane bytes edge.at edge.size (class_of now edge) room low.0
      (plane_had n rest (filled plane edge.at edge.size (class_of now edge)) bytes (filled-length plane edge.at edge.size (class_of now edge) room ∙ long) (inside_rest n edge rest inside) (later_order edge rest order)
      (still_no_lower n edge plane rest long (inside_first n edge rest inside) (inside_rest n edge rest inside) (and_left (list_all (lies_before edge) rest) (are_in_order rest) order) low.1) has)
