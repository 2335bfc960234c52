-- Items in order: what follows for all pairs from each item and the one behind it, and that a sort changes nothing of it.
use Rattle.std.proofs.Common.{◌≡◌, ◌≢◌, ℕ, zero, suc, ◌+◌, ◌*◌, ◌<◌, ◌≤◌, Bool, true, false, ◌&&◌, not, List, [], ◌∷◌, ◌⊎◌, inl, inr, map, length, get_or, set, refl, sym, ◌∙◌, ap, subst, arith}
use Rattle.std.specs.Prelude.{nat_eq, nat_lt, nat_le, if◌then◌else◌}
use Rattle.std.specs.List.{AllPairs, list_all, swap}
use Rattle.std.specs.List.Sorted.{IsPermutation, IsNonDecreasingBy, IsSorted}
use Rattle.std.specs.Ordering.{nat_cmp}
use Rattle.std.proofs.lemmas.Bool.{false≢true, eq-eqb, eqb-true, ne_eqb, ltb-true, lt-ltb, leb-true, le-leb, not-true, not_from_false, cases_eq, cases_lt, cases_order, or_left}
use Rattle.std.proofs.lemmas.List.{get_or-set_same, get_or-set_other, length-set}
use Rattle.std.proofs.lemmas.List.Edits.{swap_is, length-swap}
use Rattle.std.proofs.lemmas.List.Sorted.{IsPermutation-keeps, IsPermutation-sym, IsNonDecreasingBy-from_sort}
use Rattle.graph.specs.declared.edges.HasValue.{HasValue}
use Rattle.graph.specs.declared.parts.KeyedObject.{KeyedObject}
use Rattle.graph.specs.declared.parts.KeyedValue.{KeyedValue}
use Rattle.graph.specs.declared.parts.Named.{Named}
use Rattle.graph.specs.declared.parts.Held.{Held}
use Rattle.graph.specs.declared.parts.Pair.{Pair}
use Rattle.graph.specs.declared.parts.Parts.{Parts}
use Rattle.graph.specs.WellFormed.{HasAscendingKeys, are_distinct, are_ascending, are_disjoint, are_in_order, lies_before, share_no_byte, differs_from, are_different}
use Rattle.graph.specs.PairCodes.{pair_code}
use Rattle.graph.specs.Points.{neighbours}
use Rattle.graph.proofs.Tests.{and_left, and_right, and_both, list_all-implies}

-- Keys.

module _ {Entry : Type 0} (key : Entry → ℕ) where
  pub ascending_from_neighbours : (entries : List Entry) → neighbours (λ one other. nat_lt (key one) (key other)) entries ≡ true → AllPairs (λ one other. key one < key other) entries
  ascending_from_neighbours [] pass = λ i j d before within. absurd (omega arith)
  ascending_from_neighbours (one ∷ []) pass = λ i j d before within. absurd (omega arith)
  ascending_from_neighbours (one ∷ (other ∷ rest)) pass = from_rest
      (ltb-true (key one) (key other) (and_left (nat_lt (key one) (key other)) (neighbours (λ one other. nat_lt (key one) (key other)) (other ∷ rest)) pass))
      (ascending_from_neighbours (other ∷ rest) (and_right (nat_lt (key one) (key other)) (neighbours (λ one other. nat_lt (key one) (key other)) (other ∷ rest)) pass))
    where
      from_rest : key one < key other → AllPairs (λ one other. key one < key other) (other ∷ rest) → AllPairs (λ one other. key one < key other) (one ∷ (other ∷ rest))
      from_rest step ascending zero zero d before within = absurd (omega arith)
      from_rest step ascending zero (suc zero) d before within = step
      from_rest step ascending zero (suc (suc j)) d before within =
          let higher : key other < key (get_or (other ∷ rest) (suc j) d) = ascending 0 (suc j) d (omega arith) (omega arith) in
          omega arith
      from_rest step ascending (suc i) zero d before within = absurd (omega arith)
      from_rest step ascending (suc i) (suc j) d before within = ascending i j d (omega arith) (omega arith)

  pub neighbours_from_ascending : (entries : List Entry) → AllPairs (λ one other. key one < key other) entries → neighbours (λ one other. nat_lt (key one) (key other)) entries ≡ true
  neighbours_from_ascending [] ascending = refl
  neighbours_from_ascending (one ∷ []) ascending = refl
  neighbours_from_ascending (one ∷ (other ∷ rest)) ascending =
      and_both (nat_lt (key one) (key other)) (neighbours (λ one other. nat_lt (key one) (key other)) (other ∷ rest))
      (lt-ltb (key one) (key other) (ascending 0 1 one (omega arith) (omega arith)))
      (neighbours_from_ascending (other ∷ rest) (λ i j d before within. ascending (suc i) (suc j) d (omega arith) (omega arith)))

pub ascending_both : (parts : Parts) → neighbours (λ (one other : KeyedObject). nat_lt one.key other.key) parts.objects ≡ true → neighbours (λ (one other : KeyedValue). nat_lt one.key other.key) parts.values ≡ true → HasAscendingKeys parts
ascending_both parts objects values = record {
  objects = ascending_from_neighbours (λ (entry : KeyedObject). entry.key) parts.objects objects;
  values = ascending_from_neighbours (λ (entry : KeyedValue). entry.key) parts.values values;
}

pub ascending_objects : (parts : Parts) → HasAscendingKeys parts → neighbours (λ (one other : KeyedObject). nat_lt one.key other.key) parts.objects ≡ true
ascending_objects parts ascending = neighbours_from_ascending (λ (entry : KeyedObject). entry.key) parts.objects ascending.objects

pub ascending_values : (parts : Parts) → HasAscendingKeys parts → neighbours (λ (one other : KeyedValue). nat_lt one.key other.key) parts.values ≡ true
ascending_values parts ascending = neighbours_from_ascending (λ (entry : KeyedValue). entry.key) parts.values ascending.values

-- Tests of all pairs, in any order.

test_at : {X : Type 0} (test : X → Bool) (xs : List X) (i : ℕ) (d : X) → list_all test xs ≡ true → i < length xs → test (get_or xs i d) ≡ true
test_at test [] i d all within = absurd (omega arith)
test_at test (x ∷ xs) zero d all within = and_left (test x) (list_all test xs) all
test_at test (x ∷ xs) (suc i) d all within = test_at test xs i d (and_right (test x) (list_all test xs) all) (omega arith)

tests_all : {X : Type 0} (test : X → Bool) (xs : List X) → ((i : ℕ) (d : X) → i < length xs → test (get_or xs i d) ≡ true) → list_all test xs ≡ true
tests_all test [] each = refl
tests_all test (x ∷ xs) each = and_both (test x) (list_all test xs) (each 0 x (omega arith)) (tests_all test xs (λ i d within. each (suc i) d (omega arith)))

-- each item and each behind it pass the test
abbrev all_pairs : {X : Type 0} → (X → X → Bool) → List X → Bool
all_pairs test [] = true
all_pairs test (x ∷ xs) = list_all (test x) xs && all_pairs test xs

-- any two items pass the test
abbrev AnyTwo : {X : Type 0} → (X → X → Bool) → List X → Type 0
AnyTwo {X} test xs = (i j : ℕ) (d : X) → i ≢ j → i < length xs → j < length xs → test (get_or xs i d) (get_or xs j d) ≡ true

-- where an item stands behind a swap
data Moves (a b k : ℕ) : ℕ → Type 0 where
  ToFirst : k ≡ b → Moves a b k a
  ToSecond : k ≢ b → k ≡ a → Moves a b k b
  Stays : k ≢ b → k ≢ a → Moves a b k k

module _ {X : Type 0} (test : X → X → Bool) (symmetric : (one other : X) → test one other ≡ true → test other one ≡ true) where
  two_from_all : (xs : List X) → all_pairs test xs ≡ true → (i j : ℕ) (d : X) → i < j → j < length xs → test (get_or xs i d) (get_or xs j d) ≡ true
  two_from_all [] all i j d before within = absurd (omega arith)
  two_from_all (x ∷ xs) all zero zero d before within = absurd (omega arith)
  two_from_all (x ∷ xs) all zero (suc j) d before within = test_at (test x) xs j d (and_left (list_all (test x) xs) (all_pairs test xs) all) (omega arith)
  two_from_all (x ∷ xs) all (suc i) zero d before within = absurd (omega arith)
  two_from_all (x ∷ xs) all (suc i) (suc j) d before within = two_from_all xs (and_right (list_all (test x) xs) (all_pairs test xs) all) i j d (omega arith) (omega arith)

  any_two : (xs : List X) → all_pairs test xs ≡ true → AnyTwo test xs
  any_two xs all i j d differ one_within other_within = by_order (cases_order i j)
    where
      by_order : (i ≡ j) ⊎ ((i < j) ⊎ (j < i)) → test (get_or xs i d) (get_or xs j d) ≡ true
      by_order (inl same) = absurd (differ same)
      by_order (inr (inl before)) = two_from_all xs all i j d before other_within
      by_order (inr (inr behind)) = symmetric (get_or xs j d) (get_or xs i d) (two_from_all xs all j i d behind one_within)

  all_from_two : (xs : List X) → AnyTwo test xs → all_pairs test xs ≡ true
  all_from_two [] two = refl
  all_from_two (x ∷ xs) two = and_both (list_all (test x) xs) (all_pairs test xs)
      (tests_all (test x) xs (λ i d within. two 0 (suc i) d (omega arith) (omega arith) (omega arith)))
      (all_from_two xs (λ i j d differ one_within other_within. two (suc i) (suc j) d (omega arith) (omega arith) (omega arith)))

  -- what stands at a place behind a swap stood somewhere before
  record Stood (xs : List X) (a b k : ℕ) (d : X) : Type 0 where
    place : ℕ
    moves : Moves a b k place
    within : place < length xs
    is : get_or (swap xs a b) k d ≡ get_or xs place d

  stood : (xs : List X) (a b k : ℕ) (d : X) → a < length xs → b < length xs → k < length xs → Stood xs a b k d
  stood xs a b k d a_within b_within within = by_second (cases_eq k b)
    where
      by_first : (k ≡ b → ⊥) → (k ≡ a) ⊎ (k ≡ a → ⊥) → Stood xs a b k d
      by_first other (inl same) = record {
        place = b;
        moves = ToSecond other same;
        within = b_within;
        is =
            ap (λ (ys : List X). get_or ys k d) (sym (swap_is xs a b d a_within b_within))
            ∙ get_or-set_other (set xs a (get_or xs b d)) b k (get_or xs a d) d other
            ∙ ap (λ (n : ℕ). get_or (set xs a (get_or xs b d)) n d) same
            ∙ get_or-set_same xs a (get_or xs b d) d a_within;
      }
      by_first other (inr differs) = record {
        place = k;
        moves = Stays other differs;
        within = within;
        is =
            ap (λ (ys : List X). get_or ys k d) (sym (swap_is xs a b d a_within b_within))
            ∙ get_or-set_other (set xs a (get_or xs b d)) b k (get_or xs a d) d other
            ∙ get_or-set_other xs a k (get_or xs b d) d differs;
      }

      by_second : (k ≡ b) ⊎ (k ≡ b → ⊥) → Stood xs a b k d
      by_second (inl same) = record {
        place = a;
        moves = ToFirst same;
        within = a_within;
        is =
            ap (λ (ys : List X). get_or ys k d) (sym (swap_is xs a b d a_within b_within))
            ∙ ap (λ (n : ℕ). get_or (set (set xs a (get_or xs b d)) b (get_or xs a d)) n d) same
            ∙ get_or-set_same (set xs a (get_or xs b d)) b (get_or xs a d) d (subst (λ (n : ℕ). b < n) (sym (length-set xs a (get_or xs b d))) b_within);
      }
      by_second (inr differs) = by_first differs (cases_eq k a)

  apart : (a b i j one other : ℕ) → Moves a b i one → Moves a b j other → i ≢ j → one ≢ other
  apart a b i j one other (ToFirst i_is) (ToFirst j_is) differ = absurd (differ (i_is ∙ sym j_is))
  apart a b i j one other (ToFirst i_is) (ToSecond j_not j_is) differ = λ same. j_not (j_is ∙ same)
  apart a b i j one other (ToFirst i_is) (Stays j_not_b j_not_a) differ = λ same. j_not_a (sym same)
  apart a b i j one other (ToSecond i_not i_is) (ToFirst j_is) differ = λ same. i_not (i_is ∙ sym same)
  apart a b i j one other (ToSecond i_not i_is) (ToSecond j_not j_is) differ = absurd (differ (i_is ∙ sym j_is))
  apart a b i j one other (ToSecond i_not i_is) (Stays j_not_b j_not_a) differ = λ same. j_not_b (sym same)
  apart a b i j one other (Stays i_not_b i_not_a) (ToFirst j_is) differ = λ same. i_not_a same
  apart a b i j one other (Stays i_not_b i_not_a) (ToSecond j_not j_is) differ = λ same. i_not_b same
  apart a b i j one other (Stays i_not_b i_not_a) (Stays j_not_b j_not_a) differ = differ

  two_swapped : (xs : List X) (a b : ℕ) → a < length xs → b < length xs → AnyTwo test xs → AnyTwo test (swap xs a b)
  two_swapped xs a b a_within b_within two i j d differ i_within j_within =
      let long : length (swap xs a b) ≡ length xs = length-swap xs a b in
      let one = stood xs a b i d a_within b_within (omega arith) in
      let other = stood xs a b j d a_within b_within (omega arith) in
      subst (λ (x : X). test x (get_or (swap xs a b) j d) ≡ true) (sym one.is)
      (subst (λ (x : X). test (get_or xs one.place d) x ≡ true) (sym other.is)
      (two one.place other.place d (apart a b i j one.place other.place one.moves other.moves differ) one.within other.within))

  all_permuted : (xs ys : List X) → IsPermutation xs ys → all_pairs test xs ≡ true → all_pairs test ys ≡ true
  all_permuted xs ys permutation all =
      all_from_two ys (IsPermutation-keeps xs (λ zs. AnyTwo test zs) (any_two xs all) (λ zs i j i_within j_within two. two_swapped zs i j i_within j_within two) ys permutation)

-- Numbers.

differ_both : (one other : ℕ) → not (nat_eq one other) ≡ true → not (nat_eq other one) ≡ true
differ_both one other apart = not_from_false (nat_eq other one) (ne_eqb other one (λ same. false≢true (sym (not-true (nat_eq one other) apart) ∙ eq-eqb one other (sym same))))

distinct_is : (xs : List ℕ) → are_distinct xs ≡ all_pairs (λ one other. not (nat_eq one other)) xs
distinct_is [] = refl
distinct_is (x ∷ xs) = ap (λ (b : Bool). list_all (λ other. not (nat_eq x other)) xs && b) (distinct_is xs)

-- numbers that do not fall differ where each differs from the one behind it
distinct_in_order : (xs : List ℕ) → IsNonDecreasingBy (λ x. x) xs → neighbours (λ one other. not (nat_eq one other)) xs ≡ are_distinct xs
distinct_in_order [] up = refl
distinct_in_order (x ∷ []) up = refl
distinct_in_order (x ∷ (y ∷ rest)) up = by_test (nat_eq x y) refl (distinct_in_order (y ∷ rest) (λ i j d before within. up (suc i) (suc j) d (omega arith) (omega arith)))
  where
    above : nat_eq x y ≡ false → list_all (λ other. not (nat_eq x other)) (y ∷ rest) ≡ true
    above differs =
        let first : x ≤ y = up 0 1 x (omega arith) (omega arith) in
        let lower : x < y = below first (cases_eq x y) in
        tests_all (λ other. not (nat_eq x other)) (y ∷ rest) (λ i d within.
        let later : y ≤ get_or (y ∷ rest) i d = up 1 (suc i) d (omega arith) (omega arith) in
        not_from_false (nat_eq x (get_or (y ∷ rest) i d)) (ne_eqb x (get_or (y ∷ rest) i d) (omega arith)))
      where
        below : x ≤ y → (x ≡ y) ⊎ (x ≡ y → ⊥) → x < y
        below first (inl same) = absurd (false≢true (sym differs ∙ eq-eqb x y same))
        below first (inr other) = omega arith

    by_test : (same : Bool) → nat_eq x y ≡ same → neighbours (λ one other. not (nat_eq one other)) (y ∷ rest) ≡ are_distinct (y ∷ rest) → neighbours (λ one other. not (nat_eq one other)) (x ∷ (y ∷ rest)) ≡ are_distinct (x ∷ (y ∷ rest))
    by_test true is rest_are = rw is refl
    by_test false is rest_are =
        ap (λ (b : Bool). not b && neighbours (λ one other. not (nat_eq one other)) (y ∷ rest)) is
        ∙ rest_are
        ∙ sym (ap (λ (b : Bool). b && are_distinct (y ∷ rest)) (above is))

same_test : (one other : Bool) → (one ≡ true → other ≡ true) → (other ≡ true → one ≡ true) → one ≡ other
same_test true other there back = sym (there refl)
same_test false true there back = back refl
same_test false false there back = refl

pub distinct_sorted : (xs ys : List ℕ) → IsPermutation xs ys → IsSorted nat_cmp ys → neighbours (λ one other. not (nat_eq one other)) ys ≡ are_distinct xs
distinct_sorted xs ys permutation sorted =
    distinct_in_order ys (IsNonDecreasingBy-from_sort (λ x. x) ys sorted)
    ∙ distinct_is ys
    ∙ same_test (all_pairs (λ one other. not (nat_eq one other)) ys) (all_pairs (λ one other. not (nat_eq one other)) xs)
    (all_permuted (λ one other. not (nat_eq one other)) differ_both ys xs (IsPermutation-sym xs ys permutation))
    (all_permuted (λ one other. not (nat_eq one other)) differ_both xs ys permutation)
    ∙ sym (distinct_is xs)

-- Edges.

front_of_all : (edge : HasValue) (edges : List HasValue) → neighbours lies_before (edge ∷ edges) ≡ true → list_all (lies_before edge) edges ≡ true
front_of_all edge [] pass = refl
front_of_all edge (other ∷ rest) pass =
    let first : lies_before edge other ≡ true = and_left (lies_before edge other) (neighbours lies_before (other ∷ rest)) pass in
    let before : edge.at + edge.size ≤ other.at = leb-true (edge.at + edge.size) other.at first in
    and_both (lies_before edge other) (list_all (lies_before edge) rest) first
    (list_all-implies (lies_before other) (lies_before edge)
    (λ third behind. let later : other.at + other.size ≤ third.at = leb-true (other.at + other.size) third.at behind in
    le-leb (edge.at + edge.size) third.at (omega arith))
    rest (front_of_all other rest (and_right (lies_before edge other) (neighbours lies_before (other ∷ rest)) pass)))

-- edges of which each ends before the next one begins end before all later ones begin
pub in_order_neighbours : (edges : List HasValue) → neighbours lies_before edges ≡ are_in_order edges
in_order_neighbours [] = refl
in_order_neighbours (edge ∷ []) = refl
in_order_neighbours (edge ∷ (other ∷ rest)) =
    let later : neighbours lies_before (other ∷ rest) ≡ are_in_order (other ∷ rest) = in_order_neighbours (other ∷ rest) in
    same_test (neighbours lies_before (edge ∷ (other ∷ rest))) (are_in_order (edge ∷ (other ∷ rest)))
    (λ pass. and_both (list_all (lies_before edge) (other ∷ rest)) (are_in_order (other ∷ rest)) (front_of_all edge (other ∷ rest) pass)
    (sym later ∙ and_right (lies_before edge other) (neighbours lies_before (other ∷ rest)) pass))
    (λ all. and_both (lies_before edge other) (neighbours lies_before (other ∷ rest))
    (and_left (lies_before edge other) (list_all (lies_before edge) rest) (and_left (list_all (lies_before edge) (other ∷ rest)) (are_in_order (other ∷ rest)) all))
    (later ∙ and_right (list_all (lies_before edge) (other ∷ rest)) (are_in_order (other ∷ rest)) all))

-- edges in order share no byte
pub disjoint_in_order : (edges : List HasValue) → are_in_order edges ≡ true → are_disjoint edges ≡ true
disjoint_in_order [] all = refl
disjoint_in_order (edge ∷ rest) all =
    and_both (list_all (share_no_byte edge) rest) (are_disjoint rest)
    (list_all-implies (lies_before edge) (share_no_byte edge) (λ other before. or_left (lies_before edge other) (lies_before other edge) before) rest
    (and_left (list_all (lies_before edge) rest) (are_in_order rest) all))
    (disjoint_in_order rest (and_right (list_all (lies_before edge) rest) (are_in_order rest) all))

-- Variables and registers.

module _ {Entry : Type 0} (key : Entry → ℕ) where
  above_first : (first : Entry) (rest : List Entry) → neighbours (λ one other. nat_lt (key one) (key other)) (first ∷ rest) ≡ true → list_all (nat_lt (key first)) (map key rest) ≡ true
  above_first first [] pass = refl
  above_first first (second ∷ rest) pass =
      let step : nat_lt (key first) (key second) ≡ true = and_left (nat_lt (key first) (key second)) (neighbours (λ one other. nat_lt (key one) (key other)) (second ∷ rest)) pass in
      let lower : key first < key second = ltb-true (key first) (key second) step in
      and_both (nat_lt (key first) (key second)) (list_all (nat_lt (key first)) (map key rest)) step
      (list_all-implies (nat_lt (key second)) (nat_lt (key first))
      (λ third behind. let later : key second < third = ltb-true (key second) third behind in lt-ltb (key first) third (omega arith))
      (map key rest) (above_first second rest (and_right (nat_lt (key first) (key second)) (neighbours (λ one other. nat_lt (key one) (key other)) (second ∷ rest)) pass)))

  pub ascending_by : (entries : List Entry) → neighbours (λ one other. nat_lt (key one) (key other)) entries ≡ are_ascending (map key entries)
  ascending_by [] = refl
  ascending_by (first ∷ []) = refl
  ascending_by (first ∷ (second ∷ rest)) =
      let later : neighbours (λ one other. nat_lt (key one) (key other)) (second ∷ rest) ≡ are_ascending (map key (second ∷ rest)) = ascending_by (second ∷ rest) in
      same_test (neighbours (λ one other. nat_lt (key one) (key other)) (first ∷ (second ∷ rest))) (are_ascending (map key (first ∷ (second ∷ rest))))
      (λ pass. and_both (list_all (nat_lt (key first)) (map key (second ∷ rest))) (are_ascending (map key (second ∷ rest))) (above_first first (second ∷ rest) pass)
      (sym later ∙ and_right (nat_lt (key first) (key second)) (neighbours (λ one other. nat_lt (key one) (key other)) (second ∷ rest)) pass))
      (λ all. and_both (nat_lt (key first) (key second)) (neighbours (λ one other. nat_lt (key one) (key other)) (second ∷ rest))
      (and_left (nat_lt (key first) (key second)) (list_all (nat_lt (key first)) (map key rest)) (and_left (list_all (nat_lt (key first)) (map key (second ∷ rest))) (are_ascending (map key (second ∷ rest))) all))
      (later ∙ and_right (list_all (nat_lt (key first)) (map key (second ∷ rest))) (are_ascending (map key (second ∷ rest))) all))

pub ascending_variables : (variables : List Named) → neighbours (λ (one other : Named). nat_lt one.variable other.variable) variables ≡ are_ascending (map (λ (named : Named). named.variable) variables)
ascending_variables variables = ascending_by (λ (named : Named). named.variable) variables

pub ascending_registers : (registers : List Held) → neighbours (λ (one other : Held). nat_lt one.register other.register) registers ≡ are_ascending (map (λ (held : Held). held.register) registers)
ascending_registers registers = ascending_by (λ (held : Held). held.register) registers

-- Pairs.

not_both : (a b : Bool) → (a ≡ true → b ≡ true → ⊥) → not (a && b) ≡ true
not_both true true never = absurd (never refl refl)
not_both true false never = refl
not_both false b never = refl

no_both : (a b : Bool) → not (a && b) ≡ true → a ≡ true → b ≡ true → ⊥
no_both true true pass a_is b_is = false≢true pass
no_both true false pass a_is b_is = false≢true b_is
no_both false b pass a_is b_is = false≢true a_is

-- pairs differ where they are not the same two values, in whatever order
pub differs_if : (one other : Pair) → (one.left ≡ other.left → one.right ≡ other.right → ⊥) → (one.left ≡ other.right → one.right ≡ other.left → ⊥) → differs_from one other ≡ true
differs_if one other straight crossed =
    and_both (not (nat_eq one.left other.left && nat_eq one.right other.right)) (not (nat_eq one.left other.right && nat_eq one.right other.left))
    (not_both (nat_eq one.left other.left) (nat_eq one.right other.right) (λ left right. straight (eqb-true one.left other.left left) (eqb-true one.right other.right right)))
    (not_both (nat_eq one.left other.right) (nat_eq one.right other.left) (λ left right. crossed (eqb-true one.left other.right left) (eqb-true one.right other.left right)))

pub not_straight : (one other : Pair) → differs_from one other ≡ true → one.left ≡ other.left → one.right ≡ other.right → ⊥
not_straight one other pass left right =
    no_both (nat_eq one.left other.left) (nat_eq one.right other.right)
    (and_left (not (nat_eq one.left other.left && nat_eq one.right other.right)) (not (nat_eq one.left other.right && nat_eq one.right other.left)) pass)
    (eq-eqb one.left other.left left) (eq-eqb one.right other.right right)

pub not_crossed : (one other : Pair) → differs_from one other ≡ true → one.left ≡ other.right → one.right ≡ other.left → ⊥
not_crossed one other pass left right =
    no_both (nat_eq one.left other.right) (nat_eq one.right other.left)
    (and_right (not (nat_eq one.left other.left && nat_eq one.right other.right)) (not (nat_eq one.left other.right && nat_eq one.right other.left)) pass)
    (eq-eqb one.left other.right left) (eq-eqb one.right other.left right)

pub differs_both : (one other : Pair) → differs_from one other ≡ true → differs_from other one ≡ true
differs_both one other pass =
    differs_if other one (λ left right. not_straight one other pass (sym left) (sym right)) (λ left right. not_crossed one other pass (sym right) (sym left))

crossed_code : (left right : ℕ) → (if nat_le left right then left * 4294967296 + right else right * 4294967296 + left) ≡ (if nat_le right left then right * 4294967296 + left else left * 4294967296 + right)
crossed_code left right = by_cases (nat_le left right) refl (nat_le right left) refl
  where
    by_cases : (a : Bool) → nat_le left right ≡ a → (b : Bool) → nat_le right left ≡ b →
        (if a then left * 4294967296 + right else right * 4294967296 + left) ≡ (if b then right * 4294967296 + left else left * 4294967296 + right)
    by_cases true a_is true b_is =
        let low = leb-true left right a_is in
        let high = leb-true right left b_is in
        let same : left ≡ right = omega arith in
        ap (λ (n : ℕ). n * 4294967296 + right) same ∙ ap (λ (n : ℕ). right * 4294967296 + n) (sym same)
    by_cases true a_is false b_is = refl
    by_cases false a_is true b_is = refl
    by_cases false a_is false b_is = absurd (neither (cases_lt left right))
      where
        neither : (left < right) ⊎ (right ≤ left) → ⊥
        neither (inl before) = false≢true (sym a_is ∙ le-leb left right (omega arith))
        neither (inr behind) = false≢true (sym b_is ∙ le-leb right left behind)

differs_by_code : (one other : Pair) → nat_lt (pair_code one) (pair_code other) ≡ true → differs_from one other ≡ true
differs_by_code one other below =
    let lower : pair_code one < pair_code other = ltb-true (pair_code one) (pair_code other) below in
    differs_if one other
    (λ left right.
    let same : pair_code one ≡ pair_code other = ap (λ (l : ℕ). if nat_le l one.right then l * 4294967296 + one.right else one.right * 4294967296 + l) left
    ∙ ap (λ (r : ℕ). if nat_le other.left r then other.left * 4294967296 + r else r * 4294967296 + other.left) right in
    omega arith)
    (λ left right.
    let same : pair_code one ≡ pair_code other = ap (λ (l : ℕ). if nat_le l one.right then l * 4294967296 + one.right else one.right * 4294967296 + l) left
    ∙ ap (λ (r : ℕ). if nat_le other.right r then other.right * 4294967296 + r else r * 4294967296 + other.right) right
    ∙ crossed_code other.right other.left in
    omega arith)

different_is : (pairs : List Pair) → are_different pairs ≡ all_pairs differs_from pairs
different_is [] = refl
different_is (pair ∷ pairs) = ap (λ (b : Bool). list_all (differs_from pair) pairs && b) (different_is pairs)

list_all-map : {X Y : Type 0} (test : Y → Bool) (f : X → Y) (xs : List X) → list_all test (map f xs) ≡ list_all (λ x. test (f x)) xs
list_all-map test f [] = refl
list_all-map test f (x ∷ xs) = ap (λ (b : Bool). test (f x) && b) (list_all-map test f xs)

different_by_code : (pairs : List Pair) → are_ascending (map pair_code pairs) ≡ true → are_different pairs ≡ true
different_by_code [] all = refl
different_by_code (pair ∷ rest) all =
    and_both (list_all (differs_from pair) rest) (are_different rest)
    (list_all-implies (λ other. nat_lt (pair_code pair) (pair_code other)) (differs_from pair) (λ other below. differs_by_code pair other below) rest
    (sym (list_all-map (nat_lt (pair_code pair)) pair_code rest) ∙ and_left (list_all (nat_lt (pair_code pair)) (map pair_code rest)) (are_ascending (map pair_code rest)) all))
    (different_by_code rest (and_right (list_all (nat_lt (pair_code pair)) (map pair_code rest)) (are_ascending (map pair_code rest)) all))

pub different_sorted : (pairs sorted : List Pair) → IsPermutation pairs sorted → neighbours (λ (one other : Pair). nat_lt (pair_code one) (pair_code other)) sorted ≡ true → are_different pairs ≡ true
different_sorted pairs sorted permutation pass =
    different_is pairs
    ∙ all_permuted differs_from differs_both sorted pairs (IsPermutation-sym pairs sorted permutation)
    (sym (different_is sorted) ∙ different_by_code sorted (sym (ascending_by pair_code sorted) ∙ pass))
