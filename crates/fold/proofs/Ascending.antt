-- Keys that ascend still do where entries go, and where others stand behind all.
use Rattle.std.proofs.Common.{◌≡◌, ℕ, suc, ◌+◌, ◌<◌, ◌≤◌, Bool, true, false, not, cond, List, [], ◌∷◌, ◌++◌, map, length, nat_eq, nat_le, nat_lt, Option, None, Some, refl, sym, ◌∙◌, ap, lt-ltb, ltb-true, le-leb, leb-true, arith}
use Rattle.std.specs.Prelude.{slice_get}
use Rattle.std.specs.List.{filter, list_all, AllPairs}
use Rattle.fold.specs.declared.fold.Fold.{Fold}
use Rattle.graph.specs.declared.object.Object.{Object}
use Rattle.graph.specs.declared.value.Value.{Value}
use Rattle.graph.specs.declared.parts.KeyedObject.{KeyedObject}
use Rattle.graph.specs.declared.parts.KeyedValue.{KeyedValue}
use Rattle.graph.specs.declared.parts.Parts.{Parts}
use Rattle.graph.specs.Renaming.{values_from}
use Rattle.graph.specs.WellFormed.{are_ascending}
use Rattle.graph.specs.Whole.{IsGraph}
use Rattle.graph.proofs.InOrder.{ascending_from_neighbours, ascending_by, ascending_objects, ascending_values}
use Rattle.graph.proofs.Tests.{and_left, and_right, and_both, list_all-implies}
use Rattle.changes.specs.Parts.{replaced}
use Rattle.fold.specs.Folded.{folded_value, with_value_if, folded_values}

abbrev key_of : KeyedObject → ℕ
key_of entry = entry.key

abbrev keyed : KeyedValue → ℕ
keyed entry = entry.key

-- Objects.

keys_replaced : (key : ℕ) (object : Object) (entries : List KeyedObject) → map key_of (map (replaced key object) entries) ≡ map key_of entries
keys_replaced key object [] = refl
keys_replaced key object (entry ∷ rest) = ap (λ (keys : List ℕ). entry.key ∷ keys) (keys_replaced key object rest)

all_left : (test : ℕ → Bool) (p : KeyedObject → Bool) (entries : List KeyedObject) → list_all test (map key_of entries) ≡ true → list_all test (map key_of (filter p entries)) ≡ true
all_left test p [] all = refl
all_left test p (entry ∷ rest) all = by_test (p entry) (all_left test p rest (and_right (test entry.key) _ all))
  where
    by_test : (b : Bool) → list_all test (map key_of (filter p rest)) ≡ true → list_all test (map key_of (cond b (entry ∷ filter p rest) (filter p rest))) ≡ true
    by_test true later = and_both (test entry.key) (list_all test (map key_of (filter p rest))) (and_left (test entry.key) (list_all test (map key_of rest)) all) later
    by_test false later = later

ascending_left : (p : KeyedObject → Bool) (entries : List KeyedObject) → are_ascending (map key_of entries) ≡ true → are_ascending (map key_of (filter p entries)) ≡ true
ascending_left p [] all = refl
ascending_left p (entry ∷ rest) all =
    by_test (p entry) (all_left (nat_lt entry.key) p rest (and_left (list_all (nat_lt entry.key) (map key_of rest)) _ all)) (ascending_left p rest (and_right (list_all (nat_lt entry.key) (map key_of rest)) _ all))
  where
    by_test : (b : Bool) → list_all (nat_lt entry.key) (map key_of (filter p rest)) ≡ true → are_ascending (map key_of (filter p rest)) ≡ true → are_ascending (map key_of (cond b (entry ∷ filter p rest) (filter p rest))) ≡ true
    by_test true above later = and_both (list_all (nat_lt entry.key) (map key_of (filter p rest))) (are_ascending (map key_of (filter p rest))) above later
    by_test false above later = later

-- Values.

all_folded : (test : ℕ → Bool) (fold : Fold) (entries : List KeyedValue) → list_all test (map keyed entries) ≡ true → list_all test (map keyed (folded_values fold entries)) ≡ true
all_folded test fold [] all = refl
all_folded test fold (entry ∷ rest) all = by_value (folded_value fold entry.value) (all_folded test fold rest (and_right (test entry.key) _ all))
  where
    by_value : (found : Option Value) → list_all test (map keyed (folded_values fold rest)) ≡ true → list_all test (map keyed (with_value_if entry.key found (folded_values fold rest))) ≡ true
    by_value None later = later
    by_value (Some value) later = and_both (test entry.key) (list_all test (map keyed (folded_values fold rest))) (and_left (test entry.key) (list_all test (map keyed rest)) all) later

ascending_folded : (fold : Fold) (entries : List KeyedValue) → are_ascending (map keyed entries) ≡ true → are_ascending (map keyed (folded_values fold entries)) ≡ true
ascending_folded fold [] all = refl
ascending_folded fold (entry ∷ rest) all =
    by_value (folded_value fold entry.value) (all_folded (nat_lt entry.key) fold rest (and_left (list_all (nat_lt entry.key) (map keyed rest)) _ all))
    (ascending_folded fold rest (and_right (list_all (nat_lt entry.key) (map keyed rest)) _ all))
  where
    by_value : (found : Option Value) → list_all (nat_lt entry.key) (map keyed (folded_values fold rest)) ≡ true → are_ascending (map keyed (folded_values fold rest)) ≡ true →
        are_ascending (map keyed (with_value_if entry.key found (folded_values fold rest))) ≡ true
    by_value None above later = later
    by_value (Some value) above later = and_both (list_all (nat_lt entry.key) (map keyed (folded_values fold rest))) (are_ascending (map keyed (folded_values fold rest))) above later

all_from : (least from : ℕ) (values : List Value) → least ≤ from → list_all (nat_le least) (map keyed (values_from from values)) ≡ true
all_from least from [] above = refl
all_from least from (value ∷ rest) above = and_both (nat_le least from) _ (le-leb _ _ above) (all_from least (from + 1) rest (omega arith))

ascending_more : (from : ℕ) (values : List Value) → are_ascending (map keyed (values_from from values)) ≡ true
ascending_more from [] = refl
ascending_more from (value ∷ rest) =
    and_both (list_all (nat_lt from) (map keyed (values_from (from + 1) rest))) _
    (list_all-implies (nat_le (from + 1)) (nat_lt from) (λ key above. let l = leb-true _ _ above in lt-ltb from key (omega arith)) (map keyed (values_from (from + 1) rest)) (all_from (from + 1) (from + 1) rest (omega arith)))
    (ascending_more (from + 1) rest)

all_append : (test : ℕ → Bool) (one other : List ℕ) → list_all test one ≡ true → list_all test other ≡ true → list_all test (one ++ other) ≡ true
all_append test [] other a b = b
all_append test (x ∷ one) other a b = and_both (test x) (list_all test (one ++ other)) (and_left (test x) (list_all test one) a) (all_append test one other (and_right (test x) (list_all test one) a) b)

ascending_append : (bound : ℕ) (one other : List ℕ) → are_ascending one ≡ true → list_all (λ key. nat_lt key bound) one ≡ true → are_ascending other ≡ true → list_all (nat_le bound) other ≡ true → are_ascending (one ++ other) ≡ true
ascending_append bound [] other a below b above = b
ascending_append bound (x ∷ one) other a below b above =
    and_both (list_all (nat_lt x) (one ++ other)) (are_ascending (one ++ other))
    (all_append (nat_lt x) one other (and_left (list_all (nat_lt x) one) (are_ascending one) a)
    (list_all-implies (nat_le bound) (nat_lt x) (λ key far. let u = ltb-true _ _ (and_left (nat_lt x bound) (list_all (λ key. nat_lt key bound) one) below) in let l = leb-true _ _ far in lt-ltb x key (omega arith)) other above))
    (ascending_append bound one other (and_right (list_all (nat_lt x) one) (are_ascending one) a) (and_right (nat_lt x bound) (list_all (λ key. nat_lt key bound) one) below) b above)

map_append : (one other : List KeyedValue) → map keyed (one ++ other) ≡ map keyed one ++ map keyed other
map_append [] other = refl
map_append (entry ∷ one) other = ap (λ (keys : List ℕ). entry.key ∷ keys) (map_append one other)

all_below : (from : ℕ) (entries : List KeyedValue) → ((place : ℕ) (entry : KeyedValue) → slice_get entries place ≡ Some entry → entry.key ≡ from + place) → (bound : ℕ) → from + length entries ≤ bound →
    list_all (λ key. nat_lt key bound) (map keyed entries) ≡ true
all_below from [] in_place bound below = refl
all_below from (entry ∷ rest) in_place bound below =
    and_both (nat_lt entry.key bound) _ (lt-ltb _ _ (let is = in_place 0 entry refl in omega arith))
    (all_below (suc from) rest (λ place other stands. in_place (suc place) other stands ∙ (let e : from + suc place ≡ suc from + place = omega arith in e)) bound (omega arith))

-- The whole.

module _ (parts : Parts) (graph : IsGraph parts) (fold : Fold) where
  pub objects_ascend : (object : Object) → AllPairs (λ one other. one.key < other.key) (filter (λ entry. not (nat_eq entry.key fold.second)) (map (replaced fold.first object) parts.objects))
  objects_ascend object =
      ascending_from_neighbours key_of (filter (λ entry. not (nat_eq entry.key fold.second)) (map (replaced fold.first object) parts.objects))
      (ascending_by key_of (filter (λ entry. not (nat_eq entry.key fold.second)) (map (replaced fold.first object) parts.objects))
      ∙ ascending_left (λ entry. not (nat_eq entry.key fold.second)) (map (replaced fold.first object) parts.objects)
      (ap are_ascending (keys_replaced fold.first object parts.objects) ∙ sym (ascending_by key_of parts.objects) ∙ ascending_objects parts graph.ascending))

  pub values_ascend : (more : List Value) → AllPairs (λ one other. one.key < other.key) (folded_values fold parts.values ++ values_from (length parts.values) more)
  values_ascend more =
      ascending_from_neighbours keyed (folded_values fold parts.values ++ values_from (length parts.values) more)
      (ascending_by keyed (folded_values fold parts.values ++ values_from (length parts.values) more)
      ∙ ap are_ascending (map_append (folded_values fold parts.values) (values_from (length parts.values) more))
      ∙ ascending_append (length parts.values) (map keyed (folded_values fold parts.values)) (map keyed (values_from (length parts.values) more))
      (ascending_folded fold parts.values (sym (ascending_by keyed parts.values) ∙ ascending_values parts graph.ascending))
      (all_folded (λ key. nat_lt key (length parts.values)) fold parts.values
      (all_below 0 parts.values (λ place entry stands. graph.keys.values place entry stands ∙ (let e : place ≡ 0 + place = omega arith in e)) (length parts.values) (omega arith)))
      (ascending_more (length parts.values) more) (all_from (length parts.values) (length parts.values) more (omega arith)))
