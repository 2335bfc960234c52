-- A pair that goes where one number stands in place of another is of two different constants.
use Rattle.std.proofs.Common.{◌≡◌, ℕ, zero, suc, Bool, true, false, ◌||◌, ◌&&◌, not, List, [], ◌∷◌, nat_eq, Option, Some, refl, sym, ◌∙◌, ap, subst, eqb-true, eq-eqb}
use Rattle.std.specs.Prelude.{slice_get, if◌then◌else◌}
use Rattle.std.specs.List.{list_all, list_any}
use Rattle.std.specs.Option.{option_map_or}
use Rattle.std.proofs.lemmas.Bool.{false≢true}
use Rattle.std.proofs.lemmas.Option.{same_Some, none-some}
use Rattle.graph.specs.declared.parts.Pair.{Pair}
use Rattle.graph.specs.declared.parts.Parts.{Parts}
use Rattle.graph.specs.declared.value.Value.{Value}
use Rattle.graph.specs.declared.value.Value.TheVariants.{Const, Number, Any, Address}
use Rattle.graph.specs.Maps.{value_at}
use Rattle.graph.specs.Sizes.{is_number, is_constant}
use Rattle.graph.specs.WellFormed.{passes_at, are_numbers, may_be_unequal, is_unequal_pair, differs_from}
use Rattle.graph.proofs.Closed.{passes-at}
use Rattle.graph.proofs.Found.{Holds-some}
use Rattle.changes.proofs.MergedMeets.{AreTwoConstants, PairsStayApart}
use Rattle.graph.proofs.InOrder.{not_straight, not_crossed}
use Rattle.graph.proofs.Sent.{passes-some}
use Rattle.graph.proofs.Tests.{and_left, and_right, and_both}
use Rattle.changes.specs.Reaching.{is_constant_of, is_number_at, tells_apart}
use Rattle.changes.specs.Merging.{MayMerge, merged_key, names_key, merged_pair}
use Rattle.reinterpret.specs.Open.{MayBeEither}
use Rattle.reinterpret.proofs.PairGraph.{none_differs}

and_comm : (a b : Bool) → (a && b) ≡ (b && a)
and_comm true true = refl
and_comm true false = refl
and_comm false true = refl
and_comm false false = refl

may_sym : (one other : Value) → may_be_unequal one other ≡ may_be_unequal other one
may_sym one other =
    ap (λ (b : Bool). (b || are_numbers one other 8) && not (is_constant one && is_constant other)) (and_comm (is_number one 4) (is_number other 4))
    ∙ ap (λ (b : Bool). (are_numbers other one 4 || b) && not (is_constant one && is_constant other)) (and_comm (is_number one 8) (is_number other 8))
    ∙ ap (λ (b : Bool). (are_numbers other one 4 || are_numbers other one 8) && not b) (and_comm (is_constant one) (is_constant other))

-- two constants
record AreConstants (one other : Value) : Type 0 where
  number : ℕ
  size : ℕ
  number' : ℕ
  size' : ℕ
  is : one ≡ Const number size
  is' : other ≡ Const number' size'

no_number : (a b c : Bool) → (((a && false) || (b && false)) && c) ≡ true → ⊥
no_number true true c any = false≢true any
no_number true false c any = false≢true any
no_number false true c any = false≢true any
no_number false false c any = false≢true any

-- a number may be unequal to what another one of its size may be unequal to, unless both are constants
constants_left : (value other : Value) (size : ℕ) → is_number value size ≡ true → may_be_unequal (Number size) other ≡ true → may_be_unequal value other ≡ false → AreConstants value other
constants_left (Number s) other size is may fails = absurd (false≢true (sym fails ∙ ap (λ (n : ℕ). may_be_unequal (Number n) other) (eqb-true _ _ is) ∙ may))
constants_left (Const n s) (Number t) size is may fails = absurd (false≢true (sym fails ∙ ap (λ (k : ℕ). may_be_unequal (Const n k) (Number t)) (eqb-true _ _ is) ∙ may))
constants_left (Const n s) (Const d t) size is may fails = record { number = n; size = s; number' = d; size' = t; is = refl; is' = refl }
constants_left (Const n s) Any size is may fails = absurd (no_number (nat_eq size 4) (nat_eq size 8) true may)
constants_left (Const n s) (Address object offset target) size is may fails = absurd (no_number (nat_eq size 4) (nat_eq size 8) true may)
constants_left Any other size is may fails = absurd (false≢true is)
constants_left (Address object offset target) other size is may fails = absurd (false≢true is)

module _ (parts : Parts) (kept gone : ℕ) (either : MayBeEither parts kept gone) where
  may : MayMerge parts kept gone
  may = either.merge

  -- of a pair of the graph
  record IsSpared (pair : Pair) : Type 0 where
    is : is_unequal_pair parts pair ≡ true
    apart : differs_from (record { left = kept; right = gone }) pair ≡ true
    free : (number size : ℕ) → value_at parts.values kept ≡ Some (Const number size) → tells_apart parts gone number pair ≡ false

  none_at : (test : Pair → Bool) (pairs : List Pair) (place : ℕ) (pair : Pair) → slice_get pairs place ≡ Some pair → list_any test pairs ≡ false → test pair ≡ false
  none_at test [] place pair stands none = absurd (none-some pair stands)
  none_at test (first ∷ rest) zero pair stands none = ap test (sym (same_Some _ _ stands)) ∙ first_false (test first) (list_any test rest) none
    where
      first_false : (a b : Bool) → (a || b) ≡ false → a ≡ false
      first_false true b none = none
      first_false false b none = refl
  none_at test (first ∷ rest) (suc place) pair stands none = none_at test rest place pair stands (second_false (test first) (list_any test rest) none)
    where
      second_false : (a b : Bool) → (a || b) ≡ false → b ≡ false
      second_false true b none = absurd (false≢true (sym none))
      second_false false b none = none

  key_kept : (key : ℕ) → nat_eq key gone ≡ true → merged_key kept gone key ≡ kept
  key_kept key is = ap (λ (b : Bool). if b then kept else key) is

  key_other : (key : ℕ) → nat_eq key gone ≡ false → merged_key kept gone key ≡ key
  key_other key is = ap (λ (b : Bool). if b then kept else key) is

  -- the values of a pair
  record ArePaired (pair : Pair) : Type 0 where
    one : Value
    other : Value
    one_is : value_at parts.values pair.left ≡ Some one
    other_is : value_at parts.values pair.right ≡ Some other
    may : may_be_unequal one other ≡ true
    apart : nat_eq pair.left pair.right ≡ false

  not_true : (b : Bool) → not b ≡ true → b ≡ false
  not_true true is = absurd (false≢true is)
  not_true false is = refl

  are_paired : (pair : Pair) → is_unequal_pair parts pair ≡ true → ArePaired pair
  are_paired pair is =
      let test = and_right (not (nat_eq pair.left pair.right)) (passes_at parts (λ one. passes_at parts (may_be_unequal one) pair.right) pair.left) is in
      let one = Holds-some (value_at parts.values pair.left) (passes-some (λ one. passes_at parts (may_be_unequal one) pair.right) (value_at parts.values pair.left) test) in
      let inner = subst (λ (o : Option Value). option_map_or (λ one. passes_at parts (may_be_unequal one) pair.right) o false ≡ true) one.is test in
      let other = Holds-some (value_at parts.values pair.right) (passes-some (may_be_unequal one.item) (value_at parts.values pair.right) inner) in
      record {
        one = one.item;
        other = other.item;
        one_is = one.is;
        other_is = other.is;
        may = subst (λ (o : Option Value). option_map_or (may_be_unequal one.item) o false ≡ true) other.is inner;
        apart = not_true (nat_eq pair.left pair.right) (and_left (not (nat_eq pair.left pair.right)) (passes_at parts (λ one. passes_at parts (may_be_unequal one) pair.right) pair.left) is);
      }

  -- that two values may be a pair, by what they are
  pair_is : (left right : ℕ) (one other : Value) → value_at parts.values left ≡ Some one → value_at parts.values right ≡ Some other → nat_eq left right ≡ false → is_unequal_pair parts (record { left = left; right = right }) ≡ may_be_unequal one other
  pair_is left right one other one_is other_is apart =
      ap (λ (b : Bool). not b && passes_at parts (λ value. passes_at parts (may_be_unequal value) right) left) apart
      ∙ ap (λ (o : Option Value). option_map_or (λ value. passes_at parts (may_be_unequal value) right) o false) one_is
      ∙ ap (λ (o : Option Value). option_map_or (may_be_unequal one) o false) other_is

  miss : (one other : ℕ) → (one ≡ other → ⊥) → nat_eq one other ≡ false
  miss one other differ = by_test (nat_eq one other) refl
    where
      by_test : (b : Bool) → nat_eq one other ≡ b → nat_eq one other ≡ false
      by_test true is = absurd (differ (eqb-true _ _ is))
      by_test false is = is

  constant_told : (key number number' size : ℕ) → value_at parts.values key ≡ Some (Const number' size) → number ≡ number' → is_number_at parts number key ≡ true
  constant_told key number number' size stands same = ap (λ (o : Option Value). option_map_or (is_constant_of number) o false) stands ∙ eq-eqb number' number (sym same)

  -- a pair of the value that goes, of which the pair in its place is none
  left_gone : (pair : Pair) → IsSpared pair → nat_eq pair.left gone ≡ true → is_unequal_pair parts (merged_pair kept gone pair) ≡ false → AreTwoConstants parts (merged_pair kept gone pair)
  left_gone pair spared here fails = record {
    one = constants.number;
    other = constants.number';
    one_size = constants.size;
    other_size = constants.size';
    left = ap (value_at parts.values) (key_kept pair.left here) ∙ kept_is;
    right = ap (value_at parts.values) (key_other pair.right right_other) ∙ right_is;
    differ = λ same.
        false≢true (sym (spared.free constants.number constants.size kept_is)
        ∙ ap (λ (b : Bool). (b && is_number_at parts constants.number pair.right) || (nat_eq pair.right gone && is_number_at parts constants.number pair.left)) here
        ∙ ap (λ (b : Bool). b || (nat_eq pair.right gone && is_number_at parts constants.number pair.left)) (constant_told pair.right constants.number constants.number' constants.size' right_is same));
  }
    where
      are : ArePaired pair
      are = are_paired pair spared.is

      left_is : pair.left ≡ gone
      left_is = eqb-true _ _ here

      right_other : nat_eq pair.right gone ≡ false
      right_other = miss pair.right gone (λ same. false≢true (sym are.apart ∙ eq-eqb _ _ (left_is ∙ sym same)))

      same_pair : is_unequal_pair parts (merged_pair kept gone pair) ≡ is_unequal_pair parts (record { left = kept; right = pair.right })
      same_pair =
          ap (λ (k : ℕ). is_unequal_pair parts (record { left = k; right = merged_key kept gone pair.right })) (key_kept pair.left here)
          ∙ ap (λ (k : ℕ). is_unequal_pair parts (record { left = kept; right = k })) (key_other pair.right right_other)

      constants : AreConstants may.value are.other
      constants = constants_left may.value are.other may.size may.kept_number
          (ap (λ (v : Value). may_be_unequal v are.other) (same_Some _ _ (sym (ap (value_at parts.values) left_is ∙ may.gone_is) ∙ are.one_is)) ∙ are.may)
          (sym (pair_is kept pair.right may.value are.other may.kept_is are.other_is (miss kept pair.right (λ same. not_crossed (record { left = kept; right = gone }) pair spared.apart same (sym left_is)))) ∙ sym same_pair ∙ fails)

      kept_is : value_at parts.values kept ≡ Some (Const constants.number constants.size)
      kept_is = may.kept_is ∙ ap (λ (v : Value). Some v) constants.is

      right_is : value_at parts.values pair.right ≡ Some (Const constants.number' constants.size')
      right_is = are.other_is ∙ ap (λ (v : Value). Some v) constants.is'

  right_gone : (pair : Pair) → IsSpared pair → nat_eq pair.right gone ≡ true → is_unequal_pair parts (merged_pair kept gone pair) ≡ false → AreTwoConstants parts (merged_pair kept gone pair)
  right_gone pair spared here fails = record {
    one = constants.number';
    other = constants.number;
    one_size = constants.size';
    other_size = constants.size;
    left = ap (value_at parts.values) (key_other pair.left left_other) ∙ left_is;
    right = ap (value_at parts.values) (key_kept pair.right here) ∙ kept_is;
    differ = λ same.
        false≢true (sym (spared.free constants.number constants.size kept_is)
        ∙ second (nat_eq pair.left gone && is_number_at parts constants.number pair.right) (nat_eq pair.right gone && is_number_at parts constants.number pair.left)
        (and_both (nat_eq pair.right gone) (is_number_at parts constants.number pair.left) here (constant_told pair.left constants.number constants.number' constants.size' left_is (sym same))));
  }
    where
      second : (a b : Bool) → b ≡ true → (a || b) ≡ true
      second true b is = refl
      second false b is = is

      are : ArePaired pair
      are = are_paired pair spared.is

      right_is : pair.right ≡ gone
      right_is = eqb-true _ _ here

      left_other : nat_eq pair.left gone ≡ false
      left_other = miss pair.left gone (λ same. false≢true (sym are.apart ∙ eq-eqb _ _ (same ∙ sym right_is)))

      same_pair : is_unequal_pair parts (merged_pair kept gone pair) ≡ is_unequal_pair parts (record { left = pair.left; right = kept })
      same_pair =
          ap (λ (k : ℕ). is_unequal_pair parts (record { left = k; right = merged_key kept gone pair.right })) (key_other pair.left left_other)
          ∙ ap (λ (k : ℕ). is_unequal_pair parts (record { left = pair.left; right = k })) (key_kept pair.right here)

      constants : AreConstants may.value are.one
      constants = constants_left may.value are.one may.size may.kept_number
          (may_sym (Number may.size) are.one ∙ ap (may_be_unequal are.one) (same_Some _ _ (sym (ap (value_at parts.values) right_is ∙ may.gone_is) ∙ are.other_is)) ∙ are.may)
          (may_sym may.value are.one
          ∙ sym (pair_is pair.left kept are.one may.value are.one_is may.kept_is (miss pair.left kept (λ same. not_straight (record { left = kept; right = gone }) pair spared.apart (sym same) (sym right_is)))) ∙ sym same_pair ∙ fails)

      kept_is : value_at parts.values kept ≡ Some (Const constants.number constants.size)
      kept_is = may.kept_is ∙ ap (λ (v : Value). Some v) constants.is

      left_is : value_at parts.values pair.left ≡ Some (Const constants.number' constants.size')
      left_is = are.one_is ∙ ap (λ (v : Value). Some v) constants.is'

  named_gone : (pair : Pair) → IsSpared pair → names_key gone pair ≡ true → is_unequal_pair parts (merged_pair kept gone pair) ≡ false → AreTwoConstants parts (merged_pair kept gone pair)
  named_gone pair spared names fails = by_side (nat_eq pair.left gone) refl (nat_eq pair.right gone) refl names
    where
      by_side : (a : Bool) → nat_eq pair.left gone ≡ a → (b : Bool) → nat_eq pair.right gone ≡ b → (a || b) ≡ true → AreTwoConstants parts (merged_pair kept gone pair)
      by_side true a b b_is any = left_gone pair spared a fails
      by_side false a_is true b any = right_gone pair spared b fails
      by_side false a_is false b_is any = absurd (false≢true any)

  -- so it is with all pairs of the graph
  pub pairs_apart : list_all (is_unequal_pair parts) parts.unequal ≡ true → PairsStayApart parts kept gone
  pairs_apart all place pair stands names fails = named_gone pair
      (record {
        is = passes-at (is_unequal_pair parts) parts.unequal place pair stands all;
        apart = passes-at (differs_from (record { left = kept; right = gone })) parts.unequal place pair stands (none_differs (record { left = kept; right = gone }) parts.unequal either.fresh);
        free = λ number size is. none_at (tells_apart parts gone number) parts.unequal place pair stands (either.free number size is);
      }) names fails
