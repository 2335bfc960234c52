-- Two numbers that may be the same or not: one may go, and no pair is of the two.
use Rattle.std.proofs.Common.{◌≡◌, ℕ, Bool, true, false, ◌&&◌, ◌||◌, not, List, [], ◌∷◌, nat_eq, Option, None, Some, refl, sym, ◌∙◌, ap, subst, eqb-true, eq-eqb, ◌⊎◌, inl, inr}
use Rattle.std.specs.Prelude.{if◌then◌else◌}
use Rattle.std.specs.List.{list_any}
use Rattle.std.specs.Option.{option_map_or}
use Rattle.std.specs.Ordering.{int_eq}
use Rattle.std.proofs.lemmas.Bool.{false≢true}
use Rattle.std.proofs.lemmas.Option.{same_Some}
use Rattle.graph.specs.declared.parts.Pair.{Pair}
use Rattle.graph.specs.declared.parts.Parts.{Parts}
use Rattle.graph.specs.declared.value.Value.{Value}
use Rattle.graph.specs.declared.value.Value.TheVariants.{Const, Number, Any, Address}
use Rattle.graph.specs.Maps.{value_at, held_by}
use Rattle.graph.specs.Sizes.{value_size, is_constant}
use Rattle.graph.specs.WellFormed.{passes_at, differs_from}
use Rattle.graph.proofs.Found.{Holds-some}
use Rattle.graph.proofs.Sent.{passes-some}
use Rattle.graph.proofs.Tests.{and_left, and_right}
use Rattle.changes.specs.Reaching.{is_constant_of, is_number_at, tells_apart, is_excluded, names_no_segment}
use Rattle.reinterpret.specs.Comparing.{is_noted, is_inside_live, unsure, null_compared, values_compared, found_compared, compared}
use Rattle.reinterpret.specs.Open.{IsOpen}
use Rattle.reinterpret.specs.Sameness.{are_of_one_size, keys_compare, may_compare}
use Rattle.reinterpret.specs.declared.comparison.Comparison.TheVariants as known
use Rattle.reinterpret.proofs.Told.{noted_sides}

any_implies : {X : Type 0} (p q : X → Bool) → ((x : X) → p x ≡ true → q x ≡ true) → (xs : List X) → list_any p xs ≡ true → list_any q xs ≡ true
any_implies p q implies [] any = any
any_implies p q implies (x ∷ rest) any = by_first (p x) refl any (any_implies p q implies rest)
  where
    either : (a b : Bool) → b ≡ true → (a || b) ≡ true
    either true b is = refl
    either false b is = is

    by_first : (b : Bool) → p x ≡ b → (b || list_any p rest) ≡ true → (list_any p rest ≡ true → list_any q rest ≡ true) → (q x || list_any q rest) ≡ true
    by_first true is any later = ap (λ (b : Bool). b || list_any q rest) (implies x is)
    by_first false is any later = either (q x) (list_any q rest) (later any)

-- a pair of a number and a constant excludes the constant
constant_fresh : (parts : Parts) (kept other number size : ℕ) → value_at parts.values kept ≡ Some (Const number size) → is_excluded parts other number ≡ false → is_noted parts kept other ≡ false
constant_fresh parts kept other number size stands free = by_noted (is_noted parts kept other) refl
  where
    number_is : (key : ℕ) → kept ≡ key → is_number_at parts number key ≡ true
    number_is key same = ap (is_number_at parts number) (sym same) ∙ ap (λ (o : Option Value). option_map_or (is_constant_of number) o false) stands ∙ eq-eqb number number refl

    told : (a b c d : Bool) → (a ≡ true) × (b ≡ true) ⊎ ((c ≡ true) × (d ≡ true)) → ((a && b) || (c && d)) ≡ true
    told a b c d (inl both) = ap (λ (x : Bool). (x && b) || (c && d)) both.0 ∙ ap (λ (x : Bool). x || (c && d)) both.1
    told true true c d (inr both) = refl
    told true false c d (inr both) = ap (λ (x : Bool). x && d) both.0 ∙ both.1
    told false b c d (inr both) = ap (λ (x : Bool). x && d) both.0 ∙ both.1

    tells : (pair : Pair) → not (differs_from (record { left = kept; right = other }) pair) ≡ true → tells_apart parts other number pair ≡ true
    tells pair is = by_sides (noted_sides kept other pair is)
      where
        by_sides : ((kept ≡ pair.left) × (other ≡ pair.right)) ⊎ ((kept ≡ pair.right) × (other ≡ pair.left)) → tells_apart parts other number pair ≡ true
        by_sides (inl sides) = told (nat_eq pair.left other) (is_number_at parts number pair.right) (nat_eq pair.right other) (is_number_at parts number pair.left) (inr (eq-eqb _ _ (sym sides.1), number_is pair.left sides.0))
        by_sides (inr sides) = told (nat_eq pair.left other) (is_number_at parts number pair.right) (nat_eq pair.right other) (is_number_at parts number pair.left) (inl (eq-eqb _ _ (sym sides.1), number_is pair.right sides.0))

    by_noted : (b : Bool) → is_noted parts kept other ≡ b → is_noted parts kept other ≡ false
    by_noted true is = absurd (false≢true (sym free ∙ any_implies (λ pair. not (differs_from (record { left = kept; right = other }) pair)) (tells_apart parts other number) tells parts.unequal is))
    by_noted false is = is

number_in : Value → ℕ
number_in (Const number size) = number
number_in (Number size) = 0
number_in Any = 0
number_in (Address object offset target) = 0

number_same : (number size number' size' : ℕ) → Const number size ≡ Const number' size' → number ≡ number'
unfolding number_in
number_same number size number' size' same = ap number_in same

module _ (parts : Parts) (left right : ℕ) where
  unsure_open : IsOpen parts (unsure left right)
  unsure_open = by_key (nat_eq left right)
    where
      by_key : (b : Bool) → IsOpen parts (if b then known.Itself else known.Unknown)
      by_key true = tt
      by_key false = tt

  null_open : (number : ℕ) (value : Value) → IsOpen parts (null_compared parts left right number value)
  null_open number value = by_test (nat_eq number 0 && is_inside_live parts value)
    where
      by_test : (b : Bool) → IsOpen parts (if b then known.Different else unsure left right)
      by_test true = tt
      by_test false = unsure_open

  sure_open : (b : Bool) → IsOpen parts (if b then known.Same else known.Different)
  sure_open true = tt
  sure_open false = tt

  places_open : (a b : Bool) → IsOpen parts (if a then (if b then known.Same else known.Different) else unsure left right)
  places_open true b = sure_open b
  places_open false b = unsure_open

  values_open : (one other : Value) → value_at parts.values left ≡ Some one → value_at parts.values right ≡ Some other → nat_eq (value_size one) (value_size other) ≡ true → IsOpen parts (values_compared parts left right one other)
  values_open (Const number size) (Const number' size') stands stands' sizes = sure_open (nat_eq number number')
  values_open (Const number size) (Number size') stands stands' sizes = by_test (is_excluded parts right number) refl
    where
      by_test : (b : Bool) → is_excluded parts right number ≡ b → IsOpen parts (if b then known.Different else known.Either left right)
      by_test true is = tt
      by_test false is = record {
        merge = record { size = size'; value = Const number size; gone_is = stands'; kept_is = stands; kept_number = sizes };
        fresh = constant_fresh parts left right number size stands is;
        free = λ n s there. ap (is_excluded parts right) (sym (number_same number size n s (same_Some _ _ (sym stands ∙ there)))) ∙ is;
      }
  values_open (Const number size) Any stands stands' sizes = unsure_open
  values_open (Const number size) (Address object offset target) stands stands' sizes = null_open number (Address object offset target)
  values_open (Number size) (Const number' size') stands stands' sizes = by_test (is_excluded parts left number') refl
    where
      by_test : (b : Bool) → is_excluded parts left number' ≡ b → IsOpen parts (if b then known.Different else known.Either right left)
      by_test true is = tt
      by_test false is = record {
        merge = record { size = size; value = Const number' size'; gone_is = stands; kept_is = stands'; kept_number = eq-eqb _ _ (sym (eqb-true _ _ sizes)) };
        fresh = constant_fresh parts right left number' size' stands' is;
        free = λ n s there. ap (is_excluded parts left) (sym (number_same number' size' n s (same_Some _ _ (sym stands' ∙ there)))) ∙ is;
      }
  values_open (Number size) (Number size') stands stands' sizes = by_key (nat_eq left right) (is_noted parts left right) refl
    where
      by_key : (a b : Bool) → is_noted parts left right ≡ b → IsOpen parts (if a then known.Same else (if b then known.Different else known.Either left right))
      by_key true b is = tt
      by_key false true is = tt
      by_key false false is = record {
        merge = record { size = size'; value = Number size; gone_is = stands'; kept_is = stands; kept_number = sizes };
        fresh = is;
        free = λ n s there. absurd (false≢true (ap is_constant (same_Some _ _ (sym stands ∙ there))));
      }
  values_open (Number size) Any stands stands' sizes = unsure_open
  values_open (Number size) (Address object offset target) stands stands' sizes = unsure_open
  values_open Any other stands stands' sizes = unsure_open
  values_open (Address object offset target) (Const number size) stands stands' sizes = null_open number (Address object offset target)
  values_open (Address object offset target) (Number size) stands stands' sizes = unsure_open
  values_open (Address object offset target) Any stands stands' sizes = unsure_open
  values_open (Address object offset target) (Address object' offset' target') stands stands' sizes =
      places_open (is_inside_live parts (Address object offset target) && is_inside_live parts (Address object' offset' target')) (nat_eq object object' && int_eq offset offset')

-- the values that two registers hold
pub record AreCompared (parts : Parts) (one other : ℕ) : Type 0 where
  pub value : Value
  pub second : Value
  pub is : value_at parts.values one ≡ Some value
  pub second_is : value_at parts.values other ≡ Some second
  pub sizes : nat_eq (value_size value) (value_size second) ≡ true
  pub names : names_no_segment value ≡ true
  pub second_names : names_no_segment second ≡ true

pub compared_at : (parts : Parts) (left right one other : ℕ) → may_compare parts left right ≡ true → held_by parts.registers left ≡ Some one → held_by parts.registers right ≡ Some other → AreCompared parts one other
compared_at parts left right one other may held held' =
    let outer = sym (ap (λ (o : Option ℕ). keys_compare parts o (held_by parts.registers right)) held ∙ ap (keys_compare parts (Some one)) held') ∙ may in
    let found = Holds-some (value_at parts.values one) (passes-some (λ value. passes_at parts (are_of_one_size value) other) (value_at parts.values one) outer) in
    let inner = subst (λ (o : Option Value). option_map_or (λ value. passes_at parts (are_of_one_size value) other) o false ≡ true) found.is outer in
    let second = Holds-some (value_at parts.values other) (passes-some (are_of_one_size found.item) (value_at parts.values other) inner) in
    let all = subst (λ (o : Option Value). option_map_or (are_of_one_size found.item) o false ≡ true) second.is inner in
    let names = and_right (nat_eq (value_size found.item) (value_size second.item)) (names_no_segment found.item && names_no_segment second.item) all in
    record {
      value = found.item;
      second = second.item;
      is = found.is;
      second_is = second.is;
      sizes = and_left (nat_eq (value_size found.item) (value_size second.item)) (names_no_segment found.item && names_no_segment second.item) all;
      names = and_left (names_no_segment found.item) (names_no_segment second.item) names;
      second_names = and_right (names_no_segment found.item) (names_no_segment second.item) names;
    }

pub compared_values : (parts : Parts) (one other : ℕ) (are : AreCompared parts one other) → compared parts one other ≡ values_compared parts one other are.value are.second
compared_values parts one other are =
    ap (λ (o : Option Value). found_compared parts one other o (value_at parts.values other)) are.is ∙ ap (found_compared parts one other (Some are.value)) are.second_is

pub compared_open : (parts : Parts) (one other : ℕ) (are : AreCompared parts one other) → IsOpen parts (compared parts one other)
compared_open parts one other are =
    subst (IsOpen parts) (sym (compared_values parts one other are)) (values_open parts one other are.value are.second are.is are.second_is are.sizes)

-- registers that hold something
pub both_held : (parts : Parts) (left right : ℕ) → may_compare parts left right ≡ true → (one : ℕ) × (other : ℕ) × (held_by parts.registers left ≡ Some one) × (held_by parts.registers right ≡ Some other)
both_held parts left right may = by_held (held_by parts.registers left) refl (held_by parts.registers right) refl may
  where
    by_held : (found : Option ℕ) → held_by parts.registers left ≡ found → (found' : Option ℕ) → held_by parts.registers right ≡ found' → keys_compare parts found found' ≡ true →
        (one : ℕ) × (other : ℕ) × (held_by parts.registers left ≡ Some one) × (held_by parts.registers right ≡ Some other)
    by_held None is found' is' may = absurd (false≢true may)
    by_held (Some one) is None is' may = absurd (false≢true may)
    by_held (Some one) is (Some other) is' may = (one, other, is, is')
