-- Numbers that are given for some values are completed.
use Rattle.std.proofs.Common.{◌≡◌, ◌≢◌, ℕ, zero, suc, ◌*◌, ◌^◌, ◌<◌, ◌≤◌, Bool, true, false, ◌&&◌, ◌||◌, not, List, [], ◌∷◌, length, nat_eq, nat_le, nat_lt, Option, None, Some, refl, sym, ◌∙◌, ap, subst, eqb-true, eq-eqb, le-leb, ltb-true, arith, ◌⊎◌, inl, inr}
use Rattle.std.specs.Prelude.{slice_get, if◌then◌else◌}
use Rattle.std.specs.Option.{option_map_or}
use Rattle.std.proofs.lemmas.Bool.{false≢true}
use Rattle.std.proofs.lemmas.Option.{same_Some, none-some}
use Rattle.graph.specs.declared.value.Value.{Value}
use Rattle.graph.specs.declared.value.Value.TheVariants.{Const, Number, Any, Address}
use Rattle.graph.specs.declared.parts.KeyedValue.{KeyedValue}
use Rattle.graph.specs.declared.parts.Pair.{Pair}
use Rattle.graph.specs.declared.parts.Parts.{Parts}
use Rattle.graph.specs.Maps.{value_at}
use Rattle.graph.specs.Numbers.{AreNumbers, AreSomeNumbers, AreAmong, NumbersAreCompleted}
use Rattle.graph.specs.Sizes.{is_sized, is_number, is_constant}
use Rattle.graph.specs.WellFormed.{IsWellFormed, passes_at, is_unequal_pair, may_be_unequal, are_numbers, nodes, is_within_limits}
use Rattle.graph.proofs.Chosen.{is_in, is_in-later, is_in-first, chosen, chosen-below, chosen-outside, chosen-differ}
use Rattle.graph.proofs.Closed.{passes-at}
use Rattle.graph.proofs.Found.{Holds-some, found-all}
use Rattle.graph.proofs.Scalars.{chosen_fits}
use Rattle.graph.proofs.Sent.{passes-some}
use Rattle.graph.proofs.Tests.{and_left, and_right}

-- a number of a pair has 4 or 8 bytes
abbrev pub IsWideNumber : Value → Type 0
IsWideNumber value = (is_number value 4 ≡ true) ⊎ (is_number value 8 ≡ true)

wide_numbers : (one next : Value) → may_be_unequal one next ≡ true → IsWideNumber one × IsWideNumber next
wide_numbers one next may = by_cases (are_numbers one next 4) refl (and_left (are_numbers one next 4 || are_numbers one next 8) (not (is_constant one && is_constant next)) may)
  where
    by_cases : (b : Bool) → are_numbers one next 4 ≡ b → (b || are_numbers one next 8) ≡ true → IsWideNumber one × IsWideNumber next
    by_cases true is either = (inl (and_left (is_number one 4) (is_number next 4) is), inl (and_right (is_number one 4) (is_number next 4) is))
    by_cases false is either = (inr (and_left (is_number one 8) (is_number next 8) either), inr (and_right (is_number one 8) (is_number next 8) either))

not_true : (b : Bool) → not b ≡ true → b ≡ true → ⊥
not_true true is_not is = false≢true is_not
not_true false is_not is = false≢true is

-- a pair is of two values, of which each is a number of 4 or 8 bytes, and not both are constants
pub record IsPair (values : List KeyedValue) (pair : Pair) : Type 0 where
  pub differ : pair.left ≢ pair.right
  pub one : Value
  pub next : Value
  pub one_is : value_at values pair.left ≡ Some one
  pub next_is : value_at values pair.right ≡ Some next
  pub numbers : IsWideNumber one × IsWideNumber next
  pub not_both : is_constant one ≡ true → is_constant next ≡ true → ⊥

pair_is : (parts : Parts) (pair : Pair) → is_unequal_pair parts pair ≡ true → IsPair parts.values pair
pair_is parts pair unequal =
    let passes = and_right (not (nat_eq pair.left pair.right)) (passes_at parts (λ one. passes_at parts (may_be_unequal one) pair.right) pair.left) unequal in
    let left = Holds-some (value_at parts.values pair.left) (passes-some (λ one. passes_at parts (may_be_unequal one) pair.right) (value_at parts.values pair.left) passes) in
    let next_passes = subst (λ (o : Option Value). option_map_or (λ one. passes_at parts (may_be_unequal one) pair.right) o false ≡ true) left.is passes in
    let right = Holds-some (value_at parts.values pair.right) (passes-some (may_be_unequal left.item) (value_at parts.values pair.right) next_passes) in
    let may = subst (λ (o : Option Value). option_map_or (may_be_unequal left.item) o false ≡ true) right.is next_passes in
    record {
      differ = λ equal. not_true (nat_eq pair.left pair.right) (and_left (not (nat_eq pair.left pair.right)) (passes_at parts (λ one. passes_at parts (may_be_unequal one) pair.right) pair.left) unequal) (eq-eqb _ _ equal);
      one = left.item;
      next = right.item;
      one_is = left.is;
      next_is = right.is;
      numbers = wide_numbers left.item right.item may;
      not_both = λ one next. not_true (is_constant left.item && is_constant right.item)
          (and_right (are_numbers left.item right.item 4 || are_numbers left.item right.item 8) (not (is_constant left.item && is_constant right.item)) may)
          (ap (λ (b : Bool). b && is_constant right.item) one ∙ next);
    }

pub pair_at : (parts : Parts) → IsWellFormed parts → (place : ℕ) (pair : Pair) → slice_get parts.unequal place ≡ Some pair → IsPair parts.values pair
pair_at parts well_formed place pair stands = pair_is parts pair (passes-at (is_unequal_pair parts) parts.unequal place pair stands well_formed.pairs_may_be_unequal)

-- the keys of pairs, and the numbers that are known of their values
abbrev pair_keys : List Pair → List ℕ
pair_keys [] = []
pair_keys (pair ∷ rest) = pair.left ∷ pair.right ∷ pair_keys rest

abbrev or_zero : Option ℕ → ℕ
or_zero None = 0
or_zero (Some number) = number

abbrev pair_numbers : (ℕ → Option ℕ) → List Pair → List ℕ
pair_numbers known [] = []
pair_numbers known (pair ∷ rest) = or_zero (known pair.left) ∷ or_zero (known pair.right) ∷ pair_numbers known rest

length-pair_keys : (pairs : List Pair) → length (pair_keys pairs) ≡ 2 * length pairs
length-pair_keys [] = refl
length-pair_keys (pair ∷ rest) = let e = length-pair_keys rest in omega arith

length-pair_numbers : (known : ℕ → Option ℕ) (pairs : List Pair) → length (pair_numbers known pairs) ≡ 2 * length pairs
length-pair_numbers known [] = refl
length-pair_numbers known (pair ∷ rest) = let e = length-pair_numbers known rest in omega arith

-- what is in both lists of a pair
record IsListed (known : ℕ → Option ℕ) (pairs : List Pair) (pair : Pair) : Type 0 where
  left : is_in pair.left (pair_keys pairs) ≡ true
  right : is_in pair.right (pair_keys pairs) ≡ true
  left_number : is_in (or_zero (known pair.left)) (pair_numbers known pairs) ≡ true
  right_number : is_in (or_zero (known pair.right)) (pair_numbers known pairs) ≡ true

listed_first : (known : ℕ → Option ℕ) (first : Pair) (rest : List Pair) → IsListed known (first ∷ rest) first
listed_first known first rest = record {
  left = is_in-first first.left (first.right ∷ pair_keys rest);
  right = is_in-later first.right first.left (first.right ∷ pair_keys rest) (is_in-first first.right (pair_keys rest));
  left_number = is_in-first (or_zero (known first.left)) (or_zero (known first.right) ∷ pair_numbers known rest);
  right_number = is_in-later (or_zero (known first.right)) (or_zero (known first.left)) (or_zero (known first.right) ∷ pair_numbers known rest) (is_in-first (or_zero (known first.right)) (pair_numbers known rest));
}

later_twice : (number one next : ℕ) (rest : List ℕ) → is_in number rest ≡ true → is_in number (one ∷ next ∷ rest) ≡ true
later_twice number one next rest within = is_in-later number one (next ∷ rest) (is_in-later number next rest within)

listed : (known : ℕ → Option ℕ) (pairs : List Pair) (place : ℕ) (pair : Pair) → slice_get pairs place ≡ Some pair → IsListed known pairs pair
listed known [] place pair stands = absurd (none-some pair stands)
listed known (first ∷ rest) zero pair stands = subst (IsListed known (first ∷ rest)) (same_Some first pair stands) (listed_first known first rest)
listed known (first ∷ rest) (suc place) pair stands =
    let later = listed known rest place pair stands in
    record {
      left = later_twice pair.left first.left first.right (pair_keys rest) later.left;
      right = later_twice pair.right first.left first.right (pair_keys rest) later.right;
      left_number = later_twice (or_zero (known pair.left)) (or_zero (known first.left)) (or_zero (known first.right)) (pair_numbers known rest) later.left_number;
      right_number = later_twice (or_zero (known pair.right)) (or_zero (known first.left)) (or_zero (known first.right)) (pair_numbers known rest) later.right_number;
    }

wide_size : (size : ℕ) → IsWideNumber (Number size) → (number : ℕ) → (if nat_le 4 size then number else 0) ≡ number
wide_size size either number = ap (λ (b : Bool). if b then number else 0) (le-leb 4 size (by_cases either))
  where
    by_cases : (nat_eq size 4 ≡ true) ⊎ (nat_eq size 8 ≡ true) → 4 ≤ size
    by_cases (inl four) = let e = eqb-true _ _ four in omega arith
    by_cases (inr eight) = let e = eqb-true _ _ eight in omega arith

neither : {A : Type 0} → (false ≡ true) ⊎ (false ≡ true) → A
neither (inl h) = absurd (false≢true h)
neither (inr h) = absurd (false≢true h)

-- the number of a value, where this one is free
abbrev free_number : ℕ → Option Value → ℕ
free_number number None = 0
free_number number (Some (Const constant size)) = 0
free_number number (Some (Number size)) = if nat_le 4 size then number else 0
free_number number (Some Any) = 0
free_number number (Some (Address object offset target)) = 0

abbrev number_as : ℕ → Option ℕ → Option Value → ℕ
number_as free (Some number) value = number
number_as free None value = free_number free value

module _ (parts : Parts) (known : ℕ → Option ℕ) (well_formed : IsWellFormed parts) (limits : is_within_limits parts ≡ true) (some : AreSomeNumbers parts known) where
  abbrev taken : List ℕ
  taken = pair_numbers known parts.unequal

  abbrev free : ℕ → ℕ
  free key = chosen (pair_keys parts.unequal) taken key

  abbrev number_of : ℕ → ℕ
  number_of key = number_as (free key) (known key) (value_at parts.values key)

  free-below : (key : ℕ) → free key < 2 ^ 32
  free-below key =
      let few = ltb-true _ _ (and_right (nat_lt (nodes parts) (2 ^ 30)) (nat_lt (length parts.unequal) (2 ^ 30)) limits) in
      let below = chosen-below (pair_keys parts.unequal) taken key in
      let keys = length-pair_keys parts.unequal in
      let numbers = length-pair_numbers known parts.unequal in
      omega arith

  known_is : AreAmong known number_of
  known_is key one is = ap (λ (o : Option ℕ). number_as (free key) o (value_at parts.values key)) is

  number_fits : (key size : ℕ) → value_at parts.values key ≡ Some (Number size) → number_of key < 256 ^ size
  number_fits key size is = by_known (known key) refl
    where
      by_known : (o : Option ℕ) → known key ≡ o → number_as (free key) o (value_at parts.values key) < 256 ^ size
      by_known (Some number) given = some.fits key size number is given
      by_known None given =
          subst (λ (o : Option Value). free_number (free key) o < 256 ^ size) (sym is)
          (chosen_fits (free key) size (found-all (λ (entry : KeyedValue). entry.key) (λ entry. entry.value) is_sized parts.values key (Number size) well_formed.values_are_sized is) (free-below key))

  -- a number of a pair of which nothing is known is free
  free_is : (key : ℕ) (value : Value) → known key ≡ None → value_at parts.values key ≡ Some value → IsWideNumber value → number_of key ≡ free key
  free_is key value none is wide = ap (λ (o : Option ℕ). number_as (free key) o (value_at parts.values key)) none ∙ ap (free_number (free key)) is ∙ by_value value is wide
    where
      by_value : (value : Value) → value_at parts.values key ≡ Some value → IsWideNumber value → free_number (free key) (Some value) ≡ free key
      by_value (Const constant size) is wide = absurd (none-some constant (sym none ∙ some.constants key constant size is))
      by_value (Number size) is wide = wide_size size wide (free key)
      by_value Any is wide = neither wide
      by_value (Address object offset target) is wide = neither wide

  -- it is none of the numbers that are known
  outside : (key other : ℕ) → is_in key (pair_keys parts.unequal) ≡ true → is_in (or_zero (known other)) taken ≡ true → free key ≢ or_zero (known other)
  outside key other key_in other_in equal =
      false≢true (sym (chosen-outside (pair_keys parts.unequal) taken key key_in) ∙ ap (λ (n : ℕ). is_in n taken) equal ∙ other_in)

  numbers_differ : (place : ℕ) (pair : Pair) → slice_get parts.unequal place ≡ Some pair → number_of pair.left ≢ number_of pair.right
  numbers_differ place pair stands = by_known (known pair.left) refl (known pair.right) refl
    where
      is : IsPair parts.values pair
      is = pair_at parts well_formed place pair stands

      in_lists : IsListed known parts.unequal pair
      in_lists = listed known parts.unequal place pair stands

      by_known : (one : Option ℕ) → known pair.left ≡ one → (other : Option ℕ) → known pair.right ≡ other → number_of pair.left ≢ number_of pair.right
      by_known (Some one) left (Some other) right equal = some.unequal place pair one other stands left right (sym (known_is pair.left one left) ∙ equal ∙ known_is pair.right other right)
      by_known None left (Some other) right equal =
          outside pair.left pair.right in_lists.left in_lists.right_number
          (sym (free_is pair.left is.one left is.one_is is.numbers.0) ∙ equal ∙ known_is pair.right other right ∙ sym (ap or_zero right))
      by_known (Some one) left None right equal =
          outside pair.right pair.left in_lists.right in_lists.left_number
          (sym (free_is pair.right is.next right is.next_is is.numbers.1) ∙ sym equal ∙ known_is pair.left one left ∙ sym (ap or_zero left))
      by_known None left None right equal =
          chosen-differ (pair_keys parts.unequal) taken pair.left pair.right is.differ in_lists.left in_lists.right
          (sym (free_is pair.left is.one left is.one_is is.numbers.0) ∙ equal ∙ free_is pair.right is.next right is.next_is is.numbers.1)

  completed : (number : ℕ → ℕ) × AreNumbers parts number × AreAmong known number
  completed = (
    number_of,
    record { constants = λ key constant size is. known_is key constant (some.constants key constant size is); fits = number_fits; unequal = numbers_differ },
    known_is,
  )

pub numbers_are_completed : NumbersAreCompleted
numbers_are_completed parts known well_formed limits some = completed parts known well_formed limits some

-- the number of a constant
abbrev pub constant_in : Option Value → Option ℕ
constant_in None = None
constant_in (Some (Const constant size)) = Some constant
constant_in (Some (Number size)) = None
constant_in (Some Any) = None
constant_in (Some (Address object offset target)) = None

constant_is : (value : Value) (number : ℕ) → constant_in (Some value) ≡ Some number → is_constant value ≡ true
constant_is (Const constant size) number is = refl
constant_is (Number size) number is = absurd (none-some number is)
constant_is Any number is = absurd (none-some number is)
constant_is (Address object offset target) number is = absurd (none-some number is)

-- constants alone are numbers of some of the values
pub constants_are : (parts : Parts) → IsWellFormed parts → AreSomeNumbers parts (λ key. constant_in (value_at parts.values key))
constants_are parts well_formed = record {
  constants = λ key constant size is. ap constant_in is;
  fits = λ key size number is found. absurd (none-some number (sym (ap constant_in is) ∙ found));
  unequal = λ place pair one other stands left right equal.
      let is = pair_at parts well_formed place pair stands in
      is.not_both (constant_is is.one one (sym (ap constant_in is.one_is) ∙ left)) (constant_is is.next other (sym (ap constant_in is.next_is) ∙ right));
}
