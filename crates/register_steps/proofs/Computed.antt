-- Operations on integers, and conversions of them.
use Rattle.std.proofs.Common.{◌≡◌, ℕ, ◌%◌, ◌^◌, ◌<◌, Bool, true, false, ◌&&◌, ◌||◌, nat_eq, nat_lt, Option, None, Some, ◌⊎◌, inl, inr, refl, sym, ◌∙◌, ap, subst, eqb-true, lt-ltb, ltb-true, arith}
use Rattle.std.specs.Prelude.{IsSome, IfSome, if◌then◌else◌}
use Rattle.std.specs.Option.{option_map_or}
use Rattle.std.proofs.lemmas.Bool.{false≢true}
use Rattle.std.proofs.lemmas.Option.{same_Some, none-some}
use Rattle.arithmetic.specs.declared.op.Op.{Op}
use Rattle.arithmetic.specs.declared.op.Op.TheVariants.{Add, Sub, Mul, Div, Rem, And, Or, Xor, Left, Right, Less, LessEqual}
use Rattle.arithmetic.specs.declared.size.Size.{Size}
use Rattle.arithmetic.specs.declared.size.Size.TheVariants.{One, Two, Four, Eight}
use Rattle.arithmetic.specs.Comparing.{answer, is_less, is_less_equal}
use Rattle.arithmetic.specs.Computing.{computed}
use Rattle.arithmetic.specs.Conversion.{converted}
use Rattle.arithmetic.specs.Size.{bytes, size_of}
use Rattle.arithmetic.specs.Value.{modulus, value}
use Rattle.arithmetic.proofs.Inverse.{bits_small, bits_value}
use Rattle.arithmetic.proofs.Quotients.{computed_small}
use Rattle.bytes_core.specs.declared.word.Word.{Word}
use Rattle.bytes_core.specs.declared.word.Word.TheVariants.{Plain}
use Rattle.bytes_core.specs.Value.{address_number}
use Rattle.graph.specs.declared.parts.KeyedValue.{KeyedValue}
use Rattle.graph.specs.declared.parts.Parts.{Parts}
use Rattle.graph.specs.declared.value.Value.{Value}
use Rattle.graph.specs.declared.value.Value.TheVariants.{Const, Number, Any, Address}
use Rattle.graph.specs.Maps.{value_at}
use Rattle.graph.specs.Sizes.{value_size, is_scalar_size, is_sized}
use Rattle.graph.specs.State.{State}
use Rattle.graph.specs.WellFormed.{may_be_held}
use Rattle.graph.specs.Whole.{IsGraph}
use Rattle.graph.specs.Meaning.{maps_of, Assignment, Meets}
use Rattle.graph.proofs.Tests.{and_right, and_both}
use Rattle.register_steps.specs.Gaining.{size_held}
use Rattle.register_steps.specs.Lines.{exactly, kept, losing, truth, is_test, size_given, of_constants, of_others, computed_line, converted_line}
use Rattle.register_steps.specs.States.{GivesComputed, GivesConverted}
use Rattle.register_steps.specs.Steps.{line_of_compute, line_of_convert, on_held, entry_held}
use Rattle.register_steps.proofs.Gained.{IsRight}
use Rattle.register_steps.proofs.Right.{IsRightWord, right_by, IsEntry, entry_word, entry_same, nothing_right, held_right}
use Rattle.register_steps.proofs.Simple.{size_is_held}

-- Sizes.

pub size_of_bytes : (size : Size) (count : ℕ) → size_of count ≡ Some size → bytes size ≡ count
size_of_bytes size count is = by_cases (nat_eq count 1) refl (nat_eq count 2) refl (nat_eq count 4) refl (nat_eq count 8) refl is
  where
    by_cases : (a : Bool) → nat_eq count 1 ≡ a → (b : Bool) → nat_eq count 2 ≡ b → (c : Bool) → nat_eq count 4 ≡ c → (d : Bool) → nat_eq count 8 ≡ d →
        (if a then Some One else (if b then Some Two else (if c then Some Four else (if d then Some Eight else None)))) ≡ Some size → bytes size ≡ count
    by_cases true one b b_is c c_is d d_is is = ap bytes (sym (same_Some _ _ is)) ∙ sym (eqb-true _ _ one)
    by_cases false a_is true two c c_is d d_is is = ap bytes (sym (same_Some _ _ is)) ∙ sym (eqb-true _ _ two)
    by_cases false a_is false b_is true four d d_is is = ap bytes (sym (same_Some _ _ is)) ∙ sym (eqb-true _ _ four)
    by_cases false a_is false b_is false c_is true eight is = ap bytes (sym (same_Some _ _ is)) ∙ sym (eqb-true _ _ eight)
    by_cases false a_is false b_is false c_is false d_is is = absurd (none-some size is)

pub scalar_size : (count : ℕ) → is_scalar_size count ≡ true → (size : Size) × (bytes size ≡ count)
scalar_size count scalar = by_cases (nat_eq count 1) refl (nat_eq count 2) refl (nat_eq count 4) refl (nat_eq count 8) refl scalar
  where
    by_cases : (a : Bool) → nat_eq count 1 ≡ a → (b : Bool) → nat_eq count 2 ≡ b → (c : Bool) → nat_eq count 4 ≡ c → (d : Bool) → nat_eq count 8 ≡ d → (a || (b || (c || d))) ≡ true → (size : Size) × (bytes size ≡ count)
    by_cases true one b b_is c c_is d d_is any = (One, sym (eqb-true _ _ one))
    by_cases false a_is true two c c_is d d_is any = (Two, sym (eqb-true _ _ two))
    by_cases false a_is false b_is true four d d_is any = (Four, sym (eqb-true _ _ four))
    by_cases false a_is false b_is false c_is true eight any = (Eight, sym (eqb-true _ _ eight))
    by_cases false a_is false b_is false c_is false d_is any = absurd (false≢true any)

pub scalar_has_size : (count : ℕ) → is_scalar_size count ≡ true → size_of count ≡ None → ⊥
scalar_has_size count scalar none = let size = scalar_size count scalar in by_size size.0 (ap size_of size.1 ∙ none)
  where
    by_size : (size : Size) → size_of (bytes size) ≡ None → ⊥
    by_size One is = none-some One (sym is)
    by_size Two is = none-some Two (sym is)
    by_size Four is = none-some Four (sym is)
    by_size Eight is = none-some Eight (sym is)

-- Operations.

-- what an operation gives fits the size
result_fits : (op : Op) (size : ℕ) (signed : Bool) (one other number : ℕ) → is_scalar_size size ≡ true → computed op size signed one other ≡ Some number → number < 256 ^ size
result_fits op size signed one other number scalar is =
    let count = scalar_size size scalar in
    subst (λ (o : Option ℕ). IfSome o (λ result. result < 256 ^ size)) is
    (subst (λ (n : ℕ). IfSome (computed op n signed one other) (λ result. result < 256 ^ n)) count.1 (computed_small op count.0 signed one other))

answer_one_of : (b : Bool) → (answer b ≡ 0) ⊎ (answer b ≡ 1)
answer_one_of true = inr refl
answer_one_of false = inl refl

-- a test of order gives 0 or 1
test_gives : (op : Op) (size : ℕ) (signed : Bool) (one other number : ℕ) → is_test op ≡ true → computed op size signed one other ≡ Some number → (number ≡ 0) ⊎ (number ≡ 1)
test_gives Add size signed one other number test is = absurd (false≢true test)
test_gives Sub size signed one other number test is = absurd (false≢true test)
test_gives Mul size signed one other number test is = absurd (false≢true test)
test_gives Div size signed one other number test is = absurd (false≢true test)
test_gives Rem size signed one other number test is = absurd (false≢true test)
test_gives And size signed one other number test is = absurd (false≢true test)
test_gives Or size signed one other number test is = absurd (false≢true test)
test_gives Xor size signed one other number test is = absurd (false≢true test)
test_gives Left size signed one other number test is = absurd (false≢true test)
test_gives Right size signed one other number test is = absurd (false≢true test)
test_gives Less size signed one other number test is = subst (λ (n : ℕ). (n ≡ 0) ⊎ (n ≡ 1)) (same_Some _ _ is) (answer_one_of (is_less size signed one other))
test_gives LessEqual size signed one other number test is = subst (λ (n : ℕ). (n ≡ 0) ⊎ (n ≡ 1)) (same_Some _ _ is) (answer_one_of (is_less_equal size signed one other))

word_one_of : (word : Word) (number : ℕ) → word ≡ Plain number → (number ≡ 0) ⊎ (number ≡ 1) → (word ≡ Plain 0) ⊎ (word ≡ Plain 1)
word_one_of word number is (inl zero) = inl (is ∙ ap Plain zero)
word_one_of word number is (inr one) = inr (is ∙ ap Plain one)

-- what it gives fits the size of what it gives
given_fits : (op : Op) (size : ℕ) (signed : Bool) (one other number : ℕ) → is_scalar_size size ≡ true → computed op size signed one other ≡ Some number → is_sized (Const number (size_given op size)) ≡ true
given_fits op size signed one other number scalar is = by_test (is_test op) refl
  where
    small : (number ≡ 0) ⊎ (number ≡ 1) → nat_lt number (256 ^ 4) ≡ true
    small (inl zero) = lt-ltb _ _ (omega arith)
    small (inr one) = lt-ltb _ _ (omega arith)

    by_test : (b : Bool) → is_test op ≡ b → (is_scalar_size (if b then 4 else size) && nat_lt number (256 ^ (if b then 4 else size))) ≡ true
    by_test true test = small (test_gives op size signed one other number test is)
    by_test false test = and_both (is_scalar_size size) (nat_lt number (256 ^ size)) scalar (lt-ltb _ _ (result_fits op size signed one other number scalar is))

module _ (parts : Parts) (graph : IsGraph parts) (op : Op) (left right size : ℕ) (signed : Bool) (scalar : is_scalar_size size ≡ true) where
  abbrev Gives : State → Word → Type 0
  Gives = GivesComputed op left right size signed

  others_right : IsRight parts Gives (size_given op size) (of_others op size)
  others_right = by_test (is_test op) refl
    where
      by_test : (b : Bool) → is_test op ≡ b → IsRight parts Gives (if b then 4 else size) (if b then truth (Some 2) 4 else losing 1 (Number size))
      by_test true test = record {
        may = refl;
        sized = refl;
        sound = λ state given word is meets gives.
            word_one_of word gives.number gives.is (test_gives op size signed (address_number state.memory gives.one) (address_number state.memory gives.other) gives.number test gives.computes);
        exact = λ none. absurd (none-some 2 (sym none));
      }
      by_test false test = record {
        may = and_both (is_scalar_size size) true scalar refl;
        sized = refl;
        sound = λ state given word is meets gives.
            (gives.number, gives.is, result_fits op size signed (address_number state.memory gives.one) (address_number state.memory gives.other) gives.number scalar gives.computes);
        exact = λ none. absurd (none-some 1 (sym none));
      }

  constants_right : (one other : KeyedValue) → IsEntry parts left one → IsEntry parts right other → (first first_size second second_size : ℕ) → value_at parts.values one.key ≡ Some (Const first first_size) →
      value_at parts.values other.key ≡ Some (Const second second_size) → (found : Option ℕ) → computed op size signed first second ≡ found → IsRight parts Gives (size_given op size) (of_constants (size_given op size) found)
  constants_right one other has has_other first first_size second second_size is is_other found result = by_found found result
    where
      same : (state : State) (given : Assignment) (word : Word) → Meets (maps_of parts) state given → (gives : Gives state word) → computed op size signed first second ≡ Some gives.number
      same state given word meets gives =
          sym (ap (λ (w : Word). computed op size signed (address_number state.memory w) (address_number state.memory gives.other))
          (entry_same parts left one state given gives.one has meets gives.holds ∙ meets.values one.key (Const first first_size) is)
          ∙ ap (λ (w : Word). computed op size signed first (address_number state.memory w)) (entry_same parts right other state given gives.other has_other meets gives.holds_other ∙ meets.values other.key (Const second second_size) is_other))
          ∙ gives.computes

      by_found : (found : Option ℕ) → computed op size signed first second ≡ found → IsRight parts Gives (size_given op size) (of_constants (size_given op size) found)
      by_found None result = nothing_right parts Gives (size_given op size) (λ state given word state_is meets gives. none-some gives.number (sym result ∙ same state given word meets gives))
      by_found (Some number) result = record {
        may = and_both (is_sized (Const number (size_given op size))) true (given_fits op size signed first second number scalar result) refl;
        sized = refl;
        sound = λ state given word state_is meets gives. gives.is ∙ ap Plain (same_Some _ _ (sym (same state given word meets gives) ∙ result));
        exact = λ none state given word state_is meets has_word. record {
          one = given.word one.key;
          other = given.word other.key;
          holds = entry_word parts left one state given has meets;
          holds_other = entry_word parts right other state given has_other meets;
          number = number;
          computes = ap (λ (w : Word). computed op size signed (address_number state.memory w) (address_number state.memory (given.word other.key))) (meets.values one.key (Const first first_size) is)
              ∙ ap (λ (w : Word). computed op size signed first (address_number state.memory w)) (meets.values other.key (Const second second_size) is_other) ∙ result;
          is = has_word;
        };
      }

  values_right : (one other : KeyedValue) → IsEntry parts left one → IsEntry parts right other → (held second : Value) → value_at parts.values one.key ≡ Some held → value_at parts.values other.key ≡ Some second →
      IsRight parts Gives (size_given op size) (computed_line op size signed held second)
  values_right one other has has_other (Const first first_size) (Const second second_size) is is_other =
      constants_right one other has has_other first first_size second second_size is is_other (computed op size signed first second) refl
  values_right one other has has_other (Const first first_size) (Number second_size) is is_other = others_right
  values_right one other has has_other (Const first first_size) Any is is_other = others_right
  values_right one other has has_other (Const first first_size) (Address object offset target) is is_other = others_right
  values_right one other has has_other (Number first_size) second is is_other = others_right
  values_right one other has has_other Any second is is_other = others_right
  values_right one other has has_other (Address object offset target) second is is_other = others_right

  pub compute_right : IsRight parts Gives (size_given op size) (line_of_compute parts op left right size signed)
  compute_right =
      held_right parts graph left Gives (size_given op size) (λ one. on_held (entry_held parts right) (λ other. computed_line op size signed one.value other.value))
      (λ state word gives. subst (λ (o : Option Word). IsSome o) (sym gives.holds) refl)
      (λ one has. held_right parts graph right Gives (size_given op size) (λ other. computed_line op size signed one.value other.value) (λ state word gives. subst (λ (o : Option Word). IsSome o) (sym gives.holds_other) refl)
      (λ other has_other. values_right one other has has_other one.value other.value has.is has_other.is))

-- Conversions.

converted_fits : (from : ℕ) (signed : Bool) (size number : ℕ) → is_scalar_size size ≡ true → converted from signed size number < 256 ^ size
converted_fits from signed size number scalar =
    let count = scalar_size size scalar in subst (λ (n : ℕ). converted from signed n number < 256 ^ n) count.1 (bits_small count.0 (value from signed number))

-- to its own size an integer stays
low_same : (size : Size) (number : ℕ) → number < modulus (bytes size) → number % modulus (bytes size) ≡ number
low_same One number small = omega arith
low_same Two number small = omega arith
low_same Four number small = omega arith
low_same Eight number small = omega arith

converted_same : (signed : Bool) (size number : ℕ) → is_scalar_size size ≡ true → number < 256 ^ size → converted size signed size number ≡ number
converted_same signed size number scalar fits =
    let count = scalar_size size scalar in
    subst (λ (n : ℕ). number < 256 ^ n → converted n signed n number ≡ number) count.1 (λ small. bits_value count.0 signed number ∙ low_same count.0 number small) fits

module _ (parts : Parts) (graph : IsGraph parts) (from size : ℕ) (signed : Bool) (scalar : is_scalar_size size ≡ true) where
  abbrev Converted : State → Word → Type 0
  Converted = GivesConverted from (size_held parts from) size signed

  -- the value of a register's own size
  kept_right : (key was : ℕ) (held : Value) → value_at parts.values key ≡ Some held → may_be_held held ≡ true → value_size held ≡ size → was ≡ size →
      ((state : State) (given : Assignment) → Meets (maps_of parts) state given → (number : ℕ) × (given.word key ≡ Plain number) × (number < 256 ^ size)) →
      IsRightWord parts (λ state given. Plain (converted was signed size (address_number state.memory (given.word key)))) size (kept key)
  kept_right key was held is may sized same number = record {
    may = ap (λ (o : Option Value). option_map_or may_be_held o false) is ∙ may;
    sized = record { value = held; is = is; size_is = sized };
    sound = λ state given state_is meets. stays state given meets;
    exact = λ none state given word state_is meets has. has ∙ sym (stays state given meets);
  }
    where
      stays : (state : State) (given : Assignment) → Meets (maps_of parts) state given → Plain (converted was signed size (address_number state.memory (given.word key))) ≡ given.word key
      stays state given meets =
          let it = number state given meets in
          ap (λ (w : Word). Plain (converted was signed size (address_number state.memory w))) it.1
          ∙ ap (λ (n : ℕ). Plain (converted n signed size it.0)) same
          ∙ ap Plain (converted_same signed size it.0 scalar it.2) ∙ sym it.1

  -- some number of the size
  number_right : (gives : State → Assignment → ℕ) → ((state : State) (given : Assignment) → gives state given < 256 ^ size) → IsRightWord parts (λ state given. Plain (gives state given)) size (losing 1 (Number size))
  number_right gives fits = record {
    may = and_both (is_scalar_size size) true scalar refl;
    sized = refl;
    sound = λ state given is meets. (gives state given, refl, fits state given);
    exact = λ none. absurd (none-some 1 (sym none));
  }

  abbrev in_size : ℕ → ℕ → State → Assignment → ℕ
  in_size key was state given = converted was signed size (address_number state.memory (given.word key))

  fits_size : (key was : ℕ) (state : State) (given : Assignment) → in_size key was state given < 256 ^ size
  fits_size key was state given = converted_fits was signed size (address_number state.memory (given.word key)) scalar

  value_right : (key : ℕ) (held : Value) → value_at parts.values key ≡ Some held → may_be_held held ≡ true → is_sized held ≡ true →
      IsRightWord parts (λ state given. Plain (in_size key (value_size held) state given)) size (converted_line key held size signed)
  value_right key (Const number was) is may sized = by_size (nat_eq was size) refl
    where
      small : number < 256 ^ was
      small = ltb-true _ _ (and_right (is_scalar_size was) (nat_lt number (256 ^ was)) sized)

      by_size : (b : Bool) → nat_eq was size ≡ b →
          IsRightWord parts (λ state given. Plain (in_size key was state given)) size (if b then kept key else exactly (Const (converted was signed size number) size))
      by_size true same = kept_right key was (Const number was) is may (eqb-true _ _ same) (eqb-true _ _ same)
          (λ state given meets. (number, meets.values key (Const number was) is, subst (λ (n : ℕ). number < 256 ^ n) (eqb-true _ _ same) small))
      by_size false differ = record {
        may = and_both (is_sized (Const (converted was signed size number) size)) true
            (and_both (is_scalar_size size) (nat_lt (converted was signed size number) (256 ^ size)) scalar (lt-ltb _ _ (converted_fits was signed size number scalar))) refl;
        sized = refl;
        sound = λ state given state_is meets. ap (λ (w : Word). Plain (converted was signed size (address_number state.memory w))) (meets.values key (Const number was) is);
        exact = λ none state given word state_is meets has. has ∙ sym (ap (λ (w : Word). Plain (converted was signed size (address_number state.memory w))) (meets.values key (Const number was) is));
      }
  value_right key (Number was) is may sized = by_size (nat_eq was size) refl
    where
      by_size : (b : Bool) → nat_eq was size ≡ b → IsRightWord parts (λ state given. Plain (in_size key was state given)) size (if b then kept key else losing 1 (Number size))
      by_size true same = kept_right key was (Number was) is may (eqb-true _ _ same) (eqb-true _ _ same)
          (λ state given meets. subst (λ (n : ℕ). (number : ℕ) × (given.word key ≡ Plain number) × (number < 256 ^ n)) (eqb-true _ _ same) (meets.values key (Number was) is))
      by_size false differ = number_right (in_size key was) (fits_size key was)
  value_right key Any is may sized = number_right (in_size key 8) (fits_size key 8)
  value_right key (Address object offset target) is may sized = number_right (in_size key 8) (fits_size key 8)

  pub convert_right : IsRight parts Converted size (line_of_convert parts from size signed)
  convert_right =
      held_right parts graph from Converted size (λ entry. converted_line entry.key entry.value size signed) (λ state word gives. subst (λ (o : Option Word). IsSome o) (sym gives.holds) refl)
      (λ entry has. right_by parts (λ state given. Plain (in_size entry.key (value_size entry.value) state given)) Converted size (converted_line entry.key entry.value size signed)
      (value_right entry.key entry.value has.is has.may has.sized)
      (λ state given word state_is meets gives.
      gives.is ∙ ap (λ (w : Word). Plain (converted (size_held parts from) signed size (address_number state.memory w))) (entry_same parts from entry state given gives.value has meets gives.holds)
      ∙ ap (λ (n : ℕ). Plain (in_size entry.key n state given)) (sym (size_is_held parts from entry has)))
      (λ state given word state_is meets same. record {
        value = given.word entry.key;
        holds = entry_word parts from entry state given has meets;
        is = same ∙ ap (λ (n : ℕ). Plain (in_size entry.key n state given)) (size_is_held parts from entry has);
      }))
