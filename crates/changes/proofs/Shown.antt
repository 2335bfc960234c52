-- A fault of an access that a graph lists is met in some state that the graph stands for.
use Rattle.std.proofs.Common.{◌≡◌, ℕ, zero, suc, ◌+◌, ◌-◌, ◌*◌, ◌^◌, ◌<◌, Bool, true, false, not, ◌||◌, ◌&&◌, List, [], ◌∷◌, length, nat_eq, nat_lt, Option, None, Some, refl, sym, ◌∙◌, ap, subst, eqb-true, eq-eqb, ltb-true, lt-ltb, arith}
use Rattle.std.specs.Prelude.{slice_get, if◌then◌else◌}
use Rattle.std.specs.List.{list_any}
use Rattle.std.specs.Option.{option_map_or}
use Rattle.std.proofs.lemmas.Bool.{false≢true}
use Rattle.std.proofs.lemmas.Option.{same_Some, none-some}
use Rattle.bytes_core.specs.declared.byte.Byte.{Byte}
use Rattle.bytes_core.specs.declared.byte.Byte.TheVariants.{Num}
use Rattle.bytes_core.specs.declared.word.Word.{Word}
use Rattle.bytes_core.specs.declared.word.Word.TheVariants.{Plain}
use Rattle.bytes_core.specs.Fault.{null_pointer_dereference, access_through_invalid_address}
use Rattle.bytes_core.specs.Access.{access_fault}
use Rattle.graph.specs.declared.parts.Pair.{Pair}
use Rattle.graph.specs.declared.parts.Parts.{Parts}
use Rattle.graph.specs.declared.value.Value.{Value}
use Rattle.graph.specs.declared.value.Value.TheVariants.{Const, Number, Any, Address}
use Rattle.graph.specs.Choices.{IsChoice}
use Rattle.graph.specs.Maps.{value_at}
use Rattle.graph.specs.Numbers.{AreSomeNumbers, AreNumbers, AreAmong, IsMadeWithNumbers, HasRoom}
use Rattle.graph.specs.State.{State, IsState}
use Rattle.graph.specs.WellFormed.{passes_at, are_numbers, may_be_unequal, is_unequal_pair, nodes}
use Rattle.graph.specs.Whole.{IsGraph}
use Rattle.graph.specs.Meaning.{maps_of, Assignment, Meets}
use Rattle.graph.proofs.Chosen.{is_in, Free, free_below, not_in-rest, not_in-first}
use Rattle.graph.proofs.Closed.{passes-at}
use Rattle.graph.proofs.OwnPlaces.{graph_numbered}
use Rattle.graph.proofs.Tests.{and_left, and_right}
use Rattle.graph.proofs.Witness.{some_state, some_numbers_may_be_chosen}
use Rattle.changes.specs.declared.reach.Reach.TheVariants as to
use Rattle.changes.specs.Reaching.{number_kind, is_constant_of, is_number_at, tells_apart, is_excluded, are_excluded, reach_of, names_no_segment}
use Rattle.changes.proofs.Meeting.{known_fault}
use Rattle.changes.proofs.NodeBack.{zero_has}

-- a state in which an access through a value meets a fault
pub record IsShown (parts : Parts) (at count kind : ℕ) : Type 0 where
  pub state : State
  pub is : IsState state
  pub given : Assignment
  pub meets : Meets (maps_of parts) state given
  pub fault : access_fault state.memory (given.word at) count ≡ Some kind

module _ (parts : Parts) (graph : IsGraph parts) (at count : ℕ) where
  -- through an address or a constant
  pub known_shown : (value : Value) (kind : ℕ) → value_at parts.values at ≡ Some value → names_no_segment value ≡ true → reach_of parts at count ≡ to.Fault kind → IsShown parts at count kind
  known_shown value kind stands names reach =
      let found = some_state parts graph.ascending graph.well_formed graph.within_limits in
      record {
        state = found.0;
        is = found.1;
        given = found.2.given;
        meets = found.2.meets;
        fault = known_fault parts found.0 found.2.given graph.well_formed found.2.meets at count value stands names kind reach;
      }

  -- Through a number: any that no pair excludes.

  abbrev constant_in : Option Value → Option ℕ
  constant_in None = None
  constant_in (Some (Const number size)) = Some number
  constant_in (Some (Number size)) = None
  constant_in (Some Any) = None
  constant_in (Some (Address object offset target)) = None

  abbrev chosen_word : ℕ → Word
  chosen_word key = Plain 0

  abbrev chosen_byte : ℕ → ℕ → Byte
  chosen_byte key place = Num 0

  choice : IsChoice parts chosen_word chosen_byte
  choice = record {
    words = λ key any. record { small = omega arith; named = tt };
    bytes = λ key object place class stands found. zero_has class;
    names = λ key place. tt;
    small = λ key place. omega arith;
  }

  abbrev known : ℕ → ℕ → Option ℕ
  known number key = if nat_eq key at then Some number else constant_in (value_at parts.values key)

  -- a pair is of two different values, of which one is no constant
  unequal_pair : (place : ℕ) (pair : Pair) → slice_get parts.unequal place ≡ Some pair → is_unequal_pair parts pair ≡ true
  unequal_pair place pair stands = passes-at (is_unequal_pair parts) parts.unequal place pair stands graph.well_formed.pairs_may_be_unequal

  constants_known : (size : ℕ) → value_at parts.values at ≡ Some (Number size) → (number key constant other : ℕ) → value_at parts.values key ≡ Some (Const constant other) → known number key ≡ Some constant
  constants_known size is number key constant other stands = by_key (nat_eq key at) refl
    where
      by_key : (b : Bool) → nat_eq key at ≡ b → (if b then Some number else constant_in (value_at parts.values key)) ≡ Some constant
      by_key true same = absurd (differ (same_Some _ _ (sym stands ∙ ap (value_at parts.values) (eqb-true _ _ same) ∙ is)))
        where
          is_const : Value → Bool
          is_const (Const number size) = true
          is_const (Number size) = false
          is_const Any = false
          is_const (Address object offset target) = false

          differ : Const constant other ≡ Number size → ⊥
          differ equal = false≢true (sym (ap is_const equal))
      by_key false apart = ap constant_in stands

  fits_known : (size number : ℕ) → value_at parts.values at ≡ Some (Number size) → number < 256 ^ size → (key other found : ℕ) → value_at parts.values key ≡ Some (Number other) → known number key ≡ Some found → found < 256 ^ other
  fits_known size number is fits key other found stands held = by_key (nat_eq key at) refl held
    where
      size_in : Value → ℕ
      size_in (Const number size) = size
      size_in (Number size) = size
      size_in Any = 8
      size_in (Address object offset target) = 8

      by_key : (b : Bool) → nat_eq key at ≡ b → (if b then Some number else constant_in (value_at parts.values key)) ≡ Some found → found < 256 ^ other
      by_key true same held =
          subst (λ (n : ℕ). n < 256 ^ other) (same_Some _ _ held)
          (subst (λ (n : ℕ). number < 256 ^ n) (ap size_in (same_Some _ _ (sym is ∙ ap (value_at parts.values) (sym (eqb-true _ _ same)) ∙ stands))) fits)
      by_key false apart held = absurd (none-some found (ap constant_in (sym stands) ∙ held))

  is_known : (key found : ℕ) → constant_in (value_at parts.values key) ≡ Some found → is_number_at parts found key ≡ true
  is_known key found held = by_value (value_at parts.values key) held
    where
      by_value : (value : Option Value) → constant_in value ≡ Some found → option_map_or (is_constant_of found) value false ≡ true
      by_value None held = absurd (none-some found held)
      by_value (Some (Const number size)) held = eq-eqb _ _ (same_Some _ _ held)
      by_value (Some (Number size)) held = absurd (none-some found held)
      by_value (Some Any) held = absurd (none-some found held)
      by_value (Some (Address object offset target)) held = absurd (none-some found held)

  constants_both : (pair : Pair) (one other : ℕ) → is_unequal_pair parts pair ≡ true → constant_in (value_at parts.values pair.left) ≡ Some one → constant_in (value_at parts.values pair.right) ≡ Some other → ⊥
  constants_both pair one other is left right =
      by_values (value_at parts.values pair.left) (value_at parts.values pair.right) left right
      (and_right (not (nat_eq pair.left pair.right)) (passes_at parts (λ v. passes_at parts (may_be_unequal v) pair.right) pair.left) is)
    where
      by_values : (a b : Option Value) → constant_in a ≡ Some one → constant_in b ≡ Some other → option_map_or (λ v. option_map_or (may_be_unequal v) b false) a false ≡ true → ⊥
      by_values None b left right passes = none-some one left
      by_values (Some (Number size)) b left right passes = none-some one left
      by_values (Some Any) b left right passes = none-some one left
      by_values (Some (Address object offset target)) b left right passes = none-some one left
      by_values (Some (Const number size)) None left right passes = none-some other right
      by_values (Some (Const number size)) (Some (Number size')) left right passes = none-some other right
      by_values (Some (Const number size)) (Some Any) left right passes = none-some other right
      by_values (Some (Const number size)) (Some (Address object offset target)) left right passes = none-some other right
      by_values (Some (Const number size)) (Some (Const number' size')) left right passes =
          false≢true (and_right (are_numbers (Const number size) (Const number' size') 4 || are_numbers (Const number size) (Const number' size') 8) false passes)

  -- a pair of which the other value is the constant
  excluded_by : (pairs : List Pair) (place : ℕ) (pair : Pair) (number : ℕ) → slice_get pairs place ≡ Some pair → tells_apart parts at number pair ≡ true → list_any (tells_apart parts at number) pairs ≡ true
  excluded_by [] place pair number stands tells = absurd (none-some pair stands)
  excluded_by (first ∷ rest) zero pair number stands tells = ap (λ (b : Bool). b || list_any (tells_apart parts at number) rest) (ap (tells_apart parts at number) (same_Some _ _ stands) ∙ tells)
  excluded_by (first ∷ rest) (suc place) pair number stands tells = either (tells_apart parts at number first) (excluded_by rest place pair number stands tells)
    where
      either : (a : Bool) {b : Bool} → b ≡ true → (a || b) ≡ true
      either true is = refl
      either false is = is

  some_numbers : (size number : ℕ) → value_at parts.values at ≡ Some (Number size) → number < 256 ^ size → is_excluded parts at number ≡ false → AreSomeNumbers parts (known number)
  some_numbers size number is fits free = record {
    constants = constants_known size is number;
    fits = λ key other found stands held. fits_known size number is fits key other found stands held;
    unequal = λ place pair one other stands left right same. differ place pair one other stands (nat_eq pair.left at) refl (nat_eq pair.right at) refl left right same;
  }
    where
      or_first : (a b : Bool) → a ≡ true → (a || b) ≡ true
      or_first true b is = refl
      or_first false b is = absurd (false≢true is)

      or_second : (a b : Bool) → b ≡ true → (a || b) ≡ true
      or_second true b is = refl
      or_second false b is = is

      both : (a b : Bool) → a ≡ true → b ≡ true → (a && b) ≡ true
      both true true p q = refl
      both true false p q = q
      both false b p q = p

      differ : (place : ℕ) (pair : Pair) (one other : ℕ) → slice_get parts.unequal place ≡ Some pair → (a : Bool) → nat_eq pair.left at ≡ a → (b : Bool) → nat_eq pair.right at ≡ b →
          (if a then Some number else constant_in (value_at parts.values pair.left)) ≡ Some one → (if b then Some number else constant_in (value_at parts.values pair.right)) ≡ Some other → one ≡ other → ⊥
      differ place pair one other stands true left_is true right_is left right same =
          let apart = and_left (not (nat_eq pair.left pair.right)) (passes_at parts (λ v. passes_at parts (may_be_unequal v) pair.right) pair.left) (unequal_pair place pair stands) in
          false≢true (sym (ap not (eq-eqb _ _ (eqb-true _ _ left_is ∙ sym (eqb-true _ _ right_is)))) ∙ apart)
      differ place pair one other stands true left_is false right_is left right same =
          let number_is : other ≡ number = sym same ∙ sym (same_Some _ _ left) in
          let tells = or_first (nat_eq pair.left at && is_number_at parts number pair.right) (nat_eq pair.right at && is_number_at parts number pair.left)
          (both (nat_eq pair.left at) (is_number_at parts number pair.right) left_is (subst (λ (n : ℕ). is_number_at parts n pair.right ≡ true) number_is (is_known pair.right other right))) in
          false≢true (sym free ∙ excluded_by parts.unequal place pair number stands tells)
      differ place pair one other stands false left_is true right_is left right same =
          let number_is : one ≡ number = same ∙ sym (same_Some _ _ right) in
          let tells = or_second (nat_eq pair.left at && is_number_at parts number pair.right) (nat_eq pair.right at && is_number_at parts number pair.left)
          (both (nat_eq pair.right at) (is_number_at parts number pair.left) right_is (subst (λ (n : ℕ). is_number_at parts n pair.left ≡ true) number_is (is_known pair.left one left))) in
          false≢true (sym free ∙ excluded_by parts.unequal place pair number stands tells)
      differ place pair one other stands false left_is false right_is left right same = constants_both pair one other (unequal_pair place pair stands) left right

  -- a state with these numbers
  pub record IsChosen (numbers : ℕ → Option ℕ) : Type 0 where
    pub state : State
    pub is_state : IsState state
    pub given : Assignment
    pub meets : Meets (maps_of parts) state given
    pub words : (key size found : ℕ) → value_at parts.values key ≡ Some (Number size) → numbers key ≡ Some found → given.word key ≡ Plain found

  chosen : (numbers : ℕ → Option ℕ) → AreSomeNumbers parts numbers → IsChosen numbers
  chosen numbers are =
      let same = sym (graph_numbered parts graph) in
      let found = subst (λ (g : Parts). (number : ℕ → ℕ) × AreNumbers g number × AreAmong numbers number × ((state : State) × IsState state × IsMadeWithNumbers g number chosen_word chosen_byte state × HasRoom state.memory)) (sym same)
      (some_numbers_may_be_chosen parts numbers chosen_word chosen_byte graph.ascending graph.well_formed graph.within_limits
      (subst (λ (g : Parts). IsChoice g chosen_word chosen_byte) same choice) (subst (λ (g : Parts). AreSomeNumbers g numbers) same are)) in
      record {
        state = found.3.0;
        is_state = found.3.1;
        given = found.3.2.made.given;
        meets = found.3.2.made.meets;
        words = λ key size number stands held. found.3.2.numbers key size stands ∙ ap Plain (found.2 key number held);
      }

  -- a state in which the value is this number
  pub number_shown : (size number : ℕ) → value_at parts.values at ≡ Some (Number size) → number < 256 ^ size → is_excluded parts at number ≡ false → IsShown parts at count (number_kind number)
  number_shown size number is fits free =
      let found = chosen (known number) (some_numbers size number is fits free) in
      record {
        state = found.state;
        is = found.is_state;
        given = found.given;
        meets = found.meets;
        fault = ap (λ (w : Word). access_fault found.state.memory w count) (found.words at size number is (ap (λ (b : Bool). if b then Some number else constant_in (value_at parts.values at)) (eq-eqb at at refl))) ∙ by_size (nat_lt number 4096);
      }
    where
      by_size : (b : Bool) → (if b then Some null_pointer_dereference else Some access_through_invalid_address) ≡ Some (if b then null_pointer_dereference else access_through_invalid_address)
      by_size true = refl
      by_size false = refl

  -- a small number that no pair excludes
  small_free : (bound : ℕ) → are_excluded parts at bound ≡ false → (number : ℕ) × (number < bound) × (is_excluded parts at number ≡ false)
  unfolding are_excluded
  small_free zero some = absurd (false≢true (sym some))
  small_free (suc bound) some = by_test (is_excluded parts at bound) refl (λ later. small_free bound later)
    where
      by_test : (b : Bool) → is_excluded parts at bound ≡ b → (are_excluded parts at bound ≡ false → (number : ℕ) × (number < bound) × (is_excluded parts at number ≡ false)) → (number : ℕ) × (number < suc bound) × (is_excluded parts at number ≡ false)
      by_test false is later = (bound, omega arith, is)
      by_test true is later =
          let found = later (sym (ap (λ (b : Bool). b && are_excluded parts at bound) is) ∙ some) in
          let below : found.0 < bound = found.1 in (found.0, omega arith, found.2)

  -- and a large one: there are fewer pairs than numbers
  abbrev far : Option Value → ℕ
  far None = 0
  far (Some (Const number size)) = number - 4096
  far (Some (Number size)) = 0
  far (Some Any) = 0
  far (Some (Address object offset target)) = 0

  abbrev taken : List Pair → List ℕ
  taken [] = []
  taken (pair ∷ rest) = far (value_at parts.values pair.left) ∷ far (value_at parts.values pair.right) ∷ taken rest

  long_taken : (pairs : List Pair) → length (taken pairs) ≡ 2 * length pairs
  long_taken [] = refl
  long_taken (pair ∷ rest) = let later = long_taken rest in omega arith

  far_is : (number : ℕ) (value : Option Value) → option_map_or (is_constant_of (4096 + number)) value false ≡ true → far value ≡ number
  far_is number None is = absurd (false≢true is)
  far_is number (Some (Const other size)) is = let e = eqb-true _ _ is in omega arith
  far_is number (Some (Number size)) is = absurd (false≢true is)
  far_is number (Some Any) is = absurd (false≢true is)
  far_is number (Some (Address object offset target)) is = absurd (false≢true is)

  large_free : (number : ℕ) (pairs : List Pair) → is_in number (taken pairs) ≡ false → list_any (tells_apart parts at (4096 + number)) pairs ≡ false
  large_free number [] outside = refl
  large_free number (pair ∷ rest) outside =
      by_tests (is_number_at parts (4096 + number) pair.right) refl (is_number_at parts (4096 + number) pair.left) refl (nat_eq pair.left at) (nat_eq pair.right at)
      (large_free number rest (not_in-rest number (far (value_at parts.values pair.right)) (taken rest) (not_in-rest number (far (value_at parts.values pair.left)) (far (value_at parts.values pair.right) ∷ taken rest) outside)))
    where
      by_tests : (a : Bool) → is_number_at parts (4096 + number) pair.right ≡ a → (b : Bool) → is_number_at parts (4096 + number) pair.left ≡ b → (c d : Bool) → list_any (tells_apart parts at (4096 + number)) rest ≡ false →
          (((c && a) || (d && b)) || list_any (tells_apart parts at (4096 + number)) rest) ≡ false
      by_tests true right b b_is c d later =
          absurd (not_in-first number (far (value_at parts.values pair.right)) (taken rest) (not_in-rest number (far (value_at parts.values pair.left)) (far (value_at parts.values pair.right) ∷ taken rest) outside) (far_is number (value_at parts.values pair.right) right))
      by_tests false a_is true left c d later = absurd (not_in-first number (far (value_at parts.values pair.left)) (far (value_at parts.values pair.right) ∷ taken rest) outside (far_is number (value_at parts.values pair.left) left))
      by_tests false a_is false b_is true true later = later
      by_tests false a_is false b_is true false later = later
      by_tests false a_is false b_is false true later = later
      by_tests false a_is false b_is false false later = later

  few_pairs : length parts.unequal < 2 ^ 30
  few_pairs = ltb-true _ _ (and_right (nat_lt (nodes parts) (2 ^ 30)) (nat_lt (length parts.unequal) (2 ^ 30)) graph.within_limits)

  -- kind 1 where the number may be small, and kind 4 always
  pub small_shown : value_at parts.values at ≡ Some (Number 8) → are_excluded parts at 4096 ≡ false → IsShown parts at count null_pointer_dereference
  small_shown is some =
      let free = small_free 4096 some in
      let below : free.0 < 4096 = free.1 in
      subst (IsShown parts at count) (ap (λ (b : Bool). if b then null_pointer_dereference else access_through_invalid_address) (lt-ltb _ _ below)) (number_shown 8 free.0 is (omega arith) free.2)

  pub large_shown : value_at parts.values at ≡ Some (Number 8) → IsShown parts at count access_through_invalid_address
  large_shown is =
      let found : Free (2 ^ 31) (taken parts.unequal) = free_below (2 ^ 31) (taken parts.unequal) (let long = long_taken parts.unequal in let few = few_pairs in omega arith) in
      let below : found.number < 2 ^ 31 = found.below in
      subst (IsShown parts at count) (ap (λ (b : Bool). if b then null_pointer_dereference else access_through_invalid_address) (not_small found.number))
      (number_shown 8 (4096 + found.number) is (omega arith) (large_free found.number parts.unequal found.outside))
    where
      not_small : (number : ℕ) → nat_lt (4096 + number) 4096 ≡ false
      not_small number = by_test (nat_lt (4096 + number) 4096) refl
        where
          by_test : (b : Bool) → nat_lt (4096 + number) 4096 ≡ b → nat_lt (4096 + number) 4096 ≡ false
          by_test true is = let l = ltb-true _ _ is in absurd (omega arith)
          by_test false is = is
