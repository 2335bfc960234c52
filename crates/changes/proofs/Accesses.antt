-- What the steps that access memory have in common: which faults they meet, and what a register holds that holds a value of a size.
use Rattle.std.proofs.Common.{◌≡◌, ◌≢◌, ℕ, zero, suc, ◌+◌, ◌≤◌, Bool, true, false, not, List, [], ◌∷◌, length, ℤ, pos, negsuc, nat_eq, Option, None, Some, refl, sym, ◌∙◌, ap, subst, eqb-true, eq-eqb, le-leb, arith}
use Rattle.std.specs.Prelude.{slice_get, Contains, option_map, if◌then◌else◌}
use Rattle.std.specs.Option.{option_map_or}
use Rattle.std.proofs.lemmas.Bool.{false≢true}
use Rattle.bytes_core.specs.declared.block.Block.{Block}
use Rattle.bytes_core.specs.declared.word.Word.TheVariants.{To}
use Rattle.bytes_core.specs.Fault.{null_pointer_dereference, access_outside_object, access_to_dead_object, access_through_invalid_address}
use Rattle.bytes_core.specs.Access.{is_within, block_fault, access_fault}
use Rattle.graph.specs.declared.object.Object.{Object}
use Rattle.graph.specs.declared.parts.KeyedValue.{KeyedValue}
use Rattle.graph.specs.declared.parts.Parts.{Parts}
use Rattle.graph.specs.declared.value.Value.{Value}
use Rattle.graph.specs.declared.value.Value.TheVariants.{Const, Number, Any, Address}
use Rattle.graph.specs.Maps.{object_at, value_at, held_by}
use Rattle.graph.specs.Sizes.{value_size, is_sized}
use Rattle.graph.specs.WellFormed.{passes_at, are_ascending}
use Rattle.graph.specs.Whole.{IsGraph}
use Rattle.graph.proofs.Found.{found-all, Holds-some, IsSome-holds}
use Rattle.graph.proofs.Scalars.{size_of_sized}
use Rattle.graph.proofs.Sent.{passes-some}
use Rattle.changes.specs.declared.reach.Reach.{Reach}
use Rattle.changes.specs.declared.reach.Reach.TheVariants as to
use Rattle.changes.specs.Following.{life, holds_size}
use Rattle.changes.specs.Parts.{with_object}
use Rattle.changes.specs.Posted.{Posted, on_object, on_reach}
use Rattle.changes.specs.AnyWords.{HasPlaceForOne}
use Rattle.changes.specs.Reaching.{has_live_object, are_excluded, object_reach, value_reach, reach_of, names_no_segment}
use Rattle.changes.proofs.AnyShown.{any_shown}
use Rattle.changes.proofs.Held.{IsAddress}
use Rattle.changes.proofs.Objects.{replaced-here, replaced-other}
use Rattle.changes.proofs.Reached.{only_one, none_in}
use Rattle.changes.proofs.Shown.{IsShown, known_shown, small_shown, large_shown}

-- a value has at most eight bytes
pub sized_small : (parts : Parts) (key size : ℕ) (value : Value) → IsGraph parts → value_at parts.values key ≡ Some value → value_size value ≡ size → size ≤ 8
sized_small parts key size value graph is sized =
    let most = size_of_sized value (found-all (λ (entry : KeyedValue). entry.key) (λ entry. entry.value) is_sized parts.values key value graph.well_formed.values_are_sized is) in omega arith

-- another object that lives as the one before, and of its kind
pub lives_replaced : (key : ℕ) (old object : Object) (parts : Parts) → object_at parts.objects key ≡ Some old → life object ≡ life old → (at : ℕ) →
    option_map life (object_at (with_object key object parts).objects at) ≡ option_map life (object_at parts.objects at)
lives_replaced key old object parts stands same at = by_key (nat_eq at key) refl
  where
    by_key : (b : Bool) → nat_eq at key ≡ b → option_map life (object_at (with_object key object parts).objects at) ≡ option_map life (object_at parts.objects at)
    by_key true is =
        ap (λ (k : ℕ). option_map life (object_at (with_object key object parts).objects k)) (eqb-true _ _ is)
        ∙ ap (option_map life) (replaced-here key object parts.objects (IsSome-holds _ _ stands)) ∙ ap Some same
        ∙ sym (ap (λ (k : ℕ). option_map life (object_at parts.objects k)) (eqb-true _ _ is) ∙ ap (option_map life) stands)
    by_key false differ = ap (option_map life) (replaced-other key object parts.objects at (λ same. false≢true (sym differ ∙ eq-eqb at key same)))

-- the kinds of a post ascend, where those that an object gives do
pub kinds_ascend : (parts : Parts) (reach : Reach) (onward : ℕ → Object → ℕ → Posted) → ((key from : ℕ) (object : Object) → (onward key object from).kinds ≡ []) → are_ascending (on_reach parts reach onward).kinds ≡ true
kinds_ascend parts to.Nothing onward none = refl
kinds_ascend parts (to.Fault kind) onward none = refl
kinds_ascend parts (to.Number true) onward none = refl
kinds_ascend parts (to.Number false) onward none = refl
kinds_ascend parts (to.Anything true) onward none = refl
kinds_ascend parts (to.Anything false) onward none = refl
kinds_ascend parts (to.Room key from) onward none = by_object (object_at parts.objects key)
  where
    by_object : (found : Option Object) → are_ascending (on_object found (λ object. onward key object from)).kinds ≡ true
    by_object None = refl
    by_object (Some object) = ap are_ascending (none key from object)

-- an address leads to no number
abbrev is_number : Reach → Bool
is_number to.Nothing = false
is_number (to.Fault kind) = false
is_number (to.Number small) = true
is_number (to.Anything live) = false
is_number (to.Room key from) = false

abbrev is_any : Reach → Bool
is_any to.Nothing = false
is_any (to.Fault kind) = false
is_any (to.Number small) = false
is_any (to.Anything live) = true
is_any (to.Room key from) = false

object_plain : (found : Option Object) (key : ℕ) (offset : ℤ) (count : ℕ) → (is_number (object_reach found key offset count) ≡ false) × (is_any (object_reach found key offset count) ≡ false)
object_plain None key offset count = (refl, refl)
object_plain (Some object) key (pos from) count = by_tests object.live (is_within object.size (pos from) count)
  where
    by_tests : (b c : Bool) → (is_number (if b then (if c then to.Room key from else to.Fault access_outside_object) else to.Fault access_to_dead_object) ≡ false)
        × (is_any (if b then (if c then to.Room key from else to.Fault access_outside_object) else to.Fault access_to_dead_object) ≡ false)
    by_tests false c = (refl, refl)
    by_tests true false = (refl, refl)
    by_tests true true = (refl, refl)
object_plain (Some object) key (negsuc before) count = by_life object.live
  where
    by_life : (b : Bool) → (is_number (if b then to.Fault access_outside_object else to.Fault access_to_dead_object) ≡ false) × (is_any (if b then to.Fault access_outside_object else to.Fault access_to_dead_object) ≡ false)
    by_life true = (refl, refl)
    by_life false = (refl, refl)

module _ (parts : Parts) (graph : IsGraph parts) (at count : ℕ) (address : IsAddress parts at) (onward : ℕ → Object → ℕ → Posted) (silent : (key from : ℕ) (object : Object) → (onward key object from).kinds ≡ []) where
  -- each kind that an access lists is met, if those through any word are
  met_if : (kind : ℕ) → (value_at parts.values at ≡ Some Any → IsShown parts at count kind) → Contains (on_reach parts (reach_of parts at count) onward).kinds kind → IsShown parts at count kind
  met_if kind through_any listed = by_value address.value address.is address.size address.names
    where
      by_reach : (value : Value) → value_at parts.values at ≡ Some value → names_no_segment value ≡ true → (reach : Reach) → reach_of parts at count ≡ reach → Contains (on_reach parts reach onward).kinds kind →
          ((small : Bool) → reach ≡ to.Number small → ⊥) → ((live : Bool) → reach ≡ to.Anything live → ⊥) → IsShown parts at count kind
      by_reach value is names to.Nothing reach listed number any = none_in kind listed
      by_reach value is names (to.Fault other) reach listed number any =
          subst (IsShown parts at count) (only_one other kind listed) (known_shown parts graph at count value other is names reach)
      by_reach value is names (to.Number small) reach listed number any = absurd (number small refl)
      by_reach value is names (to.Anything live) reach listed number any = absurd (any live refl)
      by_reach value is names (to.Room key from) reach listed number any = by_object (object_at parts.objects key) listed
        where
          by_object : (found : Option Object) → Contains (on_object found (λ object. onward key object from)).kinds kind → IsShown parts at count kind
          by_object None listed = none_in kind listed
          by_object (Some object) listed = none_in kind (subst (λ (kinds : List ℕ). Contains kinds kind) (silent key from object) listed)

      by_small : (value : Value) → value_at parts.values at ≡ Some (Number 8) → (all : Bool) → are_excluded parts at 4096 ≡ all → Contains (on_reach parts (to.Number (not all)) onward).kinds kind → IsShown parts at count kind
      by_small value is true all listed = subst (IsShown parts at count) (only_one 4 kind listed) (large_shown parts graph at count is)
      by_small value is false some (zero, below, first) = subst (IsShown parts at count) first (small_shown parts graph at count is some)
      by_small value is false some (suc zero, below, second) = subst (IsShown parts at count) second (large_shown parts graph at count is)
      by_small value is false some (suc (suc place), below, no_more) = absurd (omega arith)

      fault_here : (value : Value) → value_at parts.values at ≡ Some value → names_no_segment value ≡ true → is_number (value_reach parts at (Some value) count) ≡ false → is_any (value_reach parts at (Some value) count) ≡ false → IsShown parts at count kind
      fault_here value is names numbers words =
          let reach_is = ap (λ (o : Option Value). value_reach parts at o count) is in
          by_reach value is names (reach_of parts at count) refl listed
          (λ small same. false≢true (sym (ap is_number reach_is ∙ numbers) ∙ ap is_number same)) (λ live same. false≢true (sym (ap is_any reach_is ∙ words) ∙ ap is_any same))

      by_value : (value : Value) → value_at parts.values at ≡ Some value → value_size value ≡ 8 → names_no_segment value ≡ true → IsShown parts at count kind
      by_value (Const number size) is sized names = fault_here (Const number size) is names refl refl
      by_value (Number size) is sized names =
          by_small (Number size) (is ∙ ap (λ (n : ℕ). Some (Number n)) sized) (are_excluded parts at 4096) refl
          (subst (λ (r : Reach). Contains (on_reach parts r onward).kinds kind) (ap (λ (o : Option Value). value_reach parts at o count) is) listed)
      by_value Any is sized names = through_any is
      by_value (Address key offset t) is sized names =
          let plain = object_plain (object_at parts.objects key) key offset count in fault_here (Address key offset t) is names plain.0 plain.1

  -- so it is but through any word
  pub kinds_met : (kind : ℕ) → (on_reach parts (reach_of parts at count) onward).loss ≢ Some 4 → Contains (on_reach parts (reach_of parts at count) onward).kinds kind → IsShown parts at count kind
  kinds_met kind precise listed = met_if kind (λ is. absurd (precise (ap (λ (o : Option Value). (on_reach parts (value_reach parts at o count) onward).loss) is))) listed

  -- and through any word too, where with an object a region lives and the graph may have one object more
  pub all_kinds_met : (kind : ℕ) → HasPlaceForOne parts → Contains (on_reach parts (reach_of parts at count) onward).kinds kind → IsShown parts at count kind
  all_kinds_met kind place listed = met_if kind (λ is. any_shown parts graph at count kind is place (has_live_object parts) refl (by_live (has_live_object parts)
      (subst (λ (r : Reach). Contains (on_reach parts r onward).kinds kind) (ap (λ (o : Option Value). value_reach parts at o count) is) listed))) listed
    where
      by_live : (live : Bool) → Contains (on_reach parts (to.Anything live) onward).kinds kind →
          Contains (if live then null_pointer_dereference ∷ access_outside_object ∷ access_to_dead_object ∷ access_through_invalid_address ∷ [] else null_pointer_dereference ∷ access_to_dead_object ∷ access_through_invalid_address ∷ []) kind
      by_live true listed = listed
      by_live false listed = listed

-- an access to bytes of a live block meets no fault
pub no_fault : (memory : List Block) (number from count : ℕ) (block : Block) → slice_get memory number ≡ Some block → block.live ≡ true → from + count ≤ length block.bytes → access_fault memory (To number (pos from)) count ≡ None
no_fault memory number from count block there live room =
    ap (λ (o : Option Block). block_fault o (pos from) count) there
    ∙ ap (λ (b : Bool). if b then (if is_within (length block.bytes) (pos from) count then None else Some access_outside_object) else Some access_to_dead_object) live
    ∙ ap (λ (b : Bool). if b then None else Some access_outside_object) (le-leb _ _ room)

-- the value of a register that holds one of a size
pub record IsSized (parts : Parts) (register size : ℕ) : Type 0 where
  pub key : ℕ
  pub held : held_by parts.registers register ≡ Some key
  pub value : Value
  pub is : value_at parts.values key ≡ Some value
  pub size_is : value_size value ≡ size

pub sized_at : (parts : Parts) (register size : ℕ) → holds_size parts register size ≡ true → IsSized parts register size
sized_at parts register size holds = by_held (held_by parts.registers register) refl holds
  where
    by_held : (found : Option ℕ) → held_by parts.registers register ≡ found → option_map_or (passes_at parts (λ value. nat_eq (value_size value) size)) found false ≡ true → IsSized parts register size
    by_held None held holds = absurd (false≢true holds)
    by_held (Some key) held holds =
        let found = Holds-some (value_at parts.values key) (passes-some (λ value. nat_eq (value_size value) size) (value_at parts.values key) holds) in
        record { key = key; held = held; value = found.item; is = found.is; size_is = eqb-true _ _ (subst (λ (o : Option Value). option_map_or (λ value. nat_eq (value_size value) size) o false ≡ true) found.is holds) }

pub size_small : (parts : Parts) (register size : ℕ) → IsGraph parts → holds_size parts register size ≡ true → size ≤ 8
size_small parts register size graph sized = let found = sized_at parts register size sized in sized_small parts found.key size found.value graph found.is found.size_is
