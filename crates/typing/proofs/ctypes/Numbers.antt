-- Types compared, and the way back from a type to its number.
use Rattle.std.proofs.Common.{◌≡◌, ℕ, zero, suc, ◌<◌, List, [], ◌∷◌, Option, Some, None, length, refl, sym, ap, subst, ◌∙◌, arith}
use Rattle.std.specs.Prelude.{Bool as BoolValue, true, false, option_map, slice_get, if◌then◌else◌}
use Rattle.std.specs.Bool.{Decides}
use Rattle.std.specs.List.{position_or_len}
use Rattle.std.proofs.lemmas.List.Sums.{position_or_len_is}
use Rattle.std.proofs.lemmas.Option.{same_Some, slice_get_within, get_or_from_slice_get}
use Rattle.std.proofs.lemmas.Slice.Eq.{bytes_eq-Decides}
use Rattle.cbase.specs.declared.ctype.CType.{CType, roll-CType}
use Rattle.cbase.specs.declared.ctype.CType.TheVariants.{Void, Bool, Int, Pointer, Struct, Array, rolls-Void, rolls-Bool, rolls-Int, rolls-Pointer, rolls-Struct, rolls-Array}
use Rattle.cbase.specs.declared.ctype.CType.TheOpen.{Void as VoidOpen, Bool as BoolOpen, Int as IntOpen, Pointer as PointerOpen, Struct as StructOpen, Array as ArrayOpen}
use Rattle.cbase.specs.declared.ctype.CType.TheFolds.{fold-roll-CType, ind-CType, map-CType}
use Rattle.typing.specs.ctypes.Table.{type_at, AreApart}
use Rattle.typing.specs.ctypes.Same.{spelled, spelled_step, same_type}

spelled-Void : spelled Void ≡ 0 ∷ []
unfolding spelled
spelled-Void = ap spelled (sym rolls-Void) ∙ fold-roll-CType (List ℕ) spelled_step VoidOpen

spelled-Bool : spelled Bool ≡ 1 ∷ []
unfolding spelled
spelled-Bool = ap spelled (sym rolls-Bool) ∙ fold-roll-CType (List ℕ) spelled_step BoolOpen

spelled-Int : (bytes : ℕ) (signed : BoolValue) → spelled (Int bytes signed) ≡ 2 ∷ bytes ∷ (if signed then 1 else 0) ∷ []
unfolding spelled
spelled-Int bytes signed = ap spelled (sym (rolls-Int bytes signed)) ∙ fold-roll-CType (List ℕ) spelled_step (IntOpen bytes signed)

spelled-Pointer : (item : CType) → spelled (Pointer item) ≡ 3 ∷ spelled item
unfolding spelled
spelled-Pointer item = ap spelled (sym (rolls-Pointer item)) ∙ fold-roll-CType (List ℕ) spelled_step (PointerOpen item)

spelled-Struct : (number : ℕ) → spelled (Struct number) ≡ 4 ∷ number ∷ []
unfolding spelled
spelled-Struct number = ap spelled (sym (rolls-Struct number)) ∙ fold-roll-CType (List ℕ) spelled_step (StructOpen number)

spelled-Array : (item : CType) (count : ℕ) → spelled (Array item count) ≡ 5 ∷ count ∷ spelled item
unfolding spelled
spelled-Array item count = ap spelled (sym (rolls-Array item count)) ∙ fold-roll-CType (List ℕ) spelled_step (ArrayOpen item count)

-- whether a sign is there, by its number
abbrev is_one : ℕ → BoolValue
is_one zero = false
is_one (suc n) = true

sign_back : (signed : BoolValue) → is_one (if signed then 1 else 0) ≡ signed
sign_back true = refl
sign_back false = refl

-- the type that a row of numbers spells
mutual
  read : List ℕ → Option CType
  read [] = None
  read (zero ∷ rest) = Some Void
  read (suc zero ∷ rest) = Some Bool
  read (suc (suc zero) ∷ rest) = read_integer rest
  read (suc (suc (suc zero)) ∷ rest) = option_map Pointer (read rest)
  read (suc (suc (suc (suc zero))) ∷ rest) = read_struct rest
  read (suc (suc (suc (suc (suc kind)))) ∷ rest) = read_array rest

  read_integer : List ℕ → Option CType
  read_integer [] = None
  read_integer (bytes ∷ []) = None
  read_integer (bytes ∷ signed ∷ rest) = Some (Int bytes (is_one signed))

  read_struct : List ℕ → Option CType
  read_struct [] = None
  read_struct (number ∷ rest) = Some (Struct number)

  read_array : List ℕ → Option CType
  read_array [] = None
  read_array (count ∷ rest) = option_map (λ item. Array item count) (read rest)

abbrev IsRead : CType → Type 0
IsRead t = read (spelled t) ≡ Some t

-- what is spelled is read back, of pointers and arrays where their item is
read_back : (t : CType) → IsRead t
unfolding read
read_back = ind-CType IsRead (λ x y e. subst (λ v. IsRead (roll-CType v)) e (elim y as (λ v. IsRead (roll-CType (map-CType _ _ (λ q. q.0) v))) [
  | VoidOpen ↦ subst IsRead (sym rolls-Void) (ap read spelled-Void)
  | BoolOpen ↦ subst IsRead (sym rolls-Bool) (ap read spelled-Bool)
  | IntOpen bytes signed ↦ subst IsRead (sym (rolls-Int bytes signed)) (ap read (spelled-Int bytes signed) ∙ ap (λ (s : BoolValue). Some (Int bytes s)) (sign_back signed))
  | PointerOpen item ↦ subst IsRead (sym (rolls-Pointer item.0)) (ap read (spelled-Pointer item.0) ∙ ap (option_map Pointer) item.1)
  | StructOpen number ↦ subst IsRead (sym (rolls-Struct number)) (ap read (spelled-Struct number))
  | ArrayOpen item count ↦ subst IsRead (sym (rolls-Array item.0 count)) (ap read (spelled-Array item.0 count) ∙ ap (option_map (λ (i : CType). Array i count)) item.1)
]))

same_spelled : (s t : CType) → spelled s ≡ spelled t → s ≡ t
same_spelled s t e = same_Some s t (sym (read_back s) ∙ (ap read e ∙ read_back t))

-- the comparison is true exactly for equal types
pub same_type_decides : (s t : CType) → Decides (same_type s t) (s ≡ t)
same_type_decides s t = (λ e. same_spelled s t ((bytes_eq-Decides (spelled s) (spelled t)).0 e), λ e. (bytes_eq-Decides (spelled s) (spelled t)).1 (ap spelled e))

-- the place of a type among others
pub number_of : List CType → CType → ℕ
number_of types t = position_or_len (λ u. same_type u t) types

not_same : (found : BoolValue) → (found ≡ true → ⊥) → found ≡ false
not_same true h = absurd (h refl)
not_same false h = refl

pub number_found : (types : List CType) → AreApart types → (number : ℕ) (t : CType) → slice_get types number ≡ Some t → number_of types t ≡ number
unfolding number_of
number_found types apart number t at =
    let within : number < length types = slice_get_within types number t at in
    let here : type_at types number ≡ t = get_or_from_slice_get types number t Void at in
    position_or_len_is (λ u. same_type u t) types number Void (omega arith)
    (λ k less. not_same (same_type (type_at types k) t) (λ e.
    let same : k ≡ number = apart k number (omega arith) within ((same_type_decides (type_at types k) t).0 e ∙ sym here) in omega arith))
    (λ _. (same_type_decides (type_at types number) t).1 here)

pub way_back : (types : List CType) → AreApart types → (number_of : CType → ℕ) × ((number : ℕ) (t : CType) → slice_get types number ≡ Some t → number_of t ≡ number)
way_back types apart = (number_of types, number_found types apart)
