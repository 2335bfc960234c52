-- Types put into numbers one to one: a type is spelled as a row of numbers, a row of numbers as a row of digits, and rows of digits are counted.
use Rattle.std.proofs.Common.{◌≡◌, ℕ, zero, suc, ◌+◌, List, [], ◌∷◌, refl, sym, ap, subst, ◌∙◌, arith}
use Rattle.std.specs.Prelude.{Bool as BoolValue, true, false, if◌then◌else◌}
use Rattle.cbase.specs.declared.ctype.CType.{CType, roll-CType}
use Rattle.cbase.specs.declared.ctype.CType.TheVariants.{Void, Bool, Int, Pointer, Struct, Array, rolls-Void, rolls-Bool, rolls-Int, rolls-Pointer, rolls-Struct, rolls-Array}
use Rattle.cbase.specs.declared.ctype.CType.TheOpen.{CType-F, Void as VoidOpen, Bool as BoolOpen, Int as IntOpen, Pointer as PointerOpen, Struct as StructOpen, Array as ArrayOpen}
use Rattle.cbase.specs.declared.ctype.CType.TheFolds.{fold-CType, fold-roll-CType, ind-CType, map-CType}

-- the row of digits behind another one
next : List BoolValue → List BoolValue
next [] = false ∷ []
next (false ∷ digits) = true ∷ digits
next (true ∷ digits) = false ∷ next digits

-- the row of digits of a number, by counting
digits_of : ℕ → List BoolValue
digits_of zero = []
digits_of (suc n) = next (digits_of n)

twice : ℕ → ℕ
twice zero = zero
twice (suc n) = suc (suc (twice n))

-- the number of a row of digits
counted : List BoolValue → ℕ
counted [] = zero
counted (false ∷ digits) = suc (twice (counted digits))
counted (true ∷ digits) = suc (suc (twice (counted digits)))

digits_twice : (n : ℕ) → digits_of (suc (twice n)) ≡ false ∷ digits_of n
unfolding next digits_of twice
digits_twice zero = refl
digits_twice (suc n) = ap (λ digits. next (next digits)) (digits_twice n)

counted_back : (digits : List BoolValue) → digits_of (counted digits) ≡ digits
unfolding next digits_of twice counted
counted_back [] = refl
counted_back (false ∷ digits) = digits_twice (counted digits) ∙ ap (λ rest. false ∷ rest) (counted_back digits)
counted_back (true ∷ digits) = ap next (digits_twice (counted digits)) ∙ ap (λ rest. true ∷ rest) (counted_back digits)

-- a number as so many ones and a zero, in front of a row
ones : ℕ → List BoolValue → List BoolValue
ones zero rest = false ∷ rest
ones (suc n) rest = true ∷ ones n rest

-- and those of a row of numbers
digits_in : List ℕ → List BoolValue
digits_in [] = []
digits_in (number ∷ numbers) = ones number (digits_in numbers)

-- the numbers that a row of digits has, where ones were counted before
numbers_in : ℕ → List BoolValue → List ℕ
numbers_in before [] = []
numbers_in before (false ∷ digits) = before ∷ numbers_in zero digits
numbers_in before (true ∷ digits) = numbers_in (suc before) digits

ones_back : (before number : ℕ) (rest : List BoolValue) → numbers_in before (ones number rest) ≡ (before + number) ∷ numbers_in zero rest
unfolding ones numbers_in
ones_back before zero rest = ap (λ (n : ℕ). n ∷ numbers_in zero rest) (omega arith)
ones_back before (suc number) rest = ones_back (suc before) number rest ∙ ap (λ (n : ℕ). n ∷ numbers_in zero rest) (omega arith)

numbers_back : (numbers : List ℕ) → numbers_in zero (digits_in numbers) ≡ numbers
unfolding digits_in numbers_in
numbers_back [] = refl
numbers_back (number ∷ numbers) =
    ones_back zero number (digits_in numbers)
    ∙ (ap (λ (n : ℕ). n ∷ numbers_in zero (digits_in numbers)) (omega arith) ∙ ap (λ rest. number ∷ rest) (numbers_back numbers))

-- a type as a row of numbers
spelled_step : CType-F (List ℕ) → List ℕ
spelled_step VoidOpen = 0 ∷ []
spelled_step BoolOpen = 1 ∷ []
spelled_step (IntOpen bytes signed) = (if signed then 2 else 3) ∷ bytes ∷ []
spelled_step (PointerOpen item) = 4 ∷ item
spelled_step (StructOpen number) = 5 ∷ number ∷ []
spelled_step (ArrayOpen item count) = 6 ∷ count ∷ item

spelled : CType → List ℕ
spelled t = fold-CType (List ℕ) spelled_step t

spelled_at : (t : CType-F CType) → spelled (roll-CType t) ≡ spelled_step (map-CType _ _ spelled t)
unfolding spelled
spelled_at t = fold-roll-CType (List ℕ) spelled_step t

-- the type that a row of numbers spells, and `void` where it spells none
mutual
  read : List ℕ → CType
  read [] = Void
  read (zero ∷ rest) = Void
  read (suc zero ∷ rest) = Bool
  read (suc (suc zero) ∷ rest) = Int (first rest) true
  read (suc (suc (suc zero)) ∷ rest) = Int (first rest) false
  read (suc (suc (suc (suc zero))) ∷ rest) = Pointer (read rest)
  read (suc (suc (suc (suc (suc zero)))) ∷ rest) = Struct (first rest)
  read (suc (suc (suc (suc (suc (suc kind))))) ∷ rest) = read_array rest

  first : List ℕ → ℕ
  first [] = zero
  first (number ∷ rest) = number

  read_array : List ℕ → CType
  read_array [] = Void
  read_array (count ∷ rest) = Array (read rest) count

abbrev IsRead : CType → Type 0
IsRead t = read (spelled t) ≡ t

integer_back : (bytes : ℕ) (signed : BoolValue) → read ((if signed then 2 else 3) ∷ bytes ∷ []) ≡ Int bytes signed
unfolding read first
integer_back bytes true = refl
integer_back bytes false = refl

-- what is spelled is read back, of pointers and arrays where their item is
read_back : (t : CType) → IsRead t
unfolding read first read_array spelled_step
read_back = ind-CType IsRead (λ x y e. subst (λ v. IsRead (roll-CType v)) e (elim y as (λ v. IsRead (roll-CType (map-CType _ _ (λ q. q.0) v))) [
  | VoidOpen ↦ ap read (spelled_at VoidOpen) ∙ sym rolls-Void
  | BoolOpen ↦ ap read (spelled_at BoolOpen) ∙ sym rolls-Bool
  | IntOpen bytes signed ↦ ap read (spelled_at (IntOpen bytes signed)) ∙ (integer_back bytes signed ∙ sym (rolls-Int bytes signed))
  | PointerOpen item ↦ ap read (spelled_at (PointerOpen item.0)) ∙ (ap Pointer item.1 ∙ sym (rolls-Pointer item.0))
  | StructOpen number ↦ ap read (spelled_at (StructOpen number)) ∙ sym (rolls-Struct number)
  | ArrayOpen item count ↦ ap read (spelled_at (ArrayOpen item.0 count)) ∙ (ap (λ (i : CType). Array i count) item.1 ∙ sym (rolls-Array item.0 count))
]))

-- the number of a type, and the type of a number
pub coded : CType → ℕ
coded t = counted (digits_in (spelled t))

pub decoded : ℕ → CType
decoded number = read (numbers_in zero (digits_of number))

pub decoded_back : (t : CType) → decoded (coded t) ≡ t
unfolding coded decoded
decoded_back t =
    ap (λ digits. read (numbers_in zero digits)) (counted_back (digits_in (spelled t)))
    ∙ (ap read (numbers_back (spelled t)) ∙ read_back t)
