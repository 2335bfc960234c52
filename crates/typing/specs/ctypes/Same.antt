-- Types compared: two are the same where they are spelled by the same numbers.
use Rattle.std.specs.Prelude.{ℕ, Bool, List, [], ◌∷◌, if◌then◌else◌}
use Rattle.std.specs.Str.{bytes_eq}
use Rattle.cbase.specs.declared.ctype.CType.{CType}
use Rattle.cbase.specs.declared.ctype.CType.TheOpen.{CType-F, Void, Bool as BoolType, Int, Pointer, Struct, Array}
use Rattle.cbase.specs.declared.ctype.CType.TheFolds.{fold-CType}

-- a form of types by its number, with what it has, and then its item
abbrev pub spelled_step : CType-F (List ℕ) → List ℕ
spelled_step Void = 0 ∷ []
spelled_step BoolType = 1 ∷ []
spelled_step (Int bytes signed) = 2 ∷ bytes ∷ (if signed then 1 else 0) ∷ []
spelled_step (Pointer item) = 3 ∷ item
spelled_step (Struct number) = 4 ∷ number ∷ []
spelled_step (Array item count) = 5 ∷ count ∷ item

-- a type as a row of numbers
unfoldable pub spelled : CType → List ℕ
spelled t = fold-CType (List ℕ) spelled_step t

-- whether two types are the same
abbrev pub same_type : CType → CType → Bool
same_type s t = bytes_eq (spelled s) (spelled t)
