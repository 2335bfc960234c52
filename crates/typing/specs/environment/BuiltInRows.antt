-- Names with the types of the functions that are built in under them, written out in bytes for both data layouts.
use Rattle.std.specs.Prelude.{◌≡◌, ℕ, true, false, List, [], ◌∷◌, map, Option, None, Some, codes}
use Rattle.std.specs.List.{AllByRecursion}
use Rattle.cbase.specs.declared.abi.Abi.TheVariants.{Lp64, Llp64}
use Rattle.cbase.specs.declared.ctype.CType.{CType}
use Rattle.cbase.specs.declared.ctype.CType.TheVariants.{Void, Bool, Int, Pointer}
use Rattle.typing.specs.environment.Names.{value_in}
use Rattle.typing.specs.environment.BuiltIns.{FunctionType, built_ins}

-- a name, and what is built in under it where a `long` has 8 bytes and where it has 4
pub record Row : Type 0 where
  pub name : List ℕ
  pub lp64 : Option FunctionType
  pub llp64 : Option FunctionType

abbrev pub IsRight : Row → Type 0
IsRight row = (value_in row.name (built_ins Lp64) ≡ row.lp64) × (value_in row.name (built_ins Llp64) ≡ row.llp64)

abbrev pub typed : CType → List CType → Option FunctionType
typed result parameters = Some (record { result = result; parameters = parameters })

abbrev pub both : List ℕ → CType → List CType → Row
both name result parameters = record { name = name; lp64 = typed result parameters; llp64 = typed result parameters }

-- a result of 8 bytes or of 4
abbrev pub input : List ℕ → CType → CType → Row
input name lp64 llp64 = record { name = name; lp64 = typed lp64 []; llp64 = typed llp64 [] }

abbrev pub no_function : List ℕ → Row
no_function name = record { name = name; lp64 = None; llp64 = None }

abbrev pub s4 : CType
s4 = Int 4 true

abbrev pub s8 : CType
s8 = Int 8 true

abbrev pub u8 : CType
u8 = Int 8 false

abbrev pub rows : List Row
rows =
    both (codes "malloc") (Pointer Void) (u8 ∷ [])
    ∷ both (codes "calloc") (Pointer Void) (u8 ∷ u8 ∷ [])
    ∷ both (codes "free") Void (Pointer Void ∷ [])
    ∷ both (codes "memset") (Pointer Void) (Pointer Void ∷ s4 ∷ u8 ∷ [])
    ∷ both (codes "memcpy") (Pointer Void) (Pointer Void ∷ Pointer Void ∷ u8 ∷ [])
    ∷ both (codes "memmove") (Pointer Void) (Pointer Void ∷ Pointer Void ∷ u8 ∷ [])
    ∷ both (codes "abort") Void []
    ∷ both (codes "exit") Void (s4 ∷ [])
    ∷ both (codes "__VERIFIER_error") Void []
    ∷ both (codes "reach_error") Void []
    ∷ both (codes "__VERIFIER_assume") Void (s4 ∷ [])
    ∷ record { name = codes "__builtin_expect"; lp64 = typed s8 (s8 ∷ s8 ∷ []); llp64 = typed s4 (s4 ∷ s4 ∷ []) }
    ∷ input (codes "__VERIFIER_nondet_int") s4 s4
    ∷ input (codes "__VERIFIER_nondet_uint") (Int 4 false) (Int 4 false)
    ∷ input (codes "__VERIFIER_nondet_long") s8 s4
    ∷ input (codes "__VERIFIER_nondet_ulong") u8 (Int 4 false)
    ∷ input (codes "__VERIFIER_nondet_char") (Int 1 true) (Int 1 true)
    ∷ input (codes "__VERIFIER_nondet_uchar") (Int 1 false) (Int 1 false)
    ∷ input (codes "__VERIFIER_nondet_short") (Int 2 true) (Int 2 true)
    ∷ input (codes "__VERIFIER_nondet_ushort") (Int 2 false) (Int 2 false)
    ∷ input (codes "__VERIFIER_nondet_bool") Bool Bool
    ∷ []

-- names of other functions, and of what is a keyword
abbrev pub other_rows : List Row
other_rows =
    no_function (codes "main")
    ∷ no_function (codes "realloc")
    ∷ no_function (codes "printf")
    ∷ no_function (codes "__assert_fail")
    ∷ no_function (codes "mallo")
    ∷ no_function (codes "mallocs")
    ∷ []

-- the rows are right, and nothing else is built in
pub record AreBuiltIn : Type 0 where
  pub right : AllByRecursion IsRight rows
  pub other : AllByRecursion IsRight other_rows
  pub lp64 : map (λ entry. entry.0) (built_ins Lp64) ≡ map (λ row. row.name) rows
  pub llp64 : map (λ entry. entry.0) (built_ins Llp64) ≡ map (λ row. row.name) rows
