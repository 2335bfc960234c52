-- What is told of a part that names a type, and what is found of `typeof` by what is found of its expression.
use Rattle.std.proofs.Common.{◌≡◌, ℕ, refl, Result, Ok, Err, IfOk, Some}
use Rattle.cbase.specs.declared.abi.Abi.{Abi}
use Rattle.cbase.specs.declared.no_memory.NoMemory.{NoMemory}
use Rattle.cbase.specs.declared.tree.expr.Expr.{Expr}
use Rattle.cbase.specs.declared.tree.expr.ExprForm.TheOpen.{Struct, Enum, OfExpr}
use Rattle.typing.specs.Typing.{ExpressionIs, NameOfTypeIs, WordsAre}
use Rattle.expressions.specs.declared.found.Found.{Found}
use Rattle.expressions.specs.declared.found.Found.TheVariants.{Passes as FoundToPass, Refused as FoundRefused}
use Rattle.expressions.specs.declared.known.Known.{Known as KnownByNumber}
use Rattle.expressions.specs.declared.named_type.NamedType.{NamedType as NamedByNumber}
use Rattle.expressions.specs.declared.part.Part.{Part}
use Rattle.expressions.specs.declared.part.Part.TheVariants.{Expression, TypeName as NameOfType, Statement, Initialiser, Members, Enumerators}
use Rattle.expressions.specs.declared.part.Told.{Told}
use Rattle.expressions.specs.Context.{Context}
use Rattle.expressions.specs.Found.{an_expression, a_type}
use Rattle.expressions.specs.Nests.{IsTold, IsPartBelow}
use Rattle.expressions.specs.Telling.{IsOfType, type_told}
use Rattle.expressions.specs.TypeParts.{IsTypePart, IsTypeTold, typeof_found}
use Rattle.expressions.specs.Walked.{Walked, Says}
use Rattle.expressions.proofs.Parts.{unloaded_part}
use Rattle.expressions.proofs.Telling.{of_type, type_of}
use Rattle.expressions.proofs.TypeWords.{typeof_passes, typeof_refused}

-- no number of a type is handed in with it
pub type_part_below : (count : ℕ) (part : Part) → IsTypePart part → IsPartBelow count part
type_part_below count (Expression expr) is = absurd is
type_part_below count (NameOfType name) is = tt
type_part_below count (Statement stmt) is = absurd is
type_part_below count (Initialiser subject slot init) is = absurd is
type_part_below count (Members name fields) is = tt
type_part_below count (Enumerators name values) is = tt

module _ (abi : Abi) (old new : Context) where
  pub type_part_is : (part : Part) (r : Result (Found Told) NoMemory) → IsTypePart part → IfOk r (λ found. IsTold abi part old new found) → IfOk r IsOfType
  type_part_is (Expression expr) r is told = absurd is
  type_part_is (NameOfType name) r is told = of_type (Says abi (NameOfTypeIs name.now)) old new r told
  type_part_is (Statement stmt) r is told = absurd is
  type_part_is (Initialiser subject slot init) r is told = absurd is
  type_part_is (Members name fields) r is told = of_type (Says abi (WordsAre (Struct name.now (Some fields.now)))) old new r told
  type_part_is (Enumerators name values) r is told = of_type (Says abi (WordsAre (Enum name.now (Some values.now)))) old new r told

  pub type_part_told : (part : Part) (r : Result (Found Told) NoMemory) (one : Result (Found NamedByNumber) NoMemory) → IsTypePart part → r ≡ type_told one
      → IfOk r (λ found. IsTold abi part old new found) → IfOk one (λ found. IsTypeTold abi part old new found)
  type_part_told (Expression expr) r one is same told = absurd is
  type_part_told (NameOfType name) r one is same told = type_of (Says abi (NameOfTypeIs name.now)) old new r one same told
  type_part_told (Statement stmt) r one is same told = absurd is
  type_part_told (Initialiser subject slot init) r one is same told = absurd is
  type_part_told (Members name fields) r one is same told = type_of (Says abi (WordsAre (Struct name.now (Some fields.now)))) old new r one same told
  type_part_told (Enumerators name values) r one is same told = type_of (Says abi (WordsAre (Enum name.now (Some values.now)))) old new r one same told

  typeof_of : (expr : Expr) (r : Result (Found KnownByNumber) NoMemory) → IfOk r (λ found. Walked (Says abi (λ o. ExpressionIs expr o)) an_expression old new found)
      → IfOk (typeof_found r) (λ found. Walked (Says abi (λ o. WordsAre (OfExpr expr) o)) a_type old new found)
  typeof_of expr (Ok (FoundToPass known)) walked = typeof_passes abi old new expr known (FoundToPass known) refl (unloaded_part abi expr old new (Ok (FoundToPass known)) walked)
  typeof_of expr (Ok (FoundRefused first)) walked = typeof_refused abi old new expr first (FoundRefused first) refl (unloaded_part abi expr old new (Ok (FoundRefused first)) walked)
  typeof_of expr (Err error) walked = tt

  pub typeof_told : (expr : Expr) (r : Result (Found KnownByNumber) NoMemory) (one : Result (Found NamedByNumber) NoMemory) → one ≡ typeof_found r
      → IfOk r (λ found. Walked (Says abi (λ o. ExpressionIs expr o)) an_expression old new found)
      → IfOk one (λ found. Walked (Says abi (λ o. WordsAre (OfExpr expr) o)) a_type old new found)
  typeof_told expr r one is walked = rw is (typeof_of expr r walked)
