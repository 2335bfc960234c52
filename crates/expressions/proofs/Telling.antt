-- What the walk over a part tells of it, as what is found of the part.
use denote.Ref.{MutBor}
use Rattle.std.proofs.Common.{◌≡◌, ◌≤◌, ℕ, length, subst, Result, Ok, Err, IfOk}
use Rattle.cbase.specs.declared.abi.Abi.{Abi}
use Rattle.cbase.specs.declared.no_memory.NoMemory.{NoMemory}
use Rattle.typing.specs.Known.{Known}
use Rattle.typing.specs.NamedTypes.{NamedType}
use Rattle.expressions.specs.declared.checker.Within.{Within}
use Rattle.expressions.specs.declared.found.Found.{Found}
use Rattle.expressions.specs.declared.found.Found.TheVariants.{Passes, Refused}
use Rattle.expressions.specs.declared.known.Known.{Known as KnownByNumber}
use Rattle.expressions.specs.declared.named_type.NamedType.{NamedType as NamedByNumber}
use Rattle.expressions.specs.declared.part.Part.{Part}
use Rattle.expressions.specs.declared.part.Told.{Told}
use Rattle.expressions.specs.declared.part.Told.TheVariants as told
use Rattle.expressions.specs.Context.{Context}
use Rattle.expressions.specs.Found.{an_expression, a_type, nothing}
use Rattle.expressions.specs.Nests.{Nests, IsTold, IsToldExpression, IsToldType, IsToldNothing, IsPartBelow, part_levels}
use Rattle.expressions.specs.Telling.{IsOfExpression, IsOfType, IsOfNothing, expression_told, type_told, nothing_told}
use Rattle.expressions.specs.Walked.{Tells, Walked}

module _ {pre : MutBor Context → Within → Part → Type 0} {post : MutBor Context → Within → Part → Result (Found Told) NoMemory → MutBor Context → Type 0}
    (abi : Abi) (depth : ℕ) (nests : Nests abi depth pre post) (part : Part) (deep : part_levels part ≤ depth) where
  -- a part of at most so many levels may be asked
  pub may_ask : (old : MutBor Context) → IsPartBelow (length old.now.types) part → pre old (record { abi = abi; depth = depth }) part
  may_ask old below = nests.callable old part deep below

  -- what is told of it
  pub asked : (old new : MutBor Context) (r : Result (Found Told) NoMemory) → post old (record { abi = abi; depth = depth }) part r new → IfOk r (λ found. IsTold abi part old.now new.now found)
  asked old new r told = nests.told old new part r deep told

module _ (tells : Tells Known) (old new : Context) where
  pub of_expression : (r : Result (Found Told) NoMemory) → IfOk r (λ found. IsToldExpression tells old new found) → IfOk r IsOfExpression
  of_expression (Ok (Passes (told.Expression known))) walked = tt
  of_expression (Ok (Passes (told.TypeName named))) walked = walked
  of_expression (Ok (Passes told.Nothing)) walked = walked
  of_expression (Ok (Refused first)) walked = tt
  of_expression (Err error) walked = tt

  expression_walked : (r : Result (Found KnownByNumber) NoMemory) → IfOk (expression_told r) (λ found. IsToldExpression tells old new found)
      → IfOk r (λ found. Walked tells an_expression old new found)
  expression_walked (Ok (Passes known)) walked = walked
  expression_walked (Ok (Refused first)) walked = walked
  expression_walked (Err error) walked = tt

  pub expression_of : (r : Result (Found Told) NoMemory) (one : Result (Found KnownByNumber) NoMemory) → r ≡ expression_told one
      → IfOk r (λ found. IsToldExpression tells old new found) → IfOk one (λ found. Walked tells an_expression old new found)
  expression_of r one is walked = expression_walked one (subst (λ (all : Result (Found Told) NoMemory). IfOk all (λ found. IsToldExpression tells old new found)) is walked)

module _ (tells : Tells NamedType) (old new : Context) where
  pub of_type : (r : Result (Found Told) NoMemory) → IfOk r (λ found. IsToldType tells old new found) → IfOk r IsOfType
  of_type (Ok (Passes (told.Expression known))) walked = walked
  of_type (Ok (Passes (told.TypeName named))) walked = tt
  of_type (Ok (Passes told.Nothing)) walked = walked
  of_type (Ok (Refused first)) walked = tt
  of_type (Err error) walked = tt

  type_walked : (r : Result (Found NamedByNumber) NoMemory) → IfOk (type_told r) (λ found. IsToldType tells old new found)
      → IfOk r (λ found. Walked tells a_type old new found)
  type_walked (Ok (Passes named)) walked = walked
  type_walked (Ok (Refused first)) walked = walked
  type_walked (Err error) walked = tt

  pub type_of : (r : Result (Found Told) NoMemory) (one : Result (Found NamedByNumber) NoMemory) → r ≡ type_told one
      → IfOk r (λ found. IsToldType tells old new found) → IfOk one (λ found. Walked tells a_type old new found)
  type_of r one is walked = type_walked one (subst (λ (all : Result (Found Told) NoMemory). IfOk all (λ found. IsToldType tells old new found)) is walked)

module _ (tells : Tells (Unit {0})) (old new : Context) where
  pub of_nothing : (r : Result (Found Told) NoMemory) → IfOk r (λ found. IsToldNothing tells old new found) → IfOk r IsOfNothing
  of_nothing (Ok (Passes (told.Expression known))) walked = walked
  of_nothing (Ok (Passes (told.TypeName named))) walked = walked
  of_nothing (Ok (Passes told.Nothing)) walked = tt
  of_nothing (Ok (Refused first)) walked = tt
  of_nothing (Err error) walked = tt

  nothing_walked : (r : Result (Found (Unit {0})) NoMemory) → IfOk (nothing_told r) (λ found. IsToldNothing tells old new found)
      → IfOk r (λ found. Walked tells nothing old new found)
  nothing_walked (Ok (Passes unit)) walked = walked
  nothing_walked (Ok (Refused first)) walked = walked
  nothing_walked (Err error) walked = tt

  pub nothing_of : (r : Result (Found Told) NoMemory) (one : Result (Found (Unit {0})) NoMemory) → r ≡ nothing_told one
      → IfOk r (λ found. IsToldNothing tells old new found) → IfOk one (λ found. Walked tells nothing old new found)
  nothing_of r one is walked = nothing_walked one (subst (λ (all : Result (Found Told) NoMemory). IfOk all (λ found. IsToldNothing tells old new found)) is walked)
