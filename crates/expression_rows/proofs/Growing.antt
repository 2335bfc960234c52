-- A number that a type gets is below the length of the table of types, which is no shorter than before.
use Rattle.std.proofs.Common.{◌≡◌, ℕ, ◌<◌, ◌≤◌, List, [], ◌∷◌, ◌++◌, length, arith, subst, sym}
use Rattle.std.proofs.lemmas.List.Elements.{All-append, All-from_recursion}
use Rattle.std.specs.Prelude.{All, Result, Ok, Err, IfOk, OnOk}
use Rattle.cbase.specs.declared.ctype.CType.{CType}
use Rattle.expressions.specs.Context.{Context}
use Rattle.expressions.specs.Numbers.{Numbering}
use Rattle.expressions.specs.Operated.{Numbers}
use Rattle.expressions.proofs.Growth.{grows_longer, only_types_grows}

module _ {E : Type 0} (t : Numbering → CType) (old new : Context) where
  pub is_below : (r : Result ℕ E) → IfOk r (λ number. Numbers t old new number) → IfOk r (λ number. number < length new.types)
  is_below (Ok number) numbers = numbers.below
  is_below (Err error) numbers = tt

  pub is_longer : (r : Result ℕ E) → IfOk r (λ number. Numbers t old new number) → OnOk r (length old.types ≤ length new.types)
  is_longer (Ok number) numbers = grows_longer old new (only_types_grows old new numbers.only_types)
  is_longer (Err error) numbers = tt

module _ (t : Numbering → CType) (fewer : ℕ) (old new : Context) where
  pub longer_by : (number : ℕ) → fewer ≤ length old.types → Numbers t old new number → fewer ≤ length new.types
  longer_by number behind numbers = omega (arith, behind, grows_longer old new (only_types_grows old new numbers.only_types))

  pub is_longer_still : {E : Type 0} (r : Result ℕ E) → fewer ≤ length old.types → IfOk r (λ number. Numbers t old new number) → OnOk r (fewer ≤ length new.types)
  is_longer_still (Ok number) behind numbers = longer_by number behind numbers
  is_longer_still (Err error) behind numbers = tt

-- items whose numbers are below, with one more
module _ {A : Type 0} (number : A → ℕ) (fewer more : ℕ) where
  pub one_more_below : (items all : List A) (item : A) → All (λ one. number one < fewer) items → fewer ≤ more → number item < more → all ≡ items ++ item ∷ []
      → All (λ one. number one < more) all
  one_more_below items all item below longer last is =
      subst (All (λ one. number one < more)) (sym is)
      (All-append (λ one. number one < more) items (item ∷ []) (λ at default inside. omega (arith, below at default inside, longer)) (All-from_recursion (λ one. number one < more) (item ∷ []) (last, tt)))
