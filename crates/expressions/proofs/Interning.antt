-- A number that a type has keeps it where what the type is is said in another way.
use Rattle.std.proofs.Common.{◌≡◌, ℕ, ◌<◌, length, ◌∙◌}
use Rattle.std.specs.Prelude.{Result, Ok, Err, IfOk}
use Rattle.cbase.specs.declared.ctype.CType.{CType}
use Rattle.expressions.specs.Context.{Context, Agrees}
use Rattle.expressions.specs.Numbers.{Numbering}
use Rattle.expressions.specs.Operated.{Numbers}
use Rattle.expressions.proofs.Growth.{agrees_before_types, only_types_same}

pub numbers_as : {E : Type 0} (old new : Context) (t u : Numbering → CType) → ((n : Numbering) → Agrees n old → t n ≡ u n)
    → (result : Result ℕ E) → IfOk result (λ number. Numbers t old new number) → IfOk result (λ number. Numbers u old new number)
numbers_as old new t u same (Ok number) numbers = record {
  only_types = numbers.only_types;
  below = numbers.below;
  meant = λ n agrees. numbers.meant n agrees ∙ same n (agrees_before_types old new n numbers.only_types agrees);
}
numbers_as old new t u same (Err error) numbers = tt

-- a number that is there
pub numbers_here : (context : Context) (t : Numbering → CType) (number : ℕ) → number < length context.types
    → ((n : Numbering) → Agrees n context → n.ctype number ≡ t n) → Numbers t context context number
numbers_here context t number below meant = record { only_types = only_types_same context; below = below; meant = meant }
