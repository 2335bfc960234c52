-- What a context answers of an operation on types: the number of its type, or what is broken at its operator.
use Rattle.std.specs.Prelude.{◌≡◌, ◌<◌, ℕ, length}
use Rattle.cbase.specs.declared.ctype.CType.{CType}
use Rattle.cbase.specs.declared.place.Place.{Place}
use Rattle.typing.specs.declared.ctypes.found.Broken.{Broken}
use Rattle.typing.specs.declared.ctypes.found.Outcome.{Outcome}
use Rattle.typing.specs.declared.ctypes.found.Outcome.TheVariants.{Typed, Broken as BrokenHere}
use Rattle.typing.specs.ctypes.Broken.{Judgement}
use Rattle.typing.specs.Faults.{fault}
use Rattle.expressions.specs.declared.found.Found.{Found}
use Rattle.expressions.specs.declared.found.Found.TheVariants.{Passes, Refused}
use Rattle.expressions.specs.declared.known.Known.{Known}
use Rattle.expressions.specs.Context.{Context, Agrees, OnlyTypes}
use Rattle.expressions.specs.Numbers.{Numbering, judgement_at, IsTypedBelow}
use Rattle.expressions.specs.Settled.{HandsOn}

-- only types get numbers, and what is answered means what is found
pub record Operates (judge : Numbering → Judgement) (old new : Context) (outcome : Outcome) : Type 0 where
  pub only_types : OnlyTypes old new
  pub below : IsTypedBelow (length new.types) outcome
  pub judged : (n : Numbering) → Agrees n new → judgement_at n outcome ≡ judge n

-- a type gets the number that is answered
pub record Numbers (t : Numbering → CType) (old new : Context) (number : ℕ) : Type 0 where
  pub only_types : OnlyTypes old new
  pub below : number < length new.types
  pub meant : (n : Numbering) → Agrees n new → n.ctype number ≡ t n

-- an expression whose type has a number passes, and is handed on with the rest of what is known of it; what is broken is refused at its place
abbrev pub Finished : (Broken → Place) → Known → ℕ → Context → Outcome → Context → Found Known → Type 0
Finished place rest number old (Typed ctype) new (Passes known) = (known ≡ record rest { ctype = ctype }) × HandsOn number old new known
Finished place rest number old (Typed ctype) new (Refused first) = ⊥
Finished place rest number old (BrokenHere broken) new (Passes known) = ⊥
Finished place rest number old (BrokenHere broken) new (Refused first) = (first ≡ fault (place broken) broken) × (new ≡ old)
