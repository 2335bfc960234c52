-- What code finds at an expression itself, of what is known of its parts. Nothing is declared there.
use Rattle.std.specs.Prelude.{◌≡◌, ℕ, ◌<◌, ◌++◌, List, [], ◌∷◌, Option, None, Some, slice_get, length}
use Rattle.cbase.specs.declared.ctype.CType.{CType}
use Rattle.cbase.specs.declared.place.Place.{Place}
use Rattle.typing.specs.declared.ctypes.found.Broken.{Broken}
use Rattle.typing.specs.ctypes.Broken.{Judgement, Typed, Breaks}
use Rattle.typing.specs.declared.fault.Fault.{Fault}
use Rattle.typing.specs.Faults.{IsFirst}
use Rattle.typing.specs.Known.{Known}
use Rattle.expressions.specs.declared.found.Found.{Found}
use Rattle.expressions.specs.declared.found.Found.TheVariants.{Passes, Refused}
use Rattle.expressions.specs.declared.known.Known.{Known as KnownByNumber}
use Rattle.expressions.specs.Context.{Context, Agrees}
use Rattle.expressions.specs.Numbers.{Numbering, known_at, row_of}

-- the context behind an expression that passes: its row is handed on
pub record HandsOn (number : ℕ) (old new : Context) (known : KnownByNumber) : Type 0 where
  pub types : (at : ℕ) (t : CType) → slice_get old.types at ≡ Some t → slice_get new.types at ≡ Some t
  pub structs : new.structs ≡ old.structs
  pub environment : new.environment ≡ old.environment
  pub handed : new.handed ≡ old.handed ++ row_of number known ∷ []
  pub below : known.ctype < length new.types

-- and behind one that is refused
pub record Stays (old new : Context) : Type 0 where
  pub types : (at : ℕ) (t : CType) → slice_get old.types at ≡ Some t → slice_get new.types at ≡ Some t
  pub structs : new.structs ≡ old.structs
  pub environment : new.environment ≡ old.environment

-- at an operator: a type, of which more is known, or what is broken, with its place
pub record JudgedToPass (judge : Numbering → Judgement) (knows : Numbering → CType → Known) (number : ℕ) (old new : Context) (known : KnownByNumber) : Type 0 where
  pub hands_on : HandsOn number old new known
  pub judged : (n : Numbering) → Agrees n new → judge n ≡ Typed (n.ctype known.ctype)
  pub meant : (n : Numbering) → Agrees n new → known_at n known ≡ knows n (n.ctype known.ctype)

pub record JudgedBroken (judge : Numbering → Judgement) (place : Broken → Place) (old new : Context) (first : Fault) : Type 0 where
  pub stays : Stays old new
  pub judged : (n : Numbering) → Agrees n new → judge n ≡ Breaks first.broken
  pub placed : first.place ≡ place first.broken

abbrev pub Judged : (Numbering → Judgement) → (Broken → Place) → (Numbering → CType → Known) → ℕ → Context → Context → Found KnownByNumber → Type 0
Judged judge place knows number old new (Passes known) = JudgedToPass judge knows number old new known
Judged judge place knows number old new (Refused first) = JudgedBroken judge place old new first

-- where several things are asked: nothing is broken, or the first of what is
pub record SettledToPass (faults : Numbering → List Fault) (knows : Numbering → Known) (number : ℕ) (old new : Context) (known : KnownByNumber) : Type 0 where
  pub hands_on : HandsOn number old new known
  pub nothing : (n : Numbering) → Agrees n new → faults n ≡ []
  pub meant : (n : Numbering) → Agrees n new → known_at n known ≡ knows n

pub record SettledBroken (faults : Numbering → List Fault) (old new : Context) (first : Fault) : Type 0 where
  pub stays : Stays old new
  pub is_first : (n : Numbering) → Agrees n new → IsFirst (faults n) first

abbrev pub Settled : (Numbering → List Fault) → (Numbering → Known) → ℕ → Context → Context → Found KnownByNumber → Type 0
Settled faults knows number old new (Passes known) = SettledToPass faults knows number old new known
Settled faults knows number old new (Refused first) = SettledBroken faults old new first

-- what comes of an expression of which so much is known, where the first thing that is broken, if any, is this
abbrev pub IsSettledBy : Option Fault → KnownByNumber → ℕ → Context → Context → Found KnownByNumber → Type 0
IsSettledBy None known number old new (Passes told) = (told ≡ known) × HandsOn number old new known
IsSettledBy None known number old new (Refused first) = ⊥
IsSettledBy (Some broken) known number old new (Passes told) = ⊥
IsSettledBy (Some broken) known number old new (Refused first) = (first ≡ broken) × (new ≡ old)

-- the first of what is broken, if anything is
abbrev pub IsFirstOf : List Fault → Option Fault → Type 0
IsFirstOf faults None = faults ≡ []
IsFirstOf faults (Some first) = IsFirst faults first
