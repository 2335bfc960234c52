-- What is left by a value that is stored in an object, of which so much is known.
use Rattle.std.specs.Prelude.{◌≡◌, ◌++◌, ℕ, Bool, [], ◌∷◌, map, drop, Option, None, Some}
use Rattle.cbase.specs.declared.ctype.CType.{CType}
use Rattle.cbase.specs.declared.tree.expr.Expr.{Expr}
use Rattle.typing.specs.declared.fault.Fault.{Fault}
use Rattle.typing.specs.Initialisers.{IsAsked}
use Rattle.typing.specs.Statements.{Stored, faults_of_value}
use Rattle.expressions.specs.declared.found.Found.{Found}
use Rattle.expressions.specs.declared.found.Found.TheVariants.{Passes as FoundToPass, Refused as FoundRefused}
use Rattle.expressions.specs.declared.handed_row.HandedRow.TheVariants.{Store as StoreRow}
use Rattle.expressions.specs.declared.known.Known.{Known}
use Rattle.expressions.specs.declared.part.Slot.{Slot}
use Rattle.expressions.specs.declared.part.Subject.{Subject}
use Rattle.expressions.specs.Context.{Context, Agrees}
use Rattle.expressions.specs.Numbers.{Numbering, known_at, handed_at}
use Rattle.expressions.specs.Settled.{IsFirstOf}

-- whether it has the form of a constant, where that is asked, by what was handed on behind the first rows
abbrev pub IsForm : Context → ℕ → Bool → Expr → Bool → Type 0
IsForm context before fixed value constant =
    (n : Numbering) (t : CType) → Agrees n context → IsAsked (Stored fixed t) (map (handed_at n) (drop before context.handed)) value constant

-- the first thing that is broken at it, if anything is
abbrev pub IsJudged : Context → ℕ → Bool → ℕ → Expr → Known → Option Fault → Type 0
IsJudged context before fixed to value known found =
    (constant : Bool) × IsForm context before fixed value constant
    × ((n : Numbering) → Agrees n context → IsFirstOf (faults_of_value context.structs (Stored fixed (n.ctype to)) constant value.place (known_at n known)) found)

-- nothing is, and the store is handed on; or it is refused
abbrev pub IsStored : ℕ → Subject → Slot → Expr → Known → Context → Context → Found (Unit {0}) → Type 0
IsStored before subject slot value known old new (FoundToPass told) =
    IsJudged old before subject.fixed slot.ctype value known None
    × (new ≡ record old { handed = old.handed ++ StoreRow subject.place.at slot.offset slot.ctype value.number ∷ [] })
IsStored before subject slot value known old new (FoundRefused first) =
    IsJudged old before subject.fixed slot.ctype value known (Some first) × (new ≡ old)
