-- What a walk over a part of a tree leaves: what is found of the part where the context was, and the context behind it.
use Rattle.std.specs.Prelude.{◌≡◌, ℕ, ◌++◌, List, map, length}
use Rattle.cbase.specs.declared.abi.Abi.{Abi}
use Rattle.cbase.specs.declared.place.Place.{Place}
use Rattle.typing.specs.declared.fault.Fault.{Fault}
use Rattle.typing.specs.Forms.{Form}
use Rattle.typing.specs.Known.{Known}
use Rattle.typing.specs.Language.{Language}
use Rattle.typing.specs.Outcomes.{Outcome, Passes, Refused}
use Rattle.typing.specs.Pieces.{pieces_in}
use Rattle.typing.specs.Rules.{AtNode}
use Rattle.typing.specs.Told.{Told}
use Rattle.typing.specs.Typing.{Saying, PiecesAre, Finds}
use Rattle.expressions.specs.declared.found.Found.{Found}
use Rattle.expressions.specs.declared.found.Found.TheVariants.{Passes as FoundToPass, Refused as FoundRefused}
use Rattle.expressions.specs.declared.handed_row.HandedRow.{HandedRow}
use Rattle.expressions.specs.Context.{Context, Declared, declared, Agrees, Grows}
use Rattle.expressions.specs.Found.{Reading}
use Rattle.expressions.specs.Numbers.{Numbering, handed_at}
use Rattle.expressions.specs.Language.{language}

-- what is found of a part, in the language that a numbering gives
abbrev pub Tells : Type 0 → Type 1
Tells A = (n : Numbering) → Declared → Outcome A → Declared → Type 0

-- it passes and is told of, and the rows of the expressions in it are handed on
pub record Passed {A B : Type 0} (tells : Tells A) (reading : Reading B A) (old new : Context) (told : B) : Type 0 where
  pub rows : List HandedRow
  pub handed : new.handed ≡ old.handed ++ rows
  pub grows : Grows old new
  pub below : reading.IsBelow (length new.types) told
  pub found : (n : Numbering) → Agrees n new → tells n (declared old) (Passes (reading.means n told) (map (handed_at n) rows)) (declared new)

-- or something is refused in it
pub record Stopped {A : Type 0} (tells : Tells A) (old new : Context) (first : Fault) : Type 0 where
  pub grows : Grows old new
  pub found : (n : Numbering) → Agrees n new → tells n (declared old) (Refused first) (declared new)

abbrev pub Walked : {A B : Type 0} → Tells A → Reading B A → Context → Context → Found B → Type 0
Walked tells reading old new (FoundToPass told) = Passed tells reading old new told
Walked tells reading old new (FoundRefused first) = Stopped tells old new first

-- a part of a tree in a language
abbrev pub Says : {A : Type 0} → Abi → (Outcome A → Saying) → Tells A
Says abi say n before outcome after = Finds (language abi n) before (say outcome) after

-- one of which is said what numbers stand for
abbrev pub SaysBy : {A : Type 0} → Abi → (Numbering → Outcome A → Saying) → Tells A
SaysBy abi say n before outcome after = Finds (language abi n) before (say n outcome) after

-- an expression by its form
abbrev pub IsAtNode : (l : Language) → l.Environment → ℕ → Place → Form → Outcome (List Told) → Outcome Known → Type 0
IsAtNode l after number place form (Passes told handed) outcome = AtNode l after number place handed form told outcome
IsAtNode l after number place form (Refused first) outcome = outcome ≡ Refused first

abbrev pub SaysForm : Abi → ℕ → Place → Form → Tells Known
SaysForm abi number place form n before outcome after =
    (parts : Outcome (List Told)) × Finds (language abi n) before (PiecesAre (pieces_in form) parts) after
    × IsAtNode (language abi n) after number place form parts outcome
