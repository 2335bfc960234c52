-- The other direction: whatever is found of a statement, and of an item of the file, is what was told of it.
use Rattle.std.specs.Prelude.{◌≡◌, ◌++◌, List, map}
use Rattle.cbase.specs.declared.abi.Abi.{Abi}
use Rattle.cbase.specs.declared.place.Place.{Place}
use Rattle.cbase.specs.declared.tree.item.Item.{Item}
use Rattle.cbase.specs.declared.tree.stmt.Stmt.{Stmt}
use Rattle.typing.specs.Items.{FindsInFile, ItemIs}
use Rattle.typing.specs.Outcomes.{Outcome, Passes, Refused}
use Rattle.typing.specs.Typing.{StatementIs, Finds}
use Rattle.expressions.specs.declared.found.Found.{Found}
use Rattle.expressions.specs.declared.found.Found.TheVariants.{Passes as FoundToPass, Refused as FoundRefused}
use Rattle.expressions.specs.declared.handed_row.HandedRow.{HandedRow}
use Rattle.expressions.specs.Context.{Context, Declared, declared, Agrees}
use Rattle.expressions.specs.FileScope.{file_scope}
use Rattle.expressions.specs.Language.{language}
use Rattle.expressions.specs.Numbers.{Numbering, handed_at}

-- an outcome is what was told
abbrev pub IsTheOutcome : Numbering → Context → Context → Found (Unit {0}) → Outcome (Unit {0}) → Type 0
IsTheOutcome n old new (FoundToPass told) outcome = (rows : List HandedRow) × (new.handed ≡ old.handed ++ rows) × (outcome ≡ Passes tt (map (handed_at n) rows))
IsTheOutcome n old new (FoundRefused first) outcome = outcome ≡ Refused first

abbrev pub NothingElse : Abi → Stmt → Context → Context → Found (Unit {0}) → Type 0
NothingElse abi stmt old new found = (n : Numbering) → Agrees n new
    → (outcome : Outcome (Unit {0})) (after : Declared) → Finds (language abi n) (declared old) (StatementIs stmt outcome) after
    → IsTheOutcome n old new found outcome × (after ≡ declared new)

-- and of an item of the file that begins at a place
abbrev pub ItemIsNothingElse : Abi → Place → Item → Context → Context → Found (Unit {0}) → Type 0
ItemIsNothingElse abi place item old new found = (n : Numbering) → Agrees n new
    → (outcome : Outcome (Unit {0})) (after : Declared) → FindsInFile (language abi n) (file_scope abi n) (declared old) (ItemIs place item outcome) after
    → IsTheOutcome n old new found outcome × (after ≡ declared new)
