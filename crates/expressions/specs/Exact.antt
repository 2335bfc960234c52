-- The other direction: whatever is found of an expression is what was told of it.
use Rattle.std.specs.Prelude.{◌≡◌, ◌++◌, List, map}
use Rattle.cbase.specs.declared.abi.Abi.{Abi}
use Rattle.cbase.specs.declared.tree.expr.Expr.{Expr}
use Rattle.typing.specs.Known.{Known}
use Rattle.typing.specs.Outcomes.{Outcome, Passes, Refused}
use Rattle.typing.specs.Typing.{ExpressionIs, Finds}
use Rattle.expressions.specs.declared.found.Found.{Found}
use Rattle.expressions.specs.declared.found.Found.TheVariants.{Passes as FoundToPass, Refused as FoundRefused}
use Rattle.expressions.specs.declared.handed_row.HandedRow.{HandedRow}
use Rattle.expressions.specs.declared.known.Known.{Known as KnownByNumber}
use Rattle.expressions.specs.Context.{Context, Declared, declared, Agrees}
use Rattle.expressions.specs.Numbers.{Numbering, known_at, handed_at}
use Rattle.expressions.specs.Language.{language}

-- an outcome is what was told
abbrev pub IsTheOutcome : Numbering → Context → Context → Found KnownByNumber → Outcome Known → Type 0
IsTheOutcome n old new (FoundToPass known) outcome =
    (rows : List HandedRow) × (new.handed ≡ old.handed ++ rows) × (outcome ≡ Passes (known_at n known) (map (handed_at n) rows))
IsTheOutcome n old new (FoundRefused first) outcome = outcome ≡ Refused first

abbrev pub NothingElse : Abi → Expr → Context → Context → Found KnownByNumber → Type 0
NothingElse abi expr old new found = (n : Numbering) → Agrees n new
    → (outcome : Outcome Known) (after : Declared) → Finds (language abi n) (declared old) (ExpressionIs expr outcome) after
    → IsTheOutcome n old new found outcome × (after ≡ declared new)
