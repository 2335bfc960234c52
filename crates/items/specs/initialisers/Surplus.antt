-- Parts for which there is no place, as far as the first value in them.
use Rattle.std.specs.Prelude.{List}
use Rattle.cbase.specs.declared.abi.Abi.{Abi}
use Rattle.cbase.specs.declared.place.Place.{Place}
use Rattle.cbase.specs.declared.tree.expr.Expr.{Expr}
use Rattle.cbase.specs.declared.tree.init.InitPart.{InitPart}
use Rattle.typing.specs.declared.ctypes.found.Broken.TheVariants.{Rule}
use Rattle.typing.specs.Faults.{fault}
use Rattle.typing.specs.Outcomes.{Outcome, Refused}
use Rattle.typing.specs.Statements.{Surplus}
use Rattle.typing.specs.Typing.{Finds, SurplusAre, ValueUsed}
use Rattle.expressions.specs.Context.{Declared}
use Rattle.expressions.specs.Language.{language}
use Rattle.expressions.specs.Numbers.{Numbering}

-- what is found of the value is found of the parts
abbrev pub Leads : List InitPart → Expr → Type 0
Leads parts expr = (abi : Abi) (n : Numbering) (before after : Declared) (place : Place) (outcome : Outcome (Unit {0}))
    → Finds (language abi n) before (ValueUsed Surplus expr outcome) after
    → Finds (language abi n) before (SurplusAre place parts outcome) after

-- and where there is none they are rule 5 at the declared name
abbrev pub HasNone : List InitPart → Type 0
HasNone parts = (abi : Abi) (n : Numbering) (env : Declared) (place : Place) → Finds (language abi n) env (SurplusAre place parts (Refused (fault place (Rule 5)))) env
