-- What is found of a part of a statement, of its parts one behind the other, and of a value in it that may be left out.
use Rattle.std.specs.Prelude.{◌≡◌, List, [], Option, None, Some}
use Rattle.cbase.specs.declared.abi.Abi.{Abi}
use Rattle.cbase.specs.declared.tree.expr.Expr.{Expr}
use Rattle.typing.specs.Outcomes.{Passes}
use Rattle.typing.specs.Statements.{StatementPart}
use Rattle.typing.specs.Typing.{StatementPartIs, StatementPartsAre, ValueUsed}
use Rattle.expressions.specs.Walked.{Tells, Says, SaysBy}
use Rattle.items.specs.declared.statements.demands.Demand.{Demand as DemandByNumber}
use Rattle.items.specs.statements.Demands.{demand_at}

abbrev pub SaysPart : Abi → StatementPart → Tells (Unit {0})
SaysPart abi part = Says abi (λ o. StatementPartIs part o)

abbrev pub SaysParts : Abi → List StatementPart → Tells (Unit {0})
SaysParts abi parts = Says abi (λ o. StatementPartsAre parts o)

-- a value that is taken for something
abbrev pub SaysValue : Abi → DemandByNumber → Expr → Tells (Unit {0})
SaysValue abi demand expr = SaysBy abi (λ n o. ValueUsed (demand_at n demand) expr o)

-- where it is left out, it passes, and nothing is declared or handed on
abbrev pub SaysOptional : Abi → DemandByNumber → Option Expr → Tells (Unit {0})
SaysOptional abi demand None n before outcome after = (outcome ≡ Passes tt []) × (after ≡ before)
SaysOptional abi demand (Some expr) n before outcome after = SaysValue abi demand expr n before outcome after
