-- The variable of the object of a name, where blocks stand around.
use Rattle.std.specs.Prelude.{◌≡◌, ℕ, Option}
use Rattle.cbase.specs.declared.place.Place.{Place}
use Rattle.cbase.specs.declared.tree.expr.Expr.{Expr}
use Rattle.c_machine.specs.Program.{Program}
use Rattle.c_machine.specs.Trees.{text_of}
use Rattle.lowering.specs.Placing.{Around, variable_of}
use Rattle.lowering.specs.Reading.{named_variable}
use Rattle.lowering.specs.Source.{Source, IsSource}

-- of one that is declared, and of one that an expression names
pub record IsVariable (source : Source) (around : Around) (place : Place) (found : Option ℕ) : Type 0 where
  pub of : (p : Program) → IsSource source p → found ≡ variable_of around ((text_of p).token place)

pub record IsNamedVariable (source : Source) (around : Around) (expr : Expr) (found : Option ℕ) : Type 0 where
  pub of : (p : Program) → IsSource source p → found ≡ named_variable (variable_of around) ((text_of p).stands expr)
