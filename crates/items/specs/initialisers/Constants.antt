-- What is handed on of an expression, as it is looked up, and whether it has the form of a constant.
use Rattle.std.specs.Prelude.{◌≡◌, ◌<◌, ℕ, Bool, List, map, option_map}
use Rattle.cbase.specs.declared.tree.expr.Expr.{Expr}
use Rattle.ctrees.specs.Levels.{expr_levels}
use Rattle.typing.specs.Initialisers.{Use, AsValue, AsPlace, Leading, Ends, GoesOn, IsConstant}
use Rattle.typing.specs.Outcomes.{ExpressionRow}
use Rattle.expressions.specs.declared.handed_row.HandedRow.{HandedRow}
use Rattle.expressions.specs.Context.{Context, Agrees}
use Rattle.expressions.specs.Numbers.{Numbering, entity_at, handed_at}
use Rattle.items.specs.declared.initialisers.constant.Leading.{Leading as LeadingByCode}
use Rattle.items.specs.declared.initialisers.constant.Leading.TheVariants as told
use Rattle.items.specs.declared.initialisers.constant.Use.{Use as UseByCode}
use Rattle.items.specs.declared.initialisers.constant.Use.TheVariants.{Value, Place}
use Rattle.items.specs.declared.initialisers.rows.Row.{Row}

abbrev pub row_at : Numbering → Row → ExpressionRow
row_at n row = record { number = row.number; ctype = n.ctype row.ctype; stands = option_map (entity_at n) row.stands; value = row.value }

abbrev pub use_at : UseByCode → Use
use_at Value = AsValue
use_at Place = AsPlace

abbrev pub leading_at : LeadingByCode → Leading
leading_at (told.Ends constant) = Ends constant
leading_at (told.GoesOn next inner) = GoesOn (use_at next) inner.now

-- the part in which it goes on has fewer levels
abbrev pub IsLower : ℕ → LeadingByCode → Type 0
IsLower levels (told.Ends constant) = Unit {0}
IsLower levels (told.GoesOn next inner) = expr_levels inner.now < levels

abbrev pub IsLeading : Context → Expr → (Numbering → Leading) → LeadingByCode → Type 0
IsLeading context expr leads leading =
    IsLower (expr_levels expr) leading × ((n : Numbering) → Agrees n context → leads n ≡ leading_at leading)

abbrev pub IsConstantBy : Context → List HandedRow → Use → Expr → Bool → Type 0
IsConstantBy context rows manner expr constant = (n : Numbering) → Agrees n context → IsConstant (map (handed_at n) rows) manner expr constant
