-- How deep a tree of C is: the largest number of expressions, statements, type words and initialisers that lie one
-- inside the other.
use Rattle.std.specs.Prelude.{ℕ, max, Option, option_map}
use Rattle.ctrees.specs.Weight.{Weight, or_nothing, item_weight, form_weight, part_weight, init_weight, spec_weight, statement_form_weight, decl_weight, declared_weight, param_weight, type_name_weight, expr_weight, init_part_weight, field_decl_weight, field_name_weight, enumerator_weight, stmt_weight}
use Rattle.cbase.specs.declared.tree.expr.ExprForm.{ExprForm}
use Rattle.cbase.specs.declared.tree.expr.Part.{Part}
use Rattle.cbase.specs.declared.tree.init.Init.{Init}
use Rattle.cbase.specs.declared.tree.spec.TypeSpec.{TypeSpec}
use Rattle.cbase.specs.declared.tree.stmt.StmtForm.{StmtForm}
use Rattle.cbase.specs.declared.tree.decl.Decl.{Decl}
use Rattle.cbase.specs.declared.tree.decl.Declared.{Declared}
use Rattle.cbase.specs.declared.tree.decl.Param.{Param}
use Rattle.cbase.specs.declared.tree.decl.TypeName.{TypeName}
use Rattle.cbase.specs.declared.tree.expr.Expr.{Expr}
use Rattle.cbase.specs.declared.tree.init.InitPart.{InitPart}
use Rattle.cbase.specs.declared.tree.spec.FieldDecl.{FieldDecl}
use Rattle.cbase.specs.declared.tree.spec.FieldName.{FieldName}
use Rattle.cbase.specs.declared.tree.spec.Enumerator.{Enumerator}
use Rattle.cbase.specs.declared.tree.stmt.Stmt.{Stmt}
use Rattle.cbase.specs.declared.tree.item.Item.{Item}

-- the deepest of what stands side by side, and one level for each of the four kinds
abbrev pub depth : Weight
depth = record { join = max; expr = 1; stmt = 1; spec = 1; init = 1 }

abbrev pub form_levels : ExprForm → ℕ
form_levels = form_weight depth

abbrev pub part_levels : Part → ℕ
part_levels = part_weight depth

abbrev pub init_levels : Init → ℕ
init_levels = init_weight depth

abbrev pub spec_levels : TypeSpec → ℕ
spec_levels = spec_weight depth

abbrev pub statement_form_levels : StmtForm → ℕ
statement_form_levels = statement_form_weight depth

abbrev pub decl_levels : Decl → ℕ
decl_levels = decl_weight depth

abbrev pub declared_levels : Declared → ℕ
declared_levels = declared_weight depth

abbrev pub param_levels : Param → ℕ
param_levels = param_weight depth

abbrev pub type_name_levels : TypeName → ℕ
type_name_levels = type_name_weight depth

abbrev pub expr_levels : Expr → ℕ
expr_levels = expr_weight depth

abbrev pub init_part_levels : InitPart → ℕ
init_part_levels = init_part_weight depth

abbrev pub field_decl_levels : FieldDecl → ℕ
field_decl_levels = field_decl_weight depth

abbrev pub field_name_levels : FieldName → ℕ
field_name_levels = field_name_weight depth

abbrev pub enumerator_levels : Enumerator → ℕ
enumerator_levels = enumerator_weight depth

abbrev pub stmt_levels : Stmt → ℕ
stmt_levels = stmt_weight depth

-- an expression that may be left out
abbrev pub maybe_levels : Option Expr → ℕ
maybe_levels expr = or_nothing (option_map expr_levels expr)

abbrev pub item_levels : Item → ℕ
item_levels = item_weight depth
