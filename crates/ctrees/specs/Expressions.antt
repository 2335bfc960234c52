-- How many expressions stand in a tree of C, the tree itself among them where it is one.
use Rattle.std.specs.Prelude.{ℕ, ◌+◌, Option, option_map}
use Rattle.ctrees.specs.Weight.{Weight, or_nothing, item_weight, form_weight, part_weight, init_weight, spec_weight, statement_form_weight, decl_weight, declared_weight, param_weight, type_name_weight, expr_weight, init_part_weight, field_decl_weight, field_name_weight, enumerator_weight, stmt_weight}
use Rattle.cbase.specs.declared.tree.expr.ExprForm.{ExprForm}
use Rattle.cbase.specs.declared.tree.expr.Part.{Part}
use Rattle.cbase.specs.declared.tree.init.Init.{Init}
use Rattle.cbase.specs.declared.tree.spec.TypeSpec.{TypeSpec}
use Rattle.cbase.specs.declared.tree.stmt.StmtForm.{StmtForm}
use Rattle.cbase.specs.declared.tree.decl.Decl.{Decl}
use Rattle.cbase.specs.declared.tree.decl.Declared.{Declared}
use Rattle.cbase.specs.declared.tree.decl.Param.{Param}
use Rattle.cbase.specs.declared.tree.decl.TypeName.{TypeName}
use Rattle.cbase.specs.declared.tree.expr.Expr.{Expr}
use Rattle.cbase.specs.declared.tree.init.InitPart.{InitPart}
use Rattle.cbase.specs.declared.tree.spec.FieldDecl.{FieldDecl}
use Rattle.cbase.specs.declared.tree.spec.FieldName.{FieldName}
use Rattle.cbase.specs.declared.tree.spec.Enumerator.{Enumerator}
use Rattle.cbase.specs.declared.tree.stmt.Stmt.{Stmt}
use Rattle.cbase.specs.declared.tree.item.Item.{Item}

-- the sum of what stands side by side, and one for each expression
abbrev pub counted : Weight
counted = record { join = ◌+◌; expr = 1; stmt = 0; spec = 0; init = 0 }

abbrev pub form_expressions : ExprForm → ℕ
form_expressions = form_weight counted

abbrev pub part_expressions : Part → ℕ
part_expressions = part_weight counted

abbrev pub init_expressions : Init → ℕ
init_expressions = init_weight counted

abbrev pub spec_expressions : TypeSpec → ℕ
spec_expressions = spec_weight counted

abbrev pub statement_form_expressions : StmtForm → ℕ
statement_form_expressions = statement_form_weight counted

abbrev pub decl_expressions : Decl → ℕ
decl_expressions = decl_weight counted

abbrev pub declared_expressions : Declared → ℕ
declared_expressions = declared_weight counted

abbrev pub param_expressions : Param → ℕ
param_expressions = param_weight counted

abbrev pub type_name_expressions : TypeName → ℕ
type_name_expressions = type_name_weight counted

abbrev pub expr_expressions : Expr → ℕ
expr_expressions = expr_weight counted

abbrev pub init_part_expressions : InitPart → ℕ
init_part_expressions = init_part_weight counted

abbrev pub field_decl_expressions : FieldDecl → ℕ
field_decl_expressions = field_decl_weight counted

abbrev pub field_name_expressions : FieldName → ℕ
field_name_expressions = field_name_weight counted

abbrev pub enumerator_expressions : Enumerator → ℕ
enumerator_expressions = enumerator_weight counted

abbrev pub stmt_expressions : Stmt → ℕ
stmt_expressions = stmt_weight counted

-- an expression that may be left out
abbrev pub maybe_expressions : Option Expr → ℕ
maybe_expressions expr = or_nothing (option_map expr_expressions expr)

abbrev pub item_expressions : Item → ℕ
item_expressions = item_weight counted
