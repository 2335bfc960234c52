-- Each part of a tree has a level of its own.
use Rattle.std.proofs.Common.{◌≡◌, ◌≤◌, ◌+◌, ℕ, None, Some, map, arith, subst}
use Rattle.cbase.specs.declared.tree.expr.Expr.{Expr}
use Rattle.cbase.specs.declared.tree.expr.ExprForm.TheFolds.{fold-roll-TypeSpec, fold-roll-Expr, fold-roll-Stmt, fold-roll-Init}
use Rattle.cbase.specs.declared.tree.expr.ExprForm.TheOpen as layer
use Rattle.cbase.specs.declared.tree.expr.ExprForm.TheViews.{out-TypeSpec, roll-TypeSpec, roll-out-TypeSpec, out-Init, roll-Init, roll-out-Init}
use Rattle.cbase.specs.declared.tree.init.Init.{Init}
use Rattle.cbase.specs.declared.tree.spec.TypeSpec.{TypeSpec}
use Rattle.cbase.specs.declared.tree.spec.TypeSpec.TheVariants.{Struct as StructSpec, Enum as EnumSpec}
use Rattle.cbase.specs.declared.tree.stmt.Stmt.{Stmt}
use Rattle.ctrees.specs.Levels.{depth, expr_levels, form_levels, stmt_levels, statement_form_levels, init_levels, init_part_levels, spec_levels, type_name_levels, field_decl_levels, enumerator_levels}
use Rattle.ctrees.specs.Weight.{joined, in_form, in_part, in_init, in_spec, in_statement_form, in_decl, in_declared, in_param, in_type_name, in_expr, in_init_part, in_field_decl, in_field_name, in_enumerator, in_stmt}
use Rattle.typing.specs.Forms.{Words, Initialiser}
use Rattle.expressions.specs.declared.part.Part.{Part}
use Rattle.expressions.specs.declared.part.Part.TheVariants.{Expression, TypeName as NameOfType, Statement, Initialiser as InitialiserPart, Members, Enumerators}
use Rattle.expressions.specs.Nests.{part_levels}

one_more : (n m : ℕ) → n ≡ 1 + m → 1 ≤ n
one_more n m is = omega arith

expr_level : (expr : Expr) → 1 ≤ expr_levels expr
expr_level expr = one_more (expr_levels expr) (form_levels expr.form) (fold-roll-Expr ℕ ℕ ℕ ℕ ℕ ℕ ℕ ℕ ℕ ℕ ℕ ℕ ℕ ℕ ℕ (in_form depth) (in_part depth) (in_init depth) (in_spec depth) (in_statement_form depth) (in_decl depth) (in_declared depth) (in_param depth) (in_type_name depth) (in_expr depth) (in_init_part depth) (in_enumerator depth) (in_field_decl depth) (in_field_name depth) (in_stmt depth) (record { number = expr.number; place = expr.place; form = expr.form }))

stmt_level : (stmt : Stmt) → 1 ≤ stmt_levels stmt
stmt_level stmt = one_more (stmt_levels stmt) (statement_form_levels stmt.form) (fold-roll-Stmt ℕ ℕ ℕ ℕ ℕ ℕ ℕ ℕ ℕ ℕ ℕ ℕ ℕ ℕ ℕ (in_form depth) (in_part depth) (in_init depth) (in_spec depth) (in_statement_form depth) (in_decl depth) (in_declared depth) (in_param depth) (in_type_name depth) (in_expr depth) (in_init_part depth) (in_enumerator depth) (in_field_decl depth) (in_field_name depth) (in_stmt depth) (record { place = stmt.place; after = stmt.after; form = stmt.form }))

rolled_level : (words : Words) → 1 ≤ spec_levels (roll-TypeSpec words)
rolled_level (layer.Basic basic) = one_more (spec_levels (roll-TypeSpec (layer.Basic basic))) 0 (fold-roll-TypeSpec ℕ ℕ ℕ ℕ ℕ ℕ ℕ ℕ ℕ ℕ ℕ ℕ ℕ ℕ ℕ (in_form depth) (in_part depth) (in_init depth) (in_spec depth) (in_statement_form depth) (in_decl depth) (in_declared depth) (in_param depth) (in_type_name depth) (in_expr depth) (in_init_part depth) (in_enumerator depth) (in_field_decl depth) (in_field_name depth) (in_stmt depth) (layer.Basic basic))
rolled_level (layer.Named name) = one_more (spec_levels (roll-TypeSpec (layer.Named name))) 0 (fold-roll-TypeSpec ℕ ℕ ℕ ℕ ℕ ℕ ℕ ℕ ℕ ℕ ℕ ℕ ℕ ℕ ℕ (in_form depth) (in_part depth) (in_init depth) (in_spec depth) (in_statement_form depth) (in_decl depth) (in_declared depth) (in_param depth) (in_type_name depth) (in_expr depth) (in_init_part depth) (in_enumerator depth) (in_field_decl depth) (in_field_name depth) (in_stmt depth) (layer.Named name))
rolled_level (layer.Struct name None) = one_more (spec_levels (roll-TypeSpec (layer.Struct name None))) 0 (fold-roll-TypeSpec ℕ ℕ ℕ ℕ ℕ ℕ ℕ ℕ ℕ ℕ ℕ ℕ ℕ ℕ ℕ (in_form depth) (in_part depth) (in_init depth) (in_spec depth) (in_statement_form depth) (in_decl depth) (in_declared depth) (in_param depth) (in_type_name depth) (in_expr depth) (in_init_part depth) (in_enumerator depth) (in_field_decl depth) (in_field_name depth) (in_stmt depth) (layer.Struct name None))
rolled_level (layer.Struct name (Some fields)) = one_more (spec_levels (roll-TypeSpec (layer.Struct name (Some fields)))) (joined depth (map field_decl_levels fields)) (fold-roll-TypeSpec ℕ ℕ ℕ ℕ ℕ ℕ ℕ ℕ ℕ ℕ ℕ ℕ ℕ ℕ ℕ (in_form depth) (in_part depth) (in_init depth) (in_spec depth) (in_statement_form depth) (in_decl depth) (in_declared depth) (in_param depth) (in_type_name depth) (in_expr depth) (in_init_part depth) (in_enumerator depth) (in_field_decl depth) (in_field_name depth) (in_stmt depth) (layer.Struct name (Some fields)))
rolled_level (layer.Enum name None) = one_more (spec_levels (roll-TypeSpec (layer.Enum name None))) 0 (fold-roll-TypeSpec ℕ ℕ ℕ ℕ ℕ ℕ ℕ ℕ ℕ ℕ ℕ ℕ ℕ ℕ ℕ (in_form depth) (in_part depth) (in_init depth) (in_spec depth) (in_statement_form depth) (in_decl depth) (in_declared depth) (in_param depth) (in_type_name depth) (in_expr depth) (in_init_part depth) (in_enumerator depth) (in_field_decl depth) (in_field_name depth) (in_stmt depth) (layer.Enum name None))
rolled_level (layer.Enum name (Some values)) = one_more (spec_levels (roll-TypeSpec (layer.Enum name (Some values)))) (joined depth (map enumerator_levels values)) (fold-roll-TypeSpec ℕ ℕ ℕ ℕ ℕ ℕ ℕ ℕ ℕ ℕ ℕ ℕ ℕ ℕ ℕ (in_form depth) (in_part depth) (in_init depth) (in_spec depth) (in_statement_form depth) (in_decl depth) (in_declared depth) (in_param depth) (in_type_name depth) (in_expr depth) (in_init_part depth) (in_enumerator depth) (in_field_decl depth) (in_field_name depth) (in_stmt depth) (layer.Enum name (Some values)))
rolled_level (layer.OfExpr expr) = one_more (spec_levels (roll-TypeSpec (layer.OfExpr expr))) (expr_levels expr) (fold-roll-TypeSpec ℕ ℕ ℕ ℕ ℕ ℕ ℕ ℕ ℕ ℕ ℕ ℕ ℕ ℕ ℕ (in_form depth) (in_part depth) (in_init depth) (in_spec depth) (in_statement_form depth) (in_decl depth) (in_declared depth) (in_param depth) (in_type_name depth) (in_expr depth) (in_init_part depth) (in_enumerator depth) (in_field_decl depth) (in_field_name depth) (in_stmt depth) (layer.OfExpr expr))
rolled_level (layer.OfType name) = one_more (spec_levels (roll-TypeSpec (layer.OfType name))) (type_name_levels name) (fold-roll-TypeSpec ℕ ℕ ℕ ℕ ℕ ℕ ℕ ℕ ℕ ℕ ℕ ℕ ℕ ℕ ℕ (in_form depth) (in_part depth) (in_init depth) (in_spec depth) (in_statement_form depth) (in_decl depth) (in_declared depth) (in_param depth) (in_type_name depth) (in_expr depth) (in_init_part depth) (in_enumerator depth) (in_field_decl depth) (in_field_name depth) (in_stmt depth) (layer.OfType name))

spec_level : (spec : TypeSpec) → 1 ≤ spec_levels spec
spec_level spec = subst (λ (one : TypeSpec). 1 ≤ spec_levels one) (roll-out-TypeSpec spec) (rolled_level (out-TypeSpec spec))

rolled_init_level : (init : Initialiser) → 1 ≤ init_levels (roll-Init init)
rolled_init_level (layer.Value value after) = one_more (init_levels (roll-Init (layer.Value value after))) (expr_levels value) (fold-roll-Init ℕ ℕ ℕ ℕ ℕ ℕ ℕ ℕ ℕ ℕ ℕ ℕ ℕ ℕ ℕ (in_form depth) (in_part depth) (in_init depth) (in_spec depth) (in_statement_form depth) (in_decl depth) (in_declared depth) (in_param depth) (in_type_name depth) (in_expr depth) (in_init_part depth) (in_enumerator depth) (in_field_decl depth) (in_field_name depth) (in_stmt depth) (layer.Value value after))
rolled_init_level (layer.Braces parts) = one_more (init_levels (roll-Init (layer.Braces parts))) (joined depth (map init_part_levels parts)) (fold-roll-Init ℕ ℕ ℕ ℕ ℕ ℕ ℕ ℕ ℕ ℕ ℕ ℕ ℕ ℕ ℕ (in_form depth) (in_part depth) (in_init depth) (in_spec depth) (in_statement_form depth) (in_decl depth) (in_declared depth) (in_param depth) (in_type_name depth) (in_expr depth) (in_init_part depth) (in_enumerator depth) (in_field_decl depth) (in_field_name depth) (in_stmt depth) (layer.Braces parts))

init_level : (init : Init) → 1 ≤ init_levels init
init_level init = subst (λ (one : Init). 1 ≤ init_levels one) (roll-out-Init init) (rolled_init_level (out-Init init))

pub one_level : (part : Part) (most : ℕ) → part_levels part ≤ most → 1 ≤ most
one_level (Expression expr) most deep = omega (arith, deep, expr_level expr.now)
one_level (NameOfType name) most deep = omega (arith, deep)
one_level (Statement stmt) most deep = omega (arith, deep, stmt_level stmt.now)
one_level (InitialiserPart subject slot init) most deep = omega (arith, deep, init_level init.now)
one_level (Members name fields) most deep = omega (arith, deep, spec_level (StructSpec name.now (Some fields.now)))
one_level (Enumerators name values) most deep = omega (arith, deep, spec_level (EnumSpec name.now (Some values.now)))
