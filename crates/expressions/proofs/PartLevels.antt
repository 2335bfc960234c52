-- What lies in an expression, a statement, an index or a `typeof` has no more levels than it.
use Rattle.std.proofs.Common.{◌≡◌, ◌≤◌, ◌+◌, ◌∙◌, ℕ, arith, ap, sym, subst, Some}
use Rattle.cbase.specs.declared.tree.decl.TypeName.{TypeName}
use Rattle.cbase.specs.declared.tree.expr.Expr.{Expr}
use Rattle.cbase.specs.declared.tree.expr.ExprForm.TheFolds.{fold_out-Expr, fold_out-Stmt, fold-roll-Part, fold-roll-StmtForm, fold-roll-TypeSpec}
use Rattle.cbase.specs.declared.tree.expr.ExprForm.TheOpen as layer
use Rattle.cbase.specs.declared.tree.expr.Part.{Part}
use Rattle.cbase.specs.declared.tree.expr.Part.TheVariants.{At, rolls-At}
use Rattle.cbase.specs.declared.tree.spec.TypeSpec.{TypeSpec}
use Rattle.cbase.specs.declared.tree.spec.TypeSpec.TheVariants.{OfExpr, OfType, rolls-OfExpr, rolls-OfType}
use Rattle.cbase.specs.declared.tree.stmt.Stmt.{Stmt}
use Rattle.cbase.specs.declared.tree.stmt.StmtForm.TheVariants.{Eval, rolls-Eval}
use Rattle.ctrees.specs.Levels.{depth, form_levels, part_levels, expr_levels, stmt_levels, statement_form_levels, spec_levels, type_name_levels}
use Rattle.ctrees.specs.Weight.{in_form, in_part, in_init, in_spec, in_statement_form, in_decl, in_declared, in_param, in_type_name, in_expr, in_init_part, in_field_decl, in_field_name, in_enumerator, in_stmt}

expression_levels : (expr : Expr) → expr_levels expr ≡ 1 + form_levels expr.form
expression_levels expr = fold_out-Expr ℕ ℕ ℕ ℕ ℕ ℕ ℕ ℕ ℕ ℕ ℕ ℕ ℕ ℕ ℕ (in_form depth) (in_part depth) (in_init depth) (in_spec depth) (in_statement_form depth) (in_decl depth) (in_declared depth) (in_param depth) (in_type_name depth) (in_expr depth) (in_init_part depth) (in_enumerator depth) (in_field_decl depth) (in_field_name depth) (in_stmt depth) expr

statement_levels : (stmt : Stmt) → stmt_levels stmt ≡ 1 + statement_form_levels stmt.form
statement_levels stmt = fold_out-Stmt ℕ ℕ ℕ ℕ ℕ ℕ ℕ ℕ ℕ ℕ ℕ ℕ ℕ ℕ ℕ (in_form depth) (in_part depth) (in_init depth) (in_spec depth) (in_statement_form depth) (in_decl depth) (in_declared depth) (in_param depth) (in_type_name depth) (in_expr depth) (in_init_part depth) (in_enumerator depth) (in_field_decl depth) (in_field_name depth) (in_stmt depth) stmt

eval_levels : (expr : Expr) → statement_form_levels (Eval (Some expr)) ≡ expr_levels expr
eval_levels expr = ap statement_form_levels (sym (rolls-Eval (Some expr))) ∙ fold-roll-StmtForm ℕ ℕ ℕ ℕ ℕ ℕ ℕ ℕ ℕ ℕ ℕ ℕ ℕ ℕ ℕ (in_form depth) (in_part depth) (in_init depth) (in_spec depth) (in_statement_form depth) (in_decl depth) (in_declared depth) (in_param depth) (in_type_name depth) (in_expr depth) (in_init_part depth) (in_enumerator depth) (in_field_decl depth) (in_field_name depth) (in_stmt depth) (layer.Eval (Some expr))

at_levels : (expr : Expr) → part_levels (At expr) ≡ expr_levels expr
at_levels expr = ap part_levels (sym (rolls-At expr)) ∙ fold-roll-Part ℕ ℕ ℕ ℕ ℕ ℕ ℕ ℕ ℕ ℕ ℕ ℕ ℕ ℕ ℕ (in_form depth) (in_part depth) (in_init depth) (in_spec depth) (in_statement_form depth) (in_decl depth) (in_declared depth) (in_param depth) (in_type_name depth) (in_expr depth) (in_init_part depth) (in_enumerator depth) (in_field_decl depth) (in_field_name depth) (in_stmt depth) (layer.At expr)

of_expr_levels : (expr : Expr) → spec_levels (OfExpr expr) ≡ 1 + expr_levels expr
of_expr_levels expr = ap spec_levels (sym (rolls-OfExpr expr)) ∙ fold-roll-TypeSpec ℕ ℕ ℕ ℕ ℕ ℕ ℕ ℕ ℕ ℕ ℕ ℕ ℕ ℕ ℕ (in_form depth) (in_part depth) (in_init depth) (in_spec depth) (in_statement_form depth) (in_decl depth) (in_declared depth) (in_param depth) (in_type_name depth) (in_expr depth) (in_init_part depth) (in_enumerator depth) (in_field_decl depth) (in_field_name depth) (in_stmt depth) (layer.OfExpr expr)

of_type_levels : (to : TypeName) → spec_levels (OfType to) ≡ 1 + type_name_levels to
of_type_levels to = ap spec_levels (sym (rolls-OfType to)) ∙ fold-roll-TypeSpec ℕ ℕ ℕ ℕ ℕ ℕ ℕ ℕ ℕ ℕ ℕ ℕ ℕ ℕ ℕ (in_form depth) (in_part depth) (in_init depth) (in_spec depth) (in_statement_form depth) (in_decl depth) (in_declared depth) (in_param depth) (in_type_name depth) (in_expr depth) (in_init_part depth) (in_enumerator depth) (in_field_decl depth) (in_field_name depth) (in_stmt depth) (layer.OfType to)

-- what has no more than what is within a bound is so too
pub no_deeper : (one other bound : ℕ) → one ≤ other → other ≤ bound → one ≤ bound
no_deeper one other bound less deep = omega arith

-- the form of an expression, and the expression that is a statement
pub form_within : (expr : Expr) (bound : ℕ) → expr_levels expr ≤ bound + 1 → form_levels expr.form ≤ bound
form_within expr bound deep = omega (arith, expression_levels expr)

pub value_levels : (stmt : Stmt) (expr : Expr) → stmt.form ≡ Eval (Some expr) → expr_levels expr ≤ stmt_levels stmt
value_levels stmt expr is =
    let levels : stmt_levels stmt ≡ 1 + statement_form_levels stmt.form = statement_levels stmt in
    let form : statement_form_levels stmt.form ≡ expr_levels expr = ap statement_form_levels is ∙ eval_levels expr in
    omega arith

-- an index on the way to a member
pub index_within : (part : Part) (expr : Expr) (bound : ℕ) → part ≡ At expr → part_levels part ≤ bound → expr_levels expr ≤ bound
index_within part expr bound is deep = subst (λ (levels : ℕ). levels ≤ bound) (ap part_levels is ∙ at_levels expr) deep

-- the expression and the type name of a `typeof`, as code reads them
pub typeof_within : (spec : TypeSpec) (expr named : Expr) (bound : ℕ) → spec ≡ OfExpr expr → named ≡ expr → spec_levels spec ≤ bound → expr_levels named ≤ bound
typeof_within spec expr named bound is same deep =
    let levels : spec_levels spec ≡ 1 + expr_levels expr = ap spec_levels is ∙ of_expr_levels expr in
    let alike : expr_levels named ≡ expr_levels expr = ap expr_levels same in
    omega arith

pub typeof_type_within : (spec : TypeSpec) (to named : TypeName) (bound : ℕ) → spec ≡ OfType to → named ≡ to → spec_levels spec ≤ bound → type_name_levels named + 1 ≤ bound
typeof_type_within spec to named bound is same deep =
    let levels : spec_levels spec ≡ 1 + type_name_levels to = ap spec_levels is ∙ of_type_levels to in
    let alike : type_name_levels named ≡ type_name_levels to = ap type_name_levels same in
    omega arith
