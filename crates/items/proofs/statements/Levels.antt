-- The parts of a statement have no more levels than its form, and its form has one level less than it.
use Rattle.std.proofs.Common.{◌≡◌, ◌≤◌, ◌+◌, ◌∙◌, ℕ, arith, ap, sym, refl, subst, map, List, Option, None, Some}
use Rattle.std.specs.Prelude.{All, IfSome, max, option_map}
use Rattle.cbase.specs.declared.place.Place.{Place}
use Rattle.cbase.specs.declared.tree.decl.Decl.{Decl}
use Rattle.cbase.specs.declared.tree.expr.Expr.{Expr}
use Rattle.cbase.specs.declared.tree.expr.ExprForm.TheFolds.{fold_out-Stmt, fold-roll-StmtForm}
use Rattle.cbase.specs.declared.tree.expr.ExprForm.TheOpen as layer
use Rattle.cbase.specs.declared.tree.expr.ExprForm.TheShapes.{former-StmtForm-Eval-0, former-StmtForm-If-3}
use Rattle.cbase.specs.declared.tree.stmt.Stmt.{Stmt}
use Rattle.cbase.specs.declared.tree.stmt.StmtForm.{StmtForm}
use Rattle.cbase.specs.declared.tree.stmt.StmtForm.TheVariants.{Declare, Eval, Block, If, While, Do, For, Return, rolls-Declare, rolls-Eval, rolls-Block, rolls-If, rolls-While, rolls-Do, rolls-For, rolls-Return}
use Rattle.ctrees.specs.Levels.{depth, expr_levels, decl_levels, stmt_levels, statement_form_levels, maybe_levels}
use Rattle.ctrees.specs.Weight.{joined, or_nothing, in_form, in_part, in_init, in_spec, in_statement_form, in_decl, in_declared, in_param, in_type_name, in_expr, in_init_part, in_field_decl, in_field_name, in_enumerator, in_stmt}
use Rattle.ctrees.proofs.Sizes.{option_cases, both}
use Rattle.expressions.proofs.Levels.{each_within}

levels_stmt : (stmt : Stmt) → stmt_levels stmt ≡ 1 + statement_form_levels stmt.form
levels_stmt stmt = fold_out-Stmt ℕ ℕ ℕ ℕ ℕ ℕ ℕ ℕ ℕ ℕ ℕ ℕ ℕ ℕ ℕ (in_form depth) (in_part depth) (in_init depth) (in_spec depth) (in_statement_form depth) (in_decl depth) (in_declared depth) (in_param depth) (in_type_name depth) (in_expr depth) (in_init_part depth) (in_enumerator depth) (in_field_decl depth) (in_field_name depth) (in_stmt depth) stmt

pub form_within : (stmt : Stmt) (bound : ℕ) → stmt_levels stmt ≤ bound + 1 → statement_form_levels stmt.form ≤ bound
form_within stmt bound deep = omega (arith, levels_stmt stmt)

-- the levels of each form, of its parts
declare_levels : (decl : Decl) → statement_form_levels (Declare decl) ≡ decl_levels decl
declare_levels decl = ap statement_form_levels (sym (rolls-Declare decl)) ∙ fold-roll-StmtForm ℕ ℕ ℕ ℕ ℕ ℕ ℕ ℕ ℕ ℕ ℕ ℕ ℕ ℕ ℕ (in_form depth) (in_part depth) (in_init depth) (in_spec depth) (in_statement_form depth) (in_decl depth) (in_declared depth) (in_param depth) (in_type_name depth) (in_expr depth) (in_init_part depth) (in_enumerator depth) (in_field_decl depth) (in_field_name depth) (in_stmt depth) (layer.Declare decl)

eval_levels : (expr : Option Expr) → statement_form_levels (Eval expr) ≡ maybe_levels expr
eval_levels expr = ap statement_form_levels (sym (rolls-Eval expr)) ∙ (fold-roll-StmtForm ℕ ℕ ℕ ℕ ℕ ℕ ℕ ℕ ℕ ℕ ℕ ℕ ℕ ℕ ℕ (in_form depth) (in_part depth) (in_init depth) (in_spec depth) (in_statement_form depth) (in_decl depth) (in_declared depth) (in_param depth) (in_type_name depth) (in_expr depth) (in_init_part depth) (in_enumerator depth) (in_field_decl depth) (in_field_name depth) (in_stmt depth) (layer.Eval expr) ∙ option_cases or_nothing (former-StmtForm-Eval-0.map Expr ℕ expr_levels) maybe_levels refl (λ e. refl) expr)

block_levels : (body : List Stmt) → statement_form_levels (Block body) ≡ joined depth (map stmt_levels body)
block_levels body = ap statement_form_levels (sym (rolls-Block body)) ∙ fold-roll-StmtForm ℕ ℕ ℕ ℕ ℕ ℕ ℕ ℕ ℕ ℕ ℕ ℕ ℕ ℕ ℕ (in_form depth) (in_part depth) (in_init depth) (in_spec depth) (in_statement_form depth) (in_decl depth) (in_declared depth) (in_param depth) (in_type_name depth) (in_expr depth) (in_init_part depth) (in_enumerator depth) (in_field_decl depth) (in_field_name depth) (in_stmt depth) (layer.Block body)

abbrev other_levels : Option Stmt → ℕ
other_levels other = or_nothing (option_map stmt_levels other)

if_levels : (test : Expr) (close : Place) (first : Stmt) (other : Option Stmt) → statement_form_levels (If test close first other) ≡ max (expr_levels test) (max (stmt_levels first) (other_levels other))
if_levels test close first other = ap statement_form_levels (sym (rolls-If test close first other)) ∙ (fold-roll-StmtForm ℕ ℕ ℕ ℕ ℕ ℕ ℕ ℕ ℕ ℕ ℕ ℕ ℕ ℕ ℕ (in_form depth) (in_part depth) (in_init depth) (in_spec depth) (in_statement_form depth) (in_decl depth) (in_declared depth) (in_param depth) (in_type_name depth) (in_expr depth) (in_init_part depth) (in_enumerator depth) (in_field_decl depth) (in_field_name depth) (in_stmt depth) (layer.If test close first other)
    ∙ ap (λ (count : ℕ). max (expr_levels test) (max (stmt_levels first) count)) (option_cases or_nothing (former-StmtForm-If-3.map Stmt ℕ stmt_levels) other_levels refl (λ s. refl) other))

while_levels : (test : Expr) (close : Place) (body : Stmt) → statement_form_levels (While test close body) ≡ max (expr_levels test) (stmt_levels body)
while_levels test close body = ap statement_form_levels (sym (rolls-While test close body)) ∙ fold-roll-StmtForm ℕ ℕ ℕ ℕ ℕ ℕ ℕ ℕ ℕ ℕ ℕ ℕ ℕ ℕ ℕ (in_form depth) (in_part depth) (in_init depth) (in_spec depth) (in_statement_form depth) (in_decl depth) (in_declared depth) (in_param depth) (in_type_name depth) (in_expr depth) (in_init_part depth) (in_enumerator depth) (in_field_decl depth) (in_field_name depth) (in_stmt depth) (layer.While test close body)

do_levels : (body : Stmt) (test : Expr) (close : Place) → statement_form_levels (Do body test close) ≡ max (stmt_levels body) (expr_levels test)
do_levels body test close = ap statement_form_levels (sym (rolls-Do body test close)) ∙ fold-roll-StmtForm ℕ ℕ ℕ ℕ ℕ ℕ ℕ ℕ ℕ ℕ ℕ ℕ ℕ ℕ ℕ (in_form depth) (in_part depth) (in_init depth) (in_spec depth) (in_statement_form depth) (in_decl depth) (in_declared depth) (in_param depth) (in_type_name depth) (in_expr depth) (in_init_part depth) (in_enumerator depth) (in_field_decl depth) (in_field_name depth) (in_stmt depth) (layer.Do body test close)

for_levels : (first : Stmt) (test : Option Expr) (semicolon : Place) (next : Option Expr) (close : Place) (body : Stmt)
    → statement_form_levels (For first test semicolon next close body) ≡ max (max (stmt_levels first) (maybe_levels test)) (max (maybe_levels next) (stmt_levels body))
for_levels first test semicolon next close body = ap statement_form_levels (sym (rolls-For first test semicolon next close body)) ∙ (fold-roll-StmtForm ℕ ℕ ℕ ℕ ℕ ℕ ℕ ℕ ℕ ℕ ℕ ℕ ℕ ℕ ℕ (in_form depth) (in_part depth) (in_init depth) (in_spec depth) (in_statement_form depth) (in_decl depth) (in_declared depth) (in_param depth) (in_type_name depth) (in_expr depth) (in_init_part depth) (in_enumerator depth) (in_field_decl depth) (in_field_name depth) (in_stmt depth) (layer.For first test semicolon next close body)
    ∙ both (λ (m n : ℕ). max (max (stmt_levels first) m) (max n (stmt_levels body))) _ _ _ _ (option_cases or_nothing (former-StmtForm-Eval-0.map Expr ℕ expr_levels) maybe_levels refl (λ e. refl) test) (option_cases or_nothing (former-StmtForm-Eval-0.map Expr ℕ expr_levels) maybe_levels refl (λ e. refl) next))

return_levels : (expr : Option Expr) → statement_form_levels (Return expr) ≡ maybe_levels expr
return_levels expr = ap statement_form_levels (sym (rolls-Return expr)) ∙ (fold-roll-StmtForm ℕ ℕ ℕ ℕ ℕ ℕ ℕ ℕ ℕ ℕ ℕ ℕ ℕ ℕ ℕ (in_form depth) (in_part depth) (in_init depth) (in_spec depth) (in_statement_form depth) (in_decl depth) (in_declared depth) (in_param depth) (in_type_name depth) (in_expr depth) (in_init_part depth) (in_enumerator depth) (in_field_decl depth) (in_field_name depth) (in_stmt depth) (layer.Return expr) ∙ option_cases or_nothing (former-StmtForm-Eval-0.map Expr ℕ expr_levels) maybe_levels refl (λ e. refl) expr)

-- the parts, as code reads them
pub declaration_within : (form : StmtForm) (decl : Decl) (bound : ℕ) → form ≡ Declare decl → statement_form_levels form ≤ bound → decl_levels decl ≤ bound
declaration_within form decl bound is deep = subst (λ (count : ℕ). count ≤ bound) (ap statement_form_levels is ∙ declare_levels decl) deep

pub eval_within : (form : StmtForm) (expr : Option Expr) (bound : ℕ) → form ≡ Eval expr → statement_form_levels form ≤ bound → maybe_levels expr ≤ bound
eval_within form expr bound is deep = subst (λ (count : ℕ). count ≤ bound) (ap statement_form_levels is ∙ eval_levels expr) deep

pub return_within : (form : StmtForm) (expr : Option Expr) (bound : ℕ) → form ≡ Return expr → statement_form_levels form ≤ bound → maybe_levels expr ≤ bound
return_within form expr bound is deep = subst (λ (count : ℕ). count ≤ bound) (ap statement_form_levels is ∙ return_levels expr) deep

pub body_within : (form : StmtForm) (body items : List Stmt) (bound : ℕ) → form ≡ Block body → items ≡ body → statement_form_levels form ≤ bound → All (λ stmt. stmt_levels stmt ≤ bound) items
body_within form body items bound is same deep =
    let levels : statement_form_levels form ≡ joined depth (map stmt_levels body) = ap statement_form_levels is ∙ block_levels body in
    let alike : joined depth (map stmt_levels items) ≡ joined depth (map stmt_levels body) = ap (λ (stmts : List Stmt). joined depth (map stmt_levels stmts)) same in
    each_within stmt_levels bound items (omega arith)

module _ (form : StmtForm) (bound : ℕ) (deep : statement_form_levels form ≤ bound) where
  module _ (test : Expr) (close : Place) (first : Stmt) (other : Option Stmt) (is : form ≡ If test close first other) where
    levels_of_if : statement_form_levels form ≡ max (expr_levels test) (max (stmt_levels first) (other_levels other))
    levels_of_if = ap statement_form_levels is ∙ if_levels test close first other

    pub if_test_within : expr_levels test ≤ bound
    if_test_within = omega (arith, levels_of_if, deep)

    pub if_yes_within : (stmt : Stmt) → stmt ≡ first → stmt_levels stmt ≤ bound
    if_yes_within stmt same = let alike : stmt_levels stmt ≡ stmt_levels first = ap stmt_levels same in omega (arith, levels_of_if, deep)

    if_no_within : (other : Option Stmt) → other_levels other ≤ bound → IfSome other (λ stmt. stmt_levels stmt ≤ bound)
    if_no_within None within = tt
    if_no_within (Some stmt) within = within

    pub if_other_within : IfSome other (λ stmt. stmt_levels stmt ≤ bound)
    if_other_within = if_no_within other (omega (arith, levels_of_if, deep))

  module _ (test : Expr) (body : Stmt) (levels : statement_form_levels form ≡ max (expr_levels test) (stmt_levels body)) where
    pub test_within : expr_levels test ≤ bound
    test_within = omega (arith, levels, deep)

    pub loop_within : (stmt : Stmt) → stmt ≡ body → stmt_levels stmt ≤ bound
    loop_within stmt same = let alike : stmt_levels stmt ≡ stmt_levels body = ap stmt_levels same in omega (arith, levels, deep)

  pub levels_of_while : (test : Expr) (close : Place) (body : Stmt) → form ≡ While test close body → statement_form_levels form ≡ max (expr_levels test) (stmt_levels body)
  levels_of_while test close body is = ap statement_form_levels is ∙ while_levels test close body

  pub levels_of_do : (body : Stmt) (test : Expr) (close : Place) → form ≡ Do body test close → statement_form_levels form ≡ max (expr_levels test) (stmt_levels body)
  levels_of_do body test close is = ap statement_form_levels is ∙ (do_levels body test close ∙ omega arith)

  module _ (first : Stmt) (test : Option Expr) (semicolon : Place) (next : Option Expr) (close : Place) (body : Stmt) (is : form ≡ For first test semicolon next close body) where
    levels_of_for : statement_form_levels form ≡ max (max (stmt_levels first) (maybe_levels test)) (max (maybe_levels next) (stmt_levels body))
    levels_of_for = ap statement_form_levels is ∙ for_levels first test semicolon next close body

    pub for_first_within : (stmt : Stmt) → stmt ≡ first → stmt_levels stmt ≤ bound
    for_first_within stmt same = let alike : stmt_levels stmt ≡ stmt_levels first = ap stmt_levels same in omega (arith, levels_of_for, deep)

    pub for_test_within : maybe_levels test ≤ bound
    for_test_within = omega (arith, levels_of_for, deep)

    pub for_next_within : maybe_levels next ≤ bound
    for_next_within = omega (arith, levels_of_for, deep)

    pub for_body_within : (stmt : Stmt) → stmt ≡ body → stmt_levels stmt ≤ bound
    for_body_within stmt same = let alike : stmt_levels stmt ≡ stmt_levels body = ap stmt_levels same in omega (arith, levels_of_for, deep)
