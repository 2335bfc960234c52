-- Parts that lie in a form have no more levels than the form.
use Rattle.std.proofs.Common.{◌≡◌, ◌≤◌, ◌∙◌, ℕ, zero, suc, arith, ap, sym, subst, map, List, [], ◌∷◌, Bool, Option}
use Rattle.std.specs.Prelude.{All, max}
use Rattle.cbase.specs.declared.place.Place.{Place}
use Rattle.cbase.specs.declared.tree.decl.TypeName.{TypeName}
use Rattle.cbase.specs.declared.tree.expr.Expr.{Expr}
use Rattle.cbase.specs.declared.tree.expr.ExprForm.{ExprForm}
use Rattle.cbase.specs.declared.tree.expr.ExprForm.TheFolds.{fold-roll-ExprForm}
use Rattle.cbase.specs.declared.tree.expr.ExprForm.TheOpen as layer
use Rattle.cbase.specs.declared.tree.expr.ExprForm.TheVariants.{Unary, Binary, Assign, Count, Choose, Cast, SizeOf, SizeOfType, OffsetOf, Index, Member, Call, Inner, rolls-Unary, rolls-Binary, rolls-Assign, rolls-Count, rolls-Choose, rolls-Cast, rolls-SizeOf, rolls-SizeOfType, rolls-OffsetOf, rolls-Index, rolls-Member, rolls-Call, rolls-Inner}
use Rattle.cbase.specs.declared.tree.expr.Part.{Part}
use Rattle.cbase.specs.declared.tree.identifier.Identifier.{Identifier}
use Rattle.cbase.specs.declared.tree.operators.BinaryOp.{BinaryOp}
use Rattle.cbase.specs.declared.tree.operators.UnaryOp.{UnaryOp}
use Rattle.cbase.specs.declared.tree.stmt.Stmt.{Stmt}
use Rattle.ctrees.specs.Levels.{depth, expr_levels, form_levels, part_levels, stmt_levels, type_name_levels}
use Rattle.ctrees.specs.Weight.{joined, in_form, in_part, in_init, in_spec, in_statement_form, in_decl, in_declared, in_param, in_type_name, in_expr, in_init_part, in_field_decl, in_field_name, in_enumerator, in_stmt}

pub each_within : {A : Type 0} (levels : A → ℕ) (bound : ℕ) (items : List A) → joined depth (map levels items) ≤ bound → All (λ item. levels item ≤ bound) items
each_within levels bound [] within at default inside = absurd (omega arith)
each_within levels bound (item ∷ items) within zero default inside = omega arith
each_within levels bound (item ∷ items) within (suc at) default inside = each_within levels bound items (omega arith) at default (omega arith)

pub offset_levels : (to : TypeName) (path : List Part) → form_levels (OffsetOf to path) ≡ max (type_name_levels to) (joined depth (map part_levels path))
offset_levels to path = ap form_levels (sym (rolls-OffsetOf to path)) ∙ fold-roll-ExprForm ℕ ℕ ℕ ℕ ℕ ℕ ℕ ℕ ℕ ℕ ℕ ℕ ℕ ℕ ℕ (in_form depth) (in_part depth) (in_init depth) (in_spec depth) (in_statement_form depth) (in_decl depth) (in_declared depth) (in_param depth) (in_type_name depth) (in_expr depth) (in_init_part depth) (in_enumerator depth) (in_field_decl depth) (in_field_name depth) (in_stmt depth) (layer.OffsetOf to path)

pub call_levels : (callee : Expr) (args : List Expr) → form_levels (Call callee args) ≡ max (expr_levels callee) (joined depth (map expr_levels args))
call_levels callee args = ap form_levels (sym (rolls-Call callee args)) ∙ fold-roll-ExprForm ℕ ℕ ℕ ℕ ℕ ℕ ℕ ℕ ℕ ℕ ℕ ℕ ℕ ℕ ℕ (in_form depth) (in_part depth) (in_init depth) (in_spec depth) (in_statement_form depth) (in_decl depth) (in_declared depth) (in_param depth) (in_type_name depth) (in_expr depth) (in_init_part depth) (in_enumerator depth) (in_field_decl depth) (in_field_name depth) (in_stmt depth) (layer.Call callee args)

inner_levels : (body : List Stmt) (close : Place) → form_levels (Inner body close) ≡ joined depth (map stmt_levels body)
inner_levels body close = ap form_levels (sym (rolls-Inner body close)) ∙ fold-roll-ExprForm ℕ ℕ ℕ ℕ ℕ ℕ ℕ ℕ ℕ ℕ ℕ ℕ ℕ ℕ ℕ (in_form depth) (in_part depth) (in_init depth) (in_spec depth) (in_statement_form depth) (in_decl depth) (in_declared depth) (in_param depth) (in_type_name depth) (in_expr depth) (in_init_part depth) (in_enumerator depth) (in_field_decl depth) (in_field_name depth) (in_stmt depth) (layer.Inner body close)

-- forms without lists, of their parts
pub unary_levels : (op : UnaryOp) (arg : Expr) → form_levels (Unary op arg) ≡ expr_levels arg
unary_levels op arg = ap form_levels (sym (rolls-Unary op arg)) ∙ fold-roll-ExprForm ℕ ℕ ℕ ℕ ℕ ℕ ℕ ℕ ℕ ℕ ℕ ℕ ℕ ℕ ℕ (in_form depth) (in_part depth) (in_init depth) (in_spec depth) (in_statement_form depth) (in_decl depth) (in_declared depth) (in_param depth) (in_type_name depth) (in_expr depth) (in_init_part depth) (in_enumerator depth) (in_field_decl depth) (in_field_name depth) (in_stmt depth) (layer.Unary op arg)

pub binary_levels : (op : BinaryOp) (left right : Expr) → form_levels (Binary op left right) ≡ max (expr_levels left) (expr_levels right)
binary_levels op left right = ap form_levels (sym (rolls-Binary op left right)) ∙ fold-roll-ExprForm ℕ ℕ ℕ ℕ ℕ ℕ ℕ ℕ ℕ ℕ ℕ ℕ ℕ ℕ ℕ (in_form depth) (in_part depth) (in_init depth) (in_spec depth) (in_statement_form depth) (in_decl depth) (in_declared depth) (in_param depth) (in_type_name depth) (in_expr depth) (in_init_part depth) (in_enumerator depth) (in_field_decl depth) (in_field_name depth) (in_stmt depth) (layer.Binary op left right)

pub assign_levels : (op : Option BinaryOp) (left right : Expr) → form_levels (Assign op left right) ≡ max (expr_levels left) (expr_levels right)
assign_levels op left right = ap form_levels (sym (rolls-Assign op left right)) ∙ fold-roll-ExprForm ℕ ℕ ℕ ℕ ℕ ℕ ℕ ℕ ℕ ℕ ℕ ℕ ℕ ℕ ℕ (in_form depth) (in_part depth) (in_init depth) (in_spec depth) (in_statement_form depth) (in_decl depth) (in_declared depth) (in_param depth) (in_type_name depth) (in_expr depth) (in_init_part depth) (in_enumerator depth) (in_field_decl depth) (in_field_name depth) (in_stmt depth) (layer.Assign op left right)

pub count_levels : (up after : Bool) (arg : Expr) → form_levels (Count up after arg) ≡ expr_levels arg
count_levels up after arg = ap form_levels (sym (rolls-Count up after arg)) ∙ fold-roll-ExprForm ℕ ℕ ℕ ℕ ℕ ℕ ℕ ℕ ℕ ℕ ℕ ℕ ℕ ℕ ℕ (in_form depth) (in_part depth) (in_init depth) (in_spec depth) (in_statement_form depth) (in_decl depth) (in_declared depth) (in_param depth) (in_type_name depth) (in_expr depth) (in_init_part depth) (in_enumerator depth) (in_field_decl depth) (in_field_name depth) (in_stmt depth) (layer.Count up after arg)

pub choose_levels : (test one other : Expr) → form_levels (Choose test one other) ≡ max (expr_levels test) (max (expr_levels one) (expr_levels other))
choose_levels test one other = ap form_levels (sym (rolls-Choose test one other)) ∙ fold-roll-ExprForm ℕ ℕ ℕ ℕ ℕ ℕ ℕ ℕ ℕ ℕ ℕ ℕ ℕ ℕ ℕ (in_form depth) (in_part depth) (in_init depth) (in_spec depth) (in_statement_form depth) (in_decl depth) (in_declared depth) (in_param depth) (in_type_name depth) (in_expr depth) (in_init_part depth) (in_enumerator depth) (in_field_decl depth) (in_field_name depth) (in_stmt depth) (layer.Choose test one other)

pub cast_levels : (to : TypeName) (arg : Expr) → form_levels (Cast to arg) ≡ max (type_name_levels to) (expr_levels arg)
cast_levels to arg = ap form_levels (sym (rolls-Cast to arg)) ∙ fold-roll-ExprForm ℕ ℕ ℕ ℕ ℕ ℕ ℕ ℕ ℕ ℕ ℕ ℕ ℕ ℕ ℕ (in_form depth) (in_part depth) (in_init depth) (in_spec depth) (in_statement_form depth) (in_decl depth) (in_declared depth) (in_param depth) (in_type_name depth) (in_expr depth) (in_init_part depth) (in_enumerator depth) (in_field_decl depth) (in_field_name depth) (in_stmt depth) (layer.Cast to arg)

pub size_levels : (arg : Expr) → form_levels (SizeOf arg) ≡ expr_levels arg
size_levels arg = ap form_levels (sym (rolls-SizeOf arg)) ∙ fold-roll-ExprForm ℕ ℕ ℕ ℕ ℕ ℕ ℕ ℕ ℕ ℕ ℕ ℕ ℕ ℕ ℕ (in_form depth) (in_part depth) (in_init depth) (in_spec depth) (in_statement_form depth) (in_decl depth) (in_declared depth) (in_param depth) (in_type_name depth) (in_expr depth) (in_init_part depth) (in_enumerator depth) (in_field_decl depth) (in_field_name depth) (in_stmt depth) (layer.SizeOf arg)

pub type_size_levels : (to : TypeName) → form_levels (SizeOfType to) ≡ type_name_levels to
type_size_levels to = ap form_levels (sym (rolls-SizeOfType to)) ∙ fold-roll-ExprForm ℕ ℕ ℕ ℕ ℕ ℕ ℕ ℕ ℕ ℕ ℕ ℕ ℕ ℕ ℕ (in_form depth) (in_part depth) (in_init depth) (in_spec depth) (in_statement_form depth) (in_decl depth) (in_declared depth) (in_param depth) (in_type_name depth) (in_expr depth) (in_init_part depth) (in_enumerator depth) (in_field_decl depth) (in_field_name depth) (in_stmt depth) (layer.SizeOfType to)

pub index_levels : (base index : Expr) → form_levels (Index base index) ≡ max (expr_levels base) (expr_levels index)
index_levels base index = ap form_levels (sym (rolls-Index base index)) ∙ fold-roll-ExprForm ℕ ℕ ℕ ℕ ℕ ℕ ℕ ℕ ℕ ℕ ℕ ℕ ℕ ℕ ℕ (in_form depth) (in_part depth) (in_init depth) (in_spec depth) (in_statement_form depth) (in_decl depth) (in_declared depth) (in_param depth) (in_type_name depth) (in_expr depth) (in_init_part depth) (in_enumerator depth) (in_field_decl depth) (in_field_name depth) (in_stmt depth) (layer.Index base index)

pub member_levels : (base : Expr) (name : Identifier) (through : Bool) → form_levels (Member base name through) ≡ expr_levels base
member_levels base name through = ap form_levels (sym (rolls-Member base name through)) ∙ fold-roll-ExprForm ℕ ℕ ℕ ℕ ℕ ℕ ℕ ℕ ℕ ℕ ℕ ℕ ℕ ℕ ℕ (in_form depth) (in_part depth) (in_init depth) (in_spec depth) (in_statement_form depth) (in_decl depth) (in_declared depth) (in_param depth) (in_type_name depth) (in_expr depth) (in_init_part depth) (in_enumerator depth) (in_field_decl depth) (in_field_name depth) (in_stmt depth) (layer.ExprForm::Member base name through)

-- a part of a form that has no other, and the first and the second of two
pub one_within : (form known : ExprForm) (one part bound : ℕ) → form ≡ known → form_levels known ≡ one → part ≡ one → form_levels form ≤ bound → part ≤ bound
one_within form known one part bound is levels same deep = subst (λ (n : ℕ). n ≤ bound) (ap form_levels is ∙ (levels ∙ sym same)) deep

pub first_within : (form known : ExprForm) (one other part bound : ℕ) → form ≡ known → form_levels known ≡ max one other → part ≡ one → form_levels form ≤ bound → part ≤ bound
first_within form known one other part bound is levels same deep =
    let all : form_levels form ≡ max one other = ap form_levels is ∙ levels in
    omega arith

pub second_within : (form known : ExprForm) (one other part bound : ℕ) → form ≡ known → form_levels known ≡ max one other → part ≡ other → form_levels form ≤ bound → part ≤ bound
second_within form known one other part bound is levels same deep =
    let all : form_levels form ≡ max one other = ap form_levels is ∙ levels in
    omega arith

pub middle_within : (form known : ExprForm) (test one other part bound : ℕ) → form ≡ known → form_levels known ≡ max test (max one other) → part ≡ one → form_levels form ≤ bound
    → part ≤ bound
middle_within form known test one other part bound is levels same deep =
    let all : form_levels form ≡ max test (max one other) = ap form_levels is ∙ levels in
    omega arith

pub third_within : (form known : ExprForm) (test one other part bound : ℕ) → form ≡ known → form_levels known ≡ max test (max one other) → part ≡ other → form_levels form ≤ bound
    → part ≤ bound
third_within form known test one other part bound is levels same deep =
    let all : form_levels form ≡ max test (max one other) = ap form_levels is ∙ levels in
    omega arith

-- the steps of a way, the arguments of a call and the statements of a block, as code reads them
pub path_within : (form : ExprForm) (to : TypeName) (path items : List Part) (bound : ℕ) → form ≡ OffsetOf to path → items ≡ path → form_levels form ≤ bound → All (λ part. part_levels part ≤ bound) items
path_within form to path items bound is same deep =
    let levels : form_levels form ≡ max (type_name_levels to) (joined depth (map part_levels path)) = ap form_levels is ∙ offset_levels to path in
    let alike : joined depth (map part_levels items) ≡ joined depth (map part_levels path) = ap (λ (parts : List Part). joined depth (map part_levels parts)) same in
    each_within part_levels bound items (omega arith)

pub arguments_within : (form : ExprForm) (callee : Expr) (args items : List Expr) (bound : ℕ) → form ≡ Call callee args → items ≡ args → form_levels form ≤ bound → All (λ arg. expr_levels arg ≤ bound) items
arguments_within form callee args items bound is same deep =
    let levels : form_levels form ≡ max (expr_levels callee) (joined depth (map expr_levels args)) = ap form_levels is ∙ call_levels callee args in
    let alike : joined depth (map expr_levels items) ≡ joined depth (map expr_levels args) = ap (λ (exprs : List Expr). joined depth (map expr_levels exprs)) same in
    each_within expr_levels bound items (omega arith)

pub body_within : (form : ExprForm) (body items : List Stmt) (close : Place) (bound : ℕ) → form ≡ Inner body close → items ≡ body → form_levels form ≤ bound → All (λ stmt. stmt_levels stmt ≤ bound) items
body_within form body items close bound is same deep =
    let levels : form_levels form ≡ joined depth (map stmt_levels body) = ap form_levels is ∙ inner_levels body close in
    let alike : joined depth (map stmt_levels items) ≡ joined depth (map stmt_levels body) = ap (λ (stmts : List Stmt). joined depth (map stmt_levels stmts)) same in
    each_within stmt_levels bound items (omega arith)
