-- How deep each tree of the grammar is, from the depths of its parts.
use Rattle.std.proofs.Common.{◌≡◌, ℕ, Bool, ◌+◌, ◌≤◌, ◌∙◌, arith, refl, ap, sym, map, List, [], ◌∷◌, Option, Some, None}
use Rattle.std.specs.Prelude.{max}
use Rattle.cbase.specs.declared.place.Place.{Place}
use Rattle.cbase.specs.declared.tree.decl.Decl.{Decl}
use Rattle.cbase.specs.declared.tree.decl.Declared.{Declared}
use Rattle.cbase.specs.declared.tree.decl.Param.{Param}
use Rattle.cbase.specs.declared.tree.decl.Storage.{Storage}
use Rattle.cbase.specs.declared.tree.decl.TypeName.{TypeName}
use Rattle.cbase.specs.declared.tree.expr.Expr.{Expr}
use Rattle.cbase.specs.declared.tree.expr.Part.{Part}
use Rattle.cbase.specs.declared.tree.identifier.Identifier.{Identifier}
use Rattle.cbase.specs.declared.tree.init.Init.{Init}
use Rattle.cbase.specs.declared.tree.init.InitPart.{InitPart}
use Rattle.cbase.specs.declared.tree.operators.BinaryOp.{BinaryOp}
use Rattle.cbase.specs.declared.tree.operators.UnaryOp.{UnaryOp}
use Rattle.cbase.specs.declared.tree.spec.BasicType.{BasicType}
use Rattle.cbase.specs.declared.tree.spec.Enumerator.{Enumerator}
use Rattle.cbase.specs.declared.tree.spec.FieldDecl.{FieldDecl}
use Rattle.cbase.specs.declared.tree.spec.FieldName.{FieldName}
use Rattle.cbase.specs.declared.tree.spec.TypeSpec.{TypeSpec}
use Rattle.cbase.specs.declared.tree.stmt.Stmt.{Stmt}
use Rattle.cbase.specs.declared.tree.expr.ExprForm.TheVariants.{Name, Constant, Unary, Binary, Assign, Count, Choose, Cast, SizeOf, SizeOfType, OffsetOf, Index, Member, Call, Inner, AssertFail, rolls-Name, rolls-Constant, rolls-Unary, rolls-Binary, rolls-Assign, rolls-Count, rolls-Choose, rolls-Cast, rolls-SizeOf, rolls-SizeOfType, rolls-OffsetOf, rolls-Index, rolls-Member, rolls-Call, rolls-Inner, rolls-AssertFail}
use Rattle.cbase.specs.declared.tree.expr.Part.TheVariants.{Member as NamedPart, At, rolls-Member as rolls-Part, rolls-At}
use Rattle.cbase.specs.declared.tree.init.Init.TheVariants.{Value, Braces, rolls-Value, rolls-Braces}
use Rattle.cbase.specs.declared.tree.spec.TypeSpec.TheVariants.{Basic, Named, Struct, Enum, OfExpr, OfType, rolls-Basic, rolls-Named, rolls-Struct, rolls-Enum, rolls-OfExpr, rolls-OfType}
use Rattle.cbase.specs.declared.tree.stmt.StmtForm.TheVariants.{Declare, Eval, Block, If, While, Do, For, Break, Continue, Return, rolls-Declare, rolls-Eval, rolls-Block, rolls-If, rolls-While, rolls-Do, rolls-For, rolls-Break, rolls-Continue, rolls-Return}
use Rattle.cbase.specs.declared.tree.expr.ExprForm.TheFolds.{fold_out-Expr, fold_out-InitPart, fold_out-Stmt, fold-roll-Decl, fold-roll-Declared, fold-roll-Enumerator, fold-roll-ExprForm, fold-roll-FieldDecl, fold-roll-FieldName, fold-roll-Init, fold-roll-Param, fold-roll-Part, fold-roll-StmtForm, fold-roll-TypeName, fold-roll-TypeSpec}
use Rattle.cbase.specs.declared.tree.expr.ExprForm.TheShapes.{former-StmtForm-Eval-0}
use Rattle.cbase.specs.declared.tree.expr.ExprForm.TheOpen as Open
use Rattle.ctrees.specs.Levels.{depth, form_levels, part_levels, init_levels, spec_levels, statement_form_levels, decl_levels, declared_levels, param_levels, type_name_levels, expr_levels, init_part_levels, field_decl_levels, field_name_levels, enumerator_levels, stmt_levels, maybe_levels}
use Rattle.ctrees.specs.Weight.{joined, or_nothing, in_form, in_part, in_init, in_spec, in_statement_form, in_decl, in_declared, in_param, in_type_name, in_expr, in_init_part, in_enumerator, in_field_decl, in_field_name, in_stmt}
use Rattle.ctrees.proofs.Sizes.{map_options, option_cases, both}
use Rattle.cgrammar.specs.Terminals.{Terminal}
use Rattle.cgrammar.specs.Trees.{object, function, field, fields, enumerator, parameter, type_name, declaration, initializer, statement}

-- a largest number, where one of two is nothing
max_nothing : (n : ℕ) → max n 0 ≡ n
max_nothing n = omega arith

nothing_max : (n : ℕ) → max 0 n ≡ n
nothing_max n = omega arith

-- what is joined
pub joined_one : (n : ℕ) → joined depth (n ∷ []) ≡ n
joined_one n = max_nothing n

pub joined_others : (n : ℕ) (ns : List ℕ) → joined depth ns ≤ joined depth (n ∷ ns)
joined_others n ns = omega arith

-- an expression and a statement, from what they are
pub levels_expr : (expr : Expr) → expr_levels expr ≡ 1 + form_levels expr.form
levels_expr expr = fold_out-Expr ℕ ℕ ℕ ℕ ℕ ℕ ℕ ℕ ℕ ℕ ℕ ℕ ℕ ℕ ℕ (in_form depth) (in_part depth) (in_init depth) (in_spec depth) (in_statement_form depth) (in_decl depth) (in_declared depth) (in_param depth) (in_type_name depth) (in_expr depth) (in_init_part depth) (in_enumerator depth) (in_field_decl depth) (in_field_name depth) (in_stmt depth) expr

pub levels_stmt : (stmt : Stmt) → stmt_levels stmt ≡ 1 + statement_form_levels stmt.form
levels_stmt stmt = fold_out-Stmt ℕ ℕ ℕ ℕ ℕ ℕ ℕ ℕ ℕ ℕ ℕ ℕ ℕ ℕ ℕ (in_form depth) (in_part depth) (in_init depth) (in_spec depth) (in_statement_form depth) (in_decl depth) (in_declared depth) (in_param depth) (in_type_name depth) (in_expr depth) (in_init_part depth) (in_enumerator depth) (in_field_decl depth) (in_field_name depth) (in_stmt depth) stmt

-- expressions
form_name : (name : List ℕ) → form_levels (Name name) ≡ 0
form_name name = ap form_levels (sym (rolls-Name name)) ∙ fold-roll-ExprForm ℕ ℕ ℕ ℕ ℕ ℕ ℕ ℕ ℕ ℕ ℕ ℕ ℕ ℕ ℕ (in_form depth) (in_part depth) (in_init depth) (in_spec depth) (in_statement_form depth) (in_decl depth) (in_declared depth) (in_param depth) (in_type_name depth) (in_expr depth) (in_init_part depth) (in_enumerator depth) (in_field_decl depth) (in_field_name depth) (in_stmt depth) (Open.Name name)

pub levels_name : (number : ℕ) (place : Place) (name : List ℕ) → expr_levels (record { number = number; place = place; form = Name name }) ≡ 1
levels_name number place name = levels_expr (record { number = number; place = place; form = Name name }) ∙ ap (λ (n : ℕ). 1 + n) (form_name name)

form_constant : (spelling : List ℕ) → form_levels (Constant spelling) ≡ 0
form_constant spelling = ap form_levels (sym (rolls-Constant spelling)) ∙ fold-roll-ExprForm ℕ ℕ ℕ ℕ ℕ ℕ ℕ ℕ ℕ ℕ ℕ ℕ ℕ ℕ ℕ (in_form depth) (in_part depth) (in_init depth) (in_spec depth) (in_statement_form depth) (in_decl depth) (in_declared depth) (in_param depth) (in_type_name depth) (in_expr depth) (in_init_part depth) (in_enumerator depth) (in_field_decl depth) (in_field_name depth) (in_stmt depth) (Open.Constant spelling)

pub levels_constant : (number : ℕ) (place : Place) (spelling : List ℕ) → expr_levels (record { number = number; place = place; form = Constant spelling }) ≡ 1
levels_constant number place spelling = levels_expr (record { number = number; place = place; form = Constant spelling }) ∙ ap (λ (n : ℕ). 1 + n) (form_constant spelling)

form_assert_fail : form_levels AssertFail ≡ 0
form_assert_fail = ap form_levels (sym rolls-AssertFail) ∙ fold-roll-ExprForm ℕ ℕ ℕ ℕ ℕ ℕ ℕ ℕ ℕ ℕ ℕ ℕ ℕ ℕ ℕ (in_form depth) (in_part depth) (in_init depth) (in_spec depth) (in_statement_form depth) (in_decl depth) (in_declared depth) (in_param depth) (in_type_name depth) (in_expr depth) (in_init_part depth) (in_enumerator depth) (in_field_decl depth) (in_field_name depth) (in_stmt depth) Open.AssertFail

pub levels_assert_fail : (number : ℕ) (place : Place) → expr_levels (record { number = number; place = place; form = AssertFail }) ≡ 1
levels_assert_fail number place = levels_expr (record { number = number; place = place; form = AssertFail }) ∙ ap (λ (n : ℕ). 1 + n) form_assert_fail

form_unary : (op : UnaryOp) (arg : Expr) → form_levels (Unary op arg) ≡ expr_levels arg
form_unary op arg = ap form_levels (sym (rolls-Unary op arg)) ∙ fold-roll-ExprForm ℕ ℕ ℕ ℕ ℕ ℕ ℕ ℕ ℕ ℕ ℕ ℕ ℕ ℕ ℕ (in_form depth) (in_part depth) (in_init depth) (in_spec depth) (in_statement_form depth) (in_decl depth) (in_declared depth) (in_param depth) (in_type_name depth) (in_expr depth) (in_init_part depth) (in_enumerator depth) (in_field_decl depth) (in_field_name depth) (in_stmt depth) (Open.Unary op arg)

pub levels_unary : (number : ℕ) (place : Place) (op : UnaryOp) (arg : Expr) → expr_levels (record { number = number; place = place; form = Unary op arg }) ≡ 1 + expr_levels arg
levels_unary number place op arg = levels_expr (record { number = number; place = place; form = Unary op arg }) ∙ ap (λ (n : ℕ). 1 + n) (form_unary op arg)

form_binary : (op : BinaryOp) (left : Expr) (right : Expr) → form_levels (Binary op left right) ≡ max (expr_levels left) (expr_levels right)
form_binary op left right = ap form_levels (sym (rolls-Binary op left right)) ∙ fold-roll-ExprForm ℕ ℕ ℕ ℕ ℕ ℕ ℕ ℕ ℕ ℕ ℕ ℕ ℕ ℕ ℕ (in_form depth) (in_part depth) (in_init depth) (in_spec depth) (in_statement_form depth) (in_decl depth) (in_declared depth) (in_param depth) (in_type_name depth) (in_expr depth) (in_init_part depth) (in_enumerator depth) (in_field_decl depth) (in_field_name depth) (in_stmt depth) (Open.Binary op left right)

pub levels_binary : (number : ℕ) (place : Place) (op : BinaryOp) (left : Expr) (right : Expr) → expr_levels (record { number = number; place = place; form = Binary op left right }) ≡ 1 + max (expr_levels left) (expr_levels right)
levels_binary number place op left right = levels_expr (record { number = number; place = place; form = Binary op left right }) ∙ ap (λ (n : ℕ). 1 + n) (form_binary op left right)

form_assign : (op : Option BinaryOp) (left : Expr) (right : Expr) → form_levels (Assign op left right) ≡ max (expr_levels left) (expr_levels right)
form_assign op left right = ap form_levels (sym (rolls-Assign op left right)) ∙ fold-roll-ExprForm ℕ ℕ ℕ ℕ ℕ ℕ ℕ ℕ ℕ ℕ ℕ ℕ ℕ ℕ ℕ (in_form depth) (in_part depth) (in_init depth) (in_spec depth) (in_statement_form depth) (in_decl depth) (in_declared depth) (in_param depth) (in_type_name depth) (in_expr depth) (in_init_part depth) (in_enumerator depth) (in_field_decl depth) (in_field_name depth) (in_stmt depth) (Open.Assign op left right)

pub levels_assign : (number : ℕ) (place : Place) (op : Option BinaryOp) (left : Expr) (right : Expr) → expr_levels (record { number = number; place = place; form = Assign op left right }) ≡ 1 + max (expr_levels left) (expr_levels right)
levels_assign number place op left right = levels_expr (record { number = number; place = place; form = Assign op left right }) ∙ ap (λ (n : ℕ). 1 + n) (form_assign op left right)

form_count : (up : Bool) (after : Bool) (arg : Expr) → form_levels (Count up after arg) ≡ expr_levels arg
form_count up after arg = ap form_levels (sym (rolls-Count up after arg)) ∙ fold-roll-ExprForm ℕ ℕ ℕ ℕ ℕ ℕ ℕ ℕ ℕ ℕ ℕ ℕ ℕ ℕ ℕ (in_form depth) (in_part depth) (in_init depth) (in_spec depth) (in_statement_form depth) (in_decl depth) (in_declared depth) (in_param depth) (in_type_name depth) (in_expr depth) (in_init_part depth) (in_enumerator depth) (in_field_decl depth) (in_field_name depth) (in_stmt depth) (Open.Count up after arg)

pub levels_count : (number : ℕ) (place : Place) (up : Bool) (after : Bool) (arg : Expr) → expr_levels (record { number = number; place = place; form = Count up after arg }) ≡ 1 + expr_levels arg
levels_count number place up after arg = levels_expr (record { number = number; place = place; form = Count up after arg }) ∙ ap (λ (n : ℕ). 1 + n) (form_count up after arg)

form_choose : (test : Expr) (one : Expr) (other : Expr) → form_levels (Choose test one other) ≡ max (expr_levels test) (max (expr_levels one) (expr_levels other))
form_choose test one other = ap form_levels (sym (rolls-Choose test one other)) ∙ fold-roll-ExprForm ℕ ℕ ℕ ℕ ℕ ℕ ℕ ℕ ℕ ℕ ℕ ℕ ℕ ℕ ℕ (in_form depth) (in_part depth) (in_init depth) (in_spec depth) (in_statement_form depth) (in_decl depth) (in_declared depth) (in_param depth) (in_type_name depth) (in_expr depth) (in_init_part depth) (in_enumerator depth) (in_field_decl depth) (in_field_name depth) (in_stmt depth) (Open.Choose test one other)

pub levels_choose : (number : ℕ) (place : Place) (test : Expr) (one : Expr) (other : Expr) → expr_levels (record { number = number; place = place; form = Choose test one other }) ≡ 1 + max (expr_levels test) (max (expr_levels one) (expr_levels other))
levels_choose number place test one other = levels_expr (record { number = number; place = place; form = Choose test one other }) ∙ ap (λ (n : ℕ). 1 + n) (form_choose test one other)

form_cast : (to : TypeName) (arg : Expr) → form_levels (Cast to arg) ≡ max (type_name_levels to) (expr_levels arg)
form_cast to arg = ap form_levels (sym (rolls-Cast to arg)) ∙ fold-roll-ExprForm ℕ ℕ ℕ ℕ ℕ ℕ ℕ ℕ ℕ ℕ ℕ ℕ ℕ ℕ ℕ (in_form depth) (in_part depth) (in_init depth) (in_spec depth) (in_statement_form depth) (in_decl depth) (in_declared depth) (in_param depth) (in_type_name depth) (in_expr depth) (in_init_part depth) (in_enumerator depth) (in_field_decl depth) (in_field_name depth) (in_stmt depth) (Open.Cast to arg)

pub levels_cast : (number : ℕ) (place : Place) (to : TypeName) (arg : Expr) → expr_levels (record { number = number; place = place; form = Cast to arg }) ≡ 1 + max (type_name_levels to) (expr_levels arg)
levels_cast number place to arg = levels_expr (record { number = number; place = place; form = Cast to arg }) ∙ ap (λ (n : ℕ). 1 + n) (form_cast to arg)

form_size_of : (arg : Expr) → form_levels (SizeOf arg) ≡ expr_levels arg
form_size_of arg = ap form_levels (sym (rolls-SizeOf arg)) ∙ fold-roll-ExprForm ℕ ℕ ℕ ℕ ℕ ℕ ℕ ℕ ℕ ℕ ℕ ℕ ℕ ℕ ℕ (in_form depth) (in_part depth) (in_init depth) (in_spec depth) (in_statement_form depth) (in_decl depth) (in_declared depth) (in_param depth) (in_type_name depth) (in_expr depth) (in_init_part depth) (in_enumerator depth) (in_field_decl depth) (in_field_name depth) (in_stmt depth) (Open.SizeOf arg)

pub levels_size_of : (number : ℕ) (place : Place) (arg : Expr) → expr_levels (record { number = number; place = place; form = SizeOf arg }) ≡ 1 + expr_levels arg
levels_size_of number place arg = levels_expr (record { number = number; place = place; form = SizeOf arg }) ∙ ap (λ (n : ℕ). 1 + n) (form_size_of arg)

form_size_of_type : (to : TypeName) → form_levels (SizeOfType to) ≡ type_name_levels to
form_size_of_type to = ap form_levels (sym (rolls-SizeOfType to)) ∙ fold-roll-ExprForm ℕ ℕ ℕ ℕ ℕ ℕ ℕ ℕ ℕ ℕ ℕ ℕ ℕ ℕ ℕ (in_form depth) (in_part depth) (in_init depth) (in_spec depth) (in_statement_form depth) (in_decl depth) (in_declared depth) (in_param depth) (in_type_name depth) (in_expr depth) (in_init_part depth) (in_enumerator depth) (in_field_decl depth) (in_field_name depth) (in_stmt depth) (Open.SizeOfType to)

pub levels_size_of_type : (number : ℕ) (place : Place) (to : TypeName) → expr_levels (record { number = number; place = place; form = SizeOfType to }) ≡ 1 + type_name_levels to
levels_size_of_type number place to = levels_expr (record { number = number; place = place; form = SizeOfType to }) ∙ ap (λ (n : ℕ). 1 + n) (form_size_of_type to)

form_offset_of_path : (to : TypeName) (path : List Part) → form_levels (OffsetOf to path) ≡ max (type_name_levels to) (joined depth (map part_levels path))
form_offset_of_path to path = ap form_levels (sym (rolls-OffsetOf to path)) ∙ fold-roll-ExprForm ℕ ℕ ℕ ℕ ℕ ℕ ℕ ℕ ℕ ℕ ℕ ℕ ℕ ℕ ℕ (in_form depth) (in_part depth) (in_init depth) (in_spec depth) (in_statement_form depth) (in_decl depth) (in_declared depth) (in_param depth) (in_type_name depth) (in_expr depth) (in_init_part depth) (in_enumerator depth) (in_field_decl depth) (in_field_name depth) (in_stmt depth) (Open.OffsetOf to path)

pub levels_offset_of_path : (number : ℕ) (place : Place) (to : TypeName) (path : List Part) → expr_levels (record { number = number; place = place; form = OffsetOf to path }) ≡ 1 + max (type_name_levels to) (joined depth (map part_levels path))
levels_offset_of_path number place to path = levels_expr (record { number = number; place = place; form = OffsetOf to path }) ∙ ap (λ (n : ℕ). 1 + n) (form_offset_of_path to path)

form_index : (base : Expr) (index : Expr) → form_levels (Index base index) ≡ max (expr_levels base) (expr_levels index)
form_index base index = ap form_levels (sym (rolls-Index base index)) ∙ fold-roll-ExprForm ℕ ℕ ℕ ℕ ℕ ℕ ℕ ℕ ℕ ℕ ℕ ℕ ℕ ℕ ℕ (in_form depth) (in_part depth) (in_init depth) (in_spec depth) (in_statement_form depth) (in_decl depth) (in_declared depth) (in_param depth) (in_type_name depth) (in_expr depth) (in_init_part depth) (in_enumerator depth) (in_field_decl depth) (in_field_name depth) (in_stmt depth) (Open.Index base index)

pub levels_index : (number : ℕ) (place : Place) (base : Expr) (index : Expr) → expr_levels (record { number = number; place = place; form = Index base index }) ≡ 1 + max (expr_levels base) (expr_levels index)
levels_index number place base index = levels_expr (record { number = number; place = place; form = Index base index }) ∙ ap (λ (n : ℕ). 1 + n) (form_index base index)

form_member : (base : Expr) (name : Identifier) (through : Bool) → form_levels (Member base name through) ≡ expr_levels base
form_member base name through = ap form_levels (sym (rolls-Member base name through)) ∙ fold-roll-ExprForm ℕ ℕ ℕ ℕ ℕ ℕ ℕ ℕ ℕ ℕ ℕ ℕ ℕ ℕ ℕ (in_form depth) (in_part depth) (in_init depth) (in_spec depth) (in_statement_form depth) (in_decl depth) (in_declared depth) (in_param depth) (in_type_name depth) (in_expr depth) (in_init_part depth) (in_enumerator depth) (in_field_decl depth) (in_field_name depth) (in_stmt depth) (Open.ExprForm::Member base name through)

pub levels_member : (number : ℕ) (place : Place) (base : Expr) (name : Identifier) (through : Bool) → expr_levels (record { number = number; place = place; form = Member base name through }) ≡ 1 + expr_levels base
levels_member number place base name through = levels_expr (record { number = number; place = place; form = Member base name through }) ∙ ap (λ (n : ℕ). 1 + n) (form_member base name through)

form_call : (callee : Expr) (args : List Expr) → form_levels (Call callee args) ≡ max (expr_levels callee) (joined depth (map expr_levels args))
form_call callee args = ap form_levels (sym (rolls-Call callee args)) ∙ fold-roll-ExprForm ℕ ℕ ℕ ℕ ℕ ℕ ℕ ℕ ℕ ℕ ℕ ℕ ℕ ℕ ℕ (in_form depth) (in_part depth) (in_init depth) (in_spec depth) (in_statement_form depth) (in_decl depth) (in_declared depth) (in_param depth) (in_type_name depth) (in_expr depth) (in_init_part depth) (in_enumerator depth) (in_field_decl depth) (in_field_name depth) (in_stmt depth) (Open.Call callee args)

pub levels_call : (number : ℕ) (place : Place) (callee : Expr) (args : List Expr) → expr_levels (record { number = number; place = place; form = Call callee args }) ≡ 1 + max (expr_levels callee) (joined depth (map expr_levels args))
levels_call number place callee args = levels_expr (record { number = number; place = place; form = Call callee args }) ∙ ap (λ (n : ℕ). 1 + n) (form_call callee args)

form_inner : (body : List Stmt) (close : Place) → form_levels (Inner body close) ≡ joined depth (map stmt_levels body)
form_inner body close = ap form_levels (sym (rolls-Inner body close)) ∙ fold-roll-ExprForm ℕ ℕ ℕ ℕ ℕ ℕ ℕ ℕ ℕ ℕ ℕ ℕ ℕ ℕ ℕ (in_form depth) (in_part depth) (in_init depth) (in_spec depth) (in_statement_form depth) (in_decl depth) (in_declared depth) (in_param depth) (in_type_name depth) (in_expr depth) (in_init_part depth) (in_enumerator depth) (in_field_decl depth) (in_field_name depth) (in_stmt depth) (Open.Inner body close)

pub levels_inner : (number : ℕ) (place : Place) (body : List Stmt) (close : Place) → expr_levels (record { number = number; place = place; form = Inner body close }) ≡ 1 + joined depth (map stmt_levels body)
levels_inner number place body close = levels_expr (record { number = number; place = place; form = Inner body close }) ∙ ap (λ (n : ℕ). 1 + n) (form_inner body close)

pub levels_call_of_nothing : (number : ℕ) (place : Place) (callee : Expr) → expr_levels (record { number = number; place = place; form = Call callee [] }) ≡ 1 + expr_levels callee
levels_call_of_nothing number place callee = levels_call number place callee [] ∙ ap (λ (n : ℕ). 1 + n) (max_nothing (expr_levels callee))

-- steps to a member
pub levels_named_part : (name : Identifier) → part_levels (NamedPart name) ≡ 0
levels_named_part name = ap part_levels (sym (rolls-Part name)) ∙ fold-roll-Part ℕ ℕ ℕ ℕ ℕ ℕ ℕ ℕ ℕ ℕ ℕ ℕ ℕ ℕ ℕ (in_form depth) (in_part depth) (in_init depth) (in_spec depth) (in_statement_form depth) (in_decl depth) (in_declared depth) (in_param depth) (in_type_name depth) (in_expr depth) (in_init_part depth) (in_enumerator depth) (in_field_decl depth) (in_field_name depth) (in_stmt depth) (Open.Part::Member name)

pub levels_at : (index : Expr) → part_levels (At index) ≡ expr_levels index
levels_at index = ap part_levels (sym (rolls-At index)) ∙ fold-roll-Part ℕ ℕ ℕ ℕ ℕ ℕ ℕ ℕ ℕ ℕ ℕ ℕ ℕ ℕ ℕ (in_form depth) (in_part depth) (in_init depth) (in_spec depth) (in_statement_form depth) (in_decl depth) (in_declared depth) (in_param depth) (in_type_name depth) (in_expr depth) (in_init_part depth) (in_enumerator depth) (in_field_decl depth) (in_field_name depth) (in_stmt depth) (Open.At index)

pub levels_offset_of : (number : ℕ) (place : Place) (to : TypeName) (name : Identifier) (path : List Part) → expr_levels (record { number = number; place = place; form = OffsetOf to (NamedPart name ∷ path) }) ≡ 1 + max (type_name_levels to) (joined depth (map part_levels path))
levels_offset_of number place to name path =
    levels_offset_of_path number place to (NamedPart name ∷ path)
    ∙ ap (λ (n : ℕ). 1 + max (type_name_levels to) n) (ap (λ (n : ℕ). max n (joined depth (map part_levels path))) (levels_named_part name) ∙ nothing_max (joined depth (map part_levels path)))

-- initialisers
pub levels_value : (value : Expr) (after : Place) → init_levels (Value value after) ≡ 1 + expr_levels value
levels_value value after = ap init_levels (sym (rolls-Value value after)) ∙ fold-roll-Init ℕ ℕ ℕ ℕ ℕ ℕ ℕ ℕ ℕ ℕ ℕ ℕ ℕ ℕ ℕ (in_form depth) (in_part depth) (in_init depth) (in_spec depth) (in_statement_form depth) (in_decl depth) (in_declared depth) (in_param depth) (in_type_name depth) (in_expr depth) (in_init_part depth) (in_enumerator depth) (in_field_decl depth) (in_field_name depth) (in_stmt depth) (Open.Value value after)

pub levels_braces : (parts : List InitPart) → init_levels (Braces parts) ≡ 1 + joined depth (map init_part_levels parts)
levels_braces parts = ap init_levels (sym (rolls-Braces parts)) ∙ fold-roll-Init ℕ ℕ ℕ ℕ ℕ ℕ ℕ ℕ ℕ ℕ ℕ ℕ ℕ ℕ ℕ (in_form depth) (in_part depth) (in_init depth) (in_spec depth) (in_statement_form depth) (in_decl depth) (in_declared depth) (in_param depth) (in_type_name depth) (in_expr depth) (in_init_part depth) (in_enumerator depth) (in_field_decl depth) (in_field_name depth) (in_stmt depth) (Open.Braces parts)

pub levels_empty_braces : init_levels (Braces []) ≡ 1
levels_empty_braces = levels_braces []

pub levels_initializer : (member : Option Identifier) (init : Init) → init_part_levels (initializer member init) ≡ init_levels init
levels_initializer member init = fold_out-InitPart ℕ ℕ ℕ ℕ ℕ ℕ ℕ ℕ ℕ ℕ ℕ ℕ ℕ ℕ ℕ (in_form depth) (in_part depth) (in_init depth) (in_spec depth) (in_statement_form depth) (in_decl depth) (in_declared depth) (in_param depth) (in_type_name depth) (in_expr depth) (in_init_part depth) (in_enumerator depth) (in_field_decl depth) (in_field_name depth) (in_stmt depth) (initializer member init)

-- the words of a type
pub levels_basic : (basic : BasicType) → spec_levels (Basic basic) ≡ 1
levels_basic basic = ap spec_levels (sym (rolls-Basic basic)) ∙ fold-roll-TypeSpec ℕ ℕ ℕ ℕ ℕ ℕ ℕ ℕ ℕ ℕ ℕ ℕ ℕ ℕ ℕ (in_form depth) (in_part depth) (in_init depth) (in_spec depth) (in_statement_form depth) (in_decl depth) (in_declared depth) (in_param depth) (in_type_name depth) (in_expr depth) (in_init_part depth) (in_enumerator depth) (in_field_decl depth) (in_field_name depth) (in_stmt depth) (Open.Basic basic)

pub levels_named : (name : List ℕ) → spec_levels (Named name) ≡ 1
levels_named name = ap spec_levels (sym (rolls-Named name)) ∙ fold-roll-TypeSpec ℕ ℕ ℕ ℕ ℕ ℕ ℕ ℕ ℕ ℕ ℕ ℕ ℕ ℕ ℕ (in_form depth) (in_part depth) (in_init depth) (in_spec depth) (in_statement_form depth) (in_decl depth) (in_declared depth) (in_param depth) (in_type_name depth) (in_expr depth) (in_init_part depth) (in_enumerator depth) (in_field_decl depth) (in_field_name depth) (in_stmt depth) (Open.Named name)

pub levels_struct_by_tag : (name : Option Identifier) → spec_levels (Struct name None) ≡ 1
levels_struct_by_tag name = ap spec_levels (sym (rolls-Struct name None)) ∙ fold-roll-TypeSpec ℕ ℕ ℕ ℕ ℕ ℕ ℕ ℕ ℕ ℕ ℕ ℕ ℕ ℕ ℕ (in_form depth) (in_part depth) (in_init depth) (in_spec depth) (in_statement_form depth) (in_decl depth) (in_declared depth) (in_param depth) (in_type_name depth) (in_expr depth) (in_init_part depth) (in_enumerator depth) (in_field_decl depth) (in_field_name depth) (in_stmt depth) (Open.Struct name None)

pub levels_struct : (name : Option Identifier) (fields : List FieldDecl) → spec_levels (Struct name (Some fields)) ≡ 1 + joined depth (map field_decl_levels fields)
levels_struct name fields = ap spec_levels (sym (rolls-Struct name (Some fields))) ∙ fold-roll-TypeSpec ℕ ℕ ℕ ℕ ℕ ℕ ℕ ℕ ℕ ℕ ℕ ℕ ℕ ℕ ℕ (in_form depth) (in_part depth) (in_init depth) (in_spec depth) (in_statement_form depth) (in_decl depth) (in_declared depth) (in_param depth) (in_type_name depth) (in_expr depth) (in_init_part depth) (in_enumerator depth) (in_field_decl depth) (in_field_name depth) (in_stmt depth) (Open.Struct name (Some fields))

pub levels_enum_by_tag : (name : Option Identifier) → spec_levels (Enum name None) ≡ 1
levels_enum_by_tag name = ap spec_levels (sym (rolls-Enum name None)) ∙ fold-roll-TypeSpec ℕ ℕ ℕ ℕ ℕ ℕ ℕ ℕ ℕ ℕ ℕ ℕ ℕ ℕ ℕ (in_form depth) (in_part depth) (in_init depth) (in_spec depth) (in_statement_form depth) (in_decl depth) (in_declared depth) (in_param depth) (in_type_name depth) (in_expr depth) (in_init_part depth) (in_enumerator depth) (in_field_decl depth) (in_field_name depth) (in_stmt depth) (Open.Enum name None)

pub levels_enum : (name : Option Identifier) (values : List Enumerator) → spec_levels (Enum name (Some values)) ≡ 1 + joined depth (map enumerator_levels values)
levels_enum name values = ap spec_levels (sym (rolls-Enum name (Some values))) ∙ fold-roll-TypeSpec ℕ ℕ ℕ ℕ ℕ ℕ ℕ ℕ ℕ ℕ ℕ ℕ ℕ ℕ ℕ (in_form depth) (in_part depth) (in_init depth) (in_spec depth) (in_statement_form depth) (in_decl depth) (in_declared depth) (in_param depth) (in_type_name depth) (in_expr depth) (in_init_part depth) (in_enumerator depth) (in_field_decl depth) (in_field_name depth) (in_stmt depth) (Open.Enum name (Some values))

pub levels_of_expr : (expr : Expr) → spec_levels (OfExpr expr) ≡ 1 + expr_levels expr
levels_of_expr expr = ap spec_levels (sym (rolls-OfExpr expr)) ∙ fold-roll-TypeSpec ℕ ℕ ℕ ℕ ℕ ℕ ℕ ℕ ℕ ℕ ℕ ℕ ℕ ℕ ℕ (in_form depth) (in_part depth) (in_init depth) (in_spec depth) (in_statement_form depth) (in_decl depth) (in_declared depth) (in_param depth) (in_type_name depth) (in_expr depth) (in_init_part depth) (in_enumerator depth) (in_field_decl depth) (in_field_name depth) (in_stmt depth) (Open.OfExpr expr)

pub levels_of_type : (name : TypeName) → spec_levels (OfType name) ≡ 1 + type_name_levels name
levels_of_type name = ap spec_levels (sym (rolls-OfType name)) ∙ fold-roll-TypeSpec ℕ ℕ ℕ ℕ ℕ ℕ ℕ ℕ ℕ ℕ ℕ ℕ ℕ ℕ ℕ (in_form depth) (in_part depth) (in_init depth) (in_spec depth) (in_statement_form depth) (in_decl depth) (in_declared depth) (in_param depth) (in_type_name depth) (in_expr depth) (in_init_part depth) (in_enumerator depth) (in_field_decl depth) (in_field_name depth) (in_stmt depth) (Open.OfType name)

-- names with array sizes behind them
pub levels_type_name : (type : TypeSpec) (stars : ℕ) (sizes : List (Option Expr)) → type_name_levels (type_name type stars sizes) ≡ max (spec_levels type) (joined depth (map maybe_levels sizes))
levels_type_name type stars sizes = fold-roll-TypeName ℕ ℕ ℕ ℕ ℕ ℕ ℕ ℕ ℕ ℕ ℕ ℕ ℕ ℕ ℕ (in_form depth) (in_part depth) (in_init depth) (in_spec depth) (in_statement_form depth) (in_decl depth) (in_declared depth) (in_param depth) (in_type_name depth) (in_expr depth) (in_init_part depth) (in_enumerator depth) (in_field_decl depth) (in_field_name depth) (in_stmt depth) (record { spec = type; stars = stars; sizes = sizes }) ∙ ap (λ (ns : List ℕ). max (spec_levels type) (joined depth ns)) (map_options or_nothing _ maybe_levels refl (λ e. refl) sizes)

pub levels_parameter : (type : TypeSpec) (stars : ℕ) (name : Option Identifier) (sizes : List (Option Expr)) → param_levels (parameter type stars name sizes) ≡ max (spec_levels type) (joined depth (map maybe_levels sizes))
levels_parameter type stars name sizes = fold-roll-Param ℕ ℕ ℕ ℕ ℕ ℕ ℕ ℕ ℕ ℕ ℕ ℕ ℕ ℕ ℕ (in_form depth) (in_part depth) (in_init depth) (in_spec depth) (in_statement_form depth) (in_decl depth) (in_declared depth) (in_param depth) (in_type_name depth) (in_expr depth) (in_init_part depth) (in_enumerator depth) (in_field_decl depth) (in_field_name depth) (in_stmt depth) (record { spec = type; stars = stars; name = name; sizes = sizes }) ∙ ap (λ (ns : List ℕ). max (spec_levels type) (joined depth ns)) (map_options or_nothing _ maybe_levels refl (λ e. refl) sizes)

pub levels_fields : (type : TypeSpec) (names : List FieldName) → field_decl_levels (fields type names) ≡ max (spec_levels type) (joined depth (map field_name_levels names))
levels_fields type names = fold-roll-FieldDecl ℕ ℕ ℕ ℕ ℕ ℕ ℕ ℕ ℕ ℕ ℕ ℕ ℕ ℕ ℕ (in_form depth) (in_part depth) (in_init depth) (in_spec depth) (in_statement_form depth) (in_decl depth) (in_declared depth) (in_param depth) (in_type_name depth) (in_expr depth) (in_init_part depth) (in_enumerator depth) (in_field_decl depth) (in_field_name depth) (in_stmt depth) (record { spec = type; names = names })

pub levels_field : (place : Place) (name : Option (List ℕ)) (stars : ℕ) (sizes : List (Option Expr)) → field_name_levels (field place name stars sizes None) ≡ joined depth (map maybe_levels sizes)
levels_field place name stars sizes = fold-roll-FieldName ℕ ℕ ℕ ℕ ℕ ℕ ℕ ℕ ℕ ℕ ℕ ℕ ℕ ℕ ℕ (in_form depth) (in_part depth) (in_init depth) (in_spec depth) (in_statement_form depth) (in_decl depth) (in_declared depth) (in_param depth) (in_type_name depth) (in_expr depth) (in_init_part depth) (in_enumerator depth) (in_field_decl depth) (in_field_name depth) (in_stmt depth) (record { place = place; name = name; stars = stars; sizes = sizes; bits = None }) ∙ (ap (λ (ns : List ℕ). max (joined depth ns) 0) (map_options or_nothing _ maybe_levels refl (λ e. refl) sizes) ∙ max_nothing (joined depth (map maybe_levels sizes)))

pub levels_bits : (place : Place) (name : Option (List ℕ)) (stars : ℕ) (sizes : List (Option Expr)) (bits : Expr) → field_name_levels (field place name stars sizes (Some bits)) ≡ max (joined depth (map maybe_levels sizes)) (expr_levels bits)
levels_bits place name stars sizes bits = fold-roll-FieldName ℕ ℕ ℕ ℕ ℕ ℕ ℕ ℕ ℕ ℕ ℕ ℕ ℕ ℕ ℕ (in_form depth) (in_part depth) (in_init depth) (in_spec depth) (in_statement_form depth) (in_decl depth) (in_declared depth) (in_param depth) (in_type_name depth) (in_expr depth) (in_init_part depth) (in_enumerator depth) (in_field_decl depth) (in_field_name depth) (in_stmt depth) (record { place = place; name = name; stars = stars; sizes = sizes; bits = Some bits }) ∙ ap (λ (ns : List ℕ). max (joined depth ns) (expr_levels bits)) (map_options or_nothing _ maybe_levels refl (λ e. refl) sizes)

pub levels_unnamed_bits : (place : Place) (bits : Expr) → field_name_levels (field place None 0 [] (Some bits)) ≡ expr_levels bits
levels_unnamed_bits place bits = levels_bits place None 0 [] bits ∙ nothing_max (expr_levels bits)

pub levels_enumerator : (token : Terminal) → enumerator_levels (enumerator token None) ≡ 0
levels_enumerator token = fold-roll-Enumerator ℕ ℕ ℕ ℕ ℕ ℕ ℕ ℕ ℕ ℕ ℕ ℕ ℕ ℕ ℕ (in_form depth) (in_part depth) (in_init depth) (in_spec depth) (in_statement_form depth) (in_decl depth) (in_declared depth) (in_param depth) (in_type_name depth) (in_expr depth) (in_init_part depth) (in_enumerator depth) (in_field_decl depth) (in_field_name depth) (in_stmt depth) (record { place = token.place; name = token.bytes; value = None })

pub levels_valued_enumerator : (token : Terminal) (value : Expr) → enumerator_levels (enumerator token (Some value)) ≡ expr_levels value
levels_valued_enumerator token value = fold-roll-Enumerator ℕ ℕ ℕ ℕ ℕ ℕ ℕ ℕ ℕ ℕ ℕ ℕ ℕ ℕ ℕ (in_form depth) (in_part depth) (in_init depth) (in_spec depth) (in_statement_form depth) (in_decl depth) (in_declared depth) (in_param depth) (in_type_name depth) (in_expr depth) (in_init_part depth) (in_enumerator depth) (in_field_decl depth) (in_field_name depth) (in_stmt depth) (record { place = token.place; name = token.bytes; value = Some value })

-- declarations
pub levels_declaration : (storage : Storage) (type : TypeSpec) (names : List Declared) → decl_levels (declaration storage type names) ≡ max (spec_levels type) (joined depth (map declared_levels names))
levels_declaration storage type names = fold-roll-Decl ℕ ℕ ℕ ℕ ℕ ℕ ℕ ℕ ℕ ℕ ℕ ℕ ℕ ℕ ℕ (in_form depth) (in_part depth) (in_init depth) (in_spec depth) (in_statement_form depth) (in_decl depth) (in_declared depth) (in_param depth) (in_type_name depth) (in_expr depth) (in_init_part depth) (in_enumerator depth) (in_field_decl depth) (in_field_name depth) (in_stmt depth) (record { storage = storage; spec = type; names = names })

pub levels_type_declaration : (storage : Storage) (type : TypeSpec) → decl_levels (declaration storage type []) ≡ spec_levels type
levels_type_declaration storage type = levels_declaration storage type [] ∙ max_nothing (spec_levels type)

pub levels_object : (token : Terminal) (stars : ℕ) (sizes : List (Option Expr)) → declared_levels (object token stars sizes None) ≡ joined depth (map maybe_levels sizes)
levels_object token stars sizes = fold-roll-Declared ℕ ℕ ℕ ℕ ℕ ℕ ℕ ℕ ℕ ℕ ℕ ℕ ℕ ℕ ℕ (in_form depth) (in_part depth) (in_init depth) (in_spec depth) (in_statement_form depth) (in_decl depth) (in_declared depth) (in_param depth) (in_type_name depth) (in_expr depth) (in_init_part depth) (in_enumerator depth) (in_field_decl depth) (in_field_name depth) (in_stmt depth) (record { place = token.place; name = token.bytes; stars = stars; sizes = sizes; params = None; init = None }) ∙ (ap (λ (ns : List ℕ). max (joined depth ns) 0) (map_options or_nothing _ maybe_levels refl (λ e. refl) sizes) ∙ max_nothing (joined depth (map maybe_levels sizes)))

pub levels_initialized : (token : Terminal) (stars : ℕ) (sizes : List (Option Expr)) (init : Init) → declared_levels (object token stars sizes (Some init)) ≡ max (joined depth (map maybe_levels sizes)) (init_levels init)
levels_initialized token stars sizes init = fold-roll-Declared ℕ ℕ ℕ ℕ ℕ ℕ ℕ ℕ ℕ ℕ ℕ ℕ ℕ ℕ ℕ (in_form depth) (in_part depth) (in_init depth) (in_spec depth) (in_statement_form depth) (in_decl depth) (in_declared depth) (in_param depth) (in_type_name depth) (in_expr depth) (in_init_part depth) (in_enumerator depth) (in_field_decl depth) (in_field_name depth) (in_stmt depth) (record { place = token.place; name = token.bytes; stars = stars; sizes = sizes; params = None; init = Some init }) ∙ both (λ (ns : List ℕ) (n : ℕ). max (joined depth ns) n) _ _ _ _ (map_options or_nothing _ maybe_levels refl (λ e. refl) sizes) (nothing_max (init_levels init))

pub levels_function : (token : Terminal) (stars : ℕ) (params : List Param) → declared_levels (function token stars params) ≡ joined depth (map param_levels params)
levels_function token stars params = fold-roll-Declared ℕ ℕ ℕ ℕ ℕ ℕ ℕ ℕ ℕ ℕ ℕ ℕ ℕ ℕ ℕ (in_form depth) (in_part depth) (in_init depth) (in_spec depth) (in_statement_form depth) (in_decl depth) (in_declared depth) (in_param depth) (in_type_name depth) (in_expr depth) (in_init_part depth) (in_enumerator depth) (in_field_decl depth) (in_field_name depth) (in_stmt depth) (record { place = token.place; name = token.bytes; stars = stars; sizes = []; params = Some params; init = None }) ∙ (nothing_max (max (joined depth (map param_levels params)) 0) ∙ max_nothing (joined depth (map param_levels params)))

-- statements
form_declare : (decl : Decl) → statement_form_levels (Declare decl) ≡ decl_levels decl
form_declare decl = ap statement_form_levels (sym (rolls-Declare decl)) ∙ fold-roll-StmtForm ℕ ℕ ℕ ℕ ℕ ℕ ℕ ℕ ℕ ℕ ℕ ℕ ℕ ℕ ℕ (in_form depth) (in_part depth) (in_init depth) (in_spec depth) (in_statement_form depth) (in_decl depth) (in_declared depth) (in_param depth) (in_type_name depth) (in_expr depth) (in_init_part depth) (in_enumerator depth) (in_field_decl depth) (in_field_name depth) (in_stmt depth) (Open.Declare decl)

pub levels_declare : (place last : Place) (decl : Decl) → stmt_levels (statement place last (Declare decl)) ≡ 1 + decl_levels decl
levels_declare place last decl = levels_stmt (statement place last (Declare decl)) ∙ ap (λ (n : ℕ). 1 + n) (form_declare decl)

form_empty : statement_form_levels (Eval None) ≡ 0
form_empty = ap statement_form_levels (sym (rolls-Eval None)) ∙ fold-roll-StmtForm ℕ ℕ ℕ ℕ ℕ ℕ ℕ ℕ ℕ ℕ ℕ ℕ ℕ ℕ ℕ (in_form depth) (in_part depth) (in_init depth) (in_spec depth) (in_statement_form depth) (in_decl depth) (in_declared depth) (in_param depth) (in_type_name depth) (in_expr depth) (in_init_part depth) (in_enumerator depth) (in_field_decl depth) (in_field_name depth) (in_stmt depth) (Open.Eval None)

pub levels_empty : (place last : Place) → stmt_levels (statement place last (Eval None)) ≡ 1
levels_empty place last = levels_stmt (statement place last (Eval None)) ∙ ap (λ (n : ℕ). 1 + n) form_empty

form_eval : (expr : Expr) → statement_form_levels (Eval (Some expr)) ≡ expr_levels expr
form_eval expr = ap statement_form_levels (sym (rolls-Eval (Some expr))) ∙ fold-roll-StmtForm ℕ ℕ ℕ ℕ ℕ ℕ ℕ ℕ ℕ ℕ ℕ ℕ ℕ ℕ ℕ (in_form depth) (in_part depth) (in_init depth) (in_spec depth) (in_statement_form depth) (in_decl depth) (in_declared depth) (in_param depth) (in_type_name depth) (in_expr depth) (in_init_part depth) (in_enumerator depth) (in_field_decl depth) (in_field_name depth) (in_stmt depth) (Open.Eval (Some expr))

pub levels_eval : (place last : Place) (expr : Expr) → stmt_levels (statement place last (Eval (Some expr))) ≡ 1 + expr_levels expr
levels_eval place last expr = levels_stmt (statement place last (Eval (Some expr))) ∙ ap (λ (n : ℕ). 1 + n) (form_eval expr)

form_block : (body : List Stmt) → statement_form_levels (Block body) ≡ joined depth (map stmt_levels body)
form_block body = ap statement_form_levels (sym (rolls-Block body)) ∙ fold-roll-StmtForm ℕ ℕ ℕ ℕ ℕ ℕ ℕ ℕ ℕ ℕ ℕ ℕ ℕ ℕ ℕ (in_form depth) (in_part depth) (in_init depth) (in_spec depth) (in_statement_form depth) (in_decl depth) (in_declared depth) (in_param depth) (in_type_name depth) (in_expr depth) (in_init_part depth) (in_enumerator depth) (in_field_decl depth) (in_field_name depth) (in_stmt depth) (Open.Block body)

pub levels_block : (place last : Place) (body : List Stmt) → stmt_levels (statement place last (Block body)) ≡ 1 + joined depth (map stmt_levels body)
levels_block place last body = levels_stmt (statement place last (Block body)) ∙ ap (λ (n : ℕ). 1 + n) (form_block body)

form_if : (test : Expr) (close : Place) (one : Stmt) → statement_form_levels (If test close one None) ≡ max (expr_levels test) (stmt_levels one)
form_if test close one = ap statement_form_levels (sym (rolls-If test close one None)) ∙ (fold-roll-StmtForm ℕ ℕ ℕ ℕ ℕ ℕ ℕ ℕ ℕ ℕ ℕ ℕ ℕ ℕ ℕ (in_form depth) (in_part depth) (in_init depth) (in_spec depth) (in_statement_form depth) (in_decl depth) (in_declared depth) (in_param depth) (in_type_name depth) (in_expr depth) (in_init_part depth) (in_enumerator depth) (in_field_decl depth) (in_field_name depth) (in_stmt depth) (Open.If test close one None) ∙ ap (max (expr_levels test)) (max_nothing (stmt_levels one)))

pub levels_if : (place last : Place) (test : Expr) (close : Place) (one : Stmt) → stmt_levels (statement place last (If test close one None)) ≡ 1 + max (expr_levels test) (stmt_levels one)
levels_if place last test close one = levels_stmt (statement place last (If test close one None)) ∙ ap (λ (n : ℕ). 1 + n) (form_if test close one)

form_if_else : (test : Expr) (close : Place) (one : Stmt) (other : Stmt) → statement_form_levels (If test close one (Some other)) ≡ max (expr_levels test) (max (stmt_levels one) (stmt_levels other))
form_if_else test close one other = ap statement_form_levels (sym (rolls-If test close one (Some other))) ∙ fold-roll-StmtForm ℕ ℕ ℕ ℕ ℕ ℕ ℕ ℕ ℕ ℕ ℕ ℕ ℕ ℕ ℕ (in_form depth) (in_part depth) (in_init depth) (in_spec depth) (in_statement_form depth) (in_decl depth) (in_declared depth) (in_param depth) (in_type_name depth) (in_expr depth) (in_init_part depth) (in_enumerator depth) (in_field_decl depth) (in_field_name depth) (in_stmt depth) (Open.If test close one (Some other))

pub levels_if_else : (place last : Place) (test : Expr) (close : Place) (one : Stmt) (other : Stmt) → stmt_levels (statement place last (If test close one (Some other))) ≡ 1 + max (expr_levels test) (max (stmt_levels one) (stmt_levels other))
levels_if_else place last test close one other = levels_stmt (statement place last (If test close one (Some other))) ∙ ap (λ (n : ℕ). 1 + n) (form_if_else test close one other)

form_while : (test : Expr) (close : Place) (body : Stmt) → statement_form_levels (While test close body) ≡ max (expr_levels test) (stmt_levels body)
form_while test close body = ap statement_form_levels (sym (rolls-While test close body)) ∙ fold-roll-StmtForm ℕ ℕ ℕ ℕ ℕ ℕ ℕ ℕ ℕ ℕ ℕ ℕ ℕ ℕ ℕ (in_form depth) (in_part depth) (in_init depth) (in_spec depth) (in_statement_form depth) (in_decl depth) (in_declared depth) (in_param depth) (in_type_name depth) (in_expr depth) (in_init_part depth) (in_enumerator depth) (in_field_decl depth) (in_field_name depth) (in_stmt depth) (Open.While test close body)

pub levels_while : (place last : Place) (test : Expr) (close : Place) (body : Stmt) → stmt_levels (statement place last (While test close body)) ≡ 1 + max (expr_levels test) (stmt_levels body)
levels_while place last test close body = levels_stmt (statement place last (While test close body)) ∙ ap (λ (n : ℕ). 1 + n) (form_while test close body)

form_do : (body : Stmt) (test : Expr) (close : Place) → statement_form_levels (Do body test close) ≡ max (stmt_levels body) (expr_levels test)
form_do body test close = ap statement_form_levels (sym (rolls-Do body test close)) ∙ fold-roll-StmtForm ℕ ℕ ℕ ℕ ℕ ℕ ℕ ℕ ℕ ℕ ℕ ℕ ℕ ℕ ℕ (in_form depth) (in_part depth) (in_init depth) (in_spec depth) (in_statement_form depth) (in_decl depth) (in_declared depth) (in_param depth) (in_type_name depth) (in_expr depth) (in_init_part depth) (in_enumerator depth) (in_field_decl depth) (in_field_name depth) (in_stmt depth) (Open.Do body test close)

pub levels_do : (place last : Place) (body : Stmt) (test : Expr) (close : Place) → stmt_levels (statement place last (Do body test close)) ≡ 1 + max (stmt_levels body) (expr_levels test)
levels_do place last body test close = levels_stmt (statement place last (Do body test close)) ∙ ap (λ (n : ℕ). 1 + n) (form_do body test close)

form_for : (first : Stmt) (test : Option Expr) (semicolon : Place) (next : Option Expr) (close : Place) (body : Stmt) → statement_form_levels (For first test semicolon next close body) ≡ max (max (stmt_levels first) (maybe_levels test)) (max (maybe_levels next) (stmt_levels body))
form_for first test semicolon next close body = ap statement_form_levels (sym (rolls-For first test semicolon next close body)) ∙ (fold-roll-StmtForm ℕ ℕ ℕ ℕ ℕ ℕ ℕ ℕ ℕ ℕ ℕ ℕ ℕ ℕ ℕ (in_form depth) (in_part depth) (in_init depth) (in_spec depth) (in_statement_form depth) (in_decl depth) (in_declared depth) (in_param depth) (in_type_name depth) (in_expr depth) (in_init_part depth) (in_enumerator depth) (in_field_decl depth) (in_field_name depth) (in_stmt depth) (Open.For first test semicolon next close body) ∙ both (λ (m n : ℕ). max (max (stmt_levels first) m) (max n (stmt_levels body))) _ _ _ _ (option_cases or_nothing (former-StmtForm-Eval-0.map Expr ℕ expr_levels) maybe_levels refl (λ e. refl) test) (option_cases or_nothing (former-StmtForm-Eval-0.map Expr ℕ expr_levels) maybe_levels refl (λ e. refl) next))

pub levels_for : (place last : Place) (first : Stmt) (test : Option Expr) (semicolon : Place) (next : Option Expr) (close : Place) (body : Stmt) → stmt_levels (statement place last (For first test semicolon next close body)) ≡ 1 + max (max (stmt_levels first) (maybe_levels test)) (max (maybe_levels next) (stmt_levels body))
levels_for place last first test semicolon next close body = levels_stmt (statement place last (For first test semicolon next close body)) ∙ ap (λ (n : ℕ). 1 + n) (form_for first test semicolon next close body)

form_break : statement_form_levels Break ≡ 0
form_break = ap statement_form_levels (sym rolls-Break) ∙ fold-roll-StmtForm ℕ ℕ ℕ ℕ ℕ ℕ ℕ ℕ ℕ ℕ ℕ ℕ ℕ ℕ ℕ (in_form depth) (in_part depth) (in_init depth) (in_spec depth) (in_statement_form depth) (in_decl depth) (in_declared depth) (in_param depth) (in_type_name depth) (in_expr depth) (in_init_part depth) (in_enumerator depth) (in_field_decl depth) (in_field_name depth) (in_stmt depth) Open.Break

pub levels_break : (place last : Place) → stmt_levels (statement place last Break) ≡ 1
levels_break place last = levels_stmt (statement place last Break) ∙ ap (λ (n : ℕ). 1 + n) form_break

form_continue : statement_form_levels Continue ≡ 0
form_continue = ap statement_form_levels (sym rolls-Continue) ∙ fold-roll-StmtForm ℕ ℕ ℕ ℕ ℕ ℕ ℕ ℕ ℕ ℕ ℕ ℕ ℕ ℕ ℕ (in_form depth) (in_part depth) (in_init depth) (in_spec depth) (in_statement_form depth) (in_decl depth) (in_declared depth) (in_param depth) (in_type_name depth) (in_expr depth) (in_init_part depth) (in_enumerator depth) (in_field_decl depth) (in_field_name depth) (in_stmt depth) Open.Continue

pub levels_continue : (place last : Place) → stmt_levels (statement place last Continue) ≡ 1
levels_continue place last = levels_stmt (statement place last Continue) ∙ ap (λ (n : ℕ). 1 + n) form_continue

form_return_nothing : statement_form_levels (Return None) ≡ 0
form_return_nothing = ap statement_form_levels (sym (rolls-Return None)) ∙ fold-roll-StmtForm ℕ ℕ ℕ ℕ ℕ ℕ ℕ ℕ ℕ ℕ ℕ ℕ ℕ ℕ ℕ (in_form depth) (in_part depth) (in_init depth) (in_spec depth) (in_statement_form depth) (in_decl depth) (in_declared depth) (in_param depth) (in_type_name depth) (in_expr depth) (in_init_part depth) (in_enumerator depth) (in_field_decl depth) (in_field_name depth) (in_stmt depth) (Open.Return None)

pub levels_return_nothing : (place last : Place) → stmt_levels (statement place last (Return None)) ≡ 1
levels_return_nothing place last = levels_stmt (statement place last (Return None)) ∙ ap (λ (n : ℕ). 1 + n) form_return_nothing

form_return : (value : Expr) → statement_form_levels (Return (Some value)) ≡ expr_levels value
form_return value = ap statement_form_levels (sym (rolls-Return (Some value))) ∙ fold-roll-StmtForm ℕ ℕ ℕ ℕ ℕ ℕ ℕ ℕ ℕ ℕ ℕ ℕ ℕ ℕ ℕ (in_form depth) (in_part depth) (in_init depth) (in_spec depth) (in_statement_form depth) (in_decl depth) (in_declared depth) (in_param depth) (in_type_name depth) (in_expr depth) (in_init_part depth) (in_enumerator depth) (in_field_decl depth) (in_field_name depth) (in_stmt depth) (Open.Return (Some value))

pub levels_return : (place last : Place) (value : Expr) → stmt_levels (statement place last (Return (Some value))) ≡ 1 + expr_levels value
levels_return place last value = levels_stmt (statement place last (Return (Some value))) ∙ ap (λ (n : ℕ). 1 + n) (form_return value)

pub levels_of_return : (place last : Place) (value : Option Expr) → stmt_levels (statement place last (Return value)) ≡ 1 + maybe_levels value
levels_of_return place last None = levels_return_nothing place last
levels_of_return place last (Some value) = levels_return place last value
