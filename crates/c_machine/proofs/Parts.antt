-- How many parts a tree has, form by form.
use Rattle.std.proofs.Common.{◌≡◌, ℕ, Bool, ◌+◌, ◌∙◌, ap, sym, map, List, [], Option, Some, None}
use Rattle.cbase.specs.declared.place.Place.{Place}
use Rattle.cbase.specs.declared.tree.decl.Decl.{Decl}
use Rattle.cbase.specs.declared.tree.decl.Declared.{Declared}
use Rattle.cbase.specs.declared.tree.decl.Storage.{Storage}
use Rattle.cbase.specs.declared.tree.expr.Expr.{Expr}
use Rattle.cbase.specs.declared.tree.expr.ExprForm.TheVariants.{Name, Constant, Unary, Assign, SizeOf, Member, Call, Inner, rolls-Name, rolls-Constant, rolls-Unary, rolls-Assign, rolls-SizeOf, rolls-Member, rolls-Call, rolls-Inner}
use Rattle.cbase.specs.declared.tree.expr.ExprForm.TheFolds.{fold_out-Expr, fold_out-Stmt, fold-roll-Decl, fold-roll-Declared, fold-roll-ExprForm, fold-roll-FieldDecl, fold-roll-FieldName, fold-roll-Init, fold-roll-InitPart, fold-roll-StmtForm, fold-roll-TypeSpec}
use Rattle.cbase.specs.declared.tree.expr.ExprForm.TheOpen as Open
use Rattle.cbase.specs.declared.tree.expr.ExprForm.TheViews.{roll-Decl, roll-Declared, roll-FieldDecl, roll-FieldName, roll-InitPart}
use Rattle.cbase.specs.declared.tree.identifier.Identifier.{Identifier}
use Rattle.cbase.specs.declared.tree.init.Init.{Init}
use Rattle.cbase.specs.declared.tree.init.Init.TheVariants.{Value, Braces, rolls-Value, rolls-Braces}
use Rattle.cbase.specs.declared.tree.init.InitPart.{InitPart}
use Rattle.cbase.specs.declared.tree.operators.BinaryOp.{BinaryOp}
use Rattle.cbase.specs.declared.tree.operators.UnaryOp.{UnaryOp}
use Rattle.cbase.specs.declared.tree.spec.BasicType.{BasicType}
use Rattle.cbase.specs.declared.tree.spec.FieldDecl.{FieldDecl}
use Rattle.cbase.specs.declared.tree.spec.FieldName.{FieldName}
use Rattle.cbase.specs.declared.tree.spec.TypeSpec.{TypeSpec}
use Rattle.cbase.specs.declared.tree.spec.TypeSpec.TheVariants.{Basic, Struct, rolls-Basic, rolls-Struct}
use Rattle.cbase.specs.declared.tree.stmt.Stmt.{Stmt}
use Rattle.cbase.specs.declared.tree.stmt.StmtForm.TheVariants.{Declare, Eval, Return, rolls-Declare, rolls-Eval, rolls-Return}
use Rattle.ctrees.specs.Weight.{joined, form_weight, init_weight, spec_weight, statement_form_weight, decl_weight, declared_weight, expr_weight, init_part_weight, field_decl_weight, field_name_weight, stmt_weight, in_form, in_part, in_init, in_spec, in_statement_form, in_decl, in_declared, in_param, in_type_name, in_expr, in_init_part, in_enumerator, in_field_decl, in_field_name, in_stmt}
use Rattle.c_machine.specs.Statics.{counting_all}

pub parts_of_expr : (expr : Expr) → expr_weight counting_all expr ≡ 1 + form_weight counting_all expr.form
parts_of_expr expr = fold_out-Expr ℕ ℕ ℕ ℕ ℕ ℕ ℕ ℕ ℕ ℕ ℕ ℕ ℕ ℕ ℕ (in_form counting_all) (in_part counting_all) (in_init counting_all) (in_spec counting_all) (in_statement_form counting_all) (in_decl counting_all) (in_declared counting_all) (in_param counting_all) (in_type_name counting_all) (in_expr counting_all) (in_init_part counting_all) (in_enumerator counting_all) (in_field_decl counting_all) (in_field_name counting_all) (in_stmt counting_all) expr

pub parts_of_stmt : (stmt : Stmt) → stmt_weight counting_all stmt ≡ 1 + statement_form_weight counting_all stmt.form
parts_of_stmt stmt = fold_out-Stmt ℕ ℕ ℕ ℕ ℕ ℕ ℕ ℕ ℕ ℕ ℕ ℕ ℕ ℕ ℕ (in_form counting_all) (in_part counting_all) (in_init counting_all) (in_spec counting_all) (in_statement_form counting_all) (in_decl counting_all) (in_declared counting_all) (in_param counting_all) (in_type_name counting_all) (in_expr counting_all) (in_init_part counting_all) (in_enumerator counting_all) (in_field_decl counting_all) (in_field_name counting_all) (in_stmt counting_all) stmt

pub parts_of_name : (name : List ℕ) → form_weight counting_all (Name name) ≡ 0
parts_of_name name = ap (form_weight counting_all) (sym (rolls-Name name)) ∙ fold-roll-ExprForm ℕ ℕ ℕ ℕ ℕ ℕ ℕ ℕ ℕ ℕ ℕ ℕ ℕ ℕ ℕ (in_form counting_all) (in_part counting_all) (in_init counting_all) (in_spec counting_all) (in_statement_form counting_all) (in_decl counting_all) (in_declared counting_all) (in_param counting_all) (in_type_name counting_all) (in_expr counting_all) (in_init_part counting_all) (in_enumerator counting_all) (in_field_decl counting_all) (in_field_name counting_all) (in_stmt counting_all) (Open.Name name)

pub parts_of_constant : (spelling : List ℕ) → form_weight counting_all (Constant spelling) ≡ 0
parts_of_constant spelling = ap (form_weight counting_all) (sym (rolls-Constant spelling)) ∙ fold-roll-ExprForm ℕ ℕ ℕ ℕ ℕ ℕ ℕ ℕ ℕ ℕ ℕ ℕ ℕ ℕ ℕ (in_form counting_all) (in_part counting_all) (in_init counting_all) (in_spec counting_all) (in_statement_form counting_all) (in_decl counting_all) (in_declared counting_all) (in_param counting_all) (in_type_name counting_all) (in_expr counting_all) (in_init_part counting_all) (in_enumerator counting_all) (in_field_decl counting_all) (in_field_name counting_all) (in_stmt counting_all) (Open.Constant spelling)

pub parts_of_unary : (op : UnaryOp) (arg : Expr) → form_weight counting_all (Unary op arg) ≡ expr_weight counting_all arg
parts_of_unary op arg = ap (form_weight counting_all) (sym (rolls-Unary op arg)) ∙ fold-roll-ExprForm ℕ ℕ ℕ ℕ ℕ ℕ ℕ ℕ ℕ ℕ ℕ ℕ ℕ ℕ ℕ (in_form counting_all) (in_part counting_all) (in_init counting_all) (in_spec counting_all) (in_statement_form counting_all) (in_decl counting_all) (in_declared counting_all) (in_param counting_all) (in_type_name counting_all) (in_expr counting_all) (in_init_part counting_all) (in_enumerator counting_all) (in_field_decl counting_all) (in_field_name counting_all) (in_stmt counting_all) (Open.Unary op arg)

pub parts_of_assign : (op : Option BinaryOp) (left right : Expr) → form_weight counting_all (Assign op left right) ≡ expr_weight counting_all left + expr_weight counting_all right
parts_of_assign op left right = ap (form_weight counting_all) (sym (rolls-Assign op left right)) ∙ fold-roll-ExprForm ℕ ℕ ℕ ℕ ℕ ℕ ℕ ℕ ℕ ℕ ℕ ℕ ℕ ℕ ℕ (in_form counting_all) (in_part counting_all) (in_init counting_all) (in_spec counting_all) (in_statement_form counting_all) (in_decl counting_all) (in_declared counting_all) (in_param counting_all) (in_type_name counting_all) (in_expr counting_all) (in_init_part counting_all) (in_enumerator counting_all) (in_field_decl counting_all) (in_field_name counting_all) (in_stmt counting_all) (Open.Assign op left right)

pub parts_of_size : (arg : Expr) → form_weight counting_all (SizeOf arg) ≡ expr_weight counting_all arg
parts_of_size arg = ap (form_weight counting_all) (sym (rolls-SizeOf arg)) ∙ fold-roll-ExprForm ℕ ℕ ℕ ℕ ℕ ℕ ℕ ℕ ℕ ℕ ℕ ℕ ℕ ℕ ℕ (in_form counting_all) (in_part counting_all) (in_init counting_all) (in_spec counting_all) (in_statement_form counting_all) (in_decl counting_all) (in_declared counting_all) (in_param counting_all) (in_type_name counting_all) (in_expr counting_all) (in_init_part counting_all) (in_enumerator counting_all) (in_field_decl counting_all) (in_field_name counting_all) (in_stmt counting_all) (Open.SizeOf arg)

pub parts_of_member : (base : Expr) (name : Identifier) (through : Bool) → form_weight counting_all (Member base name through) ≡ expr_weight counting_all base
parts_of_member base name through = ap (form_weight counting_all) (sym (rolls-Member base name through)) ∙ fold-roll-ExprForm ℕ ℕ ℕ ℕ ℕ ℕ ℕ ℕ ℕ ℕ ℕ ℕ ℕ ℕ ℕ (in_form counting_all) (in_part counting_all) (in_init counting_all) (in_spec counting_all) (in_statement_form counting_all) (in_decl counting_all) (in_declared counting_all) (in_param counting_all) (in_type_name counting_all) (in_expr counting_all) (in_init_part counting_all) (in_enumerator counting_all) (in_field_decl counting_all) (in_field_name counting_all) (in_stmt counting_all) (Open.ExprForm::Member base name through)

pub parts_of_call : (callee : Expr) (args : List Expr) → form_weight counting_all (Call callee args) ≡ expr_weight counting_all callee + joined counting_all (map (expr_weight counting_all) args)
parts_of_call callee args = ap (form_weight counting_all) (sym (rolls-Call callee args)) ∙ fold-roll-ExprForm ℕ ℕ ℕ ℕ ℕ ℕ ℕ ℕ ℕ ℕ ℕ ℕ ℕ ℕ ℕ (in_form counting_all) (in_part counting_all) (in_init counting_all) (in_spec counting_all) (in_statement_form counting_all) (in_decl counting_all) (in_declared counting_all) (in_param counting_all) (in_type_name counting_all) (in_expr counting_all) (in_init_part counting_all) (in_enumerator counting_all) (in_field_decl counting_all) (in_field_name counting_all) (in_stmt counting_all) (Open.Call callee args)

pub parts_of_inner : (body : List Stmt) (close : Place) → form_weight counting_all (Inner body close) ≡ joined counting_all (map (stmt_weight counting_all) body)
parts_of_inner body close = ap (form_weight counting_all) (sym (rolls-Inner body close)) ∙ fold-roll-ExprForm ℕ ℕ ℕ ℕ ℕ ℕ ℕ ℕ ℕ ℕ ℕ ℕ ℕ ℕ ℕ (in_form counting_all) (in_part counting_all) (in_init counting_all) (in_spec counting_all) (in_statement_form counting_all) (in_decl counting_all) (in_declared counting_all) (in_param counting_all) (in_type_name counting_all) (in_expr counting_all) (in_init_part counting_all) (in_enumerator counting_all) (in_field_decl counting_all) (in_field_name counting_all) (in_stmt counting_all) (Open.Inner body close)

pub parts_of_value : (value : Expr) (after : Place) → init_weight counting_all (Value value after) ≡ 1 + expr_weight counting_all value
parts_of_value value after = ap (init_weight counting_all) (sym (rolls-Value value after)) ∙ fold-roll-Init ℕ ℕ ℕ ℕ ℕ ℕ ℕ ℕ ℕ ℕ ℕ ℕ ℕ ℕ ℕ (in_form counting_all) (in_part counting_all) (in_init counting_all) (in_spec counting_all) (in_statement_form counting_all) (in_decl counting_all) (in_declared counting_all) (in_param counting_all) (in_type_name counting_all) (in_expr counting_all) (in_init_part counting_all) (in_enumerator counting_all) (in_field_decl counting_all) (in_field_name counting_all) (in_stmt counting_all) (Open.Value value after)

pub parts_of_braces : (parts : List InitPart) → init_weight counting_all (Braces parts) ≡ 1 + joined counting_all (map (init_part_weight counting_all) parts)
parts_of_braces parts = ap (init_weight counting_all) (sym (rolls-Braces parts)) ∙ fold-roll-Init ℕ ℕ ℕ ℕ ℕ ℕ ℕ ℕ ℕ ℕ ℕ ℕ ℕ ℕ ℕ (in_form counting_all) (in_part counting_all) (in_init counting_all) (in_spec counting_all) (in_statement_form counting_all) (in_decl counting_all) (in_declared counting_all) (in_param counting_all) (in_type_name counting_all) (in_expr counting_all) (in_init_part counting_all) (in_enumerator counting_all) (in_field_decl counting_all) (in_field_name counting_all) (in_stmt counting_all) (Open.Braces parts)

pub parts_of_basic : (basic : BasicType) → spec_weight counting_all (Basic basic) ≡ 1
parts_of_basic basic = ap (spec_weight counting_all) (sym (rolls-Basic basic)) ∙ fold-roll-TypeSpec ℕ ℕ ℕ ℕ ℕ ℕ ℕ ℕ ℕ ℕ ℕ ℕ ℕ ℕ ℕ (in_form counting_all) (in_part counting_all) (in_init counting_all) (in_spec counting_all) (in_statement_form counting_all) (in_decl counting_all) (in_declared counting_all) (in_param counting_all) (in_type_name counting_all) (in_expr counting_all) (in_init_part counting_all) (in_enumerator counting_all) (in_field_decl counting_all) (in_field_name counting_all) (in_stmt counting_all) (Open.Basic basic)

pub parts_of_tag : (name : Option Identifier) → spec_weight counting_all (Struct name None) ≡ 1
parts_of_tag name = ap (spec_weight counting_all) (sym (rolls-Struct name None)) ∙ fold-roll-TypeSpec ℕ ℕ ℕ ℕ ℕ ℕ ℕ ℕ ℕ ℕ ℕ ℕ ℕ ℕ ℕ (in_form counting_all) (in_part counting_all) (in_init counting_all) (in_spec counting_all) (in_statement_form counting_all) (in_decl counting_all) (in_declared counting_all) (in_param counting_all) (in_type_name counting_all) (in_expr counting_all) (in_init_part counting_all) (in_enumerator counting_all) (in_field_decl counting_all) (in_field_name counting_all) (in_stmt counting_all) (Open.Struct name None)

pub parts_of_struct : (name : Option Identifier) (fields : List FieldDecl) → spec_weight counting_all (Struct name (Some fields)) ≡ 1 + joined counting_all (map (field_decl_weight counting_all) fields)
parts_of_struct name fields = ap (spec_weight counting_all) (sym (rolls-Struct name (Some fields))) ∙ fold-roll-TypeSpec ℕ ℕ ℕ ℕ ℕ ℕ ℕ ℕ ℕ ℕ ℕ ℕ ℕ ℕ ℕ (in_form counting_all) (in_part counting_all) (in_init counting_all) (in_spec counting_all) (in_statement_form counting_all) (in_decl counting_all) (in_declared counting_all) (in_param counting_all) (in_type_name counting_all) (in_expr counting_all) (in_init_part counting_all) (in_enumerator counting_all) (in_field_decl counting_all) (in_field_name counting_all) (in_stmt counting_all) (Open.Struct name (Some fields))

pub parts_of_declare : (decl : Decl) → statement_form_weight counting_all (Declare decl) ≡ decl_weight counting_all decl
parts_of_declare decl = ap (statement_form_weight counting_all) (sym (rolls-Declare decl)) ∙ fold-roll-StmtForm ℕ ℕ ℕ ℕ ℕ ℕ ℕ ℕ ℕ ℕ ℕ ℕ ℕ ℕ ℕ (in_form counting_all) (in_part counting_all) (in_init counting_all) (in_spec counting_all) (in_statement_form counting_all) (in_decl counting_all) (in_declared counting_all) (in_param counting_all) (in_type_name counting_all) (in_expr counting_all) (in_init_part counting_all) (in_enumerator counting_all) (in_field_decl counting_all) (in_field_name counting_all) (in_stmt counting_all) (Open.Declare decl)

pub parts_of_eval : (expr : Expr) → statement_form_weight counting_all (Eval (Some expr)) ≡ expr_weight counting_all expr
parts_of_eval expr = ap (statement_form_weight counting_all) (sym (rolls-Eval (Some expr))) ∙ fold-roll-StmtForm ℕ ℕ ℕ ℕ ℕ ℕ ℕ ℕ ℕ ℕ ℕ ℕ ℕ ℕ ℕ (in_form counting_all) (in_part counting_all) (in_init counting_all) (in_spec counting_all) (in_statement_form counting_all) (in_decl counting_all) (in_declared counting_all) (in_param counting_all) (in_type_name counting_all) (in_expr counting_all) (in_init_part counting_all) (in_enumerator counting_all) (in_field_decl counting_all) (in_field_name counting_all) (in_stmt counting_all) (Open.Eval (Some expr))

pub parts_of_return : (expr : Expr) → statement_form_weight counting_all (Return (Some expr)) ≡ expr_weight counting_all expr
parts_of_return expr = ap (statement_form_weight counting_all) (sym (rolls-Return (Some expr))) ∙ fold-roll-StmtForm ℕ ℕ ℕ ℕ ℕ ℕ ℕ ℕ ℕ ℕ ℕ ℕ ℕ ℕ ℕ (in_form counting_all) (in_part counting_all) (in_init counting_all) (in_spec counting_all) (in_statement_form counting_all) (in_decl counting_all) (in_declared counting_all) (in_param counting_all) (in_type_name counting_all) (in_expr counting_all) (in_init_part counting_all) (in_enumerator counting_all) (in_field_decl counting_all) (in_field_name counting_all) (in_stmt counting_all) (Open.Return (Some expr))

pub parts_of_decl : (storage : Storage) (spec : TypeSpec) (names : List Declared) → decl_weight counting_all (roll-Decl (record { storage = storage; spec = spec; names = names })) ≡ spec_weight counting_all spec + joined counting_all (map (declared_weight counting_all) names)
parts_of_decl storage spec names = fold-roll-Decl ℕ ℕ ℕ ℕ ℕ ℕ ℕ ℕ ℕ ℕ ℕ ℕ ℕ ℕ ℕ (in_form counting_all) (in_part counting_all) (in_init counting_all) (in_spec counting_all) (in_statement_form counting_all) (in_decl counting_all) (in_declared counting_all) (in_param counting_all) (in_type_name counting_all) (in_expr counting_all) (in_init_part counting_all) (in_enumerator counting_all) (in_field_decl counting_all) (in_field_name counting_all) (in_stmt counting_all) (record { storage = storage; spec = spec; names = names })

pub parts_of_object : (place : Place) (name : List ℕ) (stars : ℕ) → declared_weight counting_all (roll-Declared (record { place = place; name = name; stars = stars; sizes = []; params = None; init = None })) ≡ 0
parts_of_object place name stars = fold-roll-Declared ℕ ℕ ℕ ℕ ℕ ℕ ℕ ℕ ℕ ℕ ℕ ℕ ℕ ℕ ℕ (in_form counting_all) (in_part counting_all) (in_init counting_all) (in_spec counting_all) (in_statement_form counting_all) (in_decl counting_all) (in_declared counting_all) (in_param counting_all) (in_type_name counting_all) (in_expr counting_all) (in_init_part counting_all) (in_enumerator counting_all) (in_field_decl counting_all) (in_field_name counting_all) (in_stmt counting_all) (record { place = place; name = name; stars = stars; sizes = []; params = None; init = None })

pub parts_of_initialised : (place : Place) (name : List ℕ) (stars : ℕ) (init : Init) → declared_weight counting_all (roll-Declared (record { place = place; name = name; stars = stars; sizes = []; params = None; init = Some init })) ≡ 0 + (0 + init_weight counting_all init)
parts_of_initialised place name stars init = fold-roll-Declared ℕ ℕ ℕ ℕ ℕ ℕ ℕ ℕ ℕ ℕ ℕ ℕ ℕ ℕ ℕ (in_form counting_all) (in_part counting_all) (in_init counting_all) (in_spec counting_all) (in_statement_form counting_all) (in_decl counting_all) (in_declared counting_all) (in_param counting_all) (in_type_name counting_all) (in_expr counting_all) (in_init_part counting_all) (in_enumerator counting_all) (in_field_decl counting_all) (in_field_name counting_all) (in_stmt counting_all) (record { place = place; name = name; stars = stars; sizes = []; params = None; init = Some init })

pub parts_of_function : (place : Place) (name : List ℕ) (stars : ℕ) → declared_weight counting_all (roll-Declared (record { place = place; name = name; stars = stars; sizes = []; params = Some []; init = None })) ≡ 0
parts_of_function place name stars = fold-roll-Declared ℕ ℕ ℕ ℕ ℕ ℕ ℕ ℕ ℕ ℕ ℕ ℕ ℕ ℕ ℕ (in_form counting_all) (in_part counting_all) (in_init counting_all) (in_spec counting_all) (in_statement_form counting_all) (in_decl counting_all) (in_declared counting_all) (in_param counting_all) (in_type_name counting_all) (in_expr counting_all) (in_init_part counting_all) (in_enumerator counting_all) (in_field_decl counting_all) (in_field_name counting_all) (in_stmt counting_all) (record { place = place; name = name; stars = stars; sizes = []; params = Some []; init = None })

pub parts_of_part : (member : Option Identifier) (init : Init) → init_part_weight counting_all (roll-InitPart (record { member = member; init = init })) ≡ init_weight counting_all init
parts_of_part member init = fold-roll-InitPart ℕ ℕ ℕ ℕ ℕ ℕ ℕ ℕ ℕ ℕ ℕ ℕ ℕ ℕ ℕ (in_form counting_all) (in_part counting_all) (in_init counting_all) (in_spec counting_all) (in_statement_form counting_all) (in_decl counting_all) (in_declared counting_all) (in_param counting_all) (in_type_name counting_all) (in_expr counting_all) (in_init_part counting_all) (in_enumerator counting_all) (in_field_decl counting_all) (in_field_name counting_all) (in_stmt counting_all) (record { member = member; init = init })

pub parts_of_fields : (spec : TypeSpec) (names : List FieldName) → field_decl_weight counting_all (roll-FieldDecl (record { spec = spec; names = names })) ≡ spec_weight counting_all spec + joined counting_all (map (field_name_weight counting_all) names)
parts_of_fields spec names = fold-roll-FieldDecl ℕ ℕ ℕ ℕ ℕ ℕ ℕ ℕ ℕ ℕ ℕ ℕ ℕ ℕ ℕ (in_form counting_all) (in_part counting_all) (in_init counting_all) (in_spec counting_all) (in_statement_form counting_all) (in_decl counting_all) (in_declared counting_all) (in_param counting_all) (in_type_name counting_all) (in_expr counting_all) (in_init_part counting_all) (in_enumerator counting_all) (in_field_decl counting_all) (in_field_name counting_all) (in_stmt counting_all) (record { spec = spec; names = names })

pub parts_of_field : (place : Place) (name : Option (List ℕ)) (stars : ℕ) → field_name_weight counting_all (roll-FieldName (record { place = place; name = name; stars = stars; sizes = []; bits = None })) ≡ 0
parts_of_field place name stars = fold-roll-FieldName ℕ ℕ ℕ ℕ ℕ ℕ ℕ ℕ ℕ ℕ ℕ ℕ ℕ ℕ ℕ (in_form counting_all) (in_part counting_all) (in_init counting_all) (in_spec counting_all) (in_statement_form counting_all) (in_decl counting_all) (in_declared counting_all) (in_param counting_all) (in_type_name counting_all) (in_expr counting_all) (in_init_part counting_all) (in_enumerator counting_all) (in_field_decl counting_all) (in_field_name counting_all) (in_stmt counting_all) (record { place = place; name = name; stars = stars; sizes = []; bits = None })
