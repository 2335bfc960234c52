-- The numbers of the expressions in each tree of the grammar, from those of its parts.
use Rattle.std.proofs.Common.{◌≡◌, ℕ, Bool, ◌++◌, ◌∙◌, refl, ap, sym, map, List, [], ◌∷◌, Option, Some, None}
use Rattle.std.specs.List.{concat}
use Rattle.cbase.specs.declared.place.Place.{Place}
use Rattle.cbase.specs.declared.tree.decl.Decl.{Decl}
use Rattle.cbase.specs.declared.tree.decl.Declared.{Declared}
use Rattle.cbase.specs.declared.tree.decl.Param.{Param}
use Rattle.cbase.specs.declared.tree.decl.Storage.{Storage}
use Rattle.cbase.specs.declared.tree.decl.TypeName.{TypeName}
use Rattle.cbase.specs.declared.tree.expr.Expr.{Expr}
use Rattle.cbase.specs.declared.tree.expr.Part.{Part}
use Rattle.cbase.specs.declared.tree.identifier.Identifier.{Identifier}
use Rattle.cbase.specs.declared.tree.init.Init.{Init}
use Rattle.cbase.specs.declared.tree.init.InitPart.{InitPart}
use Rattle.cbase.specs.declared.tree.operators.BinaryOp.{BinaryOp}
use Rattle.cbase.specs.declared.tree.operators.UnaryOp.{UnaryOp}
use Rattle.cbase.specs.declared.tree.spec.BasicType.{BasicType}
use Rattle.cbase.specs.declared.tree.spec.Enumerator.{Enumerator}
use Rattle.cbase.specs.declared.tree.spec.FieldDecl.{FieldDecl}
use Rattle.cbase.specs.declared.tree.spec.FieldName.{FieldName}
use Rattle.cbase.specs.declared.tree.spec.TypeSpec.{TypeSpec}
use Rattle.cbase.specs.declared.tree.stmt.Stmt.{Stmt}
use Rattle.cbase.specs.declared.tree.expr.ExprForm.TheVariants.{Name, Constant, Unary, Binary, Assign, Count, Choose, Cast, SizeOf, SizeOfType, OffsetOf, Index, Member, Call, Inner, AssertFail, rolls-Name, rolls-Constant, rolls-Unary, rolls-Binary, rolls-Assign, rolls-Count, rolls-Choose, rolls-Cast, rolls-SizeOf, rolls-SizeOfType, rolls-OffsetOf, rolls-Index, rolls-Member, rolls-Call, rolls-Inner, rolls-AssertFail}
use Rattle.cbase.specs.declared.tree.expr.Part.TheVariants.{Member as NamedPart, At, rolls-Member as rolls-Part, rolls-At}
use Rattle.cbase.specs.declared.tree.init.Init.TheVariants.{Value, Braces, rolls-Value, rolls-Braces}
use Rattle.cbase.specs.declared.tree.spec.TypeSpec.TheVariants.{Basic, Named, Struct, Enum, OfExpr, OfType, rolls-Basic, rolls-Named, rolls-Struct, rolls-Enum, rolls-OfExpr, rolls-OfType}
use Rattle.cbase.specs.declared.tree.stmt.StmtForm.TheVariants.{Declare, Eval, Block, If, While, Do, For, Break, Continue, Return, rolls-Declare, rolls-Eval, rolls-Block, rolls-If, rolls-While, rolls-Do, rolls-For, rolls-Break, rolls-Continue, rolls-Return}
use Rattle.cbase.specs.declared.tree.expr.ExprForm.TheFolds.{fold_out-Expr, fold_out-InitPart, fold_out-Stmt, fold-roll-Decl, fold-roll-Declared, fold-roll-Enumerator, fold-roll-ExprForm, fold-roll-FieldDecl, fold-roll-FieldName, fold-roll-Init, fold-roll-Param, fold-roll-Part, fold-roll-StmtForm, fold-roll-TypeName, fold-roll-TypeSpec}
use Rattle.cbase.specs.declared.tree.expr.ExprForm.TheShapes.{former-StmtForm-Eval-0}
use Rattle.cbase.specs.declared.tree.expr.ExprForm.TheOpen as Open
use Rattle.cgrammar.specs.Terminals.{Terminal}
use Rattle.cgrammar.specs.Trees.{object, function, field, fields, enumerator, parameter, type_name, declaration, initializer}
use Rattle.ctrees.specs.Numbers.{form_numbers, part_numbers, init_numbers, spec_numbers, statement_form_numbers, decl_numbers, declared_numbers, param_numbers, type_name_numbers, expr_numbers, init_part_numbers, field_decl_numbers, field_name_numbers, enumerator_numbers, stmt_numbers, maybe_numbers, or_none, in_form, in_part, in_init, in_spec, in_statement_form, in_decl, in_declared, in_param, in_type_name, in_expr, in_init_part, in_enumerator, in_field_decl, in_field_name, in_stmt}
use Rattle.ctrees.proofs.Sizes.{map_options, option_cases, both}

-- an expression and a statement, from what they are
pub numbers_expr : (expr : Expr) → expr_numbers expr ≡ form_numbers expr.form ++ (expr.number ∷ [])
numbers_expr expr = fold_out-Expr (List ℕ) (List ℕ) (List ℕ) (List ℕ) (List ℕ) (List ℕ) (List ℕ) (List ℕ) (List ℕ) (List ℕ) (List ℕ) (List ℕ) (List ℕ) (List ℕ) (List ℕ) in_form in_part in_init in_spec in_statement_form in_decl in_declared in_param in_type_name in_expr in_init_part in_enumerator in_field_decl in_field_name in_stmt expr

pub numbers_stmt : (stmt : Stmt) → stmt_numbers stmt ≡ statement_form_numbers stmt.form
numbers_stmt stmt = fold_out-Stmt (List ℕ) (List ℕ) (List ℕ) (List ℕ) (List ℕ) (List ℕ) (List ℕ) (List ℕ) (List ℕ) (List ℕ) (List ℕ) (List ℕ) (List ℕ) (List ℕ) (List ℕ) in_form in_part in_init in_spec in_statement_form in_decl in_declared in_param in_type_name in_expr in_init_part in_enumerator in_field_decl in_field_name in_stmt stmt

-- expressions
pub numbers_name : (name : List ℕ) → form_numbers (Name name) ≡ []
numbers_name name = ap form_numbers (sym (rolls-Name name)) ∙ fold-roll-ExprForm (List ℕ) (List ℕ) (List ℕ) (List ℕ) (List ℕ) (List ℕ) (List ℕ) (List ℕ) (List ℕ) (List ℕ) (List ℕ) (List ℕ) (List ℕ) (List ℕ) (List ℕ) in_form in_part in_init in_spec in_statement_form in_decl in_declared in_param in_type_name in_expr in_init_part in_enumerator in_field_decl in_field_name in_stmt (Open.Name name)

pub numbers_constant : (spelling : List ℕ) → form_numbers (Constant spelling) ≡ []
numbers_constant spelling = ap form_numbers (sym (rolls-Constant spelling)) ∙ fold-roll-ExprForm (List ℕ) (List ℕ) (List ℕ) (List ℕ) (List ℕ) (List ℕ) (List ℕ) (List ℕ) (List ℕ) (List ℕ) (List ℕ) (List ℕ) (List ℕ) (List ℕ) (List ℕ) in_form in_part in_init in_spec in_statement_form in_decl in_declared in_param in_type_name in_expr in_init_part in_enumerator in_field_decl in_field_name in_stmt (Open.Constant spelling)

pub numbers_assert_fail : form_numbers AssertFail ≡ []
numbers_assert_fail = ap form_numbers (sym rolls-AssertFail) ∙ fold-roll-ExprForm (List ℕ) (List ℕ) (List ℕ) (List ℕ) (List ℕ) (List ℕ) (List ℕ) (List ℕ) (List ℕ) (List ℕ) (List ℕ) (List ℕ) (List ℕ) (List ℕ) (List ℕ) in_form in_part in_init in_spec in_statement_form in_decl in_declared in_param in_type_name in_expr in_init_part in_enumerator in_field_decl in_field_name in_stmt Open.AssertFail

pub numbers_unary : (op : UnaryOp) (arg : Expr) → form_numbers (Unary op arg) ≡ expr_numbers arg
numbers_unary op arg = ap form_numbers (sym (rolls-Unary op arg)) ∙ fold-roll-ExprForm (List ℕ) (List ℕ) (List ℕ) (List ℕ) (List ℕ) (List ℕ) (List ℕ) (List ℕ) (List ℕ) (List ℕ) (List ℕ) (List ℕ) (List ℕ) (List ℕ) (List ℕ) in_form in_part in_init in_spec in_statement_form in_decl in_declared in_param in_type_name in_expr in_init_part in_enumerator in_field_decl in_field_name in_stmt (Open.Unary op arg)

pub numbers_binary : (op : BinaryOp) (left : Expr) (right : Expr) → form_numbers (Binary op left right) ≡ expr_numbers left ++ expr_numbers right
numbers_binary op left right = ap form_numbers (sym (rolls-Binary op left right)) ∙ fold-roll-ExprForm (List ℕ) (List ℕ) (List ℕ) (List ℕ) (List ℕ) (List ℕ) (List ℕ) (List ℕ) (List ℕ) (List ℕ) (List ℕ) (List ℕ) (List ℕ) (List ℕ) (List ℕ) in_form in_part in_init in_spec in_statement_form in_decl in_declared in_param in_type_name in_expr in_init_part in_enumerator in_field_decl in_field_name in_stmt (Open.Binary op left right)

pub numbers_assign : (op : Option BinaryOp) (left : Expr) (right : Expr) → form_numbers (Assign op left right) ≡ expr_numbers left ++ expr_numbers right
numbers_assign op left right = ap form_numbers (sym (rolls-Assign op left right)) ∙ fold-roll-ExprForm (List ℕ) (List ℕ) (List ℕ) (List ℕ) (List ℕ) (List ℕ) (List ℕ) (List ℕ) (List ℕ) (List ℕ) (List ℕ) (List ℕ) (List ℕ) (List ℕ) (List ℕ) in_form in_part in_init in_spec in_statement_form in_decl in_declared in_param in_type_name in_expr in_init_part in_enumerator in_field_decl in_field_name in_stmt (Open.Assign op left right)

pub numbers_count : (up : Bool) (after : Bool) (arg : Expr) → form_numbers (Count up after arg) ≡ expr_numbers arg
numbers_count up after arg = ap form_numbers (sym (rolls-Count up after arg)) ∙ fold-roll-ExprForm (List ℕ) (List ℕ) (List ℕ) (List ℕ) (List ℕ) (List ℕ) (List ℕ) (List ℕ) (List ℕ) (List ℕ) (List ℕ) (List ℕ) (List ℕ) (List ℕ) (List ℕ) in_form in_part in_init in_spec in_statement_form in_decl in_declared in_param in_type_name in_expr in_init_part in_enumerator in_field_decl in_field_name in_stmt (Open.Count up after arg)

pub numbers_choose : (test : Expr) (one : Expr) (other : Expr) → form_numbers (Choose test one other) ≡ expr_numbers test ++ (expr_numbers one ++ expr_numbers other)
numbers_choose test one other = ap form_numbers (sym (rolls-Choose test one other)) ∙ fold-roll-ExprForm (List ℕ) (List ℕ) (List ℕ) (List ℕ) (List ℕ) (List ℕ) (List ℕ) (List ℕ) (List ℕ) (List ℕ) (List ℕ) (List ℕ) (List ℕ) (List ℕ) (List ℕ) in_form in_part in_init in_spec in_statement_form in_decl in_declared in_param in_type_name in_expr in_init_part in_enumerator in_field_decl in_field_name in_stmt (Open.Choose test one other)

pub numbers_cast : (to : TypeName) (arg : Expr) → form_numbers (Cast to arg) ≡ type_name_numbers to ++ expr_numbers arg
numbers_cast to arg = ap form_numbers (sym (rolls-Cast to arg)) ∙ fold-roll-ExprForm (List ℕ) (List ℕ) (List ℕ) (List ℕ) (List ℕ) (List ℕ) (List ℕ) (List ℕ) (List ℕ) (List ℕ) (List ℕ) (List ℕ) (List ℕ) (List ℕ) (List ℕ) in_form in_part in_init in_spec in_statement_form in_decl in_declared in_param in_type_name in_expr in_init_part in_enumerator in_field_decl in_field_name in_stmt (Open.Cast to arg)

pub numbers_size_of : (arg : Expr) → form_numbers (SizeOf arg) ≡ expr_numbers arg
numbers_size_of arg = ap form_numbers (sym (rolls-SizeOf arg)) ∙ fold-roll-ExprForm (List ℕ) (List ℕ) (List ℕ) (List ℕ) (List ℕ) (List ℕ) (List ℕ) (List ℕ) (List ℕ) (List ℕ) (List ℕ) (List ℕ) (List ℕ) (List ℕ) (List ℕ) in_form in_part in_init in_spec in_statement_form in_decl in_declared in_param in_type_name in_expr in_init_part in_enumerator in_field_decl in_field_name in_stmt (Open.SizeOf arg)

pub numbers_size_of_type : (to : TypeName) → form_numbers (SizeOfType to) ≡ type_name_numbers to
numbers_size_of_type to = ap form_numbers (sym (rolls-SizeOfType to)) ∙ fold-roll-ExprForm (List ℕ) (List ℕ) (List ℕ) (List ℕ) (List ℕ) (List ℕ) (List ℕ) (List ℕ) (List ℕ) (List ℕ) (List ℕ) (List ℕ) (List ℕ) (List ℕ) (List ℕ) in_form in_part in_init in_spec in_statement_form in_decl in_declared in_param in_type_name in_expr in_init_part in_enumerator in_field_decl in_field_name in_stmt (Open.SizeOfType to)

pub numbers_offset_of : (to : TypeName) (path : List Part) → form_numbers (OffsetOf to path) ≡ type_name_numbers to ++ concat (map part_numbers path)
numbers_offset_of to path = ap form_numbers (sym (rolls-OffsetOf to path)) ∙ fold-roll-ExprForm (List ℕ) (List ℕ) (List ℕ) (List ℕ) (List ℕ) (List ℕ) (List ℕ) (List ℕ) (List ℕ) (List ℕ) (List ℕ) (List ℕ) (List ℕ) (List ℕ) (List ℕ) in_form in_part in_init in_spec in_statement_form in_decl in_declared in_param in_type_name in_expr in_init_part in_enumerator in_field_decl in_field_name in_stmt (Open.OffsetOf to path)

pub numbers_index : (base : Expr) (index : Expr) → form_numbers (Index base index) ≡ expr_numbers base ++ expr_numbers index
numbers_index base index = ap form_numbers (sym (rolls-Index base index)) ∙ fold-roll-ExprForm (List ℕ) (List ℕ) (List ℕ) (List ℕ) (List ℕ) (List ℕ) (List ℕ) (List ℕ) (List ℕ) (List ℕ) (List ℕ) (List ℕ) (List ℕ) (List ℕ) (List ℕ) in_form in_part in_init in_spec in_statement_form in_decl in_declared in_param in_type_name in_expr in_init_part in_enumerator in_field_decl in_field_name in_stmt (Open.Index base index)

pub numbers_member : (base : Expr) (name : Identifier) (through : Bool) → form_numbers (Member base name through) ≡ expr_numbers base
numbers_member base name through = ap form_numbers (sym (rolls-Member base name through)) ∙ fold-roll-ExprForm (List ℕ) (List ℕ) (List ℕ) (List ℕ) (List ℕ) (List ℕ) (List ℕ) (List ℕ) (List ℕ) (List ℕ) (List ℕ) (List ℕ) (List ℕ) (List ℕ) (List ℕ) in_form in_part in_init in_spec in_statement_form in_decl in_declared in_param in_type_name in_expr in_init_part in_enumerator in_field_decl in_field_name in_stmt (Open.ExprForm::Member base name through)

pub numbers_call : (callee : Expr) (args : List Expr) → form_numbers (Call callee args) ≡ expr_numbers callee ++ concat (map expr_numbers args)
numbers_call callee args = ap form_numbers (sym (rolls-Call callee args)) ∙ fold-roll-ExprForm (List ℕ) (List ℕ) (List ℕ) (List ℕ) (List ℕ) (List ℕ) (List ℕ) (List ℕ) (List ℕ) (List ℕ) (List ℕ) (List ℕ) (List ℕ) (List ℕ) (List ℕ) in_form in_part in_init in_spec in_statement_form in_decl in_declared in_param in_type_name in_expr in_init_part in_enumerator in_field_decl in_field_name in_stmt (Open.Call callee args)

pub numbers_inner : (body : List Stmt) (close : Place) → form_numbers (Inner body close) ≡ concat (map stmt_numbers body)
numbers_inner body close = ap form_numbers (sym (rolls-Inner body close)) ∙ fold-roll-ExprForm (List ℕ) (List ℕ) (List ℕ) (List ℕ) (List ℕ) (List ℕ) (List ℕ) (List ℕ) (List ℕ) (List ℕ) (List ℕ) (List ℕ) (List ℕ) (List ℕ) (List ℕ) in_form in_part in_init in_spec in_statement_form in_decl in_declared in_param in_type_name in_expr in_init_part in_enumerator in_field_decl in_field_name in_stmt (Open.Inner body close)

-- steps to a member
pub numbers_named_part : (name : Identifier) → part_numbers (NamedPart name) ≡ []
numbers_named_part name = ap part_numbers (sym (rolls-Part name)) ∙ fold-roll-Part (List ℕ) (List ℕ) (List ℕ) (List ℕ) (List ℕ) (List ℕ) (List ℕ) (List ℕ) (List ℕ) (List ℕ) (List ℕ) (List ℕ) (List ℕ) (List ℕ) (List ℕ) in_form in_part in_init in_spec in_statement_form in_decl in_declared in_param in_type_name in_expr in_init_part in_enumerator in_field_decl in_field_name in_stmt (Open.Part::Member name)

pub numbers_at : (index : Expr) → part_numbers (At index) ≡ expr_numbers index
numbers_at index = ap part_numbers (sym (rolls-At index)) ∙ fold-roll-Part (List ℕ) (List ℕ) (List ℕ) (List ℕ) (List ℕ) (List ℕ) (List ℕ) (List ℕ) (List ℕ) (List ℕ) (List ℕ) (List ℕ) (List ℕ) (List ℕ) (List ℕ) in_form in_part in_init in_spec in_statement_form in_decl in_declared in_param in_type_name in_expr in_init_part in_enumerator in_field_decl in_field_name in_stmt (Open.At index)

-- initialisers
pub numbers_value : (value : Expr) (after : Place) → init_numbers (Value value after) ≡ expr_numbers value
numbers_value value after = ap init_numbers (sym (rolls-Value value after)) ∙ fold-roll-Init (List ℕ) (List ℕ) (List ℕ) (List ℕ) (List ℕ) (List ℕ) (List ℕ) (List ℕ) (List ℕ) (List ℕ) (List ℕ) (List ℕ) (List ℕ) (List ℕ) (List ℕ) in_form in_part in_init in_spec in_statement_form in_decl in_declared in_param in_type_name in_expr in_init_part in_enumerator in_field_decl in_field_name in_stmt (Open.Value value after)

pub numbers_braces : (parts : List InitPart) → init_numbers (Braces parts) ≡ concat (map init_part_numbers parts)
numbers_braces parts = ap init_numbers (sym (rolls-Braces parts)) ∙ fold-roll-Init (List ℕ) (List ℕ) (List ℕ) (List ℕ) (List ℕ) (List ℕ) (List ℕ) (List ℕ) (List ℕ) (List ℕ) (List ℕ) (List ℕ) (List ℕ) (List ℕ) (List ℕ) in_form in_part in_init in_spec in_statement_form in_decl in_declared in_param in_type_name in_expr in_init_part in_enumerator in_field_decl in_field_name in_stmt (Open.Braces parts)

pub numbers_initializer : (member : Option Identifier) (init : Init) → init_part_numbers (initializer member init) ≡ init_numbers init
numbers_initializer member init = fold_out-InitPart (List ℕ) (List ℕ) (List ℕ) (List ℕ) (List ℕ) (List ℕ) (List ℕ) (List ℕ) (List ℕ) (List ℕ) (List ℕ) (List ℕ) (List ℕ) (List ℕ) (List ℕ) in_form in_part in_init in_spec in_statement_form in_decl in_declared in_param in_type_name in_expr in_init_part in_enumerator in_field_decl in_field_name in_stmt (initializer member init)

-- the words of a type
pub numbers_basic : (basic : BasicType) → spec_numbers (Basic basic) ≡ []
numbers_basic basic = ap spec_numbers (sym (rolls-Basic basic)) ∙ fold-roll-TypeSpec (List ℕ) (List ℕ) (List ℕ) (List ℕ) (List ℕ) (List ℕ) (List ℕ) (List ℕ) (List ℕ) (List ℕ) (List ℕ) (List ℕ) (List ℕ) (List ℕ) (List ℕ) in_form in_part in_init in_spec in_statement_form in_decl in_declared in_param in_type_name in_expr in_init_part in_enumerator in_field_decl in_field_name in_stmt (Open.Basic basic)

pub numbers_named : (name : List ℕ) → spec_numbers (Named name) ≡ []
numbers_named name = ap spec_numbers (sym (rolls-Named name)) ∙ fold-roll-TypeSpec (List ℕ) (List ℕ) (List ℕ) (List ℕ) (List ℕ) (List ℕ) (List ℕ) (List ℕ) (List ℕ) (List ℕ) (List ℕ) (List ℕ) (List ℕ) (List ℕ) (List ℕ) in_form in_part in_init in_spec in_statement_form in_decl in_declared in_param in_type_name in_expr in_init_part in_enumerator in_field_decl in_field_name in_stmt (Open.Named name)

pub numbers_struct_by_tag : (name : Option Identifier) → spec_numbers (Struct name None) ≡ []
numbers_struct_by_tag name = ap spec_numbers (sym (rolls-Struct name None)) ∙ fold-roll-TypeSpec (List ℕ) (List ℕ) (List ℕ) (List ℕ) (List ℕ) (List ℕ) (List ℕ) (List ℕ) (List ℕ) (List ℕ) (List ℕ) (List ℕ) (List ℕ) (List ℕ) (List ℕ) in_form in_part in_init in_spec in_statement_form in_decl in_declared in_param in_type_name in_expr in_init_part in_enumerator in_field_decl in_field_name in_stmt (Open.Struct name None)

pub numbers_struct : (name : Option Identifier) (fields : List FieldDecl) → spec_numbers (Struct name (Some fields)) ≡ concat (map field_decl_numbers fields)
numbers_struct name fields = ap spec_numbers (sym (rolls-Struct name (Some fields))) ∙ fold-roll-TypeSpec (List ℕ) (List ℕ) (List ℕ) (List ℕ) (List ℕ) (List ℕ) (List ℕ) (List ℕ) (List ℕ) (List ℕ) (List ℕ) (List ℕ) (List ℕ) (List ℕ) (List ℕ) in_form in_part in_init in_spec in_statement_form in_decl in_declared in_param in_type_name in_expr in_init_part in_enumerator in_field_decl in_field_name in_stmt (Open.Struct name (Some fields))

pub numbers_enum_by_tag : (name : Option Identifier) → spec_numbers (Enum name None) ≡ []
numbers_enum_by_tag name = ap spec_numbers (sym (rolls-Enum name None)) ∙ fold-roll-TypeSpec (List ℕ) (List ℕ) (List ℕ) (List ℕ) (List ℕ) (List ℕ) (List ℕ) (List ℕ) (List ℕ) (List ℕ) (List ℕ) (List ℕ) (List ℕ) (List ℕ) (List ℕ) in_form in_part in_init in_spec in_statement_form in_decl in_declared in_param in_type_name in_expr in_init_part in_enumerator in_field_decl in_field_name in_stmt (Open.Enum name None)

pub numbers_enum : (name : Option Identifier) (values : List Enumerator) → spec_numbers (Enum name (Some values)) ≡ concat (map enumerator_numbers values)
numbers_enum name values = ap spec_numbers (sym (rolls-Enum name (Some values))) ∙ fold-roll-TypeSpec (List ℕ) (List ℕ) (List ℕ) (List ℕ) (List ℕ) (List ℕ) (List ℕ) (List ℕ) (List ℕ) (List ℕ) (List ℕ) (List ℕ) (List ℕ) (List ℕ) (List ℕ) in_form in_part in_init in_spec in_statement_form in_decl in_declared in_param in_type_name in_expr in_init_part in_enumerator in_field_decl in_field_name in_stmt (Open.Enum name (Some values))

pub numbers_of_expr : (expr : Expr) → spec_numbers (OfExpr expr) ≡ expr_numbers expr
numbers_of_expr expr = ap spec_numbers (sym (rolls-OfExpr expr)) ∙ fold-roll-TypeSpec (List ℕ) (List ℕ) (List ℕ) (List ℕ) (List ℕ) (List ℕ) (List ℕ) (List ℕ) (List ℕ) (List ℕ) (List ℕ) (List ℕ) (List ℕ) (List ℕ) (List ℕ) in_form in_part in_init in_spec in_statement_form in_decl in_declared in_param in_type_name in_expr in_init_part in_enumerator in_field_decl in_field_name in_stmt (Open.OfExpr expr)

pub numbers_of_type : (name : TypeName) → spec_numbers (OfType name) ≡ type_name_numbers name
numbers_of_type name = ap spec_numbers (sym (rolls-OfType name)) ∙ fold-roll-TypeSpec (List ℕ) (List ℕ) (List ℕ) (List ℕ) (List ℕ) (List ℕ) (List ℕ) (List ℕ) (List ℕ) (List ℕ) (List ℕ) (List ℕ) (List ℕ) (List ℕ) (List ℕ) in_form in_part in_init in_spec in_statement_form in_decl in_declared in_param in_type_name in_expr in_init_part in_enumerator in_field_decl in_field_name in_stmt (Open.OfType name)

-- names with array sizes
pub numbers_type_name : (type : TypeSpec) (stars : ℕ) (sizes : List (Option Expr)) → type_name_numbers (type_name type stars sizes) ≡ spec_numbers type ++ concat (map maybe_numbers sizes)
numbers_type_name type stars sizes = fold-roll-TypeName (List ℕ) (List ℕ) (List ℕ) (List ℕ) (List ℕ) (List ℕ) (List ℕ) (List ℕ) (List ℕ) (List ℕ) (List ℕ) (List ℕ) (List ℕ) (List ℕ) (List ℕ) in_form in_part in_init in_spec in_statement_form in_decl in_declared in_param in_type_name in_expr in_init_part in_enumerator in_field_decl in_field_name in_stmt (record { spec = type; stars = stars; sizes = sizes }) ∙ ap (λ (ns : List (List ℕ)). spec_numbers type ++ concat ns) (map_options or_none _ maybe_numbers refl (λ e. refl) sizes)

pub numbers_parameter : (type : TypeSpec) (stars : ℕ) (name : Option Identifier) (sizes : List (Option Expr)) → param_numbers (parameter type stars name sizes) ≡ spec_numbers type ++ concat (map maybe_numbers sizes)
numbers_parameter type stars name sizes = fold-roll-Param (List ℕ) (List ℕ) (List ℕ) (List ℕ) (List ℕ) (List ℕ) (List ℕ) (List ℕ) (List ℕ) (List ℕ) (List ℕ) (List ℕ) (List ℕ) (List ℕ) (List ℕ) in_form in_part in_init in_spec in_statement_form in_decl in_declared in_param in_type_name in_expr in_init_part in_enumerator in_field_decl in_field_name in_stmt (record { spec = type; stars = stars; name = name; sizes = sizes }) ∙ ap (λ (ns : List (List ℕ)). spec_numbers type ++ concat ns) (map_options or_none _ maybe_numbers refl (λ e. refl) sizes)

pub numbers_fields : (type : TypeSpec) (names : List FieldName) → field_decl_numbers (fields type names) ≡ spec_numbers type ++ concat (map field_name_numbers names)
numbers_fields type names = fold-roll-FieldDecl (List ℕ) (List ℕ) (List ℕ) (List ℕ) (List ℕ) (List ℕ) (List ℕ) (List ℕ) (List ℕ) (List ℕ) (List ℕ) (List ℕ) (List ℕ) (List ℕ) (List ℕ) in_form in_part in_init in_spec in_statement_form in_decl in_declared in_param in_type_name in_expr in_init_part in_enumerator in_field_decl in_field_name in_stmt (record { spec = type; names = names })

pub numbers_field : (place : Place) (name : Option (List ℕ)) (stars : ℕ) (sizes : List (Option Expr)) → field_name_numbers (field place name stars sizes None) ≡ concat (map maybe_numbers sizes) ++ []
numbers_field place name stars sizes = fold-roll-FieldName (List ℕ) (List ℕ) (List ℕ) (List ℕ) (List ℕ) (List ℕ) (List ℕ) (List ℕ) (List ℕ) (List ℕ) (List ℕ) (List ℕ) (List ℕ) (List ℕ) (List ℕ) in_form in_part in_init in_spec in_statement_form in_decl in_declared in_param in_type_name in_expr in_init_part in_enumerator in_field_decl in_field_name in_stmt (record { place = place; name = name; stars = stars; sizes = sizes; bits = None }) ∙ ap (λ (ns : List (List ℕ)). concat ns ++ []) (map_options or_none _ maybe_numbers refl (λ e. refl) sizes)

pub numbers_bits : (place : Place) (name : Option (List ℕ)) (stars : ℕ) (sizes : List (Option Expr)) (bits : Expr) → field_name_numbers (field place name stars sizes (Some bits)) ≡ concat (map maybe_numbers sizes) ++ expr_numbers bits
numbers_bits place name stars sizes bits = fold-roll-FieldName (List ℕ) (List ℕ) (List ℕ) (List ℕ) (List ℕ) (List ℕ) (List ℕ) (List ℕ) (List ℕ) (List ℕ) (List ℕ) (List ℕ) (List ℕ) (List ℕ) (List ℕ) in_form in_part in_init in_spec in_statement_form in_decl in_declared in_param in_type_name in_expr in_init_part in_enumerator in_field_decl in_field_name in_stmt (record { place = place; name = name; stars = stars; sizes = sizes; bits = Some bits }) ∙ ap (λ (ns : List (List ℕ)). concat ns ++ expr_numbers bits) (map_options or_none _ maybe_numbers refl (λ e. refl) sizes)

pub numbers_enumerator : (token : Terminal) → enumerator_numbers (enumerator token None) ≡ []
numbers_enumerator token = fold-roll-Enumerator (List ℕ) (List ℕ) (List ℕ) (List ℕ) (List ℕ) (List ℕ) (List ℕ) (List ℕ) (List ℕ) (List ℕ) (List ℕ) (List ℕ) (List ℕ) (List ℕ) (List ℕ) in_form in_part in_init in_spec in_statement_form in_decl in_declared in_param in_type_name in_expr in_init_part in_enumerator in_field_decl in_field_name in_stmt (record { place = token.place; name = token.bytes; value = None })

pub numbers_valued_enumerator : (token : Terminal) (value : Expr) → enumerator_numbers (enumerator token (Some value)) ≡ expr_numbers value
numbers_valued_enumerator token value = fold-roll-Enumerator (List ℕ) (List ℕ) (List ℕ) (List ℕ) (List ℕ) (List ℕ) (List ℕ) (List ℕ) (List ℕ) (List ℕ) (List ℕ) (List ℕ) (List ℕ) (List ℕ) (List ℕ) in_form in_part in_init in_spec in_statement_form in_decl in_declared in_param in_type_name in_expr in_init_part in_enumerator in_field_decl in_field_name in_stmt (record { place = token.place; name = token.bytes; value = Some value })

-- declarations
pub numbers_declaration : (storage : Storage) (type : TypeSpec) (names : List Declared) → decl_numbers (declaration storage type names) ≡ spec_numbers type ++ concat (map declared_numbers names)
numbers_declaration storage type names = fold-roll-Decl (List ℕ) (List ℕ) (List ℕ) (List ℕ) (List ℕ) (List ℕ) (List ℕ) (List ℕ) (List ℕ) (List ℕ) (List ℕ) (List ℕ) (List ℕ) (List ℕ) (List ℕ) in_form in_part in_init in_spec in_statement_form in_decl in_declared in_param in_type_name in_expr in_init_part in_enumerator in_field_decl in_field_name in_stmt (record { storage = storage; spec = type; names = names })

pub numbers_object : (token : Terminal) (stars : ℕ) (sizes : List (Option Expr)) → declared_numbers (object token stars sizes None) ≡ concat (map maybe_numbers sizes) ++ []
numbers_object token stars sizes = fold-roll-Declared (List ℕ) (List ℕ) (List ℕ) (List ℕ) (List ℕ) (List ℕ) (List ℕ) (List ℕ) (List ℕ) (List ℕ) (List ℕ) (List ℕ) (List ℕ) (List ℕ) (List ℕ) in_form in_part in_init in_spec in_statement_form in_decl in_declared in_param in_type_name in_expr in_init_part in_enumerator in_field_decl in_field_name in_stmt (record { place = token.place; name = token.bytes; stars = stars; sizes = sizes; params = None; init = None }) ∙ ap (λ (ns : List (List ℕ)). concat ns ++ []) (map_options or_none _ maybe_numbers refl (λ e. refl) sizes)

pub numbers_initialized : (token : Terminal) (stars : ℕ) (sizes : List (Option Expr)) (init : Init) → declared_numbers (object token stars sizes (Some init)) ≡ concat (map maybe_numbers sizes) ++ init_numbers init
numbers_initialized token stars sizes init = fold-roll-Declared (List ℕ) (List ℕ) (List ℕ) (List ℕ) (List ℕ) (List ℕ) (List ℕ) (List ℕ) (List ℕ) (List ℕ) (List ℕ) (List ℕ) (List ℕ) (List ℕ) (List ℕ) in_form in_part in_init in_spec in_statement_form in_decl in_declared in_param in_type_name in_expr in_init_part in_enumerator in_field_decl in_field_name in_stmt (record { place = token.place; name = token.bytes; stars = stars; sizes = sizes; params = None; init = Some init }) ∙ ap (λ (ns : List (List ℕ)). concat ns ++ init_numbers init) (map_options or_none _ maybe_numbers refl (λ e. refl) sizes)

pub numbers_function : (token : Terminal) (stars : ℕ) (params : List Param) → declared_numbers (function token stars params) ≡ concat (map param_numbers params) ++ []
numbers_function token stars params = fold-roll-Declared (List ℕ) (List ℕ) (List ℕ) (List ℕ) (List ℕ) (List ℕ) (List ℕ) (List ℕ) (List ℕ) (List ℕ) (List ℕ) (List ℕ) (List ℕ) (List ℕ) (List ℕ) in_form in_part in_init in_spec in_statement_form in_decl in_declared in_param in_type_name in_expr in_init_part in_enumerator in_field_decl in_field_name in_stmt (record { place = token.place; name = token.bytes; stars = stars; sizes = []; params = Some params; init = None })

-- statements
pub numbers_declare : (decl : Decl) → statement_form_numbers (Declare decl) ≡ decl_numbers decl
numbers_declare decl = ap statement_form_numbers (sym (rolls-Declare decl)) ∙ fold-roll-StmtForm (List ℕ) (List ℕ) (List ℕ) (List ℕ) (List ℕ) (List ℕ) (List ℕ) (List ℕ) (List ℕ) (List ℕ) (List ℕ) (List ℕ) (List ℕ) (List ℕ) (List ℕ) in_form in_part in_init in_spec in_statement_form in_decl in_declared in_param in_type_name in_expr in_init_part in_enumerator in_field_decl in_field_name in_stmt (Open.Declare decl)

pub numbers_eval : (expr : Option Expr) → statement_form_numbers (Eval expr) ≡ maybe_numbers expr
numbers_eval expr = ap statement_form_numbers (sym (rolls-Eval expr)) ∙ fold-roll-StmtForm (List ℕ) (List ℕ) (List ℕ) (List ℕ) (List ℕ) (List ℕ) (List ℕ) (List ℕ) (List ℕ) (List ℕ) (List ℕ) (List ℕ) (List ℕ) (List ℕ) (List ℕ) in_form in_part in_init in_spec in_statement_form in_decl in_declared in_param in_type_name in_expr in_init_part in_enumerator in_field_decl in_field_name in_stmt (Open.Eval expr) ∙ (option_cases or_none (former-StmtForm-Eval-0.map Expr (List ℕ) expr_numbers) maybe_numbers refl (λ e. refl) expr)

pub numbers_block : (body : List Stmt) → statement_form_numbers (Block body) ≡ concat (map stmt_numbers body)
numbers_block body = ap statement_form_numbers (sym (rolls-Block body)) ∙ fold-roll-StmtForm (List ℕ) (List ℕ) (List ℕ) (List ℕ) (List ℕ) (List ℕ) (List ℕ) (List ℕ) (List ℕ) (List ℕ) (List ℕ) (List ℕ) (List ℕ) (List ℕ) (List ℕ) in_form in_part in_init in_spec in_statement_form in_decl in_declared in_param in_type_name in_expr in_init_part in_enumerator in_field_decl in_field_name in_stmt (Open.Block body)

pub numbers_if : (test : Expr) (close : Place) (one : Stmt) → statement_form_numbers (If test close one None) ≡ expr_numbers test ++ (stmt_numbers one ++ [])
numbers_if test close one = ap statement_form_numbers (sym (rolls-If test close one None)) ∙ fold-roll-StmtForm (List ℕ) (List ℕ) (List ℕ) (List ℕ) (List ℕ) (List ℕ) (List ℕ) (List ℕ) (List ℕ) (List ℕ) (List ℕ) (List ℕ) (List ℕ) (List ℕ) (List ℕ) in_form in_part in_init in_spec in_statement_form in_decl in_declared in_param in_type_name in_expr in_init_part in_enumerator in_field_decl in_field_name in_stmt (Open.If test close one None)

pub numbers_if_else : (test : Expr) (close : Place) (one : Stmt) (other : Stmt) → statement_form_numbers (If test close one (Some other)) ≡ expr_numbers test ++ (stmt_numbers one ++ stmt_numbers other)
numbers_if_else test close one other = ap statement_form_numbers (sym (rolls-If test close one (Some other))) ∙ fold-roll-StmtForm (List ℕ) (List ℕ) (List ℕ) (List ℕ) (List ℕ) (List ℕ) (List ℕ) (List ℕ) (List ℕ) (List ℕ) (List ℕ) (List ℕ) (List ℕ) (List ℕ) (List ℕ) in_form in_part in_init in_spec in_statement_form in_decl in_declared in_param in_type_name in_expr in_init_part in_enumerator in_field_decl in_field_name in_stmt (Open.If test close one (Some other))

pub numbers_while : (test : Expr) (close : Place) (body : Stmt) → statement_form_numbers (While test close body) ≡ expr_numbers test ++ stmt_numbers body
numbers_while test close body = ap statement_form_numbers (sym (rolls-While test close body)) ∙ fold-roll-StmtForm (List ℕ) (List ℕ) (List ℕ) (List ℕ) (List ℕ) (List ℕ) (List ℕ) (List ℕ) (List ℕ) (List ℕ) (List ℕ) (List ℕ) (List ℕ) (List ℕ) (List ℕ) in_form in_part in_init in_spec in_statement_form in_decl in_declared in_param in_type_name in_expr in_init_part in_enumerator in_field_decl in_field_name in_stmt (Open.While test close body)

pub numbers_do : (body : Stmt) (test : Expr) (close : Place) → statement_form_numbers (Do body test close) ≡ stmt_numbers body ++ expr_numbers test
numbers_do body test close = ap statement_form_numbers (sym (rolls-Do body test close)) ∙ fold-roll-StmtForm (List ℕ) (List ℕ) (List ℕ) (List ℕ) (List ℕ) (List ℕ) (List ℕ) (List ℕ) (List ℕ) (List ℕ) (List ℕ) (List ℕ) (List ℕ) (List ℕ) (List ℕ) in_form in_part in_init in_spec in_statement_form in_decl in_declared in_param in_type_name in_expr in_init_part in_enumerator in_field_decl in_field_name in_stmt (Open.Do body test close)

pub numbers_for : (first : Stmt) (test : Option Expr) (semicolon : Place) (next : Option Expr) (close : Place) (body : Stmt) → statement_form_numbers (For first test semicolon next close body) ≡ stmt_numbers first ++ (maybe_numbers test ++ (maybe_numbers next ++ stmt_numbers body))
numbers_for first test semicolon next close body = ap statement_form_numbers (sym (rolls-For first test semicolon next close body)) ∙ fold-roll-StmtForm (List ℕ) (List ℕ) (List ℕ) (List ℕ) (List ℕ) (List ℕ) (List ℕ) (List ℕ) (List ℕ) (List ℕ) (List ℕ) (List ℕ) (List ℕ) (List ℕ) (List ℕ) in_form in_part in_init in_spec in_statement_form in_decl in_declared in_param in_type_name in_expr in_init_part in_enumerator in_field_decl in_field_name in_stmt (Open.For first test semicolon next close body) ∙ both (λ (ms ns : List ℕ). stmt_numbers first ++ (ms ++ (ns ++ stmt_numbers body))) _ _ _ _ (option_cases or_none (former-StmtForm-Eval-0.map Expr (List ℕ) expr_numbers) maybe_numbers refl (λ e. refl) test) (option_cases or_none (former-StmtForm-Eval-0.map Expr (List ℕ) expr_numbers) maybe_numbers refl (λ e. refl) next)

pub numbers_break : statement_form_numbers Break ≡ []
numbers_break = ap statement_form_numbers (sym rolls-Break) ∙ fold-roll-StmtForm (List ℕ) (List ℕ) (List ℕ) (List ℕ) (List ℕ) (List ℕ) (List ℕ) (List ℕ) (List ℕ) (List ℕ) (List ℕ) (List ℕ) (List ℕ) (List ℕ) (List ℕ) in_form in_part in_init in_spec in_statement_form in_decl in_declared in_param in_type_name in_expr in_init_part in_enumerator in_field_decl in_field_name in_stmt Open.Break

pub numbers_continue : statement_form_numbers Continue ≡ []
numbers_continue = ap statement_form_numbers (sym rolls-Continue) ∙ fold-roll-StmtForm (List ℕ) (List ℕ) (List ℕ) (List ℕ) (List ℕ) (List ℕ) (List ℕ) (List ℕ) (List ℕ) (List ℕ) (List ℕ) (List ℕ) (List ℕ) (List ℕ) (List ℕ) in_form in_part in_init in_spec in_statement_form in_decl in_declared in_param in_type_name in_expr in_init_part in_enumerator in_field_decl in_field_name in_stmt Open.Continue

pub numbers_return : (value : Option Expr) → statement_form_numbers (Return value) ≡ maybe_numbers value
numbers_return value = ap statement_form_numbers (sym (rolls-Return value)) ∙ fold-roll-StmtForm (List ℕ) (List ℕ) (List ℕ) (List ℕ) (List ℕ) (List ℕ) (List ℕ) (List ℕ) (List ℕ) (List ℕ) (List ℕ) (List ℕ) (List ℕ) (List ℕ) (List ℕ) in_form in_part in_init in_spec in_statement_form in_decl in_declared in_param in_type_name in_expr in_init_part in_enumerator in_field_decl in_field_name in_stmt (Open.Return value) ∙ (option_cases or_none (former-StmtForm-Eval-0.map Expr (List ℕ) expr_numbers) maybe_numbers refl (λ e. refl) value)
