-- The numbers of the expressions in a tree of C, in the order in which they stand in the text: the number of an expression stands
-- behind those of its parts.
use Rattle.std.specs.Prelude.{◌≡◌, ℕ, ◌+◌, List, [], ◌∷◌, ◌++◌, length, map, Option, Some, None, option_map}
use Rattle.std.specs.List.{concat, range_with_len}
use Rattle.cbase.specs.declared.tree.expr.ExprForm.TheOpen.{ExprForm-F, Part-F, Init-F, TypeSpec-F, StmtForm-F, Decl-F, Declared-F, Param-F, TypeName-F, Expr-F, InitPart-F, FieldDecl-F, FieldName-F, Enumerator-F, Stmt-F}
use Rattle.cbase.specs.declared.tree.expr.ExprForm.TheOpen.{Name, Constant, Unary, Binary, Assign, Count, Choose, Cast, SizeOf, SizeOfType, OffsetOf, Index, ExprForm::Member, Call, Inner, AssertFail, Part::Member, At, Value, Braces, Basic, Named, Struct, Enum, OfExpr, OfType, Declare, Eval, Block, If, While, Do, For, Break, Continue, Return}
use Rattle.cbase.specs.declared.tree.expr.ExprForm.TheFolds.{fold-ExprForm, fold-Part, fold-Init, fold-TypeSpec, fold-StmtForm, fold-Decl, fold-Declared, fold-Param, fold-TypeName, fold-Expr, fold-InitPart, fold-FieldDecl, fold-FieldName, fold-Enumerator, fold-Stmt}
use Rattle.cbase.specs.declared.tree.expr.ExprForm.{ExprForm}
use Rattle.cbase.specs.declared.tree.expr.Part.{Part}
use Rattle.cbase.specs.declared.tree.init.Init.{Init}
use Rattle.cbase.specs.declared.tree.spec.TypeSpec.{TypeSpec}
use Rattle.cbase.specs.declared.tree.stmt.StmtForm.{StmtForm}
use Rattle.cbase.specs.declared.tree.decl.Decl.{Decl}
use Rattle.cbase.specs.declared.tree.decl.Declared.{Declared}
use Rattle.cbase.specs.declared.tree.decl.Param.{Param}
use Rattle.cbase.specs.declared.tree.decl.TypeName.{TypeName}
use Rattle.cbase.specs.declared.tree.expr.Expr.{Expr}
use Rattle.cbase.specs.declared.tree.init.InitPart.{InitPart}
use Rattle.cbase.specs.declared.tree.spec.FieldDecl.{FieldDecl}
use Rattle.cbase.specs.declared.tree.spec.FieldName.{FieldName}
use Rattle.cbase.specs.declared.tree.spec.Enumerator.{Enumerator}
use Rattle.cbase.specs.declared.tree.stmt.Stmt.{Stmt}
use Rattle.cbase.specs.declared.tree.item.Item.{Item}
use Rattle.cbase.specs.declared.tree.item.Item.TheVariants.{Empty, Declare as DeclareItem, Function}

-- the numbers are `first` and those behind it, each once and in order, and `end` is the next
pub record AreConsecutive (first : ℕ) (numbers : List ℕ) (end : ℕ) : Type 0 where
  pub one_by_one : numbers ≡ range_with_len first (length numbers)
  pub next : first + length numbers ≡ end

-- what may be left out has none where it is
abbrev pub or_none : Option (List ℕ) → List ℕ
or_none None = []
or_none (Some numbers) = numbers

-- a list that may be left out
abbrev pub list_or_none : Option (List (List ℕ)) → List ℕ
list_or_none None = []
list_or_none (Some numbers) = concat numbers

abbrev pub in_form : ExprForm-F (List ℕ) (List ℕ) (List ℕ) (List ℕ) (List ℕ) (List ℕ) (List ℕ) (List ℕ) (List ℕ) (List ℕ) (List ℕ) (List ℕ) (List ℕ) (List ℕ) (List ℕ) → List ℕ
in_form (Name name) = []
in_form (Constant spelling) = []
in_form (Unary op arg) = arg
in_form (Binary op left right) = left ++ right
in_form (Assign op left right) = left ++ right
in_form (Count up after arg) = arg
in_form (Choose test one other) = test ++ (one ++ other)
in_form (Cast to arg) = to ++ arg
in_form (SizeOf arg) = arg
in_form (SizeOfType to) = to
in_form (OffsetOf to path) = to ++ concat path
in_form (Index base index) = base ++ index
in_form (ExprForm::Member base name through) = base
in_form (Call callee args) = callee ++ concat args
in_form (Inner body close) = concat body
in_form AssertFail = []

abbrev pub in_part : Part-F (List ℕ) (List ℕ) (List ℕ) (List ℕ) (List ℕ) (List ℕ) (List ℕ) (List ℕ) (List ℕ) (List ℕ) (List ℕ) (List ℕ) (List ℕ) (List ℕ) (List ℕ) → List ℕ
in_part (Part::Member name) = []
in_part (At index) = index

abbrev pub in_init : Init-F (List ℕ) (List ℕ) (List ℕ) (List ℕ) (List ℕ) (List ℕ) (List ℕ) (List ℕ) (List ℕ) (List ℕ) (List ℕ) (List ℕ) (List ℕ) (List ℕ) (List ℕ) → List ℕ
in_init (Value value after) = value
in_init (Braces parts) = concat parts

abbrev pub in_spec : TypeSpec-F (List ℕ) (List ℕ) (List ℕ) (List ℕ) (List ℕ) (List ℕ) (List ℕ) (List ℕ) (List ℕ) (List ℕ) (List ℕ) (List ℕ) (List ℕ) (List ℕ) (List ℕ) → List ℕ
in_spec (Basic basic) = []
in_spec (Named name) = []
in_spec (Struct name fields) = list_or_none fields
in_spec (Enum name values) = list_or_none values
in_spec (OfExpr expr) = expr
in_spec (OfType name) = name

abbrev pub in_statement_form : StmtForm-F (List ℕ) (List ℕ) (List ℕ) (List ℕ) (List ℕ) (List ℕ) (List ℕ) (List ℕ) (List ℕ) (List ℕ) (List ℕ) (List ℕ) (List ℕ) (List ℕ) (List ℕ) → List ℕ
in_statement_form (Declare decl) = decl
in_statement_form (Eval expr) = or_none expr
in_statement_form (Block body) = concat body
in_statement_form (If test close one other) = test ++ (one ++ or_none other)
in_statement_form (While test close body) = test ++ body
in_statement_form (Do body test close) = body ++ test
in_statement_form (For first test semicolon next close body) = first ++ (or_none test ++ (or_none next ++ body))
in_statement_form Break = []
in_statement_form Continue = []
in_statement_form (Return value) = or_none value

abbrev pub in_decl : Decl-F (List ℕ) (List ℕ) (List ℕ) (List ℕ) (List ℕ) (List ℕ) (List ℕ) (List ℕ) (List ℕ) (List ℕ) (List ℕ) (List ℕ) (List ℕ) (List ℕ) (List ℕ) → List ℕ
in_decl decl = decl.spec ++ concat decl.names

abbrev pub in_declared : Declared-F (List ℕ) (List ℕ) (List ℕ) (List ℕ) (List ℕ) (List ℕ) (List ℕ) (List ℕ) (List ℕ) (List ℕ) (List ℕ) (List ℕ) (List ℕ) (List ℕ) (List ℕ) → List ℕ
in_declared declared = concat (map or_none declared.sizes) ++ (list_or_none declared.params ++ or_none declared.init)

abbrev pub in_param : Param-F (List ℕ) (List ℕ) (List ℕ) (List ℕ) (List ℕ) (List ℕ) (List ℕ) (List ℕ) (List ℕ) (List ℕ) (List ℕ) (List ℕ) (List ℕ) (List ℕ) (List ℕ) → List ℕ
in_param param = param.spec ++ concat (map or_none param.sizes)

abbrev pub in_type_name : TypeName-F (List ℕ) (List ℕ) (List ℕ) (List ℕ) (List ℕ) (List ℕ) (List ℕ) (List ℕ) (List ℕ) (List ℕ) (List ℕ) (List ℕ) (List ℕ) (List ℕ) (List ℕ) → List ℕ
in_type_name name = name.spec ++ concat (map or_none name.sizes)

abbrev pub in_expr : Expr-F (List ℕ) (List ℕ) (List ℕ) (List ℕ) (List ℕ) (List ℕ) (List ℕ) (List ℕ) (List ℕ) (List ℕ) (List ℕ) (List ℕ) (List ℕ) (List ℕ) (List ℕ) → List ℕ
in_expr expr = expr.form ++ (expr.number ∷ [])

abbrev pub in_init_part : InitPart-F (List ℕ) (List ℕ) (List ℕ) (List ℕ) (List ℕ) (List ℕ) (List ℕ) (List ℕ) (List ℕ) (List ℕ) (List ℕ) (List ℕ) (List ℕ) (List ℕ) (List ℕ) → List ℕ
in_init_part part = part.init

abbrev pub in_field_decl : FieldDecl-F (List ℕ) (List ℕ) (List ℕ) (List ℕ) (List ℕ) (List ℕ) (List ℕ) (List ℕ) (List ℕ) (List ℕ) (List ℕ) (List ℕ) (List ℕ) (List ℕ) (List ℕ) → List ℕ
in_field_decl decl = decl.spec ++ concat decl.names

abbrev pub in_field_name : FieldName-F (List ℕ) (List ℕ) (List ℕ) (List ℕ) (List ℕ) (List ℕ) (List ℕ) (List ℕ) (List ℕ) (List ℕ) (List ℕ) (List ℕ) (List ℕ) (List ℕ) (List ℕ) → List ℕ
in_field_name field = concat (map or_none field.sizes) ++ or_none field.bits

abbrev pub in_enumerator : Enumerator-F (List ℕ) (List ℕ) (List ℕ) (List ℕ) (List ℕ) (List ℕ) (List ℕ) (List ℕ) (List ℕ) (List ℕ) (List ℕ) (List ℕ) (List ℕ) (List ℕ) (List ℕ) → List ℕ
in_enumerator enumerator = or_none enumerator.value

abbrev pub in_stmt : Stmt-F (List ℕ) (List ℕ) (List ℕ) (List ℕ) (List ℕ) (List ℕ) (List ℕ) (List ℕ) (List ℕ) (List ℕ) (List ℕ) (List ℕ) (List ℕ) (List ℕ) (List ℕ) → List ℕ
in_stmt stmt = stmt.form

abbrev pub form_numbers : ExprForm → List ℕ
form_numbers = fold-ExprForm (List ℕ) (List ℕ) (List ℕ) (List ℕ) (List ℕ) (List ℕ) (List ℕ) (List ℕ) (List ℕ) (List ℕ) (List ℕ) (List ℕ) (List ℕ) (List ℕ) (List ℕ) in_form in_part in_init in_spec in_statement_form in_decl in_declared in_param in_type_name in_expr in_init_part in_enumerator in_field_decl in_field_name in_stmt

abbrev pub part_numbers : Part → List ℕ
part_numbers = fold-Part (List ℕ) (List ℕ) (List ℕ) (List ℕ) (List ℕ) (List ℕ) (List ℕ) (List ℕ) (List ℕ) (List ℕ) (List ℕ) (List ℕ) (List ℕ) (List ℕ) (List ℕ) in_form in_part in_init in_spec in_statement_form in_decl in_declared in_param in_type_name in_expr in_init_part in_enumerator in_field_decl in_field_name in_stmt

abbrev pub init_numbers : Init → List ℕ
init_numbers = fold-Init (List ℕ) (List ℕ) (List ℕ) (List ℕ) (List ℕ) (List ℕ) (List ℕ) (List ℕ) (List ℕ) (List ℕ) (List ℕ) (List ℕ) (List ℕ) (List ℕ) (List ℕ) in_form in_part in_init in_spec in_statement_form in_decl in_declared in_param in_type_name in_expr in_init_part in_enumerator in_field_decl in_field_name in_stmt

abbrev pub spec_numbers : TypeSpec → List ℕ
spec_numbers = fold-TypeSpec (List ℕ) (List ℕ) (List ℕ) (List ℕ) (List ℕ) (List ℕ) (List ℕ) (List ℕ) (List ℕ) (List ℕ) (List ℕ) (List ℕ) (List ℕ) (List ℕ) (List ℕ) in_form in_part in_init in_spec in_statement_form in_decl in_declared in_param in_type_name in_expr in_init_part in_enumerator in_field_decl in_field_name in_stmt

abbrev pub statement_form_numbers : StmtForm → List ℕ
statement_form_numbers = fold-StmtForm (List ℕ) (List ℕ) (List ℕ) (List ℕ) (List ℕ) (List ℕ) (List ℕ) (List ℕ) (List ℕ) (List ℕ) (List ℕ) (List ℕ) (List ℕ) (List ℕ) (List ℕ) in_form in_part in_init in_spec in_statement_form in_decl in_declared in_param in_type_name in_expr in_init_part in_enumerator in_field_decl in_field_name in_stmt

abbrev pub decl_numbers : Decl → List ℕ
decl_numbers = fold-Decl (List ℕ) (List ℕ) (List ℕ) (List ℕ) (List ℕ) (List ℕ) (List ℕ) (List ℕ) (List ℕ) (List ℕ) (List ℕ) (List ℕ) (List ℕ) (List ℕ) (List ℕ) in_form in_part in_init in_spec in_statement_form in_decl in_declared in_param in_type_name in_expr in_init_part in_enumerator in_field_decl in_field_name in_stmt

abbrev pub declared_numbers : Declared → List ℕ
declared_numbers = fold-Declared (List ℕ) (List ℕ) (List ℕ) (List ℕ) (List ℕ) (List ℕ) (List ℕ) (List ℕ) (List ℕ) (List ℕ) (List ℕ) (List ℕ) (List ℕ) (List ℕ) (List ℕ) in_form in_part in_init in_spec in_statement_form in_decl in_declared in_param in_type_name in_expr in_init_part in_enumerator in_field_decl in_field_name in_stmt

abbrev pub param_numbers : Param → List ℕ
param_numbers = fold-Param (List ℕ) (List ℕ) (List ℕ) (List ℕ) (List ℕ) (List ℕ) (List ℕ) (List ℕ) (List ℕ) (List ℕ) (List ℕ) (List ℕ) (List ℕ) (List ℕ) (List ℕ) in_form in_part in_init in_spec in_statement_form in_decl in_declared in_param in_type_name in_expr in_init_part in_enumerator in_field_decl in_field_name in_stmt

abbrev pub type_name_numbers : TypeName → List ℕ
type_name_numbers = fold-TypeName (List ℕ) (List ℕ) (List ℕ) (List ℕ) (List ℕ) (List ℕ) (List ℕ) (List ℕ) (List ℕ) (List ℕ) (List ℕ) (List ℕ) (List ℕ) (List ℕ) (List ℕ) in_form in_part in_init in_spec in_statement_form in_decl in_declared in_param in_type_name in_expr in_init_part in_enumerator in_field_decl in_field_name in_stmt

abbrev pub expr_numbers : Expr → List ℕ
expr_numbers = fold-Expr (List ℕ) (List ℕ) (List ℕ) (List ℕ) (List ℕ) (List ℕ) (List ℕ) (List ℕ) (List ℕ) (List ℕ) (List ℕ) (List ℕ) (List ℕ) (List ℕ) (List ℕ) in_form in_part in_init in_spec in_statement_form in_decl in_declared in_param in_type_name in_expr in_init_part in_enumerator in_field_decl in_field_name in_stmt

abbrev pub init_part_numbers : InitPart → List ℕ
init_part_numbers = fold-InitPart (List ℕ) (List ℕ) (List ℕ) (List ℕ) (List ℕ) (List ℕ) (List ℕ) (List ℕ) (List ℕ) (List ℕ) (List ℕ) (List ℕ) (List ℕ) (List ℕ) (List ℕ) in_form in_part in_init in_spec in_statement_form in_decl in_declared in_param in_type_name in_expr in_init_part in_enumerator in_field_decl in_field_name in_stmt

abbrev pub field_decl_numbers : FieldDecl → List ℕ
field_decl_numbers = fold-FieldDecl (List ℕ) (List ℕ) (List ℕ) (List ℕ) (List ℕ) (List ℕ) (List ℕ) (List ℕ) (List ℕ) (List ℕ) (List ℕ) (List ℕ) (List ℕ) (List ℕ) (List ℕ) in_form in_part in_init in_spec in_statement_form in_decl in_declared in_param in_type_name in_expr in_init_part in_enumerator in_field_decl in_field_name in_stmt

abbrev pub field_name_numbers : FieldName → List ℕ
field_name_numbers = fold-FieldName (List ℕ) (List ℕ) (List ℕ) (List ℕ) (List ℕ) (List ℕ) (List ℕ) (List ℕ) (List ℕ) (List ℕ) (List ℕ) (List ℕ) (List ℕ) (List ℕ) (List ℕ) in_form in_part in_init in_spec in_statement_form in_decl in_declared in_param in_type_name in_expr in_init_part in_enumerator in_field_decl in_field_name in_stmt

abbrev pub enumerator_numbers : Enumerator → List ℕ
enumerator_numbers = fold-Enumerator (List ℕ) (List ℕ) (List ℕ) (List ℕ) (List ℕ) (List ℕ) (List ℕ) (List ℕ) (List ℕ) (List ℕ) (List ℕ) (List ℕ) (List ℕ) (List ℕ) (List ℕ) in_form in_part in_init in_spec in_statement_form in_decl in_declared in_param in_type_name in_expr in_init_part in_enumerator in_field_decl in_field_name in_stmt

abbrev pub stmt_numbers : Stmt → List ℕ
stmt_numbers = fold-Stmt (List ℕ) (List ℕ) (List ℕ) (List ℕ) (List ℕ) (List ℕ) (List ℕ) (List ℕ) (List ℕ) (List ℕ) (List ℕ) (List ℕ) (List ℕ) (List ℕ) (List ℕ) in_form in_part in_init in_spec in_statement_form in_decl in_declared in_param in_type_name in_expr in_init_part in_enumerator in_field_decl in_field_name in_stmt

-- an expression that may be left out
abbrev pub maybe_numbers : Option Expr → List ℕ
maybe_numbers expr = or_none (option_map expr_numbers expr)

-- an item, from its parts
abbrev pub item_numbers : Item → List ℕ
item_numbers Empty = []
item_numbers (DeclareItem decl) = decl_numbers decl
item_numbers (Function spec storage head body close) = spec_numbers spec ++ (declared_numbers head ++ concat (map stmt_numbers body))
