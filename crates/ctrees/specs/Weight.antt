-- A number for each part of a tree of C, from the numbers of what stands in it: how these are put together, and what an
-- expression, a statement, the words of a type and an initialiser add. No other part adds anything.
use Rattle.std.specs.Prelude.{ℕ, ◌+◌, min, List, [], ◌∷◌, map, Option, Some, None}
use Rattle.cbase.specs.declared.tree.expr.ExprForm.TheOpen.{ExprForm-F, Part-F, Init-F, TypeSpec-F, StmtForm-F, Decl-F, Declared-F, Param-F, TypeName-F, Expr-F, InitPart-F, FieldDecl-F, FieldName-F, Enumerator-F, Stmt-F}
use Rattle.cbase.specs.declared.tree.expr.ExprForm.TheOpen.{Name, Constant, Unary, Binary, Assign, Count, Choose, Cast, SizeOf, SizeOfType, OffsetOf, Index, ExprForm::Member, Call, Inner, AssertFail, Part::Member, At, Value, Braces, Basic, Named, Struct, Enum, OfExpr, OfType, Declare, Eval, Block, If, While, Do, For, Break, Continue, Return}
use Rattle.cbase.specs.declared.tree.expr.ExprForm.TheFolds.{fold-ExprForm, fold-Part, fold-Init, fold-TypeSpec, fold-StmtForm, fold-Decl, fold-Declared, fold-Param, fold-TypeName, fold-Expr, fold-InitPart, fold-FieldDecl, fold-FieldName, fold-Enumerator, fold-Stmt}
use Rattle.cbase.specs.declared.tree.expr.ExprForm.{ExprForm}
use Rattle.cbase.specs.declared.tree.expr.Part.{Part}
use Rattle.cbase.specs.declared.tree.init.Init.{Init}
use Rattle.cbase.specs.declared.tree.spec.TypeSpec.{TypeSpec}
use Rattle.cbase.specs.declared.tree.stmt.StmtForm.{StmtForm}
use Rattle.cbase.specs.declared.tree.decl.Decl.{Decl}
use Rattle.cbase.specs.declared.tree.decl.Declared.{Declared}
use Rattle.cbase.specs.declared.tree.decl.Param.{Param}
use Rattle.cbase.specs.declared.tree.decl.TypeName.{TypeName}
use Rattle.cbase.specs.declared.tree.expr.Expr.{Expr}
use Rattle.cbase.specs.declared.tree.init.InitPart.{InitPart}
use Rattle.cbase.specs.declared.tree.spec.FieldDecl.{FieldDecl}
use Rattle.cbase.specs.declared.tree.spec.FieldName.{FieldName}
use Rattle.cbase.specs.declared.tree.spec.Enumerator.{Enumerator}
use Rattle.cbase.specs.declared.tree.stmt.Stmt.{Stmt}
use Rattle.cbase.specs.declared.tree.item.Item.{Item}
use Rattle.cbase.specs.declared.tree.item.Item.TheVariants.{Empty, Declare as DeclareItem, Function}

pub record Weight : Type 0 where
  pub join : ℕ → ℕ → ℕ
  pub expr : ℕ
  pub stmt : ℕ
  pub spec : ℕ
  pub init : ℕ

-- a number as 64 bits keep it: the largest that they hold stands for every larger one as well
abbrev pub at_most_u64 : ℕ → ℕ
at_most_u64 n = min n 18446744073709551615

-- a list, from the numbers of its items
abbrev pub joined : Weight → List ℕ → ℕ
joined w [] = 0
joined w (n ∷ ns) = w.join n (joined w ns)

-- what may be left out counts nothing where it is
abbrev pub or_nothing : Option ℕ → ℕ
or_nothing None = 0
or_nothing (Some n) = n

-- a list that may be left out
abbrev pub list_or_nothing : Weight → Option (List ℕ) → ℕ
list_or_nothing w None = 0
list_or_nothing w (Some ns) = joined w ns

abbrev pub in_form : Weight → ExprForm-F ℕ ℕ ℕ ℕ ℕ ℕ ℕ ℕ ℕ ℕ ℕ ℕ ℕ ℕ ℕ → ℕ
in_form w (Name name) = 0
in_form w (Constant spelling) = 0
in_form w (Unary op arg) = arg
in_form w (Binary op left right) = w.join left right
in_form w (Assign op left right) = w.join left right
in_form w (Count up after arg) = arg
in_form w (Choose test one other) = w.join test (w.join one other)
in_form w (Cast to arg) = w.join to arg
in_form w (SizeOf arg) = arg
in_form w (SizeOfType to) = to
in_form w (OffsetOf to path) = w.join to (joined w path)
in_form w (Index base index) = w.join base index
in_form w (ExprForm::Member base name through) = base
in_form w (Call callee args) = w.join callee (joined w args)
in_form w (Inner body close) = joined w body
in_form w AssertFail = 0

abbrev pub in_part : Weight → Part-F ℕ ℕ ℕ ℕ ℕ ℕ ℕ ℕ ℕ ℕ ℕ ℕ ℕ ℕ ℕ → ℕ
in_part w (Part::Member name) = 0
in_part w (At index) = index

abbrev pub in_init : Weight → Init-F ℕ ℕ ℕ ℕ ℕ ℕ ℕ ℕ ℕ ℕ ℕ ℕ ℕ ℕ ℕ → ℕ
in_init w (Value value after) = w.init + value
in_init w (Braces parts) = w.init + joined w parts

abbrev pub in_spec : Weight → TypeSpec-F ℕ ℕ ℕ ℕ ℕ ℕ ℕ ℕ ℕ ℕ ℕ ℕ ℕ ℕ ℕ → ℕ
in_spec w (Basic basic) = w.spec
in_spec w (Named name) = w.spec
in_spec w (Struct name fields) = w.spec + list_or_nothing w fields
in_spec w (Enum name values) = w.spec + list_or_nothing w values
in_spec w (OfExpr expr) = w.spec + expr
in_spec w (OfType name) = w.spec + name

abbrev pub in_statement_form : Weight → StmtForm-F ℕ ℕ ℕ ℕ ℕ ℕ ℕ ℕ ℕ ℕ ℕ ℕ ℕ ℕ ℕ → ℕ
in_statement_form w (Declare decl) = decl
in_statement_form w (Eval expr) = or_nothing expr
in_statement_form w (Block body) = joined w body
in_statement_form w (If test close one other) = w.join test (w.join one (or_nothing other))
in_statement_form w (While test close body) = w.join test body
in_statement_form w (Do body test close) = w.join body test
in_statement_form w (For first test semicolon next close body) = w.join (w.join first (or_nothing test)) (w.join (or_nothing next) body)
in_statement_form w Break = 0
in_statement_form w Continue = 0
in_statement_form w (Return value) = or_nothing value

abbrev pub in_decl : Weight → Decl-F ℕ ℕ ℕ ℕ ℕ ℕ ℕ ℕ ℕ ℕ ℕ ℕ ℕ ℕ ℕ → ℕ
in_decl w decl = w.join decl.spec (joined w decl.names)

abbrev pub in_declared : Weight → Declared-F ℕ ℕ ℕ ℕ ℕ ℕ ℕ ℕ ℕ ℕ ℕ ℕ ℕ ℕ ℕ → ℕ
in_declared w declared = w.join (joined w (map or_nothing declared.sizes)) (w.join (list_or_nothing w declared.params) (or_nothing declared.init))

abbrev pub in_param : Weight → Param-F ℕ ℕ ℕ ℕ ℕ ℕ ℕ ℕ ℕ ℕ ℕ ℕ ℕ ℕ ℕ → ℕ
in_param w param = w.join param.spec (joined w (map or_nothing param.sizes))

abbrev pub in_type_name : Weight → TypeName-F ℕ ℕ ℕ ℕ ℕ ℕ ℕ ℕ ℕ ℕ ℕ ℕ ℕ ℕ ℕ → ℕ
in_type_name w name = w.join name.spec (joined w (map or_nothing name.sizes))

abbrev pub in_expr : Weight → Expr-F ℕ ℕ ℕ ℕ ℕ ℕ ℕ ℕ ℕ ℕ ℕ ℕ ℕ ℕ ℕ → ℕ
in_expr w expr = w.expr + expr.form

abbrev pub in_init_part : Weight → InitPart-F ℕ ℕ ℕ ℕ ℕ ℕ ℕ ℕ ℕ ℕ ℕ ℕ ℕ ℕ ℕ → ℕ
in_init_part w part = part.init

abbrev pub in_field_decl : Weight → FieldDecl-F ℕ ℕ ℕ ℕ ℕ ℕ ℕ ℕ ℕ ℕ ℕ ℕ ℕ ℕ ℕ → ℕ
in_field_decl w decl = w.join decl.spec (joined w decl.names)

abbrev pub in_field_name : Weight → FieldName-F ℕ ℕ ℕ ℕ ℕ ℕ ℕ ℕ ℕ ℕ ℕ ℕ ℕ ℕ ℕ → ℕ
in_field_name w field = w.join (joined w (map or_nothing field.sizes)) (or_nothing field.bits)

abbrev pub in_enumerator : Weight → Enumerator-F ℕ ℕ ℕ ℕ ℕ ℕ ℕ ℕ ℕ ℕ ℕ ℕ ℕ ℕ ℕ → ℕ
in_enumerator w enumerator = or_nothing enumerator.value

abbrev pub in_stmt : Weight → Stmt-F ℕ ℕ ℕ ℕ ℕ ℕ ℕ ℕ ℕ ℕ ℕ ℕ ℕ ℕ ℕ → ℕ
in_stmt w stmt = w.stmt + stmt.form

abbrev pub form_weight : Weight → ExprForm → ℕ
form_weight w = fold-ExprForm ℕ ℕ ℕ ℕ ℕ ℕ ℕ ℕ ℕ ℕ ℕ ℕ ℕ ℕ ℕ (in_form w) (in_part w) (in_init w) (in_spec w) (in_statement_form w) (in_decl w) (in_declared w) (in_param w) (in_type_name w) (in_expr w) (in_init_part w) (in_enumerator w) (in_field_decl w) (in_field_name w) (in_stmt w)

abbrev pub part_weight : Weight → Part → ℕ
part_weight w = fold-Part ℕ ℕ ℕ ℕ ℕ ℕ ℕ ℕ ℕ ℕ ℕ ℕ ℕ ℕ ℕ (in_form w) (in_part w) (in_init w) (in_spec w) (in_statement_form w) (in_decl w) (in_declared w) (in_param w) (in_type_name w) (in_expr w) (in_init_part w) (in_enumerator w) (in_field_decl w) (in_field_name w) (in_stmt w)

abbrev pub init_weight : Weight → Init → ℕ
init_weight w = fold-Init ℕ ℕ ℕ ℕ ℕ ℕ ℕ ℕ ℕ ℕ ℕ ℕ ℕ ℕ ℕ (in_form w) (in_part w) (in_init w) (in_spec w) (in_statement_form w) (in_decl w) (in_declared w) (in_param w) (in_type_name w) (in_expr w) (in_init_part w) (in_enumerator w) (in_field_decl w) (in_field_name w) (in_stmt w)

abbrev pub spec_weight : Weight → TypeSpec → ℕ
spec_weight w = fold-TypeSpec ℕ ℕ ℕ ℕ ℕ ℕ ℕ ℕ ℕ ℕ ℕ ℕ ℕ ℕ ℕ (in_form w) (in_part w) (in_init w) (in_spec w) (in_statement_form w) (in_decl w) (in_declared w) (in_param w) (in_type_name w) (in_expr w) (in_init_part w) (in_enumerator w) (in_field_decl w) (in_field_name w) (in_stmt w)

abbrev pub statement_form_weight : Weight → StmtForm → ℕ
statement_form_weight w = fold-StmtForm ℕ ℕ ℕ ℕ ℕ ℕ ℕ ℕ ℕ ℕ ℕ ℕ ℕ ℕ ℕ (in_form w) (in_part w) (in_init w) (in_spec w) (in_statement_form w) (in_decl w) (in_declared w) (in_param w) (in_type_name w) (in_expr w) (in_init_part w) (in_enumerator w) (in_field_decl w) (in_field_name w) (in_stmt w)

abbrev pub decl_weight : Weight → Decl → ℕ
decl_weight w = fold-Decl ℕ ℕ ℕ ℕ ℕ ℕ ℕ ℕ ℕ ℕ ℕ ℕ ℕ ℕ ℕ (in_form w) (in_part w) (in_init w) (in_spec w) (in_statement_form w) (in_decl w) (in_declared w) (in_param w) (in_type_name w) (in_expr w) (in_init_part w) (in_enumerator w) (in_field_decl w) (in_field_name w) (in_stmt w)

abbrev pub declared_weight : Weight → Declared → ℕ
declared_weight w = fold-Declared ℕ ℕ ℕ ℕ ℕ ℕ ℕ ℕ ℕ ℕ ℕ ℕ ℕ ℕ ℕ (in_form w) (in_part w) (in_init w) (in_spec w) (in_statement_form w) (in_decl w) (in_declared w) (in_param w) (in_type_name w) (in_expr w) (in_init_part w) (in_enumerator w) (in_field_decl w) (in_field_name w) (in_stmt w)

abbrev pub param_weight : Weight → Param → ℕ
param_weight w = fold-Param ℕ ℕ ℕ ℕ ℕ ℕ ℕ ℕ ℕ ℕ ℕ ℕ ℕ ℕ ℕ (in_form w) (in_part w) (in_init w) (in_spec w) (in_statement_form w) (in_decl w) (in_declared w) (in_param w) (in_type_name w) (in_expr w) (in_init_part w) (in_enumerator w) (in_field_decl w) (in_field_name w) (in_stmt w)

abbrev pub type_name_weight : Weight → TypeName → ℕ
type_name_weight w = fold-TypeName ℕ ℕ ℕ ℕ ℕ ℕ ℕ ℕ ℕ ℕ ℕ ℕ ℕ ℕ ℕ (in_form w) (in_part w) (in_init w) (in_spec w) (in_statement_form w) (in_decl w) (in_declared w) (in_param w) (in_type_name w) (in_expr w) (in_init_part w) (in_enumerator w) (in_field_decl w) (in_field_name w) (in_stmt w)

abbrev pub expr_weight : Weight → Expr → ℕ
expr_weight w = fold-Expr ℕ ℕ ℕ ℕ ℕ ℕ ℕ ℕ ℕ ℕ ℕ ℕ ℕ ℕ ℕ (in_form w) (in_part w) (in_init w) (in_spec w) (in_statement_form w) (in_decl w) (in_declared w) (in_param w) (in_type_name w) (in_expr w) (in_init_part w) (in_enumerator w) (in_field_decl w) (in_field_name w) (in_stmt w)

abbrev pub init_part_weight : Weight → InitPart → ℕ
init_part_weight w = fold-InitPart ℕ ℕ ℕ ℕ ℕ ℕ ℕ ℕ ℕ ℕ ℕ ℕ ℕ ℕ ℕ (in_form w) (in_part w) (in_init w) (in_spec w) (in_statement_form w) (in_decl w) (in_declared w) (in_param w) (in_type_name w) (in_expr w) (in_init_part w) (in_enumerator w) (in_field_decl w) (in_field_name w) (in_stmt w)

abbrev pub field_decl_weight : Weight → FieldDecl → ℕ
field_decl_weight w = fold-FieldDecl ℕ ℕ ℕ ℕ ℕ ℕ ℕ ℕ ℕ ℕ ℕ ℕ ℕ ℕ ℕ (in_form w) (in_part w) (in_init w) (in_spec w) (in_statement_form w) (in_decl w) (in_declared w) (in_param w) (in_type_name w) (in_expr w) (in_init_part w) (in_enumerator w) (in_field_decl w) (in_field_name w) (in_stmt w)

abbrev pub field_name_weight : Weight → FieldName → ℕ
field_name_weight w = fold-FieldName ℕ ℕ ℕ ℕ ℕ ℕ ℕ ℕ ℕ ℕ ℕ ℕ ℕ ℕ ℕ (in_form w) (in_part w) (in_init w) (in_spec w) (in_statement_form w) (in_decl w) (in_declared w) (in_param w) (in_type_name w) (in_expr w) (in_init_part w) (in_enumerator w) (in_field_decl w) (in_field_name w) (in_stmt w)

abbrev pub enumerator_weight : Weight → Enumerator → ℕ
enumerator_weight w = fold-Enumerator ℕ ℕ ℕ ℕ ℕ ℕ ℕ ℕ ℕ ℕ ℕ ℕ ℕ ℕ ℕ (in_form w) (in_part w) (in_init w) (in_spec w) (in_statement_form w) (in_decl w) (in_declared w) (in_param w) (in_type_name w) (in_expr w) (in_init_part w) (in_enumerator w) (in_field_decl w) (in_field_name w) (in_stmt w)

abbrev pub stmt_weight : Weight → Stmt → ℕ
stmt_weight w = fold-Stmt ℕ ℕ ℕ ℕ ℕ ℕ ℕ ℕ ℕ ℕ ℕ ℕ ℕ ℕ ℕ (in_form w) (in_part w) (in_init w) (in_spec w) (in_statement_form w) (in_decl w) (in_declared w) (in_param w) (in_type_name w) (in_expr w) (in_init_part w) (in_enumerator w) (in_field_decl w) (in_field_name w) (in_stmt w)

-- an item, from the numbers of its parts
abbrev pub item_weight : Weight → Item → ℕ
item_weight w Empty = 0
item_weight w (DeclareItem decl) = decl_weight w decl
item_weight w (Function spec storage head body close) =
    w.join (spec_weight w spec) (w.join (declared_weight w head) (joined w (map (stmt_weight w) body)))
