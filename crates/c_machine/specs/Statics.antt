-- The initialisers that stand in a text, wherever they do: those of objects that live as long as the program runs are written before main begins
-- (C11 5.1.2p1).
use Rattle.std.specs.Prelude.{ℕ, zero, suc, ◌+◌, List, [], ◌∷◌, ◌++◌, map, Option, None, Some, if◌then◌else◌}
use Rattle.std.specs.List.{flat_map}
use Rattle.cbase.specs.declared.place.Place.{Place}
use Rattle.cbase.specs.declared.tree.decl.Decl.{Decl}
use Rattle.cbase.specs.declared.tree.decl.Declared.{Declared}
use Rattle.cbase.specs.declared.tree.decl.Param.{Param}
use Rattle.cbase.specs.declared.tree.decl.TypeName.{TypeName}
use Rattle.cbase.specs.declared.tree.expr.Expr.{Expr}
use Rattle.cbase.specs.declared.tree.expr.ExprForm.TheOpen.{Name, Constant, Unary, Binary, Assign, Count, Choose, Cast, SizeOf, SizeOfType, OffsetOf, Index, ExprForm::Member, Call, Inner, AssertFail, Part::Member, At, Value, Braces, Basic, Named, Struct, Enum, OfExpr, OfType, Declare, Eval, Block, If, While, Do, For, Break, Continue, Return}
use Rattle.cbase.specs.declared.tree.expr.ExprForm.TheViews.{out-ExprForm, out-Part, out-StmtForm, out-TypeName, out-TypeSpec, out-FieldDecl, out-FieldName, out-Enumerator, out-Decl, out-Declared, out-Param, out-Init, out-InitPart}
use Rattle.cbase.specs.declared.tree.init.Init.{Init}
use Rattle.cbase.specs.declared.tree.item.Item.{Item}
use Rattle.cbase.specs.declared.tree.item.Item.TheVariants.{Empty, Declare as DeclareItem, Function}
use Rattle.cbase.specs.declared.tree.spec.FieldDecl.{FieldDecl}
use Rattle.cbase.specs.declared.tree.spec.FieldName.{FieldName}
use Rattle.cbase.specs.declared.tree.spec.TypeSpec.{TypeSpec}
use Rattle.cbase.specs.declared.tree.stmt.Stmt.{Stmt}
use Rattle.ctrees.specs.Weight.{Weight, item_weight}
use Rattle.typing.specs.Forms.{Form, Step, Words, Clause, Initialiser}
use Rattle.c_machine.specs.Program.{Program, is_static}
use Rattle.c_machine.specs.Text.{Set}

-- a part of a tree in which initialisers may stand
pub data Node : Type 0 where
  AnExpr : Expr → Node
  AStmt : Stmt → Node
  SomeWords : TypeSpec → Node
  AnInit : Init → Node

-- what stands directly in each part
abbrev pub optional : Option Expr → List Node
optional None = []
optional (Some expr) = AnExpr expr ∷ []

abbrev pub in_sizes : List (Option Expr) → List Node
in_sizes sizes = flat_map optional sizes

abbrev pub in_type_name : TypeName → List Node
in_type_name name = SomeWords (out-TypeName name).spec ∷ in_sizes (out-TypeName name).sizes

abbrev pub in_step : Step → List Node
in_step (Part::Member name) = []
in_step (At index) = AnExpr index ∷ []

abbrev pub in_form : Form → List Node
in_form (Name name) = []
in_form (Constant spelling) = []
in_form (Unary op arg) = AnExpr arg ∷ []
in_form (Binary op left right) = AnExpr left ∷ AnExpr right ∷ []
in_form (Assign op left right) = AnExpr left ∷ AnExpr right ∷ []
in_form (Count up after arg) = AnExpr arg ∷ []
in_form (Choose test one other) = AnExpr test ∷ AnExpr one ∷ AnExpr other ∷ []
in_form (Cast to arg) = in_type_name to ++ AnExpr arg ∷ []
in_form (SizeOf arg) = AnExpr arg ∷ []
in_form (SizeOfType to) = in_type_name to
in_form (OffsetOf to path) = in_type_name to ++ flat_map (λ step. in_step (out-Part step)) path
in_form (Index base index) = AnExpr base ∷ AnExpr index ∷ []
in_form (ExprForm::Member base name through) = AnExpr base ∷ []
in_form (Call callee args) = AnExpr callee ∷ map AnExpr args
in_form (Inner body close) = map AStmt body
in_form AssertFail = []

abbrev pub in_param : Param → List Node
in_param param = SomeWords (out-Param param).spec ∷ in_sizes (out-Param param).sizes

abbrev pub in_params : Option (List Param) → List Node
in_params None = []
in_params (Some params) = flat_map in_param params

abbrev pub in_init : Option Init → List Node
in_init None = []
in_init (Some init) = AnInit init ∷ []

abbrev pub in_name : Declared → List Node
in_name name = in_sizes (out-Declared name).sizes ++ (in_params (out-Declared name).params ++ in_init (out-Declared name).init)

abbrev pub in_decl : Decl → List Node
in_decl decl = SomeWords (out-Decl decl).spec ∷ flat_map in_name (out-Decl decl).names

abbrev pub in_clause : Clause → List Node
in_clause (Declare decl) = in_decl decl
in_clause (Eval expr) = optional expr
in_clause (Block body) = map AStmt body
in_clause (If test close one None) = AnExpr test ∷ AStmt one ∷ []
in_clause (If test close one (Some other)) = AnExpr test ∷ AStmt one ∷ AStmt other ∷ []
in_clause (While test close body) = AnExpr test ∷ AStmt body ∷ []
in_clause (Do body test close) = AStmt body ∷ AnExpr test ∷ []
in_clause (For first test semicolon next close body) = AStmt first ∷ (optional test ++ (optional next ++ AStmt body ∷ []))
in_clause Break = []
in_clause Continue = []
in_clause (Return expr) = optional expr

abbrev pub in_member : FieldName → List Node
in_member name = in_sizes (out-FieldName name).sizes ++ optional (out-FieldName name).bits

abbrev pub in_members : FieldDecl → List Node
in_members decl = SomeWords (out-FieldDecl decl).spec ∷ flat_map in_member (out-FieldDecl decl).names

abbrev pub in_words : Words → List Node
in_words (Basic basic) = []
in_words (Named name) = []
in_words (Struct name None) = []
in_words (Struct name (Some fields)) = flat_map in_members fields
in_words (Enum name None) = []
in_words (Enum name (Some values)) = flat_map (λ value. optional (out-Enumerator value).value) values
in_words (OfExpr expr) = AnExpr expr ∷ []
in_words (OfType name) = in_type_name name

abbrev pub in_initialiser : Initialiser → List Node
in_initialiser (Value value after) = AnExpr value ∷ []
in_initialiser (Braces parts) = map (λ part. AnInit (out-InitPart part).init) parts

abbrev pub in_node : Node → List Node
in_node (AnExpr expr) = in_form (out-ExprForm expr.form)
in_node (AStmt stmt) = in_clause (out-StmtForm stmt.form)
in_node (SomeWords spec) = in_words (out-TypeSpec spec)
in_node (AnInit init) = in_initialiser (out-Init init)

abbrev pub in_item : Item → List Node
in_item Empty = []
in_item (DeclareItem decl) = in_decl decl
in_item (Function spec storage head body close) = SomeWords spec ∷ (in_name head ++ map AStmt body)

abbrev pub set_of : Place → Option Init → List (Set Init)
set_of place None = []
set_of place (Some init) = record { place = place; init = init } ∷ []

abbrev pub set_by : Declared → List (Set Init)
set_by name = set_of (out-Declared name).place (out-Declared name).init

abbrev pub sets_in_clause : Clause → List (Set Init)
sets_in_clause (Declare decl) = flat_map set_by (out-Decl decl).names
sets_in_clause other = []

abbrev pub sets_at : Node → List (Set Init)
sets_at (AStmt stmt) = sets_in_clause (out-StmtForm stmt.form)
sets_at other = []

abbrev pub sets_in_item : Item → List (Set Init)
sets_in_item (DeclareItem decl) = flat_map set_by (out-Decl decl).names
sets_in_item other = []

-- all that stand in parts of trees, of which there are at most so many
abbrev pub sets_within : ℕ → List Node → List (Set Init)
sets_within zero nodes = []
sets_within (suc count) [] = []
sets_within (suc count) (node ∷ nodes) = sets_at node ++ sets_within count (in_node node ++ nodes)

-- how many there are
abbrev pub counting_all : Weight
counting_all = record { join = λ one other. one + other; expr = 1; stmt = 1; spec = 1; init = 1 }

abbrev pub nodes_of : Item → ℕ
nodes_of item = item_weight counting_all item

abbrev pub sets_of : Item → List (Set Init)
sets_of item = sets_in_item item ++ sets_within (nodes_of item) (in_item item)

abbrev pub static_sets : Program → List (Set Init) → List (Set Init)
static_sets p [] = []
static_sets p (set ∷ rest) = if is_static p set.place.at then set ∷ static_sets p rest else static_sets p rest
