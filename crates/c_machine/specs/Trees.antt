-- A program of C as the machine asks of it: its trees are read by their layers, and what is known of them stands in the rows that typing hands on.
use Rattle.std.specs.Prelude.{ℕ, ◌+◌, ◌*◌, true, false, List, [], ◌∷◌, ◌++◌, map, length, Option, None, Some, option_map, if◌then◌else◌}
use Rattle.std.specs.List.{flat_map}
use Rattle.std.specs.Option.{option_map_or}
use Rattle.cbase.specs.declared.ctype.CType.{CType}
use Rattle.cbase.specs.declared.tree.decl.Declared.{Declared}
use Rattle.cbase.specs.declared.tree.expr.Expr.{Expr}
use Rattle.cbase.specs.declared.tree.expr.ExprForm.TheOpen as tree
use Rattle.cbase.specs.declared.tree.expr.ExprForm.TheViews.{out-ExprForm, out-StmtForm, out-Decl, out-Declared, out-Init, out-InitPart}
use Rattle.cbase.specs.declared.tree.init.Init.{Init}
use Rattle.cbase.specs.declared.tree.item.Item.{Item}
use Rattle.cbase.specs.declared.tree.stmt.Stmt.{Stmt}
use Rattle.typing.specs.declared.ctypes.kind.Target.{Target}
use Rattle.typing.specs.declared.ctypes.kind.Target.TheVariants.{Void as VoidTarget}
use Rattle.typing.specs.ctypes.Kinds.{Kind as TypeKind, kind_of}
use Rattle.typing.specs.ctypes.Kinds as type
use Rattle.typing.specs.Entities.{Entity, FunctionEntity, ObjectIs, FunctionIs, EnumeratorIs}
use Rattle.typing.specs.Forms.{Form as Layer, Clause as StatementLayer, Initialiser as InitialiserLayer, name_in}
use Rattle.typing.specs.Idiom.{member_offset}
use Rattle.typing.specs.Nodes.{pointed_offset}
use Rattle.typing.specs.Heads.{is_main}
use Rattle.typing.specs.Outcomes.{Store as StoreRow, ObjectRow, ParameterRow}
use Rattle.c_machine.specs.Program.{Program, type_of, entity_of, constant_of, size_of, first_token, automatic, fixed_in, store_in, parameters_in, result_in, FunctionItem, functions_in, number_in, main_in}
use Rattle.c_machine.specs.Statics.{nodes_of, sets_of, static_sets}
use Rattle.c_machine.specs.declared.kind.Kind.TheVariants.{Integer, Pointer, Array, Struct, Void}
use Rattle.c_machine.specs.declared.kind.Kind.{Kind}
use Rattle.c_machine.specs.declared.object.Object.{Object}
use Rattle.c_machine.specs.Text.{Standing, ObjectStands, ConstantStands, BuiltInStands, BodyStands, NothingStands, Form, Name, Known, Unary, Binary, Assign, Count, Choose, Cast, Index, Member, Call, Inner, AssertFail, Declared as DeclaredName, Initialiser, Value, Braces, Clause, Declare, Eval, Block, If, While, Do, For, Break, Continue, Return, Store, Parameter, Function, Text}

-- a type, by what the machine asks of it
abbrev pub step_of : Program → CType → Target → ℕ
step_of p item VoidTarget = 1
step_of p item target = size_of p item

abbrev pub kind_as : Program → CType → TypeKind → Kind
kind_as p t (type.Integer of) = Integer of
kind_as p t (type.Pointer item target) = Pointer (step_of p item target)
kind_as p t (type.Array item target) = Array (step_of p item target)
kind_as p t (type.Struct number) = Struct (size_of p t)
kind_as p t type.Void = Void

abbrev pub kind_in : Program → CType → Kind
kind_in p t = kind_as p t (kind_of p.structs t)

-- what a name stands for. A function that is built in has no body in the text, also where an object of its name is passed over there
abbrev pub body_stands : Option ℕ → Standing
body_stands None = NothingStands
body_stands (Some number) = BodyStands number

abbrev pub function_stands : Program → Option (List ℕ) → FunctionEntity → Standing
function_stands p None function = NothingStands
function_stands p (Some name) function =
    if function.built_in then BuiltInStands name (map (kind_in p) function.params) (kind_in p function.result)
    else (if function.defined then body_stands (number_in (functions_in p.items) name) else NothingStands)

abbrev pub standing : Program → Option (List ℕ) → Option Entity → Standing
standing p name (Some (ObjectIs object)) = ObjectStands object.token
standing p name (Some (EnumeratorIs bits)) = ConstantStands bits
standing p name (Some (FunctionIs function)) = function_stands p name function
standing p name other = NothingStands

-- what an expression is
abbrev pub offset : Option ℕ → ℕ
offset bytes = option_map_or (λ count. count) bytes 0

abbrev pub form_of : Program → Expr → Layer → Form Expr Stmt
form_of p expr (tree.Name name) = Name
form_of p expr (tree.Constant spelling) = Known (constant_of p expr)
form_of p expr (tree.Unary op arg) = Unary op arg
form_of p expr (tree.Binary op left right) = Binary op left right
form_of p expr (tree.Assign op left right) = Assign op left right
form_of p expr (tree.Count up after arg) = Count up after arg
form_of p expr (tree.Choose test one other) = Choose test one other
form_of p expr (tree.Cast to arg) = Cast arg
form_of p expr (tree.SizeOf arg) = Known (constant_of p expr)
form_of p expr (tree.SizeOfType to) = Known (constant_of p expr)
form_of p expr (tree.OffsetOf to path) = Known (constant_of p expr)
form_of p expr (tree.Index base index) = Index base index
form_of p expr (tree.ExprForm::Member base name false) = Member base (offset (member_offset p.abi p.structs (type_of p base) name.name)) false
form_of p expr (tree.ExprForm::Member base name true) =
    Member base (offset (pointed_offset p.abi p.structs (kind_of p.structs (type_of p base)) name.name)) true
form_of p expr (tree.Call callee args) = Call callee args
form_of p expr (tree.Inner body close) = Inner body close
form_of p expr tree.AssertFail = AssertFail

-- what a statement is, and an initialiser
abbrev pub name_of : Declared → DeclaredName Init
name_of name = record { place = (out-Declared name).place; init = (out-Declared name).init }

abbrev pub clause_of : StatementLayer → Clause Expr Stmt Init
clause_of (tree.Declare decl) = Declare (map name_of (out-Decl decl).names)
clause_of (tree.Eval expr) = Eval expr
clause_of (tree.Block body) = Block body
clause_of (tree.If test close one other) = If test close one other
clause_of (tree.While test close body) = While test close body
clause_of (tree.Do body test close) = Do body test close
clause_of (tree.For first test semicolon next close body) = For first test semicolon next close body
clause_of tree.Break = Break
clause_of tree.Continue = Continue
clause_of (tree.Return expr) = Return expr

abbrev pub initialiser_of : InitialiserLayer → Initialiser Expr Init
initialiser_of (tree.Value value after) = Value value after
initialiser_of (tree.Braces parts) = Braces (map (λ part. (out-InitPart part).init) parts)

-- objects, and what values of initialisers set
abbrev pub object_of : Program → ObjectRow → Object
object_of p row = record { token = Some (first_token p row.token); bytes = size_of p row.ctype }

abbrev pub store_of : Program → StoreRow → Store
store_of p row = record { offset = row.offset; kind = kind_in p row.ctype }

-- functions
abbrev pub parameter_of : Program → ParameterRow → Parameter
parameter_of p row = record { object = record { token = row.token; bytes = size_of p row.ctype }; kind = kind_in p row.ctype }

abbrev pub function_as : Program → FunctionItem → Function Stmt
function_as p function = record {
  is_main = is_main function.name;
  params = map (parameter_of p) (parameters_in p.handed function.token);
  result = kind_in p (result_in p.handed function.token);
  body = function.body;
  close = function.close;
}

-- no initialiser takes more steps than eight for each part of it
abbrev pub nodes_in : List Item → ℕ
nodes_in [] = 0
nodes_in (item ∷ rest) = nodes_of item + nodes_in rest

abbrev pub static_rows : Program → List ObjectRow
static_rows p = fixed_in p.handed true p.handed ++ fixed_in p.handed false p.handed

abbrev pub text_of : Program → Text
text_of p = record {
  Expr = Expr;
  Stmt = Stmt;
  Init = Init;
  form = λ expr. form_of p expr (out-ExprForm expr.form);
  place = λ expr. expr.place;
  kind = λ expr. kind_in p (type_of p expr);
  stands = λ expr. standing p (name_in (out-ExprForm expr.form)) (entity_of p expr);
  clause = λ stmt. clause_of (out-StmtForm stmt.form);
  first = λ stmt. stmt.place;
  last = λ stmt. stmt.after;
  initialiser = λ init. initialiser_of (out-Init init);
  token = λ place. first_token p place.at;
  automatic = λ place. option_map (object_of p) (automatic p place.at);
  store = λ place expr. option_map (store_of p) (store_in p.handed place.at expr.number);
  statics = map (object_of p) (static_rows p);
  sets = static_sets p (flat_map sets_of p.items);
  enough = length (static_rows p) + 8 * nodes_in p.items;
  functions = map (function_as p) (functions_in p.items);
  main = option_map (function_as p) (main_in (functions_in p.items));
  strict = p.strict;
}
