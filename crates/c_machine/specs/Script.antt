-- Programs written as they are read, for worked examples: an expression stands in the statement that has it. A token is told of only where it matters; any
-- other has the number 0.
use Rattle.std.specs.Prelude.{◌≡◌, ℕ, Bool, true, false, List, [], ◌∷◌, map, replicate, nat_eq, Option, None, Some, option_map, codes, if◌then◌else◌}
use Rattle.cbase.specs.declared.tree.operators.BinaryOp.{BinaryOp}
use Rattle.cbase.specs.declared.tree.operators.BinaryOp.TheVariants.{Comma}
use Rattle.cbase.specs.declared.tree.operators.UnaryOp.{UnaryOp}
use Rattle.cbase.specs.declared.tree.operators.UnaryOp.TheVariants.{Address, Follow}
use Rattle.choices.specs.declared.choice.Choice.{Choice}
use Rattle.choices.specs.declared.choice.Choice.TheVariants.{Block as NewBlock}
use Rattle.typing.specs.ctypes.Integers.{integer, truth}
use Rattle.typing.specs.Sample.{token}
use Rattle.c_machine.specs.declared.kind.Kind.TheVariants.{Integer, Pointer, Void}
use Rattle.c_machine.specs.declared.kind.Kind.{Kind}
use Rattle.c_machine.specs.declared.object.Object.{Object}
use Rattle.c_machine.specs.Text.{Standing, ObjectStands, ConstantStands, BuiltInStands, BodyStands, NothingStands, Form, Name, Known, Unary, Binary, Assign, Cast, Call, Inner, Clause, Declare, Eval, Block, If, While, Do, For, Break, Return, Initialiser, Value, Braces, Parameter, Function, Text}
use Rattle.c_machine.specs.State.{State, Outcome, Went}
use Rattle.c_machine.specs.Run.{run_of}

mutual
  -- an expression, with its type, its place and what its name stands for; a statement, with its first and its last token; and an initialiser
  pub data Tree : Type 0 where
    AnExpr : Kind → ℕ → Standing → Shape → Tree
    AStmt : ℕ → ℕ → Deed → Tree
    AValue : Tree → Tree
    SomeBraces : Trees → Tree

  -- what an expression is, and what a statement does; of some parts there are none or one
  pub data Shape : Type 0 where
    AName : Shape
    ANumber : ℕ → Shape
    AUnary : UnaryOp → Tree → Shape
    ABinary : BinaryOp → Tree → Tree → Shape
    ASet : Tree → Tree → Shape
    ACast : Tree → Shape
    ACall : Tree → Trees → Shape
    AnInner : Trees → Shape

  pub data Deed : Type 0 where
    ADeclaration : ℕ → Trees → Deed
    AnEval : Trees → Deed
    ABlock : Trees → Deed
    AnIf : Tree → Tree → Deed
    AWhile : Tree → Tree → Deed
    ADo : Tree → Tree → Deed
    AFor : Tree → Trees → Trees → Tree → Deed
    ABreak : Deed
    AReturn : Tree → Deed

  pub data Trees : Type 0 where
    NoTree : Trees
    OneTree : Tree → Trees → Trees

abbrev pub trees : List Tree → Trees
trees [] = NoTree
trees (tree ∷ rest) = OneTree tree (trees rest)

abbrev pub listed : Trees → List Tree
listed NoTree = []
listed (OneTree tree rest) = tree ∷ listed rest

abbrev pub only : Trees → Option Tree
only NoTree = None
only (OneTree tree rest) = Some tree

abbrev pub perhaps : Option Tree → Trees
perhaps None = NoTree
perhaps (Some tree) = OneTree tree NoTree

-- an object by the token of its name, with its size; and of which type a value of its initialiser is
pub record Declaration : Type 0 where
  pub token : ℕ
  pub bytes : ℕ
  pub kind : Kind

-- a program: the objects inside its functions, those that live as long as it runs, and its functions, of which the first is main
pub record Script : Type 0 where
  pub declarations : List Declaration
  pub statics : List Object
  pub functions : List (Function Tree)
  pub strict : Bool

abbrev pub declared : List Declaration → ℕ → Option Declaration
declared [] token = None
declared (declaration ∷ rest) token = if nat_eq declaration.token token then Some declaration else declared rest token

abbrev pub form_of : Shape → Form Tree Tree
form_of AName = Name
form_of (ANumber value) = Known (Some value)
form_of (AUnary op arg) = Unary op arg
form_of (ABinary op left right) = Binary op left right
form_of (ASet left right) = Assign None left right
form_of (ACast arg) = Cast arg
form_of (ACall callee args) = Call callee (listed args)
form_of (AnInner body) = Inner (listed body) (token 0)

abbrev pub form_in : Tree → Form Tree Tree
form_in (AnExpr kind at stands shape) = form_of shape
form_in other = Known None

abbrev pub kind_in : Tree → Kind
kind_in (AnExpr kind at stands shape) = kind
kind_in other = Void

abbrev pub stands_in : Tree → Standing
stands_in (AnExpr kind at stands shape) = stands
stands_in other = NothingStands

abbrev pub place_in : Tree → ℕ
place_in (AnExpr kind at stands shape) = at
place_in other = 0

abbrev pub clause_of : Deed → Clause Tree Tree Tree
clause_of (ADeclaration name init) = Declare (record { place = token name; init = only init } ∷ [])
clause_of (AnEval expr) = Eval (only expr)
clause_of (ABlock body) = Block (listed body)
clause_of (AnIf test one) = If test (token 0) one None
clause_of (AWhile test body) = While test (token 0) body
clause_of (ADo body test) = Do body test (token 0)
clause_of (AFor first test next body) = For first (only test) (token 0) (only next) (token 0) body
clause_of ABreak = Break
clause_of (AReturn expr) = Return (Some expr)

abbrev pub clause_in : Tree → Clause Tree Tree Tree
clause_in (AStmt first last deed) = clause_of deed
clause_in other = Eval None

abbrev pub first_in : Tree → ℕ
first_in (AStmt first last deed) = first
first_in other = 0

abbrev pub last_in : Tree → ℕ
last_in (AStmt first last deed) = last
last_in other = 0

abbrev pub initialiser_in : Tree → Initialiser Tree Tree
initialiser_in (AValue value) = Value value (token 0)
initialiser_in (SomeBraces parts) = Braces (listed parts)
initialiser_in other = Braces []

abbrev pub first_function : List (Function Tree) → Option (Function Tree)
first_function [] = None
first_function (function ∷ rest) = Some function

abbrev pub text_in : Script → Text
text_in script = record {
  Expr = Tree;
  Stmt = Tree;
  Init = Tree;
  form = form_in;
  place = λ expr. token (place_in expr);
  kind = kind_in;
  stands = stands_in;
  clause = clause_in;
  first = λ stmt. token (first_in stmt);
  last = λ stmt. token (last_in stmt);
  initialiser = initialiser_in;
  token = λ place. place.at;
  automatic = λ place. option_map (λ found. record { token = Some found.token; bytes = found.bytes }) (declared script.declarations place.at);
  store = λ place expr. option_map (λ found. record { offset = 0; kind = found.kind }) (declared script.declarations place.at);
  statics = script.statics;
  sets = [];
  enough = 20;
  functions = script.functions;
  main = first_function script.functions;
  strict = script.strict;
}

-- types
abbrev pub an_int : Kind
an_int = Integer (integer 4 true)

abbrev pub a_char : Kind
a_char = Integer (integer 1 true)

abbrev pub a_size : Kind
a_size = Integer (integer 8 false)

abbrev pub a_truth : Kind
a_truth = Integer truth

-- expressions
abbrev pub number : ℕ → Tree
number value = AnExpr an_int 0 NothingStands (ANumber value)

abbrev pub variable : Kind → ℕ → Tree
variable kind name = AnExpr kind 0 (ObjectStands name) AName

abbrev pub enumerator : ℕ → Tree
enumerator value = AnExpr an_int 0 (ConstantStands value) AName

abbrev pub address : Tree → Tree
address arg = AnExpr (Pointer 4) 0 NothingStands (AUnary Address arg)

abbrev pub follow : Kind → Tree → Tree
follow kind arg = AnExpr kind 0 NothingStands (AUnary Follow arg)

abbrev pub binary : Kind → BinaryOp → Tree → Tree → Tree
binary kind op left right = AnExpr kind 0 NothingStands (ABinary op left right)

abbrev pub comma : Tree → Tree → Tree
comma left right = AnExpr (kind_in right) 0 NothingStands (ABinary Comma left right)

abbrev pub set_to : Tree → Tree → Tree
set_to left right = AnExpr (kind_in left) 0 NothingStands (ASet left right)

abbrev pub inner : Kind → List Tree → Tree
inner kind body = AnExpr kind 0 NothingStands (AnInner (trees body))

-- a null pointer, and an access through it, at a place
abbrev pub null : Tree
null = AnExpr (Pointer 4) 0 NothingStands (ACast (number 0))

abbrev pub at : ℕ → Tree → Tree
at place (AnExpr kind old stands shape) = AnExpr kind place stands shape
at place (AStmt first last deed) = AStmt place last deed
at place other = other

-- calls: of a function that is built in, with the types of its parameters, and of the function of a number
abbrev pub built_in_call : List ℕ → List Kind → Kind → List Tree → Tree
built_in_call name params result args = AnExpr result 0 NothingStands (ACall (AnExpr result 0 (BuiltInStands name params result) AName) (trees args))

abbrev pub malloc : ℕ → Tree
malloc bytes = built_in_call (codes "malloc") (a_size ∷ []) (Pointer 1) (number bytes ∷ [])

abbrev pub calloc : ℕ → ℕ → Tree
calloc count bytes = built_in_call (codes "calloc") (a_size ∷ a_size ∷ []) (Pointer 1) (number count ∷ number bytes ∷ [])

abbrev pub free : Tree → Tree
free block = built_in_call (codes "free") (Pointer 1 ∷ []) Void (block ∷ [])

abbrev pub any_int : Tree
any_int = built_in_call (codes "__VERIFIER_nondet_int") [] an_int []

abbrev pub call : ℕ → Kind → List Tree → Tree
call function result args = AnExpr result 0 NothingStands (ACall (AnExpr result 0 (BodyStands function) AName) (trees args))

-- statements
abbrev pub eval : Tree → Tree
eval expr = AStmt 0 0 (AnEval (OneTree expr NoTree))

abbrev pub give : Tree → Tree
give expr = AStmt 0 0 (AReturn expr)

abbrev pub leave : Tree
leave = AStmt 0 0 ABreak

abbrev pub block : List Tree → Tree
block body = AStmt 0 0 (ABlock (trees body))

abbrev pub where_true : Tree → Tree → Tree
where_true test one = AStmt 0 0 (AnIf test one)

abbrev pub while_true : Tree → Tree → Tree
while_true test body = AStmt 0 0 (AWhile test body)

abbrev pub do_while : Tree → Tree → Tree
do_while body test = AStmt 0 0 (ADo body test)

abbrev pub for_each : Tree → Option Tree → Option Tree → Tree → Tree
for_each first test next body = AStmt 0 0 (AFor first (perhaps test) (perhaps next) body)

abbrev pub nothing : Tree
nothing = AStmt 0 0 (AnEval NoTree)

abbrev pub declare : ℕ → Tree
declare name = AStmt 0 0 (ADeclaration name NoTree)

abbrev pub declare_as : ℕ → Tree → Tree
declare_as name value = AStmt 0 0 (ADeclaration name (OneTree (AValue value) NoTree))

abbrev pub declare_braces : ℕ → List Tree → Tree
declare_braces name values = AStmt 0 0 (ADeclaration name (OneTree (SomeBraces (trees (map AValue values))) NoTree))

-- a statement that ends at a token
abbrev pub ends : ℕ → Tree → Tree
ends last (AStmt first old deed) = AStmt first last deed
ends last other = other

-- objects and functions
abbrev pub int_at : ℕ → Declaration
int_at name = record { token = name; bytes = 4; kind = an_int }

abbrev pub truth_at : ℕ → Declaration
truth_at name = record { token = name; bytes = 1; kind = a_truth }

abbrev pub pointer_at : ℕ → Declaration
pointer_at name = record { token = name; bytes = 8; kind = Pointer 1 }

abbrev pub parameter : ℕ → ℕ → Kind → Parameter
parameter name bytes kind = record { object = record { token = Some name; bytes = bytes }; kind = kind }

abbrev pub main : List Tree → Function Tree
main body = record { is_main = true; params = []; result = an_int; body = body; close = token 0 }

abbrev pub function : Kind → List Parameter → List Tree → Function Tree
function result params body = record { is_main = false; params = params; result = result; body = body; close = token 0 }

-- whose `}` is a token
abbrev pub closes : ℕ → Function Tree → Function Tree
closes place function = record function { close = token place }

-- a program with these objects in its functions, and none that lives as long as it runs
abbrev pub program : List Declaration → List (Function Tree) → Script
program declarations functions = record { declarations = declarations; statics = []; functions = functions; strict = false }

-- a choice of a block of so many bytes that are 0
abbrev pub zeros : ℕ → ℕ → Choice
zeros base bytes = NewBlock base (replicate bytes 0)

-- with these choices the run comes to that within 200 steps; or it still goes on behind 60
abbrev pub ComesTo : Script → List Choice → Outcome Tree Tree Tree → Type 0
ComesTo script choices outcome = run_of (text_in script) choices 200 ≡ outcome

abbrev pub GoesOn : Script → List Choice → Type 0
GoesOn script choices = (state : State Tree Tree Tree) × (rest : List Choice) × (run_of (text_in script) choices 60 ≡ Went state rest)
