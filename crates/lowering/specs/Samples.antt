-- Programs written as they are read, for worked graphs: each form of expression and of statement. A token is told of only where it matters; any other has the
-- number 0.
use Rattle.std.specs.Prelude.{ℕ, Bool, true, false, List, [], ◌∷◌, nat_eq, Option, None, Some, codes, if◌then◌else◌}
use Rattle.cbase.specs.declared.tree.operators.BinaryOp.{BinaryOp}
use Rattle.cbase.specs.declared.tree.operators.UnaryOp.{UnaryOp}
use Rattle.typing.specs.ctypes.Integers.{integer, truth}
use Rattle.typing.specs.Sample.{token}
use Rattle.c_machine.specs.declared.kind.Kind.TheVariants.{Integer, Pointer, Void}
use Rattle.c_machine.specs.declared.kind.Kind.{Kind}
use Rattle.c_machine.specs.declared.object.Object.{Object}
use Rattle.c_machine.specs.Text.{Standing, ObjectStands, BuiltInStands, BodyStands, NothingStands, Form, Name, Known, Unary, Binary, Assign, Count, Choose, Cast, Index, Member, Call, Inner, AssertFail, Clause, Declare, Eval, Block, If, While, Do, For, Break, Continue, Return, Initialiser, Value, Braces, Parameter, Function, Set, Text}

mutual
  -- an expression, with its type, its place and what its name stands for; a statement, with its first and its last token; and an initialiser, whose value sets
  -- so many bytes behind the front of the object as a value of that type
  pub data Tree : Type 0 where
    AnExpr : Kind → ℕ → Standing → Shape → Tree
    AStmt : ℕ → ℕ → Deed → Tree
    AValue : ℕ → Kind → Tree → Tree
    SomeBraces : Trees → Tree

  pub data Shape : Type 0 where
    AName : Shape
    ANumber : ℕ → Shape
    AUnary : UnaryOp → Tree → Shape
    ABinary : BinaryOp → Tree → Tree → Shape
    ASet : Tree → Tree → Shape
    AnUpdate : BinaryOp → Tree → Tree → Shape
    ACount : Bool → Bool → Tree → Shape
    AChoice : Tree → Tree → Tree → Shape
    ACast : Tree → Shape
    AnIndex : Tree → Tree → Shape
    AMember : Tree → ℕ → Bool → Shape
    ACall : Tree → Trees → Shape
    AnInner : ℕ → Trees → Shape
    AnAssertion : Shape

  pub data Deed : Type 0 where
    ADeclaration : ℕ → Trees → Deed
    AnEval : Trees → Deed
    ABlock : Trees → Deed
    AnIf : ℕ → Tree → Tree → Trees → Deed
    AWhile : ℕ → Tree → Tree → Deed
    ADo : ℕ → Tree → Tree → Deed
    AFor : Tree → Trees → ℕ → Trees → ℕ → Tree → Deed
    ABreak : Deed
    AContinue : Deed
    AReturn : Trees → Deed

  pub data Trees : Type 0 where
    NoTree : Trees
    OneTree : Tree → Trees → Trees

abbrev pub trees : List Tree → Trees
trees [] = NoTree
trees (tree ∷ rest) = OneTree tree (trees rest)

abbrev pub listed : Trees → List Tree
listed NoTree = []
listed (OneTree tree rest) = tree ∷ listed rest

abbrev pub only : Trees → Option Tree
only NoTree = None
only (OneTree tree rest) = Some tree

abbrev pub perhaps : Option Tree → Trees
perhaps None = NoTree
perhaps (Some tree) = OneTree tree NoTree

-- an object inside functions: the token of its name, and its size
pub record Local : Type 0 where
  pub name : ℕ
  pub bytes : ℕ

-- a program: the objects inside its functions, those that live as long as it runs with their initialisers, its functions, of which the first is main, and a number
-- of steps in which those initialisers are written
pub record Sample : Type 0 where
  pub locals : List Local
  pub statics : List Object
  pub sets : List (Set Tree)
  pub functions : List (Function Tree)
  pub enough : ℕ
  pub strict : Bool

abbrev pub local_in : List Local → ℕ → Option Object
local_in [] token = None
local_in (one ∷ rest) token = if nat_eq one.name token then Some (record { token = Some one.name; bytes = one.bytes }) else local_in rest token

abbrev pub form_of : Shape → Form Tree Tree
form_of AName = Name
form_of (ANumber value) = Known (Some value)
form_of (AUnary op arg) = Unary op arg
form_of (ABinary op left right) = Binary op left right
form_of (ASet left right) = Assign None left right
form_of (AnUpdate op left right) = Assign (Some op) left right
form_of (ACount up after arg) = Count up after arg
form_of (AChoice test one other) = Choose test one other
form_of (ACast arg) = Cast arg
form_of (AnIndex base index) = Index base index
form_of (AMember base offset through) = Member base offset through
form_of (ACall callee args) = Call callee (listed args)
form_of (AnInner close body) = Inner (listed body) (token close)
form_of AnAssertion = AssertFail

abbrev pub form_in : Tree → Form Tree Tree
form_in (AnExpr kind at stands shape) = form_of shape
form_in other = Known None

abbrev pub kind_in : Tree → Kind
kind_in (AnExpr kind at stands shape) = kind
kind_in other = Void

abbrev pub stands_in : Tree → Standing
stands_in (AnExpr kind at stands shape) = stands
stands_in other = NothingStands

abbrev pub place_in : Tree → ℕ
place_in (AnExpr kind at stands shape) = at
place_in other = 0

abbrev pub clause_of : Deed → Clause Tree Tree Tree
clause_of (ADeclaration name init) = Declare (record { place = token name; init = only init } ∷ [])
clause_of (AnEval expr) = Eval (only expr)
clause_of (ABlock body) = Block (listed body)
clause_of (AnIf close test one other) = If test (token close) one (only other)
clause_of (AWhile close test body) = While test (token close) body
clause_of (ADo close body test) = Do body test (token close)
clause_of (AFor first test semicolon next close body) = For first (only test) (token semicolon) (only next) (token close) body
clause_of ABreak = Break
clause_of AContinue = Continue
clause_of (AReturn expr) = Return (only expr)

abbrev pub clause_in : Tree → Clause Tree Tree Tree
clause_in (AStmt first last deed) = clause_of deed
clause_in other = Eval None

abbrev pub first_in : Tree → ℕ
first_in (AStmt first last deed) = first
first_in other = 0

abbrev pub last_in : Tree → ℕ
last_in (AStmt first last deed) = last
last_in other = 0

abbrev pub initialiser_in : Tree → Initialiser Tree Tree
initialiser_in (AValue offset kind value) = Value (AnExpr kind offset NothingStands (ACast value)) (token 0)
initialiser_in (SomeBraces parts) = Braces (listed parts)
initialiser_in other = Braces []

abbrev pub first_function : List (Function Tree) → Option (Function Tree)
first_function [] = None
first_function (function ∷ rest) = Some function

abbrev pub text_in : Sample → Text
text_in sample = record {
  Expr = Tree;
  Stmt = Tree;
  Init = Tree;
  form = form_in;
  place = λ expr. token (place_in expr);
  kind = kind_in;
  stands = stands_in;
  clause = clause_in;
  first = λ stmt. token (first_in stmt);
  last = λ stmt. token (last_in stmt);
  initialiser = initialiser_in;
  token = λ place. place.at;
  automatic = λ place. local_in sample.locals place.at;
  store = λ place expr. Some (record { offset = place_in expr; kind = kind_in expr });
  statics = sample.statics;
  sets = sample.sets;
  enough = sample.enough;
  functions = sample.functions;
  main = first_function sample.functions;
  strict = sample.strict;
}

-- types
abbrev pub an_int : Kind
an_int = Integer (integer 4 true)

abbrev pub a_char : Kind
a_char = Integer (integer 1 true)

abbrev pub a_long : Kind
a_long = Integer (integer 8 true)

abbrev pub a_size : Kind
a_size = Integer (integer 8 false)

abbrev pub a_truth : Kind
a_truth = Integer truth

-- expressions
abbrev pub number : ℕ → Tree
number value = AnExpr an_int 0 NothingStands (ANumber value)

abbrev pub variable : Kind → ℕ → Tree
variable kind name = AnExpr kind 0 (ObjectStands name) AName

abbrev pub unary : Kind → UnaryOp → Tree → Tree
unary kind op arg = AnExpr kind 0 NothingStands (AUnary op arg)

abbrev pub binary : Kind → BinaryOp → Tree → Tree → Tree
binary kind op left right = AnExpr kind 0 NothingStands (ABinary op left right)

abbrev pub set_to : Tree → Tree → Tree
set_to left right = AnExpr (kind_in left) 0 NothingStands (ASet left right)

-- an assignment of a struct makes no value
abbrev pub copied_to : Tree → Tree → Tree
copied_to left right = AnExpr Void 0 NothingStands (ASet left right)

abbrev pub update : BinaryOp → Tree → Tree → Tree
update op left right = AnExpr (kind_in left) 0 NothingStands (AnUpdate op left right)

abbrev pub counted : Bool → Bool → Tree → Tree
counted up after arg = AnExpr (kind_in arg) 0 NothingStands (ACount up after arg)

abbrev pub choice : Kind → Tree → Tree → Tree → Tree
choice kind test one other = AnExpr kind 0 NothingStands (AChoice test one other)

abbrev pub cast_to : Kind → Tree → Tree
cast_to kind arg = AnExpr kind 0 NothingStands (ACast arg)

abbrev pub index : Kind → Tree → Tree → Tree
index kind base place = AnExpr kind 0 NothingStands (AnIndex base place)

abbrev pub member : Kind → Tree → ℕ → Bool → Tree
member kind base offset through = AnExpr kind 0 NothingStands (AMember base offset through)

abbrev pub inner : Kind → List Tree → Tree
inner kind body = AnExpr kind 0 NothingStands (AnInner 0 (trees body))

-- a null pointer
abbrev pub null : Tree
null = cast_to (Pointer 4) (number 0)

abbrev pub at : ℕ → Tree → Tree
at place (AnExpr kind old stands shape) = AnExpr kind place stands shape
at place (AStmt first last deed) = AStmt place last deed
at place other = other

-- calls: of a function that is built in, with the types of its parameters, and of the function of a number
abbrev pub built_in_call : List ℕ → List Kind → Kind → List Tree → Tree
built_in_call name params result args = AnExpr result 0 NothingStands (ACall (AnExpr result 0 (BuiltInStands name params result) AName) (trees args))

abbrev pub malloc : Tree → Tree
malloc bytes = built_in_call (codes "malloc") (a_size ∷ []) (Pointer 1) (bytes ∷ [])

abbrev pub free : Tree → Tree
free block = built_in_call (codes "free") (Pointer 1 ∷ []) Void (block ∷ [])

abbrev pub memset : Tree → Tree → Tree → Tree
memset block byte count = built_in_call (codes "memset") (Pointer 1 ∷ an_int ∷ a_size ∷ []) (Pointer 1) (block ∷ byte ∷ count ∷ [])

abbrev pub memcpy : Tree → Tree → Tree → Tree
memcpy to from count = built_in_call (codes "memcpy") (Pointer 1 ∷ Pointer 1 ∷ a_size ∷ []) (Pointer 1) (to ∷ from ∷ count ∷ [])

abbrev pub expect : Tree → Tree → Tree
expect value expected = built_in_call (codes "__builtin_expect") (a_long ∷ a_long ∷ []) a_long (value ∷ expected ∷ [])

abbrev pub assume : Tree → Tree
assume value = built_in_call (codes "__VERIFIER_assume") (an_int ∷ []) Void (value ∷ [])

abbrev pub abort : Tree
abort = built_in_call (codes "abort") [] Void []

abbrev pub any_int : Tree
any_int = built_in_call (codes "__VERIFIER_nondet_int") [] an_int []

abbrev pub call : ℕ → Kind → List Tree → Tree
call function result args = AnExpr result 0 NothingStands (ACall (AnExpr result 0 (BodyStands function) AName) (trees args))

-- statements
abbrev pub eval : Tree → Tree
eval expr = AStmt 0 0 (AnEval (OneTree expr NoTree))

abbrev pub give : Tree → Tree
give expr = AStmt 0 0 (AReturn (OneTree expr NoTree))

abbrev pub give_nothing : Tree
give_nothing = AStmt 0 0 (AReturn NoTree)

abbrev pub leave : Tree
leave = AStmt 0 0 ABreak

abbrev pub go_on : Tree
go_on = AStmt 0 0 AContinue

abbrev pub block : List Tree → Tree
block body = AStmt 0 0 (ABlock (trees body))

abbrev pub where_true : Tree → Tree → Tree
where_true test one = AStmt 0 0 (AnIf 0 test one NoTree)

abbrev pub where_either : Tree → Tree → Tree → Tree
where_either test one other = AStmt 0 0 (AnIf 0 test one (OneTree other NoTree))

abbrev pub while_true : Tree → Tree → Tree
while_true test body = AStmt 0 0 (AWhile 0 test body)

abbrev pub do_while : Tree → Tree → Tree
do_while body test = AStmt 0 0 (ADo 0 body test)

abbrev pub for_each : Tree → Option Tree → Option Tree → Tree → Tree
for_each first test next body = AStmt 0 0 (AFor first (perhaps test) 0 (perhaps next) 0 body)

abbrev pub nothing : Tree
nothing = AStmt 0 0 (AnEval NoTree)

abbrev pub declare : ℕ → Tree
declare name = AStmt 0 0 (ADeclaration name NoTree)

abbrev pub declare_as : ℕ → Kind → Tree → Tree
declare_as name kind value = AStmt 0 0 (ADeclaration name (OneTree (AValue 0 kind value) NoTree))

abbrev pub declare_braces : ℕ → List Tree → Tree
declare_braces name values = AStmt 0 0 (ADeclaration name (OneTree (SomeBraces (trees values)) NoTree))

-- a statement that ends at a token
abbrev pub ends : ℕ → Tree → Tree
ends last (AStmt first old deed) = AStmt first last deed
ends last other = other

-- objects and functions
abbrev pub local_at : ℕ → ℕ → Local
local_at name bytes = record { name = name; bytes = bytes }

abbrev pub parameter : ℕ → ℕ → Kind → Parameter
parameter name bytes kind = record { object = record { token = Some name; bytes = bytes }; kind = kind }

abbrev pub main : List Tree → Function Tree
main body = record { is_main = true; params = []; result = an_int; body = body; close = token 0 }

abbrev pub function : Kind → List Parameter → List Tree → Function Tree
function result params body = record { is_main = false; params = params; result = result; body = body; close = token 0 }
