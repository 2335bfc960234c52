-- What the machine asks of a program: its expressions and statements, one layer at a time, and what is known of each from typing.
--
-- No name, no scope and no type is looked for: an object is known by how many tokens stand before the name that declared it first, and a type by what
-- an access and an operator ask of it. `Trees.antt` says it of the trees of C with what typing hands on of them.
use Rattle.std.specs.Prelude.{ℕ, Bool, List, Option}
use Rattle.cbase.specs.declared.place.Place.{Place}
use Rattle.cbase.specs.declared.tree.operators.BinaryOp.{BinaryOp}
use Rattle.cbase.specs.declared.tree.operators.UnaryOp.{UnaryOp}
use Rattle.c_machine.specs.declared.kind.Kind.{Kind}
use Rattle.c_machine.specs.declared.object.Object.{Object}

-- what a name stands for: an object, a constant of an enum with its bits, a function that is built in, with its name, its parameters and its result, or one
-- that has a body in the text, by its number there
pub data Standing : Type 0 where
  ObjectStands : ℕ → Standing
  ConstantStands : ℕ → Standing
  BuiltInStands : List ℕ → List Kind → Kind → Standing
  BodyStands : ℕ → Standing
  NothingStands : Standing

-- an expression (6.5). Constants, `sizeof` and `__builtin_offsetof` have the bits of their value; a member has how many bytes stand before it, and is reached
-- by `->` or not
pub data Form (E S : Type 0) : Type 0 where
  Name : Form E S
  Known : Option ℕ → Form E S
  Unary : UnaryOp → E → Form E S
  Binary : BinaryOp → E → E → Form E S
  Assign : Option BinaryOp → E → E → Form E S
  Count : (up after : Bool) → E → Form E S
  Choose : E → E → E → Form E S
  Cast : E → Form E S
  Index : E → E → Form E S
  Member : E → ℕ → Bool → Form E S
  Call : E → List E → Form E S
  Inner : List S → Place → Form E S
  AssertFail : Form E S

-- a declared name with its initialiser, and an initialiser: a value with the place behind it, or parts in braces (6.7, 6.7.9)
pub record Declared (I : Type 0) : Type 0 where
  pub place : Place
  pub init : Option I

pub data Initialiser (E I : Type 0) : Type 0 where
  Value : E → Place → Initialiser E I
  Braces : List I → Initialiser E I

-- a statement (6.8), with the places of the `)` behind a condition, of the `;` behind that of a `for`, and of the `)` behind its last part
pub data Clause (E S I : Type 0) : Type 0 where
  Declare : List (Declared I) → Clause E S I
  Eval : Option E → Clause E S I
  Block : List S → Clause E S I
  If : E → Place → S → Option S → Clause E S I
  While : E → Place → S → Clause E S I
  Do : S → E → Place → Clause E S I
  For : S → Option E → Place → Option E → Place → S → Clause E S I
  Break : Clause E S I
  Continue : Clause E S I
  Return : Option E → Clause E S I

-- what a value of an initialiser sets: so many bytes behind the front of its object, as a value of that kind
pub record Store : Type 0 where
  pub offset : ℕ
  pub kind : Kind

-- an initialiser with the place of the name that it belongs to
pub record Set (I : Type 0) : Type 0 where
  pub place : Place
  pub init : I

-- a parameter: its object, and its type (6.9.1p7)
pub record Parameter : Type 0 where
  pub object : Object
  pub kind : Kind

-- a function with a body: whether it is main (5.1.2.2.1), its parameters in order, the type of its result, its body, and the place of the `}` behind that
-- (6.9.1)
pub record Function (S : Type 0) : Type 0 where
  pub is_main : Bool
  pub params : List Parameter
  pub result : Kind
  pub body : List S
  pub close : Place

pub record Text : Type 1 where
  pub Expr : Type 0
  pub Stmt : Type 0
  pub Init : Type 0
  -- an expression: what it is, its place, its own type, before an array becomes a pointer, and what its name stands for
  pub form : Expr → Form Expr Stmt
  pub place : Expr → Place
  pub kind : Expr → Kind
  pub stands : Expr → Standing
  -- a statement: what it is, and the places of its first and its last token; and an initialiser
  pub clause : Stmt → Clause Expr Stmt Init
  pub first : Stmt → Place
  pub last : Stmt → Place
  pub initialiser : Init → Initialiser Expr Init
  -- of a name that declares something: the token of the object; the automatic object without linkage that it declares, if it does; and what a value of its
  -- initialiser sets
  pub token : Place → ℕ
  pub automatic : Place → Option Object
  pub store : Place → Expr → Option Store
  -- the objects that live as long as the program runs, those of the file first, with their initialisers (6.2.4p3)
  pub statics : List Object
  pub sets : List (Set Init)
  -- a number of steps in which all these are made and written
  pub enough : ℕ
  -- the functions that have a body, by their numbers, and the one with which the program begins
  pub functions : List (Function Stmt)
  pub main : Option (Function Stmt)
  -- whether main may not return while an allocated block lives
  pub strict : Bool
