-- What stands in an expression, in the order in which it is walked, and how each part is used.
use Rattle.std.specs.Prelude.{Bool, true, false, List, [], ◌∷◌, ◌++◌, map}
use Rattle.cbase.specs.declared.tree.decl.TypeName.{TypeName}
use Rattle.cbase.specs.declared.tree.expr.Expr.{Expr}
use Rattle.cbase.specs.declared.tree.expr.ExprForm.TheOpen.{Name, Constant, Unary, Binary, Assign, Count, Choose, Cast, SizeOf, SizeOfType, OffsetOf, Index, ExprForm::Member, Call, Inner, AssertFail, Part::Member, At}
use Rattle.cbase.specs.declared.tree.expr.ExprForm.TheViews.{out-Part}
use Rattle.cbase.specs.declared.tree.expr.Part.{Part}
use Rattle.cbase.specs.declared.tree.operators.UnaryOp.{UnaryOp}
use Rattle.cbase.specs.declared.tree.operators.UnaryOp.TheVariants.{Address, Follow, Plus, Minus, Flip, Not}
use Rattle.cbase.specs.declared.tree.stmt.Stmt.{Stmt}
use Rattle.typing.specs.Forms.{Form, Step}

pub data Piece : Type 0 where
  -- its value is taken, or given: an lvalue is loaded or stored to, which wants a complete type
  Loaded : Expr → Piece
  -- only its place or its type is asked
  Unloaded : Expr → Piece
  -- what is called
  Called : Expr → Piece
  -- a type name
  OfType : TypeName → Piece
  -- an index in `__builtin_offsetof`
  ConstantIndex : Expr → Piece
  -- a size of an array in a type
  SizeOfArray : Expr → Piece
  -- the block of a statement expression
  BlockOf : List Stmt → Piece

-- the operand of `&` is not loaded (C11 6.3.2.1p2), those of the other unary operators are
abbrev pub operand_of : UnaryOp → Expr → Piece
operand_of Address arg = Unloaded arg
operand_of Follow arg = Loaded arg
operand_of Plus arg = Loaded arg
operand_of Minus arg = Loaded arg
operand_of Flip arg = Loaded arg
operand_of Not arg = Loaded arg

-- what stands before `->` is loaded, what stands before `.` is not
abbrev pub base_of : Bool → Expr → Piece
base_of true base = Loaded base
base_of false base = Unloaded base

-- the indices on the way to a member
abbrev pub index_in : Step → List Piece
index_in (Part::Member name) = []
index_in (At index) = ConstantIndex index ∷ []

abbrev pub indices_in : List Part → List Piece
indices_in [] = []
indices_in (step ∷ path) = index_in (out-Part step) ++ indices_in path

-- what stands in each form
abbrev pub pieces_in : Form → List Piece
pieces_in (Name name) = []
pieces_in (Constant spelling) = []
pieces_in (Unary op arg) = operand_of op arg ∷ []
pieces_in (Binary op left right) = Loaded left ∷ Loaded right ∷ []
pieces_in (Assign op left right) = Loaded left ∷ Loaded right ∷ []
pieces_in (Count up after arg) = Loaded arg ∷ []
pieces_in (Choose test one other) = Loaded test ∷ Loaded one ∷ Loaded other ∷ []
pieces_in (Cast to arg) = OfType to ∷ Loaded arg ∷ []
pieces_in (SizeOf arg) = Unloaded arg ∷ []
pieces_in (SizeOfType to) = OfType to ∷ []
pieces_in (OffsetOf to path) = OfType to ∷ indices_in path
pieces_in (Index base index) = Loaded base ∷ Loaded index ∷ []
pieces_in (ExprForm::Member base name through) = base_of through base ∷ []
pieces_in (Call callee args) = Called callee ∷ map Loaded args
pieces_in (Inner body close) = BlockOf body ∷ []
pieces_in AssertFail = []
