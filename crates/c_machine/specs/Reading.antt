-- How the trees of C are read, form by form: equations that the layers of `Trees.antt` meet.
use Rattle.std.specs.Prelude.{◌≡◌, ℕ, Bool, true, false, List, map, Option}
use Rattle.cbase.specs.declared.ctype.CType.{CType}
use Rattle.cbase.specs.declared.ctype.CType.TheVariants as ctype
use Rattle.cbase.specs.declared.place.Place.{Place}
use Rattle.cbase.specs.declared.tree.decl.TypeName.{TypeName}
use Rattle.cbase.specs.declared.tree.expr.Expr.{Expr}
use Rattle.cbase.specs.declared.tree.expr.ExprForm.{ExprForm}
use Rattle.cbase.specs.declared.tree.expr.ExprForm.TheVariants as tree
use Rattle.cbase.specs.declared.tree.expr.ExprForm.TheViews.{roll-Decl, roll-Declared, out-InitPart}
use Rattle.cbase.specs.declared.tree.expr.Part.{Part}
use Rattle.cbase.specs.declared.tree.identifier.Identifier.{Identifier}
use Rattle.cbase.specs.declared.tree.init.Init.{Init}
use Rattle.cbase.specs.declared.tree.init.Init.TheVariants as init
use Rattle.cbase.specs.declared.tree.init.InitPart.{InitPart}
use Rattle.cbase.specs.declared.tree.operators.BinaryOp.{BinaryOp}
use Rattle.cbase.specs.declared.tree.operators.UnaryOp.{UnaryOp}
use Rattle.cbase.specs.declared.tree.stmt.Stmt.{Stmt}
use Rattle.cbase.specs.declared.tree.stmt.StmtForm.{StmtForm}
use Rattle.cbase.specs.declared.tree.stmt.StmtForm.TheVariants as stmt
use Rattle.typing.specs.ctypes.Integers.{integer, truth}
use Rattle.typing.specs.ctypes.Kinds.{kind_of, target_of}
use Rattle.typing.specs.Forms.{NamesParts, DeclaratorParts}
use Rattle.typing.specs.Idiom.{member_offset}
use Rattle.typing.specs.Nodes.{pointed_offset}
use Rattle.c_machine.specs.Program.{Program, type_of, constant_of, size_of}
use Rattle.c_machine.specs.declared.kind.Kind.TheVariants.{Integer, Pointer, Array, Struct, Void}
use Rattle.c_machine.specs.Text.{Form, Name, Known, Unary, Binary, Assign, Count, Choose, Cast, Index, Member, Call, Inner, AssertFail, Initialiser, Value, Braces, Clause, Declare, Eval, Block, If, While, Do, For, Break, Continue, Return}
use Rattle.c_machine.specs.Trees.{step_of, kind_in, offset, name_of, text_of}

-- an expression of a number at a place, and a statement from one place to another; and what the machine is told of them
abbrev pub expr_of : ℕ → Place → ExprForm → Expr
expr_of number place form = record { number = number; place = place; form = form }

abbrev pub stmt_of : Place → Place → StmtForm → Stmt
stmt_of first last form = record { place = first; after = last; form = form }

abbrev pub read : Program → Expr → Form Expr Stmt
read p expr = (text_of p).form expr

abbrev pub read_stmt : Program → Stmt → Clause Expr Stmt Init
read_stmt p statement = (text_of p).clause statement

abbrev pub read_init : Program → Init → Initialiser Expr Init
read_init p initial = (text_of p).initialiser initial

-- expressions (C11 6.5)
pub record AreExpressionsRead (p : Program) (number : ℕ) (place : Place) : Type 0 where
  pub name : (bytes : List ℕ) → read p (expr_of number place (tree.Name bytes)) ≡ Name
  pub constant : (spelling : List ℕ) →
      read p (expr_of number place (tree.Constant spelling)) ≡ Known (constant_of p (expr_of number place (tree.Constant spelling)))
  pub unary : (op : UnaryOp) (arg : Expr) → read p (expr_of number place (tree.Unary op arg)) ≡ Unary op arg
  pub binary : (op : BinaryOp) (left right : Expr) → read p (expr_of number place (tree.Binary op left right)) ≡ Binary op left right
  pub assignment : (op : Option BinaryOp) (left right : Expr) → read p (expr_of number place (tree.Assign op left right)) ≡ Assign op left right
  pub counting : (up after : Bool) (arg : Expr) → read p (expr_of number place (tree.Count up after arg)) ≡ Count up after arg
  pub choice : (test one other : Expr) → read p (expr_of number place (tree.Choose test one other)) ≡ Choose test one other
  pub cast : (to : TypeName) (arg : Expr) → read p (expr_of number place (tree.Cast to arg)) ≡ Cast arg
  pub size : (arg : Expr) → read p (expr_of number place (tree.SizeOf arg)) ≡ Known (constant_of p (expr_of number place (tree.SizeOf arg)))
  pub size_of_type : (to : TypeName) → read p (expr_of number place (tree.SizeOfType to)) ≡ Known (constant_of p (expr_of number place (tree.SizeOfType to)))
  pub offset_of : (to : TypeName) (path : List Part) →
      read p (expr_of number place (tree.OffsetOf to path)) ≡ Known (constant_of p (expr_of number place (tree.OffsetOf to path)))
  pub index : (base index : Expr) → read p (expr_of number place (tree.Index base index)) ≡ Index base index
  pub member : (base : Expr) (name : Identifier) →
      read p (expr_of number place (tree.Member base name false)) ≡ Member base (offset (member_offset p.abi p.structs (type_of p base) name.name)) false
  pub pointed : (base : Expr) (name : Identifier) →
      read p (expr_of number place (tree.Member base name true))
      ≡ Member base (offset (pointed_offset p.abi p.structs (kind_of p.structs (type_of p base)) name.name)) true
  pub call : (callee : Expr) (args : List Expr) → read p (expr_of number place (tree.Call callee args)) ≡ Call callee args
  pub inner : (body : List Stmt) (close : Place) → read p (expr_of number place (tree.Inner body close)) ≡ Inner body close
  pub assertion : read p (expr_of number place tree.AssertFail) ≡ AssertFail

-- statements, declared names and initialisers (6.7, 6.8)
pub record AreStatementsRead (p : Program) (first last : Place) : Type 0 where
  pub declaration : (parts : NamesParts) → read_stmt p (stmt_of first last (stmt.Declare (roll-Decl parts))) ≡ Declare (map name_of parts.names)
  pub declared : (parts : DeclaratorParts) → name_of (roll-Declared parts) ≡ record { place = parts.place; init = parts.init }
  pub evaluation : (expr : Option Expr) → read_stmt p (stmt_of first last (stmt.Eval expr)) ≡ Eval expr
  pub block : (body : List Stmt) → read_stmt p (stmt_of first last (stmt.Block body)) ≡ Block body
  pub branch : (test : Expr) (close : Place) (one : Stmt) (other : Option Stmt) →
      read_stmt p (stmt_of first last (stmt.If test close one other)) ≡ If test close one other
  pub while_loop : (test : Expr) (close : Place) (body : Stmt) → read_stmt p (stmt_of first last (stmt.While test close body)) ≡ While test close body
  pub do_loop : (body : Stmt) (test : Expr) (close : Place) → read_stmt p (stmt_of first last (stmt.Do body test close)) ≡ Do body test close
  pub for_loop : (begin : Stmt) (test : Option Expr) (semicolon : Place) (next : Option Expr) (close : Place) (body : Stmt) →
      read_stmt p (stmt_of first last (stmt.For begin test semicolon next close body)) ≡ For begin test semicolon next close body
  pub leaving : read_stmt p (stmt_of first last stmt.Break) ≡ Break
  pub continuing : read_stmt p (stmt_of first last stmt.Continue) ≡ Continue
  pub returning : (expr : Option Expr) → read_stmt p (stmt_of first last (stmt.Return expr)) ≡ Return expr
  pub value : (value : Expr) (after : Place) → read_init p (init.Value value after) ≡ Value value after
  pub braces : (parts : List InitPart) → read_init p (init.Braces parts) ≡ Braces (map (λ part. (out-InitPart part).init) parts)

-- types (6.2.5)
pub record AreTypesRead (p : Program) : Type 0 where
  pub void : kind_in p ctype.Void ≡ Void
  pub bool : kind_in p ctype.Bool ≡ Integer truth
  pub int : (bytes : ℕ) (signed : Bool) → kind_in p (ctype.Int bytes signed) ≡ Integer (integer bytes signed)
  pub pointer : (item : CType) → kind_in p (ctype.Pointer item) ≡ Pointer (step_of p item (target_of p.structs item))
  pub array : (item : CType) (count : ℕ) → kind_in p (ctype.Array item count) ≡ Array (step_of p item (target_of p.structs item))
  pub struct : (number : ℕ) → kind_in p (ctype.Struct number) ≡ Struct (size_of p (ctype.Struct number))

-- all that is read
abbrev pub AreRead : Type 0
AreRead =
    (p : Program) → ((number : ℕ) (place : Place) → AreExpressionsRead p number place) × ((first last : Place) → AreStatementsRead p first last) × AreTypesRead p
