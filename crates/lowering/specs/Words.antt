-- What the code knows of an expression without a memory, for each program that its context stands for.
use Rattle.std.specs.Prelude.{◌≡◌, ℕ, Bool, true, false, List, [], Option, None, Some, option_and_then}
use Rattle.cbase.specs.declared.tree.expr.Expr.{Expr}
use Rattle.cbase.specs.declared.tree.operators.BinaryOp.{BinaryOp}
use Rattle.cbase.specs.declared.tree.stmt.Stmt.{Stmt}
use Rattle.bytes_core.specs.declared.word.Word.{Word}
use Rattle.expressions.specs.Context.{Context}
use Rattle.c_machine.specs.declared.kind.Kind.{Kind}
use Rattle.c_machine.specs.Expressions.{value_kind}
use Rattle.c_machine.specs.Program.{Program}
use Rattle.c_machine.specs.Text.{Form}
use Rattle.c_machine.specs.Trees.{text_of}
use Rattle.simulation.specs.Names.{Name}
use Rattle.lowering.specs.Known.{Asked, Place, Value, and_then, answered, binary_word, both, known_word, loaded_from, name_word, named_word, operated_on, or_else, place_word, product_as, size_as, truth_of, value_word, word_as}
use Rattle.lowering.specs.Source.{Source, IsSource, Reads}

-- what is worked out: an expression; one as a kind; one by its form; what an lvalue holds; and two sides of an operator
pub data Part : Type 0 where
  Whole : Asked → Expr → Part
  As : Expr → Kind → Part
  OfValue : Expr → Form Expr Stmt → Part
  OfPlace : Expr → Form Expr Stmt → Part
  Loaded : Expr → Part
  TwoSides : BinaryOp → Expr → Expr → Part
  Operated : BinaryOp → Expr → Expr → Part
  Tests : Bool → Expr → Expr → Part

-- `&&`, and `||`, on what is known of their sides
abbrev pub tested : Bool → Option Word → Option Word → Option Word
tested true one other = and_then (option_and_then truth_of one) (option_and_then (answered true) other)
tested false one other = or_else (option_and_then truth_of one) (option_and_then (answered true) other)

-- where so many levels are left
abbrev pub word_part : (p : Program) → List Name → ℕ → Part → Option Word
word_part p statics levels (Whole asked expr) = known_word levels (text_of p) statics asked expr
word_part p statics levels (As expr kind) = word_as (text_of p) (known_word levels (text_of p) statics) expr kind
word_part p statics levels (OfValue expr form) = value_word (text_of p) statics (known_word levels (text_of p) statics) expr form
word_part p statics levels (OfPlace expr form) = place_word (text_of p) statics (known_word levels (text_of p) statics) expr form
word_part p statics levels (Loaded expr) = loaded_from ((text_of p).kind expr) (known_word levels (text_of p) statics Place expr)
word_part p statics levels (TwoSides op left right) = binary_word (text_of p) (known_word levels (text_of p) statics) op left right
word_part p statics levels (Operated op left right) =
    both (known_word levels (text_of p) statics Value left) (known_word levels (text_of p) statics Value right)
    (operated_on op (value_kind (text_of p) left) (value_kind (text_of p) right))
word_part p statics levels (Tests both left right) = tested both (known_word levels (text_of p) statics Value left) (known_word levels (text_of p) statics Value right)

pub record IsWord (source : Source) (statics : List Name) (levels : ℕ) (part : Part) (word : Option Word) : Type 0 where
  pub of : (p : Program) → IsSource source p → word ≡ word_part p statics levels part

pub record IsObjectWord (context : Context) (statics : List Name) (expr : Expr) (word : Option Word) : Type 0 where
  pub of : (p : Program) → Reads context p → word ≡ named_word statics ((text_of p).stands expr)

pub record IsNameWord (context : Context) (statics : List Name) (expr : Expr) (word : Option Word) : Type 0 where
  pub of : (p : Program) → Reads context p → word ≡ name_word statics ((text_of p).kind expr) ((text_of p).stands expr)

-- sizes
pub record IsSize (source : Source) (expr : Expr) (kind : Kind) (size : Option ℕ) : Type 0 where
  pub of : (p : Program) → IsSource source p → size ≡ size_as (text_of p) expr kind

pub record IsProduct (source : Source) (one : Expr) (kind : Kind) (other : Expr) (kind' : Kind) (size : Option ℕ) : Type 0 where
  pub of : (p : Program) → IsSource source p → size ≡ product_as (text_of p) one kind other kind'
