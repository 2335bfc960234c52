-- What a form makes, as the code tells it, for each program that its context stands for.
use Rattle.std.specs.Prelude.{◌≡◌, Bool, List, Option, None, Some}
use Rattle.cbase.specs.declared.tree.expr.Expr.{Expr}
use Rattle.cbase.specs.declared.tree.operators.BinaryOp.{BinaryOp}
use Rattle.cbase.specs.declared.tree.stmt.Stmt.{Stmt}
use Rattle.c_machine.specs.declared.kind.Kind.{Kind}
use Rattle.c_machine.specs.declared.kind.Kind.TheVariants.{Integer, Void}
use Rattle.c_machine.specs.Program.{Program}
use Rattle.c_machine.specs.Text.{Form, Text}
use Rattle.c_machine.specs.Trees.{text_of}
use Rattle.lowering.specs.declared.called.Called.{Called}
use Rattle.lowering.specs.declared.called.Called.TheVariants.{BuiltIn, Body, Nothing}
use Rattle.lowering.specs.Source.{Source, IsSource}
use Rattle.lowering.specs.Table.{assigned, is_made, kind_made, kind_of_last, last_of, result_of}
use Rattle.typing.specs.ctypes.Integers.{promoted}

abbrev pub promoted_kind : Kind → Kind
promoted_kind (Integer of) = Integer (promoted of)
promoted_kind kind = kind

abbrev pub kind_of_called : Called → Kind
kind_of_called (BuiltIn what params made) = made
kind_of_called (Body number params sized made) = made
kind_of_called Nothing = Void

pub record IsResult (source : Source) (callee : Expr) (kind : Kind) : Type 0 where
  pub of : (p : Program) → IsSource source p → kind ≡ result_of (text_of p) ((text_of p).stands callee)

-- that of an assignment, and that of a statement expression
abbrev pub assigned_kind : (t : Text) → Option BinaryOp → t.Expr → Kind
assigned_kind t None left = assigned (t.kind left)
assigned_kind t (Some op) left = t.kind left

pub record IsAssignedKind (source : Source) (op : Option BinaryOp) (left : Expr) (kind : Kind) : Type 0 where
  pub of : (p : Program) → IsSource source p → kind ≡ assigned_kind (text_of p) op left

pub record IsLastKind (source : Source) (body : List Stmt) (kind : Kind) : Type 0 where
  pub of : (p : Program) → IsSource source p → kind ≡ kind_of_last (text_of p) (last_of (text_of p) body)

pub record IsMadeKind (source : Source) (expr : Expr) (form : Form Expr Stmt) (kind : Kind) : Type 0 where
  pub of : (p : Program) → IsSource source p → kind ≡ kind_made (text_of p) expr form

pub record IsMade (source : Source) (expr : Expr) (form : Form Expr Stmt) (made : Bool) : Type 0 where
  pub of : (p : Program) → IsSource source p → made ≡ is_made (text_of p) expr form
