-- The parts that stand in a program, and which calls are right there.
use Rattle.std.specs.Prelude.{◌≡◌, ℕ, List, Some, slice_get}
use Rattle.cbase.specs.declared.tree.expr.Expr.{Expr}
use Rattle.cbase.specs.declared.tree.expr.ExprForm.TheOpen as tree
use Rattle.cbase.specs.declared.tree.expr.ExprForm.TheViews.{out-ExprForm}
use Rattle.cbase.specs.declared.tree.item.Item.{Item}
use Rattle.c_machine.specs.Awaiting.{Parts, CallsRightly}
use Rattle.c_machine.specs.Program.{Program}
use Rattle.c_machine.specs.Statics.{Node, AnExpr, AStmt, AnInit, in_item, in_node}
use Rattle.c_machine.specs.Trees.{text_of}

-- a part stands in an item of the program, or in a part that does
pub data Stands (p : Program) : Node → Type 0 where
  InItem : (number place : ℕ) (item : Item) (node : Node) → slice_get p.items number ≡ Some item → slice_get (in_item item) place ≡ Some node → Stands p node
  Within : (outer node : Node) (place : ℕ) → Stands p outer → slice_get (in_node outer) place ≡ Some node → Stands p node

abbrev pub parts_of : (p : Program) → Parts (text_of p)
parts_of p = record { expr = λ expr. Stands p (AnExpr expr); stmt = λ stmt. Stands p (AStmt stmt); init = λ init. Stands p (AnInit init) }

-- each call that stands there has as many arguments as what it calls has parameters (C11 6.5.2.2p2)
abbrev pub AreCallsRight : Program → Type 0
AreCallsRight p =
    (expr callee : Expr) (args : List Expr) → Stands p (AnExpr expr) → out-ExprForm expr.form ≡ tree.Call callee args → CallsRightly (text_of p) args ((text_of p).stands callee)
