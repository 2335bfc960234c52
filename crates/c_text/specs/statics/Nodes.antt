-- Parts of trees, as references to them say.
use Rattle.std.specs.Prelude.{List, [], ◌∷◌, Option, None, Some}
use Rattle.std.specs.List.{flat_map}
use Rattle.cbase.specs.declared.tree.expr.ExprForm.TheViews.{out-Enumerator}
use Rattle.cbase.specs.declared.tree.spec.Enumerator.{Enumerator}
use Rattle.cbase.specs.declared.tree.spec.FieldDecl.{FieldDecl}
use Rattle.cbase.specs.declared.tree.stmt.Stmt.{Stmt as Statement}
use Rattle.c_machine.specs.Statics.{Node, AnExpr, AStmt, SomeWords, AnInit, in_members, optional}
use Rattle.c_text.specs.declared.statics.node.NodeForm.{NodeForm}
use Rattle.c_text.specs.declared.statics.node.NodeForm.TheVariants.{Expr, Stmt, Words, Init}

abbrev pub node_of : NodeForm → Node
node_of (Expr tree) = AnExpr tree.now
node_of (Stmt tree) = AStmt tree.now
node_of (Words tree) = SomeWords tree.now
node_of (Init tree) = AnInit tree.now

-- what may stand behind `else`, and in the braces of a struct and of an enum
abbrev pub in_branches : Option Statement → List Node
in_branches None = []
in_branches (Some other) = AStmt other ∷ []

abbrev pub in_fields : Option (List FieldDecl) → List Node
in_fields None = []
in_fields (Some fields) = flat_map in_members fields

abbrev pub in_values : Option (List Enumerator) → List Node
in_values None = []
in_values (Some values) = flat_map (λ value. optional (out-Enumerator value).value) values
