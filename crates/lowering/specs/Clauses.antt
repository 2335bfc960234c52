-- A statement as the code reads it.
use Rattle.std.specs.Prelude.{map}
use Rattle.cbase.specs.declared.tree.expr.Expr.{Expr}
use Rattle.cbase.specs.declared.tree.init.Init.{Init}
use Rattle.cbase.specs.declared.tree.stmt.Stmt.{Stmt}
use Rattle.c_machine.specs.Text.{Clause}
use Rattle.c_machine.specs.Text as text
use Rattle.c_machine.specs.Trees.{name_of}
use Rattle.lowering.specs.declared.clause.TreeClause.{TreeClause}
use Rattle.lowering.specs.declared.clause.TreeClause.TheVariants as tree

abbrev pub clause_in : TreeClause → Clause Expr Stmt Init
clause_in (tree.Declare names) = text.Declare (map name_of names)
clause_in (tree.Eval expr) = text.Eval expr
clause_in (tree.Block body) = text.Block body
clause_in (tree.If test close one other) = text.If test close one other
clause_in (tree.While test close body) = text.While test close body
clause_in (tree.Do body test close) = text.Do body test close
clause_in (tree.For first test semicolon next close body) = text.For first test semicolon next close body
clause_in tree.Break = text.Break
clause_in tree.Continue = text.Continue
clause_in (tree.Return expr) = text.Return expr
