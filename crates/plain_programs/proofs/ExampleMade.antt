-- The flow graph of the example is the one that is written down.
use Rattle.std.proofs.Common.{◌≡◌, ℕ, ◌+◌, ◌*◌, ap, ◌∙◌, arith, [], ◌++◌, length, refl, Option, Some}
use Rattle.cbase.specs.declared.abi.Abi.TheVariants.{Lp64}
use Rattle.cbase.specs.declared.ctype.CType as C
use Rattle.cbase.specs.declared.tree.expr.ExprForm.TheBlock as block
use Rattle.cbase.specs.declared.tree.expr.ExprForm.TheViews as views
use Rattle.flow.specs.declared.flow_graph.Flow.{Flow}
use Rattle.c_machine.specs.Statics.{AnExpr, AStmt, SomeWords, nodes_of, sets_in_item, sets_within, static_sets, in_item}
use Rattle.c_machine.specs.Text.{Text}
use Rattle.c_machine.specs.Trees.{static_rows, text_of}
use Rattle.c_machine.specs.Witness.{an_int}
use Rattle.c_text.specs.statics.Weights.{weight}
use Rattle.c_text.proofs.statics.Weights.{one_more, item_weighs}
use Rattle.lowering.specs.Lowering.{flow_of, flow_in}
use Rattle.plain_programs.specs.Example.{five, gives_five, main, program, graph}

-- how many parts there are in main
parts_are : nodes_of main ≡ 3
unfolding C.out-CType views.out-ExprForm views.roll-ExprForm views.out-StmtForm views.roll-StmtForm views.out-Declared views.roll-Declared views.out-Param
    views.roll-Param views.out-TypeSpec views.roll-TypeSpec block.hidden-the_row-Expr-0 block.shown-the_row-Expr-0 block.hidden-the_row-Expr-3
    block.shown-the_row-Expr-3 block.hidden-the_row-Stmt-4 block.shown-the_row-Stmt-4 block.hidden-the_row-Stmt-9 block.shown-the_row-Stmt-9
    block.hidden-the_row-Declared-10 block.shown-the_row-Declared-10 block.hidden-the_row-Declared-sizes-1-11 block.shown-the_row-Declared-sizes-1-11
    block.hidden-the_row-Param-12 block.shown-the_row-Param-12 denote.Hole.Carrier.out denote.Hole.Carrier.roll denote.Hole.Carrier.shown denote.Hole.Carrier.hidden
parts_are =
    let words : weight (SomeWords an_int) ≡ 1 = one_more (SomeWords an_int) in
    let of_five : weight (AnExpr five) ≡ 1 = one_more (AnExpr five) in
    let in_first : weight (AStmt gives_five) ≡ 1 + (weight (AnExpr five) + 0) = one_more (AStmt gives_five) in
    let first : nodes_of main ≡ weight (SomeWords an_int) + (weight (AStmt gives_five) + 0) = item_weighs main in
    omega (arith, first, words, in_first, of_five)

-- its text, where it is worked out how many parts there are in main
abbrev text_at : ℕ → Text
text_at one = record (text_of program) {
  sets = static_sets program ((sets_in_item main ++ sets_within one (in_item main)) ++ []);
  enough = length (static_rows program) + 8 * (one + 0);
}

abbrev flow_at : ℕ → Option Flow
flow_at one = flow_in Lp64 (text_at one)

pub is_made : flow_of program ≡ Some graph
unfolding C.out-CType views.out-ExprForm views.roll-ExprForm views.out-StmtForm views.roll-StmtForm views.out-Declared views.roll-Declared views.out-Param
    views.roll-Param views.out-TypeSpec views.roll-TypeSpec block.hidden-the_row-Expr-0 block.shown-the_row-Expr-0 block.hidden-the_row-Expr-3
    block.shown-the_row-Expr-3 block.hidden-the_row-Stmt-4 block.shown-the_row-Stmt-4 block.hidden-the_row-Stmt-9 block.shown-the_row-Stmt-9
    block.hidden-the_row-Declared-10 block.shown-the_row-Declared-10 block.hidden-the_row-Declared-sizes-1-11 block.shown-the_row-Declared-sizes-1-11
    block.hidden-the_row-Param-12 block.shown-the_row-Param-12 denote.Hole.Carrier.out denote.Hole.Carrier.roll denote.Hole.Carrier.shown denote.Hole.Carrier.hidden
is_made =
    let read : flow_of program ≡ flow_at (nodes_of main) = refl in
    let made : flow_at 3 ≡ Some graph = refl in
    read ∙ ap flow_at parts_are ∙ made
