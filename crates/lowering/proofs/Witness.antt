-- A closed program that has all that the law asks: its graph is made, and the graph keeps all of `IsFlow`. So the law is not about nothing.
use Rattle.std.proofs.Common.{◌≡◌, ◌↔◌, ℕ, ◌+◌, ◌*◌, ap, ◌∙◌, arith, List, [], ◌∷◌, ◌++◌, length, refl, Option, Some, None}
use Rattle.std.specs.Prelude.{true, false, codes}
use Rattle.cbase.specs.declared.abi.Abi.TheVariants.{Lp64}
use Rattle.cbase.specs.declared.ctype.CType as C
use Rattle.cbase.specs.declared.place.Place.{Place}
use Rattle.cbase.specs.declared.tree.decl.Storage.TheVariants.{Plain}
use Rattle.cbase.specs.declared.tree.expr.Expr.{Expr}
use Rattle.cbase.specs.declared.tree.expr.ExprForm.TheVariants.{Call}
use Rattle.cbase.specs.declared.tree.expr.ExprForm.TheBlock as block
use Rattle.cbase.specs.declared.tree.expr.ExprForm.TheViews as views
use Rattle.cbase.specs.declared.tree.item.Item.{Item}
use Rattle.cbase.specs.declared.tree.item.Item.TheVariants.{Function as FunctionIs}
use Rattle.cbase.specs.declared.tree.stmt.Stmt.{Stmt}
use Rattle.cbase.specs.declared.tree.stmt.StmtForm.TheVariants.{Return}
use Rattle.choices.specs.declared.choice.Choice.{Choice}
use Rattle.flow.specs.declared.flow_graph.Flow.{Flow}
use Rattle.flow.specs.Valid.{IsFlow}
use Rattle.typing.specs.ctypes.Binary.{int_type}
use Rattle.typing.specs.Entities.{FunctionIs as FunctionStands}
use Rattle.typing.specs.Outcomes.{Handed, ExpressionHanded, FunctionHanded}
use Rattle.typing.specs.Sample.{token, node, name, constant, statement, function_declarator}
use Rattle.c_machine.specs.Program.{Program}
use Rattle.c_machine.specs.Run.{Leads}
use Rattle.c_machine.specs.Statics.{AnExpr, AStmt, SomeWords, nodes_of, sets_in_item, sets_within, static_sets, in_item}
use Rattle.c_machine.specs.Text.{Text}
use Rattle.c_machine.specs.Trees.{static_rows, text_of}
use Rattle.c_machine.specs.Witness.{an_int}
use Rattle.c_text.specs.statics.Weights.{weight}
use Rattle.c_text.proofs.statics.Weights.{one_more, item_weighs}
use Rattle.simulation.specs.Laws.{GraphLeads}
use Rattle.lowering.specs.Lowering.{flow_of, flow_in}
use Rattle.lowering.proofs.FlowTested.{flow_tested}
use Rattle.lowering.proofs.Law.{graphs_meet}

-- int f(void) { return 5; }    int main(void) { return f(); }
abbrev five : Expr
five = constant (codes "5") 0 8

abbrev callee : Expr
callee = name (codes "f") 1 20

abbrev call : Expr
call = node 2 20 (Call callee [])

abbrev gives_five : Stmt
gives_five = statement (Return (Some five))

abbrev gives_call : Stmt
gives_call = statement (Return (Some call))

abbrev function : Item
function = FunctionIs an_int Plain (function_declarator (codes "f") 1 []) (gives_five ∷ []) (token 10)

abbrev main : Item
main = FunctionIs an_int Plain (function_declarator (codes "main") 12 []) (gives_call ∷ []) (token 30)

abbrev handed : List Handed
handed =
    FunctionHanded (record { token = 1; result = int_type })
    ∷ ExpressionHanded (record { number = 0; ctype = int_type; stands = None; value = Some 5 })
    ∷ FunctionHanded (record { token = 12; result = int_type })
    ∷ ExpressionHanded (record { number = 1; ctype = int_type; stands = Some (FunctionStands (record { result = int_type; params = []; defined = true; built_in = false })); value = None })
    ∷ ExpressionHanded (record { number = 2; ctype = int_type; stands = None; value = None })
    ∷ []

abbrev pub program : Program
program = record { items = function ∷ main ∷ []; handed = handed; structs = []; abi = Lp64; strict = false }

-- how many parts there are in its functions
parts_are : (nodes_of function ≡ 3) × (nodes_of main ≡ 4)
unfolding C.out-CType views.out-ExprForm views.roll-ExprForm views.out-StmtForm views.roll-StmtForm views.out-Declared views.roll-Declared views.out-Param
    views.roll-Param views.out-TypeSpec views.roll-TypeSpec block.hidden-the_row-Expr-0 block.shown-the_row-Expr-0 block.hidden-the_row-Expr-3
    block.shown-the_row-Expr-3 block.hidden-the_row-Stmt-4 block.shown-the_row-Stmt-4 block.hidden-the_row-Stmt-9 block.shown-the_row-Stmt-9
    block.hidden-the_row-Declared-10 block.shown-the_row-Declared-10 block.hidden-the_row-Declared-sizes-1-11 block.shown-the_row-Declared-sizes-1-11
    block.hidden-the_row-Param-12 block.shown-the_row-Param-12 denote.Hole.Carrier.out denote.Hole.Carrier.roll denote.Hole.Carrier.shown denote.Hole.Carrier.hidden
parts_are =
    let words : weight (SomeWords an_int) ≡ 1 = one_more (SomeWords an_int) in
    let of_five : weight (AnExpr five) ≡ 1 = one_more (AnExpr five) in
    let of_callee : weight (AnExpr callee) ≡ 1 = one_more (AnExpr callee) in
    let of_call : weight (AnExpr call) ≡ 1 + (weight (AnExpr callee) + 0) = one_more (AnExpr call) in
    let in_first : weight (AStmt gives_five) ≡ 1 + (weight (AnExpr five) + 0) = one_more (AStmt gives_five) in
    let in_second : weight (AStmt gives_call) ≡ 1 + (weight (AnExpr call) + 0) = one_more (AStmt gives_call) in
    let first : nodes_of function ≡ weight (SomeWords an_int) + (weight (AStmt gives_five) + 0) = item_weighs function in
    let second : nodes_of main ≡ weight (SomeWords an_int) + (weight (AStmt gives_call) + 0) = item_weighs main in
    (omega (arith, first, words, in_first, of_five), omega (arith, second, words, in_second, of_call, of_callee))

-- its text, where it is worked out how many parts there are in its functions
abbrev text_at : ℕ → ℕ → Text
text_at one other = record (text_of program) {
  sets = static_sets program ((sets_in_item function ++ sets_within one (in_item function)) ++ ((sets_in_item main ++ sets_within other (in_item main)) ++ []));
  enough = length (static_rows program) + 8 * (one + (other + 0));
}

abbrev flow_at : ℕ → ℕ → Option Flow
flow_at one other = flow_in Lp64 (text_at one other)

abbrev no_graph : Flow
no_graph = record { points = 0; edges = []; functions = []; variables = []; initial = []; heads = []; main = 0; stands = []; abi = Lp64; strict = false }

abbrev made : Option Flow → Flow
made None = no_graph
made (Some flow) = flow

abbrev flow : Flow
flow = made (flow_at 3 4)

pub is_made : flow_of program ≡ Some flow
unfolding C.out-CType views.out-ExprForm views.roll-ExprForm views.out-StmtForm views.roll-StmtForm views.out-Declared views.roll-Declared views.out-Param
    views.roll-Param views.out-TypeSpec views.roll-TypeSpec block.hidden-the_row-Expr-0 block.shown-the_row-Expr-0 block.hidden-the_row-Expr-3
    block.shown-the_row-Expr-3 block.hidden-the_row-Stmt-4 block.shown-the_row-Stmt-4 block.hidden-the_row-Stmt-9 block.shown-the_row-Stmt-9
    block.hidden-the_row-Declared-10 block.shown-the_row-Declared-10 block.hidden-the_row-Declared-sizes-1-11 block.shown-the_row-Declared-sizes-1-11
    block.hidden-the_row-Param-12 block.shown-the_row-Param-12 denote.Hole.Carrier.out denote.Hole.Carrier.roll denote.Hole.Carrier.shown denote.Hole.Carrier.hidden
is_made =
    let read : flow_of program ≡ flow_at (nodes_of function) (nodes_of main) = refl in
    let made : flow_at 3 4 ≡ Some flow = refl in
    read ∙ ap (λ (one : ℕ). flow_at one (nodes_of main)) parts_are.0 ∙ ap (λ (other : ℕ). flow_at 3 other) parts_are.1 ∙ made

pub is_flow : IsFlow flow
unfolding C.out-CType views.out-ExprForm views.roll-ExprForm views.out-StmtForm views.roll-StmtForm views.out-Declared views.roll-Declared views.out-Param
    views.roll-Param views.out-TypeSpec views.roll-TypeSpec block.hidden-the_row-Expr-0 block.shown-the_row-Expr-0 block.hidden-the_row-Expr-3
    block.shown-the_row-Expr-3 block.hidden-the_row-Stmt-4 block.shown-the_row-Stmt-4 block.hidden-the_row-Stmt-9 block.shown-the_row-Stmt-9
    block.hidden-the_row-Declared-10 block.shown-the_row-Declared-10 block.hidden-the_row-Declared-sizes-1-11 block.shown-the_row-Declared-sizes-1-11
    block.hidden-the_row-Param-12 block.shown-the_row-Param-12 denote.Hole.Carrier.out denote.Hole.Carrier.roll denote.Hole.Carrier.shown denote.Hole.Carrier.hidden
is_flow = flow_tested flow (record {
  edges = refl;
  functions = refl;
  main = refl;
  names = refl;
  heads = refl;
  each_point = refl;
  standing_variables = refl;
  standing_registers = refl;
  variable_sizes = refl;
  sizes = refl;
  initial = refl;
  parameters = refl;
  calls = refl;
  reads = refl;
  tests = refl;
  scopes = refl;
  leads = refl;
  entry_variables = refl;
  entry_registers = refl;
  entries = refl;
  exits = refl;
  exits_return = refl;
  exit_variables = refl;
  exits_end = refl;
  returns = refl;
  numbered = refl;
  sides = refl;
  closes = refl;
})

-- both meet the same faults
pub both_meet : (choices : List Choice) (kind : ℕ) (place : Place) → Leads (text_of program) choices kind place ↔ GraphLeads flow choices kind place
both_meet = graphs_meet program flow is_made is_flow
