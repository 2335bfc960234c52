-- A plain program of few walks: `int main(void) { return 5; }`.
use Rattle.std.specs.Prelude.{ℕ, false, codes, List, [], ◌∷◌, None, Some}
use Rattle.cbase.specs.declared.abi.Abi.TheVariants.{Lp64}
use Rattle.cbase.specs.declared.tree.decl.Storage.TheVariants.{Plain}
use Rattle.cbase.specs.declared.tree.expr.Expr.{Expr}
use Rattle.cbase.specs.declared.tree.item.Item.{Item}
use Rattle.cbase.specs.declared.tree.item.Item.TheVariants.{Function as FunctionIs}
use Rattle.cbase.specs.declared.tree.stmt.Stmt.{Stmt}
use Rattle.cbase.specs.declared.tree.stmt.StmtForm.TheVariants.{Return as Returns}
use Rattle.flow.specs.declared.flow_graph.Flow.{Flow}
use Rattle.flow.specs.declared.flow_graph.FlowEdge.{FlowEdge}
use Rattle.flow.specs.declared.flow_graph.Standing.{Standing}
use Rattle.flow.specs.declared.flow_graph.Width.{Width}
use Rattle.flow.specs.declared.instruction.Instr.{Instr}
use Rattle.flow.specs.declared.instruction.Instr.TheVariants.{Number, Move, Enter, Leave, Finish, Return}
use Rattle.typing.specs.ctypes.Binary.{int_type}
use Rattle.typing.specs.Outcomes.{Handed, ExpressionHanded, FunctionHanded}
use Rattle.typing.specs.Sample.{token, constant, statement, function_declarator}
use Rattle.c_machine.specs.Program.{Program}
use Rattle.c_machine.specs.Witness.{an_int}
use Rattle.plain.specs.Followed.{HasFewWalks}
use Rattle.plain_programs.specs.Programs.{IsPlainProgram}

abbrev pub five : Expr
five = constant (codes "5") 0 8

abbrev pub gives_five : Stmt
gives_five = statement (Returns (Some five))

abbrev pub main : Item
main = FunctionIs an_int Plain (function_declarator (codes "main") 1 []) (gives_five ∷ []) (token 10)

abbrev pub handed : List Handed
handed =
    FunctionHanded (record { token = 1; result = int_type })
    ∷ ExpressionHanded (record { number = 0; ctype = int_type; stands = None; value = Some 5 })
    ∷ []

abbrev pub program : Program
program = record { items = main ∷ []; handed = handed; structs = []; abi = Lp64; strict = false }

-- its flow graph: behind the `return` nothing leads to the closing bracket, where main would give 0
abbrev pub edge : ℕ → ℕ → Instr → ℕ → FlowEdge
edge from to instr token = record { from = from; to = to; instr = instr; place = record { file = 0; line = 1; column = 1; at = token } }

abbrev pub edges : List FlowEdge
edges =
    edge 0 3 (Enter []) 10
    ∷ edge 3 5 (Number 1 5 4) 8
    ∷ edge 5 6 (Move 0 1) 0
    ∷ edge 6 7 (Finish (1 ∷ [])) 0
    ∷ edge 7 1 (Leave []) 0
    ∷ edge 4 8 (Number 0 0 4) 10
    ∷ edge 8 1 (Leave []) 10
    ∷ edge 1 2 (Return (Some 0)) 10
    ∷ []

abbrev pub standing : List Width → Standing
standing registers = record { variables = []; registers = registers }

abbrev pub first : Width
first = record { register = 0; size = 4 }

abbrev pub second : Width
second = record { register = 1; size = 4 }

abbrev pub graph : Flow
graph = record {
  points = 9;
  edges = edges;
  functions = record { entry = 0; exit = 1; parameters = [] } ∷ [];
  variables = [];
  initial = [];
  heads = [];
  main = 0;
  stands =
      standing [] ∷ standing (first ∷ []) ∷ standing [] ∷ standing [] ∷ standing [] ∷ standing (second ∷ []) ∷ standing (first ∷ second ∷ [])
      ∷ standing (first ∷ []) ∷ standing (first ∷ []) ∷ [];
  abi = Lp64;
  strict = false;
}

-- the program is plain, and six walks lead on from its main's entry
pub record IsExampleProgramPlain : Type 0 where
  pub plain : IsPlainProgram program graph
  pub walks : HasFewWalks graph 6
