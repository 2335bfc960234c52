-- A plain flow graph, that of `int main(void) { int x; x = 5; return x; }`.
use Rattle.std.specs.Prelude.{ℕ, false, List, [], ◌∷◌, Some}
use Rattle.cbase.specs.declared.abi.Abi.TheVariants.{Lp64}
use Rattle.flow.specs.declared.flow_graph.Flow.{Flow}
use Rattle.flow.specs.declared.flow_graph.FlowEdge.{FlowEdge}
use Rattle.flow.specs.declared.flow_graph.Standing.{Standing}
use Rattle.flow.specs.declared.flow_graph.Width.{Width}
use Rattle.flow.specs.declared.instruction.Instr.{Instr}
use Rattle.flow.specs.declared.instruction.Instr.TheVariants.{Number, Address, Read, Write, Enter, Leave, Finish, Return}
use Rattle.flow.specs.Valid.{IsFlow}
use Rattle.trail.specs.Seen.{HasNoCalls}
use Rattle.trail.specs.Theorems.{HaveOffsets}
use Rattle.plain.specs.Followed.{HasFewWalks}
use Rattle.plain.specs.PlainRuns.{IsPlain}
use Rattle.plain.specs.Sizes.{IsSmall}

abbrev pub edge : ℕ → ℕ → Instr → FlowEdge
edge from to instr = record { from = from; to = to; instr = instr; place = record { file = 0; line = 1; column = 1; at = 0 } }

-- x is variable 0. Its address stands in register 1, and 5 in register 2; the address stands in register 3 when x is read into register 0
abbrev pub edges : List FlowEdge
edges =
    edge 0 1 (Enter (0 ∷ []))
    ∷ edge 1 2 (Address 1 0)
    ∷ edge 2 3 (Number 2 5 4)
    ∷ edge 3 4 (Write 1 2 4)
    ∷ edge 4 5 (Finish [])
    ∷ edge 5 6 (Address 3 0)
    ∷ edge 6 7 (Read 0 3 4 false)
    ∷ edge 7 8 (Leave (0 ∷ []))
    ∷ edge 8 9 (Return (Some 0))
    ∷ []

abbrev pub width : ℕ → ℕ → Width
width register size = record { register = register; size = size }

abbrev pub standing : List ℕ → List Width → Standing
standing variables registers = record { variables = variables; registers = registers }

abbrev pub stands : List Standing
stands =
    standing [] []
    ∷ standing (0 ∷ []) []
    ∷ standing (0 ∷ []) (width 1 8 ∷ [])
    ∷ standing (0 ∷ []) (width 1 8 ∷ width 2 4 ∷ [])
    ∷ standing (0 ∷ []) []
    ∷ standing (0 ∷ []) []
    ∷ standing (0 ∷ []) (width 3 8 ∷ [])
    ∷ standing (0 ∷ []) (width 0 4 ∷ [])
    ∷ standing [] (width 0 4 ∷ [])
    ∷ standing [] []
    ∷ []

abbrev pub example : Flow
example = record {
  points = 10;
  edges = edges;
  functions = record { entry = 0; exit = 8; parameters = [] } ∷ [];
  variables = record { size = 4; fixed = false } ∷ [];
  initial = [];
  heads = [];
  main = 0;
  stands = stands;
  abi = Lp64;
  strict = false;
}

-- all that the laws of verdicts ask of a flow graph
pub record IsExamplePlain : Type 0 where
  pub valid : IsFlow example
  pub offsets : HaveOffsets example
  pub calls : HasNoCalls example
  pub small : IsSmall example
  pub walks : HasFewWalks example 9
  pub plain : IsPlain example
