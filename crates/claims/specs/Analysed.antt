-- What is said of the flow graph of the program that the bytes of a file hold.
use Rattle.std.specs.Prelude.{◌≡◌, ℕ, false, List, Some}
use Rattle.cbase.specs.declared.abi.Abi.TheVariants.{Lp64}
use Rattle.ctokens.specs.declared.token.Tokens.{Tokens}
use Rattle.c_machine.specs.Program.{Program}
use Rattle.flow.specs.declared.flow_graph.Flow.{Flow}
use Rattle.lowering.specs.Lowering.{flow_of}
use Rattle.verdicts.specs.Program.{HoldsProgram}

-- the bytes hold a program, it has a flow graph, and that is so of their tokens and this graph
abbrev pub OnGraph : List ℕ → List ℕ → (Tokens → Flow → Type 0) → Type 0
OnGraph file bytes IsSo = (t : Tokens) × (p : Program) × (flow : Flow) × HoldsProgram file bytes Lp64 false t p × (flow_of p ≡ Some flow) × IsSo t flow
