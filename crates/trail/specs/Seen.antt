-- How a graph sees a state of the flow machine.
use Rattle.std.specs.Prelude.{◌≡◌, ℕ, ◌<◌, [], ◌++◌, Bool, true, false, All, Contains}
use Rattle.std.specs.Option.{option_map}
use Rattle.graph.specs.State as graphs
use Rattle.flow.specs.declared.instruction.Instr.{Instr}
use Rattle.flow.specs.declared.instruction.Instr.TheVariants.{Call, Return}
use Rattle.flow.specs.declared.flow_graph.Flow.{Flow}
use Rattle.flow.specs.Holding.{held_by}
use Rattle.flow.specs.Machine.{State, block_here, caller_roots}
use Rattle.flow.specs.RunStates.{IsRunState}

-- the frame in work, the static variables and the memory; the blocks of callers are held from outside
abbrev pub seen : State → graphs.State
seen state = record {
  memory = state.memory;
  variables = block_here state;
  registers = λ register. option_map (λ held. held.word) (held_by state.frame.registers register);
  ports = [];
  roots = caller_roots state.callers ++ state.outer;
}

-- what each state of a run without calls has
pub record IsOf (flow : Flow) (state : State) : Type 0 where
  pub run : IsRunState flow state
  pub callers : state.callers ≡ []
  pub outer : state.outer ≡ []

abbrev pub is_call : Instr → Bool
is_call (Call function arguments into) = true
is_call instr = false

-- an edge that is neither a call nor a return
abbrev pub is_ordinary : Instr → Bool
is_ordinary (Call function arguments into) = false
is_ordinary (Return from) = false
is_ordinary instr = true

abbrev pub HasNoCalls : Flow → Type 0
HasNoCalls flow = All (λ edge. is_call edge.instr ≡ false) flow.edges

-- a point to which the end of a loop's body leads back
abbrev pub IsHead : Flow → ℕ → Type 0
IsHead flow point = (point < flow.points) × Contains flow.heads point
