-- How many objects the graphs of a flow graph may have, and flow graphs of which none is large.
use Rattle.std.specs.Prelude.{◌≡◌, ℕ, ◌+◌, ◌<◌, true, List, [], length, sum_by}
use Rattle.graph.specs.Large.{is_large}
use Rattle.flow.specs.declared.flow_graph.Flow.{Flow}
use Rattle.flow.specs.declared.flow_graph.FlowEdge.{FlowEdge}
use Rattle.flow.specs.declared.instruction.Instr.{Instr}
use Rattle.flow.specs.declared.instruction.Instr.TheVariants.{Allocate, Enter}
use Rattle.flow.specs.InRange.{entry_of}
use Rattle.flow.specs.Runs.{parameters_of}
use Rattle.flow.specs.Valid.{IsFlow}
use Rattle.flow.specs.Walks.{IsNumberOfWalks}
use Rattle.trail.specs.declared.trail.Entry.{Entry}
use Rattle.trail.specs.Trail.{At, AreHonest}
use Rattle.driver.specs.Driven.{driven, widening}

-- how many objects an instruction makes
abbrev pub makes : Instr → ℕ
makes (Allocate into bytes zeroed) = 1
makes (Enter variables) = length variables
makes instr = 0

abbrev pub made_along : FlowEdge → ℕ
made_along edge = makes edge.instr

-- an object for each variable, for each parameter of main, and for each that an edge makes
abbrev pub objects_of : Flow → ℕ
objects_of flow = length flow.variables + (length (parameters_of flow flow.main) + sum_by made_along flow.edges)

-- fewer than 2^25 objects, and fewer than 2^25 edges
pub record IsSmall (flow : Flow) : Type 0 where
  pub objects : objects_of flow < 33554432
  pub edges : length flow.edges < 33554432

-- where there is no loop, and a number of walks from main's entry, no graph of an honest trail is large
abbrev pub AreGraphsSmall : Type 0
AreGraphsSmall = (flow : Flow) (limit number : ℕ) (trail : List Entry) → IsFlow flow → flow.heads ≡ [] → IsSmall flow → IsNumberOfWalks flow.edges (entry_of flow flow.main) number → AreHonest driven (widening limit) flow trail →
    (at : ℕ) (entry : Entry) → At trail at entry → is_large 33554432 entry.graph ≡ true → ⊥
