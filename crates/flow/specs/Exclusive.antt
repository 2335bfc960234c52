-- Graphs in which no state has a choice of edges: out of a point leads one edge, or two of which one is barred where the other is not.
use Rattle.std.specs.Prelude.{◌≡◌, ℕ, Bool, true, false, ◌&&◌, List, [], ◌∷◌, length, nat_eq, IsTrue, All, Contains, ◌⊎◌}
use Rattle.cbase.specs.declared.place.Place.{Place}
use Rattle.choices.specs.declared.choice.Choice.{Choice}
use Rattle.flow.specs.declared.instruction.Instr.{Instr}
use Rattle.flow.specs.declared.instruction.Instr.TheVariants.{IfSame, IfDifferent, Allocate, AllocateNone}
use Rattle.flow.specs.declared.flow_graph.Flow.{Flow}
use Rattle.flow.specs.declared.flow_graph.FlowEdge.{FlowEdge}
use Rattle.flow.specs.Machine.{State, Went, Barred, Waits, Ended, Faulted, step_along, step_among, step}
use Rattle.flow.specs.Runs.{run}
use Rattle.flow.specs.Choosing.{run_along}
use Rattle.flow.specs.Valid.{edges_out}

-- whether an instruction is the other one of a test of these registers, or of an allocation
abbrev pub is_difference_of : ℕ → ℕ → Instr → Bool
is_difference_of one other (IfDifferent one' other') = nat_eq one one' && nat_eq other other'
is_difference_of one other instr = false

abbrev pub is_sameness_of : ℕ → ℕ → Instr → Bool
is_sameness_of one other (IfSame one' other') = nat_eq one one' && nat_eq other other'
is_sameness_of one other instr = false

abbrev pub is_allocation : Instr → Bool
is_allocation (Allocate into bytes zeroed) = true
is_allocation instr = false

abbrev pub is_no_allocation : Instr → Bool
is_no_allocation (AllocateNone into) = true
is_no_allocation instr = false

-- whether two instructions are the two of a test of the same registers, or the two of an allocation
abbrev pub exclude : Instr → Instr → Bool
exclude (IfSame one other) instr = is_difference_of one other instr
exclude (IfDifferent one other) instr = is_sameness_of one other instr
exclude (Allocate into bytes zeroed) instr = is_no_allocation instr
exclude (AllocateNone into) instr = is_allocation instr
exclude instr other = false

-- whether edges are none, one, or two that exclude each other
abbrev pub are_exclusive : List FlowEdge → Bool
are_exclusive [] = true
are_exclusive (edge ∷ []) = true
are_exclusive (edge ∷ (other ∷ [])) = exclude edge.instr other.instr
are_exclusive (edge ∷ (other ∷ (third ∷ rest))) = false

-- the edges out of each point are such
pub record IsExclusive (flow : Flow) : Type 0 where
  pub each : (point : ℕ) → IsTrue (are_exclusive (edges_out flow point))

-- a step looks at the edges out of its point alone
abbrev pub DoStepsLookOut : Type 0
DoStepsLookOut = (flow : Flow) (state : State) (choices : List Choice) → step flow state choices ≡ step_among flow (edges_out flow state.point) state choices

-- the machine goes along another edge, which excludes the one that is barred, and does what that edge does
pub record GoesAlongOther (flow : Flow) (edge : FlowEdge) (state : State) (choices : List Choice) : Type 0 where
  pub other : FlowEdge
  pub stands : Contains flow.edges other
  pub from : other.from ≡ state.point
  pub excludes : IsTrue (exclude edge.instr other.instr)
  pub steps : step flow state choices ≡ step_along flow other state choices

-- where a graph is exclusive, what an edge of it comes to its machine does
pub record DoEdgesStep : Type 0 where
  pub goes : (flow : Flow) (edge : FlowEdge) (state next : State) (choices rest : List Choice) → IsExclusive flow → Contains flow.edges edge →
      step_along flow edge state choices ≡ Went next rest → step flow state choices ≡ Went next rest
  pub faults : (flow : Flow) (edge : FlowEdge) (state : State) (choices : List Choice) (kind : ℕ) (place : Place) → IsExclusive flow → Contains flow.edges edge →
      step_along flow edge state choices ≡ Faulted kind place → step flow state choices ≡ Faulted kind place
  pub waits : (flow : Flow) (edge : FlowEdge) (state : State) (choices : List Choice) → IsExclusive flow → Contains flow.edges edge →
      step_along flow edge state choices ≡ Waits → step flow state choices ≡ Waits
  pub ends : (flow : Flow) (edge : FlowEdge) (state : State) (choices : List Choice) → IsExclusive flow → Contains flow.edges edge →
      step_along flow edge state choices ≡ Ended → step flow state choices ≡ Ended
  -- where an edge out of its point is barred, it goes along the other one; where there is none the run is over
  pub bars : (flow : Flow) (edge : FlowEdge) (state : State) (choices : List Choice) → IsExclusive flow → Contains flow.edges edge → edge.from ≡ state.point →
      step_along flow edge state choices ≡ Barred →
      ((edges_out flow state.point ≡ edge ∷ []) × (step flow state choices ≡ Ended)) ⊎ GoesAlongOther flow edge state choices

-- and so a run along edges of it is a run of its machine of as many steps
pub record DoEdgesRun : Type 0 where
  pub goes : (flow : Flow) (edges : List FlowEdge) (state next : State) (choices rest : List Choice) → IsExclusive flow → All (Contains flow.edges) edges →
      run_along flow edges state choices ≡ Went next rest → run (length edges) flow state choices ≡ Went next rest
  pub faults : (flow : Flow) (edges : List FlowEdge) (state : State) (choices : List Choice) (kind : ℕ) (place : Place) → IsExclusive flow →
      All (Contains flow.edges) edges → run_along flow edges state choices ≡ Faulted kind place → run (length edges) flow state choices ≡ Faulted kind place
  pub waits : (flow : Flow) (edges : List FlowEdge) (state : State) (choices : List Choice) → IsExclusive flow → All (Contains flow.edges) edges →
      run_along flow edges state choices ≡ Waits → run (length edges) flow state choices ≡ Waits
  pub ends : (flow : Flow) (edges : List FlowEdge) (state : State) (choices : List Choice) → IsExclusive flow → All (Contains flow.edges) edges →
      run_along flow edges state choices ≡ Ended → run (length edges) flow state choices ≡ Ended
