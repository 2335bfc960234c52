-- Plain flow graphs: those without loops whose runs with marks meet all that is asked of each instruction.
use Rattle.std.specs.Prelude.{◌≡◌, ℕ, false, List, [], ◌∷◌, Some, slice_get}
use Rattle.choices.specs.declared.choice.Choice.{Choice}
use Rattle.flow.specs.declared.flow_graph.Flow.{Flow}
use Rattle.flow.specs.declared.flow_graph.FlowEdge.{FlowEdge}
use Rattle.flow.specs.declared.flow_graph.Initial.{Initial}
use Rattle.flow.specs.Holding.{Owned}
use Rattle.flow.specs.Machine.{State, Went, step_along}
use Rattle.flow.specs.Runs.{start}
use Rattle.edge_steps.specs.Seen.{seen}
use Rattle.plain.specs.Marks.{Mark, Marks, marks_after}
use Rattle.plain.specs.Conditions.{IsPlainAt}
use Rattle.plain.specs.StartMarks.{static_marks, with_initial_mark}

-- what stands in static variables at the start is a piece each, or zeros
abbrev pub with_initial_marks : List Owned → List Initial → (ℕ → ℕ → Mark) → ℕ → ℕ → Mark
with_initial_marks statics [] marks = marks
with_initial_marks statics (first ∷ rest) marks = with_initial_marks statics rest (with_initial_mark statics first marks)

-- the other bytes of these are 0; main's parameters are not written
abbrev pub start_marks : Flow → State → Marks
start_marks flow state = record {
  of = with_initial_marks state.statics flow.initial (static_marks state.statics);
  input = λ register. false;
}

-- a state of a run, with its marks
pub data IsMarkedRun (flow : Flow) : State → Marks → Type 0 where
  Begins : (choices : List Choice) (state : State) → start flow choices ≡ Went state [] → IsMarkedRun flow state (start_marks flow state)
  Goes : (state next : State) (marks : Marks) (number : ℕ) (edge : FlowEdge) (choices : List Choice) → IsMarkedRun flow state marks → slice_get flow.edges number ≡ Some edge →
      step_along flow edge state choices ≡ Went next [] → IsMarkedRun flow next (marks_after edge.instr (seen [] state) marks)

pub record IsPlain (flow : Flow) : Type 0 where
  -- there is no loop
  pub heads : flow.heads ≡ []
  pub at : (state : State) (marks : Marks) (number : ℕ) (edge : FlowEdge) → IsMarkedRun flow state marks → slice_get flow.edges number ≡ Some edge → edge.from ≡ state.point → IsPlainAt edge.instr (seen [] state) marks
