-- Trails of plain flow graphs.
--
-- Near each state that an entry's graph stands for comes a run with marks, which the graph shows. So it is of the start, and along a chain of steps without loss; and no step of a plain flow graph names one.
use Rattle.std.specs.Prelude.{◌≡◌, ℕ, ◌≤◌, List, [], None, Some, length, slice_get}
use Rattle.choices.specs.declared.choice.Choice.{Choice}
use Rattle.graph.specs.declared.parts.Parts.{Parts}
use Rattle.graph.specs.declared.post.Post.{Post}
use Rattle.graph.specs.Meaning.{StandsFor}
use Rattle.graph.specs.State as graphs
use Rattle.flow.specs.declared.flow_graph.Flow.{Flow}
use Rattle.flow.specs.declared.flow_graph.FlowEdge.{FlowEdge}
use Rattle.flow.specs.Machine.{State, Went, step_along}
use Rattle.flow.specs.Runs.{start}
use Rattle.flow.specs.Valid.{IsFlow}
use Rattle.edge_steps.specs.Seen.{seen}
use Rattle.trail.specs.declared.trail.Entry.{Entry}
use Rattle.trail.specs.Analysis.{Analysis, Widening, Tests, tested, widened, near_by, Fits, IsStart, IsPost, IsExact, Nearness, IsNear, IsSharp}
use Rattle.trail.specs.Seen.{IsOf, HasNoCalls}
use Rattle.trail.specs.Theorems.{HaveOffsets}
use Rattle.trail.specs.Trail.{At, AreHonest, IsReal}
use Rattle.plain.specs.Conditions.{IsPlainAt}
use Rattle.plain.specs.Marks.{Marks, marks_after}
use Rattle.plain.specs.PlainRuns.{start_marks, IsMarkedRun, IsPlain}
use Rattle.plain.specs.Shown.{IsShown, IsShownAmong}

-- a state of a run with marks, at this point, that is near this one and that the graph shows
pub record IsShownNear (nearness : Nearness) (flow : Flow) (point : ℕ) (graph : Parts) (wanted : graphs.State) : Type 0 where
  pub state : State
  pub marks : Marks
  pub run : IsMarkedRun flow state marks
  pub of : IsOf flow state
  pub point_is : state.point ≡ point
  pub near : IsNear nearness wanted state
  pub shown : IsShown graph (seen [] state) marks

-- so it is of each state that the entry's graph stands for
abbrev pub IsEntryShown : Nearness → Flow → Entry → Type 0
IsEntryShown nearness flow entry = (wanted : graphs.State) → graphs.IsState wanted → StandsFor entry.graph wanted → IsShownNear nearness flow entry.point entry.graph wanted

-- a post along an edge that names no loss and has one graph at most, which shows each state to which the edge leads, with the marks behind the step
pub record IsPlainAlong (flow : Flow) (edge : FlowEdge) (state : State) (marks : Marks) (post : Post) : Type 0 where
  pub loss : post.loss ≡ None
  pub single : length post.graphs ≤ 1
  pub shows : (next : State) (choices : List Choice) → step_along flow edge state choices ≡ Went next [] → IsShownAmong post.graphs (seen [] next) (marks_after edge.instr (seen [] state) marks)

-- a graph stands for some state
pub record StandsForSome (graph : Parts) : Type 0 where
  pub state : graphs.State
  pub is : graphs.IsState state
  pub stands : StandsFor graph state

-- the start shows each state in which runs begin, where a sharp graph that fits shows a state, and what is asked of the instruction is met, its post is plain, and each graph that fits stands for some state
pub record ShowsPlainly (analysis : Analysis) (nearness : Nearness) (flow : Flow) : Type 0 where
  pub start : (graph : Parts) (state : State) (choices : List Choice) → IsStart analysis flow graph → start flow choices ≡ Went state [] → IsShown graph (seen [] state) (start_marks flow state)
  pub steps : (number : ℕ) (edge : FlowEdge) (graph : Parts) (post : Post) (state : State) (marks : Marks) →
      slice_get flow.edges number ≡ Some edge → Fits analysis flow edge.from graph → IsSharp nearness graph → IsPost analysis flow number graph post → IsOf flow state → edge.from ≡ state.point →
      IsShown graph (seen [] state) marks → IsPlainAt edge.instr (seen [] state) marks → IsPlainAlong flow edge state marks post
  pub states : (point : ℕ) (graph : Parts) → Fits analysis flow point graph → StandsForSome graph

-- a chain of steps without loss leads to each entry, each is shown, and no post of one names a loss or has more than one graph
pub record IsTrailPlain (analysis : Analysis) (nearness : Nearness) (flow : Flow) (trail : List Entry) : Type 0 where
  pub real : (at : ℕ) (entry : Entry) → At trail at entry → IsReal trail at
  pub shown : (at : ℕ) (entry : Entry) → At trail at entry → IsEntryShown nearness flow entry
  pub loss : (at number : ℕ) (entry : Entry) (edge : FlowEdge) (post : Post) → At trail at entry → slice_get flow.edges number ≡ Some edge → edge.from ≡ entry.point →
      IsPost analysis flow number entry.graph post → post.loss ≡ None
  pub single : (at number : ℕ) (entry : Entry) (edge : FlowEdge) (post : Post) → At trail at entry → slice_get flow.edges number ≡ Some edge → edge.from ≡ entry.point →
      IsPost analysis flow number entry.graph post → length post.graphs ≤ 1

-- so it is of an honest trail of a plain flow graph
abbrev pub KeepsPlain : Analysis → Widening → Nearness → Type 0
KeepsPlain analysis widening nearness = (flow : Flow) (trail : List Entry) → IsFlow flow → HaveOffsets flow → HasNoCalls flow → IsPlain flow → IsExact analysis nearness flow → ShowsPlainly analysis nearness flow →
    AreHonest analysis widening flow trail → IsTrailPlain analysis nearness flow trail

abbrev pub AreTrailsPlain : Type 0
AreTrailsPlain = (tests : Tests) → KeepsPlain (tested tests) (widened tests) (near_by tests)
