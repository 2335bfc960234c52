-- The analysis keeps plain flow graphs plain.
use Rattle.std.proofs.Common.{◌≡◌, ℕ, zero, suc, ◌<◌, ◌≤◌, true, List, [], ◌∷◌, map, length, sym, ◌∙◌, ap, subst, Some, arith}
use Rattle.std.specs.Prelude.{slice_get, Contains, IsTrue}
use Rattle.std.proofs.lemmas.List.{length-map}
use Rattle.std.proofs.lemmas.List.Elements.{All-contains}
use Rattle.graph.specs.declared.parts.Parts.{Parts}
use Rattle.graph.specs.declared.post.Post.{Post}
use Rattle.graph.specs.State as graphs
use Rattle.graph.specs.Whole.{IsGraph}
use Rattle.graph.proofs.Witness.{some_state}
use Rattle.flow.specs.declared.flow_graph.Flow.{Flow}
use Rattle.flow.specs.declared.flow_graph.FlowEdge.{FlowEdge}
use Rattle.flow.specs.Machine.{State}
use Rattle.flow.specs.Standing.{stands_at}
use Rattle.flow.specs.Valid.{IsFlow, has_sizes, reads_what_stands, tests_one_size, has_scope}
use Rattle.edge_steps.specs.EdgeSteps.{is_ordinary, EdgeSteps}
use Rattle.edge_steps.specs.Laws.{sizes_at, IsAtEdge}
use Rattle.edge_steps.specs.Seen.{seen}
use Rattle.edge_steps.proofs.SeenSteps.{seen_steps}
use Rattle.transfer.specs.Fitting.{MayFollow}
use Rattle.heap_steps.specs.Regions.{AreRegions}
use Rattle.transfer.specs.Through.{goes_through}
use Rattle.transfer.proofs.AlongMeans.{along_regions, fits_with_regions}
use Rattle.transfer.proofs.Ready.{none_named}
use Rattle.transfer.proofs.Sound.{seen_state}
use Rattle.tidying.specs.Tidied.{tidied}
use Rattle.trail.specs.Seen as trails
use Rattle.trail.proofs.Sound.{same_some, at_number, contained}
use Rattle.driver.specs.Driven.{driven, widening, IsPlaced, IsPostThere}
use Rattle.driver.specs.Leaving.{IsPostOf}
use Rattle.driver.specs.Errors.{alike_runs}
use Rattle.driver.proofs.Exacting.{exact}
use Rattle.driver.proofs.Sounding.{along, ordinary_there}
use Rattle.plain.specs.Chain.{IsPlainAlong, ShowsPlainly}
use Rattle.plain.specs.Conditions.{IsPlainAt}
use Rattle.plain.specs.Laws.{IsPlainStep}
use Rattle.plain.specs.Marks.{Marks, marks_after}
use Rattle.plain.specs.PlainRuns.{IsPlain}
use Rattle.plain.specs.Real.{AreDrivenTrailsPlain}
use Rattle.plain.specs.Shown.{IsShown, IsShownAmong, IsPlainPost}
use Rattle.plain.proofs.ChainShown.{keeps_plain}
use Rattle.plain.proofs.RealRoom.{room_there}
use Rattle.plain.proofs.RealSteps.{goes_plainly}
use Rattle.plain.proofs.StartShown.{starts_shown}
use Rattle.plain.proofs.TidiedShown.{tidied_shown}

contains_map : (items : List Parts) (graph : Parts) → Contains items graph → Contains (map tidied items) (tidied graph)
contains_map [] graph (k, less, is) = absurd (omega arith)
contains_map (first ∷ rest) graph (zero, less, is) = (zero, omega arith, ap tidied is)
contains_map (first ∷ rest) graph (suc k, less, is) = let later = contains_map rest graph (k, omega arith, is) in (suc later.0, let w = later.1 in omega arith, later.2)

-- what one of some graphs shows one of them shows tidied
among_left : (items : List Parts) (state : graphs.State) (marks : Marks) → ((graph : Parts) → Contains items graph → IsGraph graph) → IsShownAmong items state marks → IsShownAmong (map tidied items) state marks
among_left items state marks all shown = record {
  graph = tidied shown.graph;
  among = contains_map items shown.graph shown.among;
  shown = tidied_shown shown.graph state marks (all shown.graph shown.among) shown.shown;
}

module _ (flow : Flow) (valid : IsFlow flow) (few : length flow.variables < 33554432) where
  may_follow : (number : ℕ) (edge : FlowEdge) (graph : Parts) → slice_get flow.edges number ≡ Some edge → IsPlaced flow edge.from graph → AreRegions graph.objects → MayFollow flow edge.from edge.instr graph
  may_follow number edge graph stands placed regions = record {
    fits = placed.fits;
    reads = at_number (λ (e : FlowEdge). IsTrue (reads_what_stands flow (stands_at flow e.from) e.instr)) flow.edges number edge valid.reads stands;
    sizes = at_number (λ (e : FlowEdge). IsTrue (has_sizes e.instr)) flow.edges number edge valid.sizes stands;
    tests = at_number (λ (e : FlowEdge). IsTrue (tests_one_size (stands_at flow e.from) e.instr)) flow.edges number edge valid.tests stands;
    scope = at_number (λ (e : FlowEdge). IsTrue (has_scope flow (stands_at flow e.from) e.instr)) flow.edges number edge valid.scopes stands;
    variables = valid.variable_sizes;
    through = none_named graph regions placed.graph_is (goes_through edge.instr);
  }

  along_plain : (number : ℕ) (edge : FlowEdge) (graph : Parts) (post : Post) (state : State) (marks : Marks) → slice_get flow.edges number ≡ Some edge → IsPlaced flow edge.from graph →
      AreRegions graph.objects → IsPostThere flow number graph post → trails.IsOf flow state → edge.from ≡ state.point → IsShown graph (seen [] state) marks → IsPlainAt edge.instr (seen [] state) marks → IsPlainAlong flow edge state marks post
  along_plain number edge graph post state marks stands placed regions there of from shown plain =
      let is : IsPostOf flow edge graph post = along flow number edge graph post stands there in
      let ordinary : is_ordinary edge.instr ≡ true =
      ordinary_there edge.instr (ap (λ (e : FlowEdge). trails.is_ordinary e.instr) (sym (same_some there.edge edge (sym there.stands ∙ stands))) ∙ there.ordinary) in
      let here : IsAtEdge flow edge state = record { flow_is = valid; among = contained flow.edges number edge stands; ordinary = ordinary; here = from; runs = of.run } in
      let may : MayFollow flow edge.from edge.instr graph = may_follow number edge graph stands placed regions in
      let step : IsPlainStep flow edge.from edge.instr graph is.whole (seen [] state) marks =
      record { graph = placed.graph_is; fits = fits_with_regions flow edge.from graph placed.fits regions; may = may; posted = along_regions flow edge graph is.whole placed.graph_is regions is.is; is = seen_state flow edge state here of.callers of.outer; shown = shown; plain = plain } in
      let post_plain : IsPlainPost (EdgeSteps flow (sizes_at flow edge.from) edge.instr) (seen [] state) (marks_after edge.instr (seen [] state) marks) is.whole =
      goes_plainly edge.instr ordinary flow edge.from graph is.whole (seen [] state) marks step (room_there flow edge.from edge.instr graph few placed regions may.scope) in
      record {
        loss = is.left.loss ∙ post_plain.loss;
        single =
            let long : length post.graphs ≡ length is.whole.graphs = ap (λ (gs : List Parts). length gs) is.left.graphs.same ∙ length-map is.whole.graphs tidied in
            let single : length is.whole.graphs ≤ 1 = post_plain.single in
            omega arith;
        shows = λ next choices goes.
            subst (λ (gs : List Parts). IsShownAmong gs (seen [] next) (marks_after edge.instr (seen [] state) marks)) (sym is.left.graphs.same)
            (among_left is.whole.graphs (seen [] next) (marks_after edge.instr (seen [] state) marks) (λ one among. All-contains IsGraph is.whole.graphs one is.left.graphs.are among)
            (post_plain.shows (seen [] next) (seen_steps.steps flow edge [] state next choices [] here goes)));
      }

  shows_plainly : IsPlain flow → ShowsPlainly driven alike_runs flow
  shows_plainly plain = record {
    start = λ graph state choices is goes. starts_shown flow graph state choices valid is goes;
    steps = along_plain;
    states = λ point graph placed.
        let some = some_state graph placed.graph_is.ascending placed.graph_is.well_formed placed.graph_is.within_limits in
        record { state = some.0; is = some.1; stands = some.2 };
  }

pub driven_plain : AreDrivenTrailsPlain
driven_plain flow limit trail valid offsets calls few plain honest =
    keeps_plain driven (widening limit) alike_runs flow trail valid offsets calls plain (exact flow valid) (shows_plainly flow valid few plain) honest
