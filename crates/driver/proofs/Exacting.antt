-- The analysis adds nothing where no loss is named.
--
-- What is known of a post without loss speaks of states as graphs see them. Runs come in by alike states: a run that is alike a state goes as that one does.
use Rattle.std.proofs.Common.{◌≡◌, ℕ, ◌+◌, ◌^◌, ◌<◌, ◌&&◌, List, [], ◌∷◌, Bool, true, refl, sym, ap, subst, ◌∙◌, None, Some, length, arith}
use Rattle.std.specs.Prelude.{slice_get, sum_by, Contains, IsTrue}
use Rattle.std.specs.List.{list_all}
use Rattle.std.proofs.lemmas.Bool.{false≢true, ltb-true}
use Rattle.std.proofs.lemmas.List.Sums.{sum_by-cons}
use Rattle.graph.specs.declared.object.Shape.{Shape}
use Rattle.graph.specs.declared.object.Shape.TheVariants.{Region, Segment}
use Rattle.graph.specs.declared.parts.KeyedObject.{KeyedObject}
use Rattle.graph.specs.declared.parts.Parts.{Parts}
use Rattle.graph.specs.declared.post.Post.{Post}
use Rattle.graph.specs.AlikeMemories.{AreAlike}
use Rattle.graph.specs.AlikeStates.{AreAlikeStates}
use Rattle.graph.specs.Meaning.{StandsFor}
use Rattle.graph.specs.Nodes.{is_region}
use Rattle.graph.specs.State as graphs
use Rattle.graph.specs.WellFormed.{nodes, nodes_of}
use Rattle.graph.specs.Whole.{IsGraph}
use Rattle.graph.proofs.AlikeStates.{states_behind}
use Rattle.graph.proofs.Tests.{and_left, and_right}
use Rattle.changes.specs.Following.{SomeFaults}
use Rattle.changes.specs.FollowingAlike.{FollowsAlike}
use Rattle.flow.specs.declared.flow_graph.Flow.{Flow}
use Rattle.flow.specs.declared.flow_graph.FlowEdge.{FlowEdge}
use Rattle.flow.specs.Machine.{State}
use Rattle.flow.specs.Standing.{stands_at}
use Rattle.flow.specs.Valid.{IsFlow, has_sizes, reads_what_stands, tests_one_size, has_scope}
use Rattle.edge_steps.specs.EdgeSteps.{EdgeSteps, EdgeFaults}
use Rattle.edge_steps.specs.Laws.{sizes_at, IsAtEdge, GoesTo, FaultsAt}
use Rattle.edge_steps.specs.Seen as edges
use Rattle.edge_steps.proofs.SeenSteps.{seen_steps}
use Rattle.transfer.specs.Fitting.{MayFollow}
use Rattle.transfer.specs.Laws.{IsBegunAlike}
use Rattle.transfer.specs.Through.{goes_through}
use Rattle.transfer.proofs.AlongMeans.{along_regions, regions_kept, regions_place}
use Rattle.transfer.proofs.Ready.{none_named}
use Rattle.transfer.proofs.Sound.{seen_state}
use Rattle.transfer.proofs.StartExact.{start_exact}
use Rattle.transfer.proofs.StartSound.{start_regions}
use Rattle.transfer.specs.OfRegions.{AreOfRegions}
use Rattle.tidying.specs.Fits.{FitsAs}
use Rattle.tidying.specs.Tidied.{tidied}
use Rattle.tidying.proofs.Fits.{tidied_fits}
use Rattle.heap_steps.specs.Regions.{AreRegions}
use Rattle.alike_steps.specs.Laws.{GoesAlike}
use Rattle.alike_steps.proofs.Alike.{edges_go_alike}
use Rattle.tidying.proofs.Kept.{tidied_means}
use Rattle.trail.specs.Seen.{seen, IsOf, is_ordinary}
use Rattle.trail.specs.Analysis.{IsExact, GoesNear, IsLedTo, IsFaulting}
use Rattle.trail.proofs.Sound.{same_some, at_number, contained}
use Rattle.driver.specs.Driven.{driven, IsPlaced, IsPostThere}
use Rattle.driver.specs.Errors.{IsAlikeRun, alike_runs}
use Rattle.driver.specs.Leaving.{IsPostOf}
use Rattle.driver.proofs.Left.{IsOne, one_of}
use Rattle.driver.proofs.Sounding.{along, ordinary_there}

-- what is seen of a state by another crate's word for it is alike what its own says
alike_same : (there back : ℕ → ℕ) (paired : ℕ → Bool) (one other same : graphs.State) → AreAlikeStates there back paired one other → edges.IsSame same other → AreAlikeStates there back paired one same
alike_same there back paired one other same alike is = record {
  memories = subst (λ memory. AreAlike there back paired one.memory memory) is.memory alike.memories;
  named = alike.named;
  variables = λ variable. sym (is.variables variable) ∙ alike.variables variable;
  registers = λ register. sym (is.registers register) ∙ alike.registers register;
  ports = sym is.ports ∙ alike.ports;
  roots = sym is.roots ∙ alike.roots;
}

-- a graph of few regions has room for one object more
region_node : (shape : Shape) → is_region shape ≡ true → nodes_of shape ≡ 1
region_node Region is = refl
region_node (Segment twofold head next prev back least next_value prev_value node) is = absurd (false≢true is)

region_nodes : (objects : List KeyedObject) → list_all (λ (entry : KeyedObject). is_region entry.object.shape) objects ≡ true →
    sum_by (λ (entry : KeyedObject). nodes_of entry.object.shape) objects ≡ length objects
region_nodes [] all = refl
region_nodes (first ∷ rest) all =
    let sum = sum_by-cons (λ (entry : KeyedObject). nodes_of entry.object.shape) first rest in
    let one : nodes_of first.object.shape ≡ 1 = region_node first.object.shape (and_left (is_region first.object.shape) (list_all (λ (entry : KeyedObject). is_region entry.object.shape) rest) all) in
    let later = region_nodes rest (and_right (is_region first.object.shape) (list_all (λ (entry : KeyedObject). is_region entry.object.shape) rest) all) in
    omega arith

room_for_one : (flow : Flow) (point : ℕ) (graph : Parts) → IsPlaced flow point graph → AreRegions graph.objects → nodes graph + 1 < 2 ^ 30
room_for_one flow point graph placed regions =
    let few : length graph.objects < 1000000000 = ltb-true (length graph.objects) 1000000000 placed.small in
    let count : nodes graph ≡ length graph.objects = region_nodes graph.objects regions in
    omega arith

-- an edge of the flow graph, along which a post leads
module _ (flow : Flow) (valid : IsFlow flow) (number : ℕ) (edge : FlowEdge) (stands : slice_get flow.edges number ≡ Some edge) where
  -- its instruction may follow where a graph fits
  may_follow : (graph : Parts) → IsPlaced flow edge.from graph → AreRegions graph.objects → MayFollow flow edge.from edge.instr graph
  may_follow graph placed regions = record {
    fits = placed.fits;
    reads = at_number (λ (e : FlowEdge). IsTrue (reads_what_stands flow (stands_at flow e.from) e.instr)) flow.edges number edge valid.reads stands;
    sizes = at_number (λ (e : FlowEdge). IsTrue (has_sizes e.instr)) flow.edges number edge valid.sizes stands;
    tests = at_number (λ (e : FlowEdge). IsTrue (tests_one_size (stands_at flow e.from) e.instr)) flow.edges number edge valid.tests stands;
    scope = at_number (λ (e : FlowEdge). IsTrue (has_scope flow (stands_at flow e.from) e.instr)) flow.edges number edge valid.scopes stands;
    variables = valid.variable_sizes;
    through = none_named graph regions placed.graph_is (goes_through edge.instr);
  }

  -- a state of a run stands where it begins
  at_edge : (graph : Parts) (post : Post) (state : State) → IsPostThere flow number graph post → IsOf flow state → state.point ≡ edge.from → IsAtEdge flow edge state
  at_edge graph post state is of point = record {
    flow_is = valid;
    among = contained flow.edges number edge stands;
    ordinary = ordinary_there edge.instr (ap (λ (e : FlowEdge). is_ordinary e.instr) (sym (same_some is.edge edge (sym is.stands ∙ stands))) ∙ is.ordinary);
    here = sym point;
    runs = of.run;
  }

  module _ (graph : Parts) (post : Post) (placed : IsPlaced flow edge.from graph) (regions : AreRegions graph.objects) (is : IsPostThere flow number graph post) where
    post_is : IsPostOf flow edge graph post
    post_is = along flow number edge graph post stands is

    -- a run that is near a state goes as that one does
    goes_near : (next : graphs.State) (follows : FollowsAlike graph (EdgeSteps flow (sizes_at flow edge.from) edge.instr) next) → post.loss ≡ None →
        (state : State) → IsOf flow state → state.point ≡ edge.from → IsAlikeRun follows.state state → GoesNear alike_runs flow number next state
    goes_near next follows none state of point near =
        let here : IsAtEdge flow edge state = at_edge graph post state is of point in
        let goes : GoesAlike (EdgeSteps flow (sizes_at flow edge.from) edge.instr) (edges.seen [] state) follows.next' =
        edges_go_alike.steps flow edge.from edge.instr graph post_is.whole near.there near.back near.paired follows.state (edges.seen [] state) follows.next'
        placed.graph_is (may_follow graph placed regions) (along_regions flow edge graph post_is.whole placed.graph_is regions post_is.is) (sym post_is.left.loss ∙ none)
        follows.is (seen_state flow edge state here of.callers of.outer) follows.stands near.alike follows.steps in
        let gone : GoesTo flow edge [] state [] goes.next' = seen_steps.back flow edge [] state goes.next' [] here goes.steps in
        record {
          gone = gone.next;
          steps = record { edge = edge; stands = stands; choices = gone.choices; rest = []; goes = gone.goes };
          near = record {
            there = λ number. goes.there (follows.there number);
            back = λ number. follows.back (goes.back number);
            paired = λ number. follows.paired number && goes.paired (follows.there number);
            alike = alike_same (λ number. goes.there (follows.there number)) (λ number. follows.back (goes.back number)) (λ number. follows.paired number && goes.paired (follows.there number))
                next goes.next' (seen gone.next)
                (states_behind follows.there follows.back goes.there goes.back follows.paired goes.paired next follows.next' goes.next' follows.alike goes.alike) gone.same;
          };
        }

    -- so a post without loss leads near each state that it stands for
    led_to : (result : ℕ) (after : Parts) (next : graphs.State) → post.loss ≡ None → slice_get post.graphs result ≡ Some after → graphs.IsState next → StandsFor after next →
        IsLedTo alike_runs flow number edge graph next
    led_to result after next none there fine stand =
        let one : IsOne post_is.whole.graphs result after = one_of post_is.whole.graphs result after (sym (ap (λ (gs : List Parts). slice_get gs result) post_is.left.graphs.same) ∙ there) in
        let whole_is : IsGraph one.graph = at_number IsGraph post_is.whole.graphs result one.graph post_is.left.graphs.are one.there in
        let follows : FollowsAlike graph (EdgeSteps flow (sizes_at flow edge.from) edge.instr) next =
        post_is.is.means.exact_of_regions.exact (sym post_is.left.loss ∙ none) regions one.graph next (contained post_is.whole.graphs result one.graph one.there) fine
        ((tidied_means one.graph whole_is next).0 (subst (λ (g : Parts). StandsFor g next) one.is stand)) in
        record { before = follows.state; is = follows.is; stands = follows.stands; goes = goes_near next follows none }

    -- what comes of a graph of regions is one
    leads : (result : ℕ) (after : Parts) → slice_get post.graphs result ≡ Some after → AreRegions after.objects
    leads result after there =
        let one : IsOne post_is.whole.graphs result after = one_of post_is.whole.graphs result after (sym (ap (λ (gs : List Parts). slice_get gs result) post_is.left.graphs.same) ∙ there) in
        let whole_is : IsGraph one.graph = at_number IsGraph post_is.whole.graphs result one.graph post_is.left.graphs.are one.there in
        let kept : AreOfRegions post_is.whole.graphs = regions_kept flow edge.instr graph placed.graph_is regions post_is.whole post_is.is.is in
        let same : FitsAs one.graph (tidied one.graph) = tidied_fits one.graph whole_is in
        subst (λ (g : Parts). AreRegions g.objects) (sym one.is) (same.regions (kept.each result one.graph one.there))

    -- and each kind of a post is met near some state
    faulting : (kind : ℕ) → Contains post.kinds kind → IsFaulting alike_runs flow number edge graph kind
    faulting kind has =
        let some : SomeFaults graph (EdgeFaults edge.instr kind) =
        post_is.is.means.through_any (regions_place flow edge.instr graph placed.graph_is regions (room_for_one flow edge.from graph placed regions)) kind (subst (λ (kinds : List ℕ). Contains kinds kind) post_is.left.kinds has) in
        record {
          before = some.state;
          is = some.is;
          stands = some.stands;
          faults = λ state of point near.
              let here : IsAtEdge flow edge state = at_edge graph post state is of point in
              let fault : FaultsAt flow edge state kind = seen_steps.faults_back flow edge [] state kind here
              (edges_go_alike.faults edge.instr kind near.there near.back near.paired some.state (edges.seen [] state) some.is (seen_state flow edge state here of.callers of.outer) near.alike some.faults) in
              record { edge = edge; stands = stands; choices = fault.choices; faults = fault.faults };
        }

pub exact : (flow : Flow) → IsFlow flow → IsExact driven alike_runs flow
exact flow valid = record {
  start = λ graph next is fine stands.
      let begun : IsBegunAlike flow next = start_exact flow graph next valid is fine stands in
      record { begun = begun.begun; choices = begun.choices; goes = begun.goes; near = record { there = begun.there; back = begun.back; paired = begun.paired; alike = begun.alike } };
  steps = λ number edge graph post result after next stands placed regions is none there fine stand. led_to flow valid number edge stands graph post placed regions is result after next none there fine stand;
  faults = λ number edge graph post kind stands placed regions is has. faulting flow valid number edge stands graph post placed regions is kind has;
  begins = λ graph is. subst (λ (g : Parts). AreRegions g.objects) (sym is.is) (start_regions flow valid (subst IsGraph is.is is.graph));
  leads = λ number edge graph post result after stands placed regions is none there. leads flow valid number edge stands graph post placed regions is result after there;
}
