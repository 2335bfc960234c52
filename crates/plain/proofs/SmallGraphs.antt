-- No graph of an honest trail is large where there is a number of walks, and few objects and edges.
use Rattle.std.proofs.Common.{◌≡◌, ℕ, zero, suc, ◌+◌, ◌<◌, ◌≤◌, Bool, true, false, ◌&&◌, ◌||◌, not, List, [], ◌∷◌, ◌++◌, map, length, length-append, get_or, take, Option, Some, nat_le, refl, sym, ◌∙◌, ap, subst, leb-true, inl, inr, arith}
use Rattle.std.specs.Prelude.{slice_get, Contains, sum_by, if◌then◌else◌}
use Rattle.std.specs.List.{list_all}
use Rattle.std.proofs.lemmas.Bool.{false≢true}
use Rattle.std.proofs.lemmas.List.Sums.{sum_by-cons}
use Rattle.std.proofs.lemmas.Option.{slice_get_within}
use Rattle.graph.specs.declared.object.Object.{Object}
use Rattle.graph.specs.declared.object.Shape.{Shape}
use Rattle.graph.specs.declared.object.Shape.TheVariants.{Region, Segment}
use Rattle.graph.specs.declared.parts.KeyedObject.{KeyedObject}
use Rattle.graph.specs.declared.parts.Parts.{Parts}
use Rattle.graph.specs.Large.{live_nodes_of, live_nodes, is_addressed, addressed_dead}
use Rattle.graph.specs.Nodes.{is_region}
use Rattle.graph.specs.WellFormed.{nodes_of}
use Rattle.graph.proofs.Tests.{and_left, and_right}
use Rattle.graph.specs.Whole.{IsGraph}
use Rattle.tidying.specs.Tidied.{tidied}
use Rattle.tidying.proofs.Fits.{tidied_fits}
use Rattle.driver.proofs.Left.{IsOne, one_of}
use Rattle.flow.specs.declared.flow_graph.Flow.{Flow}
use Rattle.flow.specs.declared.flow_graph.FlowEdge.{FlowEdge}
use Rattle.flow.specs.InRange.{entry_of}
use Rattle.flow.specs.Runs.{parameters_of}
use Rattle.flow.specs.Valid.{IsFlow}
use Rattle.flow.specs.Walks.{IsWalk, IsNumberOfWalks}
use Rattle.heap_steps.specs.Regions.{AreRegions}
use Rattle.transfer.specs.Posts.{edge_post}
use Rattle.transfer.specs.OfRegions.{AreOfRegions}
use Rattle.transfer.specs.Start.{IsStartGraph, start_graph}
use Rattle.transfer.proofs.AlongMeans.{along_regions, regions_kept}
use Rattle.transfer.proofs.StartSound.{start_regions}
use Rattle.trail.specs.declared.trail.Cause.{Cause}
use Rattle.trail.specs.declared.trail.Cause.TheVariants.{Start, Step, Fold, Coarse}
use Rattle.trail.specs.declared.trail.Entry.{Entry}
use Rattle.trail.specs.Analysis.{IsFold, IsCoarse}
use Rattle.trail.specs.Seen.{IsHead}
use Rattle.trail.specs.Trail.{At, IsMadeOf, Made, IsResult, AreHonest}
use Rattle.trail.proofs.Sound.{same_some, at_number}
use Rattle.driver.specs.Driven.{driven, widening, IsPostThere}
use Rattle.driver.specs.Leaving.{IsPostOf}
use Rattle.driver.proofs.Closing.{from_earlier}
use Rattle.driver.proofs.Ways.{IsMadeFrom, Comes, ComesHere, ComesMade, Way, WayStart, WayStep, HasWay, has_way, has_walk}
use Rattle.plain.specs.Sizes.{makes, made_along, objects_of, AreGraphsSmall}
use Rattle.plain.proofs.ChainSteps.{at_front}
use Rattle.plain.proofs.EdgeSizes.{fewer, post_within, left_within}
use Rattle.plain.proofs.PostSizes.{IsWithin}
use Rattle.plain.proofs.StartSizes.{start_few}
use Rattle.plain.proofs.WalksOnce.{walks_once}
use Rattle.plain.proofs.Weights.{weighed, weight, weigh_less}

-- What edges make.

weight_made : (edges : List FlowEdge) → weight (map made_along edges) ≡ sum_by made_along edges
weight_made [] = refl
weight_made (first ∷ rest) = ap (λ (n : ℕ). made_along first + n) (weight_made rest) ∙ sym (sum_by-cons made_along first rest)

abbrev one_each : FlowEdge → ℕ
one_each edge = 1

weight_ones : (edges : List FlowEdge) → weight (map one_each edges) ≡ length edges
weight_ones [] = refl
weight_ones (first ∷ rest) = let later = weight_ones rest in omega arith

weight_there : (f : FlowEdge → ℕ) (edges : List FlowEdge) (number : ℕ) (edge : FlowEdge) → slice_get edges number ≡ Some edge → ◌≡◌ {A = ℕ} (get_or (map f edges) number 0) (f edge)
weight_there f [] number edge there = absurd cc
weight_there f (first ∷ rest) zero edge there = ap f (same_some first edge there)
weight_there f (first ∷ rest) (suc number) edge there = weight_there f rest number edge there

weighed_more : (weights way : List ℕ) (number : ℕ) → weighed weights (way ++ number ∷ []) ≡ weighed weights way + get_or weights number 0
weighed_more weights [] number = omega arith
weighed_more weights (first ∷ rest) number = let later = weighed_more weights rest number in omega arith

-- each step of a walk weighs one
walk_long : (edges : List FlowEdge) (from : ℕ) (walk : List ℕ) (to : ℕ) → IsWalk edges from walk to → weighed (map one_each edges) walk ≡ length walk
walk_long edges from [] to is = refl
walk_long edges from (number ∷ rest) to (middle, step, later) =
    let one : ◌≡◌ {A = ℕ} (get_or (map one_each edges) number 0) 1 = weight_there one_each edges number step.edge step.stands in
    let more : weighed (map one_each edges) rest ≡ length rest = walk_long edges middle rest to later in
    omega arith

-- The graphs along a chain of steps.

record IsGrown (flow : Flow) (way : List ℕ) (graph : Parts) : Type 0 where
  objects : length graph.objects ≤ (length flow.variables + length (parameters_of flow flow.main)) + weighed (map made_along flow.edges) way
  pairs : length graph.unequal ≤ length way
  regions : AreRegions graph.objects

module _ (flow : Flow) (valid : IsFlow flow) (none : flow.heads ≡ []) (limit : ℕ) (trail : List Entry) (honest : AreHonest driven (widening limit) flow trail) where
  made_there : (number : ℕ) (entry : Entry) (cause : Cause) → At trail number entry → entry.cause ≡ cause → Made driven (widening limit) flow (take number trail) entry cause
  made_there number entry cause there is = subst (Made driven (widening limit) flow (take number trail) entry) is (honest number entry there).made

  started : (entry : Entry) (way : List ℕ) → way ≡ [] → IsStartGraph flow entry.graph → IsGrown flow way entry.graph
  started entry way empty start =
      let is : entry.graph ≡ start_graph flow = start.is in
      let few = start_few flow in
      let objects : length entry.graph.objects ≤ length flow.variables + length (parameters_of flow flow.main) =
      subst (λ (g : Parts). length g.objects ≤ length flow.variables + length (parameters_of flow flow.main)) (sym is) few.0 in
      let none : length entry.graph.unequal ≡ 0 = ap (λ (g : Parts). length g.unequal) is ∙ few.1 in
      record { objects = omega arith; pairs = omega arith; regions = subst (λ (g : Parts). AreRegions g.objects) (sym is) (start_regions flow valid (subst IsGraph is start.graph)) }

  stepped : (earlier entry : Entry) (before way : List ℕ) (edge result : ℕ) (loss : Option ℕ) (front : List Entry) (from : ℕ) → way ≡ before ++ edge ∷ [] → (made : IsResult driven flow front entry from edge result loss) → IsGraph made.earlier.graph →
      IsGrown flow before made.earlier.graph → IsGrown flow way entry.graph
  stepped earlier entry before way edge result loss front from is_way made graph_is grown =
      let there : IsPostThere flow edge made.earlier.graph made.post = made.is in
      let of : IsPostOf flow there.edge made.earlier.graph made.post = there.is in
      let graphs : made.post.graphs ≡ map tidied (edge_post flow there.edge.instr made.earlier.graph).graphs = of.left.graphs.same ∙ ap (map tidied) (along_regions flow there.edge made.earlier.graph of.whole graph_is grown.regions of.is).graphs in
      let within : IsWithin made.earlier.graph (makes there.edge.instr) entry.graph =
      left_within made.earlier.graph (makes there.edge.instr) (edge_post flow there.edge.instr made.earlier.graph).graphs result entry.graph (post_within flow made.earlier.graph there.edge.instr)
      (ap (λ (gs : List Parts). slice_get gs result) (sym graphs) ∙ made.graph) in
      let one : ◌≡◌ {A = ℕ} (get_or (map made_along flow.edges) edge 0) (makes there.edge.instr) = weight_there made_along flow.edges edge there.edge there.stands in
      let more : weighed (map made_along flow.edges) way ≡ weighed (map made_along flow.edges) before + get_or (map made_along flow.edges) edge 0 =
      ap (weighed (map made_along flow.edges)) is_way ∙ weighed_more (map made_along flow.edges) before edge in
      let longer : length way ≡ length before + 1 = ap length is_way ∙ length-append before (edge ∷ []) in
      let o : length entry.graph.objects ≤ length made.earlier.graph.objects + makes there.edge.instr = within.objects in
      let p : length entry.graph.unequal ≤ length made.earlier.graph.unequal + 1 = within.pairs in
      let o' : length made.earlier.graph.objects ≤ (length flow.variables + length (parameters_of flow flow.main)) + weighed (map made_along flow.edges) before = grown.objects in
      let p' : length made.earlier.graph.unequal ≤ length before = grown.pairs in
      let one' : IsOne of.whole.graphs result entry.graph = one_of of.whole.graphs result entry.graph (sym (ap (λ (gs : List Parts). slice_get gs result) of.left.graphs.same) ∙ made.graph) in
      let whole_is : IsGraph one'.graph = at_number IsGraph of.whole.graphs result one'.graph of.left.graphs.are one'.there in
      let kept : AreOfRegions of.whole.graphs = regions_kept flow there.edge.instr made.earlier.graph graph_is grown.regions of.whole of.is.is in
      record {
        objects = omega arith;
        pairs = omega arith;
        regions = subst (λ (g : Parts). AreRegions g.objects) (sym one'.is) ((tidied_fits one'.graph whole_is).regions (kept.each result one'.graph one'.there));
      }

  -- without loops nothing is made of a graph at a loop head
  no_head : {A : Type 0} (point : ℕ) → IsHead flow point → A
  no_head point head = let (number, below, same) = subst (λ (heads : List ℕ). Contains heads point) none head.1 in absurd (omega arith)

  none_made : {A : Type 0} (from number : ℕ) → IsMadeFrom trail from number → A
  none_made from number (entry, there, inl is) = let made : IsMadeOf (IsFold (widening limit)) flow (take number trail) entry from = made_there number entry (Fold from) there is in no_head made.earlier.point made.head
  none_made from number (entry, there, inr is) = let made : IsMadeOf (IsCoarse (widening limit)) flow (take number trail) entry from = made_there number entry (Coarse from) there is in no_head made.earlier.point made.head

  come : (base number : ℕ) → Comes trail base number → (way : List ℕ) → ((entry : Entry) → At trail base entry → IsGrown flow way entry.graph) → (entry : Entry) → At trail number entry → IsGrown flow way entry.graph
  come base number (ComesHere _ _ same) way grown entry there = grown entry (ap (λ (n : ℕ). slice_get trail n) (sym same) ∙ there)
  come base number (ComesMade _ next _ made later) way grown entry there = none_made base next made

  grown : (number : ℕ) (way : List ℕ) → Way trail number way → (entry : Entry) → At trail number entry → IsGrown flow way entry.graph
  grown number way (WayStart _ _ first empty there is) entry there' =
      let one : first ≡ entry = same_some first entry (sym there ∙ there') in
      let made = made_there number entry Start there' (ap (λ (e : Entry). e.cause) (sym one) ∙ is) in
      started entry way empty made.1
  grown number way (WayStep _ _ base from edge result loss last before is_way there is so comes) entry there' =
      let one : last ≡ entry = same_some last entry (sym there ∙ there') in
      let made : IsResult driven flow (take number trail) entry from edge result loss = made_there number entry (Step from edge result loss) there' (ap (λ (e : Entry). e.cause) (sym one) ∙ is) in
      stepped made.earlier entry before way edge result loss (take number trail) from is_way made (honest from made.earlier (at_front trail number from made.earlier made.there)).fits.graph_is (come base from comes before (grown base before so) made.earlier (at_front trail number from made.earlier made.there))

  -- so each has no more objects than all edges make, and no more pairs than there are edges
  few_there : (number : ℕ) → IsNumberOfWalks flow.edges (entry_of flow flow.main) number → (at : ℕ) (entry : Entry) → At trail at entry → (length entry.graph.objects ≤ objects_of flow) × (length entry.graph.unequal ≤ length flow.edges) × AreRegions entry.graph.objects
  few_there number are at entry there =
      let so : HasWay trail at = has_way trail (from_earlier flow limit trail honest) at (slice_get_within trail at entry there) in
      let walk : IsWalk flow.edges (entry_of flow flow.main) so.way entry.point = has_walk flow limit trail honest at entry there so.base so.way so.is so.comes in
      let once = walks_once flow.edges (entry_of flow flow.main) number are so.way entry.point walk in
      let has : IsGrown flow so.way entry.graph = come so.base at so.comes so.way (grown so.base so.way so.is) entry there in
      let made : weighed (map made_along flow.edges) so.way ≤ weight (map made_along flow.edges) = weigh_less so.way (map made_along flow.edges) once in
      let steps : weighed (map one_each flow.edges) so.way ≤ weight (map one_each flow.edges) = weigh_less so.way (map one_each flow.edges) once in
      let all : weight (map made_along flow.edges) ≡ sum_by made_along flow.edges = weight_made flow.edges in
      let ones : weight (map one_each flow.edges) ≡ length flow.edges = weight_ones flow.edges in
      let long : weighed (map one_each flow.edges) so.way ≡ length so.way = walk_long flow.edges (entry_of flow flow.main) so.way entry.point walk in
      let o : length entry.graph.objects ≤ (length flow.variables + length (parameters_of flow flow.main)) + weighed (map made_along flow.edges) so.way = has.objects in
      let p : length entry.graph.unequal ≤ length so.way = has.pairs in
      (omega arith, omega arith, has.regions)

-- A graph of regions with few objects and pairs is not large.

region_live : (object : Object) → is_region object.shape ≡ true → live_nodes_of object ≤ 1
region_live object region = by_live object.live (by_shape object.shape region)
  where
    by_shape : (shape : Shape) → is_region shape ≡ true → nodes_of shape ≡ 1
    by_shape Region is = refl
    by_shape (Segment twofold head next prev back least next_value prev_value node) is = absurd (false≢true is)

    by_live : (b : Bool) → nodes_of object.shape ≡ 1 → (if b then nodes_of object.shape else 0) ≤ 1
    by_live true one = omega arith
    by_live false one = omega arith

live_few : (objects : List KeyedObject) → list_all (λ (entry : KeyedObject). is_region entry.object.shape) objects ≡ true → sum_by (λ (entry : KeyedObject). live_nodes_of entry.object) objects ≤ length objects
live_few [] all = omega arith
live_few (first ∷ rest) all =
    let sum = sum_by-cons (λ (entry : KeyedObject). live_nodes_of entry.object) first rest in
    let one : live_nodes_of first.object ≤ 1 = region_live first.object (and_left (is_region first.object.shape) (list_all (λ (entry : KeyedObject). is_region entry.object.shape) rest) all) in
    let later = live_few rest (and_right (is_region first.object.shape) (list_all (λ (entry : KeyedObject). is_region entry.object.shape) rest) all) in
    omega arith

large_not : (bound live dead pairs : ℕ) → live < bound → dead < bound → pairs < bound → (nat_le bound live || (nat_le bound dead || nat_le bound pairs)) ≡ true → ⊥
large_not bound live dead pairs a b c large = by_tests (nat_le bound live) (nat_le bound dead) (nat_le bound pairs) refl refl refl large
  where
    by_tests : (x y z : Bool) → nat_le bound live ≡ x → nat_le bound dead ≡ y → nat_le bound pairs ≡ z → (x || (y || z)) ≡ true → ⊥
    by_tests true y z p q r is = let more : bound ≤ live = leb-true bound live p in absurd (omega arith)
    by_tests false true z p q r is = let more : bound ≤ dead = leb-true bound dead q in absurd (omega arith)
    by_tests false false true p q r is = let more : bound ≤ pairs = leb-true bound pairs r in absurd (omega arith)
    by_tests false false false p q r is = absurd (false≢true is)

pub graphs_small : AreGraphsSmall
graphs_small flow limit number trail valid none small are honest at entry there large =
    let few = few_there flow valid none limit trail honest number are at entry there in
    let objects : length entry.graph.objects ≤ objects_of flow = few.0 in
    let pairs : length entry.graph.unequal ≤ length flow.edges = few.1 in
    let below : objects_of flow < 33554432 = small.objects in
    let edges : length flow.edges < 33554432 = small.edges in
    let live : live_nodes entry.graph ≤ length entry.graph.objects = live_few entry.graph.objects few.2 in
    let dead : addressed_dead entry.graph ≤ length entry.graph.objects = fewer (λ (one : KeyedObject). not one.object.live && is_addressed entry.graph one.key) entry.graph.objects in
    large_not 33554432 (live_nodes entry.graph) (addressed_dead entry.graph) (length entry.graph.unequal) (omega arith) (omega arith) (omega arith) large
