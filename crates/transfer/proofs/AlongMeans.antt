-- What the posts on the graphs that a graph is say together of the graph.
use Rattle.std.proofs.Common.{◌≡◌, ℕ, zero, suc, ◌+◌, ◌^◌, ◌<◌, Bool, true, false, ◌||◌, not, List, [], ◌∷◌, map, Option, None, Some, ◌⊎◌, inl, inr, refl, sym, ◌∙◌, ap, subst}
use Rattle.std.specs.Prelude.{◌↔◌, Result, Ok, Err, IfOk, IfErr, All, Contains, flat_map}
use Rattle.std.specs.List.{list_any}
use Rattle.std.specs.Option.{option_map_or, option_and_then}
use Rattle.std.proofs.lemmas.Bool.{false≢true, or_left, or_right}
use Rattle.std.proofs.lemmas.List.Elements.{All-cons, All-nil, All-head, All-tail, All-contains}
use Rattle.cbase.specs.declared.stop.Stop.{Stop}
use Rattle.cbase.specs.declared.stop.Stop.TheVariants as stops
use Rattle.graph.specs.declared.parts.Parts.{Parts}
use Rattle.graph.specs.declared.post.Post.{Post}
use Rattle.graph.specs.declared.value.Target.TheVariants.{Region, First, Last, Each}
use Rattle.graph.specs.declared.value.Value.{Value}
use Rattle.graph.specs.declared.value.Value.TheVariants.{Const, Number, Any, Address}
use Rattle.graph.specs.Meaning.{StandsFor}
use Rattle.graph.specs.State.{State, IsState}
use Rattle.graph.specs.Renaming.{numbered}
use Rattle.graph.specs.WellFormed.{are_ascending, is_within_limits, nodes}
use Rattle.graph.specs.Whole.{IsGraph}
use Rattle.graph.proofs.Tests.{and_left, and_right}
use Rattle.changes.specs.Following.{SomeFaults}
use Rattle.changes.specs.FollowingAlike.{FollowsAlike}
use Rattle.changes.specs.Posted.{Posted, IsPost, SomeStandsFor}
use Rattle.changes.specs.Reaching.{names_no_segment}
use Rattle.flow.specs.declared.flow_graph.Flow.{Flow}
use Rattle.flow.specs.declared.flow_graph.FlowEdge.{FlowEdge}
use Rattle.flow.specs.declared.instruction.Instr.{Instr}
use Rattle.flow.specs.Standing.{stands_at, stands_after}
use Rattle.heap_steps.specs.Regions.{AreRegions, IsExactOfRegions}
use Rattle.heap_steps.proofs.Listed.{Contains-cases, Contains-none, Contains-get, get_contained}
use Rattle.edge_steps.specs.EdgeSteps.{EdgeSteps, EdgeFaults}
use Rattle.edge_steps.specs.Laws.{sizes_at}
use Rattle.materialise.specs.Kept.{size_at, HoldsAsBefore}
use Rattle.settle.specs.Settled.{value_held, cases_of, cases_by, first_cases, or_else, name_no_segment, splits_left, settled_within, settled, is_too_large_within, is_too_large}
use Rattle.transfer.specs.Along.{IsPostAlong, is_full, is_full_along}
use Rattle.transfer.specs.Fitting.{FitsAt, FitAt, FitWith, MayBeNext, MayFollow}
use Rattle.transfer.specs.Laws.{IsUnsplitPost}
use Rattle.transfer.specs.Means.{HasPlaceFor, EdgeMeans}
use Rattle.transfer.specs.OfRegions.{AreOfRegions, FitsOfRegions, FitOfRegions}
use Rattle.transfer.specs.Posts.{edge_post}
use Rattle.transfer.specs.Settling.{IsPostIn, IsPostOfAll}
use Rattle.transfer.specs.Through.{goes_through}
use Rattle.transfer.specs.Together.{posted_of, together, post_along}
use Rattle.transfer.proofs.EdgeObjects.{edge_keeps}
use Rattle.transfer.proofs.KindsTogether.{HasKind, from_one, kind_with, ascending_together}
use Rattle.transfer.proofs.Listed.{place_for}
use Rattle.transfer.proofs.PostsTogether.{graph_with, HasGraph, graph_from, none_of_each, four_of_all, excuse_of_each, together_one, HasPostIn, post_of_graph, HasGraphIn, graph_of_post, posts_same}
use Rattle.transfer.proofs.Ready.{none_named}

-- A graph whose registers name no segment is one graph: itself.

module _ (parts : Parts) where
  no_case : (register : ℕ) → option_map_or names_no_segment (value_held parts register) true ≡ true → cases_by parts register ≡ None
  no_case register names = by_value (value_held parts register) names
    where
      by_value : (found : Option Value) → option_map_or names_no_segment found true ≡ true → option_and_then (cases_of parts) found ≡ None
      by_value None names = refl
      by_value (Some (Const number size)) names = refl
      by_value (Some (Number size)) names = refl
      by_value (Some Any) names = refl
      by_value (Some (Address object offset Region)) names = refl
      by_value (Some (Address object offset First)) names = absurd (false≢true names)
      by_value (Some (Address object offset Last)) names = absurd (false≢true names)
      by_value (Some (Address object offset Each)) names = absurd (false≢true names)

  no_cases : (registers : List ℕ) → name_no_segment registers parts ≡ true → first_cases parts registers ≡ None
  no_cases [] names = refl
  no_cases (first ∷ rest) names =
      ap (λ (o : Option (List Parts)). or_else o (first_cases parts rest)) (no_case first (and_left (option_map_or names_no_segment (value_held parts first) true) (name_no_segment rest parts) names))
      ∙ no_cases rest (and_right (option_map_or names_no_segment (value_held parts first) true) (name_no_segment rest parts) names)

  pub settled_itself : (registers : List ℕ) → name_no_segment registers parts ≡ true → settled registers parts ≡ parts ∷ []
  settled_itself registers names = by_count (splits_left registers parts)
    where
      by_count : (count : ℕ) → settled_within count registers parts ≡ parts ∷ []
      by_count zero = refl
      by_count (suc count) = ap (λ (o : Option (List Parts)). option_map_or (flat_map (λ case. settled_within count registers (numbered case))) o (parts ∷ [])) (no_cases registers names)

  pub never_too_large : (registers : List ℕ) → name_no_segment registers parts ≡ true → is_too_large registers parts ≡ false
  never_too_large registers names = by_count (splits_left registers parts)
    where
      by_count : (count : ℕ) → is_too_large_within count registers parts ≡ false
      by_count zero = refl
      by_count (suc count) = ap (λ (o : Option (List Parts)). option_map_or (list_any (λ case. not (is_within_limits case) || is_too_large_within count registers (numbered case))) o false) (no_cases registers names)

-- So its post is that of the table.

module _ (flow : Flow) (instr : Instr) (parts : Parts) (named : name_no_segment (goes_through instr) parts ≡ true) where
  pub unsplit_post : post_along flow instr parts ≡ edge_post flow instr parts
  unsplit_post = ap (λ (graphs : List Parts). together (map (edge_post flow instr) graphs)) (settled_itself parts (goes_through instr) named) ∙ together_one (edge_post flow instr parts)

  pub unsplit_full : is_full_along instr parts ≡ is_full instr parts
  unsplit_full =
      ap (λ (b : Bool). b || list_any (is_full instr) (settled (goes_through instr) parts)) (never_too_large parts (goes_through instr) named)
      ∙ (ap (list_any (is_full instr)) (settled_itself parts (goes_through instr) named) ∙ or_false (is_full instr parts))
    where
      or_false : (b : Bool) → (b || false) ≡ b
      or_false true = refl
      or_false false = refl

pub unsplit : IsUnsplitPost
unsplit flow instr parts named = (unsplit_post flow instr parts named, unsplit_full flow instr parts named)

-- And so is that of a graph of regions.

module _ (flow : Flow) (instr : Instr) (parts : Parts) (graph : IsGraph parts) (regions : AreRegions parts.objects) where
  named : name_no_segment (goes_through instr) parts ≡ true
  named = none_named parts regions graph (goes_through instr)

  pub regions_settled : settled (goes_through instr) parts ≡ parts ∷ []
  regions_settled = settled_itself parts (goes_through instr) named

  pub regions_post : post_along flow instr parts ≡ edge_post flow instr parts
  regions_post = unsplit_post flow instr parts named

  pub regions_full : is_full_along instr parts ≡ is_full instr parts
  regions_full = unsplit_full flow instr parts named

  pub regions_place : nodes parts + 1 < 2 ^ 30 → All (HasPlaceFor instr) (settled (goes_through instr) parts)
  regions_place room = subst (All (HasPlaceFor instr)) (sym regions_settled) (All-cons (HasPlaceFor instr) parts [] (place_for parts regions instr room) (All-nil (HasPlaceFor instr)))

  -- and graphs of regions come of it
  pub regions_kept : (post : Post) → IsPost (post_along flow instr parts) post → AreOfRegions post.graphs
  regions_kept post is = record {
    each = λ place after there.
        (edge_keeps flow instr parts after
        (subst (λ (graphs : List Parts). Contains graphs after) (is.graphs ∙ ap (λ (p : Posted). p.graphs) regions_post) (Contains-get post.graphs place after there))).regions regions;
  }

-- where along an edge
pub along_regions : (flow : Flow) (edge : FlowEdge) (parts : Parts) (post : Post) → IsGraph parts → AreRegions parts.objects → IsPostAlong flow edge parts post → IsPost (edge_post flow edge.instr parts) post
along_regions flow edge parts post graph regions along = subst (λ (p : Posted). IsPost p post) (regions_post flow edge.instr parts graph regions) along.is

-- Any graph.

module _ (flow : Flow) (point : ℕ) (instr : Instr) (parts : Parts) (graphs : List Parts) (graph : IsGraph parts) (settled_is : graphs ≡ settled (goes_through instr) parts)
    (meant : (state : State) → (StandsFor parts state ↔ SomeStandsFor graphs state)) (post : Post) (all : IsPostOfAll flow point instr graphs post) where
  abbrev Steps : State → State → Type 0
  Steps = EdgeSteps flow (sizes_at flow point) instr

  abbrev posts : List Posted
  posts = map posted_of all.posts

  -- a state of one of the graphs is one of the graph
  stood : (one : Parts) (state : State) → Contains graphs one → StandsFor one state → StandsFor parts state
  stood one state among stands = (meant state).1 (record { graph = one; among = among; stands = stands })

  post_of_one : (one : Parts) → Contains graphs one → HasPostIn flow point instr all.posts one
  post_of_one one among = post_of_graph flow point instr graphs all.posts all.are one among

  graph_of_one : (posted : Posted) → Contains posts posted → HasGraphIn flow point instr graphs posted
  graph_of_one posted among = graph_of_post flow point instr graphs all.posts all.are posted among

  pub post_is : IsPost (post_along flow instr parts) post
  post_is =
      subst (λ (p : Posted). IsPost p post) (ap together (posts_same flow point instr graphs all.posts all.are) ∙ ap (λ (gs : List Parts). together (map (edge_post flow instr) gs)) settled_is) all.is

  follows : (one : Parts) (next : State) → Contains graphs one → FollowsAlike one Steps next → FollowsAlike parts Steps next
  follows one next among come = record {
    state = come.state;
    next' = come.next';
    is = come.is;
    stands = stood one come.state among come.stands;
    steps = come.steps;
    there = come.there;
    back = come.back;
    paired = come.paired;
    alike = come.alike;
  }

  faults_back : (one : Parts) (kind : ℕ) → Contains graphs one → SomeFaults one (EdgeFaults instr kind) → SomeFaults parts (EdgeFaults instr kind)
  faults_back one kind among some = record { state = some.state; is = some.is; stands = stood one some.state among some.stands; faults = some.faults }

  sound : (state next : State) → IsState state → StandsFor parts state → Steps state next → (post.loss ≡ Some 4 → post.kinds ≡ []) → SomeStandsFor post.graphs next
  sound state next is stands steps excuse = record {
    graph = found.graph;
    among = subst (λ (gs : List Parts). Contains gs found.graph) (sym all.is.graphs) (graph_with posts (posted_of one.post) found.graph one.among found.among);
    stands = found.stands;
  }
    where
      some : SomeStandsFor graphs state
      some = (meant state).0 stands

      one : HasPostIn flow point instr all.posts some.graph
      one = post_of_one some.graph some.among

      whole : (together posts).loss ≡ Some 4 → (together posts).kinds ≡ []
      whole four = sym all.is.kinds ∙ excuse (all.is.loss ∙ four)

      found : SomeStandsFor one.post.graphs next
      found = one.is.means.sound state next is some.stands steps (excuse_of_each posts (posted_of one.post) whole one.among)

  -- of a graph of the post: the graph of which it is one, with its post
  record IsBehind (after : Parts) : Type 0 where
    one : Parts
    behind : Post
    among : Contains graphs one
    has : Contains behind.graphs after
    none : post.loss ≡ None → behind.loss ≡ None
    is : IsPostIn flow point instr one behind

  behind_one : (after : Parts) → Contains post.graphs after → IsBehind after
  behind_one after among = record {
    one = its.graph;
    behind = its.post;
    among = its.among;
    has = subst (λ (p : Posted). Contains p.graphs after) (sym its.same) from.has;
    none = λ none. ap (λ (p : Posted). p.loss) its.same ∙ none_of_each posts from.posted (sym all.is.loss ∙ none) from.among;
    is = its.is;
  }
    where
      from : HasGraph posts after
      from = graph_from posts after (subst (λ (gs : List Parts). Contains gs after) all.is.graphs among)

      its : HasGraphIn flow point instr graphs from.posted
      its = graph_of_one from.posted from.among

  pub fits_all : FitWith flow (stands_after flow instr (stands_at flow point)) post.graphs
  fits_all = record {
    each = λ place after there.
        let one = behind_one after (Contains-get post.graphs place after there) in
        let at = get_contained one.behind.graphs after one.has in
        one.is.fits.each at.0 after at.1;
  }

  -- of a kind of the post: the graph whose states meet it
  record IsListed (kind : ℕ) : Type 0 where
    one : Parts
    behind : Post
    among : Contains graphs one
    has : Contains behind.kinds kind
    four : behind.loss ≡ Some 4 → post.loss ≡ Some 4
    is : IsPostIn flow point instr one behind

  listed_one : (kind : ℕ) → Contains post.kinds kind → IsListed kind
  listed_one kind listed = by_known (from_one [] posts kind (subst (λ (ks : List ℕ). Contains ks kind) all.is.kinds listed))
    where
      by_known : Contains [] kind ⊎ HasKind posts kind → IsListed kind
      by_known (inl none) = absurd (Contains-none kind none)
      by_known (inr from) = let its = graph_of_one from.posted from.among in record {
        one = its.graph;
        behind = its.post;
        among = its.among;
        has = subst (λ (p : Posted). Contains p.kinds kind) (sym its.same) from.has;
        four = λ four. all.is.loss ∙ four_of_all posts from.posted kind from.among (ap (λ (p : Posted). p.loss) (sym its.same) ∙ four) from.has;
        is = its.is;
      }

  ascending : are_ascending post.kinds ≡ true
  ascending = ap are_ascending all.is.kinds ∙ ascending_together [] posts refl (λ posted among. let one = graph_of_one posted among in ap (λ (p : Posted). are_ascending p.kinds) (sym one.same) ∙ one.is.means.ascending)

  regions_exact : IsExactOfRegions parts Steps post
  regions_exact = record {
    exact = λ none regions after next among next_is stands.
        let its = behind_one after among in
        let same : parts ≡ its.one = only its.one (subst (λ (gs : List Parts). Contains gs its.one) (settled_is ∙ regions_settled flow instr parts graph regions) its.among) in
        follows its.one next its.among
        (its.is.means.exact_of_regions.exact (its.none none) (subst (λ (p : Parts). AreRegions p.objects) same regions) after next its.has next_is stands);
  }
    where
      only : (one : Parts) → Contains (parts ∷ []) one → parts ≡ one
      only one among = by_cases (Contains-cases parts one [] among)
        where
          by_cases : (parts ≡ one) ⊎ Contains [] one → parts ≡ one
          by_cases (inl same) = same
          by_cases (inr none) = absurd (Contains-none one none)

  pub means_all : EdgeMeans flow point instr parts post
  means_all = record {
    sound = sound;
    exact = λ after next none among next_is stands room. let its = behind_one after among in follows its.one next its.among (its.is.means.exact after next (its.none none) its.has next_is stands room);
    exact_of_regions = regions_exact;
    kinds = λ state kind is stands faults.
        let some : SomeStandsFor graphs state = (meant state).0 stands in
        let its = post_of_one some.graph some.among in
        subst (λ (ks : List ℕ). Contains ks kind) (sym all.is.kinds) (kind_with [] posts (posted_of its.post) kind its.among (its.is.means.kinds state kind is some.stands faults));
    met = λ kind precise listed. let its = listed_one kind listed in faults_back its.one kind its.among (its.is.means.met kind (λ four. precise (its.four four)) its.has);
    through_any = λ places kind listed.
        let its = listed_one kind listed in
        faults_back its.one kind its.among (its.is.means.through_any (All-contains (HasPlaceFor instr) (settled (goes_through instr) parts) its.one places (subst (λ (gs : List Parts). Contains gs its.one) settled_is its.among)) kind its.has);
    ascending = ascending;
  }

-- Graphs that hold as before fit the point.

settled_fits : (flow : Flow) (point : ℕ) (parts after : Parts) → FitsAt flow point parts → HoldsAsBefore parts after → FitsAt flow point after
settled_fits flow point parts after fits holds = record {
  variables = λ variable. holds.variables variable ∙ fits.variables variable;
  registers = λ register. holds.registers register ∙ fits.registers register;
  ports = none_mapped after.ports (holds.ports ∙ ap (map (size_at parts)) fits.ports);
}
  where
    none_mapped : (ports : List ℕ) → map (size_at after) ports ≡ [] → ports ≡ []
    none_mapped [] none = refl
    none_mapped (first ∷ rest) none = absurd cc

pub may_follow_all : (flow : Flow) (point : ℕ) (instr : Instr) (parts : Parts) (graphs : List Parts) (registers : List ℕ) → FitsAt flow point parts → MayBeNext flow point instr → registers ≡ goes_through instr →
    All (λ after. name_no_segment registers after ≡ true) graphs → All (HoldsAsBefore parts) graphs → All (MayFollow flow point instr) graphs
may_follow_all flow point instr parts [] registers fits next same none holds = All-nil (MayFollow flow point instr)
may_follow_all flow point instr parts (first ∷ rest) registers fits next same none holds =
    All-cons (MayFollow flow point instr) first rest
    (record {
      fits = settled_fits flow point parts first fits (All-head (HoldsAsBefore parts) first rest holds);
      reads = next.reads;
      sizes = next.sizes;
      tests = next.tests;
      scope = next.scope;
      variables = next.variables;
      through = ap (λ (rs : List ℕ). name_no_segment rs first) (sym same) ∙ All-head (λ after. name_no_segment registers after ≡ true) first rest none;
    })
    (may_follow_all flow point instr parts rest registers fits next same (All-tail (λ after. name_no_segment registers after ≡ true) first rest none) (All-tail (HoldsAsBefore parts) first rest holds))

-- By the answer.

pub may_follow_these : (flow : Flow) (point : ℕ) (instr : Instr) (parts : Parts) (graphs given : List Parts) (registers : List ℕ) → given ≡ graphs → FitsAt flow point parts → MayBeNext flow point instr → registers ≡ goes_through instr →
    All (λ after. name_no_segment registers after ≡ true) graphs → All (HoldsAsBefore parts) graphs → All (MayFollow flow point instr) given
may_follow_these flow point instr parts graphs given registers given_is fits next same none holds =
    subst (All (MayFollow flow point instr)) (sym given_is) (may_follow_all flow point instr parts graphs registers fits next same none holds)

module _ (flow : Flow) (point : ℕ) (instr : Instr) (parts : Parts) (graphs given : List Parts) (given_is : given ≡ graphs) (graph : IsGraph parts) (registers : List ℕ) (same : registers ≡ goes_through instr)
    (settled_is : graphs ≡ settled registers parts) (meant : (state : State) → (StandsFor parts state ↔ SomeStandsFor graphs state)) where
  by_these : given ≡ settled (goes_through instr) parts
  by_these = given_is ∙ (settled_is ∙ ap (λ (rs : List ℕ). settled rs parts) same)

  means_these : (state : State) → (StandsFor parts state ↔ SomeStandsFor given state)
  means_these state = subst (λ (gs : List Parts). StandsFor parts state ↔ SomeStandsFor gs state) (sym given_is) (meant state)

  pub post_answer : (result : Result Post Stop) → IfOk result (λ post. IsPostOfAll flow point instr given post) → IfOk result (λ post. IsPost (post_along flow instr parts) post)
  post_answer (Ok post) all = post_is flow point instr parts given graph by_these means_these post all
  post_answer (Err stop) all = tt

  pub means_answer : (result : Result Post Stop) → IfOk result (λ post. IsPostOfAll flow point instr given post) → IfOk result (λ post. EdgeMeans flow point instr parts post)
  means_answer (Ok post) all = means_all flow point instr parts given graph by_these means_these post all
  means_answer (Err stop) all = tt

  pub fits_answer : (result : Result Post Stop) → IfOk result (λ post. IsPostOfAll flow point instr given post) → IfOk result (λ post. FitWith flow (stands_after flow instr (stands_at flow point)) post.graphs)
  fits_answer (Ok post) all = fits_all flow point instr parts given graph by_these means_these post all
  fits_answer (Err stop) all = tt

  pub regions_answer : (result : Result Post Stop) → IfOk result (λ post. IsPostOfAll flow point instr given post) → IfOk result (λ post. AreRegions parts.objects → AreOfRegions post.graphs)
  regions_answer (Ok post) all = λ regions. regions_kept flow instr parts graph regions post (post_is flow point instr parts given graph by_these means_these post all)
  regions_answer (Err stop) all = tt

  pub large_answer : (result : Result Post Stop) → IfErr result (λ stop. stop ≡ stops.Large → list_any (is_full instr) given ≡ true) → IfErr result (λ stop. stop ≡ stops.Large → is_full_along instr parts ≡ true)
  large_answer (Ok post) large = tt
  large_answer (Err stop) large = λ is. or_right (is_too_large (goes_through instr) parts) (list_any (is_full instr) (settled (goes_through instr) parts)) (ap (list_any (is_full instr)) (sym by_these) ∙ large is)

pub large_settling : (instr : Instr) (parts : Parts) (registers : List ℕ) (stop : Stop) → registers ≡ goes_through instr → (stop ≡ stops.Large → is_too_large registers parts ≡ true) → stop ≡ stops.Large → is_full_along instr parts ≡ true
large_settling instr parts registers stop same large is =
    or_left (is_too_large (goes_through instr) parts) (list_any (is_full instr) (settled (goes_through instr) parts)) (ap (λ (rs : List ℕ). is_too_large rs parts) (sym same) ∙ large is)

-- A graph of regions that fits, and what comes of it.

pub fits_alone : (flow : Flow) (point : ℕ) (parts : Parts) → FitsOfRegions flow point parts → FitsAt flow point parts
fits_alone flow point parts fits = record { variables = fits.variables; registers = fits.registers; ports = fits.ports }

pub fits_with_regions : (flow : Flow) (point : ℕ) (parts : Parts) → FitsAt flow point parts → AreRegions parts.objects → FitsOfRegions flow point parts
fits_with_regions flow point parts fits regions = record { variables = fits.variables; registers = fits.registers; ports = fits.ports; regions = regions }

pub fit_with_regions : (flow : Flow) (point : ℕ) (graphs : List Parts) → FitAt flow point graphs → AreOfRegions graphs → FitOfRegions flow point graphs
fit_with_regions flow point graphs fit are = record { each = λ place parts there. fits_with_regions flow point parts (fit.each place parts there) (are.each place parts there) }
