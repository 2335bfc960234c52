-- What the parts of the loop keep.
use Rattle.std.proofs.Common.{◌≡◌, ℕ, zero, suc, ◌<◌, ◌≤◌, ◌+◌, List, [], ◌∷◌, ◌++◌, Bool, true, false, ◌&&◌, refl, sym, ap, subst, ◌∙◌, inl, inr, Option, None, Some, length, nat_eq, get_or, arith}
use Rattle.std.specs.Prelude.{slice_get, Contains, IfOk, IfSome, Result, Ok, Err}
use Rattle.std.proofs.lemmas.Bool.{eqb-true, eq-eqb, and_parts, and_from, cases_lt}
use Rattle.std.proofs.lemmas.Option.{slice_get_within, slice_get-get_or}
use Rattle.graph.specs.declared.parts.Parts.{Parts}
use Rattle.graph.specs.declared.post.Post.{Post}
use Rattle.graph.specs.Whole.{IsGraph}
use Rattle.flow.specs.declared.flow_graph.Flow.{Flow}
use Rattle.flow.specs.declared.flow_graph.FlowEdge.{FlowEdge}
use Rattle.flow.specs.Valid.{IsFlow}
use Rattle.graph.specs.Large.{is_large}
use Rattle.cbase.specs.declared.stop.Stop.{Stop}
use Rattle.cbase.specs.declared.stop.Stop.TheVariants as stops
use Rattle.transfer.specs.Fitting.{FitsAt, FitAt}
use Rattle.changes.specs.Posted.{IsPost}
use Rattle.transfer.specs.Together.{post_along}
use Rattle.transfer.specs.Means.{EdgeMeans}
use Rattle.trail.specs.declared.trail.Cause.{Cause}
use Rattle.trail.specs.declared.trail.Cause.TheVariants.{Start, Step, Fold, Coarse}
use Rattle.trail.specs.declared.trail.Entry.{Entry}
use Rattle.trail.specs.Seen.{is_ordinary}
use Rattle.trail.specs.Trail.{At, AreHonest, IsDone, HasKind}
use Rattle.trail.specs.Work.{IsWorked, AreEdgesDone, AreResultsDone, IsBefore, AreBefore, candidate, IsOffered, Grows}
use Rattle.trail.proofs.Sound.{same_some, at_number}
use Rattle.trail.proofs.Grow.{at_front, at_split, comes_first, edges_on, honest_one, pended, grown, before_grown, result_pushed, edge_done, edges_more, turned, before_new}
use Rattle.driver.proofs.Leading.{Passes}
use Rattle.driver.specs.declared.verdict.Warning.{Warning}
use Rattle.driver.specs.declared.verdict.Limits.{Limits}
use Rattle.driver.specs.declared.work.Work.{Work}
use Rattle.driver.specs.Leaving.{IsLeft, IsPostOf}
use Rattle.driver.specs.Driven.{driven, widening, is_small, IsPlaced}
use Rattle.driver.proofs.Left.{kinds_left, fits_left}
use Rattle.driver.specs.Growing.{Grown, IsFull, Adds}
use Rattle.driver.specs.Telling.{IsToldBy, IsWarning, AreWarnings, AreKindsTold, AreTold, AreNoted}
use Rattle.driver.specs.Looping.{Onward, leads, is_marked, is_kept, point_in, point_of, IsKnown, Worked, IsOn, OnEntry, IsPostAt, IsLargeAt, IsStoppedAt, AtEdge, OnEdge, IsNext, IsWhy, IsToldOf, IsHalted, IsEntryAt}

clash : {A : Type 0} (b : Bool) → b ≡ true → b ≡ false → A
clash b x y = cc

-- causes
before_more : (c : Cause) (at number count : ℕ) → IsBefore c at number count → IsBefore c at number (count + 1)
before_more Start at number count is = tt
before_more (Fold from) at number count is = tt
before_more (Coarse from) at number count is = tt
before_more (Step from edge which loss) at number count (inl less) = inl less
before_more (Step from edge which loss) at number count (inr (same, inl less)) = inr (same, inl less)
before_more (Step from edge which loss) at number count (inr (same, inr (same', less))) = inr (same, inr (same', omega arith))

before_edge : (c : Cause) (at number more count : ℕ) → number < more → IsBefore c at number count → IsBefore c at more 0
before_edge Start at number more count past is = tt
before_edge (Fold from) at number more count past is = tt
before_edge (Coarse from) at number more count past is = tt
before_edge (Step from edge which loss) at number more count past (inl less) = inl less
before_edge (Step from edge which loss) at number more count past (inr (same, inl less)) = inr (same, inl (omega arith))
before_edge (Step from edge which loss) at number more count past (inr (same, inr (same', less))) = inr (same, inl (omega arith))

before_entry : (c : Cause) (at number count : ℕ) → IsBefore c at number count → IsBefore c (at + 1) 0 0
before_entry Start at number count is = tt
before_entry (Fold from) at number count is = tt
before_entry (Coarse from) at number count is = tt
before_entry (Step from edge which loss) at number count (inl less) = inl (omega arith)
before_entry (Step from edge which loss) at number count (inr (same, more)) = inl (omega arith)

behind_there : (trail more : List Entry) (entry : Entry) (number : ℕ) → length trail ≤ number → At (trail ++ more) number entry → (place : ℕ) × At more place entry
behind_there [] more entry number late there = (number, there)
behind_there (first ∷ rest) more entry zero late there = absurd (omega arith)
behind_there (first ∷ rest) more entry (suc number) late there = behind_there rest more entry number (omega arith) there

causes_pushed : (limits : Limits) (flow : Flow) (trail more : List Entry) (at number count point : ℕ) (loss : Option ℕ) (graph : Parts) → AreBefore trail at number count →
    Grows driven (widening limits.int_limit) flow point trail (Step at number count loss) graph more → AreBefore (trail ++ more) at number (count + 1)
causes_pushed limits flow trail more at number count point loss graph so grows = record {
  before = λ place entry there. elim (at_split trail more entry place there) [
    | inl (old, there') ↦ before_more entry.cause at number count (so.before place entry there')
    | inr late ↦ let (later, there') = behind_there trail more entry place late there in
        before_grown driven (widening limits.int_limit) flow point trail (Step at number count loss) graph at number (count + 1) (inr (refl, inr (refl, omega arith))) more grows later entry there'
  ];
}

-- entries more
warning_on : (flow : Flow) (trail more : List Entry) (warning : Warning) → IsWarning flow trail warning → IsWarning flow (trail ++ more) warning
warning_on flow trail more warning is = record {
  entry = is.entry;
  there = at_front trail more warning.entry is.entry is.there;
  kept = is.kept;
  has = is.has;
  place_is = is.place_is;
}

warnings_on : (flow : Flow) (trail more : List Entry) (warnings : List Warning) → AreWarnings flow trail warnings → AreWarnings flow (trail ++ more) warnings
warnings_on flow trail more warnings are = record { each = λ warning among. warning_on flow trail more warning (are.each warning among) }

told_on : (flow : Flow) (trail more : List Entry) (warnings : List Warning) (at : ℕ) → at ≤ length trail → AreTold flow trail warnings at → AreTold flow (trail ++ more) warnings at
told_on flow trail more warnings at within so = record {
  told = λ place entry number kind below there kept has. elim (at_split trail more entry place there) [
    | inl (old, there') ↦ so.told place entry number kind below there' kept has
    | inr late ↦ absurd (omega arith)
  ];
}

known_grown : (flow : Flow) (limits : Limits) (before after : Work) (at point : ℕ) (cause : Cause) (graph : Parts) → IsKnown flow limits before at → at < length before.trail →
    Grown flow limits before after point cause graph → IsOffered driven (widening limits.int_limit) flow before.trail point cause graph → IsKnown flow limits after at
known_grown flow limits before after at point cause graph known within grew offered =
    let put = grew.in_work.put in
    record {
      worked = subst (λ (trail : List Entry). IsWorked driven (widening limits.int_limit) flow trail at) (sym put.trail_is)
          (grown driven (widening limits.int_limit) flow point before.trail cause graph at grew.more grew.grows known.worked (omega arith) offered);
      booked = put.booked;
      points = put.points ∙ known.points;
      warnings = subst (λ (trail : List Entry). AreWarnings flow trail after.warnings) (sym put.trail_is)
          (subst (λ (ws : List Warning). AreWarnings flow (before.trail ++ grew.more) ws) (sym put.warnings) (warnings_on flow before.trail grew.more before.warnings known.warnings));
      told = subst (λ (trail : List Entry). AreTold flow trail after.warnings at) (sym put.trail_is)
          (subst (λ (ws : List Warning). AreTold flow (before.trail ++ grew.more) ws at) (sym put.warnings) (told_on flow before.trail grew.more before.warnings at (omega arith) known.told));
    }

on_grown : (flow : Flow) (limits : Limits) (before after : Work) (at here point : ℕ) (cause : Cause) (graph : Parts) → IsOn flow limits before at here →
    Grown flow limits before after point cause graph → IsOffered driven (widening limits.int_limit) flow before.trail point cause graph → IsOn flow limits after at here
on_grown flow limits before after at here point cause graph on grew offered = record {
  known = known_grown flow limits before after at point cause graph on.known (slice_get_within before.trail at on.entry on.there) grew offered;
  next = grew.in_work.next ∙ on.next;
  entry = on.entry;
  there = subst (λ (trail : List Entry). At trail at on.entry) (sym grew.in_work.put.trail_is) (at_front before.trail grew.more at on.entry on.there);
  kept = on.kept;
  point_is = on.point_is;
}

-- the entry of a graph of a post
offered_next : (flow : Flow) (limits : Limits) (work : Work) (at point number : ℕ) (edge : FlowEdge) (post : Post) (count : ℕ) (graph : Parts) →
    OnEdge flow limits work at point number edge post count → slice_get post.graphs count ≡ Some graph → IsPlaced flow edge.to graph →
    IsOffered driven (widening limits.int_limit) flow work.trail edge.to (Step at number count post.loss) graph
offered_next flow limits work at point number edge post count graph on there placed = record {
  fits = placed;
  made = λ kept. record {
    earlier = on.on.entry;
    there = on.on.there;
    kept = on.on.kept;
    edge = edge;
    stands = on.stands;
    ordinary = on.ordinary;
    leaves = on.leaves ∙ sym on.on.point_is;
    arrives = refl;
    post = post;
    is = record { edge = edge; stands = on.stands; ordinary = on.ordinary; is = on.is };
    graph = there;
    loss_is = refl;
  };
  new = before_new work.trail at number count post.loss on.causes;
}

pub placed_next : (flow : Flow) (limits : Limits) (work : Work) (at point number : ℕ) (edge : FlowEdge) (post : Post) (count : ℕ) (graph : Parts) →
    OnEdge flow limits work at point number edge post count → slice_get post.graphs count ≡ Some graph → IsGraph graph → is_small graph ≡ true → IsPlaced flow edge.to graph
placed_next flow limits work at point number edge post count graph on there graph_is small = record { graph_is = graph_is; small = small; fits = on.fits.each count graph there }

on_edge_next : (flow : Flow) (limits : Limits) (before after : Work) (at point number : ℕ) (edge : FlowEdge) (post : Post) (count : ℕ) (graph : Parts) →
    OnEdge flow limits before at point number edge post count → slice_get post.graphs count ≡ Some graph → IsPlaced flow edge.to graph → Grown flow limits before after edge.to (Step at number count post.loss) graph →
    OnEdge flow limits after at point number edge post (count + 1)
unfolding on_grown
on_edge_next flow limits before after at point number edge post count graph on there placed grew =
    let cause : Cause = Step at number count post.loss in
    let offered : IsOffered driven (widening limits.int_limit) flow before.trail edge.to cause graph = offered_next flow limits before at point number edge post count graph on there placed in
    let trail_is = grew.in_work.put.trail_is in
    record {
      on = on_grown flow limits before after at point edge.to cause graph on.on grew offered;
      stands = on.stands;
      ordinary = on.ordinary;
      leaves = on.leaves;
      is = on.is;
      fits = on.fits;
      edges = subst (λ (trail : List Entry). AreEdgesDone driven flow trail at on.on.entry number) (sym trail_is)
          (edges_on driven flow before.trail grew.more at on.on.entry number on.edges);
      here = subst (λ (ws : List Warning). AreKindsTold flow ws at on.on.entry (number + 1)) (sym grew.in_work.put.warnings) on.here;
      results = subst (λ (trail : List Entry). AreResultsDone trail at number edge post (count + 1)) (sym trail_is)
          (result_pushed before.trail grew.more at number edge post count graph on.results
          (comes_first driven (widening limits.int_limit) flow edge.to before.trail cause graph grew.more grew.grows) there);
      causes = subst (λ (trail : List Entry). AreBefore trail at number (count + 1)) (sym trail_is)
          (causes_pushed limits flow before.trail grew.more at number count edge.to post.loss graph on.causes grew.grows);
    }

-- one more would be kept beyond the budget
told_full : (flow : Flow) (limits : Limits) (before after : Work) (at point : ℕ) (cause : Cause) (graph : Parts) → IsKnown flow limits before at → at < length before.trail →
    (full : IsFull flow limits before after point cause graph) → IsOffered driven (widening limits.int_limit) flow before.trail point cause graph → IsToldOf flow limits after at
told_full flow limits before after at point cause graph known within full offered =
    let put = full.put in
    let so = pended driven (widening limits.int_limit) flow point before.trail cause graph known.worked.honest offered full.pending full.last full.wide full.pends in
    record {
      honest = subst (λ (trail : List Entry). AreHonest driven (widening limits.int_limit) flow trail) (sym put.trail_is) so.honest;
      booked = put.booked;
      points = put.points ∙ known.points;
      warnings = subst (λ (trail : List Entry). AreWarnings flow trail after.warnings) (sym put.trail_is)
          (subst (λ (ws : List Warning). AreWarnings flow (before.trail ++ full.pending) ws) (sym put.warnings) (warnings_on flow before.trail full.pending before.warnings known.warnings));
      told = subst (λ (trail : List Entry). AreTold flow trail after.warnings at) (sym put.trail_is)
          (subst (λ (ws : List Warning). AreTold flow (before.trail ++ full.pending) ws at) (sym put.warnings) (told_on flow before.trail full.pending before.warnings at (omega arith) known.told));
    }

next_full : (flow : Flow) (limits : Limits) (before after : Work) (at point : ℕ) (cause : Cause) (graph : Parts) → IsKnown flow limits before at →
    (full : IsFull flow limits before after point cause graph) → IsOffered driven (widening limits.int_limit) flow before.trail point cause graph →
    IsNext flow limits after.trail (candidate point full.last full.wide true)
next_full flow limits before after at point cause graph known full offered =
    let so = pended driven (widening limits.int_limit) flow point before.trail cause graph known.worked.honest offered full.pending full.last full.wide full.pends in
    record {
      honest = honest_one driven (widening limits.int_limit) flow point after.trail full.last full.wide true
          (subst (λ (trail : List Entry). IsOffered driven (widening limits.int_limit) flow trail point full.last full.wide) (sym full.put.trail_is) so.offered)
          (λ kept. full.free) (λ kept. full.reduced);
      kept = refl;
      full = full.full;
    }

halted_full : (flow : Flow) (limits : Limits) (before after : Work) (at point number : ℕ) (edge : FlowEdge) (post : Post) (count : ℕ) (graph : Parts) →
    OnEdge flow limits before at point number edge post count → slice_get post.graphs count ≡ Some graph → IsPlaced flow edge.to graph → IsFull flow limits before after edge.to (Step at number count post.loss) graph →
    IsHalted flow limits after at
halted_full flow limits before after at point number edge post count graph on there placed full =
    let cause : Cause = Step at number count post.loss in
    let offered : IsOffered driven (widening limits.int_limit) flow before.trail edge.to cause graph = offered_next flow limits before at point number edge post count graph on there placed in
    record {
      known = told_full flow limits before after at edge.to cause graph on.on.known (slice_get_within before.trail at on.on.entry on.on.there) full offered;
      why = subst (λ (next : Option Entry). IsWhy flow limits after.trail at next) (sym full.next) (next_full flow limits before after at edge.to cause graph on.on.known full offered);
    }

-- one graph of a post more, or the budget is spent
pub step_goes : (flow : Flow) (limits : Limits) (before after : Work) (at point number : ℕ) (edge : FlowEdge) (post : Post) (count : ℕ) (graph : Parts) (fits : Bool) →
    OnEdge flow limits before at point number edge post count → slice_get post.graphs count ≡ Some graph → IsPlaced flow edge.to graph → Adds flow limits before after edge.to (Step at number count post.loss) graph fits → fits ≡ true →
    OnEdge flow limits after at point number edge post (count + 1)
step_goes flow limits before after at point number edge post count graph fits on there placed adds is_true =
    on_edge_next flow limits before after at point number edge post count graph on there placed
    (subst (λ (b : Bool). Adds flow limits before after edge.to (Step at number count post.loss) graph b) is_true adds)

pub step_halts : (flow : Flow) (limits : Limits) (before after : Work) (at point number : ℕ) (edge : FlowEdge) (post : Post) (count : ℕ) (graph : Parts) (fits : Bool) →
    OnEdge flow limits before at point number edge post count → slice_get post.graphs count ≡ Some graph → IsPlaced flow edge.to graph → Adds flow limits before after edge.to (Step at number count post.loss) graph fits → fits ≡ false →
    IsHalted flow limits after at
step_halts flow limits before after at point number edge post count graph fits on there placed adds is_false =
    halted_full flow limits before after at point number edge post count graph on there placed
    (subst (λ (b : Bool). Adds flow limits before after edge.to (Step at number count post.loss) graph b) is_false adds)

pub to_within : (flow : Flow) (limits : Limits) (work : Work) (at point number : ℕ) (edge : FlowEdge) (post : Post) (count : ℕ) → IsFlow flow →
    OnEdge flow limits work at point number edge post count → edge.to < length work.masks.newest.items
to_within flow limits work at point number edge post count valid on =
    subst (λ (n : ℕ). edge.to < n) (sym on.on.known.points)
    (at_number (λ (e : FlowEdge). (e.from < flow.points) × (e.to < flow.points)) flow.edges number edge valid.in_range.edges on.stands).1

-- a post and its kinds
pub at_edge : (flow : Flow) (limits : Limits) (work : Work) (at point number : ℕ) (edge : FlowEdge) (post : Post) → OnEntry flow limits work at point number →
    slice_get flow.edges number ≡ Some edge → leads point edge ≡ true → IsPostAt flow work.trail at edge post → AtEdge flow limits work at point number edge post
at_edge flow limits work at point number edge post on stands leads post_is = record { on = on; stands = stands; leads = leads; post_is = post_is }

pub on_edge_first : (flow : Flow) (limits : Limits) (before after : Work) (at point number : ℕ) (edge : FlowEdge) (post : Post) (warnings : List Warning) →
    AtEdge flow limits before at point number edge post → AreNoted before.warnings warnings edge.place at number post.kinds (length post.kinds) →
    after ≡ record before { warnings = warnings } → OnEdge flow limits after at point number edge post 0
on_edge_first flow limits before after at point number edge post warnings here noted is =
    let on : IsOn flow limits before at point = here.on.on in
    let (from, ordinary) = and_parts (nat_eq point edge.from) (is_ordinary edge.instr) here.leads in
    let leaves : edge.from ≡ point = sym (eqb-true point edge.from from) in
    let same : here.post_is.entry ≡ on.entry = same_some here.post_is.entry on.entry (sym here.post_is.there ∙ on.there) in
    let post_is : IsPostOf flow edge on.entry.graph post = subst (λ (e : Entry). IsPostOf flow edge e.graph post) same here.post_is.is in
    subst (λ (work : Work). OnEdge flow limits work at point number edge post 0) (sym is) (record {
      on = record {
        known = record {
          worked = on.known.worked;
          booked = record { peers = on.known.booked.peers; counts = on.known.booked.counts; kept = on.known.booked.kept; within = on.known.booked.within };
          points = on.known.points;
          warnings = record {
            each = λ warning among. elim (noted.each warning among) [
              | inl old ↦ on.known.warnings.each warning old
              | inr new ↦ record {
                entry = on.entry;
                there = subst (λ (n : ℕ). At before.trail n on.entry) (sym new.entry_is) on.there;
                kept = on.kept;
                has = record {
                  edge = edge;
                  stands = ap (slice_get flow.edges) new.edge_is ∙ here.stands;
                  leaves = leaves ∙ sym on.point_is;
                  post = post;
                  is = record { edge = edge; stands = ap (slice_get flow.edges) new.edge_is ∙ here.stands; ordinary = ordinary; is = post_is };
                  has = new.kind_is;
                };
                place_is = new.place_is;
              }
            ];
          };
          told = record { told = λ place entry which kind below there kept has. noted.keeps place has.edge.place.at kind (on.known.told.told place entry which kind below there kept has) };
        };
        next = on.next;
        entry = on.entry;
        there = on.there;
        kept = on.kept;
        point_is = on.point_is;
      };
      stands = here.stands;
      ordinary = ordinary;
      leaves = leaves;
      is = post_is;
      fits = here.post_is.fits;
      edges = here.on.edges;
      here = record {
        told = λ which kind below has. elim (cases_lt which number) [
          | inl old ↦ noted.keeps at has.edge.place.at kind (here.on.here.told which kind old has)
          | inr late ↦ told_here which kind (omega arith) has post_is
        ];
      };
      results = record { done = λ result graph below there. absurd (omega arith) };
      causes = here.on.causes;
    })
  where
    told_here : (which kind : ℕ) → which ≡ number → (has : HasKind driven flow here.on.on.entry which kind) → IsPostOf flow edge here.on.on.entry.graph post → IsToldBy warnings at has.edge.place.at kind
    told_here which kind same has post_is =
        let there : slice_get flow.edges number ≡ Some has.edge = ap (slice_get flow.edges) (sym same) ∙ has.stands in
        let one : edge ≡ has.edge = same_some edge has.edge (sym here.stands ∙ there) in
        let there' : slice_get flow.edges number ≡ Some has.is.edge = ap (slice_get flow.edges) (sym same) ∙ has.is.stands in
        let one' : has.is.edge ≡ edge = sym (same_some edge has.is.edge (sym here.stands ∙ there')) in
        let is' : IsPostOf flow edge here.on.on.entry.graph has.post = subst (λ (e : FlowEdge). IsPostOf flow e here.on.on.entry.graph has.post) one' has.is.is in
        let kinds : has.post.kinds ≡ post.kinds = kinds_left flow edge here.on.on.entry.graph has.post post is' post_is in
        let (place, below, found) = subst (λ (ks : List ℕ). Contains ks kind) kinds has.has in
        let there'' : slice_get post.kinds place ≡ Some (get_or post.kinds place kind) = slice_get-get_or post.kinds place kind below in
        subst (λ (e : FlowEdge). IsToldBy warnings at e.place.at kind) one (noted.told place kind below (there'' ∙ ap (λ (k : ℕ). Some k) found))

pub on_edge_last : (flow : Flow) (limits : Limits) (work : Work) (at point number : ℕ) (edge : FlowEdge) (post : Post) (count : ℕ) → OnEdge flow limits work at point number edge post count →
    length post.graphs ≤ count → OnEntry flow limits work at point (number + 1)
on_edge_last flow limits work at point number edge post count on all = record {
  on = on.on;
  edges = edges_more driven flow work.trail at on.on.entry number on.edges (λ other stands ordinary from.
      let one : edge ≡ other = same_some edge other (sym on.stands ∙ stands) in
      subst (λ (e : FlowEdge). IsDone driven flow work.trail at on.on.entry number e) one
      (edge_done driven flow work.trail at on.on.entry number edge post (record { edge = edge; stands = on.stands; ordinary = on.ordinary; is = on.is })
      (record { done = λ result graph below there. on.results.done result graph (omega arith) there })));
  here = on.here;
  causes = record { before = λ place entry there. before_edge entry.cause at number (number + 1) count (omega arith) (on.causes.before place entry there) };
}

-- edges that do not lead from the entry
pub on_entry_past : (flow : Flow) (limits : Limits) (work : Work) (at point number more : ℕ) → OnEntry flow limits work at point number → number ≤ more →
    ((which : ℕ) (edge : FlowEdge) → number ≤ which → which < more → slice_get flow.edges which ≡ Some edge → is_ordinary edge.instr ≡ true → edge.from ≡ point → ⊥) →
    OnEntry flow limits work at point more
on_entry_past flow limits work at point number more on past none = record {
  on = on.on;
  edges = record {
    done = λ which edge below stands ordinary from. elim (cases_lt which number) [
      | inl old ↦ on.edges.done which edge old stands ordinary from
      | inr late ↦ absurd (none which edge late below stands ordinary (from ∙ on.on.point_is))
    ];
  };
  here = record {
    told = λ which kind below has. elim (cases_lt which number) [
      | inl old ↦ on.here.told which kind old has
      | inr late ↦ absurd (none which has.is.edge late below has.is.stands has.is.ordinary (from_there has.edge has.is.edge which has.stands has.is.stands has.leaves))
    ];
  };
  causes = record {
    before = λ place entry there. elim (cases_lt number more) [
      | inl less ↦ before_edge entry.cause at number more 0 less (on.causes.before place entry there)
      | inr same ↦ subst (λ (n : ℕ). IsBefore entry.cause at n 0) (equal number more past same) (on.causes.before place entry there)
    ];
  };
}
  where
    equal : (a b : ℕ) → a ≤ b → b ≤ a → a ≡ b
    equal a b one other = omega arith

    from_there : (edge other : FlowEdge) (which : ℕ) → slice_get flow.edges which ≡ Some edge → slice_get flow.edges which ≡ Some other → edge.from ≡ on.on.entry.point → other.from ≡ point
    from_there edge other which there there' from =
        let one : edge ≡ other = same_some edge other (sym there ∙ there') in
        ap (λ (e : FlowEdge). e.from) (sym one) ∙ (from ∙ on.on.point_is)

pub entry_passes : (flow : Flow) (limits : Limits) (work : Work) (at point : ℕ) → Passes flow (λ number. OnEntry flow limits work at point number) point
entry_passes flow limits work at point = record { past = λ number more on past none. on_entry_past flow limits work at point number more on past none }

pub on_entry_skip : (flow : Flow) (limits : Limits) (work : Work) (at point number : ℕ) (edge : FlowEdge) → OnEntry flow limits work at point number → slice_get flow.edges number ≡ Some edge →
    leads point edge ≡ false → OnEntry flow limits work at point (number + 1)
on_entry_skip flow limits work at point number edge on stands leads = on_entry_past flow limits work at point number (number + 1) on (omega arith) (λ which other late below stands' ordinary from.
    let same : which ≡ number = omega arith in
    let one : edge ≡ other = same_some edge other (sym stands ∙ (ap (slice_get flow.edges) (sym same) ∙ stands')) in
    let from' : point ≡ edge.from = sym from ∙ ap (λ (e : FlowEdge). e.from) (sym one) in
    let ordinary' : is_ordinary edge.instr ≡ true = ap (λ (e : FlowEdge). is_ordinary e.instr) one ∙ ordinary in
    clash (nat_eq point edge.from && is_ordinary edge.instr) (and_from (nat_eq point edge.from) (is_ordinary edge.instr) (eq-eqb point edge.from from') ordinary') leads)

-- entries
pub on_entry_first : (flow : Flow) (limits : Limits) (work : Work) (at : ℕ) → Worked flow limits work at → is_kept work.trail at ≡ true → OnEntry flow limits work at (point_of work.trail at) 0
on_entry_first flow limits work at so kept = by_entry (slice_get work.trail at) refl kept
  where
    by_entry : (one : Option Entry) → slice_get work.trail at ≡ one → is_marked one ≡ true → OnEntry flow limits work at (point_of work.trail at) 0
    by_entry None there kept = absurd cc
    by_entry (Some entry) there kept = record {
      on = record { known = so.known; next = so.next; entry = entry; there = there; kept = kept; point_is = sym (ap point_in there) };
      edges = record { done = λ number edge below stands ordinary from. absurd (omega arith) };
      here = record { told = λ number kind below has. absurd (omega arith) };
      causes = so.causes;
    }

pub worked_next : (flow : Flow) (limits : Limits) (work : Work) (at point : ℕ) → OnEntry flow limits work at point (length flow.edges) → Worked flow limits work (at + 1)
worked_next flow limits work at point on = record {
  known = record {
    worked = turned driven (widening limits.int_limit) flow work.trail at on.on.entry on.on.known.worked on.on.there (λ kept. on.edges);
    booked = on.on.known.booked;
    points = on.on.known.points;
    warnings = on.on.known.warnings;
    told = record {
      told = λ place entry number kind below there kept has. elim (cases_lt place at) [
        | inl old ↦ on.on.known.told.told place entry number kind old there kept has
        | inr late ↦ told_here place entry number kind (omega arith) there has
      ];
    };
  };
  next = on.on.next;
  within = let within : at < length work.trail = slice_get_within work.trail at on.on.entry on.on.there in omega arith;
  causes = record { before = λ place entry there. before_entry entry.cause at (length flow.edges) 0 (on.causes.before place entry there) };
}
  where
    told_here : (place : ℕ) (entry : Entry) (number kind : ℕ) → place ≡ at → At work.trail place entry → (has : HasKind driven flow entry number kind) → IsToldBy work.warnings place has.edge.place.at kind
    told_here place entry number kind same there has =
        let one : entry ≡ on.on.entry = same_some entry on.on.entry (sym (ap (slice_get work.trail) (sym same) ∙ there) ∙ on.on.there) in
        subst (λ (n : ℕ). IsToldBy work.warnings n has.edge.place.at kind) (sym same) (told_of entry on.on.entry one has on.here)
      where
        told_of : (entry other : Entry) → entry ≡ other → (has : HasKind driven flow entry number kind) → AreKindsTold flow work.warnings at other (length flow.edges) → IsToldBy work.warnings at has.edge.place.at kind
        told_of entry other one has here =
            (subst (λ (e : Entry). AreKindsTold flow work.warnings at e (length flow.edges)) (sym one) here).told number kind (slice_get_within flow.edges number has.edge has.stands) has

pub worked_skip : (flow : Flow) (limits : Limits) (work : Work) (at : ℕ) → Worked flow limits work at → at < length work.trail → is_kept work.trail at ≡ false → Worked flow limits work (at + 1)
worked_skip flow limits work at so within not_kept = by_entry (slice_get work.trail at) refl
  where
    not_within : (xs : List Entry) (k : ℕ) → k < length xs → slice_get xs k ≡ None → ⊥
    not_within [] k lt is = omega arith
    not_within (x ∷ xs) zero lt is = absurd cc
    not_within (x ∷ xs) (suc k) lt is = not_within xs k (omega arith) is

    by_entry : (one : Option Entry) → slice_get work.trail at ≡ one → Worked flow limits work (at + 1)
    by_entry None there = absurd (not_within work.trail at within there)
    by_entry (Some entry) there =
        let not_kept' : entry.kept ≡ false = sym (ap is_marked there) ∙ not_kept in record {
          known = record {
            worked = turned driven (widening limits.int_limit) flow work.trail at entry so.known.worked there (λ kept. clash entry.kept kept not_kept');
            booked = so.known.booked;
            points = so.known.points;
            warnings = so.known.warnings;
            told = record {
              told = λ place other number kind below there' kept has. elim (cases_lt place at) [
                | inl old ↦ so.known.told.told place other number kind old there' kept has
                | inr late ↦ let same : place ≡ at = omega arith in
                    let one : other ≡ entry = same_some other entry (sym (ap (slice_get work.trail) (sym same) ∙ there') ∙ there) in
                    clash other.kept kept (ap (λ (x : Entry). x.kept) one ∙ not_kept')
              ];
            };
          };
          next = so.next;
          within = omega arith;
          causes = record { before = λ place entry there. before_entry entry.cause at 0 0 (so.causes.before place entry there) };
        }

-- where a graph is large
pub known_told : (flow : Flow) (limits : Limits) (work : Work) (at : ℕ) → IsKnown flow limits work at → IsToldOf flow limits work at
known_told flow limits work at known = record { honest = known.worked.honest; booked = known.booked; points = known.points; warnings = known.warnings; told = known.told }

pub halted_large : (flow : Flow) (limits : Limits) (work : Work) (at point number : ℕ) → OnEntry flow limits work at point number → IsLargeAt work.trail at → IsHalted flow limits work at
halted_large flow limits work at point number on large = record {
  known = known_told flow limits work at on.on.known;
  why = subst (λ (next : Option Entry). IsWhy flow limits work.trail at next) (sym on.on.next) large;
}

pub stands_there : (edges slice : List FlowEdge) (number : ℕ) (edge : FlowEdge) → slice ≡ edges → number < length slice → edge ≡ get_or slice number edge →
    slice_get edges number ≡ Some edge
stands_there edges slice number edge same within is =
    ap (λ (x : List FlowEdge). slice_get x number) (sym same) ∙ (slice_get-get_or slice number edge within ∙ ap (λ (x : FlowEdge). Some x) (sym is))

pub entry_there : (entries slice : List Entry) (number : ℕ) (entry : Entry) → slice ≡ entries → number < length slice → entry ≡ get_or slice number entry →
    slice_get entries number ≡ Some entry
entry_there entries slice number entry same within is =
    ap (λ (x : List Entry). slice_get x number) (sym same) ∙ (slice_get-get_or slice number entry within ∙ ap (λ (x : Entry). Some x) (sym is))

pub graph_there : (graphs slice : List Parts) (number : ℕ) (graph : Parts) → slice ≡ graphs → number < length slice → graph ≡ get_or slice number graph →
    slice_get graphs number ≡ Some graph
graph_there graphs slice number graph same within is =
    ap (λ (x : List Parts). slice_get x number) (sym same) ∙ (slice_get-get_or slice number graph within ∙ ap (λ (x : Parts). Some x) (sym is))

-- what a post asks for, and what it tells
pub asked_there : (flow : Flow) (limits : Limits) (trail : List Entry) (at point number : ℕ) (edge : FlowEdge) (entry : Entry) → IsEntryAt flow limits trail at point →
    slice_get flow.edges number ≡ Some edge → leads point edge ≡ true → slice_get trail at ≡ Some entry →
    IfSome (slice_get flow.edges number) (λ e. FitsAt flow e.from entry.graph)
asked_there flow limits trail at point number edge entry is stands leads there =
    let (from, ordinary) = and_parts (nat_eq point edge.from) (is_ordinary edge.instr) leads in
    let same : is.entry ≡ entry = same_some is.entry entry (sym is.there ∙ there) in
    let at_from : is.entry.point ≡ edge.from = is.point_is ∙ eqb-true point edge.from from in
    subst (λ (o : Option FlowEdge). IfSome o (λ e. FitsAt flow e.from entry.graph)) (sym stands)
    (subst (λ (e : Entry). FitsAt flow edge.from e.graph) same (subst (λ (p : ℕ). FitsAt flow p is.entry.graph) at_from (is.honest at is.entry is.there).fits.fits))

pub post_told : (flow : Flow) (trail : List Entry) (at number : ℕ) (edge : FlowEdge) (entry : Entry) (whole post : Post) → slice_get flow.edges number ≡ Some edge →
    slice_get trail at ≡ Some entry → IfSome (slice_get flow.edges number) (λ e. IsPost (post_along flow e.instr entry.graph) whole) →
    IfSome (slice_get flow.edges number) (λ e. EdgeMeans flow e.from e.instr entry.graph whole) → IfSome (slice_get flow.edges number) (λ e. FitAt flow e.to whole.graphs) → IsLeft whole post →
    IsPostAt flow trail at edge post
post_told flow trail at number edge entry whole post stands there is means fits left = record {
  entry = entry;
  there = there;
  is = record {
    whole = whole;
    is = record {
      is = subst (λ (o : Option FlowEdge). IfSome o (λ e. IsPost (post_along flow e.instr entry.graph) whole)) stands is;
      means = subst (λ (o : Option FlowEdge). IfSome o (λ e. EdgeMeans flow e.from e.instr entry.graph whole)) stands means;
    };
    left = left;
  };
  fits = fits_left flow edge.to whole post left (subst (λ (o : Option FlowEdge). IfSome o (λ e. FitAt flow e.to whole.graphs)) stands fits);
}

pub stop_told : (trail : List Entry) (at : ℕ) (entry : Entry) (stop : Stop) → slice_get trail at ≡ Some entry →
    (stop ≡ stops.Large → is_large 33554432 entry.graph ≡ true) → IsStoppedAt trail at stop
stop_told trail at entry stops.NoMemory there is = tt
stop_told trail at entry stops.Large there is = record { entry = entry; there = there; large = is refl }

-- what an answer hands on
pub if_told : {E : Type 0} (P Q : Bool → Type 0) (result : Result Bool E) → ((fits : Bool) → P fits → Q fits) → IfOk result P → IfOk result Q
if_told P Q (Ok fits) follows is = follows fits is
if_told P Q (Err error) follows is = tt

pub goes_on : (One Other : Type 0) (fits : Bool) → Onward fits One Other → fits ≡ true → One
goes_on One Other fits is is_true = subst (λ (b : Bool). Onward b One Other) is_true is

pub is_over : (One Other : Type 0) (fits : Bool) → Onward fits One Other → fits ≡ false → Other
is_over One Other fits is is_false = subst (λ (b : Bool). Onward b One Other) is_false is
