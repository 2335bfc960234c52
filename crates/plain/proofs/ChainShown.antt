-- Each entry of a trail of a plain flow graph is shown.
use Rattle.std.proofs.Common.{◌≡◌, ℕ, zero, suc, ◌<◌, ◌≤◌, List, [], refl, sym, ap, subst, ◌∙◌, Option, None, Some, take, length, arith}
use Rattle.std.specs.Prelude.{slice_get, Contains}
use Rattle.graph.specs.declared.parts.Parts.{Parts}
use Rattle.graph.specs.declared.post.Post.{Post}
use Rattle.graph.specs.State as graphs
use Rattle.flow.specs.declared.flow_graph.Flow.{Flow}
use Rattle.flow.specs.declared.flow_graph.FlowEdge.{FlowEdge}
use Rattle.flow.specs.InRange.{entry_of}
use Rattle.flow.specs.Valid.{IsFlow}
use Rattle.edge_steps.specs.Seen.{seen}
use Rattle.trail.specs.declared.trail.Cause.{Cause}
use Rattle.trail.specs.declared.trail.Cause.TheVariants.{Start, Step, Fold, Coarse}
use Rattle.trail.specs.declared.trail.Entry.{Entry}
use Rattle.trail.specs.Analysis.{Analysis, Widening, Fits, IsPost, IsExact, Nearness, IsSharp, IsBegun, GoesNear, IsLedTo}
use Rattle.trail.specs.Seen.{HasNoCalls, IsHead}
use Rattle.trail.specs.Theorems.{HaveOffsets}
use Rattle.trail.specs.Trail.{At, Made, IsResult, AreHonest, IsReal, RealStart, RealStep}
use Rattle.trail.proofs.Sound.{same_some}
use Rattle.trail.proofs.Real.{sharp_there}
use Rattle.plain.specs.Chain.{IsShownNear, IsEntryShown, IsPlainAlong, StandsForSome, ShowsPlainly, IsTrailPlain, KeepsPlain}
use Rattle.plain.specs.Marks.{marks_after}
use Rattle.plain.specs.PlainRuns.{start_marks, Begins, Goes, IsPlain}
use Rattle.plain.specs.Shown.{IsShownAmong}
use Rattle.plain.proofs.ChainSteps.{at_front, is_before, shown_only, TakesAll, takes_along, IsOfAt, stands_at_end, begins_of, goes_of}

module _ (analysis : Analysis) (widening : Widening) (nearness : Nearness) (flow : Flow) (trail : List Entry) (valid : IsFlow flow) (offsets : HaveOffsets flow) (calls : HasNoCalls flow) (plain : IsPlain flow)
    (exact : IsExact analysis nearness flow) (plainly : ShowsPlainly analysis nearness flow) (honest : AreHonest analysis widening flow trail) where
  -- the post of a graph that shows a run is plain
  post_plain : (number : ℕ) (edge : FlowEdge) (graph : Parts) (post : Post) (wanted : graphs.State) → slice_get flow.edges number ≡ Some edge → Fits analysis flow edge.from graph → IsSharp nearness graph → IsPost analysis flow number graph post →
      (near : IsShownNear nearness flow edge.from graph wanted) → IsPlainAlong flow edge near.state near.marks post
  post_plain number edge graph post wanted stands fits sharp is near =
      plainly.steps number edge graph post near.state near.marks stands fits sharp is near.of (sym near.point_is) near.shown
      (plain.at near.state near.marks number edge near.run stands (sym near.point_is))

  -- main's start
  start_shown : (entry : Entry) → entry.point ≡ entry_of flow flow.main → analysis.is_start flow entry.graph → IsEntryShown nearness flow entry
  start_shown entry point is wanted fine stands =
      let begun : IsBegun nearness flow wanted = exact.start entry.graph wanted is fine stands in
      let at : IsOfAt flow (entry_of flow flow.main) begun.begun = begins_of flow begun.begun begun.choices valid offsets begun.goes in
      record {
        state = begun.begun;
        marks = start_marks flow begun.begun;
        run = Begins begun.choices begun.begun begun.goes;
        of = at.of;
        point_is = at.point_is ∙ sym point;
        near = begun.near;
        shown = plainly.start entry.graph begun.begun begun.choices is begun.goes;
      }

  -- one step on
  step_shown : (number result : ℕ) (edge : FlowEdge) (earlier entry : Entry) (post : Post) → slice_get flow.edges number ≡ Some edge → edge.from ≡ earlier.point → entry.point ≡ edge.to →
      Fits analysis flow edge.from earlier.graph → IsSharp nearness earlier.graph → IsPost analysis flow number earlier.graph post → slice_get post.graphs result ≡ Some entry.graph → post.loss ≡ None → IsEntryShown nearness flow earlier → IsEntryShown nearness flow entry
  step_shown number result edge earlier entry post stands leaves arrives fits sharp is graph none before wanted fine stand =
      let led : IsLedTo nearness flow number edge earlier.graph wanted = exact.steps number edge earlier.graph post result entry.graph wanted stands fits sharp is none graph fine stand in
      let near : IsShownNear nearness flow edge.from earlier.graph led.before =
      subst (λ (p : ℕ). IsShownNear nearness flow p earlier.graph led.before) (sym leaves) (before led.before led.is led.stands) in
      let along : IsPlainAlong flow edge near.state near.marks post = post_plain number edge earlier.graph post led.before stands fits sharp is near in
      let goes : GoesNear nearness flow number wanted near.state = led.goes near.state near.of near.point_is near.near in
      let all : TakesAll flow edge near.state goes.gone = takes_along flow number edge near.state goes.gone stands goes.steps in
      let at : IsOfAt flow edge.to goes.gone = goes_of flow number edge near.state goes.gone all.choices valid calls stands near.of all.goes in
      let among : IsShownAmong post.graphs (seen [] goes.gone) (marks_after edge.instr (seen [] near.state) near.marks) = along.shows goes.gone all.choices all.goes in
      record {
        state = goes.gone;
        marks = marks_after edge.instr (seen [] near.state) near.marks;
        run = Goes near.state goes.gone near.marks number edge all.choices near.run stands all.goes;
        of = at.of;
        point_is = stands_at_end flow entry.point edge.to goes.gone at arrives;
        near = goes.near;
        shown = shown_only post.graphs result entry.graph (seen [] goes.gone) (marks_after edge.instr (seen [] near.state) near.marks) along.single graph among;
      }

  -- so each entry behind a chain of steps without loss is shown
  chain_shown : (number : ℕ) → IsReal trail number → (entry : Entry) → At trail number entry → IsEntryShown nearness flow entry
  chain_shown number (RealStart _ first at is) entry there =
      let one : first ≡ entry = same_some first entry (sym at ∙ there) in
      let made : Made analysis widening flow (take number trail) entry Start =
      subst (Made analysis widening flow (take number trail) entry) (ap (λ (x : Entry). x.cause) (sym one) ∙ is) (honest number entry there).made in
      start_shown entry made.0 made.1
  chain_shown number (RealStep _ from edge result last at is chain) entry there =
      let one : last ≡ entry = same_some last entry (sym at ∙ there) in
      let made : IsResult analysis flow (take number trail) entry from edge result None =
      subst (Made analysis widening flow (take number trail) entry) (ap (λ (x : Entry). x.cause) (sym one) ∙ is) (honest number entry there).made in
      let earlier : At trail from made.earlier = at_front trail number from made.earlier made.there in
      let fits : Fits analysis flow made.edge.from made.earlier.graph = subst (λ (p : ℕ). Fits analysis flow p made.earlier.graph) (sym made.leaves) (honest from made.earlier earlier).fits in
      step_shown edge result made.edge made.earlier entry made.post made.stands made.leaves made.arrives fits
      (sharp_there analysis widening nearness flow trail exact honest from chain made.earlier earlier) made.is made.graph made.loss_is (chain_shown from chain made.earlier earlier)

  -- no post of a shown entry names a loss, and each has one graph at most
  shown_plain : (entry : Entry) (number : ℕ) (edge : FlowEdge) (post : Post) → Fits analysis flow entry.point entry.graph → IsSharp nearness entry.graph → IsEntryShown nearness flow entry → slice_get flow.edges number ≡ Some edge → edge.from ≡ entry.point →
      IsPost analysis flow number entry.graph post → (post.loss ≡ None) × (length post.graphs ≤ 1)
  shown_plain entry number edge post fits sharp shown stands leaves is =
      let some : StandsForSome entry.graph = plainly.states entry.point entry.graph fits in
      let near : IsShownNear nearness flow edge.from entry.graph some.state =
      subst (λ (p : ℕ). IsShownNear nearness flow p entry.graph some.state) (sym leaves) (shown some.state some.is some.stands) in
      let along : IsPlainAlong flow edge near.state near.marks post =
      post_plain number edge entry.graph post some.state stands (subst (λ (p : ℕ). Fits analysis flow p entry.graph) (sym leaves) fits) sharp is near in
      (along.loss, along.single)

  -- without loops nothing is made of a graph at a loop head
  no_head : (point : ℕ) → IsHead flow point → ⊥
  no_head point head = let (number, below, same) = subst (λ (heads : List ℕ). Contains heads point) plain.heads head.1 in omega arith

  -- so a chain of steps without loss leads to each entry
  real_below : (bound number : ℕ) → number < bound → (entry : Entry) → At trail number entry → IsReal trail number
  real_below zero number below entry there = absurd (omega arith)
  real_below (suc bound) number below entry there = by_cause entry.cause refl (honest number entry there).made (λ from earlier less at. real_below bound from (omega arith) earlier at)
    where
      by_cause : (cause : Cause) → entry.cause ≡ cause → Made analysis widening flow (take number trail) entry cause →
          ((from : ℕ) (earlier : Entry) → from < number → At trail from earlier → IsReal trail from) → IsReal trail number
      by_cause Start is made before = RealStart number entry there is
      by_cause (Fold from) is made before = absurd (no_head made.earlier.point made.head)
      by_cause (Coarse from) is made before = absurd (no_head made.earlier.point made.head)
      by_cause (Step from edge result loss) is made before =
          let earlier : At trail from made.earlier = at_front trail number from made.earlier made.there in
          let chain : IsReal trail from = before from made.earlier (is_before trail number from made.earlier made.there) earlier in
          let both = shown_plain made.earlier edge made.edge made.post (honest from made.earlier earlier).fits
          (sharp_there analysis widening nearness flow trail exact honest from chain made.earlier earlier) (chain_shown from chain made.earlier earlier) made.stands made.leaves made.is in
          RealStep number from edge result entry there (is ∙ ap (λ (l : Option ℕ). Step from edge result l) (sym made.loss_is ∙ both.0)) chain

  each_real : (number : ℕ) (entry : Entry) → At trail number entry → IsReal trail number
  each_real number entry there = real_below (suc number) number (omega arith) entry there

  trail_plain : IsTrailPlain analysis nearness flow trail
  trail_plain = record {
    real = each_real;
    shown = λ at entry there. chain_shown at (each_real at entry there) entry there;
    loss = λ at number entry edge post there stands leaves is.
        (shown_plain entry number edge post (honest at entry there).fits (sharp_there analysis widening nearness flow trail exact honest at (each_real at entry there) entry there) (chain_shown at (each_real at entry there) entry there) stands leaves is).0;
    single = λ at number entry edge post there stands leaves is.
        (shown_plain entry number edge post (honest at entry there).fits (sharp_there analysis widening nearness flow trail exact honest at (each_real at entry there) entry there) (chain_shown at (each_real at entry there) entry there) stands leaves is).1;
  }

pub keeps_plain : (analysis : Analysis) (widening : Widening) (nearness : Nearness) → KeepsPlain analysis widening nearness
keeps_plain analysis widening nearness flow trail valid offsets calls plain exact plainly honest = trail_plain analysis widening nearness flow trail valid offsets calls plain exact plainly honest
