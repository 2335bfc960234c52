-- What `warned` says of the program, by the verdict that it is the answer of.
use Rattle.std.proofs.Common.{◌≡◌, ℕ, zero, suc, ◌<◌, ◌∙◌, Bool, true, Option, None, Some, List, [], ◌∷◌, length, map, get_or, option_map, All, refl, sym, ap, subst, arith}
use Rattle.std.proofs.lemmas.Option.{same_Some, none-some, slice_get-map}
use Rattle.ctokens.specs.declared.token.Tokens.{Tokens}
use Rattle.ccheck.specs.Refusals.{place_at}
use Rattle.c_machine.specs.Program.{Program}
use Rattle.flow.specs.declared.flow_graph.Flow.{Flow}
use Rattle.lowering.specs.Lowering.{flow_of}
use Rattle.trail.specs.Trail.{IsClosed}
use Rattle.trail.specs.declared.trail.Entry.{Entry}
use Rattle.driver.specs.Driven.{driven}
use Rattle.driver.specs.Telling.{IsAmong}
use Rattle.driver.specs.Verdicts.{EndsSo, IsWarned}
use Rattle.driver.specs.declared.verdict.Limits.{Limits as AnalysisLimits}
use Rattle.driver.specs.declared.verdict.Verdict.TheVariants as analysis
use Rattle.driver.specs.declared.verdict.Warning.{Warning as AnalysisWarning}
use Rattle.judgement.specs.Judged.{AreMet, DoesTellAll, IsJudgement, SaysWarned}
use Rattle.judgement.specs.declared.judgement.Judgement.{Judgement}
use Rattle.judgement.specs.declared.judgement.Judgement.TheVariants as judgement
use Rattle.report.specs.declared.answer.Answer.TheVariants.{Safe, Warned, Spent, Large, NotYet}
use Rattle.report.specs.declared.limits.Limits.{Limits}
use Rattle.report.specs.declared.warning.Warning.{Warning}
use Rattle.verdicts.specs.Found.{answer_of_judgement, warning_at, within}
use Rattle.verdicts.specs.Verdict.{HasVerdict}
use Rattle.claims.specs.Warned.{AreAllPrinted, IsMetAt, MeansComplete, MeansFound, MeansWarned}

-- the verdict behind these warnings
record HasWarned (limits : Limits) (t : Tokens) (p : Program) (warnings : List Warning) (complete : Bool) : Type 0 where
  flow : Flow
  graph : flow_of p ≡ Some flow
  told : List AnalysisWarning
  trail : List Entry
  next : Option Entry
  is : IsWarned flow (within limits) told trail complete next
  says : SaysWarned p flow told trail complete
  lists : map (warning_at t) told ≡ warnings

has_warned : (limits : Limits) (t : Tokens) (p : Program) (found : Judgement) (warnings : List Warning) (complete : Bool) → IsJudgement p (within limits) found
    → answer_of_judgement t found ≡ Some (Warned warnings complete) → HasWarned limits t p warnings complete
has_warned limits t p judgement.NoGraph warnings complete is answers = absurd (none-some (Warned warnings complete) answers)
has_warned limits t p (judgement.Judged flow (analysis.Safe trail)) warnings complete is answers = absurd (let same = same_Some Safe (Warned warnings complete) answers in cc)
has_warned limits t p (judgement.Judged flow (analysis.Warned told trail whole next)) warnings complete is answers =
    let same = same_Some (Warned (map (warning_at t) told) whole) (Warned warnings complete) answers in
    let lists : map (warning_at t) told ≡ warnings = cc in
    let completes : whole ≡ complete = cc in record {
      flow = flow;
      graph = is.graph;
      told = told;
      trail = trail;
      next = next;
      is = subst (λ (whole : Bool). IsWarned flow (within limits) told trail whole next) completes is.is;
      says = subst (λ (whole : Bool). SaysWarned p flow told trail whole) completes is.says;
      lists = lists;
    }
has_warned limits t p (judgement.Judged flow (analysis.Spent trail next)) warnings complete is answers =
    absurd (let same = same_Some Spent (Warned warnings complete) answers in cc)
has_warned limits t p (judgement.Judged flow (analysis.NotYet place)) warnings complete is answers =
    absurd (let same = same_Some (NotYet (place_at t place.at)) (Warned warnings complete) answers in cc)
has_warned limits t p (judgement.Judged flow (analysis.Large trail entry)) warnings complete is answers =
    absurd (let same = same_Some Large (Warned warnings complete) answers in cc)

-- the errors are met
pub among_told : (t : Tokens) (told : List AnalysisWarning) (k : ℕ) (d : Warning) → k < length (map (warning_at t) told) → (warning : AnalysisWarning) × IsAmong told warning
    × (get_or (map (warning_at t) told) k d ≡ warning_at t warning)
among_told t [] k d within = absurd (omega (arith, within))
among_told t (first ∷ rest) zero d within = (first, record { number = zero; there = refl }, refl)
among_told t (first ∷ rest) (suc k) d within =
    let (warning, among, is) = among_told t rest k d (omega (arith, within)) in
    (warning, record { number = suc among.number; there = among.there }, is)

are_met : (t : Tokens) (p : Program) (told : List AnalysisWarning) → AreMet p told
    → All (λ (warning : Warning). warning.error ≡ true → IsMetAt t p warning.kind warning.place) (map (warning_at t) told)
are_met t p told met = λ k d within.
    let (warning, among, is) = among_told t told k d within in
    subst (λ (w : Warning). w.error ≡ true → IsMetAt t p w.kind w.place) (sym is)
    (λ error. let (choices, leads) = met warning among error in (choices, warning.place, leads, refl))

-- each fault is told of
pub all_printed : (t : Tokens) (p : Program) (told : List AnalysisWarning) → DoesTellAll p told → AreAllPrinted t p (map (warning_at t) told)
all_printed t p told tells choices kind token leads =
    let found = tells choices kind token leads in record {
      number = found.among.number;
      warning = warning_at t found.warning;
      there = slice_get-map (warning_at t) told found.among.number ∙ ap (option_map (warning_at t)) found.among.there;
      kind_is = found.kind_is;
      place_is = ap (place_at t) found.token_is;
    }

closed_of : (flow : Flow) (limits : AnalysisLimits) (trail : List Entry) (next : Option Entry) → EndsSo flow limits trail true next → IsClosed driven flow trail
closed_of flow limits trail None closed = closed
closed_of flow limits trail (Some next) ends = absurd ends

module _ (limits : Limits) (file bytes : List ℕ) (warnings : List Warning) where
  pub warned_of : (complete : Bool) → HasVerdict limits file bytes (Warned warnings complete) → MeansWarned file bytes warnings
  warned_of complete has =
      let so = has_warned limits has.t has.p has.judgement warnings complete has.found has.answer_is in
      (has.t, has.p, has.holds, subst (All (λ (warning : Warning). warning.error ≡ true → IsMetAt has.t has.p warning.kind warning.place)) so.lists (are_met has.t has.p so.told so.says.met))

  pub found_of : (complete : Bool) → HasVerdict limits file bytes (Warned warnings complete) → MeansFound limits file bytes warnings complete
  found_of complete has =
      let so = has_warned limits has.t has.p has.judgement warnings complete has.found has.answer_is in
      (has.t, has.p, so.flow, has.holds, so.graph, (so.told, so.trail, so.next, so.is, sym so.lists))

  pub complete_of : HasVerdict limits file bytes (Warned warnings true) → MeansComplete limits file bytes warnings
  complete_of has =
      let so = has_warned limits has.t has.p has.judgement warnings true has.found has.answer_is in (
        has.t,
        has.p,
        so.flow,
        so.trail,
        has.holds,
        so.graph,
        so.is.honest,
        closed_of so.flow (within limits) so.trail so.next so.is.ends,
        λ tame. subst (AreAllPrinted has.t has.p) so.lists (all_printed has.t has.p so.told (so.says.tells refl tame)),
      )
