-- Where few walks lead on from main's entry, all is followed.
use Rattle.std.proofs.Common.{◌≡◌, ℕ, ◌+◌, ◌<◌, ◌≤◌, Bool, true, false, cond, List, [], ◌∷◌, ◌++◌, Option, None, Some, length, length-append, refl, sym, ap, ◌∙◌, subst, inl, inr, arith}
use Rattle.cbase.specs.declared.place.Place.{Place}
use Rattle.graph.specs.declared.post.Post.{Post}
use Rattle.flow.specs.declared.flow_graph.Flow.{Flow}
use Rattle.flow.specs.declared.flow_graph.FlowEdge.{FlowEdge}
use Rattle.trail.specs.declared.trail.Entry.{Entry}
use Rattle.trail.specs.Seen.{is_call}
use Rattle.trail.specs.Analysis.{IsPost}
use Rattle.trail.specs.Trail.{AreHonest}
use Rattle.trail.proofs.Sound.{same_some, at_number}
use Rattle.trail.proofs.Grow.{at_either, honest_on}
use Rattle.driver.specs.declared.verdict.Warning.{Warning}
use Rattle.driver.specs.declared.verdict.Verdict.{Verdict}
use Rattle.driver.specs.declared.verdict.Verdict.TheVariants.{Safe, Warned, Spent, Large, NotYet}
use Rattle.driver.specs.declared.verdict.Limits.{Limits}
use Rattle.driver.specs.Leaving.{IsPostOf}
use Rattle.driver.specs.Driven.{driven, widening}
use Rattle.driver.specs.Growing.{kept_count}
use Rattle.driver.specs.Looping.{IsNext}
use Rattle.driver.specs.Calls.{IsFirstCall}
use Rattle.driver.specs.Verdicts.{IsWarned, IsLarge, IsVerdict}
use Rattle.driver.specs.Few.{trail_of, IsWhole, AreFew, AreFewFollowed}
use Rattle.driver.proofs.Booked.{count_more}
use Rattle.driver.proofs.Closing.{from_earlier}
use Rattle.driver.proofs.Ways.{no_more_entries}

same_loss : (flow : Flow) (number : ℕ) (entry : Entry) (post other : Post) → IsPost driven flow number entry.graph post → IsPost driven flow number entry.graph other → post.loss ≡ other.loss
same_loss flow number entry post other is also =
    let one : also.edge ≡ is.edge = same_some also.edge is.edge (sym also.stands ∙ is.stands) in
    let also' : IsPostOf flow is.edge entry.graph other = subst (λ (e : FlowEdge). IsPostOf flow e entry.graph other) one also.is in
    is.is.left.loss ∙ (is.is.is.is.loss ∙ (sym also'.is.is.loss ∙ sym also'.left.loss))

-- one more kept entry than the budget allows for would be one more walk than there are
too_many : (flow : Flow) (limits : Limits) (trail : List Entry) (next : Entry) → AreHonest driven (widening limits.int_limit) flow trail → IsNext flow limits trail next → AreFew flow limits.budget trail → ⊥
too_many flow limits trail next honest is few =
    let all : List Entry = trail ++ next ∷ [] in
    let honest' : AreHonest driven (widening limits.int_limit) flow all = honest_on driven (widening limits.int_limit) flow trail next honest is.honest in
    let long : length all ≡ length trail + 1 = length-append trail (next ∷ []) in
    let walks = few.walks in
    let most : kept_count all ≤ length walks.walks = no_more_entries flow limits.int_limit all walks.walks honest' (from_earlier flow limits.int_limit all honest') (λ at number entry edge post less there stands leaves is_post.
    elim (at_either trail next entry at there) [
      | inl (old, there') ↦ few.single at number entry edge post there' stands leaves is_post
      | inr (last, one) ↦ absurd (omega (arith, long))
    ]) (same_loss flow) walks.are_all.all in
    let more : kept_count all ≡ kept_count trail + kept_count (next ∷ []) = count_more trail next in
    let one : kept_count (next ∷ []) ≡ 1 = ap (λ (b : Bool). length (cond b (next ∷ []) [])) is.kept in
    let full : kept_count trail ≡ limits.budget = is.full in
    let count : length walks.walks ≡ few.number = walks.count in
    let within : few.number ≤ limits.budget = few.within in
    absurd (omega (arith, more, one, full, count))

clash : {A : Type 0} (b : Bool) → b ≡ true → b ≡ false → A
clash b x y = cc

large_not : (flow : Flow) (limits : Limits) (trail : List Entry) (entry : Option ℕ) → IsLarge flow limits trail entry → AreFew flow limits.budget trail → ⊥
large_not flow limits trail None is few = let more : 33554432 ≤ length flow.variables = is.large in let less : length flow.variables < 33554432 = few.variables in absurd (omega arith)
large_not flow limits trail (Some at) is few = few.small at is.large.entry is.large.there is.large.large

whole_warned : (flow : Flow) (limits : Limits) (warnings : List Warning) (trail : List Entry) (complete : Bool) (next : Option Entry) → IsWarned flow limits warnings trail complete next →
    AreFew flow limits.budget trail → complete ≡ true
whole_warned flow limits warnings trail true next is few = refl
whole_warned flow limits warnings trail false None is few = absurd is.ends
whole_warned flow limits warnings trail false (Some next) is few = absurd (too_many flow limits trail next is.honest is.ends few)

called_not : (flow : Flow) (place : Place) (budget : ℕ) → IsFirstCall flow place → AreFew flow budget [] → ⊥
called_not flow place budget is few = clash (is_call is.edge.instr) is.call (at_number (λ edge. is_call edge.instr ≡ false) flow.edges is.number is.edge few.calls is.stands)

pub few_followed : AreFewFollowed
few_followed = λ flow limits verdict is few. by_verdict flow limits verdict is few
  where
    by_verdict : (flow : Flow) (limits : Limits) (verdict : Verdict) → IsVerdict flow limits verdict → AreFew flow limits.budget (trail_of verdict) → IsWhole verdict
    by_verdict flow limits (Safe trail) is few = tt
    by_verdict flow limits (Warned warnings trail complete next) is few = whole_warned flow limits warnings trail complete next is few
    by_verdict flow limits (Spent trail next) is few = too_many flow limits trail next is.honest is.next_is few
    by_verdict flow limits (Large trail entry) is few = large_not flow limits trail entry is few
    by_verdict flow limits (NotYet place) is few = called_not flow place limits.budget is few
