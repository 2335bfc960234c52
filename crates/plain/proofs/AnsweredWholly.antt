-- Plain flow graphs of few walks are followed to their ends, and answered exactly.
use Rattle.std.proofs.Common.{◌≡◌, ◌<◌, true, List, length, refl, arith}
use Rattle.flow.specs.declared.flow_graph.Flow.{Flow}
use Rattle.flow.specs.Valid.{IsFlow}
use Rattle.trail.specs.declared.trail.Entry.{Entry}
use Rattle.trail.specs.Seen.{HasNoCalls}
use Rattle.trail.specs.Theorems.{HaveOffsets}
use Rattle.trail.specs.Trail.{AreHonest}
use Rattle.driver.specs.declared.verdict.Limits.{Limits}
use Rattle.driver.specs.declared.verdict.Verdict.{Verdict}
use Rattle.driver.specs.declared.verdict.Verdict.TheVariants.{Safe, Warned, Spent, Large, NotYet}
use Rattle.driver.specs.Driven.{driven, widening}
use Rattle.driver.specs.Errors.{alike_runs}
use Rattle.driver.specs.Few.{trail_of, IsWhole, AreFew}
use Rattle.driver.specs.Verdicts.{IsVerdict}
use Rattle.driver.proofs.Fewer.{few_followed}
use Rattle.driver.proofs.Leading.{nothing_at}
use Rattle.plain.specs.Answers.{is_complete}
use Rattle.plain.specs.Chain.{IsTrailPlain}
use Rattle.plain.specs.Followed.{HasFewWalks, AreAnsweredWholly}
use Rattle.plain.specs.PlainRuns.{IsPlain}
use Rattle.plain.specs.Sizes.{IsSmall, objects_of}
use Rattle.plain.proofs.AnsweredExactly.{answered_exactly}
use Rattle.plain.proofs.RealShown.{driven_plain}
use Rattle.plain.proofs.SmallGraphs.{graphs_small}

few_variables : (flow : Flow) → IsSmall flow → length flow.variables < 33554432
few_variables flow small = let below : objects_of flow < 33554432 = small.objects in omega arith

module _ (flow : Flow) (limits : Limits) (valid : IsFlow flow) (offsets : HaveOffsets flow) (calls : HasNoCalls flow) (small : IsSmall flow) (plain : IsPlain flow) (few : HasFewWalks flow limits.budget) where
  few_of : (trail : List Entry) → AreHonest driven (widening limits.int_limit) flow trail → AreFew flow limits.budget trail
  few_of trail honest =
      let kept : IsTrailPlain driven alike_runs flow trail = driven_plain flow limits.int_limit trail valid offsets calls (few_variables flow small) plain honest in
      record {
        calls = calls;
        variables = few_variables flow small;
        number = few.number;
        walks = few.walks;
        within = few.within;
        small = graphs_small flow limits.int_limit few.number trail valid plain.heads small few.walks honest;
        single = kept.single;
      }

honest_of : (flow : Flow) (limits : Limits) (verdict : Verdict) → IsVerdict flow limits verdict → AreHonest driven (widening limits.int_limit) flow (trail_of verdict)
honest_of flow limits (Safe trail) is = is.honest
honest_of flow limits (Warned warnings trail complete next) is = is.honest
honest_of flow limits (Spent trail next) is = is.honest
honest_of flow limits (Large trail entry) is = is.honest
honest_of flow limits (NotYet place) is = λ number entry there. nothing_at number entry there

complete_of : (verdict : Verdict) → IsWhole verdict → is_complete verdict ≡ true
complete_of (Safe trail) whole = refl
complete_of (Warned warnings trail complete next) whole = whole
complete_of (Spent trail next) whole = absurd whole
complete_of (Large trail entry) whole = absurd whole
complete_of (NotYet place) whole = absurd whole

pub answered_wholly : AreAnsweredWholly
answered_wholly flow limits verdict valid offsets calls small plain few is =
    let whole : is_complete verdict ≡ true =
    complete_of verdict (few_followed flow limits verdict is (few_of flow limits valid offsets calls small plain few (trail_of verdict) (honest_of flow limits verdict is))) in
    record { whole = whole; exact = answered_exactly flow limits verdict valid offsets (few_variables flow small) plain is whole }
