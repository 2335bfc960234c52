-- Plain flow graphs of few walks are followed to their ends, and answered exactly.
use Rattle.std.specs.Prelude.{◌≡◌, ℕ, ◌≤◌, true}
use Rattle.flow.specs.declared.flow_graph.Flow.{Flow}
use Rattle.flow.specs.InRange.{entry_of}
use Rattle.flow.specs.Valid.{IsFlow}
use Rattle.flow.specs.Walks.{IsNumberOfWalks}
use Rattle.trail.specs.Seen.{HasNoCalls}
use Rattle.trail.specs.Theorems.{HaveOffsets}
use Rattle.driver.specs.declared.verdict.Limits.{Limits}
use Rattle.driver.specs.declared.verdict.Verdict.{Verdict}
use Rattle.driver.specs.Verdicts.{IsVerdict}
use Rattle.plain.specs.Answers.{is_complete, IsAnsweredExactly}
use Rattle.plain.specs.PlainRuns.{IsPlain}
use Rattle.plain.specs.Sizes.{IsSmall}

-- at most so many walks lead on from main's entry
pub record HasFewWalks (flow : Flow) (budget : ℕ) : Type 0 where
  pub number : ℕ
  pub walks : IsNumberOfWalks flow.edges (entry_of flow flow.main) number
  pub within : number ≤ budget

-- all was followed, and what is answered is exact
pub record IsAnsweredWholly (flow : Flow) (verdict : Verdict) : Type 0 where
  pub whole : is_complete verdict ≡ true
  pub exact : IsAnsweredExactly flow verdict

abbrev pub AreAnsweredWholly : Type 0
AreAnsweredWholly = (flow : Flow) (limits : Limits) (verdict : Verdict) → IsFlow flow → HaveOffsets flow → HasNoCalls flow → IsSmall flow → IsPlain flow → HasFewWalks flow limits.budget → IsVerdict flow limits verdict →
    IsAnsweredWholly flow verdict
