-- What is answered of a plain flow graph where all was followed.
use Rattle.std.specs.Prelude.{◌≡◌, ℕ, ◌<◌, ◌↔◌, Bool, true, false, List, [], length}
use Rattle.cbase.specs.declared.place.Place.{Place}
use Rattle.flow.specs.declared.flow_graph.Flow.{Flow}
use Rattle.flow.specs.Runs.{RunFaults}
use Rattle.flow.specs.Valid.{IsFlow}
use Rattle.trail.specs.Theorems.{HaveOffsets}
use Rattle.driver.specs.declared.verdict.Limits.{Limits}
use Rattle.driver.specs.declared.verdict.Verdict.{Verdict}
use Rattle.driver.specs.declared.verdict.Verdict.TheVariants.{Safe, Warned, Spent, Large, NotYet}
use Rattle.driver.specs.declared.verdict.Warning.{Warning}
use Rattle.driver.specs.Telling.{IsAmong, TellsFaults}
use Rattle.driver.specs.Verdicts.{IsVerdict}
use Rattle.plain.specs.PlainRuns.{IsPlain}

abbrev pub is_safe : Verdict → Bool
is_safe (Safe trail) = true
is_safe (Warned warnings trail complete next) = false
is_safe (Spent trail next) = false
is_safe (Large trail entry) = false
is_safe (NotYet place) = false

-- all was followed
abbrev pub is_complete : Verdict → Bool
is_complete (Safe trail) = true
is_complete (Warned warnings trail complete next) = complete
is_complete (Spent trail next) = false
is_complete (Large trail entry) = false
is_complete (NotYet place) = false

abbrev pub warnings_in : Verdict → List Warning
warnings_in (Safe trail) = []
warnings_in (Warned warnings trail complete next) = warnings
warnings_in (Spent trail next) = []
warnings_in (Large trail entry) = []
warnings_in (NotYet place) = []

-- it is safe exactly where no run faults; each warning is an error, which a run meets, and some warning tells of each fault of a run
pub record IsAnsweredExactly (flow : Flow) (verdict : Verdict) : Type 0 where
  pub safe : (is_safe verdict ≡ true) ↔ ((kind : ℕ) (place : Place) → RunFaults flow kind place → ⊥)
  pub errors : (warning : Warning) → IsAmong (warnings_in verdict) warning → warning.error ≡ true
  pub met : (warning : Warning) → IsAmong (warnings_in verdict) warning → RunFaults flow warning.kind warning.place
  pub tells : TellsFaults flow (warnings_in verdict)

abbrev pub AreAnsweredExactly : Type 0
AreAnsweredExactly = (flow : Flow) (limits : Limits) (verdict : Verdict) → IsFlow flow → HaveOffsets flow → length flow.variables < 33554432 → IsPlain flow → IsVerdict flow limits verdict → is_complete verdict ≡ true →
    IsAnsweredExactly flow verdict
