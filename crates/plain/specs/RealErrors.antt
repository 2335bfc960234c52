-- Warnings of plain flow graphs are errors.
use Rattle.std.specs.Prelude.{◌≡◌, ◌<◌, Bool, true, List, Option, length}
use Rattle.flow.specs.declared.flow_graph.Flow.{Flow}
use Rattle.flow.specs.Runs.{RunFaults}
use Rattle.flow.specs.Valid.{IsFlow}
use Rattle.trail.specs.declared.trail.Entry.{Entry}
use Rattle.trail.specs.Theorems.{HaveOffsets}
use Rattle.driver.specs.declared.verdict.Limits.{Limits}
use Rattle.driver.specs.declared.verdict.Verdict.TheVariants.{Warned}
use Rattle.driver.specs.declared.verdict.Warning.{Warning}
use Rattle.driver.specs.Telling.{IsAmong, TellsFaults}
use Rattle.driver.specs.Verdicts.{IsVerdict}
use Rattle.plain.specs.PlainRuns.{IsPlain}

-- each warning is an error, which a run meets, and where all was followed each fault of a run is told
pub record AreErrorsAlone (flow : Flow) (warnings : List Warning) (complete : Bool) : Type 0 where
  pub errors : (warning : Warning) → IsAmong warnings warning → warning.error ≡ true
  pub met : (warning : Warning) → IsAmong warnings warning → RunFaults flow warning.kind warning.place
  pub tells : complete ≡ true → TellsFaults flow warnings

abbrev pub AreWarningsErrors : Type 0
AreWarningsErrors = (flow : Flow) (limits : Limits) (warnings : List Warning) (trail : List Entry) (complete : Bool) (next : Option Entry) → IsFlow flow → HaveOffsets flow →
    length flow.variables < 33554432 → IsPlain flow → IsVerdict flow limits (Warned warnings trail complete next) → AreErrorsAlone flow warnings complete
