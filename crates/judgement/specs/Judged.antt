-- What is said of a program: the theorem, by what was found of its flow graph.
use Rattle.std.specs.Prelude.{◌≡◌, ℕ, Bool, true, List, None, Some}
use Rattle.cbase.specs.declared.place.Place.{Place}
use Rattle.choices.specs.declared.choice.Choice.{Choice}
use Rattle.c_machine.specs.Program.{Program}
use Rattle.c_machine.specs.Run.{IsSound, Leads}
use Rattle.c_machine.specs.Trees.{text_of}
use Rattle.flow.specs.declared.flow_graph.Flow.{Flow}
use Rattle.flow.specs.Valid.{IsFlow}
use Rattle.lowering.specs.Lowering.{flow_of}
use Rattle.trail.specs.declared.trail.Entry.{Entry}
use Rattle.trail.specs.Trail.{AreTame}
use Rattle.driver.specs.declared.verdict.Limits.{Limits}
use Rattle.driver.specs.declared.verdict.Verdict.{Verdict}
use Rattle.driver.specs.declared.verdict.Verdict.TheVariants.{Safe, Warned, Spent, Large, NotYet}
use Rattle.driver.specs.declared.verdict.Warning.{Warning}
use Rattle.driver.specs.Driven.{driven}
use Rattle.driver.specs.Telling.{IsAmong, IsTold}
use Rattle.driver.specs.Verdicts.{IsVerdict}
use Rattle.judgement.specs.declared.judgement.Judgement.{Judgement}
use Rattle.judgement.specs.declared.judgement.Judgement.TheVariants.{NoGraph, Judged}

-- with some choices a run of the program meets this fault
abbrev pub IsMet : Program → ℕ → Place → Type 0
IsMet p kind place = (choices : List Choice) × Leads (text_of p) choices kind place

-- each error is met by a run of the program
abbrev pub AreMet : Program → List Warning → Type 0
AreMet p warnings = (warning : Warning) → IsAmong warnings warning → warning.error ≡ true → IsMet p warning.kind warning.place

-- each fault that a run of the program meets has a warning, by its token and its kind
abbrev pub DoesTellAll : Program → List Warning → Type 0
DoesTellAll p warnings = (choices : List Choice) (kind : ℕ) (place : Place) → Leads (text_of p) choices kind place → IsTold warnings place.at kind

-- what is said by warnings: a run meets each error; and where all was followed each fault is told, unless a post of a kept entry names loss 4 beside a kind, for an access through any word
pub record SaysWarned (p : Program) (flow : Flow) (warnings : List Warning) (trail : List Entry) (complete : Bool) : Type 0 where
  pub met : AreMet p warnings
  pub tells : complete ≡ true → AreTame driven flow trail → DoesTellAll p warnings

-- What a verdict says of the runs of the program: of a safe one, that no choices lead to a fault, however long the run; of each error, that a run meets it; of a complete one, that it tells each fault.
abbrev pub Says : Program → Flow → Verdict → Type 0
Says p flow (Safe trail) = IsSound (text_of p)
Says p flow (Warned warnings trail complete next) = SaysWarned p flow warnings trail complete
Says p flow (Spent trail next) = Unit {0}
Says p flow (Large trail entry) = Unit {0}
Says p flow (NotYet place) = Unit {0}

-- the graph is that of the program and keeps all that flow graphs keep, the analysis of it comes to the verdict, and what that says of the program is so
pub record IsJudged (p : Program) (limits : Limits) (flow : Flow) (verdict : Verdict) : Type 0 where
  pub graph : flow_of p ≡ Some flow
  pub valid : IsFlow flow
  pub is : IsVerdict flow limits verdict
  pub says : Says p flow verdict

-- what is found of a program is so
abbrev pub IsJudgement : Program → Limits → Judgement → Type 0
IsJudgement p limits NoGraph = flow_of p ≡ None
IsJudgement p limits (Judged flow verdict) = IsJudged p limits flow verdict
