-- Which warnings are errors: those behind a chain of steps without loss, which runs meet.
use Rattle.std.specs.Prelude.{◌≡◌, ℕ, ◌↔◌, Bool, true, List}
use Rattle.graph.specs.AlikeStates.{AreAlikeStates}
use Rattle.graph.specs.State as graphs
use Rattle.heap_steps.specs.Regions.{AreRegions}
use Rattle.flow.specs.declared.flow_graph.Flow.{Flow}
use Rattle.flow.specs.Machine.{State}
use Rattle.flow.specs.Runs.{RunFaults}
use Rattle.trail.specs.declared.trail.Entry.{Entry}
use Rattle.trail.specs.Seen.{seen}
use Rattle.trail.specs.Analysis.{Nearness}
use Rattle.trail.specs.Trail.{At, IsReal, HasKind}
use Rattle.driver.specs.declared.verdict.Warning.{Warning}
use Rattle.driver.specs.Driven.{driven}
use Rattle.driver.specs.Telling.{IsAmong}

-- some warning tells of a kind at a token, and is an error
pub record IsErrorTold (warnings : List Warning) (token kind : ℕ) : Type 0 where
  pub warning : Warning
  pub among : IsAmong warnings warning
  pub token_is : warning.place.at ≡ token
  pub kind_is : warning.kind ≡ kind
  pub error : warning.error ≡ true

-- a warning is an error exactly where a chain of steps without loss leads to the entry that it names; and where there is such an entry for a token and kind, one is named
pub record AreErrors (flow : Flow) (trail : List Entry) (warnings : List Warning) : Type 0 where
  pub each : (warning : Warning) → IsAmong warnings warning → (warning.error ≡ true) ↔ IsReal trail warning.entry
  pub named : (place : ℕ) (entry : Entry) (number kind : ℕ) → At trail place entry → entry.kept ≡ true → IsReal trail place → (has : HasKind driven flow entry number kind) →
      IsErrorTold warnings has.edge.place.at kind

-- a state of a run that is alike this one, as a graph sees it
pub record IsAlikeRun (wanted : graphs.State) (state : State) : Type 0 where
  pub there : ℕ → ℕ
  pub back : ℕ → ℕ
  pub paired : ℕ → Bool
  pub alike : AreAlikeStates there back paired wanted (seen state)

-- so it is of graphs of regions
abbrev pub alike_runs : Nearness
alike_runs = record { is = λ wanted state. IsAlikeRun wanted state; sharp = λ graph. AreRegions graph.objects }

-- some run meets each error
abbrev pub AreErrorsMet : Flow → List Warning → Type 0
AreErrorsMet flow warnings = (warning : Warning) → IsAmong warnings warning → warning.error ≡ true → RunFaults flow warning.kind warning.place
