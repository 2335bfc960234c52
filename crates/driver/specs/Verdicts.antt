-- What a verdict says.
use Rattle.std.specs.Prelude.{◌≡◌, ℕ, ◌≤◌, List, [], Bool, true, false, Option, None, Some, length}
use Rattle.cbase.specs.declared.place.Place.{Place}
use Rattle.flow.specs.declared.flow_graph.Flow.{Flow}
use Rattle.flow.specs.Runs.{RunFaults}
use Rattle.trail.specs.declared.trail.Entry.{Entry}
use Rattle.trail.specs.Seen.{HasNoCalls}
use Rattle.trail.specs.Trail.{AreHonest, IsClosed, IsClean, AreTame, DoRunsStay}
use Rattle.driver.specs.declared.verdict.Limits.{Limits}
use Rattle.driver.specs.declared.verdict.Warning.{Warning}
use Rattle.driver.specs.declared.verdict.Verdict.{Verdict}
use Rattle.driver.specs.declared.verdict.Verdict.TheVariants.{Safe, Warned, Spent, Large, NotYet}
use Rattle.driver.specs.Driven.{driven, widening}
use Rattle.driver.specs.Telling.{AreWarnings, AreAllTold, TellsFaults}
use Rattle.driver.specs.Errors.{AreErrors, AreErrorsMet}
use Rattle.driver.specs.Ordering.{AreOrdered}
use Rattle.driver.specs.Looping.{IsLargeAt, IsNext}
use Rattle.driver.specs.Calls.{IsFirstCall}

-- the trail is closed, no post of a kept entry has a kind, each state of a run stays within it, and no run faults
pub record IsSafe (flow : Flow) (limits : Limits) (trail : List Entry) : Type 0 where
  pub calls : HasNoCalls flow
  pub honest : AreHonest driven (widening limits.int_limit) flow trail
  pub closed : IsClosed driven flow trail
  pub clean : IsClean driven flow trail
  pub stays : DoRunsStay flow trail
  pub safe : (kind : ℕ) (place : Place) → RunFaults flow kind place → ⊥

-- all was followed, or one more entry would be kept beyond the budget
abbrev pub EndsSo : Flow → Limits → List Entry → Bool → Option Entry → Type 0
EndsSo flow limits trail true None = IsClosed driven flow trail
EndsSo flow limits trail true (Some next) = ⊥
EndsSo flow limits trail false None = ⊥
EndsSo flow limits trail false (Some next) = IsNext flow limits trail next

-- one warning for each token and kind, in order; each kind of a post of a kept entry has one, and, where all was followed and no such post names loss 4 beside a kind, so has each fault of a run
pub record IsWarned (flow : Flow) (limits : Limits) (warnings : List Warning) (trail : List Entry) (complete : Bool) (next : Option Entry) : Type 0 where
  pub calls : HasNoCalls flow
  pub honest : AreHonest driven (widening limits.int_limit) flow trail
  pub some : warnings ≡ [] → ⊥
  pub each : AreWarnings flow trail warnings
  pub sorted : AreOrdered warnings
  pub all : AreAllTold flow trail warnings
  pub errors : AreErrors flow trail warnings
  pub met : AreErrorsMet flow warnings
  pub ends : EndsSo flow limits trail complete next
  pub tells : complete ≡ true → AreTame driven flow trail → TellsFaults flow warnings

pub record IsSpent (flow : Flow) (limits : Limits) (trail : List Entry) (next : Entry) : Type 0 where
  pub calls : HasNoCalls flow
  pub honest : AreHonest driven (widening limits.int_limit) flow trail
  pub clean : IsClean driven flow trail
  pub next_is : IsNext flow limits trail next

-- a graph is large, or the start
abbrev pub IsLargeSo : Flow → List Entry → Option ℕ → Type 0
IsLargeSo flow trail None = 33554432 ≤ length flow.variables
IsLargeSo flow trail (Some at) = IsLargeAt trail at

pub record IsLarge (flow : Flow) (limits : Limits) (trail : List Entry) (entry : Option ℕ) : Type 0 where
  pub calls : HasNoCalls flow
  pub honest : AreHonest driven (widening limits.int_limit) flow trail
  pub large : IsLargeSo flow trail entry

abbrev pub IsVerdict : Flow → Limits → Verdict → Type 0
IsVerdict flow limits (Safe trail) = IsSafe flow limits trail
IsVerdict flow limits (Warned warnings trail complete next) = IsWarned flow limits warnings trail complete next
IsVerdict flow limits (Spent trail next) = IsSpent flow limits trail next
IsVerdict flow limits (Large trail entry) = IsLarge flow limits trail entry
IsVerdict flow limits (NotYet place) = IsFirstCall flow place
