-- Which faults the warnings tell of.
use Rattle.std.specs.Prelude.{◌≡◌, ℕ, ◌<◌, List, false, true, Some, slice_get, Contains, ◌⊎◌}
use Rattle.cbase.specs.declared.place.Place.{Place}
use Rattle.flow.specs.declared.flow_graph.Flow.{Flow}
use Rattle.flow.specs.Runs.{RunFaults}
use Rattle.trail.specs.declared.trail.Entry.{Entry}
use Rattle.trail.specs.Trail.{At, HasKind}
use Rattle.driver.specs.declared.verdict.Warning.{Warning}
use Rattle.driver.specs.Driven.{driven}

-- a warning stands among others
pub record IsAmong (warnings : List Warning) (warning : Warning) : Type 0 where
  pub number : ℕ
  pub there : slice_get warnings number ≡ Some warning

-- some warning tells of a kind at a token
pub record IsTold (warnings : List Warning) (token kind : ℕ) : Type 0 where
  pub warning : Warning
  pub among : IsAmong warnings warning
  pub token_is : warning.place.at ≡ token
  pub kind_is : warning.kind ≡ kind

-- some warning tells of it and names the entry
pub record IsToldBy (warnings : List Warning) (entry token kind : ℕ) : Type 0 where
  pub warning : Warning
  pub among : IsAmong warnings warning
  pub entry_is : warning.entry ≡ entry
  pub token_is : warning.place.at ≡ token
  pub kind_is : warning.kind ≡ kind

-- a warning tells of a kind of a post of a kept entry, at the place of its edge
pub record IsWarning (flow : Flow) (trail : List Entry) (warning : Warning) : Type 0 where
  pub entry : Entry
  pub there : At trail warning.entry entry
  pub kept : entry.kept ≡ true
  pub has : HasKind driven flow entry warning.edge warning.kind
  pub place_is : warning.place ≡ has.edge.place

pub record AreWarnings (flow : Flow) (trail : List Entry) (warnings : List Warning) : Type 0 where
  pub each : (warning : Warning) → IsAmong warnings warning → IsWarning flow trail warning

-- each kind of a post of an entry along the first so many edges is told of, where the entry has this place
pub record AreKindsTold (flow : Flow) (warnings : List Warning) (place : ℕ) (entry : Entry) (count : ℕ) : Type 0 where
  pub told : (number kind : ℕ) → number < count → (has : HasKind driven flow entry number kind) → IsToldBy warnings place has.edge.place.at kind

-- and so is each kind of the posts of the first so many entries, where they are kept
pub record AreTold (flow : Flow) (trail : List Entry) (warnings : List Warning) (at : ℕ) : Type 0 where
  pub told : (place : ℕ) (entry : Entry) (number kind : ℕ) → place < at → At trail place entry → entry.kept ≡ true → (has : HasKind driven flow entry number kind) →
      IsToldBy warnings place has.edge.place.at kind

-- and so of all entries, whichever one is named
pub record AreAllTold (flow : Flow) (trail : List Entry) (warnings : List Warning) : Type 0 where
  pub told : (place : ℕ) (entry : Entry) (number kind : ℕ) → At trail place entry → entry.kept ≡ true → (has : HasKind driven flow entry number kind) →
      IsTold warnings has.edge.place.at kind

-- some warning tells of each fault of a run
abbrev pub TellsFaults : Flow → List Warning → Type 0
TellsFaults flow warnings = (kind : ℕ) (place : Place) → RunFaults flow kind place → IsTold warnings place.at kind

abbrev pub warning_of : Place → ℕ → ℕ → ℕ → Warning
warning_of place kind entry edge = record { place = place; kind = kind; entry = entry; edge = edge; error = false }

-- what was told still is, and a new warning tells of its kind
pub record IsNoted (before after : List Warning) (new : Warning) : Type 0 where
  pub keeps : (entry token kind : ℕ) → IsToldBy before entry token kind → IsToldBy after entry token kind
  pub told : IsToldBy after new.entry new.place.at new.kind
  pub each : (warning : Warning) → IsAmong after warning → IsAmong before warning ⊎ (warning ≡ new)

-- a warning of one of the kinds of a post
pub record IsFrom (place : Place) (entry edge : ℕ) (kinds : List ℕ) (warning : Warning) : Type 0 where
  pub place_is : warning.place ≡ place
  pub entry_is : warning.entry ≡ entry
  pub edge_is : warning.edge ≡ edge
  pub kind_is : Contains kinds warning.kind

-- the first so many kinds of a post are told
pub record AreNoted (before after : List Warning) (place : Place) (entry edge : ℕ) (kinds : List ℕ) (count : ℕ) : Type 0 where
  pub keeps : (from token kind : ℕ) → IsToldBy before from token kind → IsToldBy after from token kind
  pub told : (which kind : ℕ) → which < count → slice_get kinds which ≡ Some kind → IsToldBy after entry place.at kind
  pub each : (warning : Warning) → IsAmong after warning → IsAmong before warning ⊎ IsFrom place entry edge kinds warning
