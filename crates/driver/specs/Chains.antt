-- Which entries chains of steps without loss lead to.
use Rattle.std.specs.Prelude.{◌≡◌, ℕ, ◌<◌, ◌↔◌, Bool, true, false, ◌&&◌, List, Option, None, Some, length, slice_index_or}
use Rattle.trail.specs.declared.trail.Cause.{Cause}
use Rattle.trail.specs.declared.trail.Cause.TheVariants.{Start, Step, Fold, Coarse}
use Rattle.trail.specs.declared.trail.Entry.{Entry}
use Rattle.trail.specs.Trail.{At, IsReal}

-- what a cause names stands before its entry
abbrev pub IsFromEarlier : Cause → ℕ → Type 0
IsFromEarlier Start number = Unit {0}
IsFromEarlier (Step from edge result loss) number = from < number
IsFromEarlier (Fold from) number = from < number
IsFromEarlier (Coarse from) number = from < number

pub record AreFromEarlier (trail : List Entry) : Type 0 where
  pub each : (number : ℕ) (entry : Entry) → At trail number entry → IsFromEarlier entry.cause number

-- whether a chain without loss leads on, by the marks of the entries before
abbrev pub is_none : Option ℕ → Bool
is_none None = true
is_none (Some loss) = false

abbrev pub leads_on : List Bool → Cause → Bool
leads_on marks Start = true
leads_on marks (Step from edge result loss) = is_none loss && slice_index_or marks from false
leads_on marks (Fold from) = false
leads_on marks (Coarse from) = false

-- of the first so many entries exactly those are marked to which such a chain leads
pub record AreMarked (trail : List Entry) (marks : List Bool) (count : ℕ) : Type 0 where
  pub long : length marks ≡ count
  pub is : (number : ℕ) → number < count → (slice_index_or marks number false ≡ true) ↔ IsReal trail number
