-- Warnings in order: one for each token and kind.
use Rattle.std.specs.Prelude.{◌≡◌, ℕ, ◌<◌, Bool, true, false, ◌&&◌, ◌||◌, not, List, [], ◌∷◌, nat_eq, nat_lt, if◌then◌else◌, Some, slice_get, slice_index_or, length, map, ◌⊎◌}
use Rattle.trail.specs.declared.trail.Entry.{Entry}
use Rattle.driver.specs.declared.verdict.Warning.{Warning}
use Rattle.driver.specs.Chains.{AreMarked}
use Rattle.driver.specs.Telling.{IsAmong, IsTold}
use Rattle.driver.specs.Errors.{IsErrorTold}

-- by their tokens, and at one token by their kinds
abbrev pub ComesBefore : Warning → Warning → Type 0
ComesBefore one other = (one.place.at < other.place.at) ⊎ ((one.place.at ≡ other.place.at) × (one.kind < other.kind))

abbrev pub AreOrdered : List Warning → Type 0
AreOrdered [] = Unit {0}
AreOrdered (first ∷ rest) = ((other : Warning) → IsAmong rest other → ComesBefore first other) × AreOrdered rest

-- the same as tests
abbrev pub is_before : Warning → Warning → Bool
is_before one other = nat_lt one.place.at other.place.at || (nat_eq one.place.at other.place.at && nat_lt one.kind other.kind)

abbrev pub is_same : Warning → Warning → Bool
is_same one other = nat_eq one.place.at other.place.at && nat_eq one.kind other.kind

-- of two of one token and kind the first, but for an error
abbrev pub better : Warning → Warning → Warning
better one other = if not one.error && other.error then other else one

-- a warning put in its place
abbrev pub put_warning : Warning → List Warning → List Warning
put_warning new [] = new ∷ []
put_warning new (first ∷ rest) =
    if is_before first new then first ∷ put_warning new rest else (if is_same first new then better first new ∷ rest else new ∷ first ∷ rest)

-- a warning, which is an error where the entry that it names is marked
abbrev pub marked : List Bool → Warning → Warning
marked marks warning = record warning { error = slice_index_or marks warning.entry false }

-- warnings are the first so many of others in order
pub record ArePut (raw ordered : List Warning) (count : ℕ) : Type 0 where
  pub told : (number : ℕ) (warning : Warning) → number < count → slice_get raw number ≡ Some warning → IsTold ordered warning.place.at warning.kind
  pub each : (warning : Warning) → IsAmong ordered warning → IsAmong raw warning
  pub sorted : AreOrdered ordered
  pub errors : (number : ℕ) (warning : Warning) → number < count → slice_get raw number ≡ Some warning → warning.error ≡ true → IsErrorTold ordered warning.place.at warning.kind

-- warnings in order, of which those are errors that name an entry to which a chain of steps without loss leads
pub record AreInOrder (trail : List Entry) (raw ordered : List Warning) : Type 0 where
  pub marks : List Bool
  pub chained : AreMarked trail marks (length trail)
  pub put : ArePut (map (marked marks) raw) ordered (length raw)
