-- What is known of two numbers that may be the same or not.
use Rattle.std.specs.Prelude.{◌≡◌, ℕ, ◌<◌, Bool, true, false, length, Option, None, Some}
use Rattle.graph.specs.declared.parts.Parts.{Parts}
use Rattle.graph.specs.declared.value.Value.TheVariants.{Const}
use Rattle.graph.specs.Maps.{value_at, held_by}
use Rattle.graph.specs.WellFormed.{is_unequal_pair}
use Rattle.changes.specs.Reaching.{is_excluded}
use Rattle.changes.specs.Merging.{MayMerge}
use Rattle.reinterpret.specs.Comparing.{is_noted, compared}
use Rattle.reinterpret.specs.declared.comparison.Comparison.{Comparison}
use Rattle.reinterpret.specs.declared.comparison.Comparison.TheVariants as known

-- one may go, and no pair is of the two, nor of the one that may go and the constant that the other one is
pub record MayBeEither (parts : Parts) (kept other : ℕ) : Type 0 where
  pub merge : MayMerge parts kept other
  pub fresh : is_noted parts kept other ≡ false
  pub free : (number size : ℕ) → value_at parts.values kept ≡ Some (Const number size) → is_excluded parts other number ≡ false

abbrev pub IsOpen : Parts → Comparison → Type 0
IsOpen parts known.Same = Unit {0}
IsOpen parts known.Different = Unit {0}
IsOpen parts (known.Either kept other) = MayBeEither parts kept other
IsOpen parts known.Itself = Unit {0}
IsOpen parts known.Unknown = Unit {0}

-- where a pair is to be noted there is room for one
abbrev pub HasPairRoom : Parts → Bool → Comparison → Type 0
HasPairRoom parts true comparison = Unit {0}
HasPairRoom parts false known.Same = Unit {0}
HasPairRoom parts false known.Different = Unit {0}
HasPairRoom parts false (known.Either kept other) = is_unequal_pair parts (record { left = kept; right = other }) ≡ true → length parts.unequal < 1073741823
HasPairRoom parts false known.Itself = Unit {0}
HasPairRoom parts false known.Unknown = Unit {0}

-- so there is for a test of two registers
abbrev pub HasRoomFor : Parts → Bool → Option ℕ → Option ℕ → Type 0
HasRoomFor parts same None other = Unit {0}
HasRoomFor parts same (Some one) None = Unit {0}
HasRoomFor parts same (Some one) (Some other) = HasPairRoom parts same (compared parts one other)

abbrev pub HasRoom : Parts → ℕ → ℕ → Bool → Type 0
HasRoom parts left right same = HasRoomFor parts same (held_by parts.registers left) (held_by parts.registers right)
