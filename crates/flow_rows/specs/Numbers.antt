-- A number of a part, where it is there and not too large.
use Rattle.std.specs.Prelude.{◌≡◌, ℕ, ◌+◌, Bool, true, not, ◌||◌, nat_le, Option, None, Some, slice_get, if◌then◌else◌}
use Rattle.flow_rows.specs.declared.numbers.Numbers.{Numbers}

-- the number, or 0
abbrev pub number_to : ℕ → Option ℕ → ℕ
number_to most None = 0
number_to most (Some number) = if nat_le number most then number else 0

-- how many numbers are taken behind it
abbrev pub number_behind : ℕ → Option ℕ → ℕ
number_behind taken None = taken
number_behind taken (Some number) = taken + 1

-- whether some number was wrong behind it
abbrev pub is_wrong_behind : ℕ → Bool → Option ℕ → Bool
is_wrong_behind most wrong None = true
is_wrong_behind most wrong (Some number) = wrong || not (nat_le number most)

-- the next number is taken, which is to be at most `most`
pub record Takes (most : ℕ) (before after : Numbers) (number : ℕ) : Type 0 where
  pub taken : number ≡ number_to most (slice_get before.items before.next)
  pub next : after.next ≡ number_behind before.next (slice_get before.items before.next)
  pub wrong : after.wrong ≡ is_wrong_behind most before.wrong (slice_get before.items before.next)
  pub items : after.items ≡ before.items
