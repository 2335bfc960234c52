-- Comparisons of two integers of one type, by their values (C11 6.5.8, 6.5.9).
use Rattle.std.specs.Prelude.{ℕ, Bool, int_lt, int_le, if◌then◌else◌}
use Rattle.std.specs.Ordering.{int_eq}
use Rattle.arithmetic.specs.Value.{value}

-- whether the left one is less, or is not greater (C11 6.5.8p6)
abbrev pub is_less : ℕ → Bool → ℕ → ℕ → Bool
is_less size signed left right = int_lt (value size signed left) (value size signed right)

abbrev pub is_less_equal : ℕ → Bool → ℕ → ℕ → Bool
is_less_equal size signed left right = int_le (value size signed left) (value size signed right)

-- whether the two are equal (C11 6.5.9p3)
abbrev pub is_equal : ℕ → Bool → ℕ → ℕ → Bool
is_equal size signed left right = int_eq (value size signed left) (value size signed right)

-- what a comparison gives: the int 1 where it holds, and else 0 (C11 6.5.8p6)
abbrev pub answer : Bool → ℕ
answer holds = if holds then 1 else 0
