-- Words in which the laws of integers are stated.
use Rattle.std.specs.Prelude.{◌≡◌, ℕ, ◌%◌, ◌<◌, Bool, pos, ◌+ℤ◌, ◌*ℤ◌, ◌≤ℤ◌, unsigned_abs, int_div, IsTrue}
use Rattle.arithmetic.specs.Value.{modulus, bits, value, is_in_range}

-- a quotient and a remainder that belong to a dividend and a divisor (C11 6.5.5p6)
pub record MakeDividend (size : ℕ) (signed : Bool) (left right quotient remainder : ℕ) : Type 0 where
  -- modulo 2^n they always make the dividend
  pub modulo : bits size (value size signed quotient *ℤ value size signed right +ℤ value size signed remainder) ≡ left % modulus size
  -- and as whole numbers, where the type has the quotient
  pub exact : IsTrue (is_in_range size signed (int_div (value size signed left) (value size signed right))) →
      value size signed quotient *ℤ value size signed right +ℤ value size signed remainder ≡ value size signed left
  -- the remainder is smaller than the divisor
  pub smaller : unsigned_abs (value size signed remainder) < unsigned_abs (value size signed right)
  -- and is not on the other side of 0 than the dividend
  pub not_above : value size signed left ≤ℤ pos 0 → value size signed remainder ≤ℤ pos 0
  pub not_below : pos 0 ≤ℤ value size signed left → pos 0 ≤ℤ value size signed remainder
