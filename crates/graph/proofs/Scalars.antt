-- Sizes of scalars, and the numbers that fit them.
use Rattle.std.proofs.Common.{◌≡◌, ℕ, ◌^◌, ◌<◌, ◌≤◌, Bool, true, false, ◌||◌, nat_eq, nat_le, nat_lt, refl, eqb-true, leb-true, arith}
use Rattle.std.specs.Prelude.{if◌then◌else◌}
use Rattle.std.proofs.lemmas.Bool.{false≢true}
use Rattle.graph.specs.declared.value.Value.{Value}
use Rattle.graph.specs.declared.value.Value.TheVariants.{Const, Number, Any, Address}
use Rattle.graph.specs.Sizes.{value_size, is_scalar_size, is_sized}
use Rattle.graph.proofs.Tests.{and_left}

pub small_scalar : (size : ℕ) → is_scalar_size size ≡ true → size ≤ 8
small_scalar size scalar = by_cases (nat_eq size 1) refl (nat_eq size 2) refl (nat_eq size 4) refl (nat_eq size 8) refl scalar
  where
    by_cases : (a : Bool) → nat_eq size 1 ≡ a → (b : Bool) → nat_eq size 2 ≡ b → (c : Bool) → nat_eq size 4 ≡ c → (d : Bool) → nat_eq size 8 ≡ d → (a || (b || (c || d))) ≡ true → size ≤ 8
    by_cases true is b b_is c c_is d d_is any = let e = eqb-true _ _ is in omega arith
    by_cases false a_is true is c c_is d d_is any = let e = eqb-true _ _ is in omega arith
    by_cases false a_is false b_is true is d d_is any = let e = eqb-true _ _ is in omega arith
    by_cases false a_is false b_is false c_is true is any = let e = eqb-true _ _ is in omega arith
    by_cases false a_is false b_is false c_is false d_is any = absurd (false≢true any)

-- 256 to the power of a scalar's size
pub power_scalar : (size : ℕ) → is_scalar_size size ≡ true → (0 < 256 ^ size) × (256 ^ size ≤ 2 ^ 64) × (4 ≤ size → 2 ^ 32 ≤ 256 ^ size)
power_scalar size scalar = by_cases (nat_eq size 1) refl (nat_eq size 2) refl (nat_eq size 4) refl (nat_eq size 8) refl scalar
  where
    by_cases : (a : Bool) → nat_eq size 1 ≡ a → (b : Bool) → nat_eq size 2 ≡ b → (c : Bool) → nat_eq size 4 ≡ c → (d : Bool) → nat_eq size 8 ≡ d → (a || (b || (c || d))) ≡ true →
        (0 < 256 ^ size) × (256 ^ size ≤ 2 ^ 64) × (4 ≤ size → 2 ^ 32 ≤ 256 ^ size)
    by_cases true is b b_is c c_is d d_is any = rw (eqb-true size 1 is) (omega arith, omega arith, λ large. absurd (omega arith))
    by_cases false a_is true is c c_is d d_is any = rw (eqb-true size 2 is) (omega arith, omega arith, λ large. absurd (omega arith))
    by_cases false a_is false b_is true is d d_is any = rw (eqb-true size 4 is) (omega arith, omega arith, λ large. omega arith)
    by_cases false a_is false b_is false c_is true is any = rw (eqb-true size 8 is) (omega arith, omega arith, λ large. omega arith)
    by_cases false a_is false b_is false c_is false d_is any = absurd (false≢true any)

pub size_of_sized : (value : Value) → is_sized value ≡ true → value_size value ≤ 8
size_of_sized (Const number size) sized = small_scalar size (and_left (is_scalar_size size) (nat_lt number (256 ^ size)) sized)
size_of_sized (Number size) sized = small_scalar size sized
size_of_sized Any sized = omega arith
size_of_sized (Address object offset target) sized = omega arith

-- a number chosen for a size fits it
pub chosen_fits : (number size : ℕ) → is_scalar_size size ≡ true → number < 2 ^ 32 → (if nat_le 4 size then number else 0) < 256 ^ size
chosen_fits number size scalar below = by_cases (nat_le 4 size) refl (power_scalar size scalar)
  where
    by_cases : (large : Bool) → nat_le 4 size ≡ large → (0 < 256 ^ size) × (256 ^ size ≤ 2 ^ 64) × (4 ≤ size → 2 ^ 32 ≤ 256 ^ size) → (if large then number else 0) < 256 ^ size
    by_cases true is (some, most, wide) = let w = wide (leb-true _ _ is) in omega arith
    by_cases false is (some, most, wide) = some
