-- Numbers of so many bytes.
use Rattle.std.proofs.Common.{◌≡◌, ℕ, ◌+◌, ◌-◌, ◌^◌, ◌<◌, ◌≤◌, true, nat_lt, sym, subst, lt-ltb, arith}
use lib.Pow.{pow-add}
use native.Mathlib.Nat.{one-le-pow}

large_power : (k : ℕ) → 2 ^ 64 ≤ 256 ^ (8 + k)
large_power k = let least : 1 ≤ 256 ^ k = one-le-pow k 256 (omega arith) in rw (pow-add 256 8 k) (omega arith)

-- a number of 64 bits has at most eight bytes, and so at most any more of them
pub fits_any_size : (number size : ℕ) → number < 18446744073709551616 → 8 ≤ size → true ≡ nat_lt number (256 ^ size)
fits_any_size number size small large =
    let more : 8 + (size - 8) ≡ size = omega arith in
    let power = subst (λ (n : ℕ). 2 ^ 64 ≤ 256 ^ n) more (large_power (size - 8)) in
    sym (lt-ltb number (256 ^ size) (omega arith))
