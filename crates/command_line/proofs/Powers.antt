-- Numbers of few decimal digits.
use Rattle.std.proofs.Common.{◌≤◌, ◌<◌, ◌^◌, ℕ, arith}
use Rattle.std.proofs.Math.Nat.{pow-le-pow_right}

-- before the last of at most nine digits
pub few_digits : (value behind count : ℕ) → value < 10 ^ behind → behind < count → count ≤ 9 → value < 100000000
few_digits value behind count small more few =
    let fewer : behind ≤ 8 = omega (arith, more, few) in
    let most : 10 ^ behind ≤ 10 ^ 8 = pow-le-pow_right (omega arith) fewer in
    omega (arith, small, most)
