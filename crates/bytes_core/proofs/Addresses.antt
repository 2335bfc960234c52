-- Addresses and bytes of numbers, as arithmetic of 64 bits gives them.
use Rattle.std.proofs.Common.{◌≡◌, ℕ, zero, suc, ◌+◌, ◌*◌, ◌/◌, ◌%◌, ◌^◌, ◌<◌, ◌≤◌, ℤ, pos, negsuc, refl, ap, ◌∙◌, arith}
use Rattle.std.proofs.Math.Nat.{div-one, one-le-pow}
use Rattle.std.proofs.lemmas.Nat.{pow-add, div_below}
use Rattle.std.specs.Prelude.{◌+ℤ◌, FitsSigned, slice_index}
use Rattle.std.specs.Int.{w64, to_le_bytes, cast_unsigned}
use Rattle.std.proofs.lemmas.Int.{ints}
use Rattle.bytes_core.specs.Value.{wrapped, byte_of}
use Rattle.bytes_core.proofs.Moves.{wrapped-is}

-- the sum of a number and a number with a sign, modulo 2^64
pub wrapped_sum : (base : ℕ) (offset : ℤ) → FitsSigned w64 offset → wrapped (pos base +ℤ offset) ≡ (base + cast_unsigned w64 offset) % 2 ^ 64
wrapped_sum base (pos n) fits = refl
wrapped_sum base (negsuc n) fits = wrapped-is (pos base +ℤ negsuc n) 1 (base + cast_unsigned w64 (negsuc n)) (omega (arith, ints))

-- 256 to a power of eight or more has more than 64 bits
large_power : (k : ℕ) → 2 ^ 64 ≤ 256 ^ (8 + k)
large_power k = let least : 1 ≤ 256 ^ k = one-le-pow k 256 (omega arith) in rw (pow-add 256 8 k) (omega arith)

no_byte : (number k : ℕ) → number < 2 ^ 64 → byte_of number (8 + k) ≡ 0
no_byte number k small =
    let large : number < 1 * 256 ^ (8 + k) = let power = large_power k in omega arith in
    let positive : 0 < 256 ^ (8 + k) = let power = large_power k in omega arith in
    let below : number / 256 ^ (8 + k) < 1 = div_below number (256 ^ (8 + k)) 1 positive large in
    let none : number / 256 ^ (8 + k) ≡ 0 = omega arith in
    ap (λ (n : ℕ). n % 256) none

-- a byte of a number is among its eight bytes, or 0
pub byte_of_number : (number k : ℕ) → number < 2 ^ 64 → byte_of number k ≡ slice_index (to_le_bytes w64 number) k
byte_of_number number zero small = rw (div-one number) refl
byte_of_number number (suc zero) small = refl
byte_of_number number (suc (suc zero)) small = refl
byte_of_number number (suc (suc (suc zero))) small = refl
byte_of_number number (suc (suc (suc (suc zero)))) small = refl
byte_of_number number (suc (suc (suc (suc (suc zero))))) small = refl
byte_of_number number (suc (suc (suc (suc (suc (suc zero)))))) small = refl
byte_of_number number (suc (suc (suc (suc (suc (suc (suc zero))))))) small = refl
byte_of_number number (suc (suc (suc (suc (suc (suc (suc (suc k)))))))) small = ap (byte_of number) (let eight : suc (suc (suc (suc (suc (suc (suc (suc k))))))) ≡ 8 + k = omega arith in eight) ∙ no_byte number k small
