-- What operations compute fits its size, and an address that is moved has an offset of 64 bits with a sign.
use Rattle.std.proofs.Common.{◌≡◌, ◌<◌, ℕ, zero, suc, ◌-◌, ◌*◌, ◌^◌, ◌%◌, Bool, true, false, refl, sym, ap, ◌∙◌, arith, None, Some, subst, if◌then◌else◌, ltb-true, ltb-false}
use Rattle.std.specs.Prelude.{ℤ, pos, negsuc, ◌+ℤ◌, ◌-ℤ◌, ◌*ℤ◌, int_div, int_rem, bit_and, bit_or, bit_xor, nat_lt}
use Rattle.std.specs.Ordering.{int_eq}
use Rattle.std.specs.Int.{w64, cast_signed, int_shr}
use Rattle.std.proofs.Math.Nat.{mod-lt}
use Rattle.std.proofs.lemmas.Option.{none-some, same_Some}
use lib.Bits.{and_lt, or_lt, xor_lt}
use Rattle.arithmetic.specs.declared.op.Op.{Op}
use Rattle.arithmetic.specs.declared.op.Op.TheVariants.{Add, Sub, Mul, Div, Rem, And, Or, Xor, Left, Right, Less, LessEqual}
use Rattle.arithmetic.specs.Computing.{computed}
use Rattle.arithmetic.specs.Comparing.{is_less, is_less_equal, answer}
use Rattle.arithmetic.specs.Value.{modulus, bits, value}
use Rattle.arithmetic.proofs.Inverse.{residue-small}
use Rattle.bytes_core.specs.declared.word.Word.{Word}
use Rattle.bytes_core.specs.declared.word.Word.TheVariants.{Plain, To}
use Rattle.bytes_core.specs.Value.{wrapped, moved}
use Rattle.flow.specs.Machine.{size_after}
use Rattle.flow.specs.Memories.{IsOffset}
use Rattle.simulation.specs.Slots.{Suits}
use Rattle.lowering.proofs.KindFacts.{wrapped_small}

-- numbers of so many bytes
pub power_some : (size : ℕ) → 0 < 256 ^ size
power_some zero = omega arith
power_some (suc size) = let h = power_some size in omega arith

eight_more : (count : ℕ) → 2 ^ suc (suc (suc (suc (suc (suc (suc (suc count))))))) ≡ 256 * 2 ^ count
eight_more count = omega arith

bits_of_bytes : (size : ℕ) → 256 ^ size ≡ 2 ^ (8 * size)
bits_of_bytes zero = refl
bits_of_bytes (suc size) =
    let count : ℕ = 8 * size in
    let more : 8 * suc size ≡ suc (suc (suc (suc (suc (suc (suc (suc count))))))) = omega arith in
    let before = bits_of_bytes size in
    let here : 256 ^ suc size ≡ 256 * 2 ^ count = (let h : 256 ^ suc size ≡ 256 * 256 ^ size = omega arith in h ∙ ap (λ (n : ℕ). 256 * n) before) in
    here ∙ (sym (eight_more count) ∙ ap (λ (n : ℕ). 2 ^ n) (sym more))

below_power : (size number : ℕ) → number % 256 ^ size < 2 ^ (8 * size)
below_power size number = subst (λ (n : ℕ). number % 256 ^ size < n) (bits_of_bytes size) (mod-lt number (power_some size))

above_power : (size number : ℕ) → number < 2 ^ (8 * size) → number < 256 ^ size
above_power size number less = subst (λ (n : ℕ). number < n) (sym (bits_of_bytes size)) less

of_bits : (size : ℕ) (number : ℤ) (result : ℕ) → Some (bits size number) ≡ Some result → result < 256 ^ size
of_bits size number result is = subst (λ (n : ℕ). n < 256 ^ size) (same_Some (bits size number) result is) (residue-small (modulus size) number (power_some size))

divided : (size : ℕ) (none : Bool) (number : ℤ) (result : ℕ) → (if none then None else Some (bits size number)) ≡ Some result → result < 256 ^ size
divided size true number result is = absurd (none-some result is)
divided size false number result is = of_bits size number result is

shifted : (size : ℕ) (some : Bool) (number : ℤ) (result : ℕ) → (if some then Some (bits size number) else None) ≡ Some result → result < 256 ^ size
shifted size true number result is = of_bits size number result is
shifted size false number result is = absurd (none-some result is)

answer_fits : (holds : Bool) (result : ℕ) → Some (answer holds) ≡ Some result → result < 256 ^ 4
answer_fits true result is = subst (λ (n : ℕ). n < 256 ^ 4) (same_Some 1 result is) (omega arith)
answer_fits false result is = subst (λ (n : ℕ). n < 256 ^ 4) (same_Some 0 result is) (omega arith)

pub computed_fits : (op : Op) (size : ℕ) (signed : Bool) (left right result : ℕ) → computed op size signed left right ≡ Some result → result < 256 ^ size_after op size
computed_fits Add size signed left right result is = of_bits size (value size signed left +ℤ value size signed right) result is
computed_fits Sub size signed left right result is = of_bits size (value size signed left -ℤ value size signed right) result is
computed_fits Mul size signed left right result is = of_bits size (value size signed left *ℤ value size signed right) result is
computed_fits Div size signed left right result is = divided size (int_eq (value size signed right) (pos 0)) (int_div (value size signed left) (value size signed right)) result is
computed_fits Rem size signed left right result is = divided size (int_eq (value size signed right) (pos 0)) (int_rem (value size signed left) (value size signed right)) result is
computed_fits And size signed left right result is =
    subst (λ (n : ℕ). n < 256 ^ size) (same_Some (bit_and (left % modulus size) (right % modulus size)) result is)
    (above_power size (bit_and (left % modulus size) (right % modulus size)) (and_lt (8 * size) (left % modulus size) (right % modulus size) (below_power size left) (below_power size right)))
computed_fits Or size signed left right result is =
    subst (λ (n : ℕ). n < 256 ^ size) (same_Some (bit_or (left % modulus size) (right % modulus size)) result is)
    (above_power size (bit_or (left % modulus size) (right % modulus size)) (or_lt (8 * size) (left % modulus size) (right % modulus size) (below_power size left) (below_power size right)))
computed_fits Xor size signed left right result is =
    subst (λ (n : ℕ). n < 256 ^ size) (same_Some (bit_xor (left % modulus size) (right % modulus size)) result is)
    (above_power size (bit_xor (left % modulus size) (right % modulus size)) (xor_lt (8 * size) (left % modulus size) (right % modulus size) (below_power size left) (below_power size right)))
computed_fits Left size signed left right result is = shifted size (nat_lt right (8 * size)) (value size signed left *ℤ pos (2 ^ right)) result is
computed_fits Right size signed left right result is = shifted size (nat_lt right (8 * size)) (int_shr (value size signed left) right) result is
computed_fits Less size signed left right result is = answer_fits (is_less size signed left right) result is
computed_fits LessEqual size signed left right result is = answer_fits (is_less_equal size signed left right) result is

-- addresses
signed_near : (number : ℕ) → number < 2 ^ 64 → IsOffset (cast_signed w64 number)
signed_near number small = by_test (nat_lt number (2 ^ 63)) refl
  where
    by_test : (test : Bool) → nat_lt number (2 ^ 63) ≡ test → IsOffset (if test then pos number else negsuc (2 ^ 64 - suc number))
    by_test true is = ltb-true number (2 ^ 63) is
    by_test false is = let h = ltb-false number (2 ^ 63) is in omega arith

pub moved_suits : (word : Word) (by : ℤ) → Suits 8 false (moved word by)
moved_suits (Plain number) by = (wrapped_small (pos number +ℤ by), tt, tt)
moved_suits (To block offset) by = (refl, signed_near (wrapped (offset +ℤ by)) (wrapped_small (offset +ℤ by)), tt)
