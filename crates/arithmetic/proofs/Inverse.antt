-- The bits of a value, and the value of bits.
use Rattle.std.proofs.Common.{◌≡◌, ℕ, ◌+◌, ◌*◌, ◌/◌, ◌%◌, ◌^◌, ◌<◌, Bool, true, false, ap, arith}
use Rattle.std.specs.Prelude.{ℤ, pos, negsuc, ◌+ℤ◌, ◌-ℤ◌, neg_ℤ, IsTrue, int_le, ◌&&◌}
use Rattle.std.proofs.lemmas.Int.{ints}
use Rattle.std.proofs.Math.Nat.{mod-lt, div-add-mod'}
use Rattle.arithmetic.specs.declared.size.Size.{Size}
use Rattle.arithmetic.specs.declared.size.Size.TheVariants.{One, Two, Four, Eight}
use Rattle.arithmetic.specs.Size.{bytes}
use Rattle.arithmetic.specs.Value.{modulus, residue, bits, twos_complement, value, is_in_range}
use Rattle.arithmetic.proofs.Residues.{residue-is, value-is}
use Rattle.arithmetic.proofs.Modulo.{positive}

pub residue-small : (count : ℕ) (z : ℤ) → 0 < count → residue count z < count
residue-small count (pos number) some = mod-lt number some
residue-small count (negsuc before) some = omega arith

pub bits_small : (size : Size) (number : ℤ) → bits (bytes size) number < modulus (bytes size)
bits_small size number = residue-small (modulus (bytes size)) number (positive size)

pub bits_value : (size : Size) (signed : Bool) (number : ℕ) → bits (bytes size) (value (bytes size) signed number) ≡ number % modulus (bytes size)
bits_value size signed number =
    let is = value-is (bytes size) signed number in
    residue-is (modulus (bytes size)) (value (bytes size) signed number) is.0 number (positive size) is.1

-- two's complement is between minus a half and a half
twos_complement-between : (half low : ℕ) → 0 < half → low < half + half →
    IsTrue (int_le (neg_ℤ (pos half)) (twos_complement (half + half) low) && int_le (twos_complement (half + half) low) (pos half -ℤ pos 1))
twos_complement-between half low some small = grind (arith, ints)

unsigned-between : (count low : ℕ) → low < count → IsTrue (int_le (pos 0) (pos low) && int_le (pos low) (pos count -ℤ pos 1))
unsigned-between count low small = grind (arith, ints)

pub value_between : (size : Size) (signed : Bool) (number : ℕ) → IsTrue (is_in_range (bytes size) signed (value (bytes size) signed number))
value_between size false number = unsigned-between (modulus (bytes size)) (number % modulus (bytes size)) (mod-lt number (positive size))
value_between One true number = twos_complement-between 128 (number % 256) (omega arith) (mod-lt number (positive One))
value_between Two true number = twos_complement-between (2 ^ 15) (number % 2 ^ 16) (omega arith) (mod-lt number (positive Two))
value_between Four true number = twos_complement-between (2 ^ 31) (number % 2 ^ 32) (omega arith) (mod-lt number (positive Four))
value_between Eight true number = twos_complement-between (2 ^ 63) (number % 2 ^ 64) (omega arith) (mod-lt number (positive Eight))

-- a whole number in the range of a type is the value of its bits
pub value_bits : (size : Size) (signed : Bool) (number : ℤ) → IsTrue (is_in_range (bytes size) signed number) →
    value (bytes size) signed (bits (bytes size) number) ≡ number
value_bits One false number inside = grind (arith, ints)
value_bits Two false number inside = grind (arith, ints)
value_bits Four false number inside = grind (arith, ints)
value_bits Eight false number inside = grind (arith, ints)
value_bits One true number inside = grind (arith, ints)
value_bits Two true number inside = grind (arith, ints)
value_bits Four true number inside = grind (arith, ints)
value_bits Eight true number inside = grind (arith, ints)

-- a whole number and its residue differ by a multiple of the count
residue-multiples : (count : ℕ) (z : ℤ) → 0 < count → (j : ℕ) × (k : ℕ) × (pos (residue count z) +ℤ pos (j * count) ≡ z +ℤ pos (k * count))
residue-multiples count (pos number) some = let split = div-add-mod' number count in (number / count, 0, ap pos (omega arith))
residue-multiples count (negsuc before) some =
    let split = div-add-mod' before count in
    let low = mod-lt before some in
    (0, before / count + 1, omega (arith, ints))

-- and so do a whole number and the value of its bits
pub value-multiples : (size : Size) (signed : Bool) (z : ℤ) →
    (j : ℕ) × (k : ℕ) × (value (bytes size) signed (bits (bytes size) z) +ℤ pos (j * modulus (bytes size)) ≡ z +ℤ pos (k * modulus (bytes size)))
value-multiples size signed z =
    let low = bits (bytes size) z in
    let one = residue-multiples (modulus (bytes size)) z (positive size) in
    let other = value-is (bytes size) signed low in
    (other.0 + one.0, one.1, both z (value (bytes size) signed low) (modulus (bytes size)) low one.0 one.1 other.0 one.2 other.1)
  where
    both : (z w : ℤ) (count low j k i : ℕ) → pos low +ℤ pos (j * count) ≡ z +ℤ pos (k * count) → w +ℤ pos (i * count) ≡ pos low → w +ℤ pos ((i + j) * count) ≡ z +ℤ pos (k * count)
    both z w count low j k i one other = omega (arith, ints)

-- so a conversion changes a value by a multiple of 2^n
pub converted_modulo : (from to : Size) (signed signed' : Bool) (number : ℕ) →
    (j : ℕ) × (k : ℕ) × (value (bytes to) signed' (bits (bytes to) (value (bytes from) signed number)) +ℤ pos (j * modulus (bytes to)) ≡ value (bytes from) signed number +ℤ pos (k * modulus (bytes to)))
converted_modulo from to signed signed' number = value-multiples to signed' (value (bytes from) signed number)
