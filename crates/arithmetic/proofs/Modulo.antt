-- What wraps is right modulo 2^n.
use Rattle.std.proofs.Common.{◌≡◌, ℕ, ◌+◌, ◌-◌, ◌*◌, ◌/◌, ◌%◌, ◌^◌, ◌<◌, Bool, refl, sym, ap, ◌∙◌, arith}
use Rattle.std.specs.Prelude.{ℤ, pos, ◌+ℤ◌, ◌-ℤ◌, ◌*ℤ◌}
use Rattle.arithmetic.specs.declared.size.Size.{Size}
use Rattle.arithmetic.specs.Size.{bytes}
use Rattle.std.proofs.lemmas.Int.{ints}
use Rattle.std.proofs.lemmas.Nat.Gcd.{dvd_of_mod-eq-zero, mod-eq-zero_of_dvd}
use Rattle.std.proofs.Math.Nat.{mod-mod_of_dvd, div-add-mod'}
use Rattle.std.specs.Int.{◌∣◌}
use lib.IntN.{*ℤ_comm}
use Rattle.arithmetic.specs.declared.size.Size.TheVariants.{One, Two, Four, Eight}
use Rattle.arithmetic.specs.Value.{modulus, residue, bits, value}
use Rattle.arithmetic.proofs.Residues.{residue-is, residue-same, residue-product, value-is}

-- the numbers of each size divide 2^64
divides : (size : Size) → modulus (bytes size) ∣ 2 ^ 64
divides One = dvd_of_mod-eq-zero 256 refl
divides Two = dvd_of_mod-eq-zero 65536 refl
divides Four = dvd_of_mod-eq-zero 4294967296 refl
divides Eight = dvd_of_mod-eq-zero 18446744073709551616 refl

pub positive : (size : Size) → 0 < modulus (bytes size)
positive One = omega arith
positive Two = omega arith
positive Four = omega arith
positive Eight = omega arith

-- so a number may be taken modulo 2^64 first
low : (size : Size) (number : ℕ) → number % 2 ^ 64 % modulus (bytes size) ≡ number % modulus (bytes size)
low size number = mod-mod_of_dvd (modulus (bytes size)) number (divides size)

pub sum_bits : (size : Size) (signed : Bool) (left right : ℕ) →
    (left + right) % 2 ^ 64 % modulus (bytes size) ≡ bits (bytes size) (value (bytes size) signed left +ℤ value (bytes size) signed right)
sum_bits size signed left right =
    let one = value-is (bytes size) signed left in
    let other = value-is (bytes size) signed right in
    let a = value (bytes size) signed left in
    let b = value (bytes size) signed right in
    let is : a +ℤ b +ℤ pos ((one.0 + other.0) * modulus (bytes size)) ≡ pos (left + right) = sum_at a b (modulus (bytes size)) one.0 other.0 left right one.1 other.1 in
    low size (left + right) ∙ sym (residue-is (modulus (bytes size)) (a +ℤ b) (one.0 + other.0) (left + right) (positive size) is)
  where
    sum_at : (a b : ℤ) (count j k left right : ℕ) → a +ℤ pos (j * count) ≡ pos left → b +ℤ pos (k * count) ≡ pos right →
        a +ℤ b +ℤ pos ((j + k) * count) ≡ pos (left + right)
    sum_at a b count j k left right one other = omega (arith, ints)

pub difference_bits : (size : Size) (signed : Bool) (left right : ℕ) → right < 2 ^ 64 →
    (left + (2 ^ 64 - right)) % 2 ^ 64 % modulus (bytes size) ≡ bits (bytes size) (value (bytes size) signed left -ℤ value (bytes size) signed right)
difference_bits size signed left right small =
    let one = value-is (bytes size) signed left in
    let other = value-is (bytes size) signed right in
    let a = value (bytes size) signed left in
    let b = value (bytes size) signed right in
    let whole = div-add-mod' (2 ^ 64) (modulus (bytes size)) in
    let none = mod-eq-zero_of_dvd (modulus (bytes size)) (divides size) in
    low size (left + (2 ^ 64 - right))
    ∙ apart (modulus (bytes size)) a b one.0 other.0 (2 ^ 64 / modulus (bytes size)) (2 ^ 64) left right (positive size) small (omega arith) one.1 other.1
  where
    apart : (count : ℕ) (a b : ℤ) (j k c most left right : ℕ) → 0 < count → right < most → most ≡ c * count → a +ℤ pos (j * count) ≡ pos left → b +ℤ pos (k * count) ≡ pos right →
        (left + (most - right)) % count ≡ residue count (a -ℤ b)
    apart count a b j k c most left right some small whole one other =
        residue-same count (pos (left + (most - right))) (a -ℤ b) k (j + c) some (omega (arith, ints))

pub product_bits : (size : Size) (signed : Bool) (left right : ℕ) →
    (left * right) % 2 ^ 64 % modulus (bytes size) ≡ bits (bytes size) (value (bytes size) signed left *ℤ value (bytes size) signed right)
product_bits size signed left right =
    let one = value-is (bytes size) signed left in
    let other = value-is (bytes size) signed right in
    let a = value (bytes size) signed left in
    let b = value (bytes size) signed right in
    let count = modulus (bytes size) in
    low size (left * right)
    ∙ sym (residue-product count a (pos left) b one.0 0 (positive size) (one.1 ∙ omega (arith, ints))
    ∙ ap (residue count) (*ℤ_comm (pos left) b)
    ∙ residue-product count b (pos right) (pos left) other.0 0 (positive size) (other.1 ∙ omega (arith, ints))
    ∙ ap (residue count) (*ℤ_comm (pos right) (pos left)))

pub scaled_bits : (size : Size) (signed : Bool) (number scale : ℕ) →
    (number * scale) % 2 ^ 64 % modulus (bytes size) ≡ bits (bytes size) (value (bytes size) signed number *ℤ pos scale)
scaled_bits size signed number scale =
    let one = value-is (bytes size) signed number in
    low size (number * scale)
    ∙ sym (residue-product (modulus (bytes size)) (value (bytes size) signed number) (pos number) (pos scale) one.0 0 (positive size) (one.1 ∙ omega (arith, ints)))
