-- Whole numbers modulo a count, and the integers' values modulo theirs.
use Rattle.std.proofs.Common.{◌≡◌, ℕ, ◌+◌, ◌-◌, ◌*◌, ◌/◌, ◌%◌, ◌<◌, ◌≤◌, Bool, true, false, refl, sym, ap, ◌∙◌, arith}
use Rattle.std.specs.Prelude.{nat_lt, if◌then◌else◌, ℤ, pos, negsuc, ◌+ℤ◌, ◌-ℤ◌, ◌*ℤ◌, unsigned_abs}
use Rattle.std.specs.Int.{int_rem_euclid}
use Rattle.std.proofs.lemmas.Int.{ints, int_rem_euclid_is}
use borrow.Author.Differences.{up, down}
use Rattle.std.proofs.Math.Nat.{div-add-mod', mod-lt, mul-le-mul_left}
use Rattle.arithmetic.specs.Value.{modulus, residue, value}

rem_euclid : (count : ℕ) (z : ℤ) → 0 < count → unsigned_abs (int_rem_euclid z (pos count)) ≡ residue count z
rem_euclid count (pos a) some = refl
rem_euclid count (negsuc a) some = omega (arith, mod-lt a some)

-- a whole number that is the natural `m` once some multiple of the count is added to it
pub residue-is : (count : ℕ) (z : ℤ) (k m : ℕ) → 0 < count → z +ℤ pos (k * count) ≡ pos m → residue count z ≡ m % count
residue-is count z k m some e = sym (rem_euclid count z some) ∙ ap unsigned_abs (int_rem_euclid_is z (pos count) count k m some refl e)

-- the value of an integer is its number, less a multiple of 2^n
pub value-is : (size : ℕ) (signed : Bool) (number : ℕ) → (j : ℕ) × (value size signed number +ℤ pos (j * modulus size) ≡ pos number)
value-is size false number = let split = div-add-mod' number (modulus size) in (number / modulus size, ap pos (omega arith))
value-is size true number = at (nat_lt (low + low) count)
  where
    count : ℕ
    count = modulus size

    low : ℕ
    low = number % modulus size

    at : (b : Bool) → (j : ℕ) × ((if b then pos low else pos low -ℤ pos count) +ℤ pos (j * count) ≡ pos number)
    at true = let split = div-add-mod' number (modulus size) in (number / modulus size, ap pos (omega arith))
    at false = let split = div-add-mod' number (modulus size) in (number / modulus size + 1, omega (arith, ints))

-- some multiples of the count make two whole numbers one
pub residue-same : (count : ℕ) (a b : ℤ) (j k : ℕ) → 0 < count → a +ℤ pos (j * count) ≡ b +ℤ pos (k * count) → residue count a ≡ residue count b
residue-same count a b j k some e =
    let t = down a + down b in
    let far : t * 1 ≤ t * count = mul-le-mul_left t some in
    let m = up a + (j + t) * count - down a in
    residue-is count a (j + t) m some (omega (arith, ints)) ∙ sym (residue-is count b (k + t) m some (omega (arith, ints)))

-- two whole numbers that multiples of the count make one, times a third one
pub multiples-product : (count : ℕ) (a b c : ℤ) (j k : ℕ) → a +ℤ pos (j * count) ≡ b +ℤ pos (k * count) →
    a *ℤ c +ℤ pos ((j * up c + k * down c) * count) ≡ b *ℤ c +ℤ pos ((k * up c + j * down c) * count)
multiples-product count a b c j k e =
    let sum : up a + j * count + down b ≡ up b + k * count + down a = omega (arith, ints) in
    let above = ap (λ x. x * up c) sum in
    let below = ap (λ x. x * down c) sum in
    omega (arith, ints)

-- a product's residue is that of the product of what has the same residue
pub residue-product : (count : ℕ) (a b c : ℤ) (j k : ℕ) → 0 < count → a +ℤ pos (j * count) ≡ b +ℤ pos (k * count) → residue count (a *ℤ c) ≡ residue count (b *ℤ c)
residue-product count a b c j k some e =
    residue-same count (a *ℤ c) (b *ℤ c) (j * up c + k * down c) (k * up c + j * down c) some (multiples-product count a b c j k e)
