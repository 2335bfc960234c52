-- Words and offsets are moved modulo 2^64.
use Rattle.std.proofs.Common.{◌≡◌, ℕ, suc, ◌+◌, ◌-◌, ◌*◌, ◌/◌, ◌%◌, ◌^◌, ◌<◌, Bool, true, false, nat_lt, refl, sym, ap, ◌∙◌, arith}
use Rattle.std.specs.Prelude.{ℤ, pos, negsuc, ◌+ℤ◌, ◌-ℤ◌, ◌*ℤ◌, FitsSigned}
use Rattle.std.specs.Int.{w64, cast_signed, cast_unsigned}
use Rattle.std.proofs.Math.IntN.{*ℤ_comm}
use Rattle.std.proofs.Math.Nat.{mul_comm}
use Rattle.std.proofs.lemmas.Int.{ints}
use borrow.Author.Differences.{up, down}
use mir.Val.{sel}
use Rattle.arithmetic.specs.Value.{residue, value}
use Rattle.arithmetic.proofs.Residues.{value-is, residue-product}
use Rattle.bytes_core.specs.declared.word.Word.{Word}
use Rattle.bytes_core.specs.declared.word.Word.TheVariants.{Plain, To}
use Rattle.bytes_core.specs.Value.{wrapped, moved}
use Rattle.bytes_core.proofs.Moves.{wrapped-is}

-- Whole numbers modulo 2^64.

-- a whole number and what it wraps to
multiples : (z : ℤ) → (j : ℕ) × (k : ℕ) × (pos (wrapped z) +ℤ pos (j * 2 ^ 64) ≡ z +ℤ pos (k * 2 ^ 64))
multiples (pos a) = (a / 2 ^ 64, 0, ap pos (omega arith))
multiples (negsuc a) = (0, a / 2 ^ 64 + 1, omega (arith, ints))

pub wrapped_below : (z : ℤ) → wrapped z < 2 ^ 64
wrapped_below (pos a) = omega arith
wrapped_below (negsuc a) = omega arith

-- some multiples of 2^64 make two whole numbers one
wrapped_same : (a b : ℤ) (j k : ℕ) → a +ℤ pos (j * 2 ^ 64) ≡ b +ℤ pos (k * 2 ^ 64) → wrapped a ≡ wrapped b
wrapped_same a b j k e =
    let t = down a + down b in
    let m = up a + (j + t) * 2 ^ 64 - down a in
    wrapped-is a (j + t) m (omega (arith, ints)) ∙ sym (wrapped-is b (k + t) m (omega (arith, ints)))

-- a number that is read with a sign
signed_multiples : (n : ℕ) → n < 2 ^ 64 → (j : ℕ) × (cast_signed w64 n +ℤ pos (j * 2 ^ 64) ≡ pos n)
signed_multiples n small = at (nat_lt n (2 ^ 63))
  where
    at : (b : Bool) → (j : ℕ) × (sel b (pos n) (negsuc (2 ^ 64 - suc n)) +ℤ pos (j * 2 ^ 64) ≡ pos n)
    at true = (0, ap pos (omega arith))
    at false = (1, omega (arith, ints))

-- an offset behind a move
offset_after : (z : ℤ) → (j : ℕ) × (k : ℕ) × (cast_signed w64 (wrapped z) +ℤ pos (j * 2 ^ 64) ≡ z +ℤ pos (k * 2 ^ 64))
offset_after z =
    let it = multiples z in
    let read = signed_multiples (wrapped z) (wrapped_below z) in
    (read.0 + it.0, it.1, both z (wrapped z) (cast_signed w64 (wrapped z)) it.0 it.1 read.0 it.2 read.1)
  where
    both : (z : ℤ) (low : ℕ) (read : ℤ) (j k i : ℕ) → pos low +ℤ pos (j * 2 ^ 64) ≡ z +ℤ pos (k * 2 ^ 64) → read +ℤ pos (i * 2 ^ 64) ≡ pos low → read +ℤ pos ((i + j) * 2 ^ 64) ≡ z +ℤ pos (k * 2 ^ 64)
    both z low read j k i one other = omega (arith, ints)

-- What code adds and multiplies.

-- a number that is moved
pub plain_moved : (number : ℕ) (bytes : ℤ) → wrapped (pos number +ℤ bytes) ≡ (number + wrapped bytes) % 2 ^ 64
plain_moved number bytes =
    let it = multiples bytes in
    wrapped-is (pos number +ℤ bytes) it.1 (number + wrapped bytes + it.0 * 2 ^ 64) (at number bytes (wrapped bytes) it.0 it.1 it.2) ∙ omega arith
  where
    at : (number : ℕ) (bytes : ℤ) (low j k : ℕ) → pos low +ℤ pos (j * 2 ^ 64) ≡ bytes +ℤ pos (k * 2 ^ 64) →
        pos number +ℤ bytes +ℤ pos (k * 2 ^ 64) ≡ pos (number + low + j * 2 ^ 64)
    at number bytes low j k e = omega (arith, ints)

-- an offset that is moved
pub offset_moved : (offset bytes : ℤ) → FitsSigned w64 offset → wrapped (offset +ℤ bytes) ≡ (cast_unsigned w64 offset + wrapped bytes) % 2 ^ 64
offset_moved (pos number) bytes fits = plain_moved number bytes
offset_moved (negsuc number) bytes fits =
    let it = multiples bytes in
    let sum : negsuc number +ℤ bytes +ℤ pos ((it.1 + 1) * 2 ^ 64) ≡ pos (2 ^ 64 - suc number + wrapped bytes + it.0 * 2 ^ 64) =
    at number bytes (wrapped bytes) it.0 it.1 (omega (arith, ints)) it.2 in
    wrapped-is (negsuc number +ℤ bytes) (it.1 + 1) (2 ^ 64 - suc number + wrapped bytes + it.0 * 2 ^ 64) sum ∙ omega arith
  where
    at : (number : ℕ) (bytes : ℤ) (low j k : ℕ) → number < 2 ^ 64 → pos low +ℤ pos (j * 2 ^ 64) ≡ bytes +ℤ pos (k * 2 ^ 64) →
        negsuc number +ℤ bytes +ℤ pos ((k + 1) * 2 ^ 64) ≡ pos (2 ^ 64 - suc number + low + j * 2 ^ 64)
    at number bytes low j k fits e = omega (arith, ints)

-- a number of bytes as it is handed in
pub unsigned_wraps : (bytes : ℤ) → FitsSigned w64 bytes → wrapped bytes ≡ cast_unsigned w64 bytes
unsigned_wraps (pos number) fits = let small : number < 2 ^ 63 = fits.sfits in omega arith
unsigned_wraps (negsuc number) fits = let small : number < 2 ^ 63 = fits.sfits in omega (arith, ints)

eight : (z : ℤ) → residue (2 ^ 64) z ≡ wrapped z
eight (pos number) = refl
eight (negsuc number) = refl

-- an integer with a sign times a number of bytes
pub scaled : (number : ℕ) (scale : ℤ) → FitsSigned w64 scale → wrapped (value 8 true number *ℤ scale) ≡ (number * cast_unsigned w64 scale) % 2 ^ 64
scaled number scale fits =
    let is = value-is 8 true number in
    let it = multiples scale in
    sym (eight (value 8 true number *ℤ scale))
    ∙ residue-product (2 ^ 64) (value 8 true number) (pos number) scale is.0 0 (omega arith) (is.1 ∙ omega (arith, ints))
    ∙ ap (residue (2 ^ 64)) (*ℤ_comm (pos number) scale)
    ∙ residue-product (2 ^ 64) scale (pos (wrapped scale)) (pos number) it.1 it.0 (omega arith) (sym it.2)
    ∙ ap (λ (n : ℕ). n % 2 ^ 64) (mul_comm (wrapped scale) number ∙ ap (λ (n : ℕ). number * n) (unsigned_wraps scale fits))

-- Words that are moved twice.

pub moved_same : (word : Word) (a b : ℤ) (j k : ℕ) → a +ℤ pos (j * 2 ^ 64) ≡ b +ℤ pos (k * 2 ^ 64) → moved word a ≡ moved word b
moved_same (Plain number) a b j k e = ap Plain (wrapped_same (pos number +ℤ a) (pos number +ℤ b) j k (omega (arith, ints)))
moved_same (To block offset) a b j k e = ap (λ (n : ℕ). To block (cast_signed w64 n)) (wrapped_same (offset +ℤ a) (offset +ℤ b) j k (omega (arith, ints)))

pub moved_twice : (word : Word) (a b : ℤ) → moved (moved word a) b ≡ moved word (a +ℤ b)
moved_twice (Plain number) a b =
    let it = multiples (pos number +ℤ a) in
    ap Plain (wrapped_same (pos (wrapped (pos number +ℤ a)) +ℤ b) (pos number +ℤ (a +ℤ b)) it.0 it.1 (at number a b (wrapped (pos number +ℤ a)) it.0 it.1 it.2))
  where
    at : (number : ℕ) (a b : ℤ) (low j k : ℕ) → pos low +ℤ pos (j * 2 ^ 64) ≡ pos number +ℤ a +ℤ pos (k * 2 ^ 64) → pos low +ℤ b +ℤ pos (j * 2 ^ 64) ≡ pos number +ℤ (a +ℤ b) +ℤ pos (k * 2 ^ 64)
    at number a b low j k e = omega (arith, ints)
moved_twice (To block offset) a b =
    let it = offset_after (offset +ℤ a) in
    ap (λ (n : ℕ). To block (cast_signed w64 n))
    (wrapped_same (cast_signed w64 (wrapped (offset +ℤ a)) +ℤ b) (offset +ℤ (a +ℤ b)) it.0 it.1 (at offset a b (cast_signed w64 (wrapped (offset +ℤ a))) it.0 it.1 it.2))
  where
    at : (offset a b read : ℤ) (j k : ℕ) → read +ℤ pos (j * 2 ^ 64) ≡ offset +ℤ a +ℤ pos (k * 2 ^ 64) → read +ℤ b +ℤ pos (j * 2 ^ 64) ≡ offset +ℤ (a +ℤ b) +ℤ pos (k * 2 ^ 64)
    at offset a b read j k e = omega (arith, ints)

-- what lies beyond an end, moved to an offset and on from there
pub beyond_moved : (beyond : Word) (place : ℕ) (offset by : ℤ) → moved (moved beyond (offset -ℤ pos place)) by ≡ moved beyond (cast_signed w64 (wrapped (offset +ℤ by)) -ℤ pos place)
beyond_moved beyond place offset by =
    let it = offset_after (offset +ℤ by) in
    moved_twice beyond (offset -ℤ pos place) by
    ∙ sym (moved_same beyond (cast_signed w64 (wrapped (offset +ℤ by)) -ℤ pos place) (offset -ℤ pos place +ℤ by) it.0 it.1 (at place offset by (cast_signed w64 (wrapped (offset +ℤ by))) it.0 it.1 it.2))
  where
    at : (place : ℕ) (offset by read : ℤ) (j k : ℕ) → read +ℤ pos (j * 2 ^ 64) ≡ offset +ℤ by +ℤ pos (k * 2 ^ 64) → read -ℤ pos place +ℤ pos (j * 2 ^ 64) ≡ offset -ℤ pos place +ℤ by +ℤ pos (k * 2 ^ 64)
    at place offset by read j k e = omega (arith, ints)
