-- Words are moved modulo 2^64.
use Rattle.std.proofs.Common.{◌≡◌, ℕ, suc, ◌+◌, ◌-◌, ◌*◌, ◌/◌, ◌%◌, ◌^◌, ◌<◌, Bool, refl, sym, ap, ◌∙◌, arith}
use Rattle.std.specs.Prelude.{ℤ, pos, negsuc, ◌+ℤ◌, ◌*ℤ◌, neg_ℤ, FitsSigned}
use Rattle.std.specs.Int.{w64, cast_unsigned}
use Rattle.std.proofs.lemmas.Int.{ints}
use Rattle.arithmetic.specs.Conversion.{converted}
use Rattle.arithmetic.specs.Value.{residue, value}
use Rattle.arithmetic.proofs.Residues.{residue-product}
use Rattle.bytes_core.specs.Value.{wrapped}
use Rattle.bytes_core.proofs.Moves.{wrapped-is}

-- a whole number and what it wraps to
multiples : (z : ℤ) → (j : ℕ) × (k : ℕ) × (pos (wrapped z) +ℤ pos (j * 2 ^ 64) ≡ z +ℤ pos (k * 2 ^ 64))
multiples (pos a) = (a / 2 ^ 64, 0, ap pos (omega arith))
multiples (negsuc a) = (0, a / 2 ^ 64 + 1, omega (arith, ints))

small : (z : ℤ) → wrapped z < 2 ^ 64
small (pos a) = omega arith
small (negsuc a) = omega arith

-- a number that is moved
pub plain_moved : (number : ℕ) (bytes : ℤ) → wrapped (pos number +ℤ bytes) ≡ (number + wrapped bytes) % 2 ^ 64
plain_moved number bytes =
    let it = multiples bytes in
    let sum : pos number +ℤ bytes +ℤ pos (it.1 * 2 ^ 64) ≡ pos (number + wrapped bytes + it.0 * 2 ^ 64) = at number bytes (wrapped bytes) it.0 it.1 it.2 in
    wrapped-is (pos number +ℤ bytes) it.1 (number + wrapped bytes + it.0 * 2 ^ 64) sum ∙ omega arith
  where
    at : (number : ℕ) (bytes : ℤ) (low j k : ℕ) → pos low +ℤ pos (j * 2 ^ 64) ≡ bytes +ℤ pos (k * 2 ^ 64) →
        pos number +ℤ bytes +ℤ pos (k * 2 ^ 64) ≡ pos (number + low + j * 2 ^ 64)
    at number bytes low j k e = omega (arith, ints)

-- an offset that is moved
pub offset_moved : (offset bytes : ℤ) → FitsSigned w64 offset → wrapped (offset +ℤ bytes) ≡ (cast_unsigned w64 offset + wrapped bytes) % 2 ^ 64
offset_moved (pos number) bytes fits = plain_moved number bytes
offset_moved (negsuc number) bytes fits =
    let it = multiples bytes in
    let sum : negsuc number +ℤ bytes +ℤ pos ((it.1 + 1) * 2 ^ 64) ≡ pos (2 ^ 64 - suc number + wrapped bytes + it.0 * 2 ^ 64) =
    at number bytes (wrapped bytes) it.0 it.1 (omega (arith, ints)) it.2 in
    wrapped-is (negsuc number +ℤ bytes) (it.1 + 1) (2 ^ 64 - suc number + wrapped bytes + it.0 * 2 ^ 64) sum ∙ omega arith
  where
    at : (number : ℕ) (bytes : ℤ) (low j k : ℕ) → number < 2 ^ 64 → pos low +ℤ pos (j * 2 ^ 64) ≡ bytes +ℤ pos (k * 2 ^ 64) →
        negsuc number +ℤ bytes +ℤ pos ((k + 1) * 2 ^ 64) ≡ pos (2 ^ 64 - suc number + low + j * 2 ^ 64)
    at number bytes low j k fits e = omega (arith, ints)

-- moves backwards
pub backwards : (bytes : ℤ) (step : ℕ) → step < 2 ^ 64 → (step + wrapped bytes) % 2 ^ 64 ≡ 0 → wrapped (neg_ℤ bytes) ≡ step
backwards bytes step fits none =
    let it = multiples bytes in
    let least = small bytes in
    let sum : neg_ℤ bytes +ℤ pos ((it.0 + 1) * 2 ^ 64) ≡ pos ((it.1 + 1) * 2 ^ 64 - wrapped bytes) = at bytes (wrapped bytes) it.0 it.1 least it.2 in
    wrapped-is (neg_ℤ bytes) (it.0 + 1) ((it.1 + 1) * 2 ^ 64 - wrapped bytes) sum ∙ omega arith
  where
    at : (bytes : ℤ) (low j k : ℕ) → low < 2 ^ 64 → pos low +ℤ pos (j * 2 ^ 64) ≡ bytes +ℤ pos (k * 2 ^ 64) →
        neg_ℤ bytes +ℤ pos ((j + 1) * 2 ^ 64) ≡ pos ((k + 1) * 2 ^ 64 - low)
    at bytes low j k fits e = omega (arith, ints)

-- an integer's value times a number of bytes
eight : (z : ℤ) → residue (2 ^ 64) z ≡ wrapped z
eight (pos number) = refl
eight (negsuc number) = refl

times : (z : ℤ) (bytes : ℕ) → wrapped (z *ℤ pos bytes) ≡ (wrapped z * bytes) % 2 ^ 64
times z bytes =
    let it = multiples z in
    sym (eight (z *ℤ pos bytes)) ∙ residue-product (2 ^ 64) z (pos (wrapped z)) (pos bytes) it.1 it.0 (omega arith) (sym it.2)

pub scaled : (size : ℕ) (signed : Bool) (number bytes : ℕ) →
    wrapped (value size signed number *ℤ pos bytes) ≡ (converted size signed 8 number * bytes) % 2 ^ 64
scaled size signed number bytes =
    times (value size signed number) bytes ∙ ap (λ (low : ℕ). (low * bytes) % 2 ^ 64) (sym (eight (value size signed number)))
