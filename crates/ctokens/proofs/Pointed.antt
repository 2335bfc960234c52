-- What stands behind one byte, as a part of a length: nothing, or that byte and it.
use Rattle.std.specs.Prelude.{◌≡◌, ℕ, zero, suc, ◌+◌, ◌<◌, ◌≤◌, nat_eq, if◌then◌else◌}
use Rattle.std.proofs.Common.{arith}
use Rattle.std.proofs.lemmas.Bool.{ne_eqb}
use Rattle.ctokens.proofs.Choices.{chosen_no}

abbrev pub pointed : ℕ → ℕ
pointed count = if nat_eq count 0 then 0 else 1 + count

pub pointed-some : (count : ℕ) → 0 < count → pointed count ≡ suc count
pointed-some count some =
    let here : pointed count ≡ 1 + count = chosen_no (nat_eq count 0) 0 (1 + count) (ne_eqb count 0 (λ e. omega (arith, e))) in omega (arith, here)

pub pointed-small : (count limit : ℕ) → count ≤ limit → pointed count ≤ suc limit
pointed-small zero limit within = omega arith
pointed-small (suc count) limit within = omega (arith, pointed-some (suc count) (omega arith))
