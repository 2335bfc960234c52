-- An integer that becomes one of its own type is what it was, by the rules between types too, but for `_Bool`.
use Rattle.std.proofs.Common.{◌≡◌, ◌∙◌, ℕ, ◌^◌, ◌<◌, Bool, true, false, ◌&&◌, refl, sym, ap, arith}
use Rattle.std.specs.Prelude.{nat_eq, if◌then◌else◌}
use Rattle.std.proofs.lemmas.Bool.Decides.{nat_tests}
use Rattle.std.proofs.Math.Nat.{mod-eq_of_lt}
use Rattle.arithmetic.specs.Conversion.{converted, truth as truth_of}
use Rattle.arithmetic.specs.Value.{value}
use Rattle.arithmetic.proofs.Residues.{residue-is, value-is}
use Rattle.typing.specs.declared.ctypes.kind.IntegerType.{IntegerType}
use Rattle.typing.specs.values.Values.{as_type}
use Rattle.c_machine.specs.Laws.{DoConversionsAgree}
use Rattle.c_machine.specs.Words.{is_same}

-- its bits stand for its value
kept : (size : ℕ) (signed : Bool) (bits : ℕ) → bits < 256 ^ size → converted size signed size bits ≡ bits
kept size signed bits small =
    let it = value-is size signed bits in
    residue-is (256 ^ size) (value size signed bits) it.0 bits (omega arith) it.1 ∙ mod-eq_of_lt small

-- types that are one have one size
left : (one other : Bool) → one && other ≡ true → one ≡ true
left true other same = refl
left false other same = same

equal : (one other : ℕ) → nat_eq one other ≡ true → one ≡ other
equal one other same = grind (arith, nat_tests)

same_type : (from to : IntegerType) (bits : ℕ) → bits < 256 ^ from.bytes → is_same from to ≡ true → converted from.bytes from.signed to.bytes bits ≡ bits
same_type from to bits small same =
    ap (λ (size : ℕ). converted from.bytes from.signed size bits) (sym (equal from.bytes to.bytes (left _ _ same))) ∙ kept from.bytes from.signed bits small

by_answer : (same : Bool) (bits other : ℕ) → (same ≡ true → other ≡ bits) → (if same then bits else other) ≡ other
by_answer true bits other is = sym (is refl)
by_answer false bits other is = refl

pub conversions_agree : DoConversionsAgree
conversions_agree from to bits other small =
    by_answer (is_same from to) bits (as_type from to bits)
    (λ same. ap (λ (truth : Bool). if truth then truth_of from.bytes bits else converted from.bytes from.signed to.bytes bits) other ∙ same_type from to bits small same)
