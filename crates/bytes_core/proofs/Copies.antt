-- What a copy looks at.
use Rattle.std.proofs.Common.{◌≡◌, ℕ, zero, suc, ◌<◌, ◌&&◌, List, nat_lt, ℤ, pos, negsuc, refl, arith}
use Rattle.std.specs.Prelude.{◌+ℤ◌, ◌-ℤ◌, int_lt}
use Rattle.std.specs.Int.RustNames.{unsigned_abs}
use Rattle.std.proofs.lemmas.Int.{ints}
use Rattle.std.proofs.lemmas.Bool.Decides.{same_from_decides}
use Rattle.bytes_core.specs.declared.word.Word.{Word}
use Rattle.bytes_core.specs.declared.block.Block.{Block}
use Rattle.bytes_core.specs.Access.{access_fault, range_fault}

-- two ranges of one length share a byte where they begin closer to each other than that
pub shared_offsets : (one other : ℤ) (count : ℕ) →
    (int_lt one (other +ℤ pos count) && int_lt other (one +ℤ pos count)) ≡ nat_lt (unsigned_abs (one -ℤ other)) count
shared_offsets one other count = at (one -ℤ other) refl
  where
    at : (apart : ℤ) → one -ℤ other ≡ apart → (int_lt one (other +ℤ pos count) && int_lt other (one +ℤ pos count)) ≡ nat_lt (unsigned_abs apart) count
    at (pos n) e =
        same_from_decides (int_lt one (other +ℤ pos count) && int_lt other (one +ℤ pos count)) (nat_lt n count)
        ((λ is. grind (arith, ints)), (λ is. grind (arith, ints))) (λ h. h, λ h. h)
    at (negsuc n) e =
        same_from_decides (int_lt one (other +ℤ pos count) && int_lt other (one +ℤ pos count)) (nat_lt (suc n) count)
        ((λ is. grind (arith, ints)), (λ is. grind (arith, ints))) (λ h. h, λ h. h)

-- a range of some bytes is accessed
pub range_of_some : (memory : List Block) (at : Word) (count : ℕ) → 0 < count → range_fault memory at count ≡ access_fault memory at count
range_of_some memory at zero some = absurd (omega arith)
range_of_some memory at (suc count) some = refl
