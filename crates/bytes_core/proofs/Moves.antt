-- Addresses of words that are moved, and the bytes that two ranges share.
use Rattle.std.proofs.Common.{◌≡◌, ℕ, suc, ◌+◌, ◌-◌, ◌*◌, ◌/◌, ◌%◌, ◌^◌, ◌<◌, Bool, true, false, List, refl, sym, ap, ◌∙◌, subst, arith}
use Rattle.std.specs.Prelude.{nat_lt, ℤ, pos, negsuc, ◌+ℤ◌, ◌≤ℤ◌, ◌<ℤ◌, int_lt, ◌&&◌, IsTrue, ◌↔◌, slice_get}
use Rattle.std.specs.Int.{w64, cast_signed, int_rem_euclid}
use Rattle.std.specs.Int.RustNames.{unsigned_abs}
use Rattle.std.specs.Option.{option_map_or}
use Rattle.std.proofs.lemmas.Int.{ints, int_rem_euclid_is}
use borrow.Author.Differences.{up, down}
use mir.Val.{sel}
use Rattle.bytes_core.specs.declared.word.Word.{Word}
use Rattle.bytes_core.specs.declared.word.Word.TheVariants.{Plain, To}
use Rattle.bytes_core.specs.declared.block.Block.{Block}
use Rattle.bytes_core.specs.Value.{wrapped, address_number, moved}
use Rattle.bytes_core.specs.Copying.{share_byte}
use Rattle.bytes_core.specs.Laws.{SharesByte}

rem_euclid : (z : ℤ) → unsigned_abs (int_rem_euclid z (pos (2 ^ 64))) ≡ wrapped z
rem_euclid (pos a) = refl
rem_euclid (negsuc a) = omega arith

-- a whole number that is the natural `m` once some multiple of 2^64 is added to it
pub wrapped-is : (z : ℤ) (k m : ℕ) → z +ℤ pos (k * 2 ^ 64) ≡ pos m → wrapped z ≡ m % 2 ^ 64
wrapped-is z k m e = sym (rem_euclid z) ∙ ap unsigned_abs (int_rem_euclid_is z (pos (2 ^ 64)) (2 ^ 64) k m (omega arith) refl e)

-- some multiples of 2^64 make two whole numbers one
wrapped-same : (a b : ℤ) (j k : ℕ) → a +ℤ pos (j * 2 ^ 64) ≡ b +ℤ pos (k * 2 ^ 64) → wrapped a ≡ wrapped b
wrapped-same a b j k e =
    let t = down a + down b in
    let m = up a + (j + t) * 2 ^ 64 - down a in
    wrapped-is a (j + t) m (omega (arith, ints)) ∙ sym (wrapped-is b (k + t) m (omega (arith, ints)))

-- a whole number and what it wraps to
wrapped-multiples : (z : ℤ) → (j : ℕ) × (k : ℕ) × (pos (wrapped z) +ℤ pos (j * 2 ^ 64) ≡ z +ℤ pos (k * 2 ^ 64))
wrapped-multiples (pos a) = (a / 2 ^ 64, 0, ap pos (omega arith))
wrapped-multiples (negsuc a) = (0, a / 2 ^ 64 + 1, omega (arith, ints))

wrapped-small : (z : ℤ) → wrapped z < 2 ^ 64
wrapped-small (pos a) = omega arith
wrapped-small (negsuc a) = omega arith

-- a number that is read with a sign
signed-multiples : (n : ℕ) → n < 2 ^ 64 → (j : ℕ) × (cast_signed w64 n +ℤ pos (j * 2 ^ 64) ≡ pos n)
signed-multiples n small = at (nat_lt n (2 ^ 63))
  where
    at : (b : Bool) → (j : ℕ) × (sel b (pos n) (negsuc (2 ^ 64 - suc n)) +ℤ pos (j * 2 ^ 64) ≡ pos n)
    at true = (0, ap pos (omega arith))
    at false = (1, omega (arith, ints))

address_moved : (base : ℕ) (offset bytes : ℤ) →
    wrapped (pos base +ℤ cast_signed w64 (wrapped (offset +ℤ bytes))) ≡ wrapped (pos (wrapped (pos base +ℤ offset)) +ℤ bytes)
address_moved base offset bytes =
    let sum = wrapped-multiples (offset +ℤ bytes) in
    let read = signed-multiples (wrapped (offset +ℤ bytes)) (wrapped-small (offset +ℤ bytes)) in
    let from = wrapped-multiples (pos base +ℤ offset) in
    both base offset bytes (wrapped (offset +ℤ bytes)) (cast_signed w64 (wrapped (offset +ℤ bytes))) (wrapped (pos base +ℤ offset))
    sum.0 sum.1 read.0 from.0 from.1 sum.2 read.1 from.2
  where
    both : (base : ℕ) (offset bytes : ℤ) (sum : ℕ) (read : ℤ) (from j k i g h : ℕ) →
        pos sum +ℤ pos (j * 2 ^ 64) ≡ offset +ℤ bytes +ℤ pos (k * 2 ^ 64) → read +ℤ pos (i * 2 ^ 64) ≡ pos sum →
        pos from +ℤ pos (g * 2 ^ 64) ≡ pos base +ℤ offset +ℤ pos (h * 2 ^ 64) →
        wrapped (pos base +ℤ read) ≡ wrapped (pos from +ℤ bytes)
    both base offset bytes sum read from j k i g h one two three =
        wrapped-same (pos base +ℤ read) (pos from +ℤ bytes) (i + j + h) (k + g) (omega (arith, ints))

-- a move adds to the address, modulo 2^64
pub move_adds : (memory : List Block) (word : Word) (bytes : ℤ) →
    address_number memory (moved word bytes) ≡ wrapped (pos (address_number memory word) +ℤ bytes)
move_adds memory (Plain number) bytes = refl
move_adds memory (To block offset) bytes =
    address_moved (option_map_or (λ (found : Block). found.base) (slice_get memory block) 0) offset bytes

-- the later of two offsets is in both ranges, where each begins before the other ends
later : (from from' : ℤ) (count : ℕ) → IsTrue (int_lt from (from' +ℤ pos count) && int_lt from' (from +ℤ pos count)) →
    (at : ℤ) × (from ≤ℤ at) × (at <ℤ (from +ℤ pos count)) × (from' ≤ℤ at) × (at <ℤ (from' +ℤ pos count))
later from from' count is = at (int_lt from from') refl
  where
    at : (b : Bool) → int_lt from from' ≡ b → (at : ℤ) × (from ≤ℤ at) × (at <ℤ (from +ℤ pos count)) × (from' ≤ℤ at) × (at <ℤ (from' +ℤ pos count))
    at true e = (from', grind (arith, ints), grind (arith, ints), grind (arith, ints), grind (arith, ints))
    at false e = (from, grind (arith, ints), grind (arith, ints), grind (arith, ints), grind (arith, ints))

sharing : (one other : Word) (count : ℕ) → IsTrue (share_byte one other count) → SharesByte one other count
sharing (To one from) (To other from') count is =
    let same : one ≡ other = grind (arith, is) in
    let within : IsTrue (int_lt from (from' +ℤ pos count) && int_lt from' (from +ℤ pos count)) = grind (arith, is) in
    let some = later from from' count within in
    record {
      block = one;
      from = from;
      from' = from';
      at = some.0;
      is = refl;
      is' = ap (λ (block : ℕ). To block from') (sym same);
      not_before = some.1;
      not_behind = some.2;
      not_before' = some.3;
      not_behind' = some.4;
    }
sharing (To one from) (Plain number) count is = absurd cc
sharing (Plain number) (Plain number') count is = absurd cc
sharing (Plain number) (To other from') count is = absurd cc

shared : (block : ℕ) (from from' at : ℤ) (count : ℕ) → from ≤ℤ at → at <ℤ (from +ℤ pos count) → from' ≤ℤ at → at <ℤ (from' +ℤ pos count) →
    IsTrue (share_byte (To block from) (To block from') count)
shared block from from' at count one two three four = grind (arith, ints)

-- two ranges share a byte where some offset of one block lies in both
pub shared_bytes : (one other : Word) (count : ℕ) → IsTrue (share_byte one other count) ↔ SharesByte one other count
shared_bytes one other count = (
  sharing one other count,
  λ some. subst (λ (word : Word). IsTrue (share_byte word other count)) (sym some.is)
      (subst (λ (word : Word). IsTrue (share_byte (To some.block some.from) word count)) (sym some.is')
      (shared some.block some.from some.from' some.at count some.not_before some.not_behind some.not_before' some.not_behind')),
)
