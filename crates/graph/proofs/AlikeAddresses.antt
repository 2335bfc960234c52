-- Addresses of pointers to one block, wherever it lies.
use Rattle.std.proofs.Common.{◌≡◌, ℕ, ◌+◌, ◌-◌, ◌*◌, ◌/◌, ◌%◌, ◌^◌, ◌<◌, ◌≤◌, Bool, true, false, List, Option, Some, refl, sym, ap, ◌∙◌, subst, arith}
use Rattle.std.specs.Prelude.{nat_eq, nat_le, ◌&&◌, ℤ, pos, negsuc, ◌+ℤ◌, slice_get}
use Rattle.std.specs.Int.{int_rem_euclid}
use Rattle.std.specs.Int.RustNames.{unsigned_abs}
use Rattle.std.specs.Option.{option_map_or}
use Rattle.std.proofs.lemmas.Bool.{eqb-true, eq-eqb, ne_eqb, leb-true, and_parts}
use Rattle.std.proofs.lemmas.Bool.Decides.{same_from_decides}
use Rattle.std.proofs.lemmas.Int.{ints, int_rem_euclid_is}
use Rattle.std.proofs.lemmas.Option.{slice_get_within, get_or_from_slice_get}
use borrow.Author.Differences.{up, down}
use Rattle.bytes_core.specs.declared.block.Block.{Block}
use Rattle.bytes_core.specs.declared.word.Word.{Word}
use Rattle.bytes_core.specs.declared.word.Word.TheVariants.{Plain, To}
use Rattle.bytes_core.specs.Value.{wrapped, address_number, is_same_address, moved}
use Rattle.bytes_core.specs.Placement.{extent, is_placed}
use Rattle.bytes_core.specs.Valid.{IsMemory}
use Rattle.graph.specs.Alike.{renumbered_word}
use Rattle.graph.specs.AlikeMemories.{WordNamesAmong, AreAlike}

rem_euclid : (z : ℤ) → unsigned_abs (int_rem_euclid z (pos (2 ^ 64))) ≡ wrapped z
rem_euclid (pos a) = refl
rem_euclid (negsuc a) = omega arith

-- a whole number that is the natural `m` once some multiple of 2^64 is added to it
wrapped-is : (z : ℤ) (k m : ℕ) → z +ℤ pos (k * 2 ^ 64) ≡ pos m → wrapped z ≡ m % 2 ^ 64
wrapped-is z k m e = sym (rem_euclid z) ∙ ap unsigned_abs (int_rem_euclid_is z (pos (2 ^ 64)) (2 ^ 64) k m (omega arith) refl e)

-- some multiples of 2^64 make two whole numbers one
wrapped-same : (a b : ℤ) (j k : ℕ) → a +ℤ pos (j * 2 ^ 64) ≡ b +ℤ pos (k * 2 ^ 64) → wrapped a ≡ wrapped b
wrapped-same a b j k e =
    let t = down a + down b in
    let m = up a + (j + t) * 2 ^ 64 - down a in
    wrapped-is a (j + t) m (omega (arith, ints)) ∙ sym (wrapped-is b (k + t) m (omega (arith, ints)))

-- a whole number and what it wraps to
wrapped-multiples : (z : ℤ) → (j : ℕ) × (k : ℕ) × (pos (wrapped z) +ℤ pos (j * 2 ^ 64) ≡ z +ℤ pos (k * 2 ^ 64))
wrapped-multiples (pos a) = (a / 2 ^ 64, 0, ap pos (omega arith))
wrapped-multiples (negsuc a) = (0, a / 2 ^ 64 + 1, omega (arith, ints))

same_anywhere : (base base' : ℕ) (offset offset' : ℤ) → wrapped (pos base +ℤ offset) ≡ wrapped (pos base +ℤ offset') → wrapped (pos base' +ℤ offset) ≡ wrapped (pos base' +ℤ offset')
same_anywhere base base' offset offset' is =
    let one = wrapped-multiples (pos base +ℤ offset) in
    let two = wrapped-multiples (pos base +ℤ offset') in
    both (wrapped (pos base +ℤ offset)) (wrapped (pos base +ℤ offset')) is one.0 one.1 two.0 two.1 one.2 two.2
  where
    both : (from from' : ℕ) → from ≡ from' → (j k j' k' : ℕ) → pos from +ℤ pos (j * 2 ^ 64) ≡ pos base +ℤ offset +ℤ pos (k * 2 ^ 64) →
        pos from' +ℤ pos (j' * 2 ^ 64) ≡ pos base +ℤ offset' +ℤ pos (k' * 2 ^ 64) → wrapped (pos base' +ℤ offset) ≡ wrapped (pos base' +ℤ offset')
    both from from' is j k j' k' one two = wrapped-same (pos base' +ℤ offset) (pos base' +ℤ offset') (k + j') (k' + j) (omega (arith, ints))

pub same_within : (memory other : List Block) (block block' : ℕ) (offset offset' : ℤ) →
    is_same_address other (To block' offset) (To block' offset') ≡ is_same_address memory (To block offset) (To block offset')
same_within memory other block block' offset offset' =
    same_from_decides (is_same_address other (To block' offset) (To block' offset')) (is_same_address memory (To block offset) (To block offset'))
    (way other memory block' block, way memory other block block') (λ h. h, λ h. h)
  where
    way : (one other : List Block) (block block' : ℕ) → is_same_address one (To block offset) (To block offset') ≡ true → is_same_address other (To block' offset) (To block' offset') ≡ true
    way one other block block' is =
        let base : ℕ = option_map_or (λ (found : Block). found.base) (slice_get one block) 0 in
        let base' : ℕ = option_map_or (λ (found : Block). found.base) (slice_get other block') 0 in
        eq-eqb (wrapped (pos base' +ℤ offset)) (wrapped (pos base' +ℤ offset'))
        (same_anywhere base base' offset offset' (eqb-true (wrapped (pos base +ℤ offset)) (wrapped (pos base +ℤ offset')) is))

pub moved-renumbered : (there : ℕ → ℕ) (word : Word) (bytes : ℤ) → moved (renumbered_word there word) bytes ≡ renumbered_word there (moved word bytes)
moved-renumbered there (Plain number) bytes = refl
moved-renumbered there (To block offset) bytes = refl

-- What is left of an address where bases are multiples of 16, from 16 on.

lowest_same : (base base' : ℕ) (offset : ℤ) → base % 16 ≡ 0 → base' % 16 ≡ 0 → wrapped (pos base' +ℤ offset) % 16 ≡ wrapped (pos base +ℤ offset) % 16
lowest_same base base' offset even even' =
    let one = wrapped-multiples (pos base +ℤ offset) in
    let two = wrapped-multiples (pos base' +ℤ offset) in
    both (wrapped (pos base +ℤ offset)) (wrapped (pos base' +ℤ offset)) (base / 16) (base' / 16) one.0 one.1 two.0 two.1 (omega arith) (omega arith) one.2 two.2
  where
    both : (from from' tenth tenth' j k j' k' : ℕ) → base ≡ tenth * 16 → base' ≡ tenth' * 16 → pos from +ℤ pos (j * 2 ^ 64) ≡ pos base +ℤ offset +ℤ pos (k * 2 ^ 64) →
        pos from' +ℤ pos (j' * 2 ^ 64) ≡ pos base' +ℤ offset +ℤ pos (k' * 2 ^ 64) → from' % 16 ≡ from % 16
    both from from' tenth tenth' j k j' k' is is' one two = omega (arith, ints)

not_zero : (base offset : ℕ) → 16 ≤ base → base ≤ 2 ^ 47 → offset < 2 ^ 63 → nat_eq (wrapped (pos base +ℤ pos offset)) 0 ≡ false
not_zero base offset low high small = ne_eqb (wrapped (pos base +ℤ pos offset)) 0 (λ is. absurd (omega arith))

-- the base of a block of a memory
base_at : (memory : List Block) (number : ℕ) (block : Block) → IsMemory memory → slice_get memory number ≡ Some block → (block.base % 16 ≡ 0) × (16 ≤ block.base) × (block.base ≤ 2 ^ 47)
base_at memory number block is stands =
    let placed : is_placed block ≡ true = subst (λ (found : Block). is_placed found ≡ true) (get_or_from_slice_get memory number block block stands)
    (is.placed number block (slice_get_within memory number block stands)) in
    let first = and_parts (nat_eq (block.base % 16) 0) (nat_le 16 block.base && nat_le (block.base + extent block) (2 ^ 47)) placed in
    let second = and_parts (nat_le 16 block.base) (nat_le (block.base + extent block) (2 ^ 47)) first.1 in
    let ends : block.base + extent block ≤ 2 ^ 47 = leb-true (block.base + extent block) (2 ^ 47) second.1 in
    (eqb-true (block.base % 16) 0 first.0, leb-true 16 block.base second.0, omega arith)

base_found : (memory : List Block) (number : ℕ) (block : Block) → slice_get memory number ≡ Some block → option_map_or (λ (found : Block). found.base) (slice_get memory number) 0 ≡ block.base
base_found memory number block stands = ap (λ (found : Option Block). option_map_or (λ (found : Block). found.base) found 0) stands

pub lowest-alike : (there back : ℕ → ℕ) (paired : ℕ → Bool) (one other : List Block) → AreAlike there back paired one other → IsMemory one → IsMemory other →
    (word : Word) → WordNamesAmong paired word → address_number other (renumbered_word there word) % 16 ≡ address_number one word % 16
lowest-alike there back paired one other are is is' (Plain number) names = refl
lowest-alike there back paired one other are is is' (To block offset) names =
    let pair = are.pairs block names in
    let here = base_at one block pair.block is pair.stands in
    let here' = base_at other (there block) pair.block' is' pair.stands' in
    ap (λ (base : ℕ). wrapped (pos base +ℤ offset) % 16) (base_found other (there block) pair.block' pair.stands')
    ∙ lowest_same pair.block.base pair.block'.base offset here.0 here'.0
    ∙ ap (λ (base : ℕ). wrapped (pos base +ℤ offset) % 16) (sym (base_found one block pair.block pair.stands))

not_null_at : (memory : List Block) (number : ℕ) (block : Block) (offset : ℕ) → IsMemory memory → slice_get memory number ≡ Some block → offset < 2 ^ 63 →
    is_same_address memory (To number (pos offset)) (Plain 0) ≡ false
not_null_at memory number block offset is stands small =
    let here = base_at memory number block is stands in
    ap (λ (base : ℕ). nat_eq (wrapped (pos base +ℤ pos offset)) 0) (base_found memory number block stands) ∙ not_zero block.base offset here.1 here.2 small

pub not_null-alike : (there back : ℕ → ℕ) (paired : ℕ → Bool) (one other : List Block) → AreAlike there back paired one other → IsMemory one → IsMemory other →
    (block offset : ℕ) → paired block ≡ true → offset < 2 ^ 63 →
    (is_same_address one (To block (pos offset)) (Plain 0) ≡ false) × (is_same_address other (To (there block) (pos offset)) (Plain 0) ≡ false)
not_null-alike there back paired one other are is is' block offset inside small =
    let pair = are.pairs block inside in
    (not_null_at one block pair.block offset is pair.stands small, not_null_at other (there block) pair.block' offset is' pair.stands' small)
