-- What keeps a memory a memory where bytes are written, and what writes of nothing change.
use Rattle.std.proofs.Common.{◌≡◌, ℕ, nat_le, not, ◌||◌, ◌+◌, ◌<◌, ◌≤◌, List, [], ◌++◌, length, take, drop, set, get_or, ℤ, pos, negsuc, Option, None, Some, ◌⊎◌, inl, inr, refl, sym, ap, ◌∙◌, subst, arith}
use Rattle.std.proofs.Math.Nat.{add-zero}
use Rattle.std.proofs.lemmas.Bool.{cases_eq, and_parts, or_cases, or_left, or_right}
use Rattle.std.proofs.lemmas.List.{length-set, length_push, get_or_push, get_or_append_left, set-get_or, take-append-drop, get_or-set_same, get_or-set_other, get_or_default}
use Rattle.std.proofs.lemmas.List.Elements.{All-nil, All-append, All-set, All-take, All-drop, All-from_recursion}
use Rattle.std.proofs.lemmas.List.Sums.{AllPass-from_list_all}
use Rattle.std.proofs.lemmas.Option.{slice_get_read, slice_get_within, get_or_from_slice_get}
use Rattle.std.specs.Prelude.{Bool, true, false, ◌∷◌, if◌then◌else◌, IsTrue, IfSome, All, slice_get}
use Rattle.std.specs.List.{AllPairs, list_all}
use Rattle.bytes_core.specs.declared.byte.Byte.{Byte}
use Rattle.bytes_core.specs.declared.byte.Byte.TheVariants.{Num, Part}
use Rattle.bytes_core.specs.declared.word.Word.{Word}
use Rattle.bytes_core.specs.declared.word.Word.TheVariants.{Plain, To}
use Rattle.bytes_core.specs.declared.block.Block.{Block}
use Rattle.bytes_core.specs.Access.{overwritten, filled, written_at, with_bytes, block_bytes, bytes_at, loaded}
use Rattle.bytes_core.specs.Copying.{copied}
use Rattle.bytes_core.specs.Placement.{extent, is_placed, are_compatible, can_be_placed}
use Rattle.bytes_core.specs.Valid.{NamesBelow, WordNamesBelow, IsMemory}
use Rattle.bytes_core.specs.Value.{word_bytes, are_parts, number_read, pointer_read}
use Rattle.bytes_core.proofs.Written.{block_after, KeepsOtherBytes-overwritten}

-- a relation of each two items of a list holds still, where a new item has it to all to which the old one had it
AllPairs-set : {X : Type 0} (R : X → X → Type 0) (xs : List X) (number : ℕ) (old new : X) → number < length xs → old ≡ get_or xs number old →
    ((other : X) → R old other → R new other) → ((other : X) → R other old → R other new) → AllPairs R xs → AllPairs R (set xs number new)
AllPairs-set {X} R xs number old new inside is to from pairs i j d before below = by_cases (cases_eq i number) (cases_eq j number)
  where
    there : j < length xs
    there = omega (arith, length-set xs number new)

    at : (d : X) → get_or xs number d ≡ old
    at d = get_or_default xs number d old inside ∙ sym is

    by_cases : (i ≡ number) ⊎ (i ≡ number → ⊥) → (j ≡ number) ⊎ (j ≡ number → ⊥) → R (get_or (set xs number new) i d) (get_or (set xs number new) j d)
    by_cases (inl first) (inl second) = absurd (omega arith)
    by_cases (inl first) (inr second) =
        let old_pair : R old (get_or xs j d) = subst (λ (x : X). R x (get_or xs j d)) (ap (λ (n : ℕ). get_or xs n d) first ∙ at d) (pairs i j d before there) in
        rw (first, get_or-set_same xs number new d inside, get_or-set_other xs number j new d second) (to (get_or xs j d) old_pair)
    by_cases (inr first) (inl second) =
        let old_pair : R (get_or xs i d) old = subst (λ (x : X). R (get_or xs i d) x) (ap (λ (n : ℕ). get_or xs n d) second ∙ at d) (pairs i j d before there) in
        rw (second, get_or-set_same xs number new d inside, get_or-set_other xs number i new d first) (from (get_or xs i d) old_pair)
    by_cases (inr first) (inr second) =
        rw (get_or-set_other xs number i new d first, get_or-set_other xs number j new d second) (pairs i j d before there)

-- a memory where a block has become another, which lies where the old one lay
IsMemory-set : (memory : List Block) (number : ℕ) (old new : Block) → IsMemory memory → number < length memory → old ≡ get_or memory number old →
    IsTrue (is_placed new) → ((other : Block) → IsTrue (are_compatible old other) → IsTrue (are_compatible new other)) →
    ((other : Block) → IsTrue (are_compatible other old) → IsTrue (are_compatible other new)) → All (NamesBelow (length memory)) new.bytes →
    IsMemory (set memory number new)
IsMemory-set memory number old new valid inside is lies to from names = record {
  placed = All-set (λ (block : Block). IsTrue (is_placed block)) memory number new lies valid.placed;
  apart = AllPairs-set (λ (one other : Block). IsTrue (are_compatible one other)) memory number old new inside is to from valid.apart;
  named = subst (λ (count : ℕ). All (λ (block : Block). All (NamesBelow count) block.bytes) (set memory number new)) (sym (length-set memory number new))
      (All-set (λ (block : Block). All (NamesBelow (length memory)) block.bytes) memory number new names valid.named);
}

-- the block of a memory at a place, as it is read there
placed_at : (memory : List Block) (number : ℕ) (block : Block) → IsMemory memory → number < length memory → block ≡ get_or memory number block → IsTrue (is_placed block)
placed_at memory number block valid inside is =
    subst (λ (found : Block). IsTrue (is_placed found)) (sym is) (valid.placed number block inside)

names_at_block : (memory : List Block) (number : ℕ) (block : Block) → IsMemory memory → number < length memory → block ≡ get_or memory number block →
    All (NamesBelow (length memory)) block.bytes
names_at_block memory number block valid inside is =
    subst (λ (found : Block). All (NamesBelow (length memory)) found.bytes) (sym is) (valid.named number block inside)

-- a block of as many other bytes
pub IsMemory-bytes : (memory : List Block) (number : ℕ) (block : Block) (bytes : List Byte) → IsMemory memory → number < length memory → block ≡ get_or memory number block →
    length bytes ≡ length block.bytes → All (NamesBelow (length memory)) bytes → IsMemory (set memory number (record block { bytes = bytes }))
IsMemory-bytes memory number block bytes valid inside is same names =
    let lies : IsTrue (is_placed block) = placed_at memory number block valid inside is in
    IsMemory-set memory number block (record block { bytes = bytes }) valid inside is (rw same lies) (λ other apart. rw same apart) (λ other apart. rw same apart) names

-- a memory whose block has bytes written over its own
pub IsMemory-written : (memory : List Block) (number from : ℕ) (block : Block) (written : List Byte) → IsMemory memory → number < length memory → block ≡ get_or memory number block →
    from + length written ≤ length block.bytes → All (NamesBelow (length memory)) written → IsMemory (set memory number (block_after block from written))
IsMemory-written memory number from block written valid inside is room names =
    let old = names_at_block memory number block valid inside is in
    let P = NamesBelow (length memory) in
    IsMemory-bytes memory number block (overwritten block.bytes from written) valid inside is
    (KeepsOtherBytes-overwritten block from written room).size
    (All-append P (take from block.bytes) (written ++ drop (from + length written) block.bytes) (All-take P from block.bytes old)
    (All-append P written (drop (from + length written) block.bytes) names (All-drop P (from + length written) block.bytes old)))

-- the bytes of a word name no more than it does
pub names_of_word : (count size : ℕ) (word : Word) → WordNamesBelow count word → All (NamesBelow count) (take size (word_bytes word))
names_of_word count size word names = All-take (NamesBelow count) size (word_bytes word) (whole word names)
  where
    whole : (word : Word) → WordNamesBelow count word → All (NamesBelow count) (word_bytes word)
    whole (Plain number) named = All-from_recursion (NamesBelow count) (word_bytes (Plain number)) (tt, (tt, (tt, (tt, (tt, (tt, (tt, (tt, tt))))))))
    whole (To block offset) named =
        All-from_recursion (NamesBelow count) (word_bytes (To block offset))
        ((named, omega arith), ((named, omega arith), ((named, omega arith), ((named, omega arith), ((named, omega arith), ((named, omega arith), ((named, omega arith), ((named, omega arith), tt))))))))

-- the bytes of a block name blocks of its memory
names_in_block : (memory : List Block) (number : ℕ) (found : Option Block) (offset : ℤ) (count : ℕ) → IsMemory memory → slice_get memory number ≡ found →
    All (NamesBelow (length memory)) (block_bytes found offset count)
names_in_block memory number None offset count valid stands = All-nil (NamesBelow (length memory))
names_in_block memory number (Some block) (pos from) count valid stands =
    let P = NamesBelow (length memory) in
    let inside = slice_get_within memory number block stands in
    let names = names_at_block memory number block valid inside (sym (get_or_from_slice_get memory number block block stands)) in
    All-take P count (drop from block.bytes) (All-drop P from block.bytes names)
names_in_block memory number (Some block) (negsuc before) count valid stands = All-nil (NamesBelow (length memory))

-- what a word leads to names blocks of the memory
pub names_of_bytes : (memory : List Block) (at : Word) (count : ℕ) → IsMemory memory → All (NamesBelow (length memory)) (bytes_at memory at count)
names_of_bytes memory (Plain number) count valid = All-nil (NamesBelow (length memory))
names_of_bytes memory (To block offset) count valid = names_in_block memory block (slice_get memory block) offset count valid refl

-- a pointer that is read from bytes names a block that one of them names
names_of_read : (count : ℕ) (memory : List Block) (bytes : List Byte) → All (NamesBelow count) bytes → WordNamesBelow count (pointer_read memory bytes)
names_of_read count memory [] names = tt
names_of_read count memory (Num number ∷ rest) names = tt
names_of_read count memory (Part block offset k ∷ rest) names = by_test (are_parts block offset 0 (Part block offset k ∷ rest))
  where
    first : block < count
    first = (names 0 (Num 0) (omega arith)).0

    by_test : (whole : Bool) → WordNamesBelow count (if whole then To block offset else number_read memory (Part block offset k ∷ rest))
    by_test true = first
    by_test false = tt

-- a word that is loaded names a block of the memory, if it is a pointer
pub names_of_loaded : (memory : List Block) (at : Word) (size : ℕ) (pointer : Bool) → IsMemory memory → WordNamesBelow (length memory) (loaded memory at size pointer)
names_of_loaded memory at size true valid = names_of_read (length memory) memory (bytes_at memory at size) (names_of_bytes memory at size valid)
names_of_loaded memory at size false valid = tt

-- a write of nothing changes nothing
pub written_nothing : (memory : List Block) (at : Word) → written_at memory at [] ≡ memory
written_nothing memory (Plain number) = refl
written_nothing memory (To number (pos from)) = at_block memory number (slice_get memory number) refl
  where
    at_block : (memory : List Block) (number : ℕ) (found : Option Block) → slice_get memory number ≡ found → with_bytes memory number found from [] ≡ memory
    at_block memory number None stands = refl
    at_block memory number (Some block) stands =
        let same : take from block.bytes ++ drop (from + 0) block.bytes ≡ block.bytes = rw add-zero (take-append-drop from block.bytes) in
        ap (λ (bytes : List Byte). set memory number (record block { bytes = bytes })) same
        ∙ ap (set memory number) (sym (get_or_from_slice_get memory number block block stands))
        ∙ set-get_or memory number block
written_nothing memory (To number (negsuc before)) = refl

-- a fill of nothing changes nothing
pub filled_nothing : (memory : List Block) (at : Word) (number count : ℕ) → count ≡ 0 → filled memory at number count ≡ memory
filled_nothing memory at number count none = ap (λ (n : ℕ). filled memory at number n) none ∙ written_nothing memory at

-- the room that an access was seen to have, in the block as it is read
pub room_there : (memory : List Block) (number from count : ℕ) (block : Block) → IfSome (slice_get memory number) (λ found. from + count ≤ length found.bytes) →
    number < length memory → block ≡ get_or memory number block → from + count ≤ length block.bytes
room_there memory number from count block room inside is =
    rw (slice_get_read memory (length memory) number block refl inside is) at room

-- a copy of nothing changes nothing
pub copied_nothing : (memory : List Block) (to from : Word) (count : ℕ) → count ≡ 0 → copied memory to from count ≡ memory
copied_nothing memory to from count none = ap (copied memory to from) none ∙ ap (written_at memory to) (no_bytes from) ∙ written_nothing memory to
  where
    in_block : (found : Option Block) (offset : ℤ) → block_bytes found offset 0 ≡ []
    in_block None offset = refl
    in_block (Some block) (pos n) = refl
    in_block (Some block) (negsuc n) = refl

    no_bytes : (at : Word) → bytes_at memory at 0 ≡ []
    no_bytes (Plain number) = refl
    no_bytes (To block offset) = in_block (slice_get memory block) offset

wider : (count : ℕ) (byte : Byte) → NamesBelow count byte → NamesBelow (count + 1) byte
wider count (Num number) names = tt
wider count (Part block offset k) names = (omega (arith, names.0), names.1)

-- whether two blocks may stand in one memory does not depend on their order
pub compatible_back : (p q a b : Bool) → (not p || (not q || (a || b))) ≡ true → (not q || (not p || (b || a))) ≡ true
compatible_back false false a b is = refl
compatible_back false true a b is = refl
compatible_back true false a b is = refl
compatible_back true true a b is = at (or_cases a b is)
  where
    at : (a ≡ true) ⊎ (b ≡ true) → (b || a) ≡ true
    at (inl one) = or_right b a one
    at (inr other) = or_left b a other

-- a memory with one more block, where it can be placed and its parts of pointers name blocks of the memory, or it
pub IsMemory-placed : (memory : List Block) (block : Block) → IsMemory memory → IsTrue (can_be_placed memory block) → All (NamesBelow (length memory + 1)) block.bytes →
    IsMemory (memory ++ block ∷ [])
IsMemory-placed memory block valid lies names = record {
  placed = All-append (λ (one : Block). IsTrue (is_placed one)) memory (block ∷ []) valid.placed
      (All-from_recursion (λ (one : Block). IsTrue (is_placed one)) (block ∷ []) (tests.0, tt));
  apart = λ i j d before below. pair_at i j d before below (cases_eq j (length memory));
  named = subst (λ (count : ℕ). All (λ (one : Block). All (NamesBelow count) one.bytes) (memory ++ block ∷ [])) (sym (length_push memory block))
      (All-append (λ (one : Block). All (NamesBelow (length memory + 1)) one.bytes) memory (block ∷ [])
      (λ k d below. λ at byte inside. wider (length memory) (get_or (get_or memory k d).bytes at byte) (valid.named k d below at byte inside))
      (All-from_recursion (λ (one : Block). All (NamesBelow (length memory + 1)) one.bytes) (block ∷ []) (names, tt)));
}
  where
    tests : (is_placed block ≡ true) × (list_all (are_compatible block) memory ≡ true)
    tests = and_parts (is_placed block) (list_all (are_compatible block) memory) lies

    backward : (other : Block) → are_compatible block other ≡ true → are_compatible other block ≡ true
    backward other is = compatible_back block.live other.live (nat_le (block.base + extent block) other.base) (nat_le (other.base + extent other) block.base) is

    pair_at : (i j : ℕ) (d : Block) → i < j → j < length (memory ++ block ∷ []) → (j ≡ length memory) ⊎ (j ≡ length memory → ⊥) →
        IsTrue (are_compatible (get_or (memory ++ block ∷ []) i d) (get_or (memory ++ block ∷ []) j d))
    pair_at i j d before below (inl last) =
        let inside : i < length memory = omega arith in
        let each = AllPass-from_list_all (are_compatible block) memory tests.1 in
        rw (get_or_push memory block d j (sym last), get_or_append_left memory (block ∷ []) d i inside)
        (backward (get_or memory i d) (each i d inside))
    pair_at i j d before below (inr differ) =
        let inside : j < length memory = omega (arith, length_push memory block) in
        let first : i < length memory = omega arith in
        rw (get_or_append_left memory (block ∷ []) d i first, get_or_append_left memory (block ∷ []) d j inside) (valid.apart i j d before inside)
