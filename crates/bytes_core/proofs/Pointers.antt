-- A pointer is read, and held, just where its eight parts stand in order.
use Rattle.std.proofs.Common.{◌≡◌, ℕ, zero, suc, ◌+◌, Bool, true, false, ◌&&◌, List, [], ◌∷◌, ◌++◌, take, drop, ℤ, nat_eq, ◌⊎◌, inl, inr, refl, sym, ap, ◌∙◌, arith}
use Rattle.std.proofs.lemmas.Bool.{or_right, or_cases, and_parts, eqb-true, eq-eqb, false≢true}
use Rattle.std.proofs.lemmas.Bool.Decides.{Decides-int_eq}
use Rattle.std.proofs.lemmas.List.{take-append-drop}
use Rattle.std.specs.Ordering.{int_eq}
use Rattle.std.specs.Prelude.{if◌then◌else◌, IsTrue, ◌↔◌}
use Rattle.bytes_core.specs.declared.byte.Byte.{Byte}
use Rattle.bytes_core.specs.declared.byte.Byte.TheVariants.{Num, Part}
use Rattle.bytes_core.specs.declared.word.Word.TheVariants.{Plain, To}
use Rattle.bytes_core.specs.declared.block.Block.{Block}
use Rattle.bytes_core.specs.Value.{word_bytes, are_parts, number_of, number_read, pointer_read}
use Rattle.bytes_core.specs.Loss.{holds_pointer_to}
use Rattle.bytes_core.specs.Laws.{HoldsPointer}

-- so many parts of a pointer, in order from `k` on
abbrev pub parts_from : ℕ → ℤ → ℕ → ℕ → List Byte
parts_from block offset k zero = []
parts_from block offset k (suc count) = Part block offset k ∷ parts_from block offset (k + 1) count

-- the bytes that the test passes at
record ArePartsFrom (block : ℕ) (offset : ℤ) (k : ℕ) (bytes : List Byte) : Type 0 where
  count : ℕ
  last : k + count ≡ 8
  is : bytes ≡ parts_from block offset k count

ArePartsFrom-are_parts : (block : ℕ) (offset : ℤ) (k : ℕ) (bytes : List Byte) → are_parts block offset k bytes ≡ true → ArePartsFrom block offset k bytes
ArePartsFrom-are_parts block offset k [] passes = record { count = 0; last = let e = eqb-true k 8 passes in omega arith; is = refl }
ArePartsFrom-are_parts block offset k (Num number ∷ rest) passes = absurd (false≢true passes)
ArePartsFrom-are_parts block offset k (Part block' offset' k' ∷ rest) passes =
    let later = are_parts block offset (k + 1) rest in
    let one = and_parts (nat_eq block' block) (int_eq offset' offset && (nat_eq k' k && later)) passes in
    let two = and_parts (int_eq offset' offset) (nat_eq k' k && later) one.1 in
    let three = and_parts (nat_eq k' k) later two.1 in
    let others = ArePartsFrom-are_parts block offset (k + 1) rest three.1 in
    let same_block : block' ≡ block = eqb-true block' block one.0 in
    let same_offset : offset' ≡ offset = (Decides-int_eq offset' offset).0 two.0 in
    let same_k : k' ≡ k = eqb-true k' k three.0 in
    let rest_is : rest ≡ parts_from block offset (k + 1) others.count = others.is in
    record {
      count = suc others.count;
      last = let e = others.last in omega arith;
      is = cc;
    }

-- all eight from the first are the bytes of the pointer
word_bytes-are_parts : (block : ℕ) (offset : ℤ) (bytes : List Byte) → are_parts block offset 0 bytes ≡ true → bytes ≡ word_bytes (To block offset)
word_bytes-are_parts block offset bytes passes =
    let parts = ArePartsFrom-are_parts block offset 0 bytes passes in
    let eight : parts.count ≡ 8 = let e = parts.last in omega arith in
    parts.is ∙ ap (parts_from block offset 0) eight

are_parts-word_bytes : (block : ℕ) (offset : ℤ) → are_parts block offset 0 (word_bytes (To block offset)) ≡ true
are_parts-word_bytes block offset = rw (eq-eqb block block refl, (Decides-int_eq offset offset).1 refl) refl

plain_is_no_pointer : (number block : ℕ) (offset : ℤ) → Plain number ≡ To block offset → ⊥
plain_is_no_pointer number block offset same = cc

word_bytes-pointer_read : (memory : List Block) (bytes : List Byte) (block : ℕ) (offset : ℤ) → pointer_read memory bytes ≡ To block offset → bytes ≡ word_bytes (To block offset)
word_bytes-pointer_read memory [] block offset is = absurd (plain_is_no_pointer (number_of memory []) block offset is)
word_bytes-pointer_read memory (Num number ∷ rest) block offset is = absurd (plain_is_no_pointer (number_of memory (Num number ∷ rest)) block offset is)
word_bytes-pointer_read memory (Part block' offset' k ∷ rest) block offset is = by_cases (are_parts block' offset' 0 (Part block' offset' k ∷ rest)) refl is
  where
    by_cases : (whole : Bool) → are_parts block' offset' 0 (Part block' offset' k ∷ rest) ≡ whole →
        (if whole then To block' offset' else number_read memory (Part block' offset' k ∷ rest)) ≡ To block offset → Part block' offset' k ∷ rest ≡ word_bytes (To block offset)
    by_cases true passes same = word_bytes-are_parts block' offset' (Part block' offset' k ∷ rest) passes ∙ ap word_bytes same
    by_cases false passes same = absurd (plain_is_no_pointer (number_of memory (Part block' offset' k ∷ rest)) block offset same)

-- a pointer is read just from its eight parts in order
pub pointer_read_whole : (memory : List Block) (bytes : List Byte) (block : ℕ) (offset : ℤ) → (pointer_read memory bytes ≡ To block offset) ↔ (bytes ≡ word_bytes (To block offset))
pointer_read_whole memory bytes block offset =
    (word_bytes-pointer_read memory bytes block offset, λ is. ap (pointer_read memory) is ∙ rw (are_parts-word_bytes block offset) refl)

-- a pointer held further on is held
HoldsPointer-more : (target : ℕ) (byte : Byte) (bytes : List Byte) → HoldsPointer target bytes → HoldsPointer target (byte ∷ bytes)
HoldsPointer-more target byte bytes held = record {
  front = byte ∷ held.front;
  offset = held.offset;
  rest = held.rest;
  is = ap (λ (others : List Byte). byte ∷ others) held.is;
}

HoldsPointer-here : (target block : ℕ) (offset : ℤ) (bytes : List Byte) → (nat_eq block target && are_parts block offset 0 (take 8 bytes)) ≡ true → HoldsPointer target bytes
HoldsPointer-here target block offset bytes passes =
    let tests = and_parts (nat_eq block target) (are_parts block offset 0 (take 8 bytes)) passes in
    let whole : take 8 bytes ≡ word_bytes (To target offset) =
    word_bytes-are_parts block offset (take 8 bytes) tests.1 ∙ ap (λ (number : ℕ). word_bytes (To number offset)) (eqb-true block target tests.0) in
    record {
      front = [];
      offset = offset;
      rest = drop 8 bytes;
      is = sym (take-append-drop 8 bytes) ∙ ap (λ (first : List Byte). first ++ drop 8 bytes) whole;
    }

HoldsPointer-holds : (target : ℕ) (bytes : List Byte) → holds_pointer_to target bytes ≡ true → HoldsPointer target bytes
HoldsPointer-holds target [] holds = absurd (false≢true holds)
HoldsPointer-holds target (Num number ∷ rest) holds = HoldsPointer-more target (Num number) rest (HoldsPointer-holds target rest holds)
HoldsPointer-holds target (Part block offset k ∷ rest) holds =
    by_cases (or_cases (nat_eq block target && are_parts block offset 0 (take 8 (Part block offset k ∷ rest))) (holds_pointer_to target rest) holds)
    (λ later. HoldsPointer-holds target rest later)
  where
    by_cases : ((nat_eq block target && are_parts block offset 0 (take 8 (Part block offset k ∷ rest))) ≡ true) ⊎ (holds_pointer_to target rest ≡ true) →
        (holds_pointer_to target rest ≡ true → HoldsPointer target rest) → HoldsPointer target (Part block offset k ∷ rest)
    by_cases (inl here) others = HoldsPointer-here target block offset (Part block offset k ∷ rest) here
    by_cases (inr later) others = HoldsPointer-more target (Part block offset k) rest (others later)

holds_pointer_to-front : (target : ℕ) (front : List Byte) (offset : ℤ) (rest : List Byte) → holds_pointer_to target (front ++ (word_bytes (To target offset) ++ rest)) ≡ true
holds_pointer_to-front target [] offset rest = rw (eq-eqb target target refl, (Decides-int_eq offset offset).1 refl) refl
holds_pointer_to-front target (Num number ∷ front) offset rest = holds_pointer_to-front target front offset rest
holds_pointer_to-front target (Part block offset' k ∷ front) offset rest =
    let others = front ++ (word_bytes (To target offset) ++ rest) in
    or_right (nat_eq block target && are_parts block offset' 0 (take 8 (Part block offset' k ∷ others))) (holds_pointer_to target others)
    (holds_pointer_to-front target front offset rest)

-- bytes hold a pointer just where its eight parts stand among them in order
pub pointer_held_whole : (target : ℕ) (bytes : List Byte) → IsTrue (holds_pointer_to target bytes) ↔ HoldsPointer target bytes
pointer_held_whole target bytes =
    (HoldsPointer-holds target bytes, λ held. ap (holds_pointer_to target) held.is ∙ holds_pointer_to-front target held.front held.offset held.rest)
