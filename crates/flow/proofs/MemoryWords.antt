-- Memories that grow, and keep what holds of them.
use Rattle.std.proofs.Common.{◌≡◌, ℕ, suc, ◌+◌, ◌-◌, ◌^◌, ◌<◌, ◌≤◌, List, [], ◌∷◌, ◌++◌, map, length, take, drop, get_or, Bool, true, false, refl, sym, ap, subst, ◌∙◌, ◌⊎◌, inl, inr, Option, None, Some, arith}
use Rattle.std.specs.Prelude.{ℤ, pos, negsuc, ◌+ℤ◌, ◌&&◌, if◌then◌else◌, nat_eq, nat_lt, slice_get, slice_set, IsTrue, All}
use Rattle.std.specs.List.{list_all}
use Rattle.std.specs.Int.{w64, cast_signed, to_le_bytes}
use Rattle.std.proofs.lemmas.Bool.{cases_eq, and_parts, eqb-true, ltb-true, ltb-false}
use Rattle.std.proofs.lemmas.List.{length-set, length_push, length-map, get_or-set_same, get_or-set_other, get_or_append_left, get_or_push}
use Rattle.std.proofs.lemmas.List.Elements.{All-nil, All-cons, All-append, All-take, All-drop, All-set, All-push}
use Rattle.std.proofs.lemmas.Option.{slice_get_within, slice_get_read, get_or_from_slice_get, same_Some}
use mir.Val.{sel}
use Rattle.bytes_core.specs.declared.byte.Byte.{Byte}
use Rattle.bytes_core.specs.declared.byte.Byte.TheVariants.{Num, Part}
use Rattle.bytes_core.specs.declared.word.Word.{Word}
use Rattle.bytes_core.specs.declared.word.Word.TheVariants.{Plain, To}
use Rattle.bytes_core.specs.declared.block.BlockKind.{BlockKind}
use Rattle.bytes_core.specs.declared.block.Block.{Block}
use Rattle.bytes_core.specs.Access.{overwritten, written_at, with_bytes, bytes_at, block_bytes, loaded}
use Rattle.bytes_core.specs.Laws.{LeadsTo}
use Rattle.bytes_core.specs.Placement.{is_placed, are_compatible, new_block, is_new_block, can_be_placed, placed}
use Rattle.bytes_core.specs.Release.{without}
use Rattle.bytes_core.specs.Valid.{NamesBelow, WordNamesBelow, IsMemory}
use Rattle.bytes_core.specs.Value.{word_bytes, wrapped, moved, are_parts, pointer_read, number_read}
use Rattle.bytes_core.proofs.Written.{block_after, slice_get-set_same, slice_get-set_other, KeepsOtherBytes-overwritten}
use Rattle.bytes_core.proofs.Kept.{IsMemory-written, IsMemory-placed, names_of_loaded}
use Rattle.flow.specs.Memories.{IsOffset, LeadsBelow, HasOffset}
use Rattle.flow.proofs.Ascending.{All-at}

-- a memory with all blocks of another, of the same sizes
pub record IsLarger (old new : List Block) : Type 0 where
  pub blocks : length old ≤ length new
  pub sizes : (number : ℕ) (block : Block) → slice_get old number ≡ Some block →
      (after : Block) × (slice_get new number ≡ Some after) × (length after.bytes ≡ length block.bytes)

pub larger_same : (memory : List Block) → IsLarger memory memory
larger_same memory = record { blocks = omega arith; sizes = λ number block stands. (block, stands, refl) }

pub larger_then : (one two three : List Block) → IsLarger one two → IsLarger two three → IsLarger one three
larger_then one two three first second = record {
  blocks = omega (arith, first.blocks, second.blocks);
  sizes = λ number block stands.
      let middle = first.sizes number block stands in
      let last = second.sizes number middle.0 middle.1 in
      (last.0, last.1, last.2 ∙ middle.2);
}

larger_set : (memory : List Block) (number : ℕ) (old new : Block) → slice_get memory number ≡ Some old → length new.bytes ≡ length old.bytes → IsLarger memory (slice_set memory number new)
larger_set memory number old new stands same = record {
  blocks = omega (arith, length-set memory number new);
  sizes = λ other block there. by_place other block there (cases_eq other number);
}
  where
    by_place : (other : ℕ) (block : Block) → slice_get memory other ≡ Some block → (other ≡ number) ⊎ (other ≡ number → ⊥) →
        (after : Block) × (slice_get (slice_set memory number new) other ≡ Some after) × (length after.bytes ≡ length block.bytes)
    by_place other block there (inl here) =
        let is : old ≡ block = same_Some old block (sym stands ∙ (ap (slice_get memory) (sym here) ∙ there)) in
        (new, ap (slice_get (slice_set memory number new)) here ∙ slice_get-set_same memory number old new stands, same ∙ ap (λ (b : Block). length b.bytes) is)
    by_place other block there (inr differs) = (block, slice_get-set_other memory number other new differs ∙ there, refl)

-- a memory whose parts of addresses have offsets of 64 bits
pub record IsRight (memory : List Block) : Type 0 where
  pub valid : IsMemory memory
  pub offsets : All (λ block. All HasOffset block.bytes) memory

-- what a memory becomes
pub record Became (old new : List Block) : Type 0 where
  pub right : IsRight new
  pub larger : IsLarger old new

pub became_same : (memory : List Block) → IsRight memory → Became memory memory
became_same memory right = record { right = right; larger = larger_same memory }

pub became_then : (one two three : List Block) → Became one two → Became two three → Became one three
became_then one two three first second = record { right = second.right; larger = larger_then one two three first.larger second.larger }

-- an address leads to so many bytes of a block, which need not live
pub record Reaches (memory : List Block) (at : Word) (count : ℕ) : Type 0 where
  pub number : ℕ
  pub from : ℕ
  pub block : Block
  pub is : at ≡ To number (pos from)
  pub stands : slice_get memory number ≡ Some block
  pub room : from + count ≤ length block.bytes

pub reached : (memory : List Block) (at : Word) (count : ℕ) → LeadsTo memory at count → Reaches memory at count
reached memory at count leads = record { number = leads.number; from = leads.from; block = leads.block; is = leads.is; stands = leads.stands; room = leads.room }

-- bytes are written where an address leads
pub written_right : (memory : List Block) (at : Word) (written : List Byte) → IsRight memory → Reaches memory at (length written) → All (NamesBelow (length memory)) written →
    All HasOffset written → Became memory (written_at memory at written)
written_right memory at written right leads names offsets =
    subst (λ (at : Word). Became memory (written_at memory at written)) (sym leads.is)
    (subst (λ (found : Option Block). Became memory (with_bytes memory leads.number found leads.from written)) (sym leads.stands) (record {
      right = record {
        valid = IsMemory-written memory leads.number leads.from leads.block written right.valid within (sym (get_or_from_slice_get memory leads.number leads.block leads.block leads.stands)) leads.room names;
        offsets = All-set (λ block. All HasOffset block.bytes) memory leads.number (block_after leads.block leads.from written) changed right.offsets;
      };
      larger = larger_set memory leads.number leads.block (block_after leads.block leads.from written) leads.stands
          (KeepsOtherBytes-overwritten leads.block leads.from written leads.room).size;
    }))
  where
    within : leads.number < length memory
    within = slice_get_within memory leads.number leads.block leads.stands

    there : All HasOffset leads.block.bytes
    there = All-at (λ block. All HasOffset block.bytes) memory leads.number leads.block leads.stands right.offsets

    changed : All HasOffset (overwritten leads.block.bytes leads.from written)
    changed = All-append HasOffset (take leads.from leads.block.bytes) (written ++ drop (leads.from + length written) leads.block.bytes)
        (All-take HasOffset leads.from leads.block.bytes there)
        (All-append HasOffset written (drop (leads.from + length written) leads.block.bytes) offsets
        (All-drop HasOffset (leads.from + length written) leads.block.bytes there))

-- a block dies
dead_apart : (one other : Block) → are_compatible (record one { live = false }) other ≡ true
dead_apart one other = refl

apart_dead : (one other : Block) (live : Bool) → one.live ≡ live → are_compatible one (record other { live = false }) ≡ true
apart_dead one other true is = rw is refl
apart_dead one other false is = rw is refl

dead_valid : (memory : List Block) (number : ℕ) (block : Block) → slice_get memory number ≡ Some block → IsMemory memory →
    IsMemory (slice_set memory number (record block { live = false }))
dead_valid memory number block stands valid = record {
  placed = All-set (λ one. IsTrue (is_placed one)) memory number dead (All-at (λ one. IsTrue (is_placed one)) memory number block stands valid.placed) valid.placed;
  apart = λ i j d before below. pair i j d before below (cases_eq i number) (cases_eq j number);
  named = subst (λ (count : ℕ). All (λ one. All (NamesBelow count) one.bytes) (slice_set memory number dead)) (sym (length-set memory number dead))
      (All-set (λ one. All (NamesBelow (length memory)) one.bytes) memory number dead
      (All-at (λ one. All (NamesBelow (length memory)) one.bytes) memory number block stands valid.named) valid.named);
}
  where
    dead : Block
    dead = record block { live = false }

    inside : number < length memory
    inside = slice_get_within memory number block stands

    pair : (i j : ℕ) (d : Block) → i < j → j < length (slice_set memory number (record block { live = false })) → (i ≡ number) ⊎ (i ≡ number → ⊥) → (j ≡ number) ⊎ (j ≡ number → ⊥) →
        IsTrue (are_compatible (get_or (slice_set memory number (record block { live = false })) i d) (get_or (slice_set memory number (record block { live = false })) j d))
    pair i j d before below (inl here) other =
        subst (λ (x : Block). IsTrue (are_compatible x (get_or (slice_set memory number (record block { live = false })) j d)))
        (sym (ap (λ (n : ℕ). get_or (slice_set memory number (record block { live = false })) n d) here ∙ get_or-set_same memory number (record block { live = false }) d inside)) refl
    pair i j d before below (inr one) (inl here) =
        subst (λ (x : Block). IsTrue (are_compatible (get_or (slice_set memory number (record block { live = false })) i d) x))
        (sym (ap (λ (n : ℕ). get_or (slice_set memory number (record block { live = false })) n d) here ∙ get_or-set_same memory number (record block { live = false }) d inside))
        (apart_dead (get_or (slice_set memory number (record block { live = false })) i d) block _ refl)
    pair i j d before below (inr one) (inr other) =
        rw (get_or-set_other memory number i (record block { live = false }) d one, get_or-set_other memory number j (record block { live = false }) d other)
        (valid.apart i j d before (omega (arith, length-set memory number (record block { live = false }))))

pub without_right : (memory : List Block) (number : ℕ) → IsRight memory → Became memory (without memory number (slice_get memory number))
without_right memory number right = by_block (slice_get memory number) refl
  where
    by_block : (found : Option Block) → slice_get memory number ≡ found → Became memory (without memory number found)
    by_block None stands = became_same memory right
    by_block (Some block) stands = record {
      right = record {
        valid = dead_valid memory number block stands right.valid;
        offsets = All-set (λ one. All HasOffset one.bytes) memory number (record block { live = false })
            (All-at (λ one. All HasOffset one.bytes) memory number block stands right.offsets) right.offsets;
      };
      larger = larger_set memory number block (record block { live = false }) stands refl;
    }

-- a block is made
pub record IsMade (memory : List Block) (kind : BlockKind) (size base : ℕ) (contents : List ℕ) : Type 0 where
  pub became : Became memory (placed memory (new_block kind base contents))
  pub stands : slice_get (placed memory (new_block kind base contents)) (length memory) ≡ Some (new_block kind base contents)
  pub size_is : length (new_block kind base contents).bytes ≡ size

numbers_name : (count : ℕ) (contents : List ℕ) → All (NamesBelow count) (map Num contents)
numbers_name count [] = All-nil (NamesBelow count)
numbers_name count (first ∷ rest) = All-cons (NamesBelow count) (Num first) (map Num rest) tt (numbers_name count rest)

numbers_offset : (contents : List ℕ) → All HasOffset (map Num contents)
numbers_offset [] = All-nil HasOffset
numbers_offset (first ∷ rest) = All-cons HasOffset (Num first) (map Num rest) tt (numbers_offset rest)

pub block_made : (memory : List Block) (kind : BlockKind) (size base : ℕ) (contents : List ℕ) → IsRight memory → is_new_block memory kind size base contents ≡ true →
    IsMade memory kind size base contents
block_made memory kind size base contents right new = record {
  became = record {
    right = record {
      valid = IsMemory-placed memory made right.valid rest.1 (numbers_name (length memory + 1) contents);
      offsets = All-push (λ block. All HasOffset block.bytes) memory made right.offsets (numbers_offset contents);
    };
    larger = record {
      blocks = omega (arith, length_push memory made);
      sizes = λ number block stands.
          let below : number < length memory = slice_get_within memory number block stands in (
            block,
            slice_get_read (placed memory made) (length (placed memory made)) number block refl (omega (arith, length_push memory made))
                (sym (get_or_append_left memory (made ∷ []) block number below ∙ get_or_from_slice_get memory number block block stands)),
            refl,
          );
    };
  };
  stands = slice_get_read (placed memory made) (length (placed memory made)) (length memory) made refl (omega (arith, length_push memory made)) (sym (get_or_push memory made made (length memory) refl));
  size_is = length-map contents Num ∙ eqb-true (length contents) size parts.0;
}
  where
    made : Block
    made = new_block kind base contents

    parts : (nat_eq (length contents) size ≡ true) × ((list_all (λ byte. nat_lt byte 256) contents && can_be_placed memory (new_block kind base contents)) ≡ true)
    parts = and_parts (nat_eq (length contents) size) (list_all (λ byte. nat_lt byte 256) contents && can_be_placed memory (new_block kind base contents)) new

    rest : (list_all (λ byte. nat_lt byte 256) contents ≡ true) × (can_be_placed memory (new_block kind base contents) ≡ true)
    rest = and_parts (list_all (λ byte. nat_lt byte 256) contents) (can_be_placed memory (new_block kind base contents)) parts.1

-- offsets
signed_offset : (number : ℕ) → number < 2 ^ 64 → IsOffset (cast_signed w64 number)
signed_offset number small = by_test (nat_lt number (2 ^ 63)) refl
  where
    by_test : (test : Bool) → nat_lt number (2 ^ 63) ≡ test → IsOffset (sel test (pos number) (negsuc (2 ^ 64 - suc number)))
    by_test true is = ltb-true number (2 ^ 63) is
    by_test false is = let high : 2 ^ 63 ≤ number = ltb-false number (2 ^ 63) is in omega arith

wrapped_small : (whole : ℤ) → wrapped whole < 2 ^ 64
wrapped_small (pos number) = omega arith
wrapped_small (negsuc before) = omega arith

pub moved_leads : (count : ℕ) (word : Word) (by : ℤ) → LeadsBelow count word → LeadsBelow count (moved word by)
moved_leads count (Plain number) by leads = tt
moved_leads count (To block offset) by leads = (leads.0, signed_offset (wrapped (offset +ℤ by)) (wrapped_small (offset +ℤ by)))

-- the offset of an address
offset_of : Word → ℤ
offset_of (Plain number) = pos 0
offset_of (To block offset) = offset

same_offset : (one other : ℕ) (offset offset' : ℤ) → To one offset ≡ To other offset' → offset ≡ offset'
unfolding offset_of
same_offset one other offset offset' is = ap offset_of is

-- an address that is read has the offset of its first part
read_offset : (memory : List Block) (bytes : List Byte) → All HasOffset bytes → (block : ℕ) (offset : ℤ) → pointer_read memory bytes ≡ To block offset → IsOffset offset
read_offset memory [] all block offset is = absurd (cc)
read_offset memory (Num number ∷ rest) all block offset is = absurd (cc)
read_offset memory (Part block' offset' k ∷ rest) all block offset is = by_test (are_parts block' offset' 0 (Part block' offset' k ∷ rest)) is
  where
    by_test : (test : Bool) → (if test then To block' offset' else number_read memory (Part block' offset' k ∷ rest)) ≡ To block offset → IsOffset offset
    by_test true is = subst IsOffset (same_offset block' block offset' offset is) (all 0 (Part block' offset' k) (omega arith))
    by_test false is = absurd (cc)

bytes_offset : (memory : List Block) (at : Word) (count : ℕ) → All (λ block. All HasOffset block.bytes) memory → All HasOffset (bytes_at memory at count)
bytes_offset memory (Plain number) count all = All-nil HasOffset
bytes_offset memory (To block offset) count all = by_block (slice_get memory block) refl offset
  where
    by_block : (found : Option Block) → slice_get memory block ≡ found → (offset : ℤ) → All HasOffset (block_bytes found offset count)
    by_block None stands offset = All-nil HasOffset
    by_block (Some one) stands (negsuc before) = All-nil HasOffset
    by_block (Some one) stands (pos from) =
        All-take HasOffset count (drop from one.bytes) (All-drop HasOffset from one.bytes (All-at (λ block. All HasOffset block.bytes) memory block one stands all))

pub loaded_leads : (memory : List Block) (at : Word) (size : ℕ) (pointer : Bool) → IsRight memory → LeadsBelow (length memory) (loaded memory at size pointer)
loaded_leads memory at size pointer right = by_word (loaded memory at size pointer) refl
  where
    by_kind : (pointer : Bool) (block : ℕ) (offset : ℤ) → loaded memory at size pointer ≡ To block offset → IsOffset offset
    by_kind true block offset is = read_offset memory (bytes_at memory at size) (bytes_offset memory at size right.offsets) block offset is
    by_kind false block offset is = absurd (cc)

    by_word : (word : Word) → loaded memory at size pointer ≡ word → LeadsBelow (length memory) word
    by_word (Plain number) is = tt
    by_word (To block offset) is =
        (subst (WordNamesBelow (length memory)) is (names_of_loaded memory at size pointer right.valid), by_kind pointer block offset is)

pub bytes_keep_offsets : (memory : List Block) (at : Word) (count : ℕ) → IsRight memory → All HasOffset (bytes_at memory at count)
bytes_keep_offsets memory at count right = bytes_offset memory at count right.offsets

pub word_offsets : (count size : ℕ) (word : Word) → LeadsBelow count word → All HasOffset (take size (word_bytes word))
word_offsets count size word leads = All-take HasOffset size (word_bytes word) (by_word word leads)
  where
    parts : (block : ℕ) (offset : ℤ) (places : List ℕ) → IsOffset offset → All HasOffset (map (Part block offset) places)
    parts block offset [] small = All-nil HasOffset
    parts block offset (first ∷ rest) small = All-cons HasOffset (Part block offset first) (map (Part block offset) rest) small (parts block offset rest small)

    nums : (numbers : List ℕ) → All HasOffset (map Num numbers)
    nums numbers = numbers_offset numbers

    by_word : (word : Word) → LeadsBelow count word → All HasOffset (word_bytes word)
    by_word (Plain number) leads = nums (to_le_bytes w64 number)
    by_word (To block offset) leads = parts block offset (0 ∷ 1 ∷ 2 ∷ 3 ∷ 4 ∷ 5 ∷ 6 ∷ 7 ∷ []) leads.1

pub word_names : (count : ℕ) (word : Word) → LeadsBelow count word → WordNamesBelow count word
word_names count (Plain number) leads = tt
word_names count (To block offset) leads = leads.0

pub leads_more : (count more : ℕ) (word : Word) → count ≤ more → LeadsBelow count word → LeadsBelow more word
leads_more count more (Plain number) less leads = tt
leads_more count more (To block offset) less leads = (omega (arith, leads.0), leads.1)
