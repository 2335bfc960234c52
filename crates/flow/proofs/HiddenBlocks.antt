-- Memories with some blocks hidden.
use Rattle.std.proofs.Common.{◌≡◌, ℕ, zero, suc, List, [], ◌∷◌, map, length, take, replicate, Bool, true, false, refl, sym, ap, subst, ◌∙◌, Option, None, Some}
use Rattle.std.specs.Prelude.{ℤ, pos, negsuc, ◌+ℤ◌, ◌&&◌, ◌||◌, not, if◌then◌else◌, nat_eq, nat_lt, slice_get, slice_set}
use Rattle.std.specs.Int.{w64, from_le_bytes}
use Rattle.std.specs.List.{list_all}
use Rattle.std.specs.Option.{option_map, option_map_or}
use Rattle.std.proofs.lemmas.Bool.{and_parts, and_from}
use Rattle.bytes_core.specs.declared.byte.Byte.{Byte}
use Rattle.bytes_core.specs.declared.byte.Byte.TheVariants.{Num, Part}
use Rattle.bytes_core.specs.declared.word.Word.{Word}
use Rattle.bytes_core.specs.declared.word.Word.TheVariants.{Plain, To}
use Rattle.bytes_core.specs.declared.block.BlockKind.{BlockKind}
use Rattle.bytes_core.specs.declared.block.Block.{Block}
use Rattle.bytes_core.specs.Fault.{overlapping_copy}
use Rattle.bytes_core.specs.Value.{word_bytes, wrapped, address_in, address_number, byte_number, byte_of, number_of, are_parts, number_read, pointer_read}
use Rattle.bytes_core.specs.Placement.{new_block, is_new_block, placed, are_compatible, can_be_placed, is_placed}
use Rattle.bytes_core.specs.Access.{block_fault, access_fault, range_fault, block_bytes, bytes_at, loaded, overwritten, with_bytes, written_at, stored, filled}
use Rattle.bytes_core.specs.Copying.{share_byte, first_fault, copy_fault, copied}
use Rattle.bytes_core.specs.Release.{block_free_fault, free_fault, freed, without}
use Rattle.flow.specs.Hiding.{hidden_block, hidden, AreHiddenRightly}

pub length-hidden : (hides : ℕ → Bool) (memory : List Block) → length (hidden hides memory) ≡ length memory
length-hidden hides [] = refl
length-hidden hides (block ∷ rest) = ap suc (length-hidden (λ number. hides (suc number)) rest)

pub slice_get-hidden : (hides : ℕ → Bool) (memory : List Block) (number : ℕ) →
    slice_get (hidden hides memory) number ≡ option_map (hidden_block (hides number)) (slice_get memory number)
slice_get-hidden hides [] number = refl
slice_get-hidden hides (block ∷ rest) zero = refl
slice_get-hidden hides (block ∷ rest) (suc number) = slice_get-hidden (λ number. hides (suc number)) rest number

hidden-set : (hides : ℕ → Bool) (memory : List Block) (number : ℕ) (block : Block) →
    slice_set (hidden hides memory) number (hidden_block (hides number) block) ≡ hidden hides (slice_set memory number block)
hidden-set hides [] number block = refl
hidden-set hides (first ∷ rest) zero block = refl
hidden-set hides (first ∷ rest) (suc number) block =
    ap (λ (more : List Block). hidden_block (hides 0) first ∷ more) (hidden-set (λ number. hides (suc number)) rest number block)

pub hidden-placed : (hides : ℕ → Bool) (memory : List Block) (block : Block) → hides (length memory) ≡ false → placed (hidden hides memory) block ≡ hidden hides (placed memory block)
hidden-placed hides [] block shown = ap (λ (hide : Bool). hidden_block hide block ∷ []) (sym shown)
hidden-placed hides (first ∷ rest) block shown =
    ap (λ (more : List Block). hidden_block (hides 0) first ∷ more) (hidden-placed (λ number. hides (suc number)) rest block shown)

-- bases and bytes
base_hidden : (hide : Bool) (found : Option Block) → option_map_or (λ found. found.base) (option_map (hidden_block hide) found) 0 ≡ option_map_or (λ found. found.base) found 0
base_hidden hide None = refl
base_hidden true (Some block) = refl
base_hidden false (Some block) = refl

address_in-hidden : (hides : ℕ → Bool) (memory : List Block) (block : ℕ) (offset : ℤ) → address_in (hidden hides memory) block offset ≡ address_in memory block offset
address_in-hidden hides memory block offset =
    ap (λ (base : ℕ). wrapped (pos base +ℤ offset))
    (ap (λ (found : Option Block). option_map_or (λ found. found.base) found 0) (slice_get-hidden hides memory block) ∙ base_hidden (hides block) (slice_get memory block))

pub address_number-hidden : (hides : ℕ → Bool) (memory : List Block) (word : Word) → address_number (hidden hides memory) word ≡ address_number memory word
address_number-hidden hides memory (Plain number) = refl
address_number-hidden hides memory (To block offset) = address_in-hidden hides memory block offset

byte_number-hidden : (hides : ℕ → Bool) (memory : List Block) (byte : Byte) → byte_number (hidden hides memory) byte ≡ byte_number memory byte
byte_number-hidden hides memory (Num number) = refl
byte_number-hidden hides memory (Part block offset k) = ap (λ (address : ℕ). byte_of address k) (address_in-hidden hides memory block offset)

pub map-agree : {X Y : Type 0} (one other : X → Y) → ((item : X) → one item ≡ other item) → (items : List X) → map one items ≡ map other items
map-agree one other agree [] = refl
map-agree {Y = Y} one other agree (first ∷ rest) =
    ap (λ (item : Y). item ∷ map one rest) (agree first) ∙ ap (λ (more : List Y). other first ∷ more) (map-agree one other agree rest)

number_of-hidden : (hides : ℕ → Bool) (memory : List Block) (bytes : List Byte) → number_of (hidden hides memory) bytes ≡ number_of memory bytes
number_of-hidden hides memory bytes =
    ap (from_le_bytes w64) (map-agree (byte_number (hidden hides memory)) (byte_number memory) (byte_number-hidden hides memory) bytes)

number_read-hidden : (hides : ℕ → Bool) (memory : List Block) (bytes : List Byte) → number_read (hidden hides memory) bytes ≡ number_read memory bytes
number_read-hidden hides memory bytes = ap Plain (number_of-hidden hides memory bytes)

pointer_read-hidden : (hides : ℕ → Bool) (memory : List Block) (bytes : List Byte) → pointer_read (hidden hides memory) bytes ≡ pointer_read memory bytes
pointer_read-hidden hides memory [] = number_read-hidden hides memory []
pointer_read-hidden hides memory (Num number ∷ rest) = number_read-hidden hides memory (Num number ∷ rest)
pointer_read-hidden hides memory (Part block offset k ∷ rest) =
    ap (λ (word : Word). if are_parts block offset 0 (Part block offset k ∷ rest) then To block offset else word) (number_read-hidden hides memory (Part block offset k ∷ rest))

bytes_hidden : (hide : Bool) (found : Option Block) (offset : ℤ) (count : ℕ) → block_bytes (option_map (hidden_block hide) found) offset count ≡ block_bytes found offset count
bytes_hidden hide None offset count = refl
bytes_hidden true (Some block) (pos from) count = refl
bytes_hidden true (Some block) (negsuc before) count = refl
bytes_hidden false (Some block) offset count = refl

bytes_at-hidden : (hides : ℕ → Bool) (memory : List Block) (at : Word) (count : ℕ) → bytes_at (hidden hides memory) at count ≡ bytes_at memory at count
bytes_at-hidden hides memory (Plain number) count = refl
bytes_at-hidden hides memory (To block offset) count =
    ap (λ (found : Option Block). block_bytes found offset count) (slice_get-hidden hides memory block) ∙ bytes_hidden (hides block) (slice_get memory block) offset count

pub loaded-hidden : (hides : ℕ → Bool) (memory : List Block) (at : Word) (size : ℕ) (pointer : Bool) → loaded (hidden hides memory) at size pointer ≡ loaded memory at size pointer
loaded-hidden hides memory at size true =
    ap (pointer_read (hidden hides memory)) (bytes_at-hidden hides memory at size) ∙ pointer_read-hidden hides memory (bytes_at memory at size)
loaded-hidden hides memory at size false =
    ap (number_read (hidden hides memory)) (bytes_at-hidden hides memory at size) ∙ number_read-hidden hides memory (bytes_at memory at size)

-- changes
with_bytes-hidden : (hides : ℕ → Bool) (memory : List Block) (number from : ℕ) (written : List Byte) (found : Option Block) →
    with_bytes (hidden hides memory) number (option_map (hidden_block (hides number)) found) from written ≡ hidden hides (with_bytes memory number found from written)
with_bytes-hidden hides memory number from written None = refl
with_bytes-hidden hides memory number from written (Some block) =
    ap (λ (changed : Block). slice_set (hidden hides memory) number changed) (by_test (hides number))
    ∙ hidden-set hides memory number (record block { bytes = overwritten block.bytes from written })
  where
    by_test : (hide : Bool) → record (hidden_block hide block) { bytes = overwritten (hidden_block hide block).bytes from written }
        ≡ hidden_block hide (record block { bytes = overwritten block.bytes from written })
    by_test true = refl
    by_test false = refl

written_at-hidden : (hides : ℕ → Bool) (memory : List Block) (at : Word) (written : List Byte) → written_at (hidden hides memory) at written ≡ hidden hides (written_at memory at written)
written_at-hidden hides memory (Plain number) written = refl
written_at-hidden hides memory (To block (pos from)) written =
    ap (λ (found : Option Block). with_bytes (hidden hides memory) block found from written) (slice_get-hidden hides memory block)
    ∙ with_bytes-hidden hides memory block from written (slice_get memory block)
written_at-hidden hides memory (To block (negsuc before)) written = refl

pub stored-hidden : (hides : ℕ → Bool) (memory : List Block) (at : Word) (size : ℕ) (word : Word) → stored (hidden hides memory) at size word ≡ hidden hides (stored memory at size word)
stored-hidden hides memory at size word = written_at-hidden hides memory at (take size (word_bytes word))

pub filled-hidden : (hides : ℕ → Bool) (memory : List Block) (at : Word) (number count : ℕ) → filled (hidden hides memory) at number count ≡ hidden hides (filled memory at number count)
filled-hidden hides memory at number count = written_at-hidden hides memory at (replicate count (Num number))

pub copied-hidden : (hides : ℕ → Bool) (memory : List Block) (to from : Word) (count : ℕ) → copied (hidden hides memory) to from count ≡ hidden hides (copied memory to from count)
copied-hidden hides memory to from count =
    ap (written_at (hidden hides memory) to) (bytes_at-hidden hides memory from count) ∙ written_at-hidden hides memory to (bytes_at memory from count)

pub without-hidden : (hides : ℕ → Bool) (memory : List Block) (number : ℕ) →
    without (hidden hides memory) number (slice_get (hidden hides memory) number) ≡ hidden hides (without memory number (slice_get memory number))
without-hidden hides memory number = ap (without (hidden hides memory) number) (slice_get-hidden hides memory number) ∙ by_block (slice_get memory number)
  where
    by_test : (hide : Bool) (block : Block) → record (hidden_block hide block) { live = false } ≡ hidden_block hide (record block { live = false })
    by_test true block = refl
    by_test false block = refl

    by_block : (found : Option Block) → without (hidden hides memory) number (option_map (hidden_block (hides number)) found) ≡ hidden hides (without memory number found)
    by_block None = refl
    by_block (Some block) = ap (λ (changed : Block). slice_set (hidden hides memory) number changed) (by_test (hides number) block)
        ∙ hidden-set hides memory number (record block { live = false })

pub freed-hidden : (hides : ℕ → Bool) (memory : List Block) (at : Word) → freed (hidden hides memory) at ≡ hidden hides (freed memory at)
freed-hidden hides memory (Plain number) = refl
freed-hidden hides memory (To block offset) = without-hidden hides memory block

-- faults
block_fault-hidden : (hide : Bool) (found : Option Block) (offset : ℤ) (count : ℕ) →
    block_fault (option_map (hidden_block hide) found) offset count ≡ None → block_fault found offset count ≡ None
block_fault-hidden hide None offset count is = is
block_fault-hidden true (Some block) offset count is = absurd (cc)
block_fault-hidden false (Some block) offset count is = is

pub access_fault-hidden : (hides : ℕ → Bool) (memory : List Block) (at : Word) (count : ℕ) → access_fault (hidden hides memory) at count ≡ None → access_fault memory at count ≡ None
access_fault-hidden hides memory (Plain number) count is = is
access_fault-hidden hides memory (To block offset) count is = block_fault-hidden (hides block) (slice_get memory block) offset count
    (subst (λ (found : Option Block). block_fault found offset count ≡ None) (slice_get-hidden hides memory block) is)

pub range_fault-hidden : (hides : ℕ → Bool) (memory : List Block) (at : Word) (count : ℕ) → range_fault (hidden hides memory) at count ≡ None → range_fault memory at count ≡ None
range_fault-hidden hides memory at zero is = refl
range_fault-hidden hides memory at (suc count) is = access_fault-hidden hides memory at (suc count) is

first_none : (one later : Option ℕ) → first_fault one later ≡ None → (one ≡ None) × (later ≡ None)
first_none None later is = (refl, is)
first_none (Some kind) later is = absurd (cc)

pub copy_fault-hidden : (hides : ℕ → Bool) (memory : List Block) (to from : Word) (count : ℕ) (disjoint : Bool) →
    copy_fault (hidden hides memory) to from count disjoint ≡ None → copy_fault memory to from count disjoint ≡ None
copy_fault-hidden hides memory to from count disjoint is =
    let shared : Option ℕ = if disjoint && share_byte to from count then Some overlapping_copy else None in
    let parts = first_none (range_fault (hidden hides memory) from count) (first_fault (range_fault (hidden hides memory) to count) shared) is in
    let parts' = first_none (range_fault (hidden hides memory) to count) shared parts.1 in
    ap (λ (fault : Option ℕ). first_fault fault (first_fault (range_fault memory to count) shared)) (range_fault-hidden hides memory from count parts.0)
    ∙ (ap (λ (fault : Option ℕ). first_fault fault shared) (range_fault-hidden hides memory to count parts'.0) ∙ parts'.1)

free_hidden : (hide : Bool) (found : Option Block) (offset : ℤ) → block_free_fault (option_map (hidden_block hide) found) offset ≡ None → block_free_fault found offset ≡ None
free_hidden hide None offset is = is
free_hidden true (Some block) offset is = absurd (cc)
free_hidden false (Some block) offset is = is

pub free_fault-hidden : (hides : ℕ → Bool) (memory : List Block) (at : Word) → free_fault (hidden hides memory) at ≡ None → free_fault memory at ≡ None
free_fault-hidden hides memory (Plain number) is = is
free_fault-hidden hides memory (To block offset) is = free_hidden (hides block) (slice_get memory block) offset
    (subst (λ (found : Option Block). block_free_fault found offset ≡ None) (slice_get-hidden hides memory block) is)

-- room for a block
compatible_hidden : (one : Block) (hide : Bool) (other : Block) → are_compatible one other ≡ true → are_compatible one (hidden_block hide other) ≡ true
compatible_hidden one true other is = by_life one.live
  where
    by_life : (live : Bool) → (not live || true) ≡ true
    by_life true = refl
    by_life false = refl
compatible_hidden one false other is = is

compatible_all : (one : Block) (hides : ℕ → Bool) (memory : List Block) → list_all (are_compatible one) memory ≡ true → list_all (are_compatible one) (hidden hides memory) ≡ true
compatible_all one hides [] is = refl
compatible_all one hides (first ∷ rest) is =
    let parts = and_parts (are_compatible one first) (list_all (are_compatible one) rest) is in
    and_from (are_compatible one (hidden_block (hides 0) first)) (list_all (are_compatible one) (hidden (λ number. hides (suc number)) rest))
    (compatible_hidden one (hides 0) first parts.0) (compatible_all one (λ number. hides (suc number)) rest parts.1)

pub new_block-hidden : (hides : ℕ → Bool) (memory : List Block) (kind : BlockKind) (size base : ℕ) (contents : List ℕ) →
    is_new_block memory kind size base contents ≡ true → is_new_block (hidden hides memory) kind size base contents ≡ true
new_block-hidden hides memory kind size base contents is =
    let sized = and_parts (nat_eq (length contents) size) (list_all (λ byte. nat_lt byte 256) contents && can_be_placed memory (new_block kind base contents)) is in
    let bytes = and_parts (list_all (λ byte. nat_lt byte 256) contents) (can_be_placed memory (new_block kind base contents)) sized.1 in
    let lies = and_parts (is_placed (new_block kind base contents)) (list_all (are_compatible (new_block kind base contents)) memory) bytes.1 in
    and_from (nat_eq (length contents) size) (list_all (λ byte. nat_lt byte 256) contents && can_be_placed (hidden hides memory) (new_block kind base contents)) sized.0
    (and_from (list_all (λ byte. nat_lt byte 256) contents) (can_be_placed (hidden hides memory) (new_block kind base contents)) bytes.0
    (and_from (is_placed (new_block kind base contents)) (list_all (are_compatible (new_block kind base contents)) (hidden hides memory)) lies.0
    (compatible_all (new_block kind base contents) hides memory lies.1)))

pub hidden_rightly : AreHiddenRightly
hidden_rightly = record {
  reads = λ hides memory. record {
    count = length-hidden hides memory;
    addresses = address_number-hidden hides memory;
    equality = λ one other. ap (λ (address : ℕ). nat_eq address (address_number (hidden hides memory) other)) (address_number-hidden hides memory one)
        ∙ ap (nat_eq (address_number memory one)) (address_number-hidden hides memory other);
    bytes = bytes_at-hidden hides memory;
    loads = loaded-hidden hides memory;
  };
  changes = λ hides memory. record {
    stores = stored-hidden hides memory;
    fills = filled-hidden hides memory;
    copies = copied-hidden hides memory;
    frees = freed-hidden hides memory;
    ends = without-hidden hides memory;
    places = hidden-placed hides memory;
  };
  faults = λ hides memory. record {
    accesses = access_fault-hidden hides memory;
    ranges = range_fault-hidden hides memory;
    copies = copy_fault-hidden hides memory;
    frees = free_fault-hidden hides memory;
    room = new_block-hidden hides memory;
  };
}
