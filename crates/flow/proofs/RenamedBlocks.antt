-- Memories whose blocks have other numbers: what is read.
use Rattle.std.proofs.Common.{◌≡◌, ℕ, zero, suc, ◌+◌, ◌<◌, ◌≤◌, List, [], ◌∷◌, ◌++◌, map, length, take, drop, replicate, Bool, true, false, refl, sym, ap, subst, ◌∙◌, ◌⊎◌, inl, inr, Option, None, Some, arith}
use Rattle.std.specs.Prelude.{ℤ, pos, negsuc, ◌+ℤ◌, ◌&&◌, ◌||◌, not, if◌then◌else◌, nat_eq, nat_lt, nat_le, slice_get, slice_set, int_lt, max}
use Rattle.std.specs.Int.{w64, from_le_bytes, to_le_bytes}
use Rattle.std.specs.List.{list_all}
use Rattle.std.specs.Option.{option_map, option_map_or}
use Rattle.std.specs.Ordering.{int_eq}
use Rattle.std.proofs.lemmas.Bool.{and_parts, and_from, cases_eq, cases_lt, cases_order, eq-eqb, ne_eqb}
use Rattle.std.proofs.lemmas.Option.{same_Some, none-some, slice_get_past}
use Rattle.std.proofs.lemmas.List.{length-map, length-set, length-append, map-append, take-map, drop-map}
use Rattle.bytes_core.specs.declared.byte.Byte.{Byte}
use Rattle.bytes_core.specs.declared.byte.Byte.TheVariants.{Num, Part}
use Rattle.bytes_core.specs.declared.word.Word.{Word}
use Rattle.bytes_core.specs.declared.word.Word.TheVariants.{Plain, To}
use Rattle.bytes_core.specs.declared.block.BlockKind.{BlockKind}
use Rattle.bytes_core.specs.declared.block.Block.{Block}
use Rattle.bytes_core.specs.Fault.{overlapping_copy, access_outside_object, access_to_dead_object}
use Rattle.bytes_core.specs.Value.{word_bytes, wrapped, address_in, address_number, is_same_address, byte_number, byte_of, are_parts, number_read, pointer_read}
use Rattle.bytes_core.specs.Placement.{extent, new_block, is_new_block, placed, are_compatible, is_placed}
use Rattle.bytes_core.specs.Access.{is_within, block_fault, access_fault, range_fault, block_bytes, bytes_at, loaded, overwritten, with_bytes, written_at, stored, filled}
use Rattle.bytes_core.specs.Copying.{share_byte, first_fault, copy_fault, copied}
use Rattle.bytes_core.specs.Release.{block_free_fault, free_fault, freed, without}
use Rattle.bytes_core.specs.Loss.{Chain, Root, Link, IsLostBlock, is_lost, holds_pointer_to}
use Rattle.bytes_core.proofs.Chains.{lost_by_chains}
use Rattle.flow.proofs.Ascending.{Among, Among-contains, Contains-among}
use Rattle.flow.specs.Renaming.{renamed_byte, renamed_word, renamed_block, AreRenamed, IsRenamingKept}

-- numbers that are told apart
nat_eq-renamed : (renames back : ℕ → ℕ) → ((number : ℕ) → back (renames number) ≡ number) → (one other : ℕ) → nat_eq (renames one) (renames other) ≡ nat_eq one other
nat_eq-renamed renames back there one other = by_place (cases_eq one other)
  where
    by_place : (one ≡ other) ⊎ (one ≡ other → ⊥) → nat_eq (renames one) (renames other) ≡ nat_eq one other
    by_place (inl same) = eq-eqb (renames one) (renames other) (ap renames same) ∙ sym (eq-eqb one other same)
    by_place (inr differs) =
        ne_eqb (renames one) (renames other) (λ same. differs (sym (there one) ∙ (ap back same ∙ there other))) ∙ sym (ne_eqb one other differs)

-- bytes
are_parts-renamed : (renames back : ℕ → ℕ) → ((number : ℕ) → back (renames number) ≡ number) → (block : ℕ) (offset : ℤ) (k : ℕ) (bytes : List Byte) →
    are_parts (renames block) offset k (map (renamed_byte renames) bytes) ≡ are_parts block offset k bytes
are_parts-renamed renames back there block offset k [] = refl
are_parts-renamed renames back there block offset k (Num number ∷ rest) = refl
are_parts-renamed renames back there block offset k (Part block' offset' k' ∷ rest) =
    ap (λ (same : Bool). same && (int_eq offset' offset && (nat_eq k' k && are_parts (renames block) offset (k + 1) (map (renamed_byte renames) rest))))
    (nat_eq-renamed renames back there block' block)
    ∙ ap (λ (parts : Bool). nat_eq block' block && (int_eq offset' offset && (nat_eq k' k && parts))) (are_parts-renamed renames back there block offset (k + 1) rest)

holds-renamed : (renames back : ℕ → ℕ) → ((number : ℕ) → back (renames number) ≡ number) → (target : ℕ) (bytes : List Byte) →
    holds_pointer_to (renames target) (map (renamed_byte renames) bytes) ≡ holds_pointer_to target bytes
holds-renamed renames back there target [] = refl
holds-renamed renames back there target (Num number ∷ rest) = holds-renamed renames back there target rest
holds-renamed renames back there target (Part block offset k ∷ rest) =
    ap (λ (same : Bool). (same && are_parts (renames block) offset 0 (take 8 (map (renamed_byte renames) (Part block offset k ∷ rest)))) || holds_pointer_to (renames target) (map (renamed_byte renames) rest))
    (nat_eq-renamed renames back there block target)
    ∙ (ap (λ (parts : Bool). (nat_eq block target && parts) || holds_pointer_to (renames target) (map (renamed_byte renames) rest))
    (ap (are_parts (renames block) offset 0) (take-map (renamed_byte renames) 8 (Part block offset k ∷ rest))
    ∙ are_parts-renamed renames back there block offset 0 (take 8 (Part block offset k ∷ rest)))
    ∙ ap (λ (later : Bool). (nat_eq block target && are_parts block offset 0 (take 8 (Part block offset k ∷ rest))) || later) (holds-renamed renames back there target rest))

numbers_renamed : (renames : ℕ → ℕ) (numbers : List ℕ) → map (renamed_byte renames) (map Num numbers) ≡ map Num numbers
numbers_renamed renames [] = refl
numbers_renamed renames (first ∷ rest) = ap (λ (more : List Byte). Num first ∷ more) (numbers_renamed renames rest)

pub word_bytes-renamed : (renames : ℕ → ℕ) (word : Word) → word_bytes (renamed_word renames word) ≡ map (renamed_byte renames) (word_bytes word)
word_bytes-renamed renames (Plain number) = sym (numbers_renamed renames (to_le_bytes w64 number))
word_bytes-renamed renames (To block offset) = refl

overwritten-renamed : (renames : ℕ → ℕ) (bytes : List Byte) (from : ℕ) (written : List Byte) →
    overwritten (map (renamed_byte renames) bytes) from (map (renamed_byte renames) written) ≡ map (renamed_byte renames) (overwritten bytes from written)
overwritten-renamed renames bytes from written =
    let rename : Byte → Byte = renamed_byte renames in
    sym (map-append rename (take from bytes) (written ++ drop (from + length written) bytes)
    ∙ (ap (λ (more : List Byte). map rename (take from bytes) ++ more) (map-append rename written (drop (from + length written) bytes))
    ∙ (ap (λ (front : List Byte). front ++ (map rename written ++ map rename (drop (from + length written) bytes))) (sym (take-map rename from bytes))
    ∙ (ap (λ (back : List Byte). take from (map rename bytes) ++ (map rename written ++ back)) (sym (drop-map rename (from + length written) bytes))
    ∙ ap (λ (count : ℕ). take from (map rename bytes) ++ (map rename written ++ drop (from + count) (map rename bytes))) (sym (length-map written rename))))))

-- the fault of an access to a block of this size
abbrev block_fault_of : Bool → ℕ → ℤ → ℕ → Option ℕ
block_fault_of live size offset count =
    if live then (if is_within size offset count then None else Some access_outside_object) else Some access_to_dead_object

-- a list with one item changed
get_set_same : {X : Type 0} (items : List X) (place : ℕ) (old new : X) → slice_get items place ≡ Some old → slice_get (slice_set items place new) place ≡ Some new
get_set_same [] place old new is = absurd (none-some old is)
get_set_same (first ∷ rest) zero old new is = refl
get_set_same (first ∷ rest) (suc place) old new is = get_set_same rest place old new is

get_set_other : {X : Type 0} (items : List X) (place other : ℕ) (new : X) → (other ≡ place → ⊥) → slice_get (slice_set items place new) other ≡ slice_get items other
get_set_other [] place other new differs = refl
get_set_other (first ∷ rest) zero zero new differs = absurd (differs refl)
get_set_other (first ∷ rest) zero (suc other) new differs = refl
get_set_other (first ∷ rest) (suc place) zero new differs = refl
get_set_other (first ∷ rest) (suc place) (suc other) new differs = get_set_other rest place other new (λ same. differs (ap suc same))

get_front : {X : Type 0} (items : List X) (item : X) (place : ℕ) → place < length items → slice_get (items ++ item ∷ []) place ≡ slice_get items place
get_front [] item place below = absurd (omega arith)
get_front (first ∷ rest) item zero below = refl
get_front (first ∷ rest) item (suc place) below = get_front rest item place (omega arith)

get_last : {X : Type 0} (items : List X) (item : X) → slice_get (items ++ item ∷ []) (length items) ≡ Some item
get_last [] item = refl
get_last (first ∷ rest) item = get_last rest item

-- a test that passes at each item
all_from : {X : Type 0} (test : X → Bool) (items : List X) → ((place : ℕ) (item : X) → slice_get items place ≡ Some item → test item ≡ true) → list_all test items ≡ true
all_from test [] each = refl
all_from test (first ∷ rest) each = and_from (test first) (list_all test rest) (each 0 first refl) (all_from test rest (λ place item is. each (suc place) item is))

all_at : {X : Type 0} (test : X → Bool) (items : List X) → list_all test items ≡ true → (place : ℕ) (item : X) → slice_get items place ≡ Some item → test item ≡ true
all_at test [] all place item is = absurd (none-some item is)
all_at {X} test (first ∷ rest) all zero item is =
    subst (λ (item : X). test item ≡ true) (same_Some first item is) (and_parts (test first) (list_all test rest) all).0
all_at test (first ∷ rest) all (suc place) item is = all_at test rest (and_parts (test first) (list_all test rest) all).1 place item is

module _ (renames back : ℕ → ℕ) (memory other : List Block) (are : AreRenamed renames back memory other) where
  address_in-renamed : (block : ℕ) (offset : ℤ) → address_in other (renames block) offset ≡ address_in memory block offset
  address_in-renamed block offset = ap (λ (base : ℕ). wrapped (pos base +ℤ offset))
      (ap (λ (found : Option Block). option_map_or (λ found. found.base) found 0) (are.blocks block) ∙ by_block (slice_get memory block))
    where
      by_block : (found : Option Block) → option_map_or (λ found. found.base) (option_map (renamed_block renames) found) 0 ≡ option_map_or (λ found. found.base) found 0
      by_block None = refl
      by_block (Some block) = refl

  address_number-renamed : (word : Word) → address_number other (renamed_word renames word) ≡ address_number memory word
  address_number-renamed (Plain number) = refl
  address_number-renamed (To block offset) = address_in-renamed block offset

  is_same-renamed : (one second : Word) → is_same_address other (renamed_word renames one) (renamed_word renames second) ≡ is_same_address memory one second
  is_same-renamed one second =
      ap (λ (address : ℕ). nat_eq address (address_number other (renamed_word renames second))) (address_number-renamed one)
      ∙ ap (nat_eq (address_number memory one)) (address_number-renamed second)

  byte_numbers-renamed : (bytes : List Byte) → map (byte_number other) (map (renamed_byte renames) bytes) ≡ map (byte_number memory) bytes
  byte_numbers-renamed [] = refl
  byte_numbers-renamed (Num number ∷ rest) = ap (λ (more : List ℕ). number ∷ more) (byte_numbers-renamed rest)
  byte_numbers-renamed (Part block offset k ∷ rest) =
      ap (λ (address : ℕ). byte_of address k ∷ map (byte_number other) (map (renamed_byte renames) rest)) (address_in-renamed block offset)
      ∙ ap (λ (more : List ℕ). byte_of (address_in memory block offset) k ∷ more) (byte_numbers-renamed rest)

  number_read-renamed : (bytes : List Byte) → number_read other (map (renamed_byte renames) bytes) ≡ renamed_word renames (number_read memory bytes)
  number_read-renamed bytes = ap (λ (numbers : List ℕ). Plain (from_le_bytes w64 numbers)) (byte_numbers-renamed bytes)

  pointer_read-renamed : (bytes : List Byte) → pointer_read other (map (renamed_byte renames) bytes) ≡ renamed_word renames (pointer_read memory bytes)
  pointer_read-renamed [] = number_read-renamed []
  pointer_read-renamed (Num number ∷ rest) = number_read-renamed (Num number ∷ rest)
  pointer_read-renamed (Part block offset k ∷ rest) =
      ap (λ (whole : Bool). if whole then To (renames block) offset else number_read other (map (renamed_byte renames) (Part block offset k ∷ rest)))
      (are_parts-renamed renames back are.there block offset 0 (Part block offset k ∷ rest))
      ∙ by_test (are_parts block offset 0 (Part block offset k ∷ rest))
    where
      by_test : (whole : Bool) → (if whole then To (renames block) offset else number_read other (map (renamed_byte renames) (Part block offset k ∷ rest)))
          ≡ renamed_word renames (if whole then To block offset else number_read memory (Part block offset k ∷ rest))
      by_test true = refl
      by_test false = number_read-renamed (Part block offset k ∷ rest)

  bytes_at-renamed : (at : Word) (count : ℕ) → bytes_at other (renamed_word renames at) count ≡ map (renamed_byte renames) (bytes_at memory at count)
  bytes_at-renamed (Plain number) count = refl
  bytes_at-renamed (To block offset) count = ap (λ (found : Option Block). block_bytes found offset count) (are.blocks block) ∙ by_block (slice_get memory block) offset
    where
      by_block : (found : Option Block) (offset : ℤ) → block_bytes (option_map (renamed_block renames) found) offset count ≡ map (renamed_byte renames) (block_bytes found offset count)
      by_block None offset = refl
      by_block (Some block) (negsuc before) = refl
      by_block (Some block) (pos from) = ap (take count) (drop-map (renamed_byte renames) from block.bytes) ∙ take-map (renamed_byte renames) count (drop from block.bytes)

  loaded-renamed : (at : Word) (size : ℕ) (pointer : Bool) → loaded other (renamed_word renames at) size pointer ≡ renamed_word renames (loaded memory at size pointer)
  loaded-renamed at size true = ap (pointer_read other) (bytes_at-renamed at size) ∙ pointer_read-renamed (bytes_at memory at size)
  loaded-renamed at size false = ap (number_read other) (bytes_at-renamed at size) ∙ number_read-renamed (bytes_at memory at size)

  access_fault-renamed : (at : Word) (count : ℕ) → access_fault other (renamed_word renames at) count ≡ access_fault memory at count
  access_fault-renamed (Plain number) count = refl
  access_fault-renamed (To block offset) count = ap (λ (found : Option Block). block_fault found offset count) (are.blocks block) ∙ by_block (slice_get memory block)
    where
      by_block : (found : Option Block) → block_fault (option_map (renamed_block renames) found) offset count ≡ block_fault found offset count
      by_block None = refl
      by_block (Some block) = ap (λ (size : ℕ). block_fault_of block.live size offset count) (length-map block.bytes (renamed_byte renames))

  range_fault-renamed : (at : Word) (count : ℕ) → range_fault other (renamed_word renames at) count ≡ range_fault memory at count
  range_fault-renamed at zero = refl
  range_fault-renamed at (suc count) = access_fault-renamed at (suc count)

  free_fault-renamed : (at : Word) → free_fault other (renamed_word renames at) ≡ free_fault memory at
  free_fault-renamed (Plain number) = refl
  free_fault-renamed (To block offset) = ap (λ (found : Option Block). block_free_fault found offset) (are.blocks block) ∙ by_block (slice_get memory block)
    where
      by_block : (found : Option Block) → block_free_fault (option_map (renamed_block renames) found) offset ≡ block_free_fault found offset
      by_block None = refl
      by_block (Some block) = refl

  share-renamed : (one second : Word) (count : ℕ) → share_byte (renamed_word renames one) (renamed_word renames second) count ≡ share_byte one second count
  share-renamed (Plain number) second count = refl
  share-renamed (To block offset) (Plain number) count = refl
  share-renamed (To block offset) (To block' offset') count =
      ap (λ (same : Bool). same && (int_lt offset (offset' +ℤ pos count) && int_lt offset' (offset +ℤ pos count))) (nat_eq-renamed renames back are.there block block')

  copy_fault-renamed : (to from : Word) (count : ℕ) (disjoint : Bool) →
      copy_fault other (renamed_word renames to) (renamed_word renames from) count disjoint ≡ copy_fault memory to from count disjoint
  copy_fault-renamed to from count disjoint =
      ap (λ (fault : Option ℕ). first_fault fault (first_fault (range_fault other (renamed_word renames to) count)
      (if disjoint && share_byte (renamed_word renames to) (renamed_word renames from) count then Some overlapping_copy else None))) (range_fault-renamed from count)
      ∙ (ap (λ (fault : Option ℕ). first_fault (range_fault memory from count) (first_fault fault
      (if disjoint && share_byte (renamed_word renames to) (renamed_word renames from) count then Some overlapping_copy else None))) (range_fault-renamed to count)
      ∙ ap (λ (share : Bool). first_fault (range_fault memory from count) (first_fault (range_fault memory to count)
      (if disjoint && share then Some overlapping_copy else None))) (share-renamed to from count))

  -- a change of one block
  renamed_set : (number : ℕ) (old new : Block) → slice_get memory number ≡ Some old →
      AreRenamed renames back (slice_set memory number new) (slice_set other (renames number) (renamed_block renames new))
  renamed_set number old new stands = record {
    count = length-set other (renames number) (renamed_block renames new) ∙ (are.count ∙ sym (length-set memory number new));
    there = are.there;
    again = are.again;
    later = λ place above. let same : length (slice_set memory number new) ≡ length memory = length-set memory number new in are.later place (omega arith);
    blocks = λ place. by_place place (cases_eq place number);
  }
    where
      by_place : (place : ℕ) → (place ≡ number) ⊎ (place ≡ number → ⊥) →
          slice_get (slice_set other (renames number) (renamed_block renames new)) (renames place) ≡ option_map (renamed_block renames) (slice_get (slice_set memory number new) place)
      by_place place (inl same) =
          ap (λ (here : ℕ). slice_get (slice_set other (renames number) (renamed_block renames new)) (renames here)) same
          ∙ (get_set_same other (renames number) (renamed_block renames old) (renamed_block renames new)
          (are.blocks number ∙ ap (option_map (renamed_block renames)) stands)
          ∙ ap (option_map (renamed_block renames)) (sym (ap (slice_get (slice_set memory number new)) same ∙ get_set_same memory number old new stands)))
      by_place place (inr differs) =
          get_set_other other (renames number) (renames place) (renamed_block renames new) (λ same. differs (sym (are.there place) ∙ (ap back same ∙ are.there number)))
          ∙ (are.blocks place ∙ ap (option_map (renamed_block renames)) (sym (get_set_other memory number place new differs)))

  without-renamed : (number : ℕ) → AreRenamed renames back (without memory number (slice_get memory number)) (without other (renames number) (slice_get other (renames number)))
  without-renamed number =
      subst (λ (found : Option Block). AreRenamed renames back (without memory number (slice_get memory number)) (without other (renames number) found)) (sym (are.blocks number))
      (by_block (slice_get memory number) refl)
    where
      by_block : (found : Option Block) → slice_get memory number ≡ found →
          AreRenamed renames back (without memory number found) (without other (renames number) (option_map (renamed_block renames) found))
      by_block None stands = are
      by_block (Some block) stands = renamed_set number block (record block { live = false }) stands

  freed-renamed : (at : Word) → AreRenamed renames back (freed memory at) (freed other (renamed_word renames at))
  freed-renamed (Plain number) = are
  freed-renamed (To block offset) = without-renamed block

  written-renamed : (at : Word) (written : List Byte) →
      AreRenamed renames back (written_at memory at written) (written_at other (renamed_word renames at) (map (renamed_byte renames) written))
  written-renamed (Plain number) written = are
  written-renamed (To number (negsuc before)) written = are
  written-renamed (To number (pos from)) written =
      subst (λ (found : Option Block). AreRenamed renames back (with_bytes memory number (slice_get memory number) from written)
      (with_bytes other (renames number) found from (map (renamed_byte renames) written))) (sym (are.blocks number))
      (by_block (slice_get memory number) refl)
    where
      by_block : (found : Option Block) → slice_get memory number ≡ found →
          AreRenamed renames back (with_bytes memory number found from written)
          (with_bytes other (renames number) (option_map (renamed_block renames) found) from (map (renamed_byte renames) written))
      by_block None stands = are
      by_block (Some block) stands =
          subst (λ (bytes : List Byte). AreRenamed renames back (slice_set memory number (record block { bytes = overwritten block.bytes from written }))
          (slice_set other (renames number) (record block { bytes = bytes }))) (sym (overwritten-renamed renames block.bytes from written))
          (renamed_set number block (record block { bytes = overwritten block.bytes from written }) stands)

  stored-renamed : (at : Word) (size : ℕ) (word : Word) →
      AreRenamed renames back (stored memory at size word) (stored other (renamed_word renames at) size (renamed_word renames word))
  stored-renamed at size word =
      subst (λ (written : List Byte). AreRenamed renames back (stored memory at size word) (written_at other (renamed_word renames at) written))
      (sym (ap (take size) (word_bytes-renamed renames word) ∙ take-map (renamed_byte renames) size (word_bytes word)))
      (written-renamed at (take size (word_bytes word)))

  filled-renamed : (at : Word) (number count : ℕ) → AreRenamed renames back (filled memory at number count) (filled other (renamed_word renames at) number count)
  filled-renamed at number count =
      subst (λ (written : List Byte). AreRenamed renames back (filled memory at number count) (written_at other (renamed_word renames at) written))
      (same_number count) (written-renamed at (replicate count (Num number)))
    where
      same_number : (count : ℕ) → map (renamed_byte renames) (replicate count (Num number)) ≡ replicate count (Num number)
      same_number zero = refl
      same_number (suc count) = ap (λ (more : List Byte). Num number ∷ more) (same_number count)

  copied-renamed : (to from : Word) (count : ℕ) →
      AreRenamed renames back (copied memory to from count) (copied other (renamed_word renames to) (renamed_word renames from) count)
  copied-renamed to from count =
      subst (λ (written : List Byte). AreRenamed renames back (copied memory to from count) (written_at other (renamed_word renames to) written))
      (sym (bytes_at-renamed from count)) (written-renamed to (bytes_at memory from count))

  -- a block that is put into both
  stays_below : (place : ℕ) → place < length memory → renames place < length memory
  stays_below place below = by_order (cases_lt (renames place) (length memory))
    where
      by_order : (renames place < length memory) ⊎ (length memory ≤ renames place) → renames place < length memory
      by_order (inl less) = less
      by_order (inr above) =
          let fixed : renames (renames place) ≡ renames place = are.later (renames place) above in
          let same : renames place ≡ place = sym (are.there (renames place)) ∙ (ap back fixed ∙ are.there place) in
          absurd (omega arith)

  placed-renamed : (kind : BlockKind) (base : ℕ) (contents : List ℕ) →
      AreRenamed renames back (placed memory (new_block kind base contents)) (placed other (new_block kind base contents))
  placed-renamed kind base contents = record {
    count = let long : length (placed other new) ≡ length other + 1 = length-append other (new ∷ []) in
        let long' : length (placed memory new) ≡ length memory + 1 = length-append memory (new ∷ []) in
        let same = are.count in omega arith;
    there = are.there;
    again = are.again;
    later = λ place above. let long : length (placed memory new) ≡ length memory + 1 = length-append memory (new ∷ []) in are.later place (omega arith);
    blocks = λ place. by_place place (cases_order place (length memory));
  }
    where
      new : Block
      new = new_block kind base contents

      same_new : Some new ≡ option_map (renamed_block renames) (Some new)
      same_new = ap (λ (bytes : List Byte). Some (record new { bytes = bytes })) (sym (numbers_renamed renames contents))

      by_place : (place : ℕ) → (place ≡ length memory) ⊎ ((place < length memory) ⊎ (length memory < place)) →
          slice_get (placed other new) (renames place) ≡ option_map (renamed_block renames) (slice_get (placed memory new) place)
      by_place place (inl same) =
          let fixed : renames place ≡ place = are.later place (omega arith) in
          ap (slice_get (placed other new)) (fixed ∙ (same ∙ sym are.count))
          ∙ (get_last other new ∙ (same_new ∙ ap (option_map (renamed_block renames)) (sym (ap (slice_get (placed memory new)) same ∙ get_last memory new))))
      by_place place (inr (inl less)) =
          let less' : renames place < length memory = stays_below place less in
          let count = are.count in
          get_front other new (renames place) (omega arith) ∙ (are.blocks place ∙ ap (option_map (renamed_block renames)) (sym (get_front memory new place less)))
      by_place place (inr (inr more)) =
          let fixed : renames place ≡ place = are.later place (omega arith) in
          let long : length (placed other new) ≡ length other + 1 = length-append other (new ∷ []) in
          let long' : length (placed memory new) ≡ length memory + 1 = length-append memory (new ∷ []) in
          let count = are.count in
          ap (slice_get (placed other new)) fixed
          ∙ (slice_get_past (placed other new) place (omega arith) ∙ ap (option_map (renamed_block renames)) (sym (slice_get_past (placed memory new) place (omega arith))))

  -- the same the other way round
  turned : AreRenamed back renames other memory
  turned = record {
    count = sym are.count;
    there = are.again;
    again = are.there;
    later = λ place above. let count = are.count in let fixed : renames place ≡ place = are.later place (omega arith) in ap back (sym fixed) ∙ are.there place;
    blocks = λ place. sym (ap (option_map (renamed_block back)) (ap (slice_get other) (sym (are.again place)) ∙ are.blocks (back place)) ∙ twice (slice_get memory (back place)));
  }
    where
      bytes_twice : (bytes : List Byte) → map (renamed_byte back) (map (renamed_byte renames) bytes) ≡ bytes
      bytes_twice [] = refl
      bytes_twice (Num number ∷ rest) = ap (λ (more : List Byte). Num number ∷ more) (bytes_twice rest)
      bytes_twice (Part block offset k ∷ rest) =
          ap (λ (number : ℕ). Part number offset k ∷ map (renamed_byte back) (map (renamed_byte renames) rest)) (are.there block)
          ∙ ap (λ (more : List Byte). Part block offset k ∷ more) (bytes_twice rest)

      twice : (found : Option Block) → option_map (renamed_block back) (option_map (renamed_block renames) found) ≡ found
      twice None = refl
      twice (Some block) = ap (λ (bytes : List Byte). Some (record block { bytes = bytes })) (bytes_twice block.bytes)

  -- room for a block
  room_there : (one : Block) → list_all (are_compatible one) memory ≡ true → list_all (are_compatible one) other ≡ true
  room_there one all = all_from (are_compatible one) other (λ place block stands.
      by_block place block (slice_get memory (back place)) refl (sym (are.blocks (back place)) ∙ (ap (slice_get other) (are.again place) ∙ stands)))
    where
      same : (block : Block) → are_compatible one (renamed_block renames block) ≡ are_compatible one block
      same block = ap (λ (size : ℕ). not one.live || (not block.live || (nat_le (one.base + extent one) block.base || nat_le (block.base + max 16 size) one.base)))
          (length-map block.bytes (renamed_byte renames))

      by_block : (place : ℕ) (block : Block) (found : Option Block) → slice_get memory (back place) ≡ found → option_map (renamed_block renames) found ≡ Some block →
          are_compatible one block ≡ true
      by_block place block None stands is = absurd (none-some block is)
      by_block place block (Some original) stands is =
          subst (λ (block : Block). are_compatible one block ≡ true) (same_Some (renamed_block renames original) block is)
          (same original ∙ all_at (are_compatible one) memory all (back place) original stands)

  -- chains
  chain_there : (roots : List ℕ) (target : ℕ) → Chain memory roots target → Chain other (map renames roots) (renames target)
  chain_there roots target (Root one there) = Root (renames one) (Contains-among (map renames roots) (renames one) (among_map roots one (Among-contains roots one there)))
    where
      among_map : (roots : List ℕ) (one : ℕ) → Among roots one → Among (map renames roots) (renames one)
      among_map [] one among = among
      among_map (first ∷ rest) one (inl same) = inl (ap renames same)
      among_map (first ∷ rest) one (inr among) = inr (among_map rest one among)
  chain_there roots target (Link number one block chain stands live holds) =
      Link (renames number) (renames one) (renamed_block renames block) (chain_there roots number chain)
      (are.blocks number ∙ ap (option_map (renamed_block renames)) stands) live
      (holds-renamed renames back are.there one block.bytes ∙ holds)

-- loss
lost_there : (renames back : ℕ → ℕ) (memory other : List Block) → AreRenamed renames back memory other → (roots roots' : List ℕ) → map back roots' ≡ roots →
    is_lost memory roots ≡ true → is_lost other roots' ≡ true
lost_there renames back memory other are roots roots' turns lost =
    let found = (lost_by_chains memory roots).0 lost in
    let number : ℕ = found.0 in let block : Block = found.1 in
    let there : IsLostBlock other roots' (renames number) (renamed_block renames block) = record {
      stands = are.blocks number ∙ ap (option_map (renamed_block renames)) (found.2).stands;
      allocated = (found.2).allocated;
      live = (found.2).live;
      unreached = λ chain. (found.2).unreached (subst (λ (target : ℕ). Chain memory roots target) (are.there number)
          (subst (λ (roots : List ℕ). Chain memory roots (back (renames number))) turns
          (chain_there back renames other memory (turned renames back memory other are) roots' (renames number) chain)));
    } in
    (lost_by_chains other roots').1 (renames number, renamed_block renames block, there)

map_twice : (one other : ℕ → ℕ) → ((number : ℕ) → other (one number) ≡ number) → (numbers : List ℕ) → map other (map one numbers) ≡ numbers
map_twice one other there [] = refl
map_twice one other there (first ∷ rest) =
    ap (λ (number : ℕ). number ∷ map other (map one rest)) (there first) ∙ ap (λ (more : List ℕ). first ∷ more) (map_twice one other there rest)

both_tests : (one other : Bool) → (one ≡ true → other ≡ true) → (other ≡ true → one ≡ true) → one ≡ other
both_tests true other there back = sym (there refl)
both_tests false true there back = back refl
both_tests false false there back = refl

room_same : (renames back : ℕ → ℕ) (memory other : List Block) → AreRenamed renames back memory other → (kind : BlockKind) (size base : ℕ) (contents : List ℕ) →
    is_new_block other kind size base contents ≡ is_new_block memory kind size base contents
room_same renames back memory other are kind size base contents =
    ap (λ (fits : Bool). nat_eq (length contents) size && (list_all (λ byte. nat_lt byte 256) contents && (is_placed (new_block kind base contents) && fits)))
    (both_tests (list_all (are_compatible (new_block kind base contents)) other) (list_all (are_compatible (new_block kind base contents)) memory)
    (room_there back renames other memory (turned renames back memory other are) (new_block kind base contents))
    (room_there renames back memory other are (new_block kind base contents)))

loss_same : (renames back : ℕ → ℕ) (memory other : List Block) → AreRenamed renames back memory other → (roots : List ℕ) →
    is_lost other (map renames roots) ≡ is_lost memory roots
loss_same renames back memory other are roots = both_tests (is_lost other (map renames roots)) (is_lost memory roots)
    (lost_there back renames other memory (turned renames back memory other are) (map renames roots) roots refl)
    (lost_there renames back memory other are roots (map renames roots) (map_twice renames back are.there roots))

pub renaming_kept : IsRenamingKept
renaming_kept = record {
  reads = λ renames back memory other are. record {
    addresses = address_number-renamed renames back memory other are;
    equality = is_same-renamed renames back memory other are;
    loads = loaded-renamed renames back memory other are;
    accesses = access_fault-renamed renames back memory other are;
    ranges = range_fault-renamed renames back memory other are;
    copies = copy_fault-renamed renames back memory other are;
    frees = free_fault-renamed renames back memory other are;
    room = room_same renames back memory other are;
    loss = loss_same renames back memory other are;
  };
  changes = λ renames back memory other are. record {
    stores = stored-renamed renames back memory other are;
    fills = filled-renamed renames back memory other are;
    copies = copied-renamed renames back memory other are;
    frees = freed-renamed renames back memory other are;
    ends = without-renamed renames back memory other are;
    places = placed-renamed renames back memory other are;
  };
}
