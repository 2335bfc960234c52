-- Alike memories: which faults are met, and what is read.
use Rattle.std.proofs.Common.{◌≡◌, ℕ, zero, suc, List, [], ◌∷◌, map, length, take, drop, Bool, true, false, refl, sym, ap, subst, ◌∙◌, Option, None, Some}
use Rattle.std.specs.Prelude.{ℤ, pos, negsuc, ◌+ℤ◌, ◌&&◌, if◌then◌else◌, nat_eq, slice_get, int_lt, All}
use Rattle.std.specs.Int.{w64, from_le_bytes}
use Rattle.std.specs.Option.{option_map_or}
use Rattle.std.specs.Ordering.{int_eq}
use Rattle.std.proofs.lemmas.Bool.{false≢true}
use Rattle.std.proofs.lemmas.Option.{same_Some}
use Rattle.std.proofs.lemmas.List.{take-map, drop-map}
use Rattle.std.proofs.lemmas.List.Elements.{All-nil, All-head, All-tail, All-take, All-drop, All-same}
use Rattle.bytes_core.specs.declared.byte.Byte.{Byte}
use Rattle.bytes_core.specs.declared.byte.Byte.TheVariants.{Num, Part}
use Rattle.bytes_core.specs.declared.word.Word.{Word}
use Rattle.bytes_core.specs.declared.word.Word.TheVariants.{Plain, To}
use Rattle.bytes_core.specs.declared.block.BlockKind.{BlockKind}
use Rattle.bytes_core.specs.declared.block.Block.{Block}
use Rattle.bytes_core.specs.Fault.{overlapping_copy, access_outside_object, access_to_dead_object, double_free, invalid_free}
use Rattle.bytes_core.specs.Value.{word_bytes, wrapped, address_in, address_number, is_same_address, byte_number, byte_of, are_parts, number_read, pointer_read}
use Rattle.bytes_core.specs.Access.{is_within, block_fault, access_fault, range_fault, block_bytes, bytes_at, loaded}
use Rattle.bytes_core.specs.Copying.{share_byte, first_fault, copy_fault}
use Rattle.bytes_core.specs.Release.{is_heap, block_free_fault, free_fault}
use Rattle.bytes_core.proofs.Pointers.{pointer_read_whole}
use Rattle.bytes_core.proofs.Written.{LeadsTo-access}
use Rattle.graph.specs.Alike.{renumbered_word, renumbered_byte, IsLiveAt}
use Rattle.graph.specs.AlikeMemories.{NamesAmong, WordNamesAmong, IsDeadOrNone, AreLiveAlike, AreAlike}
use Rattle.graph.specs.AlikeSteps.{ByteDoesNotDangle, DoesNotDangle}
use Rattle.graph.proofs.AlikeBlocks.{nat_eq-there, are_parts-there, dead_lives, gone_from, AtBoth, BothLive, BothDead, Unpaired, size_alike, at_both}

-- the fault of an access to a block of this size
abbrev block_fault_of : Bool → ℕ → ℤ → ℕ → Option ℕ
block_fault_of live size offset count =
    if live then (if is_within size offset count then None else Some access_outside_object) else Some access_to_dead_object

-- the fault of a free of a block of this kind
abbrev free_fault_of : BlockKind → Bool → ℤ → Option ℕ
free_fault_of kind live offset = if is_heap kind && int_eq offset (pos 0) then (if live then None else Some double_free) else Some invalid_free

fault_of_gone : (found : Option Block) (offset : ℤ) (count : ℕ) → IsDeadOrNone found → block_fault found offset count ≡ Some access_to_dead_object
fault_of_gone None offset count gone = refl
fault_of_gone (Some block) offset count gone = ap (λ (live : Bool). block_fault_of live (length block.bytes) offset count) gone

fault_at : (there : ℕ → ℕ) (paired : Bool) (one other : Option Block) (offset : ℤ) (count : ℕ) → AtBoth there paired one other → block_fault other offset count ≡ block_fault one offset count
fault_at there paired one other offset count (BothLive inside block block' is is' alike) = let looks = alike.looks in
    ap (λ (found : Option Block). block_fault found offset count) is'
    ∙ (ap (λ (live : Bool). block_fault_of live (length block'.bytes) offset count) (looks.live ∙ sym alike.live)
    ∙ (ap (λ (size : ℕ). block_fault_of block.live size offset count) (size_alike there block block' alike)
    ∙ ap (λ (found : Option Block). block_fault found offset count) (sym is)))
fault_at there paired one other offset count (BothDead inside block block' is is' alike) =
    fault_of_gone other offset count (gone_from other block' is' alike.dead') ∙ sym (fault_of_gone one offset count (gone_from one block is alike.dead))
fault_at there paired one other offset count (Unpaired outside gone gone') = fault_of_gone other offset count gone' ∙ sym (fault_of_gone one offset count gone)

free_fault_at : (there : ℕ → ℕ) (paired : Bool) (one other : Option Block) (offset : ℤ) → paired ≡ true → AtBoth there paired one other → block_free_fault other offset ≡ block_free_fault one offset
free_fault_at there paired one other offset is_paired (BothLive inside block block' is is' alike) = let looks = alike.looks in
    ap (λ (found : Option Block). block_free_fault found offset) is'
    ∙ (ap (λ (live : Bool). free_fault_of block'.kind live offset) (looks.live ∙ sym alike.live)
    ∙ (ap (λ (kind : BlockKind). free_fault_of kind block.live offset) looks.kind
    ∙ ap (λ (found : Option Block). block_free_fault found offset) (sym is)))
free_fault_at there paired one other offset is_paired (BothDead inside block block' is is' alike) =
    ap (λ (found : Option Block). block_free_fault found offset) is'
    ∙ (ap (λ (live : Bool). free_fault_of block'.kind live offset) (alike.dead' ∙ sym alike.dead)
    ∙ (ap (λ (kind : BlockKind). free_fault_of kind block.live offset) alike.kind
    ∙ ap (λ (found : Option Block). block_free_fault found offset) (sym is)))
free_fault_at there paired one other offset is_paired (Unpaired outside gone gone') = absurd (false≢true (sym outside ∙ is_paired))

no_bytes : (found : Option Block) (offset : ℤ) → block_bytes found offset 0 ≡ []
no_bytes None offset = refl
no_bytes (Some block) (pos from) = refl
no_bytes (Some block) (negsuc before) = refl

no_bytes_at : (memory : List Block) (at : Word) → bytes_at memory at 0 ≡ []
no_bytes_at memory (Plain number) = refl
no_bytes_at memory (To block offset) = no_bytes (slice_get memory block) offset

module _ (there back : ℕ → ℕ) (paired : ℕ → Bool) (memory other : List Block) (are : AreAlike there back paired memory other) where
  at : (number : ℕ) → AtBoth there (paired number) (slice_get memory number) (slice_get other (there number))
  at number = at_both there back paired memory other are number

  -- Faults.

  pub access_fault-alike : (at : Word) (count : ℕ) → access_fault other (renumbered_word there at) count ≡ access_fault memory at count
  access_fault-alike (Plain number) count = refl
  access_fault-alike (To block offset) count = fault_at there (paired block) (slice_get memory block) (slice_get other (there block)) offset count (at block)

  pub range_fault-alike : (at : Word) (count : ℕ) → range_fault other (renumbered_word there at) count ≡ range_fault memory at count
  range_fault-alike at zero = refl
  range_fault-alike at (suc count) = access_fault-alike at (suc count)

  pub free_fault-alike : (at : Word) → WordNamesAmong paired at → free_fault other (renumbered_word there at) ≡ free_fault memory at
  free_fault-alike (Plain number) names = refl
  free_fault-alike (To block offset) names = free_fault_at there (paired block) (slice_get memory block) (slice_get other (there block)) offset names (at block)

  share-alike : (one second : Word) (count : ℕ) → share_byte (renumbered_word there one) (renumbered_word there second) count ≡ share_byte one second count
  share-alike (Plain number) second count = refl
  share-alike (To block offset) (Plain number) count = refl
  share-alike (To block offset) (To block' offset') count =
      ap (λ (same : Bool). same && (int_lt offset (offset' +ℤ pos count) && int_lt offset' (offset +ℤ pos count))) (nat_eq-there there back are.same block block')

  pub copy_fault-alike : (to from : Word) (count : ℕ) (disjoint : Bool) →
      copy_fault other (renumbered_word there to) (renumbered_word there from) count disjoint ≡ copy_fault memory to from count disjoint
  copy_fault-alike to from count disjoint =
      ap (λ (fault : Option ℕ). first_fault fault (first_fault (range_fault other (renumbered_word there to) count)
      (if disjoint && share_byte (renumbered_word there to) (renumbered_word there from) count then Some overlapping_copy else None))) (range_fault-alike from count)
      ∙ (ap (λ (fault : Option ℕ). first_fault (range_fault memory from count) (first_fault fault
      (if disjoint && share_byte (renumbered_word there to) (renumbered_word there from) count then Some overlapping_copy else None))) (range_fault-alike to count)
      ∙ ap (λ (share : Bool). first_fault (range_fault memory from count) (first_fault (range_fault memory to count)
      (if disjoint && share then Some overlapping_copy else None))) (share-alike to from count))

  -- Bytes.

  pub live_there : (number : ℕ) (block : Block) → slice_get memory number ≡ Some block → block.live ≡ true →
      (block' : Block) × (slice_get other (there number) ≡ Some block') × AreLiveAlike there block block' × (paired number ≡ true)
  live_there number block stands live = by_case (at number)
    where
      by_case : AtBoth there (paired number) (slice_get memory number) (slice_get other (there number)) →
          (block' : Block) × (slice_get other (there number) ≡ Some block') × AreLiveAlike there block block' × (paired number ≡ true)
      by_case (BothLive inside found found' is is' alike) =
          (found', is', subst (λ (here : Block). AreLiveAlike there here found') (same_Some found block (sym is ∙ stands)) alike, inside)
      by_case (BothDead inside found found' is is' alike) = absurd (dead_lives (slice_get memory number) block stands (gone_from (slice_get memory number) found is alike.dead) live)
      by_case (Unpaired outside gone gone') = absurd (dead_lives (slice_get memory number) block stands gone live)

  block_bytes-live : (block block' : Block) (offset : ℤ) (count : ℕ) → AreLiveAlike there block block' →
      block_bytes (Some block') offset count ≡ map (renumbered_byte there) (block_bytes (Some block) offset count)
  block_bytes-live block block' (negsuc before) count alike = refl
  block_bytes-live block block' (pos from) count alike = let looks = alike.looks in
      ap (λ (bytes : List Byte). take count (drop from bytes)) looks.bytes
      ∙ (ap (take count) (drop-map (renumbered_byte there) from block.bytes) ∙ take-map (renumbered_byte there) count (drop from block.bytes))

  bytes_at-live : (at : Word) (count : ℕ) → access_fault memory at count ≡ None → bytes_at other (renumbered_word there at) count ≡ map (renumbered_byte there) (bytes_at memory at count)
  bytes_at-live at count none =
      let leads = LeadsTo-access memory at count none in
      let found = live_there leads.number leads.block leads.stands leads.live in
      ap (λ (word : Word). bytes_at other (renumbered_word there word) count) leads.is
      ∙ (ap (λ (block : Option Block). block_bytes block (pos leads.from) count) found.1
      ∙ (block_bytes-live leads.block found.0 (pos leads.from) count found.2
      ∙ (ap (λ (block : Option Block). map (renumbered_byte there) (block_bytes block (pos leads.from) count)) (sym leads.stands)
      ∙ ap (λ (word : Word). map (renumbered_byte there) (bytes_at memory word count)) (sym leads.is))))

  pub bytes_at-alike : (at : Word) (count : ℕ) → range_fault memory at count ≡ None → bytes_at other (renumbered_word there at) count ≡ map (renumbered_byte there) (bytes_at memory at count)
  bytes_at-alike at zero none = no_bytes_at other (renumbered_word there at) ∙ ap (map (renumbered_byte there)) (sym (no_bytes_at memory at))
  bytes_at-alike at (suc count) none = bytes_at-live at (suc count) none

  names_at-live : (at : Word) (count : ℕ) → access_fault memory at count ≡ None → All (NamesAmong paired) (bytes_at memory at count)
  names_at-live at count none =
      let leads = LeadsTo-access memory at count none in
      All-same (NamesAmong paired) (bytes_at memory at count) (take count (drop leads.from leads.block.bytes))
      (ap (λ (word : Word). bytes_at memory word count) leads.is ∙ ap (λ (block : Option Block). block_bytes block (pos leads.from) count) leads.stands)
      (All-take (NamesAmong paired) count (drop leads.from leads.block.bytes)
      (All-drop (NamesAmong paired) leads.from leads.block.bytes (are.held leads.number leads.block leads.stands leads.live)))

  pub names_at : (at : Word) (count : ℕ) → range_fault memory at count ≡ None → All (NamesAmong paired) (bytes_at memory at count)
  names_at at zero none = All-same (NamesAmong paired) (bytes_at memory at 0) [] (no_bytes_at memory at) (All-nil (NamesAmong paired))
  names_at at (suc count) none = names_at-live at (suc count) none

  -- Addresses.

  address_in-live : (block : ℕ) (offset : ℤ) → IsLiveAt memory block → address_in other (there block) offset ≡ address_in memory block offset
  address_in-live block offset lives =
      let found = live_there block lives.block lives.stands lives.live in
      let alike = found.2 in
      ap (λ (base : ℕ). wrapped (pos base +ℤ offset))
      (ap (λ (found : Option Block). option_map_or (λ (found : Block). found.base) found 0) found.1
      ∙ (alike.base ∙ ap (λ (found : Option Block). option_map_or (λ (found : Block). found.base) found 0) (sym lives.stands)))

  pub address_number-alike : (word : Word) → DoesNotDangle memory word → address_number other (renumbered_word there word) ≡ address_number memory word
  address_number-alike (Plain number) lives = refl
  address_number-alike (To block offset) lives = address_in-live block offset lives

  pub is_same-alike : (left right : Word) → DoesNotDangle memory left → DoesNotDangle memory right →
      is_same_address other (renumbered_word there left) (renumbered_word there right) ≡ is_same_address memory left right
  is_same-alike left right lives lives' =
      ap (λ (address : ℕ). nat_eq address (address_number other (renumbered_word there right))) (address_number-alike left lives)
      ∙ ap (nat_eq (address_number memory left)) (address_number-alike right lives')

  pub byte_number-alike : (byte : Byte) → ByteDoesNotDangle memory byte → byte_number other (renumbered_byte there byte) ≡ byte_number memory byte
  byte_number-alike (Num number) lives = refl
  byte_number-alike (Part block offset k) lives = ap (λ (address : ℕ). byte_of address k) (address_in-live block offset lives)

  -- Loads.

  byte_numbers-alike : (bytes : List Byte) → All (ByteDoesNotDangle memory) bytes → map (byte_number other) (map (renumbered_byte there) bytes) ≡ map (byte_number memory) bytes
  byte_numbers-alike [] all = refl
  byte_numbers-alike (byte ∷ rest) all =
      ap (λ (number : ℕ). number ∷ map (byte_number other) (map (renumbered_byte there) rest)) (byte_number-alike byte (All-head (ByteDoesNotDangle memory) byte rest all))
      ∙ ap (λ (more : List ℕ). byte_number memory byte ∷ more) (byte_numbers-alike rest (All-tail (ByteDoesNotDangle memory) byte rest all))

  number_read-alike : (bytes : List Byte) → All (ByteDoesNotDangle memory) bytes → number_read other (map (renumbered_byte there) bytes) ≡ renumbered_word there (number_read memory bytes)
  number_read-alike bytes all = ap (λ (numbers : List ℕ). Plain (from_le_bytes w64 numbers)) (byte_numbers-alike bytes all)

  pointer_read-alike : (bytes : List Byte) → All (ByteDoesNotDangle memory) bytes → pointer_read other (map (renumbered_byte there) bytes) ≡ renumbered_word there (pointer_read memory bytes)
  pointer_read-alike [] all = number_read-alike [] all
  pointer_read-alike (Num number ∷ rest) all = number_read-alike (Num number ∷ rest) all
  pointer_read-alike (Part block offset k ∷ rest) all =
      ap (λ (whole : Bool). if whole then To (there block) offset else number_read other (map (renumbered_byte there) (Part block offset k ∷ rest)))
      (are_parts-there there back are.same block offset 0 (Part block offset k ∷ rest))
      ∙ by_test (are_parts block offset 0 (Part block offset k ∷ rest))
    where
      by_test : (whole : Bool) → (if whole then To (there block) offset else number_read other (map (renumbered_byte there) (Part block offset k ∷ rest)))
          ≡ renumbered_word there (if whole then To block offset else number_read memory (Part block offset k ∷ rest))
      by_test true = refl
      by_test false = number_read-alike (Part block offset k ∷ rest) all

  pub loaded-alike : (at : Word) (size : ℕ) (pointer : Bool) → access_fault memory at size ≡ None → All (ByteDoesNotDangle memory) (bytes_at memory at size) →
      loaded other (renumbered_word there at) size pointer ≡ renumbered_word there (loaded memory at size pointer)
  loaded-alike at size true none all = ap (pointer_read other) (bytes_at-live at size none) ∙ pointer_read-alike (bytes_at memory at size) all
  loaded-alike at size false none all = ap (number_read other) (bytes_at-live at size none) ∙ number_read-alike (bytes_at memory at size) all

  pub pointer-alike : (at : Word) (size block : ℕ) (offset : ℤ) → access_fault memory at size ≡ None →
      loaded memory at size true ≡ To block offset → loaded other (renumbered_word there at) size true ≡ To (there block) offset
  pointer-alike at size block offset none is =
      (pointer_read_whole other (bytes_at other (renumbered_word there at) size) (there block) offset).1
      (bytes_at-live at size none ∙ ap (map (renumbered_byte there)) ((pointer_read_whole memory (bytes_at memory at size) block offset).0 is))

  -- bytes that are outside pointer are none under other numbers
  number_read-parts : (bytes : List Byte) (number : ℕ) → pointer_read memory bytes ≡ Plain number → (number' : ℕ) × (pointer_read other (map (renumbered_byte there) bytes) ≡ Plain number')
  number_read-parts [] number is = (_, refl)
  number_read-parts (Num first ∷ rest) number is = (_, refl)
  number_read-parts (Part block offset k ∷ rest) number is = by_test (are_parts block offset 0 (Part block offset k ∷ rest)) refl
    where
      by_test : (whole : Bool) → are_parts block offset 0 (Part block offset k ∷ rest) ≡ whole →
          (number' : ℕ) × (pointer_read other (map (renumbered_byte there) (Part block offset k ∷ rest)) ≡ Plain number')
      by_test true test =
          let same : To block offset ≡ Plain number =
          ap (λ (whole : Bool). if whole then To block offset else number_read memory (Part block offset k ∷ rest)) (sym test) ∙ is in
          absurd cc
      by_test false test = (
        _,
        ap (λ (whole : Bool). if whole then To (there block) offset else number_read other (map (renumbered_byte there) (Part block offset k ∷ rest)))
            (are_parts-there there back are.same block offset 0 (Part block offset k ∷ rest) ∙ test),
      )

  pub parts-alike : (at : Word) (size : ℕ) (pointer : Bool) (number : ℕ) → access_fault memory at size ≡ None → loaded memory at size pointer ≡ Plain number →
      (number' : ℕ) × (loaded other (renumbered_word there at) size pointer ≡ Plain number')
  parts-alike at size false number none is = (_, refl)
  parts-alike at size true number none is =
      let read = number_read-parts (bytes_at memory at size) number is in
      (read.0, ap (pointer_read other) (bytes_at-live at size none) ∙ read.1)

  -- a word that is read names what is paired
  word_names : (bytes : List Byte) (word : Word) → pointer_read memory bytes ≡ word → All (NamesAmong paired) bytes → WordNamesAmong paired word
  word_names bytes (Plain number) is all = tt
  word_names bytes (To block offset) is all =
      All-head (NamesAmong paired) (Part block offset 0) (map (Part block offset) (1 ∷ 2 ∷ 3 ∷ 4 ∷ 5 ∷ 6 ∷ 7 ∷ []))
      (All-same (NamesAmong paired) (word_bytes (To block offset)) bytes (sym ((pointer_read_whole memory bytes block offset).0 is)) all)

  pub loaded_names : (at : Word) (size : ℕ) (pointer : Bool) → access_fault memory at size ≡ None → WordNamesAmong paired (loaded memory at size pointer)
  loaded_names at size false none = tt
  loaded_names at size true none = word_names (bytes_at memory at size) (pointer_read memory (bytes_at memory at size)) refl (names_at-live at size none)
