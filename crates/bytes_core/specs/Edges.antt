-- Worked examples at the edges: which lists of blocks are memories, and what addresses, moves, fills, copies and
-- frees come to where one more or one less would be another answer.
use Rattle.std.specs.Prelude.{◌≡◌, ℕ, ◌+◌, ◌-◌, ◌^◌, Bool, true, false, List, [], ◌∷◌, ◌++◌, map, replicate, pos, negsuc, None, Some}
use Rattle.bytes_core.specs.declared.byte.Byte.{Byte}
use Rattle.bytes_core.specs.declared.byte.Byte.TheVariants.{Num, Part}
use Rattle.bytes_core.specs.declared.word.Word.TheVariants.{Plain, To}
use Rattle.bytes_core.specs.declared.block.BlockKind.TheVariants.{Static, Local, Heap}
use Rattle.bytes_core.specs.declared.block.Block.{Block}
use Rattle.bytes_core.specs.Fault.{null_pointer_dereference, access_outside_object, access_to_dead_object, overlapping_copy, double_free, invalid_free}
use Rattle.bytes_core.specs.Value.{is_same_address, is_inside, moved}
use Rattle.bytes_core.specs.Placement.{can_be_placed, is_placed, new_block}
use Rattle.bytes_core.specs.Access.{access_fault, range_fault, bytes_at, filled}
use Rattle.bytes_core.specs.Copying.{share_byte, copy_fault, copied}
use Rattle.bytes_core.specs.Release.{free_fault}
use Rattle.bytes_core.specs.Valid.{IsMemory}
use Rattle.bytes_core.specs.Examples.{example, zeros}

-- an allocated block with these bytes
abbrev pub heap_block : ℕ → Bool → List Byte → Block
heap_block base live bytes = record { base = base; kind = Heap; live = live; bytes = bytes }

-- a live block of one byte at address 16, and one more of the same byte
abbrev pub pair : ℕ → Bool → Byte → List Block
pair base live byte = heap_block 16 true (byte ∷ []) ∷ heap_block base live (byte ∷ []) ∷ []

-- which lists of blocks are memories
pub record AreMemories : Type 0 where
  pub no_blocks : IsMemory []
  -- one block behind the other, and one over the other where that is dead
  pub beside : IsMemory (pair 32 true (Num 0))
  pub over_live : ¬ IsMemory (pair 16 true (Num 0))
  pub over_dead : IsMemory (pair 16 false (Num 0))
  -- a block of 17 bytes ends behind the next multiple of 16
  pub into_next : ¬ IsMemory (heap_block 16 true (zeros 17) ∷ heap_block 32 true [] ∷ [])
  -- a base is a multiple of 16, from 16 on, and a block ends by 2^47; a dead block is placed so too
  pub unaligned : ¬ IsMemory (pair 40 true (Num 0))
  pub at_zero : ¬ IsMemory (pair 0 true (Num 0))
  pub dead_at_zero : ¬ IsMemory (pair 0 false (Num 0))
  pub last : IsMemory (pair (2 ^ 47 - 16) true (Num 0))
  pub past_last : ¬ IsMemory (pair (2 ^ 47) true (Num 0))
  -- a part of a pointer names a block of the memory, at any offset, and is one of eight
  pub named : IsMemory (pair 32 true (Part 1 (negsuc 0) 7))
  pub not_named : ¬ IsMemory (pair 32 true (Part 2 (pos 0) 0))
  pub ninth_part : ¬ IsMemory (pair 32 true (Part 1 (pos 0) 8))

-- bases of new blocks
pub record ArePlaces : Type 0 where
  pub first : is_placed (new_block Heap 16 []) ≡ true
  pub at_zero : is_placed (new_block Heap 0 []) ≡ false
  pub unaligned : is_placed (new_block Heap 24 []) ≡ false
  pub odd : is_placed (new_block Local 17 []) ≡ false
  pub unaligned_static : is_placed (new_block Static (2 ^ 46 + 8) []) ≡ false
  -- a block may begin where another ends, and end where another begins
  pub behind : can_be_placed (new_block Heap 16 (replicate 32 0) ∷ []) (new_block Heap 48 []) ≡ true
  pub over_end : can_be_placed (new_block Heap 16 (replicate 33 0) ∷ []) (new_block Heap 48 []) ≡ false
  pub before : can_be_placed (new_block Heap 48 [] ∷ []) (new_block Heap 16 (replicate 32 0)) ≡ true
  pub over_begin : can_be_placed (new_block Heap 48 [] ∷ []) (new_block Heap 16 (replicate 33 0)) ≡ false

-- addresses, which `==` compares, and moves (C11 6.5.6p8, 6.5.9)
pub record AreAddresses : Type 0 where
  -- two pointers into different blocks are equal where their addresses are, also into dead ones
  pub end_of_other : is_same_address example (To 1 (pos 4096)) (To 2 (pos 0)) ≡ true
  pub beside_other : is_same_address example (To 1 (pos 4095)) (To 2 (pos 0)) ≡ false
  pub before_other : is_same_address example (To 2 (negsuc 4095)) (To 1 (pos 0)) ≡ true
  -- two offsets of one block are two addresses
  pub other_offset : is_same_address example (To 1 (pos 0)) (To 1 (pos 1)) ≡ false
  pub same_offset : is_same_address example (To 1 (negsuc 0)) (To 1 (negsuc 0)) ≡ true
  -- numbers are compared as they are
  pub same_number : is_same_address example (Plain 7) (Plain 7) ≡ true
  pub other_number : is_same_address example (Plain 0) (Plain (2 ^ 64 - 1)) ≡ false
  -- a pointer moved back by its base equals null, and one byte more is the greatest number
  pub null : is_same_address example (To 1 (negsuc 8191)) (Plain 0) ≡ true
  pub below_null : is_same_address example (To 1 (negsuc 8192)) (Plain (2 ^ 64 - 1)) ≡ true
  -- a number wraps modulo 2^64, in both directions
  pub moved_number : moved (Plain 5) (pos 3) ≡ Plain 8
  pub moved_back : moved (Plain 5) (negsuc 4) ≡ Plain 0
  pub moved_below_zero : moved (Plain 5) (negsuc 5) ≡ Plain (2 ^ 64 - 1)
  pub moved_past_last : moved (Plain (2 ^ 64 - 1)) (pos 1) ≡ Plain 0
  pub moved_to_last : moved (Plain (2 ^ 64 - 2)) (pos 1) ≡ Plain (2 ^ 64 - 1)
  -- an offset may lie before the block, and wraps at 64 bits with a sign
  pub moved_pointer : moved (To 1 (pos 3)) (pos 5) ≡ To 1 (pos 8)
  pub moved_before : moved (To 1 (pos 0)) (negsuc 0) ≡ To 1 (negsuc 0)
  pub moved_below_least : moved (To 1 (negsuc (2 ^ 63 - 1))) (negsuc 0) ≡ To 1 (pos (2 ^ 63 - 1))
  -- an offset before a block is not inside, and nothing is inside an empty one
  pub inside_first : is_inside 1 (pos 0) ≡ true
  pub inside_before : is_inside 8 (negsuc 0) ≡ false
  pub inside_empty : is_inside 0 (pos 0) ≡ false

-- accesses, fills and copies: block 1 has 8 bytes and lives, block 2 had 8 (C11 6.2.4p2, 6.5.6p8, 7.24.2, 7.24.6.1)
pub record AreRanges : Type 0 where
  pub whole_block : access_fault example (To 1 (pos 0)) 8 ≡ None
  pub one_byte_more : access_fault example (To 1 (pos 0)) 9 ≡ Some access_outside_object
  pub one_byte_on : access_fault example (To 1 (pos 1)) 8 ≡ Some access_outside_object
  -- that a block is dead counts before the range
  pub dead_past_end : access_fault example (To 2 (pos 8)) 1 ≡ Some access_to_dead_object
  pub dead_before_start : access_fault example (To 2 (negsuc 0)) 100 ≡ Some access_to_dead_object
  -- fills
  pub fill_whole : range_fault example (To 1 (pos 0)) 8 ≡ None
  pub fill_past : range_fault example (To 1 (pos 0)) 9 ≡ Some access_outside_object
  pub fill_dead : range_fault example (To 2 (pos 0)) 1 ≡ Some access_to_dead_object
  pub fill_nothing_past : range_fault example (To 1 (pos 9)) 0 ≡ None
  pub fill_nothing_dead : range_fault example (To 2 (pos 0)) 0 ≡ None
  pub filled_end : bytes_at (filled example (To 1 (pos 5)) 7 3) (To 1 (pos 0)) 8 ≡ zeros 5 ++ (Num 7 ∷ Num 7 ∷ Num 7 ∷ [])
  -- the whole source is looked at, then the whole target
  pub copy_whole : copy_fault example (To 1 (pos 0)) (To 0 (pos 0)) 8 true ≡ None
  pub copy_past_target : copy_fault example (To 1 (pos 1)) (To 0 (pos 0)) 8 true ≡ Some access_outside_object
  pub copy_past_source : copy_fault example (To 0 (pos 0)) (To 1 (pos 1)) 8 true ≡ Some access_outside_object
  pub source_first : copy_fault example (Plain 0) (To 2 (pos 0)) 8 true ≡ Some access_to_dead_object
  pub target_second : copy_fault example (Plain 0) (To 1 (pos 0)) 8 true ≡ Some null_pointer_dereference
  pub target_before_overlap : copy_fault example (To 1 (pos 4)) (To 1 (pos 0)) 8 true ≡ Some access_outside_object
  pub copy_nothing : copy_fault example (Plain 0) (To 2 (pos 0)) 0 true ≡ None
  -- ranges that share a byte, from below, from above and the same; ranges that touch share none
  pub overlap_above : copy_fault example (To 0 (pos 7)) (To 0 (pos 0)) 8 true ≡ Some overlapping_copy
  pub overlap_below : copy_fault example (To 0 (pos 0)) (To 0 (pos 7)) 8 true ≡ Some overlapping_copy
  pub overlap_same : copy_fault example (To 0 (pos 0)) (To 0 (pos 0)) 8 true ≡ Some overlapping_copy
  pub touch_above : copy_fault example (To 0 (pos 8)) (To 0 (pos 0)) 8 true ≡ None
  pub touch_below : copy_fault example (To 0 (pos 0)) (To 0 (pos 8)) 8 true ≡ None
  pub other_block : share_byte (To 0 (pos 0)) (To 1 (pos 0)) 8 ≡ false
  pub numbers_share_nothing : share_byte (Plain 8) (Plain 8) 8 ≡ false
  pub nothing_is_shared : share_byte (To 0 (pos 0)) (To 0 (pos 0)) 0 ≡ false
  -- a copy reads all of its source before it writes, in both directions
  pub copied_up : bytes_at (copied example (To 0 (pos 4)) (To 0 (pos 0)) 8) (To 0 (pos 0)) 16
      ≡ map (Part 1 (pos 0)) (0 ∷ 1 ∷ 2 ∷ 3 ∷ 0 ∷ 1 ∷ 2 ∷ 3 ∷ 4 ∷ 5 ∷ 6 ∷ 7 ∷ []) ++ zeros 4
  pub copied_down : bytes_at (copied example (To 0 (pos 0)) (To 0 (pos 4)) 8) (To 0 (pos 0)) 16
      ≡ map (Part 1 (pos 0)) (4 ∷ 5 ∷ 6 ∷ 7 ∷ []) ++ (zeros 4 ++ zeros 8)

-- a live and a dead block of each kind
abbrev pub kinds : List Block
kinds =
    record { base = 16; kind = Local; live = true; bytes = [] }
    ∷ record { base = 32; kind = Local; live = false; bytes = [] }
    ∷ record { base = 48; kind = Static; live = true; bytes = [] }
    ∷ record { base = 64; kind = Static; live = false; bytes = [] }
    ∷ record { base = 80; kind = Heap; live = true; bytes = [] }
    ∷ record { base = 96; kind = Heap; live = false; bytes = [] }
    ∷ []

-- frees (C11 7.22.3.3p2)
pub record AreFrees : Type 0 where
  pub live_local : free_fault kinds (To 0 (pos 0)) ≡ Some invalid_free
  pub dead_local : free_fault kinds (To 1 (pos 0)) ≡ Some invalid_free
  pub live_static : free_fault kinds (To 2 (pos 0)) ≡ Some invalid_free
  pub dead_static : free_fault kinds (To 3 (pos 0)) ≡ Some invalid_free
  pub empty_heap : free_fault kinds (To 4 (pos 0)) ≡ None
  pub dead_heap : free_fault kinds (To 5 (pos 0)) ≡ Some double_free
  -- away from its first byte a dead block is no double free
  pub inside_dead : free_fault kinds (To 5 (pos 1)) ≡ Some invalid_free
  pub before_live : free_fault kinds (To 4 (negsuc 0)) ≡ Some invalid_free
  -- of the numbers 0 alone is null, also where another is a block's address
  pub null : free_fault kinds (Plain 0) ≡ None
  pub number : free_fault kinds (Plain 1) ≡ Some invalid_free
  pub address : free_fault kinds (Plain 80) ≡ Some invalid_free
