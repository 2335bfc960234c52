-- Worked examples: what the definitions compute in a small memory.
use Rattle.std.specs.Prelude.{◌≡◌, ℕ, ◌-◌, ◌^◌, true, false, List, [], ◌∷◌, ◌++◌, map, take, replicate, pos, negsuc, None, Some}
use Rattle.bytes_core.specs.declared.byte.Byte.{Byte}
use Rattle.bytes_core.specs.declared.byte.Byte.TheVariants.{Num, Part}
use Rattle.bytes_core.specs.declared.word.Word.TheVariants.{Plain, To}
use Rattle.bytes_core.specs.declared.block.BlockKind.TheVariants.{Local, Heap}
use Rattle.bytes_core.specs.declared.block.Block.{Block}
use Rattle.bytes_core.specs.Fault.{null_pointer_dereference, access_outside_object, access_to_dead_object, access_through_invalid_address, overlapping_copy, double_free, invalid_free}
use Rattle.bytes_core.specs.Value.{pointer_read, address_number, is_same_address, is_inside, moved}
use Rattle.bytes_core.specs.Placement.{can_be_placed, is_placed, new_block}
use Rattle.bytes_core.specs.Access.{access_fault, range_fault, stored}
use Rattle.bytes_core.specs.Copying.{copy_fault}
use Rattle.bytes_core.specs.Release.{free_fault}
use Rattle.bytes_core.specs.Loss.{holds_pointer_to, is_lost}

-- the parts of the pointer to block 1
abbrev pub parts : List Byte
parts = map (Part 1 (pos 0)) (0 ∷ 1 ∷ 2 ∷ 3 ∷ 4 ∷ 5 ∷ 6 ∷ 7 ∷ [])

-- so many bytes that are 0
abbrev pub zeros : ℕ → List Byte
zeros count = replicate count (Num 0)

-- block 0 is a variable, in 16 bytes that hold the pointer to block 1 and then 0; block 1 is allocated, in 8
-- bytes; block 2 was freed, and had 8 bytes
abbrev pub example : List Block
example =
    record { base = 4096; kind = Local; live = true; bytes = parts ++ zeros 8 }
    ∷ record { base = 8192; kind = Heap; live = true; bytes = zeros 8 }
    ∷ record { base = 12288; kind = Heap; live = false; bytes = zeros 8 }
    ∷ []

-- what is computed of them
pub record AreExamples : Type 0 where
  -- a pointer's eight parts in order are read as the pointer
  pub eight_parts : pointer_read example parts ≡ To 1 (pos 0)
  -- seven of them and a 0 are read as a number
  pub seven_parts : pointer_read example (take 7 parts ++ zeros 1) ≡ Plain 8192
  -- a whole pointer holds its block, wherever it stands
  pub whole_pointer : holds_pointer_to 1 (zeros 3 ++ parts) ≡ true
  -- half a pointer holds no block
  pub half_pointer : holds_pointer_to 1 (take 4 parts ++ zeros 4) ≡ false
  -- the variable leads to the allocated block
  pub kept : is_lost example (0 ∷ []) ≡ false
  -- with no variable the allocated block is lost
  pub no_variable : is_lost example [] ≡ true
  -- a 0 written over one byte of the only pointer to it loses it too
  pub broken_pointer : is_lost (stored example (To 0 (pos 3)) 1 (Plain 0)) (0 ∷ []) ≡ true
  -- 8 bytes before a block are outside
  pub before_start : access_fault example (To 1 (negsuc 7)) 8 ≡ Some access_outside_object
  -- the last byte of a block is inside
  pub last_byte : access_fault example (To 1 (pos 7)) 1 ≡ None
  -- one past the end is outside (C11 6.5.6p8)
  pub past_end : access_fault example (To 1 (pos 8)) 1 ≡ Some access_outside_object
  -- nothing of a dead block may be accessed (C11 6.2.4p2)
  pub dead_block : access_fault example (To 2 (pos 0)) 1 ≡ Some access_to_dead_object
  -- `memcpy` between ranges that overlap is a fault (C11 7.24.2.1p2)
  pub memcpy_overlap : copy_fault example (To 0 (pos 4)) (To 0 (pos 0)) 8 true ≡ Some overlapping_copy
  -- `memmove` between them is none (C11 7.24.2.2p2)
  pub memmove_overlap : copy_fault example (To 0 (pos 4)) (To 0 (pos 0)) 8 false ≡ None
  -- ranges that only touch do not overlap
  pub memcpy_beside : copy_fault example (To 0 (pos 8)) (To 0 (pos 0)) 8 true ≡ None
  -- a fill of nothing is no access
  pub empty_fill : range_fault example (Plain 0) 0 ≡ None
  -- a fill of one byte is one
  pub null_fill : range_fault example (Plain 0) 1 ≡ Some null_pointer_dereference
  -- a free inside a block is invalid (C11 7.22.3.3p2)
  pub inner_free : free_fault example (To 1 (pos 1)) ≡ Some invalid_free
  -- the first 4,096 addresses are null's, and the next is invalid
  pub low_address : access_fault example (Plain 4095) 1 ≡ Some null_pointer_dereference
  pub high_address : access_fault example (Plain 4096) 1 ≡ Some access_through_invalid_address
  -- a second free (C11 7.22.3.3p2)
  pub second_free : free_fault example (To 2 (pos 0)) ≡ Some double_free
  -- an address is a number of 64 bits, also below its block
  pub address_of_zero : address_number example (To 1 (negsuc 8191)) ≡ 0
  pub address_below_zero : address_number example (To 1 (negsuc 8192)) ≡ 2 ^ 64 - 1
  -- a pointer equals the number that is its address (C11 6.5.9)
  pub same_address : is_same_address example (To 1 (pos 0)) (Plain 8192) ≡ true
  -- an offset wraps as a number of 64 bits with a sign
  pub offset_wraps : moved (To 1 (pos (2 ^ 63 - 1))) (pos 1) ≡ To 1 (negsuc (2 ^ 63 - 1))
  -- one past the end is not inside
  pub inside_last : is_inside 8 (pos 7) ≡ true
  pub inside_end : is_inside 8 (pos 8) ≡ false
  -- an empty block takes 16 bytes of addresses, and may be the last that there is
  pub last_place : is_placed (new_block Heap (2 ^ 47 - 16) []) ≡ true
  pub past_last_place : is_placed (new_block Heap (2 ^ 47) []) ≡ false
  pub beside_empty : can_be_placed (new_block Heap 16 [] ∷ []) (new_block Heap 32 []) ≡ true
  -- a live block's addresses are taken, a dead one's are free again
  pub over_live : can_be_placed example (new_block Heap 8192 []) ≡ false
  pub over_dead : can_be_placed example (new_block Heap 12288 []) ≡ true
