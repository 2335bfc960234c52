-- Loads, stores and fills: which faults they meet, what they read and what they leave (C11 6.5.3.2, 6.5.16).
use Rattle.std.specs.Prelude.{ℕ, zero, suc, ◌+◌, Bool, false, List, [], ◌++◌, length, take, drop, replicate, slice_get, slice_set, nat_le, nat_lt, ℤ, pos, negsuc, Option, None, Some, if◌then◌else◌}
use Rattle.bytes_core.specs.declared.byte.Byte.{Byte}
use Rattle.bytes_core.specs.declared.byte.Byte.TheVariants.{Num}
use Rattle.bytes_core.specs.declared.word.Word.{Word}
use Rattle.bytes_core.specs.declared.word.Word.TheVariants.{Plain, To}
use Rattle.bytes_core.specs.declared.block.Block.{Block}
use Rattle.bytes_core.specs.Fault.{null_pointer_dereference, access_outside_object, access_to_dead_object, access_through_invalid_address}
use Rattle.bytes_core.specs.Value.{word_bytes, pointer_read, number_read}

-- whether `count` bytes from an offset on lie in a block of this size
abbrev pub is_within : ℕ → ℤ → ℕ → Bool
is_within size (pos from) count = nat_le (from + count) size
is_within size (negsuc before) count = false

-- the fault of an access to a block, if it meets one; a number that names no block counts as a dead one
abbrev pub block_fault : Option Block → ℤ → ℕ → Option ℕ
block_fault None offset count = Some access_to_dead_object
block_fault (Some block) offset count =
    if block.live then (if is_within (length block.bytes) offset count then None else Some access_outside_object)
    else Some access_to_dead_object

-- the fault of an access to `count` bytes through a word, if it meets one
abbrev pub access_fault : List Block → Word → ℕ → Option ℕ
access_fault memory (Plain number) count =
    if nat_lt number 4096 then Some null_pointer_dereference else Some access_through_invalid_address
access_fault memory (To block offset) count = block_fault (slice_get memory block) offset count

-- the bytes of a block from an offset on
abbrev pub block_bytes : Option Block → ℤ → ℕ → List Byte
block_bytes None offset count = []
block_bytes (Some block) (pos from) count = take count (drop from block.bytes)
block_bytes (Some block) (negsuc before) count = []

-- the `count` bytes that a word leads to, where an access to them meets no fault
abbrev pub bytes_at : List Block → Word → ℕ → List Byte
bytes_at memory (Plain number) count = []
bytes_at memory (To block offset) count = block_bytes (slice_get memory block) offset count

-- what a load of `size` bytes gives, at a pointer type or at an integer type, where it meets no fault
abbrev pub loaded : List Block → Word → ℕ → Bool → Word
loaded memory at size pointer =
    if pointer then pointer_read memory (bytes_at memory at size) else number_read memory (bytes_at memory at size)

-- bytes with others written over them from a place on
abbrev pub overwritten : List Byte → ℕ → List Byte → List Byte
overwritten bytes from written = take from bytes ++ (written ++ drop (from + length written) bytes)

-- a memory whose block of this number has other bytes
abbrev pub with_bytes : List Block → ℕ → Option Block → ℕ → List Byte → List Block
with_bytes memory number None from written = memory
with_bytes memory number (Some block) from written = slice_set memory number (record block { bytes = overwritten block.bytes from written })

-- the memory after bytes are written where a word leads, where that meets no fault
abbrev pub written_at : List Block → Word → List Byte → List Block
written_at memory (Plain number) written = memory
written_at memory (To block (pos from)) written = with_bytes memory block (slice_get memory block) from written
written_at memory (To block (negsuc before)) written = memory

-- the memory after a store of the lowest `size` bytes of a word, where that meets no fault
abbrev pub stored : List Block → Word → ℕ → Word → List Block
stored memory at size word = written_at memory at (take size (word_bytes word))

-- the fault of a fill or of one side of a copy, if it meets one; one of length 0 is no access
abbrev pub range_fault : List Block → Word → ℕ → Option ℕ
range_fault memory at zero = None
range_fault memory at (suc count) = access_fault memory at (suc count)

-- the memory after `count` bytes are filled with one number, as `memset` does (C11 7.24.6.1), where that
-- meets no fault
abbrev pub filled : List Block → Word → ℕ → ℕ → List Block
filled memory at number count = written_at memory at (replicate count (Num number))
