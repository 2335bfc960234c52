-- `free` (C11 7.22.3.3).
use Rattle.std.specs.Prelude.{ℕ, Bool, true, false, ◌&&◌, List, slice_get, slice_set, nat_eq, ℤ, pos, Option, None, Some, if◌then◌else◌}
use Rattle.std.specs.Ordering.{int_eq}
use Rattle.bytes_core.specs.declared.word.Word.{Word}
use Rattle.bytes_core.specs.declared.word.Word.TheVariants.{Plain, To}
use Rattle.bytes_core.specs.declared.block.BlockKind.{BlockKind}
use Rattle.bytes_core.specs.declared.block.BlockKind.TheVariants.{Static, Local, Heap}
use Rattle.bytes_core.specs.declared.block.Block.{Block}
use Rattle.bytes_core.specs.Fault.{double_free, invalid_free}

-- whether a block of this kind was allocated
abbrev pub is_heap : BlockKind → Bool
is_heap Static = false
is_heap Local = false
is_heap Heap = true

-- the fault of a free at an offset of a block, if it meets one; a number that names no block is no heap block
abbrev pub block_free_fault : Option Block → ℤ → Option ℕ
block_free_fault None offset = Some invalid_free
block_free_fault (Some block) offset =
    if is_heap block.kind && int_eq offset (pos 0) then (if block.live then None else Some double_free)
    else Some invalid_free

-- the fault of a free through a word, if it meets one
abbrev pub free_fault : List Block → Word → Option ℕ
free_fault memory (Plain number) = if nat_eq number 0 then None else Some invalid_free
free_fault memory (To block offset) = block_free_fault (slice_get memory block) offset

-- a memory whose block of this number is dead
abbrev pub without : List Block → ℕ → Option Block → List Block
without memory number None = memory
without memory number (Some block) = slice_set memory number (record block { live = false })

-- the memory after a free through a word, where that meets no fault; null changes nothing
abbrev pub freed : List Block → Word → List Block
freed memory (Plain number) = memory
freed memory (To block offset) = without memory block (slice_get memory block)
