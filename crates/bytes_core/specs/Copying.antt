-- Copies, as `memcpy` and `memmove` make them (C11 7.24.2).
use Rattle.std.specs.Prelude.{ℕ, Bool, false, ◌&&◌, List, nat_eq, pos, ◌+ℤ◌, int_lt, Option, None, Some, if◌then◌else◌}
use Rattle.bytes_core.specs.declared.word.Word.{Word}
use Rattle.bytes_core.specs.declared.word.Word.TheVariants.{Plain, To}
use Rattle.bytes_core.specs.declared.block.Block.{Block}
use Rattle.bytes_core.specs.Fault.{overlapping_copy}
use Rattle.bytes_core.specs.Access.{range_fault, bytes_at, written_at}

-- whether `count` bytes from one word on and from another share a byte of a block
abbrev pub share_byte : Word → Word → ℕ → Bool
share_byte (To one offset) (To other offset') count =
    nat_eq one other && (int_lt offset (offset' +ℤ pos count) && int_lt offset' (offset +ℤ pos count))
share_byte (To one offset) (Plain number) count = false
share_byte (Plain number) other count = false

-- the first fault that there is
abbrev pub first_fault : Option ℕ → Option ℕ → Option ℕ
first_fault (Some kind) later = Some kind
first_fault None later = later

-- the fault of a copy, if it meets one: the source is looked at first, then the target, then, where the
-- ranges must be disjoint, whether they share a byte
abbrev pub copy_fault : List Block → Word → Word → ℕ → Bool → Option ℕ
copy_fault memory to from count disjoint =
    first_fault (range_fault memory from count)
    (first_fault (range_fault memory to count)
    (if disjoint && share_byte to from count then Some overlapping_copy else None))

-- the memory after a copy, where that meets no fault; parts of pointers are copied as they are
abbrev pub copied : List Block → Word → Word → ℕ → List Block
copied memory to from count = written_at memory to (bytes_at memory from count)
