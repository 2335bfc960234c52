-- The kinds of faults, by the numbers that reports print. A fault ends the run.
use Rattle.std.specs.Prelude.{ℕ, Bool, ◌&&◌, nat_le}

-- an access through a plain number below 4,096 (C11 6.5.3.2p4)
abbrev pub null_pointer_dereference : ℕ
null_pointer_dereference = 1

-- the block lives and the range accessed is not in it (C11 6.5.6p8)
abbrev pub access_outside_object : ℕ
access_outside_object = 2

-- the block is dead (C11 6.2.4p2)
abbrev pub access_to_dead_object : ℕ
access_to_dead_object = 3

-- an access through a plain number of 4,096 or more
abbrev pub access_through_invalid_address : ℕ
access_through_invalid_address = 4

-- a free of offset 0 of a dead heap block (C11 7.22.3.3p2)
abbrev pub double_free : ℕ
double_free = 5

-- a free of anything else that is not null and not offset 0 of a live heap block (C11 7.22.3.3p2)
abbrev pub invalid_free : ℕ
invalid_free = 6

-- a live heap block that no chain of whole stored pointers leads to
abbrev pub memory_lost : ℕ
memory_lost = 7

-- a memcpy whose two ranges share a byte of a block (C11 7.24.2.1p2)
abbrev pub overlapping_copy : ℕ
overlapping_copy = 8

-- a heap block that lives when main returns, where that is asked for
abbrev pub block_never_freed : ℕ
block_never_freed = 9

-- whether a number is that of a kind
abbrev pub is_kind : ℕ → Bool
is_kind number = nat_le 1 number && nat_le number 9
