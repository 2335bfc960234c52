-- Where blocks lie: at a base that is a multiple of 16, from 16 on, ending by 2^47, each taking at least 16
-- bytes of addresses. Live blocks do not overlap. The addresses of dead blocks may be used again.
use Rattle.std.specs.Prelude.{ℕ, ◌+◌, ◌^◌, ◌%◌, max, Bool, true, ◌&&◌, ◌||◌, not, List, [], ◌∷◌, ◌++◌, map, length, nat_eq, nat_le, nat_lt, Option, None, Some, if◌then◌else◌}
use Rattle.std.specs.List.{list_all}
use Rattle.bytes_core.specs.declared.byte.Byte.TheVariants.{Num}
use Rattle.bytes_core.specs.declared.block.BlockKind.{BlockKind}
use Rattle.bytes_core.specs.declared.block.Block.{Block}

-- how many bytes of addresses a block takes
abbrev pub extent : Block → ℕ
extent block = max 16 (length block.bytes)

-- whether a block lies where a block may lie
abbrev pub is_placed : Block → Bool
is_placed block = nat_eq (block.base % 16) 0 && (nat_le 16 block.base && nat_le (block.base + extent block) (2 ^ 47))

-- whether two blocks share no address
abbrev pub are_apart : Block → Block → Bool
are_apart one other = nat_le (one.base + extent one) other.base || nat_le (other.base + extent other) one.base

-- whether two blocks may stand in one memory: live ones share no address
abbrev pub are_compatible : Block → Block → Bool
are_compatible one other = not one.live || (not other.live || are_apart one other)

-- whether a block may be put into a memory
abbrev pub can_be_placed : List Block → Block → Bool
can_be_placed memory block = is_placed block && list_all (are_compatible block) memory

-- a live block with these numbers in its bytes
abbrev pub new_block : BlockKind → ℕ → List ℕ → Block
new_block kind base contents = record { base = base; kind = kind; live = true; bytes = map Num contents }

-- whether a base and contents make a block of this size that can be put into the memory
abbrev pub is_new_block : List Block → BlockKind → ℕ → ℕ → List ℕ → Bool
is_new_block memory kind size base contents =
    nat_eq (length contents) size && (list_all (λ byte. nat_lt byte 256) contents && can_be_placed memory (new_block kind base contents))

-- the memory with one more block, numbered by how many there were
abbrev pub placed : List Block → Block → List Block
placed memory block = memory ++ block ∷ []

-- the number of the next block, if one is left: they have 32 bits
abbrev pub next_number : List Block → Option ℕ
next_number memory = if nat_lt (length memory) (2 ^ 32) then Some (length memory) else None
