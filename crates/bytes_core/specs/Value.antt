-- Bytes and words: which bytes stand for a word, and which word is read from bytes (C11 6.2.6).
-- Numbers are little endian, and a pointer has eight bytes.
use Rattle.std.specs.Prelude.{ℕ, suc, ◌+◌, ◌-◌, ◌^◌, ◌%◌, ◌/◌, Bool, false, ◌&&◌, List, [], ◌∷◌, map, nat_eq, nat_lt, ℤ, pos, negsuc, ◌+ℤ◌, slice_get, if◌then◌else◌}
use Rattle.std.specs.Int.{w64, to_le_bytes, from_le_bytes, cast_signed}
use Rattle.std.specs.Ordering.{int_eq}
use Rattle.std.specs.Option.{option_map_or}
use Rattle.bytes_core.specs.declared.byte.Byte.{Byte}
use Rattle.bytes_core.specs.declared.byte.Byte.TheVariants.{Num, Part}
use Rattle.bytes_core.specs.declared.word.Word.{Word}
use Rattle.bytes_core.specs.declared.word.Word.TheVariants.{Plain, To}
use Rattle.bytes_core.specs.declared.block.Block.{Block}

-- the eight bytes that hold a word: those of the number, or the pointer's eight parts in order
abbrev pub word_bytes : Word → List Byte
word_bytes (Plain number) = map Num (to_le_bytes w64 number)
word_bytes (To block offset) = map (Part block offset) (0 ∷ 1 ∷ 2 ∷ 3 ∷ 4 ∷ 5 ∷ 6 ∷ 7 ∷ [])

-- a whole number modulo 2^64
abbrev pub wrapped : ℤ → ℕ
wrapped (pos number) = number % 2 ^ 64
wrapped (negsuc before) = 2 ^ 64 - suc (before % 2 ^ 64)

-- the address number of a block's byte at an offset: its base plus the offset, modulo 2^64
abbrev pub address_in : List Block → ℕ → ℤ → ℕ
address_in memory block offset = wrapped (pos (option_map_or (λ found. found.base) (slice_get memory block) 0) +ℤ offset)

-- the address number of a word
abbrev pub address_number : List Block → Word → ℕ
address_number memory (Plain number) = number
address_number memory (To block offset) = address_in memory block offset

-- whether two words are equal as `==` compares them: by their address numbers (C11 6.5.9)
abbrev pub is_same_address : List Block → Word → Word → Bool
is_same_address memory one other = nat_eq (address_number memory one) (address_number memory other)

-- whether an offset is inside a block of this size: one past the end is not
abbrev pub is_inside : ℕ → ℤ → Bool
is_inside size (pos offset) = nat_lt offset size
is_inside size (negsuc before) = false

-- a word moved by so many bytes: an offset wraps as a 64-bit number with a sign, a plain number modulo 2^64
-- (C11 6.5.6p8)
abbrev pub moved : Word → ℤ → Word
moved (Plain number) bytes = Plain (wrapped (pos number +ℤ bytes))
moved (To block offset) bytes = To block (cast_signed w64 (wrapped (offset +ℤ bytes)))

-- byte k of a number, the lowest first
abbrev pub byte_of : ℕ → ℕ → ℕ
byte_of number k = number / 256 ^ k % 256

-- a byte as a number: a part of a pointer is that byte of its address number
abbrev pub byte_number : List Block → Byte → ℕ
byte_number memory (Num number) = number
byte_number memory (Part block offset k) = byte_of (address_in memory block offset) k

-- the number that at most eight bytes hold
abbrev pub number_of : List Block → List Byte → ℕ
number_of memory bytes = from_le_bytes w64 (map (byte_number memory) bytes)

-- whether the bytes are the parts from `k` to 7, in order, of the pointer to `block` at `offset`
abbrev pub are_parts : ℕ → ℤ → ℕ → List Byte → Bool
are_parts block offset k [] = nat_eq k 8
are_parts block offset k (Num number ∷ rest) = false
are_parts block offset k (Part block' offset' k' ∷ rest) =
    nat_eq block' block && (int_eq offset' offset && (nat_eq k' k && are_parts block offset (k + 1) rest))

-- the word read at an integer type: a number
abbrev pub number_read : List Block → List Byte → Word
number_read memory bytes = Plain (number_of memory bytes)

-- the word read at a pointer type: the pointer whose eight parts in order the bytes are, and otherwise a
-- plain number
abbrev pub pointer_read : List Block → List Byte → Word
pointer_read memory [] = number_read memory []
pointer_read memory (Num number ∷ rest) = number_read memory (Num number ∷ rest)
pointer_read memory (Part block offset k ∷ rest) =
    if are_parts block offset 0 (Part block offset k ∷ rest) then To block offset else number_read memory (Part block offset k ∷ rest)
