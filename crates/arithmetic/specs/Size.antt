-- The sizes of integers (C11 6.2.5p4-8; the data layout has types of 1, 2, 4 and 8 bytes).
use Rattle.std.specs.Prelude.{ℕ, Option, None, Some, nat_eq, if◌then◌else◌}
use Rattle.arithmetic.specs.declared.size.Size.{Size}
use Rattle.arithmetic.specs.declared.size.Size.TheVariants.{One, Two, Four, Eight}

-- how many bytes an integer of a size has
abbrev pub bytes : Size → ℕ
bytes One = 1
bytes Two = 2
bytes Four = 4
bytes Eight = 8

-- the size that has so many bytes, if there is one
abbrev pub size_of : ℕ → Option Size
size_of count =
    if nat_eq count 1 then Some One
    else (if nat_eq count 2 then Some Two
    else (if nat_eq count 4 then Some Four
    else (if nat_eq count 8 then Some Eight else None)))
