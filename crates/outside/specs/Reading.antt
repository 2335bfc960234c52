-- What the reading of a whole file says: how many bytes were read, and of which content they are the front.
use Rattle.std.specs.Prelude.{◌≡◌, ℕ, ◌+◌, ◌≤◌, nat_le, Bool, true, false, if◌then◌else◌, Option, Some, List, [], ◌++◌, length, take}
use Rattle.outside.specs.declared.reading.Reading.{Reading}
use Rattle.outside.specs.declared.reading.Reading.TheVariants.{Whole, Long, Failed}

-- the reading failed
abbrev pub is_failed : Reading → Bool
is_failed (Whole bytes) = false
is_failed (Long bytes) = false
is_failed Failed = true

-- How many bytes were read: a whole file has at most `most`, and of a longer one there is one byte more.
abbrev pub IsWithin : ℕ → Reading → Type 0
IsWithin most (Whole bytes) = length bytes ≤ most
IsWithin most (Long bytes) = length bytes ≡ most + 1
IsWithin most Failed = Unit {0}

-- What was read of a file whose content is `content`, where `left` is left of it. A failed reading says
-- nothing.
abbrev pub Reads : Option (List ℕ) → List ℕ → Reading → Type 0
Reads content left (Whole bytes) = (content ≡ Some bytes) × (left ≡ [])
Reads content left (Long bytes) = content ≡ Some (bytes ++ left)
Reads content left Failed = Unit {0}

-- At most `most` bytes were taken of a file whose content is `content`, where `left` is left of it.
abbrev pub LeavesAtMost : ℕ → Option (List ℕ) → List ℕ → Type 0
LeavesAtMost most content left = (front : List ℕ) × (length front ≤ most) × (content ≡ Some (front ++ left))

-- What is read of a file with the bytes `whole`, unless the reading fails.
abbrev pub reading_of : ℕ → List ℕ → Reading
reading_of most whole = if nat_le (length whole) most then Whole whole else Long (take (most + 1) whole)
