-- Classes of bytes, byte by byte: 0 is the number 0, 1 is a number, 2 is anything.
use Rattle.std.specs.Prelude.{ℕ, ◌+◌, ◌<◌, ◌≤◌, max, List, [], ◌∷◌, ◌++◌, length, take, drop, replicate, slice_index}

-- the numbers that are classes
abbrev pub IsClass : ℕ → Type 0
IsClass class = class ≤ 2

-- a class for each of so many bytes from a place on, and all others as they were
abbrev pub filled : List ℕ → ℕ → ℕ → ℕ → List ℕ
filled classes from count class = take from classes ++ replicate count class ++ drop (from + count) classes

-- at each byte the greater of two classes
abbrev pub highest : List ℕ → List ℕ → List ℕ
highest [] others = []
highest (class ∷ classes) [] = []
highest (class ∷ classes) (other ∷ others) = max class other ∷ highest classes others

-- the first byte from a place on whose class is above
pub record IsFirstAbove (classes : List ℕ) (from class at : ℕ) : Type 0 where
  pub behind : from ≤ at
  pub inside : at < length classes
  pub above : class < slice_index classes at
  -- no byte between the two is above
  pub first : (other : ℕ) → from ≤ other → other < at → slice_index classes other ≤ class
