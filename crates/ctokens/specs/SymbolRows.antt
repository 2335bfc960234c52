-- A table of words and marks as the code keeps it.
use denote.Ref.{Bor}
use Rattle.std.specs.Prelude.{ℕ, List}

-- a row of a table as the code keeps it: its bytes, and what it says of them
abbrev pub row_read : {A : Type 0} → Bor (List ℕ) × A → List ℕ × A
row_read row = (row.0.now, row.1)
