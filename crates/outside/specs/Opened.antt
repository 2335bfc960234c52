-- Which files a call opened: how many openings were counted in front of it and behind it, and which name the last one had.
use Rattle.std.specs.Prelude.{ℕ, List}
use Rattle.outside.specs.Faults.{counted}

-- how many openings were counted, and the name of the last one
pub record Openings : Type 0 where
  pub count : ℕ
  pub last : List ℕ

-- what is counted behind one more, of the file of this name
abbrev pub opened : Openings → List ℕ → Openings
opened before name = record { count = counted before.count; last = name }
