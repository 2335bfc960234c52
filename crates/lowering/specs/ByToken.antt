-- Variables by the names of their objects.
use Rattle.std.specs.Prelude.{◌≡◌, ℕ, List, nat_eq}
use Rattle.std.specs.Map.{lookup}
use Rattle.simulation.specs.Names.{Name, variable_in}

-- the first object of a name counts
abbrev pub AreByToken : List Name → List (ℕ × ℕ) → Type 0
AreByToken names entries = (token : ℕ) → lookup (nat_eq token) entries ≡ variable_in names token
