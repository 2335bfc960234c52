-- Tables of names, each name once, with a value for each.
use Rattle.std.specs.Prelude.{ℕ, if◌then◌else◌, List, [], ◌∷◌, Option, None, Some}
use Rattle.std.specs.Str.{bytes_eq}

-- the value that a table has for a name
abbrev pub value_in : {A : Type 0} → List ℕ → List (List ℕ × A) → Option A
value_in name [] = None
value_in name (entry ∷ others) = if bytes_eq name entry.0 then Some entry.1 else value_in name others

-- the table with the value of one name changed, or with one name more
abbrev pub with_value : {A : Type 0} → List ℕ → A → List (List ℕ × A) → List (List ℕ × A)
with_value name value [] = (name, value) ∷ []
with_value name value (entry ∷ others) =
    if bytes_eq name entry.0 then (entry.0, value) ∷ others else entry ∷ with_value name value others
