-- Values of names: each name once, in the order in which they came.
use Rattle.std.specs.Prelude.{ℕ, if◌then◌else◌, List, [], ◌∷◌, Option, None, Some}
use Rattle.std.specs.Str.{bytes_eq}

-- a value for each of some names
abbrev pub Entries : Type 0 → Type 0
Entries A = List (List ℕ × A)

-- the value of a name
abbrev pub value_in : {A : Type 0} → List ℕ → Entries A → Option A
value_in name [] = None
value_in name (entry ∷ others) = if bytes_eq name entry.0 then Some entry.1 else value_in name others

-- with that value for a name, which stands behind the others where it is new
abbrev pub with_value : {A : Type 0} → List ℕ → A → Entries A → Entries A
with_value name value [] = (name, value) ∷ []
with_value name value (entry ∷ others) =
    if bytes_eq name entry.0 then (entry.0, value) ∷ others else entry ∷ with_value name value others

-- with that value for a name that has one
abbrev pub changed : {A : Type 0} → List ℕ → A → Entries A → Entries A
changed name value [] = []
changed name value (entry ∷ others) =
    if bytes_eq name entry.0 then (entry.0, value) ∷ others else entry ∷ changed name value others
