-- The names that may be those of typedefs: each name that a scope declares as a typedef is among them. One may be among them that
-- no scope declares as a typedef any more.
use Rattle.std.specs.Prelude.{◌≡◌, ℕ, true, List, [], is_some, slice_index_or, Some}
use Rattle.cgrammar.specs.NameTables.{value_in}
use Rattle.cgrammar.specs.Scope.{Names}

-- the name is among them
abbrev pub IsAmong : List ℕ → Names → Type 0
IsAmong name typedefs = is_some (value_in name typedefs) ≡ true

-- each name that one of the scopes declares as a typedef is among them
abbrev pub HasTypedefs : List Names → Names → Type 0
HasTypedefs scopes typedefs = (name : List ℕ) (at : ℕ) → value_in name (slice_index_or scopes at []) ≡ Some true → IsAmong name typedefs

-- each name of the one is a name of the other
abbrev pub AreAmong : Names → Names → Type 0
AreAmong old new = (name : List ℕ) → IsAmong name old → IsAmong name new
