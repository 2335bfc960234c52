-- Other values for the same names: in one scope, and in all, by the values that they have, or by the names too.
use Rattle.std.specs.Prelude.{ℕ, List, map}
use Rattle.typing.specs.environment.Names.{Entries}
use Rattle.typing.specs.environment.Scopes.{Scopes}

abbrev pub entries_mapped : {A B : Type 0} → (A → B) → Entries A → Entries B
entries_mapped f entries = map (λ entry. (entry.0, f entry.1)) entries

abbrev pub scopes_mapped : {A B : Type 0} → (A → B) → Scopes A → Scopes B
scopes_mapped f scopes = map (entries_mapped f) scopes

abbrev pub entries_named : {A B : Type 0} → (List ℕ → A → B) → Entries A → Entries B
entries_named f entries = map (λ entry. (entry.0, f entry.0 entry.1)) entries
