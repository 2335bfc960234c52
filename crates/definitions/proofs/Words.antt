-- A word is no bracket, so as many brackets are open behind it as before it.
use Rattle.std.proofs.Common.{◌≡◌, ℕ, Bool, true, false, List, [], ◌∷◌, if◌then◌else◌, refl}
use Rattle.std.specs.Str.{bytes_eq}
use Rattle.ctokens.specs.Symbol.{is_identifier}
use Rattle.ctokens.specs.SymbolTables.{word_symbol}
use Rattle.definitions.specs.declared.role.Role.{Role}
use Rattle.definitions.specs.declared.role.Role.TheVariants.{Name}
use Rattle.definitions.specs.Roles.{RoleRows, role_in, word_role, word_rows}
use Rattle.definitions.specs.Rows.{depth_after}

-- no role of a table is a bracket
Keeps : ℕ → RoleRows → Type 0
Keeps depth [] = Unit {0}
Keeps depth (row ∷ rows) = (depth_after depth row.1 ≡ depth) × Keeps depth rows

chosen_keeps : (depth : ℕ) (here : Bool) (role otherwise : Role) → depth_after depth role ≡ depth → depth_after depth otherwise ≡ depth
    → depth_after depth (if here then role else otherwise) ≡ depth
chosen_keeps depth true role otherwise of_role of_otherwise = of_role
chosen_keeps depth false role otherwise of_role of_otherwise = of_otherwise

table_keeps : (depth : ℕ) (rows : RoleRows) (bytes : List ℕ) → Keeps depth rows → depth_after depth (role_in rows bytes) ≡ depth
unfolding Keeps
table_keeps depth [] bytes keeps = refl
table_keeps depth (row ∷ rows) bytes keeps =
    chosen_keeps depth (bytes_eq row.0 bytes) row.1 (role_in rows bytes) keeps.0 (table_keeps depth rows bytes keeps.1)

-- as many brackets are open behind a word as before it
pub word_keeps : (depth : ℕ) (word : List ℕ) → depth_after depth (word_role word) ≡ depth
unfolding word_role Keeps
word_keeps depth word =
    chosen_keeps depth (is_identifier (word_symbol word)) Name (role_in word_rows word) refl
    (table_keeps depth word_rows word (refl, (refl, (refl, (refl, (refl, (refl, (refl, (refl, (refl, tt))))))))))
