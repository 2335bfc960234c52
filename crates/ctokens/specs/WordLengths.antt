-- The words of the tables, by how many bytes they have.
use Rattle.std.specs.Prelude.{ℕ, nat_eq, if◌then◌else◌, [], ◌∷◌, ◌++◌, length}
use Rattle.ctokens.specs.SymbolTables.{Rows, passed_rows, keyword_rows, name_rows}

-- all words with a symbol of their own. Each stands there once
abbrev pub word_rows : Rows
word_rows = passed_rows ++ (keyword_rows ++ name_rows)

-- the rows of a table whose words have so many bytes, in their order
abbrev pub of_length : ℕ → Rows → Rows
of_length count [] = []
of_length count (row ∷ rows) = if nat_eq (length row.0) count then row ∷ of_length count rows else of_length count rows
