-- What of an item counts for need, with numbers for names.
use Rattle.std.specs.Prelude.{◌≡◌, ℕ, Bool, List, map}
use Rattle.ctokens.specs.declared.entry.Entry.{Entry}
use Rattle.ctokens.specs.declared.item_span.ItemSpan.{ItemSpan}
use Rattle.ctokens.specs.declared.symbol.Lexeme.{Lexeme}
use Rattle.ctokens.specs.declared.symbol.Symbol.TheVariants.{Other}
use Rattle.ctokens.specs.declared.token.Tokens.{Tokens}
use Rattle.ctokens.specs.Need.{contained, defines_main, needed_by}
use Rattle.ctokens.specs.ItemRows.{item_row, lexemes}
use Rattle.ctokens.specs.Numbering.{IsNumbering}
use Rattle.ctokens.specs.Passed.{read_symbols}
use Rattle.ctokens.specs.TokenSymbols.{symbols, words}

-- the entry of an item with this row of tokens
abbrev pub entry_of : List (Lexeme ℕ) → Entry
entry_of row = record { main = defines_main row; offers = needed_by row; contains = contained Other row }

-- the entries of the items of a row, in order
abbrev pub entries_of : List (Lexeme ℕ) → List ItemSpan → List Entry
entries_of row items = map (λ span. entry_of (item_row row span)) items

-- the item of the entry defines main
abbrev pub is_main_entry : Entry → Bool
is_main_entry entry = entry.main

-- the row is that of the text's tokens, with numbers for their words
pub record IsTextRow (t : Tokens) (row : List (Lexeme ℕ)) (count : ℕ) : Type 0 where
  pub numbers : List ℕ
  pub numbered : IsNumbering (words t) numbers count
  pub is_row : row ≡ lexemes (read_symbols (symbols t)) numbers
