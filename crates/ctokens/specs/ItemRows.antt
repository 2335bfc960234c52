-- Items as rows of tokens with their words, without the tokens that are passed over.
use Rattle.std.specs.Prelude.{ℕ, Bool, not, List, [], ◌∷◌, map, slice_range, filter}
use Rattle.std.specs.List.{list_all}
use Rattle.ctokens.specs.declared.token.Tokens.{Tokens}
use Rattle.ctokens.specs.declared.item_span.ItemSpan.{ItemSpan}
use Rattle.ctokens.specs.declared.symbol.Symbol.{Symbol}
use Rattle.ctokens.specs.declared.symbol.Lexeme.{Lexeme}
use Rattle.ctokens.specs.Symbol.{is_passed_over}
use Rattle.ctokens.specs.TokenSymbols.{symbols, words}
use Rattle.ctokens.specs.Passed.{read_symbols}

module _ {N : Type 0} where
  -- tokens with their words
  abbrev pub lexemes : List Symbol → List N → List (Lexeme N)
  lexemes [] words = []
  lexemes (symbol ∷ symbols) [] = []
  lexemes (symbol ∷ symbols) (word ∷ words) = record { symbol = symbol; word = word } ∷ lexemes symbols words

  -- what the tokens of a row are
  abbrev pub symbols_in : List (Lexeme N) → List Symbol
  symbols_in row = map (λ (token : Lexeme N). token.symbol) row

  -- the words of the tokens of a row
  abbrev pub words_in : List (Lexeme N) → List N
  words_in row = map (λ (token : Lexeme N). token.word) row

  -- whether no token of a row is passed over
  abbrev pub are_kept : List (Lexeme N) → Bool
  are_kept row = list_all (λ (token : Lexeme N). not (is_passed_over token.symbol)) row

  -- the tokens that are not passed over
  abbrev pub kept : List (Lexeme N) → List (Lexeme N)
  kept row = filter (λ (token : Lexeme N). not (is_passed_over token.symbol)) row

  -- the tokens of a span that are not passed over
  abbrev pub item_row : List (Lexeme N) → ItemSpan → List (Lexeme N)
  item_row row span = kept (slice_range row span.first span.after)

-- the tokens of a text, with `PassedOver` for each that is passed over
abbrev pub all_lexemes : Tokens → List (Lexeme (List ℕ))
all_lexemes t = lexemes (read_symbols (symbols t)) (words t)

-- the items of a text, each as the row of its tokens that are not passed over
abbrev pub item_rows : Tokens → List ItemSpan → List (List (Lexeme (List ℕ)))
item_rows t items = map (item_row (all_lexemes t)) items
