-- The symbols and the words of the tokens of a text.
use Rattle.std.specs.Prelude.{ℕ, List, [], map, slice_range}
use Rattle.ctokens.specs.declared.token.Token.{Token}
use Rattle.ctokens.specs.declared.token.TokenKind.{TokenKind}
use Rattle.ctokens.specs.declared.token.TokenKind.TheVariants.{Word, Number, Letter, Quoted, Mark}
use Rattle.ctokens.specs.declared.token.Tokens.{Tokens}
use Rattle.ctokens.specs.declared.symbol.Symbol.{Symbol}
use Rattle.ctokens.specs.SymbolTables.{read_as, symbol_of}

-- the bytes of a token
abbrev pub bytes_of : List ℕ → Token → List ℕ
bytes_of text token = slice_range text token.from token.to

-- the symbol of a token of the text
abbrev pub token_symbol : List ℕ → Token → Symbol
token_symbol text token = symbol_of token.kind (bytes_of text token)

-- the word of a token with these bytes, as it is read; a token of another kind has none
unfoldable pub word_of : TokenKind → List ℕ → List ℕ
word_of Word bytes = read_as bytes
word_of Number bytes = []
word_of Letter bytes = []
word_of Quoted bytes = []
word_of Mark bytes = []

-- the word of a token
abbrev pub token_word : List ℕ → Token → List ℕ
token_word text token = word_of token.kind (bytes_of text token)

-- what the tokens of a text are, in order
abbrev pub symbols : Tokens → List Symbol
symbols t = map (token_symbol t.text) t.list

-- the words of the tokens of a text, in order
abbrev pub words : Tokens → List (List ℕ)
words t = map (token_word t.text) t.list
