-- The tokens that are passed over before items and grammar look at a text.
use Rattle.std.specs.Prelude.{ℕ, ◌+◌, ◌-◌, Bool, true, false, ◌&&◌, if◌then◌else◌, List, [], ◌∷◌, map, nat_le, zero, suc}
use Rattle.ctokens.specs.declared.token.TokenKind.{TokenKind}
use Rattle.ctokens.specs.declared.token.TokenKind.TheVariants.{Word}
use Rattle.ctokens.specs.declared.token.Token.{Token}
use Rattle.ctokens.specs.declared.token.Tokens.{Tokens}
use Rattle.ctokens.specs.declared.symbol.Symbol.{Symbol}
use Rattle.ctokens.specs.declared.symbol.Symbol.TheVariants.{PassedOver}
use Rattle.ctokens.specs.Symbol.{is_opening, is_closing, is_attribute, is_passed_over}
use Rattle.ctokens.specs.TokenSymbols.{symbols}

-- how many brackets, of the three kinds together, are open after a token where so many were open before it; a
-- closing bracket where none is open leaves none
abbrev pub depth_after : ℕ → Symbol → ℕ
depth_after depth symbol = if is_opening symbol then depth + 1 else (if is_closing symbol then depth - 1 else depth)

-- The symbols of the tokens with `PassedOver` for each that is passed over: the words that are passed over alone,
-- and an attribute's word with the bracketed part directly behind it, up to the bracket that closes it or else to
-- the end of the text. `behind` says whether an attribute's word stands directly before, `unclosed` how many brackets
-- of its part are open.
abbrev pub read_from : Bool → ℕ → List Symbol → List Symbol
read_from behind unclosed [] = []
read_from behind zero (symbol ∷ rest) =
    if behind && is_opening symbol then PassedOver ∷ read_from false 1 rest
    else (if is_attribute symbol then PassedOver ∷ read_from true 0 rest else symbol ∷ read_from false 0 rest)
read_from behind (suc unclosed) (symbol ∷ rest) = PassedOver ∷ read_from false (depth_after (suc unclosed) symbol) rest

-- the symbols of a whole text with `PassedOver` for each token that is passed over
abbrev pub read_symbols : List Symbol → List Symbol
read_symbols symbols = read_from false 0 symbols

-- for each token of a text, whether it is passed over
abbrev pub passed_tokens : Tokens → List Bool
passed_tokens t = map is_passed_over (read_symbols (symbols t))

-- the token is a word by what its bytes spell
abbrev pub is_word_kind : TokenKind → Bool
is_word_kind Word = true
is_word_kind _ = false

-- the token may be passed over or begin an attribute, as far as is known without its bytes: no other token is, and no word
-- of fewer than four bytes
abbrev pub may_pass : Token → Bool
may_pass token = is_word_kind token.kind && nat_le 4 (token.to - token.from)

-- the tokens that are not passed over, where it is said for each token whether it is
abbrev pub unpassed : {A : Type 0} → List Bool → List A → List A
unpassed [] tokens = []
unpassed (passed ∷ others) [] = []
unpassed (passed ∷ others) (token ∷ tokens) = if passed then unpassed others tokens else token ∷ unpassed others tokens
