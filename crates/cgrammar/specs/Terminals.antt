-- The tokens of a text as the grammar sees them: those that are not passed over, each with its kind, its bytes as it
-- is read, and its place.
use Rattle.std.specs.Prelude.{ℕ, Bool, true, false, ◌&&◌, ◌||◌, not, IsTrue, List, [], ◌∷◌, ◌++◌, map, codes, nat_eq, nat_lt}
use Rattle.std.specs.List.{list_any, filter, starts_with}
use Rattle.std.specs.Str.{bytes_eq}
use Rattle.cbase.specs.declared.place.Place.{Place}
use Rattle.ctokens.specs.declared.token.Token.{Token}
use Rattle.ctokens.specs.declared.token.TokenKind.{TokenKind}
use Rattle.ctokens.specs.declared.token.TokenKind.TheVariants.{Word, Number, Letter, Quoted, Mark}
use Rattle.ctokens.specs.declared.token.Tokens.{Tokens}
use Rattle.ctokens.specs.Symbol.{is_identifier}
use Rattle.ctokens.specs.TokenSymbols.{bytes_of as token_bytes}
use Rattle.ctokens.specs.SymbolTables.{read_as, word_symbol}
use Rattle.ctokens.specs.Passed.{passed_tokens, unpassed}
use Rattle.cgrammar.specs.Scope.{Names, is_typedef_name}

-- a token as the grammar sees it: its kind, its bytes as they are read, and its place
pub record Terminal : Type 0 where
  pub kind : TokenKind
  pub bytes : List ℕ
  pub place : Place

-- the bytes of a token as they are read: some words of GNU C are read as those of C
abbrev pub bytes_read : TokenKind → List ℕ → List ℕ
bytes_read Word bytes = read_as bytes
bytes_read Number bytes = bytes
bytes_read Letter bytes = bytes
bytes_read Quoted bytes = bytes
bytes_read Mark bytes = bytes

-- a token of a text as the grammar sees it
abbrev pub terminal_of : List ℕ → Token → Terminal
terminal_of text token = record { kind = token.kind; bytes = bytes_read token.kind (token_bytes text token); place = token.place }

-- the row of a text
abbrev pub terminals : Tokens → List Terminal
terminals t = unpassed (passed_tokens t) (map (terminal_of t.text) t.list)

-- whether the token comes before that of the number
abbrev pub comes_before : ℕ → Terminal → Bool
comes_before number token = nat_lt token.place.at number

-- whether tokens of the kind are words
abbrev pub is_word_kind : TokenKind → Bool
is_word_kind Word = true
is_word_kind _ = false

-- whether tokens of the kind are punctuators (C11 6.4.6)
abbrev pub is_mark_kind : TokenKind → Bool
is_mark_kind Mark = true
is_mark_kind _ = false

-- the word with these bytes
abbrev pub is_word : List ℕ → Terminal → Bool
is_word bytes token = is_word_kind token.kind && bytes_eq token.bytes bytes

-- the token is the word with these bytes
abbrev pub IsWord : List ℕ → Terminal → Type 0
IsWord bytes token = IsTrue (is_word bytes token)

-- the mark with these bytes
abbrev pub is_mark : List ℕ → Terminal → Bool
is_mark bytes token = is_mark_kind token.kind && bytes_eq token.bytes bytes

-- the token is the mark with these bytes
abbrev pub IsMark : List ℕ → Terminal → Type 0
IsMark bytes token = IsTrue (is_mark bytes token)

-- words by which GNU C names types and objects that no rule of the grammar speaks of: they are no identifiers
abbrev pub is_left_out : List ℕ → Bool
is_left_out bytes =
    starts_with nat_eq bytes (codes "_Float")
    || list_any (bytes_eq bytes) (codes "__float128" ∷ codes "__int128" ∷ codes "__complex__" ∷ codes "__thread" ∷ [])

-- a word that is no keyword (C11 6.4.2)
abbrev pub is_name : Terminal → Bool
is_name token = is_word_kind token.kind && (is_identifier (word_symbol token.bytes) && not (is_left_out token.bytes))

-- the token is an identifier (C11 6.4.2)
abbrev pub IsName : Terminal → Type 0
IsName token = IsTrue (is_name token)

-- an identifier that a typedef declares (C11 6.7.8)
abbrev pub is_typedef : List Names → Terminal → Bool
is_typedef scopes token = is_name token && is_typedef_name scopes token.bytes

-- the token is the name of a typedef in scope (C11 6.7.8)
abbrev pub IsTypedef : List Names → Terminal → Type 0
IsTypedef scopes token = IsTrue (is_typedef scopes token)

-- whether the first token of a row is the name of a typedef in scope
abbrev pub begins_with_typedef : List Names → List Terminal → Bool
begins_with_typedef scopes [] = false
begins_with_typedef scopes (first ∷ others) = is_typedef scopes first

-- a row that begins with no typedef's name: no expression stands directly behind a `(`, or at the front of a
-- statement, where one begins
abbrev pub IsNoType : List Names → List Terminal → Type 0
IsNoType scopes row = IsTrue (not (begins_with_typedef scopes row))

-- the place of no token: no token has column 0
abbrev pub no_place : Place
no_place = record { file = 0; line = 0; column = 0; at = 0 }

-- the place of a row's first token
abbrev pub first_place : List Terminal → Place
first_place [] = no_place
first_place (first ∷ others) = first.place

-- the place of a row's last token
abbrev pub last_place : List Terminal → Place
last_place [] = no_place
last_place (last ∷ []) = last.place
last_place (first ∷ (next ∷ others)) = last_place (next ∷ others)

-- whether the token is a word, a keyword or an identifier
abbrev pub is_any_word : Terminal → Bool
is_any_word token = is_word_kind token.kind

-- the place of a row's first word, or of its first token where it has no word
abbrev pub first_word_place : List Terminal → Place
first_word_place row = first_place (filter is_any_word row ++ row)

-- the bytes of a token, as they are read
abbrev pub bytes_of : Terminal → List ℕ
bytes_of token = token.bytes

-- a row of `*`, as many as it has tokens
abbrev pub are_stars : List Terminal → Bool
are_stars [] = true
are_stars (token ∷ others) = is_mark (codes "*") token && are_stars others

-- each token of the row is a `*`
abbrev pub AreStars : List Terminal → Type 0
AreStars row = IsTrue (are_stars row)
