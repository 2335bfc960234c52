-- What a token is to the names that an item defines.
use Rattle.std.specs.Prelude.{ℕ, Bool, true, false, if◌then◌else◌, List, [], ◌∷◌, codes}
use Rattle.std.specs.Str.{bytes_eq}
use Rattle.ctokens.specs.declared.token.Token.{Token}
use Rattle.ctokens.specs.declared.token.TokenKind.{TokenKind}
use Rattle.ctokens.specs.declared.token.TokenKind.TheVariants as kind
use Rattle.ctokens.specs.Symbol.{is_identifier}
use Rattle.ctokens.specs.SymbolTables.{read_as, word_symbol}
use Rattle.ctokens.specs.TokenSymbols.{bytes_of}
use Rattle.definitions.specs.declared.role.Role.{Role}
use Rattle.definitions.specs.declared.role.Role.TheVariants.{Name, TagWord, Typedef, Extern, Static, Assembly, LeftParenthesis, RightParenthesis, LeftBracket, RightBracket, LeftBrace, RightBrace, Semicolon, Comma, Equals, Other}

-- a table: the bytes of words or marks, each with its role
abbrev pub RoleRows : Type 0
RoleRows = List (List ℕ × Role)

-- the keywords that matter here
abbrev pub word_rows : RoleRows
word_rows =
    (codes "struct", TagWord) ∷ (codes "union", TagWord) ∷ (codes "enum", TagWord) ∷ (codes "typedef", Typedef) ∷ (codes "extern", Extern)
    ∷ (codes "static", Static) ∷ (codes "asm", Assembly) ∷ (codes "__asm", Assembly) ∷ (codes "__asm__", Assembly) ∷ []

-- the marks that matter here
abbrev pub mark_rows : RoleRows
mark_rows =
    (codes "(", LeftParenthesis) ∷ (codes ")", RightParenthesis) ∷ (codes "[", LeftBracket) ∷ (codes "]", RightBracket)
    ∷ (codes "{", LeftBrace) ∷ (codes "}", RightBrace) ∷ (codes ";", Semicolon) ∷ (codes ",", Comma) ∷ (codes "=", Equals) ∷ []

-- the role of the row that has these bytes, or `Other` where there is no such row
abbrev pub role_in : RoleRows → List ℕ → Role
role_in [] bytes = Other
role_in (row ∷ rows) bytes = if bytes_eq row.0 bytes then row.1 else role_in rows bytes

-- the role of a word, as it is read; a word that is no keyword is a name (C11 6.4.1, 6.4.2)
unfoldable pub word_role : List ℕ → Role
word_role word = if is_identifier (word_symbol word) then Name else role_in word_rows word

-- the role of a mark
unfoldable pub mark_role : List ℕ → Role
mark_role bytes = role_in mark_rows bytes

-- the role of a token with these bytes
abbrev pub role_of : TokenKind → List ℕ → Role
role_of kind.Word bytes = word_role (read_as bytes)
role_of kind.Number bytes = Other
role_of kind.Letter bytes = Other
role_of kind.Quoted bytes = Other
role_of kind.Mark bytes = mark_role bytes

-- the role of a token of the text
abbrev pub token_role : List ℕ → Token → Role
token_role text token = role_of token.kind (bytes_of text token)

-- a word that is no keyword
abbrev pub is_name : Role → Bool
is_name Name = true
is_name _ = false

-- `struct`, `union` or `enum`
abbrev pub is_tag_word : Role → Bool
is_tag_word TagWord = true
is_tag_word _ = false

-- `typedef`, `extern` or `static`
abbrev pub is_storage_word : Role → Bool
is_storage_word Typedef = true
is_storage_word Extern = true
is_storage_word Static = true
is_storage_word _ = false

-- a bracket that opens, of the three kinds
abbrev pub is_opening : Role → Bool
is_opening LeftParenthesis = true
is_opening LeftBracket = true
is_opening LeftBrace = true
is_opening _ = false

-- a bracket that closes, of the three kinds
abbrev pub is_closing : Role → Bool
is_closing RightParenthesis = true
is_closing RightBracket = true
is_closing RightBrace = true
is_closing _ = false

-- `(`
abbrev pub is_left_parenthesis : Role → Bool
is_left_parenthesis LeftParenthesis = true
is_left_parenthesis _ = false

-- `)`
abbrev pub is_right_parenthesis : Role → Bool
is_right_parenthesis RightParenthesis = true
is_right_parenthesis _ = false

-- `{`
abbrev pub is_left_brace : Role → Bool
is_left_brace LeftBrace = true
is_left_brace _ = false

-- `}`
abbrev pub is_right_brace : Role → Bool
is_right_brace RightBrace = true
is_right_brace _ = false

-- `=`
abbrev pub is_equals : Role → Bool
is_equals Equals = true
is_equals _ = false

-- `,`
abbrev pub is_comma : Role → Bool
is_comma Comma = true
is_comma _ = false

-- `;`
abbrev pub is_semicolon : Role → Bool
is_semicolon Semicolon = true
is_semicolon _ = false

-- what stands behind a word that is declared: `(`, `[`, `=`, `,`, `;` or `asm`
abbrev pub follows_declared : Role → Bool
follows_declared LeftParenthesis = true
follows_declared LeftBracket = true
follows_declared Equals = true
follows_declared Comma = true
follows_declared Semicolon = true
follows_declared Assembly = true
follows_declared _ = false
