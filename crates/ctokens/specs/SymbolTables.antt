-- Words and marks by their bytes: the symbol of each, and how a word is read.
use Rattle.std.specs.Prelude.{ℕ, if◌then◌else◌, List, [], ◌∷◌, codes}
use Rattle.std.specs.Str.{bytes_eq}
use Rattle.ctokens.specs.declared.token.TokenKind.{TokenKind}
use Rattle.ctokens.specs.declared.token.TokenKind.TheVariants.{Word, Number, Letter, Quoted, Mark}
use Rattle.ctokens.specs.declared.symbol.Symbol.{Symbol}
use Rattle.ctokens.specs.declared.symbol.Symbol.TheVariants.{Name, Main, BuiltIn, AssertFail, Keyword, Structure, Enumeration, Assembly, PassedOver, Attribute, LeftParenthesis, RightParenthesis, LeftBracket, RightBracket, LeftBrace, RightBrace, Semicolon, Comma, Equals, Star, Selector, Other}

-- a table: the bytes of words or marks, each with its symbol
abbrev pub Rows : Type 0
Rows = List (List ℕ × Symbol)

-- words that are passed over: qualifiers and the like, with the forms that GNU C gives them, and the two that
-- an attribute follows
abbrev pub passed_rows : Rows
passed_rows =
    (codes "const", PassedOver) ∷ (codes "__const", PassedOver) ∷ (codes "__const__", PassedOver)
    ∷ (codes "volatile", PassedOver) ∷ (codes "__volatile", PassedOver) ∷ (codes "__volatile__", PassedOver)
    ∷ (codes "restrict", PassedOver) ∷ (codes "__restrict", PassedOver) ∷ (codes "__restrict__", PassedOver)
    ∷ (codes "inline", PassedOver) ∷ (codes "__inline", PassedOver) ∷ (codes "__inline__", PassedOver)
    ∷ (codes "_Noreturn", PassedOver) ∷ (codes "register", PassedOver) ∷ (codes "auto", PassedOver)
    ∷ (codes "__extension__", PassedOver) ∷ (codes "__attribute__", Attribute) ∷ (codes "__attribute", Attribute) ∷ []

-- the other keywords (C11 6.4.1), and the words of GNU C that are keywords here
abbrev pub keyword_rows : Rows
keyword_rows =
    (codes "break", Keyword) ∷ (codes "case", Keyword) ∷ (codes "char", Keyword) ∷ (codes "continue", Keyword)
    ∷ (codes "default", Keyword) ∷ (codes "do", Keyword) ∷ (codes "double", Keyword) ∷ (codes "else", Keyword)
    ∷ (codes "enum", Enumeration) ∷ (codes "extern", Keyword) ∷ (codes "float", Keyword) ∷ (codes "for", Keyword)
    ∷ (codes "goto", Keyword) ∷ (codes "if", Keyword) ∷ (codes "int", Keyword) ∷ (codes "long", Keyword)
    ∷ (codes "return", Keyword) ∷ (codes "short", Keyword) ∷ (codes "signed", Keyword) ∷ (codes "sizeof", Keyword)
    ∷ (codes "static", Keyword) ∷ (codes "struct", Structure) ∷ (codes "switch", Keyword) ∷ (codes "typedef", Keyword)
    ∷ (codes "union", Structure) ∷ (codes "unsigned", Keyword) ∷ (codes "void", Keyword) ∷ (codes "while", Keyword)
    ∷ (codes "_Alignas", Keyword) ∷ (codes "_Alignof", Keyword) ∷ (codes "_Atomic", Keyword) ∷ (codes "_Bool", Keyword)
    ∷ (codes "_Complex", Keyword) ∷ (codes "_Generic", Keyword) ∷ (codes "_Imaginary", Keyword)
    ∷ (codes "_Static_assert", Keyword) ∷ (codes "_Thread_local", Keyword) ∷ (codes "typeof", Keyword)
    ∷ (codes "__builtin_offsetof", Keyword) ∷ (codes "__assert_fail", AssertFail) ∷ (codes "asm", Assembly)
    ∷ (codes "__asm", Assembly) ∷ (codes "__asm__", Assembly) ∷ []

-- the names of built-in functions that are no keywords, and main
abbrev pub name_rows : Rows
name_rows =
    (codes "main", Main) ∷ (codes "malloc", BuiltIn) ∷ (codes "calloc", BuiltIn) ∷ (codes "free", BuiltIn)
    ∷ (codes "memset", BuiltIn) ∷ (codes "memcpy", BuiltIn) ∷ (codes "memmove", BuiltIn) ∷ (codes "abort", BuiltIn)
    ∷ (codes "exit", BuiltIn) ∷ (codes "__VERIFIER_error", BuiltIn) ∷ (codes "reach_error", BuiltIn)
    ∷ (codes "__VERIFIER_assume", BuiltIn) ∷ (codes "__builtin_expect", BuiltIn)
    ∷ (codes "__VERIFIER_nondet_int", BuiltIn) ∷ (codes "__VERIFIER_nondet_uint", BuiltIn)
    ∷ (codes "__VERIFIER_nondet_long", BuiltIn) ∷ (codes "__VERIFIER_nondet_ulong", BuiltIn)
    ∷ (codes "__VERIFIER_nondet_char", BuiltIn) ∷ (codes "__VERIFIER_nondet_uchar", BuiltIn)
    ∷ (codes "__VERIFIER_nondet_short", BuiltIn) ∷ (codes "__VERIFIER_nondet_ushort", BuiltIn)
    ∷ (codes "__VERIFIER_nondet_bool", BuiltIn) ∷ []

-- the marks that matter here
abbrev pub mark_rows : Rows
mark_rows =
    (codes "(", LeftParenthesis) ∷ (codes ")", RightParenthesis) ∷ (codes "[", LeftBracket) ∷ (codes "]", RightBracket)
    ∷ (codes "{", LeftBrace) ∷ (codes "}", RightBrace) ∷ (codes ";", Semicolon) ∷ (codes ",", Comma)
    ∷ (codes "=", Equals) ∷ (codes "*", Star) ∷ (codes ".", Selector) ∷ (codes "->", Selector) ∷ []

-- the symbol of the row that has these bytes, or another where there is no such row
abbrev pub symbol_in : Rows → Symbol → List ℕ → Symbol
symbol_in [] otherwise bytes = otherwise
symbol_in (row ∷ rows) otherwise bytes = if bytes_eq row.0 bytes then row.1 else symbol_in rows otherwise bytes

-- the words that GNU C spells in another way are read as those of C: `__signed__` as `signed`, `__typeof__` and
-- `__typeof` as `typeof`
unfoldable pub read_as : List ℕ → List ℕ
read_as bytes =
    if bytes_eq bytes (codes "__signed__") then codes "signed"
    else (if bytes_eq bytes (codes "__typeof__") then codes "typeof"
    else (if bytes_eq bytes (codes "__typeof") then codes "typeof" else bytes))

-- the symbol of a word that is a keyword or passed over in no row: a built-in function's name, main or another
unfoldable pub name_symbol : List ℕ → Symbol
name_symbol bytes = symbol_in name_rows Name bytes

-- the symbol of a keyword, or another where the word is none
unfoldable pub keyword_symbol : Symbol → List ℕ → Symbol
keyword_symbol otherwise bytes = symbol_in keyword_rows otherwise bytes

-- the symbol of a word that is passed over or begins an attribute, or another where the word does neither
unfoldable pub passed_symbol : Symbol → List ℕ → Symbol
passed_symbol otherwise bytes = symbol_in passed_rows otherwise bytes

-- the symbol of a mark
unfoldable pub mark_symbol : List ℕ → Symbol
mark_symbol bytes = symbol_in mark_rows Other bytes

-- the symbol of a word
abbrev pub word_symbol : List ℕ → Symbol
word_symbol bytes = passed_symbol (keyword_symbol (name_symbol bytes) bytes) bytes

-- the symbol of a token with these bytes
unfoldable pub symbol_of : TokenKind → List ℕ → Symbol
symbol_of Word bytes = word_symbol (read_as bytes)
symbol_of Number bytes = Other
symbol_of Letter bytes = Other
symbol_of Quoted bytes = Other
symbol_of Mark bytes = mark_symbol bytes
