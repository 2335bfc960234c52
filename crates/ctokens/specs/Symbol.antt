-- Which symbols are words, brackets and the like: what a token is to items, and to the names that they offer and contain.
use Rattle.std.specs.Prelude.{Bool, true, false}
use Rattle.ctokens.specs.declared.symbol.Symbol.{Symbol}
use Rattle.ctokens.specs.declared.symbol.Symbol.TheVariants.{Name, Main, BuiltIn, AssertFail, Keyword, Structure, Enumeration, Assembly, PassedOver, Attribute, LeftParenthesis, RightParenthesis, LeftBracket, RightBracket, LeftBrace, RightBrace, Semicolon, Comma, Equals, Star, Selector}

-- a word that is not passed over, a keyword or not
abbrev pub is_word : Symbol → Bool
is_word Name = true
is_word Main = true
is_word BuiltIn = true
is_word AssertFail = true
is_word Keyword = true
is_word Structure = true
is_word Enumeration = true
is_word Assembly = true
is_word _ = false

-- a word that is no keyword (C11 6.4.2)
abbrev pub is_identifier : Symbol → Bool
is_identifier Name = true
is_identifier Main = true
is_identifier BuiltIn = true
is_identifier _ = false

-- the word `main`
abbrev pub is_main : Symbol → Bool
is_main Main = true
is_main _ = false

-- the name of a built-in function
abbrev pub is_built_in : Symbol → Bool
is_built_in BuiltIn = true
is_built_in AssertFail = true
is_built_in _ = false

-- `struct`, `union` or `enum`
abbrev pub is_tag_word : Symbol → Bool
is_tag_word Structure = true
is_tag_word Enumeration = true
is_tag_word _ = false

-- a bracket that opens, of the three kinds
abbrev pub is_opening : Symbol → Bool
is_opening LeftParenthesis = true
is_opening LeftBracket = true
is_opening LeftBrace = true
is_opening _ = false

-- a bracket that closes, of the three kinds
abbrev pub is_closing : Symbol → Bool
is_closing RightParenthesis = true
is_closing RightBracket = true
is_closing RightBrace = true
is_closing _ = false

-- `enum`
abbrev pub is_enumeration : Symbol → Bool
is_enumeration Enumeration = true
is_enumeration _ = false

-- `__attribute__` or `__attribute`
abbrev pub is_attribute : Symbol → Bool
is_attribute Attribute = true
is_attribute _ = false

-- a token that is passed over; an attribute's word counts as one from `read_symbols` on
abbrev pub is_passed_over : Symbol → Bool
is_passed_over PassedOver = true
is_passed_over _ = false

-- `(`
abbrev pub is_left_parenthesis : Symbol → Bool
is_left_parenthesis LeftParenthesis = true
is_left_parenthesis _ = false

-- `)`
abbrev pub is_right_parenthesis : Symbol → Bool
is_right_parenthesis RightParenthesis = true
is_right_parenthesis _ = false

-- `{`
abbrev pub is_left_brace : Symbol → Bool
is_left_brace LeftBrace = true
is_left_brace _ = false

-- `}`
abbrev pub is_right_brace : Symbol → Bool
is_right_brace RightBrace = true
is_right_brace _ = false

-- `;`
abbrev pub is_semicolon : Symbol → Bool
is_semicolon Semicolon = true
is_semicolon _ = false

-- `,`
abbrev pub is_comma : Symbol → Bool
is_comma Comma = true
is_comma _ = false

-- `=`
abbrev pub is_equals : Symbol → Bool
is_equals Equals = true
is_equals _ = false

-- `*`
abbrev pub is_star : Symbol → Bool
is_star Star = true
is_star _ = false

-- `.` or `->`
abbrev pub is_selector : Symbol → Bool
is_selector Selector = true
is_selector _ = false
