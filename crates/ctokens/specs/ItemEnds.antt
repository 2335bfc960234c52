-- Where the items of a row of tokens end, token by token.
use Rattle.std.specs.Prelude.{ℕ, ◌+◌, Bool, true, false, ◌&&◌, ◌||◌, if◌then◌else◌, List, [], ◌∷◌, nat_eq, Option, None, Some}
use Rattle.ctokens.specs.declared.item_span.ItemSpan.{ItemSpan}
use Rattle.ctokens.specs.declared.symbol.Symbol.{Symbol}
use Rattle.ctokens.specs.Symbol.{is_opening, is_passed_over, is_left_brace, is_right_brace, is_right_parenthesis, is_semicolon}
use Rattle.ctokens.specs.declared.symbol.Symbol.TheVariants.{Other}
use Rattle.ctokens.specs.Passed.{depth_after, read_symbols}

-- a `;` at depth 0
abbrev pub ends_declaration : ℕ → Symbol → Bool
ends_declaration depth symbol = nat_eq depth 0 && is_semicolon symbol

-- a `}` that returns to depth 0, where the bracket that it closes began a body
abbrev pub ends_body : ℕ → Bool → Symbol → Bool
ends_body depth body symbol = nat_eq depth 1 && (body && is_right_brace symbol)

-- whether the bracket that opened last at depth 0 is a `{` directly after a `)`
abbrev pub body_after : ℕ → Symbol → Bool → Symbol → Bool
body_after depth before body symbol =
    if nat_eq depth 0 && is_opening symbol then is_left_brace symbol && is_right_parenthesis before else body

-- For each token, whether an item ends at it. `depth` is the number of brackets that are open before the token,
-- `before` the token before it, and `body` whether the bracket that opened last at depth 0 began a body. Tokens
-- that are passed over change nothing.
abbrev pub item_ends : ℕ → Symbol → Bool → List Symbol → List Bool
item_ends depth before body [] = []
item_ends depth before body (symbol ∷ rest) =
    if is_passed_over symbol then false ∷ item_ends depth before body rest
    else ((ends_declaration depth symbol || ends_body depth body symbol)
    ∷ item_ends (depth_after depth symbol) symbol (body_after depth before body symbol) rest)

-- The spans that a row of tokens is cut into: one ends at each token where an item ends, and the tokens that are
-- left at the end are a last one. `first` is the number of the first token of the span, `at` that of the next token.
abbrev pub spans : ℕ → ℕ → List Bool → List ItemSpan
spans first at [] = if nat_eq first at then [] else (record { first = first; after = at } ∷ [])
spans first at (true ∷ rest) = record { first = first; after = at + 1 } ∷ spans (at + 1) (at + 1) rest
spans first at (false ∷ rest) = spans first (at + 1) rest

-- the spans of the items of a row of tokens
abbrev pub spans_of : List Symbol → List ItemSpan
spans_of symbols = spans 0 0 (item_ends 0 Other false (read_symbols symbols))

-- the number of the first token, counted on from `at`, that is a bracket which opens at depth 257, itself counted
abbrev pub first_deep : ℕ → ℕ → List Symbol → Option ℕ
first_deep at depth [] = None
first_deep at depth (symbol ∷ rest) =
    if nat_eq depth 256 && is_opening symbol then Some at else first_deep (at + 1) (depth_after depth symbol) rest
