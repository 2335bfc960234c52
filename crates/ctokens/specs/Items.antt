-- The items of a text: rows of its tokens that end at bracket depth 0.
use Rattle.std.specs.Prelude.{◌≡◌, ℕ, ◌+◌, ◌<◌, ◌≤◌, true, List, [], ◌∷◌, length, drop, slice_get, Some, Result, Ok, Err, zero, suc}
use Rattle.std.specs.List.{slice_index_or}
use Rattle.ctokens.specs.declared.token.Token.{Token}
use Rattle.ctokens.specs.declared.token.Tokens.{Tokens}
use Rattle.ctokens.specs.declared.item_span.ItemSpan.{ItemSpan}
use Rattle.ctokens.specs.declared.item_span.Deep.{Deep}
use Rattle.ctokens.specs.declared.symbol.Symbol.{Symbol}
use Rattle.ctokens.specs.declared.symbol.Symbol.TheVariants.{Other}
use Rattle.ctokens.specs.Symbol.{is_opening, is_passed_over, is_left_brace, is_right_brace, is_right_parenthesis, is_semicolon}
use Rattle.ctokens.specs.TokenSymbols.{symbols}
use Rattle.ctokens.specs.Passed.{depth_after, read_symbols}

-- the token of that number in a row
abbrev pub symbol_at : List Symbol → ℕ → Symbol
symbol_at row at = slice_index_or row at Other

-- how many brackets are open behind the first so many tokens of a row, where `depth` are open before the row
abbrev pub depth_behind : ℕ → List Symbol → ℕ → ℕ
depth_behind depth row zero = depth
depth_behind depth [] (suc count) = depth
depth_behind depth (symbol ∷ rest) (suc count) = depth_behind (depth_after depth symbol) rest count

-- how many brackets are open before the token of that number
abbrev pub depth_at : List Symbol → ℕ → ℕ
depth_at row at = depth_behind 0 row at

-- the token stands directly after a `)`; between them stand only tokens that are passed over
pub record IsBehindParenthesis (row : List Symbol) (at : ℕ) : Type 0 where
  pub before : ℕ
  pub earlier : before < at
  pub parenthesis : is_right_parenthesis (symbol_at row before) ≡ true
  pub between : (k : ℕ) → before < k → k < at → is_passed_over (symbol_at row k) ≡ true

-- the token is a `{` at depth 0 directly after a `)`
pub record BeginsBody (row : List Symbol) (at : ℕ) : Type 0 where
  pub brace : is_left_brace (symbol_at row at) ≡ true
  pub outermost : depth_at row at ≡ 0
  pub behind : IsBehindParenthesis row at

-- the token is a `}` that returns to depth 0, and the bracket that it closes opened at that other token
pub record ReturnsFrom (row : List Symbol) (begin at : ℕ) : Type 0 where
  pub later : begin < at
  pub brace : is_right_brace (symbol_at row at) ≡ true
  pub returns : depth_at row at ≡ 1
  pub between : (k : ℕ) → begin < k → k ≤ at → 0 < depth_at row k

-- The item that begins with this row may end at that token: it is a `;` at depth 0, or the `}` of a body.
pub data EndsAt (row : List Symbol) (at : ℕ) : Type 0 where
  WithSemicolon : is_semicolon (symbol_at row at) ≡ true → depth_at row at ≡ 0 → EndsAt row at
  WithBody : (begin : ℕ) → BeginsBody row begin → ReturnsFrom row begin at → EndsAt row at

-- The spans cut the row, whose first token has the number `first`, into items: each ends at the first token at which
-- it may end, and the tokens that are left at the end are a last item.
pub data AreItems : ℕ → List Symbol → List ItemSpan → Type 0 where
  NoToken : (first : ℕ) → AreItems first [] []
  LeftOver : (first : ℕ) (row : List Symbol) → 0 < length row → ((at : ℕ) → at < length row → EndsAt row at → ⊥)
      → AreItems first row (record { first = first; after = first + length row } ∷ [])
  Ending : (first at : ℕ) (row : List Symbol) (spans : List ItemSpan) → at < length row → EndsAt row at
      → ((earlier : ℕ) → earlier < at → EndsAt row earlier → ⊥) → AreItems (first + at + 1) (drop (at + 1) row) spans
      → AreItems first row (record { first = first; after = first + at + 1 } ∷ spans)

-- the token is a bracket that opens at depth 257, itself counted
pub record IsDeepAt (row : List Symbol) (at : ℕ) : Type 0 where
  pub inside : at < length row
  pub opening : is_opening (symbol_at row at) ≡ true
  pub deep : depth_at row at ≡ 256

-- the token is the first of these
pub record IsFirstDeep (t : Tokens) (deep : Deep) : Type 0 where
  pub at : ℕ
  pub is_deep : IsDeepAt (symbols t) at
  pub first : (earlier : ℕ) → earlier < at → IsDeepAt (symbols t) earlier → ⊥
  pub token : Token
  pub is_token : slice_get t.list at ≡ Some token
  pub place : deep.place ≡ token.place

-- the spans are those of the text's items, and no bracket opens at depth 257
pub record AreSpans (t : Tokens) (spans : List ItemSpan) : Type 0 where
  pub none_deep : (at : ℕ) → IsDeepAt (symbols t) at → ⊥
  pub items : AreItems 0 (read_symbols (symbols t)) spans

-- the items of a text, or the first bracket that opens at depth 257
abbrev pub IsItems : Tokens → Result (List ItemSpan) Deep → Type 0
IsItems t (Ok spans) = AreSpans t spans
IsItems t (Err deep) = IsFirstDeep t deep

-- the span has a token, and lies among so many
abbrev pub IsSpanAmong : ℕ → ItemSpan → Type 0
IsSpanAmong count span = (span.first < span.after) × (span.after ≤ count)

-- the span is a row of tokens among so many
abbrev pub IsInside : ℕ → ItemSpan → Type 0
IsInside count span = (span.first ≤ span.after) × (span.after ≤ count)
