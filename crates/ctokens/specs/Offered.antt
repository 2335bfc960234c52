-- The names that an item offers, in five ways.
use Rattle.std.specs.Prelude.{ℕ, ◌-◌, Bool, true, false, ◌&&◌, ◌||◌, not, if◌then◌else◌, List, [], ◌∷◌, ◌++◌, length, nat_eq, take}
use Rattle.std.specs.List.{slice_index_or}
use Rattle.ctokens.specs.declared.symbol.Symbol.{Symbol}
use Rattle.ctokens.specs.declared.symbol.Symbol.TheVariants.{Assembly, LeftParenthesis, RightParenthesis, LeftBracket, Semicolon, Comma, Equals, Other}
use Rattle.ctokens.specs.declared.symbol.Lexeme.{Lexeme}
use Rattle.ctokens.specs.Symbol.{is_word, is_identifier, is_tag_word, is_opening, is_closing, is_enumeration, is_left_parenthesis, is_left_brace, is_comma, is_equals, is_star}
use Rattle.ctokens.specs.Passed.{depth_after}

-- whether a `{` behind two tokens opens the braces of an enum: behind `enum`, or behind a word that stands
-- behind `enum`
abbrev pub opens_enum : Symbol → Symbol → Bool
opens_enum earlier before = is_enumeration before || (is_word before && is_enumeration earlier)

-- the open brackets after a token, the innermost last: for each, whether it is a brace of an enum
abbrev pub brackets_after : Symbol → Symbol → List Bool → Symbol → List Bool
brackets_after earlier before brackets symbol =
    if is_opening symbol then brackets ++ (is_left_brace symbol && opens_enum earlier before) ∷ []
    else (if is_closing symbol then take (length brackets - 1) brackets else brackets)

-- whether the innermost open bracket is a brace of an enum
abbrev pub is_in_enum : List Bool → Bool
is_in_enum brackets = slice_index_or brackets (length brackets - 1) false

-- what stands behind a word that is declared
abbrev pub follows_declared : Symbol → Bool
follows_declared LeftParenthesis = true
follows_declared LeftBracket = true
follows_declared Equals = true
follows_declared Comma = true
follows_declared Semicolon = true
follows_declared Assembly = true
follows_declared _ = false

-- what stands behind the `)` of brackets round a declared word
abbrev pub follows_bracketed : Symbol → Bool
follows_bracketed LeftParenthesis = true
follows_bracketed LeftBracket = true
follows_bracketed Equals = true
follows_bracketed Assembly = true
follows_bracketed _ = false

-- whether two tokens behind a word in one bracket say that it is a declared one: `[`; `(` without a `*` behind it, which no list of
-- parameters begins with; and a `)` with what goes on with a declarator behind it
abbrev pub says_declared : Symbol → Symbol → Bool
says_declared LeftBracket after = true
says_declared LeftParenthesis after = not (is_star after)
says_declared RightParenthesis after = follows_bracketed after
says_declared _ after = false

-- whether a `=` stands at depth 0 since the last `,` there
abbrev pub set_after : ℕ → Bool → Symbol → Bool
set_after depth set symbol = if nat_eq depth 0 then (is_equals symbol || (not (is_comma symbol) && set)) else set

module _ {N : Type 0} where
  -- Way 1 of offering a name, at the front of a row: the word after `struct`, `union` or `enum`, where `{` follows
  -- (C11 6.7.2.1, 6.7.2.2).
  abbrev pub tag_at : List (Lexeme N) → List (Lexeme N)
  tag_at [] = []
  tag_at (tag ∷ []) = []
  tag_at (tag ∷ (word ∷ [])) = []
  tag_at (tag ∷ (word ∷ (brace ∷ rest))) =
      if is_tag_word tag.symbol && (is_word word.symbol && is_left_brace brace.symbol) then word ∷ [] else []

  -- the words that way 1 gives in a row
  abbrev pub tags : List (Lexeme N) → List (Lexeme N)
  tags [] = []
  tags (token ∷ rest) = tag_at (token ∷ rest) ++ tags rest

  -- Way 2, at a token: a word directly after `{` or `,` at the depth of an enum's braces (C11 6.7.2.2).
  abbrev pub enumerator_at : List Bool → Symbol → Lexeme N → List (Lexeme N)
  enumerator_at brackets before token =
      if is_in_enum brackets && (is_word token.symbol && (is_left_brace before || is_comma before)) then token ∷ [] else []

  -- the words that way 2 gives in a row
  abbrev pub enumerators : Symbol → Symbol → List Bool → List (Lexeme N) → List (Lexeme N)
  enumerators earlier before brackets [] = []
  enumerators earlier before brackets (token ∷ rest) =
      enumerator_at brackets before token ++ enumerators before token.symbol (brackets_after earlier before brackets token.symbol) rest

  -- Way 3, at the front of a row: a word, not a keyword, at depth 0 that is followed by `(`, `[`, `=`, `,`, `;` or
  -- `asm`, and does not stand after a `=` at depth 0 since the last `,` at depth 0 (C11 6.7.6).
  abbrev pub declared_at : ℕ → Bool → List (Lexeme N) → List (Lexeme N)
  declared_at depth set [] = []
  declared_at depth set (word ∷ []) = []
  declared_at depth set (word ∷ (next ∷ rest)) =
      if (nat_eq depth 0 && not set) && (is_identifier word.symbol && follows_declared next.symbol) then word ∷ [] else []

  -- the words that way 3 gives in a row
  abbrev pub declared : ℕ → Bool → List (Lexeme N) → List (Lexeme N)
  declared depth set [] = []
  declared depth set (token ∷ rest) =
      declared_at depth set (token ∷ rest) ++ declared (depth_after depth token.symbol) (set_after depth set token.symbol) rest

  -- the word behind the stars that a row begins with; `starred` says whether a star stands before the row
  abbrev pub behind_stars : Bool → List (Lexeme N) → List (Lexeme N)
  behind_stars starred [] = []
  behind_stars starred (next ∷ rest) =
      if is_star next.symbol then behind_stars true rest
      else (if starred && is_word next.symbol then next ∷ [] else [])

  -- Way 4: in a row `(`, one or more `*`, word, where the `(` stands at depth 0, that word (C11 6.7.6.1).
  abbrev pub pointers : ℕ → List (Lexeme N) → List (Lexeme N)
  pointers depth [] = []
  pointers depth (bracket ∷ rest) =
      (if nat_eq depth 0 && is_left_parenthesis bracket.symbol then behind_stars false rest else [])
      ++ pointers (depth_after depth bracket.symbol) rest

  -- the word that way 4 gives at the front of a row
  abbrev pub pointer_at : ℕ → List (Lexeme N) → List (Lexeme N)
  pointer_at depth [] = []
  pointer_at depth (bracket ∷ rest) = if nat_eq depth 0 && is_left_parenthesis bracket.symbol then behind_stars false rest else []

  -- whether what stands behind a word in one bracket says that it is a declared one
  abbrev pub is_said : List (Lexeme N) → Bool
  is_said [] = false
  is_said (next ∷ []) = false
  is_said (next ∷ (after ∷ rest)) = says_declared next.symbol after.symbol

  -- the word, not a keyword, behind the brackets and stars that a row begins with, where that is a declared one: it is where one of these stands
  -- between it and the bracket before the row, of which `nested` says whether one is passed, and else what follows it says so
  abbrev pub behind_brackets : Bool → List (Lexeme N) → List (Lexeme N)
  behind_brackets nested [] = []
  behind_brackets nested (next ∷ rest) =
      if is_star next.symbol || is_left_parenthesis next.symbol then behind_brackets true rest
      else (if is_identifier next.symbol && (nested || is_said rest) then next ∷ [] else [])

  -- Way 5: a declared word in brackets of its own, of which the first stands at depth 0, and behind no `=` there since the last `,`
  -- (C11 6.7.6p6), as in `void (free)(void *p)`.
  abbrev pub bracketed : ℕ → Bool → List (Lexeme N) → List (Lexeme N)
  bracketed depth set [] = []
  bracketed depth set (bracket ∷ rest) =
      (if (nat_eq depth 0 && not set) && is_left_parenthesis bracket.symbol then behind_brackets false rest else [])
      ++ bracketed (depth_after depth bracket.symbol) (set_after depth set bracket.symbol) rest

  -- the word that way 5 gives at the front of a row
  abbrev pub bracketed_at : ℕ → Bool → List (Lexeme N) → List (Lexeme N)
  bracketed_at depth set [] = []
  bracketed_at depth set (bracket ∷ rest) =
      if (nat_eq depth 0 && not set) && is_left_parenthesis bracket.symbol then behind_brackets false rest else []

  -- the words that the five ways give
  abbrev pub offered : List (Lexeme N) → List (Lexeme N)
  offered row = tags row ++ (enumerators Other Other [] row ++ (declared 0 false row ++ (pointers 0 row ++ bracketed 0 false row)))
