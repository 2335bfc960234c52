-- The first change of layout of an item as it is found.
use Rattle.std.specs.Prelude.{ℕ, zero, suc, ◌+◌, ◌-◌, nat_eq, nat_le, min, Bool, true, false, not, ◌&&◌, ◌||◌, if◌then◌else◌, List, [], ◌∷◌, Option, None, Some, codes}
use Rattle.ctokens.specs.declared.token.Tokens.{Tokens}
use Rattle.cgrammar.specs.Readings.{row_between}
use Rattle.cgrammar.specs.Terminals.{Terminal, is_mark, is_name, is_word}
use Rattle.cconstructs.specs.declared.part.Part.{Part}
use Rattle.cconstructs.specs.Layout.{is_attribute, is_layout_name, separates, tokens_between}
use Rattle.cconstructs.specs.OpenBrackets.{opens, closes}

-- how many are open behind a token, where so many were open before it
abbrev pub unclosed_behind : ℕ → Terminal → ℕ
unclosed_behind unclosed token = if opens token then unclosed + 1 else (if closes token then unclosed - 1 else unclosed)

-- outside of an attribute's part; `behind` says whether an attribute's word stands directly before
abbrev pub outside : Bool → Part
outside behind = record { behind = behind; unclosed = 0; separated = false }

-- in an attribute's part, of which so many brackets are open; `separated` says whether a `(` or a `,` stands directly before
abbrev pub within : ℕ → Bool → Part
within unclosed separated = record { behind = false; unclosed = unclosed; separated = separated }

-- a layout attribute's name: at depth 2, directly behind a `(` or a `,`
abbrev pub shows_layout : Part → Terminal → Bool
shows_layout part token = nat_eq part.unclosed 2 && (part.separated && is_layout_name token)

-- what is known of the next token, from what is known of this one: an attribute's part begins with the bracket behind its word
abbrev pub part_behind : Bool → ℕ → Terminal → Part
part_behind behind zero token = if behind && opens token then within 1 true else outside (is_attribute token)
part_behind behind (suc unclosed) token = within (unclosed_behind (suc unclosed) token) (separates token)

-- the number of the first name of a layout attribute in a row of tokens, of which the first has the number `at`
unfoldable pub attribute_from : ℕ → Part → List Terminal → Option ℕ
attribute_from at part [] = None
attribute_from at part (token ∷ others) =
    if shows_layout part token then Some at else attribute_from (at + 1) (part_behind part.behind part.unclosed token) others

-- whether the token closes the last bracket that is open, where so many are open before it
abbrev pub closes_last : ℕ → Terminal → Bool
closes_last unclosed token = closes token && nat_le unclosed 1

-- the token that closes the first bracket that opens in the row, or that is open before it, where so many are open there
unfoldable pub first_closing : ℕ → List Terminal → Option Terminal
first_closing unclosed [] = None
first_closing unclosed (token ∷ others) = if closes_last unclosed token then Some token else first_closing (unclosed_behind unclosed token) others

-- `{` with no `}` behind it begins the row
abbrev pub is_filled : List Terminal → Bool
is_filled [] = false
is_filled (opening ∷ []) = false
is_filled (opening ∷ (next ∷ others)) = is_mark (codes "{") opening && not (is_mark (codes "}") next)

-- a tag, and `{` with no `}` behind it, begin the row
abbrev pub is_tagged : List Terminal → Bool
is_tagged [] = false
is_tagged (tag ∷ others) = is_name tag && is_filled others

-- `struct` with members begins the row
abbrev pub has_members : List Terminal → Bool
has_members [] = false
has_members (word ∷ others) = is_word (codes "struct") word && (is_filled others || is_tagged others)

-- whether a token stands at or behind the line, if there is one
abbrev pub is_behind : ℕ → Option Terminal → Bool
is_behind line None = false
is_behind line (Some closing) = nat_le line closing.place.at

-- whether a struct that begins the row ends at or behind the line
abbrev pub ends_behind : ℕ → Terminal → List Terminal → Bool
ends_behind line word row = nat_le line word.place.at || is_behind line (first_closing 0 row)

-- the number of the row's first token, where it is such a `struct` and ends at or behind the line
abbrev pub struct_at : ℕ → List Terminal → Option ℕ
struct_at line [] = None
struct_at line (word ∷ others) = if has_members (word ∷ others) && ends_behind line word (word ∷ others) then Some word.place.at else None

-- the lesser of two numbers of which each may be wanting
abbrev pub lesser : Option ℕ → Option ℕ → Option ℕ
lesser None other = other
lesser (Some one) None = Some one
lesser (Some one) (Some other) = Some (min one other)

-- the least number of such a `struct` in the row
unfoldable pub least_struct : ℕ → List Terminal → Option ℕ
least_struct line [] = None
least_struct line (word ∷ others) = lesser (struct_at line (word ∷ others)) (least_struct line others)

-- the least number of a `struct` with members that ends at or behind the first of the lines, if there is one
abbrev pub packed_struct : List ℕ → List Terminal → Option ℕ
packed_struct [] row = None
packed_struct (line ∷ lines) row = least_struct line row

-- the number of the first token that shows a changed layout: the name of an attribute or such a `struct`
abbrev pub layout_found : Tokens → ℕ → ℕ → Option ℕ
layout_found t from to = lesser (attribute_from from (outside false) (tokens_between t from to)) (packed_struct t.packs (row_between t from to))
