-- What changes the layout of an object: an attribute of some names, and a `#pragma pack` line before the end of a struct
-- with members. Each is given up by the number of a layout attribute wherever it stands in an item, also among the tokens that are passed over.
use Rattle.std.specs.Prelude.{◌≡◌, ℕ, ◌+◌, ◌-◌, ◌<◌, ◌≤◌, ◌⊎◌, Bool, ◌&&◌, ◌||◌, not, IsTrue, List, [], ◌∷◌, ◌++◌, Some, drop, take, map, slice_get, codes}
use Rattle.std.specs.List.{list_any}
use Rattle.std.specs.Str.{bytes_eq}
use Rattle.ctokens.specs.declared.token.Tokens.{Tokens}
use Rattle.cgrammar.specs.Readings.{row_between}
use Rattle.cgrammar.specs.Terminals.{Terminal, terminal_of, is_any_word, is_mark, is_word, IsName, IsMark, IsWord}
use Rattle.cconstructs.specs.OpenBrackets.{opens, closes, AreClosed, LeaveOpen}

-- The names of these attributes, each also with `__` on both sides. Two of them change no layout: `cleanup`
-- calls a function where an object's scope ends, and by `alias` a name stands for another one.
abbrev pub layout_names : List (List ℕ)
layout_names = codes "packed" ∷ codes "aligned" ∷ codes "mode" ∷ codes "vector_size" ∷ codes "cleanup" ∷ codes "alias" ∷ []

-- a name with `__` on both sides
abbrev pub with_underscores : List ℕ → List ℕ
with_underscores name = codes "__" ++ name ++ codes "__"

-- the token is a word that is one of these names, with `__` on both sides or without
abbrev pub is_layout_name : Terminal → Bool
is_layout_name token = is_any_word token && (list_any (bytes_eq token.bytes) layout_names || list_any (bytes_eq token.bytes) (map with_underscores layout_names))

-- the token is a `(` or a `,`: an attribute's name may stand behind it
abbrev pub separates : Terminal → Bool
separates token = is_mark (codes "(") token || is_mark (codes ",") token

-- the word of an attribute
abbrev pub is_attribute : Terminal → Bool
is_attribute token = is_word (codes "__attribute__") token || is_word (codes "__attribute") token

-- The row ends in the brackets of an attribute: its word, the bracket directly behind it, and what stands in there. So many
-- brackets more are open at the row's end.
pub record EndsInAttribute (count : ℕ) (row : List Terminal) : Type 0 where
  pub before : List Terminal
  pub word : Terminal
  pub opening : Terminal
  pub inside : List Terminal
  pub is : row ≡ before ++ (word ∷ (opening ∷ inside))
  pub attributes : IsTrue (is_attribute word)
  pub begins : IsTrue (opens opening)
  pub left : LeaveOpen count inside

-- the row ends in no attribute's brackets
abbrev pub EndsInNoAttribute : List Terminal → Type 0
EndsInNoAttribute row = (count : ℕ) → EndsInAttribute count row → ⊥

-- The token at the place names an attribute that changes a layout: a word that is one of the names, at depth 2 in the brackets of
-- `__attribute__((..))`, directly behind a `(` or a `,`. An attribute that stands in the brackets of another is a part of that one.
pub record NamesLayout (row : List Terminal) (at : ℕ) : Type 0 where
  pub name : Terminal
  pub there : slice_get row at ≡ Some name
  pub listed : IsTrue (is_layout_name name)
  pub within : EndsInAttribute 1 (take at row)
  pub apart : EndsInNoAttribute within.before
  pub front : List Terminal
  pub separator : Terminal
  pub directly : take at row ≡ front ++ (separator ∷ [])
  pub separated : IsTrue (separates separator)

-- the tokens from one number up to another, passed over or not
abbrev pub tokens_between : Tokens → ℕ → ℕ → List Terminal
tokens_between t from to = take (to - from) (drop from (map (terminal_of t.text) t.list))

-- `struct` with members begins the row: a `{` with no `}` behind it. Behind the `{` stands the second row.
pub data IsStructWithMembers : List Terminal → List Terminal → Type 0 where
  Untagged : (word opening next : Terminal) (others : List Terminal) → IsWord (codes "struct") word → IsMark (codes "{") opening
      → IsTrue (not (is_mark (codes "}") next)) → IsStructWithMembers (word ∷ (opening ∷ (next ∷ others))) (next ∷ others)
  Tagged : (word tag opening next : Terminal) (others : List Terminal) → IsWord (codes "struct") word → IsName tag → IsMark (codes "{") opening
      → IsTrue (not (is_mark (codes "}") next)) → IsStructWithMembers (word ∷ (tag ∷ (opening ∷ (next ∷ others)))) (next ∷ others)

-- the bracket that is open before the row is closed in it, at or behind the line
pub record ClosesBehind (line : ℕ) (row : List Terminal) : Type 0 where
  pub inside : List Terminal
  pub closing : Terminal
  pub others : List Terminal
  pub is : row ≡ inside ++ (closing ∷ others)
  pub closed : AreClosed inside
  pub ends : IsTrue (closes closing)
  pub behind : line ≤ closing.place.at

-- A struct is laid out at its end, with what holds there: a line between its members changes all of it. One that no
-- bracket closes is known by its word alone.
abbrev pub EndsBehind : ℕ → Terminal → List Terminal → Type 0
EndsBehind line word members = (line ≤ word.place.at) ⊎ ClosesBehind line members

-- the token with the number shows a changed layout, in the item from one token up to another
pub data IsLayoutAt (t : Tokens) (from to : ℕ) : ℕ → Type 0 where
  ByAttribute : (at : ℕ) → NamesLayout (tokens_between t from to) at → IsLayoutAt t from to (from + at)
  ByPragma : (at line : ℕ) (word : Terminal) (members : List Terminal) → slice_get (row_between t from to) at ≡ Some word → IsStructWithMembers (drop at (row_between t from to)) members
      → slice_get t.packs 0 ≡ Some line → EndsBehind line word members → IsLayoutAt t from to word.place.at

-- the token with the number is the first that shows a changed layout, in the item from one token up to another
pub record IsFirstLayout (t : Tokens) (from to number : ℕ) : Type 0 where
  pub is : IsLayoutAt t from to number
  pub first : (earlier : ℕ) → earlier < number → IsLayoutAt t from to earlier → ⊥

-- no token of the item shows a changed layout
abbrev pub HasNoLayout : Tokens → ℕ → ℕ → Type 0
HasNoLayout t from to = (number : ℕ) → IsLayoutAt t from to number → ⊥
