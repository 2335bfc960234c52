-- The pieces of a text, whole: blanks, comments, directive lines and tokens, one behind the other, each the
-- one that begins at its place (C11 5.1.1.2, 6.4, 6.10).
use Rattle.std.specs.Prelude.{◌≡◌, ℕ, ◌+◌, ◌≤◌, ◌<◌, Bool, true, false, ◌||◌, ◌⊎◌, not, min, List, [], ◌∷◌, length, take, drop, nat_eq, IsTrue, codes}
use Rattle.std.specs.Bool.{IsFalse}
use Rattle.std.specs.List.{list_all, prefix_len, starts_with}
use Rattle.ctokens.specs.Bytes.{is_blank, is_inside_line}
use Rattle.ctokens.specs.Spelled.{Spells}
use Rattle.ctokens.specs.Directive.{is_pack, is_passed_over, IsMarker}
use Rattle.ctokens.specs.declared.token.TokenKind.{TokenKind}
use Rattle.ctokens.specs.declared.piece.Piece.{Piece}
use Rattle.ctokens.specs.declared.piece.PieceKind.{PieceKind}
use Rattle.ctokens.specs.declared.piece.PieceKind.TheVariants.{Blank, Comment, PassedOver, Pack, Marker, Lexeme}

-- the first line of a text, without its newline
abbrev pub first_line : List ℕ → List ℕ
first_line text = take (prefix_len is_inside_line text) text

-- how many bytes the first line takes, its newline with it
abbrev pub line_taken : List ℕ → ℕ
line_taken text = min (length text) (prefix_len is_inside_line text + 1)

-- the text begins with `//`
abbrev pub begins_line_comment : List ℕ → Bool
begins_line_comment text = starts_with nat_eq text (codes "//")

-- the text begins with `/*`
abbrev pub begins_block_comment : List ℕ → Bool
begins_block_comment text = starts_with nat_eq text (codes "/*")

-- whether `*/` stands at this place of the text
abbrev pub closes_at : List ℕ → ℕ → Bool
closes_at text place = starts_with nat_eq (drop place text) (codes "*/")

-- a comment from `/*` up to the first `*/` behind it
pub record IsBlockComment (text : List ℕ) (taken : ℕ) : Type 0 where
  pub begins : IsTrue (begins_block_comment text)
  pub place : ℕ
  pub behind : 2 ≤ place
  pub closes : IsTrue (closes_at text place)
  pub first : (earlier : ℕ) → 2 ≤ earlier → earlier < place → IsFalse (closes_at text earlier)
  pub whole : taken ≡ place + 2

-- a comment (C11 6.4.9): from `//` up to the end of the line, or from `/*` up to the first `*/`
abbrev pub IsComment : List ℕ → ℕ → Type 0
IsComment text taken =
    (IsTrue (begins_line_comment text) × (taken ≡ prefix_len is_inside_line text)) ⊎ IsBlockComment text taken

-- a token: its bytes spell it, and no longer row of bytes from its first one on spells a token of any kind
pub record IsToken (kind : TokenKind) (text : List ℕ) (taken : ℕ) : Type 0 where
  pub spelled : Spells kind (take taken text)
  pub longest : (other : TokenKind) (more : ℕ) → taken < more → more ≤ length text → Spells other (take more text) → ⊥
  pub no_comment : IsFalse (begins_line_comment text || begins_block_comment text)

-- a directive line: it begins with `#`, with nothing before that on its line, and it is the whole line
pub record IsDirective (still_blank : Bool) (text : List ℕ) (taken : ℕ) : Type 0 where
  pub first : IsTrue (starts_with nat_eq text (codes "#"))
  pub alone : still_blank ≡ true
  pub whole : taken ≡ line_taken text

-- the text begins with this piece. `still_blank` says that on its line only blanks and comments stand before it.
abbrev pub BeginsAs : Bool → List ℕ → PieceKind → ℕ → Type 0
BeginsAs still_blank text Blank taken = (taken ≡ 1) × IsTrue (list_all is_blank (take 1 text))
BeginsAs still_blank text Comment taken = IsComment text taken
BeginsAs still_blank text PassedOver taken = IsDirective still_blank text taken × IsTrue (is_passed_over (first_line text))
BeginsAs still_blank text Pack taken = IsDirective still_blank text taken × IsTrue (is_pack (first_line text))
BeginsAs still_blank text (Marker number name) taken = IsDirective still_blank text taken × IsMarker (first_line text) number name
BeginsAs still_blank text (Lexeme kind) taken = IsToken kind text taken

-- the text begins with this piece, which has at least one byte and lies in the text
pub record BeginsWith (still_blank : Bool) (text : List ℕ) (piece : Piece) : Type 0 where
  pub some : 0 < piece.taken
  pub inside : piece.taken ≤ length text
  pub begins : BeginsAs still_blank text piece.kind piece.taken

-- whether on the line behind a piece with these bytes only blanks and comments stand so far
abbrev pub still_blank_behind : PieceKind → Bool → List ℕ → Bool
still_blank_behind Blank still_blank bytes = still_blank || not (list_all is_inside_line bytes)
still_blank_behind Comment still_blank bytes = still_blank || not (list_all is_inside_line bytes)
still_blank_behind PassedOver still_blank bytes = true
still_blank_behind Pack still_blank bytes = true
still_blank_behind (Marker number name) still_blank bytes = true
still_blank_behind (Lexeme kind) still_blank bytes = false

-- the text is these pieces, one behind the other, and then this rest
abbrev pub Splits : Bool → List Piece → List ℕ → Bool → List ℕ → Type 0
Splits still_blank [] text last rest = (still_blank ≡ last) × (text ≡ rest)
Splits still_blank (piece ∷ pieces) text last rest =
    BeginsWith still_blank text piece
    × Splits (still_blank_behind piece.kind still_blank (take piece.taken text)) pieces (drop piece.taken text) last rest

-- no piece begins there
abbrev pub BeginsNot : Bool → List ℕ → Type 0
BeginsNot still_blank text = (piece : Piece) → BeginsWith still_blank text piece → ⊥
