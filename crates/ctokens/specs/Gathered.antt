-- What the pieces of a text give: tokens with their places, names of files, and the places of `#pragma pack`
-- lines.
use Rattle.std.specs.Prelude.{ℕ, ◌+◌, Bool, List, [], ◌∷◌, ◌++◌, length, take, drop, nat_eq, if◌then◌else◌}
use Rattle.std.specs.List.{position_or_len, list_any}
use Rattle.std.specs.Str.{bytes_eq}
use Rattle.cbase.specs.declared.place.Place.{Place}
use Rattle.ctokens.specs.declared.token.Token.{Token}
use Rattle.ctokens.specs.declared.token.TokenKind.{TokenKind}
use Rattle.ctokens.specs.declared.piece.Piece.{Piece}
use Rattle.ctokens.specs.declared.piece.PieceKind.{PieceKind}
use Rattle.ctokens.specs.declared.piece.PieceKind.TheVariants.{Blank, Comment, PassedOver, Pack, Marker, Lexeme}
use Rattle.ctokens.specs.declared.progress.Spot.{Spot}
use Rattle.ctokens.specs.declared.progress.Progress.{Progress}

-- where the byte behind some bytes stands: a newline ends a line, any other byte takes one column
abbrev pub next_spot : Spot → ℕ → Spot
next_spot spot byte =
    if nat_eq byte 10
    then record { file = spot.file; line = spot.line + 1; column = 1 }
    else record { file = spot.file; line = spot.line; column = spot.column + 1 }

-- where the byte behind these bytes stands, the first of which stands at `spot`
abbrev pub spot_behind : Spot → List ℕ → Spot
spot_behind spot [] = spot
spot_behind spot (byte ∷ others) = spot_behind (next_spot spot byte) others

-- the number of a name among names: that of the first that is the same, or of a new one
abbrev pub number_of : List ℕ → List (List ℕ) → ℕ
number_of name names = position_or_len (bytes_eq name) names

-- the name stands among the names
abbrev pub is_among : List ℕ → List (List ℕ) → Bool
is_among name names = list_any (bytes_eq name) names

-- the names with this one among them; a new one stands behind the others
abbrev pub with_name : List ℕ → List (List ℕ) → List (List ℕ)
with_name name names = if is_among name names then names else names ++ name ∷ []

-- where the byte behind what was read stands, as a token's place
abbrev pub place_of : Progress → Place
place_of progress = record {
  file = progress.spot.file;
  line = progress.spot.line;
  column = progress.spot.column;
  at = length progress.list;
}

-- the token of the kind with these bytes, behind what was read
abbrev pub lexeme_of : TokenKind → List ℕ → Progress → Token
lexeme_of kind bytes progress = record {
  kind = kind;
  from = progress.from;
  to = progress.from + length bytes;
  place = place_of progress;
}

-- these bytes are read, and give nothing
abbrev pub moved : List ℕ → Progress → Progress
moved bytes progress = record progress { from = progress.from + length bytes; spot = spot_behind progress.spot bytes }

-- one more piece, with these bytes. A marker says where the line behind it stands.
abbrev pub gathered : PieceKind → List ℕ → Progress → Progress
gathered Blank bytes progress = moved bytes progress
gathered Comment bytes progress = moved bytes progress
gathered PassedOver bytes progress = moved bytes progress
gathered Pack bytes progress = record (moved bytes progress) { packs = progress.packs ++ length progress.list ∷ [] }
gathered (Marker number name) bytes progress = record progress {
  from = progress.from + length bytes;
  spot = record { file = number_of name progress.names; line = number; column = 1 };
  names = with_name name progress.names;
}
gathered (Lexeme kind) bytes progress = record (moved bytes progress) { list = progress.list ++ lexeme_of kind bytes progress ∷ [] }

-- the pieces of a text, in order
abbrev pub all_gathered : List Piece → List ℕ → Progress → Progress
all_gathered [] text progress = progress
all_gathered (piece ∷ pieces) text progress =
    all_gathered pieces (drop piece.taken text) (gathered piece.kind (take piece.taken text) progress)

-- before the first byte of a text in this file
abbrev pub at_start : List ℕ → Progress
at_start file = record {
  from = 0;
  spot = record { file = 0; line = 1; column = 1 };
  list = [];
  names = file ∷ [];
  packs = [];
}
