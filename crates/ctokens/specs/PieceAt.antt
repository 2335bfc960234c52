-- The piece that a text begins with, found byte by byte.
use Rattle.std.specs.Prelude.{ℕ, ◌+◌, Bool, false, ◌||◌, List, [], ◌∷◌, drop, nat_eq, Option, None, Some, option_map, if◌then◌else◌}
use Rattle.std.specs.List.{prefix_len}
use Rattle.ctokens.specs.Bytes.{is_blank, is_inside_line}
use Rattle.ctokens.specs.Directive.{is_pack, is_passed_over}
use Rattle.ctokens.specs.Lengths.{closing_length, kind_at, token_length}
use Rattle.ctokens.specs.MarkerAt.{marker_at}
use Rattle.ctokens.specs.declared.marker.FoundMarker.{FoundMarker}
use Rattle.ctokens.specs.Pieces.{first_line, line_taken, begins_line_comment, begins_block_comment}
use Rattle.ctokens.specs.declared.closing.Closing.TheVariants.{Comment as CommentBytes}
use Rattle.ctokens.specs.declared.piece.Piece.{Piece}
use Rattle.ctokens.specs.declared.piece.PieceKind.{PieceKind}
use Rattle.ctokens.specs.declared.piece.PieceKind.TheVariants.{Blank, Comment, PassedOver, Pack, Marker, Lexeme}

-- a piece with so many bytes
abbrev pub piece_of : PieceKind → ℕ → Piece
piece_of kind taken = record { kind = kind; taken = taken }

-- a piece with so many bytes, if there are some
abbrev pub sized : PieceKind → ℕ → Option Piece
sized kind taken = if nat_eq taken 0 then None else Some (piece_of kind taken)

-- the longest token at the front
unfoldable pub lexeme_at : List ℕ → Option Piece
lexeme_at text = sized (Lexeme (kind_at text)) (token_length (kind_at text) text)

-- the comment at the front of a text that begins with `//` or `/*`
unfoldable pub comment_at : List ℕ → Option Piece
comment_at text =
    if begins_line_comment text
    then Some (piece_of Comment (prefix_len is_inside_line text))
    else option_map (λ more. piece_of Comment (2 + more)) (closing_length CommentBytes false (drop 2 text))

-- the directive line at the front of a text that begins with `#`
unfoldable pub directive_at : List ℕ → Option Piece
directive_at text =
    if is_pack (first_line text) then Some (piece_of Pack (line_taken text))
    else (if is_passed_over (first_line text) then Some (piece_of PassedOver (line_taken text))
    else option_map (λ (found : FoundMarker). piece_of (Marker found.number found.name) (line_taken text)) (marker_at (first_line text)))

-- the piece at the front
unfoldable pub piece_at : Bool → List ℕ → Option Piece
piece_at still_blank [] = None
piece_at still_blank (first ∷ others) =
    if is_blank first then Some (piece_of Blank 1)
    else (if nat_eq first 35 then (if still_blank then directive_at (first ∷ others) else None)
    else (if begins_line_comment (first ∷ others) || begins_block_comment (first ∷ others)
    then comment_at (first ∷ others)
    else lexeme_at (first ∷ others)))
