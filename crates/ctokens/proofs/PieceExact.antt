-- The piece that is found at the front of a text is the one that begins there, both ways.
use Rattle.std.specs.Prelude.{◌≡◌, ℕ, zero, suc, ◌+◌, ◌≤◌, ◌<◌, Bool, true, false, ◌&&◌, ◌||◌, not, List, [], ◌∷◌, length, take, drop, nat_eq, Option, None, Some, option_map, codes, if◌then◌else◌}
use Rattle.std.specs.List.{list_all, prefix_len, starts_with}
use Rattle.std.proofs.Common.{refl, sym, ◌∙◌, ap, subst, arith, inl, inr, length-drop, eq-eqb}
use Rattle.std.proofs.lemmas.List.Sums.{prefix_len-le-length}
use Rattle.std.proofs.lemmas.Bool.{eqb-true}
use Rattle.ctokens.proofs.Choices.{both_true, true_and, both_false, chosen_no, chosen_yes, from_choice}
use Rattle.ctokens.proofs.Longest.{lexeme_at-exact, lexeme_at-sound, token_length-inside}
use Rattle.ctokens.proofs.TokenKinds.{spelled_is_clear}
use Rattle.ctokens.proofs.Quotes.{closing_length-inside}
use Rattle.ctokens.proofs.Comments.{first_is_found, found_closes_first}
use Rattle.ctokens.proofs.Markers.{marker_at-exact, marker_at-sound, marker_is_not_pragma}
use Rattle.ctokens.specs.Bytes.{is_blank, is_inside_line}
use Rattle.ctokens.specs.Directive.{is_pack, is_passed_over, is_pragma, IsMarker}
use Rattle.ctokens.specs.Lengths.{token_length, kind_at, closing_length}
use Rattle.ctokens.specs.MarkerAt.{marker_at}
use Rattle.ctokens.specs.Pieces.{first_line, line_taken, IsToken, IsBlockComment, closes_at, IsComment, IsDirective, BeginsAs, BeginsWith, BeginsNot, begins_line_comment, begins_block_comment}
use Rattle.ctokens.specs.PieceAt.{piece_of, lexeme_at, comment_at, directive_at, piece_at}
use Rattle.ctokens.specs.declared.closing.Closing.TheVariants.{Comment as CommentBytes}
use Rattle.ctokens.specs.declared.token.TokenKind.{TokenKind}
use Rattle.ctokens.specs.declared.marker.FoundMarker.{FoundMarker}
use Rattle.ctokens.specs.declared.piece.Piece.{Piece}
use Rattle.ctokens.specs.declared.piece.PieceKind.{PieceKind}
use Rattle.ctokens.specs.declared.piece.PieceKind.TheVariants.{Blank, Comment, PassedOver, Pack, Marker, Lexeme}

-- a text that begins with a byte, by a test
first_is : (byte : ℕ) (text : List ℕ) → starts_with nat_eq text (byte ∷ []) ≡ true → (others : List ℕ) × (text ≡ byte ∷ others)
first_is byte [] h = absurd cc
first_is byte (first ∷ others) h =
    let (same, end) = both_true (nat_eq byte first) true h in
    (others, ap (λ (b : ℕ). b ∷ others) (sym (eqb-true byte first same)))

first_two_are : (byte next : ℕ) (text : List ℕ) → starts_with nat_eq text (byte ∷ (next ∷ [])) ≡ true → (others : List ℕ) × (text ≡ byte ∷ (next ∷ others))
first_two_are byte next [] h = absurd cc
first_two_are byte next (first ∷ []) h = let none = (both_true (nat_eq byte first) false h).1 in absurd cc
first_two_are byte next (first ∷ (second ∷ others)) h =
    let (same, later) = both_true (nat_eq byte first) (nat_eq next second && true) h in
    let (same_next, end) = both_true (nat_eq next second) true later in
    let is_first : byte ≡ first = eqb-true byte first same in
    let is_second : next ≡ second = eqb-true next second same_next in
    (others, rw (is_first, is_second) refl)

blank-exact : (still_blank : Bool) (text : List ℕ) → list_all is_blank (take 1 text) ≡ true → 1 ≤ length text → piece_at still_blank text ≡ Some (piece_of Blank 1)
unfolding piece_at
blank-exact still_blank [] h inside = absurd (omega arith)
blank-exact still_blank (first ∷ others) h inside =
    let (blank, end) = both_true (is_blank first) true h in chosen_yes (is_blank first) _ _ blank

comment-exact : (still_blank : Bool) (text : List ℕ) (taken : ℕ) → taken ≤ length text → IsComment text taken → piece_at still_blank text ≡ Some (piece_of Comment taken)
unfolding piece_at comment_at
comment-exact still_blank text taken inside (inl (begins, is)) =
    let (others, whole) = first_two_are 47 47 text begins in
    rw whole (ap (λ (n : ℕ). Some (piece_of Comment n)) (ap (λ (t : List ℕ). prefix_len is_inside_line t) (sym whole) ∙ sym is))
comment-exact still_blank text taken inside (inr block) =
    let (others, whole) = first_two_are 47 42 text block.begins in
    let found = block_is_found text others whole block.place block.behind block.closes block.first in
    rw whole (ap (option_map (λ (n : ℕ). piece_of Comment (2 + n))) found ∙ ap (λ (n : ℕ). Some (piece_of Comment n)) (sum ∙ sym block.whole))
  where
    sum : 2 + block.place ≡ block.place + 2
    sum = omega arith

    block_is_found : (text others : List ℕ) → text ≡ 47 ∷ (42 ∷ others) → (place : ℕ) → 2 ≤ place → closes_at text place ≡ true
        → ((earlier : ℕ) → 2 ≤ earlier → earlier < place → closes_at text earlier ≡ false) → closing_length CommentBytes false others ≡ Some place
    block_is_found text others whole zero behind there first = absurd (omega arith)
    block_is_found text others whole (suc zero) behind there first = absurd (omega arith)
    block_is_found text others whole (suc (suc place)) behind there first =
        let two : place + 2 ≡ suc (suc place) = omega arith in
        first_is_found false others place
        (record {
          there = ap (λ (t : List ℕ). closes_at t (suc (suc place))) (sym whole) ∙ there;
          first = λ earlier before. ap (λ (t : List ℕ). closes_at t (suc (suc earlier))) (sym whole) ∙ first (suc (suc earlier)) (omega arith) (omega arith);
          apart = λ kept. absurd cc;
        }) ∙ ap Some two

directive-first : (still_blank : Bool) (text : List ℕ) (taken : ℕ) → IsDirective still_blank text taken → piece_at still_blank text ≡ directive_at text
unfolding piece_at
directive-first still_blank text taken directive =
    let (others, whole) = first_is 35 text directive.first in
    let alone = directive.alone in
    rw (whole, alone) refl

pack-exact : (text : List ℕ) (taken : ℕ) → taken ≡ line_taken text → is_pack (first_line text) ≡ true → directive_at text ≡ Some (piece_of Pack taken)
unfolding directive_at
pack-exact text taken is h = chosen_yes (is_pack (first_line text)) _ _ h ∙ ap (λ (n : ℕ). Some (piece_of Pack n)) (sym is)

passed_over-exact : (text : List ℕ) (taken : ℕ) → taken ≡ line_taken text → is_passed_over (first_line text) ≡ true → directive_at text ≡ Some (piece_of PassedOver taken)
unfolding directive_at
passed_over-exact text taken is h =
    chosen_no (is_pack (first_line text)) _ _ (not_pack (is_pack (first_line text)) h)
    ∙ (chosen_yes (is_passed_over (first_line text)) _ _ h ∙ ap (λ (n : ℕ). Some (piece_of PassedOver n)) (sym is))
  where
    not_pack : (pack : Bool) → (not pack && (is_pragma (first_line text) || starts_with nat_eq (first_line text) (codes "#ident"))) ≡ true → pack ≡ false
    not_pack true h = absurd cc
    not_pack false h = refl

marker-exact : (text : List ℕ) (number : ℕ) (name : List ℕ) (taken : ℕ) → taken ≡ line_taken text → IsMarker (first_line text) number name
    → directive_at text ≡ Some (piece_of (Marker number name) taken)
unfolding directive_at
marker-exact text number name taken is marker =
    let (no_pack, not_passed) = marker_is_not_pragma (first_line text) number name marker in
    chosen_no (is_pack (first_line text)) _ _ no_pack
    ∙ (chosen_no (is_passed_over (first_line text)) _ _ not_passed
    ∙ (ap (option_map (λ (found : FoundMarker). piece_of (Marker found.number found.name) (line_taken text))) (marker_at-exact (first_line text) number name marker)
    ∙ ap (λ (n : ℕ). Some (piece_of (Marker number name) n)) (sym is)))

token-exact : (still_blank : Bool) (kind : TokenKind) (text : List ℕ) (taken : ℕ) → 0 < taken → taken ≤ length text → IsToken kind text taken
    → piece_at still_blank text ≡ lexeme_at text
unfolding piece_at
token-exact still_blank kind [] taken some inside token = absurd (omega arith)
token-exact still_blank kind (first ∷ others) zero some inside token = absurd (omega arith)
token-exact still_blank kind (first ∷ others) (suc count) some inside token =
    let (no_blank, no_hash) = both_false (is_blank first) (nat_eq first 35) (spelled_is_clear kind first (take count others) token.spelled) in
    chosen_no (is_blank first) _ _ no_blank ∙ (chosen_no (nat_eq first 35) _ _ no_hash
    ∙ chosen_no (begins_line_comment (first ∷ others) || begins_block_comment (first ∷ others)) _ _ token.no_comment)

exact_as : (still_blank : Bool) (text : List ℕ) (kind : PieceKind) (taken : ℕ) → 0 < taken → taken ≤ length text → BeginsAs still_blank text kind taken
    → piece_at still_blank text ≡ Some (piece_of kind taken)
exact_as still_blank text Blank taken some inside (is, blank) =
    blank-exact still_blank text blank (omega arith) ∙ ap (λ (n : ℕ). Some (piece_of Blank n)) (sym is)
exact_as still_blank text Comment taken some inside h = comment-exact still_blank text taken inside h
exact_as still_blank text PassedOver taken some inside (directive, h) = directive-first still_blank text taken directive ∙ passed_over-exact text taken directive.whole h
exact_as still_blank text Pack taken some inside (directive, h) = directive-first still_blank text taken directive ∙ pack-exact text taken directive.whole h
exact_as still_blank text (Marker number name) taken some inside (directive, h) =
    directive-first still_blank text taken directive ∙ marker-exact text number name taken directive.whole h
exact_as still_blank text (Lexeme kind) taken some inside h = token-exact still_blank kind text taken some inside h ∙ lexeme_at-exact kind text taken some inside h

-- a piece that begins the text is found
pub piece_at-exact : (still_blank : Bool) (text : List ℕ) (piece : Piece) → BeginsWith still_blank text piece → piece_at still_blank text ≡ Some piece
piece_at-exact still_blank text piece begins = exact_as still_blank text piece.kind piece.taken begins.some begins.inside begins.begins

-- so one at most begins it, and none where none is found
pub one_piece_begins : (still_blank : Bool) (text : List ℕ) (piece other : Piece) → BeginsWith still_blank text piece → BeginsWith still_blank text other → piece ≡ other
one_piece_begins still_blank text piece other begins begins_other =
    let both : Some piece ≡ Some other = sym (piece_at-exact still_blank text piece begins) ∙ piece_at-exact still_blank text other begins_other in cc

pub none_begins : (still_blank : Bool) (text : List ℕ) → None ≡ piece_at still_blank text → BeginsNot still_blank text
none_begins still_blank text none piece begins =
    let both : None ≡ Some piece = none ∙ piece_at-exact still_blank text piece begins in absurd cc

-- a found piece, with what begins there
record Begun (still_blank : Bool) (text : List ℕ) (kind : PieceKind) (taken : ℕ) : Type 0 where
  some : 0 < taken
  inside : taken ≤ length text
  begins : BeginsAs still_blank text kind taken

from_begun : (still_blank : Bool) (text : List ℕ) (kind : PieceKind) (taken : ℕ) (piece : Piece) → Some (piece_of kind taken) ≡ Some piece → Begun still_blank text kind taken
    → BeginsWith still_blank text piece
from_begun still_blank text kind taken piece is begun =
    let same : piece_of kind taken ≡ piece = cc in
    let here : BeginsWith still_blank text (piece_of kind taken) = record { some = begun.some; inside = begun.inside; begins = begun.begins } in
    subst (λ (p : Piece). BeginsWith still_blank text p) same here

line_inside : (text : List ℕ) → 0 < length text → (0 < line_taken text) × (line_taken text ≤ length text)
line_inside text some = (omega arith, omega arith)

directive-sound : (still_blank : Bool) (text : List ℕ) (piece : Piece) → starts_with nat_eq text (codes "#") ≡ true → still_blank ≡ true → 0 < length text
    → directive_at text ≡ Some piece → BeginsWith still_blank text piece
unfolding directive_at
directive-sound still_blank text piece first alone some h =
    let (above, inside) = line_inside text some in
    let directive : IsDirective still_blank text (line_taken text) = record { first = first; alone = alone; whole = refl } in
    from_choice (BeginsWith still_blank text piece) (is_pack (first_line text)) _ _ (Some piece) h
    (λ pack is. from_begun still_blank text Pack (line_taken text) piece is (record { some = above; inside = inside; begins = (directive, pack) }))
    (λ no_pack later.
    from_choice (BeginsWith still_blank text piece) (is_passed_over (first_line text)) _ _ (Some piece) later
    (λ passed is. from_begun still_blank text PassedOver (line_taken text) piece is (record { some = above; inside = inside; begins = (directive, passed) }))
    (λ no_passed found. marked (marker_at (first_line text)) refl found))
  where
    hash_line : (text : List ℕ) → starts_with nat_eq text (codes "#") ≡ true → (rest : List ℕ) × (first_line text ≡ 35 ∷ rest)
    hash_line text first =
        let (others, whole) = first_is 35 text first in
        let one : prefix_len is_inside_line (35 ∷ others) ≡ suc (prefix_len is_inside_line others) = omega arith in
        (take (prefix_len is_inside_line others) others, ap first_line whole ∙ ap (λ (n : ℕ). take n (35 ∷ others)) one)

    marked : (found : Option FoundMarker) → marker_at (first_line text) ≡ found
        → option_map (λ (found : FoundMarker). piece_of (Marker found.number found.name) (line_taken text)) found ≡ Some piece → BeginsWith still_blank text piece
    marked None is h = absurd cc
    marked (Some found) is h =
        let (rest, hash) = hash_line text first in
        from_begun still_blank text (Marker found.number found.name) (line_taken text) piece h
        (record {
          some = (line_inside text some).0;
          inside = (line_inside text some).1;
          begins = (record { first = first; alone = alone; whole = refl }, marker_at-sound (first_line text) rest hash found is);
        })

comment-sound : (still_blank : Bool) (text : List ℕ) (piece : Piece) → (begins_line_comment text || begins_block_comment text) ≡ true
    → comment_at text ≡ Some piece → BeginsWith still_blank text piece
unfolding comment_at
comment-sound still_blank text piece comment h =
    from_choice (BeginsWith still_blank text piece) (begins_line_comment text) _ _ (Some piece) h
    (λ line is.
    from_begun still_blank text Comment (prefix_len is_inside_line text) piece is
    (record { some = line_some text line; inside = prefix_len-le-length is_inside_line text; begins = inl (line, refl) }))
    (λ no_line found. block (closing_length CommentBytes false (drop 2 text)) refl (only_block (begins_line_comment text) no_line comment) found)
  where
    only_block : (line : Bool) → line ≡ false → (line || begins_block_comment text) ≡ true → begins_block_comment text ≡ true
    only_block true is h = absurd cc
    only_block false is h = h

    line_some : (text : List ℕ) → begins_line_comment text ≡ true → 0 < prefix_len is_inside_line text
    line_some text line =
        let (others, whole) = first_two_are 47 47 text line in
        let here : prefix_len is_inside_line (47 ∷ (47 ∷ others)) ≡ 1 + (1 + prefix_len is_inside_line others) = refl in
        omega (arith, here, ap (λ (t : List ℕ). prefix_len is_inside_line t) whole)

    block_comment : (text others : List ℕ) → text ≡ 47 ∷ (42 ∷ others) → begins_block_comment text ≡ true → (more : ℕ) → closing_length CommentBytes false (drop 2 text) ≡ Some more
        → IsBlockComment text (2 + more)
    block_comment text others whole begins more is =
        let (place, count, first) = found_closes_first others more (ap (closing_length CommentBytes false) (ap (drop 2) (sym whole)) ∙ is) in
        record {
          begins = begins;
          place = place + 2;
          behind = omega arith;
          closes = place_of_close place first.there;
          first = before place first.first;
          whole = omega (arith, count);
        }
      where
        place_of_close : (place : ℕ) → closes_at others place ≡ true → closes_at text (place + 2) ≡ true
        place_of_close place there =
            let two : place + 2 ≡ suc (suc place) = omega arith in
            ap (closes_at text) two ∙ (ap (λ (t : List ℕ). closes_at t (suc (suc place))) whole ∙ there)

        before : (place : ℕ) → ((earlier : ℕ) → earlier < place → closes_at others earlier ≡ false)
            → (earlier : ℕ) → 2 ≤ earlier → earlier < place + 2 → closes_at text earlier ≡ false
        before place first zero low high = absurd (omega arith)
        before place first (suc zero) low high = absurd (omega arith)
        before place first (suc (suc earlier)) low high = ap (λ (t : List ℕ). closes_at t (suc (suc earlier))) whole ∙ first earlier (omega arith)

    block : (found : Option ℕ) → closing_length CommentBytes false (drop 2 text) ≡ found → begins_block_comment text ≡ true
        → option_map (λ (more : ℕ). piece_of Comment (2 + more)) found ≡ Some piece → BeginsWith still_blank text piece
    block None is begins h = absurd cc
    block (Some more) is begins h =
        let (others, whole) = first_two_are 47 42 text begins in
        from_begun still_blank text Comment (2 + more) piece h
        (record {
          some = omega arith;
          inside = omega (arith, closing_length-inside CommentBytes false (drop 2 text) more is, length-drop 2 text, ap length whole);
          begins = inr (block_comment text others whole begins more is);
        })

lexeme-sound : (still_blank : Bool) (text : List ℕ) (piece : Piece) → (begins_line_comment text || begins_block_comment text) ≡ false
    → lexeme_at text ≡ Some piece → BeginsWith still_blank text piece
unfolding lexeme_at
lexeme-sound still_blank text piece clear h =
    from_choice (BeginsWith still_blank text piece) (nat_eq (token_length (kind_at text) text) 0) None _ (Some piece) h
    (λ none is. absurd cc)
    (λ test is.
    let some : 0 < token_length (kind_at text) text = positive (token_length (kind_at text) text) test in
    from_begun still_blank text (Lexeme (kind_at text)) (token_length (kind_at text) text) piece is
    (record {
      some = some;
      inside = token_length-inside (kind_at text) text;
      begins = lexeme_at-sound text (kind_at text) (token_length (kind_at text) text) some refl refl clear;
    }))
  where
    positive : (count : ℕ) → nat_eq count 0 ≡ false → 0 < count
    positive zero h = absurd cc
    positive (suc count) h = omega arith

-- what is found begins the text
pub piece_at-sound : (still_blank : Bool) (text : List ℕ) (piece : Piece) → piece_at still_blank text ≡ Some piece → BeginsWith still_blank text piece
unfolding piece_at
piece_at-sound still_blank [] piece h = absurd cc
piece_at-sound still_blank (first ∷ others) piece h =
    let text : List ℕ = first ∷ others in
    from_choice (BeginsWith still_blank text piece) (is_blank first) _ _ (Some piece) h
    (λ blank is.
    from_begun still_blank text Blank 1 piece is (record { some = omega arith; inside = omega arith; begins = (refl, true_and (is_blank first) true blank refl) }))
    (λ no_blank later.
    from_choice (BeginsWith still_blank text piece) (nat_eq first 35) _ _ (Some piece) later
    (λ hash directive. alone still_blank refl (true_and (nat_eq 35 first) true (eq-eqb 35 first (sym (eqb-true first 35 hash))) refl) directive)
    (λ no_hash rest.
    from_choice (BeginsWith still_blank text piece) (begins_line_comment text || begins_block_comment text) _ _ (Some piece) rest
    (λ comment is. comment-sound still_blank text piece comment is)
    (λ clear is. lexeme-sound still_blank text piece clear is)))
  where
    alone : (test : Bool) → still_blank ≡ test → starts_with nat_eq (first ∷ others) (codes "#") ≡ true
        → (if test then directive_at (first ∷ others) else None) ≡ Some piece → BeginsWith still_blank (first ∷ others) piece
    alone true is hash h = directive-sound still_blank (first ∷ others) piece hash is (omega arith) h
    alone false is hash h = absurd cc

pub begins_where_found : (still_blank : Bool) (text : List ℕ) (piece : Piece) → Some piece ≡ piece_at still_blank text → BeginsWith still_blank text piece
begins_where_found still_blank text piece h = piece_at-sound still_blank text piece (sym h)
