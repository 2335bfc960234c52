-- How far a reader of pieces has come.
use Rattle.std.specs.Prelude.{◌≡◌, ℕ, ◌+◌, ◌-◌, ◌≤◌, ◌<◌, Bool, true, false, List, [], ◌∷◌, ◌++◌, length, take, drop, nat_eq, if◌then◌else◌}
use Rattle.std.proofs.Common.{refl, sym, ◌∙◌, ap, subst, arith, get_or, length-append, length-drop, length-take-le}
use Rattle.std.proofs.lemmas.Bool.{eqb-true, eqb-false}
use Rattle.std.proofs.lemmas.List.{drop-drop, get_or_append_left, get_or_push}
use Rattle.std.proofs.lemmas.List.Elements.{All-push}
use Rattle.ctokens.proofs.Spots.{on_next_line, along}
use Rattle.ctokens.specs.InText.{most_bytes}
use Rattle.ctokens.specs.Spelled.{Spells}
use Rattle.ctokens.specs.Pieces.{BeginsAs, BeginsWith, BeginsNot, Splits, still_blank_behind}
use Rattle.ctokens.specs.PieceAt.{piece_of}
use Rattle.ctokens.specs.Gathered.{next_spot, spot_behind, is_among, with_name, place_of, lexeme_of, moved, gathered, all_gathered, at_start}
use Rattle.ctokens.specs.Room.{HasRoom}
use Rattle.ctokens.specs.TokenList.{AreTokens, IsLexical, IsOfText, AreOfText}
use Rattle.ctokens.specs.declared.token.Token.{Token}
use Rattle.ctokens.specs.declared.token.Tokens.{Tokens}
use Rattle.ctokens.specs.declared.token.Lexical.{Lexical}
use Rattle.ctokens.specs.declared.piece.Piece.{Piece}
use Rattle.ctokens.specs.declared.piece.PieceKind.{PieceKind}
use Rattle.ctokens.specs.declared.piece.PieceKind.TheVariants.{Blank, Comment, PassedOver, Pack, Marker, Lexeme}
use Rattle.ctokens.specs.declared.progress.Spot.{Spot}
use Rattle.ctokens.specs.declared.progress.Progress.{Progress}

-- one more piece behind others
splits_more : (first last : Bool) (pieces : List Piece) (text rest : List ℕ) (piece : Piece) → Splits first pieces text last rest → BeginsWith last rest piece
    → Splits first (pieces ++ piece ∷ []) text (still_blank_behind piece.kind last (take piece.taken rest)) (drop piece.taken rest)
splits_more first last [] text rest piece (same, whole) begins =
    let there : BeginsWith last text piece = subst (λ (t : List ℕ). BeginsWith last t piece) (sym whole) begins in
    let here : BeginsWith first text piece = subst (λ (b : Bool). BeginsWith b text piece) (sym same) there in (
      here,
      (
        ap (λ (b : Bool). still_blank_behind piece.kind b (take piece.taken text)) same
            ∙ ap (λ (t : List ℕ). still_blank_behind piece.kind last (take piece.taken t)) whole,
        ap (drop piece.taken) whole,
      ),
    )
splits_more first last (other ∷ pieces) text rest piece (begins_other, tail) begins =
    (begins_other, splits_more (still_blank_behind other.kind first (take other.taken text)) last pieces (drop other.taken text) rest piece tail begins)

gathered_more : (first last : Bool) (pieces : List Piece) (text rest : List ℕ) (piece : Piece) (progress : Progress) → Splits first pieces text last rest
    → all_gathered (pieces ++ piece ∷ []) text progress ≡ gathered piece.kind (take piece.taken rest) (all_gathered pieces text progress)
gathered_more first last [] text rest piece progress (same, whole) = ap (λ (t : List ℕ). gathered piece.kind (take piece.taken t) progress) whole
gathered_more first last (other ∷ pieces) text rest piece progress (begins_other, tail) =
    gathered_more (still_blank_behind other.kind first (take other.taken text)) last pieces (drop other.taken text) rest piece (gathered other.kind (take other.taken text) progress) tail

-- bounds

next_spot_bounds : (spot : Spot) (byte : ℕ) → ((next_spot spot byte).line ≤ spot.line + 1) × ((next_spot spot byte).column ≤ spot.column + 1)
next_spot_bounds spot byte = step (nat_eq byte 10)
  where
    step : (test : Bool) → ((if test then on_next_line spot else along spot).line ≤ spot.line + 1) × ((if test then on_next_line spot else along spot).column ≤ spot.column + 1)
    step true = (omega arith, omega arith)
    step false = (omega arith, omega arith)

spot_bounds : (spot : Spot) (bytes : List ℕ) → ((spot_behind spot bytes).line ≤ spot.line + length bytes) × ((spot_behind spot bytes).column ≤ spot.column + length bytes)
spot_bounds spot [] = (omega arith, omega arith)
spot_bounds spot (byte ∷ others) =
    let next = next_spot_bounds spot byte in
    let tail = spot_bounds (next_spot spot byte) others in
    (omega (arith, next.0, tail.0), omega (arith, next.1, tail.1))

with_name-length : (name : List ℕ) (names : List (List ℕ)) → length (with_name name names) ≤ length names + 1
with_name-length name names = step (is_among name names)
  where
    step : (test : Bool) → length (if test then names else names ++ name ∷ []) ≤ length names + 1
    step true = omega arith
    step false = omega (arith, length-append names (name ∷ []))

moved_room : (bytes : List ℕ) (progress : Progress) → HasRoom progress → progress.from + length bytes ≤ most_bytes → HasRoom (moved bytes progress)
moved_room bytes progress room fits = record {
  bytes = fits;
  line = omega (arith, room.line, (spot_bounds progress.spot bytes).0);
  column = omega (arith, room.column, (spot_bounds progress.spot bytes).1);
  tokens = omega (arith, room.tokens);
  files = omega (arith, room.files);
}

gathered_room : (still_blank : Bool) (rest : List ℕ) (kind : PieceKind) (taken : ℕ) (bytes : List ℕ) (progress : Progress) → HasRoom progress → 0 < length bytes
    → progress.from + length bytes ≤ most_bytes → BeginsAs still_blank rest kind taken → HasRoom (gathered kind bytes progress)
gathered_room still_blank rest Blank taken bytes progress room some fits begins = moved_room bytes progress room fits
gathered_room still_blank rest Comment taken bytes progress room some fits begins = moved_room bytes progress room fits
gathered_room still_blank rest PassedOver taken bytes progress room some fits begins = moved_room bytes progress room fits
gathered_room still_blank rest Pack taken bytes progress room some fits begins =
    let there = moved_room bytes progress room fits in
    record { bytes = there.bytes; line = there.line; column = there.column; tokens = there.tokens; files = there.files }
gathered_room still_blank rest (Marker number name) taken bytes progress room some fits (directive, marker) = record {
  bytes = fits;
  line = omega (arith, marker.numbers.in_range);
  column = omega arith;
  tokens = omega (arith, room.tokens);
  files = omega (arith, room.files, with_name-length name progress.names);
}
gathered_room still_blank rest (Lexeme kind) taken bytes progress room some fits begins =
    let there = moved_room bytes progress room fits in
    record {
      bytes = there.bytes;
      line = there.line;
      column = there.column;
      tokens = omega (arith, room.tokens, length-append progress.list (lexeme_of kind bytes progress ∷ []));
      files = there.files;
    }

-- what the tokens say of the text

of_text_more : (text : List ℕ) (tokens : List Token) (token : Token) → AreOfText text tokens → IsOfText text token → token.place.at ≡ length tokens
    → length tokens < length text → AreOfText text (tokens ++ token ∷ [])
of_text_more text tokens token so_far is_one at few = record {
  parts = All-push (IsOfText text) tokens token so_far.parts is_one;
  few = omega (arith, length-append tokens (token ∷ []));
  numbered = λ number other inside. by_place number other inside (nat_eq number (length tokens)) refl;
}
  where
    by_place : (number : ℕ) (other : Token) → number < length (tokens ++ token ∷ []) → (last : Bool) → nat_eq number (length tokens) ≡ last
        → (get_or (tokens ++ token ∷ []) number other).place.at ≡ number
    by_place number other inside true is =
        let same : length tokens ≡ number = sym (eqb-true number (length tokens) is) in
        ap (λ (t : Token). t.place.at) (get_or_push tokens token other number same) ∙ (at ∙ same)
    by_place number other inside false is =
        let before : number < length tokens = omega (arith, length-append tokens (token ∷ []), eqb-false number (length tokens) is) in
        ap (λ (t : Token). t.place.at) (get_or_append_left tokens (token ∷ []) other number before) ∙ so_far.numbered number other before

gathered_of_text : (text rest : List ℕ) (still_blank : Bool) (kind : PieceKind) (taken : ℕ) (progress : Progress) → HasRoom progress
    → rest ≡ drop progress.from text → 0 < taken → taken ≤ length rest → BeginsAs still_blank rest kind taken → AreOfText text progress.list
    → AreOfText text (gathered kind (take taken rest) progress).list
gathered_of_text text rest still_blank Blank taken progress room behind some inside begins so_far = so_far
gathered_of_text text rest still_blank Comment taken progress room behind some inside begins so_far = so_far
gathered_of_text text rest still_blank PassedOver taken progress room behind some inside begins so_far = so_far
gathered_of_text text rest still_blank Pack taken progress room behind some inside begins so_far = so_far
gathered_of_text text rest still_blank (Marker number name) taken progress room behind some inside begins so_far = so_far
gathered_of_text text rest still_blank (Lexeme kind) taken progress room behind some inside begins so_far =
    let count : length (take taken rest) ≡ taken = length-take-le taken rest inside in
    let left = ap length behind ∙ length-drop progress.from text in
    let wide : progress.from + length (take taken rest) - progress.from ≡ taken = omega (arith, count) in
    let bytes : take (progress.from + length (take taken rest) - progress.from) (drop progress.from text) ≡ take taken rest =
    ap (λ (n : ℕ). take n (drop progress.from text)) wide ∙ ap (take taken) (sym behind) in
    of_text_more text progress.list (lexeme_of kind (take taken rest) progress) so_far
    (record {
      some = omega (arith, count);
      inside = omega (arith, count, left);
      spelled = subst (λ (b : List ℕ). Spells kind b) (sym bytes) begins.spelled;
    })
    refl (omega (arith, room.tokens, left))

gathered_from : (kind : PieceKind) (bytes : List ℕ) (progress : Progress) → (gathered kind bytes progress).from ≡ progress.from + length bytes
gathered_from Blank bytes progress = refl
gathered_from Comment bytes progress = refl
gathered_from PassedOver bytes progress = refl
gathered_from Pack bytes progress = refl
gathered_from (Marker number name) bytes progress = refl
gathered_from (Lexeme kind) bytes progress = refl

-- these pieces are read, and this rest is left
pub record Reached (file text : List ℕ) (progress : Progress) (still_blank : Bool) (rest : List ℕ) : Type 0 where
  pub pieces : List Piece
  pub splits : Splits true pieces text still_blank rest
  pub given : progress ≡ all_gathered pieces text (at_start file)
  pub behind : rest ≡ drop progress.from text
  pub within : progress.from + length rest ≤ most_bytes
  pub room : HasRoom progress
  pub of_text : AreOfText text progress.list

pub reached_start : (file text : List ℕ) → length text ≤ most_bytes → Reached file text (at_start file) true text
reached_start file text small = record {
  pieces = [];
  splits = (refl, refl);
  given = refl;
  behind = refl;
  within = omega arith;
  room = record { bytes = omega arith; line = omega arith; column = omega arith; tokens = omega arith; files = omega arith };
  of_text = record { parts = λ k d inside. absurd (omega arith); few = omega arith; numbered = λ number other inside. absurd (omega arith) };
}

pub reached_more : (file text : List ℕ) (progress : Progress) (still_blank : Bool) (rest : List ℕ) (kind : PieceKind) (taken : ℕ) → Reached file text progress still_blank rest
    → BeginsWith still_blank rest (piece_of kind taken) → Reached file text (gathered kind (take taken rest) progress) (still_blank_behind kind still_blank (take taken rest)) (drop taken rest)
reached_more file text progress still_blank rest kind taken so_far begins =
    let count : length (take taken rest) ≡ taken = length-take-le taken rest begins.inside in
    let from : (gathered kind (take taken rest) progress).from ≡ progress.from + taken = gathered_from kind (take taken rest) progress ∙ ap (λ (n : ℕ). progress.from + n) count in
    let some = begins.some in
    let inside : taken ≤ length rest = begins.inside in
    let within = so_far.within in
    record {
      pieces = so_far.pieces ++ piece_of kind taken ∷ [];
      splits = splits_more true still_blank so_far.pieces text rest (piece_of kind taken) so_far.splits begins;
      given = ap (gathered kind (take taken rest)) so_far.given ∙ sym (gathered_more true still_blank so_far.pieces text rest (piece_of kind taken) (at_start file) so_far.splits);
      behind = ap (drop taken) so_far.behind ∙ (drop-drop taken progress.from text ∙ ap (λ (n : ℕ). drop n text) (sym from));
      within = omega (arith, from, within, length-drop taken rest, inside);
      room = gathered_room still_blank rest kind taken (take taken rest) progress so_far.room (omega (arith, count, some)) (omega (arith, count, within, inside)) begins.begins;
      of_text = gathered_of_text text rest still_blank kind taken progress so_far.room so_far.behind some inside begins.begins so_far.of_text;
    }

pub reached_next : (file text : List ℕ) (progress : Progress) (still_blank : Bool) (rest : List ℕ) (kind : PieceKind) (taken : ℕ) (more : Progress) (broken : Bool) (bytes left : List ℕ)
    → Reached file text progress still_blank rest → BeginsWith still_blank rest (piece_of kind taken) → bytes ≡ take taken rest → more ≡ gathered kind bytes progress
    → broken ≡ still_blank_behind kind still_blank bytes → left ≡ drop taken rest → Reached file text more broken left
reached_next file text progress still_blank rest kind taken more broken bytes left so_far begins are_bytes is_more is_broken is_left =
    rw (is_more, is_broken, is_left, are_bytes) (reached_more file text progress still_blank rest kind taken so_far begins)

-- at the end

pub tokens_at_end : (file text : List ℕ) (progress : Progress) (still_blank : Bool) (tokens : Tokens) → Reached file text progress still_blank [] → tokens.text ≡ text
    → tokens.list ≡ progress.list → tokens.names ≡ progress.names → tokens.packs ≡ progress.packs → AreTokens file text tokens
tokens_at_end file text progress still_blank tokens so_far whole listed named packed = record {
  pieces = so_far.pieces;
  last = still_blank;
  splits = so_far.splits;
  whole = whole;
  listed = listed ∙ ap (λ (p : Progress). p.list) so_far.given;
  named = named ∙ ap (λ (p : Progress). p.names) so_far.given;
  packed = packed ∙ ap (λ (p : Progress). p.packs) so_far.given;
}

pub lexical_where_none : (file text : List ℕ) (progress : Progress) (still_blank : Bool) (rest : List ℕ) (lexical : Lexical) → Reached file text progress still_blank rest
    → (rest ≡ [] → ⊥) → BeginsNot still_blank rest → lexical.place ≡ place_of progress → lexical.names ≡ progress.names → IsLexical file text lexical
lexical_where_none file text progress still_blank rest lexical so_far more none placed named = record {
  pieces = so_far.pieces;
  last = still_blank;
  rest = rest;
  splits = so_far.splits;
  more = more;
  none = none;
  placed = placed ∙ ap place_of so_far.given;
  named = named ∙ ap (λ (p : Progress). p.names) so_far.given;
}
