-- A text has one list of tokens or one first place without any.
use Rattle.std.specs.Prelude.{◌≡◌, ℕ, ◌≤◌, Bool, true, List, [], ◌∷◌, take, drop}
use Rattle.std.proofs.Common.{refl, sym, ◌∙◌, ap, subst, arith}
use Rattle.cbase.specs.declared.place.Place.{Place}
use Rattle.ctokens.proofs.PieceExact.{one_piece_begins}
use Rattle.ctokens.specs.Pieces.{BeginsWith, BeginsNot, Splits, still_blank_behind}
use Rattle.ctokens.specs.Gathered.{place_of, all_gathered, at_start}
use Rattle.ctokens.specs.TokenList.{AreTokens, IsLexical}
use Rattle.ctokens.specs.declared.token.Token.{Token}
use Rattle.ctokens.specs.declared.token.Tokens.{Tokens}
use Rattle.ctokens.specs.declared.token.Lexical.{Lexical}
use Rattle.ctokens.specs.declared.piece.Piece.{Piece}
use Rattle.ctokens.specs.declared.progress.Progress.{Progress}

-- no piece begins at the end
none_at_end : (still_blank : Bool) → BeginsNot still_blank []
none_at_end still_blank piece begins = let inside : piece.taken ≤ 0 = begins.inside in omega (arith, begins.some)

begins_at : (still_blank last : Bool) (text rest : List ℕ) (piece : Piece) → still_blank ≡ last → text ≡ rest → BeginsWith still_blank text piece → BeginsWith last rest piece
begins_at still_blank last text rest piece same whole begins =
    subst (λ (t : List ℕ). BeginsWith last t piece) whole (subst (λ (b : Bool). BeginsWith b text piece) same begins)

-- two ways to split a text into pieces, up to where none begins, are the same
pub record AreSame (pieces others : List Piece) (rest left : List ℕ) : Type 0 where
  pub pieces_are : pieces ≡ others
  pub rest_is : rest ≡ left

one_split : (still_blank : Bool) (pieces others : List Piece) (text : List ℕ) (last end : Bool) (rest left : List ℕ) → Splits still_blank pieces text last rest → BeginsNot last rest
    → Splits still_blank others text end left → BeginsNot end left → AreSame pieces others rest left
one_split still_blank [] [] text last end rest left (same, whole) none (same_other, whole_other) none_other = record { pieces_are = refl; rest_is = sym whole ∙ whole_other }
one_split still_blank [] (other ∷ others) text last end rest left (same, whole) none (begins, tail) none_other =
    absurd (none other (begins_at still_blank last text rest other same whole begins))
one_split still_blank (piece ∷ pieces) [] text last end rest left (begins, tail) none (same, whole) none_other =
    absurd (none_other piece (begins_at still_blank end text left piece same whole begins))
one_split still_blank (piece ∷ pieces) (other ∷ others) text last end rest left (begins, tail) none (begins_other, tail_other) none_other =
    let same : other ≡ piece = one_piece_begins still_blank text other piece begins_other begins in
    let there : Splits (still_blank_behind piece.kind still_blank (take piece.taken text)) others (drop piece.taken text) end left =
    subst (λ (p : Piece). Splits (still_blank_behind p.kind still_blank (take p.taken text)) others (drop p.taken text) end left) same tail_other in
    let both = one_split (still_blank_behind piece.kind still_blank (take piece.taken text)) pieces others (drop piece.taken text) last end rest left tail none there none_other in
    record {
      pieces_are = ap (λ (ps : List Piece). piece ∷ ps) both.pieces_are ∙ ap (λ (p : Piece). p ∷ others) (sym same);
      rest_is = both.rest_is;
    }

of_parts : List ℕ → List Token → List (List ℕ) → List ℕ → Tokens
of_parts text list names packs = record { text = text; list = list; names = names; packs = packs }

same_tokens : (tokens others : Tokens) → tokens.text ≡ others.text → tokens.list ≡ others.list → tokens.names ≡ others.names → tokens.packs ≡ others.packs → tokens ≡ others
unfolding of_parts
same_tokens tokens others text list names packs =
    ap (λ (t : List ℕ). of_parts t tokens.list tokens.names tokens.packs) text
    ∙ (ap (λ (l : List Token). of_parts others.text l tokens.names tokens.packs) list
    ∙ (ap (λ (n : List (List ℕ)). of_parts others.text others.list n tokens.packs) names
    ∙ ap (λ (p : List ℕ). of_parts others.text others.list others.names p) packs))

lexical_of : Place → List (List ℕ) → Lexical
lexical_of place names = record { place = place; names = names }

same_lexical : (lexical other : Lexical) → lexical.place ≡ other.place → lexical.names ≡ other.names → lexical ≡ other
unfolding lexical_of
same_lexical lexical other place names =
    ap (λ (p : Place). lexical_of p lexical.names) place ∙ ap (λ (n : List (List ℕ)). lexical_of other.place n) names

pub one_list : (file text : List ℕ) (tokens others : Tokens) → AreTokens file text tokens → AreTokens file text others → tokens ≡ others
one_list file text tokens others are are_others =
    let both = one_split true are.pieces are_others.pieces text are.last are_others.last [] [] are.splits (none_at_end are.last) are_others.splits (none_at_end are_others.last) in
    let given : all_gathered are.pieces text (at_start file) ≡ all_gathered are_others.pieces text (at_start file) =
    ap (λ (ps : List Piece). all_gathered ps text (at_start file)) both.pieces_are in
    same_tokens tokens others (are.whole ∙ sym are_others.whole)
    (are.listed ∙ (ap (λ (p : Progress). p.list) given ∙ sym are_others.listed))
    (are.named ∙ (ap (λ (p : Progress). p.names) given ∙ sym are_others.named))
    (are.packed ∙ (ap (λ (p : Progress). p.packs) given ∙ sym are_others.packed))

pub one_place : (file text : List ℕ) (lexical other : Lexical) → IsLexical file text lexical → IsLexical file text other → lexical ≡ other
one_place file text lexical other is is_other =
    let both = one_split true is.pieces is_other.pieces text is.last is_other.last is.rest is_other.rest is.splits is.none is_other.splits is_other.none in
    let given : all_gathered is.pieces text (at_start file) ≡ all_gathered is_other.pieces text (at_start file) =
    ap (λ (ps : List Piece). all_gathered ps text (at_start file)) both.pieces_are in
    same_lexical lexical other (is.placed ∙ (ap place_of given ∙ sym is_other.placed)) (is.named ∙ (ap (λ (p : Progress). p.names) given ∙ sym is_other.named))

pub never_both : (file text : List ℕ) (tokens : Tokens) (lexical : Lexical) → AreTokens file text tokens → IsLexical file text lexical → ⊥
never_both file text tokens lexical are is =
    let both = one_split true are.pieces is.pieces text are.last is.last [] is.rest are.splits (none_at_end are.last) is.splits is.none in
    is.more (sym both.rest_is)
