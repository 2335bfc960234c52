-- Each place has a name for its file.
use Rattle.std.specs.Prelude.{◌≡◌, ℕ, ◌+◌, ◌≤◌, ◌<◌, Bool, true, false, List, [], ◌∷◌, ◌++◌, length, take, drop, nat_eq, not, ◌||◌, suc, if◌then◌else◌}
use Rattle.std.specs.List.{All, list_any, position_or_len}
use Rattle.std.specs.Str.{bytes_eq}
use Rattle.std.proofs.Common.{refl, sym, ◌∙◌, ap, subst, arith, length-append}
use Rattle.std.proofs.lemmas.List.Elements.{All-push}
use Rattle.ctokens.proofs.Spots.{on_next_line, along}
use Rattle.ctokens.specs.Gathered.{next_spot, spot_behind, number_of, is_among, with_name, lexeme_of, moved, gathered, all_gathered, at_start}
use Rattle.ctokens.specs.TokenList.{AreTokens, HasNamedFiles, IsLexical}
use Rattle.ctokens.specs.declared.token.Token.{Token}
use Rattle.ctokens.specs.declared.token.Tokens.{Tokens}
use Rattle.ctokens.specs.declared.token.Lexical.{Lexical}
use Rattle.ctokens.specs.declared.piece.Piece.{Piece}
use Rattle.ctokens.specs.declared.piece.PieceKind.{PieceKind}
use Rattle.ctokens.specs.declared.piece.PieceKind.TheVariants.{Blank, Comment, PassedOver, Pack, Marker, Lexeme}
use Rattle.ctokens.specs.declared.progress.Spot.{Spot}
use Rattle.ctokens.specs.declared.progress.Progress.{Progress}

-- the files of the tokens, and of the next place, have names
pub record HasNames (progress : Progress) : Type 0 where
  pub here : progress.spot.file < length progress.names
  pub before : All (λ (token : Token). token.place.file < length progress.names) progress.list

next_spot_file : (spot : Spot) (byte : ℕ) → (next_spot spot byte).file ≡ spot.file
next_spot_file spot byte = step (nat_eq byte 10)
  where
    step : (test : Bool) → (if test then on_next_line spot else along spot).file ≡ spot.file
    step true = refl
    step false = refl

spot_file : (spot : Spot) (bytes : List ℕ) → (spot_behind spot bytes).file ≡ spot.file
spot_file spot [] = refl
spot_file spot (byte ∷ others) = spot_file (next_spot spot byte) others ∙ next_spot_file spot byte

more_names : (name : List ℕ) (names : List (List ℕ)) → length names ≤ length (with_name name names)
more_names name names = step (is_among name names)
  where
    step : (test : Bool) → length names ≤ length (if test then names else names ++ name ∷ [])
    step true = omega arith
    step false = omega (arith, length-append names (name ∷ []))

most_step : (test : Bool) (n m : ℕ) → n ≤ m → (if not test then 1 + n else 0) ≤ suc m
most_step true n m most = omega arith
most_step false n m most = omega (arith, most)

position-most : (p : List ℕ → Bool) (names : List (List ℕ)) → position_or_len p names ≤ length names
position-most p [] = omega arith
position-most p (name ∷ names) = most_step (p name) (position_or_len p names) (length names) (position-most p names)

among_step : (test others : Bool) (n m : ℕ) → (others ≡ true → n < m) → (test || others) ≡ true → (if not test then 1 + n else 0) < suc m
among_step true others n m among is = omega arith
among_step false others n m among is = let below = among is in omega (arith, below)

-- a name has its number among the names with it
position-among : (p : List ℕ → Bool) (names : List (List ℕ)) → list_any p names ≡ true → position_or_len p names < length names
position-among p [] h = absurd cc
position-among p (name ∷ names) h =
    among_step (p name) (list_any p names) (position_or_len p names) (length names) (λ is. position-among p names is) h

numbered : (name : List ℕ) (names : List (List ℕ)) → number_of name names < length (with_name name names)
numbered name names = step (is_among name names) refl
  where
    step : (test : Bool) → is_among name names ≡ test → number_of name names < length (if test then names else names ++ name ∷ [])
    step true is = position-among (bytes_eq name) names is
    step false is = omega (arith, position-most (bytes_eq name) names, length-append names (name ∷ []))

moved_names : (bytes : List ℕ) (progress : Progress) → HasNames progress → HasNames (moved bytes progress)
moved_names bytes progress has = record {
  here = subst (λ (n : ℕ). n < length progress.names) (sym (spot_file progress.spot bytes)) has.here;
  before = has.before;
}

gathered_names : (kind : PieceKind) (bytes : List ℕ) (progress : Progress) → HasNames progress → HasNames (gathered kind bytes progress)
gathered_names Blank bytes progress has = moved_names bytes progress has
gathered_names Comment bytes progress has = moved_names bytes progress has
gathered_names PassedOver bytes progress has = moved_names bytes progress has
gathered_names Pack bytes progress has = let there = moved_names bytes progress has in record { here = there.here; before = there.before }
gathered_names (Marker number name) bytes progress has = record {
  here = numbered name progress.names;
  before = λ k d inside. let low = has.before k d inside in omega (arith, low, more_names name progress.names);
}
gathered_names (Lexeme kind) bytes progress has =
    let there = moved_names bytes progress has in
    record {
      here = there.here;
      before = All-push (λ (token : Token). token.place.file < length progress.names) progress.list (lexeme_of kind bytes progress) has.before has.here;
    }

all_names : (pieces : List Piece) (text : List ℕ) (progress : Progress) → HasNames progress → HasNames (all_gathered pieces text progress)
all_names [] text progress has = has
all_names (piece ∷ pieces) text progress has =
    all_names pieces (drop piece.taken text) (gathered piece.kind (take piece.taken text) progress) (gathered_names piece.kind (take piece.taken text) progress has)

start_names : (file : List ℕ) → HasNames (at_start file)
start_names file = record { here = omega arith; before = λ k d inside. absurd (omega arith) }

-- each token's file has a name
pub tokens_named : (file text : List ℕ) (tokens : Tokens) → AreTokens file text tokens → HasNamedFiles tokens
tokens_named file text tokens are =
    let all = all_names are.pieces text (at_start file) (start_names file) in
    let names = ap length are.named in
    let low = all.here in (
      omega (arith, names, low),
      subst (λ (names : List (List ℕ)). All (λ (token : Token). token.place.file < length names) tokens.list) (sym are.named)
          (subst (All (λ (token : Token). token.place.file < length (all_gathered are.pieces text (at_start file)).names)) (sym are.listed) all.before),
    )

-- and so has that of the first place without a token
pub lexical_named : (file text : List ℕ) (lexical : Lexical) → IsLexical file text lexical → lexical.place.file < length lexical.names
lexical_named file text lexical is =
    let all = all_names is.pieces text (at_start file) (start_names file) in
    let here : lexical.place.file ≡ (all_gathered is.pieces text (at_start file)).spot.file = ap (λ p. p.file) is.placed in
    let names = ap length is.named in
    omega (arith, here, names, all.here)
