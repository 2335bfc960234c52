-- What stands before the bracket that closes an open one has its own brackets matched.
use Rattle.std.proofs.Common.{◌≡◌, ℕ, Bool, true, false, not, List, [], ◌∷◌, ◌++◌, refl, ap, subst, codes, Option, None, Some, IsTrue, inl, inr}
use Rattle.std.specs.Prelude.{if◌then◌else◌}
use Rattle.cgrammar.proofs.SoundSteps.{Splits, split_none, split_first, split_more}
use Rattle.cgrammar.specs.Brackets.{is_bracket, ArePair, AreMatched, NothingMore, NoBracket, InBrackets}
use Rattle.cgrammar.specs.ReadOperands.{closer_of, matched_with, behind_matched}
use Rattle.cgrammar.specs.Terminals.{Terminal, is_mark, IsMark}

-- the row closes the open brackets, the innermost first, and that rest stands behind the last of them
abbrev pub Closes : List ℕ → List Terminal → List Terminal → Type 0
Closes [] row rest = row ≡ rest
Closes (closer ∷ closers) row rest =
    (inside : List Terminal) × (closing : Terminal) × (more : List Terminal) × Splits row inside (closing ∷ more) × AreMatched inside × IsMark (closer ∷ []) closing × Closes closers more rest

pair_of : (token closing : Terminal) (closer : ℕ) → closer_of token ≡ Some closer → IsMark (closer ∷ []) closing → ArePair token closing
pair_of token closing closer found marked = step (is_mark (codes "(") token) (is_mark (codes "[") token) (is_mark (codes "{") token) refl refl refl found
  where
    closes : (byte : ℕ) → Some byte ≡ Some closer → IsMark (byte ∷ []) closing
    closes byte same = let is : closer ≡ byte = cc same in subst (λ (n : ℕ). IsMark (n ∷ []) closing) is marked

    step : (round square curly : Bool) → is_mark (codes "(") token ≡ round → is_mark (codes "[") token ≡ square → is_mark (codes "{") token ≡ curly
        → (if round then Some 41 else (if square then Some 93 else (if curly then Some 125 else None))) ≡ Some closer → ArePair token closing
    step true square curly one two three same = inl (one, closes 41 same)
    step false true curly one two three same = inr (inl (two, closes 93 same))
    step false false true one two three same = inr (inr (three, closes 125 same))
    step false false false one two three same = cc same

abbrev Known : List Terminal → List Terminal → List ℕ → Type 0
Known row rest closers = behind_matched closers row ≡ Some rest → Closes closers row rest

pub brackets_close : (closers : List ℕ) (row rest : List Terminal) → behind_matched closers row ≡ Some rest → Closes closers row rest
unfolding behind_matched
brackets_close [] row rest is = cc is
brackets_close (closer ∷ others) [] rest is = cc is
brackets_close (closer ∷ others) (token ∷ row) rest is =
    closing (λ known. brackets_close others row rest known) (λ known. brackets_close (closer ∷ others) row rest known)
    (λ inner known. brackets_close (inner ∷ (closer ∷ others)) row rest known) (is_mark (closer ∷ []) token) refl is
  where
    skipped : Closes (closer ∷ others) row rest → IsTrue (not (is_bracket token)) → Closes (closer ∷ others) (token ∷ row) rest
    skipped (inside, last, more, split, matched, marked, further) none = (token ∷ inside, last, more, split_first refl split, NoBracket token none matched, marked, further)

    nested : (inner : ℕ) → closer_of token ≡ Some inner → Closes (inner ∷ (closer ∷ others)) row rest → Closes (closer ∷ others) (token ∷ row) rest
    nested inner found (inside, last, more, split, matched, marked, (between, final, end, next, also, closes, further)) =
        (token ∷ (inside ++ (last ∷ between)), final, end, split_first refl (split_more split (split_first refl next)), InBrackets token last (pair_of token last inner found marked) matched also, closes, further)

    between_brackets : Known row rest (closer ∷ others) → (bracket : Bool) → is_bracket token ≡ bracket → (if bracket then None else behind_matched (closer ∷ others) row) ≡ Some rest → Closes (closer ∷ others) (token ∷ row) rest
    between_brackets same_open true one same = cc same
    between_brackets same_open false one same = skipped (same_open same) (ap not one)

    opening : Known row rest (closer ∷ others) → ((inner : ℕ) → Known row rest (inner ∷ (closer ∷ others))) → (found : Option ℕ) → closer_of token ≡ found → matched_with (λ inner. behind_matched (inner ∷ (closer ∷ others)) row) (behind_matched (closer ∷ others) row) token found ≡ Some rest → Closes (closer ∷ others) (token ∷ row) rest
    opening same_open more_open (Some inner) found same = nested inner found (more_open inner same)
    opening same_open more_open None found same = between_brackets same_open (is_bracket token) refl same

    closing : Known row rest others → Known row rest (closer ∷ others) → ((inner : ℕ) → Known row rest (inner ∷ (closer ∷ others))) → (closes : Bool) → is_mark (closer ∷ []) token ≡ closes
        → (if closes then behind_matched others row else matched_with (λ inner. behind_matched (inner ∷ (closer ∷ others)) row) (behind_matched (closer ∷ others) row) token (closer_of token)) ≡ Some rest → Closes (closer ∷ others) (token ∷ row) rest
    closing fewer_open same_open more_open true marked same = ([], token, row, split_none (token ∷ row), NothingMore, marked, fewer_open same)
    closing fewer_open same_open more_open false marked same = opening same_open more_open (closer_of token) refl same
