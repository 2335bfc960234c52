-- Brackets that are matched by kind, token by token.
use Rattle.std.specs.Prelude.{◌≡◌, ℕ, suc, ◌+◌, ◌<◌, Bool, true, false, if◌then◌else◌, List, [], ◌∷◌, Option, None, Some, drop, length, get_or, reverse, ◌≢◌}
use Rattle.std.proofs.Common.{refl, sym, ap, ◌∙◌, add-one, drop-cons}
use Rattle.std.proofs.lemmas.List.{length-reverse}
use Rattle.cgrammar.specs.Brackets.{is_bracket}
use Rattle.cgrammar.specs.ReadOperands.{behind_matched, matched_with, closer_of}
use Rattle.cgrammar.specs.Terminals.{Terminal, is_mark}
use Rattle.cgrammar.specs.Closers.{behind_other, behind_token}

-- what is behind the brackets that are open then
abbrev pub matched_on : Option (List ℕ) → List Terminal → Option (List Terminal)
matched_on None row = None
matched_on (Some opened) row = behind_matched opened row

choice : (b : Bool) (one other : Option (List ℕ)) (row : List Terminal)
    → matched_on (if b then one else other) row ≡ (if b then matched_on one row else matched_on other row)
choice true one other row = refl
choice false one other row = refl

other : (opened : List ℕ) (token : Terminal) (closer : Option ℕ) (row : List Terminal)
    → matched_on (behind_other opened token closer) row
    ≡ matched_with (λ inner. behind_matched (inner ∷ opened) row) (behind_matched opened row) token closer
other opened token (Some closer) row = refl
other opened token None row = choice (is_bracket token) None (Some opened) row

pub matched_one : (closer : ℕ) (others : List ℕ) (token : Terminal) (row : List Terminal)
    → behind_matched (closer ∷ others) (token ∷ row) ≡ matched_on (behind_token closer others token) row
unfolding behind_matched
matched_one closer others token row =
    sym (choice (is_mark (closer ∷ []) token) (Some others) (behind_other (closer ∷ others) token (closer_of token)) row
    ∙ ap (λ (found : Option (List Terminal)). if is_mark (closer ∷ []) token then behind_matched others row else found) (other (closer ∷ others) token (closer_of token) row))

-- the token with a number
pub matched_at : (closer : ℕ) (others : List ℕ) (token : Terminal) (row : List Terminal) (at : ℕ) → at < length row → token ≡ get_or row at token
    → behind_matched (closer ∷ others) (drop at row) ≡ matched_on (behind_token closer others token) (drop (at + 1) row)
matched_at closer others token row at inside here =
    ap (behind_matched (closer ∷ others)) (drop-cons row at token inside
    ∙ (ap (λ (t : Terminal). t ∷ drop (suc at) row) (sym here) ∙ ap (λ (n : ℕ). token ∷ drop n row) (sym (add-one at))))
    ∙ matched_one closer others token (drop (at + 1) row)

pub matched_all : (row : List Terminal) → behind_matched [] row ≡ Some row
unfolding behind_matched
matched_all row = refl

none_left : (stack : List ℕ) → length stack ≢ 0 → behind_matched stack [] ≡ None
unfolding behind_matched
none_left [] some = absurd (some refl)
none_left (closer ∷ others) some = refl

-- the end of the row, where some are open
pub none_behind : (opened : List ℕ) (row : List Terminal) → length opened ≢ 0 → row ≡ [] → None ≡ behind_matched (reverse opened) row
none_behind opened row some nothing =
    sym (ap (behind_matched (reverse opened)) nothing ∙ none_left (reverse opened) (λ empty. some (sym (length-reverse opened) ∙ empty)))
