-- The longest row of words of basic types: each basic type that is spelled at the front of a row lies in it.
use Rattle.std.proofs.Common.{◌≡◌, ◌↔◌, ℕ, zero, suc, ◌+◌, ◌≤◌, Bool, true, false, ◌||◌, if◌then◌else◌, List, [], ◌∷◌, Option, Some, take, length, map, nat_eq, cond, refl, sym, ◌∙◌, arith, eqb-true}
use Rattle.std.specs.List.{prefix_len, list_all, list_any}
use Rattle.std.specs.Str.{bytes_eq}
use Rattle.std.proofs.lemmas.Slice.Eq.{bytes_eq-Decides}
use Rattle.cbase.specs.declared.tree.spec.BasicType.{BasicType}
use Rattle.cgrammar.specs.FrontReadings.{is_basic_word}
use Rattle.cgrammar.specs.Terminals.{Terminal, is_any_word, is_word_kind, bytes_of}
use Rattle.cgrammar.specs.TypeWords.{basic_rows, basic_of, are_same, times, IsBasic, basic_words}
use Rattle.cgrammar.proofs.Truth.{and-left, and-right, and-both, or-left, or-right, of-any}

pub passing_front : (test : Terminal → Bool) (row : List Terminal) → list_all test (take (prefix_len test row) row) ≡ true
passing_front test [] = refl
passing_front test (first ∷ others) = step (test first) refl (passing_front test others)
  where
    step : (passes : Bool) → test first ≡ passes → list_all test (take (prefix_len test others) others) ≡ true
        → list_all test (take (cond passes (1 + prefix_len test others) 0) (first ∷ others)) ≡ true
    step true is tail =
        let one : 1 + prefix_len test others ≡ suc (prefix_len test others) = omega arith in
        rw one (rw is tail)
    step false is tail = refl

pub front_covers : (test : Terminal → Bool) (row : List Terminal) (count : ℕ) → count ≤ length row → list_all test (take count row) ≡ true → count ≤ prefix_len test row
front_covers test row zero inside all = omega arith
front_covers test [] (suc count) inside all = absurd (omega (arith, inside))
front_covers test (first ∷ others) (suc count) inside all =
    let passes = and-left (test first) (list_all test (take count others)) all in
    let tail = front_covers test others count (omega (arith, inside)) (and-right (test first) (list_all test (take count others)) all) in
    rw passes (omega (arith, tail))

-- what holds of each word that stands in a list holds of all of it
all-from : (test : List ℕ → Bool) (words : List (List ℕ)) → ((word : List ℕ) → list_any (bytes_eq word) words ≡ true → test word ≡ true) → list_all test words ≡ true
all-from test [] each = refl
all-from test (word ∷ words) each =
    and-both (each word (or-left (list_any (bytes_eq word) words) ((bytes_eq-Decides word word).1 refl)))
    (all-from test words (λ other is. each other (or-right (bytes_eq other word) is)))

-- a word that stands in a list does so at least once
some-count : (word : List ℕ) (words : List (List ℕ)) → list_any (bytes_eq word) words ≡ true → (count : ℕ) × (times word words ≡ suc count)
some-count word [] is = cc is
some-count word (first ∷ others) is = step (bytes_eq word first) (some-count word others) is
  where
    step : (same : Bool) → (list_any (bytes_eq word) others ≡ true → (count : ℕ) × (times word others ≡ suc count))
        → (same || list_any (bytes_eq word) others) ≡ true → (count : ℕ) × ((if same then 1 + times word others else times word others) ≡ suc count)
    step true further i = (times word others, omega arith)
    step false further i = further i

-- a word that stands somewhere is among the words
pub some-times : (word : List ℕ) (others : List (List ℕ)) (count : ℕ) → times word others ≡ suc count → list_any (bytes_eq word) others ≡ true
some-times word [] count is = cc is
some-times word (first ∷ others) count is = step (bytes_eq word first) (some-times word others count) is
  where
    step : (same : Bool) → (times word others ≡ suc count → list_any (bytes_eq word) others ≡ true) → (if same then 1 + times word others else times word others) ≡ suc count → (same || list_any (bytes_eq word) others) ≡ true
    step true further i = refl
    step false further i = further i

-- each of the words stands among the others, where they are the same
same-words : (words others : List (List ℕ)) → are_same words others ≡ true → (word : List ℕ) → list_any (bytes_eq word) words ≡ true → list_any (bytes_eq word) others ≡ true
same-words words others is word stands =
    let each : list_all (λ w. nat_eq (times w words) (times w others)) words ≡ true = and-right (nat_eq (length words) (length others)) (list_all (λ w. nat_eq (times w words) (times w others)) words) is in
    let counts : times word words ≡ times word others = eqb-true (times word words) (times word others) (of-any (λ w. nat_eq (times w words) (times w others)) words word each stands) in
    let some = some-count word words stands in
    some-times word others some.0 (sym counts ∙ some.1)

is-basic : List ℕ → Bool
is-basic bytes = list_any (bytes_eq bytes) basic_words

of-rows : (rows : List (List (List ℕ) × BasicType)) (type : BasicType) (words : List (List ℕ))
    → list_all (λ row. list_all is-basic row.0) rows ≡ true → basic_of rows words ≡ Some type → list_all is-basic words ≡ true
of-rows [] type words all is = cc is
of-rows (row ∷ rows) type words all is = step (are_same words row.0) refl (of-rows rows type words (and-right (list_all is-basic row.0) (list_all (λ r. list_all is-basic r.0) rows) all)) is
  where
    step : (same : Bool) → are_same words row.0 ≡ same → (basic_of rows words ≡ Some type → list_all is-basic words ≡ true) → (if same then Some row.1 else basic_of rows words) ≡ Some type → list_all is-basic words ≡ true
    step true s further i = all-from is-basic words (λ word stands. of-any is-basic row.0 word (and-left (list_all is-basic row.0) (list_all (λ r. list_all is-basic r.0) rows) all) (same-words words row.0 s word stands))
    step false s further i = further i

both-tests : (row : List Terminal) → list_all is_any_word row ≡ true → list_all is-basic (map bytes_of row) ≡ true → list_all is_basic_word row ≡ true
unfolding is-basic
both-tests [] words basic = refl
both-tests (token ∷ row) words basic =
    and-both (and-both (and-left (is_any_word token) (list_all is_any_word row) words) (and-left (list_any (bytes_eq token.bytes) basic_words) (list_all is-basic (map bytes_of row)) basic))
    (both-tests row (and-right (is_any_word token) (list_all is_any_word row) words) (and-right (list_any (bytes_eq token.bytes) basic_words) (list_all is-basic (map bytes_of row)) basic))

words-only : (row : List Terminal) → list_all is_basic_word row ≡ true → list_all is_any_word row ≡ true
words-only [] all = refl
words-only (token ∷ row) all =
    and-both (and-left (is_word_kind token.kind) (list_any (bytes_eq token.bytes) basic_words) (and-left (is_basic_word token) (list_all is_basic_word row) all))
    (words-only row (and-right (is_basic_word token) (list_all is_basic_word row) all))

-- all tokens of a basic type are words of basic types
pub basic_covered : (row : List Terminal) (count : ℕ) (type : BasicType) → count ≤ length row → IsBasic (take count row) type → count ≤ prefix_len is_basic_word row
unfolding is-basic
basic_covered row count type inside basic =
    front_covers is_basic_word row count inside (both-tests (take count row) basic.0 (of-rows basic_rows type (map bytes_of (take count row)) refl basic.1))

pub basic_exact : (row : List Terminal) (count : ℕ) (read : Option BasicType) (type : BasicType) → count ≡ prefix_len is_basic_word row
    → read ≡ basic_of basic_rows (map bytes_of (take count row)) → (read ≡ Some type) ↔ IsBasic (take count row) type
basic_exact row count read type counted found =
    let words : list_all is_basic_word (take count row) ≡ true = rw counted (passing_front is_basic_word row) in
    ((λ is. (words-only (take count row) words, sym found ∙ is)), (λ basic. found ∙ basic.1))
