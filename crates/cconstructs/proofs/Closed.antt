-- Rows in which brackets are closed, whatever the kinds of the two: rows one behind the other, and one token more.
use Rattle.std.proofs.Common.{◌≡◌, ℕ, suc, Bool, true, false, not, ◌||◌, ◌⊎◌, inl, inr, refl, ap, sym, subst, List, [], ◌∷◌, ◌++◌, codes, append_assoc}
use Rattle.std.specs.Str.{bytes_eq}
use Rattle.cgrammar.proofs.TokenKinds.{name_is_no_mark, other_mark, word_is_no_mark}
use Rattle.cgrammar.proofs.Truth.{clash, or-cases}
use Rattle.cgrammar.specs.Terminals.{Terminal, is_mark, is_name, is_word}
use Rattle.cconstructs.specs.Layout.{is_attribute}
use Rattle.cconstructs.specs.OpenBrackets.{opens, closes, AreClosed, NothingMore, NoBracket, InBrackets, LeaveOpen, NoneOpen, OneOpen}

-- a token that closes a bracket opens none
pub closing_opens_none : (token : Terminal) → closes token ≡ true → opens token ≡ false
closing_opens_none token is = step (or-cases (is_mark (codes ")") token) (is_mark (codes "]") token || is_mark (codes "}") token) is)
  where
    none : (bytes : List ℕ) → is_mark bytes token ≡ true → bytes_eq bytes (codes "(") ≡ false → bytes_eq bytes (codes "[") ≡ false → bytes_eq bytes (codes "{") ≡ false → opens token ≡ false
    none bytes marked round square curly = λ i. other_mark bytes (codes "(") token round marked i || (other_mark bytes (codes "[") token square marked i || other_mark bytes (codes "{") token curly marked i)

    other : (is_mark (codes "]") token ≡ true) ⊎ (is_mark (codes "}") token ≡ true) → opens token ≡ false
    other (inl marked) = none (codes "]") marked refl refl refl
    other (inr marked) = none (codes "}") marked refl refl refl

    step : (is_mark (codes ")") token ≡ true) ⊎ ((is_mark (codes "]") token || is_mark (codes "}") token) ≡ true) → opens token ≡ false
    step (inl marked) = none (codes ")") marked refl refl refl
    step (inr marked) = other (or-cases (is_mark (codes "]") token) (is_mark (codes "}") token) marked)

-- and one that opens a bracket closes none
pub opening_closes_none : (token : Terminal) → opens token ≡ true → closes token ≡ false
opening_closes_none token is = step (closes token) refl
  where
    step : (b : Bool) → closes token ≡ b → b ≡ false
    step true e = absurd (clash (opens token) is (closing_opens_none token e))
    step false e = refl

-- a word does neither
pub word_opens_none : (bytes : List ℕ) (token : Terminal) → is_word bytes token ≡ true → opens token ≡ false
word_opens_none bytes token is = λ i. word_is_no_mark bytes (codes "(") token is i || (word_is_no_mark bytes (codes "[") token is i || word_is_no_mark bytes (codes "{") token is i)

pub word_closes_none : (bytes : List ℕ) (token : Terminal) → is_word bytes token ≡ true → closes token ≡ false
word_closes_none bytes token is = λ i. word_is_no_mark bytes (codes ")") token is i || (word_is_no_mark bytes (codes "]") token is i || word_is_no_mark bytes (codes "}") token is i)

pub name_opens_none : (token : Terminal) → is_name token ≡ true → opens token ≡ false
name_opens_none token is = λ i. name_is_no_mark (codes "(") token is i || (name_is_no_mark (codes "[") token is i || name_is_no_mark (codes "{") token is i)

pub name_closes_none : (token : Terminal) → is_name token ≡ true → closes token ≡ false
name_closes_none token is = λ i. name_is_no_mark (codes ")") token is i || (name_is_no_mark (codes "]") token is i || name_is_no_mark (codes "}") token is i)

-- nor does an attribute's word
pub attribute_opens_none : (token : Terminal) → is_attribute token ≡ true → opens token ≡ false
attribute_opens_none token is = step (or-cases (is_word (codes "__attribute__") token) (is_word (codes "__attribute") token) is)
  where
    step : (is_word (codes "__attribute__") token ≡ true) ⊎ (is_word (codes "__attribute") token ≡ true) → opens token ≡ false
    step (inl word) = word_opens_none (codes "__attribute__") token word
    step (inr word) = word_opens_none (codes "__attribute") token word

pub attribute_closes_none : (token : Terminal) → is_attribute token ≡ true → closes token ≡ false
attribute_closes_none token is = step (or-cases (is_word (codes "__attribute__") token) (is_word (codes "__attribute") token) is)
  where
    step : (is_word (codes "__attribute__") token ≡ true) ⊎ (is_word (codes "__attribute") token ≡ true) → closes token ≡ false
    step (inl word) = word_closes_none (codes "__attribute__") token word
    step (inr word) = word_closes_none (codes "__attribute") token word

-- rows one behind the other
pub closed_append : {one other : List Terminal} → AreClosed one → AreClosed other → AreClosed (one ++ other)
closed_append NothingMore more = more
closed_append (NoBracket token begins end rest) more = NoBracket token begins end (closed_append rest more)
closed_append {other} (InBrackets {inside} {rest} opening closing opens within closes others) more =
    subst (λ (row : List Terminal). AreClosed (opening ∷ row)) (sym (append_assoc inside (closing ∷ rest) other))
    (InBrackets opening closing opens within closes (closed_append others more))

-- a token that opens a bracket
pub open_more : {count : ℕ} {row : List Terminal} (token : Terminal) → opens token ≡ true → LeaveOpen count row → LeaveOpen (suc count) (row ++ (token ∷ []))
open_more token is (NoneOpen closed) = OneOpen token closed is (NoneOpen NothingMore)
open_more {count} token is (OneOpen {front} {rest} {count = fewer} opening closed opens further) =
    subst (LeaveOpen (suc (suc fewer))) (sym (append_assoc front (opening ∷ rest) (token ∷ []))) (OneOpen opening closed opens (open_more token is further))

-- one that opens none and closes none
pub plain_more : {count : ℕ} {row : List Terminal} (token : Terminal) → opens token ≡ false → closes token ≡ false → LeaveOpen count row → LeaveOpen count (row ++ (token ∷ []))
plain_more token begins end (NoneOpen closed) = NoneOpen (closed_append closed (NoBracket token (ap not begins) (ap not end) NothingMore))
plain_more token begins end (OneOpen {front} {rest} {count = fewer} opening closed opens further) =
    subst (LeaveOpen (suc fewer)) (sym (append_assoc front (opening ∷ rest) (token ∷ []))) (OneOpen opening closed opens (plain_more token begins end further))

-- one that closes a bracket: the innermost that is open
last_closed : {count : ℕ} {rest : List Terminal} (front : List Terminal) (opening token : Terminal) → AreClosed front → opens opening ≡ true → closes token ≡ true → LeaveOpen count rest
    → LeaveOpen count (front ++ (opening ∷ (rest ++ (token ∷ []))))
last_closed front opening token closed opens is (NoneOpen inside) = NoneOpen (closed_append closed (InBrackets opening token opens inside is NothingMore))
last_closed front opening token closed opens is (OneOpen {front = between} {rest} {count = fewer} second others also deeper) =
    subst (λ (row : List Terminal). LeaveOpen (suc fewer) (front ++ (opening ∷ row))) (sym (append_assoc between (second ∷ rest) (token ∷ [])))
    (OneOpen opening closed opens (last_closed between second token others also is deeper))

pub close_more : {count : ℕ} {row : List Terminal} (token : Terminal) → closes token ≡ true → LeaveOpen (suc count) row → LeaveOpen count (row ++ (token ∷ []))
close_more {count} token is (OneOpen {front} {rest} opening closed opens further) =
    subst (LeaveOpen count) (sym (append_assoc front (opening ∷ rest) (token ∷ []))) (last_closed front opening token closed opens is further)
