-- Where the bracket of a struct is closed: the first that closes and leaves none open closes it.
use Rattle.std.proofs.Common.{◌≡◌, ℕ, zero, suc, ◌+◌, ◌-◌, nat_le, Bool, true, false, ◌&&◌, not, if◌then◌else◌, refl, ap, sym, ◌∙◌, subst, List, [], ◌∷◌, ◌++◌, Some, append_assoc, codes, arith}
use Rattle.std.proofs.lemmas.Bool.{lt-leb}
use Rattle.cgrammar.proofs.Truth.{not-true, or-right, clash}
use Rattle.cgrammar.specs.Terminals.{Terminal, is_mark, IsMark}
use Rattle.cconstructs.specs.Layout.{IsStructWithMembers, Untagged, Tagged}
use Rattle.cconstructs.specs.LayoutFinding.{first_closing, unclosed_behind}
use Rattle.cconstructs.specs.OpenBrackets.{opens, closes, AreClosed, NothingMore, NoBracket, InBrackets}
use Rattle.cconstructs.proofs.Closed.{closing_opens_none, opening_closes_none, name_opens_none, name_closes_none, word_opens_none, word_closes_none}
use Rattle.cconstructs.proofs.Options.{no_some, same_some}

more_than_one : (n : ℕ) → nat_le (suc (suc n)) 1 ≡ false
more_than_one n = lt-leb (suc (suc n)) 1 (omega arith)

-- the row closes the brackets that are open before it, so many more than one, and the last of them by this token
abbrev Closes : ℕ → List Terminal → Terminal → Type 0
Closes zero row closing = (inside : List Terminal) × (others : List Terminal) × (row ≡ inside ++ (closing ∷ others)) × AreClosed inside × (closes closing ≡ true)
Closes (suc more) row closing =
    (inside : List Terminal) × (next : Terminal) × (others : List Terminal) × (row ≡ inside ++ (next ∷ others)) × AreClosed inside × (closes next ≡ true) × Closes more others closing

-- a token more before the row, which opens no bracket and closes none
passed : (more : ℕ) (token : Terminal) (row : List Terminal) (closing : Terminal) → opens token ≡ false → closes token ≡ false → Closes more row closing → Closes more (token ∷ row) closing
passed zero token row closing begins end (inside, others, is, closed, ends) =
    (token ∷ inside, others, ap (λ (r : List Terminal). token ∷ r) is, NoBracket token (ap not begins) (ap not end) closed, ends)
passed (suc more) token row closing begins end (inside, next, others, is, closed, ends, further) =
    (token ∷ inside, next, others, ap (λ (r : List Terminal). token ∷ r) is, NoBracket token (ap not begins) (ap not end) closed, ends, further)

-- one that opens a bracket
joined : (token next : Terminal) (row inside others between rest : List Terminal) → row ≡ inside ++ (next ∷ others) → others ≡ between ++ rest
    → token ∷ row ≡ (token ∷ (inside ++ (next ∷ between))) ++ rest
joined token next row inside others between rest is also =
    ap (λ (r : List Terminal). token ∷ r)
    (is ∙ (ap (λ (r : List Terminal). inside ++ (next ∷ r)) also ∙ sym (append_assoc inside (next ∷ between) rest)))

opened : (more : ℕ) (token : Terminal) (row : List Terminal) (closing : Terminal) → opens token ≡ true → Closes (suc more) row closing → Closes more (token ∷ row) closing
opened zero token row closing begins (inside, next, others, is, closed, ends, (between, behind, also, shut, last)) =
    (token ∷ (inside ++ (next ∷ between)), behind, joined token next row inside others between (closing ∷ behind) is also, InBrackets token next begins closed ends shut, last)
opened (suc more) token row closing begins (inside, next, others, is, closed, ends, (between, second, behind, also, shut, last, further)) =
    (token ∷ (inside ++ (next ∷ between)), second, behind, joined token next row inside others between (second ∷ behind) is also, InBrackets token next begins closed ends shut, last, further)

-- one that closes a bracket
shut : (more : ℕ) (token : Terminal) (row : List Terminal) (closing : Terminal) → closes token ≡ true → Closes more row closing → Closes (suc more) (token ∷ row) closing
shut more token row closing end further = ([], token, row, refl, NothingMore, end, further)

closing_found : (row : List Terminal) (more : ℕ) (closing : Terminal) → first_closing (suc more) row ≡ Some closing → Closes more row closing
unfolding first_closing
closing_found [] more closing is = no_some closing is
closing_found (token ∷ row) more closing is = step (closes token) (opens token) refl refl more is (λ fewer. closing_found row fewer closing)
  where
    Onward : Type 0
    Onward = (fewer : ℕ) → first_closing (suc fewer) row ≡ Some closing → Closes fewer row closing

    again : (found more : ℕ) → found ≡ suc more → first_closing found row ≡ Some closing → Onward → Closes more row closing
    again found more is first further = further more (subst (λ (n : ℕ). first_closing n row ≡ Some closing) is first)

    step : (end begins : Bool) → closes token ≡ end → opens token ≡ begins → (more : ℕ)
        → (if end && nat_le (suc more) 1 then Some token else first_closing (if begins then suc more + 1 else (if end then suc more - 1 else suc more)) row) ≡ Some closing
        → Onward → Closes more (token ∷ row) closing
    step true true ended begins more first further = absurd (clash (opens token) begins (closing_opens_none token ended))
    step true false ended begins zero first further =
        let same : token ≡ closing = same_some token closing first in
        ([], row, ap (λ (t : Terminal). t ∷ row) same, NothingMore, ap closes (sym same) ∙ ended)
    step true false ended begins (suc more) first further = shut more token row closing ended (again (suc (suc more) - 1) more (omega arith)
        (sym (ap (λ (b : Bool). if b then Some token else first_closing (suc (suc more) - 1) row) (more_than_one more)) ∙ first) further)
    step false true ended begins more first further = opened more token row closing begins (again (suc more + 1) (suc more) (omega arith) first further)
    step false false ended begins more first further = passed more token row closing begins ended (again (suc more) more refl first further)

-- a row whose brackets are closed closes none that is open before it
closed_passed : {inside : List Terminal} → AreClosed inside → (more : ℕ) (row : List Terminal) → first_closing (suc more) (inside ++ row) ≡ first_closing (suc more) row
unfolding first_closing
closed_passed NothingMore more row = refl
closed_passed (NoBracket {rest} token begins end closed) more row =
    (λ i. if not-true (closes token) end i && nat_le (suc more) 1 then Some token
    else first_closing (if not-true (opens token) begins i then suc more + 1 else (if not-true (closes token) end i then suc more - 1 else suc more)) (rest ++ row))
    ∙ closed_passed closed more row
closed_passed (InBrackets {inside} {rest} opening closing begins between end others) more row =
    (λ i. if opening_closes_none opening begins i && nat_le (suc more) 1 then Some opening
    else first_closing (if begins i then suc more + 1 else (if closes opening then suc more - 1 else suc more)) ((inside ++ (closing ∷ rest)) ++ row))
    ∙ (λ i. first_closing (one_more i) (append_assoc inside (closing ∷ rest) row i))
    ∙ closed_passed between (suc more) (closing ∷ (rest ++ row))
    ∙ (λ i. if end i && more_than_one more i then Some closing
    else first_closing (if closing_opens_none closing end i then suc (suc more) + 1 else (if end i then suc (suc more) - 1 else suc (suc more))) (rest ++ row))
    ∙ ap (λ (n : ℕ). first_closing n (rest ++ row)) one_less
    ∙ closed_passed others more row
  where
    one_more : suc more + 1 ≡ suc (suc more)
    one_more = omega arith

    one_less : suc (suc more) - 1 ≡ suc more
    one_less = omega arith

pub closing_sound : (row : List Terminal) (closing : Terminal) → first_closing 1 row ≡ Some closing → Closes 0 row closing
closing_sound row closing is = closing_found row 0 closing is

pub closing_complete : (inside others : List Terminal) (closing : Terminal) → AreClosed inside → closes closing ≡ true → first_closing 1 (inside ++ (closing ∷ others)) ≡ Some closing
unfolding first_closing
closing_complete inside others closing closed end =
    closed_passed closed 0 (closing ∷ others)
    ∙ (λ i. if end i && nat_le 1 1 then Some closing else first_closing (unclosed_behind 1 closing) others)

-- the first bracket of a struct with members is the one behind its word or its tag
apart_passed : (token : Terminal) (row : List Terminal) → opens token ≡ false → closes token ≡ false → first_closing 0 (token ∷ row) ≡ first_closing 0 row
unfolding first_closing
apart_passed token row begins end =
    λ i. if end i && nat_le 0 1 then Some token else first_closing (if begins i then 0 + 1 else (if end i then 0 - 1 else 0)) row

bracket_entered : (opening : Terminal) (row : List Terminal) → IsMark (codes "{") opening → first_closing 0 (opening ∷ row) ≡ first_closing 1 row
unfolding first_closing
bracket_entered opening row is =
    let begins : opens opening ≡ true = or-right (is_mark (codes "(") opening) (or-right (is_mark (codes "[") opening) is) in
    λ i. if opening_closes_none opening begins i && nat_le 0 1 then Some opening else first_closing (if begins i then 0 + 1 else (if closes opening then 0 - 1 else 0)) row

pub members_closing : (row members : List Terminal) → IsStructWithMembers row members → first_closing 0 row ≡ first_closing 1 members
members_closing _ _ (Untagged word opening next others struct opens full) =
    apart_passed word (opening ∷ (next ∷ others)) (word_opens_none (codes "struct") word struct) (word_closes_none (codes "struct") word struct)
    ∙ bracket_entered opening (next ∷ others) opens
members_closing _ _ (Tagged word tag opening next others struct named opens full) =
    apart_passed word (tag ∷ (opening ∷ (next ∷ others))) (word_opens_none (codes "struct") word struct) (word_closes_none (codes "struct") word struct)
    ∙ (apart_passed tag (opening ∷ (next ∷ others)) (name_opens_none tag named) (name_closes_none tag named) ∙ bracket_entered opening (next ∷ others) opens)
