-- The places of a row's tokens by their numbers.
use Rattle.std.proofs.Common.{◌≡◌, ℕ, zero, suc, ◌+◌, ◌-◌, ◌≤◌, ◌<◌, Bool, true, false, not, List, [], ◌∷◌, ◌++◌, length, take, drop, cond, refl, ap, sym, ◌∙◌, arith, length-drop, length-take-le, get_or-drop, get_or-take}
use Rattle.std.proofs.lemmas.Bool.Decides.{nat_tests}
use Rattle.std.specs.List.{filter, prefix_len}
use Rattle.std.specs.Prelude.{if◌then◌else◌, nat_eq}
use Rattle.cevents.specs.Workshop.{place_at, no_token}
use Rattle.cgrammar.specs.FrontOf.{front_of}
use Rattle.cgrammar.specs.Terminals.{Terminal, first_place, last_place, first_word_place, is_any_word}
use Rattle.cparser.specs.OperandSteps.{is_no_word, call_place}
use Rattle.cparser.specs.State.{State, rest}

-- the token at a number
pub place_here : (at : ℕ) (row : List Terminal) (first : Terminal) (more : List Terminal) → drop at row ≡ first ∷ more → place_at row at ≡ first.place
place_here zero [] first more is = cc is
place_here zero (token ∷ row) first more is = let same : token ∷ row ≡ first ∷ more = is in let one : token ≡ first = cc same in ap (λ (t : Terminal). t.place) one
place_here (suc at) [] first more is = cc is
place_here (suc at) (token ∷ row) first more is = place_here at row first more is

pub place_first : (at : ℕ) (row : List Terminal) → place_at row at ≡ first_place (drop at row)
place_first zero [] = refl
place_first zero (token ∷ row) = refl
place_first (suc at) [] = refl
place_first (suc at) (token ∷ row) = place_first at row

-- the number of a token behind others
pub place_behind : (from at : ℕ) (row : List Terminal) → place_at (drop from row) at ≡ place_at row (from + at)
place_behind from at row = ap (λ (token : Terminal). token.place) (get_or-drop from row at no_token)

-- the front of a row, from one number to another
pub front_is : (from to : ℕ) (row others : List Terminal) → from ≤ to → to ≤ length row → drop to row ≡ others → front_of (drop from row) others ≡ take (to - from) (drop from row)
front_is from to row others further within left =
    let all : length (drop from row) ≡ length row - from = length-drop from row in
    let some : length (drop to row) ≡ length row - to = length-drop to row in
    let same : length (drop to row) ≡ length others = ap length left in
    ap (λ (n : ℕ). take n (drop from row)) (count (length row) (length (drop from row)) (length others) all (sym same ∙ some) within further)
  where
    count : (whole one other : ℕ) → one ≡ whole - from → other ≡ whole - to → to ≤ whole → from ≤ to → one - other ≡ to - from
    count whole one other first second within further = omega (arith, first, second, within, further)

taken_last : (n : ℕ) (row : List Terminal) → suc n ≤ length row → last_place (take (suc n) row) ≡ place_at row n
taken_last zero [] within = absurd (omega (arith, within))
taken_last zero (first ∷ row) within = refl
taken_last (suc n) [] within = absurd (omega (arith, within))
taken_last (suc n) (first ∷ []) within = absurd (omega (arith, within))
taken_last (suc n) (first ∷ (next ∷ row)) within = taken_last n (next ∷ row) (omega (arith, within))

taken_first : (n : ℕ) (row : List Terminal) → first_place (take (suc n) row) ≡ place_at row 0
taken_first n [] = refl
taken_first n (first ∷ row) = refl

-- its last and its first place
pub last_of_front : (from to : ℕ) (row others : List Terminal) → from < to → to ≤ length row → drop to row ≡ others → last_place (front_of (drop from row) others) ≡ place_at row (to - 1)
last_of_front from to row others further within left =
    let n : ℕ = to - from - 1 in
    let next : to - from ≡ suc n = one_more from to further in
    let all : length (drop from row) ≡ length row - from = length-drop from row in
    ap last_place (front_is from to row others (no_less from to further) within left)
    ∙ (ap (λ (count : ℕ). last_place (take count (drop from row))) next
    ∙ (taken_last n (drop from row) (enough from to (length row) (length (drop from row)) further within all)
    ∙ (place_behind from n row ∙ ap (λ (at : ℕ). place_at row at) (last from to further))))
  where
    no_less : (from to : ℕ) → from < to → from ≤ to
    no_less from to further = omega (arith, further)

    one_more : (from to : ℕ) → from < to → to - from ≡ suc (to - from - 1)
    one_more from to further = omega (arith, further)

    enough : (from to whole some : ℕ) → from < to → to ≤ whole → some ≡ whole - from → suc (to - from - 1) ≤ some
    enough from to whole some further within is = omega (arith, further, within, is)

    last : (from to : ℕ) → from < to → from + (to - from - 1) ≡ to - 1
    last from to further = omega (arith, further)

pub first_of_front : (from to : ℕ) (row others : List Terminal) → from < to → to ≤ length row → drop to row ≡ others → first_place (front_of (drop from row) others) ≡ place_at row from
first_of_front from to row others further within left =
    let n : ℕ = to - from - 1 in
    let next : to - from ≡ suc n = one_more from to further in
    ap first_place (front_is from to row others (no_less from to further) within left)
    ∙ (ap (λ (count : ℕ). first_place (take count (drop from row))) next
    ∙ (taken_first n (drop from row)
    ∙ (place_behind from 0 row ∙ ap (λ (at : ℕ). place_at row at) (none_more from))))
  where
    no_less : (from to : ℕ) → from < to → from ≤ to
    no_less from to further = omega (arith, further)

    one_more : (from to : ℕ) → from < to → to - from ≡ suc (to - from - 1)
    one_more from to further = omega (arith, further)

    none_more : (from : ℕ) → from + 0 ≡ from
    none_more from = omega arith

-- The place of a call: that of the first word of its function, or of its first token.
no_word_there : (front : List Terminal) → prefix_len is_no_word front ≡ length front → filter is_any_word front ≡ []
no_word_there [] is = refl
no_word_there (first ∷ front) is = step (is_any_word first) is (no_word_there front)
  where
    step : (word : Bool) → cond (not word) (1 + prefix_len is_no_word front) 0 ≡ length (first ∷ front) → (prefix_len is_no_word front ≡ length front → filter is_any_word front ≡ [])
        → cond word (first ∷ filter is_any_word front) (filter is_any_word front) ≡ []
    step true counted further = absurd (omega (arith, counted))
    step false counted further = further (omega (arith, counted))

word_there : (front others : List Terminal) → prefix_len is_no_word front < length front → first_place (filter is_any_word front ++ others) ≡ place_at front (prefix_len is_no_word front)
word_there [] others is = absurd (omega (arith, is))
word_there (first ∷ front) others is = step (is_any_word first) is (word_there front others)
  where
    step : (word : Bool) → cond (not word) (1 + prefix_len is_no_word front) 0 < length (first ∷ front)
        → (prefix_len is_no_word front < length front → first_place (filter is_any_word front ++ others) ≡ place_at front (prefix_len is_no_word front))
        → first_place (cond word (first ∷ filter is_any_word front) (filter is_any_word front) ++ others) ≡ place_at (first ∷ front) (cond (not word) (1 + prefix_len is_no_word front) 0)
    step true counted further = refl
    step false counted further =
        let next : suc (prefix_len is_no_word front) ≡ 1 + prefix_len is_no_word front = omega arith in
        further (omega (arith, counted)) ∙ ap (λ (at : ℕ). place_at (first ∷ front) at) next

no_further : (front : List Terminal) → prefix_len is_no_word front ≤ length front
no_further [] = omega arith
no_further (first ∷ front) = step (is_any_word first) (no_further front)
  where
    step : (word : Bool) → prefix_len is_no_word front ≤ length front → cond (not word) (1 + prefix_len is_no_word front) 0 ≤ length (first ∷ front)
    step true within = omega arith
    step false within = omega (arith, within)

-- the number of the first word, as a row has it
called : (first : ℕ) (row : List Terminal) (front : List Terminal) (same : Bool) → nat_eq (prefix_len is_no_word front) (length front) ≡ same
    → ((at : ℕ) → at < length front → place_at front at ≡ place_at row (first + at)) → 1 ≤ length front
    → place_at row (if same then first else first + prefix_len is_no_word front) ≡ first_word_place front
called first row [] same is places some = absurd (omega (arith, some))
called first row (token ∷ front) true is places some =
    let all : prefix_len is_no_word (token ∷ front) ≡ length (token ∷ front) = equal _ _ is in
    let none : filter is_any_word (token ∷ front) ≡ [] = no_word_there (token ∷ front) all in
    let from : first + 0 ≡ first = omega arith in
    ap (λ (at : ℕ). place_at row at) (sym from)
    ∙ (sym (places 0 (omega arith)) ∙ ap (λ (words : List Terminal). first_place (words ++ (token ∷ front))) (sym none))
  where
    equal : (one other : ℕ) → nat_eq one other ≡ true → one ≡ other
    equal one other same = grind (arith, nat_tests)
called first row (token ∷ front) false is places some =
    let less : prefix_len is_no_word (token ∷ front) < length (token ∷ front) = strict _ _ (no_further (token ∷ front)) is in
    sym (places (prefix_len is_no_word (token ∷ front)) less) ∙ sym (word_there (token ∷ front) (token ∷ front) less)
  where
    strict : (one other : ℕ) → one ≤ other → nat_eq one other ≡ false → one < other
    strict one other within differ = grind (arith, nat_tests)

pub call_place_is : (first : ℕ) (s : State) (others : List Terminal) → first < s.at → s.at ≤ length s.row → rest s ≡ others
    → place_at s.row (call_place first s) ≡ first_word_place (front_of (drop first s.row) others)
call_place_is first s others further within left =
    let front : List Terminal = take (s.at - first) (drop first s.row) in
    let all : length (drop first s.row) ≡ length s.row - first = length-drop first s.row in
    let count : length front ≡ s.at - first = length-take-le (s.at - first) (drop first s.row) (enough first s.at (length s.row) (length (drop first s.row)) further within all) in
    called first s.row front (nat_eq (prefix_len is_no_word front) (length front)) refl
    (λ at inside. there at (less at (length front) (s.at - first) inside count))
    (some first s.at (length front) further count)
    ∙ ap first_word_place (sym (front_is first s.at s.row others (no_less first s.at further) within left))
  where
    no_less : (from to : ℕ) → from < to → from ≤ to
    no_less from to further = omega (arith, further)

    enough : (from to whole some : ℕ) → from < to → to ≤ whole → some ≡ whole - from → to - from ≤ some
    enough from to whole some further within is = omega (arith, further, within, is)

    some : (from to front : ℕ) → from < to → front ≡ to - from → 1 ≤ front
    some from to front further is = omega (arith, further, is)

    less : (at front most : ℕ) → at < front → front ≡ most → at < most
    less at front most inside is = omega (arith, inside, is)

    there : (at : ℕ) → at < s.at - first → place_at (take (s.at - first) (drop first s.row)) at ≡ place_at s.row (first + at)
    there at inside =
        ap (λ (token : Terminal). token.place) (get_or-take (s.at - first) (drop first s.row) at no_token inside)
        ∙ place_behind first at s.row
