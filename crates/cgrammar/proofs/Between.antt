-- The rows between two tokens of a text: what stands from one token on, and up to the last token of a front of that.
use Rattle.std.proofs.Common.{◌≡◌, ℕ, zero, suc, ◌+◌, ◌-◌, ◌<◌, ◌≤◌, Bool, true, false, List, [], ◌∷◌, ◌++◌, map, take, drop, length, refl, ap, sym, ◌∙◌, subst, arith, nat_lt}
use Rattle.std.specs.Prelude.{slice_index_or, cond}
use Rattle.std.specs.List.{prefix_len}
use Rattle.std.proofs.lemmas.Bool.{ltb-true, lt-ltb}
use Rattle.std.proofs.lemmas.List.{length-append}
use Rattle.ctokens.specs.declared.token.Token.{Token}
use Rattle.ctokens.specs.Passed.{unpassed}
use Rattle.cgrammar.specs.Terminals.{Terminal, terminal_of, last_place, comes_before}

unpassed_of_nothing : (passed : List Bool) → unpassed {A = Terminal} passed [] ≡ []
unpassed_of_nothing [] = refl
unpassed_of_nothing (first ∷ passed) = refl

-- the row from one token on and up to another is the row up to there with the row behind it
pub unpassed_split : (count : ℕ) (passed : List Bool) (tokens : List Terminal)
    → unpassed passed tokens ≡ unpassed (take count passed) (take count tokens) ++ unpassed (drop count passed) (drop count tokens)
unpassed_split zero passed tokens = refl
unpassed_split (suc count) [] tokens = refl
unpassed_split (suc count) (first ∷ passed) [] = sym (unpassed_of_nothing (drop count passed))
unpassed_split (suc count) (true ∷ passed) (token ∷ tokens) = unpassed_split count passed tokens
unpassed_split (suc count) (false ∷ passed) (token ∷ tokens) = ap (λ (row : List Terminal). token ∷ row) (unpassed_split count passed tokens)

-- tokens whose places have the numbers from `base` on
abbrev pub Counts : ℕ → List Terminal → Type 0
Counts base [] = Unit {0}
Counts base (token ∷ tokens) = (token.place.at ≡ base) × Counts (base + 1) tokens

pub counts_behind : (count base : ℕ) (tokens : List Terminal) → Counts base tokens → Counts (base + count) (drop count tokens)
counts_behind zero base tokens counts = let none : base + 0 ≡ base = omega arith in rw none counts
counts_behind (suc count) base [] counts = tt
counts_behind (suc count) base (token ∷ tokens) counts =
    let next : base + suc count ≡ (base + 1) + count = omega arith in
    rw next (counts_behind count (base + 1) tokens counts.1)

-- tokens of a row whose places have rising numbers, none below `base`
abbrev pub Rises : ℕ → List Terminal → Type 0
Rises base [] = Unit {0}
Rises base (token ∷ tokens) = (base ≤ token.place.at) × Rises (token.place.at + 1) tokens

rises_from : (base other : ℕ) (row : List Terminal) → base ≤ other → Rises other row → Rises base row
rises_from base other [] less rises = tt
rises_from base other (token ∷ row) less rises = (omega (arith, less, rises.0), rises.1)

pub unpassed_rises : (base : ℕ) (passed : List Bool) (tokens : List Terminal) → Counts base tokens → Rises base (unpassed passed tokens)
unpassed_rises base [] tokens counts = tt
unpassed_rises base (first ∷ passed) [] counts = tt
unpassed_rises base (true ∷ passed) (token ∷ tokens) counts =
    rises_from base (base + 1) (unpassed passed tokens) (omega arith) (unpassed_rises (base + 1) passed tokens counts.1)
unpassed_rises base (false ∷ passed) (token ∷ tokens) counts =
    (omega (arith, counts.0), rw counts.0 (unpassed_rises (base + 1) passed tokens counts.1))

-- the last of some tokens comes no earlier than the first
pub last_from : (base : ℕ) (first : Terminal) (row : List Terminal) → Rises base (first ∷ row) → base ≤ (last_place (first ∷ row)).at
last_from base first [] rises = rises.0
last_from base first (next ∷ row) rises = omega (arith, rises.0, last_from (first.place.at + 1) next row rises.1)

-- the last of more tokens comes no earlier
pub last_rises : (base : ℕ) (first : Terminal) (row more : List Terminal) → Rises base (first ∷ (row ++ more))
    → (last_place (first ∷ row)).at ≤ (last_place (first ∷ (row ++ more))).at
last_rises base first [] [] rises = omega arith
last_rises base first [] (next ∷ more) rises = omega (arith, last_from (first.place.at + 1) next more rises.1)
last_rises base first (next ∷ row) more rises = last_rises (first.place.at + 1) next row more rises.1

rises_front : (base : ℕ) (xs ys : List Terminal) → Rises base (xs ++ ys) → Rises base xs
rises_front base [] ys rises = tt
rises_front base (x ∷ xs) ys rises = (rises.0, rises_front (x.place.at + 1) xs ys rises.1)

tail_of : {A : Type 0} → List A → List A
tail_of [] = []
tail_of (x ∷ xs) = xs

head_or : {A : Type 0} → A → List A → A
head_or other [] = other
head_or other (x ∷ xs) = x

same_head : (x y : Terminal) (xs ys : List Terminal) → x ∷ xs ≡ y ∷ ys → x ≡ y
unfolding head_or
same_head x y xs ys same = ap (head_or x) same

same_tail : (x y : Terminal) (xs ys : List Terminal) → x ∷ xs ≡ y ∷ ys → xs ≡ ys
unfolding tail_of
same_tail x y xs ys same = ap tail_of same

-- The row up to the last token of a front is that front.
pub up_to_last : (base : ℕ) (passed : List Bool) (tokens : List Terminal) (first : Terminal) (front rest : List Terminal) → Counts base tokens
    → unpassed passed tokens ≡ first ∷ (front ++ rest)
    → unpassed (take ((last_place (first ∷ front)).at + 1 - base) passed) (take ((last_place (first ∷ front)).at + 1 - base) tokens) ≡ first ∷ front
up_to_last base [] tokens first front rest counts is = cc is
up_to_last base (one ∷ passed) [] first front rest counts is = cc is
up_to_last base (true ∷ passed) (token ∷ tokens) first front rest counts is =
    let rises : Rises (base + 1) (first ∷ (front ++ rest)) = subst (Rises (base + 1)) is (unpassed_rises (base + 1) passed tokens counts.1) in
    let from : base + 1 ≤ (last_place (first ∷ front)).at = last_from (base + 1) first front (rises_front (base + 1) (first ∷ front) rest rises) in
    let more : (last_place (first ∷ front)).at + 1 - base ≡ suc ((last_place (first ∷ front)).at + 1 - (base + 1)) = omega (arith, from) in
    rw more (up_to_last (base + 1) passed tokens first front rest counts.1 is)
up_to_last base (false ∷ passed) (token ∷ tokens) first [] rest counts is =
    let same : token ≡ first = same_head token first (unpassed passed tokens) rest is in
    let one : (last_place (first ∷ [])).at + 1 - base ≡ 1 = omega (arith, ap (λ (t : Terminal). t.place.at) (sym same) ∙ counts.0) in
    rw one (ap (λ (t : Terminal). t ∷ []) same)
up_to_last base (false ∷ passed) (token ∷ tokens) first (next ∷ front) rest counts is =
    let same : token ≡ first = same_head token first (unpassed passed tokens) (next ∷ (front ++ rest)) is in
    let others : unpassed passed tokens ≡ next ∷ (front ++ rest) = same_tail token first (unpassed passed tokens) (next ∷ (front ++ rest)) is in
    let rises : Rises (base + 1) (next ∷ (front ++ rest)) = subst (Rises (base + 1)) others (unpassed_rises (base + 1) passed tokens counts.1) in
    let from : base + 1 ≤ (last_place (next ∷ front)).at = last_from (base + 1) next front (rises_front (base + 1) (next ∷ front) rest rises) in
    let more : (last_place (first ∷ (next ∷ front))).at + 1 - base ≡ suc ((last_place (next ∷ front)).at + 1 - (base + 1)) = omega (arith, from) in
    rw more (ap (λ (row : List Terminal). token ∷ row) (up_to_last (base + 1) passed tokens next front rest counts.1 others) ∙ ap (λ (t : Terminal). t ∷ (next ∷ front)) same)

none_before : (base : ℕ) (row : List Terminal) → Rises base row → prefix_len (comes_before base) row ≡ 0
none_before base [] rises = refl
none_before base (token ∷ row) rises = step (nat_lt token.place.at base) refl
  where
    step : (before : Bool) → nat_lt token.place.at base ≡ before → cond before (1 + prefix_len (comes_before base) row) 0 ≡ 0
    step true is = let less = ltb-true token.place.at base is in absurd (omega (arith, less, rises.0))
    step false is = refl

pub from_token : (count base : ℕ) (passed : List Bool) (tokens : List Terminal) → Counts base tokens
    → drop (prefix_len (comes_before (base + count)) (unpassed passed tokens)) (unpassed passed tokens) ≡ unpassed (drop count passed) (drop count tokens)
from_token zero base passed tokens counts =
    let none : base + 0 ≡ base = omega arith in
    rw none (ap (λ (n : ℕ). drop n (unpassed passed tokens)) (none_before base (unpassed passed tokens) (unpassed_rises base passed tokens counts)))
from_token (suc count) base [] tokens counts = refl
from_token (suc count) base (one ∷ passed) [] counts = sym (unpassed_of_nothing (drop count passed))
from_token (suc count) base (true ∷ passed) (token ∷ tokens) counts =
    let next : base + suc count ≡ (base + 1) + count = omega arith in
    rw next (from_token count (base + 1) passed tokens counts.1)
from_token (suc count) base (false ∷ passed) (token ∷ tokens) counts =
    let next : base + suc count ≡ (base + 1) + count = omega arith in
    let P : ℕ → Type 0 = λ n. drop (prefix_len (comes_before n) (token ∷ unpassed passed tokens)) (token ∷ unpassed passed tokens) ≡ unpassed (drop count passed) (drop count tokens) in
    subst P (sym next) (step (from_token count (base + 1) passed tokens counts.1) (comes_before ((base + 1) + count) token) (lt-ltb token.place.at ((base + 1) + count) (omega (arith, counts.0))))
  where
    step : drop (prefix_len (comes_before ((base + 1) + count)) (unpassed passed tokens)) (unpassed passed tokens) ≡ unpassed (drop count passed) (drop count tokens)
        → (before : Bool) → before ≡ true
        → drop (cond before (1 + prefix_len (comes_before ((base + 1) + count)) (unpassed passed tokens)) 0) (token ∷ unpassed passed tokens) ≡ unpassed (drop count passed) (drop count tokens)
    step others true is =
        let more : 1 + prefix_len (comes_before ((base + 1) + count)) (unpassed passed tokens) ≡ suc (prefix_len (comes_before ((base + 1) + count)) (unpassed passed tokens)) = omega arith in
        ap (λ (n : ℕ). drop n (token ∷ unpassed passed tokens)) more ∙ others
    step others false is = cc is

-- of two fronts of one row the longer one has what the shorter one has, and more
pub fronts_agree : (xs ys us vs : List Terminal) → xs ++ ys ≡ us ++ vs → length ys ≤ length vs → (more : List Terminal) × (xs ≡ us ++ more)
fronts_agree xs ys [] vs same shorter = (xs, refl)
fronts_agree [] ys (u ∷ us) vs same shorter =
    let lengths : length ys ≡ length (u ∷ (us ++ vs)) = ap length same in
    absurd (omega (arith, lengths, shorter, length-append us vs))
fronts_agree (x ∷ xs) ys (u ∷ us) vs same shorter =
    let others = fronts_agree xs ys us vs (same_tail x u (xs ++ ys) (us ++ vs) same) shorter in
    (others.0, ap (λ (t : Terminal). t ∷ xs) (same_head x u (xs ++ ys) (us ++ vs) same) ∙ ap (λ (row : List Terminal). u ∷ row) others.1)

-- the tokens of a text have the numbers from 0 on
pub numbered_counts : (text : List ℕ) (base : ℕ) (list : List Token)
    → ((number : ℕ) (other : Token) → number < length list → (slice_index_or list number other).place.at ≡ base + number)
    → Counts base (map (terminal_of text) list)
numbered_counts text base [] numbered = tt
numbered_counts text base (token ∷ list) numbered = (
  numbered 0 token (omega arith) ∙ omega arith,
  numbered_counts text (base + 1) list (λ number other inside. numbered (suc number) other (omega (arith, inside)) ∙ omega arith),
)
