-- What a reader gives is spelled by the tokens that it took: how that goes through what readers are made of. `says` tells
-- what is known of a tree, of the context before it, its row, the context behind it and the rest.
use Rattle.std.proofs.Common.{◌≡◌, ℕ, zero, suc, ◌+◌, ◌≤◌, Bool, true, false, List, [], ◌∷◌, ◌++◌, take, drop, length, refl, ap, ◌∙◌, subst, arith, max}
use Rattle.std.proofs.lemmas.List.{length-append}
use Rattle.std.specs.Prelude.{if◌then◌else◌}
use Rattle.cgrammar.specs.Outcomes.{Outcome, Nothing, Stopped, Read, Reader, then_read, continued, with_right, or_else, has_first, after_first, behind_first}
use Rattle.cgrammar.specs.Phrases.{Context}
use Rattle.cgrammar.specs.ReadLevels.{prepended}
use Rattle.cgrammar.specs.Terminals.{Terminal}

-- the row is that front and that rest
pub record Splits (row front rest : List Terminal) : Type 0 where
  pub is : row ≡ front ++ rest

pub split_none : (row : List Terminal) → Splits row [] row
split_none row = record { is = refl }

pub split_last : {row others : List Terminal} {first : Terminal} → row ≡ first ∷ others → Splits row (first ∷ []) others
split_last is = record { is = is }

pub split_first : {row others front rest : List Terminal} {first : Terminal} → row ≡ first ∷ others → Splits others front rest → Splits row (first ∷ front) rest
split_first {first} is other = record { is = is ∙ ap (λ (others : List Terminal). first ∷ others) other.is }

append_rows : (xs ys zs : List Terminal) → xs ++ (ys ++ zs) ≡ (xs ++ ys) ++ zs
append_rows [] ys zs = refl
append_rows (x ∷ xs) ys zs = ap (λ (row : List Terminal). x ∷ row) (append_rows xs ys zs)

pub split_more : {row xs middle ys rest : List Terminal} → Splits row xs middle → Splits middle ys rest → Splits row (xs ++ ys) rest
split_more {xs} {ys} {rest} one other = record { is = one.is ∙ (ap (λ (others : List Terminal). xs ++ others) other.is ∙ append_rows xs ys rest) }

pub split_taken : (count : ℕ) (row : List Terminal) → Splits row (take count row) (drop count row)
split_taken zero row = split_none row
split_taken (suc count) [] = split_none []
split_taken (suc count) (first ∷ others) = split_first refl (split_taken count others)

pub split_length : {row front rest : List Terminal} → Splits row front rest → length row ≡ length front + length rest
split_length {front} {rest} split = ap (λ (all : List Terminal). length all) split.is ∙ length-append front rest

-- what is known of a tree that is read, and of one at which the reading stopped
pub record Got {A : Type 0} (says : A → Context → List Terminal → Context → List Terminal → Type 0) (levels : A → ℕ) (most : ℕ) (before : Context) (row : List Terminal) (tree : A) (count : ℕ) (behind : Context) (rest : List Terminal) : Type 0 where
  pub front : List Terminal
  pub whole : Splits row front rest
  pub spelled : says tree before front behind rest
  pub same : count ≡ levels tree
  pub fits : count ≤ most

pub record Held {A : Type 0} (says : A → Context → List Terminal → Context → List Terminal → Type 0) (levels : A → ℕ) (most : ℕ) (before : Context) (row : List Terminal) (tree : A) (expressions : ℕ) (rest : List Terminal) : Type 0 where
  pub behind : Context
  pub counts : behind.expressions ≡ expressions
  pub front : List Terminal
  pub whole : Splits row front rest
  pub spelled : says tree before front behind []
  pub fits : levels tree ≤ most

abbrev pub Sounds : {A : Type 0} → (A → Context → List Terminal → Context → List Terminal → Type 0) → (A → ℕ) → ℕ → Context → List Terminal → Outcome A → Type 0
Sounds says levels most before row Nothing = Unit {0}
Sounds says levels most before row (Stopped tree expressions rest) = Held says levels most before row tree expressions rest
Sounds says levels most before row (Read tree count behind rest) = Got says levels most before row tree count behind rest

pub record Sound {A : Type 0} (says : A → Context → List Terminal → Context → List Terminal → Type 0) (levels : A → ℕ) (most : ℕ) (before : Context) (row : List Terminal) (outcome : Outcome A) : Type 0 where
  pub is : Sounds says levels most before row outcome

abbrev pub Reads : {A : Type 0} → (A → Context → List Terminal → Context → List Terminal → Type 0) → (A → ℕ) → ℕ → Reader A → Type 0
Reads says levels most reader = (context : Context) (row : List Terminal) → Sound says levels most context row (reader context row)

pub sound_nothing : {A : Type 0} {says : A → Context → List Terminal → Context → List Terminal → Type 0} {levels : A → ℕ} {most : ℕ} {before : Context} {row : List Terminal} → Sound says levels most before row Nothing
sound_nothing = record { is = tt }

pub sound_got : {A : Type 0} {says : A → Context → List Terminal → Context → List Terminal → Type 0} {levels : A → ℕ} {most : ℕ} {before : Context} {row : List Terminal} {tree : A} {count : ℕ} {behind : Context} {rest : List Terminal}
    → Got says levels most before row tree count behind rest → Sound says levels most before row (Read tree count behind rest)
sound_got got = record { is = got }

pub sound_held : {A : Type 0} {says : A → Context → List Terminal → Context → List Terminal → Type 0} {levels : A → ℕ} {most : ℕ} {before : Context} {row : List Terminal} {tree : A} {expressions : ℕ} {rest : List Terminal}
    → Held says levels most before row tree expressions rest → Sound says levels most before row (Stopped tree expressions rest)
sound_held held = record { is = held }

pub got : {A : Type 0} {says : A → Context → List Terminal → Context → List Terminal → Type 0} {levels : A → ℕ} {most : ℕ} {before : Context} {row : List Terminal} {tree : A} {count : ℕ} {behind : Context} {rest front : List Terminal}
    → Splits row front rest → says tree before front behind rest → count ≡ levels tree → count ≤ most → Got says levels most before row tree count behind rest
got {front} whole spelled same fits = record { front = front; whole = whole; spelled = spelled; same = same; fits = fits }

pub made : {A : Type 0} {says : A → Context → List Terminal → Context → List Terminal → Type 0} {levels : A → ℕ} {most : ℕ} {before : Context} {row : List Terminal} {tree : A} {count : ℕ} {behind : Context} {rest front : List Terminal}
    → Splits row front rest → says tree before front behind rest → count ≡ levels tree → count ≤ most → Sound says levels most before row (Read tree count behind rest)
made whole spelled same fits = record { is = got whole spelled same fits }

pub held : {A : Type 0} {says : A → Context → List Terminal → Context → List Terminal → Type 0} {levels : A → ℕ} {most : ℕ} {before : Context} {row : List Terminal} {tree : A} {rest front : List Terminal} (behind : Context)
    → Splits row front rest → says tree before front behind [] → levels tree ≤ most → Sound says levels most before row (Stopped tree behind.expressions rest)
held {front} behind whole spelled fits = record { is = record { behind = behind; counts = refl; front = front; whole = whole; spelled = spelled; fits = fits } }

-- through the combinators
pub sound_then : {A B : Type 0} {says : A → Context → List Terminal → Context → List Terminal → Type 0} {levels : A → ℕ} {most : ℕ} {before : Context} {row : List Terminal}
    {tells : B → Context → List Terminal → Context → List Terminal → Type 0} {deep : B → ℕ} {bound : ℕ} {start : Context} {from : List Terminal}
    (outcome : Outcome A) (go : A → ℕ → Context → List Terminal → Outcome B)
    → Sound says levels most before row outcome
    → ((tree : A) (count : ℕ) (behind : Context) (rest : List Terminal) → Got says levels most before row tree count behind rest → Sound tells deep bound start from (go tree count behind rest))
    → Sound tells deep bound start from (then_read outcome go)
sound_then Nothing go is next = sound_nothing
sound_then (Stopped tree expressions rest) go is next = sound_nothing
sound_then (Read tree count behind rest) go is next = next tree count behind rest is.is

pub sound_continued : {A B : Type 0} {says : A → Context → List Terminal → Context → List Terminal → Type 0} {levels : A → ℕ} {most : ℕ} {before : Context} {row : List Terminal}
    {tells : B → Context → List Terminal → Context → List Terminal → Type 0} {deep : B → ℕ} {bound : ℕ} {start : Context} {from : List Terminal}
    (outcome : Outcome A) (whole : A → B) (go : A → ℕ → Context → List Terminal → Outcome B)
    → Sound says levels most before row outcome
    → ((tree : A) (expressions : ℕ) (rest : List Terminal) → Held says levels most before row tree expressions rest → Held tells deep bound start from (whole tree) expressions rest)
    → ((tree : A) (count : ℕ) (behind : Context) (rest : List Terminal) → Got says levels most before row tree count behind rest → Sound tells deep bound start from (go tree count behind rest))
    → Sound tells deep bound start from (continued outcome whole go)
sound_continued Nothing whole go is stops next = sound_nothing
sound_continued (Stopped tree expressions rest) whole go is stops next = sound_held (stops tree expressions rest is.is)
sound_continued (Read tree count behind rest) whole go is stops next = next tree count behind rest is.is

-- the context behind which an operand to the right stops has the number of the whole
pub sound_right : {A B : Type 0} {says : A → Context → List Terminal → Context → List Terminal → Type 0} {levels : A → ℕ} {most : ℕ} {before : Context} {row : List Terminal}
    {tells : B → Context → List Terminal → Context → List Terminal → Type 0} {deep : B → ℕ} {bound : ℕ} {start : Context} {from : List Terminal}
    (outcome : Outcome A) (without : Outcome B) (whole : A → ℕ → B) (go : A → ℕ → Context → List Terminal → Outcome B)
    → Sound says levels most before row outcome
    → Sound tells deep bound start from without
    → ((tree : A) (behind : Context) (front rest : List Terminal) → Splits row front rest → says tree before front behind [] → levels tree ≤ most
    → Sound tells deep bound start from (Stopped (whole tree behind.expressions) (behind.expressions + 1) rest))
    → ((tree : A) (count : ℕ) (behind : Context) (rest : List Terminal) → Got says levels most before row tree count behind rest → Sound tells deep bound start from (go tree count behind rest))
    → Sound tells deep bound start from (with_right outcome without whole go)
sound_right Nothing without whole go is other stops next = other
sound_right {tells} {deep} {bound} {start} {from} (Stopped tree expressions rest) without whole go is other stops next =
    let known = is.is in
    subst (λ (n : ℕ). Sound tells deep bound start from (Stopped (whole tree n) (n + 1) rest)) known.counts
    (stops tree known.behind known.front rest known.whole known.spelled known.fits)
sound_right (Read tree count behind rest) without whole go is other stops next = next tree count behind rest is.is

pub sound_else : {A B : Type 0} {says : A → Context → List Terminal → Context → List Terminal → Type 0} {levels : A → ℕ} {most : ℕ} {before : Context} {row : List Terminal}
    {tells : B → Context → List Terminal → Context → List Terminal → Type 0} {deep : B → ℕ} {bound : ℕ} {start : Context} {from : List Terminal}
    (outcome : Outcome A) (without : Outcome B) (go : A → ℕ → Context → List Terminal → Outcome B)
    → Sound says levels most before row outcome
    → Sound tells deep bound start from without
    → ((tree : A) (count : ℕ) (behind : Context) (rest : List Terminal) → Got says levels most before row tree count behind rest → Sound tells deep bound start from (go tree count behind rest))
    → Sound tells deep bound start from (or_else outcome without go)
sound_else Nothing without go is other next = other
sound_else (Stopped tree expressions rest) without go is other next = other
sound_else (Read tree count behind rest) without go is other next = next tree count behind rest is.is

pub sound_if : {A : Type 0} {says : A → Context → List Terminal → Context → List Terminal → Type 0} {levels : A → ℕ} {most : ℕ} {before : Context} {row : List Terminal}
    (test : Bool) (one other : Outcome A)
    → (test ≡ true → Sound says levels most before row one) → (test ≡ false → Sound says levels most before row other)
    → Sound says levels most before row (if test then one else other)
sound_if true one other holds fails = holds refl
sound_if false one other holds fails = fails refl

pub sound_first : {A : Type 0} {says : A → Context → List Terminal → Context → List Terminal → Type 0} {levels : A → ℕ} {most : ℕ} {before : Context} {row : List Terminal}
    (test : Terminal → Bool) (from : List Terminal) (without : Outcome A) (go : Terminal → List Terminal → Outcome A)
    → (has_first test from ≡ false → Sound says levels most before row without)
    → ((first : Terminal) (others : List Terminal) → from ≡ first ∷ others → test first ≡ true → Sound says levels most before row (go first others))
    → Sound says levels most before row (after_first test from without go)
sound_first test [] without go other next = other refl
sound_first test (first ∷ others) without go other next = sound_if (test first) _ _ (λ is. next first others refl is) (λ is. other is)

-- a row of which the first token passes a test
pub first_of : (test : Terminal → Bool) (row : List Terminal) → has_first test row ≡ true → (first : Terminal) × (row ≡ first ∷ behind_first row) × (test first ≡ true)
first_of test [] is = cc is
first_of test (first ∷ others) is = (first, refl, is)

pub sound_prepended : {A : Type 0} {says tells : List A → Context → List Terminal → Context → List Terminal → Type 0} {levels : List A → ℕ} {most bound : ℕ} {before start : Context} {row from : List Terminal}
    (tree : A) (count : ℕ) (outcome : Outcome (List A))
    → Sound says levels most before row outcome
    → ((trees : List A) (others : ℕ) (behind : Context) (rest : List Terminal) → Got says levels most before row trees others behind rest → Sound tells levels bound start from (Read (tree ∷ trees) (max count others) behind rest))
    → Sound tells levels bound start from (prepended tree count outcome)
sound_prepended tree count Nothing is next = sound_nothing
sound_prepended tree count (Stopped trees expressions rest) is next = sound_nothing
sound_prepended tree count (Read trees others behind rest) is next = next trees others behind rest is.is

-- levels
pub one_more : {a b : ℕ} → a ≡ b → 1 + a ≡ 1 + b
one_more same = ap (λ (n : ℕ). 1 + n) same

pub larger : {a b c d : ℕ} → a ≡ c → b ≡ d → max a b ≡ max c d
larger one other = λ i. max (one i) (other i)

pub larger_fits : {a b most : ℕ} → a ≤ most → b ≤ most → max a b ≤ most
larger_fits one other = omega (arith, one, other)

pub one_more_fits : {a most : ℕ} → a ≤ most → 1 + a ≤ most + 1
one_more_fits fits = omega (arith, fits)
