-- Numbers for keys: different ones for different keys, none of those that are taken.
use Rattle.std.proofs.Common.{◌≡◌, ◌≢◌, ℕ, zero, suc, ◌+◌, ◌<◌, ◌≤◌, Bool, true, false, ◌||◌, List, [], ◌∷◌, length, nat_eq, refl, sym, ◌∙◌, ap, eqb-true, eq-eqb, arith}
use Rattle.std.specs.Prelude.{if◌then◌else◌}
use Rattle.std.proofs.lemmas.Bool.{false≢true}

-- whether a number is among these
abbrev pub is_in : ℕ → List ℕ → Bool
is_in number [] = false
is_in number (first ∷ rest) = nat_eq first number || is_in number rest

pub is_in-later : (number first : ℕ) (rest : List ℕ) → is_in number rest ≡ true → is_in number (first ∷ rest) ≡ true
is_in-later number first rest later = by_cases (nat_eq first number)
  where
    by_cases : (b : Bool) → (b || is_in number rest) ≡ true
    by_cases true = refl
    by_cases false = later

pub is_in-first : (number : ℕ) (rest : List ℕ) → is_in number (number ∷ rest) ≡ true
is_in-first number rest = ap (λ (b : Bool). b || is_in number rest) (eq-eqb number number refl)

pub not_in-rest : (number first : ℕ) (rest : List ℕ) → is_in number (first ∷ rest) ≡ false → is_in number rest ≡ false
not_in-rest number first rest outside = by_cases (nat_eq first number) outside
  where
    by_cases : (b : Bool) → (b || is_in number rest) ≡ false → is_in number rest ≡ false
    by_cases true out = absurd (false≢true (sym out))
    by_cases false out = out

pub not_in-first : (number first : ℕ) (rest : List ℕ) → is_in number (first ∷ rest) ≡ false → first ≢ number
not_in-first number first rest outside equal =
    false≢true (sym outside ∙ ap (λ (b : Bool). b || is_in number rest) (eq-eqb first number equal))

-- the list without a number
without : ℕ → List ℕ → List ℕ
without number [] = []
without number (first ∷ rest) = if nat_eq first number then without number rest else first ∷ without number rest

length-without : (number : ℕ) (xs : List ℕ) → length (without number xs) ≤ length xs
unfolding without
length-without number [] = omega arith
length-without number (first ∷ rest) = by_cases (nat_eq first number) (length-without number rest)
  where
    by_cases : (b : Bool) → length (without number rest) ≤ length rest → length (if b then without number rest else first ∷ without number rest) ≤ suc (length rest)
    by_cases true below = omega arith
    by_cases false below = omega arith

shorter-without : (number : ℕ) (xs : List ℕ) → is_in number xs ≡ true → length (without number xs) < length xs
unfolding without
shorter-without number [] within = absurd (false≢true within)
shorter-without number (first ∷ rest) within = by_cases (nat_eq first number) within (length-without number rest) (shorter-without number rest)
  where
    by_cases : (b : Bool) → (b || is_in number rest) ≡ true → length (without number rest) ≤ length rest → (is_in number rest ≡ true → length (without number rest) < length rest) →
        length (if b then without number rest else first ∷ without number rest) < suc (length rest)
    by_cases true within below shorter = omega arith
    by_cases false within below shorter = let s = shorter within in omega arith

-- another number that is among them stays
stays-without : (number other : ℕ) (xs : List ℕ) → other ≢ number → is_in other xs ≡ true → is_in other (without number xs) ≡ true
unfolding without
stays-without number other [] differ within = within
stays-without number other (first ∷ rest) differ within = by_cases (nat_eq first number) refl (nat_eq first other) refl within (stays-without number other rest differ)
  where
    by_cases : (b : Bool) → nat_eq first number ≡ b → (c : Bool) → nat_eq first other ≡ c → (c || is_in other rest) ≡ true → (is_in other rest ≡ true → is_in other (without number rest) ≡ true) →
        is_in other (if b then without number rest else first ∷ without number rest) ≡ true
    by_cases true is true same within later = absurd (differ (sym (eqb-true _ _ same) ∙ eqb-true _ _ is))
    by_cases true is false other_than within later = later within
    by_cases false is true same within later = ap (λ (b : Bool). b || is_in other (without number rest)) same
    by_cases false is false other_than within later = is_in-later other first (without number rest) (later within)

-- a number below a bound that is not among them
pub record Free (bound : ℕ) (xs : List ℕ) : Type 0 where
  pub number : ℕ
  pub below : number < bound
  pub outside : is_in number xs ≡ false

-- fewer than so many numbers leave one free
pub free_below : (bound : ℕ) (xs : List ℕ) → length xs < bound → Free bound xs
free_below zero xs few = absurd (omega arith)
free_below (suc bound) xs few = by_cases (is_in bound xs) refl (λ fewer. free_below bound (without bound xs) fewer)
  where
    by_cases : (b : Bool) → is_in bound xs ≡ b → (length (without bound xs) < bound → Free bound (without bound xs)) → Free (suc bound) xs
    by_cases false is below = record { number = bound; below = omega arith; outside = is }
    by_cases true is below =
        let shorter = shorter-without bound xs is in
        let free = below (omega arith) in
        let under = free.below in
        record { number = free.number; below = omega arith; outside = not_in (is_in free.number xs) refl free.outside (omega arith) }
      where
        not_in : {free : ℕ} → (b : Bool) → is_in free xs ≡ b → is_in free (without bound xs) ≡ false → free ≢ bound → b ≡ false
        not_in false is outside differ = refl
        not_in {free} true is outside differ = absurd (false≢true (sym outside ∙ stays-without bound free xs differ is))

-- a number that is not among these
pub fresh : List ℕ → ℕ
fresh taken = (free_below (suc (length taken)) taken (omega arith)).number

pub fresh-outside : (taken : List ℕ) → is_in (fresh taken) taken ≡ false
unfolding fresh
fresh-outside taken = (free_below (suc (length taken)) taken (omega arith)).outside

pub fresh-below : (taken : List ℕ) → fresh taken ≤ length taken
unfolding fresh
fresh-below taken = let b = (free_below (suc (length taken)) taken (omega arith)).below in omega arith

-- the number of a key: each of the keys in turn gets one that is fresh
abbrev pub chosen : List ℕ → List ℕ → ℕ → ℕ
chosen [] taken key = 0
chosen (first ∷ rest) taken key = if nat_eq first key then fresh taken else chosen rest (fresh taken ∷ taken) key

pub chosen-below : (keys taken : List ℕ) (key : ℕ) → chosen keys taken key ≤ length taken + length keys
chosen-below [] taken key = omega arith
chosen-below (first ∷ rest) taken key = by_cases (nat_eq first key) (fresh-below taken) (chosen-below rest (fresh taken ∷ taken) key)
  where
    by_cases : (b : Bool) → fresh taken ≤ length taken → chosen rest (fresh taken ∷ taken) key ≤ suc (length taken) + length rest →
        (if b then fresh taken else chosen rest (fresh taken ∷ taken) key) ≤ length taken + suc (length rest)
    by_cases true here later = omega arith
    by_cases false here later = omega arith

pub chosen-outside : (keys taken : List ℕ) (key : ℕ) → is_in key keys ≡ true → is_in (chosen keys taken key) taken ≡ false
chosen-outside [] taken key within = absurd (false≢true within)
chosen-outside (first ∷ rest) taken key within = by_cases (nat_eq first key) within (λ later. chosen-outside rest (fresh taken ∷ taken) key later)
  where
    by_cases : (b : Bool) → (b || is_in key rest) ≡ true → (is_in key rest ≡ true → is_in (chosen rest (fresh taken ∷ taken) key) (fresh taken ∷ taken) ≡ false) →
        is_in (if b then fresh taken else chosen rest (fresh taken ∷ taken) key) taken ≡ false
    by_cases true within later = fresh-outside taken
    by_cases false within later = not_in-rest (chosen rest (fresh taken ∷ taken) key) (fresh taken) taken (later within)

pub chosen-differ : (keys taken : List ℕ) (one other : ℕ) → one ≢ other → is_in one keys ≡ true → is_in other keys ≡ true → chosen keys taken one ≢ chosen keys taken other
chosen-differ [] taken one other differ one_in other_in = absurd (false≢true one_in)
chosen-differ (first ∷ rest) taken one other differ one_in other_in =
    by_cases (nat_eq first one) refl (nat_eq first other) refl one_in other_in (λ one_later other_later. chosen-differ rest (fresh taken ∷ taken) one other differ one_later other_later)
  where
    by_cases : (b : Bool) → nat_eq first one ≡ b → (c : Bool) → nat_eq first other ≡ c → (b || is_in one rest) ≡ true → (c || is_in other rest) ≡ true →
        (is_in one rest ≡ true → is_in other rest ≡ true → chosen rest (fresh taken ∷ taken) one ≢ chosen rest (fresh taken ∷ taken) other) →
        (if b then fresh taken else chosen rest (fresh taken ∷ taken) one) ≢ (if c then fresh taken else chosen rest (fresh taken ∷ taken) other)
    by_cases true is_one true is_other one_in other_in later = absurd (differ (sym (eqb-true _ _ is_one) ∙ eqb-true _ _ is_other))
    by_cases true is_one false is_other one_in other_in later =
        λ equal. not_in-first (chosen rest (fresh taken ∷ taken) other) (fresh taken) taken (chosen-outside rest (fresh taken ∷ taken) other other_in) equal
    by_cases false is_one true is_other one_in other_in later =
        λ equal. not_in-first (chosen rest (fresh taken ∷ taken) one) (fresh taken) taken (chosen-outside rest (fresh taken ∷ taken) one one_in) (sym equal)
    by_cases false is_one false is_other one_in other_in later = later one_in other_in
