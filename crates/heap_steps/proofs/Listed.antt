-- Lists: what stands at a place, what a list contains, and the last item of one that is not empty.
use Rattle.std.proofs.Common.{◌≡◌, ℕ, zero, suc, ◌<◌, List, [], ◌∷◌, ◌++◌, map, length, None, Some, ◌⊎◌, inl, inr, refl, ap, subst, arith}
use Rattle.std.specs.Prelude.{Contains, slice_get}
use Rattle.std.proofs.lemmas.Option.{same_Some, none-some}

-- the last item, and those before it
pub record HasLast {X : Type 0} (xs : List X) : Type 0 where
  pub front : List X
  pub last : X
  pub is : xs ≡ front ++ last ∷ []

pub HasLast-more : {X : Type 0} (first : X) (rest : List X) → HasLast (first ∷ rest)
HasLast-more first [] = record { front = []; last = first; is = refl }
HasLast-more first (next ∷ rest) =
    let later = HasLast-more next rest in record { front = first ∷ later.front; last = later.last; is = ap (λ (xs : List _). first ∷ xs) later.is }

pub get_last : {X : Type 0} (front : List X) (last : X) → slice_get (front ++ last ∷ []) (length front) ≡ Some last
get_last [] last = refl
get_last (first ∷ front) last = get_last front last

pub get_past_last : {X : Type 0} (front : List X) (last : X) → slice_get (front ++ last ∷ []) (suc (length front)) ≡ None
get_past_last [] last = refl
get_past_last (first ∷ front) last = get_past_last front last

-- there is an item at each place inside
pub get_within : {X : Type 0} (xs : List X) (place : ℕ) → place < length xs → (x : X) × (slice_get xs place ≡ Some x)
get_within [] place below = absurd (omega arith)
get_within (x ∷ xs) zero below = (x, refl)
get_within (x ∷ xs) (suc place) below = get_within xs place (omega arith)

-- what a list contains
pub Contains-first : {X : Type 0} (x : X) (xs : List X) → Contains (x ∷ xs) x
Contains-first x xs = (0, omega arith, refl)

pub Contains-later : {X : Type 0} (x y : X) (xs : List X) → Contains xs y → Contains (x ∷ xs) y
Contains-later x y xs there = (suc there.0, (let below = there.1 in omega arith), there.2)

pub Contains-cases : {X : Type 0} (x y : X) (xs : List X) → Contains (x ∷ xs) y → (x ≡ y) ⊎ Contains xs y
Contains-cases x y xs (zero, below, is) = inl is
Contains-cases x y xs (suc place, below, is) = inr (place, omega arith, is)

pub Contains-none : {X : Type 0} (x : X) → Contains [] x → ⊥
Contains-none x there = let below = there.1 in absurd (omega arith)

pub Contains-get : {X : Type 0} (xs : List X) (place : ℕ) (x : X) → slice_get xs place ≡ Some x → Contains xs x
Contains-get [] place x is = absurd (none-some x is)
Contains-get (first ∷ rest) zero x is = subst (λ (y : _). Contains (first ∷ rest) y) (same_Some first x is) (Contains-first first rest)
Contains-get (first ∷ rest) (suc place) x is = Contains-later first x rest (Contains-get rest place x is)

pub get_contained : {X : Type 0} (xs : List X) (x : X) → Contains xs x → (place : ℕ) × (slice_get xs place ≡ Some x)
get_contained [] x there = absurd (Contains-none x there)
get_contained (first ∷ rest) x there = by_cases (Contains-cases first x rest there) (λ later. get_contained rest x later)
  where
    by_cases : (first ≡ x) ⊎ Contains rest x → (Contains rest x → (place : ℕ) × (slice_get rest place ≡ Some x)) → (place : ℕ) × (slice_get (first ∷ rest) place ≡ Some x)
    by_cases (inl same) before = (0, ap Some same)
    by_cases (inr later) before = let found = before later in (suc found.0, found.1)

-- what a list of images contains
pub mapped_from : {X Y : Type 0} (f : X → Y) (xs : List X) (y : Y) → Contains (map f xs) y → (place : ℕ) × (x : X) × (slice_get xs place ≡ Some x) × (f x ≡ y)
mapped_from f [] y there = absurd (Contains-none y there)
mapped_from f (x ∷ xs) y there = by_cases (Contains-cases (f x) y (map f xs) there) (λ later. mapped_from f xs y later)
  where
    by_cases : (f x ≡ y) ⊎ Contains (map f xs) y → (Contains (map f xs) y → (place : ℕ) × (z : _) × (slice_get xs place ≡ Some z) × (f z ≡ y)) →
        (place : ℕ) × (z : _) × (slice_get (x ∷ xs) place ≡ Some z) × (f z ≡ y)
    by_cases (inl same) before = (0, x, refl, same)
    by_cases (inr later) before = let found = before later in (suc found.0, found.1, found.2, found.3)

pub mapped_to : {X Y : Type 0} (f : X → Y) (xs : List X) (place : ℕ) (x : X) → slice_get xs place ≡ Some x → Contains (map f xs) (f x)
mapped_to f [] place x is = absurd (none-some x is)
mapped_to f (first ∷ rest) zero x is = subst (λ (y : _). Contains (map f (first ∷ rest)) (f y)) (same_Some first x is) (Contains-first (f first) (map f rest))
mapped_to f (first ∷ rest) (suc place) x is = Contains-later (f first) (f x) (map f rest) (mapped_to f rest place x is)
