-- Counts and tests of lists of which some items stay.
use Rattle.std.proofs.Common.{◌≡◌, ℕ, zero, suc, ◌+◌, ◌≤◌, Bool, true, false, ◌||◌, cond, List, [], ◌∷◌, map, length, Some, refl, sym, ◌∙◌, ap, arith, ◌⊎◌, inl, inr}
use Rattle.std.specs.Prelude.{slice_get, sum_by}
use Rattle.std.specs.List.{filter, list_any}
use Rattle.std.proofs.lemmas.Bool.{false≢true}
use Rattle.std.proofs.lemmas.List.Sums.{sum_by-cons}
use Rattle.std.proofs.lemmas.Option.{none-some, same_Some}
use Rattle.tidying.proofs.Tests.{or_split}

-- the item at a place that passes a test
pub record Passes {X : Type 0} (test : X → Bool) (xs : List X) : Type 0 where
  pub place : ℕ
  pub item : X
  pub is : slice_get xs place ≡ Some item
  pub passes : test item ≡ true

pub any_place : {X : Type 0} (test : X → Bool) (xs : List X) → list_any test xs ≡ true → Passes test xs
any_place test [] any = absurd (false≢true any)
any_place {X} test (x ∷ xs) any = by_split (or_split (test x) (list_any test xs) any) (λ later. any_place test xs later)
  where
    by_split : (test x ≡ true) ⊎ (list_any test xs ≡ true) → (list_any test xs ≡ true → Passes test xs) → Passes test (x ∷ xs)
    by_split (inl here) rest_does = record { place = 0; item = x; is = refl; passes = here }
    by_split (inr later) rest_does = let found = rest_does later in record { place = suc found.place; item = found.item; is = found.is; passes = found.passes }

-- a place of an item of those that stay
pub record Stayed {X : Type 0} (stay : X → Bool) (xs : List X) (x : X) : Type 0 where
  pub place : ℕ
  pub is : slice_get xs place ≡ Some x
  pub stays : stay x ≡ true

pub stayed : {X : Type 0} (stay : X → Bool) (xs : List X) (place : ℕ) (x : X) → slice_get (filter stay xs) place ≡ Some x → Stayed stay xs x
stayed stay [] place x is = absurd (none-some x is)
stayed {X} stay (first ∷ rest) place x is = by_stay (stay first) refl place is (λ later found. stayed stay rest later x found)
  where
    behind : Stayed stay rest x → Stayed stay (first ∷ rest) x
    behind later = record { place = suc later.place; is = later.is; stays = later.stays }

    by_stay : (b : Bool) → stay first ≡ b → (place : ℕ) → slice_get (cond b (first ∷ filter stay rest) (filter stay rest)) place ≡ Some x →
        ((later : ℕ) → slice_get (filter stay rest) later ≡ Some x → Stayed stay rest x) → Stayed stay (first ∷ rest) x
    by_stay true passes zero is among = record { place = 0; is = is; stays = ap stay (sym (same_Some _ _ is)) ∙ passes }
    by_stay true passes (suc place) is among = behind (among place is)
    by_stay false fails place is among = behind (among place is)

-- a test that fails for all that goes
pub any_filter : {X : Type 0} (test other stay : X → Bool) (xs : List X) → ((place : ℕ) (x : X) → slice_get xs place ≡ Some x → stay x ≡ true → test x ≡ other x) →
    ((place : ℕ) (x : X) → slice_get xs place ≡ Some x → stay x ≡ false → other x ≡ false) → list_any test (filter stay xs) ≡ list_any other xs
any_filter test other stay [] same gone = refl
any_filter {X} test other stay (x ∷ xs) same gone =
    by_stay (stay x) refl (any_filter test other stay xs (λ place y is. same (suc place) y is) (λ place y is. gone (suc place) y is))
  where
    by_stay : (b : Bool) → stay x ≡ b → list_any test (filter stay xs) ≡ list_any other xs → list_any test (cond b (x ∷ filter stay xs) (filter stay xs)) ≡ (other x || list_any other xs)
    by_stay true is rest_are = ap (λ (c : Bool). c || list_any test (filter stay xs)) (same 0 x refl is) ∙ ap (λ (c : Bool). other x || c) rest_are
    by_stay false is rest_are = rest_are ∙ sym (ap (λ (c : Bool). c || list_any other xs) (gone 0 x refl is))

-- Sums and counts.

pub sum_stays : {X Y : Type 0} (f : Y → ℕ) (g : X → ℕ) (become : X → Y) (stay : X → Bool) → ((x : X) → f (become x) ≡ g x) → (xs : List X) → sum_by f (map become (filter stay xs)) ≤ sum_by g xs
sum_stays f g become stay same [] = omega arith
sum_stays {X} {Y} f g become stay same (x ∷ xs) = by_stay (stay x) (sum_stays f g become stay same xs)
  where
    by_stay : (b : Bool) → sum_by f (map become (filter stay xs)) ≤ sum_by g xs → sum_by f (map become (cond b (x ∷ filter stay xs) (filter stay xs))) ≤ sum_by g (x ∷ xs)
    by_stay true below =
        let left = sum_by-cons f (become x) (map become (filter stay xs)) in
        let right = sum_by-cons g x xs in
        let here = same x in
        omega (arith, left, right, here, below)
    by_stay false below =
        let right = sum_by-cons g x xs in
        omega (arith, right, below)

pub length_stays : {X : Type 0} (stay : X → Bool) (xs : List X) → length (filter stay xs) ≤ length xs
length_stays stay [] = omega arith
length_stays {X} stay (x ∷ xs) = by_stay (stay x) (length_stays stay xs)
  where
    by_stay : (b : Bool) → length (filter stay xs) ≤ length xs → length (cond b (x ∷ filter stay xs) (filter stay xs)) ≤ suc (length xs)
    by_stay true below = omega arith
    by_stay false below = omega arith

pub count_stays : {X Y : Type 0} (test : Y → Bool) (other stay : X → Bool) (become : X → Y) (xs : List X) → ((place : ℕ) (x : X) → slice_get xs place ≡ Some x → stay x ≡ true → test (become x) ≡ other x) →
    length (filter test (map become (filter stay xs))) ≤ length (filter other xs)
count_stays test other stay become [] same = omega arith
count_stays {X} {Y} test other stay become (x ∷ xs) same =
    by_stay (stay x) refl (other x) (λ is. same 0 x refl is) (count_stays test other stay become xs (λ place y is. same (suc place) y is))
  where
    counted : (a b : Bool) → a ≡ b → length (filter test (map become (filter stay xs))) ≤ length (filter other xs) → length (cond a (become x ∷ filter test (map become (filter stay xs))) (filter test (map become (filter stay xs)))) ≤ length (cond b (x ∷ filter other xs) (filter other xs))
    counted true true agree below = omega arith
    counted false false agree below = below
    counted true false agree below = absurd (false≢true (sym agree))
    counted false true agree below = absurd (false≢true agree)

    more : (b : Bool) → length (filter other xs) ≤ length (cond b (x ∷ filter other xs) (filter other xs))
    more true = omega arith
    more false = omega arith

    by_stay : (b : Bool) → stay x ≡ b → (c : Bool) → (stay x ≡ true → test (become x) ≡ other x) → length (filter test (map become (filter stay xs))) ≤ length (filter other xs) →
        length (filter test (map become (cond b (x ∷ filter stay xs) (filter stay xs)))) ≤ length (filter other (x ∷ xs))
    by_stay true is c agree below = counted (test (become x)) (other x) (agree is) below
    by_stay false is c agree below = let e = more (other x) in omega (arith, below, e)

pub sum_split : {X : Type 0} (f g : X → ℕ) (test : X → Bool) (xs : List X) → ((place : ℕ) (x : X) → slice_get xs place ≡ Some x → f x ≤ g x + cond (test x) 1 0) → sum_by f xs ≤ sum_by g xs + length (filter test xs)
sum_split f g test [] each = omega arith
sum_split {X} f g test (x ∷ xs) each = by_test (test x) (each 0 x refl) (sum_split f g test xs (λ place y is. each (suc place) y is))
  where
    by_test : (b : Bool) → f x ≤ g x + cond b 1 0 → sum_by f xs ≤ sum_by g xs + length (filter test xs) → sum_by f (x ∷ xs) ≤ sum_by g (x ∷ xs) + length (cond b (x ∷ filter test xs) (filter test xs))
    by_test true here later =
        let left = sum_by-cons f x xs in
        let right = sum_by-cons g x xs in
        omega (arith, left, right, here, later)
    by_test false here later =
        let left = sum_by-cons f x xs in
        let right = sum_by-cons g x xs in
        omega (arith, left, right, here, later)
