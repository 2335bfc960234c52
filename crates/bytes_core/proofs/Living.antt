-- The list of the live blocks, where a block is put behind the others and where one ends.
use Rattle.std.proofs.Common.{◌≡◌, ◌≢◌, ℕ, zero, suc, ◌<◌, Bool, true, false, List, [], ◌∷◌, ◌++◌, length, set, nat_eq, Option, None, Some, ◌⊎◌, inl, inr, refl, sym, ap, ◌∙◌, subst, arith}
use Rattle.std.proofs.lemmas.Bool.{cases_eq, and_parts, and_from, false≢true, eqb-true, eq-eqb}
use Rattle.std.proofs.lemmas.List.{length-set, length_push}
use Rattle.std.proofs.lemmas.Option.{none-some, same_Some, slice_get_within, slice_get-get_or}
use Rattle.std.specs.List.{slice_get, list_all}
use Rattle.std.specs.Prelude.{if◌then◌else◌}
use Rattle.bytes_core.specs.Living.{lives, AreLive, stands_there, own_place, place_of}

-- what stands in a list behind which an item is put
pub pushed_old : {X : Type 0} (xs : List X) (x y : X) (i : ℕ) → slice_get xs i ≡ Some y → slice_get (xs ++ x ∷ []) i ≡ Some y
pushed_old [] x y i stands = absurd (none-some y stands)
pushed_old (first ∷ rest) x y zero stands = stands
pushed_old (first ∷ rest) x y (suc i) stands = pushed_old rest x y i stands

pub pushed_new : {X : Type 0} (xs : List X) (x : X) → slice_get (xs ++ x ∷ []) (length xs) ≡ Some x
pushed_new [] x = refl
pushed_new (first ∷ rest) x = pushed_new rest x

pub pushed_cases : {X : Type 0} (xs : List X) (x y : X) (i : ℕ) → slice_get (xs ++ x ∷ []) i ≡ Some y → (slice_get xs i ≡ Some y) ⊎ ((i ≡ length xs) × (x ≡ y))
pushed_cases [] x y zero stands = inr (refl, same_Some x y stands)
pushed_cases [] x y (suc i) stands = absurd (none-some y stands)
pushed_cases (first ∷ rest) x y zero stands = inl stands
pushed_cases (first ∷ rest) x y (suc i) stands = more (pushed_cases rest x y i stands)
  where
    more : (slice_get rest i ≡ Some y) ⊎ ((i ≡ length rest) × (x ≡ y)) → (slice_get rest i ≡ Some y) ⊎ ((suc i ≡ suc (length rest)) × (x ≡ y))
    more (inl old) = inl old
    more (inr (last, same)) = inr (ap suc last, same)

-- what stands in a list of which an item is set
pub put_same : {X : Type 0} (xs : List X) (x y : X) (i : ℕ) → slice_get xs i ≡ Some y → slice_get (set xs i x) i ≡ Some x
put_same [] x y i stands = absurd (none-some y stands)
put_same (first ∷ rest) x y zero stands = refl
put_same (first ∷ rest) x y (suc i) stands = put_same rest x y i stands

pub put_other : {X : Type 0} (xs : List X) (x : X) (i j : ℕ) → j ≢ i → slice_get (set xs i x) j ≡ slice_get xs j
put_other [] x i j differ = refl
put_other (first ∷ rest) x zero zero differ = absurd (differ refl)
put_other (first ∷ rest) x zero (suc j) differ = refl
put_other (first ∷ rest) x (suc i) zero differ = refl
put_other (first ∷ rest) x (suc i) (suc j) differ = put_other rest x i j (λ same. differ (ap suc same))

pub put_cases : {X : Type 0} (xs : List X) (x y : X) (i j : ℕ) → slice_get (set xs i x) j ≡ Some y → ((j ≡ i) × (x ≡ y)) ⊎ ((j ≢ i) × (slice_get xs j ≡ Some y))
put_cases xs x y i j stands = by_cases (cases_eq j i)
  where
    within : j < length xs
    within = let h = slice_get_within (set xs i x) j y stands in omega (arith, length-set xs i x)

    at : (j ≡ i) → slice_get (set xs i x) i ≡ Some y
    at same = subst (λ (k : ℕ). slice_get (set xs i x) k ≡ Some y) same stands

    by_cases : (j ≡ i) ⊎ (j ≡ i → ⊥) → ((j ≡ i) × (x ≡ y)) ⊎ ((j ≢ i) × (slice_get xs j ≡ Some y))
    by_cases (inl same) = inl (same, same_Some x y (sym (put_same xs x _ i (slice_get-get_or xs i x (rw (sym same) within))) ∙ at same))
    by_cases (inr differ) = inr (differ, sym (put_other xs x i j differ) ∙ stands)

-- where nothing lives yet
pub AreLive-none : AreLive [] [] []
AreLive-none = record {
  size = refl;
  listed = λ number lives. absurd (none-some true lives);
  alone = λ place number stands. absurd (none-some number stands);
}

-- a block behind the others, which lives or not
pub AreLive-more : (alive : List Bool) (numbers places : List ℕ) (new : Bool) → AreLive alive numbers places →
    AreLive (alive ++ new ∷ []) (if new then numbers ++ length places ∷ [] else numbers) (places ++ length numbers ∷ [])
AreLive-more alive numbers places true are = record {
  size = let same = are.size in omega (arith, length_push places (length numbers), length_push alive true);
  listed = λ number lives. listed_at number (pushed_cases alive true true number lives);
  alone = λ place number stands. alone_at place number (pushed_cases numbers (length places) number place stands);
}
  where
    listed_at : (number : ℕ) → (slice_get alive number ≡ Some true) ⊎ ((number ≡ length alive) × (true ≡ true)) →
        (place : ℕ) × (slice_get (places ++ length numbers ∷ []) number ≡ Some place) × (slice_get (numbers ++ length places ∷ []) place ≡ Some number)
    listed_at number (inl old) =
        let (place, own, stands) = are.listed number old in
        (place, pushed_old places (length numbers) place number own, pushed_old numbers (length places) number place stands)
    listed_at number (inr (last, same)) =
        let is : number ≡ length places = last ∙ sym are.size in
        (length numbers, rw is (pushed_new places (length numbers)), rw is (pushed_new numbers (length places)))

    alone_at : (place number : ℕ) → (slice_get numbers place ≡ Some number) ⊎ ((place ≡ length numbers) × (length places ≡ number)) →
        (slice_get (alive ++ true ∷ []) number ≡ Some true) × (slice_get (places ++ length numbers ∷ []) number ≡ Some place)
    alone_at place number (inl old) =
        let (lives, own) = are.alone place number old in
        (pushed_old alive true true number lives, pushed_old places (length numbers) place number own)
    alone_at place number (inr (last, same)) =
        let is : number ≡ length alive = sym same ∙ are.size in
        (rw is (pushed_new alive true), rw (sym same, last) (pushed_new places (length numbers)))
AreLive-more alive numbers places false are = record {
  size = let same = are.size in omega (arith, length_push places (length numbers), length_push alive false);
  listed = λ number lives. listed_at number (pushed_cases alive false true number lives);
  alone = λ place number stands.
      let (lives, own) = are.alone place number stands in
      (pushed_old alive false true number lives, pushed_old places (length numbers) place number own);
}
  where
    listed_at : (number : ℕ) → (slice_get alive number ≡ Some true) ⊎ ((number ≡ length alive) × (false ≡ true)) →
        (place : ℕ) × (slice_get (places ++ length numbers ∷ []) number ≡ Some place) × (slice_get numbers place ≡ Some number)
    listed_at number (inl old) =
        let (place, own, stands) = are.listed number old in
        (place, pushed_old places (length numbers) place number own, stands)
    listed_at number (inr (last, same)) = absurd (false≢true same)

-- a block that ends: the last of the live ones takes its place
AreLive-fewer : (alive : List Bool) (numbers places rest : List ℕ) (number place last : ℕ) → numbers ≡ rest ++ last ∷ [] → slice_get places number ≡ Some place →
    slice_get alive number ≡ Some true → AreLive alive numbers places → AreLive (set alive number false) (set rest place last) (set places last place)
AreLive-fewer alive numbers places rest number place last is own lived are = record {
  size = length-set places last place ∙ are.size ∙ sym (length-set alive number false);
  listed = λ other lives. listed_at other (put_cases alive false true number other lives);
  alone = λ there other stands. alone_at there other (put_cases rest last other place there stands) (put_within there other stands);
}
  where
    there_is : slice_get numbers place ≡ Some number
    there_is =
        let (found, mine, stands) = are.listed number lived in
        subst (λ (p : ℕ). slice_get numbers p ≡ Some number) (same_Some found place (sym mine ∙ own)) stands

    last_is : slice_get numbers (length rest) ≡ Some last
    last_is = rw is (pushed_new rest last)

    of_last : slice_get places last ≡ Some (length rest)
    of_last = (are.alone (length rest) last last_is).1

    in_rest : (there other : ℕ) → slice_get rest there ≡ Some other → slice_get numbers there ≡ Some other
    in_rest there other stands = rw is (pushed_old rest last other there stands)

    put_within : (there other : ℕ) → slice_get (set rest place last) there ≡ Some other → there < length rest
    put_within there other stands = let h = slice_get_within (set rest place last) there other stands in omega (arith, length-set rest place last)

    -- the last one is not the one that ends, where a place before it is that of the one that ends
    last_differs : place < length rest → last ≢ number
    last_differs before same =
        let one : Some (length rest) ≡ Some place = sym of_last ∙ ap (slice_get places) same ∙ own in
        let also : length rest ≡ place = same_Some (length rest) place one in absurd (omega arith)

    alone_at : (there other : ℕ) → ((there ≡ place) × (last ≡ other)) ⊎ ((there ≢ place) × (slice_get rest there ≡ Some other)) → there < length rest →
        (slice_get (set alive number false) other ≡ Some true) × (slice_get (set places last place) other ≡ Some there)
    alone_at there other (inl (same, moved)) before =
        let differs : last ≢ number = last_differs (rw (sym same) before) in
        (rw (sym moved) (put_other alive false number last differs ∙ (are.alone (length rest) last last_is).0), rw (sym moved, same) (put_same places place (length rest) last of_last))
    alone_at there other (inr (apart, stands)) before =
        let (lives, mine) = are.alone there other (in_rest there other stands) in
        let not_number : other ≢ number = λ same. apart (same_Some there place (sym mine ∙ ap (slice_get places) same ∙ own)) in
        let not_last : other ≢ last = λ same.
        let also : there ≡ length rest = same_Some there (length rest) (sym mine ∙ ap (slice_get places) same ∙ of_last) in absurd (omega arith) in
        (put_other alive false number other not_number ∙ lives, put_other places place last other not_last ∙ mine)

    listed_at : (other : ℕ) → ((other ≡ number) × (false ≡ true)) ⊎ ((other ≢ number) × (slice_get alive other ≡ Some true)) →
        (there : ℕ) × (slice_get (set places last place) other ≡ Some there) × (slice_get (set rest place last) there ≡ Some other)
    listed_at other (inl (same, dead)) = absurd (false≢true dead)
    listed_at other (inr (apart, lives)) =
        let (there, mine, stands) = are.listed other lives in
        in_list there mine stands (pushed_cases rest last other there (rw is at stands))
      where
        in_list : (there : ℕ) → slice_get places other ≡ Some there → slice_get numbers there ≡ Some other → (slice_get rest there ≡ Some other) ⊎ ((there ≡ length rest) × (last ≡ other)) →
            (there : ℕ) × (slice_get (set places last place) other ≡ Some there) × (slice_get (set rest place last) there ≡ Some other)
        in_list there mine stands (inl old) =
            let before : there < length rest = slice_get_within rest there other old in
            let not_place : there ≢ place = λ same. apart (same_Some other number (sym stands ∙ ap (slice_get numbers) same ∙ there_is)) in
            let not_last : other ≢ last = λ same.
            let also : there ≡ length rest = same_Some there (length rest) (sym mine ∙ ap (slice_get places) same ∙ of_last) in absurd (omega arith) in
            (there, put_other places place last other not_last ∙ mine, put_other rest last place there not_place ∙ old)
        in_list there mine stands (inr (end, same)) =
            (place, rw (sym same) (put_same places place (length rest) last of_last), rw (sym same) (moved (pushed_cases rest last number place (rw is at there_is))))
          where
            moved : (slice_get rest place ≡ Some number) ⊎ ((place ≡ length rest) × (last ≡ number)) → slice_get (set rest place last) place ≡ Some last
            moved (inl here) = put_same rest last number place here
            moved (inr (at_end, ended)) = absurd (apart (sym same ∙ ended))

-- which number stands at the place of a block
pub number_at : (numbers : List ℕ) (number place : ℕ) (found : Option ℕ) → own_place numbers number found ≡ Some place → slice_get numbers place ≡ Some number
number_at numbers number place None own = absurd (none-some place own)
number_at numbers number place (Some there) own = by_number (slice_get numbers there) refl own
  where
    tested : (test : Bool) → (if test then Some there else None) ≡ Some place → (test ≡ true) × (there ≡ place)
    tested true is = (refl, same_Some there place is)
    tested false is = absurd (none-some place is)

    by_number : (stands : Option ℕ) → slice_get numbers there ≡ stands → (if stands_there stands number then Some there else None) ≡ Some place → slice_get numbers place ≡ Some number
    by_number None is now = absurd (none-some place now)
    by_number (Some other) is now =
        let (same, at) = tested (nat_eq other number) now in
        subst (λ (p : ℕ). slice_get numbers p ≡ Some number) at (is ∙ ap Some (eqb-true other number same))

-- the place of a block that stands there
pub place_at : (numbers places : List ℕ) (number place : ℕ) → slice_get places number ≡ Some place → slice_get numbers place ≡ Some number → place_of numbers places number ≡ Some place
place_at numbers places number place own stands =
    ap (own_place numbers number) own
    ∙ ap (λ (there : Option ℕ). if stands_there there number then Some place else None) stands
    ∙ ap (λ (test : Bool). if test then Some place else None) (eq-eqb number number refl)

-- a block that does not live ends
AreLive-same : (alive : List Bool) (numbers places : List ℕ) (number : ℕ) → (slice_get alive number ≡ Some true → ⊥) → AreLive alive numbers places →
    AreLive (set alive number false) numbers places
AreLive-same alive numbers places number dead are = record {
  size = are.size ∙ sym (length-set alive number false);
  listed = λ other lives. listed_at other (put_cases alive false true number other lives);
  alone = λ place other stands.
      let (lives, own) = are.alone place other stands in
      (put_other alive false number other (λ same. dead (subst (λ (n : ℕ). slice_get alive n ≡ Some true) same lives)) ∙ lives, own);
}
  where
    listed_at : (other : ℕ) → ((other ≡ number) × (false ≡ true)) ⊎ ((other ≢ number) × (slice_get alive other ≡ Some true)) →
        (place : ℕ) × (slice_get places other ≡ Some place) × (slice_get numbers place ≡ Some other)
    listed_at other (inl (same, absent)) = absurd (false≢true absent)
    listed_at other (inr (apart, lives)) = are.listed other lives

-- what is counted out: a block that has no place, one that has a place, where no number stands, and where some do
pub counted_none : (alive : List Bool) (numbers places : List ℕ) (number : ℕ) → place_of numbers places number ≡ None → AreLive alive numbers places →
    AreLive (set alive number false) numbers places
counted_none alive numbers places number none are = AreLive-same alive numbers places number dead are
  where
    dead : slice_get alive number ≡ Some true → ⊥
    dead lives =
        let (place, own, stands) = are.listed number lives in
        none-some place (sym none ∙ place_at numbers places number place own stands)

pub none_to_count : (numbers places : List ℕ) (number place : ℕ) → numbers ≡ [] → place_of numbers places number ≡ Some place → ⊥
none_to_count numbers places number place none own =
    none-some number (ap (λ (items : List ℕ). slice_get items place) (sym none) ∙ number_at numbers number place (slice_get places number) own)

pub counted_out : (alive : List Bool) (numbers places rest : List ℕ) (number place last : ℕ) → place_of numbers places number ≡ Some place → numbers ≡ rest ++ last ∷ [] →
    AreLive alive numbers places → AreLive (set alive number false) (set rest place last) (set places last place)
counted_out alive numbers places rest number place last own is are =
    let (lives, at) = are.alone place number (number_at numbers number place (slice_get places number) own) in
    AreLive-fewer alive numbers places rest number place last is at lives are

-- a test that passes at each item of a list
pub passes_at : {X : Type 0} (test : X → Bool) (xs : List X) → list_all test xs ≡ true → (i : ℕ) (x : X) → slice_get xs i ≡ Some x → test x ≡ true
passes_at test [] all i x stands = absurd (none-some x stands)
passes_at test (first ∷ rest) all zero x stands =
    subst (λ (item : _). test item ≡ true) (same_Some first x stands) (and_parts (test first) (list_all test rest) all).0
passes_at test (first ∷ rest) all (suc i) x stands = passes_at test rest (and_parts (test first) (list_all test rest) all).1 i x stands

pub at_passes : {X : Type 0} (test : X → Bool) (xs : List X) → ((i : ℕ) (x : X) → slice_get xs i ≡ Some x → test x ≡ true) → list_all test xs ≡ true
at_passes test [] each = refl
at_passes test (first ∷ rest) each =
    and_from (test first) (list_all test rest) (each 0 first refl) (at_passes test rest (λ i x stands. each (suc i) x stands))
