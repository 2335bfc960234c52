-- Lists of numbers that ascend: two with the same numbers are equal, and a number more is put in its place.
use Rattle.std.proofs.Common.{◌≡◌, ℕ, zero, suc, ◌<◌, ◌≤◌, ◌⊎◌, inl, inr, List, [], ◌∷◌, Bool, true, false, refl, sym, ap, subst, ◌∙◌, arith}
use Rattle.std.specs.Prelude.{not, if◌then◌else◌, nat_eq, nat_lt, Contains, All, slice_get, Some}
use Rattle.std.specs.List.{list_any}
use Rattle.std.proofs.lemmas.Bool.{eqb-false, and_parts, and_from, ltb-true, lt-ltb, le-ltb, not-true, or_parts, cases_order, cases_lt}
use Rattle.std.proofs.lemmas.Option.{slice_get_within, get_or_from_slice_get}
use Rattle.flow.specs.Holding.{put_variable}
use Rattle.flow.specs.Standing.{with_variables}
use Rattle.flow.specs.Valid.{ascend, are_distinct}

-- an item of a list
abbrev pub Among : {X : Type 0} → List X → X → Type 0
Among [] item = ⊥
Among (first ∷ rest) item = (first ≡ item) ⊎ Among rest item

pub Among-contains : {X : Type 0} (items : List X) (item : X) → Contains items item → Among items item
Among-contains [] item (k, below, is) = absurd (omega arith)
Among-contains (first ∷ rest) item (zero, below, is) = inl is
Among-contains (first ∷ rest) item (suc k, below, is) = inr (Among-contains rest item (k, omega arith, is))

pub Contains-among : {X : Type 0} (items : List X) (item : X) → Among items item → Contains items item
Contains-among [] item among = absurd among
Contains-among (first ∷ rest) item (inl is) = (zero, omega arith, is)
Contains-among (first ∷ rest) item (inr among) = let more = Contains-among rest item among in (suc more.0, let less = more.1 in omega arith, more.2)

-- what holds of each item holds of one at a place
pub All-at : {X : Type 0} (P : X → Type 0) (items : List X) (place : ℕ) (item : X) → slice_get items place ≡ Some item → All P items → P item
All-at P items place item is all = subst P (get_or_from_slice_get items place item item is) (all place item (slice_get_within items place item is))

-- a list that ascends, from its first number on
ascend-parts : (first : ℕ) (rest : List ℕ) → ascend (first ∷ rest) ≡ true → (ascend rest ≡ true) × ((other : ℕ) → Among rest other → first < other)
ascend-parts first [] is = (refl, λ other among. absurd among)
ascend-parts first (second ∷ rest) is =
    let parts = and_parts (nat_lt first second) (ascend (second ∷ rest)) is in
    let less : first < second = ltb-true first second parts.0 in
    let above = (ascend-parts second rest parts.1).1 in
    (parts.1, λ other among. elim among [ inl same ↦ (let e : second ≡ other = same in omega arith) | inr among ↦ (let more : second < other = above other among in omega arith) ])

ascend-from : (first : ℕ) (rest : List ℕ) → ascend rest ≡ true → ((other : ℕ) → Among rest other → first < other) → ascend (first ∷ rest) ≡ true
ascend-from first [] is above = refl
ascend-from first (second ∷ rest) is above = and_from (nat_lt first second) (ascend (second ∷ rest)) (lt-ltb first second (above second (inl refl))) is

-- two lists that ascend and have the same numbers are equal
pub ascend-same : (one other : List ℕ) → ascend one ≡ true → ascend other ≡ true →
    ((number : ℕ) → Among one number → Among other number) → ((number : ℕ) → Among other number → Among one number) → one ≡ other
ascend-same [] [] is is' there back = refl
ascend-same [] (first ∷ rest) is is' there back = absurd (back first (inl refl))
ascend-same (first ∷ rest) [] is is' there back = absurd (there first (inl refl))
ascend-same (first ∷ rest) (second ∷ more) is is' there back =
    let parts = ascend-parts first rest is in
    let parts' = ascend-parts second more is' in
    let same : first ≡ second = first_same (there first (inl refl)) (back second (inl refl)) parts.1 parts'.1 in
    let rests : rest ≡ more = ascend-same rest more parts.0 parts'.0
    (λ number among. rest_there number (there number (inr among)) (parts.1 number among) same)
    (λ number among. rest_back number (back number (inr among)) (parts'.1 number among) same) in
    ap (λ (number : ℕ). number ∷ rest) same ∙ ap (λ (numbers : List ℕ). second ∷ numbers) rests
  where
    first_same : (second ≡ first) ⊎ Among more first → (first ≡ second) ⊎ Among rest second →
        ((other : ℕ) → Among rest other → first < other) → ((other : ℕ) → Among more other → second < other) → first ≡ second
    first_same (inl same) among above above' = sym same
    first_same (inr among) (inl same) above above' = same
    first_same (inr among) (inr among') above above' =
        let less : first < second = above second among' in let more : second < first = above' first among in absurd (omega arith)

    rest_there : (number : ℕ) → (second ≡ number) ⊎ Among more number → first < number → first ≡ second → Among more number
    rest_there number (inl is) less same = absurd (omega arith)
    rest_there number (inr among) less same = among

    rest_back : (number : ℕ) → (first ≡ number) ⊎ Among rest number → second < number → first ≡ second → Among rest number
    rest_back number (inl is) less same = absurd (omega arith)
    rest_back number (inr among) less same = among

-- a number that is put into a list
put-there : (new : ℕ) (variables : List ℕ) (number : ℕ) → (new ≡ number) ⊎ Among variables number → Among (put_variable new variables) number
put-there new [] number among = among
put-there new (first ∷ rest) number among = by_order (nat_lt new first) among (put-there new rest number)
  where
    by_order : (less : Bool) → (new ≡ number) ⊎ ((first ≡ number) ⊎ Among rest number) →
        ((new ≡ number) ⊎ Among rest number → Among (put_variable new rest) number) →
        Among (if less then new ∷ first ∷ rest else first ∷ put_variable new rest) number
    by_order true among more = among
    by_order false (inl is) more = inr (more (inl is))
    by_order false (inr (inl is)) more = inl is
    by_order false (inr (inr there)) more = inr (more (inr there))

put-back : (new : ℕ) (variables : List ℕ) (number : ℕ) → Among (put_variable new variables) number → (new ≡ number) ⊎ Among variables number
put-back new [] number among = among
put-back new (first ∷ rest) number among = by_order (nat_lt new first) among (put-back new rest number)
  where
    swapped : (first ≡ number) ⊎ Among (put_variable new rest) number → (Among (put_variable new rest) number → (new ≡ number) ⊎ Among rest number) →
        (new ≡ number) ⊎ ((first ≡ number) ⊎ Among rest number)
    swapped (inl is) more = inr (inl is)
    swapped (inr among) more = elim (more among) [ inl is ↦ inl is | inr there ↦ inr (inr there) ]

    by_order : (less : Bool) → Among (if less then new ∷ first ∷ rest else first ∷ put_variable new rest) number →
        (Among (put_variable new rest) number → (new ≡ number) ⊎ Among rest number) →
        (new ≡ number) ⊎ ((first ≡ number) ⊎ Among rest number)
    by_order true among more = among
    by_order false among more = swapped among more

put-ascends : (new : ℕ) (variables : List ℕ) → ascend variables ≡ true → (Among variables new → ⊥) → ascend (put_variable new variables) ≡ true
put-ascends new [] is fresh = refl
put-ascends new (first ∷ rest) is fresh =
    let parts = ascend-parts first rest is in
    by_order (cases_lt new first) (put-ascends new rest parts.0 (λ among. fresh (inr among))) parts.1
  where
    later : ascend (put_variable new rest) ≡ true → ((other : ℕ) → Among rest other → first < other) → first ≤ new → (first ≡ new → ⊥) →
        ascend (first ∷ put_variable new rest) ≡ true
    later is' greater above differs = ascend-from first (put_variable new rest) is' (λ other among. by_place other (put-back new rest other among))
      where
        by_place : (other : ℕ) → (new ≡ other) ⊎ Among rest other → first < other
        by_place other (inl is) = elim (cases_order first new) [ inl same ↦ absurd (differs same) | inr more ↦ (elim more [ inl less ↦ omega arith | inr greater ↦ absurd (omega arith) ]) ]
        by_place other (inr among) = greater other among

    by_order : (new < first) ⊎ (first ≤ new) → ascend (put_variable new rest) ≡ true → ((other : ℕ) → Among rest other → first < other) →
        ascend (if nat_lt new first then new ∷ first ∷ rest else first ∷ put_variable new rest) ≡ true
    by_order (inl less) is' greater = rw (lt-ltb new first less) (and_from (nat_lt new first) (ascend (first ∷ rest)) (lt-ltb new first less) is)
    by_order (inr above) is' greater = rw (le-ltb new first above) (later is' greater above (λ same. fresh (inl same)))

-- numbers that are put into a list one after the other
pub with-there : (new variables : List ℕ) (number : ℕ) → Among new number ⊎ Among variables number → Among (with_variables new variables) number
with-there [] variables number (inl among) = absurd among
with-there [] variables number (inr among) = among
with-there (first ∷ rest) variables number (inl (inl is)) = with-there rest (put_variable first variables) number (inr (put-there first variables number (inl is)))
with-there (first ∷ rest) variables number (inl (inr among)) = with-there rest (put_variable first variables) number (inl among)
with-there (first ∷ rest) variables number (inr among) = with-there rest (put_variable first variables) number (inr (put-there first variables number (inr among)))

pub with-back : (new variables : List ℕ) (number : ℕ) → Among (with_variables new variables) number → Among new number ⊎ Among variables number
with-back [] variables number among = inr among
with-back (first ∷ rest) variables number among = by_place (with-back rest (put_variable first variables) number among)
  where
    by_first : (first ≡ number) ⊎ Among variables number → ((first ≡ number) ⊎ Among rest number) ⊎ Among variables number
    by_first (inl is) = inl (inl is)
    by_first (inr among) = inr among

    by_place : Among rest number ⊎ Among (put_variable first variables) number → ((first ≡ number) ⊎ Among rest number) ⊎ Among variables number
    by_place (inl among) = inl (inr among)
    by_place (inr among) = by_first (put-back first variables number among)

-- a test that finds no number of a list
not_among : (number : ℕ) (rest : List ℕ) → list_any (nat_eq number) rest ≡ false → Among rest number → ⊥
not_among number [] is among = among
not_among number (first ∷ rest) is among =
    let parts = or_parts (nat_eq number first) (list_any (nat_eq number) rest) is in
    elim among [ inl same ↦ eqb-false number first parts.0 (sym same) | inr there ↦ not_among number rest parts.1 there ]

pub with-ascends : (new variables : List ℕ) → are_distinct new ≡ true → ascend variables ≡ true → ((number : ℕ) → Among new number → Among variables number → ⊥) →
    ascend (with_variables new variables) ≡ true
with-ascends [] variables distinct is fresh = is
with-ascends (first ∷ rest) variables distinct is fresh =
    let parts = and_parts (not (list_any (nat_eq first) rest)) (are_distinct rest) distinct in
    with-ascends rest (put_variable first variables) parts.1 (put-ascends first variables is (fresh first (inl refl)))
    (λ number among there. by_place number among (put-back first variables number there) (not-true _ parts.0))
  where
    by_place : (number : ℕ) → Among rest number → (first ≡ number) ⊎ Among variables number → list_any (nat_eq first) rest ≡ false → ⊥
    by_place number among (inl same) none = not_among first rest none (subst (λ (k : ℕ). Among rest k) (sym same) among)
    by_place number among (inr there) none = fresh number (inr among) there
