-- The bounds of names are right for the open scopes after each step.
use Rattle.std.proofs.Common.{◌≡◌, ◌≢◌, ℕ, zero, suc, ◌≤◌, ◌<◌, ◌-◌, ◌⊎◌, inl, inr, Bool, true, false, refl, ap, sym, subst, ◌∙◌, List, [], ◌∷◌, ◌++◌, map, cond, length, take, drop, min, get_or, slice_get, set, Option, None, Some, Result, Ok, Err, OnOk, OnErr, arith, length-append, length-take}
use Rattle.std.specs.Prelude.{if◌then◌else◌}
use Rattle.std.specs.Str.{bytes_eq}
use Rattle.std.proofs.lemmas.Slice.Eq.{bytes_eq-Decides}
use Rattle.std.specs.Map.{set_value}
use Rattle.std.specs.Option.{unwrap_or}
use Rattle.std.proofs.lemmas.List.{get_or_past, get_or_default, get_or-take, get_or-set_same, length-set}
use Rattle.std.specs.Result.{is_err}
use Rattle.cgrammar.specs.NameTables.{value_in, with_value}
use Rattle.cgrammar.specs.Scope.{Names, says_typedef, is_typedef_name, first_answer, found, declared, declared_around, left, entered}
use Rattle.cgrammar.specs.Bounds.{Numbers, or_one, bound_in, restored, IsSilent, IsAbove, AreEarlier, IsBounded, AreBounds, AreEarlierAgain, IsRestored, SameButFirst, Rises, Remembers, Grow}
use Rattle.cgrammar.proofs.NameTables.{shown, value-put, put_same, put_other}
use Rattle.cgrammar.proofs.Scopes.{left_take, left_entered, declared-last, declared-around}

le-or : (a b : ℕ) → (a ≤ b) ⊎ (b < a)
le-or zero b = inl (omega arith)
le-or (suc a) zero = inr (omega arith)
le-or (suc a) (suc b) = elim (le-or a b) [ inl less ↦ inl (omega (arith, less)) | inr more ↦ inr (omega (arith, more)) ]

-- what a name has after others are restored: what it had, or what they give it
restored-cases : (other own : Option ℕ) → (restored other own ≡ own) ⊎ ((number : ℕ) × (other ≡ Some number) × (restored other own ≡ Some number))
restored-cases None own = inl refl
restored-cases (Some other) None = inl refl
restored-cases (Some other) (Some own) = inr (other, refl, refl)

pub restored_name : (others old new : Numbers) (name : List ℕ) → IsRestored others old new
    → (value_in name new ≡ value_in name old) ⊎ ((number : ℕ) × (value_in name others ≡ Some number) × (value_in name new ≡ Some number))
restored_name others old new name is = elim (restored-cases (value_in name others) (value_in name old)) [
  | inl kept ↦ inl (is name ∙ kept)
  | inr given ↦ inr (given.0, given.1, is name ∙ given.2)
]

module _ {X : Type 0} (bytes : X → List ℕ) where
  -- a write to the number of a name that has one
  pub change-map : (name : List ℕ) (number : ℕ) (entries : List (X × ℕ))
      → IsRestored ((name, number) ∷ []) (map (shown bytes) entries) (map (shown bytes) (set_value (λ x. bytes_eq name (bytes x)) entries number))
  change-map name number [] other = step (bytes_eq other name)
    where
      step : (asked : Bool) → None ≡ restored (if asked then Some number else None) None
      step true = refl
      step false = refl
  change-map name number (entry ∷ entries) other =
      step (bytes_eq name (bytes entry.0)) refl (bytes_eq other (bytes entry.0)) refl (bytes_eq other name) refl (change-map name number entries other)
    where
      behind : List (X × ℕ)
      behind = set_value (λ x. bytes_eq name (bytes x)) entries number

      step : (same : Bool) → bytes_eq name (bytes entry.0) ≡ same → (here : Bool) → bytes_eq other (bytes entry.0) ≡ here → (asked : Bool) → bytes_eq other name ≡ asked
          → value_in other (map (shown bytes) behind) ≡ restored (if bytes_eq other name then Some number else None) (value_in other (map (shown bytes) entries))
          → value_in other (map (shown bytes) (cond same ((entry.0, number) ∷ entries) (entry ∷ behind)))
          ≡ restored (if asked then Some number else None) (if here then Some entry.1 else value_in other (map (shown bytes) entries))
      step true is true at true asks rest = ap (λ (b : Bool). if b then Some number else value_in other (map (shown bytes) entries)) at
      step true is false at false asks rest = ap (λ (b : Bool). if b then Some number else value_in other (map (shown bytes) entries)) at
      step true is true at false asks rest =
          let same = (bytes_eq-Decides other name).1 ((bytes_eq-Decides other (bytes entry.0)).0 at ∙ sym ((bytes_eq-Decides name (bytes entry.0)).0 is)) in cc
      step true is false at true asks rest =
          let same = (bytes_eq-Decides other (bytes entry.0)).1 ((bytes_eq-Decides other name).0 asks ∙ (bytes_eq-Decides name (bytes entry.0)).0 is) in cc
      step false is true at true asks rest =
          let same = (bytes_eq-Decides name (bytes entry.0)).1 (sym ((bytes_eq-Decides other name).0 asks) ∙ (bytes_eq-Decides other (bytes entry.0)).0 at) in cc
      step false is true at false asks rest = ap (λ (b : Bool). if b then Some entry.1 else value_in other (map (shown bytes) behind)) at
      step false is false at asked asks rest =
          ap (λ (b : Bool). if b then Some entry.1 else value_in other (map (shown bytes) behind)) at
          ∙ (rest ∙ ap (λ (b : Bool). restored (if b then Some number else None) (value_in other (map (shown bytes) entries))) asks)

-- an empty entry at the end of a list is what is read behind the end
pub get-entered : {X : Type 0} (lists : List (List X)) (at : ℕ) → get_or (lists ++ [] ∷ []) at [] ≡ get_or lists at []
get-entered [] zero = refl
get-entered [] (suc at) = refl
get-entered (first ∷ others) zero = refl
get-entered (first ∷ others) (suc at) = get-entered others at

-- a scope that was entered declares nothing
pub bounded_entered : (scopes : List Names) (bounds : Numbers) (earlier : List Numbers) → IsBounded scopes bounds earlier → IsBounded (entered scopes) bounds (earlier ++ [] ∷ [])
bounded_entered scopes bounds earlier is = record {
  count = omega (arith, is.count, length-append earlier ([] ∷ []), length-append scopes ([] ∷ []));
  above = λ name at low. ap (value_in name) (get-entered scopes at) ∙ is.above name at low;
  before = λ scope name bound has at low inside.
      ap (value_in name) (get-entered scopes at) ∙ is.before scope name bound (ap (value_in name) (sym (get-entered earlier scope)) ∙ has) at low inside;
}

-- a scope that changes what it says of one name
pub changed-at : (name other : List ℕ) (typedef : Bool) (scopes : List Names) (here at : ℕ) → (bytes_eq other name ≡ false) ⊎ (at ≢ here)
    → value_in other (get_or (set scopes here (with_value name typedef (get_or scopes here []))) at []) ≡ value_in other (get_or scopes at [])
changed-at name other typedef [] here at apart = refl
changed-at name other typedef (names ∷ scopes) zero zero apart = elim apart [ inl away ↦ put_other name other typedef names away | inr away ↦ absurd (away refl) ]
changed-at name other typedef (names ∷ scopes) zero (suc at) apart = refl
changed-at name other typedef (names ∷ scopes) (suc here) zero apart = refl
changed-at name other typedef (names ∷ scopes) (suc here) (suc at) apart =
    changed-at name other typedef scopes here at (elim apart [ inl away ↦ inl away | inr away ↦ inr (λ is. away (ap suc is)) ])

-- what has a number is no empty list behind the end
pub some-within : (name : List ℕ) (number : ℕ) (earlier : List Numbers) (at : ℕ) → value_in name (get_or earlier at []) ≡ Some number → at < length earlier
some-within name number [] at is = cc is
some-within name number (numbers ∷ earlier) zero is = omega arith
some-within name number (numbers ∷ earlier) (suc at) is = omega (arith, some-within name number earlier at is)

-- found from a bound that is high enough
pub found-front : (name : List ℕ) (scopes : List Names) (bound : ℕ) → ((at : ℕ) → bound ≤ at → IsSilent scopes name at) → found name (take bound scopes) ≡ found name scopes
found-front name [] zero silent = refl
found-front name [] (suc bound) silent = refl
found-front name (names ∷ scopes) zero silent =
    let inner : found name (take 0 scopes) ≡ found name scopes = found-front name scopes zero (λ at low. silent (suc at) (omega arith)) in
    let here : value_in name names ≡ None = silent 0 (omega arith) in
    ap (λ (o : Option Bool). first_answer None o) (sym here) ∙ ap (λ (o : Option Bool). first_answer o (value_in name names)) inner
found-front name (names ∷ scopes) (suc bound) silent =
    ap (λ (o : Option Bool). first_answer o (value_in name names)) (found-front name scopes bound (λ at low. silent (suc at) (omega arith)))

-- how many scopes are looked at does not matter, where the bound is among them
pub found_bounded : (name : List ℕ) (scopes : List Names) (bounds : Numbers) (earlier : List Numbers) → IsBounded scopes bounds earlier
    → found name (take (min (bound_in name bounds) (length scopes)) scopes) ≡ found name scopes
found_bounded name scopes bounds earlier is = found-front name scopes (min (bound_in name bounds) (length scopes)) silent
  where
    far : (at : ℕ) → length scopes ≤ at → IsSilent scopes name at
    far at out = ap (value_in name) (get_or_past scopes at [] out)

    silent : (at : ℕ) → min (bound_in name bounds) (length scopes) ≤ at → IsSilent scopes name at
    silent at low = elim (le-or (bound_in name bounds) (length scopes)) [
      | inl less ↦ is.above name at (omega (arith, less, low))
      | inr more ↦ far at (omega (arith, more, low))
    ]

-- bounds that rise stay high enough
pub rise-above : (scopes : List Names) (old new : Numbers) → IsAbove scopes old → Rises old new → IsAbove scopes new
rise-above scopes old new above rises name at low = above name at (omega (arith, rises name, low))

pub bounded_rise : (scopes : List Names) (old new : Numbers) (earlier : List Numbers) → IsBounded scopes old earlier → Rises old new → IsBounded scopes new earlier
bounded_rise scopes old new earlier is rises = record { count = is.count; above = rise-above scopes old new is.above rises; before = is.before }

-- the bound of a name is right for the scopes around any
pub bounded_remember : (scopes : List Names) (bounds : Numbers) (old new : List Numbers) (at : ℕ) (name : List ℕ) (bound : ℕ)
    → IsBounded scopes bounds old → length new ≡ length old → Remembers old at name bound new
    → ((place : ℕ) → bound ≤ place → place < at → IsSilent scopes name place) → IsBounded scopes bounds new
bounded_remember scopes bounds old new at name bound is count remembers silent = record { count = count ∙ is.count; above = is.above; before = before }
  where
    before : AreEarlier scopes new
    before scope other found has place low inside = elim (remembers scope other found has) [
      | inl kept ↦ is.before scope other found kept place low inside
      | inr noted ↦
          let P : List ℕ → Type 0 = λ n. IsSilent scopes n place in
          subst P (sym ((bytes_eq-Decides other name).0 noted.1)) (silent place (omega (arith, noted.2, low)) (omega (arith, noted.0, inside)))
    ]

pub bounded_grow : (scopes : List Names) (bounds : Numbers) (old new : List Numbers) → IsBounded scopes bounds old → length new ≡ length old → Grow old new → IsBounded scopes bounds new
bounded_grow scopes bounds old new is count grow = record { count = count ∙ is.count; above = is.above; before = before }
  where
    before : AreEarlier scopes new
    before scope name number has place low inside =
        let old = grow scope name number has in
        is.before scope name old.0 old.1 place (omega (arith, old.2, low)) inside

-- a name is declared in a scope below its bounds
pub bounded-set : (name : List ℕ) (typedef : Bool) (scopes : List Names) (bounds : Numbers) (earlier : List Numbers) (here : ℕ)
    → IsBounded scopes bounds earlier → suc here ≤ bound_in name bounds
    → ((scope : ℕ) (bound : ℕ) → here < scope → value_in name (get_or earlier scope []) ≡ Some bound → suc here ≤ bound)
    → IsBounded (set scopes here (with_value name typedef (get_or scopes here []))) bounds earlier
bounded-set name typedef scopes bounds earlier here is high higher = record {
  count = is.count ∙ sym (length-set scopes here (with_value name typedef (get_or scopes here [])));
  above = λ other at low. changed-at name other typedef scopes here at (apart-above other at low (bytes_eq other name) refl) ∙ is.above other at low;
  before = λ scope other bound has at low inside.
      changed-at name other typedef scopes here at (apart-before scope other bound has at low inside (bytes_eq other name) refl) ∙ is.before scope other bound has at low inside;
}
  where
    apart-above : (other : List ℕ) (at : ℕ) → bound_in other bounds ≤ at → (same : Bool) → bytes_eq other name ≡ same → (bytes_eq other name ≡ false) ⊎ (at ≢ here)
    apart-above other at low false is = inl is
    apart-above other at low true is =
        let P : List ℕ → Type 0 = λ n. bound_in n bounds ≤ at in
        let under : bound_in name bounds ≤ at = subst P ((bytes_eq-Decides other name).0 is) low in
        inr (λ equal. omega (arith, equal, under, high))

    apart-before : (scope : ℕ) (other : List ℕ) (bound : ℕ) → value_in other (get_or earlier scope []) ≡ Some bound → (at : ℕ) → bound ≤ at → at < scope
        → (same : Bool) → bytes_eq other name ≡ same → (bytes_eq other name ≡ false) ⊎ (at ≢ here)
    apart-before scope other bound has at low inside false is = inl is
    apart-before scope other bound has at low inside true is =
        let P : List ℕ → Type 0 = λ n. value_in n (get_or earlier scope []) ≡ Some bound in
        let has_name : value_in name (get_or earlier scope []) ≡ Some bound = subst P ((bytes_eq-Decides other name).0 is) has in
        inr (λ equal. absurd (omega (arith, equal, low, higher scope bound (omega (arith, equal, inside)) has_name)))

-- after a declaration in the innermost scope
pub bounded_declared : (name : List ℕ) (typedef : Bool) (scopes : List Names) (bounds : Numbers) (earlier : List Numbers) → IsBounded scopes bounds earlier
    → length earlier ≤ bound_in name bounds → IsBounded (declared name typedef scopes) bounds earlier
bounded_declared name typedef [] bounds earlier is high = is
bounded_declared name typedef (first ∷ others) bounds earlier is high =
    let scopes : List Names = first ∷ others in
    let here : ℕ = length others in
    let last : suc here ≡ length scopes = omega arith in
    let many : suc here ≡ length earlier = last ∙ sym is.count in
    let equal : set scopes here (with_value name typedef (get_or scopes here [])) ≡ declared name typedef scopes =
    declared-last name typedef scopes here (get_or scopes here []) last (get_or_default scopes here [] (get_or scopes here []) (omega arith)) in
    let P : List Names → Type 0 = λ s. IsBounded s bounds earlier in
    subst P equal (bounded-set name typedef scopes bounds earlier here is (omega (arith, many, high))
    (λ scope bound inside has. absurd (omega (arith, many, inside, some-within name bound earlier scope has))))

-- after a declaration around the innermost scope
pub bounded_around : (name : List ℕ) (typedef : Bool) (scopes : List Names) (bounds : Numbers) (earlier : List Numbers) → IsBounded scopes bounds earlier
    → length earlier - 1 ≤ bound_in name bounds
    → ((bound : ℕ) → value_in name (get_or earlier (length earlier - 1) []) ≡ Some bound → length earlier - 1 ≤ bound)
    → IsBounded (declared_around name typedef scopes) bounds earlier
bounded_around name typedef [] bounds earlier is high higher = is
bounded_around name typedef (only ∷ []) bounds earlier is high higher = is
bounded_around name typedef (first ∷ (second ∷ others)) bounds earlier is high higher =
    let scopes : List Names = first ∷ (second ∷ others) in
    let here : ℕ = length others in
    let last : suc (suc here) ≡ length scopes = omega arith in
    let many : suc (suc here) ≡ length earlier = last ∙ sym is.count in
    let equal : set scopes here (with_value name typedef (get_or scopes here [])) ≡ declared_around name typedef scopes =
    declared-around name typedef scopes here (get_or scopes here []) last (get_or_default scopes here [] (get_or scopes here []) (omega arith)) in
    let P : List Names → Type 0 = λ s. IsBounded s bounds earlier in
    let Q : (scope : ℕ) (bound : ℕ) → here < scope → value_in name (get_or earlier scope []) ≡ Some bound → suc here ≤ bound =
    λ scope bound inside has.
    let within : scope < length earlier = some-within name bound earlier scope has in
    let inner : scope ≡ length earlier - 1 = omega (arith, many, inside, within) in
    let R : ℕ → Type 0 = λ n. value_in name (get_or earlier n []) ≡ Some bound in
    omega (arith, many, higher bound (subst R inner has)) in
    subst P equal (bounded-set name typedef scopes bounds earlier here is (omega (arith, many, high)) Q)

-- a scope that is left
silent-left : (name : List ℕ) (scopes : List Names) (at : ℕ) → IsSilent scopes name at → IsSilent (left scopes) name at
silent-left name [] at silent = silent
silent-left name (only ∷ []) at silent = refl
silent-left name (outer ∷ (next ∷ inner)) zero silent = silent
silent-left name (outer ∷ (next ∷ inner)) (suc at) silent = silent-left name (next ∷ inner) at silent

silent-last : (name : List ℕ) (scopes : List Names) (at : ℕ) → length scopes ≤ suc at → IsSilent (left scopes) name at
silent-last name [] at out = refl
silent-last name (only ∷ []) at out = refl
silent-last name (outer ∷ (next ∷ inner)) zero out = absurd (omega (arith, out))
silent-last name (outer ∷ (next ∷ inner)) (suc at) out = silent-last name (next ∷ inner) at (omega (arith, out))

length-left : (scopes : List Names) → length (left scopes) ≡ length scopes - 1
length-left [] = refl
length-left (only ∷ []) = omega arith
length-left (outer ∷ (next ∷ inner)) = omega (arith, length-left (next ∷ inner))

some-taken : (name : List ℕ) (number : ℕ) (earlier : List Numbers) (count at : ℕ) → value_in name (get_or (take count earlier) at []) ≡ Some number → value_in name (get_or earlier at []) ≡ Some number
some-taken name number [] zero at is = cc is
some-taken name number [] (suc count) at is = is
some-taken name number (numbers ∷ earlier) zero at is = cc is
some-taken name number (numbers ∷ earlier) (suc count) zero is = is
some-taken name number (numbers ∷ earlier) (suc count) (suc at) is = some-taken name number earlier count at is

pub bounded_left : (scopes : List Names) (old new : Numbers) (earlier : List Numbers) → IsBounded scopes old earlier
    → IsRestored (get_or earlier (length earlier - 1) []) old new → IsBounded (left scopes) new (take (length earlier - 1) earlier)
bounded_left scopes old new earlier is restored = record {
  count = omega (arith, is.count, length-take (length earlier - 1) earlier, length-left scopes);
  above = λ name at low. above name at low (restored_name (get_or earlier (length earlier - 1) []) old new name restored);
  before = λ scope name bound has at low inside.
      silent-left name scopes at (is.before scope name bound (some-taken name bound earlier (length earlier - 1) scope has) at low inside);
}
  where
    above : (name : List ℕ) (at : ℕ) → bound_in name new ≤ at
        → (value_in name new ≡ value_in name old) ⊎ ((number : ℕ) × (value_in name (get_or earlier (length earlier - 1) []) ≡ Some number) × (value_in name new ≡ Some number))
        → IsSilent (left scopes) name at
    above name at low (inl kept) = silent-left name scopes at (is.above name at (omega (arith, ap or_one kept, low)))
    above name at low (inr (number, had, now)) = elim (le-or (length scopes) (suc at)) [
      | inl out ↦ silent-last name scopes at out
      | inr within ↦ silent-left name scopes at (is.before (length earlier - 1) name number had at (omega (arith, ap or_one now, low)) (omega (arith, within, is.count)))
    ]

-- a call that may fail left what it changes new or old
pub settled : {T E X : Type 0} (P : X → Type 0) (result : Result T E) (now new old : X) → OnOk result (now ≡ new) → OnErr result (now ≡ old) → P new → P old → P now
settled P (Ok value) now new old ok err after before = subst P (sym ok) after
settled P (Err error) now new old ok err after before = subst P (sym err) before

-- what a name has once it is put
pub bound_put : (name : List ℕ) (number : ℕ) (numbers : Numbers) → bound_in name (with_value name number numbers) ≡ number
bound_put name number numbers = ap or_one (put_same name number numbers)

rises-put : (name : List ℕ) (number : ℕ) (numbers : Numbers) → bound_in name numbers ≤ number → Rises numbers (with_value name number numbers)
rises-put name number numbers less other = step (bytes_eq other name) refl (value-put other name number numbers)
  where
    step : (same : Bool) → bytes_eq other name ≡ same → value_in other (with_value name number numbers) ≡ (if same then Some number else value_in other numbers)
        → bound_in other numbers ≤ bound_in other (with_value name number numbers)
    step true is put =
        let P : List ℕ → Type 0 = λ n. bound_in n numbers ≤ number in
        omega (arith, ap or_one put, subst P (sym ((bytes_eq-Decides other name).0 is)) less)
    step false is put = omega (arith, ap or_one put)

pub rises_put : {T E : Type 0} (result : Result T E) (name : List ℕ) (number : ℕ) (now old : Numbers) → bound_in name old ≤ number
    → OnOk result (now ≡ with_value name number old) → OnErr result (now ≡ old) → Rises old now
rises_put result name number now old less ok err =
    settled (Rises old) result now (with_value name number old) old ok err (rises-put name number old less) (λ other. omega arith)

remembers-same : (old : List Numbers) (at : ℕ) (name : List ℕ) (bound : ℕ) → Remembers old at name bound old
remembers-same old at name bound scope other found has = inl has

remembers-set : (old : List Numbers) (at : ℕ) (name : List ℕ) (bound : ℕ) → Remembers old at name bound (set old at (with_value name bound (get_or old at [])))
remembers-set [] at name bound scope other found has = inl has
remembers-set (numbers ∷ old) zero name bound zero other found has = step (bytes_eq other name) refl (sym (value-put other name bound numbers) ∙ has)
  where
    step : (same : Bool) → bytes_eq other name ≡ same → (if same then Some bound else value_in other numbers) ≡ Some found
        → (value_in other numbers ≡ Some found) ⊎ ((zero ≡ zero) × (bytes_eq other name ≡ true) × (found ≡ bound))
    step true is put = let equal : found ≡ bound = cc in inr (refl, is, equal)
    step false is put = inl put
remembers-set (numbers ∷ old) zero name bound (suc scope) other found has = inl has
remembers-set (numbers ∷ old) (suc at) name bound zero other found has = inl has
remembers-set (numbers ∷ old) (suc at) name bound (suc scope) other found has =
    elim (remembers-set old at name bound scope other found has) [ inl kept ↦ inl kept | inr new ↦ inr (ap suc new.0, new.1, new.2) ]

set-same : (lists : List Numbers) (at : ℕ) → set lists at (get_or lists at []) ≡ lists
set-same [] at = refl
set-same (first ∷ others) zero = refl
set-same (first ∷ others) (suc at) = ap (λ (l : List Numbers). first ∷ l) (set-same others at)

pub remembers_put : {T E : Type 0} (result : Result T E) (old : List Numbers) (at : ℕ) (name : List ℕ) (bound : ℕ) (now before : Numbers)
    → at < length old → before ≡ get_or old at before → OnOk result (now ≡ with_value name bound before) → OnErr result (now ≡ before)
    → Remembers old at name bound (set old at now)
remembers_put result old at name bound now before inside is ok err =
    let here : get_or old at [] ≡ before = get_or_default old at [] before inside ∙ sym is in
    let P : Numbers → Type 0 = λ numbers. Remembers old at name bound (set old at numbers) in
    let Q : Numbers → Type 0 = λ numbers. P (with_value name bound numbers) in
    let R : List Numbers → Type 0 = λ lists. Remembers old at name bound lists in
    settled P result now (with_value name bound before) before ok err
    (subst Q here (remembers-set old at name bound))
    (subst P here (subst R (sym (set-same old at)) (remembers-same old at name bound)))

pub grow_same : (old : List Numbers) → Grow old old
grow_same old scope name number has = (number, has, omega arith)

grow-set : (old : List Numbers) (at : ℕ) (name : List ℕ) (least before : ℕ) → value_in name (get_or old at []) ≡ Some before → before ≤ least
    → Grow old (set old at (with_value name least (get_or old at [])))
grow-set [] at name least before known less scope other number has = cc
grow-set (numbers ∷ old) zero name least before known less zero other number has = step (bytes_eq other name) refl (sym (value-put other name least numbers) ∙ has)
  where
    step : (same : Bool) → bytes_eq other name ≡ same → (if same then Some least else value_in other numbers) ≡ Some number
        → (earlier : ℕ) × (value_in other numbers ≡ Some earlier) × (earlier ≤ number)
    step true is put =
        let equal : least ≡ number = cc in
        (before, ap (λ (n : List ℕ). value_in n numbers) ((bytes_eq-Decides other name).0 is) ∙ known, omega (arith, equal, less))
    step false is put = (number, put, omega arith)
grow-set (numbers ∷ old) zero name least before known less (suc scope) other number has = (number, has, omega arith)
grow-set (numbers ∷ old) (suc at) name least before known less zero other number has = (number, has, omega arith)
grow-set (numbers ∷ old) (suc at) name least before known less (suc scope) other number has = grow-set old at name least before known less scope other number has

pub grow_put : {T E : Type 0} (result : Result T E) (old : List Numbers) (at : ℕ) (name : List ℕ) (least earlier : ℕ) (now before : Numbers)
    → at < length old → before ≡ get_or old at before → value_in name before ≡ Some earlier → earlier ≤ least
    → OnOk result (now ≡ with_value name least before) → OnErr result (now ≡ before) → Grow old (set old at now)
grow_put result old at name least earlier now before inside is known less ok err =
    let here : get_or old at [] ≡ before = get_or_default old at [] before inside ∙ sym is in
    let P : Numbers → Type 0 = λ numbers. Grow old (set old at numbers) in
    let Q : Numbers → Type 0 = λ numbers. P (with_value name least numbers) in
    let R : List Numbers → Type 0 = λ lists. Grow old lists in
    settled P result now (with_value name least before) before ok err
    (subst Q here (grow-set old at name least earlier (ap (value_in name) here ∙ known) less))
    (subst P here (subst R (sym (set-same old at)) (grow_same old)))

-- a name that is put into the numbers of a scope has there what was put
pub put_at : (old : List Numbers) (at : ℕ) (name : List ℕ) (least : ℕ) (before : Numbers) (number : ℕ) → at < length old
    → value_in name (get_or (set old at (with_value name least before)) at []) ≡ Some number → least ≤ number
put_at old at name least before number inside has =
    let is : get_or (set old at (with_value name least before)) at [] ≡ with_value name least before = get_or-set_same old at (with_value name least before) [] inside in
    omega (arith, bound_put name least before, ap or_one (sym (ap (value_in name) is) ∙ has))

-- a name that has no number gets none
pub change_none : (name : List ℕ) (number : ℕ) (numbers : Numbers) → value_in name numbers ≡ None → IsRestored ((name, number) ∷ []) numbers numbers
change_none name number numbers none other = step (bytes_eq other name) refl
  where
    step : (asked : Bool) → bytes_eq other name ≡ asked → value_in other numbers ≡ restored (if asked then Some number else None) (value_in other numbers)
    step true is =
        let here : value_in other numbers ≡ None = ap (λ (n : List ℕ). value_in n numbers) ((bytes_eq-Decides other name).0 is) ∙ none in
        here ∙ ap (restored (Some number)) (sym here)
    step false is = refl

-- numbers restored by one more step, that of the name in front of the others
pub restored_more : (entry : List ℕ × ℕ) (others old now new : Numbers) → IsRestored others old now → IsRestored (entry ∷ []) now new → IsRestored (entry ∷ others) old new
restored_more entry others old now new before last name =
    last name ∙ (ap (restored (if bytes_eq name entry.0 then Some entry.1 else None)) (before name)
    ∙ step (bytes_eq name entry.0) (value_in name others) (value_in name old))
  where
    step : (here : Bool) (other own : Option ℕ) → restored (if here then Some entry.1 else None) (restored other own) ≡ restored (if here then Some entry.1 else other) own
    step true None None = refl
    step true None (Some own) = refl
    step true (Some other) None = refl
    step true (Some other) (Some own) = refl
    step false other own = refl

-- one turn of a way from the last of the others to the first
pub restored_turn : {X : Type 0} (bytes : X → List ℕ) (others : List (X × ℕ)) (entry : X × ℕ) (count : ℕ) (name : List ℕ) (old now new : Numbers)
    → slice_get others (count - 1) ≡ Some entry → 0 < count → name ≡ bytes entry.0
    → IsRestored (map (shown bytes) (drop count others)) old now → IsRestored ((name, entry.1) ∷ []) now new
    → IsRestored (map (shown bytes) (drop (count - 1) others)) old new
restored_turn {X} bytes others entry count name old now new here some is before last =
    let at : suc (count - 1) ≡ count = omega (arith, some) in
    let row : drop (count - 1) others ≡ entry ∷ drop count others = drop_here others (count - 1) entry here ∙ ap (λ (n : ℕ). entry ∷ drop n others) at in
    let P : List (X × ℕ) → Type 0 = λ row. IsRestored (map (shown bytes) row) old new in
    let Q : List ℕ → Type 0 = λ n. IsRestored ((n, entry.1) ∷ []) now new in
    subst P (sym row) (restored_more (shown bytes entry) (map (shown bytes) (drop count others)) old now new before (subst Q is last))
  where
    same_some : {Y : Type 0} (one other : Y) → Some one ≡ Some other → one ≡ other
    same_some one other is = cc

    drop_here : {Y : Type 0} (row : List Y) (at : ℕ) (first : Y) → slice_get row at ≡ Some first → drop at row ≡ first ∷ drop (suc at) row
    drop_here [] at first is = cc is
    drop_here (one ∷ row) zero first is = ap (λ y. y ∷ row) (same_some one first is)
    drop_here (one ∷ row) (suc at) first is = drop_here row at first is

-- the bound of a name is noted for the innermost scope
pub bounded_noted : (scopes : List Names) (bounds : Numbers) (old new : List Numbers) (at : ℕ) (name : List ℕ) (bound : ℕ) → bound ≡ bound_in name bounds
    → length new ≡ length old → Remembers old at name bound new → IsBounded scopes bounds old → IsBounded scopes bounds new
bounded_noted scopes bounds old new at name bound equal count remembers is =
    bounded_remember scopes bounds old new at name bound is count remembers (λ place low inside. is.above name place (omega (arith, equal, low)))

-- the bound of a name around the scope inner is noted for a scope around it
pub bounded_noted_around : (scopes : List Names) (bounds : Numbers) (old new : List Numbers) (at : ℕ) (name : List ℕ) (inner : ℕ) (numbers : Numbers) (answer : Option ℕ) (other bound : ℕ)
    → at < inner → inner < length old → numbers ≡ get_or old inner numbers → answer ≡ value_in name numbers
    → other ≡ bound_in name bounds → bound ≡ unwrap_or answer other
    → length new ≡ length old → Remembers old at name bound new → IsBounded scopes bounds old → IsBounded scopes bounds new
bounded_noted_around scopes bounds old new at name inner numbers answer other bound around inside here known plain equal count remembers is =
    let read : value_in name (get_or old inner []) ≡ answer = ap (value_in name) (get_or_default old inner [] numbers inside ∙ sym here) ∙ sym known in
    bounded_remember scopes bounds old new at name bound is count remembers (silent answer read equal)
  where
    silent : (answer : Option ℕ) → value_in name (get_or old inner []) ≡ answer → bound ≡ unwrap_or answer other → (place : ℕ) → bound ≤ place → place < at → IsSilent scopes name place
    silent None read equal place low within = is.above name place (omega (arith, equal, plain, low))
    silent (Some before) read equal place low within = is.before inner name before read place (omega (arith, equal, low)) (omega (arith, around, within))

-- what two reads of one scope say of a name
pub same_read : (name : List ℕ) (earlier : List Numbers) (at : ℕ) (first second : Numbers) (answer : Option ℕ) → at < length earlier
    → first ≡ get_or earlier at first → second ≡ get_or earlier at second → answer ≡ value_in name first → value_in name second ≡ answer
same_read name earlier at first second answer inside one two is =
    ap (value_in name) (two ∙ (get_or_default earlier at second first inside ∙ sym one)) ∙ sym is

-- what a failed call says, and what a call says that did not fail
pub on_err_at : {T E P : Type 0} (result : Result T E) → is_err result ≡ true → OnErr result P → P
on_err_at (Ok value) failed says = cc failed
on_err_at (Err error) failed says = says

pub on_ok_at : {T E P : Type 0} (result : Result T E) → is_err result ≡ false → OnOk result P → P
on_ok_at (Ok value) fine says = says
on_ok_at (Err error) fine says = cc fine

pub bounded_equal : (scopes now : List Names) (bounds there : Numbers) (earlier before : List Numbers) → IsBounded scopes bounds earlier
    → now ≡ scopes → there ≡ bounds → before ≡ earlier → IsBounded now there before
bounded_equal scopes now bounds there earlier before is one two three =
    let P : List Names → Type 0 = λ s. IsBounded s there before in
    let Q : Numbers → Type 0 = λ b. IsBounded scopes b before in
    let R : List Numbers → Type 0 = λ e. IsBounded scopes bounds e in
    subst P (sym one) (subst Q (sym two) (subst R (sym three) is))

-- a scope that was entered is taken away again
pub taken_entered : (scopes now popped : List Names) (count : ℕ) → now ≡ entered scopes → count ≡ length now → popped ≡ take (count - 1) now → popped ≡ scopes
taken_entered scopes now popped count is all rest =
    rest ∙ (ap (λ (n : ℕ). take (n - 1) now) all ∙ (left_take now ∙ (ap left is ∙ left_entered scopes)))

-- a look-up from the bound on says what one through all scopes says
pub typedef_bounded : (name : List ℕ) (scopes : List Names) (bounds : Numbers) (earlier : List Numbers) (bound count : ℕ) (answer : Option Bool)
    → IsBounded scopes bounds earlier → bound ≡ bound_in name bounds → count ≡ length scopes
    → answer ≡ found name (take (min bound count) scopes) → unwrap_or answer false ≡ is_typedef_name scopes name
typedef_bounded name scopes bounds earlier bound count answer is high all says =
    told answer ∙ ap says_typedef (says ∙ (ap (λ (n : ℕ). found name (take (min n count) scopes)) high
    ∙ (ap (λ (n : ℕ). found name (take (min (bound_in name bounds) n) scopes)) all ∙ found_bounded name scopes bounds earlier is)))
  where
    told : (answer : Option Bool) → unwrap_or answer false ≡ says_typedef answer
    told None = refl
    told (Some typedef) = refl

-- other bounds stand first
pub bounds_first : (scopes : List Names) (bounds : Numbers) (old new : List Numbers) → IsBounded scopes bounds old → length new ≡ length old → SameButFirst old new → IsBounded scopes bounds new
bounds_first scopes bounds old new is count same = record { count = count ∙ is.count; above = is.above; before = before }
  where
    before : AreEarlier scopes new
    before zero name bound has at low inside = absurd (omega (arith, inside))
    before (suc scope) name bound has at low inside =
        is.before (suc scope) name bound (ap (value_in name) (sym (same (suc scope) (omega arith))) ∙ has) at low inside

pub bounds_none : (scopes : List Names) → length scopes ≤ 1 → AreBounds (left scopes) []
bounds_none scopes few = record {
  count = omega (arith, few, length-left scopes);
  above = λ name at low. silent-last name scopes at (omega (arith, few));
  before = λ scope name bound has at low inside. cc has;
}

-- what stands first where the first is changed
pub first_set : (levels : List Numbers) (numbers : Numbers) → 0 < length levels → get_or (set levels 0 numbers) 0 [] ≡ numbers
first_set levels numbers some = get_or-set_same levels 0 numbers [] some

-- the bounds that stand first stay
pub bounds_stay : (scopes : List Names) (old new : List Numbers) → IsBounded scopes (get_or old 0 []) new → get_or new 0 [] ≡ get_or old 0 [] → AreBounds scopes new
bounds_stay scopes old new is same =
    let P : Numbers → Type 0 = λ bounds. IsBounded scopes bounds new in
    subst P (sym same) is

pub bounds_rise : (scopes : List Names) (old new : List Numbers) → AreBounds scopes old → length new ≡ length old → Rises (get_or old 0 []) (get_or new 0 []) → SameButFirst old new → AreBounds scopes new
bounds_rise scopes old new is count rises same =
    bounds_first scopes (get_or new 0 []) old new (bounded_rise scopes (get_or old 0 []) (get_or new 0 []) old is rises) count same

-- the first of the bounds that are left are those of the scopes before
pub first_taken : (before rest : List Numbers) → 1 < length before → rest ≡ take (length before - 1) before → get_or rest 0 [] ≡ get_or before 0 []
first_taken before rest many taken =
    ap (λ (l : List Numbers). get_or l 0 []) taken ∙ get_or-take (length before - 1) before 0 [] (omega (arith, many))

pub restored_left : (before rest new : List Numbers) (last : Numbers) → last ≡ get_or before (length before - 1) []
    → rest ≡ take (length before - 1) before → IsRestored last (get_or rest 0 []) (get_or new 0 []) → AreEarlierAgain before new
restored_left before rest new last here taken restored many =
    let P : Numbers → Type 0 = λ numbers. IsRestored last numbers (get_or new 0 []) in
    let Q : Numbers → Type 0 = λ numbers. IsRestored numbers (get_or before 0 []) (get_or new 0 []) in
    subst Q here (subst P (first_taken before rest many taken) restored)

pub bounds_left : (scopes : List Names) (before rest new : List Numbers) (last : Numbers) → AreBounds scopes before → last ≡ get_or before (length before - 1) []
    → rest ≡ take (length before - 1) before → length new ≡ length rest → IsRestored last (get_or rest 0 []) (get_or new 0 []) → SameButFirst rest new
    → AreBounds (left scopes) new
bounds_left scopes before rest new last is here taken count restored same = elim (le-or (length before) 1) [
  | inl few ↦ none new few (omega (arith, few, count, ap length taken, length-take (length before - 1) before))
  | inr many ↦ some many
]
  where
    none : (new : List Numbers) → length before ≤ 1 → length new ≡ 0 → AreBounds (left scopes) new
    none [] few empty = bounds_none scopes (omega (arith, is.count, few))
    none (first ∷ others) few empty = absurd (omega (arith, empty))

    some : 1 < length before → AreBounds (left scopes) new
    some many =
        let R : List Numbers → Type 0 = λ l. IsBounded (left scopes) (get_or new 0 []) l in
        bounds_first (left scopes) (get_or new 0 []) rest new
        (subst R (sym taken) (bounded_left scopes (get_or before 0 []) (get_or new 0 []) before is (restored_left before rest new last here taken restored many))) count same

pub raise_put : {T E : Type 0} (result : Result T E) (levels : List Numbers) (name : List ℕ) (least : ℕ) (seen now before : Numbers) → 0 < length levels
    → seen ≡ get_or levels 0 seen → before ≡ get_or levels 0 before → bound_in name seen ≤ least
    → OnOk result (now ≡ with_value name least before) → OnErr result (now ≡ before) → Rises (get_or levels 0 []) (get_or (set levels 0 now) 0 [])
raise_put result levels name least seen now before some one two less ok err =
    let same : before ≡ seen = two ∙ (get_or_default levels 0 before seen some ∙ sym one) in
    let rises : Rises before now = rises_put result name least now before (omega (arith, ap (bound_in name) same, less)) ok err in
    let P : Numbers → Type 0 = λ numbers. Rises numbers (get_or (set levels 0 now) 0 []) in
    let Q : Numbers → Type 0 = λ numbers. Rises before numbers in
    subst P (two ∙ get_or_default levels 0 before [] some) (subst Q (sym (first_set levels now some)) rises)
