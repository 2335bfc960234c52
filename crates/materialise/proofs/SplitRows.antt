-- Lists of entries whose keys are their places, with others behind them.
use Rattle.std.proofs.Common.{◌≡◌, ℕ, zero, suc, ◌+◌, ◌≤◌, Bool, true, false, ◌||◌, not, cond, List, [], ◌∷◌, ◌++◌, map, length, nat_eq, Option, None, Some, refl, sym, ◌∙◌, ap, eq-eqb, eqb-true, arith}
use Rattle.std.specs.Prelude.{slice_get, if◌then◌else◌}
use Rattle.std.specs.List.{filter, list_all, list_any}
use Rattle.std.proofs.lemmas.Bool.{false≢true, ne_eqb}
use Rattle.std.proofs.lemmas.Option.{same_Some, none-some}
use Rattle.graph.specs.declared.value.Value.{Value}
use Rattle.graph.specs.declared.parts.KeyedValue.{KeyedValue}
use Rattle.graph.specs.Maps.{found_at, value_at}
use Rattle.graph.specs.Renaming.{place_among, values_from}
use Rattle.graph.proofs.Found.{IsSome-holds, found-here, found-later}
use Rattle.graph.proofs.Tests.{and_left, and_right, and_both}
use Rattle.changes.proofs.Appended.{found_within}

pub get_left : {X : Type 0} (xs ys : List X) (place : ℕ) (x : X) → slice_get xs place ≡ Some x → slice_get (xs ++ ys) place ≡ Some x
get_left [] ys place x is = absurd (none-some x is)
get_left (first ∷ rest) ys zero x is = is
get_left (first ∷ rest) ys (suc place) x is = get_left rest ys place x is

pub get_right : {X : Type 0} (xs ys : List X) (place : ℕ) → slice_get (xs ++ ys) (length xs + place) ≡ slice_get ys place
get_right [] ys place = ap (slice_get ys) (let e : 0 + place ≡ place = omega arith in e)
get_right (first ∷ rest) ys place = ap (slice_get (first ∷ rest ++ ys)) (let e : suc (length rest) + place ≡ suc (length rest + place) = omega arith in e) ∙ get_right rest ys place

-- an item of two lists stands in one of them
pub get_either : {X : Type 0} (P : ℕ → X → Type 0) (xs ys : List X) (from : ℕ) → ((place : ℕ) (x : X) → slice_get xs place ≡ Some x → P (from + place) x) →
    ((place : ℕ) (x : X) → slice_get ys place ≡ Some x → P (from + length xs + place) x) → (place : ℕ) (x : X) → slice_get (xs ++ ys) place ≡ Some x → P (from + place) x
get_either P [] ys from one other place x is = subst_sum (let e : from + 0 + place ≡ from + place = omega arith in e) (other place x is)
  where
    subst_sum : {a b : ℕ} → a ≡ b → P a x → P b x
    subst_sum same has = rw (sym same) has
get_either P (first ∷ rest) ys from one other zero x is = one 0 x is
get_either P (first ∷ rest) ys from one other (suc place) x is =
    move (let e : suc from + place ≡ from + suc place = omega arith in e) x
    (get_either P rest ys (suc from) (λ p y there. move (let e : from + suc p ≡ suc from + p = omega arith in e) y (one (suc p) y there))
    (λ p y there. move (let e : from + suc (length rest) + p ≡ suc from + length rest + p = omega arith in e) y (other p y there)) place x is)
  where
    move : {a b : ℕ} → a ≡ b → (y : _) → P a y → P b y
    move same y has = rw (sym same) has

module _ {Entry Item : Type 0} (key : Entry → ℕ) (item : Entry → Item) where
  pub found_left : (xs ys : List Entry) (at : ℕ) (found : Item) → found_at key item xs at ≡ Some found → found_at key item (xs ++ ys) at ≡ Some found
  found_left [] ys at found is = absurd (none-some found is)
  found_left (first ∷ rest) ys at found is = by_key (nat_eq (key first) at) is (λ later. found_left rest ys at found later)
    where
      by_key : (b : Bool) → (if b then Some (item first) else found_at key item rest at) ≡ Some found → (found_at key item rest at ≡ Some found → found_at key item (rest ++ ys) at ≡ Some found) →
          (if b then Some (item first) else found_at key item (rest ++ ys) at) ≡ Some found
      by_key true is later = is
      by_key false is later = later is

  pub found_right : (xs ys : List Entry) (at : ℕ) → found_at key item xs at ≡ None → found_at key item (xs ++ ys) at ≡ found_at key item ys at
  found_right [] ys at none = refl
  found_right (first ∷ rest) ys at none = by_key (nat_eq (key first) at) none (λ later. found_right rest ys at later)
    where
      by_key : (b : Bool) → (if b then Some (item first) else found_at key item rest at) ≡ None → (found_at key item rest at ≡ None → found_at key item (rest ++ ys) at ≡ found_at key item ys at) →
          (if b then Some (item first) else found_at key item (rest ++ ys) at) ≡ found_at key item ys at
      by_key true none later = absurd (none-some (item first) (sym none))
      by_key false none later = later none

  abbrev pub AreInPlace : List Entry → Type 0
  AreInPlace entries = (place : ℕ) (entry : Entry) → slice_get entries place ≡ Some entry → key entry ≡ place

  -- no entry stands behind all
  pub found_past : (entries : List Entry) → AreInPlace entries → (at : ℕ) → length entries ≤ at → found_at key item entries at ≡ None
  found_past entries in_place at past = by_found (found_at key item entries at) refl
    where
      by_found : (found : Option Item) → found_at key item entries at ≡ found → found_at key item entries at ≡ None
      by_found None is = is
      by_found (Some found) is = let within = found_within key item entries in_place at (IsSome-holds _ _ is) in absurd (omega arith)

  -- the entry at a place is the one with its key
  entry_from : (from : ℕ) (entries : List Entry) → ((place : ℕ) (entry : Entry) → slice_get entries place ≡ Some entry → key entry ≡ from + place) → (place : ℕ) (entry : Entry) → slice_get entries place ≡ Some entry →
      found_at key item entries (from + place) ≡ Some (item entry)
  entry_from from [] in_place place entry is = absurd (none-some entry is)
  entry_from from (first ∷ rest) in_place zero entry is =
      found-here key item first rest (from + 0) (eq-eqb _ _ (in_place 0 first refl)) ∙ ap (λ (e : Entry). Some (item e)) (same_Some _ _ is)
  entry_from from (first ∷ rest) in_place (suc place) entry is =
      found-later key item first rest (from + suc place) (ne_eqb _ _ (λ same. let here = in_place 0 first refl in absurd (omega arith)))
      ∙ ap (found_at key item rest) (let e : from + suc place ≡ suc from + place = omega arith in e)
      ∙ entry_from (suc from) rest (λ p e there. in_place (suc p) e there ∙ (let e : from + suc p ≡ suc from + p = omega arith in e)) place entry is

  pub entry_there : (entries : List Entry) → AreInPlace entries → (place : ℕ) (entry : Entry) → slice_get entries place ≡ Some entry → found_at key item entries (key entry) ≡ Some (item entry)
  entry_there entries in_place place entry is =
      ap (found_at key item entries) (in_place place entry is ∙ (let e : place ≡ 0 + place = omega arith in e))
      ∙ entry_from 0 entries (λ p e there. in_place p e there ∙ (let e : p ≡ 0 + p = omega arith in e)) place entry is

-- Values from a key on.

pub value_from : (first : ℕ) (values : List Value) (place : ℕ) → value_at (values_from first values) (first + place) ≡ slice_get values place
value_from first [] place = refl
value_from first (value ∷ values) zero =
    let same : nat_eq first (first + 0) ≡ true = eq-eqb first (first + 0) (omega arith) in rw same refl
value_from first (value ∷ values) (suc place) =
    let other : nat_eq first (first + suc place) ≡ false = ne_eqb first (first + suc place) (λ same. absurd (omega arith)) in
    let shift : first + suc place ≡ (first + 1) + place = omega arith in
    rw other (ap (value_at (values_from (first + 1) values)) shift ∙ value_from (first + 1) values place)

pub values_from_keys : (from : ℕ) (values : List Value) (place : ℕ) (entry : KeyedValue) → slice_get (values_from from values) place ≡ Some entry → entry.key ≡ from + place
values_from_keys from [] place entry is = absurd (none-some entry is)
values_from_keys from (value ∷ rest) zero entry is = ap (λ (e : KeyedValue). e.key) (sym (same_Some _ _ is)) ∙ (let e : from ≡ from + 0 = omega arith in e)
values_from_keys from (value ∷ rest) (suc place) entry is = values_from_keys (from + 1) rest place entry is ∙ (let e : from + 1 + place ≡ from + suc place = omega arith in e)

pub values_from_all : (test : Value → Bool) (from : ℕ) (values : List Value) → list_all test values ≡ true → list_all (λ (entry : KeyedValue). test entry.value) (values_from from values) ≡ true
values_from_all test from [] all = refl
values_from_all test from (value ∷ rest) all =
    and_both (test value) (list_all (λ (entry : KeyedValue). test entry.value) (values_from (from + 1) rest)) (and_left (test value) (list_all test rest) all)
    (values_from_all test (from + 1) rest (and_right (test value) (list_all test rest) all))

-- Items that are kept.

-- an item that is kept stood somewhere, and has what it is kept for
pub kept_was : {X : Type 0} (p : X → Bool) (xs : List X) (place : ℕ) (x : X) → slice_get (filter p xs) place ≡ Some x → (old : ℕ) × (slice_get xs old ≡ Some x) × (p x ≡ true)
kept_was p [] place x is = absurd (none-some x is)
kept_was p (first ∷ rest) place x is = by_test (p first) refl place is (λ at there. kept_was p rest at x there)
  where
    by_test : (b : Bool) → p first ≡ b → (place : ℕ) → slice_get (if b then first ∷ filter p rest else filter p rest) place ≡ Some x →
        ((at : ℕ) → slice_get (filter p rest) at ≡ Some x → (old : ℕ) × (slice_get rest old ≡ Some x) × (p x ≡ true)) → (old : ℕ) × (slice_get (first ∷ rest) old ≡ Some x) × (p x ≡ true)
    by_test true has zero is later = (0, is, ap p (sym (same_Some _ _ is)) ∙ has)
    by_test true has (suc place) is later = let found = later place is in (suc found.0, found.1, found.2)
    by_test false has place is later = let found = later place is in (suc found.0, found.1, found.2)

-- the place of a key among those of some entries
pub place_there : {Entry : Type 0} (key : Entry → ℕ) (entries : List Entry) (at : ℕ) → list_any (nat_eq at) (map key entries) ≡ true →
    (entry : Entry) × (slice_get entries (place_among (map key entries) at) ≡ Some entry) × (key entry ≡ at)
place_there key [] at any = absurd (false≢true any)
place_there {Entry} key (first ∷ rest) at any = by_key (nat_eq at (key first)) refl any (λ later. place_there key rest at later)
  where
    by_key : (b : Bool) → nat_eq at (key first) ≡ b → (b || list_any (nat_eq at) (map key rest)) ≡ true →
        (list_any (nat_eq at) (map key rest) ≡ true → (entry : Entry) × (slice_get rest (place_among (map key rest) at) ≡ Some entry) × (key entry ≡ at)) →
        (entry : Entry) × (slice_get (first ∷ rest) (cond (not b) (1 + place_among (map key rest) at) 0) ≡ Some entry) × (key entry ≡ at)
    by_key true is any later = (first, refl, sym (eqb-true _ _ is))
    by_key false is any later =
        let found = later any in
        (found.0, ap (slice_get (first ∷ rest)) (let e : 1 + place_among (map key rest) at ≡ suc (place_among (map key rest) at) = omega arith in e) ∙ found.1, found.2)
