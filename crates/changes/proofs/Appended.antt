-- Entries of which one more stands behind the others: its key is how many there were.
use Rattle.std.proofs.Common.{◌≡◌, ◌≢◌, ℕ, zero, suc, ◌+◌, ◌<◌, Bool, true, false, List, [], ◌∷◌, ◌++◌, length, get_or, nat_eq, Option, None, Some, refl, sym, ◌∙◌, ap, subst, eqb-true, eq-eqb, arith}
use Rattle.std.specs.Prelude.{IsSome, slice_get, if◌then◌else◌}
use Rattle.std.specs.List.{AllPairs}
use Rattle.std.proofs.lemmas.Bool.{false≢true}
use Rattle.std.proofs.lemmas.Option.{same_Some, none-some, slice_get_within}
use Rattle.graph.specs.Maps.{found_at}
use Rattle.graph.proofs.Found.{IsSome-holds}

module _ {Entry Item : Type 0} (key : Entry → ℕ) (item : Entry → Item) where
  pub found_before : (entries : List Entry) (last : Entry) (at : ℕ) → IsSome (found_at key item entries at) → found_at key item (entries ++ last ∷ []) at ≡ found_at key item entries at
  found_before [] last at some = absurd (false≢true some)
  found_before (first ∷ rest) last at some = by_key (nat_eq (key first) at) some (λ later. found_before rest last at later)
    where
      by_key : (b : Bool) → IsSome (if b then Some (item first) else found_at key item rest at) → (IsSome (found_at key item rest at) → found_at key item (rest ++ last ∷ []) at ≡ found_at key item rest at) →
          (if b then Some (item first) else found_at key item (rest ++ last ∷ []) at) ≡ (if b then Some (item first) else found_at key item rest at)
      by_key true some later = refl
      by_key false some later = later some

  pub found_last : (entries : List Entry) (last : Entry) (at : ℕ) → found_at key item entries at ≡ None → found_at key item (entries ++ last ∷ []) at ≡ (if nat_eq (key last) at then Some (item last) else None)
  found_last [] last at none = refl
  found_last (first ∷ rest) last at none = by_key (nat_eq (key first) at) none (λ later. found_last rest last at later)
    where
      by_key : (b : Bool) → (if b then Some (item first) else found_at key item rest at) ≡ None → (found_at key item rest at ≡ None → found_at key item (rest ++ last ∷ []) at ≡ (if nat_eq (key last) at then Some (item last) else None)) →
          (if b then Some (item first) else found_at key item (rest ++ last ∷ []) at) ≡ (if nat_eq (key last) at then Some (item last) else None)
      by_key true none later = absurd (none-some (item first) (sym none))
      by_key false none later = later none

  -- each key is the place of its entry
  abbrev pub InPlace : List Entry → Type 0
  InPlace entries = (place : ℕ) (entry : Entry) → slice_get entries place ≡ Some entry → key entry ≡ place

  -- what is found stands somewhere
  pub where_found : (entries : List Entry) (at : ℕ) → IsSome (found_at key item entries at) → (place : ℕ) × (entry : Entry) × (slice_get entries place ≡ Some entry) × (key entry ≡ at)
  where_found [] at some = absurd (false≢true some)
  where_found (first ∷ rest) at some = by_key (nat_eq (key first) at) refl some (λ later. where_found rest at later)
    where
      by_key : (b : Bool) → nat_eq (key first) at ≡ b → IsSome (if b then Some (item first) else found_at key item rest at) →
          (IsSome (found_at key item rest at) → (place : ℕ) × (entry : Entry) × (slice_get rest place ≡ Some entry) × (key entry ≡ at)) →
          (place : ℕ) × (entry : Entry) × (slice_get (first ∷ rest) place ≡ Some entry) × (key entry ≡ at)
      by_key true is some later = (0, first, refl, eqb-true _ _ is)
      by_key false is some later = let found = later some in (suc found.0, found.1, found.2, found.3)

  pub found_within : (entries : List Entry) → InPlace entries → (at : ℕ) → IsSome (found_at key item entries at) → at < length entries
  found_within entries in_place at some =
      let found = where_found entries at some in
      subst (λ (n : ℕ). n < length entries) (sym (in_place found.0 found.1 found.2) ∙ found.3) (slice_get_within entries found.0 found.1 found.2)

  -- the next key is free
  pub found_next : (entries : List Entry) → InPlace entries → found_at key item entries (length entries) ≡ None
  found_next entries in_place = by_found (found_at key item entries (length entries)) refl
    where
      by_found : (found : Option Item) → found_at key item entries (length entries) ≡ found → found_at key item entries (length entries) ≡ None
      by_found None is = is
      by_found (Some found) is = let within = found_within entries in_place (length entries) (IsSome-holds _ _ is) in absurd (omega arith)

  -- and it is that of the last entry
  pub found_new : (entries : List Entry) (last : Entry) → InPlace entries → key last ≡ length entries → found_at key item (entries ++ last ∷ []) (length entries) ≡ Some (item last)
  found_new entries last in_place is = found_last entries last (length entries) (found_next entries in_place) ∙ ap (λ (b : Bool). if b then Some (item last) else None) (eq-eqb _ _ is)

  pub found_else : (entries : List Entry) (last : Entry) (at : ℕ) → at ≢ key last → found_at key item (entries ++ last ∷ []) at ≡ found_at key item entries at
  found_else entries last at differ = by_found (found_at key item entries at) refl
    where
      miss : (b : Bool) → nat_eq (key last) at ≡ b → (if b then Some (item last) else None) ≡ None
      miss true is = absurd (differ (sym (eqb-true _ _ is)))
      miss false is = refl

      by_found : (found : Option Item) → found_at key item entries at ≡ found → found_at key item (entries ++ last ∷ []) at ≡ found_at key item entries at
      by_found None is = found_last entries last at is ∙ miss (nat_eq (key last) at) refl ∙ sym is
      by_found (Some found) is = found_before entries last at (IsSome-holds _ _ is)

  places_from : (from : ℕ) (entries : List Entry) (last : Entry) → ((place : ℕ) (entry : Entry) → slice_get entries place ≡ Some entry → key entry ≡ from + place) → key last ≡ from + length entries →
      (place : ℕ) (entry : Entry) → slice_get (entries ++ last ∷ []) place ≡ Some entry → key entry ≡ from + place
  places_from from [] last in_place is zero entry stands = ap key (sym (same_Some _ _ stands)) ∙ is
  places_from from [] last in_place is (suc place) entry stands = absurd (none-some entry stands)
  places_from from (first ∷ rest) last in_place is zero entry stands = in_place 0 entry stands
  places_from from (first ∷ rest) last in_place is (suc place) entry stands =
      places_from (suc from) rest last (λ other found there. in_place (suc other) found there ∙ (let e : from + suc other ≡ suc from + other = omega arith in e)) (is ∙ (let e : from + suc (length rest) ≡ suc from + length rest = omega arith in e)) place entry stands
      ∙ (let e : suc from + place ≡ from + suc place = omega arith in e)

  pub in_place_more : (entries : List Entry) (last : Entry) → InPlace entries → key last ≡ length entries → InPlace (entries ++ last ∷ [])
  in_place_more entries last in_place is place entry stands =
      places_from 0 entries last (λ other found there. in_place other found there ∙ (let e : other ≡ 0 + other = omega arith in e)) (is ∙ (let e : length entries ≡ 0 + length entries = omega arith in e)) place entry stands
      ∙ (let e : 0 + place ≡ place = omega arith in e)

  at_place : (entries : List Entry) (place : ℕ) (d : Entry) → place < length entries → slice_get entries place ≡ Some (get_or entries place d)
  at_place [] place d within = absurd (omega arith)
  at_place (first ∷ rest) zero d within = refl
  at_place (first ∷ rest) (suc place) d within = at_place rest place d (omega arith)

  -- so keys ascend
  pub ascending_in_place : (entries : List Entry) → InPlace entries → AllPairs (λ one other. key one < key other) entries
  ascending_in_place entries in_place i j d before within =
      let one = in_place i (get_or entries i d) (at_place entries i d (omega arith)) in
      let other = in_place j (get_or entries j d) (at_place entries j d within) in omega arith
