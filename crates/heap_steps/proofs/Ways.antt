-- A place is led to just where a way leads to it: as many steps as there are places suffice, since the set of the places to which so many
-- steps lead grows with each step or stands still from there on.
use Rattle.std.proofs.Common.{◌≡◌, ◌≢◌, ℕ, zero, suc, ◌+◌, ◌<◌, ◌≤◌, Bool, true, false, ◌&&◌, ◌||◌, List, nat_eq, ◌⊎◌, inl, inr, refl, sym, ap, ◌∙◌, subst, eq-eqb, arith}
use Rattle.std.specs.Prelude.{IsTrue, ◌↔◌}
use Rattle.std.specs.List.{list_any}
use Rattle.std.proofs.Math.Bool.{and-false, or-false}
use Rattle.std.proofs.lemmas.Bool.{or_left, or_right, or_cases, and_parts, and_from, eqb-true, false≢true}
use Rattle.std.proofs.lemmas.Bool.Decides.{same_from_decides}
use Rattle.std.proofs.lemmas.Map.Views.{list_any-from_Contains, Contains-from_any}
use Rattle.std.proofs.lemmas.Cmp.{nat_eq_equiv}
use Rattle.bytes_core.specs.Marking.{Way, Begin, Onward}
use Rattle.bytes_core.proofs.Sets.{IsWithin, IsSame, size_below, size_below-le, same_or_fewer}
use Rattle.heap_steps.specs.Ways.{some_below, is_led_within, is_led_to}

-- Numbers below a bound.

record PassesBelow (test : ℕ → Bool) (bound : ℕ) : Type 0 where
  place : ℕ
  below : place < bound
  passes : test place ≡ true

some_below_at : (test : ℕ → Bool) (bound place : ℕ) → place < bound → test place ≡ true → some_below bound test ≡ true
some_below_at test zero place below passes = absurd (omega arith)
some_below_at test (suc bound) place below passes = by_test (nat_eq place bound) refl (λ lower. some_below_at test bound place lower passes)
  where
    by_test : (b : Bool) → nat_eq place bound ≡ b → (place < bound → some_below bound test ≡ true) → (test bound || some_below bound test) ≡ true
    by_test true is later = or_left (test bound) (some_below bound test) (subst (λ (n : ℕ). test n ≡ true) (eqb-true place bound is) passes)
    by_test false is later =
        let differ : place ≢ bound = λ same. false≢true (sym is ∙ eq-eqb place bound same) in
        or_right (test bound) (some_below bound test) (later (omega arith))

PassesBelow-some : (test : ℕ → Bool) (bound : ℕ) → some_below bound test ≡ true → PassesBelow test bound
PassesBelow-some test zero some = absurd (false≢true some)
PassesBelow-some test (suc bound) some = by_cases (or_cases (test bound) (some_below bound test) some) (λ later. PassesBelow-some test bound later)
  where
    by_cases : (test bound ≡ true) ⊎ (some_below bound test ≡ true) → (some_below bound test ≡ true → PassesBelow test bound) → PassesBelow test (suc bound)
    by_cases (inl here) before = record { place = bound; below = omega arith; passes = here }
    by_cases (inr later) before = let found = before later in record { place = found.place; below = let b = found.below in omega arith; passes = found.passes }

some_below_none : (test : ℕ → Bool) (bound : ℕ) → ((place : ℕ) → test place ≡ false) → some_below bound test ≡ false
some_below_none test zero fails = refl
some_below_none test (suc bound) fails = rw (fails bound) (some_below_none test bound fails)

module _ (count : ℕ) (first : List ℕ) (next : ℕ → List ℕ) where
  abbrev leads_on : (ℕ → Bool) → ℕ → ℕ → Bool
  leads_on set target from = list_any (nat_eq target) (next from) && set from

  abbrev is_next : (ℕ → Bool) → ℕ → Bool
  is_next set target = list_any (nat_eq target) first || some_below count (leads_on set target)

  -- whether fewer than so many steps lead to the place
  abbrev is_near : ℕ → ℕ → Bool
  is_near zero target = false
  is_near (suc steps) target = is_next (is_near steps) target

  led_within-near : (steps target : ℕ) → is_led_within steps count first next target ≡ is_near (suc steps) target
  unfolding is_led_within
  led_within-near zero target =
      rw (some_below_none (leads_on (λ number. false) target) count (λ from. and-false (list_any (nat_eq target) (next from))))
      (sym (or-false (list_any (nat_eq target) first)))
  led_within-near (suc steps) target =
      let before : is_led_within steps count first next ≡ is_near (suc steps) = λ i number. led_within-near steps number i in
      ap (λ (set : ℕ → Bool). is_next set target) before

  is_next-within : (one other : ℕ → Bool) (target : ℕ) → IsWithin one other count → is_next one target ≡ true → is_next other target ≡ true
  is_next-within one other target within led = by_cases (or_cases (list_any (nat_eq target) first) (some_below count (leads_on one target)) led)
    where
      by_cases : (list_any (nat_eq target) first ≡ true) ⊎ (some_below count (leads_on one target) ≡ true) → is_next other target ≡ true
      by_cases (inl begins) = or_left (list_any (nat_eq target) first) (some_below count (leads_on other target)) begins
      by_cases (inr leads) =
          let found = PassesBelow-some (leads_on one target) count leads in
          let both = and_parts (list_any (nat_eq target) (next found.place)) (one found.place) found.passes in
          or_right (list_any (nat_eq target) first) (some_below count (leads_on other target))
          (some_below_at (leads_on other target) count found.place found.below
          (and_from (list_any (nat_eq target) (next found.place)) (other found.place) both.0 (within.holds found.place found.below both.1)))

  is_next-same : (one other : ℕ → Bool) (target : ℕ) → IsSame one other count → is_next one target ≡ is_next other target
  is_next-same one other target same =
      let there = is_next-within one other target (record { holds = λ number below passes. sym (same.holds number below) ∙ passes }) in
      let back = is_next-within other one target (record { holds = λ number below passes. same.holds number below ∙ passes }) in
      same_from_decides (is_next one target) (is_next other target) (there, back) (λ h. h, λ h. h)

  is_near-grows : (steps : ℕ) → IsWithin (is_near steps) (is_near (suc steps)) count
  is_near-grows zero = record { holds = λ number below near. absurd (false≢true near) }
  is_near-grows (suc steps) = record {
    holds = λ number below near. is_next-within (is_near steps) (is_near (suc steps)) number (is_near-grows steps) near;
  }

  abbrev IsSettled : ℕ → Type 0
  IsSettled steps = IsSame (is_near steps) (is_near (suc steps)) count

  IsSettled-more : (steps : ℕ) → IsSettled steps → IsSettled (suc steps)
  IsSettled-more steps settled = record { holds = λ number below. is_next-same (is_near steps) (is_near (suc steps)) number settled }

  settled_or_grown : (steps : ℕ) → IsSettled steps ⊎ (steps ≤ size_below (is_near steps) count)
  settled_or_grown zero = inr (omega arith)
  settled_or_grown (suc steps) = by_cases (settled_or_grown steps) (same_or_fewer (is_near steps) (is_near (suc steps)) count (is_near-grows steps))
    where
      by_cases : IsSettled steps ⊎ (steps ≤ size_below (is_near steps) count) →
          IsSettled steps ⊎ (size_below (is_near steps) count + 1 ≤ size_below (is_near (suc steps)) count) →
          IsSettled (suc steps) ⊎ (suc steps ≤ size_below (is_near (suc steps)) count)
      by_cases (inl settled) step = inl (IsSettled-more steps settled)
      by_cases (inr grown) (inl settled) = inl (IsSettled-more steps settled)
      by_cases (inr grown) (inr fewer) = inr (omega arith)

  IsSettled-all : IsSettled count
  IsSettled-all = by_cases (settled_or_grown count) (same_or_fewer (is_near count) (is_near (suc count)) count (is_near-grows count))
    where
      by_cases : IsSettled count ⊎ (count ≤ size_below (is_near count) count) →
          IsSettled count ⊎ (size_below (is_near count) count + 1 ≤ size_below (is_near (suc count)) count) → IsSettled count
      by_cases (inl settled) step = settled
      by_cases (inr grown) (inl settled) = settled
      by_cases (inr grown) (inr fewer) = let most = size_below-le (is_near (suc count)) count in absurd (omega arith)

  Way-near : (steps target : ℕ) → is_near steps target ≡ true → Way first next target
  Way-near zero target near = absurd (false≢true near)
  Way-near (suc steps) target near =
      by_cases (or_cases (list_any (nat_eq target) first) (some_below count (leads_on (is_near steps) target)) near) (λ number before. Way-near steps number before)
    where
      by_cases : (list_any (nat_eq target) first ≡ true) ⊎ (some_below count (leads_on (is_near steps) target) ≡ true) →
          ((number : ℕ) → is_near steps number ≡ true → Way first next number) → Way first next target
      by_cases (inl begins) before = Begin target (Contains-from_any eqb-true target first begins)
      by_cases (inr leads) before =
          let found = PassesBelow-some (leads_on (is_near steps) target) count leads in
          let both = and_parts (list_any (nat_eq target) (next found.place)) (is_near steps found.place) found.passes in
          Onward found.place target (before found.place both.1) (Contains-from_any eqb-true target (next found.place) both.0)

  -- where the places that lead on lie below the count
  near_from_Way : ((place : ℕ) → Way first next place → place < count) → (target : ℕ) → Way first next target → is_near (suc count) target ≡ true
  near_from_Way inside target (Begin place contains) =
      or_left (list_any (nat_eq target) first) (some_below count (leads_on (is_near count) target)) (list_any-from_Contains nat_eq_equiv target first contains)
  near_from_Way inside target (Onward from place way contains) =
      let near = is_near (suc count) in
      is_next-same (is_near count) near target IsSettled-all
      ∙ or_right (list_any (nat_eq target) first) (some_below count (leads_on near target))
      (some_below_at (leads_on near target) count from (inside from way)
      (and_from (list_any (nat_eq target) (next from)) (near from) (list_any-from_Contains nat_eq_equiv target (next from) contains) (near_from_Way inside from way)))

  pub led_by_ways : ((place : ℕ) → Way first next place → place < count) → (target : ℕ) → (IsTrue (is_led_to count first next target) ↔ Way first next target)
  led_by_ways inside target =
      let steps = led_within-near count target in (
        λ led. Way-near (suc count) target (sym steps ∙ led),
        λ way. steps ∙ near_from_Way inside target way,
      )
