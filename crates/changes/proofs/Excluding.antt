-- Numbers that pairs exclude, one after another; and live objects.
use Rattle.std.proofs.Common.{◌≡◌, ℕ, zero, suc, ◌+◌, ◌<◌, ◌≤◌, Bool, true, false, ◌&&◌, ◌||◌, List, [], ◌∷◌, length, drop, nat_eq, Some, refl, sym, ◌∙◌, ap, subst, eqb-true, eq-eqb, arith}
use Rattle.std.specs.Prelude.{slice_get, if◌then◌else◌}
use Rattle.std.specs.List.{list_any}
use Rattle.std.specs.Option.{option_map_or}
use Rattle.std.proofs.lemmas.Bool.{false≢true}
use Rattle.graph.specs.declared.object.Object.{Object}
use Rattle.graph.specs.declared.parts.KeyedObject.{KeyedObject}
use Rattle.graph.specs.declared.parts.Parts.{Parts}
use Rattle.graph.specs.Maps.{object_at}
use Rattle.graph.proofs.Tests.{and_both}
use Rattle.changes.specs.Reaching.{is_excluded, are_excluded}

-- one that is not excluded
pub one_left : (parts : Parts) (key number bound : ℕ) → number < bound → is_excluded parts key number ≡ false → are_excluded parts key bound ≡ false
unfolding are_excluded
one_left parts key number zero below not_this = absurd (omega arith)
one_left parts key number (suc bound) below not_this = by_last (nat_eq number bound) refl (λ lower. one_left parts key number bound lower not_this)
  where
    first_no : (a b : Bool) → a ≡ false → (a && b) ≡ false
    first_no false b is = refl
    first_no true b is = absurd (false≢true (sym is))

    second_no : (a b : Bool) → b ≡ false → (a && b) ≡ false
    second_no false b is = refl
    second_no true b is = is

    by_last : (b : Bool) → nat_eq number bound ≡ b → (number < bound → are_excluded parts key bound ≡ false) → (is_excluded parts key bound && are_excluded parts key bound) ≡ false
    by_last true is later = first_no (is_excluded parts key bound) (are_excluded parts key bound) (ap (is_excluded parts key) (sym (eqb-true _ _ is)) ∙ not_this)
    by_last false differ later = second_no (is_excluded parts key bound) (are_excluded parts key bound) (later (let apart = differ_from number bound differ in omega arith))
      where
        differ_from : (a b : ℕ) → nat_eq a b ≡ false → a ≡ b → ⊥
        differ_from a b apart same = false≢true (sym apart ∙ eq-eqb a b same)

-- one more that is excluded
pub one_more : (parts : Parts) (key number : ℕ) → are_excluded parts key number ≡ true → is_excluded parts key number ≡ true → are_excluded parts key (number + 1) ≡ true
unfolding are_excluded
one_more parts key number all this = subst (λ (n : ℕ). are_excluded parts key n ≡ true) (let e : suc number ≡ number + 1 = omega arith in e) (and_both (is_excluded parts key number) (are_excluded parts key number) this all)

-- none is below the first one
pub none_yet : (parts : Parts) (key : ℕ) → are_excluded parts key 0 ≡ true
unfolding are_excluded
none_yet parts key = refl

-- all below a bound
pub all_done : (parts : Parts) (key number bound : ℕ) → are_excluded parts key number ≡ true → bound ≤ number → number ≤ bound → are_excluded parts key bound ≡ true
all_done parts key number bound all over most = subst (λ (n : ℕ). are_excluded parts key n ≡ true) (omega arith) all

abbrev lives : KeyedObject → Bool
lives entry = entry.object.live

-- the next object lives, or another one behind it
pub live_next : (entries : List KeyedObject) (key : ℕ) → ((place : ℕ) (entry : KeyedObject) → slice_get entries place ≡ Some entry → entry.key ≡ place) → key < length entries →
    list_any lives (drop key entries) ≡ (option_map_or (λ (object : Object). object.live) (object_at entries key) false || list_any lives (drop (key + 1) entries))
live_next entries key in_place within = go 0 entries key (λ place entry stands. in_place place entry stands ∙ (let e : place ≡ 0 + place = omega arith in e)) within
    ∙ ap (λ (n : ℕ). option_map_or (λ (object : Object). object.live) (object_at entries n) false || list_any lives (drop (key + 1) entries)) (let e : 0 + key ≡ key = omega arith in e)
  where
    go : (from : ℕ) (entries : List KeyedObject) (key : ℕ) → ((place : ℕ) (entry : KeyedObject) → slice_get entries place ≡ Some entry → entry.key ≡ from + place) → key < length entries →
        list_any lives (drop key entries) ≡ (option_map_or (λ (object : Object). object.live) (object_at entries (from + key)) false || list_any lives (drop (key + 1) entries))
    go from [] key in_place within = absurd (omega arith)
    go from (first ∷ rest) zero in_place within =
        ap (λ (b : Bool). option_map_or (λ (object : Object). object.live) (if b then Some first.object else object_at rest (from + 0)) false || list_any lives rest) (sym (eq-eqb first.key (from + 0) (in_place 0 first refl)))
    go from (first ∷ rest) (suc key) in_place within =
        go (suc from) rest key (λ place entry stands. in_place (suc place) entry stands ∙ (let e : from + suc place ≡ suc from + place = omega arith in e)) (omega arith)
        ∙ ap (λ (n : ℕ). option_map_or (λ (object : Object). object.live) (object_at rest n) false || list_any lives (drop (key + 1) rest)) (let e : suc from + key ≡ from + suc key = omega arith in e)
        ∙ ap (λ (b : Bool). option_map_or (λ (object : Object). object.live) (if b then Some first.object else object_at rest (from + suc key)) false || list_any lives (drop (key + 1) rest)) (sym (other (nat_eq first.key (from + suc key)) refl))
        ∙ ap (λ (n : ℕ). option_map_or (λ (object : Object). object.live) (object_at (first ∷ rest) (from + suc key)) false || list_any lives (drop n (first ∷ rest))) (let e : suc (key + 1) ≡ suc key + 1 = omega arith in e)
      where
        other : (b : Bool) → nat_eq first.key (from + suc key) ≡ b → nat_eq first.key (from + suc key) ≡ false
        other false is = is
        other true is = let k = eqb-true _ _ is in let p = in_place 0 first refl in absurd (omega arith)

-- before the first object, and behind the last
pub live_done : (parts : Parts) (key count : ℕ) → count ≡ length parts.objects → count ≤ key → list_any lives (drop key parts.objects) ≡ false
live_done parts key count is over = go parts.objects key (subst (λ (n : ℕ). n ≤ key) is over)
  where
    go : (entries : List KeyedObject) (key : ℕ) → length entries ≤ key → list_any lives (drop key entries) ≡ false
    go [] zero over = refl
    go [] (suc key) over = refl
    go (first ∷ rest) zero over = absurd (omega arith)
    go (first ∷ rest) (suc key) over = go rest key (omega arith)
