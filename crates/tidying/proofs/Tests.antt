-- Tests that pass at one place of a list, and tests of which one passes.
use Rattle.std.proofs.Common.{◌≡◌, ℕ, zero, suc, Bool, true, false, ◌||◌, List, [], ◌∷◌, nat_eq, Some, refl, sym, ◌∙◌, ap, eqb-true, ◌⊎◌, inl, inr}
use Rattle.std.specs.Prelude.{slice_get}
use Rattle.std.specs.List.{list_any}
use Rattle.std.proofs.lemmas.Bool.{false≢true}
use Rattle.std.proofs.lemmas.Option.{none-some, same_Some}
use Rattle.graph.specs.Maps.{found_at}
use Rattle.graph.proofs.Found.{found-here, found-later}

pub or_left : (one other : Bool) → one ≡ true → (one || other) ≡ true
or_left true other is = refl
or_left false other is = absurd (false≢true is)

pub or_right : (one other : Bool) → other ≡ true → (one || other) ≡ true
or_right true other is = refl
or_right false other is = is

pub or_split : (one other : Bool) → (one || other) ≡ true → (one ≡ true) ⊎ (other ≡ true)
or_split true other is = inl refl
or_split false other is = inr is

pub any_at : {X : Type 0} (test : X → Bool) (items : List X) (place : ℕ) (item : X) → slice_get items place ≡ Some item → test item ≡ true → list_any test items ≡ true
any_at test [] place item is passes = absurd (none-some item is)
any_at test (first ∷ rest) zero item is passes = or_left (test first) (list_any test rest) (ap test (same_Some first item is) ∙ passes)
any_at test (first ∷ rest) (suc place) item is passes = or_right (test first) (list_any test rest) (any_at test rest place item is passes)

-- what is found in a list passes a test that all entries with its key and item pass
pub any_found : {Entry Item : Type 0} (key : Entry → ℕ) (item : Entry → Item) (test : Entry → Bool) (entries : List Entry) (at : ℕ) (found : Item) → found_at key item entries at ≡ Some found →
    ((entry : Entry) → key entry ≡ at → item entry ≡ found → test entry ≡ true) → list_any test entries ≡ true
any_found key item test [] at found is passes = absurd (none-some found is)
any_found key item test (first ∷ rest) at found is passes = by_test (nat_eq (key first) at) refl (λ later. any_found key item test rest at found later passes)
  where
    by_test : (hit : Bool) → nat_eq (key first) at ≡ hit → (found_at key item rest at ≡ Some found → list_any test rest ≡ true) → list_any test (first ∷ rest) ≡ true
    by_test true hit rest_does =
        or_left (test first) (list_any test rest) (passes first (eqb-true _ _ hit) (same_Some _ _ (sym (found-here key item first rest at hit) ∙ is)))
    by_test false miss rest_does =
        or_right (test first) (list_any test rest) (rest_does (sym (found-later key item first rest at miss) ∙ is))
