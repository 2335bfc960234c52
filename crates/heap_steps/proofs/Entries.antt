-- What stands in a list under ascending keys is found at its key.
use Rattle.std.proofs.Common.{◌≡◌, ℕ, zero, suc, ◌<◌, Bool, true, false, List, [], ◌∷◌, map, nat_eq, nat_lt, Some, refl, sym, ap, ◌∙◌, subst, eqb-true, eq-eqb, ltb-true, arith}
use Rattle.std.specs.Prelude.{slice_get}
use Rattle.std.specs.List.{list_all}
use Rattle.std.proofs.lemmas.Option.{same_Some, none-some}
use Rattle.graph.specs.Maps.{found_at}
use Rattle.graph.specs.WellFormed.{are_ascending}
use Rattle.graph.proofs.Found.{found-here, found-later}
use Rattle.graph.proofs.Tests.{and_left, and_right}

-- an item behind the first has a key above
above-first : (first : ℕ) (keys : List ℕ) → list_all (nat_lt first) keys ≡ true → (place key : ℕ) → slice_get keys place ≡ Some key → first < key
above-first first [] all place key is = absurd (none-some key is)
above-first first (next ∷ rest) all zero key is = subst (λ (n : ℕ). first < n) (same_Some next key is) (ltb-true first next (and_left (nat_lt first next) (list_all (nat_lt first) rest) all))
above-first first (next ∷ rest) all (suc place) key is = above-first first rest (and_right (nat_lt first next) (list_all (nat_lt first) rest) all) place key is

module _ {Entry Item : Type 0} (key : Entry → ℕ) (item : Entry → Item) where
  get_key : (entries : List Entry) (place : ℕ) (entry : Entry) → slice_get entries place ≡ Some entry → slice_get (map key entries) place ≡ Some (key entry)
  get_key [] place entry is = absurd (none-some entry is)
  get_key (first ∷ rest) zero entry is = ap Some (ap key (same_Some first entry is))
  get_key (first ∷ rest) (suc place) entry is = get_key rest place entry is

  pub found_entry : (entries : List Entry) → are_ascending (map key entries) ≡ true → (place : ℕ) (entry : Entry) → slice_get entries place ≡ Some entry → found_at key item entries (key entry) ≡ Some (item entry)
  found_entry [] ascend place entry is = absurd (none-some entry is)
  found_entry (first ∷ rest) ascend zero entry is =
      subst (λ (e : Entry). found_at key item (first ∷ rest) (key e) ≡ Some (item e)) (same_Some first entry is) (found-here key item first rest (key first) (eq-eqb (key first) (key first) refl))
  found_entry (first ∷ rest) ascend (suc place) entry is =
      found-later key item first rest (key entry) (missed (nat_eq (key first) (key entry)) refl)
      ∙ found_entry rest (and_right (list_all (nat_lt (key first)) (map key rest)) (are_ascending (map key rest)) ascend) place entry is
    where
      missed : (b : Bool) → nat_eq (key first) (key entry) ≡ b → nat_eq (key first) (key entry) ≡ false
      missed false misses = misses
      missed true hits =
          let above = above-first (key first) (map key rest) (and_left (list_all (nat_lt (key first)) (map key rest)) (are_ascending (map key rest)) ascend) place (key entry) (get_key rest place entry is) in
          let same = eqb-true (key first) (key entry) hits in
          absurd (omega arith)

  -- what is found is an entry
  pub entry_found : (entries : List Entry) (at : ℕ) (found : Item) → found_at key item entries at ≡ Some found → (place : ℕ) × (entry : Entry) × (slice_get entries place ≡ Some entry) × (key entry ≡ at) × (item entry ≡ found)
  entry_found [] at found is = absurd (none-some found is)
  entry_found (first ∷ rest) at found is = by_test (nat_eq (key first) at) refl (λ later. entry_found rest at found later)
    where
      by_test : (b : Bool) → nat_eq (key first) at ≡ b → (found_at key item rest at ≡ Some found → (place : ℕ) × (entry : Entry) × (slice_get rest place ≡ Some entry) × (key entry ≡ at) × (item entry ≡ found)) →
          (place : ℕ) × (entry : Entry) × (slice_get (first ∷ rest) place ≡ Some entry) × (key entry ≡ at) × (item entry ≡ found)
      by_test true hits later = (0, first, refl, eqb-true (key first) at hits, same_Some (item first) found (sym (found-here key item first rest at hits) ∙ is))
      by_test false misses later = let there = later (sym (found-later key item first rest at misses) ∙ is) in (suc there.0, there.1, there.2, there.3, there.4)
