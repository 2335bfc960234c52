-- What stands at a key, in a list of entries and in one with other keys.
use Rattle.std.proofs.Common.{◌≡◌, ℕ, Bool, true, false, List, [], ◌∷◌, map, Option, None, Some, refl, sym, ◌∙◌, ap, subst, nat_eq, eq-eqb, eqb-true}
use Rattle.std.specs.Prelude.{IsSome, option_map, if◌then◌else◌}
use Rattle.std.proofs.lemmas.Bool.{false≢true}
use Rattle.std.proofs.lemmas.Option.{same_Some, none-some}
use Rattle.std.specs.List.{list_all}
use Rattle.graph.specs.Maps.{found_at}
use Rattle.graph.specs.Laws.{IsOneToOne}
use Rattle.graph.proofs.Tests.{and_left, and_right}

-- an option that holds something
pub record Holds {Item : Type 0} (option : Option Item) : Type 0 where
  pub item : Item
  pub is : option ≡ Some item

pub Holds-some : {Item : Type 0} (option : Option Item) → IsSome option → Holds option
Holds-some None some = absurd (false≢true some)
Holds-some (Some item) some = record { item = item; is = refl }

pub IsSome-holds : {Item : Type 0} (option : Option Item) (item : Item) → option ≡ Some item → IsSome option
IsSome-holds option item is = subst (λ (o : Option _). IsSome o) (sym is) refl

module _ {Entry Item : Type 0} (key : Entry → ℕ) (item : Entry → Item) where
  -- at a key the first entry with it counts
  pub found-here : (first : Entry) (rest : List Entry) (at : ℕ) → nat_eq (key first) at ≡ true → found_at key item (first ∷ rest) at ≡ Some (item first)
  found-here first rest at same = rw same refl

  pub found-later : (first : Entry) (rest : List Entry) (at : ℕ) → nat_eq (key first) at ≡ false → found_at key item (first ∷ rest) at ≡ found_at key item rest at
  found-later first rest at other = rw other refl

  pub IsSome-later : (first : Entry) (rest : List Entry) (at : ℕ) → IsSome (found_at key item rest at) → IsSome (found_at key item (first ∷ rest) at)
  IsSome-later first rest at some =
      elim (nat_eq (key first) at) as (λ (b : Bool). IsSome (if b then Some (item first) else found_at key item rest at)) [ true ↦ refl | false ↦ some ]

  pub IsOneToOne-rest : (rename : ℕ → ℕ) (first : Entry) (rest : List Entry) → IsOneToOne rename (found_at key item (first ∷ rest)) → IsOneToOne rename (found_at key item rest)
  IsOneToOne-rest rename first rest one_to_one = record {
    same = λ one other one_there other_there equal.
        one_to_one.same one other (IsSome-later first rest one one_there) (IsSome-later first rest other other_there) equal;
  }

  -- what all items are, the one that is found is
  pub found-all : (test : Item → Bool) (entries : List Entry) (at : ℕ) (found : Item) → list_all (λ entry. test (item entry)) entries ≡ true →
      found_at key item entries at ≡ Some found → test found ≡ true
  found-all test [] at found all stands = absurd (none-some found stands)
  found-all test (first ∷ rest) at found all stands =
      by_cases (nat_eq (key first) at) refl (λ in_rest. found-all test rest at found (and_right (test (item first)) (list_all (λ entry. test (item entry)) rest) all) in_rest)
    where
      by_cases : (hit : Bool) → nat_eq (key first) at ≡ hit → (found_at key item rest at ≡ Some found → test found ≡ true) → test found ≡ true
      by_cases true is rest_does =
          let same : item first ≡ found = same_Some _ _ (sym (found-here first rest at is) ∙ stands) in
          subst (λ (i : Item). test i ≡ true) same (and_left (test (item first)) (list_all (λ entry. test (item entry)) rest) all)
      by_cases false is rest_does = rest_does (sym (found-later first rest at is) ∙ stands)

  -- the old key that becomes a new one
  abbrev pub back_in : (ℕ → ℕ) → List Entry → ℕ → ℕ
  back_in rename [] at = 0
  back_in rename (first ∷ rest) at = if nat_eq (rename (key first)) at then key first else back_in rename rest at

  pub back_in-here : (rename : ℕ → ℕ) (first : Entry) (rest : List Entry) (at : ℕ) → nat_eq (rename (key first)) at ≡ true → back_in rename (first ∷ rest) at ≡ key first
  back_in-here rename first rest at same = rw same refl

  pub back_in-later : (rename : ℕ → ℕ) (first : Entry) (rest : List Entry) (at : ℕ) → nat_eq (rename (key first)) at ≡ false → back_in rename (first ∷ rest) at ≡ back_in rename rest at
  back_in-later rename first rest at other = rw other refl

-- entries whose keys and items are changed by functions
module _ {Entry Item Entry' Item' : Type 0} (key : Entry → ℕ) (item : Entry → Item) (key' : Entry' → ℕ) (item' : Entry' → Item')
    (change : Entry → Entry') (rename : ℕ → ℕ) (become : Item → Item')
    (keys : (entry : Entry) → key' (change entry) ≡ rename (key entry)) (items : (entry : Entry) → item' (change entry) ≡ become (item entry)) where
  -- an entry that is found by its old key is found by the new one, if no other old key gets that
  pub found-renamed : (entries : List Entry) (at : ℕ) (found : Item) → IsOneToOne rename (found_at key item entries) →
      found_at key item entries at ≡ Some found → found_at key' item' (map change entries) (rename at) ≡ Some (become found)
  found-renamed [] at found one_to_one stands = absurd (none-some found stands)
  found-renamed (first ∷ rest) at found one_to_one stands =
      by_cases (nat_eq (key first) at) refl (λ later. found-renamed rest at found (IsOneToOne-rest key item rename first rest one_to_one) later)
    where
      here : IsSome (found_at key item (first ∷ rest) (key first))
      here = IsSome-holds _ _ (found-here key item first rest (key first) (eq-eqb (key first) (key first) refl))

      apart : nat_eq (key first) at ≡ false → nat_eq (key' (change first)) (rename at) ≡ true → ⊥
      apart other clash =
          let new : rename (key first) ≡ rename at = sym (keys first) ∙ eqb-true _ _ clash in
          let old : key first ≡ at = one_to_one.same (key first) at here (IsSome-holds _ found stands) new in
          false≢true (sym other ∙ eq-eqb (key first) at old)

      passed : nat_eq (key first) at ≡ false → found_at key' item' (map change rest) (rename at) ≡ Some (become found) →
          (new : Bool) → nat_eq (key' (change first)) (rename at) ≡ new → found_at key' item' (map change (first ∷ rest)) (rename at) ≡ Some (become found)
      passed other in_rest true clash = absurd (apart other clash)
      passed other in_rest false no_clash = found-later key' item' (change first) (map change rest) (rename at) no_clash ∙ in_rest

      by_cases : (old : Bool) → nat_eq (key first) at ≡ old → (found_at key item rest at ≡ Some found → found_at key' item' (map change rest) (rename at) ≡ Some (become found)) →
          found_at key' item' (map change (first ∷ rest)) (rename at) ≡ Some (become found)
      by_cases true is rest_does =
          let equal : rename (key first) ≡ rename at = ap rename (eqb-true (key first) at is) in
          let hit : nat_eq (key' (change first)) (rename at) ≡ true = eq-eqb _ _ (keys first ∙ equal) in
          let old : item first ≡ found = same_Some _ _ (sym (found-here key item first rest at is) ∙ stands) in
          found-here key' item' (change first) (map change rest) (rename at) hit ∙ ap Some (items first ∙ ap become old)
      by_cases false is rest_does =
          passed is (rest_does (sym (found-later key item first rest at is) ∙ stands)) (nat_eq (key' (change first)) (rename at)) refl

  -- what is found by a new key was found by an old one
  pub record WasFound (entries : List Entry) (at : ℕ) (found : Item') : Type 0 where
    pub old_key : ℕ
    pub old : Item
    pub stands : found_at key item entries old_key ≡ Some old
    pub new_key : rename old_key ≡ at
    pub new : become old ≡ found

  pub WasFound-renamed : (entries : List Entry) (at : ℕ) (found : Item') → found_at key' item' (map change entries) at ≡ Some found → WasFound entries at found
  WasFound-renamed [] at found stands = absurd (none-some found stands)
  WasFound-renamed (first ∷ rest) at found stands = by_cases (nat_eq (key' (change first)) at) refl (λ in_rest. WasFound-renamed rest at found in_rest)
    where
      later : WasFound rest at found → nat_eq (key' (change first)) at ≡ false → WasFound (first ∷ rest) at found
      later before other = record {
        old_key = before.old_key;
        old = before.old;
        stands =
            let distinct : nat_eq (key first) before.old_key ≡ false = by_test (nat_eq (key first) before.old_key) refl in
            found-later key item first rest before.old_key distinct ∙ before.stands;
        new_key = before.new_key;
        new = before.new;
      }
        where
          by_test : (equal : Bool) → nat_eq (key first) before.old_key ≡ equal → nat_eq (key first) before.old_key ≡ false
          by_test false is = is
          by_test true is =
              let hit : nat_eq (key' (change first)) at ≡ true = eq-eqb _ _ (keys first ∙ ap rename (eqb-true _ _ is) ∙ before.new_key) in
              absurd (false≢true (sym other ∙ hit))

      by_cases : (hit : Bool) → nat_eq (key' (change first)) at ≡ hit → (found_at key' item' (map change rest) at ≡ Some found → WasFound rest at found) → WasFound (first ∷ rest) at found
      by_cases true is rest_does = record {
        old_key = key first;
        old = item first;
        stands = found-here key item first rest (key first) (eq-eqb (key first) (key first) refl);
        new_key = sym (keys first) ∙ eqb-true _ _ is;
        new = sym (items first) ∙ same_Some _ _ (sym (found-here key' item' (change first) (map change rest) at is) ∙ stands);
      }
      by_cases false is rest_does = later (rest_does (sym (found-later key' item' (change first) (map change rest) at is) ∙ stands)) is

  -- a key that is there is the new one of some old key that is there
  pub back_in-there : (entries : List Entry) (at : ℕ) → IsSome (found_at key' item' (map change entries) at) →
      IsSome (found_at key item entries (back_in key item rename entries at)) × (rename (back_in key item rename entries at) ≡ at)
  back_in-there [] at some = absurd (false≢true some)
  back_in-there (first ∷ rest) at some = by_cases (nat_eq (rename (key first)) at) refl (λ in_rest. back_in-there rest at in_rest)
    where
      here : IsSome (found_at key item (first ∷ rest) (key first))
      here = IsSome-holds _ _ (found-here key item first rest (key first) (eq-eqb (key first) (key first) refl))

      by_cases : (hit : Bool) → nat_eq (rename (key first)) at ≡ hit →
          (IsSome (found_at key' item' (map change rest) at) → IsSome (found_at key item rest (back_in key item rename rest at)) × (rename (back_in key item rename rest at) ≡ at)) →
          IsSome (found_at key item (first ∷ rest) (back_in key item rename (first ∷ rest) at)) × (rename (back_in key item rename (first ∷ rest) at) ≡ at)
      by_cases true is rest_does =
          let old = back_in-here key item rename first rest at is in
          (subst (λ (k : ℕ). IsSome (found_at key item (first ∷ rest) k)) (sym old) here, ap rename old ∙ eqb-true _ _ is)
      by_cases false is rest_does =
          let old = back_in-later key item rename first rest at is in
          let miss : nat_eq (key' (change first)) at ≡ false = ap (λ (k : ℕ). nat_eq k at) (keys first) ∙ is in
          let before = rest_does (subst (λ (o : Option Item'). IsSome o) (found-later key' item' (change first) (map change rest) at miss) some) in
          (subst (λ (k : ℕ). IsSome (found_at key item (first ∷ rest) k)) (sym old) (IsSome-later key item first rest (back_in key item rename rest at) before.0), ap rename old ∙ before.1)

  -- there and back
  pub back_in-same : (entries : List Entry) (at : ℕ) → IsOneToOne rename (found_at key item entries) → IsSome (found_at key item entries at) →
      back_in key item rename entries (rename at) ≡ at
  back_in-same entries at one_to_one some =
      let held = Holds-some (found_at key item entries at) some in
      let there = back_in-there entries (rename at) (IsSome-holds _ _ (found-renamed entries at held.item one_to_one held.is)) in
      one_to_one.same _ at there.0 some there.1

-- entries whose items alone are changed: variables and registers
module _ {Entry Item Entry' Item' : Type 0} (key : Entry → ℕ) (item : Entry → Item) (key' : Entry' → ℕ) (item' : Entry' → Item')
    (change : Entry → Entry') (become : Item → Item')
    (keys : (entry : Entry) → key' (change entry) ≡ key entry) (items : (entry : Entry) → item' (change entry) ≡ become (item entry)) where
  pub found-changed : (entries : List Entry) (at : ℕ) → found_at key' item' (map change entries) at ≡ option_map become (found_at key item entries at)
  found-changed [] at = refl
  found-changed (first ∷ rest) at = by_cases (nat_eq (key first) at) refl (found-changed rest at)
    where
      by_cases : (hit : Bool) → nat_eq (key first) at ≡ hit → found_at key' item' (map change rest) at ≡ option_map become (found_at key item rest at) → found_at key' item' (map change (first ∷ rest)) at ≡ option_map become (found_at key item (first ∷ rest) at)
      by_cases true is in_rest =
          found-here key' item' (change first) (map change rest) at (ap (λ (k : ℕ). nat_eq k at) (keys first) ∙ is)
          ∙ ap Some (items first) ∙ sym (ap (option_map become) (found-here key item first rest at is))
      by_cases false is in_rest =
          found-later key' item' (change first) (map change rest) at (ap (λ (k : ℕ). nat_eq k at) (keys first) ∙ is)
          ∙ in_rest ∙ sym (ap (option_map become) (found-later key item first rest at is))
