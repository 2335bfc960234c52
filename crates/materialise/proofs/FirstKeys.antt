-- What stands at a key where entries stand behind others, and where values have keys that go up.
use Rattle.std.proofs.Common.{◌≡◌, ℕ, zero, suc, ◌+◌, Bool, true, false, List, [], ◌∷◌, ◌++◌, nat_eq, None, Some, refl, sym, ◌∙◌, ap, subst, eqb-true, arith}
use Rattle.std.specs.Prelude.{slice_get, if◌then◌else◌}
use Rattle.std.specs.List.{list_all}
use Rattle.std.proofs.lemmas.Bool.{eq-eqb, ne_eqb}
use Rattle.std.proofs.lemmas.Option.{none-some, same_Some}
use Rattle.graph.specs.declared.object.Object.{Object}
use Rattle.graph.specs.declared.value.Value.{Value}
use Rattle.graph.specs.declared.parts.KeyedObject.{KeyedObject}
use Rattle.graph.specs.Maps.{found_at, object_at, value_at}
use Rattle.graph.specs.Renaming.{values_from}
use Rattle.graph.proofs.Tests.{and_left, and_right}

module _ {Entry Item : Type 0} (key : Entry → ℕ) (item : Entry → Item) where
  pub found_front : (entries others : List Entry) (at : ℕ) (found : Item) → found_at key item entries at ≡ Some found → found_at key item (entries ++ others) at ≡ Some found
  found_front [] others at found is = absurd (none-some found is)
  found_front (first ∷ rest) others at found is = by_key (nat_eq (key first) at) is (λ later. found_front rest others at found later)
    where
      by_key : (b : Bool) → (if b then Some (item first) else found_at key item rest at) ≡ Some found → (found_at key item rest at ≡ Some found → found_at key item (rest ++ others) at ≡ Some found) →
          (if b then Some (item first) else found_at key item (rest ++ others) at) ≡ Some found
      by_key true is later = is
      by_key false is later = later is

  pub found_behind : (entries others : List Entry) (at : ℕ) → found_at key item entries at ≡ None → found_at key item (entries ++ others) at ≡ found_at key item others at
  found_behind [] others at none = refl
  found_behind (first ∷ rest) others at none = by_key (nat_eq (key first) at) none (λ later. found_behind rest others at later)
    where
      by_key : (b : Bool) → (if b then Some (item first) else found_at key item rest at) ≡ None → (found_at key item rest at ≡ None → found_at key item (rest ++ others) at ≡ found_at key item others at) →
          (if b then Some (item first) else found_at key item (rest ++ others) at) ≡ found_at key item others at
      by_key true none later = absurd (none-some (item first) (sym none))
      by_key false none later = later none

-- the value with a key is the one at that place
pub value_from : (first : ℕ) (values : List Value) (place : ℕ) → value_at (values_from first values) (first + place) ≡ slice_get values place
value_from first [] place = refl
value_from first (value ∷ values) zero =
    let same : nat_eq first (first + 0) ≡ true = eq-eqb first (first + 0) (omega arith) in rw same refl
value_from first (value ∷ values) (suc place) =
    let other : nat_eq first (first + suc place) ≡ false = ne_eqb first (first + suc place) (λ same. absurd (omega arith)) in
    let shift : first + suc place ≡ (first + 1) + place = omega arith in
    rw other (ap (value_at (values_from (first + 1) values)) shift ∙ value_from (first + 1) values place)

-- it holds of each value
abbrev pub AllOf : (Value → Type 0) → List Value → Type 0
AllOf P [] = Unit {0}
AllOf P (value ∷ rest) = P value × AllOf P rest

pub all_found : (P : Value → Type 0) (first : ℕ) (values : List Value) (at : ℕ) (value : Value) → AllOf P values → value_at (values_from first values) at ≡ Some value → P value
all_found P first [] at value all is = absurd (none-some value is)
all_found P first (one ∷ rest) at value all is = by_key (nat_eq first at) is (λ later. all_found P (first + 1) rest at value all.1 later)
  where
    by_key : (b : Bool) → (if b then Some one else value_at (values_from (first + 1) rest) at) ≡ Some value → (value_at (values_from (first + 1) rest) at ≡ Some value → P value) → P value
    by_key true is later = subst (λ (v : Value). P v) (same_Some _ _ is) all.0
    by_key false is later = later is

pub all_behind : (P : Value → Type 0) (one other : List Value) → AllOf P one → AllOf P other → AllOf P (one ++ other)
all_behind P [] other all all' = all'
all_behind P (value ∷ rest) other all all' = (all.0, all_behind P rest other all.1 all')

-- what each entry is asked, the one with a key is
pub entry_passes : (test : KeyedObject → Bool) (entries : List KeyedObject) (at : ℕ) (object : Object) → list_all test entries ≡ true → object_at entries at ≡ Some object → test (record { key = at; object = object }) ≡ true
entry_passes test [] at object all is = absurd (none-some object is)
entry_passes test (first ∷ rest) at object all is = by_key (nat_eq first.key at) refl is (λ later. entry_passes test rest at object (and_right (test first) (list_all test rest) all) later)
  where
    by_key : (b : Bool) → nat_eq first.key at ≡ b → (if b then Some first.object else object_at rest at) ≡ Some object → (object_at rest at ≡ Some object → test (record { key = at; object = object }) ≡ true) → test (record { key = at; object = object }) ≡ true
    by_key true hit is later =
        subst (λ (k : ℕ). test (record { key = k; object = object }) ≡ true) (eqb-true _ _ hit)
        (subst (λ (o : Object). test (record { key = first.key; object = o }) ≡ true) (same_Some _ _ is) (and_left (test first) (list_all test rest) all))
    by_key false miss is later = later is
