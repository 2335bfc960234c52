-- What stands in a table of names after a write, and in the table that a map of the code shows.
use Rattle.std.proofs.Common.{◌≡◌, ℕ, Bool, true, false, refl, ap, sym, ◌∙◌, List, [], ◌∷◌, map, cond, Option, Some, Vec, Global}
use Rattle.std.specs.Prelude.{if◌then◌else◌}
use Rattle.std.specs.Str.{bytes_eq}
use Rattle.std.proofs.lemmas.Slice.Eq.{bytes_eq-Decides}
use Rattle.std.specs.List.{AllZip, each_same}
use Rattle.std.specs.Map.{lookup}
use Rattle.std.specs.Vec.{vec_len}
use Rattle.indexmap.specs.IndexMap.{insert_entry}
use Rattle.cgrammar.specs.NameTables.{value_in, with_value}

module _ {X A : Type 0} (bytes : X → List ℕ) where
  abbrev pub shown : X × A → List ℕ × A
  shown entry = (bytes entry.0, entry.1)

  pub value-map : (name : List ℕ) (entries : List (X × A)) → lookup (λ x. bytes_eq name (bytes x)) entries ≡ value_in name (map shown entries)
  value-map name [] = refl
  value-map name (entry ∷ entries) = ap (λ (o : Option A). cond (bytes_eq name (bytes entry.0)) (Some entry.1) o) (value-map name entries)

  pub put-map : (copy : X) (value : A) (entries : List (X × A)) → map shown (insert_entry (λ x y. bytes_eq (bytes x) (bytes y)) entries copy value) ≡ with_value (bytes copy) value (map shown entries)
  put-map copy value [] = refl
  put-map copy value (entry ∷ entries) = step (bytes_eq (bytes copy) (bytes entry.0)) (put-map copy value entries)
    where
      step : (test : Bool) → map shown (insert_entry (λ x y. bytes_eq (bytes x) (bytes y)) entries copy value) ≡ with_value (bytes copy) value (map shown entries)
          → map shown (if test then (entry.0, value) ∷ entries else entry ∷ insert_entry (λ x y. bytes_eq (bytes x) (bytes y)) entries copy value)
          ≡ (if test then (bytes entry.0, value) ∷ map shown entries else (bytes entry.0, entry.1) ∷ with_value (bytes copy) value (map shown entries))
      step true rest = refl
      step false rest = ap (λ (table : List (List ℕ × A)). (bytes entry.0, entry.1) ∷ table) rest

-- what is put is the value of its name, and other names keep theirs
pub value-put : {A : Type 0} (other name : List ℕ) (value : A) (table : List (List ℕ × A))
    → value_in other (with_value name value table) ≡ (if bytes_eq other name then Some value else value_in other table)
value-put other name value [] = refl
value-put {A} other name value (entry ∷ others) =
    step (bytes_eq name entry.0) refl (bytes_eq other entry.0) refl (bytes_eq other name) refl (value-put other name value others)
  where
    step : (same : Bool) → bytes_eq name entry.0 ≡ same → (here : Bool) → bytes_eq other entry.0 ≡ here → (asked : Bool) → bytes_eq other name ≡ asked
        → value_in other (with_value name value others) ≡ (if bytes_eq other name then Some value else value_in other others)
        → value_in other (if same then (entry.0, value) ∷ others else entry ∷ with_value name value others) ≡ (if asked then Some value else (if here then Some entry.1 else value_in other others))
    step true is true at true asks rest = ap (λ (b : Bool). if b then Some value else value_in other others) at
    step true is false at false asks rest = ap (λ (b : Bool). if b then Some value else value_in other others) at
    step true is true at false asks rest =
        let same = (bytes_eq-Decides other name).1 ((bytes_eq-Decides other entry.0).0 at ∙ sym ((bytes_eq-Decides name entry.0).0 is)) in cc
    step true is false at true asks rest =
        let same = (bytes_eq-Decides other entry.0).1 ((bytes_eq-Decides other name).0 asks ∙ (bytes_eq-Decides name entry.0).0 is) in cc
    step false is true at true asks rest =
        let same = (bytes_eq-Decides name entry.0).1 (sym ((bytes_eq-Decides other name).0 asks) ∙ (bytes_eq-Decides other entry.0).0 at) in cc
    step false is true at false asks rest = ap (λ (b : Bool). if b then Some entry.1 else value_in other (with_value name value others)) at
    step false is false at true asks rest =
        ap (λ (b : Bool). if b then Some entry.1 else value_in other (with_value name value others)) at ∙ (rest ∙ ap (λ (b : Bool). if b then Some value else value_in other others) asks)
    step false is false at false asks rest =
        ap (λ (b : Bool). if b then Some entry.1 else value_in other (with_value name value others)) at ∙ (rest ∙ ap (λ (b : Bool). if b then Some value else value_in other others) asks)

pub put_same : {A : Type 0} (name : List ℕ) (value : A) (table : List (List ℕ × A)) → value_in name (with_value name value table) ≡ Some value
put_same name value table = value-put name name value table ∙ ap (λ (b : Bool). if b then Some value else value_in name table) ((bytes_eq-Decides name name).1 refl)

pub put_other : {A : Type 0} (name other : List ℕ) (value : A) (table : List (List ℕ × A)) → bytes_eq other name ≡ false
    → value_in other (with_value name value table) ≡ value_in other table
put_other name other value table apart = value-put other name value table ∙ ap (λ (b : Bool). if b then Some value else value_in other table) apart

-- two entries of a map have the same name and the same value
abbrev pub AreCopies : {A : Type 0} → Vec ℕ Global × A → Vec ℕ Global × A → Type 0
AreCopies one other = (AllZip (λ x y. y ≡ x) one.0.items other.0.items × (vec_len other.0 ≡ vec_len one.0)) × (other.1 ≡ one.1)

-- copies of entries show the same
pub copies_same : {A : Type 0} (xs ys : List (Vec ℕ Global × A)) → AllZip AreCopies xs ys
    → map (shown (λ (v : Vec ℕ Global). v.items)) ys ≡ map (shown (λ (v : Vec ℕ Global). v.items)) xs
copies_same [] [] same = refl
copies_same [] (y ∷ ys) same = absurd same
copies_same (x ∷ xs) [] same = absurd same
copies_same {A} (x ∷ xs) (y ∷ ys) same =
    let Entry : Type 0 = List ℕ × A in
    let see : Vec ℕ Global × A → Entry = shown (λ (v : Vec ℕ Global). v.items) in
    let first : see y ≡ see x =
    ap (λ (bytes : List ℕ). let entry : Entry = (bytes, y.1) in entry) (each_same x.0.items y.0.items same.0.0.0)
    ∙ ap (λ (value : A). let entry : Entry = (x.0.items, value) in entry) same.0.1 in
    ap (λ (entry : Entry). entry ∷ map see ys) first ∙ ap (λ (entries : List Entry). see x ∷ entries) (copies_same xs ys same.1)
