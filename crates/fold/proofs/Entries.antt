-- Entries whose keys are their places, one after another.
use Rattle.std.proofs.Common.{◌≡◌, ℕ, zero, suc, ◌+◌, ◌<◌, ◌≤◌, Bool, true, false, ◌||◌, List, [], ◌∷◌, ◌++◌, map, length, drop, set, get_or, nat_eq, Option, None, Some, refl, sym, ◌∙◌, ap, eqb-true, eq-eqb, arith}
use Rattle.std.specs.Prelude.{slice_get, option_map, if◌then◌else◌, Result, Ok, Err, OnOk}
use Rattle.std.specs.List.{list_any, AllPairs}
use Rattle.std.specs.Option.{option_map_or}
use Rattle.std.proofs.lemmas.List.{append_assoc, get_or_read}
use Rattle.std.proofs.lemmas.Option.{same_Some, none-some, slice_get_read, slice_get-get_or}
use Rattle.fold.specs.declared.fold.Fold.{Fold}
use Rattle.graph.specs.declared.object.Object.{Object}
use Rattle.graph.specs.declared.parts.KeyedObject.{KeyedObject}
use Rattle.graph.specs.declared.parts.Parts.{Parts}
use Rattle.graph.specs.Maps.{object_at}
use Rattle.graph.proofs.Found.{IsSome-holds}
use Rattle.changes.specs.Parts.{replaced}
use Rattle.changes.proofs.Appended.{found_within}
use Rattle.changes.proofs.Entries.{replaced_set}
use Rattle.fold.specs.Candidates.{folds_by, folds_in}

abbrev pub AreInPlace : List KeyedObject → Type 0
AreInPlace entries = (place : ℕ) (entry : KeyedObject) → slice_get entries place ≡ Some entry → entry.key ≡ place

-- the entry at a place
pub entry_next : (entries : List KeyedObject) (key : ℕ) → AreInPlace entries → key < length entries →
    (object : Object) × (drop key entries ≡ record { key = key; object = object } ∷ drop (key + 1) entries) × (object_at entries key ≡ Some object)
entry_next entries key in_place within =
    let found = go 0 entries key (λ place entry stands. in_place place entry stands ∙ (let e : place ≡ 0 + place = omega arith in e)) within in (
      found.0,
      found.1 ∙ ap (λ (n : ℕ). record { key = n; object = found.0 } ∷ drop (key + 1) entries) (let e : 0 + key ≡ key = omega arith in e),
      ap (object_at entries) (let e : key ≡ 0 + key = omega arith in e) ∙ found.2,
    )
  where
    go : (from : ℕ) (entries : List KeyedObject) (key : ℕ) → ((place : ℕ) (entry : KeyedObject) → slice_get entries place ≡ Some entry → entry.key ≡ from + place) → key < length entries →
        (object : Object) × (drop key entries ≡ record { key = from + key; object = object } ∷ drop (key + 1) entries) × (object_at entries (from + key) ≡ Some object)
    go from [] key in_place within = absurd (omega arith)
    go from (first ∷ rest) zero in_place within = (
      first.object,
      ap (λ (n : ℕ). record { key = n; object = first.object } ∷ rest) (in_place 0 first refl),
      ap (λ (b : Bool). if b then Some first.object else object_at rest (from + 0)) (eq-eqb first.key (from + 0) (in_place 0 first refl)),
    )
    go from (first ∷ rest) (suc key) in_place within =
        let later = go (suc from) rest key (λ place entry stands. in_place (suc place) entry stands ∙ (let e : from + suc place ≡ suc from + place = omega arith in e)) (omega arith) in (
          later.0,
          later.1 ∙ ap (λ (n : ℕ). record { key = n; object = later.0 } ∷ drop (key + 1) rest) (let e : suc from + key ≡ from + suc key = omega arith in e)
              ∙ ap (λ (n : ℕ). record { key = from + suc key; object = later.0 } ∷ drop n (first ∷ rest)) (let e : suc (key + 1) ≡ suc key + 1 = omega arith in e),
          ap (λ (b : Bool). if b then Some first.object else object_at rest (from + suc key)) (other (nat_eq first.key (from + suc key)) refl)
              ∙ ap (object_at rest) (let e : from + suc key ≡ suc from + key = omega arith in e) ∙ later.2,
        )
      where
        other : (b : Bool) → nat_eq first.key (from + suc key) ≡ b → nat_eq first.key (from + suc key) ≡ false
        other false is = is
        other true is = let k = eqb-true _ _ is in let p = in_place 0 first refl in absurd (omega arith)

pub none_past : (entries : List KeyedObject) (key : ℕ) → length entries ≤ key → drop key entries ≡ []
none_past [] zero over = refl
none_past [] (suc key) over = refl
none_past (first ∷ rest) zero over = absurd (omega arith)
none_past (first ∷ rest) (suc key) over = none_past rest key (omega arith)

-- the next object passes a test, or another one behind it
pub any_next : (test : ℕ → Object → Bool) (entries : List KeyedObject) (key : ℕ) → AreInPlace entries → key < length entries →
    list_any (λ (entry : KeyedObject). test entry.key entry.object) (drop key entries) ≡ (option_map_or (test key) (object_at entries key) false || list_any (λ (entry : KeyedObject). test entry.key entry.object) (drop (key + 1) entries))
any_next test entries key in_place within =
    let found = entry_next entries key in_place within in
    ap (list_any (λ (entry : KeyedObject). test entry.key entry.object)) found.1
    ∙ ap (λ o. option_map_or (test key) o false || list_any (λ (entry : KeyedObject). test entry.key entry.object) (drop (key + 1) entries)) (sym found.2)

pub any_here : (test : ℕ → Object → Bool) (entries : List KeyedObject) (key : ℕ) → AreInPlace entries → key < length entries → (all here : Bool) →
    all ≡ list_any (λ (entry : KeyedObject). test entry.key entry.object) (drop key entries) → here ≡ option_map_or (test key) (object_at entries key) false → here ≡ true → true ≡ all
any_here test entries key in_place within all here is same yes' =
    sym (is ∙ any_next test entries key in_place within ∙ ap (λ (b : Bool). b || list_any (λ (entry : KeyedObject). test entry.key entry.object) (drop (key + 1) entries)) (sym same ∙ yes'))

pub any_there : (test : ℕ → Object → Bool) (entries : List KeyedObject) (key : ℕ) → AreInPlace entries → key < length entries → (all here : Bool) →
    all ≡ list_any (λ (entry : KeyedObject). test entry.key entry.object) (drop key entries) → here ≡ option_map_or (test key) (object_at entries key) false → here ≡ false →
    all ≡ list_any (λ (entry : KeyedObject). test entry.key entry.object) (drop (key + 1) entries)
any_there test entries key in_place within all here is same no' =
    is ∙ any_next test entries key in_place within ∙ ap (λ (b : Bool). b || list_any (λ (entry : KeyedObject). test entry.key entry.object) (drop (key + 1) entries)) (sym same ∙ no')

pub any_done : (test : ℕ → Object → Bool) (entries : List KeyedObject) (key count : ℕ) → count ≡ length entries → count ≤ key → list_any (λ (entry : KeyedObject). test entry.key entry.object) (drop key entries) ≡ false
any_done test entries key count is over = ap (list_any (λ (entry : KeyedObject). test entry.key entry.object)) (none_past entries key (omega arith))

-- the folds of the next object, and those of the others behind it
pub folds_next : (parts : Parts) (key : ℕ) → AreInPlace parts.objects → key < length parts.objects →
    folds_in parts (drop key parts.objects) ≡ option_map_or (λ (object : Object). folds_by parts key object object.shape) (object_at parts.objects key) [] ++ folds_in parts (drop (key + 1) parts.objects)
folds_next parts key in_place within =
    let found = entry_next parts.objects key in_place within in
    ap (folds_in parts) found.1
    ∙ ap (λ o. option_map_or (λ (object : Object). folds_by parts key object object.shape) o [] ++ folds_in parts (drop (key + 1) parts.objects)) (sym found.2)

pub folds_done : (parts : Parts) (key count : ℕ) → count ≡ length parts.objects → count ≤ key → folds_in parts (drop key parts.objects) ≡ []
folds_done parts key count is over = ap (folds_in parts) (none_past parts.objects key (omega arith))

pub folds_step : (parts : Parts) (key : ℕ) → AreInPlace parts.objects → key < length parts.objects → (all kept new : List Fold) → all ≡ kept ++ folds_in parts (drop key parts.objects) →
    new ≡ kept ++ option_map_or (λ (object : Object). folds_by parts key object object.shape) (object_at parts.objects key) [] → all ≡ new ++ folds_in parts (drop (key + 1) parts.objects)
folds_step parts key in_place within all kept new is more =
    is ∙ ap (λ (folds : List Fold). kept ++ folds) (folds_next parts key in_place within)
    ∙ sym (append_assoc kept (option_map_or (λ (object : Object). folds_by parts key object object.shape) (object_at parts.objects key) []) (folds_in parts (drop (key + 1) parts.objects)))
    ∙ ap (λ (folds : List Fold). folds ++ folds_in parts (drop (key + 1) parts.objects)) (sym more)

-- another object is put at the place of a key
pub put_there : (objects : List KeyedObject) (place key : ℕ) (entry : KeyedObject) (new : Object) → AllPairs (λ one other. one.key < other.key) objects → place < length objects → entry ≡ get_or objects place entry →
    option_map (λ (entry : KeyedObject). entry.key) (slice_get objects place) ≡ Some key → set objects place (record { key = entry.key; object = new }) ≡ map (replaced key new) objects
put_there objects place key entry new ascending within is has_key =
    ap (λ (k : ℕ). set objects place (record { key = k; object = new })) key_is
    ∙ replaced_set objects place key new ascending within (λ d. ap (λ (e : KeyedObject). e.key) (sym (get_or_read objects place entry within is d)) ∙ key_is)
  where
    there : slice_get objects place ≡ Some entry
    there = slice_get_read objects (length objects) place entry refl within is

    key_is : entry.key ≡ key
    key_is = same_Some _ _ (sym (ap (option_map (λ (entry : KeyedObject). entry.key)) there) ∙ has_key)

pub key_within : (objects : List KeyedObject) (key : ℕ) (object : Object) → AreInPlace objects → object_at objects key ≡ Some object → key < length objects
key_within objects key object in_place stands = found_within (λ (entry : KeyedObject). entry.key) (λ entry. entry.object) objects in_place key (IsSome-holds _ _ stands)

pub key_there : (objects : List KeyedObject) (key : ℕ) (object : Object) → AreInPlace objects → object_at objects key ≡ Some object → option_map (λ (entry : KeyedObject). entry.key) (slice_get objects key) ≡ Some key
key_there objects key object in_place stands = by_entry (slice_get objects key) refl
  where
    within : key < length objects
    within = key_within objects key object in_place stands

    by_entry : (found : Option KeyedObject) → slice_get objects key ≡ found → option_map (λ (entry : KeyedObject). entry.key) found ≡ Some key
    by_entry None is = absurd (none-some (get_or objects key (record { key = key; object = object })) (sym is ∙ slice_get-get_or objects key (record { key = key; object = object }) within))
    by_entry (Some entry) is = ap Some (in_place key entry is)

pub on_any : {T E P : Type 0} (result : Result T E) → P → OnOk result P
on_any (Ok value) holds = holds
on_any (Err error) holds = tt
