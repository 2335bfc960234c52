-- The entry at a place, and another one put there.
use Rattle.std.proofs.Common.{◌≡◌, ℕ, zero, suc, ◌+◌, ◌<◌, ◌≤◌, Bool, true, false, List, [], ◌∷◌, map, length, set, get_or, nat_eq, Option, Some, refl, sym, ◌∙◌, ap, subst, eqb-true, eq-eqb, leb-true, le-leb, arith}
use Rattle.std.specs.Prelude.{IfSome, IsSome, OnOk, Result, Ok, Err, option_map, slice_get, if◌then◌else◌}
use Rattle.std.specs.List.{list_all, AllPairs}
use Rattle.std.proofs.lemmas.Option.{same_Some, slice_get_read}
use Rattle.std.proofs.lemmas.List.{get_or_read}
use Rattle.graph.specs.declared.object.Object.{Object}
use Rattle.graph.specs.declared.parts.KeyedObject.{KeyedObject}
use Rattle.graph.specs.declared.parts.Parts.{Parts}
use Rattle.graph.specs.Maps.{object_at}
use Rattle.graph.specs.WellFormed.{lies_in}
use Rattle.graph.specs.Whole.{IsGraph}
use Rattle.graph.proofs.Found.{Holds-some, IsSome-holds}
use Rattle.graph.proofs.Tests.{list_all-implies}
use Rattle.changes.specs.Parts.{replaced}
use Rattle.changes.specs.Places.{IsRoom}
use Rattle.changes.proofs.Appended.{found_within}
use Rattle.changes.proofs.RangeForm.{fit_now, plane_long}

none_later : (key : ℕ) (object : Object) (rest : List KeyedObject) → ((i : ℕ) (d : KeyedObject) → i < length rest → key < (get_or rest i d).key) → map (replaced key object) rest ≡ rest
none_later key object [] above = refl
none_later key object (first ∷ rest) above =
    ap (λ (o : Object). record { key = first.key; object = o } ∷ map (replaced key object) rest) (ap (λ (b : Bool). if b then object else first.object) (miss (nat_eq first.key key) refl))
    ∙ ap (λ (es : List KeyedObject). first ∷ es) (none_later key object rest (λ i d within. above (suc i) d (omega arith)))
  where
    miss : (b : Bool) → nat_eq first.key key ≡ b → nat_eq first.key key ≡ false
    miss true is = let e = eqb-true _ _ is in let a = above 0 first (omega arith) in absurd (omega arith)
    miss false is = is

pub replaced_set : (objects : List KeyedObject) (place key : ℕ) (object : Object) → AllPairs (λ one other. one.key < other.key) objects → place < length objects → ((d : KeyedObject) → (get_or objects place d).key ≡ key) →
    set objects place (record { key = key; object = object }) ≡ map (replaced key object) objects
replaced_set [] place key object ascending within is = absurd (omega arith)
replaced_set (first ∷ rest) zero key object ascending within is =
    ap (λ (k : ℕ). record { key = k; object = object } ∷ rest) (sym (is first))
    ∙ sym (ap (λ (o : Object). record { key = first.key; object = o } ∷ map (replaced key object) rest) (ap (λ (b : Bool). if b then object else first.object) (eq-eqb _ _ (is first)))
    ∙ ap (λ (es : List KeyedObject). record { key = first.key; object = object } ∷ es) (none_later key object rest (λ i d within'. subst (λ (k : ℕ). k < (get_or rest i d).key) (is first) (ascending 0 (suc i) d (omega arith) (omega arith)))))
replaced_set (first ∷ rest) (suc place) key object ascending within is =
    ap (λ (o : Object). record { key = first.key; object = o } ∷ set rest place (record { key = key; object = object })) (sym (ap (λ (b : Bool). if b then object else first.object) (miss (nat_eq first.key key) refl)))
    ∙ ap (λ (es : List KeyedObject). replaced key object first ∷ es) (replaced_set rest place key object (λ i j d before within'. ascending (suc i) (suc j) d (omega arith) (omega arith)) (omega arith) is)
  where
    miss : (b : Bool) → nat_eq first.key key ≡ b → nat_eq first.key key ≡ false
    miss true same = let e = eqb-true _ _ same in let a = ascending 0 (suc place) first (omega arith) (omega arith) in let k = is first in absurd (omega arith)
    miss false same = same

-- another object, made of the one with the key, is put at its place
pub made_there : (make : Object → Object) (objects : List KeyedObject) (place key : ℕ) (entry : KeyedObject) (new : Object) → AllPairs (λ one other. one.key < other.key) objects → place < length objects →
    entry ≡ get_or objects place entry → option_map (λ (entry : KeyedObject). entry.key) (slice_get objects place) ≡ Some key →
    object_at objects key ≡ option_map (λ (entry : KeyedObject). entry.object) (slice_get objects place) → new ≡ make entry.object →
    IfSome (object_at objects key) (λ object. set objects place (record { key = entry.key; object = new }) ≡ map (replaced key (make object)) objects)
made_there make objects place key entry new ascending within is has_key has_object made =
    subst (λ (o : Option Object). IfSome o (λ object. set objects place (record { key = entry.key; object = new }) ≡ map (replaced key (make object)) objects))
    (sym (has_object ∙ ap (option_map (λ (entry : KeyedObject). entry.object)) there))
    (ap (λ (k : ℕ). set objects place (record { key = k; object = new })) key_is ∙ ap (λ (o : Object). set objects place (record { key = key; object = o })) made
    ∙ replaced_set objects place key (make entry.object) ascending within (λ d. ap (λ (e : KeyedObject). e.key) (sym (get_or_read objects place entry within is d)) ∙ key_is))
  where
    there : slice_get objects place ≡ Some entry
    there = slice_get_read objects (length objects) place entry refl within is

    key_is : entry.key ≡ key
    key_is = same_Some _ _ (sym (ap (option_map (λ (entry : KeyedObject). entry.key)) there) ∙ has_key)

pub ok_follows : {T E P Q : Type 0} (result : Result T E) → (P → Q) → OnOk result P → OnOk result Q
ok_follows (Ok value) follows holds = follows holds
ok_follows (Err error) follows holds = tt

-- what was found in a list that is the same
pub record IsFoundAt (objects : List KeyedObject) (key : ℕ) : Type 0 where
  pub within : key < length objects
  pub has_key : option_map (λ (entry : KeyedObject). entry.key) (slice_get objects key) ≡ Some key
  pub has_object : object_at objects key ≡ option_map (λ (entry : KeyedObject). entry.object) (slice_get objects key)

-- a key is the place of its entry
at_own_place : (objects : List KeyedObject) (from key : ℕ) (object : Object) → ((place : ℕ) (entry : KeyedObject) → slice_get objects place ≡ Some entry → entry.key ≡ from + place) → object_at objects (from + key) ≡ Some object → key < length objects →
    (entry : KeyedObject) × (slice_get objects key ≡ Some entry) × (entry.key ≡ from + key) × (entry.object ≡ object)
at_own_place [] from key object in_place stands within = absurd (omega arith)
at_own_place (first ∷ rest) from zero object in_place stands within =
    let is = in_place 0 first refl in
    (first, refl, is, same_Some _ _ (sym (ap (λ (b : Bool). if b then Some first.object else object_at rest (from + 0)) (eq-eqb _ _ is)) ∙ stands))
at_own_place (first ∷ rest) from (suc key) object in_place stands within =
    let later = at_own_place rest (suc from) key object (λ place entry found. in_place (suc place) entry found ∙ (let e : from + suc place ≡ suc from + place = omega arith in e))
    (ap (object_at rest) (let e : suc from + key ≡ from + suc key = omega arith in e) ∙ sym (ap (λ (b : Bool). if b then Some first.object else object_at rest (from + suc key)) (miss (nat_eq first.key (from + suc key)) refl)) ∙ stands) (omega arith) in
    (later.0, later.1, later.2 ∙ (let e : suc from + key ≡ from + suc key = omega arith in e), later.3)
  where
    miss : (b : Bool) → nat_eq first.key (from + suc key) ≡ b → nat_eq first.key (from + suc key) ≡ false
    miss false is = is
    miss true is = let e = eqb-true _ _ is in let p = in_place 0 first refl in absurd (omega arith)

pub found_there : (parts : Parts) (key : ℕ) (object : Object) (items : List KeyedObject) → IsGraph parts → object_at parts.objects key ≡ Some object → items ≡ parts.objects → IsFoundAt items key
found_there parts key object items graph stands same = subst (λ (xs : List KeyedObject). IsFoundAt xs key) (sym same)
    (let within = found_within (λ (entry : KeyedObject). entry.key) (λ entry. entry.object) parts.objects graph.keys.objects key (IsSome-holds _ _ stands) in
    let there = at_own_place parts.objects 0 key object (λ place entry stands. graph.keys.objects place entry stands ∙ (let e : place ≡ 0 + place = omega arith in e))
    (ap (object_at parts.objects) (let e : 0 + key ≡ key = omega arith in e) ∙ stands) within in
    record {
      within = within;
      has_key = ap (option_map (λ (entry : KeyedObject). entry.key)) there.1 ∙ ap Some (there.2 ∙ (let e : 0 + key ≡ key = omega arith in e));
      has_object = stands ∙ ap Some (sym there.3) ∙ sym (ap (option_map (λ (entry : KeyedObject). entry.object)) there.1);
    })

pub found_in : (parts : Parts) (key : ℕ) (items : List KeyedObject) → IsGraph parts → IsSome (object_at parts.objects key) → items ≡ parts.objects → IsFoundAt items key
found_in parts key items graph some same = let found = Holds-some (object_at parts.objects key) some in found_there parts key found.item items graph found.is same

pub found_at_place : (parts : Parts) (key from count : ℕ) (items : List KeyedObject) → IsGraph parts → IsRoom parts key from count → items ≡ parts.objects → IsFoundAt items key
found_at_place parts key from count items graph room same = found_there parts key room.object items graph room.stands same

pub room_plane : (parts : Parts) (key from count : ℕ) (items : List KeyedObject) → IsGraph parts → IsRoom parts key from count → items ≡ parts.objects → IfSome (object_at items key) (λ object. from + count ≤ length object.plane)
room_plane parts key from count items graph room same =
    subst (λ (xs : List KeyedObject). IfSome (object_at xs key) (λ object. from + count ≤ length object.plane)) (sym same)
    (subst (λ (o : Option Object). IfSome o (λ object. from + count ≤ length object.plane)) (sym room.stands)
    (let long = plane_long parts graph.well_formed key room.object room.stands room.region room.live in let r = room.room in omega arith))

pub room_small : (parts : Parts) (key from count : ℕ) → IsGraph parts → IsRoom parts key from count → from + count ≤ 65536
room_small parts key from count graph room =
    let fit = fit_now parts graph.well_formed key room.object room.stands room.region room.live in
    let small = leb-true _ _ fit.small in let r = room.room in omega arith

pub room_edges : (parts : Parts) (key from count : ℕ) (items : List KeyedObject) → IsGraph parts → IsRoom parts key from count → items ≡ parts.objects → IfSome (object_at items key) (λ object. list_all (lies_in 65536) object.edges ≡ true)
room_edges parts key from count items graph room same =
    subst (λ (xs : List KeyedObject). IfSome (object_at xs key) (λ object. list_all (lies_in 65536) object.edges ≡ true)) (sym same)
    (subst (λ (o : Option Object). IfSome o (λ object. list_all (lies_in 65536) object.edges ≡ true)) (sym room.stands)
    (let fit = fit_now parts graph.well_formed key room.object room.stands room.region room.live in
    let small = leb-true _ _ fit.small in
    list_all-implies (lies_in room.object.size) (lies_in 65536) (λ edge lies. let l = leb-true _ _ lies in le-leb _ _ (omega arith)) room.object.edges fit.inside))
