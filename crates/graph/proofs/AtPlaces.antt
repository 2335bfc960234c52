-- Lists whose items have their places for keys.
use Rattle.std.proofs.Common.{true, false, ◌≡◌, ℕ, zero, suc, ◌+◌, ◌<◌, ◌≤◌, List, [], ◌∷◌, ◌++◌, length, take, refl, ap, sym, ◌∙◌, arith, Some}
use Rattle.std.specs.Prelude.{slice_get, nat_eq}
use Rattle.std.proofs.lemmas.List.{take_more, take_all, length-take}
use Rattle.std.proofs.lemmas.Option.{get_or_from_slice_get, slice_get_within}
use Rattle.std.proofs.lemmas.Bool.{eq-eqb, ne_eqb}
use Rattle.graph.specs.declared.object.Object.{Object}
use Rattle.graph.specs.declared.value.Value.{Value}
use Rattle.graph.specs.declared.parts.KeyedObject.{KeyedObject}
use Rattle.graph.specs.declared.parts.KeyedValue.{KeyedValue}
use Rattle.graph.specs.Maps.{object_at, value_at}
use Rattle.graph.specs.Renaming.{objects_from, values_from}

-- one item more
pub take_more_get : {T : Type 0} (items : List T) (place : ℕ) (item : T) → slice_get items place ≡ Some item → take place items ++ item ∷ [] ≡ take (place + 1) items
take_more_get items place item is =
    let inside : place < length items = slice_get_within items place item is in
    sym (take_more items place item inside ∙ ap (λ x. take place items ++ x ∷ []) (get_or_from_slice_get items place item item is))

-- all of them
pub take_whole : {T : Type 0} (items : List T) (count : ℕ) → length items ≤ count → take count items ≡ items
take_whole items count all = take_all count items all

pub objects_push : (first : ℕ) (objects : List Object) (object : Object) → objects_from first (objects ++ object ∷ []) ≡ objects_from first objects ++ record { key = first + length objects; object = object } ∷ []
objects_push first [] object =
    let here : first + 0 ≡ first = omega arith in rw here refl
objects_push first (other ∷ objects) object =
    let shift : (first + 1) + length objects ≡ first + suc (length objects) = omega arith in
    ap (λ (t : List KeyedObject). record { key = first; object = other } ∷ t) (objects_push (first + 1) objects object ∙ rw shift refl)

pub values_push : (first : ℕ) (values : List Value) (value : Value) → values_from first (values ++ value ∷ []) ≡ values_from first values ++ record { key = first + length values; value = value } ∷ []
values_push first [] value =
    let here : first + 0 ≡ first = omega arith in rw here refl
values_push first (other ∷ values) value =
    let shift : (first + 1) + length values ≡ first + suc (length values) = omega arith in
    ap (λ (t : List KeyedValue). record { key = first; value = other } ∷ t) (values_push (first + 1) values value ∙ rw shift refl)

-- a loop's step: the item at a place with that place for its key
pub objects_more : (objects : List Object) (place : ℕ) (object : Object) → slice_get objects place ≡ Some object → objects_from 0 (take place objects) ++ record { key = place; object = object } ∷ [] ≡ objects_from 0 (take (place + 1) objects)
objects_more objects place object is =
    let inside : place < length objects = slice_get_within objects place object is in
    let key : 0 + length (take place objects) ≡ place = omega (arith, length-take place objects) in
    sym (ap (objects_from 0) (sym (take_more_get objects place object is)) ∙ objects_push 0 (take place objects) object ∙ rw key refl)

pub values_more : (values : List Value) (place : ℕ) (value : Value) → slice_get values place ≡ Some value → values_from 0 (take place values) ++ record { key = place; value = value } ∷ [] ≡ values_from 0 (take (place + 1) values)
values_more values place value is =
    let inside : place < length values = slice_get_within values place value is in
    let key : 0 + length (take place values) ≡ place = omega (arith, length-take place values) in
    sym (ap (values_from 0) (sym (take_more_get values place value is)) ∙ values_push 0 (take place values) value ∙ rw key refl)

-- the item with a key is the one at that place
object_from : (first : ℕ) (objects : List Object) (place : ℕ) → object_at (objects_from first objects) (first + place) ≡ slice_get objects place
object_from first [] place = refl
object_from first (object ∷ objects) zero =
    let same : nat_eq first (first + 0) ≡ true = eq-eqb first (first + 0) (omega arith) in rw same refl
object_from first (object ∷ objects) (suc place) =
    let other : nat_eq first (first + suc place) ≡ false = ne_eqb first (first + suc place) (λ same. absurd (omega arith)) in
    let shift : first + suc place ≡ (first + 1) + place = omega arith in
    rw other (ap (object_at (objects_from (first + 1) objects)) shift ∙ object_from (first + 1) objects place)

value_from : (first : ℕ) (values : List Value) (place : ℕ) → value_at (values_from first values) (first + place) ≡ slice_get values place
value_from first [] place = refl
value_from first (value ∷ values) zero =
    let same : nat_eq first (first + 0) ≡ true = eq-eqb first (first + 0) (omega arith) in rw same refl
value_from first (value ∷ values) (suc place) =
    let other : nat_eq first (first + suc place) ≡ false = ne_eqb first (first + suc place) (λ same. absurd (omega arith)) in
    let shift : first + suc place ≡ (first + 1) + place = omega arith in
    rw other (ap (value_at (values_from (first + 1) values)) shift ∙ value_from (first + 1) values place)

pub object_at_place : (objects : List Object) (key : ℕ) → object_at (objects_from 0 objects) key ≡ slice_get objects key
object_at_place objects key =
    let same : 0 + key ≡ key = omega arith in ap (object_at (objects_from 0 objects)) (sym same) ∙ object_from 0 objects key

pub value_at_place : (values : List Value) (key : ℕ) → value_at (values_from 0 values) key ≡ slice_get values key
value_at_place values key =
    let same : 0 + key ≡ key = omega arith in ap (value_at (values_from 0 values)) (sym same) ∙ value_from 0 values key

pub length_objects : (from : ℕ) (objects : List Object) → length (objects_from from objects) ≡ length objects
length_objects from [] = refl
length_objects from (object ∷ rest) = ap suc (length_objects (from + 1) rest)

pub length_values : (from : ℕ) (values : List Value) → length (values_from from values) ≡ length values
length_values from [] = refl
length_values from (value ∷ rest) = ap suc (length_values (from + 1) rest)
