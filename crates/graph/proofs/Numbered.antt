-- Parts whose keys are their places.
use Rattle.std.proofs.Common.{◌≡◌, ℕ, suc, zero, ◌+◌, ◌<◌, ◌≤◌, ◌^◌, Bool, true, false, ◌&&◌, List, [], ◌∷◌, map, length, Option, nat_eq, nat_lt, get_or, refl, sym, ◌∙◌, ap, subst, eqb-true, eq-eqb, ne_eqb, ltb-true, ltb-false, arith}
use Rattle.std.specs.Prelude.{IsSome, ◌↔◌}
use Rattle.std.specs.List.{AllPairs, fold}
use Rattle.std.proofs.lemmas.Bool.{false≢true}
use Rattle.std.proofs.lemmas.List.{length-map, get_or-map}
use Rattle.std.proofs.lemmas.List.Sums.{position_or_len_is, fails_before_first, passes_at_first}
use Rattle.graph.specs.declared.object.Object.{Object}
use Rattle.graph.specs.declared.object.Shape.{Shape}
use Rattle.graph.specs.declared.object.Shape.TheVariants.{Region, Segment}
use Rattle.graph.specs.declared.value.Value.{Value}
use Rattle.graph.specs.declared.parts.KeyedObject.{KeyedObject}
use Rattle.graph.specs.declared.parts.KeyedValue.{KeyedValue}
use Rattle.graph.specs.declared.parts.Parts.{Parts}
use Rattle.graph.specs.declared.contents.Contents.{Contents}
use Rattle.graph.specs.Maps.{found_at}
use Rattle.graph.specs.Renaming.{renamed, renamed_shape, renamed_object, renamed_value, renamed_pair, place_among, object_place, value_place, numbered, objects_from, values_from}
use Rattle.graph.specs.WellFormed.{HasAscendingKeys, IsWellFormed, nodes_of, nodes, is_within_limits}
use Rattle.graph.specs.Whole.{entries_of}
use Rattle.graph.specs.Laws.{IsRenaming, IsOneToOne}
use Rattle.graph.proofs.Found.{found-later}
use Rattle.graph.specs.State.{State}
use Rattle.graph.specs.Meaning.{StandsFor}
use Rattle.graph.proofs.Reformed.{IsWellFormed-renamed}
use Rattle.graph.proofs.Renamed.{renaming_keeps}

-- a place of a key that is there
record Index (keys : List ℕ) (at : ℕ) : Type 0 where
  index : ℕ
  within : index < length keys
  is : get_or keys index 0 ≡ at

index_of : {Entry Item : Type 0} (key : Entry → ℕ) (item : Entry → Item) (entries : List Entry) (at : ℕ) → IsSome (found_at key item entries at) → Index (map key entries) at
index_of key item [] at some = absurd (false≢true some)
index_of {Entry} {Item} key item (first ∷ rest) at some = by_cases (nat_eq (key first) at) refl (λ in_rest. index_of key item rest at in_rest)
  where
    by_cases : (hit : Bool) → nat_eq (key first) at ≡ hit → (IsSome (found_at key item rest at) → Index (map key rest) at) → Index (map key (first ∷ rest)) at
    by_cases true is rest_does = record { index = 0; within = omega arith; is = eqb-true _ _ is }
    by_cases false is rest_does =
        let before = rest_does (subst (λ (o : Option Item). IsSome o) (found-later key item first rest at is) some) in
        record { index = suc before.index; within = let w = before.within in omega arith; is = before.is }

-- the key at the place of a key that is there
key_at_place : (keys : List ℕ) (at : ℕ) → Index keys at → get_or keys (place_among keys at) 0 ≡ at
key_at_place keys at index = sym (eqb-true at (get_or keys (place_among keys at) 0) (passes_at_first (nat_eq at) keys 0 (within (nat_lt (place_among keys at) (length keys)) refl)))
  where
    within : (below : Bool) → nat_lt (place_among keys at) (length keys) ≡ below → place_among keys at < length keys
    within true is = ltb-true _ _ is
    within false is =
        let beyond : length keys ≤ place_among keys at = ltb-false _ _ is in
        let before : index.index < place_among keys at = let w = index.within in omega arith in
        absurd (false≢true (sym (fails_before_first (nat_eq at) keys index.index 0 before) ∙ eq-eqb at (get_or keys index.index 0) (sym index.is)))

places_one_to_one : {Entry Item : Type 0} (key : Entry → ℕ) (item : Entry → Item) (entries : List Entry) → IsOneToOne (place_among (map key entries)) (found_at key item entries)
places_one_to_one key item entries = record {
  same = λ one other one_there other_there equal.
      sym (key_at_place (map key entries) one (index_of key item entries one one_there))
      ∙ ap (λ (place : ℕ). get_or (map key entries) place 0) equal
      ∙ key_at_place (map key entries) other (index_of key item entries other other_there);
}

pub IsRenaming-places : (parts : Parts) → IsRenaming (object_place parts) (value_place parts) parts
IsRenaming-places parts = record {
  objects = places_one_to_one (λ (entry : KeyedObject). entry.key) (λ entry. entry.object) parts.objects;
  values = places_one_to_one (λ (entry : KeyedValue). entry.key) (λ entry. entry.value) parts.values;
}

-- keys that ascend stand at their places
place_is : {Entry : Type 0} (key : Entry → ℕ) (entries : List Entry) → AllPairs (λ one other. key one < key other) entries →
    (index : ℕ) (default : Entry) → index < length entries → place_among (map key entries) (key (get_or entries index default)) ≡ index
place_is key entries ascend index default within =
    let at = key (get_or entries index default) in
    let long : length (map key entries) ≡ length entries = length-map entries key in
    let value : (k : ℕ) → k < length entries → get_or (map key entries) k 0 ≡ key (get_or entries k default) = λ k below. get_or-map key entries k default 0 below in
    position_or_len_is (nat_eq at) (map key entries) index 0 (omega arith)
    (λ k before. let lower : key (get_or entries k default) < at = ascend k index default before within in
    ap (nat_eq at) (value k (omega arith)) ∙ ne_eqb at (key (get_or entries k default)) (omega arith))
    (λ below. ap (nat_eq at) (value index within) ∙ eq-eqb at at refl)

objects_in_places : (place : ℕ → ℕ) (become : Object → Object) (from : ℕ) (entries : List KeyedObject) →
    ((index : ℕ) (default : KeyedObject) → index < length entries → place (get_or entries index default).key ≡ from + index) →
    objects_from from (map (λ (entry : KeyedObject). become entry.object) entries) ≡ map {B = KeyedObject} (λ entry. record { key = place entry.key; object = become entry.object }) entries
objects_in_places place become from [] places = refl
objects_in_places place become from (entry ∷ rest) places =
    let here : from ≡ place entry.key = sym (places 0 entry (omega arith) ∙ omega arith) in
    let others = objects_in_places place become (from + 1) rest (λ index default within. places (suc index) default (omega arith) ∙ omega arith) in
    ap (λ (k : ℕ). (let e : KeyedObject = record { key = k; object = become entry.object } in e) ∷ objects_from (from + 1) (map (λ (entry : KeyedObject). become entry.object) rest)) here
    ∙ ap (λ (es : List KeyedObject). (let e : KeyedObject = record { key = place entry.key; object = become entry.object } in e) ∷ es) others

values_in_places : (place : ℕ → ℕ) (become : Value → Value) (from : ℕ) (entries : List KeyedValue) →
    ((index : ℕ) (default : KeyedValue) → index < length entries → place (get_or entries index default).key ≡ from + index) →
    values_from from (map (λ (entry : KeyedValue). become entry.value) entries) ≡ map {B = KeyedValue} (λ entry. record { key = place entry.key; value = become entry.value }) entries
values_in_places place become from [] places = refl
values_in_places place become from (entry ∷ rest) places =
    let here : from ≡ place entry.key = sym (places 0 entry (omega arith) ∙ omega arith) in
    let others = values_in_places place become (from + 1) rest (λ index default within. places (suc index) default (omega arith) ∙ omega arith) in
    ap (λ (k : ℕ). (let e : KeyedValue = record { key = k; value = become entry.value } in e) ∷ values_from (from + 1) (map (λ (entry : KeyedValue). become entry.value) rest)) here
    ∙ ap (λ (es : List KeyedValue). (let e : KeyedValue = record { key = place entry.key; value = become entry.value } in e) ∷ es) others

-- parts numbered by their places are renamed to them
pub numbered-renamed : (parts : Parts) → HasAscendingKeys parts → numbered parts ≡ renamed (object_place parts) (value_place parts) parts
numbered-renamed parts ascending =
    let objects = objects_in_places (object_place parts) (renamed_object (value_place parts)) 0 parts.objects
    (λ index default within. place_is (λ (entry : KeyedObject). entry.key) parts.objects ascending.objects index default within ∙ omega arith) in
    let values = values_in_places (value_place parts) (renamed_value (object_place parts)) 0 parts.values
    (λ index default within. place_is (λ (entry : KeyedValue). entry.key) parts.values ascending.values index default within ∙ omega arith) in
    ap (λ (os : List KeyedObject). record (numbered parts) { objects = os }) objects
    ∙ ap (λ (vs : List KeyedValue). record (renamed (object_place parts) (value_place parts) parts) { values = vs }) values

pub numbered_well_formed : (parts : Parts) → HasAscendingKeys parts → IsWellFormed parts → IsWellFormed (numbered parts)
numbered_well_formed parts ascending well_formed =
    subst (λ (p : Parts). IsWellFormed p) (sym (numbered-renamed parts ascending))
    (IsWellFormed-renamed (object_place parts) (value_place parts) parts (IsRenaming-places parts) well_formed)

nodes_of-renamed : (of_values : ℕ → ℕ) (shape : Shape) → nodes_of (renamed_shape of_values shape) ≡ nodes_of shape
nodes_of-renamed of_values Region = refl
nodes_of-renamed of_values (Segment twofold head next prev back least next_value prev_value node) = refl

nodes-from : (of_values : ℕ → ℕ) (from before : ℕ) (entries : List KeyedObject) →
    fold (λ count (entry : KeyedObject). count + nodes_of entry.object.shape) before (objects_from from (map (λ (entry : KeyedObject). renamed_object of_values entry.object) entries))
    ≡ fold (λ count (entry : KeyedObject). count + nodes_of entry.object.shape) before entries
nodes-from of_values from before [] = refl
nodes-from of_values from before (entry ∷ rest) =
    ap (λ (count : ℕ). fold (λ count (entry : KeyedObject). count + nodes_of entry.object.shape) (before + count) (objects_from (from + 1) (map (λ (entry : KeyedObject). renamed_object of_values entry.object) rest)))
    (nodes_of-renamed of_values entry.object.shape)
    ∙ nodes-from of_values (from + 1) (before + nodes_of entry.object.shape) rest

pub numbered_within_limits : (parts : Parts) → is_within_limits (numbered parts) ≡ is_within_limits parts
numbered_within_limits parts =
    ap (λ (count : ℕ). nat_lt count (2 ^ 30) && nat_lt (length (numbered parts).unequal) (2 ^ 30)) (nodes-from (value_place parts) 0 0 parts.objects)
    ∙ ap (λ (count : ℕ). nat_lt (nodes parts) (2 ^ 30) && nat_lt count (2 ^ 30)) (length-map parts.unequal (renamed_pair (value_place parts)))

key_from : (from : ℕ) (objects : List Object) (index : ℕ) (default : KeyedObject) → index < length (objects_from from objects) → (get_or (objects_from from objects) index default).key ≡ from + index
key_from from [] index default within = absurd (omega arith)
key_from from (object ∷ rest) zero default within = omega arith
key_from from (object ∷ rest) (suc index) default within = key_from (from + 1) rest index default (omega arith) ∙ omega arith

value_key_from : (from : ℕ) (values : List Value) (index : ℕ) (default : KeyedValue) → index < length (values_from from values) → (get_or (values_from from values) index default).key ≡ from + index
value_key_from from [] index default within = absurd (omega arith)
value_key_from from (value ∷ rest) zero default within = omega arith
value_key_from from (value ∷ rest) (suc index) default within = value_key_from (from + 1) rest index default (omega arith) ∙ omega arith

-- the keys of a graph ascend
pub ascending_from : (contents : Contents) → HasAscendingKeys (entries_of contents)
ascending_from contents = record {
  objects = λ i j default before within.
      let one = key_from 0 contents.objects i default (omega arith) in
      let other = key_from 0 contents.objects j default within in
      omega arith;
  values = λ i j default before within.
      let one = value_key_from 0 contents.values i default (omega arith) in
      let other = value_key_from 0 contents.values j default within in
      omega arith;
}

pub numbering_renames : (parts : Parts) → HasAscendingKeys parts →
    IsRenaming (object_place parts) (value_place parts) parts × (numbered parts ≡ renamed (object_place parts) (value_place parts) parts)
numbering_renames parts ascending = (IsRenaming-places parts, numbered-renamed parts ascending)

pub numbering_keeps : (parts : Parts) (state : State) → HasAscendingKeys parts → IsWellFormed parts → (StandsFor (numbered parts) state ↔ StandsFor parts state)
numbering_keeps parts state ascending well_formed =
    subst (λ (p : Parts). StandsFor p state ↔ StandsFor parts state) (sym (numbered-renamed parts ascending))
    (renaming_keeps (object_place parts) (value_place parts) parts state (IsRenaming-places parts) well_formed)
