-- What stands at the keys of a graph in which the last node of a segment is a region.
use Rattle.std.proofs.Common.{◌≡◌, ℕ, ◌+◌, Bool, true, false, ◌||◌, List, [], ◌∷◌, ◌++◌, map, length, nat_eq, pos, Option, None, Some, refl, sym, ◌∙◌, ap, eq-eqb, eqb-true, arith}
use Rattle.std.specs.Prelude.{slice_get, option_map, if◌then◌else◌}
use Rattle.std.specs.List.{filter, list_any}
use Rattle.std.specs.Option.{option_map_or}
use Rattle.std.proofs.lemmas.Bool.{false≢true}
use Rattle.std.proofs.lemmas.List.{length-map}
use Rattle.std.proofs.lemmas.Option.{same_Some, none-some, slice_get-map}
use Rattle.graph.specs.declared.object.Links.{Links}
use Rattle.graph.specs.declared.object.Object.{Object}
use Rattle.graph.specs.declared.template.Node.{Node}
use Rattle.graph.specs.declared.value.Target.TheVariants.{Region, Last}
use Rattle.graph.specs.declared.value.Value.{Value}
use Rattle.graph.specs.declared.value.Value.TheVariants.{Address}
use Rattle.graph.specs.declared.parts.KeyedObject.{KeyedObject}
use Rattle.graph.specs.declared.parts.KeyedValue.{KeyedValue}
use Rattle.graph.specs.declared.parts.Parts.{Parts}
use Rattle.graph.specs.Maps.{object_at, value_at}
use Rattle.graph.specs.Nodes.{node_of}
use Rattle.graph.specs.Renaming.{place_among, values_from}
use Rattle.graph.specs.Whole.{IsGraph}
use Rattle.graph.proofs.Found.{IsSome-holds, found-changed}
use Rattle.changes.specs.Parts.{replaced}
use Rattle.changes.proofs.Appended.{found_new, found_else, in_place_more}
use Rattle.changes.proofs.Objects.{replaced-other, replaced-here}
use Rattle.materialise.specs.Dropped.{links_at}
use Rattle.materialise.specs.SplitFirst.{is_own, own_values, own_keys, at_region, alone_key, alone, with_link, link_value, node_region}
use Rattle.materialise.specs.SplitLast.{rest_before, last_value, split_last_by, split_last}
use Rattle.materialise.proofs.SplitRows.{get_left, get_right, get_either, found_left, found_right, found_past, entry_there, value_from, values_from_keys, kept_was, place_there}
use Rattle.materialise.proofs.SplitThere.{IsSegmentAt, links_are}

module _ (parts : Parts) (graph : IsGraph parts) (key : ℕ) (at : IsSegmentAt parts key) where
  abbrev pub region : ℕ
  region = length parts.objects

  abbrev pub owned : ℕ
  owned = length parts.values + length (own_values key parts)

  abbrev pub become : Value → Value
  become value = last_value region key value

  -- the rest, and the region
  abbrev pub rest : Object
  rest = record at.object { shape = rest_before (owned + 1) at.object.shape }

  abbrev pub next_link : Value
  next_link = become (link_value parts at.links.next_value)

  abbrev pub bare_node : Node
  bare_node = alone key parts (node_of at.object)

  abbrev pub back_node : Node
  back_node = with_link (Address key (pos at.links.back) Last) (record { at = at.links.prev; size = 8; value = owned }) bare_node

  abbrev pub new_node : Node
  new_node = with_link next_link (record { at = at.links.next; size = 8; value = at.links.next_value }) back_node

  abbrev pub new_region : Object
  new_region = node_region at.object new_node

  abbrev pub fresh : List Value
  fresh = map (λ entry. at_region region entry.value) (own_values key parts) ++ Address key (pos at.links.back) Last ∷ Address region (pos at.links.head) Region ∷ []

  abbrev pub later : Parts
  later = split_last_by parts key at.object at.links

  pub split_is : split_last key parts ≡ later
  split_is =
      ap (λ (o : Option Object). option_map_or (λ object. option_map_or (split_last_by parts key object) (links_at parts key) parts) o parts) at.stands
      ∙ ap (λ (o : Option Links). option_map_or (split_last_by parts key at.object) o parts) (links_are parts key at)

  -- Values.

  abbrev old_values : List KeyedValue
  old_values = map {B = KeyedValue} (λ entry. record { key = entry.key; value = become entry.value }) parts.values

  abbrev fresh_values : List KeyedValue
  fresh_values = values_from (length parts.values) fresh

  old_in_place : (place : ℕ) (entry : KeyedValue) → slice_get old_values place ≡ Some entry → entry.key ≡ place
  old_in_place place entry is = by_found (slice_get parts.values place) refl (sym (slice_get-map (λ entry. let e : KeyedValue = record { key = entry.key; value = become entry.value } in e) parts.values place) ∙ is)
    where
      by_found : (found : Option KeyedValue) → slice_get parts.values place ≡ found → option_map (λ entry. let e : KeyedValue = record { key = entry.key; value = become entry.value } in e) found ≡ Some entry → entry.key ≡ place
      by_found None there none = absurd (none-some entry none)
      by_found (Some old) there same = ap (λ (e : KeyedValue). e.key) (sym (same_Some _ _ same)) ∙ graph.keys.values place old there

  old_long : length old_values ≡ length parts.values
  old_long = length-map parts.values (λ entry. let e : KeyedValue = record { key = entry.key; value = become entry.value } in e)

  pub value_there : (k : ℕ) (value : Value) → value_at parts.values k ≡ Some value → value_at later.values k ≡ Some (become value)
  value_there k value is =
      found_left (λ (entry : KeyedValue). entry.key) (λ entry. entry.value) old_values fresh_values k (become value)
      (found-changed (λ (entry : KeyedValue). entry.key) (λ entry. entry.value) (λ (entry : KeyedValue). entry.key) (λ entry. entry.value)
      (λ entry. record { key = entry.key; value = become entry.value }) become (λ entry. refl) (λ entry. refl) parts.values k ∙ ap (option_map become) is)

  -- the values more
  pub fresh_there : (place : ℕ) → value_at later.values (length parts.values + place) ≡ slice_get fresh place
  fresh_there place =
      found_right (λ (entry : KeyedValue). entry.key) (λ entry. entry.value) old_values fresh_values (length parts.values + place)
      (found_past (λ (entry : KeyedValue). entry.key) (λ entry. entry.value) old_values old_in_place (length parts.values + place) (let e = old_long in omega arith))
      ∙ value_from (length parts.values) fresh place

  abbrev turned : List Value
  turned = map (λ entry. at_region region entry.value) (own_values key parts)

  turned_long : length turned ≡ length (own_values key parts)
  turned_long = length-map (own_values key parts) (λ entry. at_region region entry.value)

  pub last_there : value_at later.values owned ≡ Some (Address key (pos at.links.back) Last)
  last_there =
      fresh_there (length (own_values key parts))
      ∙ ap (slice_get fresh) (sym turned_long ∙ (let e : length turned ≡ length turned + 0 = omega arith in e))
      ∙ get_right turned (Address key (pos at.links.back) Last ∷ Address region (pos at.links.head) Region ∷ []) 0

  pub behind_there : value_at later.values (owned + 1) ≡ Some (Address region (pos at.links.head) Region)
  behind_there =
      ap (value_at later.values) (let e : owned + 1 ≡ length parts.values + (length (own_values key parts) + 1) = omega arith in e)
      ∙ fresh_there (length (own_values key parts) + 1)
      ∙ ap (slice_get fresh) (ap (λ (n : ℕ). n + 1) (sym turned_long))
      ∙ get_right turned (Address key (pos at.links.back) Last ∷ Address region (pos at.links.head) Region ∷ []) 1

  -- a value, as a node that becomes a region holds it
  abbrev pub alone_of : Value → Value
  alone_of value = if is_own key value then at_region region value else become value

  own_among : (entries : List KeyedValue) (k : ℕ) (value : Value) → value_at entries k ≡ Some value → is_own key value ≡ true →
      list_any (nat_eq k) (map (λ (entry : KeyedValue). entry.key) (filter (λ (entry : KeyedValue). is_own key entry.value) entries)) ≡ true
  own_among [] k value is own = absurd (none-some value is)
  own_among (first ∷ others) k value is own = by_key (nat_eq first.key k) refl is (λ there. own_among others k value there own)
    where
      keys : List KeyedValue → List ℕ
      keys entries = map (λ (entry : KeyedValue). entry.key) (filter (λ (entry : KeyedValue). is_own key entry.value) entries)

      by_own : (b : Bool) → is_own key first.value ≡ b → list_any (nat_eq k) (keys others) ≡ true →
          list_any (nat_eq k) (map (λ (entry : KeyedValue). entry.key) (if b then first ∷ filter (λ (entry : KeyedValue). is_own key entry.value) others else filter (λ (entry : KeyedValue). is_own key entry.value) others)) ≡ true
      by_own true has any = by_first (nat_eq k first.key) any
        where
          by_first : (b : Bool) → list_any (nat_eq k) (keys others) ≡ true → (b || list_any (nat_eq k) (keys others)) ≡ true
          by_first true any = refl
          by_first false any = any
      by_own false has any = any

      by_here : (b : Bool) → is_own key first.value ≡ b → is_own key first.value ≡ true → nat_eq first.key k ≡ true →
          list_any (nat_eq k) (map (λ (entry : KeyedValue). entry.key) (if b then first ∷ filter (λ (entry : KeyedValue). is_own key entry.value) others else filter (λ (entry : KeyedValue). is_own key entry.value) others)) ≡ true
      by_here true has own same = ap (λ (b : Bool). b || list_any (nat_eq k) (keys others)) (eq-eqb _ _ (sym (eqb-true _ _ same)))
      by_here false has own same = absurd (false≢true (sym has ∙ own))

      by_key : (b : Bool) → nat_eq first.key k ≡ b → (if b then Some first.value else value_at others k) ≡ Some value → (value_at others k ≡ Some value → list_any (nat_eq k) (keys others) ≡ true) → list_any (nat_eq k) (keys (first ∷ others)) ≡ true
      by_key true hit is onward = by_here (is_own key first.value) refl (ap (is_own key) (same_Some _ _ is) ∙ own) hit
      by_key false miss is onward = by_own (is_own key first.value) refl (onward is)

  pub alone_there : (k : ℕ) (value : Value) → value_at parts.values k ≡ Some value → value_at later.values (alone_key key parts k) ≡ Some (alone_of value)
  alone_there k value is = by_any (list_any (nat_eq k) (own_keys key parts)) refl
    where
      by_any : (b : Bool) → list_any (nat_eq k) (own_keys key parts) ≡ b → value_at later.values (if b then length parts.values + place_among (own_keys key parts) k else k) ≡ Some (alone_of value)
      by_any true any =
          let found = place_there (λ (entry : KeyedValue). entry.key) (own_values key parts) k any in
          let was = kept_was (λ (entry : KeyedValue). is_own key entry.value) parts.values (place_among (own_keys key parts) k) found.0 found.1 in
          let same : found.0.value ≡ value =
          same_Some _ _ (sym (entry_there (λ (entry : KeyedValue). entry.key) (λ entry. entry.value) parts.values graph.keys.values was.0 found.0 was.1) ∙ ap (value_at parts.values) found.2 ∙ is) in
          fresh_there (place_among (own_keys key parts) k)
          ∙ get_left turned (Address key (pos at.links.back) Last ∷ Address region (pos at.links.head) Region ∷ []) (place_among (own_keys key parts) k) (at_region region found.0.value)
          (slice_get-map (λ entry. at_region region entry.value) (own_values key parts) (place_among (own_keys key parts) k) ∙ ap (option_map (λ (entry : KeyedValue). at_region region entry.value)) found.1)
          ∙ ap (λ (v : Value). Some (at_region region v)) same
          ∙ ap Some (sym (ap (λ (b : Bool). if b then at_region region value else become value) (ap (is_own key) (sym same) ∙ was.2)))
      by_any false none = value_there k value is ∙ ap Some (sym (ap (λ (b : Bool). if b then at_region region value else become value) (by_own (is_own key value) refl)))
        where
          by_own : (b : Bool) → is_own key value ≡ b → is_own key value ≡ false
          by_own false has = has
          by_own true own = absurd (false≢true (sym none ∙ own_among parts.values k value is own))

  pub values_in_place : (place : ℕ) (entry : KeyedValue) → slice_get later.values place ≡ Some entry → entry.key ≡ place
  values_in_place place entry is =
      get_either (λ place (entry : KeyedValue). entry.key ≡ place) old_values fresh_values 0 (λ p e there. old_in_place p e there ∙ (let s : p ≡ 0 + p = omega arith in s))
      (λ p e there. values_from_keys (length parts.values) fresh p e there ∙ (let l = old_long in let s : length parts.values + p ≡ 0 + length old_values + p = omega arith in s)) place entry is
      ∙ (let s : 0 + place ≡ place = omega arith in s)

  -- Objects.

  abbrev old_objects : List KeyedObject
  old_objects = map (replaced key rest) parts.objects

  abbrev last_entry : KeyedObject
  last_entry = record { key = region; object = new_region }

  objects_there : (place : ℕ) (entry : KeyedObject) → slice_get old_objects place ≡ Some entry → entry.key ≡ place
  objects_there place entry is = by_found (slice_get parts.objects place) refl (sym (slice_get-map (replaced key rest) parts.objects place) ∙ is)
    where
      by_found : (found : Option KeyedObject) → slice_get parts.objects place ≡ found → option_map (replaced key rest) found ≡ Some entry → entry.key ≡ place
      by_found None there none = absurd (none-some entry none)
      by_found (Some old) there same = ap (λ (e : KeyedObject). e.key) (sym (same_Some _ _ same)) ∙ graph.keys.objects place old there

  objects_long : length old_objects ≡ length parts.objects
  objects_long = length-map parts.objects (replaced key rest)

  pub rest_there : object_at later.objects key ≡ Some rest
  rest_there = found_left (λ (entry : KeyedObject). entry.key) (λ entry. entry.object) old_objects (last_entry ∷ []) key rest (replaced-here key rest parts.objects (IsSome-holds _ _ at.stands))

  pub region_there : object_at later.objects region ≡ Some new_region
  region_there =
      ap (object_at later.objects) (sym objects_long)
      ∙ found_new (λ (entry : KeyedObject). entry.key) (λ entry. entry.object) old_objects last_entry objects_there (sym objects_long)

  pub object_still : (k : ℕ) (object : Object) → nat_eq k key ≡ false → object_at parts.objects k ≡ Some object → object_at later.objects k ≡ Some object
  object_still k object other is =
      found_left (λ (entry : KeyedObject). entry.key) (λ entry. entry.object) old_objects (last_entry ∷ []) k object (replaced-other key rest parts.objects k (λ same. false≢true (sym other ∙ eq-eqb _ _ same)) ∙ is)

  -- another object stood there
  pub object_was : (k : ℕ) (object : Object) → nat_eq k key ≡ false → nat_eq k region ≡ false → object_at later.objects k ≡ Some object → object_at parts.objects k ≡ Some object
  object_was k object other old is =
      sym (found_else (λ (entry : KeyedObject). entry.key) (λ entry. entry.object) old_objects last_entry k (λ same. false≢true (sym old ∙ eq-eqb _ _ same))
      ∙ replaced-other key rest parts.objects k (λ same. false≢true (sym other ∙ eq-eqb _ _ same))) ∙ is

  pub objects_in_place : (place : ℕ) (entry : KeyedObject) → slice_get later.objects place ≡ Some entry → entry.key ≡ place
  objects_in_place = in_place_more (λ (entry : KeyedObject). entry.key) (λ entry. entry.object) old_objects last_entry objects_there (sym objects_long)
