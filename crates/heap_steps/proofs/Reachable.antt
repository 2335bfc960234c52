-- The end of an object to which a way of a graph leads is reached in each memory that the graph stands for.
use Rattle.std.proofs.Common.{◌≡◌, ℕ, zero, suc, ◌+◌, ◌-◌, ◌<◌, Bool, true, false, ◌&&◌, ◌||◌, not, List, [], ◌∷◌, ◌++◌, map, length, nat_lt, Option, None, Some, ◌⊎◌, inl, inr, refl, sym, ap, ◌∙◌, subst, arith}
use Rattle.std.specs.Prelude.{IsSome, Contains, slice_get, ℤ, option_map, if◌then◌else◌}
use Rattle.std.specs.Option.{option_map_or}
use Rattle.std.proofs.lemmas.Bool.{false≢true, lt-ltb, le-ltb}
use Rattle.std.proofs.lemmas.List.Elements.{Contains-append_cases}
use Rattle.std.proofs.lemmas.Option.{same_Some, none-some, slice_get_within}
use Rattle.bytes_core.specs.declared.word.Word.{Word}
use Rattle.bytes_core.specs.declared.word.Word.TheVariants.{Plain, To}
use Rattle.bytes_core.specs.Marking.{Way, Begin, Onward}
use Rattle.bytes_core.specs.Release.{is_heap}
use Rattle.graph.specs.declared.object.Links.{Links}
use Rattle.graph.specs.declared.object.Object.{Object}
use Rattle.graph.specs.declared.object.Shape.{Shape}
use Rattle.graph.specs.declared.object.Shape.TheVariants.{Region as RegionShape, Segment}
use Rattle.graph.specs.declared.value.Target.{Target}
use Rattle.graph.specs.declared.value.Target.TheVariants.{Region, First, Last, Each}
use Rattle.graph.specs.declared.value.Value.{Value}
use Rattle.graph.specs.declared.value.Value.TheVariants.{Const, Number, Any, Address}
use Rattle.graph.specs.declared.parts.Held.{Held}
use Rattle.graph.specs.declared.parts.KeyedObject.{KeyedObject}
use Rattle.graph.specs.declared.parts.KeyedValue.{KeyedValue}
use Rattle.graph.specs.declared.parts.Named.{Named}
use Rattle.graph.specs.declared.parts.Parts.{Parts}
use Rattle.graph.specs.Maps.{object_at, value_at, storage_of, held_by}
use Rattle.graph.specs.Nodes.{is_region, links_in, own_node}
use Rattle.graph.specs.State.{State}
use Rattle.graph.specs.Meaning.{HasShape, HasBlocksAs, own_offset, ends_of, address_word, IsRootedWord, IsRooted, Assignment, Meets, maps_of}
use Rattle.graph.specs.WellFormed.{IsWellFormed, is_storage, target_fits, leads_to_object, is_segment_storage, says_nothing}
use Rattle.graph.specs.Whole.{IsGraph}
use Rattle.graph.proofs.Found.{Holds-some, found-all}
use Rattle.graph.proofs.Sent.{passes-some}
use Rattle.graph.proofs.Tests.{and_left, and_right}
use Rattle.heap_steps.specs.Ends.{target_places, value_places, places_of, values_behind, places_in, places_behind, first_places}
use Rattle.heap_steps.specs.Reached.{IsReached, Root, OfVariable, OfRegister, Outside}
use Rattle.heap_steps.proofs.Entries.{found_entry, entry_found}
use Rattle.heap_steps.proofs.Held.{IsHeldWord, IsEndHeld, led_first, led_last, region_held}
use Rattle.heap_steps.proofs.Listed.{Contains-none, get_contained, mapped_from}

-- the object and the end at a place
abbrev pub key_at : ℕ → ℕ → ℕ
key_at count place = if nat_lt place count then place else place - count

abbrev pub is_last_at : ℕ → ℕ → Bool
is_last_at count place = not (nat_lt place count)

pub behind_place : (parts : Parts) (place : ℕ) → places_behind parts place ≡ places_in parts (object_at parts.objects (key_at (length parts.objects) place)) (is_last_at (length parts.objects) place)
behind_place parts place = by_test (nat_lt place (length parts.objects))
  where
    by_test : (b : Bool) → (if b then places_in parts (object_at parts.objects place) false else places_in parts (object_at parts.objects (place - length parts.objects)) true)
        ≡ places_in parts (object_at parts.objects (if b then place else place - length parts.objects)) (not b)
    by_test true = refl
    by_test false = refl

pub first_end : (count key : ℕ) → key < count → (key_at count key ≡ key) × (is_last_at count key ≡ false)
first_end count key below = let is = lt-ltb key count below in (ap (λ (b : Bool). if b then key else key - count) is, ap not is)

pub last_end : (count key : ℕ) → (key_at count (count + key) ≡ key) × (is_last_at count (count + key) ≡ true)
last_end count key =
    let is : nat_lt (count + key) count ≡ false = le-ltb (count + key) count (omega arith) in
    let same : (count + key) - count ≡ key = omega arith in
    (ap (λ (b : Bool). if b then count + key else (count + key) - count) is ∙ same, ap not is)

-- the places of values are those of one of them
pub placed_value : (parts : Parts) (values : List ℕ) (place : ℕ) → Contains (places_of parts values) place →
    (value : ℕ) × Contains values value × Contains (value_places (length parts.objects) (value_at parts.values value)) place
placed_value parts [] place there = absurd (Contains-none place there)
placed_value parts (value ∷ rest) place there = by_cases (Contains-append_cases (value_places (length parts.objects) (value_at parts.values value)) (places_of parts rest) place there) (λ later. placed_value parts rest place later)
  where
    by_cases : Contains (value_places (length parts.objects) (value_at parts.values value)) place ⊎ Contains (places_of parts rest) place →
        (Contains (places_of parts rest) place → (other : ℕ) × Contains rest other × Contains (value_places (length parts.objects) (value_at parts.values other)) place) →
        (other : ℕ) × Contains (value ∷ rest) other × Contains (value_places (length parts.objects) (value_at parts.values other)) place
    by_cases (inl here) before = (value, (0, omega arith, refl), here)
    by_cases (inr later) before = let found = before later in (found.0, (suc found.1.0, (let below = found.1.1 in omega arith), found.1.2), found.2)

-- keys of objects are below their count
pub key_below : (parts : Parts) → IsGraph parts → (key : ℕ) → IsSome (object_at parts.objects key) → key < length parts.objects
key_below parts is key some =
    let held = Holds-some (object_at parts.objects key) some in
    let found = entry_found (λ (entry : KeyedObject). entry.key) (λ entry. entry.object) parts.objects key held.item held.is in
    let below = slice_get_within parts.objects found.0 found.1 found.2 in
    let same : found.0 ≡ key = sym (is.keys.objects found.0 found.1 found.2) ∙ found.3 in
    omega arith

-- an address leads to an object of a shape that fits
pub fits_target : (parts : Parts) → IsWellFormed parts → (value key : ℕ) (offset : ℤ) (target : Target) (object : Object) → value_at parts.values value ≡ Some (Address key offset target) → object_at parts.objects key ≡ Some object → target_fits target object.shape ≡ true
fits_target parts well value key offset target object is stands =
    subst (λ (found : Option Object). option_map_or (λ found. target_fits target found.shape) found false ≡ true) stands
    (found-all (λ (entry : KeyedValue). entry.key) (λ entry. entry.value) (leads_to_object parts) parts.values value (Address key offset target) well.addresses_lead_to_objects is)

pub target_object : (parts : Parts) → IsWellFormed parts → (value key : ℕ) (offset : ℤ) (target : Target) → value_at parts.values value ≡ Some (Address key offset target) → IsSome (object_at parts.objects key)
target_object parts well value key offset target is =
    passes-some (λ found. target_fits target found.shape) (object_at parts.objects key)
    (found-all (λ (entry : KeyedValue). entry.key) (λ entry. entry.value) (leads_to_object parts) parts.values value (Address key offset target) well.addresses_lead_to_objects is)

-- shapes to which targets lead
pub region_shape : (shape : Shape) → target_fits Region shape ≡ true → shape ≡ RegionShape
region_shape RegionShape fits = refl
region_shape (Segment twofold head next prev back least next_value prev_value node) fits = absurd (false≢true fits)

pub has_links : (shape : Shape) → target_fits First shape ≡ true → (links : Links) × (links_in shape ≡ Some links)
has_links RegionShape fits = absurd (false≢true fits)
has_links (Segment twofold head next prev back least next_value prev_value node) fits = (_, refl)

pub has_links_back : (shape : Shape) → target_fits Last shape ≡ true → (links : Links) × (links_in shape ≡ Some links) × (links.twofold ≡ true)
has_links_back RegionShape fits = absurd (false≢true fits)
has_links_back (Segment twofold head next prev back least next_value prev_value node) fits = (_, refl, fits)

-- the storage of a variable is a region
pub storage_region : (parts : Parts) → IsWellFormed parts → (key : ℕ) (object : Object) → object_at parts.objects key ≡ Some object → is_storage object ≡ true → object.shape ≡ RegionShape
storage_region parts well key object stands storage =
    by_shape object.shape refl (found-all (λ (entry : KeyedObject). entry.key) (λ entry. entry.object) (λ (object : Object). is_region object.shape || is_segment_storage object) parts.objects key object well.segments_are_allocated stands)
  where
    not_heap : (b : Bool) → not b ≡ true → b ≡ true → ⊥
    not_heap true denied heap = false≢true denied
    not_heap false denied heap = false≢true heap

    by_shape : (shape : Shape) → object.shape ≡ shape → (is_region shape || is_segment_storage object) ≡ true → shape ≡ RegionShape
    by_shape RegionShape is stored = refl
    by_shape (Segment twofold head next prev back least next_value prev_value node) is stored =
        absurd (not_heap (is_heap object.kind) (and_right object.live (not (is_heap object.kind)) storage)
        (and_left (is_heap object.kind) (says_nothing object.edges object.plane) (and_right object.live (is_heap object.kind && says_nothing object.edges object.plane) stored)))

module _ (parts : Parts) (state : State) (given : Assignment) (graph : IsGraph parts) (meets : Meets (maps_of parts) state given) where
  abbrev count : ℕ
  count = length parts.objects

  abbrev own : ℕ → Option ℤ
  own key = own_offset (value_at parts.values key)

  abbrev IsPlaceHeld : ℕ → Type 0
  IsPlaceHeld place = IsEndHeld parts state given (key_at count place) (is_last_at count place)

  at_first : (key : ℕ) → IsSome (object_at parts.objects key) → IsEndHeld parts state given key false → IsPlaceHeld key
  at_first key some held =
      let end = first_end count key (key_below parts graph key some) in
      subst (λ (n : ℕ). IsEndHeld parts state given n (is_last_at count key)) (sym end.0) (subst (λ (b : Bool). IsEndHeld parts state given key b) (sym end.1) held)

  at_last : (key : ℕ) → IsEndHeld parts state given key true → IsPlaceHeld (count + key)
  at_last key held =
      let end = last_end count key in
      subst (λ (n : ℕ). IsEndHeld parts state given n (is_last_at count (count + key))) (sym end.0) (subst (λ (b : Bool). IsEndHeld parts state given key b) (sym end.1) held)

  one_place : (one place : ℕ) → Contains (one ∷ []) place → one ≡ place
  one_place one place (zero, below, is) = is
  one_place one place (suc more, below, is) = absurd (omega arith)

  -- a value whose word leads to what is reached
  value_held : (value : ℕ) → IsHeldWord state (given.word value) → (place : ℕ) → Contains (value_places count (value_at parts.values value)) place → IsPlaceHeld place
  value_held value held place there = by_value (value_at parts.values value) refl there
    where
      by_target : (key : ℕ) (offset : ℤ) (target : Target) → value_at parts.values value ≡ Some (Address key offset target) → Contains (target_places count key target) place → IsPlaceHeld place
      by_target key offset Region is at =
          let some = target_object parts graph.well_formed value key offset Region is in
          let object = Holds-some (object_at parts.objects key) some in
          let region = region_shape object.item.shape (fits_target parts graph.well_formed value key offset Region object.item is object.is) in
          let blocks = one_block key object.item object.is region in
          let word : given.word value ≡ To blocks.0 offset = meets.values value (Address key offset Region) is ∙ ap (λ (bs : List ℕ). address_word Region bs (ends_of (object_at parts.objects) given.word key) offset) blocks.1 in
          subst IsPlaceHeld (one_place key place at)
          (at_first key some (region_held parts state given graph.well_formed meets key object.item object.is region blocks.0 blocks.1 (subst (IsHeldWord state) word held)))
        where
          one_block : (key : ℕ) (object : Object) → object_at parts.objects key ≡ Some object → object.shape ≡ RegionShape → (number : ℕ) × (given.blocks key ≡ number ∷ [])
          one_block key object stands region = by_life object.live (meets.objects key object stands)
            where
              by_life : (b : Bool) → HasBlocksAs b state.memory object given.word own (given.blocks key) → (number : ℕ) × (given.blocks key ≡ number ∷ [])
              by_life true has = let is = subst (λ (s : Shape). HasShape s state.memory object given.word own (given.blocks key)) region has in (is.0, is.1)
              by_life false has = (has.0, has.1)
      by_target key offset First is at =
          let some = target_object parts graph.well_formed value key offset First is in
          let object = Holds-some (object_at parts.objects key) some in
          let links = has_links object.item.shape (fits_target parts graph.well_formed value key offset First object.item is object.is) in
          subst IsPlaceHeld (one_place key place at)
          (at_first key some (led_first parts state given graph.well_formed meets key object.item links.0 object.is links.1 value offset is held))
      by_target key offset Last is at =
          let some = target_object parts graph.well_formed value key offset Last is in
          let object = Holds-some (object_at parts.objects key) some in
          let links = has_links_back object.item.shape (fits_target parts graph.well_formed value key offset Last object.item is object.is) in
          subst IsPlaceHeld (one_place (count + key) place at)
          (at_last key (led_last parts state given graph.well_formed meets key object.item links.0 object.is links.1 value offset links.2 is held))
      by_target key offset Each is at = absurd (Contains-none place at)

      by_value : (found : Option Value) → value_at parts.values value ≡ found → Contains (value_places count found) place → IsPlaceHeld place
      by_value None is at = absurd (Contains-none place at)
      by_value (Some (Const number size)) is at = absurd (Contains-none place at)
      by_value (Some (Number size)) is at = absurd (Contains-none place at)
      by_value (Some Any) is at = absurd (Contains-none place at)
      by_value (Some (Address key offset target)) is at = by_target key offset target is at

  -- Where chains start.

  variable_held : (place : ℕ) → Contains (map (λ (named : Named). named.object) parts.variables) place → IsPlaceHeld place
  variable_held place there =
      let found = mapped_from (λ (named : Named). named.object) parts.variables place there in
      let stored : storage_of parts.variables found.1.variable ≡ Some found.1.object =
      found_entry (λ (named : Named). named.variable) (λ (named : Named). named.object) parts.variables graph.well_formed.variables_ascend found.0 found.1 found.2 in
      subst IsPlaceHeld found.3 (by_object found.1.variable found.1.object stored)
    where
      by_object : (variable key : ℕ) → storage_of parts.variables variable ≡ Some key → IsPlaceHeld key
      by_object variable key stored = by_block (state.variables variable) refl
        where
          passes : option_map_or is_storage (object_at parts.objects key) false ≡ true
          passes = found-all (λ (named : Named). named.variable) (λ (named : Named). named.object) (λ (key : ℕ). option_map_or is_storage (object_at parts.objects key) false) parts.variables variable key graph.well_formed.variables_have_storage stored

          some : IsSome (object_at parts.objects key)
          some = passes-some is_storage (object_at parts.objects key) passes

          same : option_map (λ number. number ∷ []) (state.variables variable) ≡ Some (given.blocks key)
          same = meets.variables variable ∙ ap (option_map given.blocks) stored

          by_block : (found : Option ℕ) → state.variables variable ≡ found → IsPlaceHeld key
          by_block None is = absurd (none-some (given.blocks key) (sym (ap (option_map (λ number. number ∷ [])) is) ∙ same))
          by_block (Some number) is =
              let object = Holds-some (object_at parts.objects key) some in
              let blocks : given.blocks key ≡ number ∷ [] = sym (same_Some _ _ (sym (ap (option_map (λ number. number ∷ [])) is) ∙ same)) in
              let region = storage_region parts graph.well_formed key object.item object.is (subst (λ (o : Option Object). option_map_or is_storage o false ≡ true) object.is passes) in
              at_first key some (region_held parts state given graph.well_formed meets key object.item object.is region number blocks (Root number (OfVariable variable number is)))

  register_word : (register value : ℕ) → held_by parts.registers register ≡ Some value → IsHeldWord state (given.word value)
  register_word register value held = by_word (given.word value) refl
    where
      by_word : (word : Word) → given.word value ≡ word → IsHeldWord state word
      by_word (Plain number) is = tt
      by_word (To number offset) is = Root number (OfRegister register number offset (meets.registers register ∙ ap (option_map given.word) held ∙ ap Some is))

  register_held : (place : ℕ) → Contains (places_of parts (map (λ (held : Held). held.value) parts.registers)) place → IsPlaceHeld place
  register_held place there =
      let found = placed_value parts (map (λ (held : Held). held.value) parts.registers) place there in
      let entry = mapped_from (λ (held : Held). held.value) parts.registers found.0 found.1 in
      let held : held_by parts.registers entry.1.register ≡ Some found.0 =
      found_entry (λ (held : Held). held.register) (λ (held : Held). held.value) parts.registers graph.well_formed.registers_ascend entry.0 entry.1 entry.2 ∙ ap Some entry.3 in
      value_held found.0 (register_word entry.1.register found.0 held) place found.2

  port_held : (place : ℕ) → Contains (places_of parts parts.ports) place → IsPlaceHeld place
  port_held place there =
      let found = placed_value parts parts.ports place there in
      let at = get_contained parts.ports found.0 found.1 in
      by_value found.0 (meets.rooted at.0 found.0 at.1) (value_at parts.values found.0) refl found.2
    where
      by_word : (word : Word) → IsRootedWord state.roots word → IsHeldWord state word
      by_word (Plain number) rooted = tt
      by_word (To number offset) rooted = Root number (Outside number rooted)

      by_value : (value : ℕ) → IsRooted state.roots (value_at parts.values value) (given.word value) → (found : Option Value) → value_at parts.values value ≡ found → Contains (value_places count found) place → IsPlaceHeld place
      by_value value rooted None is at = absurd (Contains-none place at)
      by_value value rooted (Some (Const number size)) is at = absurd (Contains-none place at)
      by_value value rooted (Some (Number size)) is at = absurd (Contains-none place at)
      by_value value rooted (Some Any) is at = absurd (Contains-none place at)
      by_value value rooted (Some (Address key offset target)) is at =
          value_held value (by_word (given.word value) (subst (λ (o : Option Value). IsRooted state.roots o (given.word value)) is rooted)) place
          (subst (λ (o : Option Value). Contains (value_places count o) place) (sym is) at)

  pub way_held : (place : ℕ) → Way (first_places parts) (places_behind parts) place → IsPlaceHeld place
  way_held place (Begin at there) = by_cases (Contains-append_cases (map (λ (named : Named). named.object) parts.variables) (places_of parts (map (λ (held : Held). held.value) parts.registers) ++ places_of parts parts.ports) place there)
    where
      by_later : Contains (places_of parts (map (λ (held : Held). held.value) parts.registers)) place ⊎ Contains (places_of parts parts.ports) place → IsPlaceHeld place
      by_later (inl register) = register_held place register
      by_later (inr port) = port_held place port

      by_cases : Contains (map (λ (named : Named). named.object) parts.variables) place ⊎ Contains (places_of parts (map (λ (held : Held). held.value) parts.registers) ++ places_of parts parts.ports) place → IsPlaceHeld place
      by_cases (inl variable) = variable_held place variable
      by_cases (inr later) = by_later (Contains-append_cases (places_of parts (map (λ (held : Held). held.value) parts.registers)) (places_of parts parts.ports) place later)
  way_held place (Onward from at way there) =
      by_object (way_held from way) (object_at parts.objects (key_at count from)) refl (subst (λ (places : List ℕ). Contains places place) (behind_place parts from) there)
    where
      by_object : IsPlaceHeld from → (found : Option Object) → object_at parts.objects (key_at count from) ≡ found → Contains (places_in parts found (is_last_at count from)) place → IsPlaceHeld place
      by_object held None is behind = absurd (Contains-none place behind)
      by_object held (Some object) is behind =
          let found = placed_value parts (values_behind object.shape (own_node object) (is_last_at count from)) place behind in
          value_held found.0 (held.values object is found.0 found.1) place found.2

  -- an object at one of whose ends a way arrives loses no block
  pub reached_first : (key : ℕ) → IsSome (object_at parts.objects key) → Way (first_places parts) (places_behind parts) key → (place number : ℕ) → slice_get (given.blocks key) place ≡ Some number → IsReached state number
  reached_first key some way place number is =
      (way_held key way).blocks place number (ap (λ (k : ℕ). slice_get (given.blocks k) place) (first_end count key (key_below parts graph key some)).0 ∙ is)

  pub reached_last : (key : ℕ) → Way (first_places parts) (places_behind parts) (count + key) → (place number : ℕ) → slice_get (given.blocks key) place ≡ Some number → IsReached state number
  reached_last key way place number is = (way_held (count + key) way).blocks place number (ap (λ (k : ℕ). slice_get (given.blocks k) place) (last_end count key).0 ∙ is)
