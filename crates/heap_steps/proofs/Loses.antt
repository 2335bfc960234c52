-- An object is unreached just where some memory loses a block of it.
use Rattle.std.proofs.Common.{◌≡◌, ℕ, zero, suc, ◌+◌, ◌*◌, ◌<◌, ◌≤◌, Bool, true, false, ◌&&◌, not, List, [], ◌∷◌, ◌++◌, map, length, nat_eq, max, Option, None, Some, ◌⊎◌, inl, inr, refl, sym, ap, ◌∙◌, subst, eq-eqb, arith}
use Rattle.std.specs.Prelude.{IsTrue, Contains, ◌↔◌, slice_get, ℤ, option_map, if◌then◌else◌}
use Rattle.std.specs.Option.{option_map_or}
use Rattle.std.specs.List.{filter}
use Rattle.std.proofs.lemmas.Bool.{false≢true, not-true, or_left, or_right, or_cases, and_from, and_parts, not_from_false, false_from_ne_true}
use Rattle.std.proofs.lemmas.List.Elements.{Contains-append_cases}
use Rattle.std.proofs.lemmas.Option.{same_Some, none-some}
use Rattle.bytes_core.specs.declared.byte.Byte.TheVariants.{Num}
use Rattle.bytes_core.specs.declared.block.Block.{Block}
use Rattle.bytes_core.specs.declared.word.Word.TheVariants.{Plain}
use Rattle.bytes_core.specs.Marking.{Way, Begin, Onward}
use Rattle.bytes_core.specs.Release.{is_heap}
use Rattle.graph.specs.declared.object.Links.{Links}
use Rattle.graph.specs.declared.object.Object.{Object}
use Rattle.graph.specs.declared.object.Shape.{Shape}
use Rattle.graph.specs.declared.object.Shape.TheVariants.{Region as RegionShape, Segment}
use Rattle.graph.specs.declared.value.Target.{Target}
use Rattle.graph.specs.declared.value.Target.TheVariants.{Region, First, Last, Each}
use Rattle.graph.specs.declared.value.Value.{Value}
use Rattle.graph.specs.declared.value.Value.TheVariants.{Const, Number, Any, Address}
use Rattle.graph.specs.declared.parts.Held.{Held}
use Rattle.graph.specs.declared.parts.KeyedObject.{KeyedObject}
use Rattle.graph.specs.declared.parts.Named.{Named}
use Rattle.graph.specs.declared.parts.Parts.{Parts}
use Rattle.graph.specs.Choices.{IsChoice, IsMadeWith}
use Rattle.graph.specs.Maps.{object_at, value_at, storage_of}
use Rattle.graph.specs.Nodes.{links_in, own_node}
use Rattle.graph.specs.Renaming.{numbered}
use Rattle.graph.specs.State.{State, IsState}
use Rattle.graph.specs.Meaning.{HasClass, IsGone, HasShape, HasBlocksAs, own_offset, Assignment, Meets, maps_of}
use Rattle.graph.specs.WellFormed.{is_storage}
use Rattle.graph.specs.Whole.{IsGraph}
use Rattle.graph.proofs.Found.{Holds-some, IsSome-holds, found-all}
use Rattle.graph.proofs.InOrder.{ascending_by, ascending_objects}
use Rattle.graph.proofs.OwnPlaces.{graph_numbered}
use Rattle.graph.proofs.SegmentNodes.{segments_have_nodes}
use Rattle.graph.proofs.Sent.{passes-some}
use Rattle.graph.proofs.Witness.{chosen_state}
use Rattle.heap_steps.specs.Ends.{target_places, value_places, places_of, values_behind, places_in, places_behind, first_places}
use Rattle.heap_steps.specs.Reached.{IsLost}
use Rattle.heap_steps.specs.Unreached.{is_end_reached, is_object_reached, is_unreached, unreached, SomeMemoryLoses, may_lead_anywhere}
use Rattle.heap_steps.proofs.Entries.{found_entry, entry_found}
use Rattle.heap_steps.proofs.Leading.{reached_leads}
use Rattle.heap_steps.proofs.Leads.{IsTame}
use Rattle.heap_steps.proofs.Listed.{Contains-first, Contains-later, Contains-cases, Contains-none, Contains-get, get_contained, get_within, mapped_from, mapped_to}
use Rattle.heap_steps.proofs.Raised.{raised_shape, raised_object, raised, raised_at}
use Rattle.heap_steps.proofs.RaisedForm.{raised_graph, raised_meets, way_lowered, same_count}
use Rattle.heap_steps.proofs.Reachable.{behind_place, key_at, is_last_at, placed_value, key_below, target_object, reached_first, reached_last}
use Rattle.heap_steps.proofs.Tame.{no_segment, tame_bound, tame_made}
use Rattle.heap_steps.proofs.Ways.{led_by_ways}

-- a memory that is made with null and zeros
pub made_state : (parts : Parts) → IsGraph parts → (state : State) × IsState state × IsMadeWith parts (λ value. Plain 0) (λ key place. Num 0) state
made_state parts graph =
    subst (λ (p : Parts). (state : State) × IsState state × IsMadeWith p (λ value. Plain 0) (λ key place. Num 0) state) (graph_numbered parts graph)
    (chosen_state parts (λ value. Plain 0) (λ key place. Num 0) graph.ascending graph.well_formed graph.within_limits choice)
  where
    zero_class : (class : ℕ) → HasClass class (Num 0)
    zero_class zero = refl
    zero_class (suc zero) = tt
    zero_class (suc (suc class)) = tt

    choice : IsChoice (numbered parts) (λ value. Plain 0) (λ key place. Num 0)
    choice = record {
      words = λ key any. record { small = omega arith; named = tt };
      bytes = λ key object place class stands is. zero_class class;
      names = λ key place. tt;
      small = λ key place. omega arith;
    }

-- an object of the graph stands at its key
pub object_there : (parts : Parts) → IsGraph parts → (place : ℕ) (entry : KeyedObject) → slice_get parts.objects place ≡ Some entry → object_at parts.objects entry.key ≡ Some entry.object
object_there parts graph place entry is =
    found_entry (λ (entry : KeyedObject). entry.key) (λ (entry : KeyedObject). entry.object) parts.objects (sym (ascending_by (λ (entry : KeyedObject). entry.key) parts.objects) ∙ ascending_objects parts graph.ascending) place entry is

-- a block of a live object
pub record IsBlockOf (state : State) (object : Object) (number : ℕ) : Type 0 where
  pub block : Block
  pub there : slice_get state.memory number ≡ Some block
  pub live : block.live ≡ true
  pub kind : block.kind ≡ object.kind

pub block_of : (parts : Parts) (state : State) (given : Assignment) → IsGraph parts → Meets (maps_of parts) state given → (key : ℕ) (object : Object) → object_at parts.objects key ≡ Some object → object.live ≡ true →
    (place number : ℕ) → slice_get (given.blocks key) place ≡ Some number → IsBlockOf state object number
block_of parts state given graph meets key object stands live place number is = by_shape object.shape refl
  where
    own : ℕ → Option ℤ
    own value = own_offset (value_at parts.values value)

    one : (first place : ℕ) → slice_get (first ∷ []) place ≡ Some number → first ≡ number
    one first zero is' = same_Some _ _ is'
    one first (suc place) is' = absurd (none-some number is')

    by_shape : (shape : Shape) → object.shape ≡ shape → IsBlockOf state object number
    by_shape RegionShape region =
        let has : HasShape RegionShape state.memory object given.word own (given.blocks key) =
        subst (λ (s : Shape). HasShape s state.memory object given.word own (given.blocks key)) region
        (subst (λ (b : Bool). HasBlocksAs b state.memory object given.word own (given.blocks key)) live (meets.objects key object stands)) in
        let same = one has.0 place (sym (ap (λ (bs : List ℕ). slice_get bs place) has.1) ∙ is) in
        record { block = has.2.block; there = ap (slice_get state.memory) (sym same) ∙ has.2.there; live = has.2.node.live; kind = has.2.node.kind }
    by_shape (Segment twofold head next prev back least next_value prev_value node) segment =
        let node = (segments_have_nodes parts state given key object _ graph.well_formed meets stands (ap links_in segment)).nodes place number is in
        record { block = node.block; there = node.there; live = node.live; kind = node.kind }

-- an object that has a block in each memory
pub first_block : (parts : Parts) (state : State) (given : Assignment) → IsGraph parts → Meets (maps_of parts) state given → (key : ℕ) (object : Object) → object_at parts.objects key ≡ Some object → object.live ≡ true →
    ((links : Links) → links_in object.shape ≡ Some links → 1 ≤ links.least) → (number : ℕ) × (slice_get (given.blocks key) 0 ≡ Some number)
first_block parts state given graph meets key object stands live some = by_shape object.shape refl
  where
    own : ℕ → Option ℤ
    own value = own_offset (value_at parts.values value)

    by_shape : (shape : Shape) → object.shape ≡ shape → (number : ℕ) × (slice_get (given.blocks key) 0 ≡ Some number)
    by_shape RegionShape region =
        let has : HasShape RegionShape state.memory object given.word own (given.blocks key) =
        subst (λ (s : Shape). HasShape s state.memory object given.word own (given.blocks key)) region
        (subst (λ (b : Bool). HasBlocksAs b state.memory object given.word own (given.blocks key)) live (meets.objects key object stands)) in
        (has.0, ap (λ (bs : List ℕ). slice_get bs 0) has.1)
    by_shape (Segment twofold head next prev back least next_value prev_value node) segment =
        let enough = (segments_have_nodes parts state given key object _ graph.well_formed meets stands (ap links_in segment)).enough in
        let least_is = some _ (ap links_in segment) in
        get_within (given.blocks key) 0 (omega arith)

module _ (parts : Parts) (graph : IsGraph parts) where
  abbrev count : ℕ
  count = length parts.objects

  abbrev IsLed : ℕ → Type 0
  IsLed place = Way (first_places parts) (places_behind parts) place

  -- Ways lead to ends of objects that are there.

  value_inside : (value place : ℕ) → Contains (value_places count (value_at parts.values value)) place → place < 2 * count
  value_inside value place there = by_value (value_at parts.values value) refl there
    where
      one_place : (one : ℕ) → Contains (one ∷ []) place → one ≡ place
      one_place one (zero, below, is) = is
      one_place one (suc more, below, is) = absurd (omega arith)

      by_target : (key : ℕ) (offset : ℤ) (target : Target) → value_at parts.values value ≡ Some (Address key offset target) → Contains (target_places count key target) place → place < 2 * count
      by_target key offset Region is at = let below = key_below parts graph key (target_object parts graph.well_formed value key offset Region is) in let same = one_place key at in omega arith
      by_target key offset First is at = let below = key_below parts graph key (target_object parts graph.well_formed value key offset First is) in let same = one_place key at in omega arith
      by_target key offset Last is at = let below = key_below parts graph key (target_object parts graph.well_formed value key offset Last is) in let same = one_place (count + key) at in omega arith
      by_target key offset Each is at = absurd (Contains-none place at)

      by_value : (found : Option Value) → value_at parts.values value ≡ found → Contains (value_places count found) place → place < 2 * count
      by_value None is at = absurd (Contains-none place at)
      by_value (Some (Const number size)) is at = absurd (Contains-none place at)
      by_value (Some (Number size)) is at = absurd (Contains-none place at)
      by_value (Some Any) is at = absurd (Contains-none place at)
      by_value (Some (Address key offset target)) is at = by_target key offset target is at

  values_inside : (values : List ℕ) (place : ℕ) → Contains (places_of parts values) place → place < 2 * count
  values_inside values place there = let found = placed_value parts values place there in value_inside found.0 place found.2

  pub way_inside : (place : ℕ) → IsLed place → place < 2 * count
  way_inside place (Begin at there) = by_cases (Contains-append_cases (map (λ (named : Named). named.object) parts.variables) (places_of parts (map (λ (held : Held). held.value) parts.registers) ++ places_of parts parts.ports) place there)
    where
      by_later : Contains (places_of parts (map (λ (held : Held). held.value) parts.registers)) place ⊎ Contains (places_of parts parts.ports) place → place < 2 * count
      by_later (inl register) = values_inside (map (λ (held : Held). held.value) parts.registers) place register
      by_later (inr port) = values_inside parts.ports place port

      by_cases : Contains (map (λ (named : Named). named.object) parts.variables) place ⊎ Contains (places_of parts (map (λ (held : Held). held.value) parts.registers) ++ places_of parts parts.ports) place → place < 2 * count
      by_cases (inl variable) =
          let found = mapped_from (λ (named : Named). named.object) parts.variables place variable in
          let stored : storage_of parts.variables found.1.variable ≡ Some found.1.object =
          found_entry (λ (named : Named). named.variable) (λ (named : Named). named.object) parts.variables graph.well_formed.variables_ascend found.0 found.1 found.2 in
          let passes = found-all (λ (named : Named). named.variable) (λ (named : Named). named.object) (λ (key : ℕ). option_map_or is_storage (object_at parts.objects key) false) parts.variables found.1.variable found.1.object graph.well_formed.variables_have_storage stored in
          let below = key_below parts graph found.1.object (passes-some is_storage (object_at parts.objects found.1.object) passes) in
          let same = found.3 in omega arith
      by_cases (inr later) = by_later (Contains-append_cases (places_of parts (map (λ (held : Held). held.value) parts.registers)) (places_of parts parts.ports) place later)
  way_inside place (Onward from at way there) = by_object (object_at parts.objects (key_at count from)) (subst (λ (places : List ℕ). Contains places place) (behind_place parts from) there)
    where
      by_object : (found : Option Object) → Contains (places_in parts found (is_last_at count from)) place → place < 2 * count
      by_object None behind = absurd (Contains-none place behind)
      by_object (Some object) behind = values_inside (values_behind object.shape (own_node object) (is_last_at count from)) place behind

  pub end_reached : (place : ℕ) → (IsTrue (is_end_reached parts place) ↔ IsLed place)
  end_reached place = led_by_ways (2 * count) (first_places parts) (places_behind parts) way_inside place

  pub not_led : (key : ℕ) → is_object_reached parts key ≡ false → (IsLed key → ⊥) × (IsLed (count + key) → ⊥)
  not_led key none = (
    λ led. false≢true (sym none ∙ or_left (is_end_reached parts key) (is_end_reached parts (count + key)) ((end_reached key).1 led)),
    λ led. false≢true (sym none ∙ or_right (is_end_reached parts key) (is_end_reached parts (count + key)) ((end_reached (count + key)).1 led)),
  )

  -- where nothing leads anywhere but what edges and links hold, all blocks of an object that is not reached are lost
  pub lost_there : (state : State) (given : Assignment) → IsState state → Meets (maps_of parts) state given → IsTame parts state given → (key : ℕ) (object : Object) → object_at parts.objects key ≡ Some object → object.live ≡ true → is_heap object.kind ≡ true →
      (IsLed key → ⊥) → (IsLed (count + key) → ⊥) → (place number : ℕ) → slice_get (given.blocks key) place ≡ Some number → IsLost state number
  lost_there state given is_state meets tame key object stands live heap not_first not_last place number is =
      let block = block_of parts state given graph meets key object stands live place number is in record {
        block = block.block;
        stands = block.there;
        allocated = ap is_heap block.kind ∙ heap;
        live = block.live;
        unreached = λ reached. neither (reached_leads parts state given graph is_state meets tame number reached key place (IsSome-holds (object_at parts.objects key) object stands) is);
      }
    where
      neither : IsLed key ⊎ IsLed (count + key) → ⊥
      neither (inl led) = not_first led
      neither (inr led) = not_last led

  -- some memory loses a block of an object that is not reached, and that has a block in each memory
  loses_some : (key : ℕ) (object : Object) → object_at parts.objects key ≡ Some object → object.live ≡ true → is_heap object.kind ≡ true → (IsLed key → ⊥) → (IsLed (count + key) → ⊥) →
      ((links : Links) → links_in object.shape ≡ Some links → 1 ≤ links.least) → SomeMemoryLoses parts key
  loses_some key object stands live heap not_first not_last some =
      let made = made_state parts graph in
      let first = first_block parts made.0 made.2.given graph made.2.meets key object stands live some in record {
        there = IsSome-holds (object_at parts.objects key) object stands;
        state = made.0;
        is = made.1;
        given = made.2.given;
        meets = made.2.meets;
        place = 0;
        number = first.0;
        block = first.1;
        lost = lost_there made.0 made.2.given made.1 made.2.meets (tame_made parts made.0 made.2) key object stands live heap not_first not_last 0 first.0 first.1;
      }

-- What is kept of a list.

pub kept_from : {X : Type 0} (test : X → Bool) (xs : List X) (x : X) → Contains (filter test xs) x → (test x ≡ true) × Contains xs x
kept_from test [] x there = absurd (Contains-none x there)
kept_from test (first ∷ rest) x there = by_test (test first) refl (λ later. kept_from test rest x later) there
  where
    by_first : test first ≡ true → (first ≡ x) ⊎ Contains (filter test rest) x → (Contains (filter test rest) x → (test x ≡ true) × Contains rest x) → (test x ≡ true) × Contains (first ∷ rest) x
    by_first passes (inl same) before = (ap test (sym same) ∙ passes, subst (λ (y : _). Contains (first ∷ rest) y) same (Contains-first first rest))
    by_first passes (inr later) before = let found = before later in (found.0, Contains-later first x rest found.1)

    by_test : (b : Bool) → test first ≡ b → (Contains (filter test rest) x → (test x ≡ true) × Contains rest x) → Contains (if b then first ∷ filter test rest else filter test rest) x → (test x ≡ true) × Contains (first ∷ rest) x
    by_test true passes before there' = by_first passes (Contains-cases first x (filter test rest) there') before
    by_test false fails before there' = let found = before there' in (found.0, Contains-later first x rest found.1)

pub kept_to : {X : Type 0} (test : X → Bool) (xs : List X) (x : X) → test x ≡ true → Contains xs x → Contains (filter test xs) x
kept_to test [] x passes there = absurd (Contains-none x there)
kept_to test (first ∷ rest) x passes there = by_cases (Contains-cases first x rest there) (λ later. kept_to test rest x passes later)
  where
    kept_later : (b : Bool) → Contains (filter test rest) x → Contains (if b then first ∷ filter test rest else filter test rest) x
    kept_later true later = Contains-later first x (filter test rest) later
    kept_later false later = later

    by_cases : (first ≡ x) ⊎ Contains rest x → (Contains rest x → Contains (filter test rest) x) → Contains (if test first then first ∷ filter test rest else filter test rest) x
    by_cases (inl same) before =
        subst (λ (b : Bool). Contains (if b then first ∷ filter test rest else filter test rest) x) (sym (ap test same ∙ passes)) (subst (λ (y : _). Contains (first ∷ filter test rest) y) same (Contains-first first (filter test rest)))
    by_cases (inr later) before = kept_later (test first) (before later)

-- The theorem.

module _ (parts : Parts) (graph : IsGraph parts) where
  -- what the list of unreached objects says of one
  pub record IsUnreachedAt (key : ℕ) : Type 0 where
    pub object : Object
    pub stands : object_at parts.objects key ≡ Some object
    pub live : object.live ≡ true
    pub heap : is_heap object.kind ≡ true
    pub none : is_object_reached parts key ≡ false

  pub unreached_at : (key : ℕ) → Contains (unreached parts) key → IsUnreachedAt key
  unreached_at key there =
      let mapped = mapped_from (λ (entry : KeyedObject). entry.key) (filter (is_unreached parts) parts.objects) key there in
      let kept = kept_from (is_unreached parts) parts.objects mapped.1 (Contains-get (filter (is_unreached parts) parts.objects) mapped.0 mapped.1 mapped.2) in
      let at = get_contained parts.objects mapped.1 kept.1 in
      let outer = and_parts mapped.1.object.live (is_heap mapped.1.object.kind && not (is_object_reached parts mapped.1.key)) kept.0 in
      let inner = and_parts (is_heap mapped.1.object.kind) (not (is_object_reached parts mapped.1.key)) outer.1 in
      subst IsUnreachedAt mapped.3 (record { object = mapped.1.object; stands = object_there parts graph at.0 mapped.1 at.1; live = outer.0; heap = inner.0; none = not-true (is_object_reached parts mapped.1.key) inner.1 })

  -- nor does a way lead to it where it stands for one node at least
  pub raised_free : (key : ℕ) → IsUnreachedAt key → (IsLed (raised key parts) (raised_graph key parts graph) key → ⊥) × (IsLed (raised key parts) (raised_graph key parts graph) (length (raised key parts).objects + key) → ⊥)
  raised_free key at = (
    λ led. misses (way_lowered key parts graph key led),
    λ led. passes_by (way_lowered key parts graph (length parts.objects + key) (subst (λ (n : ℕ). Way (first_places (raised key parts)) (places_behind (raised key parts)) (n + key)) (same_count key parts graph) led)),
  )
    where
      free : (IsLed parts graph key → ⊥) × (IsLed parts graph (length parts.objects + key) → ⊥)
      free = not_led parts graph key at.none

      misses : IsLed parts graph key ⊎ (IsLed parts graph key ⊎ IsLed parts graph (length parts.objects + key)) → ⊥
      misses (inl led) = free.0 led
      misses (inr (inl led)) = free.0 led
      misses (inr (inr led)) = free.1 led

      passes_by : IsLed parts graph (length parts.objects + key) ⊎ (IsLed parts graph key ⊎ IsLed parts graph (length parts.objects + key)) → ⊥
      passes_by (inl led) = free.1 led
      passes_by (inr (inl led)) = free.0 led
      passes_by (inr (inr led)) = free.1 led

  pub raised_there : (key : ℕ) (at : IsUnreachedAt key) → object_at (raised key parts).objects key ≡ Some (raised_object at.object)
  raised_there key at =
      raised_at key parts.objects key ∙ ap (option_map (λ (object : Object). if nat_eq key key then raised_object object else object)) at.stands ∙ ap (λ (b : Bool). Some (if b then raised_object at.object else at.object)) (eq-eqb key key refl)

  pub one_at_least : (shape : Shape) (links : Links) → links_in (raised_shape shape) ≡ Some links → 1 ≤ links.least
  one_at_least RegionShape links linked = absurd (none-some links linked)
  one_at_least (Segment twofold head next prev back least next_value prev_value node) links linked = let least_is : max 1 least ≡ links.least = ap (λ (l : Links). l.least) (same_Some _ _ linked) in omega arith

  pub unreached_loses : (key : ℕ) → Contains (unreached parts) key → SomeMemoryLoses parts key
  unreached_loses key there =
      let at = unreached_at key there in
      let free = raised_free key at in
      lowered at (loses_some (raised key parts) (raised_graph key parts graph) key (raised_object at.object) (raised_there key at) at.live at.heap free.0 free.1 (one_at_least at.object.shape))
    where
      lowered : (at : IsUnreachedAt key) → SomeMemoryLoses (raised key parts) key → SomeMemoryLoses parts key
      lowered at loses = record {
        there = IsSome-holds (object_at parts.objects key) at.object at.stands;
        state = loses.state;
        is = loses.is;
        given = loses.given;
        meets = raised_meets key parts graph loses.state loses.given loses.meets;
        place = loses.place;
        number = loses.number;
        block = loses.block;
        lost = loses.lost;
      }

  pub loses_unreached : (key : ℕ) → SomeMemoryLoses parts key → Contains (unreached parts) key
  loses_unreached key loses =
      let held = Holds-some (object_at parts.objects key) loses.there in
      let found = entry_found (λ (entry : KeyedObject). entry.key) (λ (entry : KeyedObject). entry.object) parts.objects key held.item held.is in
      let live = lives held.item held.is in
      let block = block_of parts loses.state loses.given graph loses.meets key held.item held.is live loses.place loses.number loses.block in
      let same : block.block ≡ loses.lost.block = same_Some _ _ (sym block.there ∙ loses.lost.stands) in
      let heap : is_heap held.item.kind ≡ true = ap is_heap (sym block.kind ∙ ap (λ (b : Block). b.kind) same) ∙ loses.lost.allocated in
      let none : is_object_reached parts key ≡ false = false_from_ne_true (is_object_reached parts key) (λ reached. by_end (or_cases (is_end_reached parts key) (is_end_reached parts (length parts.objects + key)) reached)) in
      let passes : is_unreached parts found.1 ≡ true =
      ap (λ (o : Object). o.live && (is_heap o.kind && not (is_object_reached parts found.1.key))) found.4
      ∙ ap (λ (k : ℕ). held.item.live && (is_heap held.item.kind && not (is_object_reached parts k))) found.3
      ∙ and_from held.item.live (is_heap held.item.kind && not (is_object_reached parts key)) live
      (and_from (is_heap held.item.kind) (not (is_object_reached parts key)) heap (not_from_false (is_object_reached parts key) none)) in
      let kept = get_contained (filter (is_unreached parts) parts.objects) found.1 (kept_to (is_unreached parts) parts.objects found.1 passes (Contains-get parts.objects found.0 found.1 found.2)) in
      subst (λ (k : ℕ). Contains (unreached parts) k) found.3 (mapped_to (λ (entry : KeyedObject). entry.key) (filter (is_unreached parts) parts.objects) kept.0 found.1 kept.1)
    where
      by_end : (is_end_reached parts key ≡ true) ⊎ (is_end_reached parts (length parts.objects + key) ≡ true) → ⊥
      by_end (inl first) = loses.lost.unreached (reached_first parts loses.state loses.given graph loses.meets key loses.there ((end_reached parts graph key).0 first) loses.place loses.number loses.block)
      by_end (inr last) = loses.lost.unreached (reached_last parts loses.state loses.given graph loses.meets key ((end_reached parts graph (length parts.objects + key)).0 last) loses.place loses.number loses.block)

      one : (first place : ℕ) → slice_get (first ∷ []) place ≡ Some loses.number → first ≡ loses.number
      one first zero is = same_Some _ _ is
      one first (suc place) is = absurd (none-some loses.number is)

      lives : (object : Object) → object_at parts.objects key ≡ Some object → object.live ≡ true
      lives object stands = by_life object.live refl
        where
          by_life : (b : Bool) → object.live ≡ b → object.live ≡ true
          by_life true is = is
          by_life false is =
              let has : HasBlocksAs false loses.state.memory object loses.given.word (λ value. own_offset (value_at parts.values value)) (loses.given.blocks key) =
              subst (λ (b : Bool). HasBlocksAs b loses.state.memory object loses.given.word (λ value. own_offset (value_at parts.values value)) (loses.given.blocks key)) is (loses.meets.objects key object stands) in
              let same = one has.0 loses.place (sym (ap (λ (bs : List ℕ). slice_get bs loses.place) has.1) ∙ loses.block) in
              let gone : IsGone object.kind (Some loses.lost.block) = subst (IsGone object.kind) (ap (slice_get loses.state.memory) same ∙ loses.lost.stands) has.2 in
              absurd (false≢true (sym gone.0 ∙ loses.lost.live))

  -- where nothing may lead anywhere, each memory loses all blocks of each object that is not reached
  pub all_lost : may_lead_anywhere parts ≡ false → (key : ℕ) → Contains (unreached parts) key → (state : State) (given : Assignment) → IsState state → Meets (maps_of parts) state given →
      (number : ℕ) × IsLost state number
  all_lost bound key there state given is meets =
      let at = unreached_at key there in
      let free = not_led parts graph key at.none in
      let first = first_block parts state given graph meets key at.object at.stands at.live (λ links linked. absurd (no_segment parts graph bound key at.object links at.stands linked)) in
      (first.0, lost_there parts graph state given is meets (tame_bound parts graph bound state given meets) key at.object at.stands at.live at.heap free.0 free.1 0 first.0 first.1)
