-- A segment that may have no nodes, as one that has one at least: a graph is made of it, which stands for no more, and whose ways are ways of the graph
-- before or pass by it.
use Rattle.std.proofs.Common.{◌≡◌, ℕ, zero, suc, ◌+◌, ◌-◌, ◌^◌, ◌<◌, max, Bool, true, false, ◌&&◌, ◌||◌, not, List, [], ◌∷◌, ◌++◌, map, length, nat_eq, nat_le, nat_lt, Option, None, Some, ◌⊎◌, inl, inr, refl, sym, ap, ◌∙◌, subst, eqb-true, ltb-false, get_or, arith}
use Rattle.std.specs.Prelude.{Contains, slice_get, ℤ, pos, option_map, if◌then◌else◌}
use Rattle.std.specs.Option.{option_map_or}
use Rattle.std.specs.List.{fold, list_all, AllPairs}
use Rattle.std.proofs.lemmas.List.{length-map}
use Rattle.std.proofs.lemmas.Option.{same_Some, none-some}
use Rattle.bytes_core.specs.declared.block.Block.{Block}
use Rattle.bytes_core.specs.declared.word.Word.{Word}
use Rattle.bytes_core.specs.declared.word.Word.TheVariants.{To}
use Rattle.bytes_core.specs.Marking.{Way, Begin, Onward}
use Rattle.graph.specs.declared.edges.HasValue.{HasValue}
use Rattle.graph.specs.declared.object.Links.{Links}
use Rattle.graph.specs.declared.object.Object.{Object}
use Rattle.graph.specs.declared.object.Shape.{Shape}
use Rattle.graph.specs.declared.object.Shape.TheVariants.{Region as RegionShape, Segment}
use Rattle.graph.specs.declared.template.Node.{Node}
use Rattle.graph.specs.declared.value.Value.{Value}
use Rattle.graph.specs.declared.value.Value.TheVariants.{Const, Number, Any, Address}
use Rattle.graph.specs.declared.parts.KeyedObject.{KeyedObject}
use Rattle.graph.specs.declared.parts.KeyedValue.{KeyedValue}
use Rattle.graph.specs.declared.parts.Named.{Named}
use Rattle.graph.specs.declared.parts.Held.{Held}
use Rattle.graph.specs.declared.parts.Parts.{Parts}
use Rattle.graph.specs.Maps.{object_at, value_at}
use Rattle.graph.specs.Nodes.{is_region, links_in, own_node}
use Rattle.graph.specs.State.{State}
use Rattle.graph.specs.Meaning.{AreNodes, HasShape, HasBlocksAs, Ends, no_ends, ends_in, ends_of, HasWord, address_word, own_offset, Assignment, Meets, maps_of}
use Rattle.graph.specs.Sizes.{is_zero}
use Rattle.graph.specs.WellFormed.{IsWellFormed, has_value, passes_at, may_stand_in, is_storage, leads_to_object, says_nothing, is_segment_storage, lies_in, are_in_order, edge_has_size, edge_has_class, share_no_byte, link_is_any, is_outward, back_fits, nodes_of, nodes}
use Rattle.graph.specs.Whole.{IsGraph}
use Rattle.graph.proofs.Tests.{list_all-implies}
use Rattle.heap_steps.specs.Ends.{value_places, places_of, values_behind, places_in, places_behind, first_places}
use Rattle.heap_steps.proofs.Listed.{Contains-none}
use Rattle.heap_steps.proofs.Reachable.{behind_place, key_at, is_last_at}
use Rattle.heap_steps.proofs.Raised.{raised_shape, raised_object, raised_entry, raised, region_same, back_same, ends_same, nodes_same, all_raised, key_same, raised_at, on_nodes, on_links, leads_same, storage_same, WasRaised, was_raised, some_raised, some_lowered}

module _ (key : ℕ) (parts : Parts) (graph : IsGraph parts) where
  abbrev pub after : Parts
  after = raised key parts

  form : IsWellFormed parts
  form = graph.well_formed

  -- Form.

  raised_form : IsWellFormed after
  raised_form = record {
    edges_hold_values = on_nodes key parts (λ at object node. list_all (λ (edge : HasValue). has_value parts edge.value) node.edges) (λ at object node. refl) form.edges_hold_values;
    edges_are_at_home = on_nodes key parts (λ at object node. list_all (λ (edge : HasValue). passes_at parts (may_stand_in at) edge.value) node.edges) (λ at object node. refl) form.edges_are_at_home;
    registers_hold_values = form.registers_hold_values;
    ports_are_values = form.ports_are_values;
    addresses_lead_to_objects = list_all-implies (λ (entry : KeyedValue). leads_to_object parts entry.value) (λ (entry : KeyedValue). leads_to_object after entry.value) (λ entry leads. leads_same key parts entry.value ∙ leads) parts.values form.addresses_lead_to_objects;
    variables_have_storage = list_all-implies (λ (named : Named). option_map_or is_storage (object_at parts.objects named.object) false) (λ (named : Named). option_map_or is_storage (object_at after.objects named.object) false)
        (λ named stored. storage_same key parts named.object ∙ stored) parts.variables form.variables_have_storage;
    storage_is_distinct = form.storage_is_distinct;
    variables_ascend = form.variables_ascend;
    registers_ascend = form.registers_ascend;
    objects_are_small = on_nodes key parts (λ at object node. nat_le object.size 65536) (λ at object node. refl) form.objects_are_small;
    planes_are_as_long = on_nodes key parts (λ at object node. not object.live || nat_eq (length node.plane) object.size) (λ at object node. refl) form.planes_are_as_long;
    dead_objects_are_bare = all_raised key (λ at object. object.live || (is_region object.shape && says_nothing object.edges object.plane))
        (λ at object. ap (λ (b : Bool). object.live || (b && says_nothing object.edges object.plane)) (region_same object.shape)) parts.objects form.dead_objects_are_bare;
    segments_are_allocated = all_raised key (λ at object. is_region object.shape || is_segment_storage object) (λ at object. ap (λ (b : Bool). b || is_segment_storage object) (region_same object.shape)) parts.objects form.segments_are_allocated;
    edges_lie_inside = on_nodes key parts (λ at object node. list_all (lies_in object.size) node.edges) (λ at object node. refl) form.edges_lie_inside;
    edges_are_in_order = on_nodes key parts (λ at object node. are_in_order node.edges) (λ at object node. refl) form.edges_are_in_order;
    edges_have_their_sizes = on_nodes key parts (λ at object node. list_all (edge_has_size parts) node.edges) (λ at object node. refl) form.edges_have_their_sizes;
    edges_have_their_classes = on_nodes key parts (λ at object node. list_all (edge_has_class parts node.plane) node.edges) (λ at object node. refl) form.edges_have_their_classes;
    edges_are_not_zero = on_nodes key parts (λ at object node. list_all (λ (edge : HasValue). passes_at parts (λ value. not (is_zero value)) edge.value) node.edges) (λ at object node. refl) form.edges_are_not_zero;
    links_lie_inside = on_links key parts (λ object links node. list_all (lies_in object.size) links) (λ object links node. refl) form.links_lie_inside;
    links_are_in_order = on_links key parts (λ object links node. are_in_order links) (λ object links node. refl) form.links_are_in_order;
    links_have_no_edge = on_links key parts (λ object links node. list_all (λ (link : HasValue). list_all (share_no_byte link) node.edges) links) (λ object links node. refl) form.links_have_no_edge;
    links_may_be_pointers = on_links key parts (λ object links node. list_all (link_is_any node.plane) links) (λ object links node. refl) form.links_may_be_pointers;
    links_lead_on = on_links key parts (λ object links node. list_all (λ (link : HasValue). passes_at parts is_outward link.value) links) (λ object links node. refl) form.links_lead_on;
    links_back_fit = all_raised key (λ at object. back_fits parts object.size (links_in object.shape)) (λ at object. back_same parts object.size object.shape) parts.objects form.links_back_fit;
    comes_to_an_end = record {
      ranks = form.comes_to_an_end.ranks;
      next = λ at object links stands linked none. let was = lowered at object links stands linked none in form.comes_to_an_end.next at object links was linked none;
      prev = λ at object links stands linked none. let was = lowered at object links stands linked none in form.comes_to_an_end.prev at object links was linked none;
    };
    values_are_sized = form.values_are_sized;
    pairs_may_be_unequal = form.pairs_may_be_unequal;
    pairs_are_different = form.pairs_are_different;
  }
    where
      never_none : (shape : Shape) (links : Links) → links_in (raised_shape shape) ≡ Some links → links.least ≡ 0 → ⊥
      never_none RegionShape links linked none = none-some links linked
      never_none (Segment twofold head next prev back least next_value prev_value node) links linked none =
          let least_is : max 1 least ≡ links.least = ap (λ (l : Links). l.least) (same_Some _ _ linked) in omega arith

      lowered : (at : ℕ) (object : Object) (links : Links) → object_at after.objects at ≡ Some object → links_in object.shape ≡ Some links → links.least ≡ 0 → object_at parts.objects at ≡ Some object
      lowered at object links stands linked none = by_test (was_raised key parts at object stands) (nat_eq at key) refl
        where
          by_test : (was : WasRaised key parts at object) → (b : Bool) → nat_eq at key ≡ b → object_at parts.objects at ≡ Some object
          by_test was false is = was.stood ∙ ap Some (sym (was.is ∙ ap (λ (b : Bool). if b then raised_object was.before else was.before) is))
          by_test was true is =
              let same : object ≡ raised_object was.before = was.is ∙ ap (λ (b : Bool). if b then raised_object was.before else was.before) is in
              absurd (never_none was.before.shape links (ap (λ (o : Object). links_in o.shape) (sym same) ∙ linked) none)

  abbrev nodes_in : KeyedObject → ℕ
  nodes_in entry = nodes_of entry.object.shape

  nodes_from : (entries : List KeyedObject) (start : ℕ) → fold (λ (count : ℕ) (entry : KeyedObject). count + nodes_in entry) start (map (raised_entry key) entries) ≡ fold (λ (count : ℕ) (entry : KeyedObject). count + nodes_in entry) start entries
  nodes_from [] start = refl
  nodes_from (first ∷ rest) start =
      ap (λ (n : ℕ). fold (λ (count : ℕ) (entry : KeyedObject). count + nodes_in entry) (start + n) (map (raised_entry key) rest)) (by_test (nat_eq first.key key)) ∙ nodes_from rest (start + nodes_in first)
    where
      by_test : (b : Bool) → (let e : KeyedObject = (if b then record { key = first.key; object = raised_object first.object } else first) in nodes_of e.object.shape) ≡ nodes_of first.object.shape
      by_test true = nodes_same first.object.shape
      by_test false = refl

  nodes_kept : nodes after ≡ nodes parts
  nodes_kept = nodes_from parts.objects 0

  raised_places : (entries : List KeyedObject) → ((place : ℕ) (entry : KeyedObject) → slice_get entries place ≡ Some entry → entry.key ≡ place) → (place : ℕ) (entry : KeyedObject) → slice_get (map (raised_entry key) entries) place ≡ Some entry → entry.key ≡ place
  raised_places entries places place entry is = let old = got entries place is in sym (ap (λ (e : KeyedObject). e.key) old.2) ∙ key_same key old.0 ∙ places place old.0 old.1
    where
      got : (entries : List KeyedObject) (place : ℕ) → slice_get (map (raised_entry key) entries) place ≡ Some entry → (before : KeyedObject) × (slice_get entries place ≡ Some before) × (raised_entry key before ≡ entry)
      got [] place is = absurd (none-some entry is)
      got (first ∷ rest) zero is = (first, refl, same_Some _ _ is)
      got (first ∷ rest) (suc place) is = got rest place is

  raised_ascending : AllPairs (λ (one other : KeyedObject). one.key < other.key) after.objects
  raised_ascending i j default before within =
      let long = length-map parts.objects (raised_entry key) in
      subst (λ (n : ℕ). n < (get_or after.objects j default).key) (key_at' parts.objects i default (omega arith))
      (subst (λ (n : ℕ). (get_or parts.objects i default).key < n) (key_at' parts.objects j default (omega arith)) (graph.ascending.objects i j default before (omega arith)))
    where
      key_at' : (entries : List KeyedObject) (i : ℕ) (default : KeyedObject) → i < length entries → (get_or entries i default).key ≡ (get_or (map (raised_entry key) entries) i default).key
      key_at' [] i default inside = absurd (omega arith)
      key_at' (first ∷ rest) zero default inside = sym (key_same key first)
      key_at' (first ∷ rest) (suc i) default inside = key_at' rest i default (omega arith)

  pub raised_graph : IsGraph after
  raised_graph = record {
    well_formed = raised_form;
    within_limits = ap (λ (n : ℕ). nat_lt n (2 ^ 30) && nat_lt (length parts.unequal) (2 ^ 30)) nodes_kept ∙ graph.within_limits;
    ascending = record { objects = raised_ascending; values = graph.ascending.values };
    keys = record { objects = raised_places parts.objects graph.keys.objects; values = graph.keys.values };
  }

  -- Meaning.

  ends_kept : (word : ℕ → Word) (at : ℕ) → ends_of (object_at after.objects) word at ≡ ends_of (object_at parts.objects) word at
  ends_kept word at = ap (λ (o : Option Object). option_map_or (λ object. ends_in object.shape word) o no_ends) (raised_at key parts.objects at) ∙ by_found (object_at parts.objects at)
    where
      by_found : (found : Option Object) → option_map_or (λ object. ends_in object.shape word) (option_map (λ (object : Object). if nat_eq at key then raised_object object else object) found) no_ends ≡ option_map_or (λ object. ends_in object.shape word) found no_ends
      by_found None = refl
      by_found (Some object) = by_test (nat_eq at key)
        where
          by_test : (b : Bool) → (let o : Object = (if b then raised_object object else object) in ends_in o.shape word) ≡ ends_in object.shape word
          by_test true = ends_same object.shape word
          by_test false = refl

  nodes_lowered : (memory : List Block) (object : Object) (twofold : Bool) (head next prev back least least' next_value prev_value : ℕ) (node : Node) (word : ℕ → Word) (own : ℕ → Option ℤ) (after' before : Word) (blocks : List ℕ) →
      AreNodes memory (raised_object object) (record { twofold = twofold; head = head; next = next; prev = prev; back = back; least = least'; next_value = next_value; prev_value = prev_value }) node word own after' before blocks →
      AreNodes memory object (record { twofold = twofold; head = head; next = next; prev = prev; back = back; least = least; next_value = next_value; prev_value = prev_value }) node word own after' before blocks
  nodes_lowered memory object twofold head next prev back least least' next_value prev_value node word own after' before [] are = tt
  nodes_lowered memory object twofold head next prev back least least' next_value prev_value node word own after' before (number ∷ rest) (is, others) = (
    record { block = is.block; there = is.there; node = is.node; next = is.next; prev = is.prev },
    nodes_lowered memory object twofold head next prev back least least' next_value prev_value node word own after' (To number (pos back)) rest others,
  )

  shape_lowered : (shape : Shape) (memory : List Block) (object : Object) (word : ℕ → Word) (own : ℕ → Option ℤ) (blocks : List ℕ) → HasShape (raised_shape shape) memory (raised_object object) word own blocks → HasShape shape memory object word own blocks
  shape_lowered RegionShape memory object word own blocks (number, is, at) = (number, is, record { block = at.block; there = at.there; node = at.node })
  shape_lowered (Segment twofold head next prev back least next_value prev_value node) memory object word own blocks (enough, are) =
      (omega arith, nodes_lowered memory object twofold head next prev back least (max 1 least) next_value prev_value node word own _ _ blocks are)

  blocks_lowered : (live : Bool) (memory : List Block) (object : Object) (word : ℕ → Word) (own : ℕ → Option ℤ) (blocks : List ℕ) → HasBlocksAs live memory (raised_object object) word own blocks → HasBlocksAs live memory object word own blocks
  blocks_lowered true memory object word own blocks has = shape_lowered object.shape memory object word own blocks has
  blocks_lowered false memory object word own blocks has = has

  pub raised_meets : (state : State) (given : Assignment) → Meets (maps_of after) state given → Meets (maps_of parts) state given
  raised_meets state given meets = record {
    values = λ at value stands. by_value at value (meets.values at value stands);
    objects = λ at object stands. by_test at object stands (nat_eq at key) refl;
    owners = λ at place number some is. meets.owners at place number (some_raised key parts at some) is;
    places = λ at place number some is. meets.places at place number (some_raised key parts at some) is;
    used = λ number block stands live. let owned = meets.used number block stands live in record { object = some_lowered key parts (given.owner number) owned.object; block = owned.block };
    variables = meets.variables;
    registers = meets.registers;
    ports = meets.ports;
    rooted = meets.rooted;
    unequal = meets.unequal;
  }
    where
      by_value : (at : ℕ) (value : Value) → HasWord (length state.memory) given.blocks (ends_of (object_at after.objects) given.word) value (given.word at) → HasWord (length state.memory) given.blocks (ends_of (object_at parts.objects) given.word) value (given.word at)
      by_value at (Const number size) has = has
      by_value at (Number size) has = has
      by_value at Any has = has
      by_value at (Address object offset target) has = has ∙ ap (λ (e : Ends). address_word target (given.blocks object) e offset) (ends_kept given.word object)

      by_test : (at : ℕ) (object : Object) → object_at parts.objects at ≡ Some object → (b : Bool) → nat_eq at key ≡ b → HasBlocksAs object.live state.memory object given.word (λ value. own_offset (value_at parts.values value)) (given.blocks at)
      by_test at object stands true is =
          blocks_lowered object.live state.memory object given.word (λ value. own_offset (value_at parts.values value)) (given.blocks at)
          (meets.objects at (raised_object object) (raised_at key parts.objects at ∙ ap (option_map (λ (object : Object). if nat_eq at key then raised_object object else object)) stands ∙ ap (λ (b : Bool). Some (if b then raised_object object else object)) is))
      by_test at object stands false is =
          meets.objects at object (raised_at key parts.objects at ∙ ap (option_map (λ (object : Object). if nat_eq at key then raised_object object else object)) stands ∙ ap (λ (b : Bool). Some (if b then raised_object object else object)) is)

  -- Ways.

  pub same_count : length after.objects ≡ length parts.objects
  same_count = length-map parts.objects (raised_entry key)

  places_same : (values : List ℕ) → places_of after values ≡ places_of parts values
  places_same [] = refl
  places_same (value ∷ rest) =
      ap (λ (n : ℕ). value_places n (value_at parts.values value) ++ places_of after rest) same_count ∙ ap (λ (places : List ℕ). value_places (length parts.objects) (value_at parts.values value) ++ places) (places_same rest)

  first_same : first_places after ≡ first_places parts
  first_same =
      ap (λ (places : List ℕ). map (λ (named : Named). named.object) parts.variables ++ (places ++ places_of after parts.ports)) (places_same (map (λ (held : Held). held.value) parts.registers))
      ∙ ap (λ (places : List ℕ). map (λ (named : Named). named.object) parts.variables ++ (places_of parts (map (λ (held : Held). held.value) parts.registers) ++ places)) (places_same parts.ports)

  -- a way in the raised graph is one in the graph before, or one leads to the segment there
  abbrev pub LedBefore : ℕ → Type 0
  LedBefore place = Way (first_places parts) (places_behind parts) place

  abbrev pub PassesBy : Type 0
  PassesBy = LedBefore key ⊎ LedBefore (length parts.objects + key)

  pub way_lowered : (place : ℕ) → Way (first_places after) (places_behind after) place → LedBefore place ⊎ PassesBy
  way_lowered place (Begin at there) = inl (Begin place (subst (λ (places : List ℕ). Contains places place) first_same there))
  way_lowered place (Onward from at way there) = by_before (way_lowered from way)
    where
      behind : Contains (places_in after (object_at after.objects (key_at (length parts.objects) from)) (is_last_at (length parts.objects) from)) place
      behind =
          subst (λ (n : ℕ). Contains (places_in after (object_at after.objects (key_at n from)) (is_last_at n from)) place) same_count
          (subst (λ (places : List ℕ). Contains places place) (behind_place after from) there)

      is_key : nat_eq (key_at (length parts.objects) from) key ≡ true → LedBefore from → PassesBy
      is_key is led = by_end (nat_lt from (length parts.objects)) refl (eqb-true _ _ is)
        where
          by_end : (b : Bool) → nat_lt from (length parts.objects) ≡ b → key_at (length parts.objects) from ≡ key → PassesBy
          by_end true below same = inl (subst LedBefore (ap (λ (b : Bool). if b then from else from - length parts.objects) (sym below) ∙ same) led)
          by_end false above same =
              let under = ltb-false from (length parts.objects) above in
              let less : from - length parts.objects ≡ key = ap (λ (b : Bool). if b then from else from - length parts.objects) (sym above) ∙ same in
              inr (subst LedBefore (let sum : from ≡ length parts.objects + key = omega arith in sum) led)

      by_object : LedBefore from → (found : Option Object) → object_at parts.objects (key_at (length parts.objects) from) ≡ found → (b : Bool) → nat_eq (key_at (length parts.objects) from) key ≡ b → LedBefore place ⊎ PassesBy
      by_object led found is true hit = inr (is_key hit led)
      by_object led None is false miss =
          absurd (Contains-none place (subst (λ (o : Option Object). Contains (places_in after o (is_last_at (length parts.objects) from)) place)
          (raised_at key parts.objects (key_at (length parts.objects) from) ∙ ap (option_map _) is) behind))
      by_object led (Some object) is false miss =
          let stands : object_at after.objects (key_at (length parts.objects) from) ≡ Some object =
          raised_at key parts.objects (key_at (length parts.objects) from) ∙ ap (option_map (λ (object : Object). if nat_eq (key_at (length parts.objects) from) key then raised_object object else object)) is
          ∙ ap (λ (b : Bool). Some (if b then raised_object object else object)) miss in
          let held = subst (λ (o : Option Object). Contains (places_in after o (is_last_at (length parts.objects) from)) place) stands behind in
          inl (Onward from place led (subst (λ (places : List ℕ). Contains places place) (sym (behind_place parts from ∙ ap (λ (o : Option Object). places_in parts o (is_last_at (length parts.objects) from)) is))
          (subst (λ (places : List ℕ). Contains places place) (places_same (values_behind object.shape (own_node object) (is_last_at (length parts.objects) from))) held)))

      by_before : LedBefore from ⊎ PassesBy → LedBefore place ⊎ PassesBy
      by_before (inr passes) = inr passes
      by_before (inl led) = by_object led (object_at parts.objects (key_at (length parts.objects) from)) refl (nat_eq (key_at (length parts.objects) from) key) refl
