-- A graph with a dead object more: it is a graph, and what it stands for the graph without it stands for.
use Rattle.std.proofs.Common.{◌≡◌, ◌≢◌, ℕ, zero, suc, ◌+◌, ◌^◌, ◌<◌, Bool, true, false, ◌||◌, ◌&&◌, not, List, [], ◌∷◌, ◌++◌, length, nat_eq, nat_lt, nat_le, Option, None, Some, refl, sym, ◌∙◌, ap, subst, eqb-true, eq-eqb, lt-ltb}
use Rattle.std.specs.Prelude.{IsSome, slice_get}
use Rattle.std.specs.List.{fold, list_all}
use Rattle.std.specs.Option.{option_map_or}
use Rattle.std.proofs.lemmas.Bool.{false≢true}
use Rattle.std.proofs.lemmas.Option.{same_Some, none-some}
use Rattle.bytes_core.specs.declared.block.Block.{Block}
use Rattle.bytes_core.specs.declared.block.BlockKind.TheVariants.{Heap}
use Rattle.graph.specs.declared.object.Links.{Links}
use Rattle.graph.specs.declared.object.Object.{Object}
use Rattle.graph.specs.declared.object.Shape.TheVariants.{Region as RegionShape}
use Rattle.graph.specs.declared.parts.KeyedObject.{KeyedObject}
use Rattle.graph.specs.declared.parts.KeyedValue.{KeyedValue}
use Rattle.graph.specs.declared.parts.Named.{Named}
use Rattle.graph.specs.declared.parts.Parts.{Parts}
use Rattle.graph.specs.declared.value.Value.{Value}
use Rattle.graph.specs.declared.value.Value.TheVariants.{Const, Number, Any, Address}
use Rattle.graph.specs.Maps.{object_at}
use Rattle.graph.specs.Meaning.{IsGone, ends_of, maps_of, Assignment, IsOwned, Meets}
use Rattle.graph.specs.Nodes.{is_region, links_in, node_of, link_edges}
use Rattle.graph.specs.Sizes.{is_zero}
use Rattle.graph.specs.State.{State}
use Rattle.graph.specs.WellFormed.{IsWellFormed, passes_at, has_value, may_stand_in, target_fits, leads_to_object, is_storage, has_class_a_byte, says_nothing, is_segment_storage, lies_in, are_in_order, edge_has_size, edge_has_class, share_no_byte, link_is_any, is_outward, back_fits, nodes_of, nodes}
use Rattle.graph.specs.Whole.{IsGraph}
use Rattle.graph.proofs.Sent.{passes-some}
use Rattle.graph.proofs.Tests.{and_right, and_both, list_all-implies}
use Rattle.changes.specs.Parts.{with_object_more}
use Rattle.changes.proofs.Appended.{found_before, found_else, found_new, found_next, in_place_more, ascending_in_place}
use Rattle.changes.proofs.Change.{HasWord-ends}
use Rattle.changes.proofs.KeptForm.{all_same}
use Rattle.changes.proofs.RangeForm.{all_append}

-- a dead object, of which nothing is said
abbrev pub dead_one : Object
dead_one = record { size = 0; kind = Heap; live = false; shape = RegionShape; edges = []; plane = [] }

module _ (parts : Parts) (graph : IsGraph parts) where
  abbrev pub with_dead_one : Parts
  with_dead_one = with_object_more dead_one parts

  abbrev last : KeyedObject
  last = record { key = length parts.objects; object = dead_one }

  form : IsWellFormed parts
  form = graph.well_formed

  pub object_still : (at : ℕ) → IsSome (object_at parts.objects at) → object_at with_dead_one.objects at ≡ object_at parts.objects at
  object_still at some = found_before (λ (entry : KeyedObject). entry.key) (λ entry. entry.object) parts.objects last at some

  pub object_other : (at : ℕ) → at ≢ length parts.objects → object_at with_dead_one.objects at ≡ object_at parts.objects at
  object_other at differ = found_else (λ (entry : KeyedObject). entry.key) (λ entry. entry.object) parts.objects last at differ

  pub object_new : object_at with_dead_one.objects (length parts.objects) ≡ Some dead_one
  object_new = found_new (λ (entry : KeyedObject). entry.key) (λ entry. entry.object) parts.objects last graph.keys.objects refl

  passes_object : (test : Object → Bool) (at : ℕ) → option_map_or test (object_at parts.objects at) false ≡ true → option_map_or test (object_at with_dead_one.objects at) false ≡ true
  passes_object test at passes = ap (λ (o : Option Object). option_map_or test o false) (object_still at (passes-some test (object_at parts.objects at) passes)) ∙ passes

  leads_still : (value : Value) → leads_to_object parts value ≡ true → leads_to_object with_dead_one value ≡ true
  leads_still (Const number size) leads = refl
  leads_still (Number size) leads = refl
  leads_still Any leads = refl
  leads_still (Address at offset target) leads = passes_object (λ found. target_fits target found.shape) at leads

  back_still : (size : ℕ) (found : Option Links) → back_fits with_dead_one size found ≡ back_fits parts size found
  back_still size None = refl
  back_still size (Some links) = refl

  was_linked : (key : ℕ) (object : Object) (links : Links) → object_at with_dead_one.objects key ≡ Some object → links_in object.shape ≡ Some links → object_at parts.objects key ≡ Some object
  was_linked key object links stands linked = by_key (nat_eq key (length parts.objects)) refl
    where
      by_key : (b : Bool) → nat_eq key (length parts.objects) ≡ b → object_at parts.objects key ≡ Some object
      by_key true is =
          let same : dead_one ≡ object = same_Some _ _ (sym object_new ∙ ap (object_at with_dead_one.objects) (sym (eqb-true _ _ is)) ∙ stands) in
          absurd (none-some links (ap (λ (o : Object). links_in o.shape) same ∙ linked))
      by_key false is = sym (object_other key (λ same. false≢true (sym is ∙ eq-eqb _ _ same))) ∙ stands

  all_more : (test : KeyedObject → Bool) → list_all test parts.objects ≡ true → test last ≡ true → list_all test with_dead_one.objects ≡ true
  all_more test all new = all_append test parts.objects (last ∷ []) all (and_both (test last) true new refl)

  fold_more : (entries : List KeyedObject) (a : ℕ) → fold (λ count (entry : KeyedObject). count + nodes_of entry.object.shape) a (entries ++ last ∷ []) ≡ fold (λ count (entry : KeyedObject). count + nodes_of entry.object.shape) a entries + 1
  fold_more [] a = refl
  fold_more (first ∷ rest) a = fold_more rest (a + nodes_of first.object.shape)

  pub graph_dead_more : nodes parts + 1 < 2 ^ 30 → IsGraph with_dead_one
  graph_dead_more room = record {
    well_formed = record {
      edges_hold_values = all_more (λ entry. list_all (λ edge. has_value parts edge.value) (node_of entry.object).edges) form.edges_hold_values refl;
      edges_are_at_home = all_more (λ entry. list_all (λ edge. passes_at parts (may_stand_in entry.key) edge.value) (node_of entry.object).edges) form.edges_are_at_home refl;
      registers_hold_values = form.registers_hold_values;
      ports_are_values = form.ports_are_values;
      addresses_lead_to_objects = list_all-implies (λ (entry : KeyedValue). leads_to_object parts entry.value) (λ entry. leads_to_object with_dead_one entry.value) (λ entry. leads_still entry.value) parts.values form.addresses_lead_to_objects;
      variables_have_storage = list_all-implies (λ (named : Named). option_map_or is_storage (object_at parts.objects named.object) false) (λ named. option_map_or is_storage (object_at with_dead_one.objects named.object) false)
          (λ named. passes_object is_storage named.object) parts.variables form.variables_have_storage;
      storage_is_distinct = form.storage_is_distinct;
      variables_ascend = form.variables_ascend;
      registers_ascend = form.registers_ascend;
      objects_are_small = all_more (λ entry. nat_le entry.object.size 65536) form.objects_are_small refl;
      planes_are_as_long = all_more (λ entry. has_class_a_byte entry.object) form.planes_are_as_long refl;
      dead_objects_are_bare = all_more (λ entry. entry.object.live || (is_region entry.object.shape && says_nothing entry.object.edges entry.object.plane)) form.dead_objects_are_bare refl;
      segments_are_allocated = all_more (λ entry. is_region entry.object.shape || is_segment_storage entry.object) form.segments_are_allocated refl;
      edges_lie_inside = all_more (λ entry. list_all (lies_in entry.object.size) (node_of entry.object).edges) form.edges_lie_inside refl;
      edges_are_in_order = all_more (λ entry. are_in_order (node_of entry.object).edges) form.edges_are_in_order refl;
      edges_have_their_sizes = all_more (λ entry. list_all (edge_has_size parts) (node_of entry.object).edges) form.edges_have_their_sizes refl;
      edges_have_their_classes = all_more (λ entry. list_all (edge_has_class parts (node_of entry.object).plane) (node_of entry.object).edges) form.edges_have_their_classes refl;
      edges_are_not_zero = all_more (λ entry. list_all (λ edge. passes_at parts (λ value. not (is_zero value)) edge.value) (node_of entry.object).edges) form.edges_are_not_zero refl;
      links_lie_inside = all_more (λ entry. list_all (lies_in entry.object.size) (link_edges entry.object.shape)) form.links_lie_inside refl;
      links_are_in_order = all_more (λ entry. are_in_order (link_edges entry.object.shape)) form.links_are_in_order refl;
      links_have_no_edge = all_more (λ entry. list_all (λ link. list_all (share_no_byte link) (node_of entry.object).edges) (link_edges entry.object.shape)) form.links_have_no_edge refl;
      links_may_be_pointers = all_more (λ entry. list_all (link_is_any (node_of entry.object).plane) (link_edges entry.object.shape)) form.links_may_be_pointers refl;
      links_lead_on = all_more (λ entry. list_all (λ link. passes_at parts is_outward link.value) (link_edges entry.object.shape)) form.links_lead_on refl;
      links_back_fit = all_more (λ entry. back_fits with_dead_one entry.object.size (links_in entry.object.shape))
          (all_same (λ (entry : KeyedObject). back_fits parts entry.object.size (links_in entry.object.shape)) (λ entry. back_fits with_dead_one entry.object.size (links_in entry.object.shape)) (λ entry. back_still entry.object.size (links_in entry.object.shape)) parts.objects form.links_back_fit) refl;
      comes_to_an_end = record {
        ranks = form.comes_to_an_end.ranks;
        next = λ key object links stands linked least. form.comes_to_an_end.next key object links (was_linked key object links stands linked) linked least;
        prev = λ key object links stands linked least. form.comes_to_an_end.prev key object links (was_linked key object links stands linked) linked least;
      };
      values_are_sized = form.values_are_sized;
      pairs_may_be_unequal = form.pairs_may_be_unequal;
      pairs_are_different = form.pairs_are_different;
    };
    within_limits = and_both (nat_lt (nodes with_dead_one) (2 ^ 30)) (nat_lt (length parts.unequal) (2 ^ 30)) (lt-ltb _ _ (subst (λ (n : ℕ). n < 2 ^ 30) (sym (fold_more parts.objects 0)) room))
        (and_right (nat_lt (nodes parts) (2 ^ 30)) (nat_lt (length parts.unequal) (2 ^ 30)) graph.within_limits);
    ascending = record {
      objects = ascending_in_place (λ (entry : KeyedObject). entry.key) (λ entry. entry.object) with_dead_one.objects (in_place_more (λ (entry : KeyedObject). entry.key) (λ entry. entry.object) parts.objects last graph.keys.objects refl);
      values = graph.ascending.values;
    };
    keys = record { objects = in_place_more (λ (entry : KeyedObject). entry.key) (λ entry. entry.object) parts.objects last graph.keys.objects refl; values = graph.keys.values };
  }

  -- Without it.

  none_there : object_at parts.objects (length parts.objects) ≡ None
  none_there = found_next (λ (entry : KeyedObject). entry.key) (λ entry. entry.object) parts.objects graph.keys.objects

  pub dead_less : (state : State) (given : Assignment) → Meets (maps_of with_dead_one) state given → Meets (maps_of parts) state given
  dead_less state given meets = record {
    values = λ at value stands. HasWord-ends (length state.memory) given.blocks (ends_of (object_at with_dead_one.objects) given.word) (ends_of (object_at parts.objects) given.word) value (given.word at) ends_same (meets.values at value stands);
    objects = λ at object stands. meets.objects at object (object_still at (subst (λ (o : Option Object). IsSome o) (sym stands) refl) ∙ stands);
    owners = λ at place number some stands. meets.owners at place number (still at some) stands;
    places = λ at place number some stands. meets.places at place number (still at some) stands;
    used = λ number block stands live. owned number block stands live (meets.used number block stands live);
    variables = meets.variables;
    registers = meets.registers;
    ports = meets.ports;
    rooted = meets.rooted;
    unequal = meets.unequal;
  }
    where
      ends_same : (at : ℕ) → ends_of (object_at parts.objects) given.word at ≡ ends_of (object_at with_dead_one.objects) given.word at
      ends_same at = by_key (nat_eq at (length parts.objects)) refl
        where
          by_key : (b : Bool) → nat_eq at (length parts.objects) ≡ b → ends_of (object_at parts.objects) given.word at ≡ ends_of (object_at with_dead_one.objects) given.word at
          by_key true is =
              ap (ends_of (object_at parts.objects) given.word) (eqb-true _ _ is) ∙ ap (λ (o : Option Object). ends_of (λ key. o) given.word at) none_there
              ∙ sym (ap (ends_of (object_at with_dead_one.objects) given.word) (eqb-true _ _ is) ∙ ap (λ (o : Option Object). ends_of (λ key. o) given.word at) object_new)
          by_key false is = ap (λ (o : Option Object). ends_of (λ key. o) given.word at) (sym (object_other at (λ same. false≢true (sym is ∙ eq-eqb _ _ same))))

      still : (at : ℕ) → IsSome (object_at parts.objects at) → IsSome (object_at with_dead_one.objects at)
      still at some = subst (λ (o : Option Object). IsSome o) (sym (object_still at some)) some

      owned : (number : ℕ) (block : Block) → slice_get state.memory number ≡ Some block → block.live ≡ true → IsOwned (maps_of with_dead_one) given number → IsOwned (maps_of parts) given number
      owned number block stands live is = by_key (nat_eq (given.owner number) (length parts.objects)) refl
        where
          gone : (found : Option Block) → found ≡ Some block → IsGone Heap found → ⊥
          gone None there is = none-some block there
          gone (Some other) there dead = false≢true (sym dead.0 ∙ ap (λ (b : Block). b.live) (same_Some _ _ there) ∙ live)

          one_place : (place one : ℕ) → slice_get (one ∷ []) place ≡ Some number → one ≡ number
          one_place zero one found = same_Some _ _ found
          one_place (suc place) one found = absurd (none-some number found)

          by_key : (b : Bool) → nat_eq (given.owner number) (length parts.objects) ≡ b → IsOwned (maps_of parts) given number
          by_key true mine =
              let has = meets.objects (length parts.objects) dead_one object_new in
              let here = ap (λ (key : ℕ). slice_get (given.blocks key) (given.place number)) (sym (eqb-true _ _ mine)) ∙ is.block in
              let same = one_place (given.place number) has.0 (sym (ap (λ (ns : List ℕ). slice_get ns (given.place number)) has.1) ∙ here) in
              absurd (gone (slice_get state.memory number) stands (subst (λ (n : ℕ). IsGone Heap (slice_get state.memory n)) same has.2))
          by_key false other = record {
            object = subst (λ (o : Option Object). IsSome o) (object_other (given.owner number) (λ same. false≢true (sym other ∙ eq-eqb _ _ same))) is.object;
            block = is.block;
          }
