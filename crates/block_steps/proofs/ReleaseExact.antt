-- Each state of the graph of a release's post is alike one that follows, where there is room for the block that dies.
use Rattle.std.proofs.Common.{◌≡◌, ℕ, zero, suc, ◌≤◌, Bool, true, false, ◌&&◌, List, [], ◌∷◌, length, set, ℤ, pos, nat_eq, Option, None, Some, refl, sym, ◌∙◌, ap, subst, leb-true, arith}
use Rattle.std.specs.Prelude.{IsTrue, slice_get, Contains, option_map, if◌then◌else◌}
use Rattle.std.specs.Ordering.{int_eq}
use Rattle.std.proofs.lemmas.Bool.Decides.{Decides-int_eq}
use Rattle.std.proofs.lemmas.Option.{none-some}
use Rattle.bytes_core.specs.declared.block.Block.{Block}
use Rattle.bytes_core.specs.declared.word.Word.TheVariants.{Plain, To}
use Rattle.bytes_core.specs.Fault.{double_free, invalid_free}
use Rattle.bytes_core.specs.Placement.{can_be_placed}
use Rattle.bytes_core.specs.Release.{is_heap, block_free_fault, free_fault, freed}
use Rattle.graph.specs.declared.object.Object.{Object}
use Rattle.graph.specs.declared.object.Shape.TheVariants.{Region as RegionShape}
use Rattle.graph.specs.declared.parts.Parts.{Parts}
use Rattle.graph.specs.declared.value.Target.{Target}
use Rattle.graph.specs.declared.value.Target.TheVariants.{Region}
use Rattle.graph.specs.declared.value.Value.{Value}
use Rattle.graph.specs.declared.value.Value.TheVariants.{Const, Number, Any, Address}
use Rattle.graph.specs.DeadBlocks.{IsWithAllBlocks}
use Rattle.graph.specs.Maps.{object_at, value_at, held_by}
use Rattle.graph.specs.Sizes.{value_size}
use Rattle.graph.specs.State.{State, IsState}
use Rattle.graph.specs.WellFormed.{IsWellFormed}
use Rattle.graph.specs.Whole.{IsGraph}
use Rattle.graph.specs.Meaning.{block_word, first_of, maps_of, Assignment, Meets, StandsFor}
use Rattle.graph.proofs.AllThere.{all_blocks_may_be_there}
use Rattle.graph.proofs.Tests.{and_left, and_right}
use Rattle.changes.specs.Dying.{died}
use Rattle.changes.specs.Following.{Leaves}
use Rattle.changes.specs.FollowingAlike.{FollowsAlike}
use Rattle.changes.specs.Parts.{emptied, with_object, without_registers}
use Rattle.changes.specs.Posted.{Posted}
use Rattle.changes.specs.Reaching.{is_excluded, is_address_held, names_no_segment}
use Rattle.changes.proofs.DeadAlike.{same_number, below, dead_alike, more_dead, dead_instead, room_more}
use Rattle.changes.proofs.Died.{dead, graph_died, IsDeadAt, dead_at, alive, state_alive, alive_there, alive_meets, alive_size, alive_state}
use Rattle.changes.proofs.Emptied.{before, before_meets, before_state, before_leaves}
use Rattle.changes.proofs.Held.{IsAddress, address_at, address_held, state_held, held_meets, held_state}
use Rattle.changes.proofs.Meeting.{region_target}
use Rattle.changes.proofs.RangeForm.{fit_now}
use Rattle.changes.proofs.Reached.{only_one, none_in}
use Rattle.changes.proofs.Region.{with_block}
use Rattle.changes.proofs.RegistersChanged.{without_agrees, held_without, emptied-words}
use Rattle.heap_steps.specs.Leaving.{CanLieAt}
use Rattle.block_steps.specs.Releasing.{Releases, with_null, only_graph, value_released, release_post, IsRegionFound}
use Rattle.block_steps.proofs.ReleaseFault.{region_of}
use Rattle.block_steps.proofs.ReleaseNumber.{null_exact as number_exact, graph_null}
use Rattle.block_steps.proofs.ReleaseSound.{release_held, address_released, freed_is, IsReleasable}

-- the offset of the first byte
zero_offset : (offset : ℤ) → int_eq offset (pos 0) ≡ true → offset ≡ pos 0
zero_offset offset is = (Decides-int_eq offset (pos 0)).0 is

-- a block put in place of another one that was put there
set_again : (memory : List Block) (number : ℕ) (one other : Block) → set (set memory number one) number other ≡ set memory number other
set_again [] number one other = refl
set_again (first ∷ rest) zero one other = refl
set_again (first ∷ rest) (suc number) one other = ap (λ (blocks : List Block). first ∷ blocks) (set_again rest number one other)

-- where a block more can lie
pub record IsPlaceFound (memory : List Block) : Type 0 where
  pub base : ℕ
  pub place : CanLieAt memory base

module _ (parts : Parts) (graph : IsGraph parts) (at : ℕ) (address : is_address_held parts at ≡ true) where
  abbrev form : IsWellFormed parts
  form = graph.well_formed

  abbrev gone : List ℕ
  gone = at ∷ []

  pub target : (key : ℕ) × (held_by parts.registers at ≡ Some key)
  target = address_held parts at address

  pub target_value : IsAddress parts target.0
  target_value = address_at parts at target.0 target.1 address

  -- null
  null_exact : (number size : ℕ) (next : State) → value_at parts.values target.0 ≡ Some (Const number size) → nat_eq number 0 ≡ true → IsState next → StandsFor (without_registers gone parts) next → FollowsAlike parts (Releases at) next
  null_exact number size next stands' same is stands = record {
    state = was;
    next' = all.next;
    is = before_state gone parts graph all.next all.given all.is all.meets all.there;
    stands = record { given = all.given; meets = meets };
    steps = record {
      to = all.given.word target.0;
      address = ap (option_map all.given.word) target.1;
      allowed = ap (free_fault was.memory) word ∙ ap (λ (b : Bool). if b then None else Some invalid_free) same;
      leaves = subst (λ (memory : List Block). Leaves memory (emptied gone was.registers) was all.next) (sym (ap (freed was.memory) word)) (before_leaves gone parts graph all.next all.given all.meets);
    };
    there = same_number;
    back = same_number;
    paired = below (length next.memory);
    alike = dead_alike next all.next is (more_dead next all.next all.more);
  }
    where
      all : IsWithAllBlocks (without_registers gone parts) next
      all = all_blocks_may_be_there (without_registers gone parts) next stands.given is stands.meets

      was : State
      was = before gone parts graph all.given all.next

      meets : Meets (maps_of parts) was all.given
      meets = before_meets gone parts graph all.next all.given all.meets

      word : all.given.word target.0 ≡ Plain number
      word = meets.values target.0 (Const number size) stands'

  -- an object that died
  module _ (key : ℕ) (offset : ℤ) (object : Object) (stands' : value_at parts.values target.0 ≡ Some (Address key offset Region)) (there : object_at parts.objects key ≡ Some object) (region : object.shape ≡ RegionShape) (may : IsReleasable object offset) where
    heap : is_heap object.kind ≡ true
    heap = and_left (is_heap object.kind) (int_eq offset (pos 0)) may.here

    first : offset ≡ pos 0
    first = zero_offset offset (and_right (is_heap object.kind) (int_eq offset (pos 0)) may.here)

    abbrev after : Parts
    after = with_object key (died object) parts

    after_graph : IsGraph after
    after_graph = graph_died parts key object graph there region may.live heap

    object_exact : (next : State) → IsState next → IsPlaceFound next.memory → StandsFor (without_registers gone after) next → FollowsAlike parts (Releases at) next
    object_exact next is room stands = record {
      state = was;
      next' = behind;
      is = alive_state parts key object there form may.live region middle given middle_meets dies room.base (held_state after (without_registers gone after) after_graph.well_formed all.next given (without_agrees gone after) all.meets all.is all.there) all.there placed;
      stands = record { given = given; meets = meets };
      steps = record {
        to = given.word target.0;
        address = ap (option_map given.word) target.1;
        allowed = ap (free_fault was.memory) word ∙ ap (λ (o : Option Block). block_free_fault o (pos 0)) stood
            ∙ ap (λ (b : Bool). if b && true then None else Some invalid_free) heap;
        leaves = record {
          memory = sym (ap (freed was.memory) word ∙ freed_is was.memory dies.number (pos 0) lives stood ∙ set_again all.next.memory dies.number lives (dead lives));
          registers = λ register. all.meets.registers register ∙ ap (option_map given.word) (held_without gone after register) ∙ sym (emptied-words given.word gone (held_by parts.registers) was.registers register refl);
          variables = λ variable. refl;
          ports = refl;
          roots = refl;
        };
      };
      there = same_number;
      back = same_number;
      paired = below (length next.memory);
      alike = dead_alike next behind is (dead_instead next all.next dies.number dies.block (dead lives) (more_dead next all.next all.more) dies.there dies.gone refl (sym dies.kind));
    }
      where
        all : IsWithAllBlocks (without_registers gone after) next
        all = all_blocks_may_be_there (without_registers gone after) next stands.given is stands.meets

        given : Assignment
        given = all.given

        middle : State
        middle = state_held after (without_registers gone after) after_graph.well_formed all.next given (without_agrees gone after) all.meets

        middle_meets : Meets (maps_of after) middle given
        middle_meets = held_meets after (without_registers gone after) after_graph.well_formed all.next given (without_agrees gone after) all.meets

        dies : IsDeadAt parts key object there middle given
        dies = dead_at parts key object there middle given middle_meets all.there

        lives : Block
        lives = alive parts key object there form may.live region middle given middle_meets dies room.base

        was : State
        was = state_alive parts key object there form may.live region middle given middle_meets dies room.base

        meets : Meets (maps_of parts) was given
        meets = alive_meets parts key object there form may.live region middle given middle_meets dies room.base

        stood : slice_get was.memory dies.number ≡ Some lives
        stood = alive_there parts key object there form may.live region middle given middle_meets dies room.base

        behind : State
        behind = with_block all.next dies.number (dead lives)

        word : given.word target.0 ≡ To dies.number (pos 0)
        word = meets.values target.0 (Address key offset Region) stands' ∙ ap (λ (z : ℤ). block_word (first_of (given.blocks key)) z) first ∙ ap (λ (ns : List ℕ). block_word (first_of ns) (pos 0)) dies.blocks

        small : length lives.bytes ≤ 65536
        small =
            let size = alive_size parts key object there form may.live region middle given middle_meets dies room.base in
            let few = leb-true _ _ (fit_now parts form key object there region may.live).small in omega arith

        placed : IsTrue (can_be_placed middle.memory lives)
        placed = room_more next all.next lives all.more (room.place object.kind lives.bytes small)

  -- the memory behind has a place for a block more where an object dies
  abbrev pub HasPlaceBehind : State → Type 0
  HasPlaceBehind next =
      (key : ℕ) (object : Object) → object_at parts.objects key ≡ Some object → object.shape ≡ RegionShape → object.live ≡ true → is_heap object.kind ≡ true → StandsFor (without_registers (at ∷ []) (with_object key (died object) parts)) next →
      IsPlaceFound next.memory

  -- each state of the post's graph
  pub release_exact : (after : Parts) (next : State) → (release_post parts at).loss ≡ None → Contains (release_post parts at).graphs after → IsState next → StandsFor after next → HasPlaceBehind next → FollowsAlike parts (Releases at) next
  release_exact after next none among is stands room = by_value target_value.value target_value.is target_value.names target_value.size
    where
      in_post : (value : Value) → value_at parts.values target.0 ≡ Some value → Contains (value_released parts gone target.0 (Some value)).graphs after
      in_post value stands' = subst (λ (p : Posted). Contains p.graphs after) (release_held parts at target.0 value target.1 stands') among

      null : (number size : ℕ) → value_at parts.values target.0 ≡ Some (Const number size) → (b : Bool) → nat_eq number 0 ≡ b →
          Contains (if b then only_graph (without_registers gone parts) else record { graphs = []; kinds = invalid_free ∷ []; loss = None }).graphs after → FollowsAlike parts (Releases at) next
      null number size stands' true same there = null_exact number size next stands' same is (subst (λ (g : Parts). StandsFor g next) (sym (only_one (without_registers gone parts) after there)) stands)
      null number size stands' false differ there = none_in after there

      object : (key : ℕ) (offset : ℤ) → value_at parts.values target.0 ≡ Some (Address key offset Region) → FollowsAlike parts (Releases at) next
      object key offset stands' =
          by_tests (is_heap region.found.kind && int_eq offset (pos 0)) refl region.found.live refl
          (subst (λ (p : Posted). Contains p.graphs after) (address_released parts gone target.0 key offset region.found region.is) (in_post (Address key offset Region) stands'))
        where
          region : IsRegionFound parts key
          region = region_of parts target.0 key offset form stands'

          by_tests : (b : Bool) → (is_heap region.found.kind && int_eq offset (pos 0)) ≡ b → (c : Bool) → region.found.live ≡ c →
              Contains (if b then (if c then only_graph (without_registers gone (with_object key (died region.found) parts)) else record { graphs = []; kinds = double_free ∷ []; loss = None }) else record { graphs = []; kinds = invalid_free ∷ []; loss = None }).graphs after →
              FollowsAlike parts (Releases at) next
          by_tests true here true live there =
              let dead_stands = subst (λ (g : Parts). StandsFor g next) (sym (only_one (without_registers gone (with_object key (died region.found) parts)) after there)) stands in
              object_exact key offset region.found stands' region.is region.region (record { here = here; live = live }) next is
              (room key region.found region.is region.region live (and_left (is_heap region.found.kind) (int_eq offset (pos 0)) here) dead_stands) dead_stands
          by_tests true here false dies there = none_in after there
          by_tests false elsewhere c live there = none_in after there

      number : value_at parts.values target.0 ≡ Some (Number 8) → FollowsAlike parts (Releases at) next
      number stands' = by_test (is_excluded parts target.0 0) refl (in_post (Number 8) stands')
        where
          by_test : (b : Bool) → is_excluded parts target.0 0 ≡ b → Contains (if b then [] else without_registers gone (with_null target.0 parts) ∷ []) after → FollowsAlike parts (Releases at) next
          by_test true excluded there = none_in after there
          by_test false free there =
              number_exact parts graph target.0 stands' at target.1 free (graph_null parts graph target.0 stands') next is
              (subst (λ (g : Parts). StandsFor g next) (sym (only_one (without_registers gone (with_null target.0 parts)) after there)) stands)

      by_value : (value : Value) → value_at parts.values target.0 ≡ Some value → names_no_segment value ≡ true → value_size value ≡ 8 → FollowsAlike parts (Releases at) next
      by_value (Const number size) stands' names sized = null number size stands' (nat_eq number 0) refl (in_post (Const number size) stands')
      by_value (Number size) stands' names sized = number (stands' ∙ ap (λ (n : ℕ). Some (Number n)) sized)
      by_value Any stands' names sized = absurd (none-some 4 (sym (sym (ap (λ (p : Posted). p.loss) (release_held parts at target.0 Any target.1 stands')) ∙ none)))
      by_value (Address key offset t) stands' names sized = object key offset (stands' ∙ ap (λ (t : Target). Some (Address key offset t)) (region_target key offset t names))
