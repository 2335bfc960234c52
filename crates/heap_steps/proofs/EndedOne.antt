-- A variable whose scope is left: its object dies.
use Rattle.std.proofs.Common.{◌≡◌, ℕ, zero, suc, ◌+◌, ◌<◌, ◌≤◌, Bool, true, false, not, ◌||◌, List, [], ◌∷◌, ◌++◌, map, length, set, nat_eq, nat_le, Option, None, Some, ◌⊎◌, inl, inr, refl, sym, ◌∙◌, ap, subst, eqb-true, eq-eqb, le-leb, leb-true, arith}
use Rattle.std.specs.Prelude.{option_map, slice_get, max, if◌then◌else◌, IsTrue}
use Rattle.std.specs.List.{All, list_all}
use Rattle.std.specs.Option.{option_map_or}
use Rattle.std.proofs.lemmas.Bool.{false≢true, or_left, or_right}
use Rattle.std.proofs.lemmas.Option.{same_Some, none-some, slice_get_within}
use Rattle.bytes_core.specs.declared.block.Block.{Block}
use Rattle.bytes_core.specs.declared.block.BlockKind.{BlockKind}
use Rattle.bytes_core.specs.declared.word.Word.{Word}
use Rattle.bytes_core.specs.Placement.{is_placed, are_compatible, can_be_placed}
use Rattle.bytes_core.specs.Release.{is_heap, without}
use Rattle.bytes_core.specs.Valid.{IsMemory}
use Rattle.graph.specs.declared.object.Object.{Object}
use Rattle.graph.specs.declared.object.Shape.{Shape}
use Rattle.graph.specs.declared.object.Shape.TheVariants.{Region as RegionShape, Segment}
use Rattle.graph.specs.declared.parts.KeyedObject.{KeyedObject}
use Rattle.graph.specs.declared.parts.Named.{Named}
use Rattle.graph.specs.declared.parts.Parts.{Parts}
use Rattle.graph.specs.DeadBlocks.{dead_block, with_memory}
use Rattle.graph.specs.Maps.{object_at, storage_of}
use Rattle.graph.specs.Meaning.{Assignment, Meets, maps_of}
use Rattle.graph.specs.Nodes.{is_region}
use Rattle.graph.specs.State.{State, IsState, IsByte, IsWordBelow, IsLedTo}
use Rattle.graph.specs.WellFormed.{is_storage, is_segment_storage}
use Rattle.graph.specs.Whole.{IsGraph}
use Rattle.graph.proofs.Found.{found-all}
use Rattle.graph.proofs.Tests.{and_left, and_right, and_both}
use Rattle.changes.specs.Dying.{died}
use Rattle.changes.specs.FollowingAlike.{FollowsAlike}
use Rattle.changes.specs.Parts.{emptied, with_object}
use Rattle.changes.proofs.Below.{AreThere}
use Rattle.changes.proofs.DeadAlike.{DifferInDead, dead_alike, more_dead, dead_instead, same_number, below}
use Rattle.changes.proofs.Died.{dead, died_meets, IsDeadAt, dead_at, alive, alive_there, alive_meets, alive_size, alive_state}
use Rattle.changes.proofs.Region.{with_block, IsRegionBlock, region_block}
use Rattle.heap_steps.specs.Leaving.{without_block, EndsOne, CanLieAt, without_variable, with_dead, with_dead_at, without_one}
use Rattle.heap_steps.proofs.DiedForm.{graph_ended}
use Rattle.heap_steps.proofs.VariableGone.{storage_gone, other_storage, gone_graph}
use Rattle.heap_steps.proofs.VariablesChanged.{AgreeButVariables, variables_changed}
use Rattle.heap_steps.proofs.Without.{state_without}

-- Lists.

set_again : {X : Type 0} (xs : List X) (place : ℕ) (one other : X) → set (set xs place one) place other ≡ set xs place other
set_again [] place one other = refl
set_again (first ∷ rest) zero one other = refl
set_again (first ∷ rest) (suc place) one other = ap (λ (ys : List _). first ∷ ys) (set_again rest place one other)

all_set : {X : Type 0} (test : X → Bool) (xs : List X) (place : ℕ) (x : X) → list_all test xs ≡ true → test x ≡ true → list_all test (set xs place x) ≡ true
all_set test [] place x all passes = refl
all_set test (first ∷ rest) zero x all passes = and_both (test x) (list_all test rest) passes (and_right (test first) (list_all test rest) all)
all_set test (first ∷ rest) (suc place) x all passes = and_both (test first) (list_all test (set rest place x)) (and_left (test first) (list_all test rest) all) (all_set test rest place x (and_right (test first) (list_all test rest) all) passes)

-- dead blocks behind leave room
room_behind : (memory : List Block) (kinds : List BlockKind) (block : Block) → list_all (are_compatible block) memory ≡ true → list_all (are_compatible block) (memory ++ map dead_block kinds) ≡ true
room_behind [] [] block all = refl
room_behind [] (kind ∷ kinds) block all = and_both (are_compatible block (dead_block kind)) (list_all (are_compatible block) (map dead_block kinds)) (dead_fits block.live) (room_behind [] kinds block all)
  where
    dead_fits : (b : Bool) → (not b || true) ≡ true
    dead_fits true = refl
    dead_fits false = refl
room_behind (first ∷ rest) kinds block all =
    and_both (are_compatible block first) (list_all (are_compatible block) (rest ++ map dead_block kinds)) (and_left (are_compatible block first) (list_all (are_compatible block) rest) all)
    (room_behind rest kinds block (and_right (are_compatible block first) (list_all (are_compatible block) rest) all))

-- The state behind is one.

pub one_state : (variable : ℕ) (state next : State) → IsState state → EndsOne variable state next → IsState next
one_state variable state next is ends = by_block (state.variables variable) refl
  where
    moved : (memory : List Block) → next.memory ≡ memory → IsState (with_memory memory state) → IsState next
    moved memory same still = record {
      memory = subst IsMemory (sym same) still.memory;
      bytes = subst (λ (m : List Block). All (λ block. All IsByte block.bytes) m) (sym same) still.bytes;
      variables = λ at number stands. subst (λ (m : List Block). number < length m) (sym same) (by_test at number (nat_eq variable at || false) (sym (ends.variables at) ∙ stands));
      registers = λ register word stands. subst (λ (m : List Block). IsWordBelow (length m) word) (sym same) (still.registers register word (sym (ends.registers register) ∙ stands));
      ports = subst (λ (ports : List Word). All (IsWordBelow (length next.memory)) ports) (sym ends.ports) (subst (λ (m : List Block). All (IsWordBelow (length m)) state.ports) (sym same) still.ports);
      roots = subst (λ (roots : List ℕ). All (IsLedTo next.ports) roots) (sym ends.roots) (subst (λ (ports : List Word). All (IsLedTo ports) state.roots) (sym ends.ports) still.roots);
    }
      where
        by_test : (at number : ℕ) (b : Bool) → (if b then None else state.variables at) ≡ Some number → number < length memory
        by_test at number true stands = absurd (none-some number stands)
        by_test at number false stands = still.variables at number stands

    dies : (number : ℕ) → state.variables variable ≡ Some number → (found : Option Block) → slice_get state.memory number ≡ found → IsState next
    dies number stored None none = moved state.memory (ends.memory ∙ ap (λ (o : Option ℕ). without_block o state.memory) stored ∙ ap (without state.memory number) none) is
    dies number stored (Some block) there =
        moved (set state.memory number (dead block)) (ends.memory ∙ ap (λ (o : Option ℕ). without_block o state.memory) stored ∙ ap (without state.memory number) there) (state_without state number block is there)

    by_block : (found : Option ℕ) → state.variables variable ≡ found → IsState next
    by_block None none = moved state.memory (ends.memory ∙ ap (λ (o : Option ℕ). without_block o state.memory) none) is
    by_block (Some number) stored = dies number stored (slice_get state.memory number) refl

module _ (variable key : ℕ) (object : Object) (parts : Parts) (graph : IsGraph parts) (named : storage_of parts.variables variable ≡ Some key) (stands : object_at parts.objects key ≡ Some object) where
  storage : is_storage object ≡ true
  storage =
      sym (ap (λ (o : Option Object). option_map_or is_storage o false) stands)
      ∙ found-all (λ (named : Named). named.variable) (λ named. named.object) (λ key. option_map_or is_storage (object_at parts.objects key) false) parts.variables variable key graph.well_formed.variables_have_storage named

  pub live : object.live ≡ true
  live = and_left object.live (not (is_heap object.kind)) storage

  pub not_heap : not (is_heap object.kind) ≡ true
  not_heap = and_right object.live (not (is_heap object.kind)) storage

  pub region : object.shape ≡ RegionShape
  region = by_shape object.shape refl (found-all (λ (entry : KeyedObject). entry.key) (λ entry. entry.object) (λ (object : Object). is_region object.shape || is_segment_storage object) parts.objects key object graph.well_formed.segments_are_allocated stands)
    where
      heap : (b : Bool) → is_heap object.kind ≡ b → b ≡ true → ⊥
      heap b is same = false≢true (sym (ap not (is ∙ same)) ∙ not_heap)

      by_shape : (shape : Shape) → object.shape ≡ shape → (is_region object.shape || is_segment_storage object) ≡ true → object.shape ≡ RegionShape
      by_shape RegionShape is stored = is
      by_shape (Segment twofold head next prev back least next_value prev_value node) is stored =
          let other : is_segment_storage object ≡ true = sym (ap (λ (s : Shape). is_region s || is_segment_storage object) is) ∙ stored in
          absurd (heap (is_heap object.kind) refl (and_left (is_heap object.kind) _ (and_right object.live _ other)))

  abbrev pub gone : Parts
  gone = without_variable variable parts

  abbrev pub ended : Parts
  ended = with_object key (died object) gone

  pub one_is : without_one variable parts ≡ ended
  one_is = ap (λ (o : Option ℕ). with_dead_at o gone) named ∙ ap (λ (o : Option Object). with_dead key o gone) stands

  pub ended_graph : IsGraph ended
  ended_graph = graph_ended key object gone (gone_graph variable parts graph) stands region (other_storage variable parts graph key named)

  agrees : AgreeButVariables (maps_of parts) (maps_of gone)
  agrees = record { objects = λ at. refl; values = λ at. refl; registers = λ at. refl; ports = refl; unequal = refl }

  agrees_back : AgreeButVariables (maps_of gone) (maps_of parts)
  agrees_back = record { objects = λ at. refl; values = λ at. refl; registers = λ at. refl; ports = refl; unequal = refl }

  -- there, with the same words and blocks
  module _ (state next : State) (given : Assignment) (meets : Meets (maps_of parts) state given) (ends : EndsOne variable state next) where
    block_then : IsRegionBlock object state given key
    block_then = region_block parts state given key object meets stands live region

    stored_then : state.variables variable ≡ Some block_then.number
    stored_then = by_found (state.variables variable) (meets.variables variable ∙ ap (option_map given.blocks) named)
      where
        by_found : (found : Option ℕ) → option_map (λ number. number ∷ []) found ≡ Some (given.blocks key) → found ≡ Some block_then.number
        by_found None same = absurd (none-some (given.blocks key) same)
        by_found (Some number) same = head number block_then.number (same_Some _ _ same ∙ block_then.blocks)
          where
            head : (a b : ℕ) → a ∷ [] ≡ b ∷ [] → Some a ≡ Some b
            head a b lists = ap (λ (xs : List ℕ). slice_get xs 0) lists

    abbrev middle : State
    middle = record state { variables = emptied (variable ∷ []) state.variables }

    gone_meets : Meets (maps_of gone) middle given
    gone_meets = variables_changed (maps_of parts) (maps_of gone) state middle given agrees (record { memory = refl; registers = λ at. refl; ports = refl; roots = refl })
        (λ at. by_test at (nat_eq variable at || false) (meets.variables at) ∙ ap (option_map given.blocks) (sym (storage_gone variable parts graph at))) meets
      where
        by_test : (at : ℕ) (b : Bool) → option_map (λ number. number ∷ []) (state.variables at) ≡ option_map given.blocks (storage_of parts.variables at) →
            option_map (λ number. number ∷ []) (if b then None else state.variables at) ≡ option_map given.blocks (if b then None else storage_of parts.variables at)
        by_test at true same = refl
        by_test at false same = same

    pub ended_meets : Meets (maps_of ended) next given
    ended_meets = variables_changed (maps_of ended) (maps_of ended) (with_block middle block_then.number (dead block_then.block)) next given
        (record { objects = λ at. refl; values = λ at. refl; registers = λ at. refl; ports = refl; unequal = refl })
        (record {
          memory = ends.memory ∙ ap (λ (o : Option ℕ). without_block o state.memory) stored_then ∙ ap (without state.memory block_then.number) block_then.there;
          registers = ends.registers;
          ports = ends.ports;
          roots = ends.roots;
        })
        (λ at. ap (option_map (λ number. number ∷ [])) (ends.variables at) ∙ gone_meets.variables at)
        (died_meets gone key object stands middle given block_then.number block_then.block gone_meets block_then.blocks block_then.there block_then.node.kind)

  -- and back, where there is room for the block
  module _ (one : State) (is_one : IsState one) (kinds : List BlockKind) (given : Assignment)
      (is : IsState (with_memory (one.memory ++ map dead_block kinds) one)) (meets : Meets (maps_of ended) (with_memory (one.memory ++ map dead_block kinds) one) given)
      (there : AreThere ended (with_memory (one.memory ++ map dead_block kinds) one) given) (base : ℕ) (room : CanLieAt one.memory base) where
    abbrev full : State
    full = with_memory (one.memory ++ map dead_block kinds) one

    abbrev was : IsDeadAt gone key object stands full given
    was = dead_at gone key object stands full given meets there

    abbrev lives : Block
    lives = alive gone key object stands (gone_graph variable parts graph).well_formed live region full given meets was base

    small_now : length lives.bytes ≤ 65536
    small_now =
        let long : length lives.bytes ≡ object.size = alive_size gone key object stands (gone_graph variable parts graph).well_formed live region full given meets was base in
        let small = leb-true object.size 65536 (found-all (λ (entry : KeyedObject). entry.key) (λ entry. entry.object) (λ (object : Object). nat_le object.size 65536) parts.objects key object graph.well_formed.objects_are_small stands) in omega arith

    can_lie : IsTrue (can_be_placed full.memory lives)
    can_lie =
        let here = room object.kind lives.bytes small_now in
        and_both (is_placed lives) (list_all (are_compatible lives) full.memory) (and_left (is_placed lives) (list_all (are_compatible lives) one.memory) here)
        (room_behind one.memory kinds lives (and_right (is_placed lives) (list_all (are_compatible lives) one.memory) here))

    abbrev revived : State
    revived = with_block full was.number lives

    revived_meets : Meets (maps_of gone) revived given
    revived_meets = alive_meets gone key object stands (gone_graph variable parts graph).well_formed live region full given meets was base

    revived_state : IsState revived
    revived_state = alive_state gone key object stands (gone_graph variable parts graph).well_formed live region full given meets was base is there can_lie

    abbrev stored : ℕ → Option ℕ
    stored at = if nat_eq variable at then Some was.number else one.variables at

    abbrev pub before : State
    before = record revived { variables = stored }

    pub before_meets : Meets (maps_of parts) before given
    before_meets = variables_changed (maps_of gone) (maps_of parts) revived before given agrees_back (record { memory = refl; registers = λ at. refl; ports = refl; roots = refl })
        (λ at. by_test at (nat_eq variable at) refl (revived_meets.variables at ∙ ap (option_map given.blocks) (storage_gone variable parts graph at))) revived_meets
      where
        by_test : (at : ℕ) (b : Bool) → nat_eq variable at ≡ b → option_map (λ number. number ∷ []) (one.variables at) ≡ option_map given.blocks (if b || false then None else storage_of parts.variables at) →
            option_map (λ number. number ∷ []) (if b then Some was.number else one.variables at) ≡ option_map given.blocks (storage_of parts.variables at)
        by_test at true same held = ap Some (sym was.blocks) ∙ sym (ap (option_map given.blocks) (ap (storage_of parts.variables) (sym (eqb-true _ _ same)) ∙ named))
        by_test at false same held = held

    pub before_state : IsState before
    before_state = record { memory = revived_state.memory; bytes = revived_state.bytes; variables = λ at number held. by_test at number (nat_eq variable at) held; registers = revived_state.registers; ports = revived_state.ports; roots = revived_state.roots }
      where
        by_test : (at number : ℕ) (b : Bool) → (if b then Some was.number else one.variables at) ≡ Some number → number < length revived.memory
        by_test at number true held = subst (λ (n : ℕ). n < length revived.memory) (same_Some _ _ held) (slice_get_within revived.memory was.number lives lives_there)
          where
            lives_there : slice_get revived.memory was.number ≡ Some lives
            lives_there = alive_there gone key object stands (gone_graph variable parts graph).well_formed live region full given meets was base
        by_test at number false held = revived_state.variables at number held

    abbrev pub behind : State
    behind = record { memory = set full.memory was.number (dead lives); variables = emptied (variable ∷ []) stored; registers = one.registers; ports = one.ports; roots = one.roots }

    pub ends_so : EndsOne variable before behind
    ends_so = record {
      memory = sym (ap (λ (b : Bool). without_block (if b then Some was.number else one.variables variable) revived.memory) (eq-eqb variable variable refl)
          ∙ ap (without revived.memory was.number) (alive_there gone key object stands (gone_graph variable parts graph).well_formed live region full given meets was base)
          ∙ set_again full.memory was.number lives (dead lives));
      variables = λ at. refl;
      registers = λ at. refl;
      ports = refl;
      roots = refl;
    }

    pub differs : DifferInDead one behind
    differs = record {
      blocks = instead.blocks;
      variables = λ at. by_test at (nat_eq variable at) refl (meets.variables at ∙ ap (option_map given.blocks) (storage_gone variable parts graph at));
      registers = λ at. refl;
      ports = refl;
      roots = refl;
    }
      where
        instead : DifferInDead one (with_block full was.number (dead lives))
        instead = dead_instead one full was.number was.block (dead lives) (more_dead one full (record { kinds = kinds; is = refl })) was.there was.gone refl (sym was.kind)

        by_test : (at : ℕ) (b : Bool) → nat_eq variable at ≡ b → option_map (λ number. number ∷ []) (one.variables at) ≡ option_map given.blocks (if b || false then None else storage_of parts.variables at) →
            (if b || false then None else (if b then Some was.number else one.variables at)) ≡ one.variables at
        by_test at true same held = sym (none_of (one.variables at) held)
          where
            none_of : (found : Option ℕ) → option_map (λ number. number ∷ []) found ≡ None → found ≡ None
            none_of None none = refl
            none_of (Some number) none = absurd (none-some (number ∷ []) (sym none))
        by_test at false same held = refl

    pub ended_follows : FollowsAlike parts (EndsOne variable) one
    ended_follows = record {
      state = before;
      next' = behind;
      is = before_state;
      stands = record { given = given; meets = before_meets };
      steps = ends_so;
      there = same_number;
      back = same_number;
      paired = below (length one.memory);
      alike = dead_alike one behind is_one differs;
    }

    -- other blocks can lie where they could, apart from this one
    pub room_still : (other : ℕ) → CanLieAt one.memory other → (other + 65536 ≤ base) ⊎ (base + 65536 ≤ other) → CanLieAt before.memory other
    room_still other lie apart kind bytes fits =
        let here = lie kind bytes fits in
        and_both (is_placed new) (list_all (are_compatible new) before.memory) (and_left (is_placed new) (list_all (are_compatible new) one.memory) here)
        (all_set (are_compatible new) full.memory was.number lives (room_behind one.memory kinds new (and_right (is_placed new) (list_all (are_compatible new) one.memory) here)) (beside apart))
      where
        new : Block
        new = record { base = other; kind = kind; live = true; bytes = bytes }

        beside : (other + 65536 ≤ base) ⊎ (base + 65536 ≤ other) → are_compatible (record { base = other; kind = kind; live = true; bytes = bytes }) lives ≡ true
        beside (inl first) = or_left (nat_le (other + max 16 (length bytes)) base) (nat_le (base + max 16 (length lives.bytes)) other) (le-leb _ _ (omega arith))
        beside (inr second) = or_right (nat_le (other + max 16 (length bytes)) base) (nat_le (base + max 16 (length lives.bytes)) other) (let small = small_now in le-leb _ _ (omega arith))
