-- An object that dies with its block: there, and back to a state in which the block lives, where there is room for it.
use Rattle.std.proofs.Common.{◌≡◌, ℕ, ◌+◌, ◌<◌, Bool, true, false, ◌&&◌, not, ◌||◌, List, [], ◌∷◌, length, get_or, set, nat_eq, nat_le, Option, None, Some, refl, sym, ◌∙◌, ap, subst, eqb-true, eq-eqb, ◌⊎◌, inl, inr, arith}
use Rattle.std.specs.Prelude.{IsSome, IsTrue, slice_get}
use Rattle.std.specs.List.{All, list_all}
use Rattle.std.proofs.lemmas.Bool.{false≢true, cases_eq, and_parts}
use Rattle.std.proofs.lemmas.List.{length-set, get_or-set_same, get_or-set_other}
use Rattle.std.proofs.lemmas.List.Elements.{All-set}
use Rattle.std.proofs.lemmas.List.Sums.{AllPass-from_list_all}
use Rattle.std.proofs.lemmas.Option.{same_Some, none-some, slice_get_within, slice_get-get_or}
use Rattle.bytes_core.specs.declared.block.Block.{Block}
use Rattle.bytes_core.specs.Placement.{extent, is_placed, are_compatible, can_be_placed}
use Rattle.bytes_core.specs.Release.{is_heap}
use Rattle.bytes_core.specs.Valid.{NamesBelow, IsMemory}
use Rattle.bytes_core.proofs.Written.{slice_get-set_same}
use Rattle.graph.specs.declared.object.Object.{Object}
use Rattle.graph.specs.declared.object.Shape.TheVariants.{Region as RegionShape}
use Rattle.graph.specs.declared.parts.Parts.{Parts}
use Rattle.graph.specs.Maps.{object_at, value_at}
use Rattle.graph.specs.Nodes.{own_node}
use Rattle.graph.specs.State.{State, IsWordBelow, IsByte, IsState}
use Rattle.graph.specs.WellFormed.{IsWellFormed, has_value, edge_has_size}
use Rattle.graph.specs.Whole.{IsGraph}
use Rattle.graph.specs.Meaning.{IsNode, IsGone, HasBlocks, own_offset, ends_of, maps_of, Assignment, Meets}
use Rattle.graph.proofs.Found.{IsSome-holds}
use Rattle.graph.proofs.InOrder.{disjoint_in_order}
use Rattle.graph.proofs.Tests.{list_all-implies}
use Rattle.changes.specs.Dying.{died}
use Rattle.changes.specs.Parts.{with_object}
use Rattle.changes.proofs.Below.{AreThere, bytes_all, word_names, word_small}
use Rattle.changes.proofs.Change.{AgreeBut-back, changed}
use Rattle.changes.proofs.KeptForm.{graph_kept}
use Rattle.changes.proofs.NodeBack.{bytes_of, node_made}
use Rattle.changes.proofs.Objects.{replaced-here, replaced-other, with_object-agrees}
use Rattle.changes.proofs.RangeForm.{fit_now, plane_long}
use Rattle.changes.proofs.Region.{with_block, with_block-agrees, region_has, small_edge}

-- a block that has died
abbrev pub dead : Block → Block
dead block = record block { live = false }

-- a graph in which a region of the heap is dead is a graph
pub graph_died : (parts : Parts) (key : ℕ) (object : Object) → IsGraph parts → object_at parts.objects key ≡ Some object → object.shape ≡ RegionShape → object.live ≡ true → is_heap object.kind ≡ true →
    IsGraph (with_object key (died object) parts)
graph_died parts key object graph stands region live heap =
    graph_kept parts key object (died object) stands region region
    (sym (ap (λ (b : Bool). b && not (is_heap object.kind)) live ∙ ap not heap)) graph
    (record {
      holds = refl;
      home = refl;
      small = (fit_now parts graph.well_formed key object stands region live).small;
      long = refl;
      bare = refl;
      inside = refl;
      order = refl;
      sizes = refl;
      classes = refl;
      nonzero = refl;
    })

module _ (parts : Parts) (key : ℕ) (object : Object) (stands : object_at parts.objects key ≡ Some object) where
  abbrev pub after : Parts
  after = with_object key (died object) parts

  pub died_here : object_at after.objects key ≡ Some (died object)
  died_here = replaced-here key (died object) parts.objects (IsSome-holds _ _ stands)

  -- there
  pub died_meets : (state : State) (given : Assignment) (number : ℕ) (block : Block) → Meets (maps_of parts) state given → given.blocks key ≡ number ∷ [] → slice_get state.memory number ≡ Some block → block.kind ≡ object.kind →
      Meets (maps_of after) (with_block state number (dead block)) given
  died_meets state given number block meets blocks there kind =
      changed key (maps_of parts) (maps_of after) state (with_block state number (dead block)) given
      (with_object-agrees key object (died object) parts stands refl) (with_block-agrees (given.blocks key) number state (dead block) blocks)
      (λ found is. subst (λ (o : Object). HasBlocks (set state.memory number (dead block)) o given.word (λ value. own_offset (value_at parts.values value)) (given.blocks key)) (same_Some _ _ (sym died_here ∙ is))
      (number, blocks, subst (IsGone object.kind) (sym (slice_get-set_same state.memory number block (dead block) there)) (refl, kind)))
      meets

  -- back

  -- the block of the dead object is there
  pub record IsDeadAt (state : State) (given : Assignment) : Type 0 where
    pub number : ℕ
    pub blocks : given.blocks key ≡ number ∷ []
    pub block : Block
    pub there : slice_get state.memory number ≡ Some block
    pub gone : block.live ≡ false
    pub kind : block.kind ≡ object.kind

  pub dead_at : (state : State) (given : Assignment) → Meets (maps_of after) state given → AreThere after state given → IsDeadAt state given
  dead_at state given meets there = by_block (slice_get state.memory has.0) refl has.2
    where
      has : (number : ℕ) × (given.blocks key ≡ number ∷ []) × IsGone object.kind (slice_get state.memory number)
      has = meets.objects key (died object) died_here

      inside : has.0 < length state.memory
      inside = there key 0 has.0 (IsSome-holds _ _ died_here) (ap (λ (blocks : List ℕ). slice_get blocks 0) has.1)

      by_block : (found : Option Block) → slice_get state.memory has.0 ≡ found → IsGone object.kind found → IsDeadAt state given
      by_block None none gone = absurd (none-some (get_or state.memory has.0 (record { base = 0; kind = object.kind; live = false; bytes = [] })) (sym none ∙ slice_get-get_or state.memory has.0 (record { base = 0; kind = object.kind; live = false; bytes = [] }) inside))
      by_block (Some block) is gone = record { number = has.0; blocks = has.1; block = block; there = is; gone = gone.0; kind = gone.1 }

  module _ (form : IsWellFormed parts) (live : object.live ≡ true) (region : object.shape ≡ RegionShape) (state : State) (given : Assignment) (meets : Meets (maps_of after) state given) (was : IsDeadAt state given) (base : ℕ) where
    -- the block before
    abbrev pub alive : Block
    alive = record { base = base; kind = object.kind; live = true; bytes = bytes_of given.word object }

    abbrev pub state_alive : State
    state_alive = with_block state was.number alive

    node_alive : IsNode object.size object.kind (own_node object) given.word alive
    node_alive =
        let fit = fit_now parts form key object stands region live in
        node_made parts (length state.memory) given.blocks (ends_of (object_at after.objects) given.word) given.word (λ at value is. meets.values at value is) object alive refl refl refl (plane_long parts form key object stands region live)
        (disjoint_in_order object.edges fit.order) fit.inside (list_all-implies (edge_has_size parts) (λ edge. nat_le edge.size 8) (small_edge parts form) object.edges fit.sizes) fit.classes

    pub alive_there : slice_get state_alive.memory was.number ≡ Some alive
    alive_there = slice_get-set_same state.memory was.number was.block alive was.there

    pub alive_meets : Meets (maps_of parts) state_alive given
    alive_meets =
        changed key (maps_of after) (maps_of parts) state state_alive given
        (AgreeBut-back key (maps_of parts) (maps_of after) (with_object-agrees key object (died object) parts stands refl)) (with_block-agrees (given.blocks key) was.number state alive was.blocks)
        (λ found is. subst (λ (o : Object). HasBlocks state_alive.memory o given.word (λ value. own_offset (value_at parts.values value)) (given.blocks key)) (same_Some _ _ (sym stands ∙ is))
        (region_has object state_alive.memory given.word (λ value. own_offset (value_at parts.values value)) was.number alive (given.blocks key) live region was.blocks alive_there node_alive))
        meets

    pub alive_size : length alive.bytes ≡ object.size
    alive_size = node_alive.size

    alive_count : length state_alive.memory ≡ length state.memory
    alive_count = length-set state.memory was.number alive

    -- the same objects are there
    pub there_alive : AreThere after state given → AreThere parts state_alive given
    there_alive there at place number some found = subst (λ (n : ℕ). number < n) (sym alive_count) (there at place number (by_key (nat_eq at key) refl) found)
      where
        by_key : (b : Bool) → nat_eq at key ≡ b → IsSome (object_at after.objects at)
        by_key true is = subst (λ (k : ℕ). IsSome (object_at after.objects k)) (sym (eqb-true _ _ is)) (IsSome-holds _ _ died_here)
        by_key false differ =
            subst (λ (o : Option Object). IsSome o) (sym (replaced-other key (died object) parts.objects at (λ same. false≢true (sym differ ∙ eq-eqb at key same)))) some

    -- the block has room in the memory
    pub alive_state : IsState state → AreThere after state given → IsTrue (can_be_placed state.memory alive) → IsState state_alive
    alive_state is there placed = record {
      memory = memory_alive is.memory;
      bytes = All-set (λ (block : Block). All IsByte block.bytes) state.memory was.number alive small is.bytes;
      variables = λ variable number held. subst (λ (n : ℕ). number < n) (sym alive_count) (is.variables variable number held);
      registers = λ register word held. subst (λ (n : ℕ). IsWordBelow n word) (sym alive_count) (is.registers register word held);
      ports = subst (λ (n : ℕ). All (IsWordBelow n) state.ports) (sym alive_count) is.ports;
      roots = is.roots;
    }
      where
        holds : list_all (λ edge. has_value parts edge.value) object.edges ≡ true
        holds = (fit_now parts form key object stands region live).holds

        small : All IsByte alive.bytes
        small = bytes_all parts state_alive given form alive_meets (there_alive there) IsByte (let z : 0 < 256 = omega arith in z) (word_small (length state_alive.memory)) object holds

        names : All (NamesBelow (length state.memory)) alive.bytes
        names = subst (λ (n : ℕ). All (NamesBelow n) alive.bytes) alive_count (bytes_all parts state_alive given form alive_meets (there_alive there) (NamesBelow (length state_alive.memory)) tt (word_names (length state_alive.memory)) object holds)

        tests : (is_placed alive ≡ true) × (list_all (are_compatible alive) state.memory ≡ true)
        tests = and_parts (is_placed alive) (list_all (are_compatible alive) state.memory) placed

        onward : (i : ℕ) (d : Block) → i < length state.memory → are_compatible alive (get_or state.memory i d) ≡ true
        onward i d inside = AllPass-from_list_all (are_compatible alive) state.memory tests.1 i d inside

        turned : (other : Block) → are_compatible alive other ≡ true → are_compatible other alive ≡ true
        turned other fits = by_live other.live fits
          where
            swapped : (a b : Bool) → (a || b) ≡ true → (b || a) ≡ true
            swapped true true is = refl
            swapped true false is = refl
            swapped false true is = refl
            swapped false false is = is

            by_live : (b : Bool) → (not b || (nat_le (base + extent alive) other.base || nat_le (other.base + extent other) base)) ≡ true → (not b || (nat_le (other.base + extent other) base || nat_le (base + extent alive) other.base)) ≡ true
            by_live true is = swapped (nat_le (base + extent alive) other.base) (nat_le (other.base + extent other) base) is
            by_live false is = refl

        memory_alive : IsMemory state.memory → IsMemory state_alive.memory
        memory_alive valid = record {
          placed = All-set (λ (block : Block). IsTrue (is_placed block)) state.memory was.number alive tests.0 valid.placed;
          apart = λ i j d before below. pair i j d before (subst (λ (n : ℕ). j < n) alive_count below) (cases_eq i was.number) (cases_eq j was.number);
          named = subst (λ (n : ℕ). All (λ (block : Block). All (NamesBelow n) block.bytes) state_alive.memory) (sym alive_count)
              (All-set (λ (block : Block). All (NamesBelow (length state.memory)) block.bytes) state.memory was.number alive names valid.named);
        }
          where
            inside : was.number < length state.memory
            inside = slice_get_within state.memory was.number was.block was.there

            pair : (i j : ℕ) (d : Block) → i < j → j < length state.memory → (i ≡ was.number) ⊎ (i ≡ was.number → ⊥) → (j ≡ was.number) ⊎ (j ≡ was.number → ⊥) →
                IsTrue (are_compatible (get_or state_alive.memory i d) (get_or state_alive.memory j d))
            pair i j d before below (inl first) (inl second) = absurd (omega arith)
            pair i j d before below (inl first) (inr second) =
                rw (first, get_or-set_same state.memory was.number alive d inside, get_or-set_other state.memory was.number j alive d second) (onward j d below)
            pair i j d before below (inr first) (inl second) =
                rw (second, get_or-set_same state.memory was.number alive d inside, get_or-set_other state.memory was.number i alive d first) (turned (get_or state.memory i d) (onward i d (omega arith)))
            pair i j d before below (inr first) (inr second) =
                rw (get_or-set_other state.memory was.number i alive d first, get_or-set_other state.memory was.number j alive d second) (valid.apart i j d before below)
