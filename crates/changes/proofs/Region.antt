-- Other bytes in a range of a live region's block, of which other edges and classes are said: there, and back.
use Rattle.std.proofs.Common.{◌≡◌, ℕ, zero, suc, ◌+◌, ◌<◌, ◌≤◌, Bool, true, false, List, [], ◌∷◌, ◌++◌, length, take, drop, set, nat_eq, nat_le, Option, Some, refl, sym, ◌∙◌, ap, subst, eqb-true, eq-eqb, le-leb, arith, ◌⊎◌, inl, inr}
use Rattle.std.specs.Prelude.{IsSome, slice_get, ℤ}
use Rattle.std.specs.List.{All}
use Rattle.std.specs.Option.{option_map_or}
use Rattle.std.proofs.lemmas.Bool.{false≢true}
use Rattle.std.proofs.lemmas.List.{length-set}
use Rattle.std.proofs.lemmas.List.Elements.{All-set, All-take, All-drop, All-append}
use Rattle.std.proofs.lemmas.Option.{same_Some, slice_get_within, get_or_from_slice_get}
use Rattle.bytes_core.specs.declared.byte.Byte.{Byte}
use Rattle.bytes_core.specs.declared.byte.Byte.TheVariants.{Num}
use Rattle.bytes_core.specs.declared.word.Word.{Word}
use Rattle.bytes_core.specs.declared.block.Block.{Block}
use Rattle.bytes_core.specs.Value.{word_bytes}
use Rattle.bytes_core.specs.Valid.{NamesBelow}
use Rattle.bytes_core.proofs.Kept.{IsMemory-bytes}
use Rattle.bytes_core.proofs.Written.{slice_get-set_same, slice_get-set_other}
use Rattle.graph.specs.declared.edges.HasValue.{HasValue}
use Rattle.graph.specs.declared.object.Object.{Object}
use Rattle.graph.specs.declared.object.Shape.{Shape}
use Rattle.graph.specs.declared.object.Shape.TheVariants.{Region as RegionShape}
use Rattle.graph.specs.declared.parts.KeyedValue.{KeyedValue}
use Rattle.graph.specs.declared.parts.Parts.{Parts}
use Rattle.graph.specs.declared.value.Value.{Value}
use Rattle.graph.specs.Maps.{object_at, value_at}
use Rattle.graph.specs.Nodes.{own_node}
use Rattle.graph.specs.Sizes.{value_size, is_sized}
use Rattle.graph.specs.State.{State, IsWordBelow, IsByte, IsState}
use Rattle.graph.specs.WellFormed.{IsWellFormed, edge_has_size}
use Rattle.graph.specs.Meaning.{HaveClasses, HoldEdges, IsNode, HasShape, HasBlocksAs, HasBlocks, HasWord, ends_of, own_offset, maps_of, Assignment, Meets}
use Rattle.graph.proofs.AlikeStates.{All-at}
use Rattle.graph.proofs.Found.{Holds-some, found-all, IsSome-holds}
use Rattle.graph.proofs.InOrder.{disjoint_in_order}
use Rattle.graph.proofs.Scalars.{size_of_sized}
use Rattle.graph.proofs.Sent.{passes-some}
use Rattle.graph.proofs.Tests.{list_all-implies}
use Rattle.changes.specs.Ranges.{spliced, cuts_none, with_range}
use Rattle.changes.specs.Parts.{with_object}
use Rattle.changes.proofs.Splice.{length-spliced}
use Rattle.changes.proofs.Change.{AgreeBut-back, Among, AgreeBeside, changed}
use Rattle.changes.proofs.Objects.{replaced-here, replaced-other, with_object-agrees}
use Rattle.changes.proofs.Node.{block_with, node_in_range}
use Rattle.changes.proofs.NodeBack.{bytes_of, range_of, long_range, node_before, put_back}
use Rattle.changes.proofs.Below.{AreThere, bytes_all, word_names, word_small}
use Rattle.changes.proofs.RangeForm.{fit_now, plane_long}

-- another block with a number
abbrev pub with_block : State → ℕ → Block → State
with_block state number block = record state { memory = set state.memory number block }

pub with_block-agrees : (numbers : List ℕ) (number : ℕ) (state : State) (block : Block) → numbers ≡ number ∷ [] → AgreeBeside numbers state (with_block state number block)
with_block-agrees numbers number state block is = record {
  count = length-set state.memory number block;
  blocks = λ other. by_test other (nat_eq other number) refl;
  variables = λ at. refl;
  registers = λ at. refl;
  ports = refl;
  roots = refl;
}
  where
    by_test : (other : ℕ) (b : Bool) → nat_eq other number ≡ b → Among numbers other ⊎ (slice_get (set state.memory number block) other ≡ slice_get state.memory other)
    by_test other true same = inl (0, ap (λ (ns : List ℕ). slice_get ns 0) is ∙ ap Some (sym (eqb-true _ _ same)))
    by_test other false differ = inr (slice_get-set_other state.memory number other block (λ same. false≢true (sym differ ∙ eq-eqb other number same)))

pub set_back : (memory : List Block) (number : ℕ) (old new : Block) → slice_get memory number ≡ Some old → set (set memory number new) number old ≡ memory
set_back [] number old new stands = refl
set_back (first ∷ rest) zero old new stands = ap (λ (b : Block). b ∷ rest) (sym (same_Some _ _ stands))
set_back (first ∷ rest) (suc number) old new stands = ap (λ (bs : List Block). first ∷ bs) (set_back rest number old new stands)

-- a live region has its block
pub region_has : (object : Object) (memory : List Block) (word : ℕ → Word) (own : ℕ → Option ℤ) (number : ℕ) (block : Block) (blocks : List ℕ) → object.live ≡ true → object.shape ≡ RegionShape →
    blocks ≡ number ∷ [] → slice_get memory number ≡ Some block → IsNode object.size object.kind (own_node object) word block → HasBlocks memory object word own blocks
region_has object memory word own number block blocks live region is there node =
    subst (λ (b : Bool). HasBlocksAs b memory object word own blocks) (sym live)
    (subst (λ (shape : Shape). HasShape shape memory object word own blocks) (sym region) (number, is, record { block = block; there = there; node = node }))

pub record IsRegionBlock (object : Object) (state : State) (given : Assignment) (key : ℕ) : Type 0 where
  pub number : ℕ
  pub blocks : given.blocks key ≡ number ∷ []
  pub block : Block
  pub there : slice_get state.memory number ≡ Some block
  pub node : IsNode object.size object.kind (own_node object) given.word block

pub region_block : (parts : Parts) (state : State) (given : Assignment) (key : ℕ) (object : Object) → Meets (maps_of parts) state given → object_at parts.objects key ≡ Some object → object.live ≡ true → object.shape ≡ RegionShape →
    IsRegionBlock object state given key
region_block parts state given key object meets stands live region =
    let has = subst (λ (b : Bool). HasBlocksAs b state.memory object given.word (λ value. own_offset (value_at parts.values value)) (given.blocks key)) live (meets.objects key object stands) in
    let is = subst (λ (shape : Shape). HasShape shape state.memory object given.word (λ value. own_offset (value_at parts.values value)) (given.blocks key)) region has in
    record { number = is.0; blocks = is.1; block = is.2.block; there = is.2.there; node = is.2.node }

-- an edge has at most eight bytes
pub small_edge : (parts : Parts) → IsWellFormed parts → (edge : HasValue) → edge_has_size parts edge ≡ true → nat_le edge.size 8 ≡ true
small_edge parts form edge has =
    let held = Holds-some (value_at parts.values edge.value) (passes-some (λ value. nat_eq (value_size value) edge.size) (value_at parts.values edge.value) has) in
    let equal = eqb-true _ _ (subst (λ (o : Option Value). option_map_or (λ value. nat_eq (value_size value) edge.size) o false ≡ true) held.is has) in
    let sized = found-all (λ (entry : KeyedValue). entry.key) (λ entry. entry.value) is_sized parts.values edge.value held.item form.values_are_sized held.is in
    let small = size_of_sized held.item sized in
    le-leb _ _ (omega arith)

module _ (parts : Parts) (form : IsWellFormed parts) (state : State) (given : Assignment) (key from count : ℕ) (object : Object) (inside : List HasValue) (classes : List ℕ)
    (stands : object_at parts.objects key ≡ Some object) (live : object.live ≡ true) (region : object.shape ≡ RegionShape) (room : from + count ≤ object.size) where
  abbrev pub after : Parts
  after = with_object key (with_range object from count inside classes) parts

  pub after_here : object_at after.objects key ≡ Some (with_range object from count inside classes)
  after_here = replaced-here key (with_range object from count inside classes) parts.objects (IsSome-holds _ _ stands)

  -- there: with bytes that have the classes and hold the edges
  pub region_changed : (number : ℕ) (block : Block) (new : List Byte) → Meets (maps_of parts) state given → given.blocks key ≡ number ∷ [] → slice_get state.memory number ≡ Some block →
      IsNode object.size object.kind (own_node object) given.word block → length new ≡ count → HaveClasses classes new → HoldEdges (spliced block.bytes from new) given.word inside →
      Meets (maps_of after) (with_block state number (block_with block (spliced block.bytes from new))) given
  region_changed number block new meets blocks there node long has holds =
      changed key (maps_of parts) (maps_of after) state (with_block state number (block_with block (spliced block.bytes from new))) given
      (with_object-agrees key object (with_range object from count inside classes) parts stands refl) (with_block-agrees (given.blocks key) number state (block_with block (spliced block.bytes from new)) blocks)
      (λ found is. subst (λ (o : Object). HasBlocks (set state.memory number (block_with block (spliced block.bytes from new))) o given.word (λ value. own_offset (value_at parts.values value)) (given.blocks key)) (same_Some _ _ (sym after_here ∙ is))
      (region_has (with_range object from count inside classes) (set state.memory number (block_with block (spliced block.bytes from new))) given.word (λ value. own_offset (value_at parts.values value)) number
      (block_with block (spliced block.bytes from new)) (given.blocks key) live region blocks
      (slice_get-set_same state.memory number block (block_with block (spliced block.bytes from new)) there)
      (node_in_range object from count inside classes given.word block new long room (fit_now parts form key object stands region live).inside has holds node)))
      meets

  module _ (many : length classes ≡ count) (cuts : cuts_none from count object.edges ≡ true) (meets : Meets (maps_of after) state given) where
    -- the block behind
    pub behind : IsRegionBlock (with_range object from count inside classes) state given key
    behind = region_block after state given key (with_range object from count inside classes) meets after_here live region

    -- the bytes of the range before, and the block with them
    abbrev pub old : List Byte
    old = range_of given.word object from count

    abbrev pub block_before : Block
    block_before = block_with behind.block (spliced behind.block.bytes from old)

    abbrev pub state_before : State
    state_before = with_block state behind.number block_before

    pub words_before : (at : ℕ) (value : Value) → value_at parts.values at ≡ Some value → HasWord (length state.memory) given.blocks (ends_of (object_at after.objects) given.word) value (given.word at)
    words_before at value is = meets.values at value is

    pub long_old : length old ≡ count
    long_old = long_range parts (length state.memory) given.blocks (ends_of (object_at after.objects) given.word) given.word words_before object from count room

    pub room_old : from + length old ≤ length behind.block.bytes
    room_old = let a = long_old in let b = behind.node.size in omega arith

    pub node_then : IsNode object.size object.kind (own_node object) given.word block_before
    node_then =
        let fit = fit_now parts form key object stands region live in
        node_before parts (length state.memory) given.blocks (ends_of (object_at after.objects) given.word) given.word words_before object from count inside classes behind.block many room (plane_long parts form key object stands region live)
        (disjoint_in_order object.edges fit.order) fit.inside (list_all-implies (edge_has_size parts) (λ edge. nat_le edge.size 8) (small_edge parts form) object.edges fit.sizes) fit.classes cuts behind.node

    pub before_there : slice_get state_before.memory behind.number ≡ Some block_before
    before_there = slice_get-set_same state.memory behind.number behind.block block_before behind.there

    -- back: the graph before stands for the state before
    pub before_meets : Meets (maps_of parts) state_before given
    before_meets =
        changed key (maps_of after) (maps_of parts) state state_before given
        (AgreeBut-back key (maps_of parts) (maps_of after) (with_object-agrees key object (with_range object from count inside classes) parts stands refl)) (with_block-agrees (given.blocks key) behind.number state block_before behind.blocks)
        (λ found is. subst (λ (o : Object). HasBlocks state_before.memory o given.word (λ value. own_offset (value_at parts.values value)) (given.blocks key)) (same_Some _ _ (sym stands ∙ is))
        (region_has object state_before.memory given.word (λ value. own_offset (value_at parts.values value)) behind.number block_before (given.blocks key) live region behind.blocks before_there node_then))
        meets

    pub before_count : length state_before.memory ≡ length state.memory
    before_count = length-set state.memory behind.number block_before

    -- the same objects are there
    pub there_before : AreThere after state given → AreThere parts state_before given
    there_before there at place number some found = subst (λ (n : ℕ). number < n) (sym before_count) (there at place number (by_key (nat_eq at key) refl) found)
      where
        by_key : (b : Bool) → nat_eq at key ≡ b → IsSome (object_at after.objects at)
        by_key true is = subst (λ (k : ℕ). IsSome (object_at after.objects k)) (sym (eqb-true _ _ is)) (IsSome-holds _ _ after_here)
        by_key false differ =
            subst (λ (o : Option Object). IsSome o) (sym (replaced-other key (with_range object from count inside classes) parts.objects at (λ same. false≢true (sym differ ∙ eq-eqb at key same)))) some

    old_all : (P : Byte → Type 0) → P (Num 0) → ((word : Word) → IsWordBelow (length state_before.memory) word → All P (word_bytes word)) → AreThere after state given → All P old
    old_all P none words there = All-take P count (drop from (bytes_of given.word object)) (All-drop P from (bytes_of given.word object)
        (bytes_all parts state_before given form before_meets (there_before there) P none words object (fit_now parts form key object stands region live).holds))

    new_all : (P : Byte → Type 0) → P (Num 0) → ((word : Word) → IsWordBelow (length state_before.memory) word → All P (word_bytes word)) → AreThere after state given → All P behind.block.bytes → All P (spliced behind.block.bytes from old)
    new_all P none words there all = All-append P (take from behind.block.bytes) (old ++ drop (from + length old) behind.block.bytes) (All-take P from behind.block.bytes all)
        (All-append P old (drop (from + length old) behind.block.bytes) (old_all P none words there) (All-drop P (from + length old) behind.block.bytes all))

    -- and it is a state
    pub before_state : IsState state → AreThere after state given → IsState state_before
    before_state is there = record {
      memory = IsMemory-bytes state.memory behind.number behind.block (spliced behind.block.bytes from old) is.memory (slice_get_within state.memory behind.number behind.block behind.there)
          (sym (get_or_from_slice_get state.memory behind.number behind.block behind.block behind.there))
          (length-spliced behind.block.bytes from old room_old (Num 0))
          (new_all (NamesBelow (length state.memory)) tt (λ word below. word_names (length state.memory) word (subst (λ (n : ℕ). IsWordBelow n word) before_count below)) there
          (All-at (λ block. All (NamesBelow (length state.memory)) block.bytes) state.memory behind.number behind.block behind.there is.memory.named));
      bytes = All-set (λ block. All IsByte block.bytes) state.memory behind.number block_before
          (new_all IsByte (omega arith) (word_small (length state_before.memory)) there (All-at (λ block. All IsByte block.bytes) state.memory behind.number behind.block behind.there is.bytes)) is.bytes;
      variables = λ variable other held. subst (λ (n : ℕ). other < n) (sym before_count) (is.variables variable other held);
      registers = λ register word held. subst (λ (n : ℕ). IsWordBelow n word) (sym before_count) (is.registers register word held);
      ports = subst (λ (n : ℕ). All (IsWordBelow n) state.ports) (sym before_count) is.ports;
      roots = is.roots;
    }

    -- the bytes that stand in the range behind, written in it before, give the memory behind
    pub put_again : set state_before.memory behind.number (block_with block_before (spliced (spliced behind.block.bytes from old) from (take count (drop from behind.block.bytes)))) ≡ state.memory
    put_again =
        ap (λ (bytes : List Byte). set state_before.memory behind.number (block_with behind.block bytes))
        (put_back behind.block.bytes from count old (let b = behind.node.size in omega arith) long_old)
        ∙ set_back state.memory behind.number behind.block block_before behind.there
