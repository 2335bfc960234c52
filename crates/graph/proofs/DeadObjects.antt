-- A dead object whose address is held has its block: the word that is held names a block of the memory.
use Rattle.std.proofs.Common.{◌≡◌, ℕ, ◌<◌, Bool, true, false, List, [], ◌∷◌, map, length, Option, Some, refl, sym, ◌∙◌, ap, subst, arith, ◌&&◌, ◌||◌, eqb-true, nat_eq, slice_get, zero, suc, inl, inr, ◌≤◌, None}
use Rattle.std.specs.Prelude.{ℤ, take, drop, option_map, pos, ◌-ℤ◌}
use Rattle.std.specs.Option.{option_map_or}
use Rattle.std.specs.List.{All, list_all}
use Rattle.std.proofs.lemmas.Bool.{false≢true}
use Rattle.std.proofs.lemmas.Option.{same_Some, none-some, slice_get_cases}
use Rattle.std.proofs.lemmas.List.Elements.{All-head, All-tail, All-take, All-drop}
use Rattle.bytes_core.specs.declared.byte.Byte.{Byte}
use Rattle.bytes_core.specs.declared.byte.Byte.TheVariants.{Part}
use Rattle.bytes_core.specs.declared.word.Word.{Word}
use Rattle.bytes_core.specs.declared.word.Word.TheVariants.{Plain, To}
use Rattle.bytes_core.specs.declared.block.BlockKind.{BlockKind}
use Rattle.bytes_core.specs.declared.block.Block.{Block}
use Rattle.bytes_core.specs.Valid.{NamesBelow, WordNamesBelow}
use Rattle.bytes_core.specs.Value.{word_bytes, moved}
use Rattle.graph.specs.declared.edges.HasValue.{HasValue}
use Rattle.graph.specs.declared.object.Object.{Object}
use Rattle.graph.specs.declared.object.Shape.{Shape}
use Rattle.graph.specs.declared.object.Shape.TheVariants.{Region as RegionShape, Segment}
use Rattle.graph.specs.declared.value.Target.{Target}
use Rattle.graph.specs.declared.value.Target.TheVariants.{Region, First, Last, Each}
use Rattle.graph.specs.declared.value.Value.{Value}
use Rattle.graph.specs.declared.value.Value.TheVariants.{Address}
use Rattle.graph.specs.declared.parts.KeyedObject.{KeyedObject}
use Rattle.graph.specs.declared.parts.KeyedValue.{KeyedValue}
use Rattle.graph.specs.declared.parts.Parts.{Parts}
use Rattle.graph.specs.DeadObjects.{IsDeadBlock, IsHeld, InRegister, InPort, InObject, InNode, InLink, InLinkBack, AreHeldBlocksThere}
use Rattle.graph.specs.Maps.{object_at, value_at}
use Rattle.graph.specs.State.{IsWordBelow}
use Rattle.graph.specs.Nodes.{is_region, own_node, node_in, node_of}
use Rattle.graph.specs.Meaning.{IsGone, HoldsWord, HoldEdges, StandsAt, own_word, word_at, HasShape, HasBlocksAs, Ends, ends_of, address_word, own_offset}
use Rattle.graph.proofs.SegmentNodes.{segments_have_nodes}
use Rattle.graph.specs.Sizes.{value_size}
use Rattle.graph.specs.WellFormed.{edge_has_size, target_fits, leads_to_object, says_nothing}
use Rattle.graph.proofs.Closed.{passes-at, segment_edges}
use Rattle.graph.proofs.AlikeStates.{All-at}
use Rattle.graph.proofs.Found.{found-all}
use Rattle.graph.proofs.Tests.{and_left}

-- items at a place
mapped-at : {X Y : Type 0} (P : Y → Type 0) (f : X → Y) (items : List X) (place : ℕ) (item : X) → slice_get items place ≡ Some item → All P (map f items) → P (f item)
mapped-at P f [] place item is all = absurd (none-some item is)
mapped-at P f (first ∷ rest) zero item is all = subst (λ one. P (f one)) (same_Some first item is) (All-head P (f first) (map f rest) all)
mapped-at P f (first ∷ rest) (suc place) item is all = mapped-at P f rest place item is (All-tail P (f first) (map f rest) all)

edge-at : (bytes : List Byte) (word : ℕ → Word) (edges : List HasValue) (place : ℕ) (edge : HasValue) → slice_get edges place ≡ Some edge →
    HoldEdges bytes word edges → HoldsWord bytes edge (word edge.value)
edge-at bytes word [] place edge is hold = absurd (none-some edge is)
edge-at bytes word (first ∷ rest) zero edge is hold = subst (λ one. HoldsWord bytes one (word one.value)) (same_Some first edge is) hold.0
edge-at bytes word (first ∷ rest) (suc place) edge is hold = edge-at bytes word rest place edge is hold.1

-- a pointer whose eight parts name blocks of the memory is one of it
whole_below : (count size : ℕ) (word : Word) → 8 ≡ size → All (NamesBelow count) (take size (word_bytes word)) → WordNamesBelow count word
whole_below count size (Plain number) is all = tt
whole_below count size (To block offset) is all =
    (All-head (NamesBelow count) (Part block offset 0) (map (Part block offset) (1 ∷ 2 ∷ 3 ∷ 4 ∷ 5 ∷ 6 ∷ 7 ∷ []))
    (subst (λ size. All (NamesBelow count) (take size (word_bytes (To block offset)))) (sym is) all)).0

-- the word of an address of a region names its block
names_block : (target : Target) (shape : Shape) (blocks : List ℕ) (ends : Ends) (number count : ℕ) (offset : ℤ) → is_region shape ≡ true → target_fits target shape ≡ true → blocks ≡ number ∷ [] →
    WordNamesBelow count (address_word target blocks ends offset) → number < count
names_block Region RegionShape blocks ends number count offset region fits is below = subst (λ blocks. WordNamesBelow count (address_word Region blocks ends offset)) is below
names_block First RegionShape blocks ends number count offset region fits is below = absurd (false≢true fits)
names_block Last RegionShape blocks ends number count offset region fits is below = absurd (false≢true fits)
names_block Each RegionShape blocks ends number count offset region fits is below = absurd (false≢true fits)
names_block target (Segment twofold head next prev back least next_value prev_value node) blocks ends number count offset region fits is below = absurd (false≢true region)

-- a dead block that is there
dead_block : (memory : List Block) (kind : BlockKind) (number : ℕ) → IsGone kind (slice_get memory number) → number < length memory → IsDeadBlock memory kind number
dead_block memory kind number gone below = elim (slice_get_cases memory number).1 [
  | inl found ↦ (let dead = subst (IsGone kind) found.2 gone in record { block = found.0; there = found.2; live = dead.0; kind = dead.1 })
  | inr past ↦ (let above = past.0 in absurd (omega arith))
]

-- places of lists that are not empty
get_first : (blocks : List ℕ) → 1 ≤ length blocks → (number : ℕ) × (slice_get blocks 0 ≡ Some number)
get_first [] some = absurd (omega arith)
get_first (number ∷ rest) some = (number, refl)

get_last : (blocks : List ℕ) → 1 ≤ length blocks → (place : ℕ) × (number : ℕ) × (slice_get blocks place ≡ Some number) × (slice_get blocks (suc place) ≡ None)
get_last [] some = absurd (omega arith)
get_last (number ∷ []) some = (0, number, refl, refl)
get_last (number ∷ (next ∷ rest)) some = let later = get_last (next ∷ rest) (omega arith) in (suc later.0, later.1, later.2, later.3)

-- a pointer that eight bytes hold, and one that is moved
link_names : (count : ℕ) (word : Word) → All (NamesBelow count) (word_bytes word) → WordNamesBelow count word
link_names count (Plain number) all = tt
link_names count (To block offset) all = (All-head (NamesBelow count) (Part block offset 0) (map (Part block offset) (1 ∷ 2 ∷ 3 ∷ 4 ∷ 5 ∷ 6 ∷ 7 ∷ [])) all).0

moved_names : (count : ℕ) (word : Word) (bytes : ℤ) → WordNamesBelow count (moved word bytes) → WordNamesBelow count word
moved_names count (Plain number) bytes names = tt
moved_names count (To block offset) bytes names = names

abbrev own_in : Parts → ℕ → Option ℤ
own_in parts key = own_offset (value_at parts.values key)

pub held_blocks_there : AreHeldBlocksThere
held_blocks_there parts state given key value object offset target well is meets stands dead leads held = (
  gone.0,
  gone.1,
  dead_block state.memory object.kind gone.0 gone.2
      (names_block target object.shape (given.blocks key) (ends_of (object_at parts.objects) given.word key) gone.0 (length state.memory) offset region fits gone.1
      (subst (WordNamesBelow (length state.memory)) (meets.values value (Address key offset target) leads) (by_held held))),
)
  where
    region : is_region object.shape ≡ true
    region = by_life object.live dead (found-all (λ (entry : KeyedObject). entry.key) (λ entry. entry.object) (λ (one : Object). one.live || (is_region one.shape && says_nothing one.edges one.plane)) parts.objects key object well.dead_objects_are_bare stands)
      where
        by_life : (live : Bool) → live ≡ false → (live || (is_region object.shape && says_nothing object.edges object.plane)) ≡ true → is_region object.shape ≡ true
        by_life true is all = absurd (false≢true (sym is))
        by_life false is all = and_left (is_region object.shape) (says_nothing object.edges object.plane) all

    fits : target_fits target object.shape ≡ true
    fits = subst (λ (found : Option Object). option_map_or (λ one. target_fits target one.shape) found false ≡ true) stands
        (found-all (λ (entry : KeyedValue). entry.key) (λ entry. entry.value) (leads_to_object parts) parts.values value (Address key offset target) well.addresses_lead_to_objects leads)

    gone : (number : ℕ) × (given.blocks key ≡ number ∷ []) × IsGone object.kind (slice_get state.memory number)
    gone = subst (λ (live : Bool). HasBlocksAs live state.memory object given.word (own_in parts) (given.blocks key)) dead (meets.objects key object stands)

    within : (number : ℕ) (holder : Object) (place : ℕ) (edge : HasValue) → slice_get holder.edges place ≡ Some edge → edge.value ≡ value → 8 ≡ edge.size →
        StandsAt state.memory holder given.word number → WordNamesBelow (length state.memory) (given.word value)
    within number holder place edge at same sized there =
        whole_below (length state.memory) edge.size (given.word value) sized
        (subst (λ (key : ℕ). All (NamesBelow (length state.memory)) (take edge.size (word_bytes (given.word key)))) same
        (subst (All (NamesBelow (length state.memory))) (edge-at there.block.bytes given.word holder.edges place edge at there.node.edges)
        (All-take (NamesBelow (length state.memory)) edge.size (drop edge.at there.block.bytes)
        (All-drop (NamesBelow (length state.memory)) edge.at there.block.bytes
        (All-at (λ (block : Block). All (NamesBelow (length state.memory)) block.bytes) state.memory number there.block there.there is.memory.named)))))

    by_shape : (shape : Shape) (holds : ℕ) (holder : Object) (place : ℕ) (edge : HasValue) → object_at parts.objects holds ≡ Some holder → holder.shape ≡ shape → slice_get holder.edges place ≡ Some edge → edge.value ≡ value → (8 ≡ edge.size) →
        (blocks : List ℕ) → HasShape shape state.memory holder given.word (own_in parts) blocks → WordNamesBelow (length state.memory) (given.word value)
    by_shape RegionShape holds holder place edge holder_stands shape_is at same sized blocks has = within has.0 holder place edge at same sized has.2
    by_shape (Segment twofold head next prev back least next_value prev_value node) holds holder place edge holder_stands shape_is at same sized blocks has =
        absurd (none-some edge (sym (ap (λ (edges : List HasValue). slice_get edges place) (segment_edges parts well holds holder holder_stands (ap is_region shape_is))) ∙ at))

    -- the own edges of a holder have their sizes
    own_sized : (shape : Shape) (holds : ℕ) (holder : Object) (place : ℕ) (edge : HasValue) → object_at parts.objects holds ≡ Some holder → holder.shape ≡ shape → slice_get holder.edges place ≡ Some edge →
        list_all (edge_has_size parts) (node_in shape (own_node holder)).edges ≡ true → edge_has_size parts edge ≡ true
    own_sized RegionShape holds holder place edge holder_stands shape_is at all = passes-at (edge_has_size parts) holder.edges place edge at all
    own_sized (Segment twofold head next prev back least next_value prev_value node) holds holder place edge holder_stands shape_is at all =
        absurd (none-some edge (sym (ap (λ (edges : List HasValue). slice_get edges place) (segment_edges parts well holds holder holder_stands (ap is_region shape_is))) ∙ at))

    has_size : (holds : ℕ) (holder : Object) (place : ℕ) (edge : HasValue) → object_at parts.objects holds ≡ Some holder → slice_get holder.edges place ≡ Some edge →
        edge.value ≡ value → 8 ≡ edge.size
    has_size holds holder place edge holder_stands at same =
        eqb-true 8 edge.size
        (subst (λ (found : Option Value). option_map_or (λ one. nat_eq (value_size one) edge.size) found false ≡ true)
        (ap (value_at parts.values) same ∙ leads)
        (own_sized holder.shape holds holder place edge holder_stands refl at
        (found-all (λ (entry : KeyedObject). entry.key) (λ entry. entry.object) (λ (one : Object). list_all (edge_has_size parts) (node_of one).edges)
        parts.objects holds holder well.edges_have_their_sizes holder_stands)))

    -- the target means one block, so the value is no node's own address
    one_target : target ≡ Region
    one_target = by_target target object.shape region fits
      where
        by_target : (target : Target) (shape : Shape) → is_region shape ≡ true → target_fits target shape ≡ true → target ≡ Region
        by_target Region shape region fits = refl
        by_target First RegionShape region fits = absurd (false≢true fits)
        by_target Last RegionShape region fits = absurd (false≢true fits)
        by_target Each RegionShape region fits = absurd (false≢true fits)
        by_target First (Segment twofold head next prev back least next_value prev_value node) region fits = absurd (false≢true region)
        by_target Last (Segment twofold head next prev back least next_value prev_value node) region fits = absurd (false≢true region)
        by_target Each (Segment twofold head next prev back least next_value prev_value node) region fits = absurd (false≢true region)

    plain_word : (one number : ℕ) → value_at parts.values one ≡ Some (Address key offset target) → word_at given.word (λ value. own_offset (value_at parts.values value)) number one ≡ given.word one
    plain_word one number found =
        ap (λ (o : Option Value). own_word (own_offset o) (given.word one) number) found
        ∙ ap (λ (t : Target). own_word (own_offset (Some (Address key offset t))) (given.word one) number) one_target

    node_size : (holds : ℕ) (holder : Object) (place : ℕ) (edge : HasValue) → object_at parts.objects holds ≡ Some holder → slice_get (node_of holder).edges place ≡ Some edge → edge.value ≡ value → 8 ≡ edge.size
    node_size holds holder place edge holder_stands at same =
        eqb-true 8 edge.size
        (subst (λ (found : Option Value). option_map_or (λ one. nat_eq (value_size one) edge.size) found false ≡ true)
        (ap (value_at parts.values) same ∙ leads)
        (passes-at (edge_has_size parts) (node_of holder).edges place edge at
        (found-all (λ (entry : KeyedObject). entry.key) (λ entry. entry.object) (λ (one : Object). list_all (edge_has_size parts) (node_of one).edges)
        parts.objects holds holder well.edges_have_their_sizes holder_stands)))

    by_held : IsHeld parts value → WordNamesBelow (length state.memory) (given.word value)
    by_held (InRegister register there) =
        (is.registers register (given.word value) (meets.registers register ∙ ap (option_map given.word) there)).named
    by_held (InPort place there) =
        (mapped-at (IsWordBelow (length state.memory)) given.word parts.ports place value there
        (subst (All (IsWordBelow (length state.memory))) meets.ports is.ports)).named
    by_held (InObject holds holder place edge holder_stands live at same) =
        by_shape holder.shape holds holder place edge holder_stands refl at same (has_size holds holder place edge holder_stands at same) (given.blocks holds)
        (subst (λ (one : Bool). HasBlocksAs one state.memory holder given.word (own_in parts) (given.blocks holds)) live (meets.objects holds holder holder_stands))
    by_held (InNode holds holder links place edge holder_stands linked some at same) =
        let has = segments_have_nodes parts state given holds holder links well meets holder_stands linked in
        let first = get_first (given.blocks holds) (let enough = has.enough in omega arith) in
        let node = has.nodes 0 first.0 first.1 in
        let sized = node_size holds holder place edge holder_stands at same in
        whole_below (length state.memory) edge.size (given.word value) sized
        (subst (λ (key : ℕ). All (NamesBelow (length state.memory)) (take edge.size (word_bytes (given.word key)))) same
        (subst (λ (word : Word). All (NamesBelow (length state.memory)) (take edge.size (word_bytes word))) (plain_word edge.value first.0 (ap (value_at parts.values) same ∙ leads))
        (subst (All (NamesBelow (length state.memory))) (node.edges place edge at)
        (All-take (NamesBelow (length state.memory)) edge.size (drop edge.at node.block.bytes)
        (All-drop (NamesBelow (length state.memory)) edge.at node.block.bytes
        (All-at (λ (block : Block). All (NamesBelow (length state.memory)) block.bytes) state.memory first.0 node.block node.there is.memory.named))))))
    by_held (InLink holds holder links holder_stands linked some same) =
        let has = segments_have_nodes parts state given holds holder links well meets holder_stands linked in
        let last = get_last (given.blocks holds) (let enough = has.enough in omega arith) in
        let node = has.nodes last.0 last.1 last.2 in
        subst (λ (key : ℕ). WordNamesBelow (length state.memory) (given.word key)) same
        (moved_names (length state.memory) (given.word links.next_value) (pos links.head -ℤ pos links.head)
        (link_names (length state.memory) (moved (given.word links.next_value) (pos links.head -ℤ pos links.head))
        (subst (All (NamesBelow (length state.memory))) (node.last last.3)
        (All-take (NamesBelow (length state.memory)) 8 (drop links.next node.block.bytes)
        (All-drop (NamesBelow (length state.memory)) links.next node.block.bytes
        (All-at (λ (block : Block). All (NamesBelow (length state.memory)) block.bytes) state.memory last.1 node.block node.there is.memory.named))))))
    by_held (InLinkBack holds holder links holder_stands linked some twofold same) =
        let has = segments_have_nodes parts state given holds holder links well meets holder_stands linked in
        let first = get_first (given.blocks holds) (let enough = has.enough in omega arith) in
        let node = has.nodes 0 first.0 first.1 in
        subst (λ (key : ℕ). WordNamesBelow (length state.memory) (given.word key)) same
        (moved_names (length state.memory) (given.word links.prev_value) (pos links.back -ℤ pos links.back)
        (link_names (length state.memory) (moved (given.word links.prev_value) (pos links.back -ℤ pos links.back))
        (subst (All (NamesBelow (length state.memory))) (node.first twofold refl)
        (All-take (NamesBelow (length state.memory)) 8 (drop links.prev node.block.bytes)
        (All-drop (NamesBelow (length state.memory)) links.prev node.block.bytes
        (All-at (λ (block : Block). All (NamesBelow (length state.memory)) block.bytes) state.memory first.0 node.block node.there is.memory.named))))))
