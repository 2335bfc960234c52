-- Where chains lead in each memory that a graph stands for: all blocks of an object are reached at whose end a way of the graph arrives, and so is
-- what the values that it holds there lead to.
use Rattle.std.proofs.Common.{◌≡◌, ℕ, zero, suc, ◌+◌, ◌-◌, ◌<◌, Bool, true, false, ◌&&◌, ◌||◌, List, [], ◌∷◌, ◌++◌, length, take, drop, nat_eq, nat_lt, Option, None, Some, ◌⊎◌, inl, inr, refl, sym, ap, ◌∙◌, subst, eqb-true, eq-eqb, arith, length-append}
use Rattle.std.specs.Prelude.{Contains, slice_get, ℤ, pos, ◌-ℤ◌, if◌then◌else◌}
use Rattle.std.specs.Option.{option_map_or}
use Rattle.std.specs.List.{list_all}
use Rattle.std.proofs.lemmas.Bool.{false≢true}
use Rattle.std.proofs.lemmas.List.{take-append-drop}
use Rattle.std.proofs.lemmas.List.Elements.{Contains-append_cases}
use Rattle.std.proofs.lemmas.Option.{same_Some, none-some}
use Rattle.bytes_core.specs.declared.block.Block.{Block}
use Rattle.bytes_core.specs.declared.word.Word.{Word}
use Rattle.bytes_core.specs.declared.word.Word.TheVariants.{Plain, To}
use Rattle.bytes_core.specs.Value.{word_bytes, moved}
use Rattle.bytes_core.proofs.Pointers.{pointer_held_whole}
use Rattle.graph.specs.declared.edges.HasValue.{HasValue}
use Rattle.graph.specs.declared.object.Links.{Links}
use Rattle.graph.specs.declared.object.Object.{Object}
use Rattle.graph.specs.declared.object.Shape.{Shape}
use Rattle.graph.specs.declared.object.Shape.TheVariants.{Region as RegionShape, Segment}
use Rattle.graph.specs.declared.template.Node.{Node}
use Rattle.graph.specs.declared.value.Target.TheVariants.{Region, First, Last, Each}
use Rattle.graph.specs.declared.value.Value.{Value}
use Rattle.graph.specs.declared.value.Value.TheVariants.{Const, Number, Any, Address}
use Rattle.graph.specs.declared.parts.KeyedObject.{KeyedObject}
use Rattle.graph.specs.declared.parts.Parts.{Parts}
use Rattle.graph.specs.Maps.{object_at, value_at}
use Rattle.graph.specs.Nodes.{is_region, links_in, own_node, node_in, node_of}
use Rattle.graph.specs.State.{State}
use Rattle.graph.specs.Meaning.{HoldsWord, HoldEdges, HasShape, HasBlocksAs, Ends, HasWord, own_word, word_at, own_offset, Assignment, Meets, maps_of}
use Rattle.graph.specs.SegmentLaws.{HasNodes}
use Rattle.graph.specs.Sizes.{value_size}
use Rattle.graph.specs.WellFormed.{IsWellFormed, edge_has_size, passes_at, back_fits, is_null, says_nothing}
use Rattle.graph.proofs.Closed.{passes-at, says_nothing-edges}
use Rattle.graph.proofs.Found.{found-all}
use Rattle.graph.proofs.SegmentNodes.{segments_have_nodes, segments_have_addresses}
use Rattle.graph.proofs.Tests.{and_right}
use Rattle.heap_steps.specs.Ends.{edge_values, values_behind}
use Rattle.heap_steps.specs.Reached.{IsReached, Link}
use Rattle.heap_steps.proofs.Listed.{HasLast-more, get_last, get_within, Contains-cases, Contains-none, mapped_from}

-- Words.

module _ (state : State) where
  -- what a word leads to is reached
  abbrev pub IsHeldWord : Word → Type 0
  IsHeldWord (Plain number) = Unit {0}
  IsHeldWord (To number offset) = IsReached state number

  -- a live block that is reached holds the eight bytes of a word
  pub held_in : (number : ℕ) (block : Block) → IsReached state number → slice_get state.memory number ≡ Some block → block.live ≡ true → (at : ℕ) (word : Word) →
      take 8 (drop at block.bytes) ≡ word_bytes word → IsHeldWord word
  held_in number block reached stands live at (Plain value) holds = tt
  held_in number block reached stands live at (To target offset) holds =
      Link number target block reached stands live ((pointer_held_whole target block.bytes).1 (record {
        front = take at block.bytes;
        offset = offset;
        rest = drop 8 (drop at block.bytes);
        is = sym (take-append-drop at block.bytes)
            ∙ ap (λ (bytes : List _). take at block.bytes ++ bytes) (sym (take-append-drop 8 (drop at block.bytes)) ∙ ap (λ (bytes : List _). bytes ++ drop 8 (drop at block.bytes)) holds);
      }))

  pub held_edge : (number : ℕ) (block : Block) → IsReached state number → slice_get state.memory number ≡ Some block → block.live ≡ true → (edge : HasValue) (word : Word) →
      HoldsWord block.bytes edge word → ((target : ℕ) (offset : ℤ) → word ≡ To target offset → edge.size ≡ 8) → IsHeldWord word
  held_edge number block reached stands live edge (Plain value) holds sized = tt
  held_edge number block reached stands live edge (To target offset) holds sized =
      held_in number block reached stands live edge.at (To target offset)
      (subst (λ (size : ℕ). take size (drop edge.at block.bytes) ≡ take size (word_bytes (To target offset))) (sized target offset refl) holds)

  pub held_moved : (word : Word) (bytes : ℤ) → IsHeldWord (moved word bytes) → IsHeldWord word
  held_moved (Plain number) bytes held = tt
  held_moved (To number offset) bytes held = held

  pub held_plain : (word : Word) (number : ℕ) → word ≡ Plain number → IsHeldWord word
  held_plain word number is = subst IsHeldWord (sym is) tt

plain_or : {P : Type 0} (word : Word) (value number : ℕ) (offset : ℤ) → word ≡ Plain value → word ≡ To number offset → P
plain_or word value number offset one other = absurd (let clash : Plain value ≡ To number offset = sym one ∙ other in cc)

-- a value whose word is a pointer has eight bytes
pointer_size : (count : ℕ) (blocks : ℕ → List ℕ) (ends : ℕ → Ends) (value : Value) (word : Word) (number : ℕ) (offset : ℤ) → HasWord count blocks ends value word → word ≡ To number offset → value_size value ≡ 8
pointer_size count blocks ends (Const value size) word number offset has is = plain_or word value number offset has is
pointer_size count blocks ends (Number size) word number offset has is = plain_or word has.0 number offset has.1 is
pointer_size count blocks ends Any word number offset has is = refl
pointer_size count blocks ends (Address object at target) word number offset has is = refl

-- What an object holds at an end.

-- all its blocks are reached, and so is what the values lead to that it holds there
pub record IsEndHeld (parts : Parts) (state : State) (given : Assignment) (key : ℕ) (last : Bool) : Type 0 where
  pub blocks : (place number : ℕ) → slice_get (given.blocks key) place ≡ Some number → IsReached state number
  pub values : (object : Object) → object_at parts.objects key ≡ Some object → (value : ℕ) → Contains (values_behind object.shape (own_node object) last) value → IsHeldWord state (given.word value)

-- a segment holds the values of its template and those beyond its ends; one that may have no nodes holds at an end what lies beyond it
pub behind_cases : (shape : Shape) (own : Node) (last : Bool) (links : Links) → links_in shape ≡ Some links → (value : ℕ) → Contains (values_behind shape own last) value →
    Contains (edge_values (node_in shape own).edges) value ⊎ ((links.next_value ≡ value) ⊎ (links.prev_value ≡ value))
behind_cases RegionShape own last links linked value there = absurd (none-some links linked)
behind_cases (Segment twofold head next prev back least next_value prev_value node) own last links linked value there =
    subst (λ (l : Links). Contains (edge_values node.edges) value ⊎ ((l.next_value ≡ value) ⊎ (l.prev_value ≡ value))) (same_Some _ _ linked) (by_least (nat_eq least 0) there)
  where
    one_of : Contains (next_value ∷ prev_value ∷ []) value → (next_value ≡ value) ⊎ (prev_value ≡ value)
    one_of both = by_cases (Contains-cases next_value value (prev_value ∷ []) both)
      where
        by_last : (prev_value ≡ value) ⊎ Contains [] value → (next_value ≡ value) ⊎ (prev_value ≡ value)
        by_last (inl same) = inr same
        by_last (inr none) = absurd (Contains-none value none)

        by_cases : (next_value ≡ value) ⊎ Contains (prev_value ∷ []) value → (next_value ≡ value) ⊎ (prev_value ≡ value)
        by_cases (inl same) = inl same
        by_cases (inr later) = by_last (Contains-cases prev_value value [] later)

    by_end : (b : Bool) → Contains ((if b then prev_value else next_value) ∷ []) value → (next_value ≡ value) ⊎ (prev_value ≡ value)
    by_end true only = by_cases (Contains-cases prev_value value [] only)
      where
        by_cases : (prev_value ≡ value) ⊎ Contains [] value → (next_value ≡ value) ⊎ (prev_value ≡ value)
        by_cases (inl same) = inr same
        by_cases (inr none) = absurd (Contains-none value none)
    by_end false only = by_cases (Contains-cases next_value value [] only)
      where
        by_cases : (next_value ≡ value) ⊎ Contains [] value → (next_value ≡ value) ⊎ (prev_value ≡ value)
        by_cases (inl same) = inl same
        by_cases (inr none) = absurd (Contains-none value none)

    by_least : (b : Bool) → Contains (if b then (if last then prev_value else next_value) ∷ [] else edge_values node.edges ++ next_value ∷ prev_value ∷ []) value →
        Contains (edge_values node.edges) value ⊎ ((next_value ≡ value) ⊎ (prev_value ≡ value))
    by_least true only = inr (by_end last only)
    by_least false all = by_cases (Contains-append_cases (edge_values node.edges) (next_value ∷ prev_value ∷ []) value all)
      where
        by_cases : Contains (edge_values node.edges) value ⊎ Contains (next_value ∷ prev_value ∷ []) value → Contains (edge_values node.edges) value ⊎ ((next_value ≡ value) ⊎ (prev_value ≡ value))
        by_cases (inl edge) = inl edge
        by_cases (inr link) = inr (one_of link)

-- the value beyond an end
abbrev pub beyond : Links → Bool → ℕ
beyond links last = if last then links.prev_value else links.next_value

pub behind_empty : (shape : Shape) (own : Node) (last : Bool) (links : Links) → links_in shape ≡ Some links → links.least ≡ 0 → (value : ℕ) → Contains (values_behind shape own last) value → beyond links last ≡ value
behind_empty RegionShape own last links linked none value there = absurd (none-some links linked)
behind_empty (Segment twofold head next prev back least next_value prev_value node) own last links linked none value there =
    let same = same_Some _ _ linked in
    let zero_least : least ≡ 0 = ap (λ (l : Links). l.least) same ∙ none in
    let only : Contains ((if last then prev_value else next_value) ∷ []) value =
    subst (λ (b : Bool). Contains (if b then (if last then prev_value else next_value) ∷ [] else edge_values node.edges ++ next_value ∷ prev_value ∷ []) value) (eq-eqb least 0 zero_least) there in
    ap (λ (l : Links). beyond l last) (sym same) ∙ by_cases (Contains-cases (if last then prev_value else next_value) value [] only)
  where
    by_cases : ((if last then prev_value else next_value) ≡ value) ⊎ Contains [] value → (if last then prev_value else next_value) ≡ value
    by_cases (inl is) = is
    by_cases (inr none_there) = absurd (Contains-none value none_there)

module _ (parts : Parts) (state : State) (given : Assignment) (well : IsWellFormed parts) (meets : Meets (maps_of parts) state given) where
  abbrev own : ℕ → Option ℤ
  own key = own_offset (value_at parts.values key)

  abbrev Held : Word → Type 0
  Held word = IsHeldWord state word

  -- an edge that holds a pointer has eight bytes
  sized_at : (key : ℕ) (object : Object) → object_at parts.objects key ≡ Some object → (place : ℕ) (edge : HasValue) → slice_get (node_of object).edges place ≡ Some edge →
      (number : ℕ) (offset : ℤ) → given.word edge.value ≡ To number offset → edge.size ≡ 8
  sized_at key object stands place edge is number offset pointer =
      by_value (value_at parts.values edge.value) refl
      (passes-at (edge_has_size parts) (node_of object).edges place edge is
      (found-all (λ (entry : KeyedObject). entry.key) (λ entry. entry.object) (λ (object : Object). list_all (edge_has_size parts) (node_of object).edges) parts.objects key object well.edges_have_their_sizes stands))
    where
      by_value : (found : Option Value) → value_at parts.values edge.value ≡ found → option_map_or (λ value. nat_eq (value_size value) edge.size) found false ≡ true → edge.size ≡ 8
      by_value None found fits = absurd (false≢true fits)
      by_value (Some value) found fits =
          sym (eqb-true (value_size value) edge.size fits) ∙ pointer_size _ _ _ value (given.word edge.value) number offset (meets.values edge.value value found) pointer

  -- an address that is each node's own counts as 0
  own_plain : (key : ℕ) (offset : ℤ) (found : Option Value) → value_at parts.values key ≡ found → own_offset found ≡ Some offset → given.word key ≡ Plain 0
  own_plain key offset None is own_is = absurd (none-some offset own_is)
  own_plain key offset (Some (Const number size)) is own_is = absurd (none-some offset own_is)
  own_plain key offset (Some (Number size)) is own_is = absurd (none-some offset own_is)
  own_plain key offset (Some Any) is own_is = absurd (none-some offset own_is)
  own_plain key offset (Some (Address object at Region)) is own_is = absurd (none-some offset own_is)
  own_plain key offset (Some (Address object at First)) is own_is = absurd (none-some offset own_is)
  own_plain key offset (Some (Address object at Last)) is own_is = absurd (none-some offset own_is)
  own_plain key offset (Some (Address object at Each)) is own_is = meets.values key (Address object at Each) is

  -- the values of the edges of a node that is reached
  node_edge : (key : ℕ) (object : Object) → object_at parts.objects key ≡ Some object → (number : ℕ) (block : Block) → IsReached state number → slice_get state.memory number ≡ Some block → block.live ≡ true →
      (place : ℕ) (edge : HasValue) → slice_get (node_of object).edges place ≡ Some edge → HoldsWord block.bytes edge (word_at given.word own number edge.value) → Held (given.word edge.value)
  node_edge key object stands number block reached there live place edge is holds = by_own (own edge.value) refl holds
    where
      by_own : (o : Option ℤ) → own edge.value ≡ o → HoldsWord block.bytes edge (own_word o (given.word edge.value) number) → Held (given.word edge.value)
      by_own None none holds' = held_edge state number block reached there live edge (given.word edge.value) holds' (sized_at key object stands place edge is)
      by_own (Some offset) some holds' = held_plain state (given.word edge.value) 0 (own_plain edge.value offset (value_at parts.values edge.value) refl some)

  -- Segments.

  module _ (key : ℕ) (object : Object) (links : Links) (stands : object_at parts.objects key ≡ Some object) (linked : links_in object.shape ≡ Some links) where
    nodes : HasNodes parts state given key object links
    nodes = segments_have_nodes parts state given key object links well meets stands linked

    onward : (place number number' : ℕ) → slice_get (given.blocks key) place ≡ Some number → slice_get (given.blocks key) (suc place) ≡ Some number' → IsReached state number → IsReached state number'
    onward place number number' is is' reached =
        let node = nodes.nodes place number is in held_in state number node.block reached node.there node.live links.next (To number' (pos links.head)) (node.next number' is')

    backward : links.twofold ≡ true → (place number number' : ℕ) → slice_get (given.blocks key) place ≡ Some number → slice_get (given.blocks key) (suc place) ≡ Some number' → IsReached state number' → IsReached state number
    backward twofold place number number' is is' reached =
        let node = nodes.nodes (suc place) number' is' in held_in state number' node.block reached node.there node.live links.prev (To number (pos links.back)) (node.back twofold place number refl is)

    -- from the first node all are reached, and from the last one where nodes are linked back
    from_first : (first : ℕ) → slice_get (given.blocks key) 0 ≡ Some first → IsReached state first → (place number : ℕ) → slice_get (given.blocks key) place ≡ Some number → IsReached state number
    from_first first begins reached zero number is = subst (IsReached state) (same_Some first number (sym begins ∙ is)) reached
    from_first first begins reached (suc place) number is =
        let before = before_there (given.blocks key) place number is in onward place before.0 number before.1 is (from_first first begins reached place before.0 before.1)
      where
        before_there : (xs : List ℕ) (at found : ℕ) → slice_get xs (suc at) ≡ Some found → (earlier : ℕ) × (slice_get xs at ≡ Some earlier)
        before_there [] at found there = absurd (none-some found there)
        before_there (x ∷ xs) zero found there = (x, refl)
        before_there (x ∷ xs) (suc at) found there = before_there xs at found there

    from_last : links.twofold ≡ true → (last end : ℕ) → end + 1 ≡ length (given.blocks key) → slice_get (given.blocks key) end ≡ Some last → IsReached state last →
        (behind place number : ℕ) → place + behind ≡ end → slice_get (given.blocks key) place ≡ Some number → IsReached state number
    from_last twofold last end size ends reached zero place number sum is =
        let same : end ≡ place = omega arith in subst (IsReached state) (same_Some last number (sym ends ∙ ap (slice_get (given.blocks key)) same ∙ is)) reached
    from_last twofold last end size ends reached (suc behind) place number sum is =
        let next = get_within (given.blocks key) (suc place) (omega arith) in
        backward twofold place number next.0 is next.1 (from_last twofold last end size ends reached behind (suc place) next.0 (omega arith) next.1)

    -- a segment of which all nodes are reached, and which has some
    inside : (first : ℕ) → slice_get (given.blocks key) 0 ≡ Some first → ((place number : ℕ) → slice_get (given.blocks key) place ≡ Some number → IsReached state number) → (last : Bool) → IsEndHeld parts state given key last
    inside first begins all last = record {
      blocks = all;
      values = λ found is value there. by_cases value (behind_cases object.shape (own_node object) last links linked value
          (subst (λ (o : Object). Contains (values_behind o.shape (own_node o) last) value) (same_Some found object (sym is ∙ stands)) there));
    }
      where
        next_held : Held (given.word links.next_value)
        next_held = by_last (last_place (given.blocks key) first begins)
          where
            last_place : (xs : List ℕ) (x : ℕ) → slice_get xs 0 ≡ Some x → (place : ℕ) × (number : ℕ) × (slice_get xs place ≡ Some number) × (slice_get xs (suc place) ≡ None)
            last_place [] x is = absurd (none-some x is)
            last_place (y ∷ []) x is = (0, y, refl, refl)
            last_place (y ∷ (z ∷ zs)) x is = let later = last_place (z ∷ zs) z refl in (suc later.0, later.1, later.2, later.3)

            by_last : (place : ℕ) × (number : ℕ) × (slice_get (given.blocks key) place ≡ Some number) × (slice_get (given.blocks key) (suc place) ≡ None) → Held (given.word links.next_value)
            by_last (place, number, is, none) =
                let node = nodes.nodes place number is in
                held_moved state (given.word links.next_value) (pos links.head -ℤ pos links.head)
                (held_in state number node.block (all place number is) node.there node.live links.next (moved (given.word links.next_value) (pos links.head -ℤ pos links.head)) (node.last none))

        prev_held : Held (given.word links.prev_value)
        prev_held = by_way links.twofold refl
          where
            by_null : (found : Option Value) → value_at parts.values links.prev_value ≡ found → option_map_or is_null found false ≡ true → Held (given.word links.prev_value)
            by_null None is null = absurd (false≢true null)
            by_null (Some (Const number size)) is null = held_plain state (given.word links.prev_value) number (meets.values links.prev_value (Const number size) is)
            by_null (Some (Number size)) is null = absurd (false≢true null)
            by_null (Some Any) is null = absurd (false≢true null)
            by_null (Some (Address other offset target)) is null = absurd (false≢true null)

            by_way : (b : Bool) → links.twofold ≡ b → Held (given.word links.prev_value)
            by_way true twofold =
                let node = nodes.nodes 0 first begins in
                held_moved state (given.word links.prev_value) (pos links.back -ℤ pos links.back)
                (held_in state first node.block (all 0 first begins) node.there node.live links.prev (moved (given.word links.prev_value) (pos links.back -ℤ pos links.back)) (node.first twofold refl))
            by_way false onefold =
                let fits : back_fits parts object.size (Some links) ≡ true = subst (λ (o : Option Links). back_fits parts object.size o ≡ true) linked
                (found-all (λ (entry : KeyedObject). entry.key) (λ entry. entry.object) (λ (object : Object). back_fits parts object.size (links_in object.shape)) parts.objects key object well.links_back_fit stands) in
                let bare : (nat_eq links.prev 0 && (nat_eq links.back 0 && passes_at parts is_null links.prev_value)) ≡ true =
                subst (λ (b : Bool). (if b then nat_lt links.back object.size else (nat_eq links.prev 0 && (nat_eq links.back 0 && passes_at parts is_null links.prev_value))) ≡ true) onefold fits in
                by_null (value_at parts.values links.prev_value) refl
                (and_right (nat_eq links.back 0) (passes_at parts is_null links.prev_value) (and_right (nat_eq links.prev 0) (nat_eq links.back 0 && passes_at parts is_null links.prev_value) bare))

        edge_held : (value : ℕ) → Contains (edge_values (node_of object).edges) value → Held (given.word value)
        edge_held value there =
            let found = mapped_from (λ (edge : HasValue). edge.value) (node_of object).edges value there in
            let node = nodes.nodes 0 first begins in
            subst (λ (v : ℕ). Held (given.word v)) found.3
            (node_edge key object stands first node.block (all 0 first begins) node.there node.live found.0 found.1 found.2 (node.edges found.0 found.1 found.2))

        by_cases : (value : ℕ) → Contains (edge_values (node_in object.shape (own_node object)).edges) value ⊎ ((links.next_value ≡ value) ⊎ (links.prev_value ≡ value)) → Held (given.word value)
        by_cases value (inl edge) = edge_held value edge
        by_cases value (inr (inl next)) = subst (λ (v : ℕ). Held (given.word v)) next next_held
        by_cases value (inr (inr prev)) = subst (λ (v : ℕ). Held (given.word v)) prev prev_held

    -- one that has no nodes
    outside : given.blocks key ≡ [] → (last : Bool) → Held (given.word (beyond links last)) → IsEndHeld parts state given key last
    outside none last held = record {
      blocks = λ place number is. absurd (none-some number (sym (ap (λ (bs : List ℕ). slice_get bs place) none) ∙ is));
      values = λ found is value there.
          let enough = nodes.enough in
          let empty : length (given.blocks key) ≡ 0 = ap length none in
          let least : links.least ≡ 0 = omega arith in
          subst (λ (v : ℕ). Held (given.word v))
          (behind_empty object.shape (own_node object) last links linked least value
          (subst (λ (o : Object). Contains (values_behind o.shape (own_node o) last) value) (same_Some found object (sym is ∙ stands)) there)) held;
    }

    -- an address of the first node, and one of the last, whose words lead to what is reached
    pub led_first : (value : ℕ) (offset : ℤ) → value_at parts.values value ≡ Some (Address key offset First) → Held (given.word value) → IsEndHeld parts state given key false
    led_first value offset is held = by_blocks (given.blocks key) refl
      where
        by_blocks : (bs : List ℕ) → given.blocks key ≡ bs → IsEndHeld parts state given key false
        by_blocks [] none =
            outside none false (held_moved state (given.word links.next_value) (offset -ℤ pos links.head) (subst Held ((segments_have_addresses parts state given key object links meets stands linked).behind value offset is none) held))
        by_blocks (number ∷ rest) some =
            let begins : slice_get (given.blocks key) 0 ≡ Some number = ap (λ (bs : List ℕ). slice_get bs 0) some in
            let reached : IsReached state number = subst Held ((segments_have_addresses parts state given key object links meets stands linked).first value offset number is begins) held in
            inside number begins (from_first number begins reached) false

    pub led_last : (value : ℕ) (offset : ℤ) → links.twofold ≡ true → value_at parts.values value ≡ Some (Address key offset Last) → Held (given.word value) → IsEndHeld parts state given key true
    led_last value offset twofold is held = by_blocks (given.blocks key) refl
      where
        by_blocks : (bs : List ℕ) → given.blocks key ≡ bs → IsEndHeld parts state given key true
        by_blocks [] none =
            outside none true (held_moved state (given.word links.prev_value) (offset -ℤ pos links.back) (subst Held ((segments_have_addresses parts state given key object links meets stands linked).before value offset is none) held))
        by_blocks (number ∷ rest) some =
            let begins : slice_get (given.blocks key) 0 ≡ Some number = ap (λ (bs : List ℕ). slice_get bs 0) some in
            let ending = HasLast-more number rest in
            let whole : given.blocks key ≡ ending.front ++ ending.last ∷ [] = some ∙ ending.is in
            let reached : IsReached state ending.last = subst Held ((segments_have_addresses parts state given key object links meets stands linked).last value offset ending.front ending.last is whole) held in
            let size : length ending.front + 1 ≡ length (given.blocks key) = sym (ap length whole ∙ length-append ending.front (ending.last ∷ [])) in
            let ends : slice_get (given.blocks key) (length ending.front) ≡ Some ending.last = ap (λ (bs : List ℕ). slice_get bs (length ending.front)) whole ∙ get_last ending.front ending.last in
            inside number begins
            (λ place found there. let below = within (given.blocks key) place found there in
            from_last twofold ending.last (length ending.front) size ends reached (length ending.front - place) place found (omega arith) there) true
          where
            within : (xs : List ℕ) (place found : ℕ) → slice_get xs place ≡ Some found → place < length xs
            within [] place found there = absurd (none-some found there)
            within (x ∷ xs) zero found there = omega arith
            within (x ∷ xs) (suc place) found there = let below = within xs place found there in omega arith

  -- Regions.

  pub region_held : (key : ℕ) (object : Object) → object_at parts.objects key ≡ Some object → object.shape ≡ RegionShape → (first : ℕ) → given.blocks key ≡ first ∷ [] → IsReached state first → IsEndHeld parts state given key false
  region_held key object stands region first only reached = record {
    blocks = λ place number is. by_place place number (sym (ap (λ (bs : List ℕ). slice_get bs place) only) ∙ is);
    values = λ found is value there. by_life object.live refl value
        (subst (λ (s : Shape). Contains (values_behind s (own_node object) false) value) region
        (subst (λ (o : Object). Contains (values_behind o.shape (own_node o) false) value) (same_Some found object (sym is ∙ stands)) there));
  }
    where
      by_place : (place number : ℕ) → slice_get (first ∷ []) place ≡ Some number → IsReached state number
      by_place zero number is = subst (IsReached state) (same_Some first number is) reached
      by_place (suc place) number is = absurd (none-some number is)

      bare : object.live ≡ false → object.edges ≡ []
      bare dead =
          says_nothing-edges object.edges object.plane
          (and_right (is_region object.shape) (says_nothing object.edges object.plane)
          (subst (λ (b : Bool). (b || (is_region object.shape && says_nothing object.edges object.plane)) ≡ true) dead
          (found-all (λ (entry : KeyedObject). entry.key) (λ entry. entry.object) (λ (one : Object). one.live || (is_region one.shape && says_nothing one.edges one.plane)) parts.objects key object well.dead_objects_are_bare stands)))

      edges_same : (node_of object).edges ≡ object.edges
      edges_same = ap (λ (s : Shape). (node_in s (own_node object)).edges) region

      edge_of : (bytes : List _) (edges : List HasValue) (place : ℕ) (edge : HasValue) → slice_get edges place ≡ Some edge → HoldEdges bytes given.word edges → HoldsWord bytes edge (given.word edge.value)
      edge_of bytes [] place edge is hold = absurd (none-some edge is)
      edge_of bytes (one ∷ rest) zero edge is hold = subst (λ (e : HasValue). HoldsWord bytes e (given.word e.value)) (same_Some one edge is) hold.0
      edge_of bytes (one ∷ rest) (suc place) edge is hold = edge_of bytes rest place edge is hold.1

      by_life : (b : Bool) → object.live ≡ b → (value : ℕ) → Contains (edge_values object.edges) value → Held (given.word value)
      by_life false dead value there = absurd (Contains-none value (subst (λ (edges : List HasValue). Contains (edge_values edges) value) (bare dead) there))
      by_life true live value there =
          let found = mapped_from (λ (edge : HasValue). edge.value) object.edges value there in
          let has : HasShape RegionShape state.memory object given.word own (given.blocks key) =
          subst (λ (s : Shape). HasShape s state.memory object given.word own (given.blocks key)) region
          (subst (λ (b : Bool). HasBlocksAs b state.memory object given.word own (given.blocks key)) live (meets.objects key object stands)) in
          let same : has.0 ≡ first = same_Some has.0 first (sym (ap (λ (bs : List ℕ). slice_get bs 0) has.1) ∙ ap (λ (bs : List ℕ). slice_get bs 0) only) in
          subst (λ (v : ℕ). Held (given.word v)) found.3
          (held_edge state has.0 has.2.block (subst (IsReached state) (sym same) reached) has.2.there has.2.node.live found.1 (given.word found.1.value)
          (edge_of has.2.block.bytes object.edges found.0 found.1 found.2 has.2.node.edges)
          (sized_at key object stands found.0 found.1 (ap (λ (edges : List HasValue). slice_get edges found.0) edges_same ∙ found.2)))
