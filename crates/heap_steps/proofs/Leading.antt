-- A block that is reached belongs to an object at one of whose ends a way of the graph arrives: roots, and what live blocks lead on to.
use Rattle.std.proofs.Common.{◌≡◌, ◌≢◌, ℕ, zero, suc, ◌+◌, ◌<◌, ◌≤◌, Bool, true, false, List, [], ◌∷◌, ◌++◌, map, length, Option, None, Some, inl, refl, sym, ap, ◌∙◌, subst, arith}
use Rattle.std.specs.Prelude.{IsSome, Contains, slice_get, ℤ, pos, ◌-ℤ◌, option_map}
use Rattle.std.specs.Option.{option_map_or}
use Rattle.std.specs.List.{list_all}
use Rattle.std.proofs.lemmas.Bool.{false≢true}
use Rattle.std.proofs.lemmas.List.Elements.{All-contains, Contains-append_left, Contains-append_right}
use Rattle.std.proofs.lemmas.Option.{same_Some, none-some}
use Rattle.bytes_core.specs.declared.byte.Byte.{Byte}
use Rattle.bytes_core.specs.declared.byte.Byte.TheVariants.{Part}
use Rattle.bytes_core.specs.declared.block.Block.{Block}
use Rattle.bytes_core.specs.declared.word.Word.{Word}
use Rattle.bytes_core.specs.declared.word.Word.TheVariants.{To}
use Rattle.bytes_core.specs.Laws.{HoldsPointer}
use Rattle.bytes_core.specs.Marking.{Begin}
use Rattle.bytes_core.specs.Value.{moved}
use Rattle.bytes_core.proofs.Pointers.{pointer_held_whole}
use Rattle.graph.specs.declared.edges.HasValue.{HasValue}
use Rattle.graph.specs.declared.object.Links.{Links}
use Rattle.graph.specs.declared.object.Object.{Object}
use Rattle.graph.specs.declared.object.Shape.{Shape}
use Rattle.graph.specs.declared.object.Shape.TheVariants.{Region as RegionShape, Segment}
use Rattle.graph.specs.declared.value.Value.{Value}
use Rattle.graph.specs.declared.parts.Held.{Held}
use Rattle.graph.specs.declared.parts.KeyedObject.{KeyedObject}
use Rattle.graph.specs.declared.parts.Named.{Named}
use Rattle.graph.specs.declared.parts.Parts.{Parts}
use Rattle.graph.specs.Choices.{is_free}
use Rattle.graph.specs.Maps.{object_at, value_at, storage_of, held_by}
use Rattle.graph.specs.Nodes.{links_in, own_node, node_in, node_of, back_edges, link_edges}
use Rattle.graph.specs.State.{State, IsState, IsLedTo}
use Rattle.graph.specs.Meaning.{HoldsWord, HoldEdges, HasShape, IsGone, HasBlocksAs, own_word, word_at, own_offset, Assignment, Meets, maps_of}
use Rattle.graph.specs.SegmentLaws.{IsNodeAt}
use Rattle.graph.specs.WellFormed.{has_value, passes_at, is_outward}
use Rattle.graph.specs.Whole.{IsGraph}
use Rattle.graph.proofs.Closed.{passes-at, closed_of}
use Rattle.graph.proofs.Found.{Holds-some, IsSome-holds, found-all}
use Rattle.graph.proofs.Sent.{passes-some}
use Rattle.graph.proofs.SegmentNodes.{segments_have_nodes}
use Rattle.heap_steps.specs.Ends.{places_of}
use Rattle.heap_steps.specs.Reached.{IsRoot, OfVariable, OfRegister, Outside, IsReached, Root, Link}
use Rattle.heap_steps.proofs.Entries.{entry_found}
use Rattle.heap_steps.proofs.Leads.{IsNamed, InRegister, InPort, InEdge, IsTame, Contains-places, edge_behind, links_behind, moved_leads, to_block, AreLed, IsObjectLed, IsBlockLed, own_block, led_either, next_outward, prev_outward, value_leads}
use Rattle.heap_steps.proofs.Listed.{Contains-get, get_contained, mapped_to}
use Rattle.heap_steps.proofs.Parts.{edge_pointer, range_pointer, IsOver, IsOver-not_free, pointer_place}

module _ (parts : Parts) (state : State) (given : Assignment) (graph : IsGraph parts) (is_state : IsState state) (meets : Meets (maps_of parts) state given) (tame : IsTame parts state given) where
  abbrev Led : ℕ → Type 0
  Led number = IsBlockLed parts state given graph is_state meets tame number

  abbrev ObjectLed : ℕ → Type 0
  ObjectLed key = IsObjectLed parts state given graph is_state meets tame key

  abbrev own : ℕ → Option ℤ
  own key = own_offset (value_at parts.values key)

  -- a value that something names
  named_leads : (value : ℕ) → IsSome (value_at parts.values value) → IsNamed parts value → AreLed parts state given graph is_state meets tame value → (number : ℕ) (at : ℤ) → given.word value ≡ To number at → Led number
  named_leads value some named led number at is =
      value_leads parts state given graph is_state meets tame value some (λ any other offset leads. tame.words value other offset named any leads) led number at is

  -- Roots.

  variable_leads : (variable number : ℕ) → state.variables variable ≡ Some number → Led number
  variable_leads variable number is = by_key (storage_of parts.variables variable) refl
    where
      same : Some (number ∷ []) ≡ option_map given.blocks (storage_of parts.variables variable)
      same = sym (ap (option_map (λ number. number ∷ [])) is) ∙ meets.variables variable

      by_key : (found : Option ℕ) → storage_of parts.variables variable ≡ found → Led number
      by_key None none = absurd (none-some (number ∷ []) (sym (same ∙ ap (option_map given.blocks) none)))
      by_key (Some key) stored =
          let blocks : number ∷ [] ≡ given.blocks key = same_Some _ _ (same ∙ ap (option_map given.blocks) stored) in
          let entry = entry_found (λ (named : Named). named.variable) (λ (named : Named). named.object) parts.variables variable key stored in
          let contained : Contains (map (λ (named : Named). named.object) parts.variables) key =
          subst (λ (k : ℕ). Contains (map (λ (named : Named). named.object) parts.variables) k) entry.4 (mapped_to (λ (named : Named). named.object) parts.variables entry.0 entry.1 entry.2) in
          own_block parts state given graph is_state meets tame key 0 number ((closed_of parts graph.well_formed).variables variable key stored) (sym (ap (λ (bs : List ℕ). slice_get bs 0) blocks))
          (inl (Begin key (Contains-append_left (map (λ (named : Named). named.object) parts.variables) (places_of parts (map (λ (held : Held). held.value) parts.registers) ++ places_of parts parts.ports) key contained)))

  register_leads : (register number : ℕ) (offset : ℤ) → state.registers register ≡ Some (To number offset) → Led number
  register_leads register number offset is = by_value (held_by parts.registers register) refl
    where
      same : Some (To number offset) ≡ option_map given.word (held_by parts.registers register)
      same = sym is ∙ meets.registers register

      by_value : (found : Option ℕ) → held_by parts.registers register ≡ found → Led number
      by_value None none = absurd (none-some (To number offset) (sym (same ∙ ap (option_map given.word) none)))
      by_value (Some value) held =
          let word : given.word value ≡ To number offset = sym (same_Some _ _ (same ∙ ap (option_map given.word) held)) in
          let entry = entry_found (λ (held : Held). held.register) (λ (held : Held). held.value) parts.registers register value held in
          let contained : Contains (map (λ (held : Held). held.value) parts.registers) value =
          subst (λ (v : ℕ). Contains (map (λ (held : Held). held.value) parts.registers) v) entry.4 (mapped_to (λ (held : Held). held.value) parts.registers entry.0 entry.1 entry.2) in
          named_leads value ((closed_of parts graph.well_formed).registers register value held) (InRegister register held)
          (λ place at. Begin place (Contains-append_right (map (λ (named : Named). named.object) parts.variables) (places_of parts (map (λ (held : Held). held.value) parts.registers) ++ places_of parts parts.ports) place
          (Contains-append_left (places_of parts (map (λ (held : Held). held.value) parts.registers)) (places_of parts parts.ports) place
          (Contains-places parts (map (λ (held : Held). held.value) parts.registers) value contained place at))))
          number offset word

  outside_leads : (number : ℕ) → Contains state.roots number → Led number
  outside_leads number there = by_port (All-contains (IsLedTo state.ports) state.roots number is_state.roots there)
    where
      by_port : IsLedTo state.ports number → Led number
      by_port led =
          let at = get_contained state.ports (To number led.offset) led.word in
          let port = mapped_at parts.ports at.0 (sym (ap (λ (words : List Word). slice_get words at.0) meets.ports) ∙ at.1) in
          named_leads port.0 ((closed_of parts graph.well_formed).ports at.0 port.0 port.1) (InPort at.0 port.1)
          (λ place there'. Begin place (Contains-append_right (map (λ (named : Named). named.object) parts.variables) (places_of parts (map (λ (held : Held). held.value) parts.registers) ++ places_of parts parts.ports) place
          (Contains-append_right (places_of parts (map (λ (held : Held). held.value) parts.registers)) (places_of parts parts.ports) place
          (Contains-places parts parts.ports port.0 (Contains-get parts.ports at.0 port.0 port.1) place there'))))
          number led.offset port.2
        where
          mapped_at : (ports : List ℕ) (place : ℕ) → slice_get (map given.word ports) place ≡ Some (To number led.offset) → (port : ℕ) × (slice_get ports place ≡ Some port) × (given.word port ≡ To number led.offset)
          mapped_at [] place is = absurd (none-some _ is)
          mapped_at (port ∷ rest) zero is = (port, refl, same_Some _ _ is)
          mapped_at (port ∷ rest) (suc place) is = mapped_at rest place is

  root_leads : (number : ℕ) → IsRoot state number → Led number
  root_leads number (OfVariable variable number' is) = variable_leads variable number is
  root_leads number (OfRegister register number' offset is) = register_leads register number offset is
  root_leads number (Outside number' there) = outside_leads number there

  -- What a block leads on to.

  value_there : (key : ℕ) (object : Object) → object_at parts.objects key ≡ Some object → (place : ℕ) (edge : HasValue) → slice_get (node_of object).edges place ≡ Some edge → IsSome (value_at parts.values edge.value)
  value_there key object stands place edge found =
      passes-at (λ (edge : HasValue). has_value parts edge.value) (node_of object).edges place edge found
      (found-all (λ (entry : KeyedObject). entry.key) (λ entry. entry.object) (λ (object : Object). list_all (λ (edge : HasValue). has_value parts edge.value) (node_of object).edges) parts.objects key object graph.well_formed.edges_hold_values stands)

  -- the value of an edge
  held_leads : (key : ℕ) (object : Object) → object_at parts.objects key ≡ Some object → ObjectLed key → ((links : Links) → links_in object.shape ≡ Some links → links.least ≢ 0) →
      (place : ℕ) (edge : HasValue) → slice_get (node_of object).edges place ≡ Some edge → (target : ℕ) (at : ℤ) → given.word edge.value ≡ To target at → Led target
  held_leads key object stands led some place edge found target at word =
      named_leads edge.value (value_there key object stands place edge found) (InEdge key object place edge stands found refl)
      (led_either parts state given graph is_state meets tame key object stands led edge.value (λ last. edge_behind object.shape (own_node object) last some place edge found)) target at word

  -- that of an edge of a node, which may be the node's own address
  node_leads : (key : ℕ) (object : Object) → object_at parts.objects key ≡ Some object → ObjectLed key → (node number : ℕ) → slice_get (given.blocks key) node ≡ Some number → ((links : Links) → links_in object.shape ≡ Some links → links.least ≢ 0) →
      (place : ℕ) (edge : HasValue) → slice_get (node_of object).edges place ≡ Some edge → (target : ℕ) (at : ℤ) → word_at given.word own number edge.value ≡ To target at → Led target
  node_leads key object stands led node number is some place edge found target at word_is = by_own (own edge.value) refl word_is
    where
      by_own : (o : Option ℤ) → own edge.value ≡ o → own_word o (given.word edge.value) number ≡ To target at → Led target
      by_own (Some offset) own_is word =
          own_block parts state given graph is_state meets tame key node target (IsSome-holds (object_at parts.objects key) object stands) (is ∙ ap Some (to_block number target offset at word)) led
      by_own None own_is word = held_leads key object stands led some place edge found target at word

  -- the value beyond an end
  outward_leads : (value : ℕ) → passes_at parts is_outward value ≡ true → AreLed parts state given graph is_state meets tame value → (target : ℕ) (at : ℤ) → given.word value ≡ To target at → Led target
  outward_leads value outward led target at word =
      value_leads parts state given graph is_state meets tame value (passes-some is_outward (value_at parts.values value) outward)
      (λ any number offset leads. false≢true (subst (λ (o : Option Value). option_map_or is_outward o false ≡ true) any outward)) led target at word

  module _ (key : ℕ) (object : Object) (stands : object_at parts.objects key ≡ Some object) (led : ObjectLed key) where
    here : IsSome (object_at parts.objects key)
    here = IsSome-holds (object_at parts.objects key) object stands

    -- a block of a segment
    segment_leads : (links : Links) → links_in object.shape ≡ Some links → object.live ≡ true → (node number : ℕ) → slice_get (given.blocks key) node ≡ Some number → (block : Block) → slice_get state.memory number ≡ Some block →
        (place target : ℕ) (offset : ℤ) → slice_get block.bytes place ≡ Some (Part target offset 0) → Led target
    segment_leads links linked live node number is block there place target offset byte =
        by_link (is_free (link_edges object.shape) place) refl (is_free (node_of object).edges place) refl
      where
        some : (links' : Links) → links_in object.shape ≡ Some links' → links'.least ≢ 0
        some links' linked' none = none-some number (sym (ap (λ (bs : List ℕ). slice_get bs node) (tame.empty key object links' stands linked' none)) ∙ is)

        at_node : IsNodeAt state.memory object links (node_of object) (word_at given.word own) (given.word links.next_value) (moved (given.word links.prev_value) (pos links.back -ℤ pos links.back)) (given.blocks key) node number
        at_node = (segments_have_nodes parts state given key object links graph.well_formed meets stands linked).nodes node number is

        same : at_node.block ≡ block
        same = same_Some _ _ (sym at_node.there ∙ there)

        byte_there : slice_get at_node.block.bytes place ≡ Some (Part target offset 0)
        byte_there = ap (λ (b : Block). slice_get b.bytes place) same ∙ byte

        by_edge : IsOver (node_of object).edges place → Led target
        by_edge over =
            let word = edge_pointer at_node.block.bytes over.edge (word_at given.word own number over.edge.value) (at_node.edges over.at over.edge over.is) place target 0 offset over.from over.upto byte_there in
            node_leads key object stands led node number is some over.at over.edge over.is target word.0 word.1

        next_leads : links.next ≤ place → place < links.next + 8 → Led target
        next_leads from upto = by_following (slice_get (given.blocks key) (suc node)) refl
          where
            by_following : (found : Option ℕ) → slice_get (given.blocks key) (suc node) ≡ found → Led target
            by_following (Some following) follows =
                let word = range_pointer at_node.block.bytes links.next (To following (pos links.head)) (at_node.next following follows) place target 0 offset from upto byte_there in
                own_block parts state given graph is_state meets tame key (suc node) target here (follows ∙ ap Some (to_block following target (pos links.head) word.0 word.1)) led
            by_following None none =
                let word = range_pointer at_node.block.bytes links.next (moved (given.word links.next_value) (pos links.head -ℤ pos links.head)) (at_node.last none) place target 0 offset from upto byte_there in
                let next = moved_leads (given.word links.next_value) (pos links.head -ℤ pos links.head) target word.0 word.1 in
                outward_leads links.next_value (next_outward parts state given graph is_state meets tame key object links stands linked)
                (led_either parts state given graph is_state meets tame key object stands led links.next_value (λ last. (links_behind object.shape (own_node object) last links linked (some links linked)).0)) target next.0 next.1

        prev_leads : links.twofold ≡ true → links.prev ≤ place → place < links.prev + 8 → Led target
        prev_leads twofold from upto = by_node node refl
          where
            by_node : (n : ℕ) → node ≡ n → Led target
            by_node zero begins =
                let word = range_pointer at_node.block.bytes links.prev (moved (given.word links.prev_value) (pos links.back -ℤ pos links.back)) (at_node.first twofold begins) place target 0 offset from upto byte_there in
                let prev = moved_leads (given.word links.prev_value) (pos links.back -ℤ pos links.back) target word.0 word.1 in
                outward_leads links.prev_value (prev_outward parts state given graph is_state meets tame key object links stands linked twofold)
                (led_either parts state given graph is_state meets tame key object stands led links.prev_value (λ last. (links_behind object.shape (own_node object) last links linked (some links linked)).1)) target prev.0 prev.1
            by_node (suc previous) follows =
                let before = before_there (given.blocks key) previous number (ap (slice_get (given.blocks key)) (sym follows) ∙ is) in
                let word = range_pointer at_node.block.bytes links.prev (To before.0 (pos links.back)) (at_node.back twofold previous before.0 follows before.1) place target 0 offset from upto byte_there in
                own_block parts state given graph is_state meets tame key previous target here (before.1 ∙ ap Some (to_block before.0 target (pos links.back) word.0 word.1)) led
              where
                before_there : (xs : List ℕ) (at found : ℕ) → slice_get xs (suc at) ≡ Some found → (earlier : ℕ) × (slice_get xs at ≡ Some earlier)
                before_there [] at found there = absurd (none-some found there)
                before_there (x ∷ xs) zero found there = (x, refl)
                before_there (x ∷ xs) (suc at) found there = before_there xs at found there

        link_leads : IsOver (link_edges object.shape) place → Led target
        link_leads over = by_shape object.shape linked over.at over.is
          where
            by_back : (twofold : Bool) (prev prev_value : ℕ) → links.twofold ≡ twofold → links.prev ≡ prev → (at : ℕ) → slice_get (back_edges twofold prev prev_value) at ≡ Some over.edge → Led target
            by_back true prev prev_value way prev_is zero found =
                let edge : record { at = prev; size = 8; value = prev_value } ≡ over.edge = same_Some _ _ found in
                let starts : prev ≡ over.edge.at = ap (λ (e : HasValue). e.at) edge in
                let sized : 8 ≡ over.edge.size = ap (λ (e : HasValue). e.size) edge in
                let from = over.from in let upto = over.upto in
                prev_leads way (omega arith) (omega arith)
            by_back true prev prev_value way prev_is (suc at) found = absurd (none-some over.edge found)
            by_back false prev prev_value way prev_is at found = absurd (none-some over.edge found)

            by_shape : (shape : Shape) → links_in shape ≡ Some links → (at : ℕ) → slice_get (link_edges shape) at ≡ Some over.edge → Led target
            by_shape RegionShape linked' at found = absurd (none-some links linked')
            by_shape (Segment twofold head next prev back least next_value prev_value node') linked' zero found =
                let edge : record { at = next; size = 8; value = next_value } ≡ over.edge = same_Some _ _ found in
                let starts : next ≡ over.edge.at = ap (λ (e : HasValue). e.at) edge in
                let sized : 8 ≡ over.edge.size = ap (λ (e : HasValue). e.size) edge in
                let links_next : next ≡ links.next = ap (λ (l : Links). l.next) (same_Some _ _ linked') in
                let from = over.from in let upto = over.upto in
                next_leads (omega arith) (omega arith)
            by_shape (Segment twofold head next prev back least next_value prev_value node') linked' (suc at) found =
                by_back twofold prev prev_value (sym (ap (λ (l : Links). l.twofold) (same_Some _ _ linked'))) (sym (ap (λ (l : Links). l.prev) (same_Some _ _ linked'))) at found

        by_link : (b : Bool) → is_free (link_edges object.shape) place ≡ b → (c : Bool) → is_free (node_of object).edges place ≡ c → Led target
        by_link true link true edge = absurd (tame.free key object node number place target 0 offset at_node.block stands live is at_node.there at_node.size byte_there link edge)
        by_link true link false edge = by_edge (IsOver-not_free (node_of object).edges place edge)
        by_link false link c edge = link_leads (IsOver-not_free (link_edges object.shape) place link)

    -- the block of a region
    region_leads_on : object.shape ≡ RegionShape → object.live ≡ true → (node number : ℕ) → slice_get (given.blocks key) node ≡ Some number → (block : Block) → slice_get state.memory number ≡ Some block →
        (place target : ℕ) (offset : ℤ) → slice_get block.bytes place ≡ Some (Part target offset 0) → Led target
    region_leads_on region live node number is block there place target offset byte = by_edge (is_free (node_of object).edges place) refl
      where
        has : HasShape RegionShape state.memory object given.word own (given.blocks key)
        has = subst (λ (s : Shape). HasShape s state.memory object given.word own (given.blocks key)) region
            (subst (λ (b : Bool). HasBlocksAs b state.memory object given.word own (given.blocks key)) live (meets.objects key object stands))

        one : (node : ℕ) → slice_get (has.0 ∷ []) node ≡ Some number → has.0 ≡ number
        one zero is = same_Some _ _ is
        one (suc node) is = absurd (none-some number is)

        same_number : has.0 ≡ number
        same_number = one node (sym (ap (λ (bs : List ℕ). slice_get bs node) has.1) ∙ is)

        same : has.2.block ≡ block
        same = same_Some _ _ (sym has.2.there ∙ ap (slice_get state.memory) same_number ∙ there)

        byte_there : slice_get has.2.block.bytes place ≡ Some (Part target offset 0)
        byte_there = ap (λ (b : Block). slice_get b.bytes place) same ∙ byte

        edges_same : (node_of object).edges ≡ object.edges
        edges_same = ap (λ (s : Shape). (node_in s (own_node object)).edges) region

        none_linked : (links : Links) → links_in object.shape ≡ Some links → links.least ≢ 0
        none_linked links linked none = none-some links (sym (ap links_in region) ∙ linked)

        edge_of : (bytes : List Byte) (edges : List HasValue) (place : ℕ) (edge : HasValue) → slice_get edges place ≡ Some edge → HoldEdges bytes given.word edges → HoldsWord bytes edge (given.word edge.value)
        edge_of bytes [] place edge is hold = absurd (none-some edge is)
        edge_of bytes (first ∷ rest) zero edge is hold = subst (λ (e : HasValue). HoldsWord bytes e (given.word e.value)) (same_Some first edge is) hold.0
        edge_of bytes (first ∷ rest) (suc place) edge is hold = edge_of bytes rest place edge is hold.1

        by_edge : (c : Bool) → is_free (node_of object).edges place ≡ c → Led target
        by_edge true edge =
            absurd (tame.free key object node number place target 0 offset has.2.block stands live is (ap (slice_get state.memory) (sym same_number) ∙ has.2.there) has.2.node.size byte_there (ap (λ (s : Shape). is_free (link_edges s) place) region) edge)
        by_edge false edge =
            let over = IsOver-not_free (node_of object).edges place edge in
            let found : slice_get object.edges over.at ≡ Some over.edge = ap (λ (edges : List HasValue). slice_get edges over.at) (sym edges_same) ∙ over.is in
            let word = edge_pointer has.2.block.bytes over.edge (given.word over.edge.value) (edge_of has.2.block.bytes object.edges over.at over.edge found has.2.node.edges) place target 0 offset over.from over.upto byte_there in
            held_leads key object stands led none_linked over.at over.edge over.is target word.0 word.1

    -- any live block of the object
    block_leads : (node number : ℕ) → slice_get (given.blocks key) node ≡ Some number → (block : Block) → slice_get state.memory number ≡ Some block → block.live ≡ true → (target : ℕ) → HoldsPointer target block.bytes → Led target
    block_leads node number is block there live target held = by_life object.live refl
      where
        byte : slice_get block.bytes (length held.front) ≡ Some (Part target held.offset 0)
        byte = pointer_place target block.bytes held

        by_shape : object.live ≡ true → (shape : Shape) → object.shape ≡ shape → Led target
        by_shape lives RegionShape region = region_leads_on region lives node number is block there (length held.front) target held.offset byte
        by_shape lives (Segment twofold head next prev back least next_value prev_value node') segment =
            segment_leads _ (ap links_in segment) lives node number is block there (length held.front) target held.offset byte

        one : (first node : ℕ) → slice_get (first ∷ []) node ≡ Some number → first ≡ number
        one first zero is' = same_Some _ _ is'
        one first (suc node') is' = absurd (none-some number is')

        by_life : (b : Bool) → object.live ≡ b → Led target
        by_life true lives = by_shape lives object.shape refl
        by_life false dead =
            let has : HasBlocksAs false state.memory object given.word own (given.blocks key) = subst (λ (b : Bool). HasBlocksAs b state.memory object given.word own (given.blocks key)) dead (meets.objects key object stands) in
            let same = one has.0 node (sym (ap (λ (bs : List ℕ). slice_get bs node) has.1) ∙ is) in
            let gone : IsGone object.kind (Some block) = subst (IsGone object.kind) (ap (slice_get state.memory) same ∙ there) has.2 in
            absurd (false≢true (sym gone.0 ∙ live))

  pub reached_leads : (number : ℕ) → IsReached state number → Led number
  reached_leads number (Root number' root) = root_leads number root
  reached_leads number (Link from target block reached there live holds) =
      let owned = meets.used from block there live in
      let object = Holds-some (object_at parts.objects (given.owner from)) owned.object in
      block_leads (given.owner from) object.item object.is (reached_leads from reached (given.owner from) (given.place from) owned.object owned.block)
      (given.place from) from owned.block block there live number ((pointer_held_whole number block.bytes).0 holds)
