-- Where nothing of a graph may lead anywhere, all that a state names is blocks of objects.
use Rattle.std.proofs.Common.{◌≡◌, ℕ, zero, suc, Bool, true, false, List, [], ◌∷◌, map, Option, None, Some, refl, sym, ◌∙◌, ap, subst}
use Rattle.std.specs.Prelude.{IsSome, Contains, option_map, slice_get, ℤ}
use Rattle.std.specs.List.{list_all}
use Rattle.std.proofs.lemmas.Bool.{false≢true}
use Rattle.std.proofs.lemmas.List.Elements.{All-contains}
use Rattle.std.proofs.lemmas.Option.{same_Some, none-some}
use Rattle.bytes_core.specs.declared.byte.Byte.{Byte}
use Rattle.bytes_core.specs.declared.byte.Byte.TheVariants.{Part}
use Rattle.bytes_core.specs.declared.block.Block.{Block}
use Rattle.bytes_core.specs.declared.word.Word.{Word}
use Rattle.bytes_core.specs.declared.word.Word.TheVariants.{Plain, To}
use Rattle.graph.specs.declared.edges.HasValue.{HasValue}
use Rattle.graph.specs.declared.object.Object.{Object}
use Rattle.graph.specs.declared.object.Shape.{Shape}
use Rattle.graph.specs.declared.object.Shape.TheVariants.{Region as RegionShape, Segment}
use Rattle.graph.specs.declared.value.Target.TheVariants.{Region, First, Last, Each}
use Rattle.graph.specs.declared.value.Value.{Value}
use Rattle.graph.specs.declared.value.Value.TheVariants.{Const, Number, Any, Address}
use Rattle.graph.specs.declared.parts.KeyedObject.{KeyedObject}
use Rattle.graph.specs.declared.parts.Parts.{Parts}
use Rattle.graph.specs.Choices.{is_free}
use Rattle.graph.specs.Maps.{object_at, value_at, storage_of, held_by}
use Rattle.graph.specs.Nodes.{own_node, node_in, node_of, links_in, link_edges}
use Rattle.graph.specs.State.{State, IsState, IsLedTo}
use Rattle.graph.specs.Meaning.{HoldsWord, HoldEdges, HasShape, IsGone, HasBlocksAs, ends_of, address_word, own_offset, Assignment, Meets, maps_of}
use Rattle.graph.specs.WellFormed.{has_value}
use Rattle.graph.specs.Whole.{IsGraph}
use Rattle.graph.proofs.Closed.{passes-at, closed_of, object_of_address}
use Rattle.graph.proofs.Found.{Holds-some, found-all}
use Rattle.heap_steps.specs.Unreached.{may_lead_anywhere}
use Rattle.heap_steps.proofs.Leads.{IsNamed, InRegister, InPort, InEdge, IsTame, to_block}
use Rattle.heap_steps.proofs.Listed.{get_contained}
use Rattle.heap_steps.proofs.Parts.{edge_pointer, IsOver-not_free}
use Rattle.heap_steps.proofs.Reachable.{fits_target, has_links, has_links_back}
use Rattle.heap_steps.proofs.Tame.{no_segment, tame_bound}

plain_or : {P : Type 0} (word : Word) (value number : ℕ) (offset : ℤ) → word ≡ Plain value → word ≡ To number offset → P
plain_or word value number offset one other = absurd (let clash : Plain value ≡ To number offset = sym one ∙ other in cc)

module _ (parts : Parts) (graph : IsGraph parts) (bound : may_lead_anywhere parts ≡ false) (state : State) (given : Assignment) (is_state : IsState state) (meets : Meets (maps_of parts) state given) where
  -- a block of an object
  pub record IsOfGraph (number : ℕ) : Type 0 where
    pub key : ℕ
    pub some : IsSome (object_at parts.objects key)
    pub place : ℕ
    pub block : slice_get (given.blocks key) place ≡ Some number

  tame : IsTame parts state given
  tame = tame_bound parts graph bound state given meets

  segment_none : {P : Type 0} (key : ℕ) → IsSome (object_at parts.objects key) → ((object : Object) → object_at parts.objects key ≡ Some object → (links : _) × (links_in object.shape ≡ Some links)) → P
  segment_none key some links =
      let object = Holds-some (object_at parts.objects key) some in
      let linked = links object.item object.is in absurd (no_segment parts graph bound key object.item linked.0 object.is linked.1)

  region_word : (value key : ℕ) (offset : ℤ) → value_at parts.values value ≡ Some (Address key offset Region) → (number : ℕ) (at : ℤ) → given.word value ≡ To number at → IsOfGraph number
  region_word value key offset is number at word_is = by_blocks (given.blocks key) refl
    where
      by_blocks : (bs : List ℕ) → given.blocks key ≡ bs → IsOfGraph number
      by_blocks [] none = plain_or (given.word value) 0 number at (meets.values value (Address key offset Region) is ∙ ap (λ (bs : List ℕ). address_word Region bs (ends_of (object_at parts.objects) given.word key) offset) none) word_is
      by_blocks (block ∷ rest) first =
          let word : given.word value ≡ To block offset = meets.values value (Address key offset Region) is ∙ ap (λ (bs : List ℕ). address_word Region bs (ends_of (object_at parts.objects) given.word key) offset) first in
          record {
            key = key;
            some = object_of_address parts graph.well_formed value key offset Region is;
            place = 0;
            block = ap (λ (bs : List ℕ). slice_get bs 0) first ∙ ap Some (to_block block number offset at (sym word ∙ word_is));
          }

  -- what the word of a value that something names leads to
  pub word_owned : (value : ℕ) → IsSome (value_at parts.values value) → IsNamed parts value → (number : ℕ) (at : ℤ) → given.word value ≡ To number at → IsOfGraph number
  word_owned value some named number at word_is = by_value (value_at parts.values value) refl some
    where
      by_value : (found : Option Value) → value_at parts.values value ≡ found → IsSome found → IsOfGraph number
      by_value None is holds = absurd (false≢true holds)
      by_value (Some (Const constant size)) is holds = plain_or (given.word value) constant number at (meets.values value (Const constant size) is) word_is
      by_value (Some (Number size)) is holds = let has = meets.values value (Number size) is in plain_or (given.word value) has.0 number at has.1 word_is
      by_value (Some Any) is holds = absurd (tame.words value number at named is word_is)
      by_value (Some (Address key offset Region)) is holds = region_word value key offset is number at word_is
      by_value (Some (Address key offset First)) is holds =
          segment_none key (object_of_address parts graph.well_formed value key offset First is) (λ object stands. has_links object.shape (fits_target parts graph.well_formed value key offset First object is stands))
      by_value (Some (Address key offset Last)) is holds =
          segment_none key (object_of_address parts graph.well_formed value key offset Last is)
          (λ object stands. let links = has_links_back object.shape (fits_target parts graph.well_formed value key offset Last object is stands) in (links.0, links.1))
      by_value (Some (Address key offset Each)) is holds = plain_or (given.word value) 0 number at (meets.values value (Address key offset Each) is) word_is

  pub variable_owned : (variable number : ℕ) → state.variables variable ≡ Some number → IsOfGraph number
  variable_owned variable number is = by_key (storage_of parts.variables variable) refl
    where
      same : Some (number ∷ []) ≡ option_map given.blocks (storage_of parts.variables variable)
      same = sym (ap (option_map (λ number. number ∷ [])) is) ∙ meets.variables variable

      by_key : (found : Option ℕ) → storage_of parts.variables variable ≡ found → IsOfGraph number
      by_key None none = absurd (none-some (number ∷ []) (sym (same ∙ ap (option_map given.blocks) none)))
      by_key (Some key) stored =
          let blocks : number ∷ [] ≡ given.blocks key = same_Some _ _ (same ∙ ap (option_map given.blocks) stored) in
          record { key = key; some = (closed_of parts graph.well_formed).variables variable key stored; place = 0; block = sym (ap (λ (bs : List ℕ). slice_get bs 0) blocks) }

  pub register_owned : (register number : ℕ) (at : ℤ) → state.registers register ≡ Some (To number at) → IsOfGraph number
  register_owned register number at is = by_value (held_by parts.registers register) refl
    where
      same : Some (To number at) ≡ option_map given.word (held_by parts.registers register)
      same = sym is ∙ meets.registers register

      by_value : (found : Option ℕ) → held_by parts.registers register ≡ found → IsOfGraph number
      by_value None none = absurd (none-some (To number at) (sym (same ∙ ap (option_map given.word) none)))
      by_value (Some value) held =
          word_owned value ((closed_of parts graph.well_formed).registers register value held) (InRegister register held) number at (sym (same_Some _ _ (same ∙ ap (option_map given.word) held)))

  pub port_owned : (number : ℕ) (at : ℤ) → Contains state.ports (To number at) → IsOfGraph number
  port_owned number at there =
      let found = get_contained state.ports (To number at) there in
      let port = mapped_at parts.ports found.0 (sym (ap (λ (words : List Word). slice_get words found.0) meets.ports) ∙ found.1) in
      word_owned port.0 ((closed_of parts graph.well_formed).ports found.0 port.0 port.1) (InPort found.0 port.1) number at port.2
    where
      mapped_at : (ports : List ℕ) (place : ℕ) → slice_get (map given.word ports) place ≡ Some (To number at) → (port : ℕ) × (slice_get ports place ≡ Some port) × (given.word port ≡ To number at)
      mapped_at [] place is = absurd (none-some _ is)
      mapped_at (port ∷ rest) zero is = (port, refl, same_Some _ _ is)
      mapped_at (port ∷ rest) (suc place) is = mapped_at rest place is

  pub root_owned : (number : ℕ) → Contains state.roots number → IsOfGraph number
  root_owned number there = let led = All-contains (IsLedTo state.ports) state.roots number is_state.roots there in port_owned number led.offset led.word

  -- what a live block has part of a pointer to
  pub byte_owned : (number : ℕ) (block : Block) → slice_get state.memory number ≡ Some block → block.live ≡ true → (place target k : ℕ) (offset : ℤ) → slice_get block.bytes place ≡ Some (Part target offset k) → IsOfGraph target
  byte_owned number block there live place target k offset byte =
      let owned = meets.used number block there live in
      let found = Holds-some (object_at parts.objects (given.owner number)) owned.object in
      by_life (given.owner number) found.item found.is (given.place number) owned.block found.item.live refl
    where
      one : (first node : ℕ) → slice_get (first ∷ []) node ≡ Some number → first ≡ number
      one first zero is = same_Some _ _ is
      one first (suc node) is = absurd (none-some number is)

      edge_of : (bytes : List Byte) (edges : List HasValue) (at : ℕ) (edge : HasValue) → slice_get edges at ≡ Some edge → HoldEdges bytes given.word edges → HoldsWord bytes edge (given.word edge.value)
      edge_of bytes [] at edge is hold = absurd (none-some edge is)
      edge_of bytes (first ∷ rest) zero edge is hold = subst (λ (e : HasValue). HoldsWord bytes e (given.word e.value)) (same_Some first edge is) hold.0
      edge_of bytes (first ∷ rest) (suc at) edge is hold = edge_of bytes rest at edge is hold.1

      by_region : (key : ℕ) (object : Object) → object_at parts.objects key ≡ Some object → (node : ℕ) → slice_get (given.blocks key) node ≡ Some number → object.live ≡ true → object.shape ≡ RegionShape →
          HasShape RegionShape state.memory object given.word (λ value. own_offset (value_at parts.values value)) (given.blocks key) → IsOfGraph target
      by_region key object stands node is lives region has = by_edge (is_free (node_of object).edges place) refl
        where
          same_number : has.0 ≡ number
          same_number = one has.0 node (sym (ap (λ (bs : List ℕ). slice_get bs node) has.1) ∙ is)

          same : has.2.block ≡ block
          same = same_Some _ _ (sym has.2.there ∙ ap (slice_get state.memory) same_number ∙ there)

          byte_there : slice_get has.2.block.bytes place ≡ Some (Part target offset k)
          byte_there = ap (λ (b : Block). slice_get b.bytes place) same ∙ byte

          edges_same : (node_of object).edges ≡ object.edges
          edges_same = ap (λ (s : Shape). (node_in s (own_node object)).edges) region

          value_there : (at : ℕ) (edge : HasValue) → slice_get (node_of object).edges at ≡ Some edge → IsSome (value_at parts.values edge.value)
          value_there at edge found =
              passes-at (λ (edge : HasValue). has_value parts edge.value) (node_of object).edges at edge found
              (found-all (λ (entry : KeyedObject). entry.key) (λ entry. entry.object) (λ (object : Object). list_all (λ (edge : HasValue). has_value parts edge.value) (node_of object).edges) parts.objects key object graph.well_formed.edges_hold_values stands)

          by_edge : (c : Bool) → is_free (node_of object).edges place ≡ c → IsOfGraph target
          by_edge true free =
              absurd (tame.free key object node number place target k offset has.2.block stands lives is (ap (slice_get state.memory) (sym same_number) ∙ has.2.there) has.2.node.size byte_there (ap (λ (s : Shape). is_free (link_edges s) place) region) free)
          by_edge false covered =
              let over = IsOver-not_free (node_of object).edges place covered in
              let found : slice_get object.edges over.at ≡ Some over.edge = ap (λ (edges : List HasValue). slice_get edges over.at) (sym edges_same) ∙ over.is in
              let word = edge_pointer has.2.block.bytes over.edge (given.word over.edge.value) (edge_of has.2.block.bytes object.edges over.at over.edge found has.2.node.edges) place target k offset over.from over.upto byte_there in
              word_owned over.edge.value (value_there over.at over.edge over.is) (InEdge key object over.at over.edge stands over.is refl) target word.0 word.1

      by_shape : (key : ℕ) (object : Object) → object_at parts.objects key ≡ Some object → (node : ℕ) → slice_get (given.blocks key) node ≡ Some number → object.live ≡ true → (shape : Shape) → object.shape ≡ shape →
          HasShape shape state.memory object given.word (λ value. own_offset (value_at parts.values value)) (given.blocks key) → IsOfGraph target
      by_shape key object stands node is lives RegionShape region has = by_region key object stands node is lives region has
      by_shape key object stands node is lives (Segment twofold head next prev back least next_value prev_value template) segment has = absurd (no_segment parts graph bound key object _ stands (ap links_in segment))

      by_life : (key : ℕ) (object : Object) → object_at parts.objects key ≡ Some object → (node : ℕ) → slice_get (given.blocks key) node ≡ Some number → (b : Bool) → object.live ≡ b → IsOfGraph target
      by_life key object stands node is true lives =
          by_shape key object stands node is lives object.shape refl (subst (λ (b : Bool). HasBlocksAs b state.memory object given.word (λ value. own_offset (value_at parts.values value)) (given.blocks key)) lives (meets.objects key object stands))
      by_life key object stands node is false dead =
          let has : HasBlocksAs false state.memory object given.word (λ value. own_offset (value_at parts.values value)) (given.blocks key) =
          subst (λ (b : Bool). HasBlocksAs b state.memory object given.word (λ value. own_offset (value_at parts.values value)) (given.blocks key)) dead (meets.objects key object stands) in
          let same = one has.0 node (sym (ap (λ (bs : List ℕ). slice_get bs node) has.1) ∙ is) in
          let gone : IsGone object.kind (Some block) = subst (IsGone object.kind) (ap (slice_get state.memory) same ∙ there) has.2 in
          absurd (false≢true (sym gone.0 ∙ live))
