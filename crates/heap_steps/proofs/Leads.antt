-- A block that is reached belongs to an object at one of whose ends a way of the graph arrives, in each memory in which nothing leads anywhere
-- but what edges and links hold.
use Rattle.std.proofs.Common.{◌≡◌, ◌≢◌, ℕ, zero, suc, ◌+◌, ◌<◌, Bool, true, false, List, [], ◌∷◌, ◌++◌, length, nat_eq, Option, None, Some, ◌⊎◌, inl, inr, refl, sym, ap, ◌∙◌, subst, eqb-true, eq-eqb, arith}
use Rattle.std.specs.Prelude.{IsSome, Contains, slice_get, ℤ, pos, ◌-ℤ◌, if◌then◌else◌}
use Rattle.std.specs.Option.{option_map_or}
use Rattle.std.specs.List.{list_all}
use Rattle.std.proofs.lemmas.Bool.{false≢true}
use Rattle.std.proofs.lemmas.List.Elements.{Contains-append_left, Contains-append_right}
use Rattle.std.proofs.lemmas.Option.{same_Some, none-some}
use Rattle.bytes_core.specs.declared.byte.Byte.TheVariants.{Part}
use Rattle.bytes_core.specs.declared.block.Block.{Block}
use Rattle.bytes_core.specs.declared.word.Word.{Word}
use Rattle.bytes_core.specs.declared.word.Word.TheVariants.{Plain, To}
use Rattle.bytes_core.specs.Marking.{Way, Onward}
use Rattle.bytes_core.specs.Value.{moved}
use Rattle.graph.specs.declared.edges.HasValue.{HasValue}
use Rattle.graph.specs.declared.object.Links.{Links}
use Rattle.graph.specs.declared.object.Object.{Object}
use Rattle.graph.specs.declared.object.Shape.{Shape}
use Rattle.graph.specs.declared.object.Shape.TheVariants.{Region as RegionShape, Segment}
use Rattle.graph.specs.declared.template.Node.{Node}
use Rattle.graph.specs.declared.value.Target.{Target}
use Rattle.graph.specs.declared.value.Target.TheVariants.{Region, First, Last, Each}
use Rattle.graph.specs.declared.value.Value.{Value}
use Rattle.graph.specs.declared.value.Value.TheVariants.{Const, Number, Any, Address}
use Rattle.graph.specs.declared.parts.KeyedObject.{KeyedObject}
use Rattle.graph.specs.declared.parts.Parts.{Parts}
use Rattle.graph.specs.Choices.{is_free}
use Rattle.graph.specs.Maps.{object_at, value_at, held_by}
use Rattle.graph.specs.Nodes.{links_in, own_node, node_in, node_of, back_edges, link_edges}
use Rattle.graph.specs.State.{State, IsState}
use Rattle.graph.specs.Meaning.{ends_of, address_word, Assignment, Meets, maps_of}
use Rattle.graph.specs.WellFormed.{passes_at, is_outward, Falls}
use Rattle.graph.specs.Whole.{IsGraph}
use Rattle.graph.proofs.Closed.{passes-at}
use Rattle.graph.proofs.Found.{Holds-some, IsSome-holds, found-all}
use Rattle.graph.proofs.SegmentNodes.{segments_have_nodes, segments_have_addresses}
use Rattle.heap_steps.specs.Ends.{target_places, value_places, places_of, edge_values, values_behind, places_in, places_behind, first_places}
use Rattle.heap_steps.proofs.Held.{beyond}
use Rattle.heap_steps.proofs.Listed.{HasLast-more, Contains-first, Contains-later, get_contained, mapped_to}
use Rattle.heap_steps.proofs.Reachable.{behind_place, first_end, last_end, is_last_at, key_below, fits_target, target_object, has_links, has_links_back}

-- a register, a port or an edge holds the value
pub data IsNamed (parts : Parts) (value : ℕ) : Type 0 where
  InRegister : (register : ℕ) → held_by parts.registers register ≡ Some value → IsNamed parts value
  InPort : (place : ℕ) → slice_get parts.ports place ≡ Some value → IsNamed parts value
  InEdge : (key : ℕ) (object : Object) (place : ℕ) (edge : HasValue) → object_at parts.objects key ≡ Some object → slice_get (node_of object).edges place ≡ Some edge → edge.value ≡ value → IsNamed parts value

-- no byte beside edges and links is part of a pointer, no word of any kind that is held is one, and a segment that may have no nodes has none
pub record IsTame (parts : Parts) (state : State) (given : Assignment) : Type 0 where
  pub free : (key : ℕ) (object : Object) (node number place target k : ℕ) (offset : ℤ) (block : Block) → object_at parts.objects key ≡ Some object → object.live ≡ true → slice_get (given.blocks key) node ≡ Some number → slice_get state.memory number ≡ Some block →
      length block.bytes ≡ object.size → slice_get block.bytes place ≡ Some (Part target offset k) → is_free (link_edges object.shape) place ≡ true → is_free (node_of object).edges place ≡ true → ⊥
  pub words : (value number : ℕ) (offset : ℤ) → IsNamed parts value → value_at parts.values value ≡ Some Any → given.word value ≡ To number offset → ⊥
  pub empty : (key : ℕ) (object : Object) (links : Links) → object_at parts.objects key ≡ Some object → links_in object.shape ≡ Some links → links.least ≡ 0 → given.blocks key ≡ []

-- a word that is moved leads to the block that it led to
pub moved_leads : (word : Word) (bytes : ℤ) (number : ℕ) (offset : ℤ) → moved word bytes ≡ To number offset → (at : ℤ) × (word ≡ To number at)
moved_leads (Plain value) bytes number offset is = absurd (let clash : moved (Plain value) bytes ≡ To number offset = is in plain_is _ number offset clash)
  where
    plain_is : (value number : ℕ) (offset : ℤ) → Plain value ≡ To number offset → ⊥
    plain_is value number offset is = cc
moved_leads (To block at) bytes number offset is = (at, ap (λ (n : ℕ). To n at) (ap block_of is))
  where
    block_of : Word → ℕ
    block_of (Plain value) = 0
    block_of (To block at) = block

plain_or : {P : Type 0} (word : Word) (value number : ℕ) (offset : ℤ) → word ≡ Plain value → word ≡ To number offset → P
plain_or word value number offset one other = absurd (let clash : Plain value ≡ To number offset = sym one ∙ other in cc)

pub to_block : (one other : ℕ) (at offset : ℤ) → To one at ≡ To other offset → one ≡ other
to_block one other at offset is = ap block_of is
  where
    block_of : Word → ℕ
    block_of (Plain value) = 0
    block_of (To block at) = block

-- the places of a value are among those of values that hold it
pub Contains-places : (parts : Parts) (values : List ℕ) (value : ℕ) → Contains values value → (place : ℕ) → Contains (value_places (length parts.objects) (value_at parts.values value)) place → Contains (places_of parts values) place
Contains-places parts values value there place at = let found = get_contained values value there in by_place values found.0 found.1
  where
    by_place : (values : List ℕ) (i : ℕ) → slice_get values i ≡ Some value → Contains (places_of parts values) place
    by_place [] i is = absurd (none-some value is)
    by_place (first ∷ rest) zero is =
        Contains-append_left (value_places (length parts.objects) (value_at parts.values first)) (places_of parts rest) place
        (subst (λ (v : ℕ). Contains (value_places (length parts.objects) (value_at parts.values v)) place) (sym (same_Some first value is)) at)
    by_place (first ∷ rest) (suc i) is = Contains-append_right (value_places (length parts.objects) (value_at parts.values first)) (places_of parts rest) place (by_place rest i is)

-- what stands where an end of a segment leads
beyond_behind : (shape : Shape) (own : Node) (last : Bool) (links : Links) → links_in shape ≡ Some links → links.least ≡ 0 → Contains (values_behind shape own last) (beyond links last)
beyond_behind RegionShape own last links linked none = absurd (none-some links linked)
beyond_behind (Segment twofold head next prev back least next_value prev_value node) own last links linked none =
    let same = same_Some _ _ linked in
    let zero_least : least ≡ 0 = ap (λ (l : Links). l.least) same ∙ none in
    subst (λ (l : Links). Contains (values_behind (Segment twofold head next prev back least next_value prev_value node) own last) (beyond l last)) same
    (subst (λ (b : Bool). Contains (if b then (if last then prev_value else next_value) ∷ [] else edge_values node.edges ++ next_value ∷ prev_value ∷ []) (if last then prev_value else next_value)) (sym (eq-eqb least 0 zero_least))
    (Contains-first (if last then prev_value else next_value) []))

nonzero : (least : ℕ) → least ≢ 0 → nat_eq least 0 ≡ false
nonzero least some = by_test (nat_eq least 0) refl
  where
    by_test : (b : Bool) → nat_eq least 0 ≡ b → nat_eq least 0 ≡ false
    by_test true is = absurd (some (eqb-true least 0 is))
    by_test false is = is

-- what a segment with nodes holds at both its ends
pub edge_behind : (shape : Shape) (own : Node) (last : Bool) → ((links : Links) → links_in shape ≡ Some links → links.least ≢ 0) → (place : ℕ) (edge : HasValue) → slice_get (node_in shape own).edges place ≡ Some edge → Contains (values_behind shape own last) edge.value
edge_behind RegionShape own last some place edge is = mapped_to (λ (edge : HasValue). edge.value) own.edges place edge is
edge_behind (Segment twofold head next prev back least next_value prev_value node) own last some place edge is =
    subst (λ (b : Bool). Contains (if b then (if last then prev_value else next_value) ∷ [] else edge_values node.edges ++ next_value ∷ prev_value ∷ []) edge.value) (sym (nonzero least (some _ refl)))
    (Contains-append_left (edge_values node.edges) (next_value ∷ prev_value ∷ []) edge.value (mapped_to (λ (edge : HasValue). edge.value) node.edges place edge is))

pub links_behind : (shape : Shape) (own : Node) (last : Bool) (links : Links) → links_in shape ≡ Some links → links.least ≢ 0 → Contains (values_behind shape own last) links.next_value × Contains (values_behind shape own last) links.prev_value
links_behind RegionShape own last links linked some = absurd (none-some links linked)
links_behind (Segment twofold head next prev back least next_value prev_value node) own last links linked some =
    let same = same_Some _ _ linked in
    let most : nat_eq least 0 ≡ false = nonzero least (λ none. some (sym (ap (λ (l : Links). l.least) same) ∙ none)) in
    subst (λ (l : Links). Contains (values_behind (Segment twofold head next prev back least next_value prev_value node) own last) l.next_value × Contains (values_behind (Segment twofold head next prev back least next_value prev_value node) own last) l.prev_value) same
    (subst (λ (b : Bool). Contains (if b then (if last then prev_value else next_value) ∷ [] else edge_values node.edges ++ next_value ∷ prev_value ∷ []) next_value
    × Contains (if b then (if last then prev_value else next_value) ∷ [] else edge_values node.edges ++ next_value ∷ prev_value ∷ []) prev_value) (sym most) (
      Contains-append_right (edge_values node.edges) (next_value ∷ prev_value ∷ []) next_value (Contains-first next_value (prev_value ∷ [])),
      Contains-append_right (edge_values node.edges) (next_value ∷ prev_value ∷ []) prev_value (Contains-later next_value prev_value (prev_value ∷ []) (Contains-first prev_value [])),
    ))

module _ (parts : Parts) (state : State) (given : Assignment) (graph : IsGraph parts) (is_state : IsState state) (meets : Meets (maps_of parts) state given) (tame : IsTame parts state given) where
  abbrev pub count : ℕ
  count = length parts.objects

  abbrev pub IsLed : ℕ → Type 0
  IsLed place = Way (first_places parts) (places_behind parts) place

  -- a way arrives at an end of the object
  abbrev pub IsObjectLed : ℕ → Type 0
  IsObjectLed key = IsLed key ⊎ IsLed (count + key)

  abbrev pub AreLed : ℕ → Type 0
  AreLed value = (place : ℕ) → Contains (value_places count (value_at parts.values value)) place → IsLed place

  -- each object that stands for the block is led to
  abbrev pub IsBlockLed : ℕ → Type 0
  IsBlockLed number = (key place : ℕ) → IsSome (object_at parts.objects key) → slice_get (given.blocks key) place ≡ Some number → IsObjectLed key

  pub own_block : (key place number : ℕ) → IsSome (object_at parts.objects key) → slice_get (given.blocks key) place ≡ Some number → IsObjectLed key → IsBlockLed number
  own_block key place number some is led key' place' some' is' =
      subst IsObjectLed (sym (meets.owners key place number some is) ∙ meets.owners key' place' number some' is') led

  -- what lies beyond an end at which a way arrives
  pub led_on : (key : ℕ) (object : Object) (last : Bool) → object_at parts.objects key ≡ Some object → IsLed (if last then count + key else key) → (value : ℕ) → Contains (values_behind object.shape (own_node object) last) value → AreLed value
  led_on key object last stands way value there place at =
      Onward (if last then count + key else key) place way
      (subst (λ (places : List ℕ). Contains places place) (sym (behind last))
      (Contains-places parts (values_behind object.shape (own_node object) last) value there place at))
    where
      behind : (b : Bool) → places_behind parts (if b then count + key else key) ≡ places_of parts (values_behind object.shape (own_node object) b)
      behind true =
          let end = last_end count key in
          behind_place parts (count + key)
          ∙ ap (λ (k : ℕ). places_in parts (object_at parts.objects k) (is_last_at count (count + key))) end.0
          ∙ ap (λ (o : Option Object). places_in parts o (is_last_at count (count + key))) stands
          ∙ ap (λ (b : Bool). places_of parts (values_behind object.shape (own_node object) b)) end.1
      behind false =
          let end = first_end count key (key_below parts graph key (IsSome-holds (object_at parts.objects key) object stands)) in
          behind_place parts key
          ∙ ap (λ (k : ℕ). places_in parts (object_at parts.objects k) (is_last_at count key)) end.0
          ∙ ap (λ (o : Option Object). places_in parts o (is_last_at count key)) stands
          ∙ ap (λ (b : Bool). places_of parts (values_behind object.shape (own_node object) b)) end.1

  -- what both ends hold
  pub led_either : (key : ℕ) (object : Object) → object_at parts.objects key ≡ Some object → IsObjectLed key → (value : ℕ) → ((last : Bool) → Contains (values_behind object.shape (own_node object) last) value) → AreLed value
  led_either key object stands (inl way) value there = led_on key object false stands way value (there false)
  led_either key object stands (inr way) value there = led_on key object true stands way value (there true)

  -- Words of addresses. Through segments without nodes the ranks of ends go down.

  abbrev IsBelowRank : ℕ → ℕ → Target → Type 0
  IsBelowRank bound key Region = Unit {0}
  IsBelowRank bound key First = graph.well_formed.comes_to_an_end.ranks.first key < bound
  IsBelowRank bound key Last = graph.well_formed.comes_to_an_end.ranks.last key < bound
  IsBelowRank bound key Each = Unit {0}

  abbrev LeadsWithin : ℕ → Type 0
  LeadsWithin bound = (value key : ℕ) (offset : ℤ) (target : Target) → value_at parts.values value ≡ Some (Address key offset target) → IsBelowRank bound key target → AreLed value → (number : ℕ) (at : ℤ) → given.word value ≡ To number at → IsBlockLed number

  placed_at : (value key : ℕ) (offset : ℤ) (target : Target) → value_at parts.values value ≡ Some (Address key offset target) → AreLed value → (place : ℕ) → Contains (target_places count key target) place → IsLed place
  placed_at value key offset target is led place there = led place (subst (λ (o : Option Value). Contains (value_places count o) place) (sym is) there)

  -- what lies beyond an end of a segment without nodes
  beyond_leads : (bound : ℕ) → LeadsWithin bound → (key : ℕ) (object : Object) (links : Links) (last : Bool) → object_at parts.objects key ≡ Some object → links_in object.shape ≡ Some links → links.least ≡ 0 → IsLed (if last then count + key else key) →
      Falls graph.well_formed.comes_to_an_end.ranks bound (value_at parts.values (beyond links last)) → passes_at parts is_outward (beyond links last) ≡ true → (number : ℕ) (at : ℤ) → given.word (beyond links last) ≡ To number at → IsBlockLed number
  beyond_leads bound leads key object links last stands linked none way falls outward number at is =
      by_value (value_at parts.values (beyond links last)) refl falls outward
    where
      by_target : (key' : ℕ) (offset : ℤ) (target : Target) → value_at parts.values (beyond links last) ≡ Some (Address key' offset target) → Falls graph.well_formed.comes_to_an_end.ranks bound (Some (Address key' offset target)) → IsBelowRank bound key' target → IsBlockLed number
      by_target key' offset target found falls below =
          leads (beyond links last) key' offset target found below (led_on key object last stands way (beyond links last) (beyond_behind object.shape (own_node object) last links linked none)) number at is

      by_value : (found : Option Value) → value_at parts.values (beyond links last) ≡ found → Falls graph.well_formed.comes_to_an_end.ranks bound found → option_map_or is_outward found false ≡ true → IsBlockLed number
      by_value None found falls out = absurd (false≢true out)
      by_value (Some (Const value size)) found falls out = plain_or (given.word (beyond links last)) value number at (meets.values (beyond links last) (Const value size) found) is
      by_value (Some (Number size)) found falls out = absurd (false≢true out)
      by_value (Some Any) found falls out = absurd (false≢true out)
      by_value (Some (Address key' offset Region)) found falls out = by_target key' offset Region found falls tt
      by_value (Some (Address key' offset First)) found falls out = by_target key' offset First found falls falls
      by_value (Some (Address key' offset Last)) found falls out = by_target key' offset Last found falls falls
      by_value (Some (Address key' offset Each)) found falls out = absurd (false≢true out)

  link_outward : (key : ℕ) (object : Object) → object_at parts.objects key ≡ Some object → (place : ℕ) (link : HasValue) → slice_get (link_edges object.shape) place ≡ Some link → passes_at parts is_outward link.value ≡ true
  link_outward key object stands place link is =
      passes-at (λ (link : HasValue). passes_at parts is_outward link.value) (link_edges object.shape) place link is
      (found-all (λ (entry : KeyedObject). entry.key) (λ entry. entry.object) (λ (object : Object). list_all (λ (link : HasValue). passes_at parts is_outward link.value) (link_edges object.shape)) parts.objects key object graph.well_formed.links_lead_on stands)

  pub next_outward : (key : ℕ) (object : Object) (links : Links) → object_at parts.objects key ≡ Some object → links_in object.shape ≡ Some links → passes_at parts is_outward links.next_value ≡ true
  next_outward key object links stands linked = by_shape object.shape linked (λ link is. link_outward key object stands 0 link is)
    where
      by_shape : (shape : Shape) → links_in shape ≡ Some links → ((link : HasValue) → slice_get (link_edges shape) 0 ≡ Some link → passes_at parts is_outward link.value ≡ true) → passes_at parts is_outward links.next_value ≡ true
      by_shape RegionShape linked all = absurd (none-some links linked)
      by_shape (Segment twofold head next prev back least next_value prev_value node) linked all =
          ap (λ (l : Links). passes_at parts is_outward l.next_value) (sym (same_Some _ _ linked)) ∙ all (record { at = next; size = 8; value = next_value }) refl

  pub prev_outward : (key : ℕ) (object : Object) (links : Links) → object_at parts.objects key ≡ Some object → links_in object.shape ≡ Some links → links.twofold ≡ true → passes_at parts is_outward links.prev_value ≡ true
  prev_outward key object links stands linked twofold_is = by_shape object.shape linked (λ link is. link_outward key object stands 1 link is)
    where
      by_way : (b : Bool) (prev prev_value : ℕ) → b ≡ true → ((link : HasValue) → slice_get (back_edges b prev prev_value) 0 ≡ Some link → passes_at parts is_outward link.value ≡ true) → passes_at parts is_outward prev_value ≡ true
      by_way true prev prev_value is all = all (record { at = prev; size = 8; value = prev_value }) refl
      by_way false prev prev_value is all = absurd (false≢true is)

      by_shape : (shape : Shape) → links_in shape ≡ Some links → ((link : HasValue) → slice_get (link_edges shape) 1 ≡ Some link → passes_at parts is_outward link.value ≡ true) → passes_at parts is_outward links.prev_value ≡ true
      by_shape RegionShape linked all = absurd (none-some links linked)
      by_shape (Segment twofold head next prev back least next_value prev_value node) linked all =
          ap (λ (l : Links). passes_at parts is_outward l.prev_value) (sym (same_Some _ _ linked)) ∙ by_way twofold prev prev_value (ap (λ (l : Links). l.twofold) (same_Some _ _ linked) ∙ twofold_is) all

  least_zero : (key : ℕ) (object : Object) (links : Links) → object_at parts.objects key ≡ Some object → links_in object.shape ≡ Some links → given.blocks key ≡ [] → links.least ≡ 0
  least_zero key object links stands linked none =
      let enough = (segments_have_nodes parts state given key object links graph.well_formed meets stands linked).enough in
      let size : length (given.blocks key) ≡ 0 = ap length none in omega arith

  region_leads : (value key : ℕ) (offset : ℤ) → value_at parts.values value ≡ Some (Address key offset Region) → AreLed value → (number : ℕ) (at : ℤ) → given.word value ≡ To number at → IsBlockLed number
  region_leads value key offset is led number at word_is = by_blocks (given.blocks key) refl
    where
      some : IsSome (object_at parts.objects key)
      some = target_object parts graph.well_formed value key offset Region is

      by_blocks : (bs : List ℕ) → given.blocks key ≡ bs → IsBlockLed number
      by_blocks [] none = absurd (let clash : Plain 0 ≡ To number at = sym (meets.values value (Address key offset Region) is ∙ ap (λ (bs : List ℕ). address_word Region bs (ends_of (object_at parts.objects) given.word key) offset) none) ∙ word_is in cc)
      by_blocks (block ∷ rest) first =
          let word : given.word value ≡ To block offset = meets.values value (Address key offset Region) is ∙ ap (λ (bs : List ℕ). address_word Region bs (ends_of (object_at parts.objects) given.word key) offset) first in
          let same : block ≡ number = to_block block number offset at (sym word ∙ word_is) in
          own_block key 0 number some (ap (λ (bs : List ℕ). slice_get bs 0) first ∙ ap Some same) (inl (placed_at value key offset Region is led key (Contains-first key [])))

  first_leads : (bound : ℕ) → LeadsWithin bound → (value key : ℕ) (offset : ℤ) → value_at parts.values value ≡ Some (Address key offset First) → graph.well_formed.comes_to_an_end.ranks.first key < suc bound → AreLed value → (number : ℕ) (at : ℤ) → given.word value ≡ To number at → IsBlockLed number
  first_leads bound leads value key offset is below led number at word_is = by_blocks (given.blocks key) refl
    where
      some : IsSome (object_at parts.objects key)
      some = target_object parts graph.well_formed value key offset First is

      way : IsLed key
      way = placed_at value key offset First is led key (Contains-first key [])

      by_blocks : (bs : List ℕ) → given.blocks key ≡ bs → IsBlockLed number
      by_blocks [] none =
          let object = Holds-some (object_at parts.objects key) some in
          let links = has_links object.item.shape (fits_target parts graph.well_formed value key offset First object.item is object.is) in
          let least = least_zero key object.item links.0 object.is links.1 none in
          let word = (segments_have_addresses parts state given key object.item links.0 meets object.is links.1).behind value offset is none in
          let next = moved_leads (given.word links.0.next_value) (offset -ℤ pos links.0.head) number at (sym word ∙ word_is) in
          beyond_leads bound leads key object.item links.0 false object.is links.1 least way
          (falls_lower (value_at parts.values links.0.next_value) (graph.well_formed.comes_to_an_end.next key object.item links.0 object.is links.1 least))
          (next_outward key object.item links.0 object.is links.1) number next.0 next.1
        where
          falls_lower : (found : Option Value) → Falls graph.well_formed.comes_to_an_end.ranks (graph.well_formed.comes_to_an_end.ranks.first key) found → Falls graph.well_formed.comes_to_an_end.ranks bound found
          falls_lower None falls = tt
          falls_lower (Some (Const value size)) falls = tt
          falls_lower (Some (Number size)) falls = tt
          falls_lower (Some Any) falls = tt
          falls_lower (Some (Address key' offset' Region)) falls = tt
          falls_lower (Some (Address key' offset' First)) falls = let f : graph.well_formed.comes_to_an_end.ranks.first key' < graph.well_formed.comes_to_an_end.ranks.first key = falls in omega arith
          falls_lower (Some (Address key' offset' Last)) falls = let f : graph.well_formed.comes_to_an_end.ranks.last key' < graph.well_formed.comes_to_an_end.ranks.first key = falls in omega arith
          falls_lower (Some (Address key' offset' Each)) falls = tt
      by_blocks (block ∷ rest) first =
          let object = Holds-some (object_at parts.objects key) some in
          let links = has_links object.item.shape (fits_target parts graph.well_formed value key offset First object.item is object.is) in
          let begins : slice_get (given.blocks key) 0 ≡ Some block = ap (λ (bs : List ℕ). slice_get bs 0) first in
          let word = (segments_have_addresses parts state given key object.item links.0 meets object.is links.1).first value offset block is begins in
          own_block key 0 number some (begins ∙ ap Some (to_block block number offset at (sym word ∙ word_is))) (inl way)

  last_leads : (bound : ℕ) → LeadsWithin bound → (value key : ℕ) (offset : ℤ) → value_at parts.values value ≡ Some (Address key offset Last) → graph.well_formed.comes_to_an_end.ranks.last key < suc bound → AreLed value → (number : ℕ) (at : ℤ) → given.word value ≡ To number at → IsBlockLed number
  last_leads bound leads value key offset is below led number at word_is = by_blocks (given.blocks key) refl
    where
      some : IsSome (object_at parts.objects key)
      some = target_object parts graph.well_formed value key offset Last is

      way : IsLed (count + key)
      way = placed_at value key offset Last is led (count + key) (Contains-first (count + key) [])

      by_blocks : (bs : List ℕ) → given.blocks key ≡ bs → IsBlockLed number
      by_blocks [] none =
          let object = Holds-some (object_at parts.objects key) some in
          let links = has_links_back object.item.shape (fits_target parts graph.well_formed value key offset Last object.item is object.is) in
          let least = least_zero key object.item links.0 object.is links.1 none in
          let word = (segments_have_addresses parts state given key object.item links.0 meets object.is links.1).before value offset is none in
          let prev = moved_leads (given.word links.0.prev_value) (offset -ℤ pos links.0.back) number at (sym word ∙ word_is) in
          beyond_leads bound leads key object.item links.0 true object.is links.1 least way
          (falls_lower (value_at parts.values links.0.prev_value) (graph.well_formed.comes_to_an_end.prev key object.item links.0 object.is links.1 least))
          (prev_outward key object.item links.0 object.is links.1 links.2) number prev.0 prev.1
        where
          falls_lower : (found : Option Value) → Falls graph.well_formed.comes_to_an_end.ranks (graph.well_formed.comes_to_an_end.ranks.last key) found → Falls graph.well_formed.comes_to_an_end.ranks bound found
          falls_lower None falls = tt
          falls_lower (Some (Const value size)) falls = tt
          falls_lower (Some (Number size)) falls = tt
          falls_lower (Some Any) falls = tt
          falls_lower (Some (Address key' offset' Region)) falls = tt
          falls_lower (Some (Address key' offset' First)) falls = let f : graph.well_formed.comes_to_an_end.ranks.first key' < graph.well_formed.comes_to_an_end.ranks.last key = falls in omega arith
          falls_lower (Some (Address key' offset' Last)) falls = let f : graph.well_formed.comes_to_an_end.ranks.last key' < graph.well_formed.comes_to_an_end.ranks.last key = falls in omega arith
          falls_lower (Some (Address key' offset' Each)) falls = tt
      by_blocks (block ∷ rest) first =
          let object = Holds-some (object_at parts.objects key) some in
          let links = has_links_back object.item.shape (fits_target parts graph.well_formed value key offset Last object.item is object.is) in
          let ending = HasLast-more block rest in
          let whole : given.blocks key ≡ ending.front ++ ending.last ∷ [] = first ∙ ending.is in
          let word = (segments_have_addresses parts state given key object.item links.0 meets object.is links.1).last value offset ending.front ending.last is whole in
          own_block key (length ending.front) number some
          (ap (λ (bs : List ℕ). slice_get bs (length ending.front)) whole ∙ last_there ending.front ending.last ∙ ap Some (to_block ending.last number offset at (sym word ∙ word_is))) (inr way)
        where
          last_there : (front : List ℕ) (last : ℕ) → slice_get (front ++ last ∷ []) (length front) ≡ Some last
          last_there [] last = refl
          last_there (first ∷ front) last = last_there front last

  address_leads : (bound : ℕ) → LeadsWithin bound
  address_leads zero value key offset Region is below led number at word_is = region_leads value key offset is led number at word_is
  address_leads zero value key offset First is below led number at word_is = absurd (let b : graph.well_formed.comes_to_an_end.ranks.first key < 0 = below in omega arith)
  address_leads zero value key offset Last is below led number at word_is = absurd (let b : graph.well_formed.comes_to_an_end.ranks.last key < 0 = below in omega arith)
  address_leads zero value key offset Each is below led number at word_is = plain_or (given.word value) 0 number at (meets.values value (Address key offset Each) is) word_is
  address_leads (suc bound) value key offset Region is below led number at word_is = region_leads value key offset is led number at word_is
  address_leads (suc bound) value key offset First is below led number at word_is = first_leads bound (address_leads bound) value key offset is below led number at word_is
  address_leads (suc bound) value key offset Last is below led number at word_is = last_leads bound (address_leads bound) value key offset is below led number at word_is
  address_leads (suc bound) value key offset Each is below led number at word_is = plain_or (given.word value) 0 number at (meets.values value (Address key offset Each) is) word_is

  -- the word of a value whose places are led to
  pub value_leads : (value : ℕ) → IsSome (value_at parts.values value) → (value_at parts.values value ≡ Some Any → (number : ℕ) (at : ℤ) → given.word value ≡ To number at → ⊥) → AreLed value → (number : ℕ) (at : ℤ) → given.word value ≡ To number at → IsBlockLed number
  value_leads value some not_any led number at word_is = by_value (value_at parts.values value) refl some
    where
      below : (key : ℕ) (target : Target) → IsBelowRank (suc (graph.well_formed.comes_to_an_end.ranks.first key + graph.well_formed.comes_to_an_end.ranks.last key)) key target
      below key Region = tt
      below key First = omega arith
      below key Last = omega arith
      below key Each = tt

      by_value : (found : Option Value) → value_at parts.values value ≡ found → IsSome found → IsBlockLed number
      by_value None is holds = absurd (false≢true holds)
      by_value (Some (Const constant size)) is holds = plain_or (given.word value) constant number at (meets.values value (Const constant size) is) word_is
      by_value (Some (Number size)) is holds = let has = meets.values value (Number size) is in plain_or (given.word value) has.0 number at has.1 word_is
      by_value (Some Any) is holds = absurd (not_any is number at word_is)
      by_value (Some (Address key offset target)) is holds = address_leads _ value key offset target is (below key target) led number at word_is
