-- What stays is no larger, and each dead object of it is named.
use Rattle.std.proofs.Common.{◌≡◌, ℕ, ◌+◌, ◌≤◌, Bool, true, false, ◌&&◌, ◌||◌, not, cond, List, [], length, nat_le, Option, Some, refl, sym, ◌∙◌, ap, le-leb, leb-true, arith, ◌⊎◌, inl, inr}
use Rattle.std.specs.Prelude.{slice_get, option_map, IsSome}
use Rattle.std.specs.List.{list_any}
use Rattle.std.specs.Option.{option_map_or}
use Rattle.std.proofs.lemmas.Bool.{false≢true}
use Rattle.std.proofs.lemmas.List.{length-map}
use Rattle.graph.specs.declared.edges.HasValue.{HasValue}
use Rattle.graph.specs.declared.object.Object.{Object}
use Rattle.graph.specs.declared.object.Shape.{Shape}
use Rattle.graph.specs.declared.object.Shape.TheVariants.{Region, Segment}
use Rattle.graph.specs.declared.template.Node.{Node}
use Rattle.graph.specs.declared.value.Value.{Value}
use Rattle.graph.specs.declared.parts.Held.{Held}
use Rattle.graph.specs.declared.parts.KeyedObject.{KeyedObject}
use Rattle.graph.specs.declared.parts.KeyedValue.{KeyedValue}
use Rattle.graph.specs.declared.parts.Pair.{Pair}
use Rattle.graph.specs.declared.parts.Parts.{Parts}
use Rattle.graph.specs.Closed.{OnEdges, OnEnds}
use Rattle.graph.specs.Large.{live_nodes_of, live_nodes, leads_to, holds_address, is_addressed, addressed_dead, is_large}
use Rattle.graph.specs.Maps.{object_at, value_at}
use Rattle.graph.specs.Nodes.{is_region, own_node, node_in, node_of, link_edges}
use Rattle.graph.specs.Renaming.{renamed, renamed_shape, renamed_object, renamed_pair, object_place, value_place}
use Rattle.graph.specs.Unheld.{with_only}
use Rattle.graph.specs.WellFormed.{passes_at, says_nothing, nodes_of}
use Rattle.graph.specs.Whole.{IsGraph}
use Rattle.graph.proofs.Closed.{passes-at, says_nothing-edges}
use Rattle.graph.proofs.Found.{IsSome-holds}
use Rattle.graph.proofs.Numbered.{IsRenaming-places}
use Rattle.graph.proofs.Tests.{and_left, and_right}
use Rattle.graph.proofs.Unheld.{found_staying}
use Rattle.tidying.specs.Held.{stays, object_stays}
use Rattle.tidying.specs.Tidied.{tidied}
use Rattle.tidying.proofs.Addressed.{any_edges, on_links, addressed_sent}
use Rattle.tidying.proofs.Fits.{tidied_is, value_kept}
use Rattle.tidying.proofs.Kept.{kept_well_formed}
use Rattle.tidying.proofs.Lists.{stayed, any_filter, sum_stays, length_stays, count_stays}
use Rattle.tidying.proofs.Marked.{found_in_place}
use Rattle.tidying.proofs.MayGo.{may_go, register_stays}
use Rattle.tidying.proofs.Tests.{or_left, or_right, or_split}
use Rattle.tidying.proofs.Told.{any_same}

no_more : (a : Bool) → (a && false) ≡ false
no_more true = refl
no_more false = refl

-- an object of which nothing is said holds no address
bare_holds : (test : HasValue → Bool) (shape : Shape) (own : Node) → is_region shape ≡ true → own.edges ≡ [] → (list_any test (node_in shape own).edges || list_any test (link_edges shape)) ≡ false
bare_holds test Region own region none = ap (λ (edges : List HasValue). list_any test edges || false) none
bare_holds test (Segment twofold head next prev back least next_value prev_value node) own region none = absurd (false≢true region)

pub region_nodes : (shape : Shape) → is_region shape ≡ true → nodes_of shape ≡ 1
region_nodes Region region = refl
region_nodes (Segment twofold head next prev back least next_value prev_value node) region = absurd (false≢true region)

live_renamed : (values : ℕ → ℕ) (live : Bool) (shape : Shape) → cond live (nodes_of (renamed_shape values shape)) 0 ≡ cond live (nodes_of shape) 0
live_renamed values live Region = refl
live_renamed values live (Segment twofold head next prev back least next_value prev_value node) = refl

module _ (parts : Parts) (graph : IsGraph parts) where
  abbrev kept : Parts
  kept = with_only (stays parts) (object_stays parts) parts

  pub in_parts : (place : ℕ) (entry : KeyedObject) → slice_get parts.objects place ≡ Some entry → object_at parts.objects entry.key ≡ Some entry.object
  in_parts place entry is =
      ap (object_at parts.objects) (graph.keys.objects place entry is ∙ (let e : place ≡ 0 + place = omega arith in e))
      ∙ found_in_place (λ (entry : KeyedObject). entry.key) (λ entry. entry.object) 0 parts.objects (λ place entry stands. graph.keys.objects place entry stands ∙ (let e : place ≡ 0 + place = omega arith in e)) place
      ∙ ap (option_map (λ (entry : KeyedObject). entry.object)) is

  pub value_in : (place : ℕ) (entry : KeyedValue) → slice_get parts.values place ≡ Some entry → value_at parts.values entry.key ≡ Some entry.value
  value_in place entry is =
      ap (value_at parts.values) (graph.keys.values place entry is ∙ (let e : place ≡ 0 + place = omega arith in e))
      ∙ found_in_place (λ (entry : KeyedValue). entry.key) (λ entry. entry.value) 0 parts.values (λ place entry stands. graph.keys.values place entry stands ∙ (let e : place ≡ 0 + place = omega arith in e)) place
      ∙ ap (option_map (λ (entry : KeyedValue). entry.value)) is

  pub in_kept : (place : ℕ) (entry : KeyedObject) → slice_get kept.objects place ≡ Some entry → object_at kept.objects entry.key ≡ Some entry.object
  in_kept place entry is =
      let was = stayed (λ (entry : KeyedObject). object_stays parts entry.key) parts.objects place entry is in
      found_staying (λ (entry : KeyedObject). entry.key) (λ entry. entry.object) (object_stays parts) parts.objects entry.key was.stays ∙ in_parts was.place entry was.is

  -- what is dead is bare
  pub dead_bare : (place : ℕ) (entry : KeyedObject) → slice_get parts.objects place ≡ Some entry → entry.object.live ≡ false → (is_region entry.object.shape && says_nothing entry.object.edges entry.object.plane) ≡ true
  dead_bare place entry is dead =
      sym (ap (λ (b : Bool). b || (is_region entry.object.shape && says_nothing entry.object.edges entry.object.plane)) dead)
      ∙ passes-at (λ (entry : KeyedObject). entry.object.live || (is_region entry.object.shape && says_nothing entry.object.edges entry.object.plane)) parts.objects place entry is graph.well_formed.dead_objects_are_bare

  dead_holds_none : (key place : ℕ) (entry : KeyedObject) → slice_get parts.objects place ≡ Some entry → entry.object.live ≡ false → holds_address parts key entry.object ≡ false
  dead_holds_none key place entry is dead =
      let bare = dead_bare place entry is dead in
      bare_holds (λ (edge : HasValue). passes_at parts (leads_to key) edge.value) entry.object.shape (own_node entry.object) (and_left (is_region entry.object.shape) (says_nothing entry.object.edges entry.object.plane) bare)
      (says_nothing-edges entry.object.edges entry.object.plane (and_right (is_region entry.object.shape) (says_nothing entry.object.edges entry.object.plane) bare))

  -- what goes is dead
  gone_dead : (place : ℕ) (entry : KeyedObject) → slice_get parts.objects place ≡ Some entry → object_stays parts entry.key ≡ false → entry.object.live ≡ false
  gone_dead place entry is gone = by_life entry.object.live refl
    where
      by_life : (live : Bool) → entry.object.live ≡ live → entry.object.live ≡ false
      by_life false dead = dead
      by_life true lives = absurd (false≢true (sym gone ∙ (may_go parts graph.well_formed).live entry.key entry.object (in_parts place entry is) lives))

  passes_kept : (test : Value → Bool) (value : ℕ) → stays parts value ≡ true → passes_at kept test value ≡ passes_at parts test value
  passes_kept test value stay = ap (λ (o : Option Value). option_map_or test o false) (value_kept parts graph value stay)

  holds_kept : (key : ℕ) (object : Object) → OnEdges (λ value. stays parts value ≡ true) (node_of object).edges → OnEnds (λ value. stays parts value ≡ true) object.shape →
      holds_address kept key object ≡ holds_address parts key object
  holds_kept key object on_node on_shape =
      ap (λ (b : Bool). b || list_any (λ (link : HasValue). passes_at kept (leads_to key) link.value) (link_edges object.shape))
      (any_edges (λ value. stays parts value ≡ true) (passes_at kept (leads_to key)) (passes_at parts (leads_to key)) (passes_kept (leads_to key)) (node_of object).edges on_node)
      ∙ ap (λ (b : Bool). list_any (λ (edge : HasValue). passes_at parts (leads_to key) edge.value) (node_of object).edges || b)
      (any_edges (λ value. stays parts value ≡ true) (passes_at kept (leads_to key)) (passes_at parts (leads_to key)) (passes_kept (leads_to key)) (link_edges object.shape)
      (on_links (λ value. stays parts value ≡ true) object.shape on_shape))

  -- the same objects are addressed where what nothing holds is gone
  addressed_kept : (key : ℕ) → is_addressed kept key ≡ is_addressed parts key
  addressed_kept key =
      let objects : list_any (λ (entry : KeyedObject). holds_address kept key entry.object) kept.objects ≡ list_any (λ (entry : KeyedObject). holds_address parts key entry.object) parts.objects =
      any_filter (λ (entry : KeyedObject). holds_address kept key entry.object) (λ (entry : KeyedObject). holds_address parts key entry.object) (λ (entry : KeyedObject). object_stays parts entry.key) parts.objects
      (λ place entry is _. let named = (may_go parts graph.well_formed).named entry.key entry.object (in_parts place entry is) in holds_kept key entry.object named.0 named.1)
      (λ place entry is gone. dead_holds_none key place entry is (gone_dead place entry is gone)) in
      let registers : list_any (λ (entry : Held). passes_at kept (leads_to key) entry.value) parts.registers ≡ list_any (λ (entry : Held). passes_at parts (leads_to key) entry.value) parts.registers =
      any_same (λ (entry : Held). passes_at kept (leads_to key) entry.value) (λ (entry : Held). passes_at parts (leads_to key) entry.value) parts.registers
      (λ place entry is. passes_kept (leads_to key) entry.value (register_stays parts graph.well_formed place entry is)) in
      let ports : list_any (passes_at kept (leads_to key)) parts.ports ≡ list_any (passes_at parts (leads_to key)) parts.ports =
      any_same (passes_at kept (leads_to key)) (passes_at parts (leads_to key)) parts.ports (λ place port is. passes_kept (leads_to key) port ((may_go parts graph.well_formed).ports place port is)) in
      ap (λ (b : Bool). b || (list_any (λ (entry : Held). passes_at kept (leads_to key) entry.value) parts.registers || list_any (passes_at kept (leads_to key)) parts.ports)) objects
      ∙ ap (λ (b : Bool). list_any (λ (entry : KeyedObject). holds_address parts key entry.object) parts.objects || (b || list_any (passes_at kept (leads_to key)) parts.ports)) registers
      ∙ ap (λ (b : Bool). list_any (λ (entry : KeyedObject). holds_address parts key entry.object) parts.objects || (list_any (λ (entry : Held). passes_at parts (leads_to key) entry.value) parts.registers || b)) ports

  abbrev of_objects : ℕ → ℕ
  of_objects = object_place kept

  abbrev of_values : ℕ → ℕ
  of_values = value_place kept

  abbrev after : Parts
  after = renamed of_objects of_values kept

  pub addressed_after : (key : ℕ) → IsSome (object_at kept.objects key) → is_addressed after (of_objects key) ≡ is_addressed parts key
  addressed_after key there = addressed_sent of_objects of_values kept (IsRenaming-places kept) (kept_well_formed parts graph) in_kept key there ∙ addressed_kept key

  -- Largeness.

  fewer_live : live_nodes after ≤ live_nodes parts
  fewer_live =
      sum_stays (λ (entry : KeyedObject). live_nodes_of entry.object) (λ (entry : KeyedObject). live_nodes_of entry.object) (λ (entry : KeyedObject). record { key = of_objects entry.key; object = renamed_object of_values entry.object })
      (λ (entry : KeyedObject). object_stays parts entry.key) (λ entry. live_renamed of_values entry.object.live entry.object.shape) parts.objects

  fewer_dead : addressed_dead after ≤ addressed_dead parts
  fewer_dead =
      count_stays (λ (entry : KeyedObject). not entry.object.live && is_addressed after entry.key) (λ (entry : KeyedObject). not entry.object.live && is_addressed parts entry.key) (λ (entry : KeyedObject). object_stays parts entry.key)
      (λ (entry : KeyedObject). record { key = of_objects entry.key; object = renamed_object of_values entry.object }) parts.objects
      (λ place entry is stay. ap (λ (b : Bool). not entry.object.live && b)
      (addressed_after entry.key
      (IsSome-holds (object_at kept.objects entry.key) entry.object
      (found_staying (λ (entry : KeyedObject). entry.key) (λ entry. entry.object) (object_stays parts) parts.objects entry.key stay ∙ in_parts place entry is))))

  fewer_pairs : length after.unequal ≤ length parts.unequal
  fewer_pairs =
      let same = length-map kept.unequal (renamed_pair of_values) in
      let below = length_stays (λ (pair : Pair). stays parts pair.left && stays parts pair.right) parts.unequal in
      omega (arith, same, below)

  at_least : (bound count more : ℕ) → count ≤ more → nat_le bound count ≡ true → nat_le bound more ≡ true
  at_least bound count more below is = let e = leb-true bound count is in le-leb bound more (omega (arith, e, below))

  large_before : (bound : ℕ) → is_large bound after ≡ true → is_large bound parts ≡ true
  large_before bound large = by_split (or_split (nat_le bound (live_nodes after)) (nat_le bound (addressed_dead after) || nat_le bound (length after.unequal)) large)
    where
      by_dead : (nat_le bound (addressed_dead after) ≡ true) ⊎ (nat_le bound (length after.unequal) ≡ true) → (nat_le bound (addressed_dead parts) || nat_le bound (length parts.unequal)) ≡ true
      by_dead (inl many) = or_left (nat_le bound (addressed_dead parts)) (nat_le bound (length parts.unequal)) (at_least bound (addressed_dead after) (addressed_dead parts) fewer_dead many)
      by_dead (inr many) = or_right (nat_le bound (addressed_dead parts)) (nat_le bound (length parts.unequal)) (at_least bound (length after.unequal) (length parts.unequal) fewer_pairs many)

      by_split : (nat_le bound (live_nodes after) ≡ true) ⊎ ((nat_le bound (addressed_dead after) || nat_le bound (length after.unequal)) ≡ true) → is_large bound parts ≡ true
      by_split (inl many) =
          or_left (nat_le bound (live_nodes parts)) (nat_le bound (addressed_dead parts) || nat_le bound (length parts.unequal)) (at_least bound (live_nodes after) (live_nodes parts) fewer_live many)
      by_split (inr rest) =
          or_right (nat_le bound (live_nodes parts)) (nat_le bound (addressed_dead parts) || nat_le bound (length parts.unequal))
          (by_dead (or_split (nat_le bound (addressed_dead after)) (nat_le bound (length after.unequal)) rest))

  pub tidied_no_larger : (bound : ℕ) → is_large bound (tidied parts) ≡ true → is_large bound parts ≡ true
  tidied_no_larger bound large = large_before bound (sym (ap (is_large bound) (tidied_is parts graph)) ∙ large)
