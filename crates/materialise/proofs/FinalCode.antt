-- Room for the links of the region that the last node of a segment becomes.
use Rattle.std.proofs.Common.{◌≡◌, ℕ, suc, ◌+◌, ◌≤◌, ◌<◌, ◌^◌, Bool, true, false, List, [], ◌∷◌, ◌++◌, map, length, nat_eq, nat_lt, Option, Some, refl, sym, ◌∙◌, ap, eqb-true, lt-ltb, arith}
use Rattle.std.specs.Prelude.{slice_get, if◌then◌else◌}
use Rattle.std.specs.Option.{option_map_or}
use Rattle.std.proofs.lemmas.Option.{same_Some}
use Rattle.graph.specs.declared.object.Links.{Links}
use Rattle.graph.specs.declared.object.Object.{Object}
use Rattle.graph.specs.declared.template.Node.{Node}
use Rattle.graph.specs.declared.parts.KeyedObject.{KeyedObject}
use Rattle.graph.specs.declared.parts.KeyedValue.{KeyedValue}
use Rattle.graph.specs.declared.parts.Parts.{Parts}
use Rattle.graph.specs.Maps.{object_at}
use Rattle.graph.specs.Nodes.{links_in, node_of}
use Rattle.graph.specs.Whole.{IsGraph}
use Rattle.changes.specs.Parts.{replaced}
use Rattle.materialise.specs.SplitFirst.{own_values, link_value, node_region}
use Rattle.materialise.specs.SplitLast.{rest_before, last_value, split_last_by}
use Rattle.materialise.specs.Splitting.{alone_node}
use Rattle.materialise.specs.SplittingLast.{rest_before_entry, back_linked_node, last_node_of}
use Rattle.materialise.specs.WithOne.{is_twofold, has_head}
use Rattle.materialise.proofs.Planes.{filled-length}
use Rattle.materialise.proofs.SplitRows.{entry_there}
use Rattle.materialise.proofs.SplitThere.{links_are}

-- the links of a segment that is linked both ways say so
pub both_at : (parts : Parts) (key : ℕ) (object : Object) (links : Links) → object_at parts.objects key ≡ Some object → links_in object.shape ≡ Some links → is_twofold parts key ≡ true → links.twofold ≡ true
both_at parts key object links stands linked is =
    sym (ap (λ (o : Option Links). option_map_or (λ (l : Links). l.twofold) o false) (links_are parts key (record { object = object; links = links; stands = stands; linked = linked }))) ∙ is

-- a place of 32 bits is one of 63
pub head_small : (parts : Parts) (key : ℕ) (object : Object) (links : Links) → object_at parts.objects key ≡ Some object → links_in object.shape ≡ Some links → links.head < 4294967296 → has_head parts key ≡ true
head_small parts key object links stands linked small =
    ap (λ (o : Option Links). option_map_or (λ (l : Links). nat_lt l.head (2 ^ 63)) o false) (links_are parts key (record { object = object; links = links; stands = stands; linked = linked }))
    ∙ lt-ltb links.head (2 ^ 63) (omega arith)

-- the link back leaves the plane as long as it was
pub linked_room : (key owned : ℕ) (links : Links) (node : Node) → links.prev + 8 ≤ length node.plane → length (back_linked_node key owned links node).plane ≡ length node.plane
linked_room key owned links node room = filled-length node.plane links.prev 8 2 room

-- The objects of the graph that is split.

rest_replaced : (parts : Parts) → IsGraph parts → (key behind : ℕ) (object : Object) → object_at parts.objects key ≡ Some object →
    map (rest_before_entry key behind) parts.objects ≡ map (replaced key (record object { shape = rest_before behind object.shape })) parts.objects
rest_replaced parts graph key behind object stands =
    go parts.objects (λ place entry there same. same_Some _ _ (sym (entry_there (λ (e : KeyedObject). e.key) (λ e. e.object) parts.objects graph.keys.objects place entry there) ∙ ap (object_at parts.objects) same ∙ stands))
  where
    go : (entries : List KeyedObject) → ((place : ℕ) (entry : KeyedObject) → slice_get entries place ≡ Some entry → entry.key ≡ key → entry.object ≡ object) →
        map (rest_before_entry key behind) entries ≡ map (replaced key (record object { shape = rest_before behind object.shape })) entries
    go [] one = refl
    go (first ∷ rest) one =
        ap (λ (o : Object). (let e : KeyedObject = record { key = first.key; object = o } in e) ∷ map (rest_before_entry key behind) rest) (by_key (nat_eq first.key key) refl)
        ∙ ap (λ (es : List KeyedObject). replaced key (record object { shape = rest_before behind object.shape }) first ∷ es) (go rest (λ place entry there same. one (suc place) entry there same))
      where
        by_key : (b : Bool) → nat_eq first.key key ≡ b →
            (if b then (let o : Object = record first.object { shape = rest_before behind first.object.shape } in o) else first.object) ≡ (if b then (let o : Object = record object { shape = rest_before behind object.shape } in o) else first.object)
        by_key true is = ap (λ (o : Object). let r : Object = record o { shape = rest_before behind o.shape } in r) (one 0 first refl (eqb-true _ _ is))
        by_key false is = refl

module _ (parts : Parts) (key : ℕ) (object : Object) (links : Links) where
  abbrev region_of : List KeyedValue → ℕ → ℕ → KeyedObject
  region_of own region from =
      record { key = region; object = node_region object (last_node_of key (from + length own) links (last_value region key (link_value parts links.next_value)) (alone_node own from (node_of object))) }

  abbrev made : List KeyedValue → ℕ → ℕ → List KeyedObject → List KeyedObject
  made own region from objects = map (rest_before_entry key (from + length own + 1)) objects ++ region_of own region from ∷ []

  pub objects_are : IsGraph parts → object_at parts.objects key ≡ Some object → (own : List KeyedValue) (region from : ℕ) (objects kept : List KeyedObject) (new : Object) →
      own ≡ own_values key parts → region ≡ length parts.objects → from ≡ length parts.values → objects ≡ parts.objects → kept ≡ map (rest_before_entry key (from + length own + 1)) objects → new ≡ (region_of own region from).object →
      kept ++ (let e : KeyedObject = record { key = region; object = new } in e) ∷ [] ≡ (split_last_by parts key object links).objects
  objects_are graph stands own region from objects kept new own_is region_is from_is objects_is kept_is new_is =
      ap (λ (k : List KeyedObject). k ++ (let e : KeyedObject = record { key = region; object = new } in e) ∷ []) kept_is
      ∙ ap (λ (o : Object). map (rest_before_entry key (from + length own + 1)) objects ++ (let e : KeyedObject = record { key = region; object = o } in e) ∷ []) new_is
      ∙ ap (λ (o : List KeyedValue). made o region from objects) own_is
      ∙ ap (λ (r : ℕ). made (own_values key parts) r from objects) region_is
      ∙ ap (λ (f : ℕ). made (own_values key parts) (length parts.objects) f objects) from_is
      ∙ ap (λ (os : List KeyedObject). made (own_values key parts) (length parts.objects) (length parts.values) os) objects_is
      ∙ ap (λ (os : List KeyedObject). os ++ region_of (own_values key parts) (length parts.objects) (length parts.values) ∷ []) (rest_replaced parts graph key (length parts.values + length (own_values key parts) + 1) object stands)
