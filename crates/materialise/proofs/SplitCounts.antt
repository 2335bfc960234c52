-- How many nodes a graph has in which the first node of a segment is a region.
use Rattle.std.proofs.Common.{◌≡◌, ℕ, zero, suc, ◌+◌, ◌-◌, ◌^◌, ◌<◌, max, Bool, true, false, ◌&&◌, List, map, length, set, nat_lt, Option, Some, refl, sym, ◌∙◌, ap, ltb-true, arith}
use Rattle.std.specs.Prelude.{sum_by, if◌then◌else◌}
use Rattle.std.specs.Option.{option_map_or}
use Rattle.std.proofs.lemmas.List.Sums.{sum_by_push, sum_by-set}
use Rattle.std.proofs.lemmas.Option.{same_Some, none-some, get_or_from_slice_get, slice_get_within}
use Rattle.graph.specs.declared.object.Links.{Links}
use Rattle.graph.specs.declared.object.Object.{Object}
use Rattle.graph.specs.declared.object.Shape.{Shape}
use Rattle.graph.specs.declared.object.Shape.TheVariants.{Region as RegionShape, Segment}
use Rattle.graph.specs.declared.parts.KeyedObject.{KeyedObject}
use Rattle.graph.specs.declared.parts.Parts.{Parts}
use Rattle.graph.specs.Maps.{object_at}
use Rattle.graph.specs.Nodes.{links_in}
use Rattle.graph.specs.WellFormed.{nodes_of, nodes, is_within_limits}
use Rattle.graph.specs.Whole.{IsGraph}
use Rattle.graph.proofs.Found.{IsSome-holds}
use Rattle.graph.proofs.Tests.{and_right}
use Rattle.changes.specs.Parts.{replaced}
use Rattle.changes.proofs.Appended.{where_found}
use Rattle.changes.proofs.Entries.{replaced_set}
use Rattle.materialise.specs.Dropped.{links_at}
use Rattle.materialise.specs.SplitFirst.{rest_behind, split_first}
use Rattle.materialise.specs.WithOne.{is_segment}
use Rattle.materialise.proofs.SplitRows.{entry_there}
use Rattle.materialise.proofs.SplitThere.{IsSegmentAt, region, owned, rest, new_region, later, split_is, links_are, segment_at}

abbrev pub nodes_in : KeyedObject → ℕ
nodes_in entry = nodes_of entry.object.shape

-- with another object at a key
pub nodes_replaced : (parts : Parts) → IsGraph parts → (key : ℕ) (old new : Object) → object_at parts.objects key ≡ Some old → sum_by nodes_in (map (replaced key new) parts.objects) + nodes_of old.shape ≡ nodes parts + nodes_of new.shape
nodes_replaced parts graph key old new stands =
    let found = where_found (λ (entry : KeyedObject). entry.key) (λ entry. entry.object) parts.objects key (IsSome-holds _ _ stands) in
    let within : found.0 < length parts.objects = slice_get_within parts.objects found.0 found.1 found.2 in
    let object_is : found.1.object ≡ old = same_Some _ _ (sym (entry_there (λ (entry : KeyedObject). entry.key) (λ entry. entry.object) parts.objects graph.keys.objects found.0 found.1 found.2) ∙ ap (object_at parts.objects) found.3 ∙ stands) in
    let there = λ (d : KeyedObject). get_or_from_slice_get parts.objects found.0 found.1 d found.2 in
    ap (λ (objects : List KeyedObject). sum_by nodes_in objects + nodes_of old.shape)
    (sym (replaced_set parts.objects found.0 key new graph.ascending.objects within (λ d. ap (λ (e : KeyedObject). e.key) (there d) ∙ found.3)))
    ∙ ap (λ (o : Object). sum_by nodes_in (set parts.objects found.0 (let e : KeyedObject = record { key = key; object = new } in e)) + nodes_of o.shape) (sym object_is)
    ∙ ap (λ (e : KeyedObject). sum_by nodes_in (set parts.objects found.0 (let e : KeyedObject = record { key = key; object = new } in e)) + nodes_in e) (sym (there found.1))
    ∙ sum_by-set nodes_in parts.objects found.0 (let e : KeyedObject = record { key = key; object = new } in e) found.1 within

-- one more where one may be left at most, and else as many
pub nodes_rest : (before : ℕ) (shape : Shape) (links : Links) → links_in shape ≡ Some links → nodes_of (rest_behind before shape) + 1 ≡ nodes_of shape + (if nat_lt links.least 2 then 1 else 0)
nodes_rest before RegionShape links linked = absurd (none-some links linked)
nodes_rest before (Segment twofold head next prev back least next_value prev_value node) links linked =
    by_least least ∙ ap (λ (l : Links). max 1 least + (if nat_lt l.least 2 then 1 else 0)) (same_Some _ _ linked)
  where
    by_least : (least : ℕ) → max 1 (least - 1) + 1 ≡ max 1 least + (if nat_lt least 2 then 1 else 0)
    by_least zero = refl
    by_least (suc zero) = refl
    by_least (suc (suc least)) = by_test (nat_lt (suc (suc least)) 2) refl
      where
        by_test : (b : Bool) → nat_lt (suc (suc least)) 2 ≡ b → max 1 (suc (suc least) - 1) + 1 ≡ max 1 (suc (suc least)) + (if b then 1 else 0)
        by_test true is = let low = ltb-true (suc (suc least)) 2 is in absurd (omega arith)
        by_test false is = omega arith

module _ (parts : Parts) (graph : IsGraph parts) (key : ℕ) (at : IsSegmentAt parts key) where
  pub nodes_now : nodes (later parts graph key at) ≡ nodes parts + (if nat_lt at.links.least 2 then 1 else 0)
  nodes_now =
      let more = sum_by_push nodes_in (map (replaced key (rest parts graph key at)) parts.objects) (record { key = region parts graph key at; object = new_region parts graph key at }) in
      let left = nodes_replaced parts graph key at.object (rest parts graph key at) at.stands in
      let one = nodes_rest (owned parts graph key at + 1) at.object.shape at.links at.linked in
      omega (arith, more, left, one)

  pub split_nodes : nodes (split_first key parts) ≡ nodes parts + (if nat_lt (option_map_or (λ (links : Links). links.least) (links_at parts key) 0) 2 then 1 else 0)
  split_nodes =
      ap nodes (split_is parts graph key at) ∙ nodes_now
      ∙ ap (λ (o : Option Links). nodes parts + (if nat_lt (option_map_or (λ (links : Links). links.least) o 0) 2 then 1 else 0)) (sym (links_are parts key at))

  pub limits_now : is_within_limits (split_first key parts) ≡ nat_lt (nodes parts + (if nat_lt at.links.least 2 then 1 else 0)) (2 ^ 30)
  limits_now =
      ap is_within_limits (split_is parts graph key at)
      ∙ ap (λ (n : ℕ). nat_lt n (2 ^ 30) && nat_lt (length parts.unequal) (2 ^ 30)) nodes_now
      ∙ ap (λ (b : Bool). nat_lt (nodes parts + (if nat_lt at.links.least 2 then 1 else 0)) (2 ^ 30) && b) (and_right (nat_lt (nodes parts) (2 ^ 30)) (nat_lt (length parts.unequal) (2 ^ 30)) graph.within_limits)
      ∙ with_true (nat_lt (nodes parts + (if nat_lt at.links.least 2 then 1 else 0)) (2 ^ 30))
    where
      with_true : (b : Bool) → (b && true) ≡ b
      with_true true = refl
      with_true false = refl

pub split_limits : (parts : Parts) (key : ℕ) → IsGraph parts → is_segment parts key ≡ true →
    nat_lt (nodes parts + (if nat_lt (option_map_or (λ (links : Links). links.least) (links_at parts key) 0) 2 then 1 else 0)) 1073741824 ≡ is_within_limits (split_first key parts)
split_limits parts key graph is =
    let at = segment_at parts key is in
    ap (λ (o : Option Links). nat_lt (nodes parts + (if nat_lt (option_map_or (λ (links : Links). links.least) o 0) 2 then 1 else 0)) 1073741824) (links_are parts key at) ∙ sym (limits_now parts graph key at)
