-- A graph in which the last node of a segment that is linked both ways is a region of its own.
use Rattle.std.specs.Prelude.{ℕ, ◌+◌, ◌-◌, List, [], ◌∷◌, ◌++◌, map, length, nat_eq, if◌then◌else◌, ℤ, pos}
use Rattle.std.specs.Option.{option_map_or}
use Rattle.graph.specs.declared.object.Links.{Links}
use Rattle.graph.specs.declared.object.Object.{Object}
use Rattle.graph.specs.declared.object.Shape.{Shape}
use Rattle.graph.specs.declared.object.Shape.TheVariants.{Region as RegionShape, Segment}
use Rattle.graph.specs.declared.value.Target.{Target}
use Rattle.graph.specs.declared.value.Target.TheVariants.{Region, First, Last, Each}
use Rattle.graph.specs.declared.value.Value.{Value}
use Rattle.graph.specs.declared.value.Value.TheVariants.{Const, Number, Any, Address}
use Rattle.graph.specs.declared.parts.KeyedValue.{KeyedValue}
use Rattle.graph.specs.declared.parts.Parts.{Parts}
use Rattle.graph.specs.Maps.{object_at}
use Rattle.graph.specs.Nodes.{node_of}
use Rattle.graph.specs.Renaming.{values_from}
use Rattle.changes.specs.Parts.{replaced}
use Rattle.materialise.specs.Dropped.{links_at, dropped}
use Rattle.materialise.specs.SplitFirst.{own_values, at_region, with_link, alone, link_value, node_region}

-- a segment of one node less at least, behind which this value lies
abbrev pub rest_before : ℕ → Shape → Shape
rest_before after RegionShape = RegionShape
rest_before after (Segment twofold head next prev back least next_value prev_value node) = Segment twofold head next prev back (least - 1) after prev_value node

-- an address of the last node is one of the new region; one of the first node is one of the rest
abbrev pub last_target : ℕ → ℕ → Target → ℤ → Value
last_target region key Region offset = Address key offset Region
last_target region key First offset = Address key offset First
last_target region key Last offset = Address region offset Region
last_target region key Each offset = Address key offset Each

abbrev pub last_value : ℕ → ℕ → Value → Value
last_value region key (Const number size) = Const number size
last_value region key (Number size) = Number size
last_value region key Any = Any
last_value region key (Address object offset target) = if nat_eq object key then last_target region key target offset else Address object offset target

-- Values more are the region's own addresses, the address of the last node of the rest, at the place to which links back lead, which the region holds as
-- its link back; and the address of the region, at the place to which links lead, which lies behind the rest. The region's link is what lay behind the segment.
abbrev pub split_last_by : Parts → ℕ → Object → Links → Parts
split_last_by parts key object links =
    let region = length parts.objects in
    let owned = length parts.values + length (own_values key parts) in
    let node = with_link (last_value region key (link_value parts links.next_value)) (record { at = links.next; size = 8; value = links.next_value })
    (with_link (Address key (pos links.back) Last) (record { at = links.prev; size = 8; value = owned }) (alone key parts (node_of object))) in
    record parts {
      objects = map (replaced key (record object { shape = rest_before (owned + 1) object.shape })) parts.objects ++ record { key = region; object = node_region object node } ∷ [];
      values = map {B = KeyedValue} (λ entry. record { key = entry.key; value = last_value region key entry.value }) parts.values
          ++ values_from (length parts.values) (map (λ entry. at_region region entry.value) (own_values key parts) ++ Address key (pos links.back) Last ∷ Address region (pos links.head) Region ∷ []);
    }

abbrev pub split_last : ℕ → Parts → Parts
split_last key parts = option_map_or (λ object. option_map_or (split_last_by parts key object) (links_at parts key) parts) (object_at parts.objects key) parts

-- the cases of a segment that is linked both ways: without nodes, where it may be, and with a last one
abbrev pub last_nodes : ℕ → Parts → List Parts
last_nodes key parts = option_map_or (λ (links : Links). if nat_eq links.least 0 then dropped key parts ∷ split_last key parts ∷ [] else split_last key parts ∷ []) (links_at parts key) []
