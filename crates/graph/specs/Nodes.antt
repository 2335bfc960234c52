-- What is said of the nodes of a segment, and of the block of a region.
use Rattle.std.specs.Prelude.{ℕ, Bool, true, false, List, [], ◌∷◌, Option, None, Some}
use Rattle.graph.specs.declared.edges.HasValue.{HasValue}
use Rattle.graph.specs.declared.object.Links.{Links}
use Rattle.graph.specs.declared.object.Object.{Object}
use Rattle.graph.specs.declared.object.Shape.{Shape}
use Rattle.graph.specs.declared.object.Shape.TheVariants.{Region, Segment}
use Rattle.graph.specs.declared.template.Node.{Node}

abbrev pub is_region : Shape → Bool
is_region Region = true
is_region (Segment twofold head next prev back least next_value prev_value node) = false

-- how the nodes of a segment are linked
abbrev pub links_in : Shape → Option Links
links_in Region = None
links_in (Segment twofold head next prev back least next_value prev_value node) =
    Some (record { twofold = twofold; head = head; next = next; prev = prev; back = back; least = least; next_value = next_value; prev_value = prev_value })

-- what an object says of the bytes of its block, where it is a region
abbrev pub own_node : Object → Node
own_node object = record { edges = object.edges; plane = object.plane }

-- what is said of the bytes of a region's block, or of those of each node of a segment
abbrev pub node_in : Shape → Node → Node
node_in Region own = own
node_in (Segment twofold head next prev back least next_value prev_value node) own = node

abbrev pub node_of : Object → Node
node_of object = node_in object.shape (own_node object)

-- the eight bytes of a node that hold its link back, where the nodes are linked both ways
abbrev pub back_edges : Bool → ℕ → ℕ → List HasValue
back_edges false prev prev_value = []
back_edges true prev prev_value = record { at = prev; size = 8; value = prev_value } ∷ []

-- the places of a node that hold its links, with the values that lie before and behind the segment
abbrev pub link_edges : Shape → List HasValue
link_edges Region = []
link_edges (Segment twofold head next prev back least next_value prev_value node) =
    record { at = next; size = 8; value = next_value } ∷ back_edges twofold prev prev_value
