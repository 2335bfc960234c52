-- Edges that lie in the planes beside them, as they do in a graph.
use Rattle.std.specs.Prelude.{Bool, true, ◌&&◌, length}
use Rattle.std.specs.List.{list_all}
use Rattle.graph.specs.declared.object.Object.{Object}
use Rattle.graph.specs.declared.object.Shape.{Shape}
use Rattle.graph.specs.declared.object.Shape.TheVariants.{Region, Segment}
use Rattle.graph.specs.declared.template.Node.{Node}
use Rattle.graph.specs.Nodes.{own_node}
use Rattle.graph.specs.WellFormed.{lies_in}

abbrev pub edges_fit : Node → Bool
edges_fit node = list_all (lies_in (length node.plane)) node.edges

abbrev pub shape_fits : Shape → Bool
shape_fits Region = true
shape_fits (Segment twofold head next prev back least next_value prev_value node) = edges_fit node

abbrev pub object_fits : Object → Bool
object_fits object = edges_fit (own_node object) && shape_fits object.shape
