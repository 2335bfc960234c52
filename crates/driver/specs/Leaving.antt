-- Posts without what nothing holds.
use Rattle.std.specs.Prelude.{◌≡◌, List, map}
use Rattle.std.specs.List.{All}
use Rattle.graph.specs.declared.parts.Parts.{Parts}
use Rattle.graph.specs.declared.post.Post.{Post}
use Rattle.graph.specs.Whole.{IsGraph}
use Rattle.flow.specs.declared.flow_graph.Flow.{Flow}
use Rattle.flow.specs.declared.flow_graph.FlowEdge.{FlowEdge}
use Rattle.tidying.specs.Tidied.{tidied}
use Rattle.transfer.specs.Along.{IsPostAlong}

-- what is left of a graph when what nothing holds is taken out
pub record IsWhatIsLeft (graph left : Parts) : Type 0 where
  pub same : left ≡ tidied graph
  pub is : IsGraph graph

-- what is left of graphs when what nothing holds is taken out of each
pub record AreLeft (graphs left : List Parts) : Type 0 where
  pub same : left ≡ map tidied graphs
  pub are : All IsGraph graphs

-- the same of a post
pub record IsLeft (whole post : Post) : Type 0 where
  pub graphs : AreLeft whole.graphs post.graphs
  pub kinds : post.kinds ≡ whole.kinds
  pub loss : post.loss ≡ whole.loss

-- what is left of the post of a graph along an edge
pub record IsPostOf (flow : Flow) (edge : FlowEdge) (graph : Parts) (post : Post) : Type 0 where
  pub whole : Post
  pub is : IsPostAlong flow edge graph whole
  pub left : IsLeft whole post
