-- A graph that is built of the parts of one.
use Rattle.std.proofs.Common.{◌≡◌, ◌∙◌}
use Rattle.graph.specs.declared.parts.Parts.{Parts}
use Rattle.graph.specs.Renaming.{numbered}
use Rattle.graph.specs.Whole.{IsGraph}
use Rattle.graph.proofs.OwnPlaces.{graph_numbered}

pub built_same : (parts graph : Parts) → IsGraph parts → graph ≡ numbered parts → graph ≡ parts
built_same parts graph is built = built ∙ graph_numbered parts is
