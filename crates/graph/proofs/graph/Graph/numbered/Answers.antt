use Rattle.graph.proofs.AllPlaced.{IsGraph-placed}
use Rattle.graph.proofs.graph.Graph.numbered.Goals as goal

pub invariant_of-result : goal.invariant_of-result
invariant_of-result c =
    IsGraph-placed c.args.parts c.place_parts.new.contents c.requires.ascending c.requires.well_formed c.requires.within_limits c.in-Ok.ensures
