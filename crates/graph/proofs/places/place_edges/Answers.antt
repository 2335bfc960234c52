use Rattle.std.proofs.Common.{add-one}
use Rattle.graph.specs.Renaming.{place_among, renamed_edge}
use Rattle.graph.proofs.PlaceAmong.{changed_more}
use Rattle.graph.proofs.places.place_edges.Goals as goal

pub loop-edge-preserved : goal.loop-edge-preserved
loop-edge-preserved c =
    rw (add-one, c.place_of-edge.ensures, c.loop-edge.invariant)
    (changed_more (renamed_edge (place_among c.args.keys.now)) c.args.edges.now c.loop-edge.edge-index _ c.loop-edge-test.true)
