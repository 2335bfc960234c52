use Rattle.std.proofs.Common.{add-one}
use Rattle.graph.specs.Renaming.{place_among}
use Rattle.graph.proofs.PlaceAmong.{changed_more}
use Rattle.graph.proofs.places.place_ports.Goals as goal

pub loop-port-preserved : goal.loop-port-preserved
loop-port-preserved c =
    rw (add-one, c.place_of.ensures, c.loop-port.invariant)
    (changed_more (place_among c.args.keys.now) c.args.ports.now c.loop-port.port-index _ c.loop-port-test.true)
