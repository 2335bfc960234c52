use Rattle.std.proofs.Common.{◌≡◌, ◌++◌, map, take, drop}
use Rattle.graph.specs.Renaming.{place_among}
use Rattle.graph.proofs.places.place_ports.Given as goal

abbrev pub invariant-loop-port : goal.invariant-loop-port
invariant-loop-port l = l.ports ≡ map (place_among l.keys) (take l.port-index l.fn.ports) ++ drop l.port-index l.fn.ports
