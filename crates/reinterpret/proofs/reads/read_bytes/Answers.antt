use Rattle.std.proofs.Common.{◌≡◌, true, List, take, drop, sym, subst}
use Rattle.std.specs.List.{list_all}
use Rattle.graph.specs.declared.edges.HasValue.{HasValue}
use Rattle.graph.specs.WellFormed.{lies_in}
use Rattle.changes.proofs.Entries.{room_small}
use Rattle.changes.proofs.Led.{edges_small}
use Rattle.reinterpret.proofs.ReadReady.{plane_range, unknown_fit}
use Rattle.reinterpret.proofs.reads.read_bytes.Goals as goal

pub are_class-requires-clause-range : goal.are_class-requires-clause-range
are_class-requires-clause-range c = plane_range c.args.graph.now c.args.key c.args.from c.args.size c.in-Some.object.now c.requires.graph c.requires.room c.in-Some.ensures

pub are_class-requires-in-Some-clause-range : goal.are_class-requires-in-Some-clause-range
are_class-requires-in-Some-clause-range c = plane_range c.args.graph.now c.args.key c.args.from c.args.size c.in-Some.object.now c.requires.graph c.requires.room c.in-Some.ensures

pub meets_none-requires-clause-range : goal.meets_none-requires-clause-range
meets_none-requires-clause-range c = room_small c.args.graph.now c.args.key c.args.from c.args.size c.requires.graph c.requires.room

pub meets_none-requires-clause-inside : goal.meets_none-requires-clause-inside
meets_none-requires-clause-inside c =
    subst (λ (edges : List HasValue). list_all (lies_in 65536) edges ≡ true) (sym c.as_slice.ensures)
    (edges_small c.args.graph.now c.args.key c.args.from c.args.size c.in-Some.object.now c.requires.graph c.requires.room (sym c.in-Some.ensures))

pub unknown-requires : goal.unknown-requires
unknown-requires c = record { range = plane_range c.args.graph.now c.args.key c.args.from c.args.size c.in-Some.object.now c.requires.graph c.requires.room c.in-Some.ensures }

pub put_fresh-requires-in-Some-clause-sized : goal.put_fresh-requires-in-Some-clause-sized
put_fresh-requires-in-Some-clause-sized c =
    (unknown_fit c.args.graph.now c.args.pointer c.args.size (take c.args.size (drop c.args.from c.in-Some.object.now.plane)) c.unknown.result c.requires.size c.unknown.ensures).sized
