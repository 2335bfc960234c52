use Rattle.std.proofs.Common.{sym}
use Rattle.changes.proofs.Led.{room_reached}
use Rattle.reinterpret.proofs.reads.read_reached.Goals as goal

pub read_room-requires-clause-room : goal.read_room-requires-clause-room
read_room-requires-clause-room c = room_reached c.args.graph.now c.args.target c.args.size c.in-Room.key c.in-Room.from c.requires.graph c.requires.target (sym c.in-Room.ensures)
