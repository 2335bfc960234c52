use Rattle.std.proofs.Common.{sym}
use Rattle.changes.proofs.Led.{room_reached}
use Rattle.reinterpret.proofs.writes.write_reached.Goals as goal

pub write_room-requires-clause-room : goal.write_room-requires-clause-room
write_room-requires-clause-room c = room_reached c.args.graph.now c.args.target c.args.size c.in-Room.key c.in-Room.from c.requires.graph c.requires.target (sym c.in-Room.ensures)
