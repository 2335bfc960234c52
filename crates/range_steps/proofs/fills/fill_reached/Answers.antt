use Rattle.std.proofs.Common.{sym}
use Rattle.changes.proofs.Led.{room_reached}
use Rattle.range_steps.proofs.fills.fill_reached.Goals as goal

pub fill_room-requires-clause-room : goal.fill_room-requires-clause-room
fill_room-requires-clause-room c = room_reached c.args.graph.now c.args.target c.args.length c.in-Room.key c.in-Room.from c.requires.graph c.requires.target (sym c.in-Room.ensures)
