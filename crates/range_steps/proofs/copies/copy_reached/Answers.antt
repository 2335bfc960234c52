use Rattle.std.proofs.Common.{sym, ◌∙◌}
use Rattle.changes.proofs.Led.{room_reached}
use Rattle.range_steps.proofs.copies.copy_reached.Goals as goal

pub copy_rooms-requires-clause-source : goal.copy_rooms-requires-clause-source
copy_rooms-requires-clause-source c = room_reached c.args.graph.now c.args.source c.args.count c.in-Room.key c.in-Room.from c.requires.graph c.requires.source (sym c.reach_of-first.ensures ∙ c.in-Room.is)

pub copy_rooms-requires-clause-target : goal.copy_rooms-requires-clause-target
copy_rooms-requires-clause-target c = room_reached c.args.graph.now c.args.target c.args.count c.in-Room-second.other c.in-Room-second.at c.requires.graph c.requires.target (sym c.reach_of-second.ensures ∙ c.in-Room-second.is)
