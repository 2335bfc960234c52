use Rattle.changes.proofs.Entries.{room_small}
use Rattle.range_steps.proofs.copies.copy_rooms.Goals as goal

pub overlap-requires-clause-from : goal.overlap-requires-clause-from
overlap-requires-clause-from c = room_small c.args.graph.now c.args.other c.args.at c.args.count c.requires.graph c.requires.target

pub overlap-requires-clause-at : goal.overlap-requires-clause-at
overlap-requires-clause-at c = room_small c.args.graph.now c.args.key c.args.from c.args.count c.requires.graph c.requires.source
