use Rattle.std.proofs.Common.{sym}
use Rattle.range_steps.proofs.Ranged.{room_range}
use Rattle.range_steps.proofs.losses.loss_of.Goals as goal

pub copies_all-requires-clause-source : goal.copies_all-requires-clause-source
copies_all-requires-clause-source c = room_range c.args.graph.now c.args.key c.args.from c.args.count c.in-Some.source.now c.requires.graph c.requires.source (sym c.in-Some.ensures)

pub copies_all-requires-clause-target : goal.copies_all-requires-clause-target
copies_all-requires-clause-target c = room_range c.args.graph.now c.args.other c.args.at c.args.count c.in-Some-object.target.now c.requires.graph c.requires.target (sym c.in-Some-object.ensures)
