use Rattle.reinterpret.proofs.ReadReady.{told_held}
use Rattle.reinterpret.proofs.reads.read_room.Goals as goal

pub put_told-requires-clause-value : goal.put_told-requires-clause-value
put_told-requires-clause-value c = told_held c.args.graph.now c.args.pointer c.args.key c.args.from c.args.size c.in-Some.value c.requires.graph c.requires.room c.in-Some.ensures
