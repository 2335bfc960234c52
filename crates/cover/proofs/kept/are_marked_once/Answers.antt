use Rattle.std.proofs.Common.{rules}
use Rattle.cover.proofs.Marks.{marks-end}
use Rattle.cover.proofs.kept.are_marked_once.Goals as goal

pub returns : goal.returns
returns c = marks-end c.args.found.now c.loop-at.marks.items c.loop-at.at c.loop-at.invariant (search rules)
