-- What is handed on of parameters, one behind the other.
use Rattle.items.proofs.heads.HeadRows.{hands_end}
use Rattle.items.proofs.heads.handing.hand_on_each.Goals as goal

pub returns : goal.returns
returns c = hands_end c.args.declared.now c.args.params.now c.args.context.now c.loop-at.context c.loop-at.at c.pairs-at-end.result c.loop-at-test.false c.pairs-at-end.ensures.all c.loop-at.invariant
