-- Parameters of `main`, one behind the other.
use Rattle.std.proofs.Common.{false, None, arith}
use Rattle.items.proofs.heads.HeadMarked.{marks_below, marks_end}
use Rattle.items.proofs.heads.marking.mark_each.Goals as goal

pub mark-requires : goal.mark-requires
mark-requires c = marks_below c.args.declared.now c.args.params.now c.args.context.now c.loop-at.context c.loop-at.at
    (record { ctype = 0; found = None; place = None; again = false; incomplete = false }) (omega arith) c.requires c.loop-at.invariant

pub returns : goal.returns
returns c = marks_end c.args.declared.now c.args.params.now c.args.context.now c.loop-at.context c.loop-at.at c.pairs-at-end.result c.loop-at-test.false c.pairs-at-end.ensures.all c.loop-at.invariant
