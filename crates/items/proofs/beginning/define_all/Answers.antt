-- Names are defined one behind the other.
use Rattle.std.proofs.Common.{arith}
use Rattle.items.proofs.FileBegun.{defining_next, defining_end}
use Rattle.items.proofs.beginning.define_all.Goals as goal

pub loop-name-preserved : goal.loop-name-preserved
loop-name-preserved c = defining_next c.args.names.now c.args.context.now c.loop-name.context c.define.new.self c.loop-name.name-index c.name-item.result c.as_slice.result.now c.loop-name-test.true c.name-item.is c.as_slice.ensures
    c.in_ok-define.ensures.ok c.loop-name.invariant

pub returns : goal.returns
returns c = defining_end c.args.names.now c.args.context.now c.loop-name.context c.loop-name.name-index (omega arith) c.loop-name.invariant
