-- Functions of a table, one behind the other.
use Rattle.std.proofs.Common.{arith}
use Rattle.items.proofs.BuiltIns.{declaring_next, declaring_end}
use Rattle.items.proofs.built_ins.declare_functions.Goals as goal

pub loop-function-init : goal.loop-function-init
loop-function-init c = λ new more. more

pub loop-function-preserved : goal.loop-function-preserved
loop-function-preserved c = declaring_next c.args.bodied.now c.args.abi c.args.functions.now c.args.context.now c.loop-function.context c.declare_unless.new.context c.loop-function.function-index _
    c.loop-function-test.true c.in_ok-declare_unless.ensures c.loop-function.invariant

pub returns : goal.returns
returns c = declaring_end c.args.bodied.now c.args.abi c.args.functions.now c.args.context.now c.loop-function.context c.loop-function.function-index (omega arith) c.loop-function.invariant
