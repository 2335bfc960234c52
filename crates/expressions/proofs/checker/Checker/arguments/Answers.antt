use Rattle.std.proofs.Common.{arith}
use Rattle.expressions.proofs.Loops.{arguments_start, arguments_next, arguments_refused, arguments_end, arguments_counted}
use Rattle.ctrees.specs.Levels.{expr_levels}
use Rattle.expressions.proofs.EachItem.{each_item}
use Rattle.expressions.proofs.checker.Checker.arguments.Goals as goal

pub loop-arg-init : goal.loop-arg-init
loop-arg-init g c = arguments_start c.args.self.now.abi c.args.args.now _ c.args.context.now c.requires.empty

pub returns-in-Ok-Refused-clause-walk : goal.returns-in-Ok-Refused-clause-walk
returns-in-Ok-Refused-clause-walk g c = arguments_refused c.args.self.now.abi c.args.args.now c.loop-arg.known.items c.args.context.now c.loop-arg.context c.loaded.new.context c.loop-arg.arg-index c.arg-item.result c.in-Ok-Refused.fault c.in-Ok-Refused.field-0
    c.loop-arg-test.true c.arg-item.is c.in-Ok-Refused.field-0-is c.in-Ok-Refused.ensures c.loop-arg.invariant

pub loop-arg-preserved : goal.loop-arg-preserved
loop-arg-preserved g c = arguments_next c.args.self.now.abi c.args.args.now c.loop-arg.known.items _ c.args.context.now c.loop-arg.context c.loaded.new.context c.loop-arg.arg-index c.arg-item.result c.in-Ok-Passes.one c.in-Ok-Passes.field-0
    c.loop-arg-test.true c.arg-item.is c.in_ok-push-in-Ok-Passes.ensures.items c.in-Ok-Passes.field-0-is c.in-Ok-Passes.ensures c.loop-arg.invariant

pub returns-clause-walk : goal.returns-clause-walk
returns-clause-walk g c = arguments_end c.args.self.now.abi c.args.args.now c.loop-arg.known.items c.args.context.now c.loop-arg.context c.loop-arg.arg-index (omega arith) c.loop-arg.invariant

pub returns-clause-count : goal.returns-clause-count
returns-clause-count g c = arguments_counted c.args.self.now.abi c.args.args.now c.loop-arg.known.items c.args.context.now c.loop-arg.context c.loop-arg.arg-index (omega arith) c.loop-arg.invariant

pub loaded-requires-clause-nests : goal.loaded-requires-clause-nests
loaded-requires-clause-nests g c = c.requires.nests

pub loaded-requires-clause-deep : goal.loaded-requires-clause-deep
loaded-requires-clause-deep g c = each_item expr_levels c.args.self.now.depth c.args.args.now c.loop-arg.arg-index c.arg-item.result c.requires.deep c.loop-arg-test.true c.arg-item.is
