-- Parameters, one behind the other.
use Rattle.std.proofs.Common.{arith}
use Rattle.items.proofs.parameters.Walk.{parameters_start, parameters_next, parameters_refused, parameters_end}
use Rattle.items.proofs.parameters.walking.parameters.Goals as goal

pub loop-param-init : goal.loop-param-init
loop-param-init g c = parameters_start c.args.checker.now.abi c.args.params.now _ c.args.context.now c.requires.empty

pub returns-in-Refused : goal.returns-in-Refused
returns-in-Refused g c = parameters_refused c.args.checker.now.abi c.args.params.now c.loop-param.kept.items c.args.context.now c.loop-param.context c.one_parameter.new.context c.loop-param.param-index c.param-item.result c.in-Refused.fault c.in_ok-one.field-0
    c.loop-param-test.true c.param-item.is c.in-Refused.is c.in_ok-one.ensures c.loop-param.invariant

pub loop-param-preserved : goal.loop-param-preserved
loop-param-preserved g c = parameters_next c.args.checker.now.abi c.args.params.now c.loop-param.kept.items c.push.new.self.items c.args.context.now c.loop-param.context c.one_parameter.new.context c.loop-param.param-index c.param-item.result c.in-Passes.one c.in_ok-one.field-0
    c.loop-param-test.true c.param-item.is c.in_ok-push-in-Passes.ensures.items c.in-Passes.is c.in_ok-one.ensures c.loop-param.invariant

pub returns : goal.returns
returns g c = parameters_end c.args.checker.now.abi c.args.params.now c.loop-param.kept.items c.args.context.now c.loop-param.context c.loop-param.param-index (omega arith) c.loop-param.invariant
