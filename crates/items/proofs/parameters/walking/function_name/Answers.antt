-- The name of a function: its parameters in a scope of their own, and what is found at it behind them.
use Rattle.items.proofs.parameters.FunctionNames.{parameters_within, function_refused, base_below, kept_below, function_walked}
use Rattle.items.proofs.parameters.walking.function_name.Goals as goal

pub parameters-requires-clause-deep : goal.parameters-requires-clause-deep
parameters-requires-clause-deep g c = parameters_within c.args.name.now c.args.params.now c.as_slice.result.now c.args.checker.now.depth c.requires.params c.as_slice.ensures c.requires.deep

pub take_function-requires-clause-base : goal.take_function-requires-clause-base
take_function-requires-clause-base g c = base_below c.args.checker.now.abi c.args.storage c.args.base c.args.name.now c.args.params.now c.as_slice.result.now c.parameters.new.kept.items c.args.context.now c.enter.new.self c.parameters.new.context c.leave.new.self c.in_ok-walked.walked
    c.requires.params c.as_slice.ensures c.in_ok-enter.ensures.ok c.leave.ensures c.in_ok-walked.ensures c.in-Passes.is c.requires.base

pub take_function-requires-clause-params : goal.take_function-requires-clause-params
take_function-requires-clause-params g c = kept_below c.args.checker.now.abi c.args.storage c.args.base c.args.name.now c.args.params.now c.as_slice.result.now c.parameters.new.kept.items c.args.context.now c.enter.new.self c.parameters.new.context c.leave.new.self c.in_ok-walked.walked
    c.requires.params c.as_slice.ensures c.in_ok-enter.ensures.ok c.leave.ensures c.in_ok-walked.ensures c.deref.result.now c.deref.ensures.value c.in-Passes.is

pub returns-in-Passes : goal.returns-in-Passes
returns-in-Passes g c = function_walked c.args.checker.now.abi c.args.storage c.args.base c.args.name.now c.args.params.now c.as_slice.result.now c.parameters.new.kept.items c.args.context.now c.enter.new.self c.parameters.new.context c.leave.new.self c.in_ok-walked.walked
    c.requires.params c.as_slice.ensures c.in_ok-enter.ensures.ok c.leave.ensures c.in_ok-walked.ensures
    c.deref.result.now c.take_function.new.context c.take_function.result c.deref.ensures.value c.in-Passes.is (c.take_function.ensures c.args.checker.now.abi)

pub returns : goal.returns
returns g c = function_refused c.args.checker.now.abi c.args.storage c.args.base c.args.name.now c.args.params.now c.as_slice.result.now c.parameters.new.kept.items c.args.context.now c.enter.new.self c.parameters.new.context c.leave.new.self c.in_ok-walked.walked
    c.requires.params c.as_slice.ensures c.in_ok-enter.ensures.ok c.leave.ensures c.in_ok-walked.ensures c.in-Refused.fault c.in-Refused.is
