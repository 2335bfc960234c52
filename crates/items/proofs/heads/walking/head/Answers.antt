-- The head of a function: its parameters in a scope of their own, and what is found at its name behind them.
use Rattle.items.proofs.heads.HeadWalked.{params_within, base_below, kept_below, head_refused, head_walked}
use Rattle.items.proofs.heads.walking.head.Goals as goal

pub parameters-requires-clause-deep : goal.parameters-requires-clause-deep
parameters-requires-clause-deep g c = params_within c.args.name.now c.params_of.result.now c.args.checker.now.depth c.params_of.ensures c.requires.deep

pub take_head-requires-clause-base : goal.take_head-requires-clause-base
take_head-requires-clause-base g c = base_below c.args.checker.now.abi c.args.bodied c.args.storage c.args.base c.args.name.now c.params_of.result.now c.parameters.new.kept.items c.args.context.now c.enter.new.self c.parameters.new.context c.in_ok-walked.walked
    c.params_of.ensures c.in_ok-enter.ensures.ok c.in_ok-walked.ensures c.in-Passes.is c.requires.base

pub take_head-requires-clause-params : goal.take_head-requires-clause-params
take_head-requires-clause-params g c = kept_below c.args.checker.now.abi c.args.bodied c.args.storage c.args.base c.args.name.now c.params_of.result.now c.parameters.new.kept.items c.args.context.now c.enter.new.self c.parameters.new.context c.in_ok-walked.walked
    c.params_of.ensures c.in_ok-enter.ensures.ok c.in_ok-walked.ensures c.deref.result.now c.deref.ensures.value c.in-Passes.is

pub returns-in-Passes : goal.returns-in-Passes
returns-in-Passes g c = head_walked c.args.checker.now.abi c.args.bodied c.args.storage c.args.base c.args.name.now c.params_of.result.now c.parameters.new.kept.items c.args.context.now c.enter.new.self c.parameters.new.context c.in_ok-walked.walked
    c.params_of.ensures c.in_ok-enter.ensures.ok c.in_ok-walked.ensures
    c.deref.result.now c.take_head.new.context c.take_head.result c.deref.ensures.value c.in-Passes.is (c.take_head.ensures c.args.checker.now.abi)

pub returns : goal.returns
returns g c = head_refused c.args.checker.now.abi c.args.bodied c.args.storage c.args.base c.args.name.now c.params_of.result.now c.parameters.new.kept.items c.args.context.now c.enter.new.self c.parameters.new.context c.in_ok-walked.walked
    c.params_of.ensures c.in_ok-enter.ensures.ok c.in_ok-walked.ensures c.in-Refused.fault c.in-Refused.is
