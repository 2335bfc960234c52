-- A parameter: its words, its sizes, and what it is by them.
use Rattle.items.proofs.parameters.OneParameter.{words_within, sizes_within, sizes_of, words_refused, sizes_stop, base_below, parameter_found, takes_now}
use Rattle.items.proofs.parameters.walking.one_parameter.Goals as goal

pub words-requires-clause-deep : goal.words-requires-clause-deep
words-requires-clause-deep g c = words_within c.args.param.now c.args.checker.now.depth c.requires.deep

pub returns-in-Refused : goal.returns-in-Refused
returns-in-Refused g c = words_refused c.args.checker.now.abi c.args.param.now c.args.context.now c.words.new.context c.in_ok-base.field-0 c.in-Refused.fault c.in-Refused.is c.in_ok-base.ensures

pub sizes-requires-clause-deep : goal.sizes-requires-clause-deep
sizes-requires-clause-deep g c = sizes_within c.args.param.now c.args.checker.now.depth c.as_slice.result.now c.as_slice.ensures c.requires.deep

pub take-requires : goal.take-requires
take-requires g c = base_below c.args.checker.now.abi c.args.param.now c.args.context.now c.words.new.context c.sizes.new.context c.in-Passes.base c.in_ok-base.field-0 c.sizes.new.found.items c.in_ok-sizes.field-0
    c.in-Passes.is c.in-Passes-2.is c.in_ok-base.ensures
    (sizes_of c.args.checker.now.abi c.args.param.now c.as_slice.result.now c.sizes.new.found.items c.words.new.context c.sizes.new.context c.in_ok-sizes.field-0 c.as_slice.ensures c.in_ok-sizes.ensures)

pub returns-in-Passes-2 : goal.returns-in-Passes-2
returns-in-Passes-2 g c = parameter_found c.args.checker.now.abi c.args.param.now c.args.context.now c.words.new.context c.sizes.new.context c.in-Passes.base c.in_ok-base.field-0 c.sizes.new.found.items c.in_ok-sizes.field-0
    c.take.new.context c.in_ok-take-in-Passes-2.field-0 c.in-Passes.is c.in-Passes-2.is c.in_ok-base.ensures
    (sizes_of c.args.checker.now.abi c.args.param.now c.as_slice.result.now c.sizes.new.found.items c.words.new.context c.sizes.new.context c.in_ok-sizes.field-0 c.as_slice.ensures c.in_ok-sizes.ensures)
    (takes_now c.args.checker.now.abi c.args.param.now c.in-Passes.base c.sizes.new.found.items c.deref.result.now c.sizes.new.context c.take.new.context c.in_ok-take-in-Passes-2.field-0 c.take.result
    c.in_ok-take-in-Passes-2.was c.deref.ensures.value (c.take.ensures c.args.checker.now.abi))

pub returns : goal.returns
returns g c = sizes_stop c.args.checker.now.abi c.args.param.now c.args.context.now c.words.new.context c.sizes.new.context c.in-Passes.base c.in_ok-base.field-0 c.sizes.new.found.items c.in_ok-sizes.field-0
    c.in-Refused-2.fault c.in-Passes.is c.in-Refused-2.is c.in_ok-base.ensures
    (sizes_of c.args.checker.now.abi c.args.param.now c.as_slice.result.now c.sizes.new.found.items c.words.new.context c.sizes.new.context c.in_ok-sizes.field-0 c.as_slice.ensures c.in_ok-sizes.ensures)
