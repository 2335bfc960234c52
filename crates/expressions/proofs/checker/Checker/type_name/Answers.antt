use Rattle.expressions.proofs.EachItem.{spec_within}
use Rattle.expressions.proofs.WholeTypeNames.{sizes_within, sizes_of, words_refused, sizes_stop, base_below, type_named, declares_now}
use Rattle.expressions.proofs.checker.Checker.type_name.Goals as goal

pub returns-in-Ok-Refused : goal.returns-in-Ok-Refused
returns-in-Ok-Refused g c = words_refused c.args.self.now.abi c.args.to.now c.args.context.now c.words.new.context c.in-Ok-Refused.field-0 c.in-Ok-Refused.fault c.in-Ok-Refused.field-0-is c.in-Ok-Refused.ensures

pub sizes-requires-clause-deep : goal.sizes-requires-clause-deep
sizes-requires-clause-deep g c = sizes_within c.args.to.now c.args.self.now.depth c.as_slice.result.now c.as_slice.ensures c.requires.deep

pub declare-requires : goal.declare-requires
declare-requires g c = base_below c.args.self.now.abi c.args.to.now c.args.context.now c.words.new.context c.sizes.new.context c.in-Ok-Passes.base c.in-Ok-Passes.field-0 c.sizes.new.found.items c.in-Ok-Passes-sizes.field-0
    c.in-Ok-Passes.field-0-is c.in-Ok-Passes-sizes.field-0-is c.in-Ok-Passes.ensures
    (sizes_of c.args.self.now.abi c.args.to.now c.as_slice.result.now c.sizes.new.found.items c.words.new.context c.sizes.new.context c.in-Ok-Passes-sizes.field-0 c.as_slice.ensures c.in-Ok-Passes-sizes.ensures)

pub returns-in-Ok : goal.returns-in-Ok
returns-in-Ok g c = type_named c.args.self.now.abi c.args.to.now c.args.context.now c.words.new.context c.sizes.new.context c.in-Ok-Passes.base c.in-Ok-Passes.field-0 c.sizes.new.found.items c.in-Ok-Passes-sizes.field-0
    c.declare.new.context c.in-Ok.named c.in-Ok-Passes.field-0-is c.in-Ok-Passes-sizes.field-0-is c.in-Ok-Passes.ensures
    (sizes_of c.args.self.now.abi c.args.to.now c.as_slice.result.now c.sizes.new.found.items c.words.new.context c.sizes.new.context c.in-Ok-Passes-sizes.field-0 c.as_slice.ensures c.in-Ok-Passes-sizes.ensures)
    (declares_now c.args.self.now.abi c.in-Ok-Passes.base _ c.sizes.new.found.items c.deref.result.now c.sizes.new.context c.declare.new.context c.in-Ok.named c.declare.result
    c.in-Ok.is c.deref.ensures.value (c.declare.ensures c.args.self.now.abi))

pub returns-in-Ok-Refused-sizes : goal.returns-in-Ok-Refused-sizes
returns-in-Ok-Refused-sizes g c = sizes_stop c.args.self.now.abi c.args.to.now c.args.context.now c.words.new.context c.sizes.new.context c.in-Ok-Passes.base c.in-Ok-Passes.field-0 c.sizes.new.found.items c.in-Ok-Refused-sizes.field-0
    c.in-Ok-Refused-sizes.fault c.in-Ok-Passes.field-0-is c.in-Ok-Refused-sizes.field-0-is c.in-Ok-Passes.ensures
    (sizes_of c.args.self.now.abi c.args.to.now c.as_slice.result.now c.sizes.new.found.items c.words.new.context c.sizes.new.context c.in-Ok-Refused-sizes.field-0 c.as_slice.ensures c.in-Ok-Refused-sizes.ensures)

pub words-requires-clause-nests : goal.words-requires-clause-nests
words-requires-clause-nests g c = c.requires.nests

pub sizes-requires-clause-nests : goal.sizes-requires-clause-nests
sizes-requires-clause-nests g c = c.requires.nests

pub words-requires-clause-deep : goal.words-requires-clause-deep
words-requires-clause-deep g c = spec_within c.args.to.now c.args.self.now.depth c.requires.deep

pub sizes-requires-clause-empty : goal.sizes-requires-clause-empty
sizes-requires-clause-empty g c = c.new-sizes.ensures.items
