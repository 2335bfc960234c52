-- What a function asks of a parameter, thing by thing.
use Rattle.expressions.proofs.Growth.{below_only_types, only_types_trans}
use Rattle.items.proofs.parameters.ParametersTaken.{parameter_is}
use Rattle.items.proofs.parameters.taking.parameter_of.Goals as goal

pub arrays_of-requires-2 : goal.arrays_of-requires-2
arrays_of-requires-2 c = below_only_types c.pointers_to.new.context c.arrays_of.new.context c.in_ok-asked.ensures.only_types c.in_ok-pointer.pointer c.in_ok-pointer.ensures.below

pub is_void-incomplete-requires : goal.is_void-incomplete-requires
is_void-incomplete-requires c = below_only_types c.arrays_of-2.new.context c.value_type.new.self c.in_ok-value.ensures.only_types c.in_ok-whole.whole c.in_ok-whole.ensures.below

pub is_large-requires : goal.is_large-requires
is_large-requires c = below_only_types c.arrays_of.new.context c.value_type.new.self
    (only_types_trans c.arrays_of.new.context c.arrays_of-2.new.context c.value_type.new.self c.in_ok-whole.ensures.only_types c.in_ok-value.ensures.only_types)
    c.in_ok-asked.asked c.in_ok-asked.ensures.below

pub returns : goal.returns
returns c abi = parameter_is abi c.args.param.now c.args.base c.args.sizes.now c.inner.result.now
    c.args.context.now c.pointers_to.new.context c.arrays_of.new.context c.arrays_of-2.new.context c.value_type.new.self
    c.in_ok-pointer.pointer c.in_ok-asked.asked c.in_ok-whole.whole c.in_ok-value.value
    c.is_large.result c.is_void-incomplete.result c.is_declared.result c.found_at_function.result c.found_of_name-found.result c.place_of.result
    c.inner.ensures c.in_ok-pointer.ensures c.in_ok-asked.ensures c.in_ok-whole.ensures c.in_ok-value.ensures
    c.is_void-incomplete.ensures (λ n agrees. c.is_large.ensures n abi agrees) c.found_of_name-found.ensures c.found_at_function.ensures c.place_of.ensures c.is_declared.ensures
