-- The name of a function: what is broken at it, or what declares it.
use Rattle.std.proofs.Common.{◌∙◌}
use Rattle.items.proofs.parameters.NamesTaken.{firsts, named_broken, named_passes, types_below}
use Rattle.items.proofs.parameters.naming.take_function.Goals as goal

pub is_again-again-requires-clause-params : goal.is_again-again-requires-clause-params
is_again-again-requires-clause-params c = types_below c.args.context.now c.pointers_to.new.context c.args.params.now c.as_slice-2.result.now c.in_ok-result_type.ensures.only_types
    (c.as_slice-2.ensures ∙ c.in_ok-types.ensures) c.requires.params

pub declare_function-requires-clause-params : goal.declare_function-requires-clause-params
declare_function-requires-clause-params c = types_below c.args.context.now c.pointers_to.new.context c.args.params.now c.in_ok-types.types c.in_ok-result_type.ensures.only_types c.in_ok-types.ensures c.requires.params

pub returns-in-Some : goal.returns-in-Some
returns-in-Some c abi = named_broken abi c.args.storage c.args.base c.args.name.now c.args.params.now c.args.context.now c.pointers_to.new.context c.in_ok-result_type.result_type c.in_ok-types.types c.as_slice.result.now c.is_again-again.result
    c.as_slice.ensures c.in_ok-types.ensures c.in_ok-result_type.ensures c.as_slice-2.result.now c.first_of.result c.in-Some.fault c.as_slice-2.ensures c.is_again-again.ensures c.in-Some.is
    (firsts abi c.args.storage c.args.base c.args.name.now c.args.params.now c.args.context.now c.pointers_to.new.context c.in_ok-result_type.result_type c.in_ok-types.types c.as_slice.result.now c.is_again-again.result
    c.as_slice.ensures c.in_ok-types.ensures c.in_ok-result_type.ensures c.function_fault-here.result c.first_of_parameters.result c.first_of.result c.least-found.result c.found_of_parameters.result c.is_some-array.result c.item.result
    c.function_fault-here.ensures c.first_of_parameters.ensures c.first_of.ensures c.least-found.ensures c.found_of_parameters.ensures c.is_some-array.ensures c.item.ensures.is)

pub returns-in_ok-declare_function-in-None : goal.returns-in_ok-declare_function-in-None
returns-in_ok-declare_function-in-None c abi = named_passes abi c.args.storage c.args.base c.args.name.now c.args.params.now c.args.context.now c.pointers_to.new.context c.in_ok-result_type.result_type c.in_ok-types.types c.as_slice.result.now c.is_again-again.result
    c.as_slice.ensures c.in_ok-types.ensures c.in_ok-result_type.ensures c.as_slice-2.result.now c.as_slice-in-None.result.now c.first_of.result c.declare_function.new.context c.as_slice-2.ensures c.is_again-again.ensures c.in-None.is
    (firsts abi c.args.storage c.args.base c.args.name.now c.args.params.now c.args.context.now c.pointers_to.new.context c.in_ok-result_type.result_type c.in_ok-types.types c.as_slice.result.now c.is_again-again.result
    c.as_slice.ensures c.in_ok-types.ensures c.in_ok-result_type.ensures c.function_fault-here.result c.first_of_parameters.result c.first_of.result c.least-found.result c.found_of_parameters.result c.is_some-array.result c.item.result
    c.function_fault-here.ensures c.first_of_parameters.ensures c.first_of.ensures c.least-found.ensures c.found_of_parameters.ensures c.is_some-array.ensures c.item.ensures.is)
    (types_below c.args.context.now c.pointers_to.new.context c.args.params.now c.in_ok-types.types c.in_ok-result_type.ensures.only_types c.in_ok-types.ensures c.requires.params)
    c.as_slice-in-None.ensures c.in_ok-declare_function-in-None.ensures
