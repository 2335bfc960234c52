-- The name of a function behind its parameters: what is broken at it, or what declares it and is handed on.
use Rattle.std.proofs.Common.{◌∙◌}
use Rattle.items.proofs.parameters.NamesTaken.{types_below}
use Rattle.items.proofs.heads.HeadTaken.{head_breaks, head_passes, params_below}
use Rattle.items.proofs.heads.taking.take_head.Goals as goal

pub head_fault-requires-clause-params : goal.head_fault-requires-clause-params
head_fault-requires-clause-params c = params_below c.args.context.now c.pointers_to.new.context c.args.params.now c.in_ok-result_type.ensures.only_types c.requires.params

pub head_fault-requires-clause-types : goal.head_fault-requires-clause-types
head_fault-requires-clause-types c = types_below c.args.context.now c.pointers_to.new.context c.args.params.now c.as_slice.result.now c.in_ok-result_type.ensures.only_types
    (c.as_slice.ensures ∙ c.in_ok-types.ensures) c.requires.params

pub declare_head-requires-clause-params : goal.declare_head-requires-clause-params
declare_head-requires-clause-params c = params_below c.args.context.now c.pointers_to.new.context c.args.params.now c.in_ok-result_type.ensures.only_types c.requires.params

pub declare_head-requires-clause-types : goal.declare_head-requires-clause-types
declare_head-requires-clause-types c = types_below c.args.context.now c.pointers_to.new.context c.args.params.now c.in_ok-types.types c.in_ok-result_type.ensures.only_types c.in_ok-types.ensures c.requires.params

pub returns-in-Some : goal.returns-in-Some
returns-in-Some c abi = head_breaks abi c.args.bodied c.args.storage c.args.base c.args.name.now c.args.params.now c.args.context.now c.pointers_to.new.context c.in_ok-result_type.result_type c.in_ok-types.types
    c.in_ok-types.ensures c.in_ok-result_type.ensures
    c.as_slice.result.now c.in-Some.fault c.as_slice.ensures c.in-Some.ensures

pub returns-in_ok-hand_on_head-in-None : goal.returns-in_ok-hand_on_head-in-None
returns-in_ok-hand_on_head-in-None c abi = head_passes abi c.args.bodied c.args.storage c.args.base c.args.name.now c.args.params.now c.args.context.now c.pointers_to.new.context c.in_ok-result_type.result_type c.in_ok-types.types
    c.in_ok-types.ensures c.in_ok-result_type.ensures
    c.as_slice.result.now c.declare_head.new.context c.hand_on_head.new.context c.as_slice.ensures c.requires.params c.in-None.ensures c.in_ok-declare_head-in-None.ensures c.in_ok-hand_on_head-in-None.ensures
