-- A function is declared behind the numbers of its types.
use Rattle.expressions.proofs.Growth.{below_only_types}
use Rattle.items.specs.Begun.{type_in, types_in}
use Rattle.items.proofs.BuiltIns.{function_result}
use Rattle.items.proofs.built_ins.declare_built_in.Goals as goal

pub add_signature-requires : goal.add_signature-requires
add_signature-requires c = (
  below_only_types c.number_of.new.context c.put_numbers.new.context c.in_ok-put_numbers.ensures.only_types c.in_ok-number.number c.in_ok-number.ensures.below,
  c.in_ok-put_numbers.ensures.below,
)

pub returns : goal.returns
returns c = function_result c.args.name.now (record { result = type_in c.args.abi c.args.result_type; parameters = types_in c.args.abi c.args.parameters })
    c.args.context.now c.number_of.new.context c.put_numbers.new.context c.add_signature.new.self c.declare_linked.new.self c.in_ok-number.number c.in_ok-signature.signature c.put_numbers.new.numbers
    c.in_ok-number.ensures c.in_ok-put_numbers.ensures c.in_ok-signature.ensures.number c.in_ok-signature.ensures.ok c.is_defined.result c.declare_linked.result c.is_defined.ensures c.declare_linked.ensures
