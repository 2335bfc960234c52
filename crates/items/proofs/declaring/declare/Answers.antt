-- An object is declared by its name.
use Rattle.items.proofs.DeclaringObjects.{only_names, declares}
use Rattle.items.proofs.declaring.declare.Goals as goal

pub returns-clause-names : goal.returns-clause-names
returns-clause-names c = only_names c.args.name.now c.args.object c.as_slice-text.result.now c.with_definition.result c.args.context.now c.declare_name.new.context c.set_definition.new.self
    c.as_slice-text.ensures c.in_ok-declare_name.ensures.bound c.set_definition.ensures

pub returns-clause-declares : goal.returns-clause-declares
returns-clause-declares c = λ n abi agrees. declares c.args.name.now c.args.object c.as_slice-text.result.now c.with_definition.result c.args.context.now c.declare_name.new.context c.set_definition.new.self
    c.as_slice-text.ensures c.in_ok-declare_name.ensures.bound c.set_definition.ensures n abi c.with_definition.ensures (c.in_ok-declare_name.ensures.declared n abi agrees)
