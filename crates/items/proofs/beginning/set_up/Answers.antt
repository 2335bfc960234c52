-- What is declared in front of the first item.
use Rattle.items.proofs.FileBegun.{begun_result, handed_result}
use Rattle.items.proofs.beginning.set_up.Goals as goal

pub returns-clause-declares : goal.returns-clause-declares
returns-clause-declares c = λ n. begun_result c.args.abi c.args.strict c.args.bodied.now c.args.defined.now c.args.context.now c.set_strict.new.self c.define_all.new.context c.enter.new.self c.declare_built_ins.new.context
    c.requires c.set_strict.ensures c.in_ok-define_all.ensures c.in_ok-enter.ensures.ok c.declare_built_ins.result c.declare_built_ins.ensures n

pub returns-clause-handed : goal.returns-clause-handed
returns-clause-handed c = handed_result c.args.abi c.args.strict c.args.bodied.now c.args.defined.now c.args.context.now c.set_strict.new.self c.define_all.new.context c.enter.new.self c.declare_built_ins.new.context
    c.requires c.set_strict.ensures c.in_ok-define_all.ensures c.in_ok-enter.ensures.ok c.declare_built_ins.result c.declare_built_ins.ensures
