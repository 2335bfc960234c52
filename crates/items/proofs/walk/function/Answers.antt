-- A function with its body.
use Rattle.items.proofs.Items.{function_found, result_stops, words_below}
use Rattle.items.proofs.walk.function.Goals as goal

pub returns-in-Refused : goal.returns-in-Refused
returns-in-Refused g c = λ place close. result_stops c.args.checker.now.abi place close c.args.spec.now c.args.storage c.args.head.now c.args.body.now c.args.context.now c.words.new.context c.in_ok-base.field-0
    c.in_ok-base.ensures c.in-Refused.fault c.in-Refused.is

pub definition-requires-clause-base : goal.definition-requires-clause-base
definition-requires-clause-base g c = words_below c.args.checker.now.abi c.args.spec.now c.args.context.now c.words.new.context c.in_ok-base.field-0 c.in-Passes.base c.in-Passes.is c.in_ok-base.ensures

pub returns : goal.returns
returns g c = λ place close. function_found c.args.checker.now.abi place close c.args.spec.now c.args.storage c.args.head.now c.args.body.now c.args.context.now c.words.new.context c.in_ok-base.field-0
    c.in_ok-base.ensures c.in-Passes.base c.in-Passes.is c.definition.new.context c.leave.new.self c.set_function.new.self c.in_ok-found.found c.leave.ensures c.set_function.ensures c.in_ok-found.ensures
