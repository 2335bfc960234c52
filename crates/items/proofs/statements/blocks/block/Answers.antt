-- A block is a scope of its own.
use Rattle.expressions.specs.declared.found.Found.TheVariants.{Passes, Refused}
use Rattle.expressions.specs.Found.{a_value_type}
use Rattle.expressions.specs.Walked.{Says}
use Rattle.expressions.proofs.Walking.{passed_of, stopped_of}
use Rattle.typing.specs.Typing.{StatementsAre}
use Rattle.items.proofs.statements.Scopes.{block_walked, body_passes, body_stops}
use Rattle.items.proofs.statements.blocks.block.Goals as goal

pub returns-in-Passes : goal.returns-in-Passes
returns-in-Passes g c =
    let abi = c.args.checker.now.abi in
    let body = c.args.body.now in
    block_walked abi body c.args.context.now c.enter.new.self c.statements.new.context c.leave.new.self (Passes tt)
    c.in_ok-enter.ensures.ok c.leave.ensures (body_passes abi body c.enter.new.self c.statements.new.context c.in-Passes.field-0
    (passed_of (Says abi (λ o. StatementsAre body o)) a_value_type c.enter.new.self c.statements.new.context c.in-Passes.field-0 c.in_ok-found.found c.in-Passes.is c.in_ok-found.ensures))

pub returns-in-Refused : goal.returns-in-Refused
returns-in-Refused g c =
    let abi = c.args.checker.now.abi in
    let body = c.args.body.now in
    block_walked abi body c.args.context.now c.enter.new.self c.statements.new.context c.leave.new.self (Refused c.in-Refused.fault)
    c.in_ok-enter.ensures.ok c.leave.ensures (body_stops abi body c.enter.new.self c.statements.new.context c.in-Refused.fault
    (stopped_of (Says abi (λ o. StatementsAre body o)) a_value_type c.enter.new.self c.statements.new.context c.in-Refused.fault c.in_ok-found.found c.in-Refused.is c.in_ok-found.ensures))
