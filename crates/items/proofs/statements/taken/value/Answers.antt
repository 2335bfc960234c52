-- What is broken at a value that is taken.
use Rattle.items.proofs.statements.ValuesTaken.{demand_kept, loaded_below, value_passes, value_broken, value_refused}
use Rattle.items.proofs.statements.taken.value.Goals as goal

pub fault_of_value-requires-clause-demand : goal.fault_of_value-requires-clause-demand
fault_of_value-requires-clause-demand g c = demand_kept c.args.checker.now.abi c.args.demand c.args.expr.now c.args.context.now c.loaded.new.context c.in-Passes.known c.in_ok-known.field-0
    c.in-Passes.is c.in_ok-known.ensures c.requires.demand

pub fault_of_value-requires-clause-known : goal.fault_of_value-requires-clause-known
fault_of_value-requires-clause-known g c = loaded_below c.args.checker.now.abi c.args.demand c.args.expr.now c.args.context.now c.loaded.new.context c.in-Passes.known c.in_ok-known.field-0
    c.in-Passes.is c.in_ok-known.ensures

pub returns-in-None : goal.returns-in-None
returns-in-None g c = value_passes c.args.checker.now.abi c.args.demand c.args.expr.now c.args.context.now c.loaded.new.context c.in-Passes.known c.in_ok-known.field-0 c.fault_of_value.result
    c.in-Passes.is c.in_ok-known.ensures c.fault_of_value.ensures c.in-None.is

pub returns-in-Some : goal.returns-in-Some
returns-in-Some g c = value_broken c.args.checker.now.abi c.args.demand c.args.expr.now c.args.context.now c.loaded.new.context c.in-Passes.known c.in_ok-known.field-0 c.fault_of_value.result c.in-Some.fault
    c.in-Passes.is c.in_ok-known.ensures c.fault_of_value.ensures c.in-Some.is

pub returns-in-Refused : goal.returns-in-Refused
returns-in-Refused g c = value_refused c.args.checker.now.abi c.args.demand c.args.expr.now c.args.context.now c.loaded.new.context c.in_ok-known.field-0 c.in-Refused.fault c.in-Refused.is c.in_ok-known.ensures
