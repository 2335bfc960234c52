use Rattle.items.proofs.initialisers.Unplaced.{value_unwanted, value_stopped}
use Rattle.items.proofs.initialisers.walk.surplus_value.Goals as goal

pub returns-in-Passes : goal.returns-in-Passes
returns-in-Passes g c = rw c.unwanted.ensures (value_unwanted c.args.checker.now.abi c.args.value.now c.args.context.now c.loaded.new.context c.in_ok-loaded.field-0 c.in-Passes.field-0 c.in-Passes.is c.in_ok-loaded.ensures)

pub returns-in-Refused : goal.returns-in-Refused
returns-in-Refused g c = value_stopped c.args.checker.now.abi c.args.value.now c.args.context.now c.loaded.new.context c.in_ok-loaded.field-0 c.in-Refused.fault c.in-Refused.is c.in_ok-loaded.ensures
