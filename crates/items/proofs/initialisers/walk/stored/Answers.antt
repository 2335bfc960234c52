-- A value, and the store behind it.
use Rattle.std.proofs.Common.{length, ap}
use Rattle.items.proofs.initialisers.Stored.{value_stored, value_refused, below_behind}
use Rattle.items.proofs.initialisers.walk.stored.Goals as goal

pub store-requires-clause-slot : goal.store-requires-clause-slot
store-requires-clause-slot g c = below_behind c.args.checker.now.abi c.args.value.now c.args.context.now c.loaded.new.context c.in-Passes.known c.in_ok-known.field-0 c.args.slot.ctype c.in-Passes.is c.in_ok-known.ensures c.requires.slot

pub returns-in-Passes : goal.returns-in-Passes
returns-in-Passes g c = λ init after is. value_stored c.args.checker.now.abi c.args.subject c.args.slot init c.args.value.now after is c.args.context.now c.loaded.new.context _ c.in-Passes.known (length c.handed-before.result.now)
    c.in_ok-known.field-0 c.store.result (ap length c.handed-before.ensures) c.in-Passes.is c.in_ok-known.ensures c.store.ensures

pub returns-in-Refused : goal.returns-in-Refused
returns-in-Refused g c = λ init after is. value_refused c.args.checker.now.abi c.args.subject c.args.slot init c.args.value.now after is c.args.context.now c.loaded.new.context c.in-Refused.fault c.in_ok-known.field-0 c.in-Refused.is c.in_ok-known.ensures
