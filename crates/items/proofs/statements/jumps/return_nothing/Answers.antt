-- `return` without a value.
use Rattle.items.proofs.statements.ValuesTaken.{nothing_returned, return_broken}
use Rattle.items.proofs.statements.jumps.return_nothing.Goals as goal

pub returns-in-None : goal.returns-in-None
returns-in-None c = λ abi. nothing_returned abi c.args.context.now c.args.word c.fault_of_return.result c.fault_of_return.ensures c.in-None.is

pub returns-in-Some : goal.returns-in-Some
returns-in-Some c = λ abi. return_broken abi c.args.context.now c.args.word c.fault_of_return.result c.in-Some.fault c.fault_of_return.ensures c.in-Some.is
