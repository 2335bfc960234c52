-- `break` and `continue` stand in the body of a loop.
use Rattle.std.proofs.Common.{◌∙◌, sym}
use Rattle.items.proofs.statements.ValuesTaken.{loop_left, no_loop_to_leave}
use Rattle.items.proofs.statements.jumps.leave_loop.Goals as goal

pub returns-then-is_in_loop : goal.returns-then-is_in_loop
returns-then-is_in_loop c = λ abi. loop_left abi c.args.context.now c.args.word (sym c.is_in_loop.ensures ∙ c.if-is_in_loop.true)

pub returns-else-is_in_loop : goal.returns-else-is_in_loop
returns-else-is_in_loop c = λ abi. no_loop_to_leave abi c.args.context.now c.args.word (sym c.is_in_loop.ensures ∙ c.if-is_in_loop.false)
