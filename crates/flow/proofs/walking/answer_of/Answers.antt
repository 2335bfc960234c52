-- What is told of so many walks.
use Rattle.std.proofs.Common.{arith}
use Rattle.flow.proofs.Steps.{told_number, told_more}
use Rattle.flow.proofs.walking.answer_of.Goals as goal

pub returns-then-number-lt-MANY : goal.returns-then-number-lt-MANY
returns-then-number-lt-MANY c edges from count walks small = told_number edges from count c.args.number walks small (omega arith)

pub returns-else-number-lt-MANY : goal.returns-else-number-lt-MANY
returns-else-number-lt-MANY c edges from count walks small = told_more edges from count c.args.number walks small (λ less. omega arith)
