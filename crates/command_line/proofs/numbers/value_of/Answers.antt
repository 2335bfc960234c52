use Rattle.command_line.proofs.Powers.{few_digits}
use Rattle.command_line.proofs.numbers.value_of.Goals as goal

pub with_digit-value-requires-clause-small : goal.with_digit-value-requires-clause-small
with_digit-value-requires-clause-small c = few_digits c.loop-digit.value c.loop-digit.digit-index _ c.loop-digit.invariant.small c.loop-digit-test.true c.requires.few
