use Rattle.typing.proofs.constants.Numbers.{IsRead}
use Rattle.typing.proofs.constants.digits.number.Given as goal

abbrev pub invariant-loop-digit : goal.invariant-loop-digit
invariant-loop-digit l = IsRead l.radix l.digits l.digit-index l.value
