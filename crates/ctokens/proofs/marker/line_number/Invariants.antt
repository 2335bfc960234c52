use Rattle.ctokens.proofs.FoundParts.{IsRead}
use Rattle.ctokens.proofs.marker.line_number.Given as goal

abbrev pub invariant-loop-digit : goal.invariant-loop-digit
invariant-loop-digit l = IsRead l.digits l.digit-index l.value
