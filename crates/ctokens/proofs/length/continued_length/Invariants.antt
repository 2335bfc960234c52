use Rattle.ctokens.proofs.Continued.{GoesOn}
use Rattle.ctokens.proofs.length.continued_length.Given as goal

abbrev pub invariant-loop-index : goal.invariant-loop-index
invariant-loop-index l = GoesOn l.before l.text l.index l.last
