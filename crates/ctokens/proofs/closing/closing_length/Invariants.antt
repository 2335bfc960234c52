use Rattle.ctokens.proofs.Closings.{Leads}
use Rattle.ctokens.proofs.closing.closing_length.Given as goal

abbrev pub invariant-loop-index : goal.invariant-loop-index
invariant-loop-index l = Leads l.closing l.text l.index l.kept
