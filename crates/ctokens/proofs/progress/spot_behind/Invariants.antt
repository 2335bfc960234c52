use Rattle.ctokens.proofs.Spots.{IsMoved}
use Rattle.ctokens.proofs.progress.spot_behind.Given as goal

abbrev pub invariant-loop-byte : goal.invariant-loop-byte
invariant-loop-byte l = IsMoved l.fn.spot l.bytes l.byte-index l.next
