use Rattle.std.proofs.Common.{◌≡◌, length}
use Rattle.ctokens.proofs.Reading.{Reached}
use Rattle.ctokens.proofs.token_list.read.Given as goal

abbrev pub invariant-pieces : goal.invariant-pieces
invariant-pieces l = Reached l.file l.text l.progress l.still_blank l.rest × (l.known ≡ l.progress.names)

abbrev pub decreases-pieces : goal.decreases-pieces
decreases-pieces l = length l.rest
