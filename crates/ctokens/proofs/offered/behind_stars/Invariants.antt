use Rattle.std.proofs.Common.{◌≡◌, false, drop}
use Rattle.ctokens.specs.Offered.{behind_stars}
use Rattle.ctokens.proofs.offered.behind_stars.Given as goal

abbrev pub invariant-loop-token : goal.invariant-loop-token
invariant-loop-token l = behind_stars l.starred (drop l.token-index l.row) ≡ behind_stars false l.row
