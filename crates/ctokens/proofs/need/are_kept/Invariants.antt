use Rattle.std.proofs.Common.{◌≡◌, drop}
use Rattle.ctokens.specs.ItemRows.{are_kept}
use Rattle.ctokens.proofs.need.are_kept.Given as goal

abbrev pub invariant-loop-token : goal.invariant-loop-token
invariant-loop-token l = are_kept (drop l.token-index l.row) ≡ are_kept l.row
