use Rattle.std.proofs.Common.{◌≡◌, false, drop}
use Rattle.ctokens.specs.Offered.{behind_brackets}
use Rattle.ctokens.proofs.offered.behind_brackets.Given as goal

abbrev pub invariant-loop-i : goal.invariant-loop-i
invariant-loop-i l = behind_brackets l.nested (drop l.i l.row) ≡ behind_brackets false l.row
