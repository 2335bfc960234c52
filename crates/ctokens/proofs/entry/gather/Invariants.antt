use Rattle.std.proofs.Common.{◌≤◌, drop}
use Rattle.ctokens.proofs.OfferedSteps.{AreGathered}
use Rattle.ctokens.proofs.entry.gather.Given as goal

abbrev pub invariant-loop-i : goal.invariant-loop-i
invariant-loop-i l = record {
  few : l.depth ≤ l.i;
  gathered : AreGathered l.ways l.names.items l.brackets.items l.depth l.set l.earlier l.before l.body l.last (drop l.i l.row) l.row;
}
