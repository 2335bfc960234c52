-- The parameters that are counted and those that are left.
use Rattle.std.proofs.Common.{◌≡◌, ◌≤◌, ◌+◌, ◌-◌, drop, length}
use Rattle.c_text.specs.Parameters.{leading}
use Rattle.c_text.proofs.typed_text.TypedText.leading_from.Given as goal

abbrev pub invariant-loop-at : goal.invariant-loop-at
invariant-loop-at l = record {
  behind : l.start ≤ l.at;
  counted : leading (drop l.start l.self.handed) ≡ (l.at - l.start) + leading (drop l.at l.self.handed);
}

abbrev pub decreases-loop-at : goal.decreases-loop-at
decreases-loop-at l = length l.self.handed - l.at
