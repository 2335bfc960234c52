use Rattle.std.proofs.Common.{◌≡◌, ◌+◌, ◌<◌, length}
use Rattle.std.specs.Prelude.{All, IsTrue}
use Rattle.flow.specs.Valid.{is_initial}
use Rattle.transfer.specs.Start.{AreNamed, with_initials}
use Rattle.transfer.proofs.initials.put_initials.Given as goal

abbrev pub invariant-loop-left : goal.invariant-loop-left
invariant-loop-left l = record {
  same : with_initials l.flow.initial l.fn.parts ≡ with_initials l.left l.after;
  named : AreNamed l.flow l.after;
  right : All (λ scalar. IsTrue (is_initial l.flow scalar)) l.left;
  few : length l.after.values + length l.left < 4294967296;
}

abbrev pub decreases-loop-left : goal.decreases-loop-left
decreases-loop-left l = length l.left
