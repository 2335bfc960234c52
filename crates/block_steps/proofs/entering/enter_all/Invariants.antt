use Rattle.std.proofs.Common.{◌≡◌, ◌+◌, ◌<◌, true, length}
use Rattle.std.specs.Prelude.{nat_le}
use Rattle.std.specs.List.{list_all}
use Rattle.block_steps.specs.Entering.{with_entered}
use Rattle.block_steps.proofs.entering.enter_all.Given as goal

abbrev pub invariant-loop-left : goal.invariant-loop-left
invariant-loop-left l = record {
  same : with_entered l.which l.sizes l.fn.parts ≡ with_entered l.left l.others l.parts;
  many : length l.others ≡ length l.left;
  small : list_all (λ size. nat_le size 65536) l.others ≡ true;
  few : length l.parts.objects + length l.left < 4294967296;
}

abbrev pub decreases-loop-left : goal.decreases-loop-left
decreases-loop-left l = length l.left
