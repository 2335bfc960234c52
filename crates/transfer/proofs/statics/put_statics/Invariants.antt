use Rattle.std.proofs.Common.{◌≡◌, ◌+◌, ◌<◌, ◌≤◌, true, length}
use Rattle.std.specs.List.{list_all}
use Rattle.flow.specs.Valid.{is_object_size}
use Rattle.transfer.specs.Start.{with_statics}
use Rattle.transfer.proofs.statics.put_statics.Given as goal

abbrev pub invariant-loop-left : goal.invariant-loop-left
invariant-loop-left l = record {
  same : with_statics 0 l.variables l.initial.parts ≡ with_statics l.number l.left l.parts;
  few : l.number + length l.left < 33554432;
  objects : length l.parts.objects ≤ l.number;
  sizes : list_all (λ variable. is_object_size variable.size) l.left ≡ true;
}

abbrev pub decreases-loop-left : goal.decreases-loop-left
decreases-loop-left l = length l.left
