use Rattle.std.proofs.Common.{◌≡◌, true, length}
use Rattle.std.specs.List.{list_all}
use Rattle.graph.specs.WellFormed.{lies_in}
use Rattle.range_steps.specs.Copying.{has_bare_byte}
use Rattle.range_steps.proofs.bare.has_bare_byte.Given as goal

abbrev pub invariant-loop-left : goal.invariant-loop-left
invariant-loop-left l = record {
  same : has_bare_byte l.left l.taken l.from l.count ≡ has_bare_byte l.edges l.plane l.from l.count;
  long : length l.taken ≡ length l.plane;
  inside : list_all (lies_in (length l.plane)) l.left ≡ true;
}

abbrev pub decreases-loop-left : goal.decreases-loop-left
decreases-loop-left l = length l.left
