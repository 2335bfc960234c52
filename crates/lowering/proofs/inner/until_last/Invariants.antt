-- Behind so many statements stands none but `;` alone.
use Rattle.std.proofs.Common.{◌≡◌, ◌<◌, ◌≤◌, true, drop, length}
use Rattle.c_machine.specs.Blocks.{are_empty}
use Rattle.c_machine.specs.declared.kind.Kind.TheVariants.{Void}
use Rattle.lowering.specs.Told.{trees}
use Rattle.lowering.proofs.inner.until_last.Given as goal

abbrev pub invariant-loop-many : goal.invariant-loop-many
invariant-loop-many l = record {
  inside : l.many ≤ length l.body;
  some : 0 < length l.body → 0 < l.many;
  empty : are_empty (trees Void) (drop l.many l.body) ≡ true;
}

abbrev pub decreases-loop-many : goal.decreases-loop-many
decreases-loop-many l = l.many
