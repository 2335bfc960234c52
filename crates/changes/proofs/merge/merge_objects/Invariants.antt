use Rattle.std.proofs.Common.{◌≡◌, ◌++◌, true, map, length}
use Rattle.std.specs.List.{list_all}
use Rattle.changes.specs.Fitting.{object_fits}
use Rattle.changes.specs.Merging.{merged_entry}
use Rattle.changes.proofs.merge.merge_objects.Given as goal

abbrev pub invariant-loop-left : goal.invariant-loop-left
invariant-loop-left l = record {
  merged : l.fn.merged ++ map (merged_entry l.zero l.kept l.gone) l.objects ≡ l.merged ++ map (merged_entry l.zero l.kept l.gone) l.left;
  inside : list_all (λ entry. object_fits entry.object) l.left ≡ true;
}

abbrev pub decreases-loop-left : goal.decreases-loop-left
decreases-loop-left l = length l.left
