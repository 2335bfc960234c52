use Rattle.std.proofs.Common.{◌≡◌}
use Rattle.std.specs.List.{filter}
use Rattle.tidying.specs.Marks.{is_marked}
use Rattle.tidying.proofs.keeping.keep_objects.Given as goal

abbrev pub invariant-loop-entry : goal.invariant-loop-entry
invariant-loop-entry l = l.kept ≡ filter (λ entry. is_marked l.marks entry.key) l.yielded
