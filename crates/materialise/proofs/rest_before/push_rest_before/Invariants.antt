use Rattle.std.proofs.Common.{◌≡◌, map}
use Rattle.materialise.specs.SplittingLast.{rest_before_entry}
use Rattle.materialise.proofs.rest_before.push_rest_before.Given as goal

abbrev pub invariant-loop-entry : goal.invariant-loop-entry
invariant-loop-entry l = l.kept ≡ map (rest_before_entry l.key l.behind) l.yielded
