use Rattle.std.proofs.Common.{◌≡◌, map}
use Rattle.materialise.specs.Splitting.{rest_entry}
use Rattle.materialise.proofs.rest.push_rest.Given as goal

abbrev pub invariant-loop-entry : goal.invariant-loop-entry
invariant-loop-entry l = l.kept ≡ map (rest_entry l.key l.before) l.yielded
