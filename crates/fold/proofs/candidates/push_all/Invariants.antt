use Rattle.std.proofs.Common.{◌≡◌, ◌++◌, drop}
use Rattle.fold.specs.Candidates.{folds_in, candidates}
use Rattle.fold.proofs.candidates.push_all.Given as goal

abbrev pub invariant-loop-key : goal.invariant-loop-key
invariant-loop-key l = candidates l.graph ≡ l.kept ++ folds_in l.graph (drop l.key l.graph.objects)
