use Rattle.std.proofs.Common.{◌≡◌, ◌++◌, map}
use Rattle.std.specs.Prelude.{flat_map}
use Rattle.transfer.specs.Together.{posted_of}
use Rattle.transfer.proofs.together.put_graphs_together.Given as goal

abbrev pub invariant-loop-post : goal.invariant-loop-post
invariant-loop-post l = l.graphs ≡ l.initial.graphs ++ flat_map (λ posted. posted.graphs) (map posted_of l.yielded)
