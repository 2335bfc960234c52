use Rattle.std.proofs.Common.{◌≡◌, ◌+◌, ◌≤◌, drop}
use Rattle.graph.specs.Addressed.{dead_and_marked}
use Rattle.graph.proofs.addressed.dead_and_marked.Given as goal

abbrev pub invariant-loop-key : goal.invariant-loop-key
invariant-loop-key l = (dead_and_marked l.objects l.marks ≡ l.count + dead_and_marked (drop l.key l.objects) (drop l.key l.marks)) × (l.count ≤ l.key)
