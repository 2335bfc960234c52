use Rattle.std.proofs.Common.{◌≡◌, ◌+◌, ◌≤◌, drop}
use Rattle.graph.specs.Addressed.{dead}
use Rattle.graph.proofs.addressed.dead.Given as goal

abbrev pub invariant-loop-key : goal.invariant-loop-key
invariant-loop-key l = (dead l.objects ≡ l.count + dead (drop l.key l.objects)) × (l.count ≤ l.key)
