use Rattle.std.proofs.Common.{◌≡◌, ◌+◌, ◌≤◌, drop}
use Rattle.std.specs.List.{fold}
use Rattle.graph.specs.declared.object.Object.{Object}
use Rattle.graph.specs.Large.{live_nodes_of}
use Rattle.graph.proofs.large.has_fewer_live_nodes.Given as goal

abbrev pub invariant-loop-key : goal.invariant-loop-key
invariant-loop-key l =
    (fold (λ count (object : Object). count + live_nodes_of object) 0 l.objects ≡ fold (λ count (object : Object). count + live_nodes_of object) l.count (drop l.key l.objects))
    × (l.count ≤ l.bound)
