use Rattle.std.proofs.Common.{◌≡◌, drop}
use Rattle.std.specs.List.{list_any}
use Rattle.changes.proofs.reach.has_live_object.Given as goal

abbrev pub invariant-loop-key : goal.invariant-loop-key
invariant-loop-key l = list_any (λ entry. entry.object.live) l.graph.objects ≡ list_any (λ entry. entry.object.live) (drop l.key l.graph.objects)
