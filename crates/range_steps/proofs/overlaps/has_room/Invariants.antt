use Rattle.std.proofs.Common.{◌≡◌, drop}
use Rattle.std.specs.List.{list_any}
use Rattle.range_steps.proofs.Roomy.{is_roomy}
use Rattle.range_steps.proofs.overlaps.has_room.Given as goal

abbrev pub invariant-loop-key : goal.invariant-loop-key
invariant-loop-key l = list_any (is_roomy l.count) l.graph.objects ≡ list_any (is_roomy l.count) (drop l.key l.graph.objects)
