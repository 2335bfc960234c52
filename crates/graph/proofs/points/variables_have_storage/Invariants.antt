use Rattle.std.proofs.Common.{◌≡◌, length, false}
use Rattle.std.specs.List.{list_all}
use Rattle.std.specs.Option.{option_map_or}
use Rattle.graph.specs.Maps.{object_at}
use Rattle.graph.specs.WellFormed.{variables_have_storage, is_storage}
use Rattle.graph.proofs.points.variables_have_storage.Given as goal

abbrev pub invariant-loop-left : goal.invariant-loop-left
invariant-loop-left l = variables_have_storage l.parts ≡ list_all (λ named. option_map_or is_storage (object_at l.parts.objects named.object) false) l.left

abbrev pub decreases-loop-left : goal.decreases-loop-left
decreases-loop-left l = length l.left
