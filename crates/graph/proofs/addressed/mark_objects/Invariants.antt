use Rattle.std.proofs.Common.{◌≡◌, drop}
use Rattle.graph.specs.Addressed.{marked_objects}
use Rattle.graph.proofs.addressed.mark_objects.Given as goal

abbrev pub invariant-loop-key : goal.invariant-loop-key
invariant-loop-key l = marked_objects l.values l.fn.marks l.objects ≡ marked_objects l.values l.marks (drop l.key l.objects)
