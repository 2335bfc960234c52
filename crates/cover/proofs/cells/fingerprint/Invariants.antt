use Rattle.std.proofs.Common.{◌≡◌, ◌<◌, length}
use Rattle.graph.specs.Meaning.{maps_of}
use Rattle.cover.specs.Cells.{print_from, fingerprint}
use Rattle.cover.proofs.cells.fingerprint.Given as goal

abbrev pub invariant-loop-left : goal.invariant-loop-left
invariant-loop-left l = record {
  same : fingerprint l.graph l.cells ≡ print_from (maps_of l.graph) l.left l.print;
  within : l.print < 2147483647;
}

abbrev pub decreases-loop-left : goal.decreases-loop-left
decreases-loop-left l = length l.left
