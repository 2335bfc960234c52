use Rattle.std.proofs.Common.{◌≡◌, drop, length}
use Rattle.heap_steps.specs.Unreached.{has_loose_byte}
use Rattle.heap_steps.proofs.anywhere.has_loose_byte.Given as goal

abbrev pub invariant-loop-place : goal.invariant-loop-place
invariant-loop-place l = record {
  same : has_loose_byte (drop l.place l.edges) 0 l.taken ≡ has_loose_byte l.edges 0 l.plane;
  long : length l.taken ≡ length l.plane;
}
