use Rattle.std.proofs.Common.{◌≡◌, ◌≤◌, ◌++◌, drop, length}
use Rattle.std.specs.List.{flat_map}
use Rattle.c_machine.specs.Statics.{in_name}
use Rattle.c_text.proofs.statics.parts.name.push_in_names.Given as goal

abbrev pub invariant-loop-left : goal.invariant-loop-left
invariant-loop-left l = record {
  inside : l.left ≤ length l.names;
  pushed : l.nodes ≡ flat_map in_name (drop l.left l.names) ++ l.fn.nodes;
}

abbrev pub decreases-loop-left : goal.decreases-loop-left
decreases-loop-left l = l.left
