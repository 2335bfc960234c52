use Rattle.std.proofs.Common.{◌≡◌, ◌++◌, drop}
use Rattle.graph.specs.Slots.{held_at, AreHeld}
use Rattle.graph.proofs.keyed.take_all.Given as goal

abbrev pub invariant-loop-key : goal.invariant-loop-key
invariant-loop-key g l = record {
  held : AreHeld l.slots.slots (drop l.key-index l.keys);
  taken : l.items.items ++ held_at l.slots.slots (drop l.key-index l.keys) ≡ held_at l.fn.slots.slots l.keys;
}
