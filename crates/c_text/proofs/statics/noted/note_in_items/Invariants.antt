use Rattle.std.proofs.Common.{◌≡◌, ◌+◌, ◌++◌, drop}
use Rattle.std.specs.List.{flat_map}
use Rattle.c_machine.specs.Statics.{sets_of}
use Rattle.c_machine.specs.Trees.{nodes_in}
use Rattle.c_text.proofs.statics.noted.note_in_items.Given as goal

abbrev pub invariant-loop-item : goal.invariant-loop-item
invariant-loop-item l = record {
  sets : l.sets ++ flat_map sets_of (drop l.item-index l.items) ≡ l.fn.sets ++ flat_map sets_of l.items;
  parts : l.count + nodes_in (drop l.item-index l.items) ≡ nodes_in l.items;
}
