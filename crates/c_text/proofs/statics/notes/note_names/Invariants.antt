use Rattle.std.proofs.Common.{◌≡◌, ◌++◌, drop}
use Rattle.std.specs.List.{flat_map}
use Rattle.c_machine.specs.Statics.{set_by}
use Rattle.c_text.proofs.statics.notes.note_names.Given as goal

abbrev pub invariant-loop-name : goal.invariant-loop-name
invariant-loop-name l = l.sets ++ flat_map set_by (drop l.name-index l.names) ≡ l.fn.sets ++ flat_map set_by l.names
