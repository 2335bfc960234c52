-- One name after the other.
use Rattle.std.proofs.Common.{◌+◌, drop}
use Rattle.std.proofs.lemmas.List.{drop_all}
use Rattle.expressions.proofs.Loops.{next_item}
use Rattle.c_machine.specs.Statics.{set_by}
use Rattle.c_text.proofs.statics.EachNoted.{item_noted, items_noted}
use Rattle.c_text.proofs.statics.notes.note_names.Goals as goal

pub loop-name-preserved : goal.loop-name-preserved
loop-name-preserved c =
    item_noted set_by (drop c.loop-name.name-index c.args.names.now) (drop (c.loop-name.name-index + 1) c.args.names.now) c.name-item.result c.loop-name.sets c.note_name.new.sets _
    (next_item c.args.names.now c.loop-name.name-index c.name-item.result c.loop-name-test.true c.name-item.is) c.in_ok-note_name.ensures c.loop-name.invariant

pub returns : goal.returns
returns c =
    items_noted set_by (drop c.loop-name.name-index c.args.names.now) c.loop-name.sets _ (drop_all c.loop-name.name-index c.args.names.now c.loop-name-test.false) c.loop-name.invariant
