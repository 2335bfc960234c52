-- One item after the other.
use Rattle.std.proofs.Common.{◌+◌, ap, arith, drop}
use Rattle.std.proofs.lemmas.List.{drop_all}
use Rattle.expressions.proofs.Loops.{next_item}
use Rattle.c_machine.specs.Statics.{sets_of}
use Rattle.c_machine.specs.Trees.{nodes_in}
use Rattle.c_text.proofs.statics.EachNoted.{item_noted, items_noted}
use Rattle.c_text.proofs.statics.noted.note_in_items.Goals as goal

pub loop-item-preserved : goal.loop-item-preserved
loop-item-preserved c =
    let next = next_item c.args.items.now c.loop-item.item-index c.item-item.result c.loop-item-test.true c.item-item.is in
    let here = ap nodes_in next in
    record {
      sets = item_noted sets_of (drop c.loop-item.item-index c.args.items.now) (drop (c.loop-item.item-index + 1) c.args.items.now) c.item-item.result c.loop-item.sets
          c.note_in_item.new.sets _ next c.in_ok-note_in_item.ensures.sets c.loop-item.invariant.sets;
      parts = omega (arith, here, c.loop-item.invariant.parts, c.in_ok-note_in_item.ensures.parts, c.in_ok-count.ensures);
    }

pub returns-clause-sets : goal.returns-clause-sets
returns-clause-sets c =
    items_noted sets_of (drop c.loop-item.item-index c.args.items.now) c.loop-item.sets _ (drop_all c.loop-item.item-index c.args.items.now c.loop-item-test.false)
    c.loop-item.invariant.sets
