-- One item after the other.
use Rattle.std.proofs.Common.{◌+◌, drop}
use Rattle.std.proofs.lemmas.List.{drop_all}
use Rattle.expressions.proofs.Loops.{next_item}
use Rattle.c_text.proofs.FunctionsNumbered.{all_put, item_put}
use Rattle.c_text.proofs.function_table.put_items.Goals as goal

pub loop-item-preserved : goal.loop-item-preserved
loop-item-preserved c = record {
  functions = item_put (drop c.loop-item.item-index c.args.items.now) (drop (c.loop-item.item-index + 1) c.args.items.now) c.item-item.result c.loop-item.list
      c.put_item.new.list _ (next_item c.args.items.now c.loop-item.item-index c.item-item.result c.loop-item-test.true c.item-item.is)
      c.in_ok-put_item.ensures.functions c.loop-item.invariant.functions;
  numbers = c.in_ok-put_item.ensures.numbers;
}

pub returns-clause-functions : goal.returns-clause-functions
returns-clause-functions c =
    all_put (drop c.loop-item.item-index c.args.items.now) c.loop-item.list _ (drop_all c.loop-item.item-index c.args.items.now c.loop-item-test.false)
    c.loop-item.invariant.functions
