-- The functions that are put and those of the items that are left, each with its number.
use Rattle.std.proofs.Common.{◌≡◌, ◌++◌, drop}
use Rattle.c_machine.specs.Program.{functions_in}
use Rattle.c_text.specs.Numbered.{AreNumbers}
use Rattle.c_text.proofs.function_table.put_items.Given as goal

abbrev pub invariant-loop-item : goal.invariant-loop-item
invariant-loop-item l = record {
  functions : l.list ++ functions_in (drop l.item-index l.items) ≡ l.fn.list ++ functions_in l.items;
  numbers : AreNumbers l.list l.numbers;
}
