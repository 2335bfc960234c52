-- A function gets the number of those in front of it.
use Rattle.std.proofs.Common.{ap, ◌∙◌}
use Rattle.c_machine.specs.Program.{FunctionItem}
use Rattle.c_text.specs.Numbered.{with_first}
use Rattle.c_text.proofs.FunctionsNumbered.{put_numbers}
use Rattle.c_text.proofs.function_table.put.Goals as goal

pub returns-clause-numbers : goal.returns-clause-numbers
returns-clause-numbers c =
    put_numbers c.args.list.now c.args.function c.args.numbers.now c.put_number.new.numbers c.push.result _ c.len.result c.requires c.len.ensures
    (c.in_ok-put_number.ensures ∙ ap (λ (item : FunctionItem). with_first item.name c.len.result c.args.numbers.now) c.function.view_is) c.push.ensures.ok
