-- What is made of both operands is the operand.
use Rattle.std.proofs.Common.{◌≡◌, ◌∙◌, List, Option, sym, ap, subst}
use Rattle.std.specs.Prelude.{IfOk}
use Rattle.bytes_core.specs.declared.block.Block.{Block}
use Rattle.bytes_core.specs.declared.word.Word.{Word}
use Rattle.choices.specs.declared.choice.Choice.{Choice}
use Rattle.c_machine.specs.Step.{or_ended}
use Rattle.c_machine.specs.Words.{operated}
use Rattle.c_steps.specs.ComesTo.{comes_to}
use Rattle.c_steps.proofs.NamedWords.{names_of_operated}
use Rattle.c_steps.proofs.Popping.{two_behind, still_named}
use Rattle.c_steps.proofs.operands.operate.Goals as goal

pub go_on_with-requires : goal.go_on_with-requires
go_on_with-requires g c =
    names_of_operated _ c.memory.result.now c.args.op c.args.left c.args.right c.in-Some-pop.one c.in-Some.other c.in-Some-operated.value
    c.in-Some-pop.ensures.names
    (still_named c.in-Some.other c.in-Some-pop.one c.pop.new.self c.pop-2.new.self c.in-Some-pop.ensures.some c.in-Some.ensures.names)
    (sym c.in-Some-operated.ensures)

pub returns : goal.returns
returns g c =
    let Comes : Option Word → Type 0 = λ made. IfOk c.go_on_with.result (λ outcome. (choices : List Choice) →
    comes_to outcome c.go_on_with.new.state choices ≡ or_ended made c.pop-2.new.self choices) in
    two_behind c.go_on_with.result c.in-Some.other c.in-Some-pop.one c.args.state.now c.pop.new.self c.pop-2.new.self c.go_on_with.new.state
    (λ memory other one after choices. or_ended (operated memory c.args.op c.args.left c.args.right one other) after choices)
    c.in-Some.ensures.some c.in-Some-pop.ensures.some
    (subst Comes
    (c.in-Some-operated.ensures ∙ ap (λ (blocks : List Block). operated blocks c.args.op c.args.left c.args.right c.in-Some-pop.one c.in-Some.other) c.memory.ensures)
    c.go_on_with.ensures)
