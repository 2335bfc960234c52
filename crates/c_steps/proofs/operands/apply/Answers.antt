-- What the operator makes is the operand.
use Rattle.std.proofs.Common.{◌≡◌, ◌∙◌, List, Option, sym, ap, subst}
use Rattle.std.specs.Prelude.{IfOk}
use Rattle.bytes_core.specs.declared.block.Block.{Block}
use Rattle.bytes_core.specs.declared.word.Word.{Word}
use Rattle.choices.specs.declared.choice.Choice.{Choice}
use Rattle.c_machine.specs.Step.{or_stuck}
use Rattle.c_machine.specs.Words.{applied}
use Rattle.c_steps.specs.ComesTo.{comes_to}
use Rattle.c_steps.proofs.NamedWords.{names_of_applied}
use Rattle.c_steps.proofs.Popping.{one_behind}
use Rattle.c_steps.proofs.operands.apply.Goals as goal

pub go_on_with-requires : goal.go_on_with-requires
go_on_with-requires g c =
    names_of_applied _ c.memory.result.now c.args.op c.args.kind c.in-Some.word c.in-Some-applied.value (sym c.in-Some-applied.ensures)

pub returns : goal.returns
returns g c =
    let Comes : Option Word → Type 0 = λ made. IfOk c.go_on_with.result (λ outcome. (choices : List Choice) →
    comes_to outcome c.go_on_with.new.state choices ≡ or_stuck made c.pop.new.self choices) in
    one_behind c.go_on_with.result c.in-Some.word c.args.state.now c.pop.new.self c.go_on_with.new.state
    (λ memory word after choices. or_stuck (applied memory c.args.op c.args.kind word) after choices) c.in-Some.ensures.some
    (subst Comes
    (c.in-Some-applied.ensures ∙ ap (λ (blocks : List Block). applied blocks c.args.op c.args.kind c.in-Some.word) c.memory.ensures)
    c.go_on_with.ensures)
