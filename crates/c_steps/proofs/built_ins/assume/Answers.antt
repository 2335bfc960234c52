-- Where the value is not 0 the run goes on.
use Rattle.std.proofs.Common.{◌≡◌, ◌∙◌, List, Bool, sym, ap, subst}
use Rattle.std.specs.Prelude.{IfOk}
use Rattle.bytes_core.specs.declared.block.Block.{Block}
use Rattle.choices.specs.declared.choice.Choice.{Choice}
use Rattle.c_machine.specs.Step.{assumed}
use Rattle.c_machine.specs.Words.{is_true}
use Rattle.c_steps.specs.ComesTo.{comes_to}
use Rattle.c_steps.proofs.Popping.{one_behind}
use Rattle.c_steps.proofs.built_ins.assume.Goals as goal

pub returns : goal.returns
returns g c =
    let Comes : Bool → Type 0 = λ holds. IfOk c.go_on_with.result (λ outcome. (choices : List Choice) →
    comes_to outcome c.go_on_with.new.state choices ≡ assumed holds c.pop.new.self choices) in
    one_behind c.go_on_with.result c.in-Some.word c.args.state.now c.pop.new.self c.go_on_with.new.state
    (λ memory word after choices. assumed (is_true memory word) after choices) c.in-Some.ensures.some
    (subst Comes (sym c.if-not-is_true.false ∙ (c.is_true.ensures ∙ ap (λ (blocks : List Block). is_true blocks c.in-Some.word) c.memory.ensures)) c.go_on_with.ensures)
