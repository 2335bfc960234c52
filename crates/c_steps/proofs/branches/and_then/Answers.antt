-- Whether the value is not 0 says which way it is.
use Rattle.std.proofs.Common.{◌≡◌, ◌∙◌, List, Bool, true, [], ◌∷◌, sym, ap, subst}
use Rattle.std.specs.Prelude.{IfOk}
use Rattle.bytes_core.specs.declared.block.Block.{Block}
use Rattle.choices.specs.declared.choice.Choice.{Choice}
use Rattle.c_machine.specs.declared.task.Task.TheVariants.{ValueOf, Answer}
use Rattle.c_machine.specs.Step.{and_then}
use Rattle.c_machine.specs.Words.{is_true}
use Rattle.c_steps.specs.ComesTo.{comes_to}
use Rattle.c_steps.proofs.Popping.{one_behind}
use Rattle.c_steps.proofs.branches.and_then.Goals as goal

pub returns-then-not-is_true : goal.returns-then-not-is_true
returns-then-not-is_true g c =
    let Comes : Bool → Type 0 = λ holds. IfOk c.go_on_with.result (λ outcome. (choices : List Choice) →
    comes_to outcome c.go_on_with.new.state choices ≡ and_then holds (ValueOf c.args.right ∷ Answer true ∷ []) c.pop.new.self choices) in
    one_behind c.go_on_with.result c.in-Some.word c.args.state.now c.pop.new.self c.go_on_with.new.state
    (λ memory word after choices. and_then (is_true memory word) (ValueOf c.args.right ∷ Answer true ∷ []) after choices) c.in-Some.ensures.some
    (subst Comes (sym c.if-not-is_true.true ∙ (c.is_true.ensures ∙ ap (λ (blocks : List Block). is_true blocks c.in-Some.word) c.memory.ensures)) c.go_on_with.ensures)

pub returns : goal.returns
returns g c =
    let Comes : Bool → Type 0 = λ holds. IfOk c.do_right.result (λ outcome. (choices : List Choice) →
    comes_to outcome c.do_right.new.state choices ≡ and_then holds (ValueOf c.args.right ∷ Answer true ∷ []) c.pop.new.self choices) in
    one_behind c.do_right.result c.in-Some.word c.args.state.now c.pop.new.self c.do_right.new.state
    (λ memory word after choices. and_then (is_true memory word) (ValueOf c.args.right ∷ Answer true ∷ []) after choices) c.in-Some.ensures.some
    (subst Comes (sym c.if-not-is_true.false ∙ (c.is_true.ensures ∙ ap (λ (blocks : List Block). is_true blocks c.in-Some.word) c.memory.ensures)) c.do_right.ensures)
