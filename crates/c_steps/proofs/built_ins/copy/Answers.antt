-- What the copy answers says what it comes to.
use Rattle.std.proofs.Common.{◌≡◌, ◌∙◌, ℕ, List, ap, subst}
use Rattle.std.specs.Prelude.{IfOk}
use Rattle.bytes_core.specs.declared.block.Block.{Block}
use Rattle.bytes_core.specs.Copying.{copied, copy_fault}
use Rattle.bytes_core.specs.Value.{address_number}
use Rattle.choices.specs.declared.choice.Choice.{Choice}
use Rattle.c_machine.specs.State.{Went, unless_fault, with_memory, with_operand}
use Rattle.c_steps.specs.ComesTo.{comes_to}
use Rattle.c_steps.proofs.Popping.{three_behind}
use Rattle.c_steps.proofs.built_ins.copy.Goals as goal

pub returns : goal.returns
returns g c =
    let Comes : ℕ → Type 0 = λ n. IfOk c.go_on_unless.result (λ outcome. (choices : List Choice) → comes_to outcome c.go_on_unless.new.state choices
    ≡ unless_fault (copy_fault c.pop-3.new.self.memory c.in-Some-pop-2.to c.in-Some-pop.from n c.args.disjoint) c.args.place
    (Went (with_operand c.in-Some-pop-2.to (with_memory (copied c.pop-3.new.self.memory c.in-Some-pop-2.to c.in-Some-pop.from n) c.pop-3.new.self)) choices)) in
    three_behind c.go_on_unless.result c.in-Some.count c.in-Some-pop.from c.in-Some-pop-2.to c.args.state.now c.pop.new.self c.pop-2.new.self c.pop-3.new.self
    c.go_on_unless.new.state
    (λ memory count from to after choices. unless_fault (copy_fault memory to from (address_number memory count) c.args.disjoint) c.args.place
    (Went (with_operand to (with_memory (copied memory to from (address_number memory count)) after)) choices))
    c.in-Some.ensures.some c.in-Some-pop.ensures.some c.in-Some-pop-2.ensures.some
    (subst Comes (c.address-count.ensures ∙ ap (λ (blocks : List Block). address_number blocks c.in-Some.count) c.memory.ensures)
    (c.go_on_unless.ensures (copy_fault c.pop-3.new.self.memory c.in-Some-pop-2.to c.in-Some-pop.from c.address-count.result c.args.disjoint)
    (with_memory (copied c.pop-3.new.self.memory c.in-Some-pop-2.to c.in-Some-pop.from c.address-count.result) c.pop-3.new.self)
    c.in_ok-copied.ensures.answer c.in_ok-copied.ensures.copied))
