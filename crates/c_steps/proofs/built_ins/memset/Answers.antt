-- What is written says what it comes to.
use Rattle.std.proofs.Common.{◌≡◌, ◌∙◌, ◌%◌, ℕ, List, ap, subst}
use Rattle.std.specs.Prelude.{IfOk}
use Rattle.bytes_core.specs.declared.block.Block.{Block}
use Rattle.bytes_core.specs.Access.{filled, range_fault}
use Rattle.bytes_core.specs.Value.{address_number}
use Rattle.choices.specs.declared.choice.Choice.{Choice}
use Rattle.c_machine.specs.State.{Went, unless_fault, with_memory, with_operand}
use Rattle.c_steps.specs.ComesTo.{comes_to}
use Rattle.c_steps.proofs.Popping.{three_behind}
use Rattle.c_steps.proofs.built_ins.memset.Goals as goal

pub returns : goal.returns
returns g c =
    let Comes : ℕ → ℕ → Type 0 = λ byte n. IfOk c.go_on_unless.result (λ outcome. (choices : List Choice) → comes_to outcome c.go_on_unless.new.state choices
    ≡ unless_fault (range_fault c.pop-3.new.self.memory c.in-Some-pop-2.at n) c.args.place
    (Went (with_operand c.in-Some-pop-2.at (with_memory (filled c.pop-3.new.self.memory c.in-Some-pop-2.at (byte % 256) n) c.pop-3.new.self)) choices)) in
    three_behind c.go_on_unless.result c.in-Some.count c.in-Some-pop.byte c.in-Some-pop-2.at c.args.state.now c.pop.new.self c.pop-2.new.self c.pop-3.new.self
    c.go_on_unless.new.state
    (λ memory count byte at after choices. unless_fault (range_fault memory at (address_number memory count)) c.args.place
    (Went (with_operand at (with_memory (filled memory at (address_number memory byte % 256) (address_number memory count)) after)) choices))
    c.in-Some.ensures.some c.in-Some-pop.ensures.some c.in-Some-pop-2.ensures.some
    (subst (Comes (address_number c.pop-3.new.self.memory c.in-Some-pop.byte))
    (c.address-count.ensures ∙ ap (λ (blocks : List Block). address_number blocks c.in-Some.count) c.memory.ensures)
    (subst (λ (byte : ℕ). Comes byte c.address-count.result)
    (c.address.ensures ∙ ap (λ (blocks : List Block). address_number blocks c.in-Some-pop.byte) c.memory-2.ensures)
    (c.go_on_unless.ensures (range_fault c.pop-3.new.self.memory c.in-Some-pop-2.at c.address-count.result)
    (with_memory (filled c.pop-3.new.self.memory c.in-Some-pop-2.at (c.address.result % 256) c.address-count.result) c.pop-3.new.self)
    c.fill-filled.ensures.answer c.fill-filled.ensures.filled)))
