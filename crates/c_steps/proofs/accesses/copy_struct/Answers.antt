-- What the copy answers says what it comes to.
use Rattle.std.specs.Prelude.{false}
use Rattle.bytes_core.specs.declared.word.Word.TheVariants.{Plain}
use Rattle.bytes_core.specs.Copying.{copied, copy_fault}
use Rattle.c_machine.specs.State.{Went, unless_fault, with_memory, with_operand}
use Rattle.c_steps.proofs.Popping.{two_behind}
use Rattle.c_steps.proofs.accesses.copy_struct.Goals as goal

pub returns : goal.returns
returns g c =
    two_behind c.go_on_unless.result c.in-Some.from c.in-Some-pop.to c.args.state.now c.pop.new.self c.pop-2.new.self c.go_on_unless.new.state
    (λ memory from to after choices. unless_fault (copy_fault memory to from c.args.bytes false) c.args.place
    (Went (with_operand (Plain 0) (with_memory (copied memory to from c.args.bytes) after)) choices))
    c.in-Some.ensures.some c.in-Some-pop.ensures.some
    (c.go_on_unless.ensures _ (with_memory (copied c.pop-2.new.self.memory c.in-Some-pop.to c.in-Some.from c.args.bytes) c.pop-2.new.self)
    c.in_ok-copied.ensures.answer c.in_ok-copied.ensures.copied)
