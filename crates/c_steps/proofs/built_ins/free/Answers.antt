-- What the release answers says what it comes to.
use Rattle.bytes_core.specs.declared.word.Word.TheVariants.{Plain}
use Rattle.bytes_core.specs.Release.{free_fault, freed}
use Rattle.c_machine.specs.State.{Went, unless_fault, with_memory, with_operand}
use Rattle.c_steps.proofs.Popping.{one_behind}
use Rattle.c_steps.proofs.built_ins.free.Goals as goal

pub returns : goal.returns
returns g c =
    one_behind c.go_on_unless.result c.in-Some.word c.args.state.now c.pop.new.self c.go_on_unless.new.state
    (λ memory word after choices. unless_fault (free_fault memory word) c.args.place (Went (with_operand (Plain 0) (with_memory (freed memory word) after)) choices))
    c.in-Some.ensures.some
    (c.go_on_unless.ensures _ (with_memory (freed c.pop.new.self.memory c.in-Some.word) c.pop.new.self) c.free-freed.ensures.answer c.free-freed.ensures.freed)
