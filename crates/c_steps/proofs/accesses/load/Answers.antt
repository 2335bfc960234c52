-- The word that is loaded is the operand.
use Rattle.std.proofs.Common.{refl}
use Rattle.c_machine.specs.State.{popped, with_operand}
use Rattle.c_machine.specs.Step.{load_step}
use Rattle.c_machine.specs.Words.{scalar_bytes}
use Rattle.c_steps.proofs.Accessed.{load_went}
use Rattle.c_steps.proofs.Popping.{went_on}
use Rattle.c_steps.proofs.accesses.load.Goals as goal

pub returns-in-Ok : goal.returns-in-Ok
returns-in-Ok g c =
    went_on c.go_on_with-in-Ok.result c.go_on_with-in-Ok.new.state (with_operand c.in-Ok.word c.pop.new.self)
    (λ choices. popped c.args.state.now (λ at after. load_step c.args.place c.args.kind.now (scalar_bytes c.args.kind.now) at after choices)) c.go_on_with-in-Ok.ensures
    (λ choices. load_went c.args.place c.args.kind.now c.in-Some-scalar_bytes.bytes c.in-Some.at c.in-Ok.word c.memory.result.now c.args.state.now c.pop.new.self
    (with_operand c.in-Ok.word c.pop.new.self) choices c.in-Some.ensures.some c.in-Some-scalar_bytes.ensures.is c.memory.ensures c.in-Ok.ensures.fault c.in-Ok.ensures.word refl)
