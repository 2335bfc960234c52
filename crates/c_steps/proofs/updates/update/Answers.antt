-- The update stands behind both operands.
use Rattle.std.proofs.Common.{false}
use Rattle.c_machine.specs.Step.{updated, counted}
use Rattle.c_machine.specs.Words.{scalar_bytes}
use Rattle.c_steps.proofs.Popping.{behind_two}
use Rattle.c_steps.proofs.updates.update.Goals as goal

pub returns : goal.returns
returns g c =
    behind_two c.updated.result c.in-Some.word c.in-Some-pop.at c.args.state.now c.pop.new.self c.pop-2.new.self c.updated.new.state
    (λ word at after choices. updated c.args.op c.args.place c.args.kind.now (scalar_bytes c.args.kind.now) c.args.right.now at word (counted false) after choices)
    c.in-Some.ensures.some c.in-Some-pop.ensures.some c.updated.ensures
