-- The first thing to do is done.
use Rattle.c_machine.specs.Trees.{text_of}
use Rattle.c_run.proofs.tasks.MakingRoom.{on_ok}
use Rattle.c_run.proofs.MakingSteps.{first_done}
use Rattle.c_run.proofs.stepping.step.Goals as goal

pub returns-in-Some : goal.returns-in-Some
returns-in-Some c = record {
  ok = on_ok _ _ c.do_task.result
      (λ stepped is. λ n p stands strict defined. first_done (text_of p) c.in-Some.task stepped c.args.state.now c.next_task.new.self c.do_task.new.state c.args.choices.now c.do_task.new.choices
      c.in-Some.ensures.some (is n p stands strict defined))
      c.do_task.ensures.ok;
  err = c.do_task.ensures.err;
}
