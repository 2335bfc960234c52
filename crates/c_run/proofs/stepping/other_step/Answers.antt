-- The step is that of the machine.
use Rattle.c_machine.specs.Trees.{text_of}
use Rattle.c_run.specs.declared.stepped.Stepped.TheVariants.{Came}
use Rattle.c_run.proofs.MakingSteps.{answered_by, wanting_by}
use Rattle.c_run.proofs.PlainSteps.{plain_is_step}
use Rattle.c_run.proofs.stepping.other_step.Goals as goal

pub returns : goal.returns
returns c = record {
  ok = answered_by Came _ _ c.plain_step.result c.came.result
      (λ outcome comes. λ p is.
      plain_is_step (text_of p) c.args.strict c.args.task outcome c.args.state.now c.plain_step.new.state c.args.choices.now c.plain_step.new.choices is comes)
      c.came.ensures c.plain_step.ensures.plain;
  err = wanting_by Came _ c.plain_step.result c.came.result c.came.ensures c.plain_step.ensures.err;
}
