-- The run that is kept is that from a state in which nothing is made.
use Rattle.c_run.proofs.WholeRuns.{whole_run}
use Rattle.c_run.proofs.program_run.run_program.Goals as goal

pub returns : goal.returns
returns c =
    whole_run c.args.text.now c.in_ok-functions.functions c.args.items.now c.args.strict c.args.choices.now c.args.steps c.blank-state.result c.run_from-came.new.state c.run_from-came.result c.kept.result
    (λ p. c.blank-state.ensures) c.in_ok-functions.ensures c.run_from-came.ensures c.kept.ensures
