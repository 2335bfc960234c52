-- Nothing is made yet, and no choice is taken.
use Rattle.c_run.proofs.WholeRuns.{begun_with}
use Rattle.c_run.proofs.beginning.start.Goals as goal

pub returns-in-Ok : goal.returns-in-Ok
returns-in-Ok c =
    begun_with c.args.text.now c.args.functions.now c.args.items.now c.args.strict c.in-Ok.stepped c.blank-state.result c.start_from.new.state c.of-left.result c.args.choices.now c.start_from.new.choices
    c.of-left.ensures (λ p. c.blank-state.ensures) c.in-Ok.ensures
