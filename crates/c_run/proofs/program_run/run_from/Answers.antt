-- The run is over at the start, or goes on behind it.
use Rattle.std.proofs.Common.{sym, ◌∙◌}
use Rattle.c_run.proofs.Rooms.{on_ok}
use Rattle.c_run.proofs.WholeRuns.{over_at_start, over_later}
use Rattle.c_run.proofs.program_run.run_from.Goals as goal

pub returns-then-not-goes_on : goal.returns-then-not-goes_on
returns-then-not-goes_on c =
    over_at_start c.args.text.now c.args.functions.now c.args.items.now c.args.strict c.args.choices.now c.args.steps c.in_ok-stepped.stepped c.args.state.now c.start_from.new.state c.start_from.new.choices
    (sym c.goes_on.ensures ∙ c.if-not-goes_on.true) (rw c.of-left.ensures at c.in_ok-stepped.ensures)

pub returns : goal.returns
returns c = on_ok _ _ c.run.result
    (λ ran going.
    over_later c.args.text.now c.args.functions.now c.args.items.now c.args.strict c.args.choices.now c.args.steps c.in_ok-stepped.stepped ran c.args.state.now c.start_from.new.state c.run.new.state
    c.start_from.new.choices c.run.new.choices (sym c.goes_on.ensures ∙ c.if-not-goes_on.false) (rw c.of-left.ensures at c.in_ok-stepped.ensures) going)
    (rw c.from.ensures at c.run.ensures.ok)
