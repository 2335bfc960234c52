-- What the run comes to is answered of each program that the text stands for.
use Rattle.std.proofs.Common.{refl}
use Rattle.replay.proofs.Runs.{run_told}
use Rattle.replay.proofs.playing.play.Goals as goal

pub returns-clause-is : goal.returns-clause-is
returns-clause-is c =
    run_told c.args.t.now c.args.text.now c.args.program.now c.args.program.now c.args.strict c.args.choices.now c.args.steps
    c.in_ok-outcome.outcome c.replayed.result refl c.in_ok-outcome.ensures c.replayed.ensures.is
