use Rattle.std.proofs.Common.{length, sym}
use Rattle.std.proofs.lemmas.List.{take_min}
use Rattle.flow.specs.Runs.{parameters_of}
use Rattle.flow.proofs.StandingLaws.{call_empties}
use Rattle.flow.proofs.behind.left_by_call.Goals as goal

pub returns : goal.returns
returns c =
    rw call_empties
    (rw (sym (take_min (length (parameters_of c.args.flow.now c.args.function)) c.args.arguments.now))
    (rw (c.min-count.ensures, c.parameters_of-parameters.ensures) at c.kept.ensures))
