use Rattle.std.proofs.Common.{◌≡◌, take}
use Rattle.choices.specs.Run.{Goes, run, start}
use Rattle.choices.proofs.read.read_choices.Given as goal

abbrev pub invariant-loop-at : goal.invariant-loop-at
invariant-loop-at l = run start (take l.at l.text) ≡ Goes l.reader
