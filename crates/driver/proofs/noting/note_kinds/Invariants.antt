use Rattle.driver.specs.Telling.{AreNoted}
use Rattle.driver.proofs.noting.note_kinds.Given as goal

abbrev pub invariant-loop-which : goal.invariant-loop-which
invariant-loop-which l = AreNoted l.fn.warnings l.warnings l.place l.entry l.edge l.kinds l.which
