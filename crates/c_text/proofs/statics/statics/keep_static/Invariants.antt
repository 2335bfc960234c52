use Rattle.std.proofs.Common.{◌≡◌, ◌++◌, drop}
use Rattle.expressions.specs.Numbers.{Numbering}
use Rattle.c_machine.specs.Program.{Program}
use Rattle.c_machine.specs.Statics.{static_sets}
use Rattle.c_text.specs.Stands.{StandsFor}
use Rattle.c_text.proofs.statics.statics.keep_static.Given as goal

abbrev pub invariant-loop-set : goal.invariant-loop-set
invariant-loop-set l = (n : Numbering) (p : Program) → StandsFor n l.text p → l.kept ++ static_sets p (drop l.set-index l.sets) ≡ l.fn.kept ++ static_sets p l.sets
