-- What is left decides.
use Rattle.std.proofs.Common.{◌≡◌, drop}
use Rattle.lowering.specs.Placing.{is_none, registers_left}
use Rattle.lower.proofs.placing.ways.leaves_no_register.Given as goal

abbrev pub invariant-loop-one : goal.invariant-loop-one
invariant-loop-one l = is_none (registers_left (drop l.one-index l.stands) l.kept) ≡ is_none (registers_left l.stands l.kept)
