use Rattle.items.proofs.initialisers.Filling.{Fills}
use Rattle.items.proofs.initialisers.walk.fill.Given as goal

abbrev pub invariant-loop-at : goal.invariant-loop-at
invariant-loop-at g l = Fills l.checker.abi l.subject l.filled l.parts l.index l.initial.context l.context l.at
