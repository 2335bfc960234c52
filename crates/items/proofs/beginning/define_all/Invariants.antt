use Rattle.items.proofs.FileBegun.{Defining}
use Rattle.items.proofs.beginning.define_all.Given as goal

abbrev pub invariant-loop-name : goal.invariant-loop-name
invariant-loop-name l = Defining l.names l.initial.context l.context l.name-index
