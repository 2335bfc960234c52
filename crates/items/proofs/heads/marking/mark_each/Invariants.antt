use Rattle.items.proofs.heads.HeadMarked.{Marks}
use Rattle.items.proofs.heads.marking.mark_each.Given as goal

abbrev pub invariant-loop-at : goal.invariant-loop-at
invariant-loop-at l = Marks l.declared l.params l.initial.context l.context l.at
