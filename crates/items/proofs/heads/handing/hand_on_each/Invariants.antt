use Rattle.items.proofs.heads.HeadRows.{Hands}
use Rattle.items.proofs.heads.handing.hand_on_each.Given as goal

abbrev pub invariant-loop-at : goal.invariant-loop-at
invariant-loop-at l = Hands l.declared l.params l.initial.context l.context l.at
