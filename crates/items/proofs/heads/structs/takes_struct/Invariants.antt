use Rattle.expressions.specs.Context.{Agrees}
use Rattle.expressions.specs.Numbers.{Numbering}
use Rattle.items.proofs.heads.HeadFaults.{Takes}
use Rattle.items.proofs.heads.structs.takes_struct.Given as goal

abbrev pub invariant-loop-param : goal.invariant-loop-param
invariant-loop-param l = (n : Numbering) → Agrees n l.context → Takes n l.context l.params l.param-index
