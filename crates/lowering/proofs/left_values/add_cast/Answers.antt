-- The value as one of the kind of the cast.
use Rattle.std.proofs.Common.{ap}
use Rattle.c_machine.specs.Trees.{text_of}
use Rattle.lowering.specs.LetGo.{left_as, left_within}
use Rattle.lowering.proofs.Lefts.{one_part}
use Rattle.lowering.proofs.left_values.add_cast.Goals as goal

pub returns : goal.returns
returns c = one_part _ _ _ _ _ _ _ c.add_as.result c.add_as.ensures
    (λ p is. ap (left_as (text_of p) (left_within c.args.levels (text_of p)) c.args.arg.now c.args.in_spare) (c.in_ok-own.ensures.of p is.reads))
