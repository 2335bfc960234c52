-- Behind the last argument of a parameter there is nothing.
use Rattle.std.proofs.Common.{arith}
use Rattle.lowering.proofs.LeftParts.{arguments_end}
use Rattle.lowering.proofs.Lefts.{no_part}
use Rattle.lowering.proofs.left_calls.add_arguments.Goals as goal

pub loop-left-init : goal.loop-left-init
loop-left-init c = record {
  inside = omega (arith, c.min-left.ensures);
  within = omega (arith, c.min-left.ensures);
  made = no_part _ _ _ _ _ _ c.add_nothing.ensures
      (λ p is. arguments_end p c.args.levels c.args.args.now c.args.params.now c.min-left.result (omega (arith, c.min-left.ensures)));
}
