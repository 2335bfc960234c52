-- Where there are as many arguments as parameters nothing is left behind the last one, and else there is no graph.
use Rattle.std.proofs.Common.{◌++◌, ap, ◌∙◌, arith}
use Rattle.lowering.proofs.Onward.{Moves}
use Rattle.lowering.proofs.Turns.{first_turn, from_start}
use Rattle.lowering.proofs.calls.argument_moves.Goals as goal

pub loop-left-init : goal.loop-left-init
loop-left-init c = record {
  inside = omega (arith, c.min-left.ensures);
  within = omega (arith, c.min-left.ensures);
  made = first_turn c.args.args.now c.args.params.now c.args.spare c.args.first c.min-left.result c.args.line.now c.unless_as_many.new.line (omega (arith, c.min-left.ensures))
      c.in_ok-unless_as_many.ensures.alike c.in_ok-unless_as_many.ensures.apart;
}

pub returns : goal.returns
returns c = c.loop-left.invariant.made
    ∙ ap (λ (moves : Moves). moves ++ c.args.line.now) (from_start c.args.args.now c.args.params.now c.args.spare c.args.first c.loop-left.left (omega (arith, c.loop-left-test.false)))
