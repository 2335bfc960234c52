-- Behind the last of them nothing is left.
use Rattle.std.proofs.Common.{◌∙◌, sym, arith}
use Rattle.lowering.proofs.CalledParts.{sized_end}
use Rattle.lowering.proofs.called.are_sized.Goals as goal

pub returns : goal.returns
returns c = sized_end c.args.kinds.now c.args.objects.now c.loop-at.at (omega (arith, c.min-count.ensures, c.loop-at-test.false)) ∙ sym c.loop-at.invariant.1
