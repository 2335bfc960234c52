use Rattle.std.proofs.Common.{sym, arith}
use Rattle.cgrammar.proofs.Bounded.{restored_turn}
use Rattle.cgrammar.proofs.numbers.restore.Goals as goal

pub loop-left-preserved-in-Some : goal.loop-left-preserved-in-Some
loop-left-preserved-in-Some c = (
  restored_turn (λ v. v.items) c.args.others.now.entries (c.in-Some.name.now, c.in-Some.number.now) c.loop-left.left c.as_slice.result.now _ _ _
      (sym c.in-Some.ensures.entry) c.loop-left-test.true c.as_slice.ensures.value c.loop-left.invariant.0 c.change.ensures,
  omega (arith, c.loop-left.invariant.1),
)
