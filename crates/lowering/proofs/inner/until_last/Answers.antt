-- A statement that is not `;` alone is the last one.
use Rattle.std.proofs.Common.{◌-◌, sym, ◌∙◌, arith}
use Rattle.lowering.proofs.Inside.{until_here}
use Rattle.lowering.proofs.inner.until_last.Goals as goal

pub returns-then-not-is_empty : goal.returns-then-not-is_empty
returns-then-not-is_empty c = record {
  is = until_here _ _ (c.loop-many.many - 1) c.index-body-many.result (omega (arith, c.loop-many-test.true)) c.loop-many.invariant.inside c.index-body-many.is
      (sym c.is_empty.ensures ∙ c.if-not-is_empty.true) c.loop-many.invariant.empty;
  inside = c.loop-many.invariant.inside;
}
