-- The statements in front of the last one, and that one.
use Rattle.std.proofs.Common.{◌-◌, sym, ◌∙◌, arith}
use Rattle.lowering.proofs.Inside.{at_place, taken_length}
use Rattle.lowering.proofs.InsideLines.{valued_last, valued_nothing}
use Rattle.lowering.proofs.Onward.{on_ok}
use Rattle.lowering.proofs.inner.valued_moves.Goals as goal

pub returns-then-many-eq0 : goal.returns-then-many-eq0
returns-then-many-eq0 c = valued_nothing _ _ _ _ _ _ (sym c.until_last-many.ensures.is ∙ c.if-many-eq0.true)

pub slice_bounds-does_all-length : goal.slice_bounds-does_all-length
slice_bounds-does_all-length c = taken_length c.args.body.now (c.until_last-many.result - 1) (omega (arith, c.until_last-many.ensures.inside))

pub returns : goal.returns
returns c = on_ok c.does_all.result
    (valued_last _ _ _ _ c.args.body.now (c.until_last-many.result - 1) c.index-body-many.result _ _ _ _ (sym c.until_last-many.ensures.is ∙ omega (arith, c.if-many-eq0.false))
    (at_place c.args.body.now (c.until_last-many.result - 1) c.index-body-many.result (omega (arith, c.until_last-many.ensures.inside, c.if-many-eq0.false)) c.index-body-many.is)
    c.in_ok-last_moves.ensures)
    c.does_all.ensures
