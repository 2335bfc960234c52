-- One more number is gone over.
use Rattle.std.proofs.Common.{◌∙◌}
use Rattle.ccheck.proofs.Spans.{spans_more}
use Rattle.ccheck.proofs.checking.spans_of.Goals as goal

pub loop-number-preserved : goal.loop-number-preserved
loop-number-preserved c =
    rw (c.in_ok-push_found.ensures, c.item_of.ensures)
    (spans_more c.args.items.now c.loop-number.spans c.args.numbers.now c.loop-number.number-index 0 c.loop-number-test.true ∙ c.loop-number.invariant)
