use Rattle.std.proofs.Common.{ap, sym, ◌∙◌}
use Rattle.ctokens.specs.ItemEnds.{spans_of}
use Rattle.ctokens.proofs.ItemsExact.{spans_exact}
use Rattle.ctokens.proofs.item_spans.items.Goals as goal

pub returns-in_ok-spans_of-in-None-clause-items : goal.returns-in_ok-spans_of-in-None-clause-items
returns-in_ok-spans_of-in-None-clause-items c =
    spans_exact c.args.t.now c.as_slice.result.now _ c.in-None.ensures.deep (c.as_slice.ensures.value ∙ c.in_ok-symbols.ensures)
    (c.in_ok-spans_of-in-None.ensures ∙ ap spans_of (sym c.as_slice.ensures.value))
