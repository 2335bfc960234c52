use Rattle.std.proofs.Common.{ap, sym, ◌∙◌}
use Rattle.cread.proofs.FoundItems.{item_there}
use Rattle.cread.proofs.reading_item.read_row.Goals as goal

pub returns-clause-read : goal.returns-clause-read
returns-clause-read c =
    let behind = c.in_ok-build_row.field-0 in
    item_there c.args.row.now c.args.scope c.args.expressions c.in_ok-written.written behind.item behind.expressions behind.scope
    c.in_ok-written.ensures (sym (ap (λ w. w.found) c.written.view_is) ∙ c.if-not-written.false) c.in_ok-build_row.ensures.scope c.in_ok-build_row.ensures.item
