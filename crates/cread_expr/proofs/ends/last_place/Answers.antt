use Rattle.std.proofs.Common.{◌∙◌}
use Rattle.cread_expr.proofs.LastPlaces.{place_at_last}
use Rattle.cread_expr.proofs.ends.last_place.Goals as goal

pub returns-in-len1-up : goal.returns-in-len1-up
returns-in-len1-up c = c.place.ensures ∙ place_at_last c.args.row.now c.last-item.result c.in-len1-up.len_at_least c.last-item.is
