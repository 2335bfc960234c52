-- It is looked at later.
use Rattle.std.proofs.Common.{◌∷◌, ◌∙◌}
use Rattle.lowering.proofs.Lefts.{whole_is}
use Rattle.lowering.proofs.Onward.{on_ok}
use Rattle.lowering.proofs.left.add_whole.Goals as goal

pub returns : goal.returns
returns c = on_ok c.push.result
    (λ is. whole_is _ _ _ _ _ _ _ (is ∙ (λ i. record { wanted = c.args.wanted; expr = c.of.ensures i; levels = c.args.levels; ahead = c.args.ahead } ∷ c.args.search.now.pending)))
    c.push.ensures.ok
