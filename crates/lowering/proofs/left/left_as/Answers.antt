-- A search from nothing.
use Rattle.lowering.proofs.Lefts.{left_as_is}
use Rattle.lowering.proofs.Onward.{if_ok}
use Rattle.lowering.proofs.left.left_as.Goals as goal

pub returns : goal.returns
returns c = if_ok c.look_at_all.result
    (λ count. left_as_is _ _ _ _ _ _ c.add_as.new.search count c.levels.ensures c.new.ensures c.in_ok-add_as.ensures)
    c.look_at_all.ensures
