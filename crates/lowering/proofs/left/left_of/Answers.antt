-- A search from nothing.
use Rattle.lowering.proofs.Lefts.{left_is}
use Rattle.lowering.proofs.Onward.{if_ok}
use Rattle.lowering.proofs.left.left_of.Goals as goal

pub returns : goal.returns
returns c = if_ok c.look_at_all.result
    (λ count. left_is _ _ _ _ _ c.add_whole.new.search count c.levels.ensures c.new.ensures c.in_ok-add_whole.ensures)
    c.look_at_all.ensures
