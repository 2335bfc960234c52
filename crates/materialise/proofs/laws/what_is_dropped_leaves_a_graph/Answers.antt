use Rattle.materialise.proofs.Emptiable.{may_be}
use Rattle.materialise.proofs.Formed.{dropped_form, dropped_ascending, dropped_limits}
use Rattle.materialise.proofs.laws.what_is_dropped_leaves_a_graph.Goals as goal

pub returns : goal.returns
returns c = λ parts key graph is.
    let may = may_be parts key is in
    (dropped_form parts graph key may, dropped_ascending parts graph key may, dropped_limits parts graph key may)
