use Rattle.materialise.proofs.Emptiable.{may_be}
use Rattle.materialise.proofs.Without.{without}
use Rattle.materialise.proofs.laws.dropping_is_the_case_without_nodes.Goals as goal

pub returns : goal.returns
returns c = λ parts key state graph is. without parts graph.well_formed key (may_be parts key is) state
