use Rattle.materialise.proofs.SplitGraph.{split_holds}
use Rattle.materialise.proofs.SplitThere.{segment_at}
use Rattle.materialise.proofs.laws.a_split_holds_as_before.Goals as goal

pub returns : goal.returns
returns c = λ parts key graph is. split_holds parts graph key (segment_at parts key is)
