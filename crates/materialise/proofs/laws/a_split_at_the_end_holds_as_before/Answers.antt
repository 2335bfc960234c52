use Rattle.materialise.proofs.FinalCode.{both_at}
use Rattle.materialise.proofs.FinalGraph.{split_holds}
use Rattle.materialise.proofs.LastSplit.{twofold_segment}
use Rattle.materialise.proofs.SplitThere.{segment_at}
use Rattle.materialise.proofs.laws.a_split_at_the_end_holds_as_before.Goals as goal

pub returns : goal.returns
returns c = λ parts key graph both.
    let at = segment_at parts key (twofold_segment parts key both) in
    split_holds parts graph key at (both_at parts key at.object at.links at.stands at.linked both)
