use Rattle.settle.proofs.Regions.{named_settled}
use Rattle.settle.proofs.laws.what_names_no_segment_is_settled.Goals as goal

pub returns : goal.returns
returns c = λ registers parts none. named_settled parts registers none
