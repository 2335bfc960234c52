use Rattle.graph.proofs.Absent.{absent_blocks_may_have_other_numbers}
use Rattle.graph.proofs.laws.absent_blocks_may_have_other_numbers.Goals as goal

pub returns : goal.returns
returns c = absent_blocks_may_have_other_numbers
