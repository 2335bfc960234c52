use Rattle.flow.proofs.RangeLaws.{ranges_separate}
use Rattle.flow.proofs.machine_laws.functions_in_ranges_are_separate.Goals as goal

pub returns : goal.returns
returns c = ranges_separate
