-- A way to a member leads somewhere, or stops.
use Rattle.typing.proofs.EachPath.{each_path}
use Rattle.typing.proofs.laws.each_path_leads.Goals as goal

pub returns : goal.returns
returns c = each_path
