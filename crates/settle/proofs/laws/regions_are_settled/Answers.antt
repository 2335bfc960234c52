use Rattle.settle.proofs.Regions.{regions_settled}
use Rattle.settle.proofs.laws.regions_are_settled.Goals as goal

pub returns : goal.returns
returns c = λ registers parts graph regions. regions_settled parts graph registers regions
