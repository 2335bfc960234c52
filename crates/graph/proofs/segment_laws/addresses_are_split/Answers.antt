use Rattle.graph.proofs.Split.{addresses_are_split}
use Rattle.graph.proofs.segment_laws.addresses_are_split.Goals as goal

pub returns : goal.returns
returns c = addresses_are_split
