use Rattle.graph.proofs.Split.{segments_have_split_addresses}
use Rattle.graph.proofs.segment_laws.segments_have_split_addresses.Goals as goal

pub returns : goal.returns
returns c = segments_have_split_addresses
