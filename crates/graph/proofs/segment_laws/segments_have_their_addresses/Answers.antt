use Rattle.graph.proofs.SegmentNodes.{segments_have_addresses}
use Rattle.graph.proofs.segment_laws.segments_have_their_addresses.Goals as goal

pub returns : goal.returns
returns c = segments_have_addresses
