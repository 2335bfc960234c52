use Rattle.plain.proofs.RealShown.{driven_plain}
use Rattle.plain.proofs.laws.the_analysis_keeps_plain_flow_graphs_plain.Goals as goal

pub returns : goal.returns
returns c = driven_plain
