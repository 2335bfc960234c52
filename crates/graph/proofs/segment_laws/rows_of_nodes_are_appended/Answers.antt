use Rattle.graph.proofs.Appended.{rows_are_appended}
use Rattle.graph.proofs.segment_laws.rows_of_nodes_are_appended.Goals as goal

pub returns : goal.returns
returns c = rows_are_appended
