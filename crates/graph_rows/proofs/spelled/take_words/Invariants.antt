use Rattle.std.proofs.Common.{length}
use Rattle.graph_rows.proofs.spelled.take_words.Given as goal

abbrev pub decreases-loop-left : goal.decreases-loop-left
decreases-loop-left l = length l.left
