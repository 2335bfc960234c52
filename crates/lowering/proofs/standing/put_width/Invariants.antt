-- What is put there already and what is left make up the whole.
use Rattle.std.proofs.Common.{◌≡◌, ◌++◌, take, length}
use Rattle.flow.specs.Holding.{put_width}
use Rattle.lowering.proofs.standing.put_width.Given as goal

abbrev pub invariant-loop-first : goal.invariant-loop-first
invariant-loop-first l = l.all.items ++ put_width l.new l.widths ≡ put_width l.new l.fn.widths

abbrev pub decreases-loop-first : goal.decreases-loop-first
decreases-loop-first l = length l.widths

abbrev pub invariant-loop-width : goal.invariant-loop-width
invariant-loop-width l = l.all.items ≡ l.initial.all.items ++ take l.width-index l.width-items
