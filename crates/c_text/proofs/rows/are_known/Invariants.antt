-- What the rows in front name is known.
use Rattle.std.proofs.Common.{◌≡◌, drop, length}
use Rattle.c_text.specs.Rows.{are_known}
use Rattle.c_text.proofs.rows.are_known.Given as goal

abbrev pub invariant-loop-row : goal.invariant-loop-row
invariant-loop-row l =
    are_known (length l.context.types) (length l.context.environment.signatures) (drop l.row-index l.handed)
    ≡ are_known (length l.context.types) (length l.context.environment.signatures) l.handed
