-- a type names types with lower numbers
use Rattle.expression_rows.proofs.printing.+push_type.Given as goal

abbrev pub decreases-push_type : goal.decreases-push_type
decreases-push_type l = l.number
