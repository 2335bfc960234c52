use Rattle.std.proofs.Common.{sym, ◌∙◌, ap}
use Rattle.std.specs.Int.{w64, cast_unsigned}
use Rattle.std.proofs.lemmas.Int.{to_z-of_z}
use Rattle.register_steps.proofs.Moved.{unsigned_wraps}
use Rattle.register_steps.proofs.moving.shifted.Goals as goal

pub returns : goal.returns
returns c = c.shifted_on.ensures c.args.by (unsigned_wraps c.args.by c.ranges.by ∙ ap (cast_unsigned w64) (sym (to_z-of_z w64 c.args.by c.ranges.by)) ∙ sym c.cast_unsigned.ensures)
