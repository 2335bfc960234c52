-- The arguments stand in the registers of the call.
use Rattle.std.proofs.Common.{refl}
use Rattle.lowering.proofs.BuiltInLines.{body_is}
use Rattle.lowering.proofs.Onward.{on_ok}
use Rattle.lowering.proofs.calls.body_line.Goals as goal

pub returns : goal.returns
returns c = on_ok c.argument_moves.result
    (body_is _ _ _ _ _ _ _ _ _ _ _ _ _ _ _ _ c.in_ok-first.ensures.first c.in_ok-first.ensures.taken c.in_ok-arguments.ensures refl c.result_into.ensures c.in_ok-emits.ensures)
    c.argument_moves.ensures
