-- By the kind of the value, and by whether the form leaves one.
use Rattle.lowering.proofs.Onward.{on_ok}
use Rattle.lowering.proofs.PlaceLines.{nothing_work, void_work}
use Rattle.std.proofs.Common.{sym, ◌∙◌}
use Rattle.lowering.proofs.work.other_work.Goals as goal

pub returns-then-is_void : goal.returns-then-is_void
returns-then-is_void c = on_ok c.void_line.result (void_work _ _ _ _ _ _ _ _ _ c.in_ok-kind.ensures (sym c.is_void.ensures ∙ c.if-is_void.true)) c.void_line.ensures

pub returns-then-nothing : goal.returns-then-nothing
returns-then-nothing c = on_ok c.void_line-then-nothing.result
    (nothing_work _ _ _ _ _ _ _ _ _ _ c.in_ok-kind.ensures (sym c.is_void.ensures ∙ c.if-is_void.false) c.in_ok-nothing.ensures c.if-nothing.true) c.void_line-then-nothing.ensures
