-- What is called says whether a value is left.
use Rattle.std.proofs.Common.{Bool, sym, subst}
use Rattle.lowering.specs.Calls.{Fills}
use Rattle.lowering.proofs.CalledLines.{fills_is}
use Rattle.lowering.proofs.fills.fills_by.Goals as goal

pub returns : goal.returns
returns c = subst (λ (nothing : Bool). Fills c.args.source.now c.args.callee.now nothing) (sym c.fills_called.ensures) (fills_is _ _ _ c.in_ok-called.ensures)
