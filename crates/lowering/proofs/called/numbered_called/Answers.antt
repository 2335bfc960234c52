-- The function of that number.
use Rattle.std.proofs.Common.{List, sym, ap, ◌∙◌}
use Rattle.std.specs.Prelude.{slice_get}
use Rattle.c_machine.specs.Program.{FunctionItem}
use Rattle.lowering.proofs.CalledParts.{numbered_is}
use Rattle.lowering.proofs.Onward.{if_ok}
use Rattle.lowering.proofs.called.numbered_called.Goals as goal

pub returns-in-Some : goal.returns-in-Some
returns-in-Some c = if_ok c.defined_called.result
    (λ called. numbered_is _ _ _ c.in-Some.function.now called
    (ap (λ (functions : List FunctionItem). slice_get functions c.args.number) (sym c.functions.ensures) ∙ sym c.in-Some.ensures) (sym c.token.ensures))
    c.defined_called.ensures
