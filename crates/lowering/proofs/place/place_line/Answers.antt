-- Each form has its line.
use Rattle.std.proofs.Common.{ap, sym, subst}
use Rattle.cbase.specs.declared.tree.stmt.Stmt.{Stmt}
use Rattle.cbase.specs.declared.tree.expr.Expr.{Expr}
use Rattle.c_machine.specs.Text.{Form}
use Rattle.lowering.specs.Reading.{IsPlaceLine, form_in}
use Rattle.lowering.proofs.Onward.{on_ok}
use Rattle.lowering.proofs.PlaceLines.{place_named}
use Rattle.lowering.proofs.place.place_line.Goals as goal

pub returns-in-Name : goal.returns-in-Name
returns-in-Name c = on_ok c.object_moves.result
    (λ is. subst (λ (form : Form Expr Stmt). IsPlaceLine c.args.source.now.context c.args.found c.args.expr.now c.args.spare c.args.into form c.args.registers.now c.args.registers.now
    c.args.line.now c.object_moves.new.line) (ap form_in (sym c.in-Name.is)) (place_named _ _ _ _ _ _ _ _ is))
    c.object_moves.ensures
