use Rattle.items.proofs.initialisers.Constants.{ends_there, leads_on}
use Rattle.items.proofs.initialisers.constant.+is_constant.Goals as goal

pub returns-in-Ends : goal.returns-in-Ends
returns-in-Ends t c = ends_there c.args.context.now c.args.rows.now c.args.manner c.args.expr.now c.in_ok-constant.field-0 c.in-Ends.constant c.in-Ends.is c.in_ok-constant.ensures

pub returns-in-GoesOn : goal.returns-in-GoesOn
returns-in-GoesOn t c = leads_on c.args.context.now c.args.rows.now c.args.manner c.args.expr.now c.in_ok-constant.field-0 c.in-GoesOn.next c.in-GoesOn.inner c.is_constant.result c.in-GoesOn.is c.in_ok-constant.ensures c.is_constant.ensures
