-- What the expression names.
use Rattle.lower.specs.Around.{around_of}
use Rattle.lower.proofs.InitialisersLead.{names_nothing, names_object}
use Rattle.lower.proofs.placing.addresses.named_variable.Goals as goal

pub returns-in-None : goal.returns-in-None
returns-in-None c = names_nothing c.args.source.now (around_of c.args.around.now) c.args.expr.now c.in-None.ensures

pub returns-in-Some : goal.returns-in-Some
returns-in-Some c = names_object c.args.source.now (around_of c.args.around.now) c.args.expr.now c.in-Some.token c.variable_of.result c.in-Some.ensures c.variable_of.ensures
