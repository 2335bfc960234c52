-- What is broken at the name of a parameter.
use Rattle.std.proofs.Common.{sym, subst, Option}
use Rattle.cbase.specs.declared.place.Place.{Place}
use Rattle.expressions.specs.Settled.{IsFirstOf}
use Rattle.items.specs.parameters.Parameters.{faults_at}
use Rattle.items.proofs.parameters.joining.fault_of.Goals as goal

pub returns-in-Some : goal.returns-in-Some
returns-in-Some c = subst (λ (place : Option Place). IsFirstOf (faults_at place c.args.param.again c.args.param.incomplete) c.first_of.result) (sym c.in-Some.is)
    (c.first_of.ensures _ _ c.unless.ensures c.unless-in-Some.ensures)
