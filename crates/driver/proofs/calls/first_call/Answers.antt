use Rattle.std.proofs.Common.{rules, ◌+◌, sym, subst, Option}
use Rattle.cbase.specs.declared.place.Place.{Place}
use Rattle.driver.specs.Calls.{TellsCallBelow}
use Rattle.driver.proofs.Called.{called_next, called_last}
use Rattle.driver.proofs.Followed.{stands_there}
use Rattle.driver.proofs.calls.first_call.Goals as goal

pub loop-number-preserved : goal.loop-number-preserved
loop-number-preserved c = subst (λ (found : Option Place). TellsCallBelow c.args.flow.now.edges (c.loop-number.number + 1) found) (sym c.earlier-found.ensures)
    (called_next c.args.flow.now.edges c.loop-number.number c.index-edges-number.result
    (stands_there c.args.flow.now.edges c.as_slice-edges.result.now c.loop-number.number c.index-edges-number.result c.as_slice-edges.ensures (search rules) (search rules))
    c.loop-number.found c.loop-number.invariant)

pub returns : goal.returns
returns c = called_last c.args.flow.now c.loop-number.number c.loop-number.found c.loop-number.invariant (search rules)
