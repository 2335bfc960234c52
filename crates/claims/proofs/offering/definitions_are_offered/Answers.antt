-- Each clause is a lemma on two readings of a row.
use Rattle.claims.proofs.OfItems.{are_offered, are_needed_by, bodies_agree}
use Rattle.claims.proofs.offering.definitions_are_offered.Goals as goal

-- src/offering.rt:6:1
pub returns-clause-offered : goal.returns-clause-offered
returns-clause-offered c = are_offered

-- src/offering.rt:6:1
pub returns-clause-needed : goal.returns-clause-needed
returns-clause-needed c = are_needed_by

-- src/offering.rt:6:1
pub returns-clause-bodies : goal.returns-clause-bodies
returns-clause-bodies c = bodies_agree
