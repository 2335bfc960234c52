use Rattle.typing.proofs.environment.Bounds.{bound_below, bound_around_below, linked_below}
use Rattle.typing.proofs.environment.laws.declarations_keep_bounds.Goals as goal

pub returns-clause-bound : goal.returns-clause-bound
returns-clause-bound c = bound_below

pub returns-clause-linked : goal.returns-clause-linked
returns-clause-linked c = linked_below

pub returns-clause-around : goal.returns-clause-around
returns-clause-around c = bound_around_below
