use Rattle.typing.proofs.environment.Bounds.{linked_is_below, signature_is_below, result_is_below}
use Rattle.typing.proofs.environment.laws.what_is_found_is_below.Goals as goal

pub returns-clause-linked : goal.returns-clause-linked
returns-clause-linked c = linked_is_below

pub returns-clause-signature : goal.returns-clause-signature
returns-clause-signature c = signature_is_below

pub returns-clause-result : goal.returns-clause-result
returns-clause-result c = result_is_below
