-- What is told of the object decides.
use Rattle.std.proofs.Common.{ap, ◌∙◌}
use Rattle.lower.specs.Ways.{is_no_object}
use Rattle.lower.proofs.Idle.{as_kept}
use Rattle.lower.proofs.placing.begins.does_nothing.Goals as goal

pub returns-in-Some : goal.returns-in-Some
returns-in-Some c = λ p reads.
    c.is_no_object.ensures
    ∙ ap is_no_object (c.automatic.ensures reads.reads.0 p (rw c.text.ensures reads.reads.1))
    ∙ as_kept p c.args.name.now c.in-Some.field-0 c.in-Some.is
