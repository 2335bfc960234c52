-- What is named of three things is what is named of the first and of the rest.
use Rattle.std.proofs.Common.{Bool, not, subst}
use Rattle.typing.specs.declared.ctypes.found.Broken.TheVariants.{Rule}
use Rattle.typing.specs.Faults.{unless}
use Rattle.expressions.specs.Settled.{IsFirstOf}
use Rattle.expressions.proofs.nodes.names.object_fault.Goals as goal

pub returns : goal.returns
returns c = c.first_of-2.ensures _ _ c.unless.ensures (c.first_of.ensures _ _ c.unless-2.ensures
    (subst (λ (of_main : Bool). IsFirstOf (unless (not of_main) c.args.place (Rule 12)) c.unless-3.result) c.is_of_main.ensures c.unless-3.ensures))
