-- What is broken at the name of a function, in the order in which it is asked.
use Rattle.std.proofs.Common.{Bool, subst}
use Rattle.std.specs.Prelude.{not}
use Rattle.typing.specs.declared.ctypes.found.Broken.TheVariants.{Construct}
use Rattle.typing.specs.Faults.{all_at, unless}
use Rattle.expressions.specs.Settled.{IsFirstOf}
use Rattle.items.proofs.parameters.naming.function_fault.Goals as goal

pub returns : goal.returns
returns c = c.first_of-3.ensures (all_at c.args.place c.args.found) _ c.all_at.ensures
    (c.first_of-2.ensures _ _ (subst (λ (b : Bool). IsFirstOf (unless (not b) c.args.place (Construct 20)) c.unless-named.result) c.is_typedef.ensures c.unless-named.ensures)
    (c.first_of.ensures _ _ c.unless-once.ensures c.unless-returned.ensures))
