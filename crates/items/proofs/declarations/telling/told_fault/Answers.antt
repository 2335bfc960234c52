-- What is broken at the name of an array whose size is told.
use Rattle.std.proofs.Common.{Bool, not, ap, ◌∙◌, subst}
use Rattle.typing.specs.declared.ctypes.found.Broken.TheVariants.{Construct}
use Rattle.typing.specs.Faults.{unless}
use Rattle.typing.specs.NamedTypes.{is_large}
use Rattle.expressions.specs.Settled.{IsFirstOf}
use Rattle.items.proofs.declarations.telling.told_fault.Goals as goal

pub returns : goal.returns
returns c n abi item agrees typed = c.first_of.ensures _ _
    (subst (λ (large : Bool). IsFirstOf (unless (not large) c.args.place (Construct 19)) c.unless-large.result) (c.is_large.ensures n abi agrees ∙ ap (is_large abi c.args.context.now.structs) typed) c.unless-large.ensures)
    c.unless-some.ensures
