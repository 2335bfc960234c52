-- Whether the type has a size is what the table tells of it.
use Rattle.std.proofs.Common.{sym, ◌∙◌}
use Rattle.cbase.specs.declared.abi.Abi.TheVariants.{Lp64}
use Rattle.typing.specs.ctypes.Kinds.{has_size}
use Rattle.expressions.proofs.Extents.{sized, unsized}
use Rattle.expressions.proofs.Meanings.{of_one}
use Rattle.expressions.proofs.context.Context.has_size.Goals as goal

pub returns-in-Incomplete : goal.returns-in-Incomplete
returns-in-Incomplete c = λ n agrees. sym (of_one c.self.view_is has_size c.args.number c.requires n agrees ∙ unsized _ (sym c.in-Incomplete.is ∙ c.size.ensures Lp64))

pub returns-in_default : goal.returns-in_default
returns-in_default c = λ n agrees. sym (of_one c.self.view_is has_size c.args.number c.requires n agrees ∙ sized _ c.size.result (c.size.ensures Lp64) c.in_default.not-Incomplete)
