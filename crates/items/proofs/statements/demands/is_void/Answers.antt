-- The kind of the type is that of its shape.
use Rattle.items.proofs.statements.KindsAsked.{is_void_type, is_other_type}
use Rattle.items.proofs.statements.demands.is_void.Goals as goal

pub returns-in-Void : goal.returns-in-Void
returns-in-Void c = is_void_type c.args.context.now c.args.number c.requires c.in-Void.ensures.is

pub returns-in_default : goal.returns-in_default
returns-in_default c = is_other_type c.args.context.now c.args.number c.requires c.shape.result c.in_default.not-Void c.shape.ensures.is
