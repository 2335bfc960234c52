-- An int by its shape.
use Rattle.items.proofs.heads.HeadFaults.{four_bytes, no_int_by_shape, other_bytes}
use Rattle.items.proofs.heads.main_function.is_int.Goals as goal

pub returns-then-bytes-eq4 : goal.returns-then-bytes-eq4
returns-then-bytes-eq4 c n agrees = four_bytes n c.args.context.now c.args.number c.in-Int.bytes c.in-Int.signed agrees c.requires c.in-Int.ensures.is c.if-bytes-eq4.true

pub returns-else-bytes-eq4 : goal.returns-else-bytes-eq4
returns-else-bytes-eq4 c n agrees = other_bytes n c.args.context.now c.args.number c.in-Int.bytes c.in-Int.signed agrees c.requires c.in-Int.ensures.is c.if-bytes-eq4.false

pub returns-in_default : goal.returns-in_default
returns-in_default c n agrees = no_int_by_shape n c.args.context.now c.args.number c.shape.result agrees c.requires c.shape.ensures.is c.in_default.not-Int
