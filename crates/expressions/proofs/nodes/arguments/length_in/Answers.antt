use Rattle.expressions.proofs.nodes.arguments.length_in.Goals as goal

pub integer_type-requires : goal.integer_type-requires
integer_type-requires c = c.requires.param

pub integer_type-requires-2 : goal.integer_type-requires-2
integer_type-requires-2 c = c.requires.one
