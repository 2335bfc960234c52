use Rattle.expressions.proofs.nodes.arguments.has_struct.Goals as goal

pub is_struct-requires : goal.is_struct-requires
is_struct-requires c = c.requires.result

pub is_struct_in-requires : goal.is_struct_in-requires
is_struct_in-requires c = c.requires.known
