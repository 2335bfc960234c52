-- A struct with its members in braces.
use Rattle.expressions.proofs.checker.Checker.members.Goals as goal
use Rattle.expressions.proofs.SpecLevels.{fields_within}
use Rattle.expressions.proofs.StructMembers.{members_below}
use Rattle.expressions.proofs.WholeStructs.{tag_refused, struct_ends}

pub returns-in-Ok-Refused : goal.returns-in-Ok-Refused
returns-in-Ok-Refused g c = tag_refused c.args.self.now.abi c.args.name.now c.args.fields.now c.args.context.now c.open_struct.new.self c.in-Ok-Refused.fault c.in-Ok-Refused.field-0 c.in-Ok-Refused.field-0-is (c.in-Ok-Refused.ensures c.args.self.now.abi)

pub declarations-declared-requires-clause-nests : goal.declarations-declared-requires-clause-nests
declarations-declared-requires-clause-nests g c = c.requires.nests

pub declarations-declared-requires-clause-deep : goal.declarations-declared-requires-clause-deep
declarations-declared-requires-clause-deep g c = fields_within c.args.name.now c.args.fields.now c.as_slice.result.now c.args.self.now.depth c.as_slice.ensures c.requires.deep

pub declarations-declared-requires-clause-members : goal.declarations-declared-requires-clause-members
declarations-declared-requires-clause-members g c = c.new-members.ensures.are c.open_struct.new.self

pub close-requires : goal.close-requires
close-requires g c = members_below c.declarations-declared.new.context c.declarations-declared.new.members.list c.into_list.result c.declarations-declared.new.members.names c.declarations-declared.new.members.layout c.declarations-declared.result c.into_list.ensures c.declarations-declared.ensures.members

pub returns : goal.returns
returns g c = struct_ends c.args.self.now.abi c.args.name.now c.args.fields.now c.args.context.now c.open_struct.new.self c.declarations-declared.new.context c.close.new.context c.in-Ok-Passes.number c.in-Ok-Passes.field-0 c.in-Ok-Passes.field-0-is (c.in-Ok-Passes.ensures c.args.self.now.abi)
    _ c.declarations-declared.new.members.list c.into_list.result c.as_slice.result.now c.new-members.ensures.none c.as_slice.ensures c.into_list.ensures c.declarations-declared.result c.declarations-declared.ensures.found c.close.result
    c.close.ensures.passes c.close.ensures.refused c.close.ensures.err
