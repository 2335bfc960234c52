-- The declarations of members, one behind the other: the words of each, and its names behind them.
use Rattle.std.proofs.Common.{Ok, refl, arith}
use Rattle.typing.specs.Typing.{MembersAre, DeclarationIs}
use Rattle.ctrees.specs.Levels.{field_decl_levels}
use Rattle.expressions.specs.declared.found.Found.TheVariants.{Refused}
use Rattle.expressions.proofs.EachItem.{each_item}
use Rattle.expressions.proofs.checker.Checker.declarations.Goals as goal
use Rattle.expressions.proofs.MembersSoFar.{are_members_grow}
use Rattle.expressions.proofs.SpecLevels.{names_within, words_within}
use Rattle.expressions.proofs.StructMembers.{where_passes, declarations_in_order, behind_start, behind_next, behind_refused, behind_end, words_stop, words_grow, declaration_found}
use Rattle.expressions.proofs.Walking.{passed_of}

pub loop-field-init : goal.loop-field-init
loop-field-init g c = (behind_start c.args.self.now.abi (λ n members fields o. MembersAre members fields o) (λ n members field o. DeclarationIs members field o) c.args.fields.now c.args.members.now.list c.args.context.now, c.requires.members)

pub returns-in-Ok-Refused-clause-found : goal.returns-in-Ok-Refused-clause-found
returns-in-Ok-Refused-clause-found g c = behind_refused c.args.self.now.abi (λ n members fields o. MembersAre members fields o) (λ n members field o. DeclarationIs members field o) c.args.fields.now c.args.members.now.list
    (declarations_in_order c.args.self.now.abi) c.loop-field.members.list c.loop-field.members.list c.args.context.now c.loop-field.context c.words.new.context c.loop-field.field-index c.field-item.result c.in-Ok-Refused.fault (Refused c.in-Ok-Refused.fault)
    c.loop-field-test.true c.field-item.is refl (words_stop c.args.self.now.abi c.field-item.result c.loop-field.members.list c.loop-field.context c.words.new.context c.in-Ok-Refused.fault c.in-Ok-Refused.field-0 c.in-Ok-Refused.field-0-is c.in-Ok-Refused.ensures)
    c.loop-field.invariant.0

pub returns-in-Ok-Refused-member_names-clause-found : goal.returns-in-Ok-Refused-member_names-clause-found
returns-in-Ok-Refused-member_names-clause-found g c = behind_refused c.args.self.now.abi (λ n members fields o. MembersAre members fields o) (λ n members field o. DeclarationIs members field o) c.args.fields.now c.args.members.now.list
    (declarations_in_order c.args.self.now.abi) c.loop-field.members.list c.member_names.new.members.list c.args.context.now c.loop-field.context c.member_names.new.context c.loop-field.field-index c.field-item.result c.in-Ok-Refused-member_names.fault c.in-Ok-Refused-member_names.field-0
    c.loop-field-test.true c.field-item.is c.in-Ok-Refused-member_names.field-0-is
    (declaration_found c.args.self.now.abi c.field-item.result c.loop-field.members.list c.loop-field.context c.words.new.context c.member_names.new.context c.in-Ok-Passes.base c.member_names.new.members.list c.as_slice.result.now
    c.in-Ok-Passes.field-0 (Ok c.in-Ok-Refused-member_names.field-0) c.as_slice.ensures c.in-Ok-Passes.field-0-is c.in-Ok-Passes.ensures c.in-Ok-Refused-member_names.ensures.found)
    c.loop-field.invariant.0

pub loop-field-preserved : goal.loop-field-preserved
loop-field-preserved g c = (
  behind_next c.args.self.now.abi (λ n members fields o. MembersAre members fields o) (λ n members field o. DeclarationIs members field o) c.args.fields.now c.args.members.now.list
      (declarations_in_order c.args.self.now.abi) c.loop-field.members.list c.member_names.new.members.list c.args.context.now c.loop-field.context c.member_names.new.context c.loop-field.field-index c.field-item.result c.in-Ok-Passes-member_names.field-0-0 c.in-Ok-Passes-member_names.field-0
      c.loop-field-test.true c.field-item.is c.in-Ok-Passes-member_names.field-0-is
      (declaration_found c.args.self.now.abi c.field-item.result c.loop-field.members.list c.loop-field.context c.words.new.context c.member_names.new.context c.in-Ok-Passes.base c.member_names.new.members.list c.as_slice.result.now
      c.in-Ok-Passes.field-0 (Ok c.in-Ok-Passes-member_names.field-0) c.as_slice.ensures c.in-Ok-Passes.field-0-is c.in-Ok-Passes.ensures c.in-Ok-Passes-member_names.ensures.found)
      c.loop-field.invariant.0,
  where_passes _ c.in-Ok-Passes-member_names.field-0-0 c.in-Ok-Passes-member_names.field-0 c.in-Ok-Passes-member_names.field-0-is c.in-Ok-Passes-member_names.ensures.members,
)

pub returns-clause-found : goal.returns-clause-found
returns-clause-found g c = behind_end c.args.self.now.abi (λ n members fields o. MembersAre members fields o) (λ n members field o. DeclarationIs members field o) c.args.fields.now c.args.members.now.list
    (declarations_in_order c.args.self.now.abi) c.loop-field.members.list c.args.context.now c.loop-field.context c.loop-field.field-index (omega arith) c.loop-field.invariant.1.below c.loop-field.invariant.0

pub words-requires-clause-nests : goal.words-requires-clause-nests
words-requires-clause-nests g c = c.requires.nests

pub words-requires-clause-deep : goal.words-requires-clause-deep
words-requires-clause-deep g c = words_within c.field-item.result c.args.self.now.depth (each_item field_decl_levels c.args.self.now.depth c.args.fields.now c.loop-field.field-index c.field-item.result c.requires.deep c.loop-field-test.true c.field-item.is)

pub member_names-requires-clause-nests : goal.member_names-requires-clause-nests
member_names-requires-clause-nests g c = c.requires.nests

pub member_names-requires-clause-deep : goal.member_names-requires-clause-deep
member_names-requires-clause-deep g c = names_within c.field-item.result c.as_slice.result.now c.args.self.now.depth c.as_slice.ensures
    (each_item field_decl_levels c.args.self.now.depth c.args.fields.now c.loop-field.field-index c.field-item.result c.requires.deep c.loop-field-test.true c.field-item.is)

pub member_names-requires-clause-base : goal.member_names-requires-clause-base
member_names-requires-clause-base g c = (passed_of _ _ _ _ _ _ c.in-Ok-Passes.field-0-is c.in-Ok-Passes.ensures).below

pub member_names-requires-clause-members : goal.member_names-requires-clause-members
member_names-requires-clause-members g c = are_members_grow c.loop-field.context c.words.new.context
    (words_grow c.args.self.now.abi c.field-item.result c.loop-field.members.list c.loop-field.context c.words.new.context c.in-Ok-Passes.base c.in-Ok-Passes.field-0 c.in-Ok-Passes.field-0-is c.in-Ok-Passes.ensures)
    c.loop-field.members.list c.loop-field.members.names c.loop-field.members.layout c.loop-field.invariant.1

pub returns-clause-members : goal.returns-clause-members
returns-clause-members g c = c.loop-field.invariant.1

pub returns-in-Ok-Refused-clause-members : goal.returns-in-Ok-Refused-clause-members
returns-in-Ok-Refused-clause-members g c = tt

pub returns-in-Ok-Refused-member_names-clause-members : goal.returns-in-Ok-Refused-member_names-clause-members
returns-in-Ok-Refused-member_names-clause-members g c = tt
