-- A member: its sizes, its width, and what is found at its name behind them.
use Rattle.std.proofs.Common.{◌≤◌, Option, refl, subst}
use Rattle.cbase.specs.declared.tree.expr.Expr.{Expr}
use Rattle.cbase.specs.declared.tree.expr.ExprForm.TheViews.{out-FieldName}
use Rattle.ctrees.specs.Levels.{maybe_levels}
use Rattle.typing.specs.Typing.{WidthIs}
use Rattle.expressions.specs.declared.found.Found.TheVariants.{Passes, Refused}
use Rattle.expressions.specs.Found.{nothing}
use Rattle.expressions.specs.Walked.{Walked, Says}
use Rattle.expressions.proofs.checker.Checker.declared_member.Goals as goal
use Rattle.expressions.proofs.checker.Checker.declared_member.Goals.{in-None, in-Some+in-Ok-Passes-loaded}
use Rattle.expressions.proofs.Growth.{below_grows, grows_trans, only_types_grows}
use Rattle.expressions.proofs.MemberSizes.{no_width, width_passes, width_refused}
use Rattle.expressions.proofs.MembersSoFar.{are_members_grow}
use Rattle.expressions.proofs.SpecLevels.{member_sizes_within, width_within}
use Rattle.expressions.proofs.StructMembers.{sizes_stop, width_stop, parts_grow, member_found}
use Rattle.expressions.proofs.WholeTypeNames.{declares_now}

pub member_sizes-requires-clause-deep : goal.member_sizes-requires-clause-deep
member_sizes-requires-clause-deep g c = member_sizes_within c.args.name.now c.as_slice.result.now c.args.self.now.depth c.as_slice.ensures c.requires.deep

pub returns-in-Ok-Refused-clause-found : goal.returns-in-Ok-Refused-clause-found
returns-in-Ok-Refused-clause-found g c = sizes_stop c.args.self.now.abi c.args.base c.args.name.now c.args.members.now.list c.as_slice.result.now c.member_sizes.new.found.items c.args.context.now c.member_sizes.new.context c.in-Ok-Refused.fault c.in-Ok-Refused.field-0
    c.as_slice.ensures c.in-Ok-Refused.field-0-is c.in-Ok-Refused.ensures

pub returns-in-Ok-Refused-loaded-clause-found : goal.returns-in-Ok-Refused-loaded-clause-found
returns-in-Ok-Refused-loaded-clause-found g c = width_stop c.args.self.now.abi c.args.base c.args.name.now c.args.members.now.list c.as_slice.result.now c.member_sizes.new.found.items c.args.context.now c.member_sizes.new.context c.loaded.new.context c.in-Ok-Passes.field-0-0 c.in-Ok-Passes.field-0 (Refused c.in-Ok-Refused-loaded.fault)
    c.in-Ok-Refused-loaded.fault c.as_slice.ensures c.in-Ok-Passes.field-0-is refl c.in-Ok-Passes.ensures
    (width_refused c.args.self.now.abi c.member_sizes.new.context c.loaded.new.context (out-FieldName c.args.name.now).bits c.in-Some.width c.in-Ok-Refused-loaded.fault c.in-Ok-Refused-loaded.field-0 c.in-Some.is c.in-Ok-Refused-loaded.field-0-is c.in-Ok-Refused-loaded.ensures)

pub declare-requires : goal.declare-requires
declare-requires g c =
    let wide : Walked (Says c.args.self.now.abi (λ o. WidthIs (out-FieldName c.args.name.now).bits o)) nothing c.member_sizes.new.context c.match-name.context (Passes tt) = elim c.match-name.branch [
      | in-None w ↦ rw w.context-is (no_width c.args.self.now.abi c.member_sizes.new.context c.member_sizes.new.context (out-FieldName c.args.name.now).bits w.in-None.is)
      | in-Some+in-Ok-Passes-loaded w ↦ rw w.context-is (width_passes c.args.self.now.abi c.member_sizes.new.context w.loaded.new.context (out-FieldName c.args.name.now).bits w.in-Some.width w.in-Ok-Passes-loaded.field-0-0 w.in-Ok-Passes-loaded.field-0
          w.in-Some.is w.in-Ok-Passes-loaded.field-0-is w.in-Ok-Passes-loaded.ensures)
    ] in
    below_grows c.args.context.now c.match-name.context
    (parts_grow c.args.self.now.abi c.args.base c.args.name.now c.args.members.now.list c.as_slice.result.now c.member_sizes.new.found.items c.args.context.now c.member_sizes.new.context c.match-name.context c.in-Ok-Passes.field-0-0 c.in-Ok-Passes.field-0 (Passes tt)
    tt c.as_slice.ensures c.in-Ok-Passes.field-0-is refl c.in-Ok-Passes.ensures wide)
    c.args.base.ctype c.requires.base

pub take_member-requires-clause-below : goal.take_member-requires-clause-below
take_member-requires-clause-below g c = (c.in-Ok.ensures c.args.self.now.abi).below

pub take_member-requires-clause-members : goal.take_member-requires-clause-members
take_member-requires-clause-members g c =
    let wide : Walked (Says c.args.self.now.abi (λ o. WidthIs (out-FieldName c.args.name.now).bits o)) nothing c.member_sizes.new.context c.match-name.context (Passes tt) = elim c.match-name.branch [
      | in-None w ↦ rw w.context-is (no_width c.args.self.now.abi c.member_sizes.new.context c.member_sizes.new.context (out-FieldName c.args.name.now).bits w.in-None.is)
      | in-Some+in-Ok-Passes-loaded w ↦ rw w.context-is (width_passes c.args.self.now.abi c.member_sizes.new.context w.loaded.new.context (out-FieldName c.args.name.now).bits w.in-Some.width w.in-Ok-Passes-loaded.field-0-0 w.in-Ok-Passes-loaded.field-0
          w.in-Some.is w.in-Ok-Passes-loaded.field-0-is w.in-Ok-Passes-loaded.ensures)
    ] in
    are_members_grow c.args.context.now c.declare.new.context
    (grows_trans c.args.context.now c.match-name.context c.declare.new.context
    (parts_grow c.args.self.now.abi c.args.base c.args.name.now c.args.members.now.list c.as_slice.result.now c.member_sizes.new.found.items c.args.context.now c.member_sizes.new.context c.match-name.context c.in-Ok-Passes.field-0-0 c.in-Ok-Passes.field-0 (Passes tt)
    tt c.as_slice.ensures c.in-Ok-Passes.field-0-is refl c.in-Ok-Passes.ensures wide)
    (only_types_grows c.match-name.context c.declare.new.context (c.in-Ok.ensures c.args.self.now.abi).only_types))
    c.args.members.now.list c.args.members.now.names c.args.members.now.layout c.requires.members

pub returns-in-Ok-clause-found : goal.returns-in-Ok-clause-found
returns-in-Ok-clause-found g c =
    let wide : Walked (Says c.args.self.now.abi (λ o. WidthIs (out-FieldName c.args.name.now).bits o)) nothing c.member_sizes.new.context c.match-name.context (Passes tt) = elim c.match-name.branch [
      | in-None w ↦ rw w.context-is (no_width c.args.self.now.abi c.member_sizes.new.context c.member_sizes.new.context (out-FieldName c.args.name.now).bits w.in-None.is)
      | in-Some+in-Ok-Passes-loaded w ↦ rw w.context-is (width_passes c.args.self.now.abi c.member_sizes.new.context w.loaded.new.context (out-FieldName c.args.name.now).bits w.in-Some.width w.in-Ok-Passes-loaded.field-0-0 w.in-Ok-Passes-loaded.field-0
          w.in-Some.is w.in-Ok-Passes-loaded.field-0-is w.in-Ok-Passes-loaded.ensures)
    ] in
    member_found c.args.self.now.abi c.args.base c.args.name.now c.args.members.now.list c.as_slice.result.now c.member_sizes.new.found.items c.args.context.now c.member_sizes.new.context c.match-name.context c.in-Ok-Passes.field-0-0 c.in-Ok-Passes.field-0 (Passes tt)
    tt c.declare.new.context c.in-Ok.named c.take_member.new.members.list c.take_member.new.members.names c.take_member.new.members.layout c.take_member.result c.as_slice.ensures c.in-Ok-Passes.field-0-is refl c.in-Ok-Passes.ensures wide
    (declares_now c.args.self.now.abi c.args.base _ c.member_sizes.new.found.items c.deref.result.now c.match-name.context c.declare.new.context c.in-Ok.named c.declare.result
    c.in-Ok.is c.deref.ensures.value (c.declare.ensures c.args.self.now.abi))
    (c.take_member.ensures.taken c.args.self.now.abi) c.take_member.ensures.members

pub member_sizes-requires-clause-nests : goal.member_sizes-requires-clause-nests
member_sizes-requires-clause-nests g c = c.requires.nests

pub returns-in-Ok-clause-members : goal.returns-in-Ok-clause-members
returns-in-Ok-clause-members g c = c.take_member.ensures.members

pub loaded-requires-clause-nests : goal.loaded-requires-clause-nests
loaded-requires-clause-nests g c = c.requires.nests

pub loaded-requires-clause-deep : goal.loaded-requires-clause-deep
loaded-requires-clause-deep g c = subst (λ (given : Option Expr). maybe_levels given ≤ c.args.self.now.depth) c.in-Some.is (width_within c.args.name.now c.args.self.now.depth c.requires.deep)

pub returns-in-Ok-Refused-clause-members : goal.returns-in-Ok-Refused-clause-members
returns-in-Ok-Refused-clause-members g c = tt

pub returns-in-Ok-Refused-loaded-clause-members : goal.returns-in-Ok-Refused-loaded-clause-members
returns-in-Ok-Refused-loaded-clause-members g c = tt

pub member_sizes-requires-clause-empty : goal.member_sizes-requires-clause-empty
member_sizes-requires-clause-empty g c = c.new-sizes.ensures.items

pub returns-in-Err-clause-found : goal.returns-in-Err-clause-found
returns-in-Err-clause-found g c = tt

pub returns-in-Err-clause-members : goal.returns-in-Err-clause-members
returns-in-Err-clause-members g c = tt
