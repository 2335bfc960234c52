-- `__builtin_offsetof`: its type name and the indices on the way, and what is found behind them.
use Rattle.std.proofs.Common.{ℕ, List, refl, [], ap, subst, ◌∙◌, length}
use Rattle.cbase.specs.declared.tree.expr.ExprForm.TheOpen.{OffsetOf}
use Rattle.typing.specs.Pieces.{OfType, indices_in}
use Rattle.expressions.specs.declared.found.Found.{Found}
use Rattle.expressions.specs.declared.found.Found.TheVariants.{Refused}
use Rattle.expressions.specs.Counted.{IsCounted}
use Rattle.expressions.specs.Found.{some_indices, a_type_and_indices}
use Rattle.expressions.proofs.ByRule.{offset_form}
use Rattle.expressions.proofs.Growth.{below_grows}
use Rattle.expressions.proofs.Parts.{a_type_told, type_found}
use Rattle.expressions.proofs.Several.{pieces_refused, then_passes, then_refused}
use Rattle.expressions.proofs.Walking.{passed_of, refused_form}
use Rattle.expressions.proofs.checker.Checker.offset.Goals as goal

pub returns-in-Ok-Passes-indices : goal.returns-in-Ok-Passes-indices
returns-in-Ok-Passes-indices g c = offset_form c.args.self.now.abi c.args.node.number c.args.node.place c.args.to.now c.args.path.now c.indices.new.words.items c.deref.result.now c.args.context.now c.indices.new.context _ c.in-Ok-Passes.named c.offset_node.result c.deref.ensures.value (c.offset_node.ensures c.args.self.now.abi)
    (then_passes c.args.self.now.abi (OfType c.args.to.now) (indices_in c.args.path.now) a_type_told (some_indices c.indices.new.words.items) (a_type_and_indices c.indices.new.words.items)
    c.args.context.now c.type_name.new.context c.indices.new.context c.in-Ok-Passes.named tt c.in-Ok-Passes.named c.in-Ok-Passes.field-0 c.in-Ok-Passes-indices.field-0
    c.in-Ok-Passes.field-0-is (type_found c.args.self.now.abi c.args.to.now c.args.context.now c.type_name.new.context c.in-Ok-Passes.field-0 c.in-Ok-Passes.ensures) c.in-Ok-Passes-indices.field-0-is c.in-Ok-Passes-indices.ensures.walk (λ n. refl)
    (λ grows first second. below_grows c.type_name.new.context c.indices.new.context grows c.in-Ok-Passes.named.ctype first))

pub returns-in-Ok-Refused : goal.returns-in-Ok-Refused
returns-in-Ok-Refused g c = refused_form c.args.self.now.abi c.args.node.number c.args.node.place (OffsetOf c.args.to.now c.args.path.now) (a_type_and_indices []) c.args.context.now c.type_name.new.context c.in-Ok-Refused.fault (Refused c.in-Ok-Refused.fault) refl
    (pieces_refused c.args.self.now.abi (OfType c.args.to.now) (indices_in c.args.path.now) a_type_told c.args.context.now c.type_name.new.context c.in-Ok-Refused.fault c.in-Ok-Refused.field-0 c.in-Ok-Refused.field-0-is
    (type_found c.args.self.now.abi c.args.to.now c.args.context.now c.type_name.new.context c.in-Ok-Refused.field-0 c.in-Ok-Refused.ensures))

pub returns-in-Ok-Refused-indices : goal.returns-in-Ok-Refused-indices
returns-in-Ok-Refused-indices g c = refused_form c.args.self.now.abi c.args.node.number c.args.node.place (OffsetOf c.args.to.now c.args.path.now) (a_type_and_indices c.indices.new.words.items) c.args.context.now c.indices.new.context c.in-Ok-Refused-indices.fault (Refused c.in-Ok-Refused-indices.fault) refl
    (then_refused c.args.self.now.abi (OfType c.args.to.now) (indices_in c.args.path.now) a_type_told (some_indices c.indices.new.words.items)
    c.args.context.now c.type_name.new.context c.indices.new.context c.in-Ok-Passes.named c.in-Ok-Refused-indices.fault c.in-Ok-Passes.field-0 c.in-Ok-Refused-indices.field-0
    c.in-Ok-Passes.field-0-is (type_found c.args.self.now.abi c.args.to.now c.args.context.now c.type_name.new.context c.in-Ok-Passes.field-0 c.in-Ok-Passes.ensures) c.in-Ok-Refused-indices.field-0-is c.in-Ok-Refused-indices.ensures.walk)

pub type_name-requires-clause-nests : goal.type_name-requires-clause-nests
type_name-requires-clause-nests g c = c.requires.nests

pub type_name-requires-clause-deep : goal.type_name-requires-clause-deep
type_name-requires-clause-deep g c = c.requires.to

pub indices-requires-clause-nests : goal.indices-requires-clause-nests
indices-requires-clause-nests g c = c.requires.nests

pub indices-requires-clause-deep : goal.indices-requires-clause-deep
indices-requires-clause-deep g c = c.requires.path

pub indices-requires-clause-empty : goal.indices-requires-clause-empty
indices-requires-clause-empty g c = c.new-words.ensures.items

pub offset_node-requires-clause-named : goal.offset_node-requires-clause-named
offset_node-requires-clause-named g c = below_grows _ _ (passed_of _ _ _ _ _ _ c.in-Ok-Passes-indices.field-0-is c.in-Ok-Passes-indices.ensures.walk).grows c.in-Ok-Passes.named.ctype (passed_of _ _ _ _ _ _ c.in-Ok-Passes.field-0-is c.in-Ok-Passes.ensures).below

pub offset_node-requires-clause-indices : goal.offset_node-requires-clause-indices
offset_node-requires-clause-indices g c = ap (λ (words : List ℕ). length words) c.deref.ensures.value
    ∙ subst (λ (found : Found (Unit {0})). IsCounted found (length c.indices.new.words.items) (length (indices_in c.args.path.now))) c.in-Ok-Passes-indices.field-0-is c.in-Ok-Passes-indices.ensures.count
