-- A function is declared by its head.
use Rattle.std.proofs.Common.{◌<◌, ℕ, List, All, length, sym, subst}
use Rattle.cbase.specs.declared.ctype.CType.{CType}
use Rattle.items.proofs.heads.HeadDeclared.{head_declared_so, marked_types}
use Rattle.items.proofs.heads.declaring.declare_head.Goals as goal

pub declare_around-requires-clause-of : goal.declare_around-requires-clause-of
declare_around-requires-clause-of c = subst (λ (types : List CType). c.args.head.result < length types) (sym (marked_types c.args.name.now c.args.params.now c.args.context.now c.mark_parameters.new.context c.in_ok-mark_parameters.ensures)) c.requires.of

pub declare_around-requires-clause-params : goal.declare_around-requires-clause-params
declare_around-requires-clause-params c = subst (λ (types : List CType). All (λ (number : ℕ). number < length types) c.args.types) (sym (marked_types c.args.name.now c.args.params.now c.args.context.now c.mark_parameters.new.context c.in_ok-mark_parameters.ensures)) c.requires.types

pub returns : goal.returns
returns c = head_declared_so c.args.head c.args.name.now c.args.params.now c.args.types c.args.context.now c.mark_parameters.new.context c.declare_around.new.context c.set_definition.new.self
    c.as_slice-text.result.now c.linked.result c.definition_by_now-before.result c.definition_of_head.result c.with_definition-now.result
    c.as_slice-text.ensures c.linked.ensures.is c.definition_by_now-before.ensures c.in_ok-mark_parameters.ensures c.in_ok-declare_around.ensures c.definition_of_head.ensures c.with_definition-now.ensures c.set_definition.ensures
