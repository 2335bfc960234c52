-- A tag of a struct: the struct stands behind the others, and the tag in the innermost scope.
use Rattle.std.proofs.Common.{ℕ, List, [], ◌∷◌, ◌++◌, length, ap, ◌∙◌}
use Rattle.std.proofs.lemmas.Result.{IfOk-from_err}
use Rattle.cbase.specs.Completing.{fieldless}
use Rattle.typing.proofs.environment.Bounds.{tagged_below}
use Rattle.typing.specs.declared.environment.entity.Tag.TheVariants.{Struct}
use Rattle.typing.specs.environment.Environment.{tag_declared}
use Rattle.expressions.specs.Context.{Context, declared}
use Rattle.expressions.specs.Language.{struct_tagged}
use Rattle.expressions.proofs.context.Context.declare_struct.Goals as goal

pub invariant_of-self : goal.invariant_of-self
invariant_of-self c = c.self.invariant

pub invariant_of-self-in_err-number : goal.invariant_of-self-in_err-number
invariant_of-self-in_err-number c = rw c.declare.ensures.types c.self.invariant

pub invariant_of-self-in_err-declare_tag : goal.invariant_of-self-in_err-declare_tag
invariant_of-self-in_err-declare_tag c = rw (c.declare.ensures.types, c.in_err-declare_tag.ensures.err) c.self.invariant

pub invariant_of-self-2 : goal.invariant_of-self-2
invariant_of-self-2 c = rw (c.declare.ensures.types, c.in_ok-declare_tag.ensures.ok)
    (tagged_below (length c.self.inside.types.types) c.args.name.now (Struct c.in_ok-number.number c.args.listed) c.self.inside.environment c.self.invariant)

pub returns-clause-number : goal.returns-clause-number
returns-clause-number c = c.in_ok-number.ensures.number ∙ ap (λ (context : Context). length context.structs) c.self.view_is

pub returns-clause-ok : goal.returns-clause-ok
returns-clause-ok c = (λ i. record {
  environment = (c.in_ok-declare_tag.ensures.ok ∙ ap (λ (number : ℕ). tag_declared c.args.name.now (Struct number c.args.listed) c.self.inside.environment) c.in_ok-number.ensures.number) i;
  structs = (c.in_ok-number.ensures.ok ∙ ap (λ (text : List ℕ). c.self.inside.types.structs ++ fieldless text ∷ []) c.in_ok-from_slice.ensures) i;
}) ∙ ap (λ (context : Context). struct_tagged c.args.listed c.args.name.now (declared context)) c.self.view_is

pub returns-clause-types : goal.returns-clause-types
returns-clause-types c = c.declare.ensures.types ∙ ap (λ (context : Context). context.types) c.self.view_is

pub returns-clause-handed : goal.returns-clause-handed
returns-clause-handed c = ap (λ (context : Context). context.handed) c.self.view_is

pub returns-in_err-from_slice-clause-number : goal.returns-in_err-from_slice-clause-number
returns-in_err-from_slice-clause-number c = IfOk-from_err _ _ c.from_residual.ensures.0

pub returns-in_err-from_slice-clause-ok : goal.returns-in_err-from_slice-clause-ok
returns-in_err-from_slice-clause-ok c = IfOk-from_err _ _ c.from_residual.ensures.0

pub returns-in_err-from_slice-clause-types : goal.returns-in_err-from_slice-clause-types
returns-in_err-from_slice-clause-types c = IfOk-from_err _ _ c.from_residual.ensures.0

pub returns-in_err-from_slice-clause-handed : goal.returns-in_err-from_slice-clause-handed
returns-in_err-from_slice-clause-handed c = IfOk-from_err _ _ c.from_residual.ensures.0

pub returns-in_err-number-clause-number : goal.returns-in_err-number-clause-number
returns-in_err-number-clause-number c = IfOk-from_err _ _ c.from_residual-in_err-number.ensures.0

pub returns-in_err-number-clause-ok : goal.returns-in_err-number-clause-ok
returns-in_err-number-clause-ok c = IfOk-from_err _ _ c.from_residual-in_err-number.ensures.0

pub returns-in_err-number-clause-types : goal.returns-in_err-number-clause-types
returns-in_err-number-clause-types c = IfOk-from_err _ _ c.from_residual-in_err-number.ensures.0

pub returns-in_err-number-clause-handed : goal.returns-in_err-number-clause-handed
returns-in_err-number-clause-handed c = IfOk-from_err _ _ c.from_residual-in_err-number.ensures.0

pub returns-in_err-declare_tag-clause-number : goal.returns-in_err-declare_tag-clause-number
returns-in_err-declare_tag-clause-number c = IfOk-from_err _ _ c.from_residual-in_err-declare_tag.ensures.0

pub returns-in_err-declare_tag-clause-ok : goal.returns-in_err-declare_tag-clause-ok
returns-in_err-declare_tag-clause-ok c = IfOk-from_err _ _ c.from_residual-in_err-declare_tag.ensures.0

pub returns-in_err-declare_tag-clause-types : goal.returns-in_err-declare_tag-clause-types
returns-in_err-declare_tag-clause-types c = IfOk-from_err _ _ c.from_residual-in_err-declare_tag.ensures.0

pub returns-in_err-declare_tag-clause-handed : goal.returns-in_err-declare_tag-clause-handed
returns-in_err-declare_tag-clause-handed c = IfOk-from_err _ _ c.from_residual-in_err-declare_tag.ensures.0
