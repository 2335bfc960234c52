-- A name as the name of a type.
use Rattle.std.proofs.Common.{◌≡◌, ◌<◌, ◌∙◌, ap, sym, Some, None, refl, length}
use Rattle.typing.specs.declared.environment.entity.DeclaredType.TheVariants.{Whole}
use Rattle.typing.specs.declared.environment.entity.Entity.TheVariants.{Typedef}
use Rattle.typing.specs.environment.Environment.{name_found}
use Rattle.typing.specs.declared.ctypes.found.Broken.TheVariants.{Rule}
use Rattle.expressions.proofs.walk.type_words.typedef.Goals as goal
use Rattle.expressions.proofs.walk.type_words.typedef.Goals.{in-Some-Typedef-UnsizedArray, in-Some-Object, in-Some-Enumerator, in-Some-Function, in-None}
use Rattle.expressions.proofs.Growth.{only_types_same}
use Rattle.expressions.proofs.TypeWords.{whole_name, untyped_name}

pub returns-in-Some-Typedef-Whole : goal.returns-in-Some-Typedef-Whole
returns-in-Some-Typedef-Whole c = λ abi.
    let arm = c.in-Some-Typedef-Whole in
    let found : name_found c.args.name.now c.args.context.now.environment ≡ Some (Typedef (Whole arm.number)) =
    sym c.look_up.ensures.is ∙ arm.is ∙ ap Some (arm.field-0-is ∙ ap Typedef arm.field-0-0-is)
    in
    let below : arm.number < length c.args.context.now.types = rw (arm.field-0-is, arm.field-0-0-is) at c.in-Some-Typedef-Whole.ensures.below in
    rw c.whole.ensures (whole_name abi c.args.context.now c.args.context.now c.args.name.now arm.number found (only_types_same c.args.context.now) below)

pub returns-in-Ok : goal.returns-in-Ok
returns-in-Ok c = λ abi. elim c.match-look_up.branch [
  | in-Some-Typedef-UnsizedArray w ↦ rw w.rule-is (untyped_name abi c.args.context.now c.void.new.self c.args.name.now (Some w.in-Some-Typedef-UnsizedArray.field-0) (Rule 3)
      c.in-Ok.ctype (sym c.look_up.ensures.is ∙ w.in-Some-Typedef-UnsizedArray.is) c.in-Ok.ensures (λ n. rw (w.in-Some-Typedef-UnsizedArray.field-0-is, w.in-Some-Typedef-UnsizedArray.field-0-0-is) refl))
  | in-Some-Object w ↦ rw w.rule-is (untyped_name abi c.args.context.now c.void.new.self c.args.name.now (Some w.in-Some-Object.field-0) (Rule 1)
      c.in-Ok.ctype (sym c.look_up.ensures.is ∙ w.in-Some-Object.is) c.in-Ok.ensures (λ n. rw w.in-Some-Object.field-0-is refl))
  | in-Some-Enumerator w ↦ rw w.rule-is (untyped_name abi c.args.context.now c.void.new.self c.args.name.now (Some w.in-Some-Enumerator.field-0) (Rule 1)
      c.in-Ok.ctype (sym c.look_up.ensures.is ∙ w.in-Some-Enumerator.is) c.in-Ok.ensures (λ n. rw w.in-Some-Enumerator.field-0-is refl))
  | in-Some-Function w ↦ rw w.rule-is (untyped_name abi c.args.context.now c.void.new.self c.args.name.now (Some w.in-Some-Function.field-0) (Rule 1)
      c.in-Ok.ctype (sym c.look_up.ensures.is ∙ w.in-Some-Function.is) c.in-Ok.ensures (λ n. rw w.in-Some-Function.field-0-is refl))
  | in-None w ↦ rw w.rule-is (untyped_name abi c.args.context.now c.void.new.self c.args.name.now None (Rule 1)
      c.in-Ok.ctype (sym c.look_up.ensures.is ∙ w.in-None.is) c.in-Ok.ensures (λ n. refl))
]
