-- The tag of a struct.
use Rattle.std.proofs.Common.{List, ℕ, Some, None, ap, sym, ◌∙◌, subst}
use Rattle.cbase.specs.declared.ctype.CType.TheVariants.{Struct as StructType}
use Rattle.cbase.specs.declared.tree.expr.ExprForm.TheOpen.{Struct as StructWords}
use Rattle.typing.specs.declared.environment.entity.Tag.TheVariants.{Struct}
use Rattle.typing.specs.declared.ctypes.found.Broken.TheVariants.{Rule}
use Rattle.typing.specs.Faults.{fault}
use Rattle.typing.specs.Typing.{WordsAre}
use Rattle.expressions.specs.declared.found.Found.TheVariants.{Passes, Refused}
use Rattle.expressions.specs.Context.{Context, declared}
use Rattle.expressions.specs.Found.{a_type}
use Rattle.expressions.specs.Operated.{Numbers}
use Rattle.expressions.specs.Language.{struct_declared}
use Rattle.expressions.specs.Walked.{Says}
use Rattle.expressions.proofs.walk.type_words.structure.Goals as goal
use Rattle.expressions.proofs.walk.type_words.structure.Goals.{in-Some-Struct, in-None+in_ok-number-in-None}
use Rattle.expressions.proofs.TypeWords.{whole_at, struct_words, new_struct, struct_of_enum, tag_known, walked_as}

pub returns-in-Some-Enum : goal.returns-in-Some-Enum
returns-in-Some-Enum c = λ abi.
    let tag = c.args.tag.now in
    let old = c.args.context.now in
    let arm = c.in-Some-Enum in
    walked_as (Says abi (λ o. WordsAre (StructWords (Some tag) None) o)) a_type old old c.other_kind.result (Refused (fault tag.place (Rule 2))) c.other_kind.ensures
    (struct_of_enum abi old old tag arm.field-0-0
    (tag_known old.environment tag.name _ c.tag.result _ c.as_slice.ensures c.tag.ensures (arm.is ∙ ap Some arm.field-0-is)))

pub returns-in-Ok : goal.returns-in-Ok
returns-in-Ok c = λ abi.
    let tag = c.args.tag.now in
    let old = c.args.context.now in
    let new = c.structure.new.self in
    let number = c.in-Ok.ctype in
    let numbers : Numbers (λ n. StructType c.match-tag.number) c.match-tag.context new number = c.in-Ok.ensures in
    walked_as (Says abi (λ o. WordsAre (StructWords (Some tag) None) o)) a_type old new c.whole.result (Passes (whole_at number)) c.whole.ensures
    (elim c.match-tag.branch [
      | in-Some-Struct w ↦
          let arm = w.in-Some-Struct in
          struct_words abi old new tag c.match-tag.number arm.field-0-1 number
          (tag_known old.environment tag.name _ c.tag.result _ c.as_slice.ensures c.tag.ensures (arm.is ∙ ap Some (arm.field-0-is ∙ ap (λ (of : ℕ). Struct of arm.field-0-1) (sym (w.number-is ∙ arm.number-is)))))
          (subst (λ (mid : Context). Numbers (λ n. StructType c.match-tag.number) mid new number) w.context-is numbers)
      | in-None+in_ok-number-in-None w ↦
          let after = w.in_ok-number-in-None.ensures in
          new_struct abi old new c.match-tag.context tag number
          (tag_known old.environment tag.name _ c.tag.result _ c.as_slice.ensures c.tag.ensures w.in-None.is)
          (ap declared w.context-is ∙ (after.ok ∙ ap (λ (name : List ℕ). struct_declared name (declared old)) w.as_slice-in-None.ensures))
          (ap (λ (mid : Context). mid.types) w.context-is ∙ after.types) (ap (λ (mid : Context). mid.handed) w.context-is ∙ after.handed)
          (subst (λ (of : ℕ). Numbers (λ n. StructType of) c.match-tag.context new number) (w.number-is ∙ after.number) numbers)
    ])
