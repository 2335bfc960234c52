-- The tag of an enum.
use Rattle.std.proofs.Common.{List, ℕ, Some, None, ap, ◌∙◌, subst}
use Rattle.cbase.specs.declared.tree.expr.ExprForm.TheOpen.{Enum as EnumWords}
use Rattle.typing.specs.ctypes.Binary.{int_type}
use Rattle.typing.specs.Faults.{fault}
use Rattle.typing.specs.Typing.{WordsAre}
use Rattle.typing.specs.declared.ctypes.found.Broken.TheVariants.{Rule}
use Rattle.expressions.specs.declared.found.Found.TheVariants.{Passes, Refused}
use Rattle.expressions.specs.Context.{Context, declared}
use Rattle.expressions.specs.Found.{a_type}
use Rattle.expressions.specs.Operated.{Numbers}
use Rattle.expressions.specs.Language.{enum_declared}
use Rattle.expressions.specs.Walked.{Says}
use Rattle.expressions.proofs.walk.type_words.enumeration.Goals as goal
use Rattle.expressions.proofs.walk.type_words.enumeration.Goals.{in-Some-Enum, in-None+in_ok-declare_enum-in-None}
use Rattle.expressions.proofs.TypeWords.{whole_at, enum_words, new_enum, enum_of_struct, tag_known, walked_as}

pub returns-in-Some-Struct : goal.returns-in-Some-Struct
returns-in-Some-Struct c = λ abi.
    let tag = c.args.tag.now in
    let old = c.args.context.now in
    let arm = c.in-Some-Struct in
    walked_as (Says abi (λ o. WordsAre (EnumWords (Some tag) None) o)) a_type old old c.other_kind.result (Refused (fault tag.place (Rule 2))) c.other_kind.ensures
    (enum_of_struct abi old old tag arm.field-0-0 arm.field-0-1
    (tag_known old.environment tag.name _ c.tag.result _ c.as_slice.ensures c.tag.ensures (arm.is ∙ ap Some arm.field-0-is)))

pub returns-in-Ok : goal.returns-in-Ok
returns-in-Ok c = λ abi.
    let tag = c.args.tag.now in
    let old = c.args.context.now in
    let new = c.integer.new.self in
    let number = c.in-Ok.ctype in
    let numbers : Numbers (λ n. int_type) c.match-tag.context new number = c.in-Ok.ensures in
    walked_as (Says abi (λ o. WordsAre (EnumWords (Some tag) None) o)) a_type old new c.whole.result (Passes (whole_at number)) c.whole.ensures
    (elim c.match-tag.branch [
      | in-Some-Enum w ↦
          let arm = w.in-Some-Enum in
          enum_words abi old new tag arm.field-0-0 number
          (tag_known old.environment tag.name _ c.tag.result _ c.as_slice.ensures c.tag.ensures (arm.is ∙ ap Some arm.field-0-is))
          (subst (λ (mid : Context). Numbers (λ n. int_type) mid new number) w.context-is numbers)
      | in-None+in_ok-declare_enum-in-None w ↦
          let after = w.in_ok-declare_enum-in-None.ensures in
          new_enum abi old new c.match-tag.context tag number
          (tag_known old.environment tag.name _ c.tag.result _ c.as_slice.ensures c.tag.ensures w.in-None.is)
          (ap declared w.context-is ∙ (after.ok ∙ ap (λ (name : List ℕ). enum_declared name (declared old)) w.as_slice-in-None.ensures))
          (ap (λ (mid : Context). mid.types) w.context-is ∙ after.types) (ap (λ (mid : Context). mid.handed) w.context-is ∙ after.handed) numbers
    ])
