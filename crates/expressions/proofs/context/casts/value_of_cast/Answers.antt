-- What is no address of the offsetof idiom has the value of any cast.
use Rattle.std.proofs.Common.{◌≡◌, ◌⊎◌, ℕ, refl, sym, ap, ◌∙◌, Option, None, inl, inr}
use Rattle.typing.specs.ctypes.Kinds.{Kind, Integer, Pointer, Array, Struct, Void}
use Rattle.typing.specs.declared.idiom.Idiom.{Idiom}
use Rattle.typing.specs.declared.idiom.Idiom.TheVariants.{Outside, NullPointer, MemberAt}
use Rattle.typing.specs.Idiom.{offset_in}
use Rattle.typing.specs.Nodes.{value_of_cast}
use Rattle.typing.specs.values.Values.{cast_value}
use Rattle.expressions.proofs.context.casts.value_of_cast.Goals as goal

no_address : (idiom : Idiom) → (idiom ≡ Outside) ⊎ ((idiom ≡ NullPointer) ⊎ ((before : ℕ) × idiom ≡ MemberAt before)) → offset_in idiom ≡ None
no_address idiom (inl is) = ap offset_in is
no_address idiom (inr (inl is)) = ap offset_in is
no_address idiom (inr (inr is)) = ap offset_in is.1

any_cast : (target source : Kind) (value : Option ℕ) → cast_value target source value ≡ value_of_cast target source value None
any_cast (Integer to) source value = refl
any_cast (Pointer item target) source value = refl
any_cast (Array item target) source value = refl
any_cast (Struct number) source value = refl
any_cast Void source value = refl

pub returns-in-Outside : goal.returns-in-Outside
returns-in-Outside c = λ target source to from.
    c.cast_value.ensures target source to from
    ∙ (any_cast target source c.args.value ∙ sym (ap (λ (offset : Option ℕ). value_of_cast target source c.args.value offset) (no_address c.args.idiom c.in-Outside.is)))
