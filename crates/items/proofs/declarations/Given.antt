-- The type that a name is given, and what is found of it, by its sizes.
use Rattle.std.proofs.Common.{◌≡◌, ℕ, ◌∙◌, true, false, List, [], ◌∷◌, drop, sym, ap, refl}
use Rattle.typing.specs.declared.environment.entity.DeclaredType.TheVariants.{Whole, UnsizedArray}
use Rattle.typing.specs.declared.size.Size.{Size}
use Rattle.typing.specs.declared.size.Size.TheVariants.{Counted, NotConstant, LeftOut}
use Rattle.typing.specs.Declarations.{found_in_sizes, given_type}
use Rattle.typing.specs.Entities.{WholeType, ItemsOf}
use Rattle.typing.specs.NamedTypes.{NamedType, found_of_sizes, with_sizes, with_stars}
use Rattle.expressions.specs.declared.named_type.NamedType.{NamedType as NamedByNumber}
use Rattle.expressions.specs.Context.{Context}
use Rattle.expressions.specs.Numbers.{named_at}
use Rattle.expressions.specs.Operated.{Numbers}
use Rattle.expressions.proofs.Growth.{agrees_before_types, only_types_trans}
use Rattle.items.specs.declarations.Given.{IsGivenType, is_left_out}

type_of_items : (base : NamedType) (stars : ℕ) (sizes : List Size) → is_left_out sizes ≡ true → given_type base stars sizes ≡ ItemsOf (with_sizes (drop 1 sizes) (with_stars stars base.ctype))
type_of_items base stars [] left = cc left
type_of_items base stars (LeftOut ∷ sizes) left = refl
type_of_items base stars (Counted count ∷ sizes) left = cc left
type_of_items base stars (NotConstant ∷ sizes) left = cc left

type_of_whole : (base : NamedType) (stars : ℕ) (sizes : List Size) → is_left_out sizes ≡ false → given_type base stars sizes ≡ WholeType (with_sizes sizes (with_stars stars base.ctype))
type_of_whole base stars [] whole = refl
type_of_whole base stars (LeftOut ∷ sizes) whole = cc whole
type_of_whole base stars (Counted count ∷ sizes) whole = refl
type_of_whole base stars (NotConstant ∷ sizes) whole = refl

pub found_in_items : (sizes : List Size) → is_left_out sizes ≡ true → found_in_sizes sizes ≡ found_of_sizes (drop 1 sizes)
found_in_items [] left = refl
found_in_items (LeftOut ∷ sizes) left = refl
found_in_items (Counted count ∷ sizes) left = refl
found_in_items (NotConstant ∷ sizes) left = cc left

pub found_in_whole : (sizes : List Size) → is_left_out sizes ≡ false → found_in_sizes sizes ≡ found_of_sizes sizes
found_in_whole [] whole = refl
found_in_whole (LeftOut ∷ sizes) whole = cc whole
found_in_whole (Counted count ∷ sizes) whole = refl
found_in_whole (NotConstant ∷ sizes) whole = refl

-- the number of its type, or of that of its items
module _ (base : NamedByNumber) (stars : ℕ) (sizes : List Size) (old mid new : Context) (pointer number : ℕ)
    (first : Numbers (λ n. with_stars stars (n.ctype base.ctype)) old mid pointer) where
  pub given_items : (inner : List Size) → is_left_out sizes ≡ true → inner ≡ drop 1 sizes → Numbers (λ n. with_sizes inner (n.ctype pointer)) mid new number
      → IsGivenType base stars sizes old new (UnsizedArray number)
  given_items inner left same second = record {
    only_types = only_types_trans old mid new first.only_types second.only_types;
    below = second.below;
    meant = λ n agrees.
        ap ItemsOf (second.meant n agrees ∙ (ap (λ (these : List Size). with_sizes these (n.ctype pointer)) same
        ∙ ap (with_sizes (drop 1 sizes)) (first.meant n (agrees_before_types mid new n second.only_types agrees))))
        ∙ sym (type_of_items (named_at n base) stars sizes left);
  }

  pub given_whole : is_left_out sizes ≡ false → Numbers (λ n. with_sizes sizes (n.ctype pointer)) mid new number
      → IsGivenType base stars sizes old new (Whole number)
  given_whole whole second = record {
    only_types = only_types_trans old mid new first.only_types second.only_types;
    below = second.below;
    meant = λ n agrees.
        ap WholeType (second.meant n agrees ∙ ap (with_sizes sizes) (first.meant n (agrees_before_types mid new n second.only_types agrees)))
        ∙ sym (type_of_whole (named_at n base) stars sizes whole);
  }
