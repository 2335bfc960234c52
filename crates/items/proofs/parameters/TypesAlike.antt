-- Types that numbers stand for are alike exactly where the numbers are.
use Rattle.std.proofs.Common.{◌≡◌, ◌<◌, ℕ, suc, Bool, true, false, List, [], ◌∷◌, map, length, refl, sym, ap, ◌∙◌, arith, All}
use Rattle.std.specs.Prelude.{not}
use Rattle.cbase.specs.declared.ctype.CType.{CType}
use Rattle.typing.specs.declared.environment.entity.Signature.{Signature}
use Rattle.typing.specs.environment.Bounds.{SignatureBelow}
use Rattle.typing.specs.Declarations.{AreTwo}
use Rattle.expressions.specs.Context.{Context, Agrees}
use Rattle.expressions.specs.Numbers.{Numbering}
use Rattle.expressions.proofs.Growth.{number_back, same_number}

module _ (n : Numbering) (context : Context) (agrees : Agrees n context) where
  -- the numbers of types are those that stood for them
  pub numbers_back : (numbers : List ℕ) → All (λ number. number < length context.types) numbers → map n.number (map n.ctype numbers) ≡ numbers
  numbers_back [] below = refl
  numbers_back (first ∷ numbers) below =
      let inside : 0 < length (first ∷ numbers) = omega arith in
      let here : n.number (n.ctype first) ≡ first = number_back n context first agrees (below 0 first inside) in
      let rest : map n.number (map n.ctype numbers) ≡ numbers = numbers_back numbers (λ at default within. below (suc at) default (omega (arith, within))) in
      λ i. here i ∷ rest i

  same_numbers : (first second : List ℕ) → All (λ number. number < length context.types) first → All (λ number. number < length context.types) second
      → map n.ctype first ≡ map n.ctype second → first ≡ second
  same_numbers first second below also same = sym (numbers_back first below) ∙ (ap (map n.number) same ∙ numbers_back second also)

  -- the types of two functions
  pub same_or_two : (signature : Signature) (result : ℕ) (params : List ℕ) (same : Bool)
      → SignatureBelow (length context.types) signature → result < length context.types → All (λ number. number < length context.types) params
      → (same ≡ true → (signature.result ≡ result) × (signature.parameters ≡ params))
      → (same ≡ false → (signature.result ≡ result) × (signature.parameters ≡ params) → ⊥)
      → AreTwo {A = CType × List CType} (n.ctype signature.result, map n.ctype signature.parameters) (n.ctype result, map n.ctype params) (not same)
  same_or_two signature result params true below of others alike other =
      let both = alike refl in
      λ i. (n.ctype (both.0 i), map n.ctype (both.1 i))
  same_or_two signature result params false below of others alike other = λ equal.
      other refl (
        same_number n context signature.result result agrees below.0 of (ap (λ (f : CType × List CType). f.0) equal),
        same_numbers signature.parameters params below.1 others (ap (λ (f : CType × List CType). f.1) equal),
      )
