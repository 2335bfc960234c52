-- Stars and sizes behind a type, one by one.
use Rattle.std.proofs.Common.{◌≡◌, ℕ, zero, suc, ◌+◌, ◌-◌, ◌<◌, ◌≤◌, List, [], ◌∷◌, ◌++◌, take, get_or, length, refl, sym, ap, ◌∙◌, arith}
use Rattle.std.proofs.lemmas.List.{take_more}
use Rattle.cbase.specs.declared.ctype.CType.{CType}
use Rattle.cbase.specs.declared.ctype.CType.TheVariants.{Pointer as PointerType, Array as ArrayType}
use Rattle.typing.specs.declared.size.Size.{Size}
use Rattle.typing.specs.NamedTypes.{with_stars, with_sizes, items}
use Rattle.expressions.specs.Context.{Context, OnlyTypes}

-- only types got numbers, twice
pub only_types_twice : (old between new : Context) → OnlyTypes old between → OnlyTypes between new → OnlyTypes old new
only_types_twice old between new first second = record {
  types = λ at t is. second.types at t (first.types at t is);
  structs = second.structs ∙ first.structs;
  environment = second.environment ∙ first.environment;
  handed = second.handed ∙ first.handed;
}

-- one star less is left
pub one_star : (left : ℕ) (t : CType) → 0 < left → with_stars (left - 1) (PointerType t) ≡ with_stars left t
one_star zero t some = absurd (omega (arith, some))
one_star (suc left) t some =
    let one_less : suc left - 1 ≡ left = omega arith in
    ap (λ (stars : ℕ). with_stars stars (PointerType t)) one_less

-- the innermost size is behind the others
with_innermost : (sizes : List Size) (size : Size) (t : CType) → with_sizes (sizes ++ size ∷ []) t ≡ with_sizes sizes (ArrayType t (items size))
with_innermost [] size t = refl
with_innermost (first ∷ sizes) size t = ap (λ (item : CType). ArrayType item (items first)) (with_innermost sizes size t)

pub one_size : (sizes : List Size) (left : ℕ) (past : Size) (t : CType) → 0 < left → left ≤ length sizes
    → with_sizes (take (left - 1) sizes) (ArrayType t (items (get_or sizes (left - 1) past))) ≡ with_sizes (take left sizes) t
one_size sizes left past t some inside =
    let before : left - 1 < length sizes = omega (arith, some, inside) in
    let same : (left - 1) + 1 ≡ left = omega (arith, some) in
    sym (with_innermost (take (left - 1) sizes) (get_or sizes (left - 1) past) t)
    ∙ (ap (λ (some_sizes : List Size). with_sizes some_sizes t) (sym (take_more sizes (left - 1) past before))
    ∙ ap (λ (count : ℕ). with_sizes (take count sizes) t) same)
