-- What a list has after one item of it is changed.
use Rattle.std.proofs.Common.{◌≡◌, ℕ, ◌<◌, ◌⊎◌, inl, inr, List, length, get_or, sym, ap, subst, ◌∙◌, arith, Some}
use Rattle.std.specs.Prelude.{slice_get, slice_set, replicate}
use Rattle.std.proofs.lemmas.Option.{slice_get_within, slice_get-get_or, get_or_from_slice_get}
use Rattle.std.proofs.lemmas.List.{get_or-set_same, get_or-set_other, length-set, get_or-replicate, length-replicate}
use Rattle.std.proofs.lemmas.Bool.{cases_eq}

-- the item that was put there, or another one, which stands as before
pub slice_set_cases : {X : Type 0} (xs : List X) (at : ℕ) (new : X) (i : ℕ) (x : X) → slice_get (slice_set xs at new) i ≡ Some x →
    ((i ≡ at) × (new ≡ x)) ⊎ ((i ≡ at → ⊥) × (slice_get xs i ≡ Some x))
slice_set_cases xs at new i x is = by_place (cases_eq i at)
  where
    below : i < length xs
    below = let within : i < length (slice_set xs at new) = slice_get_within (slice_set xs at new) i x is in
        let long : length (slice_set xs at new) ≡ length xs = length-set xs at new in omega arith

    read : get_or (slice_set xs at new) i x ≡ x
    read = get_or_from_slice_get (slice_set xs at new) i x x is

    by_place : (i ≡ at) ⊎ (i ≡ at → ⊥) → ((i ≡ at) × (new ≡ x)) ⊎ ((i ≡ at → ⊥) × (slice_get xs i ≡ Some x))
    by_place (inl here) = inl (
      here,
      sym (get_or-set_same xs at new x (subst (λ (k : ℕ). k < length xs) here below)) ∙ (ap (λ (k : ℕ). get_or (slice_set xs at new) k x) (sym here) ∙ read),
    )
    by_place (inr other) = inr (
      other,
      slice_get-get_or xs i x below ∙ ap Some (sym (get_or-set_other xs at i new x other) ∙ read),
    )

pub slice_get-replicate : {X : Type 0} (count : ℕ) (x : X) (i : ℕ) (y : X) → slice_get (replicate count x) i ≡ Some y → x ≡ y
slice_get-replicate count x i y is =
    let within : i < length (replicate count x) = slice_get_within (replicate count x) i y is in
    let long : length (replicate count x) ≡ count = length-replicate count x in
    sym (get_or-replicate count i x y (omega arith)) ∙ get_or_from_slice_get (replicate count x) i y y is
