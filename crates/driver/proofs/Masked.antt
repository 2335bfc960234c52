-- The masks that stand at a point.
use Rattle.std.proofs.Common.{◌≡◌, ℕ, ◌<◌, Bool, true, false, ◌&&◌, List, [], ◌∷◌, Some, refl, sym, ap, ◌∙◌, length, get_or, nat_eq}
use Rattle.std.specs.Prelude.{slice_get}
use Rattle.std.proofs.lemmas.Bool.{false≢true, eqb-true}
use Rattle.std.proofs.lemmas.Option.{slice_get-get_or}
use Rattle.cover.specs.declared.cells.Cell.{Cell}
use Rattle.driver.specs.declared.mask.Mask.{Mask}
use Rattle.driver.specs.Peers.{HasMask}
use Rattle.driver.specs.SameCells.{is_same_cell, are_same_cells}

both : (one other : Bool) → (one && other) ≡ true → (one ≡ true) × (other ≡ true)
both true other is = (refl, is)
both false other is = absurd (false≢true is)

-- what is found to be the same is
pub same_cell : (one other : Cell) → is_same_cell one other ≡ true → one ≡ other
same_cell one other is =
    let first = both (nat_eq one.variable other.variable) (nat_eq one.at other.at && nat_eq one.size other.size) is in
    let second = both (nat_eq one.at other.at) (nat_eq one.size other.size) first.1 in
    ap (λ (n : ℕ). cell n one.at one.size) (eqb-true one.variable other.variable first.0)
    ∙ (ap (λ (n : ℕ). cell other.variable n one.size) (eqb-true one.at other.at second.0) ∙ ap (λ (n : ℕ). cell other.variable other.at n) (eqb-true one.size other.size second.1))
  where
    cell : ℕ → ℕ → ℕ → Cell
    cell variable at size = record { variable = variable; at = at; size = size }

pub same_cells : (ones others : List Cell) → are_same_cells ones others ≡ true → ones ≡ others
same_cells [] [] is = refl
same_cells [] (other ∷ others) is = absurd (false≢true is)
same_cells (one ∷ ones) [] is = absurd (false≢true is)
same_cells (one ∷ ones) (other ∷ others) is =
    let parts = both (is_same_cell one other) (are_same_cells ones others) is in
    ap (λ (cell : Cell). cell ∷ ones) (same_cell one other parts.0) ∙ ap (λ (cells : List Cell). other ∷ cells) (same_cells ones others parts.1)

-- where a mask is looked up
pub mask_found : (masks slice : List Mask) (number : ℕ) (mask : Mask) → slice ≡ masks → number < length slice → mask ≡ get_or slice number mask → slice_get masks number ≡ Some mask
mask_found masks slice number mask same within is =
    ap (λ (x : List Mask). slice_get x number) (sym same) ∙ (slice_get-get_or slice number mask within ∙ ap (λ (m : Mask). Some m) (sym is))

-- a mask that stands at the point and has the cells
pub has_there : (masks : List Mask) (number point : ℕ) (mask : Mask) (theirs cells : List Cell) (same : Bool) → slice_get masks number ≡ Some mask → mask.point ≡ point → theirs ≡ mask.cells →
    same ≡ are_same_cells theirs cells → same ≡ true → HasMask masks point cells
has_there masks number point mask theirs cells same stands point_is theirs_are same_is is =
    record { number = number; mask = mask; stands = stands; point_is = point_is; cells_are = sym theirs_are ∙ same_cells theirs cells (sym same_is ∙ is) }
