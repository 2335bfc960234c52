-- The last token of a row, and the first tokens of one.
use Rattle.std.proofs.Common.{◌≡◌, ℕ, suc, ◌-◌, ◌≤◌, List, [], ◌∷◌, length, get_or, ap, ◌∙◌, arith}
use Rattle.cgrammar.specs.Terminals.{Terminal, last_place}

pub place_at_last : (row : List Terminal) (last : Terminal) → 1 ≤ length row → last ≡ get_or row (length row - 1) last
    → last.place ≡ last_place row
place_at_last [] last some is = absurd (omega (arith, some))
place_at_last (only ∷ []) last some is = ap (λ (token : Terminal). token.place) is
place_at_last (first ∷ (next ∷ row)) last some is =
    let back : length (first ∷ (next ∷ row)) - 1 ≡ suc (length (next ∷ row) - 1) = omega arith in
    place_at_last (next ∷ row) last (omega arith) (is ∙ ap (λ (at : ℕ). get_or (first ∷ (next ∷ row)) at last) back)
