-- How many tokens stand in brackets that are open.
use Rattle.std.proofs.Common.{◌≡◌, ℕ, ◌-◌, ◌≤◌, ap, sym, ◌∙◌, List, [], ◌∷◌, Some, None, length, drop, length-drop, arith}
use Rattle.cgrammar.specs.ReadOperands.{behind_matched}
use Rattle.cgrammar.specs.Terminals.{Terminal}
use Rattle.cconstructs.specs.Finding.{inside}

pub inside_found : (row : List Terminal) (count : ℕ) → Some (drop count row) ≡ behind_matched (41 ∷ []) row → count ≤ length row
    → inside row (behind_matched (41 ∷ []) row) ≡ count - 1
inside_found row count is within =
    let front : length row - length (drop count row) ≡ count = omega (arith, length-drop count row) in
    ap (inside row) (sym is) ∙ ap (λ (n : ℕ). n - 1) front

pub inside_none : (row : List Terminal) → None ≡ behind_matched (41 ∷ []) row → inside row (behind_matched (41 ∷ []) row) ≡ 0
inside_none row is = ap (inside row) (sym is)
