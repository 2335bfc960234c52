-- A row in which no token is passed over.
use Rattle.std.proofs.Common.{◌≡◌, ℕ, Bool, true, false, List, [], ◌∷◌, refl, ap}
use Rattle.ctokens.specs.declared.symbol.Lexeme.{Lexeme}
use Rattle.ctokens.specs.ItemRows.{are_kept, kept}
use Rattle.ctokens.specs.Symbol.{is_passed_over}

-- such a row is kept whole
pub all_kept : (row : List (Lexeme ℕ)) → are_kept row ≡ true → kept row ≡ row
all_kept [] are = refl
all_kept (token ∷ row) are = step (is_passed_over token.symbol) refl (λ rest. all_kept row rest)
  where
    step : (passed : Bool) → is_passed_over token.symbol ≡ passed → (are_kept row ≡ true → kept row ≡ row) → kept (token ∷ row) ≡ token ∷ row
    step true is others = absurd (cc (are, is))
    step false is others =
        let rest : are_kept row ≡ true = cc (are, is) in
        rw is (ap (λ (r : List (Lexeme ℕ)). token ∷ r) (others rest))
