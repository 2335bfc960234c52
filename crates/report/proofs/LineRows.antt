-- Lines in a row.
use Rattle.std.proofs.Common.{◌≡◌, ℕ, List, [], ◌∷◌, ◌++◌, codes, refl, ap, sym, ◌∙◌, append_assoc}
use Rattle.report.specs.Report.{lines_text}

lines_text-append : (lines more : List (List ℕ)) → lines_text (lines ++ more) ≡ lines_text lines ++ lines_text more
lines_text-append [] more = refl
lines_text-append (line ∷ rest) more =
    ap (λ (text : List ℕ). line ++ (codes "\n" ++ text)) (lines_text-append rest more)
    ∙ sym (append_assoc line (codes "\n" ++ lines_text rest) (lines_text more))

-- the line that ends the warnings
pub lines_text_last : (lines : List (List ℕ)) (last : List ℕ) → lines_text (lines ++ last ∷ []) ≡ (lines_text lines ++ last) ++ codes "\n"
lines_text_last lines last = lines_text-append lines (last ∷ []) ∙ sym (append_assoc (lines_text lines) last (codes "\n"))
