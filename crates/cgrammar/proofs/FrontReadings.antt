-- What is read at the front of a row is what the grammar says of it.
use Rattle.std.proofs.Common.{◌≡◌, ◌↔◌, ◌&&◌, not, List, [], ◌∷◌, codes, refl, IsTrue}
use Rattle.cgrammar.specs.Scope.{Names}
use Rattle.cgrammar.specs.Terminals.{Terminal, is_mark, is_name, is_typedef}
use Rattle.cgrammar.specs.FrontReadings.{BeginsWithLabel, begins_with_label}
use Rattle.cgrammar.proofs.Truth.{and-left, and-right, and-both}

pub label_exact : (scopes : List Names) (row : List Terminal) → IsTrue (begins_with_label scopes row) ↔ BeginsWithLabel scopes row
label_exact scopes [] = ((λ is. cc is), (λ label. cc label.2))
label_exact scopes (label ∷ []) = ((λ is. cc is), (λ front. cc front.2))
label_exact scopes (label ∷ (colon ∷ others)) = (found, spelled)
  where
    found : IsTrue (begins_with_label scopes (label ∷ (colon ∷ others))) → BeginsWithLabel scopes (label ∷ (colon ∷ others))
    found is =
        let rest = and-right (is_name label) (not (is_typedef scopes label) && is_mark (codes ":") colon) is in
        (label, colon, refl, and-left (is_name label) (not (is_typedef scopes label) && is_mark (codes ":") colon) is, and-left (not (is_typedef scopes label)) (is_mark (codes ":") colon) rest, and-right (not (is_typedef scopes label)) (is_mark (codes ":") colon) rest)

    spelled : BeginsWithLabel scopes (label ∷ (colon ∷ others)) → IsTrue (begins_with_label scopes (label ∷ (colon ∷ others)))
    spelled (first, second, row, named, no_type, marked) =
        let one : label ≡ first = cc row in
        let other : colon ≡ second = cc row in
        rw one (rw other (and-both named (and-both no_type marked)))
