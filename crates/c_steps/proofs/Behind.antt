-- What is left of a list behind a place.
use Rattle.std.proofs.Common.{◌≡◌, ℕ, suc, ◌+◌, ◌<◌, ◌≤◌, List, [], ◌∷◌, length, drop, get_or, refl, sym, ap, ◌∙◌, add-one, drop-cons}
use Rattle.std.proofs.Math.ListN.{drop_of_length-le}
use Rattle.std.proofs.lemmas.List.{drop-drop}

pub none_left : {X : Type 0} (xs : List X) (at : ℕ) → length xs ≤ at → drop at xs ≡ []
none_left xs at past = drop_of_length-le xs past

pub taken_once : {X : Type 0} (xs : List X) (at : ℕ) → drop (at + 1) xs ≡ drop 1 (drop at xs)
taken_once xs at = sym (drop-drop 1 at xs)

pub taken_none : {X : Type 0} (xs : List X) (at : ℕ) → length xs ≤ at → drop at xs ≡ drop 1 (drop at xs)
taken_none xs at past = rw (drop_of_length-le xs past) refl

pub first_left : {X : Type 0} (xs : List X) (at : ℕ) (x : X) → at < length xs → x ≡ get_or xs at x → drop at xs ≡ x ∷ drop 1 (drop at xs)
first_left {X} xs at x inside is =
    drop-cons xs at x inside ∙ ap (λ (y : X). y ∷ drop (suc at) xs) (sym is) ∙ ap (λ (ys : List X). x ∷ ys) (ap (λ (n : ℕ). drop n xs) (sym (add-one at)) ∙ taken_once xs at)

pub next_left : {X : Type 0} (xs : List X) (at : ℕ) (d : X) → at < length xs → drop at xs ≡ get_or xs at d ∷ drop (at + 1) xs
next_left xs at d inside = drop-cons xs at d inside ∙ ap (λ (n : ℕ). get_or xs at d ∷ drop n xs) (sym (add-one at))
