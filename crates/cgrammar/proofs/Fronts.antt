-- The fronts of rows: what stands before the rest, its first and its last place, and its stars.
use Rattle.std.proofs.Common.{◌≡◌, ℕ, zero, suc, ◌+◌, ◌-◌, ◌≤◌, Bool, true, false, List, [], ◌∷◌, ◌++◌, take, drop, length, refl, ap, ◌∙◌, arith, codes, cond}
use Rattle.std.proofs.Math.Seq.{take-append_seam, drop-append_seam}
use Rattle.std.proofs.lemmas.List.{length-append}
use Rattle.std.specs.List.{prefix_len}
use Rattle.cgrammar.proofs.StarRows.{stars_spelled}
use Rattle.cgrammar.proofs.Truth.{and-left, and-right}
use Rattle.cgrammar.specs.FrontOf.{front_of}
use Rattle.cgrammar.specs.Terminals.{Terminal, is_mark, are_stars, AreStars, last_place}

pub take_front : (xs ys : List Terminal) → take (length xs) (xs ++ ys) ≡ xs
take_front xs ys = take-append_seam xs ys

pub drop_front : (xs ys : List Terminal) → drop (length xs) (xs ++ ys) ≡ ys
drop_front xs ys = drop-append_seam xs ys

pub take_and_drop : (n : ℕ) (xs : List Terminal) → take n xs ++ drop n xs ≡ xs
take_and_drop zero xs = refl
take_and_drop (suc n) [] = refl
take_and_drop (suc n) (x ∷ xs) = ap (λ (zs : List Terminal). x ∷ zs) (take_and_drop n xs)

pub front_of_both : (xs rest : List Terminal) → front_of (xs ++ rest) rest ≡ xs
front_of_both xs rest =
    let whole = length-append xs rest in
    let front : length (xs ++ rest) - length rest ≡ length xs = omega (arith, whole) in
    ap (λ (n : ℕ). take n (xs ++ rest)) front ∙ take-append_seam xs rest

-- places
pub last_place_of_both : (xs : List Terminal) (last : Terminal) (ys : List Terminal) → last_place (xs ++ (last ∷ ys)) ≡ last_place (last ∷ ys)
last_place_of_both [] last ys = refl
last_place_of_both (first ∷ []) last ys = refl
last_place_of_both (first ∷ (next ∷ xs)) last ys = last_place_of_both (next ∷ xs) last ys

pub last_place_of_nonempty : (xs ys : List Terminal) → 1 ≤ length ys → last_place (xs ++ ys) ≡ last_place ys
last_place_of_nonempty xs [] some = absurd (omega (arith, some))
last_place_of_nonempty xs (last ∷ ys) some = last_place_of_both xs last ys

-- the row does not begin with a star
abbrev begins_no_star : List Terminal → Bool
begins_no_star [] = true
begins_no_star (first ∷ others) = cond (is_mark (codes "*") first) false true

no_star_counts_nothing : (rest : List Terminal) → begins_no_star rest ≡ true → prefix_len (is_mark (codes "*")) rest ≡ 0
no_star_counts_nothing [] is = refl
no_star_counts_nothing (first ∷ others) is = step (is_mark (codes "*") first) is
  where
    step : (star : Bool) → cond star false true ≡ true → cond star (1 + prefix_len (is_mark (codes "*")) others) 0 ≡ 0
    step true s = cc s
    step false s = refl

stars_counted : (xs rest : List Terminal) → AreStars xs → prefix_len (is_mark (codes "*")) rest ≡ 0 → prefix_len (is_mark (codes "*")) (xs ++ rest) ≡ length xs
stars_counted [] rest stars none = none
stars_counted (first ∷ xs) rest stars none =
    let star = and-left (is_mark (codes "*") first) (are_stars xs) stars in
    let others = stars_counted xs rest (and-right (is_mark (codes "*") first) (are_stars xs) stars) none in
    rw star (omega (arith, others))

pub stars_before_nothing : (xs : List Terminal) → AreStars xs → prefix_len (is_mark (codes "*")) (xs ++ []) ≡ length xs
stars_before_nothing xs stars = stars_counted xs [] stars refl

pub stars_before : (xs : List Terminal) (next : Terminal) (rest : List Terminal) → AreStars xs → is_mark (codes "*") next ≡ false → prefix_len (is_mark (codes "*")) (xs ++ (next ∷ rest)) ≡ length xs
stars_before xs next rest stars other = stars_counted xs (next ∷ rest) stars (no_star_counts_nothing (next ∷ rest) (ap (λ (star : Bool). cond star false true) other))

pub stars_are_stars : (row : List Terminal) → AreStars (take (prefix_len (is_mark (codes "*")) row) row)
stars_are_stars row = stars_spelled row

pub stars_within : (row : List Terminal) → prefix_len (is_mark (codes "*")) row ≤ length row
stars_within [] = omega arith
stars_within (first ∷ others) = step (is_mark (codes "*") first) (stars_within others)
  where
    step : (star : Bool) → prefix_len (is_mark (codes "*")) others ≤ length others → cond star (1 + prefix_len (is_mark (codes "*")) others) 0 ≤ length (first ∷ others)
    step true inside = omega (arith, inside)
    step false inside = omega arith

abbrev first_or : Terminal → List Terminal → Terminal
first_or other [] = other
first_or other (token ∷ tokens) = token

same_first : (a b : Terminal) (xs ys : List Terminal) → a ∷ xs ≡ b ∷ ys → a ≡ b
same_first a b xs ys is = ap (first_or a) is
