-- What a vector read from its end has where.
use Rattle.std.proofs.Common.{◌≡◌, ℕ, suc, min, ◌≤◌, [], ◌+◌, ◌-◌, ◌<◌, List, ◌∷◌, ◌++◌, length, take, drop, get_or, reverse, refl, sym, ap, ◌∙◌, add-one, drop-cons, append-nil, arith}
use Rattle.std.proofs.lemmas.List.{length-append, length-reverse, get_or-reverse, take-append-drop, take_all, take_at, take_min, drop_all, drop_at, drop_min, reverse-append, length-drop}
use Rattle.std.proofs.Math.Seq.{drop-append_seam}

pub length_reverse : {X : Type 0} (xs : List X) → length (reverse xs) ≡ length xs
length_reverse xs = length-reverse xs

pub length_is : {X : Type 0} (xs : List X) (at : ℕ) → at < length (reverse xs) → at < length xs
length_is xs at inside = rw (← length-reverse xs) inside

pub found_behind : {X : Type 0} (xs : List X) (at : ℕ) (x : X) → at < length (reverse xs) → x ≡ get_or xs (length xs - 1 - at) x →
    drop at (reverse xs) ≡ x ∷ drop (at + 1) (reverse xs)
found_behind {X} xs at x inside is =
    let there : x ≡ get_or (reverse xs) at x = is ∙ sym (get_or-reverse xs at x (length_is xs at inside)) in
    drop-cons (reverse xs) at x inside ∙ (ap (λ (y : X). y ∷ drop (suc at) (reverse xs)) (sym there) ∙ ap (λ (n : ℕ). x ∷ drop n (reverse xs)) (sym (add-one at)))

pub first_pushed : {X : Type 0} (xs : List X) (count : ℕ) → reverse (take count xs) ≡ drop (length (reverse xs) - count) (reverse xs)
first_pushed {X} xs count =
    let parts : reverse (drop count xs) ++ reverse (take count xs) ≡ reverse xs =
    sym (reverse-append (take count xs) (drop count xs)) ∙ ap reverse (take-append-drop count xs) in
    let behind : length (reverse (drop count xs)) ≡ length (reverse xs) - count =
    length-reverse (drop count xs) ∙ length-drop count xs ∙ ap (λ (n : ℕ). n - count) (sym (length-reverse xs)) in
    sym (drop-append_seam (reverse (drop count xs)) (reverse (take count xs)))
    ∙ ap (λ (ys : List X). drop (length (reverse (drop count xs))) ys) parts
    ∙ ap (λ (n : ℕ). drop n (reverse xs)) behind

-- the items from a place on are turned round
pub turned_round : {X : Type 0} (xs : List X) (count : ℕ) →
    reverse (take (length xs - count) xs ++ reverse (drop (length xs - count) xs)) ≡ reverse (take count (reverse xs)) ++ drop count (reverse xs)
turned_round {X} xs count =
    let first : List X = take (length xs - count) xs in
    let last : List X = drop (length xs - count) xs in
    let parts : reverse xs ≡ reverse last ++ reverse first = ap reverse (sym (take-append-drop (length xs - count) xs)) ∙ reverse-append first last in
    let size : length (reverse last) ≡ min count (length (reverse xs)) =
    length-reverse last ∙ length-drop (length xs - count) xs ∙ omega (arith, length-reverse xs) in
    let front : take count (reverse xs) ≡ reverse last =
    sym (take_min count (reverse xs)) ∙ ap (λ (n : ℕ). take n (reverse xs)) (sym size)
    ∙ ap (take (length (reverse last))) parts ∙ take_at (reverse last) (reverse first) (length (reverse last)) refl in
    let rest : drop count (reverse xs) ≡ reverse first =
    sym (drop_min count (reverse xs)) ∙ ap (λ (n : ℕ). drop n (reverse xs)) (sym size)
    ∙ ap (drop (length (reverse last))) parts ∙ drop_at (reverse last) (reverse first) (length (reverse last)) refl in
    reverse-append first (reverse last)
    ∙ ap (λ (ys : List X). ys ++ reverse first) (ap reverse (sym front))
    ∙ ap (λ (ys : List X). reverse (take count (reverse xs)) ++ ys) (sym rest)

-- the part of a vector behind a place is the whole rest of it
rest_alone : {X : Type 0} (xs : List X) (from : ℕ) → from ≤ length xs → take (length xs - from) (drop from xs) ≡ drop from xs
rest_alone {X} xs from below = take_all (length xs - from) (drop from xs) (omega (arith, length-drop from xs))

nothing_behind : {X : Type 0} (xs : List X) (from : ℕ) → from ≤ length xs → drop (length xs - from) (drop from xs) ≡ []
nothing_behind {X} xs from below = drop_all (length xs - from) (drop from xs) (omega (arith, length-drop from xs))

pub turned_part : {X : Type 0} (xs ys part behind now : List X) (from len count : ℕ) → ys ≡ xs → len ≡ length xs → from ≡ len - count →
    part ≡ reverse (take (length ys - from) (drop from ys)) → behind ≡ drop (length ys - from) (drop from ys) → now ≡ reverse xs →
    reverse (take from ys ++ (part ++ behind)) ≡ reverse (take count now) ++ drop count now
turned_part {X} xs ys part behind now from len count same len_is from_is part_is behind_is now_is =
    let below : from ≤ length ys = omega (arith, from_is, len_is, ap length same) in
    let where_is : from ≡ length xs - count = from_is ∙ ap (λ (n : ℕ). n - count) len_is in
    let whole : part ++ behind ≡ reverse (drop from ys) =
    ap (λ (front : List X). front ++ behind) (part_is ∙ ap reverse (rest_alone ys from below))
    ∙ ap (λ (rest : List X). reverse (drop from ys) ++ rest) (behind_is ∙ nothing_behind ys from below) ∙ append-nil (reverse (drop from ys)) in
    ap (λ (rest : List X). reverse (take from ys ++ rest)) whole
    ∙ ap (λ (items : List X). reverse (take from items ++ reverse (drop from items))) same
    ∙ ap (λ (n : ℕ). reverse (take n xs ++ reverse (drop n xs))) where_is
    ∙ turned_round xs count
    ∙ ap (λ (items : List X). reverse (take count items) ++ drop count items) (sym now_is)

all_there : {X : Type 0} (now : List X) (count : ℕ) → length (reverse (take count now) ++ drop count now) ≡ length now
all_there now count =
    length-append (reverse (take count now)) (drop count now) ∙ ap (λ (n : ℕ). n + length (drop count now)) (length-reverse (take count now))
    ∙ sym (length-append (take count now) (drop count now)) ∙ ap length (take-append-drop count now)

pub turned_length : {X : Type 0} (xs items now : List X) (count : ℕ) → reverse items ≡ reverse (take count now) ++ drop count now → now ≡ reverse xs →
    length items ≡ length xs
turned_length xs items now count turned now_is =
    sym (length-reverse items) ∙ ap length turned ∙ all_there now count ∙ ap length now_is ∙ length-reverse xs
