-- What a vector of bytes says of the list that it is a part of.
use Rattle.std.proofs.Common.{◌≡◌, ℕ, zero, suc, ◌+◌, ◌*◌, ◌%◌, ◌<◌, ◌≤◌, max, Bool, true, false, cond, not, eqb, ltb, List, [], ◌∷◌, ◌++◌, length, take, drop, map, replicate, refl, ap, sym, ◌∙◌, arith, w8, eq-eqb, eqb-true}
use Rattle.std.specs.Prelude.{nat_le, nat_eq, IsTrue, ◌↔◌, ◌&&◌}
use Rattle.std.specs.List.{prefix_len}
use lib.Lanes.{zip2, sel_l, mask_l, top, chunk}
use Rattle.std.proofs.lemmas.Bool.{lt-leb, le-leb, ltb-true, ltb-false, ne_eqb}
use Rattle.std.proofs.Math.Dec.{eqb-suc-zero}
use Rattle.std.proofs.lemmas.List.Folds.{prefix_len-append}
use Rattle.std.proofs.lemmas.Simd.{length-chunk, chunk-drop, length-replicate, length-zip2, tops_compared, mask_l-mod, zip2_splat, zip2_splat_left}
use Rattle.planes.specs.Classes.{highest}
use Rattle.planes.specs.Lanes.{are_at_most}

not_below_by : (class x : ℕ) (b : Bool) → ltb class x ≡ b → nat_le x class ≡ not b
not_below_by class x true is = lt-leb x class (ltb-true class x is)
not_below_by class x false is = le-leb x class (ltb-false class x is)

not_below : (class x : ℕ) → nat_le x class ≡ not (ltb class x)
not_below class x = not_below_by class x (ltb class x) refl

twice_not : (b : Bool) → b ≡ not (not b)
twice_not true = refl
twice_not false = refl

same_or_not : (class x : ℕ) → nat_eq x class ≡ not (not (eqb x class))
same_or_not class x = twice_not (eqb x class)

double_zero : (m : ℕ) → eqb (0 + 2 * m) 0 ≡ eqb m 0
double_zero zero = refl
double_zero (suc m) =
    let some : 0 + 2 * suc m ≡ suc (1 + 2 * m) = omega arith in
    ap (λ n. eqb n 0) some ∙ eqb-suc-zero (1 + 2 * m) ∙ sym (eqb-suc-zero m)

-- no bit of a mask is set where no test passes
bit_of_none : (p q : ℕ → Bool) (x : ℕ) (xs : List ℕ) (b : Bool) → p x ≡ b → q x ≡ not b → (IsTrue (eqb (mask_l (map p xs)) 0) → prefix_len q xs ≡ length xs) → IsTrue (eqb (cond b 1 0 + 2 * mask_l (map p xs)) 0) → prefix_len q (x ∷ xs) ≡ suc (length xs)
bit_of_none p q x xs true bit test rest none = absurd (omega (arith, eqb-true (1 + 2 * mask_l (map p xs)) 0 none))
bit_of_none p q x xs false bit test rest none =
    let zero_mask : mask_l (map p xs) ≡ 0 = omega (arith, eqb-true (0 + 2 * mask_l (map p xs)) 0 none) in
    let more : prefix_len q (x ∷ xs) ≡ 1 + prefix_len q xs = rw test refl in
    let all : prefix_len q xs ≡ length xs = rest (eq-eqb _ _ zero_mask) in
    omega arith

none_of_mask : (p q : ℕ → Bool) → ((x : ℕ) → q x ≡ not (p x)) → (xs : List ℕ) → IsTrue (eqb (mask_l (map p xs)) 0) → prefix_len q xs ≡ length xs
none_of_mask p q is [] none = refl
none_of_mask p q is (x ∷ xs) none =
    let bit : IsTrue (eqb (cond (p x) 1 0 + 2 * mask_l (map p xs)) 0) = none in
    bit_of_none p q x xs (p x) refl (is x) (none_of_mask p q is xs) bit

mask_of_bit : (p q : ℕ → Bool) (x : ℕ) (xs : List ℕ) (b : Bool) → q x ≡ not b → (prefix_len q xs ≡ length xs → mask_l (map p xs) ≡ 0) → prefix_len q (x ∷ xs) ≡ suc (length xs) → cond b 1 0 + 2 * mask_l (map p xs) ≡ 0
mask_of_bit p q x xs true test rest long =
    let none : prefix_len q (x ∷ xs) ≡ 0 = rw test refl in absurd (omega arith)
mask_of_bit p q x xs false test rest long =
    let more : prefix_len q (x ∷ xs) ≡ 1 + prefix_len q xs = rw test refl in
    let zero_mask : mask_l (map p xs) ≡ 0 = rest (omega arith) in
    omega arith

mask_of_none : (p q : ℕ → Bool) → ((x : ℕ) → q x ≡ not (p x)) → (xs : List ℕ) → prefix_len q xs ≡ length xs → mask_l (map p xs) ≡ 0
mask_of_none p q is [] long = refl
mask_of_none p q is (x ∷ xs) long = mask_of_bit p q x xs (p x) (is x) (mask_of_none p q is xs) long

-- a comparison of each byte with one class, as a mask
pub compared : (f : ℕ → ℕ → Bool) (xs ys : List ℕ) → length ys ≡ 32 → length xs ≡ 32 → mask_l (map (top 7) (zip2 (λ a b. cond (f a b) 255 0) xs ys)) % 18446744073709551616 ≡ mask_l (zip2 f xs ys)
compared f xs ys long other =
    ap (λ ms. mask_l ms % 18446744073709551616) (tops_compared w8 f xs ys)
    ∙ mask_l-mod (zip2 f xs ys) 64 (omega (arith, length-zip2 f xs ys (omega arith)))

pub is_low : (class : ℕ) (xs : List ℕ) → length xs ≡ 32 → IsTrue (eqb (mask_l (map (top 7) (zip2 (λ a b. cond (ltb a b) 255 0) (replicate 32 class) xs)) % 18446744073709551616) 0) ↔ (prefix_len (λ other. nat_le other class) xs ≡ 32)
is_low class xs long =
    let q : ℕ → Bool = λ other. nat_le other class in
    let p : ℕ → Bool = λ other. ltb class other in
    let mask = compared ltb (replicate 32 class) xs long (length-replicate 32 class) ∙ ap mask_l (zip2_splat_left ltb class 32 xs long) in (
      λ none. none_of_mask p q (not_below class) xs (sym (ap (λ m. eqb m 0) mask) ∙ none) ∙ long,
      λ all. eq-eqb _ _ (mask ∙ mask_of_none p q (not_below class) xs (all ∙ sym long)),
    )

pub is_same : (class : ℕ) (xs : List ℕ) → length xs ≡ 32 → IsTrue (eqb (mask_l (map (top 7) (zip2 (λ a b. cond (not (eqb a b)) 255 0) xs (replicate 32 class))) % 18446744073709551616) 0) ↔ (prefix_len (λ other. nat_eq other class) xs ≡ 32)
is_same class xs long =
    let q : ℕ → Bool = λ other. nat_eq other class in
    let p : ℕ → Bool = λ other. not (eqb other class) in
    let mask = compared (λ a b. not (eqb a b)) xs (replicate 32 class) (length-replicate 32 class) long ∙ ap mask_l (zip2_splat (λ a b. not (eqb a b)) xs 32 class long) in (
      λ none. none_of_mask p q (same_or_not class) xs (sym (ap (λ m. eqb m 0) mask) ∙ none) ∙ long,
      λ all. eq-eqb _ _ (mask ∙ mask_of_none p q (same_or_not class) xs (all ∙ sym long)),
    )

-- the same of two vectors
below_bit : (class other : ℕ) (classes others : List ℕ) (b : Bool) → ltb other class ≡ b → eqb (mask_l (zip2 ltb others classes)) 0 ≡ are_at_most classes others → eqb (cond b 1 0 + 2 * mask_l (zip2 ltb others classes)) 0 ≡ (nat_le class other && are_at_most classes others)
below_bit class other classes others true bit rest =
    let high : nat_le class other ≡ false = lt-leb class other (ltb-true other class bit) in
    let some : eqb (1 + 2 * mask_l (zip2 ltb others classes)) 0 ≡ false = ne_eqb _ _ (λ is. omega arith) in
    rw high some
below_bit class other classes others false bit rest =
    let low : nat_le class other ≡ true = le-leb class other (ltb-false other class bit) in
    rw low (double_zero (mask_l (zip2 ltb others classes)) ∙ rest)

pub is_below : (classes others : List ℕ) → length classes ≡ length others → eqb (mask_l (zip2 ltb others classes)) 0 ≡ are_at_most classes others
is_below [] [] same = refl
is_below [] (other ∷ others) same = absurd (omega arith)
is_below (class ∷ classes) [] same = absurd (omega arith)
is_below (class ∷ classes) (other ∷ others) same =
    let rest : eqb (mask_l (zip2 ltb others classes)) 0 ≡ are_at_most classes others = is_below classes others (omega arith) in
    below_bit class other classes others (ltb other class) refl rest

higher_bit : (class other : ℕ) (b : Bool) → ltb class other ≡ b → cond b other class ≡ max class other
higher_bit class other true bit = let low : class < other = ltb-true class other bit in omega arith
higher_bit class other false bit = let low : other ≤ class = ltb-false class other bit in omega arith

pub is_higher : (classes others : List ℕ) → length classes ≡ length others → sel_l (zip2 ltb classes others) others classes ≡ highest classes others
is_higher [] [] same = refl
is_higher [] (other ∷ others) same = absurd (omega arith)
is_higher (class ∷ classes) [] same = absurd (omega arith)
is_higher (class ∷ classes) (other ∷ others) same =
    ap (λ x. x ∷ sel_l (zip2 ltb classes others) others classes) (higher_bit class other (ltb class other) refl)
    ∙ ap (λ xs. max class other ∷ xs) (is_higher classes others (omega arith))

-- a vector that passes is gone over
pub passed : (p : ℕ → Bool) (xs : List ℕ) (at : ℕ) → at + 32 ≤ length xs → prefix_len p (take 32 (drop at xs)) ≡ 32 → prefix_len p (drop at xs) ≡ 32 + prefix_len p (drop (at + 32) xs)
passed p xs at within all =
    let long : length (chunk at 32 xs) ≡ 32 = length-chunk at 32 xs within in
    let whole : eqb (prefix_len p (chunk at 32 xs)) (length (chunk at 32 xs)) ≡ true = eq-eqb _ _ (all ∙ sym long) in
    ap (prefix_len p) (chunk-drop at 32 xs) ∙ prefix_len-append p (chunk at 32 xs) (drop (at + 32) xs) ∙ rw whole (ap (λ n. n + prefix_len p (drop (at + 32) xs)) long)

both_parts : (b : Bool) (classes others more more_others : List ℕ) → are_at_most (classes ++ more) (others ++ more_others) ≡ (are_at_most classes others && are_at_most more more_others) → (b && are_at_most (classes ++ more) (others ++ more_others)) ≡ ((b && are_at_most classes others) && are_at_most more more_others)
both_parts true classes others more more_others rest = rest
both_parts false classes others more more_others rest = refl

at_most_parts : (classes others more more_others : List ℕ) → length classes ≡ length others → are_at_most (classes ++ more) (others ++ more_others) ≡ (are_at_most classes others && are_at_most more more_others)
at_most_parts [] [] more more_others same = refl
at_most_parts [] (other ∷ others) more more_others same = absurd (omega arith)
at_most_parts (class ∷ classes) [] more more_others same = absurd (omega arith)
at_most_parts (class ∷ classes) (other ∷ others) more more_others same =
    both_parts (nat_le class other) classes others more more_others (at_most_parts classes others more more_others (omega arith))

-- two vectors, and what stands behind them
pub both_passed : (left right : List ℕ) (at : ℕ) (b : Bool) → at + 32 ≤ length left → at + 32 ≤ length right → b ≡ are_at_most (take 32 (drop at left)) (take 32 (drop at right)) → are_at_most (drop at left) (drop at right) ≡ (b && are_at_most (drop (at + 32) left) (drop (at + 32) right))
both_passed left right at b room other_room is =
    ap (λ xs. are_at_most xs (drop at right)) (chunk-drop at 32 left)
    ∙ ap (λ ys. are_at_most (chunk at 32 left ++ drop (at + 32) left) ys) (chunk-drop at 32 right)
    ∙ at_most_parts (chunk at 32 left) (chunk at 32 right) (drop (at + 32) left) (drop (at + 32) right) (length-chunk at 32 left room ∙ sym (length-chunk at 32 right other_room))
    ∙ ap (λ t. t && are_at_most (drop (at + 32) left) (drop (at + 32) right)) (sym is)
