-- A list of bytes that is written over from the front on.
use Rattle.std.proofs.Common.{◌≡◌, ℕ, zero, suc, ◌+◌, ◌-◌, ◌<◌, ◌≤◌, max, List, [], ◌∷◌, length, get_or, set, take, drop, replicate, refl, ap, sym, ◌∙◌, arith, ⊎_elim, get_or-set_same, get_or-set_other, length-set}
use lib.Lanes.{chunk, put_chunk}
use Rattle.std.proofs.lemmas.Bool.{cases_lt}
use Rattle.std.proofs.lemmas.List.{ext_get_or, get_or-replicate}
use Rattle.std.proofs.lemmas.Simd.{get_or-chunk, get_or-put_chunk_below, get_or-put_chunk_at, get_or-put_chunk_above, length-put_chunk, length-chunk}
use Rattle.planes.specs.Classes.{highest}
use Rattle.planes.proofs.Pairs.{length_highest}

-- the bytes before a place are those of one list, and the others those of another
pub record AreMade (at : ℕ) (bytes old new : List ℕ) : Type 0 where
  pub within : at ≤ length bytes
  pub long : length bytes ≡ length old
  pub made : (k : ℕ) → k < at → get_or bytes k 0 ≡ get_or new k 0
  pub rest : (k : ℕ) → at ≤ k → get_or bytes k 0 ≡ get_or old k 0

pub made_none : (old new : List ℕ) → AreMade 0 old old new
made_none old new = record { within = omega arith; long = refl; made = λ k before. absurd (omega arith); rest = λ k behind. refl }

-- one vector more
pub made_lanes : (at : ℕ) (bytes old new vector : List ℕ) → AreMade at bytes old new → at + 32 ≤ length bytes → length vector ≡ 32 → ((k : ℕ) → k < 32 → get_or vector k 0 ≡ get_or new (at + k) 0) → AreMade (at + 32) (put_chunk at bytes vector) old new
made_lanes at bytes old new vector is room long same = record {
  within = omega (arith, length-put_chunk at bytes vector);
  long = length-put_chunk at bytes vector ∙ is.long;
  made = λ k before.
      ⊎_elim (λ low. get_or-put_chunk_below at bytes vector k 0 low ∙ is.made k low)
      (λ high.
      let place : at + (k - at) ≡ k = omega arith in
      ap (λ n. get_or (put_chunk at bytes vector) n 0) (sym place)
      ∙ get_or-put_chunk_at at bytes vector (k - at) 0 (omega arith) (omega arith)
      ∙ same (k - at) (omega arith)
      ∙ ap (λ n. get_or new n 0) place)
      (cases_lt k at);
  rest = λ k behind. get_or-put_chunk_above at bytes vector k 0 (omega arith) ∙ is.rest k (omega arith);
}

-- one byte more
pub made_byte : (at : ℕ) (bytes old new : List ℕ) (byte : ℕ) → AreMade at bytes old new → at < length bytes → byte ≡ get_or new at 0 → AreMade (at + 1) (set bytes at byte) old new
made_byte at bytes old new byte is room same = record {
  within = omega (arith, length-set bytes at byte);
  long = length-set bytes at byte ∙ is.long;
  made = λ k before.
      ⊎_elim (λ low. let other : k ≡ at → ⊥ = λ e. omega arith in get_or-set_other bytes at k byte 0 other ∙ is.made k low)
      (λ high.
      let place : at ≡ k = omega arith in
      ap (λ n. get_or (set bytes at byte) n 0) (sym place) ∙ get_or-set_same bytes at byte 0 room ∙ same ∙ ap (λ n. get_or new n 0) place)
      (cases_lt k at);
  rest = λ k behind. let other : k ≡ at → ⊥ = λ e. omega arith in get_or-set_other bytes at k byte 0 other ∙ is.rest k (omega arith);
}

-- all of them
pub made_all : (at : ℕ) (bytes old new : List ℕ) → AreMade at bytes old new → length bytes ≤ at → length new ≡ length old → bytes ≡ new
made_all at bytes old new is end long =
    ext_get_or 0 bytes new (is.long ∙ sym long) (λ k before. is.made k (omega (arith, is.within)))

-- the vector of one class
pub class_lane : (n at class k : ℕ) → at + 32 ≤ n → k < 32 → get_or (replicate 32 class) k 0 ≡ get_or (replicate n class) (at + k) 0
class_lane n at class k room before = get_or-replicate 32 k class 0 before ∙ sym (get_or-replicate n (at + k) class 0 (omega arith))

-- the greater classes
pub get_or_highest : (xs ys : List ℕ) (k : ℕ) → length xs ≡ length ys → get_or (highest xs ys) k 0 ≡ max (get_or xs k 0) (get_or ys k 0)
get_or_highest [] [] k same = refl
get_or_highest [] (y ∷ ys) k same = absurd (omega arith)
get_or_highest (x ∷ xs) [] k same = absurd (omega arith)
get_or_highest (x ∷ xs) (y ∷ ys) zero same = refl
get_or_highest (x ∷ xs) (y ∷ ys) (suc k) same = get_or_highest xs ys k (omega arith)

pub highest_lane : (at k : ℕ) (bytes old others vector : List ℕ) → AreMade at bytes old (highest old others) → length old ≡ length others → at + 32 ≤ length bytes → vector ≡ highest (take 32 (drop at bytes)) (take 32 (drop at others)) → k < 32 → get_or vector k 0 ≡ get_or (highest old others) (at + k) 0
highest_lane at k bytes old others vector is same room lanes before =
    let long : length (chunk at 32 bytes) ≡ 32 = length-chunk at 32 bytes room in
    let other_room : at + 32 ≤ length others = omega (arith, is.long) in
    let other_long : length (chunk at 32 others) ≡ 32 = length-chunk at 32 others other_room in
    ap (λ xs. get_or xs k 0) lanes
    ∙ get_or_highest (chunk at 32 bytes) (chunk at 32 others) k (long ∙ sym other_long)
    ∙ ap (λ x. max x (get_or (chunk at 32 others) k 0)) (get_or-chunk at 32 bytes k 0 before ∙ is.rest (at + k) (omega arith))
    ∙ ap (λ y. max (get_or old (at + k) 0) y) (get_or-chunk at 32 others k 0 before)
    ∙ sym (get_or_highest old others (at + k) same)

pub highest_length : (at : ℕ) (bytes others : List ℕ) → at + 32 ≤ length bytes → at + 32 ≤ length others → length (highest (take 32 (drop at bytes)) (take 32 (drop at others))) ≡ 32
highest_length at bytes others room other_room =
    let long : length (chunk at 32 bytes) ≡ 32 = length-chunk at 32 bytes room in
    let other_long : length (chunk at 32 others) ≡ 32 = length-chunk at 32 others other_room in
    length_highest (chunk at 32 bytes) (chunk at 32 others) (long ∙ sym other_long) ∙ long

pub highest_byte : (at byte : ℕ) (bytes old others : List ℕ) → AreMade at bytes old (highest old others) → length old ≡ length others → byte ≡ max (get_or bytes at 0) (get_or others at 0) → byte ≡ get_or (highest old others) at 0
highest_byte at byte bytes old others is same greater =
    greater ∙ ap (λ x. max x (get_or others at 0)) (is.rest at (omega arith)) ∙ sym (get_or_highest old others at same)
