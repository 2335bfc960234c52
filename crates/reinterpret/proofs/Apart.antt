-- The address of a byte of a live block is that of no byte of another one, and not 0.
use Rattle.std.proofs.Common.{◌≡◌, ◌≢◌, ℕ, ◌+◌, ◌^◌, ◌%◌, ◌<◌, ◌≤◌, Bool, true, false, ◌&&◌, ◌||◌, not, List, length, get_or, nat_eq, nat_le, nat_lt, max, pos, Option, Some, refl, sym, ◌∙◌, ap, leb-true, ltb-true, ltb-false, arith}
use Rattle.std.specs.Prelude.{slice_get, ◌+ℤ◌}
use Rattle.std.specs.Option.{option_map_or}
use Rattle.std.proofs.lemmas.Bool.{false≢true}
use Rattle.std.proofs.lemmas.Option.{slice_get_within, get_or_from_slice_get}
use Rattle.bytes_core.specs.declared.block.Block.{Block}
use Rattle.bytes_core.specs.Placement.{extent, is_placed, are_apart, are_compatible}
use Rattle.bytes_core.specs.Valid.{IsMemory}
use Rattle.bytes_core.specs.Value.{wrapped, address_in}
use Rattle.graph.proofs.AlikeStates.{All-at}
use Rattle.graph.proofs.Tests.{and_left, and_right}

pub record IsPlaced (block : Block) : Type 0 where
  pub low : 16 ≤ block.base
  pub high : block.base + length block.bytes ≤ 2 ^ 47

pub placed_at : (memory : List Block) (number : ℕ) (block : Block) → IsMemory memory → slice_get memory number ≡ Some block → IsPlaced block
placed_at memory number block is there =
    let placed : is_placed block ≡ true = All-at (λ (block : Block). is_placed block ≡ true) memory number block there is.placed in
    let both = and_right (nat_eq (block.base % 16) 0) (nat_le 16 block.base && nat_le (block.base + extent block) (2 ^ 47)) placed in
    let low = leb-true _ _ (and_left (nat_le 16 block.base) (nat_le (block.base + extent block) (2 ^ 47)) both) in
    let high : block.base + max 16 (length block.bytes) ≤ 2 ^ 47 = leb-true _ _ (and_right (nat_le 16 block.base) (nat_le (block.base + extent block) (2 ^ 47)) both) in
    record { low = low; high = omega arith }

-- the address number of a byte of a block
pub number_inside : (memory : List Block) (number place : ℕ) (block : Block) → IsMemory memory → slice_get memory number ≡ Some block → place < length block.bytes → address_in memory number (pos place) ≡ block.base + place
number_inside memory number place block is there within =
    let placed = placed_at memory number block is there in
    let high = placed.high in
    ap (λ (o : Option Block). wrapped (pos (option_map_or (λ (found : Block). found.base) o 0) +ℤ pos place)) there
    ∙ (let small : (block.base + place) % 2 ^ 64 ≡ block.base + place = omega arith in small)

apart_from : (one other : Block) → one.live ≡ true → other.live ≡ true → are_compatible one other ≡ true → are_apart one other ≡ true
apart_from one other one_live other_live compatible =
    sym (ap (λ (b : Bool). not b || (not other.live || are_apart one other)) one_live ∙ ap (λ (b : Bool). not b || are_apart one other) other_live) ∙ compatible

no_overlap : (one other : Block) (i j : ℕ) → are_apart one other ≡ true → i < length one.bytes → j < length other.bytes → one.base + i ≢ other.base + j
no_overlap one other i j apart within within' same = by_side (nat_le (one.base + extent one) other.base) refl (nat_le (other.base + extent other) one.base) refl apart
  where
    by_side : (a : Bool) → nat_le (one.base + extent one) other.base ≡ a → (b : Bool) → nat_le (other.base + extent other) one.base ≡ b → (a || b) ≡ true → ⊥
    by_side true before b b_is any = let below : one.base + max 16 (length one.bytes) ≤ other.base = leb-true _ _ before in omega arith
    by_side false a_is true behind any = let below : other.base + max 16 (length other.bytes) ≤ one.base = leb-true _ _ behind in omega arith
    by_side false a_is false b_is any = false≢true any

before_apart : (memory : List Block) (m n i j : ℕ) (one other : Block) → IsMemory memory → m < n → slice_get memory m ≡ Some one → slice_get memory n ≡ Some other → one.live ≡ true → other.live ≡ true →
    i < length one.bytes → j < length other.bytes → one.base + i ≢ other.base + j
before_apart memory m n i j one other is before there there' live live' within within' =
    let pair : are_compatible (get_or memory m one) (get_or memory n one) ≡ true = is.apart m n one before (slice_get_within memory n other there') in
    let compatible : are_compatible one other ≡ true =
    sym (ap (λ (b : Block). are_compatible b (get_or memory n one)) (get_or_from_slice_get memory m one one there) ∙ ap (are_compatible one) (get_or_from_slice_get memory n other one there')) ∙ pair in
    no_overlap one other i j (apart_from one other live live' compatible) within within'

-- one address is that of one block
pub inside_apart : (memory : List Block) (m n i j : ℕ) (one other : Block) → IsMemory memory → slice_get memory m ≡ Some one → slice_get memory n ≡ Some other → one.live ≡ true → other.live ≡ true →
    i < length one.bytes → j < length other.bytes → one.base + i ≡ other.base + j → m ≡ n
inside_apart memory m n i j one other is there there' live live' within within' same = by_order (nat_lt m n) refl (nat_lt n m) refl
  where
    by_order : (a : Bool) → nat_lt m n ≡ a → (b : Bool) → nat_lt n m ≡ b → m ≡ n
    by_order true before b b_is = absurd (before_apart memory m n i j one other is (ltb-true _ _ before) there there' live live' within within' same)
    by_order false a_is true behind = absurd (before_apart memory n m j i other one is (ltb-true _ _ behind) there' there live' live within' within (sym same))
    by_order false a_is false b_is = let a = ltb-false _ _ a_is in let b = ltb-false _ _ b_is in omega arith
