-- A memory with a block for each object, in their order, far enough from one another.
use Rattle.std.proofs.Common.{◌≡◌, ℕ, zero, suc, ◌+◌, ◌*◌, ◌^◌, ◌%◌, ◌<◌, ◌≤◌, max, Bool, true, false, ◌||◌, not, List, [], ◌∷◌, length, nat_eq, nat_le, Some, refl, sym, ◌∙◌, ap, subst, eq-eqb, le-leb, leb-true, arith}
use Rattle.std.specs.Prelude.{IsTrue, option_map, slice_get}
use Rattle.std.specs.List.{All, AllPairs, list_all}
use Rattle.std.proofs.lemmas.List.Kept.{AllPairs-cons}
use Rattle.std.proofs.Math.Nat.{mul-mod_left}
use Rattle.bytes_core.specs.declared.byte.Byte.{Byte}
use Rattle.bytes_core.specs.declared.block.Block.{Block}
use Rattle.bytes_core.specs.declared.block.BlockKind.{BlockKind}
use Rattle.bytes_core.specs.Placement.{is_placed, are_compatible}
use Rattle.bytes_core.specs.Valid.{NamesBelow, IsMemory}
use Rattle.graph.specs.declared.object.Object.{Object}
use Rattle.graph.specs.Numbers.{HasRoom}
use Rattle.graph.proofs.Tests.{and_left, and_right, and_both}

pub All-nil : {A : Type 0} (P : A → Type 0) → All P []
All-nil P k d within = absurd (omega arith)

pub All-cons : {A : Type 0} (P : A → Type 0) (x : A) (xs : List A) → P x → All P xs → All P (x ∷ xs)
All-cons P x xs here later zero d within = here
All-cons P x xs here later (suc k) d within = later k d (omega arith)

-- the block of an object with this number
abbrev pub block_of : (ℕ → Object → List Byte) → ℕ → Object → Block
block_of bytes number object = record { base = 16 + 65536 * number; kind = object.kind; live = object.live; bytes = bytes number object }

abbrev pub blocks_from : (ℕ → Object → List Byte) → ℕ → List Object → List Block
blocks_from bytes number [] = []
blocks_from bytes number (object ∷ rest) = block_of bytes number object ∷ blocks_from bytes (number + 1) rest

pub slice_get-blocks : (bytes : ℕ → Object → List Byte) (number : ℕ) (objects : List Object) (at : ℕ) →
    slice_get (blocks_from bytes number objects) at ≡ option_map (block_of bytes (number + at)) (slice_get objects at)
slice_get-blocks bytes number [] at = refl
slice_get-blocks bytes number (object ∷ rest) zero = ap (λ (n : ℕ). Some (block_of bytes n object)) (let e : number ≡ number + 0 = omega arith in e)
slice_get-blocks bytes number (object ∷ rest) (suc at) =
    slice_get-blocks bytes (number + 1) rest at
    ∙ ap (λ (n : ℕ). option_map (block_of bytes n) (slice_get rest at)) (let e : number + 1 + at ≡ number + suc at = omega arith in e)

pub length-blocks : (bytes : ℕ → Object → List Byte) (number : ℕ) (objects : List Object) → length (blocks_from bytes number objects) ≡ length objects
length-blocks bytes number [] = refl
length-blocks bytes number (object ∷ rest) = ap suc (length-blocks bytes (number + 1) rest)

-- each block has the size of its object
module _ (bytes : ℕ → Object → List Byte) (sizes : (number : ℕ) (object : Object) → length (bytes number object) ≡ object.size) where
  -- a block of at most 65,536 bytes lies where a block may lie
  is_placed-block : (number : ℕ) (object : Object) → number < 2 ^ 30 → object.size ≤ 65536 → is_placed (block_of bytes number object) ≡ true
  is_placed-block number object few small =
      let base : 16 + 65536 * number ≡ (1 + 4096 * number) * 16 = omega arith in
      let even : nat_eq ((16 + 65536 * number) % 16) 0 ≡ true = eq-eqb _ _ (ap (λ (n : ℕ). n % 16) base ∙ mul-mod_left (1 + 4096 * number) 16) in
      let low : nat_le 16 (16 + 65536 * number) ≡ true = le-leb _ _ (omega arith) in
      let long : length (bytes number object) ≡ object.size = sizes number object in
      let high : nat_le (16 + 65536 * number + max 16 (length (bytes number object))) (2 ^ 47) ≡ true = le-leb _ _ (omega arith) in
      rw (even, low, high) refl

  placed : (number : ℕ) (objects : List Object) → number + length objects ≤ 2 ^ 30 → list_all (λ object. nat_le object.size 65536) objects ≡ true →
      All (λ block. IsTrue (is_placed block)) (blocks_from bytes number objects)
  placed number [] few small = All-nil (λ block. IsTrue (is_placed block))
  placed number (object ∷ rest) few small =
      All-cons (λ block. IsTrue (is_placed block)) (block_of bytes number object) (blocks_from bytes (number + 1) rest)
      (is_placed-block number object (omega arith) (leb-true _ _ (and_left (nat_le object.size 65536) (list_all (λ object. nat_le object.size 65536) rest) small)))
      (placed (number + 1) rest (omega arith) (and_right (nat_le object.size 65536) (list_all (λ object. nat_le object.size 65536) rest) small))

  -- a block ends before each later one begins
  compatible : (number later : ℕ) (one : Object) (objects : List Object) → one.size ≤ 65536 → number < later →
      All (λ other. IsTrue (are_compatible (block_of bytes number one) other)) (blocks_from bytes later objects)
  compatible number later one [] small before = All-nil (λ other. IsTrue (are_compatible (block_of bytes number one) other))
  compatible number later one (object ∷ rest) small before =
      All-cons (λ other. IsTrue (are_compatible (block_of bytes number one) other)) (block_of bytes later object) (blocks_from bytes (later + 1) rest)
      (let long : length (bytes number one) ≡ one.size = sizes number one in
      let ends : nat_le (16 + 65536 * number + max 16 (length (bytes number one))) (16 + 65536 * later) ≡ true = le-leb _ _ (omega arith) in
      either one.live object.live ends)
      (compatible number (later + 1) one rest small (omega arith))
    where
      either : (one_lives other_lives : Bool) → nat_le (16 + 65536 * number + max 16 (length (bytes number one))) (16 + 65536 * later) ≡ true →
          (not one_lives || (not other_lives || (nat_le (16 + 65536 * number + max 16 (length (bytes number one))) (16 + 65536 * later) || nat_le (16 + 65536 * later + max 16 (length (bytes later object))) (16 + 65536 * number)))) ≡ true
      either false other_lives ends = refl
      either true false ends = refl
      either true true ends = rw ends refl

  apart : (number : ℕ) (objects : List Object) → list_all (λ object. nat_le object.size 65536) objects ≡ true →
      AllPairs (λ one other. IsTrue (are_compatible one other)) (blocks_from bytes number objects)
  apart number [] small = λ i j d before within. absurd (omega arith)
  apart number (object ∷ rest) small =
      AllPairs-cons (λ one other. IsTrue (are_compatible one other)) (block_of bytes number object) (blocks_from bytes (number + 1) rest)
      (compatible number (number + 1) object rest (leb-true _ _ (and_left (nat_le object.size 65536) (list_all (λ object. nat_le object.size 65536) rest) small)) (omega arith))
      (apart (number + 1) rest (and_right (nat_le object.size 65536) (list_all (λ object. nat_le object.size 65536) rest) small))

  named : (count number : ℕ) (objects : List Object) → ((i : ℕ) (object : Object) → slice_get objects i ≡ Some object → All (NamesBelow count) (bytes (number + i) object)) →
      All (λ block. All (NamesBelow count) block.bytes) (blocks_from bytes number objects)
  named count number [] names = All-nil (λ block. All (NamesBelow count) block.bytes)
  named count number (object ∷ rest) names =
      All-cons (λ block. All (NamesBelow count) block.bytes) (block_of bytes number object) (blocks_from bytes (number + 1) rest)
      (subst (λ (n : ℕ). All (NamesBelow count) (bytes n object)) (let e : number + 0 ≡ number = omega arith in e) (names 0 object refl))
      (named count (number + 1) rest (λ i next is. subst (λ (n : ℕ). All (NamesBelow count) (bytes n next)) (let e : number + suc i ≡ number + 1 + i = omega arith in e) (names (suc i) next is)))

  -- such blocks make a memory
  pub IsMemory-blocks : (objects : List Object) → length objects < 2 ^ 30 → list_all (λ object. nat_le object.size 65536) objects ≡ true →
      ((number : ℕ) (object : Object) → slice_get objects number ≡ Some object → All (NamesBelow (length objects)) (bytes number object)) → IsMemory (blocks_from bytes 0 objects)
  IsMemory-blocks objects few small names = record {
    placed = placed 0 objects (omega arith) small;
    apart = apart 0 objects small;
    named = subst (λ (count : ℕ). All (λ block. All (NamesBelow count) block.bytes) (blocks_from bytes 0 objects)) (sym (length-blocks bytes 0 objects))
        (named (length objects) 0 objects (λ i object is. subst (λ (n : ℕ). All (NamesBelow (length objects)) (bytes n object)) (let e : i ≡ 0 + i = omega arith in e) (names i object is)));
  }

  -- a new block behind all of them
  abbrev new_block : ℕ → BlockKind → List Byte → Block
  new_block later kind contents = record { base = 16 + 65536 * later; kind = kind; live = true; bytes = contents }

  compatible_later : (later : ℕ) (kind : BlockKind) (contents : List Byte) (number : ℕ) (object : Object) → number < later → object.size ≤ 65536 →
      are_compatible (new_block later kind contents) (block_of bytes number object) ≡ true
  compatible_later later kind contents number object before small =
      let long : length (bytes number object) ≡ object.size = sizes number object in
      either object.live (nat_le (16 + 65536 * later + max 16 (length contents)) (16 + 65536 * number)) (le-leb _ _ (omega arith))
    where
      either : (lives first : Bool) → nat_le (16 + 65536 * number + max 16 (length (bytes number object))) (16 + 65536 * later) ≡ true →
          (not lives || (first || nat_le (16 + 65536 * number + max 16 (length (bytes number object))) (16 + 65536 * later))) ≡ true
      either false first ends = refl
      either true true ends = refl
      either true false ends = ends

  all_compatible : (later : ℕ) (kind : BlockKind) (contents : List Byte) (number : ℕ) (objects : List Object) → number + length objects ≤ later → list_all (λ object. nat_le object.size 65536) objects ≡ true →
      list_all (are_compatible (new_block later kind contents)) (blocks_from bytes number objects) ≡ true
  all_compatible later kind contents number [] few small = refl
  all_compatible later kind contents number (object ∷ rest) few small =
      and_both (are_compatible (new_block later kind contents) (block_of bytes number object)) (list_all (are_compatible (new_block later kind contents)) (blocks_from bytes (number + 1) rest))
      (compatible_later later kind contents number object (omega arith) (leb-true _ _ (and_left (nat_le object.size 65536) (list_all (λ object. nat_le object.size 65536) rest) small)))
      (all_compatible later kind contents (number + 1) rest (omega arith) (and_right (nat_le object.size 65536) (list_all (λ object. nat_le object.size 65536) rest) small))

  new_placed : (later : ℕ) (kind : BlockKind) (contents : List Byte) → later < 2 ^ 30 → length contents ≤ 65536 → is_placed (new_block later kind contents) ≡ true
  new_placed later kind contents few small =
      let base : 16 + 65536 * later ≡ (1 + 4096 * later) * 16 = omega arith in
      let even : nat_eq ((16 + 65536 * later) % 16) 0 ≡ true = eq-eqb _ _ (ap (λ (n : ℕ). n % 16) base ∙ mul-mod_left (1 + 4096 * later) 16) in
      let low : nat_le 16 (16 + 65536 * later) ≡ true = le-leb _ _ (omega arith) in
      let high : nat_le (16 + 65536 * later + max 16 (length contents)) (2 ^ 47) ≡ true = le-leb _ _ (omega arith) in
      rw (even, low, high) refl

  -- there is room for it
  pub room-blocks : (objects : List Object) → length objects < 2 ^ 30 → list_all (λ object. nat_le object.size 65536) objects ≡ true → HasRoom (blocks_from bytes 0 objects)
  room-blocks objects few small = record {
    base = 16 + 65536 * length objects;
    place = λ kind contents fits.
        and_both (is_placed (new_block (length objects) kind contents)) (list_all (are_compatible (new_block (length objects) kind contents)) (blocks_from bytes 0 objects))
        (new_placed (length objects) kind contents few fits)
        (all_compatible (length objects) kind contents 0 objects (omega arith) small);
    number = let long = length-blocks bytes 0 objects in omega arith;
  }
