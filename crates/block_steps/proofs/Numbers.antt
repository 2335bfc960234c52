-- A block of numbers in a memory, which is dead before it is made.
use Rattle.std.proofs.Common.{◌≡◌, ◌≢◌, ℕ, zero, suc, ◌+◌, ◌<◌, Bool, true, false, ◌&&◌, ◌||◌, not, List, [], ◌∷◌, map, length, replicate, set, get_or, nat_eq, nat_le, nat_lt, Some, ◌⊎◌, inl, inr, refl, sym, ◌∙◌, ap, subst, eq-eqb, lt-ltb}
use Rattle.std.specs.Prelude.{slice_get, if◌then◌else◌, IsTrue}
use Rattle.std.specs.List.{All, list_all}
use Rattle.std.proofs.lemmas.Bool.{cases_eq, cases_order}
use Rattle.std.proofs.lemmas.List.Elements.{All-head, All-tail}
use Rattle.std.proofs.lemmas.Option.{same_Some, slice_get_within, get_or_from_slice_get}
use Rattle.bytes_core.specs.declared.byte.Byte.{Byte}
use Rattle.bytes_core.specs.declared.byte.Byte.TheVariants.{Num, Part}
use Rattle.bytes_core.specs.declared.block.Block.{Block}
use Rattle.bytes_core.specs.declared.block.BlockKind.{BlockKind}
use Rattle.bytes_core.specs.Placement.{extent, is_placed, are_compatible, can_be_placed, new_block, placed}
use Rattle.bytes_core.specs.Valid.{IsMemory}
use Rattle.bytes_core.proofs.Kept.{compatible_back}
use Rattle.bytes_core.proofs.Written.{slice_get-set_same, slice_get-set_other}
use Rattle.graph.specs.State.{IsByte}
use Rattle.graph.specs.Meaning.{HaveClasses}
use Rattle.graph.proofs.Tests.{and_both}
use Rattle.changes.proofs.Died.{dead}
use Rattle.block_steps.specs.Blocks.{MakesBlock}

-- the numbers that bytes are
abbrev pub numbers_of : List Byte → List ℕ
numbers_of [] = []
numbers_of (Num number ∷ rest) = number ∷ numbers_of rest
numbers_of (Part block offset k ∷ rest) = 0 ∷ numbers_of rest

pub numbers_are : (zeroed : Bool) (count : ℕ) (bytes : List Byte) → HaveClasses (replicate count (if zeroed then 0 else 1)) bytes → map Num (numbers_of bytes) ≡ bytes
numbers_are zeroed zero [] has = refl
numbers_are zeroed zero (byte ∷ rest) has = absurd has
numbers_are zeroed (suc count) [] has = absurd has
numbers_are zeroed (suc count) (Num number ∷ rest) has = ap (λ (bytes : List Byte). Num number ∷ bytes) (numbers_are zeroed count rest has.1)
numbers_are true (suc count) (Part block offset k ∷ rest) has = absurd has.0
numbers_are false (suc count) (Part block offset k ∷ rest) has = absurd has.0

zeros_are : (count : ℕ) (bytes : List Byte) → HaveClasses (replicate count 0) bytes → list_all (nat_eq 0) (numbers_of bytes) ≡ true
zeros_are zero [] has = refl
zeros_are zero (byte ∷ rest) has = absurd has
zeros_are (suc count) [] has = absurd has
zeros_are (suc count) (Num number ∷ rest) has = and_both (nat_eq 0 number) (list_all (nat_eq 0) (numbers_of rest)) (eq-eqb 0 number (sym has.0)) (zeros_are count rest has.1)
zeros_are (suc count) (Part block offset k ∷ rest) has = absurd has.0

pub zeros_asked : (zeroed : Bool) (count : ℕ) (bytes : List Byte) → HaveClasses (replicate count (if zeroed then 0 else 1)) bytes → (not zeroed || list_all (nat_eq 0) (numbers_of bytes)) ≡ true
zeros_asked true count bytes has = zeros_are count bytes has
zeros_asked false count bytes has = refl

pub small_are : (bytes : List Byte) → All IsByte bytes → list_all (λ byte. nat_lt byte 256) (numbers_of bytes) ≡ true
small_are [] all = refl
small_are (Num number ∷ rest) all =
    and_both (nat_lt number 256) (list_all (λ byte. nat_lt byte 256) (numbers_of rest)) (lt-ltb number 256 (All-head IsByte (Num number) rest all)) (small_are rest (All-tail IsByte (Num number) rest all))
small_are (Part block offset k ∷ rest) all = small_are rest (All-tail IsByte (Part block offset k) rest all)

pub long_are : (bytes : List Byte) → length (numbers_of bytes) ≡ length bytes
long_are [] = refl
long_are (Num number ∷ rest) = ap suc (long_are rest)
long_are (Part block offset k ∷ rest) = ap suc (long_are rest)

-- a live block of numbers is one that can be new
abbrev block_of : ℕ → BlockKind → Bool → List Byte → Block
block_of base kind live bytes = record { base = base; kind = kind; live = live; bytes = bytes }

pub new_is : (block : Block) (kind : BlockKind) (contents : List ℕ) → block.kind ≡ kind → block.live ≡ true → map Num contents ≡ block.bytes → block ≡ new_block kind block.base contents
new_is block kind contents kind_is live numbers =
    ap (λ (k : BlockKind). block_of block.base k block.live block.bytes) kind_is
    ∙ ap (λ (l : Bool). block_of block.base kind l block.bytes) live
    ∙ ap (λ (bytes : List Byte). block_of block.base kind true bytes) (sym numbers)

-- what holds at each place of a list
pub list_all-at : {X : Type 0} (test : X → Bool) (xs : List X) → ((place : ℕ) (x : X) → slice_get xs place ≡ Some x → test x ≡ true) → list_all test xs ≡ true
list_all-at test [] each = refl
list_all-at test (first ∷ rest) each = and_both (test first) (list_all test rest) (each 0 first refl) (list_all-at test rest (λ place x is. each (suc place) x is))

-- A block beside a memory in which it is dead.
module _ (memory : List Block) (number : ℕ) (block : Block) (valid : IsMemory memory) (there : slice_get memory number ≡ Some block) where
  abbrev without_it : List Block
  without_it = set memory number (dead block)

  inside : number < length memory
  inside = slice_get_within memory number block there

  read : (d : Block) → get_or memory number d ≡ block
  read d = get_or_from_slice_get memory number block d there

  -- the block can be placed beside all others
  pub placed_beside : block.live ≡ true → IsTrue (can_be_placed without_it block)
  placed_beside live =
      and_both (is_placed block) (list_all (are_compatible block) without_it) (subst (λ (b : Block). IsTrue (is_placed b)) (read block) (valid.placed number block inside))
      (list_all-at (are_compatible block) without_it (λ place other stands. beside place other stands (cases_eq place number)))
    where
      other_side : (one other : Block) → are_compatible one other ≡ true → are_compatible other one ≡ true
      other_side one other is = compatible_back one.live other.live (nat_le (one.base + extent one) other.base) (nat_le (other.base + extent other) one.base) is

      by_order : (place : ℕ) (other : Block) → place ≢ number → slice_get memory place ≡ Some other → (place ≡ number) ⊎ ((place < number) ⊎ (number < place)) → are_compatible block other ≡ true
      by_order place other differ stands (inl same) = absurd (differ same)
      by_order place other differ stands (inr (inl below)) =
          other_side other block
          (subst (λ (b : Block). are_compatible other b ≡ true) (read block)
          (subst (λ (b : Block). are_compatible b (get_or memory number block) ≡ true) (get_or_from_slice_get memory place other block stands) (valid.apart place number block below inside)))
      by_order place other differ stands (inr (inr above)) =
          subst (λ (b : Block). are_compatible b other ≡ true) (read block)
          (subst (λ (b : Block). are_compatible (get_or memory number block) b ≡ true) (get_or_from_slice_get memory place other block stands) (valid.apart number place block above (slice_get_within memory place other stands)))

      dead_there : (other : Block) → other.live ≡ false → (b : Bool) → (not b || (not other.live || (nat_le (block.base + extent block) other.base || nat_le (other.base + extent other) block.base))) ≡ true
      dead_there other dead true = ap (λ (l : Bool). not l || (nat_le (block.base + extent block) other.base || nat_le (other.base + extent other) block.base)) dead
      dead_there other dead false = refl

      beside : (place : ℕ) (other : Block) → slice_get without_it place ≡ Some other → (place ≡ number) ⊎ (place ≡ number → ⊥) → are_compatible block other ≡ true
      beside place other stands (inl same) =
          let is : dead block ≡ other = same_Some _ _ (sym (slice_get-set_same memory number block (dead block) there) ∙ ap (slice_get without_it) (sym same) ∙ stands) in
          dead_there other (sym (ap (λ (b : Block). b.live) is)) block.live
      beside place other stands (inr differ) =
          by_order place other differ (sym (slice_get-set_other memory number place (dead block) differ) ∙ stands) (cases_order place number)

  -- so the memory with the block dead goes to one with it behind all others
  pub made_again : (kind : BlockKind) (size : ℕ) (zeroed : Bool) → block.live ≡ true → block.kind ≡ kind → length block.bytes ≡ size → HaveClasses (replicate size (if zeroed then 0 else 1)) block.bytes → All IsByte block.bytes →
      MakesBlock kind size zeroed without_it (placed without_it block)
  made_again kind size zeroed live kind_is long has small = record {
    base = block.base;
    contents = numbers_of block.bytes;
    new = and_both (nat_eq (length (numbers_of block.bytes)) size) (list_all (λ byte. nat_lt byte 256) (numbers_of block.bytes) && can_be_placed without_it (new_block kind block.base (numbers_of block.bytes)))
        (eq-eqb _ _ (long_are block.bytes ∙ long))
        (and_both (list_all (λ byte. nat_lt byte 256) (numbers_of block.bytes)) (can_be_placed without_it (new_block kind block.base (numbers_of block.bytes))) (small_are block.bytes small)
        (subst (λ (b : Block). can_be_placed without_it b ≡ true) same (placed_beside live)));
    zeros = zeros_asked zeroed size block.bytes has;
    is = ap (placed without_it) same;
  }
    where
      same : block ≡ new_block kind block.base (numbers_of block.bytes)
      same = new_is block kind (numbers_of block.bytes) kind_is live (numbers_are zeroed size block.bytes has)
