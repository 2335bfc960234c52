-- What is done with a memory keeps what holds of it.
use Rattle.std.proofs.Common.{◌≡◌, ℕ, zero, suc, ◌+◌, ◌-◌, ◌/◌, ◌^◌, ◌<◌, ◌≤◌, List, [], ◌∷◌, ◌++◌, map, length, take, drop, set, get_or, Bool, true, false, refl, sym, ap, subst, ◌∙◌, ◌⊎◌, inl, inr, Option, None, Some, arith}
use Rattle.std.specs.Prelude.{ℤ, pos, negsuc, ◌+ℤ◌, nat_lt, nat_eq, not, ◌||◌, ◌&&◌, slice_get, All, IsTrue}
use Rattle.std.specs.Int.{w64, to_le_bytes, bytes_low_first, byte_at, cast_signed}
use Rattle.std.specs.List.{AllPairs, list_all}
use Rattle.std.proofs.Math.Nat.{mod-lt}
use Rattle.std.proofs.lemmas.Bool.{and_parts, cases_eq, false≢true, ltb-true, ltb-false}
use Rattle.std.proofs.lemmas.List.{length-append, length-set, get_or-set_same, get_or-set_other, get_or_default}
use Rattle.std.proofs.lemmas.List.Elements.{All-nil, All-cons, All-take, All-drop, All-append, All-set, All-map}
use Rattle.std.proofs.lemmas.Option.{slice_get_within, get_or_from_slice_get, none-some}
use mir.Val.{sel}
use Rattle.bytes_core.specs.declared.byte.Byte.{Byte}
use Rattle.bytes_core.specs.declared.byte.Byte.TheVariants.{Num, Part}
use Rattle.bytes_core.specs.declared.word.Word.{Word}
use Rattle.bytes_core.specs.declared.word.Word.TheVariants.{Plain, To}
use Rattle.bytes_core.specs.declared.block.Block.{Block}
use Rattle.bytes_core.specs.declared.block.BlockKind.{BlockKind}
use Rattle.bytes_core.specs.Access.{access_fault, block_bytes, bytes_at, overwritten, with_bytes, written_at}
use Rattle.bytes_core.specs.Laws.{LeadsTo, LeadsToHeap}
use Rattle.bytes_core.specs.Placement.{new_block, is_new_block, placed, can_be_placed, is_placed, are_apart, are_compatible}
use Rattle.bytes_core.specs.Release.{is_heap, free_fault, freed, without}
use Rattle.bytes_core.specs.Valid.{IsMemory, NamesBelow}
use Rattle.bytes_core.specs.Value.{word_bytes, wrapped}
use Rattle.bytes_core.proofs.Kept.{IsMemory-written, IsMemory-placed}
use Rattle.bytes_core.proofs.Releases.{freeable}
use Rattle.bytes_core.proofs.Written.{accessible, slice_get-set_same, slice_get-set_other}
use Rattle.c_machine.specs.Keeping.{IsOffset, IsByte, IsObject, Misses}
use Rattle.c_machine.specs.Step.{without_objects}

-- an item that stands in a list
pub All-at : {X : Type 0} (P : X → Type 0) (items : List X) (place : ℕ) (item : X) → slice_get items place ≡ Some item → All P items → P item
All-at P items place item is all = subst P (get_or_from_slice_get items place item item is) (all place item (slice_get_within items place item is))

-- what is done with a memory keeps it: it has as many blocks, and each that lives and is of no heap lives on
pub record Keeps (old new : List Block) : Type 0 where
  pub memory : IsMemory new
  pub bytes : All (λ block. All IsByte block.bytes) new
  pub count : length new ≡ length old
  pub lives : (kind : BlockKind) (number : ℕ) → is_heap kind ≡ false → IsObject kind old number → IsObject kind new number

-- a pointer that is moved has an offset of 64 bits with a sign
wrapped-small : (z : ℤ) → wrapped z < 2 ^ 64
wrapped-small (pos a) = omega arith
wrapped-small (negsuc a) = omega arith

signed-fits : (n : ℕ) → n < 2 ^ 64 → IsOffset (cast_signed w64 n)
signed-fits n small = at (nat_lt n (2 ^ 63)) refl
  where
    at : (b : Bool) → nat_lt n (2 ^ 63) ≡ b → IsOffset (sel b (pos n) (negsuc (2 ^ 64 - suc n)))
    at true is = ltb-true n (2 ^ 63) is
    at false is = let above = ltb-false n (2 ^ 63) is in omega arith

pub moved-fits : (offset by : ℤ) → IsOffset (cast_signed w64 (wrapped (offset +ℤ by)))
moved-fits offset by = signed-fits (wrapped (offset +ℤ by)) (wrapped-small (offset +ℤ by))

-- the bytes of a word
number_bytes : (number : ℕ) → All (λ byte. byte < 256) (to_le_bytes w64 number)
number_bytes number = low 0 8
  where
    low : (place count : ℕ) → All (λ byte. byte < 256) (bytes_low_first place count number)
    low place zero = All-nil (λ byte. byte < 256)
    low place (suc count) = All-cons (λ byte. byte < 256) (byte_at place number) (bytes_low_first (suc place) count number) (small place) (low (suc place) count)
      where
        small : (place : ℕ) → byte_at place number < 256
        small zero = mod-lt number (omega arith)
        small (suc place) = mod-lt (number / 256 ^ suc place) (omega arith)

pub pointer_bytes : (block : ℕ) (offset : ℤ) → IsOffset offset → All IsByte (word_bytes (To block offset))
pointer_bytes block offset fits = parts (0 ∷ 1 ∷ 2 ∷ 3 ∷ 4 ∷ 5 ∷ 6 ∷ 7 ∷ [])
  where
    parts : (places : List ℕ) → All IsByte (map (Part block offset) places)
    parts [] = All-nil IsByte
    parts (first ∷ rest) = All-cons IsByte (Part block offset first) (map (Part block offset) rest) fits (parts rest)

pub plain_bytes : (number : ℕ) → All IsByte (word_bytes (Plain number))
plain_bytes number = All-map IsByte Num (to_le_bytes w64 number) (number_bytes number)

-- the bytes to which a word leads
pub bytes_there : (memory : List Block) (at : Word) (count : ℕ) → All (λ block. All IsByte block.bytes) memory → All IsByte (bytes_at memory at count)
bytes_there memory (Plain number) count all = All-nil IsByte
bytes_there memory (To block offset) count all = by_block (slice_get memory block) refl offset
  where
    by_block : (found : Option Block) → slice_get memory block ≡ found → (offset : ℤ) → All IsByte (block_bytes found offset count)
    by_block None stands offset = All-nil IsByte
    by_block (Some one) stands (negsuc before) = All-nil IsByte
    by_block (Some one) stands (pos from) =
        All-take IsByte count (drop from one.bytes) (All-drop IsByte from one.bytes (All-at (λ block. All IsByte block.bytes) memory block one stands all))

-- a memory whose block has another one in its place
object_set : (kind : BlockKind) (memory : List Block) (number other : ℕ) (old new : Block) → slice_get memory number ≡ Some old →
    new.live ≡ old.live → new.kind ≡ old.kind → IsObject kind memory other → IsObject kind (set memory number new) other
object_set kind memory number other old new stands alive alike object = by_cases (cases_eq other number)
  where
    by_cases : (other ≡ number) ⊎ (other ≡ number → ⊥) → IsObject kind (set memory number new) other
    by_cases (inl same) =
        let found : Some object.block ≡ Some old = sym object.stands ∙ ap (slice_get memory) same ∙ stands in
        let block : object.block ≡ old = cc in
        record {
          block = new;
          stands = ap (slice_get (set memory number new)) same ∙ slice_get-set_same memory number old new stands;
          live = alive ∙ ap (λ (one : Block). one.live) (sym block) ∙ object.live;
          is = alike ∙ ap (λ (one : Block). one.kind) (sym block) ∙ object.is;
        }
    by_cases (inr apart) = record {
      block = object.block;
      stands = slice_get-set_other memory number other new apart ∙ object.stands;
      live = object.live;
      is = object.is;
    }

-- bytes are written where a word leads
pub written_keeps : (memory : List Block) (at : Word) (written : List Byte) (count : ℕ) → IsMemory memory → All (λ block. All IsByte block.bytes) memory →
    access_fault memory at count ≡ None → length written ≤ count → All (NamesBelow (length memory)) written → All IsByte written → Keeps memory (written_at memory at written)
written_keeps memory at written count valid bytes none fits names small =
    let leads : LeadsTo memory at count = (accessible memory at count).0 none in
    let inside : leads.number < length memory = slice_get_within memory leads.number leads.block leads.stands in
    let is : leads.block ≡ get_or memory leads.number leads.block = sym (get_or_from_slice_get memory leads.number leads.block leads.block leads.stands) in
    let made : List Block = set memory leads.number (record leads.block { bytes = overwritten leads.block.bytes leads.from written }) in
    let there : written_at memory at written ≡ made =
    ap (λ (word : Word). written_at memory word written) leads.is ∙ ap (λ (found : Option Block). with_bytes memory leads.number found leads.from written) leads.stands in
    let own : All IsByte leads.block.bytes = All-at (λ block. All IsByte block.bytes) memory leads.number leads.block leads.stands bytes in
    let room = leads.room in
    subst (Keeps memory) (sym there) (record {
      memory = IsMemory-written memory leads.number leads.from leads.block written valid inside is (omega arith) names;
      bytes = All-set (λ block. All IsByte block.bytes) memory leads.number (record leads.block { bytes = overwritten leads.block.bytes leads.from written })
          (All-append IsByte (take leads.from leads.block.bytes) (written ++ drop (leads.from + length written) leads.block.bytes) (All-take IsByte leads.from leads.block.bytes own)
          (All-append IsByte written (drop (leads.from + length written) leads.block.bytes) small (All-drop IsByte (leads.from + length written) leads.block.bytes own))) bytes;
      count = length-set memory leads.number (record leads.block { bytes = overwritten leads.block.bytes leads.from written });
      lives = λ kind number heap object. object_set kind memory leads.number number leads.block (record leads.block { bytes = overwritten leads.block.bytes leads.from written }) leads.stands refl refl object;
    })

pub same_keeps : (memory : List Block) → IsMemory memory → All (λ block. All IsByte block.bytes) memory → Keeps memory memory
same_keeps memory valid bytes = record { memory = valid; bytes = bytes; count = refl; lives = λ kind number heap object. object }

-- a relation of each two items of a list holds still, where a new item has it to all to which the old one had it
AllPairs-set : {X : Type 0} (R : X → X → Type 0) (xs : List X) (number : ℕ) (old new : X) → number < length xs → old ≡ get_or xs number old →
    ((other : X) → R old other → R new other) → ((other : X) → R other old → R other new) → AllPairs R xs → AllPairs R (set xs number new)
AllPairs-set {X} R xs number old new inside is to from pairs i j d before below = by_cases (cases_eq i number) (cases_eq j number)
  where
    there : j < length xs
    there = omega (arith, length-set xs number new)

    at : (d : X) → get_or xs number d ≡ old
    at d = get_or_default xs number d old inside ∙ sym is

    by_cases : (i ≡ number) ⊎ (i ≡ number → ⊥) → (j ≡ number) ⊎ (j ≡ number → ⊥) → R (get_or (set xs number new) i d) (get_or (set xs number new) j d)
    by_cases (inl first) (inl second) = absurd (omega arith)
    by_cases (inl first) (inr second) =
        let old_pair : R old (get_or xs j d) = subst (λ (x : X). R x (get_or xs j d)) (ap (λ (n : ℕ). get_or xs n d) first ∙ at d) (pairs i j d before there) in
        rw (first, get_or-set_same xs number new d inside, get_or-set_other xs number j new d second) (to (get_or xs j d) old_pair)
    by_cases (inr first) (inl second) =
        let old_pair : R (get_or xs i d) old = subst (λ (x : X). R (get_or xs i d) x) (ap (λ (n : ℕ). get_or xs n d) second ∙ at d) (pairs i j d before there) in
        rw (second, get_or-set_same xs number new d inside, get_or-set_other xs number i new d first) (from (get_or xs i d) old_pair)
    by_cases (inr first) (inr second) =
        rw (get_or-set_other xs number i new d first, get_or-set_other xs number j new d second) (pairs i j d before there)

-- a block dies
dead_apart : (live rest : Bool) → (not live || (true || rest)) ≡ true
dead_apart true rest = refl
dead_apart false rest = refl

dead_memory : (memory : List Block) (number : ℕ) (block : Block) → slice_get memory number ≡ Some block → IsMemory memory → IsMemory (set memory number (record block { live = false }))
dead_memory memory number block stands valid =
    let dead : Block = record block { live = false } in
    let inside : number < length memory = slice_get_within memory number block stands in
    let is : block ≡ get_or memory number block = sym (get_or_from_slice_get memory number block block stands) in
    record {
      placed = All-set (λ (one : Block). IsTrue (is_placed one)) memory number dead (All-at (λ (one : Block). IsTrue (is_placed one)) memory number block stands valid.placed) valid.placed;
      apart = AllPairs-set (λ (one other : Block). IsTrue (are_compatible one other)) memory number block dead inside is (λ other compatible. refl)
          (λ other compatible. dead_apart other.live (are_apart other dead)) valid.apart;
      named = subst (λ (count : ℕ). All (λ (one : Block). All (NamesBelow count) one.bytes) (set memory number dead)) (sym (length-set memory number dead))
          (All-set (λ (one : Block). All (NamesBelow (length memory)) one.bytes) memory number dead
          (All-at (λ (one : Block). All (NamesBelow (length memory)) one.bytes) memory number block stands valid.named) valid.named);
    }

dead_bytes : (memory : List Block) (number : ℕ) (block : Block) → slice_get memory number ≡ Some block → All (λ one. All IsByte one.bytes) memory →
    All (λ one. All IsByte one.bytes) (set memory number (record block { live = false }))
dead_bytes memory number block stands bytes =
    All-set (λ one. All IsByte one.bytes) memory number (record block { live = false }) (All-at (λ one. All IsByte one.bytes) memory number block stands bytes) bytes

other_object : (kind : BlockKind) (memory : List Block) (number other : ℕ) (new : Block) → (other ≡ number → ⊥) → IsObject kind memory other → IsObject kind (set memory number new) other
other_object kind memory number other new apart object = record {
  block = object.block;
  stands = slice_get-set_other memory number other new apart ∙ object.stands;
  live = object.live;
  is = object.is;
}

-- a heap block is freed, which is no object
pub freed_keeps : (memory : List Block) (at : Word) → IsMemory memory → All (λ block. All IsByte block.bytes) memory → free_fault memory at ≡ None → Keeps memory (freed memory at)
freed_keeps memory at valid bytes none = by_cases ((freeable memory at).0 none)
  where
    by_cases : (at ≡ Plain 0) ⊎ LeadsToHeap memory at → Keeps memory (freed memory at)
    by_cases (inl null) = subst (λ (word : Word). Keeps memory (freed memory word)) (sym null) (same_keeps memory valid bytes)
    by_cases (inr leads) =
        let dead : Block = record leads.block { live = false } in
        let there : freed memory at ≡ set memory leads.number dead = ap (freed memory) leads.is ∙ ap (without memory leads.number) leads.stands in
        subst (Keeps memory) (sym there) (record {
          memory = dead_memory memory leads.number leads.block leads.stands valid;
          bytes = dead_bytes memory leads.number leads.block leads.stands bytes;
          count = length-set memory leads.number dead;
          lives = λ kind number heap object. other_object kind memory leads.number number dead (differs kind number heap object leads) object;
        })
      where
        differs : (kind : BlockKind) (number : ℕ) → is_heap kind ≡ false → IsObject kind memory number → (leads : LeadsToHeap memory at) → number ≡ leads.number → ⊥
        differs kind number heap object leads same =
            let found : Some object.block ≡ Some leads.block = sym object.stands ∙ ap (slice_get memory) same ∙ leads.stands in
            let block : object.block ≡ leads.block = cc in
            false≢true (sym heap ∙ ap is_heap (sym object.is) ∙ ap (λ (one : Block). is_heap one.kind) block ∙ leads.allocated)

-- objects die: those of other numbers live on
pub record Ends (dying : List ℕ) (old new : List Block) : Type 0 where
  pub memory : IsMemory new
  pub bytes : All (λ block. All IsByte block.bytes) new
  pub count : length new ≡ length old
  pub lives : (kind : BlockKind) (number : ℕ) → Misses number dying → IsObject kind old number → IsObject kind new number

one_ends : (memory : List Block) (number : ℕ) (found : Option Block) → slice_get memory number ≡ found → IsMemory memory → All (λ block. All IsByte block.bytes) memory →
    Ends (number ∷ []) memory (without memory number found)
one_ends memory number None stands valid bytes = record { memory = valid; bytes = bytes; count = refl; lives = λ kind other misses object. object }
one_ends memory number (Some block) stands valid bytes = record {
  memory = dead_memory memory number block stands valid;
  bytes = dead_bytes memory number block stands bytes;
  count = length-set memory number (record block { live = false });
  lives = λ kind other misses object. other_object kind memory number other (record block { live = false }) misses.0 object;
}

pub all_end : (dying : List ℕ) (memory : List Block) → IsMemory memory → All (λ block. All IsByte block.bytes) memory → Ends dying memory (without_objects dying memory)
all_end [] memory valid bytes = record { memory = valid; bytes = bytes; count = refl; lives = λ kind other misses object. object }
all_end (first ∷ rest) memory valid bytes =
    let one = one_ends memory first (slice_get memory first) refl valid bytes in
    let others = all_end rest (without memory first (slice_get memory first)) one.memory one.bytes in
    record {
      memory = others.memory;
      bytes = others.bytes;
      count = others.count ∙ one.count;
      lives = λ kind other misses object. others.lives kind other misses.1 (one.lives kind other (misses.0, tt) object);
    }

-- a new block
pub pushed_old : {X : Type 0} (xs : List X) (x y : X) (i : ℕ) → slice_get xs i ≡ Some y → slice_get (xs ++ x ∷ []) i ≡ Some y
pushed_old [] x y i stands = absurd (none-some y stands)
pushed_old (first ∷ rest) x y zero stands = stands
pushed_old (first ∷ rest) x y (suc i) stands = pushed_old rest x y i stands

pub pushed_new : {X : Type 0} (xs : List X) (x : X) → slice_get (xs ++ x ∷ []) (length xs) ≡ Some x
pushed_new [] x = refl
pushed_new (first ∷ rest) x = pushed_new rest x

new_bytes : (contents : List ℕ) → list_all (λ byte. nat_lt byte 256) contents ≡ true → All IsByte (map Num contents)
new_bytes [] all = All-nil IsByte
new_bytes (first ∷ rest) all =
    let parts = and_parts (nat_lt first 256) (list_all (λ byte. nat_lt byte 256) rest) all in
    All-cons IsByte (Num first) (map Num rest) (ltb-true first 256 parts.0) (new_bytes rest parts.1)

new_names : (count : ℕ) (contents : List ℕ) → All (NamesBelow count) (map Num contents)
new_names count [] = All-nil (NamesBelow count)
new_names count (first ∷ rest) = All-cons (NamesBelow count) (Num first) (map Num rest) tt (new_names count rest)

pub record Places (kind : BlockKind) (old new : List Block) : Type 0 where
  pub memory : IsMemory new
  pub bytes : All (λ block. All IsByte block.bytes) new
  pub count : length new ≡ length old + 1
  pub lives : (kind : BlockKind) (number : ℕ) → IsObject kind old number → IsObject kind new number
  pub made : IsObject kind new (length old)

pub block_placed : (memory : List Block) (kind : BlockKind) (size base : ℕ) (contents : List ℕ) → IsMemory memory → All (λ block. All IsByte block.bytes) memory →
    is_new_block memory kind size base contents ≡ true → Places kind memory (placed memory (new_block kind base contents))
block_placed memory kind size base contents valid bytes passes =
    let block : Block = new_block kind base contents in
    let tests = and_parts (nat_eq (length contents) size) (list_all (λ byte. nat_lt byte 256) contents && can_be_placed memory block) passes in
    let parts = and_parts (list_all (λ byte. nat_lt byte 256) contents) (can_be_placed memory block) tests.1 in
    record {
      memory = IsMemory-placed memory block valid parts.1 (new_names (length memory + 1) contents);
      bytes = All-append (λ one. All IsByte one.bytes) memory (block ∷ []) bytes
          (All-cons (λ one. All IsByte one.bytes) block [] (new_bytes contents parts.0) (All-nil (λ one. All IsByte one.bytes)));
      count = length-append memory (block ∷ []) ∙ refl;
      lives = λ of number object. record { block = object.block; stands = pushed_old memory block object.block number object.stands; live = object.live; is = object.is };
      made = record { block = block; stands = pushed_new memory block; live = refl; is = refl };
    }
