-- Where the first part of a pointer stands in bytes that edges and links hold.
use Rattle.std.proofs.Common.{◌≡◌, ℕ, zero, suc, ◌+◌, ◌-◌, ◌<◌, ◌≤◌, Bool, true, false, ◌&&◌, not, List, [], ◌∷◌, ◌++◌, map, length, take, drop, nat_le, nat_lt, Some, refl, sym, ap, ◌∙◌, leb-true, ltb-true, arith}
use Rattle.std.specs.Prelude.{slice_get, ℤ}
use Rattle.std.specs.Int.{w64, to_le_bytes}
use Rattle.std.proofs.lemmas.Bool.{false≢true}
use Rattle.std.proofs.lemmas.Option.{same_Some, none-some}
use Rattle.bytes_core.specs.declared.byte.Byte.{Byte}
use Rattle.bytes_core.specs.declared.byte.Byte.TheVariants.{Num, Part}
use Rattle.bytes_core.specs.declared.word.Word.{Word}
use Rattle.bytes_core.specs.declared.word.Word.TheVariants.{Plain, To}
use Rattle.bytes_core.specs.Laws.{HoldsPointer}
use Rattle.bytes_core.specs.Value.{word_bytes}
use Rattle.graph.specs.declared.edges.HasValue.{HasValue}
use Rattle.graph.specs.Choices.{is_free}
use Rattle.graph.specs.Meaning.{HoldsWord}

get_taken : (bytes : List Byte) (size i : ℕ) → i < size → slice_get (take size bytes) i ≡ slice_get bytes i
get_taken [] zero i below = absurd (omega arith)
get_taken [] (suc size) i below = refl
get_taken (first ∷ rest) zero i below = absurd (omega arith)
get_taken (first ∷ rest) (suc size) zero below = refl
get_taken (first ∷ rest) (suc size) (suc i) below = get_taken rest size i (omega arith)

get_dropped : (bytes : List Byte) (at i place : ℕ) → place ≡ at + i → slice_get (drop at bytes) i ≡ slice_get bytes place
get_dropped [] zero i place is = refl
get_dropped [] (suc at) i place is = refl
get_dropped (first ∷ rest) zero i place is = ap (slice_get (first ∷ rest)) (let same : i ≡ place = omega arith in same)
get_dropped (first ∷ rest) (suc at) i zero is = absurd (omega arith)
get_dropped (first ∷ rest) (suc at) i (suc place) is = get_dropped rest at i place (omega arith)

pub get_ranged : (bytes : List Byte) (at size place : ℕ) → at ≤ place → place < at + size → slice_get (take size (drop at bytes)) (place - at) ≡ slice_get bytes place
get_ranged bytes at size place from upto =
    get_taken (drop at bytes) size (place - at) (omega arith) ∙ get_dropped bytes at (place - at) place (omega arith)

-- a part of a pointer among the bytes of a word
numbers_only : (numbers : List ℕ) (i target k : ℕ) (offset : ℤ) → slice_get (map Num numbers) i ≡ Some (Part target offset k) → ⊥
numbers_only [] i target k offset is = none-some (Part target offset k) is
numbers_only (number ∷ rest) zero target k offset is = let same : Num number ≡ Part target offset k = same_Some _ _ is in absurd (let clash : Num number ≡ Part target offset k = same in cc)
numbers_only (number ∷ rest) (suc i) target k offset is = numbers_only rest i target k offset is

part_block : Byte → ℕ
part_block (Num number) = 0
part_block (Part block offset k) = block

parts_only : (block : ℕ) (at : ℤ) (places : List ℕ) (i target k : ℕ) (offset : ℤ) → slice_get (map (Part block at) places) i ≡ Some (Part target offset k) → block ≡ target
unfolding part_block
parts_only block at [] i target k offset is = absurd (none-some (Part target offset k) is)
parts_only block at (place ∷ rest) zero target k offset is = ap part_block (same_Some _ _ is)
parts_only block at (place ∷ rest) (suc i) target k offset is = parts_only block at rest i target k offset is

pub pointer_byte : (word : Word) (i target k : ℕ) (offset : ℤ) → slice_get (word_bytes word) i ≡ Some (Part target offset k) → (at : ℤ) × (word ≡ To target at)
pointer_byte (Plain number) i target k offset is = absurd (numbers_only (to_le_bytes w64 number) i target k offset is)
pointer_byte (To block at) i target k offset is = (at, ap (λ (n : ℕ). To n at) (parts_only block at (0 ∷ 1 ∷ 2 ∷ 3 ∷ 4 ∷ 5 ∷ 6 ∷ 7 ∷ []) i target k offset is))

-- so the word that an edge holds leads to the block of whose pointer a part stands in its range
pub edge_pointer : (bytes : List Byte) (edge : HasValue) (word : Word) → HoldsWord bytes edge word → (place target k : ℕ) (offset : ℤ) → edge.at ≤ place → place < edge.at + edge.size →
    slice_get bytes place ≡ Some (Part target offset k) → (at : ℤ) × (word ≡ To target at)
edge_pointer bytes edge word holds place target k offset from upto is =
    pointer_byte word (place - edge.at) target k offset
    (sym (get_taken (word_bytes word) edge.size (place - edge.at) (omega arith)) ∙ ap (λ (bs : List Byte). slice_get bs (place - edge.at)) (sym holds) ∙ get_ranged bytes edge.at edge.size place from upto ∙ is)

-- a range of eight bytes
pub range_pointer : (bytes : List Byte) (from : ℕ) (word : Word) → take 8 (drop from bytes) ≡ word_bytes word → (place target k : ℕ) (offset : ℤ) → from ≤ place → place < from + 8 →
    slice_get bytes place ≡ Some (Part target offset k) → (at : ℤ) × (word ≡ To target at)
range_pointer bytes from word holds place target k offset low high is =
    pointer_byte word (place - from) target k offset (ap (λ (bs : List Byte). slice_get bs (place - from)) (sym holds) ∙ get_ranged bytes from 8 place low high ∙ is)

-- an edge over a place
pub record IsOver (edges : List HasValue) (place : ℕ) : Type 0 where
  pub at : ℕ
  pub edge : HasValue
  pub is : slice_get edges at ≡ Some edge
  pub from : edge.at ≤ place
  pub upto : place < edge.at + edge.size

pub IsOver-not_free : (edges : List HasValue) (place : ℕ) → is_free edges place ≡ false → IsOver edges place
IsOver-not_free [] place covered = absurd (false≢true (sym covered))
IsOver-not_free (edge ∷ rest) place covered = by_test (nat_le edge.at place) refl (nat_lt place (edge.at + edge.size)) refl covered (λ later. IsOver-not_free rest place later)
  where
    by_test : (b : Bool) → nat_le edge.at place ≡ b → (c : Bool) → nat_lt place (edge.at + edge.size) ≡ c → (not (b && c) && is_free rest place) ≡ false → (is_free rest place ≡ false → IsOver rest place) → IsOver (edge ∷ rest) place
    by_test true low true high either later = record { at = 0; edge = edge; is = refl; from = leb-true edge.at place low; upto = ltb-true place (edge.at + edge.size) high }
    by_test true low false high either later = let over = later either in record { at = suc over.at; edge = over.edge; is = over.is; from = over.from; upto = over.upto }
    by_test false low c high either later = let over = later either in record { at = suc over.at; edge = over.edge; is = over.is; from = over.from; upto = over.upto }

-- where the first part of a whole pointer stands
pub pointer_place : (target : ℕ) (bytes : List Byte) → (held : HoldsPointer target bytes) → slice_get bytes (length held.front) ≡ Some (Part target held.offset 0)
pointer_place target bytes held = ap (λ (bs : List Byte). slice_get bs (length held.front)) held.is ∙ behind held.front
  where
    behind : (front : List Byte) → slice_get (front ++ (word_bytes (To target held.offset) ++ held.rest)) (length front) ≡ Some (Part target held.offset 0)
    behind [] = refl
    behind (first ∷ front) = behind front
