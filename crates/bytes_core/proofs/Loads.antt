-- A load gives what a store left.
use Rattle.std.proofs.Common.{◌≡◌, ℕ, zero, suc, ◌+◌, ◌*◌, ◌/◌, ◌%◌, ◌^◌, ◌≤◌, true, false, List, length, take, map, set, pos, ◌+ℤ◌, Option, None, ◌⊎◌, inl, inr, refl, sym, ap, ◌∙◌, subst, arith}
use Rattle.std.proofs.Math.Nat.{pow-succ', div-one, add-zero, add_comm, one-le-pow}
use Rattle.std.proofs.Math.Arith.{mod-mul}
use Rattle.std.proofs.lemmas.Bool.{eq-eqb, cases_eq}
use Rattle.std.proofs.lemmas.Bool.Decides.{Decides-int_eq}
use Rattle.std.proofs.lemmas.List.{take-map}
use Rattle.std.proofs.lemmas.Nat.{from_le_bytes-to_le_bytes_8}
use Rattle.std.specs.List.{slice_get}
use Rattle.std.specs.Int.{w64, from_le_bytes, to_le_bytes, sum_through, byte_worth, byte_at}
use Rattle.std.specs.Option.{option_map_or}
use Rattle.bytes_core.specs.declared.byte.Byte.{Byte}
use Rattle.bytes_core.specs.declared.word.Word.{Word}
use Rattle.bytes_core.specs.declared.word.Word.TheVariants.{Plain, To}
use Rattle.bytes_core.specs.declared.block.Block.{Block}
use Rattle.bytes_core.specs.Value.{word_bytes, wrapped, address_in, address_number, byte_number, pointer_read, number_read}
use Rattle.bytes_core.specs.Access.{access_fault, bytes_at, loaded, stored, written_at}
use Rattle.bytes_core.specs.Laws.{IsWord, LeadsTo}
use Rattle.bytes_core.proofs.Written.{length-word_bytes, length-stored, LeadsTo-access, written_at-set, block_after, slice_get-set_same, slice_get-set_other, bytes_at-written_at}

-- a read of a word's bytes at a pointer type gives the word
pointer_read-word_bytes : (memory : List Block) (word : Word) → IsWord word → pointer_read memory (word_bytes word) ≡ word
pointer_read-word_bytes memory (Plain number) fits = ap Plain (from_le_bytes-to_le_bytes_8 number fits)
pointer_read-word_bytes memory (To block offset) fits = rw (eq-eqb block block refl, (Decides-int_eq offset offset).1 refl) refl

take-word_bytes : (word : Word) → take 8 (word_bytes word) ≡ word_bytes word
take-word_bytes (Plain number) = refl
take-word_bytes (To block offset) = refl

-- a load at a pointer type gives the word stored
pub loaded_pointer : (memory : List Block) (at word : Word) → IsWord word → access_fault memory at 8 ≡ None →
    loaded (stored memory at 8 word) at 8 true ≡ word
loaded_pointer memory at word fits none =
    let bytes = word_bytes word in
    let written : stored memory at 8 word ≡ written_at memory at bytes = ap (written_at memory at) (take-word_bytes word) in
    let eight : length bytes ≡ 8 = length-word_bytes word in
    let allowed : access_fault memory at (length bytes) ≡ None = ap (access_fault memory at) eight ∙ none in
    let same : bytes_at (written_at memory at bytes) at 8 ≡ bytes =
    subst (λ (count : ℕ). bytes_at (written_at memory at bytes) at count ≡ bytes) eight (bytes_at-written_at memory at bytes allowed) in
    ap (λ (after : List Block). pointer_read after (bytes_at after at 8)) written
    ∙ ap (pointer_read (written_at memory at bytes)) same
    ∙ pointer_read-word_bytes (written_at memory at bytes) word fits

-- the base that the address numbers of a block's bytes count from
abbrev base_of : Option Block → ℕ
base_of block = option_map_or (λ found. found.base) block 0

-- a write moves no block
base_of-written_at : (memory : List Block) (at : Word) (written : List Byte) (count number : ℕ) → LeadsTo memory at count →
    base_of (slice_get (written_at memory at written) number) ≡ base_of (slice_get memory number)
base_of-written_at memory at written count number access =
    ap (λ (blocks : List Block). base_of (slice_get blocks number)) (written_at-set memory at written count access) ∙ by_cases (cases_eq number access.number)
  where
    by_cases : (number ≡ access.number) ⊎ (number ≡ access.number → ⊥) →
        base_of (slice_get (set memory access.number (block_after access.block access.from written)) number) ≡ base_of (slice_get memory number)
    by_cases (inl is) =
        let new = block_after access.block access.from written in
        rw is (ap base_of (slice_get-set_same memory access.number access.block new access.stands) ∙ sym (ap base_of access.stands))
    by_cases (inr is_not) = ap base_of (slice_get-set_other memory access.number number (block_after access.block access.from written) is_not)

-- the address number of a word stays when bytes are written
address_number-written_at : (memory : List Block) (at : Word) (written : List Byte) (count : ℕ) (word : Word) → LeadsTo memory at count →
    address_number (written_at memory at written) word ≡ address_number memory word
address_number-written_at memory at written count (Plain number) access = refl
address_number-written_at memory at written count (To block offset) access =
    ap (λ (base : ℕ). wrapped (pos base +ℤ offset)) (base_of-written_at memory at written count block access)

-- the lowest bytes of a number, each at its worth, are the number modulo a power of 256
sum_through-bytes : (number k : ℕ) → sum_through (λ i. byte_worth i (byte_at i number)) k ≡ number % 256 ^ suc k
sum_through-bytes number zero = refl
sum_through-bytes number (suc k) =
    ap (λ (low : ℕ). low + byte_at (suc k) number * 256 ^ suc k) (sum_through-bytes number k)
    ∙ add_comm (number % 256 ^ suc k) (number / 256 ^ suc k % 256 * 256 ^ suc k)
    ∙ sym (mod-mul number {m = 256} {c = 256 ^ suc k} (omega arith) (one-le-pow (suc k) 256 (omega arith)))
    ∙ ap (λ (bound : ℕ). number % bound) (sym (pow-succ' 256 (suc k)))

-- a fact of each number up to 8
up_to_eight : (P : ℕ → Type 0) → P 0 → P 1 → P 2 → P 3 → P 4 → P 5 → P 6 → P 7 → P 8 → (size : ℕ) → size ≤ 8 → P size
up_to_eight P p0 p1 p2 p3 p4 p5 p6 p7 p8 zero most = p0
up_to_eight P p0 p1 p2 p3 p4 p5 p6 p7 p8 (suc zero) most = p1
up_to_eight P p0 p1 p2 p3 p4 p5 p6 p7 p8 (suc (suc zero)) most = p2
up_to_eight P p0 p1 p2 p3 p4 p5 p6 p7 p8 (suc (suc (suc zero))) most = p3
up_to_eight P p0 p1 p2 p3 p4 p5 p6 p7 p8 (suc (suc (suc (suc zero)))) most = p4
up_to_eight P p0 p1 p2 p3 p4 p5 p6 p7 p8 (suc (suc (suc (suc (suc zero))))) most = p5
up_to_eight P p0 p1 p2 p3 p4 p5 p6 p7 p8 (suc (suc (suc (suc (suc (suc zero)))))) most = p6
up_to_eight P p0 p1 p2 p3 p4 p5 p6 p7 p8 (suc (suc (suc (suc (suc (suc (suc zero))))))) most = p7
up_to_eight P p0 p1 p2 p3 p4 p5 p6 p7 p8 (suc (suc (suc (suc (suc (suc (suc (suc zero)))))))) most = p8
up_to_eight P p0 p1 p2 p3 p4 p5 p6 p7 p8 (suc (suc (suc (suc (suc (suc (suc (suc (suc size))))))))) most = absurd (omega arith)

-- the number that the lowest bytes of a number hold
from_le_bytes-take : (number size : ℕ) → size ≤ 8 → from_le_bytes w64 (take size (to_le_bytes w64 number)) ≡ number % 2 ^ (8 * size)
from_le_bytes-take number = up_to_eight (λ size. from_le_bytes w64 (take size (to_le_bytes w64 number)) ≡ number % 2 ^ (8 * size))
    (omega arith)
    (simp add-zero (sum_through-bytes number 0))
    (simp add-zero (sum_through-bytes number 1))
    (simp add-zero (sum_through-bytes number 2))
    (simp add-zero (sum_through-bytes number 3))
    (simp add-zero (sum_through-bytes number 4))
    (simp add-zero (sum_through-bytes number 5))
    (simp add-zero (sum_through-bytes number 6))
    (sum_through-bytes number 7)

-- the bytes of a word are those of its address number
byte_number-word_bytes : (memory : List Block) (word : Word) → map (byte_number memory) (word_bytes word) ≡ to_le_bytes w64 (address_number memory word)
byte_number-word_bytes memory (Plain number) = refl
byte_number-word_bytes memory (To block offset) = rw (div-one (address_in memory block offset)) refl

-- a load at an integer type gives the address number of the word stored, as far as its bytes go
pub loaded_number : (memory : List Block) (at : Word) (size : ℕ) (word : Word) → size ≤ 8 → access_fault memory at size ≡ None →
    loaded (stored memory at size word) at size false ≡ Plain (address_number memory word % 2 ^ (8 * size))
loaded_number memory at size word most none =
    let access = LeadsTo-access memory at size none in
    let bytes = take size (word_bytes word) in
    let after = written_at memory at bytes in
    let same_size : length bytes ≡ size = length-stored size word most in
    let allowed : access_fault memory at (length bytes) ≡ None = ap (access_fault memory at) same_size ∙ none in
    let same : bytes_at after at size ≡ bytes =
    subst (λ (count : ℕ). bytes_at after at count ≡ bytes) same_size (bytes_at-written_at memory at bytes allowed) in
    let numbers : map (byte_number after) bytes ≡ take size (to_le_bytes w64 (address_number memory word)) =
    sym (take-map (byte_number after) size (word_bytes word))
    ∙ ap (take size) (byte_number-word_bytes after word ∙ ap (to_le_bytes w64) (address_number-written_at memory at bytes size word access)) in
    ap (number_read after) same
    ∙ ap (λ (held : List ℕ). Plain (from_le_bytes w64 held)) numbers
    ∙ ap Plain (from_le_bytes-take (address_number memory word) size most)
