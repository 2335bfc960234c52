-- Words that fit their sizes.
use Rattle.std.proofs.Common.{◌≡◌, ℕ, zero, suc, ◌+◌, ◌/◌, ◌^◌, ◌<◌, List, [], ◌∷◌, ◌++◌, map, length, take, drop, min, Bool, true, false, refl, sym, ap, subst, ◌∙◌, inl, inr, Option, None, Some, arith, get_or}
use Rattle.std.specs.Prelude.{ℤ, pos, negsuc, ◌+ℤ◌, ◌||◌, if◌then◌else◌, nat_eq, slice_get, slice_index, All}
use Rattle.std.specs.Int.{w64, from_le_bytes, to_le_bytes, bytes_low_first, byte_at}
use Rattle.std.proofs.Math.Nat.{mod-lt}
use Rattle.std.proofs.lemmas.Bool.{or_cases, eqb-true}
use Rattle.std.proofs.lemmas.List.{get_or_past, length-map, length-take, length-drop}
use Rattle.std.proofs.lemmas.List.Elements.{All-nil, All-cons, All-head, All-tail, All-take, All-drop, All-append, All-set, All-map}
use Rattle.arithmetic.specs.declared.size.Size.{Size}
use Rattle.arithmetic.specs.declared.size.Size.TheVariants.{One, Two, Four, Eight}
use Rattle.arithmetic.specs.Size.{bytes}
use Rattle.bytes_core.specs.declared.byte.Byte.{Byte}
use Rattle.bytes_core.specs.declared.byte.Byte.TheVariants.{Num, Part}
use Rattle.bytes_core.specs.declared.word.Word.{Word}
use Rattle.bytes_core.specs.declared.word.Word.TheVariants.{Plain, To}
use Rattle.bytes_core.specs.declared.block.Block.{Block}
use Rattle.bytes_core.specs.Value.{word_bytes, wrapped, moved, address_in, byte_number, number_of, are_parts, number_read, pointer_read}
use Rattle.bytes_core.specs.Access.{access_fault, block_bytes, bytes_at, loaded, overwritten, with_bytes, written_at}
use Rattle.bytes_core.specs.Laws.{LeadsTo}
use Rattle.bytes_core.proofs.Written.{accessible}
use Rattle.flow.specs.Valid.{is_scalar_size}
use Rattle.flow.specs.Fitting.{FitsSize, IsByte}
use Rattle.flow.proofs.Ascending.{All-at}

-- a size of a scalar
pub scalar : (size : ℕ) → is_scalar_size size ≡ true → (one : Size) × (bytes one ≡ size)
scalar size is = elim (or_cases (nat_eq size 1) (nat_eq size 2 || (nat_eq size 4 || nat_eq size 8)) is) [
  | inl one ↦ (One, sym (eqb-true size 1 one))
  | inr more ↦ (elim (or_cases (nat_eq size 2) (nat_eq size 4 || nat_eq size 8) more) [
    | inl two ↦ (Two, sym (eqb-true size 2 two))
    | inr more ↦ (elim (or_cases (nat_eq size 4) (nat_eq size 8) more) [
      | inl four ↦ (Four, sym (eqb-true size 4 four))
      | inr eight ↦ (Eight, sym (eqb-true size 8 eight))
    ])
  ])
]

-- numbers of bytes
digits_small : (numbers : List ℕ) (size : Size) → length numbers ≡ bytes size → ((place : ℕ) → slice_index numbers place < 256) →
    from_le_bytes w64 numbers < 256 ^ bytes size
digits_small numbers One long small =
    let a = small 0 in
    let b : get_or numbers 1 0 ≡ 0 = get_or_past numbers 1 0 (omega arith) in let c : get_or numbers 2 0 ≡ 0 = get_or_past numbers 2 0 (omega arith) in
    let d : get_or numbers 3 0 ≡ 0 = get_or_past numbers 3 0 (omega arith) in let e : get_or numbers 4 0 ≡ 0 = get_or_past numbers 4 0 (omega arith) in
    let f : get_or numbers 5 0 ≡ 0 = get_or_past numbers 5 0 (omega arith) in let g : get_or numbers 6 0 ≡ 0 = get_or_past numbers 6 0 (omega arith) in
    let h : get_or numbers 7 0 ≡ 0 = get_or_past numbers 7 0 (omega arith) in
    omega arith
digits_small numbers Two long small =
    let a = small 0 in let b = small 1 in
    let c : get_or numbers 2 0 ≡ 0 = get_or_past numbers 2 0 (omega arith) in
    let d : get_or numbers 3 0 ≡ 0 = get_or_past numbers 3 0 (omega arith) in let e : get_or numbers 4 0 ≡ 0 = get_or_past numbers 4 0 (omega arith) in
    let f : get_or numbers 5 0 ≡ 0 = get_or_past numbers 5 0 (omega arith) in let g : get_or numbers 6 0 ≡ 0 = get_or_past numbers 6 0 (omega arith) in
    let h : get_or numbers 7 0 ≡ 0 = get_or_past numbers 7 0 (omega arith) in
    omega arith
digits_small numbers Four long small =
    let a = small 0 in let b = small 1 in let c = small 2 in let d = small 3 in
    let e : get_or numbers 4 0 ≡ 0 = get_or_past numbers 4 0 (omega arith) in
    let f : get_or numbers 5 0 ≡ 0 = get_or_past numbers 5 0 (omega arith) in let g : get_or numbers 6 0 ≡ 0 = get_or_past numbers 6 0 (omega arith) in
    let h : get_or numbers 7 0 ≡ 0 = get_or_past numbers 7 0 (omega arith) in
    omega arith
digits_small numbers Eight long small =
    let a = small 0 in let b = small 1 in let c = small 2 in let d = small 3 in let e = small 4 in let f = small 5 in let g = small 6 in let h = small 7 in
    omega arith

byte_small : (memory : List Block) (byte : Byte) → IsByte byte → byte_number memory byte < 256
byte_small memory (Num number) small = small
byte_small memory (Part block offset k) small = mod-lt (address_in memory block offset / 256 ^ k) (omega arith)

bytes_small : (memory : List Block) (items : List Byte) → All IsByte items → (place : ℕ) → slice_index (map (byte_number memory) items) place < 256
bytes_small memory [] all place = omega arith
bytes_small memory (first ∷ rest) all zero = byte_small memory first (All-head IsByte first rest all)
bytes_small memory (first ∷ rest) all (suc place) = bytes_small memory rest (All-tail IsByte first rest all) place

number_fits : (memory : List Block) (items : List Byte) (size : Size) → length items ≡ bytes size → All IsByte items → number_of memory items < 256 ^ bytes size
number_fits memory items size long all = digits_small (map (byte_number memory) items) size (length-map items (byte_number memory) ∙ long) (bytes_small memory items all)

pointer_fits : (memory : List Block) (items : List Byte) (size : Size) → bytes size ≡ 8 → length items ≡ bytes size → All IsByte items → FitsSize (bytes size) (pointer_read memory items)
pointer_fits memory [] size eight long all = number_fits memory [] size long all
pointer_fits memory (Num number ∷ rest) size eight long all = number_fits memory (Num number ∷ rest) size long all
pointer_fits memory (Part block offset k ∷ rest) size eight long all = by_test (are_parts block offset 0 (Part block offset k ∷ rest))
  where
    by_test : (whole : Bool) → FitsSize (bytes size) (if whole then To block offset else number_read memory (Part block offset k ∷ rest))
    by_test true = eight
    by_test false = number_fits memory (Part block offset k ∷ rest) size long all

-- what a load gives
pub bytes_there : (memory : List Block) (at : Word) (count : ℕ) → All (λ block. All IsByte block.bytes) memory → All IsByte (bytes_at memory at count)
bytes_there memory (Plain number) count all = All-nil IsByte
bytes_there memory (To block offset) count all = by_block (slice_get memory block) refl offset
  where
    by_block : (found : Option Block) → slice_get memory block ≡ found → (offset : ℤ) → All IsByte (block_bytes found offset count)
    by_block None stands offset = All-nil IsByte
    by_block (Some one) stands (negsuc before) = All-nil IsByte
    by_block (Some one) stands (pos from) =
        All-take IsByte count (drop from one.bytes) (All-drop IsByte from one.bytes (All-at (λ block. All IsByte block.bytes) memory block one stands all))

bytes_long : (memory : List Block) (at : Word) (count : ℕ) → access_fault memory at count ≡ None → length (bytes_at memory at count) ≡ count
bytes_long memory at count none =
    let leads : LeadsTo memory at count = (accessible memory at count).0 none in
    let room = leads.room in
    ap (λ (at : Word). length (bytes_at memory at count)) leads.is
    ∙ (ap (λ (found : Option Block). length (block_bytes found (pos leads.from) count)) leads.stands
    ∙ (length-take count (drop leads.from leads.block.bytes) ∙ (ap (min count) (length-drop leads.from leads.block.bytes) ∙ omega arith)))

pub loaded_fits : (memory : List Block) (at : Word) (size : ℕ) (pointer : Bool) → All (λ block. All IsByte block.bytes) memory → is_scalar_size size ≡ true →
    (pointer ≡ true → size ≡ 8) → access_fault memory at size ≡ None → FitsSize size (loaded memory at size pointer)
loaded_fits memory at size pointer all is eight none = by_kind pointer eight
  where
    one : (one : Size) × (bytes one ≡ size)
    one = scalar size is

    long : length (bytes_at memory at size) ≡ bytes one.0
    long = bytes_long memory at size none ∙ sym one.1

    by_kind : (pointer : Bool) → (pointer ≡ true → size ≡ 8) → FitsSize size (loaded memory at size pointer)
    by_kind true eight = subst (λ (size' : ℕ). FitsSize size' (pointer_read memory (bytes_at memory at size))) one.1
        (pointer_fits memory (bytes_at memory at size) one.0 (one.1 ∙ eight refl) long (bytes_there memory at size all))
    by_kind false eight = subst (λ (size' : ℕ). number_of memory (bytes_at memory at size) < 256 ^ size') one.1
        (number_fits memory (bytes_at memory at size) one.0 long (bytes_there memory at size all))

-- an address that is moved
pub moved_fits : (word : Word) (by : ℤ) → FitsSize 8 (moved word by)
moved_fits (Plain number) by = small (pos number +ℤ by)
  where
    small : (sum : ℤ) → wrapped sum < 256 ^ 8
    small (pos number) = mod-lt number (omega arith)
    small (negsuc before) = omega arith
moved_fits (To block offset) by = refl

-- what is written
number_bytes : (number : ℕ) → All (λ byte. byte < 256) (to_le_bytes w64 number)
number_bytes number = low 0 8
  where
    low : (place count : ℕ) → All (λ byte. byte < 256) (bytes_low_first place count number)
    low place zero = All-nil (λ byte. byte < 256)
    low place (suc count) = All-cons (λ byte. byte < 256) (byte_at place number) (bytes_low_first (suc place) count number) (small place) (low (suc place) count)
      where
        small : (place : ℕ) → byte_at place number < 256
        small zero = mod-lt number (omega arith)
        small (suc place) = mod-lt (number / 256 ^ suc place) (omega arith)

pub word_bytes_fit : (word : Word) → All IsByte (word_bytes word)
word_bytes_fit (Plain number) = All-map IsByte Num (to_le_bytes w64 number) (number_bytes number)
word_bytes_fit (To block offset) = parts (0 ∷ 1 ∷ 2 ∷ 3 ∷ 4 ∷ 5 ∷ 6 ∷ 7 ∷ [])
  where
    parts : (places : List ℕ) → All IsByte (map (Part block offset) places)
    parts [] = All-nil IsByte
    parts (first ∷ rest) = All-cons IsByte (Part block offset first) (map (Part block offset) rest) tt (parts rest)

pub written_fits : (memory : List Block) (at : Word) (written : List Byte) → All (λ block. All IsByte block.bytes) memory → All IsByte written →
    All (λ block. All IsByte block.bytes) (written_at memory at written)
written_fits memory (Plain number) written all bytes = all
written_fits memory (To block (negsuc before)) written all bytes = all
written_fits memory (To block (pos from)) written all bytes = by_block (slice_get memory block) refl
  where
    by_block : (found : Option Block) → slice_get memory block ≡ found → All (λ block. All IsByte block.bytes) (with_bytes memory block found from written)
    by_block None stands = all
    by_block (Some one) stands =
        let there : All IsByte one.bytes = All-at (λ block. All IsByte block.bytes) memory block one stands all in
        All-set (λ block. All IsByte block.bytes) memory block (record one { bytes = overwritten one.bytes from written })
        (All-append IsByte (take from one.bytes) (written ++ drop (from + length written) one.bytes) (All-take IsByte from one.bytes there)
        (All-append IsByte written (drop (from + length written) one.bytes) bytes (All-drop IsByte (from + length written) one.bytes there))) all
