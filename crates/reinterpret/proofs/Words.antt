-- Words that bytes hold.
use Rattle.std.proofs.Common.{◌≡◌, ℕ, zero, suc, ◌+◌, ◌-◌, ◌*◌, ◌/◌, ◌%◌, ◌^◌, ◌<◌, ◌≤◌, Bool, true, false, ◌||◌, List, [], ◌∷◌, ◌++◌, map, length, take, drop, replicate, get_or, set, pos, nat_eq, Some, refl, sym, ◌∙◌, ap, subst, eqb-true, length-append, append-nil, arith}
use Rattle.std.specs.Prelude.{slice_get, if◌then◌else◌}
use Rattle.std.specs.Int.{w64, from_le_bytes}
use Rattle.std.specs.List.{All}
use Rattle.std.proofs.Math.Nat.{mod-lt}
use Rattle.std.proofs.lemmas.Bool.{false≢true}
use Rattle.std.proofs.lemmas.List.Elements.{All-head, All-tail}
use Rattle.std.proofs.lemmas.Nat.{le_bytes_8}
use Rattle.std.proofs.lemmas.Option.{same_Some}
use Rattle.bytes_core.specs.declared.byte.Byte.{Byte}
use Rattle.bytes_core.specs.declared.byte.Byte.TheVariants.{Num, Part}
use Rattle.bytes_core.specs.declared.block.Block.{Block}
use Rattle.bytes_core.specs.declared.word.Word.{Word}
use Rattle.bytes_core.specs.declared.word.Word.TheVariants.{Plain, To}
use Rattle.bytes_core.specs.Access.{loaded, stored}
use Rattle.bytes_core.specs.Laws.{IsWord}
use Rattle.bytes_core.specs.Value.{word_bytes, byte_number, address_in, number_of, are_parts, number_read, pointer_read}
use Rattle.bytes_core.proofs.Loads.{loaded_pointer, loaded_number}
use Rattle.graph.specs.Sizes.{is_scalar_size}
use Rattle.graph.specs.State.{IsByte}
use Rattle.graph.specs.Meaning.{HasClass, HaveClasses}
use Rattle.changes.proofs.Node.{block_with, low_long}
use Rattle.changes.proofs.Splice.{spliced-own}
use Rattle.reinterpret.proofs.WriteSound.{stored_is}
use Rattle.changes.proofs.Accesses.{no_fault}

pub set_same : (memory : List Block) (number : ℕ) (block : Block) → slice_get memory number ≡ Some block → set memory number block ≡ memory
set_same [] number block there = refl
set_same (first ∷ rest) zero block there = ap (λ (b : Block). b ∷ rest) (sym (same_Some _ _ there))
set_same (first ∷ rest) (suc number) block there = ap (λ (bs : List Block). first ∷ bs) (set_same rest number block there)

-- what stands there already
stored_same : (memory : List Block) (number from size : ℕ) (word : Word) (block : Block) → slice_get memory number ≡ Some block → size ≤ 8 → from + size ≤ length block.bytes →
    take size (drop from block.bytes) ≡ take size (word_bytes word) → stored memory (To number (pos from)) size word ≡ memory
stored_same memory number from size word block there small room stand =
    stored_is memory number from size word block there
    ∙ ap (λ (bytes : List Byte). set memory number (block_with block bytes))
    (spliced-own block.bytes from (take size (word_bytes word)) (omega (arith, low_long size word small)) (Num 0)
    (ap length (sym stand) ∙ ap (λ (n : ℕ). length (take n (drop from block.bytes))) (sym (low_long size word small)))
    (sym stand ∙ ap (λ (n : ℕ). take n (drop from block.bytes)) (sym (low_long size word small))))
    ∙ set_same memory number block there

module _ (memory : List Block) (number from : ℕ) (block : Block) (there : slice_get memory number ≡ Some block) (live : block.live ≡ true) where
  -- a word that stands there is read at a pointer type
  pub pointer_held : (word : Word) → IsWord word → from + 8 ≤ length block.bytes → take 8 (drop from block.bytes) ≡ take 8 (word_bytes word) → loaded memory (To number (pos from)) 8 true ≡ word
  pointer_held word small room stand =
      ap (λ (m : List Block). loaded m (To number (pos from)) 8 true) (sym (stored_same memory number from 8 word block there (omega arith) room stand))
      ∙ loaded_pointer memory (To number (pos from)) word small (no_fault memory number from 8 block there live room)

  -- and a number at an integer type
  pub number_held : (size n : ℕ) → is_scalar_size size ≡ true → size ≤ 8 → n < 256 ^ size → from + size ≤ length block.bytes → take size (drop from block.bytes) ≡ take size (word_bytes (Plain n)) →
      loaded memory (To number (pos from)) size false ≡ Plain n
  number_held size n scalar small fits room stand =
      ap (λ (m : List Block). loaded m (To number (pos from)) size false) (sym (stored_same memory number from size (Plain n) block there small room stand))
      ∙ loaded_number memory (To number (pos from)) size (Plain n) small (no_fault memory number from size block there live room)
      ∙ ap Plain (whole size scalar fits)
    where
      whole : (size : ℕ) → is_scalar_size size ≡ true → n < 256 ^ size → n % 2 ^ (8 * size) ≡ n
      whole size scalar fits = by_cases (nat_eq size 1) refl (nat_eq size 2) refl (nat_eq size 4) refl (nat_eq size 8) refl scalar
        where
          by_cases : (a : Bool) → nat_eq size 1 ≡ a → (b : Bool) → nat_eq size 2 ≡ b → (c : Bool) → nat_eq size 4 ≡ c → (d : Bool) → nat_eq size 8 ≡ d → (a || (b || (c || d))) ≡ true → n % 2 ^ (8 * size) ≡ n
          by_cases true is b b_is c c_is d d_is any = subst (λ (s : ℕ). n < 256 ^ s → n % 2 ^ (8 * s) ≡ n) (sym (eqb-true size 1 is)) (λ (f : n < 256 ^ 1). omega (arith, f)) fits
          by_cases false a_is true is c c_is d d_is any = subst (λ (s : ℕ). n < 256 ^ s → n % 2 ^ (8 * s) ≡ n) (sym (eqb-true size 2 is)) (λ (f : n < 256 ^ 2). omega (arith, f)) fits
          by_cases false a_is false b_is true is d d_is any = subst (λ (s : ℕ). n < 256 ^ s → n % 2 ^ (8 * s) ≡ n) (sym (eqb-true size 4 is)) (λ (f : n < 256 ^ 4). omega (arith, f)) fits
          by_cases false a_is false b_is false c_is true is any = subst (λ (s : ℕ). n < 256 ^ s → n % 2 ^ (8 * s) ≡ n) (sym (eqb-true size 8 is)) (λ (f : n < 256 ^ 8). omega (arith, f)) fits
          by_cases false a_is false b_is false c_is false d_is any = absurd (false≢true any)

-- Bytes that are numbers.

pub record AreNumbers (bytes : List Byte) : Type 0 where
  pub numbers : List ℕ
  pub are : bytes ≡ map Num numbers

pub are_numbers : (plane : List ℕ) (bytes : List Byte) → ((i : ℕ) → get_or plane i 0 < 2) → HaveClasses plane bytes → AreNumbers bytes
are_numbers [] [] low has = record { numbers = []; are = refl }
are_numbers [] (byte ∷ bytes) low has = elim has [ ]
are_numbers (class ∷ plane) [] low has = elim has [ ]
are_numbers (class ∷ plane) (byte ∷ bytes) low has = by_byte class byte (low 0) has.0 (are_numbers plane bytes (λ i. low (suc i)) has.1)
  where
    by_byte : (class : ℕ) (byte : Byte) → class < 2 → HasClass class byte → AreNumbers bytes → AreNumbers (byte ∷ bytes)
    by_byte class (Num number) low has rest = record { numbers = number ∷ rest.numbers; are = ap (λ (bs : List Byte). Num number ∷ bs) rest.are }
    by_byte zero (Part block offset k) low has rest = elim has [ ]
    by_byte (suc zero) (Part block offset k) low has rest = elim has [ ]
    by_byte (suc (suc class)) (Part block offset k) low has rest = absurd (omega arith)

small_at : (numbers : List ℕ) → All IsByte (map Num numbers) → (i : ℕ) → get_or numbers i 0 < 256
small_at [] all i = omega arith
small_at (number ∷ rest) all zero = All-head IsByte (Num number) (map Num rest) all
small_at (number ∷ rest) all (suc i) = small_at rest (All-tail IsByte (Num number) (map Num rest) all) i

long_map : (numbers : List ℕ) → length (map Num numbers) ≡ length numbers
long_map [] = refl
long_map (number ∷ rest) = ap suc (long_map rest)

-- a list of a scalar's length, written out with zeros behind
abbrev pub Fits : ℕ → List ℕ → Type 0
Fits size ns = (from_le_bytes w64 (ns ++ replicate (8 - size) 0) < 256 ^ size) × (from_le_bytes w64 (ns ++ replicate (8 - size) 0) ≡ from_le_bytes w64 ns)

fits_1 : (ns : List ℕ) → length ns ≡ 1 → ((i : ℕ) → get_or ns i 0 < 256) → Fits 1 ns
fits_1 [] long small = absurd (omega arith)
fits_1 (a ∷ []) long small = let a_small = small 0 in (omega arith, refl)
fits_1 (a ∷ (b ∷ rest)) long small = absurd (omega arith)

fits_2 : (ns : List ℕ) → length ns ≡ 2 → ((i : ℕ) → get_or ns i 0 < 256) → Fits 2 ns
fits_2 [] long small = absurd (omega arith)
fits_2 (a ∷ []) long small = absurd (omega arith)
fits_2 (a ∷ (b ∷ [])) long small = let a_small = small 0 in let b_small = small 1 in (omega arith, refl)
fits_2 (a ∷ (b ∷ (c ∷ rest))) long small = absurd (omega arith)

fits_4 : (ns : List ℕ) → length ns ≡ 4 → ((i : ℕ) → get_or ns i 0 < 256) → Fits 4 ns
fits_4 [] long small = absurd (omega arith)
fits_4 (a ∷ []) long small = absurd (omega arith)
fits_4 (a ∷ (b ∷ [])) long small = absurd (omega arith)
fits_4 (a ∷ (b ∷ (c ∷ []))) long small = absurd (omega arith)
fits_4 (a ∷ (b ∷ (c ∷ (d ∷ [])))) long small = let a_small = small 0 in let b_small = small 1 in let c_small = small 2 in let d_small = small 3 in (omega arith, refl)
fits_4 (a ∷ (b ∷ (c ∷ (d ∷ (e ∷ rest))))) long small = absurd (omega arith)

fits_8 : (ns : List ℕ) → ((i : ℕ) → get_or ns i 0 < 256) → Fits 8 ns
fits_8 ns small = (subst (λ (xs : List ℕ). from_le_bytes w64 xs < 256 ^ 8) (sym (append-nil ns)) (eight ns small), ap (from_le_bytes w64) (append-nil ns))
  where
    eight : (ns : List ℕ) → ((i : ℕ) → get_or ns i 0 < 256) → from_le_bytes w64 ns < 256 ^ 8
    eight ns small = let a = small 0 in let b = small 1 in let c = small 2 in let d = small 3 in let e = small 4 in let f = small 5 in let g = small 6 in let h = small 7 in omega arith

fits : (size : ℕ) (ns : List ℕ) → is_scalar_size size ≡ true → length ns ≡ size → ((i : ℕ) → get_or ns i 0 < 256) → Fits size ns
fits size ns scalar long small = by_cases (nat_eq size 1) refl (nat_eq size 2) refl (nat_eq size 4) refl (nat_eq size 8) refl scalar
  where
    by_cases : (a : Bool) → nat_eq size 1 ≡ a → (b : Bool) → nat_eq size 2 ≡ b → (c : Bool) → nat_eq size 4 ≡ c → (d : Bool) → nat_eq size 8 ≡ d → (a || (b || (c || d))) ≡ true → Fits size ns
    by_cases true is b b_is c c_is d d_is any = subst (λ (n : ℕ). Fits n ns) (sym (eqb-true size 1 is)) (fits_1 ns (long ∙ eqb-true size 1 is) small)
    by_cases false a_is true is c c_is d d_is any = subst (λ (n : ℕ). Fits n ns) (sym (eqb-true size 2 is)) (fits_2 ns (long ∙ eqb-true size 2 is) small)
    by_cases false a_is false b_is true is d d_is any = subst (λ (n : ℕ). Fits n ns) (sym (eqb-true size 4 is)) (fits_4 ns (long ∙ eqb-true size 4 is) small)
    by_cases false a_is false b_is false c_is true is any = subst (λ (n : ℕ). Fits n ns) (sym (eqb-true size 8 is)) (fits_8 ns small)
    by_cases false a_is false b_is false c_is false d_is any = absurd (false≢true any)

-- zeros behind stay small
zero_at : (count i : ℕ) → get_or (replicate count 0) i 0 < 256
zero_at zero i = omega arith
zero_at (suc count) zero = omega arith
zero_at (suc count) (suc i) = zero_at count i

long_zeros : (count : ℕ) → length (replicate {A = ℕ} count 0) ≡ count
long_zeros zero = refl
long_zeros (suc count) = ap suc (long_zeros count)

small_padded : (ns : List ℕ) (count : ℕ) → ((i : ℕ) → get_or ns i 0 < 256) → (i : ℕ) → get_or (ns ++ replicate count 0) i 0 < 256
small_padded [] count small i = zero_at count i
small_padded (n ∷ rest) count small zero = small 0
small_padded (n ∷ rest) count small (suc i) = small_padded rest count (λ j. small (suc j)) i

take_front : (ns zs : List ℕ) → take (length ns) (map Num (ns ++ zs)) ≡ map Num ns
take_front [] zs = refl
take_front (n ∷ rest) zs = ap (λ (bs : List Byte). Num n ∷ bs) (take_front rest zs)

-- bytes that are numbers hold a number, which fits them
pub record IsNumberHeld (bytes : List Byte) (size : ℕ) : Type 0 where
  pub number : ℕ
  pub fit : number < 256 ^ size
  pub held : bytes ≡ take size (word_bytes (Plain number))

pub number_in : (bytes : List Byte) (size : ℕ) → is_scalar_size size ≡ true → size ≤ 8 → length bytes ≡ size → All IsByte bytes → AreNumbers bytes → IsNumberHeld bytes size
number_in bytes size scalar most long all numbers = record {
  number = from_le_bytes w64 (numbers.numbers ++ replicate (8 - size) 0);
  fit = (fits size numbers.numbers scalar long_numbers small).0;
  held = numbers.are ∙ sym (take_front numbers.numbers (replicate (8 - size) 0))
      ∙ ap (λ (n : ℕ). take n (map Num (numbers.numbers ++ replicate (8 - size) 0))) long_numbers
      ∙ ap (λ (ns : List ℕ). take size (map Num ns))
      (sym (le_bytes_8 (numbers.numbers ++ replicate (8 - size) 0) (from_le_bytes w64 (numbers.numbers ++ replicate (8 - size) 0))
      (length-append numbers.numbers (replicate (8 - size) 0) ∙ (let a = long_numbers in let b = long_zeros (8 - size) in omega arith)) (small_padded numbers.numbers (8 - size) small) refl));
}
  where
    long_numbers : length numbers.numbers ≡ size
    long_numbers = sym (long_map numbers.numbers) ∙ ap length (sym numbers.are) ∙ long

    small : (i : ℕ) → get_or numbers.numbers i 0 < 256
    small = small_at numbers.numbers (subst (λ (bs : List Byte). All IsByte bs) numbers.are all)

-- What is read of any bytes.

byte_small : (memory : List Block) (byte : Byte) → IsByte byte → byte_number memory byte < 256
byte_small memory (Num number) small = small
byte_small memory (Part block offset k) small = mod-lt (address_in memory block offset / 256 ^ k) (omega arith)

bytes_small : (memory : List Block) (bytes : List Byte) → All IsByte bytes → (i : ℕ) → get_or (map (byte_number memory) bytes) i 0 < 256
bytes_small memory [] all i = omega arith
bytes_small memory (byte ∷ rest) all zero = byte_small memory byte (All-head IsByte byte rest all)
bytes_small memory (byte ∷ rest) all (suc i) = bytes_small memory rest (All-tail IsByte byte rest all) i

long_numbers_of : (memory : List Block) (bytes : List Byte) → length (map (byte_number memory) bytes) ≡ length bytes
long_numbers_of memory [] = refl
long_numbers_of memory (byte ∷ rest) = ap suc (long_numbers_of memory rest)

-- a number that fits
pub number_fits : (memory : List Block) (bytes : List Byte) (size : ℕ) → is_scalar_size size ≡ true → length bytes ≡ size → All IsByte bytes → number_of memory bytes < 256 ^ size
number_fits memory bytes size scalar long all =
    let fit = fits size (map (byte_number memory) bytes) scalar (long_numbers_of memory bytes ∙ long) (bytes_small memory bytes all) in
    subst (λ (n : ℕ). n < 256 ^ size) fit.1 fit.0

-- numbers are read as a number, at a pointer type too
pub numbers_read : (memory : List Block) (bytes : List Byte) → AreNumbers bytes → pointer_read memory bytes ≡ number_read memory bytes
numbers_read memory bytes numbers = ap (pointer_read memory) numbers.are ∙ as_number numbers.numbers ∙ ap (number_read memory) (sym numbers.are)
  where
    as_number : (ns : List ℕ) → pointer_read memory (map Num ns) ≡ number_read memory (map Num ns)
    as_number [] = refl
    as_number (n ∷ rest) = refl

-- a word that is read at a pointer type is one
pub pointer_small : (memory : List Block) (bytes : List Byte) → length bytes ≡ 8 → All IsByte bytes → IsWord (pointer_read memory bytes)
pointer_small memory [] long all = absurd (omega arith)
pointer_small memory (Num number ∷ rest) long all = let fit = number_fits memory (Num number ∷ rest) 8 refl long all in omega arith
pointer_small memory (Part block offset k ∷ rest) long all = by_parts (are_parts block offset 0 (Part block offset k ∷ rest))
  where
    by_parts : (b : Bool) → IsWord (if b then To block offset else number_read memory (Part block offset k ∷ rest))
    by_parts true = tt
    by_parts false = let fit = number_fits memory (Part block offset k ∷ rest) 8 refl long all in omega arith
