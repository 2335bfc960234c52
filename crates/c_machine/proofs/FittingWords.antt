-- What operators, conversions and loads make has 64 bits.
use Rattle.std.proofs.Common.{◌≡◌, ℕ, zero, suc, ◌-◌, ◌/◌, ◌%◌, ◌^◌, ◌<◌, ◌≤◌, List, [], ◌∷◌, map, Bool, true, false, refl, sym, subst, Option, None, Some, arith}
use Rattle.std.specs.Prelude.{ℤ, pos, negsuc, neg_ℤ, ◌+ℤ◌, not, ◌&&◌, ◌||◌, nat_eq, nat_lt, is_some, option_map, if◌then◌else◌, slice_get, slice_index, All, IfSome}
use Rattle.std.specs.Int.{w64, from_le_bytes}
use Rattle.std.specs.Option.{option_map_or}
use Rattle.std.proofs.Math.Nat.{mod-lt}
use Rattle.std.proofs.lemmas.Bool.{eqb-true, false≢true}
use Rattle.std.proofs.lemmas.List.Elements.{All-head, All-tail}
use Rattle.arithmetic.specs.declared.op.Op.{Op}
use Rattle.arithmetic.specs.declared.op.Op.TheVariants as op
use Rattle.arithmetic.specs.declared.size.Size.{Size}
use Rattle.arithmetic.specs.declared.size.Size.TheVariants.{One, Two, Four, Eight}
use Rattle.arithmetic.specs.Comparing.{answer}
use Rattle.arithmetic.specs.Computing.{computed, complemented}
use Rattle.arithmetic.specs.Conversion.{converted, truth}
use Rattle.arithmetic.specs.Size.{bytes, size_of}
use Rattle.arithmetic.specs.Value.{modulus, value, bits}
use Rattle.arithmetic.proofs.Inverse.{bits_small}
use Rattle.arithmetic.proofs.Quotients.{computed_small}
use Rattle.bytes_core.specs.declared.block.Block.{Block}
use Rattle.bytes_core.specs.declared.byte.Byte.{Byte}
use Rattle.bytes_core.specs.declared.byte.Byte.TheVariants.{Num, Part}
use Rattle.bytes_core.specs.declared.word.Word.{Word}
use Rattle.bytes_core.specs.declared.word.Word.TheVariants.{Plain, To}
use Rattle.bytes_core.specs.Access.{bytes_at, loaded}
use Rattle.bytes_core.specs.Value.{wrapped, address_number, address_in, is_same_address, moved, byte_number, number_of, are_parts, number_read, pointer_read}
use Rattle.cbase.specs.declared.tree.operators.BinaryOp.{BinaryOp}
use Rattle.cbase.specs.declared.tree.operators.BinaryOp.TheVariants as c
use Rattle.cbase.specs.declared.tree.operators.UnaryOp.{UnaryOp}
use Rattle.cbase.specs.declared.tree.operators.UnaryOp.TheVariants as one
use Rattle.typing.specs.declared.ctypes.kind.IntegerType.{IntegerType}
use Rattle.typing.specs.ctypes.Integers.{integer, int, promoted, wider, common}
use Rattle.typing.specs.values.Values as typed
use Rattle.typing.specs.values.Values.{is_whole, as_type, of_unary, in_common, shifted, are_equal, of_binary, offset_as}
use Rattle.c_machine.specs.declared.kind.Kind.{Kind}
use Rattle.c_machine.specs.declared.kind.Kind.TheVariants.{Integer, Pointer, Array, Struct, Void}
use Rattle.c_machine.specs.Choosing.{count_of}
use Rattle.c_machine.specs.Fitting.{IfThere, IsNumber, Fits, HasSize}
use Rattle.c_machine.specs.Keeping.{IsByte}
use Rattle.c_machine.specs.Step.{counted}
use Rattle.c_machine.specs.Words.{told, is_same, integer_as, as_kind, applied, moved_by, as_address, operated}

-- types that the data layouts have
pub whole_size : (count : ℕ) → is_some (size_of count) ≡ true → (size : Size) × (bytes size ≡ count)
whole_size count is = one (nat_eq count 1) refl is
  where
    eight : (b : Bool) → nat_eq count 8 ≡ b → is_some (if b then Some Eight else None) ≡ true → (size : Size) × (bytes size ≡ count)
    eight true same is = (Eight, sym (eqb-true count 8 same))
    eight false same is = absurd (false≢true is)

    four : (b : Bool) → nat_eq count 4 ≡ b → is_some (if b then Some Four else (if nat_eq count 8 then Some Eight else None)) ≡ true → (size : Size) × (bytes size ≡ count)
    four true same is = (Four, sym (eqb-true count 4 same))
    four false same is = eight (nat_eq count 8) refl is

    two : (b : Bool) → nat_eq count 2 ≡ b → is_some (if b then Some Two else (if nat_eq count 4 then Some Four else (if nat_eq count 8 then Some Eight else None))) ≡ true → (size : Size) × (bytes size ≡ count)
    two true same is = (Two, sym (eqb-true count 2 same))
    two false same is = four (nat_eq count 4) refl is

    one : (b : Bool) → nat_eq count 1 ≡ b → is_some (if b then Some One else (if nat_eq count 2 then Some Two else (if nat_eq count 4 then Some Four else (if nat_eq count 8 then Some Eight else None)))) ≡ true →
        (size : Size) × (bytes size ≡ count)
    one true same is = (One, sym (eqb-true count 1 same))
    one false same is = two (nat_eq count 2) refl is

size_small : (size : Size) → modulus (bytes size) ≤ 2 ^ 64
size_small One = omega arith
size_small Two = omega arith
size_small Four = omega arith
size_small Eight = omega arith

pub whole_small : (t : IntegerType) → is_whole t ≡ true → modulus t.bytes ≤ 2 ^ 64
whole_small t is = let size = whole_size t.bytes is in subst (λ (count : ℕ). modulus count ≤ 2 ^ 64) size.1 (size_small size.0)

promoted_whole : (t : IntegerType) → is_whole t ≡ true → is_whole (promoted t) ≡ true
promoted_whole t is = by_size (nat_lt t.bytes 4)
  where
    by_size : (b : Bool) → is_whole (if b then int else t) ≡ true
    by_size true = refl
    by_size false = is

wider_whole : (left right : IntegerType) → is_whole left ≡ true → is_whole right ≡ true → is_whole (wider left right) ≡ true
wider_whole left right first second = by_left (nat_lt left.bytes right.bytes) (nat_lt right.bytes left.bytes)
  where
    by_left : (b other : Bool) → is_whole (if b then right else (if other then left else integer left.bytes (left.signed && right.signed))) ≡ true
    by_left true other = second
    by_left false true = first
    by_left false false = first

common_whole : (left right : IntegerType) → is_whole left ≡ true → is_whole right ≡ true → is_whole (common left right) ≡ true
common_whole left right first second = wider_whole (promoted left) (promoted right) (promoted_whole left first) (promoted_whole right second)

-- numbers
answer_small : (holds : Bool) → IsNumber (answer holds)
answer_small true = omega arith
answer_small false = omega arith

bits_fit : (t : IntegerType) (number : ℤ) → is_whole t ≡ true → IsNumber (bits t.bytes number)
bits_fit t number is =
    let size = whole_size t.bytes is in
    let small : modulus t.bytes ≤ 2 ^ 64 = whole_small t is in
    let below : bits t.bytes number < modulus t.bytes = subst (λ (count : ℕ). bits count number < modulus count) size.1 (bits_small size.0 number) in
    omega arith

truth_small : (size number : ℕ) → IsNumber (truth size number)
truth_small size number = by_zero (nat_eq (number % modulus size) 0)
  where
    by_zero : (b : Bool) → IsNumber (if b then 0 else 1)
    by_zero true = omega arith
    by_zero false = omega arith

type_small : (from to : IntegerType) (number : ℕ) → is_whole to ≡ true → IsNumber (as_type from to number)
type_small from to number is = by_truth to.truth
  where
    by_truth : (b : Bool) → IsNumber (if b then truth from.bytes number else converted from.bytes from.signed to.bytes number)
    by_truth true = truth_small from.bytes number
    by_truth false = bits_fit to (value from.bytes from.signed number) is

offset_small : (to : IntegerType) (number : ℕ) → is_whole to ≡ true → IsNumber (offset_as to number)
offset_small to number is = by_truth to.truth
  where
    by_truth : (b : Bool) → IsNumber (if b then truth 8 number else converted 8 false to.bytes number)
    by_truth true = truth_small 8 number
    by_truth false = bits_fit to (value 8 false number) is

address_small : (number : ℤ) → IsNumber (bits 8 number)
address_small number = bits_small Eight number

wrapped_small : (z : ℤ) → IsNumber (wrapped z)
wrapped_small (pos number) = mod-lt number (omega arith)
wrapped_small (negsuc before) = omega arith

pub number_small : (memory : List Block) (word : Word) → Fits word → IsNumber (address_number memory word)
number_small memory (Plain number) fits = fits
number_small memory (To block offset) fits = wrapped_small (pos (option_map_or (λ (found : Block). found.base) (slice_get memory block) 0) +ℤ offset)

-- words
pub moved_fits : (word : Word) (by : ℤ) → Fits (moved word by)
moved_fits (Plain number) by = wrapped_small (pos number +ℤ by)
moved_fits (To block offset) by = tt

integer_small : (from to : IntegerType) (number : ℕ) → is_whole to ≡ true → IsNumber number → IsNumber (integer_as from to number)
integer_small from to number is small = by_same (is_same from to)
  where
    by_same : (b : Bool) → IsNumber (if b then number else as_type from to number)
    by_same true = small
    by_same false = type_small from to number is

pub kind_fits : (memory : List Block) (from to : Kind) (word : Word) → HasSize to → Fits word → Fits (as_kind memory from to word)
kind_fits memory from Void word is fits = omega arith
kind_fits memory (Integer from) (Integer to) word is fits = integer_small from to (address_number memory word) is (number_small memory word fits)
kind_fits memory (Integer from) (Pointer bytes) word is fits = address_small (value from.bytes from.signed (address_number memory word))
kind_fits memory (Integer from) (Array bytes) word is fits = fits
kind_fits memory (Integer from) (Struct bytes) word is fits = fits
kind_fits memory (Pointer count) (Integer to) word is fits = offset_small to (address_number memory word) is
kind_fits memory (Pointer count) (Pointer bytes) word is fits = fits
kind_fits memory (Pointer count) (Array bytes) word is fits = fits
kind_fits memory (Pointer count) (Struct bytes) word is fits = fits
kind_fits memory (Array count) (Integer to) word is fits = offset_small to (address_number memory word) is
kind_fits memory (Array count) (Pointer bytes) word is fits = fits
kind_fits memory (Array count) (Array bytes) word is fits = fits
kind_fits memory (Array count) (Struct bytes) word is fits = fits
kind_fits memory (Struct count) (Integer to) word is fits = offset_small to (address_number memory word) is
kind_fits memory (Struct count) (Pointer bytes) word is fits = fits
kind_fits memory (Struct count) (Array bytes) word is fits = fits
kind_fits memory (Struct count) (Struct bytes) word is fits = fits
kind_fits memory Void (Integer to) word is fits = offset_small to (address_number memory word) is
kind_fits memory Void (Pointer bytes) word is fits = fits
kind_fits memory Void (Array bytes) word is fits = fits
kind_fits memory Void (Struct bytes) word is fits = fits

pub told_fits : (truth holds : Bool) → Fits (told truth holds)
told_fits true holds = answer_small holds
told_fits false holds = answer_small (not holds)

-- operators on integers
plain_fits : (found : Option ℕ) → IfThere IsNumber found → IfThere Fits (option_map Plain found)
plain_fits None fits = tt
plain_fits (Some number) fits = fits

computed_fits : (what : Op) (t : IntegerType) (left right : ℕ) → is_whole t ≡ true → IfThere IsNumber (computed what t.bytes t.signed left right)
computed_fits what t left right is =
    let size = whole_size t.bytes is in
    widened (computed what t.bytes t.signed left right)
    (subst (λ (count : ℕ). IfSome (computed what count t.signed left right) (λ result. result < modulus count)) size.1 (computed_small what size.0 t.signed left right))
  where
    widened : (found : Option ℕ) → IfSome found (λ result. result < modulus t.bytes) → IfThere IsNumber found
    widened None small = tt
    widened (Some result) small = let most : modulus t.bytes ≤ 2 ^ 64 = whole_small t is in omega arith

common_fits : (what : Op) (left : IntegerType) (x : ℕ) (right : IntegerType) (y : ℕ) → is_whole left ≡ true → is_whole right ≡ true → IfThere IsNumber (in_common what left x right y)
common_fits what left x right y first second = computed_fits what (common left right) (as_type left (common left right) x) (as_type right (common left right) y) (common_whole left right first second)

shifted_fits : (what : Op) (left : IntegerType) (x : ℕ) (right : IntegerType) (y : ℕ) → is_whole left ≡ true → IfThere IsNumber (shifted what left x right y)
shifted_fits what left x right y first = computed_fits what (promoted left) (as_type left (promoted left) x) (as_type right (promoted right) y) (promoted_whole left first)

binary_fits : (what : BinaryOp) (left : IntegerType) (x : ℕ) (right : IntegerType) (y : ℕ) → is_whole left ≡ true → is_whole right ≡ true → IfThere IsNumber (of_binary what left x right y)
binary_fits c.Mul left x right y first second = common_fits op.Mul left x right y first second
binary_fits c.Div left x right y first second = common_fits op.Div left x right y first second
binary_fits c.Rem left x right y first second = common_fits op.Rem left x right y first second
binary_fits c.Add left x right y first second = common_fits op.Add left x right y first second
binary_fits c.Sub left x right y first second = common_fits op.Sub left x right y first second
binary_fits c.Left left x right y first second = shifted_fits op.Left left x right y first
binary_fits c.Right left x right y first second = shifted_fits op.Right left x right y first
binary_fits c.Less left x right y first second = common_fits op.Less left x right y first second
binary_fits c.Greater left x right y first second = common_fits op.Less right y left x second first
binary_fits c.LessEqual left x right y first second = common_fits op.LessEqual left x right y first second
binary_fits c.GreaterEqual left x right y first second = common_fits op.LessEqual right y left x second first
binary_fits c.Equal left x right y first second = answer_small (are_equal left x right y)
binary_fits c.NotEqual left x right y first second = answer_small (not (are_equal left x right y))
binary_fits c.And left x right y first second = common_fits op.And left x right y first second
binary_fits c.Xor left x right y first second = common_fits op.Xor left x right y first second
binary_fits c.Or left x right y first second = common_fits op.Or left x right y first second
binary_fits c.Both left x right y first second = answer_small (typed.is_true x && typed.is_true y)
binary_fits c.Either left x right y first second = answer_small (typed.is_true x || typed.is_true y)
binary_fits c.Comma left x right y first second = tt

complement_fits : (t : IntegerType) (number : ℕ) → is_whole t ≡ true → IsNumber (complemented t.bytes number)
complement_fits t number is =
    let small : modulus t.bytes ≤ 2 ^ 64 = whole_small t is in
    below (modulus t.bytes) (number % modulus t.bytes) small
  where
    below : (count rest : ℕ) → count ≤ 2 ^ 64 → IsNumber (count - 1 - rest)
    below count rest small = omega arith

unary_fits : (what : UnaryOp) (t : IntegerType) (number : ℕ) → is_whole t ≡ true → IfThere IsNumber (of_unary what t number)
unary_fits one.Address t number is = tt
unary_fits one.Follow t number is = tt
unary_fits one.Plus t number is = type_small t (promoted t) number (promoted_whole t is)
unary_fits one.Minus t number is =
    bits_fit (promoted t) (neg_ℤ (value (promoted t).bytes (promoted t).signed (as_type t (promoted t) number))) (promoted_whole t is)
unary_fits one.Flip t number is = complement_fits (promoted t) (as_type t (promoted t) number) (promoted_whole t is)
unary_fits one.Not t number is = answer_small (not (typed.is_true number))

pub applied_fits : (memory : List Block) (what : UnaryOp) (kind : Kind) (word : Word) → HasSize kind → IfThere Fits (applied memory what kind word)
applied_fits memory what (Integer t) word is = plain_fits (of_unary what t (address_number memory word)) (unary_fits what t (address_number memory word) is)
applied_fits memory what (Pointer bytes) word is = tt
applied_fits memory what (Array bytes) word is = tt
applied_fits memory what (Struct bytes) word is = tt
applied_fits memory what Void word is = tt

-- operators on words
stepped_fits : (memory : List Block) (bytes : ℕ) (pointer : Word) (t : IntegerType) (number : Word) (forwards : Bool) → Fits (moved_by memory bytes pointer t number forwards)
stepped_fits memory bytes pointer t number true = moved_fits pointer _
stepped_fits memory bytes pointer t number false = moved_fits pointer _

told_if : (truth holds : Bool) → IfThere Fits (Some (told truth holds))
told_if truth holds = told_fits truth holds

pub operated_fits : (memory : List Block) (what : BinaryOp) (left right : Kind) (one other : Word) → HasSize left → HasSize right → IfThere Fits (operated memory what left right one other)
operated_fits memory what (Integer left) (Integer right) one other first second =
    plain_fits (of_binary what left (address_number memory one) right (address_number memory other)) (binary_fits what left (address_number memory one) right (address_number memory other) first second)
operated_fits memory c.Add (Pointer bytes) (Integer right) one other first second = stepped_fits memory bytes one right other true
operated_fits memory c.Add (Integer left) (Pointer bytes) one other first second = stepped_fits memory bytes other left one true
operated_fits memory c.Sub (Pointer bytes) (Integer right) one other first second = stepped_fits memory bytes one right other false
operated_fits memory c.Equal left right one other first second = told_if true (is_same_address memory (as_address memory left one) (as_address memory right other))
operated_fits memory c.NotEqual left right one other first second = told_if false (is_same_address memory (as_address memory left one) (as_address memory right other))
operated_fits memory what left right one other first second = tt

pub counted_fits : (keeps_old : Bool) (old new : Word) → Fits old → Fits new → Fits (counted keeps_old old new)
counted_fits true old new first second = first
counted_fits false old new first second = second

-- what is loaded
byte_small : (memory : List Block) (byte : Byte) → IsByte byte → byte_number memory byte < 256
byte_small memory (Num number) small = small
byte_small memory (Part block offset k) small = mod-lt (address_in memory block offset / 256 ^ k) (omega arith)

bytes_small : (memory : List Block) (items : List Byte) → All IsByte items → (place : ℕ) → slice_index (map (byte_number memory) items) place < 256
bytes_small memory [] all place = omega arith
bytes_small memory (first ∷ rest) all zero = byte_small memory first (All-head IsByte first rest all)
bytes_small memory (first ∷ rest) all (suc place) = bytes_small memory rest (All-tail IsByte first rest all) place

digits_small : (numbers : List ℕ) → ((place : ℕ) → slice_index numbers place < 256) → IsNumber (from_le_bytes w64 numbers)
digits_small numbers small =
    let a = small 0 in let b = small 1 in let c = small 2 in let d = small 3 in let e = small 4 in let f = small 5 in let g = small 6 in let h = small 7 in
    omega arith

read_small : (memory : List Block) (items : List Byte) → All IsByte items → IsNumber (number_of memory items)
read_small memory items all = digits_small (map (byte_number memory) items) (bytes_small memory items all)

pointer_fits : (memory : List Block) (items : List Byte) → All IsByte items → Fits (pointer_read memory items)
pointer_fits memory [] all = read_small memory [] all
pointer_fits memory (Num number ∷ rest) all = read_small memory (Num number ∷ rest) all
pointer_fits memory (Part block offset k ∷ rest) all = by_test (are_parts block offset 0 (Part block offset k ∷ rest))
  where
    by_test : (whole : Bool) → Fits (if whole then To block offset else number_read memory (Part block offset k ∷ rest))
    by_test true = tt
    by_test false = read_small memory (Part block offset k ∷ rest) all

pub loaded_fits : (memory : List Block) (at : Word) (size : ℕ) (pointer : Bool) → All IsByte (bytes_at memory at size) → Fits (loaded memory at size pointer)
loaded_fits memory at size true all = pointer_fits memory (bytes_at memory at size) all
loaded_fits memory at size false all = read_small memory (bytes_at memory at size) all

-- what is received
pub received_fits : (kind : Kind) (number : ℕ) → HasSize kind → number < count_of kind → IsNumber number
received_fits (Integer of) number is below = by_truth of.truth below
  where
    by_truth : (b : Bool) → number < (if b then 2 else 256 ^ of.bytes) → IsNumber number
    by_truth true below = omega arith
    by_truth false below = let most : modulus of.bytes ≤ 2 ^ 64 = whole_small of is in omega arith
received_fits (Pointer bytes) number is below = below
received_fits (Array bytes) number is below = absurd (omega arith)
received_fits (Struct bytes) number is below = absurd (omega arith)
received_fits Void number is below = absurd (omega arith)
