-- What is made of operands is an operand, and what is written of one keeps a memory.
use Rattle.std.proofs.Common.{◌≡◌, ℕ, zero, suc, ◌<◌, ◌≤◌, List, [], ◌∷◌, length, take, drop, replicate, Bool, true, false, Option, None, Some, option_map, refl, sym, subst, arith}
use Rattle.std.specs.Prelude.{ℤ, pos, negsuc, All, if◌then◌else◌, slice_get}
use Rattle.std.proofs.lemmas.List.{length-take, length-replicate}
use Rattle.std.proofs.lemmas.List.Elements.{All-nil, All-cons, All-head, All-take}
use Rattle.cbase.specs.declared.tree.operators.BinaryOp.{BinaryOp}
use Rattle.cbase.specs.declared.tree.operators.BinaryOp.TheVariants as op
use Rattle.cbase.specs.declared.tree.operators.UnaryOp.{UnaryOp}
use Rattle.bytes_core.specs.declared.byte.Byte.{Byte}
use Rattle.bytes_core.specs.declared.byte.Byte.TheVariants.{Num, Part}
use Rattle.bytes_core.specs.declared.block.Block.{Block}
use Rattle.bytes_core.specs.declared.word.Word.{Word}
use Rattle.bytes_core.specs.declared.word.Word.TheVariants.{Plain, To}
use Rattle.bytes_core.specs.Access.{access_fault, range_fault, block_bytes, bytes_at, loaded, stored, filled}
use Rattle.bytes_core.specs.Copying.{first_fault, copy_fault, copied}
use Rattle.bytes_core.specs.Valid.{IsMemory, NamesBelow, WordNamesBelow}
use Rattle.bytes_core.specs.Value.{word_bytes, moved, address_number, is_same_address, are_parts, number_read, pointer_read}
use Rattle.bytes_core.proofs.Kept.{names_of_word, names_of_bytes, filled_nothing, copied_nothing}
use Rattle.typing.specs.declared.ctypes.kind.IntegerType.{IntegerType}
use Rattle.typing.specs.values.Values.{of_unary, of_binary}
use Rattle.c_machine.specs.declared.kind.Kind.{Kind}
use Rattle.c_machine.specs.declared.kind.Kind.TheVariants.{Integer, Pointer, Array, Struct, Void}
use Rattle.c_machine.specs.Keeping.{IsByte, IsOperand}
use Rattle.c_machine.specs.Step.{counted}
use Rattle.c_machine.specs.Words.{as_address, as_kind, applied, operated, told, moved_by}
use Rattle.c_machine.proofs.KeptMemory.{Keeps, moved-fits, pointer_bytes, plain_bytes, bytes_there, written_keeps, same_keeps}

pub moved_operand : (count : ℕ) (word : Word) (by : ℤ) → IsOperand count word → IsOperand count (moved word by)
moved_operand count (Plain number) by is = tt
moved_operand count (To block offset) by is = (is.0, moved-fits offset by)

pub kind_operand : (count : ℕ) (memory : List Block) (from to : Kind) (word : Word) → IsOperand count word → IsOperand count (as_kind memory from to word)
kind_operand count memory from Void word is = tt
kind_operand count memory (Integer from) (Integer to) word is = tt
kind_operand count memory (Integer from) (Pointer bytes) word is = tt
kind_operand count memory (Integer from) (Array bytes) word is = is
kind_operand count memory (Integer from) (Struct bytes) word is = is
kind_operand count memory (Pointer from) (Integer to) word is = tt
kind_operand count memory (Pointer from) (Pointer bytes) word is = is
kind_operand count memory (Pointer from) (Array bytes) word is = is
kind_operand count memory (Pointer from) (Struct bytes) word is = is
kind_operand count memory (Array from) (Integer to) word is = tt
kind_operand count memory (Array from) (Pointer bytes) word is = is
kind_operand count memory (Array from) (Array bytes) word is = is
kind_operand count memory (Array from) (Struct bytes) word is = is
kind_operand count memory (Struct from) (Integer to) word is = tt
kind_operand count memory (Struct from) (Pointer bytes) word is = is
kind_operand count memory (Struct from) (Array bytes) word is = is
kind_operand count memory (Struct from) (Struct bytes) word is = is
kind_operand count memory Void (Integer to) word is = tt
kind_operand count memory Void (Pointer bytes) word is = is
kind_operand count memory Void (Array bytes) word is = is
kind_operand count memory Void (Struct bytes) word is = is

pub told_operand : (count : ℕ) (truth holds : Bool) → IsOperand count (told truth holds)
told_operand count true holds = tt
told_operand count false holds = tt

-- where an operator has a value
abbrev pub IfOperand : ℕ → Option Word → Type 0
IfOperand count None = Unit {0}
IfOperand count (Some word) = IsOperand count word

number_operand : (count : ℕ) (found : Option ℕ) → IfOperand count (option_map Plain found)
number_operand count None = tt
number_operand count (Some number) = tt

pub applied_operand : (count : ℕ) (memory : List Block) (what : UnaryOp) (kind : Kind) (word : Word) → IfOperand count (applied memory what kind word)
applied_operand count memory what (Integer t) word = number_operand count (of_unary what t (address_number memory word))
applied_operand count memory what (Pointer bytes) word = tt
applied_operand count memory what (Array bytes) word = tt
applied_operand count memory what (Struct bytes) word = tt
applied_operand count memory what Void word = tt

stepped_operand : (count : ℕ) (memory : List Block) (bytes : ℕ) (pointer : Word) (t : IntegerType) (number : Word) (forwards : Bool) →
    IsOperand count pointer → IsOperand count (moved_by memory bytes pointer t number forwards)
stepped_operand count memory bytes pointer t number true is = moved_operand count pointer _ is
stepped_operand count memory bytes pointer t number false is = moved_operand count pointer _ is

told_if : (count : ℕ) (truth holds : Bool) → IfOperand count (Some (told truth holds))
told_if count true holds = tt
told_if count false holds = tt

pub operated_operand : (count : ℕ) (memory : List Block) (what : BinaryOp) (left right : Kind) (one other : Word) → IsOperand count one → IsOperand count other →
    IfOperand count (operated memory what left right one other)
operated_operand count memory what (Integer left) (Integer right) one other first second =
    number_operand count (of_binary what left (address_number memory one) right (address_number memory other))
operated_operand count memory op.Add (Pointer bytes) (Integer right) one other first second = stepped_operand count memory bytes one right other true first
operated_operand count memory op.Add (Integer left) (Pointer bytes) one other first second = stepped_operand count memory bytes other left one true second
operated_operand count memory op.Sub (Pointer bytes) (Integer right) one other first second = stepped_operand count memory bytes one right other false first
operated_operand count memory op.Equal left right one other first second = told_if count true (is_same_address memory (as_address memory left one) (as_address memory right other))
operated_operand count memory op.NotEqual left right one other first second = told_if count false (is_same_address memory (as_address memory left one) (as_address memory right other))
operated_operand count memory what left right one other first second = tt

-- what is loaded
read_operand : (count : ℕ) (memory : List Block) (bytes : List Byte) → All (NamesBelow count) bytes → All IsByte bytes → IsOperand count (pointer_read memory bytes)
read_operand count memory [] names small = tt
read_operand count memory (Num number ∷ rest) names small = tt
read_operand count memory (Part block offset k ∷ rest) names small = by_test (are_parts block offset 0 (Part block offset k ∷ rest))
  where
    by_test : (whole : Bool) → IsOperand count (if whole then To block offset else number_read memory (Part block offset k ∷ rest))
    by_test true = ((All-head (NamesBelow count) (Part block offset k) rest names).0, All-head IsByte (Part block offset k) rest small)
    by_test false = tt

pub loaded_operand : (memory : List Block) (at : Word) (size : ℕ) (pointer : Bool) → IsMemory memory → All (λ block. All IsByte block.bytes) memory →
    IsOperand (length memory) (loaded memory at size pointer)
loaded_operand memory at size true valid bytes =
    read_operand (length memory) memory (bytes_at memory at size) (names_of_bytes memory at size valid) (bytes_there memory at size bytes)
loaded_operand memory at size false valid bytes = tt

pub counted_operand : (count : ℕ) (keeps_old : Bool) (old new : Word) → IsOperand count old → IsOperand count new → IsOperand count (counted keeps_old old new)
counted_operand count true old new first second = first
counted_operand count false old new first second = second

-- what is stored
operand_names : (count : ℕ) (word : Word) → IsOperand count word → WordNamesBelow count word
operand_names count (Plain number) is = tt
operand_names count (To block offset) is = is.0

operand_bytes : (count : ℕ) (word : Word) → IsOperand count word → All IsByte (word_bytes word)
operand_bytes count (Plain number) is = plain_bytes number
operand_bytes count (To block offset) is = pointer_bytes block offset is.1

pub stored_keeps : (memory : List Block) (at : Word) (bytes : ℕ) (word : Word) → IsMemory memory → All (λ block. All IsByte block.bytes) memory →
    access_fault memory at bytes ≡ None → IsOperand (length memory) word → Keeps memory (stored memory at bytes word)
stored_keeps memory at bytes word valid small none is =
    written_keeps memory at (take bytes (word_bytes word)) bytes valid small none (omega (arith, length-take bytes (word_bytes word)))
    (names_of_word (length memory) bytes word (operand_names (length memory) word is)) (All-take IsByte bytes (word_bytes word) (operand_bytes (length memory) word is))

-- what is filled
named_numbers : (below count number : ℕ) → All (NamesBelow below) (replicate count (Num number))
named_numbers below zero number = All-nil (NamesBelow below)
named_numbers below (suc count) number = All-cons (NamesBelow below) (Num number) (replicate count (Num number)) tt (named_numbers below count number)

small_numbers : (count number : ℕ) → number < 256 → All IsByte (replicate count (Num number))
small_numbers zero number small = All-nil IsByte
small_numbers (suc count) number small = All-cons IsByte (Num number) (replicate count (Num number)) small (small_numbers count number small)

pub filled_keeps : (memory : List Block) (at : Word) (number count : ℕ) → IsMemory memory → All (λ block. All IsByte block.bytes) memory →
    range_fault memory at count ≡ None → number < 256 → Keeps memory (filled memory at number count)
filled_keeps memory at number zero valid bytes none small = subst (Keeps memory) (sym (filled_nothing memory at number zero refl)) (same_keeps memory valid bytes)
filled_keeps memory at number (suc count) valid bytes none small =
    written_keeps memory at (replicate (suc count) (Num number)) (suc count) valid bytes none (omega (arith, length-replicate (suc count) (Num number)))
    (named_numbers (length memory) (suc count) number) (small_numbers (suc count) number small)

-- what is copied
few_in_block : (found : Option Block) (offset : ℤ) (count : ℕ) → length (block_bytes found offset count) ≤ count
few_in_block None offset count = omega arith
few_in_block (Some block) (pos from) count = omega (arith, length-take count (drop from block.bytes))
few_in_block (Some block) (negsuc before) count = omega arith

pub few_bytes : (memory : List Block) (at : Word) (count : ℕ) → length (bytes_at memory at count) ≤ count
few_bytes memory (Plain number) count = omega arith
few_bytes memory (To block offset) count = few_in_block (slice_get memory block) offset count

pub none_first : (one other : Option ℕ) → first_fault one other ≡ None → one ≡ None
none_first None other is = refl
none_first (Some kind) other is = is

pub none_later : (one other : Option ℕ) → first_fault one other ≡ None → other ≡ None
none_later None other is = is
none_later (Some kind) other is = absurd cc

pub copied_keeps : (memory : List Block) (to from : Word) (count : ℕ) (disjoint : Bool) → IsMemory memory → All (λ block. All IsByte block.bytes) memory →
    copy_fault memory to from count disjoint ≡ None → Keeps memory (copied memory to from count)
copied_keeps memory to from zero disjoint valid bytes none = subst (Keeps memory) (sym (copied_nothing memory to from zero refl)) (same_keeps memory valid bytes)
copied_keeps memory to from (suc count) disjoint valid bytes none =
    written_keeps memory to (bytes_at memory from (suc count)) (suc count) valid bytes
    (none_first (range_fault memory to (suc count)) _ (none_later (range_fault memory from (suc count)) _ none))
    (few_bytes memory from (suc count)) (names_of_bytes memory from (suc count) valid) (bytes_there memory from (suc count) bytes)
