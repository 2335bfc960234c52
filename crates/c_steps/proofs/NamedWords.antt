-- What is made of words names no block but those that they name.
use Rattle.std.proofs.Common.{◌≡◌, ℕ, List, Bool, true, false, Option, None, Some, option_map, ℤ, sym, subst}
use Rattle.std.specs.Prelude.{IfSome}
use Rattle.cbase.specs.declared.tree.operators.BinaryOp.{BinaryOp}
use Rattle.cbase.specs.declared.tree.operators.BinaryOp.TheVariants as op
use Rattle.cbase.specs.declared.tree.operators.UnaryOp.{UnaryOp}
use Rattle.bytes_core.specs.declared.block.Block.{Block}
use Rattle.bytes_core.specs.declared.word.Word.{Word}
use Rattle.bytes_core.specs.declared.word.Word.TheVariants.{Plain, To}
use Rattle.bytes_core.specs.Valid.{WordNamesBelow}
use Rattle.bytes_core.specs.Value.{moved, address_number, is_same_address}
use Rattle.typing.specs.declared.ctypes.kind.IntegerType.{IntegerType}
use Rattle.typing.specs.values.Values.{of_unary, of_binary}
use Rattle.c_machine.specs.declared.kind.Kind.{Kind}
use Rattle.c_machine.specs.declared.kind.Kind.TheVariants.{Integer, Pointer, Array, Struct, Void}
use Rattle.c_machine.specs.Step.{counted}
use Rattle.c_machine.specs.Words.{as_address, as_kind, applied, operated, told, moved_by}

pub names_of_moved : (count : ℕ) (word : Word) (bytes : ℤ) → WordNamesBelow count word → WordNamesBelow count (moved word bytes)
names_of_moved count (Plain number) bytes names = tt
names_of_moved count (To block offset) bytes names = names

pub names_of_converted : (count : ℕ) (memory : List Block) (from to : Kind) (word : Word) → WordNamesBelow count word → WordNamesBelow count (as_kind memory from to word)
names_of_converted count memory from Void word names = tt
names_of_converted count memory (Integer from) (Integer to) word names = tt
names_of_converted count memory (Integer from) (Pointer bytes) word names = tt
names_of_converted count memory (Integer from) (Array bytes) word names = names
names_of_converted count memory (Integer from) (Struct bytes) word names = names
names_of_converted count memory (Pointer from) (Integer to) word names = tt
names_of_converted count memory (Pointer from) (Pointer bytes) word names = names
names_of_converted count memory (Pointer from) (Array bytes) word names = names
names_of_converted count memory (Pointer from) (Struct bytes) word names = names
names_of_converted count memory (Array from) (Integer to) word names = tt
names_of_converted count memory (Array from) (Pointer bytes) word names = names
names_of_converted count memory (Array from) (Array bytes) word names = names
names_of_converted count memory (Array from) (Struct bytes) word names = names
names_of_converted count memory (Struct from) (Integer to) word names = tt
names_of_converted count memory (Struct from) (Pointer bytes) word names = names
names_of_converted count memory (Struct from) (Array bytes) word names = names
names_of_converted count memory (Struct from) (Struct bytes) word names = names
names_of_converted count memory Void (Integer to) word names = tt
names_of_converted count memory Void (Pointer bytes) word names = names
names_of_converted count memory Void (Array bytes) word names = names
names_of_converted count memory Void (Struct bytes) word names = names

pub names_of_told : (count : ℕ) (truth holds : Bool) → WordNamesBelow count (told truth holds)
names_of_told count true holds = tt
names_of_told count false holds = tt

-- a number that is there is no pointer
number_in : (count : ℕ) (found : Option ℕ) (value : Word) → option_map Plain found ≡ Some value → WordNamesBelow count value
number_in count None value is = absurd cc
number_in count (Some number) value is = let same : Plain number ≡ value = cc in subst (WordNamesBelow count) same tt

this_one : (count : ℕ) (made value : Word) → Some made ≡ Some value → WordNamesBelow count made → WordNamesBelow count value
this_one count made value is names = let same : made ≡ value = cc in subst (WordNamesBelow count) same names

pub names_of_applied : (count : ℕ) (memory : List Block) (what : UnaryOp) (kind : Kind) (word value : Word) → applied memory what kind word ≡ Some value → WordNamesBelow count value
names_of_applied count memory what (Integer t) word value is = number_in count (of_unary what t (address_number memory word)) value is
names_of_applied count memory what (Pointer bytes) word value is = absurd cc
names_of_applied count memory what (Array bytes) word value is = absurd cc
names_of_applied count memory what (Struct bytes) word value is = absurd cc
names_of_applied count memory what Void word value is = absurd cc

names_of_step : (count : ℕ) (memory : List Block) (bytes : ℕ) (pointer : Word) (t : IntegerType) (number : Word) (forwards : Bool) →
    WordNamesBelow count pointer → WordNamesBelow count (moved_by memory bytes pointer t number forwards)
names_of_step count memory bytes pointer t number true names = names_of_moved count pointer _ names
names_of_step count memory bytes pointer t number false names = names_of_moved count pointer _ names

-- an operator makes a number, or moves a pointer that it is given
abbrev pub OperatedNames : ℕ → Option Word → Type 0
OperatedNames count None = Unit {0}
OperatedNames count (Some value) = WordNamesBelow count value

numbers_name : (count : ℕ) (found : Option ℕ) → OperatedNames count (option_map Plain found)
numbers_name count None = tt
numbers_name count (Some number) = tt

told_names : (count : ℕ) (truth holds : Bool) → OperatedNames count (Some (told truth holds))
told_names count true holds = tt
told_names count false holds = tt

operated_names : (count : ℕ) (memory : List Block) (what : BinaryOp) (left right : Kind) (one other : Word) → WordNamesBelow count one → WordNamesBelow count other →
    OperatedNames count (operated memory what left right one other)
operated_names count memory what (Integer left) (Integer right) one other first second =
    numbers_name count (of_binary what left (address_number memory one) right (address_number memory other))
operated_names count memory op.Add (Pointer bytes) (Integer right) one other first second = names_of_step count memory bytes one right other true first
operated_names count memory op.Add (Integer left) (Pointer bytes) one other first second = names_of_step count memory bytes other left one true second
operated_names count memory op.Sub (Pointer bytes) (Integer right) one other first second = names_of_step count memory bytes one right other false first
operated_names count memory op.Equal left right one other first second =
    told_names count true (is_same_address memory (as_address memory left one) (as_address memory right other))
operated_names count memory op.NotEqual left right one other first second =
    told_names count false (is_same_address memory (as_address memory left one) (as_address memory right other))
operated_names count memory what left right one other first second = tt

pub names_of_operated : (count : ℕ) (memory : List Block) (what : BinaryOp) (left right : Kind) (one other value : Word) → WordNamesBelow count one → WordNamesBelow count other →
    operated memory what left right one other ≡ Some value → WordNamesBelow count value
names_of_operated count memory what left right one other value first second is =
    subst (OperatedNames count) is (operated_names count memory what left right one other first second)

pub names_if_operated : (count : ℕ) (memory : List Block) (what : BinaryOp) (left right : Kind) (one other : Word) (found : Option Word) →
    WordNamesBelow count one → WordNamesBelow count other → found ≡ operated memory what left right one other → IfSome found (WordNamesBelow count)
names_if_operated count memory what left right one other None first second is = tt
names_if_operated count memory what left right one other (Some value) first second is =
    names_of_operated count memory what left right one other value first second (sym is)

pub names_of_counted : (count : ℕ) (keeps_old : Bool) (old new : Word) → WordNamesBelow count old → WordNamesBelow count new → WordNamesBelow count (counted keeps_old old new)
names_of_counted count true old new first second = first
names_of_counted count false old new first second = second
