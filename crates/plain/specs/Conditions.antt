-- What is asked of an instruction in a state with marks, so that the graphs of its post say all that is known.
--
-- A load reads zeros, or just one piece; a store, a fill or a copy overlaps no piece in part, a copy takes whole pieces and zeros alone, and a fill writes zeros. What an operation on integers takes is a plain number. An equality
-- compares two plain numbers, or null with an address inside a live block, or two such addresses. A number from outside is only compared with a plain number.
use Rattle.std.specs.Prelude.{◌≡◌, ℕ, ◌+◌, ◌%◌, ◌≤◌, Bool, true, false, ◌&&◌, ◌||◌, List, length, slice_get, nat_eq, pos, None, Some, ◌⊎◌}
use Rattle.std.specs.List.{list_all}
use Rattle.std.specs.Option.{option_map_or}
use Rattle.bytes_core.specs.declared.byte.Byte.{Byte}
use Rattle.bytes_core.specs.declared.byte.Byte.TheVariants.{Num, Part}
use Rattle.bytes_core.specs.declared.block.Block.{Block}
use Rattle.bytes_core.specs.declared.word.Word.{Word}
use Rattle.bytes_core.specs.declared.word.Word.TheVariants.{Plain, To}
use Rattle.bytes_core.specs.Access.{access_fault, bytes_at}
use Rattle.bytes_core.specs.Copying.{copy_fault}
use Rattle.bytes_core.specs.Value.{is_inside}
use Rattle.graph.specs.State.{State}
use Rattle.flow.specs.declared.instruction.Instr.{Instr}
use Rattle.flow.specs.declared.instruction.Instr.TheVariants.{Number, Address, Move, Read, Write, Shift, ShiftBy, Compute, Convert, IfSame, IfDifferent, Allocate, AllocateNone, Release, Fill, Copy, Enter, Leave, Finish, Input, Call, Return, Close}
use Rattle.plain.specs.Marks.{Mark, Unwritten, Zeroed, Piece, Marks, is_in_range}

-- a register holds no number from outside
abbrev pub IsKnown : Marks → ℕ → Type 0
IsKnown marks register = marks.input register ≡ false

abbrev pub is_plain : Word → Bool
is_plain (Plain number) = true
is_plain (To block offset) = false

-- what a register holds is a plain number, and none from outside
pub record HoldsNumber (state : State) (marks : Marks) (register : ℕ) : Type 0 where
  pub known : IsKnown marks register
  pub plain : (word : Word) → state.registers register ≡ Some word → is_plain word ≡ true

-- all bytes of a range have a mark
abbrev pub HaveMark : (ℕ → Mark) → ℕ → ℕ → Mark → Type 0
HaveMark marks from count mark = (place : ℕ) → is_in_range from count place ≡ true → marks place ≡ mark

-- they are zeros, or the bytes of one piece
abbrev pub AreOne : (ℕ → Mark) → ℕ → ℕ → Type 0
AreOne marks from count = HaveMark marks from count Zeroed ⊎ HaveMark marks from count (Piece from count)

-- each piece of which a byte lies in a range lies whole in it
abbrev pub CutNone : (ℕ → Mark) → ℕ → ℕ → Type 0
CutNone marks from count = (place at size : ℕ) → is_in_range from count place ≡ true → marks place ≡ Piece at size → (from ≤ at) × (at + size ≤ from + count)

abbrev pub AreWritten : (ℕ → Mark) → ℕ → ℕ → Type 0
AreWritten marks from count = (place : ℕ) → is_in_range from count place ≡ true → marks place ≡ Unwritten → ⊥

abbrev pub is_number : Byte → Bool
is_number (Num number) = true
is_number (Part block offset k) = false

pub record IsPlainRead (at size : ℕ) (pointer : Bool) (state : State) (marks : Marks) : Type 0 where
  pub known : IsKnown marks at
  pub one : (block from : ℕ) → state.registers at ≡ Some (To block (pos from)) → access_fault state.memory (To block (pos from)) size ≡ None → AreOne (marks.of block) from size
  -- at an integer type no part of a pointer is read
  pub numbers : pointer ≡ false → (to : Word) → state.registers at ≡ Some to → access_fault state.memory to size ≡ None → list_all is_number (bytes_at state.memory to size) ≡ true

pub record IsPlainWrite (at size from : ℕ) (state : State) (marks : Marks) : Type 0 where
  pub known : IsKnown marks at
  pub source : IsKnown marks from
  pub whole : (block place : ℕ) → state.registers at ≡ Some (To block (pos place)) → access_fault state.memory (To block (pos place)) size ≡ None → CutNone (marks.of block) place size

pub record IsPlainFill (at from count : ℕ) (state : State) (marks : Marks) : Type 0 where
  pub known : IsKnown marks at
  pub source : HoldsNumber state marks from
  pub zeros : (number : ℕ) → state.registers from ≡ Some (Plain number) → number % 256 ≡ 0
  pub whole : (block place : ℕ) → state.registers at ≡ Some (To block (pos place)) → access_fault state.memory (To block (pos place)) count ≡ None → CutNone (marks.of block) place count

pub record IsPlainCopy (to from count : ℕ) (disjoint : Bool) (state : State) (marks : Marks) : Type 0 where
  pub known : IsKnown marks to
  pub source : IsKnown marks from
  pub whole : (block place : ℕ) (source : Word) → state.registers to ≡ Some (To block (pos place)) → state.registers from ≡ Some source → copy_fault state.memory (To block (pos place)) source count disjoint ≡ None →
      CutNone (marks.of block) place count
  pub written : (block place : ℕ) (target : Word) → state.registers to ≡ Some target → state.registers from ≡ Some (To block (pos place)) → copy_fault state.memory target (To block (pos place)) count disjoint ≡ None →
      CutNone (marks.of block) place count × AreWritten (marks.of block) place count

-- a word is the address of a byte of a live block
abbrev pub is_inside_live : List Block → Word → Bool
is_inside_live memory (Plain number) = false
is_inside_live memory (To block offset) = option_map_or (λ found. found.live && is_inside (length found.bytes) offset) (slice_get memory block) false

-- two plain numbers, null and the address of a byte of a live block, or two such addresses
abbrev pub compares_plainly : List Block → Word → Word → Bool
compares_plainly memory (Plain number) (Plain number') = true
compares_plainly memory (Plain number) (To block offset) = nat_eq number 0 && is_inside_live memory (To block offset)
compares_plainly memory (To block offset) (Plain number) = nat_eq number 0 && is_inside_live memory (To block offset)
compares_plainly memory (To block offset) (To block' offset') = is_inside_live memory (To block offset) && is_inside_live memory (To block' offset')

pub record AreKnownSides (one other : ℕ) (state : State) (marks : Marks) : Type 0 where
  pub left : IsKnown marks one
  pub right : IsKnown marks other
  pub plain : (word word' : Word) → state.registers one ≡ Some word → state.registers other ≡ Some word' → compares_plainly state.memory word word' ≡ true

-- a number from outside, and one that is none
pub record IsInputTest (one other : ℕ) (state : State) (marks : Marks) : Type 0 where
  pub input : marks.input one ≡ true
  pub number : HoldsNumber state marks other

abbrev pub IsPlainTest : ℕ → ℕ → State → Marks → Type 0
IsPlainTest one other state marks = AreKnownSides one other state marks ⊎ (IsInputTest one other state marks ⊎ IsInputTest other one state marks)

abbrev pub IsPlainAt : Instr → State → Marks → Type 0
IsPlainAt (Number into number size) state marks = Unit {0}
IsPlainAt (Address into variable) state marks = Unit {0}
IsPlainAt (Move into from) state marks = IsKnown marks from
IsPlainAt (Read into at size pointer) state marks = IsPlainRead at size pointer state marks
IsPlainAt (Write at from size) state marks = IsPlainWrite at size from state marks
IsPlainAt (Shift into at by) state marks = IsKnown marks at
IsPlainAt (ShiftBy into at by scale) state marks = IsKnown marks at × HoldsNumber state marks by
IsPlainAt (Compute into op one other size signed) state marks = HoldsNumber state marks one × HoldsNumber state marks other
IsPlainAt (Convert into from size signed) state marks = HoldsNumber state marks from
IsPlainAt (IfSame one other) state marks = IsPlainTest one other state marks
IsPlainAt (IfDifferent one other) state marks = IsPlainTest one other state marks
IsPlainAt (Allocate into bytes zeroed) state marks = Unit {0}
IsPlainAt (AllocateNone into) state marks = Unit {0}
IsPlainAt (Release at) state marks = IsKnown marks at
IsPlainAt (Fill at from count) state marks = IsPlainFill at from count state marks
IsPlainAt (Copy to from count disjoint) state marks = IsPlainCopy to from count disjoint state marks
IsPlainAt (Enter variables) state marks = Unit {0}
IsPlainAt (Leave variables) state marks = Unit {0}
IsPlainAt (Finish registers) state marks = Unit {0}
IsPlainAt (Input into size signed truth) state marks = (truth ≡ false) × ((nat_eq size 4 || nat_eq size 8) ≡ true)
IsPlainAt (Call function arguments into) state marks = ⊥
IsPlainAt (Return from) state marks = Unit {0}
IsPlainAt Close state marks = Unit {0}
