-- Marks of the bytes of a memory, and of registers, as a run goes on.
--
-- A byte has not been written, or is known to be 0, or lies in a piece: the range of a store that wrote other bytes than zeros alone. A copy moves marks along. A register is marked while it holds a number that
-- came from outside.
use Rattle.std.specs.Prelude.{ℕ, ◌+◌, ◌-◌, ◌^◌, ◌%◌, Bool, true, false, ◌&&◌, not, List, [], ◌∷◌, length, nat_eq, nat_le, nat_lt, pos, negsuc, Option, None, Some, if◌then◌else◌}
use Rattle.bytes_core.specs.declared.word.Word.{Word}
use Rattle.bytes_core.specs.declared.word.Word.TheVariants.{Plain, To}
use Rattle.bytes_core.specs.Value.{address_number}
use Rattle.changes.specs.Parts.{is_among}
use Rattle.graph.specs.State.{State}
use Rattle.flow.specs.declared.instruction.Instr.{Instr}
use Rattle.flow.specs.declared.instruction.Instr.TheVariants.{Number, Address, Move, Read, Write, Shift, ShiftBy, Compute, Convert, IfSame, IfDifferent, Allocate, AllocateNone, Release, Fill, Copy, Enter, Leave, Finish, Input, Call, Return, Close}

pub data Mark : Type 0 where
  Unwritten : Mark
  Zeroed : Mark
  -- it lies in the piece of so many bytes from this place of its block on
  Piece : (at size : ℕ) → Mark

-- the mark of each byte, by the number of its block and its place; and whether a register holds a number from outside
pub record Marks : Type 0 where
  pub of : ℕ → ℕ → Mark
  pub input : ℕ → Bool

-- Bytes.

abbrev pub is_in_range : ℕ → ℕ → ℕ → Bool
is_in_range from count place = nat_le from place && nat_lt place (from + count)

-- the bytes of a range of a block get other marks
abbrev pub with_marks : ℕ → ℕ → ℕ → (ℕ → Mark) → (ℕ → ℕ → Mark) → ℕ → ℕ → Mark
with_marks number from count new marks block place = if nat_eq block number && is_in_range from count place then new place else marks block place

-- so many bytes get other marks where a word leads
abbrev pub marked_at : Word → ℕ → (ℕ → ℕ → Mark) → (ℕ → ℕ → Mark) → ℕ → ℕ → Mark
marked_at (Plain number) count new marks = marks
marked_at (To block (pos from)) count new marks = with_marks block from count (new from) marks
marked_at (To block (negsuc before)) count new marks = marks

-- the lowest bytes of a word are 0
abbrev pub is_zero_in : ℕ → Word → Bool
is_zero_in size (Plain number) = nat_eq (number % 256 ^ size) 0
is_zero_in size (To block offset) = false

-- the marks of what is written over a range
abbrev pub written_mark : Bool → ℕ → ℕ → ℕ → Mark
written_mark zeros count from place = if zeros then Zeroed else Piece from count

-- a mark as far behind the beginning of another range
abbrev pub moved_mark : ℕ → ℕ → Mark → Mark
moved_mark from to Unwritten = Unwritten
moved_mark from to Zeroed = Zeroed
moved_mark from to (Piece at size) = Piece (to + (at - from)) size

abbrev pub copied_mark : (ℕ → ℕ → Mark) → Word → ℕ → ℕ → Mark
copied_mark marks (Plain number) to place = Unwritten
copied_mark marks (To block (pos from)) to place = moved_mark from to (marks block (from + (place - to)))
copied_mark marks (To block (negsuc before)) to place = Unwritten

-- the bytes of blocks that were not there before
abbrev pub with_new_blocks : ℕ → Mark → (ℕ → ℕ → Mark) → ℕ → ℕ → Mark
with_new_blocks count new marks block place = if nat_lt block count then marks block place else new

-- goes on with the words that two registers hold
abbrev pub on_words : Option Word → Option Word → (Word → Word → ℕ → ℕ → Mark) → (ℕ → ℕ → Mark) → ℕ → ℕ → Mark
on_words None other onward marks = marks
on_words (Some one) None onward marks = marks
on_words (Some one) (Some other) onward marks = onward one other

-- the bytes behind an instruction that meets no fault
abbrev pub bytes_after : Instr → State → (ℕ → ℕ → Mark) → ℕ → ℕ → Mark
bytes_after (Number into number size) state marks = marks
bytes_after (Address into variable) state marks = marks
bytes_after (Move into from) state marks = marks
bytes_after (Read into at size pointer) state marks = marks
bytes_after (Write at from size) state marks = on_words (state.registers at) (state.registers from) (λ to word. marked_at to size (written_mark (is_zero_in size word) size) marks) marks
bytes_after (Shift into at by) state marks = marks
bytes_after (ShiftBy into at by scale) state marks = marks
bytes_after (Compute into op one other size signed) state marks = marks
bytes_after (Convert into from size signed) state marks = marks
bytes_after (IfSame one other) state marks = marks
bytes_after (IfDifferent one other) state marks = marks
bytes_after (Allocate into bytes zeroed) state marks = with_new_blocks (length state.memory) (if zeroed then Zeroed else Unwritten) marks
bytes_after (AllocateNone into) state marks = marks
bytes_after (Release at) state marks = marks
bytes_after (Fill at from count) state marks =
    on_words (state.registers at) (state.registers from) (λ to word. marked_at to count (written_mark (nat_eq (address_number state.memory word % 256) 0) count) marks) marks
bytes_after (Copy to from count disjoint) state marks = on_words (state.registers to) (state.registers from) (λ target source. marked_at target count (copied_mark marks source) marks) marks
bytes_after (Enter variables) state marks = with_new_blocks (length state.memory) Unwritten marks
bytes_after (Leave variables) state marks = marks
bytes_after (Finish registers) state marks = marks
bytes_after (Input into size signed truth) state marks = marks
bytes_after (Call function arguments into) state marks = marks
bytes_after (Return from) state marks = marks
bytes_after Close state marks = marks

-- Registers.

-- these registers hold nothing any more
abbrev pub inputs_emptied : List ℕ → (ℕ → Bool) → ℕ → Bool
inputs_emptied gone input register = not (is_among gone register) && input register

-- and one gets a number from outside, or something else
abbrev pub inputs_gained : List ℕ → ℕ → Bool → (ℕ → Bool) → ℕ → Bool
inputs_gained gone into given input register = if nat_eq register into then given else inputs_emptied gone input register

abbrev pub inputs_after : Instr → (ℕ → Bool) → ℕ → Bool
inputs_after (Number into number size) input = inputs_gained [] into false input
inputs_after (Address into variable) input = inputs_gained [] into false input
inputs_after (Move into from) input = inputs_gained [] into false input
inputs_after (Read into at size pointer) input = inputs_gained (at ∷ []) into false input
inputs_after (Write at from size) input = inputs_emptied (at ∷ from ∷ []) input
inputs_after (Shift into at by) input = inputs_gained (at ∷ []) into false input
inputs_after (ShiftBy into at by scale) input = inputs_gained (at ∷ by ∷ []) into false input
inputs_after (Compute into op one other size signed) input = inputs_gained (one ∷ other ∷ []) into false input
inputs_after (Convert into from size signed) input = inputs_gained (from ∷ []) into false input
inputs_after (IfSame one other) input = inputs_emptied (one ∷ other ∷ []) input
inputs_after (IfDifferent one other) input = inputs_emptied (one ∷ other ∷ []) input
inputs_after (Allocate into bytes zeroed) input = inputs_gained [] into false input
inputs_after (AllocateNone into) input = inputs_gained [] into false input
inputs_after (Release at) input = inputs_emptied (at ∷ []) input
inputs_after (Fill at from count) input = inputs_emptied (at ∷ from ∷ []) input
inputs_after (Copy to from count disjoint) input = inputs_emptied (to ∷ from ∷ []) input
inputs_after (Enter variables) input = input
inputs_after (Leave variables) input = input
inputs_after (Finish registers) input = inputs_emptied registers input
inputs_after (Input into size signed truth) input = inputs_gained [] into true input
inputs_after (Call function arguments into) input = input
inputs_after (Return from) input = input
inputs_after Close input = input

abbrev pub marks_after : Instr → State → Marks → Marks
marks_after instr state marks = record { of = bytes_after instr state marks.of; input = inputs_after instr marks.input }
