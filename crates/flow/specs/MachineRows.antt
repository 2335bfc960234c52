-- Worked examples of the flow machine: what each instruction leaves in a small state, and each fault that it can meet.
use Rattle.std.specs.Prelude.{◌≡◌, ℕ, ◌-◌, ◌^◌, true, false, List, [], ◌∷◌, replicate, pos, negsuc, Option, None, Some, slice_get}
use Rattle.cbase.specs.declared.abi.Abi.TheVariants.{Lp64}
use Rattle.cbase.specs.declared.place.Place.{Place}
use Rattle.arithmetic.specs.declared.op.Op.TheVariants as op
use Rattle.bytes_core.specs.declared.word.Word.{Word}
use Rattle.bytes_core.specs.declared.word.Word.TheVariants.{Plain, To}
use Rattle.bytes_core.specs.declared.block.BlockKind.TheVariants as storage
use Rattle.bytes_core.specs.Placement.{new_block, placed}
use Rattle.bytes_core.specs.Access.{stored, filled}
use Rattle.bytes_core.specs.Copying.{copied}
use Rattle.bytes_core.specs.Release.{freed, without}
use Rattle.bytes_core.specs.Examples.{example}
use Rattle.flow.specs.declared.instruction.Instr.{Instr}
use Rattle.flow.specs.declared.instruction.Instr.TheVariants.{Number, Address, Move, Read, Write, Shift, ShiftBy, Compute, Convert, IfSame, IfDifferent, Allocate, AllocateNone, Release, Fill, Copy, Enter, Leave, Finish, Input, Call, Return, Close}
use Rattle.flow.specs.declared.flow_graph.Flow.{Flow}
use Rattle.flow.specs.declared.flow_graph.FlowEdge.{FlowEdge}
use Rattle.flow.specs.Holding.{Held}
use Rattle.choices.specs.declared.choice.Choice.{Choice}
use Rattle.choices.specs.declared.choice.Choice.TheVariants.{None as NoBlock, Block as NewBlock, Input as GivenInput}
use Rattle.flow.specs.Machine.{State, Outcome, Went, Barred, Waits, Ended, Faulted, at, with_memory, execute, step_along, step}

-- a graph with two variables of 16 and of 4 bytes, and with a function whose parameter is the second
abbrev pub graph : Flow
graph = record {
  points = 9;
  edges = [];
  functions = record { entry = 7; exit = 8; parameters = 1 ∷ [] } ∷ [];
  variables = record { size = 16; fixed = false } ∷ record { size = 4; fixed = false } ∷ [];
  initial = [];
  heads = [];
  main = 0;
  stands = [];
  abi = Lp64;
  strict = false;
}

abbrev pub place : Place
place = record { file = 0; line = 1; column = 1; at = 0 }

-- a register of a size with what it holds
abbrev pub holds : ℕ → ℕ → Word → Held
holds register size word = record { register = register; size = size; word = word }

-- a state of `bytes_core`'s example memory: variable 0 in block 0, which holds the pointer to block 1; block 1 is
-- allocated, and block 2 was freed
abbrev pub state : List Held → State
state registers = record {
  point = 0;
  frame = record { variables = record { variable = 0; block = 0 } ∷ []; registers = registers };
  callers = [];
  statics = [];
  memory = example;
  outer = [];
}

-- what an instruction comes to, on the way to point 5
abbrev pub after : Instr → List Held → List Choice → Outcome
after instr registers choices = execute graph instr 5 place (state registers) choices

-- the same state without a variable, with a static one in a block, or with a caller that waits for a call
abbrev pub alone : List Held → State
alone registers = record (state registers) { frame = record { variables = []; registers = registers } }

abbrev pub with_static : ℕ → ℕ → State → State
with_static variable block state = record state { statics = record { variable = variable; block = block } ∷ [] }

abbrev pub with_caller : Option ℕ → State → State
with_caller into state = record state {
  callers = record { frame = record { variables = record { variable = 0; block = 0 } ∷ []; registers = [] }; point = 5; into = into } ∷ [];
}

-- a graph whose function has two parameters, of 4 and of 8 bytes
abbrev pub with_two : Flow
with_two = record graph {
  functions = record { entry = 7; exit = 8; parameters = 1 ∷ 2 ∷ [] } ∷ [];
  variables = record { size = 16; fixed = false } ∷ record { size = 4; fixed = false } ∷ record { size = 8; fixed = false } ∷ [];
}

-- a call of it with the values of registers 2 and 3, on the way to point 5
abbrev pub called_with_two : List Choice → Outcome
called_with_two choices =
    execute with_two (Call 0 (2 ∷ 3 ∷ []) None) 5 place (state (holds 2 4 (Plain 258) ∷ holds 3 8 (To 1 (pos 0)) ∷ [])) choices

-- choices of 4, of 8 and of 16 bytes
abbrev pub four : ℕ → Choice
four base = NewBlock base (1 ∷ 2 ∷ 3 ∷ 4 ∷ [])

abbrev pub eight : ℕ → Choice
eight base = NewBlock base (replicate 8 9)

abbrev pub sixteen : ℕ → Choice
sixteen base = NewBlock base (replicate 16 9)

-- an edge, and the graph with such edges
abbrev pub edge : ℕ → ℕ → Instr → FlowEdge
edge from to instr = record { from = from; to = to; instr = instr; place = place }

abbrev pub with_edges : List FlowEdge → Flow
with_edges edges = record graph { edges = edges }

abbrev pub went : List Held → Outcome
went registers = Went (at 5 (state registers)) []

-- values that are made, moved, computed and converted
pub record AreValuesMade : Type 0 where
  pub number : after (Number 1 7 4) [] [] ≡ went (holds 1 4 (Plain 7) ∷ [])
  pub number_over_another : after (Number 1 7 4) (holds 1 8 (Plain 9) ∷ []) [] ≡ went (holds 1 4 (Plain 7) ∷ [])
  pub address : after (Address 1 0) [] [] ≡ went (holds 1 8 (To 0 (pos 0)) ∷ [])
  -- a variable of the frame is found before a static one
  pub static_address : execute graph (Address 1 1) 5 place (with_static 1 2 (state [])) [] ≡ Went (at 5 (with_static 1 2 (state (holds 1 8 (To 2 (pos 0)) ∷ [])))) []
  pub own_address : execute graph (Address 1 0) 5 place (with_static 0 2 (state [])) [] ≡ Went (at 5 (with_static 0 2 (state (holds 1 8 (To 0 (pos 0)) ∷ [])))) []
  pub no_address : after (Address 1 1) [] [] ≡ Ended
  pub move_keeps : after (Move 2 1) (holds 1 4 (Plain 7) ∷ []) [] ≡ went (holds 1 4 (Plain 7) ∷ holds 2 4 (Plain 7) ∷ [])
  pub shift : after (Shift 2 1 (negsuc 3)) (holds 1 8 (To 1 (pos 8)) ∷ []) [] ≡ went (holds 2 8 (To 1 (pos 4)) ∷ [])
  pub shift_of_null : after (Shift 2 1 (pos 4)) (holds 1 8 (Plain 0) ∷ []) [] ≡ went (holds 2 8 (Plain 4) ∷ [])
  pub shift_of_nothing : after (Shift 2 1 (pos 4)) [] [] ≡ Ended
  -- an index of -1 is one item back
  pub shift_back : after (ShiftBy 3 1 2 (pos 4)) (holds 1 8 (To 1 (pos 8)) ∷ holds 2 8 (Plain (2 ^ 64 - 1)) ∷ []) [] ≡ went (holds 3 8 (To 1 (pos 4)) ∷ [])
  pub index_of_nothing : after (ShiftBy 3 1 2 (pos 4)) (holds 2 8 (Plain 1) ∷ []) [] ≡ Ended
  pub nothing_as_index : after (ShiftBy 3 1 2 (pos 4)) (holds 1 8 (To 1 (pos 0)) ∷ []) [] ≡ Ended
  pub sum : after (Compute 3 op.Add 1 2 4 true) (holds 1 4 (Plain 2) ∷ holds 2 4 (Plain 3) ∷ []) [] ≡ went (holds 3 4 (Plain 5) ∷ [])
  pub sum_of_an_address : after (Compute 3 op.Add 1 2 8 false) (holds 1 8 (To 1 (pos 0)) ∷ holds 2 8 (Plain 1) ∷ []) [] ≡ went (holds 3 8 (Plain 8193) ∷ [])
  pub sum_that_wraps : after (Compute 3 op.Add 1 2 1 false) (holds 1 1 (Plain 255) ∷ holds 2 1 (Plain 3) ∷ []) [] ≡ went (holds 3 1 (Plain 2) ∷ [])
  pub no_left_side : after (Compute 3 op.Add 1 2 4 true) (holds 2 4 (Plain 3) ∷ []) [] ≡ Ended
  pub no_right_side : after (Compute 3 op.Add 1 2 4 true) (holds 1 4 (Plain 3) ∷ []) [] ≡ Ended
  pub divided_by_zero : after (Compute 3 op.Div 1 2 4 true) (holds 1 4 (Plain 2) ∷ holds 2 4 (Plain 0) ∷ []) [] ≡ Ended
  pub rest_by_zero : after (Compute 3 op.Rem 1 2 4 false) (holds 1 4 (Plain 2) ∷ holds 2 4 (Plain 0) ∷ []) [] ≡ Ended
  pub largest_amount : after (Compute 3 op.Left 1 2 4 true) (holds 1 4 (Plain 1) ∷ holds 2 4 (Plain 31) ∷ []) [] ≡ went (holds 3 4 (Plain (2 ^ 31)) ∷ [])
  pub amount_of_the_width : after (Compute 3 op.Left 1 2 4 true) (holds 1 4 (Plain 1) ∷ holds 2 4 (Plain 32) ∷ []) [] ≡ Ended
  pub negative_amount : after (Compute 3 op.Right 1 2 4 true) (holds 1 4 (Plain 1) ∷ holds 2 4 (Plain (2 ^ 32 - 1)) ∷ []) [] ≡ Ended
  -- the amount of a shift is not cut to the size of what is shifted
  pub large_amount : after (Compute 3 op.Left 1 2 4 true) (holds 1 4 (Plain 1) ∷ holds 2 8 (Plain (2 ^ 32)) ∷ []) [] ≡ Ended
  -- comparisons go by the sign, and give 4 bytes
  pub less_with_sign : after (Compute 3 op.Less 1 2 8 true) (holds 1 8 (Plain (2 ^ 64 - 1)) ∷ holds 2 8 (Plain 0) ∷ []) [] ≡ went (holds 3 4 (Plain 1) ∷ [])
  pub less_without_sign : after (Compute 3 op.Less 1 2 8 false) (holds 1 8 (Plain (2 ^ 64 - 1)) ∷ holds 2 8 (Plain 0) ∷ []) [] ≡ went (holds 3 4 (Plain 0) ∷ [])
  pub less_or_equal : after (Compute 3 op.LessEqual 1 2 8 true) (holds 1 8 (Plain 5) ∷ holds 2 8 (Plain 5) ∷ []) [] ≡ went (holds 3 4 (Plain 1) ∷ [])
  pub char_to_long : after (Convert 2 1 8 true) (holds 1 1 (Plain 255) ∷ []) [] ≡ went (holds 2 8 (Plain (2 ^ 64 - 1)) ∷ [])
  pub byte_to_long : after (Convert 2 1 8 false) (holds 1 1 (Plain 255) ∷ []) [] ≡ went (holds 2 8 (Plain 255) ∷ [])
  pub int_to_char : after (Convert 2 1 1 true) (holds 1 4 (Plain 258) ∷ []) [] ≡ went (holds 2 1 (Plain 2) ∷ [])
  pub nothing_to_int : after (Convert 2 1 4 true) [] [] ≡ Ended
  pub address_to_int : after (Convert 2 1 4 false) (holds 1 8 (To 1 (pos 4)) ∷ []) [] ≡ went (holds 2 4 (Plain 8196) ∷ [])
  pub nothing_held : after (Move 2 1) [] [] ≡ Ended

-- accesses, frees, fills and copies, and the faults that they meet
pub record AreAccesses : Type 0 where
  pub read_pointer : after (Read 2 1 8 true) (holds 1 8 (To 0 (pos 0)) ∷ []) [] ≡ went (holds 2 8 (To 1 (pos 0)) ∷ [])
  pub read_number : after (Read 2 1 8 false) (holds 1 8 (To 0 (pos 0)) ∷ []) [] ≡ went (holds 2 8 (Plain 8192) ∷ [])
  pub read_last : after (Read 2 1 1 false) (holds 1 8 (To 1 (pos 7)) ∷ []) [] ≡ went (holds 2 1 (Plain 0) ∷ [])
  -- the register of the address gets what is read
  pub read_over_its_address : after (Read 1 1 4 false) (holds 1 8 (To 1 (pos 0)) ∷ []) [] ≡ went (holds 1 4 (Plain 0) ∷ [])
  pub read_nowhere : after (Read 2 1 4 false) [] [] ≡ Ended
  pub read_null : after (Read 2 1 4 false) (holds 1 8 (Plain 0) ∷ []) [] ≡ Faulted 1 place
  pub read_near_null : after (Read 2 1 4 false) (holds 1 8 (Plain 4095) ∷ []) [] ≡ Faulted 1 place
  pub read_outside : after (Read 2 1 8 false) (holds 1 8 (To 1 (pos 1)) ∷ []) [] ≡ Faulted 2 place
  pub read_before : after (Read 2 1 1 false) (holds 1 8 (To 1 (negsuc 0)) ∷ []) [] ≡ Faulted 2 place
  pub read_dead : after (Read 2 1 4 false) (holds 1 8 (To 2 (pos 0)) ∷ []) [] ≡ Faulted 3 place
  pub read_invalid : after (Read 2 1 4 false) (holds 1 8 (Plain 4096) ∷ []) [] ≡ Faulted 4 place
  pub write : after (Write 1 2 4) (holds 1 8 (To 1 (pos 0)) ∷ holds 2 4 (Plain 7) ∷ []) []
      ≡ Went (at 5 (with_memory (stored example (To 1 (pos 0)) 4 (Plain 7)) (state []))) []
  pub write_pointer : after (Write 1 2 8) (holds 1 8 (To 1 (pos 0)) ∷ holds 2 8 (To 0 (pos 4)) ∷ []) []
      ≡ Went (at 5 (with_memory (stored example (To 1 (pos 0)) 8 (To 0 (pos 4))) (state []))) []
  pub write_nowhere : after (Write 1 2 4) (holds 2 4 (Plain 7) ∷ []) [] ≡ Ended
  pub write_nothing : after (Write 1 2 4) (holds 1 8 (To 1 (pos 0)) ∷ []) [] ≡ Ended
  pub write_null : after (Write 1 2 4) (holds 1 8 (Plain 0) ∷ holds 2 4 (Plain 7) ∷ []) [] ≡ Faulted 1 place
  pub write_outside : after (Write 1 2 4) (holds 1 8 (To 1 (pos 5)) ∷ holds 2 4 (Plain 7) ∷ []) [] ≡ Faulted 2 place
  pub write_dead : after (Write 1 2 4) (holds 1 8 (To 2 (pos 0)) ∷ holds 2 4 (Plain 7) ∷ []) [] ≡ Faulted 3 place
  pub write_invalid : after (Write 1 2 4) (holds 1 8 (Plain 4096) ∷ holds 2 4 (Plain 7) ∷ []) [] ≡ Faulted 4 place
  pub release : after (Release 1) (holds 1 8 (To 1 (pos 0)) ∷ []) [] ≡ Went (at 5 (with_memory (freed example (To 1 (pos 0))) (state []))) []
  pub release_null : after (Release 1) (holds 1 8 (Plain 0) ∷ []) [] ≡ went []
  pub release_twice : after (Release 1) (holds 1 8 (To 2 (pos 0)) ∷ []) [] ≡ Faulted 5 place
  pub release_inside : after (Release 1) (holds 1 8 (To 1 (pos 1)) ∷ []) [] ≡ Faulted 6 place
  pub release_variable : after (Release 1) (holds 1 8 (To 0 (pos 0)) ∷ []) [] ≡ Faulted 6 place
  pub release_number : after (Release 1) (holds 1 8 (Plain 8192) ∷ []) [] ≡ Faulted 6 place
  pub release_nowhere : after (Release 1) [] [] ≡ Ended
  -- the lowest byte of the value is filled in
  pub fill : after (Fill 1 2 8) (holds 1 8 (To 1 (pos 0)) ∷ holds 2 4 (Plain 257) ∷ []) []
      ≡ Went (at 5 (with_memory (filled example (To 1 (pos 0)) 1 8) (state []))) []
  pub fill_nothing : after (Fill 1 2 0) (holds 1 8 (Plain 0) ∷ holds 2 4 (Plain 1) ∷ []) [] ≡ went []
  pub fill_null : after (Fill 1 2 1) (holds 1 8 (Plain 0) ∷ holds 2 4 (Plain 1) ∷ []) [] ≡ Faulted 1 place
  pub fill_outside : after (Fill 1 2 9) (holds 1 8 (To 1 (pos 0)) ∷ holds 2 4 (Plain 1) ∷ []) [] ≡ Faulted 2 place
  pub fill_dead : after (Fill 1 2 1) (holds 1 8 (To 2 (pos 0)) ∷ holds 2 4 (Plain 1) ∷ []) [] ≡ Faulted 3 place
  pub fill_invalid : after (Fill 1 2 1) (holds 1 8 (Plain 4096) ∷ holds 2 4 (Plain 1) ∷ []) [] ≡ Faulted 4 place
  pub fill_nowhere : after (Fill 1 2 1) (holds 2 4 (Plain 1) ∷ []) [] ≡ Ended
  pub fill_with_nothing : after (Fill 1 2 1) (holds 1 8 (To 1 (pos 0)) ∷ []) [] ≡ Ended
  pub copy : after (Copy 1 2 8 true) (holds 1 8 (To 0 (pos 8)) ∷ holds 2 8 (To 0 (pos 0)) ∷ []) []
      ≡ Went (at 5 (with_memory (copied example (To 0 (pos 8)) (To 0 (pos 0)) 8) (state []))) []
  -- the source is looked at first
  pub copy_source_first : after (Copy 1 2 8 true) (holds 1 8 (Plain 0) ∷ holds 2 8 (To 2 (pos 0)) ∷ []) [] ≡ Faulted 3 place
  pub copy_from_null : after (Copy 1 2 8 true) (holds 1 8 (To 1 (pos 0)) ∷ holds 2 8 (Plain 0) ∷ []) [] ≡ Faulted 1 place
  pub copy_from_outside : after (Copy 1 2 8 true) (holds 1 8 (To 1 (pos 0)) ∷ holds 2 8 (To 0 (pos 9)) ∷ []) [] ≡ Faulted 2 place
  pub copy_from_invalid : after (Copy 1 2 8 true) (holds 1 8 (To 1 (pos 0)) ∷ holds 2 8 (Plain 4096) ∷ []) [] ≡ Faulted 4 place
  pub copy_to_null : after (Copy 1 2 8 true) (holds 1 8 (Plain 0) ∷ holds 2 8 (To 0 (pos 0)) ∷ []) [] ≡ Faulted 1 place
  pub copy_to_outside : after (Copy 1 2 8 true) (holds 1 8 (To 1 (pos 1)) ∷ holds 2 8 (To 0 (pos 0)) ∷ []) [] ≡ Faulted 2 place
  pub copy_to_dead : after (Copy 1 2 8 true) (holds 1 8 (To 2 (pos 0)) ∷ holds 2 8 (To 0 (pos 0)) ∷ []) [] ≡ Faulted 3 place
  pub copy_to_invalid : after (Copy 1 2 8 true) (holds 1 8 (Plain 4096) ∷ holds 2 8 (To 0 (pos 0)) ∷ []) [] ≡ Faulted 4 place
  pub copy_of_nothing : after (Copy 1 2 0 true) (holds 1 8 (Plain 0) ∷ holds 2 8 (Plain 0) ∷ []) [] ≡ went []
  pub copy_nowhere : after (Copy 1 2 8 true) (holds 2 8 (To 0 (pos 0)) ∷ []) [] ≡ Ended
  pub copy_from_nowhere : after (Copy 1 2 8 true) (holds 1 8 (To 0 (pos 0)) ∷ []) [] ≡ Ended
  pub copy_overlap : after (Copy 1 2 8 true) (holds 1 8 (To 0 (pos 4)) ∷ holds 2 8 (To 0 (pos 0)) ∷ []) [] ≡ Faulted 8 place
  pub copy_neighbours : after (Copy 1 2 4 true) (holds 1 8 (To 0 (pos 4)) ∷ holds 2 8 (To 0 (pos 0)) ∷ []) []
      ≡ Went (at 5 (with_memory (copied example (To 0 (pos 4)) (To 0 (pos 0)) 4) (state []))) []
  pub move_overlap : after (Copy 1 2 8 false) (holds 1 8 (To 0 (pos 4)) ∷ holds 2 8 (To 0 (pos 0)) ∷ []) []
      ≡ Went (at 5 (with_memory (copied example (To 0 (pos 4)) (To 0 (pos 0)) 8) (state []))) []

-- tests, allocations, inputs, scopes, ends of full expressions, and returns
pub record AreWays : Type 0 where
  -- an address equals the number that it is
  pub same : after (IfSame 1 2) (holds 1 8 (To 1 (pos 0)) ∷ holds 2 8 (Plain 8192) ∷ []) [] ≡ went []
  pub not_same : after (IfSame 1 2) (holds 1 4 (Plain 1) ∷ holds 2 4 (Plain 0) ∷ []) [] ≡ Barred
  pub different : after (IfDifferent 1 2) (holds 1 4 (Plain 1) ∷ holds 2 4 (Plain 0) ∷ []) [] ≡ went []
  pub not_different : after (IfDifferent 1 2) (holds 1 8 (To 1 (pos 0)) ∷ holds 2 8 (Plain 8192) ∷ []) [] ≡ Barred
  -- a register is compared with itself
  pub same_as_itself : after (IfSame 1 1) (holds 1 4 (Plain 7) ∷ []) [] ≡ went []
  pub different_from_itself : after (IfDifferent 1 1) (holds 1 4 (Plain 7) ∷ []) [] ≡ Barred
  pub same_as_nothing : after (IfSame 1 2) (holds 1 4 (Plain 1) ∷ []) [] ≡ Ended
  pub nothing_same : after (IfSame 1 2) (holds 2 4 (Plain 1) ∷ []) [] ≡ Ended
  pub different_from_nothing : after (IfDifferent 1 2) (holds 1 4 (Plain 1) ∷ []) [] ≡ Ended
  pub nothing_different : after (IfDifferent 1 2) (holds 2 4 (Plain 1) ∷ []) [] ≡ Ended
  pub allocate : after (Allocate 1 2 false) [] (NewBlock 16384 (1 ∷ 2 ∷ []) ∷ [])
      ≡ Went (at 5 (with_memory (placed example (new_block storage.Heap 16384 (1 ∷ 2 ∷ []))) (state (holds 1 8 (To 3 (pos 0)) ∷ [])))) []
  pub allocate_zeros : after (Allocate 1 2 true) [] (NewBlock 16384 (0 ∷ 0 ∷ []) ∷ [])
      ≡ Went (at 5 (with_memory (placed example (new_block storage.Heap 16384 (0 ∷ 0 ∷ []))) (state (holds 1 8 (To 3 (pos 0)) ∷ [])))) []
  -- the addresses of a dead block may be used again
  pub allocate_over_dead : after (Allocate 1 2 false) [] (NewBlock 12288 (1 ∷ 2 ∷ []) ∷ [])
      ≡ Went (at 5 (with_memory (placed example (new_block storage.Heap 12288 (1 ∷ 2 ∷ []))) (state (holds 1 8 (To 3 (pos 0)) ∷ [])))) []
  pub allocate_waits : after (Allocate 1 2 false) [] [] ≡ Waits
  pub allocate_null : after (Allocate 1 2 false) [] (NoBlock ∷ []) ≡ Barred
  pub allocate_short : after (Allocate 1 2 false) [] (NewBlock 16384 (1 ∷ []) ∷ []) ≡ Ended
  pub allocate_long : after (Allocate 1 2 false) [] (NewBlock 16384 (1 ∷ 2 ∷ 3 ∷ []) ∷ []) ≡ Ended
  pub allocate_no_byte : after (Allocate 1 2 false) [] (NewBlock 16384 (1 ∷ 256 ∷ []) ∷ []) ≡ Ended
  pub allocate_beside : after (Allocate 1 2 false) [] (NewBlock 16385 (1 ∷ 2 ∷ []) ∷ []) ≡ Ended
  pub allocate_given : after (Allocate 1 2 false) [] (GivenInput 1 ∷ []) ≡ Ended
  pub allocate_zeroed : after (Allocate 1 2 true) [] (NewBlock 16384 (0 ∷ 1 ∷ []) ∷ []) ≡ Ended
  pub allocate_over_live : after (Allocate 1 1 false) [] (NewBlock 8192 (0 ∷ []) ∷ []) ≡ Ended
  pub none : after (AllocateNone 1) [] (NoBlock ∷ []) ≡ went (holds 1 8 (Plain 0) ∷ [])
  pub none_waits : after (AllocateNone 1) [] [] ≡ Waits
  pub none_with_block : after (AllocateNone 1) [] (NewBlock 16384 [] ∷ []) ≡ Barred
  pub none_given : after (AllocateNone 1) [] (GivenInput 1 ∷ []) ≡ Ended
  pub input : after (Input 1 4 true false) [] (GivenInput (2 ^ 32 - 1) ∷ []) ≡ went (holds 1 4 (Plain (2 ^ 32 - 1)) ∷ [])
  pub input_too_large : after (Input 1 4 true false) [] (GivenInput (2 ^ 32) ∷ []) ≡ Ended
  pub input_truth : after (Input 1 1 false true) [] (GivenInput 2 ∷ []) ≡ Ended
  pub input_true : after (Input 1 1 false true) [] (GivenInput 1 ∷ []) ≡ went (holds 1 1 (Plain 1) ∷ [])
  pub input_null : after (Input 1 4 true false) [] (NoBlock ∷ []) ≡ Ended
  pub input_block : after (Input 1 4 true false) [] (NewBlock 16384 [] ∷ []) ≡ Ended
  pub input_waits : after (Input 1 4 true false) [] [] ≡ Waits
  pub enter_waits : after (Enter (1 ∷ [])) [] [] ≡ Waits
  pub enter_null : after (Enter (1 ∷ [])) [] (NoBlock ∷ []) ≡ Ended
  pub enter_given : after (Enter (1 ∷ [])) [] (GivenInput 1 ∷ []) ≡ Ended
  pub enter_short : after (Enter (1 ∷ [])) [] (NewBlock 16384 (1 ∷ 2 ∷ 3 ∷ []) ∷ []) ≡ Ended
  pub enter_over_live : after (Enter (1 ∷ [])) [] (NewBlock 8192 (1 ∷ 2 ∷ 3 ∷ 4 ∷ []) ∷ []) ≡ Ended
  pub enter_nothing : after (Enter []) [] [] ≡ went []
  -- the second of two variables waits for its own choice
  pub enter_second_waits : after (Enter (1 ∷ 2 ∷ [])) [] (NewBlock 16384 (1 ∷ 2 ∷ 3 ∷ 4 ∷ []) ∷ []) ≡ Waits
  pub enter : after (Enter (1 ∷ [])) [] (NewBlock 16384 (1 ∷ 2 ∷ 3 ∷ 4 ∷ []) ∷ [])
      ≡ Went (record {
        point = 5;
        frame = record { variables = record { variable = 0; block = 0 } ∷ record { variable = 1; block = 3 } ∷ []; registers = [] };
        callers = [];
        statics = [];
        memory = placed example (new_block storage.Local 16384 (1 ∷ 2 ∷ 3 ∷ 4 ∷ []));
        outer = [];
      }) []
  -- two variables of different sizes are made in the order in which they are named
  pub enter_two : execute graph (Enter (1 ∷ 0 ∷ [])) 5 place (alone (holds 1 8 (To 1 (pos 0)) ∷ [])) (four 16384 ∷ sixteen 20480 ∷ GivenInput 7 ∷ [])
      ≡ Went (record {
        point = 5;
        frame = record {
          variables = record { variable = 0; block = 4 } ∷ record { variable = 1; block = 3 } ∷ [];
          registers = holds 1 8 (To 1 (pos 0)) ∷ [];
        };
        callers = [];
        statics = [];
        memory = placed (placed example (new_block storage.Local 16384 (1 ∷ 2 ∷ 3 ∷ 4 ∷ []))) (new_block storage.Local 20480 (replicate 16 9));
        outer = [];
      }) (GivenInput 7 ∷ [])
  pub enter_two_exchanged : execute graph (Enter (1 ∷ 0 ∷ [])) 5 place (alone []) (sixteen 16384 ∷ four 20480 ∷ []) ≡ Ended
  pub enter_two_at_one_base : execute graph (Enter (1 ∷ 0 ∷ [])) 5 place (alone []) (four 16384 ∷ sixteen 16384 ∷ []) ≡ Ended
  -- the variable held the only pointer to block 1
  pub leave : after (Leave (0 ∷ [])) [] [] ≡ Faulted 7 place
  pub leave_kept : after (Leave (0 ∷ [])) (holds 1 8 (To 1 (pos 4)) ∷ []) []
      ≡ Went (at 5 (with_memory (without example 0 (slice_get example 0)) (alone (holds 1 8 (To 1 (pos 4)) ∷ [])))) []
  pub leave_after_loss : execute graph (Leave []) 5 place (alone []) [] ≡ Faulted 7 place
  pub leave_nothing : after (Leave []) [] [] ≡ went []
  pub finish : after (Finish (1 ∷ [])) (holds 1 4 (Plain 7) ∷ []) [] ≡ went []
  -- the register held the only pointer to block 1; another register, a static variable, a caller or something outside keeps it
  pub finish_lost : execute graph (Finish (1 ∷ [])) 5 place (alone (holds 1 8 (To 1 (pos 0)) ∷ [])) [] ≡ Faulted 7 place
  pub finish_one_of_two : execute graph (Finish (1 ∷ [])) 5 place (alone (holds 1 8 (To 1 (pos 0)) ∷ holds 2 8 (To 1 (pos 4)) ∷ [])) [] ≡ Went (at 5 (alone (holds 2 8 (To 1 (pos 4)) ∷ []))) []
  pub finish_static : execute graph (Finish (1 ∷ [])) 5 place (with_static 1 0 (alone (holds 1 8 (To 1 (pos 0)) ∷ []))) [] ≡ Went (at 5 (with_static 1 0 (alone []))) []
  pub finish_in_caller : execute graph (Finish (1 ∷ [])) 5 place (with_caller None (alone (holds 1 8 (To 1 (pos 0)) ∷ []))) [] ≡ Went (at 5 (with_caller None (alone []))) []
  pub finish_outer : execute graph (Finish (1 ∷ [])) 5 place (record (alone (holds 1 8 (To 1 (pos 0)) ∷ [])) { outer = 1 ∷ [] }) [] ≡ Went (record (alone []) { point = 5; outer = 1 ∷ [] }) []
  -- a call makes the parameter and stores the argument in it
  pub call : after (Call 0 (2 ∷ []) (Some 4)) (holds 1 4 (Plain 7) ∷ holds 2 4 (Plain 258) ∷ []) (NewBlock 16384 (9 ∷ 9 ∷ 9 ∷ 9 ∷ []) ∷ [])
      ≡ Went (record {
        point = 7;
        frame = record { variables = record { variable = 1; block = 3 } ∷ []; registers = [] };
        callers = record {
          frame = record { variables = record { variable = 0; block = 0 } ∷ []; registers = holds 1 4 (Plain 7) ∷ [] };
          point = 5;
          into = Some 4;
        } ∷ [];
        statics = [];
        memory = placed example (new_block storage.Local 16384 (2 ∷ 1 ∷ 0 ∷ 0 ∷ []));
        outer = [];
      }) []
  pub call_waits : after (Call 0 (2 ∷ []) (Some 4)) (holds 2 4 (Plain 258) ∷ []) [] ≡ Waits
  pub call_null : after (Call 0 (2 ∷ []) (Some 4)) (holds 2 4 (Plain 258) ∷ []) (NoBlock ∷ []) ≡ Ended
  pub call_given : after (Call 0 (2 ∷ []) (Some 4)) (holds 2 4 (Plain 258) ∷ []) (GivenInput 1 ∷ []) ≡ Ended
  pub call_short : after (Call 0 (2 ∷ []) (Some 4)) (holds 2 4 (Plain 258) ∷ []) (NewBlock 16384 (9 ∷ 9 ∷ 9 ∷ []) ∷ []) ≡ Ended
  pub call_with_nothing : after (Call 0 (2 ∷ []) (Some 4)) [] (NewBlock 16384 (9 ∷ 9 ∷ 9 ∷ 9 ∷ []) ∷ []) ≡ Ended
  pub call_without : after (Call 0 [] None) [] (NewBlock 16384 (9 ∷ 9 ∷ 9 ∷ 9 ∷ []) ∷ []) ≡ Ended
  -- each parameter has a choice of its own, in order
  pub call_with_two : called_with_two (four 16384 ∷ eight 20480 ∷ GivenInput 7 ∷ [])
      ≡ Went (record {
        point = 7;
        frame = record { variables = record { variable = 1; block = 3 } ∷ record { variable = 2; block = 4 } ∷ []; registers = [] };
        callers = record {
          frame = record { variables = record { variable = 0; block = 0 } ∷ []; registers = [] };
          point = 5;
          into = None;
        } ∷ [];
        statics = [];
        memory = stored (placed (placed example (new_block storage.Local 16384 (2 ∷ 1 ∷ 0 ∷ 0 ∷ []))) (new_block storage.Local 20480 (replicate 8 9)))
            (To 4 (pos 0)) 8 (To 1 (pos 0));
        outer = [];
      }) (GivenInput 7 ∷ [])
  pub second_waits : called_with_two (four 16384 ∷ []) ≡ Waits
  pub second_null : called_with_two (four 16384 ∷ NoBlock ∷ []) ≡ Ended
  pub second_given : called_with_two (four 16384 ∷ GivenInput 1 ∷ []) ≡ Ended
  pub second_short : called_with_two (four 16384 ∷ four 20480 ∷ []) ≡ Ended
  pub second_over_first : called_with_two (four 16384 ∷ eight 16384 ∷ []) ≡ Ended
  pub second_over_live : called_with_two (four 16384 ∷ eight 8192 ∷ []) ≡ Ended
  pub exchanged : called_with_two (eight 16384 ∷ four 20480 ∷ []) ≡ Ended
  pub call_of_none : after (Call 1 (2 ∷ []) (Some 4)) (holds 2 4 (Plain 258) ∷ []) [] ≡ Ended
  pub return_from_last : after (Return None) [] [] ≡ Ended
  pub return_nothing : execute graph (Return None) 8 place (with_caller None (alone [])) [] ≡ went []
  pub return_no_value : execute graph (Return (Some 1)) 8 place (with_caller (Some 4) (alone [])) [] ≡ went []
  pub return_dropped : execute graph (Return (Some 1)) 8 place (with_caller None (alone (holds 1 4 (Plain 7) ∷ []))) [] ≡ went []
  pub return_from_main : after (Return (Some 1)) (holds 1 4 (Plain 7) ∷ []) [] ≡ Ended
  pub return_result : execute graph (Return (Some 1)) 8 place (record (state (holds 1 4 (Plain 7) ∷ [])) {
    callers = record { frame = record { variables = record { variable = 0; block = 0 } ∷ []; registers = [] }; point = 5; into = Some 4 } ∷ [];
  }) []
      ≡ went (holds 4 4 (Plain 7) ∷ [])
  -- block 1 lives
  pub close : after Close [] [] ≡ Faulted 9 place
  pub close_nothing : execute graph Close 5 place (with_memory (freed example (To 1 (pos 0))) (state [])) []
      ≡ Went (at 5 (with_memory (freed example (To 1 (pos 0))) (state []))) []
  -- an edge is gone along from its own point, and the first that is not barred is
  pub elsewhere : step_along graph (edge 1 5 Close) (state []) [] ≡ Barred
  pub no_edge : step graph (state []) [] ≡ Ended
  pub no_edge_here : step (with_edges (edge 1 5 Close ∷ [])) (state []) [] ≡ Ended
  pub first_edge : step (with_edges (edge 0 5 (Finish []) ∷ edge 0 6 (Finish []) ∷ [])) (state []) [] ≡ went []
  pub second_edge : step (with_edges (edge 0 6 (Allocate 1 4 false) ∷ edge 0 5 (AllocateNone 1) ∷ [])) (state []) (NoBlock ∷ []) ≡ went (holds 1 8 (Plain 0) ∷ [])
  pub both_barred : step (with_edges (edge 0 6 (IfSame 1 2) ∷ edge 0 5 (IfSame 2 1) ∷ [])) (state (holds 1 4 (Plain 1) ∷ holds 2 4 (Plain 0) ∷ [])) [] ≡ Ended
  pub fault_before_other : step (with_edges (edge 0 6 Close ∷ edge 0 5 (Finish []) ∷ [])) (state []) [] ≡ Faulted 9 place
