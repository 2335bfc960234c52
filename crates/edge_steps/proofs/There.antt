-- A step of the machine along an edge is a step of what is seen, and a fault is a fault.
use Rattle.std.proofs.Common.{◌≡◌, ℕ, ◌%◌, ◌^◌, Bool, true, ◌&&◌, not, List, [], ◌∷◌, length, pos, ◌*ℤ◌, nat_eq, nat_lt, ◌||◌, Option, None, Some, refl, ap, ltb-true}
use Rattle.std.specs.Prelude.{option_map, if◌then◌else◌, ℤ}
use Rattle.std.specs.List.{list_all}
use Rattle.cbase.specs.declared.place.Place.{Place}
use Rattle.arithmetic.specs.declared.op.Op.{Op}
use Rattle.arithmetic.specs.Computing.{computed}
use Rattle.arithmetic.specs.Conversion.{converted}
use Rattle.arithmetic.specs.Value.{value}
use Rattle.bytes_core.specs.declared.block.BlockKind.TheVariants as storage
use Rattle.bytes_core.specs.declared.word.Word.{Word}
use Rattle.bytes_core.specs.declared.word.Word.TheVariants.{Plain, To}
use Rattle.bytes_core.specs.Access.{access_fault, range_fault, loaded, stored, filled}
use Rattle.bytes_core.specs.Copying.{copy_fault, copied}
use Rattle.bytes_core.specs.Placement.{new_block, is_new_block, placed}
use Rattle.bytes_core.specs.Release.{free_fault, freed}
use Rattle.bytes_core.specs.Value.{address_number, is_same_address, moved}
use Rattle.choices.specs.declared.choice.Choice.{Choice}
use Rattle.choices.specs.declared.choice.Choice.TheVariants.{None as NoBlock, Block as NewBlock, Input as GivenInput}
use Rattle.flow.specs.declared.flow_graph.Flow.{Flow}
use Rattle.flow.specs.Holding.{Held, held_by}
use Rattle.flow.specs.Machine.{State, Went, execute, block_here, addressed, at, with_value, with_memory, without_registers, size_after, allocated, allocated_none, received}
use Rattle.flow.specs.declared.instruction.Instr.TheVariants.{Number, Address, Move, Read, Write, Shift, ShiftBy, Compute, Convert, IfSame, IfDifferent, Allocate, AllocateNone, Release, Fill, Copy, Input}
use Rattle.flow.specs.declared.instruction.Instr.{Instr}
use Rattle.graph.proofs.Tests.{and_left, and_right}
use Rattle.edge_steps.specs.EdgeSteps.{EdgeSteps, EdgeFaults}
use Rattle.edge_steps.specs.Seen.{words_of, seen, HasSizes}
use Rattle.edge_steps.proofs.Outcomes.{IsRight, right_given, right_unless_fault, right_if_computed, right_if}
use Rattle.edge_steps.proofs.Registers.{leaves_emptied, leaves_without, leaves_value, leaves_word, words_put}

module _ (flow : Flow) (sizes : ℕ → ℕ) (ports : List Word) (to : ℕ) (place : Place) (state : State) (choices : List Choice) where
  -- what is seen goes on, or faults, as the line of the instruction says
  abbrev pub Steps : Instr → State → Type 0
  Steps instr next = EdgeSteps flow sizes instr (seen ports state) (seen ports next)

  abbrev pub Faults : Instr → ℕ → Type 0
  Faults instr kind = EdgeFaults instr kind (seen ports state)

  abbrev pub Right : Instr → Type 0
  Right instr = IsRight (Steps instr) (Faults instr) place (execute flow instr to place state choices)

  word : (register : ℕ) (held : Held) → held_by state.frame.registers register ≡ Some held → words_of state.frame.registers register ≡ Some held.word
  word register held is = ap (option_map (λ (h : Held). h.word)) is

  pub there_number : (into number size : ℕ) → Right (Number into number size)
  there_number into number size = record { word = Plain number; gives = refl; leaves = leaves_word ports to state into size (Plain number) }

  pub there_address : (into variable : ℕ) → Right (Address into variable)
  there_address into variable = by_block (block_here state variable) refl
    where
      by_block : (found : Option ℕ) → block_here state variable ≡ found → IsRight (Steps (Address into variable)) (Faults (Address into variable)) place (addressed found into (at to state) choices)
      by_block None is = tt
      by_block (Some block) is = record { word = To block (pos 0); gives = record { block = block; stands = is; is = refl }; leaves = leaves_word ports to state into 8 (To block (pos 0)) }

  pub there_move : (into from : ℕ) → Right (Move into from)
  there_move into from = right_given (Steps (Move into from)) (Faults (Move into from)) place (held_by state.frame.registers from)
      (λ held. Went (at to (with_value into held.size held.word state)) choices)
      (λ held is. record { word = held.word; gives = word from held is; leaves = leaves_word ports to state into held.size held.word })

  pub there_read : (into from size : ℕ) (pointer : Bool) → Right (Read into from size pointer)
  there_read into from size pointer =
      let instr = Read into from size pointer in
      right_given (Steps instr) (Faults instr) place (held_by state.frame.registers from) _
      (λ held is. right_unless_fault (Steps instr) (Faults instr) place (access_fault state.memory held.word size)
      (Went (at to (with_value into size (loaded state.memory held.word size pointer) (without_registers (from ∷ []) state))) choices)
      (λ room. record { to = held.word; address = word from held is; room = room; leaves = leaves_value ports to state (from ∷ []) into size (loaded state.memory held.word size pointer) })
      (λ kind fault. record { to = held.word; address = word from held is; fault = fault }))

  pub there_write : (address from size : ℕ) → Right (Write address from size)
  there_write address from size =
      let instr = Write address from size in
      right_given (Steps instr) (Faults instr) place (held_by state.frame.registers address) _
      (λ held is. right_given (Steps instr) (Faults instr) place (held_by state.frame.registers from) _
      (λ written written_is. right_unless_fault (Steps instr) (Faults instr) place (access_fault state.memory held.word size)
      (Went (at to (with_memory (stored state.memory held.word size written.word) (without_registers (address ∷ from ∷ []) state))) choices)
      (λ room. record {
        to = held.word;
        word = written.word;
        address = word address held is;
        value = word from written written_is;
        room = room;
        leaves = leaves_emptied ports to state (address ∷ from ∷ []) (stored state.memory held.word size written.word);
      })
      (λ kind fault. record { to = held.word; word = written.word; address = word address held is; value = word from written written_is; fault = fault })))

  pub there_shift : (into address : ℕ) (by : ℤ) → Right (Shift into address by)
  there_shift into address by =
      let instr = Shift into address by in
      right_given (Steps instr) (Faults instr) place (held_by state.frame.registers address) (λ held. Went (at to (with_value into 8 (moved held.word by) (without_registers (address ∷ []) state))) choices)
      (λ held is. record {
        word = moved held.word by;
        gives = record { address = held.word; holds = word address held is; is = refl };
        leaves = leaves_value ports to state (address ∷ []) into 8 (moved held.word by);
      })

  pub there_shift_by : (into address by : ℕ) (scale : ℤ) → Right (ShiftBy into address by scale)
  there_shift_by into address by scale =
      let instr = ShiftBy into address by scale in
      right_given (Steps instr) (Faults instr) place (held_by state.frame.registers address) _
      (λ held is. right_given (Steps instr) (Faults instr) place (held_by state.frame.registers by)
      (λ number. Went (at to (with_value into 8 (moved held.word (value 8 true (address_number state.memory number.word) *ℤ scale)) (without_registers (address ∷ by ∷ []) state))) choices)
      (λ number number_is. record {
        word = moved held.word (value 8 true (address_number state.memory number.word) *ℤ scale);
        gives = record { address = held.word; number = number.word; holds = word address held is; holds_number = word by number number_is; is = refl };
        leaves = leaves_value ports to state (address ∷ by ∷ []) into 8 (moved held.word (value 8 true (address_number state.memory number.word) *ℤ scale));
      }))

  pub there_compute : (into : ℕ) (op : Op) (one other size : ℕ) (signed : Bool) → Right (Compute into op one other size signed)
  there_compute into op one other size signed =
      let instr = Compute into op one other size signed in
      right_given (Steps instr) (Faults instr) place (held_by state.frame.registers one) _
      (λ held is. right_given (Steps instr) (Faults instr) place (held_by state.frame.registers other) _
      (λ second second_is. right_if_computed (Steps instr) (Faults instr) place (computed op size signed (address_number state.memory held.word) (address_number state.memory second.word))
      (λ number. Went (at to (with_value into (size_after op size) (Plain number) (without_registers (one ∷ other ∷ []) state))) choices)
      (λ number computes. record {
        word = Plain number;
        gives = record { one = held.word; other = second.word; holds = word one held is; holds_other = word other second second_is; number = number; computes = computes; is = refl };
        leaves = leaves_value ports to state (one ∷ other ∷ []) into (size_after op size) (Plain number);
      })))

  pub there_convert : HasSizes sizes state → (into from size : ℕ) (signed : Bool) → Right (Convert into from size signed)
  there_convert has into from size signed =
      let instr = Convert into from size signed in
      right_given (Steps instr) (Faults instr) place (held_by state.frame.registers from)
      (λ held. Went (at to (with_value into size (Plain (converted held.size signed size (address_number state.memory held.word))) (without_registers (from ∷ []) state))) choices)
      (λ held is. record {
        word = Plain (converted held.size signed size (address_number state.memory held.word));
        gives = record { value = held.word; holds = word from held is; is = ap (λ (n : ℕ). Plain (converted n signed size (address_number state.memory held.word))) (has.of from held is) };
        leaves = leaves_value ports to state (from ∷ []) into size (Plain (converted held.size signed size (address_number state.memory held.word)));
      })

  pub there_same : (one other : ℕ) → Right (IfSame one other)
  there_same one other =
      let instr = IfSame one other in
      right_given (Steps instr) (Faults instr) place (held_by state.frame.registers one) _
      (λ held is. right_given (Steps instr) (Faults instr) place (held_by state.frame.registers other) _
      (λ second second_is. right_if (Steps instr) (Faults instr) place (is_same_address state.memory held.word second.word)
      (Went (at to (without_registers (one ∷ other ∷ []) state)) choices) _
      (λ test. record {
        one = held.word;
        other = second.word;
        left_held = word one held is;
        right_held = word other second second_is;
        test = test;
        leaves = leaves_without ports to state (one ∷ other ∷ []);
      })
      (λ test. tt)))

  pub there_different : (one other : ℕ) → Right (IfDifferent one other)
  there_different one other =
      let instr = IfDifferent one other in
      right_given (Steps instr) (Faults instr) place (held_by state.frame.registers one) _
      (λ held is. right_given (Steps instr) (Faults instr) place (held_by state.frame.registers other) _
      (λ second second_is. right_if (Steps instr) (Faults instr) place (is_same_address state.memory held.word second.word) _
      (Went (at to (without_registers (one ∷ other ∷ []) state)) choices)
      (λ test. tt)
      (λ test. record {
        one = held.word;
        other = second.word;
        left_held = word one held is;
        right_held = word other second second_is;
        test = test;
        leaves = leaves_without ports to state (one ∷ other ∷ []);
      })))

  pub there_release : (address : ℕ) → Right (Release address)
  there_release address =
      let instr = Release address in
      right_given (Steps instr) (Faults instr) place (held_by state.frame.registers address) _
      (λ held is. right_unless_fault (Steps instr) (Faults instr) place (free_fault state.memory held.word)
      (Went (at to (with_memory (freed state.memory held.word) (without_registers (address ∷ []) state))) choices)
      (λ allowed. record { to = held.word; address = word address held is; allowed = allowed; leaves = leaves_emptied ports to state (address ∷ []) (freed state.memory held.word) })
      (λ kind fault. record { to = held.word; address = word address held is; fault = fault }))

  pub there_fill : (address from count : ℕ) → Right (Fill address from count)
  there_fill address from count =
      let instr = Fill address from count in
      right_given (Steps instr) (Faults instr) place (held_by state.frame.registers address) _
      (λ held is. right_given (Steps instr) (Faults instr) place (held_by state.frame.registers from) _
      (λ second second_is. right_unless_fault (Steps instr) (Faults instr) place (range_fault state.memory held.word count)
      (Went (at to (with_memory (filled state.memory held.word (address_number state.memory second.word % 256) count) (without_registers (address ∷ from ∷ []) state))) choices)
      (λ room. record {
        to = held.word;
        word = second.word;
        address = word address held is;
        value = word from second second_is;
        room = room;
        leaves = leaves_emptied ports to state (address ∷ from ∷ []) (filled state.memory held.word (address_number state.memory second.word % 256) count);
      })
      (λ kind fault. record { to = held.word; word = second.word; address = word address held is; value = word from second second_is; fault = fault })))

  pub there_copy : (target from count : ℕ) (disjoint : Bool) → Right (Copy target from count disjoint)
  there_copy target from count disjoint =
      let instr = Copy target from count disjoint in
      right_given (Steps instr) (Faults instr) place (held_by state.frame.registers target) _
      (λ held is. right_given (Steps instr) (Faults instr) place (held_by state.frame.registers from) _
      (λ second second_is. right_unless_fault (Steps instr) (Faults instr) place (copy_fault state.memory held.word second.word count disjoint)
      (Went (at to (with_memory (copied state.memory held.word second.word count) (without_registers (target ∷ from ∷ []) state))) choices)
      (λ room. record {
        target = held.word;
        source = second.word;
        to_holds = word target held is;
        from_holds = word from second second_is;
        room = room;
        leaves = leaves_emptied ports to state (target ∷ from ∷ []) (copied state.memory held.word second.word count);
      })
      (λ kind fault. record { target = held.word; source = second.word; to_holds = word target held is; from_holds = word from second second_is; fault = fault })))

  -- with choices

  pub there_refused : (into : ℕ) → Right (AllocateNone into)
  there_refused into = by_choices choices
    where
      by_choices : (given : List Choice) → IsRight (Steps (AllocateNone into)) (Faults (AllocateNone into)) place (allocated_none into (at to state) given)
      by_choices [] = tt
      by_choices (NoBlock ∷ rest) = record { leaves = leaves_word ports to state into 8 (Plain 0) }
      by_choices (NewBlock base contents ∷ rest) = tt
      by_choices (GivenInput number ∷ rest) = tt

  pub there_input : (into size : ℕ) (signed truth : Bool) → Right (Input into size signed truth)
  there_input into size signed truth = by_choices choices
    where
      instr : Instr
      instr = Input into size signed truth

      by_choices : (given : List Choice) → IsRight (Steps (Input into size signed truth)) (Faults (Input into size signed truth)) place (received into size truth (at to state) given)
      by_choices [] = tt
      by_choices (NoBlock ∷ rest) = tt
      by_choices (NewBlock base contents ∷ rest) = tt
      by_choices (GivenInput number ∷ rest) =
          right_if (Steps (Input into size signed truth)) (Faults (Input into size signed truth)) place (nat_lt number (if truth then 2 else 256 ^ size)) (Went (at to (with_value into size (Plain number) state)) rest) _
          (λ fits. record {
            word = Plain number;
            gives = record { number = number; is = refl; fits = ltb-true _ _ fits };
            leaves = leaves_word ports to state into size (Plain number);
          })
          (λ fits. tt)

  pub there_allocate : (into bytes : ℕ) (zeroed : Bool) → Right (Allocate into bytes zeroed)
  there_allocate into bytes zeroed = by_choices choices
    where
      by_choices : (given : List Choice) → IsRight (Steps (Allocate into bytes zeroed)) (Faults (Allocate into bytes zeroed)) place (allocated into bytes zeroed (at to state) given)
      by_choices [] = tt
      by_choices (NoBlock ∷ rest) = tt
      by_choices (GivenInput number ∷ rest) = tt
      by_choices (NewBlock base contents ∷ rest) =
          right_if (Steps (Allocate into bytes zeroed)) (Faults (Allocate into bytes zeroed)) place (is_new_block state.memory storage.Heap bytes base contents && (not zeroed || list_all (nat_eq 0) contents))
          (Went (with_value into 8 (To (length state.memory) (pos 0)) (with_memory (placed state.memory (new_block storage.Heap base contents)) (at to state))) rest) _
          (λ right. record {
            block = record {
              base = base;
              contents = contents;
              new = and_left (is_new_block state.memory storage.Heap bytes base contents) (not zeroed || list_all (nat_eq 0) contents) right;
              zeros = and_right (is_new_block state.memory storage.Heap bytes base contents) (not zeroed || list_all (nat_eq 0) contents) right;
              is = refl;
            };
            variables_are = λ variable. refl;
            registers_are = λ register. words_put (record { register = into; size = 8; word = To (length state.memory) (pos 0) }) state.frame.registers register;
            ports = refl;
            roots = refl;
          })
          (λ wrong. tt)
