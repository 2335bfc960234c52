-- Each step of what is seen is one of the machine, with some choices, and each fault is one.
use Rattle.std.proofs.Common.{◌≡◌, ℕ, ◌%◌, ◌^◌, Bool, true, false, ◌&&◌, ◌||◌, not, List, [], ◌∷◌, length, pos, ◌*ℤ◌, nat_eq, nat_lt, Option, None, Some, refl, sym, ◌∙◌, ap, subst, lt-ltb}
use Rattle.std.specs.Prelude.{option_map, if◌then◌else◌, ℤ}
use Rattle.std.specs.List.{list_all}
use Rattle.std.proofs.lemmas.Option.{same_Some, none-some}
use Rattle.cbase.specs.declared.place.Place.{Place}
use Rattle.arithmetic.specs.declared.op.Op.{Op}
use Rattle.arithmetic.specs.Computing.{computed}
use Rattle.arithmetic.specs.Conversion.{converted}
use Rattle.arithmetic.specs.Value.{value}
use Rattle.bytes_core.specs.declared.block.Block.{Block}
use Rattle.bytes_core.specs.declared.block.BlockKind.TheVariants as storage
use Rattle.bytes_core.specs.declared.word.Word.{Word}
use Rattle.bytes_core.specs.declared.word.Word.TheVariants.{Plain, To}
use Rattle.bytes_core.specs.Access.{access_fault, range_fault, loaded, stored, filled}
use Rattle.bytes_core.specs.Copying.{copy_fault, copied}
use Rattle.bytes_core.specs.Placement.{new_block, is_new_block, placed}
use Rattle.bytes_core.specs.Release.{free_fault, freed}
use Rattle.bytes_core.specs.Value.{address_number, is_same_address, moved}
use Rattle.choices.specs.declared.choice.Choice.{Choice}
use Rattle.choices.specs.declared.choice.Choice.TheVariants.{None as NoBlock, Block as NewBlock, Input as GivenInput}
use Rattle.graph.specs.State as graphs
use Rattle.graph.proofs.Tests.{and_both}
use Rattle.flow.specs.declared.flow_graph.Flow.{Flow}
use Rattle.flow.specs.declared.instruction.Instr.{Instr}
use Rattle.flow.specs.declared.instruction.Instr.TheVariants.{Number, Address, Move, Read, Write, Shift, ShiftBy, Compute, Convert, IfSame, IfDifferent, Allocate, AllocateNone, Release, Fill, Copy, Input}
use Rattle.flow.specs.Holding.{Held, held_by}
use Rattle.flow.specs.Machine.{State, Outcome, Went, Ended, Barred, Faulted, execute, given, unless_fault, if_computed, addressed, at, with_value, with_memory, without_registers, size_after}
use Rattle.changes.specs.Following.{Leaves}
use Rattle.changes.specs.Parts.{emptied, put}
use Rattle.reinterpret.specs.Sameness.{Equals}
use Rattle.reinterpret.specs.States.{Reads, Writes, FaultsReading, FaultsWriting}
use Rattle.heap_steps.specs.Steps.{Refuses}
use Rattle.range_steps.specs.Filling.{Fills, FaultsFilling}
use Rattle.range_steps.specs.Copies.{Copies, FaultsCopying}
use Rattle.block_steps.specs.Allocating.{Allocates}
use Rattle.block_steps.specs.Releasing.{Releases, FaultsReleasing}
use Rattle.register_steps.specs.States.{Numbers, Addresses, Moves, Shifts, ShiftsBy, Computes, Converts, Inputs}
use Rattle.edge_steps.specs.Seen.{words_of, seen, IsSame, HasSizes}
use Rattle.edge_steps.proofs.Registers.{leaves_emptied, leaves_without, leaves_value, leaves_word, words_put, same_left}

-- what a register holds that holds a word
pub held_of : (registers : List Held) (register : ℕ) (word : Word) → words_of registers register ≡ Some word → (held : Held) × (held_by registers register ≡ Some held) × (held.word ≡ word)
held_of registers register word is = by_found (held_by registers register) refl is
  where
    by_found : (found : Option Held) → held_by registers register ≡ found → option_map (λ (h : Held). h.word) found ≡ Some word → (held : Held) × (held_by registers register ≡ Some held) × (held.word ≡ word)
    by_found None found mapped = absurd (none-some word mapped)
    by_found (Some held) found mapped = (held, found, same_Some _ _ mapped)

pub given_is : (found : Option Held) (onward : Held → Outcome) (held : Held) → found ≡ Some held → given found onward ≡ onward held
given_is found onward held is = ap (λ (o : Option Held). given o onward) is

pub no_fault_is : (fault : Option ℕ) (place : Place) (outcome : Outcome) → fault ≡ None → unless_fault fault place outcome ≡ outcome
no_fault_is fault place outcome none = ap (λ (o : Option ℕ). unless_fault o place outcome) none

pub fault_is : (fault : Option ℕ) (place : Place) (outcome : Outcome) (kind : ℕ) → fault ≡ Some kind → unless_fault fault place outcome ≡ Faulted kind place
fault_is fault place outcome kind is = ap (λ (o : Option ℕ). unless_fault o place outcome) is

pub if_is : (test : Bool) (one other : Outcome) → test ≡ true → (if test then one else other) ≡ one
if_is test one other is = ap (λ (b : Bool). if b then one else other) is

pub if_is_not : (test : Bool) (one other : Outcome) → test ≡ false → (if test then one else other) ≡ other
if_is_not test one other is = ap (λ (b : Bool). if b then one else other) is

computed_is : (found : Option ℕ) (onward : ℕ → Outcome) (number : ℕ) → found ≡ Some number → if_computed found onward ≡ onward number
computed_is found onward number is = ap (λ (o : Option ℕ). if_computed o onward) is

-- with some choices the machine comes to a state of which this is seen, and leaves the others
pub record Comes (flow : Flow) (instr : Instr) (ports : List Word) (to : ℕ) (place : Place) (state : State) (others : List Choice) (after : graphs.State) : Type 0 where
  pub choices : List Choice
  pub next : State
  pub goes : execute flow instr to place state choices ≡ Went next others
  pub same : IsSame (seen ports next) after

pub record Meets (flow : Flow) (instr : Instr) (to : ℕ) (place : Place) (state : State) (kind : ℕ) : Type 0 where
  pub choices : List Choice
  pub faults : execute flow instr to place state choices ≡ Faulted kind place

module _ (flow : Flow) (ports : List Word) (to : ℕ) (place : Place) (state : State) where
  abbrev words : ℕ → Option Word
  words = words_of state.frame.registers

  word_same : (into size : ℕ) (word given : Word) (after : graphs.State) → given ≡ word → Leaves state.memory (put into given words) (seen ports state) after → IsSame (seen ports (at to (with_value into size word state))) after
  word_same into size word given after is leaves =
      same_left state.memory (put into word words) (seen ports state) (seen ports (at to (with_value into size word state))) after (leaves_word ports to state into size word)
      (subst (λ (w : Word). Leaves state.memory (put into w words) (seen ports state) after) is leaves)

  value_same : (gone : List ℕ) (into size : ℕ) (word given : Word) (after : graphs.State) → given ≡ word → Leaves state.memory (put into given (emptied gone words)) (seen ports state) after →
      IsSame (seen ports (at to (with_value into size word (without_registers gone state)))) after
  value_same gone into size word given after is leaves =
      same_left state.memory (put into word (emptied gone words)) (seen ports state) (seen ports (at to (with_value into size word (without_registers gone state)))) after (leaves_value ports to state gone into size word)
      (subst (λ (w : Word). Leaves state.memory (put into w (emptied gone words)) (seen ports state) after) is leaves)

  memory_same : (gone : List ℕ) (left given : List Block) (after : graphs.State) → given ≡ left → Leaves given (emptied gone words) (seen ports state) after →
      IsSame (seen ports (at to (with_memory left (without_registers gone state)))) after
  memory_same gone left given after is leaves =
      same_left left (emptied gone words) (seen ports state) (seen ports (at to (with_memory left (without_registers gone state)))) after (leaves_emptied ports to state gone left)
      (subst (λ (m : List Block). Leaves m (emptied gone words) (seen ports state) after) is leaves)

  module _ (others : List Choice) (after : graphs.State) where
    abbrev pub Back : Instr → Type 0
    Back instr = Comes flow instr ports to place state others after

    pub back_number : (into number size : ℕ) → Numbers into number (seen ports state) after → Back (Number into number size)
    back_number into number size gains = record {
      choices = others;
      next = at to (with_value into size (Plain number) state);
      goes = refl;
      same = word_same into size (Plain number) gains.word after gains.gives gains.leaves;
    }

    pub back_address : (into variable : ℕ) → Addresses into variable (seen ports state) after → Back (Address into variable)
    back_address into variable gains = record {
      choices = others;
      next = at to (with_value into 8 (To gains.gives.block (pos 0)) state);
      goes = ap (λ (o : Option ℕ). addressed o into (at to state) others) gains.gives.stands;
      same = word_same into 8 (To gains.gives.block (pos 0)) gains.word after gains.gives.is gains.leaves;
    }

    pub back_move : (into from : ℕ) → Moves into from (seen ports state) after → Back (Move into from)
    back_move into from gains =
        let held = held_of state.frame.registers from gains.word gains.gives in record {
          choices = others;
          next = at to (with_value into held.0.size held.0.word state);
          goes = given_is (held_by state.frame.registers from) (λ h. Went (at to (with_value into h.size h.word state)) others) held.0 held.1;
          same = word_same into held.0.size held.0.word gains.word after (sym held.2) gains.leaves;
        }

    pub back_read : (into from size : ℕ) (pointer : Bool) → Reads from size pointer into (seen ports state) after → Back (Read into from size pointer)
    back_read into from size pointer reads =
        let held = held_of state.frame.registers from reads.to reads.address in record {
          choices = others;
          next = at to (with_value into size (loaded state.memory held.0.word size pointer) (without_registers (from ∷ []) state));
          goes = given_is (held_by state.frame.registers from) _ held.0 held.1
              ∙ no_fault_is (access_fault state.memory held.0.word size) place _ (ap (λ (w : Word). access_fault state.memory w size) held.2 ∙ reads.room);
          same = value_same (from ∷ []) into size (loaded state.memory held.0.word size pointer) (loaded state.memory reads.to size pointer) after
              (ap (λ (w : Word). loaded state.memory w size pointer) (sym held.2)) reads.leaves;
        }

    pub back_write : (address from size : ℕ) → Writes address size from (seen ports state) after → Back (Write address from size)
    back_write address from size writes =
        let held = held_of state.frame.registers address writes.to writes.address in
        let written = held_of state.frame.registers from writes.word writes.value in record {
          choices = others;
          next = at to (with_memory (stored state.memory held.0.word size written.0.word) (without_registers (address ∷ from ∷ []) state));
          goes = given_is (held_by state.frame.registers address) _ held.0 held.1 ∙ given_is (held_by state.frame.registers from) _ written.0 written.1
              ∙ no_fault_is (access_fault state.memory held.0.word size) place _ (ap (λ (w : Word). access_fault state.memory w size) held.2 ∙ writes.room);
          same = memory_same (address ∷ from ∷ []) (stored state.memory held.0.word size written.0.word) (stored state.memory writes.to size writes.word) after
              (ap (λ (w : Word). stored state.memory w size writes.word) (sym held.2) ∙ ap (stored state.memory held.0.word size) (sym written.2)) writes.leaves;
        }

    pub back_shift : (into address : ℕ) (by : ℤ) → Shifts into address by (seen ports state) after → Back (Shift into address by)
    back_shift into address by gains =
        let held = held_of state.frame.registers address gains.gives.address gains.gives.holds in record {
          choices = others;
          next = at to (with_value into 8 (moved held.0.word by) (without_registers (address ∷ []) state));
          goes = given_is (held_by state.frame.registers address) _ held.0 held.1;
          same = value_same (address ∷ []) into 8 (moved held.0.word by) gains.word after (gains.gives.is ∙ ap (λ (w : Word). moved w by) (sym held.2)) gains.leaves;
        }

    pub back_shift_by : (into address by : ℕ) (scale : ℤ) → ShiftsBy into address by scale (seen ports state) after → Back (ShiftBy into address by scale)
    back_shift_by into address by scale gains =
        let held = held_of state.frame.registers address gains.gives.address gains.gives.holds in
        let number = held_of state.frame.registers by gains.gives.number gains.gives.holds_number in record {
          choices = others;
          next = at to (with_value into 8 (moved held.0.word (value 8 true (address_number state.memory number.0.word) *ℤ scale)) (without_registers (address ∷ by ∷ []) state));
          goes = given_is (held_by state.frame.registers address) _ held.0 held.1 ∙ given_is (held_by state.frame.registers by) _ number.0 number.1;
          same = value_same (address ∷ by ∷ []) into 8 (moved held.0.word (value 8 true (address_number state.memory number.0.word) *ℤ scale)) gains.word after
              (gains.gives.is ∙ ap (λ (w : Word). moved w (value 8 true (address_number state.memory gains.gives.number) *ℤ scale)) (sym held.2)
              ∙ ap (λ (w : Word). moved held.0.word (value 8 true (address_number state.memory w) *ℤ scale)) (sym number.2)) gains.leaves;
        }

    pub back_compute : (into : ℕ) (op : Op) (one other size : ℕ) (signed : Bool) → Computes into op one other size signed (seen ports state) after → Back (Compute into op one other size signed)
    back_compute into op one other size signed gains =
        let held = held_of state.frame.registers one gains.gives.one gains.gives.holds in
        let second = held_of state.frame.registers other gains.gives.other gains.gives.holds_other in record {
          choices = others;
          next = at to (with_value into (size_after op size) (Plain gains.gives.number) (without_registers (one ∷ other ∷ []) state));
          goes = given_is (held_by state.frame.registers one) _ held.0 held.1 ∙ given_is (held_by state.frame.registers other) _ second.0 second.1
              ∙ computed_is (computed op size signed (address_number state.memory held.0.word) (address_number state.memory second.0.word)) _ gains.gives.number
              (ap (λ (w : Word). computed op size signed (address_number state.memory w) (address_number state.memory second.0.word)) held.2
              ∙ ap (λ (w : Word). computed op size signed (address_number state.memory gains.gives.one) (address_number state.memory w)) second.2 ∙ gains.gives.computes);
          same = value_same (one ∷ other ∷ []) into (size_after op size) (Plain gains.gives.number) gains.word after gains.gives.is gains.leaves;
        }

    pub back_convert : (sizes : ℕ → ℕ) → HasSizes sizes state → (into from size : ℕ) (signed : Bool) → Converts into from (sizes from) size signed (seen ports state) after → Back (Convert into from size signed)
    back_convert sizes has into from size signed gains =
        let held = held_of state.frame.registers from gains.gives.value gains.gives.holds in record {
          choices = others;
          next = at to (with_value into size (Plain (converted held.0.size signed size (address_number state.memory held.0.word))) (without_registers (from ∷ []) state));
          goes = given_is (held_by state.frame.registers from) _ held.0 held.1;
          same = value_same (from ∷ []) into size (Plain (converted held.0.size signed size (address_number state.memory held.0.word))) gains.word after
              (gains.gives.is ∙ ap (λ (n : ℕ). Plain (converted n signed size (address_number state.memory gains.gives.value))) (sym (has.of from held.0 held.1))
              ∙ ap (λ (w : Word). Plain (converted held.0.size signed size (address_number state.memory w))) (sym held.2)) gains.leaves;
        }

    pub back_same : (one other : ℕ) → Equals one other true (seen ports state) after → Back (IfSame one other)
    back_same one other equals =
        let held = held_of state.frame.registers one equals.one equals.left_held in
        let second = held_of state.frame.registers other equals.other equals.right_held in record {
          choices = others;
          next = at to (without_registers (one ∷ other ∷ []) state);
          goes = given_is (held_by state.frame.registers one) _ held.0 held.1 ∙ given_is (held_by state.frame.registers other) _ second.0 second.1
              ∙ if_is (is_same_address state.memory held.0.word second.0.word) (Went (at to (without_registers (one ∷ other ∷ []) state)) others) Barred
              (ap (λ (w : Word). is_same_address state.memory w second.0.word) held.2 ∙ ap (is_same_address state.memory equals.one) second.2 ∙ equals.test);
          same = same_left state.memory (emptied (one ∷ other ∷ []) words) (seen ports state) (seen ports (at to (without_registers (one ∷ other ∷ []) state))) after
              (leaves_without ports to state (one ∷ other ∷ [])) equals.leaves;
        }

    pub back_different : (one other : ℕ) → Equals one other false (seen ports state) after → Back (IfDifferent one other)
    back_different one other equals =
        let held = held_of state.frame.registers one equals.one equals.left_held in
        let second = held_of state.frame.registers other equals.other equals.right_held in record {
          choices = others;
          next = at to (without_registers (one ∷ other ∷ []) state);
          goes = given_is (held_by state.frame.registers one) _ held.0 held.1 ∙ given_is (held_by state.frame.registers other) _ second.0 second.1
              ∙ if_is_not (is_same_address state.memory held.0.word second.0.word) Barred (Went (at to (without_registers (one ∷ other ∷ []) state)) others)
              (ap (λ (w : Word). is_same_address state.memory w second.0.word) held.2 ∙ ap (is_same_address state.memory equals.one) second.2 ∙ equals.test);
          same = same_left state.memory (emptied (one ∷ other ∷ []) words) (seen ports state) (seen ports (at to (without_registers (one ∷ other ∷ []) state))) after
              (leaves_without ports to state (one ∷ other ∷ [])) equals.leaves;
        }

    pub back_release : (address : ℕ) → Releases address (seen ports state) after → Back (Release address)
    back_release address releases =
        let held = held_of state.frame.registers address releases.to releases.address in record {
          choices = others;
          next = at to (with_memory (freed state.memory held.0.word) (without_registers (address ∷ []) state));
          goes = given_is (held_by state.frame.registers address) _ held.0 held.1 ∙ no_fault_is (free_fault state.memory held.0.word) place _ (ap (free_fault state.memory) held.2 ∙ releases.allowed);
          same = memory_same (address ∷ []) (freed state.memory held.0.word) (freed state.memory releases.to) after (ap (freed state.memory) (sym held.2)) releases.leaves;
        }

    pub back_fill : (address from count : ℕ) → Fills address from count (seen ports state) after → Back (Fill address from count)
    back_fill address from count fills =
        let held = held_of state.frame.registers address fills.to fills.address in
        let second = held_of state.frame.registers from fills.word fills.value in record {
          choices = others;
          next = at to (with_memory (filled state.memory held.0.word (address_number state.memory second.0.word % 256) count) (without_registers (address ∷ from ∷ []) state));
          goes = given_is (held_by state.frame.registers address) _ held.0 held.1 ∙ given_is (held_by state.frame.registers from) _ second.0 second.1
              ∙ no_fault_is (range_fault state.memory held.0.word count) place _ (ap (λ (w : Word). range_fault state.memory w count) held.2 ∙ fills.room);
          same = memory_same (address ∷ from ∷ []) (filled state.memory held.0.word (address_number state.memory second.0.word % 256) count) (filled state.memory fills.to (address_number state.memory fills.word % 256) count) after
              (ap (λ (w : Word). filled state.memory w (address_number state.memory fills.word % 256) count) (sym held.2)
              ∙ ap (λ (w : Word). filled state.memory held.0.word (address_number state.memory w % 256) count) (sym second.2)) fills.leaves;
        }

    pub back_copy : (target from count : ℕ) (disjoint : Bool) → Copies target from count disjoint (seen ports state) after → Back (Copy target from count disjoint)
    back_copy target from count disjoint copies =
        let held = held_of state.frame.registers target copies.target copies.to_holds in
        let second = held_of state.frame.registers from copies.source copies.from_holds in record {
          choices = others;
          next = at to (with_memory (copied state.memory held.0.word second.0.word count) (without_registers (target ∷ from ∷ []) state));
          goes = given_is (held_by state.frame.registers target) _ held.0 held.1 ∙ given_is (held_by state.frame.registers from) _ second.0 second.1
              ∙ no_fault_is (copy_fault state.memory held.0.word second.0.word count disjoint) place _
              (ap (λ (w : Word). copy_fault state.memory w second.0.word count disjoint) held.2 ∙ ap (λ (w : Word). copy_fault state.memory copies.target w count disjoint) second.2 ∙ copies.room);
          same = memory_same (target ∷ from ∷ []) (copied state.memory held.0.word second.0.word count) (copied state.memory copies.target copies.source count) after
              (ap (λ (w : Word). copied state.memory w copies.source count) (sym held.2) ∙ ap (λ (w : Word). copied state.memory held.0.word w count) (sym second.2)) copies.leaves;
        }

    pub back_refused : (into : ℕ) → Refuses into (seen ports state) after → Back (AllocateNone into)
    back_refused into refuses = record {
      choices = NoBlock ∷ others;
      next = at to (with_value into 8 (Plain 0) state);
      goes = refl;
      same = word_same into 8 (Plain 0) (Plain 0) after refl refuses.leaves;
    }

    pub back_input : (into size : ℕ) (signed truth : Bool) → Inputs into size truth (seen ports state) after → Back (Input into size signed truth)
    back_input into size signed truth gains = record {
      choices = GivenInput gains.gives.number ∷ others;
      next = at to (with_value into size (Plain gains.gives.number) state);
      goes = if_is (nat_lt gains.gives.number (if truth then 2 else 256 ^ size)) (Went (at to (with_value into size (Plain gains.gives.number) state)) others) Ended (lt-ltb _ _ gains.gives.fits);
      same = word_same into size (Plain gains.gives.number) gains.word after gains.gives.is gains.leaves;
    }

    pub back_allocate : (into bytes : ℕ) (zeroed : Bool) → Allocates bytes zeroed into (seen ports state) after → Back (Allocate into bytes zeroed)
    back_allocate into bytes zeroed makes =
        let block = new_block storage.Heap makes.block.base makes.block.contents in
        let next = with_value into 8 (To (length state.memory) (pos 0)) (with_memory (placed state.memory block) (at to state)) in record {
          choices = NewBlock makes.block.base makes.block.contents ∷ others;
          next = next;
          goes = if_is (is_new_block state.memory storage.Heap bytes makes.block.base makes.block.contents && (not zeroed || list_all (nat_eq 0) makes.block.contents)) (Went next others) Ended
              (and_both (is_new_block state.memory storage.Heap bytes makes.block.base makes.block.contents) (not zeroed || list_all (nat_eq 0) makes.block.contents) makes.block.new makes.block.zeros);
          same = record {
            memory = makes.block.is;
            variables = makes.variables_are;
            registers = λ register. makes.registers_are register
                ∙ sym (words_put (record { register = into; size = 8; word = To (length state.memory) (pos 0) }) state.frame.registers register);
            ports = makes.ports;
            roots = makes.roots;
          };
        }

  -- Faults.

  module _ (others : List Choice) (kind : ℕ) where
    pub faults_read : (into from size : ℕ) (pointer : Bool) → FaultsReading from size kind (seen ports state) → Meets flow (Read into from size pointer) to place state kind
    faults_read into from size pointer faults =
        let held = held_of state.frame.registers from faults.to faults.address in record {
          choices = others;
          faults = given_is (held_by state.frame.registers from) _ held.0 held.1 ∙ fault_is (access_fault state.memory held.0.word size) place _ kind (ap (λ (w : Word). access_fault state.memory w size) held.2 ∙ faults.fault);
        }

    pub faults_write : (address from size : ℕ) → FaultsWriting address size from kind (seen ports state) → Meets flow (Write address from size) to place state kind
    faults_write address from size faults =
        let held = held_of state.frame.registers address faults.to faults.address in
        let written = held_of state.frame.registers from faults.word faults.value in record {
          choices = others;
          faults = given_is (held_by state.frame.registers address) _ held.0 held.1 ∙ given_is (held_by state.frame.registers from) _ written.0 written.1
              ∙ fault_is (access_fault state.memory held.0.word size) place _ kind (ap (λ (w : Word). access_fault state.memory w size) held.2 ∙ faults.fault);
        }

    pub faults_release : (address : ℕ) → FaultsReleasing address kind (seen ports state) → Meets flow (Release address) to place state kind
    faults_release address faults =
        let held = held_of state.frame.registers address faults.to faults.address in record {
          choices = others;
          faults = given_is (held_by state.frame.registers address) _ held.0 held.1 ∙ fault_is (free_fault state.memory held.0.word) place _ kind (ap (free_fault state.memory) held.2 ∙ faults.fault);
        }

    pub faults_fill : (address from count : ℕ) → FaultsFilling address from count kind (seen ports state) → Meets flow (Fill address from count) to place state kind
    faults_fill address from count faults =
        let held = held_of state.frame.registers address faults.to faults.address in
        let second = held_of state.frame.registers from faults.word faults.value in record {
          choices = others;
          faults = given_is (held_by state.frame.registers address) _ held.0 held.1 ∙ given_is (held_by state.frame.registers from) _ second.0 second.1
              ∙ fault_is (range_fault state.memory held.0.word count) place _ kind (ap (λ (w : Word). range_fault state.memory w count) held.2 ∙ faults.fault);
        }

    pub faults_copy : (target from count : ℕ) (disjoint : Bool) → FaultsCopying target from count disjoint kind (seen ports state) → Meets flow (Copy target from count disjoint) to place state kind
    faults_copy target from count disjoint faults =
        let held = held_of state.frame.registers target faults.target faults.to_holds in
        let second = held_of state.frame.registers from faults.source faults.from_holds in record {
          choices = others;
          faults = given_is (held_by state.frame.registers target) _ held.0 held.1 ∙ given_is (held_by state.frame.registers from) _ second.0 second.1
              ∙ fault_is (copy_fault state.memory held.0.word second.0.word count disjoint) place _ kind
              (ap (λ (w : Word). copy_fault state.memory w second.0.word count disjoint) held.2 ∙ ap (λ (w : Word). copy_fault state.memory faults.target w count disjoint) second.2 ∙ faults.fault);
        }
