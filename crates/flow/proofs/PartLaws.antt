-- A step on a part of a memory is that step on the whole.
use Rattle.std.proofs.Common.{◌≡◌, ℕ, ◌+◌, ◌≤◌, List, [], ◌∷◌, ◌++◌, length, take, replicate, Bool, true, false, refl, sym, ap, subst, ◌∙◌, inl, inr, Option, None, Some, arith}
use Rattle.std.specs.Prelude.{pos, negsuc, ◌*ℤ◌, ◌%◌, ◌^◌, ◌&&◌, ◌||◌, not, if◌then◌else◌, nat_eq, nat_lt, slice_get, IsTrue}
use Rattle.std.specs.List.{list_all}
use Rattle.std.proofs.lemmas.Bool.{and_parts, and_from}
use Rattle.std.proofs.lemmas.List.{length-set, length-append}
use Rattle.cbase.specs.declared.place.Place.{Place}
use Rattle.arithmetic.specs.Value.{value}
use Rattle.arithmetic.specs.Conversion.{converted}
use Rattle.arithmetic.specs.Computing.{computed}
use Rattle.bytes_core.specs.declared.byte.Byte.{Byte}
use Rattle.bytes_core.specs.declared.byte.Byte.TheVariants.{Num}
use Rattle.bytes_core.specs.declared.word.Word.{Word}
use Rattle.bytes_core.specs.declared.word.Word.TheVariants.{Plain, To}
use Rattle.bytes_core.specs.declared.block.BlockKind.{BlockKind}
use Rattle.bytes_core.specs.declared.block.BlockKind.TheVariants as storage
use Rattle.bytes_core.specs.declared.block.Block.{Block}
use Rattle.bytes_core.specs.Fault.{memory_lost, block_never_freed}
use Rattle.bytes_core.specs.Value.{word_bytes, address_number, is_same_address, moved}
use Rattle.bytes_core.specs.Placement.{new_block, is_new_block, placed}
use Rattle.bytes_core.specs.Access.{access_fault, range_fault, bytes_at, loaded, with_bytes, written_at, stored, filled}
use Rattle.bytes_core.specs.Copying.{copy_fault, copied}
use Rattle.bytes_core.specs.Release.{free_fault, freed, without}
use Rattle.bytes_core.specs.Loss.{is_lost}
use Rattle.flow.specs.declared.instruction.Instr.{Instr}
use Rattle.flow.specs.declared.instruction.Instr.TheVariants.{Number, Address, Move, Read, Write, Shift, ShiftBy, Compute, Convert, IfSame, IfDifferent, Allocate, AllocateNone, Release, Fill, Copy, Enter, Leave, Finish, Input, Call, Return, Close}
use Rattle.flow.specs.declared.flow_graph.Flow.{Flow}
use Rattle.flow.specs.declared.flow_graph.FlowFunction.{FlowFunction}
use Rattle.flow.specs.Holding.{Held, Owned, held_by, block_of, emptied}
use Rattle.choices.specs.declared.choice.Choice.{Choice}
use Rattle.choices.specs.declared.choice.Choice.TheVariants.{None as NoBlock, Block as NewBlock, Input as GivenInput}
use Rattle.flow.specs.Machine.{Caller, State, Outcome, Went, Barred, Waits, Ended, Faulted, execute, step_along, given, unless_fault, if_computed, with_new_block, with_variable, with_memory, with_value, without_registers, entered, with_parameters, with_arguments, size_in, size_after, at, block_here, addressed, allocated, allocated_none, received, called, returned, result_of, with_result, roots, number_in, after_scope, without_variables, without_block}
use Rattle.flow.specs.Walks.{is_return}
use Rattle.flow.specs.Hiding.{hidden, IsPartOf, IsLoss, Follows, DoPartsFollow}
use Rattle.flow.proofs.HiddenBlocks.{length-hidden, hidden-placed, address_number-hidden, loaded-hidden, stored-hidden, filled-hidden, copied-hidden, without-hidden, freed-hidden, access_fault-hidden, range_fault-hidden, copy_fault-hidden, free_fault-hidden, new_block-hidden}

-- how many blocks a change leaves
length-without : (memory : List Block) (number : ℕ) (found : Option Block) → length (without memory number found) ≡ length memory
length-without memory number None = refl
length-without memory number (Some block) = length-set memory number (record block { live = false })

length-with_bytes : (memory : List Block) (number : ℕ) (found : Option Block) (from : ℕ) (written : List Byte) → length (with_bytes memory number found from written) ≡ length memory
length-with_bytes memory number None from written = refl
length-with_bytes memory number (Some block) from written = length-set memory number _

length-written_at : (memory : List Block) (at : Word) (written : List Byte) → length (written_at memory at written) ≡ length memory
length-written_at memory (Plain number) written = refl
length-written_at memory (To block (pos from)) written = length-with_bytes memory block (slice_get memory block) from written
length-written_at memory (To block (negsuc before)) written = refl

length-freed : (memory : List Block) (at : Word) → length (freed memory at) ≡ length memory
length-freed memory (Plain number) = refl
length-freed memory (To block offset) = length-without memory block (slice_get memory block)

length-without_block : (found : Option ℕ) (memory : List Block) → length (without_block found memory) ≡ length memory
length-without_block None memory = refl
length-without_block (Some block) memory = length-without memory block (slice_get memory block)

length-without_variables : (owned : List Owned) (variables : List ℕ) (memory : List Block) → length (without_variables owned variables memory) ≡ length memory
length-without_variables owned [] memory = refl
length-without_variables owned (variable ∷ rest) memory =
    length-without_variables owned rest (without_block (block_of owned variable) memory) ∙ length-without_block (block_of owned variable) memory

-- blocks of variables that die
without_variables-hidden : (hides : ℕ → Bool) (owned : List Owned) (variables : List ℕ) (memory : List Block) →
    without_variables owned variables (hidden hides memory) ≡ hidden hides (without_variables owned variables memory)
without_variables-hidden hides owned [] memory = refl
without_variables-hidden hides owned (variable ∷ rest) memory =
    ap (without_variables owned rest) (by_block (block_of owned variable)) ∙ without_variables-hidden hides owned rest (without_block (block_of owned variable) memory)
  where
    by_block : (found : Option ℕ) → without_block found (hidden hides memory) ≡ hidden hides (without_block found memory)
    by_block None = refl
    by_block (Some block) = without-hidden hides memory block

is_same-hidden : (hides : ℕ → Bool) (memory : List Block) (one other : Word) → is_same_address (hidden hides memory) one other ≡ is_same_address memory one other
is_same-hidden hides memory one other =
    ap (λ (address : ℕ). nat_eq address (address_number (hidden hides memory) other)) (address_number-hidden hides memory one)
    ∙ ap (nat_eq (address_number memory one)) (address_number-hidden hides memory other)

-- no block that is made later is hidden
abbrev Later : (ℕ → Bool) → List Block → Type 0
Later hides memory = (number : ℕ) → length memory ≤ number → hides number ≡ false

later_same : (hides : ℕ → Bool) (memory changed : List Block) → length changed ≡ length memory → Later hides memory → Later hides changed
later_same hides memory changed same later = λ number above. later number (omega arith)

later_placed : (hides : ℕ → Bool) (memory : List Block) (block : Block) → Later hides memory → Later hides (placed memory block)
later_placed hides memory block later =
    let long : length (placed memory block) ≡ length memory + 1 = length-append memory (block ∷ []) in
    λ number above. later number (omega arith)

module _ (hides : ℕ → Bool) (below : List Caller) (outer : List ℕ) where
  -- the part of a state with these callers of its own
  abbrev part_of : List Caller → State → State
  part_of own whole = record whole { callers = own; memory = hidden hides whole.memory; outer = outer }

  is_part : (own : List Caller) (part whole : State) → part ≡ part_of own whole → own ++ below ≡ whole.callers → Later hides whole.memory → IsPartOf hides below outer part whole
  is_part own part whole is callers later = record {
    point = ap (λ (state : State). state.point) is;
    frame = ap (λ (state : State). state.frame) is;
    callers = ap (λ (state : State). state.callers ++ below) is ∙ callers;
    statics = ap (λ (state : State). state.statics) is;
    memory = ap (λ (state : State). state.memory) is;
    outside = ap (λ (state : State). state.outer) is;
    later = later;
  }

  follows_went : (own : List Caller) (part whole : State) (rest : List Choice) → part ≡ part_of own whole → own ++ below ≡ whole.callers → Later hides whole.memory →
      Follows hides below outer (Went part rest) (Went whole rest)
  follows_went own part whole rest is callers later = (is_part own part whole is callers later, refl)

  follows_memory : (own : List Caller) (whole : State) (changed changed' : List Block) (rest : List Choice) → changed ≡ hidden hides changed' →
      length changed' ≡ length whole.memory → own ++ below ≡ whole.callers → Later hides whole.memory →
      Follows hides below outer (Went (with_memory changed (part_of own whole)) rest) (Went (with_memory changed' whole) rest)
  follows_memory own whole changed changed' rest is long callers later =
      follows_went own (with_memory changed (part_of own whole)) (with_memory changed' whole) rest
      (ap (λ (memory : List Block). with_memory memory (part_of own whole)) is) callers (later_same hides whole.memory changed' long later)

  follows_ended : (part : Outcome) → Follows hides below outer part Ended
  follows_ended (Went next rest) = tt
  follows_ended Barred = inr refl
  follows_ended Waits = inr refl
  follows_ended Ended = refl
  follows_ended (Faulted kind place) = tt

  follows_given : (found : Option Held) (onward onward' : Held → Outcome) → ((held : Held) → Follows hides below outer (onward held) (onward' held)) →
      Follows hides below outer (given found onward) (given found onward')
  follows_given None onward onward' each = refl
  follows_given (Some held) onward onward' each = each held

  follows_unless_fault : (fault fault' : Option ℕ) (place : Place) (part whole : Outcome) → (fault ≡ None → fault' ≡ None) → Follows hides below outer part whole →
      Follows hides below outer (unless_fault fault place part) (unless_fault fault' place whole)
  follows_unless_fault (Some kind) fault' place part whole no_more follows = tt
  follows_unless_fault None None place part whole no_more follows = follows
  follows_unless_fault None (Some kind) place part whole no_more follows = let none : Some kind ≡ None = no_more refl in absurd (cc)

  follows_if_computed : (found found' : Option ℕ) (onward onward' : ℕ → Outcome) → found ≡ found' → ((number : ℕ) → Follows hides below outer (onward number) (onward' number)) →
      Follows hides below outer (if_computed found onward) (if_computed found' onward')
  follows_if_computed found found' onward onward' same each =
      subst (λ (one : Option ℕ). Follows hides below outer (if_computed found onward) (if_computed one onward')) same (by_found found)
    where
      by_found : (found : Option ℕ) → Follows hides below outer (if_computed found onward) (if_computed found onward')
      by_found None = refl
      by_found (Some number) = each number

  follows_if : (test test' : Bool) (one other one' other' : Outcome) → test ≡ test' → Follows hides below outer one one' → Follows hides below outer other other' →
      Follows hides below outer (if test then one else other) (if test' then one' else other')
  follows_if test test' one other one' other' same follows follows' =
      subst (λ (now : Bool). Follows hides below outer (if test then one else other) (if now then one' else other')) same (by_test test)
    where
      by_test : (test : Bool) → Follows hides below outer (if test then one else other) (if test then one' else other')
      by_test true = follows
      by_test false = follows'

  -- a look for lost memory
  follows_loss : (lost lost' : Bool) (kind : ℕ) (place : Place) (own : List Caller) (part whole : State) (rest : List Choice) → IsLoss kind →
      part ≡ part_of own whole → own ++ below ≡ whole.callers → Later hides whole.memory →
      Follows hides below outer (if lost then Faulted kind place else Went part rest) (if lost' then Faulted kind place else Went whole rest)
  follows_loss true lost' kind place own part whole rest loss is callers later = tt
  follows_loss false true kind place own part whole rest loss is callers later = loss
  follows_loss false false kind place own part whole rest loss is callers later = follows_went own part whole rest is callers later

  -- a new block
  follows_new_block : (own : List Caller) (kind : BlockKind) (size : ℕ) (zeroed : Bool) (state : State) (choices : List Choice)
      (onward onward' : State → ℕ → List Choice → Outcome) → Later hides state.memory →
      ((block : Block) (rest : List Choice) → Later hides (placed state.memory block) →
      Follows hides below outer (onward (part_of own (with_memory (placed state.memory block) state)) (length state.memory) rest)
      (onward' (with_memory (placed state.memory block) state) (length state.memory) rest)) →
      Follows hides below outer (with_new_block kind size zeroed (part_of own state) choices onward) (with_new_block kind size zeroed state choices onward')
  follows_new_block own kind size zeroed state [] onward onward' later each = inl refl
  follows_new_block own kind size zeroed state (NoBlock ∷ choices) onward onward' later each = refl
  follows_new_block own kind size zeroed state (GivenInput number ∷ choices) onward onward' later each = refl
  follows_new_block own kind size zeroed state (NewBlock base contents ∷ choices) onward onward' later each =
      by_test (is_new_block state.memory kind size base contents && (not zeroed || list_all (nat_eq 0) contents)) refl
    where
      block : Block
      block = new_block kind base contents

      in_part : Outcome
      in_part = onward (with_memory (placed (hidden hides state.memory) (new_block kind base contents)) (part_of own state)) (length (hidden hides state.memory)) choices

      goes : Follows hides below outer
          (onward (with_memory (placed (hidden hides state.memory) (new_block kind base contents)) (part_of own state)) (length (hidden hides state.memory)) choices)
          (onward' (with_memory (placed state.memory (new_block kind base contents)) state) (length state.memory) choices)
      goes =
          let blocks : placed (hidden hides state.memory) (new_block kind base contents) ≡ hidden hides (placed state.memory (new_block kind base contents))
          = hidden-placed hides state.memory (new_block kind base contents) (later (length state.memory) (omega arith)) in
          subst (λ (memory : List Block). Follows hides below outer (onward (with_memory memory (part_of own state)) (length (hidden hides state.memory)) choices)
          (onward' (with_memory (placed state.memory (new_block kind base contents)) state) (length state.memory) choices)) (sym blocks)
          (subst (λ (count : ℕ). Follows hides below outer (onward (part_of own (with_memory (placed state.memory (new_block kind base contents)) state)) count choices)
          (onward' (with_memory (placed state.memory (new_block kind base contents)) state) (length state.memory) choices)) (sym (length-hidden hides state.memory))
          (each (new_block kind base contents) choices (later_placed hides state.memory (new_block kind base contents) later)))

      by_test : (fits : Bool) → (is_new_block state.memory kind size base contents && (not zeroed || list_all (nat_eq 0) contents)) ≡ fits →
          Follows hides below outer
          (if is_new_block (hidden hides state.memory) kind size base contents && (not zeroed || list_all (nat_eq 0) contents)
          then onward (with_memory (placed (hidden hides state.memory) (new_block kind base contents)) (part_of own state)) (length (hidden hides state.memory)) choices
          else Ended)
          (if fits then onward' (with_memory (placed state.memory (new_block kind base contents)) state) (length state.memory) choices else Ended)
      by_test false is = follows_ended (if is_new_block (hidden hides state.memory) kind size base contents && (not zeroed || list_all (nat_eq 0) contents)
          then onward (with_memory (placed (hidden hides state.memory) (new_block kind base contents)) (part_of own state)) (length (hidden hides state.memory)) choices
          else Ended)
      by_test true is =
          let parts = and_parts (is_new_block state.memory kind size base contents) (not zeroed || list_all (nat_eq 0) contents) is in
          let there = and_from (is_new_block (hidden hides state.memory) kind size base contents) (not zeroed || list_all (nat_eq 0) contents)
          (new_block-hidden hides state.memory kind size base contents parts.0) parts.1 in
          subst (λ (fits : Bool). Follows hides below outer
          (if fits then onward (with_memory (placed (hidden hides state.memory) (new_block kind base contents)) (part_of own state)) (length (hidden hides state.memory)) choices else Ended)
          (onward' (with_memory (placed state.memory (new_block kind base contents)) state) (length state.memory) choices)) (sym there) goes

  follows_entered : (flow : Flow) (variables : List ℕ) (own : List Caller) (state : State) (choices : List Choice) → own ++ below ≡ state.callers → Later hides state.memory →
      Follows hides below outer (entered flow variables (part_of own state) choices) (entered flow variables state choices)
  follows_entered flow [] own state choices callers later = follows_went own (part_of own state) state choices refl callers later
  follows_entered flow (variable ∷ rest) own state choices callers later =
      follows_new_block own storage.Local (size_in flow variable) false state choices
      (λ after block more. entered flow rest (with_variable variable block after) more) (λ after block more. entered flow rest (with_variable variable block after) more) later
      (λ block more later'. follows_entered flow rest own (with_variable variable (length state.memory) (with_memory (placed state.memory block) state)) more callers later')

  follows_parameters : (flow : Flow) (variables : List ℕ) (arguments : List Held) (own : List Caller) (state : State) (choices : List Choice) →
      own ++ below ≡ state.callers → Later hides state.memory →
      Follows hides below outer (with_parameters flow variables arguments (part_of own state) choices) (with_parameters flow variables arguments state choices)
  follows_parameters flow [] arguments own state choices callers later = follows_went own (part_of own state) state choices refl callers later
  follows_parameters flow (variable ∷ rest) [] own state choices callers later = refl
  follows_parameters flow (variable ∷ rest) (argument ∷ arguments) own state choices callers later =
      follows_new_block own storage.Local (size_in flow variable) false state choices
      (λ after block more. with_parameters flow rest arguments
      (with_memory (stored after.memory (To block (pos 0)) argument.size argument.word) (with_variable variable block after)) more)
      (λ after block more. with_parameters flow rest arguments
      (with_memory (stored after.memory (To block (pos 0)) argument.size argument.word) (with_variable variable block after)) more) later
      (λ block more later'.
      let after : State = with_variable variable (length state.memory) (with_memory (placed state.memory block) state) in
      let changed : List Block = stored (placed state.memory block) (To (length state.memory) (pos 0)) argument.size argument.word in
      subst (λ (memory : List Block). Follows hides below outer (with_parameters flow rest arguments (with_memory memory (part_of own after)) more)
      (with_parameters flow rest arguments (with_memory changed after) more))
      (sym (stored-hidden hides (placed state.memory block) (To (length state.memory) (pos 0)) argument.size argument.word))
      (follows_parameters flow rest arguments own (with_memory changed after) more callers
      (later_same hides (placed state.memory block) changed
      (length-written_at (placed state.memory block) (To (length state.memory) (pos 0)) (take argument.size (word_bytes argument.word))) later')))

  follows_arguments : (registers : List Held) (arguments : List ℕ) (onward onward' : List Held → Outcome) → ((held : List Held) → Follows hides below outer (onward held) (onward' held)) →
      Follows hides below outer (with_arguments registers arguments onward) (with_arguments registers arguments onward')
  follows_arguments registers [] onward onward' each = each []
  follows_arguments registers (first ∷ rest) onward onward' each =
      follows_given (held_by registers first) (λ held. with_arguments registers rest (λ more. onward (held ∷ more))) (λ held. with_arguments registers rest (λ more. onward' (held ∷ more)))
      (λ held. follows_arguments registers rest (λ more. onward (held ∷ more)) (λ more. onward' (held ∷ more)) (λ more. each (held ∷ more)))

  follows_called : (flow : Flow) (found : Option FlowFunction) (arguments : List ℕ) (into : Option ℕ) (onward : ℕ) (own : List Caller) (state : State) (choices : List Choice) →
      own ++ below ≡ state.callers → Later hides state.memory →
      Follows hides below outer (called flow found arguments into onward (part_of own state) choices) (called flow found arguments into onward state choices)
  follows_called flow None arguments into onward own state choices callers later = refl
  follows_called flow (Some function) arguments into onward own state choices callers later =
      let caller : Caller = record { frame = record state.frame { registers = emptied arguments state.frame.registers }; point = onward; into = into } in
      let entered_at : State = record state { point = function.entry; frame = record { variables = []; registers = [] }; callers = caller ∷ state.callers } in
      follows_arguments state.frame.registers arguments
      (λ held. with_parameters flow function.parameters held (part_of (caller ∷ own) entered_at) choices) (λ held. with_parameters flow function.parameters held entered_at choices)
      (λ held. follows_parameters flow function.parameters held (caller ∷ own) entered_at choices (ap (λ (callers : List Caller). caller ∷ callers) callers) later)

  follows_returned : (result : Option Held) (own : List Caller) (state : State) (choices : List Choice) → (own ≡ [] → ⊥) → own ++ below ≡ state.callers → Later hides state.memory →
      Follows hides below outer (returned result own (part_of own state) choices) (returned result state.callers state choices)
  follows_returned result [] state choices stays callers later = absurd (stays refl)
  follows_returned result (caller ∷ own) state choices stays callers later =
      subst (λ (there : List Caller). Follows hides below outer (returned result (caller ∷ own) (part_of (caller ∷ own) state) choices) (returned result there state choices)) callers
      (follows_went own (record (part_of (caller ∷ own) state) { point = caller.point; frame = with_result result caller.into caller.frame; callers = own })
      (record state { point = caller.point; frame = with_result result caller.into caller.frame; callers = own ++ below }) choices refl refl later)

  -- each instruction
  follows : (flow : Flow) (instr : Instr) (to : ℕ) (place : Place) (own : List Caller) (state : State) (choices : List Choice) →
      own ++ below ≡ state.callers → Later hides state.memory → (IsTrue (is_return instr) → own ≡ [] → ⊥) →
      Follows hides below outer (execute flow instr to place (part_of own state) choices) (execute flow instr to place state choices)
  follows flow (Number into number size) to place own state choices callers later stays =
      follows_went own (at to (with_value into size (Plain number) (part_of own state))) (at to (with_value into size (Plain number) state)) choices refl callers later
  follows flow (Address into variable) to place own state choices callers later stays = by_block (block_here state variable)
    where
      by_block : (found : Option ℕ) → Follows hides below outer (addressed found into (at to (part_of own state)) choices) (addressed found into (at to state) choices)
      by_block None = refl
      by_block (Some block) = follows_went own (with_value into 8 (To block (pos 0)) (at to (part_of own state))) (with_value into 8 (To block (pos 0)) (at to state)) choices refl callers later
  follows flow (Move into from) to place own state choices callers later stays =
      follows_given (held_by state.frame.registers from)
      (λ held. Went (at to (with_value into held.size held.word (part_of own state))) choices) (λ held. Went (at to (with_value into held.size held.word state)) choices)
      (λ held. follows_went own (at to (with_value into held.size held.word (part_of own state))) (at to (with_value into held.size held.word state)) choices refl callers later)
  follows flow (Read into address size pointer) to place own state choices callers later stays =
      let next : State → Held → State = λ state held. at to (with_value into size (loaded state.memory held.word size pointer) (without_registers (address ∷ []) state)) in
      let onward : State → Held → Outcome = λ state held. unless_fault (access_fault state.memory held.word size) place (Went (next state held) choices) in
      follows_given (held_by state.frame.registers address) (onward (part_of own state)) (onward state)
      (λ held. follows_unless_fault (access_fault (hidden hides state.memory) held.word size) (access_fault state.memory held.word size) place
      (Went (next (part_of own state) held) choices) (Went (next state held) choices) (access_fault-hidden hides state.memory held.word size)
      (follows_went own (next (part_of own state) held) (next state held) choices
      (ap (λ (word : Word). at to (with_value into size word (without_registers (address ∷ []) (part_of own state)))) (loaded-hidden hides state.memory held.word size pointer))
      callers later))
  follows flow (Write address from size) to place own state choices callers later stays =
      let kept : State = at to (without_registers (address ∷ from ∷ []) state) in
      let onward : State → Held → Held → Outcome = λ state held written. unless_fault (access_fault state.memory held.word size) place
      (Went (at to (with_memory (stored state.memory held.word size written.word) (without_registers (address ∷ from ∷ []) state))) choices) in
      follows_given (held_by state.frame.registers address)
      (λ held. given (held_by state.frame.registers from) (onward (part_of own state) held)) (λ held. given (held_by state.frame.registers from) (onward state held))
      (λ held. follows_given (held_by state.frame.registers from) (onward (part_of own state) held) (onward state held)
      (λ written. follows_unless_fault (access_fault (hidden hides state.memory) held.word size) (access_fault state.memory held.word size) place
      (Went (with_memory (stored (hidden hides state.memory) held.word size written.word) (part_of own kept)) choices)
      (Went (with_memory (stored state.memory held.word size written.word) kept) choices) (access_fault-hidden hides state.memory held.word size)
      (follows_memory own kept (stored (hidden hides state.memory) held.word size written.word) (stored state.memory held.word size written.word) choices
      (stored-hidden hides state.memory held.word size written.word) (length-written_at state.memory held.word (take size (word_bytes written.word))) callers later)))
  follows flow (Shift into address by) to place own state choices callers later stays =
      let next : State → Held → State = λ state held. at to (with_value into 8 (moved held.word by) (without_registers (address ∷ []) state)) in
      follows_given (held_by state.frame.registers address) (λ held. Went (next (part_of own state) held) choices) (λ held. Went (next state held) choices)
      (λ held. follows_went own (next (part_of own state) held) (next state held) choices refl callers later)
  follows flow (ShiftBy into address by scale) to place own state choices callers later stays =
      let moves : Held → ℕ → State → State = λ held number state.
      at to (with_value into 8 (moved held.word (value 8 true number *ℤ scale)) (without_registers (address ∷ by ∷ []) state)) in
      let onward : State → Held → Held → Outcome = λ state held number. Went (moves held (number_in state.memory number) state) choices in
      follows_given (held_by state.frame.registers address)
      (λ held. given (held_by state.frame.registers by) (onward (part_of own state) held)) (λ held. given (held_by state.frame.registers by) (onward state held))
      (λ held. follows_given (held_by state.frame.registers by) (onward (part_of own state) held) (onward state held)
      (λ number. follows_went own (moves held (number_in (hidden hides state.memory) number) (part_of own state)) (moves held (number_in state.memory number) state) choices
      (ap (λ (found : ℕ). moves held found (part_of own state)) (address_number-hidden hides state.memory number.word)) callers later))
  follows flow (Compute into op one other size signed) to place own state choices callers later stays =
      let next : State → ℕ → Outcome = λ state number. Went (at to (with_value into (size_after op size) (Plain number) (without_registers (one ∷ other ∷ []) state))) choices in
      let onward : State → Held → Held → Outcome = λ state held second.
      if_computed (computed op size signed (number_in state.memory held) (number_in state.memory second)) (next state) in
      follows_given (held_by state.frame.registers one)
      (λ held. given (held_by state.frame.registers other) (onward (part_of own state) held)) (λ held. given (held_by state.frame.registers other) (onward state held))
      (λ held. follows_given (held_by state.frame.registers other) (onward (part_of own state) held) (onward state held)
      (λ second. follows_if_computed (computed op size signed (number_in (hidden hides state.memory) held) (number_in (hidden hides state.memory) second))
      (computed op size signed (number_in state.memory held) (number_in state.memory second)) (next (part_of own state)) (next state)
      (ap (λ (number : ℕ). computed op size signed number (number_in (hidden hides state.memory) second)) (address_number-hidden hides state.memory held.word)
      ∙ ap (λ (number : ℕ). computed op size signed (number_in state.memory held) number) (address_number-hidden hides state.memory second.word))
      (λ number. follows_went own (at to (with_value into (size_after op size) (Plain number) (without_registers (one ∷ other ∷ []) (part_of own state))))
      (at to (with_value into (size_after op size) (Plain number) (without_registers (one ∷ other ∷ []) state))) choices refl callers later)))
  follows flow (Convert into from size signed) to place own state choices callers later stays =
      let converts : Held → ℕ → State → State = λ held number state.
      at to (with_value into size (Plain (converted held.size signed size number)) (without_registers (from ∷ []) state)) in
      follows_given (held_by state.frame.registers from) (λ held. Went (converts held (number_in (hidden hides state.memory) held) (part_of own state)) choices)
      (λ held. Went (converts held (number_in state.memory held) state) choices)
      (λ held. follows_went own (converts held (number_in (hidden hides state.memory) held) (part_of own state)) (converts held (number_in state.memory held) state) choices
      (ap (λ (found : ℕ). converts held found (part_of own state)) (address_number-hidden hides state.memory held.word)) callers later)
  follows flow (IfSame one other) to place own state choices callers later stays =
      let onward : State → Held → Held → Outcome = λ state held second. if is_same_address state.memory held.word second.word
      then Went (at to (without_registers (one ∷ other ∷ []) state)) choices else Barred in
      follows_given (held_by state.frame.registers one)
      (λ held. given (held_by state.frame.registers other) (onward (part_of own state) held)) (λ held. given (held_by state.frame.registers other) (onward state held))
      (λ held. follows_given (held_by state.frame.registers other) (onward (part_of own state) held) (onward state held)
      (λ second. follows_if (is_same_address (hidden hides state.memory) held.word second.word) (is_same_address state.memory held.word second.word)
      (Went (at to (without_registers (one ∷ other ∷ []) (part_of own state))) choices) Barred (Went (at to (without_registers (one ∷ other ∷ []) state)) choices) Barred
      (is_same-hidden hides state.memory held.word second.word)
      (follows_went own (at to (without_registers (one ∷ other ∷ []) (part_of own state))) (at to (without_registers (one ∷ other ∷ []) state)) choices refl callers later) (inl refl)))
  follows flow (IfDifferent one other) to place own state choices callers later stays =
      let onward : State → Held → Held → Outcome = λ state held second. if is_same_address state.memory held.word second.word
      then Barred else Went (at to (without_registers (one ∷ other ∷ []) state)) choices in
      follows_given (held_by state.frame.registers one)
      (λ held. given (held_by state.frame.registers other) (onward (part_of own state) held)) (λ held. given (held_by state.frame.registers other) (onward state held))
      (λ held. follows_given (held_by state.frame.registers other) (onward (part_of own state) held) (onward state held)
      (λ second. follows_if (is_same_address (hidden hides state.memory) held.word second.word) (is_same_address state.memory held.word second.word)
      Barred (Went (at to (without_registers (one ∷ other ∷ []) (part_of own state))) choices) Barred (Went (at to (without_registers (one ∷ other ∷ []) state)) choices)
      (is_same-hidden hides state.memory held.word second.word) (inl refl)
      (follows_went own (at to (without_registers (one ∷ other ∷ []) (part_of own state))) (at to (without_registers (one ∷ other ∷ []) state)) choices refl callers later)))
  follows flow (Allocate into bytes zeroed) to place own state choices callers later stays = by_choice choices
    where
      makes : (choices : List Choice) → Follows hides below outer
          (with_new_block storage.Heap bytes zeroed (part_of own (at to state)) choices (λ after block more. Went (with_value into 8 (To block (pos 0)) after) more))
          (with_new_block storage.Heap bytes zeroed (at to state) choices (λ after block more. Went (with_value into 8 (To block (pos 0)) after) more))
      makes choices = follows_new_block own storage.Heap bytes zeroed (at to state) choices
          (λ after block more. Went (with_value into 8 (To block (pos 0)) after) more) (λ after block more. Went (with_value into 8 (To block (pos 0)) after) more) later
          (λ block more later'. follows_went own
          (with_value into 8 (To (length state.memory) (pos 0)) (part_of own (with_memory (placed state.memory block) (at to state))))
          (with_value into 8 (To (length state.memory) (pos 0)) (with_memory (placed state.memory block) (at to state))) more refl callers later')

      by_choice : (choices : List Choice) → Follows hides below outer (allocated into bytes zeroed (part_of own (at to state)) choices) (allocated into bytes zeroed (at to state) choices)
      by_choice [] = inl refl
      by_choice (NoBlock ∷ rest) = inl refl
      by_choice (NewBlock base contents ∷ rest) = makes (NewBlock base contents ∷ rest)
      by_choice (GivenInput number ∷ rest) = refl
  follows flow (AllocateNone into) to place own state choices callers later stays = by_choice choices
    where
      by_choice : (choices : List Choice) → Follows hides below outer (allocated_none into (part_of own (at to state)) choices) (allocated_none into (at to state) choices)
      by_choice [] = inl refl
      by_choice (NoBlock ∷ rest) = follows_went own (with_value into 8 (Plain 0) (part_of own (at to state))) (with_value into 8 (Plain 0) (at to state)) rest refl callers later
      by_choice (NewBlock base contents ∷ rest) = inl refl
      by_choice (GivenInput number ∷ rest) = refl
  follows flow (Release address) to place own state choices callers later stays =
      let kept : State = at to (without_registers (address ∷ []) state) in
      let onward : State → Held → Outcome = λ state held. unless_fault (free_fault state.memory held.word) place
      (Went (at to (with_memory (freed state.memory held.word) (without_registers (address ∷ []) state))) choices) in
      follows_given (held_by state.frame.registers address) (onward (part_of own state)) (onward state)
      (λ held. follows_unless_fault (free_fault (hidden hides state.memory) held.word) (free_fault state.memory held.word) place
      (Went (with_memory (freed (hidden hides state.memory) held.word) (part_of own kept)) choices) (Went (with_memory (freed state.memory held.word) kept) choices)
      (free_fault-hidden hides state.memory held.word)
      (follows_memory own kept (freed (hidden hides state.memory) held.word) (freed state.memory held.word) choices
      (freed-hidden hides state.memory held.word) (length-freed state.memory held.word) callers later))
  follows flow (Fill address from count) to place own state choices callers later stays =
      let kept : State = at to (without_registers (address ∷ from ∷ []) state) in
      let onward : State → Held → Held → Outcome = λ state held second. unless_fault (range_fault state.memory held.word count) place
      (Went (at to (with_memory (filled state.memory held.word (number_in state.memory second % 256) count) (without_registers (address ∷ from ∷ []) state))) choices) in
      follows_given (held_by state.frame.registers address)
      (λ held. given (held_by state.frame.registers from) (onward (part_of own state) held)) (λ held. given (held_by state.frame.registers from) (onward state held))
      (λ held. follows_given (held_by state.frame.registers from) (onward (part_of own state) held) (onward state held)
      (λ second. follows_unless_fault (range_fault (hidden hides state.memory) held.word count) (range_fault state.memory held.word count) place
      (Went (with_memory (filled (hidden hides state.memory) held.word (number_in (hidden hides state.memory) second % 256) count) (part_of own kept)) choices)
      (Went (with_memory (filled state.memory held.word (number_in state.memory second % 256) count) kept) choices) (range_fault-hidden hides state.memory held.word count)
      (follows_memory own kept (filled (hidden hides state.memory) held.word (number_in (hidden hides state.memory) second % 256) count)
      (filled state.memory held.word (number_in state.memory second % 256) count) choices
      (ap (λ (number : ℕ). filled (hidden hides state.memory) held.word (number % 256) count) (address_number-hidden hides state.memory second.word)
      ∙ filled-hidden hides state.memory held.word (number_in state.memory second % 256) count)
      (length-written_at state.memory held.word (replicate count (Num (number_in state.memory second % 256)))) callers later)))
  follows flow (Copy target from count disjoint) to place own state choices callers later stays =
      let kept : State = at to (without_registers (target ∷ from ∷ []) state) in
      let onward : State → Held → Held → Outcome = λ state held second. unless_fault (copy_fault state.memory held.word second.word count disjoint) place
      (Went (at to (with_memory (copied state.memory held.word second.word count) (without_registers (target ∷ from ∷ []) state))) choices) in
      follows_given (held_by state.frame.registers target)
      (λ held. given (held_by state.frame.registers from) (onward (part_of own state) held)) (λ held. given (held_by state.frame.registers from) (onward state held))
      (λ held. follows_given (held_by state.frame.registers from) (onward (part_of own state) held) (onward state held)
      (λ second. follows_unless_fault (copy_fault (hidden hides state.memory) held.word second.word count disjoint) (copy_fault state.memory held.word second.word count disjoint) place
      (Went (with_memory (copied (hidden hides state.memory) held.word second.word count) (part_of own kept)) choices)
      (Went (with_memory (copied state.memory held.word second.word count) kept) choices) (copy_fault-hidden hides state.memory held.word second.word count disjoint)
      (follows_memory own kept (copied (hidden hides state.memory) held.word second.word count) (copied state.memory held.word second.word count) choices
      (copied-hidden hides state.memory held.word second.word count) (length-written_at state.memory held.word (bytes_at state.memory second.word count)) callers later)))
  follows flow (Enter variables) to place own state choices callers later stays = follows_entered flow variables own (at to state) choices callers later
  follows flow (Leave variables) to place own state choices callers later stays =
      follows_loss (is_lost (after_scope variables (part_of own state)).memory (roots (at to (after_scope variables (part_of own state)))))
      (is_lost (after_scope variables state).memory (roots (at to (after_scope variables state)))) memory_lost place own
      (at to (after_scope variables (part_of own state))) (at to (after_scope variables state)) choices (inl refl)
      (ap (λ (memory : List Block). with_memory memory (part_of own (at to (after_scope variables state))))
      (without_variables-hidden hides state.frame.variables variables state.memory)) callers
      (later_same hides state.memory (without_variables state.frame.variables variables state.memory) (length-without_variables state.frame.variables variables state.memory) later)
  follows flow (Finish registers) to place own state choices callers later stays =
      follows_loss (is_lost (hidden hides state.memory) (roots (at to (without_registers registers (part_of own state)))))
      (is_lost state.memory (roots (at to (without_registers registers state)))) memory_lost place own
      (at to (without_registers registers (part_of own state))) (at to (without_registers registers state)) choices (inl refl) refl callers later
  follows flow (Input into size signed truth) to place own state choices callers later stays = by_choice choices
    where
      by_choice : (choices : List Choice) → Follows hides below outer (received into size truth (part_of own (at to state)) choices) (received into size truth (at to state) choices)
      by_choice [] = inl refl
      by_choice (NoBlock ∷ rest) = refl
      by_choice (NewBlock base contents ∷ rest) = refl
      by_choice (GivenInput number ∷ rest) =
          follows_if (nat_lt number (if truth then 2 else 256 ^ size)) (nat_lt number (if truth then 2 else 256 ^ size))
          (Went (with_value into size (Plain number) (part_of own (at to state))) rest) Ended (Went (with_value into size (Plain number) (at to state)) rest) Ended refl
          (follows_went own (with_value into size (Plain number) (part_of own (at to state))) (with_value into size (Plain number) (at to state)) rest refl callers later) refl
  follows flow (Call function arguments into) to place own state choices callers later stays =
      follows_called flow (slice_get flow.functions function) arguments into to own state choices callers later
  follows flow (Return from) to place own state choices callers later stays =
      follows_returned (result_of from state.frame.registers) own state choices (stays refl) callers later
  follows flow Close to place own state choices callers later stays =
      follows_loss (is_lost (hidden hides state.memory) []) (is_lost state.memory []) block_never_freed place own (at to (part_of own state)) (at to state) choices (inr refl) refl callers later

pub parts_follow : DoPartsFollow
parts_follow hides below outer flow edge part whole choices is returns =
    subst (λ (one : State). Follows hides below outer (step_along flow edge one choices) (step_along flow edge whole choices)) (sym same)
    (by_point (nat_eq edge.from whole.point))
  where
    same : part ≡ part_of hides below outer part.callers whole
    same = λ i. record {
      point = is.point i;
      frame = is.frame i;
      callers = part.callers;
      statics = is.statics i;
      memory = is.memory i;
      outer = is.outside i;
    }

    by_point : (here : Bool) → Follows hides below outer
        (if here then execute flow edge.instr edge.to edge.place (part_of hides below outer part.callers whole) choices else Barred)
        (if here then execute flow edge.instr edge.to edge.place whole choices else Barred)
    by_point true = follows hides below outer flow edge.instr edge.to edge.place part.callers whole choices is.callers is.later returns
    by_point false = inl refl
