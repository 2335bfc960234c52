-- A step does the same under other numbers of blocks.
use Rattle.std.proofs.Common.{◌≡◌, ℕ, List, [], ◌∷◌, map, length, Bool, true, false, refl, sym, ap, subst, ◌∙◌, Option, None, Some, arith}
use Rattle.std.specs.Prelude.{ℤ, pos, ◌*ℤ◌, ◌%◌, ◌^◌, ◌&&◌, ◌||◌, not, if◌then◌else◌, nat_eq, nat_lt, slice_get}
use Rattle.std.specs.List.{list_all}
use Rattle.std.specs.Option.{option_map}
use Rattle.cbase.specs.declared.place.Place.{Place}
use Rattle.arithmetic.specs.Value.{value}
use Rattle.arithmetic.specs.Conversion.{converted}
use Rattle.arithmetic.specs.Computing.{computed}
use Rattle.bytes_core.specs.declared.word.Word.{Word}
use Rattle.bytes_core.specs.declared.word.Word.TheVariants.{Plain, To}
use Rattle.bytes_core.specs.declared.block.BlockKind.{BlockKind}
use Rattle.bytes_core.specs.declared.block.BlockKind.TheVariants as storage
use Rattle.bytes_core.specs.declared.block.Block.{Block}
use Rattle.bytes_core.specs.Fault.{memory_lost, block_never_freed}
use Rattle.bytes_core.specs.Value.{is_same_address, moved}
use Rattle.bytes_core.specs.Placement.{new_block, is_new_block, placed}
use Rattle.bytes_core.specs.Access.{access_fault, range_fault, loaded, stored, filled}
use Rattle.bytes_core.specs.Copying.{copy_fault, copied}
use Rattle.bytes_core.specs.Release.{free_fault, freed}
use Rattle.bytes_core.specs.Loss.{is_lost}
use Rattle.flow.specs.declared.instruction.Instr.{Instr}
use Rattle.flow.specs.declared.instruction.Instr.TheVariants.{Number, Address, Move, Read, Write, Shift, ShiftBy, Compute, Convert, IfSame, IfDifferent, Allocate, AllocateNone, Release, Fill, Copy, Enter, Leave, Finish, Input, Call, Return, Close}
use Rattle.flow.specs.declared.flow_graph.Flow.{Flow}
use Rattle.flow.specs.declared.flow_graph.FlowFunction.{FlowFunction}
use Rattle.flow.specs.Holding.{Held, Owned, held_by, put, emptied, block_of}
use Rattle.choices.specs.declared.choice.Choice.{Choice}
use Rattle.choices.specs.declared.choice.Choice.TheVariants.{None as NoBlock, Block as NewBlock, Input as GivenInput}
use Rattle.flow.specs.Machine.{Frame, Caller, State, Outcome, Went, Barred, Ended, Faulted, execute, step_along, given, unless_fault, unless_lost, if_computed, with_new_block, with_variable, with_memory, with_value, with_registers, without_registers, entered, with_parameters, with_arguments, size_in, size_after, at, block_here, addressed, allocated, allocated_none, received, called, returned, result_of, with_result, roots, number_in, after_scope, without_variables, without_block}
use Rattle.flow.specs.Renaming.{renamed_word, AreRenamed, ReadsRenamed, ChangesRenamed}
use Rattle.flow.specs.RenamedSteps.{renamed_held, renamed_owned, renamed_frame, renamed_caller, renamed_state, IsSameRenamed, DoStepsRename}
use Rattle.flow.proofs.RenamedBlocks.{renaming_kept}
use Rattle.flow.proofs.RenamedStates.{held_by-renamed, put-renamed, emptied-renamed, put_emptied-renamed, block_of-renamed, put_owned-renamed, left-renamed, roots-renamed, block_here-renamed, result_of-renamed, with_result-renamed}

moved-renamed : (renames : ℕ → ℕ) (word : Word) (bytes : ℤ) → moved (renamed_word renames word) bytes ≡ renamed_word renames (moved word bytes)
moved-renamed renames (Plain number) bytes = refl
moved-renamed renames (To block offset) bytes = refl

module _ (renames back : ℕ → ℕ) where
  abbrev Same : Outcome → Outcome → Type 0
  Same one other = IsSameRenamed renames back one other

  reads : (memory other : List Block) → AreRenamed renames back memory other → ReadsRenamed renames memory other
  reads memory other are = renaming_kept.reads renames back memory other are

  changes : (memory other : List Block) → AreRenamed renames back memory other → ChangesRenamed renames back memory other
  changes memory other are = renaming_kept.changes renames back memory other are

  same_went : (state other : State) (memory : List Block) (rest : List Choice) → AreRenamed renames back state.memory memory →
      other ≡ renamed_state renames memory state → IsSameRenamed renames back (Went state rest) (Went other rest)
  same_went state other memory rest are is =
      let same : other.memory ≡ memory = ap (λ (state : State). state.memory) is in (
        record {
          memory = subst (λ (memory : List Block). AreRenamed renames back state.memory memory) (sym same) are;
          is = is ∙ ap (λ (memory : List Block). renamed_state renames memory state) (sym same);
        },
        refl,
      )

  -- a state with other registers and another memory
  same_registers : (state : State) (held held' : List Held) (memory old other : List Block) (rest : List Choice) → held' ≡ map (renamed_held renames) held →
      AreRenamed renames back memory other →
      IsSameRenamed renames back (Went (with_memory memory (with_registers held state)) rest)
      (Went (with_memory other (with_registers held' (renamed_state renames old state))) rest)
  same_registers state held held' memory old other rest is are =
      same_went (with_memory memory (with_registers held state)) (with_memory other (with_registers held' (renamed_state renames old state))) other rest are
      (ap (λ (registers : List Held). with_memory other (with_registers registers (renamed_state renames old state))) is)

  same_given : (found : Option Held) (onward onward' : Held → Outcome) → ((held : Held) → IsSameRenamed renames back (onward held) (onward' (renamed_held renames held))) →
      IsSameRenamed renames back (given found onward) (given (option_map (renamed_held renames) found) onward')
  same_given None onward onward' each = refl
  same_given (Some held) onward onward' each = each held

  same_held : (registers : List Held) (register : ℕ) (onward onward' : Held → Outcome) →
      ((held : Held) → IsSameRenamed renames back (onward held) (onward' (renamed_held renames held))) →
      IsSameRenamed renames back (given (held_by registers register) onward) (given (held_by (map (renamed_held renames) registers) register) onward')
  same_held registers register onward onward' each =
      subst (λ (found : Option Held). IsSameRenamed renames back (given (held_by registers register) onward) (given found onward')) (sym (held_by-renamed renames registers register))
      (same_given (held_by registers register) onward onward' each)

  same_unless_fault : (fault fault' : Option ℕ) (place : Place) (one other : Outcome) → fault' ≡ fault → IsSameRenamed renames back one other →
      IsSameRenamed renames back (unless_fault fault place one) (unless_fault fault' place other)
  same_unless_fault fault fault' place one other is same =
      subst (λ (now : Option ℕ). IsSameRenamed renames back (unless_fault fault place one) (unless_fault now place other)) (sym is) (by_fault fault)
    where
      by_fault : (fault : Option ℕ) → IsSameRenamed renames back (unless_fault fault place one) (unless_fault fault place other)
      by_fault None = same
      by_fault (Some kind) = refl

  same_if_computed : (found found' : Option ℕ) (onward onward' : ℕ → Outcome) → found' ≡ found → ((number : ℕ) → IsSameRenamed renames back (onward number) (onward' number)) →
      IsSameRenamed renames back (if_computed found onward) (if_computed found' onward')
  same_if_computed found found' onward onward' is each =
      subst (λ (now : Option ℕ). IsSameRenamed renames back (if_computed found onward) (if_computed now onward')) (sym is) (by_found found)
    where
      by_found : (found : Option ℕ) → IsSameRenamed renames back (if_computed found onward) (if_computed found onward')
      by_found None = refl
      by_found (Some number) = each number

  same_if : (test test' : Bool) (one other one' other' : Outcome) → test' ≡ test → IsSameRenamed renames back one one' → IsSameRenamed renames back other other' →
      IsSameRenamed renames back (if test then one else other) (if test' then one' else other')
  same_if test test' one other one' other' is same same' =
      subst (λ (now : Bool). IsSameRenamed renames back (if test then one else other) (if now then one' else other')) (sym is) (by_test test)
    where
      by_test : (test : Bool) → IsSameRenamed renames back (if test then one else other) (if test then one' else other')
      by_test true = same
      by_test false = same'

  -- a new block
  same_new_block : (kind : BlockKind) (size : ℕ) (zeroed : Bool) (state : State) (memory : List Block) (choices : List Choice) (onward onward' : State → ℕ → List Choice → Outcome) →
      AreRenamed renames back state.memory memory →
      ((base : ℕ) (contents : List ℕ) (rest : List Choice) →
      AreRenamed renames back (placed state.memory (new_block kind base contents)) (placed memory (new_block kind base contents)) →
      IsSameRenamed renames back (onward (with_memory (placed state.memory (new_block kind base contents)) state) (length state.memory) rest)
      (onward' (renamed_state renames (placed memory (new_block kind base contents)) state) (renames (length state.memory)) rest)) →
      IsSameRenamed renames back (with_new_block kind size zeroed state choices onward) (with_new_block kind size zeroed (renamed_state renames memory state) choices onward')
  same_new_block kind size zeroed state memory [] onward onward' are each = refl
  same_new_block kind size zeroed state memory (NoBlock ∷ choices) onward onward' are each = refl
  same_new_block kind size zeroed state memory (GivenInput number ∷ choices) onward onward' are each = refl
  same_new_block kind size zeroed state memory (NewBlock base contents ∷ choices) onward onward' are each =
      same_if (is_new_block state.memory kind size base contents && (not zeroed || list_all (nat_eq 0) contents))
      (is_new_block memory kind size base contents && (not zeroed || list_all (nat_eq 0) contents))
      (onward (with_memory (placed state.memory (new_block kind base contents)) state) (length state.memory) choices) Ended
      (onward' (renamed_state renames (placed memory (new_block kind base contents)) state) (length memory) choices) Ended
      (ap (λ (fits : Bool). fits && (not zeroed || list_all (nat_eq 0) contents)) ((reads state.memory memory are).room kind size base contents))
      (subst (λ (number : ℕ). IsSameRenamed renames back (onward (with_memory (placed state.memory (new_block kind base contents)) state) (length state.memory) choices)
      (onward' (renamed_state renames (placed memory (new_block kind base contents)) state) number choices))
      (are.later (length state.memory) (omega arith) ∙ sym are.count)
      (each base contents choices ((changes state.memory memory are).places kind base contents))) refl

  -- a variable more
  variable-renamed : (variable block : ℕ) (memory : List Block) (state : State) →
      with_variable variable (renames block) (renamed_state renames memory state) ≡ renamed_state renames memory (with_variable variable block state)
  variable-renamed variable block memory state =
      ap (λ (owned : List Owned). record (renamed_state renames memory state) { frame = record { variables = owned; registers = map (renamed_held renames) state.frame.registers } })
      (put_owned-renamed renames (record { variable = variable; block = block }) state.frame.variables)

  same_entered : (flow : Flow) (variables : List ℕ) (state : State) (memory : List Block) (choices : List Choice) → AreRenamed renames back state.memory memory →
      IsSameRenamed renames back (entered flow variables state choices) (entered flow variables (renamed_state renames memory state) choices)
  same_entered flow [] state memory choices are = same_went state (renamed_state renames memory state) memory choices are refl
  same_entered flow (variable ∷ rest) state memory choices are =
      same_new_block storage.Local (size_in flow variable) false state memory choices
      (λ after block more. entered flow rest (with_variable variable block after) more) (λ after block more. entered flow rest (with_variable variable block after) more) are
      (λ base contents more are'.
      let after : State = with_memory (placed state.memory (new_block storage.Local base contents)) state in
      let memory' : List Block = placed memory (new_block storage.Local base contents) in
      subst (λ (one : State). IsSameRenamed renames back (entered flow rest (with_variable variable (length state.memory) after) more) (entered flow rest one more))
      (sym (variable-renamed variable (length state.memory) memory' after))
      (same_entered flow rest (with_variable variable (length state.memory) after) memory' more are'))

  same_parameters : (flow : Flow) (variables : List ℕ) (arguments : List Held) (state : State) (memory : List Block) (choices : List Choice) → AreRenamed renames back state.memory memory →
      IsSameRenamed renames back (with_parameters flow variables arguments state choices)
      (with_parameters flow variables (map (renamed_held renames) arguments) (renamed_state renames memory state) choices)
  same_parameters flow [] arguments state memory choices are = same_went state (renamed_state renames memory state) memory choices are refl
  same_parameters flow (variable ∷ rest) [] state memory choices are = refl
  same_parameters flow (variable ∷ rest) (argument ∷ arguments) state memory choices are =
      same_new_block storage.Local (size_in flow variable) false state memory choices
      (λ after block more. with_parameters flow rest arguments
      (with_memory (stored after.memory (To block (pos 0)) argument.size argument.word) (with_variable variable block after)) more)
      (λ after block more. with_parameters flow rest (map (renamed_held renames) arguments)
      (with_memory (stored after.memory (To block (pos 0)) argument.size (renamed_word renames argument.word)) (with_variable variable block after)) more) are
      (λ base contents more are'.
      let number : ℕ = length state.memory in
      let placed_at : List Block = placed state.memory (new_block storage.Local base contents) in
      let placed_at' : List Block = placed memory (new_block storage.Local base contents) in
      let written : List Block = stored placed_at (To number (pos 0)) argument.size argument.word in
      let written' : List Block = stored placed_at' (To (renames number) (pos 0)) argument.size (renamed_word renames argument.word) in
      let after : State = with_memory placed_at state in
      let next : State = with_memory written (with_variable variable number after) in
      subst (λ (one : State). IsSameRenamed renames back (with_parameters flow rest arguments next more)
      (with_parameters flow rest (map (renamed_held renames) arguments) (with_memory written' one) more))
      (sym (variable-renamed variable number placed_at' after))
      (same_parameters flow rest arguments next written' more ((changes placed_at placed_at' are').stores (To number (pos 0)) argument.size argument.word)))

  same_arguments : (registers : List Held) (arguments : List ℕ) (onward onward' : List Held → Outcome) →
      ((held : List Held) → IsSameRenamed renames back (onward held) (onward' (map (renamed_held renames) held))) →
      IsSameRenamed renames back (with_arguments registers arguments onward) (with_arguments (map (renamed_held renames) registers) arguments onward')
  same_arguments registers [] onward onward' each = each []
  same_arguments registers (first ∷ rest) onward onward' each =
      same_held registers first (λ held. with_arguments registers rest (λ more. onward (held ∷ more)))
      (λ held. with_arguments (map (renamed_held renames) registers) rest (λ more. onward' (held ∷ more)))
      (λ held. same_arguments registers rest (λ more. onward (held ∷ more)) (λ more. onward' (renamed_held renames held ∷ more)) (λ more. each (held ∷ more)))

  same_called : (flow : Flow) (found : Option FlowFunction) (arguments : List ℕ) (into : Option ℕ) (onward : ℕ) (state : State) (memory : List Block) (choices : List Choice) →
      AreRenamed renames back state.memory memory →
      IsSameRenamed renames back (called flow found arguments into onward state choices) (called flow found arguments into onward (renamed_state renames memory state) choices)
  same_called flow None arguments into onward state memory choices are = refl
  same_called flow (Some function) arguments into onward state memory choices are =
      let waits : List Owned → List Held → Caller = λ variables registers. record { frame = record { variables = variables; registers = registers }; point = onward; into = into } in
      let enters : State → Caller → State = λ state caller. record state { point = function.entry; frame = record { variables = []; registers = [] }; callers = caller ∷ state.callers } in
      let entered_at : State = enters state (waits state.frame.variables (emptied arguments state.frame.registers)) in
      let entered_at' : State = record (renamed_state renames memory state) {
        point = function.entry;
        frame = record { variables = []; registers = [] };
        callers = waits (map (renamed_owned renames) state.frame.variables) (emptied arguments (map (renamed_held renames) state.frame.registers)) ∷ map (renamed_caller renames) state.callers;
      } in
      let same : entered_at' ≡ renamed_state renames memory entered_at = ap (λ (registers : List Held). record (renamed_state renames memory state) {
        point = function.entry;
        frame = record { variables = []; registers = [] };
        callers = waits (map (renamed_owned renames) state.frame.variables) registers ∷ map (renamed_caller renames) state.callers;
      }) (emptied-renamed renames arguments state.frame.registers) in
      same_arguments state.frame.registers arguments
      (λ held. with_parameters flow function.parameters held entered_at choices) (λ held. with_parameters flow function.parameters held entered_at' choices)
      (λ held. subst (λ (one : State). IsSameRenamed renames back (with_parameters flow function.parameters held entered_at choices)
      (with_parameters flow function.parameters (map (renamed_held renames) held) one choices)) (sym same)
      (same_parameters flow function.parameters held entered_at memory choices are))

  same_returned : (result : Option Held) (callers : List Caller) (state : State) (memory : List Block) (choices : List Choice) → AreRenamed renames back state.memory memory →
      IsSameRenamed renames back (returned result callers state choices)
      (returned (option_map (renamed_held renames) result) (map (renamed_caller renames) callers) (renamed_state renames memory state) choices)
  same_returned result [] state memory choices are = refl
  same_returned result (caller ∷ callers) state memory choices are =
      same_went (record state { point = caller.point; frame = with_result result caller.into caller.frame; callers = callers })
      (record (renamed_state renames memory state) {
        point = caller.point;
        frame = with_result (option_map (renamed_held renames) result) caller.into (renamed_frame renames caller.frame);
        callers = map (renamed_caller renames) callers;
      }) memory choices are
      (ap (λ (frame : Frame). record (renamed_state renames memory state) { point = caller.point; frame = frame; callers = map (renamed_caller renames) callers })
      (with_result-renamed renames result caller.into caller.frame))

  -- blocks of variables that die
  without_variables-renamed : (owned : List Owned) (variables : List ℕ) (memory other : List Block) → AreRenamed renames back memory other →
      AreRenamed renames back (without_variables owned variables memory) (without_variables (map (renamed_owned renames) owned) variables other)
  without_variables-renamed owned [] memory other are = are
  without_variables-renamed owned (variable ∷ rest) memory other are =
      subst (λ (found : Option ℕ). AreRenamed renames back (without_variables owned rest (without_block (block_of owned variable) memory))
      (without_variables (map (renamed_owned renames) owned) rest (without_block found other))) (sym (block_of-renamed renames owned variable))
      (without_variables-renamed owned rest (without_block (block_of owned variable) memory) (without_block (option_map renames (block_of owned variable)) other) (by_block (block_of owned variable)))
    where
      by_block : (found : Option ℕ) → AreRenamed renames back (without_block found memory) (without_block (option_map renames found) other)
      by_block None = are
      by_block (Some block) = (changes memory other are).ends block

  -- a look for lost memory
  same_loss : (state other : State) (memory : List Block) (place : Place) (rest : List Choice) → AreRenamed renames back state.memory memory →
      other ≡ renamed_state renames memory state → IsSameRenamed renames back (unless_lost place state rest) (unless_lost place other rest)
  same_loss state other memory place rest are is =
      subst (λ (one : State). IsSameRenamed renames back (unless_lost place state rest) (unless_lost place one rest)) (sym is)
      (same_if (is_lost state.memory (roots state)) (is_lost memory (roots (renamed_state renames memory state)))
      (Faulted memory_lost place) (Went state rest) (Faulted memory_lost place) (Went (renamed_state renames memory state) rest)
      (ap (is_lost memory) (roots-renamed renames memory state) ∙ (reads state.memory memory are).loss (roots state)) refl
      (same_went state (renamed_state renames memory state) memory rest are refl))

  -- a value that is put into a register, where others are emptied first or none is
  same_put : (state : State) (new new' : Held) (memory old other : List Block) (rest : List Choice) → new' ≡ renamed_held renames new → AreRenamed renames back memory other →
      IsSameRenamed renames back (Went (with_memory memory (with_registers (put new state.frame.registers) state)) rest)
      (Went (with_memory other (with_registers (put new' (map (renamed_held renames) state.frame.registers)) (renamed_state renames old state))) rest)
  same_put state new new' memory old other rest is are =
      same_registers state (put new state.frame.registers) (put new' (map (renamed_held renames) state.frame.registers)) memory old other rest
      (ap (λ (new : Held). put new (map (renamed_held renames) state.frame.registers)) is ∙ put-renamed renames new state.frame.registers) are

  same_put_emptied : (state : State) (new new' : Held) (gone : List ℕ) (memory other : List Block) (rest : List Choice) → new' ≡ renamed_held renames new → AreRenamed renames back memory other →
      IsSameRenamed renames back (Went (with_memory memory (with_registers (put new (emptied gone state.frame.registers)) state)) rest)
      (Went (with_memory other (with_registers (put new' (emptied gone (map (renamed_held renames) state.frame.registers))) (renamed_state renames other state))) rest)
  same_put_emptied state new new' gone memory other rest is are =
      same_registers state (put new (emptied gone state.frame.registers)) (put new' (emptied gone (map (renamed_held renames) state.frame.registers))) memory other other rest
      (put_emptied-renamed renames new new' gone state.frame.registers is) are

  same_emptied : (state : State) (gone : List ℕ) (memory old other : List Block) (rest : List Choice) → AreRenamed renames back memory other →
      IsSameRenamed renames back (Went (with_memory memory (with_registers (emptied gone state.frame.registers) state)) rest)
      (Went (with_memory other (with_registers (emptied gone (map (renamed_held renames) state.frame.registers)) (renamed_state renames old state))) rest)
  same_emptied state gone memory old other rest are =
      same_registers state (emptied gone state.frame.registers) (emptied gone (map (renamed_held renames) state.frame.registers)) memory old other rest
      (emptied-renamed renames gone state.frame.registers) are

  -- each instruction
  same : (flow : Flow) (instr : Instr) (to : ℕ) (place : Place) (state : State) (memory : List Block) (choices : List Choice) → AreRenamed renames back state.memory memory →
      IsSameRenamed renames back (execute flow instr to place state choices) (execute flow instr to place (renamed_state renames memory state) choices)
  same flow (Number into number size) to place state memory choices are =
      same_put (at to state) (record { register = into; size = size; word = Plain number }) (record { register = into; size = size; word = Plain number }) state.memory memory memory choices refl are
  same flow (Address into variable) to place state memory choices are =
      subst (λ (found : Option ℕ). IsSameRenamed renames back (addressed (block_here state variable) into (at to state) choices)
      (addressed found into (at to (renamed_state renames memory state)) choices)) (sym (block_here-renamed renames memory state variable)) (by_block (block_here state variable))
    where
      by_block : (found : Option ℕ) → IsSameRenamed renames back (addressed found into (at to state) choices)
          (addressed (option_map renames found) into (at to (renamed_state renames memory state)) choices)
      by_block None = refl
      by_block (Some block) = same_put (at to state) (record { register = into; size = 8; word = To block (pos 0) }) (record { register = into; size = 8; word = To (renames block) (pos 0) })
          state.memory memory memory choices refl are
  same flow (Move into from) to place state memory choices are =
      same_held state.frame.registers from (λ held. Went (at to (with_value into held.size held.word state)) choices)
      (λ held. Went (at to (with_value into held.size held.word (renamed_state renames memory state))) choices)
      (λ held. same_put (at to state) (record { register = into; size = held.size; word = held.word }) (record { register = into; size = held.size; word = renamed_word renames held.word })
      state.memory memory memory choices refl are)
  same flow (Read into address size pointer) to place state memory choices are =
      let next : State → Held → State = λ state held. at to (with_value into size (loaded state.memory held.word size pointer) (without_registers (address ∷ []) state)) in
      let onward : State → Held → Outcome = λ state held. unless_fault (access_fault state.memory held.word size) place (Went (next state held) choices) in
      same_held state.frame.registers address (onward state) (onward (renamed_state renames memory state))
      (λ held. same_unless_fault (access_fault state.memory held.word size) (access_fault memory (renamed_word renames held.word) size) place
      (Went (next state held) choices) (Went (next (renamed_state renames memory state) (renamed_held renames held)) choices) ((reads state.memory memory are).accesses held.word size)
      (same_put_emptied (at to state) (record { register = into; size = size; word = loaded state.memory held.word size pointer })
      (record { register = into; size = size; word = loaded memory (renamed_word renames held.word) size pointer }) (address ∷ []) state.memory memory choices
      (ap (λ (word : Word). record { register = into; size = size; word = word }) ((reads state.memory memory are).loads held.word size pointer)) are))
  same flow (Write address from size) to place state memory choices are =
      let next : State → Held → Held → State = λ state held written. at to (with_memory (stored state.memory held.word size written.word) (without_registers (address ∷ from ∷ []) state)) in
      let onward : State → Held → Held → Outcome = λ state held written. unless_fault (access_fault state.memory held.word size) place (Went (next state held written) choices) in
      let there : State = renamed_state renames memory state in
      same_held state.frame.registers address (λ held. given (held_by state.frame.registers from) (onward state held))
      (λ held. given (held_by (map (renamed_held renames) state.frame.registers) from) (onward there held))
      (λ held. same_held state.frame.registers from (onward state held) (onward there (renamed_held renames held))
      (λ written. same_unless_fault (access_fault state.memory held.word size) (access_fault memory (renamed_word renames held.word) size) place
      (Went (next state held written) choices) (Went (next there (renamed_held renames held) (renamed_held renames written)) choices) ((reads state.memory memory are).accesses held.word size)
      (same_emptied (at to state) (address ∷ from ∷ []) (stored state.memory held.word size written.word) memory
      (stored memory (renamed_word renames held.word) size (renamed_word renames written.word)) choices ((changes state.memory memory are).stores held.word size written.word))))
  same flow (Shift into address by) to place state memory choices are =
      let next : State → Held → State = λ state held. at to (with_value into 8 (moved held.word by) (without_registers (address ∷ []) state)) in
      same_held state.frame.registers address (λ held. Went (next state held) choices) (λ held. Went (next (renamed_state renames memory state) held) choices)
      (λ held. same_put_emptied (at to state) (record { register = into; size = 8; word = moved held.word by })
      (record { register = into; size = 8; word = moved (renamed_word renames held.word) by }) (address ∷ []) state.memory memory choices
      (ap (λ (word : Word). record { register = into; size = 8; word = word }) (moved-renamed renames held.word by)) are)
  same flow (ShiftBy into address by scale) to place state memory choices are =
      let bytes : List Block → Held → ℤ = λ memory number. value 8 true (number_in memory number) *ℤ scale in
      let onward : State → Held → Held → Outcome = λ state held number.
      Went (at to (with_value into 8 (moved held.word (bytes state.memory number)) (without_registers (address ∷ by ∷ []) state))) choices in
      let there : State = renamed_state renames memory state in
      same_held state.frame.registers address (λ held. given (held_by state.frame.registers by) (onward state held))
      (λ held. given (held_by (map (renamed_held renames) state.frame.registers) by) (onward there held))
      (λ held. same_held state.frame.registers by (onward state held) (onward there (renamed_held renames held))
      (λ number. same_put_emptied (at to state) (record { register = into; size = 8; word = moved held.word (bytes state.memory number) })
      (record { register = into; size = 8; word = moved (renamed_word renames held.word) (bytes memory (renamed_held renames number)) }) (address ∷ by ∷ []) state.memory memory choices
      (ap (λ (word : Word). record { register = into; size = 8; word = word })
      (ap (λ (found : ℕ). moved (renamed_word renames held.word) (value 8 true found *ℤ scale)) ((reads state.memory memory are).addresses number.word)
      ∙ moved-renamed renames held.word (bytes state.memory number))) are))
  same flow (Compute into op one other size signed) to place state memory choices are =
      let next : State → ℕ → Outcome = λ state number. Went (at to (with_value into (size_after op size) (Plain number) (without_registers (one ∷ other ∷ []) state))) choices in
      let onward : State → Held → Held → Outcome = λ state held second.
      if_computed (computed op size signed (number_in state.memory held) (number_in state.memory second)) (next state) in
      let there : State = renamed_state renames memory state in
      same_held state.frame.registers one (λ held. given (held_by state.frame.registers other) (onward state held))
      (λ held. given (held_by (map (renamed_held renames) state.frame.registers) other) (onward there held))
      (λ held. same_held state.frame.registers other (onward state held) (onward there (renamed_held renames held))
      (λ second. same_if_computed (computed op size signed (number_in state.memory held) (number_in state.memory second))
      (computed op size signed (number_in memory (renamed_held renames held)) (number_in memory (renamed_held renames second))) (next state) (next there)
      (ap (λ (number : ℕ). computed op size signed number (number_in memory (renamed_held renames second))) ((reads state.memory memory are).addresses held.word)
      ∙ ap (computed op size signed (number_in state.memory held)) ((reads state.memory memory are).addresses second.word))
      (λ number. same_put_emptied (at to state) (record { register = into; size = size_after op size; word = Plain number })
      (record { register = into; size = size_after op size; word = Plain number }) (one ∷ other ∷ []) state.memory memory choices refl are)))
  same flow (Convert into from size signed) to place state memory choices are =
      let converts : Held → ℕ → Word = λ held number. Plain (converted held.size signed size number) in
      let onward : State → Held → Outcome = λ state held. Went (at to (with_value into size (converts held (number_in state.memory held)) (without_registers (from ∷ []) state))) choices in
      same_held state.frame.registers from (onward state) (onward (renamed_state renames memory state))
      (λ held. same_put_emptied (at to state) (record { register = into; size = size; word = converts held (number_in state.memory held) })
      (record { register = into; size = size; word = converts held (number_in memory (renamed_held renames held)) }) (from ∷ []) state.memory memory choices
      (ap (λ (number : ℕ). record { register = into; size = size; word = converts held number }) ((reads state.memory memory are).addresses held.word)) are)
  same flow (IfSame one other) to place state memory choices are =
      let passes : State → Outcome = λ state. Went (at to (without_registers (one ∷ other ∷ []) state)) choices in
      let onward : State → Held → Held → Outcome = λ state held second. if is_same_address state.memory held.word second.word then passes state else Barred in
      let there : State = renamed_state renames memory state in
      same_held state.frame.registers one (λ held. given (held_by state.frame.registers other) (onward state held))
      (λ held. given (held_by (map (renamed_held renames) state.frame.registers) other) (onward there held))
      (λ held. same_held state.frame.registers other (onward state held) (onward there (renamed_held renames held))
      (λ second. same_if (is_same_address state.memory held.word second.word) (is_same_address memory (renamed_word renames held.word) (renamed_word renames second.word))
      (passes state) Barred (passes there) Barred ((reads state.memory memory are).equality held.word second.word)
      (same_emptied (at to state) (one ∷ other ∷ []) state.memory memory memory choices are) refl))
  same flow (IfDifferent one other) to place state memory choices are =
      let passes : State → Outcome = λ state. Went (at to (without_registers (one ∷ other ∷ []) state)) choices in
      let onward : State → Held → Held → Outcome = λ state held second. if is_same_address state.memory held.word second.word then Barred else passes state in
      let there : State = renamed_state renames memory state in
      same_held state.frame.registers one (λ held. given (held_by state.frame.registers other) (onward state held))
      (λ held. given (held_by (map (renamed_held renames) state.frame.registers) other) (onward there held))
      (λ held. same_held state.frame.registers other (onward state held) (onward there (renamed_held renames held))
      (λ second. same_if (is_same_address state.memory held.word second.word) (is_same_address memory (renamed_word renames held.word) (renamed_word renames second.word))
      Barred (passes state) Barred (passes there) ((reads state.memory memory are).equality held.word second.word) refl
      (same_emptied (at to state) (one ∷ other ∷ []) state.memory memory memory choices are)))
  same flow (Allocate into bytes zeroed) to place state memory choices are = by_choice choices
    where
      makes : (choices : List Choice) → IsSameRenamed renames back
          (with_new_block storage.Heap bytes zeroed (at to state) choices (λ after block more. Went (with_value into 8 (To block (pos 0)) after) more))
          (with_new_block storage.Heap bytes zeroed (renamed_state renames memory (at to state)) choices (λ after block more. Went (with_value into 8 (To block (pos 0)) after) more))
      makes choices = same_new_block storage.Heap bytes zeroed (at to state) memory choices
          (λ after block more. Went (with_value into 8 (To block (pos 0)) after) more) (λ after block more. Went (with_value into 8 (To block (pos 0)) after) more) are
          (λ base contents more are'. same_put (at to state) (record { register = into; size = 8; word = To (length state.memory) (pos 0) })
          (record { register = into; size = 8; word = To (renames (length state.memory)) (pos 0) })
          (placed state.memory (new_block storage.Heap base contents)) memory (placed memory (new_block storage.Heap base contents)) more refl are')

      by_choice : (choices : List Choice) → IsSameRenamed renames back (allocated into bytes zeroed (at to state) choices)
          (allocated into bytes zeroed (at to (renamed_state renames memory state)) choices)
      by_choice [] = refl
      by_choice (NoBlock ∷ rest) = refl
      by_choice (NewBlock base contents ∷ rest) = makes (NewBlock base contents ∷ rest)
      by_choice (GivenInput number ∷ rest) = refl
  same flow (AllocateNone into) to place state memory choices are = by_choice choices
    where
      by_choice : (choices : List Choice) → IsSameRenamed renames back (allocated_none into (at to state) choices)
          (allocated_none into (at to (renamed_state renames memory state)) choices)
      by_choice [] = refl
      by_choice (NoBlock ∷ rest) = same_put (at to state) (record { register = into; size = 8; word = Plain 0 }) (record { register = into; size = 8; word = Plain 0 })
          state.memory memory memory rest refl are
      by_choice (NewBlock base contents ∷ rest) = refl
      by_choice (GivenInput number ∷ rest) = refl
  same flow (Release address) to place state memory choices are =
      let next : State → Held → State = λ state held. at to (with_memory (freed state.memory held.word) (without_registers (address ∷ []) state)) in
      let onward : State → Held → Outcome = λ state held. unless_fault (free_fault state.memory held.word) place (Went (next state held) choices) in
      same_held state.frame.registers address (onward state) (onward (renamed_state renames memory state))
      (λ held. same_unless_fault (free_fault state.memory held.word) (free_fault memory (renamed_word renames held.word)) place
      (Went (next state held) choices) (Went (next (renamed_state renames memory state) (renamed_held renames held)) choices) ((reads state.memory memory are).frees held.word)
      (same_emptied (at to state) (address ∷ []) (freed state.memory held.word) memory (freed memory (renamed_word renames held.word)) choices ((changes state.memory memory are).frees held.word)))
  same flow (Fill address from count) to place state memory choices are =
      let next : State → Held → Held → State = λ state held second.
      at to (with_memory (filled state.memory held.word (number_in state.memory second % 256) count) (without_registers (address ∷ from ∷ []) state)) in
      let onward : State → Held → Held → Outcome = λ state held second. unless_fault (range_fault state.memory held.word count) place (Went (next state held second) choices) in
      let there : State = renamed_state renames memory state in
      same_held state.frame.registers address (λ held. given (held_by state.frame.registers from) (onward state held))
      (λ held. given (held_by (map (renamed_held renames) state.frame.registers) from) (onward there held))
      (λ held. same_held state.frame.registers from (onward state held) (onward there (renamed_held renames held))
      (λ second. same_unless_fault (range_fault state.memory held.word count) (range_fault memory (renamed_word renames held.word) count) place
      (Went (next state held second) choices) (Went (next there (renamed_held renames held) (renamed_held renames second)) choices) ((reads state.memory memory are).ranges held.word count)
      (same_emptied (at to state) (address ∷ from ∷ []) (filled state.memory held.word (number_in state.memory second % 256) count) memory
      (filled memory (renamed_word renames held.word) (number_in memory (renamed_held renames second) % 256) count) choices
      (subst (λ (number : ℕ). AreRenamed renames back (filled state.memory held.word (number_in state.memory second % 256) count)
      (filled memory (renamed_word renames held.word) (number % 256) count)) (sym ((reads state.memory memory are).addresses second.word))
      ((changes state.memory memory are).fills held.word (number_in state.memory second % 256) count)))))
  same flow (Copy target from count disjoint) to place state memory choices are =
      let next : State → Held → Held → State = λ state held second. at to (with_memory (copied state.memory held.word second.word count) (without_registers (target ∷ from ∷ []) state)) in
      let onward : State → Held → Held → Outcome = λ state held second. unless_fault (copy_fault state.memory held.word second.word count disjoint) place (Went (next state held second) choices) in
      let there : State = renamed_state renames memory state in
      same_held state.frame.registers target (λ held. given (held_by state.frame.registers from) (onward state held))
      (λ held. given (held_by (map (renamed_held renames) state.frame.registers) from) (onward there held))
      (λ held. same_held state.frame.registers from (onward state held) (onward there (renamed_held renames held))
      (λ second. same_unless_fault (copy_fault state.memory held.word second.word count disjoint)
      (copy_fault memory (renamed_word renames held.word) (renamed_word renames second.word) count disjoint) place
      (Went (next state held second) choices) (Went (next there (renamed_held renames held) (renamed_held renames second)) choices)
      ((reads state.memory memory are).copies held.word second.word count disjoint)
      (same_emptied (at to state) (target ∷ from ∷ []) (copied state.memory held.word second.word count) memory
      (copied memory (renamed_word renames held.word) (renamed_word renames second.word) count) choices ((changes state.memory memory are).copies held.word second.word count))))
  same flow (Enter variables) to place state memory choices are = same_entered flow variables (at to state) memory choices are
  same flow (Leave variables) to place state memory choices are =
      let there : State = renamed_state renames memory state in
      let memory' : List Block = without_variables (map (renamed_owned renames) state.frame.variables) variables memory in
      same_loss (at to (after_scope variables state)) (at to (after_scope variables there)) memory' place choices
      (without_variables-renamed state.frame.variables variables state.memory memory are)
      (ap (λ (owned : List Owned). record (renamed_state renames memory' (at to state)) { frame = record { variables = owned; registers = map (renamed_held renames) state.frame.registers } })
      (left-renamed renames variables state.frame.variables))
  same flow (Finish registers) to place state memory choices are =
      same_loss (at to (without_registers registers state)) (at to (without_registers registers (renamed_state renames memory state))) memory place choices are
      (ap (λ (held : List Held). with_registers held (renamed_state renames memory (at to state))) (emptied-renamed renames registers state.frame.registers))
  same flow (Input into size signed truth) to place state memory choices are = by_choice choices
    where
      by_choice : (choices : List Choice) → IsSameRenamed renames back (received into size truth (at to state) choices)
          (received into size truth (at to (renamed_state renames memory state)) choices)
      by_choice [] = refl
      by_choice (NoBlock ∷ rest) = refl
      by_choice (NewBlock base contents ∷ rest) = refl
      by_choice (GivenInput number ∷ rest) =
          same_if (nat_lt number (if truth then 2 else 256 ^ size)) (nat_lt number (if truth then 2 else 256 ^ size))
          (Went (with_value into size (Plain number) (at to state)) rest) Ended (Went (with_value into size (Plain number) (at to (renamed_state renames memory state))) rest) Ended refl
          (same_put (at to state) (record { register = into; size = size; word = Plain number }) (record { register = into; size = size; word = Plain number }) state.memory memory memory rest refl are) refl
  same flow (Call function arguments into) to place state memory choices are = same_called flow (slice_get flow.functions function) arguments into to state memory choices are
  same flow (Return from) to place state memory choices are =
      subst (λ (result : Option Held). IsSameRenamed renames back (returned (result_of from state.frame.registers) state.callers state choices)
      (returned result (map (renamed_caller renames) state.callers) (renamed_state renames memory state) choices)) (sym (result_of-renamed renames from state.frame.registers))
      (same_returned (result_of from state.frame.registers) state.callers state memory choices are)
  same flow Close to place state memory choices are =
      same_if (is_lost state.memory []) (is_lost memory []) (Faulted block_never_freed place) (Went (at to state) choices)
      (Faulted block_never_freed place) (Went (at to (renamed_state renames memory state)) choices) ((reads state.memory memory are).loss []) refl
      (same_went (at to state) (at to (renamed_state renames memory state)) memory choices are refl)

pub steps_rename : DoStepsRename
steps_rename renames back flow edge state other choices is =
    subst (λ (one : State). IsSameRenamed renames back (step_along flow edge state choices) (step_along flow edge one choices)) (sym is.is)
    (by_point (nat_eq edge.from state.point))
  where
    by_point : (here : Bool) → IsSameRenamed renames back
        (if here then execute flow edge.instr edge.to edge.place state choices else Barred)
        (if here then execute flow edge.instr edge.to edge.place (renamed_state renames other.memory state) choices else Barred)
    by_point true = same renames back flow edge.instr edge.to edge.place state other.memory choices is.memory
    by_point false = refl
