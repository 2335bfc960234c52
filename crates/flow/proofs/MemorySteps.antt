-- Each step keeps its memory a memory.
use Rattle.std.proofs.Common.{◌≡◌, ℕ, ◌%◌, ◌≤◌, List, [], ◌∷◌, map, length, drop, replicate, Bool, true, false, refl, sym, ap, subst, ◌∙◌, Option, None, Some, arith}
use Rattle.std.specs.Prelude.{ℤ, negsuc, not, pos, ◌*ℤ◌, ◌&&◌, if◌then◌else◌, nat_eq, nat_lt, ◌^◌, slice_get, IsTrue, All, Contains}
use Rattle.std.specs.List.{list_all, list_any}
use Rattle.std.specs.Option.{option_map, option_map_or}
use Rattle.std.proofs.lemmas.Bool.{eqb-true, and_parts}
use Rattle.std.proofs.lemmas.List.{length-replicate, length-take}
use Rattle.std.proofs.lemmas.List.Elements.{All-nil, All-cons, All-head, All-tail, All-filter, All-contains, All-replicate}
use Rattle.std.proofs.lemmas.Option.{none-some, slice_get_within}
use Rattle.cbase.specs.declared.place.Place.{Place}
use Rattle.arithmetic.specs.Value.{value}
use Rattle.arithmetic.specs.Conversion.{converted}
use Rattle.arithmetic.specs.Computing.{computed}
use Rattle.choices.specs.declared.choice.Choice.{Choice}
use Rattle.choices.specs.declared.choice.Choice.TheVariants.{None as NoBlock, Block as NewBlock, Input as GivenInput}
use Rattle.bytes_core.specs.declared.byte.Byte.TheVariants.{Num}
use Rattle.bytes_core.specs.declared.word.Word.{Word}
use Rattle.bytes_core.specs.declared.word.Word.TheVariants.{Plain, To}
use Rattle.bytes_core.specs.declared.block.BlockKind.TheVariants as storage
use Rattle.bytes_core.specs.declared.block.Block.{Block}
use Rattle.bytes_core.specs.Value.{moved, is_same_address}
use Rattle.bytes_core.specs.Access.{access_fault, range_fault, bytes_at, block_bytes, loaded, stored, filled}
use Rattle.bytes_core.specs.Copying.{copy_fault, copied}
use Rattle.bytes_core.specs.Fault.{block_never_freed}
use Rattle.bytes_core.specs.Loss.{is_lost}
use Rattle.bytes_core.specs.Release.{free_fault, freed}
use Rattle.bytes_core.specs.Valid.{NamesBelow}
use Rattle.bytes_core.proofs.Kept.{names_of_bytes}
use Rattle.bytes_core.proofs.Written.{accessible}
use Rattle.flow.specs.declared.instruction.Instr.{Instr}
use Rattle.flow.specs.declared.instruction.Instr.TheVariants.{Number, Address, Move, Read, Write, Shift, ShiftBy, Compute, Convert, IfSame, IfDifferent, Allocate, AllocateNone, Release, Fill, Copy, Enter, Leave, Finish, Input, Call, Return, Close}
use Rattle.flow.specs.declared.flow_graph.Flow.{Flow}
use Rattle.flow.specs.declared.flow_graph.FlowEdge.{FlowEdge}
use Rattle.flow.specs.declared.flow_graph.FlowFunction.{FlowFunction}
use Rattle.flow.specs.declared.flow_graph.Standing.{Standing}
use Rattle.flow.specs.declared.flow_graph.Width.{Width}
use Rattle.flow.specs.Holding.{Held, Owned, width, held_by, size_of, put, emptied, block_of, left}
use Rattle.flow.specs.Machine.{Frame, Caller, State, Outcome, Went, Barred, Faulted, execute, step_along, given, unless_fault, if_computed, with_new_block, with_variable, with_memory, with_registers, with_value, without_registers, with_parameters, with_arguments, size_in, size_after, at, or_else, addressed, allocated, allocated_none, received, called, returned, result_of, with_result, number_in, after_scope, without_variables, without_block}
use Rattle.flow.specs.Keeping.{IsStateOf}
use Rattle.flow.specs.Runs.{parameters_of}
use Rattle.flow.specs.Standing.{sized, arguments_asked, stands_as_asked, is_asked_size, stands_at, result_size}
use Rattle.flow.specs.Valid.{IsFlow, has_sizes, is_scalar_size, is_local, is_parameter, are_distinct, reads_what_stands, calls_rightly, takes_result}
use Rattle.flow.specs.Memories.{LeadsBelow, HasOffset, HasBlock, IsFrameOf, HasMemory, DoStepsKeepMemory}
use Rattle.flow.proofs.Ascending.{All-at}
use Rattle.flow.proofs.Frames.{size_of-held}
use Rattle.flow.proofs.Outcomes.{Leaves, left_state, Leaves-given, Leaves-if, Leaves-unless_lost}
use Rattle.flow.proofs.MemoryWords.{IsRight, Became, became_same, became_then, reached, without_right, moved_leads, loaded_leads, bytes_keep_offsets}
use Rattle.flow.proofs.MemoryLaws.{owned_larger, held_larger, frame_larger, right_of, moves, put_leads, emptied_leads, held_leads, block_of_has, block_below, Leaves-no_fault, Leaves-computed, Leaves-test, leaves_new_block, with_variable_has, enters_keep, store_right, scalar_small, range_right, copy_reaches}

-- a state with other registers, and a memory that its own became
goes_on : (flow : Flow) (to : ℕ) (state : State) (registers : List Held) (memory : List Block) → HasMemory flow state → Became state.memory memory →
    All (λ held. LeadsBelow (length memory) held.word) registers → HasMemory flow (at to (with_memory memory (with_registers registers state)))
goes_on flow to state registers memory is became all = moves flow to state memory (record state.frame { registers = registers }) is became (record {
  variables = owned_larger flow state.memory memory state.frame.variables became.larger is.frame.variables;
  registers = all;
})

same_memory : (flow : Flow) (state : State) → HasMemory flow state → Became state.memory state.memory
same_memory flow state is = became_same state.memory (right_of flow state is)

gets : (flow : Flow) (to : ℕ) (state : State) (new : Held) (gone : List ℕ) → HasMemory flow state → LeadsBelow (length state.memory) new.word →
    HasMemory flow (at to (with_registers (put new (emptied gone state.frame.registers)) state))
gets flow to state new gone is leads = goes_on flow to state (put new (emptied gone state.frame.registers)) state.memory is (same_memory flow state is)
    (put_leads (length state.memory) new (emptied gone state.frame.registers) leads (emptied_leads (length state.memory) gone state.frame.registers is.frame.registers))

gets_more : (flow : Flow) (to : ℕ) (state : State) (new : Held) → HasMemory flow state → LeadsBelow (length state.memory) new.word →
    HasMemory flow (at to (with_registers (put new state.frame.registers) state))
gets_more flow to state new is leads = goes_on flow to state (put new state.frame.registers) state.memory is (same_memory flow state is)
    (put_leads (length state.memory) new state.frame.registers leads is.frame.registers)

lets_go : (flow : Flow) (to : ℕ) (state : State) (gone : List ℕ) (memory : List Block) → HasMemory flow state → Became state.memory memory →
    HasMemory flow (at to (with_memory memory (without_registers gone state)))
lets_go flow to state gone memory is became = goes_on flow to state (emptied gone state.frame.registers) memory is became
    (held_larger state.memory memory (emptied gone state.frame.registers) became.larger (emptied_leads (length state.memory) gone state.frame.registers is.frame.registers))

-- variables are left
without_variables_right : (owned : List Owned) (variables : List ℕ) (memory : List Block) → IsRight memory → Became memory (without_variables owned variables memory)
without_variables_right owned [] memory right = became_same memory right
without_variables_right owned (variable ∷ rest) memory right =
    let first : Became memory (without_block (block_of owned variable) memory) = by_block (block_of owned variable) in
    became_then memory (without_block (block_of owned variable) memory) (without_variables owned rest (without_block (block_of owned variable) memory)) first
    (without_variables_right owned rest (without_block (block_of owned variable) memory) first.right)
  where
    by_block : (found : Option ℕ) → Became memory (without_block found memory)
    by_block None = became_same memory right
    by_block (Some block) = without_right memory block right

freed_right : (memory : List Block) (at : Word) → IsRight memory → Became memory (freed memory at)
freed_right memory (Plain number) right = became_same memory right
freed_right memory (To block offset) right = without_right memory block right

-- arguments have the sizes of the parameters, which are those of scalars
abbrev FitParameters : Flow → List ℕ → List Held → Type 0
FitParameters flow [] held = Unit {0}
FitParameters flow (variable ∷ rest) [] = Unit {0}
FitParameters flow (variable ∷ rest) (first ∷ held) = (first.size ≡ size_in flow variable) × (size_in flow variable ≤ 8) × FitParameters flow rest held

parameters_keep : (flow : Flow) (variables : List ℕ) (arguments : List Held) (state : State) (choices : List Choice) → FitParameters flow variables arguments →
    All (λ held. LeadsBelow (length state.memory) held.word) arguments → HasMemory flow state → Leaves (with_parameters flow variables arguments state choices) (HasMemory flow)
parameters_keep flow [] arguments state choices fit all is = is
parameters_keep flow (variable ∷ rest) [] state choices fit all is = tt
parameters_keep flow (variable ∷ rest) (argument ∷ arguments) state choices fit all is =
    leaves_new_block (HasMemory flow) storage.Local (size_in flow variable) false state choices
    (λ after block more. with_parameters flow rest arguments
    (with_memory (stored after.memory (To block (pos 0)) argument.size argument.word) (with_variable variable block after)) more) (right_of flow state is)
    (λ memory made more became stands size live.
    let entered_at : State = with_variable variable (length state.memory) (with_memory memory state) in
    let has : HasMemory flow entered_at = with_variable_has flow variable state memory made is became stands size in
    let below = held_larger state.memory memory (argument ∷ arguments) became.larger all in
    let written : List Block = stored memory (To (length state.memory) (pos 0)) argument.size argument.word in
    let same : argument.size ≡ size_in flow variable = fit.0 in
    let becomes : Became memory written =
    store_right memory (To (length state.memory) (pos 0)) argument.size argument.word became.right (omega (arith, fit.1))
    (record { number = length state.memory; from = 0; block = made; is = refl; stands = stands; room = omega (arith, same, size) })
    (All-head (λ held. LeadsBelow (length memory) held.word) argument arguments below) in
    parameters_keep flow rest arguments (with_memory written entered_at) more fit.2
    (held_larger memory written arguments becomes.larger (All-tail (λ held. LeadsBelow (length memory) held.word) argument arguments below))
    (moves flow entered_at.point entered_at written entered_at.frame has becomes (frame_larger flow memory written entered_at.frame becomes.larger has.frame)))

arguments_keep : (flow : Flow) (count : ℕ) (registers : List Held) (arguments variables : List ℕ) (widths : List Width) (onward : List Held → Outcome) (P : State → Type 0) →
    map width registers ≡ widths → list_all (stands_as_asked widths) (arguments_asked flow arguments variables) ≡ true → length arguments ≡ length variables →
    list_all (is_parameter flow) variables ≡ true → All (λ held. LeadsBelow count held.word) registers →
    ((held : List Held) → FitParameters flow variables held → All (λ held. LeadsBelow count held.word) held → Leaves (onward held) P) →
    Leaves (with_arguments registers arguments onward) P
arguments_keep flow count registers [] variables widths onward P same asked long scalars all each = each [] (none variables) (All-nil (λ held. LeadsBelow count held.word))
  where
    none : (variables : List ℕ) → FitParameters flow variables []
    none [] = tt
    none (variable ∷ rest) = tt
arguments_keep flow count registers (first ∷ rest) [] widths onward P same asked long scalars all each = absurd (omega arith)
arguments_keep flow count registers (first ∷ rest) (variable ∷ variables) widths onward P same asked long scalars all each =
    Leaves-given (held_by registers first) (λ held. with_arguments registers rest (λ more. onward (held ∷ more))) P
    (λ held found. arguments_keep flow count registers rest variables widths (λ more. onward (held ∷ more)) P same both.1 (omega arith) (parts.1) all
    (λ more fit below. each (held ∷ more) (size held found, small, fit)
    (All-cons (λ held. LeadsBelow count held.word) held more (held_leads count registers first held all found) below)))
  where
    both : (stands_as_asked widths (sized (size_in flow variable) first) ≡ true) × (list_all (stands_as_asked widths) (arguments_asked flow rest variables) ≡ true)
    both = and_parts (stands_as_asked widths (sized (size_in flow variable) first)) (list_all (stands_as_asked widths) (arguments_asked flow rest variables)) asked

    parts : (is_parameter flow variable ≡ true) × (list_all (is_parameter flow) variables ≡ true)
    parts = and_parts (is_parameter flow variable) (list_all (is_parameter flow) variables) scalars

    small : size_in flow variable ≤ 8
    small = scalar_small (size_in flow variable) (and_parts (is_local flow variable) (is_scalar_size (size_in flow variable)) parts.0).1

    size : (held : Held) → held_by registers first ≡ Some held → held.size ≡ size_in flow variable
    size held found =
        let is : size_of widths first ≡ Some held.size =
        ap (λ (widths : List Width). size_of widths first) (sym same) ∙ (size_of-held registers first ∙ ap (λ (found : Option Held). option_map (λ one. one.size) found) found) in
        let test : option_map_or (is_asked_size (Some (size_in flow variable))) (Some held.size) false ≡ true =
        subst (λ (found : Option ℕ). option_map_or (is_asked_size (Some (size_in flow variable))) found false ≡ true) is both.0 in
        sym (eqb-true (size_in flow variable) held.size test)

pub call_keeps : (flow : Flow) (number : ℕ) (found : Option FlowFunction) (arguments : List ℕ) (into : Option ℕ) (onward : ℕ) (widths : List Width) (state : State) (choices : List Choice) → IsFlow flow →
    slice_get flow.functions number ≡ found → map width state.frame.registers ≡ widths → list_all (stands_as_asked widths) (arguments_asked flow arguments (parameters_of flow number)) ≡ true →
    length arguments ≡ length (parameters_of flow number) → HasMemory flow state → Leaves (called flow found arguments into onward state choices) (HasMemory flow)
call_keeps flow number None arguments into onward widths state choices valid stands same asked long is = tt
call_keeps flow number (Some function) arguments into onward widths state choices valid stands same asked long is =
    arguments_keep flow (length state.memory) state.frame.registers arguments function.parameters widths (λ held. with_parameters flow function.parameters held (record state {
      point = function.entry;
      frame = record { variables = []; registers = [] };
      callers = record { frame = record state.frame { registers = emptied arguments state.frame.registers }; point = onward; into = into } ∷ state.callers;
    }) choices) (HasMemory flow) same
    (subst (λ (variables : List ℕ). list_all (stands_as_asked widths) (arguments_asked flow arguments variables) ≡ true) parameters asked)
    (long ∙ ap length parameters) scalars is.frame.registers
    (λ held fit below. parameters_keep flow function.parameters held (record state {
      point = function.entry;
      frame = record { variables = []; registers = [] };
      callers = record { frame = record state.frame { registers = emptied arguments state.frame.registers }; point = onward; into = into } ∷ state.callers;
    }) choices fit below entered_has)
  where
    parameters : parameters_of flow number ≡ function.parameters
    parameters = ap (λ (found : Option FlowFunction). option_map_or (λ found. found.parameters) found []) stands

    scalars : list_all (is_parameter flow) function.parameters ≡ true
    scalars = (and_parts (are_distinct function.parameters) (list_all (is_parameter flow) function.parameters)
        (All-at (λ function. IsTrue (are_distinct function.parameters && list_all (is_parameter flow) function.parameters)) flow.functions number function stands valid.parameters)).1

    entered_has : HasMemory flow (record state {
      point = function.entry;
      frame = record { variables = []; registers = [] };
      callers = record { frame = record state.frame { registers = emptied arguments state.frame.registers }; point = onward; into = into } ∷ state.callers;
    })
    entered_has = record {
      memory = is.memory;
      offsets = is.offsets;
      frame = record { variables = All-nil (HasBlock flow state.memory); registers = All-nil (λ held. LeadsBelow (length state.memory) held.word) };
      callers = All-cons (λ caller. IsFrameOf flow state.memory caller.frame) (record { frame = record state.frame { registers = emptied arguments state.frame.registers }; point = onward; into = into }) state.callers
          (record { variables = is.frame.variables; registers = emptied_leads (length state.memory) arguments state.frame.registers is.frame.registers }) is.callers;
      statics = is.statics;
      fixed = is.fixed;
      outer = is.outer;
    }

-- what a return hands over
result_leads : (count : ℕ) (from : Option ℕ) (registers : List Held) (into : Option ℕ) (frame : Frame) → All (λ held. LeadsBelow count held.word) registers →
    All (λ held. LeadsBelow count held.word) frame.registers → All (λ held. LeadsBelow count held.word) (with_result (result_of from registers) into frame).registers
result_leads count from registers into frame all below = by_result (result_of from registers) refl into
  where
    held_result : (from : Option ℕ) (held : Held) → result_of from registers ≡ Some held → LeadsBelow count held.word
    held_result None held is = absurd (none-some held is)
    held_result (Some register) held is = held_leads count registers register held all is

    by_result : (result : Option Held) → result_of from registers ≡ result → (into : Option ℕ) → All (λ held. LeadsBelow count held.word) (with_result result into frame).registers
    by_result (Some held) is (Some into) = put_leads count (record { register = into; size = held.size; word = held.word }) frame.registers (held_result from held is) below
    by_result (Some held) is None = below
    by_result None is into = below

result_variables : (flow : Flow) (memory : List Block) (result : Option Held) (into : Option ℕ) (frame : Frame) → All (HasBlock flow memory) frame.variables →
    All (HasBlock flow memory) (with_result result into frame).variables
result_variables flow memory (Some held) (Some into) frame all = all
result_variables flow memory (Some held) None frame all = all
result_variables flow memory None into frame all = all

bytes_at_most : (memory : List Block) (at : Word) (count : ℕ) → length (bytes_at memory at count) ≤ count
bytes_at_most memory (Plain number) count = omega arith
bytes_at_most memory (To block offset) count = by_block (slice_get memory block) offset
  where
    by_block : (found : Option Block) (offset : ℤ) → length (block_bytes found offset count) ≤ count
    by_block None offset = omega arith
    by_block (Some one) (negsuc before) = omega arith
    by_block (Some one) (pos from) = omega (arith, length-take count (drop from one.bytes))

-- each instruction
pub instr_keeps : (flow : Flow) (instr : Instr) (to : ℕ) (place : Place) (state : State) (choices : List Choice) (standing : Standing) → IsFlow flow → has_sizes instr ≡ true →
    reads_what_stands flow standing instr ≡ true → calls_rightly flow instr ≡ true → map width state.frame.registers ≡ standing.registers → HasMemory flow state →
    Leaves (execute flow instr to place state choices) (HasMemory flow)
instr_keeps flow (Number into number size) to place state choices standing valid sizes reads calls same is =
    gets_more flow to state (record { register = into; size = size; word = Plain number }) is tt
instr_keeps flow (Address into variable) to place state choices standing valid sizes reads calls same is = by_frame (block_of state.frame.variables variable) refl
  where
    addresses : (block : ℕ) → HasBlock flow state.memory (record { variable = variable; block = block }) → HasMemory flow (at to (with_value into 8 (To block (pos 0)) state))
    addresses block has = gets_more flow to state (record { register = into; size = 8; word = To block (pos 0) }) is
        (block_below flow state.memory (record { variable = variable; block = block }) has, omega arith)

    by_static : (found : Option ℕ) → block_of state.statics variable ≡ found → Leaves (addressed found into (at to state) choices) (HasMemory flow)
    by_static None there = tt
    by_static (Some block) there = addresses block (block_of_has flow state.memory state.statics variable block is.statics there)

    by_frame : (found : Option ℕ) → block_of state.frame.variables variable ≡ found → Leaves (addressed (or_else found (block_of state.statics variable)) into (at to state) choices) (HasMemory flow)
    by_frame None there = by_static (block_of state.statics variable) refl
    by_frame (Some block) there = addresses block (block_of_has flow state.memory state.frame.variables variable block is.frame.variables there)
instr_keeps flow (Move into from) to place state choices standing valid sizes reads calls same is =
    Leaves-given (held_by state.frame.registers from) (λ held. Went (at to (with_value into held.size held.word state)) choices) (HasMemory flow)
    (λ held found. gets_more flow to state (record { register = into; size = held.size; word = held.word }) is (held_leads (length state.memory) state.frame.registers from held is.frame.registers found))
instr_keeps flow (Read into address size pointer) to place state choices standing valid sizes reads calls same is =
    let next : Held → State = λ held. at to (with_value into size (loaded state.memory held.word size pointer) (without_registers (address ∷ []) state)) in
    Leaves-given (held_by state.frame.registers address) (λ held. unless_fault (access_fault state.memory held.word size) place (Went (next held) choices)) (HasMemory flow)
    (λ held found. Leaves-no_fault (access_fault state.memory held.word size) place (Went (next held) choices) (HasMemory flow)
    (λ none. gets flow to state (record { register = into; size = size; word = loaded state.memory held.word size pointer }) (address ∷ []) is
    (loaded_leads state.memory held.word size pointer (right_of flow state is))))
instr_keeps flow (Write address from size) to place state choices standing valid sizes reads calls same is =
    let next : Held → Held → State = λ held written. at to (with_memory (stored state.memory held.word size written.word) (without_registers (address ∷ from ∷ []) state)) in
    Leaves-given (held_by state.frame.registers address)
    (λ held. given (held_by state.frame.registers from) (λ written. unless_fault (access_fault state.memory held.word size) place (Went (next held written) choices))) (HasMemory flow)
    (λ held found. Leaves-given (held_by state.frame.registers from) (λ written. unless_fault (access_fault state.memory held.word size) place (Went (next held written) choices)) (HasMemory flow)
    (λ written found'. Leaves-no_fault (access_fault state.memory held.word size) place (Went (next held written) choices) (HasMemory flow)
    (λ none. lets_go flow to state (address ∷ from ∷ []) (stored state.memory held.word size written.word) is
    (store_right state.memory held.word size written.word (right_of flow state is) (scalar_small size sizes) (reached state.memory held.word size ((accessible state.memory held.word size).0 none))
    (held_leads (length state.memory) state.frame.registers from written is.frame.registers found')))))
instr_keeps flow (Shift into address by) to place state choices standing valid sizes reads calls same is =
    Leaves-given (held_by state.frame.registers address) (λ held. Went (at to (with_value into 8 (moved held.word by) (without_registers (address ∷ []) state))) choices) (HasMemory flow)
    (λ held found. gets flow to state (record { register = into; size = 8; word = moved held.word by }) (address ∷ []) is
    (moved_leads (length state.memory) held.word by (held_leads (length state.memory) state.frame.registers address held is.frame.registers found)))
instr_keeps flow (ShiftBy into address by scale) to place state choices standing valid sizes reads calls same is =
    let word : Held → Held → Word = λ held number. moved held.word (value 8 true (number_in state.memory number) *ℤ scale) in
    let onward : Held → Held → Outcome = λ held number. Went (at to (with_value into 8 (word held number) (without_registers (address ∷ by ∷ []) state))) choices in
    Leaves-given (held_by state.frame.registers address) (λ held. given (held_by state.frame.registers by) (onward held)) (HasMemory flow)
    (λ held found. Leaves-given (held_by state.frame.registers by) (onward held) (HasMemory flow)
    (λ number found'. gets flow to state (record { register = into; size = 8; word = word held number }) (address ∷ by ∷ []) is
    (moved_leads (length state.memory) held.word (value 8 true (number_in state.memory number) *ℤ scale)
    (held_leads (length state.memory) state.frame.registers address held is.frame.registers found))))
instr_keeps flow (Compute into op one other size signed) to place state choices standing valid sizes reads calls same is =
    let next : ℕ → Outcome = λ number. Went (at to (with_value into (size_after op size) (Plain number) (without_registers (one ∷ other ∷ []) state))) choices in
    let onward : Held → Held → Outcome = λ held second. if_computed (computed op size signed (number_in state.memory held) (number_in state.memory second)) next in
    Leaves-given (held_by state.frame.registers one) (λ held. given (held_by state.frame.registers other) (onward held)) (HasMemory flow)
    (λ held found. Leaves-given (held_by state.frame.registers other) (onward held) (HasMemory flow)
    (λ second found'. Leaves-computed (computed op size signed (number_in state.memory held) (number_in state.memory second)) next (HasMemory flow)
    (λ number. gets flow to state (record { register = into; size = size_after op size; word = Plain number }) (one ∷ other ∷ []) is tt)))
instr_keeps flow (Convert into from size signed) to place state choices standing valid sizes reads calls same is =
    let word : Held → Word = λ held. Plain (converted held.size signed size (number_in state.memory held)) in
    Leaves-given (held_by state.frame.registers from) (λ held. Went (at to (with_value into size (word held) (without_registers (from ∷ []) state))) choices) (HasMemory flow)
    (λ held found. gets flow to state (record { register = into; size = size; word = word held }) (from ∷ []) is tt)
instr_keeps flow (IfSame one other) to place state choices standing valid sizes reads calls same is =
    let passes : Outcome = Went (at to (without_registers (one ∷ other ∷ []) state)) choices in
    let onward : Held → Held → Outcome = λ held second. if is_same_address state.memory held.word second.word then passes else Barred in
    Leaves-given (held_by state.frame.registers one) (λ held. given (held_by state.frame.registers other) (onward held)) (HasMemory flow)
    (λ held found. Leaves-given (held_by state.frame.registers other) (onward held) (HasMemory flow)
    (λ second found'. Leaves-if (is_same_address state.memory held.word second.word) passes Barred (HasMemory flow)
    (lets_go flow to state (one ∷ other ∷ []) state.memory is (same_memory flow state is)) tt))
instr_keeps flow (IfDifferent one other) to place state choices standing valid sizes reads calls same is =
    let passes : Outcome = Went (at to (without_registers (one ∷ other ∷ []) state)) choices in
    let onward : Held → Held → Outcome = λ held second. if is_same_address state.memory held.word second.word then Barred else passes in
    Leaves-given (held_by state.frame.registers one) (λ held. given (held_by state.frame.registers other) (onward held)) (HasMemory flow)
    (λ held found. Leaves-given (held_by state.frame.registers other) (onward held) (HasMemory flow)
    (λ second found'. Leaves-if (is_same_address state.memory held.word second.word) Barred passes (HasMemory flow) tt
    (lets_go flow to state (one ∷ other ∷ []) state.memory is (same_memory flow state is))))
instr_keeps flow (Allocate into bytes zeroed) to place state choices standing valid sizes reads calls same is = by_choice choices
  where
    makes : (choices : List Choice) → Leaves (with_new_block storage.Heap bytes zeroed (at to state) choices
        (λ after block more. Went (with_value into 8 (To block (pos 0)) after) more)) (HasMemory flow)
    makes choices = leaves_new_block (HasMemory flow) storage.Heap bytes zeroed (at to state) choices (λ after block more. Went (with_value into 8 (To block (pos 0)) after) more) (right_of flow state is)
        (λ memory made more became stands size live.
        goes_on flow to state (put (record { register = into; size = 8; word = To (length state.memory) (pos 0) }) state.frame.registers) memory is became
        (put_leads (length memory) (record { register = into; size = 8; word = To (length state.memory) (pos 0) }) state.frame.registers
        (slice_get_within memory (length state.memory) made stands, omega arith)
        (held_larger state.memory memory state.frame.registers became.larger is.frame.registers)))

    by_choice : (choices : List Choice) → Leaves (allocated into bytes zeroed (at to state) choices) (HasMemory flow)
    by_choice [] = tt
    by_choice (NoBlock ∷ rest) = tt
    by_choice (NewBlock base contents ∷ rest) = makes (NewBlock base contents ∷ rest)
    by_choice (GivenInput number ∷ rest) = tt
instr_keeps flow (AllocateNone into) to place state choices standing valid sizes reads calls same is = by_choice choices
  where
    by_choice : (choices : List Choice) → Leaves (allocated_none into (at to state) choices) (HasMemory flow)
    by_choice [] = tt
    by_choice (NoBlock ∷ rest) = gets_more flow to state (record { register = into; size = 8; word = Plain 0 }) is tt
    by_choice (NewBlock base contents ∷ rest) = tt
    by_choice (GivenInput number ∷ rest) = tt
instr_keeps flow (Release address) to place state choices standing valid sizes reads calls same is =
    let next : Held → State = λ held. at to (with_memory (freed state.memory held.word) (without_registers (address ∷ []) state)) in
    Leaves-given (held_by state.frame.registers address) (λ held. unless_fault (free_fault state.memory held.word) place (Went (next held) choices)) (HasMemory flow)
    (λ held found. Leaves-no_fault (free_fault state.memory held.word) place (Went (next held) choices) (HasMemory flow)
    (λ none. lets_go flow to state (address ∷ []) (freed state.memory held.word) is (freed_right state.memory held.word (right_of flow state is))))
instr_keeps flow (Fill address from count) to place state choices standing valid sizes reads calls same is =
    let memory : Held → Held → List Block = λ held second. filled state.memory held.word (number_in state.memory second % 256) count in
    let onward : Held → Held → Outcome = λ held second. unless_fault (range_fault state.memory held.word count) place
    (Went (at to (with_memory (memory held second) (without_registers (address ∷ from ∷ []) state))) choices) in
    Leaves-given (held_by state.frame.registers address) (λ held. given (held_by state.frame.registers from) (onward held)) (HasMemory flow)
    (λ held found. Leaves-given (held_by state.frame.registers from) (onward held) (HasMemory flow)
    (λ second found'. Leaves-no_fault (range_fault state.memory held.word count) place
    (Went (at to (with_memory (memory held second) (without_registers (address ∷ from ∷ []) state))) choices) (HasMemory flow)
    (λ none. lets_go flow to state (address ∷ from ∷ []) (memory held second) is
    (range_right state.memory held.word count (replicate count (Num (number_in state.memory second % 256))) (right_of flow state is) none
    (omega (arith, length-replicate count (Num (number_in state.memory second % 256))))
    (All-replicate (NamesBelow (length state.memory)) count (Num (number_in state.memory second % 256)) tt)
    (All-replicate HasOffset count (Num (number_in state.memory second % 256)) tt)))))
instr_keeps flow (Copy target from count disjoint) to place state choices standing valid sizes reads calls same is =
    let memory : Held → Held → List Block = λ held second. copied state.memory held.word second.word count in
    let onward : Held → Held → Outcome = λ held second. unless_fault (copy_fault state.memory held.word second.word count disjoint) place
    (Went (at to (with_memory (memory held second) (without_registers (target ∷ from ∷ []) state))) choices) in
    Leaves-given (held_by state.frame.registers target) (λ held. given (held_by state.frame.registers from) (onward held)) (HasMemory flow)
    (λ held found. Leaves-given (held_by state.frame.registers from) (onward held) (HasMemory flow)
    (λ second found'. Leaves-no_fault (copy_fault state.memory held.word second.word count disjoint) place
    (Went (at to (with_memory (memory held second) (without_registers (target ∷ from ∷ []) state))) choices) (HasMemory flow)
    (λ none. lets_go flow to state (target ∷ from ∷ []) (memory held second) is
    (range_right state.memory held.word count (bytes_at state.memory second.word count) (right_of flow state is)
    (copy_reaches state.memory held.word second.word count disjoint none) (bytes_at_most state.memory second.word count)
    (names_of_bytes state.memory second.word count is.memory) (bytes_keep_offsets state.memory second.word count (right_of flow state is))))))
instr_keeps flow (Enter variables) to place state choices standing valid sizes reads calls same is =
    enters_keep flow variables (at to state) choices (moves flow to state state.memory state.frame is (same_memory flow state is) is.frame)
instr_keeps flow (Leave variables) to place state choices standing valid sizes reads calls same is =
    let memory : List Block = without_variables state.frame.variables variables state.memory in
    let became : Became state.memory memory = without_variables_right state.frame.variables variables state.memory (right_of flow state is) in
    Leaves-unless_lost place (at to (after_scope variables state)) choices (HasMemory flow)
    (moves flow to state memory (record state.frame { variables = left variables state.frame.variables }) is became (record {
      variables = All-filter (λ one. not (list_any (nat_eq one.variable) variables)) (HasBlock flow memory) state.frame.variables
          (owned_larger flow state.memory memory state.frame.variables became.larger is.frame.variables);
      registers = held_larger state.memory memory state.frame.registers became.larger is.frame.registers;
    }))
instr_keeps flow (Finish registers) to place state choices standing valid sizes reads calls same is =
    Leaves-unless_lost place (at to (without_registers registers state)) choices (HasMemory flow) (lets_go flow to state registers state.memory is (same_memory flow state is))
instr_keeps flow (Input into size signed truth) to place state choices standing valid sizes reads calls same is = by_choice choices
  where
    by_choice : (choices : List Choice) → Leaves (received into size truth (at to state) choices) (HasMemory flow)
    by_choice [] = tt
    by_choice (NoBlock ∷ rest) = tt
    by_choice (NewBlock base contents ∷ rest) = tt
    by_choice (GivenInput number ∷ rest) =
        Leaves-test (nat_lt number (if truth then 2 else 256 ^ size)) (Went (with_value into size (Plain number) (at to state)) rest) (HasMemory flow)
        (λ passes. gets_more flow to state (record { register = into; size = size; word = Plain number }) is tt)
instr_keeps flow (Call function arguments into) to place state choices standing valid sizes reads calls same is =
    call_keeps flow function (slice_get flow.functions function) arguments into to standing.registers state choices valid refl same reads
    (eqb-true (length arguments) (length (parameters_of flow function))
    (and_parts (nat_eq (length arguments) (length (parameters_of flow function))) (takes_result into (result_size flow function)) calls).0) is
instr_keeps flow (Return from) to place state choices standing valid sizes reads calls same is = by_callers state.callers is.callers
  where
    by_callers : (callers : List Caller) → All (λ caller. IsFrameOf flow state.memory caller.frame) callers →
        Leaves (returned (result_of from state.frame.registers) callers state choices) (HasMemory flow)
    by_callers [] all = tt
    by_callers (caller ∷ callers) all =
        let first : IsFrameOf flow state.memory caller.frame = All-head (λ caller. IsFrameOf flow state.memory caller.frame) caller callers all in record {
          memory = is.memory;
          offsets = is.offsets;
          frame = record {
            variables = result_variables flow state.memory (result_of from state.frame.registers) caller.into caller.frame first.variables;
            registers = result_leads (length state.memory) from state.frame.registers caller.into caller.frame is.frame.registers first.registers;
          };
          callers = All-tail (λ caller. IsFrameOf flow state.memory caller.frame) caller callers all;
          statics = is.statics;
          fixed = is.fixed;
          outer = is.outer;
        }
instr_keeps flow Close to place state choices standing valid sizes reads calls same is =
    Leaves-if (is_lost state.memory []) (Faulted block_never_freed place) (Went (at to state) choices) (HasMemory flow) tt
    (moves flow to state state.memory state.frame is (same_memory flow state is) is.frame)

pub along_keeps : (flow : Flow) (edge : FlowEdge) (state : State) (choices : List Choice) → IsFlow flow → Contains flow.edges edge → IsStateOf flow state → HasMemory flow state →
    Leaves (step_along flow edge state choices) (HasMemory flow)
along_keeps flow edge state choices valid stands of is = by_point (nat_eq edge.from state.point) refl
  where
    by_point : (here : Bool) → nat_eq edge.from state.point ≡ here → Leaves (if here then execute flow edge.instr edge.to edge.place state choices else Barred) (HasMemory flow)
    by_point true here = instr_keeps flow edge.instr edge.to edge.place state choices (stands_at flow edge.from) valid
        (All-contains (λ one. IsTrue (has_sizes one.instr)) flow.edges edge valid.sizes stands)
        (All-contains (λ one. IsTrue (reads_what_stands flow (stands_at flow one.from) one.instr)) flow.edges edge valid.reads stands)
        (All-contains (λ one. IsTrue (calls_rightly flow one.instr)) flow.edges edge valid.calls stands)
        (of.frame.registers ∙ ap (λ (point : ℕ). (stands_at flow point).registers) (sym (eqb-true edge.from state.point here))) is
    by_point false here = tt

pub steps_keep_memory : DoStepsKeepMemory
steps_keep_memory flow edge state next choices rest valid stands of is goes =
    left_state (step_along flow edge state choices) (HasMemory flow) next rest (along_keeps flow edge state choices valid stands of is) goes
