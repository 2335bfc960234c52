-- A step keeps values within their sizes.
use Rattle.std.proofs.Common.{◌≡◌, ℕ, zero, suc, ◌+◌, ◌%◌, ◌^◌, ◌<◌, List, [], ◌∷◌, map, length, take, replicate, Bool, true, false, refl, ap, subst, ◌∙◌, inl, inr, Option, None, Some, arith}
use Rattle.std.specs.Prelude.{pos, ◌*ℤ◌, ◌&&◌, ◌||◌, not, if◌then◌else◌, nat_eq, nat_lt, slice_get, IsTrue, All, Contains, IfSome}
use Rattle.std.specs.List.{list_all, list_any}
use Rattle.std.specs.Option.{option_map_or}
use Rattle.std.proofs.Math.Nat.{mod-lt}
use Rattle.std.proofs.lemmas.Bool.{eqb-true, ltb-true, and_parts, false≢true}
use Rattle.std.proofs.lemmas.List.Elements.{All-nil, All-cons, All-head, All-tail, All-take, All-push, All-set, All-filter, All-replicate, All-contains}
use Rattle.std.proofs.lemmas.Option.{same_Some, none-some}
use Rattle.cbase.specs.declared.place.Place.{Place}
use Rattle.arithmetic.specs.declared.op.Op.{Op}
use Rattle.arithmetic.specs.declared.op.Op.TheVariants.{Add, Sub, Mul, Div, Rem, And, Or, Xor, Left, Right, Less, LessEqual}
use Rattle.arithmetic.specs.declared.size.Size.{Size}
use Rattle.arithmetic.specs.declared.size.Size.TheVariants.{One, Two, Four, Eight}
use Rattle.arithmetic.specs.Size.{bytes as size_bytes}
use Rattle.arithmetic.specs.Value.{modulus, value}
use Rattle.arithmetic.specs.Conversion.{converted}
use Rattle.arithmetic.specs.Computing.{computed}
use Rattle.arithmetic.specs.Comparing.{is_less, is_less_equal, answer}
use Rattle.arithmetic.proofs.Inverse.{bits_small}
use Rattle.arithmetic.proofs.Quotients.{computed_small}
use Rattle.bytes_core.specs.declared.byte.Byte.TheVariants.{Num}
use Rattle.bytes_core.specs.declared.word.Word.{Word}
use Rattle.bytes_core.specs.declared.word.Word.TheVariants.{Plain, To}
use Rattle.bytes_core.specs.declared.block.BlockKind.{BlockKind}
use Rattle.bytes_core.specs.declared.block.BlockKind.TheVariants as storage
use Rattle.bytes_core.specs.declared.block.Block.{Block}
use Rattle.bytes_core.specs.Value.{word_bytes, moved, is_same_address}
use Rattle.bytes_core.specs.Placement.{new_block, is_new_block, placed, can_be_placed}
use Rattle.bytes_core.specs.Access.{access_fault, range_fault, bytes_at, loaded, stored, filled}
use Rattle.bytes_core.specs.Copying.{copy_fault, copied}
use Rattle.bytes_core.specs.Release.{free_fault, freed, without}
use Rattle.bytes_core.specs.Loss.{is_lost}
use Rattle.bytes_core.specs.Fault.{block_never_freed}
use Rattle.flow.specs.declared.instruction.Instr.{Instr}
use Rattle.flow.specs.declared.instruction.Instr.TheVariants.{Number, Address, Move, Read, Write, Shift, ShiftBy, Compute, Convert, IfSame, IfDifferent, Allocate, AllocateNone, Release, Fill, Copy, Enter, Leave, Finish, Input, Call, Return, Close}
use Rattle.flow.specs.declared.flow_graph.Flow.{Flow}
use Rattle.flow.specs.declared.flow_graph.FlowEdge.{FlowEdge}
use Rattle.flow.specs.declared.flow_graph.FlowFunction.{FlowFunction}
use Rattle.flow.specs.declared.flow_graph.Variable.{Variable}
use Rattle.flow.specs.declared.flow_graph.Initial.{Initial}
use Rattle.flow.specs.Holding.{Held, Owned, held_by, put, put_owned, emptied, block_of}
use Rattle.choices.specs.declared.choice.Choice.{Choice}
use Rattle.choices.specs.declared.choice.Choice.TheVariants.{None as NoBlock, Block as NewBlock, Input as GivenInput}
use Rattle.flow.specs.Machine.{Frame, Caller, State, Outcome, Went, Barred, Waits, Ended, Faulted, execute, step_along, given, unless_fault, if_computed, with_new_block, step, step_among, unless_barred, with_variable, with_memory, with_registers, with_value, without_registers, entered, with_parameters, with_arguments, size_in, size_after, at, block_here, addressed, allocated, allocated_none, received, called, returned, result_of, with_result, number_in, after_scope, without_variables, without_block}
use Rattle.flow.specs.InRange.{entry_of}
use Rattle.flow.specs.Runs.{blank, parameters_of, with_statics, with_initial, with_initials, initial_word, start, run, then_go}
use Rattle.flow.specs.Valid.{IsFlow, has_sizes, is_scalar_size, fits_size}
use Rattle.flow.specs.Fitting.{Fits, IsByte, HasFittingValues, DoStepsFit, DoRunsFit}
use Rattle.flow.proofs.Ascending.{All-at, Among, Contains-among}
use Rattle.flow.proofs.Outcomes.{Leaves, left_state, Leaves-then, Leaves-given, Leaves-unless_fault, Leaves-if, Leaves-unless_lost}
use Rattle.flow.proofs.FittingWords.{scalar, loaded_fits, moved_fits, word_bytes_fit, written_fits, bytes_there}

-- registers
put_fits : (new : Held) (registers : List Held) → Fits new → All Fits registers → All Fits (put new registers)
put_fits new [] fits all = All-cons Fits new [] fits (All-nil Fits)
put_fits new (first ∷ rest) fits all = by_order (nat_lt new.register first.register) (nat_eq first.register new.register)
    (put_fits new rest fits (All-tail Fits first rest all))
  where
    by_order : (less same : Bool) → All Fits (put new rest) → All Fits (if less then new ∷ first ∷ rest else (if same then new ∷ rest else first ∷ put new rest))
    by_order true same more = All-cons Fits new (first ∷ rest) fits all
    by_order false true more = All-cons Fits new rest fits (All-tail Fits first rest all)
    by_order false false more = All-cons Fits first (put new rest) (All-head Fits first rest all) more

emptied_fits : (gone : List ℕ) (registers : List Held) → All Fits registers → All Fits (emptied gone registers)
emptied_fits gone registers all = All-filter (λ one. not (list_any (nat_eq one.register) gone)) Fits registers all

held_fits : (registers : List Held) (register : ℕ) (held : Held) → All Fits registers → held_by registers register ≡ Some held → Fits held
held_fits [] register held all is = absurd (none-some held is)
held_fits (first ∷ rest) register held all is = by_test (nat_eq first.register register) is (held_fits rest register held (All-tail Fits first rest all))
  where
    by_test : (here : Bool) → (if here then Some first else held_by rest register) ≡ Some held → (held_by rest register ≡ Some held → Fits held) → Fits held
    by_test true is more = subst Fits (same_Some first held is) (All-head Fits first rest all)
    by_test false is more = more is

-- memories
abbrev AreBytes : List Block → Type 0
AreBytes memory = All (λ block. All IsByte block.bytes) memory

without_fits : (memory : List Block) (number : ℕ) → AreBytes memory → AreBytes (without memory number (slice_get memory number))
without_fits memory number all = by_block (slice_get memory number) refl
  where
    by_block : (found : Option Block) → slice_get memory number ≡ found → AreBytes (without memory number found)
    by_block None stands = all
    by_block (Some block) stands = All-set (λ block. All IsByte block.bytes) memory number (record block { live = false })
        (All-at (λ block. All IsByte block.bytes) memory number block stands all) all

without_variables_fits : (owned : List Owned) (variables : List ℕ) (memory : List Block) → AreBytes memory → AreBytes (without_variables owned variables memory)
without_variables_fits owned [] memory all = all
without_variables_fits owned (variable ∷ rest) memory all =
    without_variables_fits owned rest (without_block (block_of owned variable) memory) (by_block (block_of owned variable))
  where
    by_block : (found : Option ℕ) → AreBytes (without_block found memory)
    by_block None = all
    by_block (Some block) = without_fits memory block all

freed_fits : (memory : List Block) (at : Word) → AreBytes memory → AreBytes (freed memory at)
freed_fits memory (Plain number) all = all
freed_fits memory (To block offset) all = without_fits memory block all

stored_fits : (memory : List Block) (at : Word) (size : ℕ) (word : Word) → AreBytes memory → AreBytes (stored memory at size word)
stored_fits memory at size word all = written_fits memory at (take size (word_bytes word)) all (All-take IsByte size (word_bytes word) (word_bytes_fit word))

contents_fit : (contents : List ℕ) → list_all (λ byte. nat_lt byte 256) contents ≡ true → All IsByte (map Num contents)
contents_fit [] is = All-nil IsByte
contents_fit (first ∷ rest) is =
    let parts = and_parts (nat_lt first 256) (list_all (λ byte. nat_lt byte 256) rest) is in
    All-cons IsByte (Num first) (map Num rest) (ltb-true first 256 parts.0) (contents_fit rest parts.1)

-- a state with other registers and another memory
fitting : (to : ℕ) (state : State) (registers : List Held) (memory : List Block) → HasFittingValues state → All Fits registers → AreBytes memory →
    HasFittingValues (at to (with_memory memory (with_registers registers state)))
fitting to state registers memory is fits all = record { registers = fits; callers = is.callers; memory = all }

-- outcomes, with what led to them
Leaves-no_fault : (fault : Option ℕ) (place : Place) (outcome : Outcome) (P : State → Type 0) → (fault ≡ None → Leaves outcome P) → Leaves (unless_fault fault place outcome) P
Leaves-no_fault None place outcome P leaves = leaves refl
Leaves-no_fault (Some kind) place outcome P leaves = tt

Leaves-computed : (found : Option ℕ) (onward : ℕ → Outcome) (P : State → Type 0) → ((number : ℕ) → found ≡ Some number → Leaves (onward number) P) →
    Leaves (if_computed found onward) P
Leaves-computed None onward P each = tt
Leaves-computed (Some number) onward P each = each number refl

Leaves-test : (test : Bool) (one : Outcome) (P : State → Type 0) → (test ≡ true → Leaves one P) → Leaves (if test then one else Ended) P
Leaves-test true one P leaves = leaves refl
Leaves-test false one P leaves = tt

fits_new_block : (kind : BlockKind) (size : ℕ) (zeroed : Bool) (state : State) (choices : List Choice) (onward : State → ℕ → List Choice → Outcome) →
    HasFittingValues state →
    ((memory : List Block) (rest : List Choice) → AreBytes memory → Leaves (onward (with_memory memory state) (length state.memory) rest) HasFittingValues) →
    Leaves (with_new_block kind size zeroed state choices onward) HasFittingValues
fits_new_block kind size zeroed state [] onward is each = tt
fits_new_block kind size zeroed state (NoBlock ∷ choices) onward is each = tt
fits_new_block kind size zeroed state (GivenInput number ∷ choices) onward is each = tt
fits_new_block kind size zeroed state (NewBlock base contents ∷ choices) onward is each =
    Leaves-test (is_new_block state.memory kind size base contents && (not zeroed || list_all (nat_eq 0) contents))
    (onward (with_memory (placed state.memory (new_block kind base contents)) state) (length state.memory) choices) HasFittingValues
    (λ fits.
    let new = (and_parts (is_new_block state.memory kind size base contents) (not zeroed || list_all (nat_eq 0) contents) fits).0 in
    let rest = (and_parts (nat_eq (length contents) size) (list_all (λ byte. nat_lt byte 256) contents && can_be_placed state.memory (new_block kind base contents)) new).1 in
    let bytes = (and_parts (list_all (λ byte. nat_lt byte 256) contents) (can_be_placed state.memory (new_block kind base contents)) rest).0 in
    each (placed state.memory (new_block kind base contents)) choices
    (All-push (λ block. All IsByte block.bytes) state.memory (new_block kind base contents) is.memory (contents_fit contents bytes)))

fits_entered : (flow : Flow) (variables : List ℕ) (state : State) (choices : List Choice) → HasFittingValues state → Leaves (entered flow variables state choices) HasFittingValues
fits_entered flow [] state choices is = is
fits_entered flow (variable ∷ rest) state choices is =
    fits_new_block storage.Local (size_in flow variable) false state choices
    (λ after block more. entered flow rest (with_variable variable block after) more) is
    (λ memory more all. fits_entered flow rest (with_variable variable (length state.memory) (with_memory memory state)) more
    (record { registers = is.registers; callers = is.callers; memory = all }))

fits_parameters : (flow : Flow) (variables : List ℕ) (arguments : List Held) (state : State) (choices : List Choice) → HasFittingValues state →
    Leaves (with_parameters flow variables arguments state choices) HasFittingValues
fits_parameters flow [] arguments state choices is = is
fits_parameters flow (variable ∷ rest) [] state choices is = tt
fits_parameters flow (variable ∷ rest) (argument ∷ arguments) state choices is =
    fits_new_block storage.Local (size_in flow variable) false state choices
    (λ after block more. with_parameters flow rest arguments
    (with_memory (stored after.memory (To block (pos 0)) argument.size argument.word) (with_variable variable block after)) more) is
    (λ memory more all. fits_parameters flow rest arguments
    (with_memory (stored memory (To (length state.memory) (pos 0)) argument.size argument.word) (with_variable variable (length state.memory) (with_memory memory state))) more
    (record { registers = is.registers; callers = is.callers; memory = stored_fits memory (To (length state.memory) (pos 0)) argument.size argument.word all }))

fits_arguments : (registers : List Held) (arguments : List ℕ) (onward : List Held → Outcome) →
    ((held : List Held) → Leaves (onward held) HasFittingValues) → Leaves (with_arguments registers arguments onward) HasFittingValues
fits_arguments registers [] onward each = each []
fits_arguments registers (first ∷ rest) onward each =
    Leaves-given (held_by registers first) (λ held. with_arguments registers rest (λ more. onward (held ∷ more))) HasFittingValues
    (λ held _. fits_arguments registers rest (λ more. onward (held ∷ more)) (λ more. each (held ∷ more)))

fits_called : (flow : Flow) (found : Option FlowFunction) (arguments : List ℕ) (into : Option ℕ) (onward : ℕ) (state : State) (choices : List Choice) → HasFittingValues state →
    Leaves (called flow found arguments into onward state choices) HasFittingValues
fits_called flow None arguments into onward state choices is = tt
fits_called flow (Some function) arguments into onward state choices is =
    let caller : Caller = record { frame = record state.frame { registers = emptied arguments state.frame.registers }; point = onward; into = into } in
    let entered_at : State = record state { point = function.entry; frame = record { variables = []; registers = [] }; callers = caller ∷ state.callers } in
    fits_arguments state.frame.registers arguments (λ held. with_parameters flow function.parameters held entered_at choices)
    (λ held. fits_parameters flow function.parameters held entered_at choices (record {
      registers = All-nil Fits;
      callers = All-cons (λ caller. All Fits caller.frame.registers) caller state.callers (emptied_fits arguments state.frame.registers is.registers) is.callers;
      memory = is.memory;
    }))

result_fits : (from : Option ℕ) (registers : List Held) (into : Option ℕ) (frame : Frame) → All Fits registers → All Fits frame.registers →
    All Fits (with_result (result_of from registers) into frame).registers
result_fits from registers into frame all fits = by_result (result_of from registers) refl into
  where
    held_result : (from : Option ℕ) (held : Held) → result_of from registers ≡ Some held → Fits held
    held_result None held is = absurd (none-some held is)
    held_result (Some register) held is = held_fits registers register held all is

    by_result : (result : Option Held) → result_of from registers ≡ result → (into : Option ℕ) → All Fits (with_result result into frame).registers
    by_result (Some held) is (Some into) = put_fits (record { register = into; size = held.size; word = held.word }) frame.registers (held_result from held is) fits
    by_result (Some held) is None = fits
    by_result None is into = fits

-- what an operation gives
computed_fits : (op : Op) (size : ℕ) (signed : Bool) (left right number : ℕ) → is_scalar_size size ≡ true → computed op size signed left right ≡ Some number →
    number < 256 ^ size_after op size
computed_fits op size signed left right number is found = by_op op found (scalar size is)
  where
    answer_fits : (holds : Bool) → answer holds < 256 ^ 4
    answer_fits true = omega arith
    answer_fits false = omega arith

    general : (op : Op) → computed op size signed left right ≡ Some number → (one : Size) × (size_bytes one ≡ size) → number < 256 ^ size
    general op found (one, same) =
        let there : computed op (size_bytes one) signed left right ≡ Some number = ap (λ (size : ℕ). computed op size signed left right) same ∙ found in
        let small : IfSome (Some number) (λ result. result < modulus (size_bytes one)) =
        subst (λ (found : Option ℕ). IfSome found (λ result. result < modulus (size_bytes one))) there (computed_small op one signed left right) in
        subst (λ (size : ℕ). number < 256 ^ size) same small

    by_op : (op : Op) → computed op size signed left right ≡ Some number → (one : Size) × (size_bytes one ≡ size) → number < 256 ^ size_after op size
    by_op Less found one = subst (λ (number : ℕ). number < 256 ^ 4) (same_Some (answer (is_less size signed left right)) number found) (answer_fits (is_less size signed left right))
    by_op LessEqual found one =
        subst (λ (number : ℕ). number < 256 ^ 4) (same_Some (answer (is_less_equal size signed left right)) number found) (answer_fits (is_less_equal size signed left right))
    by_op Add found one = general Add found one
    by_op Sub found one = general Sub found one
    by_op Mul found one = general Mul found one
    by_op Div found one = general Div found one
    by_op Rem found one = general Rem found one
    by_op And found one = general And found one
    by_op Or found one = general Or found one
    by_op Xor found one = general Xor found one
    by_op Left found one = general Left found one
    by_op Right found one = general Right found one

converted_fits : (from : ℕ) (signed : Bool) (size number : ℕ) → is_scalar_size size ≡ true → converted from signed size number < 256 ^ size
converted_fits from signed size number is =
    let one = scalar size is in subst (λ (size : ℕ). converted from signed size number < 256 ^ size) one.1 (bits_small one.0 (value from signed number))

-- each instruction
fits_put : (to : ℕ) (state : State) (new : Held) (gone : List ℕ) → HasFittingValues state → Fits new →
    HasFittingValues (at to (with_registers (put new (emptied gone state.frame.registers)) state))
fits_put to state new gone is fits = fitting to state (put new (emptied gone state.frame.registers)) state.memory is
    (put_fits new (emptied gone state.frame.registers) fits (emptied_fits gone state.frame.registers is.registers)) is.memory

fits_emptied : (to : ℕ) (state : State) (gone : List ℕ) (memory : List Block) → HasFittingValues state → AreBytes memory →
    HasFittingValues (at to (with_memory memory (without_registers gone state)))
fits_emptied to state gone memory is all = fitting to state (emptied gone state.frame.registers) memory is (emptied_fits gone state.frame.registers is.registers) all

instr_fits : (flow : Flow) (instr : Instr) (to : ℕ) (place : Place) (state : State) (choices : List Choice) → has_sizes instr ≡ true → HasFittingValues state →
    Leaves (execute flow instr to place state choices) HasFittingValues
instr_fits flow (Number into number size) to place state choices sizes is =
    let fits = (and_parts (is_scalar_size size) (fits_size size number) sizes).1 in
    let new : Held = record { register = into; size = size; word = Plain number } in
    fitting to state (put new state.frame.registers) state.memory is (put_fits new state.frame.registers (ltb-true number (256 ^ size) fits) is.registers) is.memory
instr_fits flow (Address into variable) to place state choices sizes is = by_block (block_here state variable)
  where
    by_block : (found : Option ℕ) → Leaves (addressed found into (at to state) choices) HasFittingValues
    by_block None = tt
    by_block (Some block) =
        let new : Held = record { register = into; size = 8; word = To block (pos 0) } in
        fitting to state (put new state.frame.registers) state.memory is (put_fits new state.frame.registers refl is.registers) is.memory
instr_fits flow (Move into from) to place state choices sizes is =
    Leaves-given (held_by state.frame.registers from) (λ held. Went (at to (with_value into held.size held.word state)) choices) HasFittingValues
    (λ held found. fitting to state (put (record { register = into; size = held.size; word = held.word }) state.frame.registers) state.memory is
    (put_fits (record { register = into; size = held.size; word = held.word }) state.frame.registers (held_fits state.frame.registers from held is.registers found) is.registers) is.memory)
instr_fits flow (Read into address size pointer) to place state choices sizes is =
    let parts = and_parts (is_scalar_size size) (not pointer || nat_eq size 8) sizes in
    let next : Held → State = λ held. at to (with_value into size (loaded state.memory held.word size pointer) (without_registers (address ∷ []) state)) in
    Leaves-given (held_by state.frame.registers address) (λ held. unless_fault (access_fault state.memory held.word size) place (Went (next held) choices)) HasFittingValues
    (λ held found. Leaves-no_fault (access_fault state.memory held.word size) place (Went (next held) choices) HasFittingValues
    (λ none. fits_put to state (record { register = into; size = size; word = loaded state.memory held.word size pointer }) (address ∷ []) is
    (loaded_fits state.memory held.word size pointer is.memory parts.0 (λ whole. eight pointer whole parts.1) none)))
  where
    eight : (pointer : Bool) → pointer ≡ true → (not pointer || nat_eq size 8) ≡ true → size ≡ 8
    eight true whole passes = eqb-true size 8 passes
    eight false whole passes = absurd (false≢true whole)
instr_fits flow (Write address from size) to place state choices sizes is =
    let next : Held → Held → State = λ held written. at to (with_memory (stored state.memory held.word size written.word) (without_registers (address ∷ from ∷ []) state)) in
    Leaves-given (held_by state.frame.registers address)
    (λ held. given (held_by state.frame.registers from) (λ written. unless_fault (access_fault state.memory held.word size) place (Went (next held written) choices))) HasFittingValues
    (λ held found. Leaves-given (held_by state.frame.registers from) (λ written. unless_fault (access_fault state.memory held.word size) place (Went (next held written) choices)) HasFittingValues
    (λ written found'. Leaves-unless_fault (access_fault state.memory held.word size) place (Went (next held written) choices) HasFittingValues
    (fits_emptied to state (address ∷ from ∷ []) (stored state.memory held.word size written.word) is (stored_fits state.memory held.word size written.word is.memory))))
instr_fits flow (Shift into address by) to place state choices sizes is =
    Leaves-given (held_by state.frame.registers address) (λ held. Went (at to (with_value into 8 (moved held.word by) (without_registers (address ∷ []) state))) choices) HasFittingValues
    (λ held found. fits_put to state (record { register = into; size = 8; word = moved held.word by }) (address ∷ []) is (moved_fits held.word by))
instr_fits flow (ShiftBy into address by scale) to place state choices sizes is =
    let word : Held → Held → Word = λ held number. moved held.word (value 8 true (number_in state.memory number) *ℤ scale) in
    let onward : Held → Held → Outcome = λ held number. Went (at to (with_value into 8 (word held number) (without_registers (address ∷ by ∷ []) state))) choices in
    Leaves-given (held_by state.frame.registers address) (λ held. given (held_by state.frame.registers by) (onward held)) HasFittingValues
    (λ held found. Leaves-given (held_by state.frame.registers by) (onward held) HasFittingValues
    (λ number found'. fits_put to state (record { register = into; size = 8; word = word held number }) (address ∷ by ∷ []) is
    (moved_fits held.word (value 8 true (number_in state.memory number) *ℤ scale))))
instr_fits flow (Compute into op one other size signed) to place state choices sizes is =
    let next : ℕ → Outcome = λ number. Went (at to (with_value into (size_after op size) (Plain number) (without_registers (one ∷ other ∷ []) state))) choices in
    let onward : Held → Held → Outcome = λ held second. if_computed (computed op size signed (number_in state.memory held) (number_in state.memory second)) next in
    Leaves-given (held_by state.frame.registers one) (λ held. given (held_by state.frame.registers other) (onward held)) HasFittingValues
    (λ held found. Leaves-given (held_by state.frame.registers other) (onward held) HasFittingValues
    (λ second found'. Leaves-computed (computed op size signed (number_in state.memory held) (number_in state.memory second)) next HasFittingValues
    (λ number gives. fits_put to state (record { register = into; size = size_after op size; word = Plain number }) (one ∷ other ∷ []) is
    (computed_fits op size signed (number_in state.memory held) (number_in state.memory second) number sizes gives))))
instr_fits flow (Convert into from size signed) to place state choices sizes is =
    let word : Held → Word = λ held. Plain (converted held.size signed size (number_in state.memory held)) in
    Leaves-given (held_by state.frame.registers from) (λ held. Went (at to (with_value into size (word held) (without_registers (from ∷ []) state))) choices) HasFittingValues
    (λ held found. fits_put to state (record { register = into; size = size; word = word held }) (from ∷ []) is
    (converted_fits held.size signed size (number_in state.memory held) sizes))
instr_fits flow (IfSame one other) to place state choices sizes is =
    let passes : Outcome = Went (at to (without_registers (one ∷ other ∷ []) state)) choices in
    let onward : Held → Held → Outcome = λ held second. if is_same_address state.memory held.word second.word then passes else Barred in
    Leaves-given (held_by state.frame.registers one) (λ held. given (held_by state.frame.registers other) (onward held)) HasFittingValues
    (λ held found. Leaves-given (held_by state.frame.registers other) (onward held) HasFittingValues
    (λ second found'. Leaves-if (is_same_address state.memory held.word second.word) passes Barred HasFittingValues
    (fits_emptied to state (one ∷ other ∷ []) state.memory is is.memory) tt))
instr_fits flow (IfDifferent one other) to place state choices sizes is =
    let passes : Outcome = Went (at to (without_registers (one ∷ other ∷ []) state)) choices in
    let onward : Held → Held → Outcome = λ held second. if is_same_address state.memory held.word second.word then Barred else passes in
    Leaves-given (held_by state.frame.registers one) (λ held. given (held_by state.frame.registers other) (onward held)) HasFittingValues
    (λ held found. Leaves-given (held_by state.frame.registers other) (onward held) HasFittingValues
    (λ second found'. Leaves-if (is_same_address state.memory held.word second.word) Barred passes HasFittingValues tt
    (fits_emptied to state (one ∷ other ∷ []) state.memory is is.memory)))
instr_fits flow (Allocate into bytes zeroed) to place state choices sizes is = by_choice choices
  where
    makes : (choices : List Choice) → Leaves (with_new_block storage.Heap bytes zeroed (at to state) choices
        (λ after block more. Went (with_value into 8 (To block (pos 0)) after) more)) HasFittingValues
    makes choices = fits_new_block storage.Heap bytes zeroed (at to state) choices (λ after block more. Went (with_value into 8 (To block (pos 0)) after) more)
        (record { registers = is.registers; callers = is.callers; memory = is.memory })
        (λ memory more all. fitting to state (put (record { register = into; size = 8; word = To (length state.memory) (pos 0) }) state.frame.registers) memory
        (record { registers = is.registers; callers = is.callers; memory = is.memory })
        (put_fits (record { register = into; size = 8; word = To (length state.memory) (pos 0) }) state.frame.registers refl is.registers) all)

    by_choice : (choices : List Choice) → Leaves (allocated into bytes zeroed (at to state) choices) HasFittingValues
    by_choice [] = tt
    by_choice (NoBlock ∷ rest) = tt
    by_choice (NewBlock base contents ∷ rest) = makes (NewBlock base contents ∷ rest)
    by_choice (GivenInput number ∷ rest) = tt
instr_fits flow (AllocateNone into) to place state choices sizes is = by_choice choices
  where
    by_choice : (choices : List Choice) → Leaves (allocated_none into (at to state) choices) HasFittingValues
    by_choice [] = tt
    by_choice (NoBlock ∷ rest) =
        let zero_fits : 0 < 256 ^ 8 = omega arith in
        fitting to state (put (record { register = into; size = 8; word = Plain 0 }) state.frame.registers) state.memory is
        (put_fits (record { register = into; size = 8; word = Plain 0 }) state.frame.registers zero_fits is.registers) is.memory
    by_choice (NewBlock base contents ∷ rest) = tt
    by_choice (GivenInput number ∷ rest) = tt
instr_fits flow (Release address) to place state choices sizes is =
    let next : Held → State = λ held. at to (with_memory (freed state.memory held.word) (without_registers (address ∷ []) state)) in
    Leaves-given (held_by state.frame.registers address) (λ held. unless_fault (free_fault state.memory held.word) place (Went (next held) choices)) HasFittingValues
    (λ held found. Leaves-unless_fault (free_fault state.memory held.word) place (Went (next held) choices) HasFittingValues
    (fits_emptied to state (address ∷ []) (freed state.memory held.word) is (freed_fits state.memory held.word is.memory)))
instr_fits flow (Fill address from count) to place state choices sizes is =
    let memory : Held → Held → List Block = λ held second. filled state.memory held.word (number_in state.memory second % 256) count in
    let onward : Held → Held → Outcome = λ held second. unless_fault (range_fault state.memory held.word count) place
    (Went (at to (with_memory (memory held second) (without_registers (address ∷ from ∷ []) state))) choices) in
    Leaves-given (held_by state.frame.registers address) (λ held. given (held_by state.frame.registers from) (onward held)) HasFittingValues
    (λ held found. Leaves-given (held_by state.frame.registers from) (onward held) HasFittingValues
    (λ second found'. Leaves-unless_fault (range_fault state.memory held.word count) place
    (Went (at to (with_memory (memory held second) (without_registers (address ∷ from ∷ []) state))) choices) HasFittingValues
    (fits_emptied to state (address ∷ from ∷ []) (memory held second) is
    (written_fits state.memory held.word (replicate count (Num (number_in state.memory second % 256))) is.memory
    (All-replicate IsByte count (Num (number_in state.memory second % 256)) (mod-lt (number_in state.memory second) (omega arith)))))))
instr_fits flow (Copy target from count disjoint) to place state choices sizes is =
    let memory : Held → Held → List Block = λ held second. copied state.memory held.word second.word count in
    let onward : Held → Held → Outcome = λ held second. unless_fault (copy_fault state.memory held.word second.word count disjoint) place
    (Went (at to (with_memory (memory held second) (without_registers (target ∷ from ∷ []) state))) choices) in
    Leaves-given (held_by state.frame.registers target) (λ held. given (held_by state.frame.registers from) (onward held)) HasFittingValues
    (λ held found. Leaves-given (held_by state.frame.registers from) (onward held) HasFittingValues
    (λ second found'. Leaves-unless_fault (copy_fault state.memory held.word second.word count disjoint) place
    (Went (at to (with_memory (memory held second) (without_registers (target ∷ from ∷ []) state))) choices) HasFittingValues
    (fits_emptied to state (target ∷ from ∷ []) (memory held second) is
    (written_fits state.memory held.word (bytes_at state.memory second.word count) is.memory (bytes_there state.memory second.word count is.memory)))))
instr_fits flow (Enter variables) to place state choices sizes is = fits_entered flow variables (at to state) choices (record { registers = is.registers; callers = is.callers; memory = is.memory })
instr_fits flow (Leave variables) to place state choices sizes is =
    Leaves-unless_lost place (at to (after_scope variables state)) choices HasFittingValues
    (record { registers = is.registers; callers = is.callers; memory = without_variables_fits state.frame.variables variables state.memory is.memory })
instr_fits flow (Finish registers) to place state choices sizes is =
    Leaves-unless_lost place (at to (without_registers registers state)) choices HasFittingValues (fits_emptied to state registers state.memory is is.memory)
instr_fits flow (Input into size signed truth) to place state choices sizes is = by_choice choices
  where
    small : (truth : Bool) (number : ℕ) → nat_lt number (if truth then 2 else 256 ^ size) ≡ true → number < 256 ^ size
    small false number passes = ltb-true number (256 ^ size) passes
    small true number passes =
        let less : number < 2 = ltb-true number 2 passes in
        let one = scalar size sizes in
        subst (λ (size : ℕ). number < 256 ^ size) one.1 (at_size one.0 number less)
      where
        at_size : (one : Size) (number : ℕ) → number < 2 → number < 256 ^ size_bytes one
        at_size One number less = omega arith
        at_size Two number less = omega arith
        at_size Four number less = omega arith
        at_size Eight number less = omega arith

    by_choice : (choices : List Choice) → Leaves (received into size truth (at to state) choices) HasFittingValues
    by_choice [] = tt
    by_choice (NoBlock ∷ rest) = tt
    by_choice (NewBlock base contents ∷ rest) = tt
    by_choice (GivenInput number ∷ rest) =
        Leaves-test (nat_lt number (if truth then 2 else 256 ^ size)) (Went (with_value into size (Plain number) (at to state)) rest) HasFittingValues
        (λ passes. fitting to state (put (record { register = into; size = size; word = Plain number }) state.frame.registers) state.memory is
        (put_fits (record { register = into; size = size; word = Plain number }) state.frame.registers (small truth number passes) is.registers) is.memory)
instr_fits flow (Call function arguments into) to place state choices sizes is = fits_called flow (slice_get flow.functions function) arguments into to state choices is
instr_fits flow (Return from) to place state choices sizes is = by_callers state.callers is.callers
  where
    by_callers : (callers : List Caller) → All (λ caller. All Fits caller.frame.registers) callers →
        Leaves (returned (result_of from state.frame.registers) callers state choices) HasFittingValues
    by_callers [] all = tt
    by_callers (caller ∷ callers) all = record {
      registers = result_fits from state.frame.registers caller.into caller.frame is.registers (All-head (λ caller. All Fits caller.frame.registers) caller callers all);
      callers = All-tail (λ caller. All Fits caller.frame.registers) caller callers all;
      memory = is.memory;
    }
instr_fits flow Close to place state choices sizes is =
    Leaves-if (is_lost state.memory []) (Faulted block_never_freed place) (Went (at to state) choices) HasFittingValues tt
    (record { registers = is.registers; callers = is.callers; memory = is.memory })

along_fits : (flow : Flow) (edge : FlowEdge) (state : State) (choices : List Choice) → IsFlow flow → Contains flow.edges edge → HasFittingValues state →
    Leaves (step_along flow edge state choices) HasFittingValues
along_fits flow edge state choices valid stands is = by_point (nat_eq edge.from state.point)
  where
    by_point : (here : Bool) → Leaves (if here then execute flow edge.instr edge.to edge.place state choices else Barred) HasFittingValues
    by_point true = instr_fits flow edge.instr edge.to edge.place state choices (All-contains (λ one. IsTrue (has_sizes one.instr)) flow.edges edge valid.sizes stands) is
    by_point false = tt

pub steps_fit : DoStepsFit
steps_fit flow edge state next choices rest valid stands is goes =
    left_state (step_along flow edge state choices) HasFittingValues next rest (along_fits flow edge state choices valid stands is) goes

-- runs
among_fits : (flow : Flow) (edges : List FlowEdge) (state : State) (choices : List Choice) → IsFlow flow →
    ((edge : FlowEdge) → Among edges edge → Contains flow.edges edge) → HasFittingValues state → Leaves (step_among flow edges state choices) HasFittingValues
among_fits flow [] state choices valid stand is = tt
among_fits flow (edge ∷ rest) state choices valid stand is =
    by_outcome (step_along flow edge state choices) (along_fits flow edge state choices valid (stand edge (inl refl)) is)
    (among_fits flow rest state choices valid (λ edge among. stand edge (inr among)) is)
  where
    by_outcome : (outcome : Outcome) → Leaves outcome HasFittingValues → Leaves (step_among flow rest state choices) HasFittingValues →
        Leaves (unless_barred outcome (step_among flow rest state choices)) HasFittingValues
    by_outcome (Went next more) leaves later = leaves
    by_outcome Barred leaves later = later
    by_outcome Waits leaves later = tt
    by_outcome Ended leaves later = tt
    by_outcome (Faulted kind place) leaves later = tt

run_fits : (flow : Flow) (steps : ℕ) → IsFlow flow → (state : State) (choices : List Choice) → HasFittingValues state → Leaves (run steps flow state choices) HasFittingValues
run_fits flow zero valid state choices is = is
run_fits flow (suc steps) valid state choices is =
    Leaves-then (step flow state choices) (run steps flow) HasFittingValues HasFittingValues
    (among_fits flow flow.edges state choices valid (λ edge among. Contains-among flow.edges edge among) is)
    (λ next more fits. run_fits flow steps valid next more fits)

statics_fit : (number : ℕ) (variables : List Variable) (state : State) (choices : List Choice) → HasFittingValues state →
    Leaves (with_statics number variables state choices) HasFittingValues
statics_fit number [] state choices is = is
statics_fit number (variable ∷ rest) state choices is = by_kind variable.fixed (statics_fit (number + 1) rest)
  where
    by_kind : (fixed : Bool) → ((state : State) (choices : List Choice) → HasFittingValues state → Leaves (with_statics (number + 1) rest state choices) HasFittingValues) →
        Leaves (if fixed
        then with_new_block storage.Static variable.size true state choices (λ after block more. with_statics (number + 1) rest
        (record after { statics = put_owned (record { variable = number; block = block }) after.statics }) more)
        else with_statics (number + 1) rest state choices) HasFittingValues
    by_kind true more = fits_new_block storage.Static variable.size true state choices
        (λ after block more. with_statics (number + 1) rest
        (record after { statics = put_owned (record { variable = number; block = block }) after.statics }) more) is
        (λ memory choices all. more (record state { memory = memory; statics = put_owned (record { variable = number; block = length state.memory }) state.statics }) choices
        (record { registers = is.registers; callers = is.callers; memory = all }))
    by_kind false more = more state choices is

initials_fit : (statics : List Owned) (initials : List Initial) (memory : List Block) → AreBytes memory → AreBytes (with_initials statics initials memory)
initials_fit statics [] memory all = all
initials_fit statics (first ∷ rest) memory all = initials_fit statics rest (with_initial statics first memory) (by_block (block_of statics first.variable))
  where
    by_block : (found : Option ℕ) →
        AreBytes (option_map_or (λ block. stored memory (To block (pos first.at)) first.size (initial_word statics first.word)) found memory)
    by_block None = all
    by_block (Some block) = stored_fits memory (To block (pos first.at)) first.size (initial_word statics first.word) all

start_fits : (flow : Flow) (choices : List Choice) → Leaves (start flow choices) HasFittingValues
start_fits flow choices =
    Leaves-then (with_statics 0 flow.variables (blank (entry_of flow flow.main)) choices)
    (λ state more. entered flow (parameters_of flow flow.main) (with_memory (with_initials state.statics flow.initial state.memory) state) more) HasFittingValues HasFittingValues
    (statics_fit 0 flow.variables (blank (entry_of flow flow.main)) choices (record {
      registers = All-nil Fits;
      callers = All-nil (λ caller. All Fits caller.frame.registers);
      memory = All-nil (λ block. All IsByte block.bytes);
    }))
    (λ state more is. fits_entered flow (parameters_of flow flow.main) (with_memory (with_initials state.statics flow.initial state.memory) state) more
    (record { registers = is.registers; callers = is.callers; memory = initials_fit state.statics flow.initial state.memory is.memory }))

pub runs_fit : DoRunsFit
runs_fit flow state choices rest steps valid is =
    left_state (then_go (start flow choices) (run steps flow)) HasFittingValues state rest
    (Leaves-then (start flow choices) (run steps flow) HasFittingValues HasFittingValues (start_fits flow choices)
    (λ next more fits. run_fits flow steps valid next more fits)) is
