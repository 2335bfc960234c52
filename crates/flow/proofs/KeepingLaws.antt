-- A step keeps what stands.
use Rattle.std.proofs.Common.{◌≡◌, ℕ, zero, suc, ◌+◌, List, [], ◌∷◌, map, length, Bool, true, false, refl, sym, ap, subst, ◌∙◌, ◌⊎◌, inl, inr, Option, None, Some, take_all, arith}
use Rattle.std.specs.Prelude.{pos, ◌^◌, ◌&&◌, if◌then◌else◌, nat_eq, nat_lt, filter, slice_get, IsTrue, Contains}
use Rattle.std.specs.List.{list_all}
use Rattle.std.specs.Option.{option_map, option_map_or}
use Rattle.std.proofs.lemmas.Bool.{eqb-true, eq-eqb, and_parts, false≢true}
use Rattle.std.proofs.lemmas.Option.{same_Some, slice_get_cases}
use Rattle.std.proofs.lemmas.List.Elements.{All-contains}
use Rattle.cbase.specs.declared.place.Place.{Place}
use Rattle.bytes_core.specs.declared.word.Word.TheVariants.{Plain, To}
use Rattle.bytes_core.specs.Access.{stored}
use Rattle.bytes_core.specs.declared.block.BlockKind.TheVariants as storage
use Rattle.bytes_core.specs.Placement.{placed}
use Rattle.bytes_core.specs.Loss.{is_lost}
use Rattle.bytes_core.specs.Fault.{block_never_freed}
use Rattle.flow.specs.declared.instruction.Instr.{Instr}
use Rattle.flow.specs.declared.instruction.Instr.TheVariants.{Number, Address, Move, Read, Write, Shift, ShiftBy, Compute, Convert, IfSame, IfDifferent, Allocate, AllocateNone, Release, Fill, Copy, Enter, Leave, Finish, Input, Call, Return, Close}
use Rattle.flow.specs.declared.flow_graph.Flow.{Flow}
use Rattle.flow.specs.declared.flow_graph.FlowEdge.{FlowEdge}
use Rattle.flow.specs.declared.flow_graph.FlowFunction.{FlowFunction}
use Rattle.flow.specs.declared.flow_graph.Standing.{Standing}
use Rattle.flow.specs.declared.flow_graph.Variable.{Variable}
use Rattle.flow.specs.declared.flow_graph.Width.{Width}
use Rattle.flow.specs.Holding.{Held, Owned, width, held_by, size_of, put, put_width, emptied, emptied_widths, put_owned}
use Rattle.choices.specs.declared.choice.Choice.{Choice}
use Rattle.choices.specs.declared.choice.Choice.TheVariants.{None as NoBlock, Block as NewBlock, Input as GivenInput}
use Rattle.flow.specs.Machine.{Frame, Caller, State, Outcome, Went, Barred, Waits, Ended, Faulted, execute, step_along, with_new_block, with_variable, with_memory, entered, with_parameters, with_arguments, size_in, at, with_value, without_registers, block_here, addressed, allocated, allocated_none, received, after_scope, called, returned, result_of, with_result, step, step_among, unless_barred}
use Rattle.flow.specs.Standing.{emptied_by, filled_by, with_filled, registers_after, variables_after, stands_after, stands_at, with_variables, any, sized, result_size, first_size}
use Rattle.flow.specs.InRange.{entry_of}
use Rattle.flow.specs.Walks.{is_return}
use Rattle.flow.specs.Runs.{parameters_of, blank, then_go, with_statics, with_initials, start, run}
use Rattle.flow.specs.Valid.{takes_result, calls_rightly, returns_what_stands, stands_alone, HasReturn, edges_out, ascend, are_distinct, is_local, is_parameter, IsFlow, Reached, Along, Here}
use Rattle.flow.specs.Keeping.{variables_of, IsCallerAt, AreCallersAt, IsStateOf, result_width, DoStepsKeep, DoStartsKeep, DoRunsKeep, DoReturnsLeaveNothing}
use Rattle.flow.proofs.Outcomes.{Leaves, left_state, Leaves-then, Leaves-weaker, Leaves-given, Leaves-unless_fault, Leaves-if_computed, Leaves-if, Leaves-unless_lost, Leaves-new_block}
use Rattle.flow.proofs.StandingLaws.{finish_empties, call_empties}
use Rattle.flow.proofs.Ascending.{Among, Among-contains, Contains-among, All-at, ascend-same, with-there, with-back, with-ascends}
use Rattle.flow.proofs.Frames.{map-put, map-emptied, emptied_none, map-put_emptied, map-put_none, size_of-held, variables-left, variables-more}

-- whether an instruction stays in its function
abbrev is_inside : Instr → Bool
is_inside (Call function arguments into) = false
is_inside (Return from) = false
is_inside instr = true

-- what an instruction that stays in its function leaves: the point, the variables and registers, and the callers
record Does (instr : Instr) (flow : Flow) (to : ℕ) (before next : State) : Type 0 where
  point : next.point ≡ to
  variables : variables_of next.frame.variables ≡ variables_after instr (variables_of before.frame.variables)
  registers : map width next.frame.registers ≡ registers_after flow instr (map width before.frame.registers)
  callers : next.callers ≡ before.callers

-- what making variables leaves: these stand too, and all else of what stands is as it was
record Made (new : List ℕ) (before next : State) : Type 0 where
  point : next.point ≡ before.point
  variables : variables_of next.frame.variables ≡ with_variables new (variables_of before.frame.variables)
  registers : next.frame.registers ≡ before.frame.registers
  callers : next.callers ≡ before.callers

-- one variable more
made_more : (variable block : ℕ) (rest : List ℕ) (before between next : State) → between.point ≡ before.point →
    between.frame.variables ≡ put_owned (record { variable = variable; block = block }) before.frame.variables →
    between.frame.registers ≡ before.frame.registers → between.callers ≡ before.callers →
    Made rest between next → Made (variable ∷ rest) before next
made_more variable block rest before between next point variables registers callers made = record {
  point = made.point ∙ point;
  variables = made.variables ∙ (ap (λ (owned : List Owned). with_variables rest (variables_of owned)) variables
      ∙ variables-more variable block rest before.frame.variables);
  registers = made.registers ∙ registers;
  callers = made.callers ∙ callers;
}

enters : (flow : Flow) (variables : List ℕ) (state : State) (choices : List Choice) →
    Leaves (entered flow variables state choices) (Made variables state)
enters flow [] state choices = record { point = refl; variables = refl; registers = refl; callers = refl }
enters flow (variable ∷ rest) state choices =
    Leaves-new_block storage.Local (size_in flow variable) false state choices
    (λ after block more. entered flow rest (with_variable variable block after) more) (Made (variable ∷ rest) state)
    (λ block more. Leaves-weaker
    (entered flow rest (with_variable variable (length state.memory) (with_memory (placed state.memory block) state)) more)
    (Made rest (with_variable variable (length state.memory) (with_memory (placed state.memory block) state))) (Made (variable ∷ rest) state)
    (λ next made. made_more variable (length state.memory) rest state
    (with_variable variable (length state.memory) (with_memory (placed state.memory block) state)) next refl refl refl refl made)
    (enters flow rest (with_variable variable (length state.memory) (with_memory (placed state.memory block) state)) more))

passes_parameters : (flow : Flow) (variables : List ℕ) (arguments : List Held) (state : State) (choices : List Choice) →
    Leaves (with_parameters flow variables arguments state choices) (Made variables state)
passes_parameters flow [] arguments state choices = record { point = refl; variables = refl; registers = refl; callers = refl }
passes_parameters flow (variable ∷ rest) [] state choices = tt
passes_parameters flow (variable ∷ rest) (argument ∷ arguments) state choices =
    Leaves-new_block storage.Local (size_in flow variable) false state choices
    (λ after block more. with_parameters flow rest arguments
    (with_memory (stored after.memory (To block (pos 0)) argument.size argument.word) (with_variable variable block after)) more)
    (Made (variable ∷ rest) state)
    (λ block more.
    let between : State = with_memory (stored (placed state.memory block) (To (length state.memory) (pos 0)) argument.size argument.word)
    (with_variable variable (length state.memory) (with_memory (placed state.memory block) state)) in
    Leaves-weaker (with_parameters flow rest arguments between more) (Made rest between) (Made (variable ∷ rest) state)
    (λ next made. made_more variable (length state.memory) rest state between next refl refl refl refl made)
    (passes_parameters flow rest arguments between more))

-- an instruction that stays in its function
with_arguments_held : (registers : List Held) (arguments : List ℕ) (onward : List Held → Outcome) (P : State → Type 0) →
    ((held : List Held) → Leaves (onward held) P) → Leaves (with_arguments registers arguments onward) P
with_arguments_held registers [] onward P each = each []
with_arguments_held registers (first ∷ rest) onward P each =
    Leaves-given (held_by registers first) (λ held. with_arguments registers rest (λ more. onward (held ∷ more))) P
    (λ held _. with_arguments_held registers rest (λ more. onward (held ∷ more)) P (λ more. each (held ∷ more)))

-- a state in which other registers are held
does_registers : (instr : Instr) (flow : Flow) (to : ℕ) (before next : State) → next.point ≡ to →
    next.frame.variables ≡ before.frame.variables → next.callers ≡ before.callers →
    variables_after instr (variables_of before.frame.variables) ≡ variables_of before.frame.variables →
    map width next.frame.registers ≡ registers_after flow instr (map width before.frame.registers) → Does instr flow to before next
does_registers instr flow to before next point variables callers same registers = record {
  point = point;
  variables = ap variables_of variables ∙ sym same;
  registers = registers;
  callers = callers;
}

-- the registers of a computation
computes_empties : (size : ℕ) (one other : ℕ) (shift : Bool) → map (λ asked. asked.register) (sized size one ∷ (if shift then any other else sized size other) ∷ []) ≡ one ∷ other ∷ []
computes_empties size one other true = refl
computes_empties size one other false = refl

map-put_computed : (new : Held) (size one other : ℕ) (shift : Bool) (held : List Held) →
    map width (put new (emptied (one ∷ other ∷ []) held))
    ≡ put_width (width new) (emptied_widths (map (λ asked. asked.register) (sized size one ∷ (if shift then any other else sized size other) ∷ [])) (map width held))
map-put_computed new size one other shift held = map-put_emptied new (one ∷ other ∷ []) held
    ∙ sym (ap (λ (gone : List ℕ). put_width (width new) (emptied_widths gone (map width held))) (computes_empties size one other shift))

nothing_left : (P : State → Type 0) → Leaves Barred P
nothing_left P = tt

does : (instr : Instr) (flow : Flow) (to : ℕ) (place : Place) (state : State) (choices : List Choice) →
    is_inside instr ≡ true → Leaves (execute flow instr to place state choices) (Does instr flow to state)
does (Number into number size) flow to place state choices inside = record {
  point = refl;
  variables = refl;
  callers = refl;
  registers = map-put_none (record { register = into; size = size; word = Plain number }) state.frame.registers;
}
does (Address into variable) flow to place state choices inside = by_block (block_here state variable)
  where
    by_block : (found : Option ℕ) → Leaves (addressed found into (at to state) choices) (Does (Address into variable) flow to state)
    by_block None = tt
    by_block (Some block) = record {
      point = refl;
      variables = refl;
      callers = refl;
      registers = map-put_none (record { register = into; size = 8; word = To block (pos 0) }) state.frame.registers;
    }
does (Move into from) flow to place state choices inside =
    Leaves-given (held_by state.frame.registers from) (λ held. Went (at to (with_value into held.size held.word state)) choices) (Does (Move into from) flow to state)
    (λ held is. record {
      point = refl;
      variables = refl;
      callers = refl;
      registers = map-put_none (record { register = into; size = held.size; word = held.word }) state.frame.registers
          ∙ sym (ap (λ (found : Option ℕ). with_filled (option_map (λ size. record { register = into; size = size }) found) (emptied_widths [] (map width state.frame.registers)))
          (size_of-held state.frame.registers from ∙ ap (λ (found : Option Held). option_map (λ one. one.size) found) is));
    })
does (Read into address size pointer) flow to place state choices inside = search (Leaves-given, Leaves-unless_fault, does_registers, map-put_emptied)
does (Write address from size) flow to place state choices inside = search (Leaves-given, Leaves-unless_fault, does_registers, map-emptied)
does (Shift into address by) flow to place state choices inside = search (Leaves-given, does_registers, map-put_emptied)
does (ShiftBy into address by scale) flow to place state choices inside = search (Leaves-given, does_registers, map-put_emptied)
does (Compute into op one other size signed) flow to place state choices inside = search (Leaves-given, Leaves-if_computed, does_registers, map-put_computed)
does (Convert into from size signed) flow to place state choices inside = search (Leaves-given, does_registers, map-put_emptied)
does (IfSame one other) flow to place state choices inside = search (Leaves-given, Leaves-if, does_registers, map-emptied, nothing_left)
does (IfDifferent one other) flow to place state choices inside = search (Leaves-given, Leaves-if, does_registers, map-emptied, nothing_left)
does (Allocate into bytes zeroed) flow to place state choices inside = by_choice choices
  where
    makes : (choices : List Choice) → Leaves (with_new_block storage.Heap bytes zeroed (at to state) choices
        (λ after block more. Went (with_value into 8 (To block (pos 0)) after) more)) (Does (Allocate into bytes zeroed) flow to state)
    makes choices = Leaves-new_block storage.Heap bytes zeroed (at to state) choices _ _ (λ block more. record {
      point = refl;
      variables = refl;
      callers = refl;
      registers = map-put_none (record { register = into; size = 8; word = To (length state.memory) (pos 0) }) state.frame.registers;
    })

    by_choice : (choices : List Choice) → Leaves (allocated into bytes zeroed (at to state) choices) (Does (Allocate into bytes zeroed) flow to state)
    by_choice [] = tt
    by_choice (NoBlock ∷ rest) = tt
    by_choice (NewBlock base contents ∷ rest) = makes (NewBlock base contents ∷ rest)
    by_choice (GivenInput number ∷ rest) = tt
does (AllocateNone into) flow to place state choices inside = by_choice choices
  where
    by_choice : (choices : List Choice) → Leaves (allocated_none into (at to state) choices) (Does (AllocateNone into) flow to state)
    by_choice [] = tt
    by_choice (NoBlock ∷ rest) = record {
      point = refl;
      variables = refl;
      callers = refl;
      registers = map-put_none (record { register = into; size = 8; word = Plain 0 }) state.frame.registers;
    }
    by_choice (NewBlock base contents ∷ rest) = tt
    by_choice (GivenInput number ∷ rest) = tt
does (Release address) flow to place state choices inside = search (Leaves-given, Leaves-unless_fault, does_registers, map-emptied)
does (Fill address from length) flow to place state choices inside = search (Leaves-given, Leaves-unless_fault, does_registers, map-emptied)
does (Copy target from length disjoint) flow to place state choices inside = search (Leaves-given, Leaves-unless_fault, does_registers, map-emptied)
does (Enter variables) flow to place state choices inside =
    Leaves-weaker (entered flow variables (at to state) choices) (Made variables (at to state)) _ (λ next made. record {
      point = made.point;
      variables = made.variables;
      registers = ap (λ (held : List Held). map width held) made.registers ∙ sym (emptied_none (map width state.frame.registers));
      callers = made.callers;
    }) (enters flow variables (at to state) choices)
does (Leave variables) flow to place state choices inside =
    Leaves-unless_lost place (at to (after_scope variables state)) choices (Does (Leave variables) flow to state) (record {
      point = refl;
      callers = refl;
      variables = variables-left variables state.frame.variables;
      registers = sym (emptied_none (map width state.frame.registers));
    })
does (Finish registers) flow to place state choices inside =
    Leaves-unless_lost place (at to (without_registers registers state)) choices (Does (Finish registers) flow to state) (record {
      point = refl;
      variables = refl;
      callers = refl;
      registers = map-emptied registers state.frame.registers
          ∙ sym (ap (λ (gone : List ℕ). emptied_widths gone (map width state.frame.registers)) (finish_empties registers));
    })
does (Input into size signed truth) flow to place state choices inside = by_choice choices
  where
    by_choice : (choices : List Choice) → Leaves (received into size truth (at to state) choices) (Does (Input into size signed truth) flow to state)
    by_choice [] = tt
    by_choice (NoBlock ∷ rest) = tt
    by_choice (NewBlock base contents ∷ rest) = tt
    by_choice (GivenInput number ∷ rest) = Leaves-if (nat_lt number (if truth then 2 else 256 ^ size))
        (Went (with_value into size (Plain number) (at to state)) rest) Ended (Does (Input into size signed truth) flow to state) (record {
          point = refl;
          variables = refl;
          callers = refl;
          registers = map-put_none (record { register = into; size = size; word = Plain number }) state.frame.registers;
        }) tt
does (Call function arguments into) flow to place state choices inside = absurd (cc)
does (Return from) flow to place state choices inside = absurd (cc)
does Close flow to place state choices inside =
    Leaves-if (is_lost state.memory []) (Faulted block_never_freed place) (Went (at to state) choices) (Does Close flow to state) tt
    (record { point = refl; variables = refl; callers = refl; registers = sym (emptied_none (map width state.frame.registers)) })

-- an entry, and a point that a call or a return leads to

-- the variables that stand at a point ascend
variables_ascend : (flow : Flow) (point : ℕ) → IsFlow flow → ascend (stands_at flow point).variables ≡ true
variables_ascend flow point valid = by_point (slice_get flow.stands point) refl
  where
    by_point : (found : Option Standing) → slice_get flow.stands point ≡ found →
        ascend (option_map_or (λ standing. standing) found (record { variables = []; registers = [] })).variables ≡ true
    by_point None is = refl
    by_point (Some standing) is =
        (and_parts (ascend standing.variables) (list_all (is_local flow) standing.variables)
        (All-at (λ one. IsTrue (ascend one.variables && list_all (is_local flow) one.variables)) flow.stands point standing is valid.standing_variables)).0

-- the parameters of a function, put into an empty frame, are what stands at its entry
pub entry_stands : (flow : Flow) (number : ℕ) (function : FlowFunction) → IsFlow flow → slice_get flow.functions number ≡ Some function →
    with_variables function.parameters [] ≡ (stands_at flow function.entry).variables
entry_stands flow number function valid stands =
    ascend-same (with_variables function.parameters []) (stands_at flow function.entry).variables
    (with-ascends function.parameters [] distinct refl (λ variable among none. none)) (variables_ascend flow function.entry valid)
    (λ variable among. there variable (with-back function.parameters [] variable among))
    (λ variable among. with-there function.parameters [] variable
    (inl (Among-contains function.parameters variable ((both variable).0 (Contains-among (stands_at flow function.entry).variables variable among)))))
  where
    distinct : are_distinct function.parameters ≡ true
    distinct = (and_parts (are_distinct function.parameters) (list_all (is_parameter flow) function.parameters)
        (All-at (λ one. IsTrue (are_distinct one.parameters && list_all (is_parameter flow) one.parameters)) flow.functions number function stands valid.parameters)).0

    both : (variable : ℕ) → (Contains (stands_at flow function.entry).variables variable → Contains function.parameters variable)
        × (Contains function.parameters variable → Contains (stands_at flow function.entry).variables variable)
    both = All-at (λ one. (variable : ℕ) → (Contains (stands_at flow one.entry).variables variable → Contains one.parameters variable)
        × (Contains one.parameters variable → Contains (stands_at flow one.entry).variables variable)) flow.functions number function stands valid.entry_variables

    there : (variable : ℕ) → Among function.parameters variable ⊎ Among [] variable → Among (stands_at flow function.entry).variables variable
    there variable (inl among) = Among-contains (stands_at flow function.entry).variables variable ((both variable).1 (Contains-among function.parameters variable among))
    there variable (inr none) = absurd none

-- the frame above the callers goes on to a point
moves_callers : (flow : Flow) (from to : ℕ) (callers : List Caller) → ((entry : ℕ) → Reached flow entry from → Reached flow entry to) →
    AreCallersAt flow from callers → AreCallersAt flow to callers
moves_callers flow from to [] goes are = tt
moves_callers flow from to (caller ∷ callers) goes are = (
  record {
    number = are.0.number;
    function = are.0.function;
    called = are.0.called;
    within = goes are.0.function.entry are.0.within;
    variables = are.0.variables;
    registers = are.0.registers;
  },
  are.1,
)

-- what an instruction leaves that stays in its function is a state
stays : (flow : Flow) (edge : FlowEdge) (state next : State) → IsFlow flow → Contains flow.edges edge → edge.from ≡ state.point → IsStateOf flow state →
    Does edge.instr flow edge.to state next → IsStateOf flow next
stays flow edge state next valid stands from is does = record {
  frame = record {
    variables = does.variables ∙ (ap (variables_after edge.instr) is.frame.variables ∙ ap (λ (standing : Standing). standing.variables) leads);
    registers = does.registers ∙ (ap (registers_after flow edge.instr) is.frame.registers ∙ ap (λ (standing : Standing). standing.registers) leads);
  };
  callers = subst (λ (callers : List Caller). AreCallersAt flow next.point callers) (sym does.callers)
      (moves_callers flow state.point next.point state.callers
      (λ entry reached. subst (λ (point : ℕ). Reached flow entry point) (sym does.point) (Along state.point edge reached stands from)) is.callers);
}
  where
    leads : stands_after flow edge.instr (stands_at flow state.point) ≡ stands_at flow next.point
    leads = ap (λ (point : ℕ). stands_after flow edge.instr (stands_at flow point)) (sym from)
        ∙ (All-contains (λ one. stands_after flow one.instr (stands_at flow one.from) ≡ stands_at flow one.to) flow.edges edge valid.leads stands
        ∙ ap (stands_at flow) (sym does.point))

-- a call
call_stands : (flow : Flow) (edge : FlowEdge) (state : State) (choices : List Choice) (number : ℕ) (arguments : List ℕ) (into : Option ℕ) →
    IsFlow flow → Contains flow.edges edge → edge.from ≡ state.point → edge.instr ≡ Call number arguments into → IsStateOf flow state →
    Leaves (called flow (slice_get flow.functions number) arguments into edge.to state choices) (IsStateOf flow)
call_stands flow edge state choices number arguments into valid stands from call is = by_function (slice_get flow.functions number) refl
  where
    leads : stands_after flow (Call number arguments into) (stands_at flow state.point) ≡ stands_at flow edge.to
    leads = ap (λ (point : ℕ). stands_after flow (Call number arguments into) (stands_at flow point)) (sym from)
        ∙ (ap (λ (instr : Instr). stands_after flow instr (stands_at flow edge.from)) (sym call)
        ∙ All-contains (λ one. stands_after flow one.instr (stands_at flow one.from) ≡ stands_at flow one.to) flow.edges edge valid.leads stands)

    as_many : length arguments ≡ length (parameters_of flow number)
    as_many = eqb-true _ _ (and_parts (nat_eq (length arguments) (length (parameters_of flow number))) (takes_result into (result_size flow number))
        (subst (λ (instr : Instr). IsTrue (calls_rightly flow instr)) call (All-contains (λ one. IsTrue (calls_rightly flow one.instr)) flow.edges edge valid.calls stands))).0

    empties : emptied_by flow (Call number arguments into) ≡ arguments
    empties = call_empties flow arguments (parameters_of flow number) ∙ take_all (length (parameters_of flow number)) arguments (omega (arith, as_many))

    fills : (into : Option ℕ) (widths : List Width) → with_filled (result_width into (result_size flow number)) widths
        ≡ with_filled (filled_by flow (Call number arguments into) (map width state.frame.registers)) widths
    fills None widths = refl
    fills (Some register) widths = refl

    caller : Caller
    caller = record { frame = record state.frame { registers = emptied arguments state.frame.registers }; point = edge.to; into = into }

    waits : (function : FlowFunction) → slice_get flow.functions number ≡ Some function → IsCallerAt flow function.entry caller
    waits function found = record {
      number = number;
      function = function;
      called = found;
      within = Here;
      variables = is.frame.variables ∙ ap (λ (standing : Standing). standing.variables) leads;
      registers = ap (λ (widths : List Width). with_filled (result_width into (result_size flow number)) widths)
          (map-emptied arguments state.frame.registers ∙ ap (λ (gone : List ℕ). emptied_widths gone (map width state.frame.registers)) (sym empties))
          ∙ (fills into (emptied_widths (emptied_by flow (Call number arguments into)) (map width state.frame.registers))
          ∙ (ap (registers_after flow (Call number arguments into)) is.frame.registers ∙ ap (λ (standing : Standing). standing.registers) leads));
    }

    entered_at : FlowFunction → State
    entered_at function = record state {
      point = function.entry;
      frame = record { variables = []; registers = [] };
      callers = caller ∷ state.callers;
    }

    begins : (function : FlowFunction) → slice_get flow.functions number ≡ Some function → (next : State) → Made function.parameters (entered_at function) next → IsStateOf flow next
    begins function found next made = record {
      frame = record {
        variables = made.variables ∙ (entry_stands flow number function valid found ∙ ap (λ (point : ℕ). (stands_at flow point).variables) (sym made.point));
        registers = ap (λ (held : List Held). map width held) made.registers
            ∙ (sym (All-at (λ one. (stands_at flow one.entry).registers ≡ []) flow.functions number function found valid.entry_registers)
            ∙ ap (λ (point : ℕ). (stands_at flow point).registers) (sym made.point));
      };
      callers = subst (λ (callers : List Caller). AreCallersAt flow next.point callers) (sym made.callers)
          (subst (λ (point : ℕ). AreCallersAt flow point (caller ∷ state.callers)) (sym made.point)
          (waits function found, moves_callers flow state.point edge.to state.callers (λ entry reached. Along state.point edge reached stands from) is.callers));
    }

    by_function : (found : Option FlowFunction) → slice_get flow.functions number ≡ found →
        Leaves (called flow found arguments into edge.to state choices) (IsStateOf flow)
    by_function None found = tt
    by_function (Some function) found =
        with_arguments_held state.frame.registers arguments (λ held. with_parameters flow function.parameters held (entered_at function) choices) (IsStateOf flow)
        (λ held. Leaves-weaker (with_parameters flow function.parameters held (entered_at function) choices) (Made function.parameters (entered_at function)) (IsStateOf flow)
        (begins function found) (passes_parameters flow function.parameters held (entered_at function) choices))

-- the function whose exit a return goes out of
exit_function : (functions : List FlowFunction) (point : ℕ) → Among (map (λ function. function.exit) functions) point →
    (place : ℕ) × (function : FlowFunction) × (slice_get functions place ≡ Some function) × (function.exit ≡ point)
exit_function [] point among = absurd among
exit_function (first ∷ rest) point (inl is) = (zero, first, refl, is)
exit_function (first ∷ rest) point (inr among) =
    let more = exit_function rest point among in (suc more.0, more.1, more.2, more.3)

filter_has : {X : Type 0} (test : X → Bool) (items : List X) (item : X) → Among items item → test item ≡ true → Among (filter test items) item
filter_has test [] item among passes = absurd among
filter_has test (first ∷ rest) item among passes = by_test (test first) refl among (λ there. filter_has test rest item there passes)
  where
    by_test : (keeps : Bool) → test first ≡ keeps → (first ≡ item) ⊎ Among rest item → (Among rest item → Among (filter test rest) item) →
        Among (if keeps then first ∷ filter test rest else filter test rest) item
    by_test true is (inl same) more = inl same
    by_test true is (inr there) more = inr (more there)
    by_test false is (inl same) more = absurd (false≢true (sym is ∙ (ap test same ∙ passes)))
    by_test false is (inr there) more = more there

-- a register that stands alone
alone : (from : Option ℕ) (held : List Held) (widths : List Width) → stands_alone from widths ≡ true → map width held ≡ widths →
    option_map (λ one. one.size) (result_of from held) ≡ first_size widths
alone None held [] is same = refl
alone None held (first ∷ rest) is same = absurd (false≢true is)
alone (Some register) held [] is same = absurd (false≢true is)
alone (Some register) held (only ∷ (second ∷ rest)) is same = absurd (false≢true is)
alone (Some register) held (only ∷ []) is same =
    sym (size_of-held held register) ∙ (ap (λ (widths : List Width). size_of widths register) same
    ∙ ap (λ (here : Bool). if here then Some only.size else None) is)

-- the size of what a function returns
returns_size : (flow : Flow) (edge : FlowEdge) (state : State) (from : Option ℕ) (number : ℕ) (function : FlowFunction) →
    IsFlow flow → Contains flow.edges edge → edge.from ≡ state.point → edge.instr ≡ Return from → IsStateOf flow state →
    slice_get flow.functions number ≡ Some function → Reached flow function.entry state.point →
    option_map (λ one. one.size) (result_of from state.frame.registers) ≡ result_size flow number
returns_size flow edge state from number function valid stands begins return is found within =
    alone from state.frame.registers (stands_at flow function.exit).registers last
    (is.frame.registers ∙ ap (λ (point : ℕ). (stands_at flow point).registers) (sym exit))
    ∙ sym (ap (λ (one : Option FlowFunction). option_map_or (λ found. first_size (stands_at flow found.exit).registers) one None) found)
  where
    leaves : (place : ℕ) × (second : FlowFunction) × (slice_get flow.functions place ≡ Some second) × (second.exit ≡ edge.from)
    leaves = exit_function flow.functions edge.from (Among-contains (map (λ one. one.exit) flow.functions) edge.from
        (All-contains (λ one. IsTrue (is_return one.instr) → Contains (map (λ function. function.exit) flow.functions) one.from) flow.edges edge valid.returns stands
        (subst (λ (instr : Instr). IsTrue (is_return instr)) (sym return) refl)))

    same : number ≡ leaves.0
    same = valid.separate.exits number leaves.0 function leaves.1 found leaves.2
        (subst (λ (point : ℕ). Reached flow function.entry point) (sym (leaves.3 ∙ begins)) within)

    one_function : function ≡ leaves.1
    one_function = same_Some function leaves.1 (sym found ∙ (ap (λ (place : ℕ). slice_get flow.functions place) same ∙ leaves.2))

    exit : function.exit ≡ state.point
    exit = ap (λ (one : FlowFunction). one.exit) one_function ∙ (leaves.3 ∙ begins)

    has : HasReturn flow function
    has = All-at (HasReturn flow) flow.functions number function found valid.exits

    among : Among (edges_out flow function.exit) edge
    among = filter_has (λ one. nat_eq one.from function.exit) flow.edges edge (Among-contains flow.edges edge stands)
        (eq-eqb edge.from function.exit (begins ∙ sym exit))

    only : has.edge ≡ edge
    only = elim (subst (λ (edges : List FlowEdge). Among edges edge) has.only among) [ inl is ↦ is | inr none ↦ absurd none ]

    last : stands_alone from (stands_at flow function.exit).registers ≡ true
    last = subst (λ (instr : Instr). returns_what_stands instr (stands_at flow function.exit).registers ≡ true)
        (ap (λ (one : FlowEdge). one.instr) only ∙ return) has.returns

-- the variables of a frame from which a function goes back
none_owned : (owned : List Owned) → variables_of owned ≡ [] → owned ≡ []
none_owned [] is = refl
none_owned (first ∷ rest) is = cc

pub returns_leave_nothing : DoReturnsLeaveNothing
returns_leave_nothing flow edge state valid stands begins return is =
    none_owned state.frame.variables (is.frame.variables ∙ (ap (λ (point : ℕ). (stands_at flow point).variables) (sym (leaves.3 ∙ begins)) ∙ has.variables))
  where
    leaves : (place : ℕ) × (second : FlowFunction) × (slice_get flow.functions place ≡ Some second) × (second.exit ≡ edge.from)
    leaves = exit_function flow.functions edge.from (Among-contains (map (λ one. one.exit) flow.functions) edge.from
        (All-contains (λ one. IsTrue (is_return one.instr) → Contains (map (λ function. function.exit) flow.functions) one.from) flow.edges edge valid.returns stands
        return))

    has : HasReturn flow leaves.1
    has = All-at (HasReturn flow) flow.functions leaves.0 leaves.1 leaves.2 valid.exits

-- what a caller goes on with
result_registers : (result : Option Held) (into size : Option ℕ) (frame : Frame) → option_map (λ one. one.size) result ≡ size →
    map width (with_result result into frame).registers ≡ with_filled (result_width into size) (map width frame.registers)
result_registers (Some held) (Some into) size frame is =
    map-put (record { register = into; size = held.size; word = held.word }) frame.registers
    ∙ ap (λ (size : Option ℕ). with_filled (result_width (Some into) size) (map width frame.registers)) is
result_registers (Some held) None size frame is = refl
result_registers None None size frame is = refl
result_registers None (Some into) size frame is = ap (λ (size : Option ℕ). with_filled (result_width (Some into) size) (map width frame.registers)) is

result_variables : (result : Option Held) (into : Option ℕ) (frame : Frame) → (with_result result into frame).variables ≡ frame.variables
result_variables (Some held) (Some into) frame = refl
result_variables (Some held) None frame = refl
result_variables None into frame = refl

return_stands : (flow : Flow) (edge : FlowEdge) (state : State) (choices : List Choice) (from : Option ℕ) →
    IsFlow flow → Contains flow.edges edge → edge.from ≡ state.point → edge.instr ≡ Return from → IsStateOf flow state →
    Leaves (returned (result_of from state.frame.registers) state.callers state choices) (IsStateOf flow)
return_stands flow edge state choices from valid stands begins return is = by_callers state.callers is.callers
  where
    by_callers : (callers : List Caller) → AreCallersAt flow state.point callers →
        Leaves (returned (result_of from state.frame.registers) callers state choices) (IsStateOf flow)
    by_callers [] are = tt
    by_callers (caller ∷ callers) are = record {
      frame = record {
        variables = ap variables_of (result_variables (result_of from state.frame.registers) caller.into caller.frame) ∙ are.0.variables;
        registers = result_registers (result_of from state.frame.registers) caller.into (result_size flow are.0.number) caller.frame
            (returns_size flow edge state from are.0.number are.0.function valid stands begins return is are.0.called are.0.within)
            ∙ are.0.registers;
      };
      callers = are.1;
    }

-- along each edge
along_stands : (flow : Flow) (edge : FlowEdge) (state : State) (choices : List Choice) → IsFlow flow → Contains flow.edges edge →
    IsStateOf flow state → Leaves (step_along flow edge state choices) (IsStateOf flow)
along_stands flow edge state choices valid stands is = by_point (nat_eq edge.from state.point) refl
  where
    inside : edge.from ≡ state.point → (instr : Instr) → edge.instr ≡ instr → is_inside instr ≡ true →
        Leaves (execute flow instr edge.to edge.place state choices) (IsStateOf flow)
    inside from instr same stays_inside = Leaves-weaker (execute flow instr edge.to edge.place state choices) (Does instr flow edge.to state) (IsStateOf flow)
        (λ next did. stays flow edge state next valid stands from is (subst (λ (one : Instr). Does one flow edge.to state next) (sym same) did))
        (does instr flow edge.to edge.place state choices stays_inside)

    by_instr : edge.from ≡ state.point → (instr : Instr) → edge.instr ≡ instr → Leaves (execute flow instr edge.to edge.place state choices) (IsStateOf flow)
    by_instr from (Call number arguments into) same = call_stands flow edge state choices number arguments into valid stands from same is
    by_instr from (Return result) same = return_stands flow edge state choices result valid stands from same is
    by_instr from instr same = inside from instr same refl

    by_point : (here : Bool) → nat_eq edge.from state.point ≡ here →
        Leaves (if here then execute flow edge.instr edge.to edge.place state choices else Barred) (IsStateOf flow)
    by_point true here = by_instr (eqb-true edge.from state.point here) edge.instr refl
    by_point false here = tt

pub steps_keep : DoStepsKeep
steps_keep flow edge state next choices rest valid stands is goes =
    left_state (step_along flow edge state choices) (IsStateOf flow) next rest (along_stands flow edge state choices valid stands is) goes

-- the first edge that is not barred
among_stands : (flow : Flow) (edges : List FlowEdge) (state : State) (choices : List Choice) → IsFlow flow →
    ((edge : FlowEdge) → Among edges edge → Contains flow.edges edge) → IsStateOf flow state → Leaves (step_among flow edges state choices) (IsStateOf flow)
among_stands flow [] state choices valid stand is = tt
among_stands flow (edge ∷ rest) state choices valid stand is =
    by_outcome (step_along flow edge state choices) (along_stands flow edge state choices valid (stand edge (inl refl)) is)
    (among_stands flow rest state choices valid (λ one among. stand one (inr among)) is)
  where
    by_outcome : (outcome : Outcome) → Leaves outcome (IsStateOf flow) → Leaves (step_among flow rest state choices) (IsStateOf flow) →
        Leaves (unless_barred outcome (step_among flow rest state choices)) (IsStateOf flow)
    by_outcome (Went next more) leaves later = leaves
    by_outcome Barred leaves later = later
    by_outcome Waits leaves later = tt
    by_outcome Ended leaves later = tt
    by_outcome (Faulted kind place) leaves later = tt

-- the start
statics_made : (flow : Flow) (number : ℕ) (variables : List Variable) (state : State) (choices : List Choice) →
    Leaves (with_statics number variables state choices) (Made [] state)
statics_made flow number [] state choices = record { point = refl; variables = refl; registers = refl; callers = refl }
statics_made flow number (variable ∷ rest) state choices = by_kind variable.fixed (statics_made flow (number + 1) rest)
  where
    by_kind : (fixed : Bool) → ((state : State) (choices : List Choice) → Leaves (with_statics (number + 1) rest state choices) (Made [] state)) →
        Leaves (if fixed
        then with_new_block storage.Static variable.size true state choices (λ after block more. with_statics (number + 1) rest
        (record after { statics = put_owned (record { variable = number; block = block }) after.statics }) more)
        else with_statics (number + 1) rest state choices) (Made [] state)
    by_kind true more = Leaves-new_block storage.Static variable.size true state choices
        (λ after block more. with_statics (number + 1) rest
        (record after { statics = put_owned (record { variable = number; block = block }) after.statics }) more) (Made [] state)
        (λ block choices.
        let between : State = record state {
          memory = placed state.memory block;
          statics = put_owned (record { variable = number; block = length state.memory }) state.statics;
        } in
        Leaves-weaker (with_statics (number + 1) rest between choices) (Made [] between) (Made [] state)
        (λ next made. record { point = made.point; variables = made.variables; registers = made.registers; callers = made.callers })
        (more between choices))
    by_kind false more = more state choices

start_stands : (flow : Flow) (choices : List Choice) → IsFlow flow → Leaves (start flow choices) (IsStateOf flow)
start_stands flow choices valid = by_statics (with_statics 0 flow.variables (blank (entry_of flow flow.main)) choices)
    (statics_made flow 0 flow.variables (blank (entry_of flow flow.main)) choices)
  where
    main : (function : FlowFunction) × (slice_get flow.functions flow.main ≡ Some function)
    main = elim (slice_get_cases flow.functions flow.main).1 [
      | inl found ↦ (found.0, found.2)
      | inr past ↦ (let below = valid.in_range.main in let above = past.0 in absurd (omega arith))
    ]

    parameters : parameters_of flow flow.main ≡ main.0.parameters
    parameters = ap (λ (found : Option FlowFunction). option_map_or (λ found. found.parameters) found []) main.1

    entry : entry_of flow flow.main ≡ main.0.entry
    entry = ap (λ (found : Option FlowFunction). option_map_or (λ found. found.entry) found 0) main.1

    begins : (state next : State) → Made [] (blank (entry_of flow flow.main)) state → Made (parameters_of flow flow.main) state next → IsStateOf flow next
    begins state next made made' = record {
      frame = record {
        variables = made'.variables ∙ (ap (λ (owned : List ℕ). with_variables (parameters_of flow flow.main) owned) made.variables
            ∙ (ap (λ (new : List ℕ). with_variables new []) parameters
            ∙ (entry_stands flow flow.main main.0 valid main.1 ∙ ap (λ (point : ℕ). (stands_at flow point).variables) (sym at_entry))));
        registers = ap (λ (held : List Held). map width held) (made'.registers ∙ made.registers)
            ∙ (sym (All-at (λ one. (stands_at flow one.entry).registers ≡ []) flow.functions flow.main main.0 main.1 valid.entry_registers)
            ∙ ap (λ (point : ℕ). (stands_at flow point).registers) (sym at_entry));
      };
      callers = subst (λ (callers : List Caller). AreCallersAt flow next.point callers) (sym (made'.callers ∙ made.callers)) tt;
    }
      where
        at_entry : next.point ≡ main.0.entry
        at_entry = made'.point ∙ (made.point ∙ entry)

    by_statics : (outcome : Outcome) → Leaves outcome (Made [] (blank (entry_of flow flow.main))) →
        Leaves (then_go outcome (λ state more. entered flow (parameters_of flow flow.main)
        (with_memory (with_initials state.statics flow.initial state.memory) state) more)) (IsStateOf flow)
    by_statics (Went state more) made =
        let after : State = with_memory (with_initials state.statics flow.initial state.memory) state in
        Leaves-weaker (entered flow (parameters_of flow flow.main) after more) (Made (parameters_of flow flow.main) after) (IsStateOf flow)
        (λ next made'. begins state next made (record { point = made'.point; variables = made'.variables; registers = made'.registers; callers = made'.callers }))
        (enters flow (parameters_of flow flow.main) after more)
    by_statics Barred made = tt
    by_statics Waits made = tt
    by_statics Ended made = tt
    by_statics (Faulted kind place) made = tt

pub starts_keep : DoStartsKeep
starts_keep flow state choices rest valid is = left_state (start flow choices) (IsStateOf flow) state rest (start_stands flow choices valid) is

-- runs
run_stands : (flow : Flow) (steps : ℕ) → IsFlow flow → (state : State) (choices : List Choice) → IsStateOf flow state → Leaves (run steps flow state choices) (IsStateOf flow)
run_stands flow zero valid state choices is = is
run_stands flow (suc steps) valid state choices is =
    Leaves-then (step flow state choices) (run steps flow) (IsStateOf flow) (IsStateOf flow)
    (among_stands flow flow.edges state choices valid (λ edge among. Contains-among flow.edges edge among) is)
    (λ next more stands. run_stands flow steps valid next more stands)

pub runs_keep : DoRunsKeep
runs_keep flow state choices rest steps valid is =
    left_state (then_go (start flow choices) (run steps flow)) (IsStateOf flow) state rest
    (Leaves-then (start flow choices) (run steps flow) (IsStateOf flow) (IsStateOf flow) (start_stands flow choices valid)
    (λ next more stands. run_stands flow steps valid next more stands)) is
