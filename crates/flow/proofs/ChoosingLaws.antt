-- A step takes its choices in order, as many as it asks for.
use Rattle.std.proofs.Common.{◌≡◌, ◌≢◌, ℕ, zero, suc, ◌+◌, ◌<◌, ◌≤◌, ◌⊎◌, inl, inr, List, [], ◌∷◌, ◌++◌, length, take, drop, Bool, true, false, refl, sym, ap, subst, ◌∙◌, Option, None, Some, arith}
use Rattle.std.specs.Prelude.{pos, ◌^◌, ◌&&◌, ◌||◌, not, if◌then◌else◌, nat_eq, nat_lt, slice_get, Contains, sum_by}
use Rattle.std.specs.List.{list_all}
use Rattle.std.specs.Option.{option_map_or}
use Rattle.std.proofs.lemmas.List.{append-nil}
use Rattle.std.proofs.lemmas.List.Sums.{sum_by-append}
use Rattle.std.proofs.lemmas.List.Elements.{All-nil, All-cons}
use Rattle.cbase.specs.declared.place.Place.{Place}
use Rattle.bytes_core.specs.declared.word.Word.TheVariants.{Plain, To}
use Rattle.bytes_core.specs.declared.block.BlockKind.{BlockKind}
use Rattle.bytes_core.specs.declared.block.BlockKind.TheVariants as storage
use Rattle.bytes_core.specs.Fault.{memory_lost, block_never_freed}
use Rattle.bytes_core.specs.Placement.{new_block, is_new_block, placed}
use Rattle.bytes_core.specs.Access.{stored}
use Rattle.bytes_core.specs.Loss.{is_lost}
use Rattle.flow.specs.declared.instruction.Instr.{Instr}
use Rattle.flow.specs.declared.instruction.Instr.TheVariants.{Number, Address, Move, Read, Write, Shift, ShiftBy, Compute, Convert, IfSame, IfDifferent, Allocate, AllocateNone, Release, Fill, Copy, Enter, Leave, Finish, Input, Call, Return, Close}
use Rattle.flow.specs.declared.flow_graph.Flow.{Flow}
use Rattle.flow.specs.declared.flow_graph.FlowEdge.{FlowEdge}
use Rattle.flow.specs.declared.flow_graph.FlowFunction.{FlowFunction}
use Rattle.flow.specs.declared.flow_graph.Variable.{Variable}
use Rattle.flow.specs.Holding.{Held, emptied, put_owned, held_by}
use Rattle.choices.specs.declared.choice.Choice.{Choice}
use Rattle.choices.specs.declared.choice.Choice.TheVariants.{None as NoBlock, Block as NewBlock, Input as GivenInput}
use Rattle.flow.specs.Machine.{Caller, State, Outcome, Went, Barred, Waits, Ended, Faulted, execute, step, step_along, step_among, unless_barred, given, unless_fault, unless_lost, if_computed, with_new_block, with_variable, with_memory, with_value, entered, with_parameters, with_arguments, size_in, at, block_here, addressed, allocated, allocated_none, received, called, returned, result_of, roots}
use Rattle.flow.specs.Runs.{parameters_of, then_go, with_statics, with_initials, start, run, blank}
use Rattle.flow.specs.InRange.{entry_of}
use Rattle.flow.proofs.Ascending.{Among, Contains-among}
use Rattle.flow.specs.Choosing.{choices_asked, with_more, IsByFirst, AreStepsByFirst, run_along, AreRunsByFirst, GoesAlong, DoRunsGoAlong, DoRunsKeepMore}

-- an outcome that asks for nothing more: it stops, or leaves a state with all choices
abbrev Ends : Outcome → Type 0
Ends (Went next []) = Unit {0}
Ends (Went next (first ∷ rest)) = ⊥
Ends Barred = Unit {0}
Ends Waits = ⊥
Ends Ended = Unit {0}
Ends (Faulted kind place) = Unit {0}

abbrev Stops : Outcome → Type 0
Stops (Went next rest) = ⊥
Stops Barred = Unit {0}
Stops Waits = ⊥
Stops Ended = Unit {0}
Stops (Faulted kind place) = Unit {0}

-- what takes so many choices: it stops whatever they are, or it ends where none is asked for, or it waits for the first
-- and takes the others behind it
abbrev TakesSo : ℕ → (List Choice → Outcome) → Type 0
TakesSo zero outcome = (end : Outcome) × Ends end × ((choices : List Choice) → outcome choices ≡ with_more choices end)
TakesSo (suc asked) outcome =
    ((end : Outcome) × Stops end × ((choices : List Choice) → outcome choices ≡ end))
    ⊎ ((outcome [] ≡ Waits) × ((first : Choice) → TakesSo asked (λ rest. outcome (first ∷ rest))))

record Takes (asked : ℕ) (outcome : List Choice → Outcome) : Type 0 where
  so : TakesSo asked outcome

-- what an outcome that takes so many choices is determined by
with_more-stop : (end : Outcome) (more : List Choice) → Stops end → end ≡ with_more more end
with_more-stop (Went next rest) more stops = absurd stops
with_more-stop Barred more stops = refl
with_more-stop Waits more stops = absurd stops
with_more-stop Ended more stops = refl
with_more-stop (Faulted kind place) more stops = refl

with_more-none : (outcome : Outcome) → with_more [] outcome ≡ outcome
with_more-none (Went next rest) = ap (λ (choices : List Choice). Went next choices) (append-nil rest)
with_more-none Barred = refl
with_more-none Waits = refl
with_more-none Ended = refl
with_more-none (Faulted kind place) = refl

with_more-twice : (end : Outcome) (choices more : List Choice) → Ends end → with_more (choices ++ more) end ≡ with_more more (with_more choices end)
with_more-twice (Went next []) choices more ends = refl
with_more-twice (Went next (first ∷ rest)) choices more ends = absurd ends
with_more-twice Barred choices more ends = refl
with_more-twice Waits choices more ends = absurd ends
with_more-twice Ended choices more ends = refl
with_more-twice (Faulted kind place) choices more ends = refl

stop_went : (end : Outcome) (next : State) (rest : List Choice) → Stops end → end ≡ Went next rest → ⊥
stop_went (Went next' rest') next rest stops is = stops
stop_went Barred next rest stops is = absurd (cc)
stop_went Waits next rest stops is = stops
stop_went Ended next rest stops is = absurd (cc)
stop_went (Faulted kind place) next rest stops is = absurd (cc)

stop_waits : (end : Outcome) → Stops end → end ≡ Waits → ⊥
stop_waits (Went next' rest') stops is = stops
stop_waits Barred stops is = absurd (cc)
stop_waits Waits stops is = stops
stop_waits Ended stops is = absurd (cc)
stop_waits (Faulted kind place) stops is = absurd (cc)

end_went : (end : Outcome) (choices : List Choice) (next : State) (rest : List Choice) → Ends end → with_more choices end ≡ Went next rest → rest ≡ choices
end_went (Went next' []) choices next rest ends is = cc
end_went (Went next' (first ∷ rest')) choices next rest ends is = absurd ends
end_went Barred choices next rest ends is = absurd (cc)
end_went Waits choices next rest ends is = absurd ends
end_went Ended choices next rest ends is = absurd (cc)
end_went (Faulted kind place) choices next rest ends is = absurd (cc)

end_waits : (end : Outcome) (choices : List Choice) → Ends end → with_more choices end ≡ Waits → ⊥
end_waits (Went next' []) choices ends is = absurd (cc)
end_waits (Went next' (first ∷ rest')) choices ends is = absurd ends
end_waits Barred choices ends is = absurd (cc)
end_waits Waits choices ends is = ends
end_waits Ended choices ends is = absurd (cc)
end_waits (Faulted kind place) choices ends is = absurd (cc)

by_first : (asked : ℕ) (outcome : List Choice → Outcome) → TakesSo asked outcome → (choices : List Choice) →
    outcome choices ≡ with_more (drop asked choices) (outcome (take asked choices))
by_first zero outcome (end, ends, is) choices = is choices ∙ (ap (with_more choices) (sym (with_more-none end) ∙ sym (is [])))
by_first (suc asked) outcome (inl (end, stops, is)) choices =
    is choices ∙ (with_more-stop end (drop (suc asked) choices) stops ∙ ap (with_more (drop (suc asked) choices)) (sym (is (take (suc asked) choices))))
by_first (suc asked) outcome (inr (waits, each)) [] = waits ∙ ap (with_more []) (sym waits)
by_first (suc asked) outcome (inr (waits, each)) (first ∷ rest) = by_first asked (λ rest. outcome (first ∷ rest)) (each first) rest

by_taken : (asked : ℕ) (outcome : List Choice → Outcome) → TakesSo asked outcome → (choices : List Choice) (next : State) (rest : List Choice) →
    outcome choices ≡ Went next rest → (asked ≤ length choices) × (rest ≡ drop asked choices)
by_taken zero outcome (end, ends, is) choices next rest went = (omega arith, end_went end choices next rest ends (sym (is choices) ∙ went))
by_taken (suc asked) outcome (inl (end, stops, is)) choices next rest went = absurd (stop_went end next rest stops (sym (is choices) ∙ went))
by_taken (suc asked) outcome (inr (waits, each)) [] next rest went = let e : Waits ≡ Went next rest = sym waits ∙ went in absurd (cc)
by_taken (suc asked) outcome (inr (waits, each)) (first ∷ more) next rest went =
    let found = by_taken asked (λ rest. outcome (first ∷ rest)) (each first) more next rest went in
    (let less = found.0 in omega arith, found.1)

by_waits : (asked : ℕ) (outcome : List Choice → Outcome) → TakesSo asked outcome → (choices : List Choice) → outcome choices ≡ Waits → length choices < asked
by_waits zero outcome (end, ends, is) choices waits = absurd (end_waits end choices ends (sym (is choices) ∙ waits))
by_waits (suc asked) outcome (inl (end, stops, is)) choices waits = absurd (stop_waits end stops (sym (is choices) ∙ waits))
by_waits (suc asked) outcome (inr (waits', each)) [] waits = omega arith
by_waits (suc asked) outcome (inr (waits', each)) (first ∷ rest) waits =
    let less = by_waits asked (λ rest. outcome (first ∷ rest)) (each first) rest waits in omega arith

by_more : (asked : ℕ) (outcome : List Choice → Outcome) → TakesSo asked outcome → (choices more : List Choice) → outcome choices ≢ Waits →
    outcome (choices ++ more) ≡ with_more more (outcome choices)
by_more zero outcome (end, ends, is) choices more goes = is (choices ++ more) ∙ (with_more-twice end choices more ends ∙ ap (with_more more) (sym (is choices)))
by_more (suc asked) outcome (inl (end, stops, is)) choices more goes = is (choices ++ more) ∙ (with_more-stop end more stops ∙ ap (with_more more) (sym (is choices)))
by_more (suc asked) outcome (inr (waits, each)) [] more goes = absurd (goes waits)
by_more (suc asked) outcome (inr (waits, each)) (first ∷ rest) more goes = by_more asked (λ rest. outcome (first ∷ rest)) (each first) rest more goes

is_by_first : (asked : ℕ) (outcome : List Choice → Outcome) → Takes asked outcome → IsByFirst asked outcome
is_by_first asked outcome takes = record {
  first = by_first asked outcome takes.so;
  taken = by_taken asked outcome takes.so;
  waits = by_waits asked outcome takes.so;
  more = by_more asked outcome takes.so;
}

-- what takes choices
takes_stop : (asked : ℕ) (end : Outcome) → Stops end → Takes asked (λ choices. end)
takes_stop zero end stops = record { so = (end, ends end stops, λ choices. with_more-stop end choices stops) }
  where
    ends : (end : Outcome) → Stops end → Ends end
    ends (Went next rest) stops = absurd stops
    ends Barred stops = tt
    ends Waits stops = absurd stops
    ends Ended stops = tt
    ends (Faulted kind place) stops = tt
takes_stop (suc asked) end stops = record { so = inl (end, stops, λ choices. refl) }

takes_ended : (asked : ℕ) → Takes asked (λ choices. Ended)
takes_ended asked = takes_stop asked Ended tt

takes_barred : (asked : ℕ) → Takes asked (λ choices. Barred)
takes_barred asked = takes_stop asked Barred tt

takes_went : (state : State) → Takes 0 (λ choices. Went state choices)
takes_went state = record { so = (Went state [], tt, λ choices. refl) }

takes_given : (asked : ℕ) (found : Option Held) (onward : Held → List Choice → Outcome) → ((held : Held) → Takes asked (onward held)) →
    Takes asked (λ choices. given found (λ held. onward held choices))
takes_given asked None onward each = takes_ended asked
takes_given asked (Some held) onward each = each held

takes_unless_fault : (asked : ℕ) (fault : Option ℕ) (place : Place) (onward : List Choice → Outcome) → Takes asked onward →
    Takes asked (λ choices. unless_fault fault place (onward choices))
takes_unless_fault asked None place onward takes = takes
takes_unless_fault asked (Some kind) place onward takes = takes_stop asked (Faulted kind place) tt

takes_if_computed : (asked : ℕ) (found : Option ℕ) (onward : ℕ → List Choice → Outcome) → ((number : ℕ) → Takes asked (onward number)) →
    Takes asked (λ choices. if_computed found (λ number. onward number choices))
takes_if_computed asked None onward each = takes_ended asked
takes_if_computed asked (Some number) onward each = each number

takes_if : (asked : ℕ) (test : Bool) (one other : List Choice → Outcome) → Takes asked one → Takes asked other →
    Takes asked (λ choices. if test then one choices else other choices)
takes_if asked true one other takes takes' = takes
takes_if asked false one other takes takes' = takes'

takes_unless_lost : (place : Place) (state : State) → Takes 0 (λ choices. unless_lost place state choices)
takes_unless_lost place state = takes_if 0 (is_lost state.memory (roots state)) (λ choices. Faulted memory_lost place) (λ choices. Went state choices)
    (takes_stop 0 (Faulted memory_lost place) tt) (takes_went state)

takes_new_block : (asked : ℕ) (kind : BlockKind) (size : ℕ) (zeroed : Bool) (state : State) (onward : State → ℕ → List Choice → Outcome) →
    ((after : State) (block : ℕ) → Takes asked (onward after block)) →
    Takes (suc asked) (λ choices. with_new_block kind size zeroed state choices onward)
takes_new_block asked kind size zeroed state onward each = record { so = inr (refl, by_choice) }
  where
    by_choice : (first : Choice) → TakesSo asked (λ rest. with_new_block kind size zeroed state (first ∷ rest) onward)
    by_choice NoBlock = (takes_ended asked).so
    by_choice (GivenInput number) = (takes_ended asked).so
    by_choice (NewBlock base contents) = (takes_if asked (is_new_block state.memory kind size base contents && (not zeroed || list_all (nat_eq 0) contents))
        (λ choices. onward (with_memory (placed state.memory (new_block kind base contents)) state) (length state.memory) choices) (λ choices. Ended)
        (each (with_memory (placed state.memory (new_block kind base contents)) state) (length state.memory)) (takes_ended asked)).so

takes_entered : (flow : Flow) (variables : List ℕ) (state : State) → Takes (length variables) (λ choices. entered flow variables state choices)
takes_entered flow [] state = takes_went state
takes_entered flow (variable ∷ rest) state = takes_new_block (length rest) storage.Local (size_in flow variable) false state
    (λ after block more. entered flow rest (with_variable variable block after) more)
    (λ after block. takes_entered flow rest (with_variable variable block after))

takes_parameters : (flow : Flow) (variables : List ℕ) (arguments : List Held) (state : State) →
    Takes (length variables) (λ choices. with_parameters flow variables arguments state choices)
takes_parameters flow [] arguments state = takes_went state
takes_parameters flow (variable ∷ rest) [] state = takes_ended (length (variable ∷ rest))
takes_parameters flow (variable ∷ rest) (argument ∷ arguments) state = takes_new_block (length rest) storage.Local (size_in flow variable) false state
    (λ after block more. with_parameters flow rest arguments
    (with_memory (stored after.memory (To block (pos 0)) argument.size argument.word) (with_variable variable block after)) more)
    (λ after block. takes_parameters flow rest arguments
    (with_memory (stored after.memory (To block (pos 0)) argument.size argument.word) (with_variable variable block after)))

takes_arguments : (asked : ℕ) (registers : List Held) (arguments : List ℕ) (onward : List Held → List Choice → Outcome) →
    ((held : List Held) → Takes asked (onward held)) → Takes asked (λ choices. with_arguments registers arguments (λ held. onward held choices))
takes_arguments asked registers [] onward each = each []
takes_arguments asked registers (first ∷ rest) onward each =
    takes_given asked (held_by registers first) (λ held choices. with_arguments registers rest (λ more. onward (held ∷ more) choices))
    (λ held. takes_arguments asked registers rest (λ more. onward (held ∷ more)) (λ more. each (held ∷ more)))

-- each instruction
abbrev parameters_in : Option FlowFunction → List ℕ
parameters_in found = option_map_or (λ found. found.parameters) found []

takes_called : (flow : Flow) (found : Option FlowFunction) (arguments : List ℕ) (into : Option ℕ) (onward : ℕ) (state : State) →
    Takes (length (parameters_in found)) (λ choices. called flow found arguments into onward state choices)
takes_called flow None arguments into onward state = takes_ended 0
takes_called flow (Some function) arguments into onward state = takes_arguments (length function.parameters) state.frame.registers arguments
    (λ held choices. with_parameters flow function.parameters held
    (record state {
      point = function.entry;
      frame = record { variables = []; registers = [] };
      callers = record { frame = record state.frame { registers = emptied arguments state.frame.registers }; point = onward; into = into } ∷ state.callers;
    }) choices)
    (λ held. takes_parameters flow function.parameters held
    (record state {
      point = function.entry;
      frame = record { variables = []; registers = [] };
      callers = record { frame = record state.frame { registers = emptied arguments state.frame.registers }; point = onward; into = into } ∷ state.callers;
    }))

takes : (flow : Flow) (instr : Instr) (to : ℕ) (place : Place) (state : State) → Takes (choices_asked flow instr) (execute flow instr to place state)
takes flow (Number into number size) to place state = takes_went (at to (with_value into size (Plain number) state))
takes flow (Address into variable) to place state = by_block (block_here state variable)
  where
    by_block : (found : Option ℕ) → Takes 0 (λ choices. addressed found into (at to state) choices)
    by_block None = takes_ended 0
    by_block (Some block) = takes_went (with_value into 8 (To block (pos 0)) (at to state))
takes flow (Move into from) to place state = search (takes_given, takes_went)
takes flow (Read into address size pointer) to place state = search (takes_given, takes_unless_fault, takes_went)
takes flow (Write address from size) to place state = search (takes_given, takes_unless_fault, takes_went)
takes flow (Shift into address by) to place state = search (takes_given, takes_went)
takes flow (ShiftBy into address by scale) to place state = search (takes_given, takes_went)
takes flow (Compute into op one other size signed) to place state = search (takes_given, takes_if_computed, takes_went)
takes flow (Convert into from size signed) to place state = search (takes_given, takes_went)
takes flow (IfSame one other) to place state = search (takes_given, takes_if, takes_went, takes_barred)
takes flow (IfDifferent one other) to place state = search (takes_given, takes_if, takes_went, takes_barred)
takes flow (Allocate into bytes zeroed) to place state = record { so = inr (refl, by_choice) }
  where
    by_choice : (first : Choice) → TakesSo 0 (λ rest. allocated into bytes zeroed (at to state) (first ∷ rest))
    by_choice NoBlock = (takes_barred 0).so
    by_choice (NewBlock base contents) = (takes_if 0 (is_new_block state.memory storage.Heap bytes base contents && (not zeroed || list_all (nat_eq 0) contents))
        (λ rest. Went (with_value into 8 (To (length state.memory) (pos 0)) (with_memory (placed state.memory (new_block storage.Heap base contents)) (at to state))) rest) (λ rest. Ended)
        (takes_went (with_value into 8 (To (length state.memory) (pos 0)) (with_memory (placed state.memory (new_block storage.Heap base contents)) (at to state)))) (takes_ended 0)).so
    by_choice (GivenInput number) = (takes_ended 0).so
takes flow (AllocateNone into) to place state = record { so = inr (refl, by_choice) }
  where
    by_choice : (first : Choice) → TakesSo 0 (λ rest. allocated_none into (at to state) (first ∷ rest))
    by_choice NoBlock = (takes_went (with_value into 8 (Plain 0) (at to state))).so
    by_choice (NewBlock base contents) = (takes_barred 0).so
    by_choice (GivenInput number) = (takes_ended 0).so
takes flow (Release address) to place state = search (takes_given, takes_unless_fault, takes_went)
takes flow (Fill address from count) to place state = search (takes_given, takes_unless_fault, takes_went)
takes flow (Copy target from count disjoint) to place state = search (takes_given, takes_unless_fault, takes_went)
takes flow (Enter variables) to place state = takes_entered flow variables (at to state)
takes flow (Leave variables) to place state = search (takes_unless_lost)
takes flow (Finish registers) to place state = search (takes_unless_lost)
takes flow (Input into size signed truth) to place state = record { so = inr (refl, by_choice) }
  where
    by_choice : (first : Choice) → TakesSo 0 (λ rest. received into size truth (at to state) (first ∷ rest))
    by_choice NoBlock = (takes_ended 0).so
    by_choice (NewBlock base contents) = (takes_ended 0).so
    by_choice (GivenInput number) = (takes_if 0 (nat_lt number (if truth then 2 else 256 ^ size)) (λ rest. Went (with_value into size (Plain number) (at to state)) rest)
        (λ rest. Ended) (takes_went (with_value into size (Plain number) (at to state))) (takes_ended 0)).so
takes flow (Call function arguments into) to place state = takes_called flow (slice_get flow.functions function) arguments into to state
takes flow (Return from) to place state = by_callers state.callers
  where
    by_callers : (callers : List Caller) → Takes 0 (λ choices. returned (result_of from state.frame.registers) callers state choices)
    by_callers [] = takes_ended 0
    by_callers (caller ∷ callers) = search (takes_went)
takes flow Close to place state = takes_if 0 (is_lost state.memory []) (λ choices. Faulted block_never_freed place) (λ choices. Went (at to state) choices)
    (takes_stop 0 (Faulted block_never_freed place) tt) (takes_went (at to state))

takes_along : (flow : Flow) (edge : FlowEdge) (state : State) → Takes (choices_asked flow edge.instr) (step_along flow edge state)
takes_along flow edge state = takes_if (choices_asked flow edge.instr) (nat_eq edge.from state.point)
    (execute flow edge.instr edge.to edge.place state) (λ choices. Barred) (takes flow edge.instr edge.to edge.place state) (takes_barred (choices_asked flow edge.instr))

pub steps_by_first : AreStepsByFirst
steps_by_first flow edge state = is_by_first (choices_asked flow edge.instr) (step_along flow edge state) (takes_along flow edge state)

-- what takes choices, and then more
abbrev then_ended : Outcome → List Choice → (State → List Choice → Outcome) → Outcome
then_ended (Went next rest) choices onward = onward next choices
then_ended Barred choices onward = Barred
then_ended Waits choices onward = Waits
then_ended Ended choices onward = Ended
then_ended (Faulted kind place) choices onward = Faulted kind place

then_with_more : (end : Outcome) (choices : List Choice) (onward : State → List Choice → Outcome) → Ends end →
    then_go (with_more choices end) onward ≡ then_ended end choices onward
then_with_more (Went next []) choices onward ends = refl
then_with_more (Went next (first ∷ rest)) choices onward ends = absurd ends
then_with_more Barred choices onward ends = refl
then_with_more Waits choices onward ends = absurd ends
then_with_more Ended choices onward ends = refl
then_with_more (Faulted kind place) choices onward ends = refl

then_stop : (end : Outcome) (onward : State → List Choice → Outcome) → Stops end → then_go end onward ≡ end
then_stop (Went next rest) onward stops = absurd stops
then_stop Barred onward stops = refl
then_stop Waits onward stops = absurd stops
then_stop Ended onward stops = refl
then_stop (Faulted kind place) onward stops = refl

takes_same : (asked : ℕ) (one other : List Choice → Outcome) → ((choices : List Choice) → one choices ≡ other choices) → Takes asked other → Takes asked one
takes_same asked one other same takes = record { so = by_count asked one other same takes.so }
  where
    by_count : (asked : ℕ) (one other : List Choice → Outcome) → ((choices : List Choice) → one choices ≡ other choices) → TakesSo asked other → TakesSo asked one
    by_count zero one other same (end, ends, is) = (end, ends, λ choices. same choices ∙ is choices)
    by_count (suc asked) one other same (inl (end, stops, is)) = inl (end, stops, λ choices. same choices ∙ is choices)
    by_count (suc asked) one other same (inr (waits, each)) = inr (
      same [] ∙ waits,
      λ first. by_count asked (λ rest. one (first ∷ rest)) (λ rest. other (first ∷ rest)) (λ rest. same (first ∷ rest)) (each first),
    )

takes_then_ended : (asked : ℕ) (end : Outcome) (onward : State → List Choice → Outcome) → Ends end → ((next : State) → Takes asked (onward next)) →
    Takes asked (λ choices. then_ended end choices onward)
takes_then_ended asked (Went next []) onward ends each = each next
takes_then_ended asked (Went next (first ∷ rest)) onward ends each = absurd ends
takes_then_ended asked Barred onward ends each = takes_barred asked
takes_then_ended asked Waits onward ends each = absurd ends
takes_then_ended asked Ended onward ends each = takes_ended asked
takes_then_ended asked (Faulted kind place) onward ends each = takes_stop asked (Faulted kind place) tt

takes_then : (asked more : ℕ) (outcome : List Choice → Outcome) (onward : State → List Choice → Outcome) → TakesSo asked outcome →
    ((next : State) → Takes more (onward next)) → Takes (asked + more) (λ choices. then_go (outcome choices) onward)
takes_then zero more outcome onward (end, ends, is) each =
    let none : zero + more ≡ more = omega arith in
    subst (λ (count : ℕ). Takes count (λ choices. then_go (outcome choices) onward)) (sym none)
    (takes_same more (λ choices. then_go (outcome choices) onward) (λ choices. then_ended end choices onward)
    (λ choices. ap (λ (one : Outcome). then_go one onward) (is choices) ∙ then_with_more end choices onward ends)
    (takes_then_ended more end onward ends each))
takes_then (suc asked) more outcome onward (inl (end, stops, is)) each =
    takes_same (suc asked + more) (λ choices. then_go (outcome choices) onward) (λ choices. end)
    (λ choices. ap (λ (one : Outcome). then_go one onward) (is choices) ∙ then_stop end onward stops) (takes_stop (suc asked + more) end stops)
takes_then (suc asked) more outcome onward (inr (waits, each_first)) each =
    let one : suc asked + more ≡ suc (asked + more) = omega arith in
    subst (λ (count : ℕ). Takes count (λ choices. then_go (outcome choices) onward)) (sym one)
    (record {
      so = inr (
        ap (λ (one : Outcome). then_go one onward) waits,
        λ first. (takes_then asked more (λ rest. outcome (first ∷ rest)) onward (each_first first) each).so,
      );
    })

takes_run : (flow : Flow) (edges : List FlowEdge) (state : State) → Takes (sum_by (λ edge. choices_asked flow edge.instr) edges) (run_along flow edges state)
takes_run flow [] state = takes_went state
takes_run flow (edge ∷ rest) state =
    let asked : FlowEdge → ℕ = λ edge. choices_asked flow edge.instr in
    let parts : sum_by asked (edge ∷ rest) ≡ (0 + asked edge) + sum_by asked rest = sum_by-append asked (edge ∷ []) rest in
    let count : choices_asked flow edge.instr + sum_by asked rest ≡ sum_by asked (edge ∷ rest) = omega arith in
    subst (λ (count : ℕ). Takes count (run_along flow (edge ∷ rest) state)) count
    (takes_then (choices_asked flow edge.instr) (sum_by (λ edge. choices_asked flow edge.instr) rest)
    (step_along flow edge state) (run_along flow rest) (takes_along flow edge state).so (λ next. takes_run flow rest next))

pub runs_by_first : AreRunsByFirst
runs_by_first flow edges state = is_by_first (sum_by (λ edge. choices_asked flow edge.instr) edges) (run_along flow edges state) (takes_run flow edges state)

-- the edge that a step goes along
step_edge : (flow : Flow) (edges : List FlowEdge) (state next : State) (choices rest : List Choice) → step_among flow edges state choices ≡ Went next rest →
    (edge : FlowEdge) × Among edges edge × (step_along flow edge state choices ≡ Went next rest)
step_edge flow [] state next choices rest goes = absurd (cc)
step_edge flow (edge ∷ more) state next choices rest goes =
    by_outcome (step_along flow edge state choices) refl goes (step_edge flow more state next choices rest)
  where
    by_outcome : (outcome : Outcome) → step_along flow edge state choices ≡ outcome → unless_barred outcome (step_among flow more state choices) ≡ Went next rest →
        (step_among flow more state choices ≡ Went next rest → (edge : FlowEdge) × Among more edge × (step_along flow edge state choices ≡ Went next rest)) →
        (one : FlowEdge) × ((edge ≡ one) ⊎ Among more one) × (step_along flow one state choices ≡ Went next rest)
    by_outcome (Went next' rest') is goes later = (edge, inl refl, is ∙ goes)
    by_outcome Barred is goes later = let found = later goes in (found.0, inr found.1, found.2)
    by_outcome Waits is goes later = absurd (cc)
    by_outcome Ended is goes later = absurd (cc)
    by_outcome (Faulted kind place) is goes later = absurd (cc)

pub runs_go_along : DoRunsGoAlong
runs_go_along flow zero state next choices rest goes = record { edges = []; all = All-nil (Contains flow.edges); count = refl; goes = goes }
runs_go_along flow (suc steps) state next choices rest goes =
    by_outcome (step flow state choices) refl goes (λ middle more. runs_go_along flow steps middle next more rest)
  where
    by_outcome : (outcome : Outcome) → step flow state choices ≡ outcome → then_go outcome (run steps flow) ≡ Went next rest →
        ((middle : State) (more : List Choice) → run steps flow middle more ≡ Went next rest → GoesAlong flow steps middle more next rest) →
        GoesAlong flow (suc steps) state choices next rest
    by_outcome (Went middle more) is goes later =
        let found = step_edge flow flow.edges state middle choices more is in let along = later middle more goes in record {
          edges = found.0 ∷ along.edges;
          all = All-cons (Contains flow.edges) found.0 along.edges (Contains-among flow.edges found.0 found.1) along.all;
          count = let e : length along.edges ≡ steps = along.count in omega arith;
          goes = ap (λ (one : Outcome). then_go one (run_along flow along.edges)) found.2 ∙ along.goes;
        }
    by_outcome Barred is goes later = absurd (cc)
    by_outcome Waits is goes later = absurd (cc)
    by_outcome Ended is goes later = absurd (cc)
    by_outcome (Faulted kind place) is goes later = absurd (cc)

-- choices behind the others
record KeepsMore (outcome : List Choice → Outcome) : Type 0 where
  keeps : (choices more : List Choice) → outcome choices ≢ Waits → outcome (choices ++ more) ≡ with_more more (outcome choices)

same_outcome : (outcome : List Choice → Outcome) (asked : ℕ) → Takes asked outcome → KeepsMore outcome
same_outcome outcome asked takes = record { keeps = by_more asked outcome takes.so }

-- the first of two that is not barred
keeps_unless_barred : (one other : List Choice → Outcome) → KeepsMore one → KeepsMore other → KeepsMore (λ choices. unless_barred (one choices) (other choices))
keeps_unless_barred one other keeps keeps' = record { keeps = λ choices more goes. by_outcome choices more (one choices) refl goes }
  where
    by_outcome : (choices more : List Choice) (outcome : Outcome) → one choices ≡ outcome → (unless_barred outcome (other choices) ≡ Waits → ⊥) →
        unless_barred (one (choices ++ more)) (other (choices ++ more)) ≡ with_more more (unless_barred (one choices) (other choices))
    by_outcome choices more (Went next rest) is goes =
        let kept : one (choices ++ more) ≡ Went next (rest ++ more) = keeps.keeps choices more (λ waits. absurd (let e : Went next rest ≡ Waits = sym is ∙ waits in cc)) ∙ ap (with_more more) is in
        ap (λ (outcome : Outcome). unless_barred outcome (other (choices ++ more))) kept
        ∙ sym (ap (λ (outcome : Outcome). with_more more (unless_barred outcome (other choices))) is)
    by_outcome choices more Barred is goes =
        let kept : one (choices ++ more) ≡ Barred = keeps.keeps choices more (λ waits. absurd (let e : Barred ≡ Waits = sym is ∙ waits in cc)) ∙ ap (with_more more) is in
        ap (λ (outcome : Outcome). unless_barred outcome (other (choices ++ more))) kept
        ∙ (keeps'.keeps choices more goes ∙ sym (ap (λ (outcome : Outcome). with_more more (unless_barred outcome (other choices))) is))
    by_outcome choices more Waits is goes = absurd (goes refl)
    by_outcome choices more Ended is goes =
        let kept : one (choices ++ more) ≡ Ended = keeps.keeps choices more (λ waits. absurd (let e : Ended ≡ Waits = sym is ∙ waits in cc)) ∙ ap (with_more more) is in
        ap (λ (outcome : Outcome). unless_barred outcome (other (choices ++ more))) kept
        ∙ sym (ap (λ (outcome : Outcome). with_more more (unless_barred outcome (other choices))) is)
    by_outcome choices more (Faulted kind place) is goes =
        let kept : one (choices ++ more) ≡ Faulted kind place = keeps.keeps choices more (λ waits. absurd (let e : Faulted kind place ≡ Waits = sym is ∙ waits in cc)) ∙ ap (with_more more) is in
        ap (λ (outcome : Outcome). unless_barred outcome (other (choices ++ more))) kept
        ∙ sym (ap (λ (outcome : Outcome). with_more more (unless_barred outcome (other choices))) is)

keeps_among : (flow : Flow) (edges : List FlowEdge) (state : State) → KeepsMore (step_among flow edges state)
keeps_among flow [] state = record { keeps = λ choices more goes. refl }
keeps_among flow (edge ∷ rest) state = keeps_unless_barred (step_along flow edge state) (step_among flow rest state)
    (same_outcome (step_along flow edge state) (choices_asked flow edge.instr) (takes_along flow edge state)) (keeps_among flow rest state)

-- one after the other
keeps_then : (one : List Choice → Outcome) (onward : State → List Choice → Outcome) → KeepsMore one → ((next : State) → KeepsMore (onward next)) →
    KeepsMore (λ choices. then_go (one choices) onward)
keeps_then one onward keeps keeps' = record { keeps = λ choices more goes. by_outcome choices more (one choices) refl goes }
  where
    by_outcome : (choices more : List Choice) (outcome : Outcome) → one choices ≡ outcome → (then_go (one choices) onward ≡ Waits → ⊥) →
        then_go (one (choices ++ more)) onward ≡ with_more more (then_go (one choices) onward)
    by_outcome choices more (Went next rest) is goes =
        let kept : one (choices ++ more) ≡ Went next (rest ++ more) = keeps.keeps choices more (λ waits. absurd (let e : Went next rest ≡ Waits = sym is ∙ waits in cc)) ∙ ap (with_more more) is in
        let on : then_go (one choices) onward ≡ onward next rest = ap (λ (outcome : Outcome). then_go outcome onward) is in
        ap (λ (outcome : Outcome). then_go outcome onward) kept
        ∙ ((keeps' next).keeps rest more (λ waits. goes (on ∙ waits)) ∙ sym (ap (with_more more) on))
    by_outcome choices more Barred is goes =
        let kept : one (choices ++ more) ≡ Barred = keeps.keeps choices more (λ waits. absurd (let e : Barred ≡ Waits = sym is ∙ waits in cc)) ∙ ap (with_more more) is in
        ap (λ (outcome : Outcome). then_go outcome onward) kept ∙ sym (ap (λ (outcome : Outcome). with_more more (then_go outcome onward)) is)
    by_outcome choices more Waits is goes = absurd (goes (ap (λ (outcome : Outcome). then_go outcome onward) is))
    by_outcome choices more Ended is goes =
        let kept : one (choices ++ more) ≡ Ended = keeps.keeps choices more (λ waits. absurd (let e : Ended ≡ Waits = sym is ∙ waits in cc)) ∙ ap (with_more more) is in
        ap (λ (outcome : Outcome). then_go outcome onward) kept ∙ sym (ap (λ (outcome : Outcome). with_more more (then_go outcome onward)) is)
    by_outcome choices more (Faulted kind place) is goes =
        let kept : one (choices ++ more) ≡ Faulted kind place = keeps.keeps choices more (λ waits. absurd (let e : Faulted kind place ≡ Waits = sym is ∙ waits in cc)) ∙ ap (with_more more) is in
        ap (λ (outcome : Outcome). then_go outcome onward) kept ∙ sym (ap (λ (outcome : Outcome). with_more more (then_go outcome onward)) is)

keeps_run : (flow : Flow) (steps : ℕ) (state : State) → KeepsMore (run steps flow state)
keeps_run flow zero state = record { keeps = λ choices more goes. refl }
keeps_run flow (suc steps) state = keeps_then (step flow state) (run steps flow) (keeps_among flow flow.edges state) (λ next. keeps_run flow steps next)

-- the start takes a choice for each static variable, and one for each parameter of main
static_count : List Variable → ℕ
static_count [] = 0
static_count (variable ∷ rest) = if variable.fixed then suc (static_count rest) else static_count rest

takes_statics : (number : ℕ) (variables : List Variable) (state : State) → Takes (static_count variables) (with_statics number variables state)
unfolding static_count
takes_statics number [] state = takes_went state
takes_statics number (variable ∷ rest) state = by_kind variable.fixed (λ state. takes_statics (number + 1) rest state)
  where
    by_kind : (fixed : Bool) → ((state : State) → Takes (static_count rest) (with_statics (number + 1) rest state)) →
        Takes (if fixed then suc (static_count rest) else static_count rest) (λ choices. if fixed
        then with_new_block storage.Static variable.size true state choices
        (λ after block more. with_statics (number + 1) rest
        (record after { statics = put_owned (record { variable = number; block = block }) after.statics }) more)
        else with_statics (number + 1) rest state choices)
    by_kind true each = takes_new_block (static_count rest) storage.Static variable.size true state
        (λ after block more. with_statics (number + 1) rest
        (record after { statics = put_owned (record { variable = number; block = block }) after.statics }) more)
        (λ after block. each (record after { statics = put_owned (record { variable = number; block = block }) after.statics }))
    by_kind false each = each state

keeps_start : (flow : Flow) → KeepsMore (start flow)
keeps_start flow = keeps_then (with_statics 0 flow.variables (blank (entry_of flow flow.main)))
    (λ state more. entered flow (parameters_of flow flow.main) (with_memory (with_initials state.statics flow.initial state.memory) state) more)
    (same_outcome (with_statics 0 flow.variables (blank (entry_of flow flow.main))) (static_count flow.variables)
    (takes_statics 0 flow.variables (blank (entry_of flow flow.main))))
    (λ state. same_outcome (entered flow (parameters_of flow flow.main) (with_memory (with_initials state.statics flow.initial state.memory) state))
    (length (parameters_of flow flow.main))
    (takes_entered flow (parameters_of flow flow.main) (with_memory (with_initials state.statics flow.initial state.memory) state)))

pub runs_keep_more : DoRunsKeepMore
runs_keep_more = record {
  runs = λ flow steps state. (keeps_run flow steps state).keeps;
  programs = λ flow steps. (keeps_then (start flow) (run steps flow) (keeps_start flow) (λ next. keeps_run flow steps next)).keeps;
}
