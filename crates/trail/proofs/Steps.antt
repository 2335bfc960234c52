-- What a step comes to where no function is called.
use Rattle.std.proofs.Common.{◌≡◌, ℕ, zero, suc, ◌+◌, List, [], ◌∷◌, Bool, true, false, refl, sym, ap, subst, ◌∙◌, ◌⊎◌, inl, inr, Option, None, Some}
use Rattle.std.specs.Prelude.{pos, ◌&&◌, ◌||◌, not, if◌then◌else◌, nat_eq, nat_lt, ◌^◌, length, slice_get}
use Rattle.std.specs.List.{list_all}
use Rattle.std.proofs.lemmas.Bool.{eqb-true}
use Rattle.cbase.specs.declared.place.Place.{Place}
use Rattle.bytes_core.specs.declared.word.Word.TheVariants.{To}
use Rattle.bytes_core.specs.declared.block.BlockKind.{BlockKind}
use Rattle.bytes_core.specs.declared.block.BlockKind.TheVariants as storage
use Rattle.bytes_core.specs.declared.block.Block.{Block}
use Rattle.bytes_core.specs.Fault.{memory_lost, block_never_freed}
use Rattle.bytes_core.specs.Loss.{is_lost}
use Rattle.bytes_core.specs.Placement.{new_block, is_new_block, placed}
use Rattle.flow.specs.declared.instruction.Instr.{Instr}
use Rattle.flow.specs.declared.instruction.Instr.TheVariants.{Number, Address, Move, Read, Write, Shift, ShiftBy, Compute, Convert, IfSame, IfDifferent, Allocate, AllocateNone, Release, Fill, Copy, Enter, Leave, Finish, Input, Call, Return, Close}
use Rattle.flow.specs.declared.flow_graph.Flow.{Flow}
use Rattle.flow.specs.declared.flow_graph.FlowEdge.{FlowEdge}
use Rattle.flow.specs.declared.flow_graph.Variable.{Variable}
use Rattle.flow.specs.Holding.{Held, put_owned}
use Rattle.flow.specs.InRange.{entry_of}
use Rattle.choices.specs.declared.choice.Choice.{Choice}
use Rattle.choices.specs.declared.choice.Choice.TheVariants.{None as NoBlock, Block as NewBlock, Input as GivenInput}
use Rattle.flow.specs.Machine.{Caller, State, Outcome, Went, Barred, Waits, Ended, Faulted, execute, step_along, step_among, step, unless_barred, with_new_block, with_variable, with_memory, with_value, entered, given, unless_fault, if_computed, roots, at, size_in, addressed, block_here, allocated, allocated_none, received, returned, result_of, after_scope}
use Rattle.flow.specs.Runs.{parameters_of, blank, then_go, with_statics, with_initials, start, run}
use Rattle.trail.specs.Seen.{is_call}

-- what an outcome leaves is such, and so is the place of its fault
abbrev pub Tells : Outcome → (State → Type 0) → (Place → Type 0) → Type 0
Tells (Went next rest) P F = P next
Tells Barred P F = Unit {0}
Tells Waits P F = Unit {0}
Tells Ended P F = Unit {0}
Tells (Faulted kind place) P F = F place

pub told_state : (outcome : Outcome) (P : State → Type 0) (F : Place → Type 0) (next : State) (rest : List Choice) →
    Tells outcome P F → outcome ≡ Went next rest → P next
told_state outcome P F next rest tells is = let Q : Outcome → Type 0 = λ o. Tells o P F in subst Q is tells

pub told_place : (outcome : Outcome) (P : State → Type 0) (F : Place → Type 0) (kind : ℕ) (place : Place) →
    Tells outcome P F → outcome ≡ Faulted kind place → F place
told_place outcome P F kind place tells is = let Q : Outcome → Type 0 = λ o. Tells o P F in subst Q is tells

Tells-weaker : (outcome : Outcome) (P Q : State → Type 0) (F G : Place → Type 0) → ((next : State) → P next → Q next) → ((place : Place) → F place → G place) →
    Tells outcome P F → Tells outcome Q G
Tells-weaker (Went next rest) P Q F G weaker places tells = weaker next tells
Tells-weaker Barred P Q F G weaker places tells = tt
Tells-weaker Waits P Q F G weaker places tells = tt
Tells-weaker Ended P Q F G weaker places tells = tt
Tells-weaker (Faulted kind place) P Q F G weaker places tells = places place tells

Tells-then : (outcome : Outcome) (onward : State → List Choice → Outcome) (P Q : State → Type 0) (F : Place → Type 0) → Tells outcome P F →
    ((next : State) (rest : List Choice) → P next → Tells (onward next rest) Q F) → Tells (then_go outcome onward) Q F
Tells-then (Went next rest) onward P Q F tells each = each next rest tells
Tells-then Barred onward P Q F tells each = tt
Tells-then Waits onward P Q F tells each = tt
Tells-then Ended onward P Q F tells each = tt
Tells-then (Faulted kind place) onward P Q F tells each = tells

Tells-given : (found : Option Held) (onward : Held → Outcome) (P : State → Type 0) (F : Place → Type 0) →
    ((held : Held) → Tells (onward held) P F) → Tells (given found onward) P F
Tells-given None onward P F each = tt
Tells-given (Some held) onward P F each = each held

Tells-unless_fault : (fault : Option ℕ) (place : Place) (outcome : Outcome) (P : State → Type 0) → Tells outcome P (λ p. p ≡ place) →
    Tells (unless_fault fault place outcome) P (λ p. p ≡ place)
Tells-unless_fault None place outcome P tells = tells
Tells-unless_fault (Some kind) place outcome P tells = refl

Tells-if_computed : (found : Option ℕ) (onward : ℕ → Outcome) (P : State → Type 0) (F : Place → Type 0) →
    ((number : ℕ) → Tells (onward number) P F) → Tells (if_computed found onward) P F
Tells-if_computed None onward P F each = tt
Tells-if_computed (Some number) onward P F each = each number

Tells-if : (test : Bool) (one other : Outcome) (P : State → Type 0) (F : Place → Type 0) → Tells one P F → Tells other P F → Tells (if test then one else other) P F
Tells-if true one other P F tells tells' = tells
Tells-if false one other P F tells tells' = tells'

Tells-new_block : (kind : BlockKind) (size : ℕ) (zeroed : Bool) (state : State) (choices : List Choice)
    (onward : State → ℕ → List Choice → Outcome) (P : State → Type 0) (F : Place → Type 0) →
    ((block : Block) (rest : List Choice) → Tells (onward (with_memory (placed state.memory block) state) (length state.memory) rest) P F) →
    Tells (with_new_block kind size zeroed state choices onward) P F
Tells-new_block kind size zeroed state [] onward P F each = tt
Tells-new_block kind size zeroed state (NoBlock ∷ choices) onward P F each = tt
Tells-new_block kind size zeroed state (GivenInput number ∷ choices) onward P F each = tt
Tells-new_block kind size zeroed state (NewBlock base contents ∷ choices) onward P F each =
    Tells-if (is_new_block state.memory kind size base contents && (not zeroed || list_all (nat_eq 0) contents))
    (onward (with_memory (placed state.memory (new_block kind base contents)) state) (length state.memory) choices) Ended P F
    (each (new_block kind base contents) choices) tt

-- a state at a point, with these callers and blocks outside
pub record IsAt (point : ℕ) (callers : List Caller) (outer : List ℕ) (state : State) : Type 0 where
  pub point_is : state.point ≡ point
  pub callers_are : state.callers ≡ callers
  pub outer_is : state.outer ≡ outer

abbrev pub Nowhere : Place → Type 0
Nowhere place = ⊥

enters : (flow : Flow) (variables : List ℕ) (state : State) (choices : List Choice) →
    Tells (entered flow variables state choices) (IsAt state.point state.callers state.outer) Nowhere
enters flow [] state choices = record { point_is = refl; callers_are = refl; outer_is = refl }
enters flow (variable ∷ rest) state choices =
    Tells-new_block storage.Local (size_in flow variable) false state choices
    (λ after block more. entered flow rest (with_variable variable block after) more) (IsAt state.point state.callers state.outer) Nowhere
    (λ block more. enters flow rest (with_variable variable (length state.memory) (with_memory (placed state.memory block) state)) more)

statics : (flow : Flow) (number : ℕ) (variables : List Variable) (state : State) (choices : List Choice) →
    Tells (with_statics number variables state choices) (IsAt state.point state.callers state.outer) Nowhere
statics flow number [] state choices = record { point_is = refl; callers_are = refl; outer_is = refl }
statics flow number (variable ∷ rest) state choices = by_kind variable.fixed (statics flow (number + 1) rest)
  where
    by_kind : (fixed : Bool) → ((state : State) (choices : List Choice) → Tells (with_statics (number + 1) rest state choices) (IsAt state.point state.callers state.outer) Nowhere) → Tells (if fixed
        then with_new_block storage.Static variable.size true state choices
        (λ after block more. with_statics (number + 1) rest
        (record after { statics = put_owned (record { variable = number; block = block }) after.statics }) more)
        else with_statics (number + 1) rest state choices) (IsAt state.point state.callers state.outer) Nowhere
    by_kind true later = Tells-new_block storage.Static variable.size true state choices
        (λ after block more. with_statics (number + 1) rest
        (record after { statics = put_owned (record { variable = number; block = block }) after.statics }) more) (IsAt state.point state.callers state.outer) Nowhere
        (λ block more. later
        (let after : State = with_memory (placed state.memory block) state in
        record after { statics = put_owned (record { variable = number; block = length state.memory }) after.statics }) more)
    by_kind false later = later state choices

-- a run begins at main's entry, with no callers and no fault
pub begins : (flow : Flow) (choices : List Choice) → Tells (start flow choices) (IsAt (entry_of flow flow.main) [] []) Nowhere
begins flow choices =
    let onward : State → List Choice → Outcome = λ state more. entered flow (parameters_of flow flow.main) (with_memory (with_initials state.statics flow.initial state.memory) state) more in
    Tells-then (with_statics 0 flow.variables (blank (entry_of flow flow.main)) choices) onward
    (IsAt (entry_of flow flow.main) [] []) (IsAt (entry_of flow flow.main) [] []) Nowhere
    (statics flow 0 flow.variables (blank (entry_of flow flow.main)) choices)
    (λ state more is. Tells-weaker (onward state more) (IsAt state.point state.callers state.outer) (IsAt (entry_of flow flow.main) [] []) Nowhere Nowhere
    (λ next so. record { point_is = so.point_is ∙ is.point_is; callers_are = so.callers_are ∙ is.callers_are; outer_is = so.outer_is ∙ is.outer_is }) (λ place none. none)
    (enters flow (parameters_of flow flow.main) (with_memory (with_initials state.statics flow.initial state.memory) state) more))

-- an instruction that is no call leaves the callers and the blocks outside, goes to the point, and faults at the place
abbrev Does : ℕ → Place → State → Outcome → Type 0
Does to place state outcome = Tells outcome (IsAt to state.callers state.outer) (λ p. p ≡ place)

is_at : (to : ℕ) (state next : State) → next.point ≡ to → next.callers ≡ state.callers → next.outer ≡ state.outer → IsAt to state.callers state.outer next
is_at to state next point callers outer = record { point_is = point; callers_are = callers; outer_is = outer }

pub executes : (flow : Flow) (instr : Instr) (to : ℕ) (place : Place) (state : State) (choices : List Choice) → is_call instr ≡ false → state.callers ≡ [] →
    Does to place state (execute flow instr to place state choices)
executes flow (Number into number size) to place state choices inside alone = record { point_is = refl; callers_are = refl; outer_is = refl }
executes flow (Address into variable) to place state choices inside alone = by_block (block_here state variable)
  where
    by_block : (found : Option ℕ) → Does to place state (addressed found into (at to state) choices)
    by_block None = tt
    by_block (Some block) = record { point_is = refl; callers_are = refl; outer_is = refl }
executes flow (Move into from) to place state choices inside alone = search (Tells-given, is_at)
executes flow (Read into address size pointer) to place state choices inside alone = search (Tells-given, Tells-unless_fault, is_at)
executes flow (Write address from size) to place state choices inside alone = search (Tells-given, Tells-unless_fault, is_at)
executes flow (Shift into address by) to place state choices inside alone = search (Tells-given, is_at)
executes flow (ShiftBy into address by scale) to place state choices inside alone = search (Tells-given, is_at)
executes flow (Compute into op one other size signed) to place state choices inside alone = search (Tells-given, Tells-if_computed, is_at)
executes flow (Convert into from size signed) to place state choices inside alone = search (Tells-given, is_at)
executes flow (IfSame one other) to place state choices inside alone = search (Tells-given, Tells-if, is_at)
executes flow (IfDifferent one other) to place state choices inside alone = search (Tells-given, Tells-if, is_at)
executes flow (Allocate into bytes zeroed) to place state choices inside alone = by_choice choices
  where
    makes : (choices : List Choice) → Does to place state (with_new_block storage.Heap bytes zeroed (at to state) choices
        (λ after block more. Went (with_value into 8 (To block (pos 0)) after) more))
    makes choices = Tells-new_block storage.Heap bytes zeroed (at to state) choices _ _ _ (λ block more. record { point_is = refl; callers_are = refl; outer_is = refl })

    by_choice : (choices : List Choice) → Does to place state (allocated into bytes zeroed (at to state) choices)
    by_choice [] = tt
    by_choice (NoBlock ∷ rest) = tt
    by_choice (NewBlock base contents ∷ rest) = makes (NewBlock base contents ∷ rest)
    by_choice (GivenInput number ∷ rest) = tt
executes flow (AllocateNone into) to place state choices inside alone = by_choice choices
  where
    by_choice : (choices : List Choice) → Does to place state (allocated_none into (at to state) choices)
    by_choice [] = tt
    by_choice (NoBlock ∷ rest) = record { point_is = refl; callers_are = refl; outer_is = refl }
    by_choice (NewBlock base contents ∷ rest) = tt
    by_choice (GivenInput number ∷ rest) = tt
executes flow (Release address) to place state choices inside alone = search (Tells-given, Tells-unless_fault, is_at)
executes flow (Fill address from length) to place state choices inside alone = search (Tells-given, Tells-unless_fault, is_at)
executes flow (Copy target from length disjoint) to place state choices inside alone = search (Tells-given, Tells-unless_fault, is_at)
executes flow (Enter variables) to place state choices inside alone =
    Tells-weaker (entered flow variables (at to state) choices) (IsAt to state.callers state.outer) (IsAt to state.callers state.outer) Nowhere (λ p. p ≡ place)
    (λ next so. so) (λ p none. absurd none) (enters flow variables (at to state) choices)
executes flow (Leave variables) to place state choices inside alone =
    let next : State = at to (after_scope variables state) in
    Tells-if (is_lost next.memory (roots next)) (Faulted memory_lost place) (Went next choices) _ _ refl (record { point_is = refl; callers_are = refl; outer_is = refl })
executes flow (Finish registers) to place state choices inside alone = search (Tells-if, is_at)
executes flow (Input into size signed truth) to place state choices inside alone = by_choice choices
  where
    by_choice : (choices : List Choice) → Does to place state (received into size truth (at to state) choices)
    by_choice [] = tt
    by_choice (NoBlock ∷ rest) = tt
    by_choice (NewBlock base contents ∷ rest) = tt
    by_choice (GivenInput number ∷ rest) = Tells-if (nat_lt number (if truth then 2 else 256 ^ size)) _ Ended _ _ (record { point_is = refl; callers_are = refl; outer_is = refl }) tt
executes flow (Call function arguments into) to place state choices inside alone = absurd (cc)
executes flow (Return from) to place state choices inside alone =
    subst (λ (callers : List Caller). Does to place state (returned (result_of from state.frame.registers) callers state choices)) (sym alone) tt
executes flow Close to place state choices inside alone = Tells-if (is_lost state.memory []) (Faulted block_never_freed place) (Went (at to state) choices) _ _ refl (record { point_is = refl; callers_are = refl; outer_is = refl })

-- where there is no caller a return ends the run
pub returns_end : (flow : Flow) (from : Option ℕ) (to : ℕ) (place : Place) (state : State) (choices : List Choice) → state.callers ≡ [] →
    execute flow (Return from) to place state choices ≡ Ended
returns_end flow from to place state choices alone = ap (λ (callers : List Caller). returned (result_of from state.frame.registers) callers state choices) alone

-- an edge that is not barred leads from the point of the state
pub record GoesFrom (flow : Flow) (edge : FlowEdge) (state : State) (choices : List Choice) (wanted : Outcome) : Type 0 where
  pub from : edge.from ≡ state.point
  pub comes : execute flow edge.instr edge.to edge.place state choices ≡ wanted

pub goes_from : (flow : Flow) (edge : FlowEdge) (state : State) (choices : List Choice) (wanted : Outcome) → (Barred ≡ wanted → ⊥) →
    step_along flow edge state choices ≡ wanted → GoesFrom flow edge state choices wanted
goes_from flow edge state choices wanted taken goes = by_test (nat_eq edge.from state.point) refl goes
  where
    by_test : (test : Bool) → nat_eq edge.from state.point ≡ test → (if test then execute flow edge.instr edge.to edge.place state choices else Barred) ≡ wanted →
        GoesFrom flow edge state choices wanted
    by_test true is comes = record { from = eqb-true edge.from state.point is; comes = comes }
    by_test false is comes = absurd (taken comes)

-- what a step comes to an edge comes to
pub record ComesAlong (flow : Flow) (edges : List FlowEdge) (state : State) (choices : List Choice) (wanted : Outcome) : Type 0 where
  pub number : ℕ
  pub edge : FlowEdge
  pub stands : slice_get edges number ≡ Some edge
  pub goes : step_along flow edge state choices ≡ wanted

pub comes_along : (flow : Flow) (edges : List FlowEdge) (state : State) (choices : List Choice) (wanted : Outcome) → (Ended ≡ wanted → ⊥) →
    step_among flow edges state choices ≡ wanted → ComesAlong flow edges state choices wanted
comes_along flow [] state choices wanted taken goes = absurd (taken goes)
comes_along flow (first ∷ more) state choices wanted taken goes =
    by_outcome (step_along flow first state choices) refl goes (comes_along flow more state choices wanted taken)
  where
    by_outcome : (outcome : Outcome) → step_along flow first state choices ≡ outcome → unless_barred outcome (step_among flow more state choices) ≡ wanted →
        (step_among flow more state choices ≡ wanted → ComesAlong flow more state choices wanted) → ComesAlong flow (first ∷ more) state choices wanted
    by_outcome (Went next rest) is goes later = record { number = zero; edge = first; stands = refl; goes = is ∙ goes }
    by_outcome Barred is goes later = let found = later goes in record { number = suc found.number; edge = found.edge; stands = found.stands; goes = found.goes }
    by_outcome Waits is goes later = record { number = zero; edge = first; stands = refl; goes = is ∙ goes }
    by_outcome Ended is goes later = record { number = zero; edge = first; stands = refl; goes = is ∙ goes }
    by_outcome (Faulted kind place) is goes later = record { number = zero; edge = first; stands = refl; goes = is ∙ goes }

-- so many steps from the start on
abbrev pub whole : Flow → ℕ → List Choice → Outcome
whole flow steps choices = then_go (start flow choices) (run steps flow)

then_nothing : (flow : Flow) (outcome : Outcome) → then_go outcome (run zero flow) ≡ outcome
then_nothing flow (Went next rest) = refl
then_nothing flow Barred = refl
then_nothing flow Waits = refl
then_nothing flow Ended = refl
then_nothing flow (Faulted kind place) = refl

-- the last step of a run
last_of : (flow : Flow) (steps : ℕ) (outcome : Outcome) → ((state : State) (choices : List Choice) → run (suc steps) flow state choices ≡ then_go (run steps flow state choices) (step flow)) →
    then_go outcome (run (suc steps) flow) ≡ then_go (then_go outcome (run steps flow)) (step flow)
last_of flow steps (Went next rest) later = later next rest
last_of flow steps Barred later = refl
last_of flow steps Waits later = refl
last_of flow steps Ended later = refl
last_of flow steps (Faulted kind place) later = refl

run_last : (flow : Flow) (steps : ℕ) (state : State) (choices : List Choice) → run (suc steps) flow state choices ≡ then_go (run steps flow state choices) (step flow)
run_last flow zero state choices = then_nothing flow (step flow state choices)
run_last flow (suc steps) state choices = last_of flow steps (step flow state choices) (run_last flow steps)

pub whole_none : (flow : Flow) (choices : List Choice) → whole flow zero choices ≡ start flow choices
whole_none flow choices = then_nothing flow (start flow choices)

pub whole_last : (flow : Flow) (steps : ℕ) (choices : List Choice) → whole flow (suc steps) choices ≡ then_go (whole flow steps choices) (step flow)
whole_last flow steps choices = last_of flow steps (start flow choices) (run_last flow steps)

-- what a run comes to in one more step
pub record ComesLast (flow : Flow) (steps : ℕ) (choices : List Choice) (wanted : Outcome) : Type 0 where
  pub state : State
  pub rest : List Choice
  pub before : whole flow steps choices ≡ Went state rest
  pub last : step flow state rest ≡ wanted

pub comes_last : (flow : Flow) (steps : ℕ) (choices : List Choice) (wanted : Outcome) → whole flow (suc steps) choices ≡ wanted →
    ComesLast flow steps choices wanted ⊎ (whole flow steps choices ≡ wanted)
comes_last flow steps choices wanted is = by_outcome (whole flow steps choices) refl (sym (whole_last flow steps choices) ∙ is)
  where
    by_outcome : (outcome : Outcome) → whole flow steps choices ≡ outcome → then_go outcome (step flow) ≡ wanted →
        ComesLast flow steps choices wanted ⊎ (whole flow steps choices ≡ wanted)
    by_outcome (Went state rest) so last = inl (record { state = state; rest = rest; before = so; last = last })
    by_outcome Barred so last = inr (so ∙ last)
    by_outcome Waits so last = inr (so ∙ last)
    by_outcome Ended so last = inr (so ∙ last)
    by_outcome (Faulted kind place) so last = inr (so ∙ last)
