-- A run begins with a memory to whose blocks all that its state has leads, and so each of its states has one.
use Rattle.std.proofs.Common.{◌≡◌, ℕ, zero, suc, ◌+◌, ◌<◌, ◌≤◌, List, [], ◌∷◌, ◌++◌, length, Bool, true, false, refl, sym, ap, subst, ◌∙◌, inl, inr, Option, None, Some, arith, append_assoc}
use Rattle.std.specs.Prelude.{pos, ◌&&◌, if◌then◌else◌, nat_le, nat_lt, slice_get, IsTrue, All, Contains}
use Rattle.std.specs.Option.{option_map_or}
use Rattle.std.proofs.lemmas.Bool.{leb-true, and_parts, le-ltb}
use Rattle.std.proofs.lemmas.List.{append-nil}
use Rattle.std.proofs.lemmas.List.Elements.{All-nil, All-cons, All-head, All-tail, All-append, All-weaker}
use Rattle.choices.specs.declared.choice.Choice.{Choice}
use Rattle.bytes_core.specs.declared.word.Word.TheVariants.{Plain, To}
use Rattle.bytes_core.specs.declared.block.BlockKind.TheVariants as storage
use Rattle.bytes_core.specs.declared.block.Block.{Block}
use Rattle.bytes_core.specs.Access.{stored}
use Rattle.bytes_core.specs.Placement.{is_placed}
use Rattle.bytes_core.specs.Valid.{NamesBelow}
use Rattle.flow.specs.declared.flow_graph.Flow.{Flow}
use Rattle.flow.specs.declared.flow_graph.FlowEdge.{FlowEdge}
use Rattle.flow.specs.declared.flow_graph.Variable.{Variable}
use Rattle.flow.specs.declared.flow_graph.Initial.{Initial}
use Rattle.flow.specs.declared.flow_graph.InitialWord.{InitialWord}
use Rattle.flow.specs.declared.flow_graph.InitialWord.TheVariants as initial
use Rattle.flow.specs.Holding.{Owned, block_of, put_owned, put_variable}
use Rattle.flow.specs.InRange.{entry_of}
use Rattle.flow.specs.Keeping.{variables_of, IsStateOf}
use Rattle.flow.specs.Machine.{State, Outcome, Went, Barred, Waits, Ended, Faulted, with_memory, with_new_block, entered, size_in, step, step_along, step_among, unless_barred}
use Rattle.flow.specs.Runs.{blank, parameters_of, with_statics, initial_word, with_initial, with_initials, start, run, then_go}
use Rattle.flow.specs.Valid.{IsFlow, is_fixed, is_initial, is_initial_word, is_scalar_size}
use Rattle.flow.specs.Memories.{LeadsBelow, HasOffset, HasBlock, IsFrameOf, fixed_from, HasMemory, HasInitialOffset, DoRunsKeepMemory}
use Rattle.flow.proofs.Ascending.{Among, Contains-among}
use Rattle.flow.proofs.Frames.{variables-put}
use Rattle.flow.proofs.KeepingLaws.{steps_keep, starts_keep}
use Rattle.flow.proofs.Outcomes.{Leaves, left_state, Leaves-then}
use Rattle.flow.proofs.MemoryWords.{IsRight, Became, became_same, became_then}
use Rattle.flow.proofs.MemoryLaws.{owned_larger, put_block, block_of_has, block_below, leaves_new_block, enters_keep, store_right, scalar_small}
use Rattle.flow.proofs.MemorySteps.{along_keeps}

-- a state that has these static variables so far, and no frames yet
record IsMaking (flow : Flow) (listed : List ℕ) (state : State) : Type 0 where
  right : IsRight state.memory
  frame : state.frame ≡ record { variables = []; registers = [] }
  callers : state.callers ≡ []
  outer : state.outer ≡ []
  statics : All (HasBlock flow state.memory) state.statics
  listed_are : variables_of state.statics ≡ listed

-- a variable that comes last
put_last : (number : ℕ) (listed : List ℕ) → All (λ one. one < number) listed → put_variable number listed ≡ listed ++ number ∷ []
put_last number [] all = refl
put_last number (first ∷ rest) all =
    let less : first < number = All-head (λ one. one < number) first rest all in
    let test : nat_lt number first ≡ false = le-ltb number first (omega arith) in
    rw test (ap (λ (more : List ℕ). first ∷ more) (put_last number rest (All-tail (λ one. one < number) first rest all)))

-- the variables from a number on
IsRest : Flow → ℕ → List Variable → Type 0
IsRest flow number rest = (place : ℕ) (variable : Variable) → slice_get rest place ≡ Some variable → slice_get flow.variables (number + place) ≡ Some variable

making_more : (flow : Flow) (number : ℕ) (variable : Variable) (listed : List ℕ) (state : State) (memory : List Block) (made : Block) → IsMaking flow listed state → All (λ one. one < number) listed →
    Became state.memory memory → slice_get memory (length state.memory) ≡ Some made → length made.bytes ≡ size_in flow number →
    IsMaking flow (listed ++ number ∷ []) (record state { memory = memory; statics = put_owned (record { variable = number; block = length state.memory }) state.statics })
making_more flow number variable listed state memory made is below became stands size = record {
  right = became.right;
  frame = is.frame;
  callers = is.callers;
  outer = is.outer;
  statics = put_block flow memory (record { variable = number; block = length state.memory }) state.statics (record { block = made; stands = stands; size = size })
      (owned_larger flow state.memory memory state.statics became.larger is.statics);
  listed_are = variables-put (record { variable = number; block = length state.memory }) state.statics
      ∙ (ap (put_variable number) is.listed_are ∙ put_last number listed below);
}

statics_making : (flow : Flow) (number : ℕ) (variables : List Variable) (listed : List ℕ) (state : State) (choices : List Choice) →
    ((place : ℕ) (variable : Variable) → slice_get variables place ≡ Some variable → slice_get flow.variables (number + place) ≡ Some variable) →
    All (λ one. one < number) listed → IsMaking flow listed state → Leaves (with_statics number variables state choices) (IsMaking flow (listed ++ fixed_from number variables))
statics_making flow number [] listed state choices rest_is below is = subst (λ (all : List ℕ). IsMaking flow all state) (sym (append-nil listed)) is
statics_making flow number (variable ∷ rest) listed state choices rest_is below is =
    by_kind variable.fixed (λ listed' below' state choices is. statics_making flow (number + 1) rest listed' state choices later below' is)
  where
    later : (place : ℕ) (other : Variable) → slice_get rest place ≡ Some other → slice_get flow.variables (number + 1 + place) ≡ Some other
    later place other there =
        let same : number + suc place ≡ number + 1 + place = omega arith in
        subst (λ (n : ℕ). slice_get flow.variables n ≡ Some other) same (rest_is (suc place) other there)

    size : variable.size ≡ size_in flow number
    size =
        let same : number + zero ≡ number = omega arith in
        let there : slice_get flow.variables number ≡ Some variable = subst (λ (n : ℕ). slice_get flow.variables n ≡ Some variable) same (rest_is zero variable refl) in
        sym (ap (λ (found : Option Variable). option_map_or (λ found. found.size) found 0) there)

    wider : (listed : List ℕ) → All (λ one. one < number) listed → All (λ one. one < number + 1) listed
    wider listed below = All-weaker (λ one. one < number) (λ one. one < number + 1) (λ one less. omega arith) listed below

    by_kind : (fixed : Bool) → ((listed' : List ℕ) → All (λ one. one < number + 1) listed' → (state : State) (choices : List Choice) → IsMaking flow listed' state →
        Leaves (with_statics (number + 1) rest state choices) (IsMaking flow (listed' ++ fixed_from (number + 1) rest))) →
        Leaves (if fixed
        then with_new_block storage.Static variable.size true state choices (λ after block more. with_statics (number + 1) rest
        (record after { statics = put_owned (record { variable = number; block = block }) after.statics }) more)
        else with_statics (number + 1) rest state choices) (IsMaking flow (listed ++ (if fixed then number ∷ fixed_from (number + 1) rest else fixed_from (number + 1) rest)))
    by_kind true more = leaves_new_block (IsMaking flow (listed ++ number ∷ fixed_from (number + 1) rest)) storage.Static variable.size true state choices
        (λ after block more. with_statics (number + 1) rest
        (record after { statics = put_owned (record { variable = number; block = block }) after.statics }) more) is.right
        (λ memory made choices became stands long live.
        subst (λ (all : List ℕ). Leaves (with_statics (number + 1) rest (record state { memory = memory; statics = put_owned (record { variable = number; block = length state.memory }) state.statics }) choices) (IsMaking flow all))
        (append_assoc listed (number ∷ []) (fixed_from (number + 1) rest))
        (more (listed ++ number ∷ [])
        (All-append (λ one. one < number + 1) listed (number ∷ []) (wider listed below) (All-cons (λ one. one < number + 1) number [] (omega arith) (All-nil (λ one. one < number + 1))))
        (record state { memory = memory; statics = put_owned (record { variable = number; block = length state.memory }) state.statics }) choices
        (making_more flow number variable listed state memory made is below became stands (long ∙ size))))
    by_kind false more = more listed (wider listed below) state choices is

-- what static variables hold at the start
word_leads : (flow : Flow) (memory : List Block) (statics : List Owned) (word : InitialWord) → All (HasBlock flow memory) statics → HasInitialOffset word → LeadsBelow (length memory) (initial_word statics word)
word_leads flow memory statics (initial.Number number) all small = tt
word_leads flow memory statics (initial.Address variable offset) all small = by_block (block_of statics variable) refl
  where
    by_block : (found : Option ℕ) → block_of statics variable ≡ found → LeadsBelow (length memory) (option_map_or (λ block. To block offset) found (Plain 0))
    by_block None there = tt
    by_block (Some block) there =
        (block_below flow memory (record { variable = variable; block = block }) (block_of_has flow memory statics variable block all there), small)

initial_right : (flow : Flow) (memory : List Block) (statics : List Owned) (scalar : Initial) → IsRight memory → All (HasBlock flow memory) statics → is_initial flow scalar ≡ true → HasInitialOffset scalar.word →
    Became memory (with_initial statics scalar memory)
initial_right flow memory statics scalar right all holds small = by_block (block_of statics scalar.variable) refl
  where
    parts : (is_scalar_size scalar.size ≡ true) × (scalar.at + scalar.size ≤ size_in flow scalar.variable)
    parts =
        let first = (and_parts (is_fixed flow scalar.variable) (is_scalar_size scalar.size && (nat_le (scalar.at + scalar.size) (size_in flow scalar.variable)
        && is_initial_word flow scalar.size scalar.word)) holds).1 in
        let second = and_parts (is_scalar_size scalar.size) (nat_le (scalar.at + scalar.size) (size_in flow scalar.variable) && is_initial_word flow scalar.size scalar.word) first in
        let third = and_parts (nat_le (scalar.at + scalar.size) (size_in flow scalar.variable)) (is_initial_word flow scalar.size scalar.word) second.1 in
        (second.0, leb-true (scalar.at + scalar.size) (size_in flow scalar.variable) third.0)

    by_block : (found : Option ℕ) → block_of statics scalar.variable ≡ found →
        Became memory (option_map_or (λ block. stored memory (To block (pos scalar.at)) scalar.size (initial_word statics scalar.word)) found memory)
    by_block None there = became_same memory right
    by_block (Some block) there =
        let has : HasBlock flow memory (record { variable = scalar.variable; block = block }) = block_of_has flow memory statics scalar.variable block all there in
        store_right memory (To block (pos scalar.at)) scalar.size (initial_word statics scalar.word) right (scalar_small scalar.size parts.0)
        (record { number = block; from = scalar.at; block = has.block; is = refl; stands = has.stands; room = omega (arith, parts.1, has.size) })
        (word_leads flow memory statics scalar.word all small)

initials_right : (flow : Flow) (statics : List Owned) (initials : List Initial) (memory : List Block) → IsRight memory → All (HasBlock flow memory) statics →
    All (λ scalar. IsTrue (is_initial flow scalar)) initials → All (λ scalar. HasInitialOffset scalar.word) initials → Became memory (with_initials statics initials memory)
initials_right flow statics [] memory right all holds small = became_same memory right
initials_right flow statics (first ∷ rest) memory right all holds small =
    let one : Became memory (with_initial statics first memory) =
    initial_right flow memory statics first right all (All-head (λ scalar. IsTrue (is_initial flow scalar)) first rest holds) (All-head (λ scalar. HasInitialOffset scalar.word) first rest small) in
    became_then memory (with_initial statics first memory) (with_initials statics rest (with_initial statics first memory)) one
    (initials_right flow statics rest (with_initial statics first memory) one.right (owned_larger flow memory (with_initial statics first memory) statics one.larger all)
    (All-tail (λ scalar. IsTrue (is_initial flow scalar)) first rest holds) (All-tail (λ scalar. HasInitialOffset scalar.word) first rest small))

-- the start
no_blocks : IsRight []
no_blocks = record {
  valid = record { placed = All-nil (λ block. IsTrue (is_placed block)); apart = λ i j d before below. absurd (omega arith); named = All-nil (λ block. All (NamesBelow 0) block.bytes) };
  offsets = All-nil (λ block. All HasOffset block.bytes);
}

begun : (flow : Flow) (state : State) → IsFlow flow → All (λ scalar. HasInitialOffset scalar.word) flow.initial → IsMaking flow (fixed_from 0 flow.variables) state →
    HasMemory flow (with_memory (with_initials state.statics flow.initial state.memory) state)
begun flow state valid small is =
    let memory : List Block = with_initials state.statics flow.initial state.memory in
    let became : Became state.memory memory = initials_right flow state.statics flow.initial state.memory is.right is.statics valid.initials small in
    record {
      memory = became.right.valid;
      offsets = became.right.offsets;
      frame = subst (IsFrameOf flow memory) (sym is.frame) (record { variables = All-nil (HasBlock flow memory); registers = All-nil (λ held. LeadsBelow (length memory) held.word) });
      callers = subst (All (λ caller. IsFrameOf flow memory caller.frame)) (sym is.callers) (All-nil (λ caller. IsFrameOf flow memory caller.frame));
      statics = owned_larger flow state.memory memory state.statics became.larger is.statics;
      fixed = is.listed_are;
      outer = subst (All (λ block. block < length memory)) (sym is.outer) (All-nil (λ block. block < length memory));
    }

start_keeps : (flow : Flow) (choices : List Choice) → IsFlow flow → All (λ scalar. HasInitialOffset scalar.word) flow.initial → Leaves (start flow choices) (HasMemory flow)
start_keeps flow choices valid small =
    Leaves-then (with_statics 0 flow.variables (blank (entry_of flow flow.main)) choices)
    (λ state more. entered flow (parameters_of flow flow.main) (with_memory (with_initials state.statics flow.initial state.memory) state) more)
    (IsMaking flow (fixed_from 0 flow.variables)) (HasMemory flow)
    (statics_making flow 0 flow.variables [] (blank (entry_of flow flow.main)) choices
    (λ place variable there. let same : place ≡ 0 + place = omega arith in subst (λ (n : ℕ). slice_get flow.variables n ≡ Some variable) same there)
    (All-nil (λ one. one < 0))
    (record { right = no_blocks; frame = refl; callers = refl; outer = refl; statics = All-nil (HasBlock flow []); listed_are = refl }))
    (λ state more is. enters_keep flow (parameters_of flow flow.main) (with_memory (with_initials state.statics flow.initial state.memory) state) more (begun flow state valid small is))

-- runs
record IsGood (flow : Flow) (state : State) : Type 0 where
  of : IsStateOf flow state
  has : HasMemory flow state

Leaves-good : (flow : Flow) (outcome : Outcome) → ((next : State) (rest : List Choice) → outcome ≡ Went next rest → IsStateOf flow next) → Leaves outcome (HasMemory flow) → Leaves outcome (IsGood flow)
Leaves-good flow (Went next rest) each leaves = record { of = each next rest refl; has = leaves }
Leaves-good flow Barred each leaves = tt
Leaves-good flow Waits each leaves = tt
Leaves-good flow Ended each leaves = tt
Leaves-good flow (Faulted kind place) each leaves = tt

among_good : (flow : Flow) (edges : List FlowEdge) (state : State) (choices : List Choice) → IsFlow flow →
    ((edge : FlowEdge) → Among edges edge → Contains flow.edges edge) → IsGood flow state → Leaves (step_among flow edges state choices) (IsGood flow)
among_good flow [] state choices valid stand good = tt
among_good flow (edge ∷ rest) state choices valid stand good =
    by_outcome (step_along flow edge state choices)
    (Leaves-good flow (step_along flow edge state choices)
    (λ next more goes. steps_keep flow edge state next choices more valid (stand edge (inl refl)) good.of goes)
    (along_keeps flow edge state choices valid (stand edge (inl refl)) good.of good.has))
    (among_good flow rest state choices valid (λ edge among. stand edge (inr among)) good)
  where
    by_outcome : (outcome : Outcome) → Leaves outcome (IsGood flow) → Leaves (step_among flow rest state choices) (IsGood flow) →
        Leaves (unless_barred outcome (step_among flow rest state choices)) (IsGood flow)
    by_outcome (Went next more) leaves later = leaves
    by_outcome Barred leaves later = later
    by_outcome Waits leaves later = tt
    by_outcome Ended leaves later = tt
    by_outcome (Faulted kind place) leaves later = tt

run_good : (flow : Flow) (steps : ℕ) → IsFlow flow → (state : State) (choices : List Choice) → IsGood flow state → Leaves (run steps flow state choices) (IsGood flow)
run_good flow zero valid state choices good = good
run_good flow (suc steps) valid state choices good =
    Leaves-then (step flow state choices) (run steps flow) (IsGood flow) (IsGood flow)
    (among_good flow flow.edges state choices valid (λ edge among. Contains-among flow.edges edge among) good)
    (λ next more good. run_good flow steps valid next more good)

pub runs_keep_memory : DoRunsKeepMemory
runs_keep_memory flow state choices rest steps valid small is =
    (left_state (then_go (start flow choices) (run steps flow)) (IsGood flow) state rest
    (Leaves-then (start flow choices) (run steps flow) (IsGood flow) (IsGood flow)
    (Leaves-good flow (start flow choices) (λ next more goes. starts_keep flow next choices more valid goes) (start_keeps flow choices valid small))
    (λ next more good. run_good flow steps valid next more good)) is).has
