-- `break`, `continue` and `return`, from what is known of where they lead.
use Rattle.std.proofs.Common.{◌≡◌, ◌<◌, ◌≤◌, ℕ, suc, ◌+◌, List, [], ◌∷◌, ◌++◌, map, length, Bool, true, false, not, ◌&&◌, nat_eq, refl, sym, ap, subst, ◌∙◌, ⊎_elim, arith, append_assoc, Option, None, Some, if◌then◌else◌}
use Rattle.std.specs.Prelude.{replicate, IsTrue, All, Contains}
use Rattle.std.specs.List.{list_any, list_all}
use Rattle.std.proofs.lemmas.Bool.{false≢true, eqb-true, eq-eqb, ne_eqb, and_from, and_parts, not-true, not_from_false, or_left, or_right, or_cases}
use Rattle.std.proofs.lemmas.List.{length-append}
use Rattle.std.proofs.lemmas.List.Elements.{All-map, All-weaker, All-contains}
use Rattle.std.proofs.lemmas.Option.{same_Some, none-some}
use Rattle.cbase.specs.declared.place.Place.{Place}
use Rattle.c_machine.specs.declared.kind.Kind.{Kind}
use Rattle.c_machine.specs.declared.kind.Kind.TheVariants.{Integer, Pointer, Array, Struct, Void}
use Rattle.c_machine.specs.declared.task.Task.TheVariants.{Execute, GiveBack, LeaveFunction, LeaveBlock}
use Rattle.c_machine.specs.Expressions.{value_kind}
use Rattle.c_machine.specs.State.{TaskIn}
use Rattle.c_machine.specs.Statements.{loop_left, body_left}
use Rattle.c_machine.specs.Text.{Break, Continue, Return, Text}
use Rattle.c_machine.specs.Words.{as_kind}
use Rattle.bytes_core.specs.declared.block.Block.{Block}
use Rattle.arithmetic.specs.Conversion.{converted}
use Rattle.bytes_core.specs.declared.word.Word.{Word}
use Rattle.bytes_core.specs.declared.word.Word.TheVariants.{Plain}
use Rattle.bytes_core.specs.Value.{address_number}
use Rattle.flow.specs.declared.flow_graph.Flow.{Flow}
use Rattle.flow.specs.declared.flow_graph.FlowEdge.{FlowEdge}
use Rattle.flow.specs.declared.flow_graph.FlowFunction.{FlowFunction}
use Rattle.flow.specs.declared.flow_graph.Standing.{Standing as Stood}
use Rattle.flow.specs.declared.flow_graph.Width.{Width}
use Rattle.flow.specs.declared.instruction.Instr.{Instr}
use Rattle.flow.specs.declared.instruction.Instr.TheVariants as i
use Rattle.flow.specs.Holding.{emptied_widths}
use Rattle.flow.specs.Standing.{stands_at as flow_stands_at, stands_after}
use Rattle.flow.specs.Valid.{edges_out, HasReturn, returns_what_stands, stands_alone, IsFlow}
use Rattle.flow.specs.Walks.{is_return}
use Rattle.simulation.specs.Edges.{One}
use Rattle.simulation.specs.Lowered.{Stop, GivesBack, MayLead}
use Rattle.simulation.specs.Names.{Name, names_of, variables_of, is_other, are_new}
use Rattle.simulation.specs.Running.{Setting, Running, Result, GivesNothing, Gives, given_slot}
use Rattle.simulation.specs.Slots.{Slot, InRegister, KnownAs, Truth, Gone, Suits, is_free, are_in}
use Rattle.simulation.specs.Turning.{Turns, Stays, Turned}
use Rattle.lowering.specs.Kinds.{width, is_void, is_address, conversion}
use Rattle.lowering.specs.declared.conversion.Conversion.{Conversion}
use Rattle.lowering.specs.declared.conversion.Conversion.TheVariants.{Nothing, Resized, Tested, Dropped, Unknown}
use Rattle.lowering.specs.LetGo.{AsValue, left_of}
use Rattle.lowering.specs.Moves.{Move, Emits, Evaluates, Tells, Fails, adapts, stands_in, run_of}
use Rattle.lowering.specs.Placing.{Made, Loop as LoopAround, Around, with_point, with_registers, stands_at, after, registers_of, registers_left, blocks_left, is_none, leaves_none, Way, Goes as GoesOn, Begin, New, begins, along_from, jumps, break_way, continue_way, along_at, go, leaves, closings, function_leaves, place_break, place_continue, place_return}
use Rattle.lowering.proofs.Jumping.{AreApart, given_by, LoopIs, HasExit}
use Rattle.lowering.proofs.KindFacts.{IsAsPlain, not_holds, Means, conversion_means}
use Rattle.lowering.proofs.LeftOf.{own_value}
use Rattle.lowering.proofs.Modes.{IsAround, IsAt}
use Rattle.lowering.proofs.Placings.{IsSpelled, spelled_registers}
use Rattle.lowering.proofs.Ready.{AreBelow, below_more, free_below, free_beside, own_target, mid, head_spelled, tail_spelled, fills, one_at, never}
use Rattle.lowering.proofs.Stood.{of_emptied, emptied_none, asked_all, left_apart, left_all}
use Rattle.lowering.proofs.Statements.{executes}
use Rattle.lowering.proofs.StatementsJumps.{IsLeft, IsBody, leave_form, return_nothing_form, break_form, continue_form}
use Rattle.lowering.proofs.Told.{told_turns}
use Rattle.lowering.proofs.Doing.{NothingLeft, Goes, IsKept, full_ready, blocks_of, in_front}
use Rattle.lowering.proofs.DoingBlocks.{of_edge}

-- blocks that are apart from those around them have distinct variables
others_swap : (names others more : List Name) → ((variable : ℕ) → is_other variable others ≡ true → is_other variable more ≡ true) → are_new names others ≡ true → are_new names more ≡ true
others_swap [] others more each new = refl
others_swap (name ∷ names) others more each new =
    let parts = and_parts (is_other name.variable others) (are_new names (name ∷ others)) new in
    and_from (is_other name.variable more) (are_new names (name ∷ more)) (each name.variable parts.0)
    (others_swap names (name ∷ others) (name ∷ more)
    (λ variable is. let here = and_parts (not (nat_eq name.variable variable)) (is_other variable others) is in
    and_from (not (nat_eq name.variable variable)) (is_other variable more) here.0 (each variable here.1)) parts.1)

abbrev in_front_of : List Name → List Name → List Name
in_front_of [] others = others
in_front_of (name ∷ names) others = in_front_of names (name ∷ others)

other_in_front : (variable : ℕ) (names others : List Name) → is_other variable names ≡ true → is_other variable others ≡ true → is_other variable (in_front_of names others) ≡ true
other_in_front variable [] others is is' = is'
other_in_front variable (name ∷ names) others is is' =
    let parts = and_parts (not (nat_eq name.variable variable)) (is_other variable names) is in
    other_in_front variable names (name ∷ others) parts.1 (and_from (not (nat_eq name.variable variable)) (is_other variable others) parts.0 is')

append_new : (names rest others : List Name) → are_new names others ≡ true → are_new rest (in_front_of names others) ≡ true → are_new (names ++ rest) others ≡ true
append_new [] rest others new new' = new'
append_new (name ∷ names) rest others new new' =
    let parts = and_parts (is_other name.variable others) (are_new names (name ∷ others)) new in
    and_from (is_other name.variable others) (are_new (names ++ rest) (name ∷ others)) parts.0 (append_new names rest (name ∷ others) parts.1 new')

new_more : (names others more both : List Name) → are_new names others ≡ true → list_all (λ name. is_other name.variable more) names ≡ true →
    ((variable : ℕ) → is_other variable others ≡ true → is_other variable more ≡ true → is_other variable both ≡ true) → are_new names both ≡ true
new_more [] others more both new apart each = refl
new_more (name ∷ names) others more both new apart each =
    let parts = and_parts (is_other name.variable others) (are_new names (name ∷ others)) new in
    let here = and_parts (is_other name.variable more) (list_all (λ one. is_other one.variable more) names) apart in
    and_from (is_other name.variable both) (are_new names (name ∷ both)) (each name.variable parts.0 here.0)
    (new_more names (name ∷ others) more (name ∷ both) parts.1 here.1
    (λ variable is is'. let front = and_parts (not (nat_eq name.variable variable)) (is_other variable others) is in
    and_from (not (nat_eq name.variable variable)) (is_other variable both) front.0 (each variable front.1 is')))

all_same : (rest : List Name) → list_all (λ one. is_other one.variable []) rest ≡ true
all_same [] = refl
all_same (name ∷ rest) = all_same rest

with_one : (name : Name) (names rest : List Name) → is_other name.variable rest ≡ true → list_all (λ one. is_other one.variable names) rest ≡ true → list_all (λ one. is_other one.variable (name ∷ names)) rest ≡ true
with_one name names [] is all = refl
with_one name names (one ∷ rest) is all =
    let parts = and_parts (not (nat_eq one.variable name.variable)) (is_other name.variable rest) is in
    let here = and_parts (is_other one.variable names) (list_all (λ r. is_other r.variable names) rest) all in
    and_from (not (nat_eq name.variable one.variable) && is_other one.variable names) (list_all (λ r. is_other r.variable (name ∷ names)) rest)
    (and_from (not (nat_eq name.variable one.variable)) (is_other one.variable names)
    (not_from_false (nat_eq name.variable one.variable) (ne_eqb name.variable one.variable (λ same. false≢true (sym (not-true (nat_eq one.variable name.variable) parts.0) ∙ eq-eqb one.variable name.variable (sym same))))) here.0)
    (with_one name names rest parts.1 here.1)

all_others : (names rest : List Name) → are_new names rest ≡ true → list_all (λ one. is_other one.variable names) rest ≡ true
all_others [] rest new = all_same rest
all_others (name ∷ names) rest new =
    let parts = and_parts (is_other name.variable rest) (are_new names (name ∷ rest)) new in
    with_one name names rest parts.0
    (all_others names rest (others_swap names (name ∷ rest) rest (λ variable is. (and_parts (not (nat_eq name.variable variable)) (is_other variable rest) is).1) parts.1))

pub apart_new : (scopes : List (List Name)) → AreApart scopes → are_new (names_of scopes) [] ≡ true
apart_new [] apart = refl
apart_new (names ∷ scopes) apart =
    append_new names (names_of scopes) [] (others_swap names (names_of scopes) [] (λ variable is. refl) apart.0)
    (new_more (names_of scopes) [] names (in_front_of names []) (apart_new scopes apart.1) (all_others names (names_of scopes) apart.0) (λ variable is is'. other_in_front variable names [] is' refl))

-- What stands behind a `Finish` in front of the exit is what the function gives.
exit_register : (flow : Flow) (exit result to : ℕ) (place : Place) → IsFlow flow → One flow exit (i.Return (Some result)) to place →
    list_any (nat_eq result) (map (λ one. one.register) (flow_stands_at flow exit).registers) ≡ true
exit_register flow exit result to place valid one =
    let there : Contains (map (λ function. function.exit) flow.functions) exit =
    of_edge flow (λ edge. IsTrue (is_return edge.instr) → Contains (map (λ function. function.exit) flow.functions) edge.from) exit to (i.Return (Some result)) place valid.returns one refl in
    let all : All (λ point. (function : FlowFunction) × (function.exit ≡ point) × HasReturn flow function) (map (λ function. function.exit) flow.functions) =
    All-map (λ point. (function : FlowFunction) × (function.exit ≡ point) × HasReturn flow function) (λ function. function.exit) flow.functions
    (All-weaker (HasReturn flow) (λ found. (function : FlowFunction) × (function.exit ≡ found.exit) × HasReturn flow function) (λ found has. (found, refl, has)) flow.functions valid.exits) in
    let found = All-contains (λ point. (function : FlowFunction) × (function.exit ≡ point) × HasReturn flow function) (map (λ function. function.exit) flow.functions) exit all there in
    let at : edges_out flow found.0.exit ≡ edges_out flow exit = ap (edges_out flow) found.1 in
    let same : found.2.edge ≡ record { from = exit; to = to; instr = i.Return (Some result); place = place } = same_first (sym found.2.only ∙ (at ∙ one)) in
    alone (flow_stands_at flow exit).registers
    (subst (λ (point : ℕ). returns_what_stands (i.Return (Some result)) (flow_stands_at flow point).registers ≡ true) found.1
    (subst (λ (edge : FlowEdge). returns_what_stands edge.instr (flow_stands_at flow found.0.exit).registers ≡ true) same found.2.returns))
  where
    first_edge : List FlowEdge → FlowEdge → FlowEdge
    first_edge [] other = other
    first_edge (edge ∷ edges) other = edge

    same_first : {edge other : FlowEdge} → edge ∷ [] ≡ other ∷ [] → edge ≡ other
    same_first {edge = edge} is = ap (λ edges. elim edges [ [] ↦ edge | first ∷ rest ↦ first ]) is

    alone : (widths : List Width) → stands_alone (Some result) widths ≡ true → list_any (nat_eq result) (map (λ one. one.register) widths) ≡ true
    alone [] is = absurd (false≢true is)
    alone (only ∷ []) is = or_left (nat_eq result only.register) false (eq-eqb result only.register (sym (eqb-true only.register result is)))
    alone (only ∷ second ∷ rest) is = absurd (false≢true is)

stands_along : (flow : Flow) (from to : ℕ) (instr : Instr) (place : Place) → IsFlow flow → One flow from instr to place → stands_after flow instr (flow_stands_at flow from) ≡ flow_stands_at flow to
stands_along flow from to instr place valid one = of_edge flow (λ edge. stands_after flow edge.instr (flow_stands_at flow edge.from) ≡ flow_stands_at flow edge.to) from to instr place valid.leads one

-- a register that stands behind a `Finish` was not emptied
not_gone : (flow : Flow) (from to result : ℕ) (gone : List ℕ) (place : Place) → IsFlow flow → One flow from (i.Finish gone) to place →
    list_any (nat_eq result) (map (λ one. one.register) (flow_stands_at flow to).registers) ≡ true → list_any (nat_eq result) gone ≡ false
not_gone flow from to result gone place valid one stands =
    let here : list_any (nat_eq result) (map (λ w. w.register) (emptied_widths gone (flow_stands_at flow from).registers)) ≡ true =
    subst (λ (registers : List ℕ). list_any (nat_eq result) (map (λ w. w.register) (emptied_widths registers (flow_stands_at flow from).registers)) ≡ true) (asked_all gone)
    (subst (λ (stood : Stood). list_any (nat_eq result) (map (λ w. w.register) stood.registers) ≡ true) (sym (stands_along flow from to (i.Finish gone) place valid one)) stands) in
    (of_emptied result gone (flow_stands_at flow from).registers here).0

-- what a function gives
given_as : (kind : Kind) (register : ℕ) → is_void kind ≡ false → given_by kind register ≡ InRegister register (width kind) (not (is_address kind))
given_as (Integer of) register is = refl
given_as (Pointer item) register is = refl
given_as (Array item) register is = refl
given_as (Struct size) register is = refl
given_as Void register is = absurd (false≢true (sym is))

given_void : (kind : Kind) (register : ℕ) → is_void kind ≡ true → given_by kind register ≡ KnownAs 0
given_void (Integer of) register is = absurd (false≢true is)
given_void (Pointer item) register is = absurd (false≢true is)
given_void (Array item) register is = absurd (false≢true is)
given_void (Struct size) register is = absurd (false≢true is)
given_void Void register is = refl

kind_void : (kind : Kind) → is_void kind ≡ true → kind ≡ Void
kind_void (Integer of) is = absurd (false≢true is)
kind_void (Pointer item) is = absurd (false≢true is)
kind_void (Array item) is = absurd (false≢true is)
kind_void (Struct size) is = absurd (false≢true is)
kind_void Void is = refl

abbrev register_of : Slot → Option ℕ
register_of (InRegister register size plain) = Some register
register_of slot = None

given_from : (gives : Result) (from : Option ℕ) (register size : ℕ) (plain : Bool) → given_slot gives from ≡ Some (InRegister register size plain) → from ≡ Some register
given_from GivesNothing None register size plain is = absurd (none-some register (ap register_of (same_Some (KnownAs 0) (InRegister register size plain) is)))
given_from GivesNothing (Some from) register size plain is = absurd (none-some (InRegister register size plain) is)
given_from (Gives size' plain') None register size plain is = absurd (none-some (InRegister register size plain) is)
given_from (Gives size' plain') (Some from) register size plain is = ap register_of (same_Some (InRegister from size' plain') (InRegister register size plain) is)

-- registers among more of them
in_more : (one other : List ℕ) (slots : List Slot) → ((register : ℕ) → list_any (nat_eq register) one ≡ true → list_any (nat_eq register) other ≡ true) → are_in one slots ≡ true → are_in other slots ≡ true
in_more one other [] each are = refl
in_more one other (InRegister register size plain ∷ slots) each are =
    let parts = and_parts (list_any (nat_eq register) one) (are_in one slots) are in
    and_from (list_any (nat_eq register) other) (are_in other slots) (each register parts.0) (in_more one other slots each parts.1)
in_more one other (KnownAs number ∷ slots) each are = in_more one other slots each are
in_more one other (Truth holds ∷ slots) each are = in_more one other slots each are
in_more one other (Gone ∷ slots) each are = in_more one other slots each are

any_first : (register : ℕ) (one other : List ℕ) → list_any (nat_eq register) one ≡ true → list_any (nat_eq register) (one ++ other) ≡ true
any_first register [] other is = absurd (false≢true is)
any_first register (first ∷ one) other is =
    ⊎_elim (λ here. or_left (nat_eq register first) (list_any (nat_eq register) (one ++ other)) here)
    (λ there. or_right (nat_eq register first) (list_any (nat_eq register) (one ++ other)) (any_first register one other there))
    (or_cases (nat_eq register first) (list_any (nat_eq register) one) is)

any_second : (register : ℕ) (one other : List ℕ) → list_any (nat_eq register) other ≡ true → list_any (nat_eq register) (one ++ other) ≡ true
any_second register [] other is = is
any_second register (first ∷ one) other is = or_right (nat_eq register first) (list_any (nat_eq register) (one ++ other)) (any_second register one other is)

-- whether a jump makes edges
abbrev never_led : Way → Bool
never_led GoesOn = true
never_led way = false

not_led : (none : Bool) (to : ℕ) → jumps none to ≡ GoesOn → none ≡ false
not_led true to is = absurd (false≢true (ap never_led is))
not_led false to is = refl

module _ (t : Text) (flow : Flow) (setting : Setting) (running : Running) where
  abbrev Runs : Around → List (Stop t) → List (Stop t) → List (TaskIn t) → List Slot → ℕ → Type 0
  Runs around now later tasks slots point = Goes t flow setting running around now later tasks slots point

  abbrev Kept : Around → List (Stop t) → List (TaskIn t) → ℕ → ℕ → List Slot → Type 0
  Kept around stops tasks base count slots = IsKept t flow setting running around stops (loop_left tasks) (body_left tasks) base count slots

  -- a jump that makes edges leaves a block
  some_left : (around : Around) (standing : Stood) (loop : LoopAround) (count : ℕ) → loop.outer ≤ loop.inner → count ≤ loop.inner → length around.scopes ≡ count → (inner : ℕ) → loop.inner ≤ length around.scopes →
      (is_none (blocks_left around loop.inner) ≡ true → registers_left standing.registers loop.registers ≡ []) → is_none (blocks_left around count) ≡ true → leaves_none around standing count loop ≡ true
  some_left around standing loop count order less many inner inside nothing none =
      let same : loop.inner ≡ count = omega (arith, many) in
      let gone : registers_left standing.registers loop.registers ≡ [] = nothing (subst (λ (n : ℕ). is_none (blocks_left around n) ≡ true) (sym same) none) in
      rw (none, gone) refl

  break_goes : (levels : ℕ) (around : Around) (made : Made) (from : ℕ) (stmt : t.Stmt) (loop : Option LoopAround) → around.loop ≡ loop → t.clause stmt ≡ Break → break_way around (stands_at made from) loop ≡ GoesOn →
      NothingLeft around (stands_at made from) loop → IsSpelled flow made from (place_break t (go levels t) around made from (t.first stmt) around.loop) →
      (now later : List (Stop t)) (tasks : List (TaskIn t)) (slots : List Slot) → are_in (registers_of (stands_at made from)) slots ≡ true → AreApart around.scopes →
      LoopIs t flow setting running around (later ++ now) (loop_left tasks) slots loop → Runs around now later (Execute stmt ∷ tasks) slots from
  break_goes levels around made from stmt None there is way nothing spelled now later tasks slots stand apart inside =
      absurd (false≢true (subst (λ (l : Option LoopAround). IsSpelled flow made from (place_break t (go levels t) around made from (t.first stmt) l)) there spelled).graph)
  break_goes levels around made from stmt (Some loop) there is way nothing spelled now later tasks slots stand apart inside = by_blocks inside.breaks.blocks refl
    where
      by_blocks : (blocks : List (List Name)) → inside.breaks.blocks ≡ blocks → Runs around now later (Execute stmt ∷ tasks) slots from
      by_blocks [] none =
          let jump = inside.breaks in
          let other = inside.continues in
          let here : is_none (blocks_left around loop.outer) ≡ true = ap is_none (blocks_of around loop.outer jump.blocks jump.outside jump.scopes jump.size ∙ none) in
          let many : length around.scopes ≡ loop.outer = ap length (jump.scopes ∙ ap (λ (blocks : List (List Name)). blocks ++ jump.outside) none) ∙ jump.size in
          let many' : length around.scopes ≡ length other.blocks + length other.outside = ap length other.scopes ∙ length-append other.blocks other.outside in
          absurd (false≢true (sym (not_led (leaves_none around (stands_at made from) loop.outer loop) loop.behind way)
          ∙ some_left around (stands_at made from) loop loop.outer inside.order inside.order many loop.inner (let size = other.size in omega (arith, many', size)) nothing here))
      by_blocks (names ∷ blocks) some =
          let jump = inside.breaks in
          let scopes : around.scopes ≡ names ∷ (blocks ++ jump.outside) = jump.scopes ∙ ap (λ (list : List (List Name)). list ++ jump.outside) some in
          let registers : List ℕ = registers_left (stands_at made from).registers loop.registers in
          subst (λ (all : List Slot). Runs around now later (Execute stmt ∷ tasks) all from) (sym inside.split)
          (break_form t flow setting running levels around loop there names blocks jump.outside (blocks_of around loop.outer jump.blocks jump.outside jump.scopes jump.size ∙ some) scopes
          (subst AreApart scopes apart) made from stmt is spelled now later tasks jump.behind inside.dropped inside.kept
          (record { left = inside.found; is = inside.is; held = inside.held; goes_on = λ rest. jump.goes (t.first stmt) rest ∙ ap (λ (list : List (List Name)). (replicate (length list) (LeaveBlock (t.first stmt)) ++ jump.behind) ++ rest) some })
          inside.whole (left_apart (stands_at made from).registers loop.registers inside.kept inside.stand)
          (left_all (stands_at made from).registers loop.registers inside.dropped
          (in_front (registers_of (stands_at made from)) inside.dropped inside.kept (subst (λ (all : List Slot). are_in (registers_of (stands_at made from)) all ≡ true) inside.split stand)) inside.apart) jump.leads)

  continue_goes : (levels : ℕ) (around : Around) (made : Made) (from : ℕ) (stmt : t.Stmt) (loop : Option LoopAround) → around.loop ≡ loop → t.clause stmt ≡ Continue → continue_way around (stands_at made from) loop ≡ GoesOn →
      NothingLeft around (stands_at made from) loop → IsSpelled flow made from (place_continue t (go levels t) around made from (t.first stmt) around.loop) →
      (now later : List (Stop t)) (tasks : List (TaskIn t)) (slots : List Slot) → are_in (registers_of (stands_at made from)) slots ≡ true → AreApart around.scopes →
      LoopIs t flow setting running around (later ++ now) (loop_left tasks) slots loop → Runs around now later (Execute stmt ∷ tasks) slots from
  continue_goes levels around made from stmt None there is way nothing spelled now later tasks slots stand apart inside =
      absurd (false≢true (subst (λ (l : Option LoopAround). IsSpelled flow made from (place_continue t (go levels t) around made from (t.first stmt) l)) there spelled).graph)
  continue_goes levels around made from stmt (Some loop) there is way nothing spelled now later tasks slots stand apart inside = by_blocks inside.continues.blocks refl
    where
      by_blocks : (blocks : List (List Name)) → inside.continues.blocks ≡ blocks → Runs around now later (Execute stmt ∷ tasks) slots from
      by_blocks [] none =
          let jump = inside.continues in
          let here : is_none (blocks_left around loop.inner) ≡ true = ap is_none (blocks_of around loop.inner jump.blocks jump.outside jump.scopes jump.size ∙ none) in
          absurd (false≢true (sym (not_led (leaves_none around (stands_at made from) loop.inner loop) loop.again way) ∙ rw (here, nothing here) refl))
      by_blocks (names ∷ blocks) some =
          let jump = inside.continues in
          let scopes : around.scopes ≡ names ∷ (blocks ++ jump.outside) = jump.scopes ∙ ap (λ (list : List (List Name)). list ++ jump.outside) some in
          subst (λ (all : List Slot). Runs around now later (Execute stmt ∷ tasks) all from) (sym inside.split)
          (continue_form t flow setting running levels around loop there names blocks jump.outside (blocks_of around loop.inner jump.blocks jump.outside jump.scopes jump.size ∙ some) scopes
          (subst AreApart scopes apart) made from stmt is spelled now later tasks jump.behind inside.dropped inside.kept
          (record { left = inside.found; is = inside.is; held = inside.held; goes_on = λ rest. jump.goes (t.first stmt) rest ∙ ap (λ (list : List (List Name)). (replicate (length list) (LeaveBlock (t.first stmt)) ++ jump.behind) ++ rest) some })
          inside.whole (left_apart (stands_at made from).registers loop.registers inside.kept inside.stand)
          (left_all (stands_at made from).registers loop.registers inside.dropped
          (in_front (registers_of (stands_at made from)) inside.dropped inside.kept (subst (λ (all : List Slot). are_in (registers_of (stands_at made from)) all ≡ true) inside.split stand)) inside.apart) jump.leads)

  pub break_goes_on : (levels : ℕ) (around : Around) (made : Made) (from : ℕ) (stmt : t.Stmt) → t.clause stmt ≡ Break → break_way around (stands_at made from) around.loop ≡ GoesOn →
      NothingLeft around (stands_at made from) around.loop → IsSpelled flow made from (place_break t (go levels t) around made from (t.first stmt) around.loop) →
      (now later : List (Stop t)) (tasks : List (TaskIn t)) (slots : List Slot) (base : ℕ) → are_in (registers_of (stands_at made from)) slots ≡ true → Kept around (later ++ now) tasks base made.registers slots →
      Runs around now later (Execute stmt ∷ tasks) slots from
  break_goes_on levels around made from stmt is way nothing spelled now later tasks slots base stand kept =
      break_goes levels around made from stmt around.loop refl is way nothing spelled now later tasks slots stand kept.jumps.blocks kept.jumps.loop

  pub continue_goes_on : (levels : ℕ) (around : Around) (made : Made) (from : ℕ) (stmt : t.Stmt) → t.clause stmt ≡ Continue → continue_way around (stands_at made from) around.loop ≡ GoesOn →
      NothingLeft around (stands_at made from) around.loop → IsSpelled flow made from (place_continue t (go levels t) around made from (t.first stmt) around.loop) →
      (now later : List (Stop t)) (tasks : List (TaskIn t)) (slots : List Slot) (base : ℕ) → are_in (registers_of (stands_at made from)) slots ≡ true → Kept around (later ++ now) tasks base made.registers slots →
      Runs around now later (Execute stmt ∷ tasks) slots from
  continue_goes_on levels around made from stmt is way nothing spelled now later tasks slots base stand kept =
      continue_goes levels around made from stmt around.loop refl is way nothing spelled now later tasks slots stand kept.jumps.blocks kept.jumps.loop

  -- the exit, from what is known of it
  pub left_at : (around : Around) (slot : Slot) → given_by around.kind around.result ≡ slot → AreApart around.scopes → HasExit t flow setting running around → IsLeft t flow setting running around slot
  left_at around slot same apart exit = record {
    closes = exit.closes;
    new = apart_new around.scopes apart;
    from = exit.from;
    given = exit.given ∙ ap Some same;
    to = exit.to;
    place = exit.place;
    edge = exit.edge;
  }

  -- the registers behind which a function is left
  leaves_stand : (levels : ℕ) (around : Around) (closes : Bool) → IsFlow flow → (made : Made) (from : ℕ) (standing : Stood) (word : Place) →
      IsSpelled flow made from (along_at t around (go levels t around) made from standing (leaves (names_of around.scopes) word ∷ closings closes word) around.exit) →
      (flow_stands_at flow from).registers ≡ (flow_stands_at flow around.exit).registers
  leaves_stand levels around true valid made from standing word spelled =
      let leave : Move t = leaves (names_of around.scopes) word in
      let first = head_spelled t flow setting running levels around made from (after t leave standing) leave (closings true word) around.exit spelled in
      let rest = tail_spelled t flow setting running levels around made from (after t leave standing) leave (closings true word) around.exit spelled in
      let one = one_at t flow setting running levels around (with_point (after t leave standing) made) from made.points (i.Leave (variables_of (names_of around.scopes))) word first in
      let two = one_at t flow setting running levels around (mid t flow setting running levels around made from (after t leave standing) leave) made.points around.exit i.Close word rest in
      sym (emptied_none (flow_stands_at flow from).registers) ∙ (ap (λ (stood : Stood). stood.registers) (stands_along flow from made.points (i.Leave (variables_of (names_of around.scopes))) word valid one)
      ∙ (sym (emptied_none (flow_stands_at flow made.points).registers) ∙ ap (λ (stood : Stood). stood.registers) (stands_along flow made.points around.exit i.Close word valid two)))
  leaves_stand levels around false valid made from standing word spelled =
      let one = one_at t flow setting running levels around made from around.exit (i.Leave (variables_of (names_of around.scopes))) word spelled in
      sym (emptied_none (flow_stands_at flow from).registers) ∙ ap (λ (stood : Stood). stood.registers) (stands_along flow from around.exit (i.Leave (variables_of (names_of around.scopes))) word valid one)

  pub may_lead : (around : Around) (now later : List (Stop t)) (tasks : List (TaskIn t)) (register size : ℕ) (gives plain : Bool) (point : ℕ) → (gives ≡ true → plain ≡ true) →
      Runs around now later tasks (InRegister register size gives ∷ []) point → Runs around now later tasks (InRegister register size plain ∷ []) point
  may_lead around now later tasks register size true true point each rest = rest
  may_lead around now later tasks register size true false point each rest = absurd (false≢true (each refl))
  may_lead around now later tasks register size false true point each rest = MayLead register size rest
  may_lead around now later tasks register size false false point each rest = rest

  -- a value that is converted is moved, what is held goes, and the function is left
  give_on : (levels : ℕ) → IsFlow flow → (around : Around) (from_kind : Kind) → IsLeft t flow setting running around (InRegister around.result (width around.kind) (not (is_address around.kind))) →
      (made : Made) (from middle : ℕ) (standing : Stood) (word : Place) (register size register' : ℕ) (plain plain' : Bool) (turn : List Block → Word → Word) (gone : List ℕ) →
      IsSpelled flow made middle (along_at t around (go levels t around) made middle standing (Emits (i.Move around.result register') word ∷ Emits (i.Finish gone) word ∷ function_leaves around word) around.exit) →
      (now later : List (Stop t)) (tasks : List (TaskIn t)) (slots : List Slot) → IsBody t flow setting running tasks around.kind → is_free register slots ≡ true →
      Turns flow slots from register size plain turn middle register' (width around.kind) plain' →
      ((memory : List Block) (value : Word) → Suits size plain value → as_kind memory from_kind around.kind value ≡ turn memory value) → (is_address around.kind ≡ false → plain' ≡ true) →
      is_free around.result (InRegister register' (width around.kind) plain' ∷ slots) ≡ true → are_in gone (InRegister register' (width around.kind) plain' ∷ slots) ≡ true →
      Runs around now later (GiveBack word from_kind ∷ tasks) (InRegister register size plain ∷ slots) from
  give_on levels valid around from_kind left made from middle standing word register size register' plain plain' turn gone spelled now later tasks slots body free turns means plainly free' held =
      let move : Move t = Emits (i.Move around.result register') word in
      let finish : Move t = Emits (i.Finish gone) word in
      let standing' : Stood = after t move standing in
      let moves : List (Move t) = finish ∷ function_leaves around word in
      let made' : Made = mid t flow setting running levels around made middle standing' move in
      let first = head_spelled t flow setting running levels around made middle standing' move moves around.exit spelled in
      let rest = tail_spelled t flow setting running levels around made middle standing' move moves around.exit spelled in
      let standing'' : Stood = after t finish standing' in
      let second = head_spelled t flow setting running levels around made' made.points standing'' finish (function_leaves around word) around.exit rest in
      let last = tail_spelled t flow setting running levels around made' made.points standing'' finish (function_leaves around word) around.exit rest in
      let made'' : Made = mid t flow setting running levels around made' made.points standing'' finish in
      let edge = one_at t flow setting running levels around (with_point standing'' made') made.points made'.points (i.Finish gone) word second in
      let result : left.from ≡ Some around.result = given_from running.gives left.from around.result (width around.kind) (not (is_address around.kind)) left.given in
      let exit = exit_register flow around.exit around.result left.to left.place valid (subst (λ (r : Option ℕ). One flow around.exit (i.Return r) left.to left.place) result left.edge) in
      let there : list_any (nat_eq around.result) (map (λ one. one.register) (flow_stands_at flow made'.points).registers) ≡ true =
      subst (λ (widths : List Width). list_any (nat_eq around.result) (map (λ one. one.register) widths) ≡ true) (sym (leaves_stand levels around around.closes valid made'' made'.points standing'' word last)) exit in
      GivesBack word word from_kind body.left register size middle register' (width around.kind) around.result made.points made'.points plain plain' turn gone body.is body.held body.rest free turns
      (λ memory value suits. ap (λ (k : Kind). as_kind memory from_kind k value) body.result ∙ means memory value suits) free'
      (one_at t flow setting running levels around (with_point standing' made) middle made.points (i.Move around.result register') word first) edge
      (not_gone flow made.points made'.points around.result gone word valid edge there) held
      (may_lead around (later ++ now) [] (LeaveFunction word ∷ []) around.result (width around.kind) (not (is_address around.kind)) plain' made'.points (λ is. plainly (not_holds (is_address around.kind) is))
      (leave_form t flow setting running levels around (InRegister around.result (width around.kind) (not (is_address around.kind))) left made'' made'.points standing'' word last (later ++ now) []))

  fails_here : {A : Type 0} (levels : ℕ) (around : Around) (made : Made) (from : ℕ) (standing : Stood) (moves : List (Move t)) →
      IsSpelled flow made from (along_at t around (go levels t around) made from standing (Fails ∷ (moves)) around.exit) → begins t around (after t Fails standing) moves around.exit ≡ New → A
  fails_here levels around made from standing moves spelled begin =
      let fail : Move t = Fails in
      never t flow setting running levels around (with_point (after t fail standing) made) from made.points
      (head_spelled t flow setting running levels around made from (after t fail standing) fail moves around.exit
      (subst (λ (start : Begin). IsSpelled flow made from
      (along_from t (λ made' point. along_at t around (go levels t around) made' point (after t Fails standing) moves around.exit) (go levels t around) made from Fails (after t Fails standing) GoesOn start)) begin spelled))

  -- the value as one of the kind of the function
  give_by : (levels : ℕ) → IsFlow flow → (around : Around) (from_kind : Kind) → IsLeft t flow setting running around (InRegister around.result (width around.kind) (not (is_address around.kind))) →
      (change : Conversion) → Means from_kind around.kind change → (made : Made) (from : ℕ) (standing : Stood) (word : Place) (register : ℕ) (plain : Bool) (front : List ℕ) → IsAsPlain from_kind plain →
      IsSpelled flow made from (along_at t around (go levels t around) made from standing (adapts change register (width from_kind) (suc register) word
      ++ Emits (i.Move around.result (stands_in change register (suc register))) word ∷ Emits (i.Finish (front ++ stands_in change register (suc register) ∷ [])) word ∷ function_leaves around word) around.exit) →
      (now later : List (Stop t)) (tasks : List (TaskIn t)) (slots : List Slot) → IsBody t flow setting running tasks around.kind → AreBelow register slots → suc register < made.registers → AreBelow made.registers slots →
      around.result < register → is_free around.result slots ≡ true → are_in front slots ≡ true →
      Runs around now later (GiveBack word from_kind ∷ tasks) (InRegister register (width from_kind) plain ∷ slots) from
  give_by levels valid around from_kind left Nothing means made from standing word register plain front number spelled now later tasks slots body below less below' lower free held =
      give_on levels valid around from_kind left made from from standing word register (width from_kind) register plain plain (λ memory value. value) (front ++ register ∷ []) spelled now later tasks slots body
      (free_below register register slots (omega arith) below)
      (subst (λ (n : ℕ). Turns flow slots from register (width from_kind) plain (λ memory value. value) from register n plain) means.0 Stays)
      (λ memory value suits. means.3 plain number memory value suits.2) (λ is. number (means.1 is))
      (free_beside around.result register (width around.kind) plain slots (λ same. absurd (omega arith)) free)
      (and_from (list_any (nat_eq register) (front ++ register ∷ [])) (are_in (front ++ register ∷ []) slots)
      (any_second register front (register ∷ []) (or_left (nat_eq register register) false (eq-eqb register register refl)))
      (in_more front (front ++ register ∷ []) slots (λ one is. any_first one front (register ∷ []) is) held))
  give_by levels valid around from_kind left (Resized bytes signed) means made from standing word register plain front number spelled now later tasks slots body below less below' lower free held =
      let into : ℕ = suc register in
      let turn : Move t = Emits (i.Convert (suc register) register bytes signed) word in
      let moves : List (Move t) = Emits (i.Move around.result (suc register)) word ∷ Emits (i.Finish (front ++ suc register ∷ [])) word ∷ function_leaves around word in
      let standing' : Stood = after t turn standing in
      let first = head_spelled t flow setting running levels around made from standing' turn moves around.exit spelled in
      let rest = tail_spelled t flow setting running levels around made from standing' turn moves around.exit spelled in
      let next : Made = mid t flow setting running levels around made from standing' turn in
      let free_r : is_free register slots ≡ true = free_below register register slots (omega arith) below in
      let free_s : is_free (suc register) slots ≡ true = free_below register (suc register) slots (omega arith) below in
      give_on levels valid around from_kind left next from made.points standing' word register (width from_kind) (suc register) plain true
      (λ memory value. Plain (converted (width from_kind) signed bytes (address_number memory value))) (front ++ suc register ∷ []) rest now later tasks slots body free_r
      (subst (λ (n : ℕ). Turns flow slots from register (width from_kind) plain (λ memory value. Plain (converted (width from_kind) signed bytes (address_number memory value))) made.points (suc register) n true) (sym means.0)
      (Turned made.points (suc register) bytes signed word (one_at t flow setting running levels around (with_point standing' made) from made.points (i.Convert (suc register) register bytes signed) word first) free_s free_r))
      (λ memory value suits. means.2 memory value) (λ is. refl)
      (free_beside around.result (suc register) (width around.kind) true slots (λ same. absurd (omega arith)) free)
      (and_from (list_any (nat_eq (suc register)) (front ++ suc register ∷ [])) (are_in (front ++ suc register ∷ []) slots)
      (any_second (suc register) front (suc register ∷ []) (or_left (nat_eq (suc register) (suc register)) false (eq-eqb (suc register) (suc register) refl)))
      (in_more front (front ++ suc register ∷ []) slots (λ one is. any_first one front (suc register ∷ []) is) held))
  give_by levels valid around from_kind left Tested means made from standing word register plain front number spelled now later tasks slots body below less below' lower free held =
      let turn : Move t = Tells register (width from_kind) (suc register) word in
      let moves : List (Move t) = Emits (i.Move around.result (suc register)) word ∷ Emits (i.Finish (front ++ suc register ∷ [])) word ∷ function_leaves around word in
      let standing' : Stood = after t turn standing in
      let first = head_spelled t flow setting running levels around made from standing' turn moves around.exit spelled in
      let rest = tail_spelled t flow setting running levels around made from standing' turn moves around.exit spelled in
      let next : Made = mid t flow setting running levels around made from standing' turn in
      let free_r : is_free register slots ≡ true = free_below register register slots (omega arith) below in
      let free_s : is_free (suc register) slots ≡ true = free_below register (suc register) slots (omega arith) below in
      give_on levels valid around from_kind left next from made.points standing' word register (width from_kind) (suc register) plain true
      (λ memory value. Plain (if nat_eq (address_number memory value) 0 then 0 else 1)) (front ++ suc register ∷ []) rest now later tasks slots body free_r
      (subst (λ (n : ℕ). Turns flow slots from register (width from_kind) plain (λ memory value. Plain (if nat_eq (address_number memory value) 0 then 0 else 1)) made.points (suc register) n true) (sym means.1)
      (told_turns levels t flow around (with_point standing' made) from register (width from_kind) (suc register) word made.points plain slots first below' (omega arith) free_r free_s))
      (λ memory value suits. means.3 plain number memory value suits) (λ is. refl)
      (free_beside around.result (suc register) (width around.kind) true slots (λ same. absurd (omega arith)) free)
      (and_from (list_any (nat_eq (suc register)) (front ++ suc register ∷ [])) (are_in (front ++ suc register ∷ []) slots)
      (any_second (suc register) front (suc register ∷ []) (or_left (nat_eq (suc register) (suc register)) false (eq-eqb (suc register) (suc register) refl)))
      (in_more front (front ++ suc register ∷ []) slots (λ one is. any_first one front (suc register ∷ []) is) held))
  give_by levels valid around from_kind left Dropped means made from standing word register plain front number spelled now later tasks slots body below less below' lower free held =
      fails_here levels around made from standing (Emits (i.Move around.result (suc register)) word ∷ Emits (i.Finish (front ++ suc register ∷ [])) word ∷ function_leaves around word) spelled refl
  give_by levels valid around from_kind left Unknown means made from standing word register plain front number spelled now later tasks slots body below less below' lower free held =
      fails_here levels around made from standing (Emits (i.Move around.result (suc register)) word ∷ Emits (i.Finish (front ++ suc register ∷ [])) word ∷ function_leaves around word) spelled refl

  -- what stands behind the value begins with an edge of its own
  adapted_begins : (around : Around) (standing : Stood) (change : Conversion) (register size into : ℕ) (word : Place) (instr : Instr) (moves : List (Move t)) (to : ℕ) →
      begins t around standing (adapts change register size into word ++ Emits instr word ∷ moves) to ≡ New
  adapted_begins around standing Nothing register size into word instr moves to = refl
  adapted_begins around standing (Resized bytes signed) register size into word instr moves to = refl
  adapted_begins around standing Tested register size into word instr moves to = refl
  adapted_begins around standing Dropped register size into word instr moves to = refl
  adapted_begins around standing Unknown register size into word instr moves to = refl

  -- `return`
  pub return_form : (levels : ℕ) → IsAt t flow setting running levels → IsFlow flow → (around : Around) → IsAround setting around → (made : Made) (from : ℕ) (stmt : t.Stmt) (expr : Option t.Expr) → t.clause stmt ≡ Return expr →
      IsSpelled flow made from (place_return t (go levels t) around made from (t.first stmt) (is_void around.kind) expr) →
      (now later : List (Stop t)) (tasks : List (TaskIn t)) (slots : List Slot) (base : ℕ) → are_in (registers_of (stands_at made from)) slots ≡ true → Kept around (later ++ now) tasks base made.registers slots →
      Runs around now later (Execute stmt ∷ tasks) slots from
  return_form levels at valid around good made from stmt expr is spelled now later tasks slots base stand kept = by_kind (is_void around.kind) refl expr is spelled
    where
      by_kind : (void : Bool) → is_void around.kind ≡ void → (expr' : Option t.Expr) → t.clause stmt ≡ Return expr' → IsSpelled flow made from (place_return t (go levels t) around made from (t.first stmt) void expr') →
          Runs around now later (Execute stmt ∷ tasks) slots from
      by_kind true void None is' spelled' =
          return_nothing_form t flow setting running levels around (left_at around (KnownAs 0) (given_void around.kind around.result void) kept.jumps.blocks kept.jumps.returns.exit) made from stmt is'
          (subst (λ (v : Bool). IsSpelled flow made from (place_return t (go levels t) around made from (t.first stmt) v None)) (sym void) spelled') now later tasks slots
          (record { left = kept.jumps.returns.found; is = kept.jumps.returns.is; held = kept.jumps.returns.held; rest = kept.jumps.returns.rest; result = kept.jumps.returns.result ∙ kind_void around.kind void }) stand
      by_kind true void (Some value) is' spelled' = absurd (false≢true spelled'.graph)
      by_kind false void None is' spelled' = absurd (false≢true spelled'.graph)
      by_kind false void (Some value) is' spelled' =
          let word : Place = t.first stmt in
          let spare : ℕ = made.registers in
          let count : ℕ = left_of t (AsValue false) value in
          let r : ℕ = made.registers + count in
          let made1 : Made = with_registers (count + 2) made in
          let kind : Kind = value_kind t value in
          let change : Conversion = conversion kind around.kind in
          let front : List ℕ = registers_of (stands_at made from) ++ run_of spare count in
          let move : Move t = Evaluates value spare r in
          let moves : List (Move t) = adapts change r (width kind) (suc r) word ++ Emits (i.Move around.result (stands_in change r (suc r))) word
          ∷ Emits (i.Finish (registers_of (stands_at made from) ++ (run_of spare count ++ stands_in change r (suc r) ∷ []))) word ∷ function_leaves around word in
          let standing : Stood = after t move (stands_at made1 from) in
          let spelled1 = spelled_registers (count + 2) spelled' in
          let gone : List ℕ = registers_of (stands_at made from) ++ (run_of spare count ++ stands_in change r (suc r) ∷ []) in
          let spelled2 = subst (λ (start : Begin). IsSpelled flow made1 from
          (along_from t (λ made' point. along_at t around (go levels t around) made' point standing moves around.exit) (go levels t around) made1 from move standing GoesOn start))
          (adapted_begins around standing change r (width kind) (suc r) word (i.Move around.result (stands_in change r (suc r))) (Emits (i.Finish gone) word ∷ function_leaves around word) around.exit) spelled1 in
          let first = head_spelled t flow setting running levels around made1 from standing move moves around.exit spelled2 in
          let rest = tail_spelled t flow setting running levels around made1 from standing move moves around.exit spelled2 in
          let next : Made = mid t flow setting running levels around made1 from standing move in
          let more = fills t flow setting running levels around made1 from standing move spelled1.inside spelled1.sound in
          let own = kept.own in
          let lower = kept.jumps.result in
          let few = own_value t value spare count r (omega arith) (omega arith) in
          executes t flow setting running around now later tasks slots from stmt (Return (Some value)) is'
          (at.value around good (with_point standing made1) from value spare r made.points first now later (GiveBack word kind ∷ tasks) slots base
          (full_ready t flow setting running (count + 2) (left_of t (AsValue (nat_eq r spare)) value) (omega arith) kept)
          (own_target (made.registers + (count + 2)) r own (omega arith) (omega arith) (free_below made.registers r slots (omega arith) kept.below))
          (λ plain number. give_by levels valid around kind (left_at around (InRegister around.result (width around.kind) (not (is_address around.kind))) (given_as around.kind around.result void) kept.jumps.blocks kept.jumps.returns.exit)
          change (conversion_means kind around.kind) next made.points standing word r plain front number
          (subst (λ (gone : List ℕ). IsSpelled flow next made.points (along_at t around (go levels t around) next made.points standing
          (adapts change r (width kind) (suc r) word ++ Emits (i.Move around.result (stands_in change r (suc r))) word ∷ Emits (i.Finish gone) word ∷ function_leaves around word) around.exit))
          (sym (append_assoc (registers_of (stands_at made from)) (run_of spare count) (stands_in change r (suc r) ∷ []))) rest)
          (later ++ now) [] tasks slots
          (record { left = kept.jumps.returns.found; is = kept.jumps.returns.is; held = kept.jumps.returns.held; rest = kept.jumps.returns.rest; result = kept.jumps.returns.result })
          (below_more made.registers r slots (omega arith) kept.below) (omega arith) (below_more made.registers next.registers slots (omega arith) kept.below) (omega arith) kept.jumps.free
          (in_more (registers_of (stands_at made from)) front slots (λ register is''. any_first register (registers_of (stands_at made from)) (run_of spare count) is'') stand)))
