-- Where a graph is exclusive, its machine goes along each edge that is not barred.
use Rattle.std.proofs.Common.{◌≡◌, ℕ, ◌⊎◌, inl, inr, List, [], ◌∷◌, Bool, true, false, cond, ◌&&◌, filter, refl, sym, ap, subst, ◌∙◌, Option, None, Some, length, nat_eq, eq-eqb}
use Rattle.std.specs.Prelude.{if◌then◌else◌, All, Contains}
use Rattle.std.proofs.lemmas.Bool.{eqb-true, and_parts}
use Rattle.std.proofs.lemmas.List.Elements.{All-head, All-tail}
use Rattle.cbase.specs.declared.place.Place.{Place}
use Rattle.choices.specs.declared.choice.Choice.{Choice}
use Rattle.choices.specs.declared.choice.Choice.TheVariants.{None as NoBlock, Block as NewBlock, Input as GivenInput}
use Rattle.bytes_core.specs.Value.{is_same_address}
use Rattle.flow.specs.declared.instruction.Instr.{Instr}
use Rattle.flow.specs.declared.instruction.Instr.TheVariants.{IfSame, IfDifferent, Allocate, AllocateNone}
use Rattle.flow.specs.declared.flow_graph.Flow.{Flow}
use Rattle.flow.specs.declared.flow_graph.FlowEdge.{FlowEdge}
use Rattle.flow.specs.Holding.{Held, held_by}
use Rattle.flow.specs.Machine.{State, Outcome, Went, Barred, Waits, Ended, Faulted, execute, step, step_along, step_among, unless_barred, given, allocated, allocated_none, at, without_registers}
use Rattle.flow.specs.Runs.{run, then_go}
use Rattle.flow.specs.Choosing.{run_along}
use Rattle.flow.specs.Valid.{edges_out}
use Rattle.flow.specs.Exclusive.{is_difference_of, is_sameness_of, is_allocation, is_no_allocation, exclude, are_exclusive, IsExclusive, DoStepsLookOut, GoesAlongOther, DoEdgesStep, DoEdgesRun}
use Rattle.flow.proofs.Ascending.{Among, Among-contains, Contains-among}

-- edges that begin elsewhere are barred
among_out : (flow : Flow) (edges : List FlowEdge) (state : State) (choices : List Choice) →
    step_among flow edges state choices ≡ step_among flow (filter (λ edge. nat_eq edge.from state.point) edges) state choices
among_out flow [] state choices = refl
among_out flow (edge ∷ edges) state choices = by_test (nat_eq edge.from state.point) refl (among_out flow edges state choices)
  where
    by_test : (here : Bool) → nat_eq edge.from state.point ≡ here →
        step_among flow edges state choices ≡ step_among flow (filter (λ edge. nat_eq edge.from state.point) edges) state choices →
        unless_barred (if here then execute flow edge.instr edge.to edge.place state choices else Barred) (step_among flow edges state choices)
        ≡ step_among flow (cond here (edge ∷ filter (λ edge. nat_eq edge.from state.point) edges) (filter (λ edge. nat_eq edge.from state.point) edges)) state choices
    by_test true is later =
        ap (unless_barred (execute flow edge.instr edge.to edge.place state choices)) later
        ∙ ap (λ (b : Bool). unless_barred (if b then execute flow edge.instr edge.to edge.place state choices else Barred)
        (step_among flow (filter (λ edge. nat_eq edge.from state.point) edges) state choices)) (sym is)
    by_test false is later = later

pub steps_look_out : DoStepsLookOut
steps_look_out flow state choices = among_out flow flow.edges state choices

-- an outcome of an edge that is not barred
record IsTaken (wanted : Outcome) : Type 0 where
  barred : Barred ≡ wanted → ⊥
  stays : (later : Outcome) → unless_barred wanted later ≡ wanted

went : (next : State) (rest : List Choice) → IsTaken (Went next rest)
went next rest = record { barred = λ e. absurd cc; stays = λ later. refl }

faulted : (kind : ℕ) (place : Place) → IsTaken (Faulted kind place)
faulted kind place = record { barred = λ e. absurd cc; stays = λ later. refl }

waits : IsTaken Waits
waits = record { barred = λ e. absurd cc; stays = λ later. refl }

ended : IsTaken Ended
ended = record { barred = λ e. absurd cc; stays = λ later. refl }

-- another edge is barred then, or comes to the same
abbrev Yields : Outcome → Outcome → Type 0
Yields wanted other = (other ≡ Barred) ⊎ (other ≡ wanted)

tests : (one other : Option Held) (test : Held → Held → Bool) (goes away wanted : Outcome) → IsTaken wanted →
    given one (λ held. given other (λ second. if test held second then goes else Barred)) ≡ wanted →
    Yields wanted (given one (λ held. given other (λ second. if test held second then Barred else away)))
tests None other test goes away wanted taken is = inr is
tests (Some held) None test goes away wanted taken is = inr is
tests (Some held) (Some second) test goes away wanted taken is = by_test (test held second) is
  where
    by_test : (t : Bool) → (if t then goes else Barred) ≡ wanted → Yields wanted (if t then Barred else away)
    by_test true is = inl refl
    by_test false is = absurd (taken.barred is)

tests_not : (one other : Option Held) (test : Held → Held → Bool) (goes away wanted : Outcome) → IsTaken wanted →
    given one (λ held. given other (λ second. if test held second then Barred else away)) ≡ wanted →
    Yields wanted (given one (λ held. given other (λ second. if test held second then goes else Barred)))
tests_not None other test goes away wanted taken is = inr is
tests_not (Some held) None test goes away wanted taken is = inr is
tests_not (Some held) (Some second) test goes away wanted taken is = by_test (test held second) is
  where
    by_test : (t : Bool) → (if t then Barred else away) ≡ wanted → Yields wanted (if t then goes else Barred)
    by_test false is = inl refl
    by_test true is = absurd (taken.barred is)

gives : (into bytes into' : ℕ) (zeroed : Bool) (state state' : State) (choices : List Choice) (wanted : Outcome) → IsTaken wanted →
    allocated into bytes zeroed state choices ≡ wanted → Yields wanted (allocated_none into' state' choices)
gives into bytes into' zeroed state state' [] wanted taken is = inr is
gives into bytes into' zeroed state state' (NoBlock ∷ rest) wanted taken is = absurd (taken.barred is)
gives into bytes into' zeroed state state' (NewBlock base contents ∷ rest) wanted taken is = inl refl
gives into bytes into' zeroed state state' (GivenInput number ∷ rest) wanted taken is = inr is

gives_none : (into bytes into' : ℕ) (zeroed : Bool) (state state' : State) (choices : List Choice) (wanted : Outcome) → IsTaken wanted →
    allocated_none into' state' choices ≡ wanted → Yields wanted (allocated into bytes zeroed state choices)
gives_none into bytes into' zeroed state state' [] wanted taken is = inr is
gives_none into bytes into' zeroed state state' (NoBlock ∷ rest) wanted taken is = inl refl
gives_none into bytes into' zeroed state state' (NewBlock base contents ∷ rest) wanted taken is = absurd (taken.barred is)
gives_none into bytes into' zeroed state state' (GivenInput number ∷ rest) wanted taken is = inr is

-- where one of two instructions that exclude each other is not barred, the other one is, or comes to the same
bars_difference : (flow : Flow) (one other : ℕ) (instr : Instr) (to to' : ℕ) (place place' : Place) (state : State) (choices : List Choice) (wanted : Outcome) → IsTaken wanted →
    is_difference_of one other instr ≡ true → execute flow (IfSame one other) to place state choices ≡ wanted → Yields wanted (execute flow instr to' place' state choices)
bars_difference flow one other (IfDifferent one' other') to to' place place' state choices wanted taken pair is =
    subst (λ (r : ℕ). Yields wanted (execute flow (IfDifferent r other') to' place' state choices)) (eqb-true one one' ((and_parts (nat_eq one one') (nat_eq other other') pair).0))
    (subst (λ (r : ℕ). Yields wanted (execute flow (IfDifferent one r) to' place' state choices)) (eqb-true other other' ((and_parts (nat_eq one one') (nat_eq other other') pair).1))
    (tests (held_by state.frame.registers one) (held_by state.frame.registers other) (λ held second. is_same_address state.memory held.word second.word)
    (Went (at to (without_registers (one ∷ other ∷ []) state)) choices) (Went (at to' (without_registers (one ∷ other ∷ []) state)) choices) wanted taken is))
bars_difference flow one other instr to to' place place' state choices wanted taken pair is = absurd (cc)

bars_sameness : (flow : Flow) (one other : ℕ) (instr : Instr) (to to' : ℕ) (place place' : Place) (state : State) (choices : List Choice) (wanted : Outcome) → IsTaken wanted →
    is_sameness_of one other instr ≡ true → execute flow (IfDifferent one other) to place state choices ≡ wanted → Yields wanted (execute flow instr to' place' state choices)
bars_sameness flow one other (IfSame one' other') to to' place place' state choices wanted taken pair is =
    subst (λ (r : ℕ). Yields wanted (execute flow (IfSame r other') to' place' state choices)) (eqb-true one one' ((and_parts (nat_eq one one') (nat_eq other other') pair).0))
    (subst (λ (r : ℕ). Yields wanted (execute flow (IfSame one r) to' place' state choices)) (eqb-true other other' ((and_parts (nat_eq one one') (nat_eq other other') pair).1))
    (tests_not (held_by state.frame.registers one) (held_by state.frame.registers other) (λ held second. is_same_address state.memory held.word second.word)
    (Went (at to' (without_registers (one ∷ other ∷ []) state)) choices) (Went (at to (without_registers (one ∷ other ∷ []) state)) choices) wanted taken is))
bars_sameness flow one other instr to to' place place' state choices wanted taken pair is = absurd (cc)

bars_none : (flow : Flow) (into bytes : ℕ) (zeroed : Bool) (instr : Instr) (to to' : ℕ) (place place' : Place) (state : State) (choices : List Choice) (wanted : Outcome) → IsTaken wanted →
    is_no_allocation instr ≡ true → execute flow (Allocate into bytes zeroed) to place state choices ≡ wanted → Yields wanted (execute flow instr to' place' state choices)
bars_none flow into bytes zeroed (AllocateNone into') to to' place place' state choices wanted taken pair is =
    gives into bytes into' zeroed (at to state) (at to' state) choices wanted taken is
bars_none flow into bytes zeroed instr to to' place place' state choices wanted taken pair is = absurd (cc)

bars_allocation : (flow : Flow) (into : ℕ) (instr : Instr) (to to' : ℕ) (place place' : Place) (state : State) (choices : List Choice) (wanted : Outcome) → IsTaken wanted →
    is_allocation instr ≡ true → execute flow (AllocateNone into) to place state choices ≡ wanted → Yields wanted (execute flow instr to' place' state choices)
bars_allocation flow into (Allocate into' bytes zeroed) to to' place place' state choices wanted taken pair is =
    gives_none into' bytes into zeroed (at to' state) (at to state) choices wanted taken is
bars_allocation flow into instr to to' place place' state choices wanted taken pair is = absurd (cc)

bars : (flow : Flow) (instr instr' : Instr) (to to' : ℕ) (place place' : Place) (state : State) (choices : List Choice) (wanted : Outcome) → IsTaken wanted →
    exclude instr instr' ≡ true → execute flow instr to place state choices ≡ wanted → Yields wanted (execute flow instr' to' place' state choices)
bars flow (IfSame one other) instr = bars_difference flow one other instr
bars flow (IfDifferent one other) instr = bars_sameness flow one other instr
bars flow (Allocate into bytes zeroed) instr = bars_none flow into bytes zeroed instr
bars flow (AllocateNone into) instr = bars_allocation flow into instr
bars flow instr instr' = λ to to' place place' state choices wanted taken pair is. absurd (cc)

same_test : (a b c d : ℕ) → (nat_eq a b && nat_eq c d) ≡ true → (nat_eq b a && nat_eq d c) ≡ true
same_test a b c d both =
    let one : a ≡ b = eqb-true a b ((and_parts (nat_eq a b) (nat_eq c d) both).0) in
    let other : c ≡ d = eqb-true c d ((and_parts (nat_eq a b) (nat_eq c d) both).1) in
    rw (eq-eqb b a (sym one), eq-eqb d c (sym other)) refl

swap_difference : (one other : ℕ) (instr : Instr) → is_difference_of one other instr ≡ true → exclude instr (IfSame one other) ≡ true
swap_difference one other (IfDifferent one' other') pair = same_test one one' other other' pair
swap_difference one other instr pair = absurd (cc)

swap_sameness : (one other : ℕ) (instr : Instr) → is_sameness_of one other instr ≡ true → exclude instr (IfDifferent one other) ≡ true
swap_sameness one other (IfSame one' other') pair = same_test one one' other other' pair
swap_sameness one other instr pair = absurd (cc)

swap_none : (into bytes : ℕ) (zeroed : Bool) (instr : Instr) → is_no_allocation instr ≡ true → exclude instr (Allocate into bytes zeroed) ≡ true
swap_none into bytes zeroed (AllocateNone into') pair = refl
swap_none into bytes zeroed instr pair = absurd (cc)

swap_allocation : (into : ℕ) (instr : Instr) → is_allocation instr ≡ true → exclude instr (AllocateNone into) ≡ true
swap_allocation into (Allocate into' bytes zeroed) pair = refl
swap_allocation into instr pair = absurd (cc)

swap : (instr instr' : Instr) → exclude instr instr' ≡ true → exclude instr' instr ≡ true
swap (IfSame one other) instr = swap_difference one other instr
swap (IfDifferent one other) instr = swap_sameness one other instr
swap (Allocate into bytes zeroed) instr = swap_none into bytes zeroed instr
swap (AllocateNone into) instr = swap_allocation into instr
swap instr instr' = λ pair. absurd (cc)

along : (flow : Flow) (edge second : FlowEdge) (state : State) (choices : List Choice) (wanted : Outcome) → IsTaken wanted → exclude second.instr edge.instr ≡ true →
    step_along flow second state choices ≡ wanted → Yields wanted (step_along flow edge state choices)
along flow edge second state choices wanted taken pair goes =
    by_test (nat_eq second.from state.point) (nat_eq edge.from state.point) goes
  where
    by_test : (t t' : Bool) → (if t then execute flow second.instr second.to second.place state choices else Barred) ≡ wanted →
        Yields wanted (if t' then execute flow edge.instr edge.to edge.place state choices else Barred)
    by_test t false goes = inl refl
    by_test false true goes = absurd (taken.barred goes)
    by_test true true goes = bars flow second.instr edge.instr second.to edge.to second.place edge.place state choices wanted taken pair goes

-- the edges out of a point, one of which is taken
out_steps : (flow : Flow) (edges : List FlowEdge) (edge : FlowEdge) (state : State) (choices : List Choice) (wanted : Outcome) → IsTaken wanted →
    are_exclusive edges ≡ true → Among edges edge → step_along flow edge state choices ≡ wanted → step_among flow edges state choices ≡ wanted
out_steps flow [] edge state choices wanted taken exclusive among goes = absurd among
out_steps flow (first ∷ []) edge state choices wanted taken exclusive (inl same) goes =
    ap (λ (one : FlowEdge). unless_barred (step_along flow one state choices) Ended) same ∙ (ap (λ (one : Outcome). unless_barred one Ended) goes ∙ taken.stays Ended)
out_steps flow (first ∷ []) edge state choices wanted taken exclusive (inr later) goes = absurd later
out_steps flow (first ∷ (second ∷ [])) edge state choices wanted taken exclusive (inl same) goes =
    let later : Outcome = step_among flow (second ∷ []) state choices in
    ap (λ (one : FlowEdge). unless_barred (step_along flow one state choices) later) same ∙ (ap (λ (one : Outcome). unless_barred one later) goes ∙ taken.stays later)
out_steps flow (first ∷ (second ∷ [])) edge state choices wanted taken exclusive (inr (inl same)) goes =
    let here : step_along flow second state choices ≡ wanted = ap (λ (one : FlowEdge). step_along flow one state choices) same ∙ goes in
    let swapped : exclude second.instr first.instr ≡ true = swap first.instr second.instr exclusive in
    by_first (along flow first second state choices wanted taken swapped here)
    (ap (λ (one : Outcome). unless_barred one Ended) here ∙ taken.stays Ended)
  where
    by_first : Yields wanted (step_along flow first state choices) → step_among flow (second ∷ []) state choices ≡ wanted → step_among flow (first ∷ (second ∷ [])) state choices ≡ wanted
    by_first (inl barred) later = ap (λ (one : Outcome). unless_barred one (step_among flow (second ∷ []) state choices)) barred ∙ later
    by_first (inr is) later = ap (λ (one : Outcome). unless_barred one (step_among flow (second ∷ []) state choices)) is ∙ taken.stays (step_among flow (second ∷ []) state choices)
out_steps flow (first ∷ (second ∷ [])) edge state choices wanted taken exclusive (inr (inr later)) goes = absurd later
out_steps flow (first ∷ (second ∷ (third ∷ rest))) edge state choices wanted taken exclusive among goes = absurd (cc)

-- an edge that is not barred is one out of the point
among_those : (flow : Flow) (edges : List FlowEdge) (edge : FlowEdge) (state : State) (choices : List Choice) (wanted : Outcome) → IsTaken wanted →
    Among edges edge → step_along flow edge state choices ≡ wanted → Among (filter (λ one. nat_eq one.from state.point) edges) edge
among_those flow [] edge state choices wanted taken among goes = absurd among
among_those flow (first ∷ rest) edge state choices wanted taken (inl same) goes =
    by_test (nat_eq first.from state.point) refl (ap (λ (one : FlowEdge). step_along flow one state choices) same ∙ goes)
  where
    by_test : (here : Bool) → nat_eq first.from state.point ≡ here → (if nat_eq first.from state.point then execute flow first.instr first.to first.place state choices else Barred) ≡ wanted →
        Among (cond here (first ∷ filter (λ one. nat_eq one.from state.point) rest) (filter (λ one. nat_eq one.from state.point) rest)) edge
    by_test true is goes = inl same
    by_test false is goes = absurd (taken.barred (sym (ap (λ (b : Bool). if b then execute flow first.instr first.to first.place state choices else Barred) is) ∙ goes))
among_those flow (first ∷ rest) edge state choices wanted taken (inr later) goes =
    by_test (nat_eq first.from state.point) (among_those flow rest edge state choices wanted taken later goes)
  where
    by_test : (here : Bool) → Among (filter (λ one. nat_eq one.from state.point) rest) edge →
        Among (cond here (first ∷ filter (λ one. nat_eq one.from state.point) rest) (filter (λ one. nat_eq one.from state.point) rest)) edge
    by_test true found = inr found
    by_test false found = found

edge_steps : (flow : Flow) (edge : FlowEdge) (state : State) (choices : List Choice) (wanted : Outcome) → IsTaken wanted → IsExclusive flow → Contains flow.edges edge →
    step_along flow edge state choices ≡ wanted → step flow state choices ≡ wanted
edge_steps flow edge state choices wanted taken exclusive contains goes =
    steps_look_out flow state choices
    ∙ out_steps flow (edges_out flow state.point) edge state choices wanted taken (exclusive.each state.point)
    (among_those flow flow.edges edge state choices wanted taken (Among-contains flow.edges edge contains) goes) goes

-- of two instructions that exclude each other one is not barred
tests_part : (one other : Option Held) (test : Held → Held → Bool) (goes away : State) (choices choices' : List Choice) →
    given one (λ held. given other (λ second. if test held second then Went goes choices else Barred)) ≡ Barred →
    given one (λ held. given other (λ second. if test held second then Barred else Went away choices')) ≡ Barred → ⊥
tests_part None other test goes away choices choices' is is' = absurd cc
tests_part (Some held) None test goes away choices choices' is is' = absurd cc
tests_part (Some held) (Some second) test goes away choices choices' is is' = by_test (test held second) is is'
  where
    by_test : (t : Bool) → (if t then Went goes choices else Barred) ≡ Barred → (if t then Barred else Went away choices') ≡ Barred → ⊥
    by_test true is is' = absurd cc
    by_test false is is' = absurd cc

made_part : (into bytes into' : ℕ) (zeroed : Bool) (state state' : State) (choices : List Choice) → allocated into bytes zeroed state choices ≡ Barred → allocated_none into' state' choices ≡ Barred → ⊥
made_part into bytes into' zeroed state state' [] is is' = absurd cc
made_part into bytes into' zeroed state state' (NoBlock ∷ rest) is is' = absurd cc
made_part into bytes into' zeroed state state' (NewBlock base contents ∷ rest) is is' = new_part _ _ is
  where
    new_part : (fits : Bool) (next : State) → (if fits then Went next rest else Ended) ≡ Barred → ⊥
    new_part true next is = absurd cc
    new_part false next is = absurd cc
made_part into bytes into' zeroed state state' (GivenInput number ∷ rest) is is' = absurd cc

part_difference : (flow : Flow) (one other : ℕ) (instr : Instr) (to to' : ℕ) (place place' : Place) (state : State) (choices : List Choice) → is_difference_of one other instr ≡ true →
    execute flow (IfSame one other) to place state choices ≡ Barred → execute flow instr to' place' state choices ≡ Barred → ⊥
part_difference flow one other (IfDifferent one' other') to to' place place' state choices pair is is' =
    let first : one' ≡ one = sym (eqb-true one one' ((and_parts (nat_eq one one') (nat_eq other other') pair).0)) in
    let second : other' ≡ other = sym (eqb-true other other' ((and_parts (nat_eq one one') (nat_eq other other') pair).1)) in
    tests_part (held_by state.frame.registers one) (held_by state.frame.registers other) (λ held second. is_same_address state.memory held.word second.word)
    (at to (without_registers (one ∷ other ∷ []) state)) (at to' (without_registers (one ∷ other ∷ []) state)) choices choices is
    (subst (λ (r : ℕ). execute flow (IfDifferent one r) to' place' state choices ≡ Barred) second
    (subst (λ (r : ℕ). execute flow (IfDifferent r other') to' place' state choices ≡ Barred) first is'))
part_difference flow one other instr to to' place place' state choices pair is is' = absurd (cc)

part_none : (flow : Flow) (into bytes : ℕ) (zeroed : Bool) (instr : Instr) (to to' : ℕ) (place place' : Place) (state : State) (choices : List Choice) → is_no_allocation instr ≡ true →
    execute flow (Allocate into bytes zeroed) to place state choices ≡ Barred → execute flow instr to' place' state choices ≡ Barred → ⊥
part_none flow into bytes zeroed (AllocateNone into') to to' place place' state choices pair is is' = made_part into bytes into' zeroed (at to state) (at to' state) choices is is'
part_none flow into bytes zeroed instr to to' place place' state choices pair is is' = absurd (cc)

part : (flow : Flow) (instr instr' : Instr) (to to' : ℕ) (place place' : Place) (state : State) (choices : List Choice) → exclude instr instr' ≡ true →
    execute flow instr to place state choices ≡ Barred → execute flow instr' to' place' state choices ≡ Barred → ⊥
part flow (IfSame one other) instr = λ to to' place place' state choices pair is is'. part_difference flow one other instr to to' place place' state choices pair is is'
part flow (IfDifferent one other) instr = other_way instr
  where
    other_way : (instr : Instr) (to to' : ℕ) (place place' : Place) (state : State) (choices : List Choice) → is_sameness_of one other instr ≡ true →
        execute flow (IfDifferent one other) to place state choices ≡ Barred → execute flow instr to' place' state choices ≡ Barred → ⊥
    other_way (IfSame one' other') to to' place place' state choices pair is is' =
        part_difference flow one' other' (IfDifferent one other) to' to place' place state choices (same_test one one' other other' pair) is' is
    other_way instr to to' place place' state choices pair is is' = absurd (cc)
part flow (Allocate into bytes zeroed) instr = λ to to' place place' state choices pair is is'. part_none flow into bytes zeroed instr to to' place place' state choices pair is is'
part flow (AllocateNone into) instr = other_way instr
  where
    other_way : (instr : Instr) (to to' : ℕ) (place place' : Place) (state : State) (choices : List Choice) → is_allocation instr ≡ true →
        execute flow (AllocateNone into) to place state choices ≡ Barred → execute flow instr to' place' state choices ≡ Barred → ⊥
    other_way (Allocate into' bytes zeroed) to to' place place' state choices pair is is' =
        part_none flow into' bytes zeroed (AllocateNone into) to' to place' place state choices refl is' is
    other_way instr to to' place place' state choices pair is is' = absurd (cc)
part flow instr instr' = λ to to' place place' state choices pair is is'. absurd (cc)

along_here : (flow : Flow) (edge : FlowEdge) (state : State) (choices : List Choice) → edge.from ≡ state.point →
    step_along flow edge state choices ≡ execute flow edge.instr edge.to edge.place state choices
along_here flow edge state choices from = rw (eq-eqb edge.from state.point from) refl

-- so where one of the two is barred, what the other one comes to is what both come to
stays_alone : (outcome : Outcome) → (outcome ≡ Barred → ⊥) → unless_barred outcome Ended ≡ outcome
stays_alone (Went next more) taken = refl
stays_alone Barred taken = absurd (taken refl)
stays_alone Waits taken = refl
stays_alone Ended taken = refl
stays_alone (Faulted kind place) taken = refl

other_taken : (flow : Flow) (edge other : FlowEdge) (state : State) (choices : List Choice) → exclude edge.instr other.instr ≡ true → edge.from ≡ state.point → other.from ≡ state.point →
    step_along flow edge state choices ≡ Barred → step_along flow other state choices ≡ Barred → ⊥
other_taken flow edge other state choices pair from from' is is' =
    part flow edge.instr other.instr edge.to other.to edge.place other.place state choices pair
    (sym (along_here flow edge state choices from) ∙ is) (sym (along_here flow other state choices from') ∙ is')

-- the edges out of a point begin there and are edges of the graph
among_at : (edges : List FlowEdge) (edge : FlowEdge) (point : ℕ) → edge.from ≡ point → Among edges edge → Among (filter (λ one. nat_eq one.from point) edges) edge
among_at [] edge point from among = absurd among
among_at (first ∷ rest) edge point from (inl same) = by_test (nat_eq first.from point) (eq-eqb first.from point (ap (λ (one : FlowEdge). one.from) same ∙ from))
  where
    by_test : (here : Bool) → here ≡ true → Among (cond here (first ∷ filter (λ one. nat_eq one.from point) rest) (filter (λ one. nat_eq one.from point) rest)) edge
    by_test true is = inl same
    by_test false is = absurd (cc)
among_at (first ∷ rest) edge point from (inr later) = by_test (nat_eq first.from point) (among_at rest edge point from later)
  where
    by_test : (here : Bool) → Among (filter (λ one. nat_eq one.from point) rest) edge → Among (cond here (first ∷ filter (λ one. nat_eq one.from point) rest) (filter (λ one. nat_eq one.from point) rest)) edge
    by_test true found = inr found
    by_test false found = found

begins_there : (edges : List FlowEdge) (edge : FlowEdge) (point : ℕ) → Among (filter (λ one. nat_eq one.from point) edges) edge → (edge.from ≡ point) × Among edges edge
begins_there [] edge point among = absurd among
begins_there (first ∷ rest) edge point among = by_test (nat_eq first.from point) refl (λ found. begins_there rest edge point found) among
  where
    by_test : (here : Bool) → nat_eq first.from point ≡ here → (Among (filter (λ one. nat_eq one.from point) rest) edge → (edge.from ≡ point) × Among rest edge) →
        Among (cond here (first ∷ filter (λ one. nat_eq one.from point) rest) (filter (λ one. nat_eq one.from point) rest)) edge → (edge.from ≡ point) × Among (first ∷ rest) edge
    by_test true is later (inl same) = (ap (λ (one : FlowEdge). one.from) (sym same) ∙ eqb-true first.from point is, inl same)
    by_test true is later (inr found) = ((later found).0, inr (later found).1)
    by_test false is later found = ((later found).0, inr (later found).1)

edge_bars : (flow : Flow) (edge : FlowEdge) (state : State) (choices : List Choice) → IsExclusive flow → Contains flow.edges edge → edge.from ≡ state.point →
    step_along flow edge state choices ≡ Barred → ((edges_out flow state.point ≡ edge ∷ []) × (step flow state choices ≡ Ended)) ⊎ GoesAlongOther flow edge state choices
edge_bars flow edge state choices exclusive contains from barred =
    by_edges (edges_out flow state.point) refl (exclusive.each state.point) (among_at flow.edges edge state.point from (Among-contains flow.edges edge contains))
  where
    looks : (edges : List FlowEdge) → edges_out flow state.point ≡ edges → step flow state choices ≡ step_among flow edges state choices
    looks edges same = steps_look_out flow state choices ∙ ap (λ (es : List FlowEdge). step_among flow es state choices) same

    another : (edges : List FlowEdge) → edges_out flow state.point ≡ edges → (other : FlowEdge) → Among edges other → exclude edge.instr other.instr ≡ true →
        (unless_barred (step_along flow other state choices) Ended ≡ step_among flow edges state choices) → GoesAlongOther flow edge state choices
    another edges same other among pair comes =
        let there = begins_there flow.edges other state.point (subst (λ (es : List FlowEdge). Among es other) (sym same) among) in record {
          other = other;
          stands = Contains-among flow.edges other there.1;
          from = there.0;
          excludes = pair;
          steps = looks edges same ∙ sym comes ∙ stays_alone (step_along flow other state choices) (λ is. other_taken flow edge other state choices pair from there.0 barred is);
        }

    by_edges : (edges : List FlowEdge) → edges_out flow state.point ≡ edges → are_exclusive edges ≡ true → Among edges edge →
        ((edges_out flow state.point ≡ edge ∷ []) × (step flow state choices ≡ Ended)) ⊎ GoesAlongOther flow edge state choices
    by_edges [] same pair among = absurd among
    by_edges (first ∷ []) same pair (inl here) = inl (
      same ∙ ap (λ (one : FlowEdge). one ∷ []) here,
      looks (first ∷ []) same ∙ ap (λ (one : FlowEdge). unless_barred (step_along flow one state choices) Ended) here ∙ ap (λ (one : Outcome). unless_barred one Ended) barred,
    )
    by_edges (first ∷ []) same pair (inr later) = absurd later
    by_edges (first ∷ (second ∷ [])) same pair (inl here) =
        inr (another (first ∷ (second ∷ [])) same second (inr (inl refl)) (ap (λ (one : FlowEdge). exclude one.instr second.instr) (sym here) ∙ pair)
        (sym (ap (λ (one : FlowEdge). unless_barred (step_along flow one state choices) (step_among flow (second ∷ []) state choices)) here
        ∙ ap (λ (one : Outcome). unless_barred one (step_among flow (second ∷ []) state choices)) barred)))
    by_edges (first ∷ (second ∷ [])) same pair (inr (inl here)) =
        inr (another (first ∷ (second ∷ [])) same first (inl refl) (ap (λ (one : FlowEdge). exclude one.instr first.instr) (sym here) ∙ swap first.instr second.instr pair)
        (sym (ap (λ (one : FlowEdge). unless_barred (step_along flow first state choices) (unless_barred (step_along flow one state choices) Ended)) here
        ∙ ap (λ (one : Outcome). unless_barred (step_along flow first state choices) (unless_barred one Ended)) barred)))
    by_edges (first ∷ (second ∷ [])) same pair (inr (inr later)) = absurd later
    by_edges (first ∷ (second ∷ (third ∷ rest))) same pair among = absurd (cc)

pub edges_step : DoEdgesStep
edges_step = record {
  goes = λ flow edge state next choices rest exclusive contains goes. edge_steps flow edge state choices (Went next rest) (went next rest) exclusive contains goes;
  faults = λ flow edge state choices kind place exclusive contains goes. edge_steps flow edge state choices (Faulted kind place) (faulted kind place) exclusive contains goes;
  waits = λ flow edge state choices exclusive contains goes. edge_steps flow edge state choices Waits waits exclusive contains goes;
  ends = λ flow edge state choices exclusive contains goes. edge_steps flow edge state choices Ended ended exclusive contains goes;
  bars = edge_bars;
}

-- one edge behind the other
then_goes : (flow : Flow) (edge : FlowEdge) (rest : List FlowEdge) (state : State) (choices : List Choice) (wanted : Outcome) → IsTaken wanted → IsExclusive flow → Contains flow.edges edge →
    ((middle : State) (more : List Choice) → run_along flow rest middle more ≡ wanted → run (length rest) flow middle more ≡ wanted) →
    then_go (step_along flow edge state choices) (run_along flow rest) ≡ wanted → then_go (step flow state choices) (run (length rest) flow) ≡ wanted
then_goes flow edge rest state choices wanted taken exclusive contains later goes = by_outcome (step_along flow edge state choices) refl goes
  where
    by_outcome : (outcome : Outcome) → step_along flow edge state choices ≡ outcome → then_go outcome (run_along flow rest) ≡ wanted →
        then_go (step flow state choices) (run (length rest) flow) ≡ wanted
    by_outcome (Went middle more) is goes =
        ap (λ (one : Outcome). then_go one (run (length rest) flow)) (edge_steps flow edge state choices (Went middle more) (went middle more) exclusive contains is)
        ∙ later middle more goes
    by_outcome Barred is goes = absurd (taken.barred goes)
    by_outcome Waits is goes = ap (λ (one : Outcome). then_go one (run (length rest) flow)) (edge_steps flow edge state choices Waits waits exclusive contains is) ∙ goes
    by_outcome Ended is goes = ap (λ (one : Outcome). then_go one (run (length rest) flow)) (edge_steps flow edge state choices Ended ended exclusive contains is) ∙ goes
    by_outcome (Faulted kind place) is goes =
        ap (λ (one : Outcome). then_go one (run (length rest) flow)) (edge_steps flow edge state choices (Faulted kind place) (faulted kind place) exclusive contains is) ∙ goes

runs : (flow : Flow) (edges : List FlowEdge) (state : State) (choices : List Choice) (wanted : Outcome) → IsTaken wanted → IsExclusive flow → All (Contains flow.edges) edges →
    run_along flow edges state choices ≡ wanted → run (length edges) flow state choices ≡ wanted
runs flow [] state choices wanted taken exclusive all goes = goes
runs flow (edge ∷ rest) state choices wanted taken exclusive all goes =
    then_goes flow edge rest state choices wanted taken exclusive (All-head (Contains flow.edges) edge rest all)
    (λ middle more along. runs flow rest middle more wanted taken exclusive (All-tail (Contains flow.edges) edge rest all) along) goes

pub edges_run : DoEdgesRun
edges_run = record {
  goes = λ flow edges state next choices rest exclusive all goes. runs flow edges state choices (Went next rest) (went next rest) exclusive all goes;
  faults = λ flow edges state choices kind place exclusive all goes. runs flow edges state choices (Faulted kind place) (faulted kind place) exclusive all goes;
  waits = λ flow edges state choices exclusive all goes. runs flow edges state choices Waits waits exclusive all goes;
  ends = λ flow edges state choices exclusive all goes. runs flow edges state choices Ended ended exclusive all goes;
}
