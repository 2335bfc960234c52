-- Full expressions, branches and the loops that test in front of a turn or behind one, from what a level less promises.
use Rattle.std.proofs.Common.{◌≡◌, ℕ, suc, ◌+◌, List, [], ◌∷◌, ◌++◌, map, length, Bool, true, false, nat_eq, refl, sym, ap, subst, ◌∙◌, arith, Option, None, Some}
use Rattle.std.specs.List.{list_any}
use Rattle.std.proofs.lemmas.Bool.{false≢true}
use Rattle.cbase.specs.declared.place.Place.{Place}
use Rattle.c_machine.specs.declared.kind.Kind.{Kind}
use Rattle.c_machine.specs.declared.kind.Kind.TheVariants.{Integer, Pointer, Array, Struct, Void}
use Rattle.c_machine.specs.declared.task.Task.TheVariants.{ValueOf, Execute, Finish, Branch, Again}
use Rattle.c_machine.specs.Expressions.{value_kind}
use Rattle.c_machine.specs.State.{TaskIn}
use Rattle.c_machine.specs.Statements.{LoopLeft, loop_left, body_left, behind_loop, clause_tasks, test_parts, again_parts, other_branch}
use Rattle.c_machine.specs.Text.{Clause, Declare, Eval, If, While, Do, Break, Continue, Text}
use Rattle.flow.specs.declared.flow_graph.Flow.{Flow}
use Rattle.flow.specs.declared.flow_graph.Standing.{Standing as Stood}
use Rattle.flow.specs.declared.flow_graph.Width.{Width}
use Rattle.flow.specs.declared.instruction.Instr.TheVariants as i
use Rattle.simulation.specs.Lowered.{Stop, IsIn, First, Behind, Ends, Loop, Tests, Repeats, Finishes, ExecutesAlong, Breaks}
use Rattle.simulation.specs.Running.{Setting, Running}
use Rattle.simulation.specs.Slots.{Slot, is_in, are_in}
use Rattle.simulation.proofs.Wider.{wider}
use Rattle.lowering.proofs.Jumping.{none_within}
use Rattle.lowering.specs.LetGo.{AsWork, AsTest, left_of}
use Rattle.lowering.specs.Moves.{Move, Emits, Works, Does, run_of}
use Rattle.lowering.specs.Placing.{Made, Loop as LoopAround, Around, with_point, with_registers, with_spares, stands_at, after, registers_of, go, Goes as GoesOn, way_by, place_full, branch, other_moves, in_loop, passes, is_break, is_declaration, place_do}
use Rattle.lowering.proofs.Jumping.{AreUnder, jumps_later, jumps_wider, in_body_of}
use Rattle.lowering.proofs.KindFacts.{let_go}
use Rattle.lowering.proofs.Modes.{IsAround, IsAt}
use Rattle.lowering.proofs.Placings.{point_placing, IsSpelled, spelled_registers, emit_spelled}
use Rattle.lowering.proofs.Ready.{AreBelow, mid, head_spelled, tail_spelled, one_at}
use Rattle.lowering.proofs.Stood.{stood_before, of_behind, stand_behind, left_among, left_itself, finished_widths}
use Rattle.lowering.proofs.Statements.{free_run, executes, at_sides, BranchIs, branch_is, SideGoes, branches, head_of, again_at_head}
use Rattle.lowering.proofs.StatementsJumps.{turn_of, idle_body, body_made, do_is, is_break_clause}
use Rattle.lowering.proofs.Doing.{NothingLeft, Goes, IsKept, DoesIs, kept_more, full_ready, one_behind, one_alone}

-- what is let go of is held nowhere
in_any : (gone : List ℕ) (kind : Kind) → is_in gone (let_go kind) ≡ true
in_any gone (Integer of) = refl
in_any gone (Pointer item) = refl
in_any gone (Array item) = refl
in_any gone (Struct size) = refl
in_any gone Void = refl

-- what stands behind a condition stood in front of it
behind_each : (t : Text) (first count : ℕ) (place : Place) (standing : Stood) (register : ℕ) →
    list_any (nat_eq register) (registers_of (after t (Emits (i.Finish (run_of first count)) place) (with_spares first count standing))) ≡ true → list_any (nat_eq register) (registers_of standing) ≡ true
behind_each t first count place standing register is =
    of_behind register first count standing
    (subst (λ (widths : List Width). list_any (nat_eq register) (map (λ one. one.register) widths) ≡ true) (finished_widths t (run_of first count) place (with_spares first count standing)) is)

stand_side : (t : Text) (first count : ℕ) (place : Place) (standing : Stood) (slots : List Slot) → AreBelow first slots → are_in (registers_of standing) slots ≡ true →
    are_in (registers_of (after t (Emits (i.Finish (run_of first count)) place) (with_spares first count standing))) slots ≡ true
stand_side t first count place standing slots below are =
    subst (λ (widths : List Width). are_in (map (λ one. one.register) widths) slots ≡ true) (sym (finished_widths t (run_of first count) place (with_spares first count standing)))
    (stand_behind (run_of first count) first count standing slots (free_run first count slots below) are)

pub nothing_by : (around : Around) (loop : Option LoopAround) (standing standing' : Stood) →
    ((register : ℕ) → list_any (nat_eq register) (registers_of standing') ≡ true → list_any (nat_eq register) (registers_of standing) ≡ true) → NothingLeft around standing loop → NothingLeft around standing' loop
nothing_by around None standing standing' each nothing = tt
nothing_by around (Some loop) standing standing' each nothing = λ none. left_among standing'.registers standing.registers loop.registers each (nothing none)

-- a body that makes edges
makes_edges : (t : Text) (around : Around) (standing : Stood) (clause : Clause t.Expr t.Stmt t.Init) → passes t clause ≡ false → is_break t clause ≡ false → is_declaration t clause ≡ false → way_by t around standing clause ≡ GoesOn
makes_edges t around standing (Declare names) passes' breaks declares = absurd (false≢true (sym declares))
makes_edges t around standing (Eval None) passes' breaks declares = absurd (false≢true (sym passes'))
makes_edges t around standing (Eval (Some expr)) passes' breaks declares = refl
makes_edges t around standing Break passes' breaks declares = absurd (false≢true (sym breaks))
makes_edges t around standing Continue passes' breaks declares = absurd (false≢true (sym passes'))
makes_edges t around standing clause passes' breaks declares = refl

module _ (t : Text) (flow : Flow) (setting : Setting) (running : Running) (levels : ℕ) (at : IsAt t flow setting running levels) (does : DoesIs t flow setting running levels) where
  abbrev Runs : Around → List (Stop t) → List (Stop t) → List (TaskIn t) → List Slot → ℕ → Type 0
  Runs around now later tasks slots point = Goes t flow setting running around now later tasks slots point

  abbrev Kept : Around → List (Stop t) → List (TaskIn t) → ℕ → ℕ → List Slot → Type 0
  Kept around stops tasks base count slots = IsKept t flow setting running around stops (loop_left tasks) (body_left tasks) base count slots

  -- a full expression whose value is not used
  pub full_form : (around : Around) → IsAround setting around → (made : Made) (from : ℕ) (expr : t.Expr) (end : Place) (to : ℕ) → IsSpelled flow made from (place_full t (go levels t) around made from expr end to) →
      (now later : List (Stop t)) (tasks : List (TaskIn t)) (slots : List Slot) (base : ℕ) → Kept around (later ++ now) tasks base made.registers slots →
      Runs around (later ++ now) [] tasks slots to → Runs around now later (ValueOf expr ∷ Finish end ∷ tasks) slots from
  full_form around good made from expr end to spelled now later tasks slots base kept cont =
      let r : ℕ = made.registers in
      let count : ℕ = left_of t AsWork expr in
      let made1 : Made = with_registers count made in
      let standing : Stood = after t (Works expr r) (stands_at made1 from) in
      let last : List (Move t) = Emits (i.Finish (run_of r count)) end ∷ [] in
      let spelled' = spelled_registers count spelled in
      let first = head_spelled t flow setting running levels around made1 from standing (Works expr r) last to spelled' in
      let rest = tail_spelled t flow setting running levels around made1 from standing (Works expr r) last to spelled' in
      at.work around good (with_point standing made1) from expr r made.points first now later (Finish end ∷ tasks) slots base (full_ready t flow setting running count count (omega arith) kept)
      (Finishes (let_go (value_kind t expr)) end (run_of r count) to
      (one_at t flow setting running levels around (mid t flow setting running levels around made1 from standing (Works expr r)) made.points to (i.Finish (run_of r count)) end rest)
      (free_run r count slots kept.below) (in_any (run_of r count) (value_kind t expr)) kept.whole cont)

  pub eval_form : (around : Around) → IsAround setting around → (made : Made) (from : ℕ) (stmt : t.Stmt) (expr : t.Expr) (to : ℕ) → t.clause stmt ≡ Eval (Some expr) →
      IsSpelled flow made from (place_full t (go levels t) around made from expr (t.last stmt) to) →
      (now later : List (Stop t)) (tasks : List (TaskIn t)) (slots : List Slot) (base : ℕ) → Kept around (later ++ now) tasks base made.registers slots →
      Runs around (later ++ now) [] tasks slots to → Runs around now later (Execute stmt ∷ tasks) slots from
  eval_form around good made from stmt expr to is spelled now later tasks slots base kept cont =
      executes t flow setting running around now later tasks slots from stmt (Eval (Some expr)) is (full_form around good made from expr (t.last stmt) to spelled now later tasks slots base kept cont)

  -- a side of a condition: its registers go, and a statement runs
  pub turn_side : (around turning : Around) → IsAround setting turning → (made : Made) (from : ℕ) (test : t.Expr) (close : Place) (stmt : t.Stmt) (one_to : ℕ) (other : List (Move t)) (other_to : ℕ) →
      BranchIs t flow setting running levels around turning made from test (left_of t AsTest test) close (Does stmt ∷ []) one_to other other_to →
      NothingLeft turning (stands_at made from) turning.loop → (now : List (Stop t)) (tasks : List (TaskIn t)) (slots : List Slot) (base : ℕ) → are_in (registers_of (stands_at made from)) slots ≡ true →
      Kept turning now tasks base made.registers slots → Runs turning now [] tasks slots one_to →
      SideGoes t flow setting running turning now (Execute stmt ∷ tasks) slots (suc made.points) made.registers (left_of t AsTest test) close
  turn_side around turning good made from test close stmt one_to other other_to parts nothing now tasks slots base stand kept cont =
      let r : ℕ = made.registers in
      let count : ℕ = left_of t AsTest test in
      let finish : Move t = Emits (i.Finish (run_of r count)) close in
      let here : Stood = with_spares r count (stands_at made from) in
      let side = one_behind t flow setting running levels does turning good stmt one_to tasks slots base (after t finish (stands_at parts.asked (suc made.points)))
      (subst (λ (stood : Stood). NothingLeft turning (after t finish stood) turning.loop) (sym parts.stood)
      (nothing_by turning turning.loop (stands_at made from) (after t finish here) (behind_each t r count close (stands_at made from)) nothing))
      (subst (λ (stood : Stood). are_in (registers_of (after t finish stood)) slots ≡ true) (sym parts.stood) (stand_side t r count close (stands_at made from) slots kept.below stand))
      now parts.asked (suc made.points) (i.Finish (run_of r count)) close (kept_more t flow setting running parts.asked.registers parts.registers kept) cont parts.one_spelled in
      record { to = side.to; edge = side.edge; goes = side.goes }

  other_side : (around turning : Around) → IsAround setting around → (made : Made) (from : ℕ) (test : t.Expr) (close : Place) (one : List (Move t)) (one_to : ℕ) (stmt : t.Stmt) (other_to : ℕ) →
      BranchIs t flow setting running levels around turning made from test (left_of t AsTest test) close one one_to (Does stmt ∷ []) other_to →
      NothingLeft around (stands_at made from) around.loop → (now : List (Stop t)) (tasks : List (TaskIn t)) (slots : List Slot) (base : ℕ) → are_in (registers_of (stands_at made from)) slots ≡ true →
      Kept around now tasks base made.registers slots → Runs around now [] tasks slots other_to →
      SideGoes t flow setting running around now (Execute stmt ∷ tasks) slots made.points made.registers (left_of t AsTest test) close
  other_side around turning good made from test close one one_to stmt other_to parts nothing now tasks slots base stand kept cont =
      let r : ℕ = made.registers in
      let count : ℕ = left_of t AsTest test in
      let finish : Move t = Emits (i.Finish (run_of r count)) close in
      let here : Stood = with_spares r count (stands_at made from) in
      let side = one_behind t flow setting running levels does around good stmt other_to tasks slots base (after t finish (stands_at parts.held made.points))
      (subst (λ (stood : Stood). NothingLeft around (after t finish stood) around.loop) (sym parts.stood')
      (nothing_by around around.loop (stands_at made from) (after t finish here) (behind_each t r count close (stands_at made from)) nothing))
      (subst (λ (stood : Stood). are_in (registers_of (after t finish stood)) slots ≡ true) (sym parts.stood') (stand_side t r count close (stands_at made from) slots kept.below stand))
      now parts.held made.points (i.Finish (run_of r count)) close (kept_more t flow setting running parts.held.registers parts.registers' kept) cont parts.other_spelled in
      record { to = side.to; edge = side.edge; goes = side.goes }

  -- a side on which nothing is done
  pub no_side : (around turning : Around) (made : Made) (from : ℕ) (test : t.Expr) (close : Place) (one : List (Move t)) (one_to other_to : ℕ) →
      BranchIs t flow setting running levels around turning made from test (left_of t AsTest test) close one one_to [] other_to → (now : List (Stop t)) (tasks : List (TaskIn t)) (slots : List Slot) →
      Runs around now [] tasks slots other_to → SideGoes t flow setting running around now tasks slots made.points made.registers (left_of t AsTest test) close
  no_side around turning made from test close one one_to other_to parts now tasks slots cont = record {
    to = other_to;
    edge = one_at t flow setting running levels around parts.held made.points other_to (i.Finish (run_of made.registers (left_of t AsTest test))) close parts.other_spelled;
    goes = cont;
  }

  -- `if`
  pub if_form : (around : Around) → IsAround setting around → (made : Made) (from : ℕ) (stmt : t.Stmt) (test : t.Expr) (close : Place) (one : t.Stmt) (other : Option t.Stmt) (to : ℕ) → t.clause stmt ≡ If test close one other →
      NothingLeft around (stands_at made from) around.loop → IsSpelled flow made from (branch t (go levels t) around around made from test close (Does one ∷ []) to (other_moves t other) to) →
      (now later : List (Stop t)) (tasks : List (TaskIn t)) (slots : List Slot) (base : ℕ) → are_in (registers_of (stands_at made from)) slots ≡ true → Kept around (later ++ now) tasks base made.registers slots →
      Runs around (later ++ now) [] tasks slots to → Runs around now later (Execute stmt ∷ tasks) slots from
  if_form around good made from stmt test close one other to is nothing spelled now later tasks slots base stand kept cont =
      let count : ℕ = left_of t AsTest test in
      let parts = branch_is t flow setting running levels around around made from test count close (Does one ∷ []) to (other_moves t other) to spelled in
      executes t flow setting running around now later tasks slots from stmt (If test close one other) is
      (at.ask around good (at_sides t flow setting running made from count) from test made.registers made.points (suc made.points) from parts.test_spelled now later (Branch stmt ∷ tasks) slots base
      (full_ready t flow setting running count count (omega arith) kept)
      (branches t flow setting running around (later ++ now) tasks slots made.points made.registers count stmt false close (If test close one other) is refl kept.whole kept.below (by_other other parts))
      (branches t flow setting running around (later ++ now) tasks slots (suc made.points) made.registers count stmt true close (If test close one other) is refl kept.whole kept.below
      (turn_side around around good made from test close one to (other_moves t other) to parts nothing (later ++ now) tasks slots base stand kept cont)))
    where
      by_other : (other' : Option t.Stmt) → BranchIs t flow setting running levels around around made from test (left_of t AsTest test) close (Does one ∷ []) to (other_moves t other') to →
          SideGoes t flow setting running around (later ++ now) (other_branch t other' ++ tasks) slots made.points made.registers (left_of t AsTest test) close
      by_other None parts = no_side around around made from test close (Does one ∷ []) to to parts (later ++ now) tasks slots cont
      by_other (Some stmt') parts = other_side around around good made from test close (Does one ∷ []) to stmt' to parts nothing (later ++ now) tasks slots base stand kept cont

  within_loop : (around : Around) (again behind : ℕ) (standing : Stood) → IsAround setting around → IsAround setting (in_loop around around again behind standing)
  within_loop around again behind standing good = record { statics = good.statics; apart = good.apart }

  -- within the body of a `while` or a `do`, where the head is a stop
  kept_turn : (around : Around) (stop : Stop t) (stops : List (Stop t)) (stmt : t.Stmt) (again behind : ℕ) (standing : Stood) (tasks : List (TaskIn t)) (slots : List Slot) (base count : ℕ) →
      ((word : Place) (rest : List (TaskIn t)) → behind_loop t word (t.clause stmt) rest ≡ rest) → are_in (registers_of standing) slots ≡ true → AreUnder count (registers_of standing) →
      Kept around stops tasks base count slots → Runs around stops [] tasks slots behind →
      Runs around (stop ∷ stops) [] (Again stmt (length slots + running.base) ∷ tasks) slots again →
      Kept (in_loop around around again behind standing) (stop ∷ stops) (Again stmt (length slots + running.base) ∷ tasks) count count slots
  kept_turn around stop stops stmt again behind standing tasks slots base count plain stand under kept leaves turns =
      let left : LoopLeft t.Expr t.Stmt t.Init = record { blocks = 0; loop = stmt; held = length slots + running.base; rest = tasks } in
      record {
        whole = kept.whole;
        below = kept.below;
        own = omega arith;
        jumps = in_body_of t flow setting running around around again behind standing (stop ∷ stops) left (loop_left tasks) (body_left tasks) count slots [] tasks (Again stmt (length slots + running.base) ∷ tasks) refl refl
            (λ word rest. plain word (tasks ++ rest)) (λ word rest. refl) kept.whole stand under
            (wider t flow setting running leaves (stop ∷ stops) [] (λ other inside. Behind inside) (none_within t []))
            turns
            (jumps_wider t flow setting running around stops (stop ∷ stops) (loop_left tasks) (body_left tasks) count slots (λ other inside. Behind inside)
            (jumps_later t flow setting running around stops (loop_left tasks) (body_left tasks) base count slots kept.own kept.jumps));
      }

  kept_wider : (around : Around) (stop : Stop t) (stops : List (Stop t)) (tasks : List (TaskIn t)) (base count : ℕ) (slots : List Slot) → Kept around stops tasks base count slots → Kept around (stop ∷ stops) tasks base count slots
  kept_wider around stop stops tasks base count slots kept = record {
    whole = kept.whole;
    below = kept.below;
    own = kept.own;
    jumps = jumps_wider t flow setting running around stops (stop ∷ stops) (loop_left tasks) (body_left tasks) base slots (λ other inside. Behind inside) kept.jumps;
  }

  -- `while`
  pub while_form : (around : Around) → IsAround setting around → (made : Made) (from : ℕ) (standing : Stood) (stmt : t.Stmt) (test : t.Expr) (close : Place) (body : t.Stmt) (to : ℕ) → t.clause stmt ≡ While test close body →
      stands_at made from ≡ standing → AreUnder made.registers (registers_of standing) →
      IsSpelled flow made from (branch t (go levels t) around (in_loop around around from to standing) made from test close (Does body ∷ []) from [] to) →
      (now later : List (Stop t)) (tasks : List (TaskIn t)) (slots : List Slot) (base : ℕ) → are_in (registers_of standing) slots ≡ true → Kept around (later ++ now) tasks base made.registers slots →
      Runs around (later ++ now) [] tasks slots to → Runs around now later (Execute stmt ∷ tasks) slots from
  while_form around good made from standing stmt test close body to is here under spelled now later tasks slots base stand kept cont =
      let count : ℕ = left_of t AsTest test in
      let held : ℕ = length slots + running.base in
      let stop : Stop t = head_of t flow setting running around stmt tasks slots from in
      let stops : List (Stop t) = later ++ now in
      let turning : Around = in_loop around around from to standing in
      let parts = branch_is t flow setting running levels around turning made from test count close (Does body ∷ []) from [] to spelled in
      let again = again_at_head t flow setting running around stops tasks slots from held stmt test close body is in
      let turn_kept = kept_turn around stop stops stmt from to standing tasks slots base made.registers (λ word rest. ap (λ (c : Clause t.Expr t.Stmt t.Init). behind_loop t word c rest) is) stand under kept cont again in
      executes t flow setting running around now later tasks slots from stmt (While test close body) is
      (Loop (Tests stmt (subst (λ (c : Clause t.Expr t.Stmt t.Init). Runs around now (stop ∷ later) (test_parts t stmt held c ++ tasks) slots from) (sym is)
      (at.ask around good (at_sides t flow setting running made from count) from test made.registers made.points (suc made.points) from parts.test_spelled now (stop ∷ later) (Branch stmt ∷ tasks) slots base
      (full_ready t flow setting running count count (omega arith) (kept_wider around stop stops tasks base made.registers slots kept))
      (branches t flow setting running around (stop ∷ stops) tasks slots made.points made.registers count stmt false close (While test close body) is refl kept.whole kept.below
      (no_side around turning made from test close (Does body ∷ []) from to parts (stop ∷ stops) tasks slots
      (wider t flow setting running cont (stop ∷ stops) [] (λ other inside. Behind inside) (none_within t []))))
      (branches t flow setting running around (stop ∷ stops) tasks slots (suc made.points) made.registers count stmt true close (While test close body) is refl kept.whole kept.below
      (let side = turn_side around turning (within_loop around from to standing good) made from test close body from [] to parts
      (subst (λ (stood : Stood). NothingLeft turning stood turning.loop) (sym here) (λ none. left_itself standing.registers standing.registers (λ register is'. is'))) (stop ∷ stops)
      (Again stmt held ∷ tasks) slots made.registers (subst (λ (stood : Stood). are_in (registers_of stood) slots ≡ true) (sym here) stand) turn_kept again in
      record { to = side.to; edge = side.edge; goes = side.goes }))))))

  -- behind the body of a `do`: the next turn begins at the head of the loop, or the loop ends
  do_again : (around : Around) → IsAround setting around → (made : Made) (from head : ℕ) (stmt body : t.Stmt) (test : t.Expr) (close : Place) (to : ℕ) → t.clause stmt ≡ Do body test close →
      IsSpelled flow made from (branch t (go levels t) around around made from test close [] head [] to) → (now later : List (Stop t)) (tasks : List (TaskIn t)) (slots : List Slot) (base : ℕ) →
      Kept around (later ++ now) tasks base made.registers slots → IsIn t (turn_of t flow setting running around stmt body tasks slots head) (later ++ now) → Runs around (later ++ now) [] tasks slots to →
      Runs around now later (Again stmt (length slots + running.base) ∷ tasks) slots from
  do_again around good made from head stmt body test close to is spelled now later tasks slots base kept there cont =
      let count : ℕ = left_of t AsTest test in
      let held : ℕ = length slots + running.base in
      let parts = branch_is t flow setting running levels around around made from test count close [] head [] to spelled in
      Repeats stmt held (subst (λ (c : Clause t.Expr t.Stmt t.Init). Runs around now later (again_parts t stmt c ++ tasks) slots from) (sym is)
      (Tests stmt (subst (λ (c : Clause t.Expr t.Stmt t.Init). Runs around now later (test_parts t stmt held c ++ tasks) slots from) (sym is)
      (at.ask around good (at_sides t flow setting running made from count) from test made.registers made.points (suc made.points) from parts.test_spelled now later (Branch stmt ∷ tasks) slots base
      (full_ready t flow setting running count count (omega arith) kept)
      (branches t flow setting running around (later ++ now) tasks slots made.points made.registers count stmt false close (Do body test close) is refl kept.whole kept.below
      (no_side around around made from test close [] head to parts (later ++ now) tasks slots cont))
      (branches t flow setting running around (later ++ now) tasks slots (suc made.points) made.registers count stmt true close (Do body test close) is refl kept.whole kept.below
      (record { to = head; edge = one_at t flow setting running levels around parts.asked (suc made.points) head (i.Finish (run_of made.registers count)) close parts.one_spelled; goes = Ends there }))))))

  -- a `do` whose body has no edge
  pub do_idle_form : (around : Around) → IsAround setting around → (made : Made) (from : ℕ) (stmt body : t.Stmt) (test : t.Expr) (close : Place) (to : ℕ) (standing : Stood) → t.clause stmt ≡ Do body test close →
      passes t (t.clause body) ≡ true → IsSpelled flow made from (place_do t (go levels t) around made from body test close to standing true) →
      (now later : List (Stop t)) (tasks : List (TaskIn t)) (slots : List Slot) (base : ℕ) → Kept around (later ++ now) tasks base made.registers slots → Runs around (later ++ now) [] tasks slots to →
      Runs around now later (Execute stmt ∷ tasks) slots from
  do_idle_form around good made from stmt body test close to standing is idle spelled now later tasks slots base kept cont =
      let stop : Stop t = turn_of t flow setting running around stmt body tasks slots from in
      executes t flow setting running around now later tasks slots from stmt (Do body test close) is
      (Loop (idle_body t flow setting running around now (stop ∷ later) tasks slots from stmt body (t.clause body) refl idle
      (do_again around good made from from stmt body test close to is spelled now (stop ∷ later) tasks slots base (kept_wider around stop (later ++ now) tasks base made.registers slots kept) First
      (wider t flow setting running cont (stop ∷ (later ++ now)) [] (λ other inside. Behind inside) (none_within t [])))))

  -- one whose body is a `break`: an edge that does nothing leads to its end
  pub do_break_form : (around : Around) (made : Made) (from : ℕ) (stmt body : t.Stmt) (test : t.Expr) (close : Place) (to : ℕ) (standing : Stood) → t.clause stmt ≡ Do body test close →
      is_break t (t.clause body) ≡ true → IsSpelled flow made from (place_do t (go levels t) around made from body test close to standing false) →
      (now later : List (Stop t)) (tasks : List (TaskIn t)) (slots : List Slot) → Runs around (later ++ now) [] tasks slots to → Runs around now later (Execute stmt ∷ tasks) slots from
  do_break_form around made from stmt body test close to standing is breaks spelled now later tasks slots cont =
      let parts = do_is t flow setting running levels around made from body test close to standing spelled in
      let held : ℕ = length slots + running.base in
      let body' = subst (λ (b : Bool). IsSpelled flow (with_point standing made) from (body_made t flow setting running levels around made from body to standing b)) breaks parts.body_spelled in
      executes t flow setting running around now later tasks slots from stmt (Do body test close) is
      (ExecutesAlong body to (t.first body) (emit_spelled to (i.Enter []) (t.first body) body')
      (subst (λ (c : Clause t.Expr t.Stmt t.Init). Runs around (later ++ now) [] (clause_tasks t body held c ++ (Again stmt held ∷ tasks)) slots to) (sym (is_break_clause t flow setting running (t.clause body) breaks))
      (Breaks (t.first body) (record { blocks = 0; loop = stmt; held = held; rest = tasks }) [] tasks refl refl
      (λ rest. ap (λ (c : Clause t.Expr t.Stmt t.Init). behind_loop t (t.first body) c (tasks ++ rest)) is) refl cont)))

  -- one whose body makes edges
  pub do_form : (around : Around) → IsAround setting around → (made : Made) (from : ℕ) (stmt body : t.Stmt) (test : t.Expr) (close : Place) (to : ℕ) (standing : Stood) → t.clause stmt ≡ Do body test close →
      passes t (t.clause body) ≡ false → is_break t (t.clause body) ≡ false → is_declaration t (t.clause body) ≡ false → stands_at made from ≡ standing → AreUnder made.registers (registers_of standing) →
      IsSpelled flow made from (place_do t (go levels t) around made from body test close to standing false) →
      (now later : List (Stop t)) (tasks : List (TaskIn t)) (slots : List Slot) (base : ℕ) → are_in (registers_of standing) slots ≡ true → Kept around (later ++ now) tasks base made.registers slots →
      Runs around (later ++ now) [] tasks slots to → Runs around now later (Execute stmt ∷ tasks) slots from
  do_form around good made from stmt body test close to standing is passes' breaks declares here under spelled now later tasks slots base stand kept cont =
      let parts = do_is t flow setting running levels around made from body test close to standing spelled in
      let held : ℕ = length slots + running.base in
      let stop : Stop t = turn_of t flow setting running around stmt body tasks slots from in
      let stops : List (Stop t) = later ++ now in
      let turning : Around = in_loop around around made.points to standing in
      let made1 : Made = with_point standing made in
      let middle : Made = body_made t flow setting running levels around made from body to standing (is_break t (t.clause body)) in
      let cont' = wider t flow setting running cont (stop ∷ stops) [] (λ other inside. Behind inside) (none_within t []) in
      let again = do_again around good middle made.points from stmt body test close to is parts.test_spelled (stop ∷ stops) [] tasks slots base
      (kept_more t flow setting running middle.registers parts.registers (kept_wider around stop stops tasks base made.registers slots kept)) First cont' in
      let turn_kept = kept_turn around stop stops stmt made.points to standing tasks slots base made.registers (λ word rest. ap (λ (c : Clause t.Expr t.Stmt t.Init). behind_loop t word c rest) is) stand under kept cont again in
      let at_here : stands_at made1 from ≡ standing = stood_before from (point_placing standing made from spelled.sound) spelled.sound spelled.inside ∙ here in
      executes t flow setting running around now later tasks slots from stmt (Do body test close) is
      (Loop (one_alone t flow setting running levels does turning (within_loop around made.points to standing good) body made.points (Again stmt held ∷ tasks) slots made.registers now (stop ∷ later) made1 from
      (makes_edges t turning (stands_at made1 from) (t.clause body) passes' breaks declares)
      (subst (λ (stood : Stood). NothingLeft turning stood turning.loop) (sym at_here) (λ none. left_itself standing.registers standing.registers (λ register is'. is'))) turn_kept again
      (subst (λ (b : Bool). IsSpelled flow made1 from (body_made t flow setting running levels around made from body to standing b)) breaks parts.body_spelled)))
