-- `for`: its block, the point where its turns begin, the one where it is left, and the one where what is done behind a turn begins.
use Rattle.std.proofs.Common.{◌≡◌, ◌≢◌, ◌<◌, ◌≤◌, ◌⊎◌, ℕ, suc, ◌+◌, List, [], ◌∷◌, ◌++◌, map, length, max, Bool, true, false, nat_eq, refl, sym, ap, subst, ◌∙◌, inl, inr, arith, append_assoc, Option, None, Some}
use Rattle.std.proofs.Math.Nat.{le-max_left, le-max_right}
use Rattle.std.specs.List.{list_any}
use Rattle.std.proofs.lemmas.Bool.{false≢true}
use Rattle.std.proofs.lemmas.Option.{none-some}
use Rattle.cbase.specs.declared.place.Place.{Place}
use Rattle.c_machine.specs.declared.task.Task.TheVariants.{Execute, Branch, Test, Again, OpenBlock, MakeObject, LeaveBlock}
use Rattle.c_machine.specs.State.{TaskIn}
use Rattle.c_machine.specs.Statements.{LoopLeft, loop_left, body_left, behind_loop, test_parts, again_parts}
use Rattle.c_machine.specs.Text.{Clause, Declare, Eval, For, Break, Continue, Text}
use Rattle.flow.specs.declared.flow_graph.Flow.{Flow}
use Rattle.flow.specs.declared.flow_graph.Standing.{Standing as Stood}
use Rattle.flow.specs.declared.flow_graph.Width.{Width}
use Rattle.flow.specs.declared.instruction.Instr.TheVariants as i
use Rattle.simulation.specs.Edges.{One}
use Rattle.simulation.specs.Lowered.{Stop, IsIn, First, Behind, Ends, Loop, Tests, Repeats, Idles, Enters, Leaves, is_idle}
use Rattle.simulation.specs.Names.{Name, names_of, variables_of, are_new, AreMade}
use Rattle.simulation.specs.Running.{Setting, Running}
use Rattle.simulation.specs.Slots.{Slot, is_whole, are_in}
use Rattle.simulation.proofs.Wider.{wider}
use Rattle.lowering.proofs.Jumping.{none_within}
use Rattle.lowering.specs.LetGo.{AsTest, left_of}
use Rattle.lowering.specs.Moves.{Move, Does}
use Rattle.lowering.specs.Placing.{Made, Around, with_point, with_head, behind_widths, stands_at, after, registers_of, registers_left, within, objects_of, enters, along, along_from, go, Way, Idle, Leads, Goes as GoesOn, Here, way_by, blocks_left, is_none, in_loop, passes, is_declaration, is_at_head, place_turn, place_next, place_for}
use Rattle.lowering.proofs.BlocksMade.{block_made}
use Rattle.lowering.proofs.Ready.{below_more}
use Rattle.lowering.proofs.Jumping.{AreUnder, under_more, jumps_later, jumps_wider, in_block_jumps, in_body_of}
use Rattle.lowering.proofs.Modes.{IsAround, IsAt}
use Rattle.lowering.proofs.Placed.{go_placing, turn_placing, next_placing}
use Rattle.lowering.proofs.PlacedForms.{along_placing}
use Rattle.lowering.proofs.Placings.{outs, IsSound, IsPlacing, then_placing, point_placing, head_placing, emit_placing, IsSpelled, spelled_more, spelled_point, spelled_first, spelled_rest, emit_spelled, none_spelled}
use Rattle.lowering.proofs.Stood.{stood_before, last_stood, under_widths, left_itself, emptied_none}
use Rattle.lowering.proofs.Statements.{executes, at_sides, branch_is, branches}
use Rattle.lowering.proofs.StatementsJumps.{idle_body}
use Rattle.flow.specs.Standing.{stands_at as flow_stands_at}
use Rattle.flow.specs.Valid.{IsFlow}
use Rattle.simulation.specs.Standing.{are_named}
use Rattle.lowering.proofs.DoingBlocks.{first_edge, enters_new, around_within}
use Rattle.lowering.proofs.Doing.{NothingLeft, Goes, IsKept, DoesIs, blocks_of, nothing_within, kept_more, full_ready, one_behind, one_alone}
use Rattle.lowering.proofs.DoingBranches.{full_form, turn_side, no_side}

-- Four parts behind what is taken in front: from the point where the whole begins, and from points that were taken.
pub record FourSpelled (flow : Flow) (m0 m1 m2 m3 m4 : Made) (from head again out : ℕ) : Type 0 where
  pub first : IsSpelled flow m0 from m1
  pub turn : IsSpelled flow m1 head m3
  pub turn_apart : again ≢ head → IsSpelled flow m1 head m2
  pub next : again ≢ head → IsSpelled flow m2 again m3
  pub last : IsSpelled flow m3 out m4

pub four_spelled : {flow : Flow} {made m0 m1 m2 m3 m4 : Made} {from head again out : ℕ} → IsSpelled flow made from m4 → IsSpelled flow m0 from m4 → IsPlacing made from m0 →
    ((point : ℕ) → outs m0.edges point ≡ outs made.edges point) → IsPlacing m0 from m1 → IsPlacing m1 head m2 → IsPlacing m2 again m3 → IsPlacing m3 out m4 →
    made.points ≤ head → head < m0.points → made.points ≤ again → again < m0.points → made.points ≤ out → out < m0.points → out ≢ head → out ≢ again →
    FourSpelled flow m0 m1 m2 m3 m4 from head again out
four_spelled {flow = flow} {made = made} {m0 = m0} {m1 = m1} {m2 = m2} {m3 = m3} {m4 = m4} {from = from} {head = head} {again = again} {out = out}
    spelled spelled0 zero_ same one two three four least below least' below' least'' below'' apart apart' =
    let inside = spelled.inside in
    let h1 = one.points in
    let h2 = two.points in
    let h3 = three.points in
    let to_one = then_placing zero_ one (inl refl) in
    let to_two = then_placing to_one two (inr least) in
    let to_three = then_placing to_two three (inr least') in
    let open_head : outs m1.edges head ≡ [] = one.touches head below (λ is. absurd (omega arith)) ∙ (same head ∙ spelled.sound.fresh head least) in
    let open_again : again ≢ head → outs m2.edges again ≡ [] =
    λ differ. two.touches again (omega arith) differ ∙ (one.touches again below' (λ is. absurd (omega arith)) ∙ (same again ∙ spelled.sound.fresh again least')) in
    let open_out : outs m3.edges out ≡ [] =
    three.touches out (omega arith) apart' ∙ (two.touches out (omega arith) apart ∙ (one.touches out below'' (λ is. absurd (omega arith)) ∙ (same out ∙ spelled.sound.fresh out least''))) in
    let turn : IsSpelled flow m1 head m3 = spelled_first (spelled_rest spelled to_one (omega arith) least open_head) four (omega arith) apart in
    record {
      first = spelled_first (spelled_first (spelled_first spelled0 four below'' (λ is. absurd (omega arith))) three below' (λ is. absurd (omega arith))) two below (λ is. absurd (omega arith));
      turn = turn;
      turn_apart = λ differ. spelled_first turn three (omega arith) differ;
      next = λ differ. spelled_first (spelled_rest spelled to_two (omega arith) least' (open_again differ)) four (omega arith) apart';
      last = spelled_rest spelled to_three (omega arith) least'' open_out;
    }

passes_idle : (t : Text) (clause : Clause t.Expr t.Stmt t.Init) → passes t clause ≡ true → is_idle clause ≡ true
passes_idle t (Eval None) is = refl
passes_idle t Continue is = refl
passes_idle t clause is = absurd (false≢true is)

module _ (t : Text) (flow : Flow) (setting : Setting) (running : Running) (levels : ℕ) (at : IsAt t flow setting running levels) (does : DoesIs t flow setting running levels) where
  abbrev Runs : Around → List (Stop t) → List (Stop t) → List (TaskIn t) → List Slot → ℕ → Type 0
  Runs around now later tasks slots point = Goes t flow setting running around now later tasks slots point

  abbrev Kept : Around → List (Stop t) → List (TaskIn t) → ℕ → ℕ → List Slot → Type 0
  Kept around stops tasks base count slots = IsKept t flow setting running around stops (loop_left tasks) (body_left tasks) base count slots

  -- within the block of a `for`
  kept_inside : (outside : Around) (names : List Name) → are_new names (names_of outside.scopes) ≡ true → (tasks : List (TaskIn t)) (stops : List (Stop t)) (stmt : t.Stmt) (base count more : ℕ) (slots : List Slot) → count ≤ more →
      Kept outside stops tasks base count slots → Kept (within names outside) stops (LeaveBlock (t.first stmt) ∷ tasks) base more slots
  kept_inside outside names new tasks stops stmt base count more slots less kept =
      let h = kept.own in
      record {
        whole = kept.whole;
        below = below_more count more slots less kept.below;
        own = omega arith;
        jumps = in_block_jumps t flow setting running outside names stops (loop_left tasks) (body_left tasks) base slots new kept.jumps;
      }

  -- a body that makes edges: a `break` leaves the block of the `for`
  makes_edges : (outside : Around) (names : List Name) (again behind : ℕ) (standing standing' : Stood) (clause : Clause t.Expr t.Stmt t.Init) → passes t clause ≡ false → is_declaration t clause ≡ false →
      way_by t (in_loop outside (within names outside) again behind standing) standing' clause ≡ GoesOn
  makes_edges outside names again behind standing standing' (Declare declared) passes' declares = absurd (false≢true (sym declares))
  makes_edges outside names again behind standing standing' (Eval None) passes' declares = absurd (false≢true (sym passes'))
  makes_edges outside names again behind standing standing' (Eval (Some expr)) passes' declares = refl
  makes_edges outside names again behind standing standing' Break passes' declares =
      let turning : Around = in_loop outside (within names outside) again behind standing in
      rw (blocks_of turning (length outside.scopes) (names ∷ []) outside.scopes refl refl) refl
  makes_edges outside names again behind standing standing' Continue passes' declares = absurd (false≢true (sym passes'))
  makes_edges outside names again behind standing standing' clause passes' declares = refl

  module _ (outside : Around) (good : IsAround setting outside) (names : List Name) (good' : IsAround setting (within names outside)) (new : are_new names (names_of outside.scopes) ≡ true)
      (stmt first : t.Stmt) (test : Option t.Expr) (semicolon : Place) (next : Option t.Expr) (close : Place) (body : t.Stmt) (is : t.clause stmt ≡ For first test semicolon next close body)
      (declares : is_declaration t (t.clause body) ≡ false) (stops : List (Stop t)) (tasks : List (TaskIn t)) (slots : List Slot) (standing : Stood) (to : ℕ) (cont : Runs outside stops [] tasks slots to)
      (stand : are_in (registers_of standing) slots ≡ true) where
    abbrev inside : Around
    inside = within names outside

    abbrev held : ℕ
    held = length slots + running.base

    -- what is to be done behind the head
    abbrev rest : List (TaskIn t)
    rest = LeaveBlock (t.first stmt) ∷ tasks

    abbrev stop_at : ℕ → Stop t
    stop_at head = record { scopes = names ∷ outside.scopes; tasks = Test stmt ∷ LeaveBlock (t.first stmt) ∷ tasks; slots = slots; point = head }

    -- within the body
    kept_turn : (head again base count : ℕ) → AreUnder count (registers_of standing) → Kept inside stops rest base count slots → Runs inside (stop_at head ∷ stops) [] (Again stmt held ∷ rest) slots again →
        Kept (in_loop outside inside again to standing) (stop_at head ∷ stops) (Again stmt held ∷ rest) count count slots
    kept_turn head again base count under kept turns =
        let left : LoopLeft t.Expr t.Stmt t.Init = record { blocks = 0; loop = stmt; held = held; rest = rest } in
        record {
          whole = kept.whole;
          below = kept.below;
          own = omega arith;
          jumps = in_body_of t flow setting running outside inside again to standing (stop_at head ∷ stops) left (loop_left rest) (body_left rest) count slots (names ∷ []) tasks (Again stmt held ∷ rest) refl refl
              (λ word more. ap (λ (c : Clause t.Expr t.Stmt t.Init). behind_loop t word c (rest ++ more)) is) (λ word more. refl) kept.whole stand under
              (wider t flow setting running cont (stop_at head ∷ stops) [] (λ other there. Behind there) (none_within t []))
              turns
              (jumps_wider t flow setting running inside stops (stop_at head ∷ stops) (loop_left rest) (body_left rest) count slots (λ other there. Behind there)
              (jumps_later t flow setting running inside stops (loop_left rest) (body_left rest) base count slots kept.own kept.jumps));
        }

    kept_wider : (head base count : ℕ) (tasks' : List (TaskIn t)) → Kept inside stops tasks' base count slots → Kept inside (stop_at head ∷ stops) tasks' base count slots
    kept_wider head base count tasks' kept = record {
      whole = kept.whole;
      below = kept.below;
      own = kept.own;
      jumps = jumps_wider t flow setting running inside stops (stop_at head ∷ stops) (loop_left tasks') (body_left tasks') base slots (λ other there. Behind there) kept.jumps;
    }

    -- behind a turn: what is done there, and the head
    none_again : (head : ℕ) → next ≡ None → Runs inside (stop_at head ∷ stops) [] (Again stmt held ∷ rest) slots head
    none_again head none =
        Repeats stmt held (subst (λ (c : Clause t.Expr t.Stmt t.Init). Runs inside (stop_at head ∷ stops) [] (again_parts t stmt c ++ rest) slots head)
        (sym (is ∙ ap (λ (n : Option t.Expr). For first test semicolon n close body) none)) (Ends First))

    full_again : (now later : List (Stop t)) (made : Made) (from head base : ℕ) (expr : t.Expr) → next ≡ Some expr → later ++ now ≡ stop_at head ∷ stops →
        IsSpelled flow made from (place_next t (go levels t) inside made from (Some expr) close head) → Kept inside stops rest base made.registers slots → Runs inside now later (Again stmt held ∷ rest) slots from
    full_again now later made from head base expr some both spelled kept =
        Repeats stmt held (subst (λ (c : Clause t.Expr t.Stmt t.Init). Runs inside now later (again_parts t stmt c ++ rest) slots from)
        (sym (is ∙ ap (λ (n : Option t.Expr). For first test semicolon n close body) some))
        (full_form t flow setting running levels at does inside good' made from expr close head spelled now later (Test stmt ∷ rest) slots base
        (subst (λ (all : List (Stop t)). Kept inside all (Test stmt ∷ rest) base made.registers slots) (sym both) (kept_wider head base made.registers (Test stmt ∷ rest) kept))
        (subst (λ (all : List (Stop t)). Runs inside all [] (Test stmt ∷ rest) slots head) (sym both) (Ends First))))

    -- where the loop is left
    leaves_it : (now : List (Stop t)) (out : ℕ) → is_whole slots ≡ true → ((other : Stop t) → IsIn t other stops → IsIn t other now) → One flow out (i.Leave (variables_of names)) to (t.first stmt) → Runs inside now [] rest slots out
    leaves_it now out whole within edge = Leaves names to (t.first stmt) whole new edge (wider t flow setting running cont now [] within (none_within t []))

    -- from the head on
    pub from_head : (made : Made) (head again out base : ℕ) → stands_at made head ≡ after t (enters names (t.first stmt)) standing → AreUnder made.registers (registers_of standing) →
        (test ≡ None → passes t (t.clause body) ≡ false) → IsSpelled flow made head (place_turn t (go levels t) inside (in_loop outside inside again to standing) made head test semicolon body again out) →
        One flow out (i.Leave (variables_of names)) to (t.first stmt) → Kept inside stops rest base made.registers slots → Runs inside (stop_at head ∷ stops) [] (Again stmt held ∷ rest) slots again →
        Runs inside stops [] (Test stmt ∷ rest) slots head
    from_head made head again out base here under not_idle spelled edge kept turns = by_test test refl spelled
      where
        turning : Around
        turning = in_loop outside (within names outside) again to standing

        good_turn : IsAround setting (in_loop outside (within names outside) again to standing)
        good_turn = record { statics = good'.statics; apart = good'.apart }

        turn_kept : Kept (in_loop outside (within names outside) again to standing) (stop_at head ∷ stops) (Again stmt held ∷ rest) made.registers made.registers slots
        turn_kept = kept_turn head again base made.registers under kept turns

        nothing : NothingLeft (in_loop outside (within names outside) again to standing) (stands_at made head)
            (Some (record { again = again; behind = to; inner = suc (length outside.scopes); outer = length outside.scopes; registers = standing.registers }))
        nothing = subst (λ (stood : Stood). NothingLeft (in_loop outside (within names outside) again to standing) stood
            (Some (record { again = again; behind = to; inner = suc (length outside.scopes); outer = length outside.scopes; registers = standing.registers }))) (sym here)
            (λ none. left_itself (after t (enters names (t.first stmt)) standing).registers standing.registers
            (λ register there. subst (λ (widths : List Width). list_any (nat_eq register) (map (λ one. one.register) widths) ≡ true) (emptied_none standing.registers) there))

        stand' : are_in (registers_of (stands_at made head)) slots ≡ true
        stand' = subst (λ (stood : Stood). are_in (registers_of stood) slots ≡ true) (sym here)
            (subst (λ (widths : List Width). are_in (map (λ one. one.register) widths) slots ≡ true) (sym (emptied_none standing.registers)) stand)

        by_test : (test' : Option t.Expr) → test ≡ test' → IsSpelled flow made head (place_turn t (go levels t) inside (in_loop outside (within names outside) again to standing) made head test' semicolon body again out) →
            Runs inside stops [] (Test stmt ∷ rest) slots head
        by_test None none spelled' =
            Loop (Tests stmt (subst (λ (c : Clause t.Expr t.Stmt t.Init). Runs inside stops (stop_at head ∷ []) (test_parts t stmt held c ++ rest) slots head)
            (sym (is ∙ ap (λ (e : Option t.Expr). For first e semicolon next close body) none))
            (one_alone t flow setting running levels does turning good_turn body again (Again stmt held ∷ rest) slots made.registers stops (stop_at head ∷ []) made head
            (makes_edges outside names again to standing (stands_at made head) (t.clause body) (not_idle none) declares) nothing turn_kept turns spelled')))
        by_test (Some expr) some spelled' =
            let count : ℕ = left_of t AsTest expr in
            let parts = branch_is t flow setting running levels inside turning made head expr count semicolon (Does body ∷ []) again [] out spelled' in
            let clause : t.clause stmt ≡ For first (Some expr) semicolon next close body = is ∙ ap (λ (e : Option t.Expr). For first e semicolon next close body) some in
            Loop (Tests stmt (subst (λ (c : Clause t.Expr t.Stmt t.Init). Runs inside stops (stop_at head ∷ []) (test_parts t stmt held c ++ rest) slots head) (sym clause)
            (at.ask inside good' (at_sides t flow setting running made head count) head expr made.registers made.points (suc made.points) head parts.test_spelled stops (stop_at head ∷ []) (Branch stmt ∷ rest) slots base
            (full_ready t flow setting running count count (omega arith) (kept_wider head base made.registers rest kept))
            (branches t flow setting running inside (stop_at head ∷ stops) rest slots made.points made.registers count stmt false semicolon (For first (Some expr) semicolon next close body) clause refl kept.whole kept.below
            (no_side t flow setting running levels at does inside turning made head expr semicolon (Does body ∷ []) again out parts (stop_at head ∷ stops) rest slots
            (leaves_it (stop_at head ∷ stops) out kept.whole (λ other there. Behind there) edge)))
            (branches t flow setting running inside (stop_at head ∷ stops) rest slots (suc made.points) made.registers count stmt true semicolon (For first (Some expr) semicolon next close body) clause refl kept.whole kept.below
            (let side = turn_side t flow setting running levels at does inside turning good_turn made head expr semicolon body again [] out parts nothing (stop_at head ∷ stops) (Again stmt held ∷ rest) slots made.registers stand' turn_kept turns in
            record { to = side.to; edge = side.edge; goes = side.goes })))))

    -- a turn that does nothing is not placed
    abbrev idle_placed : Made → ℕ → Way → Made
    idle_placed made head way =
        along_from t (λ made' point. made') (go levels t (in_loop outside (within names outside) head to standing)) made head (Does body) (stands_at made head) way (Here head)

    idle_way : (made : Made) (head : ℕ) → stands_at made head ≡ after t (enters names (t.first stmt)) standing → (clause : Clause t.Expr t.Stmt t.Init) → passes t clause ≡ true →
        (way_by t (in_loop outside (within names outside) head to standing) (stands_at made head) clause ≡ Idle)
        ⊎ (way_by t (in_loop outside (within names outside) head to standing) (stands_at made head) clause ≡ Leads head)
    idle_way made head here (Eval None) passes' = inl refl
    idle_way made head here Continue passes' =
        let nothing : registers_left (stands_at made head).registers standing.registers ≡ [] =
        left_itself (stands_at made head).registers standing.registers
        (λ register there. subst (λ (widths : List Width). list_any (nat_eq register) (map (λ one. one.register) widths) ≡ true)
        (ap (λ (stood : Stood). stood.registers) here ∙ emptied_none standing.registers) there) in
        let none : is_none (blocks_left (in_loop outside (within names outside) head to standing) (suc (length outside.scopes))) ≡ true =
        ap is_none (blocks_of (in_loop outside (within names outside) head to standing) (suc (length outside.scopes)) [] (names ∷ outside.scopes) refl refl) in
        inr (rw (none, nothing) refl)
    idle_way made head here clause passes' = absurd (false≢true passes')

    idle_places : (made : Made) (head out : ℕ) → stands_at made head ≡ after t (enters names (t.first stmt)) standing → passes t (t.clause body) ≡ true →
        place_turn t (go levels t) inside (in_loop outside inside head to standing) made head None semicolon body head out ≡ made
    idle_places made head out here passes' = by_way (idle_way made head here (t.clause body) passes')
      where
        by_way : (way_by t (in_loop outside (within names outside) head to standing) (stands_at made head) (t.clause body) ≡ Idle)
            ⊎ (way_by t (in_loop outside (within names outside) head to standing) (stands_at made head) (t.clause body) ≡ Leads head) →
            idle_placed made head (way_by t (in_loop outside (within names outside) head to standing) (stands_at made head) (t.clause body)) ≡ made
        by_way (inl idle) = subst (λ (way : Way). idle_placed made head way ≡ made) (sym idle) refl
        by_way (inr led) = subst (λ (way : Way). idle_placed made head way ≡ made) (sym led) refl

    -- and what is done behind it begins at the head, or the graph ends there
    idle_head : (made : Made) (head out base : ℕ) → stands_at made head ≡ after t (enters names (t.first stmt)) standing → test ≡ None → passes t (t.clause body) ≡ true →
        IsSpelled flow made head (place_next t (go levels t) inside made head next close head) → Kept inside stops rest base made.registers slots → Runs inside stops [] (Test stmt ∷ rest) slots head
    idle_head made head out base here none passes' spelled kept = by_next next refl spelled
      where
        by_next : (next' : Option t.Expr) → next ≡ next' → IsSpelled flow made head (place_next t (go levels t) inside made head next' close head) → Runs inside stops [] (Test stmt ∷ rest) slots head
        by_next None none' spelled' =
            Idles stmt body first semicolon close (is ∙ (ap (λ (e : Option t.Expr). For first e semicolon next close body) none ∙ ap (λ (n : Option t.Expr). For first None semicolon n close body) none'))
            (passes_idle t (t.clause body) passes') (none_spelled spelled')
        by_next (Some expr) some spelled' =
            Loop (Tests stmt (subst (λ (c : Clause t.Expr t.Stmt t.Init). Runs inside stops (stop_at head ∷ []) (test_parts t stmt held c ++ rest) slots head)
            (sym (is ∙ ap (λ (e : Option t.Expr). For first e semicolon next close body) none))
            (idle_body t flow setting running inside stops (stop_at head ∷ []) rest slots head stmt body (t.clause body) refl passes'
            (full_again stops (stop_at head ∷ []) made head head base expr some refl spelled' kept))))

    -- the first part, behind the edge that makes the objects of the block
    first_part : (made : Made) (from head base : ℕ) → stands_at made from ≡ standing → AreMade flow (objects_of t first) names →
        IsSpelled flow made from (along t inside (go levels t inside) made from (enters names (t.first stmt) ∷ Does first ∷ []) head) → (now later : List (Stop t)) → stops ≡ later ++ now →
        (count : ℕ) → Kept outside stops tasks base count slots → Kept inside stops rest base made.registers slots → Runs inside stops [] (Test stmt ∷ rest) slots head →
        Runs outside now later (Execute stmt ∷ tasks) slots from
    first_part made from head base here are_made spelled now later both count kept_out kept turns =
        let word : Place = t.first stmt in
        let enter : Move t = enters names (t.first stmt) in
        let side = one_behind t flow setting running levels does inside good' first head (Test stmt ∷ rest) slots base (after t enter (stands_at made from))
        (nothing_within t flow setting running outside names (after t enter (stands_at made from)) stops (loop_left tasks) slots outside.loop kept_out.jumps.loop)
        (subst (λ (stood : Stood). are_in (registers_of (after t enter stood)) slots ≡ true) (sym here)
        (subst (λ (widths : List Width). are_in (map (λ one. one.register) widths) slots ≡ true) (sym (emptied_none standing.registers)) stand))
        stops made from (i.Enter (variables_of names)) word kept turns spelled in
        executes t flow setting running outside now later tasks slots from stmt (For first test semicolon next close body) is
        (subst (λ (list : List (TaskIn t)). Runs outside now later (OpenBlock ∷ list) slots from)
        (sym (ap (λ (list : List (TaskIn t)). (list ++ Execute first ∷ Test stmt ∷ LeaveBlock word ∷ []) ++ tasks) (block_made t first)
        ∙ append_assoc (map MakeObject (objects_of t first)) (Execute first ∷ Test stmt ∷ LeaveBlock word ∷ []) tasks))
        (Enters (objects_of t first) names side.to word kept.whole are_made new side.edge
        (subst (λ (all : List (Stop t)). Runs inside all [] (Execute first ∷ Test stmt ∷ rest) slots side.to) both side.goes)))

  -- what is taken in front of the parts
  taken : (names : List Name) (stmt : t.Stmt) (standing : Stood) (made : Made) → IsSound made →
      let entered : Stood = after t (enters names (t.first stmt)) standing in
      let made2 : Made = with_point entered (with_point entered made) in
      (stands_at made2 made.points ≡ entered) × AreUnder (with_head made.points made2).registers (registers_of standing)
  taken names stmt standing made sound =
      let entered : Stood = after t (enters names (t.first stmt)) standing in
      let made1 : Made = with_point entered made in
      let one = point_placing entered made made.points sound in
      let there : stands_at (with_point entered made1) made.points ≡ entered = stood_before made.points (point_placing entered made1 made1.points one.sound) one.sound (omega arith) ∙ last_stood entered made sound.stands in
      let same : behind_widths (stands_at (with_point entered made1) made.points).registers ≡ behind_widths standing.registers =
      ap behind_widths (ap (λ (stood : Stood). stood.registers) there ∙ emptied_none standing.registers) in
      let h = le-max_right made.registers (behind_widths (stands_at (with_point entered made1) made.points).registers) in
      (there, under_widths (max made.registers (behind_widths (stands_at (with_point entered made1) made.points).registers)) standing.registers (omega (arith, same)))

  -- `for` whose turns are gone on behind at its head
  head_form : IsFlow flow → (outside : Around) → IsAround setting outside → (names : List Name) (made : Made) (from : ℕ) → are_named (flow_stands_at flow from).variables (names_of outside.scopes) ≡ true →
      (stmt first : t.Stmt) (test : Option t.Expr) (semicolon : Place) (next : Option t.Expr) (close : Place) (body : t.Stmt) (standing : Stood) (to : ℕ) → t.clause stmt ≡ For first test semicolon next close body →
      is_declaration t (t.clause body) ≡ false → stands_at made from ≡ standing → AreMade flow (objects_of t first) names → is_at_head t test next body ≡ true →
      IsSpelled flow made from (place_for t (go levels t) outside (within names outside) made names from stmt first test semicolon next close body (after t (enters names (t.first stmt)) standing) standing true to) →
      (now later : List (Stop t)) (tasks : List (TaskIn t)) (slots : List Slot) (base : ℕ) → are_in (registers_of standing) slots ≡ true → Kept outside (later ++ now) tasks base made.registers slots →
      Runs outside (later ++ now) [] tasks slots to → Runs outside now later (Execute stmt ∷ tasks) slots from
  head_form valid outside good names made from named stmt first test semicolon next close body standing to is declares here are_made at_head spelled now later tasks slots base stand kept cont =
      let inside : Around = within names outside in
      let entered : Stood = after t (enters names (t.first stmt)) standing in
      let p : ℕ = made.points in
      let out : ℕ = suc made.points in
      let begin = spelled.inside in
      let made1 : Made = with_point entered made in
      let made2 : Made = with_point entered made1 in
      let m0 : Made = with_head p made2 in
      let m1 : Made = along t inside (go levels t inside) m0 from (enters names (t.first stmt) ∷ Does first ∷ []) p in
      let turning : Around = in_loop outside inside p to standing in
      let m2 : Made = place_turn t (go levels t) inside turning m1 p test semicolon body p out in
      let m3 : Made = place_next t (go levels t) inside m2 p next close p in
      let one = point_placing entered made from spelled.sound in
      let two = point_placing entered made1 from one.sound in
      let zero_ = then_placing (then_placing one two (inl refl)) (head_placing p made2 from two.sound) (inl refl) in
      let spelled0 = spelled_more (spelled_point entered (spelled_point entered spelled)) (head_placing p made2 made2.points two.sound) refl in
      let a = along_placing t inside (go levels t inside) (go_placing levels t inside) m0 from (enters names (t.first stmt) ∷ Does first ∷ []) p (omega arith) zero_.sound in
      let ha = a.points in
      let b = turn_placing t (go levels t) (go_placing levels t) inside turning m1 p test semicolon body p out (omega arith) a.sound in
      let hb = b.points in
      let c = next_placing t (go levels t) (go_placing levels t) inside m2 p next close p (omega arith) b.sound in
      let hc = c.points in
      let d = emit_placing m3 out to (i.Leave (variables_of names)) (t.first stmt) (omega arith) c.sound in
      let parts = four_spelled spelled spelled0 zero_ (λ point. refl) a b c d (omega arith) (omega arith) (omega arith) (omega arith) (omega arith) (omega arith) (λ same. absurd (omega arith)) (λ same. absurd (omega arith)) in
      let enter = first_edge t flow setting running levels inside m0 from (after t (enters names (t.first stmt)) (stands_at m0 from)) (i.Enter (variables_of names)) (t.first stmt) (Does first ∷ []) p parts.first in
      let new = enters_new flow from enter.to (t.first stmt) names (names_of outside.scopes) valid enter.edge named in
      let good' = around_within t flow setting running outside names from enter.to (t.first stmt) valid enter.edge kept.jumps.fixed good in
      let edge : One flow out (i.Leave (variables_of names)) to (t.first stmt) = emit_spelled to (i.Leave (variables_of names)) (t.first stmt) parts.last in
      let took = taken names stmt standing made spelled.sound in
      let more = le-max_left made.registers (behind_widths (stands_at made2 p).registers) in
      let kept0 = kept_inside outside names new tasks (later ++ now) stmt base made.registers m0.registers slots more kept in
      let here1 : stands_at m1 p ≡ entered = stood_before p a zero_.sound (omega arith) ∙ took.0 in
      let kept1 = kept_more t flow setting running m1.registers a.registers kept0 in
      let under1 = under_more m0.registers m1.registers (registers_of standing) a.registers took.1 in
      first_part outside good names good' new stmt first test semicolon next close body is declares (later ++ now) tasks slots standing to cont stand m0 from p base
      (stood_before from zero_ spelled.sound begin ∙ here) are_made parts.first now later refl made.registers kept kept0
      (by_parts good' new test refl next refl (passes t (t.clause body)) refl at_head m1 m2 here1 under1 edge kept1 refl parts.turn)
    where
      inside' : Around
      inside' = within names outside

      rest' : List (TaskIn t)
      rest' = LeaveBlock (t.first stmt) ∷ tasks

      by_parts : IsAround setting (within names outside) → are_new names (names_of outside.scopes) ≡ true → (test' : Option t.Expr) → test ≡ test' → (next' : Option t.Expr) → next ≡ next' → (idle : Bool) → passes t (t.clause body) ≡ idle → is_at_head t test next body ≡ true → (m1 m2 : Made) →
          stands_at m1 made.points ≡ after t (enters names (t.first stmt)) standing → AreUnder m1.registers (registers_of standing) → One flow (suc made.points) (i.Leave (variables_of names)) to (t.first stmt) →
          Kept (within names outside) (later ++ now) (LeaveBlock (t.first stmt) ∷ tasks) base m1.registers slots →
          place_turn t (go levels t) (within names outside) (in_loop outside (within names outside) made.points to standing) m1 made.points test semicolon body made.points (suc made.points) ≡ m2 →
          IsSpelled flow m1 made.points (place_next t (go levels t) (within names outside) m2 made.points next close made.points) →
          Runs (within names outside) (later ++ now) [] (Test stmt ∷ LeaveBlock (t.first stmt) ∷ tasks) slots made.points
      by_parts good' new None none next' some true passes' at_head' m1 m2 here1 under1 edge kept1 same spelled' =
          let is_m1 : m1 ≡ m2 = sym (ap (λ (e : Option t.Expr). place_turn t (go levels t) inside' (in_loop outside inside' made.points to standing) m1 made.points e semicolon body made.points (suc made.points)) none
          ∙ idle_places outside good names good' new stmt first test semicolon next close body is declares (later ++ now) tasks slots standing to cont stand m1 made.points (suc made.points) here1 passes') ∙ same in
          idle_head outside good names good' new stmt first test semicolon next close body is declares (later ++ now) tasks slots standing to cont stand m1 made.points (suc made.points) base here1 none passes'
          (subst (λ (m : Made). IsSpelled flow m1 made.points (place_next t (go levels t) inside' m made.points next close made.points)) (sym is_m1) spelled') kept1
      by_parts good' new None none None none' false passes' at_head' m1 m2 here1 under1 edge kept1 same spelled' =
          from_head outside good names good' new stmt first test semicolon next close body is declares (later ++ now) tasks slots standing to cont stand m1 made.points made.points (suc made.points) base here1 under1
          (λ none''. passes')
          (subst (λ (m : Made). IsSpelled flow m1 made.points m) (sym same)
          (subst (λ (n : Option t.Expr). IsSpelled flow m1 made.points (place_next t (go levels t) inside' m2 made.points n close made.points)) none' spelled')) edge kept1
          (none_again outside good names good' new stmt first test semicolon next close body is declares (later ++ now) tasks slots standing to cont stand made.points none')
      by_parts good' new None none (Some expr) some false passes' at_head' m1 m2 here1 under1 edge kept1 same spelled' =
          absurd (false≢true (sym passes' ∙ (ap (λ (n : Option t.Expr). is_at_head t None n body) (sym some) ∙ (ap (λ (e : Option t.Expr). is_at_head t e next body) (sym none) ∙ at_head'))))
      by_parts good' new (Some expr) some None none' idle passes' at_head' m1 m2 here1 under1 edge kept1 same spelled' =
          from_head outside good names good' new stmt first test semicolon next close body is declares (later ++ now) tasks slots standing to cont stand m1 made.points made.points (suc made.points) base here1 under1
          (λ none''. absurd (none-some expr (sym none'' ∙ some)))
          (subst (λ (m : Made). IsSpelled flow m1 made.points m) (sym same)
          (subst (λ (n : Option t.Expr). IsSpelled flow m1 made.points (place_next t (go levels t) inside' m2 made.points n close made.points)) none' spelled')) edge kept1
          (none_again outside good names good' new stmt first test semicolon next close body is declares (later ++ now) tasks slots standing to cont stand made.points none')
      by_parts good' new (Some expr) some (Some other) some' idle passes' at_head' m1 m2 here1 under1 edge kept1 same spelled' =
          absurd (false≢true (ap (λ (n : Option t.Expr). is_at_head t (Some expr) n body) (sym some') ∙ (ap (λ (e : Option t.Expr). is_at_head t e next body) (sym some) ∙ at_head')))

  -- and one where what is done behind a turn has a point of its own
  apart_form : IsFlow flow → (outside : Around) → IsAround setting outside → (names : List Name) (made : Made) (from : ℕ) → are_named (flow_stands_at flow from).variables (names_of outside.scopes) ≡ true →
      (stmt first : t.Stmt) (test : Option t.Expr) (semicolon : Place) (next : Option t.Expr) (close : Place) (body : t.Stmt) (standing : Stood) (to : ℕ) → t.clause stmt ≡ For first test semicolon next close body →
      is_declaration t (t.clause body) ≡ false → stands_at made from ≡ standing → AreMade flow (objects_of t first) names → is_at_head t test next body ≡ false →
      IsSpelled flow made from (place_for t (go levels t) outside (within names outside) made names from stmt first test semicolon next close body (after t (enters names (t.first stmt)) standing) standing false to) →
      (now later : List (Stop t)) (tasks : List (TaskIn t)) (slots : List Slot) (base : ℕ) → are_in (registers_of standing) slots ≡ true → Kept outside (later ++ now) tasks base made.registers slots →
      Runs outside (later ++ now) [] tasks slots to → Runs outside now later (Execute stmt ∷ tasks) slots from
  apart_form valid outside good names made from named stmt first test semicolon next close body standing to is declares here are_made at_head spelled now later tasks slots base stand kept cont =
      let inside : Around = within names outside in
      let entered : Stood = after t (enters names (t.first stmt)) standing in
      let p : ℕ = made.points in
      let out : ℕ = suc made.points in
      let again : ℕ = suc (suc made.points) in
      let begin = spelled.inside in
      let made1 : Made = with_point entered made in
      let made2 : Made = with_point entered made1 in
      let made3 : Made = with_point entered made2 in
      let m0 : Made = with_head p made3 in
      let m1 : Made = along t inside (go levels t inside) m0 from (enters names (t.first stmt) ∷ Does first ∷ []) p in
      let turning : Around = in_loop outside inside again to standing in
      let m2 : Made = place_turn t (go levels t) inside turning m1 p test semicolon body again out in
      let m3 : Made = place_next t (go levels t) inside m2 again next close p in
      let one = point_placing entered made from spelled.sound in
      let two = point_placing entered made1 from one.sound in
      let three = point_placing entered made2 from two.sound in
      let zero_ = then_placing (then_placing (then_placing one two (inl refl)) three (inl refl)) (head_placing p made3 from three.sound) (inl refl) in
      let spelled0 = spelled_more (spelled_point entered (spelled_point entered (spelled_point entered spelled))) (head_placing p made3 made3.points three.sound) refl in
      let a = along_placing t inside (go levels t inside) (go_placing levels t inside) m0 from (enters names (t.first stmt) ∷ Does first ∷ []) p (omega arith) zero_.sound in
      let ha = a.points in
      let b = turn_placing t (go levels t) (go_placing levels t) inside turning m1 p test semicolon body again out (omega arith) a.sound in
      let hb = b.points in
      let c = next_placing t (go levels t) (go_placing levels t) inside m2 again next close p (omega arith) b.sound in
      let hc = c.points in
      let d = emit_placing m3 out to (i.Leave (variables_of names)) (t.first stmt) (omega arith) c.sound in
      let parts = four_spelled spelled spelled0 zero_ (λ point. refl) a b c d (omega arith) (omega arith) (omega arith) (omega arith) (omega arith) (omega arith) (λ same. absurd (omega arith)) (λ same. absurd (omega arith)) in
      let enter = first_edge t flow setting running levels inside m0 from (after t (enters names (t.first stmt)) (stands_at m0 from)) (i.Enter (variables_of names)) (t.first stmt) (Does first ∷ []) p parts.first in
      let new = enters_new flow from enter.to (t.first stmt) names (names_of outside.scopes) valid enter.edge named in
      let good' = around_within t flow setting running outside names from enter.to (t.first stmt) valid enter.edge kept.jumps.fixed good in
      let differ : again ≢ p = λ same. absurd (omega arith) in
      let edge : One flow out (i.Leave (variables_of names)) to (t.first stmt) = emit_spelled to (i.Leave (variables_of names)) (t.first stmt) parts.last in
      let there : stands_at made3 p ≡ entered =
      stood_before p (point_placing entered made2 made2.points two.sound) two.sound (omega arith) ∙ (taken names stmt standing made spelled.sound).0 in
      let same : behind_widths (stands_at made3 p).registers ≡ behind_widths standing.registers = ap behind_widths (ap (λ (stood : Stood). stood.registers) there ∙ emptied_none standing.registers) in
      let under0 : AreUnder m0.registers (registers_of standing) =
      under_widths (max made.registers (behind_widths (stands_at made3 p).registers)) standing.registers (let h = le-max_right made.registers (behind_widths (stands_at made3 p).registers) in omega (arith, same)) in
      let more = le-max_left made.registers (behind_widths (stands_at made3 p).registers) in
      let kept0 = kept_inside outside names new tasks (later ++ now) stmt base made.registers m0.registers slots more kept in
      let here1 : stands_at m1 p ≡ entered = stood_before p a zero_.sound (omega arith) ∙ there in
      let kept1 = kept_more t flow setting running m1.registers a.registers kept0 in
      let kept2 = kept_more t flow setting running m2.registers b.registers kept1 in
      first_part outside good names good' new stmt first test semicolon next close body is declares (later ++ now) tasks slots standing to cont stand m0 from p base
      (stood_before from zero_ spelled.sound begin ∙ here) are_made parts.first now later refl made.registers kept kept0
      (from_head outside good names good' new stmt first test semicolon next close body is declares (later ++ now) tasks slots standing to cont stand m1 p again out base here1
      (under_more m0.registers m1.registers (registers_of standing) a.registers under0) (not_idle test next refl at_head) (parts.turn_apart differ) edge kept1
      (by_next good' new next refl m2 kept2 (parts.next differ)))
    where
      not_idle : (test' next' : Option t.Expr) → is_at_head t test next body ≡ is_at_head t test' next' body → is_at_head t test' next' body ≡ false → test' ≡ None → passes t (t.clause body) ≡ false
      not_idle None None same at_head' none = absurd (false≢true (sym at_head'))
      not_idle None (Some expr) same at_head' none = at_head'
      not_idle (Some expr) next' same at_head' none = absurd (none-some expr (sym none))

      by_next : IsAround setting (within names outside) → are_new names (names_of outside.scopes) ≡ true → (next' : Option t.Expr) → next ≡ next' → (m2 : Made) → Kept (within names outside) (later ++ now) (LeaveBlock (t.first stmt) ∷ tasks) base m2.registers slots →
          IsSpelled flow m2 (suc (suc made.points)) (place_next t (go levels t) (within names outside) m2 (suc (suc made.points)) next close made.points) →
          Runs (within names outside) (record { scopes = names ∷ outside.scopes; tasks = Test stmt ∷ LeaveBlock (t.first stmt) ∷ tasks; slots = slots; point = made.points } ∷ (later ++ now)) []
          (Again stmt (length slots + running.base) ∷ LeaveBlock (t.first stmt) ∷ tasks) slots (suc (suc made.points))
      by_next good' new None none m2 kept2 spelled' = absurd (false≢true (sym at_head ∙ at_end none))
        where
          at_end : next ≡ None → is_at_head t test next body ≡ true
          at_end is_none' = ap (λ (n : Option t.Expr). is_at_head t test n body) is_none' ∙ by_test test
            where
              by_test : (test' : Option t.Expr) → is_at_head t test' None body ≡ true
              by_test None = refl
              by_test (Some expr) = refl
      by_next good' new (Some expr) some m2 kept2 spelled' =
          full_again outside good names good' new stmt first test semicolon next close body is declares (later ++ now) tasks slots standing to cont stand
          (record { scopes = names ∷ outside.scopes; tasks = Test stmt ∷ LeaveBlock (t.first stmt) ∷ tasks; slots = slots; point = made.points } ∷ (later ++ now)) [] m2 (suc (suc made.points)) made.points base expr some refl
          (subst (λ (n : Option t.Expr). IsSpelled flow m2 (suc (suc made.points)) (place_next t (go levels t) (within names outside) m2 (suc (suc made.points)) n close made.points)) some spelled') kept2

  pub for_form : IsFlow flow → (outside : Around) → IsAround setting outside → (names : List Name) (made : Made) (from : ℕ) → are_named (flow_stands_at flow from).variables (names_of outside.scopes) ≡ true →
      (stmt first : t.Stmt) (test : Option t.Expr) (semicolon : Place) (next : Option t.Expr) (close : Place) (body : t.Stmt) (standing : Stood) (to : ℕ) → t.clause stmt ≡ For first test semicolon next close body →
      is_declaration t (t.clause body) ≡ false → stands_at made from ≡ standing → AreMade flow (objects_of t first) names → (at_head : Bool) → is_at_head t test next body ≡ at_head →
      IsSpelled flow made from (place_for t (go levels t) outside (within names outside) made names from stmt first test semicolon next close body (after t (enters names (t.first stmt)) standing) standing at_head to) →
      (now later : List (Stop t)) (tasks : List (TaskIn t)) (slots : List Slot) (base : ℕ) → are_in (registers_of standing) slots ≡ true → Kept outside (later ++ now) tasks base made.registers slots →
      Runs outside (later ++ now) [] tasks slots to → Runs outside now later (Execute stmt ∷ tasks) slots from
  for_form valid outside good names made from named stmt first test semicolon next close body standing to is declares here are_made true at_head spelled now later tasks slots base stand kept cont =
      head_form valid outside good names made from named stmt first test semicolon next close body standing to is declares here are_made at_head spelled now later tasks slots base stand kept cont
  for_form valid outside good names made from named stmt first test semicolon next close body standing to is declares here are_made false at_head spelled now later tasks slots base stand kept cont =
      apart_form valid outside good names made from named stmt first test semicolon next close body standing to is declares here are_made at_head spelled now later tasks slots base stand kept cont
