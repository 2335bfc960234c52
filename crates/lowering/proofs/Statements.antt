-- The parts of what is placed for a condition and both its sides, and statements without an edge.
use Rattle.std.proofs.Common.{◌≡◌, ◌≢◌, ◌<◌, ◌≤◌, ◌⊎◌, ℕ, zero, suc, ◌+◌, List, [], ◌∷◌, ◌++◌, length, Bool, true, false, refl, sym, ap, subst, ◌∙◌, append_assoc, inr, ⊎_elim, arith, Option, None, Some}
use Rattle.std.specs.List.{flat_map, list_all}
use Rattle.std.proofs.lemmas.Bool.{and_from, and_parts, false≢true}
use Rattle.cbase.specs.declared.place.Place.{Place}
use Rattle.c_machine.specs.declared.object.Object.{Object}
use Rattle.c_machine.specs.declared.task.Task.TheVariants.{Execute, Branch, Test, Again}
use Rattle.c_machine.specs.Blocks.{declared_tasks, declared_by as declared_parts}
use Rattle.c_machine.specs.State.{TaskIn}
use Rattle.c_machine.specs.Statements.{clause_tasks, again_parts, branch_parts, branch_end}
use Rattle.c_machine.specs.Text.{Declared, Clause, Declare, Eval, While, Break, Continue, Text}
use Rattle.flow.specs.declared.flow_graph.Flow.{Flow}
use Rattle.flow.specs.declared.flow_graph.Standing.{Standing}
use Rattle.flow.specs.declared.instruction.Instr.TheVariants as i
use Rattle.simulation.specs.Edges.{One}
use Rattle.simulation.specs.Lowered.{Stop, First, Lowered, Ends, Executes, Repeats, Branches}
use Rattle.simulation.specs.Running.{Setting, Running}
use Rattle.simulation.specs.Slots.{Slot, Truth, is_free, is_whole, are_free}
use Rattle.lowering.specs.Moves.{Move, Emits, Asks, run_of}
use Rattle.lowering.specs.Placing.{Made, Loop as LoopAround, Around, leaves_none, with_point, with_registers, stands_at, with_spares, does_nothing, Way, Idle, Leads, Goes as GoesOn, jumps, idle_where, way_by, Begin, Here, New, break_way, continue_way, along, go, place_branch}
use Rattle.lowering.proofs.Placings.{outs, IsSound, IsPlacing, point_placing, registers_placing, IsSpelled, spelled_point, spelled_registers, spelled_first}
use Rattle.lowering.proofs.PlacedForms.{along_placing}
use Rattle.lowering.proofs.Placed.{go_placing}
use Rattle.lowering.proofs.Stood.{stood_before, last_stood}
use Rattle.lowering.proofs.Ready.{AreBelow, below_more, free_below}

-- registers from one on, where operands stand below
pub free_run : (first count : ℕ) (slots : List Slot) → AreBelow first slots → are_free (run_of first count) slots ≡ true
free_run first zero slots below = refl
free_run first (suc count) slots below =
    and_from (is_free first slots) (are_free (run_of (suc first) count) slots) (free_below first first slots (omega arith) below)
    (free_run (suc first) count slots (below_more first (suc first) slots (omega arith) below))

-- a part between others: what stands behind it in the placing changes none of its points
spelled_part : {flow : Flow} {before middle middle' behind : Made} {from at other : ℕ} → IsSpelled flow before from behind → IsPlacing middle' other behind →
    at < middle.points → IsSound middle → outs middle.edges at ≡ [] →
    ((point : ℕ) → (point ≡ at) ⊎ (middle.points ≤ point) → before.points ≤ point) → ((point : ℕ) → (point ≡ at) ⊎ (middle.points ≤ point) → point ≢ other) →
    IsSpelled flow middle at middle'
spelled_part {flow = flow} {before = before} {middle = middle} {middle' = middle'} {behind = behind} {from = from} {at = at} {other = other} spelled placing inside sound opened own apart =
    let h = placing.points in
    record {
      inside = inside;
      sound = sound;
      opened = opened;
      same = λ point below here. spelled.same point (omega arith) (inr (own point here)) ∙ placing.touches point below (apart point here);
      stands = (
        placing.stands.0 ++ spelled.stands.0,
        spelled.stands.1 ∙ (ap (λ list. list ++ spelled.stands.0) placing.stands.1 ∙ append_assoc middle'.stands placing.stands.0 spelled.stands.0),
      );
      variables = (
        placing.variables.0 ++ spelled.variables.0,
        spelled.variables.1 ∙ (ap (λ list. list ++ spelled.variables.0) placing.variables.1 ∙ append_assoc middle'.variables placing.variables.0 spelled.variables.0),
      );
      graph = placing.graph spelled.graph;
    }

-- which way is none
abbrev is_idle_way : Way → Bool
is_idle_way Idle = true
is_idle_way (Leads to) = false
is_idle_way GoesOn = false

abbrev leads_to : Begin → Option ℕ
leads_to (Here point) = Some point
leads_to New = None

idle_holds : (test : Bool) → idle_where test ≡ Idle → test ≡ true
idle_holds true is = refl
idle_holds false is = absurd (false≢true (ap is_idle_way is))

jumps_never : (test : Bool) (to : ℕ) → jumps test to ≡ Idle → ⊥
jumps_never true to is = false≢true (ap is_idle_way is)
jumps_never false to is = false≢true (ap is_idle_way is)

break_never : (around : Around) (standing : Standing) (loop : Option LoopAround) → break_way around standing loop ≡ Idle → ⊥
break_never around standing None is = false≢true (ap is_idle_way is)
break_never around standing (Some loop) is = jumps_never (leaves_none around standing loop.outer loop) loop.behind is

continue_never : (around : Around) (standing : Standing) (loop : Option LoopAround) → continue_way around standing loop ≡ Idle → ⊥
continue_never around standing None is = false≢true (ap is_idle_way is)
continue_never around standing (Some loop) is = jumps_never (leaves_none around standing loop.inner loop) loop.again is

module _ (t : Text) (flow : Flow) (setting : Setting) (running : Running) where
  abbrev Goes : Around → List (Stop t) → List (Stop t) → List (TaskIn t) → List Slot → ℕ → Type 0
  Goes around now later tasks slots point = Lowered t flow setting running now later around.scopes tasks slots point

  -- a statement makes room for its parts
  pub executes : (around : Around) (now later : List (Stop t)) (tasks : List (TaskIn t)) (slots : List Slot) (from : ℕ) (stmt : t.Stmt) (clause : Clause t.Expr t.Stmt t.Init) → t.clause stmt ≡ clause →
      Goes around now later (clause_tasks t stmt (length slots + running.base) clause ++ tasks) slots from → Goes around now later (Execute stmt ∷ tasks) slots from
  executes around now later tasks slots from stmt clause is rest =
      Executes stmt (subst (λ (c : Clause t.Expr t.Stmt t.Init). Goes around now later (clause_tasks t stmt (length slots + running.base) c ++ tasks) slots from) (sym is) rest)

  -- statements without an edge: `;`, and declarations of nothing that is initialised
  pub empty_form : (around : Around) (now later : List (Stop t)) (tasks : List (TaskIn t)) (slots : List Slot) (from : ℕ) (stmt : t.Stmt) → t.clause stmt ≡ Eval None →
      Goes around now later tasks slots from → Goes around now later (Execute stmt ∷ tasks) slots from
  empty_form around now later tasks slots from stmt is cont = executes around now later tasks slots from stmt (Eval None) is cont

  nothing_done : (name : Declared t.Init) (object : Option Object) (init : Option t.Init) → t.automatic name.place ≡ object → name.init ≡ init → does_nothing t name ≡ true →
      declared_parts t name.place object init ≡ []
  nothing_done name None init is is' nothing = refl
  nothing_done name (Some object) None is is' nothing = refl
  nothing_done name (Some object) (Some init) is is' nothing = (let never : does_nothing t name ≡ false = rw (is, is') refl in absurd (cc))

  none_done : (names : List (Declared t.Init)) → list_all (does_nothing t) names ≡ true → flat_map (declared_tasks t) names ≡ []
  none_done [] is = refl
  none_done (name ∷ names) is =
      let parts = and_parts (does_nothing t name) (list_all (does_nothing t) names) is in
      ap (λ (tasks : List (TaskIn t)). tasks ++ flat_map (declared_tasks t) names) (nothing_done name (t.automatic name.place) name.init refl refl parts.0) ∙ none_done names parts.1

  pub declared_form : (around : Around) (now later : List (Stop t)) (tasks : List (TaskIn t)) (slots : List Slot) (from : ℕ) (stmt : t.Stmt) (names : List (Declared t.Init)) → t.clause stmt ≡ Declare names →
      list_all (does_nothing t) names ≡ true → Goes around now later tasks slots from → Goes around now later (Execute stmt ∷ tasks) slots from
  declared_form around now later tasks slots from stmt names is nothing cont =
      executes around now later tasks slots from stmt (Declare names) is
      (subst (λ (new : List (TaskIn t)). Goes around now later (new ++ tasks) slots from) (sym (none_done names nothing)) cont)

  -- Behind a condition its registers go, once on each side.
  abbrev pub at_sides : Made → ℕ → ℕ → Made
  at_sides made from count = with_registers count (with_point (with_spares made.registers count (stands_at made from)) (with_point (with_spares made.registers count (stands_at made from)) made))

  abbrev finished : ℕ → ℕ → Place → List (Move t) → List (Move t)
  finished first count close moves = Emits (i.Finish (run_of first count)) close ∷ moves

  -- the parts of what is placed for a condition and both sides
  pub record BranchIs (levels : ℕ) (around turning : Around) (made : Made) (from : ℕ) (test : t.Expr) (count : ℕ) (close : Place) (one : List (Move t)) (one_to : ℕ) (other : List (Move t)) (other_to : ℕ) : Type 0 where
    pub asked : Made
    pub held : Made
    pub registers : made.registers ≤ asked.registers
    pub registers' : made.registers ≤ held.registers
    pub stood : stands_at asked (suc made.points) ≡ with_spares made.registers count (stands_at made from)
    pub stood' : stands_at held made.points ≡ with_spares made.registers count (stands_at made from)
    pub test_spelled : IsSpelled flow (at_sides made from count) from (go levels t around (at_sides made from count) from (Asks test made.registers made.points (suc made.points)) from)
    pub one_spelled : IsSpelled flow asked (suc made.points) (along t turning (go levels t turning) asked (suc made.points) (finished made.registers count close one) one_to)
    pub other_spelled : IsSpelled flow held made.points (along t around (go levels t around) held made.points (finished made.registers count close other) other_to)

  pub branch_is : (levels : ℕ) (around turning : Around) (made : Made) (from : ℕ) (test : t.Expr) (count : ℕ) (close : Place) (one : List (Move t)) (one_to : ℕ) (other : List (Move t)) (other_to : ℕ) →
      IsSpelled flow made from (place_branch t (go levels t) around turning made from test count close one one_to other other_to) →
      BranchIs levels around turning made from test count close one one_to other other_to
  branch_is levels around turning made from test count close one one_to other other_to spelled =
      let p : ℕ = made.points in
      let r : ℕ = made.registers in
      let inside = spelled.inside in
      let standing : Standing = with_spares r count (stands_at made from) in
      let start : Made = at_sides made from count in
      let first = point_placing standing made from spelled.sound in
      let second = point_placing standing (with_point standing made) from first.sound in
      let third = registers_placing count (with_point standing (with_point standing made)) from second.sound in
      let spelled' : IsSpelled flow start from (place_branch t (go levels t) around turning made from test count close one one_to other other_to) =
      spelled_registers count (spelled_point standing (spelled_point standing spelled)) in
      let m1 : Made = go levels t around start from (Asks test r p (suc p)) from in
      let asks = go_placing levels t around start from (Asks test r p (suc p)) from (omega arith) third.sound in
      let h1 = asks.points in
      let m2 : Made = along t turning (go levels t turning) m1 (suc p) (finished r count close one) one_to in
      let ones = along_placing t turning (go levels t turning) (go_placing levels t turning) m1 (suc p) (finished r count close one) one_to (omega arith) asks.sound in
      let h2 = ones.points in
      let others = along_placing t around (go levels t around) (go_placing levels t around) m2 p (finished r count close other) other_to (omega arith) ones.sound in
      let h3 = others.points in
      let open_one : outs m1.edges (suc p) ≡ [] = asks.touches (suc p) (omega arith) (λ same. absurd (omega arith)) ∙ spelled.sound.fresh (suc p) (omega arith) in
      let open_other : outs m2.edges p ≡ [] =
      ones.touches p (omega arith) (λ same. absurd (omega arith)) ∙ (asks.touches p (omega arith) (λ same. absurd (omega arith)) ∙ spelled.sound.fresh p (omega arith)) in
      let k1 = asks.registers in
      let k2 = ones.registers in
      record {
        asked = m1;
        held = m2;
        registers = omega arith;
        registers' = omega arith;
        stood = stood_before (suc p) asks third.sound (omega arith) ∙ last_stood standing (with_point standing made) first.sound.stands;
        stood' = stood_before p ones asks.sound (omega arith) ∙ (stood_before p asks third.sound (omega arith)
            ∙ (stood_before p second first.sound (omega arith) ∙ last_stood standing made spelled.sound.stands));
        test_spelled = spelled_first (spelled_first spelled' others (omega arith) (λ same. absurd (omega arith))) ones (omega arith) (λ same. absurd (omega arith));
        one_spelled = spelled_part spelled others (omega arith) asks.sound open_one
            (λ point own. ⊎_elim (λ (same : point ≡ suc p). let k : p ≤ point = omega arith in k) (λ (above : m1.points ≤ point). let k : p ≤ point = omega arith in k) own)
            (λ point own is. ⊎_elim (λ (same : point ≡ suc p). absurd (omega arith)) (λ (above : m1.points ≤ point). absurd (omega arith)) own);
        other_spelled = record {
          inside = omega arith;
          sound = ones.sound;
          opened = open_other;
          same = λ point below own. spelled.same point below
              (inr (⊎_elim (λ (same : point ≡ p). let k : p ≤ point = omega arith in k) (λ (above : m2.points ≤ point). let k : p ≤ point = omega arith in k) own));
          stands = spelled.stands;
          variables = spelled.variables;
          graph = spelled.graph;
        };
      }

  -- a side: its first edge ends the condition, and then it goes on
  pub record SideGoes (around : Around) (now : List (Stop t)) (tasks : List (TaskIn t)) (slots : List Slot) (from first count : ℕ) (close : Place) : Type 0 where
    pub to : ℕ
    pub edge : One flow from (i.Finish (run_of first count)) to close
    pub goes : Goes around now [] tasks slots to

  pub branches : (around : Around) (now : List (Stop t)) (tasks : List (TaskIn t)) (slots : List Slot) (point first count : ℕ) (stmt : t.Stmt) (holds : Bool) (close : Place) (clause : Clause t.Expr t.Stmt t.Init) →
      t.clause stmt ≡ clause → branch_end t clause (t.last stmt) ≡ close → is_whole slots ≡ true → AreBelow first slots →
      SideGoes around now (branch_parts t stmt (length slots + running.base) clause holds ++ tasks) slots point first count close → Goes around now [] (Branch stmt ∷ tasks) (Truth holds ∷ slots) point
  branches around now tasks slots point first count stmt holds close clause is place whole below side =
      Branches stmt holds (run_of first count) side.to
      (subst (λ (p : Place). One flow point (i.Finish (run_of first count)) side.to p) (sym (ap (λ (c : Clause t.Expr t.Stmt t.Init). branch_end t c (t.last stmt)) is ∙ place)) side.edge)
      (free_run first count slots below) whole
      (subst (λ (c : Clause t.Expr t.Stmt t.Init). Goes around now [] (branch_parts t stmt (length slots + running.base) c holds ++ tasks) slots side.to) (sym is) side.goes)

  -- `while`: the head is a stop at which the run goes on behind a turn
  abbrev pub head_of : Around → t.Stmt → List (TaskIn t) → List Slot → ℕ → Stop t
  head_of around stmt tasks slots from = record { scopes = around.scopes; tasks = Test stmt ∷ tasks; slots = slots; point = from }

  pub again_at_head : (around : Around) (now : List (Stop t)) (tasks : List (TaskIn t)) (slots : List Slot) (from held : ℕ) (stmt : t.Stmt) (test : t.Expr) (close : Place) (body : t.Stmt) → t.clause stmt ≡ While test close body →
      Goes around (head_of around stmt tasks slots from ∷ now) [] (Again stmt held ∷ tasks) slots from
  again_at_head around now tasks slots from held stmt test close body is =
      Repeats stmt held
      (subst (λ (c : Clause t.Expr t.Stmt t.Init). Goes around (head_of around stmt tasks slots from ∷ now) [] (again_parts t stmt c ++ tasks) slots from) (sym is) (Ends First))

  -- a statement without an edge that does not leave a loop
  pub idle_form : (around : Around) (standing : Standing) (stmt : t.Stmt) (clause : Clause t.Expr t.Stmt t.Init) → t.clause stmt ≡ clause → way_by t around standing clause ≡ Idle →
      (now later : List (Stop t)) (tasks : List (TaskIn t)) (slots : List Slot) (from : ℕ) → Goes around now later tasks slots from → Goes around now later (Execute stmt ∷ tasks) slots from
  idle_form around standing stmt (Declare names) is way now later tasks slots from cont = declared_form around now later tasks slots from stmt names is (idle_holds (list_all (does_nothing t) names) way) cont
  idle_form around standing stmt (Eval None) is way now later tasks slots from cont = empty_form around now later tasks slots from stmt is cont
  idle_form around standing stmt Break is way now later tasks slots from cont = absurd (break_never around standing around.loop way)
  idle_form around standing stmt Continue is way now later tasks slots from cont = absurd (continue_never around standing around.loop way)
  idle_form around standing stmt clause is way now later tasks slots from cont = absurd (false≢true (ap is_idle_way way))

  -- what is placed behind at no point of its own is taken away
  pub without_rest : {before middle behind : Made} {from : ℕ} → IsSpelled flow before from behind → IsPlacing middle middle.points behind → IsSpelled flow before from middle
  without_rest {middle = middle} spelled placing =
      let h = placing.points in
      record {
        inside = spelled.inside;
        sound = spelled.sound;
        opened = spelled.opened;
        same = λ point below own. spelled.same point (omega arith) own ∙ placing.touches point below (λ same. absurd (omega arith));
        stands = (
          placing.stands.0 ++ spelled.stands.0,
          spelled.stands.1 ∙ (ap (λ list. list ++ spelled.stands.0) placing.stands.1 ∙ append_assoc middle.stands placing.stands.0 spelled.stands.0),
        );
        variables = (
          placing.variables.0 ++ spelled.variables.0,
          spelled.variables.1 ∙ (ap (λ list. list ++ spelled.variables.0) placing.variables.1 ∙ append_assoc middle.variables placing.variables.0 spelled.variables.0),
        );
        graph = placing.graph spelled.graph;
      }
