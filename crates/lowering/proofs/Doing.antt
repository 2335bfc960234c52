-- Statements from those of a level less: what is asked of one that makes edges, and how statements in order, and one behind an edge, follow from that.
use Rattle.std.proofs.Common.{◌≡◌, ◌<◌, ◌≤◌, ℕ, ◌+◌, ◌-◌, List, [], ◌∷◌, ◌++◌, map, length, take, Bool, true, false, ◌&&◌, refl, sym, ap, subst, ◌∙◌, arith, Option, None, Some}
use Rattle.std.specs.Prelude.{replicate}
use Rattle.std.specs.List.{list_all}
use Rattle.std.proofs.lemmas.Bool.{false≢true, and_parts}
use Rattle.std.proofs.lemmas.List.{length-append}
use Rattle.std.proofs.lemmas.Option.{same_Some, none-some}
use Rattle.cbase.specs.declared.place.Place.{Place}
use Rattle.c_machine.specs.declared.object.Object.{Object}
use Rattle.c_machine.specs.declared.task.Task.TheVariants.{Execute, BreakAt, ContinueAt, ObjectAt, Zero, Initialise, LeaveBlock}
use Rattle.c_machine.specs.State.{TaskIn}
use Rattle.c_machine.specs.Statements.{LoopLeft, loop_left, BodyLeft, body_left}
use Rattle.c_machine.specs.Text.{Clause, Declare, Eval, Break, Continue, Text}
use Rattle.flow.specs.declared.flow_graph.Flow.{Flow}
use Rattle.flow.specs.declared.flow_graph.Standing.{Standing as Stood}
use Rattle.flow.specs.declared.instruction.Instr.{Instr}
use Rattle.simulation.specs.Edges.{One}
use Rattle.simulation.specs.Lowered.{Stop, Lowered, Breaks, Continues}
use Rattle.simulation.specs.Names.{Name}
use Rattle.simulation.specs.Running.{Setting, Running}
use Rattle.simulation.specs.Slots.{Slot, is_whole, is_in, are_in}
use Rattle.simulation.proofs.Wider.{Within, wider}
use Rattle.lowering.proofs.Jumping.{in_rest, none_within}
use Rattle.lowering.specs.Moves.{Move, Emits, Does, Clears, Initialises}
use Rattle.lowering.specs.Placing.{Made, Loop as LoopAround, Around, with_point, stands_at, registers_of, registers_left, within, blocks_left, is_none, leaves_none, is_empty_within, does_nothing, idle_where, Way, Idle, Leads, Goes as GoesOn, jumps, way_by, Begin, Here, New, begin_by, begins, break_way, continue_way, along_from, along_at, go}
use Rattle.lowering.proofs.Placings.{IsSound, point_placing, IsSpelled}
use Rattle.lowering.proofs.PlacedForms.{moves_placing}
use Rattle.lowering.proofs.Placed.{go_placing}
use Rattle.lowering.proofs.Stood.{stood_before, last_stood, left_all}
use Rattle.lowering.proofs.Jumping.{JumpIs, IsInLoop, LoopIs, AreJumps, jumps_wider}
use Rattle.lowering.proofs.Ready.{AreBelow, below_more, free_below, IsReady, mid, head_spelled, tail_spelled, fills, one_at}
use Rattle.lowering.proofs.Modes.{IsAround}
use Rattle.lowering.proofs.Statements.{executes, idle_form, without_rest}

-- a statement in no block of the loop's body stands where the loop does
abbrev pub NothingLeft : Around → Stood → Option LoopAround → Type 0
NothingLeft around standing None = Unit {0}
NothingLeft around standing (Some loop) = is_none (blocks_left around loop.inner) ≡ true → registers_left standing.registers loop.registers ≡ []

-- which way is taken
abbrev is_edge : Way → Bool
is_edge Idle = false
is_edge (Leads to) = false
is_edge GoesOn = true

abbrev is_led : Way → Option ℕ
is_led Idle = None
is_led (Leads to) = Some to
is_led GoesOn = None

abbrev begun_at : Begin → Option ℕ
begun_at (Here point) = Some point
begun_at New = None

jumps_led : (none : Bool) (to at : ℕ) → jumps none to ≡ Leads at → (none ≡ true) × (to ≡ at)
jumps_led true to at is = (refl, same_Some to at (ap is_led is))
jumps_led false to at is = absurd (none-some at (ap is_led is))

-- the blocks that are left are those inside
take_front : {X : Type 0} (front back : List X) → take (length front) (front ++ back) ≡ front
take_front [] back = refl
take_front (first ∷ front) back = ap (λ rest. first ∷ rest) (take_front front back)

pub blocks_of : (around : Around) (count : ℕ) (blocks outside : List (List Name)) → around.scopes ≡ blocks ++ outside → length outside ≡ count → blocks_left around count ≡ blocks
blocks_of around count blocks outside scopes size =
    let many : length around.scopes ≡ length blocks + length outside = ap length scopes ∙ length-append blocks outside in
    let less : length around.scopes - count ≡ length blocks = omega (arith, many, size) in
    ap (λ (n : ℕ). take n around.scopes) less ∙ (ap (take (length blocks)) scopes ∙ take_front blocks outside)

pub none_of : {X : Type 0} (list : List X) → is_none list ≡ true → list ≡ []
none_of [] is = refl
none_of (first ∷ list) is = absurd (false≢true is)

pub in_front : (registers : List ℕ) (one other : List Slot) → are_in registers (one ++ other) ≡ true → are_in registers one ≡ true
in_front registers [] other are = refl
in_front registers (slot ∷ one) other are = by_test (is_in registers slot) are (in_front registers one other)
  where
    by_test : (here : Bool) → (here && are_in registers (one ++ other)) ≡ true → (are_in registers (one ++ other) ≡ true → are_in registers one ≡ true) → (here && are_in registers one) ≡ true
    by_test true is more = more is
    by_test false is more = is

idle_led : (at : ℕ) (idle : Bool) → idle_where idle ≡ Leads at → ⊥
idle_led at true is = none-some at (ap is_led is)
idle_led at false is = none-some at (ap is_led is)

module _ (t : Text) where
  -- statements hide neither the loop nor the body behind them
  pub loop_behind : (body : List t.Stmt) (tasks : List (TaskIn t)) → loop_left (map Execute body ++ tasks) ≡ loop_left tasks
  loop_behind [] tasks = refl
  loop_behind (stmt ∷ body) tasks = loop_behind body tasks

  pub body_behind : (body : List t.Stmt) (tasks : List (TaskIn t)) → body_left (map Execute body ++ tasks) ≡ body_left tasks
  body_behind [] tasks = refl
  body_behind (stmt ∷ body) tasks = body_behind body tasks

module _ (t : Text) (flow : Flow) (setting : Setting) (running : Running) where
  abbrev pub Goes : Around → List (Stop t) → List (Stop t) → List (TaskIn t) → List Slot → ℕ → Type 0
  Goes around now later tasks slots point = Lowered t flow setting running now later around.scopes tasks slots point

  -- where a statement begins: its unfinished operands stand in registers that were taken before, and it is known where jumps lead
  pub record IsKept (around : Around) (stops : List (Stop t)) (leaving : Option (LoopLeft t.Expr t.Stmt t.Init)) (body : Option (BodyLeft t.Expr t.Stmt t.Init)) (base count : ℕ) (slots : List Slot) : Type 0 where
    pub whole : is_whole slots ≡ true
    pub below : AreBelow count slots
    pub own : base ≤ count
    pub jumps : AreJumps t flow setting running around stops leaving body base slots

  -- a statement that makes edges
  abbrev pub DoesIs : ℕ → Type 0
  DoesIs levels =
      (around : Around) → IsAround setting around → (made : Made) (from : ℕ) (stmt : t.Stmt) (to : ℕ) → way_by t around (stands_at made from) (t.clause stmt) ≡ GoesOn →
      NothingLeft around (stands_at made from) around.loop → IsSpelled flow made from (go levels t around made from (Does stmt) to) →
      (now later : List (Stop t)) (tasks : List (TaskIn t)) (slots : List Slot) (base : ℕ) → IsKept around (later ++ now) (loop_left tasks) (body_left tasks) base made.registers slots →
      Goes around (later ++ now) [] tasks slots to → Goes around now later (Execute stmt ∷ tasks) slots from

  -- a whole object that becomes 0, and an initialiser that has a value
  abbrev pub ClearsIs : ℕ → Type 0
  ClearsIs levels =
      (around : Around) → IsAround setting around → (made : Made) (from : ℕ) (place : Place) (object : Object) (to : ℕ) → IsSpelled flow made from (go levels t around made from (Clears place object) to) →
      (now later : List (Stop t)) (tasks : List (TaskIn t)) (slots : List Slot) (base : ℕ) → IsKept around (later ++ now) (loop_left tasks) (body_left tasks) base made.registers slots →
      Goes around (later ++ now) [] tasks slots to → Goes around now later (ObjectAt (t.token place) ∷ Zero place object.bytes ∷ tasks) slots from

  abbrev pub InitialisesIs : ℕ → Type 0
  InitialisesIs levels =
      (around : Around) → IsAround setting around → (made : Made) (from : ℕ) (place : Place) (init : t.Init) (to : ℕ) → is_empty_within t.enough t init ≡ false →
      IsSpelled flow made from (go levels t around made from (Initialises place init) to) →
      (now later : List (Stop t)) (tasks : List (TaskIn t)) (slots : List Slot) (base : ℕ) → IsKept around (later ++ now) (loop_left tasks) (body_left tasks) base made.registers slots →
      Goes around (later ++ now) [] tasks slots to → Goes around now later (Initialise place init ∷ tasks) slots from

  -- with more registers, and behind a step
  pub kept_more : {around : Around} {stops : List (Stop t)} {leaving : Option (LoopLeft t.Expr t.Stmt t.Init)} {body : Option (BodyLeft t.Expr t.Stmt t.Init)} {base count : ℕ} {slots : List Slot} (more : ℕ) → count ≤ more →
      IsKept around stops leaving body base count slots → IsKept around stops leaving body base more slots
  kept_more {count = count} {slots = slots} more less kept =
      let h = kept.own in
      record { whole = kept.whole; below = below_more count more slots less kept.below; own = omega arith; jumps = kept.jumps }

  pub kept_later : {around : Around} {leaving : Option (LoopLeft t.Expr t.Stmt t.Init)} {body : Option (BodyLeft t.Expr t.Stmt t.Init)} {base count : ℕ} {slots : List Slot} (now later : List (Stop t)) →
      IsKept around now leaving body base count slots → IsKept around (later ++ now) leaving body base count slots
  kept_later {around = around} {leaving = leaving} {body = body} {base = base} {slots = slots} now later kept = record {
    whole = kept.whole;
    below = kept.below;
    own = kept.own;
    jumps = jumps_wider t flow setting running around now (later ++ now) leaving body base slots (λ stop is. in_rest t stop later now is) kept.jumps;
  }

  -- a full expression, which lets go of values in the registers from there on
  pub full_ready : {around : Around} {stops : List (Stop t)} {leaving : Option (LoopLeft t.Expr t.Stmt t.Init)} {body : Option (BodyLeft t.Expr t.Stmt t.Init)} {base count : ℕ} {slots : List Slot} (more left : ℕ) → left ≤ more →
      IsKept around stops leaving body base count slots → IsReady t flow setting running around stops leaving body base (count + more) slots count left
  full_ready {count = count} {slots = slots} more left less kept =
      let h = kept.own in
      record {
        whole = kept.whole;
        below = below_more count (count + more) slots (omega arith) kept.below;
        spares = λ register above below. free_below count register slots above kept.below;
        room = omega arith;
        own = kept.own;
        jumps = kept.jumps;
      }

  -- in a block of the loop's body something is left by a jump
  pub nothing_within : (around : Around) (names : List Name) (standing : Stood) (stops : List (Stop t)) (leaving : Option (LoopLeft t.Expr t.Stmt t.Init)) (slots : List Slot) (loop : Option LoopAround) →
      LoopIs t flow setting running around stops leaving slots loop → NothingLeft (within names around) standing loop
  nothing_within around names standing stops leaving slots None inside = tt
  nothing_within around names standing stops leaving slots (Some loop) inside = λ none.
      let jump = inside.continues in
      absurd (false≢true
      (sym (ap is_none (blocks_of (within names around) loop.inner (names ∷ jump.blocks) jump.outside (ap (λ (scopes : List (List Name)). names ∷ scopes) jump.scopes) jump.size)) ∙ none))

  abbrev Kept : Around → List (Stop t) → List (TaskIn t) → ℕ → Made → List Slot → Type 0
  Kept around stops tasks base made slots = IsKept around stops (loop_left tasks) (body_left tasks) base made.registers slots

  pub behind_statements : (around : Around) (stops : List (Stop t)) (body : List t.Stmt) (tasks : List (TaskIn t)) (base count : ℕ) (slots : List Slot) → IsKept around stops (loop_left tasks) (body_left tasks) base count slots →
      IsKept around stops (loop_left (map Execute body ++ tasks)) (body_left (map Execute body ++ tasks)) base count slots
  behind_statements around stops body tasks base count slots kept =
      subst (λ (left : Option (LoopLeft t.Expr t.Stmt t.Init)). IsKept around stops left (body_left (map Execute body ++ tasks)) base count slots) (sym (loop_behind t body tasks))
      (subst (λ (left : Option (BodyLeft t.Expr t.Stmt t.Init)). IsKept around stops (loop_left tasks) left base count slots) (sym (body_behind t body tasks)) kept)

  -- A jump without an edge: it leaves no block and no register, and goes on where it leads.
  no_block : (around : Around) (stops : List (Stop t)) (kept : List Slot) (count at : ℕ) (onward : Place → List (TaskIn t) → List (TaskIn t)) (jump : JumpIs t flow setting running around stops kept count at onward) →
      is_none (blocks_left around count) ≡ true → (around.scopes ≡ jump.outside) × ((word : Place) (rest : List (TaskIn t)) → onward word rest ≡ jump.behind ++ rest)
  no_block around stops kept count at onward jump none =
      let empty : jump.blocks ≡ [] = sym (blocks_of around count jump.blocks jump.outside jump.scopes jump.size) ∙ none_of (blocks_left around count) none in (
        jump.scopes ∙ ap (λ (blocks : List (List Name)). blocks ++ jump.outside) empty,
        λ word rest. jump.goes word rest ∙ ap (λ (blocks : List (List Name)). (replicate (length blocks) (LeaveBlock word) ++ jump.behind) ++ rest) empty,
      )

  no_register : (around : Around) (stops : List (Stop t)) (leaving : Option (LoopLeft t.Expr t.Stmt t.Init)) (slots : List Slot) (loop : LoopAround) (standing : Stood) (inside : IsInLoop t flow setting running around stops leaving slots loop) →
      are_in (registers_of standing) slots ≡ true → is_none (registers_left standing.registers loop.registers) ≡ true → are_in [] inside.dropped ≡ true
  no_register around stops leaving slots loop standing inside stand none =
      let there : are_in (registers_of standing) inside.dropped ≡ true =
      in_front (registers_of standing) inside.dropped inside.kept (subst (λ (all : List Slot). are_in (registers_of standing) all ≡ true) inside.split stand) in
      subst (λ (registers : List ℕ). are_in registers inside.dropped ≡ true) (none_of (registers_left standing.registers loop.registers) none)
      (left_all standing.registers loop.registers inside.dropped there inside.apart)

  break_led : (around : Around) (standing : Stood) (now later : List (Stop t)) (tasks : List (TaskIn t)) (slots : List Slot) (stmt : t.Stmt) (loop : LoopAround) → t.clause stmt ≡ Break → leaves_none around standing loop.outer loop ≡ true →
      IsInLoop t flow setting running around now (loop_left tasks) slots loop → are_in (registers_of standing) slots ≡ true → Goes around now later (Execute stmt ∷ tasks) slots loop.behind
  break_led around standing now later tasks slots stmt loop is none inside stand =
      let parts = and_parts (is_none (blocks_left around loop.outer)) (is_none (registers_left standing.registers loop.registers)) none in
      let jump = inside.breaks in
      let here = no_block around now inside.kept loop.outer loop.behind _ jump parts.0 in
      executes t flow setting running around now later tasks slots loop.behind stmt Break is
      (subst (λ (all : List Slot). Goes around now later (BreakAt (t.first stmt) ∷ tasks) all loop.behind) (sym inside.split)
      (Breaks (t.first stmt) inside.found inside.dropped jump.behind inside.is inside.held (here.1 (t.first stmt)) (no_register around now (loop_left tasks) slots loop standing inside stand parts.1)
      (subst (λ (scopes : List (List Name)). Lowered t flow setting running now later scopes jump.behind inside.kept loop.behind) (sym here.0)
      (wider t flow setting running jump.leads now later (λ stop there. there) (none_within t later)))))

  continue_led : (around : Around) (standing : Stood) (now later : List (Stop t)) (tasks : List (TaskIn t)) (slots : List Slot) (stmt : t.Stmt) (loop : LoopAround) → t.clause stmt ≡ Continue → leaves_none around standing loop.inner loop ≡ true →
      IsInLoop t flow setting running around now (loop_left tasks) slots loop → are_in (registers_of standing) slots ≡ true → Goes around now later (Execute stmt ∷ tasks) slots loop.again
  continue_led around standing now later tasks slots stmt loop is none inside stand =
      let parts = and_parts (is_none (blocks_left around loop.inner)) (is_none (registers_left standing.registers loop.registers)) none in
      let jump = inside.continues in
      let here = no_block around now inside.kept loop.inner loop.again _ jump parts.0 in
      executes t flow setting running around now later tasks slots loop.again stmt Continue is
      (subst (λ (all : List Slot). Goes around now later (ContinueAt (t.first stmt) ∷ tasks) all loop.again) (sym inside.split)
      (Continues (t.first stmt) inside.found inside.dropped jump.behind inside.is inside.held (here.1 (t.first stmt)) (no_register around now (loop_left tasks) slots loop standing inside stand parts.1)
      (subst (λ (scopes : List (List Name)). Lowered t flow setting running now later scopes jump.behind inside.kept loop.again) (sym here.0)
      (wider t flow setting running jump.leads now later (λ stop there. there) (none_within t later)))))

  pub leads_form : (around : Around) (standing : Stood) (now later : List (Stop t)) (tasks : List (TaskIn t)) (slots : List Slot) (base : ℕ) (stmt : t.Stmt) (at : ℕ) → way_by t around standing (t.clause stmt) ≡ Leads at →
      AreJumps t flow setting running around now (loop_left tasks) (body_left tasks) base slots → are_in (registers_of standing) slots ≡ true → Goes around now later (Execute stmt ∷ tasks) slots at
  leads_form around standing now later tasks slots base stmt at way jump stand = by_clause (t.clause stmt) refl way
    where
      break_by : (loop : Option LoopAround) → LoopIs t flow setting running around now (loop_left tasks) slots loop → t.clause stmt ≡ Break → break_way around standing loop ≡ Leads at →
          Goes around now later (Execute stmt ∷ tasks) slots at
      break_by None inside is way' = absurd (none-some at (ap is_led way'))
      break_by (Some loop) inside is way' =
          let found = jumps_led (leaves_none around standing loop.outer loop) loop.behind at way' in
          subst (λ (point : ℕ). Goes around now later (Execute stmt ∷ tasks) slots point) found.1 (break_led around standing now later tasks slots stmt loop is found.0 inside stand)

      continue_by : (loop : Option LoopAround) → LoopIs t flow setting running around now (loop_left tasks) slots loop → t.clause stmt ≡ Continue → continue_way around standing loop ≡ Leads at →
          Goes around now later (Execute stmt ∷ tasks) slots at
      continue_by None inside is way' = absurd (none-some at (ap is_led way'))
      continue_by (Some loop) inside is way' =
          let found = jumps_led (leaves_none around standing loop.inner loop) loop.again at way' in
          subst (λ (point : ℕ). Goes around now later (Execute stmt ∷ tasks) slots point) found.1 (continue_led around standing now later tasks slots stmt loop is found.0 inside stand)

      by_clause : (clause : Clause t.Expr t.Stmt t.Init) → t.clause stmt ≡ clause → way_by t around standing clause ≡ Leads at → Goes around now later (Execute stmt ∷ tasks) slots at
      by_clause (Declare names) is way' = absurd (idle_led at (list_all (does_nothing t) names) way')
      by_clause (Eval None) is way' = absurd (none-some at (ap is_led way'))
      by_clause Break is way' = break_by around.loop jump.loop is way'
      by_clause Continue is way' = continue_by around.loop jump.loop is way'
      by_clause clause is way' = absurd (none-some at (ap is_led way'))

  -- what is to be done, behind an edge
  pub record BehindEdge (around : Around) (stops : List (Stop t)) (tasks : List (TaskIn t)) (slots : List Slot) (from : ℕ) (instr : Instr) (place : Place) : Type 0 where
    pub to : ℕ
    pub edge : One flow from instr to place
    pub goes : Goes around stops [] tasks slots to

  -- what stands behind a part
  pub mid_stood : (levels : ℕ) (around : Around) (made : Made) (from : ℕ) (standing : Stood) (move : Move t) → from < made.points → IsSound made →
      stands_at (mid t flow setting running levels around made from standing move) made.points ≡ standing
  mid_stood levels around made from standing move inside sound =
      let point = point_placing standing made from sound in
      stood_before made.points (go_placing levels t around (with_point standing made) from move made.points (omega arith) point.sound) point.sound (omega arith) ∙ last_stood standing made sound.stands

  -- Statements in order from a new point on; the moves behind them begin with an edge of their own.
  module _ (levels : ℕ) (does : DoesIs levels) (around : Around) (good : IsAround setting around) (standing : Stood) (nothing : NothingLeft around standing around.loop) (ending : List (Move t)) (to : ℕ)
      (begin : begins t around standing ending to ≡ New) (tasks : List (TaskIn t)) (slots : List Slot) (base : ℕ) (stand : are_in (registers_of standing) slots ≡ true) (stops : List (Stop t)) where
    abbrev moves_of : List t.Stmt → List (Move t)
    moves_of body = map Does body ++ ending

    abbrev placed_at : Made → ℕ → List t.Stmt → Made
    placed_at made from body = along_at t around (go levels t around) made from standing (moves_of body) to

    -- where what follows begins at a point that is there, it is that of a jump
    rest_led : (now later : List (Stop t)) → AreJumps t flow setting running around now (loop_left tasks) (body_left tasks) base slots → (body : List t.Stmt) (point : ℕ) →
        begins t around standing (moves_of body) to ≡ Here point → Goes around now later (map Execute body ++ tasks) slots point
    rest_led now later jump [] point is = absurd (none-some point (ap begun_at (sym begin ∙ is)))
    rest_led now later jump (stmt ∷ body) point is = by_way (way_by t around standing (t.clause stmt)) refl is (rest_led now later jump body point)
      where
        by_way : (way : Way) → way_by t around standing (t.clause stmt) ≡ way → begin_by way (begins t around standing (moves_of body) to) ≡ Here point →
            (begins t around standing (moves_of body) to ≡ Here point → Goes around now later (map Execute body ++ tasks) slots point) →
            Goes around now later (Execute stmt ∷ (map Execute body ++ tasks)) slots point
        by_way Idle way here more = idle_form t flow setting running around standing stmt (t.clause stmt) refl way now later (map Execute body ++ tasks) slots point (more here)
        by_way (Leads at) way here more =
            subst (λ (n : ℕ). Goes around now later (Execute stmt ∷ (map Execute body ++ tasks)) slots n) (same_Some at point (ap begun_at here))
            (leads_form around standing now later (map Execute body ++ tasks) slots base stmt at way
            (subst (λ (left : Option (LoopLeft t.Expr t.Stmt t.Init)). AreJumps t flow setting running around now left (body_left (map Execute body ++ tasks)) base slots) (sym (loop_behind t body tasks))
            (subst (λ (left : Option (BodyLeft t.Expr t.Stmt t.Init)). AreJumps t flow setting running around now (loop_left tasks) left base slots) (sym (body_behind t body tasks)) jump)) stand)
        by_way GoesOn way here more = absurd (none-some point (ap begun_at here))

    -- from a point on, whatever was placed before
    abbrev pub EndGoes : Type 0
    EndGoes = (now later : List (Stop t)) → Within t stops now → (made : Made) (from : ℕ) → Kept around now tasks base made slots → stands_at made from ≡ standing →
        IsSpelled flow made from (along_at t around (go levels t around) made from standing ending to) → Goes around now later tasks slots from

    abbrev Rests : List t.Stmt → Type 0
    Rests body = (now later : List (Stop t)) → Within t stops now → (made : Made) (from : ℕ) → Kept around now tasks base made slots → stands_at made from ≡ standing → IsSpelled flow made from (placed_at made from body) →
        begins t around standing (moves_of body) to ≡ New → Goes around now later (map Execute body ++ tasks) slots from

    way_there : (made : Made) (from : ℕ) (stmt : t.Stmt) → stands_at made from ≡ standing → way_by t around standing (t.clause stmt) ≡ GoesOn → way_by t around (stands_at made from) (t.clause stmt) ≡ GoesOn
    way_there made from stmt here way = ap (λ (stood : Stood). way_by t around stood (t.clause stmt)) here ∙ way

    nothing_there : (made : Made) (from : ℕ) → stands_at made from ≡ standing → NothingLeft around (stands_at made from) around.loop
    nothing_there made from here = subst (λ (stood : Stood). NothingLeft around stood around.loop) (sym here) nothing

    one_first : (stmt : t.Stmt) (body : List t.Stmt) → Rests body → (now later : List (Stop t)) → Within t stops now → (made : Made) (from : ℕ) (start : Begin) → Kept around now tasks base made slots → stands_at made from ≡ standing →
        begins t around standing (moves_of body) to ≡ start → way_by t around standing (t.clause stmt) ≡ GoesOn →
        IsSpelled flow made from (along_from t (λ made' point. placed_at made' point body) (go levels t around) made from (Does stmt) standing GoesOn start) →
        Goes around now later (Execute stmt ∷ (map Execute body ++ tasks)) slots from
    one_first stmt body rests now later within made from (Here point) kept here start way spelled =
        let one = go_placing levels t around made from (Does stmt) point spelled.inside spelled.sound in
        let rest = (moves_placing t around (go levels t around) (go_placing levels t around) (go levels t around made from (Does stmt) point) point standing (moves_of body) to one.sound).1 point start in
        does around good made from stmt point (way_there made from stmt here way) (nothing_there made from here) (without_rest t flow setting running spelled rest) now later (map Execute body ++ tasks) slots base
        (behind_statements around (later ++ now) body tasks base made.registers slots (kept_later now later kept))
        (rest_led (later ++ now) [] (kept_later now later kept).jumps body point start)
    one_first stmt body rests now later within made from New kept here start way spelled =
        let first = head_spelled t flow setting running levels around made from standing (Does stmt) (moves_of body) to spelled in
        let rest = tail_spelled t flow setting running levels around made from standing (Does stmt) (moves_of body) to spelled in
        let more = fills t flow setting running levels around made from standing (Does stmt) spelled.inside spelled.sound in
        let point = point_placing standing made from spelled.sound in
        let at : stands_at (with_point standing made) from ≡ standing = stood_before from point spelled.sound spelled.inside ∙ here in
        let next : Made = mid t flow setting running levels around made from standing (Does stmt) in
        does around good (with_point standing made) from stmt made.points (way_there (with_point standing made) from stmt at way) (nothing_there (with_point standing made) from at) first now later (map Execute body ++ tasks) slots base
        (behind_statements around (later ++ now) body tasks base made.registers slots (kept_later now later kept))
        (rests (later ++ now) [] (λ stop is. in_rest t stop later now (within stop is)) next made.points (kept_more next.registers more (kept_later now later kept)) (mid_stood levels around made from standing (Does stmt) spelled.inside spelled.sound) rest start)

    pub in_order : EndGoes → (body : List t.Stmt) → Rests body
    in_order end [] now later within made from kept here spelled new = end now later within made from kept here spelled
    in_order end (stmt ∷ body) now later within made from kept here spelled new = by_way (way_by t around standing (t.clause stmt)) refl spelled new (in_order end body)
      where
        by_way : (way : Way) → way_by t around standing (t.clause stmt) ≡ way →
            IsSpelled flow made from (along_from t (λ made' point. placed_at made' point body) (go levels t around) made from (Does stmt) standing way (begins t around standing (moves_of body) to)) →
            begin_by way (begins t around standing (moves_of body) to) ≡ New → Rests body → Goes around now later (Execute stmt ∷ (map Execute body ++ tasks)) slots from
        by_way Idle way spelled' new' rests = idle_form t flow setting running around standing stmt (t.clause stmt) refl way now later (map Execute body ++ tasks) slots from (rests now later within made from kept here spelled' new')
        by_way (Leads at) way spelled' new' rests = absurd (none-some at (ap begun_at (sym new')))
        by_way GoesOn way spelled' new' rests = one_first stmt body rests now later within made from (begins t around standing (moves_of body) to) kept here refl way spelled'

    -- all of them behind an edge
    pub behind_edge : EndGoes → (now : List (Stop t)) → Within t stops now → (body : List t.Stmt) (made : Made) (from : ℕ) (instr : Instr) (place : Place) → Kept around now tasks base made slots →
        IsSpelled flow made from (along_from t (λ made' point. placed_at made' point body) (go levels t around) made from (Emits instr place) standing GoesOn (begins t around standing (moves_of body) to)) →
        BehindEdge around now (map Execute body ++ tasks) slots from instr place
    behind_edge end now within body made from instr place kept spelled = by_start (begins t around standing (moves_of body) to) refl spelled
      where
        by_start : (start : Begin) → begins t around standing (moves_of body) to ≡ start →
            IsSpelled flow made from (along_from t (λ made' point. placed_at made' point body) (go levels t around) made from (Emits instr place) standing GoesOn start) →
            BehindEdge around now (map Execute body ++ tasks) slots from instr place
        by_start (Here point) start spelled' =
            let one = go_placing levels t around made from (Emits instr place) point spelled'.inside spelled'.sound in
            let rest = (moves_placing t around (go levels t around) (go_placing levels t around) (go levels t around made from (Emits instr place) point) point standing (moves_of body) to one.sound).1 point start in
            record {
              to = point;
              edge = one_at t flow setting running levels around made from point instr place (without_rest t flow setting running spelled' rest);
              goes = rest_led now [] kept.jumps body point start;
            }
        by_start New start spelled' =
            let first = head_spelled t flow setting running levels around made from standing (Emits instr place) (moves_of body) to spelled' in
            let rest = tail_spelled t flow setting running levels around made from standing (Emits instr place) (moves_of body) to spelled' in
            let more = fills t flow setting running levels around made from standing (Emits instr place) spelled'.inside spelled'.sound in
            let next : Made = mid t flow setting running levels around made from standing (Emits instr place) in
            record {
              to = made.points;
              edge = one_at t flow setting running levels around (with_point standing made) from made.points instr place first;
              goes = in_order end body now [] within next made.points (kept_more next.registers more kept) (mid_stood levels around made from standing (Emits instr place) spelled'.inside spelled'.sound) rest start;
            }

  -- one statement, which leads to a point that is there: behind an edge, and where it makes edges itself
  module _ (levels : ℕ) (does : DoesIs levels) (around : Around) (good : IsAround setting around) (stmt : t.Stmt) (to : ℕ) (tasks : List (TaskIn t)) (slots : List Slot) (base : ℕ) where
    abbrev one_at_end : Made → ℕ → Stood → Way → Made
    one_at_end made from standing way = along_from t (λ made' point. made') (go levels t around) made from (Does stmt) standing way (Here to)

    pub one_behind : (standing : Stood) → NothingLeft around standing around.loop → are_in (registers_of standing) slots ≡ true → (now : List (Stop t)) (made : Made) (from : ℕ) (instr : Instr) (place : Place) →
        Kept around now tasks base made slots → Goes around now [] tasks slots to →
        IsSpelled flow made from (along_from t (λ made' point. along_at t around (go levels t around) made' point standing (Does stmt ∷ []) to) (go levels t around) made from (Emits instr place) standing GoesOn
        (begins t around standing (Does stmt ∷ []) to)) →
        BehindEdge around now (Execute stmt ∷ tasks) slots from instr place
    one_behind standing nothing stand now made from instr place kept cont spelled = by_way (way_by t around standing (t.clause stmt)) refl
      where
        at_start : (start : Begin) → begins t around standing (Does stmt ∷ []) to ≡ start →
            IsSpelled flow made from (along_from t (λ made' point. along_at t around (go levels t around) made' point standing (Does stmt ∷ []) to) (go levels t around) made from (Emits instr place) standing GoesOn start)
        at_start start is =
            subst (λ (begin : Begin). IsSpelled flow made from
            (along_from t (λ made' point. along_at t around (go levels t around) made' point standing (Does stmt ∷ []) to) (go levels t around) made from (Emits instr place) standing GoesOn begin)) is spelled

        by_way : (way : Way) → way_by t around standing (t.clause stmt) ≡ way → BehindEdge around now (Execute stmt ∷ tasks) slots from instr place
        by_way Idle way =
            let there = at_start (Here to) (ap (λ (w : Way). begin_by w (Here to)) way) in
            let here = subst (λ (w : Way). IsSpelled flow made from (one_at_end (go levels t around made from (Emits instr place) to) to standing w)) way there in
            record {
              to = to;
              edge = one_at t flow setting running levels around made from to instr place here;
              goes = idle_form t flow setting running around standing stmt (t.clause stmt) refl way now [] tasks slots to cont;
            }
        by_way (Leads at) way =
            let there = at_start (Here at) (ap (λ (w : Way). begin_by w (Here to)) way) in
            let here = subst (λ (w : Way). IsSpelled flow made from (one_at_end (go levels t around made from (Emits instr place) at) at standing w)) way there in
            record {
              to = at;
              edge = one_at t flow setting running levels around made from at instr place here;
              goes = leads_form around standing now [] tasks slots base stmt at way kept.jumps stand;
            }
        by_way GoesOn way =
            let there = at_start New (ap (λ (w : Way). begin_by w (Here to)) way) in
            let first = head_spelled t flow setting running levels around made from standing (Emits instr place) (Does stmt ∷ []) to there in
            let rest = tail_spelled t flow setting running levels around made from standing (Emits instr place) (Does stmt ∷ []) to there in
            let more = fills t flow setting running levels around made from standing (Emits instr place) there.inside there.sound in
            let next : Made = mid t flow setting running levels around made from standing (Emits instr place) in
            let at = mid_stood levels around made from standing (Emits instr place) there.inside there.sound in
            let here = subst (λ (w : Way). IsSpelled flow next made.points (one_at_end next made.points standing w)) way rest in
            record {
              to = made.points;
              edge = one_at t flow setting running levels around (with_point standing made) from made.points instr place first;
              goes = does around good next made.points stmt to (ap (λ (stood : Stood). way_by t around stood (t.clause stmt)) at ∙ way) (subst (λ (stood : Stood). NothingLeft around stood around.loop) (sym at) nothing) here
                  now [] tasks slots base (kept_more next.registers more kept) cont;
            }

    pub one_alone : (now later : List (Stop t)) (made : Made) (from : ℕ) → way_by t around (stands_at made from) (t.clause stmt) ≡ GoesOn → NothingLeft around (stands_at made from) around.loop →
        Kept around (later ++ now) tasks base made slots → Goes around (later ++ now) [] tasks slots to →
        IsSpelled flow made from (along_at t around (go levels t around) made from (stands_at made from) (Does stmt ∷ []) to) → Goes around now later (Execute stmt ∷ tasks) slots from
    one_alone now later made from way nothing kept cont spelled =
        does around good made from stmt to way nothing (subst (λ (w : Way). IsSpelled flow made from (one_at_end made from (stands_at made from) w)) way spelled) now later tasks slots base kept cont
