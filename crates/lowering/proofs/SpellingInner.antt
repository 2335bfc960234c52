-- What is placed for statement expressions: a block whose last value is kept.
use Rattle.std.proofs.Common.{◌≡◌, ◌<◌, ◌≤◌, ℕ, ◌+◌, arith, List, [], ◌∷◌, ◌++◌, map, length, Bool, true, false, not, refl, sym, ap, ◌∙◌, subst, append_assoc, Option, None, Some, option_map, nat_eq, if◌then◌else◌}
use Rattle.cbase.specs.declared.place.Place.{Place}
use Rattle.std.proofs.lemmas.Bool.{false≢true, ne_eqb, and_parts}
use Rattle.c_machine.specs.declared.kind.Kind.{Kind}
use Rattle.c_machine.specs.declared.kind.Kind.TheVariants.{Integer, Pointer, Array, Struct, Void}
use Rattle.c_machine.specs.declared.object.Object.{Object}
use Rattle.c_machine.specs.declared.task.Task.TheVariants.{ValueOf, Push, Keep, Execute, OpenBlock, MakeObject, LeaveBlock}
use Rattle.c_machine.specs.Text.{Form, Inner, Clause, Eval, Text}
use Rattle.c_machine.specs.Blocks.{are_empty, last_tasks, valued, in_inner_block}
use Rattle.c_machine.specs.Expressions.{value_kind, value_parts}
use Rattle.c_machine.specs.State.{TaskIn}
use Rattle.c_machine.specs.Statements.{loop_left, one_more, body_left}
use Rattle.flow.specs.declared.flow_graph.Flow.{Flow}
use Rattle.flow.specs.declared.flow_graph.Standing.{Standing as Stood}
use Rattle.flow.specs.declared.instruction.Instr.TheVariants as i
use Rattle.flow.specs.Valid.{IsFlow}
use Rattle.simulation.specs.Lowered.{Stop, Lowered, Values, WhereStands, IsKnown, Keeps, Leaves}
use Rattle.simulation.specs.Names.{Name, names_of, variables_of, are_new}
use Rattle.simulation.specs.Running.{Setting, Running}
use Rattle.simulation.specs.Slots.{Slot, InRegister, KnownAs, is_free, is_whole, are_in}
use Rattle.simulation.proofs.Wider.{Within, wider}
use Rattle.lowering.specs.Kinds.{width, is_void, fits}
use Rattle.lowering.specs.LetGo.{AsValue, AsWork, left_by_value, left_of}
use Rattle.lowering.specs.Moves.{Move, Emits, Evaluates, Works, Does, run_of}
use Rattle.lowering.specs.Table.{ending, last_of, kind_of_last, is_made}
use Rattle.lowering.specs.Placing.{Made, Around, within, named_from, objects_in, with_objects, with_registers, with_point, stands_at, registers_of, after, enters, leaves, New, begins, along_at, along, last_moves, valued_moves, left_at_end, place_inner, place_value_form, go}
use Rattle.lowering.proofs.BlocksMade.{blocks_made}
use Rattle.lowering.proofs.Doing.{IsKept, DoesIs}
use Rattle.lowering.proofs.DoingBlocks.{scope_goes}
use Rattle.lowering.proofs.Jumping.{AreJumps, jumps_later, jumps_wider, in_block_jumps, in_rest, none_within}
use Rattle.lowering.proofs.KindFacts.{IsAsPlain, fitted, not_holds, let_go}
use Rattle.lowering.proofs.Modes.{IsAround, Ready, IsAt}
use Rattle.lowering.proofs.Placed.{go_placing, scope_placing}
use Rattle.lowering.proofs.Placings.{IsSpelled, spelled_registers}
use Rattle.lowering.proofs.Ready.{AreBelow, below_more, free_below, IsReady, IsTarget, mid, head_spelled, tail_spelled, one_at}
use Rattle.lowering.proofs.Statements.{free_run}
use Rattle.lowering.proofs.Stood.{stood_in}

void_kind : (kind : Kind) → is_void kind ≡ true → kind ≡ Void
void_kind (Integer of) is = absurd (false≢true is)
void_kind (Pointer item) is = absurd (false≢true is)
void_kind (Array item) is = absurd (false≢true is)
void_kind (Struct size) is = absurd (false≢true is)
void_kind Void is = refl

-- what is made as a value is asked for as one
valued_too : (made asked : Kind) → fits made asked ≡ true → is_void asked ≡ false → is_void made ≡ false
valued_too (Integer of) asked fit valued = refl
valued_too (Pointer item) asked fit valued = refl
valued_too (Array item) asked fit valued = refl
valued_too (Struct size) asked fit valued = refl
valued_too Void asked fit valued = absurd (false≢true (sym valued ∙ fit))

module _ (t : Text) (spare count into : ℕ) where
  -- what stands behind the statements: the last value, which is kept, or none
  abbrev pub end_moves : Option t.Expr → Place → List (Move t)
  end_moves None place = []
  end_moves (Some expr) place = (if is_void (value_kind t expr) then Works expr spare else Evaluates expr spare into) ∷ Emits (i.Finish (run_of spare count)) place ∷ []

  abbrev pub end_tasks : Option t.Expr → Place → List (TaskIn t)
  end_tasks None place = Push 0 ∷ []
  end_tasks (Some expr) place = ValueOf expr ∷ Keep place ∷ []

  -- statements, and then the end
  pub record IsSplit (moves : List (Move t)) (tasks : List (TaskIn t)) (last : Option t.Expr) : Type 0 where
    pub front : List t.Stmt
    pub place : Place
    pub moves_are : moves ≡ map Does front ++ end_moves last place
    pub tasks_are : tasks ≡ map Execute front ++ end_tasks last place

  split_last : (stmt : t.Stmt) (clause : Clause t.Expr t.Stmt t.Init) → IsSplit (last_moves t spare count into stmt clause) (last_tasks t stmt clause) (ending t clause)
  split_last stmt (Eval (Some expr)) = record { front = []; place = t.last stmt; moves_are = refl; tasks_are = refl }
  split_last stmt (Eval None) = record { front = stmt ∷ []; place = t.last stmt; moves_are = refl; tasks_are = refl }
  split_last stmt clause = record { front = stmt ∷ []; place = t.last stmt; moves_are = refl; tasks_are = refl }

  split_where : (stmt : t.Stmt) (empty : Bool) (moves : List (Move t)) (tasks : List (TaskIn t)) (last : Option t.Expr) → IsSplit moves tasks last →
      IsSplit (if empty then last_moves t spare count into stmt (t.clause stmt) else Does stmt ∷ moves) (if empty then last_tasks t stmt (t.clause stmt) else Execute stmt ∷ tasks) (if empty then ending t (t.clause stmt) else last)
  split_where stmt true moves tasks last split = split_last stmt (t.clause stmt)
  split_where stmt false moves tasks last split = record {
    front = stmt ∷ split.front;
    place = split.place;
    moves_are = ap (λ (list : List (Move t)). Does stmt ∷ list) split.moves_are;
    tasks_are = ap (λ (list : List (TaskIn t)). Execute stmt ∷ list) split.tasks_are;
  }

  pub split_body : (close : Place) (body : List t.Stmt) → IsSplit (valued_moves t spare count into body) (valued t body) (last_of t body)
  split_body close [] = record { front = []; place = close; moves_are = refl; tasks_are = refl }
  split_body close (stmt ∷ body) = split_where stmt (are_empty t body) (valued_moves t spare count into body) (valued t body) (last_of t body) (split_body close body)

module _ (t : Text) (flow : Flow) (setting : Setting) (running : Running) where
  abbrev Goes : Around → List (Stop t) → List (Stop t) → List (TaskIn t) → List Slot → ℕ → Type 0
  Goes around now later tasks slots point = Lowered t flow setting running now later around.scopes tasks slots point

  abbrev Kept : Around → List (Stop t) → List (TaskIn t) → ℕ → ℕ → List Slot → Type 0
  Kept around stops tasks base count slots = IsKept t flow setting running around stops (loop_left tasks) (body_left tasks) base count slots

  -- behind the statements of a statement expression an edge stands
  end_new : (around : Around) (standing : Stood) (spare count into : ℕ) (last : Option t.Expr) (place close : Place) (names : List Name) (to : ℕ) →
      begins t around standing (end_moves t spare count into last place ++ leaves names close ∷ []) to ≡ New
  end_new around standing spare count into None place close names to = refl
  end_new around standing spare count into (Some expr) place close names to = by_kind (is_void (value_kind t expr))
    where
      by_kind : (void : Bool) → begins t around standing ((if void then Works expr spare else Evaluates expr spare into) ∷ (Emits (i.Finish (run_of spare count)) place ∷ leaves names close ∷ [])) to ≡ New
      by_kind true = refl
      by_kind false = refl

  -- the last edges: registers of the last full expression go, and the block is left
  ends_at : (levels : ℕ) (around : Around) (names : List Name) (spare count to : ℕ) (place close : Place) (made : Made) (from : ℕ) (standing : Stood) (slot : Slot) →
      IsSpelled flow made from (along_at t (within names around) (go levels t (within names around)) made from standing (Emits (i.Finish (run_of spare count)) place ∷ leaves names close ∷ []) to) →
      (now later : List (Stop t)) (tasks : List (TaskIn t)) (slots : List Slot) → is_whole (slot ∷ slots) ≡ true → AreBelow spare (slot ∷ slots) → are_new names (names_of around.scopes) ≡ true →
      Goes around (later ++ now) [] tasks (slot ∷ slots) to → Goes (within names around) now later (Keep place ∷ LeaveBlock close ∷ tasks) (slot ∷ slots) from
  ends_at levels around names spare count to place close made from standing slot spelled now later tasks slots whole below new cont =
      let inside : Around = within names around in
      let finish : Move t = Emits (i.Finish (run_of spare count)) place in
      let standing' : Stood = after t finish standing in
      let leave : Move t = leaves names close in
      let first = head_spelled t flow setting running levels inside made from standing' finish (leave ∷ []) to spelled in
      let rest = tail_spelled t flow setting running levels inside made from standing' finish (leave ∷ []) to spelled in
      Keeps place (run_of spare count) made.points (one_at t flow setting running levels inside (with_point standing' made) from made.points (i.Finish (run_of spare count)) place first)
      (free_run spare count (slot ∷ slots) below) whole
      (Leaves names to close whole new (one_at t flow setting running levels inside (mid t flow setting running levels inside made from standing' finish) made.points to (i.Leave (variables_of names)) close rest) cont)

  -- A statement expression, given what is made of its last value.
  module _ (levels : ℕ) (at : IsAt t flow setting running levels) (does : DoesIs t flow setting running levels) (valid : IsFlow flow) (around : Around) (good : IsAround setting around) (made : Made) (from : ℕ) (expr : t.Expr) (body : List t.Stmt) (close : Place)
      (into to : ℕ) (now later : List (Stop t)) (tasks : List (TaskIn t)) (slots : List Slot) (base : ℕ) where
    abbrev count : ℕ
    count = left_at_end t (last_of t body)

    abbrev named_here : List Name
    named_here = named_from (length made.variables) (objects_in t body)

    abbrev inside : Around
    inside = within (named_from (length made.variables) (objects_in t body)) around

    abbrev entered : Stood
    entered = after t (enters (named_from (length made.variables) (objects_in t body)) (t.place expr)) (stands_at made from)

    -- what stands behind the statements
    abbrev EndsSo : Option t.Expr → Place → Type 0
    EndsSo last place =
        IsAround setting inside → are_new named_here (names_of around.scopes) ≡ true → (now' later' : List (Stop t)) → Within t (later ++ now) now' → (made' : Made) (from' : ℕ) →
        made.registers + count ≤ made'.registers → AreJumps t flow setting running inside (later' ++ now') (option_map one_more (loop_left tasks)) (body_left tasks) base slots →
        IsSpelled flow made' from' (along_at t inside (go levels t inside) made' from' entered (end_moves t made.registers count into last place ++ leaves named_here close ∷ []) to) →
        Goes inside now' later' (end_tasks t made.registers count into last place ++ LeaveBlock close ∷ tasks) slots from'

    -- neither a loop nor a body is among the end
    loop_there : (last : Option t.Expr) (place : Place) → loop_left (end_tasks t made.registers count into last place ++ LeaveBlock close ∷ tasks) ≡ option_map one_more (loop_left tasks)
    loop_there None place = refl
    loop_there (Some last) place = refl

    body_there : (last : Option t.Expr) (place : Place) → body_left (end_tasks t made.registers count into last place ++ LeaveBlock close ∷ tasks) ≡ body_left tasks
    body_there None place = refl
    body_there (Some last) place = refl

    scope_of : t.form expr ≡ Inner body close → IsSpelled flow made from (place_inner t (go levels t) around made from expr body close into to) → Kept around (later ++ now) tasks base made.registers slots →
        ((place : Place) → EndsSo (last_of t body) place) → Goes around now later (ValueOf expr ∷ tasks) slots from
    scope_of is spelled kept end =
        let split = split_body t made.registers count into close body in
        let objects : List Object = objects_in t body in
        let last : Option t.Expr = last_of t body in
        let leave : List (Move t) = leaves named_here close ∷ [] in
        let close_task : List (TaskIn t) = LeaveBlock close ∷ [] in
        let made1 : Made = with_registers count made in
        let ending : List (Move t) = end_moves t made.registers count into last split.place ++ leave in
        let tasks' : List (TaskIn t) = end_tasks t made.registers count into last split.place ++ LeaveBlock close ∷ tasks in
        let base' : ℕ = made.registers + count in
        let h = kept.own in
        let spelled1 = subst (λ (list : List (Move t)). IsSpelled flow made1 from
        (along t inside (go levels t inside) (with_objects false objects made1) from (enters named_here (t.place expr) ∷ list) to))
        (ap (λ (list : List (Move t)). list ++ leave) split.moves_are ∙ append_assoc (map Does split.front) (end_moves t made.registers count into last split.place) leave)
        (spelled_registers count spelled) in
        let placing = scope_placing t (go levels t) (go_placing levels t) around made1 from objects (λ names. enters names (t.place expr) ∷ (map Does split.front ++ ending)) to spelled1.inside spelled1.sound in
        let kept1 : Kept around (later ++ now) tasks base' made1.registers slots =
        record {
          whole = kept.whole;
          below = below_more made.registers (made.registers + count) slots (omega arith) kept.below;
          own = omega arith;
          jumps = jumps_later t flow setting running around (later ++ now) (loop_left tasks) (body_left tasks) base base' slots (omega arith) kept.jumps;
        } in
        let same : in_inner_block t body close ++ tasks ≡ OpenBlock ∷ (map MakeObject objects ++ (map Execute split.front ++ tasks')) =
        ap (λ (list : List (TaskIn t)). OpenBlock ∷ list)
        (ap (λ (list : List (TaskIn t)). (list ++ (valued t body ++ close_task)) ++ tasks) (blocks_made t body)
        ∙ (append_assoc (map MakeObject objects) (valued t body ++ close_task) tasks
        ∙ ap (λ (list : List (TaskIn t)). map MakeObject objects ++ list)
        (append_assoc (valued t body) close_task tasks
        ∙ (ap (λ (list : List (TaskIn t)). list ++ LeaveBlock close ∷ tasks) split.tasks_are
        ∙ append_assoc (map Execute split.front) (end_tasks t made.registers count into last split.place) (LeaveBlock close ∷ tasks))))) in
        Values expr
        (subst (λ (f : Form t.Expr t.Stmt). Goes around now later (value_parts t expr f ++ tasks) slots from) (sym is)
        (subst (λ (list : List (TaskIn t)). Goes around now later list slots from) (sym same)
        (WhereStands (λ standing.
        scope_goes t flow setting running levels does valid around good made1 from objects (t.place expr) split.front ending to spelled1 (end_new inside entered made.registers count into last split.place close named_here to)
        now later tasks' slots base' (loop_left tasks) (body_left tasks) standing.variables
        (subst (λ (stood : Stood). are_in (registers_of stood) slots ≡ true) (sym (stood_in from spelled1 placing spelled1.inside)) standing.registers) kept1
        (loop_there last split.place) (body_there last split.place)
        (λ good' new now' later' more made' from' kept' here spelled'. end split.place good' new now' later' more made' from' kept'.own
        (jumps_wider t flow setting running inside (later ++ now) (later' ++ now') (option_map one_more (loop_left tasks)) (body_left tasks) base slots (λ stop there. in_rest t stop later' now' (more stop there))
        (in_block_jumps t flow setting running around named_here (later ++ now) (loop_left tasks) (body_left tasks) base slots new kept.jumps)) spelled')))))

    -- behind the block the run goes on, in whatever context
    goes_on : (slot : Slot) → Goes around (later ++ now) [] tasks (slot ∷ slots) to → (now' later' : List (Stop t)) → Within t (later ++ now) now' → Goes around (later' ++ now') [] tasks (slot ∷ slots) to
    goes_on slot cont now' later' more = wider t flow setting running cont (later' ++ now') [] (λ stop there. in_rest t stop later' now' (more stop there)) (none_within t [])

    -- what is asked of the last value
    ready_last : (made' : Made) (now' later' : List (Stop t)) (left : ℕ) → left ≤ count → made.registers + count ≤ made'.registers → Kept around (later ++ now) tasks base made.registers slots →
        AreJumps t flow setting running inside (later' ++ now') (option_map one_more (loop_left tasks)) (body_left tasks) base slots →
        IsReady t flow setting running inside (later' ++ now') (option_map one_more (loop_left tasks)) (body_left tasks) base made'.registers slots made.registers left
    ready_last made' now' later' left less room kept jumps =
        record {
          whole = kept.whole;
          below = below_more made.registers made'.registers slots (omega arith) kept.below;
          spares = λ register above below. free_below made.registers register slots above kept.below;
          room = omega arith;
          own = kept.own;
          jumps = jumps;
        }

    -- a last value that is used
    value_last : (last : t.Expr) (place : Place) → last_of t body ≡ Some last → is_void (value_kind t last) ≡ false → into < made.registers → is_free into slots ≡ true → base ≤ into → Kept around (later ++ now) tasks base made.registers slots →
        ((plain : Bool) → IsAsPlain (value_kind t last) plain → Goes around (later ++ now) [] tasks (InRegister into (width (value_kind t last)) plain ∷ slots) to) → EndsSo (Some last) place
    value_last last place is valued within_it free own kept cont good' new now' later' more made' from' room jumps spelled =
        let spare : ℕ = made.registers in
        let move : Move t = Evaluates last spare into in
        let finish : List (Move t) = Emits (i.Finish (run_of spare count)) place ∷ leaves named_here close ∷ [] in
        let standing : Stood = after t move entered in
        let spelled1 = subst (λ (void : Bool). IsSpelled flow made' from' (along_at t inside (go levels t inside) made' from' entered ((if void then Works last spare else Evaluates last spare into) ∷ finish) to)) valued spelled in
        let first = head_spelled t flow setting running levels inside made' from' standing move finish to spelled1 in
        let rest = tail_spelled t flow setting running levels inside made' from' standing move finish to spelled1 in
        let so_many : left_of t (AsValue false) last ≡ count = sym (ap (left_at_end t) is ∙ ap (λ (void : Bool). if void then left_of t AsWork last else left_of t (AsValue false) last) valued) in
        let differ : nat_eq into spare ≡ false = ne_eqb into spare (λ same. absurd (omega arith)) in
        let less : left_of t (AsValue (nat_eq into spare)) last ≤ count = subst (λ (b : Bool). left_of t (AsValue b) last ≤ count) (sym differ) (omega (arith, so_many)) in
        at.value inside good' (with_point standing made') from' last spare into made'.points first now' later' (Keep place ∷ LeaveBlock close ∷ tasks) slots base
        (ready_last made' now' later' (left_of t (AsValue (nat_eq into spare)) last) less room kept jumps)
        (record { within = omega arith; free = free; apart = λ register above below same. absurd (omega arith); own = own })
        (λ plain number. ends_at levels around named_here spare count to place close (mid t flow setting running levels inside made' from' standing move) made'.points standing (InRegister into (width (value_kind t last)) plain) rest
        (later' ++ now') [] tasks slots kept.whole (within_it, kept.below) new (goes_on (InRegister into (width (value_kind t last)) plain) (cont plain number) now' later' more))

    -- one that is not used: it is a `void`
    work_last : (last : t.Expr) (place : Place) → last_of t body ≡ Some last → is_void (value_kind t last) ≡ true → Kept around (later ++ now) tasks base made.registers slots →
        Goes around (later ++ now) [] tasks (KnownAs 0 ∷ slots) to → EndsSo (Some last) place
    work_last last place is void kept cont good' new now' later' more made' from' room jumps spelled =
        let spare : ℕ = made.registers in
        let move : Move t = Works last spare in
        let finish : List (Move t) = Emits (i.Finish (run_of spare count)) place ∷ leaves named_here close ∷ [] in
        let standing : Stood = after t move entered in
        let spelled1 = subst (λ (b : Bool). IsSpelled flow made' from' (along_at t inside (go levels t inside) made' from' entered ((if b then Works last spare else Evaluates last spare into) ∷ finish) to)) void spelled in
        let first = head_spelled t flow setting running levels inside made' from' standing move finish to spelled1 in
        let rest = tail_spelled t flow setting running levels inside made' from' standing move finish to spelled1 in
        let so_many : left_of t AsWork last ≡ count = sym (ap (left_at_end t) is ∙ ap (λ (b : Bool). if b then left_of t AsWork last else left_of t (AsValue false) last) void) in
        at.work inside good' (with_point standing made') from' last spare made'.points first now' later' (Keep place ∷ LeaveBlock close ∷ tasks) slots base
        (ready_last made' now' later' (left_of t AsWork last) (omega (arith, so_many)) room kept jumps)
        (subst (λ (kind : Kind). Goes inside (later' ++ now') [] (Keep place ∷ LeaveBlock close ∷ tasks) (let_go kind ∷ slots) made'.points) (sym (void_kind (value_kind t last) void))
        (ends_at levels around named_here spare count to place close (mid t flow setting running levels inside made' from' standing move) made'.points standing (KnownAs 0) rest (later' ++ now') [] tasks slots kept.whole kept.below new
        (goes_on (KnownAs 0) cont now' later' more)))

    -- none
    none_last : (place : Place) → Kept around (later ++ now) tasks base made.registers slots → Goes around (later ++ now) [] tasks (KnownAs 0 ∷ slots) to → EndsSo None place
    none_last place kept cont good' new now' later' more made' from' room jumps spelled =
        IsKnown 0 (Leaves named_here to close kept.whole new (one_at t flow setting running levels inside made' from' to (i.Leave (variables_of named_here)) close spelled) (goes_on (KnownAs 0) cont now' later' more))

    value_end : (last : Option t.Expr) (place : Place) (kind : Kind) → last_of t body ≡ last → fits (kind_of_last t last) kind ≡ true → is_void kind ≡ false → into < made.registers → is_free into slots ≡ true → base ≤ into →
        Kept around (later ++ now) tasks base made.registers slots → ((plain : Bool) → IsAsPlain kind plain → Goes around (later ++ now) [] tasks (InRegister into (width kind) plain ∷ slots) to) → EndsSo last place
    value_end None place kind is fit valued within_it free own kept cont = absurd (false≢true (sym valued ∙ fit))
    value_end (Some last) place kind is fit valued within_it free own kept cont =
        let gives = fitted (value_kind t last) kind fit valued in
        value_last last place is (valued_too (value_kind t last) kind fit valued) within_it free own kept
        (λ plain number. subst (λ (n : ℕ). Goes around (later ++ now) [] tasks (InRegister into n plain ∷ slots) to) (sym gives.0) (cont plain (λ asked. number (gives.1 asked))))

    work_end : (last : Option t.Expr) (place : Place) → last_of t body ≡ last → is_void (kind_of_last t last) ≡ true → Kept around (later ++ now) tasks base made.registers slots → Goes around (later ++ now) [] tasks (KnownAs 0 ∷ slots) to →
        EndsSo last place
    work_end None place is void kept cont = none_last place kept cont
    work_end (Some last) place is void kept cont = work_last last place is void kept cont

  kept_of : (around : Around) (now later : List (Stop t)) (tasks : List (TaskIn t)) (slots : List Slot) (base count spare left : ℕ) → Ready t flow setting running around now later tasks base count slots spare left → Kept around (later ++ now) tasks base count slots
  kept_of around now later tasks slots base count spare left ready =
      let h = ready.room in
      let k = ready.own in
      record { whole = ready.whole; below = ready.below; own = omega arith; jumps = ready.jumps }

  -- a statement expression whose value is used
  pub inner_form : (levels : ℕ) → IsAt t flow setting running levels → DoesIs t flow setting running levels → IsFlow flow → (body : List t.Stmt) (close : Place) (around : Around) → IsAround setting around → (made : Made) (from : ℕ) (expr : t.Expr) (spare into to : ℕ) →
      t.form expr ≡ Inner body close → is_made t expr (Inner body close) ≡ true → IsSpelled flow made from (place_value_form t (go levels t) around made from expr spare into to (Inner body close)) →
      (now later : List (Stop t)) (tasks : List (TaskIn t)) (slots : List Slot) (base : ℕ) →
      Ready t flow setting running around now later tasks base made.registers slots spare (left_by_value t (left_of t) expr (nat_eq into spare) (Inner body close)) →
      IsTarget made.registers slots base spare (left_by_value t (left_of t) expr (nat_eq into spare) (Inner body close)) into →
      ((plain : Bool) → IsAsPlain (value_kind t expr) plain → Goes around (later ++ now) [] tasks (InRegister into (width (value_kind t expr)) plain ∷ slots) to) → Goes around now later (ValueOf expr ∷ tasks) slots from
  inner_form levels at does valid body close around good made from expr spare into to is shown spelled now later tasks slots base ready target cont =
      let kind : Kind = value_kind t expr in
      let parts = and_parts (not (is_void kind)) (fits (kind_of_last t (last_of t body)) kind) shown in
      let kept = kept_of around now later tasks slots base made.registers spare 0 ready in
      scope_of levels at does valid around good made from expr body close into to now later tasks slots base is spelled kept
      (λ place. value_end levels at does valid around good made from expr body close into to now later tasks slots base (last_of t body) place kind refl parts.1 (not_holds (is_void kind) parts.0) target.within target.free target.own kept cont)

  -- one that has no value
  pub inner_work : (levels : ℕ) → IsAt t flow setting running levels → DoesIs t flow setting running levels → IsFlow flow → (body : List t.Stmt) (close : Place) (around : Around) → IsAround setting around → (made : Made) (from : ℕ) (expr : t.Expr) (spare to : ℕ) →
      t.form expr ≡ Inner body close → is_void (kind_of_last t (last_of t body)) ≡ true → IsSpelled flow made from (place_inner t (go levels t) around made from expr body close spare to) →
      (now later : List (Stop t)) (tasks : List (TaskIn t)) (slots : List Slot) (base left : ℕ) → Ready t flow setting running around now later tasks base made.registers slots spare left →
      Goes around (later ++ now) [] tasks (KnownAs 0 ∷ slots) to → Goes around now later (ValueOf expr ∷ tasks) slots from
  inner_work levels at does valid body close around good made from expr spare to is void spelled now later tasks slots base left ready cont =
      let kept = kept_of around now later tasks slots base made.registers spare left ready in
      scope_of levels at does valid around good made from expr body close spare to now later tasks slots base is spelled kept
      (λ place. work_end levels at does valid around good made from expr body close spare to now later tasks slots base (last_of t body) place refl void kept cont)
