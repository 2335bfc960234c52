-- Statements and initialisers of a level more.
use Rattle.std.proofs.Common.{◌≡◌, ◌≤◌, ℕ, zero, suc, List, [], ◌∷◌, ◌++◌, length, max, Bool, true, false, refl, sym, ap, subst, arith, Option, None, Some, if◌then◌else◌}
use Rattle.std.proofs.Math.Nat.{le-max_left, le-max_right}
use Rattle.std.specs.List.{list_all}
use Rattle.std.proofs.lemmas.Bool.{false≢true}
use Rattle.cbase.specs.declared.place.Place.{Place}
use Rattle.c_machine.specs.State.{TaskIn}
use Rattle.c_machine.specs.Statements.{loop_left, body_left}
use Rattle.c_machine.specs.Text.{Clause, Declare, Eval, Block, If, While, Do, For, Break, Continue, Return, Text}
use Rattle.c_machine.specs.declared.task.Task.TheVariants.{Execute}
use Rattle.flow.specs.declared.flow_graph.Flow.{Flow}
use Rattle.flow.specs.declared.flow_graph.Standing.{Standing as Stood}
use Rattle.flow.specs.Standing.{stands_at as flow_stands_at}
use Rattle.flow.specs.Valid.{IsFlow}
use Rattle.simulation.specs.Lowered.{Stop, WhereStands}
use Rattle.simulation.specs.Names.{Name, names_of}
use Rattle.simulation.specs.Running.{Setting, Running}
use Rattle.simulation.specs.Slots.{Slot, are_in}
use Rattle.simulation.specs.Standing.{are_named}
use Rattle.lowering.specs.Moves.{Does}
use Rattle.lowering.specs.Placing.{Made, Around, with_head, with_objects, failed, behind_widths, stands_at, after, registers_of, named_from, objects_of, within, enters, does_nothing, idle_where, Way, Idle, Leads, Goes as GoesOn, way_by, go, passes, is_break, is_declaration, is_at_head, place_do, place_for, place_statement}
use Rattle.lowering.proofs.Modes.{IsAround, IsAt}
use Rattle.lowering.proofs.Placed.{go_placing, do_placing, for_placing}
use Rattle.lowering.proofs.Placings.{head_placing, objects_placing, failed_placing, IsSpelled, spelled_more}
use Rattle.lowering.proofs.Stood.{stood_in, under_widths}
use Rattle.lowering.proofs.Doing.{NothingLeft, Goes, IsKept, DoesIs, ClearsIs, InitialisesIs, kept_more}
use Rattle.lowering.proofs.DoingBranches.{eval_form, if_form, while_form, do_idle_form, do_break_form, do_form}
use Rattle.lowering.proofs.DoingFor.{for_form}
use Rattle.lowering.proofs.DoingBlocks.{spelled_made, block_form}
use Rattle.lowering.proofs.DoingJumps.{break_goes_on, continue_goes_on, return_form}
use Rattle.lowering.proofs.DoingDeclarations.{clears_form, initialises_form, declare_form}

abbrev makes_edges : Way → Bool
makes_edges Idle = false
makes_edges (Leads to) = false
makes_edges GoesOn = true

not_idle : (idle : Bool) → idle_where idle ≡ GoesOn → idle ≡ false
not_idle true is = absurd (false≢true (ap makes_edges is))
not_idle false is = refl

module _ (t : Text) (flow : Flow) (setting : Setting) (running : Running) (valid : IsFlow flow) where
  abbrev Runs : Around → List (Stop t) → List (Stop t) → List (TaskIn t) → List Slot → ℕ → Type 0
  Runs around now later tasks slots point = Goes t flow setting running around now later tasks slots point

  abbrev Kept : Around → List (Stop t) → List (TaskIn t) → ℕ → ℕ → List Slot → Type 0
  Kept around stops tasks base count slots = IsKept t flow setting running around stops (loop_left tasks) (body_left tasks) base count slots

  -- what is promised of all that is placed within so many levels
  pub record AllAt (levels : ℕ) : Type 0 where
    pub at : IsAt t flow setting running levels
    pub does : DoesIs t flow setting running levels
    pub clears : ClearsIs t flow setting running levels
    pub initialises : InitialisesIs t flow setting running levels

  module _ (levels : ℕ) (all : AllAt levels) (around : Around) (good : IsAround setting around) (made : Made) (from : ℕ) (stmt : t.Stmt) (to : ℕ) (now later : List (Stop t)) (tasks : List (TaskIn t)) (slots : List Slot) (base : ℕ)
      (nothing : NothingLeft around (stands_at made from) around.loop) (kept : Kept around (later ++ now) tasks base made.registers slots) (cont : Runs around (later ++ now) [] tasks slots to)
      (stand : are_in (registers_of (stands_at made from)) slots ≡ true) (named : are_named (flow_stands_at flow from).variables (names_of around.scopes) ≡ true) where
    do_by : (body : t.Stmt) (test : t.Expr) (close : Place) → t.clause stmt ≡ Do body test close → (declares passes' breaks : Bool) → is_declaration t (t.clause body) ≡ declares → passes t (t.clause body) ≡ passes' → is_break t (t.clause body) ≡ breaks →
        IsSpelled flow made from (place_do t (go levels t) around (if declares then failed (with_head from made) else with_head from made) from body test close to (stands_at made from) passes') → Runs around now later (Execute stmt ∷ tasks) slots from
    do_by body test close is true passes' breaks declares' passes'' breaks' spelled =
        absurd (false≢true ((do_placing t (go levels t) (go_placing levels t) around (failed (with_head from made)) from body test close to (stands_at made from) passes' spelled.inside
        (failed_placing (with_head from made) from (head_placing from made from spelled.sound).sound).sound).graph spelled.graph))
    do_by body test close is false true breaks declares' passes'' breaks' spelled =
        do_idle_form t flow setting running levels all.at all.does around good (with_head from made) from stmt body test close to (stands_at made from) is passes''
        (spelled_more spelled (head_placing from made made.points spelled.sound) refl) now later tasks slots base
        (kept_more t flow setting running (max made.registers (behind_widths (stands_at made from).registers)) (le-max_left made.registers (behind_widths (stands_at made from).registers)) kept) cont
    do_by body test close is false false true declares' passes'' breaks' spelled =
        do_break_form t flow setting running levels all.at all.does around (with_head from made) from stmt body test close to (stands_at made from) is breaks'
        (spelled_more spelled (head_placing from made made.points spelled.sound) refl) now later tasks slots cont
    do_by body test close is false false false declares' passes'' breaks' spelled =
        do_form t flow setting running levels all.at all.does around good (with_head from made) from stmt body test close to (stands_at made from) is passes'' breaks' declares' refl
        (under_widths (max made.registers (behind_widths (stands_at made from).registers)) (stands_at made from).registers (le-max_right made.registers (behind_widths (stands_at made from).registers)))
        (spelled_more spelled (head_placing from made made.points spelled.sound) refl) now later tasks slots base stand
        (kept_more t flow setting running (max made.registers (behind_widths (stands_at made from).registers)) (le-max_left made.registers (behind_widths (stands_at made from).registers)) kept) cont

    for_by : (first : t.Stmt) (test : Option t.Expr) (semicolon : Place) (next : Option t.Expr) (close : Place) (body : t.Stmt) → t.clause stmt ≡ For first test semicolon next close body → (declares : Bool) → is_declaration t (t.clause body) ≡ declares →
        IsSpelled flow made from (place_for t (go levels t) around (within (named_from (length made.variables) (objects_of t first)) around)
        (with_objects false (objects_of t first) (if declares then failed made else made)) (named_from (length made.variables) (objects_of t first)) from stmt first test semicolon next close body
        (after t (enters (named_from (length made.variables) (objects_of t first)) (t.first stmt)) (stands_at made from)) (stands_at made from) (is_at_head t test next body) to) → Runs around now later (Execute stmt ∷ tasks) slots from
    for_by first test semicolon next close body is true declares spelled =
        let names : List Name = named_from (length made.variables) (objects_of t first) in
        absurd (false≢true ((for_placing t (go levels t) (go_placing levels t) around (within names around) (with_objects false (objects_of t first) (failed made)) names from stmt first test semicolon next close body
        (after t (enters names (t.first stmt)) (stands_at made from)) (stands_at made from) (is_at_head t test next body) to spelled.inside
        (objects_placing (objects_of t first) (failed made) from (failed_placing made from spelled.sound).sound).sound).graph spelled.graph))
    for_by first test semicolon next close body is false declares spelled =
        let names : List Name = named_from (length made.variables) (objects_of t first) in
        let made1 : Made = with_objects false (objects_of t first) made in
        let placing = objects_placing (objects_of t first) made made.points spelled.sound in
        let spelled1 = spelled_more spelled placing refl in
        for_form t flow setting running levels all.at all.does valid around good names made1 from named stmt first test semicolon next close body (stands_at made from) to is declares refl
        (spelled_made made (objects_of t first) spelled1
        (for_placing t (go levels t) (go_placing levels t) around (within names around) made1 names from stmt first test semicolon next close body (after t (enters names (t.first stmt)) (stands_at made from)) (stands_at made from)
        (is_at_head t test next body) to spelled1.inside spelled1.sound))
        (is_at_head t test next body) refl spelled1 now later tasks slots base stand kept cont

    by_clause : (clause : Clause t.Expr t.Stmt t.Init) → t.clause stmt ≡ clause → way_by t around (stands_at made from) clause ≡ GoesOn → IsSpelled flow made from (place_statement t (go levels t) around made from stmt to clause) →
        Runs around now later (Execute stmt ∷ tasks) slots from
    by_clause (Declare names) is way spelled =
        declare_form t flow setting running levels all.clears all.initialises around good made from stmt names to is (not_idle (list_all (does_nothing t) names) way) spelled now later tasks slots base kept cont
    by_clause (Eval None) is way spelled = absurd (false≢true (ap makes_edges way))
    by_clause (Eval (Some expr)) is way spelled = eval_form t flow setting running levels all.at all.does around good made from stmt expr to is spelled now later tasks slots base kept cont
    by_clause (Block body) is way spelled = block_form t flow setting running levels all.does valid around good made from stmt body to is spelled now later tasks slots base named stand kept cont
    by_clause (If test close one other) is way spelled =
        if_form t flow setting running levels all.at all.does around good made from stmt test close one other to is nothing spelled now later tasks slots base stand kept cont
    by_clause (While test close body) is way spelled =
        while_form t flow setting running levels all.at all.does around good (with_head from made) from (stands_at made from) stmt test close body to is refl
        (under_widths (max made.registers (behind_widths (stands_at made from).registers)) (stands_at made from).registers (le-max_right made.registers (behind_widths (stands_at made from).registers)))
        (spelled_more spelled (head_placing from made made.points spelled.sound) refl) now later tasks slots base stand
        (kept_more t flow setting running (max made.registers (behind_widths (stands_at made from).registers)) (le-max_left made.registers (behind_widths (stands_at made from).registers)) kept) cont
    by_clause (Do body test close) is way spelled =
        do_by body test close is (is_declaration t (t.clause body)) (passes t (t.clause body)) (is_break t (t.clause body)) refl refl refl spelled
    by_clause (For first test semicolon next close body) is way spelled = for_by first test semicolon next close body is (is_declaration t (t.clause body)) refl spelled
    by_clause Break is way spelled = break_goes_on t flow setting running levels around made from stmt is way nothing spelled now later tasks slots base stand kept
    by_clause Continue is way spelled = continue_goes_on t flow setting running levels around made from stmt is way nothing spelled now later tasks slots base stand kept
    by_clause (Return expr) is way spelled = return_form t flow setting running levels all.at valid around good made from stmt expr is spelled now later tasks slots base stand kept

  -- a statement of a level more
  pub does_more : (levels : ℕ) → AllAt levels → DoesIs t flow setting running (suc levels)
  does_more levels all around good made from stmt to way nothing spelled now later tasks slots base kept cont =
      let placing = go_placing (suc levels) t around made from (Does stmt) to spelled.inside spelled.sound in
      let here : stands_at made from ≡ flow_stands_at flow from = stood_in from spelled placing spelled.inside in
      WhereStands (λ standing. by_clause levels all around good made from stmt to now later tasks slots base nothing kept cont
      (subst (λ (stood : Stood). are_in (registers_of stood) slots ≡ true) (sym here) standing.registers) standing.variables (t.clause stmt) refl way spelled)

  -- what is asked of expressions of a level more
  abbrev pub ExpressionsMore : Type 0
  ExpressionsMore = (levels : ℕ) → suc levels ≤ t.enough → AllAt levels → IsAt t flow setting running (suc levels)

  pub all_more : ExpressionsMore → (levels : ℕ) → suc levels ≤ t.enough → AllAt levels → AllAt (suc levels)
  all_more more levels less all = record {
    at = more levels less all;
    does = does_more levels all;
    clears = clears_form t flow setting running levels;
    initialises = initialises_form t flow setting running levels all.at all.clears all.initialises;
  }

  -- without a level there is no graph
  pub all_none : AllAt zero
  all_none = record {
    at = record {
      value = λ around good made from expr spare into to spelled now later tasks slots base ready target cont. absurd (false≢true spelled.graph);
      place = λ around good made from expr spare into to spelled now later tasks slots base ready target cont. absurd (false≢true spelled.graph);
      work = λ around good made from expr spare to spelled now later tasks slots base ready cont. absurd (false≢true spelled.graph);
      convert = λ around good made from expr kind spare into to spelled now later tasks slots base ready target cont. absurd (false≢true spelled.graph);
      answer = λ around good made from expr spare into size to spelled. absurd (false≢true spelled.graph);
      answer_truth = λ around good made from expr kind spare into size to spelled. absurd (false≢true spelled.graph);
      ask = λ around good made from expr spare off on to spelled. absurd (false≢true spelled.graph);
      ask_known = λ around good made from expr spare off on to spelled. absurd (false≢true spelled.graph);
      ask_truth = λ around good made from expr kind spare off on to spelled. absurd (false≢true spelled.graph);
    };
    does = λ around good made from stmt to way nothing spelled. absurd (false≢true spelled.graph);
    clears = λ around good made from place object to spelled. absurd (false≢true spelled.graph);
    initialises = λ around good made from place init to empty spelled. absurd (false≢true spelled.graph);
  }

  pub all_at : ExpressionsMore → (levels : ℕ) → levels ≤ t.enough → AllAt levels
  all_at more zero less = all_none
  all_at more (suc levels) less = all_more more levels less (all_at more levels (omega arith))
