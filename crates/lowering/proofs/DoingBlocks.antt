-- Blocks: what is known of their variables from the graph, and their statements in order.
use Rattle.std.proofs.Common.{◌≡◌, ◌≢◌, ℕ, suc, ◌+◌, List, [], ◌∷◌, ◌++◌, map, length, Bool, true, false, not, ◌&&◌, ◌||◌, nat_eq, refl, sym, ap, subst, ◌∙◌, arith, append_assoc, Option, Some, option_map, slice_get}
use Rattle.std.specs.Prelude.{IsTrue, All}
use Rattle.std.specs.List.{list_all, list_any}
use Rattle.std.specs.Option.{option_map_or}
use Rattle.std.proofs.lemmas.Bool.{false≢true, eq-eqb, ne_eqb, and_from, and_parts, not-true, not_from_false, or_left, or_right}
use Rattle.std.proofs.lemmas.List.{length-append}
use Rattle.std.proofs.lemmas.List.Elements.{All-head, All-filter}
use Rattle.cbase.specs.declared.place.Place.{Place}
use Rattle.c_machine.specs.declared.object.Object.{Object}
use Rattle.c_machine.specs.declared.task.Task.TheVariants.{Execute, OpenBlock, MakeObject, LeaveBlock}
use Rattle.c_machine.specs.State.{TaskIn}
use Rattle.c_machine.specs.Statements.{LoopLeft, loop_left, one_more, BodyLeft, body_left}
use Rattle.c_machine.specs.Text.{Block, Text}
use Rattle.flow.specs.declared.flow_graph.Flow.{Flow}
use Rattle.flow.specs.declared.flow_graph.FlowEdge.{FlowEdge}
use Rattle.flow.specs.declared.flow_graph.Standing.{Standing as Stood}
use Rattle.flow.specs.declared.flow_graph.Variable.{Variable}
use Rattle.flow.specs.declared.flow_graph.Width.{Width}
use Rattle.flow.specs.declared.instruction.Instr.{Instr}
use Rattle.flow.specs.declared.instruction.Instr.TheVariants as i
use Rattle.flow.specs.Standing.{stands_at as flow_stands_at}
use Rattle.flow.specs.Valid.{are_distinct, is_local, has_scope, IsFlow}
use Rattle.simulation.specs.Edges.{One}
use Rattle.simulation.specs.Lowered.{Stop, Enters, Leaves}
use Rattle.simulation.specs.Names.{Name, names_of, variables_of, variable_in, is_other, are_new, AreMade}
use Rattle.simulation.specs.Running.{Setting, Running}
use Rattle.simulation.specs.Slots.{Slot, are_in}
use Rattle.simulation.specs.Standing.{are_named}
use Rattle.simulation.proofs.Wider.{Within, wider}
use Rattle.lowering.proofs.Jumping.{in_rest, none_within}
use Rattle.lowering.specs.Moves.{Move, Emits, Does}
use Rattle.lowering.specs.Placing.{Made, Around, with_point, with_objects, stands_at, after, registers_of, named_from, within, objects_in, enters, leaves, Begin, Here, New, begins, Goes as GoesOn, along_from, along_at, along, go}
use Rattle.lowering.proofs.BlocksMade.{blocks_made}
use Rattle.lowering.proofs.Jumping.{in_block_jumps}
use Rattle.lowering.proofs.Modes.{IsAround}
use Rattle.lowering.proofs.Placed.{go_placing}
use Rattle.lowering.proofs.PlacedForms.{along_placing, moves_placing}
use Rattle.lowering.proofs.Placings.{IsPlacing, objects_placing, IsSpelled, spelled_more}
use Rattle.lowering.proofs.Ready.{head_spelled, one_at}
use Rattle.lowering.proofs.Stood.{emptied_none}
use Rattle.lowering.proofs.Statements.{executes, without_rest}
use Rattle.lowering.proofs.Doing.{Goes, IsKept, DoesIs, nothing_within, behind_edge}

-- what the graph promises of the one edge out of a point
pub of_edge : (flow : Flow) (P : FlowEdge → Type 0) (from to : ℕ) (instr : Instr) (place : Place) → All P flow.edges → One flow from instr to place →
    P (record { from = from; to = to; instr = instr; place = place })
of_edge flow P from to instr place all one =
    let edge : FlowEdge = record { from = from; to = to; instr = instr; place = place } in
    All-head P edge [] (subst (λ (edges : List FlowEdge). All P edges) one (All-filter (λ found. nat_eq found.from from) P flow.edges all))

is_true : (b : Bool) → IsTrue b → b ≡ true
is_true b is = is

-- a variable that does not stand is none of those that do
other_than : (variable : ℕ) (variables : List ℕ) (others : List Name) → list_any (nat_eq variable) variables ≡ false → are_named variables others ≡ true → is_other variable others ≡ true
other_than variable variables [] apart are = refl
other_than variable variables (name ∷ others) apart are =
    let parts = and_parts (list_any (nat_eq name.variable) variables) (are_named variables others) are in
    and_from (not (nat_eq name.variable variable)) (is_other variable others)
    (not_from_false (nat_eq name.variable variable) (ne_eqb name.variable variable (λ same. false≢true (sym apart ∙ (ap (λ (n : ℕ). list_any (nat_eq n) variables) (sym same) ∙ parts.0)))))
    (other_than variable variables others apart parts.1)

distinct_from : (first : ℕ) (names : List Name) (name : Name) → list_any (nat_eq first) (variables_of (name ∷ names)) ≡ false → (first ≢ name.variable) × (list_any (nat_eq first) (variables_of names) ≡ false)
distinct_from first names name none = by_test (nat_eq first name.variable) refl none
  where
    by_test : (same : Bool) → nat_eq first name.variable ≡ same → (same || list_any (nat_eq first) (variables_of names)) ≡ false → (first ≢ name.variable) × (list_any (nat_eq first) (variables_of names) ≡ false)
    by_test true same none' = absurd (false≢true (sym none'))
    by_test false same none' = (λ is. false≢true (sym same ∙ eq-eqb first name.variable is), none')

-- the variables of a block that is entered are new
new_by : (flow : Flow) (variables : List ℕ) (names others : List Name) → are_distinct (variables_of names) ≡ true → list_all (λ variable. is_local flow variable && not (list_any (nat_eq variable) variables)) (variables_of names) ≡ true →
    ((variable : ℕ) → list_any (nat_eq variable) variables ≡ false → list_any (nat_eq variable) (variables_of names) ≡ true → is_other variable others ≡ true) → are_new names others ≡ true
new_by flow variables [] others distinct apart each = refl
new_by flow variables (name ∷ names) others distinct apart each =
    let parts = and_parts (not (list_any (nat_eq name.variable) (variables_of names))) (are_distinct (variables_of names)) distinct in
    let here = and_parts (is_local flow name.variable && not (list_any (nat_eq name.variable) variables)) (list_all (λ variable. is_local flow variable && not (list_any (nat_eq variable) variables)) (variables_of names)) apart in
    let alone : list_any (nat_eq name.variable) variables ≡ false = not-true (list_any (nat_eq name.variable) variables) (and_parts (is_local flow name.variable) (not (list_any (nat_eq name.variable) variables)) here.0).1 in
    and_from (is_other name.variable others) (are_new names (name ∷ others))
    (each name.variable alone (or_left (nat_eq name.variable name.variable) (list_any (nat_eq name.variable) (variables_of names)) (eq-eqb name.variable name.variable refl)))
    (new_by flow variables names (name ∷ others) parts.1 here.1
    (λ variable none among. and_from (not (nat_eq name.variable variable)) (is_other variable others)
    (not_from_false (nat_eq name.variable variable)
    (ne_eqb name.variable variable (λ same. false≢true (sym (not-true (list_any (nat_eq name.variable) (variables_of names)) parts.0) ∙ (ap (λ (n : ℕ). list_any (nat_eq n) (variables_of names)) same ∙ among)))))
    (each variable none (or_right (nat_eq variable name.variable) (list_any (nat_eq variable) (variables_of names)) among))))

other_local : (flow : Flow) (variable : ℕ) (variables : List ℕ) (names : List Name) → is_local flow variable ≡ false → list_all (λ v. is_local flow v && not (list_any (nat_eq v) variables)) (variables_of names) ≡ true →
    is_other variable names ≡ true
other_local flow variable variables [] fixed all = refl
other_local flow variable variables (name ∷ names) fixed all =
    let parts = and_parts (is_local flow name.variable && not (list_any (nat_eq name.variable) variables)) (list_all (λ v. is_local flow v && not (list_any (nat_eq v) variables)) (variables_of names)) all in
    and_from (not (nat_eq name.variable variable)) (is_other variable names)
    (not_from_false (nat_eq name.variable variable)
    (ne_eqb name.variable variable (λ same. false≢true (sym fixed ∙ (ap (is_local flow) (sym same) ∙ (and_parts (is_local flow name.variable) (not (list_any (nat_eq name.variable) variables)) parts.0).0)))))
    (other_local flow variable variables names fixed parts.1)

other_more : (variable : ℕ) (one other : List Name) → is_other variable one ≡ true → is_other variable other ≡ true → is_other variable (one ++ other) ≡ true
other_more variable [] other is is' = is'
other_more variable (name ∷ one) other is is' =
    let parts = and_parts (not (nat_eq name.variable variable)) (is_other variable one) is in
    and_from (not (nat_eq name.variable variable)) (is_other variable (one ++ other)) parts.0 (other_more variable one other parts.1 is')

-- what the edge that enters a block tells of its variables
pub enters_new : (flow : Flow) (from to : ℕ) (place : Place) (names others : List Name) → IsFlow flow → One flow from (i.Enter (variables_of names)) to place →
    are_named (flow_stands_at flow from).variables others ≡ true → are_new names others ≡ true
enters_new flow from to place names others valid one stand =
    let scope = is_true (has_scope flow (flow_stands_at flow from) (i.Enter (variables_of names)))
    (of_edge flow (λ edge. IsTrue (has_scope flow (flow_stands_at flow edge.from) edge.instr)) from to (i.Enter (variables_of names)) place valid.scopes one) in
    let parts = and_parts (are_distinct (variables_of names)) (list_all (λ variable. is_local flow variable && not (list_any (nat_eq variable) (flow_stands_at flow from).variables)) (variables_of names)) scope in
    new_by flow (flow_stands_at flow from).variables names others parts.0 parts.1 (λ variable none among. other_than variable (flow_stands_at flow from).variables others none stand)

pub enters_apart : (flow : Flow) (from to variable : ℕ) (place : Place) (names : List Name) → IsFlow flow → One flow from (i.Enter (variables_of names)) to place → is_local flow variable ≡ false → is_other variable names ≡ true
enters_apart flow from to variable place names valid one fixed =
    let scope = is_true (has_scope flow (flow_stands_at flow from) (i.Enter (variables_of names)))
    (of_edge flow (λ edge. IsTrue (has_scope flow (flow_stands_at flow edge.from) edge.instr)) from to (i.Enter (variables_of names)) place valid.scopes one) in
    let parts = and_parts (are_distinct (variables_of names)) (list_all (λ v. is_local flow v && not (list_any (nat_eq v) (flow_stands_at flow from).variables)) (variables_of names)) scope in
    other_local flow variable (flow_stands_at flow from).variables names fixed parts.1

-- the variables of objects stand in the graph in order, behind those that were there
abbrev pub locals : List Object → List Variable
locals objects = map (λ object. record { size = object.bytes; fixed = false }) objects

behind_front : {X : Type 0} (front back : List X) (x : X) → slice_get (front ++ x ∷ back) (length front) ≡ Some x
behind_front [] back x = refl
behind_front (first ∷ front) back x = behind_front front back x

pub names_made : (flow : Flow) (front back : List Variable) (objects : List Object) (first : ℕ) → flow.variables ≡ front ++ (locals objects ++ back) → length front ≡ first → AreMade flow objects (named_from first objects)
names_made flow front back [] first variables count = tt
names_made flow front back (object ∷ objects) first variables count =
    let new : Variable = record { size = object.bytes; fixed = false } in (
      refl,
      ap (λ (found : Option Variable). option_map_or (λ variable. variable.size) found 0)
          (ap (λ (list : List Variable). slice_get list first) variables
          ∙ subst (λ (n : ℕ). slice_get (front ++ new ∷ (locals objects ++ back)) n ≡ Some new) count (behind_front front (locals objects ++ back) new)),
      names_made flow (front ++ new ∷ []) back objects (suc first) (variables ∙ sym (append_assoc front (new ∷ []) (locals objects ++ back)))
          (length-append front (new ∷ []) ∙ (let e : length front + 1 ≡ suc first = omega (arith, count) in e)),
    )

-- the objects of what is spelled behind them
pub spelled_made : {flow : Flow} {placed : Made} {from : ℕ} (made : Made) (objects : List Object) → IsSpelled flow (with_objects false objects made) from placed →
    IsPlacing (with_objects false objects made) from placed → AreMade flow objects (named_from (length made.variables) objects)
spelled_made {flow = flow} made objects spelled placing =
    names_made flow made.variables (placing.variables.0 ++ spelled.variables.0) objects (length made.variables)
    (spelled.variables.1 ∙ (ap (λ (list : List Variable). list ++ spelled.variables.0) placing.variables.1
    ∙ (append_assoc (made.variables ++ locals objects) placing.variables.0 spelled.variables.0 ∙ append_assoc made.variables (locals objects) (placing.variables.0 ++ spelled.variables.0)))) refl

module _ (t : Text) (flow : Flow) (setting : Setting) (running : Running) where
  -- the first of moves is an edge
  pub record FirstEdge (from : ℕ) (instr : Instr) (place : Place) : Type 0 where
    pub to : ℕ
    pub edge : One flow from instr to place

  pub first_edge : (levels : ℕ) (around : Around) (made : Made) (from : ℕ) (standing : Stood) (instr : Instr) (place : Place) (moves : List (Move t)) (to : ℕ) →
      IsSpelled flow made from (along_from t (λ made' point. along_at t around (go levels t around) made' point standing moves to) (go levels t around) made from (Emits instr place) standing GoesOn (begins t around standing moves to)) →
      FirstEdge from instr place
  first_edge levels around made from standing instr place moves to spelled = by_start (begins t around standing moves to) refl spelled
    where
      by_start : (start : Begin) → begins t around standing moves to ≡ start →
          IsSpelled flow made from (along_from t (λ made' point. along_at t around (go levels t around) made' point standing moves to) (go levels t around) made from (Emits instr place) standing GoesOn start) → FirstEdge from instr place
      by_start (Here point) start spelled' =
          let one = go_placing levels t around made from (Emits instr place) point spelled'.inside spelled'.sound in
          let rest = (moves_placing t around (go levels t around) (go_placing levels t around) (go levels t around made from (Emits instr place) point) point standing moves to one.sound).1 point start in
          record { to = point; edge = one_at t flow setting running levels around made from point instr place (without_rest t flow setting running spelled' rest) }
      by_start New start spelled' = record {
        to = made.points;
        edge = one_at t flow setting running levels around (with_point standing made) from made.points instr place (head_spelled t flow setting running levels around made from standing (Emits instr place) moves to spelled');
      }

  pub around_within : (around : Around) (names : List Name) (from to : ℕ) (place : Place) → IsFlow flow → One flow from (i.Enter (variables_of names)) to place →
      ((token variable : ℕ) → variable_in around.statics token ≡ Some variable → is_local flow variable ≡ false) → IsAround setting around → IsAround setting (within names around)
  around_within around names from to place valid one fixed good = record {
    statics = good.statics;
    apart = λ token variable is. other_more variable names (names_of around.scopes) (enters_apart flow from to variable place names valid one (fixed token variable is)) (good.apart token variable is);
  }

  pub kept_within : (around : Around) (names : List Name) (stops : List (Stop t)) (leaving : Option (LoopLeft t.Expr t.Stmt t.Init)) (body : Option (BodyLeft t.Expr t.Stmt t.Init)) (base count : ℕ) (slots : List Slot) →
      are_new names (names_of around.scopes) ≡ true → IsKept t flow setting running around stops leaving body base count slots → IsKept t flow setting running (within names around) stops (option_map one_more leaving) body base count slots
  kept_within around names stops leaving body base count slots new kept =
      record { whole = kept.whole; below = kept.below; own = kept.own; jumps = in_block_jumps t flow setting running around names stops leaving body base slots new kept.jumps }

  -- a block of any objects: statements in order, and behind them moves that begin with an edge of their own
  pub scope_goes : (levels : ℕ) → DoesIs t flow setting running levels → IsFlow flow → (around : Around) → IsAround setting around → (made : Made) (from : ℕ) (objects : List Object) (place : Place) (front : List t.Stmt)
      (ending : List (Move t)) (to : ℕ) →
      IsSpelled flow made from (along t (within (named_from (length made.variables) objects) around) (go levels t (within (named_from (length made.variables) objects) around)) (with_objects false objects made) from
      (enters (named_from (length made.variables) objects) place ∷ (map Does front ++ ending)) to) →
      begins t (within (named_from (length made.variables) objects) around) (after t (enters (named_from (length made.variables) objects) place) (stands_at made from)) ending to ≡ New →
      (now later : List (Stop t)) (tasks : List (TaskIn t)) (slots : List Slot) (base : ℕ) (leaving : Option (LoopLeft t.Expr t.Stmt t.Init)) (body : Option (BodyLeft t.Expr t.Stmt t.Init)) →
      are_named (flow_stands_at flow from).variables (names_of around.scopes) ≡ true → are_in (registers_of (stands_at made from)) slots ≡ true →
      IsKept t flow setting running around (later ++ now) leaving body base made.registers slots → loop_left tasks ≡ option_map one_more leaving → body_left tasks ≡ body →
      (IsAround setting (within (named_from (length made.variables) objects) around) → are_new (named_from (length made.variables) objects) (names_of around.scopes) ≡ true →
      (now' later' : List (Stop t)) → Within t (later ++ now) now' → (made' : Made) (from' : ℕ) → IsKept t flow setting running (within (named_from (length made.variables) objects) around) now' (loop_left tasks) (body_left tasks) base made'.registers slots →
      stands_at made' from' ≡ after t (enters (named_from (length made.variables) objects) place) (stands_at made from) →
      IsSpelled flow made' from' (along_at t (within (named_from (length made.variables) objects) around) (go levels t (within (named_from (length made.variables) objects) around)) made' from'
      (after t (enters (named_from (length made.variables) objects) place) (stands_at made from)) ending to) →
      Goes t flow setting running (within (named_from (length made.variables) objects) around) now' later' tasks slots from') →
      Goes t flow setting running around now later (OpenBlock ∷ (map MakeObject objects ++ (map Execute front ++ tasks))) slots from
  scope_goes levels does valid around good made from objects place front ending to spelled begin now later tasks slots base leaving body named stand kept loops bodies end =
      let names : List Name = named_from (length made.variables) objects in
      let inside : Around = within names around in
      let made1 : Made = with_objects false objects made in
      let entered : Stood = after t (enters names place) (stands_at made from) in
      let placing = objects_placing objects made made.points spelled.sound in
      let spelled1 : IsSpelled flow made1 from (along t inside (go levels t inside) made1 from (enters names place ∷ (map Does front ++ ending)) to) = spelled_more spelled placing refl in
      let first = first_edge levels inside made1 from entered (i.Enter (variables_of names)) place (map Does front ++ ending) to spelled1 in
      let new = enters_new flow from first.to place names (names_of around.scopes) valid first.edge named in
      let good' = around_within around names from first.to place valid first.edge kept.jumps.fixed good in
      let kept1 = kept_within around names (later ++ now) leaving body base made.registers slots new kept in
      let kept2 = subst (λ (left : Option (BodyLeft t.Expr t.Stmt t.Init)). IsKept t flow setting running inside (later ++ now) (loop_left tasks) left base made1.registers slots) (sym bodies)
      (subst (λ (left : Option (LoopLeft t.Expr t.Stmt t.Init)). IsKept t flow setting running inside (later ++ now) left body base made1.registers slots) (sym loops) kept1) in
      let all = along_placing t inside (go levels t inside) (go_placing levels t inside) made1 from (enters names place ∷ (map Does front ++ ending)) to spelled1.inside spelled1.sound in
      let side = behind_edge t flow setting running levels does inside good' entered
      (nothing_within t flow setting running around names entered (later ++ now) leaving slots around.loop kept.jumps.loop) ending to begin tasks slots base
      (subst (λ (widths : List Width). are_in (map (λ one. one.register) widths) slots ≡ true) (sym (emptied_none (stands_at made from).registers)) stand) (later ++ now)
      (end good' new) (later ++ now) (λ stop there. there) front made1 from (i.Enter (variables_of names)) place kept2 spelled1 in
      Enters objects names side.to place kept.whole (spelled_made made objects spelled1 all) new side.edge side.goes

  -- a block
  pub block_form : (levels : ℕ) → DoesIs t flow setting running levels → IsFlow flow → (around : Around) → IsAround setting around → (made : Made) (from : ℕ) (stmt : t.Stmt) (body : List t.Stmt) (to : ℕ) → t.clause stmt ≡ Block body →
      IsSpelled flow made from (along t (within (named_from (length made.variables) (objects_in t body)) around) (go levels t (within (named_from (length made.variables) (objects_in t body)) around))
      (with_objects false (objects_in t body) made) from
      (enters (named_from (length made.variables) (objects_in t body)) (t.first stmt) ∷ (map Does body ++ leaves (named_from (length made.variables) (objects_in t body)) (t.last stmt) ∷ [])) to) →
      (now later : List (Stop t)) (tasks : List (TaskIn t)) (slots : List Slot) (base : ℕ) → are_named (flow_stands_at flow from).variables (names_of around.scopes) ≡ true → are_in (registers_of (stands_at made from)) slots ≡ true →
      IsKept t flow setting running around (later ++ now) (loop_left tasks) (body_left tasks) base made.registers slots → Goes t flow setting running around (later ++ now) [] tasks slots to →
      Goes t flow setting running around now later (Execute stmt ∷ tasks) slots from
  block_form levels does valid around good made from stmt body to is spelled now later tasks slots base named stand kept cont =
      let names : List Name = named_from (length made.variables) (objects_in t body) in
      let close : TaskIn t = LeaveBlock (t.last stmt) in
      executes t flow setting running around now later tasks slots from stmt (Block body) is
      (subst (λ (list : List (TaskIn t)). Goes t flow setting running around now later (OpenBlock ∷ list) slots from)
      (sym (ap (λ (list : List (TaskIn t)). (list ++ (map Execute body ++ close ∷ [])) ++ tasks) (blocks_made t body)
      ∙ (append_assoc (map MakeObject (objects_in t body)) (map Execute body ++ close ∷ []) tasks
      ∙ ap (λ (list : List (TaskIn t)). map MakeObject (objects_in t body) ++ list) (append_assoc (map Execute body) (close ∷ []) tasks))))
      (scope_goes levels does valid around good made from (objects_in t body) (t.first stmt) body (leaves names (t.last stmt) ∷ []) to spelled refl now later (close ∷ tasks) slots base (loop_left tasks) (body_left tasks) named stand kept
      refl refl
      (λ good' new now' later' more made' from' kept' here spelled'. Leaves names to (t.last stmt) kept'.whole new
      (one_at t flow setting running levels (within names around) made' from' to (i.Leave (variables_of names)) (t.last stmt) spelled')
      (wider t flow setting running cont (later' ++ now') [] (λ stop there. in_rest t stop later' now' (more stop there)) (none_within t [])))))
