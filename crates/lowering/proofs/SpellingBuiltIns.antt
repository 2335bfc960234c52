-- What is placed for calls of functions that the language knows: `free`, assumptions, values from outside, ends of the run, and `__builtin_expect`.
use Rattle.std.proofs.Common.{◌≡◌, ◌≢◌, ◌<◌, ◌≤◌, ℕ, ◌+◌, max, List, [], ◌∷◌, ◌++◌, length, suc, Bool, true, false, nat_eq, refl, sym, ap, arith, subst, Option, Some, if◌then◌else◌}
use Rattle.std.specs.Prelude.{nat_lt}
use Rattle.std.proofs.lemmas.Bool.{eqb-true, eqb-false, eq-eqb, ltb-true, ltb-false}
use Rattle.cbase.specs.declared.place.Place.{Place}
use Rattle.c_machine.specs.declared.built_in.BuiltIn.TheVariants.{Free, Assume, Expect, GivesInput, EndsRun}
use Rattle.c_machine.specs.declared.kind.Kind.{Kind}
use Rattle.c_machine.specs.declared.kind.Kind.TheVariants.{Integer, Pointer, Array, Struct, Void}
use Rattle.c_machine.specs.declared.task.Task.TheVariants.{ValueOf, Convert, RunBuiltIn}
use Rattle.c_machine.specs.Text.{Text}
use Rattle.c_machine.specs.State.{TaskIn}
use Rattle.c_machine.specs.Statements.{loop_left, body_left}
use Rattle.c_machine.specs.Expressions.{value_kind, argument_tasks}
use Rattle.flow.specs.declared.flow_graph.Flow.{Flow}
use Rattle.flow.specs.declared.flow_graph.Standing.{Standing as Stood}
use Rattle.flow.specs.declared.instruction.Instr.TheVariants as i
use Rattle.simulation.specs.Edges.{One}
use Rattle.simulation.specs.Running.{Setting, Running}
use Rattle.simulation.specs.Slots.{Slot, InRegister, KnownAs, Gone, is_free}
use Rattle.simulation.specs.Lowered.{Stop, EndsRuns, Frees, Assumes, Inputs, Expects, Puts, Forgets}
use Rattle.lowering.specs.Kinds.{width, is_void}
use Rattle.lowering.specs.LetGo.{left_as, left_by_arguments, behind_spare, left_by_built_in, left_of}
use Rattle.lowering.specs.Moves.{Move, Emits, Converts, Stops, Fails}
use Rattle.lowering.specs.Table.{argument_moves, built_in_line, beside, expect_moves}
use Rattle.lowering.specs.Placing.{Made, Around, with_point, with_registers, stands_at, after, along, along_at, along_line, go}
use Rattle.lowering.proofs.Jumping.{jumps_more, own_new}
use Rattle.lowering.proofs.KindFacts.{IsAsPlain, slot_made}
use Rattle.lowering.proofs.Modes.{IsAround, Rest, Ready, ConvertIs}
use Rattle.lowering.proofs.Placings.{IsSpelled, spelled_registers}
use Rattle.lowering.proofs.Ready.{below_more, free_below, free_beside, slot_of, IsTarget, same_target, part_ready, mid, head_spelled, tail_spelled, one_at, none_at, never, fills}
use Rattle.lowering.proofs.SpellingArguments.{own_argument, first_argument, max_first}

in_max : (one other : ℕ) → one ≤ max one other
in_max one other = omega arith

-- a register that is neither the spare one nor another one of what is let go of
other_than : (into spare left left' register : ℕ) → nat_eq into spare ≡ false → ((other : ℕ) → spare < other → other < spare + left → into ≢ other) → spare ≤ register → register < spare + left' → left' ≤ left → into ≢ register
other_than into spare left left' register differ apart above below less same = by_order (nat_lt spare register) refl
  where
    by_order : (behind : Bool) → nat_lt spare register ≡ behind → ⊥
    by_order true is = apart register (ltb-true spare register is) (omega arith) same
    by_order false is = eqb-false into spare differ (let up = ltb-false spare register is in let e : into ≡ spare = omega arith in e)

module _ (t : Text) (flow : Flow) (setting : Setting) (running : Running) where
  abbrev Goes : Around → List (Stop t) → List (Stop t) → List (TaskIn t) → List Slot → ℕ → Type 0
  Goes around now later tasks slots point = Rest t flow setting running around now later tasks slots point

  -- `free`: its argument has a value (6.3.2.2, 7.22.3.3)
  pub free_form : (levels : ℕ) → ConvertIs t flow setting running levels → (around : Around) → IsAround setting around → (made : Made) (from : ℕ) (arg : t.Expr) (param result : Kind) (spare : ℕ) (kept : Option ℕ) (place : Place) (to : ℕ) →
      is_void param ≡ false → IsSpelled flow made from (along_line t around (go levels t around) made from (built_in_line t Free (arg ∷ []) (param ∷ []) result spare kept made.registers place) to) →
      (now later : List (Stop t)) (tasks : List (TaskIn t)) (slots : List Slot) (base : ℕ) →
      Ready t flow setting running around now later tasks base made.registers slots spare (left_by_arguments t (left_of t) (arg ∷ []) (param ∷ [])) →
      Goes around (later ++ now) [] tasks (KnownAs 0 ∷ slots) to →
      Goes around now later (ValueOf arg ∷ Convert (value_kind t arg) param ∷ RunBuiltIn Free place result ∷ tasks) slots from
  free_form levels convert around good made from arg param result spare kept place to valued spelled now later tasks slots base ready cont =
      let r : ℕ = made.registers in
      let made1 : Made = with_registers 1 made in
      let first_move : Move t = Converts arg param spare r in
      let standing : Stood = after t first_move (stands_at made1 from) in
      let last : Move t = Emits (i.Release r) place in
      let spelled1 = spelled_registers 1 spelled in
      let first = head_spelled t flow setting running levels around made1 from standing first_move (last ∷ []) to spelled1 in
      let rest = tail_spelled t flow setting running levels around made1 from standing first_move (last ∷ []) to spelled1 in
      let left : ℕ = left_by_arguments t (left_of t) (arg ∷ []) (param ∷ []) in
      own_argument t flow setting running levels convert around good (with_point standing made1) from arg param spare r made.points first now later (RunBuiltIn Free place result ∷ tasks) slots base left ready
      (max_first (left_as t (left_of t) arg false param) 0 left (omega arith)) (omega arith)
      (λ plain number ready'. subst (λ (slot : Slot). Goes around (later ++ now) [] (RunBuiltIn Free place result ∷ tasks) (slot ∷ slots) made.points) (sym (slot_made param r plain valued))
      (Frees place result r (width param) to plain ready.whole (free_below r r slots (omega arith) ready.below)
      (one_at t flow setting running levels around (mid t flow setting running levels around made1 from standing first_move) made.points to (i.Release r) place rest) cont))

  -- an assumption: no edge leads on where its value is 0
  pub assume_form : (levels : ℕ) → ConvertIs t flow setting running levels → (around : Around) → IsAround setting around → (made : Made) (from : ℕ) (arg : t.Expr) (param result : Kind) (spare : ℕ) (kept : Option ℕ) (place : Place) (to : ℕ) →
      is_void param ≡ false → IsSpelled flow made from (along_line t around (go levels t around) made from (built_in_line t Assume (arg ∷ []) (param ∷ []) result spare kept made.registers place) to) →
      (now later : List (Stop t)) (tasks : List (TaskIn t)) (slots : List Slot) (base : ℕ) →
      Ready t flow setting running around now later tasks base made.registers slots spare (left_by_arguments t (left_of t) (arg ∷ []) (param ∷ [])) →
      Goes around (later ++ now) [] tasks (KnownAs 0 ∷ slots) to →
      Goes around now later (ValueOf arg ∷ Convert (value_kind t arg) param ∷ RunBuiltIn Assume place result ∷ tasks) slots from
  assume_form levels convert around good made from arg param result spare kept place to valued spelled now later tasks slots base ready cont =
      let r : ℕ = made.registers in
      let made1 : Made = with_registers 2 made in
      let first_move : Move t = Converts arg param spare r in
      let standing : Stood = after t first_move (stands_at made1 from) in
      let second_move : Move t = Emits (i.Number (r + 1) 0 (width param)) place in
      let standing' : Stood = after t second_move standing in
      let last : Move t = Emits (i.IfDifferent r (r + 1)) place in
      let spelled1 = spelled_registers 2 spelled in
      let first = head_spelled t flow setting running levels around made1 from standing first_move (second_move ∷ last ∷ []) to spelled1 in
      let rest = tail_spelled t flow setting running levels around made1 from standing first_move (second_move ∷ last ∷ []) to spelled1 in
      let made2 : Made = mid t flow setting running levels around made1 from standing first_move in
      let second = head_spelled t flow setting running levels around made2 made.points standing' second_move (last ∷ []) to rest in
      let behind = tail_spelled t flow setting running levels around made2 made.points standing' second_move (last ∷ []) to rest in
      let left : ℕ = left_by_arguments t (left_of t) (arg ∷ []) (param ∷ []) in
      own_argument t flow setting running levels convert around good (with_point standing made1) from arg param spare r made.points first now later (RunBuiltIn Assume place result ∷ tasks) slots base left ready
      (max_first (left_as t (left_of t) arg false param) 0 left (omega arith)) (omega arith)
      (λ plain number ready'. subst (λ (slot : Slot). Goes around (later ++ now) [] (RunBuiltIn Assume place result ∷ tasks) (slot ∷ slots) made.points) (sym (slot_made param r plain valued))
      (Assumes place place place result r (width param) (r + 1) (width param) made2.points to plain
      (one_at t flow setting running levels around (with_point standing' made2) made.points made2.points (i.Number (r + 1) 0 (width param)) place second)
      (free_beside (r + 1) r (width param) plain slots (λ same. absurd (omega arith)) (free_below r (r + 1) slots (omega arith) ready.below)) (free_below r r slots (omega arith) ready.below)
      (one_at t flow setting running levels around (mid t flow setting running levels around made2 made.points standing' second_move) made2.points to (i.IfDifferent r (r + 1)) place behind) cont))

  -- a value from outside
  pub input_form : (levels : ℕ) (around : Around) (made : Made) (from into : ℕ) (result : Kind) (spare : ℕ) (place : Place) (to : ℕ) →
      IsSpelled flow made from (along_line t around (go levels t around) made from (built_in_line t GivesInput [] [] result spare (Some into) made.registers place) to) →
      (now later : List (Stop t)) (tasks : List (TaskIn t)) (slots : List Slot) → is_free into slots ≡ true →
      Goes around (later ++ now) [] tasks (InRegister into (width result) true ∷ slots) to →
      Goes around now later (RunBuiltIn GivesInput place result ∷ tasks) slots from
  input_form levels around made from into (Integer of) spare place to spelled now later tasks slots free cont =
      Inputs place place (Integer of) into of.bytes to of.signed of.truth refl free
      (one_at t flow setting running levels around (with_registers 0 made) from to (i.Input into of.bytes of.signed of.truth) place (spelled_registers 0 spelled)) cont
  input_form levels around made from into (Pointer item) spare place to spelled now later tasks slots free cont =
      Inputs place place (Pointer item) into 8 to false false refl free
      (one_at t flow setting running levels around (with_registers 0 made) from to (i.Input into 8 false false) place (spelled_registers 0 spelled)) cont
  input_form levels around made from into (Array item) spare place to spelled now later tasks slots free cont =
      never t flow setting running levels around (with_registers 0 made) from to (spelled_registers 0 spelled)
  input_form levels around made from into (Struct bytes) spare place to spelled now later tasks slots free cont =
      never t flow setting running levels around (with_registers 0 made) from to (spelled_registers 0 spelled)
  input_form levels around made from into Void spare place to spelled now later tasks slots free cont =
      never t flow setting running levels around (with_registers 0 made) from to (spelled_registers 0 spelled)

  -- a call that ends the run, behind its arguments
  pub ends_form : (levels : ℕ) → ConvertIs t flow setting running levels → (around : Around) → IsAround setting around → (args : List t.Expr) (params : List Kind) (result : Kind) (made : Made) (from spare r to : ℕ) (standing : Stood) (place : Place) →
      IsSpelled flow made from (along_at t around (go levels t around) made from standing (argument_moves t args params spare r ++ Stops ∷ []) to) →
      (now later : List (Stop t)) (tasks : List (TaskIn t)) (slots : List Slot) (base left : ℕ) → Ready t flow setting running around now later tasks base r slots spare left →
      left_by_arguments t (left_of t) args params ≤ left → r + length args ≤ made.registers →
      Goes around now later (argument_tasks t args params ++ RunBuiltIn EndsRun place result ∷ tasks) slots from
  ends_form levels convert around good [] [] result made from spare r to standing place spelled now later tasks slots base left ready less there =
      EndsRuns place result (none_at t flow setting running levels around made from to spelled)
  ends_form levels convert around good [] (param ∷ params) result made from spare r to standing place spelled now later tasks slots base left ready less there =
      never t flow setting running levels around (with_point standing made) from made.points (head_spelled t flow setting running levels around made from standing Fails (Stops ∷ []) to spelled)
  ends_form levels convert around good (arg ∷ args) [] result made from spare r to standing place spelled now later tasks slots base left ready less there =
      never t flow setting running levels around (with_point standing made) from made.points (head_spelled t flow setting running levels around made from standing Fails (Stops ∷ []) to spelled)
  ends_form levels convert around good (arg ∷ args) (param ∷ params) result made from spare r to standing place spelled now later tasks slots base left ready less there =
      first_argument t flow setting running levels convert around good arg args param params made from spare r to standing Stops (λ standing'. refl) spelled now later (RunBuiltIn EndsRun place result ∷ tasks) slots base left ready less there
      (λ made' point standing' plain spelled' ready' less' there'. ends_form levels convert around good args params result made' point spare (suc r) to standing' place spelled' (later ++ now) [] tasks (slot_of param r plain ∷ slots) base left
      ready' less' there')

  -- `__builtin_expect`: the value of its first argument; the second one is let go of beside it
  expected_form : (levels : ℕ) → ConvertIs t flow setting running levels → (around : Around) → IsAround setting around → (made : Made) (from : ℕ) (expected : t.Expr) (kind result : Kind) (other : ℕ) (place : Place) (to : ℕ) (standing : Stood) →
      IsSpelled flow made from (along_at t around (go levels t around) made from standing (Converts expected kind other other ∷ Emits (i.Number other 0 8) place ∷ []) to) →
      (now later : List (Stop t)) (tasks : List (TaskIn t)) (slots : List Slot) (base : ℕ) →
      Ready t flow setting running around now later tasks base made.registers slots other (max 1 (left_as t (left_of t) expected true kind)) →
      Goes around (later ++ now) [] tasks slots to →
      Goes around now later (ValueOf expected ∷ Convert (value_kind t expected) kind ∷ RunBuiltIn Expect place result ∷ tasks) slots from
  expected_form levels convert around good made from expected kind result other place to standing spelled now later tasks slots base ready cont =
      let move : Move t = Converts expected kind other other in
      let standing' : Stood = after t move standing in
      let last : Move t = Emits (i.Number other 0 8) place in
      let first = head_spelled t flow setting running levels around made from standing' move (last ∷ []) to spelled in
      let rest = tail_spelled t flow setting running levels around made from standing' move (last ∷ []) to spelled in
      let left : ℕ = left_as t (left_of t) expected true kind in
      let same : left_as t (left_of t) expected (nat_eq other other) kind ≡ left = ap (λ (b : Bool). left_as t (left_of t) expected b kind) (eq-eqb other other refl) in
      let h = ready.room in
      let tasks' : List (TaskIn t) = RunBuiltIn Expect place result ∷ tasks in
      let free : is_free other slots ≡ true = ready.spares other (omega arith) (omega arith) in
      let edge = one_at t flow setting running levels around (mid t flow setting running levels around made from standing' move) made.points to (i.Number other 0 8) place rest in
      convert around good (with_point standing' made) from expected kind other other made.points first now later tasks' slots base
      (part_ready made.registers (left_as t (left_of t) expected (nat_eq other other) kind) ready (omega arith) (omega arith))
      (λ valued. record { within = omega arith; free = free; apart = λ register above below is. absurd (omega arith); own = ready.own })
      (λ plain number. let_go_of kind plain free made.points edge)
    where
      let_go_of : (kind' : Kind) (plain : Bool) → is_free other slots ≡ true → (point : ℕ) → One flow point (i.Number other 0 8) to place → Goes around (later ++ now) [] (RunBuiltIn Expect place result ∷ tasks) (slot_of kind' other plain ∷ slots) point
      let_go_of (Integer of) plain free' point edge' = Forgets other of.bytes 8 0 to plain place edge' free' (Expects place result Gone refl cont)
      let_go_of (Pointer item) plain free' point edge' = Forgets other 8 8 0 to plain place edge' free' (Expects place result Gone refl cont)
      let_go_of (Array item) plain free' point edge' = Forgets other 8 8 0 to plain place edge' free' (Expects place result Gone refl cont)
      let_go_of (Struct size) plain free' point edge' = Forgets other 8 8 0 to plain place edge' free' (Expects place result Gone refl cont)
      let_go_of Void plain free' point edge' = Puts other 0 8 to place edge' free' (Expects place result (KnownAs 0) refl cont)

  -- what is let go of beside a value: from the spare register on, or from the one behind it where the value is in that
  beside_ready : (around : Around) (now later : List (Stop t)) (tasks : List (TaskIn t)) (slots : List Slot) (base count count' spare into size left : ℕ) (plain same : Bool) (one other : ℕ) → nat_eq into spare ≡ same →
      Ready t flow setting running around now later tasks base count slots spare (max one (behind_spare same other)) → IsTarget count slots base spare (max one (behind_spare same other)) into → count ≤ count' →
      left ≤ other → Ready t flow setting running around now later tasks base count' (InRegister into size plain ∷ slots) (if same then suc spare else spare) left
  beside_ready around now later tasks slots base count count' spare into size left plain true one other is ready target more less =
      let here : into ≡ spare = eqb-true into spare is in
      let h = ready.room in
      let k = ready.own in
      let w = target.within in
      record {
        whole = ready.whole;
        below = (omega arith, below_more count count' slots more ready.below);
        spares = λ register above below. free_beside register into size plain slots (λ same. absurd (omega arith)) (ready.spares register (omega arith) (omega arith));
        room = omega arith;
        own = omega arith;
        jumps = jumps_more t flow setting running around (later ++ now) (loop_left tasks) (body_left tasks) base into size plain slots
            (own_new t flow setting running around (later ++ now) (loop_left tasks) (body_left tasks) base into slots target.own ready.jumps) ready.jumps;
      }
  beside_ready around now later tasks slots base count count' spare into size left plain false one other is ready target more less =
      let h = ready.room in
      let w = target.within in
      record {
        whole = ready.whole;
        below = (omega arith, below_more count count' slots more ready.below);
        spares = λ register above below.
            free_beside register into size plain slots (other_than into spare (max one other) left register is target.apart above below (omega arith)) (ready.spares register (omega arith) (omega arith));
        room = omega arith;
        own = ready.own;
        jumps = jumps_more t flow setting running around (later ++ now) (loop_left tasks) (body_left tasks) base into size plain slots
            (own_new t flow setting running around (later ++ now) (loop_left tasks) (body_left tasks) base into slots target.own ready.jumps) ready.jumps;
      }

  pub expect_form : (levels : ℕ) → ConvertIs t flow setting running levels → (around : Around) → IsAround setting around → (made : Made) (from : ℕ) (arg : t.Expr) (kind : Kind) (expected : t.Expr) (kind' result : Kind) (spare into : ℕ) (place : Place) (to : ℕ) → is_void kind ≡ false →
      IsSpelled flow made from (along_line t around (go levels t around) made from (record { registers = 0; moves = expect_moves t arg kind expected kind' spare into (beside into spare) place }) to) →
      (now later : List (Stop t)) (tasks : List (TaskIn t)) (slots : List Slot) (base : ℕ) →
      Ready t flow setting running around now later tasks base made.registers slots spare (left_by_built_in t (left_of t) Expect (arg ∷ expected ∷ []) (kind ∷ kind' ∷ []) (nat_eq into spare)) →
      IsTarget made.registers slots base spare (left_by_built_in t (left_of t) Expect (arg ∷ expected ∷ []) (kind ∷ kind' ∷ []) (nat_eq into spare)) into →
      ((plain : Bool) → IsAsPlain kind plain → Goes around (later ++ now) [] tasks (InRegister into (width kind) plain ∷ slots) to) →
      Goes around now later (ValueOf arg ∷ Convert (value_kind t arg) kind ∷ ValueOf expected ∷ Convert (value_kind t expected) kind' ∷ RunBuiltIn Expect place result ∷ tasks) slots from
  expect_form levels convert around good made from arg kind expected kind' result spare into place to valued spelled now later tasks slots base ready target cont =
      by_spare (nat_eq into spare) refl (spelled_registers 0 spelled) ready target
    where
      by_spare : (same : Bool) → nat_eq into spare ≡ same →
          IsSpelled flow (with_registers 0 made) from (along t around (go levels t around) (with_registers 0 made) from (expect_moves t arg kind expected kind' spare into (if same then suc spare else spare) place) to) →
          Ready t flow setting running around now later tasks base made.registers slots spare (left_by_built_in t (left_of t) Expect (arg ∷ expected ∷ []) (kind ∷ kind' ∷ []) same) →
          IsTarget made.registers slots base spare (left_by_built_in t (left_of t) Expect (arg ∷ expected ∷ []) (kind ∷ kind' ∷ []) same) into →
          Goes around now later (ValueOf arg ∷ Convert (value_kind t arg) kind ∷ ValueOf expected ∷ Convert (value_kind t expected) kind' ∷ RunBuiltIn Expect place result ∷ tasks) slots from
      by_spare same is spelled' ready' target' =
          let made1 : Made = with_registers 0 made in
          let move : Move t = Converts arg kind spare into in
          let other : ℕ = if same then suc spare else spare in
          let standing : Stood = after t move (stands_at made1 from) in
          let moves : List (Move t) = Converts expected kind' other other ∷ Emits (i.Number other 0 8) place ∷ [] in
          let first = head_spelled t flow setting running levels around made1 from standing move moves to spelled' in
          let rest = tail_spelled t flow setting running levels around made1 from standing move moves to spelled' in
          let h = fills t flow setting running levels around made1 from standing move spelled'.inside spelled'.sound in
          let made2 : Made = mid t flow setting running levels around made1 from standing move in
          let one : ℕ = left_as t (left_of t) arg same kind in
          let beside : ℕ = max 1 (left_as t (left_of t) expected true kind') in
          let tasks' : List (TaskIn t) = ValueOf expected ∷ Convert (value_kind t expected) kind' ∷ RunBuiltIn Expect place result ∷ tasks in
          let less : left_as t (left_of t) arg (nat_eq into spare) kind ≤ max one (behind_spare same beside) =
          subst (λ (b : Bool). left_as t (left_of t) arg b kind ≤ max one (behind_spare same beside)) (sym is) (in_max one (behind_spare same beside)) in
          convert around good (with_point standing made1) from arg kind spare into made.points first now later tasks' slots base
          (part_ready (made.registers + 0) (left_as t (left_of t) arg (nat_eq into spare) kind) ready' (omega arith) less)
          (λ value. same_target (made.registers + 0) (left_as t (left_of t) arg (nat_eq into spare) kind) target' less (omega arith))
          (λ plain number. subst (λ (slot : Slot). Goes around (later ++ now) [] tasks' (slot ∷ slots) made.points) (sym (slot_made kind into plain valued))
          (expected_form levels convert around good made2 made.points expected kind' result other place to standing rest (later ++ now) [] tasks (InRegister into (width kind) plain ∷ slots) base
          (beside_ready around now later tasks slots base made.registers made2.registers spare into (width kind) beside plain same one beside is ready' target' (omega arith) (omega arith)) (cont plain number)))
