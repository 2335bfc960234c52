-- What is placed for `return`, for the `}` of a function, for jumps out of loops and for `do` is what the rest of a run wants.
--
-- How the value of a `return` is computed and converted is not here: only what follows that.
use Rattle.std.proofs.Common.{inl, ◌≡◌, ◌≤◌, ℕ, suc, ◌+◌, List, [], ◌∷◌, ◌++◌, map, length, Bool, true, false, refl, sym, subst, ◌∙◌, arith, Option, None, Some}
use Rattle.std.specs.Prelude.{◌^◌, replicate, if◌then◌else◌}
use Rattle.std.proofs.lemmas.Bool.{false≢true}
use Rattle.cbase.specs.declared.place.Place.{Place}
use Rattle.c_machine.specs.declared.kind.Kind.{Kind}
use Rattle.c_machine.specs.declared.kind.Kind.TheVariants.{Integer, Pointer, Array, Struct, Void}
use Rattle.c_machine.specs.declared.task.Task.TheVariants.{Again, Execute, BreakAt, ContinueAt, LeaveBlock, GiveBack, LeaveFunction, EndOfBody}
use Rattle.c_machine.specs.State.{TaskIn}
use Rattle.c_machine.specs.Choosing.{count_of}
use Rattle.c_machine.specs.Statements.{LoopLeft, loop_left, after_break, after_continue, BodyLeft, body_left}
use Rattle.c_machine.specs.Text.{Clause, Eval, Break, Continue, Return, Function, Text}
use Rattle.c_machine.specs.Words.{scalar_bytes}
use Rattle.flow.specs.declared.flow_graph.Flow.{Flow}
use Rattle.flow.specs.declared.flow_graph.Standing.{Standing}
use Rattle.flow.specs.declared.instruction.Instr.TheVariants as i
use Rattle.simulation.specs.Edges.{One}
use Rattle.simulation.specs.Lowered.{Stop, Lowered, IsKnown, Makes, Leaves, Breaks, BreaksFinish, Continues, ContinuesFinish, GivesNoValue, GivesNoValueFinish, EndsMain, EndsVoid, EndsWithInput, Returns, Closes}
use Rattle.simulation.specs.Names.{Name, names_of, variables_of, are_new}
use Rattle.simulation.specs.Running.{Setting, Running, given_slot}
use Rattle.simulation.specs.Slots.{Slot, InRegister, KnownAs, is_whole, are_free, are_in}
use Rattle.lowering.specs.Kinds.{is_void, width}
use Rattle.lowering.specs.LetGo.{AsTest, left_of}
use Rattle.lowering.specs.Lowering.{answers, end_moves}
use Rattle.lowering.specs.Moves.{Move, Emits, Fails}
use Rattle.lowering.specs.Placing.{New, begins, Made, Loop as LoopAround, Around, registers_left, blocks_left, place_break, place_continue, passes, is_break, in_loop, place_do_body, branch, place_do, stands_at, with_point, after, along_at, go, leaves, closings, function_leaves, finishes, registers_of, place_return}
use Rattle.lowering.proofs.Placings.{then_placing, point_placing, IsSpelled, spelled_point, spelled_first, spelled_rest}
use Rattle.lowering.proofs.Placed.{go_placing, body_placing, branch_placing}
use Rattle.lowering.proofs.Jumping.{AreApart}
use Rattle.lowering.proofs.Ready.{head_spelled, tail_spelled, one_at, never}
use Rattle.lowering.proofs.Statements.{executes}

module _ (t : Text) (flow : Flow) (setting : Setting) (running : Running) where
  abbrev Goes : Around → List (Stop t) → List (Stop t) → List (TaskIn t) → List Slot → ℕ → Type 0
  Goes around now later tasks slots point = Lowered t flow setting running now later around.scopes tasks slots point

  -- the exit of the function that runs: its blocks are known apart, and what stands in a slot is given back there
  pub record IsLeft (around : Around) (slot : Slot) : Type 0 where
    pub closes : running.closes ≡ around.closes
    pub new : are_new (names_of around.scopes) [] ≡ true
    pub from : Option ℕ
    pub given : given_slot running.gives from ≡ Some slot
    pub to : ℕ
    pub place : Place
    pub edge : One flow around.exit (i.Return from) to place

  -- what stands behind the body of the function
  pub record IsBody (tasks : List (TaskIn t)) (kind : Kind) : Type 0 where
    pub left : BodyLeft t.Expr t.Stmt t.Init
    pub is : body_left tasks ≡ Some left
    pub held : left.held ≡ running.base
    pub rest : left.rest ≡ []
    pub result : left.result ≡ kind

  leave_by : (levels : ℕ) (around : Around) (slot : Slot) (closes : Bool) → around.closes ≡ closes → IsLeft around slot → (made : Made) (from : ℕ) (standing : Standing) (word : Place) →
      IsSpelled flow made from (along_at t around (go levels t around) made from standing (leaves (names_of around.scopes) word ∷ closings closes word) around.exit) →
      (now later : List (Stop t)) → Goes around now later (LeaveFunction word ∷ []) (slot ∷ []) from
  leave_by levels around slot true is left made from standing word spelled now later =
      let leave : Move t = leaves (names_of around.scopes) word in
      let first = head_spelled t flow setting running levels around made from (after t leave standing) leave (closings true word) around.exit spelled in
      let rest = tail_spelled t flow setting running levels around made from (after t leave standing) leave (closings true word) around.exit spelled in
      Closes slot left.from word left.place made.points around.exit left.to (left.closes ∙ is) left.given left.new
      (one_at t flow setting running levels around (with_point (after t leave standing) made) from made.points (i.Leave (variables_of (names_of around.scopes))) word first)
      (one_at t flow setting running levels around (go levels t around (with_point (after t leave standing) made) from leave made.points) made.points around.exit i.Close word rest)
      left.edge
  leave_by levels around slot false is left made from standing word spelled now later =
      Returns slot left.from word left.place around.exit left.to (left.closes ∙ is) left.given left.new
      (one_at t flow setting running levels around made from around.exit (i.Leave (variables_of (names_of around.scopes))) word spelled) left.edge

  -- all blocks of a function are left, and it returns
  pub leave_form : (levels : ℕ) (around : Around) (slot : Slot) → IsLeft around slot → (made : Made) (from : ℕ) (standing : Standing) (word : Place) →
      IsSpelled flow made from (along_at t around (go levels t around) made from standing (function_leaves around word) around.exit) →
      (now later : List (Stop t)) → Goes around now later (LeaveFunction word ∷ []) (slot ∷ []) from
  leave_form levels around slot left made from standing word spelled now later = leave_by levels around slot around.closes refl left made from standing word spelled now later

  -- `return` without a value
  no_value_by : (levels : ℕ) (around : Around) → IsLeft around (KnownAs 0) → (registers : List ℕ) (made : Made) (from : ℕ) (standing : Standing) (word : Place) →
      IsSpelled flow made from (along_at t around (go levels t around) made from standing (finishes registers word ++ function_leaves around word) around.exit) →
      (now later : List (Stop t)) (tasks : List (TaskIn t)) (slots : List Slot) → IsBody tasks Void → are_in registers slots ≡ true →
      Goes around now later (GiveBack word Void ∷ tasks) (KnownAs 0 ∷ slots) from
  no_value_by levels around left [] made from standing word spelled now later tasks slots body held =
      GivesNoValue word Void body.left (KnownAs 0) body.is body.held body.rest body.result held (leave_form levels around (KnownAs 0) left made from standing word spelled now later)
  no_value_by levels around left (register ∷ registers) made from standing word spelled now later tasks slots body held =
      let finish : Move t = Emits (i.Finish (register ∷ registers)) word in
      let first = head_spelled t flow setting running levels around made from (after t finish standing) finish (function_leaves around word) around.exit spelled in
      let rest = tail_spelled t flow setting running levels around made from (after t finish standing) finish (function_leaves around word) around.exit spelled in
      GivesNoValueFinish word Void body.left (KnownAs 0) (register ∷ registers) made.points body.is body.held body.rest body.result
      (one_at t flow setting running levels around (with_point (after t finish standing) made) from made.points (i.Finish (register ∷ registers)) word first) held
      (leave_form levels around (KnownAs 0) left (go levels t around (with_point (after t finish standing) made) from finish made.points) made.points (after t finish standing) word rest (later ++ now) [])

  pub return_nothing_form : (levels : ℕ) (around : Around) → IsLeft around (KnownAs 0) → (made : Made) (from : ℕ) (stmt : t.Stmt) → t.clause stmt ≡ Return None →
      IsSpelled flow made from (place_return t (go levels t) around made from (t.first stmt) (is_void around.kind) None) →
      (now later : List (Stop t)) (tasks : List (TaskIn t)) (slots : List Slot) → IsBody tasks Void → are_in (registers_of (stands_at made from)) slots ≡ true →
      Goes around now later (Execute stmt ∷ tasks) slots from
  return_nothing_form levels around left made from stmt is spelled now later tasks slots body held =
      executes t flow setting running around now later tasks slots from stmt (Return None) is (IsKnown 0 (by_kind (is_void around.kind) spelled))
    where
      by_kind : (void : Bool) → IsSpelled flow made from (place_return t (go levels t) around made from (t.first stmt) void None) →
          Goes around now later (GiveBack (t.first stmt) Void ∷ tasks) (KnownAs 0 ∷ slots) from
      by_kind true spelled' = no_value_by levels around left (registers_of (stands_at made from)) made from (stands_at made from) (t.first stmt) spelled' now later tasks slots body held
      by_kind false spelled' = absurd (false≢true spelled'.graph)

  -- What a function gives at its `}`: a number.
  abbrev pub end_slot : Kind → ℕ → Slot
  end_slot Void register = KnownAs 0
  end_slot kind register = InRegister register (width kind) true

  -- where all blocks of a function are left with what it gives in a slot, it returns
  abbrev pub LeavesWith : ℕ → Around → Slot → Type 0
  LeavesWith levels around slot =
      (made : Made) (from : ℕ) (standing : Standing) (word : Place) → IsSpelled flow made from (along_at t around (go levels t around) made from standing (function_leaves around word) around.exit) →
      (now later : List (Stop t)) → Goes around now later (LeaveFunction word ∷ []) (slot ∷ []) from

  -- main answers 0
  main_by : (levels : ℕ) (around : Around) (kind : Kind) → LeavesWith levels around (InRegister around.result (width kind) true) → (made : Made) (from : ℕ) (standing : Standing) (close : Place) →
      IsSpelled flow made from (along_at t around (go levels t around) made from standing (Emits (i.Number around.result 0 (width kind)) close ∷ function_leaves around close) around.exit) →
      (now later : List (Stop t)) (held : ℕ) → Goes around now later (EndOfBody true kind close held ∷ []) [] from
  main_by levels around kind left made from standing close spelled now later held =
      let number : Move t = Emits (i.Number around.result 0 (width kind)) close in
      let first = head_spelled t flow setting running levels around made from (after t number standing) number (function_leaves around close) around.exit spelled in
      let rest = tail_spelled t flow setting running levels around made from (after t number standing) number (function_leaves around close) around.exit spelled in
      EndsMain kind close held (Makes 0 around.result (width kind) made.points close
      (one_at t flow setting running levels around (with_point (after t number standing) made) from made.points (i.Number around.result 0 (width kind)) close first) refl
      (left (go levels t around (with_point (after t number standing) made) from number made.points) made.points (after t number standing) close rest now later))

  -- another function answers any input of its result
  input_by : (levels : ℕ) (around : Around) (kind : Kind) (bytes size : ℕ) (signed truth : Bool) → scalar_bytes kind ≡ Some bytes → count_of kind ≡ (if truth then 2 else 256 ^ size) →
      LeavesWith levels around (InRegister around.result size true) → (made : Made) (from : ℕ) (standing : Standing) (close : Place) →
      IsSpelled flow made from (along_at t around (go levels t around) made from standing (Emits (i.Input around.result size signed truth) close ∷ function_leaves around close) around.exit) →
      (now later : List (Stop t)) (held : ℕ) → Goes around now later (EndOfBody false kind close held ∷ []) [] from
  input_by levels around kind bytes size signed truth scalar count left made from standing close spelled now later held =
      let input : Move t = Emits (i.Input around.result size signed truth) close in
      let first = head_spelled t flow setting running levels around made from (after t input standing) input (function_leaves around close) around.exit spelled in
      let rest = tail_spelled t flow setting running levels around made from (after t input standing) input (function_leaves around close) around.exit spelled in
      EndsWithInput kind close close held bytes around.result size made.points signed truth scalar count refl
      (one_at t flow setting running levels around (with_point (after t input standing) made) from made.points (i.Input around.result size signed truth) close first)
      (left (go levels t around (with_point (after t input standing) made) from input made.points) made.points (after t input standing) close rest (later ++ now) [])

  fails_by : {A : Type 0} (levels : ℕ) (around : Around) (made : Made) (from : ℕ) (standing : Standing) (word : Place) →
      IsSpelled flow made from (along_at t around (go levels t around) made from standing (Fails ∷ function_leaves around word) around.exit) → A
  fails_by levels around made from standing word spelled =
      let fail : Move t = Fails in
      never t flow setting running levels around (with_point (after t fail standing) made) from made.points
      (head_spelled t flow setting running levels around made from (after t fail standing) fail (function_leaves around word) around.exit spelled)

  end_by : (levels : ℕ) (around : Around) (is_main : Bool) (kind : Kind) → LeavesWith levels around (end_slot kind around.result) → (made : Made) (from : ℕ) (standing : Standing) (close : Place) →
      is_void kind ≡ false → IsSpelled flow made from (along_at t around (go levels t around) made from standing (answers is_main kind around.result close ++ function_leaves around close) around.exit) →
      (now later : List (Stop t)) (held : ℕ) → Goes around now later (EndOfBody is_main kind close held ∷ []) [] from
  end_by levels around true (Integer of) left made from standing close void spelled now later held = main_by levels around (Integer of) left made from standing close spelled now later held
  end_by levels around true (Pointer item) left made from standing close void spelled now later held = main_by levels around (Pointer item) left made from standing close spelled now later held
  end_by levels around true (Array item) left made from standing close void spelled now later held = main_by levels around (Array item) left made from standing close spelled now later held
  end_by levels around true (Struct size) left made from standing close void spelled now later held = main_by levels around (Struct size) left made from standing close spelled now later held
  end_by levels around false (Integer of) left made from standing close void spelled now later held =
      input_by levels around (Integer of) of.bytes of.bytes of.signed of.truth refl refl left made from standing close spelled now later held
  end_by levels around false (Pointer item) left made from standing close void spelled now later held =
      input_by levels around (Pointer item) 8 8 false false refl refl left made from standing close spelled now later held
  end_by levels around false (Array item) left made from standing close void spelled now later held = fails_by levels around made from standing close spelled
  end_by levels around false (Struct size) left made from standing close void spelled now later held = fails_by levels around made from standing close spelled
  end_by levels around is_main Void left made from standing close void spelled now later held = absurd (false≢true (sym void))

  -- the `}` of a function
  pub end_form : (levels : ℕ) (around : Around) (function : Function t.Stmt) → LeavesWith levels around (end_slot function.result around.result) → (made : Made) (from : ℕ) (standing : Standing) →
      IsSpelled flow made from (along_at t around (go levels t around) made from standing (end_moves t function around (is_void function.result)) around.exit) →
      (now later : List (Stop t)) (held : ℕ) → Goes around now later (EndOfBody function.is_main function.result function.close held ∷ []) [] from
  end_form levels around function left made from standing spelled now later held =
      by_void (is_void function.result) refl spelled
    where
      of_void : (is_main : Bool) (kind : Kind) → is_void kind ≡ true → LeavesWith levels around (end_slot kind around.result) →
          IsSpelled flow made from (along_at t around (go levels t around) made from standing (function_leaves around function.close) around.exit) →
          Goes around now later (EndOfBody is_main kind function.close held ∷ []) [] from
      of_void true Void void left' spelled' = EndsMain Void function.close held (left' made from standing function.close spelled' now later)
      of_void false Void void left' spelled' = EndsVoid function.close held (left' made from standing function.close spelled' now later)
      of_void is_main (Integer of) void left' spelled' = absurd (false≢true void)
      of_void is_main (Pointer item) void left' spelled' = absurd (false≢true void)
      of_void is_main (Array item) void left' spelled' = absurd (false≢true void)
      of_void is_main (Struct size) void left' spelled' = absurd (false≢true void)

      by_void : (void : Bool) → is_void function.result ≡ void → IsSpelled flow made from (along_at t around (go levels t around) made from standing (end_moves t function around void) around.exit) →
          Goes around now later (EndOfBody function.is_main function.result function.close held ∷ []) [] from
      by_void true void spelled' = of_void function.is_main function.result void left spelled'
      by_void false void spelled' = end_by levels around function.is_main function.result left made from standing function.close void spelled' now later held

  -- blocks are left one by one from the inside
  pub blocks_form : (levels : ℕ) (around : Around) (names : List Name) (blocks outer : List (List Name)) (made : Made) (from : ℕ) (standing : Standing) (word : Place) (to : ℕ) →
      IsSpelled flow made from (along_at t around (go levels t around) made from standing (leaves names word ∷ map (λ block. leaves block word) blocks) to) →
      AreApart (names ∷ (blocks ++ outer)) → (now later : List (Stop t)) (tasks : List (TaskIn t)) (slots : List Slot) → is_whole slots ≡ true →
      Lowered t flow setting running (later ++ now) [] outer tasks slots to →
      Lowered t flow setting running now later (names ∷ (blocks ++ outer)) (LeaveBlock word ∷ (replicate (length blocks) (LeaveBlock word) ++ tasks)) slots from
  blocks_form levels around names [] outer made from standing word to spelled apart now later tasks slots whole cont =
      Leaves names to word whole apart.0 (one_at t flow setting running levels around made from to (i.Leave (variables_of names)) word spelled) cont
  blocks_form levels around names (next ∷ blocks) outer made from standing word to spelled apart now later tasks slots whole cont =
      let leave : Move t = leaves names word in
      let moves : List (Move t) = leaves next word ∷ map (λ block. leaves block word) blocks in
      let first = head_spelled t flow setting running levels around made from (after t leave standing) leave moves to spelled in
      let rest = tail_spelled t flow setting running levels around made from (after t leave standing) leave moves to spelled in
      Leaves names made.points word whole apart.0 (one_at t flow setting running levels around (with_point (after t leave standing) made) from made.points (i.Leave (variables_of names)) word first)
      (blocks_form levels around next blocks outer (go levels t around (with_point (after t leave standing) made) from leave made.points) made.points (after t leave standing) word to rest apart.1 (later ++ now) [] tasks slots whole cont)

  -- where a `break` goes on: behind the body of its loop, once so many blocks are left
  pub record IsBreak (word : Place) (tasks : List (TaskIn t)) (slots : List Slot) (blocks : ℕ) (behind : List (TaskIn t)) : Type 0 where
    pub left : LoopLeft t.Expr t.Stmt t.Init
    pub is : loop_left tasks ≡ Some left
    pub held : left.held ≡ length slots + running.base
    pub goes_on : (rest : List (TaskIn t)) → after_break t word (record left { rest = left.rest ++ rest }) ≡ (replicate blocks (LeaveBlock word) ++ behind) ++ rest

  pub record IsContinue (word : Place) (tasks : List (TaskIn t)) (slots : List Slot) (blocks : ℕ) (behind : List (TaskIn t)) : Type 0 where
    pub left : LoopLeft t.Expr t.Stmt t.Init
    pub is : loop_left tasks ≡ Some left
    pub held : left.held ≡ length slots + running.base
    pub goes_on : (rest : List (TaskIn t)) → after_continue word (record left { rest = left.rest ++ rest }) ≡ (replicate blocks (LeaveBlock word) ++ behind) ++ rest

  -- a jump that leaves no block and no register has no edge
  pub break_leads : (around : Around) (now later : List (Stop t)) (tasks behind : List (TaskIn t)) (dropped slots : List Slot) (at : ℕ) (stmt : t.Stmt) → t.clause stmt ≡ Break →
      IsBreak (t.first stmt) tasks slots 0 behind → are_in [] dropped ≡ true → Goes around now later behind slots at → Goes around now later (Execute stmt ∷ tasks) (dropped ++ slots) at
  break_leads around now later tasks behind dropped slots at stmt is jump gone cont =
      executes t flow setting running around now later tasks (dropped ++ slots) at stmt Break is (Breaks (t.first stmt) jump.left dropped behind jump.is jump.held jump.goes_on gone cont)

  pub continue_leads : (around : Around) (now later : List (Stop t)) (tasks behind : List (TaskIn t)) (dropped slots : List Slot) (at : ℕ) (stmt : t.Stmt) → t.clause stmt ≡ Continue →
      IsContinue (t.first stmt) tasks slots 0 behind → are_in [] dropped ≡ true → Goes around now later behind slots at → Goes around now later (Execute stmt ∷ tasks) (dropped ++ slots) at
  continue_leads around now later tasks behind dropped slots at stmt is jump gone cont =
      executes t flow setting running around now later tasks (dropped ++ slots) at stmt Continue is (Continues (t.first stmt) jump.left dropped behind jump.is jump.held jump.goes_on gone cont)

  -- a jump that leaves blocks: registers of unfinished expressions go first, if there are any
  break_by : (levels : ℕ) (around : Around) (registers : List ℕ) (names : List Name) (blocks outer : List (List Name)) (made : Made) (from : ℕ) (standing : Standing) (word : Place) (to : ℕ) →
      IsSpelled flow made from (along_at t around (go levels t around) made from standing (finishes registers word ++ (leaves names word ∷ map (λ block. leaves block word) blocks)) to) →
      AreApart (names ∷ (blocks ++ outer)) → (now later : List (Stop t)) (tasks behind : List (TaskIn t)) (dropped slots : List Slot) → IsBreak word tasks slots (suc (length blocks)) behind →
      is_whole slots ≡ true → are_free registers slots ≡ true → are_in registers dropped ≡ true → Lowered t flow setting running (later ++ now) [] outer behind slots to →
      Lowered t flow setting running now later (names ∷ (blocks ++ outer)) (BreakAt word ∷ tasks) (dropped ++ slots) from
  break_by levels around [] names blocks outer made from standing word to spelled apart now later tasks behind dropped slots jump whole free gone cont =
      Breaks word jump.left dropped (LeaveBlock word ∷ (replicate (length blocks) (LeaveBlock word) ++ behind)) jump.is jump.held jump.goes_on gone
      (blocks_form levels around names blocks outer made from standing word to spelled apart now later behind slots whole cont)
  break_by levels around (register ∷ registers) names blocks outer made from standing word to spelled apart now later tasks behind dropped slots jump whole free gone cont =
      let finish : Move t = Emits (i.Finish (register ∷ registers)) word in
      let moves : List (Move t) = leaves names word ∷ map (λ block. leaves block word) blocks in
      let first = head_spelled t flow setting running levels around made from (after t finish standing) finish moves to spelled in
      let rest = tail_spelled t flow setting running levels around made from (after t finish standing) finish moves to spelled in
      BreaksFinish word jump.left dropped (replicate (length blocks) (LeaveBlock word) ++ behind) names (register ∷ registers) made.points jump.is jump.held jump.goes_on whole free gone
      (one_at t flow setting running levels around (with_point (after t finish standing) made) from made.points (i.Finish (register ∷ registers)) word first)
      (blocks_form levels around names blocks outer (go levels t around (with_point (after t finish standing) made) from finish made.points) made.points (after t finish standing) word to rest apart (later ++ now) [] behind slots whole cont)

  continue_by : (levels : ℕ) (around : Around) (registers : List ℕ) (names : List Name) (blocks outer : List (List Name)) (made : Made) (from : ℕ) (standing : Standing) (word : Place) (to : ℕ) →
      IsSpelled flow made from (along_at t around (go levels t around) made from standing (finishes registers word ++ (leaves names word ∷ map (λ block. leaves block word) blocks)) to) →
      AreApart (names ∷ (blocks ++ outer)) → (now later : List (Stop t)) (tasks behind : List (TaskIn t)) (dropped slots : List Slot) → IsContinue word tasks slots (suc (length blocks)) behind →
      is_whole slots ≡ true → are_free registers slots ≡ true → are_in registers dropped ≡ true → Lowered t flow setting running (later ++ now) [] outer behind slots to →
      Lowered t flow setting running now later (names ∷ (blocks ++ outer)) (ContinueAt word ∷ tasks) (dropped ++ slots) from
  continue_by levels around [] names blocks outer made from standing word to spelled apart now later tasks behind dropped slots jump whole free gone cont =
      Continues word jump.left dropped (LeaveBlock word ∷ (replicate (length blocks) (LeaveBlock word) ++ behind)) jump.is jump.held jump.goes_on gone
      (blocks_form levels around names blocks outer made from standing word to spelled apart now later behind slots whole cont)
  continue_by levels around (register ∷ registers) names blocks outer made from standing word to spelled apart now later tasks behind dropped slots jump whole free gone cont =
      let finish : Move t = Emits (i.Finish (register ∷ registers)) word in
      let moves : List (Move t) = leaves names word ∷ map (λ block. leaves block word) blocks in
      let first = head_spelled t flow setting running levels around made from (after t finish standing) finish moves to spelled in
      let rest = tail_spelled t flow setting running levels around made from (after t finish standing) finish moves to spelled in
      ContinuesFinish word jump.left dropped (replicate (length blocks) (LeaveBlock word) ++ behind) names (register ∷ registers) made.points jump.is jump.held jump.goes_on whole free gone
      (one_at t flow setting running levels around (with_point (after t finish standing) made) from made.points (i.Finish (register ∷ registers)) word first)
      (blocks_form levels around names blocks outer (go levels t around (with_point (after t finish standing) made) from finish made.points) made.points (after t finish standing) word to rest apart (later ++ now) [] behind slots whole cont)

  -- `break` and `continue` that leave blocks of the loop, given which these are
  pub break_form : (levels : ℕ) (around : Around) (loop : LoopAround) → around.loop ≡ Some loop → (names : List Name) (blocks outer : List (List Name)) → blocks_left around loop.outer ≡ names ∷ blocks →
      around.scopes ≡ names ∷ (blocks ++ outer) → AreApart (names ∷ (blocks ++ outer)) → (made : Made) (from : ℕ) (stmt : t.Stmt) → t.clause stmt ≡ Break →
      IsSpelled flow made from (place_break t (go levels t) around made from (t.first stmt) around.loop) →
      (now later : List (Stop t)) (tasks behind : List (TaskIn t)) (dropped slots : List Slot) → IsBreak (t.first stmt) tasks slots (suc (length blocks)) behind → is_whole slots ≡ true →
      are_free (registers_left (stands_at made from).registers loop.registers) slots ≡ true → are_in (registers_left (stands_at made from).registers loop.registers) dropped ≡ true →
      Lowered t flow setting running (later ++ now) [] outer behind slots loop.behind → Goes around now later (Execute stmt ∷ tasks) (dropped ++ slots) from
  break_form levels around loop there names blocks outer left scopes apart made from stmt is spelled now later tasks behind dropped slots jump whole free gone cont =
      let word : Place = t.first stmt in
      let registers : List ℕ = registers_left (stands_at made from).registers loop.registers in
      let here : IsSpelled flow made from (place_break t (go levels t) around made from word (Some loop)) =
      subst (λ (l : Option LoopAround). IsSpelled flow made from (place_break t (go levels t) around made from word l)) there spelled in
      let spelled' = subst (λ (list : List (List Name)). IsSpelled flow made from
      (along_at t around (go levels t around) made from (stands_at made from) (finishes registers word ++ map (λ block. leaves block word) list) loop.behind)) left here in
      executes t flow setting running around now later tasks (dropped ++ slots) from stmt Break is
      (subst (λ (list : List (List Name)). Lowered t flow setting running now later list (BreakAt word ∷ tasks) (dropped ++ slots) from) (sym scopes)
      (break_by levels around registers names blocks outer made from (stands_at made from) word loop.behind spelled' apart now later tasks behind dropped slots jump whole free gone cont))

  pub continue_form : (levels : ℕ) (around : Around) (loop : LoopAround) → around.loop ≡ Some loop → (names : List Name) (blocks outer : List (List Name)) → blocks_left around loop.inner ≡ names ∷ blocks →
      around.scopes ≡ names ∷ (blocks ++ outer) → AreApart (names ∷ (blocks ++ outer)) → (made : Made) (from : ℕ) (stmt : t.Stmt) → t.clause stmt ≡ Continue →
      IsSpelled flow made from (place_continue t (go levels t) around made from (t.first stmt) around.loop) →
      (now later : List (Stop t)) (tasks behind : List (TaskIn t)) (dropped slots : List Slot) → IsContinue (t.first stmt) tasks slots (suc (length blocks)) behind → is_whole slots ≡ true →
      are_free (registers_left (stands_at made from).registers loop.registers) slots ≡ true → are_in (registers_left (stands_at made from).registers loop.registers) dropped ≡ true →
      Lowered t flow setting running (later ++ now) [] outer behind slots loop.again → Goes around now later (Execute stmt ∷ tasks) (dropped ++ slots) from
  continue_form levels around loop there names blocks outer left scopes apart made from stmt is spelled now later tasks behind dropped slots jump whole free gone cont =
      let word : Place = t.first stmt in
      let registers : List ℕ = registers_left (stands_at made from).registers loop.registers in
      let here : IsSpelled flow made from (place_continue t (go levels t) around made from word (Some loop)) =
      subst (λ (l : Option LoopAround). IsSpelled flow made from (place_continue t (go levels t) around made from word l)) there spelled in
      let spelled' = subst (λ (list : List (List Name)). IsSpelled flow made from
      (along_at t around (go levels t around) made from (stands_at made from) (finishes registers word ++ map (λ block. leaves block word) list) loop.again)) left here in
      executes t flow setting running around now later tasks (dropped ++ slots) from stmt Continue is
      (subst (λ (list : List (List Name)). Lowered t flow setting running now later list (ContinueAt word ∷ tasks) (dropped ++ slots) from) (sym scopes)
      (continue_by levels around registers names blocks outer made from (stands_at made from) word loop.again spelled' apart now later tasks behind dropped slots jump whole free gone cont))

  -- `do`: a turn begins with the body, and the test stands behind it
  abbrev pub turn_of : Around → t.Stmt → t.Stmt → List (TaskIn t) → List Slot → ℕ → Stop t
  turn_of around stmt body tasks slots from = record { scopes = around.scopes; tasks = Execute body ∷ Again stmt (length slots + running.base) ∷ tasks; slots = slots; point = from }

  -- a body without an edge behind which its loop goes on: `;` or `continue`
  pub idle_body : (around : Around) (now later : List (Stop t)) (tasks : List (TaskIn t)) (slots : List Slot) (from : ℕ) (stmt body : t.Stmt) (clause : Clause t.Expr t.Stmt t.Init) → t.clause body ≡ clause → passes t clause ≡ true →
      Goes around now later (Again stmt (length slots + running.base) ∷ tasks) slots from → Goes around now later (Execute body ∷ Again stmt (length slots + running.base) ∷ tasks) slots from
  idle_body around now later tasks slots from stmt body (Eval None) is idle cont =
      executes t flow setting running around now later (Again stmt (length slots + running.base) ∷ tasks) slots from body (Eval None) is cont
  idle_body around now later tasks slots from stmt body Continue is idle cont =
      executes t flow setting running around now later (Again stmt (length slots + running.base) ∷ tasks) slots from body Continue is
      (Continues (t.first body) (record { blocks = 0; loop = stmt; held = length slots + running.base; rest = tasks }) [] (Again stmt (length slots + running.base) ∷ tasks) refl refl (λ rest. refl) refl cont)
  idle_body around now later tasks slots from stmt body clause is idle cont = absurd (false≢true idle)

  -- the parts of what is placed for a `do`: its body, and its test behind that
  abbrev pub body_made : ℕ → Around → Made → ℕ → t.Stmt → ℕ → Standing → Bool → Made
  body_made levels around made from body to standing breaks =
      place_do_body t (go levels t) (in_loop around around made.points to standing) (with_point standing made) from body made.points to breaks

  pub record DoIs (levels : ℕ) (around : Around) (made : Made) (from : ℕ) (body : t.Stmt) (test : t.Expr) (close : Place) (to : ℕ) (standing : Standing) : Type 0 where
    pub registers : made.registers ≤ (body_made levels around made from body to standing (is_break t (t.clause body))).registers
    pub body_spelled : IsSpelled flow (with_point standing made) from (body_made levels around made from body to standing (is_break t (t.clause body)))
    pub test_spelled : IsSpelled flow (body_made levels around made from body to standing (is_break t (t.clause body))) made.points
        (branch t (go levels t) around around (body_made levels around made from body to standing (is_break t (t.clause body))) made.points test close [] from [] to)

  pub do_is : (levels : ℕ) (around : Around) (made : Made) (from : ℕ) (body : t.Stmt) (test : t.Expr) (close : Place) (to : ℕ) (standing : Standing) →
      IsSpelled flow made from (place_do t (go levels t) around made from body test close to standing false) → DoIs levels around made from body test close to standing
  do_is levels around made from body test close to standing spelled =
      let inside = spelled.inside in
      let middle : Made = body_made levels around made from body to standing (is_break t (t.clause body)) in
      let one = point_placing standing made from spelled.sound in
      let two = body_placing t (go levels t) (go_placing levels t) (in_loop around around made.points to standing) (with_point standing made) from body made.points to (is_break t (t.clause body)) (omega arith) one.sound in
      let h = two.points in
      let k = two.registers in
      let three = branch_placing t (go levels t) (go_placing levels t) around around middle made.points test (left_of t AsTest test) close [] from [] to (omega arith) two.sound in
      record {
        registers = k;
        body_spelled = spelled_first (spelled_point standing spelled) three (omega arith) (λ same. absurd (omega arith));
        test_spelled = spelled_rest spelled (then_placing one two (inl refl)) (omega arith) (omega arith)
            (two.touches made.points (omega arith) (λ same. absurd (omega arith)) ∙ spelled.sound.fresh made.points (omega arith));
      }

  pub is_break_clause : (clause : Clause t.Expr t.Stmt t.Init) → is_break t clause ≡ true → clause ≡ Break
  is_break_clause Break is = refl
  is_break_clause clause is = absurd (false≢true is)

  -- the `}` of a function begins with an edge of its own
  end_begins : (is_main : Bool) (kind : Kind) (around : Around) (standing : Standing) (close : Place) → begins t around standing (answers is_main kind around.result close ++ function_leaves around close) around.exit ≡ New
  end_begins true kind around standing close = refl
  end_begins false (Integer of) around standing close = refl
  end_begins false (Pointer item) around standing close = refl
  end_begins false (Array item) around standing close = refl
  end_begins false (Struct size) around standing close = refl
  end_begins false Void around standing close = refl

  pub moves_begin : (function : Function t.Stmt) (around : Around) (standing : Standing) (void : Bool) → begins t around standing (end_moves t function around void) around.exit ≡ New
  moves_begin function around standing true = refl
  moves_begin function around standing false = end_begins function.is_main function.result around standing function.close
