-- Arguments are placed from left to right, each in a register of the form's own.
use Rattle.std.proofs.Common.{◌≡◌, ◌<◌, ◌≤◌, ℕ, suc, ◌+◌, max, List, [], ◌∷◌, ◌++◌, length, Bool, false, nat_eq, refl, arith, subst, Option}
use Rattle.c_machine.specs.declared.kind.Kind.{Kind}
use Rattle.c_machine.specs.declared.task.Task.TheVariants.{ValueOf, Convert}
use Rattle.c_machine.specs.Text.{Text}
use Rattle.c_machine.specs.State.{TaskIn}
use Rattle.c_machine.specs.Statements.{LoopLeft, BodyLeft, loop_left, body_left}
use Rattle.c_machine.specs.Expressions.{value_kind, argument_tasks}
use Rattle.flow.specs.declared.flow_graph.Flow.{Flow}
use Rattle.flow.specs.declared.flow_graph.Standing.{Standing as Stood}
use Rattle.simulation.specs.Lowered.{Stop}
use Rattle.simulation.specs.Running.{Setting, Running}
use Rattle.simulation.specs.Slots.{Slot}
use Rattle.lowering.specs.LetGo.{left_as, left_by_arguments, left_of}
use Rattle.lowering.specs.Moves.{Move, Converts}
use Rattle.lowering.specs.Table.{argument_moves}
use Rattle.lowering.specs.Placing.{Made, Around, with_point, after, Begin, New, Goes as Goes_on, begins, along_from, along_at, go}
use Rattle.lowering.proofs.KindFacts.{IsAsPlain}
use Rattle.lowering.proofs.LeftOf.{own_as}
use Rattle.lowering.proofs.Modes.{IsAround, Rest, Ready, ConvertIs}
use Rattle.lowering.proofs.Placings.{IsSpelled}
use Rattle.lowering.proofs.Ready.{slot_of, IsReady, part_ready, kind_ready, own_target, own_free, mid, head_spelled, tail_spelled, fills}

pub max_first : (one other left : ℕ) → max one other ≤ left → one ≤ left
max_first one other left less = omega arith

pub max_second : (one other left : ℕ) → max one other ≤ left → other ≤ left
max_second one other left less = omega arith

module _ (t : Text) (flow : Flow) (setting : Setting) (running : Running) where
  -- an argument in a register of its own, and what is known behind it
  pub own_argument : (levels : ℕ) → ConvertIs t flow setting running levels → (around : Around) → IsAround setting around → (made : Made) (from : ℕ) (arg : t.Expr) (kind : Kind) (spare r to : ℕ) →
      IsSpelled flow made from (go levels t around made from (Converts arg kind spare r) to) →
      (now later : List (Stop t)) (tasks : List (TaskIn t)) (slots : List Slot) (base left : ℕ) → Ready t flow setting running around now later tasks base r slots spare left →
      left_as t (left_of t) arg false kind ≤ left → r < made.registers →
      ((plain : Bool) → IsAsPlain kind plain → ((count : ℕ) → r < count → Ready t flow setting running around now later tasks base count (slot_of kind r plain ∷ slots) spare left) →
      Rest t flow setting running around (later ++ now) [] tasks (slot_of kind r plain ∷ slots) to) →
      Rest t flow setting running around now later (ValueOf arg ∷ Convert (value_kind t arg) kind ∷ tasks) slots from
  own_argument levels convert around good made from arg kind spare r to spelled now later tasks slots base left ready less within cont =
      let h = ready.room in
      let here = own_as t arg kind spare left r ready.room less in
      convert around good made from arg kind spare r to spelled now later tasks slots base
      (part_ready made.registers (left_as t (left_of t) arg (nat_eq r spare) kind) ready (omega arith) here)
      (λ valued. own_target made.registers r ready.own (omega arith) within (own_free r ready (omega arith)))
      (λ plain number. cont plain number (λ count less. kind_ready count left r kind plain ready (omega arith) (omega arith) ready.room less))

  -- arguments are neither a loop nor a body
  loop_behind : (args : List t.Expr) (params : List Kind) (tasks : List (TaskIn t)) → loop_left tasks ≡ loop_left (argument_tasks t args params ++ tasks)
  loop_behind [] params tasks = refl
  loop_behind (arg ∷ args) [] tasks = refl
  loop_behind (arg ∷ args) (param ∷ params) tasks = loop_behind args params tasks

  body_behind : (args : List t.Expr) (params : List Kind) (tasks : List (TaskIn t)) → body_left tasks ≡ body_left (argument_tasks t args params ++ tasks)
  body_behind [] params tasks = refl
  body_behind (arg ∷ args) [] tasks = refl
  body_behind (arg ∷ args) (param ∷ params) tasks = body_behind args params tasks

  pub ready_in_front : (args : List t.Expr) (params : List Kind) (around : Around) (now later : List (Stop t)) (tasks : List (TaskIn t)) (base count : ℕ) (slots : List Slot) (spare left : ℕ) →
      Ready t flow setting running around now later tasks base count slots spare left → Ready t flow setting running around now later (argument_tasks t args params ++ tasks) base count slots spare left
  ready_in_front args params around now later tasks base count slots spare left ready =
      subst (λ (leaving : Option (LoopLeft t.Expr t.Stmt t.Init)). IsReady t flow setting running around (later ++ now) leaving (body_left (argument_tasks t args params ++ tasks)) base count slots spare left) (loop_behind args params tasks)
      (subst (λ (body : Option (BodyLeft t.Expr t.Stmt t.Init)). IsReady t flow setting running around (later ++ now) (loop_left tasks) body base count slots spare left) (body_behind args params tasks) ready)

  -- arguments, where something with an edge stands behind them: it begins at a point of its own
  pub arguments_begin : (around : Around) (standing : Stood) (args : List t.Expr) (params : List Kind) (spare r : ℕ) (last : Move t) (to : ℕ) → ((standing' : Stood) → begins t around standing' (last ∷ []) to ≡ New) →
      begins t around standing (argument_moves t args params spare r ++ last ∷ []) to ≡ New
  arguments_begin around standing [] [] spare r last to new = new standing
  arguments_begin around standing [] (param ∷ params) spare r last to new = refl
  arguments_begin around standing (arg ∷ args) [] spare r last to new = refl
  arguments_begin around standing (arg ∷ args) (param ∷ params) spare r last to new = refl

  -- One argument more, and what it leaves to the others.
  pub first_argument : (levels : ℕ) → ConvertIs t flow setting running levels → (around : Around) → IsAround setting around → (arg : t.Expr) (args : List t.Expr) (param : Kind) (params : List Kind) (made : Made) (from spare r to : ℕ) (standing : Stood) (last : Move t) →
      ((standing' : Stood) → begins t around standing' (last ∷ []) to ≡ New) →
      IsSpelled flow made from (along_at t around (go levels t around) made from standing (argument_moves t (arg ∷ args) (param ∷ params) spare r ++ last ∷ []) to) →
      (now later : List (Stop t)) (tasks : List (TaskIn t)) (slots : List Slot) (base left : ℕ) → Ready t flow setting running around now later tasks base r slots spare left →
      left_by_arguments t (left_of t) (arg ∷ args) (param ∷ params) ≤ left → r + length (arg ∷ args) ≤ made.registers →
      ((made' : Made) (point : ℕ) (standing' : Stood) (plain : Bool) → IsSpelled flow made' point (along_at t around (go levels t around) made' point standing' (argument_moves t args params spare (suc r) ++ last ∷ []) to) →
      Ready t flow setting running around now later tasks base (suc r) (slot_of param r plain ∷ slots) spare left → left_by_arguments t (left_of t) args params ≤ left → suc r + length args ≤ made'.registers →
      Rest t flow setting running around (later ++ now) [] (argument_tasks t args params ++ tasks) (slot_of param r plain ∷ slots) point) →
      Rest t flow setting running around now later (argument_tasks t (arg ∷ args) (param ∷ params) ++ tasks) slots from
  first_argument levels convert around good arg args param params made from spare r to standing last new spelled now later tasks slots base left ready less there cont =
      let move : Move t = Converts arg param spare r in
      let standing' : Stood = after t move standing in
      let moves : List (Move t) = argument_moves t args params spare (suc r) ++ last ∷ [] in
      let spelled' = subst (λ (begin : Begin). IsSpelled flow made from (along_from t (λ made' point. along_at t around (go levels t around) made' point standing' moves to) (go levels t around) made from move standing' Goes_on begin))
      (arguments_begin around standing' args params spare (suc r) last to new) spelled in
      let first = head_spelled t flow setting running levels around made from standing' move moves to spelled' in
      let behind = tail_spelled t flow setting running levels around made from standing' move moves to spelled' in
      let h = fills t flow setting running levels around made from standing' move spelled.inside spelled.sound in
      let one : ℕ = left_as t (left_of t) arg false param in
      let others : ℕ = left_by_arguments t (left_of t) args params in
      own_argument levels convert around good (with_point standing' made) from arg param spare r made.points first now later (argument_tasks t args params ++ tasks) slots base left
      (ready_in_front args params around now later tasks base r slots spare left ready) (max_first one others left less) (omega arith)
      (λ plain number ready'. cont (mid t flow setting running levels around made from standing' move) made.points standing' plain behind
      (kind_ready (suc r) left r param plain ready (omega arith) (omega arith) ready.room (omega arith)) (max_second one others left less) (omega arith))
