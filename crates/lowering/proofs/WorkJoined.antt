-- Expressions of a level more whose value is not used, whatever their form.
use Rattle.std.proofs.Common.{◌≡◌, ◌≤◌, ℕ, suc, max, List, [], ◌∷◌, ◌++◌, Bool, true, false, refl, sym, ◌∙◌, subst, None, Some, if◌then◌else◌}
use Rattle.std.proofs.lemmas.Bool.{false≢true}
use Rattle.cbase.specs.declared.tree.operators.BinaryOp.TheVariants.{Comma}
use Rattle.c_machine.specs.declared.kind.Kind.{Kind}
use Rattle.c_machine.specs.declared.kind.Kind.TheVariants.{Integer, Pointer, Array, Struct, Void}
use Rattle.c_machine.specs.declared.task.Task.TheVariants.{ValueOf}
use Rattle.c_machine.specs.Expressions.{value_kind}
use Rattle.c_machine.specs.State.{TaskIn}
use Rattle.c_machine.specs.Text.{Form, Binary, Assign, Count, Choose, Cast, Call, Inner, AssertFail, Text}
use Rattle.flow.specs.declared.flow_graph.Flow.{Flow}
use Rattle.flow.specs.Valid.{IsFlow}
use Rattle.simulation.specs.Lowered.{Stop, FailsAssertion}
use Rattle.simulation.specs.Running.{Setting, Running}
use Rattle.simulation.specs.Slots.{Slot}
use Rattle.lowering.specs.Kinds.{is_void}
use Rattle.lowering.specs.LetGo.{AsValue, left_by_value, left_by_work, leaves_nothing, left_of}
use Rattle.lowering.specs.Moves.{Fails}
use Rattle.lowering.specs.Table.{void_line, work_line, dropped_line, kind_made}
use Rattle.lowering.specs.Placing.{Made, Around, with_registers, failed, along_line, place_inner, place_void, go}
use Rattle.lowering.proofs.Doing.{DoesIs}
use Rattle.lowering.proofs.KindFacts.{let_go}
use Rattle.lowering.proofs.LeftStays.{work_left}
use Rattle.lowering.proofs.Modes.{IsAround, Rest, Ready, WorkIs, IsAt}
use Rattle.lowering.proofs.Placings.{IsSpelled, spelled_registers}
use Rattle.lowering.proofs.Ready.{none_at, never}
use Rattle.lowering.proofs.Spelling.{unfolds}
use Rattle.lowering.proofs.SpellingCalled.{AreCalled, call_work}
use Rattle.lowering.proofs.SpellingConditions.{choose_work}
use Rattle.lowering.proofs.SpellingConversions.{cast_work}
use Rattle.lowering.proofs.SpellingCounts.{count_work}
use Rattle.lowering.proofs.SpellingInner.{inner_work}
use Rattle.lowering.proofs.SpellingStores.{assign_work_form}
use Rattle.lowering.proofs.SpellingUpdates.{update_work}
use Rattle.lowering.proofs.SpellingValues.{dropped_form, comma_work}

no_kind : (kind : Kind) → is_void kind ≡ true → kind ≡ Void
no_kind (Integer of) is = absurd (false≢true is)
no_kind (Pointer item) is = absurd (false≢true is)
no_kind (Array item) is = absurd (false≢true is)
no_kind (Struct size) is = absurd (false≢true is)
no_kind Void is = refl

void_else : (void : Bool) → (void ≡ false → false ≡ true) → void ≡ true
void_else true other = refl
void_else false other = other refl

module _ (t : Text) (flow : Flow) (setting : Setting) (running : Running) (valid : IsFlow flow) (called : AreCalled t flow setting running) (levels : ℕ) (at : IsAt t flow setting running levels) (does : DoesIs t flow setting running levels)
    (around : Around) (good : IsAround setting around) (made : Made) (from : ℕ) (expr : t.Expr) (spare to : ℕ) (now later : List (Stop t)) (tasks : List (TaskIn t)) (slots : List Slot) (base : ℕ)
    (cont : Rest t flow setting running around (later ++ now) [] tasks (let_go (value_kind t expr) ∷ slots) to) where
  abbrev Goal : Type 0
  Goal = Rest t flow setting running around now later (ValueOf expr ∷ tasks) slots from

  abbrev At : ℕ → Type 0
  At left = Ready t flow setting running around now later tasks base made.registers slots spare left

  fails : {A : Type 0} → IsSpelled flow made from (along_line t around (go levels t around) made from (record { registers = 0; moves = Fails ∷ [] }) to) → A
  fails spelled = never t flow setting running levels around (with_registers 0 made) from to (spelled_registers 0 spelled)

  -- what has no value, or leaves no register
  void_form : (form : Form t.Expr t.Stmt) → t.form expr ≡ form → (is_void (value_kind t expr) ≡ true → is_void (kind_made t expr form) ≡ true) → (is_void (value_kind t expr) ≡ false → leaves_nothing t form ≡ true) →
      IsSpelled flow made from (along_line t around (go levels t around) made from (void_line t expr spare made.registers form) to) → At (left_by_value t (left_of t) expr false form) → Goal
  void_form (Assign None one other) is void nothing spelled ready = assign_work_form t flow setting running levels at one other around good made from expr spare to is void spelled now later tasks slots base ready cont
  void_form (Assign (Some op) one other) is void nothing spelled ready = update_work t flow setting running levels at op one other around good made from expr spare to is void spelled now later tasks slots base ready cont
  void_form (Count up after arg) is void nothing spelled ready = count_work t flow setting running levels at up after arg around good made from expr spare to is void spelled now later tasks slots base ready cont
  void_form (Cast arg) is void nothing spelled ready =
      cast_work t flow setting running levels at around good made from expr arg spare to is (void_else (is_void (value_kind t expr)) nothing) spelled now later tasks slots base ready cont
  void_form (Call callee args) is void nothing spelled ready = call_work t flow setting running levels at.convert called callee args around good made from expr spare to is void nothing spelled now later tasks slots base ready cont
  void_form AssertFail is void nothing spelled ready =
      unfolds t flow setting running around now later tasks slots from expr AssertFail is (FailsAssertion (none_at t flow setting running levels around (with_registers 0 made) from to (spelled_registers 0 spelled)))
  void_form form is void nothing spelled ready = fails spelled

  -- and what has one that is dropped
  rest_form : (form : Form t.Expr t.Stmt) → t.form expr ≡ form → (is_void (value_kind t expr) ≡ true → is_void (kind_made t expr form) ≡ true) → (no_value nothing : Bool) → is_void (value_kind t expr) ≡ no_value → leaves_nothing t form ≡ nothing →
      IsSpelled flow made from (along_line t around (go levels t around) made from
      (if no_value then void_line t expr spare made.registers form else (if nothing then void_line t expr spare made.registers form else dropped_line t expr spare)) to) →
      At (if no_value then left_by_value t (left_of t) expr false form else (if nothing then left_by_value t (left_of t) expr false form else max 1 (left_of t (AsValue true) expr))) → Goal
  rest_form form is void true nothing is_none is_nothing spelled ready = void_form form is void (λ valued. absurd (false≢true (sym valued ∙ is_none))) spelled ready
  rest_form form is void false true is_none is_nothing spelled ready = void_form form is void (λ valued. is_nothing) spelled ready
  rest_form form is void false false is_none is_nothing spelled ready = dropped_form t flow setting running levels at around good made from expr spare to is_none spelled now later tasks slots base ready cont

  work_form : (form : Form t.Expr t.Stmt) → t.form expr ≡ form → (is_void (value_kind t expr) ≡ true → is_void (kind_made t expr form) ≡ true) →
      IsSpelled flow made from (along_line t around (go levels t around) made from (work_line t expr spare made.registers form) to) → At (left_by_work t (left_of t) expr form) → Goal
  work_form (Binary Comma one other) is void spelled ready = comma_work t flow setting running levels at around good made from expr one other spare to is void spelled now later tasks slots base ready cont
  work_form form is void spelled ready = rest_form form is void (is_void (value_kind t expr)) (leaves_nothing t form) refl refl spelled ready

  -- what has no value may have arms or statements
  placed_form : (form : Form t.Expr t.Stmt) → t.form expr ≡ form → is_void (value_kind t expr) ≡ true → is_void (kind_made t expr form) ≡ true → IsSpelled flow made from (place_void t (go levels t) around made from expr spare to form) →
      At (left_by_work t (left_of t) expr form) → Goal
  placed_form (Choose test one other) is none made_none spelled ready =
      choose_work t flow setting running levels at around good made from expr test one other spare to is none spelled now later tasks slots base
      (subst (λ (void : Bool). At (if void then left_by_value t (left_of t) expr false (Choose test one other) else max 1 (left_of t (AsValue true) expr))) none ready) cont
  placed_form (Inner body close) is none made_none spelled ready =
      inner_work t flow setting running levels at does valid body close around good made from expr spare to is made_none
      (subst (λ (void : Bool). IsSpelled flow made from (if void then place_inner t (go levels t) around made from expr body close spare to else failed made)) made_none spelled) now later tasks slots base
      (left_by_work t (left_of t) expr (Inner body close)) ready
      (subst (λ (kind : Kind). Rest t flow setting running around (later ++ now) [] tasks (let_go kind ∷ slots) to) (no_kind (value_kind t expr) none) cont)
  placed_form form is none made_none spelled ready = work_form form is (λ void. made_none) spelled ready

  by_kind : (form : Form t.Expr t.Stmt) → t.form expr ≡ form → (none made_none : Bool) → is_void (value_kind t expr) ≡ none → is_void (kind_made t expr form) ≡ made_none →
      IsSpelled flow made from (if none then (if made_none then place_void t (go levels t) around made from expr spare to form else failed made)
      else along_line t around (go levels t around) made from (work_line t expr spare made.registers form) to) → At (left_by_work t (left_of t) expr form) → Goal
  by_kind form is true true no_value no_made spelled ready = placed_form form is no_value no_made spelled ready
  by_kind form is true false no_value no_made spelled ready = absurd (false≢true spelled.graph)
  by_kind form is false made_none no_value no_made spelled ready = work_form form is (λ void. absurd (false≢true (sym no_value ∙ void))) spelled ready

pub work_joined : (t : Text) (flow : Flow) (setting : Setting) (running : Running) (valid : IsFlow flow) → AreCalled t flow setting running → (levels : ℕ) → IsAt t flow setting running levels → DoesIs t flow setting running levels → suc levels ≤ t.enough →
    WorkIs t flow setting running (suc levels)
work_joined t flow setting running valid called levels at does less around good made from expr spare to spelled now later tasks slots base ready cont =
    let stays = work_left t levels less around made from expr spare to spelled.inside spelled.sound spelled.graph in
    by_kind t flow setting running valid called levels at does around good made from expr spare to now later tasks slots base cont (t.form expr) refl (is_void (value_kind t expr)) (is_void (kind_made t expr (t.form expr))) refl refl spelled
    (subst (λ (left : ℕ). Ready t flow setting running around now later tasks base made.registers slots spare left) (sym stays) ready)
