-- What is placed for values is what the rest of a run wants: constants, what has none, names, `&`, `*`, items of arrays, members, an assertion that fails, commas,
-- and values that are dropped.
use Rattle.std.proofs.Common.{◌≡◌, ℕ, ◌+◌, max, List, [], ◌∷◌, ◌++◌, Bool, true, false, nat_eq, refl, sym, ap, arith, None, Some, subst}
use Rattle.std.proofs.lemmas.Bool.{eq-eqb}
use Rattle.cbase.specs.declared.tree.operators.BinaryOp.TheVariants.{Comma}
use Rattle.cbase.specs.declared.tree.operators.UnaryOp.TheVariants.{Address, Follow}
use Rattle.c_machine.specs.declared.task.Task.TheVariants.{ValueOf, Drop}
use Rattle.c_machine.specs.Text.{Standing, ConstantStands, Name as NameForm, Known, Unary, Binary, Index, Member, AssertFail, Text}
use Rattle.c_machine.specs.State.{TaskIn}
use Rattle.c_machine.specs.Expressions.{value_kind, name_parts}
use Rattle.c_machine.specs.Words.{scalar_bytes}
use Rattle.flow.specs.declared.flow_graph.Flow.{Flow}
use Rattle.flow.specs.declared.flow_graph.Standing.{Standing as Stood}
use Rattle.flow.specs.declared.instruction.Instr.TheVariants as i
use Rattle.simulation.specs.Running.{Setting, Running}
use Rattle.simulation.specs.Slots.{Slot, InRegister}
use Rattle.simulation.specs.Lowered.{Stop, Forgets, Drops, IsNothing, FailsAssertion}
use Rattle.lowering.specs.Kinds.{width, is_void, is_address}
use Rattle.lowering.specs.LetGo.{AsValue, AsPlace, AsWork, left_of, left_by_load}
use Rattle.lowering.specs.Moves.{Move, Emits, Evaluates, Works}
use Rattle.lowering.specs.Table.{name_line, dropped_line}
use Rattle.lowering.specs.Placing.{Made, Around, with_point, with_registers, stands_at, after, along, along_line, go}
use Rattle.lowering.proofs.KindFacts.{fits_pointer, of_address, address_width, fitted, let_go, in_let_go, let_go_made}
use Rattle.lowering.proofs.LeftOf.{name_load}
use Rattle.lowering.proofs.Modes.{IsAround, Rest, Ready, IsAt}
use Rattle.lowering.proofs.Placings.{IsSpelled, spelled_registers}
use Rattle.lowering.proofs.Ready.{IsTarget, same_target, part_ready, mid, head_spelled, tail_spelled, fills, one_at, none_at}
use Rattle.lowering.proofs.Spelling.{Wanted, unfolds, number_form, load_form, made_fits, not_void, lets_go, FormIs}

module _ (t : Text) (flow : Flow) (setting : Setting) (running : Running) where
  abbrev Goes_on : Around → List (Stop t) → List (Stop t) → List (TaskIn t) → List Slot → ℕ → Type 0
  Goes_on around now later tasks slots point = Rest t flow setting running around now later tasks slots point

  -- the value of a name
  name_value : (levels : ℕ) → IsAt t flow setting running levels → (around : Around) → IsAround setting around → (made : Made) (from : ℕ) (expr : t.Expr) (spare into to : ℕ) (standing : Standing) →
      is_void (value_kind t expr) ≡ false →
      IsSpelled flow made from (along_line t around (go levels t around) made from (name_line t expr spare into made.registers standing) to) →
      (now later : List (Stop t)) (tasks : List (TaskIn t)) (slots : List Slot) (base : ℕ) →
      Ready t flow setting running around now later tasks base made.registers slots spare 0 → IsTarget made.registers slots base spare 0 into →
      (left_by_load t (left_of t) expr (nat_eq into spare) (scalar_bytes (t.kind expr)) ≡ 0) → Wanted t flow setting running around now later tasks slots into to (value_kind t expr) →
      Goes_on around now later (name_parts t expr standing ++ tasks) slots from
  name_value levels at around good made from expr spare into to (ConstantStands bits) made_as spelled now later tasks slots base ready target none cont =
      number_form t flow setting running levels around (with_registers 0 made) from into to bits (value_kind t expr) (t.place expr) (spelled_registers 0 spelled) now later tasks slots target.free cont
  name_value levels at around good made from expr spare into to standing made_as spelled now later tasks slots base ready target none cont =
      load_form t flow setting running levels at around good made from expr spare into to (scalar_bytes (t.kind expr)) refl made_as spelled now later tasks slots base
      (subst (λ (left : ℕ). Ready t flow setting running around now later tasks base made.registers slots spare left) (sym none) ready)
      (subst (λ (left : ℕ). IsTarget made.registers slots base spare left into) (sym none) target) cont

  pub known_form : (levels bits : ℕ) → FormIs t flow setting running levels (Known (Some bits))
  known_form levels bits around good made from expr spare into to is shown spelled now later tasks slots base ready target cont =
      unfolds t flow setting running around now later tasks slots from expr (Known (Some bits)) is
      (number_form t flow setting running levels around (with_registers 0 made) from into to bits (value_kind t expr) (t.place expr) (spelled_registers 0 spelled) now later tasks slots target.free cont)

  pub unknown_form : (levels : ℕ) → FormIs t flow setting running levels (Known None)
  unknown_form levels around good made from expr spare into to is shown spelled now later tasks slots base ready target cont =
      unfolds t flow setting running around now later tasks slots from expr (Known None) is
      (IsNothing (none_at t flow setting running levels around (with_registers 0 made) from to (spelled_registers 0 spelled)))

  pub assert_form : (levels : ℕ) → FormIs t flow setting running levels AssertFail
  assert_form levels around good made from expr spare into to is shown spelled now later tasks slots base ready target cont =
      unfolds t flow setting running around now later tasks slots from expr AssertFail is
      (FailsAssertion (none_at t flow setting running levels around (with_registers 0 made) from to (spelled_registers 0 spelled)))

  pub named_form : (levels : ℕ) → IsAt t flow setting running levels → FormIs t flow setting running levels NameForm
  named_form levels at around good made from expr spare into to is shown spelled now later tasks slots base ready target cont =
      unfolds t flow setting running around now later tasks slots from expr NameForm is
      (name_value levels at around good made from expr spare into to (t.stands expr) (not_void t flow setting running expr NameForm shown) spelled now later tasks slots base ready target (name_load t expr (nat_eq into spare) is) cont)

  pub follow_form : (levels : ℕ) → IsAt t flow setting running levels → (arg : t.Expr) → FormIs t flow setting running levels (Unary Follow arg)
  follow_form levels at arg around good made from expr spare into to is shown spelled now later tasks slots base ready target cont =
      unfolds t flow setting running around now later tasks slots from expr (Unary Follow arg) is
      (load_form t flow setting running levels at around good made from expr spare into to (scalar_bytes (t.kind expr)) refl (not_void t flow setting running expr (Unary Follow arg) shown) spelled now later tasks slots base ready target cont)

  pub index_form : (levels : ℕ) → IsAt t flow setting running levels → (array index : t.Expr) → FormIs t flow setting running levels (Index array index)
  index_form levels at array index around good made from expr spare into to is shown spelled now later tasks slots base ready target cont =
      unfolds t flow setting running around now later tasks slots from expr (Index array index) is
      (load_form t flow setting running levels at around good made from expr spare into to (scalar_bytes (t.kind expr)) refl (not_void t flow setting running expr (Index array index) shown) spelled now later tasks slots base ready target cont)

  pub member_form : (levels : ℕ) → IsAt t flow setting running levels → (object : t.Expr) (bytes : ℕ) (through : Bool) → FormIs t flow setting running levels (Member object bytes through)
  member_form levels at object bytes through around good made from expr spare into to is shown spelled now later tasks slots base ready target cont =
      unfolds t flow setting running around now later tasks slots from expr (Member object bytes through) is
      (load_form t flow setting running levels at around good made from expr spare into to (scalar_bytes (t.kind expr)) refl (not_void t flow setting running expr (Member object bytes through) shown) spelled now later tasks slots base ready
      target cont)

  pub address_form : (levels : ℕ) → IsAt t flow setting running levels → (arg : t.Expr) → FormIs t flow setting running levels (Unary Address arg)
  address_form levels at arg around good made from expr spare into to is shown spelled now later tasks slots base ready target cont =
      let address : is_address (value_kind t expr) ≡ true = fits_pointer 1 (value_kind t expr) (made_fits t flow setting running expr (Unary Address arg) shown) in
      let left : ℕ = left_of t (AsPlace (nat_eq into spare)) arg in
      unfolds t flow setting running around now later tasks slots from expr (Unary Address arg) is
      (at.place around good (with_registers 0 made) from arg spare into to (spelled_registers 0 spelled) now later tasks slots base
      (part_ready (made.registers + 0) left ready (omega arith) (omega arith)) (same_target (made.registers + 0) left target (omega arith) (omega arith))
      (λ plain. subst (λ (n : ℕ). Goes_on around (later ++ now) [] tasks (InRegister into n plain ∷ slots) to) (address_width (value_kind t expr) address)
      (cont plain (of_address (value_kind t expr) plain address))))

  -- two expressions one behind the other
  pub comma_form : (levels : ℕ) → IsAt t flow setting running levels → (one other : t.Expr) → FormIs t flow setting running levels (Binary Comma one other)
  comma_form levels at one other around good made from expr spare into to is shown spelled now later tasks slots base ready target cont =
      let made1 : Made = with_registers 0 made in
      let first_move : Move t = Works one spare in
      let standing : Stood = after t first_move (stands_at made1 from) in
      let next : Move t = Evaluates other spare into in
      let spelled1 = spelled_registers 0 spelled in
      let first = head_spelled t flow setting running levels around made1 from standing first_move (next ∷ []) to spelled1 in
      let rest = tail_spelled t flow setting running levels around made1 from standing first_move (next ∷ []) to spelled1 in
      let h = fills t flow setting running levels around made1 from standing first_move spelled1.inside spelled1.sound in
      let made2 : Made = mid t flow setting running levels around made1 from standing first_move in
      let left : ℕ = left_of t AsWork one in
      let right : ℕ = left_of t (AsValue (nat_eq into spare)) other in
      let gives = fitted (value_kind t other) (value_kind t expr) (made_fits t flow setting running expr (Binary Comma one other) shown) (not_void t flow setting running expr (Binary Comma one other) shown) in
      unfolds t flow setting running around now later tasks slots from expr (Binary Comma one other) is
      (at.work around good (with_point standing made1) from one spare made.points first now later (Drop ∷ ValueOf other ∷ tasks) slots base
      (part_ready (made.registers + 0) left ready (omega arith) (omega arith))
      (Drops (let_go (value_kind t one)) (in_let_go (value_kind t one))
      (at.value around good made2 made.points other spare into to rest (later ++ now) [] tasks slots base
      (part_ready made2.registers right ready (omega arith) (omega arith)) (same_target made2.registers right target (omega arith) (omega arith))
      (λ plain number. subst (λ (n : ℕ). Goes_on around (later ++ now) [] tasks (InRegister into n plain ∷ slots) to) (sym gives.0) (cont plain (λ asked. number (gives.1 asked)))))))

  -- a value that is dropped, with a 0 over it
  pub dropped_form : (levels : ℕ) → IsAt t flow setting running levels → (around : Around) → IsAround setting around → (made : Made) (from : ℕ) (expr : t.Expr) (spare to : ℕ) → is_void (value_kind t expr) ≡ false →
      IsSpelled flow made from (along_line t around (go levels t around) made from (dropped_line t expr spare) to) →
      (now later : List (Stop t)) (tasks : List (TaskIn t)) (slots : List Slot) (base : ℕ) →
      Ready t flow setting running around now later tasks base made.registers slots spare (max 1 (left_of t (AsValue true) expr)) →
      Goes_on around (later ++ now) [] tasks (let_go (value_kind t expr) ∷ slots) to → Goes_on around now later (ValueOf expr ∷ tasks) slots from
  dropped_form levels at around good made from expr spare to is spelled now later tasks slots base ready cont =
      let made1 : Made = with_registers 0 made in
      let first_move : Move t = Evaluates expr spare spare in
      let standing : Stood = after t first_move (stands_at made1 from) in
      let next : Move t = Emits (i.Number spare 0 8) (t.place expr) in
      let spelled1 = spelled_registers 0 spelled in
      let first = head_spelled t flow setting running levels around made1 from standing first_move (next ∷ []) to spelled1 in
      let rest = tail_spelled t flow setting running levels around made1 from standing first_move (next ∷ []) to spelled1 in
      let room = ready.room in
      let free = ready.spares spare (omega arith) (omega arith) in
      let same : left_of t (AsValue (nat_eq spare spare)) expr ≡ left_of t (AsValue true) expr = ap (λ (b : Bool). left_of t (AsValue b) expr) (eq-eqb spare spare refl) in
      let left : ℕ = left_of t (AsValue (nat_eq spare spare)) expr in
      at.value around good (with_point standing made1) from expr spare spare made.points first now later tasks slots base
      (part_ready (made.registers + 0) left ready (omega arith) (omega arith))
      (record { within = omega arith; free = free; apart = λ register above below same. absurd (omega arith); own = ready.own })
      (λ plain number. Forgets spare (width (value_kind t expr)) 8 0 to plain (t.place expr)
      (one_at t flow setting running levels around (mid t flow setting running levels around made1 from standing first_move) made.points to (i.Number spare 0 8) (t.place expr) rest) free
      (subst (λ (slot : Slot). Goes_on around (later ++ now) [] tasks (slot ∷ slots) to) (let_go_made (value_kind t expr) is) cont))

  -- a comma whose value is not used
  pub comma_work : (levels : ℕ) → IsAt t flow setting running levels → (around : Around) → IsAround setting around → (made : Made) (from : ℕ) (expr one other : t.Expr) (spare to : ℕ) → t.form expr ≡ Binary Comma one other →
      (is_void (value_kind t expr) ≡ true → is_void (value_kind t other) ≡ true) →
      IsSpelled flow made from (along t around (go levels t around) (with_registers 0 made) from (Works one spare ∷ Works other spare ∷ []) to) →
      (now later : List (Stop t)) (tasks : List (TaskIn t)) (slots : List Slot) (base : ℕ) →
      Ready t flow setting running around now later tasks base made.registers slots spare (max (left_of t AsWork one) (left_of t AsWork other)) →
      Goes_on around (later ++ now) [] tasks (let_go (value_kind t expr) ∷ slots) to → Goes_on around now later (ValueOf expr ∷ tasks) slots from
  comma_work levels at around good made from expr one other spare to is void spelled now later tasks slots base ready cont =
      let made1 : Made = with_registers 0 made in
      let first_move : Move t = Works one spare in
      let standing : Stood = after t first_move (stands_at made1 from) in
      let next : Move t = Works other spare in
      let spelled1 = spelled_registers 0 spelled in
      let first = head_spelled t flow setting running levels around made1 from standing first_move (next ∷ []) to spelled1 in
      let rest = tail_spelled t flow setting running levels around made1 from standing first_move (next ∷ []) to spelled1 in
      let h = fills t flow setting running levels around made1 from standing first_move spelled1.inside spelled1.sound in
      let made2 : Made = mid t flow setting running levels around made1 from standing first_move in
      let left : ℕ = left_of t AsWork one in
      let right : ℕ = left_of t AsWork other in
      unfolds t flow setting running around now later tasks slots from expr (Binary Comma one other) is
      (at.work around good (with_point standing made1) from one spare made.points first now later (Drop ∷ ValueOf other ∷ tasks) slots base
      (part_ready (made.registers + 0) left ready (omega arith) (omega arith))
      (Drops (let_go (value_kind t one)) (in_let_go (value_kind t one))
      (at.work around good made2 made.points other spare to rest (later ++ now) [] tasks slots base
      (part_ready made2.registers right ready (omega arith) (omega arith))
      (lets_go t flow setting running around (later ++ now) [] tasks slots to (value_kind t expr) (value_kind t other) void cont))))
