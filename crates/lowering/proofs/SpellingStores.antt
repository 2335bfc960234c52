-- What is placed for assignments is what the rest of a run wants: whether their value is used or not.
use Rattle.std.proofs.Common.{◌≡◌, ◌≤◌, ℕ, ◌+◌, max, List, [], ◌∷◌, ◌++◌, Bool, true, false, nat_eq, nat_le, refl, sym, arith, None, Some, ◌∙◌, subst, if◌then◌else◌}
use Rattle.std.proofs.lemmas.Bool.{false≢true}
use Rattle.c_machine.specs.declared.kind.Kind.{Kind}
use Rattle.c_machine.specs.declared.kind.Kind.TheVariants.{Integer, Pointer, Array, Struct, Void}
use Rattle.c_machine.specs.declared.task.Task.TheVariants.{ValueOf, AddressOf, Convert, Store, CopyStruct}
use Rattle.c_machine.specs.Text.{Assign, Text}
use Rattle.c_machine.specs.State.{TaskIn}
use Rattle.c_machine.specs.Expressions.{value_kind, assign_parts}
use Rattle.c_machine.specs.Words.{scalar_bytes}
use Rattle.flow.specs.declared.flow_graph.Flow.{Flow}
use Rattle.flow.specs.declared.flow_graph.Standing.{Standing as Stood}
use Rattle.flow.specs.declared.instruction.Instr.TheVariants as i
use Rattle.simulation.specs.Running.{Setting, Running}
use Rattle.simulation.specs.Slots.{Slot, InRegister, KnownAs, Gone}
use Rattle.simulation.specs.Lowered.{Stop, Stores, StoresKept, CopiesStruct}
use Rattle.lowering.specs.Kinds.{is_void, fits}
use Rattle.lowering.specs.LetGo.{AsPlace, left_of, left_as, left_by_assign}
use Rattle.lowering.specs.Moves.{Move, Emits, Converts, Locates, Fails}
use Rattle.lowering.specs.Table.{store_line, assign_line, assigned}
use Rattle.lowering.specs.Placing.{Made, Around, Begin, New, Goes, with_point, with_registers, stands_at, after, begins, along_from, along_at, along, along_line, go}
use Rattle.lowering.proofs.KindFacts.{IsAsPlain, fitted, scalar_slot, both_free, let_go}
use Rattle.lowering.proofs.LeftOf.{own_place, own_as}
use Rattle.lowering.proofs.Modes.{IsAround, Rest, Ready, IsAt}
use Rattle.lowering.proofs.Placings.{IsSpelled, spelled_registers}
use Rattle.lowering.proofs.Ready.{free_beside, IsTarget, own_target, part_ready, slot_ready, own_free, mid, head_spelled, tail_spelled, fills, one_at, never}
use Rattle.lowering.proofs.Spelling.{Wanted, unfolds, made_fits, not_void, lets_go, FormIs, WorkFormIs}

module _ (t : Text) (flow : Flow) (setting : Setting) (running : Running) where
  abbrev Goes_on : Around → List (Stop t) → List (Stop t) → List (TaskIn t) → List Slot → ℕ → Type 0
  Goes_on around now later tasks slots point = Rest t flow setting running around now later tasks slots point

  -- a store whose value is not used
  store_form : (levels : ℕ) → IsAt t flow setting running levels → (around : Around) → IsAround setting around → (made : Made) (from : ℕ) (expr one other : t.Expr) (spare to bytes total : ℕ) (kind : Kind) → scalar_bytes kind ≡ Some bytes →
      left_of t (AsPlace false) one ≤ total → left_as t (left_of t) other false kind ≤ total →
      IsSpelled flow made from (along_line t around (go levels t around) made from (store_line t expr one other spare None made.registers kind (Some bytes)) to) →
      (now later : List (Stop t)) (tasks : List (TaskIn t)) (slots : List Slot) (base : ℕ) → Ready t flow setting running around now later tasks base made.registers slots spare total →
      Goes_on around (later ++ now) [] tasks (Gone ∷ slots) to →
      Goes_on around now later (AddressOf one ∷ ValueOf other ∷ Convert (value_kind t other) kind ∷ Store (t.place one) kind ∷ tasks) slots from
  store_form levels at around good made from expr one other spare to bytes total kind is within within' spelled now later tasks slots base ready cont =
      let r : ℕ = made.registers in
      let made1 : Made = with_registers 2 made in
      let first_move : Move t = Locates one spare r in
      let standing : Stood = after t first_move (stands_at made1 from) in
      let second_move : Move t = Converts other kind spare (r + 1) in
      let standing' : Stood = after t second_move standing in
      let last : Move t = Emits (i.Write r (r + 1) bytes) (t.place one) in
      let spelled1 = spelled_registers 2 spelled in
      let first = head_spelled t flow setting running levels around made1 from standing first_move (second_move ∷ last ∷ []) to spelled1 in
      let rest = tail_spelled t flow setting running levels around made1 from standing first_move (second_move ∷ last ∷ []) to spelled1 in
      let h = fills t flow setting running levels around made1 from standing first_move spelled1.inside spelled1.sound in
      let made2 : Made = mid t flow setting running levels around made1 from standing first_move in
      let second = head_spelled t flow setting running levels around made2 made.points standing' second_move (last ∷ []) to rest in
      let end = tail_spelled t flow setting running levels around made2 made.points standing' second_move (last ∷ []) to rest in
      let free_r = own_free r ready (omega arith) in
      let free_s = own_free (r + 1) ready (omega arith) in
      let gives = scalar_slot kind bytes is in
      let room = ready.room in
      let less = own_place t one spare total r room within in
      let less' = own_as t other kind spare total (r + 1) (omega arith) within' in
      at.place around good (with_point standing made1) from one spare r made.points first now later (ValueOf other ∷ Convert (value_kind t other) kind ∷ Store (t.place one) kind ∷ tasks) slots base
      (part_ready (r + 2) (left_of t (AsPlace (nat_eq r spare)) one) ready (omega arith) less) (own_target (r + 2) r ready.own (omega arith) (omega arith) free_r)
      (λ plain. at.convert around good (with_point standing' made2) made.points other kind spare (r + 1) made2.points second (later ++ now) [] (Store (t.place one) kind ∷ tasks) (InRegister r 8 plain ∷ slots) base
      (slot_ready made2.registers (left_as t (left_of t) other (nat_eq (r + 1) spare) kind) r 8 plain ready (omega arith) less' (omega arith) (omega arith))
      (λ void. own_target made2.registers (r + 1) ready.own (omega arith) (omega arith) (free_beside (r + 1) r 8 plain slots (λ same. absurd (omega arith)) free_s))
      (λ plain' number. subst (λ (slot : Slot). Goes_on around (later ++ now) [] (Store (t.place one) kind ∷ tasks) (slot ∷ InRegister r 8 plain ∷ slots) made2.points) (sym (gives (r + 1) plain'))
      (Stores kind (t.place one) bytes r (r + 1) bytes 8 to plain plain' is ready.whole (both_free r (r + 1) slots free_r free_s)
      (one_at t flow setting running levels around (mid t flow setting running levels around made2 made.points standing' second_move) made2.points to (i.Write r (r + 1) bytes) (t.place one) end) cont)))

  -- and one whose value is kept in a register
  kept_form : (levels : ℕ) → IsAt t flow setting running levels → (around : Around) → IsAround setting around → (made : Made) (from : ℕ) (expr one other : t.Expr) (spare into to bytes total : ℕ) (kind : Kind) → scalar_bytes kind ≡ Some bytes →
      left_of t (AsPlace false) one ≤ total → left_as t (left_of t) other false kind ≤ total →
      IsSpelled flow made from (along_line t around (go levels t around) made from (store_line t expr one other spare (Some into) made.registers kind (Some bytes)) to) →
      (now later : List (Stop t)) (tasks : List (TaskIn t)) (slots : List Slot) (base : ℕ) → Ready t flow setting running around now later tasks base made.registers slots spare total →
      IsTarget made.registers slots base spare total into → ((plain : Bool) → IsAsPlain kind plain → Goes_on around (later ++ now) [] tasks (InRegister into bytes plain ∷ slots) to) →
      Goes_on around now later (AddressOf one ∷ ValueOf other ∷ Convert (value_kind t other) kind ∷ Store (t.place one) kind ∷ tasks) slots from
  kept_form levels at around good made from expr one other spare into to bytes total kind is within within' spelled now later tasks slots base ready target cont =
      let r : ℕ = made.registers in
      let made1 : Made = with_registers 2 made in
      let first_move : Move t = Locates one spare r in
      let standing : Stood = after t first_move (stands_at made1 from) in
      let second_move : Move t = Converts other kind spare (r + 1) in
      let standing' : Stood = after t second_move standing in
      let third_move : Move t = Emits (i.Move into (r + 1)) (t.place expr) in
      let standing'' : Stood = after t third_move standing' in
      let last : Move t = Emits (i.Write r (r + 1) bytes) (t.place one) in
      let spelled1 = spelled_registers 2 spelled in
      let first = head_spelled t flow setting running levels around made1 from standing first_move (second_move ∷ third_move ∷ last ∷ []) to spelled1 in
      let rest = tail_spelled t flow setting running levels around made1 from standing first_move (second_move ∷ third_move ∷ last ∷ []) to spelled1 in
      let h = fills t flow setting running levels around made1 from standing first_move spelled1.inside spelled1.sound in
      let made2 : Made = mid t flow setting running levels around made1 from standing first_move in
      let second = head_spelled t flow setting running levels around made2 made.points standing' second_move (third_move ∷ last ∷ []) to rest in
      let rest' = tail_spelled t flow setting running levels around made2 made.points standing' second_move (third_move ∷ last ∷ []) to rest in
      let made3 : Made = mid t flow setting running levels around made2 made.points standing' second_move in
      let third = head_spelled t flow setting running levels around made3 made2.points standing'' third_move (last ∷ []) to rest' in
      let end = tail_spelled t flow setting running levels around made3 made2.points standing'' third_move (last ∷ []) to rest' in
      let free_r = own_free r ready (omega arith) in
      let free_s = own_free (r + 1) ready (omega arith) in
      let gives = scalar_slot kind bytes is in
      let room = ready.room in
      let k = target.within in
      let less = own_place t one spare total r room within in
      let less' = own_as t other kind spare total (r + 1) (omega arith) within' in
      at.place around good (with_point standing made1) from one spare r made.points first now later (ValueOf other ∷ Convert (value_kind t other) kind ∷ Store (t.place one) kind ∷ tasks) slots base
      (part_ready (r + 2) (left_of t (AsPlace (nat_eq r spare)) one) ready (omega arith) less) (own_target (r + 2) r ready.own (omega arith) (omega arith) free_r)
      (λ plain. at.convert around good (with_point standing' made2) made.points other kind spare (r + 1) made2.points second (later ++ now) [] (Store (t.place one) kind ∷ tasks) (InRegister r 8 plain ∷ slots) base
      (slot_ready made2.registers (left_as t (left_of t) other (nat_eq (r + 1) spare) kind) r 8 plain ready (omega arith) less' (omega arith) (omega arith))
      (λ void. own_target made2.registers (r + 1) ready.own (omega arith) (omega arith) (free_beside (r + 1) r 8 plain slots (λ same. absurd (omega arith)) free_s))
      (λ plain' number. subst (λ (slot : Slot). Goes_on around (later ++ now) [] (Store (t.place one) kind ∷ tasks) (slot ∷ InRegister r 8 plain ∷ slots) made2.points) (sym (gives (r + 1) plain'))
      (StoresKept kind (t.place one) (t.place expr) bytes r (r + 1) into bytes 8 made3.points to plain plain' is ready.whole (both_free r (r + 1) slots free_r free_s)
      (free_beside into (r + 1) bytes plain' (InRegister r 8 plain ∷ slots) (λ same. absurd (omega arith)) (free_beside into r 8 plain slots (λ same. absurd (omega arith)) target.free))
      (one_at t flow setting running levels around (with_point standing'' made3) made2.points made3.points (i.Move into (r + 1)) (t.place expr) third)
      (one_at t flow setting running levels around (mid t flow setting running levels around made3 made2.points standing'' third_move) made3.points to (i.Write r (r + 1) bytes) (t.place one) end)
      (cont plain' number))))

  -- both addresses of a struct that is copied
  two_places : (levels : ℕ) → IsAt t flow setting running levels → (around : Around) → IsAround setting around → (made : Made) (from : ℕ) (one other : t.Expr) (move : Move t) (moves : List (Move t)) (spare to total : ℕ) →
      ((standing : Stood) → begins t around standing (move ∷ moves) to ≡ New) → left_of t (AsPlace false) one ≤ total → left_of t (AsPlace false) other ≤ total →
      IsSpelled flow made from (along t around (go levels t around) (with_registers 2 made) from (Locates one spare made.registers ∷ Locates other spare (made.registers + 1) ∷ move ∷ moves) to) →
      (now later : List (Stop t)) (tasks : List (TaskIn t)) (slots : List Slot) (base : ℕ) → Ready t flow setting running around now later tasks base made.registers slots spare total →
      ((made' : Made) (point : ℕ) (standing : Stood) (plain plain' : Bool) → IsSpelled flow made' point (along_at t around (go levels t around) made' point standing (move ∷ moves) to) →
      Goes_on around (later ++ now) [] tasks (InRegister (made.registers + 1) 8 plain' ∷ InRegister made.registers 8 plain ∷ slots) point) →
      Goes_on around now later (AddressOf one ∷ AddressOf other ∷ tasks) slots from
  two_places levels at around good made from one other move moves spare to total new within within' spelled now later tasks slots base ready cont =
      let r : ℕ = made.registers in
      let made1 : Made = with_registers 2 made in
      let first_move : Move t = Locates one spare r in
      let standing : Stood = after t first_move (stands_at made1 from) in
      let second_move : Move t = Locates other spare (r + 1) in
      let standing' : Stood = after t second_move standing in
      let spelled1 = spelled_registers 2 spelled in
      let first = head_spelled t flow setting running levels around made1 from standing first_move (second_move ∷ move ∷ moves) to spelled1 in
      let rest = tail_spelled t flow setting running levels around made1 from standing first_move (second_move ∷ move ∷ moves) to spelled1 in
      let h = fills t flow setting running levels around made1 from standing first_move spelled1.inside spelled1.sound in
      let made2 : Made = mid t flow setting running levels around made1 from standing first_move in
      let rest' = subst (λ (b : Begin). IsSpelled flow made2 made.points (along_from t (λ made' point. along_at t around (go levels t around) made' point standing' (move ∷ moves) to) (go levels t around) made2 made.points second_move standing' Goes b))
      (new standing') rest in
      let second = head_spelled t flow setting running levels around made2 made.points standing' second_move (move ∷ moves) to rest' in
      let end = tail_spelled t flow setting running levels around made2 made.points standing' second_move (move ∷ moves) to rest' in
      let free_r = own_free r ready (omega arith) in
      let free_s = own_free (r + 1) ready (omega arith) in
      let room = ready.room in
      let less = own_place t one spare total r room within in
      let less' = own_place t other spare total (r + 1) (omega arith) within' in
      at.place around good (with_point standing made1) from one spare r made.points first now later (AddressOf other ∷ tasks) slots base
      (part_ready (r + 2) (left_of t (AsPlace (nat_eq r spare)) one) ready (omega arith) less) (own_target (r + 2) r ready.own (omega arith) (omega arith) free_r)
      (λ plain. at.place around good (with_point standing' made2) made.points other spare (r + 1) made2.points second (later ++ now) [] tasks (InRegister r 8 plain ∷ slots) base
      (slot_ready made2.registers (left_of t (AsPlace (nat_eq (r + 1) spare)) other) r 8 plain ready (omega arith) less' (omega arith) (omega arith))
      (own_target made2.registers (r + 1) ready.own (omega arith) (omega arith) (free_beside (r + 1) r 8 plain slots (λ same. absurd (omega arith)) free_s))
      (λ plain'. cont (mid t flow setting running levels around made2 made.points standing' second_move) made2.points standing' plain plain' end))

  -- a struct is copied: the machine holds a 0 behind it
  copy_form : (levels : ℕ) → IsAt t flow setting running levels → (around : Around) → IsAround setting around → (made : Made) (from : ℕ) (expr one other : t.Expr) (spare to bytes : ℕ) (small : Bool) →
      IsSpelled flow made from (along t around (go levels t around) (with_registers 2 made) from (Locates one spare made.registers ∷ Locates other spare (made.registers + 1)
      ∷ ((if small then Emits (i.Copy made.registers (made.registers + 1) bytes false) (t.place expr) ∷ [] else Fails ∷ []) ++ [])) to) →
      (now later : List (Stop t)) (tasks : List (TaskIn t)) (slots : List Slot) (base : ℕ) →
      Ready t flow setting running around now later tasks base made.registers slots spare (max (left_of t (AsPlace false) one) (left_of t (AsPlace false) other)) →
      Goes_on around (later ++ now) [] tasks (KnownAs 0 ∷ slots) to → Goes_on around now later (AddressOf one ∷ AddressOf other ∷ CopyStruct (t.place expr) bytes ∷ tasks) slots from
  copy_form levels at around good made from expr one other spare to bytes true spelled now later tasks slots base ready cont =
      let total : ℕ = max (left_of t (AsPlace false) one) (left_of t (AsPlace false) other) in
      let r : ℕ = made.registers in
      two_places levels at around good made from one other (Emits (i.Copy r (r + 1) bytes false) (t.place expr)) [] spare to total (λ standing. refl) (omega arith) (omega arith) spelled now later (CopyStruct (t.place expr) bytes ∷ tasks) slots base ready
      (λ made' point standing plain plain' end. CopiesStruct (t.place expr) bytes r (r + 1) 8 8 to plain plain' ready.whole (both_free r (r + 1) slots (own_free r ready (omega arith)) (own_free (r + 1) ready (omega arith)))
      (one_at t flow setting running levels around made' point to (i.Copy r (r + 1) bytes false) (t.place expr) end) cont)
  copy_form levels at around good made from expr one other spare to bytes false spelled now later tasks slots base ready cont =
      let total : ℕ = max (left_of t (AsPlace false) one) (left_of t (AsPlace false) other) in
      two_places levels at around good made from one other Fails [] spare to total (λ standing. refl) (omega arith) (omega arith) spelled now later (CopyStruct (t.place expr) bytes ∷ tasks) slots base ready
      (λ made' point standing plain plain' end. never t flow setting running levels around made' point to end)

  assign_work : (levels : ℕ) → IsAt t flow setting running levels → (around : Around) → IsAround setting around → (made : Made) (from : ℕ) (expr one other : t.Expr) (spare to : ℕ) (kind : Kind) →
      (is_void (value_kind t expr) ≡ true → is_void (assigned kind) ≡ true) →
      IsSpelled flow made from (along_line t around (go levels t around) made from (assign_line t expr one other spare None made.registers kind) to) →
      (now later : List (Stop t)) (tasks : List (TaskIn t)) (slots : List Slot) (base : ℕ) →
      Ready t flow setting running around now later tasks base made.registers slots spare (left_by_assign t (left_of t) one other kind) →
      Goes_on around (later ++ now) [] tasks (let_go (value_kind t expr) ∷ slots) to → Goes_on around now later (assign_parts t (t.place expr) one other kind ++ tasks) slots from
  assign_work levels at around good made from expr one other spare to (Integer of) void spelled now later tasks slots base ready cont =
      store_form levels at around good made from expr one other spare to of.bytes (left_by_assign t (left_of t) one other (Integer of)) (Integer of) refl (omega arith) (omega arith) spelled now later tasks slots base ready
      (lets_go t flow setting running around (later ++ now) [] tasks slots to (value_kind t expr) (Integer of) void cont)
  assign_work levels at around good made from expr one other spare to (Pointer item) void spelled now later tasks slots base ready cont =
      store_form levels at around good made from expr one other spare to 8 (left_by_assign t (left_of t) one other (Pointer item)) (Pointer item) refl (omega arith) (omega arith) spelled now later tasks slots base ready
      (lets_go t flow setting running around (later ++ now) [] tasks slots to (value_kind t expr) (Pointer item) void cont)
  assign_work levels at around good made from expr one other spare to (Struct bytes) void spelled now later tasks slots base ready cont =
      copy_form levels at around good made from expr one other spare to bytes (nat_le bytes 65536) spelled now later tasks slots base ready
      (lets_go t flow setting running around (later ++ now) [] tasks slots to (value_kind t expr) Void void cont)
  assign_work levels at around good made from expr one other spare to (Array item) void spelled now later tasks slots base ready cont =
      never t flow setting running levels around (with_registers 0 made) from to (spelled_registers 0 spelled)
  assign_work levels at around good made from expr one other spare to Void void spelled now later tasks slots base ready cont =
      never t flow setting running levels around (with_registers 0 made) from to (spelled_registers 0 spelled)

  pub assign_work_form : (levels : ℕ) → IsAt t flow setting running levels → (one other : t.Expr) → WorkFormIs t flow setting running levels (Assign None one other)
  assign_work_form levels at one other around good made from expr spare to is void spelled now later tasks slots base ready cont =
      unfolds t flow setting running around now later tasks slots from expr (Assign None one other) is
      (assign_work levels at around good made from expr one other spare to (t.kind one) void spelled now later tasks slots base ready cont)

  -- the value of an assignment
  assign_value : (levels : ℕ) → IsAt t flow setting running levels → (around : Around) → IsAround setting around → (made : Made) (from : ℕ) (expr one other : t.Expr) (spare into to : ℕ) (kind : Kind) →
      fits (assigned kind) (value_kind t expr) ≡ true → is_void (value_kind t expr) ≡ false →
      IsSpelled flow made from (along_line t around (go levels t around) made from (assign_line t expr one other spare (Some into) made.registers kind) to) →
      (now later : List (Stop t)) (tasks : List (TaskIn t)) (slots : List Slot) (base : ℕ) →
      Ready t flow setting running around now later tasks base made.registers slots spare (left_by_assign t (left_of t) one other kind) →
      IsTarget made.registers slots base spare (left_by_assign t (left_of t) one other kind) into → Wanted t flow setting running around now later tasks slots into to (value_kind t expr) →
      Goes_on around now later (assign_parts t (t.place expr) one other kind ++ tasks) slots from
  assign_value levels at around good made from expr one other spare into to (Integer of) same void spelled now later tasks slots base ready target cont =
      let gives = fitted (Integer of) (value_kind t expr) same void in
      kept_form levels at around good made from expr one other spare into to of.bytes (left_by_assign t (left_of t) one other (Integer of)) (Integer of) refl (omega arith) (omega arith) spelled now later tasks slots base ready target
      (λ plain number. subst (λ (n : ℕ). Goes_on around (later ++ now) [] tasks (InRegister into n plain ∷ slots) to) (sym gives.0) (cont plain (λ asked. number (gives.1 asked))))
  assign_value levels at around good made from expr one other spare into to (Pointer item) same void spelled now later tasks slots base ready target cont =
      let gives = fitted (Pointer item) (value_kind t expr) same void in
      kept_form levels at around good made from expr one other spare into to 8 (left_by_assign t (left_of t) one other (Pointer item)) (Pointer item) refl (omega arith) (omega arith) spelled now later tasks slots base ready target
      (λ plain number. subst (λ (n : ℕ). Goes_on around (later ++ now) [] tasks (InRegister into n plain ∷ slots) to) (sym gives.0) (cont plain (λ asked. number (gives.1 asked))))
  assign_value levels at around good made from expr one other spare into to (Struct bytes) same void spelled now later tasks slots base ready target cont = absurd (false≢true (sym void ∙ same))
  assign_value levels at around good made from expr one other spare into to (Array item) same void spelled now later tasks slots base ready target cont =
      never t flow setting running levels around (with_registers 0 made) from to (spelled_registers 0 spelled)
  assign_value levels at around good made from expr one other spare into to Void same void spelled now later tasks slots base ready target cont =
      never t flow setting running levels around (with_registers 0 made) from to (spelled_registers 0 spelled)

  pub assign_form : (levels : ℕ) → IsAt t flow setting running levels → (one other : t.Expr) → FormIs t flow setting running levels (Assign None one other)
  assign_form levels at one other around good made from expr spare into to is shown spelled now later tasks slots base ready target cont =
      unfolds t flow setting running around now later tasks slots from expr (Assign None one other) is
      (assign_value levels at around good made from expr one other spare into to (t.kind one) (made_fits t flow setting running expr (Assign None one other) shown) (not_void t flow setting running expr (Assign None one other) shown)
      spelled now later tasks slots base ready target cont)
