-- What is placed for names, addresses of lvalues and loads is what the rest of a run wants.
use Rattle.std.proofs.Common.{◌≡◌, ℕ, ◌+◌, pos, List, [], ◌∷◌, ◌++◌, Bool, true, false, not, ◌&&◌, nat_eq, refl, sym, ap, ◌∙◌, arith, Option, None, Some, subst, if◌then◌else◌}
use Rattle.std.proofs.lemmas.Bool.{false≢true, eqb-true, and_parts}
use Rattle.std.proofs.lemmas.Option.{same_Some}
use Rattle.cbase.specs.declared.place.Place.{Place}
use Rattle.cbase.specs.declared.tree.operators.UnaryOp.TheVariants.{Follow}
use Rattle.c_machine.specs.declared.kind.Kind.{Kind}
use Rattle.c_machine.specs.declared.kind.Kind.TheVariants.{Integer, Pointer, Array, Struct, Void}
use Rattle.c_machine.specs.declared.task.Task.TheVariants.{Push, ValueOf, AddressOf, ObjectAt, Shift, Load}
use Rattle.c_machine.specs.Text.{Standing, ObjectStands, ConstantStands, BuiltInStands, BodyStands, NothingStands, Form, Name as NameForm, Unary, Member, Index, Text}
use Rattle.c_machine.specs.State.{TaskIn}
use Rattle.c_machine.specs.Expressions.{value_kind, value_parts, address_parts, named}
use Rattle.c_machine.specs.Words.{scalar_bytes, is_pointer}
use Rattle.flow.specs.declared.flow_graph.Flow.{Flow}
use Rattle.flow.specs.declared.flow_graph.Standing.{Standing as Stood}
use Rattle.flow.specs.declared.instruction.Instr.TheVariants as i
use Rattle.simulation.specs.Names.{Name, names_of, variable_in}
use Rattle.simulation.specs.Running.{Setting, Running}
use Rattle.simulation.specs.Slots.{Slot, InRegister, is_free}
use Rattle.simulation.specs.Lowered.{Stop, LetsGo, Values, Addresses, Numbers, Objects, Statics, Shifts, ShiftsNothing, Loads, LoadsNothing, IsNothing}
use Rattle.lowering.specs.Kinds.{width, is_void, is_address, fits}
use Rattle.lowering.specs.LetGo.{AsValue, AsPlace, left_of, left_by_load, left_by_value, left_by_place}
use Rattle.lowering.specs.Moves.{Move, Emits, Evaluates, Locates, Fails}
use Rattle.lowering.specs.Table.{object_moves, named_moves, shifts, shifted_in, place_line, load_line, void_line, kind_made, is_made}
use Rattle.lowering.specs.Placing.{Made, Around, with_point, with_registers, failed, stands_at, after, along, along_line, variable_of, place_value_form, go}
use Rattle.lowering.proofs.KindFacts.{IsAsPlain, loaded_as, unloaded_as, of_address, address_width, not_holds, let_go, in_let_go}
use Rattle.lowering.proofs.LeftOf.{own_value, own_place}
use Rattle.lowering.proofs.Modes.{IsAround, found_behind, found_first, Rest, Ready, IsAt}
use Rattle.lowering.proofs.Placings.{IsSpelled, spelled_registers}
use Rattle.lowering.proofs.Ready.{IsTarget, own_target, same_target, part_ready, own_free, mid, head_spelled, tail_spelled, one_at, none_at, never}

module _ (t : Text) (flow : Flow) (setting : Setting) (running : Running) where
  abbrev Goes_on : Around → List (Stop t) → List (Stop t) → List (TaskIn t) → List Slot → ℕ → Type 0
  Goes_on around now later tasks slots point = Rest t flow setting running around now later tasks slots point

  abbrev pub Wanted : Around → List (Stop t) → List (Stop t) → List (TaskIn t) → List Slot → ℕ → ℕ → Kind → Type 0
  Wanted around now later tasks slots into to kind =
      (plain : Bool) → IsAsPlain kind plain → Goes_on around (later ++ now) [] tasks (InRegister into (width kind) plain ∷ slots) to

  pub unfolds : (around : Around) (now later : List (Stop t)) (tasks : List (TaskIn t)) (slots : List Slot) (from : ℕ) (expr : t.Expr) (form : Form t.Expr t.Stmt) → t.form expr ≡ form →
      Goes_on around now later (value_parts t expr form ++ tasks) slots from → Goes_on around now later (ValueOf expr ∷ tasks) slots from
  unfolds around now later tasks slots from expr form is rest =
      Values expr (subst (λ (f : Form t.Expr t.Stmt). Goes_on around now later (value_parts t expr f ++ tasks) slots from) (sym is) rest)

  pub unfolds_place : (around : Around) (now later : List (Stop t)) (tasks : List (TaskIn t)) (slots : List Slot) (from : ℕ) (expr : t.Expr) (form : Form t.Expr t.Stmt) → t.form expr ≡ form →
      Goes_on around now later (address_parts t expr form ++ tasks) slots from → Goes_on around now later (AddressOf expr ∷ tasks) slots from
  unfolds_place around now later tasks slots from expr form is rest =
      Addresses expr (subst (λ (f : Form t.Expr t.Stmt). Goes_on around now later (address_parts t expr f ++ tasks) slots from) (sym is) rest)

  -- a constant
  pub number_form : (levels : ℕ) (around : Around) (made : Made) (from into to bits : ℕ) (kind : Kind) (place : Place) →
      IsSpelled flow made from (go levels t around made from (Emits (i.Number into bits (width kind)) place) to) →
      (now later : List (Stop t)) (tasks : List (TaskIn t)) (slots : List Slot) → is_free into slots ≡ true → Wanted around now later tasks slots into to kind →
      Goes_on around now later (Push bits ∷ tasks) slots from
  number_form levels around made from into to bits kind place spelled now later tasks slots free cont =
      Numbers bits into (width kind) to place (one_at t flow setting running levels around made from to (i.Number into bits (width kind)) place spelled) free (cont true (λ number. refl))

  -- the value of an lvalue: the address, and a load
  pub load_form : (levels : ℕ) → IsAt t flow setting running levels → (around : Around) → IsAround setting around → (made : Made) (from : ℕ) (expr : t.Expr) (spare into to : ℕ) (size : Option ℕ) →
      scalar_bytes (t.kind expr) ≡ size → is_void (value_kind t expr) ≡ false →
      IsSpelled flow made from (along_line t around (go levels t around) made from (load_line t expr spare into made.registers size) to) →
      (now later : List (Stop t)) (tasks : List (TaskIn t)) (slots : List Slot) (base : ℕ) →
      Ready t flow setting running around now later tasks base made.registers slots spare (left_by_load t (left_of t) expr (nat_eq into spare) size) →
      IsTarget made.registers slots base spare (left_by_load t (left_of t) expr (nat_eq into spare) size) into → Wanted around now later tasks slots into to (value_kind t expr) →
      Goes_on around now later (AddressOf expr ∷ Load (t.place expr) (t.kind expr) ∷ tasks) slots from
  load_form levels at around good made from expr spare into to None none made_as spelled now later tasks slots base ready target cont =
      let gives = unloaded_as (t.kind expr) none made_as in
      let left : ℕ = left_of t (AsPlace (nat_eq into spare)) expr in
      at.place around good (with_registers 0 made) from expr spare into to (spelled_registers 0 spelled) now later (Load (t.place expr) (t.kind expr) ∷ tasks) slots base
      (part_ready (made.registers + 0) left ready (omega arith) (omega arith)) (same_target (made.registers + 0) left target (omega arith) (omega arith))
      (λ plain. LoadsNothing (t.kind expr) (t.place expr) (InRegister into 8 plain) none
      (subst (λ (n : ℕ). Goes_on around (later ++ now) [] tasks (InRegister into n plain ∷ slots) to) gives.0 (cont plain (of_address (value_kind t expr) plain gives.1))))
  load_form levels at around good made from expr spare into to (Some bytes) is made_as spelled now later tasks slots base ready target cont =
      let r : ℕ = made.registers in
      let made1 : Made = with_registers 1 made in
      let first_move : Move t = Locates expr spare r in
      let standing : Stood = after t first_move (stands_at made1 from) in
      let read : Move t = Emits (i.Read into r bytes (is_pointer (t.kind expr))) (t.place expr) in
      let spelled1 = spelled_registers 1 spelled in
      let first = head_spelled t flow setting running levels around made1 from standing first_move (read ∷ []) to spelled1 in
      let rest = tail_spelled t flow setting running levels around made1 from standing first_move (read ∷ []) to spelled1 in
      let free_r = own_free r ready (omega arith) in
      let room = ready.room in
      let less = own_place t expr spare (left_of t (AsPlace false) expr) r room (omega arith) in
      let gives = loaded_as (t.kind expr) bytes is in
      at.place around good (with_point standing made1) from expr spare r made.points first now later (Load (t.place expr) (t.kind expr) ∷ tasks) slots base
      (part_ready (r + 1) (left_of t (AsPlace (nat_eq r spare)) expr) ready (omega arith) less) (own_target (r + 1) r ready.own (omega arith) (omega arith) free_r)
      (λ plain. Loads (t.kind expr) (t.place expr) plain bytes r 8 into to is
      (one_at t flow setting running levels around (mid t flow setting running levels around made1 from standing first_move) made.points to (i.Read into r bytes (is_pointer (t.kind expr))) (t.place expr) rest) target.free free_r
      (subst (λ (n : ℕ). Goes_on around (later ++ now) [] tasks (InRegister into n (not (is_pointer (t.kind expr))) ∷ slots) to) gives.0 (cont (not (is_pointer (t.kind expr))) gives.1)))

  -- the address of an object
  object_form : (levels : ℕ) (around : Around) → IsAround setting around → (made : Made) (from into to token : ℕ) (place : Place) (found found' : Option ℕ) →
      variable_in (names_of around.scopes) token ≡ found → variable_of around token ≡ found' →
      IsSpelled flow made from (along t around (go levels t around) made from (object_moves found' place into) to) →
      (now later : List (Stop t)) (tasks : List (TaskIn t)) (slots : List Slot) → is_free into slots ≡ true →
      Goes_on around (later ++ now) [] tasks (InRegister into 8 false ∷ slots) to → Goes_on around now later (ObjectAt token ∷ tasks) slots from
  object_form levels around good made from into to token place found None is is' spelled now later tasks slots free cont = never t flow setting running levels around made from to spelled
  object_form levels around good made from into to token place (Some variable) (Some variable') is is' spelled now later tasks slots free cont =
      let same : variable' ≡ variable = same_Some variable' variable (sym is' ∙ found_first (names_of around.scopes) around.statics token variable is) in
      Objects token variable' into to place (is ∙ ap Some (sym same)) (one_at t flow setting running levels around made from to (i.Address into variable') place spelled) free cont
  object_form levels around good made from into to token place None (Some variable') is is' spelled now later tasks slots free cont =
      let there : variable_in around.statics token ≡ Some variable' = sym (found_behind (names_of around.scopes) around.statics token is) ∙ is' in
      Statics token variable' into to place is (subst (λ (names : List Name). variable_in names token ≡ Some variable') good.statics there) (good.apart token variable' there)
      (one_at t flow setting running levels around made from to (i.Address into variable') place spelled) free cont

  -- the object of the name that stands there
  pub object_at : (levels : ℕ) (around : Around) → IsAround setting around → (made : Made) (from into to token : ℕ) (place : Place) →
      IsSpelled flow made from (along t around (go levels t around) made from (object_moves (variable_of around token) place into) to) →
      (now later : List (Stop t)) (tasks : List (TaskIn t)) (slots : List Slot) → is_free into slots ≡ true →
      Goes_on around (later ++ now) [] tasks (InRegister into 8 false ∷ slots) to → Goes_on around now later (ObjectAt token ∷ tasks) slots from
  object_at levels around good made from into to token place spelled now later tasks slots free cont =
      object_form levels around good made from into to token place (variable_in (names_of around.scopes) token) (variable_of around token) refl refl spelled now later tasks slots free cont

  name_form : (levels : ℕ) (around : Around) → IsAround setting around → (made : Made) (from into to : ℕ) (place : Place) (standing : Standing) →
      IsSpelled flow made from (along t around (go levels t around) made from (named_moves (variable_of around) place into standing) to) →
      (now later : List (Stop t)) (tasks : List (TaskIn t)) (slots : List Slot) → is_free into slots ≡ true →
      Goes_on around (later ++ now) [] tasks (InRegister into 8 false ∷ slots) to → Goes_on around now later (named t standing ++ tasks) slots from
  name_form levels around good made from into to place (ObjectStands token) spelled now later tasks slots free cont = object_at levels around good made from into to token place spelled now later tasks slots free cont
  name_form levels around good made from into to place (ConstantStands bits) spelled now later tasks slots free cont = never t flow setting running levels around made from to spelled
  name_form levels around good made from into to place (BuiltInStands name params result) spelled now later tasks slots free cont = never t flow setting running levels around made from to spelled
  name_form levels around good made from into to place (BodyStands number) spelled now later tasks slots free cont = never t flow setting running levels around made from to spelled
  name_form levels around good made from into to place NothingStands spelled now later tasks slots free cont = never t flow setting running levels around made from to spelled

  -- the address of a member: of the object before the `.`, and of what the pointer before the `->` leads to
  member_by : (levels : ℕ) → IsAt t flow setting running levels → (around : Around) → IsAround setting around → (made : Made) (from : ℕ) (expr base : t.Expr) (spare into to bytes : ℕ) (none : Bool) → nat_eq bytes 0 ≡ none →
      IsSpelled flow made from (along t around (go levels t around) (with_registers 1 made) from
      (Locates base spare (if none then into else made.registers) ∷ (if none then [] else Emits (i.Shift into made.registers (pos bytes)) (t.place expr) ∷ [])) to) →
      (now later : List (Stop t)) (tasks : List (TaskIn t)) (slots : List Slot) (least : ℕ) →
      Ready t flow setting running around now later tasks least made.registers slots spare (left_of t (AsPlace (nat_eq into spare && none)) base) →
      IsTarget made.registers slots least spare (left_of t (AsPlace (nat_eq into spare && none)) base) into →
      ((plain : Bool) → Goes_on around (later ++ now) [] tasks (InRegister into 8 plain ∷ slots) to) → Goes_on around now later (AddressOf base ∷ Shift bytes ∷ tasks) slots from
  member_by levels at around good made from expr base spare into to bytes true is spelled now later tasks slots least ready target cont =
      let left : ℕ = left_of t (AsPlace (nat_eq into spare)) base in
      let same : left_of t (AsPlace (nat_eq into spare && true)) base ≡ left = ap (λ (b : Bool). left_of t (AsPlace b) base) (and_whole (nat_eq into spare)) in
      at.place around good (with_registers 1 made) from base spare into to (spelled_registers 1 spelled) now later (Shift bytes ∷ tasks) slots least
      (part_ready (made.registers + 1) left ready (omega arith) (omega arith)) (same_target (made.registers + 1) left target (omega arith) (omega arith))
      (λ plain. subst (λ (n : ℕ). Goes_on around (later ++ now) [] (Shift n ∷ tasks) (InRegister into 8 plain ∷ slots) to) (sym (eqb-true bytes 0 is)) (ShiftsNothing into plain (cont plain)))
    where
      and_whole : (b : Bool) → (b && true) ≡ b
      and_whole true = refl
      and_whole false = refl
  member_by levels at around good made from expr base spare into to bytes false is spelled now later tasks slots least ready target cont =
      let r : ℕ = made.registers in
      let made1 : Made = with_registers 1 made in
      let first_move : Move t = Locates base spare r in
      let standing : Stood = after t first_move (stands_at made1 from) in
      let shift : Move t = Emits (i.Shift into r (pos bytes)) (t.place expr) in
      let spelled1 = spelled_registers 1 spelled in
      let first = head_spelled t flow setting running levels around made1 from standing first_move (shift ∷ []) to spelled1 in
      let rest = tail_spelled t flow setting running levels around made1 from standing first_move (shift ∷ []) to spelled1 in
      let free_r = own_free r ready (omega arith) in
      let room = ready.room in
      let same : left_of t (AsPlace (nat_eq into spare && false)) base ≡ left_of t (AsPlace false) base = ap (λ (b : Bool). left_of t (AsPlace b) base) (and_none (nat_eq into spare)) in
      let less = own_place t base spare (left_of t (AsPlace (nat_eq into spare && false)) base) r room (omega arith) in
      at.place around good (with_point standing made1) from base spare r made.points first now later (Shift bytes ∷ tasks) slots least
      (part_ready (r + 1) (left_of t (AsPlace (nat_eq r spare)) base) ready (omega arith) less) (own_target (r + 1) r ready.own (omega arith) (omega arith) free_r)
      (λ plain. Shifts bytes r 8 into to plain (t.place expr)
      (one_at t flow setting running levels around (mid t flow setting running levels around made1 from standing first_move) made.points to (i.Shift into r (pos bytes)) (t.place expr) rest) target.free free_r (cont plain))
    where
      and_none : (b : Bool) → (b && false) ≡ false
      and_none true = refl
      and_none false = refl

  arrow_by : (levels : ℕ) → IsAt t flow setting running levels → (around : Around) → IsAround setting around → (made : Made) (from : ℕ) (expr base : t.Expr) (spare into to bytes : ℕ) (none : Bool) → nat_eq bytes 0 ≡ none →
      width (value_kind t base) ≡ 8 →
      IsSpelled flow made from (along t around (go levels t around) (with_registers 1 made) from
      (Evaluates base spare (if none then into else made.registers) ∷ (if none then [] else Emits (i.Shift into made.registers (pos bytes)) (t.place expr) ∷ [])) to) →
      (now later : List (Stop t)) (tasks : List (TaskIn t)) (slots : List Slot) (least : ℕ) →
      Ready t flow setting running around now later tasks least made.registers slots spare (left_of t (AsValue (nat_eq into spare && none)) base) →
      IsTarget made.registers slots least spare (left_of t (AsValue (nat_eq into spare && none)) base) into →
      ((plain : Bool) → Goes_on around (later ++ now) [] tasks (InRegister into 8 plain ∷ slots) to) → Goes_on around now later (ValueOf base ∷ Shift bytes ∷ tasks) slots from
  arrow_by levels at around good made from expr base spare into to bytes true is wide spelled now later tasks slots least ready target cont =
      let left : ℕ = left_of t (AsValue (nat_eq into spare)) base in
      let same : left_of t (AsValue (nat_eq into spare && true)) base ≡ left = ap (λ (b : Bool). left_of t (AsValue b) base) (and_whole (nat_eq into spare)) in
      at.value around good (with_registers 1 made) from base spare into to (spelled_registers 1 spelled) now later (Shift bytes ∷ tasks) slots least
      (part_ready (made.registers + 1) left ready (omega arith) (omega arith)) (same_target (made.registers + 1) left target (omega arith) (omega arith))
      (λ plain number. subst (λ (n : ℕ). Goes_on around (later ++ now) [] (Shift bytes ∷ tasks) (InRegister into n plain ∷ slots) to) (sym wide)
      (subst (λ (n : ℕ). Goes_on around (later ++ now) [] (Shift n ∷ tasks) (InRegister into 8 plain ∷ slots) to) (sym (eqb-true bytes 0 is)) (ShiftsNothing into plain (cont plain))))
    where
      and_whole : (b : Bool) → (b && true) ≡ b
      and_whole true = refl
      and_whole false = refl
  arrow_by levels at around good made from expr base spare into to bytes false is wide spelled now later tasks slots least ready target cont =
      let r : ℕ = made.registers in
      let made1 : Made = with_registers 1 made in
      let first_move : Move t = Evaluates base spare r in
      let standing : Stood = after t first_move (stands_at made1 from) in
      let shift : Move t = Emits (i.Shift into r (pos bytes)) (t.place expr) in
      let spelled1 = spelled_registers 1 spelled in
      let first = head_spelled t flow setting running levels around made1 from standing first_move (shift ∷ []) to spelled1 in
      let rest = tail_spelled t flow setting running levels around made1 from standing first_move (shift ∷ []) to spelled1 in
      let free_r = own_free r ready (omega arith) in
      let room = ready.room in
      let same : left_of t (AsValue (nat_eq into spare && false)) base ≡ left_of t (AsValue false) base = ap (λ (b : Bool). left_of t (AsValue b) base) (and_none (nat_eq into spare)) in
      let less = own_value t base spare (left_of t (AsValue (nat_eq into spare && false)) base) r room (omega arith) in
      at.value around good (with_point standing made1) from base spare r made.points first now later (Shift bytes ∷ tasks) slots least
      (part_ready (r + 1) (left_of t (AsValue (nat_eq r spare)) base) ready (omega arith) less) (own_target (r + 1) r ready.own (omega arith) (omega arith) free_r)
      (λ plain number. Shifts bytes r (width (value_kind t base)) into to plain (t.place expr)
      (one_at t flow setting running levels around (mid t flow setting running levels around made1 from standing first_move) made.points to (i.Shift into r (pos bytes)) (t.place expr) rest) target.free free_r (cont plain))
    where
      and_none : (b : Bool) → (b && false) ≡ false
      and_none true = refl
      and_none false = refl

  -- what is no address is not lowered
  arrow_where : (levels : ℕ) → IsAt t flow setting running levels → (around : Around) → IsAround setting around → (made : Made) (from : ℕ) (expr base : t.Expr) (spare into to bytes : ℕ) (is : Bool) → is_address (value_kind t base) ≡ is →
      IsSpelled flow made from (along_line t around (go levels t around) made from (if is
      then (record { registers = 1; moves = Evaluates base spare (shifted_in bytes made.registers into) ∷ shifts made.registers into bytes (t.place expr) })
      else (record { registers = 0; moves = Fails ∷ [] })) to) →
      (now later : List (Stop t)) (tasks : List (TaskIn t)) (slots : List Slot) (least : ℕ) →
      Ready t flow setting running around now later tasks least made.registers slots spare (left_of t (AsValue (nat_eq into spare && nat_eq bytes 0)) base) →
      IsTarget made.registers slots least spare (left_of t (AsValue (nat_eq into spare && nat_eq bytes 0)) base) into →
      ((plain : Bool) → Goes_on around (later ++ now) [] tasks (InRegister into 8 plain ∷ slots) to) → Goes_on around now later (ValueOf base ∷ Shift bytes ∷ tasks) slots from
  arrow_where levels at around good made from expr base spare into to bytes false is spelled now later tasks slots least ready target cont =
      never t flow setting running levels around (with_registers 0 made) from to (spelled_registers 0 spelled)
  arrow_where levels at around good made from expr base spare into to bytes true is spelled now later tasks slots least ready target cont =
      arrow_by levels at around good made from expr base spare into to bytes (nat_eq bytes 0) refl (address_width (value_kind t base) is) spelled now later tasks slots least ready target cont

  follow_where : (levels : ℕ) → IsAt t flow setting running levels → (around : Around) → IsAround setting around → (made : Made) (from : ℕ) (arg : t.Expr) (spare into to : ℕ) (is : Bool) → is_address (value_kind t arg) ≡ is →
      IsSpelled flow made from (along_line t around (go levels t around) made from (if is
      then (record { registers = 0; moves = Evaluates arg spare into ∷ [] }) else (record { registers = 0; moves = Fails ∷ [] })) to) →
      (now later : List (Stop t)) (tasks : List (TaskIn t)) (slots : List Slot) (base : ℕ) →
      Ready t flow setting running around now later tasks base made.registers slots spare (left_of t (AsValue (nat_eq into spare)) arg) →
      IsTarget made.registers slots base spare (left_of t (AsValue (nat_eq into spare)) arg) into →
      ((plain : Bool) → Goes_on around (later ++ now) [] tasks (InRegister into 8 plain ∷ slots) to) → Goes_on around now later (ValueOf arg ∷ tasks) slots from
  follow_where levels at around good made from arg spare into to false is spelled now later tasks slots base ready target cont =
      never t flow setting running levels around (with_registers 0 made) from to (spelled_registers 0 spelled)
  follow_where levels at around good made from arg spare into to true is spelled now later tasks slots base ready target cont =
      let left : ℕ = left_of t (AsValue (nat_eq into spare)) arg in
      at.value around good (with_registers 0 made) from arg spare into to (spelled_registers 0 spelled) now later tasks slots base
      (part_ready (made.registers + 0) left ready (omega arith) (omega arith)) (same_target (made.registers + 0) left target (omega arith) (omega arith))
      (λ plain number. subst (λ (n : ℕ). Goes_on around (later ++ now) [] tasks (InRegister into n plain ∷ slots) to) (sym (address_width (value_kind t arg) is)) (cont plain))

  -- the address of an lvalue by its form, all but that of an item of an array
  abbrev pub PlaceFormIs : ℕ → Form t.Expr t.Stmt → Type 0
  PlaceFormIs levels form =
      (around : Around) → IsAround setting around → (made : Made) (from : ℕ) (expr : t.Expr) (spare into to : ℕ) → t.form expr ≡ form →
      IsSpelled flow made from (along_line t around (go levels t around) made from (place_line t (variable_of around) expr spare into made.registers form) to) →
      (now later : List (Stop t)) (tasks : List (TaskIn t)) (slots : List Slot) (base : ℕ) →
      Ready t flow setting running around now later tasks base made.registers slots spare (left_by_place t (left_of t) (nat_eq into spare) form) →
      IsTarget made.registers slots base spare (left_by_place t (left_of t) (nat_eq into spare) form) into →
      ((plain : Bool) → Goes_on around (later ++ now) [] tasks (InRegister into 8 plain ∷ slots) to) → Goes_on around now later (AddressOf expr ∷ tasks) slots from

  pub place_form : (levels : ℕ) → IsAt t flow setting running levels → ((array index : t.Expr) → PlaceFormIs levels (Index array index)) → (form : Form t.Expr t.Stmt) → PlaceFormIs levels form
  place_form levels at item NameForm around good made from expr spare into to is spelled now later tasks slots base ready target cont =
      unfolds_place around now later tasks slots from expr NameForm is
      (name_form levels around good (with_registers 0 made) from into to (t.place expr) (t.stands expr) (spelled_registers 0 spelled) now later tasks slots target.free (cont false))
  place_form levels at item (Unary Follow arg) around good made from expr spare into to is spelled now later tasks slots base ready target cont =
      unfolds_place around now later tasks slots from expr (Unary Follow arg) is
      (follow_where levels at around good made from arg spare into to (is_address (value_kind t arg)) refl spelled now later tasks slots base ready target cont)
  place_form levels at item (Index array index) around good made from expr spare into to is spelled now later tasks slots base ready target cont =
      item array index around good made from expr spare into to is spelled now later tasks slots base ready target cont
  place_form levels at item (Member object bytes false) around good made from expr spare into to is spelled now later tasks slots base ready target cont =
      unfolds_place around now later tasks slots from expr (Member object bytes false) is
      (member_by levels at around good made from expr object spare into to bytes (nat_eq bytes 0) refl spelled now later tasks slots base ready target cont)
  place_form levels at item (Member pointer bytes true) around good made from expr spare into to is spelled now later tasks slots base ready target cont =
      unfolds_place around now later tasks slots from expr (Member pointer bytes true) is
      (arrow_where levels at around good made from expr pointer spare into to bytes (is_address (value_kind t pointer)) refl spelled now later tasks slots base ready target cont)
  place_form levels at item form around good made from expr spare into to is spelled now later tasks slots base ready target cont =
      unfolds_place around now later tasks slots from expr form is (IsNothing (none_at t flow setting running levels around (with_registers 0 made) from to (spelled_registers 0 spelled)))

  -- a value is made as its expression says, or there is no graph
  pub made_by : (made : Made) (from : ℕ) (expr : t.Expr) (form : Form t.Expr t.Stmt) (placed : Made) (is : Bool) → is_made t expr form ≡ is →
      IsSpelled flow made from (if is then placed else failed made) → (is_made t expr form ≡ true) × IsSpelled flow made from placed
  made_by made from expr form placed true is spelled = (is, spelled)
  made_by made from expr form placed false is spelled = absurd (false≢true spelled.graph)

  pub not_void : (expr : t.Expr) (form : Form t.Expr t.Stmt) → is_made t expr form ≡ true → is_void (value_kind t expr) ≡ false
  not_void expr form is = not_holds (is_void (value_kind t expr)) (and_parts (not (is_void (value_kind t expr))) (fits (kind_made t expr form) (value_kind t expr)) is).0

  pub made_fits : (expr : t.Expr) (form : Form t.Expr t.Stmt) → is_made t expr form ≡ true → fits (kind_made t expr form) (value_kind t expr) ≡ true
  made_fits expr form is = (and_parts (not (is_void (value_kind t expr))) (fits (kind_made t expr form) (value_kind t expr)) is).1

  -- what is let go of stays so, whichever kind it has
  pub lets_go : (around : Around) (now later : List (Stop t)) (tasks : List (TaskIn t)) (slots : List Slot) (point : ℕ) (kind made_kind : Kind) → (is_void kind ≡ true → is_void made_kind ≡ true) →
      Goes_on around now later tasks (let_go kind ∷ slots) point → Goes_on around now later tasks (let_go made_kind ∷ slots) point
  lets_go around now later tasks slots point Void Void void rest = rest
  lets_go around now later tasks slots point Void (Integer of) void rest = absurd (false≢true (void refl))
  lets_go around now later tasks slots point Void (Pointer item) void rest = absurd (false≢true (void refl))
  lets_go around now later tasks slots point Void (Array item) void rest = absurd (false≢true (void refl))
  lets_go around now later tasks slots point Void (Struct size) void rest = absurd (false≢true (void refl))
  lets_go around now later tasks slots point (Integer of) made_kind void rest = LetsGo (let_go made_kind) (in_let_go made_kind) rest
  lets_go around now later tasks slots point (Pointer item) made_kind void rest = LetsGo (let_go made_kind) (in_let_go made_kind) rest
  lets_go around now later tasks slots point (Array item) made_kind void rest = LetsGo (let_go made_kind) (in_let_go made_kind) rest
  lets_go around now later tasks slots point (Struct size) made_kind void rest = LetsGo (let_go made_kind) (in_let_go made_kind) rest

  -- the value of an expression by its form
  abbrev pub FormIs : ℕ → Form t.Expr t.Stmt → Type 0
  FormIs levels form =
      (around : Around) → IsAround setting around → (made : Made) (from : ℕ) (expr : t.Expr) (spare into to : ℕ) → t.form expr ≡ form → is_made t expr form ≡ true →
      IsSpelled flow made from (place_value_form t (go levels t) around made from expr spare into to form) →
      (now later : List (Stop t)) (tasks : List (TaskIn t)) (slots : List Slot) (base : ℕ) →
      Ready t flow setting running around now later tasks base made.registers slots spare (left_by_value t (left_of t) expr (nat_eq into spare) form) →
      IsTarget made.registers slots base spare (left_by_value t (left_of t) expr (nat_eq into spare) form) into →
      Wanted around now later tasks slots into to (value_kind t expr) → Goes_on around now later (ValueOf expr ∷ tasks) slots from

  -- and what it does where its value is not used, by its form
  abbrev pub WorkFormIs : ℕ → Form t.Expr t.Stmt → Type 0
  WorkFormIs levels form =
      (around : Around) → IsAround setting around → (made : Made) (from : ℕ) (expr : t.Expr) (spare to : ℕ) → t.form expr ≡ form → (is_void (value_kind t expr) ≡ true → is_void (kind_made t expr form) ≡ true) →
      IsSpelled flow made from (along_line t around (go levels t around) made from (void_line t expr spare made.registers form) to) →
      (now later : List (Stop t)) (tasks : List (TaskIn t)) (slots : List Slot) (base : ℕ) →
      Ready t flow setting running around now later tasks base made.registers slots spare (left_by_value t (left_of t) expr false form) →
      Goes_on around (later ++ now) [] tasks (let_go (value_kind t expr) ∷ slots) to → Goes_on around now later (ValueOf expr ∷ tasks) slots from
