-- What is placed for calls of functions that the program defines: the arguments from left to right, each in a register of its own, and the call.
use Rattle.std.proofs.Common.{◌≡◌, ◌≤◌, ℕ, ◌+◌, List, [], ◌∷◌, ◌++◌, map, length, suc, Bool, true, false, not, ◌&&◌, nat_eq, refl, sym, ap, arith, subst, append_assoc, Some, slice_get, if◌then◌else◌}
use Rattle.std.proofs.lemmas.Bool.{eqb-true, and_from, and_parts}
use Rattle.cbase.specs.declared.place.Place.{Place}
use Rattle.c_machine.specs.declared.kind.Kind.{Kind}
use Rattle.c_machine.specs.declared.kind.Kind.TheVariants.{Integer, Pointer, Array, Struct, Void}
use Rattle.c_machine.specs.declared.task.Task.TheVariants.{CallDefined}
use Rattle.c_machine.specs.Text.{Parameter, Function, Text}
use Rattle.c_machine.specs.State.{TaskIn}
use Rattle.c_machine.specs.Expressions.{argument_tasks, body_call}
use Rattle.flow.specs.declared.flow_graph.Flow.{Flow}
use Rattle.flow.specs.declared.flow_graph.Standing.{Standing as Stood}
use Rattle.flow.specs.declared.instruction.Instr.{Instr}
use Rattle.flow.specs.declared.instruction.Instr.TheVariants as i
use Rattle.simulation.specs.Edges.{One}
use Rattle.simulation.specs.Running.{Setting, Running, Result, GivesNothing, Gives, Argument, registers_of, slots_of, AreTaken, result_slot, is_free_result}
use Rattle.simulation.specs.Slots.{Slot, InRegister, KnownAs, is_free, are_free}
use Rattle.simulation.specs.Lowered.{Stop, Calls}
use Rattle.lowering.specs.Kinds.{width, is_void, is_address}
use Rattle.lowering.specs.Moves.{Emits, Fails}
use Rattle.lowering.specs.Table.{argument_moves, registers_from, result_into, are_sized, body_line}
use Rattle.lowering.specs.LetGo.{left_by_arguments, left_of}
use Rattle.lowering.specs.Placing.{Made, Around, with_point, with_registers, stands_at, along_at, along_line, go}
use Rattle.lowering.proofs.KindFacts.{not_holds, slot_made}
use Rattle.lowering.proofs.Modes.{IsAround, Rest, Ready, ConvertIs}
use Rattle.lowering.proofs.Placings.{IsSpelled, spelled_registers}
use Rattle.lowering.proofs.Ready.{AreBelow, below_more, free_below, head_spelled, one_at, never}
use Rattle.lowering.proofs.SpellingArguments.{first_argument}

-- what a function gives, by the kind of its result: a number leads to no block
abbrev pub given_of : Kind → Result
given_of Void = GivesNothing
given_of kind = Gives (width kind) (not (is_address kind))

-- where the value of a call stands
abbrev pub given_in : Kind → ℕ → Slot
given_in Void into = KnownAs 0
given_in kind into = InRegister into (width kind) (not (is_address kind))

given_there : (kind : Kind) (into : ℕ) → result_slot (given_of kind) (result_into kind into) ≡ given_in kind into
given_there (Integer of) into = refl
given_there (Pointer item) into = refl
given_there (Array item) into = refl
given_there (Struct size) into = refl
given_there Void into = refl

free_for : (kind : Kind) (into : ℕ) (slots : List Slot) → (is_void kind ≡ false → is_free into slots ≡ true) → is_free_result (result_into kind into) slots ≡ true
free_for (Integer of) into slots free = free refl
free_for (Pointer item) into slots free = free refl
free_for (Array item) into slots free = free refl
free_for (Struct size) into slots free = free refl
free_for Void into slots free = refl

-- the registers of arguments are new
free_from : {A : Type 0} (r : ℕ) (args : List A) (slots : List Slot) → AreBelow r slots → are_free (registers_from r args) slots ≡ true
free_from r [] slots below = refl
free_from r (arg ∷ args) slots below =
    and_from (is_free r slots) (are_free (registers_from (suc r) args) slots) (free_below r r slots (omega arith) below) (free_from (suc r) args slots (below_more r (suc r) slots (omega arith) below))

sized_parts : (param : Parameter) (params : List Parameter) → are_sized (param ∷ params) ≡ true → (width param.kind ≡ param.object.bytes) × (is_void param.kind ≡ false) × (are_sized params ≡ true)
sized_parts param params is =
    let one = and_parts (not (is_void param.kind)) (nat_eq (width param.kind) param.object.bytes && are_sized params) is in
    let other = and_parts (nat_eq (width param.kind) param.object.bytes) (are_sized params) one.1 in
    (eqb-true (width param.kind) param.object.bytes other.0, not_holds (is_void param.kind) one.0, other.1)

abbrev kinds_of : List Parameter → List Kind
kinds_of params = map (λ param. param.kind) params

module _ (t : Text) (flow : Flow) (setting : Setting) (running : Running) where
  abbrev Goes : Around → List (Stop t) → List (Stop t) → List (TaskIn t) → List Slot → ℕ → Type 0
  Goes around now later tasks slots point = Rest t flow setting running around now later tasks slots point

  -- arguments: what stands behind them goes on with each in its register
  arguments_form : (levels : ℕ) → ConvertIs t flow setting running levels → (around : Around) → IsAround setting around → (args : List t.Expr) (params : List Parameter) → are_sized params ≡ true →
      (made : Made) (from spare r to : ℕ) (standing : Stood) (instr : Instr) (place : Place) →
      IsSpelled flow made from (along_at t around (go levels t around) made from standing (argument_moves t args (kinds_of params) spare r ++ Emits instr place ∷ []) to) →
      (now later : List (Stop t)) (tasks : List (TaskIn t)) (slots : List Slot) (base left : ℕ) → Ready t flow setting running around now later tasks base r slots spare left →
      left_by_arguments t (left_of t) args (kinds_of params) ≤ left → r + length args ≤ made.registers →
      ((now' later' : List (Stop t)) → later' ++ now' ≡ later ++ now → (point : ℕ) (arguments : List Argument) → AreTaken arguments params → registers_of arguments ≡ registers_from r args → One flow point instr to place →
      Goes around now' later' tasks (slots_of arguments ++ slots) point) →
      Goes around now later (argument_tasks t args (kinds_of params) ++ tasks) slots from
  arguments_form levels convert around good [] [] sized made from spare r to standing instr place spelled now later tasks slots base left ready less there cont =
      cont now later refl from [] tt refl (one_at t flow setting running levels around made from to instr place spelled)
  arguments_form levels convert around good [] (param ∷ params) sized made from spare r to standing instr place spelled now later tasks slots base left ready less there cont =
      never t flow setting running levels around (with_point standing made) from made.points (head_spelled t flow setting running levels around made from standing Fails (Emits instr place ∷ []) to spelled)
  arguments_form levels convert around good (arg ∷ args) [] sized made from spare r to standing instr place spelled now later tasks slots base left ready less there cont =
      never t flow setting running levels around (with_point standing made) from made.points (head_spelled t flow setting running levels around made from standing Fails (Emits instr place ∷ []) to spelled)
  arguments_form levels convert around good (arg ∷ args) (param ∷ params) sized made from spare r to standing instr place spelled now later tasks slots base left ready less there cont =
      let parts = sized_parts param params sized in
      first_argument t flow setting running levels convert around good arg args param.kind (kinds_of params) made from spare r to standing (Emits instr place) (λ standing'. refl) spelled now later tasks slots base left ready less there
      (λ made' point standing' plain spelled' ready' less' there'.
      let argument : Argument = record { register = r; size = width param.kind; plain = plain } in
      let here = slot_made param.kind r plain parts.1 in
      subst (λ (slot : Slot). Goes around (later ++ now) [] (argument_tasks t args (kinds_of params) ++ tasks) (slot ∷ slots) point) (sym here)
      (arguments_form levels convert around good args params parts.2 made' point spare (suc r) to standing' instr place spelled' (later ++ now) [] tasks (InRegister r (width param.kind) plain ∷ slots) base left
      (subst (λ (slot : Slot). Ready t flow setting running around now later tasks base (suc r) (slot ∷ slots) spare left) here ready') less' there'
      (λ now' later' same point' arguments taken registers edge.
      subst (λ (list : List Slot). Goes around now' later' tasks list point') (append_assoc (slots_of arguments) (InRegister r (width param.kind) plain ∷ []) slots)
      (cont now' later' same point' (argument ∷ arguments) (parts.0, taken) (ap (λ (list : List ℕ). r ∷ list) registers) edge))))

  -- a call, and the register of its result, if it has one
  pub body_form : (levels : ℕ) → ConvertIs t flow setting running levels → (around : Around) → IsAround setting around → (made : Made) (from : ℕ) (args : List t.Expr) (number spare into : ℕ) (place : Place) (to : ℕ) (function : Function t.Stmt) →
      slice_get t.functions number ≡ Some function → setting.called number ≡ Some number → setting.gives number ≡ given_of function.result →
      IsSpelled flow made from (along_line t around (go levels t around) made from (body_line t args number spare into made.registers place (Some function)) to) →
      (now later : List (Stop t)) (tasks : List (TaskIn t)) (slots : List Slot) (base : ℕ) →
      Ready t flow setting running around now later tasks base made.registers slots spare (left_by_arguments t (left_of t) args (kinds_of function.params)) → (is_void function.result ≡ false → is_free into slots ≡ true) →
      Goes around (later ++ now) [] tasks (given_in function.result into ∷ slots) to →
      Goes around now later (body_call t args number (Some function) ++ tasks) slots from
  body_form levels convert around good made from args number spare into place to function there called gives spelled now later tasks slots base ready free cont =
      by_sizes (are_sized function.params) refl spelled
    where
      by_sizes : (sized : Bool) → are_sized function.params ≡ sized →
          IsSpelled flow made from (along_line t around (go levels t around) made from (if sized
          then (record { registers = length args; moves = argument_moves t args (kinds_of function.params) spare made.registers ++ Emits (i.Call number (registers_from made.registers args) (result_into function.result into)) place ∷ [] })
          else (record { registers = 0; moves = Fails ∷ [] })) to) →
          Goes around now later (body_call t args number (Some function) ++ tasks) slots from
      by_sizes false sized spelled' = never t flow setting running levels around (with_registers 0 made) from to (spelled_registers 0 spelled')
      by_sizes true sized spelled' =
          let instr : Instr = i.Call number (registers_from made.registers args) (result_into function.result into) in
          subst (λ (list : List (TaskIn t)). Goes around now later list slots from) (sym (append_assoc (argument_tasks t args (kinds_of function.params)) (CallDefined number ∷ []) tasks))
          (arguments_form levels convert around good args function.params sized (with_registers (length args) made) from spare made.registers to (stands_at (with_registers (length args) made) from) instr place
          (spelled_registers (length args) spelled') now later (CallDefined number ∷ tasks) slots base (left_by_arguments t (left_of t) args (kinds_of function.params)) ready (omega arith) (omega arith)
          (λ now' later' same point arguments taken registers edge.
          Calls number number function arguments (result_into function.result into) to place there called taken
          (subst (λ (list : List ℕ). are_free list slots ≡ true) (sym registers) (free_from made.registers args slots ready.below)) ready.whole (free_for function.result into slots free)
          (subst (λ (list : List ℕ). One flow point (i.Call number list (result_into function.result into)) to place) (sym registers) edge)
          (subst (λ (list : List (Stop t)). Goes around list [] tasks (result_slot (setting.gives number) (result_into function.result into) ∷ slots) to) (sym same)
          (subst (λ (given : Result). Goes around (later ++ now) [] tasks (result_slot given (result_into function.result into) ∷ slots) to) (sym gives)
          (subst (λ (slot : Slot). Goes around (later ++ now) [] tasks (slot ∷ slots) to) (sym (given_there function.result into)) cont)))))
