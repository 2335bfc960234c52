-- Declarations in blocks: objects that become 0, and initialisers, value by value.
use Rattle.std.proofs.Common.{◌≡◌, ◌≤◌, ℕ, zero, suc, ◌+◌, pos, List, [], ◌∷◌, ◌++◌, map, Bool, true, false, ◌&&◌, nat_eq, nat_le, refl, sym, ap, subst, ◌∙◌, arith, Option, None, Some, if◌then◌else◌}
use Rattle.std.specs.List.{flat_map, list_all}
use Rattle.std.proofs.lemmas.Bool.{false≢true, eqb-true, and_parts}
use Rattle.std.proofs.lemmas.Option.{same_Some, none-some}
use Rattle.cbase.specs.declared.place.Place.{Place}
use Rattle.c_machine.specs.declared.kind.Kind.{Kind}
use Rattle.c_machine.specs.declared.kind.Kind.TheVariants.{Integer, Pointer, Array, Struct, Void}
use Rattle.c_machine.specs.declared.object.Object.{Object}
use Rattle.c_machine.specs.declared.task.Task.TheVariants.{ValueOf, AddressOf, ObjectAt, Shift, Convert, Store, CopyStruct, Finish, Execute, Zero, Initialise}
use Rattle.c_machine.specs.Blocks.{set, set_by as set_parts, zeroed as zeroed_tasks, initialiser_parts, declared_tasks, declared_by as declared_parts}
use Rattle.c_machine.specs.Expressions.{value_kind}
use Rattle.c_machine.specs.State.{TaskIn}
use Rattle.c_machine.specs.Statements.{LoopLeft, loop_left, BodyLeft, body_left}
use Rattle.c_machine.specs.Text.{Declared, Initialiser, Value, Braces, Declare, Store as Stored, Text}
use Rattle.c_machine.specs.Words.{scalar_bytes}
use Rattle.flow.specs.declared.flow_graph.Flow.{Flow}
use Rattle.flow.specs.declared.flow_graph.Standing.{Standing as Stood}
use Rattle.flow.specs.declared.instruction.Instr.TheVariants as i
use Rattle.flow.specs.Valid.{is_object_size}
use Rattle.simulation.specs.Edges.{One}
use Rattle.simulation.specs.Lowered.{Stop, Objects, Statics, Shifts, ShiftsNothing, Stores, CopiesStruct, Zeroes, Finishes, Initialises as Sets}
use Rattle.simulation.specs.Names.{Name, names_of, variable_in}
use Rattle.simulation.specs.Running.{Setting, Running}
use Rattle.simulation.specs.Slots.{Slot, InRegister, KnownAs, Gone, is_free, is_whole, is_in}
use Rattle.lowering.specs.LetGo.{AsPlace, left_of, left_as}
use Rattle.lowering.specs.Moves.{Move, Emits, Locates, Converts, Clears, Initialises, Fails, run_of}
use Rattle.lowering.specs.Table.{object_moves}
use Rattle.lowering.specs.Placing.{Made, Around, with_point, with_registers, failed, stands_at, after, variable_of, does_nothing, has_no_value, is_empty_within, idle_where, Way, Idle, Leads, Goes as GoesOn, Begin, Here, New, begin_by, begins, along_from, along, along_at, go, zeroed, declared_by, declared_moves, writes, set_by, left_by_set, place_set, place_initialiser}
use Rattle.lowering.proofs.KindFacts.{scalar_slot, both_free}
use Rattle.lowering.proofs.LeftOf.{own_place, own_as}
use Rattle.lowering.proofs.Modes.{IsAround, IsAt, found_behind, found_first}
use Rattle.lowering.proofs.Placed.{go_placing}
use Rattle.lowering.proofs.PlacedForms.{moves_placing}
use Rattle.lowering.proofs.Placings.{IsSpelled, spelled_registers}
use Rattle.lowering.proofs.Ready.{AreBelow, free_below, free_beside, own_target, slot_ready, mid, head_spelled, tail_spelled, fills, one_at, never}
use Rattle.lowering.proofs.Statements.{executes, without_rest, free_run}
use Rattle.lowering.proofs.Doing.{Goes, IsKept, ClearsIs, InitialisesIs, kept_more, full_ready}

some_none : {A : Type 0} (value : A) → Some value ≡ None → ⊥
some_none value is = none-some value (sym is)

-- where a move goes
abbrev is_idle_way : Way → Bool
is_idle_way Idle = true
is_idle_way (Leads to) = false
is_idle_way GoesOn = false

abbrev begun_at : Begin → Option ℕ
begun_at (Here point) = Some point
begun_at New = None

module _ (t : Text) (flow : Flow) (setting : Setting) (running : Running) where
  abbrev Runs : Around → List (Stop t) → List (Stop t) → List (TaskIn t) → List Slot → ℕ → Type 0
  Runs around now later tasks slots point = Goes t flow setting running around now later tasks slots point

  abbrev Kept : Around → List (Stop t) → List (TaskIn t) → ℕ → ℕ → List Slot → Type 0
  Kept around stops tasks base count slots = IsKept t flow setting running around stops (loop_left tasks) (body_left tasks) base count slots

  -- the address of an object
  object_edge : (around : Around) → IsAround setting around → (from into to token variable : ℕ) (place : Place) (found : Option ℕ) → variable_in (names_of around.scopes) token ≡ found →
      variable_of around token ≡ Some variable → One flow from (i.Address into variable) to place → (now later : List (Stop t)) (tasks : List (TaskIn t)) (slots : List Slot) → is_free into slots ≡ true →
      Runs around (later ++ now) [] tasks (InRegister into 8 false ∷ slots) to → Runs around now later (ObjectAt token ∷ tasks) slots from
  object_edge around good from into to token variable place (Some other) is is' one now later tasks slots free cont =
      let same : variable ≡ other = same_Some variable other (sym is' ∙ found_first (names_of around.scopes) around.statics token other is) in
      Objects token variable into to place (is ∙ ap Some (sym same)) one free cont
  object_edge around good from into to token variable place None is is' one now later tasks slots free cont =
      let there : variable_in around.statics token ≡ Some variable = sym (found_behind (names_of around.scopes) around.statics token is) ∙ is' in
      Statics token variable into to place is (subst (λ (names : List Name). variable_in names token ≡ Some variable) good.statics there) (good.apart token variable there) one free cont

  -- a whole object becomes 0
  clear_by : (levels : ℕ) (around : Around) → IsAround setting around → (made : Made) (from : ℕ) (place : Place) (bytes : ℕ) (to : ℕ) (found : Option ℕ) (small : Bool) → variable_of around (t.token place) ≡ found →
      IsSpelled flow made from (along t around (go levels t around) (with_registers 2 made) from
      (object_moves found place made.registers ++ (if small then Emits (i.Number (suc made.registers) 0 1) place ∷ Emits (i.Fill made.registers (suc made.registers) bytes) place ∷ [] else Fails ∷ [])) to) →
      (now later : List (Stop t)) (tasks : List (TaskIn t)) (slots : List Slot) (base : ℕ) → Kept around (later ++ now) tasks base made.registers slots → Runs around (later ++ now) [] tasks slots to →
      Runs around now later (ObjectAt (t.token place) ∷ Zero place bytes ∷ tasks) slots from
  clear_by levels around good made from place bytes to None true is spelled now later tasks slots base kept cont =
      let made1 : Made = with_registers 2 made in
      let fail : Move t = Fails in
      never t flow setting running levels around (with_point (stands_at made1 from) made1) from made1.points
      (head_spelled t flow setting running levels around made1 from (after t fail (stands_at made1 from)) fail
      (Emits (i.Number (suc made.registers) 0 1) place ∷ Emits (i.Fill made.registers (suc made.registers) bytes) place ∷ []) to (spelled_registers 2 spelled))
  clear_by levels around good made from place bytes to None false is spelled now later tasks slots base kept cont =
      let made1 : Made = with_registers 2 made in
      let fail : Move t = Fails in
      never t flow setting running levels around (with_point (stands_at made1 from) made1) from made1.points
      (head_spelled t flow setting running levels around made1 from (after t fail (stands_at made1 from)) fail (Fails ∷ []) to (spelled_registers 2 spelled))
  clear_by levels around good made from place bytes to (Some variable) false is spelled now later tasks slots base kept cont =
      let made1 : Made = with_registers 2 made in
      let first_move : Move t = Emits (i.Address made.registers variable) place in
      let standing : Stood = after t first_move (stands_at made1 from) in
      never t flow setting running levels around (mid t flow setting running levels around made1 from standing first_move) made.points to
      (tail_spelled t flow setting running levels around made1 from standing first_move (Fails ∷ []) to (spelled_registers 2 spelled))
  clear_by levels around good made from place bytes to (Some variable) true is spelled now later tasks slots base kept cont =
      let r : ℕ = made.registers in
      let made1 : Made = with_registers 2 made in
      let first_move : Move t = Emits (i.Address r variable) place in
      let standing : Stood = after t first_move (stands_at made1 from) in
      let second_move : Move t = Emits (i.Number (suc r) 0 1) place in
      let standing' : Stood = after t second_move standing in
      let last : Move t = Emits (i.Fill r (suc r) bytes) place in
      let spelled1 = spelled_registers 2 spelled in
      let first = head_spelled t flow setting running levels around made1 from standing first_move (second_move ∷ last ∷ []) to spelled1 in
      let rest = tail_spelled t flow setting running levels around made1 from standing first_move (second_move ∷ last ∷ []) to spelled1 in
      let made2 : Made = mid t flow setting running levels around made1 from standing first_move in
      let second = head_spelled t flow setting running levels around made2 made.points standing' second_move (last ∷ []) to rest in
      let end = tail_spelled t flow setting running levels around made2 made.points standing' second_move (last ∷ []) to rest in
      let free_r : is_free r slots ≡ true = free_below r r slots (omega arith) kept.below in
      let free_s : is_free (suc r) slots ≡ true = free_below r (suc r) slots (omega arith) kept.below in
      object_edge around good from r made.points (t.token place) variable place (variable_in (names_of around.scopes) (t.token place)) refl is
      (one_at t flow setting running levels around (with_point standing made1) from made.points (i.Address r variable) place first) now later (Zero place bytes ∷ tasks) slots free_r
      (Zeroes place place bytes r 8 (suc r) 1 made2.points to false kept.whole free_r (free_beside (suc r) r 8 false slots (λ same. absurd (omega arith)) free_s)
      (one_at t flow setting running levels around (with_point standing' made2) made.points made2.points (i.Number (suc r) 0 1) place second)
      (one_at t flow setting running levels around (mid t flow setting running levels around made2 made.points standing' second_move) made2.points to (i.Fill r (suc r) bytes) place end) cont)

  pub clears_form : (levels : ℕ) → ClearsIs t flow setting running (suc levels)
  clears_form levels around good made from place object to spelled now later tasks slots base kept cont =
      clear_by levels around good made from place object.bytes to (variable_of around (t.token place)) (is_object_size object.bytes) refl spelled now later tasks slots base kept cont

  -- the end of a value of an initialiser
  finish_at : (levels : ℕ) (around : Around) (made : Made) (from first count : ℕ) (end : Place) (to : ℕ) (slot : Slot) → IsSpelled flow made from (go levels t around made from (Emits (i.Finish (run_of first count)) end) to) →
      (now : List (Stop t)) (tasks : List (TaskIn t)) (slots : List Slot) → AreBelow first slots → is_in (run_of first count) slot ≡ true → is_whole slots ≡ true → Runs around now [] tasks slots to →
      Runs around now [] (Finish end ∷ tasks) (slot ∷ slots) from
  finish_at levels around made from first count end to slot spelled now tasks slots below gone whole cont =
      Finishes slot end (run_of first count) to (one_at t flow setting running levels around made from to (i.Finish (run_of first count)) end spelled) (free_run first count slots below) gone whole cont

  -- the value: a struct is copied as a whole
  struct_set : (levels : ℕ) → IsAt t flow setting running levels → (around : Around) → IsAround setting around → (made : Made) (from spare count : ℕ) (place : Place) (value : t.Expr) (end : Place) (to : ℕ) (bytes : ℕ) (small : Bool)
      (standing : Stood) → left_of t (AsPlace false) value ≤ count → spare + count + 3 ≤ made.registers →
      IsSpelled flow made from (along_at t around (go levels t around) made from standing (Locates value spare (spare + count + 2)
      ∷ ((if small then Emits (i.Copy (spare + count + 1) (spare + count + 2) bytes false) place ∷ [] else Fails ∷ []) ++ Emits (i.Finish (run_of spare count)) end ∷ [])) to) →
      (now : List (Stop t)) (tasks : List (TaskIn t)) (slots : List Slot) (base : ℕ) (plain : Bool) → Kept around now tasks base spare slots → Runs around now [] tasks slots to →
      Runs around now [] (AddressOf value ∷ CopyStruct place bytes ∷ Finish end ∷ tasks) (InRegister (spare + count + 1) 8 plain ∷ slots) from
  struct_set levels at around good made from spare count place value end to bytes false standing few room spelled now tasks slots base plain kept cont =
      let move : Move t = Locates value spare (spare + count + 2) in
      let standing1 : Stood = after t move standing in
      let rest = tail_spelled t flow setting running levels around made from standing1 move (Fails ∷ Emits (i.Finish (run_of spare count)) end ∷ []) to spelled in
      let made2 : Made = mid t flow setting running levels around made from standing1 move in
      let fail : Move t = Fails in
      never t flow setting running levels around (with_point (after t fail standing1) made2) made.points made2.points
      (head_spelled t flow setting running levels around made2 made.points (after t fail standing1) fail (Emits (i.Finish (run_of spare count)) end ∷ []) to rest)
  struct_set levels at around good made from spare count place value end to bytes true standing few room spelled now tasks slots base plain kept cont =
      let b : ℕ = spare + count + 1 in
      let c : ℕ = spare + count + 2 in
      let move : Move t = Locates value spare c in
      let standing1 : Stood = after t move standing in
      let copy : Move t = Emits (i.Copy b c bytes false) place in
      let standing2 : Stood = after t copy standing1 in
      let finish : Move t = Emits (i.Finish (run_of spare count)) end in
      let first = head_spelled t flow setting running levels around made from standing1 move (copy ∷ finish ∷ []) to spelled in
      let rest = tail_spelled t flow setting running levels around made from standing1 move (copy ∷ finish ∷ []) to spelled in
      let made2 : Made = mid t flow setting running levels around made from standing1 move in
      let second = head_spelled t flow setting running levels around made2 made.points standing2 copy (finish ∷ []) to rest in
      let last = tail_spelled t flow setting running levels around made2 made.points standing2 copy (finish ∷ []) to rest in
      let free_b : is_free b slots ≡ true = free_below spare b slots (omega arith) kept.below in
      let free_c : is_free c slots ≡ true = free_below spare c slots (omega arith) kept.below in
      let few' = own_place t value spare count c (omega arith) few in
      let own = kept.own in
      let full = full_ready t flow setting running (count + 3) count (omega arith) kept in
      let ready = slot_ready made.registers (left_of t (AsPlace (nat_eq c spare)) value) b 8 plain full (omega arith) few' (omega arith) (omega arith) in
      at.place around good (with_point standing1 made) from value spare c made.points first now [] (CopyStruct place bytes ∷ Finish end ∷ tasks) (InRegister b 8 plain ∷ slots) base ready
      (own_target made.registers c own (omega arith) (omega arith) (free_beside c b 8 plain slots (λ same. absurd (omega arith)) free_c))
      (λ plain'. CopiesStruct place bytes b c 8 8 made2.points plain plain' kept.whole (both_free b c slots free_b free_c)
      (one_at t flow setting running levels around (with_point standing2 made2) made.points made2.points (i.Copy b c bytes false) place second)
      (finish_at levels around (mid t flow setting running levels around made2 made.points standing2 copy) made2.points spare count end to (KnownAs 0) last now tasks slots kept.below refl kept.whole cont))

  scalar_set : (levels : ℕ) → IsAt t flow setting running levels → (around : Around) → IsAround setting around → (made : Made) (from spare count : ℕ) (place : Place) (value : t.Expr) (end : Place) (to : ℕ) (kind : Kind)
      (bytes : Option ℕ) (standing : Stood) → scalar_bytes kind ≡ bytes → left_as t (left_of t) value false kind ≤ count → spare + count + 3 ≤ made.registers →
      IsSpelled flow made from (along_at t around (go levels t around) made from standing (writes t value kind spare (spare + count + 1) (spare + count + 2) place bytes ++ Emits (i.Finish (run_of spare count)) end ∷ []) to) →
      (now : List (Stop t)) (tasks : List (TaskIn t)) (slots : List Slot) (base : ℕ) (plain : Bool) → Kept around now tasks base spare slots → Runs around now [] tasks slots to →
      Runs around now [] (ValueOf value ∷ Convert (value_kind t value) kind ∷ Store place kind ∷ Finish end ∷ tasks) (InRegister (spare + count + 1) 8 plain ∷ slots) from
  scalar_set levels at around good made from spare count place value end to kind None standing is few room spelled now tasks slots base plain kept cont =
      let fail : Move t = Fails in
      never t flow setting running levels around (with_point (after t fail standing) made) from made.points
      (head_spelled t flow setting running levels around made from (after t fail standing) fail (Emits (i.Finish (run_of spare count)) end ∷ []) to spelled)
  scalar_set levels at around good made from spare count place value end to kind (Some bytes) standing is few room spelled now tasks slots base plain kept cont =
      let b : ℕ = spare + count + 1 in
      let c : ℕ = spare + count + 2 in
      let move : Move t = Converts value kind spare c in
      let standing1 : Stood = after t move standing in
      let write : Move t = Emits (i.Write b c bytes) place in
      let standing2 : Stood = after t write standing1 in
      let finish : Move t = Emits (i.Finish (run_of spare count)) end in
      let first = head_spelled t flow setting running levels around made from standing1 move (write ∷ finish ∷ []) to spelled in
      let rest = tail_spelled t flow setting running levels around made from standing1 move (write ∷ finish ∷ []) to spelled in
      let made2 : Made = mid t flow setting running levels around made from standing1 move in
      let second = head_spelled t flow setting running levels around made2 made.points standing2 write (finish ∷ []) to rest in
      let last = tail_spelled t flow setting running levels around made2 made.points standing2 write (finish ∷ []) to rest in
      let free_b : is_free b slots ≡ true = free_below spare b slots (omega arith) kept.below in
      let free_c : is_free c slots ≡ true = free_below spare c slots (omega arith) kept.below in
      let few' = own_as t value kind spare count c (omega arith) few in
      let own = kept.own in
      let full = full_ready t flow setting running (count + 3) count (omega arith) kept in
      let ready = slot_ready made.registers (left_as t (left_of t) value (nat_eq c spare) kind) b 8 plain full (omega arith) few' (omega arith) (omega arith) in
      at.convert around good (with_point standing1 made) from value kind spare c made.points first now [] (Store place kind ∷ Finish end ∷ tasks) (InRegister b 8 plain ∷ slots) base ready
      (λ void. own_target made.registers c own (omega arith) (omega arith) (free_beside c b 8 plain slots (λ same. absurd (omega arith)) free_c))
      (λ plain' number. subst (λ (slot : Slot). Runs around now [] (Store place kind ∷ Finish end ∷ tasks) (slot ∷ InRegister b 8 plain ∷ slots) made.points) (sym (scalar_slot kind bytes is c plain'))
      (Stores kind place bytes b c bytes 8 made2.points plain plain' is kept.whole (both_free b c slots free_b free_c)
      (one_at t flow setting running levels around (with_point standing2 made2) made.points made2.points (i.Write b c bytes) place second)
      (finish_at levels around (mid t flow setting running levels around made2 made.points standing2 write) made2.points spare count end to Gone last now tasks slots kept.below refl kept.whole cont)))

  value_set : (levels : ℕ) → IsAt t flow setting running levels → (around : Around) → IsAround setting around → (made : Made) (from spare : ℕ) (place : Place) (value : t.Expr) (end : Place) (to : ℕ) (kind : Kind) (standing : Stood) →
      spare + left_by_set t value kind + 3 ≤ made.registers →
      IsSpelled flow made from (along_at t around (go levels t around) made from standing
      (set_by t value spare (spare + left_by_set t value kind + 1) (spare + left_by_set t value kind + 2) place kind ++ Emits (i.Finish (run_of spare (left_by_set t value kind))) end ∷ []) to) →
      (now : List (Stop t)) (tasks : List (TaskIn t)) (slots : List Slot) (base : ℕ) (plain : Bool) → Kept around now tasks base spare slots → Runs around now [] tasks slots to →
      Runs around now [] ((set_parts t place kind value ++ Finish end ∷ []) ++ tasks) (InRegister (spare + left_by_set t value kind + 1) 8 plain ∷ slots) from
  value_set levels at around good made from spare place value end to (Struct bytes) standing room spelled now tasks slots base plain kept cont =
      struct_set levels at around good made from spare (left_of t (AsPlace false) value) place value end to bytes (nat_le bytes 65536) standing (omega arith) room spelled now tasks slots base plain kept cont
  value_set levels at around good made from spare place value end to (Integer of) standing room spelled now tasks slots base plain kept cont =
      scalar_set levels at around good made from spare (left_as t (left_of t) value false (Integer of)) place value end to (Integer of) (scalar_bytes (Integer of)) standing refl (omega arith) room spelled now tasks slots base plain kept cont
  value_set levels at around good made from spare place value end to (Pointer item) standing room spelled now tasks slots base plain kept cont =
      scalar_set levels at around good made from spare (left_as t (left_of t) value false (Pointer item)) place value end to (Pointer item) (scalar_bytes (Pointer item)) standing refl (omega arith) room spelled now tasks slots base plain kept cont
  value_set levels at around good made from spare place value end to (Array item) standing room spelled now tasks slots base plain kept cont =
      scalar_set levels at around good made from spare (left_as t (left_of t) value false (Array item)) place value end to (Array item) (scalar_bytes (Array item)) standing refl (omega arith) room spelled now tasks slots base plain kept cont
  value_set levels at around good made from spare place value end to Void standing room spelled now tasks slots base plain kept cont =
      scalar_set levels at around good made from spare (left_as t (left_of t) value false Void) place value end to Void (scalar_bytes Void) standing refl (omega arith) room spelled now tasks slots base plain kept cont

  -- the moves of a value begin with an edge of their own
  set_begins : (around : Around) (standing : Stood) (value : t.Expr) (spare at from count : ℕ) (place : Place) (kind : Kind) (end : Place) (to : ℕ) →
      begins t around standing (set_by t value spare at from place kind ++ Emits (i.Finish (run_of spare count)) end ∷ []) to ≡ New
  set_begins around standing value spare at from count place (Struct bytes) end to = refl
  set_begins around standing value spare at from count place (Integer of) end to = refl
  set_begins around standing value spare at from count place (Pointer item) end to = refl
  set_begins around standing value spare at from count place (Array item) end to = refl
  set_begins around standing value spare at from count place Void end to = refl

  -- moves that fail first
  fails_first : (levels : ℕ) (around : Around) (made : Made) (from : ℕ) (moves : List (Move t)) (to : ℕ) → IsSpelled flow made from (along t around (go levels t around) made from (Fails ∷ moves) to) → false ≡ true
  fails_first levels around made from moves to spelled = by_start (begins t around (stands_at made from) moves to) refl spelled
    where
      by_start : (start : Begin) → begins t around (stands_at made from) moves to ≡ start →
          IsSpelled flow made from (along_from t (λ made' point. along_at t around (go levels t around) made' point (stands_at made from) moves to) (go levels t around) made from Fails (stands_at made from) GoesOn start) → false ≡ true
      by_start (Here point) start spelled' =
          let fail : Move t = Fails in
          let one = go_placing levels t around made from fail point spelled'.inside spelled'.sound in
          let rest = (moves_placing t around (go levels t around) (go_placing levels t around) (go levels t around made from fail point) point (stands_at made from) moves to one.sound).1 point start in
          never t flow setting running levels around made from point (without_rest t flow setting running spelled' rest)
      by_start New start spelled' =
          let fail : Move t = Fails in
          never t flow setting running levels around (with_point (stands_at made from) made) from made.points (head_spelled t flow setting running levels around made from (stands_at made from) fail moves to spelled')

  -- an object at an offset
  set_at : (levels : ℕ) → IsAt t flow setting running levels → (around : Around) → IsAround setting around → (made : Made) (from : ℕ) (place : Place) (value : t.Expr) (end : Place) (to : ℕ) (stored : Stored)
      (found : Option ℕ) (none : Bool) → variable_of around (t.token place) ≡ found → nat_eq stored.offset 0 ≡ none →
      IsSpelled flow made from (along t around (go levels t around) (with_registers (left_by_set t value stored.kind + 3) made) from
      (object_moves found place (if none then made.registers + left_by_set t value stored.kind + 1 else made.registers + left_by_set t value stored.kind)
      ++ ((if none then [] else Emits (i.Shift (made.registers + left_by_set t value stored.kind + 1) (made.registers + left_by_set t value stored.kind) (pos stored.offset)) place ∷ [])
      ++ (set_by t value made.registers (made.registers + left_by_set t value stored.kind + 1) (made.registers + left_by_set t value stored.kind + 2) place stored.kind
      ++ Emits (i.Finish (run_of made.registers (left_by_set t value stored.kind))) end ∷ []))) to) →
      (now later : List (Stop t)) (tasks : List (TaskIn t)) (slots : List Slot) (base : ℕ) → Kept around (later ++ now) tasks base made.registers slots → Runs around (later ++ now) [] tasks slots to →
      Runs around now later (set t place value end (Some stored) ++ tasks) slots from
  set_at levels at around good made from place value end to stored None none is shifted spelled now later tasks slots base kept cont =
      absurd (false≢true (fails_first levels around (with_registers (left_by_set t value stored.kind + 3) made) from
      ((if none then [] else Emits (i.Shift (made.registers + left_by_set t value stored.kind + 1) (made.registers + left_by_set t value stored.kind) (pos stored.offset)) place ∷ [])
      ++ (set_by t value made.registers (made.registers + left_by_set t value stored.kind + 1) (made.registers + left_by_set t value stored.kind + 2) place stored.kind
      ++ Emits (i.Finish (run_of made.registers (left_by_set t value stored.kind))) end ∷ [])) to (spelled_registers (left_by_set t value stored.kind + 3) spelled)))
  set_at levels at around good made from place value end to stored (Some variable) true is shifted spelled now later tasks slots base kept cont =
      let count : ℕ = left_by_set t value stored.kind in
      let spare : ℕ = made.registers in
      let b : ℕ = spare + count + 1 in
      let made1 : Made = with_registers (count + 3) made in
      let move : Move t = Emits (i.Address b variable) place in
      let standing : Stood = after t move (stands_at made1 from) in
      let moves : List (Move t) = set_by t value spare b (spare + count + 2) place stored.kind ++ Emits (i.Finish (run_of spare count)) end ∷ [] in
      let spelled1 = subst (λ (start : Begin). IsSpelled flow made1 from
      (along_from t (λ made' point. along_at t around (go levels t around) made' point standing moves to) (go levels t around) made1 from move standing GoesOn start))
      (set_begins around standing value spare b (spare + count + 2) count place stored.kind end to) (spelled_registers (count + 3) spelled) in
      let first = head_spelled t flow setting running levels around made1 from standing move moves to spelled1 in
      let rest = tail_spelled t flow setting running levels around made1 from standing move moves to spelled1 in
      let made2 : Made = mid t flow setting running levels around made1 from standing move in
      let more = fills t flow setting running levels around made1 from standing move spelled1.inside spelled1.sound in
      let free_b : is_free b slots ≡ true = free_below spare b slots (omega arith) kept.below in
      object_edge around good from b made.points (t.token place) variable place (variable_in (names_of around.scopes) (t.token place)) refl is
      (one_at t flow setting running levels around (with_point standing made1) from made.points (i.Address b variable) place first) now later
      (Shift stored.offset ∷ ((set_parts t place stored.kind value ++ Finish end ∷ []) ++ tasks)) slots free_b
      (subst (λ (n : ℕ). Runs around (later ++ now) [] (Shift n ∷ ((set_parts t place stored.kind value ++ Finish end ∷ []) ++ tasks)) (InRegister b 8 false ∷ slots) made.points) (sym (eqb-true stored.offset 0 shifted))
      (ShiftsNothing b false
      (value_set levels at around good made2 made.points spare place value end to stored.kind standing (omega arith) rest (later ++ now) tasks slots base false kept cont)))
  set_at levels at around good made from place value end to stored (Some variable) false is shifted spelled now later tasks slots base kept cont =
      let count : ℕ = left_by_set t value stored.kind in
      let spare : ℕ = made.registers in
      let a : ℕ = spare + count in
      let b : ℕ = spare + count + 1 in
      let made1 : Made = with_registers (count + 3) made in
      let move : Move t = Emits (i.Address a variable) place in
      let standing : Stood = after t move (stands_at made1 from) in
      let shift : Move t = Emits (i.Shift b a (pos stored.offset)) place in
      let standing' : Stood = after t shift standing in
      let moves : List (Move t) = set_by t value spare b (spare + count + 2) place stored.kind ++ Emits (i.Finish (run_of spare count)) end ∷ [] in
      let spelled1 = spelled_registers (count + 3) spelled in
      let first = head_spelled t flow setting running levels around made1 from standing move (shift ∷ moves) to spelled1 in
      let rest = tail_spelled t flow setting running levels around made1 from standing move (shift ∷ moves) to spelled1 in
      let made2 : Made = mid t flow setting running levels around made1 from standing move in
      let rest1 = subst (λ (start : Begin). IsSpelled flow made2 made.points
      (along_from t (λ made' point. along_at t around (go levels t around) made' point standing' moves to) (go levels t around) made2 made.points shift standing' GoesOn start))
      (set_begins around standing' value spare b (spare + count + 2) count place stored.kind end to) rest in
      let second = head_spelled t flow setting running levels around made2 made.points standing' shift moves to rest1 in
      let last = tail_spelled t flow setting running levels around made2 made.points standing' shift moves to rest1 in
      let made3 : Made = mid t flow setting running levels around made2 made.points standing' shift in
      let more = fills t flow setting running levels around made1 from standing move spelled1.inside spelled1.sound in
      let more' = fills t flow setting running levels around made2 made.points standing' shift rest1.inside rest1.sound in
      let free_a : is_free a slots ≡ true = free_below spare a slots (omega arith) kept.below in
      let free_b : is_free b slots ≡ true = free_below spare b slots (omega arith) kept.below in
      object_edge around good from a made.points (t.token place) variable place (variable_in (names_of around.scopes) (t.token place)) refl is
      (one_at t flow setting running levels around (with_point standing made1) from made.points (i.Address a variable) place first) now later
      (Shift stored.offset ∷ ((set_parts t place stored.kind value ++ Finish end ∷ []) ++ tasks)) slots free_a
      (Shifts stored.offset a 8 b made2.points false place
      (one_at t flow setting running levels around (with_point standing' made2) made.points made2.points (i.Shift b a (pos stored.offset)) place second) free_b free_a
      (value_set levels at around good made3 made2.points spare place value end to stored.kind standing' (omega arith) last (later ++ now) tasks slots base false kept cont))

  set_form : (levels : ℕ) → IsAt t flow setting running levels → (around : Around) → IsAround setting around → (made : Made) (from : ℕ) (place : Place) (value : t.Expr) (end : Place) (to : ℕ) (stored : Option Stored) →
      IsSpelled flow made from (place_set t (go levels t) around made from place value end to stored) →
      (now later : List (Stop t)) (tasks : List (TaskIn t)) (slots : List Slot) (base : ℕ) → Kept around (later ++ now) tasks base made.registers slots → Runs around (later ++ now) [] tasks slots to →
      Runs around now later (set t place value end stored ++ tasks) slots from
  set_form levels at around good made from place value end to None spelled now later tasks slots base kept cont = absurd (false≢true spelled.graph)
  set_form levels at around good made from place value end to (Some stored) spelled now later tasks slots base kept cont =
      set_at levels at around good made from place value end to stored (variable_of around (t.token place)) (nat_eq stored.offset 0) refl refl spelled now later tasks slots base kept cont

  -- an initialiser without a value does nothing
  pub empties : (levels : ℕ) (around : Around) (place : Place) (init : t.Init) → is_empty_within levels t init ≡ true → (now later : List (Stop t)) (tasks : List (TaskIn t)) (slots : List Slot) (from : ℕ) →
      Runs around now later tasks slots from → Runs around now later (Initialise place init ∷ tasks) slots from
  empties zero around place init empty now later tasks slots from cont = absurd (false≢true empty)
  empties (suc levels) around place init empty now later tasks slots from cont =
      Sets place init (by_form (t.initialiser init) empty (λ part is rest more. empties levels around place part is now later rest slots from more))
    where
      by_form : (form : Initialiser t.Expr t.Init) → has_no_value t (is_empty_within levels t) form ≡ true →
          ((part : t.Init) → is_empty_within levels t part ≡ true → (rest : List (TaskIn t)) → Runs around now later rest slots from → Runs around now later (Initialise place part ∷ rest) slots from) →
          Runs around now later (initialiser_parts t place form ++ tasks) slots from
      by_form (Value value end) is each = absurd (false≢true is)
      by_form (Braces parts) is each = in_turn parts is
        where
          in_turn : (list : List t.Init) → list_all (is_empty_within levels t) list ≡ true → Runs around now later (map (Initialise place) list ++ tasks) slots from
          in_turn [] is' = cont
          in_turn (part ∷ list) is' =
              let both = and_parts (is_empty_within levels t part) (list_all (is_empty_within levels t) list) is' in
              each part both.0 (map (Initialise place) list ++ tasks) (in_turn list both.1)

  -- what objects that become 0 and initialisers are to do
  abbrev pub todo : List (Move t) → List (TaskIn t)
  todo [] = []
  todo (Clears place object ∷ moves) = ObjectAt (t.token place) ∷ Zero place object.bytes ∷ todo moves
  todo (Initialises place init ∷ moves) = Initialise place init ∷ todo moves
  todo (other ∷ moves) = todo moves

  abbrev pub AreSet : List (Move t) → Type 0
  AreSet [] = Unit {0}
  AreSet (Clears place object ∷ moves) = AreSet moves
  AreSet (Initialises place init ∷ moves) = AreSet moves
  AreSet (other ∷ moves) = ⊥

  todo_loop : (moves : List (Move t)) → AreSet moves → (tasks : List (TaskIn t)) → loop_left (todo moves ++ tasks) ≡ loop_left tasks
  todo_loop [] are tasks = refl
  todo_loop (Clears place object ∷ moves) are tasks = todo_loop moves are tasks
  todo_loop (Initialises place init ∷ moves) are tasks = todo_loop moves are tasks
  todo_loop (other ∷ moves) are tasks = absurd are

  todo_body : (moves : List (Move t)) → AreSet moves → (tasks : List (TaskIn t)) → body_left (todo moves ++ tasks) ≡ body_left tasks
  todo_body [] are tasks = refl
  todo_body (Clears place object ∷ moves) are tasks = todo_body moves are tasks
  todo_body (Initialises place init ∷ moves) are tasks = todo_body moves are tasks
  todo_body (other ∷ moves) are tasks = absurd are

  kept_todo : (around : Around) (stops : List (Stop t)) (moves : List (Move t)) → AreSet moves → (tasks : List (TaskIn t)) (base count : ℕ) (slots : List Slot) → Kept around stops tasks base count slots →
      Kept around stops (todo moves ++ tasks) base count slots
  kept_todo around stops moves are tasks base count slots kept =
      subst (λ (left : Option (LoopLeft t.Expr t.Stmt t.Init)). IsKept t flow setting running around stops left (body_left (todo moves ++ tasks)) base count slots) (sym (todo_loop moves are tasks))
      (subst (λ (left : Option (BodyLeft t.Expr t.Stmt t.Init)). IsKept t flow setting running around stops (loop_left tasks) left base count slots) (sym (todo_body moves are tasks)) kept)

  module _ (levels : ℕ) (clears : ClearsIs t flow setting running levels) (initialises : InitialisesIs t flow setting running levels) (around : Around) (good : IsAround setting around) (standing : Stood) (to : ℕ)
      (tasks : List (TaskIn t)) (slots : List Slot) (base : ℕ) where
    -- where nothing that follows makes an edge
    set_led : (moves : List (Move t)) → AreSet moves → (now later : List (Stop t)) (point : ℕ) → begins t around standing moves to ≡ Here point → Runs around now later tasks slots to →
        Runs around now later (todo moves ++ tasks) slots point
    set_led [] are now later point is cont = subst (λ (n : ℕ). Runs around now later tasks slots n) (same_Some to point (ap begun_at is)) cont
    set_led (Clears place object ∷ moves) are now later point is cont = absurd (none-some point (ap begun_at is))
    set_led (Initialises place init ∷ moves) are now later point is cont = by_empty (is_empty_within t.enough t init) refl is (λ is'. set_led moves are now later point is' cont)
      where
        by_empty : (empty : Bool) → is_empty_within t.enough t init ≡ empty → begin_by (idle_where empty) (begins t around standing moves to) ≡ Here point →
            (begins t around standing moves to ≡ Here point → Runs around now later (todo moves ++ tasks) slots point) → Runs around now later (Initialise place init ∷ (todo moves ++ tasks)) slots point
        by_empty true empty is' more = empties t.enough around place init empty now later (todo moves ++ tasks) slots point (more is')
        by_empty false empty is' more = absurd (none-some point (ap begun_at is'))
    set_led (other ∷ moves) are now later point is cont = absurd are

    abbrev placed_at : Made → ℕ → List (Move t) → Made
    placed_at made from moves = along_at t around (go levels t around) made from standing moves to

    abbrev Rests : List (Move t) → Type 0
    Rests moves = (now later : List (Stop t)) (made : Made) (from : ℕ) → Kept around (later ++ now) tasks base made.registers slots → IsSpelled flow made from (placed_at made from moves) →
        begins t around standing moves to ≡ New → Runs around (later ++ now) [] tasks slots to → Runs around now later (todo moves ++ tasks) slots from

    -- one that makes edges, and what follows it
    first_goes : (move : Move t) (moves : List (Move t)) → AreSet moves → Rests moves → (now later : List (Stop t)) (made : Made) (from : ℕ) (start : Begin) → begins t around standing moves to ≡ start →
        Kept around (later ++ now) tasks base made.registers slots →
        IsSpelled flow made from (along_from t (λ made' point. placed_at made' point moves) (go levels t around) made from move standing GoesOn start) → Runs around (later ++ now) [] tasks slots to → (Here' : Type 0) →
        ((made' : Made) (at : ℕ) → made.registers ≤ made'.registers → IsSpelled flow made' from (go levels t around made' from move at) → Runs around (later ++ now) [] (todo moves ++ tasks) slots at → Here') → Here'
    first_goes move moves are rests now later made from (Here point) start kept spelled cont Here' goes =
        let one = go_placing levels t around made from move point spelled.inside spelled.sound in
        let rest = (moves_placing t around (go levels t around) (go_placing levels t around) (go levels t around made from move point) point standing moves to one.sound).1 point start in
        goes made point (omega arith) (without_rest t flow setting running spelled rest) (set_led moves are (later ++ now) [] point start cont)
    first_goes move moves are rests now later made from New start kept spelled cont Here' goes =
        let first = head_spelled t flow setting running levels around made from standing move moves to spelled in
        let rest = tail_spelled t flow setting running levels around made from standing move moves to spelled in
        let more = fills t flow setting running levels around made from standing move spelled.inside spelled.sound in
        let next : Made = mid t flow setting running levels around made from standing move in
        goes (with_point standing made) made.points (omega arith) first (rests (later ++ now) [] next made.points (kept_more t flow setting running next.registers more kept) rest start cont)

    pub set_order : (moves : List (Move t)) → AreSet moves → Rests moves
    set_order [] are now later made from kept spelled new cont = absurd (none-some to (ap begun_at (sym new)))
    set_order (Clears place object ∷ moves) are now later made from kept spelled new cont =
        first_goes (Clears place object) moves are (set_order moves are) now later made from (begins t around standing moves to) refl kept spelled cont
        (Runs around now later (ObjectAt (t.token place) ∷ Zero place object.bytes ∷ (todo moves ++ tasks)) slots from)
        (λ made' at more spelled' rest. clears around good made' from place object at spelled' now later (todo moves ++ tasks) slots base
        (kept_todo around (later ++ now) moves are tasks base made'.registers slots (kept_more t flow setting running made'.registers more kept)) rest)
    set_order (Initialises place init ∷ moves) are now later made from kept spelled new cont = by_empty (is_empty_within t.enough t init) refl spelled new (set_order moves are)
      where
        by_empty : (empty : Bool) → is_empty_within t.enough t init ≡ empty →
            IsSpelled flow made from (along_from t (λ made' point. placed_at made' point moves) (go levels t around) made from (Initialises place init) standing (idle_where empty) (begins t around standing moves to)) →
            begin_by (idle_where empty) (begins t around standing moves to) ≡ New → Rests moves → Runs around now later (Initialise place init ∷ (todo moves ++ tasks)) slots from
        by_empty true empty spelled' new' rests = empties t.enough around place init empty now later (todo moves ++ tasks) slots from (rests now later made from kept spelled' new' cont)
        by_empty false empty spelled' new' rests =
            first_goes (Initialises place init) moves are rests now later made from (begins t around standing moves to) refl kept spelled' cont
            (Runs around now later (Initialise place init ∷ (todo moves ++ tasks)) slots from)
            (λ made' at more spelled'' rest. initialises around good made' from place init at empty spelled'' now later (todo moves ++ tasks) slots base
            (kept_todo around (later ++ now) moves are tasks base made'.registers slots (kept_more t flow setting running made'.registers more kept)) rest)
    set_order (other ∷ moves) are now later made from kept spelled new cont = absurd are

  -- the parts of braces
  parts_set : (place : Place) (parts : List t.Init) → AreSet (map (Initialises place) parts)
  parts_set place [] = tt
  parts_set place (part ∷ parts) = parts_set place parts

  parts_todo : (place : Place) (parts : List t.Init) → todo (map (Initialises place) parts) ≡ map (Initialise place) parts
  parts_todo place [] = refl
  parts_todo place (part ∷ parts) = ap (λ (list : List (TaskIn t)). Initialise place part ∷ list) (parts_todo place parts)

  parts_begin : (around : Around) (standing : Stood) (place : Place) (parts : List t.Init) (to : ℕ) → list_all (is_empty_within t.enough t) parts ≡ false → begins t around standing (map (Initialises place) parts) to ≡ New
  parts_begin around standing place [] to is = absurd (false≢true (sym is))
  parts_begin around standing place (part ∷ parts) to is = by_empty (is_empty_within t.enough t part) is (parts_begin around standing place parts to)
    where
      by_empty : (empty : Bool) → (empty && list_all (is_empty_within t.enough t) parts) ≡ false →
          (list_all (is_empty_within t.enough t) parts ≡ false → begins t around standing (map (Initialises place) parts) to ≡ New) →
          begin_by (idle_where empty) (begins t around standing (map (Initialises place) parts) to) ≡ New
      by_empty true is' more = more is'
      by_empty false is' more = refl

  pub initialises_form : (levels : ℕ) → IsAt t flow setting running levels → ClearsIs t flow setting running levels → InitialisesIs t flow setting running levels → InitialisesIs t flow setting running (suc levels)
  initialises_form levels at clears initialises around good made from place init to empty spelled now later tasks slots base kept cont =
      Sets place init (by_form (t.initialiser init) spelled)
    where
      by_form : (form : Initialiser t.Expr t.Init) → IsSpelled flow made from (place_initialiser t (go levels t) around made from place to form) → Runs around now later (initialiser_parts t place form ++ tasks) slots from
      by_form (Value value end) spelled' = set_form levels at around good made from place value end to (t.store place value) spelled' now later tasks slots base kept cont
      by_form (Braces parts) spelled' = by_all (list_all (is_empty_within t.enough t) parts) refl spelled'
        where
          by_all : (all : Bool) → list_all (is_empty_within t.enough t) parts ≡ all →
              IsSpelled flow made from (if all then failed made else along t around (go levels t around) made from (map (Initialises place) parts) to) → Runs around now later (map (Initialise place) parts ++ tasks) slots from
          by_all true all spelled'' = absurd (false≢true spelled''.graph)
          by_all false all spelled'' =
              subst (λ (list : List (TaskIn t)). Runs around now later (list ++ tasks) slots from) (parts_todo place parts)
              (set_order levels clears initialises around good (stands_at made from) to tasks slots base (map (Initialises place) parts) (parts_set place parts) now later made from kept spelled''
              (parts_begin around (stands_at made from) place parts to all) cont)

  -- names that are declared
  set_append : (one other : List (Move t)) → AreSet one → AreSet other → AreSet (one ++ other)
  set_append [] other are are' = are'
  set_append (Clears place object ∷ one) other are are' = set_append one other are are'
  set_append (Initialises place init ∷ one) other are are' = set_append one other are are'
  set_append (move ∷ one) other are are' = absurd are

  todo_append : (one other : List (Move t)) → AreSet one → todo (one ++ other) ≡ todo one ++ todo other
  todo_append [] other are = refl
  todo_append (Clears place object ∷ one) other are = ap (λ (list : List (TaskIn t)). ObjectAt (t.token place) ∷ Zero place object.bytes ∷ list) (todo_append one other are)
  todo_append (Initialises place init ∷ one) other are = ap (λ (list : List (TaskIn t)). Initialise place init ∷ list) (todo_append one other are)
  todo_append (move ∷ one) other are = absurd are

  not_empty : (levels : ℕ) (init : t.Init) (value : t.Expr) (end : Place) → t.initialiser init ≡ Value value end → is_empty_within levels t init ≡ false
  not_empty zero init value end is = refl
  not_empty (suc levels) init value end is = ap (has_no_value t (is_empty_within levels t)) is

  -- of one name: the same is to be done, and it begins with an edge where something is
  pub record NameDone (around : Around) (standing : Stood) (name : Declared t.Init) : Type 0 where
    pub are : AreSet (declared_moves t name)
    pub same : todo (declared_moves t name) ≡ declared_tasks t name
    pub begin : does_nothing t name ≡ false → (moves : List (Move t)) (to : ℕ) → begins t around standing (declared_moves t name ++ moves) to ≡ New
    pub none : does_nothing t name ≡ true → declared_moves t name ≡ []

  name_done : (around : Around) (standing : Stood) (name : Declared t.Init) → NameDone around standing name
  name_done around standing name = by_parts (t.automatic name.place) name.init refl refl
    where
      with_value : (object : Object) (init : t.Init) (form : Initialiser t.Expr t.Init) → t.initialiser init ≡ form → AreSet (zeroed t name.place object form ++ Initialises name.place init ∷ [])
      with_value object init (Value value end) is = tt
      with_value object init (Braces parts) is = tt

      same_todo : (object : Object) (init : t.Init) (form : Initialiser t.Expr t.Init) →
          todo (zeroed t name.place object form ++ Initialises name.place init ∷ []) ≡ zeroed_tasks t name.place object form ++ Initialise name.place init ∷ []
      same_todo object init (Value value end) = refl
      same_todo object init (Braces parts) = refl

      begin_with : (object : Object) (init : t.Init) (form : Initialiser t.Expr t.Init) → t.initialiser init ≡ form → (moves : List (Move t)) (to : ℕ) →
          begins t around standing ((zeroed t name.place object form ++ Initialises name.place init ∷ []) ++ moves) to ≡ New
      begin_with object init (Value value end) is moves to = ap (λ (empty : Bool). begin_by (idle_where empty) (begins t around standing moves to)) (not_empty t.enough init value end is)
      begin_with object init (Braces parts) is moves to = refl

      by_parts : (object : Option Object) (init : Option t.Init) → t.automatic name.place ≡ object → name.init ≡ init → NameDone around standing name
      by_parts None init is is' = record {
        are = subst (λ (found : Option Object). AreSet (declared_by t name.place found name.init)) (sym is) tt;
        same = ap (λ (found : Option Object). todo (declared_by t name.place found name.init)) is ∙ sym (ap (λ (found : Option Object). declared_parts t name.place found name.init) is);
        begin = λ something. absurd (false≢true (sym something ∙ nothing_without (sym is)));
        none = λ nothing. ap (λ (found : Option Object). declared_by t name.place found name.init) is;
      }
        where
          nothing_without : None ≡ t.automatic name.place → does_nothing t name ≡ true
          nothing_without none = rw (sym none) refl
      by_parts (Some object) None is is' = record {
        are = rw (is, is') tt;
        same = rw (is, is') refl;
        begin = λ something. absurd (false≢true (sym something ∙ rw (is, is') refl));
        none = λ nothing. rw (is, is') refl;
      }
      by_parts (Some object) (Some init) is is' = record {
        are = rw (is, is') (with_value object init (t.initialiser init) refl);
        same = rw (is, is') (same_todo object init (t.initialiser init));
        begin = λ something moves to. rw (is, is') (begin_with object init (t.initialiser init) refl moves to);
        none = λ nothing. absurd (false≢true (sym (rw (is, is') refl) ∙ nothing));
      }

  names_set : (around : Around) (standing : Stood) (names : List (Declared t.Init)) → AreSet (flat_map (declared_moves t) names)
  names_set around standing [] = tt
  names_set around standing (name ∷ names) = set_append (declared_moves t name) (flat_map (declared_moves t) names) (name_done around standing name).are (names_set around standing names)

  names_todo : (around : Around) (standing : Stood) (names : List (Declared t.Init)) → todo (flat_map (declared_moves t) names) ≡ flat_map (declared_tasks t) names
  names_todo around standing [] = refl
  names_todo around standing (name ∷ names) =
      todo_append (declared_moves t name) (flat_map (declared_moves t) names) (name_done around standing name).are
      ∙ (ap (λ (list : List (TaskIn t)). list ++ todo (flat_map (declared_moves t) names)) (name_done around standing name).same
      ∙ ap (λ (list : List (TaskIn t)). declared_tasks t name ++ list) (names_todo around standing names))

  names_begin : (around : Around) (standing : Stood) (names : List (Declared t.Init)) (to : ℕ) → list_all (does_nothing t) names ≡ false → begins t around standing (flat_map (declared_moves t) names) to ≡ New
  names_begin around standing [] to is = absurd (false≢true (sym is))
  names_begin around standing (name ∷ names) to is = by_nothing (does_nothing t name) refl is (names_begin around standing names to)
    where
      by_nothing : (nothing : Bool) → does_nothing t name ≡ nothing → (nothing && list_all (does_nothing t) names) ≡ false →
          (list_all (does_nothing t) names ≡ false → begins t around standing (flat_map (declared_moves t) names) to ≡ New) →
          begins t around standing (declared_moves t name ++ flat_map (declared_moves t) names) to ≡ New
      by_nothing true nothing is' more =
          ap (λ (moves : List (Move t)). begins t around standing (moves ++ flat_map (declared_moves t) names) to) ((name_done around standing name).none nothing) ∙ more is'
      by_nothing false nothing is' more = (name_done around standing name).begin nothing (flat_map (declared_moves t) names) to

  pub declare_form : (levels : ℕ) → ClearsIs t flow setting running levels → InitialisesIs t flow setting running levels → (around : Around) → IsAround setting around → (made : Made) (from : ℕ) (stmt : t.Stmt)
      (names : List (Declared t.Init)) (to : ℕ) → t.clause stmt ≡ Declare names → list_all (does_nothing t) names ≡ false →
      IsSpelled flow made from (along t around (go levels t around) made from (flat_map (declared_moves t) names) to) →
      (now later : List (Stop t)) (tasks : List (TaskIn t)) (slots : List Slot) (base : ℕ) → Kept around (later ++ now) tasks base made.registers slots → Runs around (later ++ now) [] tasks slots to →
      Runs around now later (Execute stmt ∷ tasks) slots from
  declare_form levels clears initialises around good made from stmt names to is something spelled now later tasks slots base kept cont =
      executes t flow setting running around now later tasks slots from stmt (Declare names) is
      (subst (λ (list : List (TaskIn t)). Runs around now later (list ++ tasks) slots from) (names_todo around (stands_at made from) names)
      (set_order levels clears initialises around good (stands_at made from) to tasks slots base (flat_map (declared_moves t) names) (names_set around (stands_at made from) names) now later made from kept spelled
      (names_begin around (stands_at made from) names to something) cont))
