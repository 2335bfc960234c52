-- What is placed for operators on two values is what the rest of a run wants: both sides, their conversions, each in a register of its own, and the operation.
use Rattle.std.proofs.Common.{◌≡◌, ◌≢◌, ◌≤◌, ◌⊎◌, ℕ, ◌+◌, max, List, [], ◌∷◌, ◌++◌, Bool, true, false, nat_eq, refl, sym, ◌∙◌, inl, inr, arith, Option, None, Some, option_map, subst, if◌then◌else◌}
use Rattle.std.proofs.lemmas.Bool.{false≢true}
use Rattle.cbase.specs.declared.place.Place.{Place}
use Rattle.cbase.specs.declared.tree.operators.BinaryOp.{BinaryOp}
use Rattle.cbase.specs.declared.tree.operators.BinaryOp.TheVariants.{Add, Equal, NotEqual, Both, Either, Comma}
use Rattle.c_machine.specs.declared.kind.Kind.{Kind}
use Rattle.c_machine.specs.declared.task.Task.TheVariants.{ValueOf, Operate}
use Rattle.c_machine.specs.Text.{Binary, Index, Text}
use Rattle.c_machine.specs.Expressions.{value_kind, binary_parts}
use Rattle.c_machine.specs.State.{TaskIn}
use Rattle.flow.specs.declared.flow_graph.Flow.{Flow}
use Rattle.flow.specs.declared.flow_graph.Standing.{Standing as Stood}
use Rattle.flow.specs.declared.instruction.Instr.{Instr}
use Rattle.flow.specs.declared.instruction.Instr.TheVariants as i
use Rattle.simulation.specs.Edges.{One}
use Rattle.simulation.specs.Running.{Setting, Running}
use Rattle.simulation.specs.Slots.{Slot, InRegister, is_free}
use Rattle.simulation.specs.Turning.{Turns, Stays, Turned, Calculated}
use Rattle.simulation.specs.Lowered.{Stop, Operates}
use Rattle.lowering.specs.Kinds.{width, is_address, fits, Sides, sides, made_by}
use Rattle.lowering.specs.declared.conversion.Conversion.{Conversion}
use Rattle.lowering.specs.declared.conversion.Conversion.TheVariants.{Nothing, Resized, Tested, Dropped, Unknown as NoConversion}
use Rattle.lowering.specs.LetGo.{AsValue, left_of, left_by_binary}
use Rattle.lowering.specs.Moves.{Move, Emits, Evaluates, Fails, Line, taking, resizes, stands_in, combines, operates}
use Rattle.lowering.specs.Table.{binary_line, kind_by_binary}
use Rattle.lowering.specs.Placing.{Made, Around, Begin, New, Goes, begins, with_point, with_registers, stands_at, after, along_from, along_at, along, along_line, go}
use Rattle.lowering.proofs.KindFacts.{IsAsPlain, fitted, address_width}
use Rattle.lowering.proofs.LeftOf.{own_value}
use Rattle.lowering.proofs.Modes.{IsAround, Rest, Ready, IsAt}
use Rattle.lowering.proofs.Operating.{turn_of, size_by, plain_by, is_turn, IsCombined, NoneCombined, is_computing, combining}
use Rattle.lowering.proofs.Placings.{IsSpelled, spelled_registers}
use Rattle.lowering.proofs.Ready.{free_beside, own_target, part_ready, slot_ready, own_free, mid, rest_made, head_spelled, tail_spelled, fills, one_at, never}
use Rattle.lowering.proofs.Spelling.{unfolds, unfolds_place, made_fits, not_void, FormIs, PlaceFormIs}

pub same_map : {A : Type 0} (one : Option A) → one ≡ option_map (λ value. value) one
same_map None = refl
same_map (Some value) = refl

-- where a value stands behind a conversion
pub in_place : (P : ℕ → Type 0) (change : Conversion) (one one' : ℕ) → P one → P one' → P (stands_in change one one')
in_place P Nothing one one' here there = here
in_place P (Resized bytes signed) one one' here there = there
in_place P Tested one one' here there = there
in_place P Dropped one one' here there = there
in_place P NoConversion one one' here there = there

-- the registers of both sides and of their conversions are new, and each is another one
pub record AreOwn (slots : List Slot) (one other one' other' : ℕ) : Type 0 where
  pub one_free : is_free one slots ≡ true
  pub other_free : is_free other slots ≡ true
  pub one_free' : is_free one' slots ≡ true
  pub other_free' : is_free other' slots ≡ true
  pub sides : other ≢ one
  pub left : other ≢ one'
  pub right : one ≢ other'
  pub both : one' ≢ other'

module _ (t : Text) (flow : Flow) (setting : Setting) (running : Running) where
  abbrev Goes_on : Around → List (Stop t) → List (Stop t) → List (TaskIn t) → List Slot → ℕ → Type 0
  Goes_on around now later tasks slots point = Rest t flow setting running around now later tasks slots point

  -- moves that take a point of their own
  abbrev pub AreNew : Around → List (Move t) → ℕ → Type 0
  AreNew around moves to = (standing : Stood) → begins t around standing moves to ≡ New

  pub resizes_new : (around : Around) (change : Conversion) (from into : ℕ) (place : Place) (moves : List (Move t)) (to : ℕ) → AreNew around moves to → AreNew around (resizes change from into place ++ moves) to
  resizes_new around Nothing from into place moves to new = new
  resizes_new around (Resized bytes signed) from into place moves to new = λ standing. refl
  resizes_new around Tested from into place moves to new = λ standing. refl
  resizes_new around Dropped from into place moves to new = λ standing. refl
  resizes_new around NoConversion from into place moves to new = λ standing. refl

  abbrev pub Spells : ℕ → Around → Made → ℕ → Stood → List (Move t) → ℕ → Type 0
  Spells levels around made from standing moves to = IsSpelled flow made from (along_at t around (go levels t around) made from standing moves to)

  pub begun : (levels : ℕ) (around : Around) (made : Made) (from : ℕ) (move : Move t) (standing : Stood) (moves : List (Move t)) (to : ℕ) → AreNew around moves to →
      IsSpelled flow made from (along_from t (λ made' point. along_at t around (go levels t around) made' point standing moves to) (go levels t around) made from move standing Goes (begins t around standing moves to)) →
      IsSpelled flow made from (rest_made t flow setting running levels around made from standing move moves to)
  begun levels around made from move standing moves to new spelled =
      subst (λ (b : Begin). IsSpelled flow made from (along_from t (λ made' point. along_at t around (go levels t around) made' point standing moves to) (go levels t around) made from move standing Goes b))
      (new standing) spelled

  -- an edge to a new point, and what stands behind it
  pub edge_then : {A : Type 0} (levels : ℕ) (around : Around) (made : Made) (from : ℕ) (standing : Stood) (instr : Instr) (place : Place) (moves : List (Move t)) (to : ℕ) → AreNew around moves to →
      Spells levels around made from standing (Emits instr place ∷ moves) to →
      ((made' : Made) (point : ℕ) (standing' : Stood) → made.registers ≤ made'.registers → One flow from instr point place → Spells levels around made' point standing' moves to → A) → A
  edge_then levels around made from standing instr place moves to new spelled cont =
      let move : Move t = Emits instr place in
      let behind : Stood = after t move standing in
      let spelled' = begun levels around made from move behind moves to new spelled in
      cont (mid t flow setting running levels around made from behind move) made.points behind (fills t flow setting running levels around made from behind move spelled'.inside spelled'.sound)
      (one_at t flow setting running levels around (with_point behind made) from made.points instr place (head_spelled t flow setting running levels around made from behind move moves to spelled'))
      (tail_spelled t flow setting running levels around made from behind move moves to spelled')

  pub fails_then : {A : Type 0} (levels : ℕ) (around : Around) (made : Made) (from : ℕ) (standing : Stood) (moves : List (Move t)) (to : ℕ) → AreNew around moves to → Spells levels around made from standing (Fails ∷ moves) to → A
  fails_then levels around made from standing moves to new spelled =
      never t flow setting running levels around (with_point (after t Fails standing) made) from made.points
      (head_spelled t flow setting running levels around made from (after t Fails standing) Fails moves to (begun levels around made from Fails (after t Fails standing) moves to new spelled))

  -- a conversion, and what stands behind it
  pub turns_then : {A : Type 0} (levels : ℕ) (around : Around) (made : Made) (from : ℕ) (standing : Stood) (change : Conversion) (register size into : ℕ) (plain : Bool) (place : Place) (others : List Slot)
      (moves : List (Move t)) (to : ℕ) → AreNew around moves to → is_free into others ≡ true → is_free register others ≡ true →
      Spells levels around made from standing (resizes change register into place ++ moves) to →
      ((made' : Made) (point : ℕ) (standing' : Stood) → made.registers ≤ made'.registers → is_turn change ≡ true →
      Turns flow others from register size plain (turn_of change size) point (stands_in change register into) (size_by change size) (plain_by change plain) → Spells levels around made' point standing' moves to → A) → A
  turns_then levels around made from standing Nothing register size into plain place others moves to new free free' spelled cont = cont made from standing (omega arith) refl Stays spelled
  turns_then levels around made from standing (Resized bytes signed) register size into plain place others moves to new free free' spelled cont =
      let move : Move t = Emits (i.Convert into register bytes signed) place in
      let behind : Stood = after t move standing in
      let spelled' = begun levels around made from move behind moves to new spelled in
      cont (mid t flow setting running levels around made from behind move) made.points behind (fills t flow setting running levels around made from behind move spelled'.inside spelled'.sound) refl
      (Turned made.points into bytes signed place
      (one_at t flow setting running levels around (with_point behind made) from made.points (i.Convert into register bytes signed) place
      (head_spelled t flow setting running levels around made from behind move moves to spelled')) free free')
      (tail_spelled t flow setting running levels around made from behind move moves to spelled')
  turns_then levels around made from standing Tested register size into plain place others moves to new free free' spelled cont = fails_then levels around made from standing moves to new spelled
  turns_then levels around made from standing Dropped register size into plain place others moves to new free free' spelled cont = fails_then levels around made from standing moves to new spelled
  turns_then levels around made from standing NoConversion register size into plain place others moves to new free free' spelled cont = fails_then levels around made from standing moves to new spelled

  -- the conversions of both sides, and what stands behind them
  abbrev LeftTurns : List Slot → Sides → (from middle one other one' size size' : ℕ) (plain plain' : Bool) → Type 0
  LeftTurns slots between from middle one other one' size size' plain plain' =
      Turns flow (InRegister other size' plain' ∷ slots) from one size plain (turn_of between.left size) middle (stands_in between.left one one') (size_by between.left size) (plain_by between.left plain)

  abbrev RightTurns : List Slot → Sides → (middle point one other one' other' size size' : ℕ) (plain plain' : Bool) → Type 0
  RightTurns slots between middle point one other one' other' size size' plain plain' =
      Turns flow (InRegister (stands_in between.left one one') (size_by between.left size) (plain_by between.left plain) ∷ slots) middle other size' plain' (turn_of between.right size')
      point (stands_in between.right other other') (size_by between.right size') (plain_by between.right plain')

  pub both_turn : {A : Type 0} (levels : ℕ) (around : Around) (made : Made) (from : ℕ) (standing : Stood) (between : Sides) (one other one' other' size size' : ℕ) (plain plain' : Bool) (place : Place) (slots : List Slot)
      (moves : List (Move t)) (to : ℕ) → AreOwn slots one other one' other' → AreNew around moves to →
      Spells levels around made from standing (resizes between.left one one' place ++ (resizes between.right other other' place ++ moves)) to →
      ((made' : Made) (middle point : ℕ) (standing' : Stood) → made.registers ≤ made'.registers → is_turn between.left ≡ true → is_turn between.right ≡ true →
      LeftTurns slots between from middle one other one' size size' plain plain' → RightTurns slots between middle point one other one' other' size size' plain plain' → Spells levels around made' point standing' moves to → A) → A
  both_turn levels around made from standing between one other one' other' size size' plain plain' place slots moves to own new spelled cont =
      let P : ℕ → Type 0 = λ (register : ℕ). (register ≢ other) × (register ≢ other') in
      let apart = in_place P between.left one one' ((λ same. own.sides (sym same)), own.right) ((λ same. own.left (sym same)), own.both) in
      turns_then levels around made from standing between.left one size one' plain place (InRegister other size' plain' ∷ slots) (resizes between.right other other' place ++ moves) to
      (resizes_new around between.right other other' place moves to new)
      (free_beside one' other size' plain' slots own.left own.one_free') (free_beside one other size' plain' slots own.sides own.one_free) spelled
      (λ made' middle standing' more turns left spelled'.
      turns_then levels around made' middle standing' between.right other size' other' plain' place (InRegister (stands_in between.left one one') (size_by between.left size) (plain_by between.left plain) ∷ slots) moves to new
      (free_beside other' (stands_in between.left one one') (size_by between.left size) (plain_by between.left plain) slots apart.1 own.other_free')
      (free_beside other (stands_in between.left one one') (size_by between.left size) (plain_by between.left plain) slots apart.0 own.other_free) spelled'
      (λ made'' point standing'' more' turns' right spelled''. cont made'' middle point standing'' (omega arith) turns turns' left right spelled''))

  -- the values of both sides, from left to right
  pub two_values : (levels : ℕ) → IsAt t flow setting running levels → (around : Around) → IsAround setting around → (made : Made) (from : ℕ) (one other : t.Expr) (moves : List (Move t)) (spare to : ℕ) → AreNew around moves to →
      IsSpelled flow made from (along t around (go levels t around) (with_registers 4 made) from (Evaluates one spare made.registers ∷ Evaluates other spare (made.registers + 1) ∷ moves) to) →
      (now later : List (Stop t)) (tasks : List (TaskIn t)) (slots : List Slot) (base : ℕ) →
      Ready t flow setting running around now later tasks base made.registers slots spare (max (left_of t (AsValue false) one) (left_of t (AsValue false) other)) →
      ((made' : Made) (point : ℕ) (standing : Stood) (plain plain' : Bool) → IsAsPlain (value_kind t one) plain → IsAsPlain (value_kind t other) plain' → Spells levels around made' point standing moves to →
      Goes_on around (later ++ now) [] tasks (InRegister (made.registers + 1) (width (value_kind t other)) plain' ∷ InRegister made.registers (width (value_kind t one)) plain ∷ slots) point) →
      Goes_on around now later (ValueOf one ∷ ValueOf other ∷ tasks) slots from
  two_values levels at around good made from one other moves spare to new spelled now later tasks slots base ready cont =
      let total : ℕ = max (left_of t (AsValue false) one) (left_of t (AsValue false) other) in
      let r : ℕ = made.registers in
      let made1 : Made = with_registers 4 made in
      let first_move : Move t = Evaluates one spare r in
      let standing : Stood = after t first_move (stands_at made1 from) in
      let second_move : Move t = Evaluates other spare (r + 1) in
      let standing' : Stood = after t second_move standing in
      let spelled1 = spelled_registers 4 spelled in
      let first = head_spelled t flow setting running levels around made1 from standing first_move (second_move ∷ moves) to spelled1 in
      let rest = tail_spelled t flow setting running levels around made1 from standing first_move (second_move ∷ moves) to spelled1 in
      let h = fills t flow setting running levels around made1 from standing first_move spelled1.inside spelled1.sound in
      let made2 : Made = mid t flow setting running levels around made1 from standing first_move in
      let rest' = begun levels around made2 made.points second_move standing' moves to new rest in
      let second = head_spelled t flow setting running levels around made2 made.points standing' second_move moves to rest' in
      let end = tail_spelled t flow setting running levels around made2 made.points standing' second_move moves to rest' in
      let free_r = own_free r ready (omega arith) in
      let free_s = own_free (r + 1) ready (omega arith) in
      let room = ready.room in
      let less = own_value t one spare total r room (omega arith) in
      let less' = own_value t other spare total (r + 1) (omega arith) (omega arith) in
      at.value around good (with_point standing made1) from one spare r made.points first now later (ValueOf other ∷ tasks) slots base
      (part_ready (r + 4) (left_of t (AsValue (nat_eq r spare)) one) ready (omega arith) less) (own_target (r + 4) r ready.own (omega arith) (omega arith) free_r)
      (λ plain number. at.value around good (with_point standing' made2) made.points other spare (r + 1) made2.points second (later ++ now) [] tasks (InRegister r (width (value_kind t one)) plain ∷ slots) base
      (slot_ready made2.registers (left_of t (AsValue (nat_eq (r + 1) spare)) other) r (width (value_kind t one)) plain ready (omega arith) less' (omega arith) (omega arith))
      (own_target made2.registers (r + 1) ready.own (omega arith) (omega arith) (free_beside (r + 1) r (width (value_kind t one)) plain slots (λ same. absurd (omega arith)) free_s))
      (λ plain' number'. cont (mid t flow setting running levels around made2 made.points standing' second_move) made2.points standing' plain plain' number number' end))

  -- the registers of a form of its own
  pub own_registers : (count : ℕ) (slots : List Slot) → ((register : ℕ) → count ≤ register → is_free register slots ≡ true) → AreOwn slots count (count + 1) (count + 2) (count + 3)
  own_registers count slots free = record {
    one_free = free count (omega arith);
    other_free = free (count + 1) (omega arith);
    one_free' = free (count + 2) (omega arith);
    other_free' = free (count + 3) (omega arith);
    sides = λ same. absurd (omega arith);
    left = λ same. absurd (omega arith);
    right = λ same. absurd (omega arith);
    both = λ same. absurd (omega arith);
  }

  -- the operation at the end
  operate_by : (levels : ℕ) (around : Around) (made : Made) (from : ℕ) (standing : Stood) (what : BinaryOp) (kind kind' : Kind) (one other one' other' into to : ℕ) (plain plain' : Bool) (place : Place) →
      (IsCombined t what kind kind' (sides what kind kind') ⊎ NoneCombined t what kind kind') → IsAsPlain kind plain → IsAsPlain kind' plain' →
      Spells levels around made from standing (operates what kind kind' one other one' other' into place) to →
      (now later : List (Stop t)) (tasks : List (TaskIn t)) (slots : List Slot) → AreOwn slots one other one' other' → is_free into slots ≡ true →
      ((plain : Bool) → IsAsPlain (made_by what kind kind') plain → Goes_on around now later tasks (InRegister into (width (made_by what kind kind')) plain ∷ slots) to) →
      Goes_on around now later (Operate what kind kind' ∷ tasks) (InRegister other (width kind') plain' ∷ InRegister one (width kind) plain ∷ slots) from
  operate_by levels around made from standing what kind kind' one other one' other' into to plain plain' place (inl c) is is' spelled now later tasks slots own free cont =
      let between : Sides = sides what kind kind' in
      let last : Move t = Emits (c.instr (stands_in between.left one one') (stands_in between.right other other') into) place in
      let spelled' = subst (λ (moves : List (Move t)). Spells levels around made from standing (resizes between.left one one' place ++ (resizes between.right other other' place ++ moves)) to)
      (c.moves (stands_in between.left one one') (stands_in between.right other other') into place) spelled in
      both_turn levels around made from standing between one other one' other' (width kind) (width kind') plain plain' place slots (last ∷ []) to own (λ standing'. refl) spelled'
      (λ made' middle point standing' more turns turns' left right end.
      Operates what kind kind' one (width kind) other (width kind') into c.size to plain plain' c.plain
      (λ memory first second. option_map (λ word. word) (c.combined memory (turn_of between.left (width kind) memory first) (turn_of between.right (width kind') memory second)))
      (Calculated (free_beside one other (width kind') plain' slots own.sides own.one_free) own.other_free left right
      (c.does flow point (stands_in between.left one one') (stands_in between.right other other') into to place
      (one_at t flow setting running levels around made' point to (c.instr (stands_in between.left one one') (stands_in between.right other other') into) place end)) free Stays)
      (λ memory first second suits suits'. c.same plain plain' is is' turns turns' memory first second suits suits'
      ∙ same_map (c.combined memory (turn_of between.left (width kind) memory first) (turn_of between.right (width kind') memory second)))
      (subst (λ (n : ℕ). Goes_on around now later tasks (InRegister into n c.plain ∷ slots) to) (sym c.wide) (cont c.plain c.plainly)))
  operate_by levels around made from standing what kind kind' one other one' other' into to plain plain' place (inr none) is is' spelled now later tasks slots own free cont =
      let between : Sides = sides what kind kind' in
      let spelled' = subst (λ (moves : List (Move t)). Spells levels around made from standing (resizes between.left one one' place ++ (resizes between.right other other' place ++ moves)) to)
      (none (stands_in between.left one one') (stands_in between.right other other') into place) spelled in
      both_turn levels around made from standing between one other one' other' (width kind) (width kind') plain plain' place slots (Fails ∷ []) to own (λ standing'. refl) spelled'
      (λ made' middle point standing' more turns turns' left right end. never t flow setting running levels around made' point to end)

  combines_new : (around : Around) (what : BinaryOp) (kind kind' : Kind) (one other into : ℕ) (place : Place) (to : ℕ) → (IsCombined t what kind kind' (sides what kind kind') ⊎ NoneCombined t what kind kind') →
      AreNew around (combines what kind kind' one other into place) to
  combines_new around what kind kind' one other into place to (inl c) = subst (λ (moves : List (Move t)). AreNew around moves to) (sym (c.moves one other into place)) (λ standing. refl)
  combines_new around what kind kind' one other into place to (inr none) = subst (λ (moves : List (Move t)). AreNew around moves to) (sym (none one other into place)) (λ standing. refl)

  pub operates_new : (around : Around) (what : BinaryOp) (kind kind' : Kind) (one other one' other' into : ℕ) (place : Place) (to : ℕ) → is_computing what ≡ true →
      AreNew around (operates what kind kind' one other one' other' into place) to
  operates_new around what kind kind' one other one' other' into place to computing =
      let between : Sides = sides what kind kind' in
      let last : List (Move t) = combines what kind kind' (stands_in between.left one one') (stands_in between.right other other') into place in
      resizes_new around between.left one one' place (resizes between.right other other' place ++ last) to
      (resizes_new around between.right other other' place last to
      (combines_new around what kind kind' (stands_in between.left one one') (stands_in between.right other other') into place to (combining t what kind kind' computing)))

  -- an operator that computes of two values what is put into a register
  computes_by : (levels : ℕ) → IsAt t flow setting running levels → (around : Around) → IsAround setting around → (made : Made) (from : ℕ) (one other : t.Expr) (what : BinaryOp) (place : Place) (spare into to : ℕ) → is_computing what ≡ true →
      IsSpelled flow made from (along t around (go levels t around) (with_registers 4 made) from (Evaluates one spare made.registers ∷ Evaluates other spare (made.registers + 1)
      ∷ operates what (value_kind t one) (value_kind t other) made.registers (made.registers + 1) (made.registers + 2) (made.registers + 3) into place) to) →
      (now later : List (Stop t)) (tasks : List (TaskIn t)) (slots : List Slot) (base : ℕ) →
      Ready t flow setting running around now later tasks base made.registers slots spare (max (left_of t (AsValue false) one) (left_of t (AsValue false) other)) → is_free into slots ≡ true →
      ((plain : Bool) → IsAsPlain (made_by what (value_kind t one) (value_kind t other)) plain →
      Goes_on around (later ++ now) [] tasks (InRegister into (width (made_by what (value_kind t one) (value_kind t other))) plain ∷ slots) to) →
      Goes_on around now later (ValueOf one ∷ ValueOf other ∷ Operate what (value_kind t one) (value_kind t other) ∷ tasks) slots from
  computes_by levels at around good made from one other what place spare into to computing spelled now later tasks slots base ready free cont =
      let r : ℕ = made.registers in
      two_values levels at around good made from one other (operates what (value_kind t one) (value_kind t other) r (r + 1) (r + 2) (r + 3) into place) spare to
      (operates_new around what (value_kind t one) (value_kind t other) r (r + 1) (r + 2) (r + 3) into place to computing) spelled now later (Operate what (value_kind t one) (value_kind t other) ∷ tasks) slots base ready
      (λ made' point standing plain plain' plainly plainly' end.
      operate_by levels around made' point standing what (value_kind t one) (value_kind t other) r (r + 1) (r + 2) (r + 3) into to plain plain' place (combining t what (value_kind t one) (value_kind t other) computing)
      plainly plainly' end (later ++ now) [] tasks slots (own_registers r slots (λ register least. own_free register ready least)) free cont)

  -- the form of such an operator
  computing_line : (expr one other : t.Expr) (what : BinaryOp) (spare into r : ℕ) → is_computing what ≡ true →
      binary_line t expr what one other spare into r ≡ taking 4 (Evaluates one spare r ∷ Evaluates other spare (r + 1) ∷ operates what (value_kind t one) (value_kind t other) r (r + 1) (r + 2) (r + 3) into (t.place expr))
  computing_line expr one other Equal spare into r computing = absurd (false≢true computing)
  computing_line expr one other NotEqual spare into r computing = absurd (false≢true computing)
  computing_line expr one other Both spare into r computing = absurd (false≢true computing)
  computing_line expr one other Either spare into r computing = absurd (false≢true computing)
  computing_line expr one other Comma spare into r computing = absurd (false≢true computing)
  computing_line expr one other what spare into r computing = refl

  computing_parts : (one other : t.Expr) (what : BinaryOp) → is_computing what ≡ true → binary_parts t what one other ≡ ValueOf one ∷ ValueOf other ∷ Operate what (value_kind t one) (value_kind t other) ∷ []
  computing_parts one other Both computing = absurd (false≢true computing)
  computing_parts one other Either computing = absurd (false≢true computing)
  computing_parts one other Comma computing = absurd (false≢true computing)
  computing_parts one other what computing = refl

  computing_left : (expr one other : t.Expr) (what : BinaryOp) (in_spare : Bool) → is_computing what ≡ true → left_by_binary t (left_of t) expr what one other in_spare ≡ max (left_of t (AsValue false) one) (left_of t (AsValue false) other)
  computing_left expr one other Equal in_spare computing = absurd (false≢true computing)
  computing_left expr one other NotEqual in_spare computing = absurd (false≢true computing)
  computing_left expr one other Both in_spare computing = absurd (false≢true computing)
  computing_left expr one other Either in_spare computing = absurd (false≢true computing)
  computing_left expr one other Comma in_spare computing = absurd (false≢true computing)
  computing_left expr one other what in_spare computing = refl

  computing_kind : (one other : t.Expr) (what : BinaryOp) → is_computing what ≡ true → kind_by_binary t what one other ≡ made_by what (value_kind t one) (value_kind t other)
  computing_kind one other Comma computing = absurd (false≢true computing)
  computing_kind one other what computing = refl

  pub operator_form : (levels : ℕ) → IsAt t flow setting running levels → (what : BinaryOp) (one other : t.Expr) → is_computing what ≡ true → FormIs t flow setting running levels (Binary what one other)
  operator_form levels at what one other computing around good made from expr spare into to is shown spelled now later tasks slots base ready target cont =
      let kind : Kind = made_by what (value_kind t one) (value_kind t other) in
      let gives = fitted kind (value_kind t expr)
      (subst (λ (k : Kind). fits k (value_kind t expr) ≡ true) (computing_kind one other what computing) (made_fits t flow setting running expr (Binary what one other) shown))
      (not_void t flow setting running expr (Binary what one other) shown) in
      let here = subst (λ (line : Line t). IsSpelled flow made from (along_line t around (go levels t around) made from line to)) (computing_line expr one other what spare into made.registers computing) spelled in
      let there = subst (λ (left : ℕ). Ready t flow setting running around now later tasks base made.registers slots spare left) (computing_left expr one other what (nat_eq into spare) computing) ready in
      unfolds t flow setting running around now later tasks slots from expr (Binary what one other) is
      (subst (λ (parts : List (TaskIn t)). Goes_on around now later (parts ++ tasks) slots from) (sym (computing_parts one other what computing))
      (computes_by levels at around good made from one other what (t.place expr) spare into to computing here now later tasks slots base there target.free
      (λ plain number. subst (λ (n : ℕ). Goes_on around (later ++ now) [] tasks (InRegister into n plain ∷ slots) to) (sym gives.0) (cont plain (λ asked. number (gives.1 asked))))))

  -- the address of an item of an array
  index_where : (levels : ℕ) → IsAt t flow setting running levels → (around : Around) → IsAround setting around → (made : Made) (from : ℕ) (expr array index : t.Expr) (spare into to : ℕ) (is : Bool) →
      is_address (made_by Add (value_kind t array) (value_kind t index)) ≡ is →
      IsSpelled flow made from (along_line t around (go levels t around) made from (if is
      then (record {
        registers = 4;
        moves = Evaluates array spare made.registers ∷ Evaluates index spare (made.registers + 1)
            ∷ operates Add (value_kind t array) (value_kind t index) made.registers (made.registers + 1) (made.registers + 2) (made.registers + 3) into (t.place expr);
      })
      else (record { registers = 0; moves = Fails ∷ [] })) to) →
      (now later : List (Stop t)) (tasks : List (TaskIn t)) (slots : List Slot) (base : ℕ) →
      Ready t flow setting running around now later tasks base made.registers slots spare (max (left_of t (AsValue false) array) (left_of t (AsValue false) index)) → is_free into slots ≡ true →
      ((plain : Bool) → Goes_on around (later ++ now) [] tasks (InRegister into 8 plain ∷ slots) to) →
      Goes_on around now later (ValueOf array ∷ ValueOf index ∷ Operate Add (value_kind t array) (value_kind t index) ∷ tasks) slots from
  index_where levels at around good made from expr array index spare into to false is spelled now later tasks slots base ready free cont =
      never t flow setting running levels around (with_registers 0 made) from to (spelled_registers 0 spelled)
  index_where levels at around good made from expr array index spare into to true is spelled now later tasks slots base ready free cont =
      computes_by levels at around good made from array index Add (t.place expr) spare into to refl spelled now later tasks slots base ready free
      (λ plain number. subst (λ (n : ℕ). Goes_on around (later ++ now) [] tasks (InRegister into n plain ∷ slots) to) (sym (address_width (made_by Add (value_kind t array) (value_kind t index)) is)) (cont plain))

  pub index_place : (levels : ℕ) → IsAt t flow setting running levels → (array index : t.Expr) → PlaceFormIs t flow setting running levels (Index array index)
  index_place levels at array index around good made from expr spare into to is spelled now later tasks slots base ready target cont =
      unfolds_place t flow setting running around now later tasks slots from expr (Index array index) is
      (index_where levels at around good made from expr array index spare into to (is_address (made_by Add (value_kind t array) (value_kind t index))) refl spelled now later tasks slots base ready target.free cont)
