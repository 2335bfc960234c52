-- What is placed for conditions is what the rest of a run wants: tests, `!`, `&&` and `||`, their values as 1 or 0, and `?:`.
use Rattle.std.proofs.Common.{◌≡◌, ◌≢◌, ◌<◌, ◌≤◌, ⊎_elim, ℕ, zero, suc, ◌+◌, ◌-◌, List, [], ◌∷◌, ◌++◌, Bool, ◌&&◌, max, nat_eq, true, false, not, refl, sym, ap, ◌∙◌, inl, inr, arith, subst}
use Rattle.std.proofs.lemmas.Bool.{false≢true, eqb-true, eq-eqb, cases_eq}
use Rattle.cbase.specs.declared.place.Place.{Place}
use Rattle.cbase.specs.declared.tree.operators.BinaryOp.TheVariants.{Both, Either}
use Rattle.cbase.specs.declared.tree.operators.UnaryOp.TheVariants.{Not}
use Rattle.typing.specs.ctypes.Integers.{int}
use Rattle.c_machine.specs.declared.kind.Kind.{Kind}
use Rattle.c_machine.specs.declared.kind.Kind.TheVariants.{Integer, Pointer, Array, Struct, Void}
use Rattle.c_machine.specs.declared.task.Task.TheVariants.{ValueOf, Answer, AndThen, OrElse, Convert, Pick}
use Rattle.c_machine.specs.Text.{Form, Unary, Binary, Choose, Text}
use Rattle.c_machine.specs.State.{TaskIn}
use Rattle.c_machine.specs.Expressions.{value_kind}
use Rattle.flow.specs.declared.flow_graph.Flow.{Flow}
use Rattle.flow.specs.declared.flow_graph.Standing.{Standing as Stood}
use Rattle.flow.specs.declared.instruction.Instr.TheVariants as i
use Rattle.simulation.specs.Edges.{One, Two}
use Rattle.simulation.specs.Running.{Setting, Running}
use Rattle.simulation.specs.Slots.{Slot, InRegister, KnownAs, Truth, is_free}
use Rattle.simulation.specs.Lowered.{Stop, Puts, Makes, Answers as AnswersOf, AndsOn, AndsOff, OrsOn, OrsOff, Asks as AsksTruth, ConvertsAsking, PicksOne, PicksOther}
use Rattle.lowering.specs.Kinds.{width, is_void, fits, conversion}
use Rattle.lowering.specs.declared.conversion.Conversion.{Conversion}
use Rattle.lowering.specs.declared.conversion.Conversion.TheVariants.{Tested}
use Rattle.lowering.specs.LetGo.{AsTest, AsValue, left_of, left_as, left_converted, left_by_test, left_by_value}
use Rattle.lowering.specs.Moves.{Move, Emits, Parts, Evaluates, Asks, Answers, Converts, taking, zeros}
use Rattle.lowering.specs.Table.{is_made, kind_made}
use Rattle.lowering.specs.Placing.{Made, Around, emit, with_point, with_registers, with_spares, stands_at, after, along, along_at, along_line, zero_test, two_tests, place_test, place_answer, place_value_form, in_front, place_arms, place_choose, go}
use Rattle.lowering.proofs.KindFacts.{IsAsPlain, Means, conversion_means, slot_made, let_go}
use Rattle.lowering.proofs.LeftOf.{own_value}
use Rattle.lowering.proofs.Modes.{IsAround, is_condition, Rest, Ready, IsAt, AnswerIs, TruthIs}
use Rattle.lowering.proofs.Placings.{outs, IsPlacing, then_placing, point_placing, emit_placing, IsSpelled, spelled_point, spelled_registers, spelled_first, spelled_rest, emit_spelled}
use Rattle.lowering.proofs.PlacedForms.{along_placing}
use Rattle.lowering.proofs.Placed.{go_placing}
use Rattle.lowering.proofs.Ready.{slot_of, AreSpare, free_beside, IsTarget, own_target, same_target, part_ready, own_free, mid, head_spelled, tail_spelled, one_at, pair_at}
use Rattle.lowering.proofs.Spelling.{unfolds, made_fits, not_void, FormIs}

-- two points taken in front, a part from the point that was there, and a part from each of the two
pub spelled_three : {flow : Flow} {made made3 made4 made5 : Made} {from : ℕ} (standing : Stood) → IsPlacing (with_point standing (with_point standing made)) from made3 →
    IsPlacing made3 (suc made.points) made4 → IsPlacing made4 made.points made5 → IsSpelled flow made from made5 →
    IsSpelled flow (with_point standing (with_point standing made)) from made3 × IsSpelled flow made3 (suc made.points) made4 × IsSpelled flow made4 made.points made5
spelled_three {flow = flow} {made = made} {made3 = made3} {made4 = made4} {made5 = made5} {from = from} standing three four five spelled =
    let inside = spelled.inside in
    let h = three.points in
    let k = four.points in
    let one = point_placing standing made from spelled.sound in
    let two = point_placing standing (with_point standing made) from one.sound in
    let to_three = then_placing (then_placing one two (inl refl)) three (inl refl) in
    let to_four = then_placing to_three four (inr (omega arith)) in
    let open_on : outs made3.edges (suc made.points) ≡ [] = three.touches (suc made.points) (omega arith) (λ same. absurd (omega arith)) ∙ spelled.sound.fresh (suc made.points) (omega arith) in
    let open_off : outs made4.edges made.points ≡ [] =
    four.touches made.points (omega arith) (λ same. absurd (omega arith))
    ∙ (three.touches made.points (omega arith) (λ same. absurd (omega arith)) ∙ spelled.sound.fresh made.points (omega arith)) in (
      spelled_first (spelled_first (spelled_point standing (spelled_point standing spelled)) five (omega arith) (λ same. absurd (omega arith))) four (omega arith) (λ same. absurd (omega arith)),
      spelled_first (spelled_rest spelled to_three (omega arith) (omega arith) open_on) five (omega arith) (λ same. absurd (omega arith)),
      spelled_rest spelled to_four (omega arith) (omega arith) open_off,
    )

-- a condition is an int of 4 bytes
int_width : (asked : Kind) → fits (Integer int) asked ≡ true → width asked ≡ 4
int_width (Integer of) is = sym (eqb-true 4 of.bytes is)
int_width (Pointer item) is = absurd (false≢true is)
int_width (Array item) is = absurd (false≢true is)
int_width (Struct size) is = absurd (false≢true is)
int_width Void is = absurd (false≢true is)

module _ (t : Text) (flow : Flow) (setting : Setting) (running : Running) where
  abbrev Goes_on : Around → List (Stop t) → List (Stop t) → List (TaskIn t) → List Slot → ℕ → Type 0
  Goes_on around now later tasks slots point = Rest t flow setting running around now later tasks slots point

  -- registers that are filled with 0 on the way
  pub zeros_at : (levels : ℕ) (around : Around) (count : ℕ) (made : Made) (from to start : ℕ) (standing : Stood) (place : Place) →
      IsSpelled flow made from (along_at t around (go levels t around) made from standing (zeros start (suc count) place) to) →
      (now later : List (Stop t)) (tasks : List (TaskIn t)) (slots : List Slot) → ((register : ℕ) → start ≤ register → register < start + suc count → is_free register slots ≡ true) →
      Goes_on around now later tasks slots to → Goes_on around now later tasks slots from
  zeros_at levels around zero made from to start standing place spelled now later tasks slots free rest =
      Puts start 0 8 to place (one_at t flow setting running levels around made from to (i.Number start 0 8) place spelled) (free start (omega arith) (omega arith)) rest
  zeros_at levels around (suc count) made from to start standing place spelled now later tasks slots free rest =
      let move : Move t = Emits (i.Number start 0 8) place in
      let standing' : Stood = after t move standing in
      let first = head_spelled t flow setting running levels around made from standing' move (zeros (suc start) (suc count) place) to spelled in
      let behind = tail_spelled t flow setting running levels around made from standing' move (zeros (suc start) (suc count) place) to spelled in
      Puts start 0 8 made.points place (one_at t flow setting running levels around (with_point standing' made) from made.points (i.Number start 0 8) place first) (free start (omega arith) (omega arith))
      (zeros_at levels around count (mid t flow setting running levels around made from standing' move) made.points to (suc start) standing' place behind now later tasks slots
      (λ register above below. free register (omega arith) (omega arith)) rest)

  -- a condition as a number of so many bytes
  pub answer_form : (levels : ℕ) (around : Around) (made : Made) (from : ℕ) (expr : t.Expr) (spare into size : ℕ) (standing : Stood) (to : ℕ) →
      IsSpelled flow made from (place_answer t (go levels t around) made from expr spare into size standing to) →
      (now : List (Stop t)) (tasks : List (TaskIn t)) (slots : List Slot) → is_free into slots ≡ true →
      Goes_on around now [] tasks (InRegister into size true ∷ slots) to → (C : Type 0) →
      ((made' : Made) (off on : ℕ) → made.registers ≤ made'.registers → IsSpelled flow made' from (go levels t around made' from (Asks expr spare off on) to) →
      Goes_on around now [] tasks (KnownAs 0 ∷ slots) off → Goes_on around now [] tasks (KnownAs 1 ∷ slots) on → C) → C
  answer_form levels around made from expr spare into size standing to spelled now tasks slots free rest C ask =
      let inside = spelled.inside in
      let made1 : Made = with_point standing made in
      let made2 : Made = with_point standing made1 in
      let off : ℕ = made.points in
      let on : ℕ = suc made.points in
      let made3 : Made = go levels t around made2 from (Asks expr spare off on) to in
      let made4 : Made = emit made3 on (i.Number into 1 size) to (t.place expr) in
      let one = point_placing standing made from spelled.sound in
      let two = point_placing standing made1 from one.sound in
      let three = go_placing levels t around made2 from (Asks expr spare off on) to (omega arith) two.sound in
      let h = three.points in
      let four = emit_placing made3 on to (i.Number into 1 size) (t.place expr) (omega arith) three.sound in
      let five = emit_placing made4 off to (i.Number into 0 size) (t.place expr) (omega arith) four.sound in
      let parts = spelled_three standing three four five spelled in
      ask made2 off on (omega arith) parts.0
      (Makes 0 into size to (t.place expr) (emit_spelled to (i.Number into 0 size) (t.place expr) parts.2) free rest)
      (Makes 1 into size to (t.place expr) (emit_spelled to (i.Number into 1 size) (t.place expr) parts.1) free rest)

  -- two tests, where the way from the first one to the end of both may fill registers
  tests_at : (levels : ℕ) (around : Around) (made : Made) (from : ℕ) (first : ℕ → ℕ → Move t) (second : Move t) (standing : Stood) (start count : ℕ) (place : Place) (end : ℕ) →
      IsSpelled flow made from (two_tests t around (go levels t around) made from first second standing (zeros start count place) end) →
      (now : List (Stop t)) (tasks : List (TaskIn t)) (kept : List Slot) → ((register : ℕ) → start ≤ register → register < start + count → is_free register kept ≡ true) →
      Goes_on around now [] tasks kept end → (B C : Type 0) →
      ((made' : Made) → made.registers ≤ made'.registers → IsSpelled flow made' made.points (go levels t around made' made.points second end) → B) →
      ((made' : Made) (early : ℕ) → made.registers ≤ made'.registers → IsSpelled flow made' from (go levels t around made' from (first early made.points) end) → Goes_on around now [] tasks kept early → B → C) → C
  tests_at levels around made from first second standing start zero place end spelled now tasks kept free rest B C behind ask =
      let inside = spelled.inside in
      let made1 : Made = with_point standing made in
      let move : Move t = first end made.points in
      let made2 : Made = go levels t around made1 from move end in
      let one = point_placing standing made from spelled.sound in
      let two = go_placing levels t around made1 from move end (omega arith) one.sound in
      let h = two.points in
      let k = two.registers in
      let three = go_placing levels t around made2 made.points second end (omega arith) two.sound in
      let open_between : outs made2.edges made.points ≡ [] = two.touches made.points (omega arith) (λ same. absurd (omega arith)) ∙ spelled.sound.fresh made.points (omega arith) in
      ask made1 end (omega arith) (spelled_first (spelled_point standing spelled) three (omega arith) (λ same. absurd (omega arith))) rest
      (behind made2 (omega arith) (spelled_rest spelled (then_placing one two (inl refl)) (omega arith) (omega arith) open_between))
  tests_at levels around made from first second standing start (suc count) place end spelled now tasks kept free rest B C behind ask =
      let inside = spelled.inside in
      let made1 : Made = with_point standing made in
      let made2 : Made = with_point standing made1 in
      let early : ℕ = suc made.points in
      let move : Move t = first early made.points in
      let made3 : Made = go levels t around made2 from move end in
      let made4 : Made = along t around (go levels t around) made3 early (zeros start (suc count) place) end in
      let one = point_placing standing made from spelled.sound in
      let two = point_placing standing made1 from one.sound in
      let three = go_placing levels t around made2 from move end (omega arith) two.sound in
      let h = three.points in
      let h' = three.registers in
      let four = along_placing t around (go levels t around) (go_placing levels t around) made3 early (zeros start (suc count) place) end (omega arith) three.sound in
      let k = four.points in
      let k' = four.registers in
      let five = go_placing levels t around made4 made.points second end (omega arith) four.sound in
      let parts = spelled_three standing three four five spelled in
      ask made2 early (omega arith) parts.0
      (zeros_at levels around count made3 early end start (stands_at made3 early) place parts.1 now [] tasks kept free rest)
      (behind made4 (omega arith) parts.2)

  filled : (spare have want register : ℕ) → spare + have ≤ register → register < (spare + have) + (want - have) → register < spare + want
  filled spare zero want register above less = omega arith
  filled spare (suc have) zero register above less = absurd (omega arith)
  filled spare (suc have) (suc want) register above less = let h = filled (suc spare) have want register (omega arith) (omega arith) in omega arith

  -- a test by its form, where a condition is asked for: what follows knows it
  abbrev pub KnownFormIs : ℕ → Form t.Expr t.Stmt → Type 0
  KnownFormIs levels form =
      (around : Around) → IsAround setting around → (made : Made) (from : ℕ) (expr : t.Expr) (spare off on : ℕ) → t.form expr ≡ form →
      IsSpelled flow made from (place_test t around (go levels t around) made from expr spare off on form) →
      (now later : List (Stop t)) (tasks : List (TaskIn t)) (slots : List Slot) (base : ℕ) → Ready t flow setting running around now later tasks base made.registers slots spare (left_by_test t (left_of t) expr form) →
      Goes_on around (later ++ now) [] tasks (KnownAs 0 ∷ slots) off → Goes_on around (later ++ now) [] tasks (KnownAs 1 ∷ slots) on → Goes_on around now later (ValueOf expr ∷ tasks) slots from

  pub not_known : (levels : ℕ) → IsAt t flow setting running levels → (arg : t.Expr) → KnownFormIs levels (Unary Not arg)
  not_known levels at arg around good made from expr spare off on is spelled now later tasks slots base ready fails holds =
      unfolds t flow setting running around now later tasks slots from expr (Unary Not arg) is
      (at.ask around good made from arg spare on off off spelled now later (Answer false ∷ tasks) slots base ready (AnswersOf false false 1 refl holds) (AnswersOf false true 0 refl fails))

  pub both_known : (levels : ℕ) → IsAt t flow setting running levels → (one other : t.Expr) → KnownFormIs levels (Binary Both one other)
  both_known levels at one other around good made from expr spare off on is spelled now later tasks slots base ready fails holds =
      let have : ℕ = left_of t AsTest one in
      let want : ℕ = left_of t AsTest other in
      unfolds t flow setting running around now later tasks slots from expr (Binary Both one other) is
      (tests_at levels around made from (λ early between. Asks one spare early between) (Asks other spare off on) (with_spares spare have (stands_at made from)) (spare + have) (want - have) (t.place expr) off spelled
      (later ++ now) tasks (KnownAs 0 ∷ slots)
      (λ register above less. let h = filled spare have want register above less in ready.spares register (omega arith) (omega arith)) fails
      (Goes_on around (later ++ now) [] (AndThen other ∷ tasks) (Truth true ∷ slots) made.points) (Goes_on around now later (ValueOf one ∷ AndThen other ∷ tasks) slots from)
      (λ made' more behind. AndsOn other (at.ask around good made' made.points other spare off on off behind (later ++ now) [] (Answer true ∷ tasks) slots base
      (part_ready made'.registers want ready more (omega arith)) (AnswersOf true false 0 refl fails) (AnswersOf true true 1 refl holds)))
      (λ made' early more first at_end between. at.ask around good made' from one spare early made.points off first now later (AndThen other ∷ tasks) slots base
      (part_ready made'.registers have ready more (omega arith)) (AndsOff other at_end) between))

  pub either_known : (levels : ℕ) → IsAt t flow setting running levels → (one other : t.Expr) → KnownFormIs levels (Binary Either one other)
  either_known levels at one other around good made from expr spare off on is spelled now later tasks slots base ready fails holds =
      let have : ℕ = left_of t AsTest one in
      let want : ℕ = left_of t AsTest other in
      unfolds t flow setting running around now later tasks slots from expr (Binary Either one other) is
      (tests_at levels around made from (λ early between. Asks one spare between early) (Asks other spare off on) (with_spares spare have (stands_at made from)) (spare + have) (want - have) (t.place expr) on spelled
      (later ++ now) tasks (KnownAs 1 ∷ slots)
      (λ register above less. let h = filled spare have want register above less in ready.spares register (omega arith) (omega arith)) holds
      (Goes_on around (later ++ now) [] (OrElse other ∷ tasks) (Truth false ∷ slots) made.points) (Goes_on around now later (ValueOf one ∷ OrElse other ∷ tasks) slots from)
      (λ made' more behind. OrsOff other (at.ask around good made' made.points other spare off on on behind (later ++ now) [] (Answer true ∷ tasks) slots base
      (part_ready made'.registers want ready more (omega arith)) (AnswersOf true false 0 refl fails) (AnswersOf true true 1 refl holds)))
      (λ made' early more first at_end between. at.ask around good made' from one spare made.points early on first now later (OrElse other ∷ tasks) slots base
      (part_ready made'.registers have ready more (omega arith)) between (OrsOn other at_end)))

  -- a value against a 0 of its own size
  zero_parts : (levels : ℕ) → IsAt t flow setting running levels → (around : Around) → IsAround setting around → (made : Made) (from : ℕ) (expr : t.Expr) (spare off on : ℕ) →
      IsSpelled flow made from (zero_test t around (go levels t around) made from expr spare off on) →
      (now later : List (Stop t)) (tasks : List (TaskIn t)) (slots : List Slot) (base : ℕ) → Ready t flow setting running around now later tasks base made.registers slots spare (left_of t (AsValue false) expr) →
      ((plain : Bool) (point middle : ℕ) → IsAsPlain (value_kind t expr) plain → One flow point (i.Number (suc made.registers) 0 (width (value_kind t expr))) middle (t.place expr) →
      is_free (suc made.registers) (InRegister made.registers (width (value_kind t expr)) plain ∷ slots) ≡ true → is_free made.registers slots ≡ true →
      Two flow middle (i.IfSame made.registers (suc made.registers)) off (t.place expr) (i.IfDifferent made.registers (suc made.registers)) on (t.place expr) →
      Goes_on around (later ++ now) [] tasks (InRegister made.registers (width (value_kind t expr)) plain ∷ slots) point) →
      Goes_on around now later (ValueOf expr ∷ tasks) slots from
  zero_parts levels at around good made from expr spare off on spelled now later tasks slots base ready cont =
      let r : ℕ = made.registers in
      let made1 : Made = with_registers 2 made in
      let first_move : Move t = Evaluates expr spare r in
      let standing : Stood = after t first_move (stands_at made1 from) in
      let second_move : Move t = Emits (i.Number (suc r) 0 (width (value_kind t expr))) (t.place expr) in
      let standing' : Stood = after t second_move standing in
      let last : Move t = Parts (i.IfSame r (suc r)) off (i.IfDifferent r (suc r)) on (t.place expr) in
      let spelled1 = spelled_registers 2 spelled in
      let first = head_spelled t flow setting running levels around made1 from standing first_move (second_move ∷ last ∷ []) off spelled1 in
      let rest = tail_spelled t flow setting running levels around made1 from standing first_move (second_move ∷ last ∷ []) off spelled1 in
      let made2 : Made = mid t flow setting running levels around made1 from standing first_move in
      let second = head_spelled t flow setting running levels around made2 made.points standing' second_move (last ∷ []) off rest in
      let end = tail_spelled t flow setting running levels around made2 made.points standing' second_move (last ∷ []) off rest in
      let free_r = own_free r ready (omega arith) in
      let free_s = own_free (suc r) ready (omega arith) in
      let room = ready.room in
      let less = own_value t expr spare (left_of t (AsValue false) expr) r room (omega arith) in
      at.value around good (with_point standing made1) from expr spare r made.points first now later tasks slots base
      (part_ready (r + 2) (left_of t (AsValue (nat_eq r spare)) expr) ready (omega arith) less) (own_target (r + 2) r ready.own (omega arith) (omega arith) free_r)
      (λ plain number. cont plain made.points made2.points number
      (one_at t flow setting running levels around (with_point standing' made2) made.points made2.points (i.Number (suc r) 0 (width (value_kind t expr))) (t.place expr) second)
      (free_beside (suc r) r (width (value_kind t expr)) plain slots (λ same. absurd (omega arith)) free_s) free_r
      (pair_at t flow setting running levels around (mid t flow setting running levels around made2 made.points standing' second_move) made2.points off on off (i.IfSame r (suc r)) (i.IfDifferent r (suc r)) (t.place expr) end))

  pub zero_ask : (levels : ℕ) → IsAt t flow setting running levels → (around : Around) → IsAround setting around → (made : Made) (from : ℕ) (expr : t.Expr) (spare off on : ℕ) →
      IsSpelled flow made from (zero_test t around (go levels t around) made from expr spare off on) →
      (now later : List (Stop t)) (tasks : List (TaskIn t)) (slots : List Slot) (base : ℕ) → Ready t flow setting running around now later tasks base made.registers slots spare (left_of t (AsValue false) expr) →
      Goes_on around (later ++ now) [] tasks (Truth false ∷ slots) off → Goes_on around (later ++ now) [] tasks (Truth true ∷ slots) on → Goes_on around now later (ValueOf expr ∷ tasks) slots from
  zero_ask levels at around good made from expr spare off on spelled now later tasks slots base ready fails holds =
      zero_parts levels at around good made from expr spare off on spelled now later tasks slots base ready
      (λ plain point middle number one free free' two. AsksTruth made.registers (width (value_kind t expr)) (width (value_kind t expr)) (suc made.registers) middle off on plain (t.place expr) (t.place expr) (t.place expr)
      one free free' two fails holds)

  pub zero_truth : (levels : ℕ) → IsAt t flow setting running levels → (around : Around) → IsAround setting around → (made : Made) (from : ℕ) (expr : t.Expr) (kind : Kind) (spare off on : ℕ) → conversion (value_kind t expr) kind ≡ Tested →
      IsSpelled flow made from (zero_test t around (go levels t around) made from expr spare off on) →
      (now later : List (Stop t)) (tasks : List (TaskIn t)) (slots : List Slot) (base : ℕ) → Ready t flow setting running around now later tasks base made.registers slots spare (left_of t (AsValue false) expr) →
      Goes_on around (later ++ now) [] tasks (KnownAs 0 ∷ slots) off → Goes_on around (later ++ now) [] tasks (KnownAs 1 ∷ slots) on →
      Goes_on around now later (ValueOf expr ∷ Convert (value_kind t expr) kind ∷ tasks) slots from
  zero_truth levels at around good made from expr kind spare off on is spelled now later tasks slots base ready fails holds =
      let means : Means (value_kind t expr) kind Tested = subst (λ (change : Conversion). Means (value_kind t expr) kind change) is (conversion_means (value_kind t expr) kind) in
      zero_parts levels at around good made from expr spare off on spelled now later (Convert (value_kind t expr) kind ∷ tasks) slots base ready
      (λ plain point middle number one free free' two. ConvertsAsking (value_kind t expr) kind made.registers (width (value_kind t expr)) (width (value_kind t expr)) (suc made.registers) middle off on plain (t.place expr) (t.place expr)
      (t.place expr) one free free' two (λ memory word suits. means.3 plain number memory word suits) fails holds)

  -- a condition is an int in a register
  pub answered : (levels : ℕ) → IsAt t flow setting running levels → AnswerIs t flow setting running (suc levels)
  answered levels at around good made from expr spare into size to spelled condition now later tasks slots base ready free cont =
      answer_form levels around made from expr spare into size (with_spares spare (left_of t AsTest expr) (stands_at made from)) to spelled (later ++ now) tasks slots free cont (Goes_on around now later (ValueOf expr ∷ tasks) slots from)
      (λ made' off on more spelled' fails holds. at.ask_known around good made' from expr spare off on to spelled' condition now later tasks slots base (part_ready made'.registers (left_of t AsTest expr) ready more (omega arith)) fails holds)

  pub answered_truth : (levels : ℕ) → IsAt t flow setting running levels → TruthIs t flow setting running (suc levels)
  answered_truth levels at around good made from expr kind spare into size to spelled is now later tasks slots base ready free cont =
      answer_form levels around made from expr spare into size (with_spares spare (left_of t AsTest expr) (stands_at made from)) to spelled (later ++ now) tasks slots free cont
      (Goes_on around now later (ValueOf expr ∷ Convert (value_kind t expr) kind ∷ tasks) slots from)
      (λ made' off on more spelled' fails holds. at.ask_truth around good made' from expr kind spare off on to spelled' is now later tasks slots base (part_ready made'.registers (left_of t AsTest expr) ready more (omega arith)) fails holds)

  made_int : (expr : t.Expr) (form : Form t.Expr t.Stmt) → kind_made t expr form ≡ Integer int → is_made t expr form ≡ true → width (value_kind t expr) ≡ 4
  made_int expr form is made_as =
      int_width (value_kind t expr) (subst (λ (kind : Kind). fits kind (value_kind t expr) ≡ true) is (made_fits t flow setting running expr form made_as))

  -- its value
  pub condition_form : (levels : ℕ) → IsAt t flow setting running levels → (form : Form t.Expr t.Stmt) → is_condition form ≡ true →
      ((expr : t.Expr) → kind_made t expr form ≡ Integer int) → ((expr : t.Expr) (in_spare : Bool) → left_by_value t (left_of t) expr in_spare form ≡ left_of t AsTest expr) →
      ((around : Around) (made : Made) (from : ℕ) (expr : t.Expr) (spare into to : ℕ) → place_value_form t (go levels t) around made from expr spare into to form ≡
      along_line t around (go levels t around) made from (taking 0 (Answers expr spare into 4 ∷ [])) to) → FormIs t flow setting running levels form
  condition_form levels at form condition made_as left placed around good made from expr spare into to is shown spelled now later tasks slots base ready target cont =
      let spelled' = subst (λ (m : Made). IsSpelled flow made from m) (placed around made from expr spare into to) spelled in
      let wide = made_int expr form (made_as expr) shown in
      let same = left expr (nat_eq into spare) in
      at.answer around good (with_registers 0 made) from expr spare into 4 to (spelled_registers 0 spelled') (subst (λ (f : Form t.Expr t.Stmt). is_condition f ≡ true) (sym is) condition) now later tasks slots base
      (part_ready (made.registers + 0) (left_of t AsTest expr) ready (omega arith) (omega arith)) target.free
      (subst (λ (n : ℕ). Goes_on around (later ++ now) [] tasks (InRegister into n true ∷ slots) to) wide (cont true (λ number. refl)))

  -- registers that are filled behind a value are none that it stands in
  abbrev AreBeside : Kind → ℕ → ℕ → ℕ → List Slot → Type 0
  AreBeside kind into start count slots =
      (plain : Bool) (register : ℕ) → start ≤ register → register < start + count → is_free register (slot_of kind into plain ∷ slots) ≡ true

  -- an arm of `?:`, which fills the registers that the other one does
  arm_at : (levels : ℕ) → IsAt t flow setting running levels → (around : Around) → IsAround setting around → (made : Made) (from : ℕ) (arm : t.Expr) (kind : Kind) (spare into start count : ℕ) (place : Place) (to : ℕ) →
      IsSpelled flow made from (along t around (go levels t around) made from (Converts arm kind spare into ∷ zeros start count place) to) →
      (now : List (Stop t)) (tasks : List (TaskIn t)) (slots : List Slot) (base : ℕ) →
      Ready t flow setting running around now [] tasks base made.registers slots spare (left_as t (left_of t) arm (nat_eq into spare) kind) →
      (is_void kind ≡ false → IsTarget made.registers slots base spare (left_as t (left_of t) arm (nat_eq into spare) kind) into) → AreBeside kind into start count slots →
      ((plain : Bool) → IsAsPlain kind plain → Goes_on around now [] tasks (slot_of kind into plain ∷ slots) to) →
      Goes_on around now [] (ValueOf arm ∷ Convert (value_kind t arm) kind ∷ tasks) slots from
  arm_at levels at around good made from arm kind spare into start zero place to spelled now tasks slots base ready target beside cont =
      at.convert around good made from arm kind spare into to spelled now [] tasks slots base ready target cont
  arm_at levels at around good made from arm kind spare into start (suc count) place to spelled now tasks slots base ready target beside cont =
      let move : Move t = Converts arm kind spare into in
      let standing : Stood = after t move (stands_at made from) in
      let first = head_spelled t flow setting running levels around made from standing move (zeros start (suc count) place) to spelled in
      let behind = tail_spelled t flow setting running levels around made from standing move (zeros start (suc count) place) to spelled in
      at.convert around good (with_point standing made) from arm kind spare into made.points first now [] tasks slots base ready target
      (λ plain number. zeros_at levels around count (mid t flow setting running levels around made from standing move) made.points to start standing place behind now [] tasks (slot_of kind into plain ∷ slots)
      (beside plain) (cont plain number))

  arms_at : (levels : ℕ) → IsAt t flow setting running levels → (around : Around) → IsAround setting around → (made : Made) (from : ℕ) (test one other : t.Expr) (kind : Kind)
      (spare into total : ℕ) (standing : Stood) (start count start' count' : ℕ) (place : Place) (to : ℕ) →
      left_of t AsTest test ≤ total → left_as t (left_of t) one (nat_eq into spare) kind ≤ total → left_as t (left_of t) other (nat_eq into spare) kind ≤ total →
      IsSpelled flow made from (place_arms t around (go levels t around) made from test spare standing (Converts one kind spare into ∷ zeros start count place) (Converts other kind spare into ∷ zeros start' count' place) to) →
      (now later : List (Stop t)) (tasks : List (TaskIn t)) (slots : List Slot) (base : ℕ) → Ready t flow setting running around now later tasks base made.registers slots spare total →
      (is_void kind ≡ false → IsTarget made.registers slots base spare total into) → AreBeside kind into start count slots → AreBeside kind into start' count' slots →
      ((plain : Bool) → IsAsPlain kind plain → Goes_on around (later ++ now) [] tasks (slot_of kind into plain ∷ slots) to) →
      Goes_on around now later (ValueOf test ∷ Pick kind one other ∷ tasks) slots from
  arms_at levels at around good made from test one other kind spare into total standing start count start' count' place to tested within within' spelled now later tasks slots base ready target beside beside' cont =
      let inside = spelled.inside in
      let off : ℕ = made.points in
      let on : ℕ = suc made.points in
      let made1 : Made = with_point standing made in
      let made2 : Made = with_point standing made1 in
      let move : Move t = Asks test spare off on in
      let made3 : Made = go levels t around made2 from move to in
      let moves : List (Move t) = Converts one kind spare into ∷ zeros start count place in
      let made4 : Made = along t around (go levels t around) made3 on moves to in
      let first = point_placing standing made from spelled.sound in
      let second = point_placing standing made1 from first.sound in
      let three = go_placing levels t around made2 from move to (omega arith) second.sound in
      let h = three.points in
      let h' = three.registers in
      let four = along_placing t around (go levels t around) (go_placing levels t around) made3 on moves to (omega arith) three.sound in
      let k = four.points in
      let k' = four.registers in
      let five = along_placing t around (go levels t around) (go_placing levels t around) made4 off (Converts other kind spare into ∷ zeros start' count' place) to (omega arith) four.sound in
      let parts = spelled_three standing three four five spelled in
      let left : ℕ = left_as t (left_of t) one (nat_eq into spare) kind in
      let right : ℕ = left_as t (left_of t) other (nat_eq into spare) kind in
      at.ask around good made2 from test spare off on to parts.0 now later (Pick kind one other ∷ tasks) slots base (part_ready made.registers (left_of t AsTest test) ready (omega arith) tested)
      (PicksOther kind one other (arm_at levels at around good made4 off other kind spare into start' count' place to parts.2 (later ++ now) tasks slots base
      (part_ready made4.registers right ready (omega arith) within') (λ void. same_target made4.registers right (target void) within' (omega arith)) beside' cont))
      (PicksOne kind one other (arm_at levels at around good made3 on one kind spare into start count place to parts.1 (later ++ now) tasks slots base
      (part_ready made3.registers left ready (omega arith) within) (λ void. same_target made3.registers left (target void) within (omega arith)) beside cont))

  -- a register behind those of an arm is none in which its value stands
  value_beside : (into spare has want size : ℕ) (slots : List Slot) (plain : Bool) (register : ℕ) → AreSpare spare want slots → ((other : ℕ) → spare < other → other < spare + want → into ≢ other) →
      spare + in_front (nat_eq into spare && true) has ≤ register → register < (spare + in_front (nat_eq into spare && true) has) + (want - in_front (nat_eq into spare && true) has) →
      is_free register (InRegister into size plain ∷ slots) ≡ true
  value_beside into spare has want size slots plain register spares apart above less =
      let within = filled spare (in_front (nat_eq into spare && true) has) want register above less in
      free_beside register into size plain slots (by_same (nat_eq into spare) refl within above) (spares register (omega arith) within)
    where
      by_same : (same : Bool) → nat_eq into spare ≡ same → register < spare + want → spare + in_front (same && true) has ≤ register → into ≢ register
      by_same true is within least e = let here : into ≡ spare = eqb-true into spare is in absurd (omega arith)
      by_same false is within least e =
          ⊎_elim (λ (same : register ≡ spare). false≢true (sym is ∙ eq-eqb into spare (e ∙ same))) (λ (differ : register ≢ spare). apart register (omega arith) within e) (cases_eq register spare)

  arm_beside : (kind : Kind) (into spare has want : ℕ) (slots : List Slot) → AreSpare spare want slots → (is_void kind ≡ false → (other : ℕ) → spare < other → other < spare + want → into ≢ other) →
      AreBeside kind into (spare + in_front (nat_eq into spare && not (is_void kind)) has) (want - in_front (nat_eq into spare && not (is_void kind)) has) slots
  arm_beside (Integer of) into spare has want slots spares apart plain register above less = value_beside into spare has want of.bytes slots plain register spares (apart refl) above less
  arm_beside (Pointer item) into spare has want slots spares apart plain register above less = value_beside into spare has want 8 slots plain register spares (apart refl) above less
  arm_beside (Array item) into spare has want slots spares apart plain register above less = value_beside into spare has want 8 slots plain register spares (apart refl) above less
  arm_beside (Struct size) into spare has want slots spares apart plain register above less = value_beside into spare has want 8 slots plain register spares (apart refl) above less
  arm_beside Void into spare has want slots spares apart plain register above less =
      let within = filled spare (in_front (nat_eq into spare && false) has) want register above less in
      spares register (omega arith) within

  -- `?:`
  choose_by : (levels : ℕ) → IsAt t flow setting running levels → (around : Around) → IsAround setting around → (made : Made) (from : ℕ) (expr test one other : t.Expr)
      (spare into to total : ℕ) → t.form expr ≡ Choose test one other →
      max (left_of t AsTest test) (max (left_as t (left_of t) one (nat_eq into spare) (value_kind t expr)) (left_as t (left_of t) other (nat_eq into spare) (value_kind t expr))) ≡ total →
      IsSpelled flow made from (place_choose t around (go levels t around) made from expr test one other spare into to) →
      (now later : List (Stop t)) (tasks : List (TaskIn t)) (slots : List Slot) (base : ℕ) → Ready t flow setting running around now later tasks base made.registers slots spare total →
      (is_void (value_kind t expr) ≡ false → IsTarget made.registers slots base spare total into) →
      ((plain : Bool) → IsAsPlain (value_kind t expr) plain → Goes_on around (later ++ now) [] tasks (slot_of (value_kind t expr) into plain ∷ slots) to) →
      Goes_on around now later (ValueOf expr ∷ tasks) slots from
  choose_by levels at around good made from expr test one other spare into to total is total_is spelled now later tasks slots base ready target cont =
      let kind : Kind = value_kind t expr in
      let tested : ℕ = left_of t AsTest test in
      let left : ℕ = left_as t (left_of t) one (nat_eq into spare) kind in
      let right : ℕ = left_as t (left_of t) other (nat_eq into spare) kind in
      let spares : AreSpare spare (max tested (max left right)) slots = λ register least less. ready.spares register least (omega arith) in
      let apart : is_void kind ≡ false → (register : ℕ) → spare < register → register < spare + max tested (max left right) → into ≢ register = λ void register least less. (target void).apart register least (omega arith) in
      unfolds t flow setting running around now later tasks slots from expr (Choose test one other) is
      (arms_at levels at around good made from test one other kind spare into total (with_spares spare tested (stands_at made from))
      (spare + in_front (nat_eq into spare && not (is_void kind)) (max tested left)) (max tested (max left right) - in_front (nat_eq into spare && not (is_void kind)) (max tested left))
      (spare + in_front (nat_eq into spare && not (is_void kind)) (max tested right)) (max tested (max left right) - in_front (nat_eq into spare && not (is_void kind)) (max tested right))
      (t.place expr) to (omega arith) (omega arith) (omega arith) spelled now later tasks slots base ready target
      (arm_beside kind into spare (max tested left) (max tested (max left right)) slots spares apart) (arm_beside kind into spare (max tested right) (max tested (max left right)) slots spares apart) cont)

  pub choose_form : (levels : ℕ) → IsAt t flow setting running levels → (test one other : t.Expr) → FormIs t flow setting running levels (Choose test one other)
  choose_form levels at test one other around good made from expr spare into to is shown spelled now later tasks slots base ready target cont =
      choose_by levels at around good made from expr test one other spare into to (left_by_value t (left_of t) expr (nat_eq into spare) (Choose test one other)) is refl spelled now later tasks slots base ready (λ void. target)
      (λ plain number. subst (λ (slot : Slot). Goes_on around (later ++ now) [] tasks (slot ∷ slots) to)
      (sym (slot_made (value_kind t expr) into plain (not_void t flow setting running expr (Choose test one other) shown))) (cont plain number))

  -- one without a value: its arms are done
  pub choose_work : (levels : ℕ) → IsAt t flow setting running levels → (around : Around) → IsAround setting around → (made : Made) (from : ℕ) (expr test one other : t.Expr) (spare to : ℕ) → t.form expr ≡ Choose test one other →
      is_void (value_kind t expr) ≡ true → IsSpelled flow made from (place_choose t around (go levels t around) made from expr test one other spare spare to) →
      (now later : List (Stop t)) (tasks : List (TaskIn t)) (slots : List Slot) (base : ℕ) →
      Ready t flow setting running around now later tasks base made.registers slots spare (left_by_value t (left_of t) expr false (Choose test one other)) →
      Goes_on around (later ++ now) [] tasks (let_go (value_kind t expr) ∷ slots) to → Goes_on around now later (ValueOf expr ∷ tasks) slots from
  choose_work levels at around good made from expr test one other spare to is void spelled now later tasks slots base ready cont =
      let kind : Kind = value_kind t expr in
      let same = void_left kind in
      choose_by levels at around good made from expr test one other spare spare to (left_by_value t (left_of t) expr false (Choose test one other)) is
      (ap (λ (n : ℕ). max (left_of t AsTest test) n) (let e : max (left_as t (left_of t) one (nat_eq spare spare) kind) (left_as t (left_of t) other (nat_eq spare spare) kind)
      ≡ max (left_as t (left_of t) one false kind) (left_as t (left_of t) other false kind) = rw (same one (nat_eq spare spare) void, same other (nat_eq spare spare) void) refl in e))
      spelled now later tasks slots base ready (λ filled'. absurd (false≢true (sym filled' ∙ void)))
      (λ plain number. subst (λ (slot : Slot). Goes_on around (later ++ now) [] tasks (slot ∷ slots) to) (void_slot kind plain void) cont)
    where
      left_void : (from_kind : Kind) (arm : t.Expr) (in_spare : Bool) → left_converted t (left_of t) arm in_spare (conversion from_kind Void) ≡ left_converted t (left_of t) arm false (conversion from_kind Void)
      left_void (Integer of) arm in_spare = refl
      left_void (Pointer item) arm in_spare = refl
      left_void (Array item) arm in_spare = refl
      left_void (Struct size) arm in_spare = refl
      left_void Void arm in_spare = refl

      void_left : (kind : Kind) (arm : t.Expr) (in_spare : Bool) → is_void kind ≡ true → left_as t (left_of t) arm in_spare kind ≡ left_as t (left_of t) arm false kind
      void_left Void arm in_spare void' = left_void (value_kind t arm) arm in_spare
      void_left (Integer of) arm in_spare void' = absurd (false≢true void')
      void_left (Pointer item) arm in_spare void' = absurd (false≢true void')
      void_left (Array item) arm in_spare void' = absurd (false≢true void')
      void_left (Struct size) arm in_spare void' = absurd (false≢true void')

      void_slot : (kind : Kind) (plain : Bool) → is_void kind ≡ true → let_go kind ≡ slot_of kind spare plain
      void_slot Void plain void' = refl
      void_slot (Integer of) plain void' = absurd (false≢true void')
      void_slot (Pointer item) plain void' = absurd (false≢true void')
      void_slot (Array item) plain void' = absurd (false≢true void')
      void_slot (Struct size) plain void' = absurd (false≢true void')
