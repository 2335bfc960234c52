-- What a form places stands at points of its own, where what its moves place does.
use Rattle.std.proofs.Common.{◌≡◌, ◌<◌, ℕ, suc, List, [], ◌∷◌, max, Bool, true, false, nat_eq, refl, sym, ap, ◌∙◌, inl, inr, arith}
use Rattle.std.proofs.lemmas.Bool.{false≢true}
use Rattle.cbase.specs.declared.place.Place.{Place}
use Rattle.cbase.specs.declared.tree.operators.BinaryOp.{BinaryOp}
use Rattle.cbase.specs.declared.tree.operators.BinaryOp.TheVariants.{Equal, NotEqual, Both, Either}
use Rattle.cbase.specs.declared.tree.operators.UnaryOp.TheVariants.{Not}
use Rattle.c_machine.specs.Text.{Form, Unary, Binary, Text}
use Rattle.c_machine.specs.Expressions.{value_kind}
use Rattle.flow.specs.declared.instruction.Instr.TheVariants as i
use Rattle.flow.specs.declared.flow_graph.Standing.{Standing}
use Rattle.lowering.specs.Kinds.{width, sides}
use Rattle.lowering.specs.LetGo.{AsTest, left_of, left_as}
use Rattle.lowering.specs.Moves.{Move, Emits, Pairs, Parts, Evaluates, Converts, Answers, Tells, Locates, Works, Asks, Does, Clears, Initialises, Stops, Fails, Line, pads}
use Rattle.lowering.specs.Placing.{Made, Around, emit, with_point, with_registers, stands_at, with_spares, after, Way, Idle, Leads, Goes, way_of, Begin, Here, New, begin_by, begins, Go, along_from, along_at, along, along_line, zero_test, equality_moves, equality, two_tests, place_test, place_answer, place_told, place_arms, arm_moves, place_choose}
use Rattle.lowering.proofs.Placings.{IsSound, IsPlacing, nothing_placed, then_placing, emit_placing, point_placing, registers_placing}

abbrev is_there : Begin → Bool
is_there (Here point) = true
is_there New = false

is_new : (point : ℕ) → New ≡ Here point → ⊥
is_new point is = false≢true (ap is_there is)

-- what moves are placed between
module _ (t : Text) (around : Around) (go : Go t)
    (placing : (made : Made) (from : ℕ) (move : Move t) (to : ℕ) → from < made.points → IsSound made → IsPlacing made from (go made from move to)) where
  -- what moves place: nothing at another point, and nothing at all where they begin at a point that is there
  abbrev pub Placed : Standing → List (Move t) → ℕ → Made → ℕ → Type 0
  Placed standing moves to made from =
      (from < made.points → IsPlacing made from (along_at t around go made from standing moves to))
      × ((point : ℕ) → begins t around standing moves to ≡ Here point → IsPlacing made made.points (along_at t around go made from standing moves to))

  abbrev rest_of : Standing → List (Move t) → ℕ → Made → ℕ → Made
  rest_of standing moves to made point = along_at t around go made point standing moves to

  by_way : (made : Made) (from : ℕ) (standing : Standing) (move : Move t) (moves : List (Move t)) (to : ℕ) (way : Way) (begin : Begin) →
      begins t around standing moves to ≡ begin → ((made' : Made) (from' : ℕ) → IsSound made' → Placed standing moves to made' from') → IsSound made →
      (from < made.points → IsPlacing made from (along_from t (rest_of standing moves to) go made from move standing way begin))
      × ((point : ℕ) → begin_by way begin ≡ Here point → IsPlacing made made.points (along_from t (rest_of standing moves to) go made from move standing way begin))
  by_way made from standing move moves to Idle begin is rest sound =
      (λ inside. (rest made from sound).0 inside, λ point here. (rest made from sound).1 point (is ∙ here))
  by_way made from standing move moves to (Leads at) (Here point) is rest sound =
      (λ inside. then_placing (nothing_placed made from sound) ((rest made point sound).1 point is) (inr (omega arith)), λ point' here. (rest made point sound).1 point is)
  by_way made from standing move moves to (Leads at) New is rest sound =
      let one = point_placing standing made from sound in
      let one' = point_placing standing made made.points sound in (
        λ inside. then_placing one ((rest (with_point standing made) made.points one.sound).0 (omega arith)) (inr (omega arith)),
        λ point here. then_placing one' ((rest (with_point standing made) made.points one.sound).0 (omega arith)) (inl refl),
      )
  by_way made from standing move moves to Goes (Here point) is rest sound = (
    λ inside. let one = placing made from move point inside sound in
        let h = one.points in
        then_placing one ((rest (go made from move point) point one.sound).1 point is) (inr (omega arith)),
    λ point' here. absurd (is_new point' here),
  )
  by_way made from standing move moves to Goes New is rest sound = (
    λ inside. let first = point_placing standing made from sound in
        let one = placing (with_point standing made) from move made.points (omega arith) first.sound in
        let h = one.points in
        then_placing (then_placing first one (inl refl)) ((rest (go (with_point standing made) from move made.points) made.points one.sound).0 (omega arith)) (inr (omega arith)),
    λ point here. absurd (is_new point here),
  )

  -- a move without an edge leaves what stands
  pub begins_behind : (standing : Standing) (move : Move t) (moves : List (Move t)) (to : ℕ) →
      begins t around standing (move ∷ moves) to ≡ begin_by (way_of t around standing move) (begins t around (after t move standing) moves to)
  begins_behind standing (Emits instr place) moves to = refl
  begins_behind standing (Pairs one other place) moves to = refl
  begins_behind standing (Parts one off other on place) moves to = refl
  begins_behind standing (Evaluates expr spare into) moves to = refl
  begins_behind standing (Converts expr kind spare into) moves to = refl
  begins_behind standing (Answers expr spare into size) moves to = refl
  begins_behind standing (Tells register size into place) moves to = refl
  begins_behind standing (Locates expr spare into) moves to = refl
  begins_behind standing (Works expr spare) moves to = refl
  begins_behind standing (Asks expr spare off on) moves to = refl
  begins_behind standing (Does stmt) moves to = refl
  begins_behind standing (Clears place object) moves to = refl
  begins_behind standing (Initialises place init) moves to = refl
  begins_behind standing Stops moves to = refl
  begins_behind standing Fails moves to = refl

  pub moves_placing : (made : Made) (from : ℕ) (standing : Standing) (moves : List (Move t)) (to : ℕ) → IsSound made → Placed standing moves to made from
  moves_placing made from standing [] to sound = (λ inside. nothing_placed made from sound, λ point is. nothing_placed made made.points sound)
  moves_placing made from standing (move ∷ moves) to sound =
      let both = by_way made from (after t move standing) move moves to (way_of t around standing move) (begins t around (after t move standing) moves to) refl
      (λ made' from' sound'. moves_placing made' from' (after t move standing) moves to sound') sound in
      (both.0, λ point is. both.1 point (sym (begins_behind standing move moves to) ∙ is))

  pub standing_placing : (made : Made) (from : ℕ) (standing : Standing) (moves : List (Move t)) (to : ℕ) → from < made.points → IsSound made →
      IsPlacing made from (along_at t around go made from standing moves to)
  standing_placing made from standing moves to inside sound = (moves_placing made from standing moves to sound).0 inside

  pub along_placing : (made : Made) (from : ℕ) (moves : List (Move t)) (to : ℕ) → from < made.points → IsSound made → IsPlacing made from (along t around go made from moves to)
  along_placing made from moves to inside sound = (moves_placing made from (stands_at made from) moves to sound).0 inside

  pub line_placing : (made : Made) (from : ℕ) (line : Line t) (to : ℕ) → from < made.points → IsSound made → IsPlacing made from (along_line t around go made from line to)
  line_placing made from line to inside sound =
      let one = registers_placing line.registers made from sound in
      then_placing one (along_placing (with_registers line.registers made) from line.moves to inside one.sound) (inl refl)

  zero_placing : (made : Made) (from : ℕ) (expr : t.Expr) (spare off on : ℕ) → from < made.points → IsSound made → IsPlacing made from (zero_test t around go made from expr spare off on)
  zero_placing made from expr spare off on inside sound =
      let one = registers_placing 2 made from sound in
      then_placing one (along_placing (with_registers 2 made) from
      (Evaluates expr spare made.registers ∷ Emits (i.Number (suc made.registers) 0 (width (value_kind t expr))) (t.place expr)
      ∷ Parts (i.IfSame made.registers (suc made.registers)) off (i.IfDifferent made.registers (suc made.registers)) on (t.place expr) ∷ []) off inside one.sound) (inl refl)

  equality_placing : (made : Made) (from : ℕ) (what : BinaryOp) (expr left right : t.Expr) (spare same differs : ℕ) → from < made.points → IsSound made →
      IsPlacing made from (equality t around go made from what expr left right spare same differs)
  equality_placing made from what expr left right spare same differs inside sound =
      let one = registers_placing 4 made from sound in
      then_placing one (along_placing (with_registers 4 made) from
      (equality_moves t (sides what (value_kind t left) (value_kind t right)) expr left right spare made.registers same differs) same inside one.sound) (inl refl)

  tests_placing : (made : Made) (from : ℕ) (first : ℕ → ℕ → Move t) (second : Move t) (standing : Standing) (moves : List (Move t)) (end : ℕ) → from < made.points → IsSound made →
      IsPlacing made from (two_tests t around go made from first second standing moves end)
  tests_placing made from first second standing [] end inside sound =
      let made1 : Made = with_point standing made in
      let one = point_placing standing made from sound in
      let two = placing made1 from (first end made.points) end (omega arith) one.sound in
      let h = two.points in
      then_placing (then_placing one two (inl refl)) (placing (go made1 from (first end made.points) end) made.points second end (omega arith) two.sound) (inr (omega arith))
  tests_placing made from first second standing (pad ∷ pads) end inside sound =
      let made1 : Made = with_point standing made in
      let made2 : Made = with_point standing made1 in
      let one = point_placing standing made from sound in
      let two = point_placing standing made1 from one.sound in
      let three = placing made2 from (first (suc made.points) made.points) end (omega arith) two.sound in
      let h = three.points in
      let made3 : Made = go made2 from (first (suc made.points) made.points) end in
      let four = along_placing made3 (suc made.points) (pad ∷ pads) end (omega arith) three.sound in
      let k = four.points in
      let made4 : Made = along t around go made3 (suc made.points) (pad ∷ pads) end in
      then_placing (then_placing (then_placing (then_placing one two (inl refl)) three (inl refl)) four (inr (omega arith)))
      (placing made4 made.points second end (omega arith) four.sound) (inr (omega arith))

  test_placing : (made : Made) (from : ℕ) (expr : t.Expr) (spare off on : ℕ) (form : Form t.Expr t.Stmt) → from < made.points → IsSound made →
      IsPlacing made from (place_test t around go made from expr spare off on form)
  test_placing made from expr spare off on (Unary Not arg) inside sound = placing made from (Asks arg spare on off) off inside sound
  test_placing made from expr spare off on (Binary Both left right) inside sound = tests_placing made from (λ early between. Asks left spare early between) (Asks right spare off on)
      (with_spares spare (left_of t AsTest left) (stands_at made from)) (pads spare (left_of t AsTest left) (left_of t AsTest right) (t.place expr)) off inside sound
  test_placing made from expr spare off on (Binary Either left right) inside sound = tests_placing made from (λ early between. Asks left spare between early) (Asks right spare off on)
      (with_spares spare (left_of t AsTest left) (stands_at made from)) (pads spare (left_of t AsTest left) (left_of t AsTest right) (t.place expr)) on inside sound
  test_placing made from expr spare off on (Binary Equal left right) inside sound = equality_placing made from Equal expr left right spare on off inside sound
  test_placing made from expr spare off on (Binary NotEqual left right) inside sound = equality_placing made from NotEqual expr left right spare off on inside sound
  test_placing made from expr spare off on form inside sound = zero_placing made from expr spare off on inside sound

  pub answer_placing : (made : Made) (from : ℕ) (expr : t.Expr) (spare into size : ℕ) (standing : Standing) (to : ℕ) → from < made.points → IsSound made →
      IsPlacing made from (place_answer t go made from expr spare into size standing to)
  answer_placing made from expr spare into size standing to inside sound =
      let made1 : Made = with_point standing made in
      let made2 : Made = with_point standing made1 in
      let one = point_placing standing made from sound in
      let two = point_placing standing made1 from one.sound in
      let three = placing made2 from (Asks expr spare made.points (suc made.points)) to (omega arith) two.sound in
      let h = three.points in
      let made3 : Made = go made2 from (Asks expr spare made.points (suc made.points)) to in
      let four = emit_placing made3 (suc made.points) to (i.Number into 1 size) (t.place expr) (omega arith) three.sound in
      then_placing (then_placing (then_placing (then_placing one two (inl refl)) three (inl refl)) four (inr (omega arith)))
      (emit_placing (emit made3 (suc made.points) (i.Number into 1 size) to (t.place expr)) made.points to (i.Number into 0 size) (t.place expr) (omega arith) four.sound) (inr (omega arith))

  pub test_by_form : (made : Made) (from : ℕ) (expr : t.Expr) (spare off on : ℕ) → from < made.points → IsSound made →
      IsPlacing made from (place_test t around go made from expr spare off on (t.form expr))
  test_by_form made from expr spare off on inside sound = test_placing made from expr spare off on (t.form expr) inside sound

  arms_placing : (made : Made) (from : ℕ) (test : t.Expr) (spare : ℕ) (standing : Standing) (one other : List (Move t)) (to : ℕ) → from < made.points → IsSound made →
      IsPlacing made from (place_arms t around go made from test spare standing one other to)
  arms_placing made from test spare standing one other to inside sound =
      let made1 : Made = with_point standing made in
      let made2 : Made = with_point standing made1 in
      let first = point_placing standing made from sound in
      let second = point_placing standing made1 from first.sound in
      let three = placing made2 from (Asks test spare made.points (suc made.points)) to (omega arith) second.sound in
      let h = three.points in
      let made3 : Made = go made2 from (Asks test spare made.points (suc made.points)) to in
      let four = along_placing made3 (suc made.points) one to (omega arith) three.sound in
      let k = four.points in
      let made4 : Made = along t around go made3 (suc made.points) one to in
      then_placing (then_placing (then_placing (then_placing first second (inl refl)) three (inl refl)) four (inr (omega arith)))
      (along_placing made4 made.points other to (omega arith) four.sound) (inr (omega arith))

  pub choose_placing : (made : Made) (from : ℕ) (expr test one other : t.Expr) (spare into to : ℕ) → from < made.points → IsSound made →
      IsPlacing made from (place_choose t around go made from expr test one other spare into to)
  choose_placing made from expr test one other spare into to inside sound =
      let tested : ℕ = left_of t AsTest test in
      let left_one : ℕ = left_as t (left_of t) one (nat_eq into spare) (value_kind t expr) in
      let left_other : ℕ = left_as t (left_of t) other (nat_eq into spare) (value_kind t expr) in
      arms_placing made from test spare (with_spares spare tested (stands_at made from))
      (arm_moves t (value_kind t expr) spare into (max tested left_one) (max tested (max left_one left_other)) (t.place expr) one)
      (arm_moves t (value_kind t expr) spare into (max tested left_other) (max tested (max left_one left_other)) (t.place expr) other) to inside sound

pub told_placing : (made : Made) (from register size into : ℕ) (tested standing : Standing) (place : Place) (to : ℕ) → from < made.points → IsSound made →
    IsPlacing made from (place_told made from register size into tested standing place to)
told_placing made from register size into tested standing place to inside sound =
    let made0 : Made = with_registers 1 made in
    let made1 : Made = with_point tested made0 in
    let made2 : Made = with_point standing made1 in
    let made3 : Made = with_point standing made2 in
    let zero_ = registers_placing 1 made from sound in
    let one = point_placing tested made0 from zero_.sound in
    let two = point_placing standing made1 from one.sound in
    let three = point_placing standing made2 from two.sound in
    let made4 : Made = emit made3 from (i.Number made.registers 0 size) made.points place in
    let four = emit_placing made3 from made.points (i.Number made.registers 0 size) place (omega arith) three.sound in
    let made5 : Made = emit made4 made.points (i.IfSame register made.registers) (suc made.points) place in
    let five = emit_placing made4 made.points (suc made.points) (i.IfSame register made.registers) place (omega arith) four.sound in
    let made6 : Made = emit made5 made.points (i.IfDifferent register made.registers) (suc (suc made.points)) place in
    let six = emit_placing made5 made.points (suc (suc made.points)) (i.IfDifferent register made.registers) place (omega arith) five.sound in
    let made7 : Made = emit made6 (suc (suc made.points)) (i.Number into 1 1) to place in
    let seven = emit_placing made6 (suc (suc made.points)) to (i.Number into 1 1) place (omega arith) six.sound in
    let eight = emit_placing made7 (suc made.points) to (i.Number into 0 1) place (omega arith) seven.sound in
    then_placing (then_placing (then_placing (then_placing (then_placing (then_placing (then_placing (then_placing zero_ one (inl refl)) two (inl refl)) three (inl refl)) four (inl refl))
    five (inr (omega arith))) six (inr (omega arith))) seven (inr (omega arith))) eight (inr (omega arith))
