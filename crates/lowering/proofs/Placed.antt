-- Every move places its edges at points of its own.
use Rattle.std.proofs.Common.{if◌then◌else◌, ◌<◌, ◌≤◌, ℕ, zero, suc, ◌+◌, List, [], ◌∷◌, ◌++◌, map, length, Bool, true, false, refl, inl, inr, arith, Option, None, Some}
use Rattle.std.specs.List.{flat_map, list_all}
use Rattle.cbase.specs.declared.place.Place.{Place}
use Rattle.c_machine.specs.declared.object.Object.{Object}
use Rattle.c_machine.specs.Text.{Form, Choose, Inner, Initialiser, Value, Braces, Clause, Declare, Eval, Block, If, While, Do, For, Break, Continue, Return, Store, Text}
use Rattle.c_machine.specs.Expressions.{value_kind}
use Rattle.flow.specs.declared.instruction.Instr.{Instr}
use Rattle.flow.specs.declared.instruction.Instr.TheVariants as i
use Rattle.flow.specs.declared.flow_graph.Standing.{Standing}
use Rattle.simulation.specs.Names.{Name as Named, variables_of}
use Rattle.lowering.specs.Kinds.{is_void, conversion}
use Rattle.lowering.specs.LetGo.{AsTest, AsValue, AsWork, left_of}
use Rattle.lowering.specs.Moves.{Move, Emits, Pairs, Parts, Evaluates, Converts, Answers, Tells, Locates, Works, Asks, Does, Clears, Initialises, Stops, Fails, Line, run_of}
use Rattle.lowering.specs.Table.{value_line, place_line, work_line, converted_line, last_of, kind_of_last, kind_made, is_made}
use Rattle.lowering.specs.Placing.{Made, Loop, Around, emit, with_point, with_registers, with_head, failed, stands_at, with_width, with_spares, after, named_from, with_objects, is_empty_within, objects_of, objects_in, within, Go, along, along_line, place_told, without_register, enters, leaves, valued_moves, full_moves, finishes, function_leaves, registers_of, return_moves, set_moves, left_at_end, place_scope, place_inner, place_value_form, place_value, place_void, place_work, place_branch, branch, other_moves, place_full, in_loop, passes, is_break, is_declaration, place_do_body, place_do, place_turn, place_next, is_at_head, place_turns, place_for, jump_moves, place_break, place_continue, place_return, declared_moves, clear_moves, left_by_set, place_set, place_initialiser, place_statement, variable_of, go as go_levels}
use Rattle.lowering.proofs.Placings.{IsSound, IsPlacing, nothing_placed, then_placing, emit_placing, point_placing, registers_placing, head_placing, failed_placing, objects_placing}
use Rattle.lowering.proofs.PlacedForms.{along_placing, line_placing, answer_placing, test_by_form, choose_placing, told_placing}

module _ (t : Text) (go : Around → Go t)
    (placing : (around : Around) (made : Made) (from : ℕ) (move : Move t) (to : ℕ) → from < made.points → IsSound made → IsPlacing made from (go around made from move to)) where
  along_by : (around : Around) (made : Made) (from : ℕ) (moves : List (Move t)) (to : ℕ) → from < made.points → IsSound made → IsPlacing made from (along t around (go around) made from moves to)
  along_by around made from moves to inside sound = along_placing t around (go around) (placing around) made from moves to inside sound

  line_by : (around : Around) (made : Made) (from : ℕ) (line : Line t) (to : ℕ) → from < made.points → IsSound made → IsPlacing made from (along_line t around (go around) made from line to)
  line_by around made from line to inside sound = line_placing t around (go around) (placing around) made from line to inside sound

  pub scope_placing : (around : Around) (made : Made) (from : ℕ) (objects : List Object) (moves : List Named → List (Move t)) (to : ℕ) → from < made.points → IsSound made →
      IsPlacing made from (place_scope t go around made from objects moves to)
  scope_placing around made from objects moves to inside sound =
      let one = objects_placing objects made from sound in
      then_placing one (along_by (within (named_from (length made.variables) objects) around) (with_objects false objects made) from (moves (named_from (length made.variables) objects)) to inside one.sound) (inl refl)

  inner_placing : (around : Around) (made : Made) (from : ℕ) (expr : t.Expr) (body : List t.Stmt) (close : Place) (into to : ℕ) → from < made.points → IsSound made →
      IsPlacing made from (place_inner t go around made from expr body close into to)
  inner_placing around made from expr body close into to inside sound =
      let one = registers_placing (left_at_end t (last_of t body)) made from sound in
      then_placing one (scope_placing around (with_registers (left_at_end t (last_of t body)) made) from (objects_in t body)
      (λ names. enters names (t.place expr) ∷ (valued_moves t made.registers (left_at_end t (last_of t body)) into body ++ leaves names close ∷ [])) to inside one.sound) (inl refl)

  value_form_placing : (around : Around) (made : Made) (from : ℕ) (expr : t.Expr) (spare into to : ℕ) (form : Form t.Expr t.Stmt) → from < made.points → IsSound made →
      IsPlacing made from (place_value_form t go around made from expr spare into to form)
  value_form_placing around made from expr spare into to (Choose test one other) inside sound =
      choose_placing t around (go around) (placing around) made from expr test one other spare into to inside sound
  value_form_placing around made from expr spare into to (Inner body close) inside sound = inner_placing around made from expr body close into to inside sound
  value_form_placing around made from expr spare into to form inside sound = line_by around made from (value_line t expr spare into made.registers form) to inside sound

  value_by : (around : Around) (made : Made) (from : ℕ) (expr : t.Expr) (spare into to : ℕ) (form : Form t.Expr t.Stmt) (is : Bool) → from < made.points → IsSound made →
      IsPlacing made from (if is then place_value_form t go around made from expr spare into to form else failed made)
  value_by around made from expr spare into to form true inside sound = value_form_placing around made from expr spare into to form inside sound
  value_by around made from expr spare into to form false inside sound = failed_placing made from sound

  inner_by : (around : Around) (made : Made) (from : ℕ) (expr : t.Expr) (body : List t.Stmt) (close : Place) (spare to : ℕ) (is : Bool) → from < made.points → IsSound made →
      IsPlacing made from (if is then place_inner t go around made from expr body close spare to else failed made)
  inner_by around made from expr body close spare to true inside sound = inner_placing around made from expr body close spare to inside sound
  inner_by around made from expr body close spare to false inside sound = failed_placing made from sound

  void_placing : (around : Around) (made : Made) (from : ℕ) (expr : t.Expr) (spare to : ℕ) (form : Form t.Expr t.Stmt) → from < made.points → IsSound made →
      IsPlacing made from (place_void t go around made from expr spare to form)
  void_placing around made from expr spare to (Choose test one other) inside sound =
      choose_placing t around (go around) (placing around) made from expr test one other spare spare to inside sound
  void_placing around made from expr spare to (Inner body close) inside sound =
      inner_by around made from expr body close spare to (is_void (kind_of_last t (last_of t body))) inside sound
  void_placing around made from expr spare to form inside sound = line_by around made from (work_line t expr spare made.registers form) to inside sound

  work_by : (around : Around) (made : Made) (from : ℕ) (expr : t.Expr) (spare to : ℕ) (form : Form t.Expr t.Stmt) (is is' : Bool) → from < made.points → IsSound made →
      IsPlacing made from (if is then (if is' then place_void t go around made from expr spare to form else failed made)
      else along_line t around (go around) made from (work_line t expr spare made.registers form) to)
  work_by around made from expr spare to form true true inside sound = void_placing around made from expr spare to form inside sound
  work_by around made from expr spare to form true false inside sound = failed_placing made from sound
  work_by around made from expr spare to form false is' inside sound = line_by around made from (work_line t expr spare made.registers form) to inside sound

  pub branch_placing : (around turning : Around) (made : Made) (from : ℕ) (test : t.Expr) (count : ℕ) (close : Place) (one : List (Move t)) (one_to : ℕ) (other : List (Move t)) (other_to : ℕ) →
      from < made.points → IsSound made → IsPlacing made from (place_branch t go around turning made from test count close one one_to other other_to)
  branch_placing around turning made from test count close one one_to other other_to inside sound =
      let standing : Standing = with_spares made.registers count (stands_at made from) in
      let made1 : Made = with_point standing made in
      let made2 : Made = with_point standing made1 in
      let made3 : Made = with_registers count made2 in
      let first = point_placing standing made from sound in
      let second = point_placing standing made1 from first.sound in
      let third = registers_placing count made2 from second.sound in
      let asked = placing around made3 from (Asks test made.registers made.points (suc made.points)) from (omega arith) third.sound in
      let h = asked.points in
      let made4 : Made = go around made3 from (Asks test made.registers made.points (suc made.points)) from in
      let held = along_by turning made4 (suc made.points) (Emits (i.Finish (run_of made.registers count)) close ∷ one) one_to (omega arith) asked.sound in
      let k = held.points in
      let made5 : Made = along t turning (go turning) made4 (suc made.points) (Emits (i.Finish (run_of made.registers count)) close ∷ one) one_to in
      then_placing (then_placing (then_placing (then_placing (then_placing first second (inl refl)) third (inl refl)) asked (inl refl)) held (inr (omega arith)))
      (along_by around made5 made.points (Emits (i.Finish (run_of made.registers count)) close ∷ other) other_to (omega arith) held.sound) (inr (omega arith))

  branch_by : (around turning : Around) (made : Made) (from : ℕ) (test : t.Expr) (close : Place) (one : List (Move t)) (one_to : ℕ) (other : List (Move t)) (other_to : ℕ) →
      from < made.points → IsSound made → IsPlacing made from (branch t go around turning made from test close one one_to other other_to)
  branch_by around turning made from test close one one_to other other_to inside sound =
      branch_placing around turning made from test (left_of t AsTest test) close one one_to other other_to inside sound

  full_placing : (around : Around) (made : Made) (from : ℕ) (expr : t.Expr) (end : Place) (to : ℕ) → from < made.points → IsSound made → IsPlacing made from (place_full t go around made from expr end to)
  full_placing around made from expr end to inside sound =
      let one = registers_placing (left_of t AsWork expr) made from sound in
      then_placing one (along_by around (with_registers (left_of t AsWork expr) made) from (full_moves t expr made.registers (left_of t AsWork expr) end) to inside one.sound) (inl refl)

  pub body_placing : (turning : Around) (made : Made) (from : ℕ) (body : t.Stmt) (again to : ℕ) (is : Bool) → from < made.points → IsSound made →
      IsPlacing made from (place_do_body t go turning made from body again to is)
  body_placing turning made from body again to true inside sound = emit_placing made from to (i.Enter []) (t.first body) inside sound
  body_placing turning made from body again to false inside sound = along_by turning made from (Does body ∷ []) again inside sound

  pub do_placing : (around : Around) (made : Made) (from : ℕ) (body : t.Stmt) (test : t.Expr) (close : Place) (to : ℕ) (standing : Standing) (is : Bool) → from < made.points → IsSound made →
      IsPlacing made from (place_do t go around made from body test close to standing is)
  do_placing around made from body test close to standing true inside sound = branch_by around around made from test close [] from [] to inside sound
  do_placing around made from body test close to standing false inside sound =
      let turning : Around = in_loop around around made.points to standing in
      let one = point_placing standing made from sound in
      let two = body_placing turning (with_point standing made) from body made.points to (is_break t (t.clause body)) (omega arith) one.sound in
      let h = two.points in
      then_placing (then_placing one two (inl refl))
      (branch_by around around (place_do_body t go turning (with_point standing made) from body made.points to (is_break t (t.clause body))) made.points test close [] from [] to (omega arith) two.sound)
      (inr (omega arith))

  pub turn_placing : (around turning : Around) (made : Made) (head : ℕ) (test : Option t.Expr) (semicolon : Place) (body : t.Stmt) (again out : ℕ) → head < made.points → IsSound made →
      IsPlacing made head (place_turn t go around turning made head test semicolon body again out)
  turn_placing around turning made head None semicolon body again out inside sound = along_by turning made head (Does body ∷ []) again inside sound
  turn_placing around turning made head (Some test) semicolon body again out inside sound = branch_by around turning made head test semicolon (Does body ∷ []) again [] out inside sound

  pub next_placing : (around : Around) (made : Made) (from : ℕ) (next : Option t.Expr) (close : Place) (to : ℕ) → from < made.points → IsSound made → IsPlacing made from (place_next t go around made from next close to)
  next_placing around made from None close to inside sound = nothing_placed made from sound
  next_placing around made from (Some expr) close to inside sound = full_placing around made from expr close to inside sound

  -- the head of a `for`, and the point from which what is done behind a turn goes out, are points of its own
  turns_placing : (outside around : Around) (made : Made) (head : ℕ) (test : Option t.Expr) (semicolon : Place) (next : Option t.Expr) (close : Place) (body : t.Stmt) (again out to : ℕ) (standing : Standing)
      (before : Made) (from : ℕ) → IsPlacing before from made → before.points ≤ head → before.points ≤ again → head < made.points → again < made.points →
      IsPlacing before from (place_turns t go outside around made head test semicolon next close body again out to standing)
  turns_placing outside around made head test semicolon next close body again out to standing before from placed above above' inside inside' =
      let one = turn_placing around (in_loop outside around again to standing) made head test semicolon body again out inside placed.sound in
      let h = one.points in
      then_placing (then_placing placed one (inr above))
      (next_placing around (place_turn t go around (in_loop outside around again to standing) made head test semicolon body again out) again next close head (omega arith) one.sound) (inr above')

  pub for_placing : (outside around : Around) (made : Made) (names : List Named) (from : ℕ) (stmt first : t.Stmt) (test : Option t.Expr) (semicolon : Place) (next : Option t.Expr) (close : Place) (body : t.Stmt)
      (entered standing : Standing) (is : Bool) (to : ℕ) → from < made.points → IsSound made →
      IsPlacing made from (place_for t go outside around made names from stmt first test semicolon next close body entered standing is to)
  for_placing outside around made names from stmt first test semicolon next close body entered standing true to inside sound =
      let made2 : Made = with_point entered (with_point entered made) in
      let one = point_placing entered made from sound in
      let two = point_placing entered (with_point entered made) from one.sound in
      let three = head_placing made.points made2 from two.sound in
      let four = along_by around (with_head made.points made2) from (enters names (t.first stmt) ∷ Does first ∷ []) made.points (omega arith) three.sound in
      let h = four.points in
      let made4 : Made = along t around (go around) (with_head made.points made2) from (enters names (t.first stmt) ∷ Does first ∷ []) made.points in
      let placed = then_placing (then_placing (then_placing one two (inl refl)) three (inl refl)) four (inl refl) in
      let turns = turns_placing outside around made4 made.points test semicolon next close body made.points (suc made.points) to standing made from placed (omega arith) (omega arith) (omega arith) (omega arith) in
      then_placing turns (emit_placing _ (suc made.points) to (i.Leave (variables_of names)) (t.first stmt)
      (let k = (turn_placing around (in_loop outside around made.points to standing) made4 made.points test semicolon body made.points (suc made.points) (omega arith) four.sound).points in
      let l = (next_placing around (place_turn t go around (in_loop outside around made.points to standing) made4 made.points test semicolon body made.points (suc made.points)) made.points next close made.points
      (omega arith) (turn_placing around (in_loop outside around made.points to standing) made4 made.points test semicolon body made.points (suc made.points) (omega arith) four.sound).sound).points in
      omega arith) turns.sound) (inr (omega arith))
  for_placing outside around made names from stmt first test semicolon next close body entered standing false to inside sound =
      let made3 : Made = with_point entered (with_point entered (with_point entered made)) in
      let one = point_placing entered made from sound in
      let two = point_placing entered (with_point entered made) from one.sound in
      let two' = point_placing entered (with_point entered (with_point entered made)) from two.sound in
      let three = head_placing made.points made3 from two'.sound in
      let four = along_by around (with_head made.points made3) from (enters names (t.first stmt) ∷ Does first ∷ []) made.points (omega arith) three.sound in
      let h = four.points in
      let made4 : Made = along t around (go around) (with_head made.points made3) from (enters names (t.first stmt) ∷ Does first ∷ []) made.points in
      let placed = then_placing (then_placing (then_placing (then_placing one two (inl refl)) two' (inl refl)) three (inl refl)) four (inl refl) in
      let turns = turns_placing outside around made4 made.points test semicolon next close body (suc (suc made.points)) (suc made.points) to standing made from placed (omega arith) (omega arith) (omega arith) (omega arith) in
      then_placing turns (emit_placing _ (suc made.points) to (i.Leave (variables_of names)) (t.first stmt)
      (let k = (turn_placing around (in_loop outside around (suc (suc made.points)) to standing) made4 made.points test semicolon body (suc (suc made.points)) (suc made.points) (omega arith) four.sound).points in
      let l = (next_placing around (place_turn t go around (in_loop outside around (suc (suc made.points)) to standing) made4 made.points test semicolon body (suc (suc made.points)) (suc made.points)) (suc (suc made.points)) next close made.points
      (omega arith) (turn_placing around (in_loop outside around (suc (suc made.points)) to standing) made4 made.points test semicolon body (suc (suc made.points)) (suc made.points) (omega arith) four.sound).sound).points in
      omega arith) turns.sound) (inr (omega arith))

  break_placing : (around : Around) (made : Made) (from : ℕ) (word : Place) (loop : Option Loop) → from < made.points → IsSound made → IsPlacing made from (place_break t go around made from word loop)
  break_placing around made from word None inside sound = failed_placing made from sound
  break_placing around made from word (Some loop) inside sound =
      along_by around made from (jump_moves around (stands_at made from) loop.outer loop word) loop.behind inside sound

  continue_placing : (around : Around) (made : Made) (from : ℕ) (word : Place) (loop : Option Loop) → from < made.points → IsSound made → IsPlacing made from (place_continue t go around made from word loop)
  continue_placing around made from word None inside sound = failed_placing made from sound
  continue_placing around made from word (Some loop) inside sound =
      along_by around made from (jump_moves around (stands_at made from) loop.inner loop word) loop.again inside sound

  return_placing : (around : Around) (made : Made) (from : ℕ) (word : Place) (is : Bool) (expr : Option t.Expr) → from < made.points → IsSound made → IsPlacing made from (place_return t go around made from word is expr)
  return_placing around made from word true None inside sound =
      along_by around made from (finishes (registers_of (stands_at made from)) word ++ function_leaves around word) around.exit inside sound
  return_placing around made from word true (Some expr) inside sound = failed_placing made from sound
  return_placing around made from word false None inside sound = failed_placing made from sound
  return_placing around made from word false (Some expr) inside sound =
      let one = registers_placing (left_of t (AsValue false) expr + 2) made from sound in
      then_placing one (along_by around (with_registers (left_of t (AsValue false) expr + 2) made) from
      (return_moves t around expr made.registers (left_of t (AsValue false) expr) (made.registers + left_of t (AsValue false) expr) (conversion (value_kind t expr) around.kind) (stands_at made from) word)
      around.exit inside one.sound) (inl refl)

  set_placing : (around : Around) (made : Made) (from : ℕ) (place : Place) (value : t.Expr) (end : Place) (to : ℕ) (stored : Option Store) → from < made.points → IsSound made →
      IsPlacing made from (place_set t go around made from place value end to stored)
  set_placing around made from place value end to None inside sound = failed_placing made from sound
  set_placing around made from place value end to (Some stored) inside sound =
      let one = registers_placing (left_by_set t value stored.kind + 3) made from sound in
      then_placing one (along_by around (with_registers (left_by_set t value stored.kind + 3) made) from
      (set_moves t (variable_of around (t.token place)) place value end stored made.registers (left_by_set t value stored.kind)) to inside one.sound) (inl refl)

  parts_by : (around : Around) (made : Made) (from : ℕ) (place : Place) (to : ℕ) (parts : List t.Init) (is : Bool) → from < made.points → IsSound made →
      IsPlacing made from (if is then failed made else along t around (go around) made from (map (Initialises place) parts) to)
  parts_by around made from place to parts true inside sound = failed_placing made from sound
  parts_by around made from place to parts false inside sound = along_by around made from (map (Initialises place) parts) to inside sound

  initialiser_placing : (around : Around) (made : Made) (from : ℕ) (place : Place) (to : ℕ) (init : Initialiser t.Expr t.Init) → from < made.points → IsSound made →
      IsPlacing made from (place_initialiser t go around made from place to init)
  initialiser_placing around made from place to (Value value end) inside sound = set_placing around made from place value end to (t.store place value) inside sound
  initialiser_placing around made from place to (Braces parts) inside sound = parts_by around made from place to parts (list_all (is_empty_within t.enough t) parts) inside sound

  for_by : (outside around : Around) (made : Made) (objects : List Object) (names : List Named) (from : ℕ) (stmt first : t.Stmt) (test : Option t.Expr) (semicolon : Place) (next : Option t.Expr) (close : Place) (body : t.Stmt)
      (entered standing : Standing) (is declared : Bool) (to : ℕ) → from < made.points → IsSound made →
      IsPlacing made from (place_for t go outside around (with_objects false objects (if declared then failed made else made)) names from stmt first test semicolon next close body entered standing is to)
  for_by outside around made objects names from stmt first test semicolon next close body entered standing is true to inside sound =
      let one = failed_placing made from sound in
      let two = objects_placing objects (failed made) from one.sound in
      then_placing (then_placing one two (inl refl))
      (for_placing outside around (with_objects false objects (failed made)) names from stmt first test semicolon next close body entered standing is to inside two.sound) (inl refl)
  for_by outside around made objects names from stmt first test semicolon next close body entered standing is false to inside sound =
      let two = objects_placing objects made from sound in
      then_placing two (for_placing outside around (with_objects false objects made) names from stmt first test semicolon next close body entered standing is to inside two.sound) (inl refl)

  do_by : (around : Around) (made : Made) (from : ℕ) (body : t.Stmt) (test : t.Expr) (close : Place) (to : ℕ) (standing : Standing) (is declared : Bool) → from < made.points → IsSound made →
      IsPlacing made from (place_do t go around (if declared then failed (with_head from made) else with_head from made) from body test close to standing is)
  do_by around made from body test close to standing is true inside sound =
      let one = head_placing from made from sound in
      let two = failed_placing (with_head from made) from one.sound in
      then_placing (then_placing one two (inl refl)) (do_placing around (failed (with_head from made)) from body test close to standing is inside two.sound) (inl refl)
  do_by around made from body test close to standing is false inside sound =
      let one = head_placing from made from sound in
      then_placing one (do_placing around (with_head from made) from body test close to standing is inside one.sound) (inl refl)

  statement_placing : (around : Around) (made : Made) (from : ℕ) (stmt : t.Stmt) (to : ℕ) (clause : Clause t.Expr t.Stmt t.Init) → from < made.points → IsSound made →
      IsPlacing made from (place_statement t go around made from stmt to clause)
  statement_placing around made from stmt to (Declare names) inside sound = along_by around made from (flat_map (declared_moves t) names) to inside sound
  statement_placing around made from stmt to (Eval None) inside sound = nothing_placed made from sound
  statement_placing around made from stmt to (Eval (Some expr)) inside sound = full_placing around made from expr (t.last stmt) to inside sound
  statement_placing around made from stmt to (Block body) inside sound =
      scope_placing around made from (objects_in t body) (λ names. enters names (t.first stmt) ∷ (map Does body ++ leaves names (t.last stmt) ∷ [])) to inside sound
  statement_placing around made from stmt to (If test close one other) inside sound = branch_by around around made from test close (Does one ∷ []) to (other_moves t other) to inside sound
  statement_placing around made from stmt to (While test close body) inside sound =
      let one = head_placing from made from sound in
      then_placing one (branch_by around (in_loop around around from to (stands_at made from)) (with_head from made) from test close (Does body ∷ []) from [] to inside one.sound) (inl refl)
  statement_placing around made from stmt to (Do body test close) inside sound =
      do_by around made from body test close to (stands_at made from) (passes t (t.clause body)) (is_declaration t (t.clause body)) inside sound
  statement_placing around made from stmt to (For first test semicolon next close body) inside sound =
      for_by around (within (named_from (length made.variables) (objects_of t first)) around) made (objects_of t first) (named_from (length made.variables) (objects_of t first)) from stmt first test semicolon next close body
      (after t (enters (named_from (length made.variables) (objects_of t first)) (t.first stmt)) (stands_at made from)) (stands_at made from) (is_at_head t test next body)
      (is_declaration t (t.clause body)) to inside sound
  statement_placing around made from stmt to Break inside sound = break_placing around made from (t.first stmt) around.loop inside sound
  statement_placing around made from stmt to Continue inside sound = continue_placing around made from (t.first stmt) around.loop inside sound
  statement_placing around made from stmt to (Return expr) inside sound = return_placing around made from (t.first stmt) (is_void around.kind) expr inside sound

  -- a level more
  pub move_value : (around : Around) (made : Made) (from : ℕ) (expr : t.Expr) (spare into to : ℕ) → from < made.points → IsSound made →
      IsPlacing made from (place_value t go around made from expr spare into to (t.form expr))
  move_value around made from expr spare into to inside sound = value_by around made from expr spare into to (t.form expr) (is_made t expr (t.form expr)) inside sound

  pub move_work : (around : Around) (made : Made) (from : ℕ) (expr : t.Expr) (spare to : ℕ) → from < made.points → IsSound made → IsPlacing made from (place_work t go around made from expr spare to (t.form expr))
  move_work around made from expr spare to inside sound = work_by around made from expr spare to (t.form expr) (is_void (value_kind t expr)) (is_void (kind_made t expr (t.form expr))) inside sound

  pub move_statement : (around : Around) (made : Made) (from : ℕ) (stmt : t.Stmt) (to : ℕ) → from < made.points → IsSound made → IsPlacing made from (place_statement t go around made from stmt to (t.clause stmt))
  move_statement around made from stmt to inside sound = statement_placing around made from stmt to (t.clause stmt) inside sound

  pub move_initialiser : (around : Around) (made : Made) (from : ℕ) (place : Place) (init : t.Init) (to : ℕ) → from < made.points → IsSound made →
      IsPlacing made from (place_initialiser t go around made from place to (t.initialiser init))
  move_initialiser around made from place init to inside sound = initialiser_placing around made from place to (t.initialiser init) inside sound

  pub move_clears : (around : Around) (made : Made) (from : ℕ) (place : Place) (object : Object) (to : ℕ) → from < made.points → IsSound made →
      IsPlacing made from (along t around (go around) (with_registers 2 made) from (clear_moves (variable_of around (t.token place)) place object.bytes made.registers) to)
  move_clears around made from place object to inside sound =
      let one = registers_placing 2 made from sound in
      then_placing one (along_by around (with_registers 2 made) from (clear_moves (variable_of around (t.token place)) place object.bytes made.registers) to inside one.sound) (inl refl)

  pub move_line : (around : Around) (made : Made) (from : ℕ) (line : Line t) (to : ℕ) → from < made.points → IsSound made → IsPlacing made from (along_line t around (go around) made from line to)
  move_line around made from line to inside sound = line_by around made from line to inside sound

pair_placing : (made : Made) (from : ℕ) (one : Instr) (off : ℕ) (other : Instr) (on : ℕ) (place : Place) → from < made.points → IsSound made →
    IsPlacing made from (emit (emit made from one off place) from other on place)
pair_placing made from one off other on place inside sound =
    let first = emit_placing made from off one place inside sound in
    then_placing first (emit_placing (emit made from one off place) from on other place inside first.sound) (inl refl)

tells_placing : (made : Made) (from register size into : ℕ) (place : Place) (to : ℕ) → from < made.points → IsSound made →
    IsPlacing made from (place_told made from register size into (with_width made.registers size (stands_at made from)) (without_register register (stands_at made from)) place to)
tells_placing made from register size into place to inside sound = told_placing made from register size into (with_width made.registers size (stands_at made from)) (without_register register (stands_at made from)) place to inside sound

pub go_placing : (levels : ℕ) (t : Text) (around : Around) (made : Made) (from : ℕ) (move : Move t) (to : ℕ) → from < made.points → IsSound made →
    IsPlacing made from (go_levels levels t around made from move to)
go_placing zero t around made from (Emits instr place) to inside sound = emit_placing made from to instr place inside sound
go_placing zero t around made from (Pairs one other place) to inside sound = pair_placing made from one to other to place inside sound
go_placing zero t around made from (Parts one off other on place) to inside sound = pair_placing made from one off other on place inside sound
go_placing zero t around made from (Tells register size into place) to inside sound = tells_placing made from register size into place to inside sound
go_placing zero t around made from Stops to inside sound = nothing_placed made from sound
go_placing zero t around made from Fails to inside sound = failed_placing made from sound
go_placing zero t around made from (Evaluates expr spare into) to inside sound = failed_placing made from sound
go_placing zero t around made from (Converts expr kind spare into) to inside sound = failed_placing made from sound
go_placing zero t around made from (Answers expr spare into size) to inside sound = failed_placing made from sound
go_placing zero t around made from (Locates expr spare into) to inside sound = failed_placing made from sound
go_placing zero t around made from (Works expr spare) to inside sound = failed_placing made from sound
go_placing zero t around made from (Asks expr spare off on) to inside sound = failed_placing made from sound
go_placing zero t around made from (Does stmt) to inside sound = failed_placing made from sound
go_placing zero t around made from (Clears place object) to inside sound = failed_placing made from sound
go_placing zero t around made from (Initialises place init) to inside sound = failed_placing made from sound
go_placing (suc levels) t around made from (Emits instr place) to inside sound = emit_placing made from to instr place inside sound
go_placing (suc levels) t around made from (Pairs one other place) to inside sound = pair_placing made from one to other to place inside sound
go_placing (suc levels) t around made from (Parts one off other on place) to inside sound = pair_placing made from one off other on place inside sound
go_placing (suc levels) t around made from (Tells register size into place) to inside sound = tells_placing made from register size into place to inside sound
go_placing (suc levels) t around made from Stops to inside sound = nothing_placed made from sound
go_placing (suc levels) t around made from Fails to inside sound = failed_placing made from sound
go_placing (suc levels) t around made from (Evaluates expr spare into) to inside sound = move_value t (go_levels levels t) (go_placing levels t) around made from expr spare into to inside sound
go_placing (suc levels) t around made from (Converts expr kind spare into) to inside sound =
    move_line t (go_levels levels t) (go_placing levels t) around made from (converted_line t expr spare into made.registers (conversion (value_kind t expr) kind)) to inside sound
go_placing (suc levels) t around made from (Answers expr spare into size) to inside sound =
    answer_placing t around (go_levels levels t around) (go_placing levels t around) made from expr spare into size (with_spares spare (left_of t AsTest expr) (stands_at made from)) to inside sound
go_placing (suc levels) t around made from (Locates expr spare into) to inside sound =
    move_line t (go_levels levels t) (go_placing levels t) around made from (place_line t (variable_of around) expr spare into made.registers (t.form expr)) to inside sound
go_placing (suc levels) t around made from (Works expr spare) to inside sound = move_work t (go_levels levels t) (go_placing levels t) around made from expr spare to inside sound
go_placing (suc levels) t around made from (Asks expr spare off on) to inside sound =
    test_by_form t around (go_levels levels t around) (go_placing levels t around) made from expr spare off on inside sound
go_placing (suc levels) t around made from (Does stmt) to inside sound = move_statement t (go_levels levels t) (go_placing levels t) around made from stmt to inside sound
go_placing (suc levels) t around made from (Clears place object) to inside sound = move_clears t (go_levels levels t) (go_placing levels t) around made from place object to inside sound
go_placing (suc levels) t around made from (Initialises place init) to inside sound = move_initialiser t (go_levels levels t) (go_placing levels t) around made from place init to inside sound
