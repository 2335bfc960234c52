-- Jobs of blocks and loops lead to where these lead.
use Rattle.std.proofs.Common.{◌≡◌, ℕ, suc, ◌+◌, Bool, true, false, List, [], ◌∷◌, ◌++◌, map, length, Option, None, Some, if◌then◌else◌, refl, sym, ap, subst, ◌∙◌}
use Rattle.cbase.specs.declared.place.Place.{Place}
use Rattle.cbase.specs.declared.tree.expr.Expr.{Expr}
use Rattle.cbase.specs.declared.tree.init.Init.{Init}
use Rattle.cbase.specs.declared.tree.stmt.Stmt.{Stmt}
use Rattle.c_machine.specs.declared.object.Object.{Object}
use Rattle.c_machine.specs.Program.{Program}
use Rattle.c_machine.specs.Text.{Clause}
use Rattle.c_machine.specs.Trees.{text_of}
use Rattle.flow.specs.declared.flow_graph.Standing.{Standing}
use Rattle.flow.specs.declared.instruction.Instr.TheVariants as i
use Rattle.simulation.specs.Names.{Name, variables_of}
use Rattle.lower.specs.declared.jobs.Job.TheVariants.{Branch, Block, Edge, Follow, Full, Unblock, Within}
use Rattle.lower.specs.Jobs.{Going, JobOf, LeadsTo, jobs_done}
use Rattle.lowering.specs.declared.moves.Move.{Move as MoveOf}
use Rattle.lowering.specs.declared.moves.Move.TheVariants.{Does}
use Rattle.lowering.specs.Placing.{Made, Around, Loop, along, branch, emit, failed, is_at_head, is_declaration, passes, unless_declared, enters, go, in_loop, is_break, named_from, place_do, place_do_body, place_next, place_scope, place_turn, place_turns, stands_at, with_head, with_objects, with_point, within}

-- what is asked of one is asked of another that is the same
pub asked : {A : Type 0} (f : A → Bool) (read own : A) (answer told : Bool) → read ≡ own → answer ≡ f read → answer ≡ told → f own ≡ told
asked f read own answer told same is found = ap f (sym same) ∙ sym is ∙ found

-- whether a body is a declaration, and where what is done behind a turn begins
pub declared_fails : (p : Program) (body : Stmt) (before after : Made) (clause : Clause Expr Stmt Init) (answer : Bool) → clause ≡ (text_of p).clause body →
    answer ≡ is_declaration (text_of p) clause → answer ≡ true → after ≡ failed before → after ≡ unless_declared (text_of p) body before
declared_fails p body before after clause answer same is holds fails =
    fails
    ∙ ap (λ (declared : Bool). if declared then failed before else before)
    (sym (asked (is_declaration (text_of p)) clause ((text_of p).clause body) answer true same is holds))

pub not_declared : (p : Program) (body : Stmt) (before : Made) (clause : Clause Expr Stmt Init) (answer : Bool) → clause ≡ (text_of p).clause body →
    answer ≡ is_declaration (text_of p) clause → answer ≡ false → before ≡ unless_declared (text_of p) body before
not_declared p body before clause answer same is fails =
    ap (λ (declared : Bool). if declared then failed before else before)
    (sym (asked (is_declaration (text_of p)) clause ((text_of p).clause body) answer false same is fails))

pub passes_at_head : (p : Program) (test next : Option Expr) (expr : Expr) (body : Stmt) (clause : Clause Expr Stmt Init) (answer : Bool) → test ≡ None → next ≡ Some expr →
    clause ≡ (text_of p).clause body → answer ≡ passes (text_of p) clause → answer ≡ is_at_head (text_of p) test next body
passes_at_head p None (Some own) expr body clause answer none some same is = is ∙ ap (passes (text_of p)) same
passes_at_head p None None expr body clause answer none some same is = absurd cc
passes_at_head p (Some test) next expr body clause answer none some same is = absurd cc

pub made_as : (p : Program) (around : Around) (jobs new : List JobOf) (goal before after : Made) → after ≡ before → LeadsTo p around jobs goal new before →
    LeadsTo p around jobs goal new after
made_as p around jobs new goal before after same leads = subst (λ (made : Made). LeadsTo p around jobs goal new made) (sym same) leads

module _ (p : Program) (around : Around) (levels from to : ℕ) (jobs new : List JobOf) (before after : Made) where
  -- a block
  pub scope_leads : (objects : List Object) (names : List Name) (moves : List Name → List (MoveOf Expr Stmt Init)) (line : List (MoveOf Expr Stmt Init)) →
      names ≡ named_from (length before.variables) objects → after ≡ with_objects false objects before → line ≡ moves names →
      new ≡ Block names ∷ Follow levels from line to ∷ Unblock ∷ jobs →
      LeadsTo p around jobs (place_scope (text_of p) (go levels (text_of p)) around before from objects moves to) new after
  scope_leads objects names moves line is_names is_after is_line is_new = record { of = rw (is_new, is_line, is_names, is_after) refl }

  -- a body within a loop
  pub turn_leads : (turning outside : Option Loop) (body : Stmt) (line : List (MoveOf Expr Stmt Init)) → outside ≡ around.loop → line ≡ Does body ∷ [] →
      new ≡ Within turning ∷ Follow levels from line to ∷ Within outside ∷ jobs →
      LeadsTo p around jobs
      (along (text_of p) (record around { loop = turning }) (go levels (text_of p) (record around { loop = turning })) before from (Does body ∷ []) to) new before
  turn_leads turning outside body line is_outside is_line is_new = record { of = rw (is_new, is_line, is_outside) refl }

  -- a condition whose sides follow, one of them within a loop
  pub branch_job : (test : Expr) (close : Place) (one other front back : List (MoveOf Expr Stmt Init)) (one_to other_to : ℕ) (turning : Option Loop) (inside : Around) →
      inside ≡ record around { loop = turning } → front ≡ one → back ≡ other → new ≡ Branch levels from test close front one_to back other_to turning ∷ jobs →
      LeadsTo p around jobs (branch (text_of p) (go levels (text_of p)) around inside before from test close one one_to other other_to) new before
  branch_job test close one other front back one_to other_to turning inside is_inside is_front is_back is_new =
      let made : List (MoveOf Expr Stmt Init) → List (MoveOf Expr Stmt Init) → Around → Going = λ (one other : List (MoveOf Expr Stmt Init)) (inside : Around).
      jobs_done p jobs (record { made = branch (text_of p) (go levels (text_of p)) around inside before from test close one one_to other other_to; around = around }) in
      record {
        of = ap (λ (jobs : List JobOf). jobs_done p jobs (record { made = before; around = around })) is_new
            ∙ ap (λ (one : List (MoveOf Expr Stmt Init)). made one back (record around { loop = turning })) is_front
            ∙ ap (λ (other : List (MoveOf Expr Stmt Init)). made one other (record around { loop = turning })) is_back
            ∙ ap (λ (inside : Around). made one other inside) (sym is_inside);
      }

  -- what is done behind a turn
  pub nothing_next : (close : Place) → new ≡ jobs →
      LeadsTo p around jobs (place_next (text_of p) (go levels (text_of p)) around before from None close to) new before
  nothing_next close is_new = record { of = rw is_new refl }

  pub full_next : (expr : Expr) (close : Place) → new ≡ Full levels from expr close to ∷ jobs →
      LeadsTo p around jobs (place_next (text_of p) (go levels (text_of p)) around before from (Some expr) close to) new before
  full_next expr close is_new = record { of = rw is_new refl }

-- one behind the other
pub then_leads : (p : Program) (around : Around) (jobs between new : List JobOf) (goal : Made → Made) (middle after : Made) →
    ((made : Made) → LeadsTo p around jobs (goal made) between made) → LeadsTo p around between middle new after → LeadsTo p around jobs (goal middle) new after
then_leads p around jobs between new goal middle after last first = record { of = first.of ∙ (last middle).of }

module _ (p : Program) (around : Around) (levels from to : ℕ) (jobs new : List JobOf) where
  -- a `while`
  pub while_leads : (before after : Made) (test : Expr) (close : Place) (body : Stmt) (front back : List (MoveOf Expr Stmt Init)) (turning : Option Loop) (standing : Standing) →
      standing ≡ stands_at before from → after ≡ with_head from before → front ≡ Does body ∷ [] → back ≡ [] →
      in_loop around around from to standing ≡ record around { loop = turning } →
      new ≡ Branch levels from test close front from back to turning ∷ jobs →
      LeadsTo p around jobs
      (branch (text_of p) (go levels (text_of p)) around (in_loop around around from to (stands_at before from)) (with_head from before) from test close
      (Does body ∷ []) from [] to) new after
  while_leads before after test close body front back turning standing is_standing is_after is_front is_back is_inside is_new =
      made_as p around jobs new _ (with_head from before) after is_after
      (branch_job p around levels from to jobs new (with_head from before) after test close (Does body ∷ []) [] front back from to turning
      (in_loop around around from to (stands_at before from))
      (ap (λ (standing : Standing). in_loop around around from to standing) (sym is_standing) ∙ is_inside) is_front is_back is_new)

  -- a `do` whose body has no edge, and one whose body has edges
  pub do_passes : (before after : Made) (body : Stmt) (test : Expr) (close : Place) (standing : Standing) (through : Bool) → after ≡ before → through ≡ true →
      new ≡ Branch levels from test close [] from [] to around.loop ∷ jobs →
      LeadsTo p around jobs (place_do (text_of p) (go levels (text_of p)) around before from body test close to standing through) new after
  do_passes before after body test close standing true same holds is_new =
      made_as p around jobs new _ before after same
      (branch_job p around levels from to jobs new before after test close [] [] [] [] from to around.loop around refl refl refl is_new)
  do_passes before after body test close standing false same holds is_new = absurd cc

  pub do_goes : (before own after : Made) (body : Stmt) (test : Expr) (close : Place) (standing held copy : Standing) (through : Bool) (point : ℕ) (between : List JobOf) →
      own ≡ before → held ≡ standing → copy ≡ held → through ≡ false → point ≡ own.points → after ≡ with_point copy own →
      between ≡ Branch levels point test close [] from [] to around.loop ∷ jobs →
      ((made : Made) → LeadsTo p around between
      (place_do_body (text_of p) (go levels (text_of p)) (in_loop around around point to held) made from body point to
      (is_break (text_of p) ((text_of p).clause body))) new made) →
      LeadsTo p around jobs (place_do (text_of p) (go levels (text_of p)) around before from body test close to standing through) new after
  do_goes before own after body test close standing held copy true point between is_own is_held is_copy fails is_point is_after is_between leads = absurd cc
  do_goes before own after body test close standing held copy false point between is_own is_held is_copy fails is_point is_after is_between leads =
      record { of = (leads after).of ∙ rw (is_between, is_after, is_point, is_copy, is_held, is_own) refl }

  -- the body of a `do`: a `break`, and another one
  pub do_breaks : (made : Made) (body : Stmt) (again : ℕ) (inside : Around) (ends : Bool) (none : List ℕ) → none ≡ [] → ends ≡ true →
      new ≡ Edge from (i.Enter none) to body.place ∷ jobs →
      LeadsTo p around jobs (place_do_body (text_of p) (go levels (text_of p)) inside made from body again to ends) new made
  do_breaks made body again inside true none empty holds is_new = record { of = rw (is_new, empty) refl }
  do_breaks made body again inside false none empty holds is_new = absurd cc

  pub do_turns : (made : Made) (body : Stmt) (again : ℕ) (inside : Around) (turning : Option Loop) (ends : Bool) → inside ≡ record around { loop = turning } → ends ≡ false →
      LeadsTo p around jobs
      (along (text_of p) (record around { loop = turning }) (go levels (text_of p) (record around { loop = turning })) made from (Does body ∷ []) again) new made →
      LeadsTo p around jobs (place_do_body (text_of p) (go levels (text_of p)) inside made from body again to ends) new made
  do_turns made body again inside turning true is_inside fails leads = absurd cc
  do_turns made body again inside turning false is_inside fails leads =
      subst (λ (inside : Around). LeadsTo p around jobs (along (text_of p) inside (go levels (text_of p) inside) made from (Does body ∷ []) again) new made)
      (sym is_inside) leads

  -- a `for` with its points and objects
  pub for_leads : (made : Made) (names : List Name) (variables : List ℕ) (word semicolon close : Place) (first body : Stmt) (test next : Option Expr) (head again out : ℕ)
      (standing : Standing) (turning outside : Option Loop) (left behind turned : List JobOf) →
      variables ≡ variables_of names → left ≡ Edge out (i.Leave variables) to word ∷ Unblock ∷ jobs →
      ((around : Around) (made : Made) →
      LeadsTo p around left (place_next (text_of p) (go levels (text_of p)) around made again next close head) behind made) →
      in_loop around (within names around) again to standing ≡ record (within names around) { loop = turning } →
      ((around : Around) (made : Made) → around.loop ≡ outside →
      LeadsTo p around behind (place_turn (text_of p) (go levels (text_of p)) around (record around { loop = turning }) made head test semicolon body again out) turned made) →
      outside ≡ around.loop →
      new ≡ Block names ∷ Follow levels from (enters names word ∷ Does first ∷ []) head ∷ turned →
      LeadsTo p around jobs
      (emit (place_turns (text_of p) (go levels (text_of p)) around (within names around)
      (along (text_of p) (within names around) (go levels (text_of p) (within names around)) made from (enters names word ∷ Does first ∷ []) head)
      head test semicolon next close body again out to standing) out (i.Leave (variables_of names)) to word) new made
  for_leads made names variables word semicolon close first body test next head again out standing turning outside left behind turned
      is_variables is_left next_leads is_inside turn_leads is_outside is_new =
      let inside : Around = within names around in
      let one : Made = along (text_of p) inside (go levels (text_of p) inside) made from (enters names word ∷ Does first ∷ []) head in
      let two : Around → Made = λ (turned : Around). place_turn (text_of p) (go levels (text_of p)) inside turned one head test semicolon body again out in
      let three : Around → Made = λ (turned : Around). place_next (text_of p) (go levels (text_of p)) inside (two turned) again next close head in
      record {
        of = ap (λ (jobs : List JobOf). jobs_done p jobs (record { made = made; around = around })) is_new
            ∙ (turn_leads inside one (sym is_outside)).of
            ∙ (next_leads inside (two (record inside { loop = turning }))).of
            ∙ ap (λ (jobs : List JobOf). jobs_done p jobs (record { made = three (record inside { loop = turning }); around = inside })) is_left
            ∙ ap (λ (variables : List ℕ). jobs_done p jobs
            (record { made = emit (three (record inside { loop = turning })) out (i.Leave variables) to word; around = around })) is_variables
            ∙ ap (λ (turned : Around). jobs_done p jobs
            (record { made = emit (three turned) out (i.Leave (variables_of names)) to word; around = around })) (sym is_inside);
      }
