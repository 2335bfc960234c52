-- Jobs that stand in front of others lead to where the form leads that they stand for.
use Rattle.std.proofs.Common.{◌≡◌, ℕ, suc, ◌+◌, List, [], ◌∷◌, ◌++◌, append-nil, Option, None, Some, Result, Ok, Err, OnOk, add-one, refl, ap, ◌∙◌}
use Rattle.cbase.specs.declared.tree.expr.Expr.{Expr}
use Rattle.cbase.specs.declared.tree.init.Init.{Init}
use Rattle.cbase.specs.declared.tree.stmt.Stmt.{Stmt}
use Rattle.c_machine.specs.Program.{Program}
use Rattle.c_machine.specs.Trees.{text_of}
use Rattle.flow.specs.declared.instruction.Instr.TheVariants as i
use Rattle.flow.specs.declared.flow_graph.Standing.{Standing}
use Rattle.cbase.specs.declared.place.Place.{Place}
use Rattle.lowering.specs.declared.moves.Move.{Move as MoveOf}
use Rattle.lowering.specs.declared.moves.Move.TheVariants.{Asks, Emits}
use Rattle.lowering.specs.Moves.{run_of}
use Rattle.lower.specs.declared.jobs.Job.TheVariants.{Along, Follow, Go, Edge, Branch, Within}
use Rattle.lower.specs.Jobs.{JobOf, LeadsTo, jobs_done}
use Rattle.lowering.specs.Placing.{Made, Around, Idle, Leads, Goes, along, along_at, along_from, branch, go, place_answer, place_branch, stands_at, with_point, with_registers, with_spares, Loop}
use Rattle.lower.specs.Ways.{begin_in, BeginsAt}

pub then_ok : {A E : Type 0} (P Q : Type 0) (result : Result A E) → (P → Q) → OnOk result P → OnOk result Q
then_ok P Q (Ok value) onward is = onward is
then_ok P Q (Err error) onward is = tt

-- the loop that stands around
same_around : (around : Around) → record around { loop = around.loop } ≡ around
same_around around = refl

module _ (p : Program) (around : Around) (levels from to : ℕ) (jobs : List JobOf) where
  -- a condition as a number
  pub answer_leads : (expr : Expr) (spare into size off on : ℕ) (standing : Standing) (one two new : List JobOf) (before after : Made) →
      off ≡ before.points → on ≡ off + 1 → after ≡ with_point standing (with_point standing before) →
      one ≡ Edge off (i.Number into 0 size) to expr.place ∷ jobs → two ≡ Edge on (i.Number into 1 size) to expr.place ∷ one →
      new ≡ Go levels from (Asks expr spare off on) to ∷ two →
      LeadsTo p around jobs (place_answer (text_of p) (go levels (text_of p) around) before from expr spare into size standing to) new after
  answer_leads expr spare into size off on standing one two new before after is_off is_on is_after first second third =
      let next : on ≡ suc before.points = is_on ∙ ap (λ (n : ℕ). n + 1) is_off ∙ add-one before.points in
      record { of = rw (third, second, first, is_after, next, is_off) refl }

  -- a condition with what follows on each side
  pub branch_leads : (test : Expr) (count first off on : ℕ) (close : Place) (one other front back : List (MoveOf Expr Stmt Init)) (one_to other_to : ℕ) (turning outside : Option Loop)
      (new : List JobOf) (before after : Made) → outside ≡ around.loop → first ≡ before.registers → off ≡ before.points → on ≡ off + 1 →
      after ≡ with_registers count (with_point (with_spares first count (stands_at before from)) (with_point (with_spares first count (stands_at before from)) before)) →
      front ≡ Emits (i.Finish (run_of first count)) close ∷ one → back ≡ Emits (i.Finish (run_of first count)) close ∷ other →
      new ≡ Go levels from (Asks test first off on) from ∷ Within turning ∷ Follow levels on front one_to ∷ Within outside ∷ Follow levels off back other_to ∷ jobs →
      LeadsTo p around jobs
      (place_branch (text_of p) (go levels (text_of p)) around (record around { loop = turning }) before from test count close one one_to other other_to) new after
  branch_leads test count first off on close one other front back one_to other_to turning outside new before after loop is_first is_off is_on is_after is_front is_back is_new =
      let next : on ≡ suc before.points = is_on ∙ ap (λ (n : ℕ). n + 1) is_off ∙ add-one before.points in
      let inside : Around = record around { loop = turning } in
      let tested : Made = go levels (text_of p) around after from (Asks test first off on) from in
      let turned : Made = along (text_of p) inside (go levels (text_of p) inside) tested on front one_to in
      let both : along (text_of p) around (go levels (text_of p) around) turned off back other_to
      ≡ place_branch (text_of p) (go levels (text_of p)) around inside before from test count close one one_to other other_to =
      rw (is_front, is_back, is_after, next, is_off, is_first) refl in
      let outer : record inside { loop = outside } ≡ around = ap (λ (one : Option Loop). record inside { loop = one }) loop ∙ same_around around in
      record {
        of = ap (λ (new : List JobOf). jobs_done p new (record { made = after; around = around })) is_new
            ∙ ap (λ (behind : Around). jobs_done p jobs (record { made = along (text_of p) behind (go levels (text_of p) behind) turned off back other_to; around = behind })) outer
            ∙ ap (λ (made : Made). jobs_done p jobs (record { made = made; around = around })) both;
      }

  -- the same as a job, where the loop around is that of both sides
  pub if_leads : (test : Expr) (close : Place) (one other front back none : List (MoveOf Expr Stmt Init)) (one_to other_to : ℕ) (turning : Option Loop) (new : List JobOf) (made : Made) →
      turning ≡ around.loop → none ≡ [] → front ≡ one → back ≡ other ++ none → new ≡ Branch levels from test close front one_to back other_to turning ∷ jobs →
      LeadsTo p around jobs (branch (text_of p) (go levels (text_of p)) around around made from test close one one_to other other_to) new made
  if_leads test close one other front back none one_to other_to turning new made is_turning is_none is_front is_back is_new =
      let moves : List (MoveOf Expr Stmt Init) → List (MoveOf Expr Stmt Init) → Option Loop → Made = λ (front back : List (MoveOf Expr Stmt Init)) (turning : Option Loop).
      branch (text_of p) (go levels (text_of p)) around (record around { loop = turning }) made from test close front one_to back other_to in
      record {
        of = ap (λ (new : List JobOf). jobs_done p new (record { made = made; around = around })) is_new
            ∙ ap (λ (made : Made). jobs_done p jobs (record { made = made; around = around }))
            (ap (moves front back) is_turning
            ∙ ap (λ (front : List (MoveOf Expr Stmt Init)). moves front back around.loop) is_front
            ∙ ap (λ (back : List (MoveOf Expr Stmt Init)). moves one back around.loop) (is_back ∙ ap (λ (none : List (MoveOf Expr Stmt Init)). other ++ none) is_none ∙ append-nil other));
      }

  -- moves one behind the other
  module _ (through : MoveOf Expr Stmt Init) (standing : Standing) (moves : List (MoveOf Expr Stmt Init)) where
    pub idle_leads : (begin : Option ℕ) (new : List JobOf) (before : Made) → new ≡ Along levels from standing moves to ∷ jobs →
        LeadsTo p around jobs
        (along_from (text_of p) (λ made point. along_at (text_of p) around (go levels (text_of p) around) made point standing moves to)
        (go levels (text_of p) around) before from through standing Idle (begin_in begin)) new before
    idle_leads begin new before first = record { of = rw first refl }

    pub leads_leads : (at : ℕ) (begin : Option ℕ) (point : ℕ) (new : List JobOf) (before after : Made) → BeginsAt begin standing point before after →
        new ≡ Along levels point standing moves to ∷ jobs →
        LeadsTo p around jobs
        (along_from (text_of p) (λ made point. along_at (text_of p) around (go levels (text_of p) around) made point standing moves to)
        (go levels (text_of p) around) before from through standing (Leads at) (begin_in begin)) new after
    leads_leads at None point new before after begins first = record { of = rw (first, begins.1, begins.0) refl }
    leads_leads at (Some there) point new before after begins first = record { of = rw (first, begins.1, begins.0) refl }

    pub goes_leads : (begin : Option ℕ) (point : ℕ) (one new : List JobOf) (before after : Made) → BeginsAt begin standing point before after →
        one ≡ Along levels point standing moves to ∷ jobs → new ≡ Go levels from through point ∷ one →
        LeadsTo p around jobs
        (along_from (text_of p) (λ made point. along_at (text_of p) around (go levels (text_of p) around) made point standing moves to)
        (go levels (text_of p) around) before from through standing Goes (begin_in begin)) new after
    goes_leads None point one new before after begins first second = record { of = rw (second, first, begins.1, begins.0) refl }
    goes_leads (Some there) point one new before after begins first second = record { of = rw (second, first, begins.1, begins.0) refl }
