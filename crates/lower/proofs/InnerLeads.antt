-- The jobs of a statement expression lead to where its block leads.
use Rattle.std.proofs.Common.{◌≡◌, ℕ, false, List, [], ◌∷◌, ◌++◌, length, refl, ap, ◌∙◌}
use Rattle.cbase.specs.declared.place.Place.{Place}
use Rattle.cbase.specs.declared.tree.expr.Expr.{Expr}
use Rattle.cbase.specs.declared.tree.init.Init.{Init}
use Rattle.cbase.specs.declared.tree.stmt.Stmt.{Stmt}
use Rattle.c_machine.specs.declared.object.Object.{Object}
use Rattle.c_machine.specs.Program.{Program}
use Rattle.c_machine.specs.Trees.{text_of}
use Rattle.simulation.specs.Names.{Name}
use Rattle.lower.specs.declared.jobs.Job.TheVariants.{Block, Follow, Unblock}
use Rattle.lower.specs.Jobs.{JobOf, LeadsTo, inner_left, jobs_done}
use Rattle.lowering.specs.declared.moves.Move.{Move as MoveOf}
use Rattle.lowering.specs.Placing.{Made, Around, along, enters, go, leaves, left_at_end, named_from, objects_in, place_inner, valued_moves, with_objects, with_registers, within}
use Rattle.lowering.specs.Table.{last_of}

pub inner_leads : (p : Program) (around : Around) (levels from : ℕ) (expr : Expr) (body : List Stmt) (close : Place) (into to : ℕ) (jobs new : List JobOf) (before middle after : Made)
    (count spare : ℕ) (names : List Name) (none one two three : List (MoveOf Expr Stmt Init)) →
    count ≡ left_at_end (text_of p) (last_of (text_of p) body) → spare ≡ before.registers → middle ≡ with_registers count before →
    (names ≡ named_from (length middle.variables) (objects_in (text_of p) body)) × (after ≡ with_objects false (objects_in (text_of p) body) middle) →
    none ≡ [] → one ≡ leaves names close ∷ none → two ≡ valued_moves (text_of p) spare count into body ++ one → three ≡ enters names expr.place ∷ two →
    new ≡ Block names ∷ Follow levels from three to ∷ Unblock ∷ jobs →
    LeadsTo p around jobs (place_inner (text_of p) (go levels (text_of p)) around before from expr body close into to) new after
inner_leads p around levels from expr body close into to jobs new before middle after count spare names none one two three is_count is_spare is_middle named is_none is_one is_two is_three is_new =
    let again : record (within names around) { scopes = inner_left (within names around).scopes } ≡ around = refl in
    let objects : List Object = objects_in (text_of p) body in
    let g : List Name → Made → ℕ → ℕ → Made = λ (names : List Name) (made : Made) (spare count : ℕ).
    along (text_of p) (within names around) (go levels (text_of p) (within names around)) made from
    (enters names expr.place ∷ (valued_moves (text_of p) spare count into body ++ leaves names close ∷ [])) to in
    let named_in : Made → List Name = λ (middle : Made). named_from (length middle.variables) objects in
    let line : three ≡ enters names expr.place ∷ (valued_moves (text_of p) spare count into body ++ leaves names close ∷ []) =
    is_three ∙ ap (λ (moves : List (MoveOf Expr Stmt Init)). enters names expr.place ∷ moves)
    (is_two ∙ ap (λ (moves : List (MoveOf Expr Stmt Init)). valued_moves (text_of p) spare count into body ++ moves)
    (is_one ∙ ap (λ (moves : List (MoveOf Expr Stmt Init)). leaves names close ∷ moves) is_none)) in
    let same : along (text_of p) (within names around) (go levels (text_of p) (within names around)) after from three to
    ≡ place_inner (text_of p) (go levels (text_of p)) around before from expr body close into to =
    ap (λ (moves : List (MoveOf Expr Stmt Init)). along (text_of p) (within names around) (go levels (text_of p) (within names around)) after from moves to) line
    ∙ ap (λ (names : List Name). g names after spare count) named.0
    ∙ ap (λ (made : Made). g (named_in middle) made spare count) named.1
    ∙ ap (λ (middle : Made). g (named_in middle) (with_objects false objects middle) spare count) is_middle
    ∙ ap (λ (spare : ℕ). g (named_in (with_registers count before)) (with_objects false objects (with_registers count before)) spare count) is_spare
    ∙ ap (λ (count : ℕ). g (named_in (with_registers count before)) (with_objects false objects (with_registers count before)) before.registers count) is_count in
    record {
      of = ap (λ (new : List JobOf). jobs_done p new (record { made = after; around = around })) is_new
          ∙ ap (λ (behind : Around). jobs_done p jobs (record { made = along (text_of p) (within names around) (go levels (text_of p) (within names around)) after from three to; around = behind })) again
          ∙ ap (λ (made : Made). jobs_done p jobs (record { made = made; around = around })) same;
    }
