-- A `for` with the points that it makes leads to where a `for` leads.
use Rattle.std.proofs.Common.{◌≡◌, ℕ, suc, Bool, true, false, List, [], ◌∷◌, length, Option, if◌then◌else◌, refl, ap, ◌∙◌}
use Rattle.cbase.specs.declared.place.Place.{Place}
use Rattle.cbase.specs.declared.tree.expr.Expr.{Expr}
use Rattle.cbase.specs.declared.tree.stmt.Stmt.{Stmt}
use Rattle.c_machine.specs.Program.{Program}
use Rattle.c_machine.specs.Text.{For}
use Rattle.c_machine.specs.Trees.{text_of}
use Rattle.flow.specs.declared.flow_graph.Standing.{Standing}
use Rattle.flow.specs.declared.instruction.Instr.TheVariants as i
use Rattle.simulation.specs.Names.{Name, variables_of}
use Rattle.lower.specs.declared.placing.loops.ForPoints.{ForPoints}
use Rattle.lower.specs.ForPoints.{AreForPoints}
use Rattle.lower.specs.Jobs.{JobOf, LeadsTo, jobs_done}
use Rattle.lower.specs.Pieces.{Stated, piece_made}
use Rattle.lowering.specs.declared.moves.Move.TheVariants.{Does}
use Rattle.lowering.specs.Placing.{Made, Around, along, emit, enters, failed, go, is_at_head, is_declaration, named_from, objects_of, place_for, place_turns, stands_at, unless_declared, with_head, with_objects, with_point, within}
use Rattle.lowering.specs.Placing as placing

-- where there is no graph, there are the same variables
unless_variables : (p : Program) (body : Stmt) (made : Made) → (unless_declared (text_of p) body made).variables ≡ made.variables
unless_variables p body made = at (is_declaration (text_of p) ((text_of p).clause body))
  where
    at : (declared : Bool) → (if declared then failed made else made).variables ≡ made.variables
    at true = refl
    at false = refl

module _ (p : Program) (around : Around) (levels from to : ℕ) (jobs new : List JobOf) (stmt first body : Stmt) (test next : Option Expr) (semicolon close : Place) where
  -- what is made from the points on
  abbrev pub from_points : List Name → Standing → ForPoints → Made → Made
  from_points names standing points made =
      emit (place_turns (text_of p) (go levels (text_of p)) around (within names around)
      (along (text_of p) (within names around) (go levels (text_of p) (within names around)) made from (enters names stmt.place ∷ Does first ∷ []) points.head)
      points.head test semicolon next close body points.again points.out to standing) points.out (i.Leave (variables_of names)) to stmt.place

  abbrev pub whole : List Name → Made → Standing → Standing → Bool → Made
  whole names made entered standing at_head =
      place_for (text_of p) (go levels (text_of p)) around (within names around) made names from stmt first test semicolon next close body entered standing at_head to

  by_points : (names : List Name) (standing inside : Standing) (points : ForPoints) (between after : Made) (at_head : Bool) → AreForPoints at_head inside between points after →
      from_points names standing points after ≡ whole names between inside standing at_head
  by_points names standing inside points between after true are =
      ap (λ (points : ForPoints). from_points names standing points after) are.0
      ∙ ap (λ (made : Made). from_points names standing (record { head = between.points; out = suc between.points; again = between.points }) made) are.1
  by_points names standing inside points between after false are =
      ap (λ (points : ForPoints). from_points names standing points after) are.0
      ∙ ap (λ (made : Made). from_points names standing (record { head = between.points; out = suc between.points; again = suc (suc between.points) }) made) are.1

  pub for_placed : (before made between after : Made) (names : List Name) (standing inside : Standing) (points : ForPoints) (at_head : Bool) →
      standing ≡ stands_at before from → made ≡ unless_declared (text_of p) body before →
      names ≡ named_from (length made.variables) (objects_of (text_of p) first) → between ≡ with_objects false (objects_of (text_of p) first) made →
      at_head ≡ is_at_head (text_of p) test next body → inside ≡ placing.after (text_of p) (enters names stmt.place) standing →
      AreForPoints at_head inside between points after →
      LeadsTo p around jobs (from_points names standing points after) new after →
      LeadsTo p around jobs (piece_made p levels around (Stated from stmt to (For first test semicolon next close body)) before) new after
  for_placed before made between after names standing inside points at_head is_standing is_made is_names is_between is_head is_inside are leads =
      let own : List Name = named_from (length before.variables) (objects_of (text_of p) first) in
      let made_own : Made = with_objects false (objects_of (text_of p) first) (unless_declared (text_of p) body before) in
      let same_names : names ≡ own =
      is_names
      ∙ ap (λ (made : Made). named_from (length made.variables) (objects_of (text_of p) first)) is_made
      ∙ ap (λ (count : ℕ). named_from count (objects_of (text_of p) first)) (ap length (unless_variables p body before)) in
      let same_made : between ≡ made_own = is_between ∙ ap (λ (made : Made). with_objects false (objects_of (text_of p) first) made) is_made in
      let same : from_points names standing points after
      ≡ whole own made_own (placing.after (text_of p) (enters own stmt.place) (stands_at before from)) (stands_at before from) (is_at_head (text_of p) test next body) =
      by_points names standing inside points between after at_head are
      ∙ ap (λ (inside : Standing). whole names between inside standing at_head) is_inside
      ∙ ap (λ (names : List Name). whole names between (placing.after (text_of p) (enters names stmt.place) standing) standing at_head) same_names
      ∙ ap (λ (made : Made). whole own made (placing.after (text_of p) (enters own stmt.place) standing) standing at_head) same_made
      ∙ ap (λ (standing : Standing). whole own made_own (placing.after (text_of p) (enters own stmt.place) standing) standing at_head) is_standing
      ∙ ap (λ (at_head : Bool).
      whole own made_own (placing.after (text_of p) (enters own stmt.place) (stands_at before from)) (stands_at before from) at_head) is_head in
      record { of = leads.of ∙ ap (λ (one : Made). jobs_done p jobs (record { made = one; around = around })) same }
