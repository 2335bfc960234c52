-- The first of some moves is placed, and then those behind it.
use Rattle.std.proofs.Common.{◌≡◌, ℕ, List, [], ◌∷◌, Option, refl, ap, ◌∙◌}
use Rattle.cbase.specs.declared.tree.expr.Expr.{Expr}
use Rattle.cbase.specs.declared.tree.init.Init.{Init}
use Rattle.cbase.specs.declared.tree.stmt.Stmt.{Stmt}
use Rattle.c_machine.specs.Program.{Program}
use Rattle.c_machine.specs.Trees.{text_of}
use Rattle.flow.specs.declared.flow_graph.Standing.{Standing}
use Rattle.lower.specs.declared.placing.ways.Way.{Way as Told}
use Rattle.lower.specs.Jobs.{JobOf, LeadsTo, jobs_done}
use Rattle.lowering.specs.declared.moves.Move.{Move as MoveOf}
use Rattle.lowering.specs.Placing.{Made, Around, after, along_at, along_from, begins, go, way_of}
use Rattle.lower.specs.Ways.{begin_in, way_in}

module _ (p : Program) (around : Around) (levels from to : ℕ) (jobs new : List JobOf) (before behind : Made) (standing next : Standing) (all : List (MoveOf Expr Stmt Init)) where
  pub no_moves : all ≡ [] →
      LeadsTo p around jobs (along_at (text_of p) around (go levels (text_of p) around) before from standing all to) jobs before
  no_moves none = record { of = rw none refl }

  pub first_move : (through : MoveOf Expr Stmt Init) (moves : List (MoveOf Expr Stmt Init)) (way : Told) (begin : Option ℕ) → all ≡ through ∷ moves →
      way_in way ≡ way_of (text_of p) around standing through → next ≡ after (text_of p) through standing →
      begin_in begin ≡ begins (text_of p) around next moves to →
      LeadsTo p around jobs
      (along_from (text_of p) (λ made point. along_at (text_of p) around (go levels (text_of p) around) made point next moves to)
      (go levels (text_of p) around) before from through next (way_in way) (begin_in begin)) new behind →
      LeadsTo p around jobs (along_at (text_of p) around (go levels (text_of p) around) before from standing all to) new behind
  first_move through moves way begin is_all is_way is_next is_begin leads =
      let same : along_from (text_of p) (λ made point. along_at (text_of p) around (go levels (text_of p) around) made point next moves to)
      (go levels (text_of p) around) before from through next (way_in way) (begin_in begin)
      ≡ along_at (text_of p) around (go levels (text_of p) around) before from standing all to =
      rw (is_all, is_begin, is_way, is_next) refl in
      record { of = leads.of ∙ ap (λ (one : Made). jobs_done p jobs (record { made = one; around = around })) same }
