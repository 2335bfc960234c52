-- A move is placed within some levels, or within none.
use Rattle.std.proofs.Common.{◌≡◌, ℕ, suc, List, sym, ap, ◌∙◌}
use Rattle.cbase.specs.declared.tree.expr.Expr.{Expr}
use Rattle.cbase.specs.declared.tree.init.Init.{Init}
use Rattle.cbase.specs.declared.tree.stmt.Stmt.{Stmt}
use Rattle.c_machine.specs.Program.{Program}
use Rattle.c_machine.specs.Trees.{text_of}
use Rattle.lower.specs.Jobs.{JobOf, LeadsTo}
use Rattle.lower.specs.Pieces.{Places, Through}
use Rattle.lowering.specs.declared.moves.Move.{Move as MoveOf}
use Rattle.lowering.specs.Placing.{Made, Around, go}
use Rattle.lowering.specs.Source.{Source, IsSource}
use Rattle.lower.proofs.PiecesPlaced.{leads_as, made_leads}

module _ (p : Program) (around : Around) (levels from to : ℕ) (move : MoveOf Expr Stmt Init) (jobs new : List JobOf) (before after : Made) where
  pub without_levels : levels ≡ 0 → after ≡ go 0 (text_of p) around before from move to → LeadsTo p around jobs (go levels (text_of p) around before from move to) jobs after
  without_levels none is =
      made_leads p around jobs (go levels (text_of p) around before from move to) after (is ∙ ap (λ (levels : ℕ). go levels (text_of p) around before from move to) (sym none))

  pub with_levels : (source : Source) (fewer : ℕ) → levels ≡ suc fewer → Places source around fewer (Through from move to) jobs new before after → IsSource source p →
      LeadsTo p around jobs (go levels (text_of p) around before from move to) new after
  with_levels source fewer is places reads =
      leads_as p around jobs new (go (suc fewer) (text_of p) around before from move to) (go levels (text_of p) around before from move to) after
      (ap (λ (levels : ℕ). go levels (text_of p) around before from move to) (sym is)) (places.of p reads)
