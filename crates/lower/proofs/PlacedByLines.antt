-- Lines of moves that are placed next.
use Rattle.std.proofs.Common.{◌≡◌, ℕ, List, [], ◌∷◌, ◌++◌, append-nil, refl}
use Rattle.cbase.specs.declared.tree.expr.Expr.{Expr}
use Rattle.cbase.specs.declared.tree.init.Init.{Init}
use Rattle.cbase.specs.declared.tree.stmt.Stmt.{Stmt}
use Rattle.c_machine.specs.Program.{Program}
use Rattle.c_machine.specs.Text.{Form}
use Rattle.c_machine.specs.Trees.{text_of}
use Rattle.lower.specs.declared.jobs.Job.TheVariants.{Follow}
use Rattle.lower.specs.Jobs.{JobOf, LeadsTo}
use Rattle.lower.specs.Pieces.{PlacesAll, LineOfValue, LineOfWork}
use Rattle.lowering.specs.declared.moves.Move.{Move as MoveOf}
use Rattle.lowering.specs.Moves.{LineOf, taking}
use Rattle.lowering.specs.Placing.{Made, Around, along_line, go}
use Rattle.lowering.specs.Reading.{IsValueLine, IsWorkLine}
use Rattle.lowering.specs.Source.{Source}
use Rattle.lowering.specs.Table.{value_line, work_line}
use Rattle.lowering.specs.Told.{IsLine}

-- a line whose registers are taken
module _ (p : Program) (around : Around) (levels from to : ℕ) (jobs new : List JobOf) (before : Made) where
  pub line_leads : (line : LineOf Expr Stmt Init) (taken : ℕ) (none moves : List (MoveOf Expr Stmt Init)) → none ≡ [] → IsLine line before.registers taken none moves →
      new ≡ Follow levels from moves to ∷ jobs →
      LeadsTo p around jobs (along_line (text_of p) around (go levels (text_of p) around) before from line to) new (record before { registers = taken })
  line_leads line taken none moves empty is first = record { of = rw (first, is.1, empty, append-nil line.moves, is.0) refl }

  -- one in front of moves that were there
  pub line_before : (count taken : ℕ) (own behind none one moves : List (MoveOf Expr Stmt Init)) → none ≡ [] → one ≡ behind ++ none →
      IsLine (taking count own) before.registers taken one moves → new ≡ Follow levels from moves to ∷ jobs →
      LeadsTo p around jobs (along_line (text_of p) around (go levels (text_of p) around) before from (taking count (own ++ behind)) to) new (record before { registers = taken })
  line_before count taken own behind none one moves empty is_one is first = record { of = rw (first, is.1, is_one, empty, append-nil behind, is.0) refl }

-- those of values, and of expressions whose value is not used
module _ (source : Source) (levels from : ℕ) (expr : Expr) (spare to : ℕ) (form : Form Expr Stmt) (jobs new : List JobOf) (before : Made) (taken : ℕ)
    (none moves : List (MoveOf Expr Stmt Init)) (empty : none ≡ []) (is_new : new ≡ Follow levels from moves to ∷ jobs) where
  pub value_follows : (into : ℕ) → IsValueLine source expr spare into form before.registers taken none moves →
      PlacesAll source levels (LineOfValue from expr spare into to form) jobs new before (record before { registers = taken })
  value_follows into line = record {
    of = λ p around reads.
        line_leads p around levels from to jobs new before (value_line (text_of p) expr spare into before.registers form) taken none moves empty (line.of p reads) is_new;
  }

  pub work_follows : IsWorkLine source expr spare form before.registers taken none moves →
      PlacesAll source levels (LineOfWork from expr spare to form) jobs new before (record before { registers = taken })
  work_follows line = record {
    of = λ p around reads.
        line_leads p around levels from to jobs new before (work_line (text_of p) expr spare before.registers form) taken none moves empty (line.of p reads) is_new;
  }
