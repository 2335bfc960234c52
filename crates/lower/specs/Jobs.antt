-- What is still to be placed: jobs, one behind the other.
use Rattle.std.specs.Prelude.{◌≡◌, ℕ, List, [], ◌∷◌}
use Rattle.cbase.specs.declared.tree.expr.Expr.{Expr}
use Rattle.cbase.specs.declared.tree.init.Init.{Init}
use Rattle.cbase.specs.declared.tree.stmt.Stmt.{Stmt}
use Rattle.c_machine.specs.Program.{Program}
use Rattle.c_machine.specs.Trees.{text_of}
use Rattle.simulation.specs.Names.{Name}
use Rattle.lower.specs.declared.jobs.Job.{Job}
use Rattle.lower.specs.declared.jobs.Job.TheVariants.{Along, Follow, Go, Edge, Branch, Full, Block, Unblock, Within}
use Rattle.lowering.specs.Placing.{Made, Around, emit, within, along, along_at, branch, place_full, go}

abbrev pub JobOf : Type 0
JobOf = Job Expr Stmt Init

-- what is made, and what stands around
pub record Going : Type 0 where
  pub made : Made
  pub around : Around

abbrev pub inner_left : List (List Name) → List (List Name)
inner_left [] = []
inner_left (scope ∷ scopes) = scopes

-- a job
abbrev pub job_done : (p : Program) → JobOf → Going → Going
job_done p (Along levels from standing moves to) going =
    record going { made = along_at (text_of p) going.around (go levels (text_of p) going.around) going.made from standing moves to }
job_done p (Follow levels from moves to) going =
    record going { made = along (text_of p) going.around (go levels (text_of p) going.around) going.made from moves to }
job_done p (Go levels from move to) going = record going { made = go levels (text_of p) going.around going.made from move to }
job_done p (Edge from instr to place) going = record going { made = emit going.made from instr to place }
job_done p (Branch levels from test close one one_to other other_to turning) going = record going {
  made = branch (text_of p) (go levels (text_of p)) going.around (record going.around { loop = turning }) going.made from test close one one_to
      other other_to;
}
job_done p (Full levels from expr end to) going = record going { made = place_full (text_of p) (go levels (text_of p)) going.around going.made from expr end to }
job_done p (Block names) going = record going { around = within names going.around }
job_done p Unblock going = record going { around = record going.around { scopes = inner_left going.around.scopes } }
job_done p (Within loop) going = record going { around = record going.around { loop = loop } }

-- jobs one behind the other
abbrev pub jobs_done : (p : Program) → List JobOf → Going → Going
jobs_done p [] going = going
jobs_done p (job ∷ jobs) going = jobs_done p jobs (job_done p job going)

-- what is made leads, with what is still to be done, to where something else leads with what was to be done before
pub record LeadsTo (p : Program) (around : Around) (before : List JobOf) (goal : Made) (after : List JobOf) (made : Made) : Type 0 where
  pub of : jobs_done p after (record { made = made; around = around }) ≡ jobs_done p before (record { made = goal; around = around })
