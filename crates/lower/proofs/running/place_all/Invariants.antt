-- What is left leads to where all leads.
use Rattle.std.proofs.Common.{◌≡◌}
use Rattle.c_machine.specs.Program.{Program}
use Rattle.lower.specs.Around.{around_of}
use Rattle.lower.specs.Built.{made_of}
use Rattle.lower.specs.Jobs.{jobs_done}
use Rattle.lowering.specs.Source.{IsSource}
use Rattle.lower.proofs.running.place_all.Given as goal

abbrev pub invariant-loop-turn : goal.invariant-loop-turn
invariant-loop-turn l = (p : Program) → IsSource l.source p →
    jobs_done p l.jobs (record { made = made_of l.builder; around = around_of l.around })
    ≡ jobs_done p l.fn.jobs (record { made = made_of l.fn.builder; around = around_of l.fn.around })
