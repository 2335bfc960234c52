use Rattle.std.proofs.Common.{◌≡◌, Some}
use Rattle.std.specs.Prelude.{IsTrue}
use Rattle.std.specs.List.{AllWithin}
use Rattle.flow.specs.Valid.{is_close, exit_of}
use Rattle.flow.proofs.well_formed.closes_at_exit.Given as goal

abbrev pub invariant-loop-edge : goal.invariant-loop-edge
invariant-loop-edge l =
    AllWithin (λ edge. IsTrue (is_close edge.instr) → exit_of l.flow l.flow.main ≡ Some edge.to) l.flow.edges 0 l.edge-index
